-- What lies in the post or in a box, and what the book and the desk tell of a transaction, remains while others come and go.
use Rattle.std.specs.Prelude.{◌≡◌, refl, ℕ, ◌==◌, is_some, Bool, true, false, not, ◌&&◌, ◌||◌, if◌then◌else◌, Option, Some, None, List, [], ◌∷◌, ◌++◌, map, filter, find}
use Rattle.std.specs.List.{list_any}
use Rattle.std.proofs.Common.{sym, ap, ◌∙◌}
use Rattle.std.proofs.lemmas.Bool.{eqb-true, true≢false, and_right, or_from}
use Rattle.snap_base.specs.declared.transactions.TxResult.{TxResult}
use Rattle.snap_base.proofs.Booleans.{eqb_turned}
use Rattle.protocol.specs.Fixed.{Fixed, Next, Go, Ended}
use Rattle.protocol.specs.Parts.{Pact, Batch, Outcome, Entry, Machine}
use Rattle.protocol.specs.Events.{Event, Form, Admit, Arrive, Ask, Take, Run, Send, End, Rollback, DropControl, Finish, Trim}
use Rattle.protocol.specs.Words.{holds, has_act, is_act_entry, is_entry_of, control_of, outcome_of, names_pact, pact_result, result_among}
use Rattle.protocol.specs.Conditions.{cell_is, waits_in, is_new_to, is_not_doomed}
use Rattle.protocol.specs.Effects.{after, cell_at}
use Rattle.protocol.specs.OnDesk as desk
use Rattle.protocol.specs.OnCell as cell
use Rattle.protocol_laws.proofs.first.Lists.{some_held}
use Rattle.protocol_ready.specs.Touched.{is_abort}
use Rattle.protocol_ready.specs.Refusing.{is_at, taken_by, handed_on_by, left_by, cut_by, rolled_back_by, spreads}
use Rattle.protocol_ready.proofs.Standing.{own_stays}
use Rattle.protocol_ready.proofs.TouchedParts.{find_filter, put_went, control_stays, inbox_stays, outbox_stays, has_act_stays}
use Rattle.protocol_ready.proofs.TouchedActs.{doom_test}
use Rattle.protocol_ready.proofs.TouchedBatches.{names_kept, result_stays}

-- what is found is found before what comes behind
pub found_first : {X : Type 0} (meant : X → Bool) (xs more : List X) → is_some (find meant xs) ≡ true → find meant (xs ++ more) ≡ find meant xs
found_first meant [] more h = absurd (true≢false (sym h))
found_first meant (x ∷ xs) more h = by (meant x) h (found_first meant xs more)
  where
    by : (b : Bool) → is_some (if b then Some x else find meant xs) ≡ true → (is_some (find meant xs) ≡ true → find meant (xs ++ more) ≡ find meant xs)
        → (if b then Some x else find meant (xs ++ more)) ≡ (if b then Some x else find meant xs)
    by true i r = refl
    by false i r = r i

-- ---- in the post

pub control_went : {C : Type 0} (w : Fixed C) (e : Event) (s : Machine C) (t : ℕ) → is_at t (taken_by e) ≡ false → is_some (control_of t s.post.controls) ≡ true → control_of t (after w e s).post.controls ≡ control_of t s.post.controls
unfolding after
control_went w (Form k) s t h = found_first (λ m. m.tid == t) s.post.controls _
control_went w (Admit u) s t h = found_first (λ m. m.tid == t) s.post.controls _
control_went w (Send u a) s t h = found_first (λ m. m.tid == t) s.post.controls _
control_went w (Ask u a) s t h = λ i. control_stays w (Ask u a) s t h
control_went w (Take u a) s t h = λ i. control_stays w (Take u a) s t h
control_went w (DropControl u) s t h = λ i. control_stays w (DropControl u) s t h
control_went w _ s t h = λ i. refl

-- ---- in the boxes

-- another event of a kind differs in one of its two numbers
pub both_apart : (kind : ℕ → ℕ → Event) (j k b a : ℕ) → (kind k a ≡ kind j b → ⊥) → ((j == k) && (b == a)) ≡ false
both_apart kind j k b a n = by (j == k) refl (b == a) refl
  where
    by : (x : Bool) → (j == k) ≡ x → (y : Bool) → (b == a) ≡ y → (x && y) ≡ false
    by true p true q = absurd (n (sym (ap (λ m. kind m b) (eqb-true j k p) ∙ ap (kind k) (eqb-true b a q))))
    by true p false q = refl
    by false p y q = refl

-- who leaves has no entry but its own
none_of_own : (t u : ℕ) (es : List Entry) → (t == u) ≡ false → cell.is_tid_among t (cell.own_entries u es) ≡ false
none_of_own t u [] h = refl
none_of_own t u (e ∷ es) h = by (is_act_entry u e) refl (is_entry_of t e) refl (none_of_own t u es h)
  where
    by : (b : Bool) → is_act_entry u e ≡ b → (c : Bool) → is_entry_of t e ≡ c → list_any (is_entry_of t) (cell.own_entries u es) ≡ false → list_any (is_entry_of t) (if b then e ∷ cell.own_entries u es else cell.own_entries u es) ≡ false
    by true p true q r = absurd (true≢false (sym p ∙ own_stays t u h e q))
    by true p false q r = rw (q, r) refl
    by false p c q r = r

-- so what is another's stays in a box
box_left : {X : Type 0} (key : X → ℕ) (t u : ℕ) (es : List Entry) (box : List X) → (u == t) ≡ false
    → find (λ x. key x == t) (filter (λ x. not (cell.is_tid_among (key x) (cell.own_entries u es))) box) ≡ find (λ x. key x == t) box
box_left key t u es box h = find_filter (λ x. key x == t) _ box (λ x q. ap not (ap (λ n. cell.is_tid_among n (cell.own_entries u es)) (eqb-true (key x) t q) ∙ none_of_own t u es (eqb_turned u t false h)))

pub inbox_went : {C : Type 0} (w : Fixed C) (e : Event) (s : Machine C) (t a : ℕ) → is_at a (cut_by e) ≡ false → is_at t (left_by e) ≡ false → (Run t a ≡ e → ⊥) → cell_is (waits_in t) a s ≡ true → cell_is (waits_in t) a (after w e s) ≡ true
unfolding after
inbox_went w (Ask u b) s t a h i n = put_went (waits_in t) s a b _ (λ e q. ap is_some (found_first (λ x. x.tid == t) (cell_at s b).inbox _ q) ∙ q)
inbox_went w (Take u b) s t a h i n = put_went (waits_in t) s a b _ (λ e q. ap is_some (found_first (λ x. x.tid == t) (cell_at s b).inbox _ q) ∙ q)
inbox_went w (Finish u b) s t a h i n = put_went (waits_in t) s a b _ (λ e q. ap is_some (box_left (λ x. x.tid) t u (cell_at s b).entries (cell_at s b).inbox i) ∙ q)
inbox_went w (Run u b) s t a h i n = λ q. inbox_stays w (Run u b) s t a (both_apart (λ b u. Run u b) b a u t n) ∙ q
inbox_went w (Rollback b) s t a h i n = λ q. inbox_stays w (Rollback b) s t a (or_from _ _ h refl) ∙ q
inbox_went w e s t a h i n = λ q. inbox_stays w e s t a refl ∙ q

pub outbox_went : {C : Type 0} (w : Fixed C) (e : Event) (s : Machine C) (t a : ℕ) (test : Outcome C → Bool) → is_at a (rolled_back_by e) ≡ false → is_at t (handed_on_by e) ≡ false
    → cell_is (λ c. holds test (outcome_of t c.outbox)) a s ≡ true → cell_is (λ c. holds test (outcome_of t c.outbox)) a (after w e s) ≡ true
unfolding after
outbox_went w (Run u b) s t a test h i = put_went _ s a b _ (λ e q. ap (holds test) (found_first (λ x. x.tid == t) (cell_at s b).outbox _ (some_held test _ q)) ∙ q)
outbox_went w (Finish u b) s t a test h i = put_went _ s a b _ (λ e q. ap (holds test) (box_left (λ x. x.tid) t u (cell_at s b).entries (cell_at s b).outbox i) ∙ q)
outbox_went w (Send u b) s t a test h i = λ q. outbox_stays w (Send u b) s t a (holds test) (and_right (b == a) (u == t) i) ∙ q
outbox_went w (End u b) s t a test h i = λ q. outbox_stays w (End u b) s t a (holds test) (and_right (b == a) (u == t) i) ∙ q
outbox_went w (Rollback b) s t a test h i = λ q. outbox_stays w (Rollback b) s t a (holds test) (or_from _ _ h refl) ∙ q
outbox_went w e s t a test h i = λ q. outbox_stays w e s t a (holds test) refl ∙ q

-- ---- an ACT that is new on an actor, and not doomed

none_left : {X : Type 0} (p stays : X → Bool) (xs : List X) → not (list_any p xs) ≡ true → not (list_any p (filter stays xs)) ≡ true
none_left p stays [] h = refl
none_left p stays (x ∷ xs) h = by (p x) refl (stays x) h (none_left p stays xs)
  where
    by : (b : Bool) → p x ≡ b → (c : Bool) → not (b || list_any p xs) ≡ true → (not (list_any p xs) ≡ true → not (list_any p (filter stays xs)) ≡ true) → not (list_any p (if c then x ∷ filter stays xs else filter stays xs)) ≡ true
    by true q c i r = absurd (true≢false (sym i))
    by false q true i r = rw q (r i)
    by false q false i r = r i

pub new_went : {C : Type 0} (w : Fixed C) (e : Event) (s : Machine C) (t a : ℕ) → spreads e ≡ false → is_at a (rolled_back_by e) ≡ false → cell_is (is_new_to t) a s ≡ true → cell_is (is_new_to t) a (after w e s) ≡ true
unfolding after
new_went w (Arrive k b) s t a h i = absurd (true≢false h)
new_went w (Ask u b) s t a h i = absurd (true≢false h)
new_went w (Finish u b) s t a h i = put_went (is_new_to t) s a b _ (λ e. none_left (is_act_entry t) _ (cell_at s b).entries)
new_went w (Trim k b) s t a h i = put_went (is_new_to t) s a b _ (λ e. none_left (is_act_entry t) _ (cell_at s b).entries)
new_went w (Rollback b) s t a h i = λ q. has_act_stays w (Rollback b) s t a i ∙ q
new_went w e s t a h i = λ q. has_act_stays w e s t a refl ∙ q

pub not_doomed_went : {C : Type 0} (w : Fixed C) (e : Event) (s : Machine C) (t : ℕ) → is_abort e ≡ false → spreads e ≡ false → is_not_doomed t s.book.acts ≡ true → is_not_doomed t (after w e s).book.acts ≡ true
unfolding after
not_doomed_went w (Admit u) s t z h = λ q. ap (holds _) (found_first (λ x. x.tid == t) s.book.acts _ (some_held _ _ q)) ∙ q
not_doomed_went w (Arrive k a) s t z h = absurd (true≢false h)
not_doomed_went w (Ask u a) s t z h = absurd (true≢false h)
not_doomed_went w e s t z h = λ q. doom_test w e s t not z refl ∙ q

-- ---- a result at the desk

result_first : (t : ℕ) (new : Batch) (bs : List Batch) → is_some (pact_result t bs) ≡ true → is_some (pact_result t (bs ++ new ∷ [])) ≡ true
result_first t new [] h = absurd (true≢false (sym h))
result_first t new (b ∷ bs) h = by (names_pact t b) h (result_first t new bs)
  where
    by : (q : Bool) → is_some (if q then result_among t b.pacts else pact_result t bs) ≡ true → (is_some (pact_result t bs) ≡ true → is_some (pact_result t (bs ++ new ∷ [])) ≡ true)
        → is_some (if q then result_among t b.pacts else pact_result t (bs ++ new ∷ [])) ≡ true
    by true i r = i
    by false i r = r i

among_set : (t u : ℕ) (r : TxResult) (ps : List Pact) → is_some (result_among t ps) ≡ true → is_some (result_among t (map (desk.with_result u r) ps)) ≡ true
among_set t u r [] h = h
among_set t u r (p ∷ ps) h = by (p.tid == t) (p.tid == u) h (among_set t u r ps)
  where
    by : (q z : Bool) → is_some (if q then p.result else result_among t ps) ≡ true → (is_some (result_among t ps) ≡ true → is_some (result_among t (map (desk.with_result u r) ps)) ≡ true)
        → is_some (if q then (if z then Some r else p.result) else result_among t (map (desk.with_result u r) ps)) ≡ true
    by true true i k = refl
    by true false i k = i
    by false z i k = k i

result_set : (t u : ℕ) (r : TxResult) (bs : List Batch) → is_some (pact_result t bs) ≡ true → is_some (pact_result t (map (desk.with_results u r) bs)) ≡ true
result_set t u r [] h = h
result_set t u r (b ∷ bs) h = by b.aborted (names_pact t b) refl h (result_set t u r bs)
  where
    by : (x q : Bool) → names_pact t b ≡ q → is_some (if q then result_among t b.pacts else pact_result t bs) ≡ true → (is_some (pact_result t bs) ≡ true → is_some (pact_result t (map (desk.with_results u r) bs)) ≡ true)
        → is_some (if list_any (λ p. p.tid == t) (if x then b.pacts else map (desk.with_result u r) b.pacts) then result_among t (if x then b.pacts else map (desk.with_result u r) b.pacts) else pact_result t (map (desk.with_results u r) bs)) ≡ true
    by true true n i k = rw n i
    by true false n i k = rw n (k i)
    by false true n i k = rw (names_kept t u r b.pacts, n) (among_set t u r b.pacts i)
    by false false n i k = rw (names_kept t u r b.pacts, n) (k i)

result_noted : {C : Type 0} (t u : ℕ) (own : Bool) (o : Option (Outcome C)) (bs : List Batch) → is_some (pact_result t bs) ≡ true → is_some (pact_result t (if own then bs else desk.noted_from u o bs)) ≡ true
result_noted t u true o bs h = h
result_noted t u false None bs h = h
result_noted {C} t u false (Some x) bs h = by x.next
  where
    by : (n : Next C) → is_some (pact_result t (desk.noted_for u n bs)) ≡ true
    by (Go b control) = h
    by (Ended r) = result_set t u r bs h

pub result_went : {C : Type 0} (w : Fixed C) (e : Event) (s : Machine C) (t : ℕ) → is_some (pact_result t s.desk.batches) ≡ true → is_some (pact_result t (after w e s).desk.batches) ≡ true
unfolding after
result_went w (Form k) s t = result_first t _ s.desk.batches
result_went w (End u a) s t = result_noted t u (has_act u (cell_at s a).entries) (outcome_of u (cell_at s a).outbox) s.desk.batches
result_went w e s t = λ q. ap is_some (result_stays w e s t refl) ∙ q
