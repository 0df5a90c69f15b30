-- The control of an ACT lies at an actor only where the ACT has an entry.
use Rattle.std.specs.Prelude.{◌≡◌, refl, ℕ, ◌<◌, ◌==◌, not, Bool, true, false, ◌||◌, ◌⊎◌, if◌then◌else◌, Option, Some, None, is_some, List, [], ◌∷◌, ◌++◌, map, filter}
use Rattle.std.specs.List.{AllByRecursion, list_any}
use Rattle.std.proofs.Common.{arith, sym, ap, subst, inl, inr, ◌∙◌}
use Rattle.std.proofs.lemmas.List.{append-nil}
use Rattle.std.proofs.lemmas.Bool.{true≢false, eqb-true, eq-eqb, or_cases, or_left, or_right, or_parts}
use Rattle.protocol.specs.Rivals.{Lock}
use Rattle.protocol.specs.Fixed.{Fixed, Sliced}
use Rattle.protocol.specs.Parts.{Act, Batch, Cascade, Slot, ControlMessage, Waiting, Outcome, Entry, BatchEntry, ActEntry, Cell, Machine}
use Rattle.protocol.specs.Events.{Event, Admit, Arrive, Ask, Take, Run, Send, End, Close, Complete, Rollback, Decide, Finish, Trim}
use Rattle.protocol.specs.Words.{act_of, who_of, is_entry_of, is_act_entry, is_batch_entry, has_act, has_entry, control_of, waiting_of, outcome_of, sub_of, lock_of}
use Rattle.protocol.specs.Conditions.{IsAllowed, conditions}
use Rattle.protocol.specs.Effects.{after, cell_at, no_cell}
use Rattle.protocol.specs.OnBook as book
use Rattle.protocol.specs.OnCell as cell
use Rattle.protocol.specs.History.{History}
use Rattle.protocol_laws.specs.Told.{EachAct}
use Rattle.protocol_laws.specs.FromDesk.{is_pact_of, EntryOf, FromDesk}
use Rattle.protocol_laws.proofs.first.Controls as controls
use Rattle.protocol_laws.proofs.machine.TrailsKept as trails
use Rattle.protocol_laws.proofs.machine.TracksKept.{held}
use Rattle.protocol_laws.proofs.machine.FromDeskKept.{one_cell}
use Rattle.protocol_laws.proofs.machine.ActsFound as acts
use Rattle.protocol_laws.proofs.machine.ActsFound.{Holds}
use Rattle.protocol_laws.proofs.machine.ActsKept.{Acts}
use Rattle.protocol_laws.proofs.machine.StartsKept.{no_pact_of}
use Rattle.protocol_laws.proofs.first.Lists.{all_join, all_filter, both_all, weaker}

abbrev pub NoAct : ℕ → List Act → Type 0
NoAct u xs = EachAct (λ v y. v ≡ u → ⊥) xs

-- it is no ACT, or has an entry
abbrev pub InPlace : List Act → List Entry → ℕ → Type 0
InPlace xs es u = NoAct u xs ⊎ (has_act u es ≡ true)

abbrev pub Box : {X : Type 0} → List Act → List Entry → (X → ℕ) → List X → Type 0
Box xs es f ys = AllByRecursion (λ y. InPlace xs es (f y)) ys

abbrev pub EnteredAt : {C : Type 0} → List Act → ℕ → Cell C → Type 0
EnteredAt xs b c = Box xs c.entries (λ x. x.tid) c.inbox × Box xs c.entries (λ x. x.tid) c.outbox

unfoldable pub Entered : {C : Type 0} → Machine C → Type 0
Entered s = (a : ℕ) → EnteredAt s.book.acts a (cell_at s a)

-- ---- the book

none_holds : (u : ℕ) → Holds (λ v y. v ≡ u → ⊥)
none_holds u = record { numbered = λ t x n p. p; marked = λ t a x f i p. p; sealed = λ t x p. p; doomed = λ t x v l p. p; rises = λ t k x l p. p }

no_act_stays : {C : Type 0} (w : Fixed C) (e : Event) (s : Machine C) (u : ℕ) → IsAllowed w e s → u < s.ring.next_tid → NoAct u s.book.acts → NoAct u (after w e s).book.acts
unfolding acts.Ready conditions
no_act_stays w (Admit t) s u ok l h = acts.acts_keep w (Admit t) s (λ v y. v ≡ u → ⊥) (none_holds u) (λ n i. omega (arith, eqb-true t s.ring.next_tid ok.0, l, i)) h
no_act_stays w (Ask t a) s u ok l h = acts.acts_keep w (Ask t a) s (λ v y. v ≡ u → ⊥) (none_holds u) (λ x e p. p) h
no_act_stays w (End t a) s u ok l h = acts.acts_keep w (End t a) s (λ v y. v ≡ u → ⊥) (none_holds u) (λ x r e p. p) h
no_act_stays w (Decide t) s u ok l h = acts.acts_keep w (Decide t) s (λ v y. v ≡ u → ⊥) (none_holds u) (λ x e p. p) h
no_act_stays w e s u ok l h = acts.acts_keep w e s (λ v y. v ≡ u → ⊥) (none_holds u) tt h

booked : {C : Type 0} (w : Fixed C) (e : Event) (s : Machine C) → IsAllowed w e s → controls.HeldIn s → Entered s → (a : ℕ) → EnteredAt (after w e s).book.acts a (cell_at s a)
unfolding Entered
booked w e s ok one g a =
    let d = trails.drawn s one in (
      both_all (λ x. x.tid < s.ring.next_tid) (λ x. InPlace s.book.acts (cell_at s a).entries x.tid) (λ x. InPlace (after w e s).book.acts (cell_at s a).entries x.tid) (cell_at s a).inbox (λ x l p. move x.tid l p) (d.inboxes a) (g a).0,
      both_all (λ x. x.tid < s.ring.next_tid) (λ x. InPlace s.book.acts (cell_at s a).entries x.tid) (λ x. InPlace (after w e s).book.acts (cell_at s a).entries x.tid) (cell_at s a).outbox (λ x l p. move x.tid l p) (d.outboxes a) (g a).1,
    )
  where
    move : (u : ℕ) → u < s.ring.next_tid → InPlace s.book.acts (cell_at s a).entries u → InPlace (after w e s).book.acts (cell_at s a).entries u
    move u l (inl n) = inl (no_act_stays w e s u ok l n)
    move u l (inr h) = inr h

-- ---- entries

in_entries : (xs : List Act) (es fs : List Entry) (u : ℕ) → (has_act u es ≡ true → has_act u fs ≡ true) → InPlace xs es u → InPlace xs fs u
in_entries xs es fs u k (inl n) = inl n
in_entries xs es fs u k (inr h) = inr (k h)

box_entries : {X : Type 0} (xs : List Act) (es fs : List Entry) (f : X → ℕ) (ys : List X) → ((u : ℕ) → has_act u es ≡ true → has_act u fs ≡ true) → Box xs es f ys → Box xs fs f ys
box_entries xs es fs f ys k h = weaker (λ y. InPlace xs es (f y)) (λ y. InPlace xs fs (f y)) ys (λ y p. in_entries xs es fs (f y) (k (f y)) p) h

-- the boxes lose those that these entries name
box_gone : {X : Type 0} (xs : List Act) (es fs gone : List Entry) (f : X → ℕ) (ys : List X) → ((u : ℕ) → cell.is_tid_among u gone ≡ false → has_act u es ≡ true → has_act u fs ≡ true) → Box xs es f ys → Box xs fs f (filter (λ y. not (cell.is_tid_among (f y) gone)) ys)
box_gone xs es fs gone f [] k h = tt
box_gone xs es fs gone f (y ∷ ys) k h = by (cell.is_tid_among (f y) gone) refl (box_gone xs es fs gone f ys k h.1)
  where
    by : (v : Bool) → cell.is_tid_among (f y) gone ≡ v → Box xs fs f (filter (λ y. not (cell.is_tid_among (f y) gone)) ys) → Box xs fs f (if not v then y ∷ filter (λ y. not (cell.is_tid_among (f y) gone)) ys else filter (λ y. not (cell.is_tid_among (f y) gone)) ys)
    by true e g = g
    by false e g = (in_entries xs es fs (f y) (k (f y) e) h.0, g)

has_join : (u : ℕ) (es fs : List Entry) → has_act u es ≡ true → has_act u (es ++ fs) ≡ true
has_join u [] fs h = absurd (true≢false (sym h))
has_join u (e ∷ es) fs h = elim (or_cases (is_act_entry u e) (has_act u es) h) [ inl q ↦ or_left (is_act_entry u e) _ q | inr q ↦ or_right (is_act_entry u e) _ (has_join u es fs q) ]

has_last : (t : Lock) (es : List Entry) → has_act t.tid (es ++ ActEntry t ∷ []) ≡ true
has_last t [] = or_left (t.tid == t.tid) _ (eq-eqb t.tid t.tid refl)
has_last t (e ∷ es) = or_right (is_act_entry t.tid e) _ (has_last t es)

has_done : (u t : ℕ) (es : List Entry) → has_act u (map (cell.done_in t) es) ≡ has_act u es
has_done u t [] = refl
has_done u t (BatchEntry b ∷ es) = has_done u t es
has_done u t (ActEntry x ∷ es) = ap (λ z. (x.tid == u) || z) (has_done u t es)

has_complete : (u k : ℕ) (es : List Entry) → has_act u (map (cell.complete_in k) es) ≡ has_act u es
has_complete u k [] = refl
has_complete u k (BatchEntry b ∷ es) = has_complete u k es
has_complete u k (ActEntry x ∷ es) = ap (λ z. (x.tid == u) || z) (has_complete u k es)

has_trimmed : (u k : ℕ) (es : List Entry) → has_act u (filter (λ e. not (is_batch_entry k e)) es) ≡ has_act u es
has_trimmed u k [] = refl
has_trimmed u k (BatchEntry b ∷ es) = by (b.bid == k) (has_trimmed u k es)
  where
    by : (v : Bool) → has_act u (filter (λ e. not (is_batch_entry k e)) es) ≡ has_act u es → has_act u (if not v then BatchEntry b ∷ filter (λ e. not (is_batch_entry k e)) es else filter (λ e. not (is_batch_entry k e)) es) ≡ has_act u es
    by true g = g
    by false g = g
has_trimmed u k (ActEntry x ∷ es) = ap (λ z. (x.tid == u) || z) (has_trimmed u k es)

has_tid : (u : ℕ) (es : List Entry) → has_act u es ≡ true → cell.is_tid_among u es ≡ true
has_tid u [] h = h
has_tid u (BatchEntry b ∷ es) h = or_right (is_entry_of u (BatchEntry b)) _ (has_tid u es h)
has_tid u (ActEntry x ∷ es) h = elim (or_cases (x.tid == u) (has_act u es) h) [ inl q ↦ or_left (x.tid == u) _ q | inr q ↦ or_right (x.tid == u) _ (has_tid u es q) ]

has_staying : (u : ℕ) (cs : List Cascade) (es : List Entry) → cell.is_tid_among u (cell.going cs es) ≡ false → has_act u es ≡ true → has_act u (cell.staying cs es) ≡ true
has_staying u cs [] n h = h
has_staying u cs (e ∷ es) n h = by (cell.is_cut cs (who_of e)) n (has_staying u cs es)
  where
    by : (v : Bool) → cell.is_tid_among u (if v then e ∷ es else cell.going cs es) ≡ false → (cell.is_tid_among u (cell.going cs es) ≡ false → has_act u es ≡ true → has_act u (cell.staying cs es) ≡ true) → has_act u (if v then [] else e ∷ cell.staying cs es) ≡ true
    by true n r = absurd (true≢false (sym (has_tid u (e ∷ es) h) ∙ n))
    by false n r = elim (or_cases (is_act_entry u e) (has_act u es) h) [ inl q ↦ or_left (is_act_entry u e) _ q | inr q ↦ or_right (is_act_entry u e) _ (r n q) ]

has_left : (u t : ℕ) (es : List Entry) → cell.is_tid_among u (cell.own_entries t es) ≡ false → has_act u es ≡ true → has_act u (filter (λ e. not (is_act_entry t e)) es) ≡ true
has_left u t [] n h = h
has_left u t (BatchEntry b ∷ es) n h = has_left u t es n h
has_left u t (ActEntry x ∷ es) n h = by (x.tid == t) n (has_left u t es)
  where
    by : (v : Bool) → cell.is_tid_among u (if v then ActEntry x ∷ cell.own_entries t es else cell.own_entries t es) ≡ false → (cell.is_tid_among u (cell.own_entries t es) ≡ false → has_act u es ≡ true → has_act u (filter (λ e. not (is_act_entry t e)) es) ≡ true)
        → has_act u (if not v then ActEntry x ∷ filter (λ e. not (is_act_entry t e)) es else filter (λ e. not (is_act_entry t e)) es) ≡ true
    by true n r = let p = or_parts (x.tid == u) (cell.is_tid_among u (cell.own_entries t es)) n in elim (or_cases (x.tid == u) (has_act u es) h) [ inl q ↦ absurd (true≢false (sym q ∙ p.0)) | inr q ↦ r p.1 q ]
    by false n r = elim (or_cases (x.tid == u) (has_act u es) h) [ inl q ↦ or_left (x.tid == u) _ q | inr q ↦ or_right (x.tid == u) _ (r n q) ]

-- ---- controls that come

came : {C : Type 0} (xs : List Act) (es : List Entry) (t : ℕ) (cs : List (ControlMessage C)) (o : Option (ControlMessage C)) → control_of t cs ≡ o → InPlace xs es t → Box xs es (λ x. x.tid) (cell.arrived o)
came xs es t cs None e h = tt
came xs es t cs (Some m) e h = (subst (InPlace xs es) (sym (tid_of cs e)) h, tt)
  where
    tid_of : (cs : List (ControlMessage _)) → control_of t cs ≡ Some m → m.tid ≡ t
    tid_of [] e = absurd (cc e)
    tid_of (x ∷ cs) e = by (x.tid == t) refl e (tid_of cs)
      where
        by : (v : Bool) → (x.tid == t) ≡ v → (if v then Some x else control_of t cs) ≡ Some m → (control_of t cs ≡ Some m → m.tid ≡ t) → m.tid ≡ t
        by true q e r = let i : x ≡ m = cc e in subst (λ z. z.tid ≡ t) i (eqb-true x.tid t q)
        by false q e r = r e

ask : {C : Type 0} (xs : List Act) (t : Lock) (o : Option ℕ) (es : List Entry) (cs : List (ControlMessage C)) (ins : List (Waiting C)) → Box xs es (λ x. x.tid) ins → Box xs (es ++ cell.act_entries t o) (λ x. x.tid) (ins ++ cell.where_placed o (control_of t.tid cs))
ask xs t None es cs ins h = all_join (λ x. InPlace xs (es ++ cell.act_entries t None) x.tid) ins (cell.arrived (control_of t.tid cs)) (box_entries xs es (es ++ cell.act_entries t None) (λ x. x.tid) ins (λ u q. has_join u es (cell.act_entries t None) q) h) (came xs (es ++ cell.act_entries t None) t.tid cs (control_of t.tid cs) refl (inr (has_last t es)))
ask xs t (Some older) es cs ins h = rw (append-nil es, append-nil ins) h

-- whose entry is there is no ACT, or has its own
placed : (acts : List Act) (a t : ℕ) (bs : List Batch) (es : List Entry) → ((k : ℕ) → is_pact_of t k bs ≡ true → NoAct t acts) → AllByRecursion (EntryOf a bs) es → has_entry t es ≡ true → InPlace acts es t
placed acts a t bs [] n f h = absurd (true≢false (sym h))
placed acts a t bs (BatchEntry b ∷ es) n f h = elim (or_cases (is_entry_of t (BatchEntry b)) (has_entry t es) h) [ inl q ↦ inl (n b.bid (slot b.slots q f.0.1)) | inr q ↦ in_entries acts es (BatchEntry b ∷ es) t (λ z. z) (placed acts a t bs es n f.1 q) ]
  where
    slot : (ss : List Slot) → list_any (λ s. s.tid == t) ss ≡ true → AllByRecursion (λ s. is_pact_of s.tid b.bid bs ≡ true) ss → is_pact_of t b.bid bs ≡ true
    slot [] e g = absurd (true≢false (sym e))
    slot (s ∷ ss) e g = elim (or_cases (s.tid == t) (list_any (λ s. s.tid == t) ss) e) [ inl q ↦ subst (λ z. is_pact_of z b.bid bs ≡ true) (eqb-true s.tid t q) g.0 | inr q ↦ slot ss q g.1 ]
placed acts a t bs (ActEntry x ∷ es) n f h = elim (or_cases (x.tid == t) (has_entry t es) h) [ inl q ↦ inr (or_left (x.tid == t) _ q) | inr q ↦ in_entries acts es (ActEntry x ∷ es) t (λ z. or_right (x.tid == t) _ z) (placed acts a t bs es n f.1 q) ]

pub pact_no_act : {C : Type 0} (s : Machine C) (h : History) (t k : ℕ) → Acts s h → is_pact_of t k s.desk.batches ≡ true → NoAct t s.book.acts
unfolding Acts
pact_no_act s h t k i e = λ v y f j. no_pact_of v k s.desk.batches (i v y f).apart (subst (λ z. is_pact_of z k s.desk.batches ≡ true) (sym j) e)

out_of : {C : Type 0} (xs : List Act) (es : List Entry) (t : ℕ) (o : Option (Sliced C)) → InPlace xs es t → Box xs es (λ x. x.tid) (cell.outcomes t o)
out_of xs es t None h = tt
out_of xs es t (Some r) h = (h, tt)

run_entries : (v : Bool) (t u : ℕ) (es : List Entry) → has_act u es ≡ true → has_act u (if v then map (cell.done_in t) es else es) ≡ true
run_entries true t u es h = has_done u t es ∙ h
run_entries false t u es h = h

waits : {C : Type 0} (xs : List Act) (es : List Entry) (t : ℕ) (ins : List (Waiting C)) → is_some (waiting_of t ins) ≡ true → Box xs es (λ x. x.tid) ins → InPlace xs es t
waits xs es t [] e h = absurd (true≢false (sym e))
waits xs es t (x ∷ ins) e h = by (x.tid == t) refl e (λ q. waits xs es t ins q h.1)
  where
    by : (v : Bool) → (x.tid == t) ≡ v → is_some (if v then Some x else waiting_of t ins) ≡ true → (is_some (waiting_of t ins) ≡ true → InPlace xs es t) → InPlace xs es t
    by true q e r = subst (InPlace xs es) (eqb-true x.tid t q) h.0
    by false q e r = r e

-- ---- all events

pub entered_kept : {C : Type 0} (w : Fixed C) (e : Event) (s : Machine C) (h : History) → IsAllowed w e s → controls.HeldIn s → Acts s h → FromDesk s → Entered s → Entered (after w e s)
unfolding Entered conditions after
entered_kept w (Arrive k a) s h ok one i d g = one_cell (EnteredAt (after w (Arrive k a) s).book.acts) s.cells a _ (λ z. (
  box_entries (after w (Arrive k a) s).book.acts (cell_at s a).entries ((cell_at s a).entries ++ cell.batch_entries k (sub_of k a s.post.subs)) (λ x. x.tid) (cell_at s a).inbox (λ u q. has_join u (cell_at s a).entries (cell.batch_entries k (sub_of k a s.post.subs)) q) z.0,
  box_entries (after w (Arrive k a) s).book.acts (cell_at s a).entries ((cell_at s a).entries ++ cell.batch_entries k (sub_of k a s.post.subs)) (λ x. x.tid) (cell_at s a).outbox (λ u q. has_join u (cell_at s a).entries (cell.batch_entries k (sub_of k a s.post.subs)) q) z.1,
)) (booked w (Arrive k a) s ok one g)
entered_kept w (Ask t a) s h ok one i d g = one_cell (EnteredAt (after w (Ask t a) s).book.acts) s.cells a _ (λ z. (
  ask (after w (Ask t a) s).book.acts (lock_of t s.book.acts) (book.in_the_way (lock_of t s.book.acts) (cell_at s a).entries) (cell_at s a).entries s.post.controls (cell_at s a).inbox z.0,
  box_entries (after w (Ask t a) s).book.acts (cell_at s a).entries ((cell_at s a).entries ++ cell.act_entries (lock_of t s.book.acts) (book.in_the_way (lock_of t s.book.acts) (cell_at s a).entries)) (λ x. x.tid) (cell_at s a).outbox (λ u q. has_join u (cell_at s a).entries (cell.act_entries (lock_of t s.book.acts) (book.in_the_way (lock_of t s.book.acts) (cell_at s a).entries)) q) z.1,
)) (booked w (Ask t a) s ok one g)
entered_kept w (Take t a) s h ok one i d g = one_cell (EnteredAt s.book.acts) s.cells a _ (λ z.
    (all_join _ (cell_at s a).inbox _ z.0 (came s.book.acts (cell_at s a).entries t s.post.controls (control_of t s.post.controls) refl (placed s.book.acts a t s.desk.batches (cell_at s a).entries (λ k q. pact_no_act s h t k i q) (d.entries a) (held (λ c. has_entry t c.entries) s.cells a no_cell ok.1.0))), z.1)) g
entered_kept w (Run t a) s h ok one i d g =
    let v = cell.is_done_after w.code a (cell.slice_of w.code t (cell_at s a)) in
    one_cell (EnteredAt s.book.acts) s.cells a (cell.slice_run w.code t a (cell_at s a)) (λ z. (
      all_filter (λ x. InPlace s.book.acts (if v then map (cell.done_in t) (cell_at s a).entries else (cell_at s a).entries) x.tid) _ (cell_at s a).inbox (box_entries s.book.acts (cell_at s a).entries (if v then map (cell.done_in t) (cell_at s a).entries else (cell_at s a).entries) (λ x. x.tid) (cell_at s a).inbox (λ u q. run_entries v t u (cell_at s a).entries q) z.0),
      all_join (λ x. InPlace s.book.acts (if v then map (cell.done_in t) (cell_at s a).entries else (cell_at s a).entries) x.tid) (cell_at s a).outbox _ (box_entries s.book.acts (cell_at s a).entries (if v then map (cell.done_in t) (cell_at s a).entries else (cell_at s a).entries) (λ x. x.tid) (cell_at s a).outbox (λ u q. run_entries v t u (cell_at s a).entries q) z.1)
          (out_of s.book.acts (if v then map (cell.done_in t) (cell_at s a).entries else (cell_at s a).entries) t (cell.slice_of w.code t (cell_at s a)) (in_entries s.book.acts (cell_at s a).entries (if v then map (cell.done_in t) (cell_at s a).entries else (cell_at s a).entries) t (λ q. run_entries v t t (cell_at s a).entries q) (waits s.book.acts (cell_at s a).entries t (cell_at s a).inbox (held (λ c. is_some (waiting_of t c.inbox)) s.cells a no_cell ok.0) z.0))),
    )) g
entered_kept w (Send t a) s h ok one i d g = one_cell (EnteredAt s.book.acts) s.cells a _ (λ z. (z.0, all_filter _ _ (cell_at s a).outbox z.1)) g
entered_kept w (End t a) s h ok one i d g = one_cell (EnteredAt (after w (End t a) s).book.acts) s.cells a _ (λ z. (z.0, all_filter _ _ (cell_at s a).outbox z.1)) (booked w (End t a) s ok one g)
entered_kept w (Close t a) s h ok one i d g = one_cell (EnteredAt s.book.acts) s.cells a _ (λ z.
    (box_entries s.book.acts (cell_at s a).entries (map (cell.done_in t) (cell_at s a).entries) (λ x. x.tid) (cell_at s a).inbox (λ u q. has_done u t (cell_at s a).entries ∙ q) z.0, box_entries s.book.acts (cell_at s a).entries (map (cell.done_in t) (cell_at s a).entries) (λ x. x.tid) (cell_at s a).outbox (λ u q. has_done u t (cell_at s a).entries ∙ q) z.1)) g
entered_kept w (Complete k a) s h ok one i d g = one_cell (EnteredAt s.book.acts) s.cells a _ (λ z.
    (box_entries s.book.acts (cell_at s a).entries (map (cell.complete_in k) (cell_at s a).entries) (λ x. x.tid) (cell_at s a).inbox (λ u q. has_complete u k (cell_at s a).entries ∙ q) z.0, box_entries s.book.acts (cell_at s a).entries (map (cell.complete_in k) (cell_at s a).entries) (λ x. x.tid) (cell_at s a).outbox (λ u q. has_complete u k (cell_at s a).entries ∙ q) z.1)) g
entered_kept w (Rollback a) s h ok one i d g = one_cell (EnteredAt s.book.acts) s.cells a _ (λ z. (
  box_gone s.book.acts (cell_at s a).entries (cell.staying s.book.cascades (cell_at s a).entries) (cell.going s.book.cascades (cell_at s a).entries) (λ x. x.tid) (cell_at s a).inbox (λ u n q. has_staying u s.book.cascades (cell_at s a).entries n q) z.0,
  box_gone s.book.acts (cell_at s a).entries (cell.staying s.book.cascades (cell_at s a).entries) (cell.going s.book.cascades (cell_at s a).entries) (λ x. x.tid) (cell_at s a).outbox (λ u n q. has_staying u s.book.cascades (cell_at s a).entries n q) z.1,
)) g
entered_kept w (Finish t a) s h ok one i d g = one_cell (EnteredAt (after w (Finish t a) s).book.acts) s.cells a _ (λ z. (
  box_gone (after w (Finish t a) s).book.acts (cell_at s a).entries (filter (λ e. not (is_act_entry t e)) (cell_at s a).entries) (cell.own_entries t (cell_at s a).entries) (λ x. x.tid) (cell_at s a).inbox (λ u n q. has_left u t (cell_at s a).entries n q) z.0,
  box_gone (after w (Finish t a) s).book.acts (cell_at s a).entries (filter (λ e. not (is_act_entry t e)) (cell_at s a).entries) (cell.own_entries t (cell_at s a).entries) (λ x. x.tid) (cell_at s a).outbox (λ u n q. has_left u t (cell_at s a).entries n q) z.1,
)) (booked w (Finish t a) s ok one g)
entered_kept w (Trim k a) s h ok one i d g = one_cell (EnteredAt s.book.acts) s.cells a _ (λ z.
    (box_entries s.book.acts (cell_at s a).entries (filter (λ e. not (is_batch_entry k e)) (cell_at s a).entries) (λ x. x.tid) (cell_at s a).inbox (λ u q. has_trimmed u k (cell_at s a).entries ∙ q) z.0, box_entries s.book.acts (cell_at s a).entries (filter (λ e. not (is_batch_entry k e)) (cell_at s a).entries) (λ x. x.tid) (cell_at s a).outbox (λ u q. has_trimmed u k (cell_at s a).entries ∙ q) z.1)) g
entered_kept w e s h ok one i d g = booked w e s ok one g

-- ---- what it says

outs : {C : Type 0} (xs : List Act) (es : List Entry) (t : ℕ) (ys : List (Outcome C)) → is_some (outcome_of t ys) ≡ true → Box xs es (λ x. x.tid) ys → InPlace xs es t
outs xs es t [] e h = absurd (true≢false (sym e))
outs xs es t (x ∷ ys) e h = by (x.tid == t) refl e (λ q. outs xs es t ys q h.1)
  where
    by : (v : Bool) → (x.tid == t) ≡ v → is_some (if v then Some x else outcome_of t ys) ≡ true → (is_some (outcome_of t ys) ≡ true → InPlace xs es t) → InPlace xs es t
    by true q e r = subst (InPlace xs es) (eqb-true x.tid t q) h.0
    by false q e r = r e

here : (t : ℕ) (x : Act) (xs : List Act) (es : List Entry) → act_of t xs ≡ Some x → InPlace xs es t → has_act t es ≡ true
here t x xs es e (inl n) = absurd (n t x e refl)
here t x xs es e (inr h) = h

pub entered : {C : Type 0} (s : Machine C) → Entered s → (t a : ℕ) (x : Act) → act_of t s.book.acts ≡ Some x → is_some (waiting_of t (cell_at s a).inbox) ≡ true → has_act t (cell_at s a).entries ≡ true
unfolding Entered
entered s g t a x e q = here t x s.book.acts (cell_at s a).entries e (waits s.book.acts (cell_at s a).entries t (cell_at s a).inbox q (g a).0)

pub ended_there : {C : Type 0} (s : Machine C) → Entered s → (t a : ℕ) (x : Act) → act_of t s.book.acts ≡ Some x → is_some (outcome_of t (cell_at s a).outbox) ≡ true → has_act t (cell_at s a).entries ≡ true
unfolding Entered
ended_there s g t a x e q = here t x s.book.acts (cell_at s a).entries e (outs s.book.acts (cell_at s a).entries t (cell_at s a).outbox q (g a).1)
