-- An ACT that stands behind an aborted batch is given up.
use Rattle.std.specs.Prelude.{◌≡◌, refl, ℕ, ◌-◌, ◌≤◌, ◌<◌, ◌==◌, nat_le, max, Bool, true, false, ◌⊎◌, ◌&&◌, ◌||◌, if◌then◌else◌, Option, Some, None, is_some, List, [], ◌∷◌, ◌++◌, length, map}
use Rattle.std.specs.List.{AllByRecursion}
use Rattle.std.proofs.Common.{arith, sym, ap, subst, inl, inr, ◌∙◌}
use Rattle.std.proofs.lemmas.List.{append-nil}
use Rattle.std.proofs.lemmas.Bool.{true≢false, eqb-true, leb-true, le-leb, and_parts, or_cases, or_left, or_right, cases_Bool}
use Rattle.protocol.specs.Fixed.{Fixed}
use Rattle.protocol.specs.Parts.{Act, Cascade, Status, Live, Doomed, Decided, Sealed, Who, OfBatch, OfAct, Machine}
use Rattle.protocol.specs.Events.{Event, Admit, Arrive, Ask, Run, End, Complete, Abort, Rollback, Decide, Finish, Trim}
use Rattle.protocol.specs.Words.{holds, covers, is_aborted, is_doomed, is_live_status, is_value, is_who, act_of, is_ordered, lock_of}
use Rattle.protocol.specs.Conditions.{IsAllowed, conditions, epoch}
use Rattle.protocol.specs.Effects.{after, cell_at, no_cell}
use Rattle.protocol.specs.OnBook as book
use Rattle.protocol.specs.OnCell as cell
use Rattle.protocol.specs.OnCell.{is_cut}
use Rattle.protocol.specs.History.{History, Slice, Ran, Stands, Gone, grown, not_run, ran_in, completed, left_for_good, without_standing, long_staying, asks, batches_in, is_traceless}
use Rattle.protocol_laws.specs.Told.{EachAct}
use Rattle.protocol_laws.specs.Places.{FitsCell}
use Rattle.protocol_laws.specs.Tracks.{keys_in, is_key_among}
use Rattle.protocol_laws.specs.Befores.{is_above, Befores}
use Rattle.protocol_laws.proofs.first.SettlingKept as settling
use Rattle.protocol_laws.proofs.first.SettlingKeys as keys
use Rattle.protocol_laws.proofs.machine.TrackLists
use Rattle.protocol_laws.proofs.machine.TracksKept.{held}
use Rattle.protocol_laws.proofs.machine.PlacesKept.{Placed}
use Rattle.protocol_laws.proofs.machine.BeforesKept.{Numbers}
use Rattle.protocol_laws.proofs.machine.CommitsKept.{beside_carried}
use Rattle.protocol_laws.proofs.machine.ActsFound as acts
use Rattle.protocol_laws.proofs.machine.ActsFound.{Holds}
use Rattle.protocol_laws.proofs.machine.ActsKept.{Acts}
use Rattle.protocol_laws.proofs.machine.QueuedKept.{in_book, found_some}
use Rattle.protocol_laws.proofs.first.Statuses.{doomed_decided, doomed_sealed}
use Rattle.protocol_laws.proofs.machine.OversKept.{aborted_low}

abbrev pub is_out : Act → Bool
is_out x = is_doomed x.status

-- behind an aborted batch, where one was seen, each ACT that stands there is given up
abbrev pub Behind : List Act → List Cascade → Bool → List Ran → Type 0
Behind acts cs bad [] = Unit {0}
Behind acts cs bad (Stands (OfBatch k) c ss ∷ rs) = Behind acts cs (bad || is_aborted k cs) rs
Behind acts cs bad (Stands (OfAct t) c ss ∷ rs) = (bad ≡ true → holds is_out (act_of t acts) ≡ true) × Behind acts cs bad rs
Behind acts cs bad (Gone (OfBatch k) ss ∷ rs) = Behind acts cs (bad || is_aborted k cs) rs
Behind acts cs bad (Gone (OfAct t) ss ∷ rs) = Behind acts cs bad rs

unfoldable pub AllBehind : {C : Type 0} → Machine C → History → Type 0
AllBehind s h = (a : ℕ) → Behind s.book.acts s.book.cascades false (h.long a)

-- ---- who is given up stays so

pub each_to_holds : (q : Act → Bool) (t : ℕ) (xs : List Act) → is_some (act_of t xs) ≡ true → EachAct (λ u x. u ≡ t → q x ≡ true) xs → holds q (act_of t xs) ≡ true
each_to_holds q t xs e h = by (act_of t xs) refl e
  where
    by : (o : Option Act) → act_of t xs ≡ o → is_some o ≡ true → holds q o ≡ true
    by None f v = absurd (true≢false (sym v))
    by (Some x) f v = h t x f refl

pub holds_to_each : (q : Act → Bool) (t : ℕ) (xs : List Act) → holds q (act_of t xs) ≡ true → EachAct (λ u x. u ≡ t → q x ≡ true) xs
holds_to_each q t xs h = λ u x e i. subst (λ z. holds q z ≡ true) (ap (λ z. act_of z xs) (sym i) ∙ e) h

out_holds : (t : ℕ) → Holds (λ u x. u ≡ t → is_out x ≡ true)
out_holds t = record { numbered = λ u x n p. p; marked = λ u a x f i p. p; sealed = λ u x p i. doomed_sealed x.status (p i); doomed = λ u x v l p i. refl; rises = λ u k x l p. p }

ready_out : {C : Type 0} (w : Fixed C) (e : Event) (s : Machine C) (t : ℕ) → holds is_out (act_of t s.book.acts) ≡ true → acts.Ready w e s (λ u x. u ≡ t → is_out x ≡ true)
unfolding acts.Ready
ready_out w (Admit u) s t h = λ n i. absurd (true≢false (sym h ∙ ap (holds is_out) (ap (λ z. act_of z s.book.acts) (sym i) ∙ n)))
ready_out w (Ask u a) s t h = λ x e p. p
ready_out w (End u a) s t h = λ x r e p. p
ready_out w (Decide u) s t h = λ x e p i. doomed_decided s.book.next_c (is_value x.result) x.status (p i)
ready_out w e s t h = tt

pub out_stays : {C : Type 0} (w : Fixed C) (e : Event) (s : Machine C) (t : ℕ) → holds is_out (act_of t s.book.acts) ≡ true → holds is_out (act_of t (after w e s).book.acts) ≡ true
out_stays w e s t h = each_to_holds is_out t (after w e s).book.acts (in_book w e s t (found_some is_out (act_of t s.book.acts) h)) (acts.acts_keep w e s (λ u x. u ≡ t → is_out x ≡ true) (out_holds t) (ready_out w e s t h) (holds_to_each is_out t s.book.acts h))

-- ---- lists

stay : (acts acts' : List Act) (cs : List Cascade) (bad : Bool) (rs : List Ran) → ((t : ℕ) → holds is_out (act_of t acts) ≡ true → holds is_out (act_of t acts') ≡ true) → Behind acts cs bad rs → Behind acts' cs bad rs
stay acts acts' cs bad [] k h = tt
stay acts acts' cs bad (Stands (OfBatch j) c ss ∷ rs) k h = stay acts acts' cs (bad || is_aborted j cs) rs k h
stay acts acts' cs bad (Stands (OfAct t) c ss ∷ rs) k h = ((λ e. k t (h.0 e)), stay acts acts' cs bad rs k h.1)
stay acts acts' cs bad (Gone (OfBatch j) ss ∷ rs) k h = stay acts acts' cs (bad || is_aborted j cs) rs k h
stay acts acts' cs bad (Gone (OfAct t) ss ∷ rs) k h = stay acts acts' cs bad rs k h

more_batch : (acts : List Act) (cs : List Cascade) (bad : Bool) (k : ℕ) (rs : List Ran) → Behind acts cs bad rs → Behind acts cs bad (rs ++ not_run (OfBatch k) ∷ [])
more_batch acts cs bad k [] h = tt
more_batch acts cs bad k (Stands (OfBatch j) c ss ∷ rs) h = more_batch acts cs (bad || is_aborted j cs) k rs h
more_batch acts cs bad k (Stands (OfAct t) c ss ∷ rs) h = (h.0, more_batch acts cs bad k rs h.1)
more_batch acts cs bad k (Gone (OfBatch j) ss ∷ rs) h = more_batch acts cs (bad || is_aborted j cs) k rs h
more_batch acts cs bad k (Gone (OfAct t) ss ∷ rs) h = more_batch acts cs bad k rs h

clean_or : (bad b : Bool) → bad ≡ false → b ≡ false → (bad || b) ≡ false
clean_or true b e f = e
clean_or false b e f = f

-- where no batch is aborted
more_act : (acts : List Act) (cs : List Cascade) (bad : Bool) (t : ℕ) (rs : List Ran) → bad ≡ false → AllByRecursion (λ k. is_aborted k cs ≡ false) (batches_in rs) → Behind acts cs bad rs → Behind acts cs bad (rs ++ not_run (OfAct t) ∷ [])
more_act acts cs bad t [] e a h = ((λ q. absurd (true≢false (sym q ∙ e))), tt)
more_act acts cs bad t (Stands (OfBatch j) c ss ∷ rs) e a h = more_act acts cs (bad || is_aborted j cs) t rs (clean_or bad (is_aborted j cs) e a.0) a.1 h
more_act acts cs bad t (Stands (OfAct u) c ss ∷ rs) e a h = (h.0, more_act acts cs bad t rs e a h.1)
more_act acts cs bad t (Gone (OfBatch j) ss ∷ rs) e a h = more_act acts cs (bad || is_aborted j cs) t rs (clean_or bad (is_aborted j cs) e a.0) a.1 h
more_act acts cs bad t (Gone (OfAct u) ss ∷ rs) e a h = more_act acts cs bad t rs e a h

ran : (acts : List Act) (cs : List Cascade) (bad : Bool) (who : Who) (x : Slice) (rs : List Ran) → Behind acts cs bad rs → Behind acts cs bad (map (ran_in who x) rs)
ran acts cs bad who x [] h = tt
ran acts cs bad who x (Stands (OfBatch k) c ss ∷ rs) h = ran acts cs (bad || is_aborted k cs) who x rs h
ran acts cs bad who x (Stands (OfAct t) c ss ∷ rs) h = (h.0, ran acts cs bad who x rs h.1)
ran acts cs bad who x (Gone (OfBatch k) ss ∷ rs) h = ran acts cs (bad || is_aborted k cs) who x rs h
ran acts cs bad who x (Gone (OfAct t) ss ∷ rs) h = ran acts cs bad who x rs h

complete : (acts : List Act) (cs : List Cascade) (bad : Bool) (j : ℕ) (rs : List Ran) → Behind acts cs bad rs → Behind acts cs bad (map (completed j) rs)
complete acts cs bad j [] h = tt
complete acts cs bad j (Stands (OfBatch k) c ss ∷ rs) h = complete acts cs (bad || is_aborted k cs) j rs h
complete acts cs bad j (Stands (OfAct t) c ss ∷ rs) h = (h.0, complete acts cs bad j rs h.1)
complete acts cs bad j (Gone (OfBatch k) ss ∷ rs) h = complete acts cs (bad || is_aborted k cs) j rs h
complete acts cs bad j (Gone (OfAct t) ss ∷ rs) h = complete acts cs bad j rs h

leave : (acts : List Act) (cs : List Cascade) (bad : Bool) (who : Who) (rs : List Ran) → Behind acts cs bad rs → Behind acts cs bad (map (left_for_good who) rs)
leave acts cs bad who [] h = tt
leave acts cs bad who (Stands (OfBatch k) c ss ∷ rs) h = by (is_who (OfBatch k) who) (leave acts cs (bad || is_aborted k cs) who rs h)
  where
    by : (v : Bool) → Behind acts cs (bad || is_aborted k cs) (map (left_for_good who) rs) → Behind acts cs bad ((if v then Gone (OfBatch k) ss else Stands (OfBatch k) c ss) ∷ map (left_for_good who) rs)
    by true g = g
    by false g = g
leave acts cs bad who (Stands (OfAct t) c ss ∷ rs) h = by (is_who (OfAct t) who) (leave acts cs bad who rs h.1)
  where
    by : (v : Bool) → Behind acts cs bad (map (left_for_good who) rs) → Behind acts cs bad ((if v then Gone (OfAct t) ss else Stands (OfAct t) c ss) ∷ map (left_for_good who) rs)
    by true g = g
    by false g = (h.0, g)
leave acts cs bad who (Gone (OfBatch k) ss ∷ rs) h = leave acts cs (bad || is_aborted k cs) who rs h
leave acts cs bad who (Gone (OfAct t) ss ∷ rs) h = leave acts cs bad who rs h

undo : (acts : List Act) (cs : List Cascade) (bad : Bool) (t : ℕ) (rs : List Ran) → Behind acts cs bad rs → Behind acts cs bad (without_standing (OfAct t) rs)
undo acts cs bad t [] h = tt
undo acts cs bad t (Stands (OfBatch k) c ss ∷ rs) h = undo acts cs (bad || is_aborted k cs) t rs h
undo acts cs bad t (Stands (OfAct u) c ss ∷ rs) h = by (u == t) (undo acts cs bad t rs h.1)
  where
    by : (v : Bool) → Behind acts cs bad (without_standing (OfAct t) rs) → Behind acts cs bad (if v then without_standing (OfAct t) rs else Stands (OfAct u) c ss ∷ without_standing (OfAct t) rs)
    by true g = g
    by false g = (h.0, g)
undo acts cs bad t (Gone (OfBatch k) ss ∷ rs) h = undo acts cs (bad || is_aborted k cs) t rs h
undo acts cs bad t (Gone (OfAct u) ss ∷ rs) h = undo acts cs bad t rs h

roll_back : (acts : List Act) (cs : List Cascade) (bad : Bool) (ds : List Cascade) (rs : List Ran) → Behind acts cs bad rs → Behind acts cs bad (long_staying ds rs)
roll_back acts cs bad ds [] h = tt
roll_back acts cs bad ds (Stands (OfBatch k) c ss ∷ rs) h = by (is_cut ds (OfBatch k)) (roll_back acts cs (bad || is_aborted k cs) ds rs h)
  where
    by : (v : Bool) → Behind acts cs (bad || is_aborted k cs) (long_staying ds rs) → Behind acts cs bad (if v then [] else Stands (OfBatch k) c ss ∷ long_staying ds rs)
    by true g = tt
    by false g = g
roll_back acts cs bad ds (Stands (OfAct t) c ss ∷ rs) h = (h.0, roll_back acts cs bad ds rs h.1)
roll_back acts cs bad ds (Gone (OfBatch k) ss ∷ rs) h = roll_back acts cs (bad || is_aborted k cs) ds rs h
roll_back acts cs bad ds (Gone (OfAct t) ss ∷ rs) h = roll_back acts cs bad ds rs h

-- an aborted batch was seen before the new cascade, or the cascade begins no later than the last batch seen
seen : (cs : List Cascade) (d : Cascade) (top : ℕ) (bad bad' : Bool) (j : ℕ) → (bad' ≡ true → (bad ≡ true) ⊎ (d.first ≤ top)) → (bad' || is_aborted j (cs ++ d ∷ [])) ≡ true → ((bad || is_aborted j cs) ≡ true) ⊎ (d.first ≤ max top j)
seen cs d top bad bad' j b e = elim (or_cases bad' (is_aborted j (cs ++ d ∷ [])) e) [
  | inl q ↦ elim (b q) [ inl v ↦ inl (or_left bad _ v) | inr l ↦ inr (omega (arith, l)) ]
  | inr q ↦ elim (or_cases (is_aborted j cs) (covers j d) (sym (keys.aborted_more j cs d) ∙ q)) [ inl v ↦ inl (or_right bad _ v) | inr v ↦ inr (omega (arith, leb-true d.first j (and_parts (nat_le d.first j) (nat_le j d.upto) v).0)) ]
]

-- a cascade gives up whose before number it reaches
cascade : (acts acts' : List Act) (cs : List Cascade) (d : Cascade) (top : ℕ) (bad bad' : Bool) (rs : List Ran) → ((t : ℕ) → holds is_out (act_of t acts) ≡ true → holds is_out (act_of t acts') ≡ true)
    → ((t n : ℕ) → d.first ≤ n → holds (is_above n) (act_of t acts) ≡ true → holds is_out (act_of t acts') ≡ true) → (bad' ≡ true → (bad ≡ true) ⊎ (d.first ≤ top)) → Befores acts top rs → Behind acts cs bad rs → Behind acts' (cs ++ d ∷ []) bad' rs
cascade acts acts' cs d top bad bad' [] k m b n h = tt
cascade acts acts' cs d top bad bad' (Stands (OfBatch j) c ss ∷ rs) k m b n h = cascade acts acts' cs d (max top j) (bad || is_aborted j cs) (bad' || is_aborted j (cs ++ d ∷ [])) rs k m (λ e. seen cs d top bad bad' j b e) n h
cascade acts acts' cs d top bad bad' (Stands (OfAct t) c ss ∷ rs) k m b n h = ((λ e. elim (b e) [ inl q ↦ k t (h.0 q) | inr l ↦ m t top l n.0 ]), cascade acts acts' cs d top bad bad' rs k m b n.1 h.1)
cascade acts acts' cs d top bad bad' (Gone (OfBatch j) ss ∷ rs) k m b n h = cascade acts acts' cs d (max top j) (bad || is_aborted j cs) (bad' || is_aborted j (cs ++ d ∷ [])) rs k m (λ e. seen cs d top bad bad' j b e) n h
cascade acts acts' cs d top bad bad' (Gone (OfAct t) ss ∷ rs) k m b n h = cascade acts acts' cs d top bad bad' rs k m b n h

-- ---- all events

-- an actor of the present epoch has no aborted batch
pub clean : (next : ℕ) (cs : List Cascade) (ep tail : ℕ) (ks : List ℕ) → ep ≡ length cs → AllByRecursion (FitsCell next cs ep tail) ks → AllByRecursion (λ k. is_aborted k cs ≡ false) ks
clean next cs ep tail [] e h = tt
clean next cs ep tail (k ∷ ks) e h = (elim (cases_Bool (is_aborted k cs)) [ inl a ↦ absurd (omega (arith, aborted_low k cs a, h.0.aborted a, e)) | inr b ↦ b ], clean next cs ep tail ks e h.1)

ask : (acts : List Act) (cs : List Cascade) (t : ℕ) (o : Option ℕ) (rs : List Ran) → AllByRecursion (λ k. is_aborted k cs ≡ false) (batches_in rs) → Behind acts cs false rs → Behind acts cs false (rs ++ map not_run (asks t o))
ask acts cs t None rs a h = more_act acts cs false t rs refl a h
ask acts cs t (Some older) rs a h = rw (append-nil rs) h

finish : (acts : List Act) (cs : List Cascade) (t : ℕ) (b : Bool) (rs : List Ran) → Behind acts cs false rs → Behind acts cs false (if b then without_standing (OfAct t) rs else map (left_for_good (OfAct t)) rs)
finish acts cs t true rs h = undo acts cs false t rs h
finish acts cs t false rs h = leave acts cs false (OfAct t) rs h

-- what the cascade of batch k does to an ACT that stands behind it
taken_along : (k n settled : ℕ) (x : Act) → settled < k → (is_ordered x.status ≡ true → x.m ≤ settled) → (is_doomed x.status || nat_le k x.m) ≡ true → is_out (book.cascaded k n x) ≡ true
taken_along k n settled x l m a = by x.status (nat_le k x.m) refl _ m a
  where
    by : (st : Status) (b : Bool) → nat_le k x.m ≡ b → (v : Rattle.snap_base.specs.declared.verdicts.Verdict.Verdict) → (is_ordered st ≡ true → x.m ≤ settled) → (is_doomed st || b) ≡ true → is_doomed (if is_live_status st && b then Doomed v else st) ≡ true
    by Live true e v m a = refl
    by Live false e v m a = absurd (true≢false (sym a))
    by (Doomed u) b e v m a = refl
    by (Decided c) true e v m a = absurd (omega (arith, l, leb-true k x.m e, m refl))
    by (Decided c) false e v m a = absurd (true≢false (sym a))
    by (Sealed c) true e v m a = absurd (omega (arith, l, leb-true k x.m e, m refl))
    by (Sealed c) false e v m a = absurd (true≢false (sym a))

above_less : (k n : ℕ) (x : Act) → k ≤ n → is_above n x ≡ true → (is_doomed x.status || nat_le k x.m) ≡ true
above_less k n x l a = elim (or_cases (is_doomed x.status) (nat_le n x.m) a) [ inl q ↦ or_left (is_doomed x.status) _ q | inr q ↦ or_right (is_doomed x.status) _ (le-leb k x.m (omega (arith, l, leb-true n x.m q))) ]

behind_before : {C : Type 0} (w : Fixed C) (e : Event) (s : Machine C) (h : History) → AllBehind s h → (a : ℕ) → Behind (after w e s).book.acts s.book.cascades false (h.long a)
unfolding AllBehind
behind_before w e s h g = λ a. stay s.book.acts (after w e s).book.acts s.book.cascades false (h.long a) (λ t q. out_stays w e s t q) (g a)

behind_moves : {C : Type 0} (w : Fixed C) (e : Event) (s : Machine C) (h : History) → IsAllowed w e s → settling.Settling w s → Placed w s h → Numbers s h → Acts s h → AllBehind s h → ((a : ℕ) → Behind (after w e s).book.acts s.book.cascades false (h.long a)) → AllBehind (after w e s) (grown w e s h)
unfolding AllBehind Placed Numbers Acts conditions after grown
behind_moves w (Arrive k a) s h ok z p n i g f = beside_carried (λ b rs. Behind (after w (Arrive k a) s).book.acts s.book.cascades false rs) a _ h.long (more_batch _ s.book.cascades false k (h.long a)) f
behind_moves w (Ask t a) s h ok z p n i g f =
    let e : (cell_at s a).epoch ≡ length s.book.cascades = eqb-true (cell_at s a).epoch (epoch s.book) (held (λ c. c.epoch == epoch s.book) s.cells a no_cell ok.1.1.1.0) in
    beside_carried (λ b rs. Behind (after w (Ask t a) s).book.acts s.book.cascades false rs) a _ h.long (ask _ s.book.cascades t (book.in_the_way (lock_of t s.book.acts) (cell_at s a).entries) (h.long a) (clean s.ring.next_bid s.book.cascades (cell_at s a).epoch (cell_at s a).tail (batches_in (h.long a)) e (p a).fit)) f
behind_moves w (Run t a) s h ok z p n i g f = beside_carried (λ b rs. Behind s.book.acts s.book.cascades false rs) a _ h.long (TrackLists.on_reads (Behind s.book.acts s.book.cascades false) (cell.reads_on t (cell_at s a).entries) _ _ (h.long a) (ran s.book.acts s.book.cascades false _ _ (h.long a))) f
behind_moves w (Complete k a) s h ok z p n i g f = beside_carried (λ b rs. Behind s.book.acts s.book.cascades false rs) a _ h.long (complete s.book.acts s.book.cascades false k (h.long a)) f
behind_moves w (Abort k) s h ok z p n i g f = λ a. cascade s.book.acts (after w (Abort k) s).book.acts s.book.cascades (record { first = k; upto = s.ring.next_bid - 1; by = book.failed_tx (book.why k s.desk); at = s.book.next_c; code = book.failed_code (book.why k s.desk) }) 0 false false (h.long a)
    (λ t q. out_stays w (Abort k) s t q)
    (λ t m l q. each_to_holds is_out t (after w (Abort k) s).book.acts (in_book w (Abort k) s t (found_some (is_above m) (act_of t s.book.acts) q))
    (acts.each_map (λ u x. (is_ordered x.status ≡ true → x.m ≤ s.desk.settled) × (u ≡ t → is_above m x ≡ true)) (λ u x. u ≡ t → is_out x ≡ true) (book.cascaded k (book.failed_tx (book.why k s.desk))) s.book.acts (λ x. refl)
    (λ u x e v j. taken_along k (book.failed_tx (book.why k s.desk)) s.desk.settled x (settling.aborts_above w s k ok z) v.0 (above_less k m x l (v.1 j))) (λ u x e. ((i u x e).settles, holds_to_each (is_above m) t s.book.acts q u x e))))
    (λ e. absurd (true≢false (sym e))) (n a) (g a)
behind_moves w (Rollback a) s h ok z p n i g f = beside_carried (λ b rs. Behind s.book.acts s.book.cascades false rs) a _ h.long (roll_back s.book.acts s.book.cascades false s.book.cascades (h.long a)) f
behind_moves w (Finish t a) s h ok z p n i g f = beside_carried (λ b rs. Behind (after w (Finish t a) s).book.acts s.book.cascades false rs) a _ h.long (finish _ s.book.cascades t (is_traceless (act_of t s.book.acts)) (h.long a)) f
behind_moves w (Trim k a) s h ok z p n i g f = beside_carried (λ b rs. Behind s.book.acts s.book.cascades false rs) a _ h.long (leave s.book.acts s.book.cascades false (OfBatch k) (h.long a)) f
behind_moves w e s h ok z p n i g f = f

pub behind_kept : {C : Type 0} (w : Fixed C) (e : Event) (s : Machine C) (h : History) → IsAllowed w e s → settling.Settling w s → Placed w s h → Numbers s h → Acts s h → AllBehind s h → AllBehind (after w e s) (grown w e s h)
behind_kept w e s h ok z p n i g = behind_moves w e s h ok z p n i g (behind_before w e s h g)

-- who stands behind an aborted batch is doomed
pub none_bad : (acts : List Act) (cs : List Cascade) (bad : Bool) (t : ℕ) (x : Act) (rs : List Ran) → act_of t acts ≡ Some x → is_doomed x.status ≡ false → Behind acts cs bad rs → is_key_among (OfAct t) (keys_in rs) ≡ true → bad ≡ true → ⊥
none_bad acts cs bad t x [] f d h e b = true≢false (sym e)
none_bad acts cs bad t x (Stands (OfBatch k) c ss ∷ rs) f d h e b = none_bad acts cs (bad || is_aborted k cs) t x rs f d h e (or_left bad _ b)
none_bad acts cs bad t x (Stands (OfAct u) c ss ∷ rs) f d h e b = elim (or_cases (u == t) (is_key_among (OfAct t) (keys_in rs)) e) [
  | inl q ↦ true≢false (sym (subst (λ z. holds is_out z ≡ true) (ap (λ z. act_of z acts) (eqb-true u t q) ∙ f) (h.0 b)) ∙ d)
  | inr q ↦ none_bad acts cs bad t x rs f d h.1 q b
]
none_bad acts cs bad t x (Gone (OfBatch k) ss ∷ rs) f d h e b = none_bad acts cs (bad || is_aborted k cs) t x rs f d h e (or_left bad _ b)
none_bad acts cs bad t x (Gone (OfAct u) ss ∷ rs) f d h e b = none_bad acts cs bad t x rs f d h e b
