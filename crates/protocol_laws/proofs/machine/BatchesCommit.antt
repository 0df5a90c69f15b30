-- A batch that may commit has only committed ones ahead of it.
use Rattle.std.specs.Prelude.{◌≡◌, refl, ℕ, ◌+◌, ◌<◌, ◌==◌, nat_le, not, Bool, true, false, ◌&&◌, ◌||◌, if◌then◌else◌, Option, Some, None, is_some, List, [], ◌∷◌, ◌++◌, map, find}
use Rattle.std.specs.List.{AllByRecursion, list_any, list_all}
use Rattle.std.proofs.Common.{arith, sym, ap, subst, inl, inr, ◌∙◌}
use Rattle.std.proofs.lemmas.Bool.{eqb-true, leb-true, and_parts, or_cases, or_parts, or_left, or_right, true≢false, cases_Bool, false_from_ne_true}
use Rattle.protocol.specs.Cutting.{Ascends}
use Rattle.snap_base.proofs.Booleans.{not_false}
use Rattle.protocol.specs.Fixed.{Fixed, Next, Go, Ended}
use Rattle.protocol.specs.Parts.{Cascade, Who, OfBatch, OfAct, Batch, Pact, Committing, Settled, Declared, SubBatch, Entry, BatchEntry, ActEntry, Outcome, Machine}
use Rattle.protocol.specs.Events.{Event, Form, Arrive, End, Note, Commit, Settle, Abort, Trim}
use Rattle.protocol.specs.Words.{holds, is_among, is_value, is_aborted, is_formed, is_settled, is_open, is_next_to_commit, is_who, is_act_who, batch_of, declared_of, names_pact, sub_of, has_act, outcome_of}
use Rattle.protocol.specs.Contents.{complete_mark}
use Rattle.protocol.specs.Conditions.{IsAllowed, conditions}
use Rattle.protocol.specs.Effects.{after, cell_at}
use Rattle.protocol.specs.OnDesk as desk
use Rattle.protocol.specs.OnCell.{is_cut}
use Rattle.protocol.specs.History.{History, Slice, Ran, Stands, Gone, slices_of, batches_in, batch_in}
use Rattle.protocol_laws.specs.Told.{PactsAscend}
use Rattle.protocol_laws.specs.Tracks.{Key, key_of, keys_in, is_key_among}
use Rattle.protocol_laws.specs.Turns.{Rising, IsPast, Turns}
use Rattle.protocol_laws.specs.Places.{FitsCell}
use Rattle.protocol_laws.specs.Commits.{is_kept, KeptAhead}
use Rattle.protocol_laws.specs.Marks.{is_done, IsAbortedOrDone, Marked, Known}
use Rattle.protocol_laws.specs.FromDesk.{is_declared, is_pact_of, MessageOf, EntryOf, CompleteInOrder, FromDesk}
use Rattle.protocol_laws.proofs.first.EpochsKept as epochs
use Rattle.protocol_laws.proofs.first.SettlingKept as settling
use Rattle.protocol_laws.proofs.machine.TrackLists
use Rattle.protocol_laws.proofs.machine.TracksKept.{Tracked}
use Rattle.protocol_laws.proofs.machine.TurnsKept.{one_is, Turned}
use Rattle.protocol_laws.proofs.machine.PlaceLists
use Rattle.protocol_laws.proofs.machine.PlacesKept.{Placed, message}
use Rattle.protocol_laws.proofs.machine.MarksKept as marks
use Rattle.protocol_laws.proofs.machine.CommitsKept.{MayCommit}
use Rattle.protocol_laws.proofs.first.Lists.{all_back, all_found}
use Rattle.protocol_laws.proofs.first.Statuses.{if_bid}
use Rattle.protocol_laws.proofs.machine.TrailsKept.{new_tids}
pub use Rattle.protocol_laws.proofs.machine.PlaceLists.{ascends_back}

-- ---- PACTs of a batch ascend

unfoldable pub Numbered : {C : Type 0} → Machine C → Type 0
Numbered s = (k : ℕ) (b : Batch) → batch_of k s.desk.batches ≡ Some b → PactsAscend 0 b.pacts

same_tids : (f : Pact → Pact) → ((p : Pact) → (f p).tid ≡ p.tid) → (low : ℕ) (ps : List Pact) → PactsAscend low ps → PactsAscend low (map f ps)
same_tids f i low [] h = tt
same_tids f i low (p ∷ ps) h = (omega (arith, h.0, i p), subst (λ n. PactsAscend (n + 1) (map f ps)) (sym (i p)) (same_tids f i (p.tid + 1) ps h.1))

pub numbered_kept : {C : Type 0} (w : Fixed C) (e : Event) (s : Machine C) → Numbered s → Numbered (after w e s)
unfolding Numbered after
numbered_kept w (Form k) s h j b e = elim (marks.found_more j b _ s.desk.batches e) [ inl q ↦ h j b q | inr q ↦ subst (λ z. PactsAscend 0 z.pacts) q.1 (new_tids 0 s.ring.next_tid _ (omega arith)) ]
numbered_kept {C} w (End t a) s h j b e = by (has_act t (cell_at s a).entries) (outcome_of t (cell_at s a).outbox) e
  where
    result : (v : Bool) (r : Rattle.snap_base.specs.declared.transactions.TxResult.TxResult) (c : Batch) → PactsAscend 0 c.pacts → PactsAscend 0 (if v then c.pacts else map (desk.with_result t r) c.pacts)
    result true r c g = g
    result false r c g = same_tids (desk.with_result t r) (λ p. refl) 0 c.pacts g

    next : (n : Next C) → batch_of j (desk.noted_for t n s.desk.batches) ≡ Some b → PactsAscend 0 b.pacts
    next (Go x y) e = h j b e
    next (Ended r) e = let g = marks.found_mapped (desk.with_results t r) (λ b. refl) j b s.desk.batches e in subst (λ z. PactsAscend 0 z.pacts) g.2 (result g.0.aborted r g.0 (h j g.0 g.1))

    by : (v : Bool) (o : Option (Outcome C)) → batch_of j (if v then s.desk.batches else desk.noted_from t o s.desk.batches) ≡ Some b → PactsAscend 0 b.pacts
    by true o e = h j b e
    by false None e = h j b e
    by false (Some x) e = next x.next e
numbered_kept w (Note k a) s h j b e = let g = marks.found_mapped _ (λ b. if_bid (b.bid == k) (desk.marked a desk.is_noted) b refl) j b s.desk.batches e in subst (λ z. PactsAscend 0 z.pacts) g.2 (same (g.0.bid == k) (desk.marked a desk.is_noted) g.0 (h j g.0 g.1) refl)
  where
    same : (v : Bool) (f : Batch → Batch) (c : Batch) → PactsAscend 0 c.pacts → (f c).pacts ≡ c.pacts → PactsAscend 0 (desk.change_if v f c).pacts
    same true f c g q = rw q g
    same false f c g q = g
numbered_kept w (Trim k a) s h j b e = let g = marks.found_mapped _ (λ b. if_bid (b.bid == k) (desk.marked a desk.is_trimmed) b refl) j b s.desk.batches e in subst (λ z. PactsAscend 0 z.pacts) g.2 (same (g.0.bid == k) (desk.marked a desk.is_trimmed) g.0 (h j g.0 g.1) refl)
  where
    same : (v : Bool) (f : Batch → Batch) (c : Batch) → PactsAscend 0 c.pacts → (f c).pacts ≡ c.pacts → PactsAscend 0 (desk.change_if v f c).pacts
    same true f c g q = rw q g
    same false f c g q = g
numbered_kept w (Commit k) s h j b e = let g = marks.found_mapped _ (λ b. if_bid (b.bid == k) (desk.with_stage Committing) b refl) j b s.desk.batches e in subst (λ z. PactsAscend 0 z.pacts) g.2 (same (g.0.bid == k) (desk.with_stage Committing) g.0 (h j g.0 g.1) refl)
  where
    same : (v : Bool) (f : Batch → Batch) (c : Batch) → PactsAscend 0 c.pacts → (f c).pacts ≡ c.pacts → PactsAscend 0 (desk.change_if v f c).pacts
    same true f c g q = rw q g
    same false f c g q = g
numbered_kept w (Settle k) s h j b e = let g = marks.found_mapped _ (λ b. if_bid (b.bid == k) (desk.with_stage Settled) b refl) j b s.desk.batches e in subst (λ z. PactsAscend 0 z.pacts) g.2 (same (g.0.bid == k) (desk.with_stage Settled) g.0 (h j g.0 g.1) refl)
  where
    same : (v : Bool) (f : Batch → Batch) (c : Batch) → PactsAscend 0 c.pacts → (f c).pacts ≡ c.pacts → PactsAscend 0 (desk.change_if v f c).pacts
    same true f c g q = rw q g
    same false f c g q = g
numbered_kept w (Abort k) s h j b e = let g = marks.found_mapped (desk.taken k) (λ b. refl) j b s.desk.batches e in subst (λ z. PactsAscend 0 z.pacts) g.2 (h j g.0 g.1)
numbered_kept w e s h j b q = h j b q

-- ---- kept, formed, aborted

pub list_all_at : {X : Type 0} (p q : X → Bool) (x : X) (xs : List X) → find p xs ≡ Some x → list_all q xs ≡ true → q x ≡ true
list_all_at p q x [] f h = absurd (cc f)
list_all_at p q x (y ∷ ys) f h = let a = and_parts (q y) (list_all q ys) h in by (p y) f a.0 (λ g. list_all_at p q x ys g a.1)
  where
    by : (b : Bool) → (if b then Some y else find p ys) ≡ Some x → q y ≡ true → (find p ys ≡ Some x → q x ≡ true) → q x ≡ true
    by true f a k = let e : y ≡ x = cc f in subst (λ z. q z ≡ true) e a
    by false f a k = k f

-- a batch that committed has its noted places, and is over there
pub kept_over : {C : Type 0} (s : Machine C) (h : History) (k a : ℕ) → Known s h → Marked s h → is_kept (OfBatch k) h.kept ≡ true → is_declared k a s.desk.batches ≡ true → IsAbortedOrDone k s.book.cascades (h.long a)
unfolding Known Marked
kept_over s h k a n m q d =
    let b = one_is (λ b. true) (batch_of k s.desk.batches) (some_holds (batch_of k s.desk.batches) (n k q)) in
    let g = m k b.0 b.1 in
    over_at k a s.book.cascades h.long b.0 (subst (λ o. holds (λ b. is_some (declared_of a b)) o ≡ true) b.1 d) (g.all_noted (not_false (is_formed b.0.stage) (sym g.known ∙ q))) g.noted
  where
    some_holds : {X : Type 0} (o : Option X) → is_some o ≡ true → holds (λ x. true) o ≡ true
    some_holds None h = absurd (true≢false (sym h))
    some_holds (Some x) h = refl

    over_at : (k a : ℕ) (cs : List Cascade) (long : ℕ → List Ran) (b : Batch) → is_some (declared_of a b) ≡ true → list_all (λ p. p.noted) b.places ≡ true → AllByRecursion (λ p. p.noted ≡ true → IsAbortedOrDone k cs (long p.actor)) b.places → IsAbortedOrDone k cs (long a)
    over_at k a cs long b d n o = by (declared_of a b) refl d
      where
        by : (x : Option Declared) → declared_of a b ≡ x → is_some x ≡ true → IsAbortedOrDone k cs (long a)
        by None e d = absurd (true≢false (sym d))
        by (Some p) e d = let f = all_found _ (λ p. p.actor == a) b.places p o e in subst (λ z. IsAbortedOrDone k cs (long z)) (eqb-true p.actor a f.1) (f.0 (list_all_at (λ p. p.actor == a) (λ p. p.noted) p b.places e n))

pub arrives_fresh : {C : Type 0} (w : Fixed C) (k a : ℕ) (s : Machine C) (h : History) → IsAllowed w (Arrive k a) s → epochs.Agreeing s → Known s h → Marked s h → Placed w s h → FromDesk s → is_kept (OfBatch k) h.kept ≡ false
unfolding conditions Placed
arrives_fresh w k a s h ok ag n m p d = false_from_ne_true (is_kept (OfBatch k) h.kept) (λ q. none (kept_over s h k a n m q (declared (sub_of k a s.post.subs) refl ok.0)))
  where
    declared : (o : Option SubBatch) → sub_of k a s.post.subs ≡ o → is_some o ≡ true → is_declared k a s.desk.batches ≡ true
    declared None e q = absurd (true≢false (sym q))
    declared (Some x) e q =
        let f = all_found (MessageOf s.desk.batches) (λ y. (y.bid == k) && (y.actor == a)) s.post.subs x d.subs e in
        let v = and_parts (x.bid == k) (x.actor == a) f.1 in
        subst (λ z. is_declared z a s.desk.batches ≡ true) (eqb-true x.bid k v.0) (subst (λ z. is_declared x.bid z s.desk.batches ≡ true) (eqb-true x.actor a v.1) f.0.declared)

    none : IsAbortedOrDone k s.book.cascades (h.long a) → ⊥
    none (inl q) = true≢false (sym q ∙ not_false (is_aborted k s.book.cascades) ok.1.0)
    none (inr q) = let g = message w k a s ok ag in omega (arith, g.behind, (marks.at_done (FitsCell s.ring.next_bid s.book.cascades (cell_at s a).epoch (cell_at s a).tail) k (h.long a) q (p a).fit).is_last g.own)

settled_not_formed : (st : Rattle.protocol.specs.Parts.Stage) → is_settled st ≡ true → is_formed st ≡ false
settled_not_formed Settled e = refl
settled_not_formed Committing e = refl
settled_not_formed _ e = absurd (true≢false (sym e))

pub trims_kept : {C : Type 0} (w : Fixed C) (k a : ℕ) (s : Machine C) (h : History) → IsAllowed w (Trim k a) s → Marked s h → is_kept (OfBatch k) h.kept ≡ true
unfolding conditions Marked
trims_kept w k a s h ok m =
    let b = one_is (λ b. is_settled b.stage && (not b.aborted && holds (λ p. not p.trimmed) (declared_of a b))) (batch_of k s.desk.batches) ok.0 in
    (m k b.0 b.1).known ∙ ap not (settled_not_formed b.0.stage (and_parts (is_settled b.0.stage) (not b.0.aborted && holds (λ p. not p.trimmed) (declared_of a b.0)) b.2).0)

pub cuts_fresh : {C : Type 0} (w : Fixed C) (s : Machine C) (h : History) → settling.Settling w s → Known s h → Marked s h → (y : Who) → is_cut s.book.cascades y ≡ true → is_kept y h.kept ≡ false
unfolding Known Marked
cuts_fresh w s h g n m (OfBatch k) e = false_from_ne_true (is_kept (OfBatch k) h.kept) (λ q. by (batch_of k s.desk.batches) refl (n k q) q)
  where
    by : (o : Option Batch) → batch_of k s.desk.batches ≡ o → is_some o ≡ true → is_kept (OfBatch k) h.kept ≡ true → ⊥
    by None f v q = true≢false (sym v)
    by (Some b) f v q = true≢false (sym (settling.aborted_formed w s k b f g e) ∙ not_false (is_formed b.stage) (sym (m k b f).known ∙ q))
cuts_fresh w s h g n m (OfAct t) e = absurd (true≢false (sym e))

-- ---- what is ahead of a complete batch

abbrev pub KeyOrder : List Key → Type 0
KeyOrder [] = Unit {0}
KeyOrder (k ∷ ks) = (list_any (λ x. x.complete) ks ≡ true → k.complete ≡ true) × KeyOrder ks

any_keys : (es : List Entry) → list_any (λ x. x.complete) (map key_of es) ≡ list_any complete_mark es
any_keys [] = refl
any_keys (e ∷ es) = ap (λ z. complete_mark e || z) (any_keys es)

pub key_order : (es : List Entry) → CompleteInOrder es → KeyOrder (map key_of es)
key_order [] h = tt
key_order (e ∷ es) h = (λ q. h.0 (sym (any_keys es) ∙ q), key_order es h.1)

abbrev pub OfDesk : ℕ → List Batch → Who → Type 0
OfDesk a bs (OfBatch j) = is_declared j a bs ≡ true
OfDesk a bs (OfAct t) = Unit {0}

abbrev pub GoodKey : ℕ → List Batch → Key → Type 0
GoodKey a bs k = OfDesk a bs k.who × (k.complete ≡ true → is_act_who k.who ≡ false)

pub good_keys : (a : ℕ) (bs : List Batch) (es : List Entry) → AllByRecursion (EntryOf a bs) es → AllByRecursion (GoodKey a bs) (map key_of es)
good_keys a bs [] h = tt
good_keys a bs (BatchEntry b ∷ es) h = ((h.0.0, λ q. refl), good_keys a bs es h.1)
good_keys a bs (ActEntry x ∷ es) h = ((tt, λ q. absurd (true≢false (sym q))), good_keys a bs es h.1)

pub not_among_ahead : (kept : List Who) (who : Who) (rs : List Ran) → is_key_among who (keys_in rs) ≡ false → KeptAhead kept who rs
not_among_ahead kept who [] h = tt
not_among_ahead kept who (Stands y c ss ∷ rs) h = let p = or_parts (is_who y who) (is_key_among who (keys_in rs)) h in (λ q. absurd (true≢false (sym q ∙ p.1)), not_among_ahead kept who rs p.1)
not_among_ahead kept who (Gone y ss ∷ rs) h = not_among_ahead kept who rs h

-- no number is below itself: it does not stand behind itself
pub not_again : (k : ℕ) (rs : List Ran) → AllByRecursion (λ j. k < j) (batches_in rs) → is_key_among (OfBatch k) (keys_in rs) ≡ false
not_again k rs h = false_from_ne_true (is_key_among (OfBatch k) (keys_in rs)) (λ q. omega (arith, PlaceLists.at_key (λ j. k < j) k rs q h))

pub own_above : (y : Who) (k : ℕ) (ks : List ℕ) → is_who y (OfBatch k) ≡ true → Ascends (batch_in y ++ ks) → AllByRecursion (λ j. k < j) ks
own_above y k ks e h = (subst (λ z. Ascends (batch_in z ++ ks)) (TrackLists.is_who_true y (OfBatch k) e) h).0

pub done_complete : (k : ℕ) (rs : List Ran) → is_done k rs ≡ true → is_key_among (OfBatch k) (keys_in rs) ≡ true → Ascends (batches_in rs) → list_any (λ x. x.complete) (keys_in rs) ≡ true
done_complete k [] d e a = absurd (true≢false (sym d))
done_complete k (Gone y ss ∷ rs) d e a = elim (or_cases (is_who y (OfBatch k)) (is_done k rs) d) [
  | inl q ↦ absurd (true≢false (sym e ∙ not_again k rs (own_above y k (batches_in rs) q a)))
  | inr q ↦ done_complete k rs q e (ascends_back (batch_in y) (batches_in rs) a)
]
done_complete k (Stands y c ss ∷ rs) d e a = elim (or_cases (c && is_who y (OfBatch k)) (is_done k rs) d) [
  | inl q ↦ or_left c _ (and_parts c (is_who y (OfBatch k)) q).0
  | inr q ↦ elim (or_cases (is_who y (OfBatch k)) (is_key_among (OfBatch k) (keys_in rs)) e) [
    | inl v ↦ absurd (omega (arith, marks.at_done (λ j. k < j) k rs q (own_above y k (batches_in rs) v a)))
    | inr v ↦ or_right c _ (done_complete k rs q v (ascends_back (batch_in y) (batches_in rs) a))
  ]
]

pub ahead_kept : (kept : List Who) (k a next ep tail : ℕ) (cs : List Cascade) (bs : List Batch) (rs : List Ran) → is_aborted k cs ≡ false → ((j : ℕ) → is_declared j a bs ≡ true → j < k → is_aborted j cs ≡ false → is_kept (OfBatch j) kept ≡ true)
    → is_done k rs ≡ true → KeyOrder (keys_in rs) → AllByRecursion (GoodKey a bs) (keys_in rs) → AllByRecursion (FitsCell next cs ep tail) (batches_in rs) → Ascends (batches_in rs) → KeptAhead kept (OfBatch k) rs
ahead_kept kept k a next ep tail cs bs [] n f d o g ft asc = tt
ahead_kept kept k a next ep tail cs bs (Gone y ss ∷ rs) n f d o g ft asc = elim (or_cases (is_who y (OfBatch k)) (is_done k rs) d) [
  | inl q ↦ not_among_ahead kept (OfBatch k) rs (not_again k rs (own_above y k (batches_in rs) q asc))
  | inr q ↦ ahead_kept kept k a next ep tail cs bs rs n f q o g (all_back (FitsCell next cs ep tail) (batch_in y) (batches_in rs) ft) (ascends_back (batch_in y) (batches_in rs) asc)
]
ahead_kept kept k a next ep tail cs bs (Stands (OfAct t) c ss ∷ rs) n f d o g ft asc = elim (or_cases (c && false) (is_done k rs) d) [
  | inl q ↦ absurd (true≢false (sym (and_parts c false q).1))
  | inr q ↦ (λ v. absurd (true≢false (g.0.1 (o.0 (done_complete k rs q v asc)))), ahead_kept kept k a next ep tail cs bs rs n f q o.1 g.1 ft asc)
]
ahead_kept kept k a next ep tail cs bs (Stands (OfBatch x) c ss ∷ rs) n f d o g ft asc = elim (or_cases (c && (x == k)) (is_done k rs) d) [
  | inl q ↦
      let e : x ≡ k = eqb-true x k (and_parts c (x == k) q).1 in
      let none = not_again k rs (subst (λ z. AllByRecursion (λ j. z < j) (batches_in rs)) e asc.0) in
      (λ v. absurd (true≢false (sym v ∙ none)), not_among_ahead kept (OfBatch k) rs none)
  | inr q ↦
      let l : x < k = marks.at_done (λ j. x < j) k rs q asc.0 in
      let m = marks.at_done (FitsCell next cs ep tail) k rs q ft.1 in (
        λ v. f x g.0.0 l (false_from_ne_true (is_aborted x cs) (λ b. true≢false (sym (PlaceLists.suffix x k cs b (omega (arith, l)) (omega (arith, ft.0.aborted b, m.placed))) ∙ n))),
        ahead_kept kept k a next ep tail cs bs rs n f q o.1 g.1 ft.1 asc.1,
      )
]

-- ---- the slices of a batch

pub batch_slices : (k a : ℕ) (bs : List Batch) (rs : List Ran) (es : List Entry) → Turns rs es → AllByRecursion (EntryOf a bs) es → Rising 0 (slices_of (OfBatch k) rs) × AllByRecursion (λ x. is_pact_of x.tid k bs ≡ true) (slices_of (OfBatch k) rs)
batch_slices k a bs [] [] h f = (tt, tt)
batch_slices k a bs [] (e ∷ es) h f = absurd h
batch_slices k a bs (Gone y ss ∷ rs) es h f = batch_slices k a bs rs es h f
batch_slices k a bs (Stands y c ss ∷ rs) [] h f = absurd h
batch_slices k a bs (Stands y c ss ∷ rs) (BatchEntry b ∷ es) h f = subst (λ z. Rising 0 (if is_who z (OfBatch k) then ss else slices_of (OfBatch k) rs) × AllByRecursion (λ x. is_pact_of x.tid k bs ≡ true) (if is_who z (OfBatch k) then ss else slices_of (OfBatch k) rs)) h.0
    (by (b.bid == k) refl (batch_slices k a bs rs es h.2 f.1))
  where
    named : (u : ℕ) (ss : List Rattle.protocol.specs.Parts.Slot) → list_any (λ s. s.tid == u) ss ≡ true → AllByRecursion (λ s. is_pact_of s.tid b.bid bs ≡ true) ss → is_pact_of u b.bid bs ≡ true
    named u [] e g = absurd (true≢false (sym e))
    named u (s ∷ ss) e g = elim (or_cases (s.tid == u) (list_any (λ s. s.tid == u) ss) e) [ inl q ↦ subst (λ z. is_pact_of z b.bid bs ≡ true) (eqb-true s.tid u q) g.0 | inr q ↦ named u ss q g.1 ]

    each : (ss : List Slice) → AllByRecursion (λ x. IsPast b.slots x.tid) ss → AllByRecursion (λ x. is_pact_of x.tid b.bid bs ≡ true) ss
    each [] g = tt
    each (x ∷ xs) g = (named x.tid b.slots g.0.0 f.0.1, each xs g.1)

    by : (q : Bool) → (b.bid == k) ≡ q → Rising 0 (slices_of (OfBatch k) rs) × AllByRecursion (λ x. is_pact_of x.tid k bs ≡ true) (slices_of (OfBatch k) rs)
        → Rising 0 (if q then ss else slices_of (OfBatch k) rs) × AllByRecursion (λ x. is_pact_of x.tid k bs ≡ true) (if q then ss else slices_of (OfBatch k) rs)
    by true e g = (h.1.0, subst (λ z. AllByRecursion (λ x. is_pact_of x.tid z bs ≡ true) ss) (eqb-true b.bid k e) (each ss h.1.1))
    by false e g = g
batch_slices k a bs (Stands y c ss ∷ rs) (ActEntry x ∷ es) h f = subst (λ z. Rising 0 (if is_who z (OfBatch k) then ss else slices_of (OfBatch k) rs) × AllByRecursion (λ x. is_pact_of x.tid k bs ≡ true) (if is_who z (OfBatch k) then ss else slices_of (OfBatch k) rs)) h.0
    (batch_slices k a bs rs es h.2 f.1)

pub of_pacts : (b : Batch) (ss : List Slice) (o : Option Batch) → o ≡ Some b → AllByRecursion (λ x. holds (names_pact x.tid) o ≡ true) ss → AllByRecursion (λ x. is_among x.tid (map (λ p. p.tid) b.pacts) ≡ true) ss
of_pacts b [] o e h = tt
of_pacts b (x ∷ xs) o e h = (among x.tid b.pacts (subst (λ z. holds (names_pact x.tid) z ≡ true) e h.0), of_pacts b xs o e h.1)
  where
    among : (t : ℕ) (ps : List Pact) → list_any (λ p. p.tid == t) ps ≡ true → is_among t (map (λ p. p.tid) ps) ≡ true
    among t [] h = h
    among t (p ∷ ps) h = elim (or_cases (p.tid == t) (list_any (λ p. p.tid == t) ps) h) [ inl q ↦ or_left (p.tid == t) _ q | inr q ↦ or_right (p.tid == t) _ (among t ps q) ]

-- ---- a batch may commit

all_values : (ps : List Pact) → list_all (λ p. is_value p.result) ps ≡ true → AllByRecursion (λ p. is_value p.result ≡ true) ps
all_values [] h = tt
all_values (p ∷ ps) h = let q = and_parts (is_value p.result) (list_all (λ p. is_value p.result) ps) h in (q.0, all_values ps q.1)

pub may_commit : {C : Type 0} (w : Fixed C) (k : ℕ) (s : Machine C) (h : History) → IsAllowed w (Commit k) s → settling.Settling w s → Known s h → Marked s h → Placed w s h → Tracked w s h → Turned s h → FromDesk s → Numbered s → (b : Batch) × MayCommit s h k b
unfolding conditions Marked Placed Tracked Turned Numbered
may_commit w k s h ok g n m p t u d nu =
    let b = one_is (λ b. is_open b && is_next_to_commit k s.desk.batches) (batch_of k s.desk.batches) ok.0 in
    let v = and_parts (is_open b.0) (is_next_to_commit k s.desk.batches) b.2 in
    let o = and_parts (is_formed b.0.stage) (not b.0.aborted) v.0 in
    let sound : is_aborted k s.book.cascades ≡ false = sym (settling.mark_is w s k b.0 b.1 g) ∙ not_false b.0.aborted o.1 in
    let noted : list_all (λ p. p.noted) b.0.places ≡ true = subst (λ z. holds (λ b. list_all (λ p. p.noted) b.places) z ≡ true) b.1 ok.1.1.0 in (
      b.0,
      record {
        is_it = b.1;
        fresh = (m k b.0 b.1).known ∙ ap not o.0;
        ascend = nu k b.0 b.1;
        values = all_values b.0.pacts (subst (λ z. holds (λ b. list_all (λ p. is_value p.result) b.pacts) z ≡ true) b.1 ok.1.0);
        ahead = λ a. ahead a b.0 b.1 sound noted v.1;
        rising = λ a. (batch_slices k a s.desk.batches (h.long a) (cell_at s a).entries (u a) (d.entries a)).0;
        of_it = λ a. of_pacts b.0 (slices_of (OfBatch k) (h.long a)) (batch_of k s.desk.batches) b.1 (batch_slices k a s.desk.batches (h.long a) (cell_at s a).entries (u a) (d.entries a)).1;
      },
    )
  where
    next : (j : ℕ) → is_next_to_commit k s.desk.batches ≡ true → j < k → is_aborted j s.book.cascades ≡ false → (o : Option Batch) → batch_of j s.desk.batches ≡ o → is_some o ≡ true → is_kept (OfBatch j) h.kept ≡ true
    next j v l e None f q = absurd (true≢false (sym q))
    next j v l e (Some c) f q =
        let i : c.bid ≡ j = eqb-true c.bid j (marks.found_bid j c s.desk.batches f) in
        elim (or_cases (nat_le k c.bid) (c.aborted || is_settled c.stage) (list_all_at (λ b. b.bid == j) (λ b. nat_le k b.bid || (b.aborted || is_settled b.stage)) c s.desk.batches f v)) [
          | inl x ↦ absurd (omega (arith, leb-true k c.bid x, i, l))
          | inr x ↦ elim (or_cases c.aborted (is_settled c.stage) x) [
            | inl y ↦ absurd (true≢false (sym y ∙ (settling.mark_is w s j c f g ∙ e)))
            | inr y ↦ (m j c f).known ∙ ap not (settled_not_formed c.stage y)
          ]
        ]

    some_of : {X : Type 0} (q : X → Bool) (o : Option X) → holds q o ≡ true → is_some o ≡ true
    some_of q None h = absurd (true≢false (sym h))
    some_of q (Some x) h = refl

    at_place : (a : ℕ) (b : Batch) → is_some (declared_of a b) ≡ true → list_all (λ p. p.noted) b.places ≡ true → AllByRecursion (λ p. p.noted ≡ true → IsAbortedOrDone k s.book.cascades (h.long p.actor)) b.places → IsAbortedOrDone k s.book.cascades (h.long a)
    at_place a b q n o = by (declared_of a b) refl q
      where
        by : (x : Option Declared) → declared_of a b ≡ x → is_some x ≡ true → IsAbortedOrDone k s.book.cascades (h.long a)
        by None e d = absurd (true≢false (sym d))
        by (Some p) e d = let f = all_found _ (λ p. p.actor == a) b.places p o e in subst (λ z. IsAbortedOrDone k s.book.cascades (h.long z)) (eqb-true p.actor a f.1) (f.0 (list_all_at (λ p. p.actor == a) (λ p. p.noted) p b.places e n))

    declared : (a : ℕ) (ks : List Key) → is_key_among (OfBatch k) ks ≡ true → AllByRecursion (GoodKey a s.desk.batches) ks → is_declared k a s.desk.batches ≡ true
    declared a [] e f = absurd (true≢false (sym e))
    declared a (x ∷ xs) e f = elim (or_cases (is_who x.who (OfBatch k)) (is_key_among (OfBatch k) xs) e) [ inl q ↦ subst (OfDesk a s.desk.batches) (TrackLists.is_who_true x.who (OfBatch k) q) f.0.0 | inr q ↦ declared a xs q f.1 ]

    ahead : (a : ℕ) (b : Batch) → batch_of k s.desk.batches ≡ Some b → is_aborted k s.book.cascades ≡ false → list_all (λ p. p.noted) b.places ≡ true → is_next_to_commit k s.desk.batches ≡ true → KeptAhead h.kept (OfBatch k) (h.long a)
    ahead a b f e q v =
        let good : AllByRecursion (GoodKey a s.desk.batches) (keys_in (h.long a)) = subst (AllByRecursion (GoodKey a s.desk.batches)) (t a).stands (good_keys a s.desk.batches (cell_at s a).entries (d.entries a)) in
        elim (cases_Bool (is_key_among (OfBatch k) (keys_in (h.long a)))) [
          | inr x ↦ not_among_ahead h.kept (OfBatch k) (h.long a) x
          | inl x ↦ over good (at_place a b (subst (λ z. holds (λ b. is_some (declared_of a b)) z ≡ true) f (declared a (keys_in (h.long a)) x good)) q (m k b f).noted)
        ]
      where
        over : AllByRecursion (GoodKey a s.desk.batches) (keys_in (h.long a)) → IsAbortedOrDone k s.book.cascades (h.long a) → KeptAhead h.kept (OfBatch k) (h.long a)
        over good (inl y) = absurd (true≢false (sym y ∙ e))
        over good (inr y) = ahead_kept h.kept k a s.ring.next_bid (cell_at s a).epoch (cell_at s a).tail s.book.cascades s.desk.batches (h.long a) e (λ j x l z. next j v l z (batch_of j s.desk.batches) refl (some_of _ (batch_of j s.desk.batches) x)) y
            (subst KeyOrder (t a).stands (key_order (cell_at s a).entries (d.in_order a))) good (p a).fit (p a).ascends
