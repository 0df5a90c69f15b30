-- On an actor where PACTs of a batch that is next to commit ran, all ahead of it committed, and they ran by tid.
use Rattle.std.specs.Prelude.{◌≡◌, refl, ℕ, ◌+◌, ◌<◌, ◌==◌, Bool, true, false, if◌then◌else◌, List, [], ◌∷◌, ◌++◌, map}
use Rattle.std.specs.List.{AllByRecursion}
use Rattle.std.proofs.Common.{arith, sym, subst, ◌∙◌}
use Rattle.std.proofs.lemmas.Bool.{eqb-true, true≢false, false_from_ne_true}
use Rattle.protocol.specs.Cutting.{Ascends}
use Rattle.snap_base.specs.declared.transactions.State.{State}
use Rattle.protocol.specs.Parts.{Cascade, Who, OfBatch, OfAct, Batch, Pact}
use Rattle.protocol.specs.Words.{is_among, is_value, is_aborted, is_who}
use Rattle.protocol.specs.History.{History, Slice, Ran, Stands, Gone, slices_of, batches_in, batch_in, view_in, done_pact}
use Rattle.protocol_laws.specs.Told.{PactsAscend}
use Rattle.protocol_laws.specs.Tracks.{keys_in, is_key_among, slices_in, InOrder, Linked}
use Rattle.protocol_laws.specs.Turns.{Rising}
use Rattle.protocol_laws.specs.Places.{FitsCell}
use Rattle.protocol_laws.specs.Commits.{is_kept, KeptAhead, StatesLink, left_of}
use Rattle.protocol_laws.specs.FromDesk.{is_declared}
use Rattle.protocol_laws.proofs.machine.PlaceLists
use Rattle.protocol_laws.proofs.machine.BatchesCommit.{GoodKey, not_again, not_among_ahead, ascends_back}
use Rattle.protocol_laws.proofs.machine.CommitLists.{span, rising_from, among_rest, views_rest}
use Rattle.protocol_laws.proofs.first.Lists.{all_back}

-- ---- all ahead committed

both_empty : {X : Type 0} (xs ys : List X) → xs ++ ys ≡ [] → (xs ≡ []) × (ys ≡ [])
both_empty [] ys e = (refl, e)
both_empty (x ∷ xs) ys e = absurd (cc e)

none_ran : (who : Who) (rs : List Ran) → slices_in rs ≡ [] → slices_of who rs ≡ []
none_ran who [] e = refl
none_ran who (Stands y c ss ∷ rs) e = let p = both_empty ss (slices_in rs) e in by (is_who y who) p.0 (none_ran who rs p.1)
  where
    by : (b : Bool) → ss ≡ [] → slices_of who rs ≡ [] → (if b then ss else slices_of who rs) ≡ []
    by true h g = h
    by false h g = g
none_ran who (Gone y ss ∷ rs) e = none_ran who rs (both_empty ss (slices_in rs) e).1

behind_one : (y who : Who) (ss : List Slice) (rs : List Ran) → is_who y who ≡ false → ((if is_who y who then ss else slices_of who rs) ≡ [] → ⊥) → slices_of who rs ≡ [] → ⊥
behind_one y who ss rs e n q = n (rw e q)

pub ahead_ran : (kept : List Who) (k a next ep tail : ℕ) (cs : List Cascade) (bs : List Batch) (rs : List Ran) → is_aborted k cs ≡ false → ((j : ℕ) → is_declared j a bs ≡ true → j < k → is_aborted j cs ≡ false → is_kept (OfBatch j) kept ≡ true)
    → (slices_of (OfBatch k) rs ≡ [] → ⊥) → InOrder rs → AllByRecursion (GoodKey a bs) (keys_in rs) → AllByRecursion (FitsCell next cs ep tail) (batches_in rs) → Ascends (batches_in rs) → KeptAhead kept (OfBatch k) rs
ahead_ran kept k a next ep tail cs bs [] n f d o g ft asc = tt
ahead_ran kept k a next ep tail cs bs (Gone y ss ∷ rs) n f d o g ft asc =
    ahead_ran kept k a next ep tail cs bs rs n f d o g (all_back (FitsCell next cs ep tail) (batch_in y) (batches_in rs) ft) (ascends_back (batch_in y) (batches_in rs) asc)
ahead_ran kept k a next ep tail cs bs (Stands (OfAct t) c ss ∷ rs) n f d o g ft asc = (λ v. absurd (by c o.0 g.0.1), ahead_ran kept k a next ep tail cs bs rs n f d o.1 g.1 ft asc)
  where
    by : (b : Bool) → (b ≡ false → slices_in rs ≡ []) → (b ≡ true → true ≡ false) → ⊥
    by true i j = true≢false (j refl)
    by false i j = d (none_ran (OfBatch k) rs (i refl))
ahead_ran kept k a next ep tail cs bs (Stands (OfBatch x) c ss ∷ rs) n f d o g ft asc = by (x == k) refl (λ q. ahead_ran kept k a next ep tail cs bs rs n f (behind_one (OfBatch x) (OfBatch k) ss rs q d) o.1 g.1 ft.1 asc.1)
  where
    by : (b : Bool) → (x == k) ≡ b → ((x == k) ≡ false → KeptAhead kept (OfBatch k) rs) → (is_key_among (OfBatch k) (keys_in rs) ≡ true → is_kept (OfBatch x) kept ≡ true) × KeptAhead kept (OfBatch k) rs
    by true q r =
        let none = not_again k rs (subst (λ z. AllByRecursion (λ j. z < j) (batches_in rs)) (eqb-true x k q) asc.0) in
        (λ v. absurd (true≢false (sym v ∙ none)), not_among_ahead kept (OfBatch k) rs none)
    by false q r = (
      λ v.
          let l : x < k = PlaceLists.at_key (λ j. x < j) k rs v asc.0 in
          let m = PlaceLists.at_key (FitsCell next cs ep tail) k rs v ft.1 in
          f x g.0.0 l (false_from_ne_true (is_aborted x cs) (λ b. true≢false (sym (PlaceLists.suffix x k cs b (omega (arith, l)) (omega (arith, ft.0.aborted b, m.placed))) ∙ n))),
      r q,
    )

-- ---- the PACTs up to one of them, by tid

lower : (n : ℕ) (xs : List Slice) → Rising n xs → Rising 0 xs
lower n [] h = tt
lower n (x ∷ xs) h = (omega arith, h.1)

pub pacts_link : (k a low : ℕ) (h : History) (last to : State) (front : List Pact) (p : Pact) (rest : List Pact) (ss : List Slice) → PactsAscend low (front ++ p ∷ rest) → Rising 0 ss → AllByRecursion (λ x. is_among x.tid (map (λ p. p.tid) (front ++ p ∷ rest)) ≡ true) ss
    → AllByRecursion (λ p. is_value p.result ≡ true) front → AllByRecursion (λ p. view_in p.tid (slices_of (OfBatch k) (h.long a)) ≡ view_in p.tid ss) (front ++ p ∷ rest) → Linked last ss to → StatesLink a last (map (done_pact k h) (front ++ p ∷ []))
pacts_link k a low h last to [] p rest ss asc r am v same l =
    let g = span (λ x. is_among x.tid (map (λ p. p.tid) (p ∷ rest)) ≡ true) p.tid last to ss (rising_from 0 p.tid (p ∷ rest) ss (omega arith, asc.1) am r) am l in
    (rw same.0 g.finds, tt)
pacts_link k a low h last to (q ∷ front) p rest ss asc r am v same l =
    let ps = front ++ p ∷ rest in
    let g = span (λ x. is_among x.tid (map (λ p. p.tid) (q ∷ ps)) ≡ true) q.tid last to ss (rising_from 0 q.tid (q ∷ ps) ss (omega arith, asc.1) am r) am l in
    let more = pacts_link k a (q.tid + 1) h g.mid to front p rest g.rest asc.1 (lower (q.tid + 1) g.rest g.rising) (among_rest q ps (q.tid + 1) g.rest (omega arith) g.each g.rising) v.1 (views_rest (slices_of (OfBatch k) (h.long a)) ss g.rest q.tid ps asc.1 g.others same.1) g.links in
    let next : left_of a (done_pact k h q) last ≡ g.mid = rw (v.0, same.0) g.left in
    (rw same.0 g.finds, subst (λ z. StatesLink a z (map (done_pact k h) (front ++ p ∷ []))) (sym next) more)
