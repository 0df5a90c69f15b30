-- Sub-batches that ascend by actor: the place of an actor among them, and what is told there.
use Rattle.std.proofs.Common.{◌≡◌, ℕ, suc, zero, Some, ◌-◌, ◌+◌, ◌<◌, ◌≤◌, Bool, true, false, cond, eqb, ltb, List, [], ◌∷◌, ◌++◌, length, map, take, drop, get_or, set, refl, ap, sym, ◌∙◌, subst, arith}
use Rattle.std.specs.List.{insert, slice_get}
use Rattle.std.specs.List.Sorted.{IsNonDecreasingBy, IsPartitionPoint, IsPartitionedBy}
use Rattle.std.proofs.lemmas.Bool.{cond-true, cond-false, cond_both, ltb-true, ltb-false, eq-eqb, eqb-false, ne_eqb}
use Rattle.std.proofs.lemmas.List.{map-append, length-map, set_split, map-set, take-map, drop-map, get_or-map, drop_more}
use Rattle.std.proofs.lemmas.List.Sorted.{IsPartitionedBy-ltb}
use Rattle.snap_base.specs.declared.transactions.SubBatch as base
use Rattle.protocol.specs.Parts.{SubBatch}
use Rattle.snap_base.specs.declared.ids.Tid.{Tid}
use Rattle.protocol.specs.Meant.{sub_batch, subs_actor, tid_number}
use Rattle.token_ring.specs.Told.{ends_with, leading, with_tid, told_here, told_among, ActorsAscend}

abbrev pub sub_actor : SubBatch → ℕ
sub_actor s = s.actor

pub actors_meant : (xs : List base.SubBatch) → map sub_actor (map sub_batch xs) ≡ map subs_actor xs
actors_meant [] = refl
actors_meant (x ∷ xs) = ap (λ ys. subs_actor x ∷ ys) (actors_meant xs)

-- ---- what is told, by place

told_split_step : (b : Bool) (t n : ℕ) (own s : SubBatch) (ss : List SubBatch)
    → cond b (s ∷ (take n ss ++ told_here t own (drop n ss))) (told_here t own (s ∷ ss)) ≡ take (cond b (suc n) 0) (s ∷ ss) ++ told_here t own (drop (cond b (suc n) 0) (s ∷ ss))
told_split_step true t n own s ss = refl
told_split_step false t n own s ss = refl

pub told_split : (t : ℕ) (own : SubBatch) (ss : List SubBatch)
    → told_among t own ss ≡ take (leading own.actor (map sub_actor ss)) ss ++ told_here t own (drop (leading own.actor (map sub_actor ss)) ss)
told_split t own [] = refl
told_split t own (s ∷ ss) =
    ap (λ x. cond (ltb s.actor own.actor) (s ∷ x) (told_here t own (s ∷ ss))) (told_split t own ss)
    ∙ told_split_step (ltb s.actor own.actor) t (leading own.actor (map sub_actor ss)) own s ss

told_at : (t : ℕ) (own : SubBatch) (ss : List SubBatch) (i : ℕ) → i ≡ leading own.actor (map sub_actor ss) → told_among t own ss ≡ take i ss ++ told_here t own (drop i ss)
told_at t own ss i e = told_split t own ss ∙ ap (λ n. take n ss ++ told_here t own (drop n ss)) (sym e)

told_there : (t : ℕ) (own : SubBatch) (ss : List SubBatch) (i : ℕ) (d : SubBatch) → i ≡ leading own.actor (map sub_actor ss) → i < length ss → (get_or ss i d).actor ≡ own.actor
    → told_among t own ss ≡ set ss i (with_tid t (get_or ss i d))
told_there t own ss i d e l same =
    let next : i + 1 ≡ suc i = omega arith in
    told_at t own ss i e
    ∙ ap (λ rest. take i ss ++ told_here t own rest) (drop_more ss i d l)
    ∙ ap (λ here. take i ss ++ here) (cond-true (eqb (get_or ss i d).actor own.actor) _ _ (eq-eqb _ _ same))
    ∙ ap (λ n. take i ss ++ with_tid t (get_or ss i d) ∷ drop n ss) next
    ∙ sym (set_split ss i (with_tid t (get_or ss i d)) l)

told_new_here : (t : ℕ) (own : SubBatch) (ss : List SubBatch) → ((s : SubBatch) (more : List SubBatch) → ss ≡ s ∷ more → s.actor ≡ own.actor → ⊥) → told_here t own ss ≡ own ∷ ss
told_new_here t own [] h = refl
told_new_here t own (s ∷ ss) h = cond-false (eqb s.actor own.actor) _ _ (ne_eqb _ _ (h s ss refl))

told_new : (t : ℕ) (own : SubBatch) (ss : List SubBatch) (i : ℕ) → i ≡ leading own.actor (map sub_actor ss) → ((s : SubBatch) (more : List SubBatch) → drop i ss ≡ s ∷ more → s.actor ≡ own.actor → ⊥)
    → told_among t own ss ≡ take i ss ++ own ∷ drop i ss
told_new t own ss i e h = told_at t own ss i e ∙ ap (λ here. take i ss ++ here) (told_new_here t own (drop i ss) h)

-- ---- the same of what the code holds

pub told_in_place : (t : ℕ) (own : SubBatch) (xs : List base.SubBatch) (i : ℕ) (y d : base.SubBatch)
    → i ≡ leading own.actor (map subs_actor xs) → i < length xs → (get_or xs i d).actor.0 ≡ own.actor → sub_batch y ≡ with_tid t (sub_batch (get_or xs i d))
    → map sub_batch (set xs i y) ≡ told_among t own (map sub_batch xs)
told_in_place t own xs i y d e l same is =
    let at : get_or (map sub_batch xs) i (sub_batch d) ≡ sub_batch (get_or xs i d) = get_or-map sub_batch xs i d (sub_batch d) l in
    map-set sub_batch xs i y
    ∙ ap (λ s. set (map sub_batch xs) i s) (is ∙ ap (λ s. with_tid t s) (sym at))
    ∙ sym (told_there t own (map sub_batch xs) i (sub_batch d) (e ∙ ap (λ bs. leading own.actor bs) (sym (actors_meant xs))) (rw length-map l) (ap (λ s. s.actor) at ∙ same))

drop_at : (xs : List base.SubBatch) (i : ℕ) (d : base.SubBatch) (s : SubBatch) (more : List SubBatch) → drop i (map sub_batch xs) ≡ s ∷ more → (i < length xs) × (s ≡ sub_batch (get_or xs i d))
drop_at [] zero d s more h = absurd (cc)
drop_at [] (suc i) d s more h = absurd (cc)
drop_at (x ∷ xs) zero d s more h = (omega arith, cc)
drop_at (x ∷ xs) (suc i) d s more h = let p = drop_at xs i d s more h in (omega (arith, p.0), p.1)

pub told_inserted : (t : ℕ) (own : SubBatch) (xs : List base.SubBatch) (i : ℕ) (y d : base.SubBatch)
    → i ≡ leading own.actor (map subs_actor xs) → (i < length xs → (get_or xs i d).actor.0 ≡ own.actor → ⊥) → sub_batch y ≡ own
    → map sub_batch (insert xs i y) ≡ told_among t own (map sub_batch xs)
told_inserted t own xs i y d e other is =
    map-append sub_batch (take i xs) (y ∷ drop i xs)
    ∙ ap (λ s. map sub_batch (take i xs) ++ s ∷ map sub_batch (drop i xs)) is
    ∙ ap (λ front. front ++ own ∷ map sub_batch (drop i xs)) (sym (take-map sub_batch i xs))
    ∙ ap (λ back. take i (map sub_batch xs) ++ own ∷ back) (sym (drop-map sub_batch i xs))
    ∙ sym (told_new t own (map sub_batch xs) i (e ∙ ap (λ bs. leading own.actor bs) (sym (actors_meant xs)))
    (λ s more h same. let p = drop_at xs i d s more h in other p.0 (ap (λ z. z.actor) (sym p.1) ∙ same)))

-- ---- they ascend

told_here_ascends : (t : ℕ) (own : SubBatch) (s : SubBatch) (ss : List SubBatch) (low : ℕ) → ActorsAscend low (s ∷ ss) → low ≤ own.actor → own.actor ≤ s.actor → ActorsAscend low (told_here t own (s ∷ ss))
told_here_ascends t own s ss low h l m =
    cond_both (eqb s.actor own.actor) (with_tid t s ∷ ss) (own ∷ (s ∷ ss)) (λ x. ActorsAscend low x) (λ _. (h.0, h.1)) (λ ne. (l, (omega (arith, eqb-false s.actor own.actor ne), h.1)))

pub told_ascends : (t : ℕ) (own : SubBatch) (ss : List SubBatch) (low : ℕ) → ActorsAscend low ss → low ≤ own.actor → ActorsAscend low (told_among t own ss)
told_ascends t own [] low h l = (l, tt)
told_ascends t own (s ∷ ss) low h l =
    cond_both (ltb s.actor own.actor) (s ∷ told_among t own ss) (told_here t own (s ∷ ss)) (λ x. ActorsAscend low x)
    (λ e. (h.0, told_ascends t own ss (s.actor + 1) h.1 (omega (arith, ltb-true s.actor own.actor e))))
    (λ e. told_here_ascends t own s ss low h l (ltb-false s.actor own.actor e))

-- ---- the place by a search

ascend_above : (xs : List base.SubBatch) (low j : ℕ) (d : base.SubBatch) → ActorsAscend low (map sub_batch xs) → j < length xs → low ≤ (get_or xs j d).actor.0
ascend_above [] low j d h l = absurd (omega arith)
ascend_above (x ∷ xs) low zero d h l = h.0
ascend_above (x ∷ xs) low (suc j) d h l = omega (arith, h.0, ascend_above xs (x.actor.0 + 1) j d h.1 (omega arith))

pub ascend_rises : (xs : List base.SubBatch) (low : ℕ) → ActorsAscend low (map sub_batch xs) → IsNonDecreasingBy subs_actor xs
ascend_rises [] low h i j d m l = absurd (omega arith)
ascend_rises (x ∷ xs) low h zero zero d m l = omega arith
ascend_rises (x ∷ xs) low h zero (suc j) d m l = omega (arith, ascend_above xs (x.actor.0 + 1) j d h.1 (omega arith))
ascend_rises (x ∷ xs) low h (suc i) zero d m l = absurd (omega arith)
ascend_rises (x ∷ xs) low h (suc i) (suc j) d m l = ascend_rises xs (x.actor.0 + 1) h.1 i j d (omega arith) (omega arith)

pub ascend_partitioned : (a : ℕ) (xs : List base.SubBatch) → ActorsAscend 0 (map sub_batch xs) → IsPartitionedBy (λ s. ltb (subs_actor s) a) xs
ascend_partitioned a xs h = IsPartitionedBy-ltb subs_actor xs a (ascend_rises xs 0 h)

pub leading_at : (a : ℕ) (xs : List base.SubBatch) (i : ℕ) → IsPartitionPoint (λ s. ltb (subs_actor s) a ≡ true) (λ s. ltb (subs_actor s) a ≡ false) xs i → i ≤ length xs → i ≡ leading a (map subs_actor xs)
leading_at a [] zero h l = refl
leading_at a [] (suc i) h l = absurd (omega arith)
leading_at a (x ∷ xs) zero h l = sym (cond-false (ltb (subs_actor x) a) _ _ (h.1 0 x (omega arith) (omega arith)))
leading_at a (x ∷ xs) (suc i) h l =
    ap (λ n. suc n) (leading_at a xs i (λ k d low high. h.0 (suc k) d (omega arith) (omega arith), λ k d low high. h.1 (suc k) d (omega arith) (omega arith)) (omega arith))
    ∙ sym (cond-true (ltb (subs_actor x) a) _ _ (h.0 0 x (omega arith) (omega arith)))

-- ---- the last tid

pub last_is : (xs : List Tid) (x : Tid) (t : ℕ) → Some x ≡ slice_get xs (length xs - 1) → ends_with t (map tid_number xs) ≡ eqb x.0 t
last_is [] x t h = absurd (cc)
last_is (y ∷ []) x t h = let e : x ≡ y = cc in ap (λ z. eqb z.0 t) (sym e)
last_is (y ∷ (z ∷ zs)) x t h =
    let e : length (y ∷ (z ∷ zs)) - 1 ≡ suc (length (z ∷ zs) - 1) = omega arith in
    last_is (z ∷ zs) x t (h ∙ ap (λ n. slice_get (y ∷ (z ∷ zs)) n) e)

pub ascends_after : (t : ℕ) (own : SubBatch) (ss after : List SubBatch) → ActorsAscend 0 ss → after ≡ told_among t own ss → ActorsAscend 0 after
ascends_after t own ss after h e = subst (λ xs. ActorsAscend 0 xs) (sym e) (told_ascends t own ss 0 h (omega arith))
