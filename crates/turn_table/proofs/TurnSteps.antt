-- The steps of a worker that holds a turn: its slot is laid down, picked up, and given back with the turn.
use Rattle.std.proofs.Common.{◌≡◌, ◌≢◌, ℕ, suc, ◌<◌, List, [], ◌∷◌, length, set, Option, Some, None, slice_get, slice_index, ap, sym, subst, refl, ◌∙◌, length-set, arith}
use mathlib.Core.Option as maybe
use mathlib.Core.Logic.{dite}
use native.Mathlib.Decide.{ℕ_discrete}
use lib.ListN.{get_elem?}
use Rattle.atomic_table.specs.Table.{State, Allows, step, takes, gives}
use Rattle.atomic_table.proofs.Lists.{set_here, set_else}
use Rattle.turn_table.specs.declared.views.View.{View}
use Rattle.turn_table.specs.Places.{at, put_at, one}
use Rattle.turn_table.specs.Views.{handed, lost}
use Rattle.turn_table.specs.Steps.{laid_down, picked_up, gave}
use Rattle.turn_table.specs.Rule.{Kept}
use Rattle.turn_table.proofs.ByPlace.{none_is_some, put_here, put_else, some_is_one}
use Rattle.turn_table.proofs.Changes.{none_out, one_out, same_part, word_here, word_else, word_first, word_again, rehomed, apart, busy, change}

set_at : {A : Type 0} (l : List A) (i j : ℕ) (a : A) → j ≡ i → i < length l → get_elem? (set l i a) j ≡ maybe.some a
set_at l i j a e h = ap (λ (k : ℕ). get_elem? (set l i a) k) e ∙ set_here l i a h

module _ {P E : Type 0} (footprint : E → List ℕ) (happens : E → List P → List P → Type 0) (start : List P) where
  -- a load of the turn of a held part, with which its slot goes or comes
  moved : (id part : ℕ) (v : View P E) (p : P) (hand : ℕ) (x : maybe.Option (Option P)) → at v.held part ≡ Some p
      → (s : State (Option P) (View P E)) (k : Kept footprint happens start s) → get_elem? s.views id ≡ maybe.some v
      → ((i : ℕ) (q : P) → at v.held i ≡ Some q → hand ≢ suc i → get_elem? (set s.homes part x) i ≡ maybe.some (maybe.some None))
      → ((j : ℕ) (u : View P E) → j ≢ id → get_elem? s.views j ≡ maybe.some u → (i : ℕ) (q : P) → at u.held i ≡ Some q → get_elem? s.homes i ≡ maybe.some (maybe.some None) → get_elem? (set s.homes part x) i ≡ maybe.some (maybe.some None))
      → Kept footprint happens start record { words = set s.words (suc part) (slice_index s.words (suc part)); homes = set s.homes part x; views = set s.views id (handed v hand) }
  moved id part v p hand x holds s k here mine others =
      let w = handed v hand in
      let known = k.each id v here in
      change footprint happens start s k id v w here (set s.words (suc part) (slice_index s.words (suc part))) (set s.homes part x) k.history k.parts k.run
      (length-set s.words (suc part) (slice_index s.words (suc part)))
      (length-set s.homes part x)
      k.sized
      (word_again s.words (suc part) 0 ∙ k.count)
      (λ y. refl)
      refl
      refl
      (λ i h. (let d = word_again s.words (suc part) (suc i) in omega arith))
      (λ i h. (let d = word_again s.words (suc part) (suc i) in let b = k.binary i h in omega arith))
      (λ i h f.
      let b = busy footprint happens start s k id v here part p holds in
      let z : slice_index s.words (suc i) ≡ 0 = sym (word_again s.words (suc part) (suc i)) ∙ f in
      let ne : i ≢ part = λ e. (let q : slice_index s.words (suc i) ≡ slice_index s.words (suc part) = ap (λ (j : ℕ). slice_index s.words (suc j)) e in omega arith) in
      let o = k.free i h z in
      (o.0, o.1, set_else s.homes part i x ne ∙ o.2))
      (record {
        held = λ i q e. ((known.held i q e).0, (known.held i q e).1, mine i q e);
        stand = known.stand;
        bound = known.bound;
        since = known.since;
        live = known.live;
      })
      (λ j u n e. rehomed k.parts k.history s.homes (set s.homes part x) (length start) u (k.each j u e) (others j u n e))
      (λ j u other there. k.alone id j v u here there (λ h. other (sym h)))
      (λ j u other there. k.alone j id u v there here other)

  pub lay_allowed : (slots id x part : ℕ) (v : View P E) (l : List (ℕ × Option P)) (p : P) → x ≡ suc part → l ≡ (part, None) ∷ [] → at v.held part ≡ Some p → v.hand ≡ suc part
      → Allows (Kept footprint happens start) slots id (v, l) x (λ n. n) (laid_down (step slots x 0 0 maybe.none) (v, l))
  lay_allowed slots id x part v l p e out holds hand =
      subst
      (λ (y : ℕ). Allows (Kept footprint happens start) slots id (v, l) y (λ n. n) (laid_down (step slots y 0 0 maybe.none) (v, l)))
      (sym e)
      (subst
      (λ (m : List (ℕ × Option P)). Allows (Kept footprint happens start) slots id (v, m) (suc part) (λ n. n) (laid_down (step slots (suc part) 0 0 maybe.none) (v, m)))
      (sym out)
      (λ s k deep here small.
      let known = k.each id v here in
      let deep : part < length s.homes = (let r = (known.held part p holds).0 in let d = k.deep in omega arith) in (
        handed v 0,
        gives,
        tt,
        moved id part v p 0 (maybe.some None) holds s k here
            (λ i q g ne. dite
            (ℕ_discrete i part)
            (λ d. set_at s.homes part i (maybe.some None) d deep)
            (λ other. set_else s.homes part i (maybe.some None) other ∙ (known.held i q g).2 (λ m. other (omega arith))))
            (λ j u n f i q g home. dite
            (ℕ_discrete i part)
            (λ d. set_at s.homes part i (maybe.some None) d deep)
            (λ other. set_else s.homes part i (maybe.some None) other ∙ home)),
        refl,
      )))

  pub pick_allowed : (slots id x part : ℕ) (v : View P E) (l : List (ℕ × Option P)) (p : P) → x ≡ suc part → l ≡ [] → at v.held part ≡ Some p → v.hand ≡ 0
      → Allows (Kept footprint happens start) slots id (v, l) x (λ n. n) (picked_up (step slots x 0 0 maybe.none) (v, l))
  pick_allowed slots id x part v l p e none holds hand =
      subst
      (λ (y : ℕ). Allows (Kept footprint happens start) slots id (v, l) y (λ n. n) (picked_up (step slots y 0 0 maybe.none) (v, l)))
      (sym e)
      (subst
      (λ (m : List (ℕ × Option P)). Allows (Kept footprint happens start) slots id (v, m) (suc part) (λ n. n) (picked_up (step slots (suc part) 0 0 maybe.none) (v, m)))
      (sym none)
      (λ s k deep here small.
      let known = k.each id v here in (
        handed v (suc part),
        takes part None,
        (known.held part p holds).2 (λ m. absurd (omega arith)),
        moved id part v p (suc part) maybe.none holds s k here
            (λ i q g ne.
            let other : i ≢ part = λ d. ne (ap suc (sym d)) in
            set_else s.homes part i maybe.none other ∙ (known.held i q g).2 (λ m. absurd (omega arith)))
            (λ j u n f i q g home. dite
            (ℕ_discrete i part)
            (λ d. absurd (apart footprint happens start s k j id u v f here n part p q holds (ap (λ (m : ℕ). at u.held m) (sym d) ∙ g)))
            (λ other. set_else s.homes part i maybe.none other ∙ home)),
        (λ i h. ap (λ (m : ℕ). one_out (handed v (suc m)) m None) (same_part part i h)),
      )))

  freed : (id part : ℕ) (v : View P E) (p : P) → at v.held part ≡ Some p → v.hand ≡ suc part
      → (s : State (Option P) (View P E)) (k : Kept footprint happens start s) → get_elem? s.views id ≡ maybe.some v
      → Kept footprint happens start record { words = set s.words (suc part) 0; homes = set s.homes part (maybe.some (Some p)); views = set s.views id (handed (lost v part) 0) }
  freed id part v p holds hand s k here =
      let w = handed (lost v part) 0 in
      let known = k.each id v here in
      let range : part < length start = (known.held part p holds).0 in
      let wide : suc part < length s.words = (let l = k.wide in omega arith) in
      let deep : part < length s.homes = (let d = k.deep in omega arith) in
      change footprint happens start s k id v w here (set s.words (suc part) 0) (set s.homes part (maybe.some (Some p))) k.history k.parts k.run
      (length-set s.words (suc part) 0)
      (length-set s.homes part (maybe.some (Some p)))
      k.sized
      (word_first s.words part 0 ∙ k.count)
      (λ y. refl)
      refl
      refl
      (λ i h. dite
      (ℕ_discrete i part)
      (λ e.
      let a : one (at (put_at v.held part None) i) ≡ 0 = ap (λ (j : ℕ). one (at (put_at v.held part None) j)) e ∙ ap one (put_here v.held part None) in
      let b : slice_index s.words (suc i) ≡ 1 = ap (λ (j : ℕ). slice_index s.words (suc j)) e ∙ busy footprint happens start s k id v here part p holds in
      let c : one (at v.held i) ≡ 1 = ap (λ (j : ℕ). one (at v.held j)) e ∙ some_is_one (at v.held part) p holds in
      let d = word_here s.words part i 0 e wide in
      omega arith)
      (λ ne.
      let a : one (at (put_at v.held part None) i) ≡ one (at v.held i) = ap one (put_else v.held part i None ne) in
      let d = word_else s.words part i 0 ne in
      omega arith))
      (λ i h. dite
      (ℕ_discrete i part)
      (λ e. (let d = word_here s.words part i 0 e wide in omega arith))
      (λ ne. (let d = word_else s.words part i 0 ne in let b = k.binary i h in omega arith)))
      (λ i h f. dite
      (ℕ_discrete i part)
      (λ e. (p, ap (λ (j : ℕ). slice_get k.parts j) e ∙ (known.held part p holds).1, set_at s.homes part i (maybe.some (Some p)) e deep))
      (λ ne.
      let o = k.free i h (sym (word_else s.words part i 0 ne) ∙ f) in
      (o.0, o.1, set_else s.homes part i (maybe.some (Some p)) ne ∙ o.2)))
      (record {
        held = λ i q e. dite
            (ℕ_discrete i part)
            (λ d. absurd (none_is_some q (sym (ap (λ (j : ℕ). at (put_at v.held part None) j) d ∙ put_here v.held part None) ∙ e)))
            (λ ne.
            let o = known.held i q (sym (put_else v.held part i None ne) ∙ e) in
            (o.0, o.1, λ m. set_else s.homes part i (maybe.some (Some p)) ne ∙ o.2 (λ g. ne (omega arith))));
        stand = known.stand;
        bound = known.bound;
        since = λ i q e. (
            let ne = left i q e in
            let o = known.since i q (sym (put_else v.held part i None ne) ∙ e) in
            (o.0, put_else v.since part i None ne ∙ o.1, o.2));
        live = λ i q e. known.live part p holds;
      })
      (λ j u n e. rehomed k.parts k.history s.homes (set s.homes part (maybe.some (Some p))) (length start) u (k.each j u e) (λ i q g home. dite
      (ℕ_discrete i part)
      (λ d. absurd (apart footprint happens start s k j id u v e here n part p q holds (ap (λ (m : ℕ). at u.held m) (sym d) ∙ g)))
      (λ ne. set_else s.homes part i (maybe.some (Some p)) ne ∙ home)))
      (λ j u other there i n q e f.
      let ne = left i q e in
      k.alone id j v u here there (λ h. other (sym h)) i n q (sym (put_else v.held part i None ne) ∙ e) (sym (put_else v.since part i None ne) ∙ f))
      (λ j u other there. k.alone j id u v there here other) where
        -- what is held still is another part
        left : (i : ℕ) (q : P) → at (put_at v.held part None) i ≡ Some q → i ≢ part
        left i q e d = none_is_some q (sym (ap (λ (j : ℕ). at (put_at v.held part None) j) d ∙ put_here v.held part None) ∙ e)

  pub give_allowed : (slots id x part : ℕ) (v : View P E) (l : List (ℕ × Option P)) (p : P) → x ≡ suc part → l ≡ (part, Some p) ∷ [] → at v.held part ≡ Some p → v.hand ≡ suc part
      → Allows (Kept footprint happens start) slots id (v, l) x (λ n. 0) (λ n. gave (step slots x 0 0 maybe.none) (v, l) 0)
  give_allowed slots id x part v l p e out holds hand =
      subst
      (λ (y : ℕ). Allows (Kept footprint happens start) slots id (v, l) y (λ n. 0) (λ n. gave (step slots y 0 0 maybe.none) (v, l) 0))
      (sym e)
      (subst
      (λ (m : List (ℕ × Option P)). Allows (Kept footprint happens start) slots id (v, m) (suc part) (λ n. 0) (λ n. gave (step slots (suc part) 0 0 maybe.none) (v, m) 0))
      (sym out)
      (λ s k deep here small. (
        handed (lost v part) 0,
        gives,
        tt,
        freed id part v p holds hand s k here,
        (λ i h. ap (λ (m : ℕ). none_out (handed (lost v m) 0)) (same_part part i h)),
      )))
