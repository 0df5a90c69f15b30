-- The step that takes a turn, or finds it held.
use Rattle.std.proofs.Common.{◌≡◌, Bool, ℕ, suc, ◌+◌, ◌<◌, List, [], length, set, eqb, Option, Some, slice_get, slice_index, ap, sym, subst, refl, ◌∙◌, eq-eqb, ne_eqb, length-set, arith}
use mathlib.Core.Option as maybe
use mathlib.Core.Logic.{dite}
use native.Mathlib.Decide.{ℕ_discrete}
use prog.Atomic.{either}
use lib.ListN.{get_elem?}
use Rattle.atomic_table.specs.Table.{State, Allows, step, stepped, keeps, takes}
use Rattle.atomic_table.proofs.Lists.{set_here, set_else}
use Rattle.turn_table.specs.declared.views.View.{View}
use Rattle.turn_table.specs.Places.{at, put_at, one, times, once_below, Stand}
use Rattle.turn_table.specs.Runs.{AllLeaveFrom, Fits}
use Rattle.turn_table.specs.Views.{handed, gained, refused}
use Rattle.turn_table.specs.Steps.{took}
use Rattle.turn_table.specs.Rule.{Kept}
use Rattle.turn_table.proofs.ByPlace.{put_here, put_else, some_is_one}
use Rattle.turn_table.proofs.Apart.{leave_past}
use Rattle.turn_table.proofs.Histories.{stand_below}
use Rattle.turn_table.proofs.Changes.{one_out, within, word_here, word_else, word_first, word_again, rehomed, untaken, change}

module _ {P E : Type 0} (footprint : E → List ℕ) (happens : E → List P → List P → Type 0) (start : List P) where
  -- the turn was free
  taken : (id part : ℕ) (v : View P E) (p : P) → part < length start → v.hand ≡ 0 → 0 < v.weight
      → (s : State (Option P) (View P E)) (k : Kept footprint happens start s) → get_elem? s.views id ≡ maybe.some v
      → slice_index s.words (suc part) ≡ 0 → slice_get k.parts part ≡ Some p
      → Kept footprint happens start (stepped s (suc part) 1 id [] (handed (gained v part p (slice_index s.words 0)) (suc part)) (takes part (Some p)))
  taken id part v p range rest weighs s k here z is =
      let count = slice_index s.words 0 in
      let w = handed (gained v part p count) (suc part) in
      let known = k.each id v here in
      let wide : suc part < length s.words = (let l = k.wide in omega arith) in
      change footprint happens start s k id v w here (set s.words (suc part) 1) (set s.homes part maybe.none) k.history k.parts k.run
      (length-set s.words (suc part) 1)
      (length-set s.homes part maybe.none)
      k.sized
      (word_first s.words part 1 ∙ k.count)
      (λ x. refl)
      refl
      refl
      (λ i h. dite
      (ℕ_discrete i part)
      (λ e.
      let a : one (at (put_at v.held part (Some p)) i) ≡ 1 = ap (λ (j : ℕ). one (at (put_at v.held part (Some p)) j)) e ∙ ap one (put_here v.held part (Some p)) in
      let b : slice_index s.words (suc i) ≡ 0 = ap (λ (j : ℕ). slice_index s.words (suc j)) e ∙ z in
      let c = untaken footprint happens start s k id v here i h b in
      let d = word_here s.words part i 1 e wide in
      omega arith)
      (λ ne.
      let a : one (at (put_at v.held part (Some p)) i) ≡ one (at v.held i) = ap one (put_else v.held part i (Some p) ne) in
      let d = word_else s.words part i 1 ne in
      omega arith))
      (λ i h. dite
      (ℕ_discrete i part)
      (λ e. (let d = word_here s.words part i 1 e wide in omega arith))
      (λ ne. (let d = word_else s.words part i 1 ne in let b = k.binary i h in omega arith)))
      (λ i h f. dite
      (ℕ_discrete i part)
      (λ e. absurd (let d = word_here s.words part i 1 e wide in omega arith))
      (λ ne.
      let d = word_else s.words part i 1 ne in
      let o = k.free i h (sym d ∙ f) in
      (o.0, o.1, set_else s.homes part i maybe.none ne ∙ o.2)))
      (record {
        held = λ i q e. dite
            (ℕ_discrete i part)
            (λ d.
            let a : at (put_at v.held part (Some p)) i ≡ Some p = ap (λ (j : ℕ). at (put_at v.held part (Some p)) j) d ∙ put_here v.held part (Some p) in
            let b : i < length start = omega arith in
            let c : slice_get k.parts i ≡ Some q = ap (λ (j : ℕ). slice_get k.parts j) d ∙ is ∙ sym a ∙ e in
            (b, c, λ ne. absurd (ne (ap suc (sym d)))))
            (λ ne.
            let o = known.held i q (sym (put_else v.held part i (Some p) ne) ∙ e) in
            (o.0, o.1, λ m. set_else s.homes part i maybe.none ne ∙ o.2 (λ g. absurd (omega arith))));
        stand = known.stand;
        bound = known.bound;
        since = λ i q e. dite
            (ℕ_discrete i part)
            (λ d. (count, ap (λ (j : ℕ). at (put_at v.since part (Some count)) j) d ∙ put_here v.since part (Some count), (let c = k.count in omega arith)))
            (λ ne.
            let o = known.since i q (sym (put_else v.held part i (Some p) ne) ∙ e) in
            (o.0, put_else v.since part i (Some count) ne ∙ o.1, o.2));
        live = λ i q e. weighs;
      })
      (λ j u n e. rehomed k.parts k.history s.homes (set s.homes part maybe.none) (length start) u (k.each j u e) (λ i q g home. dite
      (ℕ_discrete i part)
      (λ d. absurd (
      let b : slice_index s.words (suc i) ≡ 0 = ap (λ (m : ℕ). slice_index s.words (suc m)) d ∙ z in
      let h : i < length start = omega arith in
      let c = untaken footprint happens start s k j u e i h b in
      let o = some_is_one (at u.held i) q g in
      omega arith))
      (λ ne. set_else s.homes part i maybe.none ne ∙ home)))
      (λ j u other there i n q e f. dite
      (ℕ_discrete i part)
      (λ d.
      let since : Some count ≡ Some n = sym (ap (λ (m : ℕ). at (put_at v.since part (Some count)) m) d ∙ put_here v.since part (Some count)) ∙ f in
      let c = k.count in
      let m : count ≡ n = is_same count n since in
      leave_past footprint i n (length k.history) u.entries (stand_below k.history u.entries (k.each j u there).stand) (omega arith))
      (λ ne. k.alone id j v u here there (λ h. other (sym h)) i n q (sym (put_else v.held part i (Some p) ne) ∙ e) (sym (put_else v.since part i (Some count) ne) ∙ f)))
      (λ j u other there. k.alone j id u v there here other) where
        is_same : (a b : ℕ) → Some a ≡ Some b → a ≡ b
        is_same a b e = cc e

  -- the turn was held
  pub still : (id x : ℕ) (v w : View P E)
      → (w.held ≡ v.held) → (w.since ≡ v.since) → (w.entries ≡ v.entries) → (w.weight ≡ v.weight) → (w.splits ≡ v.splits) → (w.hand ≡ v.hand)
      → (s : State (Option P) (View P E)) (k : Kept footprint happens start s) → get_elem? s.views id ≡ maybe.some v
      → Kept footprint happens start record { words = set s.words x (slice_index s.words x); homes = s.homes; views = set s.views id w }
  still id x v w held since entries weight splits hand s k here =
      let known = k.each id v here in
      change footprint happens start s k id v w here (set s.words x (slice_index s.words x)) s.homes k.history k.parts k.run
      (length-set s.words x (slice_index s.words x))
      refl
      k.sized
      (word_again s.words x 0 ∙ k.count)
      (λ y. ap (λ (es : List (ℕ × E)). times y es + once_below y (length k.history)) entries)
      (ap (λ (es : List (ℕ × E)). length es + length k.history) entries)
      (omega arith)
      (λ i h. (let a : one (at w.held i) ≡ one (at v.held i) = ap (λ (hs : List (Option P)). one (at hs i)) held in let d = word_again s.words x (suc i) in omega arith))
      (λ i h. (let d = word_again s.words x (suc i) in let b = k.binary i h in omega arith))
      (λ i h f. k.free i h (sym (word_again s.words x (suc i)) ∙ f))
      (record {
        held = λ i q e. (let o = known.held i q (sym (ap (λ (hs : List (Option P)). at hs i) held) ∙ e) in (o.0, o.1, λ m. o.2 (λ g. m (hand ∙ g))));
        stand = subst (λ (es : List (ℕ × E)). Stand k.history es) (sym entries) known.stand;
        bound = (let b = known.bound in let l : length w.entries ≡ length v.entries = ap (λ (es : List (ℕ × E)). length es) entries in omega arith);
        since = λ i q e. (let o = known.since i q (sym (ap (λ (hs : List (Option P)). at hs i) held) ∙ e) in (o.0, ap (λ (ns : List (Option ℕ)). at ns i) since ∙ o.1, o.2));
        live = λ i q e. (let l = known.live i q (sym (ap (λ (hs : List (Option P)). at hs i) held) ∙ e) in omega arith);
      })
      (λ j u n e. k.each j u e)
      (λ j u other there i n q e f. k.alone id j v u here there (λ h. other (sym h)) i n q
      (sym (ap (λ (hs : List (Option P)). at hs i) held) ∙ e) (sym (ap (λ (ns : List (Option ℕ)). at ns i) since) ∙ f))
      (λ j u other there i n q e f. subst (λ (es : List (ℕ × E)). AllLeaveFrom footprint i n es) (sym entries) (k.alone j id u v there here other i n q e f))

  take_next : (facts : View P E → Type 0) (slots id part : ℕ) (v : View P E) → part < length start → v.hand ≡ 0 → 0 < v.weight
      → ((w : View P E) → Fits footprint happens start w.held w.entries → facts w)
      → Allows (Kept footprint happens start) slots id (v, []) (suc part) (λ n. either (eqb n 0) 1 n) (took facts (step slots (suc part) 0 1 maybe.none) (v, []))
  take_next facts slots id part v range rest weighs told s k deep here small = dite
      (ℕ_discrete (slice_index s.words (suc part)) 0)
      (λ z.
      let f = k.free part range z in
      let p = f.0 in
      let count = slice_index s.words 0 in
      let w = handed (gained v part p count) (suc part) in
      let kept = taken id part v p range rest weighs s k here z f.1 in
      let known = kept.each id w (set_here s.views id w (within s.views id v here)) in (
        w,
        takes part (Some p),
        f.2,
        subst
            (λ (b : Bool). Kept footprint happens start (stepped s (suc part) (either b 1 (slice_index s.words (suc part))) id [] w (takes part (Some p))))
            (sym (eq-eqb (slice_index s.words (suc part)) 0 z))
            kept,
        (λ i h. (
          (λ zz. (
              let d : part ≡ i = omega arith in
              let fits = told (gained v part p count) (kept.history, kept.parts, kept.run, (λ j q e. (known.held j q e).1), known.stand) in (
                p,
                count,
                ap (λ (m : ℕ). one_out (handed (gained v m p count) (suc m)) m (Some p)) d,
                subst (λ (m : ℕ). facts (gained v m p count)) d fits,
              ))),
          (λ ne. absurd (ne z)),
        )),
      ))
      (λ ne. (
        refused v,
        keeps,
        tt,
        subst
            (λ (b : Bool). Kept footprint happens start (stepped s (suc part) (either b 1 (slice_index s.words (suc part))) id [] (refused v) keeps))
            (sym (ne_eqb (slice_index s.words (suc part)) 0 ne))
            (still id (suc part) v (refused v) refl refl refl refl refl refl s k here),
        (λ i h. ((λ z. absurd (ne z)), (λ m. refl))),
      ))

  pub take_allowed : (facts : View P E → Type 0) (slots id x part : ℕ) (v : View P E) (l : List (ℕ × Option P)) → x ≡ suc part → l ≡ [] → part < length start → v.hand ≡ 0 → 0 < v.weight
      → ((w : View P E) → Fits footprint happens start w.held w.entries → facts w)
      → Allows (Kept footprint happens start) slots id (v, l) x (λ n. either (eqb n 0) 1 n) (took facts (step slots x 0 1 maybe.none) (v, l))
  take_allowed facts slots id x part v l e none range rest weighs told =
      subst
      (λ (y : ℕ). Allows (Kept footprint happens start) slots id (v, l) y (λ n. either (eqb n 0) 1 n) (took facts (step slots y 0 1 maybe.none) (v, l)))
      (sym e)
      (subst
      (λ (m : List (ℕ × Option P)). Allows (Kept footprint happens start) slots id (v, m) (suc part) (λ n. either (eqb n 0) 1 n) (took facts (step slots (suc part) 0 1 maybe.none) (v, m)))
      (sym none)
      (take_next facts slots id part v range rest weighs told))
