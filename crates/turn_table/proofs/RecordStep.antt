-- The step that records an event.
use Rattle.std.proofs.Common.{◌≡◌, ℕ, suc, ◌+◌, ◌*◌, ◌%◌, ◌^◌, ◌<◌, ◌≤◌, List, [], ◌∷◌, ◌++◌, length, set, nat_eq, Option, Some, None, IsSome, slice_get, slice_index, ap, sym, subst, refl, ◌∙◌, length-set, length-append, mod-eq_of_lt, get_or-set_same, get_or-set_other, arith}
use mathlib.Core.Option as maybe
use lib.ListN.{get_elem?}
use Rattle.atomic_table.specs.Table.{State, Allows, step, stepped, keeps}
use Rattle.atomic_table.proofs.Lists.{set_here}
use Rattle.turn_table.specs.declared.views.View.{View}
use Rattle.turn_table.specs.Places.{at, one, times, once_below, count_if, AllBefore, Covers, replaced, held_after}
use Rattle.turn_table.specs.Runs.{May, Fits}
use Rattle.turn_table.specs.Views.{noted}
use Rattle.turn_table.specs.Steps.{recorded}
use Rattle.turn_table.specs.Rule.{Kept}
use Rattle.turn_table.proofs.ByPlace.{values_same, one_held_after, length-replaced, replaced_else, agree_after, zero_of_none, some_of, some_is_one}
use Rattle.turn_table.proofs.Sums.{total_le, total_times, total_one}
use Rattle.turn_table.proofs.Histories.{times-append, stand_longer, Stand-append, get_last, stand_below, once_more, run_more}
use Rattle.turn_table.proofs.Apart.{leave-append, not_covered}
use Rattle.turn_table.proofs.Changes.{none_out, within, apart, change}

is_held : {P : Type 0} (o : Option P) → one o ≡ 1 → IsSome o
is_held None h = absurd (omega arith)
is_held (Some p) h = refl

held_before : {P : Type 0} (hs : List (Option P)) (is : List ℕ) (ps : List P) (i : ℕ) (q : P) → Covers (at hs) is → at (held_after hs is ps) i ≡ Some q → IsSome (at hs i)
held_before hs is ps i q c e = is_held (at hs i) (sym (one_held_after hs is ps i c) ∙ some_is_one (at (held_after hs is ps) i) q e)

module _ {P E : Type 0} (footprint : E → List ℕ) (happens : E → List P → List P → Type 0) (start : List P) where
  -- the count is far from where it would wrap
  few : (s : State (Option P) (View P E)) (k : Kept footprint happens start s) → length k.history ≤ 68719476736
  few s k =
      let a = total_le (λ (v : View P E). length v.entries) (λ (v : View P E). v.weight * 4294967296) s.views (λ j v e. (k.each j v e).bound) in
      let b = total_times (λ (v : View P E). v.weight) s.views in
      let c = total_le (λ (v : View P E). v.weight) (λ (v : View P E). v.weight + v.splits) s.views (λ j v e. omega arith) in
      let d = k.weights in
      let m = k.many in
      omega arith

  noted_kept : (id : ℕ) (v : View P E) (e : E) (ps : List P) → length v.entries < v.weight * 4294967296 → May footprint happens (at v.held) e ps
      → (s : State (Option P) (View P E)) (k : Kept footprint happens start s) → get_elem? s.views id ≡ maybe.some v
      → Kept footprint happens start (stepped s 0 ((slice_index s.words 0 + 1) % 2 ^ 64) id [] (noted footprint v (slice_index s.words 0) e ps) keeps)
  noted_kept id v e ps room may s k here =
      let n = slice_index s.words 0 in
      let w = noted footprint v n e ps in
      let known = k.each id v here in
      let is = footprint e in
      let agree : (i : ℕ) (p : P) → at v.held i ≡ Some p → slice_get k.parts i ≡ Some p = λ i p h. (known.held i p h).1 in
      let same = values_same (at v.held) (slice_get k.parts) is may.0 agree in
      let allows : May footprint happens (slice_get k.parts) e ps = (same.1, subst (λ (qs : List P). happens e qs ps) (sym same.0) may.1) in
      let parts = replaced k.parts is ps in
      let history = k.history ++ e ∷ [] in
      let run = run_more footprint happens start k.history k.parts e ps k.run allows in
      let small = few s k in
      let count = k.count in
      let step_is : (n + 1) % 2 ^ 64 ≡ n + 1 = mod-eq_of_lt (plus_one n (2 ^ 64) (fits n (length k.history) count small)) in
      let longer : length history ≡ length k.history + 1 = length-append k.history (e ∷ []) in
      let wide : 0 < length s.words = (let l = k.wide in omega arith) in
      let first : slice_index (set s.words 0 ((n + 1) % 2 ^ 64)) 0 ≡ n + 1 = get_or-set_same s.words 0 ((n + 1) % 2 ^ 64) 0 wide ∙ step_is in
      let others : (i : ℕ) → slice_index (set s.words 0 ((n + 1) % 2 ^ 64)) (suc i) ≡ slice_index s.words (suc i) = λ i. get_or-set_other s.words 0 (suc i) ((n + 1) % 2 ^ 64) 0 (λ c. absurd (omega arith)) in
      change footprint happens start s k id v w here (set s.words 0 ((n + 1) % 2 ^ 64)) s.homes history parts run
      (length-set s.words 0 ((n + 1) % 2 ^ 64))
      refl
      (length-replaced k.parts is ps ∙ k.sized)
      (omega arith)
      (λ x.
      let a : times x (v.entries ++ (n, e) ∷ []) ≡ times x v.entries + times x ((n, e) ∷ []) = times-append x v.entries ((n, e) ∷ []) in
      let b : once_below x (length history) ≡ once_below x (length k.history) + count_if (nat_eq (length k.history) x) = ap (once_below x) (plus_suc (length history) (length k.history) longer) ∙ once_more x (length k.history) in
      let c : count_if (nat_eq n x) ≡ count_if (nat_eq (length k.history) x) = ap (λ (m : ℕ). count_if (nat_eq m x)) count in
      omega arith)
      (let a : length (v.entries ++ (n, e) ∷ []) ≡ length v.entries + 1 = length-append v.entries ((n, e) ∷ []) in omega arith)
      refl
      (λ i h. (let a : one (at (held_after v.held is ps) i) ≡ one (at v.held i) = one_held_after v.held is ps i may.0 in let b = others i in omega arith))
      (λ i h. (let b = others i in let c = k.binary i h in omega arith))
      (λ i h f.
      let o = k.free i h (sym (others i) ∙ f) in
      let z : one (at v.held i) ≡ 0 = (let t = total_one (λ (u : View P E). one (at u.held i)) s.views id v here in let t' = k.turn i h in let b = others i in omega arith) in
      (o.0, replaced_else v.held k.parts is ps i may.0 z ∙ o.1, o.2))
      (record {
        held = λ i q g. (
            let before = some_of (at v.held i) (held_before v.held is ps i q may.0 g) in
            let o = known.held i before.0 before.1 in
            (o.0, agree_after v.held k.parts is ps may.0 agree i q g, o.2));
        stand = Stand-append history v.entries ((n, e) ∷ []) (stand_longer k.history (e ∷ []) v.entries known.stand) (ap (λ (m : ℕ). slice_get history m) count ∙ get_last k.history e, tt);
        bound = (let a : length (v.entries ++ (n, e) ∷ []) ≡ length v.entries + 1 = length-append v.entries ((n, e) ∷ []) in omega arith);
        since = λ i q g. (
            let before = some_of (at v.held i) (held_before v.held is ps i q may.0 g) in
            let o = known.since i before.0 before.1 in
            (o.0, o.1, omega (arith, o.2, longer)));
        live = λ i q g. (let before = some_of (at v.held i) (held_before v.held is ps i q may.0 g) in known.live i before.0 before.1);
      })
      (λ j u ne f.
      let them = k.each j u f in
      record {
        held = λ i q g. (
            let o = them.held i q g in
            let z : one (at v.held i) ≡ 0 = zero_of_none (at v.held i) (λ p h. apart footprint happens start s k j id u v f here ne i p q h g) in
            (o.0, replaced_else v.held k.parts is ps i may.0 z ∙ o.1, o.2));
        stand = stand_longer k.history (e ∷ []) u.entries them.stand;
        bound = them.bound;
        since = λ i q g. (let o = them.since i q g in (o.0, o.1, omega (arith, o.2, longer)));
        live = them.live;
      })
      (λ j u other there i m q g f.
      let before = some_of (at v.held i) (held_before v.held is ps i q may.0 g) in
      k.alone id j v u here there (λ h. other (sym h)) i m before.0 before.1 f)
      (λ j u other there i m q g f. leave-append footprint i m v.entries ((n, e) ∷ []) (k.alone j id u v there here other i m q g f)
      ((λ le. not_covered v.held is i may.0 (λ p h. apart footprint happens start s k j id u v there here other i p q h g)), tt)) where
        fits : (n m : ℕ) → n ≡ m → m ≤ 68719476736 → n + 1 < 18446744073709551616
        fits n m e h = omega arith

        plus_one : (n b : ℕ) → n + 1 < b → n + 1 < b
        plus_one n b h = h

        plus_suc : (a b : ℕ) → a ≡ b + 1 → a ≡ suc b
        plus_suc a b h = omega arith

  pub record_allowed : (facts : View P E → Type 0) (after : View P E → ℕ → View P E) (slots id : ℕ) (v : View P E) (l : List (ℕ × Option P)) (e : E) (ps : List P) → l ≡ []
      → length v.entries < v.weight * 4294967296 → May footprint happens (at v.held) e ps
      → ((n : ℕ) → after v n ≡ noted footprint v n e ps)
      → ((w : View P E) → Fits footprint happens start w.held w.entries → facts w)
      → Allows (Kept footprint happens start) slots id (v, l) 0 (λ n. (n + 1) % 2 ^ 64) (recorded facts after (step slots 0 1 0 maybe.none) (v, l))
  record_allowed facts after slots id v l e ps none room may is told = subst
      (λ (m : List (ℕ × Option P)). Allows (Kept footprint happens start) slots id (v, m) 0 (λ n. (n + 1) % 2 ^ 64) (recorded facts after (step slots 0 1 0 maybe.none) (v, m)))
      (sym none)
      (λ s k deep here small.
      let n = slice_index s.words 0 in
      let w = noted footprint v n e ps in
      let kept = noted_kept id v e ps room may s k here in
      let known = kept.each id w (set_here s.views id w (within s.views id v here)) in (
        w,
        keeps,
        tt,
        kept,
        (
          ap none_out (sym (is n)),
          subst (λ (m : ℕ). AllBefore m v.entries) (sym k.count) (stand_below k.history v.entries (k.each id v here).stand),
          subst facts (sym (is n)) (told w (kept.history, kept.parts, kept.run, (λ j q f. (known.held j q f).1), known.stand)),
        ),
      ))
