use Rattle.std.proofs.Common.{◌≡◌, inl, inr, Option, Some, None, IsSome, arith, true≢false, sym, refl}
use Rattle.std.proofs.lemmas.Bool.Decides.{eqb_tells}
use Rattle.turn_table.specs.Places.{at, one}
use Rattle.turn_table.specs.declared.views.View.{View}
use Rattle.turn_table.proofs.Sums.{total_two}
use Rattle.turn_table.proofs.laws.one_view_holds_it.Goals as goal

is_one : {P : Type 0} (o : Option P) → IsSome o → one o ≡ 1
is_one None h = absurd (true≢false (sym h))
is_one (Some p) h = refl

pub returns : goal.returns
returns g c start s i j l kept within here there = elim (eqb_tells j l) [
  | inl h ↦ h.1
  | inr h ↦ (
      let a = is_one (at here.0.held i) here.1.1 in
      let b = is_one (at there.0.held i) there.1.1 in
      let two = total_two (λ (w : View g.row.P.Denot g.row.P-Event.Denot). one (at w.held i)) s.views j l here.0 there.0 here.1.0 there.1.0 h.1 in
      let word = kept.turn i within in
      let binary = kept.binary i within in
      absurd (omega (arith, a, b, two, word, binary)))
]
