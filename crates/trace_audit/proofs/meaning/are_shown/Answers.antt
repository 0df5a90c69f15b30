use Rattle.std.proofs.Common.{◌≡◌, Bool, true, false, List, ℤ, MatchBool, refl, sym, ◌∙◌}
use Rattle.std.specs.Ordering.{int_eq}
use Rattle.std.specs.Cmp.Lexicographic.{pointwise}
use Rattle.std.proofs.lemmas.Bool.{true≢false}
use Rattle.std.proofs.lemmas.Bool.Decides.{Decides-int_eq}
use Rattle.std.proofs.lemmas.Slice.Eq.{slice_eq-Decides}
use Rattle.trace_audit.proofs.meaning.are_shown.Goals as goal

told : (xs ys zs : List ℤ) (b : Bool) → b ≡ pointwise int_eq xs ys → ys ≡ zs → MatchBool b (xs ≡ zs) (¬ (xs ≡ zs))
told xs ys zs true e f = (slice_eq-Decides Decides-int_eq xs ys true e).0 refl ∙ f
told xs ys zs false e f = λ q. true≢false (sym ((slice_eq-Decides Decides-int_eq xs ys false e).1 (q ∙ sym f)))

pub returns : goal.returns
returns c = told _ _ _ _ c.eq.ensures c.shown-count.ensures.shown
