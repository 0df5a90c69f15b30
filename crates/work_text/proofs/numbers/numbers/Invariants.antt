use Rattle.std.proofs.Common.{◌≡◌, map, take}
use Rattle.std.specs.Prelude.{FitsSigned}
use Rattle.std.specs.List.{AllByRecursion}
use Rattle.std.specs.Int.{w64}
use Rattle.std.specs.Fmt.{signed_decimal}
use Rattle.work_text.proofs.numbers.numbers.Given as goal

abbrev pub invariant-loop-word : goal.invariant-loop-word
invariant-loop-word l = record {
  spelled : map (λ word. word.now) (take l.word-index l.words) ≡ map signed_decimal l.values.items;
  fits : AllByRecursion (FitsSigned w64) l.values.items;
}
