use Rattle.std.proofs.Common.{◌≡◌, map, take}
use Rattle.std.specs.Prelude.{FitsSigned}
use Rattle.std.specs.List.{AllByRecursion}
use Rattle.std.specs.Int.{w64}
use Rattle.std.specs.Fmt.{signed_decimal}
use Rattle.audit_papers.specs.LineWords.{texts}
use Rattle.audit_papers.proofs.words.all_signed.Given as goal

abbrev pub invariant-loop-word : goal.invariant-loop-word
invariant-loop-word l = record {
  spelled : texts (take l.word-index l.words) ≡ map signed_decimal l.values.items;
  fits : AllByRecursion (FitsSigned w64) l.values.items;
}
