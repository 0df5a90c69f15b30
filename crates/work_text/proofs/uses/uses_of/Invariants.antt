use Rattle.std.proofs.Common.{◌≡◌, map, take}
use Rattle.std.specs.List.{AllByRecursion}
use Rattle.aml_check.specs.Transactions.{IsUse}
use Rattle.work_text.specs.Transactions.{use_word}
use Rattle.work_text.proofs.uses.uses_of.Given as goal

abbrev pub invariant-loop-word : goal.invariant-loop-word
invariant-loop-word l = record {
  spelled : map (λ word. word.now) (take l.word-index l.words) ≡ map use_word l.uses.items;
  each : AllByRecursion (IsUse l.actors) l.uses.items;
}
