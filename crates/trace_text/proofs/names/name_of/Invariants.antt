use Rattle.std.proofs.Common.{◌≡◌, ℕ, ◌<◌, get_or}
use Rattle.trace_text.specs.declared.names.Name.TheVariants as name
use Rattle.trace_text.specs.Lines.{name_text}
use Rattle.trace_text.proofs.EventNames.{every_name}
use Rattle.trace_text.proofs.names.name_of.Given as goal

abbrev pub invariant-loop-name : goal.invariant-loop-name
invariant-loop-name l = record {
  every : l.name-items ≡ every_name;
  others : (k : ℕ) → k < l.name-index → name_text (get_or every_name k name.Submit) ≡ l.word → ⊥;
}
