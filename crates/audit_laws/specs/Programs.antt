-- The papers of the runs of a program's texts, by what the language means.
use Rattle.std.specs.Prelude.{List}
use Rattle.snap_base.specs.declared.transactions.State.{State}
use Rattle.aml_slice.specs.Controls.{Rest}
use Rattle.aml_slice.specs.aml_tree.Tree.{CheckedMethod}
use Rattle.protocol.specs.Events.{Event}
use Rattle.protocol.specs.Facts.{Alone}
use Rattle.protocol.specs.Fixed.{Fixed}
use Rattle.protocol.specs.Runs.{IsQuiet, reached}
use Rattle.audit_words.specs.Audited.{Audited}
use Rattle.audit_words.specs.Inputs.{language_of_methods}
use Rattle.audit_words.specs.Reports.{report_lines}

-- The papers of a run that can't go on are in order by the language.
abbrev pub IsAuditedAsMeant : List CheckedMethod → Fixed Rest → (Rest → List State → Alone) → List Event → Type 0
IsAuditedAsMeant p w finish es = IsQuiet w (reached w es) → Audited (language_of_methods p) w.text es (report_lines w es)
