-- Of an input in order what is printed is a serial run, as the language means each transaction.
use Rattle.std.specs.Prelude.{◌≡◌, ℕ, Some, List, length, map}
use Rattle.std.specs.List.{AllByRecursion}
use Rattle.std.proofs.Common.{sym, ap, subst, ◌∙◌}
use Rattle.aml_slice.specs.aml_check.Meaning as meaning
use Rattle.aml_slice.specs.aml_tree.Tree.{CheckedMethod}
use Rattle.snap_base.specs.Outcomes.{Serial}
use Rattle.audit_words.specs.Clauses.{serial}
use Rattle.audit_words.specs.Happenings.{seen}
use Rattle.audit_words.specs.Inputs.{IsInOrder, first_text, language}
use Rattle.audit_words.specs.Serial.{LineTellsState, PrintedIsSerial, committed, told, txs}
use Rattle.audit_laws.specs.AsMeant.{PrintedAsMeant}
use Rattle.audit_laws.proofs.Language.{leaves_nothing, same_serial}
use Rattle.audit_laws.proofs.PlacesApart.{told_places_rise}
use Rattle.audit_laws.proofs.RunsAsSaid.{papers_are_serial}

pub papers_as_meant : (input : List ℕ) (a : IsInOrder input) → PrintedAsMeant a.work a.lines
papers_as_meant input a = record {
  shape = (length (seen (language a.work).reads (first_text a.work) a.events).settled, a.audited.shape);
  rise = told_places_rise (language a.work) (first_text a.work) a.events a.lines a.audited;
  results = ap (λ (s : Serial). map Some s.results) (sym of_committed) ∙ printed.results;
  states = subst (λ (s : Serial). AllByRecursion (LineTellsState s.world) a.lines) of_committed printed.states;
  with_failures = ap (λ (s : Serial). map Some s.results) (sym of_told) ∙ printed.with_failures;
  same_world = ap (λ (s : Serial). s.world) (sym of_told) ∙ (printed.same_world ∙ ap (λ (s : Serial). s.world) of_committed);
}
  where
    p : List CheckedMethod
    p = a.work.program

    printed : PrintedIsSerial (λ world tx. meaning.alone p world tx) (first_text a.work) a.lines
    printed = papers_are_serial (language a.work) (first_text a.work) a.events a.lines (leaves_nothing p) a.audited

    of_committed : serial (λ world tx. meaning.alone p world tx) a.work.states (txs (first_text a.work) (committed a.lines)) ≡ meaning.serial p a.work.states (txs (first_text a.work) (committed a.lines))
    of_committed = same_serial p a.work.states (txs (first_text a.work) (committed a.lines))

    of_told : serial (λ world tx. meaning.alone p world tx) a.work.states (txs (first_text a.work) (told a.lines)) ≡ meaning.serial p a.work.states (txs (first_text a.work) (told a.lines))
    of_told = same_serial p a.work.states (txs (first_text a.work) (told a.lines))
