-- What is printed in an input in order, whatever work and lines it is read as, is a serial run.
use Rattle.std.specs.Prelude.{ℕ, List}
use Rattle.std.proofs.Common.{subst}
use Rattle.snap_work.specs.Works.{Work}
use Rattle.work_text.specs.Reads.{IsWork}
use Rattle.audit_laws.specs.AsMeant.{PrintedAsMeant}
use Rattle.audit_words.specs.Inputs.{IsInOrder}
use Rattle.audit_words.specs.Papers.{AreParts, IsReport, Line}
use Rattle.input_laws.proofs.OneFault.{OneDivision, OneReport, OneWork}

pub inputs_as_meant : OneDivision → OneWork → OneReport → ((input : List ℕ) (a : IsInOrder input) → PrintedAsMeant a.work a.lines)
    → (input text trace report : List ℕ) (w : Work) (ls : List Line) → IsInOrder input → AreParts input text trace report → IsWork text w → IsReport report ls → PrintedAsMeant w ls
inputs_as_meant parts work one tells input text trace report w ls a p is_work is_report =
    let same = parts input a.papers.text a.papers.trace a.papers.report text trace report a.papers.parts p in
    subst (λ (v : Work). PrintedAsMeant v ls) (work text a.work w (subst (λ (z : List ℕ). IsWork z a.work) same.0 a.papers.is_work) is_work)
    (subst (PrintedAsMeant a.work) (one report a.lines ls (subst (λ (z : List ℕ). IsReport z a.lines) same.2 a.papers.is_report) is_report) (tells input a))
