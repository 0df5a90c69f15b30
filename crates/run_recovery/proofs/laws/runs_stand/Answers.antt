use Rattle.std.proofs.Common.{List, refl, sym, subst}
use Rattle.aml_slice.specs.aml_check.Checked.{methods_of}
use Rattle.aml_slice.specs.aml_tree.Tree.{CheckedMethod}
use Rattle.machine_laws.specs.Meant.{CommittedAsMeant, VerdictsAsMeant}
use Rattle.machine_laws.specs.protocol_records.AsTold.{ToldStands}
use Rattle.machine_laws.specs.protocol_theorems.Left.{RunsEnd}
use Rattle.machine_laws.specs.protocol_theorems.Order.{OrderHolds}
use Rattle.machine_laws.specs.protocol_theorems.Quiet.{AnsweredWhenQuiet}
use Rattle.machine_laws.specs.protocol_theorems.Sets.{NumbersStand}
use Rattle.machine_laws.specs.protocol_verdicts.Evidence.{VerdictsStand}
use Rattle.machine_laws.specs.protocol_verdicts.EvidenceSerial.{VerdictsTell}
use Rattle.run_recovery.specs.Crashes.{Recovers}
use Rattle.run_recovery.specs.EachRun.{AfterEachRun, OfEachRun}
use Rattle.run_recovery.specs.OneRun.{the_run}
use Rattle.told_codes.specs.Meant.{CodesAsMeant}
use Rattle.run_recovery.proofs.laws.runs_stand.Goals as goal

pub returns : goal.returns
returns c w schedule o es failed before after same limits run =
    -- what is said of the program is said of the work's
    let own : (F : List CheckedMethod → Type 0) → F (methods_of c.args.program.now) → F w.program = λ F law. subst F (sym same) law in
    record {
      committed = own (λ q. AfterEachRun q (CommittedAsMeant q)) c.runs_are_as_meant.ensures.committed w schedule o es failed before after refl limits run;
      told = own (λ q. OfEachRun q (VerdictsAsMeant q)) c.runs_are_as_meant.ensures.told w schedule o es failed before after refl limits run;
      stopped_codes = own (λ q. OfEachRun q (CodesAsMeant q)) c.runs_are_as_meant.ensures.stopped_codes w schedule o es failed before after refl limits run;
      evidence = own (λ q. OfEachRun q VerdictsStand) c.runs_are_as_meant.ensures.evidence w schedule o es failed before after refl limits run;
      answered = own (λ q. AfterEachRun q AnsweredWhenQuiet) c.runs_are_as_meant.ensures.answered w schedule o es failed before after refl limits run;
      order = own (λ q. AfterEachRun q OrderHolds) c.runs_are_as_meant.ensures.order w schedule o es failed before after refl limits run;
      sure = own (λ q. AfterEachRun q ToldStands) c.runs_are_as_meant.ensures.sure w schedule o es failed before after refl limits run;
      codes = own (λ q. OfEachRun q VerdictsTell) c.runs_are_as_meant.ensures.codes w schedule o es failed before after refl limits run;
      numbers = own (λ q. AfterEachRun q NumbersStand) c.runs_are_as_meant.ensures.numbers w schedule o es failed before after refl limits run;
      ends = own (λ q. OfEachRun q RunsEnd) c.runs_are_as_meant.ensures.ends w schedule o es failed before after refl limits run;
      begins = λ images crash. c.beginnings_are_recovered.ensures (the_run run) images limits crash;
      recovers = λ m images crash. subst (λ (q : List CheckedMethod). Recovers q (the_run run) m images) (sym same)
          (c.runs_are_recovered.ensures w schedule o es failed before after same limits run m images crash);
      goes_on = λ m images left. c.crashed_runs_go_on.ensures w.program (the_run run) m images limits left;
    }
