use Rattle.std.proofs.Common.{List, subst}
use Rattle.std.specs.List.{AllByRecursion}
use Rattle.aml_slice.specs.aml_check.Checked.{methods_of}
use Rattle.machine_laws.specs.Programs.{finish_of}
use Rattle.snap_base.specs.declared.transactions.State.{State}
use Rattle.snap_hand.specs.Tables.{fixed_of, text_of}
use Rattle.record_log.specs.txn_records.Records.{IsState}
use Rattle.run_effects.proofs.drives.runs_of.Goals as goal

pub returns : goal.returns
returns c =
    let t = c.args.tables.now in
    let ok = c.requires in
    let finish = finish_of (methods_of t.work.program) (text_of t) in
    let facts = c.texts_have_the_facts.ensures (text_of t) ok in
    let states = subst (λ (ss : List State). AllByRecursion IsState ss) c.as_slice.ensures c.each_fits.ensures in
    record {
      end = λ es run. (c.every_run_ends.ensures (text_of t) es ok run).short;
      logs = λ es run. c.logs_stay.ensures (fixed_of t) es ok.accepted run;
      fits = λ es l end run low. c.waiting_fits.ensures (fixed_of t) finish es facts ok.accepted run l end (c.groups_are_records.ensures (text_of t) es l ok states run).waiting low;
      near = λ es l end run low.
          (c.groups_fit.ensures (fixed_of t) finish es facts ok.accepted run l end (λ ds rest parts front. (c.groups_are_records.ensures (text_of t) ds l ok states front).waiting) low).gone;
      grow = c.groups_grow.ensures.grow (fixed_of t);
      replies = λ es run. c.replies_grow.ensures (fixed_of t) finish es facts ok.accepted run;
    }
