use Rattle.std.proofs.Common.{◌≡◌, rules, sym, ap, subst, ◌∙◌}
use Rattle.aml_slice.specs.Slicing.{started}
use Rattle.core_rows.specs.Starts.{TellsReader}
use Rattle.protocol.specs.Fixed.{base}
use Rattle.snap_hand.proofs.Stepping.{on_ok_to}
use Rattle.snap_hand.proofs.beginning.admit_on.Goals as goal

pub returns-clause-ok : goal.returns-clause-ok
returns-clause-ok c =
    on_ok_to c.admit.result c.admit.ensures.ok
    (λ taken w s run old. taken w s run (
      ap (λ v. v.text.txs) old.0 ∙ sym c.as_slice-txs.ensures,
      (λ u x k fits inside gave. let e : k ≡ started u x.now = search rules in e ∙ sym (ap (λ v. v.code.start u.0 x.now) old.0)),
      subst (TellsReader c.next_act_reads-reader.result c.args.ring.now) (sym old.0) c.next_act_reads-reader.ensures,
      ap (λ v. v.text.acts) old.0,
      ap (λ v. base v.text) old.0 ∙ c.base-first.ensures,
      old.1,
      old.2,
      old.3,
    ))
