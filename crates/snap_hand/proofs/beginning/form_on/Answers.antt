use Rattle.std.proofs.Common.{◌≡◌, rules, sym, ap, ◌∙◌}
use Rattle.aml_slice.specs.Slicing.{started}
use Rattle.snap_hand.proofs.Stepping.{on_ok_to}
use Rattle.snap_hand.proofs.beginning.form_on.Goals as goal

pub returns-clause-ok : goal.returns-clause-ok
returns-clause-ok c =
    on_ok_to c.form.result c.form.ensures.ok
    (λ taken w s run old. taken w s run (
      ap (λ v. v.text.txs) old.0 ∙ sym c.as_slice-txs.ensures,
      (λ u x k fits inside gave. let e : k ≡ started u x.now = search rules in e ∙ sym (ap (λ v. v.code.start u.0 x.now) old.0)),
      ap (λ v. v.text.batches) old.0,
      ap (λ v. v.text.batch) old.0,
      old.1,
      old.2,
      old.3,
      old.4,
    ))
