use Rattle.std.proofs.Common.{◌≡◌, ◌+◌, ◌-◌, arith, refl, get_or}
use Rattle.std.proofs.lemmas.Option.{slice_get-get_or}
use Rattle.audit_tale.specs.Cutting.{marked_cut}
use Rattle.audit_tale.proofs.Touched.{touched_number}
use Rattle.audit_tale.proofs.aborting.cut_way.Goals as goal

pub returns : goal.returns
returns c =
    let next : c.args.k.0 ≡ c.args.k.0 - 1 + 1 = omega arith in
    touched_number marked_cut (c.args.k.0 - 1) c.args.k.0 (get_or c.args.ways.now (c.args.k.0 - 1) c.index-ways-k.result) c.args.ways.now _ next (slice_get-get_or c.args.ways.now (c.args.k.0 - 1) c.index-ways-k.result (omega arith)) refl
