use Rattle.std.proofs.Common.{refl}
use Rattle.gate_log.proofs.ReadingGroups.{groups_begin, behind_gate, groups_more, groups_length}
use Rattle.gate_log.proofs.reads.read_groups.Goals as goal

pub loop-rest-init : goal.loop-rest-init
loop-rest-init c = groups_begin c.args.bytes.now c.new-found.result c.requires.long c.requires.begins c.new-found.ensures

pub loop-rest-preserved : goal.loop-rest-preserved
loop-rest-preserved c =
    let open_gate = behind_gate c.loop-rest.rest.now _ c.loop-rest.invariant.0.some c.loop-rest-test.true refl in (
      groups_more _ _ _ _ _ _ _ c.loop-rest.invariant.0 open_gate c.in_ok-behind.ensures,
      groups_length _ _ _ _ _ _ _ _ c.loop-rest.invariant.1 open_gate c.in_ok-behind.ensures,
    )
