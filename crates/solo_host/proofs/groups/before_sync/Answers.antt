use Rattle.std.proofs.Common.{◌<◌, length, set, subst, sym, arith}
use Rattle.snap_core.specs.snap_hand.Tables.{fixed_of}
use Rattle.solo_host.proofs.Preparing.{may_append, of_format, has_synced, has_not_synced}
use Rattle.solo_host.specs.Outside.{IsNotSynced}
use Rattle.run_effects.specs.declared.stops.Stop.{Stop}
use Rattle.solo_host.proofs.groups.before_sync.Goals as goal

pub append_pieces-requires-clause-may : goal.append_pieces-requires-clause-may
append_pieces-requires-clause-may g c =
    let es = c.requires.at.0 in
    let within : c.args.l < length c.args.logs.now.items = omega (arith, c.requires.exists, c.requires.logs) in
    may_append (fixed_of c.args.core.now.tables) es c.args.l c.args.logs.now.items c.index_mut.result.now c.group.result.now c.requires.runs c.requires.at.1.run within c.requires.low
    c.index_mut.ensures.value (c.group.ensures es c.requires.at.1)

pub append_pieces-requires-clause-format : goal.append_pieces-requires-clause-format
append_pieces-requires-clause-format g c =
    let within : c.args.l < length c.args.logs.now.items = omega (arith, c.requires.exists, c.requires.logs) in
    of_format c.args.logs.now.items c.args.l c.index_mut.result.now within c.requires.format c.index_mut.ensures.value

pub returns-in-Ok : goal.returns-in-Ok
returns-in-Ok g c es at =
    let within : c.args.l < length c.args.logs.now.items = omega (arith, c.requires.exists, c.requires.logs) in
    has_synced c.history_grows.ensures.group (fixed_of c.args.core.now.tables) es c.args.l c.args.logs.now.items c.index_mut.result.now c.append_pieces.new.log c.group.result.now
    c.requires.runs at.run within c.requires.low c.requires.open c.index_mut.ensures.value (c.group.ensures es at) c.in-Ok.ensures.appended

pub returns-in-Err : goal.returns-in-Err
returns-in-Err g c es at =
    let within : c.args.l < length c.args.logs.now.items = omega (arith, c.requires.exists, c.requires.logs) in
    subst (λ (x : Stop). IsNotSynced (fixed_of c.args.core.now.tables) es c.args.l x c.args.logs.now.items (set c.args.logs.now.items c.args.l c.append_pieces.new.log)) (sym c.stop_of.ensures)
    (has_not_synced c.history_grows.ensures.fault (fixed_of c.args.core.now.tables) es c.args.l c.args.logs.now.items c.index_mut.result.now c.append_pieces.new.log c.group.result.now c.in-Err.no
    c.requires.runs at.run within c.requires.low c.requires.open c.index_mut.ensures.value (c.group.ensures es at) c.in-Err.ensures.appended)
