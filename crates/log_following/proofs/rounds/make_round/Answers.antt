use Rattle.std.proofs.Common.{◌≡◌, ◌+◌, ◌∙◌, inl, length, refl, sym, arith}
use Rattle.std.proofs.lemmas.Slice.Zip.{AllZip-long}
use Rattle.record_log.specs.Records.{AreItemsOf}
use Rattle.log_opening.specs.Found.{ArePlaced}
use Rattle.log_opening.proofs.Numbers.{all_part, part_long}
use Rattle.log_following.specs.Steps.{used_of}
use Rattle.log_following.proofs.RoundsMade.{round_read}
use Rattle.log_following.proofs.rounds.make_round.Goals as goal

pub read_logs-requires-clause-placed : goal.read_logs-requires-clause-placed
read_logs-requires-clause-placed c = all_part ArePlaced c.args.set.head (c.args.set.head + c.args.set.logs) c.args.items.now c.requires.placed

pub read_logs-requires-clause-few : goal.read_logs-requires-clause-few
read_logs-requires-clause-few c = omega (arith, part_long c.args.items.now c.args.set.head c.args.set.logs c.requires.within, c.requires.within, c.requires.few)

pub round_over-requires-clause-some : goal.round_over-requires-clause-some
round_over-requires-clause-some c =
    let used = used_of c.args.set.head c.args.set.logs c.args.items.now in
    let size : length c.in-Ok.lists ≡ c.args.set.logs = AllZip-long AreItemsOf used c.in-Ok.lists c.in-Ok.ensures ∙ part_long c.args.items.now c.args.set.head c.args.set.logs c.requires.within in
    omega (arith, size, c.requires.some)

pub round_over-requires-clause-few : goal.round_over-requires-clause-few
round_over-requires-clause-few c =
    let used = used_of c.args.set.head c.args.set.logs c.args.items.now in
    let size : length c.in-Ok.lists ≡ c.args.set.logs = AllZip-long AreItemsOf used c.in-Ok.lists c.in-Ok.ensures ∙ part_long c.args.items.now c.args.set.head c.args.set.logs c.requires.within in
    omega (arith, size, c.requires.within, c.requires.few)

pub round_over-requires-clause-many : goal.round_over-requires-clause-many
round_over-requires-clause-many c =
    let used = used_of c.args.set.head c.args.set.logs c.args.items.now in
    AllZip-long AreItemsOf used c.in-Ok.lists c.in-Ok.ensures ∙ part_long c.args.items.now c.args.set.head c.args.set.logs c.requires.within ∙ sym c.requires.many

pub returns-in-Ok : goal.returns-in-Ok
returns-in-Ok c =
    round_read c.args.set.head (used_of c.args.set.head c.args.set.logs c.args.items.now) c.in-Ok.lists c.args.follower.now c.round_over.new.follower c.round_over.result c.in-Ok.ensures c.round_over.ensures

pub returns-in-Err : goal.returns-in-Err
returns-in-Err c = (refl, inl c.in-Err.ensures)
