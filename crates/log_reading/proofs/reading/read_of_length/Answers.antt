use Rattle.std.proofs.Common.{◌<◌, length, arith, rules}
use Rattle.gate_log.proofs.OpenDisks.{new_is_placed}
use Rattle.gate_log.specs.Opened.{new_log}
use Rattle.log_reading.proofs.Copies.{short_read, found_read, found_placed, not_read}
use Rattle.log_reading.proofs.reading.read_of_length.Goals as goal

pub returns-then-len-le-NEW_LOG_SIZE-clause-read : goal.returns-then-len-le-NEW_LOG_SIZE-clause-read
returns-then-len-le-NEW_LOG_SIZE-clause-read g c =
    rw c.new.ensures.items (short_read (g.D.LogDev.told c.args.dev.now) (g.D.LogDev.told_length c.args.dev.now) c.args.len (g.met.D.LogDev.content_length _) c.requires c.if-len-le-NEW_LOG_SIZE.true)

pub returns-then-len-le-NEW_LOG_SIZE-clause-placed : goal.returns-then-len-le-NEW_LOG_SIZE-clause-placed
returns-then-len-le-NEW_LOG_SIZE-clause-placed g c = (new_log, 8, rw c.new.ensures.items new_is_placed, omega arith)

pub returns-clause-read : goal.returns-clause-read
returns-clause-read g c =
    let long : 9 < length c.in_ok-bytes.bytes.items = search rules in
    found_read (λ v. v.items) (g.D.LogDev.told c.args.dev.now) c.in_ok-bytes.bytes.items c.items_in.result long c.in_ok-bytes.ensures.bytes c.items_in.ensures

pub returns-clause-placed : goal.returns-clause-placed
returns-clause-placed g c = found_placed (λ v. v.items) c.in_ok-bytes.bytes.items c.items_in.result c.items_in.ensures

pub returns-clause-refused : goal.returns-clause-refused
returns-clause-refused g c =
    let long : 9 < length c.in_ok-bytes.bytes.items = search rules in
    not_read _ (g.D.LogDev.told c.args.dev.now) _ c.in_ok-bytes.bytes.items c.items_in.result c.read_all.ensures.history long c.in_ok-bytes.ensures.bytes c.items_in.ensures
