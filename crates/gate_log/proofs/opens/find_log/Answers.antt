use Rattle.std.proofs.Common.{◌∙◌, arith}
use Rattle.gate_log.proofs.OpenDisks.{new_is_placed, made_log, made_format, found_log, is_ready, found_ready}
use Rattle.gate_log.specs.Opened.{new_log}
use Rattle.gate_log.proofs.opens.find_log.Goals as goal

pub returns-then-len-le-NEW_LOG_SIZE-clause-log : goal.returns-then-len-le-NEW_LOG_SIZE-clause-log
returns-then-len-le-NEW_LOG_SIZE-clause-log g c =
    rw c.new.ensures (made_log _ _ _ c.in_ok-len.len (g.met.D.LogDev.content_length _) c.in_ok-len.ensures.told c.if-len-le-NEW_LOG_SIZE.true c.in_ok-make_log.ensures.told)

pub returns-then-len-le-NEW_LOG_SIZE-clause-placed : goal.returns-then-len-le-NEW_LOG_SIZE-clause-placed
returns-then-len-le-NEW_LOG_SIZE-clause-placed g c = (new_log, rw c.new.ensures new_is_placed)

pub returns-then-len-le-NEW_LOG_SIZE-clause-ready : goal.returns-then-len-le-NEW_LOG_SIZE-clause-ready
returns-then-len-le-NEW_LOG_SIZE-clause-ready g c =
    is_ready _ _ 8 2 _ (made_log _ _ _ c.in_ok-len.len (g.met.D.LogDev.content_length _) c.in_ok-len.ensures.told c.if-len-le-NEW_LOG_SIZE.true c.in_ok-make_log.ensures.told)
    (made_format _ _ _ c.in_ok-len.len (g.met.D.LogDev.content_length _) c.in_ok-len.ensures.told c.if-len-le-NEW_LOG_SIZE.true c.in_ok-make_log.ensures.told) (omega arith)
    c.in_ok-make_log.ensures.known c.in_ok-make_log.ensures.within

pub returns-clause-log : goal.returns-clause-log
returns-clause-log g c = found_log _ _ c.read_device.result c.read_device.ensures.read c.read_device.ensures.synced

pub returns-clause-ready : goal.returns-clause-ready
returns-clause-ready g c =
    found_ready _ _ _ c.in_ok-len.len c.read_device.result (found_log _ _ c.read_device.result c.read_device.ensures.read c.read_device.ensures.synced)
    c.read_device.ensures.format c.read_device.ensures.placed c.read_device.ensures.synced
    (c.read_device.ensures.same ∙ c.in_ok-len.ensures.told) c.read_device.ensures.within
