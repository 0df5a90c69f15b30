use Rattle.std.proofs.Common.{Bool, ap}
use Rattle.std.specs.Prelude.{not, ◌&&◌, filter}
use Rattle.audit_tale.specs.Rivalry.{locks}
use Rattle.audit_tale.proofs.Tails.{filter_end, filter_next}
use Rattle.audit_tale.proofs.tail_group.rivals_in.Goals as goal

pub loop-t-preserved : goal.loop-t-preserved
loop-t-preserved c w s h =
    filter_next s (λ x. not (c.args.reader && x.reader)) c.args.tail.now c.loop-t.t-index (record { 0 = 0 }) c.loop-t.met.items c.keep_unless.new.kept.items c.is_beside-beside.result (filter (λ x. not (c.args.reader && x.reader)) (locks s c.args.tail.now)) c.loop-t-test.true
    (ap (λ (b : Bool). not b) (c.is_beside-beside.ensures w s h)) c.in_ok-keep_unless.ensures (c.loop-t.invariant w s h)

pub returns : goal.returns
returns c w s h = filter_end s (λ x. not (c.args.reader && x.reader)) c.args.tail.now c.loop-t.t-index c.loop-t.met.items (filter (λ x. not (c.args.reader && x.reader)) (locks s c.args.tail.now)) c.loop-t-test.false (c.loop-t.invariant w s h)
