use Rattle.std.proofs.Common.{◌≡◌, true, Bool, ap}
use Rattle.std.specs.Prelude.{not, filter}
use Rattle.audit_words.specs.Seen.{was_admitted, was_given_up}
use Rattle.audit_tale.specs.Rivalry.{locks}
use Rattle.audit_tale.proofs.Tails.{each_lock, filter_end, filter_next}
use Rattle.audit_tale.proofs.tail_group.not_given_up.Goals as goal

pub loop-t-preserved : goal.loop-t-preserved
loop-t-preserved c w s h all =
    filter_next s (λ x. not (was_given_up s.dooms x.tid)) c.args.met.now c.loop-t.t-index (record { 0 = 0 }) c.loop-t.ahead.items c.keep_unless.new.kept.items c.is_given_up-over.result (filter (λ x. not (was_given_up s.dooms x.tid)) (locks s c.args.met.now)) c.loop-t-test.true
    (ap (λ (b : Bool). not b) (c.is_given_up-over.ensures w s h (each_lock s (λ x. was_admitted x.tid s ≡ true) c.args.met.now c.loop-t.t-index (record { 0 = 0 }) c.loop-t-test.true all))) c.in_ok-keep_unless.ensures (c.loop-t.invariant w s h all)

pub returns : goal.returns
returns c w s h all = filter_end s (λ x. not (was_given_up s.dooms x.tid)) c.args.met.now c.loop-t.t-index c.loop-t.ahead.items (filter (λ x. not (was_given_up s.dooms x.tid)) (locks s c.args.met.now)) c.loop-t-test.false (c.loop-t.invariant w s h all)
