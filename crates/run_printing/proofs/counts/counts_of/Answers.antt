use Rattle.std.proofs.Common.{◌≡◌, length, map, take, sym, ap, ◌∙◌, arith}
use Rattle.std.proofs.Math.Seq.{take-length}
use Rattle.core_events.specs.declared.events.Event.TheVariants as events
use Rattle.core_events.specs.Meant.{event_meant}
use Rattle.protocol.specs.Left.{total}
use Rattle.run_effects.specs.Replies.{commits_of, aborts_of}
use Rattle.run_printing.specs.Counted.{settled_by}
use Rattle.run_printing.proofs.Counted.{committed_total, aborted_total, settles_total, total_more}
use Rattle.snap_core.specs.Cores.{state_at}
use Rattle.snap_core.specs.snap_hand.Tables.{fixed_of}
use Rattle.run_printing.proofs.counts.counts_of.Goals as goal

pub loop-event-preserved : goal.loop-event-preserved
loop-event-preserved c =
    let es = c.args.kept.now in
    let s = state_at c.args.core.now (map event_meant es) in
    let i = c.loop-event.event-index in
    let first = events.Submit (record { 0 = 0 }) in
    let added = c.added_by-more.ensures.added (map event_meant es) c.requires in
    let few = c.added_by-more.ensures.few in
    let before = c.loop-event.invariant in record {
      committed = total_more (commits_of s) es i first c.loop-event-test.true _ _ before.committed added.committed;
      aborted = total_more (aborts_of s) es i first c.loop-event-test.true _ _ before.aborted added.aborted;
      batches = total_more settled_by es i first c.loop-event-test.true _ _ before.batches added.batches;
      few_committed = omega (arith, before.few_committed, few.0);
      few_aborted = omega (arith, before.few_aborted, few.1);
      few_batches = omega (arith, before.few_batches, few.2);
    }

pub returns-clause-committed : goal.returns-clause-committed
returns-clause-committed c =
    let es = c.args.kept.now in
    let s = state_at c.args.core.now (map event_meant es) in
    let end : c.loop-event.event-index ≡ length es = omega (arith, c.loop-event-test.false, c.loop-event.auto.event-index-end) in
    let whole = ap (λ n. take n es) end ∙ take-length es in
    c.loop-event.invariant.committed ∙ ap (λ xs. total (commits_of s) (map event_meant xs)) whole ∙ sym (committed_total s (map event_meant es))

pub returns-clause-aborted : goal.returns-clause-aborted
returns-clause-aborted c =
    let es = c.args.kept.now in
    let s = state_at c.args.core.now (map event_meant es) in
    let end : c.loop-event.event-index ≡ length es = omega (arith, c.loop-event-test.false, c.loop-event.auto.event-index-end) in
    let whole = ap (λ n. take n es) end ∙ take-length es in
    c.loop-event.invariant.aborted ∙ ap (λ xs. total (aborts_of s) (map event_meant xs)) whole ∙ sym (aborted_total s (map event_meant es))

pub returns-clause-batches : goal.returns-clause-batches
returns-clause-batches c =
    let es = c.args.kept.now in
    let end : c.loop-event.event-index ≡ length es = omega (arith, c.loop-event-test.false, c.loop-event.auto.event-index-end) in
    let whole = ap (λ n. take n es) end ∙ take-length es in
    c.loop-event.invariant.batches ∙ ap (λ xs. total settled_by (map event_meant xs)) whole ∙ sym (settles_total (map event_meant es))
    ∙ sym (c.batches_are_counted.ensures (fixed_of c.args.core.now.tables) (map event_meant es) c.requires.run)
