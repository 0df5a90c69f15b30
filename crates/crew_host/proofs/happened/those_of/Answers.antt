use Rattle.std.proofs.Common.{◌++◌, List, get_or, sym, ap, ◌∙◌, false, arith}
use Rattle.core_events.specs.declared.events.Event.TheVariants as events
use Rattle.crew_host.proofs.Kept.{kept_more}
use Rattle.crew_parts.specs.Acts.{meant}
use Rattle.crew_parts.specs.Crews.{added}
use Rattle.crew_parts.specs.declared.acts.Act.{Act}
use Rattle.protocol.specs.Events.{Event}
use Rattle.crew_host.proofs.happened.those_of.Goals as goal

pub loop-act-preserved : goal.loop-act-preserved
loop-act-preserved c =
    let acts = c.args.acts.now in
    let i = c.loop-act.act-index in
    let first : Act = record { event = events.Submit (record { 0 = 0 }); done = false } in
    let before = c.loop-act.invariant in record {
      so_far = c.add.ensures.added ∙ ap (λ (es : List Event). es ++ added (get_or acts i first).done (meant (get_or acts i first))) before.so_far ∙ sym (kept_more acts i first c.loop-act-test.true);
      few = omega (arith, before.few, c.add.ensures.more);
      room = c.add.ensures.room ∙ before.room;
    }
