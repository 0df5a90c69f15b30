use Rattle.std.proofs.Common.{refl, sym}
use Rattle.std.proofs.lemmas.List.{length-set}
use Rattle.snap_base.proofs.Lists.{get_other}
use Rattle.audit_tale.proofs.Standing.{entered_known, enters_here}
use Rattle.audit_tale.proofs.asking.stand_last.Goals as goal

pub returns-clause-knows : goal.returns-clause-knows
returns-clause-knows c w s h = entered_known w c.args.a.0 c.args.t c.args.told.now _ s h c.requires (record {
  tale = refl;
  count = length-set c.args.told.now.actors.items c.args.a.0 c.enter.new.actor;
  here = enters_here c.args.a.0 c.args.t c.index_mut.result.now c.enter.new.actor c.args.told.now.actors.items c.requires c.index_mut.ensures.value c.in_ok-enter.ensures;
  others = λ b n. get_other c.args.told.now.actors.items b c.args.a.0 c.enter.new.actor (λ e. n (sym e));
  ways = refl;
  ties = refl;
  uncut = refl;
  going = refl;
})
