use Rattle.std.proofs.Common.{sym, ◌∙◌}
use Rattle.audit_tale.proofs.Framing.{nothing_stands}
use Rattle.audit_tale.proofs.told.Told.new.Goals as goal

pub returns : goal.returns
returns c w o = record {
  names = c.in_ok-new.ensures w o;
  stands = nothing_stands w _ (c.in_ok-untouched.ensures.0 ∙ sym o.actors_are) c.in_ok-untouched.ensures.1 c.new-2.ensures.items c.new-3.ensures.items c.new-4.ensures.items c.new-5.ensures.items;
}
