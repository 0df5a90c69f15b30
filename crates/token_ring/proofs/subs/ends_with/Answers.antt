use Rattle.std.proofs.Common.{sym, ◌∙◌}
use Rattle.token_ring.proofs.Places.{last_is}
use Rattle.token_ring.proofs.subs.ends_with.Goals as goal

pub returns-in-Some : goal.returns-in-Some
returns-in-Some c = c.eq.ensures ∙ sym (last_is c.args.tids.now c.in-Some.last.now c.args.tid.0 c.in-Some.ensures.value)
