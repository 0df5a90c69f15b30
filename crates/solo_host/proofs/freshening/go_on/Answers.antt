use Rattle.std.proofs.Common.{map}
use Rattle.snap_core.specs.core_events.Meant.{event_meant}
use Rattle.solo_host.proofs.KeptList.{advances, renews}
use Rattle.solo_host.proofs.freshening.go_on.Goals as goal

pub returns-then-seed-eq0 : goal.returns-then-seed-eq0
returns-then-seed-eq0 c = advances c.args.seed c.args.core.now (event_meant c.args.e) c.args.list.now.events (map event_meant c.args.news.now.items) c.advance.new.list.events c.advance.result c.if-seed-eq0.true c.advance.ensures.advanced

pub returns-else-seed-eq0 : goal.returns-else-seed-eq0
returns-else-seed-eq0 c = renews c.args.seed c.args.core.now (event_meant c.args.e) c.args.list.now.events (map event_meant c.args.news.now.items) c.renew.new.list.events c.renew.result c.if-seed-eq0.false c.renew.ensures.renewed
