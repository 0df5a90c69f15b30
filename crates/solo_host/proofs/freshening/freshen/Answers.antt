use Rattle.std.proofs.Common.{map, sym}
use Rattle.snap_core.specs.core_events.Meant.{event_meant}
use Rattle.solo_host.proofs.KeptList.{last_read, listed, renewed}
use Rattle.solo_host.proofs.freshening.freshen.Goals as goal

pub returns-in-Some : goal.returns-in-Some
returns-in-Some c =
    renewed c.args.seed c.args.core.now c.args.kept.now.items c.in-Some.e.now c.args.list.now.events (map event_meant c.args.news.now.items) c.go_on.new.list.events c.go_on.result
    (last_read c.args.kept.now.items c.deref.result.now c.in-Some.e.now c.deref.ensures.value (sym c.in-Some.ensures.value)) c.requires.at c.requires.behind c.go_on.ensures

pub returns-in-None : goal.returns-in-None
returns-in-None c = listed c.args.seed c.args.core.now (map event_meant c.args.kept.now.items) c.list_anew.new.list.events c.list_anew.result c.requires.at c.list_anew.ensures
