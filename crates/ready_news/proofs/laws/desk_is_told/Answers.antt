use Rattle.std.proofs.Common.{refl}
use Rattle.ready_listing.specs.Listed.{on_desk}
use Rattle.protocol.specs.Effects.{after}
use Rattle.ready_news.proofs.AfterRuns.{holding}
use Rattle.ready_news.proofs.InDesk.{desk_told}
use Rattle.ready_news.proofs.laws.desk_is_told.Goals as goal

pub returns : goal.returns
returns c w e s h next es behind other nexts more =
    let d = (after w e s).desk in
    desk_told w s (holding w s behind.run) d next nexts (λ asked. c.parts_list_all.ensures.desk asked d (on_desk d)) e es c.allowed_or_refused.ensures behind.allowed other refl more
