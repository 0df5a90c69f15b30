use Rattle.std.proofs.Common.{◌≡◌, ◌+◌, ◌<◌, ◌≤◌, true, map, sym, subst, arith}
use Rattle.core_events.specs.Meant.{event_meant}
use Rattle.protocol.specs.Conditions.{IsAllowed}
use Rattle.snap_hand.specs.Tables.{fixed_of}
use Rattle.snap_hand.proofs.Held.{log_there}
use Rattle.ready_news.specs.Foreseen.{of_keys}
use Rattle.ready_news.specs.New.{is_new}
use Rattle.ready_news.proofs.Common.{desk_there, has_added}
use Rattle.ready_news.proofs.AheadOfSync.{is_a_log, no_sync, sync_foreseen}
use Rattle.ready_news.proofs.foreseeing.foreseen.Goals as goal

pub desk-requires : goal.desk-requires
desk-requires c = desk_there c.args.hand.now c.requires.whole

pub log-requires : goal.log-requires
log-requires c = log_there c.args.hand.now c.in-Sync.l (c.requires.whole (4 + c.in-Sync.l)) (subst (λ n. c.in-Sync.l < n) (sym c.requires.places.logs) c.if-l-tables.false)

pub returns-in_default : goal.returns-in_default
returns-in_default c s ahead sync = absurd (no_sync c.args.e c.in_default.not-Sync sync)

pub returns-then-l-tables : goal.returns-then-l-tables
returns-then-l-tables c s ahead sync =
    let w = fixed_of c.args.tables.now in
    let within : c.in-Sync.l < w.text.logs = is_a_log w c.in-Sync.l s c.logs_stay.ensures ahead.run (subst (λ z. IsAllowed w (event_meant z) s) c.in-Sync.is ahead.allowed) in
    let past : w.text.logs ≤ c.in-Sync.l = c.if-l-tables.true in
    absurd (omega arith)

pub returns : goal.returns
returns c s ahead sync f new =
    let w = fixed_of c.args.tables.now in
    let d = c.desk.result.now in
    let waiting = c.waiting_keys.result.now in
    sync_foreseen w c.in-Sync.l s c.allowed_or_refused.ensures c.args.hand.now d c.log.result.now.log waiting (map event_meant c.list_keys.new.events.items) ahead.fits c.desk.ensures c.log.ensures c.waiting_keys.ensures
    (has_added c.clear.new.self.items c.list_keys.new.events.items (of_keys d waiting) c.in_ok-list_keys.ensures) f (subst (λ z. is_new w (event_meant z) s f ≡ true) c.in-Sync.is new)
