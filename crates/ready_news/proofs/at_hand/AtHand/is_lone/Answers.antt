use Rattle.std.proofs.Common.{◌==◌, ◌+◌, length, sym, ap, ◌∙◌}
use Rattle.std.proofs.lemmas.Bool.{ltb-false, ltb-true}
use Rattle.std.proofs.lemmas.Option.{slice_get_past}
use Rattle.snap_hand.proofs.Held.{log_there}
use Rattle.ready_news.specs.InRing.{is_lone_in}
use Rattle.ready_news.proofs.at_hand.AtHand.is_lone.Goals as goal

pub returns-then-not-has_log : goal.returns-then-not-has_log
returns-then-not-has_log c = ap is_lone_in (sym (slice_get_past c.args.self.now.hand.now.logs c.args.l (ltb-false c.args.l (length c.args.self.now.hand.now.logs) (sym c.has_log.ensures ∙ c.if-not-has_log.true))))

pub log-requires : goal.log-requires
log-requires c = log_there c.args.self.now.hand.now c.args.l (c.requires (4 + c.args.l)) (ltb-true c.args.l (length c.args.self.now.hand.now.logs) (sym c.has_log.ensures ∙ c.if-not-has_log.false))

pub returns : goal.returns
returns c = ap (λ n. n == 1) c.waiting.ensures.log ∙ ap is_lone_in (sym c.log.ensures)
