use Rattle.std.proofs.Common.{◌≡◌, true, ◌&&◌, [], ◌∷◌, length, ap, subst, sym, ◌∙◌}
use Rattle.std.proofs.lemmas.Bool.{ltb-true}
use Rattle.protocol.specs.Events.{log}
use Rattle.ready_listing.proofs.Parts.{all_had}
use Rattle.snap_hand.proofs.Held.{log_there}
use Rattle.snap_hand.specs.Hands.{is_at_hand}
use Rattle.crew_hints.proofs.follows.waiting_keys.Goals as goal

pub log-requires : goal.log-requires
log-requires c =
    let h = c.args.hand.now in
    let l = c.args.l in
    let here = subst (λ i. is_at_hand h i ≡ true) c.part_of_log.ensures (sym c.has.ensures ∙ c.if-not-has.false) in
    log_there h l (all_had h (log l ∷ []) (ap (λ b. b && true) here)).0 (ltb-true l (length h.logs) (sym c.has_log.ensures ∙ c.if-not-has_log.false))
