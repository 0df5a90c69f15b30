use Rattle.std.proofs.Common.{◌&&◌, ◌++◌, ◌∷◌, [], not}
use Rattle.std.proofs.lemmas.Bool.{or_parts}
use Rattle.protocol.specs.Runs.{opening, reached}
use Rattle.protocol_ready.specs.Touched.{is_abort}
use Rattle.protocol_ready.specs.Refusing.{is_in_reach, is_reply}
use Rattle.protocol_ready.proofs.Refused.{keeps_all, one_event_more, verdict_stays_told}
use Rattle.protocol_ready.proofs.Sound.{sound}
use Rattle.protocol_ready.proofs.refusing.out_of_reach_stay.Goals as goal

pub returns : goal.returns
returns g c w finish es facts text run e f al h apart =
    let o = or_parts (is_abort e && not (is_reply f)) (is_in_reach e f) h in
    keeps_all w e (reached w es) f (c.frame.ensures w) (sound w es c.numbers_are_drawn_once.ensures text run) (c.events_go_one_way.ensures w e (reached w es) al)
    (λ n. verdict_stays_told w es e n (c.verdicts_have_evidence.ensures w finish (es ++ e ∷ []) facts text (one_event_more w es e (opening w) run al)).stay)
    al o.0 o.1 apart
