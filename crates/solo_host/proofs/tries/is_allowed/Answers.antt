use Rattle.std.proofs.Common.{sym, ◌∙◌}
use Rattle.std.proofs.lemmas.Bool.{eq-eqb, eqb-true, true≢false}
use Rattle.snap_core.specs.core_events.Meant.{event_meant}
use Rattle.snap_core.specs.Cores.{state_at}
use Rattle.snap_core.specs.snap_hand.Tables.{fixed_of}
use Rattle.solo_host.proofs.tries.is_allowed.Goals as goal

pub returns-clause-allowed : goal.returns-clause-allowed
returns-clause-allowed c is = λ es at.
    (c.allowed_or_refused.ensures (fixed_of c.args.core.now.tables) (event_meant c.args.e) (state_at c.args.core.now es)).0 (c.refusal.ensures es at ∙ eqb-true c.refusal.result 0 is)

pub returns-clause-refused : goal.returns-clause-refused
returns-clause-refused c is = λ es at ok.
    true≢false (sym (eq-eqb c.refusal.result 0 (sym (c.refusal.ensures es at) ∙ (c.allowed_or_refused.ensures (fixed_of c.args.core.now.tables) (event_meant c.args.e) (state_at c.args.core.now es)).1 ok)) ∙ is)
