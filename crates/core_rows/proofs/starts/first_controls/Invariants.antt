use Rattle.std.proofs.Common.{◌≡◌, map, take}
use Rattle.protocol.specs.Fixed.{Fixed}
use Rattle.protocol.specs.Parts.{Who}
use Rattle.protocol.specs.OnPost.{first_control}
use Rattle.protocol.specs.Meant.{batch_pact}
use Rattle.core_rows.specs.Begun.{first_message}
use Rattle.core_rows.specs.Showing.{ShowsTxs}
use Rattle.core_rows.specs.Starts.{Starts}
use Rattle.core_rows.proofs.starts.first_controls.Given as goal

abbrev pub invariant-loop-pact : goal.invariant-loop-pact
invariant-loop-pact g l =
    (w : Fixed _) (who : Who) → ShowsTxs l.txs w → Starts (goal.F-post g l.start) w
    → map (first_message who) l.firsts.items ≡ map (λ p. first_control w who p.tid p.tx) (map batch_pact (take l.pact-index l.pacts))
