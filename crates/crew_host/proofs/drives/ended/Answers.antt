use Rattle.std.proofs.Common.{◌≡◌, ◌+◌, List, length, subst, ◌∙◌, arith}
use Rattle.crew_host.proofs.Stopping.{crew_stop}
use Rattle.crew_host.specs.Stops.{IsStopBy}
use Rattle.crew_parts.specs.Crews.{kept}
use Rattle.crew_parts.specs.Shares.{ShareState, output_seen}
use Rattle.crew_workers.specs.Ends.{IsFault}
use Rattle.snap_hand.specs.Tables.{fixed_of}
use Rattle.snap_hand.specs.declared.tables.Tables.{Tables}
use Rattle.crew_host.proofs.drives.ended.Goals as goal

pub returns-clause-stop : goal.returns-clause-stop
returns-clause-stop g c =
    let t = c.args.ending.tables in
    let w = fixed_of t in
    let es = kept c.args.ending.acts.items in
    let end = c.core_of-core.result in
    let shares = c.args.ending.shares.items in
    let come = c.requires.come in
    let many : length shares ≡ 4 + t.work.logs + length t.opening.states = come.1.1.many ∙ come.1.0.many in
    let fault : IsFault t.work.logs shares c.fault_of-fault.result = subst (λ (xs : List ShareState). IsFault t.work.logs xs c.fault_of-fault.result) c.as_slice-2.ensures.value c.fault_of-fault.ensures in
    let why : IsStopBy w es c.fault_of-fault.result c.stop_of-stop.result =
    subst (λ (u : Tables). IsStopBy (fixed_of u) es c.fault_of-fault.result c.stop_of-stop.result) c.core_of-core.ensures.tables (c.stop_of-stop.ensures es (c.core_of-core.ensures.core come.0 es come.1.1)) in
    crew_stop w es end.logs.items (output_seen g.O.Sink.taken g.O.Sink.faults g.O.Sink.late end.broken end.out) shares t.work.logs c.fault_of-fault.result c.stop_of-stop.result
    c.core_of-core.ensures.beside (omega (arith, many, c.core_of-core.ensures.many)) c.core_of-core.ensures.many fault why
