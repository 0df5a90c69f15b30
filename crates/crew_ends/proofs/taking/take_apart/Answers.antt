use Rattle.std.proofs.Common.{◌≡◌, ◌∙◌, ap, arith, length, map, reverse, sym}
use Rattle.std.proofs.lemmas.List.{length-reverse}
use Rattle.crew_ends.specs.Lists.{besides_of, taken}
use Rattle.crew_ends.proofs.OneOver.{front_of_front}
use Rattle.crew_ends.proofs.TakenApart.{all_taken, as_many, ends_with_output, have_front, stood_beside}
use Rattle.crew_parts.specs.Shares.{output_seen}
use Rattle.snap_hand.specs.Shown.{shown}
use Rattle.crew_ends.proofs.taking.take_apart.Goals as goal

pub take_logs-requires-clause-journals : goal.take_logs-requires-clause-journals
take_logs-requires-clause-journals g c = have_front c.args.count (besides_of c.take_bare.new.shares.items) (besides_of c.args.shares.items) c.take_bare.ensures.front c.requires.journals

pub take_output-out-requires-clause-last : goal.take_output-out-requires-clause-last
take_output-out-requires-clause-last g c =
    ends_with_output (besides_of c.args.shares.items) (besides_of c.take_logs.new.shares.items) c.requires.output
    (front_of_front (besides_of c.take_logs.new.shares.items) (besides_of c.take_bare.new.shares.items) (besides_of c.args.shares.items) c.take_logs.ensures.front c.take_bare.ensures.front)
    (as_many c.take_logs.new.shares.items 4 (sym c.take_logs.new.shares.ok.0 ∙ c.take_logs.ensures.fewer))

pub returns-clause-parts : goal.returns-clause-parts
returns-clause-parts g c =
    ap (map shown) c.reverse.ensures.items
    ∙ all_taken c.take_bare-2.new.shares.items c.args.shares.items c.take_bare-2.new.parts.items
    (c.take_bare-2.ensures.parts ∙ (c.take_output-out.ensures.parts ∙ (c.take_logs.ensures.parts ∙ (c.take_bare.ensures.parts ∙ ap (taken c.args.shares.items) c.room.invariant.0))))
    (sym c.take_bare-2.new.shares.ok.0 ∙ omega arith)

pub returns-clause-beside : goal.returns-clause-beside
returns-clause-beside g c =
    let logs = c.take_logs.new.logs in
    let many : length (reverse logs.items) ≡ c.args.count = length-reverse logs.items ∙ (sym logs.ok.0 ∙ c.take_logs.ensures.logs) in
    stood_beside c.args.shares.items (besides_of c.take_bare.new.shares.items) (besides_of c.take_logs.new.shares.items) logs.items
    (output_seen g.O.Sink.taken g.O.Sink.faults g.O.Sink.late c.take_output-out.result.1 c.take_output-out.result.0)
    (as_many c.take_bare.new.shares.items _ (sym c.take_bare.new.shares.ok.0 ∙ omega (arith, many)))
    (as_many c.take_logs.new.shares.items 4 (sym c.take_logs.new.shares.ok.0 ∙ c.take_logs.ensures.fewer))
    c.take_bare.ensures.front c.take_logs.ensures.front c.take_logs.ensures.journals c.take_output-out.ensures.output
    c.reverse-2.new.self.items c.reverse-2.ensures.items
