use Rattle.std.proofs.Common.{◌∙◌, Some, sym}
use Rattle.crew_ends.specs.Lists.{besides_of}
use Rattle.crew_ends.proofs.OneOver.{one_less, one_over, whole_front}
use Rattle.crew_parts.specs.Shares.{BesideState}
use Rattle.crew_ends.proofs.taking.take_log.Goals as goal

pub returns-clause-front : goal.returns-clause-front
returns-clause-front g c = one_less (besides_of c.take_last-beside.new.shares.items) (besides_of c.args.shares.now.items) (besides_of c.args.shares.now.items) c.take_last-beside.result (whole_front (besides_of c.args.shares.now.items)) c.take_last-beside.ensures.beside

pub returns-clause-journals : goal.returns-clause-journals
returns-clause-journals g c = one_over (λ (b : BesideState). b.journal) Some (besides_of c.take_last-beside.new.shares.items) (besides_of c.args.shares.now.items) c.args.logs.now.items c.push_reserved.new.self.items c.take_last-beside.result c.in-Some.log c.take_last-beside.ensures.beside c.push_reserved.ensures.items (sym c.into_journal.ensures ∙ c.in-Some.is)
