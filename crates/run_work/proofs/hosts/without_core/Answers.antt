use Rattle.std.proofs.Common.{arith, refl}
use Rattle.std.proofs.KnownBytes.{Keeps-refl}
use Rattle.run_work.proofs.Hosting.{no_core, no_memory}
use Rattle.run_work.proofs.hosts.without_core.Goals as goal
use Rattle.run_work.specs.Runs.{reporting}
use Rattle.run_work.specs.Writings.{Writing, writing_of}

pub returns-clause-hosted : goal.returns-clause-hosted
returns-clause-hosted g c = λ w schedule o ready.
    let out : Writing = writing_of g.O.Sink c.args.out c.args.out in
    let ends = no_core reporting w schedule o c.args.logs.items out c.new.result.items c.new.ensures.items ready (Keeps-refl _) (omega arith) in
    record { ends = ends; core = refl; whole = λ _. ends.printed; stops = no_memory reporting }
