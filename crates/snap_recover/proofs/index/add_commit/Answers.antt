use Rattle.std.proofs.Common.{◌≡◌, ◌%◌}
use Rattle.snap_recover.specs.Passes.{In, commit_key}
use Rattle.snap_recover.proofs.Homes.{adds_one, inserts, commits_apart}
use Rattle.snap_recover.proofs.index.add_commit.Goals as goal

pub returns-in_ok-push : goal.returns-in_ok-push
returns-in_ok-push c =
    adds_one (λ n. n % c.args.logs ≡ c.args.log) (commit_key c.args.kind) (commits_apart c.args.kind) c.args.r.now (In c.args.numbers.now.items) (In c.push.new.self.items) c.in-Some.number
    c.in-Some.ensures.0 c.in-Some.ensures.1 (inserts c.in-Some.number c.args.numbers.now.items c.push.new.self.items c.in_ok-push.ensures.items)
