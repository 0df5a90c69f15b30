use Rattle.std.proofs.Common.{ℕ, ◌≡◌, ◌%◌}
use Rattle.snap_recover.specs.Passes.{InPair, part_key}
use Rattle.snap_recover.proofs.Homes.{adds_one, inserts, parts_apart}
use Rattle.snap_recover.proofs.index.add_part.Goals as goal

pub returns-in_ok-push : goal.returns-in_ok-push
returns-in_ok-push c =
    adds_one (λ (x : ℕ × ℕ). x.1 % c.args.logs ≡ c.args.log) (part_key c.args.kind) (parts_apart c.args.kind) c.args.r.now (InPair c.args.parts.now.items) (InPair c.push.new.self.items) c.in-Some.pair
    c.in-Some.ensures.0 c.in-Some.ensures.1 (inserts c.in-Some.pair c.args.parts.now.items c.push.new.self.items c.in_ok-push.ensures.items)
