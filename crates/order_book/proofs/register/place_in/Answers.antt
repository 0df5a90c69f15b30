use Rattle.std.proofs.Common.{◌<◌, ◌≤◌, ◌-◌, ℕ, List, sym, length, get_or, arith}
use Rattle.protocol.specs.Cutting.{Ascends}
use Rattle.order_book.proofs.Finding.{rises, position_is, position_between}
use Rattle.order_book.proofs.register.place_in.Goals as goal

less_up_to : (t last : ℕ) (tids : List ℕ) → Ascends tids → last < length tids → get_or tids last 0 < t → (k : ℕ) → k ≤ last → get_or tids k 0 < t
less_up_to t last tids up within less k le = omega (arith, rises tids k last up le within, less)

pub returns-then-tids-at : goal.returns-then-tids-at
returns-then-tids-at c =
    sym (position_is c.args.t c.args.tids.now (c.loop-at.at - 1) c.requires (omega (arith, c.loop-at-test.true, c.loop-at.invariant.0)) c.if-tids-at.true)

pub returns-then-tids-at-2 : goal.returns-then-tids-at-2
returns-then-tids-at-2 c =
    let tids : List ℕ = c.args.tids.now in
    let within : c.loop-at.at - 1 < length tids = omega (arith, c.loop-at-test.true, c.loop-at.invariant.0) in
    sym (position_between c.args.t tids c.loop-at.at
    (λ k lt. less_up_to c.args.t (c.loop-at.at - 1) tids c.requires within c.if-tids-at-2.true k (omega (arith, lt)))
    c.loop-at.invariant.1)
