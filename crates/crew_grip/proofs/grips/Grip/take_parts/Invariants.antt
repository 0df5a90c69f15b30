use Rattle.std.proofs.Common.{◌≡◌, ℕ, false, IsSome, take}
use Rattle.std.specs.List.{AllByRecursion}
use Rattle.crew_grip.specs.Grips.{IsAtWork}
use Rattle.protocol.specs.Words.{is_among}
use Rattle.turn_table.specs.Places.{at}
use Rattle.crew_grip.proofs.grips.Grip.take_parts.Given as goal

-- those so far are held, and no other is taken
abbrev pub invariant-loop-i : goal.invariant-loop-i
invariant-loop-i g l =
    IsAtWork l.turns l.pass.seat l.self × (AllByRecursion (λ j. IsSome (at l.pass.seat.me.0.held j)) (take l.i l.footprint)
    × (((j : ℕ) → is_among j l.footprint ≡ false → at l.pass.seat.me.0.held j ≡ at l.initial.pass.seat.me.0.held j)
    × ((l.pass.entries ≡ l.initial.pass.entries) × (l.pass.seat.me.0.splits ≡ l.initial.pass.seat.me.0.splits))))
