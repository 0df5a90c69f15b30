use Rattle.std.proofs.Common.{◌≡◌, ℕ, true, false, None, take}
use Rattle.crew_grip.specs.Grips.{IsAtWork}
use Rattle.protocol.specs.Words.{is_among}
use Rattle.turn_table.specs.Places.{at}
use Rattle.crew_grip.proofs.grips.Grip.keep_parts.Given as goal

-- those so far are given back, but for the parts that are kept
abbrev pub invariant-loop-i : goal.invariant-loop-i
invariant-loop-i g l =
    IsAtWork l.turns l.pass.seat l.self × (((j : ℕ) → is_among j (take l.i l.held) ≡ true → is_among j l.footprint ≡ false → at l.pass.seat.me.0.held j ≡ None)
    × (((j : ℕ) → at l.initial.pass.seat.me.0.held j ≡ None → at l.pass.seat.me.0.held j ≡ None)
    × ((l.pass.entries ≡ l.initial.pass.entries) × (l.pass.seat.me.0.splits ≡ l.initial.pass.seat.me.0.splits))))
