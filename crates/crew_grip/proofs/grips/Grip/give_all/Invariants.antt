use Rattle.std.proofs.Common.{◌≡◌, ℕ, ◌<◌, None}
use Rattle.crew_grip.specs.Grips.{IsAtWork}
use Rattle.turn_table.specs.Places.{at}
use Rattle.crew_grip.proofs.grips.Grip.give_all.Given as goal

-- those so far are given back
abbrev pub invariant-loop-part : goal.invariant-loop-part
invariant-loop-part g l =
    IsAtWork l.turns l.pass.seat l.self × (((i : ℕ) → i < l.part → at l.pass.seat.me.0.held i ≡ None)
    × ((l.pass.entries ≡ l.initial.pass.entries) × (l.pass.seat.me.0.splits ≡ l.initial.pass.seat.me.0.splits)))
