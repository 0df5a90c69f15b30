-- What a seed makes of the schedule: the words of PCG32 (XSH RR over a 64-bit congruential generator) on stream 0.
use Rattle.std.specs.Prelude.{ℕ, zero, suc, ◌+◌, ◌==◌, if◌then◌else◌, Option, None, Some, List, [], ◌∷◌, length, slice_get}
use Rattle.rand_pcg.specs.Lcg.{Lcg, started, increment_of, advance}
use Rattle.rand_pcg.specs.Pcg.{multiplier_64, output_xsh_rr}
use Rattle.protocol.specs.Fixed.{Fixed}
use Rattle.protocol.specs.Parts.{Machine}
use Rattle.protocol.specs.Events.{Event}
use Rattle.protocol.specs.Effects.{after}
use Rattle.protocol.specs.Runs.{opening}
use Rattle.protocol.specs.Candidates.{allowed_candidates}
use Rattle.protocol.specs.Schedule.{Draw, First, Drawn, pick, IsFrontOfSchedule}

-- the generator that a seed starts
abbrev pub generator_of : ℕ → Lcg
generator_of seed = started 64 multiplier_64 seed (increment_of 64 0)

-- word i is the output of its state after i steps
abbrev pub word_of : ℕ → ℕ → ℕ
word_of seed i = output_xsh_rr (advance 64 multiplier_64 i (generator_of seed)).state

-- seed 0 takes the first allowed event at each step
abbrev pub draw_of : ℕ → Draw
draw_of seed = if seed == 0 then First else Drawn (word_of seed)

-- ---- the schedule, computed

-- the event that is taken at a step, if any is allowed
abbrev pub picked : {C : Type 0} → Fixed C → Draw → ℕ → Machine C → Option Event
picked w draw step s = slice_get (allowed_candidates w s) (pick draw step (length (allowed_candidates w s)))

-- goes on by what is picked, at most so many times
abbrev pub goes_by : {C : Type 0} → ℕ → Fixed C → Draw → ℕ → Machine C → Option Event → List Event
goes_by zero w draw step s e = []
goes_by (suc k) w draw step s None = []
goes_by (suc k) w draw step s (Some e) = e ∷ goes_by k w draw (step + 1) (after w e s) (picked w draw (step + 1) (after w e s))

-- the first so many events that a seed takes
abbrev pub schedule_of : {C : Type 0} → Fixed C → ℕ → ℕ → List Event
schedule_of w seed many = goes_by many w (draw_of seed) 0 (opening w) (picked w (draw_of seed) 0 (opening w))

-- The events are a front of the schedule of a seed.
abbrev pub IsFrontOfSeed : {C : Type 0} → Fixed C → ℕ → List Event → Type 0
IsFrontOfSeed w seed es = IsFrontOfSchedule w (draw_of seed) es
