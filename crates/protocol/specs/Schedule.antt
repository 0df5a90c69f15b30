-- The schedule of a host with one thread: which of the allowed events it takes.
use Rattle.std.specs.Prelude.{◌≡◌, ℕ, ◌+◌, ◌%◌, ◌==◌, nat_lt, Bool, true, ◌&&◌, ◌||◌, Some, List, [], ◌∷◌, length, slice_get, ◌↔◌, Contains, ⊤}
use Rattle.protocol.specs.Fixed.{Fixed}
use Rattle.protocol.specs.Parts.{Machine}
use Rattle.protocol.specs.Events.{Event, Submit, Pass, Form, Admit, Arrive, Ask, Take, Run, Send, End, Close, Complete, Sync, Note, Commit, Settle, Abort, Rollback, DropSub, DropControl, Prepare, Vouch, Decide, Seal, Finish, Reply, Trim}
use Rattle.protocol.specs.Conditions.{IsAllowed}
use Rattle.protocol.specs.Effects.{after}
use Rattle.protocol.specs.Runs.{opening}

-- ---- the order of events: by kind, then by the first number, then by the second

pub record Rank : Type 0 where
  pub kind : ℕ
  pub first : ℕ
  pub second : ℕ

abbrev pub ranked : ℕ → ℕ → ℕ → Rank
ranked kind first second = record { kind = kind; first = first; second = second }

abbrev pub rank : Event → Rank
rank (Submit n) = ranked 1 n 0
rank (Pass c) = ranked 2 c 0
rank (Form k) = ranked 3 k 0
rank (Admit t) = ranked 4 t 0
rank (Arrive k a) = ranked 5 k a
rank (Ask t a) = ranked 6 t a
rank (Take t a) = ranked 7 t a
rank (Run t a) = ranked 8 t a
rank (Send t a) = ranked 9 t a
rank (End t a) = ranked 10 t a
rank (Close t a) = ranked 11 t a
rank (Complete k a) = ranked 12 k a
rank (Sync l) = ranked 13 l 0
rank (Note k a) = ranked 14 k a
rank (Commit k) = ranked 15 k 0
rank (Settle k) = ranked 16 k 0
rank (Abort k) = ranked 17 k 0
rank (Rollback a) = ranked 18 a 0
rank (DropSub k a) = ranked 19 k a
rank (DropControl t) = ranked 20 t 0
rank (Prepare t a) = ranked 21 t a
rank (Vouch t a) = ranked 22 t a
rank (Decide t) = ranked 23 t 0
rank (Seal t) = ranked 24 t 0
rank (Finish t a) = ranked 25 t a
rank (Reply n) = ranked 26 n 0
rank (Trim k a) = ranked 27 k a

abbrev pub is_rank_below : Rank → Rank → Bool
is_rank_below x y = nat_lt x.kind y.kind || ((x.kind == y.kind) && (nat_lt x.first y.first || ((x.first == y.first) && nat_lt x.second y.second)))

abbrev pub IsBelowEach : Rank → List Event → Type 0
IsBelowEach r [] = ⊤
IsBelowEach r (e ∷ es) = (is_rank_below r (rank e) ≡ true) × IsBelowEach r es

abbrev pub AscendByRank : List Event → Type 0
AscendByRank [] = ⊤
AscendByRank (e ∷ es) = IsBelowEach (rank e) es × AscendByRank es

-- all allowed events, in order
pub record IsEnabled {C : Type 0} (w : Fixed C) (s : Machine C) (es : List Event) : Type 0 where
  pub all : (e : Event) → Contains es e ↔ IsAllowed w e s
  pub ascends : AscendByRank es

-- ---- the pick

-- The first of the allowed events; or, by a stream of words that a seed gives, the one whose place is the next
-- word, modulo their number. One word is drawn at each step.
pub data Draw : Type 0 where
  First : Draw
  Drawn : (words : ℕ → ℕ) → Draw

-- the place that is picked at a step, of so many
abbrev pub pick : Draw → ℕ → ℕ → ℕ
pick First step many = 0
pick (Drawn words) step many = words step % many

-- The events are those that the schedule takes, from this step on.
abbrev pub Follows : {C : Type 0} → Fixed C → Draw → ℕ → List Event → Machine C → Type 0
Follows w draw step [] s = ⊤
Follows w draw step (e ∷ es) s =
    ((all : List Event) × IsEnabled w s all × (slice_get all (pick draw step (length all)) ≡ Some e)) × Follows w draw (step + 1) es (after w e s)

-- a front of the schedule
abbrev pub IsFrontOfSchedule : {C : Type 0} → Fixed C → Draw → List Event → Type 0
IsFrontOfSchedule w draw es = Follows w draw 0 es (opening w)
