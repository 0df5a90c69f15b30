-- What orders and votes tell together. Of an ACT each of them has its own part, or nothing.
use Rattle.std.specs.Prelude.{ℕ, ◌&&◌, Bool, if◌then◌else◌, Option, Some, None}
use Rattle.snap_base.specs.declared.transactions.TxResult.{TxResult}
use Rattle.snap_base.specs.declared.verdicts.Verdict.{Verdict}
use Rattle.protocol.specs.Verdicts.{ended_at, act_place}
use Rattle.protocol.specs.Parts.{Act}
use Rattle.order_book.specs.Asked.{doom_of, place_of}
use Rattle.act_commit.specs.Words.{sealing_by}

-- ---- the verdict of an ACT

-- of one with this before number: its commit's number and its result tell, where it is sealed
abbrev pub sealed_verdict : ℕ → Option (ℕ × TxResult) → Option Verdict
sealed_verdict m None = None
sealed_verdict m (Some s) = ended_at (act_place m s.0) (Some s.1)

-- of one that has its place the votes tell, and of any other a doom
abbrev pub votes_or_doom : Option ℕ → Option Verdict → Option (ℕ × TxResult) → Option Verdict
votes_or_doom None doom sealing = doom
votes_or_doom (Some m) doom sealing = sealed_verdict m sealing

-- of an ACT as orders and votes have it
abbrev pub told_verdict : Option Act → Option Act → Option Verdict
told_verdict x y = votes_or_doom (place_of x) (doom_of x) (sealing_by y)

-- ---- how many events its status may still bring

-- by orders it is live, or has its place; by votes it is decided and not sealed
abbrev pub left_told : Bool → Bool → Bool → ℕ
left_told live placed decided = if live then 3 else (if placed && decided then 1 else 0)
