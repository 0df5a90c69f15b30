-- How an ACT stands, in the machine's words.
use Rattle.std.specs.Prelude.{ℕ, Bool, ◌&&◌, if◌then◌else◌, Option, unwrap_or}
use Rattle.snap_base.specs.declared.ids.Bid.{Bid}
use Rattle.snap_base.specs.declared.ids.TxNo.{TxNo}
use Rattle.snap_base.specs.declared.verdicts.Verdict.{Verdict}
use Rattle.protocol.specs.Parts.{Status, Live, Doomed, Sealed}
use Rattle.protocol.specs.Words.{is_live_status}
use Rattle.protocol.specs.Spread.{reaches}
use Rattle.protocol.specs.Verdicts.{out_of_order}
use Rattle.order_book.specs.declared.fate.Fate.{Fate}
use Rattle.order_book.specs.declared.fate.Fate.TheVariants.{Undecided, GivenUp, Placed}

-- who has its place shows as sealed with number 0
abbrev pub status_of_fate : Fate → Status
status_of_fate Undecided = Live
status_of_fate (GivenUp why) = Doomed why
status_of_fate Placed = Sealed 0

abbrev pub bid_number : Bid → ℕ
bid_number b = b.0

abbrev pub tx_number : TxNo → ℕ
tx_number n = n.0

-- given up for this reason where a test says so, if it is live
abbrev pub given_up_if : Bool → Verdict → Status → Status
given_up_if b why st = if is_live_status st && b then Doomed why else st

-- given up at an event on actor a, if its numbers cross
abbrev pub crossed : ℕ → Option ℕ → ℕ → Status → Status
crossed m n a st = given_up_if (reaches m n) (out_of_order m (unwrap_or n 0) a) st
