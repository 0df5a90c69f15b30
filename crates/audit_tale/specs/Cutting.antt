-- What a cascade does to what is kept: the batches from its first one on are taken along, and the live ACTs behind them are given up.
use Rattle.std.specs.Prelude.{◌≡◌, ℕ, ◌+◌, ◌-◌, ◌<◌, ◌≤◌, ◌==◌, nat_le, true, if◌then◌else◌, Option, Some, None, List, length, map, filter, take, drop, slice_get}
use Rattle.std.specs.List.{AllByRecursion}
use Rattle.snap_base.specs.declared.ids.Bid.{Bid}
use Rattle.protocol.specs.Words.{holds, is_among}
use Rattle.audit_tale.specs.Knows.{bid_number}
use Rattle.audit_tale.specs.Touching.{AreEased, AreTouched, lives}
use Rattle.audit_tale.specs.declared.tales.ActTale.{ActTale}
use Rattle.audit_tale.specs.declared.tales.Reason.TheVariants as reason
use Rattle.audit_tale.specs.declared.tales.Tale.{Tale}
use Rattle.audit_tale.specs.declared.told.BatchWay.{BatchWay}
use Rattle.audit_tale.specs.declared.told.Fall.{Fall}
use Rattle.audit_tale.specs.declared.told.Told.{Told}

-- ---- an ACT at the cascade of batch k

-- the least batch behind an ACT, where only those below k are left of them
abbrev pub least_below : Bid → Option Bid → Option Bid
least_below k None = None
least_below k (Some j) = if nat_le k.0 j.0 then None else Some j

-- where it is live, it is given up if k or a later batch stands before it; else none of these stands behind it any more
abbrev pub cut_act : Bid → ActTale → ActTale
cut_act k x = if lives x then (if nat_le k.0 x.before.0 then record x { given_up = Some (reason.Taken k) } else record x { behind = least_below k x.behind }) else x

-- ---- a batch

abbrev pub marked_cut : BatchWay → BatchWay
marked_cut x = record x { is_cut = true }

-- a cascade began with it
abbrev pub begins : Fall → BatchWay → BatchWay
begins f x = record x { fall = Some f }

-- a cascade that begins now: the last batch that was formed, and the number that the next Decide draws
abbrev pub fall_now : Tale → Fall
fall_now t = record { upto = record { 0 = length t.batches.items }; at = t.next_c }

-- ---- the parts of a cascade

-- so many of the numbers stand below k, and those behind them do not
pub record LeavesBelow (k : Bid) (left : ℕ) (uncut : List Bid) : Type 0 where
  pub within : left ≤ length uncut
  pub from : AllByRecursion (λ b. k.0 ≤ b.0) (drop left uncut)
  pub last : (b : Bid) → 0 < left → slice_get uncut (left - 1) ≡ Some b → b.0 < k.0

-- each batch from k on that no cascade took along is taken along
pub record CutsBatches (k : Bid) (old new : Told) : Type 0 where
  pub left : ℕ
  pub cut : LeavesBelow k left old.uncut.items
  pub ways : AreTouched marked_cut (λ i. is_among (i + 1) (map bid_number (drop left old.uncut.items))) old.ways.items new.ways.items
  pub uncut : new.uncut.items ≡ take left old.uncut.items
  pub rest : new ≡ record old { ways = new.ways; uncut = new.uncut }

-- it is told that a cascade began with batch k
pub record Falls (k : Bid) (old new : Told) : Type 0 where
  pub ways : AreTouched (begins (fall_now old.tale)) (λ i. k.0 == i + 1) old.ways.items new.ways.items
  pub rest : new ≡ record old { ways = new.ways }

-- the live ACTs, and who gains from them
pub record CutsActs (k : Bid) (old new : Told) : Type 0 where
  pub acts : AreTouched (cut_act k) (λ i. is_among i old.going.items) old.tale.acts.items new.tale.acts.items
  pub ties : AreEased (λ i. is_among i old.going.items) new.tale.acts.items old.ties.items new.ties.items
  pub going : new.going.items ≡ filter (λ i. holds lives (slice_get new.tale.acts.items i)) old.going.items
  pub rest : new ≡ record old { tale = record old.tale { acts = new.tale.acts }; ties = new.ties; going = new.going }
