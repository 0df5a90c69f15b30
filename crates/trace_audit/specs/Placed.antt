-- Who has which place, and whether no smaller batch committed after its own, by tests on the members that are kept.
use Rattle.std.specs.Prelude.{◌≡◌, ℕ, ◌==◌, nat_lt, nat_le, Bool, true, false, ◌&&◌, ◌||◌, if◌then◌else◌, Option, Some, None, List, [], ◌∷◌, Vec}
use Rattle.std.specs.List.{list_any}
use Rattle.std.specs.declared.alloc.Global.{Global}
use Rattle.snap_base.specs.declared.ids.Bid.{Bid}
use Rattle.snap_base.specs.declared.transactions.Who as whose
use Rattle.snap_base.specs.declared.transactions.Who.TheVariants.{Batch, Act}
use Rattle.snap_base.specs.declared.verdicts.Place.{Place}
use Rattle.snap_base.specs.declared.verdicts.Verdict.{Verdict}
use Rattle.snap_base.specs.declared.verdicts.Verdict.TheVariants as verdicts
use Rattle.audit_words.specs.Papers.{Line, Reply}
use Rattle.audit_tale.specs.declared.tales.MemberTale.{MemberTale}
use Rattle.trace_audit.specs.Grouped.{group_at}

-- they are one place
abbrev pub is_place : Place → Place → Bool
is_place p q = (p.batch.0 == q.batch.0) && ((p.side == q.side) && (p.order == q.order))

-- one of the members has this place
abbrev pub stands_at : Place → List MemberTale → Bool
stands_at p ms = list_any (λ m. is_place m.place p) ms

-- an ACT, or a batch that is not above the least one, if there is one
abbrev pub is_least : whose.Who → Option Bid → Bool
is_least (Batch k) None = true
is_least (Batch k) (Some j) = nat_le k.0 j.0
is_least (Act t) least = true

-- the least batch with this one
abbrev pub lesser : Option Bid → whose.Who → Option Bid
lesser least (Act t) = least
lesser None (Batch k) = Some k
lesser (Some j) (Batch k) = if nat_lt k.0 j.0 then Some k else Some j

-- the least batch of these members
abbrev pub least_batch : List MemberTale → Option Bid
least_batch [] = None
least_batch (m ∷ ms) = lesser (least_batch ms) m.who

-- transaction n has this place among these members, and no smaller batch behind its own
abbrev pub is_placed : ℕ → Place → List MemberTale → Bool
is_placed n p [] = false
is_placed n p (m ∷ ms) = is_placed n p ms || (is_least m.who (least_batch ms) && ((n == m.tx.0) && is_place m.place p))

-- by transaction the members behind which no smaller batch than their own committed
pub record ArePlaced (ms : List MemberTale) (groups : List (Vec MemberTale Global)) : Type 0 where
  pub told : (n : ℕ) (p : Place) → stands_at p (group_at groups n) ≡ is_placed n p ms

-- who is told a place has it; and only an ACT fails there
abbrev pub verdict_placed : List MemberTale → ℕ → Verdict → Bool
verdict_placed ms n (verdicts.Committed p v) = is_placed n p ms
verdict_placed ms n (verdicts.Code p code) = (p.side == 1) && is_placed n p ms
verdict_placed ms n _ = true

abbrev pub line_placed : List MemberTale → Line → Bool
line_placed ms (Reply n v) = verdict_placed ms n v
line_placed ms _ = true
