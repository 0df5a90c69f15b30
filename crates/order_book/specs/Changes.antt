-- What becomes of one ACT, or of some, at places of the list.
use Rattle.std.specs.Prelude.{ℕ, zero, suc, nat_le, max, ◌&&◌, if◌then◌else◌, Option, Some, None, List, [], ◌∷◌, slice_get, drop}
use Rattle.protocol.specs.Parts.{Act, Doomed, Pair}
use Rattle.protocol.specs.Words.{is_live_status, least_of}
use Rattle.protocol.specs.Verdicts.{taken_along}
use Rattle.protocol.specs.Spread.{carried, crossed_out}
use Rattle.protocol.specs.OnBook.{doomed_by, decided_as, marked, has_left}
use Rattle.order_book.specs.declared.change.Change.{Change}
use Rattle.order_book.specs.declared.change.Change.TheVariants.{Lower, Cross, Raise, Doom, Place, Leave, TakeAlong}

-- ---- one ACT

-- a batch stands behind it
abbrev pub lowered_to : ℕ → Act → Act
lowered_to k x = record x { n = Some (least_of k x.n) }

-- it stands behind a batch
abbrev pub raised_to : ℕ → Act → Act
raised_to m x = record x { m = max x.m m }

-- it is given up if it stands behind one of the batches from k on
abbrev pub taken_along_from : ℕ → ℕ → Act → Act
taken_along_from k by x = record x { status = if is_live_status x.status && nat_le k x.m then Doomed (taken_along k by) else x.status }

abbrev pub changed_by : Change → Act → Act
changed_by (Lower k) x = lowered_to k.0 x
changed_by (Cross a) x = crossed_out a.0 x
changed_by (Raise m) x = raised_to m.0 x
changed_by (Doom why) x = doomed_by why x
changed_by Place x = decided_as 0 x
changed_by (Leave a) x = marked a.0 has_left x
changed_by (TakeAlong k by) x = taken_along_from k.0 by.0 x

-- ---- at places

-- the one at this place is changed, where there is one
abbrev pub changed_at : ℕ → (Act → Act) → List Act → List Act
changed_at at f [] = []
changed_at zero f (x ∷ xs) = f x ∷ xs
changed_at (suc at) f (x ∷ xs) = x ∷ changed_at at f xs

abbrev pub changed_along : List ℕ → (Act → Act) → List Act → List Act
changed_along [] f acts = acts
changed_along (at ∷ rest) f acts = changed_along rest f (changed_at at f acts)

-- what those behind it in the list carry to the ACT at this place
abbrev pub carried_to : List Pair → Option Act → List Act → ℕ
carried_to pairs None others = 0
carried_to pairs (Some x) others = carried pairs x others

abbrev pub carried_at : List Pair → ℕ → List Act → ℕ
carried_at pairs at acts = carried_to pairs (slice_get acts at) (drop (suc at) acts)

-- the ACTs at these places rise, the last one first
abbrev pub raised_along : List Pair → List ℕ → List Act → List Act
raised_along pairs [] acts = acts
raised_along pairs (at ∷ rest) acts = changed_at at (raised_to (carried_at pairs at (raised_along pairs rest acts))) (raised_along pairs rest acts)
