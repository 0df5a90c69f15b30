-- What a pass knows, and how each step changes it.
use Rattle.std.specs.Prelude.{◌≡◌, ℕ, ◌+◌, ◌-◌, List, [], ◌∷◌, ◌++◌, Some, None}
use Rattle.turn_table.specs.declared.views.View.{View}
use Rattle.turn_table.specs.declared.limits.TheConstants.{PASSES}
use Rattle.turn_table.specs.Places.{put_at, held_after}

module _ {P E : Type 0} where
  -- a view of this weight with so many splits left, which holds nothing and has no entry
  abbrev pub fresh : ℕ → ℕ → View P E
  fresh weight splits = record { held = []; since = []; entries = []; weight = weight; splits = splits; hand = 0; refusals = 0 }

  -- the first view: it may be split until there are as many passes as there can be
  abbrev pub whole : View P E
  whole = fresh 1 (PASSES - 1)

  -- h is 0, or one more than the part whose slot is out
  abbrev pub handed : View P E → ℕ → View P E
  handed v h = record { held = v.held; since = v.since; entries = v.entries; weight = v.weight; splits = v.splits; hand = h; refusals = v.refusals }

  -- with the turn of part i, whose value is p, taken when n events were recorded
  abbrev pub gained : View P E → ℕ → P → ℕ → View P E
  gained v i p n = record { held = put_at v.held i (Some p); since = put_at v.since i (Some n); entries = v.entries; weight = v.weight; splits = v.splits; hand = v.hand; refusals = v.refusals }

  -- the second is the first with the turn of part i, whose value is p, taken at some count of recorded events
  abbrev pub HasGained : View P E → ℕ → P → View P E → Type 0
  HasGained v i p w = (n : ℕ) × (w ≡ gained v i p n)

  -- without the turn of part i
  abbrev pub lost : View P E → ℕ → View P E
  lost v i = record { held = put_at v.held i None; since = put_at v.since i None; entries = v.entries; weight = v.weight; splits = v.splits; hand = v.hand; refusals = v.refusals }

  -- one more try found the turn held
  abbrev pub refused : View P E → View P E
  refused v = record { held = v.held; since = v.since; entries = v.entries; weight = v.weight; splits = v.splits; hand = v.hand; refusals = v.refusals + 1 }

  -- one split less is left
  abbrev pub cut : View P E → View P E
  cut v = record { held = v.held; since = v.since; entries = v.entries; weight = v.weight; splits = v.splits - 1; hand = v.hand; refusals = v.refusals }

  -- what two passes know together, of which the second holds nothing
  abbrev pub joined : View P E → View P E → View P E
  joined v w = record { held = v.held; since = v.since; entries = v.entries ++ w.entries; weight = v.weight + w.weight; splits = v.splits + w.splits; hand = v.hand; refusals = v.refusals + w.refusals }

module _ {P E : Type 0} (footprint : E → List ℕ) where
  -- the event has got number n, and has made these values of the parts of its footprint
  abbrev pub noted : View P E → ℕ → E → List P → View P E
  noted v n e made = record { held = held_after v.held (footprint e) made; since = v.since; entries = v.entries ++ (n, e) ∷ []; weight = v.weight; splits = v.splits; hand = v.hand; refusals = v.refusals }
