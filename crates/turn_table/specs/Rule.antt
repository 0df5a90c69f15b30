-- The rule of the shared history, over the words, the slots and the views of a table.
-- Word 0 is the count of recorded events, and word i + 1 is the turn of part i: 0 free, 1 held.
use Rattle.std.specs.Prelude.{◌≡◌, ◌≢◌, ℕ, suc, ◌+◌, ◌*◌, ◌<◌, ◌≤◌, List, Contains, Option, Some, None, IsSome, length, slice_index, slice_get}
use mathlib.Core.Option as maybe
use lib.ListN.{get_elem?}
use Rattle.atomic_table.specs.Table.{State}
use Rattle.turn_table.specs.declared.views.View.{View}
use Rattle.turn_table.specs.declared.limits.TheConstants.{PASSES, MOST_ENTRIES}
use Rattle.turn_table.specs.Places.{at, one, total, times, once_below, Stand}
use Rattle.turn_table.specs.Runs.{AllLeaveFrom, Run}

-- what a view and the table have in common, where the history has led to these parts
pub record Knows {P E : Type 0} (parts : List P) (history : List E) (homes : List (maybe.Option (Option P))) (count : ℕ) (v : View P E) : Type 0 where
  -- a held part has its value; its slot is empty, and at home unless it is the one that is out
  pub held : (i : ℕ) (p : P) → at v.held i ≡ Some p → (i < count) × (slice_get parts i ≡ Some p) × (v.hand ≢ suc i → get_elem? homes i ≡ maybe.some (maybe.some None))
  -- each entry stands at its number
  pub stand : Stand history v.entries
  -- so the count never wraps
  pub bound : length v.entries ≤ v.weight * MOST_ENTRIES
  -- of a held part it is known how many events were recorded when it was taken
  pub since : (i : ℕ) (p : P) → at v.held i ≡ Some p → (n : ℕ) × (at v.since i ≡ Some n) × (n ≤ length history)
  -- a view without weight holds nothing
  pub live : (i : ℕ) (p : P) → at v.held i ≡ Some p → 0 < v.weight

-- Since the first view took a part that it holds, the second has recorded no event that touches the part.
abbrev pub HoldsApart : {P E : Type 0} → (E → List ℕ) → View P E → View P E → Type 0
HoldsApart {P} footprint v u = (i n : ℕ) (p : P) → at v.held i ≡ Some p → at v.since i ≡ Some n → AllLeaveFrom footprint i n u.entries

module _ {P E : Type 0} (footprint : E → List ℕ) (happens : E → List P → List P → Type 0) where
  pub record Kept (start : List P) (s : State (Option P) (View P E)) : Type 0 where
    pub history : List E
    pub parts : List P
    -- the history is a run from the opening parts
    pub run : Run footprint happens start history parts
    pub wide : length s.words ≡ suc (length start)
    pub deep : length s.homes ≡ length start
    pub sized : length parts ≡ length start
    -- word 0 is its length
    pub count : slice_index s.words 0 ≡ length history
    -- the numbers in all entries are those below the count, each once
    pub numbers : (k : ℕ) → total (λ (v : View P E). times k v.entries) s.views ≡ once_below k (length history)
    pub many : total (λ (v : View P E). length v.entries) s.views ≡ length history
    -- the weights and the splits left are together as many as there can be passes
    pub weights : total (λ (v : View P E). v.weight + v.splits) s.views ≡ PASSES
    -- a turn's word is 1 exactly where some view holds the turn, and no two hold it
    pub turn : (i : ℕ) → i < length start → total (λ (v : View P E). one (at v.held i)) s.views ≡ slice_index s.words (suc i)
    pub binary : (i : ℕ) → i < length start → slice_index s.words (suc i) < 2
    -- where a turn is free, its slot is at home with the part's value
    pub free : (i : ℕ) → i < length start → slice_index s.words (suc i) ≡ 0 → (p : P) × (slice_get parts i ≡ Some p) × (get_elem? s.homes i ≡ maybe.some (maybe.some (Some p)))
    -- what a view holds, no other touches
    pub alone : (j l : ℕ) (v u : View P E) → get_elem? s.views j ≡ maybe.some v → get_elem? s.views l ≡ maybe.some u → j ≢ l → HoldsApart footprint v u
    -- and each view is right
    pub each : (j : ℕ) (v : View P E) → get_elem? s.views j ≡ maybe.some v → Knows parts history s.homes (length start) v

module _ {P E : Type 0} where
  -- the view at this place of the views holds part i
  abbrev pub HoldsAt : State (Option P) (View P E) → ℕ → ℕ → Type 0
  HoldsAt s i j = (v : View P E) × ((get_elem? s.views j ≡ maybe.some v) × IsSome (at v.held i))

  -- the entry is one of some view's
  abbrev pub IsEntry : State (Option P) (View P E) → ℕ × E → Type 0
  IsEntry s e = (j : ℕ) × (v : View P E) × (get_elem? s.views j ≡ maybe.some v) × Contains v.entries e

  -- all that is recorded in the first is recorded in the second
  abbrev pub IsLater : State (Option P) (View P E) → State (Option P) (View P E) → Type 0
  IsLater s t = (e : ℕ × E) → IsEntry s e → IsEntry t e

  -- The view at this place holds part i in both, taken at one count; and it has recorded nothing in between.
  pub record HoldsOn (s t : State (Option P) (View P E)) (i j : ℕ) : Type 0 where
    pub before : View P E
    pub after : View P E
    pub was : get_elem? s.views j ≡ maybe.some before
    pub is : get_elem? t.views j ≡ maybe.some after
    pub since : ℕ
    pub held : IsSome (at before.held i) × IsSome (at after.held i)
    pub taken : (at before.since i ≡ Some since) × (at after.since i ≡ Some since)
    pub entries : after.entries ≡ before.entries
