-- What clauses say of a table, of its passes' seats and of held turns.
use Rattle.std.specs.Prelude.{◌≡◌, ℕ, List, Option}
use Rattle.atomic_table.specs.declared.shared.Seat.{Seat}
use Rattle.turn_table.specs.declared.held.Held.{Held}
use Rattle.turn_table.specs.declared.held.Lease.{Lease}
use Rattle.turn_table.specs.declared.turns.Turns.{Turns}
use Rattle.turn_table.specs.declared.views.View.{View}
use Rattle.turn_table.specs.Places.{IsIdle}

module _ {P T E : Type 0} where
  -- the fixed data that events are read with
  abbrev pub tables_of : Turns P T E → T
  tables_of turns = turns.table.shared.key.tables.value

  -- the parts that the table was made with
  abbrev pub opening_of : Turns P T E → List P
  opening_of turns = turns.table.shared.key.parts.value.items

  -- the seat is one of this table
  abbrev pub IsOf : Turns P T E → Seat (Option P) (View P E) → Type 0
  IsOf turns seat = seat.table_id ≡ turns.table.shared.table_id

module _ {P E : Type 0} where
  -- the pass holds no turn
  abbrev pub HoldsNothing : Seat (Option P) (View P E) → Type 0
  HoldsNothing seat = IsIdle seat.me.0.held

  -- how many passes may still be split from it
  abbrev pub splits_of : Seat (Option P) (View P E) → ℕ
  splits_of seat = seat.me.0.splits

-- what the seat's pass knows
abbrev pub knows : {S V : Type 0} → Seat S V → V
knows seat = seat.me.0

module _ {P : Type 0} where
  -- the number of the part
  abbrev pub part_of : Held P → ℕ
  part_of h = h.part

  abbrev pub value_of : Held P → P
  value_of h = h.value

-- the number of the part whose value was taken out
abbrev pub leased : Lease → ℕ
leased l = l.part
