-- The hand that a run begins with: its logs and cells, and its four other parts.
use Rattle.std.specs.Prelude.{Option, None, Some, List, [], length, map, replicate}
use Rattle.aml_slice.specs.Controls.{Rest}
use Rattle.core_rows.specs.book_part.Halves.{Halves}
use Rattle.core_rows.specs.log_set.Logs.{LogList, no_records}
use Rattle.protocol.specs.BookParts.{no_orders, no_votes}
use Rattle.protocol.specs.Fixed.{Fixed, base}
use Rattle.protocol.specs.Parts.{Ring, Post, Desk, Cell}
use Rattle.protocol.specs.Runs.{new_cell, opening}
use Rattle.snap_hand.specs.Hands.{Parts}

-- just these logs and cells
abbrev pub only_lists : List (Option LogList) → List (Option (Cell Rest)) → Parts
only_lists logs cells = record { ring = None; book = None; post = None; desk = None; logs = logs; cells = cells }

abbrev pub opening_lists : Fixed Rest → Parts
opening_lists w = only_lists (replicate w.text.logs (Some no_records)) (map (λ s. Some (new_cell (base w.text) s)) w.text.opening.states)

-- with these four parts
abbrev pub with_others : Ring → Halves → Post Rest → Desk → Parts → Parts
with_others r b p d h = record h { ring = Some r; book = Some b; post = Some p; desk = Some d }

-- a book with no ACT, and room for a cascade of each transaction
abbrev pub opening_halves : Fixed Rest → Halves
opening_halves w = record { orders = no_orders; votes = no_votes w.text.opening.next_c; cascades = []; most = length w.text.txs }

abbrev pub with_opening_others : Fixed Rest → Parts → Parts
with_opening_others w h = with_others (opening w).ring (opening_halves w) (opening w).post (opening w).desk h
