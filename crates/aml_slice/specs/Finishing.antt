-- What becomes of a control where nobody else changes the world: its slices, one after the other.
use Rattle.std.specs.Prelude.{ℕ, zero, suc, ◌+◌, List, slice_set}
use Rattle.snap_base.specs.declared.transactions.State.{State}
use Rattle.snap_base.specs.declared.transactions.TxResult.TheVariants as result
use Rattle.aml_tree.specs.Tree.{CheckedMethod}
use Rattle.snap_base.specs.Outcomes.{Alone}
use Rattle.aml_check.specs.Meaning.{state_at, too_many_statements}
use Rattle.snap_base.specs.declared.next.Next.{Next}
use Rattle.snap_base.specs.declared.next.Next.TheVariants.{Go, Ended}
use Rattle.aml_slice.specs.Controls.{Rest, moves_left}
use Rattle.aml_slice.specs.Slicing.{SliceEnd, slice_end}

-- what is left after a slice gives; a failure leaves what its statements made of the world
abbrev pub goes_on : (Rest → List State → Alone) → List State → Next Rest → Alone
goes_on more w (Go b d) = more d w
goes_on more w (Ended r) = record { result = r; world = w }

abbrev pub after_slice : (Rest → List State → Alone) → Rest → List State → SliceEnd → Alone
after_slice more c w x = goes_on more (slice_set w c.top.actor x.state) x.next

-- in so many slices at most
abbrev pub finished_in : ℕ → List CheckedMethod → ℕ → Rest → List State → Alone
finished_in zero p count c w = record { result = result.Fail too_many_statements; world = w }
finished_in (suc f) p count c w = after_slice (finished_in f p count) c w (slice_end p count c (state_at w c.top.actor))

abbrev pub finished : List CheckedMethod → ℕ → Rest → List State → Alone
finished p count c w = finished_in (moves_left c + 1) p count c w
