-- Checked programs as the method code of the machine: a control is what is left of a transaction, and a slice is that of
-- the sliced executor.
use Rattle.std.specs.Prelude.{◌≡◌, ℕ, ◌+◌, nat_le, ◌==◌, ◌&&◌, ◌||◌, Bool, true, false, Option, Some, None, List, ◌∷◌}
use Rattle.std.specs.List.{list_any}
use Rattle.snap_base.specs.declared.ids.ActorId.{ActorId}
pub use Rattle.snap_base.specs.States.{tid_of}
use Rattle.snap_base.specs.declared.transactions.State.{State}
use Rattle.snap_base.specs.declared.transactions.Tx.{Tx}
use Rattle.aml_tree.specs.Tree.{CheckedMethod}
use Rattle.aml_check.specs.Names.{method_at}
use Rattle.aml_slice.specs.Controls.{Frame, Rest, IsRest, moves_left}
use Rattle.aml_slice.specs.Readers.{AllReading}
use Rattle.aml_slice.specs.Slicing.{SliceEnd, slice_end, started}
use Rattle.aml_slice.specs.Finishing.{finished}
use Rattle.protocol.specs.Meant.{next_meant}
use Rattle.protocol.specs.Fixed.{Sliced, Code, is_pact}
use Rattle.protocol.specs.Facts.{Alone}

-- ---- what the machine asks of a control

-- a frame stands on the actor
abbrev pub is_stood_on : List Frame → ℕ → Bool
is_stood_on frames a = list_any (λ (f : Frame). f.actor == a) frames

-- of a PACT, a call of the actor is left of those that it declared
abbrev pub is_left : Option (List (ActorId × ℕ)) → ℕ → Bool
is_left None a = false
is_left (Some uses) a = list_any (λ (u : ActorId × ℕ). (u.0.0 == a) && nat_le 1 u.1) uses

abbrev pub rests_on : Rest → ℕ → Bool
rests_on c a = is_stood_on (c.top ∷ c.waiting) a || is_left c.left a

abbrev pub as_sliced : SliceEnd → Sliced Rest
as_sliced x = record { state = x.state; next = next_meant x.next }

-- whether the root of the transaction is a method that promises only to read
abbrev pub only_reads : List CheckedMethod → Tx → Bool
only_reads p tx = (method_at p tx.method).is_read

-- the code of a program's methods, over so many actors
abbrev pub method_code : List CheckedMethod → ℕ → Code Rest
method_code p count = record {
  start = λ n tx. started (tid_of n) tx;
  at = λ c. c.top.actor;
  rests_on = λ c a. rests_on c a;
  visited = λ c. c.actors;
  visits_left = λ c. moves_left c + 1;
  slice = λ c s. as_sliced (slice_end p count c s);
  only_reads = λ tx. only_reads p tx;
}

-- ---- of which transaction a control is a rest, and what becomes of it

-- a rest of the transaction; one of a PACT has what is left of its declaration, and one that only reads stands in
-- methods that do
pub record IsRestOf (p : List CheckedMethod) (count : ℕ) (tx : Tx) (c : Rest) : Type 0 where
  pub rest : IsRest p count c
  pub declares : is_pact tx ≡ true → (uses : List (ActorId × ℕ)) × (c.left ≡ Some uses)
  pub reads : only_reads p tx ≡ true → AllReading p c

-- what becomes of a control where nobody else changes the world
abbrev pub finish : List CheckedMethod → ℕ → Rest → List State → Alone
finish p count c w = finished p count c w
