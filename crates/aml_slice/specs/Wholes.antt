-- What a control means: what the rest of its transaction gives in a world; a beginning gives all of it, a slice
-- keeps it, and slices add up to it.
use Rattle.std.specs.Prelude.{◌≡◌, ℕ, ◌-◌, ◌<◌, ℤ, Result, Ok, Err, List, [], ◌∷◌, length, map, slice_set, Contains}
use Rattle.snap_base.specs.declared.ids.ActorId.{ActorId}
use Rattle.snap_base.specs.declared.ids.Tid.{Tid}
use Rattle.snap_base.specs.declared.transactions.Kind.TheVariants.{Pact}
use Rattle.snap_base.specs.declared.transactions.State.{State}
use Rattle.snap_base.specs.declared.transactions.Tx.{Tx}
use Rattle.snap_base.specs.declared.transactions.TxResult.{TxResult}
use Rattle.snap_base.specs.declared.transactions.TxResult.TheVariants as result
use Rattle.aml_tree.specs.Tree.{CheckedMethod}
use Rattle.aml_check.specs.Names.{method_at}
use Rattle.aml_check.specs.Meaning.{◌>>=◌, Progress, Caller, alone, called, ended_alone, state_at}
use Rattle.aml_resume.specs.Resuming.{gives}
use Rattle.snap_base.specs.declared.next.Next.{Next}
use Rattle.snap_base.specs.declared.next.Next.TheVariants.{Go, Ended}
use Rattle.aml_slice.specs.Controls.{Frame, Rest, IsRest, RestsOn, most_waiting, moves_left, progress_in, with_given}

-- ---- what the rest of a transaction gives

-- what calls give, by how many more may be open
abbrev pub Callers : Type 0
Callers = ℕ → Caller

-- what a frame gives above so many others
abbrev pub frame_gives : Callers → List CheckedMethod → ℕ → Frame → Progress → Result (ℤ × Progress) ℕ
frame_gives callers p below f r = gives (callers (most_waiting - below)) f.actor (method_at p f.method).body f.standing r

-- what frames that wait make of a value: the last one's is that of the transaction
abbrev pub value_to : Callers → List CheckedMethod → List Frame → ℤ → Progress → Result (ℤ × Progress) ℕ
value_to callers p [] v r = Ok (v, r)
value_to callers p (f ∷ fs) v r = frame_gives callers p (length fs) (with_given f v) r >>= λ x. value_to callers p fs x.0 x.1

-- what is left of a transaction gives this in a world: a value with the run at its end, or a failure's code
abbrev pub rest_gives : List CheckedMethod → Rest → List State → Result (ℤ × Progress) ℕ
rest_gives p c w = frame_gives (called p) p (length c.waiting) c.top (progress_in c w) >>= λ x. value_to (called p) p c.waiting x.0 x.1

-- ---- a beginning

-- All of a transaction is left: in every world that has its actor, what the rest gives is what the
-- transaction gives alone.
pub record BeginsTransaction (p : List CheckedMethod) (tid : Tid) (tx : Tx) (c : Rest) : Type 0 where
  pub whole : (w : List State) → tx.actor.0 < length w → alone p w tx ≡ ended_alone w (rest_gives p c w)
  pub rest : (count : ℕ) → tx.actor.0 < count → IsRest p count c
  pub at : c.top.actor ≡ tx.actor.0
  pub id : c.tid ≡ tid
  pub moves : moves_left c ≡ 126
  -- a PACT rests on actors that it declared
  pub declared : tx.kind ≡ Pact → (a : ℕ) → RestsOn c a → Contains (map (λ (u : ActorId × ℕ). u.0.0) tx.uses) a

-- ---- a slice

-- a world of so many actors in which one has this state
pub record Holds (count own : ℕ) (s : State) (w : List State) : Type 0 where
  pub size : length w ≡ count
  pub state : state_at w own ≡ s

-- what the rest gives in each world with this state, with the new one the other gives
abbrev pub KeepsRest : List CheckedMethod → ℕ → Rest → State → State → Rest → Type 0
KeepsRest p count c s t d =
    (w : List State) → Holds count c.top.actor s w → rest_gives p c w ≡ rest_gives p d (slice_set w c.top.actor t)

-- the rest ends so, in each world with this state
abbrev pub EndsRest : List CheckedMethod → ℕ → Rest → State → State → TxResult → Type 0
EndsRest p count c s t (result.Value v) =
    (w : List State) → Holds count c.top.actor s w → (q : Progress) × (rest_gives p c w ≡ Ok (v, q)) × (q.world ≡ slice_set w c.top.actor t)
EndsRest p count c s t (result.Fail code) =
    (w : List State) → Holds count c.top.actor s w → rest_gives p c w ≡ Err code

-- What the rest of the transaction gives stays the same, in each world with the state that was found.
abbrev pub IsRestKept : List CheckedMethod → ℕ → Rest → State → State → Next Rest → Type 0
IsRestKept p count c s t (Go b d) = KeepsRest p count c s t d
IsRestKept p count c s t (Ended r) = EndsRest p count c s t r

-- ---- slices, one after the other

-- a slice that handed on: the state that it found, the one that it left, and what it handed on
pub record HandedOn : Type 0 where
  pub found : State
  pub left : State
  pub rest : Rest

-- The control runs in these slices and one last, each on the state that is found at its actor, where
-- nobody else changes the world in between; so it ends, and leaves this world.
abbrev pub RunsInSlices : List CheckedMethod → ℕ → Rest → List State → List HandedOn → TxResult → List State → Type 0
RunsInSlices p count c w [] r after =
    (s t : State) × (state_at w c.top.actor ≡ s) × EndsRest p count c s t r × (after ≡ slice_set w c.top.actor t)
RunsInSlices p count c w (cut ∷ cuts) r after =
    (state_at w c.top.actor ≡ cut.found) × KeepsRest p count c cut.found cut.left cut.rest × RunsInSlices p count cut.rest (slice_set w c.top.actor cut.left) cuts r after

-- the world behind a transaction: the one that it leaves, or for a failure the one before
abbrev pub world_after : TxResult → List State → List State → List State
world_after (result.Value v) before after = after
world_after (result.Fail code) before after = before
