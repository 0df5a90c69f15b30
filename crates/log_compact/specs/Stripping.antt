-- Logs without their checkpoint, and what it tells.
use Rattle.std.specs.Prelude.{◌≡◌, ◌+◌, max, List, Option, Some, None}
use Rattle.snap_base.specs.declared.transactions.State.{State}
use Rattle.txn_records.specs.declared.records.Record.{Record}
use Rattle.snap_recover.specs.declared.openings.Opening.{Opening}
use Rattle.snap_recover.specs.declared.refusals.RecoverNo.{RecoverNo}
use Rattle.snap_recover.specs.declared.refusals.RecoverNo.TheVariants as recovery
use Rattle.log_compact.specs.declared.folds.Folded.{Folded}
use Rattle.log_compact.specs.declared.refusals.FoldNo.{FoldNo}
use Rattle.log_compact.specs.declared.refusals.FoldNo.TheVariants.{Recover, Memory}
use Rattle.log_compact.specs.declared.stripping.Stripped.{Stripped}
use Rattle.log_compact.specs.declared.stripping.Told.{Told}
use Rattle.log_compact.specs.Points.{Point}
use Rattle.log_compact.specs.Sets.{number_of, point_of, plain_lists, first_of, count_batches, count_acts}

-- the numbers of the checkpoint, and all 0 where there is none
pub record IsToldBy (p : Option Point) (t : Told) : Type 0 where
  pub generation : t.generation ≡ number_of (λ p. p.generation) p
  pub next_tid : t.next_tid ≡ number_of (λ p. p.next_tid) p
  pub next_bid : t.next_bid ≡ number_of (λ p. p.next_bid) p
  pub next_c : t.next_c ≡ number_of (λ p. p.next_c) p
  pub batches : t.batches ≡ number_of (λ p. p.batches) p
  pub acts : t.acts ≡ number_of (λ p. p.acts) p

-- these states, and where there are none those of the first Genesis
abbrev pub first_with : Option (List State) → List (List Record) → List State
first_with None lists = first_of lists
first_with (Some states) lists = states

-- the plain lists, the states of Genesis that the checkpoint's took the place of, and the checkpoint's numbers
pub record IsStripped (logs : List (List Record)) (s : Stripped) : Type 0 where
  pub lists : s.lists ≡ plain_lists logs
  pub first : first_with s.first s.lists ≡ first_of logs
  pub told : IsToldBy (point_of logs) s.told

-- the opening with the numbers of the checkpoint
pub record IsJoined (found : Opening) (began : List State) (t : Told) (f : Folded) : Type 0 where
  pub states : f.opening.states ≡ found.states
  pub next_tid : f.opening.next_tid.0 ≡ max found.next_tid.0 t.next_tid
  pub next_bid : f.opening.next_bid.0 ≡ max found.next_bid.0 t.next_bid
  pub next_c : f.opening.next_c ≡ max found.next_c t.next_c
  pub batches : f.batches ≡ count_batches found.committed + t.batches
  pub acts : f.acts ≡ count_acts found.committed + t.acts
  pub first : f.first ≡ began
  pub generation : f.generation ≡ t.generation
  pub since : f.opening.committed ≡ found.committed

-- the answer where the plain lists recover to nothing
abbrev pub refusal_of : RecoverNo → FoldNo
refusal_of recovery.NoGenesis = Recover recovery.NoGenesis
refusal_of recovery.TwoGenesis = Recover recovery.TwoGenesis
refusal_of (recovery.LogCount kept found) = Recover (recovery.LogCount kept found)
refusal_of (recovery.Range key log) = Recover (recovery.Range key log)
refusal_of (recovery.Missing key log) = Recover (recovery.Missing key log)
refusal_of (recovery.Values key log kept found) = Recover (recovery.Values key log kept found)
refusal_of recovery.Memory = Memory
