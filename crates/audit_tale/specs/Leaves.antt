-- What calls make of an actor, and of an ACT, when somebody leaves.
use Rattle.std.specs.Prelude.{◌≡◌, ℕ, zero, suc, max, Bool, true, false, not, ◌&&◌, ◌==◌, if◌then◌else◌, List, [], ◌∷◌, ◌++◌, filter, slice_get}
use Rattle.snap_base.specs.declared.ids.ActorId.{ActorId}
use Rattle.snap_base.specs.declared.transactions.Who as code
use Rattle.protocol.specs.Meant.{who_meant}
use Rattle.protocol.specs.Parts.{Who, OfBatch, OfAct}
use Rattle.protocol.specs.Words.{holds, is_who}
use Rattle.audit_tale.specs.declared.tales.ActTale.{ActTale}
use Rattle.audit_tale.specs.declared.told.ActTies.{ActTies}
use Rattle.audit_tale.specs.declared.told.ActorTale.{ActorTale}
use Rattle.audit_tale.specs.declared.told.BatchWay.{BatchWay}

-- a cascade took the batch along, as the ways of batches tell; they stand by their numbers, from 1 on
abbrev pub cut_by : List BatchWay → ℕ → Bool
cut_by ways zero = false
cut_by ways (suc n) = holds (λ x. x.is_cut) (slice_get ways n)

-- at a rollback it goes; the flag tells whether a cut batch was passed
abbrev pub goes_by : (ℕ → Bool) → Bool → Who → Bool
goes_by is_cut passed (OfBatch k) = is_cut k
goes_by is_cut passed (OfAct t) = passed

-- what stays of a list where the first one that goes is passed
abbrev pub staying : {X : Type 0} → (Bool → X → Bool) → Bool → List X → List X
staying goes passed [] = []
staying goes passed (x ∷ xs) = if goes passed x then staying goes true xs else x ∷ staying goes passed xs

-- the same of an actor's entries, as the ways of batches tell
abbrev pub staying_by : List BatchWay → List code.Who → List code.Who
staying_by ways ws = staying (λ passed who. goes_by (cut_by ways) passed (who_meant who)) false ws

-- a floor rises to this batch, where somebody leaves sealed
abbrev pub risen : Bool → ℕ → ℕ → ℕ
risen sealed before floor = if sealed then max floor before else floor

-- the ACT leaves the actor, sealed or not
pub record LeavesActor (x : ActTale) (sealed : Bool) (old new : ActorTale) : Type 0 where
  pub entries : new.entries.items ≡ filter (λ who. not (is_who (who_meant who) (OfAct x.tid.0))) old.entries.items
  pub placed : new.placed.items ≡ old.placed.items
  pub ran : new.ran.items ≡ old.ran.items
  pub kept : new.kept.items ≡ old.kept.items
  pub last : new.last ≡ old.last
  pub floor : new.floor.0 ≡ risen sealed x.before.0 old.floor.0
  pub write_floor : new.write_floor.0 ≡ risen (sealed && not x.reader) x.before.0 old.write_floor.0

-- nobody gains from the ACT on the actor any more, and where it left it sealed, that is kept
pub record Unties (a : ActorId) (sealed : Bool) (old new : ActTies) : Type 0 where
  pub waiters : new.waiters.items ≡ filter (λ x. not (x.actor.0 == a.0)) old.waiters.items
  pub left : new.left.items ≡ old.left.items ++ (if sealed then a ∷ [] else [])
