-- What a batch that comes to an actor does to what is kept: it stands behind the ACTs there, and last on the actor.
use Rattle.std.specs.Prelude.{◌≡◌, ℕ, ◌-◌, ◌==◌, nat_le, max, Bool, false, if◌then◌else◌, Option, Some, None, option_map, List, [], ◌∷◌, ◌++◌}
use Rattle.std.specs.List.{list_any}
use Rattle.snap_base.specs.declared.ids.ActorId.{ActorId}
use Rattle.snap_base.specs.declared.ids.Bid.{Bid}
use Rattle.snap_base.specs.declared.transactions.Who as whose
use Rattle.snap_base.specs.declared.transactions.Who.TheVariants.{Batch, Act}
use Rattle.protocol.specs.Words.{least_of}
use Rattle.audit_tale.specs.Knows.{bid_number, owner_of}
use Rattle.audit_tale.specs.Touching.{AreEased, AreTouched, IsChangedAt, lives}
use Rattle.audit_tale.specs.declared.tales.ActTale.{ActTale}
use Rattle.audit_tale.specs.declared.tales.Owner.{Owner}
use Rattle.audit_tale.specs.declared.tales.Owner.TheVariants as owners
use Rattle.audit_tale.specs.declared.tales.Reason as reasons
use Rattle.audit_tale.specs.declared.tales.Reason.TheVariants as reason
use Rattle.audit_tale.specs.declared.told.ActorTale.{ActorTale}
use Rattle.audit_tale.specs.declared.told.BatchWay.{BatchWay}
use Rattle.audit_tale.specs.declared.told.Told.{Told}

-- ---- an ACT with one more batch behind it

-- the lesser of a batch and the least one behind an ACT
abbrev pub lesser : Bid → Option Bid → Bid
lesser k behind = record { 0 = least_of k.0 (option_map bid_number behind) }

-- given up where the greatest batch before it is not below the least behind it
abbrev pub crossing_of : Bid → Bid → ActorId → Option reasons.Reason
crossing_of before behind a = if nat_le behind.0 before.0 then Some (reason.Crossed before behind a) else None

-- where it is live, batch k stands behind it too, and it is given up if it crosses
abbrev pub lowered_act : Bid → ActorId → ActTale → ActTale
lowered_act k a x = if lives x then record x { behind = Some (lesser k x.behind); given_up = crossing_of x.before (lesser k x.behind) a } else x

-- ---- who stands on an actor

-- the owner is the ACT at this place
abbrev pub is_act_at : ℕ → Option Owner → Bool
is_act_at i None = false
is_act_at i (Some (owners.Pact k)) = false
is_act_at i (Some (owners.Act at)) = at == i

-- this one is the ACT at this place
abbrev pub is_kept_at : List Owner → ℕ → whose.Who → Bool
is_kept_at os i (Batch k) = false
is_kept_at os i (Act t) = is_act_at i (owner_of t.0 os)

-- the ACT at this place is among these
abbrev pub is_kept_among : List Owner → List whose.Who → ℕ → Bool
is_kept_among os ws i = list_any (is_kept_at os i) ws

-- ---- the parts of an arrival

-- batch k stands behind each live ACT of these, at an event on actor a, and nobody gains from who crosses
pub record Lowers (k : Bid) (a : ActorId) (entries : List whose.Who) (old new : Told) : Type 0 where
  pub acts : AreTouched (lowered_act k a) (is_kept_among old.tale.owners.items entries) old.tale.acts.items new.tale.acts.items
  pub ties : AreEased (is_kept_among old.tale.owners.items entries) new.tale.acts.items old.ties.items new.ties.items
  pub rest : new ≡ record old { tale = record old.tale { acts = new.tale.acts }; ties = new.ties }

-- the batch stands last on the actor
pub record IsJoined (k : Bid) (x y : ActorTale) : Type 0 where
  pub entries : y.entries.items ≡ x.entries.items ++ Batch k ∷ []
  pub placed : y.placed.items ≡ x.placed.items ++ Batch k ∷ []
  pub ran : y.ran.items ≡ x.ran.items
  pub kept : y.kept.items ≡ x.kept.items ++ k ∷ []
  pub last : y.last.0 ≡ max x.last.0 k.0
  pub floor : y.floor.0 ≡ x.floor.0
  pub write_floor : y.write_floor.0 ≡ x.write_floor.0

-- it was placed on the actor
pub record CameThere (a : ActorId) (x y : BatchWay) : Type 0 where
  pub came : y.came.items ≡ x.came.items ++ a ∷ []
  pub is_cut : y.is_cut ≡ x.is_cut
  pub fall : y.fall ≡ x.fall

pub record Joins (k : Bid) (a : ActorId) (old new : Told) : Type 0 where
  pub actors : IsChangedAt (IsJoined k) a.0 old.actors.items new.actors.items
  pub ways : IsChangedAt (CameThere a) (k.0 - 1) old.ways.items new.ways.items
  pub rest : new ≡ record old { actors = new.actors; ways = new.ways }
