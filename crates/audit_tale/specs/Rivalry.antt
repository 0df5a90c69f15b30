-- Who stands behind the last batch on an actor, one entry at a time, and what is kept where one more stands there.
use Rattle.std.specs.Prelude.{◌≡◌, ℕ, List, [], ◌∷◌, ◌++◌, map}
use Rattle.snap_base.specs.declared.ids.Tid.{Tid}
use Rattle.snap_base.specs.declared.transactions.Who.TheVariants.{Act}
use Rattle.protocol.specs.History.{with_at}
use Rattle.protocol.specs.Parts.{Pair, Who, OfBatch, OfAct}
use Rattle.protocol.specs.Rivals.{Lock}
use Rattle.audit_words.specs.Seen.{Seen, lock_in}
use Rattle.audit_tale.specs.declared.told.ActorTale.{ActorTale}

-- the group behind the last batch, where one more stands
abbrev pub tail_step : List ℕ → Who → List ℕ
tail_step ts (OfBatch k) = []
tail_step ts (OfAct t) = ts ++ t ∷ []

-- what actors know of these ACTs
abbrev pub locks : Seen → List Tid → List Lock
locks s ts = map (λ t. lock_in s.acts t.0) ts

-- ACT t stands behind each of these on the actor
abbrev pub pairs_of : ℕ → ℕ → List Tid → List Pair
pairs_of t a us = map (λ u. record { behind = t; ahead = u.0; actor = a }) us

-- the ACT stands last on the actor, and nothing else
abbrev pub with_entry : ℕ → ℕ → Seen → Seen
with_entry t a s = record s {
  placed = with_at a (s.placed a ++ OfAct t ∷ []) s.placed;
  entries = with_at a (s.entries a ++ OfAct t ∷ []) s.entries;
}

pub record Enters (t : Tid) (old new : ActorTale) : Type 0 where
  pub entries : new.entries.items ≡ old.entries.items ++ Act t ∷ []
  pub placed : new.placed.items ≡ old.placed.items ++ Act t ∷ []
  pub ran : new.ran.items ≡ old.ran.items
  pub kept : new.kept.items ≡ old.kept.items
  pub last : new.last ≡ old.last
  pub floor : new.floor ≡ old.floor
  pub write_floor : new.write_floor ≡ old.write_floor
