-- How the greatest batches before ACTs rise to one number along pairs: what a walk over those that rise has found.
use Rattle.std.specs.Prelude.{◌≡◌, ℕ, ◌≤◌, ◌==◌, nat_lt, max, true, Bool, if◌then◌else◌, Option, Some, None, List, [], ◌∷◌, ◌++◌, filter, map, slice_get, slice_set}
use Rattle.std.specs.List.{AllByRecursion}
use Rattle.snap_base.specs.declared.ids.Tid.{Tid}
use Rattle.protocol.specs.Fixed.{Text}
use Rattle.protocol.specs.Meant.{tid_number}
use Rattle.protocol.specs.Parts.{Pair}
use Rattle.protocol.specs.Words.{count, greatest, is_among}
use Rattle.audit_words.specs.Seen.{Seen, was_admitted, lock_in}
use Rattle.audit_tale.specs.Knows.{RiseFrom}
use Rattle.audit_tale.specs.Stands.{KnowsAll, actor_number}
use Rattle.audit_tale.specs.declared.tales.ActTale.{ActTale}
use Rattle.audit_tale.specs.declared.told.ActTies.{ActTies}
use Rattle.audit_tale.specs.declared.told.ActorTale.{ActorTale}
use Rattle.audit_tale.specs.declared.told.Told.{Told}

-- ---- floors

-- the floors of an actor that an ACT left sealed, where its number rises to m
abbrev pub lifted : ℕ → Bool → ActorTale → ActorTale
lifted m reader x = record x { floor = record { 0 = max x.floor.0 m }; write_floor = if reader then x.write_floor else record { 0 = max x.write_floor.0 m } }

abbrev pub lifted_there : ℕ → ℕ → Bool → Option ActorTale → List ActorTale → List ActorTale
lifted_there a m reader None xs = xs
lifted_there a m reader (Some x) xs = slice_set xs a (lifted m reader x)

abbrev pub lifted_at : ℕ → ℕ → Bool → List ActorTale → List ActorTale
lifted_at a m reader xs = lifted_there a m reader (slice_get xs a) xs

-- those of each of these actors
abbrev pub lifted_along : List ℕ → ℕ → Bool → List ActorTale → List ActorTale
lifted_along [] m reader xs = xs
lifted_along (a ∷ rest) m reader xs = lifted_along rest m reader (lifted_at a m reader xs)

-- the actors that the ACT at a place left sealed
abbrev pub left_in : Option ActTies → List ℕ
left_in None = []
left_in (Some x) = map actor_number x.left.items

-- ---- numbers

-- who stands behind one of these
abbrev pub behind_it : ℕ → List Pair → List ℕ
behind_it u pairs = map (λ p. p.behind) (filter (λ p. p.ahead == u) pairs)

-- the sets of these ACTs have this number too
abbrev pub risen : ℕ → List ℕ → (ℕ → List ℕ) → ℕ → List ℕ
risen m us before u = if is_among u us then before u ++ m ∷ [] else before u

-- along each pair the one behind is at least the one ahead
abbrev pub IsClosed : (ℕ → ℕ) → List Pair → Type 0
IsClosed r pairs = AllByRecursion (λ p. r p.ahead ≤ r p.behind) pairs

-- how many ACTs are below this number
abbrev pub lower : ℕ → List ActTale → ℕ
lower m acts = count (λ x. nat_lt x.before.0 m) acts

abbrev pub tids : List Tid → List ℕ
tids ts = map tid_number ts

-- ---- the walk

-- what a walk asks of what is told
pub record MayRise (s : Seen) : Type 0 where
  pub rise : RiseFrom 1 s.acts
  pub behind : AllByRecursion (λ p. was_admitted p.behind s ≡ true) s.gains
  pub sealed : (a : ℕ) → AllByRecursion (λ x. x ≡ lock_in s.acts x.tid) (s.left_sealed a)

-- These ACTs rise to number m, from t on. They have begun, and none of them is above m; each of them is at least m wherever t is
-- and no pair has the one behind below the one ahead; and whoever stands behind one that was visited is at least m then.
pub record AreRising (m t : ℕ) (us visited : List ℕ) (s : Seen) : Type 0 where
  pub first : is_among t us ≡ true
  pub there : AllByRecursion (λ u. was_admitted u s ≡ true) us
  pub below : AllByRecursion (λ u. greatest (s.before u) ≤ m) us
  pub reached : (r : ℕ → ℕ) → IsClosed r s.gains → m ≤ r t → AllByRecursion (λ u. m ≤ r u) us
  pub carried : AllByRecursion (λ p. is_among p.ahead visited ≡ true → m ≤ greatest (risen m us s.before p.behind)) s.gains

-- so far, with what is known
pub record HasRisen (w : Text) (m t : ℕ) (us visited : List ℕ) (told : Told) (s : Seen) : Type 0 where
  pub knows : KnowsAll w told (record s { before = risen m us s.before })
  pub rising : AreRising m t us visited s
