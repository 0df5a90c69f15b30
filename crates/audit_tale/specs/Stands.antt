-- What is known of who stands and stood where, of cascades, and of who gains from whom: what is kept, in the words of what
-- events tell.
use Rattle.std.specs.Prelude.{◌≡◌, ℕ, ◌+◌, ◌<◌, ◌≤◌, ◌==◌, true, false, not, Option, Some, None, List, [], ◌∷◌, length, map, filter, slice_get, ⊤}
use Rattle.std.specs.List.{AllByRecursion, list_any}
use Rattle.snap_base.specs.declared.ids.ActorId.{ActorId}
use Rattle.protocol.specs.Fixed.{Text}
use Rattle.protocol.specs.History.{sets_of}
use Rattle.protocol.specs.Meant.{tid_number, who_meant}
use Rattle.protocol.specs.Parts.{Pair, Who, OfBatch, OfAct}
use Rattle.protocol.specs.Words.{greatest, is_among}
use Rattle.audit_words.specs.Seen.{Begun, Cut, Seen, was_admitted, sets_cross, was_taken_along, was_given_up, is_live, is_one_of_these, lock_in}
use Rattle.audit_tale.specs.Knows.{AreDrawn, Knows, bid_number}
use Rattle.audit_tale.specs.declared.told.ActTies.{ActTies}
use Rattle.audit_tale.specs.declared.told.ActorTale.{ActorTale}
use Rattle.audit_tale.specs.declared.told.BatchWay.{BatchWay}
use Rattle.audit_tale.specs.declared.told.Fall.{Fall}
use Rattle.audit_tale.specs.declared.told.Told.{Told}
use Rattle.audit_tale.specs.declared.told.Waiter.{Waiter}

-- ---- what holds of what events tell, between two events

-- it has begun, or was formed
abbrev pub IsNamed : Seen → Who → Type 0
IsNamed s (OfBatch k) = k < s.ring.next_bid
IsNamed s (OfAct t) = was_admitted t s ≡ true

-- whose sets these are: who stands behind is the older one, nobody gains from who is given up, and whoever stands behind has
-- batches before it as great as the one ahead
pub record IsSteadyPair (s : Seen) (p : Pair) : Type 0 where
  pub older : p.behind < p.ahead
  pub is_behind : was_admitted p.behind s ≡ true
  pub is_ahead : was_admitted p.ahead s ≡ true
  pub carries : was_given_up s.dooms p.ahead ≡ false
  pub rises : greatest (s.before p.ahead) ≤ greatest (s.before p.behind)

-- nobody stands twice on the actor
abbrev pub AreApart : List Who → Type 0
AreApart [] = ⊤
AreApart (who ∷ ws) = (is_one_of_these who ws ≡ false) × AreApart ws

-- Events that meet the first clause, from empty logs, leave no live ACT whose sets cross.
pub record AreSteady (s : Seen) : Type 0 where
  pub pairs : AllByRecursion (IsSteadyPair s) s.gains
  pub none_crossed : AllByRecursion (λ x. sets_cross s x.tid ≡ false) s.acts
  pub entries : (a : ℕ) → AllByRecursion (IsNamed s) (s.entries a)
  pub apart : (a : ℕ) → AreApart (s.entries a)
  -- who stands there was placed there
  pub placed : (a : ℕ) → AllByRecursion (λ who. is_one_of_these who (s.placed a) ≡ true) (s.entries a)
  pub kept : (a : ℕ) → AllByRecursion (λ k. k < s.ring.next_bid) (s.kept a)
  pub behind : (t : ℕ) → AllByRecursion (λ k. k < s.ring.next_bid) (s.behind t)
  pub sealed : (a : ℕ) → AllByRecursion (λ x. (was_admitted x.tid s ≡ true) × (x ≡ lock_in s.acts x.tid)) (s.left_sealed a)

-- ---- what is kept, in the words of what is told

abbrev pub actor_number : ActorId → ℕ
actor_number a = a.0

-- the ACT stands behind the one with tid t
abbrev pub pair_behind : ℕ → Waiter → Pair
pair_behind t x = record { behind = x.tid.0; ahead = t; actor = x.actor.0 }

-- the cascade that began with batch k, where there was one
abbrev pub cuts_from : ℕ → Option Fall → List Cut
cuts_from k None = []
cuts_from k (Some f) = record { first = k; upto = f.upto.0; at = f.at } ∷ []

-- ---- what is known

pub record TellsActor (s : Seen) (a : ℕ) (x : ActorTale) : Type 0 where
  pub entries : map who_meant x.entries.items ≡ s.entries a
  pub placed : map who_meant x.placed.items ≡ s.placed a
  pub ran : map tid_number x.ran.items ≡ s.ran a
  pub kept : map bid_number x.kept.items ≡ s.kept a
  pub last : x.last.0 ≡ greatest (s.kept a)
  pub floor : x.floor.0 ≡ greatest (sets_of s.before (s.left_sealed a))
  pub write_floor : x.write_floor.0 ≡ greatest (sets_of s.before (filter (λ l. not l.reader) (s.left_sealed a)))

-- nobody was placed there
pub record IsUntouched (x : ActorTale) : Type 0 where
  pub entries : x.entries.items ≡ []
  pub placed : x.placed.items ≡ []
  pub ran : x.ran.items ≡ []
  pub kept : x.kept.items ≡ []
  pub last : x.last.0 ≡ 0
  pub floor : x.floor.0 ≡ 0
  pub write_floor : x.write_floor.0 ≡ 0

-- batch k; one that began no cascade is not the first of any
pub record TellsWay (s : Seen) (k : ℕ) (x : BatchWay) : Type 0 where
  pub came : (a : ℕ) → is_among a (map actor_number x.came.items) ≡ is_one_of_these (OfBatch k) (s.placed a)
  pub is_cut : x.is_cut ≡ was_taken_along k s.cuts
  pub fall : cuts_from k x.fall ≡ filter (λ c. c.first == k) s.cuts

-- the ACT that is told here
pub record TellsTies (s : Seen) (t : ℕ) (x : ActTies) : Type 0 where
  pub waiters : map (pair_behind t) x.waiters.items ≡ filter (λ p. p.ahead == t) s.gains
  pub left : (a : ℕ) → is_among a (map actor_number x.left.items) ≡ list_any (λ l. l.tid == t) (s.left_sealed a)

pub record Stands (w : Text) (t : Told) (s : Seen) : Type 0 where
  pub count : length t.actors.items ≡ length w.opening.states
  pub actors : (a : ℕ) (x : ActorTale) → slice_get t.actors.items a ≡ Some x → TellsActor s a x
  -- nobody comes where no actor is
  pub nobody : (a : ℕ) → length t.actors.items ≤ a → (s.entries a ≡ []) × (s.placed a ≡ [])
  pub batches : length t.ways.items ≡ length s.batches
  pub ways : (i : ℕ) (x : BatchWay) → slice_get t.ways.items i ≡ Some x → TellsWay s (i + 1) x
  -- a batch that was not formed began no cascade
  pub cuts : AllByRecursion (λ c. (1 ≤ c.first) × (c.first < s.ring.next_bid)) s.cuts
  pub uncut : map bid_number t.uncut.items ≡ filter (λ k. not (was_taken_along k s.cuts)) (map (λ b. b.bid) s.batches)
  pub acts : length t.ties.items ≡ length s.acts
  pub ties : (i : ℕ) (x : ActTies) (b : Begun) → slice_get t.ties.items i ≡ Some x → slice_get s.acts i ≡ Some b → TellsTies s b.tid x
  pub going : (i : ℕ) (b : Begun) → slice_get s.acts i ≡ Some b → is_live s b.tid ≡ true → is_among i t.going.items ≡ true

-- all that is known
pub record KnowsAll (w : Text) (t : Told) (s : Seen) : Type 0 where
  pub names : Knows w t.tale s
  pub stands : Stands w t s

-- whoever was ever placed has begun or was formed, and a cascade reaches no batch that was not formed
pub record ArePlaced (s : Seen) : Type 0 where
  pub placed : (a : ℕ) → AllByRecursion (IsNamed s) (s.placed a)
  pub cuts : AllByRecursion (λ c. c.upto < s.ring.next_bid) s.cuts

-- all that holds between two events
pub record IsSound (s : Seen) : Type 0 where
  pub drawn : AreDrawn s
  pub steady : AreSteady s
  pub placed : ArePlaced s
