-- What the events of a run tell, read from the text and from the events alone: no state of an actor is known, no control,
-- and no result. Where the machine keeps two numbers of an ACT, here are the two sets of batches.
use Rattle.std.specs.Prelude.{ℕ, ◌+◌, ◌==◌, nat_le, Bool, false, not, ◌&&◌, Option, Some, None, is_some, List, [], ◌∷◌, ◌++◌, find, length, replicate}
use Rattle.std.specs.List.{list_any}
use Rattle.snap_base.specs.declared.verdicts.Place.{Place}
use Rattle.protocol.specs.Fixed.{Text}
use Rattle.protocol.specs.Rivals.{Lock}
use Rattle.protocol.specs.Parts.{Ring, Pair, Who, OfBatch, OfAct}
use Rattle.protocol.specs.OnRing.{Formed}
use Rattle.protocol.specs.Words.{holds, is_among, is_who, is_act_who, count, greatest, least_of}
use Rattle.protocol.specs.Spread.{reaches}

-- ---- what is told of who

-- an ACT that was admitted
pub record Begun : Type 0 where
  pub tid : ℕ
  pub tx : ℕ
  -- its method only reads
  pub reader : Bool

-- why an ACT is given up
pub data Why : Type 0 where
  -- on this actor this ACT, an older one, was in its way
  Older : (actor : ℕ) (older : ℕ) → Why
  -- at an event on this actor its two sets crossed: the greatest before it, the least behind it
  Crossed : (before : ℕ) (behind : ℕ) (actor : ℕ) → Why
  -- the cascade of this batch took it along
  Taken : (batch : ℕ) → Why

-- it is given up, for this reason
pub record Doom : Type 0 where
  pub tid : ℕ
  pub why : Why

-- an Abort took the batches from first to upto along; at is the number that the next Decide would have drawn
pub record Cut : Type 0 where
  pub first : ℕ
  pub upto : ℕ
  pub at : ℕ

-- who has its place: a PACT of a batch with a Commit event, or an ACT with a Decide event
pub record Member : Type 0 where
  pub who : Who
  pub tid : ℕ
  pub tx : ℕ
  pub place : Place
  -- it is an ACT that only reads
  pub reader : Bool

-- ---- what is told in all

-- What events tell.
pub record Seen : Type 0 where
  -- the token, what waits at the coordinators, and the numbers that are drawn next
  pub ring : Ring
  -- the batches and the ACTs, in the order of their numbers
  pub batches : List Formed
  pub acts : List Begun
  -- the first reason of an ACT counts
  pub dooms : List Doom
  pub cuts : List Cut
  -- in the order of the first Commit of each batch and the first Decide of each ACT
  pub members : List Member
  -- the batches that settled
  pub settled : List ℕ
  -- for each actor: the tids of its Run events; who was placed there, ever; who stands there; the batches that were placed
  -- there and not rolled back; and the ACTs that left it sealed
  pub ran : ℕ → List ℕ
  pub placed : ℕ → List Who
  pub entries : ℕ → List Who
  pub kept : ℕ → List ℕ
  pub left_sealed : ℕ → List Lock
  -- for each ACT the batches that stand before it, and those that stand behind it
  pub before : ℕ → List ℕ
  pub behind : ℕ → List ℕ
  -- who stands behind whom on an actor, and gains what that one gains
  pub gains : List Pair

-- the ring that a run begins with
abbrev pub first_ring : Text → Ring
first_ring w = record {
  holder = 0;
  next_tx = 0;
  next_tid = w.opening.next_tid;
  next_bid = w.opening.next_bid;
  epoch = 0;
  lasts = replicate (length w.opening.states) 0;
  pacts = replicate w.coordinators [];
  acts = replicate w.coordinators [];
}

-- before the first event
abbrev pub nothing_seen : Text → Seen
nothing_seen w = record {
  ring = first_ring w;
  batches = [];
  acts = [];
  dooms = [];
  cuts = [];
  members = [];
  settled = [];
  ran = λ a. [];
  placed = λ a. [];
  entries = λ a. [];
  kept = λ a. [];
  left_sealed = λ a. [];
  before = λ t. [];
  behind = λ t. [];
  gains = [];
}

-- ---- batches

-- the batch with this number
abbrev pub batch_in : ℕ → List Formed → Option Formed
batch_in k batches = find (λ b. b.bid == k) batches

-- the batch was formed
abbrev pub was_formed : ℕ → Seen → Bool
was_formed k s = is_some (batch_in k s.batches)

-- a PACT of the batch declares the actor
abbrev pub goes_to : ℕ → Option Formed → Bool
goes_to a None = false
goes_to a (Some b) = is_among a b.actors

-- a cascade took it along
abbrev pub was_taken_along : ℕ → List Cut → Bool
was_taken_along k cuts = list_any (λ c. nat_le c.first k && nat_le k c.upto) cuts

-- this one is among these
abbrev pub is_one_of_these : Who → List Who → Bool
is_one_of_these who ws = list_any (is_who who) ws

-- ---- ACTs

-- the ACT with this tid
abbrev pub act_in : ℕ → List Begun → Option Begun
act_in t acts = find (λ x. x.tid == t) acts

-- the ACT was admitted
abbrev pub was_admitted : ℕ → Seen → Bool
was_admitted t s = is_some (act_in t s.acts)

-- what an actor knows of an ACT: its tid, and whether it only reads
abbrev pub lock_in : List Begun → ℕ → Lock
lock_in acts t = record { tid = t; reader = holds (λ x. x.reader) (act_in t acts) }

-- the first reason for which an ACT is given up
abbrev pub first_doom : ℕ → List Doom → Option Doom
first_doom t dooms = find (λ d. d.tid == t) dooms

-- the ACT is given up
abbrev pub was_given_up : List Doom → ℕ → Bool
was_given_up dooms t = is_some (first_doom t dooms)

-- this one has its place
abbrev pub has_its_place : Who → List Member → Bool
has_its_place who members = list_any (λ m. is_who who m.who) members

-- the ACT is neither given up nor decided
abbrev pub is_live : Seen → ℕ → Bool
is_live s t = not (was_given_up s.dooms t) && not (has_its_place (OfAct t) s.members)

-- the ACTs among these
abbrev pub acts_among : List Who → List ℕ
acts_among [] = []
acts_among (OfBatch k ∷ ws) = acts_among ws
acts_among (OfAct t ∷ ws) = t ∷ acts_among ws

-- the ACTs behind the last batch; the first list has those that were found behind it so far
abbrev pub tail_behind : List ℕ → List Who → List ℕ
tail_behind ts [] = ts
tail_behind ts (OfBatch k ∷ ws) = tail_behind [] ws
tail_behind ts (OfAct t ∷ ws) = tail_behind (ts ++ t ∷ []) ws

-- the least of some numbers, none where there are none
abbrev pub least : List ℕ → Option ℕ
least [] = None
least (k ∷ ks) = Some (least_of k (least ks))

-- the ACT is live, and the greatest batch before it is not below the least behind it
abbrev pub sets_cross : Seen → ℕ → Bool
sets_cross s t = is_live s t && reaches (greatest (s.before t)) (least (s.behind t))

-- the number that the next Decide draws
abbrev pub next_c : Text → Seen → ℕ
next_c w s = w.opening.next_c + count (λ m. is_act_who m.who) s.members
