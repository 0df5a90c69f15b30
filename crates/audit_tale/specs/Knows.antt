-- What is known of what events tell, where of each ACT only the ends of its two sets are kept: the greatest batch before it and
-- the least behind it.
use Rattle.std.specs.Prelude.{◌≡◌, ℕ, zero, suc, ◌+◌, ◌<◌, ◌≤◌, ◌⊎◌, true, false, Option, Some, None, option_map, List, [], ◌∷◌, ◌++◌, length, map, replicate, slice_get, ⊤}
use Rattle.std.specs.List.{AllByRecursion}
use Rattle.snap_base.specs.declared.ids.Bid.{Bid}
use Rattle.protocol.specs.Fixed.{Text}
use Rattle.protocol.specs.Meant.{who_meant}
use Rattle.protocol.specs.OnRing.{Formed}
use Rattle.protocol.specs.Parts.{Ring, Who, OfBatch, OfAct}
use Rattle.protocol.specs.Words.{greatest, is_among}
use Rattle.audit_words.specs.Seen as seen
use Rattle.audit_words.specs.Seen.{Seen, Begun, Why, first_doom, has_its_place, is_live, least, next_c}
use Rattle.audit_tale.specs.declared.tales.ActTale.{ActTale}
use Rattle.audit_tale.specs.declared.tales.BatchTale.{BatchTale}
use Rattle.audit_tale.specs.declared.tales.MemberTale.{MemberTale}
use Rattle.audit_tale.specs.declared.tales.Owner.{Owner}
use Rattle.audit_tale.specs.declared.tales.Owner.TheVariants as owners
use Rattle.audit_tale.specs.declared.tales.Reason as reasons
use Rattle.audit_tale.specs.declared.tales.Reason.TheVariants as reason
use Rattle.audit_tale.specs.declared.tales.Tale.{Tale}

-- ---- numbers are drawn in order

abbrev pub AreNumbered : ℕ → List Formed → Type 0
AreNumbered n [] = ⊤
AreNumbered n (f ∷ fs) = (f.bid ≡ n) × AreNumbered (n + 1) fs

-- the tids of ACTs, from this one on
abbrev pub RiseFrom : ℕ → List Begun → Type 0
RiseFrom n [] = ⊤
RiseFrom n (x ∷ xs) = (n ≤ x.tid) × RiseFrom (x.tid + 1) xs

abbrev pub IsDrawn : Ring → Who → Type 0
IsDrawn r (OfBatch k) = k < r.next_bid
IsDrawn r (OfAct t) = t < r.next_tid

-- Events that meet the first clause, from empty logs, have drawn each number that they tell of.
pub record AreDrawn (s : Seen) : Type 0 where
  pub batches : AreNumbered 1 s.batches
  pub next_bid : s.ring.next_bid ≡ length s.batches + 1
  pub first : 1 ≤ s.ring.next_tid
  pub rise : RiseFrom 1 s.acts
  pub acts : AllByRecursion (λ x. x.tid < s.ring.next_tid) s.acts
  pub dooms : AllByRecursion (λ d. d.tid < s.ring.next_tid) s.dooms
  pub members : AllByRecursion (λ m. IsDrawn s.ring m.who) s.members
  pub settled : AllByRecursion (λ k. k < s.ring.next_bid) s.settled

-- ---- what is kept, in the words of what is told

abbrev pub bid_number : Bid → ℕ
bid_number k = k.0

abbrev pub begun_of : ActTale → Begun
begun_of x = record { tid = x.tid.0; tx = x.tx.0; reader = x.reader }

abbrev pub why_of : reasons.Reason → Why
why_of (reason.Older a older) = seen.Older a.0 older.0
why_of (reason.Crossed before behind a) = seen.Crossed before.0 behind.0 a.0
why_of (reason.Taken k) = seen.Taken k.0

abbrev pub member_of : MemberTale → seen.Member
member_of m = record { who = who_meant m.who; tid = m.tid.0; tx = m.tx.0; place = m.place; reader = m.reader }

abbrev pub formed_of : BatchTale → Formed
formed_of b = b.formed

-- whose a tid is; tids count from 1
abbrev pub owner_of : ℕ → List Owner → Option Owner
owner_of zero os = None
owner_of (suc n) os = slice_get os n

abbrev pub act_by : Option Owner → List Begun → Option Begun
act_by None acts = None
act_by (Some (owners.Pact k)) acts = None
act_by (Some (owners.Act at)) acts = slice_get acts at

-- it is kept
abbrev pub IsKept : ℕ → Owner → Type 0
IsKept many (owners.Pact k) = ⊤
IsKept many (owners.Act at) = at < many

-- ---- what is known

pub record TellsBatch (s : Seen) (b : BatchTale) : Type 0 where
  -- one without PACTs has no place to get
  pub committed : (b.committed ≡ has_its_place (OfBatch b.formed.bid) s.members) ⊎ (b.formed.pacts ≡ [])
  pub settled : b.settled ≡ is_among b.formed.bid s.settled

pub record TellsAct (s : Seen) (x : ActTale) : Type 0 where
  pub before : x.before.0 ≡ greatest (s.before x.tid.0)
  -- of one that is neither given up nor decided
  pub behind : is_live s x.tid.0 ≡ true → option_map bid_number x.behind ≡ least (s.behind x.tid.0)
  pub given_up : option_map why_of x.given_up ≡ option_map (λ d. d.why) (first_doom x.tid.0 s.dooms)
  pub decided : x.decided ≡ has_its_place (OfAct x.tid.0) s.members

pub record Knows (w : Text) (t : Tale) (s : Seen) : Type 0 where
  pub ring : t.ring ≡ s.ring
  pub batches : map formed_of t.batches.items ≡ s.batches
  pub marks : AllByRecursion (TellsBatch s) t.batches.items
  pub acts : map begun_of t.acts.items ≡ s.acts
  pub ends : AllByRecursion (TellsAct s) t.acts.items
  -- who has drawn a tid is found by it
  pub owners : (n : ℕ) → seen.act_in n s.acts ≡ act_by (owner_of n t.owners.items) s.acts
  pub kept : AllByRecursion (IsKept (length s.acts)) t.owners.items
  pub drawn : s.ring.next_tid ≡ length t.owners.items + 1
  pub members : map member_of t.members.items ≡ s.members
  pub settled : t.settled ≡ length s.settled
  pub number : t.next_c ≡ next_c w s

-- ---- what the calls of the tale do

-- a batch that the ring has formed is kept, and its PACTs have drawn their tids
pub record AddsBatch (f : Formed) (old new : Tale) : Type 0 where
  pub ring : new.ring ≡ old.ring
  pub batches : new.batches.items ≡ old.batches.items ++ record { formed = f; committed = false; settled = false } ∷ []
  pub owners : new.owners.items ≡ old.owners.items ++ replicate (length f.pacts) (owners.Pact (record { 0 = f.bid }))
  pub acts : new.acts.items ≡ old.acts.items
  pub members : new.members.items ≡ old.members.items
  pub settled : new.settled ≡ old.settled
  pub next_c : new.next_c ≡ old.next_c
