-- What the events do to the book.
use Rattle.std.specs.Prelude.{ℕ, ◌+◌, ◌==◌, nat_le, max, Bool, true, false, not, ◌&&◌, if◌then◌else◌, Option, Some, None, List, [], ◌∷◌, ◌++◌, map, filter}
use Rattle.snap_base.specs.declared.transactions.TxResult.{TxResult}
use Rattle.protocol.specs.Fixed.{Next, Go, Ended}
use Rattle.protocol.specs.Rivals.{Lock}
use Rattle.protocol.specs.Parts.{Book, Joined, Status, Live, Doomed, Decided, Sealed, Act, Pair, Outcome, Batch, Desk, Entry}
use Rattle.protocol.specs.Words.{is_doomed, is_live_status, is_value, is_among, act_of, holds, least_of, acts_on, rivals_in_tail, least_older, batch_of, first_failed, Failure}
use Rattle.snap_base.specs.declared.verdicts.Verdict.{Verdict}
use Rattle.protocol.specs.Verdicts.{died, taken_along}
use Rattle.protocol.specs.Spread.{raised, doomed_by_order}

-- ---- one ACT among all

abbrev pub change_if : Bool → (Act → Act) → Act → Act
change_if true f x = f x
change_if false f x = x

-- the ACT with this tid is changed
abbrev pub changed_act : ℕ → (Act → Act) → List Act → List Act
changed_act t f acts = map (λ x. change_if (x.tid == t) f x) acts

abbrev pub mark_if : Bool → (Joined → Joined) → Joined → Joined
mark_if true f p = f p
mark_if false f p = p

-- the ACT's mark on this actor is changed
abbrev pub marked : ℕ → (Joined → Joined) → Act → Act
marked a f x = record x { places = map (λ p. mark_if (p.actor == a) f p) x.places }

-- it is given up; the first doom stays
abbrev pub doomed_by : Verdict → Act → Act
doomed_by v x = record x { status = if is_live_status x.status then Doomed v else x.status }

-- ---- admission

abbrev pub new_act : ℕ → ℕ → Bool → ℕ → Act
new_act t n reader m = record { tid = t; tx = n; reader = reader; m = m; n = None; places = []; result = None; status = Live }

-- transaction n begins as ACT t, a reader or not, with this before number
abbrev pub act_admitted : ℕ → ℕ → Bool → ℕ → Book → Book
act_admitted t n reader m b = record b { acts = b.acts ++ new_act t n reader m ∷ [] }

-- ---- a batch arrives behind ACTs

-- batch k stands behind the ACT, where it is one of these
abbrev pub lowered : ℕ → List ℕ → Act → Act
lowered k tids x = record x { n = if is_among x.tid tids then Some (least_of k x.n) else x.n }

abbrev pub tids_on : List Entry → List ℕ
tids_on entries = map (λ x. x.tid) (acts_on entries)

-- these ACTs are on actor a
abbrev pub batch_arrived : ℕ → ℕ → List ℕ → Book → Book
batch_arrived k a tids b = record b { acts = doomed_by_order a (map (lowered k tids) b.acts) }

-- ---- an ACT asks for an actor

-- the ACT stands last on the actor, behind these numbers
abbrev pub joins : ℕ → ℕ → Act → Act
joins a m x = record x { m = max x.m m; places = x.places ++ record { actor = a; prepared = false; vouched = false; finished = false } ∷ [] }

abbrev pub is_doomed_act : List Act → Lock → Bool
is_doomed_act acts x = holds (λ y. is_doomed y.status) (act_of x.tid acts)

-- it stands behind each rival of the tail group that is not doomed
abbrev pub new_pairs : ℕ → ℕ → List Lock → List Act → List Pair
new_pairs t a group acts = map (λ x. record { behind = t; ahead = x.tid; actor = a }) (filter (λ x. not (is_doomed_act acts x)) group)

-- The older one in its way, where there is one; the locks that it can't stand beside; and the least before number
-- that the actor lets it have.
abbrev pub asked_acts : Option ℕ → List Lock → ℕ → ℕ → ℕ → Book → List Act
asked_acts (Some older) group t a m b = changed_act t (doomed_by (died a older t)) b.acts
asked_acts None group t a m b = doomed_by_order a (raised (b.pairs ++ new_pairs t a group b.acts) (changed_act t (joins a m) b.acts))

abbrev pub asked_pairs : Option ℕ → List Lock → ℕ → ℕ → Book → List Pair
asked_pairs (Some older) group t a b = b.pairs
asked_pairs None group t a b = b.pairs ++ new_pairs t a group b.acts

-- the rivals of the tail group, as the ACT meets them
abbrev pub met : Lock → List Entry → List Lock
met x entries = rivals_in_tail x entries

-- the oldest of them that is older than the ACT
abbrev pub in_the_way : Lock → List Entry → Option ℕ
in_the_way x entries = least_older x.tid (met x entries)

abbrev pub act_asked : Option ℕ → List Lock → ℕ → ℕ → ℕ → Book → Book
act_asked older group t a m b = record b { acts = asked_acts older group t a m b; pairs = asked_pairs older group t a b }

-- ---- it ends, is voted on, decided and sealed

abbrev pub with_result : TxResult → Act → Act
with_result r x = record x { result = Some r }

abbrev pub noted_for : {C : Type 0} → ℕ → Next C → List Act → List Act
noted_for t (Go b control) acts = acts
noted_for t (Ended r) acts = changed_act t (with_result r) acts

abbrev pub noted_from : {C : Type 0} → ℕ → Option (Outcome C) → List Act → List Act
noted_from t None acts = acts
noted_from t (Some x) acts = noted_for t x.next acts

-- the result of an ACT, which has an entry of its own on the actor
abbrev pub act_ended : {C : Type 0} → ℕ → Bool → Option (Outcome C) → Book → Book
act_ended t is_act x b = record b { acts = if is_act then noted_from t x b.acts else b.acts }

abbrev pub is_prepared : Joined → Joined
is_prepared p = record p { prepared = true }

abbrev pub is_vouched : Joined → Joined
is_vouched p = record p { vouched = true }

abbrev pub has_left : Joined → Joined
has_left p = record p { finished = true }

abbrev pub act_prepared : ℕ → ℕ → Book → Book
act_prepared t a b = record b { acts = changed_act t (marked a is_prepared) b.acts }

abbrev pub act_vouched : ℕ → ℕ → Book → Book
act_vouched t a b = record b { acts = changed_act t (marked a is_vouched) b.acts }

-- a live one gets a commit number; with a value its commit record is still to become durable
abbrev pub decided_status : ℕ → Bool → Status → Status
decided_status c has_value Live = if has_value then Decided c else Sealed c
decided_status c has_value (Doomed v) = Doomed v
decided_status c has_value (Decided d) = Decided d
decided_status c has_value (Sealed d) = Sealed d

abbrev pub decided_as : ℕ → Act → Act
decided_as c x = record x { status = decided_status c (is_value x.result) x.status }

abbrev pub act_decided : ℕ → Book → Book
act_decided t b = record b { next_c = b.next_c + 1; acts = changed_act t (decided_as b.next_c) b.acts }

abbrev pub sealed_status : Status → Status
sealed_status Live = Live
sealed_status (Doomed v) = Doomed v
sealed_status (Decided c) = Sealed c
sealed_status (Sealed c) = Sealed c

abbrev pub sealed : Act → Act
sealed x = record x { status = sealed_status x.status }

abbrev pub act_sealed : ℕ → Book → Book
act_sealed t b = record b { acts = changed_act t sealed b.acts }

-- nobody stands behind it there any more
abbrev pub act_finished : ℕ → ℕ → Book → Book
act_finished t a b = record b {
  acts = changed_act t (marked a has_left) b.acts;
  pairs = filter (λ p. not ((p.ahead == t) && (p.actor == a))) b.pairs;
}

-- ---- a cascade

abbrev pub failure_of : Option Batch → Option Failure
failure_of None = None
failure_of (Some b) = first_failed b.pacts

abbrev pub failed_tx : Option Failure → ℕ
failed_tx None = 0
failed_tx (Some f) = f.tx

abbrev pub failed_code : Option Failure → ℕ
failed_code None = 0
failed_code (Some f) = f.code

-- why batch k fails
abbrev pub why : ℕ → Desk → Option Failure
why k d = failure_of (batch_of k d.batches)

-- an ACT that stands behind an aborted batch is given up; every after number is forgotten
abbrev pub cascaded : ℕ → ℕ → Act → Act
cascaded k by x = record x { n = None; status = if is_live_status x.status && nat_le k x.m then Doomed (taken_along k by) else x.status }

-- the batches from k to this one are aborted, since a PACT failed
abbrev pub batch_aborted : ℕ → ℕ → Option Failure → Book → Book
batch_aborted k upto why b = record b {
  cascades = b.cascades ++ record { first = k; upto = upto; by = failed_tx why; at = b.next_c; code = failed_code why } ∷ [];
  acts = map (cascaded k (failed_tx why)) b.acts;
}
