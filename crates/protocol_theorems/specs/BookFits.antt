-- The halves of the book beside each other: what holds of orders and votes on every run, what an event makes of each of
-- them, and which of them answers what.
use Rattle.std.specs.Prelude.{◌≡◌, ℕ, ◌≤◌, ◌==◌, Bool, true, false, ◌||◌, max, Option, Some, None, is_some, List, [], map, find, ⊤}
use Rattle.std.specs.List.{AllByRecursion}
use Rattle.snap_base.specs.declared.transactions.State.{State}
use Rattle.snap_base.specs.declared.verdicts.Verdict.{Verdict}
use Rattle.protocol.specs.Fixed.{Fixed, Next, Go, Ended, base, is_reader}
use Rattle.protocol.specs.Parts.{Status, Live, Doomed, Decided, Sealed, Act, Book, Outcome, Machine}
use Rattle.protocol.specs.Words.{holds, act_of, joined_of, has_act, outcome_of, is_decided, is_doomed, is_ordered, is_live_status, lock_of, floor_at}
use Rattle.protocol.specs.Numbers.{times}
use Rattle.protocol.specs.Verdicts.{act_verdict}
use Rattle.protocol.specs.Events.{Event, Admit, Arrive, Ask, End, Abort, Prepare, Vouch, Decide, Seal, Finish}
use Rattle.protocol.specs.Effects.{after, cell_at}
use Rattle.protocol.specs.Conditions.{IsAllowed}
use Rattle.protocol.specs.Facts.{Alone}
use Rattle.protocol.specs.History.{History}
use Rattle.protocol.specs.OnPost.{next_act}
use Rattle.protocol.specs.OnBook.{act_admitted, tids_on, batch_arrived, met, in_the_way, act_asked, act_prepared, act_vouched, act_decided, act_sealed, act_finished, why, failed_tx}
use Rattle.protocol.specs.BookParts.{has_place, orders_cascaded, votes_begin, book_of}
use Rattle.protocol_laws.specs.OneWay.{actors_of}

-- ---- what holds of them

-- What orders know of an ACT: no result, no vote, no number of a commit. It joins an actor once.
pub record IsOrder (x : Act) : Type 0 where
  pub result : x.result ≡ None
  pub undecided : is_decided x.status ≡ false
  pub unvoted : AllByRecursion (λ p. (p.prepared || p.vouched) ≡ false) x.places
  pub once : (n : ℕ) → times n (actors_of x.places) ≤ 1

-- What votes know of it: it has ended, on the actors that it joined, in their order; it is not doomed here, and is decided
-- or sealed exactly where orders say that it has its place.
pub record IsVoted (v x : Act) : Type 0 where
  pub ended : is_some v.result ≡ true
  pub actors : actors_of v.places ≡ actors_of x.places
  pub undoomed : is_doomed v.status ≡ false
  pub placed : is_ordered v.status ≡ is_ordered x.status

-- who has no votes has no place
abbrev pub IsVotedBy : Option Act → Act → Type 0
IsVotedBy None x = is_ordered x.status ≡ false
IsVotedBy (Some v) x = IsVoted v x

pub record BookFits (orders votes : Book) : Type 0 where
  -- no two ACTs have one tid
  pub apart : (n : ℕ) → times n (map (λ x. x.tid) orders.acts) ≤ 1
  pub bare : AllByRecursion IsOrder orders.acts
  pub voted : AllByRecursion (λ x. IsVotedBy (act_of x.tid votes.acts) x) orders.acts
  -- votes are of ACTs that orders know
  pub known : AllByRecursion (λ v. is_some (act_of v.tid orders.acts) ≡ true) votes.acts

-- The book is of these halves, beside its cascades.
pub record IsOfHalves (b orders votes : Book) : Type 0 where
  pub is : b ≡ book_of orders votes b.cascades
  pub fits : BookFits orders votes

-- ---- what an event makes of each

-- the actors that an ACT has joined
abbrev pub actors_at : Option Act → List ℕ
actors_at None = []
actors_at (Some x) = actors_of x.places

abbrev pub votes_for : {C : Type 0} → ℕ → List ℕ → Next C → Book → Book
votes_for t actors (Go b control) v = v
votes_for t actors (Ended r) v = votes_begin t r actors v

abbrev pub votes_from : {C : Type 0} → ℕ → List ℕ → Option (Outcome C) → Book → Book
votes_from t actors None v = v
votes_from t actors (Some x) v = votes_for t actors x.next v

-- votes begin with the result of an ACT, which has an entry of its own on the actor; it has joined these
abbrev pub votes_ended : {C : Type 0} → ℕ → Bool → List ℕ → Option (Outcome C) → Book → Book
votes_ended t false actors x v = v
votes_ended t true actors x v = votes_from t actors x v

abbrev pub orders_after : {C : Type 0} → Fixed C → Event → Machine C → Book → Book
orders_after w (Admit t) s o = act_admitted t (next_act s.ring) (is_reader w (next_act s.ring)) (base w.text) o
orders_after w (Arrive k a) s o = batch_arrived k a (tids_on (cell_at s a).entries) o
orders_after w (Ask t a) s o = act_asked (in_the_way (lock_of t s.book.acts) (cell_at s a).entries) (met (lock_of t s.book.acts) (cell_at s a).entries) t a (max (cell_at s a).last (floor_at t s.book.acts (cell_at s a))) o
orders_after w (Abort k) s o = orders_cascaded k (failed_tx (why k s.desk)) o
orders_after w (Decide t) s o = has_place t o
orders_after w (Finish t a) s o = act_finished t a o
orders_after w _ s o = o

abbrev pub votes_after : {C : Type 0} → Event → Machine C → Book → Book → Book
votes_after (End t a) s o v = votes_ended t (has_act t (cell_at s a).entries) (actors_at (act_of t o.acts)) (outcome_of t (cell_at s a).outbox) v
votes_after (Prepare t a) s o v = act_prepared t a v
votes_after (Vouch t a) s o v = act_vouched t a v
votes_after (Decide t) s o v = act_decided t v
votes_after (Seal t) s o v = act_sealed t v
votes_after _ s o v = v

-- ---- what each event finds in the halves

-- An admitted ACT is new to both; one that asks has joined this actor not yet, and has not ended; one that ends here has not
-- ended before. Who is prepared, vouched or decided has ended, who is decided is live, and who is sealed was decided.
abbrev pub HalvesMeet : {C : Type 0} → Event → Machine C → Book → Book → Type 0
HalvesMeet (Admit t) s o v = (act_of t o.acts ≡ None) × (act_of t v.acts ≡ None)
HalvesMeet (Ask t a) s o v = ((x : Act) → act_of t o.acts ≡ Some x → joined_of a x ≡ None) × (act_of t v.acts ≡ None)
HalvesMeet (End t a) s o v = has_act t (cell_at s a).entries ≡ true → (is_some (act_of t o.acts) ≡ true) × (act_of t v.acts ≡ None)
HalvesMeet (Prepare t a) s o v = is_some (act_of t v.acts) ≡ true
HalvesMeet (Vouch t a) s o v = is_some (act_of t v.acts) ≡ true
HalvesMeet (Decide t) s o v = (is_some (act_of t v.acts) ≡ true) × (holds (λ x. is_live_status x.status) (act_of t o.acts) ≡ true)
HalvesMeet (Seal t) s o v = holds (λ x. is_decided x.status) (act_of t v.acts) ≡ true
HalvesMeet _ s o v = ⊤

-- An allowed event finds this in the halves of the book, and they go on as the halves of the book after it.
abbrev pub HalvesGoOn : {C : Type 0} → Fixed C → (C → List State → Alone) → Machine C → History → Type 0
HalvesGoOn w finish s h =
    (e : Event) (o v : Book) → IsAllowed w e s → IsOfHalves s.book o v → HalvesMeet e s o v × IsOfHalves (after w e s).book (orders_after w e s o) (votes_after e s o v)

-- ---- who answers what

abbrev pub act_with : ℕ → List Act → Option Act
act_with n acts = find (λ x. x.tx == n) acts

-- of one that has its place, votes tell
abbrev pub placed_verdict : Option Act → ℕ → Option Verdict
placed_verdict None m = None
placed_verdict (Some v) m = act_verdict v.status m v.result

-- orders tell of dooms and before numbers
abbrev pub verdict_by : Option Act → ℕ → Status → Option Verdict
verdict_by v m Live = None
verdict_by v m (Doomed why) = Some why
verdict_by v m (Decided c) = placed_verdict v m
verdict_by v m (Sealed c) = placed_verdict v m

abbrev pub verdict_of_halves : List Act → Option Act → Option Verdict
verdict_of_halves votes None = None
verdict_of_halves votes (Some x) = verdict_by (act_of x.tid votes) x.m x.status
