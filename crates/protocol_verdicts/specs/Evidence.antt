-- Evidence: for each verdict the event of a run that gives it, and what held there. s is the state before the event.
use Rattle.std.specs.Prelude.{◌≡◌, ◌≢◌, ◌⊎◌, ◌↔◌, ℕ, ℤ, ◌<◌, ◌≤◌, ◌==◌, true, Some, None, List, [], ◌∷◌, ◌++◌, map, find, ⊤}
use Rattle.std.specs.List.{AllByRecursion}
use Rattle.snap_base.specs.declared.transactions.State.{State}
use Rattle.snap_base.specs.declared.transactions.TxResult.TheVariants.{Value, Fail}
use Rattle.snap_base.specs.declared.verdicts.Place.{Place}
use Rattle.snap_base.specs.declared.verdicts.Verdict.{Verdict}
use Rattle.snap_base.specs.declared.verdicts.Verdict.TheVariants as verdicts
use Rattle.protocol.specs.Fixed.{Fixed}
use Rattle.protocol.specs.Facts.{Alone}
use Rattle.protocol.specs.Parts.{Act, Decided, Pact, Batch, Machine}
use Rattle.protocol.specs.Events.{Event, Arrive, Ask, Settle, Abort, Decide, Seal}
use Rattle.protocol.specs.Words.{is_among, is_value, is_live_status, act_of, batch_of, greatest, lock_of, rivals_in_tail}
use Rattle.protocol.specs.Verdicts.{verdict, pact_place, act_place}
use Rattle.protocol.specs.OnBook.{in_the_way}
use Rattle.protocol.specs.Effects.{after, cell_at}
use Rattle.protocol.specs.Runs.{reached}
use Rattle.protocol.specs.History.{history}
use Rattle.protocol_theorems.specs.Sets.{least_in, StandsBehind}

-- ---- whose a transaction is

-- transaction n is this ACT
pub record IsActOfTransaction {C : Type 0} (n t : ℕ) (x : Act) (s : Machine C) : Type 0 where
  pub found : act_of t s.book.acts ≡ Some x
  pub tx : x.tx ≡ n

-- transaction n is this PACT of this batch
pub record IsPact {C : Type 0} (n k : ℕ) (b : Batch) (p : Pact) (s : Machine C) : Type 0 where
  pub found : batch_of k s.desk.batches ≡ Some b
  pub named : find (λ p. p.tx == n) b.pacts ≡ Some p

-- ---- an older holder

pub record IsLeast (n : ℕ) (ns : List ℕ) : Type 0 where
  pub is_there : is_among n ns ≡ true
  pub least : AllByRecursion (λ k. n ≤ k) ns

-- It asked for the actor, and the least tid among its rivals of the tail group there was older.
pub record Dies {C : Type 0} (n a older own : ℕ) (e : Event) (s : Machine C) : Type 0 where
  pub act : Act
  pub event : e ≡ Ask own a
  pub is_act : IsActOfTransaction n own act s
  pub least : IsLeast older (map (λ x. x.tid) (rivals_in_tail (lock_of own s.book.acts) (cell_at s a).entries))
  pub is_older : older < own

-- ---- its two numbers

-- a batch was placed on the actor, or an ACT with nobody older in its way
abbrev pub PlacesOn : {C : Type 0} → ℕ → Event → Machine C → Type 0
PlacesOn a e s = ((k : ℕ) × (e ≡ Arrive k a)) ⊎ ((t : ℕ) × ((e ≡ Ask t a) × (in_the_way (lock_of t s.book.acts) (cell_at s a).entries ≡ None)))

-- It was live, and behind the event its after number is not above its before number.
pub record Crosses {C : Type 0} (w : Fixed C) (n m k a : ℕ) (e : Event) (s : Machine C) : Type 0 where
  pub tid : ℕ
  pub act : Act
  pub next : Act
  pub event : PlacesOn a e s
  pub is_act : IsActOfTransaction n tid act s
  pub live : is_live_status act.status ≡ true
  pub found : act_of tid (after w e s).book.acts ≡ Some next
  pub before_is : next.m ≡ m
  pub after_is : next.n ≡ Some k
  pub cross : k ≤ m

-- ---- a cascade

-- Of the batch that was aborted all PACTs before this one had a value, and this one failed.
pub record Fails {C : Type 0} (n k c code : ℕ) (e : Event) (s : Machine C) : Type 0 where
  pub batch : Batch
  pub pact : Pact
  pub front : List Pact
  pub rest : List Pact
  pub event : e ≡ Abort k
  pub found : batch_of k s.desk.batches ≡ Some batch
  pub splits : batch.pacts ≡ front ++ pact ∷ rest
  pub values : AllByRecursion (λ p. is_value p.result ≡ true) front
  pub fails : pact.result ≡ Some (Fail code)
  pub tx : pact.tx ≡ n
  pub next_c : s.book.next_c ≡ c

-- An ACT that was neither doomed nor decided, whose before number was at least the batch.
pub record TakesAct {C : Type 0} (n k by : ℕ) (e : Event) (s : Machine C) : Type 0 where
  pub tid : ℕ
  pub act : Act
  pub code : ℕ
  pub failing : Fails by k s.book.next_c code e s
  pub is_act : IsActOfTransaction n tid act s
  pub live : is_live_status act.status ≡ true
  pub reached : k ≤ act.m

-- A PACT of a batch that was formed, at least the one that was aborted, and not the one that failed.
pub record TakesPact {C : Type 0} (n k by : ℕ) (e : Event) (s : Machine C) : Type 0 where
  pub bid : ℕ
  pub batch : Batch
  pub pact : Pact
  pub code : ℕ
  pub failing : Fails by k s.book.next_c code e s
  pub is_pact : IsPact n bid batch pact s
  pub reached : k ≤ bid
  pub other : by ≢ n

-- ---- its own code, or its value

pub record FailsAlone {C : Type 0} (n : ℕ) (p : Place) (code : ℕ) (e : Event) (s : Machine C) : Type 0 where
  pub tid : ℕ
  pub act : Act
  pub event : e ≡ Decide tid
  pub is_act : IsActOfTransaction n tid act s
  pub live : is_live_status act.status ≡ true
  pub result : act.result ≡ Some (Fail code)
  pub place : act_place act.m s.book.next_c ≡ p

pub record SealsAct {C : Type 0} (n : ℕ) (p : Place) (v : ℤ) (e : Event) (s : Machine C) : Type 0 where
  pub tid : ℕ
  pub act : Act
  pub c : ℕ
  pub event : e ≡ Seal tid
  pub is_act : IsActOfTransaction n tid act s
  pub decided : act.status ≡ Decided c
  pub result : act.result ≡ Some (Value v)
  pub place : act_place act.m c ≡ p

pub record SettlesPact {C : Type 0} (n : ℕ) (p : Place) (v : ℤ) (e : Event) (s : Machine C) : Type 0 where
  pub bid : ℕ
  pub batch : Batch
  pub pact : Pact
  pub event : e ≡ Settle bid
  pub is_pact : IsPact n bid batch pact s
  pub result : pact.result ≡ Some (Value v)
  pub place : pact_place bid pact.tid ≡ p

-- ---- the table

-- the event gives transaction n this verdict
abbrev pub Gives : {C : Type 0} → Fixed C → ℕ → Verdict → Event → Machine C → Type 0
Gives w n (verdicts.Committed p v) e s = SealsAct n p v e s ⊎ SettlesPact n p v e s
Gives w n (verdicts.Code p c) e s = FailsAlone n p c e s
Gives w n (verdicts.BatchCode k c code) e s = Fails n k.0 c code e s
Gives w n (verdicts.Cascade k by) e s = TakesAct n k.0 by.0 e s ⊎ TakesPact n k.0 by.0 e s
Gives w n (verdicts.Died a older own) e s = Dies n a.0 older.0 own.0 e s
Gives w n (verdicts.Order m k a) e s = Crosses w n m.0 k.0 a.0 e s
Gives w n (verdicts.Unsure l) e s = ⊥

-- ---- over runs

-- one of the events gave it
pub record IsGiven {C : Type 0} (w : Fixed C) (n : ℕ) (v : Verdict) (es : List Event) : Type 0 where
  pub front : List Event
  pub event : Event
  pub later : List Event
  pub splits : es ≡ front ++ event ∷ later
  pub gives : Gives w n v event (reached w front)

-- A verdict is there exactly where one of the events gave it.
abbrev pub EvidenceStands : {C : Type 0} → Fixed C → List Event → Type 0
EvidenceStands w es = (n : ℕ) (v : Verdict) → (verdict n (reached w es).book (reached w es).desk ≡ Some v) ↔ IsGiven w n v es

-- It stays: what is there after a front of the events is there after all of them.
abbrev pub VerdictsStay : {C : Type 0} → Fixed C → List Event → Type 0
VerdictsStay w es = (front later : List Event) → es ≡ front ++ later → (n : ℕ) (v : Verdict)
    → verdict n (reached w front).book (reached w front).desk ≡ Some v → verdict n (reached w es).book (reached w es).desk ≡ Some v

-- One of the events gave it up for its two numbers. Behind that event the first is the greatest of the batches that stand
-- before it, and the second the least of those behind it; each of these is not aborted, and behind it on some actor.
pub record StandsBetween {C : Type 0} (w : Fixed C) (n m k a : ℕ) (es : List Event) : Type 0 where
  pub front : List Event
  pub event : Event
  pub later : List Event
  pub splits : es ≡ front ++ event ∷ later
  pub crosses : Crosses w n m k a event (reached w front)
  pub greatest_before : m ≡ greatest ((history w (front ++ event ∷ [])).before crosses.tid)
  pub least_behind : Some k ≡ least_in ((history w (front ++ event ∷ [])).behind crosses.tid)
  pub stand : AllByRecursion (StandsBehind (reached w (front ++ event ∷ [])).book.cascades (history w (front ++ event ∷ [])).long crosses.tid) ((history w (front ++ event ∷ [])).behind crosses.tid)

-- ---- who may have which verdict

-- A PACT commits, or fails with its batch, or is taken along.
abbrev pub IsOfPact : Verdict → Type 0
IsOfPact (verdicts.Committed p v) = ⊤
IsOfPact (verdicts.Code p c) = ⊥
IsOfPact (verdicts.BatchCode k c code) = ⊤
IsOfPact (verdicts.Cascade k by) = ⊤
IsOfPact (verdicts.Died a older own) = ⊥
IsOfPact (verdicts.Order m k a) = ⊥
IsOfPact (verdicts.Unsure l) = ⊥

-- An ACT commits, fails alone, is taken along, or is given up for an older one or for its two numbers.
abbrev pub IsOfAct : Verdict → Type 0
IsOfAct (verdicts.Committed p v) = ⊤
IsOfAct (verdicts.Code p c) = ⊤
IsOfAct (verdicts.BatchCode k c code) = ⊥
IsOfAct (verdicts.Cascade k by) = ⊤
IsOfAct (verdicts.Died a older own) = ⊤
IsOfAct (verdicts.Order m k a) = ⊤
IsOfAct (verdicts.Unsure l) = ⊥

-- Each verdict has its evidence, and stays, and is one that such a transaction may have.
pub record VerdictsStand {C : Type 0} (w : Fixed C) (finish : C → List State → Alone) (es : List Event) : Type 0 where
  pub evidence : EvidenceStands w es
  pub stay : VerdictsStay w es
  -- who is given up for its two numbers stood between these two batches, as its sets have them
  pub between : (n m k a : ℕ) → verdict n (reached w es).book (reached w es).desk ≡ Some (verdicts.Order (record { 0 = m }) (record { 0 = k }) (record { 0 = a })) → StandsBetween w n m k a es
  pub of_pacts : (n k : ℕ) (b : Batch) (p : Pact) (v : Verdict) → IsPact n k b p (reached w es) → verdict n (reached w es).book (reached w es).desk ≡ Some v → IsOfPact v
  pub of_acts : (n t : ℕ) (x : Act) (v : Verdict) → IsActOfTransaction n t x (reached w es) → verdict n (reached w es).book (reached w es).desk ≡ Some v → IsOfAct v
