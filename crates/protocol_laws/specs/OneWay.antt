-- What no event takes back: records, cascades, dooms and places in the order, numbers, floors, and what committed.
use Rattle.std.specs.Prelude.{◌≡◌, ℕ, ◌==◌, ◌&&◌, ◌≤◌, Bool, true, ◌⊎◌, Some, List, [], ◌∷◌, ◌++◌, map, find, ⊤}
use Rattle.protocol.specs.Records.{LogRecord}
use Rattle.protocol.specs.Parts.{Joined, Status, Live, Doomed, Decided, Sealed, Act, Cascade, Log, Cell, Machine}
use Rattle.protocol.specs.Words.{covers, holds, act_of, is_ordered, is_durable}
use Rattle.snap_base.specs.declared.transactions.State.{State}
use Rattle.protocol.specs.Fixed.{Fixed}
use Rattle.protocol.specs.Facts.{Alone}
use Rattle.protocol.specs.Events.{Event}
use Rattle.protocol.specs.Conditions.{IsAllowed}
use Rattle.protocol.specs.Effects.{after}
use Rattle.protocol.specs.History.{History}

-- ---- lists

-- the second list begins with the first one
pub record IsFront {X : Type 0} (xs ys : List X) : Type 0 where
  pub more : List X
  pub is : ys ≡ xs ++ more

-- Each element of the first list has become the one at its place in the second, which may go on behind it.
abbrev pub EachBecame : {X : Type 0} → (X → X → Type 0) → List X → List X → Type 0
EachBecame R [] ys = ⊤
EachBecame R (x ∷ xs) [] = ⊥
EachBecame R (x ∷ xs) (y ∷ ys) = R x y × EachBecame R xs ys

-- ---- logs

-- Records are added at the end, and what is durable stays so.
pub record LogGrew (g h : Log) : Type 0 where
  pub records : IsFront g.records h.records
  pub synced : g.synced ≤ h.synced
  pub durable : (test : LogRecord → Bool) → is_durable test g ≡ true → is_durable test h ≡ true

-- ---- ACTs

-- Who is live may become anything. A doom stays, with its reason; who is decided keeps the number, and becomes
-- sealed; who is sealed stays so.
abbrev pub StatusWent : Status → Status → Type 0
StatusWent Live st = ⊤
StatusWent (Doomed v) st = st ≡ Doomed v
StatusWent (Decided c) st = (st ≡ Decided c) ⊎ (st ≡ Sealed c)
StatusWent (Sealed c) st = st ≡ Sealed c

abbrev pub actors_of : List Joined → List ℕ
actors_of places = map (λ p. p.actor) places

pub record ActWent (x y : Act) : Type 0 where
  pub tid : y.tid ≡ x.tid
  pub tx : y.tx ≡ x.tx
  pub reader : y.reader ≡ x.reader
  pub m : x.m ≤ y.m
  pub actors : IsFront (actors_of x.places) (actors_of y.places)
  pub status : StatusWent x.status y.status

-- ---- cells

pub record CellWent {C : Type 0} (c d : Cell C) : Type 0 where
  pub write_floor : c.floors.write ≤ d.floors.write
  pub read_floor : c.floors.read ≤ d.floors.read
  pub last_trimmed : c.last_trimmed ≤ d.last_trimmed
  pub epoch : c.epoch ≤ d.epoch

-- ---- the machine

pub record WentOn {C : Type 0} (s t : Machine C) : Type 0 where
  pub next_tx : s.ring.next_tx ≤ t.ring.next_tx
  pub next_tid : s.ring.next_tid ≤ t.ring.next_tid
  pub next_bid : s.ring.next_bid ≤ t.ring.next_bid
  pub next_c : s.book.next_c ≤ t.book.next_c
  pub cascades : IsFront s.book.cascades t.book.cascades
  -- a batch that a cascade took along was taken along by that one
  pub taken : (k : ℕ) (c : Cascade) → find (covers k) s.book.cascades ≡ Some c → find (covers k) t.book.cascades ≡ Some c
  pub acts : EachBecame ActWent s.book.acts t.book.acts
  pub logs : EachBecame LogGrew s.logs t.logs
  pub cells : EachBecame CellWent s.cells t.cells

-- ---- places

-- Whoever has its place keeps it, with its before number.
abbrev pub PlacesStay : {C : Type 0} → Fixed C → (C → List State → Alone) → Machine C → History → Type 0
PlacesStay w finish s h = (e : Event) → IsAllowed w e s → (t : ℕ) (x : Act) → act_of t s.book.acts ≡ Some x → is_ordered x.status ≡ true
    → holds (λ y. is_ordered y.status && (y.m == x.m)) (act_of t (after w e s).book.acts) ≡ true
