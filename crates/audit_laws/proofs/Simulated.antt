-- What of a run is the same in what its events tell and in its history, and what is used of a state to show it.
use Rattle.std.specs.Prelude.{◌≡◌, refl, ℕ, ◌+◌, ◌≤◌, ◌==◌, max, Bool, true, false, if◌then◌else◌, Option, Some, List, [], ◌∷◌, ◌++◌, length, map, slice_index_or, ⊤}
use Rattle.std.proofs.Common.{arith, sym, subst}
use Rattle.snap_base.specs.declared.transactions.State.{State}
use Rattle.snap_base.specs.declared.transactions.Tx.{Tx}
use Rattle.snap_base.proofs.Options.{none_is_some, same_some}
use Rattle.protocol.specs.Effects.{cell_at, no_cell, puts}
use Rattle.protocol.specs.Facts.{Alone}
use Rattle.protocol.specs.Fixed.{Fixed}
use Rattle.protocol.specs.History.{Done, History, asks, batches_in, carrying, is_none}
use Rattle.protocol.specs.History as history
use Rattle.protocol.specs.OnBook as book
use Rattle.protocol.specs.OnCell as cell
use Rattle.protocol.specs.Parts.{Act, Cell, Machine, OfAct, Pair, Who}
use Rattle.protocol.specs.Rivals.{Lock}
use Rattle.protocol.specs.Words.{act_of, control_of, floor_at, greatest, is_ordered, lock_of, who_of}
use Rattle.protocol_laws.specs.Highs.{doomed_at}
use Rattle.protocol_laws.specs.Told.{FromBatches}
use Rattle.protocol_laws.proofs.machine.AllGood.{AllGood}
use Rattle.protocol_laws.proofs.machine.Good.{Given}
use Rattle.protocol_theorems.specs.OnActors.{AllLieInOrder}
use Rattle.protocol_theorems.specs.Sets.{NumbersStand}
use Rattle.protocol_theorems.specs.Sizes.{AllFindRoom}
use Rattle.protocol_theorems.proofs.order.ArrivesOnce.{AllPlaced}
use Rattle.protocol_theorems.proofs.sets.AfterStand.{AfterStand}
use Rattle.protocol_theorems.proofs.sets.BeforeStand.{BeforeStand}
use Rattle.audit_words.specs.Seen.{Begun, Doom, Member, Older, Seen, act_in, has_its_place, least, was_given_up, next_c}
use Rattle.audit_laws.proofs.Acts.{status_at}

-- ---- the same transaction, at the same place

pub record SameMember (m : Member) (d : Done) : Type 0 where
  pub who : m.who ≡ d.who
  pub tid : m.tid ≡ d.tid
  pub tx : m.tx ≡ d.tx
  pub place : m.place ≡ d.place
  pub reader : m.reader ≡ d.reader

abbrev pub EachSame : List Member → List Done → Type 0
EachSame [] [] = ⊤
EachSame [] (d ∷ ds) = ⊥
EachSame (m ∷ ms) [] = ⊥
EachSame (m ∷ ms) (d ∷ ds) = SameMember m d × EachSame ms ds

pub same_join : (ms ns : List Member) (ds es : List Done) → EachSame ms ds → EachSame ns es → EachSame (ms ++ ns) (ds ++ es)
same_join [] ns [] es h k = k
same_join [] ns (d ∷ ds) es h k = absurd h
same_join (m ∷ ms) ns [] es h k = absurd h
same_join (m ∷ ms) ns (d ∷ ds) es h k = (h.0, same_join ms ns ds es h.1 k)

-- ---- what is kept

pub record Tells {C : Type 0} (w : Fixed C) (s : Machine C) (h : History) (t : Seen) : Type 0 where
  pub placed : (a : ℕ) → t.placed a ≡ h.placed a
  pub beyond : (a : ℕ) → length w.text.opening.states ≤ a → h.placed a ≡ []
  pub entries : (a : ℕ) → t.entries a ≡ map who_of (cell_at s a).entries
  pub kept : (a : ℕ) → t.kept a ≡ batches_in (h.long a)
  pub left_sealed : (a : ℕ) → t.left_sealed a ≡ h.left_sealed a
  pub before : t.before ≡ h.before
  pub behind : t.behind ≡ h.behind
  pub gains : t.gains ≡ h.gains
  pub dooms : (u : ℕ) → was_given_up t.dooms u ≡ doomed_at s.book.acts u
  pub ordered : (u : ℕ) → has_its_place (OfAct u) t.members ≡ status_at is_ordered s.book.acts u
  pub next_c : next_c w.text t ≡ s.book.next_c
  pub members : EachSame t.members h.committed

-- what the machine and its history become at an Ask, by the older one in its way
abbrev pub asked_acts_by : {C : Type 0} → ℕ → ℕ → Option ℕ → Machine C → List Act
asked_acts_by u a o s = book.asked_acts o (book.met (lock_of u s.book.acts) (cell_at s a).entries) u a (max (cell_at s a).last (floor_at u s.book.acts (cell_at s a))) s.book

abbrev pub asked_cells_by : {C : Type 0} → ℕ → ℕ → Option ℕ → Machine C → List (Cell C)
asked_cells_by u a o s = puts s a (cell.act_placed (lock_of u s.book.acts) o (control_of u s.post.controls) (cell_at s a))

pub record AskedTells {C : Type 0} (w : Fixed C) (u a : ℕ) (s : Machine C) (h : History) (o : Option ℕ) (t : Seen) : Type 0 where
  pub placed : (b : ℕ) → t.placed b ≡ history.with_placed a (asks u o) h b
  pub beyond : (b : ℕ) → length w.text.opening.states ≤ b → history.with_placed a (asks u o) h b ≡ []
  pub entries : (b : ℕ) → t.entries b ≡ map who_of (slice_index_or (asked_cells_by u a o s) b no_cell).entries
  pub kept : (b : ℕ) → t.kept b ≡ batches_in (history.with_long a (asks u o) h b)
  pub left_sealed : (b : ℕ) → t.left_sealed b ≡ h.left_sealed b
  pub before : t.before ≡ history.asked_before (is_none o) u a s h
  pub behind : t.behind ≡ h.behind
  pub gains : t.gains ≡ carrying (asked_acts_by u a o s) (history.gains_after_ask (is_none o) u a s h)
  pub dooms : (v : ℕ) → was_given_up t.dooms v ≡ doomed_at (asked_acts_by u a o s) v
  pub ordered : (v : ℕ) → has_its_place (OfAct v) t.members ≡ status_at is_ordered (asked_acts_by u a o s) v
  pub next_c : next_c w.text t ≡ s.book.next_c
  pub members : EachSame t.members h.committed

-- an ACT stands there behind another one
abbrev pub stands_behind : ℕ → ℕ → Lock → Pair
stands_behind u a z = record { behind = u; ahead = z.tid; actor = a }

-- an ACT dies there, of an older one
abbrev pub died_as : ℕ → ℕ → ℕ → Doom
died_as u a older = record { tid = u; why = Older a older }

-- the numbers of an ACT are the ends of its two sets
abbrev pub EndsAre : Seen → ℕ → Act → Type 0
EndsAre t u x = (x.m ≡ greatest (t.before u)) × (x.n ≡ least (t.behind u))

-- who stands in a cell
abbrev pub EntriesAre : {C : Type 0} → ℕ → Cell C → List Who → Type 0
EntriesAre b c ws = ws ≡ map who_of c.entries

pub plus_zero : (n : ℕ) → n + 0 ≡ n
plus_zero n = omega arith

-- ---- the ACT with a tid

pub record SameAct (b : Begun) (x : Act) : Type 0 where
  pub tid : b.tid ≡ x.tid
  pub tx : b.tx ≡ x.tx
  pub reader : b.reader ≡ x.reader

pub act_pair : (u : ℕ) (x : Act) (bs : List Begun) (xs : List Act) → map (λ y. y.tid) bs ≡ map (λ y. y.tid) xs → map (λ y. y.tx) bs ≡ map (λ y. y.tx) xs → map (λ y. y.reader) bs ≡ map (λ y. y.reader) xs → act_of u xs ≡ Some x
    → (b : Begun) × ((act_in u bs ≡ Some b) × SameAct b x)
act_pair u x [] [] e f g i = absurd (none_is_some x i)
act_pair u x [] (y ∷ ys) e f g i = absurd (cc e)
act_pair u x (b ∷ bs) [] e f g i = absurd (cc e)
act_pair u x (b ∷ bs) (y ∷ ys) e f g i =
    let t : b.tid ≡ y.tid = cc e in
    let tr : map (λ (z : Begun). z.tid) bs ≡ map (λ (z : Act). z.tid) ys = cc e in
    let n : b.tx ≡ y.tx = cc f in
    let nr : map (λ (z : Begun). z.tx) bs ≡ map (λ (z : Act). z.tx) ys = cc f in
    let r : b.reader ≡ y.reader = cc g in
    let rr : map (λ (z : Begun). z.reader) bs ≡ map (λ (z : Act). z.reader) ys = cc g in
    subst (λ (m : ℕ). (c : Begun) × (((if m == u then Some b else act_in u bs) ≡ Some c) × SameAct c x)) (sym t)
    (by (y.tid == u) (record { tid = t; tx = n; reader = r }) i (act_pair u x bs ys tr nr rr))
  where
    by : (z : Bool) → SameAct b y → (if z then Some y else act_of u ys) ≡ Some x → (act_of u ys ≡ Some x → (c : Begun) × ((act_in u bs ≡ Some c) × SameAct c x))
        → (c : Begun) × (((if z then Some b else act_in u bs) ≡ Some c) × SameAct c x)
    by true k i r = (b, (refl, subst (SameAct b) (same_some y x i) k))
    by false k i r = r i

-- ---- what is used of a state

pub record SimFacts {C : Type 0} (w : Fixed C) (Of : Tx → C → Type 0) (finish : C → List State → Alone) (s : Machine C) (h : History) : Type 0 where
  pub given : Given w Of finish
  pub good : AllGood w Of finish s h
  pub before : BeforeStand w s h
  pub after : AfterStand w s h
  pub once : AllPlaced s h
  pub lies : AllLieInOrder w finish s h
  pub stand : NumbersStand w finish s h
  pub cells : length s.cells ≡ length w.text.opening.states
  pub room : AllFindRoom w s
  pub from : FromBatches s.desk.batches h.kept h.committed
