-- The order in which what committed was placed, the sets of transactions that this order closes, and the serial
-- order of places.
use Rattle.std.specs.Prelude.{◌≡◌, ℕ, ◌==◌, nat_lt, Bool, true, false, ◌&&◌, ◌||◌, if◌then◌else◌, is_some, Some, List, [], ◌∷◌, ◌++◌, map, filter, ⊤}
use Rattle.std.specs.List.{AllByRecursion, flat_map}
use Rattle.snap_base.specs.declared.transactions.State.{State}
use Rattle.snap_base.specs.declared.transactions.Tx.{Tx}
use Rattle.snap_base.specs.declared.verdicts.Place.{Place}
use Rattle.protocol.specs.Fixed.{Fixed, tx_at}
use Rattle.protocol.specs.Facts.{Alone, Serial, serial}
use Rattle.protocol.specs.Parts.{Who}
use Rattle.protocol.specs.Words.{is_value, is_who, is_act_who}
use Rattle.protocol.specs.History.{Done, History}

-- ---- the chain of an actor

-- it is of this batch and ran on the actor, or is this ACT
abbrev pub stands_for : ℕ → Who → Done → Bool
stands_for a who d = is_who who d.who && (is_act_who who || is_some (d.views a))

-- What was placed on the actor, in that order: each committed batch stands there for its PACTs that ran on the
-- actor, by tid, and each decided ACT for itself.
abbrev pub chain : ℕ → History → List Done
chain a h = flat_map (λ who. filter (stands_for a who) h.committed) (h.placed a)

-- the first one precedes the second one in a list, and they are no two readers
pub record Precedes (t u : ℕ) (chain : List Done) : Type 0 where
  pub first : Done
  pub second : Done
  pub front : List Done
  pub between : List Done
  pub rest : List Done
  pub splits : chain ≡ front ++ first ∷ (between ++ second ∷ rest)
  pub is_first : first.tid ≡ t
  pub is_second : second.tid ≡ u
  -- and they are not both readers
  pub rivals : (first.reader && second.reader) ≡ false

-- t was placed before u on some actor
abbrev pub IsBefore : ℕ → ℕ → History → Type 0
IsBefore t u h = (a : ℕ) × Precedes t u (chain a h)

-- it committed with a value
pub record HasValue (t : ℕ) (h : History) : Type 0 where
  pub done : Done
  pub front : List Done
  pub rest : List Done
  pub splits : h.committed ≡ front ++ done ∷ rest
  pub is_it : done.tid ≡ t
  pub value : is_value done.result ≡ true

-- Who is in the set has with it all that committed with a value and was placed before it.
abbrev pub IsClosedSet : (ℕ → Type 0) → History → Type 0
IsClosedSet In h = (t u : ℕ) → In u → IsBefore t u h → HasValue t h → In t

-- ---- the order of places: batch, then side, then order

abbrev pub is_place_below : Place → Place → Bool
is_place_below p q =
    nat_lt p.batch.0 q.batch.0 || ((p.batch.0 == q.batch.0) && (nat_lt p.side q.side || ((p.side == q.side) && nat_lt p.order q.order)))

abbrev pub put_by_place : Done → List Done → List Done
put_by_place d [] = d ∷ []
put_by_place d (x ∷ xs) = if is_place_below d.place x.place then d ∷ x ∷ xs else x ∷ put_by_place d xs

abbrev pub by_place : List Done → List Done
by_place [] = []
by_place (d ∷ ds) = put_by_place d (by_place ds)

-- those committed of the batches below k, and the committed ACTs with a number below c
abbrev pub counts : ℕ → ℕ → Done → Bool
counts k c d = is_value d.result && (if d.place.side == 0 then nat_lt d.place.batch.0 k else nat_lt d.place.order c)

abbrev pub IsBelowAll : Place → List Done → Type 0
IsBelowAll p [] = ⊤
IsBelowAll p (d ∷ ds) = (is_place_below p d.place ≡ true) × IsBelowAll p ds

-- each place is below every one that follows it
abbrev pub PlacesRise : List Done → Type 0
PlacesRise [] = ⊤
PlacesRise (d ∷ ds) = IsBelowAll d.place ds × PlacesRise ds

-- of each and one that follows it, but for two readers, the place is below
abbrev pub RivalsRise : List Done → Type 0
RivalsRise [] = ⊤
RivalsRise (d ∷ ds) = AllByRecursion (λ e. (d.reader && e.reader) ≡ false → is_place_below d.place e.place ≡ true) ds × RivalsRise ds

-- ---- the serial run of what committed

abbrev pub txs_of : {C : Type 0} → Fixed C → List Done → List Tx
txs_of w ds = map (λ d. tx_at w.text d.tx) ds

-- What committed, run one after the other in the order of places from the opening's states.
abbrev pub serial_run : {C : Type 0} → Fixed C → (C → List State → Alone) → List Done → Serial
serial_run w finish ds = serial w.code finish w.text.opening.states (txs_of w (by_place ds))

-- it gives each the result that it had
abbrev pub IsSerial : {C : Type 0} → Fixed C → (C → List State → Alone) → List Done → Type 0
IsSerial w finish ds = map Some (serial_run w finish ds).results ≡ map (λ d. d.result) (by_place ds)
