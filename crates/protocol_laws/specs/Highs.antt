-- Before numbers along an actor's long schedule, beside the places of what committed there.
-- Only proofs cite this; the rule is `NumbersStand` (Sets).
use Rattle.std.specs.Prelude.{◌≡◌, ℕ, ◌≤◌, ◌==◌, nat_le, Bool, true, false, not, ◌&&◌, ◌||◌, ◌⊎◌, List, [], ◌∷◌, ⊤}
use Rattle.std.specs.List.{AllByRecursion, list_any}
use Rattle.protocol.specs.Parts.{Act, Pair, Cascade, Who, OfBatch, OfAct, FloorPair}
use Rattle.protocol.specs.Words.{holds, is_among, is_aborted, is_doomed, is_live_status, act_of}
use Rattle.protocol.specs.OnCell.{is_cut}
use Rattle.protocol.specs.History.{Ran, Stands, Gone, batches_in}

-- ---- live ACTs are high

-- It need not have a number as great: it is not live, or it reads and the number is a reader's.
abbrev pub is_free : Bool → Act → Bool
is_free r x = (r && x.reader) || not (is_live_status x.status)

-- or its before number is at least this; `r` tells whether that is a reader's
abbrev pub is_free_or_above : Bool → ℕ → Act → Bool
is_free_or_above r high x = is_free r x || nat_le high x.m

-- each live ACT that stands there has a before number at least this
abbrev pub AllOver : Bool → List Act → ℕ → List Ran → Type 0
AllOver r acts high [] = ⊤
AllOver r acts high (Stands (OfBatch k) c ss ∷ rs) = AllOver r acts high rs
AllOver r acts high (Stands (OfAct t) c ss ∷ rs) = (holds (is_free_or_above r high) (act_of t acts) ≡ true) × AllOver r acts high rs
AllOver r acts high (Gone y ss ∷ rs) = AllOver r acts high rs

-- ---- ACTs with no batch between them are pairs

abbrev pub doomed_at : List Act → ℕ → Bool
doomed_at acts t = holds (λ x. is_doomed x.status) (act_of t acts)

abbrev pub is_pair : ℕ → ℕ → ℕ → Pair → Bool
is_pair a t u p = (p.behind == t) && ((p.ahead == u) && (p.actor == a))

-- t stands behind u on the actor, as the book has it
abbrev pub has_pair : ℕ → ℕ → ℕ → List Pair → Bool
has_pair a t u ps = list_any (is_pair a t u) ps

abbrev pub reads_in : List Act → ℕ → Bool
reads_in acts t = holds (λ x. x.reader) (act_of t acts)

abbrev pub both_read : List Act → ℕ → ℕ → Bool
both_read acts u t = reads_in acts u && reads_in acts t

-- both only read, or one of them is doomed, or they are a pair
abbrev pub is_paired : ℕ → List Pair → List Act → ℕ → ℕ → Bool
is_paired a ps acts u t = both_read acts u t || (doomed_at acts u || (doomed_at acts t || has_pair a t u ps))

-- all ACTs up to the next batch are paired with u
abbrev pub Paired : ℕ → List Pair → List Act → ℕ → List Ran → Type 0
Paired a ps acts u [] = ⊤
Paired a ps acts u (Stands (OfBatch k) c ss ∷ rs) = ⊤
Paired a ps acts u (Stands (OfAct t) c ss ∷ rs) = (is_paired a ps acts u t ≡ true) × Paired a ps acts u rs
Paired a ps acts u (Gone (OfBatch k) ss ∷ rs) = ⊤
Paired a ps acts u (Gone (OfAct t) ss ∷ rs) = Paired a ps acts u rs

abbrev pub Grouped : ℕ → List Pair → List Act → List Ran → Type 0
Grouped a ps acts [] = ⊤
Grouped a ps acts (Stands (OfBatch k) c ss ∷ rs) = Grouped a ps acts rs
Grouped a ps acts (Stands (OfAct u) c ss ∷ rs) = Paired a ps acts u rs × Grouped a ps acts rs
Grouped a ps acts (Gone y ss ∷ rs) = Grouped a ps acts rs

-- ---- behind an aborted batch all ACTs are doomed

abbrev pub AllDoomed : List Act → List Ran → Type 0
AllDoomed acts [] = ⊤
AllDoomed acts (Stands (OfBatch k) c ss ∷ rs) = AllDoomed acts rs
AllDoomed acts (Stands (OfAct t) c ss ∷ rs) = (doomed_at acts t ≡ true) × AllDoomed acts rs
AllDoomed acts (Gone y ss ∷ rs) = AllDoomed acts rs

abbrev pub TakenAlong : List Cascade → List Act → List Ran → Type 0
TakenAlong cs acts [] = ⊤
TakenAlong cs acts (Stands y c ss ∷ rs) = (is_cut cs y ≡ true → AllDoomed acts rs) × TakenAlong cs acts rs
TakenAlong cs acts (Gone y ss ∷ rs) = TakenAlong cs acts rs

-- ---- where what committed still shows on the actor

-- the batch is aborted, or not below the number
abbrev pub is_above_or_aborted : List Cascade → ℕ → ℕ → Bool
is_above_or_aborted cs n k = is_aborted k cs || nat_le n k

-- the ACT stands there, and no batch behind it that is not aborted is below the number
abbrev pub StandsBelow : List Cascade → ℕ → ℕ → List Ran → Type 0
StandsBelow cs n u [] = ⊥
StandsBelow cs n u (Stands (OfBatch k) c ss ∷ rs) = StandsBelow cs n u rs
StandsBelow cs n u (Stands (OfAct t) c ss ∷ rs) = ((t ≡ u) × AllByRecursion (λ k. is_above_or_aborted cs n k ≡ true) (batches_in rs)) ⊎ StandsBelow cs n u rs
StandsBelow cs n u (Gone y ss ∷ rs) = StandsBelow cs n u rs

-- the floor that an ACT raises
abbrev pub own_floor : Bool → FloorPair → ℕ
own_floor true f = f.read
own_floor false f = f.write

-- a batch is on the long schedule; an ACT stands there, or has raised its floor
abbrev pub ShowsNumber : List Cascade → ℕ → ℕ → Who → List Ran → Type 0
ShowsNumber cs floor n (OfBatch k) long = (n ≡ k) × (is_among k (batches_in long) ≡ true)
ShowsNumber cs floor n (OfAct u) long = (n ≤ floor) ⊎ StandsBelow cs n u long
