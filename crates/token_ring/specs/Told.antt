-- How the sub-batches of a batch are collected: PACT by PACT, and of each PACT actor by actor.
use Rattle.std.specs.Prelude.{ℕ, suc, ◌+◌, ◌==◌, ◌≤◌, nat_lt, Bool, false, if◌then◌else◌, List, [], ◌∷◌, ◌++◌, length, slice_index_or, ⊤}
use Rattle.snap_base.specs.declared.transactions.Tx.{Tx}
use Rattle.protocol.specs.Fixed.{no_tx, declared}
use Rattle.protocol.specs.Parts.{Pact, SubBatch}
use Rattle.protocol.specs.Words.{is_empty}

-- the last number of the list is this one
abbrev pub ends_with : ℕ → List ℕ → Bool
ends_with t [] = false
ends_with t (x ∷ xs) = if is_empty xs then x == t else ends_with t xs

-- so many numbers at the front are below this one
abbrev pub leading : ℕ → List ℕ → ℕ
leading a [] = 0
leading a (b ∷ bs) = if nat_lt b a then suc (leading a bs) else 0

-- of batch k, to an actor: its first PACT
abbrev pub sub_of_first_pact : ℕ → ℕ → List ℕ → ℕ → ℕ → SubBatch
sub_of_first_pact k epoch lasts a t = record { bid = k; actor = a; epoch = epoch; prev = slice_index_or lasts a 0; tids = t ∷ [] }

-- one more PACT; a PACT that names the actor twice is told once
abbrev pub with_tid : ℕ → SubBatch → SubBatch
with_tid t s = record s { tids = if ends_with t s.tids then s.tids else s.tids ++ t ∷ [] }

-- PACT t is added to the sub-batch at the front where that is its actor's, else its own is put before it
abbrev pub told_here : ℕ → SubBatch → List SubBatch → List SubBatch
told_here t own [] = own ∷ []
told_here t own (s ∷ ss) = if s.actor == own.actor then with_tid t s ∷ ss else own ∷ (s ∷ ss)

-- PACT t is added to its actor's sub-batch, or its own is put at the actor's place
abbrev pub told_among : ℕ → SubBatch → List SubBatch → List SubBatch
told_among t own [] = own ∷ []
told_among t own (s ∷ ss) = if nat_lt s.actor own.actor then s ∷ told_among t own ss else told_here t own (s ∷ ss)

-- to those of these actors that exist
abbrev pub told_to : ℕ → ℕ → List ℕ → ℕ → List ℕ → List SubBatch → List SubBatch
told_to k epoch lasts t [] subs = subs
told_to k epoch lasts t (a ∷ actors) subs =
    told_to k epoch lasts t actors (if nat_lt a (length lasts) then told_among t (sub_of_first_pact k epoch lasts a t) subs else subs)

-- of each of the PACTs
abbrev pub told_all : ℕ → ℕ → List ℕ → List Tx → List Pact → List SubBatch → List SubBatch
told_all k epoch lasts txs [] subs = subs
told_all k epoch lasts txs (p ∷ pacts) subs =
    told_all k epoch lasts txs pacts (told_to k epoch lasts p.tid (declared (slice_index_or txs p.tx no_tx)) subs)

-- the actors ascend, from this one on
abbrev pub ActorsAscend : ℕ → List SubBatch → Type 0
ActorsAscend low [] = ⊤
ActorsAscend low (s ∷ ss) = (low ≤ s.actor) × ActorsAscend (s.actor + 1) ss
