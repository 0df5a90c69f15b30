-- Worked rows: what the events of some short runs tell, computed by the check.
use Rattle.std.specs.Prelude.{◌≡◌, refl, ℕ, true, false, List, [], ◌∷◌, map}
use Rattle.snap_base.specs.declared.transactions.Kind.TheVariants as kinds
use Rattle.snap_base.specs.declared.transactions.Tx.{Tx}
use Rattle.protocol.specs.Chains.{chain}
use Rattle.protocol.specs.Events.{Event, Submit, Admit, Form, Arrive, Ask, Take, Run, Send, End, Abort, Rollback, Decide, Seal, Finish}
use Rattle.protocol.specs.Fixed.{Fixed, Text, no_state}
use Rattle.protocol.specs.Runs.{opening_ring}
use Rattle.protocol.specs.Verdicts.{act_place}
use Rattle.audit_words.specs.Happenings.{seen, added, ring_after}
use Rattle.audit_words.specs.Orders.{seen_history}
use Rattle.audit_words.specs.Seen.{Older, Crossed, Taken, first_ring}

abbrev act : ℕ → Tx
act a = record { kind = kinds.Act; actor = record { 0 = a }; method = 0; args = []; uses = [] }

abbrev pact : ℕ → ℕ → Tx
pact a b = record { kind = kinds.Pact; actor = record { 0 = a }; method = 0; args = []; uses = (record { 0 = a }, 1) ∷ (record { 0 = b }, 1) ∷ [] }

abbrev text : List Tx → Text
text txs = record { coordinators = 1; logs = 1; batch = 16; batches = 8; acts = 8; txs = txs; opening = record { states = no_state ∷ no_state ∷ []; next_tid = 1; next_bid = 1; next_c = 1 } }

abbrev meeting : List Event
meeting = Submit 0 ∷ Submit 1 ∷ Admit 1 ∷ Admit 2 ∷ Ask 1 0 ∷ Ask 2 1 ∷ Run 1 0 ∷ Run 2 1 ∷ Send 1 0 ∷ Ask 1 1 ∷ Send 2 1 ∷ Ask 2 0 ∷ Finish 2 1 ∷ Run 1 1 ∷ Send 1 1 ∷ Take 1 0 ∷ Run 1 0 ∷ End 1 0 ∷ Decide 1 ∷ Seal 1 ∷ Finish 1 0 ∷ Finish 1 1 ∷ []

-- two ACTs call each other's actors: the younger one dies by the older one on actor 0
wait_die : (seen (λ tx. false) (text (act 0 ∷ act 1 ∷ [])) meeting).dooms ≡ record { tid = 2; why = Older 0 1 } ∷ []
unfolding added ring_after
wait_die = refl

-- and the older one has its place after no batch, as the first ACT
places : map (λ m. m.place) (seen (λ tx. false) (text (act 0 ∷ act 1 ∷ [])) meeting).members ≡ act_place 0 1 ∷ []
unfolding added ring_after
places = refl

-- two readers on one actor, the second one placed first
abbrev asked : List Event
asked = Submit 0 ∷ Submit 1 ∷ Admit 1 ∷ Admit 2 ∷ Ask 2 0 ∷ Ask 1 0 ∷ Decide 1 ∷ Decide 2 ∷ Finish 1 0 ∷ Finish 2 0 ∷ []

-- both stand there, in the order in which they were placed
shared : map (λ d. d.tid) (chain 0 (seen_history (seen (λ tx. true) (text (act 0 ∷ act 0 ∷ [])) asked))) ≡ 2 ∷ 1 ∷ []
unfolding added ring_after
shared = refl

marked : map (λ d. d.reader) (chain 0 (seen_history (seen (λ tx. true) (text (act 0 ∷ act 0 ∷ [])) asked))) ≡ true ∷ true ∷ []
unfolding added ring_after
marked = refl

-- an ACT comes to an actor that another one has left
abbrev twice : List Event
twice = Submit 0 ∷ Submit 1 ∷ Admit 1 ∷ Ask 1 0 ∷ Decide 1 ∷ Seal 1 ∷ Finish 1 0 ∷ Admit 2 ∷ Ask 2 0 ∷ Decide 2 ∷ Finish 2 0 ∷ []

nobody_dies : (seen (λ tx. false) (text (act 0 ∷ act 0 ∷ [])) twice).dooms ≡ []
unfolding added ring_after
nobody_dies = refl

-- an ACT stands ahead of a batch on one actor and behind it on another
abbrev crossed : List Event
crossed = Submit 0 ∷ Admit 1 ∷ Ask 1 0 ∷ Submit 1 ∷ Form 1 ∷ Arrive 1 1 ∷ Run 1 0 ∷ Send 1 0 ∷ Ask 1 1 ∷ Arrive 1 0 ∷ []

crosses : (seen (λ tx. false) (text (act 0 ∷ pact 0 1 ∷ [])) crossed).dooms ≡ record { tid = 1; why = Crossed 1 1 0 } ∷ []
unfolding added ring_after
crosses = refl

-- a cascade takes an ACT along that stands behind the batch
abbrev cut : List Event
cut = Submit 0 ∷ Form 1 ∷ Arrive 1 0 ∷ Submit 1 ∷ Admit 2 ∷ Ask 2 0 ∷ Abort 1 ∷ Rollback 0 ∷ []

taken : (seen (λ tx. false) (text (pact 0 1 ∷ act 0 ∷ [])) cut).dooms ≡ record { tid = 2; why = Taken 1 } ∷ []
unfolding added ring_after
taken = refl

gone : (seen (λ tx. false) (text (pact 0 1 ∷ act 0 ∷ [])) cut).entries 0 ≡ []
unfolding added ring_after
gone = refl

-- the ring that the machine begins with
same_ring : {C : Type 0} (w : Fixed C) → first_ring w.text ≡ opening_ring w
same_ring w = refl
