-- What the events do to the post.
use Rattle.std.specs.Prelude.{ℕ, Option, Some, None, List, [], ◌∷◌, ◌++◌, map, slice_index_or}
use Rattle.protocol.specs.Fixed.{Fixed, Next, Go, Ended, tx_at, root}
use Rattle.protocol.specs.Parts.{Ring, Who, OfBatch, OfAct, ControlMessage, Post, Outcome}
use Rattle.protocol.specs.Words.{without_sub, without_control}
use Rattle.protocol.specs.Conditions.{queue}
use Rattle.protocol.specs.OnRing.{Formed}

-- the control of transaction n with tid t, to its root
abbrev pub first_control : {C : Type 0} → Fixed C → Who → ℕ → ℕ → ControlMessage C
first_control w who t n = record { tid = t; who = who; to = root (tx_at w.text n); control = w.code.start t (tx_at w.text n) }

abbrev pub posted_batch : {C : Type 0} → Fixed C → Formed → Post C → Post C
posted_batch w f p = record {
  subs = p.subs ++ f.subs;
  controls = p.controls ++ map (λ q. first_control w (OfBatch f.bid) q.tid q.tx) f.pacts;
}

-- the ACT that waits first at the holder
abbrev pub next_act : Ring → ℕ
next_act r = slice_index_or (queue r.acts r.holder) 0 0

-- transaction n begins as an ACT
abbrev pub posted_act : {C : Type 0} → Fixed C → ℕ → ℕ → Post C → Post C
posted_act w t n p = record p { controls = p.controls ++ first_control w (OfAct t) t n ∷ [] }

abbrev pub sub_taken : {C : Type 0} → ℕ → ℕ → Post C → Post C
sub_taken k a p = record p { subs = without_sub k a p.subs }

abbrev pub control_taken : {C : Type 0} → ℕ → Post C → Post C
control_taken t p = record p { controls = without_control t p.controls }

abbrev pub going_on : {C : Type 0} → Who → ℕ → Next C → List (ControlMessage C)
going_on who t (Go b control) = record { tid = t; who = who; to = b; control = control } ∷ []
going_on who t (Ended r) = []

-- what goes on from an outcome
abbrev pub handed_on : {C : Type 0} → Who → Option (Outcome C) → List (ControlMessage C)
handed_on who None = []
handed_on who (Some x) = going_on who x.tid x.next

abbrev pub sent : {C : Type 0} → Who → Option (Outcome C) → Post C → Post C
sent who x p = record p { controls = p.controls ++ handed_on who x }
