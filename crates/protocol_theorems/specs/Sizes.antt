-- How many of each there are, how far numbers are, and what an event that makes something new finds.
use Rattle.std.specs.Prelude.{◌≡◌, ℕ, ◌+◌, ◌-◌, ◌<◌, ◌≤◌, None, length, ⊤}
use Rattle.std.specs.List.{AllByRecursion}
use Rattle.protocol.specs.Fixed.{Fixed}
use Rattle.protocol.specs.Numbers.{times}
use Rattle.protocol.specs.Parts.{Machine}
use Rattle.protocol.specs.Words.{sub_of, control_of}
use Rattle.protocol.specs.Events.{Event, Form, Admit, Send, Abort}
use Rattle.protocol.specs.Conditions.{IsAllowed}
use Rattle.protocol.specs.OnRing.{next_actors}

pub record SizesHold {C : Type 0} (w : Fixed C) (s : Machine C) : Type 0 where
  pub holder : s.ring.holder < w.text.coordinators
  pub pacts : length s.ring.pacts ≡ w.text.coordinators
  pub acts : length s.ring.acts ≡ w.text.coordinators
  pub lasts : length s.ring.lasts ≡ length w.text.opening.states
  pub cells : length s.cells ≡ length w.text.opening.states
  pub logs : length s.logs ≡ w.text.logs
  pub replied : length s.desk.replied ≡ length w.text.txs
  -- numbers go no further than the transactions that were submitted
  pub next_tx : s.ring.next_tx ≤ length w.text.txs
  pub next_tid : s.ring.next_tid ≤ w.text.opening.next_tid + s.ring.next_tx
  pub next_bid : s.ring.next_bid ≤ w.text.opening.next_bid + s.ring.next_tx
  pub next_c : s.book.next_c ≤ w.text.opening.next_c + s.ring.next_tx
  pub cascades : length s.book.cascades ≤ s.ring.next_tx

-- A batch that is formed has no message yet, and names no actor twice; a tid that is drawn has no control yet, and is above
-- those of all ACTs; what is sent on is not under way; and all cascades end below a batch that is aborted.
abbrev pub FindsRoom : {C : Type 0} → Fixed C → Event → Machine C → Type 0
FindsRoom w (Form k) s = ((a : ℕ) → sub_of k a s.post.subs ≡ None) × (((n : ℕ) → times n (next_actors w.text s.ring) ≤ 1) × ((t : ℕ) → s.ring.next_tid ≤ t → control_of t s.post.controls ≡ None))
FindsRoom w (Admit t) s = AllByRecursion (λ x. x.tid < t) s.book.acts × (control_of t s.post.controls ≡ None)
FindsRoom w (Send t a) s = control_of t s.post.controls ≡ None
FindsRoom w (Abort k) s = AllByRecursion (λ c. c.upto < k) s.book.cascades × (k ≤ s.ring.next_bid - 1)
FindsRoom w _ s = ⊤

abbrev pub AllFindRoom : {C : Type 0} → Fixed C → Machine C → Type 0
AllFindRoom w s = (e : Event) → IsAllowed w e s → FindsRoom w e s
