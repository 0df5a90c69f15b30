-- A control is in one place.
use Rattle.std.specs.Prelude.{◌≡◌, refl, ℕ, zero, suc, ◌+◌, ◌≤◌, ◌==◌, not, Bool, true, false, if◌then◌else◌, Option, Some, None, List, [], ◌∷◌, ◌++◌, map, filter, find, slice_index_or, slice_set}
use Rattle.std.proofs.Common.{arith, sym, ap, ◌∙◌}
use Rattle.std.proofs.lemmas.Bool.{eqb-true}
use Rattle.std.proofs.lemmas.List.{append-nil}
use Rattle.snap_base.specs.declared.transactions.State.{State}
use Rattle.protocol.specs.Fixed.{Fixed, base, IsText, Code, Next, Go, Ended}
use Rattle.protocol.specs.Parts.{Pact, Post, ControlMessage, Waiting, Outcome, Entry, Who, OfBatch, Cell, Machine}
use Rattle.protocol.specs.Events.{Event, Form, Admit, Ask, Take, Run, Send, End, Rollback, DropControl, Finish}
use Rattle.protocol.specs.Rivals.{Lock}
use Rattle.protocol.specs.Words.{control_of, without_control, outcome_of, who_on, act_of, lock_of}
use Rattle.protocol.specs.Conditions.{IsAllowed, conditions}
use Rattle.protocol.specs.Effects.{after, cell_at, puts, no_cell}
use Rattle.protocol.specs.Runs.{new_cell, opening, IsRun, reached}
use Rattle.protocol.specs.Contents.{NextTid, Controls, Inboxes, Outboxes}
use Rattle.protocol.specs.Numbers.{from, flat, times, one_if, once_in, waiting_tids, outcome_tids, tids_of_controls, controls_in, ControlsInOnePlace}
use Rattle.protocol.specs.OnPost as post
use Rattle.protocol.specs.OnBook as book
use Rattle.protocol.specs.OnCell as cell
use Rattle.protocol.specs.OnRing.{next_pacts}
use Rattle.protocol_laws.proofs.first.Along.{along}
use Rattle.protocol_laws.proofs.first.Drawn.{numbered_tids, length_numbered}
use Rattle.protocol_laws.proofs.first.Frames.{frame}
use Rattle.protocol_laws.proofs.first.Times

-- ---- lists

fewer : {X : Type 0} (u : ℕ) (f : X → ℕ) (p : X → Bool) (xs : List X) → times u (map f (filter p xs)) ≤ times u (map f xs)
fewer u f p [] = omega arith
fewer u f p (x ∷ xs) = by (p x) (fewer u f p xs)
  where
    by : (b : Bool) → times u (map f (filter p xs)) ≤ times u (map f xs) → times u (map f (if b then x ∷ filter p xs else filter p xs)) ≤ times u (f x ∷ map f xs)
    by true h = omega (arith, h, Times.times_cons u (f x) (map f xs), Times.times_cons u (f x) (map f (filter p xs)))
    by false h = omega (arith, h, Times.times_cons u (f x) (map f xs))

-- All of one tid go, and the first of them at most comes elsewhere.
moved : {X Y : Type 0} (u t : ℕ) (f : X → ℕ) (g : Y → ℕ) (to : Option X → List Y) (xs : List X)
    → (to None ≡ []) → ((x : X) → f x ≡ t → times u (map g (to (Some x))) ≤ times u (t ∷ []))
    → times u (map f (filter (λ x. not (f x == t)) xs)) + times u (map g (to (find (λ x. f x == t) xs))) ≤ times u (map f xs)
moved u t f g to [] none some = rw none (omega arith)
moved u t f g to (x ∷ xs) none some = by (f x == t) refl (moved u t f g to xs none some)
  where
    by : (b : Bool) → (f x == t) ≡ b → times u (map f (filter (λ x. not (f x == t)) xs)) + times u (map g (to (find (λ x. f x == t) xs))) ≤ times u (map f xs)
        → times u (map f (if not b then x ∷ filter (λ x. not (f x == t)) xs else filter (λ x. not (f x == t)) xs)) + times u (map g (to (if b then Some x else find (λ x. f x == t) xs))) ≤ times u (f x ∷ map f xs)
    by true e h =
        let q : f x ≡ t = eqb-true (f x) t e in
        omega (arith, fewer u f (λ x. not (f x == t)) xs, some x q, Times.times_cons u (f x) (map f xs), Times.times_cons u t [], ap (λ n. times u (n ∷ map f xs)) q, Times.times_cons u t (map f xs))
    by false e h = omega (arith, h, Times.times_cons u (f x) (map f xs), Times.times_cons u (f x) (map f (filter (λ x. not (f x == t)) xs)))

set_le : (n : ℕ) (xss : List (List ℕ)) (i : ℕ) (ys : List ℕ) → times n (flat (slice_set xss i ys)) + times n (slice_index_or xss i []) ≤ times n (flat xss) + times n ys
set_le n [] i ys = omega arith
set_le n (xs ∷ xss) zero ys = omega (arith, Times.times_append n xs (flat xss), Times.times_append n ys (flat xss))
set_le n (xs ∷ xss) (suc i) ys = omega (arith, Times.times_append n xs (flat xss), Times.times_append n xs (flat (slice_set xss i ys)), set_le n xss i ys)

-- ---- the sum over the three places

pub parted : {C : Type 0} (u : ℕ) (controls : List (ControlMessage C)) (ins : List (List (Waiting C))) (outs : List (List (Outcome C)))
    → times u (tids_of_controls controls ins outs) ≡ times u (map (λ m. m.tid) controls) + times u (flat (map waiting_tids ins)) + times u (flat (map outcome_tids outs))
parted u controls ins outs = omega (arith, Times.times_append u (map (λ m. m.tid) controls) (flat (map waiting_tids ins) ++ flat (map outcome_tids outs)), Times.times_append u (flat (map waiting_tids ins)) (flat (map outcome_tids outs)))

-- one cell becomes another one
pub inbox_put : {C : Type 0} (u : ℕ) (s : Machine C) (a : ℕ) (c : Cell C)
    → times u (flat (map waiting_tids (map (λ c. c.inbox) (puts s a c)))) + times u (waiting_tids (cell_at s a).inbox) ≤ times u (flat (map waiting_tids (map (λ c. c.inbox) s.cells))) + times u (waiting_tids c.inbox)
inbox_put u s a c =
    rw (Times.map_set (λ c. c.inbox) s.cells a c, Times.map_set waiting_tids (map (λ c. c.inbox) s.cells) a c.inbox, sym (Times.map_at (λ c. c.inbox) s.cells a no_cell), sym (Times.map_at waiting_tids (map (λ c. c.inbox) s.cells) a []))
    (set_le u (map waiting_tids (map (λ c. c.inbox) s.cells)) a (waiting_tids c.inbox))

pub outbox_put : {C : Type 0} (u : ℕ) (s : Machine C) (a : ℕ) (c : Cell C)
    → times u (flat (map outcome_tids (map (λ c. c.outbox) (puts s a c)))) + times u (outcome_tids (cell_at s a).outbox) ≤ times u (flat (map outcome_tids (map (λ c. c.outbox) s.cells))) + times u (outcome_tids c.outbox)
outbox_put u s a c =
    rw (Times.map_set (λ c. c.outbox) s.cells a c, Times.map_set outcome_tids (map (λ c. c.outbox) s.cells) a c.outbox, sym (Times.map_at (λ c. c.outbox) s.cells a no_cell), sym (Times.map_at outcome_tids (map (λ c. c.outbox) s.cells) a []))
    (set_le u (map outcome_tids (map (λ c. c.outbox) s.cells)) a (outcome_tids c.outbox))

-- what lies in the post and in one cell
local : {C : Type 0} → ℕ → List (ControlMessage C) → Cell C → ℕ
local u controls c = times u (map (λ m. m.tid) controls) + times u (waiting_tids c.inbox) + times u (outcome_tids c.outbox)

put_le : {C : Type 0} (u : ℕ) (s : Machine C) (a : ℕ) (controls : List (ControlMessage C)) (c : Cell C) → local u controls c ≤ local u s.post.controls (cell_at s a)
    → times u (tids_of_controls controls (map (λ c. c.inbox) (puts s a c)) (map (λ c. c.outbox) (puts s a c))) ≤ times u (controls_in s)
unfolding local
put_le u s a controls c h =
    omega (arith, h, parted u controls (map (λ c. c.inbox) (puts s a c)) (map (λ c. c.outbox) (puts s a c)), parted u s.post.controls (map (λ c. c.inbox) s.cells) (map (λ c. c.outbox) s.cells), inbox_put u s a c, outbox_put u s a c)

-- ---- each event at a cell

one_of : (u t n : ℕ) → n ≡ t → times u (n ∷ []) ≤ times u (t ∷ [])
one_of u t n e = rw e (omega arith)

take_local : {C : Type 0} (u t : ℕ) (cs : List (ControlMessage C)) (c : Cell C) → local u (without_control t cs) (cell.control_came (control_of t cs) c) ≤ local u cs c
unfolding local
take_local u t cs c =
    let h = moved u t (λ m. m.tid) (λ x. x.tid) cell.arrived cs refl (λ x e. one_of u t x.tid e) in
    rw (Times.map_join (λ x. x.tid) c.inbox (cell.arrived (control_of t cs)))
    (omega (arith, h, Times.times_append u (waiting_tids c.inbox) (waiting_tids (cell.arrived (control_of t cs)))))

ask_local : {C : Type 0} (u : ℕ) (t : Lock) (older : Option ℕ) (cs : List (ControlMessage C)) (c : Cell C) → local u (without_control t.tid cs) (cell.act_placed t older (control_of t.tid cs) c) ≤ local u cs c
unfolding local
ask_local u t None cs c = take_local u t.tid cs c
ask_local u t (Some older) cs c =
    rw (append-nil c.inbox) (omega (arith, fewer u (λ m. m.tid) (λ m. not (m.tid == t.tid)) cs))

run_local : {C : Type 0} (code : Code C) (u t a : ℕ) (cs : List (ControlMessage C)) (c : Cell C) → local u cs (cell.slice_run code t a c) ≤ local u cs c
unfolding local
run_local code u t a cs c =
    let h = moved u t (λ x. x.tid) (λ x. x.tid) (λ o. cell.outcomes t (cell.sliced code c.state o)) c.inbox refl (λ x e. one_of u t t refl) in
    rw (Times.map_join (λ x. x.tid) c.outbox (cell.outcomes t (cell.slice_of code t c)))
    (omega (arith, h, Times.times_append u (outcome_tids c.outbox) (outcome_tids (cell.outcomes t (cell.slice_of code t c)))))

goes_on : {C : Type 0} (u t n : ℕ) (who : Who) (x : Next C) → n ≡ t → times u (map (λ m. m.tid) (post.going_on who n x)) ≤ times u (t ∷ [])
goes_on u t n who (Go b control) e = one_of u t n e
goes_on u t n who (Ended r) e = omega arith

send_local : {C : Type 0} (u t : ℕ) (p : Post C) (c : Cell C) → local u (post.sent (who_on t c.entries) (outcome_of t c.outbox) p).controls (cell.outcome_taken t c) ≤ local u p.controls c
unfolding local
send_local u t p c =
    let h = moved u t (λ x. x.tid) (λ m. m.tid) (post.handed_on (who_on t c.entries)) c.outbox refl (λ x e. goes_on u t x.tid (who_on t c.entries) x.next e) in
    rw (Times.map_join (λ m. m.tid) p.controls (post.handed_on (who_on t c.entries) (outcome_of t c.outbox)))
    (omega (arith, h, Times.times_append u (map (λ m. m.tid) p.controls) (map (λ m. m.tid) (post.handed_on (who_on t c.entries) (outcome_of t c.outbox)))))

end_local : {C : Type 0} (u t : ℕ) (cs : List (ControlMessage C)) (c : Cell C) → local u cs (cell.outcome_taken t c) ≤ local u cs c
unfolding local
end_local u t cs c = omega (arith, fewer u (λ x. x.tid) (λ x. not (x.tid == t)) c.outbox)

gone_local : {C : Type 0} (u : ℕ) (gone : List Entry) (cs : List (ControlMessage C)) (c d : Cell C) → d.inbox ≡ cell.inbox_without gone c.inbox → d.outbox ≡ cell.outbox_without gone c.outbox → local u cs d ≤ local u cs c
unfolding local
gone_local u gone cs c d e f =
    rw (e, f) (omega (arith, fewer u (λ x. x.tid) (λ x. not (cell.is_tid_among x.tid gone)) c.inbox, fewer u (λ x. x.tid) (λ x. not (cell.is_tid_among x.tid gone)) c.outbox))

-- ---- new controls

first_tids : {C : Type 0} (w : Fixed C) (who : Who) (ps : List Pact) → map (λ m. m.tid) (map (λ q. post.first_control w who q.tid q.tx) ps) ≡ map (λ p. p.tid) ps
first_tids w who [] = refl
first_tids w who (p ∷ ps) = rw (first_tids w who ps) refl

posted : {C : Type 0} (u nt few : ℕ) (cs new : List (ControlMessage C)) (ins : List (List (Waiting C))) (outs : List (List (Outcome C))) → map (λ m. m.tid) new ≡ from nt few
    → times u (tids_of_controls cs ins outs) ≤ once_in 0 nt u → times u (tids_of_controls (cs ++ new) ins outs) ≤ once_in 0 (nt + few) u
posted u nt few cs new ins outs e h =
    omega (arith, h, parted u cs ins outs, parted u (cs ++ new) ins outs, ap (times u) (Times.map_join (λ m. m.tid) cs new), Times.times_append u (map (λ m. m.tid) cs) (map (λ m. m.tid) new), ap (times u) e, Times.times_from nt few u, Times.once_joined 0 nt (nt + few) u (omega arith) (omega arith))

-- ---- over states

unfoldable pub Held : {C : Type 0} → ℕ → List (ControlMessage C) → List (List (Waiting C)) → List (List (Outcome C)) → Type 0
Held next controls ins outs = (u : ℕ) → times u (tids_of_controls controls ins outs) ≤ once_in 0 next u

unfoldable pub HeldIn : {C : Type 0} → Machine C → Type 0
HeldIn s = Held s.ring.next_tid s.post.controls (map (λ c. c.inbox) s.cells) (map (λ c. c.outbox) s.cells)

same : {C : Type 0} {n n' : ℕ} {cs cs' : List (ControlMessage C)} {is is' : List (List (Waiting C))} {os os' : List (List (Outcome C))} → n' ≡ n → cs' ≡ cs → is' ≡ is → os' ≡ os
    → Held n cs is os → Held n' cs' is' os'
same a b c d h = rw (a, b, c, d) h

below : (x y z : ℕ) → x ≤ y → y ≤ z → x ≤ z
below x y z p q = omega (arith, p, q)

pub kept : {C : Type 0} (w : Fixed C) (e : Event) (s : Machine C) → IsAllowed w e s → HeldIn s → HeldIn (after w e s)
unfolding HeldIn Held conditions after
kept w (Form k) s ok h = λ u.
    rw (length_numbered s.ring.next_tid _)
    (posted u s.ring.next_tid _ s.post.controls _ (map (λ c. c.inbox) s.cells) (map (λ c. c.outbox) s.cells) (first_tids w (OfBatch k) (next_pacts w.text s.ring) ∙ numbered_tids s.ring.next_tid _) (h u))
kept w (Admit t) s ok h = λ u. posted u s.ring.next_tid 1 s.post.controls _ (map (λ c. c.inbox) s.cells) (map (λ c. c.outbox) s.cells) (ap (λ n. n ∷ []) (eqb-true t s.ring.next_tid ok.0)) (h u)
kept w (Ask t a) s ok h = λ u. below _ _ _ (put_le u s a _ _ (ask_local u (lock_of t s.book.acts) (book.in_the_way (lock_of t s.book.acts) (cell_at s a).entries) s.post.controls (cell_at s a))) (h u)
kept w (Take t a) s ok h = λ u. below _ _ _ (put_le u s a _ _ (take_local u t s.post.controls (cell_at s a))) (h u)
kept w (Run t a) s ok h = λ u. below _ _ _ (put_le u s a _ _ (run_local w.code u t a s.post.controls (cell_at s a))) (h u)
kept w (Send t a) s ok h = λ u. below _ _ _ (put_le u s a _ _ (send_local u t s.post (cell_at s a))) (h u)
kept w (End t a) s ok h = λ u. below _ _ _ (put_le u s a _ _ (end_local u t s.post.controls (cell_at s a))) (h u)
kept w (Rollback a) s ok h = λ u. below _ _ _ (put_le u s a _ _ (gone_local u (cell.going s.book.cascades (cell_at s a).entries) s.post.controls (cell_at s a) (cell.rolled_back s.book.cascades (cell_at s a)) refl refl)) (h u)
kept w (Finish t a) s ok h = λ u. below _ _ _ (put_le u s a _ _ (gone_local u (cell.own_entries t (cell_at s a).entries) s.post.controls (cell_at s a) (cell.act_left t (act_of t s.book.acts) (cell_at s a)) refl refl)) (h u)
kept w (DropControl t) s ok h = λ u.
    below _ _ _ (omega (arith, fewer u (λ m. m.tid) (λ m. not (m.tid == t)) s.post.controls, parted u s.post.controls (map (λ c. c.inbox) s.cells) (map (λ c. c.outbox) s.cells), parted u (without_control t s.post.controls) (map (λ c. c.inbox) s.cells) (map (λ c. c.outbox) s.cells))) (h u)
kept w e s ok h = same (frame w e s NextTid refl) (frame w e s Controls refl) (frame w e s Inboxes refl) (frame w e s Outboxes refl) h

no_boxes : {C X : Type 0} (u base : ℕ) (f : X → List ℕ) (g : Cell C → X) (states : List State) → ((st : State) → f (g (new_cell base st)) ≡ []) → times u (flat (map f (map g (map (new_cell base) states)))) ≡ 0
no_boxes u base f g [] h = refl
no_boxes u base f g (st ∷ states) h = rw (h st) (no_boxes u base f g states h)

pub opened : {C : Type 0} (w : Fixed C) → HeldIn (opening w)
unfolding HeldIn Held
opened {C} w = λ u. omega (
  arith,
  parted {C = C} u [] (map (λ c. c.inbox) (map (new_cell (base w.text)) w.text.opening.states)) (map (λ c. c.outbox) (map (new_cell (base w.text)) w.text.opening.states)),
  no_boxes {C = C} u (base w.text) waiting_tids (λ c. c.inbox) w.text.opening.states (λ st. refl),
  no_boxes {C = C} u (base w.text) outcome_tids (λ c. c.outbox) w.text.opening.states (λ st. refl),
)

pub at_most_one : (b : Bool) → one_if b ≤ 1
at_most_one true = omega arith
at_most_one false = omega arith

pub controls_in_one_place : {C : Type 0} (w : Fixed C) (es : List Event) → IsText w.text → IsRun w es → ControlsInOnePlace w (reached w es)
unfolding HeldIn Held
controls_in_one_place w es text run =
    let h : HeldIn (reached w es) = along w HeldIn (kept w) es (opening w) run (opened w) in
    record {
      one = λ t. below _ _ _ (h t) (at_most_one _);
      drawn = λ t past. omega (arith, h t, Times.once_from 0 (reached w es).ring.next_tid t past);
    }
