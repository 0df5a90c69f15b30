-- The settled batches, counted along a run.
use Rattle.std.specs.Prelude.{◌≡◌, refl, ℕ, ◌+◌, ◌<◌, ◌==◌, not, Bool, true, false, if◌then◌else◌, Some, List, [], ◌∷◌, ◌++◌, length, filter, map}
use Rattle.std.proofs.Common.{arith, sym, ap, ◌∙◌}
use Rattle.std.proofs.lemmas.Bool.{eqb-true, and_parts, true≢false}
use Rattle.std.proofs.lemmas.List.{map-append}
use Rattle.protocol.specs.Conditions.{IsAllowed, conditions}
use Rattle.protocol.specs.Contents.{Content, IsSame, is_changed, NextBid, Bids, Stages}
use Rattle.protocol.specs.Effects.{after}
use Rattle.protocol.specs.Events.{Event, Form, Commit, Settle}
use Rattle.protocol.specs.Fixed.{Fixed}
use Rattle.protocol.specs.Numbers.{one_if}
use Rattle.protocol.specs.OnDesk.{change_if, changed_batch, new_batch, with_stage}
use Rattle.protocol.specs.OnRing.{planned}
use Rattle.protocol.specs.Parts.{Batch, Formed, Committing, Settled, Machine, Stage}
use Rattle.protocol.specs.Runs.{opening, reached, state_after, EachAllowed, IsRun}
use Rattle.protocol.specs.Words.{batch_of, count, holds, is_committing, is_formed, is_open, is_settled}
use Rattle.protocol_records.proofs.recording.RecordsTold.{holds_weaker}
use Rattle.run_effects.specs.Laws.{settles}

-- what an event may not change is the same after it
abbrev pub Frames : (C : Type 0) → Type 0
Frames C = (w : Fixed C) (e : Event) (s : Machine C) (q : Content) → is_changed q e ≡ false → IsSame q s (after w e s)

-- ---- counts

settled_in : List Batch → ℕ
settled_in bs = count (λ b. is_settled b.stage) bs

one_settled : (b : Batch) (bs : List Batch) → settled_in (b ∷ bs) ≡ one_if (is_settled b.stage) + settled_in bs
unfolding settled_in
one_settled b bs = by (is_settled b.stage)
  where
    by : (q : Bool) → length (if q then b ∷ filter (λ b. is_settled b.stage) bs else filter (λ b. is_settled b.stage) bs) ≡ one_if q + length (filter (λ b. is_settled b.stage) bs)
    by true = omega arith
    by false = omega arith

settled_join : (bs cs : List Batch) → settled_in (bs ++ cs) ≡ settled_in bs + settled_in cs
unfolding settled_in
settled_join [] cs = omega arith
settled_join (b ∷ bs) cs = omega (arith, one_settled b (bs ++ cs), one_settled b bs, settled_join bs cs)

one_formed : (b : Batch) → is_settled b.stage ≡ false → settled_in (b ∷ []) ≡ 0
unfolding settled_in
one_formed b h = rw h refl

-- by the stages alone
settled_stages : (bs cs : List Batch) → map (λ b. b.stage) bs ≡ map (λ b. b.stage) cs → settled_in bs ≡ settled_in cs
settled_stages [] [] e = refl
settled_stages [] (c ∷ cs) e = absurd (cc e)
settled_stages (b ∷ bs) [] e = absurd (cc e)
settled_stages (b ∷ bs) (c ∷ cs) e =
    let stage : b.stage ≡ c.stage = cc e in
    let rest : map (λ b. b.stage) bs ≡ map (λ b. b.stage) cs = cc e in
    omega (arith, one_settled b bs, one_settled c cs, settled_stages bs cs rest, ap (λ st. one_if (is_settled st)) stage)

-- ---- each number is one batch's

-- the numbers from one on, in order, up to the next
Rising : ℕ → List ℕ → ℕ → Type 0
Rising n [] next = n ≡ next
Rising n (k ∷ ks) next = (k ≡ n) × Rising (n + 1) ks next

rising_more : (n : ℕ) (ks : List ℕ) (next : ℕ) → Rising n ks next → Rising n (ks ++ next ∷ []) (next + 1)
unfolding Rising
rising_more n [] next h = (sym h, ap (λ m. m + 1) h)
rising_more n (k ∷ ks) next h = (h.0, rising_more (n + 1) ks next h.1)

others_stay : (k : ℕ) (f : Batch → Batch) (n next : ℕ) (bs : List Batch) → Rising n (map (λ b. b.bid) bs) next → k < n → settled_in (changed_batch k f bs) ≡ settled_in bs
unfolding Rising
others_stay k f n next [] h l = refl
others_stay k f n next (b ∷ bs) h l = by (b.bid == k) refl (others_stay k f (n + 1) next bs h.1 (omega (arith, l)))
  where
    by : (q : Bool) → (b.bid == k) ≡ q → settled_in (changed_batch k f bs) ≡ settled_in bs → settled_in (change_if q f b ∷ changed_batch k f bs) ≡ settled_in (b ∷ bs)
    by true e r = absurd (omega (arith, l, h.0, eqb-true b.bid k e))
    by false e r = omega (arith, one_settled b bs, one_settled b (changed_batch k f bs), r)

not_settled : (st : Stage) → not (is_settled st) ≡ true → one_if (is_settled st) ≡ 0
not_settled Formed h = refl
not_settled Committing h = refl
not_settled Settled h = absurd (true≢false (sym h))

-- one that is not settled gets another stage
one_changes : (k : ℕ) (st : Stage) (n next : ℕ) (bs : List Batch) → Rising n (map (λ b. b.bid) bs) next → holds (λ b. not (is_settled b.stage)) (batch_of k bs) ≡ true
    → settled_in (changed_batch k (with_stage st) bs) ≡ settled_in bs + one_if (is_settled st)
unfolding Rising
one_changes k st n next [] h o = absurd (true≢false (sym o))
one_changes k st n next (b ∷ bs) h o = by (b.bid == k) refl o (one_changes k st (n + 1) next bs h.1)
  where
    by : (q : Bool) → (b.bid == k) ≡ q → holds (λ b. not (is_settled b.stage)) (if q then Some b else batch_of k bs) ≡ true → (holds (λ b. not (is_settled b.stage)) (batch_of k bs) ≡ true → settled_in (changed_batch k (with_stage st) bs) ≡ settled_in bs + one_if (is_settled st))
        → settled_in (change_if q (with_stage st) b ∷ changed_batch k (with_stage st) bs) ≡ settled_in (b ∷ bs) + one_if (is_settled st)
    by true e i r = omega (arith, one_settled b bs, not_settled b.stage i, one_settled (with_stage st b) (changed_batch k (with_stage st) bs), others_stay k (with_stage st) (n + 1) next bs h.1 (omega (arith, h.0, eqb-true b.bid k e)))
    by false e i r = omega (arith, one_settled b bs, one_settled b (changed_batch k (with_stage st) bs), r i)

formed_not_settled : (st : Stage) → is_formed st ≡ true → not (is_settled st) ≡ true
formed_not_settled Formed h = refl
formed_not_settled Committing h = refl
formed_not_settled Settled h = absurd (true≢false (sym h))

committing_not_settled : (st : Stage) → is_committing st ≡ true → not (is_settled st) ≡ true
committing_not_settled Formed h = refl
committing_not_settled Committing h = refl
committing_not_settled Settled h = absurd (true≢false (sym h))

-- ---- one event

Numbered : {C : Type 0} → Fixed C → Machine C → Type 0
Numbered w s = Rising w.text.opening.next_bid (map (λ b. b.bid) s.desk.batches) s.ring.next_bid

stays_numbered : {C : Type 0} (w : Fixed C) (e : Event) (s : Machine C) → Frames C → IsAllowed w e s → Numbered w s → Numbered w (after w e s)
unfolding Numbered conditions after
stays_numbered w (Form k) s frame ok h =
    let e : k ≡ s.ring.next_bid = eqb-true k s.ring.next_bid ok.0 in
    rw (map-append (λ (b : Batch). b.bid) s.desk.batches _, e) (rising_more w.text.opening.next_bid _ s.ring.next_bid h)
stays_numbered w e s frame ok h = rw (frame w e s NextBid refl, frame w e s Bids refl) h

counts_on : {C : Type 0} (w : Fixed C) (e : Event) (s : Machine C) → Frames C → IsAllowed w e s → Numbered w s → settled_in (after w e s).desk.batches ≡ settled_in s.desk.batches + settles (e ∷ [])
unfolding Numbered conditions after
counts_on w (Form k) s frame ok h = let f = planned w.text k s.ring in let b = new_batch f.bid f.actors f.pacts in omega (arith, settled_join s.desk.batches (b ∷ []), one_formed b refl)
counts_on w (Commit k) s frame ok h = one_changes k Committing w.text.opening.next_bid s.ring.next_bid s.desk.batches h (holds_weaker _ (λ b. not (is_settled b.stage)) (batch_of k s.desk.batches) (λ b p. formed_not_settled b.stage (and_parts (is_formed b.stage) (not b.aborted) (and_parts (is_open b) _ p).0).0) ok.0)
counts_on w (Settle k) s frame ok h = one_changes k Settled w.text.opening.next_bid s.ring.next_bid s.desk.batches h (holds_weaker _ (λ b. not (is_settled b.stage)) (batch_of k s.desk.batches) (λ b p. committing_not_settled b.stage (and_parts (is_committing b.stage) (not b.aborted) p).0) ok.0)
counts_on w e s frame ok h = settled_stages (after w e s).desk.batches s.desk.batches (frame w e s Stages refl) ∙ plus_0 (settled_in s.desk.batches)
  where
    plus_0 : (n : ℕ) → n ≡ n + 0
    plus_0 n = omega arith

-- ---- a run

settles_one : (e : Event) (es : List Event) → settles (e ∷ es) ≡ settles (e ∷ []) + settles es
settles_one (Settle k) es = omega arith
settles_one e es = plus (settles es)
  where
    plus : (n : ℕ) → n ≡ 0 + n
    plus n = omega arith

counts_along : {C : Type 0} (w : Fixed C) (es : List Event) (s : Machine C) → Frames C → EachAllowed w es s → Numbered w s → settled_in (state_after w es s).desk.batches ≡ settled_in s.desk.batches + settles es
counts_along w [] s frame run h = plus_0 (settled_in s.desk.batches)
  where
    plus_0 : (n : ℕ) → n ≡ n + 0
    plus_0 n = omega arith
counts_along w (e ∷ es) s frame run h = omega (arith, counts_along w es (after w e s) frame run.1 (stays_numbered w e s frame run.0 h), counts_on w e s frame run.0 h, settles_one e es)

pub batches_counted : {C : Type 0} (w : Fixed C) (es : List Event) → Frames C → IsRun w es → count (λ b. is_settled b.stage) (reached w es).desk.batches ≡ settles es
unfolding settled_in Numbered Rising
batches_counted w es frame run = counts_along w es (opening w) frame run refl ∙ from_0 (settles es)
  where
    from_0 : (n : ℕ) → 0 + n ≡ n
    from_0 n = omega arith
