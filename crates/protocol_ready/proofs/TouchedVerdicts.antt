-- What an event leaves of the order of commits, and of whether a transaction has a verdict.
use Rattle.std.specs.Prelude.{◌≡◌, refl, ℕ, ◌+◌, ◌==◌, ◌<◌, nat_le, max, is_some, Bool, true, false, not, ◌&&◌, if◌then◌else◌, Option, Some, None, List, [], ◌∷◌, ◌++◌, length, map, find}
use Rattle.std.specs.List.{list_any, AllByRecursion}
use Rattle.snap_base.specs.declared.transactions.TxResult.{TxResult}
use Rattle.snap_base.specs.declared.transactions.TxResult.TheVariants.{Value, Fail}
use Rattle.snap_base.specs.declared.verdicts.Place.{Place}
use Rattle.snap_base.proofs.Lists.{all_of}
use Rattle.std.proofs.Common.{arith, sym, ap, ◌∙◌}
use Rattle.std.proofs.lemmas.Bool.{eqb-true, or_parts, and_parts, true≢false, ltb-false, le-leb}
use Rattle.protocol.specs.Fixed.{Fixed, Next, Go, Ended}
use Rattle.protocol.specs.Rivals.{Lock}
use Rattle.protocol.specs.Parts.{Act, Status, Live, Doomed, Decided, Sealed, Pair, Book, Cascade, Pact, Stage, Formed, Committing, Settled, Batch, Outcome, Machine}
use Rattle.protocol.specs.Events.{Event, Form, Admit, Arrive, Ask, End, Note, Commit, Settle, Abort, Prepare, Vouch, Decide, Seal, Finish, Trim}
use Rattle.protocol.specs.Words.{holds, has_act, outcome_of, batch_of, is_next_to_commit, is_open, is_formed, is_settled, covers}
use Rattle.protocol.specs.Verdicts.{verdict, verdict_of_pact, verdict_in_batch, verdict_of_act, pact_verdict, act_verdict, settled_verdict, ended_at, or_else}
use Rattle.protocol.specs.Spread.{raised, carried, is_crossed, crossed_out, doomed_by_order}
use Rattle.protocol.specs.Conditions.{IsAllowed, conditions}
use Rattle.protocol.specs.OnDesk as desk
use Rattle.protocol.specs.OnBook as book
use Rattle.protocol.specs.Effects.{after, cell_at}
use Rattle.protocol.specs.Contents.{Content, Bids, Stages, AbortedMarks, IsSame, is_changed}
use Rattle.protocol.specs.Numbers.{from}
use Rattle.protocol_ready.specs.Touched.{changes_next, changes_verdict, has_crossed_act, names_act, asked_verdict, has_pact_with, is_abort}
use Rattle.protocol_ready.proofs.TouchedBatches.{noted_same, cascades_stay}

-- ---- a batch that commits is the only one of its number, and is not settled

abbrev pub AreUnsettled : ℕ → List Batch → Type 0
AreUnsettled j bs = AllByRecursion (λ b. (b.bid == j) ≡ true → is_settled b.stage ≡ false) bs

tail_is : (x y : ℕ) (xs ys : List ℕ) → x ∷ xs ≡ y ∷ ys → xs ≡ ys
tail_is x y xs ys e = cc e

head_is : (x y : ℕ) (xs ys : List ℕ) → x ∷ xs ≡ y ∷ ys → x ≡ y
head_is x y xs ys e = cc e

above : (j low : ℕ) (bs : List Batch) → map (λ b. b.bid) bs ≡ from low (length bs) → j < low → AreUnsettled j bs
above j low [] e h = tt
above j low (b ∷ bs) e h =
    let q : b.bid ≡ low = head_is b.bid low _ _ e in
    ((λ f. absurd (omega (arith, eqb-true b.bid j f, q, h))), above j (low + 1) bs (tail_is b.bid low _ _ e) (omega (arith, h)))

unsettled : (b : Batch) → is_open b ≡ true → is_settled b.stage ≡ false
unsettled b h = by b.stage (and_parts (is_formed b.stage) (not b.aborted) h).0
  where
    by : (st : Stage) → is_formed st ≡ true → is_settled st ≡ false
    by Formed e = refl
    by Committing e = refl
    by Settled e = absurd (true≢false (sym e))

pub one_open : (j low : ℕ) (bs : List Batch) → map (λ b. b.bid) bs ≡ from low (length bs) → holds is_open (batch_of j bs) ≡ true → AreUnsettled j bs
one_open j low [] e h = tt
one_open j low (b ∷ bs) e h = by (b.bid == j) refl h (one_open j (low + 1) bs (tail_is b.bid low _ _ e))
  where
    by : (q : Bool) → (b.bid == j) ≡ q → holds is_open (if q then Some b else batch_of j bs) ≡ true → (holds is_open (batch_of j bs) ≡ true → AreUnsettled j bs) → AreUnsettled j (b ∷ bs)
    by true f g i = ((λ z. unsettled b g), above j (low + 1) bs (tail_is b.bid low _ _ e) (omega (arith, eqb-true b.bid j f, head_is b.bid low _ _ e)))
    by false f g i = ((λ z. absurd (true≢false (sym z ∙ f))), i g)

holds_first : (p q : Batch → Bool) (o : Option Batch) → holds (λ b. p b && q b) o ≡ true → holds p o ≡ true
holds_first p q None h = absurd (true≢false (sym h))
holds_first p q (Some b) h = (and_parts (p b) (q b) h).0

commits_unsettled : {C : Type 0} (w : Fixed C) (j : ℕ) (s : Machine C) → map (λ b. b.bid) s.desk.batches ≡ from w.text.opening.next_bid (length s.desk.batches) → IsAllowed w (Commit j) s → AreUnsettled j s.desk.batches
unfolding conditions
commits_unsettled w j s e ok = one_open j w.text.opening.next_bid s.desk.batches e (holds_first is_open _ _ ok.0)

-- ---- whether all smaller batches are over

next_same : (k : ℕ) (bs cs : List Batch) → map (λ b. b.bid) cs ≡ map (λ b. b.bid) bs → map (λ b. b.stage) cs ≡ map (λ b. b.stage) bs → map (λ b. b.aborted) cs ≡ map (λ b. b.aborted) bs
    → is_next_to_commit k cs ≡ is_next_to_commit k bs
next_same k [] [] e f g = refl
next_same k [] (c ∷ cs) e f g = absurd (cc e)
next_same k (b ∷ bs) [] e f g = absurd (cc e)
next_same k (b ∷ bs) (c ∷ cs) e f g =
    let e0 : c.bid ≡ b.bid = cc e in
    let f0 : c.stage ≡ b.stage = cc f in
    let g0 : c.aborted ≡ b.aborted = cc g in
    rw (e0, f0, g0, next_same k bs cs (cc e) (cc f) (cc g)) refl

next_formed : (k : ℕ) (new : Batch) (bs : List Batch) → nat_le k new.bid ≡ true → is_next_to_commit k (bs ++ new ∷ []) ≡ is_next_to_commit k bs
next_formed k new [] h = rw h refl
next_formed k new (b ∷ bs) h = rw (next_formed k new bs h) refl

next_committing : (k j : ℕ) (bs : List Batch) → AreUnsettled j bs → is_next_to_commit k (desk.changed_batch j (desk.with_stage Committing) bs) ≡ is_next_to_commit k bs
next_committing k j [] h = refl
next_committing k j (b ∷ bs) h = by (b.bid == j) refl (next_committing k j bs h.1)
  where
    by : (q : Bool) → (b.bid == j) ≡ q → is_next_to_commit k (desk.changed_batch j (desk.with_stage Committing) bs) ≡ is_next_to_commit k bs
        → is_next_to_commit k (desk.change_if q (desk.with_stage Committing) b ∷ desk.changed_batch j (desk.with_stage Committing) bs) ≡ is_next_to_commit k (b ∷ bs)
    by true e r = rw (r, h.0 e) refl
    by false e r = rw r refl

pub next_stays : {C : Type 0} (w : Fixed C) (e : Event) (s : Machine C) (k : ℕ) → ((q : Content) → is_changed q e ≡ false → IsSame q s (after w e s)) → map (λ b. b.bid) s.desk.batches ≡ from w.text.opening.next_bid (length s.desk.batches) → IsAllowed w e s → is_abort e ≡ false → changes_next e k ≡ false
    → is_next_to_commit k (after w e s).desk.batches ≡ is_next_to_commit k s.desk.batches
unfolding after
next_stays w (Form j) s k same bids ok z h = next_formed k _ s.desk.batches (le-leb k j (ltb-false j k h))
next_stays w (Commit j) s k same bids ok z h = next_committing k j s.desk.batches (commits_unsettled w j s bids ok)
next_stays w (Settle j) s k same bids ok z h = absurd (true≢false h)
next_stays w (Abort j) s k same bids ok z h = absurd (true≢false z)
next_stays w e s k same bids ok z h = next_same k s.desk.batches (after w e s).desk.batches (same Bids refl) (same Stages refl) (same AbortedMarks refl)

-- ---- verdicts of PACTs

ended_some : (p : Place) (q : Place) (r : Option TxResult) → is_some (ended_at p r) ≡ is_some (ended_at q r)
ended_some p q None = refl
ended_some p q (Some (Value v)) = refl
ended_some p q (Some (Fail code)) = refl

settled_some : (st : Stage) (p : Place) (r : Option TxResult) → is_settled st ≡ false → settled_verdict st p r ≡ None
settled_some Formed p r h = refl
settled_some Committing p r h = refl
settled_some Settled p r h = absurd (true≢false h)

in_batch_unnamed : (cs : List Cascade) (n : ℕ) (b : Batch) (ps : List Pact) → list_any (λ p. p.tx == n) ps ≡ false → verdict_in_batch cs n b ps ≡ None
in_batch_unnamed cs n b [] h = refl
in_batch_unnamed cs n b (p ∷ ps) h = let o = or_parts (p.tx == n) (list_any (λ p. p.tx == n) ps) h in rw o.0 (in_batch_unnamed cs n b ps o.1)

if_both : {X : Type 0} (q : Bool) (x y v z : X) → x ≡ v → y ≡ z → (if q then x else y) ≡ (if q then v else z)
if_both true x y v z e f = e
if_both false x y v z e f = f

-- at the same stage
pub pact_same : (o : Option Cascade) (b c : Batch) (p : Pact) → c.bid ≡ b.bid → c.stage ≡ b.stage → pact_verdict o c p ≡ pact_verdict o b p
pact_same None b c p e f = rw (e, f) refl
pact_same (Some x) b c p e f = refl

cover_same : (cs : List Cascade) (b c : Batch) (p : Pact) → c.bid ≡ b.bid → c.stage ≡ b.stage → pact_verdict (find (covers c.bid) cs) c p ≡ pact_verdict (find (covers b.bid) cs) b p
cover_same cs b c p e f = ap (λ k. pact_verdict (find (covers k) cs) c p) e ∙ pact_same (find (covers b.bid) cs) b c p e f

in_batch_same : (cs : List Cascade) (n : ℕ) (b c : Batch) (ps : List Pact) → c.bid ≡ b.bid → c.stage ≡ b.stage → verdict_in_batch cs n c ps ≡ verdict_in_batch cs n b ps
in_batch_same cs n b c [] e f = refl
in_batch_same cs n b c (p ∷ ps) e f = if_both (p.tx == n) _ _ _ _ (cover_same cs b c p e f) (in_batch_same cs n b c ps e f)

-- neither is settled
cover_unsettled : (cs : List Cascade) (b c : Batch) (p : Pact) → c.bid ≡ b.bid → is_settled b.stage ≡ false → is_settled c.stage ≡ false → pact_verdict (find (covers c.bid) cs) c p ≡ pact_verdict (find (covers b.bid) cs) b p
cover_unsettled cs b c p e f g = ap (λ k. pact_verdict (find (covers k) cs) c p) e ∙ go (find (covers b.bid) cs)
  where
    go : (o : Option Cascade) → pact_verdict o c p ≡ pact_verdict o b p
    go None = settled_some c.stage _ p.result g ∙ sym (settled_some b.stage _ p.result f)
    go (Some x) = refl

in_batch_unsettled : (cs : List Cascade) (n : ℕ) (b c : Batch) (ps : List Pact) → c.bid ≡ b.bid → is_settled b.stage ≡ false → is_settled c.stage ≡ false → verdict_in_batch cs n c ps ≡ verdict_in_batch cs n b ps
in_batch_unsettled cs n b c [] e f g = refl
in_batch_unsettled cs n b c (p ∷ ps) e f g = if_both (p.tx == n) _ _ _ _ (cover_unsettled cs b c p e f g) (in_batch_unsettled cs n b c ps e f g)

in_batch_result : (cs : List Cascade) (n t : ℕ) (r : TxResult) (b c : Batch) (ps : List Pact) → c.bid ≡ b.bid → c.stage ≡ b.stage → list_any (λ p. (p.tid == t) && (p.tx == n)) ps ≡ false
    → verdict_in_batch cs n c (map (desk.with_result t r) ps) ≡ verdict_in_batch cs n b ps
in_batch_result cs n t r b c [] e f h = refl
in_batch_result cs n t r b c (p ∷ ps) e f h =
    let o = or_parts ((p.tid == t) && (p.tx == n)) (list_any (λ p. (p.tid == t) && (p.tx == n)) ps) h in
    by (p.tx == n) (p.tid == t) o.0 (in_batch_result cs n t r b c ps e f o.1)
  where
    by : (q z : Bool) → (z && q) ≡ false → verdict_in_batch cs n c (map (desk.with_result t r) ps) ≡ verdict_in_batch cs n b ps
        → (if q then pact_verdict (find (covers c.bid) cs) c (record p { result = if z then Some r else p.result }) else verdict_in_batch cs n c (map (desk.with_result t r) ps)) ≡ (if q then pact_verdict (find (covers b.bid) cs) b p else verdict_in_batch cs n b ps)
    by true true g i = absurd (true≢false g)
    by true false g i = cover_same cs b c p e f
    by false z g i = i

-- each batch of a list
pact_map : (cs : List Cascade) (n : ℕ) (f : Batch → Batch) (bs : List Batch) → AllByRecursion (λ b. verdict_in_batch cs n (f b) (f b).pacts ≡ verdict_in_batch cs n b b.pacts) bs → verdict_of_pact cs n (map f bs) ≡ verdict_of_pact cs n bs
pact_map cs n f [] h = refl
pact_map cs n f (b ∷ bs) h = rw (h.0, pact_map cs n f bs h.1) refl

pact_append : (cs : List Cascade) (n : ℕ) (new : Batch) (bs : List Batch) → list_any (λ p. p.tx == n) new.pacts ≡ false → verdict_of_pact cs n (bs ++ new ∷ []) ≡ verdict_of_pact cs n bs
pact_append cs n new [] h = rw (in_batch_unnamed cs n new new.pacts h) refl
pact_append cs n new (b ∷ bs) h = rw (pact_append cs n new bs h) refl

pact_kept : (cs : List Cascade) (n j : ℕ) (f : Batch → Batch) (bs : List Batch) → ((b : Batch) → (f b).bid ≡ b.bid) → ((b : Batch) → (f b).stage ≡ b.stage) → ((b : Batch) → (f b).pacts ≡ b.pacts) → verdict_of_pact cs n (desk.changed_batch j f bs) ≡ verdict_of_pact cs n bs
pact_kept cs n j f bs h g p = pact_map cs n _ bs (all_of _ bs (λ b. by (b.bid == j) b))
  where
    by : (q : Bool) (b : Batch) → verdict_in_batch cs n (desk.change_if q f b) (desk.change_if q f b).pacts ≡ verdict_in_batch cs n b b.pacts
    by true b = ap (verdict_in_batch cs n (f b)) (p b) ∙ in_batch_same cs n b (f b) b.pacts (h b) (g b)
    by false b = refl

pact_committing : (cs : List Cascade) (n j : ℕ) (bs : List Batch) → AreUnsettled j bs → verdict_of_pact cs n (desk.changed_batch j (desk.with_stage Committing) bs) ≡ verdict_of_pact cs n bs
pact_committing cs n j [] h = refl
pact_committing cs n j (b ∷ bs) h = by (b.bid == j) refl (pact_committing cs n j bs h.1)
  where
    by : (q : Bool) → (b.bid == j) ≡ q → verdict_of_pact cs n (desk.changed_batch j (desk.with_stage Committing) bs) ≡ verdict_of_pact cs n bs
        → verdict_of_pact cs n (desk.change_if q (desk.with_stage Committing) b ∷ desk.changed_batch j (desk.with_stage Committing) bs) ≡ verdict_of_pact cs n (b ∷ bs)
    by true e r = rw (r, in_batch_unsettled cs n b (desk.with_stage Committing b) b.pacts refl (h.0 e) refl) refl
    by false e r = rw r refl

pact_settled : (cs : List Cascade) (n j : ℕ) (bs : List Batch) → list_any (λ b. (b.bid == j) && list_any (λ p. p.tx == n) b.pacts) bs ≡ false → verdict_of_pact cs n (desk.changed_batch j (desk.with_stage Settled) bs) ≡ verdict_of_pact cs n bs
pact_settled cs n j [] h = refl
pact_settled cs n j (b ∷ bs) h =
    let o = or_parts ((b.bid == j) && list_any (λ p. p.tx == n) b.pacts) _ h in
    by (b.bid == j) o.0 (pact_settled cs n j bs o.1)
  where
    by : (q : Bool) → (q && list_any (λ p. p.tx == n) b.pacts) ≡ false → verdict_of_pact cs n (desk.changed_batch j (desk.with_stage Settled) bs) ≡ verdict_of_pact cs n bs
        → verdict_of_pact cs n (desk.change_if q (desk.with_stage Settled) b ∷ desk.changed_batch j (desk.with_stage Settled) bs) ≡ verdict_of_pact cs n (b ∷ bs)
    by true e r = rw (r, in_batch_unnamed cs n b b.pacts e, in_batch_unnamed cs n (desk.with_stage Settled b) b.pacts e) refl
    by false e r = rw r refl

pact_results : (cs : List Cascade) (n t : ℕ) (r : TxResult) (bs : List Batch) → has_pact_with (λ p. (p.tid == t) && (p.tx == n)) bs ≡ false → verdict_of_pact cs n (map (desk.with_results t r) bs) ≡ verdict_of_pact cs n bs
pact_results cs n t r [] h = refl
pact_results cs n t r (b ∷ bs) h =
    let o = or_parts (list_any (λ p. (p.tid == t) && (p.tx == n)) b.pacts) _ h in
    by b.aborted o.0 (pact_results cs n t r bs o.1)
  where
    by : (q : Bool) → list_any (λ p. (p.tid == t) && (p.tx == n)) b.pacts ≡ false → verdict_of_pact cs n (map (desk.with_results t r) bs) ≡ verdict_of_pact cs n bs
        → or_else (verdict_in_batch cs n (record b { pacts = if q then b.pacts else map (desk.with_result t r) b.pacts }) (if q then b.pacts else map (desk.with_result t r) b.pacts)) (verdict_of_pact cs n (map (desk.with_results t r) bs)) ≡ verdict_of_pact cs n (b ∷ bs)
    by true e i = rw (i, in_batch_same cs n b (record b { pacts = b.pacts }) b.pacts refl refl) refl
    by false e i = rw (i, in_batch_result cs n t r b (record b { pacts = map (desk.with_result t r) b.pacts }) b.pacts refl refl e) refl

pacts_stay : {C : Type 0} (w : Fixed C) (e : Event) (s : Machine C) (cs : List Cascade) (n : ℕ) → map (λ b. b.bid) s.desk.batches ≡ from w.text.opening.next_bid (length s.desk.batches) → IsAllowed w e s → is_abort e ≡ false → changes_verdict w e s n ≡ false
    → verdict_of_pact cs n (after w e s).desk.batches ≡ verdict_of_pact cs n s.desk.batches
unfolding after
pacts_stay w (Form j) s cs n bids ok z h = pact_append cs n _ s.desk.batches h
pacts_stay w (End t a) s cs n bids ok z h = noted_same (verdict_of_pact cs n) t (has_act t (cell_at s a).entries) (outcome_of t (cell_at s a).outbox) s.desk.batches (λ r. pact_results cs n t r s.desk.batches (or_parts (has_pact_with (λ p. (p.tid == t) && (p.tx == n)) s.desk.batches) _ h).0)
pacts_stay w (Note j a) s cs n bids ok z h = pact_kept cs n j _ s.desk.batches (λ b. refl) (λ b. refl) (λ b. refl)
pacts_stay w (Trim j a) s cs n bids ok z h = pact_kept cs n j _ s.desk.batches (λ b. refl) (λ b. refl) (λ b. refl)
pacts_stay w (Commit j) s cs n bids ok z h = pact_committing cs n j s.desk.batches (commits_unsettled w j s bids ok)
pacts_stay w (Settle j) s cs n bids ok z h = pact_settled cs n j s.desk.batches h
pacts_stay w (Abort j) s cs n bids ok z h = absurd (true≢false z)
pacts_stay w _ s cs n bids ok z h = refl

-- ---- verdicts of ACTs: whether there is one

abbrev pub told : ℕ → List Act → Bool
told n xs = is_some (verdict_of_act n xs)

act_some : (st : Status) (m k : ℕ) (r : Option TxResult) → is_some (act_verdict st m r) ≡ is_some (act_verdict st k r)
act_some Live m k r = refl
act_some (Doomed v) m k r = refl
act_some (Decided c) m k r = refl
act_some (Sealed c) m k r = ended_some _ _ r

some_if : {X : Type 0} (q : Bool) (x y v z : Option X) → is_some x ≡ is_some v → is_some y ≡ is_some z → is_some (if q then x else y) ≡ is_some (if q then v else z)
some_if true x y v z e f = e
some_if false x y v z e f = f

-- a change of the before number, the after number or the places
told_kept : (n u : ℕ) (f : Act → Act) (xs : List Act) → ((x : Act) → (f x).tx ≡ x.tx) → ((x : Act) → (f x).status ≡ x.status) → ((x : Act) → (f x).result ≡ x.result) → told n (book.changed_act u f xs) ≡ told n xs
told_kept n u f [] h g r = refl
told_kept n u f (x ∷ xs) h g r = by (x.tid == u) (told_kept n u f xs h g r)
  where
    by : (q : Bool) → told n (book.changed_act u f xs) ≡ told n xs → told n (book.change_if q f x ∷ book.changed_act u f xs) ≡ told n (x ∷ xs)
    by true i = rw (h x, g x, r x) (some_if (x.tx == n) _ _ _ _ (act_some x.status (f x).m x.m x.result) i)
    by false i = some_if (x.tx == n) _ _ _ _ refl i

told_lowered : (n k : ℕ) (tids : List ℕ) (xs : List Act) → told n (map (book.lowered k tids) xs) ≡ told n xs
told_lowered n k tids [] = refl
told_lowered n k tids (x ∷ xs) = some_if (x.tx == n) _ _ _ _ refl (told_lowered n k tids xs)

told_raised : (n : ℕ) (pairs : List Pair) (xs : List Act) → told n (raised pairs xs) ≡ told n xs
told_raised n pairs [] = refl
told_raised n pairs (x ∷ xs) = some_if (x.tx == n) _ _ _ _ (act_some x.status (max x.m (carried pairs x (raised pairs xs))) x.m x.result) (told_raised n pairs xs)

told_crossed : (n a : ℕ) (xs : List Act) → has_crossed_act n xs ≡ false → told n (doomed_by_order a xs) ≡ told n xs
told_crossed n a [] h = refl
told_crossed n a (x ∷ xs) h = let o = or_parts (is_crossed x && (x.tx == n)) (has_crossed_act n xs) h in by (is_crossed x) refl o.0 (told_crossed n a xs o.1)
  where
    by : (q : Bool) → is_crossed x ≡ q → (q && (x.tx == n)) ≡ false → told n (doomed_by_order a xs) ≡ told n xs → told n (crossed_out a x ∷ doomed_by_order a xs) ≡ told n (x ∷ xs)
    by true e f i = rw f i
    by false e f i = rw e (some_if (x.tx == n) _ _ _ _ refl i)

told_other : (n u : ℕ) (f : Act → Act) (xs : List Act) → ((x : Act) → (f x).tx ≡ x.tx) → names_act u n xs ≡ false → told n (book.changed_act u f xs) ≡ told n xs
told_other n u f [] h k = refl
told_other n u f (x ∷ xs) h k = let o = or_parts ((x.tid == u) && (x.tx == n)) (names_act u n xs) k in by (x.tid == u) o.0 (told_other n u f xs h o.1)
  where
    by : (q : Bool) → (q && (x.tx == n)) ≡ false → told n (book.changed_act u f xs) ≡ told n xs → told n (book.change_if q f x ∷ book.changed_act u f xs) ≡ told n (x ∷ xs)
    by true e i = rw (h x, e) i
    by false e i = some_if (x.tx == n) _ _ _ _ refl i

told_append : (n : ℕ) (new : Act) (xs : List Act) → (new.tx == n) ≡ false → told n (xs ++ new ∷ []) ≡ told n xs
told_append n new [] h = rw h refl
told_append n new (x ∷ xs) h = some_if (x.tx == n) _ _ _ _ refl (told_append n new xs h)

told_asked : (n : ℕ) (o : Option ℕ) (group : List Lock) (u a m : ℕ) (b : Book) → asked_verdict o group u a m b n ≡ false → told n (book.asked_acts o group u a m b) ≡ told n b.acts
told_asked n (Some older) group u a m b h = told_other n u _ b.acts (λ x. refl) h
told_asked n None group u a m b h = told_crossed n a _ h ∙ (told_raised n _ _ ∙ told_kept n u (book.joins a _) b.acts (λ x. refl) (λ x. refl) (λ x. refl))

told_ended : {C : Type 0} (n u : ℕ) (own : Bool) (o : Option (Outcome C)) (xs : List Act) → names_act u n xs ≡ false → told n (if own then book.noted_from u o xs else xs) ≡ told n xs
told_ended n u false o xs h = refl
told_ended n u true None xs h = refl
told_ended {C} n u true (Some x) xs h = by x.next
  where
    by : (e : Next C) → told n (book.noted_for u e xs) ≡ told n xs
    by (Go b control) = refl
    by (Ended r) = told_other n u (book.with_result r) xs (λ x. refl) h

acts_stay : {C : Type 0} (w : Fixed C) (e : Event) (s : Machine C) (n : ℕ) → is_abort e ≡ false → changes_verdict w e s n ≡ false → told n (after w e s).book.acts ≡ told n s.book.acts
unfolding after
acts_stay w (Admit u) s n z h = told_append n _ s.book.acts h
acts_stay w (Arrive k a) s n z h = told_crossed n a _ h ∙ told_lowered n k _ s.book.acts
acts_stay w (Ask u a) s n z h = told_asked n _ _ u a _ s.book h
acts_stay w (End u a) s n z h = told_ended n u (has_act u (cell_at s a).entries) (outcome_of u (cell_at s a).outbox) s.book.acts (or_parts (has_pact_with (λ p. (p.tid == u) && (p.tx == n)) s.desk.batches) _ h).1
acts_stay w (Prepare u a) s n z h = told_kept n u (book.marked a book.is_prepared) s.book.acts (λ x. refl) (λ x. refl) (λ x. refl)
acts_stay w (Vouch u a) s n z h = told_kept n u (book.marked a book.is_vouched) s.book.acts (λ x. refl) (λ x. refl) (λ x. refl)
acts_stay w (Finish u a) s n z h = told_kept n u (book.marked a book.has_left) s.book.acts (λ x. refl) (λ x. refl) (λ x. refl)
acts_stay w (Decide u) s n z h = told_other n u _ s.book.acts (λ x. refl) h
acts_stay w (Seal u) s n z h = told_other n u _ s.book.acts (λ x. refl) h
acts_stay w (Abort j) s n z h = absurd (true≢false z)
acts_stay w _ s n z h = refl

-- ---- verdicts

either_some : {X : Type 0} (x y v : Option X) → is_some y ≡ is_some v → is_some (or_else x y) ≡ is_some (or_else x v)
either_some None y v h = h
either_some (Some x) y v h = refl

pub verdict_stays : {C : Type 0} (w : Fixed C) (e : Event) (s : Machine C) (n : ℕ) → map (λ b. b.bid) s.desk.batches ≡ from w.text.opening.next_bid (length s.desk.batches) → IsAllowed w e s → is_abort e ≡ false → changes_verdict w e s n ≡ false
    → is_some (verdict n (after w e s).book (after w e s).desk) ≡ is_some (verdict n s.book s.desk)
verdict_stays w e s n bids ok z h =
    ap (λ cs. is_some (or_else (verdict_of_pact cs n (after w e s).desk.batches) (verdict_of_act n (after w e s).book.acts))) (cascades_stay w e s z)
    ∙ (ap (λ v. is_some (or_else v (verdict_of_act n (after w e s).book.acts))) (pacts_stay w e s s.book.cascades n bids ok z h)
    ∙ either_some (verdict_of_pact s.book.cascades n s.desk.batches) _ _ (acts_stay w e s n z h))
