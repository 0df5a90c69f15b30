-- What commits after an Abort does not count for it; and who is past, or has committed, stays so.
use Rattle.std.specs.Prelude.{◌≡◌, refl, ℕ, ◌≤◌, ◌==◌, nat_lt, not, Bool, true, false, ◌&&◌, if◌then◌else◌, Option, Some, None, List, [], ◌∷◌, ◌++◌, map, filter}
use Rattle.std.specs.List.{AllByRecursion, list_any}
use Rattle.std.proofs.Common.{arith, sym, ap, inl, inr, ◌∙◌}
use Rattle.std.proofs.lemmas.Bool.{true≢false, eqb-true, eq-eqb, and_parts, and_right, or_left, or_right, or_from, or_cases, le-ltb, cases_lt, not-true}
use Rattle.protocol.specs.Fixed.{Fixed}
use Rattle.protocol.specs.Parts.{Act, Pact, Batch, Cascade, Who, Stage, Formed, Committing, Settled, Machine}
use Rattle.protocol.specs.Events.{Event, Commit, Abort, Decide}
use Rattle.protocol.specs.Words.{holds, is_value, is_formed, is_settled, is_open, is_next_to_commit, batch_of, act_of}
use Rattle.protocol.specs.Conditions.{IsAllowed, conditions}
use Rattle.protocol.specs.Effects.{after}
use Rattle.protocol.specs.Runs.{state_after, EachAllowed}
use Rattle.protocol.specs.History.{History, history_after, grown, done_pact, done_batch, done_act}
use Rattle.protocol.specs.Chains.{counts}
use Rattle.protocol.specs.History.{Done}
use Rattle.protocol_laws.specs.Commits.{is_kept}
use Rattle.protocol_laws.proofs.first.Lists.{filter_join, join_nil}
use Rattle.protocol_laws.proofs.first.SettlingKept as settling
use Rattle.protocol_laws.proofs.first.SettlingKeys as keys
use Rattle.protocol_laws.proofs.machine.ShowsKept.{kept_join}
use Rattle.told_codes.proofs.WritersPast.{is_past, past_stays}

-- ---- the Abort of k is past, and so are the numbers below c

has_first : ℕ → List Cascade → Bool
has_first k cs = list_any (λ x. x.first == k) cs

record IsAborted {C : Type 0} (k c : ℕ) (s : Machine C) : Type 0 where
  cascade : has_first k s.book.cascades ≡ true
  number : c ≤ s.book.next_c

first_more : (k : ℕ) (x : Cascade) (cs : List Cascade) → has_first k cs ≡ true → has_first k (cs ++ x ∷ []) ≡ true
unfolding has_first
first_more k x [] e = absurd (true≢false (sym e))
first_more k x (y ∷ ys) e = elim (or_cases (y.first == k) (list_any (λ x. x.first == k) ys) e) [ inl q ↦ or_left (y.first == k) _ q | inr q ↦ or_right (y.first == k) _ (first_more k x ys q) ]

first_new : (x : Cascade) (cs : List Cascade) → has_first x.first (cs ++ x ∷ []) ≡ true
unfolding has_first
first_new x [] = or_left (x.first == x.first) false (eq-eqb x.first x.first refl)
first_new x (y ∷ ys) = or_right (y.first == x.first) _ (first_new x ys)

aborted_stays : {C : Type 0} (w : Fixed C) (e : Event) (s : Machine C) (k c : ℕ) → IsAborted k c s → IsAborted k c (after w e s)
unfolding after
aborted_stays w (Abort j) s k c g = record { cascade = first_more k _ s.book.cascades g.cascade; number = g.number }
aborted_stays w (Decide t) s k c g = record { cascade = g.cascade; number = omega (arith, g.number) }
aborted_stays w e s k c g = record { cascade = g.cascade; number = g.number }

aborted_now : {C : Type 0} (w : Fixed C) (s : Machine C) (k c : ℕ) → s.book.next_c ≡ c → IsAborted k c (after w (Abort k) s)
unfolding after
aborted_now w s k c e = record { cascade = first_new _ s.book.cascades; number = omega (arith, e) }

-- who stands below a cascade does not commit
none_below : (k : ℕ) (y : keys.Key) (xs : List keys.Key) (cs : List Cascade) → has_first k cs ≡ true → AllByRecursion (λ c. keys.OverBelow c.first xs) cs → keys.IsIn y xs → keys.is_over y ≡ false → k ≤ y.bid
unfolding has_first keys.OverBelow
none_below k y xs [] e h i o = absurd (true≢false (sym e))
none_below k y xs (c ∷ cs) e h i o = elim (or_cases (c.first == k) (list_any (λ x. x.first == k) cs) e) [
  | inl q ↦ elim (cases_lt y.bid k) [ inl l ↦ absurd (true≢false (sym (h.0 y i (omega (arith, l, eqb-true c.first k q))) ∙ o)) | inr l ↦ l ]
  | inr q ↦ none_below k y xs cs q h.1 i o
]

-- ---- what commits then does not count

pacts_out : (k c j : ℕ) (h : History) (ps : List Pact) → k ≤ j → filter (counts k c) (map (done_pact j h) ps) ≡ []
pacts_out k c j h [] l = refl
pacts_out k c j h (p ∷ ps) l = ap (λ b. if b then done_pact j h p ∷ filter (counts k c) (map (done_pact j h) ps) else filter (counts k c) (map (done_pact j h) ps)) (and_right (is_value p.result) (nat_lt j k) (le-ltb j k l)) ∙ pacts_out k c j h ps l

batch_out : {C : Type 0} (w : Fixed C) (k c j : ℕ) (s : Machine C) (h : History) → settling.Settling w s → IsAborted k c s → (o : Option Batch) → batch_of j s.desk.batches ≡ o → holds (λ b. is_open b && is_next_to_commit j s.desk.batches) o ≡ true → filter (counts k c) (done_batch j h o) ≡ []
unfolding settling.Settling
batch_out w k c j s h g p None e q = refl
batch_out w k c j s h g p (Some b) e q =
    let o = and_parts (is_formed b.stage) (not b.aborted) (and_parts (is_open b) (is_next_to_commit j s.desk.batches) q).0 in
    let i = settling.in_keys b (λ z. z.bid == j) s.desk.batches e in
    let l = none_below k (settling.key_of b) (map settling.key_of s.desk.batches) s.book.cascades p.cascade g.below_cascades i.0 (or_from b.aborted _ (not-true b.aborted o.1) (not_settled b.stage o.0)) in
    pacts_out k c j h b.pacts (omega (arith, l, eqb-true b.bid j i.1))
  where
    not_settled : (st : Stage) → is_formed st ≡ true → is_settled st ≡ false
    not_settled Formed e = refl
    not_settled Committing e = refl
    not_settled Settled e = absurd (true≢false (sym e))

act_out : (k c n : ℕ) (h : History) (o : Option Act) → c ≤ n → filter (counts k c) (done_act n h o) ≡ []
act_out k c n h None l = refl
act_out k c n h (Some x) l = rw (and_right (is_value x.result) (nat_lt n c) (le-ltb n c l)) refl

none_more : (p : Done → Bool) (xs ys : List Done) → filter p ys ≡ [] → filter p (xs ++ ys) ≡ filter p xs
none_more p xs ys e = filter_join p xs ys ∙ (ap (λ z. filter p xs ++ z) e ∙ join_nil (filter p xs))

one_out : {C : Type 0} (w : Fixed C) (k c : ℕ) (e : Event) (s : Machine C) (h : History) → IsAllowed w e s → settling.Settling w s → IsAborted k c s → filter (counts k c) (grown w e s h).committed ≡ filter (counts k c) h.committed
unfolding grown conditions
one_out w k c (Commit j) s h ok g p = none_more (counts k c) h.committed (done_batch j h (batch_of j s.desk.batches)) (batch_out w k c j s h g p (batch_of j s.desk.batches) refl ok.0)
one_out w k c (Decide t) s h ok g p = none_more (counts k c) h.committed (done_act s.book.next_c h (act_of t s.book.acts)) (act_out k c s.book.next_c h (act_of t s.book.acts) p.number)
one_out w k c e s h ok g p = refl

later_out : {C : Type 0} (w : Fixed C) (k c : ℕ) (es : List Event) (s : Machine C) (h : History) → EachAllowed w es s → settling.Settling w s → IsAborted k c s → filter (counts k c) (history_after w es s h).committed ≡ filter (counts k c) h.committed
later_out w k c [] s h run g p = refl
later_out w k c (e ∷ es) s h run g p = later_out w k c es (after w e s) (grown w e s h) run.1 (settling.kept w e s run.0 g) (aborted_stays w e s k c p) ∙ one_out w k c e s h run.0 g p

abort_grows : {C : Type 0} (w : Fixed C) (k : ℕ) (s : Machine C) (h : History) → (grown w (Abort k) s h).committed ≡ h.committed
unfolding grown
abort_grows w k s h = refl

-- ---- who is past, or has committed, stays so

past_along : {C : Type 0} (w : Fixed C) (es : List Event) (s : Machine C) (y : Who) → EachAllowed w es s → settling.Settling w s → is_past s y ≡ true → is_past (state_after w es s) y ≡ true
past_along w [] s y run g q = q
past_along w (e ∷ es) s y run g q = past_along w es (after w e s) y run.1 (settling.kept w e s run.0 g) (past_stays w e s y run.0 g q)

kept_grows : {C : Type 0} (w : Fixed C) (e : Event) (s : Machine C) (h : History) (y : Who) → is_kept y h.kept ≡ true → is_kept y (grown w e s h).kept ≡ true
unfolding grown
kept_grows w (Commit k) s h y q = kept_join y h.kept _ q
kept_grows w (Decide t) s h y q = kept_join y h.kept _ q
kept_grows w e s h y q = q

kept_along : {C : Type 0} (w : Fixed C) (es : List Event) (s : Machine C) (h : History) (y : Who) → is_kept y h.kept ≡ true → is_kept y (history_after w es s h).kept ≡ true
kept_along w [] s h y q = q
kept_along w (e ∷ es) s h y q = kept_along w es (after w e s) (grown w e s h) y (kept_grows w e s h y q)

-- ---- behind an Abort

-- What is the same at the end of a run as it was where an Abort of k comes, as number c of the commits of ACTs would have been.
pub record StaysBehind {C : Type 0} (k c : ℕ) (early : Machine C) (h : History) (late : Machine C) (g : History) : Type 0 where
  pub count : filter (counts k c) g.committed ≡ filter (counts k c) h.committed
  pub past : (y : Who) → is_past early y ≡ true → is_past late y ≡ true
  pub kept : (y : Who) → is_kept y h.kept ≡ true → is_kept y g.kept ≡ true

pub stays_behind : {C : Type 0} (w : Fixed C) (k c : ℕ) (front later : List Event) (s : Machine C) (h : History) → EachAllowed w (front ++ Abort k ∷ later) s → settling.Settling w s → (state_after w front s).book.next_c ≡ c
    → StaysBehind k c (state_after w front s) (history_after w front s h) (state_after w (front ++ Abort k ∷ later) s) (history_after w (front ++ Abort k ∷ later) s h)
stays_behind w k c [] later s h run g e = record {
  count = later_out w k c later (after w (Abort k) s) (grown w (Abort k) s h) run.1 (settling.kept w (Abort k) s run.0 g) (aborted_now w s k c e) ∙ ap (filter (counts k c)) (abort_grows w k s h);
  past = λ y q. past_along w (Abort k ∷ later) s y run g q;
  kept = λ y q. kept_along w (Abort k ∷ later) s h y q;
}
stays_behind w k c (f ∷ front) later s h run g e = stays_behind w k c front later (after w f s) (grown w f s h) run.1 (settling.kept w f s run.0 g) e
