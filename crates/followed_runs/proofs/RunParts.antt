-- Of what is read of several runs, the part of the first one: a reading of that run; and whose numbers tell of which run it is.
use Rattle.std.specs.Prelude.{◌≡◌, refl, ℕ, zero, suc, ◌+◌, ◌≤◌, ◌%◌, ◌==◌, Bool, true, if◌then◌else◌, ◌⊎◌, Some, None, List, [], ◌∷◌, ◌++◌, length, take, replicate, slice_index_or}
use Rattle.std.specs.List.{AllByRecursion, list_any}
use Rattle.std.proofs.Common.{arith, sym, ap, subst, inl, inr, ◌∙◌}
use Rattle.std.proofs.lemmas.List.{append-nil}
use Rattle.std.proofs.lemmas.Bool.{true≢false}
use Rattle.snap_base.specs.declared.transactions.Tx.{Tx}
use Rattle.snap_base.specs.declared.transactions.State.{State}
use Rattle.protocol.specs.Fixed.{Opening, Fixed}
use Rattle.protocol.specs.Records.{LogRecord, is_commit, is_act_commit}
use Rattle.protocol.specs.Parts.{Who, OfBatch, OfAct}
use Rattle.protocol.specs.Events.{Event}
use Rattle.protocol.specs.Effects.{log_at, no_log}
use Rattle.protocol.specs.Runs.{IsRun, reached}
use Rattle.protocol.specs.Rests.{IsRest, IsTxIn}
use Rattle.protocol.specs.History.{history}
use Rattle.protocol.specs.Moments.{IsCut, left_in}
use Rattle.protocol_records.specs.Logged.{WrittenHaveValues}
use Rattle.protocol_records.specs.Telling.{told_states, names}
use Rattle.protocol_records.specs.Crash.{is_in}
use Rattle.protocol_records.specs.SeveralRuns.{CutRun, MayBe, GoOn, logs_left, opening_left, recovered_from}
use Rattle.followed_runs.specs.Following.{ChangedAhead, Reading, what_is_read, IsLater}
use Rattle.followed_runs.specs.FollowingRuns.{Where, nothing, head_at, tail_at, read_at, IsNoEarlier, IsStill, RunsReading, head_read, tail_read, runs_read, IsLaterRead}
use Rattle.protocol.specs.Words.{is_who}
use Rattle.protocol_laws.proofs.first.Lists.{any_front, any_join, join_assoc}
use Rattle.protocol_laws.proofs.machine.Good.{Given}
use Rattle.protocol_records.proofs.crash.CrashImplied.{front_runs, moment_is_cut}
use Rattle.protocol_records.proofs.crash.Durable.{any_back}
use Rattle.protocol_records.proofs.crash.TellsKept.{told_join}
use Rattle.followed_runs.proofs.OneCommits.{in_either}
use Rattle.followed_runs.proofs.Numbers.{IsLow, IsHigh, low_committed, low_named, high_in, high_named}
use Rattle.followed_runs.proofs.Seen.{Seen, NoLess, seen_stays, is_less, at_log, seen_at, seen_now, Listed, of_reading, in_more, take_within, log_grew}
use Rattle.followed_runs.proofs.InOrder.{in_order}
use Rattle.followed_runs.proofs.SeenChanged.{told_in_cut}
use Rattle.protocol_records.proofs.crash.RecoversKept.{first_of}

-- ---- a run

pub record Sound {C : Type 0} (x : CutRun C) : Type 0 where
  pub may : MayBe x
  pub actors : 1 ≤ length x.fixed.text.opening.states

abbrev pub Of : {C : Type 0} → CutRun C → Tx → C → Type 0
Of x = IsRest x.fixed.code (IsTxIn x.fixed.text)

pub given : {C : Type 0} (x : CutRun C) → Sound x → Given x.fixed (Of x) x.finish
given x s = record { text = s.may.text; actors = s.actors; facts = s.may.facts }

pub run_of : {C : Type 0} (x : CutRun C) → Sound x → IsRun x.fixed x.moment.events
run_of x s = front_runs x.fixed x.moment.events x.moment.later (subst (IsRun x.fixed) x.moment.splits s.may.run)

pub cut_of : {C : Type 0} (x : CutRun C) → Sound x → IsCut (reached x.fixed x.moment.events) x.kept
cut_of x s = moment_is_cut x.fixed x.events x.moment x.kept s.may.run s.may.left

-- ---- the part of the first run as a reading of it

no_synced : (n l : ℕ) → (slice_index_or (replicate n no_log) l no_log).synced ≡ 0
no_synced zero l = refl
no_synced (suc n) zero = refl
no_synced (suc n) (suc l) = no_synced n l

abbrev pub events_of : {C : Type 0} (x : CutRun C) (xs : List (CutRun C)) (l : ℕ) → Where (x ∷ xs) l → List Event
events_of x xs l None = []
events_of x xs l (Some (inl s)) = s.events
events_of x xs l (Some (inr p)) = x.moment.events

abbrev later_of : {C : Type 0} (x : CutRun C) (xs : List (CutRun C)) (l : ℕ) → Where (x ∷ xs) l → List Event
later_of x xs l None = x.moment.events
later_of x xs l (Some (inl s)) = s.later
later_of x xs l (Some (inr p)) = []

abbrev pub count_of : {C : Type 0} (x : CutRun C) (xs : List (CutRun C)) (l : ℕ) → Where (x ∷ xs) l → ℕ
count_of x xs l None = 0
count_of x xs l (Some (inl s)) = s.count
count_of x xs l (Some (inr p)) = x.kept l

splits_of : {C : Type 0} (x : CutRun C) (xs : List (CutRun C)) (l : ℕ) (p : Where (x ∷ xs) l) → x.moment.events ≡ events_of x xs l p ++ later_of x xs l p
splits_of x xs l None = refl
splits_of x xs l (Some (inl s)) = s.splits
splits_of x xs l (Some (inr p)) = sym (append-nil x.moment.events)

synced_of : {C : Type 0} (x : CutRun C) (xs : List (CutRun C)) (l : ℕ) (p : Where (x ∷ xs) l) → Sound x → (log_at (reached x.fixed (events_of x xs l p)) l).synced ≤ count_of x xs l p
synced_of x xs l None s = omega (arith, no_synced x.fixed.text.logs l)
synced_of x xs l (Some (inl p)) s = p.all_synced
synced_of x xs l (Some (inr p)) s = (cut_of x s).all_synced l

more_of : {C : Type 0} (x : CutRun C) (xs : List (CutRun C)) (l : ℕ) (p : Where (x ∷ xs) l) → Sound x → count_of x xs l p ≤ length (log_at (reached x.fixed (events_of x xs l p)) l).records
more_of x xs l None s = omega arith
more_of x xs l (Some (inl p)) s = p.no_more
more_of x xs l (Some (inr p)) s = (cut_of x s).no_more l

head_reading : {C : Type 0} (x : CutRun C) (xs : List (CutRun C)) → Sound x → RunsReading (x ∷ xs) → Reading x.fixed x.moment.events
head_reading x xs s r = record {
  events = λ l. events_of x xs l (r l);
  later = λ l. later_of x xs l (r l);
  splits = λ l. splits_of x xs l (r l);
  count = λ l. count_of x xs l (r l);
  all_synced = λ l. synced_of x xs l (r l) s;
  no_more = λ l. more_of x xs l (r l) s;
}

head_same : {C : Type 0} (x : CutRun C) (xs : List (CutRun C)) (l : ℕ) (p : Where (x ∷ xs) l) → take (count_of x xs l p) (log_at (reached x.fixed (events_of x xs l p)) l).records ≡ head_at x xs l p
head_same x xs l None = refl
head_same x xs l (Some (inl s)) = refl
head_same x xs l (Some (inr p)) = refl

reads_head : {C : Type 0} (x : CutRun C) (xs : List (CutRun C)) (s : Sound x) (r : RunsReading (x ∷ xs)) (l : ℕ) → what_is_read (head_reading x xs s r) l ≡ head_read x xs r l
unfolding head_reading
reads_head x xs s r l = head_same x xs l (r l)

later_head : {C : Type 0} (x : CutRun C) (xs : List (CutRun C)) (s : Sound x) (r q : RunsReading (x ∷ xs)) → IsLaterRead (x ∷ xs) r q → IsLater (head_reading x xs s r) (head_reading x xs s q)
unfolding head_reading
later_head x xs s r q h = record { moments = λ l i. moments l i (r l) (q i) (h.moments l i); still = λ l. still l (r l) (q l) (h.still l) }
  where
    moments : (l i : ℕ) (p : Where (x ∷ xs) l) (t : Where (x ∷ xs) i) → IsNoEarlier (x ∷ xs) l i p t → (more : List Event) × (events_of x xs i t ≡ events_of x xs l p ++ more)
    moments l i None t h = (events_of x xs i t, refl)
    moments l i (Some (inl p)) None h = absurd h
    moments l i (Some (inr p)) None h = absurd h
    moments l i (Some (inl p)) (Some (inl t)) h = h
    moments l i (Some (inl p)) (Some (inr t)) h = (p.later, p.splits)
    moments l i (Some (inr p)) (Some (inl t)) h = absurd h
    moments l i (Some (inr p)) (Some (inr t)) h = ([], sym (append-nil x.moment.events))

    still : (l : ℕ) (p t : Where (x ∷ xs) l) → IsStill (x ∷ xs) l p t → count_of x xs l p ≤ count_of x xs l t
    still l None t h = omega arith
    still l (Some (inl p)) None h = absurd h
    still l (Some (inr p)) None h = absurd h
    still l (Some (inl p)) (Some (inl t)) h = h
    still l (Some (inl p)) (Some (inr t)) h = p.stays
    still l (Some (inr p)) (Some (inl t)) h = absurd h
    still l (Some (inr p)) (Some (inr t)) h = omega arith

-- ---- the others

nothing_first : {C : Type 0} (xs : List (CutRun C)) (l i : ℕ) (p : Where xs i) → IsNoEarlier xs l i (nothing xs l) p
nothing_first [] l i p = tt
nothing_first (x ∷ xs) l i p = tt

nothing_still : {C : Type 0} (xs : List (CutRun C)) (l : ℕ) (p : Where xs l) → IsStill xs l (nothing xs l) p
nothing_still [] l p = tt
nothing_still (x ∷ xs) l p = tt

pub later_nothing : {C : Type 0} (xs : List (CutRun C)) (q : RunsReading xs) → IsLaterRead xs (λ l. nothing xs l) q
later_nothing xs q = record { moments = λ l i. nothing_first xs l i (q i); still = λ l. nothing_still xs l (q l) }

pub later_tail : {C : Type 0} (x : CutRun C) (xs : List (CutRun C)) (r q : RunsReading (x ∷ xs)) → IsLaterRead (x ∷ xs) r q → IsLaterRead xs (tail_read x xs r) (tail_read x xs q)
later_tail x xs r q h = record { moments = λ l i. moments l i (r l) (q i) (h.moments l i); still = λ l. still l (r l) (q l) (h.still l) }
  where
    moments : (l i : ℕ) (p : Where (x ∷ xs) l) (t : Where (x ∷ xs) i) → IsNoEarlier (x ∷ xs) l i p t → IsNoEarlier xs l i (tail_at x xs l p) (tail_at x xs i t)
    moments l i None t h = nothing_first xs l i (tail_at x xs i t)
    moments l i (Some (inl p)) t h = nothing_first xs l i (tail_at x xs i t)
    moments l i (Some (inr p)) None h = absurd h
    moments l i (Some (inr p)) (Some (inl t)) h = absurd h
    moments l i (Some (inr p)) (Some (inr t)) h = h

    still : (l : ℕ) (p t : Where (x ∷ xs) l) → IsStill (x ∷ xs) l p t → IsStill xs l (tail_at x xs l p) (tail_at x xs l t)
    still l None t h = nothing_still xs l (tail_at x xs l t)
    still l (Some (inl p)) t h = nothing_still xs l (tail_at x xs l t)
    still l (Some (inr p)) None h = absurd h
    still l (Some (inr p)) (Some (inl t)) h = absurd h
    still l (Some (inr p)) (Some (inr t)) h = h

pub nothing_at : {C : Type 0} (xs : List (CutRun C)) (l : ℕ) → read_at xs l (nothing xs l) ≡ []
nothing_at [] l = refl
nothing_at (x ∷ xs) l = nothing_at xs l

-- ---- what holds of the part of the first run

same_less : (before now : ℕ → List LogRecord) → ((l : ℕ) → before l ≡ now l) → NoLess before now
unfolding NoLess
same_less before now e = λ l. ([], sym (e l) ∙ sym (append-nil (before l)))

pub less_trans : (xs ys zs : ℕ → List LogRecord) → NoLess xs ys → NoLess ys zs → NoLess xs zs
unfolding NoLess
less_trans xs ys zs n m = λ l. let a = n l in let b = m l in (a.0 ++ b.0, b.1 ∙ (ap (λ z. z ++ b.0) a.1 ∙ join_assoc (xs l) a.0 b.0))

back_less : (before now : ℕ → List LogRecord) → ((l : ℕ) → before l ≡ now l) → NoLess now before
unfolding NoLess
back_less before now e = λ l. ([], e l ∙ sym (append-nil (now l)))

pub head_listed : {C : Type 0} (x : CutRun C) (xs : List (CutRun C)) (s : Sound x) (r : RunsReading (x ∷ xs)) → Listed x.fixed (Of x) x.finish x.moment.events (head_read x xs r)
head_listed x xs s r =
    let o = of_reading x.fixed (Of x) x.finish x.moment.events (head_reading x xs s r) (given x s) (run_of x s) in
    record { given = o.given; run = o.run; rest = λ l. ((o.rest l).0, (o.rest l).1 ∙ ap (λ z. z ++ (o.rest l).0) (reads_head x xs s r l)) }

pub head_less : {C : Type 0} (x : CutRun C) (xs : List (CutRun C)) (s : Sound x) (r q : RunsReading (x ∷ xs)) → IsLaterRead (x ∷ xs) r q → NoLess (head_read x xs r) (head_read x xs q)
unfolding NoLess
head_less x xs s r q h =
    less_trans (head_read x xs r) (what_is_read (head_reading x xs s r)) (head_read x xs q) (back_less (what_is_read (head_reading x xs s r)) (head_read x xs r) (reads_head x xs s r))
    (less_trans (what_is_read (head_reading x xs s r)) (what_is_read (head_reading x xs s q)) (head_read x xs q)
    (λ l. is_less x.fixed x.moment.events (head_reading x xs s r) (head_reading x xs s q) (run_of x s) (later_head x xs s r q h) l)
    (same_less (what_is_read (head_reading x xs s q)) (head_read x xs q) (reads_head x xs s q)))

pub head_sees : {C : Type 0} (x : CutRun C) (xs : List (CutRun C)) (s : Sound x) (r q : RunsReading (x ∷ xs)) → IsLaterRead (x ∷ xs) r q → (y : Who) → is_in x.fixed.text.logs (head_read x xs r) y ≡ true → Seen x.fixed x.moment.events (head_read x xs q) y
head_sees x xs s r q h y e =
    seen_stays x.fixed x.moment.events (what_is_read (head_reading x xs s q)) (head_read x xs q) y (same_less (what_is_read (head_reading x xs s q)) (head_read x xs q) (reads_head x xs s q))
    (seen_now x.fixed x.moment.events (head_reading x xs s r) (head_reading x xs s q) y (run_of x s) (later_head x xs s r q h)
    (in_more x.fixed.text.logs (head_read x xs r) (what_is_read (head_reading x xs s r)) y (back_less (what_is_read (head_reading x xs s r)) (head_read x xs r) (reads_head x xs s r)) e))

-- the cut of the first run at the moment at which one log was read: there what was read, and of the others what is synced
abbrev pub head_cut : {C : Type 0} (x : CutRun C) (xs : List (CutRun C)) (n : ℕ) → Where (x ∷ xs) n → ℕ → ℕ
head_cut x xs n p l = if l == n then count_of x xs n p else (log_at (reached x.fixed (events_of x xs n p)) l).synced

abbrev pub head_left_in : {C : Type 0} (x : CutRun C) (xs : List (CutRun C)) (n : ℕ) → Where (x ∷ xs) n → ℕ → List LogRecord
head_left_in x xs n p = left_in (reached x.fixed (events_of x xs n p)) (head_cut x xs n p)

-- who is in that cut is seen in what is read later
pub cut_seen : {C : Type 0} (x : CutRun C) (xs : List (CutRun C)) (s : Sound x) (r q : RunsReading (x ∷ xs)) (n : ℕ) (y : Who) → IsLaterRead (x ∷ xs) r q → is_in x.fixed.text.logs (head_left_in x xs n (r n)) y ≡ true → Seen x.fixed x.moment.events (head_read x xs q) y
unfolding head_reading at_log
cut_seen x xs s r q n y h e =
    seen_stays x.fixed x.moment.events (what_is_read (head_reading x xs s q)) (head_read x xs q) y (same_less (what_is_read (head_reading x xs s q)) (head_read x xs q) (reads_head x xs s q))
    (seen_at x.fixed x.moment.events (head_reading x xs s r) (head_reading x xs s q) n y (run_of x s) (later_head x xs s r q h) e)

-- Whose commit record is read later, and changed an actor ahead of who is in that cut, is in that cut.
pub told_in_head : {C : Type 0} (x : CutRun C) (xs : List (CutRun C)) (s : Sound x) (r q : RunsReading (x ∷ xs)) (n a : ℕ) (y z : Who) → IsLaterRead (x ∷ xs) r q → is_in x.fixed.text.logs (head_left_in x xs n (r n)) y ≡ true
    → is_in x.fixed.text.logs (head_read x xs q) z ≡ true → ChangedAhead (is_in x.fixed.text.logs (head_read x xs q)) (first_of x.fixed a) z y (told_states a (head_read x xs q (a % x.fixed.text.logs))) → is_in x.fixed.text.logs (head_left_in x xs n (r n)) z ≡ true
unfolding cut_seen seen_stays seen_at head_reading at_log
told_in_head x xs s r q n a y z h e i c = told_in_cut x.fixed (Of x) x.finish x.moment.events (head_read x xs q) a y z (head_listed x xs s q) (cut_seen x xs s r q n y h e) i c

-- no more than the run left
pub head_left : {C : Type 0} (x : CutRun C) (xs : List (CutRun C)) (s : Sound x) (r : RunsReading (x ∷ xs)) → NoLess (head_read x xs r) (logs_left x)
unfolding NoLess
head_left x xs s r = λ l. by l (r l)
  where
    by : (l : ℕ) (p : Where (x ∷ xs) l) → (more : List LogRecord) × (logs_left x l ≡ head_at x xs l p ++ more)
    by l None = (logs_left x l, refl)
    by l (Some (inl p)) =
        let g = log_grew x.fixed p.events p.later x.moment.events l p.splits (run_of x s) in
        let t = take_within p.count (x.kept l) (log_at (reached x.fixed p.events) l).records g.records.more p.stays p.no_more in
        (t.0, ap (take (x.kept l)) g.records.is ∙ t.1)
    by l (Some (inr p)) = ([], sym (append-nil (logs_left x l)))

-- where one of a later run is read, the first one is over
pub is_over : {C : Type 0} (x : CutRun C) (xs : List (CutRun C)) (many : ℕ) (r q : RunsReading (x ∷ xs)) (y : Who) → IsLaterRead (x ∷ xs) r q → is_in many (runs_read xs (tail_read x xs r)) y ≡ true → (i : ℕ) → head_read x xs q i ≡ logs_left x i
is_over {C} x xs many r q y h e i = at y e
  where
    behind : (l : ℕ) (test : LogRecord → Bool) (p : Where (x ∷ xs) l) (t : Where (x ∷ xs) i) → list_any test (read_at xs l (tail_at x xs l p)) ≡ true → IsNoEarlier (x ∷ xs) l i p t → head_at x xs i t ≡ logs_left x i
    behind l test None t e n = absurd (true≢false (sym e ∙ ap (list_any test) (nothing_at xs l)))
    behind l test (Some (inl p)) t e n = absurd (true≢false (sym e ∙ ap (list_any test) (nothing_at xs l)))
    behind l test (Some (inr p)) None e n = absurd n
    behind l test (Some (inr p)) (Some (inl t)) e n = absurd n
    behind l test (Some (inr p)) (Some (inr t)) e n = refl

    at : (y : Who) → is_in many (runs_read xs (tail_read x xs r)) y ≡ true → head_read x xs q i ≡ logs_left x i
    at (OfBatch k) e = behind (k % many) (is_commit k) (r (k % many)) (q i) e (h.moments (k % many) i)
    at (OfAct t) e = behind (t % many) (is_act_commit t) (r (t % many)) (q i) e (h.moments (t % many) i)

-- ---- in one part or the other

pub in_cases : (many : ℕ) (xs1 bs : ℕ → List LogRecord) (y : Who) → is_in many (λ l. xs1 l ++ bs l) y ≡ true → (is_in many xs1 y ≡ true) ⊎ (is_in many bs y ≡ true)
in_cases many xs1 bs (OfBatch k) h = any_join (is_commit k) (xs1 (k % many)) (bs (k % many)) h
in_cases many xs1 bs (OfAct t) h = any_join (is_act_commit t) (xs1 (t % many)) (bs (t % many)) h

pub in_left : (many : ℕ) (xs1 bs : ℕ → List LogRecord) (y : Who) → is_in many xs1 y ≡ true → is_in many (λ l. xs1 l ++ bs l) y ≡ true
in_left many xs1 bs (OfBatch k) h = any_front (is_commit k) (xs1 (k % many)) (bs (k % many)) h
in_left many xs1 bs (OfAct t) h = any_front (is_act_commit t) (xs1 (t % many)) (bs (t % many)) h

pub in_right : (many : ℕ) (xs1 bs : ℕ → List LogRecord) (y : Who) → is_in many bs y ≡ true → is_in many (λ l. xs1 l ++ bs l) y ≡ true
in_right many xs1 bs (OfBatch k) h = any_back (is_commit k) (xs1 (k % many)) (bs (k % many)) h
in_right many xs1 bs (OfAct t) h = any_back (is_act_commit t) (xs1 (t % many)) (bs (t % many)) h

pub named_cases : (a : ℕ) (y : Who) (xs1 bs : List LogRecord) → names y (told_states a (xs1 ++ bs)) ≡ true → (names y (told_states a xs1) ≡ true) ⊎ (names y (told_states a bs) ≡ true)
named_cases a y xs1 bs h = any_join (λ o. is_who y o.who) (told_states a xs1) (told_states a bs) (ap (names y) (sym (told_join a xs1 bs)) ∙ h)

pub named_left : (a : ℕ) (y : Who) (xs1 bs : List LogRecord) → names y (told_states a xs1) ≡ true → names y (told_states a (xs1 ++ bs)) ≡ true
named_left a y xs1 bs h = ap (names y) (told_join a xs1 bs) ∙ any_front (λ o. is_who y o.who) (told_states a xs1) (told_states a bs) h

pub named_right : (a : ℕ) (y : Who) (xs1 bs : List LogRecord) → names y (told_states a bs) ≡ true → names y (told_states a (xs1 ++ bs)) ≡ true
named_right a y xs1 bs h = ap (names y) (told_join a xs1 bs) ∙ any_back (λ o. is_who y o.who) (told_states a xs1) (told_states a bs) h

pub named_less : (a many : ℕ) (y : Who) (xs1 bs : ℕ → List LogRecord) → NoLess xs1 bs → names y (told_states a (xs1 (a % many))) ≡ true → names y (told_states a (bs (a % many))) ≡ true
unfolding NoLess
named_less a many y xs1 bs n h = let m = n (a % many) in ap (λ z. names y (told_states a z)) m.1 ∙ named_left a y (xs1 (a % many)) m.0 h

-- ---- numbers

-- not below an opening's next numbers
abbrev pub IsFrom : Opening → Who → Type 0
IsFrom o (OfBatch k) = o.next_bid ≤ k
IsFrom o (OfAct t) = o.next_tid ≤ t

abbrev pub Runs : {C : Type 0} → ℕ → Opening → List (CutRun C) → Type 0
Runs many o xs = (1 ≤ length o.states) × AllByRecursion (λ x. x.fixed.text.logs ≡ many) xs × GoOn o xs

pub left_long : (many : ℕ) (logs : ℕ → List LogRecord) (n : ℕ) (ss : List State) → length (recovered_from many logs n ss) ≡ length ss
left_long many logs n [] = refl
left_long many logs n (s ∷ ss) = ap suc (left_long many logs (n + 1) ss)

pub sound : {C : Type 0} (many : ℕ) (o : Opening) (x : CutRun C) (xs : List (CutRun C)) → Runs many o (x ∷ xs) → Sound x
sound many o x xs g = record { may = g.2.0; actors = subst (λ z. 1 ≤ length z.states) (sym g.2.1) g.0 }

pub runs_behind : {C : Type 0} (many : ℕ) (o : Opening) (x : CutRun C) (xs : List (CutRun C)) → Runs many o (x ∷ xs) → Runs many (opening_left x) xs
runs_behind many o x xs g = (omega (arith, (sound many o x xs g).actors, left_long x.fixed.text.logs (logs_left x) 0 x.fixed.text.opening.states), g.1.1, g.2.2)

in_is_committed : {C : Type 0} (x : CutRun C) (s : Sound x) (now : ℕ → List LogRecord) (y : Who) → Listed x.fixed (Of x) x.finish x.moment.events now → is_in x.fixed.text.logs now y ≡ true → in_either (history x.fixed x.moment.events).kept (history x.fixed x.moment.events).kept_readers y ≡ true
unfolding WrittenHaveValues
in_is_committed x s now (OfBatch k) l h = (in_order x.fixed (Of x) x.finish x.moment.events (given x s) (run_of x s)).known.logs.written (OfBatch k) (let m = l.rest (k % x.fixed.text.logs) in ap (list_any (is_commit k)) m.1 ∙ any_front (is_commit k) (now (k % x.fixed.text.logs)) m.0 h)
in_is_committed x s now (OfAct t) l h = (in_order x.fixed (Of x) x.finish x.moment.events (given x s) (run_of x s)).known.logs.written (OfAct t) (let m = l.rest (t % x.fixed.text.logs) in ap (list_any (is_act_commit t)) m.1 ∙ any_front (is_act_commit t) (now (t % x.fixed.text.logs)) m.0 h)

pub from_low : {C : Type 0} (w : Fixed C) (o : Opening) (y : Who) → w.text.opening ≡ o → IsLow w y → IsFrom o y
from_low w o (OfBatch k) e h = subst (λ z. z.next_bid ≤ k) e h
from_low w o (OfAct t) e h = subst (λ z. z.next_tid ≤ t) e h

pub from_left : {C : Type 0} (x : CutRun C) (o : Opening) (y : Who) → x.fixed.text.opening ≡ o → IsFrom (opening_left x) y → IsFrom o y
from_left x o (OfBatch k) e h = subst (λ z. z.next_bid ≤ k) e (omega (arith, h))
from_left x o (OfAct t) e h = subst (λ z. z.next_tid ≤ t) e (omega (arith, h))

pub none_in : (many : ℕ) (y : Who) → is_in many (λ l. []) y ≡ true → ⊥
none_in many (OfBatch k) e = true≢false (sym e)
none_in many (OfAct t) e = true≢false (sym e)

-- who commits in these runs is of numbers from the opening's on
pub in_from : {C : Type 0} (many : ℕ) (o : Opening) (xs : List (CutRun C)) (r : RunsReading xs) (y : Who) → Runs many o xs → is_in many (runs_read xs r) y ≡ true → IsFrom o y
in_from many o [] r y g h = absurd (none_in many y h)
in_from many o (x ∷ xs) r y g h =
    let s = sound many o x xs g in
    elim (in_cases many (head_read x xs r) (runs_read xs (tail_read x xs r)) y h) [
      | inl i ↦ from_low x.fixed o y g.2.1 (low_committed x.fixed (Of x) x.finish x.moment.events y (given x s) (run_of x s) (in_is_committed x s (head_read x xs r) y (head_listed x xs s r) (subst (λ m. is_in m (head_read x xs r) y ≡ true) (sym g.1.0) i)))
      | inr i ↦ from_left x o y g.2.1 (in_from many (opening_left x) xs (tail_read x xs r) y (runs_behind many o x xs g) i)
    ]

-- so is who has a record
pub named_from : {C : Type 0} (many a : ℕ) (o : Opening) (xs : List (CutRun C)) (r : RunsReading xs) (y : Who) → Runs many o xs → names y (told_states a (runs_read xs r (a % many))) ≡ true → IsFrom o y
named_from many a o [] r y g h = absurd (true≢false (sym h))
named_from many a o (x ∷ xs) r y g h =
    let s = sound many o x xs g in
    let l = head_listed x xs s r in
    elim (named_cases a y (head_read x xs r (a % many)) (runs_read xs (tail_read x xs r) (a % many)) h) [
      | inl i ↦ from_low x.fixed o y g.2.1 (low_named x.fixed (Of x) x.finish x.moment.events a y (given x s) (run_of x s)
          (let m = l.rest (a % x.fixed.text.logs) in ap (λ z. names y (told_states a z)) m.1 ∙ named_left a y (head_read x xs r (a % x.fixed.text.logs)) m.0 (subst (λ z. names y (told_states a (head_read x xs r (a % z))) ≡ true) (sym g.1.0) i)))
      | inr i ↦ from_left x o y g.2.1 (named_from many a (opening_left x) xs (tail_read x xs r) y (runs_behind many o x xs g) i)
    ]

pub not_both : {C : Type 0} (x : CutRun C) (y : Who) → IsHigh x.fixed (logs_left x) y → IsFrom (opening_left x) y → ⊥
not_both x (OfBatch k) h f = omega (arith, h, f)
not_both x (OfAct t) h f = omega (arith, h, f)

-- who is of the first run is of no later one
pub apart : {C : Type 0} (many : ℕ) (o : Opening) (x : CutRun C) (xs : List (CutRun C)) (r q : RunsReading (x ∷ xs)) (y : Who) → Runs many o (x ∷ xs) → is_in many (head_read x xs r) y ≡ true → is_in many (runs_read xs (tail_read x xs q)) y ≡ true → ⊥
apart many o x xs r q y g h t =
    let s = sound many o x xs g in
    not_both x y (high_in x.fixed (logs_left x) y s.may.text.some_logs (in_more x.fixed.text.logs (head_read x xs r) (logs_left x) y (head_left x xs s r) (subst (λ m. is_in m (head_read x xs r) y ≡ true) (sym g.1.0) h)))
    (in_from many (opening_left x) xs (tail_read x xs q) y (runs_behind many o x xs g) t)

pub apart_named : {C : Type 0} (many a : ℕ) (o : Opening) (x : CutRun C) (xs : List (CutRun C)) (r q : RunsReading (x ∷ xs)) (y : Who) → Runs many o (x ∷ xs) → is_in many (head_read x xs r) y ≡ true → names y (told_states a (runs_read xs (tail_read x xs q) (a % many))) ≡ true → ⊥
apart_named many a o x xs r q y g h t =
    let s = sound many o x xs g in
    not_both x y (high_in x.fixed (logs_left x) y s.may.text.some_logs (in_more x.fixed.text.logs (head_read x xs r) (logs_left x) y (head_left x xs s r) (subst (λ m. is_in m (head_read x xs r) y ≡ true) (sym g.1.0) h)))
    (named_from many a (opening_left x) xs (tail_read x xs q) y (runs_behind many o x xs g) t)

pub named_apart : {C : Type 0} (many a : ℕ) (o : Opening) (x : CutRun C) (xs : List (CutRun C)) (r q : RunsReading (x ∷ xs)) (y : Who) → Runs many o (x ∷ xs) → names y (told_states a (head_read x xs r (a % many))) ≡ true → is_in many (runs_read xs (tail_read x xs q)) y ≡ true → ⊥
named_apart many a o x xs r q y g h t =
    let s = sound many o x xs g in
    not_both x y (high_named x.fixed (logs_left x) a y s.may.text.some_logs (named_less a x.fixed.text.logs y (head_read x xs r) (logs_left x) (head_left x xs s r) (subst (λ m. names y (told_states a (head_read x xs r (a % m))) ≡ true) (sym g.1.0) h)))
    (in_from many (opening_left x) xs (tail_read x xs q) y (runs_behind many o x xs g) t)
