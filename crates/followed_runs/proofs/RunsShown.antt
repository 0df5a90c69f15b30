-- Of several runs, one behind the other: a commit that was read before a call is taken by its second round, where each round takes as
-- many as it may; and of two calls the second knows what the first did.
use Rattle.std.specs.Prelude.{◌≡◌, refl, ◌⊎◌, ℕ, ◌%◌, Bool, true, false, ◌||◌, if◌then◌else◌, Option, Some, None, List, [], ◌∷◌, ◌++◌, take, filter}
use Rattle.std.specs.List.{list_any}
use Rattle.std.proofs.Common.{arith, sym, ap, subst, inl, inr, ◌∙◌}
use Rattle.std.proofs.lemmas.Bool.{true≢false, or_cases, or_left, or_right, eq-eqb, cases_Bool, false_from_ne_true}
use Rattle.snap_base.specs.declared.transactions.State.{State}
use Rattle.protocol.specs.Facts.{state_in}
use Rattle.protocol.specs.Fixed.{Opening, Fixed}
use Rattle.protocol.specs.Records.{LogRecord, is_commit, is_act_commit}
use Rattle.protocol.specs.Parts.{Who, OfBatch, OfAct}
use Rattle.protocol.specs.Events.{Event}
use Rattle.protocol.specs.Effects.{log_at}
use Rattle.protocol.specs.Runs.{reached}
use Rattle.protocol.specs.Moments.{left_in}
use Rattle.protocol_laws.proofs.first.Lists.{any_join, join_assoc}
use Rattle.protocol_records.specs.Telling.{told_states, names, last_one}
use Rattle.protocol_records.specs.Crash.{is_in}
use Rattle.protocol_records.specs.SeveralRuns.{CutRun, logs_left, opening_left}
use Rattle.protocol_records.proofs.crash.RecoversKept.{first_of}
use Rattle.protocol_records.proofs.crash.TellsKept.{told_join}
use Rattle.followed_runs.specs.Following.{ChangedAhead}
use Rattle.followed_runs.specs.FollowingRuns.{Where, nothing, head_at, tail_at, read_at, IsNoEarlier, IsStill, RunsReading, head_read, tail_read, runs_read, IsLaterRead, IsLaterThanRead, RunsRound, runs_before, TakeMostRunsRounds, last_taken, SeenIsShownBehindRuns, CallsKnowMoreBehindRuns}
use Rattle.followed_runs.proofs.Ahead.{ahead_first, ahead_second}
use Rattle.followed_runs.proofs.ChangedAhead.{changed_is_ahead, changed_counts, changed_cut, changed_drop, filter_named}
use Rattle.followed_runs.proofs.LeftStates.{actor_there}
use Rattle.followed_runs.proofs.RunParts.{later_tail, nothing_at, head_left_in, cut_seen, told_in_head, in_cases, in_left, in_right, Runs, sound, runs_behind, apart_named, named_apart}
use Rattle.followed_runs.proofs.RunsStand.{count_left, count_right, left_told}
use Rattle.followed_runs.proofs.Seen.{Seen, NoLess, in_more}
use Rattle.followed_runs.proofs.SeenShown.{commit_log}

-- ---- readings

earlier_earlier : {C : Type 0} (xs : List (CutRun C)) (l i j : ℕ) (p : Where xs l) (q : Where xs i) (t : Where xs j) → IsNoEarlier xs l i p q → IsNoEarlier xs i j q t → IsNoEarlier xs l j p t
earlier_earlier [] l i j p q t a b = tt
earlier_earlier (x ∷ xs) l i j None q t a b = tt
earlier_earlier (x ∷ xs) l i j (Some p) None t a b = absurd a
earlier_earlier (x ∷ xs) l i j (Some p) (Some q) None a b = absurd b
earlier_earlier (x ∷ xs) l i j (Some (inl p)) (Some (inl q)) (Some (inl t)) a b = (a.0 ++ b.0, b.1 ∙ (ap (λ z. z ++ b.0) a.1 ∙ join_assoc p.events a.0 b.0))
earlier_earlier (x ∷ xs) l i j (Some (inl p)) (Some q) (Some (inr t)) a b = tt
earlier_earlier (x ∷ xs) l i j (Some (inl p)) (Some (inr q)) (Some (inl t)) a b = absurd b
earlier_earlier (x ∷ xs) l i j (Some (inr p)) (Some (inl q)) (Some t) a b = absurd a
earlier_earlier (x ∷ xs) l i j (Some (inr p)) (Some (inr q)) (Some (inl t)) a b = absurd b
earlier_earlier (x ∷ xs) l i j (Some (inr p)) (Some (inr q)) (Some (inr t)) a b = earlier_earlier xs l i j p q t a b

still_still : {C : Type 0} (xs : List (CutRun C)) (l : ℕ) (p q t : Where xs l) → IsStill xs l p q → IsStill xs l q t → IsStill xs l p t
still_still [] l p q t a b = tt
still_still (x ∷ xs) l None q t a b = tt
still_still (x ∷ xs) l (Some p) None t a b = absurd a
still_still (x ∷ xs) l (Some p) (Some q) None a b = absurd b
still_still (x ∷ xs) l (Some (inl p)) (Some (inl q)) (Some (inl t)) a b = omega (arith, a, b)
still_still (x ∷ xs) l (Some (inl p)) (Some q) (Some (inr t)) a b = tt
still_still (x ∷ xs) l (Some (inl p)) (Some (inr q)) (Some (inl t)) a b = absurd b
still_still (x ∷ xs) l (Some (inr p)) (Some (inl q)) (Some t) a b = absurd a
still_still (x ∷ xs) l (Some (inr p)) (Some (inr q)) (Some (inl t)) a b = absurd b
still_still (x ∷ xs) l (Some (inr p)) (Some (inr q)) (Some (inr t)) a b = still_still xs l p q t a b

later_later : {C : Type 0} (xs : List (CutRun C)) (r q t : RunsReading xs) → IsLaterRead xs r q → IsLaterRead xs q t → IsLaterRead xs r t
later_later xs r q t a b = record { moments = λ l i. earlier_earlier xs l i i (r l) (q i) (t i) (a.moments l i) (b.moments i i); still = λ l. still_still xs l (r l) (q l) (t l) (a.still l) (b.still l) }

-- ---- all that was there when one log was read

-- in the cut of that moment of the run that ran then, or left by a run before it
abbrev pub was_there : {C : Type 0} → ℕ → (xs : List (CutRun C)) (n : ℕ) → Where xs n → Who → Bool
was_there many [] n p v = false
was_there many (x ∷ xs) n None v = false
was_there many (x ∷ xs) n (Some (inl s)) v = is_in many (head_left_in x xs n (Some (inl s))) v
was_there many (x ∷ xs) n (Some (inr p)) v = is_in many (logs_left x) v || was_there many xs n p v

self_at : {C : Type 0} (many n : ℕ) (test : LogRecord → Bool) (v : Who) (xs : List (CutRun C)) (p : Where xs n) → ((logs : ℕ → List LogRecord) → is_in many logs v ≡ list_any test (logs n)) → list_any test (read_at xs n p) ≡ true → was_there many xs n p v ≡ true
self_at many n test v [] p same h = h
self_at many n test v (x ∷ xs) None same h = absurd (true≢false (sym h ∙ ap (list_any test) (nothing_at xs n)))
self_at many n test v (x ∷ xs) (Some (inl s)) same h = elim (any_join test (take s.count (log_at (reached x.fixed s.events) n).records) (read_at xs n (nothing xs n)) h) [
  | inl e ↦ same (head_left_in x xs n (Some (inl s))) ∙ subst (λ b. list_any test (take (if b then s.count else (log_at (reached x.fixed s.events) n).synced) (log_at (reached x.fixed s.events) n).records) ≡ true) (sym (eq-eqb n n refl)) e
  | inr e ↦ absurd (true≢false (sym e ∙ ap (list_any test) (nothing_at xs n)))
]
self_at many n test v (x ∷ xs) (Some (inr p)) same h = elim (any_join test (logs_left x n) (read_at xs n p) h) [
  | inl e ↦ or_left (is_in many (logs_left x) v) _ (same (logs_left x) ∙ e)
  | inr e ↦ or_right (is_in many (logs_left x) v) _ (self_at many n test v xs p same e)
]

self_there : {C : Type 0} (many : ℕ) (xs : List (CutRun C)) (r : RunsReading xs) (z : Who) → is_in many (runs_read xs r) z ≡ true → was_there many xs (commit_log many z) (r (commit_log many z)) z ≡ true
self_there many xs r (OfBatch k) h = self_at many (k % many) (is_commit k) (OfBatch k) xs (r (k % many)) (λ logs. refl) h
self_there many xs r (OfAct t) h = self_at many (t % many) (is_act_commit t) (OfAct t) xs (r (t % many)) (λ logs. refl) h

-- where that log was read in a later run, the first one is over
over : {C : Type 0} (x : CutRun C) (xs : List (CutRun C)) (r q : RunsReading (x ∷ xs)) (n : ℕ) (p : Where xs n) → r n ≡ Some (inr p) → IsLaterRead (x ∷ xs) r q → (i : ℕ) → head_read x xs q i ≡ logs_left x i
over {C} x xs r q n p e h i = by (q i) (subst (λ z. IsNoEarlier (x ∷ xs) n i z (q i)) e (h.moments n i))
  where
    by : (t : Where (x ∷ xs) i) → IsNoEarlier (x ∷ xs) n i (Some (inr p)) t → head_at x xs i t ≡ logs_left x i
    by None k = absurd k
    by (Some (inl t)) k = absurd k
    by (Some (inr t)) k = refl

over_in : {C : Type 0} (many : ℕ) (x : CutRun C) (xs : List (CutRun C)) (q : RunsReading (x ∷ xs)) → ((i : ℕ) → head_read x xs q i ≡ logs_left x i) → (v : Who) → is_in many (head_read x xs q) v ≡ is_in many (logs_left x) v
over_in many x xs q o (OfBatch k) = ap (list_any (is_commit k)) (o (k % many))
over_in many x xs q o (OfAct t) = ap (list_any (is_act_commit t)) (o (t % many))

seen_in : {C : Type 0} (w : Fixed C) (es : List Event) (now : ℕ → List LogRecord) (y : Who) → Seen w es now y → is_in w.text.logs now y ≡ true
unfolding NoLess
seen_in w es now y s = in_more w.text.logs (left_in (reached w s.events) s.cut) now y s.within s.has

head_in : {C : Type 0} (many n : ℕ) (o : Opening) (x : CutRun C) (xs : List (CutRun C)) (r q : RunsReading (x ∷ xs)) (v : Who) → Runs many o (x ∷ xs) → IsLaterRead (x ∷ xs) r q → is_in many (head_left_in x xs n (r n)) v ≡ true → is_in many (head_read x xs q) v ≡ true
head_in many n o x xs r q v g h i = subst (λ m. is_in m (head_read x xs q) v ≡ true) g.1.0 (seen_in x.fixed x.moment.events (head_read x xs q) v (cut_seen x xs (sound many o x xs g) r q n v h (subst (λ m. is_in m (head_left_in x xs n (r n)) v ≡ true) (sym g.1.0) i)))

-- all of it is read later
there_read : {C : Type 0} (many n : ℕ) (o : Opening) (xs : List (CutRun C)) (r q : RunsReading xs) (v : Who) → Runs many o xs → IsLaterRead xs r q → was_there many xs n (r n) v ≡ true → is_in many (runs_read xs q) v ≡ true
there_read many n o [] r q v g h i = absurd (true≢false (sym i))
there_read {C} many n o (x ∷ xs) r q v g h i = by (r n) refl i (λ j. there_read many n (opening_left x) xs (tail_read x xs r) (tail_read x xs q) v (runs_behind many o x xs g) (later_tail x xs r q h) j)
  where
    by : (p : Where (x ∷ xs) n) → r n ≡ p → was_there many (x ∷ xs) n p v ≡ true → (was_there many xs n (tail_at x xs n (r n)) v ≡ true → is_in many (runs_read xs (tail_read x xs q)) v ≡ true) → is_in many (runs_read (x ∷ xs) q) v ≡ true
    by None e j k = absurd (true≢false (sym j))
    by (Some (inl s)) e j k = in_left many (head_read x xs q) (runs_read xs (tail_read x xs q)) v (head_in many n o x xs r q v g h (subst (λ p. is_in many (head_left_in x xs n p) v ≡ true) (sym e) j))
    by (Some (inr p)) e j k = elim (or_cases (is_in many (logs_left x) v) (was_there many xs n p v) j) [
      | inl a ↦ in_left many (head_read x xs q) (runs_read xs (tail_read x xs q)) v (over_in many x xs q (over x xs r q n p e h) v ∙ a)
      | inr a ↦ in_right many (head_read x xs q) (runs_read xs (tail_read x xs q)) v (k (subst (λ t. was_there many xs n (tail_at x xs n t) v ≡ true) (sym e) a))
    ]

-- ---- and it is closed

-- who changed an actor ahead of one of the first run is of the first run
record InHead {C : Type 0} (many a : ℕ) (o : Opening) (x : CutRun C) (xs : List (CutRun C)) (q : RunsReading (x ∷ xs)) (u v : Who) : Type 0 where
  is_there : is_in many (head_read x xs q) u ≡ true
  changed : ChangedAhead (is_in many (head_read x xs q)) (state_in o.states a) u v (told_states a (head_read x xs q (a % many)))

whole_told : {C : Type 0} (many a : ℕ) (o : Opening) (x : CutRun C) (xs : List (CutRun C)) (q : RunsReading (x ∷ xs)) (u v : Who) → ChangedAhead (is_in many (runs_read (x ∷ xs) q)) (state_in o.states a) u v (told_states a (runs_read (x ∷ xs) q (a % many)))
    → ChangedAhead (is_in many (runs_read (x ∷ xs) q)) (state_in o.states a) u v (told_states a (head_read x xs q (a % many)) ++ told_states a (runs_read xs (tail_read x xs q) (a % many)))
whole_told many a o x xs q u v c = subst (ChangedAhead (is_in many (runs_read (x ∷ xs) q)) (state_in o.states a) u v) (told_join a (head_read x xs q (a % many)) (runs_read xs (tail_read x xs q) (a % many))) c

within_head : {C : Type 0} (many a : ℕ) (o : Opening) (x : CutRun C) (xs : List (CutRun C)) (q : RunsReading (x ∷ xs)) (u v : Who) → Runs many o (x ∷ xs) → is_in many (head_read x xs q) v ≡ true → is_in many (runs_read (x ∷ xs) q) u ≡ true
    → ChangedAhead (is_in many (runs_read (x ∷ xs) q)) (state_in o.states a) u v (told_states a (runs_read (x ∷ xs) q (a % many))) → InHead many a o x xs q u v
within_head {C} many a o x xs q u v g iv iu c = record {
  is_there = elim (in_cases many (head_read x xs q) (runs_read xs (tail_read x xs q)) u iu) [ inl e ↦ e | inr e ↦ absurd (named_apart many a o x xs q q u g named e) ];
  changed = changed_counts (is_in many (runs_read (x ∷ xs) q)) (is_in many (head_read x xs q)) (state_in o.states a) u v (told_states a (head_read x xs q (a % many))) (λ y i j. sym (count_left many a (head_read x xs q) (runs_read xs (tail_read x xs q)) (λ b y k l. named_apart many b o x xs q q y g k l) y (ahead_first y u (told_states a (head_read x xs q (a % many))) i))) cut;
}
  where
    cut : ChangedAhead (is_in many (runs_read (x ∷ xs) q)) (state_in o.states a) u v (told_states a (head_read x xs q (a % many)))
    cut = changed_cut (is_in many (runs_read (x ∷ xs) q)) (state_in o.states a) u v (told_states a (head_read x xs q (a % many))) (told_states a (runs_read xs (tail_read x xs q) (a % many))) (false_from_ne_true (names v (told_states a (runs_read xs (tail_read x xs q) (a % many)))) (λ n. apart_named many a o x xs q q v g iv n)) (whole_told many a o x xs q u v c)

    named : names u (told_states a (head_read x xs q (a % many))) ≡ true
    named = ahead_first u v (told_states a (head_read x xs q (a % many))) (changed_is_ahead (is_in many (runs_read (x ∷ xs) q)) (state_in o.states a) u v (told_states a (head_read x xs q (a % many))) cut)

-- who changed an actor in a later run did so from the states that the first run left
behind_head : {C : Type 0} (many a : ℕ) (o : Opening) (x : CutRun C) (xs : List (CutRun C)) (q : RunsReading (x ∷ xs)) (u v : Who) → Runs many o (x ∷ xs) → ((i : ℕ) → head_read x xs q i ≡ logs_left x i) → is_in many (runs_read xs (tail_read x xs q)) u ≡ true
    → ChangedAhead (is_in many (runs_read (x ∷ xs) q)) (state_in o.states a) u v (told_states a (runs_read (x ∷ xs) q (a % many))) → ChangedAhead (is_in many (runs_read xs (tail_read x xs q))) (state_in (opening_left x).states a) u v (told_states a (runs_read xs (tail_read x xs q) (a % many)))
behind_head {C} many a o x xs q u v g ov it c =
    changed_counts (is_in many (runs_read (x ∷ xs) q)) (is_in many (runs_read xs (tail_read x xs q))) (state_in (opening_left x).states a) u v (told_states a (runs_read xs (tail_read x xs q) (a % many))) (λ y i j. sym (count_right many a (head_read x xs q) (runs_read xs (tail_read x xs q)) (λ b y k l. apart_named many b o x xs q q y g l k) y (ahead_first y u (told_states a (runs_read xs (tail_read x xs q) (a % many))) i)))
    (subst (λ s. ChangedAhead (is_in many (runs_read (x ∷ xs) q)) s u v (told_states a (runs_read xs (tail_read x xs q) (a % many)))) from dropped)
  where
    dropped : ChangedAhead (is_in many (runs_read (x ∷ xs) q)) (last_one (state_in o.states a) (filter (λ e. is_in many (runs_read (x ∷ xs) q) e.who) (told_states a (head_read x xs q (a % many))))) u v (told_states a (runs_read xs (tail_read x xs q) (a % many)))
    dropped = changed_drop (is_in many (runs_read (x ∷ xs) q)) (state_in o.states a) u v (told_states a (head_read x xs q (a % many))) (told_states a (runs_read xs (tail_read x xs q) (a % many))) (false_from_ne_true (names u (told_states a (head_read x xs q (a % many)))) (λ n. named_apart many a o x xs q q u g n it)) (whole_told many a o x xs q u v c)

    named : names v (told_states a (runs_read xs (tail_read x xs q) (a % many))) ≡ true
    named = ahead_second u v (told_states a (runs_read xs (tail_read x xs q) (a % many))) (changed_is_ahead (is_in many (runs_read (x ∷ xs) q)) (last_one (state_in o.states a) (filter (λ e. is_in many (runs_read (x ∷ xs) q) e.who) (told_states a (head_read x xs q (a % many))))) u v (told_states a (runs_read xs (tail_read x xs q) (a % many))) dropped)

    from : last_one (state_in o.states a) (filter (λ e. is_in many (runs_read (x ∷ xs) q) e.who) (told_states a (head_read x xs q (a % many)))) ≡ state_in (opening_left x).states a
    from =
        ap (last_one (state_in o.states a)) (filter_named (is_in many (runs_read (x ∷ xs) q)) (is_in many (head_read x xs q)) (told_states a (head_read x xs q (a % many))) (λ y n. sym (count_left many a (head_read x xs q) (runs_read xs (tail_read x xs q)) (λ b y k l. named_apart many b o x xs q q y g k l) y n)))
        ∙ sym (left_told many o x xs q a g ov (actor_there many a (opening_left x) xs (tail_read x xs q) v (runs_behind many o x xs g) named))

there_closed : {C : Type 0} (many n a : ℕ) (o : Opening) (xs : List (CutRun C)) (r q : RunsReading xs) (u v : Who) → Runs many o xs → IsLaterRead xs r q → was_there many xs n (r n) v ≡ true → is_in many (runs_read xs q) u ≡ true
    → ChangedAhead (is_in many (runs_read xs q)) (state_in o.states a) u v (told_states a (runs_read xs q (a % many))) → was_there many xs n (r n) u ≡ true
there_closed many n a o [] r q u v g h i iu c = absurd (true≢false (sym i))
there_closed {C} many n a o (x ∷ xs) r q u v g h i iu c = by (r n) refl i (λ j it d. there_closed many n a (opening_left x) xs (tail_read x xs r) (tail_read x xs q) u v (runs_behind many o x xs g) (later_tail x xs r q h) j it d)
  where
    by : (p : Where (x ∷ xs) n) → r n ≡ p → was_there many (x ∷ xs) n p v ≡ true
        → (was_there many xs n (tail_at x xs n (r n)) v ≡ true → is_in many (runs_read xs (tail_read x xs q)) u ≡ true → ChangedAhead (is_in many (runs_read xs (tail_read x xs q))) (state_in (opening_left x).states a) u v (told_states a (runs_read xs (tail_read x xs q) (a % many))) → was_there many xs n (tail_at x xs n (r n)) u ≡ true)
        → was_there many (x ∷ xs) n p u ≡ true
    by None e j k = j
    by (Some (inl s)) e j k =
        let j2 : is_in many (head_left_in x xs n (r n)) v ≡ true = subst (λ p. is_in many (head_left_in x xs n p) v ≡ true) (sym e) j in
        let w = within_head many a o x xs q u v g (head_in many n o x xs r q v g h j2) iu c in
        subst (λ p. is_in many (head_left_in x xs n p) u ≡ true) e
        (subst (λ m. is_in m (head_left_in x xs n (r n)) u ≡ true) g.1.0
        (told_in_head x xs (sound many o x xs g) r q n a v u h (subst (λ m. is_in m (head_left_in x xs n (r n)) v ≡ true) (sym g.1.0) j2) (subst (λ m. is_in m (head_read x xs q) u ≡ true) (sym g.1.0) w.is_there)
        (subst (λ m. ChangedAhead (is_in m (head_read x xs q)) (first_of x.fixed a) u v (told_states a (head_read x xs q (a % m)))) (sym g.1.0)
        (subst (λ p. ChangedAhead (is_in many (head_read x xs q)) (state_in p.states a) u v (told_states a (head_read x xs q (a % many)))) (sym g.2.1) w.changed))))
    by (Some (inr p)) e j k = elim (or_cases (is_in many (logs_left x) v) (was_there many xs n p v) j) [
      | inl b ↦ or_left (is_in many (logs_left x) u) _ (sym (ov_in u) ∙ (within_head many a o x xs q u v g (ov_in v ∙ b) iu c).is_there)
      | inr b ↦ elim (in_cases many (head_read x xs q) (runs_read xs (tail_read x xs q)) u iu) [
        | inl d ↦ or_left (is_in many (logs_left x) u) _ (sym (ov_in u) ∙ d)
        | inr d ↦ or_right (is_in many (logs_left x) u) _ (subst (λ t. was_there many xs n (tail_at x xs n t) u ≡ true) e (k (subst (λ t. was_there many xs n (tail_at x xs n t) v ≡ true) (sym e) b) d (behind_head many a o x xs q u v g (over x xs r q n p e h) d c)))
      ]
    ]
      where
        ov_in : (y : Who) → is_in many (head_read x xs q) y ≡ is_in many (logs_left x) y
        ov_in y = over_in many x xs q (over x xs r q n p e h) y

-- ---- the second round

to_before : {C : Type 0} (many : ℕ) (xs : List (CutRun C)) (q : RunsReading xs) (z : Who) → is_in many (runs_read xs q) z ≡ true → is_in many (runs_before xs (Some q)) z ≡ true
to_before many xs q (OfBatch k) e = e
to_before many xs q (OfAct t) e = e

pub seen_is_shown_behind : {C : Type 0} → SeenIsShownBehindRuns C
seen_is_shown_behind {C} many o xs earlier x y actors same go later t z i = t.1.0.1.greatest others (record {
  stay = λ u j. or_left (x.members u) _ j;
  seen = λ u j f. to_before many xs x.reading u (there_read many n o xs earlier x.reading u g later (was u j f));
  rest_on = λ v u j f ahead iu. or_right (x.members u) _ (there_closed many n ahead.0 o xs earlier y.reading u v g (later_later xs earlier x.reading y.reading later t.1.0.0) (was v j f) iu ahead.1);
}) z (or_right (x.members z) _ (self_there many xs earlier z i))
  where
    n : ℕ
    n = commit_log many z

    g : Runs many o xs
    g = (actors, same, go)

    others : Who → Bool
    others v = x.members v || was_there many xs (commit_log many z) (earlier (commit_log many z)) v

    was : (v : Who) → others v ≡ true → x.members v ≡ false → was_there many xs (commit_log many z) (earlier (commit_log many z)) v ≡ true
    was v j f = elim (or_cases (x.members v) (was_there many xs (commit_log many z) (earlier (commit_log many z)) v) j) [ inl q ↦ absurd (true≢false (sym q ∙ f)) | inr q ↦ q ]

-- ---- two calls

-- whom the rounds took stays
stays : {C : Type 0} (many : ℕ) (first : ℕ → State) (xs : List (CutRun C)) (o : Option (RunsReading xs)) (taken : Who → Bool) (ys : List (RunsRound xs)) → TakeMostRunsRounds many first xs o taken ys → (z : Who) → taken z ≡ true → last_taken xs taken ys z ≡ true
stays many first xs o taken [] t z e = e
stays many first xs o taken (y ∷ ys) t z e = stays many first xs (Some y.reading) y.members ys t.1 z (t.0.1.may.stay z e)

-- its commit was read, at no later moment than the last reading
record WasRead {C : Type 0} (many : ℕ) (xs : List (CutRun C)) (o : Option (RunsReading xs)) (z : Who) : Type 0 where
  reading : RunsReading xs
  is_there : is_in many (runs_read xs reading) z ≡ true
  before : (q : RunsReading xs) → IsLaterThanRead xs o q → IsLaterRead xs reading q

seen_before : {C : Type 0} (many : ℕ) (xs : List (CutRun C)) (o : Option (RunsReading xs)) (x : RunsReading xs) (z : Who) → IsLaterThanRead xs o x → is_in many (runs_before xs o) z ≡ true → WasRead many xs (Some x) z
seen_before many xs None x (OfBatch k) l e = absurd (true≢false (sym e))
seen_before many xs None x (OfAct t) l e = absurd (true≢false (sym e))
seen_before many xs (Some r) x (OfBatch k) l e = record { reading = r; is_there = e; before = λ q m. later_later xs r x q l m }
seen_before many xs (Some r) x (OfAct t) l e = record { reading = r; is_there = e; before = λ q m. later_later xs r x q l m }

was_read : {C : Type 0} (many : ℕ) (first : ℕ → State) (xs : List (CutRun C)) (o : Option (RunsReading xs)) (taken : Who → Bool) (zs : List (RunsRound xs)) (last : RunsRound xs) → ((z : Who) → taken z ≡ true → WasRead many xs o z) → TakeMostRunsRounds many first xs o taken (zs ++ last ∷ []) → (z : Who) → last.members z ≡ true → WasRead many xs (Some last.reading) z
was_read {C} many first xs o taken [] last k t z e = one (cases_Bool (taken z))
  where
    one : (taken z ≡ true) ⊎ (taken z ≡ false) → WasRead many xs (Some last.reading) z
    one (inl i) = let r = k z i in record { reading = r.reading; is_there = r.is_there; before = λ q m. later_later xs r.reading last.reading q (r.before last.reading t.0.0) m }
    one (inr i) = seen_before many xs o last.reading z t.0.0 (t.0.1.may.seen z e i)
was_read {C} many first xs o taken (x ∷ zs) last k t z e = was_read many first xs (Some x.reading) x.members zs last one t.1 z e
  where
    one : (y : Who) → x.members y ≡ true → WasRead many xs (Some x.reading) y
    one y m = by (cases_Bool (taken y))
      where
        by : (taken y ≡ true) ⊎ (taken y ≡ false) → WasRead many xs (Some x.reading) y
        by (inl i) = let r = k y i in record { reading = r.reading; is_there = r.is_there; before = λ q l. later_later xs r.reading x.reading q (r.before x.reading t.0.0) l }
        by (inr i) = seen_before many xs o x.reading y t.0.0 (t.0.1.may.seen y m i)

pub calls_know_more_behind : {C : Type 0} → CallsKnowMoreBehindRuns C
calls_know_more_behind many o xs zs last x y ys actors same go t l u z e =
    let r = was_read many (state_in o.states) xs None (λ z. false) zs last (λ z q. absurd (true≢false (sym q))) t z e in
    stays many (state_in o.states) xs (Some y.reading) y.members ys u.1.1 z (seen_is_shown_behind many o xs r.reading x y actors same go (r.before x.reading l) (u.0, (u.1.0, tt)) z r.is_there)
