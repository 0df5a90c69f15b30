-- What a follower takes, round by round, is seen in what it reads, and closed under who changed an actor ahead; so it is serial, and
-- tells the states.
use Rattle.std.specs.Prelude.{◌≡◌, refl, ℕ, zero, suc, ◌%◌, Bool, true, false, ◌&&◌, ◌||◌, if◌then◌else◌, Option, Some, None, List, [], ◌∷◌, ◌++◌, length, filter, take}
use Rattle.std.specs.List.{list_any}
use Rattle.std.proofs.Common.{arith, sym, ap, subst, inl, inr, ◌∙◌}
use Rattle.std.proofs.lemmas.List.{append-nil}
use Rattle.std.proofs.lemmas.Bool.{true≢false, or_left, or_right, cases_Bool, false_from_ne_true, or_parts}
use Rattle.snap_base.specs.declared.transactions.Tx.{Tx}
use Rattle.snap_base.specs.declared.transactions.State.{State}
use Rattle.protocol.specs.Facts.{Alone, state_in}
use Rattle.protocol.specs.Fixed.{Fixed, IsText}
use Rattle.protocol.specs.Records.{LogRecord, is_commit, is_act_commit}
use Rattle.protocol.specs.Parts.{Who, OfBatch, OfAct}
use Rattle.protocol.specs.Events.{Event}
use Rattle.protocol.specs.Words.{is_who}
use Rattle.protocol.specs.Effects.{log_at}
use Rattle.protocol.specs.Runs.{IsRun, reached}
use Rattle.protocol.specs.History.{Done, history}
use Rattle.protocol.specs.Rests.{IsRest, IsTxIn, HasFacts}
use Rattle.protocol_laws.specs.Commits.{is_kept, last_state}
use Rattle.protocol_laws.proofs.first.Lists.{filter_join}
use Rattle.protocol_laws.proofs.machine.TrackLists.{is_who_true, is_who_refl}
use Rattle.protocol_laws.proofs.machine.Good.{Given}
use Rattle.protocol_laws.proofs.machine.AllGood.{none_allowed}
use Rattle.protocol_theorems.proofs.order.LastLaw.{facts_hold}
use Rattle.protocol_records.specs.Telling.{One, told_states, names, last_one}
use Rattle.protocol_records.specs.Crash.{is_in}
use Rattle.protocol_records.proofs.crash.CrashParts.{no_records}
use Rattle.protocol_records.proofs.crash.RecoversKept.{first_of}
use Rattle.followed_runs.specs.Following.{Reading, what_is_read, MayTake, followed_state, Round, read_before, IsLaterThan, GoOnRounds, followed, RoundStands, AllRoundsStand, InEveryRound}
use Rattle.followed_runs.proofs.ReadersFirst.{told_at}
use Rattle.followed_runs.proofs.OneCommits.{in_either}
use Rattle.followed_runs.proofs.InOrder.{InOrder, in_order}
use Rattle.followed_runs.proofs.Seen.{Seen, NoLess, seen_stays, is_less, seen_now, Listed, of_reading, seen_batch, seen_act, seen_committed, told_rest, none_beyond}
use Rattle.followed_runs.proofs.SeenChanged.{changed_seen}
use Rattle.followed_runs.proofs.Closed.{readers_aside}
use Rattle.followed_runs.proofs.ClosedByChange.{closed_by_change}
use Rattle.followed_runs.proofs.SerialFrom.{SerialFrom, parts_serial_from}
use Rattle.followed_runs.proofs.SetLists.{IsClosedAhead, SetLinks}
use Rattle.followed_runs.proofs.SetsLink.{sets_link}

-- ---- what holds of what a round took

pub record Taken {C : Type 0} (w : Fixed C) (es : List Event) (now : ℕ → List LogRecord) (members : Who → Bool) : Type 0 where
  pub seen : (y : Who) → members y ≡ true → Seen w es now y
  pub closed : (a : ℕ) → IsClosedAhead members (history w es).kept (history w es).kept_readers (first_of w a) (told_at w (reached w es) a)

pub took : {C : Type 0} (w : Fixed C) (Of : Tx → C → Type 0) (finish : C → List State → Alone) (es : List Event) (before now : ℕ → List LogRecord) (taken members : Who → Bool) → Listed w Of finish es now → NoLess before now → ((y : Who) → is_in w.text.logs before y ≡ true → Seen w es now y)
    → Taken w es before taken → MayTake w.text.logs (state_in w.text.opening.states) taken before now members → Taken w es now members
took {C} w Of finish es before now taken members x n see t m = record { seen = seen; closed = closed }
  where
    seen : (y : Who) → members y ≡ true → Seen w es now y
    seen y i = elim (cases_Bool (taken y)) [ inl e ↦ seen_stays w es before now y n (t.seen y e) | inr e ↦ see y (m.seen y i e) ]

    closed : (a : ℕ) → IsClosedAhead members (history w es).kept (history w es).kept_readers (first_of w a) (told_at w (reached w es) a)
    closed a z y i ey kz changed = elim (cases_Bool (taken y)) [
      | inl e ↦ m.stay z (t.closed a z y e ey kz changed)
      | inr e ↦ elim (cases_Bool (is_who z y)) [
        | inl j ↦ subst (λ v. members v ≡ true) (sym (is_who_true z y j)) i
        | inr j ↦ let s = changed_seen w Of finish es now a y z x (seen y i) kz j changed in m.rest_on y z i e (a, s.1) s.0
      ]
    ]

-- ---- what follows of it

pub taken_done : {C : Type 0} (w : Fixed C) (Of : Tx → C → Type 0) (finish : C → List State → Alone) (es : List Event) (now : ℕ → List LogRecord) (members : Who → Bool) → Listed w Of finish es now → Taken w es now members → (y : Who) → members y ≡ true → in_either (history w es).kept (history w es).kept_readers y ≡ true
taken_done w Of finish es now members x t y e = seen_committed w Of finish es now y x (t.seen y e)

-- on each actor its transactions link, and its last record tells what they leave
pub taken_links : {C : Type 0} (w : Fixed C) (Of : Tx → C → Type 0) (finish : C → List State → Alone) (es : List Event) (now : ℕ → List LogRecord) (members : Who → Bool) → Listed w Of finish es now → Taken w es now members → (a : ℕ) → SetLinks a (first_of w a) (history w es).kept members (told_at w (reached w es) a) (history w es).committed
taken_links w Of finish es now members x t a = (sets_link w Of finish es x.given x.run).sets a members (t.closed a)

-- no record of a member lies behind what is read
none_among : (P : Who → Bool) (os : List One) → ((y : Who) → P y ≡ true → names y os ≡ false) → filter (λ o. P o.who) os ≡ []
none_among P [] n = refl
none_among P (o ∷ os) n =
    let e : P o.who ≡ false = false_from_ne_true (P o.who) (λ q. true≢false (sym (or_left (is_who o.who o.who) (names o.who os) (is_who_refl o.who)) ∙ n o.who q)) in
    rw e (none_among P os (λ y q. (or_parts (is_who y o.who) (names y os) (n y q)).1))

filter_done : (P : Who → Bool) (kept readers : List Who) (os : List One) → ((y : Who) → P y ≡ true → in_either kept readers y ≡ true) → filter (λ o. P o.who) os ≡ filter (λ o. P o.who && (is_kept o.who kept || is_kept o.who readers)) os
filter_done P kept readers [] k = refl
filter_done P kept readers (o ∷ os) k = by (P o.who) refl (filter_done P kept readers os k)
  where
    by : (b : Bool) → P o.who ≡ b → filter (λ o. P o.who) os ≡ filter (λ o. P o.who && (is_kept o.who kept || is_kept o.who readers)) os
        → (if b then o ∷ filter (λ o. P o.who) os else filter (λ o. P o.who) os) ≡ (if b && (is_kept o.who kept || is_kept o.who readers) then o ∷ filter (λ o. P o.who && (is_kept o.who kept || is_kept o.who readers)) os else filter (λ o. P o.who && (is_kept o.who kept || is_kept o.who readers)) os)
    by true e r = rw (k o.who e) (ap (λ l. o ∷ l) r)
    by false e r = r

-- the last record of a member tells the state that the members leave
pub taken_tells : {C : Type 0} (w : Fixed C) (Of : Tx → C → Type 0) (finish : C → List State → Alone) (es : List Event) (now : ℕ → List LogRecord) (members : Who → Bool) → Listed w Of finish es now → Taken w es now members → (a : ℕ)
    → followed_state w.text.logs members now a (first_of w a) ≡ last_state a (first_of w a) (followed members (history w es))
taken_tells {C} w Of finish es now members x t a =
    ap (last_one (first_of w a)) (
    sym (append-nil (filter (λ o. members o.who) (told_states a (now (a % w.text.logs)))))
    ∙ (ap (λ z. filter (λ o. members o.who) (told_states a (now (a % w.text.logs))) ++ z) (sym (none_among members (told_states a (x.rest (a % w.text.logs)).0) (λ y e. none_beyond w Of finish es now a y x (t.seen y e))))
    ∙ (sym (filter_join (λ o. members o.who) (told_states a (now (a % w.text.logs))) (told_states a (x.rest (a % w.text.logs)).0))
    ∙ (ap (filter (λ o. members o.who)) (sym (told_rest w Of finish es now a x))
    ∙ filter_done members kept readers (told_at w (reached w es) a) (taken_done w Of finish es now members x t)))))
    ∙ (readers_aside members kept readers (first_of w a) (told_at w (reached w es) a) (λ z y p r k changed. t.closed a z y p (or_right (is_kept y kept) _ r) k changed) (i.tells a)
    ∙ (taken_links w Of finish es now members x t a).tells)
  where
    i : InOrder w Of finish (reached w es) (history w es)
    i = in_order w Of finish es x.given x.run

    kept : List Who
    kept = (history w es).kept

    readers : List Who
    readers = (history w es).kept_readers

stands : {C : Type 0} (w : Fixed C) (finish : C → List State → Alone) (es : List Event) (before now : ℕ → List LogRecord) (taken members : Who → Bool) → HasFacts w finish → IsText w.text → Listed w (IsRest w.code (IsTxIn w.text)) finish es now → NoLess before now
    → ((y : Who) → is_in w.text.logs before y ≡ true → Seen w es now y) → ((y : Who) → taken y ≡ true → members y ≡ true) → Taken w es now members → RoundStands w finish es taken before now members
unfolding NoLess
stands {C} w finish es before now taken members f text x n see stay t = record {
  none_lost = stay;
  all_done = taken_done w Of finish es now members x t;
  closed = closed_by_change w Of finish es members x.given x.run t.closed;
  serial = run_serially.results;
  states = λ a k. taken_tells w Of finish es now members x t a ∙ sym (run_serially.states a k);
  no_less = n;
  whole_batches = λ k e. seen_batch w Of finish es now k x (see (OfBatch k) e);
  whole_acts = λ u e. seen_act w Of finish es now u x (see (OfAct u) e);
}
  where
    Of : Tx → C → Type 0
    Of = IsRest w.code (IsTxIn w.text)

    run_serially : SerialFrom w finish w.text.opening.states (followed members (history w es))
    run_serially = parts_serial_from w finish (reached w es) (history w es) members w.text.opening.states (facts_hold w Of finish es x.given x.run) refl (λ a k. inr refl) (λ a k. (taken_links w Of finish es now members x t a).links)

-- ---- round by round

sees : {C : Type 0} (w : Fixed C) (es : List Event) (o : Option (Reading w es)) (q : Reading w es) → IsRun w es → IsLaterThan o q → (y : Who) → is_in w.text.logs (read_before o) y ≡ true → Seen w es (what_is_read q) y
sees w es None q run l y e = absurd (none y e)
  where
    none : (y : Who) → is_in w.text.logs (read_before {w = w} {es = es} None) y ≡ true → ⊥
    none (OfBatch k) e = true≢false (sym e)
    none (OfAct t) e = true≢false (sym e)
sees w es (Some r) q run l (OfBatch k) e = seen_now w es r q (OfBatch k) run l e
sees w es (Some r) q run l (OfAct t) e = seen_now w es r q (OfAct t) run l e

lessens : {C : Type 0} (w : Fixed C) (es : List Event) (o : Option (Reading w es)) (q : Reading w es) → IsRun w es → IsLaterThan o q → NoLess (read_before o) (what_is_read q)
unfolding NoLess
lessens w es None q run l = λ i. (what_is_read q i, refl)
lessens w es (Some r) q run l = λ i. is_less w es r q run l i

same_before : {C : Type 0} (w : Fixed C) (es : List Event) (q : Reading w es) (members : Who → Bool) → Taken w es (what_is_read q) members → Taken w es (read_before (Some q)) members
same_before w es q members t = record { seen = λ y e. let s = t.seen y e in record { events = s.events; later = s.later; splits = s.splits; cut = s.cut; is_cut = s.is_cut; has = s.has; within = s.within }; closed = t.closed }

rounds_stand : {C : Type 0} (w : Fixed C) (finish : C → List State → Alone) (es : List Event) (o : Option (Reading w es)) (taken : Who → Bool) (xs : List (Round w es)) → HasFacts w finish → IsText w.text → Given w (IsRest w.code (IsTxIn w.text)) finish → IsRun w es → Taken w es (read_before o) taken → GoOnRounds o taken xs → AllRoundsStand finish o taken xs
rounds_stand w finish es o taken [] f text v run t g = tt
rounds_stand w finish es o taken (x ∷ xs) f text v run t g =
    let q = x.reading in
    let l = of_reading w (IsRest w.code (IsTxIn w.text)) finish es q v run in
    let now = took w (IsRest w.code (IsTxIn w.text)) finish es (read_before o) (what_is_read q) taken x.members l (lessens w es o q run g.0.0) (sees w es o q run g.0.0) t g.0.1 in (
      stands w finish es (read_before o) (what_is_read q) taken x.members f text l (lessens w es o q run g.0.0) (sees w es o q run g.0.0) g.0.1.stay now,
      rounds_stand w finish es (Some q) x.members xs f text v run (same_before w es q x.members now) g.1,
    )

-- ---- where there is no actor nothing is read

pub no_events : {C : Type 0} (w : Fixed C) (es : List Event) → IsText w.text → length w.text.opening.states ≡ 0 → IsRun w es → es ≡ []
no_events w [] text n run = refl
no_events w (e ∷ es) text n run = absurd (none_allowed w e text n run.0)

empty_front : {X : Type 0} (xs ys : List X) → [] ≡ xs ++ ys → xs ≡ []
empty_front [] ys e = refl
empty_front (x ∷ xs) ys e = absurd (cc e)

take_none : {X : Type 0} (n : ℕ) (xs : List X) → xs ≡ [] → take n xs ≡ []
take_none zero xs e = refl
take_none (suc n) [] e = refl
take_none (suc n) (x ∷ xs) e = absurd (cc e)

pub reads_nothing : {C : Type 0} (w : Fixed C) (q : Reading w []) (l : ℕ) → what_is_read q l ≡ []
reads_nothing w q l = take_none (q.count l) (log_at (reached w (q.events l)) l).records (ap (λ es. (log_at (reached w es) l).records) (empty_front (q.events l) (q.later l) (q.splits l)) ∙ no_records w.text.logs l)

no_rounds : {C : Type 0} (w : Fixed C) (finish : C → List State → Alone) (o : Option (Reading w [])) (taken : Who → Bool) (xs : List (Round w [])) → length w.text.opening.states ≡ 0 → ((y : Who) → taken y ≡ true → ⊥) → GoOnRounds o taken xs → AllRoundsStand finish o taken xs
no_rounds w finish o taken [] n t g = tt
no_rounds {C} w finish o taken (x ∷ xs) n t g = (
  record {
    none_lost = g.0.1.stay;
    all_done = λ y e. absurd (nobody y e);
    closed = λ u v mine. absurd (no_member mine.front mine.done mine.rest mine.splits);
    serial = refl;
    states = λ a k. absurd (omega (arith, k, n));
    no_less = λ l. ([], nothing o l);
    whole_batches = λ k e. absurd (none o (OfBatch k) e);
    whole_acts = λ u e. absurd (none o (OfAct u) e);
  },
  no_rounds w finish (Some x.reading) x.members xs n nobody g.1,
)
  where
    none : (o : Option (Reading w [])) (y : Who) → is_in w.text.logs (read_before o) y ≡ true → ⊥
    none None (OfBatch k) e = true≢false (sym e)
    none None (OfAct u) e = true≢false (sym e)
    none (Some r) (OfBatch k) e = true≢false (sym e ∙ ap (list_any (is_commit k)) (reads_nothing w r (k % w.text.logs)))
    none (Some r) (OfAct u) e = true≢false (sym e ∙ ap (list_any (is_act_commit u)) (reads_nothing w r (u % w.text.logs)))

    nobody : (y : Who) → x.members y ≡ true → ⊥
    nobody y e = elim (cases_Bool (taken y)) [ inl q ↦ t y q | inr q ↦ none o y (g.0.1.seen y e q) ]

    no_member : (xs : List Done) (d : Done) (ys : List Done) → [] ≡ xs ++ d ∷ ys → ⊥
    no_member [] d ys e = cc e
    no_member (z ∷ zs) d ys e = cc e

    nothing : (o : Option (Reading w [])) (l : ℕ) → what_is_read x.reading l ≡ read_before o l ++ []
    nothing None l = reads_nothing w x.reading l
    nothing (Some r) l = reads_nothing w x.reading l ∙ (sym (reads_nothing w r l) ∙ sym (append-nil (what_is_read r l)))

pub followers_hold : {C : Type 0} → InEveryRound C
followers_hold {C} w finish es xs f text run g = by (length w.text.opening.states) refl
  where
    nobody : Taken w es (read_before {w = w} {es = es} None) (λ y. false)
    nobody = record { seen = λ y e. absurd (true≢false (sym e)); closed = λ a z y e. absurd (true≢false (sym e)) }

    quiet : (es : List Event) (xs : List (Round w es)) → es ≡ [] → length w.text.opening.states ≡ 0 → GoOnRounds None (λ y. false) xs → AllRoundsStand finish None (λ y. false) xs
    quiet [] xs e n g = no_rounds w finish None (λ y. false) xs n (λ y e. true≢false (sym e)) g
    quiet (x ∷ es) xs e n g = absurd (cc e)

    by : (n : ℕ) → length w.text.opening.states ≡ n → AllRoundsStand finish None (λ y. false) xs
    by zero n = quiet es xs (no_events w es text n run) n g
    by (suc k) n = rounds_stand w finish es None (λ y. false) xs f text (record { text = text; actors = omega (arith, n); facts = f }) run nobody g
