-- What a follower took of several runs is serial, run behind run, and its last records tell the states that it leaves.
use Rattle.std.specs.Prelude.{◌≡◌, refl, ℕ, ◌<◌, ◌%◌, Bool, true, false, ◌&&◌, ◌⊎◌, if◌then◌else◌, Option, Some, None, is_some, List, [], ◌∷◌, ◌++◌, length, filter}
use Rattle.std.specs.List.{AllByRecursion, list_any}
use Rattle.std.proofs.Common.{arith, sym, ap, subst, inl, inr, ◌∙◌}
use Rattle.std.proofs.lemmas.List.{append-nil}
use Rattle.std.proofs.lemmas.Bool.{true≢false, or_cases, or_left, or_right, and_parts, and_from, cases_Bool, false_from_ne_true}
use Rattle.snap_base.specs.declared.transactions.State.{State}
use Rattle.protocol.specs.Facts.{state_in}
use Rattle.protocol.specs.Fixed.{Opening}
use Rattle.protocol.specs.Records.{LogRecord, BatchInfo, ActDone, is_complete, is_commit, is_prepare, is_act_commit}
use Rattle.protocol.specs.Parts.{Who, OfBatch, OfAct}
use Rattle.protocol.specs.Words.{is_who, is_value}
use Rattle.protocol.specs.Runs.{reached}
use Rattle.protocol.specs.History.{Done, View, history}
use Rattle.protocol_laws.specs.Commits.{left_as, last_state}
use Rattle.protocol_laws.specs.Linked.{came_to}
use Rattle.protocol_laws.proofs.first.Lists.{filter_join, join_assoc, weaker}
use Rattle.protocol_laws.proofs.machine.TrackLists.{is_who_true, is_who_refl}
use Rattle.protocol_theorems.proofs.order.LastLaw.{facts_hold}
use Rattle.protocol_theorems.proofs.sets.RowsAgree.{filter_same}
use Rattle.protocol_records.specs.Logged.{came_valued}
use Rattle.protocol_records.specs.Telling.{One, told_states, names, last_one}
use Rattle.protocol_records.specs.Crash.{is_in, BatchIsWhole, ActIsWhole}
use Rattle.protocol_records.specs.SeveralRuns.{CutRun, logs_left, opening_left}
use Rattle.protocol_records.proofs.crash.Durable.{any_back}
use Rattle.protocol_records.proofs.crash.TellsKept.{told_join}
use Rattle.followed_runs.specs.Following.{MayTake, followed_state}
use Rattle.followed_runs.specs.FollowingRuns.{Where, nothing, head_at, tail_at, read_at, IsStill, RunsReading, head_read, tail_read, runs_read, IsLaterRead, RunsRound, GoOnRunsRounds, members_among, first_members, run_from, RunsFollowed, world_behind, RunsRoundStands, AllRunsRoundsStand, InEveryRunsRound}
use Rattle.followed_runs.proofs.ReadersFirst.{told_at}
use Rattle.followed_runs.proofs.InOrder.{in_order}
use Rattle.followed_runs.proofs.Seen.{NoLess, in_more, batch_more, act_more, seen_batch, seen_act}
use Rattle.followed_runs.proofs.RoundsStand.{taken_links, taken_tells}
use Rattle.followed_runs.proofs.ClosedByChange.{closed_by_change}
use Rattle.followed_runs.proofs.ChangedAhead.{same_told}
use Rattle.followed_runs.proofs.LeftStates.{left_state}
use Rattle.followed_runs.proofs.RunParts.{Sound, Of, given, run_of, later_nothing, later_tail, nothing_at, head_listed, head_less, head_sees, head_left, in_cases, in_left, in_right, named_left, named_right, Runs, left_long, sound, runs_behind, none_in, apart_named, named_apart}
use Rattle.followed_runs.proofs.RunsStand.{Step, Holds, round_holds, seen_named}
use Rattle.followed_runs.proofs.SerialFrom.{SerialFrom, parts_serial_from}

-- ---- lists

last_join : (s : State) (xs ys : List One) → last_one s (xs ++ ys) ≡ last_one (last_one s xs) ys
last_join s [] ys = refl
last_join s (x ∷ xs) ys = last_join x.state xs ys

join_empty : {X : Type 0} (xs ys : List X) → xs ++ ys ≡ [] → (xs ≡ []) × (ys ≡ [])
join_empty [] ys e = (refl, e)
join_empty (x ∷ xs) ys e = absurd (cc e)

-- who came nowhere on the actor leaves it
unvisited : (a : ℕ) (s : State) (ds : List Done) → AllByRecursion (λ d. came_to a d ≡ false) ds → last_state a s ds ≡ s
unvisited a s [] h = refl
unvisited a s (d ∷ ds) h = ap (λ z. last_state a z ds) (same (d.views a) (is_value d.result) h.0) ∙ unvisited a s ds h.1
  where
    same : (o : Option View) (b : Bool) → is_some o ≡ false → left_as b o s ≡ s
    same None true e = refl
    same None false e = refl
    same (Some v) b e = absurd (true≢false e)

filter_all : (p : Done → Bool) (P : Done → Type 0) (ds : List Done) → AllByRecursion (λ d. p d ≡ true → P d) ds → AllByRecursion P (filter p ds)
filter_all p P [] h = tt
filter_all p P (d ∷ ds) h = by (p d) refl (filter_all p P ds h.1)
  where
    by : (b : Bool) → p d ≡ b → AllByRecursion P (filter p ds) → AllByRecursion P (if b then d ∷ filter p ds else filter p ds)
    by true e r = (h.0 e, r)
    by false e r = r

-- the first of some that are there
first_of_some : (p : One → Bool) (os : List One) → (filter p os ≡ []) ⊎ ((o : One) × (p o ≡ true) × (names o.who os ≡ true))
first_of_some p [] = inl refl
first_of_some p (o ∷ os) = by (p o) refl (first_of_some p os)
  where
    by : (b : Bool) → p o ≡ b → (filter p os ≡ []) ⊎ ((x : One) × (p x ≡ true) × (names x.who os ≡ true)) → ((if b then o ∷ filter p os else filter p os) ≡ []) ⊎ ((x : One) × (p x ≡ true) × (names x.who (o ∷ os) ≡ true))
    by true e r = inr (o, e, or_left (is_who o.who o.who) (names o.who os) (is_who_refl o.who))
    by false e (inl r) = inl r
    by false e (inr r) = inr (r.0, r.1, or_right (is_who r.0.who o.who) (names r.0.who os) r.2)

-- one that is named and in the set is there
none_named : (P : Who → Bool) (y : Who) (os : List One) → filter (λ o. P o.who) os ≡ [] → names y os ≡ true → P y ≡ true → ⊥
none_named P y [] e n p = true≢false (sym n)
none_named P y (o ∷ os) e n p = by (P o.who) refl e (λ f m. none_named P y os f m p)
  where
    by : (b : Bool) → P o.who ≡ b → (if b then o ∷ filter (λ o. P o.who) os else filter (λ o. P o.who) os) ≡ [] → (filter (λ o. P o.who) os ≡ [] → names y os ≡ true → ⊥) → ⊥
    by true i f k = cc f
    by false i f k = elim (or_cases (is_who y o.who) (names y os) n) [
      | inl q ↦ true≢false (sym p ∙ (ap P (is_who_true y o.who q) ∙ i))
      | inr q ↦ k f q
    ]

all_named : (P : One → Type 0) (os : List One) → ((o : One) → names o.who os ≡ true → P o) → AllByRecursion P os
all_named P [] h = tt
all_named P (o ∷ os) h = (h o (or_left (is_who o.who o.who) _ (is_who_refl o.who)), all_named P os (λ u q. h u (or_right (is_who u.who o.who) _ q)))

same_filter : (P Q : Who → Bool) (os : List One) → ((y : Who) → names y os ≡ true → P y ≡ Q y) → filter (λ o. P o.who) os ≡ filter (λ o. Q o.who) os
same_filter P Q os h = filter_same (λ o. P o.who) (λ o. Q o.who) os (all_named (λ o. P o.who ≡ Q o.who) os (λ o n. h o.who n))

-- ---- what is ready before the runs

-- a member that has a record commits in these runs
abbrev pub Owned : {C : Type 0} → ℕ → (xs : List (CutRun C)) → RunsReading xs → (Who → Bool) → Type 0
Owned many xs r members = (a : ℕ) (y : Who) → members y ≡ true → names y (told_states a (runs_read xs r (a % many))) ≡ true → is_in many (runs_read xs r) y ≡ true

-- on each actor the world is that of the opening, or no member has a record
abbrev pub Agrees : {C : Type 0} → ℕ → Opening → (xs : List (CutRun C)) → RunsReading xs → (Who → Bool) → List State → Type 0
Agrees many o xs r members world = (a : ℕ) → a < length o.states → (state_in world a ≡ state_in o.states a) ⊎ (filter (λ e. members e.who) (told_states a (runs_read xs r (a % many))) ≡ [])

record Ready {C : Type 0} (many : ℕ) (o : Opening) (xs : List (CutRun C)) (r : RunsReading xs) (members : Who → Bool) (world : List State) : Type 0 where
  runs : Runs many o xs
  holds : Holds many xs r members
  owned : Owned many xs r members
  long : length world ≡ length o.states
  agrees : Agrees many o xs r members world

record Result {C : Type 0} (many : ℕ) (o : Opening) (xs : List (CutRun C)) (r : RunsReading xs) (members : Who → Bool) (world : List State) : Type 0 where
  followed : RunsFollowed many xs r members world
  states : (a : ℕ) → a < length o.states → last_one (state_in world a) (filter (λ e. members e.who) (told_states a (runs_read xs r (a % many)))) ≡ state_in (world_behind many xs r members world) a

-- ---- one run, with as many logs as it says, from its own opening

own_sound : {C : Type 0} (x : CutRun C) (xs : List (CutRun C)) (r : RunsReading (x ∷ xs)) (members : Who → Bool) (world : List State) → Ready x.fixed.text.logs x.fixed.text.opening (x ∷ xs) r members world → Sound x
own_sound x xs r members world d = sound x.fixed.text.logs x.fixed.text.opening x xs d.runs

abbrev Ours : {C : Type 0} (x : CutRun C) (xs : List (CutRun C)) → RunsReading (x ∷ xs) → (Who → Bool) → Who → Bool
Ours x xs r members = members_among x.fixed.text.logs (head_read x xs r) members

-- of those with a record in the run's part, the members are the run's
part_filter : {C : Type 0} (x : CutRun C) (xs : List (CutRun C)) (r : RunsReading (x ∷ xs)) (members : Who → Bool) (world : List State) (a : ℕ) → Ready x.fixed.text.logs x.fixed.text.opening (x ∷ xs) r members world
    → filter (λ e. members e.who) (told_states a (head_read x xs r (a % x.fixed.text.logs))) ≡ filter (λ e. Ours x xs r members e.who) (told_states a (head_read x xs r (a % x.fixed.text.logs)))
part_filter x xs r members world a d = same_filter members (Ours x xs r members) (told_states a (head_read x xs r (a % x.fixed.text.logs))) (λ y n. by y n (members y) refl)
  where
    by : (y : Who) → names y (told_states a (head_read x xs r (a % x.fixed.text.logs))) ≡ true → (b : Bool) → members y ≡ b → b ≡ (b && is_in x.fixed.text.logs (head_read x xs r) y)
    by y n false e = refl
    by y n true e = sym (elim (in_cases x.fixed.text.logs (head_read x xs r) (runs_read xs (tail_read x xs r)) y (d.owned a y e (named_left a y (head_read x xs r (a % x.fixed.text.logs)) (runs_read xs (tail_read x xs r) (a % x.fixed.text.logs)) n))) [
      | inl i ↦ i
      | inr i ↦ absurd (named_apart x.fixed.text.logs a x.fixed.text.opening x xs r r y d.runs n i)
    ])

-- where none has a record nobody came
nobody_came : {C : Type 0} (x : CutRun C) (xs : List (CutRun C)) (r : RunsReading (x ∷ xs)) (members : Who → Bool) (world : List State) (a : ℕ) → Ready x.fixed.text.logs x.fixed.text.opening (x ∷ xs) r members world
    → filter (λ e. Ours x xs r members e.who) (told_states a (head_read x xs r (a % x.fixed.text.logs))) ≡ [] → AllByRecursion (λ e. came_to a e ≡ false) (first_members x.fixed.text.logs x xs r members)
nobody_came {C} x xs r members world a d e =
    filter_all (λ z. Ours x xs r members z.who && is_value z.result) (λ z. came_to a z ≡ false) (history x.fixed x.moment.events).committed
    (weaker (λ z. came_valued a z ≡ true → names z.who (told_at x.fixed (reached x.fixed x.moment.events) a) ≡ true) (λ z. (Ours x xs r members z.who && is_value z.result) ≡ true → came_to a z ≡ false) (history x.fixed x.moment.events).committed (λ z p q. false_from_ne_true (came_to a z) (λ c. none z p (and_parts (Ours x xs r members z.who) (is_value z.result) q) c)) ((in_order x.fixed (Of x) x.finish x.moment.events (given x sd) (run_of x sd)).came a))
  where
    sd : Sound x
    sd = own_sound x xs r members world d

    none : (z : Done) → (came_valued a z ≡ true → names z.who (told_at x.fixed (reached x.fixed x.moment.events) a) ≡ true) → (Ours x xs r members z.who ≡ true) × (is_value z.result ≡ true) → came_to a z ≡ true → ⊥
    none z p q c =
        none_named (Ours x xs r members) z.who (told_states a (head_read x xs r (a % x.fixed.text.logs))) e
        (seen_named x.fixed (Of x) x.finish x.moment.events (head_read x xs r) a z.who (head_listed x xs sd r) (d.holds.taken.0.seen z.who q.0) (p (and_from (is_some (z.views a)) (is_value z.result) c q.1))) q.0

-- ---- the run's members from the world

-- the records, the run's and those behind it
parts : {C : Type 0} (x : CutRun C) (xs : List (CutRun C)) (r : RunsReading (x ∷ xs)) (members : Who → Bool) (a many : ℕ) → filter (λ e. members e.who) (told_states a (runs_read (x ∷ xs) r (a % many))) ≡ filter (λ e. members e.who) (told_states a (head_read x xs r (a % many))) ++ filter (λ e. members e.who) (told_states a (runs_read xs (tail_read x xs r) (a % many)))
parts x xs r members a many = ap (filter (λ e. members e.who)) (told_join a (head_read x xs r (a % many)) (runs_read xs (tail_read x xs r) (a % many))) ∙ filter_join (λ e. members e.who) (told_states a (head_read x xs r (a % many))) (told_states a (runs_read xs (tail_read x xs r) (a % many)))

head_none : {C : Type 0} (x : CutRun C) (xs : List (CutRun C)) (r : RunsReading (x ∷ xs)) (members : Who → Bool) (a many : ℕ) → filter (λ e. members e.who) (told_states a (runs_read (x ∷ xs) r (a % many))) ≡ [] → filter (λ e. members e.who) (told_states a (head_read x xs r (a % many))) ≡ []
head_none x xs r members a many e = (join_empty (filter (λ e. members e.who) (told_states a (head_read x xs r (a % many)))) (filter (λ e. members e.who) (told_states a (runs_read xs (tail_read x xs r) (a % many)))) (sym (parts x xs r members a many) ∙ e)).0

serial_here : {C : Type 0} (x : CutRun C) (xs : List (CutRun C)) (r : RunsReading (x ∷ xs)) (members : Who → Bool) (world : List State) → Ready x.fixed.text.logs x.fixed.text.opening (x ∷ xs) r members world → SerialFrom x.fixed x.finish world (first_members x.fixed.text.logs x xs r members)
serial_here {C} x xs r members world d =
    parts_serial_from x.fixed x.finish (reached x.fixed x.moment.events) (history x.fixed x.moment.events) (Ours x xs r members) world (facts_hold x.fixed (Of x) x.finish x.moment.events (given x sd) (run_of x sd)) d.long
    (λ a k. elim (d.agrees a k) [ inl e ↦ inr e | inr e ↦ inl (nobody_came x xs r members world a d (sym (part_filter x xs r members world a d) ∙ head_none x xs r members a x.fixed.text.logs e)) ])
    (λ a k. (taken_links x.fixed (Of x) x.finish x.moment.events (head_read x xs r) (Ours x xs r members) (head_listed x xs sd r) d.holds.taken.0 a).links)
  where
    sd : Sound x
    sd = own_sound x xs r members world d

abbrev WorldOf : {C : Type 0} (x : CutRun C) (xs : List (CutRun C)) → RunsReading (x ∷ xs) → (Who → Bool) → List State → List State
WorldOf x xs r members world = (run_from x world (first_members x.fixed.text.logs x xs r members)).world

-- the last record of a member of the run tells the state that they leave
tells_here : {C : Type 0} (x : CutRun C) (xs : List (CutRun C)) (r : RunsReading (x ∷ xs)) (members : Who → Bool) (world : List State) (a : ℕ) → (d : Ready x.fixed.text.logs x.fixed.text.opening (x ∷ xs) r members world) → a < length x.fixed.text.opening.states
    → last_one (state_in world a) (filter (λ e. members e.who) (told_states a (head_read x xs r (a % x.fixed.text.logs)))) ≡ state_in (WorldOf x xs r members world) a
tells_here {C} x xs r members world a d k = by (d.agrees a k)
  where
    sd : Sound x
    sd = own_sound x xs r members world d

    leaves : state_in (WorldOf x xs r members world) a ≡ last_state a (state_in world a) (first_members x.fixed.text.logs x xs r members)
    leaves = (serial_here x xs r members world d).states a (omega (arith, k, d.long))

    tells : followed_state x.fixed.text.logs (Ours x xs r members) (head_read x xs r) a (state_in x.fixed.text.opening.states a) ≡ last_state a (state_in x.fixed.text.opening.states a) (first_members x.fixed.text.logs x xs r members)
    tells = taken_tells x.fixed (Of x) x.finish x.moment.events (head_read x xs r) (Ours x xs r members) (head_listed x xs sd r) d.holds.taken.0 a

    by : (state_in world a ≡ state_in x.fixed.text.opening.states a) ⊎ (filter (λ e. members e.who) (told_states a (runs_read (x ∷ xs) r (a % x.fixed.text.logs))) ≡ []) → last_one (state_in world a) (filter (λ e. members e.who) (told_states a (head_read x xs r (a % x.fixed.text.logs)))) ≡ state_in (WorldOf x xs r members world) a
    by (inl e) =
        ap (last_one (state_in world a)) (part_filter x xs r members world a d)
        ∙ (ap (λ z. last_one z (filter (λ e. Ours x xs r members e.who) (told_states a (head_read x xs r (a % x.fixed.text.logs))))) e
        ∙ (tells ∙ (ap (λ z. last_state a z (first_members x.fixed.text.logs x xs r members)) (sym e) ∙ sym leaves)))
    by (inr e) =
        let n = head_none x xs r members a x.fixed.text.logs e in
        ap (last_one (state_in world a)) n ∙ sym (leaves ∙ (unvisited a (state_in world a) (first_members x.fixed.text.logs x xs r members) (nobody_came x xs r members world a d (sym (part_filter x xs r members world a d) ∙ n))))

-- where a member of a later run has a record, the members of this run are left, and who is left and no member changed nothing
ours_tell : {C : Type 0} (x : CutRun C) (xs : List (CutRun C)) (r : RunsReading (x ∷ xs)) (members : Who → Bool) (world : List State) (a : ℕ) (y : Who) → Ready x.fixed.text.logs x.fixed.text.opening (x ∷ xs) r members world
    → members y ≡ true → is_in x.fixed.text.logs (runs_read xs (tail_read x xs r)) y ≡ true → names y (told_states a (runs_read xs (tail_read x xs r) (a % x.fixed.text.logs))) ≡ true
    → last_one (state_in x.fixed.text.opening.states a) (filter (λ e. members e.who) (told_states a (head_read x xs r (a % x.fixed.text.logs)))) ≡ last_one (state_in x.fixed.text.opening.states a) (filter (λ e. is_in x.fixed.text.logs (logs_left x) e.who) (told_states a (logs_left x (a % x.fixed.text.logs))))
ours_tell {C} x xs r members world a y d m iy n =
    ap (λ rs. last_one (state_in x.fixed.text.opening.states a) (filter (λ e. members e.who) (told_states a rs))) (d.holds.crossed.0.over y m iy (a % x.fixed.text.logs))
    ∙ same_told members (is_in x.fixed.text.logs (logs_left x)) (state_in x.fixed.text.opening.states a) (told_states a (logs_left x (a % x.fixed.text.logs))) (λ z nz p. here z nz p) (λ z lz changes. d.holds.crossed.0.taken a y z m iy n lz changes)
  where
    here : (z : Who) → names z (told_states a (logs_left x (a % x.fixed.text.logs))) ≡ true → members z ≡ true → is_in x.fixed.text.logs (logs_left x) z ≡ true
    here z nz p =
        let nh : names z (told_states a (head_read x xs r (a % x.fixed.text.logs))) ≡ true = ap (λ w. names z (told_states a w)) (d.holds.crossed.0.over y m iy (a % x.fixed.text.logs)) ∙ nz in
        in_more x.fixed.text.logs (head_read x xs r) (logs_left x) z (head_left x xs (own_sound x xs r members world d) r) (elim (in_cases x.fixed.text.logs (head_read x xs r) (runs_read xs (tail_read x xs r)) z (d.owned a z p (named_left a z (head_read x xs r (a % x.fixed.text.logs)) (runs_read xs (tail_read x xs r) (a % x.fixed.text.logs)) nh))) [
          | inl i ↦ i
          | inr i ↦ absurd (named_apart x.fixed.text.logs a x.fixed.text.opening x xs r r z d.runs nh i)
        ])

-- there the world is what the run left
agrees_behind : {C : Type 0} (x : CutRun C) (xs : List (CutRun C)) (r : RunsReading (x ∷ xs)) (members : Who → Bool) (world : List State) → Ready x.fixed.text.logs x.fixed.text.opening (x ∷ xs) r members world → Owned x.fixed.text.logs xs (tail_read x xs r) members
    → Agrees x.fixed.text.logs (opening_left x) xs (tail_read x xs r) members (WorldOf x xs r members world)
agrees_behind {C} x xs r members world d owned a k0 = elim (first_of_some (λ e. members e.who) (told_states a (runs_read xs (tail_read x xs r) (a % x.fixed.text.logs)))) [
  | inl e ↦ inr e
  | inr f ↦ inl (by f.0.who f.1 f.2 (d.agrees a k))
]
  where
    k : a < length x.fixed.text.opening.states
    k = omega (arith, k0, left_long x.fixed.text.logs (logs_left x) 0 x.fixed.text.opening.states)

    by : (y : Who) → members y ≡ true → names y (told_states a (runs_read xs (tail_read x xs r) (a % x.fixed.text.logs))) ≡ true → (state_in world a ≡ state_in x.fixed.text.opening.states a) ⊎ (filter (λ e. members e.who) (told_states a (runs_read (x ∷ xs) r (a % x.fixed.text.logs))) ≡ []) → state_in (WorldOf x xs r members world) a ≡ state_in (opening_left x).states a
    by y m n (inr e) = absurd (none_named members y (told_states a (runs_read (x ∷ xs) r (a % x.fixed.text.logs))) e (named_right a y (head_read x xs r (a % x.fixed.text.logs)) (runs_read xs (tail_read x xs r) (a % x.fixed.text.logs)) n) m)
    by y m n (inl e) =
        sym (tells_here x xs r members world a d k)
        ∙ (ap (λ z. last_one z (filter (λ e. members e.who) (told_states a (head_read x xs r (a % x.fixed.text.logs))))) e
        ∙ (ours_tell x xs r members world a y d m (owned a y m n) n ∙ sym (left_state x a k)))

owned_behind : {C : Type 0} (x : CutRun C) (xs : List (CutRun C)) (r : RunsReading (x ∷ xs)) (members : Who → Bool) (world : List State) → Ready x.fixed.text.logs x.fixed.text.opening (x ∷ xs) r members world → Owned x.fixed.text.logs xs (tail_read x xs r) members
owned_behind x xs r members world d a y m n = elim (in_cases x.fixed.text.logs (head_read x xs r) (runs_read xs (tail_read x xs r)) y (d.owned a y m (named_right a y (head_read x xs r (a % x.fixed.text.logs)) (runs_read xs (tail_read x xs r) (a % x.fixed.text.logs)) n))) [
  | inl i ↦ absurd (apart_named x.fixed.text.logs a x.fixed.text.opening x xs r r y d.runs i n)
  | inr i ↦ i
]

ready_behind : {C : Type 0} (x : CutRun C) (xs : List (CutRun C)) (r : RunsReading (x ∷ xs)) (members : Who → Bool) (world : List State) → Ready x.fixed.text.logs x.fixed.text.opening (x ∷ xs) r members world → Ready x.fixed.text.logs (opening_left x) xs (tail_read x xs r) members (WorldOf x xs r members world)
ready_behind x xs r members world d = record {
  runs = runs_behind x.fixed.text.logs x.fixed.text.opening x xs d.runs;
  holds = record { taken = d.holds.taken.1; crossed = d.holds.crossed.1 };
  owned = owned_behind x xs r members world d;
  long = (serial_here x xs r members world d).as_many ∙ (d.long ∙ sym (left_long x.fixed.text.logs (logs_left x) 0 x.fixed.text.opening.states));
  agrees = agrees_behind x xs r members world d (owned_behind x xs r members world d);
}

one_run : {C : Type 0} (x : CutRun C) (xs : List (CutRun C)) (r : RunsReading (x ∷ xs)) (members : Who → Bool) (world : List State) → (d : Ready x.fixed.text.logs x.fixed.text.opening (x ∷ xs) r members world)
    → Result x.fixed.text.logs (opening_left x) xs (tail_read x xs r) members (WorldOf x xs r members world) → Result x.fixed.text.logs x.fixed.text.opening (x ∷ xs) r members world
one_run x xs r members world d rest =
    let sd = own_sound x xs r members world d in
    record {
      followed = (
        (
          closed_by_change x.fixed (Of x) x.finish x.moment.events (Ours x xs r members) (given x sd) (run_of x sd) d.holds.taken.0.closed,
          (serial_here x xs r members world d).results,
        ),
        rest.followed,
      );
      states = λ a k.
          ap (last_one (state_in world a)) (parts x xs r members a x.fixed.text.logs)
          ∙ (last_join (state_in world a) (filter (λ e. members e.who) (told_states a (head_read x xs r (a % x.fixed.text.logs)))) (filter (λ e. members e.who) (told_states a (runs_read xs (tail_read x xs r) (a % x.fixed.text.logs))))
          ∙ (ap (λ z. last_one z (filter (λ e. members e.who) (told_states a (runs_read xs (tail_read x xs r) (a % x.fixed.text.logs))))) (tells_here x xs r members world a d k)
          ∙ rest.states a (omega (arith, k, left_long x.fixed.text.logs (logs_left x) 0 x.fixed.text.opening.states))));
    }

runs_serial : {C : Type 0} (many : ℕ) (o : Opening) (xs : List (CutRun C)) (r : RunsReading xs) (members : Who → Bool) (world : List State) → Ready many o xs r members world → Result many o xs r members world
runs_serial many o [] r members world d = record { followed = tt; states = λ a k. refl }
runs_serial many o (x ∷ xs) r members world d =
    subst (λ p. Ready many p (x ∷ xs) r members world → Result many p (x ∷ xs) r members world) d.runs.2.1
    (subst (λ m. Ready m x.fixed.text.opening (x ∷ xs) r members world → Result m x.fixed.text.opening (x ∷ xs) r members world) d.runs.1.0
    (λ e. one_run x xs r members world e (runs_serial x.fixed.text.logs (opening_left x) xs (tail_read x xs r) members (WorldOf x xs r members world) (ready_behind x xs r members world e))))
    d

-- ---- nothing is lost, and nothing missing

read_less : {C : Type 0} (many : ℕ) (o : Opening) (xs : List (CutRun C)) (r q : RunsReading xs) → Runs many o xs → IsLaterRead xs r q → (l : ℕ) → (more : List LogRecord) × (runs_read xs q l ≡ runs_read xs r l ++ more)
unfolding NoLess
read_less many o [] r q g h l = ([], refl)
read_less {C} many o (x ∷ xs) r q g h l = by (r l) (q l) (h.still l) (head_less x xs (sound many o x xs g) r q h l) (read_less many (opening_left x) xs (tail_read x xs r) (tail_read x xs q) (runs_behind many o x xs g) (later_tail x xs r q h) l)
  where
    by : (p t : Where (x ∷ xs) l) → IsStill (x ∷ xs) l p t → (more : List LogRecord) × (head_at x xs l t ≡ head_at x xs l p ++ more) → (more : List LogRecord) × (read_at xs l (tail_at x xs l t) ≡ read_at xs l (tail_at x xs l p) ++ more)
        → (more : List LogRecord) × (read_at (x ∷ xs) l t ≡ read_at (x ∷ xs) l p ++ more)
    by None t k a b = (read_at (x ∷ xs) l t, ap (λ z. z ++ read_at (x ∷ xs) l t) (sym (nothing_at xs l)))
    by (Some (inl p)) None k a b = absurd k
    by (Some (inr p)) None k a b = absurd k
    by (Some (inr p)) (Some (inl t)) k a b = absurd k
    by (Some (inl p)) t k a b = (a.0 ++ read_at xs l (tail_at x xs l t), ap (λ z. z ++ read_at xs l (tail_at x xs l t)) a.1 ∙ (join_assoc (head_at x xs l (Some (inl p))) a.0 (read_at xs l (tail_at x xs l t)) ∙ ap (λ z. z ++ (a.0 ++ read_at xs l (tail_at x xs l t))) (sym (append-nil (head_at x xs l (Some (inl p)))) ∙ ap (λ z. head_at x xs l (Some (inl p)) ++ z) (sym (nothing_at xs l)))))
    by (Some (inr p)) (Some (inr t)) k a b = (b.0, ap (λ z. logs_left x l ++ z) b.1 ∙ sym (join_assoc (logs_left x l) (read_at xs l p) b.0))

batch_back : (many : ℕ) (front back : ℕ → List LogRecord) (k : ℕ) → BatchIsWhole many back k → BatchIsWhole many (λ l. front l ++ back l) k
batch_back many front back k b = record {
  actors = b.actors;
  tids = b.tids;
  front = front (k % many) ++ b.front;
  rest = b.rest;
  info = ap (λ z. front (k % many) ++ z) b.info ∙ sym (join_assoc (front (k % many)) b.front (BatchInfo k b.actors b.tids ∷ b.rest));
  completes = weaker (λ a. list_any (is_complete k a) (back (a % many)) ≡ true) (λ a. list_any (is_complete k a) (front (a % many) ++ back (a % many)) ≡ true) b.actors (λ a h. any_back (is_complete k a) (front (a % many)) (back (a % many)) h) b.completes;
}

act_back : (many : ℕ) (front back : ℕ → List LogRecord) (t : ℕ) → ActIsWhole many back t → ActIsWhole many (λ l. front l ++ back l) t
act_back many front back t b = record {
  m = b.m;
  c = b.c;
  v = b.v;
  actors = b.actors;
  front = front (t % many) ++ b.front;
  rest = b.rest;
  commit = ap (λ z. front (t % many) ++ z) b.commit ∙ sym (join_assoc (front (t % many)) b.front (ActDone t b.m b.c b.v b.actors ∷ b.rest));
  prepares = weaker (λ a. list_any (is_prepare t a) (back (a % many)) ≡ true) (λ a. list_any (is_prepare t a) (front (a % many) ++ back (a % many)) ≡ true) b.actors (λ a h. any_back (is_prepare t a) (front (a % many)) (back (a % many)) h) b.prepares;
}

join_less : (front back : ℕ → List LogRecord) → NoLess front (λ l. front l ++ back l)
unfolding NoLess
join_less front back = λ l. (back l, refl)

whole_batches : {C : Type 0} (many k : ℕ) (o : Opening) (xs : List (CutRun C)) (r q : RunsReading xs) → Runs many o xs → IsLaterRead xs r q → is_in many (runs_read xs r) (OfBatch k) ≡ true → BatchIsWhole many (runs_read xs q) k
whole_batches many k o [] r q g h e = absurd (none_in many (OfBatch k) e)
whole_batches many k o (x ∷ xs) r q g h e = elim (in_cases many (head_read x xs r) (runs_read xs (tail_read x xs r)) (OfBatch k) e) [
  | inl i ↦
      let s = sound many o x xs g in
      let b = seen_batch x.fixed (Of x) x.finish x.moment.events (head_read x xs q) k (head_listed x xs s q) (head_sees x xs s r q h (OfBatch k) (subst (λ m. is_in m (head_read x xs r) (OfBatch k) ≡ true) (sym g.1.0) i)) in
      batch_more many (head_read x xs q) (runs_read (x ∷ xs) q) k (join_less (head_read x xs q) (runs_read xs (tail_read x xs q))) (subst (λ m. BatchIsWhole m (head_read x xs q) k) g.1.0 b)
  | inr i ↦ batch_back many (head_read x xs q) (runs_read xs (tail_read x xs q)) k (whole_batches many k (opening_left x) xs (tail_read x xs r) (tail_read x xs q) (runs_behind many o x xs g) (later_tail x xs r q h) i)
]

whole_acts : {C : Type 0} (many t : ℕ) (o : Opening) (xs : List (CutRun C)) (r q : RunsReading xs) → Runs many o xs → IsLaterRead xs r q → is_in many (runs_read xs r) (OfAct t) ≡ true → ActIsWhole many (runs_read xs q) t
whole_acts many t o [] r q g h e = absurd (none_in many (OfAct t) e)
whole_acts many t o (x ∷ xs) r q g h e = elim (in_cases many (head_read x xs r) (runs_read xs (tail_read x xs r)) (OfAct t) e) [
  | inl i ↦
      let s = sound many o x xs g in
      let b = seen_act x.fixed (Of x) x.finish x.moment.events (head_read x xs q) t (head_listed x xs s q) (head_sees x xs s r q h (OfAct t) (subst (λ m. is_in m (head_read x xs r) (OfAct t) ≡ true) (sym g.1.0) i)) in
      act_more many (head_read x xs q) (runs_read (x ∷ xs) q) t (join_less (head_read x xs q) (runs_read xs (tail_read x xs q))) (subst (λ m. ActIsWhole m (head_read x xs q) t) g.1.0 b)
  | inr i ↦ act_back many (head_read x xs q) (runs_read xs (tail_read x xs q)) t (whole_acts many t (opening_left x) xs (tail_read x xs r) (tail_read x xs q) (runs_behind many o x xs g) (later_tail x xs r q h) i)
]

-- ---- round by round

-- what a round begins with: who is taken is in what was read
record Began {C : Type 0} (many : ℕ) (xs : List (CutRun C)) (r : RunsReading xs) (before : ℕ → List LogRecord) (taken : Who → Bool) : Type 0 where
  holds : Holds many xs r taken
  read : (y : Who) → taken y ≡ true → is_in many (runs_read xs r) y ≡ true
  known : (y : Who) → is_in many before y ≡ true → is_in many (runs_read xs r) y ≡ true

one_round : {C : Type 0} (many : ℕ) (o : Opening) (xs : List (CutRun C)) (r q : RunsReading xs) (before : ℕ → List LogRecord) (taken members : Who → Bool) → Runs many o xs → IsLaterRead xs r q → ((y : Who) → is_in many (runs_read xs r) y ≡ true → is_in many (runs_read xs q) y ≡ true)
    → ((l : ℕ) → (more : List LogRecord) × (runs_read xs q l ≡ before l ++ more)) → Began many xs r before taken → MayTake many (state_in o.states) taken before (runs_read xs q) members → RunsRoundStands many o xs taken before q members × Began many xs q (runs_read xs q) members
one_round many o xs r q before taken members g h more less b m =
    let step : Step many (state_in o.states) (runs_read xs r) (runs_read xs q) taken members = record {
      stay = m.stay;
      old = λ y t i. b.read y t;
      seen = λ y i t j. b.known y (m.seen y i t);
      rest_on = λ y z i t j a k. m.rest_on y z i t a k;
    } in
    let holds = round_holds many o xs r q taken members g h b.holds step in
    let read : (y : Who) → members y ≡ true → is_in many (runs_read xs q) y ≡ true = λ y i. elim (cases_Bool (taken y)) [ inl e ↦ more y (b.read y e) | inr e ↦ more y (b.known y (m.seen y i e)) ] in
    let result = runs_serial many o xs q members o.states (record { runs = g; holds = holds; owned = λ a y i n. read y i; long = refl; agrees = λ a k. inl refl }) in (
      record {
        none_lost = m.stay;
        runs = result.followed;
        crossed = holds.crossed;
        states = result.states;
        no_less = less;
        whole_batches = λ k e. whole_batches many k o xs r q g h (b.known (OfBatch k) e);
        whole_acts = λ t e. whole_acts many t o xs r q g h (b.known (OfAct t) e);
      },
      record { holds = holds; read = read; known = λ y i. i },
    )

-- what was read is read again
read_more : {C : Type 0} (many : ℕ) (o : Opening) (xs : List (CutRun C)) (r q : RunsReading xs) (y : Who) → Runs many o xs → IsLaterRead xs r q → is_in many (runs_read xs r) y ≡ true → is_in many (runs_read xs q) y ≡ true
read_more many o [] r q y g h e = absurd (none_in many y e)
read_more many o (x ∷ xs) r q y g h e = elim (in_cases many (head_read x xs r) (runs_read xs (tail_read x xs r)) y e) [
  | inl i ↦ in_left many (head_read x xs q) (runs_read xs (tail_read x xs q)) y (in_more many (head_read x xs r) (head_read x xs q) y (head_less x xs (sound many o x xs g) r q h) i)
  | inr i ↦ in_right many (head_read x xs q) (runs_read xs (tail_read x xs q)) y (read_more many (opening_left x) xs (tail_read x xs r) (tail_read x xs q) y (runs_behind many o x xs g) (later_tail x xs r q h) i)
]

-- before the first round nothing is read, and nobody is taken
nothing_in : {C : Type 0} (many : ℕ) (xs : List (CutRun C)) (y : Who) → is_in many (runs_read xs (λ l. nothing xs l)) y ≡ true → ⊥
nothing_in many xs (OfBatch k) e = true≢false (sym e ∙ ap (list_any (is_commit k)) (nothing_at xs (k % many)))
nothing_in many xs (OfAct t) e = true≢false (sym e ∙ ap (list_any (is_act_commit t)) (nothing_at xs (t % many)))

none_taken : {C : Type 0} (many : ℕ) (xs : List (CutRun C)) → Holds many xs (λ l. nothing xs l) (λ y. false)
none_taken many [] = record { taken = tt; crossed = tt }
none_taken many (x ∷ xs) =
    let r = none_taken many xs in
    record {
      taken = (record { seen = λ y e. absurd (true≢false (sym e)); closed = λ a z y e. absurd (true≢false (sym e)) }, r.taken);
      crossed = (record { over = λ y e. absurd (true≢false (sym e)); taken = λ a y z e. absurd (true≢false (sym e)) }, r.crossed);
    }

later_rounds : {C : Type 0} (many : ℕ) (o : Opening) (xs : List (CutRun C)) (r : RunsReading xs) (taken : Who → Bool) (ys : List (RunsRound xs)) → Runs many o xs → Began many xs r (runs_read xs r) taken → GoOnRunsRounds many (state_in o.states) xs (Some r) taken ys → AllRunsRoundsStand many o xs (Some r) taken ys
later_rounds many o xs r taken [] g b h = tt
later_rounds many o xs r taken (y ∷ ys) g b h =
    let one = one_round many o xs r y.reading (runs_read xs r) taken y.members g h.0.0 (λ z i. read_more many o xs r y.reading z g h.0.0 i) (read_less many o xs r y.reading g h.0.0) b h.0.1 in
    (one.0, later_rounds many o xs y.reading y.members ys g one.1 h.1)

pub runs_followed : {C : Type 0} → InEveryRunsRound C
runs_followed many o xs [] actors same go h = tt
runs_followed many o xs (y ∷ ys) actors same go h =
    let g : Runs many o xs = (actors, same, go) in
    let b : Began many xs (λ l. nothing xs l) (λ l. []) (λ z. false) = record { holds = none_taken many xs; read = λ z e. absurd (true≢false (sym e)); known = λ z e. absurd (none_in many z e) } in
    let one = one_round many o xs (λ l. nothing xs l) y.reading (λ l. []) (λ z. false) y.members g (later_nothing xs y.reading) (λ z i. absurd (nothing_in many xs z i)) (λ l. (runs_read xs y.reading l, refl)) b h.0.1 in
    (one.0, later_rounds many o xs y.reading y.members ys g one.1 h.1)
