-- Looks at runs one behind the other are rounds over findings of the machine's runs.
use Rattle.std.specs.Prelude.{◌≡◌, refl, ℕ, zero, suc, ◌+◌, ◌<◌, ◌≤◌, nat_lt, Bool, true, false, ◌⊎◌, Option, Some, None, List, [], ◌∷◌, ◌++◌, length, map, take, Contains}
use Rattle.std.specs.List.{AllByRecursion}
use Rattle.std.proofs.Common.{inl, inr, arith, sym, ap, subst, ◌∙◌}
use Rattle.std.proofs.lemmas.Bool.{cases_lt, ltb-true, lt-ltb, true≢false}
use Rattle.std.proofs.lemmas.List.{append-nil, append_assoc}
use Rattle.aml_slice.specs.Controls.{Rest}
use Rattle.aml_tree.specs.Tree.{CheckedMethod}
use Rattle.followed_logs.specs.OnRecords.{Finding, FollowRound, GoOnFollowing, IsLaterFinding, found_last, in_first, known_then, lists_found}
use Rattle.followed_meant.specs.AsMeant.{AreOnLogsOf, FollowersGoOn, FollowersTellMeantStates, GoOnOf, cut_runs}
use Rattle.followed_runs.specs.FollowingRuns.{IsNoEarlier, IsStill, Spot, Where, nothing, read_at, runs_read}
use Rattle.log_set.specs.Told.{all_told}
use Rattle.machine_laws.specs.Programs.{IsTextOf}
use Rattle.machine_recovery.specs.OnLogs.{CutRunOf, as_cut_run}
use Rattle.protocol.specs.Effects.{log_at}
use Rattle.protocol.specs.Fixed as machine
use Rattle.protocol.specs.Fixed.{Fixed}
use Rattle.protocol.specs.Footprints.{HasLogs}
use Rattle.protocol.specs.Laws.{AfterEveryRun}
use Rattle.protocol.specs.Parts.{Log}
use Rattle.protocol.specs.Records.{LogRecord}
use Rattle.protocol.specs.Runs.{IsRun, reached}
use Rattle.protocol_records.proofs.crash.CrashImplied.{front_runs, moment_is_cut}
use Rattle.protocol_records.specs.SeveralRuns.{CutRun, logs_left, opening_left}
use Rattle.record_log.specs.GrowthLaws.{MomentKeeps}
use Rattle.record_log.specs.RecordLogLaws.{OneListOfRecords}
use Rattle.record_log.specs.Records.{HoldsRecords}
use Rattle.recovery_laws.proofs.WrittenLists.{grown_length, written_join}
use Rattle.run_effects.specs.Laws.{GroupsAreDurable}
use Rattle.run_opening.specs.Opens.{records_at}
use Rattle.run_recovery.proofs.BegunTexts.{starts_with_as_many, text_begins}
use Rattle.run_recovery.proofs.LogsLeft.{first_long as run_long, grown_at}
use Rattle.run_recovery.proofs.RunsFollowed.{taken_run}
use Rattle.run_recovery.specs.Crashes.{earlier}
use Rattle.run_recovery.specs.OneRun.{MomentOf, machine_in, reached_at}
use Rattle.run_recovery.specs.Runs.{text_of}
use Rattle.snap_follow.specs.Refusals.{IsNotFollowed}
use Rattle.snap_follow.specs.Rounds.{Following, GrowFrom, IsRound}
use Rattle.txn_records.specs.declared.records.Record.{Record}
use Rattle.followed_bytes.specs.Series.{AreOnDevices, CutRunOn, GoOnDevices, GoOnLookingAt, IsAllStillThere, IsLaterLook, IsNoEarlierIn, IsShownBy, IsShownIn, LookAt, LooksAtSeriesGoOn, LooksAtSeriesTellMeantStates, cut_of, cuts_of, known_behind_all, lists_behind, look_behind_all, run_of}
use Rattle.followed_bytes.proofs.Lists.{first_long, joined_long, nothing_past, same_lists, taken_long, told_long}
use Rattle.followed_bytes.proofs.OneLog.{shows}

-- what the laws say
pub record SeriesLaws : Type 0 where
  pub keeps : MomentKeeps
  pub durable : (v : Fixed Rest) → GroupsAreDurable v
  pub logs : AfterEveryRun (HasLogs {C = Rest})
  pub list : OneListOfRecords

abbrev runs_of : List CutRunOn → List (CutRun Rest)
runs_of xs = cut_runs (cuts_of xs)

-- ---- one run

pub is_run : (x : CutRunOn) → IsRun (machine_in (run_of x)) x.events
is_run x = taken_run (machine_in (run_of x)) x.schedule x.events x.run.front

pub is_text : (x : CutRunOn) → IsTextOf x.work.program (text_of x.work x.opening)
is_text x = text_begins x.work x.opening x.limits x.run.room (starts_with_as_many x.run.devices.records x.work.states x.opening x.run.devices.added x.run.devices.start)

up_to : (x : CutRunOn) (m : MomentOf (run_of x)) → IsRun (machine_in (run_of x)) m.events
up_to x m = front_runs (machine_in (run_of x)) m.events m.later (subst (IsRun (machine_in (run_of x))) m.splits (is_run x))

-- the log as it stands at a moment
abbrev log_then : (x : CutRunOn) → MomentOf (run_of x) → ℕ → Log
log_then x m l = log_at (reached_at (run_of x) m) l

within : (x : CutRunOn) (m : MomentOf (run_of x)) (l : ℕ) → (log_then x m l).synced ≤ length (log_then x m l).records
within x m l = (moment_is_cut (machine_in (run_of x)) x.events m (λ i. (log_then x m i).synced) (is_run x) (record { same = λ i e. refl; whole = λ i. inl refl })).no_more l

none_past : SeriesLaws → (x : CutRunOn) (m : MomentOf (run_of x)) (l : ℕ) → x.work.logs ≤ l → length (log_then x m l).records ≡ 0
none_past laws x m l past =
    let v = machine_in (run_of x) in
    let many : length (reached v m.events).logs ≡ x.work.logs = laws.logs v m.events (is_text x).accepted (up_to x m) in
    ap (λ (g : Log). length g.records) (nothing_past (reached v m.events).logs l (omega (arith, past, many)))

-- so many of its records are read: those that are synced, or all
record Picks (x : CutRunOn) (l : ℕ) (bytes : List ℕ) (s : IsShownBy x l bytes) (k : ℕ) : Type 0 where
  whole : (k ≡ (log_then x s.moment l).synced) ⊎ (k ≡ length (log_then x s.moment l).records)
  holds : l < x.work.logs → HoldsRecords bytes (records_at (earlier (run_of x)) l ++ all_told (take k (log_then x s.moment l).records))

pick : SeriesLaws → (x : CutRunOn) (l : ℕ) (bytes : List ℕ) (s : IsShownBy x l bytes) → (k : ℕ) × Picks x l bytes s k
pick laws x l bytes s = by (nat_lt l x.work.logs) refl
  where
    by : (b : Bool) → nat_lt l x.work.logs ≡ b → (k : ℕ) × Picks x l bytes s k
    by true e =
        let lt = ltb-true l x.work.logs e in
        let found = shows (run_of x) s.moment l lt bytes laws.keeps (laws.durable (machine_in (run_of x))) (up_to x s.moment) (s.shown lt) in
        (found.0, record { whole = found.1.whole; holds = λ _. found.1.holds })
    by false e = (
      (log_then x s.moment l).synced,
      record { whole = inl refl; holds = λ lt. absurd (true≢false (sym (lt-ltb l x.work.logs lt) ∙ e)) },
    )

no_less : (x : CutRunOn) (l : ℕ) (bytes : List ℕ) (s : IsShownBy x l bytes) (k : ℕ) → Picks x l bytes s k → (log_then x s.moment l).synced ≤ k
no_less x l bytes s k p = elim (p.whole) [ inl e ↦ omega (arith, e) | inr e ↦ omega (arith, e, within x s.moment l) ]

no_more : (x : CutRunOn) (l : ℕ) (bytes : List ℕ) (s : IsShownBy x l bytes) (k : ℕ) → Picks x l bytes s k → k ≤ length (log_then x s.moment l).records
no_more x l bytes s k p = elim (p.whole) [ inl e ↦ omega (arith, e, within x s.moment l) | inr e ↦ omega (arith, e) ]

taken_few : (n : ℕ) (rs : List LogRecord) → length (take n rs) ≤ n
taken_few zero rs = omega arith
taken_few (suc n) [] = omega arith
taken_few (suc n) (r ∷ rs) = omega (arith, taken_few n rs)

pub earlier_long : (x : CutRunOn) → length (earlier (run_of x)) ≡ x.work.logs
earlier_long x = run_long x.run.devices.records x.run.devices.added ∙ x.run.devices.as_many

-- the crash took back none of it
stays : SeriesLaws → (x : CutRunOn) (l : ℕ) (bytes : List ℕ) (s : IsShownBy x l bytes) (k : ℕ) → Picks x l bytes s k → k ≤ x.kept l
stays laws x l bytes s k p = by (cases_lt l x.work.logs)
  where
    by : (l < x.work.logs) ⊎ (x.work.logs ≤ l) → k ≤ x.kept l
    by (inl lt) =
        let before = records_at (earlier (run_of x)) l in
        let rs = (log_then x s.moment l).records in
        let left = logs_left (as_cut_run (cut_of x)) l in
        let few : length left ≤ x.kept l = taken_few (x.kept l) (log_then x x.moment l).records in
        let front = s.stays lt (before ++ all_told (take k rs)) (p.holds lt) in
        omega (
          arith,
          ap length (sym (grown_at (earlier (run_of x)) (logs_left (as_cut_run (cut_of x))) l (omega (arith, lt, earlier_long x))) ∙ front.1),
          joined_long before (all_told left),
          joined_long (before ++ all_told (take k rs)) front.0,
          joined_long before (all_told (take k rs)),
          told_long left,
          told_long (take k rs),
          few,
          taken_long k rs (no_more x l bytes s k p),
        )
    by (inr past) = omega (arith, no_more x l bytes s k p, none_past laws x s.moment l past)

abbrev spot_of : SeriesLaws → (x : CutRunOn) (l : ℕ) (bytes : List ℕ) → IsShownBy x l bytes → Spot (as_cut_run (cut_of x)) l
spot_of laws x l bytes s = record {
  events = s.moment.events;
  later = s.before_cut.0;
  splits = s.before_cut.1;
  count = (pick laws x l bytes s).0;
  all_synced = no_less x l bytes s (pick laws x l bytes s).0 (pick laws x l bytes s).1;
  no_more = no_more x l bytes s (pick laws x l bytes s).0 (pick laws x l bytes s).1;
  stays = stays laws x l bytes s (pick laws x l bytes s).0 (pick laws x l bytes s).1;
}

-- ---- all runs

abbrev place : SeriesLaws → (xs : List CutRunOn) (l : ℕ) (bytes : List ℕ) → IsShownIn xs l bytes → Where (runs_of xs) l
place laws [] l bytes p = absurd p
place laws (x ∷ xs) l bytes (inl s) = Some (inl (spot_of laws x l bytes s))
place laws (x ∷ xs) l bytes (inr p) = Some (inr (place laws xs l bytes p))

nothing_read : (xs : List (CutRun Rest)) (l : ℕ) → read_at xs l (nothing xs l) ≡ []
nothing_read [] l = refl
nothing_read (x ∷ xs) l = nothing_read xs l

-- what is read in one run alone
only_here : (laws : SeriesLaws) (x : CutRunOn) (xs : List CutRunOn) (l : ℕ) (bytes : List ℕ) (s : IsShownBy x l bytes)
    → read_at (runs_of (x ∷ xs)) l (place laws (x ∷ xs) l bytes (inl s)) ≡ take (pick laws x l bytes s).0 (log_then x s.moment l).records
only_here laws x xs l bytes s =
    let rs = take (pick laws x l bytes s).0 (log_then x s.moment l).records in
    ap (λ (zs : List LogRecord). rs ++ zs) (nothing_read (runs_of xs) l) ∙ append-nil rs

holds_read : (laws : SeriesLaws) (many : ℕ) (now : List (List Record)) (o : machine.Opening) (xs : List CutRunOn) (l : ℕ) (bytes : List ℕ) (p : IsShownIn xs l bytes) → length now ≡ many → l < many → GoOnDevices many now o xs
    → HoldsRecords bytes (records_at now l ++ all_told (read_at (runs_of xs) l (place laws xs l bytes p)))
holds_read laws many now o [] l bytes p long lt g = absurd p
holds_read laws many now o (x ∷ xs) l bytes (inl s) long lt g =
    subst (λ (rs : List LogRecord). HoldsRecords bytes (records_at now l ++ all_told rs)) (sym (only_here laws x xs l bytes s))
    (subst (λ (rss : List (List Record)). HoldsRecords bytes (records_at rss l ++ all_told (take (pick laws x l bytes s).0 (log_then x s.moment l).records))) g.1
    ((pick laws x l bytes s).1.holds (omega (arith, lt, g.0))))
holds_read laws many now o (x ∷ xs) l bytes (inr p) long lt g =
    let left = logs_left (as_cut_run (cut_of x)) in
    let more = read_at (runs_of xs) l (place laws xs l bytes p) in
    let rest = holds_read laws many (lists_behind now x) (opening_left (as_cut_run (cut_of x))) xs l bytes p (grown_length 0 now left ∙ long) lt g.3 in
    subst (HoldsRecords bytes)
    (ap (λ (rs : List Record). rs ++ all_told more) (grown_at now left l (omega (arith, lt, long))) ∙ (append_assoc (records_at now l) (all_told (left l)) (all_told more) ∙ ap (λ (rs : List Record). records_at now l ++ rs) (sym (written_join (left l) more)))) rest

log_records_joined : (xs ys : List LogRecord) → length (xs ++ ys) ≡ length xs + length ys
log_records_joined [] ys = omega arith
log_records_joined (x ∷ xs) ys = omega (arith, log_records_joined xs ys)

nothing_past_all : (laws : SeriesLaws) (many : ℕ) (now : List (List Record)) (o : machine.Opening) (xs : List CutRunOn) (l : ℕ) (bytes : List ℕ) (p : IsShownIn xs l bytes) → many ≤ l → GoOnDevices many now o xs
    → length (read_at (runs_of xs) l (place laws xs l bytes p)) ≡ 0
nothing_past_all laws many now o [] l bytes p past g = absurd p
nothing_past_all laws many now o (x ∷ xs) l bytes (inl s) past g =
    let k = pick laws x l bytes s in
    let rs = (log_then x s.moment l).records in
    let none = none_past laws x s.moment l (omega (arith, past, g.0)) in
    omega (arith, ap length (only_here laws x xs l bytes s), taken_long k.0 rs (no_more x l bytes s k.0 k.1), no_more x l bytes s k.0 k.1, none)
nothing_past_all laws many now o (x ∷ xs) l bytes (inr p) past g =
    let left = logs_left (as_cut_run (cut_of x)) l in
    let more = read_at (runs_of xs) l (place laws xs l bytes p) in
    let rs = (log_then x x.moment l).records in
    omega (arith, log_records_joined left more, taken_less (x.kept l) rs, none_past laws x x.moment l (omega (arith, past, g.0)), nothing_past_all laws many (lists_behind now x) (opening_left (as_cut_run (cut_of x))) xs l bytes p past g.3)
  where
    taken_less : (n : ℕ) (zs : List LogRecord) → length (take n zs) ≤ length zs
    taken_less zero zs = omega arith
    taken_less (suc n) [] = omega arith
    taken_less (suc n) (z ∷ zs) = omega (arith, taken_less n zs)

no_earlier : (laws : SeriesLaws) (xs : List CutRunOn) (l i : ℕ) (a b : List ℕ) (p : IsShownIn xs l a) (q : IsShownIn xs i b) → IsNoEarlierIn xs l i a b p q → IsNoEarlier (runs_of xs) l i (place laws xs l a p) (place laws xs i b q)
no_earlier laws [] l i a b p q h = tt
no_earlier laws (x ∷ xs) l i a b (inl s) (inl t) h = h
no_earlier laws (x ∷ xs) l i a b (inl s) (inr q) h = tt
no_earlier laws (x ∷ xs) l i a b (inr p) (inl t) h = absurd h
no_earlier laws (x ∷ xs) l i a b (inr p) (inr q) h = no_earlier laws xs l i a b p q h

is_still : (laws : SeriesLaws) (xs : List CutRunOn) (l : ℕ) (a b : List ℕ) (p : IsShownIn xs l a) (q : IsShownIn xs l b) → IsNoEarlierIn xs l l a b p q
    → length (read_at (runs_of xs) l (place laws xs l a p)) ≤ length (read_at (runs_of xs) l (place laws xs l b q)) → IsStill (runs_of xs) l (place laws xs l a p) (place laws xs l b q)
is_still laws [] l a b p q h le = tt
is_still laws (x ∷ xs) l a b (inl s) (inl t) h le =
    let j = pick laws x l a s in
    let k = pick laws x l b t in
    omega (
      arith,
      le,
      ap length (only_here laws x xs l a s),
      ap length (only_here laws x xs l b t),
      taken_long j.0 (log_then x s.moment l).records (no_more x l a s j.0 j.1),
      taken_long k.0 (log_then x t.moment l).records (no_more x l b t k.0 k.1),
    )
is_still laws (x ∷ xs) l a b (inl s) (inr q) h le = tt
is_still laws (x ∷ xs) l a b (inr p) (inl t) h le = absurd h
is_still laws (x ∷ xs) l a b (inr p) (inr q) h le =
    let left = logs_left (as_cut_run (cut_of x)) l in
    is_still laws xs l a b p q h
    (omega (arith, le, log_records_joined left (read_at (runs_of xs) l (place laws xs l a p)), log_records_joined left (read_at (runs_of xs) l (place laws xs l b q))))

-- ---- the runs, as those of the machine

goes : (ps : List (List CheckedMethod)) (many : ℕ) (now : List (List Record)) (o : machine.Opening) (xs : List CutRunOn) → AllByRecursion (λ (x : CutRunOn). Contains ps x.work.program) xs → GoOnDevices many now o xs → GoOnOf ps o (cuts_of xs)
goes ps many now o [] programs g = tt
goes ps many now o (x ∷ xs) programs g = (
  record { program = programs.0; text = is_text x; run = is_run x; left = x.left },
  g.2,
  goes ps many (lists_behind now x) (opening_left (as_cut_run (cut_of x))) xs programs.1 g.3,
)

same_logs : (many : ℕ) (now : List (List Record)) (o : machine.Opening) (xs : List CutRunOn) → GoOnDevices many now o xs → AllByRecursion (λ (x : CutRunOf). x.text.logs ≡ many) (cuts_of xs)
same_logs many now o [] g = tt
same_logs many now o (x ∷ xs) g = (g.0, same_logs many (lists_behind now x) (opening_left (as_cut_run (cut_of x))) xs g.3)

-- ---- looks

module _ (laws : SeriesLaws) (ps : List (List CheckedMethod)) (many : ℕ) (o : machine.Opening) (front : List Record) (xs : List CutRunOn) (on : AreOnDevices ps many o front xs) where
  on_logs : AreOnLogsOf ps many o front (cuts_of xs)
  on_logs = record {
    some_actors = on.some_actors;
    some_logs = on.some_logs;
    same_logs = same_logs many (in_first many front) o xs on.go_on;
    go_on = goes ps many (in_first many front) o xs on.programs on.go_on;
    is_front = on.is_front;
  }

  abbrev found : LookAt many xs → Finding (runs_of xs)
  found y = record { reading = λ l. place laws xs l (y.bytes l) (y.shown l); is_begun = true; bare = λ e. absurd (true≢false e) }

  abbrev found_before : Option (LookAt many xs) → Option (Finding (runs_of xs))
  found_before None = None
  found_before (Some x) = Some (found x)

  abbrev rounds : List (LookAt many xs) → List (FollowRound (runs_of xs))
  rounds [] = []
  rounds (y ∷ ys) = record { found = found y; known = y.known } ∷ rounds ys

  begun_long : length (in_first many front) ≡ many
  begun_long = first_long many front on.some_logs

  list_is : (y : LookAt many xs) (l : ℕ) → l < many → records_at y.lists l ≡ records_at (in_first many front) l ++ all_told (runs_read (runs_of xs) (found y).reading l)
  list_is y l lt = laws.list (y.bytes l) (records_at y.lists l) _ (y.held l lt) (holds_read laws many (in_first many front) o xs l (y.bytes l) (y.shown l) begun_long lt on.go_on)

  lists_are : (y : LookAt many xs) → y.lists ≡ lists_found many front (runs_of xs) (found y)
  lists_are y =
      let reads = runs_read (runs_of xs) (found y).reading in
      same_lists y.lists (lists_found many front (runs_of xs) (found y)) (y.as_many ∙ sym (grown_length 0 (in_first many front) reads ∙ begun_long))
      (λ l below. let lt : l < many = omega (arith, below, y.as_many) in list_is y l lt ∙ sym (grown_at (in_first many front) reads l (omega (arith, lt, begun_long))))

  list_long : (y : LookAt many xs) (l : ℕ) → l < many → length (records_at y.lists l) ≡ length (records_at (in_first many front) l) + length (runs_read (runs_of xs) (found y).reading l)
  list_long y l lt =
      let rs = runs_read (runs_of xs) (found y).reading l in
      omega (arith, ap length (list_is y l lt), joined_long (records_at (in_first many front) l) (all_told rs), told_long rs)

  no_shorter : (x y : LookAt many xs) → GrowFrom x.lists y.lists → (l : ℕ) → length (runs_read (runs_of xs) (found x).reading l) ≤ length (runs_read (runs_of xs) (found y).reading l)
  no_shorter x y grow l = by (cases_lt l many)
    where
      by : (l < many) ⊎ (many ≤ l) → length (runs_read (runs_of xs) (found x).reading l) ≤ length (runs_read (runs_of xs) (found y).reading l)
      by (inl lt) =
          let s = grow l (omega (arith, lt, y.as_many)) in
          omega (arith, ap length s.1, joined_long (records_at x.lists l) s.0, list_long x l lt, list_long y l lt)
      by (inr past) = omega (arith, nothing_past_all laws many (in_first many front) o xs l (x.bytes l) (x.shown l) past on.go_on)

  later : (before : Option (LookAt many xs)) (y : LookAt many xs) → IsLaterLook many xs before y → IsAllStillThere many xs before y → IsLaterFinding (runs_of xs) (found_before before) (found y)
  later None y h there = record { later = tt; still_begun = λ e. refl }
  later (Some x) y h there = record {
    later = record {
      moments = λ l i. no_earlier laws xs l i (x.bytes l) (y.bytes i) (x.shown l) (y.shown i) (h l i);
      still = λ l. is_still laws xs l (x.bytes l) (y.bytes l) (x.shown l) (y.shown l) (h l l) (no_shorter x y there l);
    };
    still_begun = λ e. refl;
  }

  -- the lists of the look before are those that the follower knows
  abbrev Knows : Option (LookAt many xs) → Following → Type 0
  Knows None f = AllByRecursion (λ (rs : List Record). rs ≡ []) f.before
  Knows (Some x) f = f.before ≡ x.lists

  grows : (f : Following) (before : Option (LookAt many xs)) (y : LookAt many xs) → Knows before f → GrowFrom f.before y.lists → IsAllStillThere many xs before y
  grows f None y knows grow = tt
  grows f (Some x) y knows grow = subst (λ (lists : List (List Record)). GrowFrom lists y.lists) knows grow

  are_rounds : (f : Following) (before : Option (LookAt many xs)) (ys : List (LookAt many xs)) → Knows before f → GoOnLookingAt many xs f before ys → GoOnFollowing many front (runs_of xs) f (found_before before) (rounds ys)
  are_rounds f before [] knows h = tt
  are_rounds f before (y ∷ ys) knows h = (
    (later before y h.0.0 (grows f before y knows h.0.1.grow), subst (λ (lists : List (List Record)). IsRound f lists y.known) (lists_are y) h.0.1),
    are_rounds y.known (Some y) ys h.0.1.before h.1,
  )

  known_same : (f : Following) (ys : List (LookAt many xs)) → known_then (runs_of xs) f (rounds ys) ≡ known_behind_all many xs f ys
  known_same f [] = refl
  known_same f (y ∷ ys) = known_same y.known ys

  found_same : (before : Option (LookAt many xs)) (ys : List (LookAt many xs)) → found_last (runs_of xs) (found_before before) (rounds ys) ≡ found_before (look_behind_all many xs before ys)
  found_same before [] = refl
  found_same before (y ∷ ys) = found_same (Some y) ys

  same_known : (ys : List (LookAt many xs)) → map (λ z. z.known) (rounds ys) ≡ map (λ (y : LookAt many xs). y.known) ys
  same_known [] = refl
  same_known (y ∷ ys) = ap (λ (gs : List Following). y.known ∷ gs) (same_known ys)

pub series_tells : SeriesLaws → (ps : List (List CheckedMethod)) → FollowersTellMeantStates ps → LooksAtSeriesTellMeantStates ps
series_tells laws ps law many o front xs f ys on new h =
    let going = are_rounds laws ps many o front xs on f None ys new.nothing h in
    record {
      rounds = rounds laws ps many o front xs on ys;
      same = same_known laws ps many o front xs on ys;
      go_on = going;
      stand = law many o front (cuts_of xs) f (rounds laws ps many o front xs on ys) (on_logs laws ps many o front xs on) new going;
    }

pub series_goes_on : SeriesLaws → (ps : List (List CheckedMethod)) → FollowersGoOn ps → LooksAtSeriesGoOn ps
series_goes_on laws ps law many o front xs f ys next why on new h later_than there refused =
    let last = look_behind_all many xs None ys in
    law many o front (cuts_of xs) f (rounds laws ps many o front xs on ys) (found laws ps many o front xs on next) why (on_logs laws ps many o front xs on) new
    (are_rounds laws ps many o front xs on f None ys new.nothing h)
    (subst (λ (b : Option (Finding (runs_of xs))). IsLaterFinding (runs_of xs) b (found laws ps many o front xs on next)) (sym (found_same laws ps many o front xs on None ys)) (later laws ps many o front xs on last next later_than there))
    (subst (λ (g : Following). IsNotFollowed g.before (lists_found many front (runs_of xs) (found laws ps many o front xs on next)) why) (sym (known_same laws ps many o front xs on f ys))
    (subst (λ (lists : List (List Record)). IsNotFollowed (known_behind_all many xs f ys).before lists why) (lists_are laws ps many o front xs on next) refused))
