-- The looks of a follower at one run are rounds over findings of the machine's run.
use Rattle.std.specs.Prelude.{◌≡◌, refl, ℕ, zero, suc, ◌+◌, ◌<◌, ◌≤◌, true, ◌⊎◌, Option, Some, None, List, [], ◌∷◌, ◌++◌, length, slice_index_or}
use Rattle.std.specs.List.{AllByRecursion}
use Rattle.std.proofs.Common.{inl, inr, arith, sym, ap, subst, ◌∙◌}
use Rattle.std.proofs.lemmas.Bool.{cases_lt, true≢false}
use Rattle.std.proofs.lemmas.List.{append-nil}
use Rattle.aml_slice.specs.Controls.{Rest}
use Rattle.followed_logs.specs.OnRecords.{Finding, FollowRound, FollowersAreNotRefused, FollowersTellSerialStates, GoOnFollowing, IsLaterFinding, found_last, in_first, known_then, lists_found}
use Rattle.followed_meant.proofs.Meant.{OfPrograms}
use Rattle.followed_meant.specs.AsMeant.{AreOnLogsOf, cut_runs}
use Rattle.followed_runs.specs.Following.{Reading, what_is_read}
use Rattle.followed_runs.specs.FollowingRuns.{Spot, runs_read}
use Rattle.log_set.specs.Told.{all_told}
use Rattle.machine_laws.specs.Programs.{AtEveryMomentOf, IsTextOf}
use Rattle.machine_recovery.specs.OnLogs.{CutRunOf, as_cut_run}
use Rattle.protocol.specs.Effects.{log_at, no_log}
use Rattle.protocol.specs.Events.{Event}
use Rattle.protocol.specs.Fixed as machine
use Rattle.protocol.specs.Parts.{Log, Machine}
use Rattle.protocol.specs.Records.{LogRecord}
use Rattle.protocol.specs.Runs.{EachAllowed, IsRun, opening, reached, state_after}
use Rattle.protocol_laws.specs.OneWay.{EachBecame, LogGrew, WentOn}
use Rattle.protocol_records.proofs.crash.CrashImplied.{front_runs}
use Rattle.protocol_records.specs.Crash.{CrashHolds}
use Rattle.recovery_laws.proofs.WrittenLists.{grown_length}
use Rattle.record_log.specs.RecordLogLaws.{OneListOfRecords}
use Rattle.run_effects.proofs.RunsLonger.{allowed_parts, state_longer}
use Rattle.run_opening.specs.Opens.{records_at}
use Rattle.run_recovery.proofs.LogsLeft.{grown_at}
use Rattle.run_recovery.specs.Crashes.{earlier}
use Rattle.run_recovery.specs.OneRun.{TheRun, MomentOf, machine_in, reached_in}
use Rattle.run_recovery.specs.Runs.{text_of}
use Rattle.snap_follow.specs.Rounds.{Following, GrowFrom, IsRound, StartsWith, list_at}
use Rattle.snap_recover.proofs.Lists.{contains_here}
use Rattle.snap_work.specs.Kept.{KeepsLimits}
use Rattle.txn_records.specs.declared.records.Record.{Record}
use Rattle.followed_bytes.specs.Looks.{GoOnLooking, IsAloneOnLogs, IsNoEarlier, IsStillThere, Look, known_behind, look_behind}
use Rattle.followed_bytes.specs.Readings.{IsReadAs, IsReadingOf}
use Rattle.followed_bytes.proofs.Lists.{first_long, joined_long, nothing_past, same_lists, taken_long, told_long}

-- ---- what is known of the run

pub record Known (r : TheRun) : Type 0 where
  pub limits : KeepsLimits r.work
  pub text : IsTextOf r.work.program (text_of r.work r.opening)
  pub run : IsRun (machine_in r) r.events
  pub actors : length r.opening.states ≡ length r.work.states
  pub reads : (bytes : ℕ → List ℕ) (x : IsReadingOf r bytes) → IsReadAs r bytes x
  pub one_way : (es : List Event) (s : Machine Rest) → EachAllowed (machine_in r) es s → WentOn s (state_after (machine_in r) es s)
  pub as_many : (es : List Event) → IsRun (machine_in r) es → length (reached (machine_in r) es).logs ≡ r.work.logs
  pub list : OneListOfRecords
  pub of_program : OfPrograms r.work.program
  pub in_order : AtEveryMomentOf r.work.program CrashHolds
  pub tell : FollowersTellSerialStates Rest
  pub go_on : FollowersAreNotRefused Rest

-- ---- the run as one that no crash cuts off: all that it gave its logs is left

abbrev pub end_of : (r : TheRun) → MomentOf r
end_of r = record {
  events = r.events;
  later = [];
  splits = sym (append-nil r.events);
  has_begun = λ l. true;
  begun = λ l e. record { front = []; rest = []; splits = refl; untouched = tt; ends = inl refl };
}

abbrev pub all_kept : TheRun → ℕ → ℕ
all_kept r l = length (log_at (reached_in r) l).records

abbrev pub whole_run : TheRun → CutRunOf
whole_run r = record { program = r.work.program; text = text_of r.work r.opening; events = r.events; moment = end_of r; kept = all_kept r }

abbrev pub as_runs : TheRun → List CutRunOf
as_runs r = whole_run r ∷ []

abbrev pub began_with : TheRun → machine.Opening
began_with r = (text_of r.work r.opening).opening

pub alone_on_logs : (r : TheRun) → Known r → (alone : IsAloneOnLogs r) → AreOnLogsOf (r.work.program ∷ []) r.work.logs (began_with r) alone.front (as_runs r)
alone_on_logs r k alone = record {
  some_actors = omega (arith, k.limits.some_actors, k.actors);
  some_logs = k.limits.logs.0;
  same_logs = (refl, tt);
  go_on = (
    record {
      program = contains_here r.work.program [];
      text = k.text;
      run = k.run;
      left = record { same = λ l e. absurd (true≢false e); whole = λ l. inr refl };
    },
    refl,
    tt,
  );
  is_front = alone.is_front;
}

-- ---- logs along the run

new_log : (h : Log) → LogGrew no_log h
new_log h = record { records = record { more = h.records; is = refl }; synced = omega arith; durable = λ test q. absurd (true≢false (sym q)) }

one_grew : (xs ys : List Log) (l : ℕ) → EachBecame LogGrew xs ys → LogGrew (slice_index_or xs l no_log) (slice_index_or ys l no_log)
one_grew [] ys l h = new_log (slice_index_or ys l no_log)
one_grew (x ∷ xs) [] l h = absurd h
one_grew (x ∷ xs) (y ∷ ys) zero h = h.0
one_grew (x ∷ xs) (y ∷ ys) (suc l) h = one_grew xs ys l h.1

pub log_grew : (r : TheRun) → Known r → (es later : List Event) → r.events ≡ es ++ later → (l : ℕ) → LogGrew (log_at (reached (machine_in r) es) l) (log_at (reached_in r) l)
log_grew r k es later splits l =
    let v = machine_in r in
    let parts = allowed_parts v es later (opening v) (subst (IsRun v) splits k.run) in
    subst (λ (s : Machine Rest). LogGrew (log_at (reached v es) l) (log_at s l)) (sym (ap (reached v) splits ∙ state_longer v es later (opening v)))
    (one_grew (reached v es).logs (state_after v later (reached v es)).logs l (k.one_way later (reached v es) parts.1).logs)

-- ---- findings

abbrev pub reading_in : (r : TheRun) → Known r → Look r → Reading (machine_in r) r.events
reading_in r k y = (k.reads y.bytes y.shown).reading

-- no more is read than the run gave the log
pub stays : (r : TheRun) (k : Known r) (y : Look r) (l : ℕ) → (reading_in r k y).count l ≤ all_kept r l
stays r k y l =
    let q = reading_in r k y in
    let grew = (log_grew r k (q.events l) (q.later l) (q.splits l) l).records in
    omega (arith, q.no_more l, ap length grew.is, longer (log_at (reached (machine_in r) (q.events l)) l).records grew.more)
  where
    longer : (xs ys : List LogRecord) → length xs ≤ length (xs ++ ys)
    longer [] ys = omega arith
    longer (x ∷ xs) ys = omega (arith, longer xs ys)

abbrev pub spot_in : (r : TheRun) (k : Known r) (y : Look r) (l : ℕ) → Spot (as_cut_run (whole_run r)) l
spot_in r k y l = record {
  events = (reading_in r k y).events l;
  later = (reading_in r k y).later l;
  splits = (reading_in r k y).splits l;
  count = (reading_in r k y).count l;
  all_synced = (reading_in r k y).all_synced l;
  no_more = (reading_in r k y).no_more l;
  stays = stays r k y l;
}

abbrev pub found_in : (r : TheRun) → Known r → Look r → Finding (cut_runs (as_runs r))
found_in r k y = record { reading = λ l. Some (inl (spot_in r k y l)); is_begun = true; bare = λ e. absurd (true≢false e) }

abbrev pub round_in : (r : TheRun) → Known r → Look r → FollowRound (cut_runs (as_runs r))
round_in r k y = record { found = found_in r k y; known = y.known }

abbrev pub found_before : (r : TheRun) → Known r → Option (Look r) → Option (Finding (cut_runs (as_runs r)))
found_before r k None = None
found_before r k (Some x) = Some (found_in r k x)

abbrev pub rounds_in : (r : TheRun) → Known r → List (Look r) → List (FollowRound (cut_runs (as_runs r)))
rounds_in r k [] = []
rounds_in r k (y ∷ ys) = round_in r k y ∷ rounds_in r k ys

-- ---- the lists are those that are found

abbrev pub lists_then : (r : TheRun) (k : Known r) → IsAloneOnLogs r → Look r → List (List Record)
lists_then r k alone y = lists_found r.work.logs alone.front (cut_runs (as_runs r)) (found_in r k y)

pub list_is : (r : TheRun) (k : Known r) (y : Look r) (l : ℕ) → l < r.work.logs → records_at y.lists l ≡ records_at (earlier r) l ++ all_told (what_is_read (reading_in r k y) l)
list_is r k y l lt = k.list (y.bytes (r.devices.head + l)) (records_at y.lists l) (records_at (earlier r) l ++ all_told (what_is_read (reading_in r k y) l)) (y.held l lt) ((k.reads y.bytes y.shown).holds l lt)

pub lists_are : (r : TheRun) (k : Known r) (alone : IsAloneOnLogs r) (y : Look r) → y.lists ≡ lists_then r k alone y
lists_are r k alone y = same_lists y.lists (lists_then r k alone y) (y.as_many ∙ sym long) (λ l lt. at l (omega (arith, lt, y.as_many)))
  where
    begun : List (List Record)
    begun = in_first r.work.logs alone.front

    long : length (lists_then r k alone y) ≡ r.work.logs
    long = grown_length 0 begun (runs_read (cut_runs (as_runs r)) (found_in r k y).reading) ∙ first_long r.work.logs alone.front k.limits.logs.0

    at : (l : ℕ) → l < r.work.logs → records_at y.lists l ≡ records_at (lists_then r k alone y) l
    at l lt =
        list_is r k y l lt
        ∙ (ap (λ (rss : List (List Record)). records_at rss l ++ all_told (what_is_read (reading_in r k y) l)) alone.held
        ∙ (ap (λ (rs : List LogRecord). records_at begun l ++ all_told rs) (sym (append-nil (what_is_read (reading_in r k y) l)))
        ∙ sym (grown_at begun (runs_read (cut_runs (as_runs r)) (found_in r k y).reading) l (omega (arith, lt, first_long r.work.logs alone.front k.limits.logs.0)))))

-- ---- no look loses what the one before it found

-- the log's list is as long as what was before the run, and what is read
list_long : (r : TheRun) (k : Known r) (y : Look r) (l : ℕ) → l < r.work.logs → length (records_at y.lists l) ≡ length (records_at (earlier r) l) + (reading_in r k y).count l
list_long r k y l lt =
    let q = reading_in r k y in
    omega (
      arith,
      ap length (list_is r k y l lt),
      joined_long (records_at (earlier r) l) (all_told (what_is_read q l)),
      told_long (what_is_read q l),
      taken_long (q.count l) (log_at (reached (machine_in r) (q.events l)) l).records (q.no_more l),
    )

still_read : (r : TheRun) (k : Known r) (x y : Look r) → IsStillThere r (Some x) y → (l : ℕ) → (reading_in r k x).count l ≤ (reading_in r k y).count l
still_read r k x y there l = by (cases_lt l r.work.logs)
  where
    by : (l < r.work.logs) ⊎ (r.work.logs ≤ l) → (reading_in r k x).count l ≤ (reading_in r k y).count l
    by (inl lt) =
        let s = there l lt in
        omega (arith, ap length s.1, joined_long (records_at x.lists l) s.0, list_long r k x l lt, list_long r k y l lt)
    by (inr past) =
        let q = reading_in r k x in
        let front = front_runs (machine_in r) (q.events l) (q.later l) (subst (IsRun (machine_in r)) (q.splits l) k.run) in
        let none = nothing_past (reached (machine_in r) (q.events l)).logs l (omega (arith, past, k.as_many (q.events l) front)) in
        omega (arith, q.no_more l, ap (λ (g : Log). length g.records) none)

pub later_found : (r : TheRun) (k : Known r) (before : Option (Look r)) (y : Look r) → IsNoEarlier r before y → IsStillThere r before y → IsLaterFinding (cut_runs (as_runs r)) (found_before r k before) (found_in r k y)
later_found r k None y no_earlier there = record { later = tt; still_begun = λ e. refl }
later_found r k (Some x) y no_earlier there = record {
  later = record { moments = moments; still = λ l. still_read r k x y there l };
  still_begun = λ e. refl;
} where
  moments : (l i : ℕ) → (more : List Event) × ((reading_in r k y).events i ≡ (reading_in r k x).events l ++ more)
  moments l i =
      let m = no_earlier l i in
      (m.0, (k.reads y.bytes y.shown).moments i ∙ (m.1 ∙ ap (λ (es : List Event). es ++ m.0) (sym ((k.reads x.bytes x.shown).moments l))))

-- ---- the looks are rounds

-- the lists of the look before are those that the follower knows
abbrev pub KnowsLook : (r : TheRun) → Following → Option (Look r) → Type 0
KnowsLook r f None = AllByRecursion (λ (rs : List Record). rs ≡ []) f.before
KnowsLook r f (Some x) = f.before ≡ x.lists

grows : (r : TheRun) (f : Following) (before : Option (Look r)) (y : Look r) → KnowsLook r f before → GrowFrom f.before y.lists → IsStillThere r before y
grows r f None y knows grow = tt
grows r f (Some x) y knows grow = λ l lt. subst (λ (lists : List (List Record)). StartsWith (list_at y.lists l) (list_at lists l)) knows (grow l (omega (arith, lt, y.as_many)))

pub looks_are_rounds : (r : TheRun) (k : Known r) (alone : IsAloneOnLogs r) (f : Following) (before : Option (Look r)) (ys : List (Look r)) → KnowsLook r f before → GoOnLooking r f before ys
    → GoOnFollowing r.work.logs alone.front (cut_runs (as_runs r)) f (found_before r k before) (rounds_in r k ys)
looks_are_rounds r k alone f before [] knows h = tt
looks_are_rounds r k alone f before (y ∷ ys) knows h = (
  (
    later_found r k before y h.0.0 (grows r f before y knows h.0.1.grow),
    subst (λ (lists : List (List Record)). IsRound f lists y.known) (lists_are r k alone y) h.0.1,
  ),
  looks_are_rounds r k alone y.known (Some y) ys h.0.1.before h.1,
)

pub known_same : (r : TheRun) (k : Known r) (f : Following) (ys : List (Look r)) → known_then (cut_runs (as_runs r)) f (rounds_in r k ys) ≡ known_behind r f ys
known_same r k f [] = refl
known_same r k f (y ∷ ys) = known_same r k y.known ys

pub found_same : (r : TheRun) (k : Known r) (before : Option (Look r)) (ys : List (Look r)) → found_last (cut_runs (as_runs r)) (found_before r k before) (rounds_in r k ys) ≡ found_before r k (look_behind r before ys)
found_same r k before [] = refl
found_same r k before (y ∷ ys) = found_same r k (Some y) ys
