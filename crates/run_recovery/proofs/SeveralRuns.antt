-- Of runs one behind the other, what the crash of each left is what the next one began with.
use Rattle.std.specs.Prelude.{◌≡◌, refl, ℕ, suc, ◌+◌, ◌<◌, ◌≤◌, Bool, List, [], ◌∷◌, ◌++◌, length, Contains}
use Rattle.std.specs.List.{AllByRecursion}
use Rattle.std.proofs.Common.{inl, inr, append_assoc, arith, sym, ap, subst, ◌∙◌}
use Rattle.std.proofs.lemmas.List.{append-nil}
use Rattle.aml_slice.specs.aml_tree.Tree.{CheckedMethod}
use Rattle.run_opening.specs.log_opening.Cuts.{AreRecent, HoldFour}
use Rattle.run_opening.specs.log_opening.Devices.{Device, device_at}
use Rattle.protocol.specs.Events as machine
use Rattle.protocol.specs.Moments.{left_in}
use Rattle.protocol.specs.Runs.{reached}
use Rattle.record_log.specs.RecordLogLaws.{OneListOfRecords}
use Rattle.record_log.specs.Records.{HoldsRecords}
use Rattle.machine_recovery.specs.compact_laws.log_compact.declared.folds.Folded.{Folded}
use Rattle.machine_recovery.specs.compact_laws.log_compact.Finding.{IsLeftByRuns, IsUsed}
use Rattle.machine_recovery.specs.compact_laws.log_compact.Folds.{BegunListsFold, FoldsAreBegun}
use Rattle.machine_recovery.specs.compact_laws.log_compact.Sets.{OneFold, count_acts, count_batches, logs_from}
use Rattle.machine_recovery.specs.recovery_laws.Grown.{all_in}
use Rattle.run_opening.specs.Opens.{records_at, with_first}
use Rattle.run_opening.specs.Starts.{first_record}
use Rattle.snap_base.specs.declared.transactions.State.{State}
use Rattle.snap_base.proofs.Lists.{each_at}
use Rattle.snap_recover.specs.declared.openings.Kept.{Kept}
use Rattle.snap_recover.specs.declared.openings.Kept.TheVariants as kept
use Rattle.snap_recover.specs.declared.openings.Opening.{Opening}
use Rattle.snap_work.specs.Kept.{KeepsLimits}
use Rattle.snap_work.specs.Works.{Work}
use Rattle.record_log.specs.txn_records.declared.records.Record.{Record}
use Rattle.run_recovery.specs.Beginnings.{BeginsAgain, CrashBefore, KeepsOrBegins}
use Rattle.run_recovery.specs.Between.{Call, HasCompaction, IsFoldBehind, LeadTo, compacted, still}
use Rattle.run_recovery.specs.Crashes.{CrashOn, FindsRunsLogs, Recovers}
use Rattle.run_recovery.specs.Next.{GoesOnFrom, fold_left}
use Rattle.run_recovery.specs.OneRun.{TheRun, MomentOf, the_run}
use Rattle.run_recovery.specs.Runs.{HasRunWork, machine_of}
use Rattle.run_recovery.specs.Schedules.{Schedule}
use Rattle.run_recovery.specs.Several.{Adds, BeganOn, Crash, CutOff, EachIsBehind, Early, FoundByRuns, GoOn, HaveNoCompaction, IsBehindCutOff, Left, LeftBy, OfNext, ValuesStand, Within, added_by, in_use, kept_behind, kept_by}
use Rattle.run_recovery.proofs.CallsKept.{CallsKeep}
use Rattle.run_recovery.proofs.FourDevices.{SetLaws, TellAll, from_at, from_long, fronts_are, left_in_front, left_set, one_told, used_of, within_four}
use Rattle.run_recovery.proofs.Leading.{alone_of, begun_leads, one_lead, run_leads, same_counts, states_of}
use Rattle.run_recovery.proofs.OneSerial.{one_serial_run}
use Rattle.run_recovery.proofs.PlacesOver.{places_go_on}

-- ---- one of several programs

among : {X : Type 0} (P : X → Type 0) (xs : List X) (x : X) → AllByRecursion P xs → Contains xs x → P x
among P xs x all c = subst P c.2 (each_at P xs c.0 x c.1 all)

-- ---- what the laws say

-- what the law runs_are_recovered says of the program
abbrev pub AreRecovered : List CheckedMethod → Type 0
AreRecovered p = (w : Work) (schedule : Schedule) (o : Opening) (es : List machine.Event) (failed : ℕ → Bool) (before after : List Device) → w.program ≡ p → KeepsLimits w → (run : HasRunWork w schedule o es failed before after)
    → (m : MomentOf (the_run run)) (images : ℕ → List ℕ) → CrashOn (the_run run) m images → Recovers p (the_run run) m images

-- and what those say that speak of no program
pub record NextLaws : Type 0 where
  pub begin : (r : TheRun) (images : ℕ → List ℕ) → KeepsLimits r.work → CrashBefore r images → BeginsAgain r images
  pub go_on : (p : List CheckedMethod) (r : TheRun) (m : MomentOf r) (images : ℕ → List ℕ) → KeepsLimits r.work → (left : Recovers p r m images) → GoesOnFrom left
  pub fold : OneFold
  pub written : BegunListsFold
  pub begun : FoldsAreBegun
  pub list : OneListOfRecords
  pub sets : SetLaws
  pub calls : CallsKeep

-- ---- what is left

-- the records of a run lead to what they fold to as it begins
leads_to_run : NextLaws → (x : CutOff) → LeadTo x.run.devices.records x.work.states x.run.devices.fold
leads_to_run laws x =
    run_leads laws.fold laws.written laws.begun x.run.devices.records x.work.states x.opening x.run.devices.added x.run.devices.fold (omega (arith, x.limits.logs.0, x.run.devices.as_many)) x.run.devices.start x.run.devices.folds

-- behind the crash
record AtCrash (x : CutOff) (crash : Crash (the_run x.run) x.images) : Type 0 where
  now : ℕ → List Record
  fold : Folded
  by : LeftBy x crash now fold
  adds : Adds x crash now fold by
  holds : HoldFour x.images now
  recent : AreRecent x.images x.run.devices.head x.work.logs
  used : IsUsed now x.work.logs x.run.devices.head x.work.logs x.run.devices.generation
  leads : LeadTo (logs_from now x.run.devices.head x.work.logs) x.work.states fold
  set : FindsRunsLogs (the_run x.run) → IsLeftByRuns now x.run.devices.head x.work.logs

-- while the run began
early_leads : NextLaws → (x : CutOff) (b : BeginsAgain (the_run x.run) x.images) → LeadTo (logs_from b.now x.run.devices.head x.work.logs) x.work.states x.run.devices.fold
early_leads laws x b = by b.which
  where
    by : KeepsOrBegins x.work.logs x.work.states x.run.devices.records b.kept → LeadTo (logs_from b.now x.run.devices.head x.work.logs) x.work.states x.run.devices.fold
    by (inl same) = subst (λ (l : List (List Record)). LeadTo l x.work.states x.run.devices.fold) (sym (b.lists ∙ same)) (leads_to_run laws x)
    by (inr new) =
        subst (λ (l : List (List Record)). LeadTo l x.work.states x.run.devices.fold)
        (ap (λ (n : ℕ). with_first x.run.devices.records (first_record n x.work.states ∷ [])) x.run.devices.as_many ∙ sym (b.lists ∙ new.1))
        (begun_leads laws.fold laws.written laws.begun x.run.devices.records x.work.states x.run.devices.fold (omega (arith, x.limits.logs.0, x.run.devices.as_many)) new.0 (leads_to_run laws x))

crashed : NextLaws → (x : CutOff) → AreRecovered x.work.program → (crash : Crash (the_run x.run) x.images) → AtCrash x crash
crashed laws x recovered (Early crash) =
    let b = laws.begin (the_run x.run) x.images x.limits crash in
    record {
      now = b.now;
      fold = x.run.devices.fold;
      by = (b, refl, refl);
      adds = record { more = []; committed = ap (λ (q : Opening). q.committed) x.run.devices.opens ∙ sym (append-nil x.opening.committed); batches = omega arith; acts = omega arith; members = refl };
      holds = b.holds;
      recent = b.recent;
      used = b.used;
      leads = early_leads laws x b;
      set = b.set;
    }
crashed laws x recovered (Within m crash) =
    let r = recovered x.work x.schedule x.opening x.events x.failed x.before x.after refl x.limits x.run m x.images crash in
    let g = laws.go_on x.work.program (the_run x.run) m x.images x.limits r in
    let more : List Kept = all_in x.work.logs (left_in (reached (machine_of x.work x.opening) m.events) r.kept) (reached (machine_of x.work x.opening) m.events) in
    record {
      now = r.now;
      fold = fold_left r;
      by = (r, g, refl, refl);
      adds = record {
        more = more;
        committed = ap (λ (q : Opening). q.committed ++ more) x.run.devices.opens;
        batches = refl;
        acts = refl;
        members = (r.members.ordered, r.meant.values);
      };
      holds = r.holds;
      recent = r.recent;
      used = r.used;
      leads = subst (λ (l : List (List Record)). LeadTo l x.work.states (fold_left r)) (sym r.lists) (inr (g.same, g.folded));
      set = λ found. left_set r.now x.run.devices.head x.work.logs x.run.devices.generation (r.set found);
    }

-- behind the calls
left_by : NextLaws → (x : CutOff) → AreRecovered x.work.program → (crash : Crash (the_run x.run) x.images) → Left x crash
left_by laws x recovered crash =
    let c = crashed laws x recovered crash in
    let lists = logs_from c.now x.run.devices.head x.work.logs in
    let k =
    laws.calls x.work.logs x.work.states x.run.devices.head x.run.devices.generation c.now x.images x.calls x.limits.logs.0 (omega (arith, x.limits.logs.1)) c.used c.holds (λ among. states_of lists x.work.states c.fold c.leads) x.between in
    let next = k.folds c.fold c.leads in
    record {
      crashed = c.now;
      crashed_fold = c.fold;
      by = c.by;
      adds = c.adds;
      now = k.kept;
      holds = k.holds;
      head = k.kept_head;
      generation = k.kept_generation;
      recent = k.recent c.recent;
      used = k.used;
      set = λ found. k.set (c.set found);
      unbegun = k.unbegun;
      fold = next.0;
      which = next.2;
      leads = next.1;
      alone = λ q begins. alone_of laws.fold (logs_from k.kept k.kept_head x.work.logs) x.work.states next.0 q next.1 begins;
    }

-- ---- what the next one begins with

same_lists_at : (xs ys : List (List Record)) → length xs ≡ length ys → ((l : ℕ) → l < length xs → records_at xs l ≡ records_at ys l) → xs ≡ ys
same_lists_at [] [] e same = refl
same_lists_at [] (y ∷ ys) e same = absurd (omega (arith, e))
same_lists_at (x ∷ xs) [] e same = absurd (omega (arith, e))
same_lists_at (x ∷ xs) (y ∷ ys) e same =
    ap (λ (z : List Record). z ∷ xs) (same 0 (omega arith)) ∙ ap (λ (zs : List (List Record)). y ∷ zs) (same_lists_at xs ys (omega (arith, e)) (λ l lt. same (suc l) (omega (arith, lt))))

began_on : NextLaws → (x y : CutOff) (crash : Crash (the_run x.run) x.images) (left : Left x crash) → IsBehindCutOff x y → BeganOn left y
began_on laws x y crash left behind = record {
  head = at.0;
  generation = at.1;
  records = same;
  fold = fold;
  opening = sym y.run.devices.opens ∙ ap (λ (f : Folded). f.opening) fold;
  found = λ was.
      left_in_front laws.sets y.run.devices.used.fronts left.now y.run.devices.head y.work.logs (omega (arith, y.limits.logs.1)) (fronts_are laws.sets left.now y.run.devices.used tells)
      (subst (λ (n : ℕ). IsLeftByRuns left.now y.run.devices.head n) (sym behind.logs) (subst (λ (h : ℕ). IsLeftByRuns left.now h x.work.logs) (sym at.0) was));
}
  where
    tells : TellAll y.before left.now
    tells d low = let t = behind.told d low in (t.0, t.1, subst (λ (bytes : List ℕ). HoldsRecords bytes (left.now d)) (sym t.2) (left.holds d low))

    used : IsUsed left.now y.work.logs y.run.devices.head y.work.logs y.run.devices.generation
    used = used_of laws.sets left.now y.run.devices.used tells

    at : (y.run.devices.head ≡ left.head) × (y.run.devices.generation ≡ left.generation)
    at =
        let o =
        laws.sets.one left.now x.work.logs y.run.devices.head x.work.logs y.run.devices.generation left.head x.work.logs left.generation
        (subst (λ (n : ℕ). IsUsed left.now n y.run.devices.head n y.run.devices.generation) behind.logs used) left.used in
        (o.0, o.2)

    within : y.run.devices.head + y.work.logs ≤ 4
    within = within_four left.now y.run.devices.head y.work.logs y.run.devices.generation (omega (arith, y.limits.logs.1)) used

    each : (l : ℕ) → l < y.work.logs → records_at y.run.devices.records l ≡ records_at (in_use left) l
    each l lt =
        one_told laws.list (device_at y.before (y.run.devices.head + l)) (records_at y.run.devices.records l) (left.now (y.run.devices.head + l)) (y.run.devices.each l lt).held (tells (y.run.devices.head + l) (omega (arith, within, lt)))
        ∙ (ap (λ (h : ℕ). left.now (h + l)) at.0 ∙ sym (from_at left.now left.head x.work.logs l (omega (arith, lt, behind.logs))))

    same : y.run.devices.records ≡ in_use left
    same =
        same_lists_at y.run.devices.records (in_use left) (y.run.devices.as_many ∙ (behind.logs ∙ sym (from_long left.now left.head x.work.logs)))
        (λ l lt. each l (omega (arith, lt, y.run.devices.as_many)))

    fold : y.run.devices.fold ≡ left.fold
    fold =
        one_lead laws.fold (in_use left) x.work.states y.run.devices.fold left.fold
        (subst (λ (logs : List (List Record)). LeadTo logs x.work.states y.run.devices.fold) same
        (subst (λ (states : List State). LeadTo y.run.devices.records states y.run.devices.fold) behind.states (leads_to_run laws y))) left.leads

next_began : NextLaws → (x : CutOff) (crash : Crash (the_run x.run) x.images) (left : Left x crash) (xs : List CutOff) → OfNext (IsBehindCutOff x) xs → OfNext (BeganOn left) xs
next_began laws x crash left [] behind = tt
next_began laws x crash left (y ∷ ys) behind = began_on laws x y crash left behind

pub go_on_behind : NextLaws → (ps : List (List CheckedMethod)) → AllByRecursion AreRecovered ps → (xs : List CutOff) → AllByRecursion (λ (x : CutOff). Contains ps x.work.program) xs → EachIsBehind xs → GoOn xs
go_on_behind laws ps all [] of_them behind = tt
go_on_behind laws ps all (x ∷ xs) of_them behind =
    let left = left_by laws x (among AreRecovered ps x.work.program all of_them.0) x.crash in
    ((left, next_began laws x x.crash left xs behind.0), go_on_behind laws ps all xs of_them.1 behind.1)

-- ---- logs as runs leave them

next_finds : (x : CutOff) (left : Left x x.crash) (xs : List CutOff) → OfNext (BeganOn left) xs → FoundByRuns x → OfNext FoundByRuns xs
next_finds x left [] began own = tt
next_finds x left (y ∷ ys) began own = began.found (left.set own)

pub each_finds : (xs : List CutOff) → GoOn xs → OfNext FoundByRuns xs → AllByRecursion FoundByRuns xs
each_finds [] on own = tt
each_finds (x ∷ xs) on own = (own, each_finds xs on.1 (next_finds x on.0.0 xs on.0.1 own))

-- ---- the values that recovery gives

next_fold : (x : CutOff) (left : Left x x.crash) (xs : List CutOff) → OfNext (BeganOn left) xs → OfNext (λ (y : CutOff). y.run.devices.fold ≡ left.fold) xs
next_fold x left [] began = tt
next_fold x left (y ∷ ys) began = began.fold

-- what is kept behind calls is what they lead to
is_kept : {calls : List Call} {f g : Folded} (w : IsFoldBehind calls f g) (ks : List Kept) → f.opening.committed ≡ ks → g.opening.committed ≡ kept_by w ks
is_kept (still same) ks e = ap (λ (x : Folded). x.opening.committed) same ∙ e
is_kept (compacted among same later since) ks e = since

all_stay : {calls : List Call} {f g : Folded} (w : IsFoldBehind calls f g) (ks : List Kept) → ¬ HasCompaction calls → kept_by w ks ≡ ks
all_stay (still same) ks none = refl
all_stay (compacted among same later since) ks none = absurd (none among)

all_kept : (ks : List Kept) (xs : List CutOff) (on : GoOn xs) → HaveNoCompaction xs → kept_behind ks xs on ≡ ks ++ added_by xs on
all_kept ks [] on none = sym (append-nil ks)
all_kept ks (x ∷ xs) on none =
    let left = on.0.0 in
    let more : List Kept = left.adds.more in
    ap (λ (z : List Kept). kept_behind z xs on.1) (all_stay left.which (ks ++ more) none.0) ∙ (all_kept (ks ++ more) xs on.1 none.1 ∙ append_assoc ks more (added_by xs on.1))

batches_joined : (xs ys : List Kept) → count_batches (xs ++ ys) ≡ count_batches xs + count_batches ys
batches_joined [] ys = omega arith
batches_joined (kept.Batch bid tids values ∷ xs) ys = omega (arith, batches_joined xs ys)
batches_joined (kept.Act tid m c value ∷ xs) ys = batches_joined xs ys

acts_joined : (xs ys : List Kept) → count_acts (xs ++ ys) ≡ count_acts xs + count_acts ys
acts_joined [] ys = omega arith
acts_joined (kept.Batch bid tids values ∷ xs) ys = acts_joined xs ys
acts_joined (kept.Act tid m c value ∷ xs) ys = omega (arith, acts_joined xs ys)

pub values_stand : (f : Folded) (xs : List CutOff) (on : GoOn xs) → OfNext (λ (x : CutOff). x.run.devices.fold ≡ f) xs → ValuesStand f xs on
values_stand f [] on first = record { committed = refl; all = λ none. sym (append-nil f.opening.committed); batches = omega arith; acts = omega arith; members = tt; one = one_serial_run f [] on first; rise = tt }
values_stand f (x ∷ xs) on first =
    let left = on.0.0 in
    let more : List Kept = left.adds.more in
    let later = values_stand left.fold xs on.1 (next_fold x left xs on.0.1) in
    let counts = same_counts x.calls left.crashed_fold left.fold left.which in
    let own : x.opening.committed ≡ f.opening.committed = sym (ap (λ (q : Opening). q.committed) x.run.devices.opens) ∙ ap (λ (g : Folded). g.opening.committed) first in
    let here : left.crashed_fold.opening.committed ≡ f.opening.committed ++ more = left.adds.committed ∙ ap (λ (ks : List Kept). ks ++ more) own in
    let batches : x.run.devices.fold.batches ≡ f.batches = ap (λ (g : Folded). g.batches) first in
    let acts : x.run.devices.fold.acts ≡ f.acts = ap (λ (g : Folded). g.acts) first in
    record {
      committed = later.committed ∙ ap (λ (ks : List Kept). kept_behind ks xs on.1) (is_kept left.which (f.opening.committed ++ more) here);
      all = λ none. all_kept f.opening.committed (x ∷ xs) on none;
      batches = omega (arith, later.batches, counts.0, left.adds.batches, batches, batches_joined more (added_by xs on.1));
      acts = omega (arith, later.acts, counts.1, left.adds.acts, acts, acts_joined more (added_by xs on.1));
      members = (left.adds.members, later.members);
      one = one_serial_run f (x ∷ xs) on first;
      rise = places_go_on (x ∷ xs) on;
    }
