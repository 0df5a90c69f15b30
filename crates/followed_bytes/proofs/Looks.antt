-- What every look owes.
use Rattle.std.specs.Prelude.{◌≡◌, refl, ℕ, ◌%◌, Bool, true, false, ◌&&◌, Option, Some, None, List, [], ◌∷◌, ◌++◌, map, take, drop}
use Rattle.std.specs.List.{list_any}
use Rattle.std.proofs.Common.{inr, sym, ap, subst, ◌∙◌}
use Rattle.std.proofs.lemmas.Bool.{true≢false}
use Rattle.std.proofs.lemmas.List.{append-nil, append_assoc, take-append-drop}
use Rattle.std.proofs.Math.Seq.{take-length}
use mathlib.Core.Path.{fun_ext}
use Rattle.aml_slice.specs.Controls.{Rest}
use Rattle.aml_tree.specs.Tree.{CheckedMethod}
use Rattle.followed_logs.specs.OnRecords.{Finding, FollowStands, FollowersAreNotRefused, FollowersTellSerialStates, IsLaterFinding}
use Rattle.followed_meant.proofs.Meant.{OfPrograms, go_on, tell}
use Rattle.followed_meant.specs.AsMeant.{AllFollowMeant, FollowIsMeant, cut_runs, meant_from}
use Rattle.followed_runs.specs.Following.{IsClosedByChange, followed, what_is_read}
use Rattle.followed_runs.specs.FollowingRuns.{first_members, members_among}
use Rattle.log_opening.specs.Devices.{Device}
use Rattle.machine_laws.specs.Programs.{AtEveryMomentOf, finish_of}
use Rattle.machine_recovery.specs.OnLogs.{as_cut_run}
use Rattle.protocol.specs.Chains.{by_place}
use Rattle.protocol.specs.Effects.{log_at}
use Rattle.protocol.specs.Fixed.{Fixed}
use Rattle.protocol.specs.Footprints.{HasLogs}
use Rattle.protocol.specs.Laws.{AfterEveryRun}
use Rattle.protocol.specs.Events as machine
use Rattle.protocol.specs.History.{Done}
use Rattle.protocol.specs.Moments.{left_in}
use Rattle.protocol.specs.Parts.{Machine, Who, OfBatch, OfAct}
use Rattle.protocol.specs.Records.{LogRecord, is_act_commit, is_commit}
use Rattle.protocol.specs.Runs.{EachAllowed, reached, state_after}
use Rattle.protocol_laws.proofs.first.Lists.{any_front}
use Rattle.protocol_laws.specs.OneWay.{WentOn}
use Rattle.protocol_records.specs.Crash.{CrashHolds, HasMember, is_in}
use Rattle.record_log.specs.RecordLogLaws.{OneListOfRecords}
use Rattle.run_recovery.proofs.BegunTexts.{starts_with_as_many, text_begins}
use Rattle.run_recovery.proofs.RunsFollowed.{taken_run}
use Rattle.run_recovery.specs.OneRun.{TheRun, history_in, machine_in, reached_in, the_run}
use Rattle.run_recovery.specs.Runs.{HasRunWork, machine_of, text_of}
use Rattle.run_recovery.specs.Schedules.{Schedule}
use Rattle.snap_follow.specs.Refusals.{IsNotFollowed}
use Rattle.snap_follow.specs.Rounds.{Following}
use Rattle.snap_recover.specs.declared.openings.Opening.{Opening}
use Rattle.snap_work.specs.Kept.{KeepsLimits}
use Rattle.snap_work.specs.Works.{Work}
use Rattle.followed_bytes.specs.Looks.{AllLooksStand, Look, LookStands, LooksGoOn, LooksTellMeantStates, known_behind, look_behind}
use Rattle.followed_bytes.specs.Readings.{IsReadAs, IsReadingOf}
use Rattle.followed_bytes.proofs.Rounds.{Known, all_kept, alone_on_logs, as_runs, began_with, end_of, found_in, found_same, known_same, later_found, lists_are, lists_then, log_grew, looks_are_rounds, reading_in, round_in, rounds_in, whole_run}

-- ---- who is read has committed

in_more : (many : ℕ) (xs ys : ℕ → List LogRecord) → ((l : ℕ) → (more : List LogRecord) × (ys l ≡ xs l ++ more)) → (w : Who) → is_in many xs w ≡ true → is_in many ys w ≡ true
in_more many xs ys grew (OfBatch k) h = let m = grew (k % many) in ap (list_any (is_commit k)) m.1 ∙ any_front (is_commit k) (xs (k % many)) m.0 h
in_more many xs ys grew (OfAct t) h = let m = grew (t % many) in ap (list_any (is_act_commit t)) m.1 ∙ any_front (is_act_commit t) (xs (t % many)) m.0 h

module _ (r : TheRun) (k : Known r) (y : Look r) where
  -- the run gave the log all that is read of it
  given : (l : ℕ) → (more : List LogRecord) × (left_in (reached_in r) (all_kept r) l ≡ what_is_read (reading_in r k y) l ++ more)
  given l =
      let q = reading_in r k y in
      let rs = (log_at (reached (machine_in r) (q.events l)) l).records in
      let grew = (log_grew r k (q.events l) (q.later l) (q.splits l) l).records in (
        drop (q.count l) rs ++ grew.more,
        take-length (log_at (reached_in r) l).records
            ∙ (grew.is ∙ (ap (λ (xs : List LogRecord). xs ++ grew.more) (sym (take-append-drop (q.count l) rs)) ∙ append_assoc (take (q.count l) rs) (drop (q.count l) rs) grew.more)),
      )

  crash : CrashHolds (machine_in r) (finish_of r.work.program (text_of r.work r.opening)) r.events (reached_in r) (history_in r) (left_in (reached_in r) (all_kept r))
  crash = k.in_order (text_of r.work r.opening) r.events (end_of r) (all_kept r) k.text k.run (record { same = λ l e. absurd (true≢false e); whole = λ l. inr refl })

  -- ---- the members

  read_alone : (w : Who) → is_in r.work.logs (λ l. what_is_read (reading_in r k y) l ++ []) w ≡ true → is_in r.work.logs (what_is_read (reading_in r k y)) w ≡ true
  read_alone w h = subst (λ (logs : ℕ → List LogRecord). is_in r.work.logs logs w ≡ true) (fun_ext (λ l. append-nil (what_is_read (reading_in r k y) l))) h

  all_among : (members : Who → Bool) → ((w : Who) → members w ≡ true → is_in r.work.logs (what_is_read (reading_in r k y)) w ≡ true) → (w : Who) → members_among r.work.logs (what_is_read (reading_in r k y)) members w ≡ members w
  all_among members read w = by (members w) refl
    where
      by : (b : Bool) → members w ≡ b → (b && is_in r.work.logs (what_is_read (reading_in r k y)) w) ≡ b
      by true e = read w e
      by false e = refl

  look_stands : (before : Option (Finding (cut_runs (as_runs r)))) (taken : Who → Bool) → (s : FollowStands r.work.logs (began_with r) (cut_runs (as_runs r)) before taken (round_in r k y))
      → FollowIsMeant r.work.logs (began_with r) (as_runs r) (round_in r k y) s.members → LookStands r.work.program r taken y
  look_stands before taken s m = record {
    members = s.members;
    held = s.held;
    of_all = s.of_all;
    none_lost = s.stands.none_lost;
    all_done = λ w e. crash.stands.all_done w (in_more r.work.logs (what_is_read (reading_in r k y)) (left_in (reached_in r) (all_kept r)) given w (read w e));
    closed = subst (λ (ds : List Done). IsClosedByChange (λ t. HasMember t ds) (history_in r)) own s.stands.runs.0.0;
    meant = record {
      results = subst (λ (ds : List Done). map Some (meant_from r.work.program (text_of r.work r.opening) r.opening.states ds).results ≡ map (λ d. d.result) (by_place ds)) own m.results.0;
      states = m.states refl ∙ ap (λ (ds : List Done). Some (meant_from r.work.program (text_of r.work r.opening) r.opening.states ds).world) own;
    };
  } where
    read : (w : Who) → s.members w ≡ true → is_in r.work.logs (what_is_read (reading_in r k y)) w ≡ true
    read w e = read_alone w (m.read w e)

    own : first_members r.work.logs (as_cut_run (whole_run r)) [] (found_in r k y).reading s.members ≡ followed s.members (history_in r)
    own = ap (λ (f : Who → Bool). followed f (history_in r)) (fun_ext (λ w. all_among s.members read w))

-- ---- all looks

all_stand : (r : TheRun) (k : Known r) (before : Option (Finding (cut_runs (as_runs r)))) (taken : Who → Bool) (ys : List (Look r)) → AllFollowMeant r.work.logs (began_with r) (as_runs r) before taken (rounds_in r k ys) → AllLooksStand r.work.program r taken ys
unfolding look_stands
all_stand r k before taken [] h = tt
all_stand r k before taken (y ∷ ys) h = (look_stands r k y before taken h.0 h.1, all_stand r k (Some (found_in r k y)) h.0.members ys h.2)

pub looks_tell : (r : TheRun) → Known r → LooksTellMeantStates r.work.program r
looks_tell r k f ys alone new h =
    all_stand r k None (λ w. false) ys
    (tell (r.work.program ∷ []) (k.of_program, tt) k.tell r.work.logs (began_with r) alone.front (as_runs r) f (rounds_in r k ys) (alone_on_logs r k alone) new (looks_are_rounds r k alone f None ys new.nothing h))

pub looks_go_on : (r : TheRun) → Known r → LooksGoOn r
looks_go_on r k f ys next why alone new h no_earlier there refused =
    go_on (r.work.program ∷ []) (k.of_program, tt) k.go_on r.work.logs (began_with r) alone.front (as_runs r) f (rounds_in r k ys) (found_in r k next) why (alone_on_logs r k alone) new
    (looks_are_rounds r k alone f None ys new.nothing h)
    (subst (λ (o : Option (Finding (cut_runs (as_runs r)))). IsLaterFinding (cut_runs (as_runs r)) o (found_in r k next)) (sym (found_same r k None ys)) (later_found r k (look_behind r None ys) next no_earlier there))
    (subst (λ (g : Following). IsNotFollowed g.before (lists_then r k alone next) why) (sym (known_same r k f ys)) (subst (λ lists. IsNotFollowed (known_behind r f ys).before lists why) (lists_are r k alone next) refused))

-- ---- of every run of a work of the program

-- what the laws say
pub record Laws (p : List CheckedMethod) : Type 0 where
  pub reads : (w : Work) (schedule : Schedule) (o : Opening) (es : List machine.Event) (failed : ℕ → Bool) (before after : List Device)
      → (run : HasRunWork w schedule o es failed before after) → (bytes : ℕ → List ℕ) (x : IsReadingOf (the_run run) bytes) → IsReadAs (the_run run) bytes x
  pub of_program : OfPrograms p
  pub in_order : AtEveryMomentOf p CrashHolds
  pub tell : FollowersTellSerialStates Rest
  pub go_on : FollowersAreNotRefused Rest
  pub one_way : (v : Fixed Rest) (es : List machine.Event) (s : Machine Rest) → EachAllowed v es s → WentOn s (state_after v es s)
  pub logs : AfterEveryRun (HasLogs {C = Rest})
  pub list : OneListOfRecords

known : (w : Work) (schedule : Schedule) (o : Opening) (es : List machine.Event) (failed : ℕ → Bool) (before after : List Device) → Laws w.program → KeepsLimits w → (run : HasRunWork w schedule o es failed before after) → Known (the_run run)
known w schedule o es failed before after laws limits run =
    let actors = starts_with_as_many run.devices.records w.states o run.devices.added run.devices.start in
    let text = text_begins w o limits run.room actors in
    record {
      limits = limits;
      text = text;
      run = taken_run (machine_of w o) schedule es run.front;
      actors = actors;
      reads = laws.reads w schedule o es failed before after run;
      one_way = laws.one_way (machine_of w o);
      as_many = λ es allowed. laws.logs (machine_of w o) es text.accepted allowed;
      list = laws.list;
      of_program = laws.of_program;
      in_order = laws.in_order;
      tell = laws.tell;
      go_on = laws.go_on;
    }

pub all_tell : (p : List CheckedMethod) → Laws p → (w : Work) (schedule : Schedule) (o : Opening) (es : List machine.Event) (failed : ℕ → Bool) (before after : List Device) → w.program ≡ p → KeepsLimits w
    → (run : HasRunWork w schedule o es failed before after) → LooksTellMeantStates p (the_run run)
all_tell p laws w schedule o es failed before after e limits run =
    subst (λ (q : List CheckedMethod). LooksTellMeantStates q (the_run run)) e (looks_tell (the_run run) (known w schedule o es failed before after (subst Laws (sym e) laws) limits run))

pub all_go_on : (p : List CheckedMethod) → Laws p → (w : Work) (schedule : Schedule) (o : Opening) (es : List machine.Event) (failed : ℕ → Bool) (before after : List Device) → w.program ≡ p → KeepsLimits w
    → (run : HasRunWork w schedule o es failed before after) → LooksGoOn (the_run run)
all_go_on p laws w schedule o es failed before after e limits run = looks_go_on (the_run run) (known w schedule o es failed before after (subst Laws (sym e) laws) limits run)
