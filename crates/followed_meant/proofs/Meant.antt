-- Members of runs of programs, by their meaning.
use Rattle.std.specs.Prelude.{◌≡◌, refl, ℕ, suc, ◌+◌, ◌<◌, Bool, true, false, ◌&&◌, Option, Some, None, List, [], ◌∷◌, length, map}
use Rattle.std.specs.List.{AllByRecursion}
use Rattle.std.proofs.Common.{arith, sym, ap, subst, ◌∙◌}
use Rattle.snap_base.specs.Outcomes.{Serial}
use Rattle.snap_base.specs.declared.transactions.State.{State}
use Rattle.snap_base.proofs.Lists.{all_filter, all_map, weaker}
use Rattle.aml_tree.specs.Tree.{CheckedMethod}
use Rattle.aml_slice.specs.Controls.{Rest}
use Rattle.protocol.specs.Chains.{by_place, txs_of}
use Rattle.protocol.specs.Facts.{serial, state_in}
use Rattle.protocol.specs.Fixed.{Fixed, Opening}
use Rattle.protocol.specs.History.{Done, history}
use Rattle.protocol.specs.Laws.{AfterEveryRun}
use Rattle.protocol.specs.Numbers.{TransactionsInOnePlace}
use Rattle.protocol.specs.Parts.{Who}
use Rattle.protocol.specs.Records.{LogRecord}
use Rattle.protocol.specs.Runs.{IsRun, opening}
use Rattle.protocol.specs.Words.{is_value}
use Rattle.protocol_records.specs.SeveralRuns.{GoOn, logs_left, opening_left, recovered_from}
use Rattle.protocol_theorems.proofs.order.ByPlace.{all_sorted}
use Rattle.protocol_verdicts.specs.EvidenceSerial.{VerdictsTell}
use Rattle.followed_runs.specs.Following.{followed}
use Rattle.followed_runs.specs.FollowingRuns.{RunsFollowed, RunsReading, first_members, members_among, head_read, runs_read, tail_read, world_behind}
use Rattle.followed_logs.specs.OnRecords.{AllFollowStand, AreOnLogs, Finding, FollowRound, FollowStands, FollowersAreNotRefused, FollowersTellSerialStates, GoOnFollowing, HasTheirStates}
use Rattle.machine_laws.proofs.AsMany.{serial_as_many}
use Rattle.machine_laws.proofs.AsMeant.{SerialMeant, asked, first_allowed}
use Rattle.machine_laws.proofs.TextTxs.{there_after}
use Rattle.machine_laws.specs.Programs.{OfEveryRunOf, TextsHaveFacts, finish_of, with_code}
use Rattle.machine_recovery.proofs.Programs.{among}
use Rattle.machine_recovery.specs.OnLogs.{CutRunOf, as_cut_run}
use Rattle.snap_follow.specs.Rounds.{Following}
use Rattle.txn_records.specs.declared.records.Record.{Record}
use Rattle.followed_meant.proofs.CommitsRead.{commit_read}
use Rattle.followed_meant.specs.AsMeant.{AllFollowMeant, AreMeant, AreOnLogsOf, FollowersGoOn, FollowersTellMeantStates, GoOnOf, ResultsAreMeant, SetsAreMeant, cut_runs, meant_behind, meant_from}

-- ---- one run

pub sets_meant : (p : List CheckedMethod) → SerialMeant p → OfEveryRunOf p VerdictsTell → AfterEveryRun (TransactionsInOnePlace {C = Rest}) → SetsAreMeant p
sets_meant p meant tells one w es members world is run long = record {
  same = same;
  as_many = ap (λ (s : Serial). length s.world) (sym same) ∙ serial_as_many p (length w.opening.states) world (txs_of (with_code p w) (by_place ds));
}
  where
    ds : List Done
    ds = followed members (history (with_code p w) es)

    there : AllByRecursion (λ d. d.tx < length w.txs) (history (with_code p w) es).committed
    there = there_after (with_code p w) es run (one (with_code p w) es is.accepted run) (tells w es is run).committed

    same : serial (with_code p w).code (finish_of p w) world (txs_of (with_code p w) (by_place ds)) ≡ meant_from p w world ds
    same =
        meant (length w.opening.states) world (txs_of (with_code p w) (by_place ds)) long
        (asked p w (by_place ds) is (all_sorted (λ d. d.tx < length w.txs) ds (all_filter (λ d. d.tx < length w.txs) (λ d. members d.who && is_value d.result) (history (with_code p w) es).committed there)))

-- ---- states

pub same_list : (xs ys : List State) → length xs ≡ length ys → ((a : ℕ) → a < length xs → state_in xs a ≡ state_in ys a) → xs ≡ ys
same_list [] [] e same = refl
same_list [] (y ∷ ys) e same = absurd (omega (arith, e))
same_list (x ∷ xs) [] e same = absurd (omega (arith, e))
same_list (x ∷ xs) (y ∷ ys) e same =
    ap (λ (z : State). z ∷ xs) (same 0 (omega arith)) ∙ ap (λ (zs : List State). y ∷ zs) (same_list xs ys (omega (arith, e)) (λ a lt. same (suc a) (omega (arith, lt))))

recovered_long : (many : ℕ) (logs : ℕ → List LogRecord) (n : ℕ) (ss : List State) → length (recovered_from many logs n ss) ≡ length ss
recovered_long many logs n [] = refl
recovered_long many logs n (s ∷ ss) = ap suc (recovered_long many logs (n + 1) ss)

-- ---- runs

pub goes_on : (ps : List (List CheckedMethod)) (o : Opening) (xs : List CutRunOf) → AllByRecursion TextsHaveFacts ps → GoOnOf ps o xs → GoOn o (cut_runs xs)
goes_on ps o [] all g = tt
goes_on ps o (x ∷ xs) all g = (
  record { facts = among TextsHaveFacts ps x.program all g.0.program x.text g.0.text; text = g.0.text.accepted; run = g.0.run; left = g.0.left },
  g.1,
  goes_on ps (opening_left (as_cut_run x)) xs all g.2,
)

pub on_logs : (ps : List (List CheckedMethod)) (many : ℕ) (o : Opening) (front : List Record) (xs : List CutRunOf) → AllByRecursion TextsHaveFacts ps → AreOnLogsOf ps many o front xs → AreOnLogs many o front (cut_runs xs)
on_logs ps many o front xs all g = record {
  some_actors = g.some_actors;
  some_logs = g.some_logs;
  same_logs = all_map as_cut_run (λ x. x.fixed.text.logs ≡ many) xs g.same_logs;
  go_on = goes_on ps o xs all g.go_on;
  is_front = g.is_front;
}

-- run by run the machine's words are those of the language
record RunByRun (many : ℕ) (xs : List CutRunOf) (r : RunsReading (cut_runs xs)) (members : Who → Bool) (world : List State) : Type 0 where
  results : ResultsAreMeant many xs r members world
  states : world_behind many (cut_runs xs) r members world ≡ meant_behind many xs r members world
  as_many : length (meant_behind many xs r members world) ≡ length world

run_by_run : (ps : List (List CheckedMethod)) (many : ℕ) (o : Opening) (xs : List CutRunOf) (r : RunsReading (cut_runs xs)) (members : Who → Bool) (world : List State)
    → AllByRecursion SetsAreMeant ps → GoOnOf ps o xs → length world ≡ length o.states → RunsFollowed many (cut_runs xs) r members world → RunByRun many xs r members world
run_by_run ps many o [] r members world all g long h = record { results = tt; states = refl; as_many = refl }
run_by_run ps many o (x ∷ xs) r members world all g long h =
    let rest = run_by_run ps many (opening_left (as_cut_run x)) xs tail members (meant_from x.program x.text world ds).world all g.2 next (subst (λ (s : Serial). RunsFollowed many (cut_runs xs) tail members s.world) here.same h.1) in
    record {
      results = (subst (λ (s : Serial). map Some s.results ≡ map (λ d. d.result) (by_place ds)) here.same h.0.1, rest.results);
      states = ap (λ (s : Serial). world_behind many (cut_runs xs) tail members s.world) here.same ∙ rest.states;
      as_many = rest.as_many ∙ here.as_many;
    }
  where
    ds : List Done
    ds = first_members many (as_cut_run x) (cut_runs xs) r members

    tail : RunsReading (cut_runs xs)
    tail = tail_read (as_cut_run x) (cut_runs xs) r

    m : Fixed Rest
    m = with_code x.program x.text

    front : IsRun m x.moment.events
    front = first_allowed m x.moment.events x.moment.later (opening m) (subst (IsRun m) x.moment.splits g.0.run)

    here : AreMeant x.program x.text world ds
    here = among SetsAreMeant ps x.program all g.0.program x.text x.moment.events (members_among many (head_read (as_cut_run x) (cut_runs xs) r) members) world g.0.text front (long ∙ ap (λ (p : Opening). length p.states) (sym g.1))

    next : length (meant_from x.program x.text world ds).world ≡ length (opening_left (as_cut_run x)).states
    next = here.as_many ∙ (long ∙ (ap (λ (p : Opening). length p.states) (sym g.1) ∙ sym (recovered_long x.text.logs (logs_left (as_cut_run x)) 0 x.text.opening.states)))

-- ---- rounds

all_meant : (ps : List (List CheckedMethod)) (many : ℕ) (o : Opening) (front : List Record) (xs : List CutRunOf) (f : Following) (before : Option (Finding (cut_runs xs))) (taken : Who → Bool) (ys : List (FollowRound (cut_runs xs)))
    → AllByRecursion SetsAreMeant ps → AreOnLogsOf ps many o front xs → GoOnFollowing many front (cut_runs xs) f before ys → AllFollowStand many o (cut_runs xs) before taken ys → AllFollowMeant many o xs before taken ys
all_meant ps many o front xs f before taken [] all g on h = tt
all_meant ps many o front xs f before taken (y ∷ ys) all g on h = (
  s,
  record {
    read = λ w e. commit_read many o.states front y.found.is_begun (runs_read (cut_runs xs) y.found.reading) y.known.members w g.some_logs g.is_front on.0.1.members.each (s.held w e);
    results = run.results;
    states = λ b. states b (s.states b);
  },
  all_meant ps many o front xs y.known (Some y.found) s.members ys all g on.1 h.1,
)
  where
    s : FollowStands many o (cut_runs xs) before taken y
    s = h.0

    run : RunByRun many xs y.found.reading s.members o.states
    run = run_by_run ps many o xs y.found.reading s.members o.states all g.go_on refl s.stands.runs

    states : y.found.is_begun ≡ true → HasTheirStates many o (cut_runs xs) y s.members → y.known.states ≡ Some (meant_behind many xs y.found.reading s.members o.states)
    states b (ss, are, long, each) =
        are ∙ ap Some (same_list ss (world_behind many (cut_runs xs) y.found.reading s.members o.states) (long ∙ (sym run.as_many ∙ ap length (sym run.states))) (λ a lt. each a (subst (λ n. a < n) long lt)) ∙ run.states)

pub record OfPrograms (p : List CheckedMethod) : Type 0 where
  pub facts : TextsHaveFacts p
  pub sets : SetsAreMeant p

pub tell : (ps : List (List CheckedMethod)) → AllByRecursion OfPrograms ps → FollowersTellSerialStates Rest → FollowersTellMeantStates ps
tell ps all law many o front xs f ys g new h =
    all_meant ps many o front xs f None (λ y. false) ys (weaker OfPrograms SetsAreMeant ps (λ p a. a.sets) all) g h
    (law many o front (cut_runs xs) f ys (on_logs ps many o front xs (weaker OfPrograms TextsHaveFacts ps (λ p a. a.facts) all) g) new h)

pub go_on : (ps : List (List CheckedMethod)) → AllByRecursion OfPrograms ps → FollowersAreNotRefused Rest → FollowersGoOn ps
go_on ps all law many o front xs f ys next why g new h later refused =
    law many o front (cut_runs xs) f ys next why (on_logs ps many o front xs (weaker OfPrograms TextsHaveFacts ps (λ p a. a.facts) all) g) new h later refused
