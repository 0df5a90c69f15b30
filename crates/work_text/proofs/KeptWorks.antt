-- What a work keeps that a text stands for.
use Rattle.std.proofs.Common.{◌≡◌, ℕ, zero, suc, ◌+◌, ◌-◌, ◌<◌, ◌≤◌, ◌==◌, Bool, true, false, if◌then◌else◌, List, [], ◌∷◌, ◌++◌, length, refl, sym, subst, arith, inl, inr, length-append}
use Rattle.std.specs.Prelude.{Option, Some, None, Ok, ℤ, pos, replicate, FitsSigned, codes}
use Rattle.std.specs.Int.{w64}
use Rattle.std.specs.List.{AllByRecursion}
use Rattle.std.proofs.lemmas.List.{length-replicate}
use Rattle.snap_base.specs.Lines.{lines}
use Rattle.snap_base.specs.declared.transactions.TheConstants.{FIELDS}
use Rattle.snap_base.specs.declared.ids.ActorId.{ActorId}
use Rattle.snap_base.specs.declared.transactions.Kind.{Kind}
use Rattle.snap_base.specs.declared.transactions.Kind.TheVariants.{Pact, Act}
use Rattle.snap_base.specs.declared.transactions.State.{State}
use Rattle.snap_base.specs.declared.transactions.Tx.{Tx}
use Rattle.aml_tree.specs.Tree.{CheckedMethod}
use Rattle.aml_check.specs.declared.limits.TheConstants.{MOST_CALLED_ACTORS}
use Rattle.aml_check.specs.Closed.{IsClosedProgram}
use Rattle.aml_check.specs.Transactions.{Declares, IsTransaction}
use Rattle.snap_work.specs.declared.limits.TheConstants.{MOST_ACTORS, MOST_ACTS, MOST_BATCHES, MOST_COORDINATORS, MOST_IN_A_BATCH, MOST_LOGS, MOST_TRANSACTIONS}
use Rattle.work_text.specs.Lines.{Line, words, numbered, said, up_to_end}
use Rattle.work_text.specs.Readings.{ReadingOf, gives, ◌>>=◌}
use Rattle.work_text.specs.Settings as setting
use Rattle.work_text.specs.Actors.{Named, actor, state_with, state_in, states_in}
use Rattle.work_text.specs.Transactions.{AreUses, DeclaresRoot, transaction}
use Rattle.snap_work.specs.Works.{Work}
use Rattle.work_text.specs.Reads.{line, exactly, program_lines, first_is_actor, transactions, tail, Setup, work_with, reads_lines, IsWork}
use Rattle.snap_base.specs.States.{IsState}
use Rattle.snap_work.specs.Kept.{KeepsLimits}
use Rattle.work_text.proofs.OneOf.{ok_parts, ok_same}
use Rattle.work_text.proofs.OneText.{AreClosed, in_range, closed_lines}
use Rattle.work_text.proofs.StateLines.{length-states_in}

-- ---- transactions

declares : (k : Kind) (actors root : ℕ) (uses : List (ActorId × ℕ)) → AreUses k actors uses → length uses ≤ MOST_CALLED_ACTORS → DeclaresRoot k root uses → Declares actors root k uses
declares Pact actors root uses h few own = record { some = h.0; few = few; each = h.1; ascending = h.2; root_declared = own }
declares Act actors root uses h few own = h

may_run : (p : List CheckedMethod) (actors before : ℕ) (l : Line) (tx : Tx) → transaction p actors before l (Ok tx) → IsTransaction p actors tx
may_run p actors before l tx h = record {
  actor = h.0.actor;
  method = h.0.method;
  arguments = h.0.arguments;
  values = h.0.values;
  declares = declares tx.kind actors tx.actor.0 tx.uses h.0.uses h.1 h.3;
}

abbrev AllRun : List CheckedMethod → ℕ → List Tx → Type 0
AllRun p count xs = AllByRecursion (IsTransaction p count) xs

all_run : (p : List CheckedMethod) (count before : ℕ) (ls : List Line) (xs : List Tx) → transactions p count before ls (Ok xs) → AllRun p count xs
all_run p count before [] xs h = subst (AllRun p count) (sym (ok_same xs [] h)) tt
all_run p count before (l ∷ ls) xs h =
    let first = ok_parts (transaction p count before l) (λ tx. transactions p count (before + 1) ls >>= λ more. gives (tx ∷ more)) xs h in
    let rest = ok_parts (transactions p count (before + 1) ls) (λ more. gives (first.0 ∷ more)) xs first.2 in
    subst (AllRun p count) (sym (ok_same xs (first.0 ∷ rest.0) rest.2)) (may_run p count before l first.0 first.1, all_run p count (before + 1) ls rest.0 rest.1)

few_left : (p : List CheckedMethod) (count before : ℕ) (ls : List Line) (xs : List Tx) → before ≤ MOST_TRANSACTIONS → transactions p count before ls (Ok xs) → before + length xs ≤ MOST_TRANSACTIONS
few_left p count before [] xs fits h = let none : xs ≡ [] = ok_same xs [] h in subst (λ (ys : List Tx). before + length ys ≤ MOST_TRANSACTIONS) (sym none) (omega (arith, fits))
few_left p count before (l ∷ ls) xs fits h =
    let first = ok_parts (transaction p count before l) (λ tx. transactions p count (before + 1) ls >>= λ more. gives (tx ∷ more)) xs h in
    let rest = ok_parts (transactions p count (before + 1) ls) (λ more. gives (first.0 ∷ more)) xs first.2 in
    let room : before < MOST_TRANSACTIONS = first.1.2 in
    let more = few_left p count (before + 1) ls rest.0 (omega (arith, room)) rest.1 in
    subst (λ (ys : List Tx). before + length ys ≤ MOST_TRANSACTIONS) (sym (ok_same xs (first.0 ∷ rest.0) rest.2)) (omega (arith, more))

-- ---- actors

pub record IsNamed (n : Named) : Type 0 where
  pub few : length n.values ≤ FIELDS
  pub fit : AllByRecursion (FitsSigned w64) n.values

pub record IsTail (p : List CheckedMethod) (count : ℕ) (x : List Named × List Tx) : Type 0 where
  pub named : AllByRecursion IsNamed x.0
  pub run : AllRun p count x.1
  pub few : length x.1 ≤ MOST_TRANSACTIONS

tail_by : (t : Bool) (p : List CheckedMethod) (count : ℕ) (last : Option ℕ) (l : Line) (ls : List Line) (x : List Named × List Tx) → first_is_actor (words l.bytes) ≡ t
    → ((n : Named) (y : List Named × List Tx) → tail p count (Some n.actor) ls (Ok y) → IsTail p count y) → tail p count last (l ∷ ls) (Ok x) → IsTail p count x
tail_by true p count last l ls x is rec h =
    let first = ok_parts (actor count last l) (λ n. tail p count (Some n.actor) ls >>= λ more. gives (n ∷ more.0, more.1)) x (rw is at h) in
    let rest = ok_parts (tail p count (Some first.0.actor) ls) (λ more. gives (first.0 ∷ more.0, more.1)) x first.2 in
    let behind = rec first.0 rest.0 rest.1 in
    subst (IsTail p count) (sym (ok_same x (first.0 ∷ rest.0.0, rest.0.1) rest.2)) (record { named = (record { few = first.1.1; fit = first.1.0.fit }, behind.named); run = behind.run; few = behind.few })
tail_by false p count last l ls x is rec h =
    let all = ok_parts (transactions p count 0 (l ∷ ls)) (λ txs. gives ([], txs)) x (rw is at h) in
    subst (IsTail p count) (sym (ok_same x ([], all.0) all.2)) (record { named = tt; run = all_run p count 0 (l ∷ ls) all.0 all.1; few = omega (arith, few_left p count 0 (l ∷ ls) all.0 (omega arith) all.1) })

tail_kept : (p : List CheckedMethod) (count : ℕ) (last : Option ℕ) (ls : List Line) (x : List Named × List Tx) → tail p count last ls (Ok x) → IsTail p count x
tail_kept p count last [] x h = subst (IsTail p count) (sym (ok_same x ([], []) h)) (record { named = tt; run = tt; few = omega arith })
tail_kept p count last (l ∷ ls) x h = tail_by (first_is_actor (words l.bytes)) p count last l ls x refl (λ n y k. tail_kept p count (Some n.actor) ls y k) h

-- ---- states

noughts_fit : (n : ℕ) → AllByRecursion (FitsSigned w64) (replicate n (pos 0))
noughts_fit zero = tt
noughts_fit (suc n) = (omega arith, noughts_fit n)

fits_append : (xs ys : List ℤ) → AllByRecursion (FitsSigned w64) xs → AllByRecursion (FitsSigned w64) ys → AllByRecursion (FitsSigned w64) (xs ++ ys)
fits_append [] ys h g = g
fits_append (x ∷ xs) ys h g = (h.0, fits_append xs ys h.1 g)

named_state : (values : List ℤ) → length values ≤ FIELDS → AllByRecursion (FitsSigned w64) values → IsState (state_with values)
named_state values few fits = record {
  len = omega (arith, few, length-append values (replicate (FIELDS - length values) (pos 0)), length-replicate (FIELDS - length values) (pos 0));
  fields = fits_append values _ fits (noughts_fit (FIELDS - length values));
}

either_state : (b : Bool) (x y : State) → IsState x → IsState y → IsState (if b then x else y)
either_state true x y h k = h
either_state false x y h k = k

one_state : (named : List Named) (a : ℕ) → AllByRecursion IsNamed named → IsState (state_in named a)
one_state [] a all = named_state [] (omega arith) tt
one_state (n ∷ named) a all = either_state (n.actor == a) (state_with n.values) (state_in named a) (named_state n.values all.0.few all.0.fit) (one_state named a all.1)

all_states : (named : List Named) (a count : ℕ) → AllByRecursion IsNamed named → AllByRecursion IsState (states_in named a count)
all_states named a zero all = tt
all_states named a (suc count) all = (one_state named a all, all_states named (a + 1) count all)

-- ---- the whole

abbrev IsIn : ℕ → ℕ → Type 0
IsIn n most = (1 ≤ n) × (n ≤ most)

-- what is left to read behind each part
abbrev Read : Type 0
Read = ℕ × List Line

abbrev set_up : Read → Read → Read → Read → Read → List CheckedMethod × List Line → Read → Setup
set_up c l b s a p n = record { coordinators = c.0; logs = l.0; batch = b.0; batches = s.0; acts = a.0; program = p.0; actors = n.0 }

abbrev from_tail : Read → Read → Read → Read → Read → List CheckedMethod × List Line → Read → ReadingOf Work
from_tail c l b s a p n = tail p.0 n.0 None (said n.1) >>= λ t. gives (work_with (set_up c l b s a p n) t.0 t.1)

abbrev from_actors : ℕ → Read → Read → Read → Read → Read → List CheckedMethod × List Line → ReadingOf Work
from_actors last c l b s a p = line last p.1 (setting.setting setting.actors) >>= λ n. from_tail c l b s a p n

abbrev from_program : ℕ → Read → Read → Read → Read → Read → ℕ × List Line → ReadingOf Work
from_program last c l b s a begin = program_lines last begin.0 (up_to_end begin.1) >>= λ p. from_actors last c l b s a p

abbrev from_begin : ℕ → Read → Read → Read → Read → Read → ReadingOf Work
from_begin last c l b s a = line last a.1 (exactly (codes "program")) >>= λ begin. from_program last c l b s a begin

abbrev from_acts : ℕ → Read → Read → Read → Read → ReadingOf Work
from_acts last c l b s = line last s.1 (setting.setting setting.acts) >>= λ a. from_begin last c l b s a

abbrev from_batches : ℕ → Read → Read → Read → ReadingOf Work
from_batches last c l b = line last b.1 (setting.setting setting.batches) >>= λ s. from_acts last c l b s

abbrev from_batch : ℕ → Read → Read → ReadingOf Work
from_batch last c l = line last l.1 (setting.setting setting.batch) >>= λ b. from_batches last c l b

abbrev from_logs : ℕ → Read → ReadingOf Work
from_logs last c = line last c.1 (setting.setting setting.logs) >>= λ l. from_batch last c l

abbrev from_coordinators : ℕ → ℕ × List Line → ReadingOf Work
from_coordinators last header = line last header.1 (setting.setting setting.coordinators) >>= λ c. from_logs last c

pub record IsSetUp (s : Setup) : Type 0 where
  pub coordinators : IsIn s.coordinators MOST_COORDINATORS
  pub logs : IsIn s.logs MOST_LOGS
  pub batch : IsIn s.batch MOST_IN_A_BATCH
  pub batches : IsIn s.batches MOST_BATCHES
  pub acts : IsIn s.acts MOST_ACTS
  pub program : IsClosedProgram s.program
  pub actors : IsIn s.actors MOST_ACTORS

with_kept : (s : Setup) (x : List Named × List Tx) → IsSetUp s → IsTail s.program s.actors x → KeepsLimits (work_with s x.0 x.1)
with_kept s x h end =
    let count = length-states_in x.0 0 s.actors in
    record {
      program = h.program;
      some_actors = omega (arith, h.actors.0, count);
      few_actors = omega (arith, h.actors.1, count);
      states = all_states x.0 0 s.actors end.named;
      transactions = subst (λ k. AllByRecursion (IsTransaction s.program k) x.1) (sym count) end.run;
      few_transactions = end.few;
      batch = h.batch;
      batches = h.batches;
      acts = h.acts;
      coordinators = h.coordinators;
      logs = h.logs;
    }

by_tail : (c l b s a : Read) (p : List CheckedMethod × List Line) (n : Read) (w : Work) → IsSetUp (set_up c l b s a p n) → from_tail c l b s a p n (Ok w) → KeepsLimits w
by_tail c l b s a p n w within h =
    let x = ok_parts (tail p.0 n.0 None (said n.1)) (λ (t : List Named × List Tx). gives (work_with (set_up c l b s a p n) t.0 t.1)) w h in
    let same : w ≡ work_with (set_up c l b s a p n) x.0.0 x.0.1 = ok_same w _ x.2 in
    subst KeepsLimits (sym same) (with_kept (set_up c l b s a p n) x.0 within (tail_kept p.0 n.0 None (said n.1) x.0 x.1))

kept_lines : AreClosed → (last : ℕ) (ls : List Line) (w : Work) → reads_lines last ls (Ok w) → KeepsLimits w
kept_lines closed last ls w h =
    let header = ok_parts (line last ls (exactly (codes "snapper 1"))) (from_coordinators last) w h in
    let c = ok_parts (line last header.0.1 (setting.setting setting.coordinators)) (from_logs last) w header.2 in
    let l = ok_parts (line last c.0.1 (setting.setting setting.logs)) (from_batch last c.0) w c.2 in
    let b = ok_parts (line last l.0.1 (setting.setting setting.batch)) (from_batches last c.0 l.0) w l.2 in
    let s = ok_parts (line last b.0.1 (setting.setting setting.batches)) (from_acts last c.0 l.0 b.0) w b.2 in
    let a = ok_parts (line last s.0.1 (setting.setting setting.acts)) (from_begin last c.0 l.0 b.0 s.0) w s.2 in
    let begin = ok_parts (line last a.0.1 (exactly (codes "program"))) (from_program last c.0 l.0 b.0 s.0 a.0) w a.2 in
    let p = ok_parts (program_lines last begin.0.0 (up_to_end begin.0.1)) (from_actors last c.0 l.0 b.0 s.0 a.0) w begin.2 in
    let n = ok_parts (line last p.0.1 (setting.setting setting.actors)) (from_tail c.0 l.0 b.0 s.0 a.0 p.0) w p.2 in
    by_tail c.0 l.0 b.0 s.0 a.0 p.0 n.0 w (record {
      coordinators = in_range setting.coordinators last header.0.1 c.0 c.1;
      logs = in_range setting.logs last c.0.1 l.0 l.1;
      batch = in_range setting.batch last l.0.1 b.0 b.1;
      batches = in_range setting.batches last b.0.1 s.0 s.1;
      acts = in_range setting.acts last s.0.1 a.0 a.1;
      program = closed_lines closed last begin.0.0 (up_to_end begin.0.1) p.0 p.1;
      actors = in_range setting.actors last p.0.1 n.0 n.1;
    }) n.2

pub kept_work : AreClosed → (text : List ℕ) (w : Work) → IsWork text w → KeepsLimits w
kept_work closed text w (inl h) = cc
kept_work closed text w (inr (inl h)) = absurd h.1
kept_work closed text w (inr (inr h)) = kept_lines closed (1 + length (lines text)) (numbered 1 (lines text)) w h.2
