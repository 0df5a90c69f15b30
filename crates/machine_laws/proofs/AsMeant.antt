-- The serial run of the machine's words is that of the language, over the text's transactions.
use Rattle.std.specs.Prelude.{◌≡◌, refl, ℕ, ◌<◌, Bool, true, false, if◌then◌else◌, Some, List, [], ◌∷◌, ◌++◌, length, map, filter}
use Rattle.std.specs.List.{AllByRecursion}
use Rattle.std.proofs.Common.{subst, ◌∙◌, ap, sym}
use Rattle.snap_base.specs.declared.transactions.State.{State}
use Rattle.snap_base.specs.declared.transactions.Tx.{Tx}
use Rattle.snap_base.proofs.Lists.{each_at}
use Rattle.aml_tree.specs.Tree.{CheckedMethod}
use Rattle.aml_check.specs.Meaning as meaning
use Rattle.aml_check.specs.Transactions.{IsTransaction}
use Rattle.aml_slice.specs.Controls.{Rest}
use Rattle.protocol.specs.Fixed.{Text, Fixed, no_tx, tx_at}
use Rattle.protocol.specs.Facts.{Alone, alone, Serial, serial, state_in}
use Rattle.protocol.specs.Parts.{Machine}
use Rattle.protocol.specs.Events.{Event}
use Rattle.protocol.specs.Runs.{EachAllowed}
use Rattle.protocol.specs.Effects.{after}
use Rattle.protocol.specs.Records.{LogRecord}
use Rattle.protocol.specs.History.{Done, History}
use Rattle.protocol.specs.Chains.{by_place, txs_of, serial_run}
use Rattle.protocol_laws.specs.Commits.{left_of}
use Rattle.protocol_laws.specs.Linked.{IsExplained}
use Rattle.protocol_theorems.specs.Order.{OrderHolds}
use Rattle.protocol_theorems.proofs.order.ByPlace.{all_sorted}
use Rattle.protocol_records.specs.AsTold.{told_committed, ToldStands}
use Rattle.protocol_records.specs.Crash.{CrashHolds, members}
use Rattle.machine_laws.specs.MethodCode.{finish, method_code}
use Rattle.machine_laws.proofs.AsMany.{serial_as_many}
use Rattle.machine_laws.specs.Programs.{IsTextOf, with_code, finish_of}
use Rattle.machine_laws.specs.Meant.{meant_run, MeansWhatItDid, CommittedAsMeant, RecoveredAsMeant}

-- these are transactions of the text
abbrev pub AreThere : Text → List Done → Type 0
AreThere w ds = AllByRecursion (λ d. d.tx < length w.txs) ds

pub all_filter : (P : Done → Type 0) (test : Done → Bool) (ds : List Done) → AllByRecursion P ds → AllByRecursion P (filter test ds)
all_filter P test [] h = tt
all_filter P test (d ∷ ds) h = by (test d) (all_filter P test ds h.1)
  where
    by : (b : Bool) → AllByRecursion P (filter test ds) → AllByRecursion P (if b then d ∷ filter test ds else filter test ds)
    by true rest = (h.0, rest)
    by false rest = rest

-- the events so far of a run are a run
pub first_allowed : {C : Type 0} (w : Fixed C) (es later : List Event) (s : Machine C) → EachAllowed w (es ++ later) s → EachAllowed w es s
first_allowed w [] later s run = tt
first_allowed w (e ∷ es) later s run = (run.0, first_allowed w es later (after w e s) run.1)

-- ---- the serial run

-- what is said of the machine's serial runs
abbrev pub SerialMeant : List CheckedMethod → Type 0
SerialMeant p = (count : ℕ) (w : List State) (txs : List Tx) → length w ≡ count → AllByRecursion (IsTransaction p count) txs → serial (method_code p count) (finish p count) w txs ≡ meaning.serial p w txs

pub asked : (p : List CheckedMethod) (w : Text) (ds : List Done) → IsTextOf p w → AreThere w ds → AllByRecursion (IsTransaction p (length w.opening.states)) (txs_of (with_code p w) ds)
asked p w [] is h = tt
asked p w (d ∷ ds) is h = (each_at (IsTransaction p (length w.opening.states)) w.txs d.tx no_tx h.0 is.asks, asked p w ds is h.1)

run_meant : (p : List CheckedMethod) (w : Text) (ds : List Done) → SerialMeant p → IsTextOf p w → AreThere w ds → serial_run (with_code p w) (finish_of p w) ds ≡ meant_run p (with_code p w) ds
run_meant p w ds meant is h = meant (length w.opening.states) w.opening.states (txs_of (with_code p w) (by_place ds)) refl (asked p w (by_place ds) is (all_sorted (λ d. d.tx < length w.txs) ds h))

-- ---- one alone

-- what is said of the machine's transactions alone
abbrev pub AloneMeant : List CheckedMethod → Type 0
AloneMeant p = (count : ℕ) (w : List State) (tx : Tx) → length w ≡ count → IsTransaction p count tx → alone (method_code p count) (finish p count) w tx ≡ meaning.alone p w tx

did_meant : (p : List CheckedMethod) (w : Text) (d : Done) → AloneMeant p → IsTextOf p w → d.tx < length w.txs → IsExplained (with_code p w) (finish_of p w) d → MeansWhatItDid p (with_code p w) d
did_meant p w d meant is there e = λ world as_many agrees.
    let x = e world as_many agrees in
    let same : alone (with_code p w).code (finish_of p w) world (tx_at w d.tx) ≡ meaning.alone p world (tx_at w d.tx) = meant (length w.opening.states) world (tx_at w d.tx) as_many (each_at (IsTransaction p (length w.opening.states)) w.txs d.tx no_tx there is.asks) in
    record {
      result = subst (λ (y : Alone). Some y.result ≡ d.result) same x.result;
      as_many = subst (λ (y : Alone). length y.world ≡ length world) same x.as_many;
      leaves = λ a below. subst (λ (y : Alone). state_in y.world a ≡ left_of a d (state_in world a)) same (x.leaves a below);
    }

all_did : (p : List CheckedMethod) (w : Text) (ds : List Done) → AloneMeant p → IsTextOf p w → AreThere w ds → AllByRecursion (IsExplained (with_code p w) (finish_of p w)) ds → AllByRecursion (MeansWhatItDid p (with_code p w)) ds
all_did p w [] meant is there e = tt
all_did p w (d ∷ ds) meant is there e = (did_meant p w d meant is there.0 e.0, all_did p w ds meant is there.1 e.1)

pub committed_meant : (p : List CheckedMethod) (w : Text) (s : Machine Rest) (h : History) → AloneMeant p → SerialMeant p → IsTextOf p w → AreThere w h.committed → OrderHolds (with_code p w) (finish_of p w) s h → ToldStands (with_code p w) (finish_of p w) s h → CommittedAsMeant p (with_code p w) (finish_of p w) s h
committed_meant p w s h one meant is there order ts =
    let same_told = run_meant p w (told_committed s h) meant is (all_filter (λ d. d.tx < length w.txs) _ h.committed there) in
    let same = run_meant p w h.committed meant is there in
    record {
      results = subst (λ (x : Serial). map Some x.results ≡ map (λ d. d.result) (by_place h.committed)) same order.stands.serial;
      told = subst (λ (x : Serial). map Some x.results ≡ map (λ d. d.result) (by_place (told_committed s h))) same_told ts.serial;
      explained = all_did p w h.committed one is there order.stands.explained;
      states = λ quiet. order.last_states quiet ∙ ap (λ (x : Serial). x.world) same;
    }

pub recovered_meant : (p : List CheckedMethod) (w : Text) (es : List Event) (s : Machine Rest) (h : History) (logs : ℕ → List LogRecord) → SerialMeant p → IsTextOf p w → AreThere w h.committed → CrashHolds (with_code p w) (finish_of p w) es s h logs → RecoveredAsMeant p (with_code p w) (finish_of p w) es s h logs
recovered_meant p w es s h logs meant is there crash =
    let same = run_meant p w (members w.logs logs h) meant is (all_filter (λ d. d.tx < length w.txs) _ h.committed there) in
    record {
      results = subst (λ (x : Serial). map Some x.results ≡ map (λ d. d.result) (by_place (members w.logs logs h))) same crash.stands.serial;
      states = λ a below. crash.states a below ∙ ap (λ (x : Serial). state_in x.world a) same;
      as_many = ap (λ (x : Serial). length x.world) (sym same) ∙ serial_as_many p (length w.opening.states) w.opening.states (txs_of (with_code p w) (by_place (members w.logs logs h)));
    }
