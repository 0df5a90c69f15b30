-- What a crash leaves of the logs is what the next run begins on.
use Rattle.std.specs.Prelude.{◌≡◌, refl, ℕ, ◌≤◌, List, [], ◌∷◌, ◌++◌, length, filter}
use Rattle.std.proofs.Common.{inl, inr, arith, sym, ap, ◌∙◌}
use Rattle.std.proofs.lemmas.List.{append-nil}
use Rattle.aml_slice.specs.aml_tree.Tree.{CheckedMethod}
use Rattle.protocol.specs.Moments.{left_in}
use Rattle.protocol.specs.Records.{LogRecord}
use Rattle.machine_recovery.specs.compact_laws.log_compact.declared.folds.Folded.{Folded}
use Rattle.machine_recovery.specs.compact_laws.log_compact.Sets.{IsFolded, OneFold}
use Rattle.machine_recovery.specs.recovery_laws.Grown.{grown}
use Rattle.machine_recovery.proofs.recovery_laws.WrittenLists.{grown_length, grown_genesis}
use Rattle.run_opening.specs.Begins.{AreEmpty, BeganWith, Begins}
use Rattle.run_opening.specs.Opens.{with_first}
use Rattle.run_opening.specs.Starts.{IsStart}
use Rattle.snap_base.specs.declared.transactions.State.{State}
use Rattle.snap_recover.specs.declared.openings.Opening.{Opening}
use Rattle.snap_recover.specs.Logs.{all_of, is_genesis}
use Rattle.snap_work.specs.Kept.{KeepsLimits}
use Rattle.record_log.specs.txn_records.declared.records.Record.{Record}
use Rattle.record_log.specs.txn_records.declared.records.Record.TheVariants.{Genesis}
use Rattle.run_recovery.specs.Crashes.{Recovers, earlier}
use Rattle.run_recovery.specs.Next.{GoesOnFrom, fold_left, records_left}
use Rattle.run_recovery.specs.OneRun.{TheRun, MomentOf, reached_at}
use Rattle.run_recovery.specs.Runs.{AreRunDevices}
use Rattle.run_recovery.proofs.LogsLeft.{first_long}

-- ---- lists of records that began

no_records : (logs : List (List Record)) → AreEmpty logs → all_of logs ≡ []
no_records [] empty = refl
no_records (rs ∷ logs) empty = ap (λ (l : List Record). l ++ all_of logs) empty.0 ∙ no_records logs empty.1

pub began_some : (logs : List (List Record)) (states : List State) → BeganWith logs states → ¬ AreEmpty logs
began_some logs states began empty = let none : Genesis (length logs) states ∷ [] ≡ [] = sym began ∙ ap (filter is_genesis) (no_records logs empty) in cc

began_grown : (logs : List (List Record)) (states : List State) (more : ℕ → List LogRecord) → BeganWith logs states → BeganWith (grown logs more) states
began_grown logs states more began = grown_genesis 0 logs more ∙ (began ∙ ap (λ (n : ℕ). Genesis n states ∷ []) (sym (grown_length 0 logs more)))

pub one_beginning : (logs : List (List Record)) (first states : List State) → BeganWith logs first → BeganWith logs states → first ≡ states
one_beginning logs first states a b = let e : Genesis (length logs) first ∷ [] ≡ Genesis (length logs) states ∷ [] = sym a ∙ b in cc

-- ---- the next run

-- what the law begins_again of run_opening says of logs on which is written what is to be
abbrev pub BeginsWritten : Type 0
BeginsWritten = (logs : List (List Record)) (states : List State) (o : Opening) (added : List Record) → 1 ≤ length logs → IsStart logs states o added → Begins (with_first logs added) states o

-- once it is written there is a record
written_some : (logs : List (List Record)) (states : List State) (o : Opening) (added : List Record) → 1 ≤ length logs → IsStart logs states o added → ¬ AreEmpty (with_first logs added)
written_some [] states o added some start empty = absurd (omega (arith, some))
written_some (rs ∷ rss) states o added some (inl new) empty =
    let none : Genesis (length (rs ∷ rss)) states ∷ [] ≡ [] = sym (ap (λ (l : List Record). l ++ added) new.0.0 ∙ new.2) ∙ empty.0 in absurd (cc)
written_some (rs ∷ rss) states o added some (inr on) empty = on.0.some (sym (ap (λ (l : List Record). rs ++ l) on.1 ∙ append-nil rs) ∙ empty.0, empty.1)

-- so these logs began with the text's states
written_began : BeginsWritten → (logs : List (List Record)) (states : List State) (o : Opening) (added : List Record) → 1 ≤ length logs → IsStart logs states o added → BeganWith (with_first logs added) states
written_began law logs states o added some start = by (law logs states o added some start)
  where
    by : Begins (with_first logs added) states o → BeganWith (with_first logs added) states
    by (inl new) = absurd (written_some logs states o added some start new.0)
    by (inr on) = on.same

-- two openings to which logs fold are the same
pub one_opening : OneFold → (logs : List (List Record)) (o q : Opening) → (f : Folded) × IsFolded logs f × (f.opening ≡ o) → (g : Folded) × IsFolded logs g × (g.opening ≡ q) → o ≡ q
one_opening one logs o q x y = sym x.2 ∙ (ap (λ (f : Folded). f.opening) (one logs x.0 y.0 x.1 y.1) ∙ y.2)

begins_alone : OneFold → (logs : List (List Record)) (first states : List State) (f : Folded) (q : Opening) → BeganWith logs first → IsFolded logs f → Begins logs states q → (q ≡ f.opening) × (states ≡ first)
begins_alone one logs first states f q began folded (inl new) = absurd (began_some logs first began new.0)
begins_alone one logs first states f q began folded (inr on) = (one_opening one logs q f.opening on.folded (f, folded, refl), one_beginning logs states first on.same began)

pub goes_on : BeginsWritten → OneFold → (p : List CheckedMethod) (r : TheRun) (m : MomentOf r) (images : ℕ → List ℕ) → KeepsLimits r.work → (left : Recovers p r m images) → GoesOnFrom left
goes_on law one p r m images limits left = record {
  as_many = grown_length 0 (earlier r) more ∙ (first_long devices.records devices.added ∙ devices.as_many);
  some = began_some (records_left left) states same;
  folded = left.members.folded;
  same = same;
  begins = λ unspent. inr (record { some = began_some (records_left left) states same; folded = (fold_left left, left.members.folded, refl); same = same; unspent = unspent });
  alone = λ others q begins. begins_alone one (records_left left) states others (fold_left left) q same left.members.folded begins;
}
  where
    devices : AreRunDevices r.work r.opening r.events r.failed r.before r.after
    devices = r.devices

    states : List State
    states = r.work.states

    more : ℕ → List LogRecord
    more = left_in (reached_at r m) left.kept

    some : 1 ≤ length devices.records
    some = rw devices.as_many limits.logs.0

    same : BeganWith (records_left left) states
    same = began_grown (earlier r) states more (written_began law devices.records states r.opening devices.added some devices.start)
