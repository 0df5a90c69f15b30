-- What the steps of recovering leave.
use Rattle.std.proofs.Common.{◌≡◌, ℕ, ◌+◌, ◌≤◌, inl, List, length, map, refl, sym, subst, arith, Result, Ok, Err}
use Rattle.std.specs.Prelude.{IfOk, IfErr, MatchResult}
use Rattle.std.specs.List.{AllZip}
use Rattle.gate_log.specs.declared.logs.LogItem.{LogItem}
use Rattle.gate_log.specs.State.{LogState}
use Rattle.txn_records.specs.declared.records.Record.{Record}
use Rattle.record_log.specs.Records.{AreItemsOf}
use Rattle.record_log.specs.RecordLogLaws.{OpenedHeld, ItemsAreRecords}
use Rattle.log_compact.specs.declared.folds.Folded.{Folded}
use Rattle.log_compact.specs.Folds.{FoldsAreOfRecords}
use Rattle.log_compact.specs.Sets.{IsFolded}
use Rattle.log_opening.specs.declared.refusals.LogsNo.{LogsNo}
use Rattle.log_opening.specs.declared.refusals.LogsNo.TheVariants as ending
use Rattle.log_opening.specs.Devices.{Device, as_device, AreOpened}
use Rattle.log_opening.specs.Found.{AreAllFound, IsHalted, IsNoDecoding, IsNoFold}
use Rattle.log_opening.specs.Kept.{AreGiven, AreUsed, IsLogsNo}
use Rattle.log_opening.specs.Reads.{AreOpenOn, AreRead, IsEnded, IsOpenOn}
use Rattle.log_opening.proofs.AllFound.{all_opened, all_touched}
use Rattle.log_opening.proofs.Opening.{all_untouched}
use Rattle.log_opening.proofs.Reading.{IsPart, given_lists}
use Rattle.log_opening.proofs.Refusing.{decoding_no, fold_no, halted_no}

-- ---- opened and decoded

pub halted_ended : (before after : List Device) (a : LogsNo) → IsHalted 4 before after a → IsEnded before after a
halted_ended before after a halted = record { cause = halted_no before after a halted; touched = halted.touched }

module _ (law : OpenedHeld) (before after : List Device) (logs : List LogState) (found part : List (List LogItem)) (head count generation : ℕ) (used : AreUsed 1 before head count generation) (all : AreAllFound before logs found) (is : IsPart found part head count) (same : after ≡ map as_device logs) where
  pub lists_read : ItemsAreRecords → (lists : List (List Record)) → AllZip AreItemsOf part lists → AreRead before after head lists
  lists_read each lists zip = subst (λ (ds : List Device). AreRead before ds head lists) (sym same) (record {
    given = given_lists law before logs found part head count all is each generation lists used zip;
    opened = all_opened before logs found all;
    touched = all_touched before logs found all;
  })

  pub lists_ended : (a : LogsNo) → IsNoDecoding head part a → IsEnded before after a
  lists_ended a why = subst (λ (ds : List Device). IsEnded before ds a) (sym same) (record {
    cause = decoding_no law before logs found part head count generation a used all is why;
    touched = all_touched before logs found all;
  })

-- ---- all of them

pub ended_for_memory : (devices : List Device) → IsEnded devices devices ending.Memory
ended_for_memory devices = record { cause = inl (0, (λ log lt. absurd (omega (arith, lt))), record { opened = tt; others = refl }); touched = all_untouched devices }

-- the devices come back from the open logs
pub read_back : {X : Type 0} (r : Result X LogsNo) (head_of : X → ℕ) (lists_of : X → List (List Record)) (before after mid before_mid : List Device) → before_mid ≡ before → after ≡ mid
    → MatchResult r (λ x. AreRead before_mid mid (head_of x) (lists_of x)) (λ a. IsEnded before_mid mid a) → MatchResult r (λ x. AreRead before after (head_of x) (lists_of x)) (λ a. IsEnded before after a)
read_back r head_of lists_of before after mid before_mid first last read =
    subst (λ (l : List Device). MatchResult r (λ x. AreRead before l (head_of x) (lists_of x)) (λ a. IsEnded before l a)) (sym last)
    (subst (λ (l : List Device). MatchResult r (λ x. AreRead l mid (head_of x) (lists_of x)) (λ a. IsEnded l mid a)) first read)

-- ---- folded

module _ (before after : List Device) (head : ℕ) (lists : List (List Record)) (read : AreRead before after head lists) where
  pub fold_ended : (a : LogsNo) → IsNoFold head lists a → IsEnded before after a
  fold_ended a why = record { cause = fold_no before after head lists a read.given read.opened why; touched = read.touched }

  pub fold_given : (r : Result Folded LogsNo) → MatchResult r (λ f. IsFolded lists f) (λ a. IsNoFold head lists a)
      → IfOk r (λ f. (at : ℕ) × (all : List (List Record)) × AreGiven before at all × IsFolded all f × AreOpened 4 before after)
  fold_given (Ok f) said = (head, lists, read.given, said, read.opened)
  fold_given (Err a) said = tt

  pub fold_refused : (r : Result Folded LogsNo) → MatchResult r (λ f. IsFolded lists f) (λ a. IsNoFold head lists a) → IfErr r (λ a. IsLogsNo before after a)
  fold_refused (Ok f) said = tt
  fold_refused (Err a) said = fold_no before after head lists a read.given read.opened said

  pub fold_few : FoldsAreOfRecords → (r : Result Folded LogsNo) → MatchResult r (λ f. IsFolded lists f) (λ a. IsNoFold head lists a) → IfOk r (λ f. length f.opening.states ≤ 256)
  fold_few law (Ok f) said = (law lists f read.given.each said).few
  fold_few law (Err a) said = tt

-- the logs stay open
pub fold_open : (before after : List Device) (logs : List LogState) (head : ℕ) (lists : List (List Record)) (f : Folded) → AreRead before after head lists → after ≡ map as_device logs → head + length lists ≤ 4
    → AreOpenOn before logs → IsFolded lists f → IsOpenOn before logs head lists f
fold_open before after logs head lists f read same within open_logs folded = record {
  read = subst (λ (ds : List Device). AreRead before ds head lists) same read;
  within = within;
  folded = folded;
  open_logs = open_logs;
}
