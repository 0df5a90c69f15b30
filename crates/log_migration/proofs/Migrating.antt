-- Logs that are opened and recovered, and then upgraded.
use Rattle.std.proofs.Common.{◌≡◌, ◌≤◌, ℕ, inl, inr, List, [], ◌∷◌, length, map, take, drop, sym, subst, Result, Ok, Err}
use Rattle.std.specs.Prelude.{IfErr, IfOk, MatchResult}
use Rattle.std.specs.List.{AllZip}
use Rattle.gate_log.specs.State.{LogState}
use Rattle.record_log.specs.Records.{KeepsRecords}
use Rattle.snap_report.specs.Lines.{migrated_text}
use Rattle.txn_records.specs.declared.records.Record.{Record}
use Rattle.log_compact.specs.declared.folds.Folded.{Folded}
use Rattle.log_opening.specs.declared.refusals.LogsNo.{LogsNo}
use Rattle.log_opening.specs.declared.refusals.LogsNo.TheVariants as ending
use Rattle.log_opening.specs.Devices.{Device, AreBegun, as_device}
use Rattle.log_opening.specs.Found.{IsKeptSafe, IsTouched}
use Rattle.log_opening.specs.Kept.{AreFolded}
use Rattle.log_opening.specs.Reads.{AreOpenOn, IsEnded, IsOpenOn}
use Rattle.log_opening.specs.Upgrades.{AreOld}
use Rattle.log_migration.specs.Migrated.{AreMigrated, IsMigrateNo, IsNotTold}

pub not_recovered : (before after : List Device) (why : LogsNo) → IsEnded before after why → IsMigrateNo before after why
not_recovered before after (ending.Device log) is = inl is.cause
not_recovered before after ending.Memory is = inl is.cause
not_recovered before after (ending.Refused log offset cause) is = is.cause

pub touched_kept : (before after : List Device) → AllZip IsTouched before after → AllZip IsKeptSafe before after
touched_kept [] [] all = tt
touched_kept [] (a ∷ after) all = absurd all
touched_kept (b ∷ before) [] all = absurd all
touched_kept (b ∷ before) (a ∷ after) all = (all.0.safe, touched_kept before after all.1)

-- ---- told and upgraded

module _ (before : List Device) (old : List LogState) (head : ℕ) (lists : List (List Record)) (f : Folded) (is : IsOpenOn before old head lists f) where
  abbrev folded : AreFolded before
  folded = record { head = head; lists = lists; fold = f; given = is.read.given; folded = is.folded }

  not_migrated : (after : List Device) (why : LogsNo) → IsNotTold head (length lists) before after why → IsMigrateNo before after why
  not_migrated after (ending.Device log) not = inr (record { logs = folded; fails = not })
  not_migrated after ending.Memory not = inr (record { logs = folded; opened = not })
  not_migrated after (ending.Refused log offset cause) not = absurd not

  pub told_migrated : {S : Type 0} (bytes : S → List ℕ) (new : List LogState) (after : List Device) (count : ℕ) (r : Result S LogsNo) → length lists ≡ count → after ≡ map as_device new
      → IfOk r (λ line. (n : ℕ) × (bytes line ≡ migrated_text n) × ((start : List Device) → AreOpenOn start old → AreOld (take count (drop head start)) n × AreBegun head count start (map as_device new)))
      → IfErr r (λ why. (start : List Device) → AreOpenOn start old → IsNotTold head count start (map as_device new) why)
      → MatchResult r (λ line. (n : ℕ) × (bytes line ≡ migrated_text n) × AreMigrated before after n) (λ why. IsMigrateNo before after why)
  told_migrated bytes new after count (Ok line) many same told failed =
      let both = told.2 before is.open_logs in (
        told.0,
        told.1,
        subst (λ (ds : List Device). AreMigrated before ds told.0) (sym same) (record {
          logs = folded;
          begun = subst (λ (n : ℕ). AreBegun head n before (map as_device new)) (sym many) both.1;
          old = subst (λ (n : ℕ). AreOld (take n (drop head before)) told.0) (sym many) both.0;
        }),
      )
  told_migrated bytes new after count (Err why) many same told failed =
      subst (λ (ds : List Device). IsMigrateNo before ds why) (sym same)
      (not_migrated (map as_device new) why (subst (λ (n : ℕ). IsNotTold head n before (map as_device new) why) (sym many) (failed before is.open_logs)))

-- ---- the devices come back from the open logs

pub safe_back : (before after mid before_mid : List Device) → before_mid ≡ before → after ≡ mid → AllZip IsKeptSafe before_mid mid → AllZip IsKeptSafe before after
safe_back before after mid before_mid first last safe =
    subst (λ (l : List Device). AllZip IsKeptSafe before l) (sym last) (subst (λ (l : List Device). AllZip IsKeptSafe l mid) first safe)

pub safe_records : (before after : List Device) → AllZip IsKeptSafe before after → AllZip (λ (b a : Device). KeepsRecords b.told a.told) before after
safe_records [] [] all = tt
safe_records [] (a ∷ after) all = absurd all
safe_records (b ∷ bs) [] all = absurd all
safe_records (b ∷ bs) (a ∷ after) all = (all.0.records, safe_records bs after all.1)

pub safe_later : (before after : List Device) → AllZip IsKeptSafe before after → AllZip (λ (b a : Device). b.faults ≤ a.faults) before after
safe_later [] [] all = tt
safe_later [] (a ∷ after) all = absurd all
safe_later (b ∷ bs) [] all = absurd all
safe_later (b ∷ bs) (a ∷ after) all = (all.0.later, safe_later bs after all.1)
