-- A run on what another one left on its logs is the next one.
use Rattle.std.specs.Prelude.{◌≡◌, refl, ℕ, zero, suc, ◌<◌, IfSome, List, [], ◌∷◌, filter, length, map, replicate}
use Rattle.std.proofs.Common.{inl, inr, sym, ap, subst, ◌∙◌}
use Rattle.aml_tree.specs.Tree.{CheckedMethod}
use Rattle.compact_laws.specs.Members.{FoldsToMembers}
use Rattle.compact_laws.specs.Steps.{fold_after}
use Rattle.log_compact.specs.Points.{plains}
use Rattle.log_compact.specs.Sets.{IsFolded, OneFold, plain_lists}
use Rattle.log_compact.specs.declared.folds.Folded.{Folded}
use Rattle.machine_recovery.specs.OnLogs.{AtEveryMomentOnLogsOf, as_cut_run}
use Rattle.protocol_records.specs.SeveralRuns.{logs_left}
use Rattle.record_log.specs.RecordLogLaws.{OneListOfRecords}
use Rattle.record_log.specs.Records.{HoldsRecords}
use Rattle.recovery_laws.proofs.WrittenLists.{grown_length}
use Rattle.recovery_laws.specs.Grown.{BeginsWith}
use Rattle.run_opening.specs.Begins.{AreEmpty}
use Rattle.run_opening.specs.Opens.{records_at, with_first}
use Rattle.run_opening.specs.Starts.{IsStart}
use Rattle.run_recovery.proofs.BegunTexts.{begins_with}
use Rattle.run_recovery.specs.Crashes.{earlier}
use Rattle.run_recovery.specs.OneRun.{machine_in, reached_at}
use Rattle.run_recovery.specs.Runs.{text_of}
use Rattle.snap_outside.specs.Disk.{content}
use Rattle.snap_recover.specs.Logs.{all_of, geneses, is_genesis}
use Rattle.snap_recover.specs.declared.openings.Opening.{Opening}
use Rattle.txn_records.specs.declared.records.Record.{Record}
use Rattle.txn_records.specs.declared.records.Record.TheVariants.{Genesis}
use Rattle.followed_bytes.specs.Series.{CutRunOn, IsNextOn, TellsLists, cut_of, lists_behind, run_of}
use Rattle.followed_bytes.proofs.Alone.{empties, nothing_added}
use Rattle.followed_bytes.proofs.Lists.{same_lists}
use Rattle.followed_bytes.proofs.Series.{earlier_long, is_run, is_text}

-- ---- what folds holds a record

all_nothing : (n : ℕ) → all_of (map plains (replicate n [])) ≡ []
all_nothing zero = refl
all_nothing (suc n) = all_nothing n

no_genesis : (n : ℕ) → geneses (plain_lists (replicate n [])) ≡ []
no_genesis zero = refl
no_genesis (suc n) = ap (λ (rs : List Record). filter is_genesis rs) (all_nothing n)

folds_not : (lists : List (List Record)) (f : Folded) → IsFolded lists f → ¬ AreEmpty lists
folds_not lists f folded empty =
    let one = folded.recovered.begun.1.one in
    let none : geneses (plain_lists lists) ≡ [] = ap (λ (ls : List (List Record)). geneses (plain_lists ls)) (empties lists empty) ∙ no_genesis (length lists) in
    let bad : [] ≡ Genesis (length (plain_lists lists)) folded.recovered.begun.0 ∷ [] = sym none ∙ one in
    absurd (cc bad)

-- ---- the next run

is_next : OneListOfRecords → OneFold → (x y : CutRunOn) → AtEveryMomentOnLogsOf x.work.program FoldsToMembers → y.work.logs ≡ x.work.logs → TellsLists y (lists_behind (earlier (run_of x)) x) → IsNextOn x y
is_next list one x y law logs tells = by y.run.devices.start
  where
    fold : Folded
    fold = fold_after (machine_in (run_of x)) x.run.devices.fold (reached_at (run_of x) x.moment) (logs_left (as_cut_run (cut_of x)))

    begins : BeginsWith (text_of x.work x.opening) x.run.devices.fold.opening
    begins = subst (BeginsWith (text_of x.work x.opening)) (sym x.run.devices.opens) (begins_with x.work x.opening)

    folded : IsFolded (lists_behind (earlier (run_of x)) x) fold
    folded = (law (text_of x.work x.opening) x.events x.moment x.kept (earlier (run_of x)) x.run.devices.fold (is_text x) (is_run x) x.left (earlier_long x) x.run.devices.folds begins).folded

    long : length (lists_behind (earlier (run_of x)) x) ≡ y.work.logs
    long = grown_length 0 (earlier (run_of x)) (logs_left (as_cut_run (cut_of x))) ∙ (earlier_long x ∙ sym logs)

    same_at : (l : ℕ) → l < y.work.logs → records_at y.run.devices.records l ≡ records_at (lists_behind (earlier (run_of x)) x) l
    same_at l lt =
        let t = tells l lt in
        let held : HoldsRecords (content t.0) (records_at y.run.devices.records l) = subst (λ told. IfSome told (λ h. HoldsRecords (content h) (records_at y.run.devices.records l))) t.1 (y.run.devices.each l lt).held in
        list (content t.0) (records_at y.run.devices.records l) (records_at (lists_behind (earlier (run_of x)) x) l) held t.2

    same : y.run.devices.records ≡ lists_behind (earlier (run_of x)) x
    same = same_lists y.run.devices.records (lists_behind (earlier (run_of x)) x) (y.run.devices.as_many ∙ sym long) (λ l lt. same_at l (subst (λ n. l < n) y.run.devices.as_many lt))

    by : IsStart y.run.devices.records y.work.states y.opening y.run.devices.added → IsNextOn x y
    by (inl new) = absurd (folds_not (lists_behind (earlier (run_of x)) x) fold folded (subst AreEmpty same new.0))
    by (inr on) =
        let f = on.0.folded in
        let is : f.0 ≡ fold = one (lists_behind (earlier (run_of x)) x) f.0 fold (subst (λ ls. IsFolded ls f.0) same f.1) folded in
        record {
          lists = ap (λ (rs : List Record). with_first y.run.devices.records rs) on.1 ∙ (nothing_added y.run.devices.records ∙ same);
          opening = ap (λ (p : Opening). (text_of y.work p).opening) (sym f.2 ∙ ap (λ (g : Folded). g.opening) is);
        }

pub all_next : OneListOfRecords → OneFold → (p : List CheckedMethod) → AtEveryMomentOnLogsOf p FoldsToMembers → (x y : CutRunOn) → x.work.program ≡ p → y.work.logs ≡ x.work.logs → TellsLists y (lists_behind (earlier (run_of x)) x) → IsNextOn x y
all_next list one p law x y e logs tells = is_next list one x y (subst (λ (q : List CheckedMethod). AtEveryMomentOnLogsOf q FoldsToMembers) (sym e) law) logs tells
