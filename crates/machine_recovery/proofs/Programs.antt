-- Runs of programs are runs of code that has the facts.
use Rattle.std.specs.Prelude.{ℕ, ◌≤◌, List, [], ◌∷◌, length, map, take, Contains}
use Rattle.std.specs.List.{AllByRecursion}
use Rattle.std.proofs.Common.{subst}
use Rattle.std.proofs.lemmas.List.{take_all}
use Rattle.snap_base.proofs.Lists.{all_map, each_at}
use Rattle.aml_tree.specs.Tree.{CheckedMethod}
use Rattle.protocol.specs.Runs.{reached}
use Rattle.protocol_records.specs.SeveralRuns.{logs_left}
use Rattle.txn_records.specs.declared.records.Record.{Record}
use Rattle.snap_recover.specs.declared.openings.Opening.{Opening}
use Rattle.recovery_laws.specs.Grown.{grown, opening_after}
use Rattle.recovery_laws.specs.Joined.{GoOnLogs}
use Rattle.machine_laws.specs.Programs.{TextsHaveFacts, with_code}
use Rattle.machine_recovery.specs.OnLogs.{as_cut_run, CutRunOf, GoOnLogsOf}

-- ---- programs, one after the other

pub all_of_them : {X Y : Type 0} (f : X → Y) (P : Y → Type 0) (xs : List X) (i : ℕ) → length xs ≤ i → AllByRecursion (λ x. P (f x)) (take i xs) → AllByRecursion P (map f xs)
all_of_them f P xs i l h = all_map f P xs (subst (AllByRecursion (λ x. P (f x))) (take_all i xs l) h)

pub among : {X : Type 0} (P : X → Type 0) (xs : List X) (x : X) → AllByRecursion P xs → Contains xs x → P x
among P xs x all c = subst P c.2 (each_at P xs c.0 x c.1 all)

-- ---- their runs

pub go_on : (ps : List (List CheckedMethod)) (earlier : List (List Record)) (o : Opening) (xs : List CutRunOf) → AllByRecursion TextsHaveFacts ps → GoOnLogsOf ps earlier o xs → GoOnLogs earlier o (map as_cut_run xs)
go_on ps earlier o [] all g = tt
go_on ps earlier o (x ∷ xs) all g =
    let may = g.0.0 in
    let w = with_code x.program x.text in (
      (record { facts = among TextsHaveFacts ps x.program all may.program x.text may.text; text = may.text.accepted; run = may.run; left = may.left }, g.0.1, g.0.2),
      go_on ps (grown earlier (logs_left (as_cut_run x))) (opening_after w o (reached w x.moment.events) (logs_left (as_cut_run x))) xs all g.1,
    )
