-- Over several runs, one behind the other, all members are one serial run.
use Rattle.std.specs.Prelude.{◌≡◌, refl, ℕ, suc, ◌+◌, ◌<◌, Option, Some, List, [], ◌∷◌, ◌++◌, length, map}
use Rattle.std.specs.List.{flat_map}
use Rattle.std.proofs.Common.{arith, sym, ap, subst, ◌∙◌}
use Rattle.std.proofs.lemmas.Grind.{flat_map-append}
use Rattle.std.proofs.lemmas.List.{map-append}
use Rattle.aml_slice.specs.aml_check.Meaning as meaning
use Rattle.aml_slice.specs.aml_tree.Tree.{CheckedMethod}
use Rattle.machine_laws.specs.Meant.{meant_run}
use Rattle.machine_recovery.specs.compact_laws.log_compact.declared.folds.Folded.{Folded}
use Rattle.machine_recovery.specs.recovery_laws.Grown.{PlacedResult, answers_of}
use Rattle.machine_laws.specs.protocol_records.SeveralRuns.{recovered_from}
use Rattle.protocol.specs.Chains.{by_place}
use Rattle.protocol.specs.Facts.{state_in}
use Rattle.protocol.specs.Fixed.{tx_at}
use Rattle.protocol.specs.History.{Done}
use Rattle.protocol.specs.Moments.{left_in}
use Rattle.protocol.specs.Records.{LogRecord}
use Rattle.record_log.specs.txn_records.declared.records.Record.{Record}
use Rattle.snap_base.specs.Outcomes.{Serial}
use Rattle.snap_base.specs.declared.transactions.State.{State}
use Rattle.snap_base.specs.declared.transactions.Tx.{Tx}
use Rattle.snap_base.specs.declared.transactions.TxResult.{TxResult}
use Rattle.snap_recover.specs.declared.openings.Kept.{Kept}
use Rattle.run_recovery.specs.Next.{fold_left}
use Rattle.run_recovery.specs.OneRun.{reached_at, the_run}
use Rattle.run_recovery.specs.Runs.{machine_of, text_of}
use Rattle.run_recovery.specs.Several.{AddsMembers, Asked, BeganOn, Crash, CutOff, Early, GoOn, IsOneSerialRun, Left, LeftBy, OfNext, Within, added_by, all_asked, members_by, members_in, serial_over}
use Rattle.run_recovery.proofs.Leading.{same_opening}

-- ---- lists

-- as many states, each the same
same_list : (xs ys : List State) → length xs ≡ length ys → ((a : ℕ) → a < length xs → state_in xs a ≡ state_in ys a) → xs ≡ ys
same_list [] [] e same = refl
same_list [] (y ∷ ys) e same = absurd (omega (arith, e))
same_list (x ∷ xs) [] e same = absurd (omega (arith, e))
same_list (x ∷ xs) (y ∷ ys) e same =
    ap (λ (z : State). z ∷ xs) (same 0 (omega arith)) ∙ ap (λ (zs : List State). y ∷ zs) (same_list xs ys (omega (arith, e)) (λ a lt. same (suc a) (omega (arith, lt))))

recovered_long : (many : ℕ) (logs : ℕ → List LogRecord) (n : ℕ) (ss : List State) → length (recovered_from many logs n ss) ≡ length ss
recovered_long many logs n [] = refl
recovered_long many logs n (s ∷ ss) = ap suc (recovered_long many logs (n + 1) ss)

-- ---- one run

-- those that it left, one after the other, from the states with which it began
abbrev run_of : (x : CutOff) (crash : Crash (the_run x.run) x.images) (now : ℕ → List Record) (f : Folded) → LeftBy x crash now f → Serial
run_of x crash now f left = meant_run x.work.program (machine_of x.work x.opening) (members_by x crash now f left)

gives_values : (x : CutOff) (crash : Crash (the_run x.run) x.images) (now : ℕ → List Record) (f : Folded) (left : LeftBy x crash now f) (more : List Kept) → AddsMembers x crash now f left more
    → map (λ (y : PlacedResult). y.2) (flat_map answers_of more) ≡ map Some (run_of x crash now f left).results
gives_values x (Early crash) now f left more e = ap (λ (ks : List Kept). map (λ (y : PlacedResult). y.2) (flat_map answers_of ks)) e
gives_values x (Within m crash) now f left more e = e.1

leaves_states : (x : CutOff) (crash : Crash (the_run x.run) x.images) (now : ℕ → List Record) (f : Folded) (left : LeftBy x crash now f) → f.opening.states ≡ (run_of x crash now f left).world
leaves_states x (Early crash) now f left = ap (λ (g : Folded). g.opening.states) left.2 ∙ ap (λ o. o.states) x.run.devices.opens
leaves_states x (Within m crash) now f left =
    let long = recovered_long x.work.logs (left_in (reached_at (the_run x.run) m) left.0.kept) 0 x.opening.states in
    ap (λ (g : Folded). g.opening.states) left.3
    ∙ same_list (fold_left left.0).opening.states (run_of x (Within m crash) now f left).world (long ∙ sym left.0.meant.as_many) (λ a lt. left.0.meant.states a (subst (λ (n : ℕ). a < n) long lt))

-- ---- run behind run

-- those of one program, and then others
joined : (p : List CheckedMethod) (tx : Done → Tx) (world : List State) (ds : List Done) (more : List Asked)
    → serial_over world (map (λ (d : Done). record { program = p; tx = tx d }) ds ++ more)
    ≡ record { results = (meaning.serial p world (map tx ds)).results ++ (serial_over (meaning.serial p world (map tx ds)).world more).results; world = (serial_over (meaning.serial p world (map tx ds)).world more).world }
joined p tx world [] more = refl
joined p tx world (d ∷ ds) more =
    let first = meaning.alone p world (tx d) in
    ap (λ (rest : Serial). record { results = first.result ∷ rest.results; world = rest.world }) (joined p tx first.world ds more)

next_fold : (x : CutOff) (left : Left x x.crash) (xs : List CutOff) → OfNext (BeganOn left) xs → OfNext (λ (y : CutOff). y.run.devices.fold ≡ left.fold) xs
next_fold x left [] began = tt
next_fold x left (y ∷ ys) began = began.fold

pub one_serial_run : (f : Folded) (xs : List CutOff) (on : GoOn xs) → OfNext (λ (x : CutOff). x.run.devices.fold ≡ f) xs → IsOneSerialRun f xs on
one_serial_run f [] on first = record { results = refl; states = refl }
one_serial_run f (x ∷ xs) on first =
    let later : IsOneSerialRun on.0.0.fold xs on.1 = one_serial_run on.0.0.fold xs on.1 (next_fold x on.0.0 xs on.0.1) in
    record {
      results =
          ap (λ (ys : List PlacedResult). map (λ (y : PlacedResult). y.2) ys) (flat_map-append answers_of more (added_by xs on.1))
          ∙ (map-append (λ (y : PlacedResult). y.2) (flat_map answers_of more) (flat_map answers_of (added_by xs on.1))
          ∙ (ap (λ (rs : List (Option TxResult)). rs ++ map (λ (y : PlacedResult). y.2) (flat_map answers_of (added_by xs on.1))) (gives_values x x.crash left.crashed left.crashed_fold left.by more left.adds.members)
          ∙ (ap (λ (rs : List (Option TxResult)). map Some here.results ++ rs) later.results
          ∙ (ap (λ (ss : List State). map Some here.results ++ map Some (serial_over ss (all_asked xs on.1)).results) behind
          ∙ (sym (map-append Some here.results (serial_over here.world (all_asked xs on.1)).results)
          ∙ ap (λ (s : Serial). map Some s.results) (sym whole))))));
      states = later.states ∙ (ap (λ (ss : List State). (serial_over ss (all_asked xs on.1)).world) behind ∙ ap (λ (s : Serial). s.world) (sym whole));
    }
  where
    left : Left x x.crash
    left = on.0.0

    more : List Kept
    more = left.adds.more

    here : Serial
    here = run_of x x.crash left.crashed left.crashed_fold left.by

    behind : left.fold.opening.states ≡ here.world
    behind = (same_opening x.calls left.crashed_fold left.fold left.which).states ∙ leaves_states x x.crash left.crashed left.crashed_fold left.by

    own : x.opening.states ≡ f.opening.states
    own = sym (ap (λ o. o.states) x.run.devices.opens) ∙ ap (λ (g : Folded). g.opening.states) first

    whole : serial_over f.opening.states (all_asked (x ∷ xs) on) ≡ record { results = here.results ++ (serial_over here.world (all_asked xs on.1)).results; world = (serial_over here.world (all_asked xs on.1)).world }
    whole =
        ap (λ (ss : List State). serial_over ss (all_asked (x ∷ xs) on)) (sym own)
        ∙ joined x.work.program (λ (d : Done). tx_at (text_of x.work x.opening) d.tx) x.opening.states (by_place (members_in x left)) (all_asked xs on.1)
