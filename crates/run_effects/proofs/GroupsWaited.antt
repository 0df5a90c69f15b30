-- Each group of a run waited at some moment of it.
use Rattle.std.proofs.Common.{ℕ, ◌==◌, Bool, true, false, if◌then◌else◌, List, [], ◌∷◌, ◌++◌, refl, sym, subst, append-nil}
use Rattle.std.specs.List.{AllByRecursion}
use Rattle.std.proofs.lemmas.List.{append_assoc}
use Rattle.protocol.specs.Effects.{after, log_at}
use Rattle.protocol.specs.Events.{Event, Sync}
use Rattle.protocol.specs.Fixed.{Fixed}
use Rattle.protocol.specs.Parts.{Machine}
use Rattle.protocol.specs.Runs.{opening, reached, IsRun}
use Rattle.record_log.specs.txn_records.declared.records.Record.{Record}
use Rattle.run_effects.proofs.Elements.{all_join}
use Rattle.run_effects.proofs.RunsLonger.{allowed_parts, state_longer}
use Rattle.run_effects.specs.Groups.{waiting, group_by, groups_from, groups_of, group_behind}
use Rattle.run_effects.specs.Sizes.{groups_and_waiting, AlwaysWaits}

by_waiting : (P : List Record → Type 0) (b : Bool) (group : List Record) → P group → AllByRecursion P (if b then group ∷ [] else [])
by_waiting P true group is = (is, tt)
by_waiting P false group is = tt

event_waited : {C : Type 0} (P : List Record → Type 0) (l : ℕ) (e : Event) (s : Machine C) → P (waiting (log_at s l)) → AllByRecursion P (group_by l e s)
event_waited P l (Sync k) s is = by_waiting P (k == l) (waiting (log_at s l)) is
event_waited P l _ s is = tt

behind_waited : {C : Type 0} (P : List Record → Type 0) (w : Fixed C) (l : ℕ) (ds es : List Event) → IsRun w (ds ++ es) → AlwaysWaits w l (ds ++ es) P → AllByRecursion P (groups_from w l es (reached w ds))
behind_waited P w l ds [] run are = tt
behind_waited P w l ds (e ∷ es) run are =
    let s = reached w ds in
    let here = event_waited P l e s (are ds (e ∷ es) refl (allowed_parts w ds (e ∷ es) (opening w) run).0) in
    let same = sym (append_assoc ds (e ∷ []) es) in
    let later = behind_waited P w l (ds ++ e ∷ []) es (subst (λ fs. IsRun w fs) same run) (subst (λ fs. AlwaysWaits w l fs P) same are) in
    all_join P (group_by l e s) (groups_from w l es (after w e s)) here (subst (λ t. AllByRecursion P (groups_from w l es t)) (state_longer w ds (e ∷ []) (opening w)) later)

pub groups_waited : {C : Type 0} (P : List Record → Type 0) (w : Fixed C) (l : ℕ) (es : List Event) → IsRun w es → AlwaysWaits w l es P → AllByRecursion P (groups_and_waiting w l es)
groups_waited P w l es run are =
    all_join P (groups_of w l es) (group_behind w l es ∷ []) (behind_waited P w l [] es run are) (are es [] (sym (append-nil es)) run, tt)
