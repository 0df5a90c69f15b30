-- What a row of parts says of a hand with these parts.
use Rattle.std.proofs.Common.{◌≡◌, ℕ, ◌≤◌, true, refl, Result, Ok, Err, OnOk, OnErr, IfErr}
use Rattle.aml_slice.specs.Controls.{Rest}
use Rattle.core_rows.specs.Taken.{IsNo, IsOfRun, IsRule}
use Rattle.core_rows.specs.declared.step_no.StepNo.{StepNo}
use Rattle.core_rows.specs.declared.step_no.StepNo.TheVariants.{NotNow, Memory}
use Rattle.protocol.specs.Events.{Event}
use Rattle.protocol.specs.Fixed.{Fixed}
use Rattle.protocol.specs.Parts.{Machine}
use Rattle.snap_hand.specs.Hands.{Parts, Fits, IsHandOf, are_there}
use Rattle.snap_hand.specs.Steps.{OnSomeRun, IsTakenOn, IsRefusalOn, may_want, IsNoOn, IsStep}

-- the parts show the state that the hand fits
pub of_run : (w : Fixed Rest) (h : Parts) (Old : Fixed Rest → Machine Rest → Type 0) → ((s : Machine Rest) → Fits h s → Old w s) → OnSomeRun w h → IsOfRun {C = Rest} Old
of_run w h Old shows r = record { text = w; state = r.state; run = r.run; shows = shows r.state r.fits }

-- what a taken row says, said in other words
pub on_ok_to : {A B : Type 0} (r : Result (Unit {0}) StepNo) → OnOk r A → (A → B) → OnOk r B
on_ok_to (Ok x) a f = f a
on_ok_to (Err e) a f = a

no_on : (w : Fixed Rest) (e : Event) (h : Parts) (Old : Fixed Rest → Machine Rest → Type 0) → ((s : Machine Rest) → Fits h s → Old w s) → may_want e ≡ true → (n : StepNo) → IsNo e Old n → IsNoOn w e h n
no_on w e h Old shows may (NotNow rule) p = (p.0, λ s r f. p.1 w s r (shows s f))
no_on w e h Old shows may Memory p = may

no_rule_on : (w : Fixed Rest) (e : Event) (h : Parts) (Old : Fixed Rest → Machine Rest → Type 0) → ((s : Machine Rest) → Fits h s → Old w s) → (n : StepNo) → IsRule n → IsNo e Old n → IsNoOn w e h n
no_rule_on w e h Old shows (NotNow rule) is p = (p.0, λ s r f. p.1 w s r (shows s f))
no_rule_on w e h Old shows Memory is p = absurd is

-- A row was asked of parts that show what the hand fits. It may want memory.
pub stepped : (w : Fixed Rest) (e : Event) (old new : Parts) (Old : Fixed Rest → Machine Rest → Type 0) (Taken Same : Type 0) (r : Result (Unit {0}) StepNo)
    → ((s : Machine Rest) → Fits old s → Old w s) → may_want e ≡ true
    → OnOk r Taken → (Taken → IsTakenOn w e old new × IsHandOf w new × (are_there new ≡ are_there old)) → IfErr r (IsNo e Old) → OnErr r Same → (Same → new ≡ old) → IsStep w e old new r
stepped w e old new Old Taken Same (Ok _) shows may ok f n same g = f ok
stepped w e old new Old Taken Same (Err m) shows may ok f n same g = (no_on w e old Old shows may m n, g same)

-- one that never does
pub stepped_freely : (w : Fixed Rest) (e : Event) (old new : Parts) (Old : Fixed Rest → Machine Rest → Type 0) (Taken Same : Type 0) (r : Result (Unit {0}) StepNo)
    → ((s : Machine Rest) → Fits old s → Old w s) → IfErr r IsRule
    → OnOk r Taken → (Taken → IsTakenOn w e old new × IsHandOf w new × (are_there new ≡ are_there old)) → IfErr r (IsNo e Old) → OnErr r Same → (Same → new ≡ old) → IsStep w e old new r
stepped_freely w e old new Old Taken Same (Ok _) shows rule ok f n same g = f ok
stepped_freely w e old new Old Taken Same (Err m) shows rule ok f n same g = (no_rule_on w e old Old shows m rule n, g same)

pub refused : (w : Fixed Rest) (e : Event) (h : Parts) (rule : ℕ) → 1 ≤ rule → IsRefusalOn w e h rule → IsStep w e h h (Err (NotNow rule))
refused w e h rule some is = ((some, is), refl)

pub all_three : (A B C : Type 0) {T E : Type 0} (r : Result T E) → OnErr r A → OnErr r B → OnErr r C → OnErr r (A × B × C)
all_three A B C (Ok x) a b c = tt
all_three A B C (Err e) a b c = (a, b, c)
