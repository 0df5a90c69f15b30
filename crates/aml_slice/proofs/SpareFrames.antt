-- Room for frames stays enough from call to call.
use Rattle.std.proofs.Common.{◌≡◌, ℕ, ◌+◌, ◌-◌, ◌<◌, ◌≤◌, inl, inr, Ok, Option, Some, None, List, refl, sym, subst, arith}
use Rattle.snap_base.specs.declared.ids.ActorId.{ActorId}
use Rattle.aml_check.specs.Meaning.{Progress, admitted}
use Rattle.aml_slice.specs.Views.{IsEnough, calls_of}
use Rattle.aml_slice.proofs.Admissions.{Admits, admits}

-- there was room for it, and without it there is enough
pub record IsSpared (waiting spare : ℕ) (left : Option (List (ActorId × ℕ))) : Type 0 where
  pub some : 1 ≤ spare
  pub enough : IsEnough (waiting + 1) (spare - 1) left
  pub still : IsEnough waiting spare left

spared_of : (waiting spare : ℕ) (us vs : List (ActorId × ℕ)) → waiting < 15 → IsEnough waiting spare (Some us) → calls_of us ≡ calls_of vs + 1 → IsSpared waiting spare (Some vs)
spared_of waiting spare us vs few (inl all) fewer = record { some = omega arith; enough = inl (omega arith); still = inl all }
spared_of waiting spare us vs few (inr calls) fewer = record { some = omega arith; enough = inr (omega arith); still = inr (omega arith) }

spared_by : (waiting spare a : ℕ) (r q : Progress) (before : Option (List (ActorId × ℕ))) → r.left ≡ before → waiting < 15 → IsEnough waiting spare before → Admits a r q → IsSpared waiting spare q.left
spared_by waiting spare a r q None was few enough took =
    let none : IsSpared waiting spare None = record { some = omega (arith, few, enough); enough = omega (arith, few, enough); still = enough } in
    subst (IsSpared waiting spare) (sym (took.undeclared was)) none
spared_by waiting spare a r q (Some us) was few enough took =
    let after = took.still us was in
    subst (IsSpared waiting spare) (sym after.1) (spared_of waiting spare us after.0 few enough (took.spent us after.0 was after.1))

pub spared : (waiting spare a : ℕ) (r q : Progress) → waiting < 15 → IsEnough waiting spare r.left → admitted a r ≡ Ok q → IsSpared waiting spare q.left
spared waiting spare a r q few enough took = spared_by waiting spare a r q r.left refl few enough (admits a r q took)
