-- The keys of a log that grows.
use Rattle.std.proofs.Common.{◌⊎◌, inl, inr, List, ◌++◌, sym, subst, map, Contains}
use Rattle.std.proofs.lemmas.List.{map-append}
use Rattle.txn_records.specs.declared.records.Record.{Record}
use Rattle.txn_records.specs.declared.keys.Key.{Key}
use Rattle.txn_records.specs.Records.{key}
use Rattle.snap_recover.specs.Logs.{HasKey}
use Rattle.snap_recover.proofs.Lists.{contains_left, contains_right, contains_append, contains_map, contains_unmap}

pub has_left : (rs more : List Record) (k : Key) → HasKey rs k → HasKey (rs ++ more) k
has_left rs more k h =
    let r = contains_unmap key rs k h in
    subst (λ (z : Key). HasKey (rs ++ more) z) r.2 (contains_map key (rs ++ more) r.0 (contains_left rs more r.0 r.1))

pub has_right : (rs more : List Record) (k : Key) → HasKey more k → HasKey (rs ++ more) k
has_right rs more k h =
    subst (λ (z : List Key). Contains z k) (sym (map-append key rs more)) (contains_right (map key rs) (map key more) k h)

pub has_cases : (rs more : List Record) (k : Key) → HasKey (rs ++ more) k → HasKey rs k ⊎ HasKey more k
has_cases rs more k h =
    let r = contains_unmap key (rs ++ more) k h in
    elim (contains_append rs more r.0 r.1) [
      | inl m ↦ inl (subst (λ (z : Key). HasKey rs z) r.2 (contains_map key rs r.0 m))
      | inr m ↦ inr (subst (λ (z : Key). HasKey more z) r.2 (contains_map key more r.0 m))
    ]
