-- How the appends of groups grow a device's history.
use Rattle.std.proofs.Common.{◌≡◌, ℕ, List, [], ◌∷◌, ◌++◌, Option, None, Some, refl, sym, ap, subst, ◌∙◌, append_assoc, append-nil}
use Rattle.snap_outside.specs.declared.devices.DevOp.{DevOp}
use Rattle.snap_outside.specs.Disk.{DeviceHistory, content, AddsAll, AddsUpToFault}
use Rattle.snap_outside.specs.Moments.{adds_join}
use Rattle.gate_log.specs.declared.logs.LogItem.{LogItem}
use Rattle.gate_log.specs.Appends.{append_ops, end_behind, upgrading_ops}
use Rattle.gate_log.specs.LogLaws.{OpeningAdds}
use Rattle.gate_log.specs.Opened.{opening_ops, beginning_ops, Opened}
use Rattle.txn_records.specs.declared.records.Record.{Record}
use Rattle.record_log.specs.Growth.{groups_ops, end_behind_groups, MayAppendGroup, MayAppendGroups, IsTried, GrewBy, upgrading_of, begun_groups}
use Rattle.record_log.specs.Records.{spelled}

-- ---- one group more

pub ops_more : (end : ℕ) (groups : List (List Record)) (group : List Record)
    → groups_ops end (groups ++ group ∷ []) ≡ groups_ops end groups ++ append_ops (end_behind_groups end groups) (spelled group)
ops_more end [] group = append-nil (append_ops end (spelled group))
ops_more end (first ∷ groups) group =
    let behind = end_behind end (spelled first) in
    ap (λ (l : List DevOp). append_ops end (spelled first) ++ l) (ops_more behind groups group)
    ∙ sym (append_assoc (append_ops end (spelled first)) (groups_ops behind groups) (append_ops (end_behind_groups behind groups) (spelled group)))

pub end_more : (end : ℕ) (groups : List (List Record)) (group : List Record)
    → end_behind_groups end (groups ++ group ∷ []) ≡ end_behind (end_behind_groups end groups) (spelled group)
end_more end [] group = refl
end_more end (first ∷ groups) group = end_more (end_behind end (spelled first)) groups group

pub may_more : (end : ℕ) (groups : List (List Record)) (group : List Record)
    → MayAppendGroups end groups → MayAppendGroup (end_behind_groups end groups) group → MayAppendGroups end (groups ++ group ∷ [])
may_more end [] group may one = (one, tt)
may_more end (first ∷ groups) group may one = (may.0, may_more (end_behind end (spelled first)) groups group may.1 one)

-- ---- the history

pub opening_grows : (law : OpeningAdds) (old opened new : Option DeviceHistory) (end : ℕ) (found : List LogItem) → Opened old opened end found → AddsAll opened new (upgrading_of old)
    → GrewBy old new end [] None
opening_grows law None opened new end found is upgraded = subst (λ (t : Option DeviceHistory). AddsAll t new []) is upgraded
opening_grows law (Some h) opened new end found is upgraded = (
  beginning_ops (content h),
  record { may = tt; begun = []; last = refl; parts = sym (append-nil (beginning_ops (content h))) },
  adds_join (Some h) opened new (opening_ops (content h)) (upgrading_ops (content h)) (law h opened end found is) upgraded,
)

-- the operations that are made are no fewer
longer : (ops opening groups begun more : List DevOp) → ops ≡ opening ++ (groups ++ begun) → begun ≡ [] → ops ++ more ≡ opening ++ (groups ++ more)
longer ops opening groups begun more parts none =
    ap (λ (l : List DevOp). l ++ more) (parts ∙ ap (λ (b : List DevOp). opening ++ (groups ++ b)) none ∙ ap (λ (l : List DevOp). opening ++ l) (append-nil groups))
    ∙ append_assoc opening groups more

pub group_grows : (old between new : Option DeviceHistory) (end : ℕ) (groups : List (List Record)) (group : List Record)
    → GrewBy old between end groups None → MayAppendGroup (end_behind_groups end groups) group
    → AddsAll between new (append_ops (end_behind_groups end groups) (spelled group)) → GrewBy old new end (groups ++ group ∷ []) None
group_grows None between new end groups group grew may adds =
    subst (λ (t : Option DeviceHistory). AddsAll t new (append_ops (end_behind_groups end groups) (spelled group))) grew adds
group_grows (Some h) between new end groups group grew may adds =
    let more = append_ops (end_behind_groups end groups) (spelled group) in
    let opening = beginning_ops (content h) in (
      grew.0 ++ more,
      record {
        may = may_more end groups group grew.1.may may;
        begun = [];
        last = refl;
        parts = longer grew.0 opening (groups_ops end groups) grew.1.begun more grew.1.parts grew.1.last
            ∙ ap (λ (l : List DevOp). opening ++ l) (sym (append-nil (groups_ops end (groups ++ group ∷ [])) ∙ ops_more end groups group));
      },
      adds_join (Some h) between new grew.0 more grew.2 adds,
    )

pub fault_grows : (old between new : Option DeviceHistory) (end : ℕ) (groups : List (List Record)) (group : List Record)
    → GrewBy old between end groups None → MayAppendGroup (end_behind_groups end groups) group
    → AddsUpToFault between new (append_ops (end_behind_groups end groups) (spelled group)) → GrewBy old new end groups (Some group)
fault_grows None between new end groups group grew may adds = subst (λ (t : Option DeviceHistory). AddsAll t new adds.0) grew adds.2
fault_grows (Some h) between new end groups group grew may adds = (
  grew.0 ++ adds.0,
  record {
    may = grew.1.may;
    begun = adds.0;
    last = (may, adds.1);
    parts = longer grew.0 (beginning_ops (content h)) (groups_ops end groups) grew.1.begun adds.0 grew.1.parts grew.1.last;
  },
  adds_join (Some h) between new grew.0 adds.0 grew.2 adds.2,
)

-- ---- what was left out of the append that met a fault

pub left_out : (end : ℕ) (groups : List (List Record)) (tried : Option (List Record)) (begun : List DevOp) → MayAppendGroups end groups
    → IsTried (end_behind_groups end groups) tried begun
    → (extra : List DevOp) × (groups_ops end (begun_groups groups tried) ≡ (groups_ops end groups ++ begun) ++ extra) × MayAppendGroups end (begun_groups groups tried)
left_out end groups None begun may last =
    let all = groups_ops end groups in
    ([], sym (ap (λ (b : List DevOp). (all ++ b) ++ []) last ∙ append-nil (all ++ []) ∙ append-nil all), may)
left_out end groups (Some group) begun may last =
    let all = groups_ops end groups in (
      last.1.left,
      ops_more end groups group ∙ ap (λ (l : List DevOp). all ++ l) last.1.whole ∙ sym (append_assoc all begun last.1.left),
      may_more end groups group may last.0,
    )
