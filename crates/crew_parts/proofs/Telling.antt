-- What a log's device tells: the groups that the log got, and some or all of the append of one more.
use Rattle.std.proofs.Common.{◌≡◌, ℕ, if◌then◌else◌, Bool, true, false, Option, None, Some, List, [], ◌∷◌, ◌++◌, refl, sym, ap, subst, ◌∙◌, append_assoc, append-nil, true≢false}
use Rattle.std.proofs.lemmas.List.{append_cancel_left}
use Rattle.snap_base.proofs.Options.{same_some}
use Rattle.crew_parts.specs.Devices.{GrowsThrough}
use Rattle.gate_log.specs.Appends.{append_ops}
use Rattle.gate_log.specs.Opened.{beginning_ops}
use Rattle.run_effects.proofs.record_log.Growing.{ops_more}
use Rattle.run_effects.specs.record_log.Growth.{GrewBy, IsNextBegun, begun_groups, end_behind_groups, groups_ops}
use Rattle.run_effects.specs.record_log.Records.{spelled}
use Rattle.snap_outside.specs.Disk.{DeviceHistory, AddsAll, content, with_ops}
use Rattle.snap_outside.specs.declared.devices.DevOp.{DevOp}
use Rattle.snap_hand.specs.txn_records.declared.records.Record.{Record}

-- ---- histories

front_is_none : {X : Type 0} (xs ys : List X) → xs ++ ys ≡ [] → xs ≡ []
front_is_none [] ys e = refl
front_is_none (x ∷ xs) ys e = absurd (cc e)

-- what lies between two histories, of which one has more operations
between : (h : DeviceHistory) (xs ys : List DevOp) (told : Option DeviceHistory) → GrowsThrough (Some (with_ops h xs)) told (Some (with_ops h ys))
    → (made : List DevOp) × (left : List DevOp) × (told ≡ Some (with_ops h (xs ++ made))) × (ys ≡ (xs ++ made) ++ left)
between h xs ys told through =
    let made = through.made in
    let left = through.left in
    let is : told ≡ Some (with_ops h (xs ++ made)) = through.so_far ∙ ap (λ (ops : List DevOp). Some (record { first = h.first; ops = ops })) (append_assoc h.ops xs made) in
    let behind : Some (with_ops h ys) ≡ Some (with_ops (with_ops h (xs ++ made)) left) = subst (λ t. AddsAll t (Some (with_ops h ys)) left) is through.behind in
    let same : h.ops ++ ys ≡ h.ops ++ ((xs ++ made) ++ left) = ap (λ (g : DeviceHistory). g.ops) (same_some (with_ops h ys) (with_ops (with_ops h (xs ++ made)) left) behind) ∙ append_assoc h.ops (xs ++ made) left in
    (made, left, is, append_cancel_left h.ops ys ((xs ++ made) ++ left) same)

pub none_begun : (end : ℕ) (later : List (List Record)) → IsNextBegun end later []
none_begun end [] = refl
none_begun end (group ∷ groups) = (append_ops end (spelled group), refl)

pub begun_groups_on : (xs ys : List (List Record)) (tried : Option (List Record)) → begun_groups (xs ++ ys) tried ≡ xs ++ begun_groups ys tried
begun_groups_on xs ys None = refl
begun_groups_on xs ys (Some group) = append_assoc xs ys (group ∷ [])

pub begun_groups_first : (x : List Record) (xs : List (List Record)) (tried : Option (List Record)) → begun_groups (x ∷ xs) tried ≡ x ∷ begun_groups xs tried
begun_groups_first x xs None = refl
begun_groups_first x xs (Some group) = refl

-- ---- one device

module _ (h : DeviceHistory) (gate : ℕ) (first : List (List Record)) where
  -- its operations, once the log has got these groups, and these are made of one more append
  abbrev pub made_of : List (List Record) → List DevOp → List DevOp
  made_of groups begun = beginning_ops (content h) ++ (groups_ops gate (first ++ groups) ++ begun)

  -- those of the append of one more group
  abbrev pub next_ops : List (List Record) → List Record → List DevOp
  next_ops groups group = append_ops (end_behind_groups gate (first ++ groups)) (spelled group)

  -- It tells the groups, and some or all of the append of one more, where that may have begun.
  pub record Tells (groups : List (List Record)) (group : List Record) (may : Bool) (told : Option DeviceHistory) : Type 0 where
    pub begun : List DevOp
    pub left : List DevOp
    pub is : told ≡ Some (with_ops h (made_of groups begun))
    pub front : next_ops groups group ≡ begun ++ left
    pub waits : may ≡ false → begun ≡ []

  made_on : (groups : List (List Record)) (xs ys : List DevOp) → made_of groups xs ++ ys ≡ made_of groups (xs ++ ys)
  made_on groups xs ys =
      append_assoc (beginning_ops (content h)) (groups_ops gate (first ++ groups) ++ xs) ys
      ∙ ap (λ ops. beginning_ops (content h) ++ ops) (append_assoc (groups_ops gate (first ++ groups)) xs ys)

  same_begun : (groups : List (List Record)) (xs ys : List DevOp) → made_of groups xs ≡ made_of groups ys → xs ≡ ys
  same_begun groups xs ys e =
      let all = groups_ops gate (first ++ groups) in
      append_cancel_left all xs ys (append_cancel_left (beginning_ops (content h)) (all ++ xs) (all ++ ys) e)

  pub growth_tells : (told : Option DeviceHistory) (groups : List (List Record)) (group : List Record) (b : Bool) → GrewBy (Some h) told gate (first ++ groups) (if b then Some group else None) → Tells groups group b told
  growth_tells told groups group true grew = record {
    begun = grew.1.begun;
    left = grew.1.last.1.left;
    is = grew.2 ∙ ap (λ ops. Some (with_ops h ops)) grew.1.parts;
    front = grew.1.last.1.whole;
    waits = λ e. absurd (true≢false e);
  }
  growth_tells told groups group false grew = record {
    begun = [];
    left = next_ops groups group;
    is = grew.2 ∙ (ap (λ ops. Some (with_ops h ops)) grew.1.parts ∙ ap (λ begun. Some (with_ops h (made_of groups begun))) grew.1.last);
    front = refl;
    waits = λ e. refl;
  }

  -- one group more is whole
  pub one_whole : (groups : List (List Record)) (group : List Record) → made_of (groups ++ group ∷ []) [] ≡ made_of groups (next_ops groups group)
  one_whole groups group =
      ap (λ ops. beginning_ops (content h) ++ ops)
      (append-nil (groups_ops gate (first ++ (groups ++ group ∷ [])))
      ∙ (ap (groups_ops gate) (sym (append_assoc first groups (group ∷ []))) ∙ ops_more gate (first ++ groups) group))

  -- What lies between such two tells so too.
  pub tells_between : (groups : List (List Record)) (group : List Record) (a b : Bool) (old told new : Option DeviceHistory) → Tells groups group a old → Tells groups group b new → GrowsThrough old told new → Tells groups group b told
  tells_between groups group a b old told new p q through =
      let at = between h (made_of groups p.begun) (made_of groups q.begun) told
      (subst (λ t. GrowsThrough t told (Some (with_ops h (made_of groups q.begun)))) p.is (subst (λ t. GrowsThrough old told t) q.is through)) in
      let begun = p.begun ++ at.0 in
      let whole : q.begun ≡ begun ++ at.1 = same_begun groups q.begun (begun ++ at.1) (at.3 ∙ (ap (λ ops. ops ++ at.1) (made_on groups p.begun at.0) ∙ made_on groups begun at.1)) in
      record {
        begun = begun;
        left = at.1 ++ q.left;
        is = at.2 ∙ ap (λ ops. Some (with_ops h ops)) (made_on groups p.begun at.0);
        front = q.front ∙ (ap (λ ops. ops ++ q.left) whole ∙ append_assoc begun at.1 q.left);
        waits = λ e. front_is_none begun at.1 (sym whole ∙ q.waits e);
      }
