-- Lists without their checkpoint, and with some of the commits, differ in nothing that counts.
use Rattle.std.proofs.Common.{◌≡◌, ℕ, ◌%◌, ◌<◌, Bool, true, Option, Some, None, List, [], ◌∷◌, length, map, refl, sym, ap, subst, ◌∙◌}
use Rattle.std.specs.Prelude.{◌↔◌, slice_index_or}
use Rattle.std.specs.List.{AllByRecursion, filter}
use Rattle.std.specs.Ordering.{nat_cmp}
use Rattle.std.specs.BTreeSet as bag
use Rattle.std.proofs.Math.Nat.{mod-lt}
use Rattle.snap_base.specs.declared.ids.Bid.{Bid}
use Rattle.snap_base.specs.declared.ids.Tid.{Tid}
use Rattle.snap_base.proofs.Lists.{all_join, all_front, all_back, all_filter}
use Rattle.txn_records.specs.declared.records.Record.{Record}
use Rattle.txn_records.specs.declared.records.Record.TheVariants.{Genesis, BatchCommit, ActCommit, BatchDone, ActDone, Checkpoint}
use Rattle.txn_records.specs.declared.keys.Key.{Key}
use Rattle.txn_records.specs.declared.keys.Key.TheVariants as keys
use Rattle.txn_records.specs.Records.{key}
use Rattle.snap_recover.specs.Logs.{all_of, log_of, HasKey}
use Rattle.snap_recover.specs.Opening.{IsIn, IsActIn}
use Rattle.snap_recover.proofs.Growing.{has_left}
use Rattle.snap_recover.proofs.Lists.{all_contains, contains_unmap}
use Rattle.log_compact.specs.Points.{Point, is_plain, plains}
use Rattle.log_compact.specs.Sets.{point_in, without_point, plain_lists}
use Rattle.snap_follow.specs.declared.commits.Commits.{Commits}
use Rattle.snap_follow.specs.Followed.{HasCommit}
use Rattle.snap_follow.specs.Passes.{IsInSet, is_chosen, chosen_lists}
use Rattle.snap_follow.specs.Rounds.{StartsWith, GrowFrom}
use Rattle.snap_follow.proofs.Alike.{matters, AreAlike, each_is, filter_twice, mapped_log, same_length}
use Rattle.snap_follow.proofs.AlikeTold.{in_alike, act_in_alike}

-- ---- without the checkpoint

counts_is_plain : (B T : ℕ → Bool) (r : Record) → matters B T r ≡ true → is_plain r ≡ true
counts_is_plain B T (Checkpoint generation next_tid next_bid next_c batches acts states) e = absurd (cc e)
counts_is_plain B T r e = refl

plains_alike : (B T : ℕ → Bool) (rs : List Record) → filter (matters B T) (plains rs) ≡ filter (matters B T) rs
plains_alike B T rs = filter_twice (matters B T) is_plain (counts_is_plain B T) rs

point_alike : (B T : ℕ → Bool) (rs : List Record) (p : Option Point) → point_in rs ≡ p → filter (matters B T) (without_point rs p) ≡ filter (matters B T) rs
point_alike B T rs None e = plains_alike B T rs
point_alike B T [] (Some p) e = absurd (cc e)
point_alike B T (r ∷ []) (Some p) e = absurd (cc e)
point_alike B T (Genesis count first ∷ Checkpoint generation next_tid next_bid next_c batches acts states ∷ rs) (Some p) e = plains_alike B T rs
point_alike B T (r ∷ x ∷ rs) (Some p) e = absurd (cc e)

others_alike : (B T : ℕ → Bool) (lists : List (List Record)) → map (filter (matters B T)) (map plains lists) ≡ map (filter (matters B T)) lists
others_alike B T [] = refl
others_alike B T (rs ∷ lists) = ap (λ (z : List Record). z ∷ map (filter (matters B T)) (map plains lists)) (plains_alike B T rs) ∙ ap (λ (z : List (List Record)). filter (matters B T) rs ∷ z) (others_alike B T lists)

pub plain_alike : (B T : ℕ → Bool) (lists : List (List Record)) → AreAlike B T (plain_lists lists) lists
plain_alike B T [] = refl
plain_alike B T (rs ∷ lists) =
    ap (λ (z : List Record). z ∷ map (filter (matters B T)) (map plains lists)) (point_alike B T rs (point_in rs) refl)
    ∙ ap (λ (z : List (List Record)). filter (matters B T) rs ∷ z) (others_alike B T lists)

abbrev all : ℕ → Bool
all n = true

pub commit_of_plain : (lists : List (List Record)) (k : Key) → HasCommit (plain_lists lists) k ↔ HasCommit lists k
commit_of_plain lists keys.Genesis = ((λ h. absurd h), λ h. absurd h)
commit_of_plain lists (keys.Info bid) = ((λ h. absurd h), λ h. absurd h)
commit_of_plain lists (keys.Complete bid actor) = ((λ h. absurd h), λ h. absurd h)
commit_of_plain lists (keys.Commit bid) = (in_alike all all (plain_lists lists) lists (plain_alike all all lists) bid refl, in_alike all all lists (plain_lists lists) (sym (plain_alike all all lists)) bid refl)
commit_of_plain lists (keys.Prepare tid actor) = ((λ h. absurd h), λ h. absurd h)
commit_of_plain lists (keys.Act tid) = (act_in_alike all all (plain_lists lists) lists (plain_alike all all lists) tid refl, act_in_alike all all lists (plain_lists lists) (sym (plain_alike all all lists)) tid refl)
commit_of_plain lists keys.Checkpoint = ((λ h. absurd h), λ h. absurd h)

pub plain_length : (lists : List (List Record)) → length (plain_lists lists) ≡ length lists
plain_length lists = same_length all all (plain_lists lists) lists (plain_alike all all lists)

-- ---- with some of the commits

abbrev pub batches_of : Commits → ℕ → Bool
batches_of set n = bag.contains nat_cmp set.batches n

abbrev pub acts_of : Commits → ℕ → Bool
acts_of set n = bag.contains nat_cmp set.acts n

counts_is_chosen : (set : Commits) (r : Record) → matters (batches_of set) (acts_of set) r ≡ true → is_chosen set r ≡ true
counts_is_chosen set (Genesis count states) e = refl
counts_is_chosen set r e = e

pub chosen_alike : (set : Commits) (lists : List (List Record)) → AreAlike (batches_of set) (acts_of set) (chosen_lists set lists) lists
chosen_alike set [] = refl
chosen_alike set (rs ∷ lists) =
    ap (λ (z : List Record). z ∷ map (filter (matters (batches_of set) (acts_of set))) (chosen_lists set lists)) (filter_twice (matters (batches_of set) (acts_of set)) (is_chosen set) (counts_is_chosen set) rs)
    ∙ ap (λ (z : List (List Record)). filter (matters (batches_of set) (acts_of set)) rs ∷ z) (chosen_alike set lists)

-- what is committed there is of the set
chosen_batch : (set : Commits) (bid : Bid) (r : Record) → is_chosen set r ≡ true → key r ≡ keys.Commit bid → batches_of set bid.0 ≡ true
chosen_batch set bid (BatchCommit b) h e = let same : b ≡ bid = cc e in subst (λ (z : Bid). batches_of set z.0 ≡ true) same h
chosen_batch set bid (BatchDone b values) h e = let same : b ≡ bid = cc e in subst (λ (z : Bid). batches_of set z.0 ≡ true) same h
chosen_batch set bid r h e = absurd (cc e)

chosen_act : (set : Commits) (tid : Tid) (r : Record) → is_chosen set r ≡ true → key r ≡ keys.Act tid → acts_of set tid.0 ≡ true
chosen_act set tid (ActCommit t m c actors) h e = let same : t ≡ tid = cc e in subst (λ (z : Tid). acts_of set z.0 ≡ true) same h
chosen_act set tid (ActDone t m c value actors) h e = let same : t ≡ tid = cc e in subst (λ (z : Tid). acts_of set z.0 ≡ true) same h
chosen_act set tid r h e = absurd (cc e)

batch_named : (set : Commits) (lists : List (List Record)) (bid : Bid) → IsIn (chosen_lists set lists) bid → batches_of set bid.0 ≡ true
batch_named set lists bid i =
    let here : HasKey (filter (is_chosen set) (log_of lists bid.0)) (keys.Commit bid) = subst (λ (z : List Record). HasKey z (keys.Commit bid)) (mapped_log (filter (is_chosen set)) refl lists bid.0) i in
    let r = contains_unmap key (filter (is_chosen set) (log_of lists bid.0)) (keys.Commit bid) here in
    chosen_batch set bid r.0 (all_contains (λ x. is_chosen set x ≡ true) (filter (is_chosen set) (log_of lists bid.0)) r.0 (each_is (is_chosen set) (log_of lists bid.0)) r.1) r.2

act_named : (set : Commits) (lists : List (List Record)) (tid : Tid) → IsActIn (chosen_lists set lists) tid → acts_of set tid.0 ≡ true
act_named set lists tid i =
    let here : HasKey (filter (is_chosen set) (log_of lists tid.0)) (keys.Act tid) = subst (λ (z : List Record). HasKey z (keys.Act tid)) (mapped_log (filter (is_chosen set)) refl lists tid.0) i in
    let r = contains_unmap key (filter (is_chosen set) (log_of lists tid.0)) (keys.Act tid) here in
    chosen_act set tid r.0 (all_contains (λ x. is_chosen set x ≡ true) (filter (is_chosen set) (log_of lists tid.0)) r.0 (each_is (is_chosen set) (log_of lists tid.0)) r.1) r.2

pub committed_is_named : (set : Commits) (lists : List (List Record)) (k : Key) → HasCommit (chosen_lists set lists) k → IsInSet set k
committed_is_named set lists keys.Genesis h = h
committed_is_named set lists (keys.Info bid) h = h
committed_is_named set lists (keys.Complete bid actor) h = h
committed_is_named set lists (keys.Commit bid) h = batch_named set lists bid h
committed_is_named set lists (keys.Prepare tid actor) h = h
committed_is_named set lists (keys.Act tid) h = act_named set lists tid h
committed_is_named set lists keys.Checkpoint h = h

-- what holds of all records of lists holds of those that are left
pub chosen_all : (P : Record → Type 0) (set : Commits) (lists : List (List Record)) → AllByRecursion P (all_of lists) → AllByRecursion P (all_of (chosen_lists set lists))
chosen_all P set [] h = tt
chosen_all P set (rs ∷ lists) h =
    all_join P (filter (is_chosen set) rs) (all_of (chosen_lists set lists)) (all_filter P (is_chosen set) rs (all_front P rs (all_of lists) h)) (chosen_all P set lists (all_back P rs (all_of lists) h))

-- ---- lists that grow

pub grown_log : (before lists : List (List Record)) (n : ℕ) → length lists ≡ length before → 0 < length lists → GrowFrom before lists → StartsWith (log_of lists n) (log_of before n)
grown_log before lists n len some grow =
    subst (λ (m : ℕ). StartsWith (log_of lists n) (slice_index_or before (n % m) [])) len (grow (n % length lists) (mod-lt n some))

key_grown : (front rs : List Record) (k : Key) → StartsWith rs front → HasKey front k → HasKey rs k
key_grown front rs k (rest, e) h = subst (λ (z : List Record). HasKey z k) (sym e) (has_left front rest k h)

pub commit_grown : (before lists : List (List Record)) → length lists ≡ length before → 0 < length lists → GrowFrom before lists → (k : Key) → HasCommit before k → HasCommit lists k
commit_grown before lists len some grow keys.Genesis h = h
commit_grown before lists len some grow (keys.Info bid) h = h
commit_grown before lists len some grow (keys.Complete bid actor) h = h
commit_grown before lists len some grow (keys.Commit bid) h = key_grown (log_of before bid.0) (log_of lists bid.0) (keys.Commit bid) (grown_log before lists bid.0 len some grow) h
commit_grown before lists len some grow (keys.Prepare tid actor) h = h
commit_grown before lists len some grow (keys.Act tid) h = key_grown (log_of before tid.0) (log_of lists tid.0) (keys.Act tid) (grown_log before lists tid.0 len some grow) h
commit_grown before lists len some grow keys.Checkpoint h = h
