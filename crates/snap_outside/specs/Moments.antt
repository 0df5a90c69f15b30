-- Laws of operations that are made one behind the other. Most of them range over every fact P, which no clause
-- can do, so they stand here, each with its proof.
use Rattle.std.specs.Prelude.{◌≡◌, ℕ, List, [], ◌∷◌, ◌++◌, Option, None, Some, refl}
use Rattle.std.proofs.Common.{sym, ap, subst, ◌∙◌, append_assoc, append-nil}
use Rattle.snap_outside.specs.declared.devices.DevOp.{DevOp}
use Rattle.snap_outside.specs.Disk.{DeviceHistory, Disk, op_done, disk_after, EachImage, EachMoment, AddsAll}

-- ---- disks

-- the disk after two lists of operations is that after the second on that after the first
pub disk_join : (xs ys : List DevOp) (d : Disk) → disk_after (xs ++ ys) d ≡ disk_after ys (disk_after xs d)
disk_join [] ys d = refl
disk_join (x ∷ xs) ys d = disk_join xs ys (op_done x d)

-- what holds while the first are made, and then while the others are, holds while all are
pub moments_join : (d : Disk) (xs ys : List DevOp) (P : List ℕ → Type 0)
    → EachMoment d xs P → EachMoment (disk_after xs d) ys P → EachMoment d (xs ++ ys) P
moments_join d [] ys P before after = after
moments_join d (x ∷ xs) ys P before after = (before.0, moments_join (op_done x d) xs ys P before.1 after)

-- what holds while all are made holds when the first are made and no other is begun
pub moment_between : (d : Disk) (xs ys : List DevOp) (P : List ℕ → Type 0) → EachMoment d (xs ++ ys) P → EachImage (disk_after xs d) P
moment_between d [] [] P all = all
moment_between d [] (y ∷ ys) P all = all.0
moment_between d (x ∷ xs) ys P all = moment_between (op_done x d) xs ys P all.1

-- where P gives Q, what has P at each moment has Q at each moment
pub moments_weaker : (P Q : List ℕ → Type 0) → ((image : List ℕ) → P image → Q image)
    → (d : Disk) (ops : List DevOp) → EachMoment d ops P → EachMoment d ops Q
moments_weaker P Q then d [] all = λ image left. then image (all image left)
moments_weaker P Q then d (op ∷ ops) all = ((λ image left. then image (all.0 image left)), moments_weaker P Q then (op_done op d) ops all.1)

-- ---- histories

-- a history that is as it was has no operations added
pub adds_nothing : (old new : Option DeviceHistory) → new ≡ old → AddsAll old new []
adds_nothing None new same = same
adds_nothing (Some h) new same = same ∙ ap (λ (ops : List DevOp). Some (record { first = h.first; ops = ops })) (sym (append-nil h.ops))

-- operations that are added, and then others, are all added
pub adds_join : (old between new : Option DeviceHistory) (xs ys : List DevOp)
    → AddsAll old between xs → AddsAll between new ys → AddsAll old new (xs ++ ys)
adds_join None between new xs ys first second = subst (λ (t : Option DeviceHistory). AddsAll t new ys) first second
adds_join (Some h) between new xs ys first second =
    subst (λ (t : Option DeviceHistory). AddsAll t new ys) first second
    ∙ ap (λ (ops : List DevOp). Some (record { first = h.first; ops = ops })) (append_assoc h.ops xs ys)
