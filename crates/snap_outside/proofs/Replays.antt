-- How a disk is made by going through operations in order, and how its ranges are filled in order.
use Rattle.std.proofs.Common.{◌≡◌, ℕ, ◌+◌, ◌<◌, List, [], ◌∷◌, ◌++◌, length, get_or, take, reverse, refl, sym, ap, ◌∙◌, add-one}
use Rattle.std.proofs.lemmas.List.{reverse-append}
use Rattle.std.proofs.Math.Seq.{take-suc}
use Rattle.snap_outside.specs.Disk.{Disk, op_done, disk_after}
use Rattle.snap_outside.specs.Images.{filled, all_filled}
use Rattle.snap_outside.specs.declared.devices.DevOp.{DevOp}

pub after_one_more : (ops : List DevOp) (op : DevOp) (d : Disk) → disk_after (ops ++ op ∷ []) d ≡ op_done op (disk_after ops d)
after_one_more [] op d = refl
after_one_more (first ∷ ops) op d = after_one_more ops op (op_done first d)

-- what is gone through grows by the element at the place
pub take_one_more : {X : Type 0} (xs : List X) (i : ℕ) (x : X) → i < length xs → x ≡ get_or xs i x → take (i + 1) xs ≡ take i xs ++ x ∷ []
take_one_more xs i x within here = rw add-one (take-suc xs i x within ∙ ap (λ y. take i xs ++ y ∷ []) (sym here))

-- the disk after the next of these operations
pub after_next : (ops : List DevOp) (i : ℕ) (d : Disk) (op : DevOp) → i < length ops → op ≡ get_or ops i op
    → disk_after (take (i + 1) ops) d ≡ op_done op (disk_after (take i ops) d)
after_next ops i d op within here =
    ap (λ (l : List DevOp). disk_after l d) (take_one_more ops i op within here) ∙ after_one_more (take i ops) op d

-- the bytes with the next of these ranges filled, which come oldest first
pub filled_next : (byte : ℕ) (ranges : List (ℕ × ℕ)) (i : ℕ) (old : List ℕ) (range : ℕ × ℕ) → i < length ranges → range ≡ get_or ranges i range
    → all_filled byte (reverse (take (i + 1) ranges)) old ≡ filled byte range (all_filled byte (reverse (take i ranges)) old)
filled_next byte ranges i old range within here =
    ap (λ (l : List (ℕ × ℕ)). all_filled byte l old) (ap reverse (take_one_more ranges i range within here) ∙ reverse-append (take i ranges) (range ∷ []))
