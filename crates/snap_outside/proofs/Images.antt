-- What a crash may leave of a disk that operations made.
use Rattle.std.proofs.Common.{◌≡◌, ℕ, ◌+◌, ◌-◌, ◌<◌, ◌≤◌, ◌⊎◌, inl, inr, min, List, [], ◌∷◌, ◌++◌, length, get_or, take, drop, replicate, refl, ap, ◌∙◌, arith}
use Rattle.std.proofs.lemmas.List.{length-append, length-take, length-drop, length-replicate, get_or_append_left, get_or-append_right, get_or-take, get_or-drop}
use Rattle.std.proofs.lemmas.Grind.{same_number_lists}
use Rattle.snap_outside.specs.Disk.{Disk, settled, overwritten, op_done, disk_after, IsFixed, IsImage}
use Rattle.snap_outside.specs.Images.{filled, all_filled, filled_image}
use Rattle.snap_outside.specs.declared.devices.DevOp.{DevOp}
use Rattle.snap_outside.specs.declared.devices.DevOp.TheVariants.{Write, Sync}

pub length-written : (old : List ℕ) (at : ℕ) (piece : List ℕ) → length (overwritten old at piece) ≡ min at (length old) + (length piece + (length old - (at + length piece)))
length-written old at piece = simp (length-append, length-take, length-drop)

pub no_shorter_written : (old : List ℕ) (at : ℕ) (piece : List ℕ) → length old ≤ length (overwritten old at piece)
no_shorter_written old at piece = omega (arith, length-written old at piece)

-- a place outside of the piece keeps its byte
pub get_or-written : (old : List ℕ) (at : ℕ) (piece : List ℕ) (i : ℕ) → i < length old → (i < at) ⊎ (at + length piece ≤ i)
    → get_or (overwritten old at piece) i 0 ≡ get_or old i 0
get_or-written old at piece i within outside = elim outside [
  | inl before ↦
      let front : i < length (take at old) = omega (arith, length-take at old) in
      get_or_append_left (take at old) (piece ++ drop (at + length piece) old) 0 i front ∙ get_or-take at old i 0 before
  | inr behind ↦
      let front : length (take at old) ≡ at = omega (arith, length-take at old) in
      let past : at ≤ i = omega arith in
      let over : length piece ≤ i - at = omega arith in
      let place : (at + length piece) + ((i - at) - length piece) ≡ i = omega arith in
      get_or-append_right (take at old) (piece ++ drop (at + length piece) old) at i 0 front past
      ∙ get_or-append_right piece (drop (at + length piece) old) (length piece) (i - at) 0 refl over
      ∙ get_or-drop (at + length piece) old ((i - at) - length piece) 0
      ∙ ap (λ k. get_or old k 0) place
]

-- ---- the disk as it is read is one of its images

op_kept : (op : DevOp) (d : Disk) → IsImage d d.now → IsImage (op_done op d) (op_done op d).now
op_kept (Write at piece) d kept = record {
  no_shorter = omega (arith, kept.no_shorter, no_shorter_written d.now at piece);
  no_longer = omega arith;
  fixed = λ i within fixed. get_or-written d.now at piece i (omega (arith, kept.no_shorter)) fixed.0 ∙ kept.fixed i within fixed.1;
}
op_kept Sync d kept = record { no_shorter = omega arith; no_longer = omega arith; fixed = λ i within fixed. refl }

pub read_kept : (ops : List DevOp) (d : Disk) → IsImage d d.now → IsImage (disk_after ops d) (disk_after ops d).now
read_kept [] d kept = kept
read_kept (op ∷ ops) d kept = read_kept ops (op_done op d) (op_kept op d kept)

pub read_image : (ops : List DevOp) (first : List ℕ) → IsImage (disk_after ops (settled first)) (disk_after ops (settled first)).now
read_image ops first = read_kept ops (settled first) (record { no_shorter = omega arith; no_longer = omega arith; fixed = λ i within fixed. refl })

-- a settled disk has no other image
pub image_is : (bytes image : List ℕ) → IsImage (settled bytes) image → image ≡ bytes
image_is bytes image left =
    let size : length image ≡ length bytes = omega (arith, left.no_shorter, left.no_longer) in
    same_number_lists image bytes size (λ k lt. left.fixed k (omega (arith, lt, size)) tt)

-- ---- and so are what the sync fixed and what is filled

pub synced_image : (d : Disk) → IsImage d d.now → IsImage d d.synced
synced_image d read = record { no_shorter = omega arith; no_longer = read.no_shorter; fixed = λ i within fixed. refl }

pub length-filled : (byte : ℕ) (range : ℕ × ℕ) (old : List ℕ) → length (filled byte range old) ≡ length old
length-filled byte range old =
    let size = min range.1 (length old - range.0) in
    omega (arith, length-written old range.0 (replicate size byte), length-replicate size byte)

pub length-all_filled : (byte : ℕ) (ranges : List (ℕ × ℕ)) (old : List ℕ) → length (all_filled byte ranges old) ≡ length old
length-all_filled byte [] old = refl
length-all_filled byte (range ∷ ranges) old = length-filled byte range (all_filled byte ranges old) ∙ length-all_filled byte ranges old

get_or-filled : (byte : ℕ) (range : ℕ × ℕ) (old : List ℕ) (i : ℕ) → i < length old → (i < range.0) ⊎ (range.0 + range.1 ≤ i)
    → get_or (filled byte range old) i 0 ≡ get_or old i 0
get_or-filled byte range old i within outside =
    let size = min range.1 (length old - range.0) in
    get_or-written old range.0 (replicate size byte) i within
    (elim outside [ inl before ↦ inl before | inr behind ↦ inr (omega (arith, length-replicate size byte)) ])

pub get_or-all_filled : (byte : ℕ) (ranges : List (ℕ × ℕ)) (old : List ℕ) (i : ℕ) → i < length old → IsFixed ranges i
    → get_or (all_filled byte ranges old) i 0 ≡ get_or old i 0
get_or-all_filled byte [] old i within fixed = refl
get_or-all_filled byte (range ∷ ranges) old i within fixed =
    get_or-filled byte range (all_filled byte ranges old) i (omega (arith, length-all_filled byte ranges old)) fixed.0
    ∙ get_or-all_filled byte ranges old i within fixed.1

pub filled_is_image : (byte : ℕ) (d : Disk) → IsImage d d.now → IsImage d (filled_image byte d)
filled_is_image byte d read =
    let all : List (ℕ × ℕ) = record { 0 = length d.synced; 1 = length d.now } ∷ d.loose in
    let same : length (filled_image byte d) ≡ length d.now = length-all_filled byte all d.now in
    record {
      no_shorter = omega (arith, read.no_shorter);
      no_longer = omega arith;
      fixed = λ i within fixed. get_or-all_filled byte all d.now i (omega (arith, read.no_shorter)) (inl within, fixed) ∙ read.fixed i within fixed;
    }
