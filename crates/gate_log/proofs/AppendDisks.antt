-- What a crash leaves before, between and after the four operations of an append, over plain lists.
use Rattle.std.proofs.Common.{◌≡◌, ◌≢◌, ℕ, ◌+◌, ◌<◌, ◌≤◌, inl, inr, List, [], ◌∷◌, ◌++◌, length, get_or, take, drop, sym, ◌∙◌, ap, subst, arith, append_assoc, length-append, take-append-drop}
use Rattle.std.proofs.lemmas.List.{take_at, drop_at, length-take, get_or-take, get_or_append_left, get_or-append_right, get_or_at}
use Rattle.std.proofs.lemmas.Grind.{same_number_lists}
use Rattle.std.proofs.lemmas.Bool.{cases_eq, cases_lt}
use Rattle.snap_outside.specs.declared.devices.DevOp.{DevOp}
use Rattle.snap_outside.specs.declared.devices.DevOp.TheVariants.{Write, Sync}
use Rattle.snap_outside.specs.Disk.{Disk, settled, overwritten, op_done, disk_after, IsImage, EachMoment}
use Rattle.snap_outside.proofs.Images.{image_is}
use Rattle.gate_log.specs.Appends.{block_ops}

-- a list that begins with the bytes of another
begins : (front image : List ℕ) → length front ≤ length image → ((k : ℕ) → k < length front → get_or image k 0 ≡ get_or front k 0)
    → image ≡ front ++ drop (length front) image
begins front image long same =
    let head : take (length front) image ≡ front =
    same_number_lists (take (length front) image) front (omega (arith, length-take (length front) image))
    (λ k h. let short : k < length front = omega (arith, length-take (length front) image) in get_or-take (length front) image k 0 short ∙ same k short) in
    sym (take-append-drop (length front) image) ∙ ap (λ (l : List ℕ). l ++ drop (length front) image) head

gate_in : (front tail : List ℕ) (gate : ℕ) → front ++ gate ∷ tail ≡ (front ++ gate ∷ []) ++ tail
gate_in front tail gate = sym (append_assoc front (gate ∷ []) tail)

module _ (front : List ℕ) (gate end : ℕ) (at : length front ≡ end) where
  size : length (front ++ gate ∷ []) ≡ end + 1
  size = omega (arith, length-append front (gate ∷ []), at)

  -- behind the gate a write changes what follows it
  written_behind : (piece rest : List ℕ)
      → overwritten (front ++ gate ∷ rest) (end + 1) piece ≡ front ++ gate ∷ (piece ++ drop (end + 1 + length piece) (front ++ gate ∷ rest))
  written_behind piece rest =
      let after = piece ++ drop (end + 1 + length piece) (front ++ gate ∷ rest) in
      let head : take (end + 1) (front ++ gate ∷ rest) ≡ front ++ gate ∷ [] =
      ap (λ (l : List ℕ). take (end + 1) l) (gate_in front rest gate) ∙ take_at (front ++ gate ∷ []) rest (end + 1) size in
      ap (λ (l : List ℕ). l ++ after) head ∙ append_assoc front (gate ∷ []) after

  -- a write of one byte at the gate changes the gate
  pub written_gate : (new : ℕ) (tail : List ℕ) → overwritten (front ++ gate ∷ tail) end (new ∷ []) ≡ front ++ new ∷ tail
  written_gate new tail =
      let head : take end (front ++ gate ∷ tail) ≡ front = take_at front (gate ∷ tail) end at in
      let after : drop (end + 1) (front ++ gate ∷ tail) ≡ tail =
      ap (λ (l : List ℕ). drop (end + 1) l) (gate_in front tail gate) ∙ drop_at (front ++ gate ∷ []) tail (end + 1) size in
      ap (λ (l : List ℕ). l ++ (new ∷ drop (end + 1) (front ++ gate ∷ tail))) head ∙ ap (λ (l : List ℕ). front ++ new ∷ l) after

  -- while the piece behind it is written, the gate stands
  staged_image : (piece rest now image : List ℕ)
      → IsImage (record { synced = front ++ gate ∷ rest; now = now; loose = record { 0 = end + 1; 1 = length piece } ∷ [] }) image
      → image ≡ front ++ gate ∷ drop (end + 1) image
  staged_image piece rest now image left =
      let long : length (front ++ gate ∷ []) ≤ length image = omega (arith, left.no_shorter, length-append front (gate ∷ rest), size, at) in
      let same : (k : ℕ) → k < length (front ++ gate ∷ []) → get_or image k 0 ≡ get_or (front ++ gate ∷ []) k 0 = λ k h.
      left.fixed k (omega (arith, length-append front (gate ∷ rest), size, at)) (inl (omega (arith, size)), tt)
      ∙ ap (λ (l : List ℕ). get_or l k 0) (gate_in front rest gate)
      ∙ get_or_append_left (front ++ gate ∷ []) rest 0 k h in
      begins (front ++ gate ∷ []) image long same
      ∙ ap (λ (n : ℕ). (front ++ gate ∷ []) ++ drop n image) size
      ∙ append_assoc front (gate ∷ []) (drop (end + 1) image)

  -- while the gate is written, all but the gate stands
  opening_image : (tail now image : List ℕ) → length now ≡ length (front ++ gate ∷ tail)
      → IsImage (record { synced = front ++ gate ∷ tail; now = now; loose = record { 0 = end; 1 = 1 } ∷ [] }) image
      → image ≡ front ++ get_or image end 0 ∷ tail
  opening_image tail now image long left =
      let x = get_or image end 0 in
      let all : length image ≡ length (front ++ x ∷ tail) =
      omega (arith, left.no_shorter, left.no_longer, long, length-append front (gate ∷ tail), length-append front (x ∷ tail)) in
      let inside : (k : ℕ) → k < length image → k < length (front ++ gate ∷ tail) = λ k h.
      omega (arith, left.no_longer, long) in
      let before : (k : ℕ) → k < length image → k < end → get_or image k 0 ≡ get_or (front ++ x ∷ tail) k 0 = λ k h low.
      let short : k < length front = omega (arith, at) in
      left.fixed k (inside k h) (inl low, tt)
      ∙ get_or_append_left front (gate ∷ tail) 0 k short
      ∙ sym (get_or_append_left front (x ∷ tail) 0 k short) in
      let behind : (k : ℕ) → k < length image → end + 1 ≤ k → get_or image k 0 ≡ get_or (front ++ x ∷ tail) k 0 = λ k h high.
      left.fixed k (inside k h) (inr high, tt)
      ∙ ap (λ (l : List ℕ). get_or l k 0) (gate_in front tail gate)
      ∙ get_or-append_right (front ++ gate ∷ []) tail (end + 1) k 0 size high
      ∙ sym (get_or-append_right (front ++ x ∷ []) tail (end + 1) k 0 (omega (arith, length-append front (x ∷ []), at)) high)
      ∙ sym (ap (λ (l : List ℕ). get_or l k 0) (gate_in front tail x)) in
      same_number_lists image (front ++ x ∷ tail) all (λ k h.
      elim (cases_lt k end) [
        | inl low ↦ before k h low
        | inr high ↦ elim (cases_lt end k) [
          | inl above ↦ behind k h (omega arith)
          | inr below ↦
              let here : k ≡ end = omega arith in
              ap (λ (n : ℕ). get_or image n 0) here ∙ sym (ap (λ (n : ℕ). get_or (front ++ x ∷ tail) n 0) here ∙ get_or_at front x tail 0 end at)
        ]
      ])

  -- a write of one byte at the gate, and a sync: what holds whatever the gate is holds at each moment
  pub gate_moments : (new : ℕ) (tail : List ℕ) (P : List ℕ → Type 0) → ((x : ℕ) → P (front ++ x ∷ tail))
      → EachMoment (settled (front ++ gate ∷ tail)) (Write end (new ∷ []) ∷ Sync ∷ []) P
  gate_moments new tail P all =
      let done = written_gate new tail in
      let long : length (overwritten (front ++ gate ∷ tail) end (new ∷ [])) ≡ length (front ++ gate ∷ tail) =
      ap (λ (l : List ℕ). length l) done ∙ omega (arith, length-append front (new ∷ tail), length-append front (gate ∷ tail)) in (
        (λ image left. subst P (sym (image_is _ image left)) (all gate)),
        (
          (λ image left. subst P (sym (opening_image tail _ image long left)) (all (get_or image end 0))),
          (λ image left. subst P (sym (image_is _ image left ∙ done)) (all new)),
        ),
      )

  -- what there is when all four are done
  pub append_end : (piece rest : List ℕ) → disk_after (block_ops end piece) (settled (front ++ gate ∷ rest))
      ≡ settled (front ++ 1 ∷ (piece ++ drop (end + 1 + length piece) (front ++ gate ∷ rest)))
  append_end piece rest =
      ap (λ (bytes : List ℕ). settled (overwritten bytes end (1 ∷ []))) (written_behind piece rest)
      ∙ ap (λ (bytes : List ℕ). settled bytes) (written_gate 1 (piece ++ drop (end + 1 + length piece) (front ++ gate ∷ rest)))

  module _ (piece rest : List ℕ) (P : List ℕ → Type 0) (closed : gate ≢ 1)
      (old : (x : ℕ) (tail : List ℕ) → x ≢ 1 → P (front ++ x ∷ tail))
      (new : (tail : List ℕ) → P (front ++ 1 ∷ (piece ++ tail))) where
    abbrev after : List ℕ
    after = drop (end + 1 + length piece) (front ++ gate ∷ rest)

    either_gate : (x : ℕ) (tail : List ℕ) → P (front ++ x ∷ (piece ++ tail))
    either_gate x tail = elim (cases_eq x 1) [
      | inl is ↦ subst (λ (y : ℕ). P (front ++ y ∷ (piece ++ tail))) (sym is) (new tail)
      | inr not ↦ old x (piece ++ tail) not
    ]

    opened : EachMoment (settled (front ++ gate ∷ (piece ++ after))) (Write end (1 ∷ []) ∷ Sync ∷ []) P
    opened = gate_moments 1 (piece ++ after) P (λ x. either_gate x after)

    -- each moment of the four operations
    pub append_moments : EachMoment (settled (front ++ gate ∷ rest)) (block_ops end piece) P
    append_moments = (
      (λ image left. subst P (sym (image_is _ image left)) (old gate rest closed)),
      (
        (λ image left. subst P (sym (staged_image piece rest _ image left)) (old gate (drop (end + 1) image) closed)),
        subst (λ (bytes : List ℕ). EachMoment (settled bytes) (Write end (1 ∷ []) ∷ Sync ∷ []) P) (sym (written_behind piece rest)) opened,
      ),
    )

-- what holds at each moment of some operations holds at each of the first of them
pub moments_front : (d : Disk) (made left : List DevOp) (P : List ℕ → Type 0) → EachMoment d (made ++ left) P → EachMoment d made P
moments_front d [] [] P all = all
moments_front d [] (op ∷ left) P all = all.0
moments_front d (op ∷ made) left P all = (all.0, moments_front (op_done op d) made left P all.1)
