-- The four operations of an append on a log.
use Rattle.std.proofs.Common.{◌≡◌, ◌≢◌, ℕ, ◌+◌, ◌⊎◌, inl, inr, List, ◌∷◌, ◌++◌, length, drop, refl, sym, ap, subst, arith}
use Rattle.std.specs.List.{AllByRecursion}
use Rattle.snap_outside.specs.Disk.{Disk, settled, disk_after, EachMoment}
use Rattle.gate_log.specs.Appends.{group_block, block_ops}
use Rattle.gate_log.specs.Bytes.{header, marked_format, blocks, items_of, IsGroup, IsLog, IsLogAt}
use Rattle.gate_log.specs.Device.{MayAppend}
use Rattle.gate_log.proofs.AppendBytes.{log_of, closed_log, grown_log}
use Rattle.gate_log.proofs.AppendDisks.{append_moments, append_end}

-- the log as it was, or with what is added
abbrev pub IsEither : List (List ℕ) → List (List ℕ) → List ℕ → Type 0
IsEither items added image = IsLog image items ⊎ IsLog image (items ++ added)

group_of : (end : ℕ) (added : List (List ℕ)) → MayAppend end added → IsGroup added
group_of end added may = record { items = may.items; short = omega (arith, may.short) }

module _ (mark : ℕ) (groups : List (List (List ℕ))) (gate : ℕ) (rest : List ℕ) (added : List (List ℕ))
    (all : AllByRecursion IsGroup groups) (closed : gate ≢ 1) (group : IsGroup added) where
  abbrev front : List ℕ
  front = header mark ++ blocks groups

  moments : EachMoment (settled (front ++ gate ∷ rest)) (block_ops (length front) (group_block added)) (IsEither (items_of groups) added)
  moments =
      append_moments front gate (length front) refl (group_block added) rest (IsEither (items_of groups) added) closed
      (λ x tail not. inl (log_of (front ++ x ∷ tail) (length front) (items_of groups) (closed_log mark groups all x tail not)))
      (λ tail. inr (log_of (front ++ 1 ∷ (group_block added ++ tail)) (length front + length (group_block added)) (items_of groups ++ added)
      (grown_log mark groups all added group tail)))

  grown : (bytes : List ℕ) × (disk_after (block_ops (length front) (group_block added)) (settled (front ++ gate ∷ rest)) ≡ settled bytes)
      × IsLogAt bytes (length front + length (group_block added)) (items_of groups ++ added)
  grown =
      let tail = drop (length front + 1 + length (group_block added)) (front ++ gate ∷ rest) in
      (front ++ 1 ∷ (group_block added ++ tail), append_end front gate (length front) refl (group_block added) rest, grown_log mark groups all added group tail)

module _ (bytes : List ℕ) (end : ℕ) (items added : List (List ℕ)) (log : IsLogAt bytes end items) (may : MayAppend end added) where
  -- a crash at any moment of them leaves the log as it was or with what is added
  pub log_moments : EachMoment (settled bytes) (block_ops end (group_block added)) (IsEither items added)
  log_moments =
      let p = log.parts in
      subst (λ (b : List ℕ). EachMoment (settled b) (block_ops end (group_block added)) (IsEither items added)) (sym p.5)
      (subst (λ (e : ℕ). EachMoment (settled ((header log.mark ++ blocks p.0) ++ p.1 ∷ p.2)) (block_ops e (group_block added)) (IsEither items added)) (sym p.6)
      (subst (λ (us : List (List ℕ)). EachMoment (settled ((header log.mark ++ blocks p.0) ++ p.1 ∷ p.2)) (block_ops (length (header log.mark ++ blocks p.0)) (group_block added)) (IsEither us added)) (sym p.7)
      (moments log.mark p.0 p.1 p.2 added p.3 p.4 (group_of end added may))))

  abbrev IsGrown : List ℕ → ℕ → List (List ℕ) → Type 0
  IsGrown b e us =
      (new : List ℕ) × (disk_after (block_ops e (group_block added)) (settled b) ≡ settled new)
      × IsLogAt new (e + length (group_block added)) (us ++ added)

  -- and in the end there is the log with what is added
  pub log_grown : (new : List ℕ) × (disk_after (block_ops end (group_block added)) (settled bytes) ≡ settled new)
      × IsLogAt new (end + length (group_block added)) (items ++ added)
  log_grown =
      let p = log.parts in
      subst (λ (b : List ℕ). IsGrown b end items) (sym p.5)
      (subst (λ (e : ℕ). IsGrown ((header log.mark ++ blocks p.0) ++ p.1 ∷ p.2) e items) (sym p.6)
      (subst (λ (us : List (List ℕ)). IsGrown ((header log.mark ++ blocks p.0) ++ p.1 ∷ p.2) (length (header log.mark ++ blocks p.0)) us) (sym p.7)
      (grown log.mark p.0 p.1 p.2 added p.3 p.4 (group_of end added may))))

-- the mark stays
pub mark_stays : (bytes : List ℕ) (end : ℕ) (items added : List (List ℕ)) → IsLogAt bytes end items → marked_format ((disk_after (block_ops end (group_block added)) (settled bytes)).now) ≡ marked_format bytes
mark_stays bytes end items added log =
    let p = log.parts in
    let piece = group_block added in
    let front : List ℕ = header log.mark ++ blocks p.0 in
    subst (λ (b : List ℕ). marked_format ((disk_after (block_ops end piece) (settled b)).now) ≡ marked_format b) (sym p.5)
    (subst (λ (e : ℕ). marked_format ((disk_after (block_ops e piece) (settled ((header log.mark ++ blocks p.0) ++ p.1 ∷ p.2))).now) ≡ marked_format ((header log.mark ++ blocks p.0) ++ p.1 ∷ p.2)) (sym p.6)
    (ap (λ (d : Disk). marked_format d.now) (append_end (header log.mark ++ blocks p.0) p.1 (length (header log.mark ++ blocks p.0)) refl piece p.2)))
