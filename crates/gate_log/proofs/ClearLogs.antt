-- The two operations of a clearing on a log: whatever a crash leaves is the log as it was, or one of no item.
use Rattle.std.proofs.Common.{◌≡◌, ◌≢◌, ℕ, ◌<◌, ◌≤◌, ◌⊎◌, inl, inr, Bool, true, false, List, [], ◌∷◌, ◌++◌, length, Some, refl, sym, ◌∙◌, ap, subst, arith, length-append, append-nil}
use Rattle.std.specs.Prelude.{nat_le, if◌then◌else◌}
use Rattle.std.proofs.lemmas.Bool.{cases_eq, leb-true, leb-false}
use Rattle.snap_outside.specs.declared.devices.DevOp.{DevOp}
use Rattle.snap_outside.specs.Disk.{DeviceHistory, Disk, settled, disk, disk_after, content, with_ops, EachMoment, IsImage}
use Rattle.snap_outside.specs.Moments.{disk_join}
use Rattle.snap_outside.proofs.Images.{image_is}
use Rattle.gate_log.specs.Appends.{close_ops, clear_ops}
use Rattle.gate_log.specs.Bytes.{header, blocks, items_of, group_bytes, marked_format, format_in, IsLog, IsLogAt}
use Rattle.gate_log.specs.Device.{DeviceLog, HasFormat}
use Rattle.gate_log.proofs.AppendBytes.{log_of, closed_log}
use Rattle.gate_log.proofs.AppendDisks.{gate_moments, written_gate}
use Rattle.gate_log.proofs.OpenDisks.{settled_log}

-- ---- over plain lists

-- the log as it was, or none of its items
abbrev pub OldOrNone : List (List ℕ) → List ℕ → Type 0
OldOrNone items image = IsLog image items ⊎ IsLog image []

-- a log with a group begins with an open gate
pub record BeginsOpen (bytes : List ℕ) : Type 0 where
  pub mark : ℕ
  pub tail : List ℕ
  pub is : bytes ≡ header mark ++ 1 ∷ tail

pub begins_open : (bytes : List ℕ) (end : ℕ) (items : List (List ℕ)) → IsLogAt bytes end items → 8 < end → BeginsOpen bytes
begins_open bytes end items log far = by log.parts.0 log.parts.5 log.parts.6
  where
    by : (groups : List (List (List ℕ))) → bytes ≡ (header log.mark ++ blocks groups) ++ log.parts.1 ∷ log.parts.2 → end ≡ length (header log.mark ++ blocks groups)
        → BeginsOpen bytes
    by [] e l = absurd (omega (arith, l, far))
    by (g ∷ gs) e l = record { mark = log.mark; tail = (group_bytes g ++ blocks gs) ++ log.parts.1 ∷ log.parts.2; is = e }

-- a log whose closed gate is the first one has no item
no_items : (bytes : List ℕ) (end : ℕ) (items : List (List ℕ)) → IsLogAt bytes end items → end ≤ 8 → (items ≡ []) × (end ≡ 8)
no_items bytes end items log low = by log.parts.0 log.parts.6 log.parts.7
  where
    by : (groups : List (List (List ℕ))) → end ≡ length (header log.mark ++ blocks groups) → items ≡ items_of groups → (items ≡ []) × (end ≡ 8)
    by [] l i = (i, l)
    by (g ∷ gs) l i = absurd (omega (arith, l, low, length-append (header log.mark) (blocks (g ∷ gs))))

-- a log whose first gate is closed
closed_first : (mark x : ℕ) (tail : List ℕ) → x ≢ 1 → IsLogAt (header mark ++ x ∷ tail) 8 []
closed_first mark x tail not = closed_log mark [] tt x tail not

close_moments : (bytes : List ℕ) (end : ℕ) (items : List (List ℕ)) → IsLogAt bytes end items → 8 < end → EachMoment (settled bytes) close_ops (OldOrNone items)
close_moments bytes end items log far =
    let b = begins_open bytes end items log far in
    subst (λ (l : List ℕ). EachMoment (settled l) close_ops (OldOrNone items)) (sym b.is)
    (gate_moments (header b.mark) 1 8 refl 0 b.tail (OldOrNone items) (λ x. elim (cases_eq x 1) [
      | inl e ↦ inl (subst (λ (l : List ℕ). IsLog l items) (b.is ∙ ap (λ (y : ℕ). header b.mark ++ y ∷ b.tail) (sym e)) (log_of bytes end items log))
      | inr not ↦ inr (log_of (header b.mark ++ x ∷ b.tail) 8 [] (closed_first b.mark x b.tail not))
    ]))

-- what is left in the end
record IsClosed (bytes : List ℕ) : Type 0 where
  new : List ℕ
  there : disk_after close_ops (settled bytes) ≡ settled new
  log : IsLogAt new 8 []
  marked : marked_format new ≡ marked_format bytes
  format : format_in new ≡ format_in bytes

close_end : (bytes : List ℕ) (end : ℕ) (items : List (List ℕ)) → IsLogAt bytes end items → 8 < end → IsClosed bytes
close_end bytes end items log far =
    let b = begins_open bytes end items log far in
    record {
      new = header b.mark ++ 0 ∷ b.tail;
      there = ap (λ (l : List ℕ). disk_after close_ops (settled l)) b.is ∙ ap settled (written_gate (header b.mark) 1 8 refl 0 b.tail);
      log = closed_first b.mark 0 b.tail (λ e. omega (arith, e));
      marked = sym (ap marked_format b.is);
      format = sym (ap format_in b.is);
    }

-- ---- on a device

closed_disk : (h : DeviceHistory) (end : ℕ) (items : List (List ℕ)) (log : DeviceLog h end items) (far : 8 < end)
    → disk (with_ops h close_ops) ≡ settled (close_end (content h) end items log.log far).new
closed_disk h end items log far =
    disk_join h.ops close_ops (settled h.first) ∙ (ap (λ (d : Disk). disk_after close_ops d) log.quiet ∙ (close_end (content h) end items log.log far).there)

pub closed_on : (h : DeviceHistory) (end : ℕ) (items : List (List ℕ)) → DeviceLog h end items → 8 < end → DeviceLog (with_ops h close_ops) 8 []
closed_on h end items log far =
    let c = close_end (content h) end items log.log far in
    settled_log (with_ops h close_ops) c.new 8 [] (closed_disk h end items log far) c.log

pub closed_format : (h : DeviceHistory) (end format : ℕ) (items : List (List ℕ)) → DeviceLog h end items → 8 < end → HasFormat (Some h) format
    → HasFormat (Some (with_ops h close_ops)) format
closed_format h end format items log far has =
    let c = close_end (content h) end items log.log far in
    let now : c.new ≡ content (with_ops h close_ops) = sym (ap (λ (d : Disk). d.now) (closed_disk h end items log far)) in
    (has.0 ∙ sym c.marked ∙ ap marked_format now, has.1 ∙ sym c.format ∙ ap format_in now)

same_history : (h : DeviceHistory) → h ≡ with_ops h []
same_history h = ap (λ (ops : List DevOp). let g : DeviceHistory = record { first = h.first; ops = ops } in g) (sym (append-nil h.ops))

-- ---- the laws of a clearing

pub clear_gives : (h : DeviceHistory) (end : ℕ) (items : List (List ℕ)) → DeviceLog h end items → DeviceLog (with_ops h (clear_ops end)) 8 []
clear_gives h end items log = by (nat_le end 8) refl
  where
    by : (b : Bool) → nat_le end 8 ≡ b → DeviceLog (with_ops h (if b then [] else close_ops)) 8 []
    by true e =
        let n = no_items (content h) end items log.log (leb-true end 8 e) in
        subst (λ (g : DeviceHistory). DeviceLog g 8 []) (same_history h)
        (subst (λ (k : ℕ). DeviceLog h k []) n.1 (subst (λ (us : List (List ℕ)). DeviceLog h end us) n.0 log))
    by false e = closed_on h end items log (omega (arith, leb-false end 8 e))

pub clear_keeps : (h : DeviceHistory) (end : ℕ) (items : List (List ℕ)) → DeviceLog h end items → EachMoment (disk h) (clear_ops end) (OldOrNone items)
clear_keeps h end items log = by (nat_le end 8) refl
  where
    by : (b : Bool) → nat_le end 8 ≡ b → EachMoment (disk h) (if b then [] else close_ops) (OldOrNone items)
    by true e = λ image left. inl (subst (λ (l : List ℕ). IsLog l items) (sym (image_is (content h) image (subst (λ (d : Disk). IsImage d image) log.quiet left)))
        (log_of (content h) end items log.log))
    by false e = subst (λ (d : Disk). EachMoment d close_ops (OldOrNone items)) (sym log.quiet) (close_moments (content h) end items log.log (omega (arith, leb-false end 8 e)))

pub clear_keeps_format : (h : DeviceHistory) (end format : ℕ) (items : List (List ℕ)) → DeviceLog h end items → HasFormat (Some h) format
    → HasFormat (Some (with_ops h (clear_ops end))) format
clear_keeps_format h end format items log has = by (nat_le end 8) refl
  where
    by : (b : Bool) → nat_le end 8 ≡ b → HasFormat (Some (with_ops h (if b then [] else close_ops))) format
    by true e = subst (λ (g : DeviceHistory). HasFormat (Some g) format) (same_history h) has
    by false e = closed_format h end format items log (omega (arith, leb-false end 8 e)) has
