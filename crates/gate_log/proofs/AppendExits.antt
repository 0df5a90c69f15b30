-- What an append adds to a device's history, and what follows of the log, at each of its exits.
use Rattle.std.proofs.Common.{◌≡◌, ℕ, ◌+◌, ◌<◌, ◌⊎◌, ◌≢◌, inl, inr, List, [], ◌∷◌, ◌++◌, length, refl, arith, Bool, true, false, sym, ◌∙◌, ap, subst, append_assoc, Option, Some, None, Result, Ok, Err}
use Rattle.std.specs.Bool.{◌==◌}
use Rattle.std.proofs.lemmas.Bool.{eqb-true, eqb-false}
use Rattle.std.proofs.lemmas.List.{append-nil, length-append, nil_from_length}
use Rattle.std.specs.Int.{to_be_bytes, w32}
use Rattle.std.specs.Option.{IfSome, IsSome, ForSome}
use Rattle.std.specs.Result.{MatchResult, OnOk, OnErr}
use Rattle.snap_outside.specs.declared.devices.DevOp.{DevOp}
use Rattle.snap_outside.specs.declared.devices.DevOp.TheVariants.{Write, Sync}
use Rattle.snap_outside.specs.Disk.{DeviceHistory, Disk, settled, disk, disk_after, content, EachMoment, AddsOperation, MayAdd, AddsAll, with_ops, IsImage, AddsUpToFault}
use Rattle.snap_outside.specs.Moments.{disk_join, adds_nothing}
use Rattle.snap_outside.proofs.Images.{image_is}
use Rattle.gate_log.specs.Appends.{group_block, block_ops, append_ops, end_behind}
use Rattle.gate_log.specs.Bytes.{items_bytes, group_bytes, marked_format, IsLog, IsLogAt}
use Rattle.gate_log.specs.Device.{DeviceLog, HasFormat, IsReadyDevice, MayAppend, Appended, Crashes}
use Rattle.gate_log.proofs.AppendBytes.{log_of}
use Rattle.gate_log.proofs.AppendDisks.{moments_front}
use Rattle.gate_log.proofs.AppendLogs.{IsEither, log_moments, log_grown, mark_stays}
use Rattle.gate_log.proofs.Upgrades.{second}

-- ---- histories

pub adds_more : (t0 t1 t2 : Option DeviceHistory) (ops : List DevOp) (op : DevOp) → AddsAll t0 t1 ops → AddsOperation t1 t2 op → AddsAll t0 t2 (ops ++ op ∷ [])
adds_more None t1 t2 ops op front last = subst (λ (t : Option DeviceHistory). AddsOperation t t2 op) front last
adds_more (Some h) t1 t2 ops op front last =
    subst (λ (t : Option DeviceHistory). AddsOperation t t2 op) front last
    ∙ ap (λ (l : List DevOp). Some (record { first = h.first; ops = l })) (append_assoc h.ops ops (op ∷ []))

pub may_add_more : (t0 t1 t2 : Option DeviceHistory) (ops : List DevOp) (op : DevOp) → AddsAll t0 t1 ops → MayAdd t1 t2 op → AddsAll t0 t2 ops ⊎ AddsAll t0 t2 (ops ++ op ∷ [])
may_add_more None t1 t2 ops op front last = inl (subst (λ (t : Option DeviceHistory). MayAdd t t2 op) front last)
may_add_more (Some h) t1 t2 ops op front last =
    elim (subst (λ (t : Option DeviceHistory). MayAdd t t2 op) front last) [
      | inl same ↦ inl same
      | inr more ↦ inr (more ∙ ap (λ (l : List DevOp). Some (record { first = h.first; ops = l })) (append_assoc h.ops ops (op ∷ [])))
    ]

pub adds_same : (t0 t1 t2 : Option DeviceHistory) (ops : List DevOp) → AddsAll t0 t1 ops → t2 ≡ t1 → AddsAll t0 t2 ops
adds_same t0 t1 t2 ops front same = subst (λ (t : Option DeviceHistory). AddsAll t0 t ops) (sym same) front

-- a front is made, and at least one operation is not
pub up_to : (old new : Option DeviceHistory) (made : List DevOp) (next : DevOp) (later : List DevOp) → AddsAll old new made → AddsUpToFault old new (made ++ next ∷ later)
up_to old new made next later adds = (made, record { left = next ∷ later; some = λ none. cc; whole = refl }, adds)

-- ---- the exits of the four operations

module _ (gate : ℕ) (block : List ℕ) (t0 t1 t2 t3 t4 : Option DeviceHistory) where
  abbrev write : DevOp
  write = Write (gate + 1) block

  abbrev gate_opens : DevOp
  gate_opens = Write gate (1 ∷ [])

  adds_1 : AddsOperation t0 t1 write → AddsAll t0 t1 (write ∷ [])
  adds_1 w1 = adds_more t0 t0 t1 [] write (adds_nothing t0 t0 refl) w1

  adds_2 : AddsOperation t0 t1 write → AddsOperation t1 t2 Sync → AddsAll t0 t2 (write ∷ Sync ∷ [])
  adds_2 w1 s1 = adds_more t0 t1 t2 (write ∷ []) Sync (adds_1 w1) s1

  adds_3 : AddsOperation t0 t1 write → AddsOperation t1 t2 Sync → AddsOperation t2 t3 gate_opens → AddsAll t0 t3 (write ∷ Sync ∷ gate_opens ∷ [])
  adds_3 w1 s1 w2 = adds_more t0 t2 t3 (write ∷ Sync ∷ []) gate_opens (adds_2 w1 s1) w2

  all_done : AddsOperation t0 t1 write → AddsOperation t1 t2 Sync → AddsOperation t2 t3 gate_opens → AddsOperation t3 t4 Sync → AddsAll t0 t4 (block_ops gate block)
  all_done w1 s1 w2 s2 = adds_more t0 t3 t4 (write ∷ Sync ∷ gate_opens ∷ []) Sync (adds_3 w1 s1 w2) s2

  pub write_failed : MayAdd t0 t1 write → AddsUpToFault t0 t1 (block_ops gate block)
  write_failed w1 = elim (may_add_more t0 t0 t1 [] write (adds_nothing t0 t0 refl) w1) [
    | inl none ↦ up_to t0 t1 [] write (Sync ∷ gate_opens ∷ Sync ∷ []) none
    | inr one ↦ up_to t0 t1 (write ∷ []) Sync (gate_opens ∷ Sync ∷ []) one
  ]

  pub sync_failed : AddsOperation t0 t1 write → t2 ≡ t1 → AddsUpToFault t0 t2 (block_ops gate block)
  sync_failed w1 same = up_to t0 t2 (write ∷ []) Sync (gate_opens ∷ Sync ∷ []) (adds_same t0 t1 t2 (write ∷ []) (adds_1 w1) same)

  pub gate_failed : AddsOperation t0 t1 write → AddsOperation t1 t2 Sync → MayAdd t2 t3 gate_opens → AddsUpToFault t0 t3 (block_ops gate block)
  gate_failed w1 s1 w2 = elim (may_add_more t0 t2 t3 (write ∷ Sync ∷ []) gate_opens (adds_2 w1 s1) w2) [
    | inl two ↦ up_to t0 t3 (write ∷ Sync ∷ []) gate_opens (Sync ∷ []) two
    | inr three ↦ up_to t0 t3 (write ∷ Sync ∷ gate_opens ∷ []) Sync [] three
  ]

  last_sync_failed : AddsOperation t0 t1 write → AddsOperation t1 t2 Sync → AddsOperation t2 t3 gate_opens → t4 ≡ t3 → AddsUpToFault t0 t4 (block_ops gate block)
  last_sync_failed w1 s1 w2 same =
      up_to t0 t4 (write ∷ Sync ∷ gate_opens ∷ []) Sync [] (adds_same t0 t3 t4 (write ∷ Sync ∷ gate_opens ∷ []) (adds_3 w1 s1 w2) same)

-- ---- where the result is not known yet

pub where_err : {T E : Type 0} (r : Result T E) (P : Type 0) → P → OnErr r P
where_err (Ok x) P holds = tt
where_err (Err e) P holds = holds

pub last_sync_done : {T E : Type 0} (gate : ℕ) (block : List ℕ) (t0 t1 t2 t3 t4 : Option DeviceHistory) (r : Result T E)
    → AddsOperation t0 t1 (Write (gate + 1) block) → AddsOperation t1 t2 Sync → AddsOperation t2 t3 (Write gate (1 ∷ []))
    → MatchResult r (λ _. AddsOperation t3 t4 Sync) (λ _. t4 ≡ t3) → OnOk r (AddsAll t0 t4 (block_ops gate block))
last_sync_done gate block t0 t1 t2 t3 t4 (Ok x) w1 s1 w2 s2 = all_done gate block t0 t1 t2 t3 t4 w1 s1 w2 s2
last_sync_done gate block t0 t1 t2 t3 t4 (Err e) w1 s1 w2 s2 = tt

pub last_sync_fails : {T E : Type 0} (gate : ℕ) (block : List ℕ) (t0 t1 t2 t3 t4 : Option DeviceHistory) (r : Result T E)
    → AddsOperation t0 t1 (Write (gate + 1) block) → AddsOperation t1 t2 Sync → AddsOperation t2 t3 (Write gate (1 ∷ []))
    → MatchResult r (λ _. AddsOperation t3 t4 Sync) (λ _. t4 ≡ t3) → OnErr r (AddsUpToFault t0 t4 (block_ops gate block))
last_sync_fails gate block t0 t1 t2 t3 t4 (Ok x) w1 s1 w2 s2 = tt
last_sync_fails gate block t0 t1 t2 t3 t4 (Err e) w1 s1 w2 s2 = last_sync_failed gate block t0 t1 t2 t3 t4 w1 s1 w2 s2

-- ---- what follows of the log

-- a front of the four operations was made
crashes : (old new : Option DeviceHistory) (end : ℕ) (added : List (List ℕ)) (made left : List DevOp) → MayAppend end added
    → block_ops end (group_block added) ≡ made ++ left → AddsAll old new made → Crashes old new end added
crashes None new end added made left may front adds = tt
crashes (Some h) new end added made left may front adds = (
  made,
  adds,
  (λ items log. subst (λ (d : Disk). EachMoment d made (IsEither items added)) (sym log.quiet)
      (moments_front (settled (content h)) made left (IsEither items added)
      (subst (λ (ops : List DevOp). EachMoment (settled (content h)) ops (IsEither items added)) front (log_moments (content h) end items added log.log may)))),
)

-- where no call of the device was made
pub no_crash : (old new : Option DeviceHistory) (end : ℕ) (added : List (List ℕ)) → MayAppend end added → new ≡ old → Crashes old new end added
no_crash old new end added may same = crashes old new end added [] (block_ops end (group_block added)) may refl (adds_nothing old new same)

device_grown : (h : DeviceHistory) (end : ℕ) (items added : List (List ℕ)) → MayAppend end added → DeviceLog h end items
    → DeviceLog (record { first = h.first; ops = h.ops ++ block_ops end (group_block added) }) (end + length (group_block added)) (items ++ added)
device_grown h end items added may log =
    let ops = block_ops end (group_block added) in
    let after : DeviceHistory = record { first = h.first; ops = h.ops ++ ops } in
    let new = log_grown (content h) end items added log.log may in
    let there : disk after ≡ settled new.0 = disk_join h.ops ops (settled h.first) ∙ ap (λ (d : Disk). disk_after ops d) log.quiet ∙ new.1 in
    record {
      log = subst (λ (b : List ℕ). IsLogAt b (end + length (group_block added)) (items ++ added)) (sym (ap (λ (d : Disk). d.now) there)) new.2;
      quiet = there ∙ sym (ap (λ (d : Disk). settled d.now) there);
    }

appended : (old new : Option DeviceHistory) (end : ℕ) (added : List (List ℕ)) → MayAppend end added
    → AddsAll old new (block_ops end (group_block added)) → Appended old new end (end + length (group_block added)) added
appended None new end added may adds = tt
appended (Some h) new end added may adds =
    subst (λ (t : Option DeviceHistory). IfSome t (λ g. (items : List (List ℕ)) → DeviceLog h end items → DeviceLog g (end + length (group_block added)) (items ++ added))) (sym adds)
    (λ items log. device_grown h end items added may log)

-- a device that held a log holds one again
log_again : (old new : Option DeviceHistory) (end : ℕ) (added : List (List ℕ)) → MayAppend end added
    → AddsAll old new (block_ops end (group_block added)) → IfSome old (λ h. (items : List (List ℕ)) × DeviceLog h end items)
    → IfSome new (λ g. (items : List (List ℕ)) × DeviceLog g (end + length (group_block added)) items)
log_again None new end added may adds log =
    subst (λ (t : Option DeviceHistory). IfSome t (λ g. (items : List (List ℕ)) × DeviceLog g (end + length (group_block added)) items)) (sym adds) tt
log_again (Some h) new end added may adds log =
    subst (λ (t : Option DeviceHistory). IfSome t (λ g. (items : List (List ℕ)) × DeviceLog g (end + length (group_block added)) items)) (sym adds)
    (log.0 ++ added, device_grown h end log.0 added may log.1)

-- ---- the same where the history, the end and the piece are told by equations

pub crashes_when_done : (old told new : Option DeviceHistory) (old_end end : ℕ) (added : List (List ℕ)) (block : List ℕ)
    → told ≡ old → end ≡ old_end → block ≡ group_block added
    → MayAppend old_end added → AddsAll told new (block_ops end block) → Crashes old new old_end added
crashes_when_done old told new old_end end added block same_told same_end same_block may adds =
    crashes old new old_end added (block_ops old_end (group_block added)) [] may refl
    (subst (λ (t : Option DeviceHistory). AddsAll t new (block_ops old_end (group_block added))) same_told
    (subst (λ (e : ℕ). AddsAll told new (block_ops e (group_block added))) same_end
    (subst (λ (l : List ℕ). AddsAll told new (block_ops end l)) same_block adds)))

up_to_here : (old told new : Option DeviceHistory) (old_end end : ℕ) (added : List (List ℕ)) (block : List ℕ)
    → told ≡ old → end ≡ old_end → block ≡ group_block added
    → AddsUpToFault told new (block_ops end block) → AddsUpToFault old new (block_ops old_end (group_block added))
up_to_here old told new old_end end added block same_told same_end same_block adds =
    subst (λ (t : Option DeviceHistory). AddsUpToFault t new (block_ops old_end (group_block added))) same_told
    (subst (λ (e : ℕ). AddsUpToFault told new (block_ops e (group_block added))) same_end
    (subst (λ (l : List ℕ). AddsUpToFault told new (block_ops end l)) same_block adds))

pub crashes_at_fault : (old told new : Option DeviceHistory) (old_end end : ℕ) (added : List (List ℕ)) (block : List ℕ)
    → told ≡ old → end ≡ old_end → block ≡ group_block added
    → MayAppend old_end added → AddsUpToFault told new (block_ops end block) → Crashes old new old_end added
crashes_at_fault old told new old_end end added block same_told same_end same_block may adds =
    let here = up_to_here old told new old_end end added block same_told same_end same_block adds in
    crashes old new old_end added here.0 here.1.left may here.1.whole here.2

pub appended_at : (old told new : Option DeviceHistory) (old_end end n : ℕ) (added : List (List ℕ)) (piece : List ℕ)
    → told ≡ old → end ≡ old_end → piece ≡ group_block added → length piece ≡ n
    → MayAppend old_end added → AddsAll told new (block_ops end piece) → Appended old new old_end (end + n) added
appended_at old told new old_end end n added piece same_told same_end same_piece size may adds =
    let all =
    subst (λ (t : Option DeviceHistory). AddsAll t new (block_ops old_end (group_block added))) same_told
    (subst (λ (e : ℕ). AddsAll told new (block_ops e (group_block added))) same_end
    (subst (λ (l : List ℕ). AddsAll told new (block_ops end l)) same_piece adds)) in
    let ends : old_end + length (group_block added) ≡ end + n =
    ap (λ (e : ℕ). e + length (group_block added)) (sym same_end) ∙ ap (λ (m : ℕ). end + m) (sym (ap (λ (l : List ℕ). length l) same_piece) ∙ size) in
    subst (λ (e : ℕ). Appended old new old_end e added) ends (appended old new old_end added may all)

-- the mark stays
keeps_mark : (h : DeviceHistory) (end : ℕ) (items added : List (List ℕ)) → DeviceLog h end items
    → marked_format (content (record { first = h.first; ops = h.ops ++ block_ops end (group_block added) })) ≡ marked_format (content h)
keeps_mark h end items added log =
    let ops = block_ops end (group_block added) in
    let after : DeviceHistory = record { first = h.first; ops = h.ops ++ ops } in
    let there : disk after ≡ disk_after ops (settled (content h)) = disk_join h.ops ops (settled h.first) ∙ ap (λ (d : Disk). disk_after ops d) log.quiet in
    ap (λ (d : Disk). marked_format d.now) there ∙ mark_stays (content h) end items added log.log

format_again : (old new : Option DeviceHistory) (end format : ℕ) (added : List (List ℕ)) → AddsAll old new (block_ops end (group_block added))
    → IfSome old (λ h. (items : List (List ℕ)) × DeviceLog h end items) → HasFormat old format → format ≡ 2 → HasFormat new format
format_again None new end format added adds log has two = subst (λ (t : Option DeviceHistory). HasFormat t format) (sym adds) tt
format_again (Some h) new end format added adds log has two =
    let after : DeviceHistory = record { first = h.first; ops = h.ops ++ block_ops end (group_block added) } in
    let kept : format ≡ marked_format (content after) = has.0 ∙ sym (keeps_mark h end log.0 added log.1) in
    subst (λ (t : Option DeviceHistory). HasFormat t format) (sym adds) (kept, two ∙ sym (second (content after) (sym kept ∙ two)))

-- and the log is ready again
pub ready_at : (told new : Option DeviceHistory) (length_before length_after : Option ℕ) (may_end end n format : ℕ) (added : List (List ℕ)) (piece : List ℕ)
    → IsReadyDevice told length_before end format → format ≡ 2 → end ≡ may_end → piece ≡ group_block added → length piece ≡ n → MayAppend may_end added
    → AddsAll told new (block_ops end piece) → IsSome length_after → ForSome length_after (λ len. end + length piece < len)
    → IsReadyDevice new length_after (end + n) format
ready_at told new length_before length_after may_end end n format added piece ready two same_end same_piece size may adds known lies =
    let may_here = subst (λ (e : ℕ). MayAppend e added) (sym same_end) may in
    let all = subst (λ (l : List ℕ). AddsAll told new (block_ops end l)) same_piece adds in
    let ends : end + length (group_block added) ≡ end + n = ap (λ (m : ℕ). end + m) (sym (ap (λ (l : List ℕ). length l) same_piece) ∙ size) in
    record {
      log = subst (λ (e : ℕ). IfSome new (λ h. (items : List (List ℕ)) × DeviceLog h e items)) ends (log_again told new end added may_here all ready.log);
      formatted = format_again told new end format added all ready.log ready.formatted two;
      begun = omega (arith, ready.begun);
      known = known;
      within = λ len is. subst (λ (m : ℕ). end + m < len) size (lies len is);
    }

-- ---- the operations of an append

pub is_none : (items : List (List ℕ)) (empty : Bool) → empty ≡ (length items == 0) → empty ≡ true → [] ≡ items
is_none items empty is holds = sym (nil_from_length items (eqb-true (length items) 0 (sym is ∙ holds)))

pub is_some : (items : List (List ℕ)) (empty : Bool) → empty ≡ (length items == 0) → empty ≡ false → items ≢ []
is_some items empty is fails = λ none. eqb-false (length items) 0 (sym is ∙ fails) (ap (λ (l : List (List ℕ)). length l) none)

pub ends_there : (end : ℕ) (items : List (List ℕ)) → [] ≡ items → end ≡ end_behind end items
ends_there end items none = ap (λ (l : List (List ℕ)). end_behind end l) none

some_ops : (end : ℕ) (added : List (List ℕ)) → added ≢ [] → block_ops end (group_block added) ≡ append_ops end added
some_ops end [] some = absurd (some refl)
some_ops end (item ∷ items) some = refl

pub no_ops : (told : Option DeviceHistory) (end : ℕ) (added : List (List ℕ)) → [] ≡ added → AddsAll told told (append_ops end added)
no_ops told end added none = subst (λ (l : List (List ℕ)). AddsAll told told (append_ops end l)) none (adds_nothing told told refl)

pub ops_done : (old told new : Option DeviceHistory) (old_end end : ℕ) (added : List (List ℕ)) (block : List ℕ)
    → told ≡ old → end ≡ old_end → block ≡ group_block added → added ≢ []
    → AddsAll told new (block_ops end block) → AddsAll old new (append_ops old_end added)
ops_done old told new old_end end added block same_told same_end same_block some adds =
    subst (λ (ops : List DevOp). AddsAll old new ops) (some_ops old_end added some)
    (subst (λ (t : Option DeviceHistory). AddsAll t new (block_ops old_end (group_block added))) same_told
    (subst (λ (e : ℕ). AddsAll told new (block_ops e (group_block added))) same_end
    (subst (λ (l : List ℕ). AddsAll told new (block_ops end l)) same_block adds)))

pub ops_up_to_fault : (old told new : Option DeviceHistory) (old_end end : ℕ) (added : List (List ℕ)) (block : List ℕ)
    → told ≡ old → end ≡ old_end → block ≡ group_block added → added ≢ []
    → AddsUpToFault told new (block_ops end block) → AddsUpToFault old new (append_ops old_end added)
ops_up_to_fault old told new old_end end added block same_told same_end same_block some adds =
    subst (λ (ops : List DevOp). AddsUpToFault old new ops) (some_ops old_end added some)
    (up_to_here old told new old_end end added block same_told same_end same_block adds)

-- ---- where the gate stands behind it

block_size : (items : List (List ℕ)) → length (group_block items) ≡ 5 + length (items_bytes items)
block_size items =
    length-append (group_bytes items) (0 ∷ []) ∙ omega (arith, length-append (to_be_bytes w32 (length (items_bytes items))) (items_bytes items))

pub ends_at : (end old_end n : ℕ) (added : List (List ℕ)) (block : List ℕ) → end ≡ old_end → block ≡ group_block added → length block ≡ n → added ≢ []
    → end + n ≡ end_behind old_end added
ends_at end old_end n [] block same_end same_block size some = absurd (some refl)
ends_at end old_end n (item ∷ items) block same_end same_block size some =
    omega (arith, same_end, ap (λ (l : List ℕ). length l) same_block, size, block_size (item ∷ items))

-- ---- the laws of an append

pub append_gives : (h : DeviceHistory) (end : ℕ) (items added : List (List ℕ)) → MayAppend end added → DeviceLog h end items
    → DeviceLog (with_ops h (append_ops end added)) (end_behind end added) (items ++ added)
append_gives h end items [] may log =
    subst (λ (us : List (List ℕ)). DeviceLog (with_ops h []) end us) (sym (append-nil items))
    (subst (λ (ops : List DevOp). DeviceLog (record { first = h.first; ops = ops }) end items) (sym (append-nil h.ops)) log)
append_gives h end items (item ∷ more) may log =
    let ends : end + length (group_block (item ∷ more)) ≡ end_behind end (item ∷ more) = omega (arith, block_size (item ∷ more)) in
    subst (λ (e : ℕ). DeviceLog (with_ops h (append_ops end (item ∷ more))) e (items ++ item ∷ more)) ends (device_grown h end items (item ∷ more) may log)

pub append_keeps : (h : DeviceHistory) (end : ℕ) (items added : List (List ℕ)) → MayAppend end added → DeviceLog h end items
    → EachMoment (disk h) (append_ops end added) (λ image. IsLog image items ⊎ IsLog image (items ++ added))
append_keeps h end items [] may log =
    λ image left. inl (subst (λ (l : List ℕ). IsLog l items) (sym (image_is (content h) image (subst (λ (d : Disk). IsImage d image) log.quiet left)))
    (log_of (content h) end items log.log))
append_keeps h end items (item ∷ more) may log =
    subst (λ (d : Disk). EachMoment d (append_ops end (item ∷ more)) (IsEither items (item ∷ more))) (sym log.quiet)
    (log_moments (content h) end items (item ∷ more) log.log may)
