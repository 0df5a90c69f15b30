-- What a device holds once its log is opened.
use Rattle.std.proofs.Common.{◌≡◌, Bool, ℕ, ◌+◌, ◌^◌, ◌<◌, ◌≤◌, List, [], ◌∷◌, ◌++◌, length, take, drop, Option, Some, None, Result, Ok, Err, refl, sym, ap, subst, ◌∙◌, inr, append_assoc, arith}
use Rattle.std.specs.Prelude.{if◌then◌else◌, MatchResult, IfOk, OnOk, IfSome, IsSome}
use Rattle.std.specs.Option.{ForSome}
use Rattle.std.proofs.lemmas.Bool.{lt-leb}
use Rattle.std.proofs.lemmas.List.{append-nil, nil_from_length, length-append, length-take, drop_all, map-append}
use Rattle.snap_outside.specs.declared.devices.DevOp.{DevOp}
use Rattle.snap_outside.specs.declared.devices.DevOp.TheVariants.{Write, Sync}
use Rattle.snap_outside.specs.Disk.{DeviceHistory, Disk, disk, content, settled, overwritten, AddsOperation, MayAdd, AddsAll}
use Rattle.snap_outside.specs.Moments.{disk_join}
use Rattle.gate_log.specs.declared.logs.LogItem.{LogItem}
use Rattle.gate_log.specs.declared.limits.TheConstants.{NEW_LOG_SIZE}
use Rattle.gate_log.specs.Bytes.{header, marked_format, format_in, items_bytes, blocks, items_of, placed_items, placed_groups, IsLogAt, IsPlacedLogAt}
use Rattle.gate_log.specs.Device.{DeviceLog, HasFormat, IsReadyDevice}
use Rattle.gate_log.specs.Opened.{bytes_of, new_log}

-- ---- what the calls add

-- a write, and then a sync that may fail
pub write_then_sync : {T E : Type 0} (write : DevOp) (t0 t1 t2 : Option DeviceHistory) (r : Result T E) → AddsOperation t0 t1 write → MatchResult r (λ _. AddsOperation t1 t2 Sync) (λ _. t2 ≡ t1)
    → MatchResult r (λ _. AddsAll t0 t2 (write ∷ Sync ∷ [])) (λ _. MayAdd t0 t2 write)
write_then_sync write None t1 t2 (Ok x) first second = subst (λ (t : Option DeviceHistory). AddsOperation t t2 Sync) first second
write_then_sync write None t1 t2 (Err x) first second = second ∙ first
write_then_sync write (Some h) t1 t2 (Ok x) first second =
    subst (λ (t : Option DeviceHistory). AddsOperation t t2 Sync) first second ∙ ap (λ (ops : List DevOp). Some (record { first = h.first; ops = ops })) (append_assoc h.ops (write ∷ []) (Sync ∷ []))
write_then_sync write (Some h) t1 t2 (Err x) first second = inr (second ∙ first)

-- ---- the log on the device

pub settled_log : (h : DeviceHistory) (bytes : List ℕ) (end : ℕ) (items : List (List ℕ)) → disk h ≡ settled bytes → IsLogAt bytes end items → DeviceLog h end items
settled_log h bytes end items e l = record {
  log = subst (λ (x : List ℕ). IsLogAt x end items) (sym (ap (λ (d : Disk). d.now) e)) l;
  quiet = e ∙ ap (λ (d : Disk). settled d.now) (sym e);
}

-- a piece that is written over all there is
pub written_over : (old piece : List ℕ) → length old ≤ length piece → overwritten old 0 piece ≡ piece
written_over old piece le =
    let front : take 0 old ≡ [] = nil_from_length (take 0 old) (omega (arith, length-take 0 old)) in
    let behind : drop (0 + length piece) old ≡ [] = drop_all (0 + length piece) old (omega arith) in
    ap (λ (x : List ℕ). x ++ (piece ++ drop (0 + length piece) old)) front ∙ ap (λ (x : List ℕ). piece ++ x) behind ∙ append-nil piece

pub disk_written_over : (h : DeviceHistory) (piece : List ℕ) → length (content h) ≤ length piece
    → disk (record { first = h.first; ops = h.ops ++ Write 0 piece ∷ Sync ∷ [] }) ≡ settled piece
disk_written_over h piece le = disk_join h.ops (Write 0 piece ∷ Sync ∷ []) (settled h.first) ∙ ap settled (written_over (content h) piece le)

pub new_is_placed : IsPlacedLogAt new_log 8 []
new_is_placed = record { mark = 50; parts = ([], 0, [], tt, (λ e. omega arith), refl, refl, refl) }

pub new_is_log : IsLogAt new_log 8 []
new_is_log = record { mark = 50; parts = ([], 0, [], tt, (λ e. omega arith), refl, refl, refl) }

-- a log made on a device whose length, at most nine, is that of its content
pub made_log : (old new : Option DeviceHistory) (old_length : Option ℕ) (len : ℕ) → ((h : DeviceHistory) (n : ℕ) → old ≡ Some h → old_length ≡ Some n → n ≡ length (content h)) → old_length ≡ Some len → len ≤ 9
    → AddsAll old new (Write 0 new_log ∷ Sync ∷ []) → IfSome new (λ g. DeviceLog g 8 [])
made_log None new old_length len same e short adds = subst (λ (t : Option DeviceHistory). IfSome t (λ g. DeviceLog g 8 [])) (sym adds) tt
made_log (Some h) new old_length len same e short adds =
    let le : length (content h) ≤ 9 = omega (arith, same h len refl e) in
    subst (λ (t : Option DeviceHistory). IfSome t (λ g. DeviceLog g 8 [])) (sym adds) (settled_log _ new_log 8 [] (disk_written_over h new_log le) new_is_log)

bytes_of-placed_items : (place : ℕ) (items : List (List ℕ)) → bytes_of (placed_items place items) ≡ items
bytes_of-placed_items place [] = refl
bytes_of-placed_items place (i ∷ is) = ap (λ (xs : List (List ℕ)). i ∷ xs) (bytes_of-placed_items (place + 2 + length i) is)

bytes_of-placed : (place : ℕ) (groups : List (List (List ℕ))) → bytes_of (placed_groups place groups) ≡ items_of groups
bytes_of-placed place [] = refl
bytes_of-placed place (g ∷ gs) =
    let first : List LogItem = placed_items (place + 5) g in
    let others : List LogItem = placed_groups (place + 5 + length (items_bytes g)) gs in
    map-append (λ (i : LogItem). i.bytes) first others ∙ ap (λ (xs : List (List ℕ)). xs ++ bytes_of others) (bytes_of-placed_items (place + 5) g)
    ∙ ap (λ (xs : List (List ℕ)). g ++ xs) (bytes_of-placed (place + 5 + length (items_bytes g)) gs)

pub placed_log : (bytes : List ℕ) (end : ℕ) (found : List LogItem) → IsPlacedLogAt bytes end found → IsLogAt bytes end (bytes_of found)
placed_log bytes end found p =
    let s = p.parts in
    record { mark = p.mark; parts = (s.0, s.1, s.2, s.3, s.4, s.5, s.6, ap bytes_of s.7 ∙ bytes_of-placed 8 s.0) }

pub synced_log : (h : DeviceHistory) (end : ℕ) (found : List LogItem) → IsPlacedLogAt (content h) end found → DeviceLog (record { first = h.first; ops = h.ops ++ Sync ∷ [] }) end (bytes_of found)
synced_log h end found p = settled_log _ (content h) end (bytes_of found) (disk_join h.ops (Sync ∷ []) (settled h.first)) (placed_log (content h) end found p)

found_on : (old new : Option DeviceHistory) (end : ℕ) (found : List LogItem) → IfSome old (λ h. IsPlacedLogAt (content h) end found) → AddsAll old new (Sync ∷ []) → IfSome new (λ g. DeviceLog g end (bytes_of found))
found_on None new end found p adds = subst (λ (t : Option DeviceHistory). IfSome t (λ g. DeviceLog g end (bytes_of found))) (sym adds) tt
found_on (Some h) new end found p adds = subst (λ (t : Option DeviceHistory). IfSome t (λ g. DeviceLog g end (bytes_of found))) (sym adds) (synced_log h end found p)

-- a log found on a longer device
pub found_log : {E : Type 0} (old new : Option DeviceHistory) (r : Result (ℕ × List LogItem × ℕ) E) → IfOk r (λ log. IfSome old (λ h. IsPlacedLogAt (content h) log.0 log.1)) → OnOk r (AddsAll old new (Sync ∷ []))
    → IfOk r (λ log. IfSome new (λ g. DeviceLog g log.0 (bytes_of log.1)))
found_log old new (Ok log) p adds = found_on old new log.0 log.1 p adds
found_log old new (Err e) p adds = tt

-- ---- the format

-- where a log is longer than a new one, its format is the one that is marked
pub long_format : (bytes : List ℕ) (format : ℕ) → NEW_LOG_SIZE < length bytes → format ≡ marked_format bytes → (format ≡ marked_format bytes) × (format ≡ format_in bytes)
long_format bytes format long is = (is, is ∙ sym (ap (λ (b : Bool). if b then 2 else marked_format bytes) (lt-leb (length bytes) NEW_LOG_SIZE long)))

pub made_format : (old new : Option DeviceHistory) (old_length : Option ℕ) (len : ℕ) → ((h : DeviceHistory) (n : ℕ) → old ≡ Some h → old_length ≡ Some n → n ≡ length (content h)) → old_length ≡ Some len → len ≤ 9
    → AddsAll old new (Write 0 new_log ∷ Sync ∷ []) → HasFormat new 2
made_format None new old_length len same e short adds = subst (λ (t : Option DeviceHistory). HasFormat t 2) (sym adds) tt
made_format (Some h) new old_length len same e short adds =
    let le : length (content h) ≤ 9 = omega (arith, same h len refl e) in
    let made : new_log ≡ content (record { first = h.first; ops = h.ops ++ Write 0 new_log ∷ Sync ∷ [] }) = sym (ap (λ (d : Disk). d.now) (disk_written_over h new_log le)) in
    subst (λ (t : Option DeviceHistory). HasFormat t 2) (sym adds) (ap marked_format made, ap format_in made)

synced_format : (old new : Option DeviceHistory) (format : ℕ) → HasFormat old format → AddsAll old new (Sync ∷ []) → HasFormat new format
synced_format None new format has adds = subst (λ (t : Option DeviceHistory). HasFormat t format) (sym adds) tt
synced_format (Some h) new format has adds =
    let same : content h ≡ content (record { first = h.first; ops = h.ops ++ Sync ∷ [] }) = sym (ap (λ (d : Disk). d.now) (disk_join h.ops (Sync ∷ []) (settled h.first))) in
    subst (λ (t : Option DeviceHistory). HasFormat t format) (sym adds) (has.0 ∙ ap marked_format same, has.1 ∙ ap format_in same)

-- ---- what appending needs

pub is_ready : (told : Option DeviceHistory) (told_length : Option ℕ) (end format : ℕ) (items : List (List ℕ)) → IfSome told (λ h. DeviceLog h end items) → HasFormat told format → 8 ≤ end
    → IsSome told_length → ForSome told_length (λ len. end < len) → IsReadyDevice told told_length end format
is_ready None told_length end format items log formatted begun known within = record { log = tt; formatted = tt; begun = begun; known = known; within = within }
is_ready (Some h) told_length end format items log formatted begun known within = record { log = (items, log); formatted = formatted; begun = begun; known = known; within = within }

ready_at : (told : Option DeviceHistory) (told_length : Option ℕ) (len end format : ℕ) (items : List (List ℕ)) → IfSome told (λ h. DeviceLog h end items) → HasFormat told format → 8 ≤ end
    → told_length ≡ Some len → end < len → IsReadyDevice told told_length end format
ready_at told told_length len end format items log formatted begun e lt =
    is_ready told told_length end format items log formatted begun (subst (λ (o : Option ℕ). IsSome o) (sym e) refl)
    (λ n f. let same : len ≡ n = cc in subst (λ (m : ℕ). end < m) same lt)

-- no closed gate stands in the header
begun_at : (bytes : List ℕ) (end : ℕ) (found : List LogItem) → IsPlacedLogAt bytes end found → 8 ≤ end
begun_at bytes end found p = omega (arith, p.parts.6, length-append (header p.mark) (blocks p.parts.0))

pub found_ready : {E : Type 0} (old told : Option DeviceHistory) (told_length : Option ℕ) (len : ℕ) (r : Result (ℕ × List LogItem × ℕ) E) → IfOk r (λ log. IfSome told (λ g. DeviceLog g log.0 (bytes_of log.1)))
    → IfOk r (λ log. HasFormat old log.2) → IfOk r (λ log. (bytes : List ℕ) × IsPlacedLogAt bytes log.0 log.1) → OnOk r (AddsAll old told (Sync ∷ []))
    → told_length ≡ Some len → IfOk r (λ log. (log.0 < len) × (log.0 < 2 ^ 63)) → IfOk r (λ log. IsReadyDevice told told_length log.0 log.2)
found_ready old told told_length len (Ok log) d formatted placed adds e within =
    ready_at told told_length len log.0 log.2 (bytes_of log.1) d (synced_format old told log.2 formatted adds) (begun_at placed.0 log.0 log.1 placed.1) e within.0
found_ready old told told_length len (Err e) d formatted placed adds f within = tt
