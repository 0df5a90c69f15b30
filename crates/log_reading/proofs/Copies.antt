-- The bytes of a device as they are read, and the log that a copy of them is.
use Rattle.std.proofs.Common.{◌≡◌, ℕ, ◌+◌, ◌-◌, ◌<◌, ◌≤◌, min, List, [], length, get_or, set, take, drop, refl, sym, ap, subst, ◌∙◌, arith, Option, Some, None, Result, Ok, Err}
use Rattle.std.specs.Prelude.{IfOk, IfErr, IfSome, MatchResult}
use Rattle.std.proofs.lemmas.List.{get_or-take, get_or-drop, set-get_or}
use Rattle.snap_outside.specs.declared.devices.DevOp.{DevOp}
use Rattle.snap_outside.specs.Disk.{DeviceHistory, disk_after, content, settled}
use Rattle.gate_log.specs.declared.limits.TheConstants.{FARTHEST_END}
use Rattle.gate_log.specs.declared.logs.LogItem.{LogItem}
use Rattle.gate_log.specs.declared.opens.OpenNo.{OpenNo}
use Rattle.gate_log.specs.declared.opens.OpenNo.TheVariants.{NotALog, Damage, Device, Memory}
use Rattle.gate_log.specs.Bytes.{DiffersAt, IsDamagedAt, IsPlacedLogAt}
use Rattle.gate_log.specs.Opened.{OpenedOn, Refused}
use Rattle.gate_log.specs.Reading.{IsNoLog}
use Rattle.log_reading.specs.Read.{IsReadFrom, of_copy}

-- ---- the bytes

-- a byte that was read by itself
byte_is : (xs buf : List ℕ) (len at n : ℕ) → length xs ≡ len → at < len → n ≡ min 1 (len - at) → take n buf ≡ take n (drop at xs) → get_or buf 0 0 ≡ get_or xs at 0
byte_is xs buf len at n long within one same =
    let single : n ≡ 1 = omega (arith, one, within) in
    let here : at + 0 ≡ at = omega arith in
    sym (get_or-take n buf 0 0 (omega (arith, single))) ∙ ap (λ (l : List ℕ). get_or l 0 0) same ∙ get_or-take n (drop at xs) 0 0 (omega (arith, single)) ∙ get_or-drop at xs 0 0
    ∙ ap (λ (k : ℕ). get_or xs k 0) here

-- what holds of the value that is there holds of the one that it is
pub some_is : {X : Type 0} (o : Option X) (x : X) (P : X → Type 0) → o ≡ Some x → IfSome o P → P x
some_is {X = X} o x P is holds = let have : IfSome (Some x) P = subst (λ (v : Option X). IfSome v P) is holds in have

pub byte_read : (told : Option DeviceHistory) (told_length : Option ℕ) (buf : List ℕ) (len at n : ℕ) → ((h : DeviceHistory) (k : ℕ) → told ≡ Some h → told_length ≡ Some k → k ≡ length (content h))
    → told_length ≡ Some len → at < len → n ≡ min 1 (len - at) → IfSome told (λ h. take n buf ≡ take n (drop at (content h))) → IfSome told (λ h. get_or buf 0 0 ≡ get_or (content h) at 0)
byte_read None told_length buf len at n kept e within one same = tt
byte_read (Some h) told_length buf len at n kept e within one same = byte_is (content h) buf len at n (sym (kept h len refl e)) within one same

-- all bytes, with the last one read by itself
pub last_put : (told : Option DeviceHistory) (bytes all : List ℕ) (last len : ℕ) → IfSome told (λ h. bytes ≡ content h) → length bytes ≡ len → IfSome told (λ h. last ≡ get_or (content h) (len - 1) 0)
    → all ≡ set bytes (length bytes - 1) last → IfSome told (λ h. all ≡ content h)
last_put None bytes all last len same long is put = tt
last_put (Some h) bytes all last len same long is put =
    let at : length bytes - 1 ≡ len - 1 = omega (arith, long) in
    put ∙ ap (λ (k : ℕ). set bytes k last) at ∙ ap (λ (x : ℕ). set bytes (len - 1) x) is ∙ ap (λ (l : List ℕ). set l (len - 1) (get_or (content h) (len - 1) 0)) same ∙ set-get_or (content h) (len - 1) 0

-- ---- what is found

-- a device that is no longer than a new log has no item
pub short_read : (told : Option DeviceHistory) (told_length : Option ℕ) (len : ℕ) → ((h : DeviceHistory) (k : ℕ) → told ≡ Some h → told_length ≡ Some k → k ≡ length (content h))
    → told_length ≡ Some len → len ≤ 9 → IfSome told (λ h. IsReadFrom (content h) [])
short_read None told_length len kept e few = tt
short_read (Some h) told_length len kept e few = record {
  short = λ _. refl;
  long = λ long. let more : 9 < length (content h) = long in absurd (omega (arith, more, kept h len refl e, few));
}

long_read : (bytes : List ℕ) (items : List LogItem) → 9 < length bytes → (end : ℕ) × IsPlacedLogAt bytes end items × (end ≤ FARTHEST_END) → IsReadFrom bytes items
long_read bytes items long found = record {
  short = λ short. let few : length bytes ≤ 9 = short in absurd (omega (arith, few, long));
  long = λ _. (found.0, found.1);
}

pub found_read : {V : Type 0} (items : V → List LogItem) (told : Option DeviceHistory) (bytes : List ℕ) (r : Result V OpenNo) → 9 < length bytes → IfSome told (λ h. bytes ≡ content h)
    → MatchResult r (λ v. (end : ℕ) × IsPlacedLogAt bytes end (items v) × (end ≤ FARTHEST_END)) (IsNoLog bytes) → IfOk r (λ v. IfSome told (λ h. IsReadFrom (content h) (items v)))
found_read items None bytes (Ok v) long same found = tt
found_read items (Some h) bytes (Ok v) long same found = subst (λ (b : List ℕ). IsReadFrom b (items v)) same (long_read bytes (items v) long found)
found_read items told bytes (Err why) long same found = tt

pub found_placed : {V : Type 0} (items : V → List LogItem) (bytes : List ℕ) (r : Result V OpenNo)
    → MatchResult r (λ v. (end : ℕ) × IsPlacedLogAt bytes end (items v) × (end ≤ FARTHEST_END)) (IsNoLog bytes)
    → IfOk r (λ v. (all : List ℕ) × (end : ℕ) × IsPlacedLogAt all end (items v) × (end ≤ FARTHEST_END))
found_placed items bytes (Ok v) found = (bytes, found.0, found.1, found.2)
found_placed items bytes (Err why) found = tt

no_log_refused : (told : Option DeviceHistory) (bytes : List ℕ) (no : OpenNo) → 9 < length bytes → IfSome told (λ h. bytes ≡ content h) → IsNoLog bytes no → Refused told told no
no_log_refused None bytes (NotALog offset) long same is = (refl, tt)
no_log_refused None bytes (Damage offset) long same is = (refl, tt)
no_log_refused (Some h) bytes (NotALog offset) long same is =
    (refl, (subst (λ (b : List ℕ). 9 < length b) same long, subst (λ (b : List ℕ). DiffersAt b offset) same is))
no_log_refused (Some h) bytes (Damage offset) long same is =
    (refl, (subst (λ (b : List ℕ). 9 < length b) same long, subst (λ (b : List ℕ). IsDamagedAt b offset) same is))
no_log_refused told bytes Device long same is = absurd is
no_log_refused told bytes Memory long same is = refl

pub not_read : {V : Type 0} (P : V → Type 0) (old new : Option DeviceHistory) (bytes : List ℕ) (r : Result V OpenNo) → new ≡ old → 9 < length bytes → IfSome old (λ h. bytes ≡ content h)
    → MatchResult r P (IsNoLog bytes) → IfErr r (Refused old new)
not_read P old new bytes (Ok v) kept long same is = tt
not_read P old new bytes (Err why) kept long same is = subst (λ (t : Option DeviceHistory). Refused old t why) (sym kept) (no_log_refused old bytes why long same is)

-- ---- the copy in memory

same_content : (bytes : List ℕ) (h : DeviceHistory) → h.first ≡ bytes → h.ops ≡ [] → content h ≡ bytes
same_content bytes h first ops = ap (λ (o : List DevOp). (disk_after o (settled h.first)).now) ops ∙ first

pub opened_copy : (bytes : List ℕ) (h : DeviceHistory) (new : Option DeviceHistory) (end : ℕ) (found : List LogItem) → h.first ≡ bytes → h.ops ≡ [] → 9 < length bytes
    → OpenedOn h new end found → IsPlacedLogAt bytes end found
opened_copy bytes h new end found first ops long opened =
    let same : content h ≡ bytes = same_content bytes h first ops in
    subst (λ (b : List ℕ). IsPlacedLogAt b end found) same (opened.read (subst (λ (b : List ℕ). 9 < length b) (sym same) long)).0

pub refused_copy : (bytes : List ℕ) (h : DeviceHistory) (new : Option DeviceHistory) (no : OpenNo) → h.first ≡ bytes → h.ops ≡ [] → Refused (Some h) new no → IsNoLog bytes (of_copy no)
refused_copy bytes h new (NotALog offset) first ops why = subst (λ (b : List ℕ). DiffersAt b offset) (same_content bytes h first ops) why.1.1
refused_copy bytes h new (Damage offset) first ops why = subst (λ (b : List ℕ). IsDamagedAt b offset) (same_content bytes h first ops) why.1.1
refused_copy bytes h new Device first ops why = tt
refused_copy bytes h new Memory first ops why = tt
