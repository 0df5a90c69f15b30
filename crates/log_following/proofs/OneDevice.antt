-- Devices that are read one after the other.
use Rattle.std.proofs.Common.{◌≡◌, ℕ, zero, suc, ◌+◌, ◌<◌, List, [], ◌∷◌, ◌++◌, length, get_or, set, refl, sym, ◌∙◌, ap, subst, arith, Option, length-append, below_more}
use Rattle.std.specs.List.{AllByRecursion}
use Rattle.snap_outside.specs.Disk.{DeviceHistory}
use Rattle.gate_log.specs.declared.logs.LogItem.{LogItem}
use Rattle.log_opening.specs.Devices.{Device, device_at, devices_of}
use Rattle.log_opening.specs.Found.{ArePlaced}
use Rattle.log_opening.specs.Upgrades.{items_at}
use Rattle.log_opening.specs.declared.refusals.LogsNo.{LogsNo}
use Rattle.log_following.specs.Readings.{AreAllRead, AreUntouched, IsToldOfLog, IsNoItems, IsReadOn, IsLeftAsItWas, no_log}
use Rattle.log_following.proofs.RoundsMade.{all_more}
use Rattle.log_following.proofs.Since.{never_touched, read_on_since, unread_since, untouched_since}

-- ---- one of the devices

abbrev pub device_of : {D : Type 0} → (D → Option DeviceHistory) → (D → ℕ) → D → Device
device_of told faults d = record { told = told d; faults = faults d }

pub device_there : {D : Type 0} (told : D → Option DeviceHistory) (faults : D → ℕ) (xs : List D) (n : ℕ) (x : D) → n < length xs → x ≡ get_or xs n x
    → device_of told faults x ≡ device_at (devices_of told faults xs) n
device_there told faults [] n x lt is = absurd (omega (arith, lt))
device_there told faults (y ∷ xs) zero x lt is = ap (device_of told faults) is
device_there told faults (y ∷ xs) (suc n) x lt is = device_there told faults xs n x (omega (arith, lt)) is

pub device_put : {D : Type 0} (told : D → Option DeviceHistory) (faults : D → ℕ) (xs : List D) (n : ℕ) (x : D) → n < length xs
    → device_of told faults x ≡ device_at (devices_of told faults (set xs n x)) n
device_put told faults [] n x lt = absurd (omega (arith, lt))
device_put told faults (y ∷ xs) zero x lt = refl
device_put told faults (y ∷ xs) (suc n) x lt = device_put told faults xs n x (omega (arith, lt))

as_many : {D : Type 0} (told : D → Option DeviceHistory) (faults : D → ℕ) (xs : List D) (n : ℕ) (x : D) → length (devices_of told faults (set xs n x)) ≡ length (devices_of told faults xs)
as_many told faults [] n x = refl
as_many told faults (y ∷ xs) zero x = refl
as_many told faults (y ∷ xs) (suc n) x = ap (λ (k : ℕ). suc k) (as_many told faults xs n x)

same_device : (d : Device) → IsLeftAsItWas d d
same_device d = record { told = refl; later = omega arith }

each_same : {D : Type 0} (told : D → Option DeviceHistory) (faults : D → ℕ) (xs : List D) (n : ℕ) (x : D) → IsLeftAsItWas (device_at (devices_of told faults xs) n) (device_of told faults x)
    → (d : ℕ) → IsLeftAsItWas (device_at (devices_of told faults xs) d) (device_at (devices_of told faults (set xs n x)) d)
each_same told faults [] n x same d = same_device (device_at [] d)
each_same told faults (y ∷ xs) zero x same zero = same
each_same told faults (y ∷ xs) zero x same (suc d) = same_device (device_at (devices_of told faults xs) d)
each_same told faults (y ∷ xs) (suc n) x same zero = same_device (device_of told faults y)
each_same told faults (y ∷ xs) (suc n) x same (suc d) = each_same told faults xs n x same d

-- a call of one device that leaves it as it was leaves all so
pub all_same : {D : Type 0} (told : D → Option DeviceHistory) (faults : D → ℕ) (xs : List D) (n : ℕ) (x : D) → IsLeftAsItWas (device_at (devices_of told faults xs) n) (device_of told faults x)
    → AreUntouched (devices_of told faults xs) (devices_of told faults (set xs n x))
all_same told faults xs n x same = record { many = as_many told faults xs n x; each = each_same told faults xs n x same }

-- ---- the first of them, so many

-- The logs on so many devices are read, and no device is touched.
pub record AreReadBelow (before now : List Device) (n : ℕ) (found : List (List LogItem)) : Type 0 where
  pub many : length found ≡ n
  pub read : (d : ℕ) → d < n → IsReadOn (device_at before d) (items_at found d)
  pub placed : AllByRecursion ArePlaced found
  pub untouched : AreUntouched before now

pub none_read : (before : List Device) (found : List (List LogItem)) → found ≡ [] → AreReadBelow before before 0 found
none_read before found none = record {
  many = ap (λ (l : List (List LogItem)). length l) none;
  read = λ d lt. absurd (omega (arith, lt));
  placed = subst (λ (l : List (List LogItem)). AllByRecursion ArePlaced l) (sym none) tt;
  untouched = never_touched before;
}

kept_at : (found : List (List LogItem)) (items : List LogItem) (d : ℕ) → d < length found → items_at (found ++ items ∷ []) d ≡ items_at found d
kept_at [] items d lt = absurd (omega (arith, lt))
kept_at (f ∷ found) items zero lt = refl
kept_at (f ∷ found) items (suc d) lt = kept_at found items d (omega (arith, lt))

last_at : (found : List (List LogItem)) (items : List LogItem) → items_at (found ++ items ∷ []) (length found) ≡ items
last_at [] items = refl
last_at (f ∷ found) items = last_at found items

pub read_more : (before now after : List Device) (n : ℕ) (found more : List (List LogItem)) (items : List LogItem) → AreReadBelow before now n found → more ≡ found ++ items ∷ []
    → AreUntouched now after → IsReadOn (device_at now n) items → ArePlaced items → AreReadBelow before after (n + 1) more
read_more before now after n found more items so_far put same read placed = record {
  many = ap (λ (l : List (List LogItem)). length l) put ∙ length-append found (items ∷ []) ∙ ap (λ (k : ℕ). k + 1) so_far.many;
  read = below_more (λ (d : ℕ). IsReadOn (device_at before d) (items_at more d)) n
      (λ d lt. subst (λ (is : List LogItem). IsReadOn (device_at before d) is) (sym (ap (λ (l : List (List LogItem)). items_at l d) put ∙ kept_at found items d (omega (arith, lt, so_far.many)))) (so_far.read d lt))
      (subst (λ (is : List LogItem). IsReadOn (device_at before n) is) (sym last) (read_on_since (device_at before n) (device_at now n) items (so_far.untouched.each n) read));
  placed = subst (λ (l : List (List LogItem)). AllByRecursion ArePlaced l) (sym put) (all_more ArePlaced found items so_far.placed placed);
  untouched = untouched_since before now after so_far.untouched same;
} where
  last : items_at more n ≡ items
  last = ap (λ (l : List (List LogItem)). items_at l n) put ∙ ap (λ (k : ℕ). items_at (found ++ items ∷ []) k) (sym so_far.many) ∙ last_at found items

pub all_read : (before now : List Device) (n : ℕ) (found : List (List LogItem)) → AreReadBelow before now n found → n ≡ 4 → AreAllRead before found
all_read before now n found so_far four = record { many = so_far.many ∙ four; each = λ d lt. so_far.read d (omega (arith, lt, four)) }

pub not_read_here : (before now after : List Device) (n : ℕ) (found : List (List LogItem)) (no : LogsNo) → AreReadBelow before now n found → n < 4
    → IsToldOfLog n (device_at now n) (device_at after n) no → IsNoItems before after no
not_read_here before now after n found answer so_far lt named = subst (λ (a : LogsNo). IsNoItems before after a) (sym named.2) (no_log n named.0 (record {
  there = lt;
  unread = unread_since (device_at before n) (device_at now n) (device_at after n) named.0 (so_far.untouched.each n) named.1;
  below = λ d less. (items_at found d, so_far.read d less);
}))
