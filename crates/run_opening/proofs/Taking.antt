-- The logs in use, taken out of the four.
use Rattle.std.proofs.Common.{◌≡◌, ℕ, zero, suc, ◌+◌, ◌-◌, ◌<◌, ◌≤◌, List, [], ◌∷◌, ◌++◌, length, get_or, map, take, drop, refl, sym, ◌∙◌, ap, subst, arith, Option}
use Rattle.std.specs.List.{remove}
use Rattle.std.proofs.lemmas.List.{drop-drop, drop_at, get_or-drop, length-drop, length-map, length-take-le, map-append, take-append-drop, take_at, take_more}
use Rattle.std.proofs.lemmas.List.Edits.{remove-append_right}
use Rattle.snap_base.specs.declared.transactions.State.{State}
use Rattle.snap_outside.specs.Disk.{DeviceHistory}
use Rattle.gate_log.specs.State.{LogState}
use Rattle.snap_recover.specs.declared.openings.Opening.{Opening}
use Rattle.log_opening.specs.Devices.{Device, as_device, devices_of, devices_now, devices_with}
use Rattle.log_opening.proofs.Places.{now_all}
use Rattle.run_opening.specs.Writes.{HasOpenedRun, logs_in_use}

at_behind : {A : Type 0} (p q : List A) (h : ℕ) (d : A) → length p ≡ h → get_or (p ++ q) h d ≡ get_or q 0 d
at_behind [] q zero d long = refl
at_behind [] q (suc h) d long = absurd (omega (arith, long))
at_behind (x ∷ p) q zero d long = absurd (omega (arith, long))
at_behind (x ∷ p) q (suc h) d long = at_behind p q h d (omega (arith, long))

-- one more is taken from the list
module _ {A : Type 0} (xs left : List A) (h n : ℕ) (lt : h + n < length xs) (is : left ≡ take h xs ++ drop (h + n) xs) where
  front_long : length (take h xs) ≡ h
  front_long = length-take-le h xs (omega (arith, lt))

  value_at : (v : A) → v ≡ get_or left h v → v ≡ get_or (drop h xs) n v
  value_at v there =
      let here : h + n + 0 ≡ h + n = omega arith in
      there ∙ ap (λ (l : List A). get_or l h v) is ∙ at_behind (take h xs) (drop (h + n) xs) h v front_long ∙ get_or-drop (h + n) xs 0 v
      ∙ ap (λ (i : ℕ). get_or xs i v) here ∙ sym (get_or-drop h xs n v)

  pub taken_more : (used : List A) (v : A) → used ≡ take n (drop h xs) → v ≡ get_or left h v → used ++ v ∷ [] ≡ take (n + 1) (drop h xs)
  taken_more used v before there =
      let size = length-drop h xs in
      ap (λ (l : List A). l ++ v ∷ []) before ∙ ap (λ (x : A). take n (drop h xs) ++ x ∷ []) (value_at v there) ∙ sym (take_more (drop h xs) n v (omega (arith, size, lt)))

  pub left_fewer : remove left h ≡ take h xs ++ drop (h + (n + 1)) xs
  left_fewer =
      let none : h - h ≡ 0 = omega arith in
      let next : h + n + 1 ≡ h + (n + 1) = omega arith in
      ap (λ (l : List A). remove l h) is ∙ remove-append_right (take h xs) (drop (h + n) xs) h h front_long (omega arith)
      ∙ ap (λ (i : ℕ). take h xs ++ remove (drop (h + n) xs) i) none ∙ ap (λ (l : List A). take h xs ++ l) (drop-drop 1 (h + n) xs) ∙ ap (λ (i : ℕ). take h xs ++ drop i xs) next

-- nothing is taken yet
pub none_taken : {A : Type 0} (xs : List A) (h : ℕ) → xs ≡ take h xs ++ drop (h + 0) xs
none_taken xs h = let here : h ≡ h + 0 = omega arith in sym (take-append-drop h xs) ∙ ap (λ (i : ℕ). take h xs ++ drop i xs) here

-- the devices of the others came back
pub others_back : {D : Type 0} (told : D → Option DeviceHistory) (faults : D → ℕ) (logs rest : List LogState) (ds zs : List D) → length ds ≡ 0 → logs ≡ rest
    → devices_of told faults zs ≡ devices_with told faults 0 logs ds → devices_of told faults zs ≡ map as_device rest
others_back told faults logs rest ds zs none is back = back ∙ now_all told faults logs ds none ∙ ap (λ (l : List LogState). map as_device l) is

-- all four devices, where those of the logs in use are open and the others are not
module _ {D : Type 0} (told : D → Option DeviceHistory) (faults : D → ℕ) (head count : ℕ) (logs : List LogState) (within : head + count ≤ length logs) (zs : List D) (back : devices_of told faults zs ≡ map as_device (take head logs ++ drop (head + count) logs)) where
  whole_again : take head logs ++ (logs_in_use head count logs ++ drop (head + count) logs) ≡ logs
  whole_again =
      ap (λ (l : List LogState). take head logs ++ (take count (drop head logs) ++ l)) (sym (drop-drop count head logs))
      ∙ ap (λ (l : List LogState). take head logs ++ l) (take-append-drop count (drop head logs)) ∙ take-append-drop head logs

  parts : devices_of told faults zs ≡ map as_device (take head logs) ++ map as_device (drop (head + count) logs)
  parts = back ∙ map-append as_device (take head logs) (drop (head + count) logs)

  front_size : length (map as_device (take head logs)) ≡ head
  front_size = length-map (take head logs) as_device ∙ length-take-le head logs (omega (arith, within))

  front_is : take head (devices_of told faults zs) ≡ map as_device (take head logs)
  front_is = ap (λ (l : List _). take head l) parts ∙ take_at (map as_device (take head logs)) (map as_device (drop (head + count) logs)) head front_size

  behind_is : drop head (devices_of told faults zs) ≡ map as_device (drop (head + count) logs)
  behind_is = ap (λ (l : List _). drop head l) parts ∙ drop_at (map as_device (take head logs)) (map as_device (drop (head + count) logs)) head front_size

  pub with_taken : devices_with told faults head (logs_in_use head count logs) zs ≡ map as_device logs
  with_taken =
      ap (λ (l : List _). l ++ (map as_device (logs_in_use head count logs) ++ drop head (devices_of told faults zs))) front_is
      ∙ ap (λ (l : List _). map as_device (take head logs) ++ (map as_device (logs_in_use head count logs) ++ l)) behind_is
      ∙ ap (λ (l : List _). map as_device (take head logs) ++ l) (sym (map-append as_device (logs_in_use head count logs) (drop (head + count) logs)))
      ∙ sym (map-append as_device (take head logs) (logs_in_use head count logs ++ drop (head + count) logs))
      ∙ ap (λ (l : List LogState). map as_device l) whole_again

-- a run that has begun, with its logs taken out
pub run_taken : {D : Type 0} (told : D → Option DeviceHistory) (faults : D → ℕ) (count head : ℕ) (states : List State) (o : Opening) (old logs used : List LogState) (xs ds zs : List D) → old ≡ [] → length ds ≡ 0 → head + count ≤ length logs
    → devices_of told faults zs ≡ map as_device (take head logs ++ drop (head + count) logs) → used ≡ logs_in_use head count logs
    → HasOpenedRun count states (devices_now told faults old xs) (devices_now told faults logs ds) head (logs_in_use head count logs) o
    → HasOpenedRun count states (devices_of told faults xs) (devices_with told faults head used zs) head used o
run_taken told faults count head states o old logs used xs ds zs none empty within back is begun =
    let after : devices_now told faults logs ds ≡ devices_with told faults head (logs_in_use head count logs) zs =
    now_all told faults logs ds empty ∙ sym (with_taken told faults head count logs within zs back) in
    subst (λ (us : List LogState). HasOpenedRun count states (devices_of told faults xs) (devices_with told faults head us zs) head us o) (sym is)
    (subst (λ (after : List Device). HasOpenedRun count states (devices_of told faults xs) after head (logs_in_use head count logs) o) after
    (subst (λ (ls : List LogState). HasOpenedRun count states (devices_now told faults ls xs) (devices_now told faults logs ds) head (logs_in_use head count logs) o) none begun))
