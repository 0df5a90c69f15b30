-- The devices of open logs and of the others, as one list.
use Rattle.std.proofs.Common.{◌≡◌, ℕ, zero, suc, ◌+◌, ◌-◌, ◌<◌, ◌≤◌, List, [], ◌∷◌, ◌++◌, length, get_or, set, map, take, drop, append_assoc, refl, sym, ◌∙◌, ap, subst, arith, Option}
use Rattle.std.specs.List.{insert, remove, AllZip}
use Rattle.std.proofs.lemmas.List.{append-nil, map-append, drop-drop, length-map, take-append-drop}
use Rattle.snap_outside.specs.Disk.{DeviceHistory}
use Rattle.gate_log.specs.State.{LogState}
use Rattle.log_opening.specs.Devices.{Device, devices_of, devices_now, devices_with, device_at, as_device}

insert_last : {X : Type 0} (xs : List X) (x : X) → insert xs (length xs) x ≡ xs ++ x ∷ []
insert_last [] x = refl
insert_last (y ∷ ys) x = ap (λ (l : List _). y ∷ l) (insert_last ys x)

zip_behind : {A B : Type 0} (R : A → B → Type 0) (xs : List A) (ys : List B) (x : A) (y : B) → AllZip R xs ys → R x y → AllZip R (xs ++ x ∷ []) (ys ++ y ∷ [])
zip_behind R [] [] x y all one = (one, tt)
zip_behind R [] (b ∷ bs) x y all one = absurd all
zip_behind R (a ∷ more) [] x y all one = absurd all
zip_behind R (a ∷ more) (b ∷ bs) x y all one = (all.0, zip_behind R more bs x y all.1 one)

-- the first device that is not open is behind those of the open logs
pub now_at : {D : Type 0} (told : D → Option DeviceHistory) (faults : D → ℕ) (logs : List LogState) (xs : List D) (x : D) → 0 < length xs → x ≡ get_or xs 0 x
    → record { told = told x; faults = faults x } ≡ device_at (devices_now told faults logs xs) (length logs)
now_at told faults [] [] x lt is = absurd (omega (arith, lt))
now_at told faults [] (y ∷ ys) x lt is = ap (λ d. record { told = told d; faults = faults d }) is
now_at told faults (l ∷ logs) xs x lt is = now_at told faults logs xs x lt is

pub now_long : {D : Type 0} (told : D → Option DeviceHistory) (faults : D → ℕ) (logs : List LogState) (xs : List D) → 0 < length xs → length logs < length (devices_now told faults logs xs)
now_long told faults [] [] lt = absurd (omega (arith, lt))
now_long told faults [] (y ∷ ys) lt = omega arith
now_long told faults (l ∷ logs) xs lt = omega (arith, now_long told faults logs xs lt)

now_set : {D : Type 0} (told : D → Option DeviceHistory) (faults : D → ℕ) (logs : List LogState) (xs : List D) (d : Device) → 0 < length xs
    → map as_device logs ++ d ∷ devices_of told faults (remove xs 0) ≡ set (devices_now told faults logs xs) (length logs) d
now_set told faults [] [] d lt = absurd (omega (arith, lt))
now_set told faults [] (y ∷ ys) d lt = refl
now_set told faults (l ∷ logs) xs d lt = ap (λ (ds : List Device). as_device l ∷ ds) (now_set told faults logs xs d lt)

-- the device has an open log now
pub now_opened : {D : Type 0} (told : D → Option DeviceHistory) (faults : D → ℕ) (logs more : List LogState) (log : LogState) (xs ys : List D) → 0 < length xs
    → ys ≡ remove xs 0 → more ≡ insert logs (length logs) log → devices_now told faults more ys ≡ set (devices_now told faults logs xs) (length logs) (as_device log)
now_opened told faults logs more log xs ys lt taken put =
    let last : more ≡ logs ++ log ∷ [] = put ∙ insert_last logs log in
    ap (λ (l : List _). map as_device more ++ devices_of told faults l) taken
    ∙ ap (λ (l : List LogState). map as_device l ++ devices_of told faults (remove xs 0)) last
    ∙ ap (λ (l : List Device). l ++ devices_of told faults (remove xs 0)) (map-append as_device logs (log ∷ []))
    ∙ append_assoc (map as_device logs) (as_device log ∷ []) (devices_of told faults (remove xs 0))
    ∙ now_set told faults logs xs (as_device log) lt

-- the device was put back
pub now_back : {D : Type 0} (told : D → Option DeviceHistory) (faults : D → ℕ) (logs : List LogState) (dev : D) (xs ys zs : List D) → 0 < length xs
    → ys ≡ remove xs 0 → zs ≡ insert ys 0 dev → devices_now told faults logs zs ≡ set (devices_now told faults logs xs) (length logs) (record { told = told dev; faults = faults dev })
now_back told faults logs dev xs ys zs lt taken put =
    ap (λ (l : List _). devices_now told faults logs l) (put ∙ ap (λ (l : List _). dev ∷ l) taken)
    ∙ now_set told faults logs xs (record { told = told dev; faults = faults dev }) lt

-- where no device is left, these are all
pub now_all : {D : Type 0} (told : D → Option DeviceHistory) (faults : D → ℕ) (logs : List LogState) (xs : List D) → length xs ≡ 0 → devices_now told faults logs xs ≡ map as_device logs
now_all told faults logs [] none = append-nil (map as_device logs)
now_all told faults logs (x ∷ xs) none = absurd (omega (arith, none))

pub zip_last : {A B : Type 0} (R : A → B → Type 0) (xs more : List A) (ys : List B) (x : A) (y : B) → more ≡ insert xs (length xs) x → AllZip R xs ys → R x y → AllZip R more (ys ++ y ∷ [])
zip_last R xs more ys x y put all one = subst (λ (l : List _). AllZip R l (ys ++ y ∷ [])) (sym (put ∙ insert_last xs x)) (zip_behind R xs ys x y all one)

pub zip_weaker : {A B : Type 0} (R S : A → B → Type 0) (xs : List A) (ys : List B) → ((x : A) (y : B) → R x y → S x y) → AllZip R xs ys → AllZip S xs ys
zip_weaker R S [] [] then all = tt
zip_weaker R S [] (y ∷ ys) then all = absurd all
zip_weaker R S (x ∷ xs) [] then all = absurd all
zip_weaker R S (x ∷ xs) (y ∷ ys) then all = (then x y all.0, zip_weaker R S xs ys then all.1)

-- ---- the devices behind those of the open logs

-- one more was to be opened
pub rest_more : {D : Type 0} (count old new : ℕ) (xs ys : List D) → old < count → new ≤ old + 1 → drop (old + 1 - new) ys ≡ drop 1 xs → drop (count - new) ys ≡ drop (count - old) xs
rest_more count old new xs ys lt le same =
    let parts : count - new ≡ (old + 1 - new) + (count - (old + 1)) = omega arith in
    let whole : 1 + (count - (old + 1)) ≡ count - old = omega arith in
    ap (λ (n : ℕ). drop n ys) parts ∙ sym (drop-drop (count - (old + 1)) (old + 1 - new) ys) ∙ ap (λ (l : List _). drop (count - (old + 1)) l) same
    ∙ drop-drop (count - (old + 1)) 1 xs ∙ ap (λ (n : ℕ). drop n xs) whole

-- ---- one of the devices comes back from its log

take_put : {A : Type 0} (h : ℕ) (xs : List A) (x : A) → h ≤ length xs → take h (insert xs h x) ≡ take h xs
take_put zero xs x le = refl
take_put (suc h) [] x le = absurd (omega (arith, le))
take_put (suc h) (y ∷ ys) x le = ap (λ (l : List _). y ∷ l) (take_put h ys x (omega (arith, le)))

drop_put : {A : Type 0} (h : ℕ) (xs : List A) (x : A) → h ≤ length xs → drop h (insert xs h x) ≡ x ∷ drop h xs
drop_put zero xs x le = refl
drop_put (suc h) [] x le = absurd (omega (arith, le))
drop_put (suc h) (y ∷ ys) x le = drop_put h ys x (omega (arith, le))

map_put : {A B : Type 0} (f : A → B) (h : ℕ) (xs : List A) (x : A) → map f (insert xs h x) ≡ insert (map f xs) h (f x)
map_put f zero xs x = refl
map_put f (suc h) [] x = refl
map_put f (suc h) (y ∷ ys) x = ap (λ (l : List _). f y ∷ l) (map_put f h ys x)

-- behind so many of them
put_behind : (head : ℕ) (zs ds : List Device) (d : Device) → head ≤ length zs → take head (insert zs head d) ++ (ds ++ drop head (insert zs head d)) ≡ take head zs ++ ((ds ++ d ∷ []) ++ drop head zs)
put_behind head zs ds d le =
    ap (λ (l : List Device). l ++ (ds ++ drop head (insert zs head d))) (take_put head zs d le)
    ∙ ap (λ (l : List Device). take head zs ++ (ds ++ l)) (drop_put head zs d le)
    ∙ ap (λ (l : List Device). take head zs ++ l) (sym (append_assoc ds (d ∷ []) (drop head zs)))

pub with_closed : {D : Type 0} (told : D → Option DeviceHistory) (faults : D → ℕ) (head : ℕ) (logs fewer : List LogState) (log : LogState) (dev : D) (xs ys : List D) → head ≤ length xs → logs ≡ fewer ++ log ∷ []
    → ys ≡ insert xs head dev → told dev ≡ log.told → faults dev ≡ log.faults → devices_with told faults head fewer ys ≡ devices_with told faults head logs xs
with_closed told faults head logs fewer log dev xs ys le last put tells counts =
    let device : record { told = told dev; faults = faults dev } ≡ as_device log = λ i. record { told = tells i; faults = counts i } in
    let size : length (devices_of told faults xs) ≡ length xs = length-map xs (λ d. record { told = told d; faults = faults d }) in
    ap (λ (l : List _). devices_with told faults head fewer l) put
    ∙ ap (λ (l : List Device). take head l ++ (map as_device fewer ++ drop head l)) (map_put (λ d. record { told = told d; faults = faults d }) head xs dev)
    ∙ ap (λ (d : Device). take head (insert (devices_of told faults xs) head d) ++ (map as_device fewer ++ drop head (insert (devices_of told faults xs) head d))) device
    ∙ put_behind head (devices_of told faults xs) (map as_device fewer) (as_device log) (omega (arith, le, size))
    ∙ ap (λ (l : List Device). take head (devices_of told faults xs) ++ (l ++ drop head (devices_of told faults xs))) (sym (map-append as_device fewer (log ∷ [])))
    ∙ ap (λ (l : List LogState). devices_with told faults head l xs) (sym last)

-- all came back
pub with_all : {D : Type 0} (told : D → Option DeviceHistory) (faults : D → ℕ) (head : ℕ) (logs : List LogState) (xs : List D) → length logs ≡ 0 → devices_with told faults head logs xs ≡ devices_of told faults xs
with_all told faults head [] xs none = take-append-drop head (devices_of told faults xs)
with_all told faults head (l ∷ logs) xs none = absurd (omega (arith, none))

-- those in front of the place stay
pub front_put : {D : Type 0} (head : ℕ) (dev : D) (xs ys zs : List D) → head ≤ length xs → ys ≡ insert xs head dev → take head xs ≡ zs → take head ys ≡ zs
front_put head dev xs ys zs le put same = ap (λ (l : List _). take head l) put ∙ take_put head xs dev le ∙ same

-- and those behind it
pub rest_put : {D : Type 0} (head all left : ℕ) (dev : D) (xs ys zs : List D) → head ≤ length xs → left < all → ys ≡ insert xs head dev → drop (head + (all - (left + 1))) xs ≡ zs → drop (head + (all - left)) ys ≡ zs
rest_put head all left dev xs ys zs le lt put same =
    let parts : head + (all - left) ≡ head + suc (all - (left + 1)) = omega arith in
    ap (λ (n : ℕ). drop n ys) parts ∙ sym (drop-drop (suc (all - (left + 1))) head ys) ∙ ap (λ (l : List _). drop (suc (all - (left + 1))) (drop head l)) put
    ∙ ap (λ (l : List _). drop (suc (all - (left + 1))) l) (drop_put head xs dev le) ∙ drop-drop (all - (left + 1)) head xs ∙ same
