-- The records that are read in front of items.
use Rattle.std.proofs.Common.{◌≡◌, ℕ, zero, suc, ◌+◌, ◌<◌, ◌≤◌, inl, inr, List, [], ◌∷◌, ◌++◌, length, get_or, map, take, drop, refl, sym, ap, subst, ◌∙◌, arith}
use Rattle.std.specs.List.{AllByRecursion, AllZip}
use Rattle.gate_log.specs.Opened.{bytes_of}
use Rattle.gate_log.specs.declared.logs.LogItem.{LogItem}
use Rattle.txn_records.specs.declared.records.Record.{Record}
use Rattle.txn_records.specs.Records.{record_bytes, IsRecord}
use Rattle.log_compact.specs.Fronts.{IsNoRecord, IsFront}

-- the first n of the items are these records
pub record IsReadSoFar (items : List LogItem) (n : ℕ) (front : List Record) : Type 0 where
  pub parts : bytes_of (take n items) ≡ map record_bytes front
  pub each : AllByRecursion IsRecord front
  pub few : length front ≤ 2

-- ---- parts of lists

module _ {X : Type 0} where
  pub all_taken : (xs : List X) (n : ℕ) → length xs ≤ n → take n xs ≡ xs
  all_taken [] zero l = refl
  all_taken [] (suc n) l = refl
  all_taken (x ∷ xs) zero l = absurd (omega (arith, l))
  all_taken (x ∷ xs) (suc n) l = ap (λ z. x ∷ z) (all_taken xs n (omega (arith, l)))

  parted : (xs : List X) (n : ℕ) → xs ≡ take n xs ++ drop n xs
  parted [] zero = refl
  parted [] (suc n) = refl
  parted (x ∷ xs) zero = refl
  parted (x ∷ xs) (suc n) = ap (λ z. x ∷ z) (parted xs n)

  parted_at : (xs : List X) (n : ℕ) (x : X) → n < length xs → x ≡ get_or xs n x → xs ≡ take n xs ++ x ∷ drop (suc n) xs
  parted_at [] n x l e = absurd (omega (arith, l))
  parted_at (y ∷ xs) zero x l e = ap (λ z. z ∷ xs) (sym e)
  parted_at (y ∷ xs) (suc n) x l e = ap (λ z. y ∷ z) (parted_at xs n x (omega (arith, l)) e)

  taken_more : (xs : List X) (n : ℕ) (x : X) → n < length xs → x ≡ get_or xs n x → take (suc n) xs ≡ take n xs ++ x ∷ []
  taken_more [] n x l e = absurd (omega (arith, l))
  taken_more (y ∷ xs) zero x l e = ap (λ z. z ∷ []) (sym e)
  taken_more (y ∷ xs) (suc n) x l e = ap (λ z. y ∷ z) (taken_more xs n x (omega (arith, l)) e)

  pub taken_next : (xs : List X) (n : ℕ) (x : X) → n < length xs → x ≡ get_or xs n x → take (n + 1) xs ≡ take n xs ++ x ∷ []
  taken_next xs n x l e = let more : suc n ≡ n + 1 = omega arith in subst (λ k. take k xs ≡ take n xs ++ x ∷ []) more (taken_more xs n x l e)

  pub all_more : (P : X → Type 0) (xs : List X) (x : X) → AllByRecursion P xs → P x → AllByRecursion P (xs ++ x ∷ [])
  all_more P [] x h k = (k, tt)
  all_more P (y ∷ xs) x h k = (h.0, all_more P xs x h.1 k)

module _ {X Y : Type 0} where
  pub map_join : (f : X → Y) (a b : List X) → map f (a ++ b) ≡ map f a ++ map f b
  map_join f [] b = refl
  map_join f (x ∷ a) b = ap (λ z. f x ∷ z) (map_join f a b)

  pub zip_more : (P : X → Y → Type 0) (xs : List X) (ys : List Y) (x : X) (y : Y) → AllZip P xs ys → P x y → AllZip P (xs ++ x ∷ []) (ys ++ y ∷ [])
  zip_more P [] [] x y h k = (k, tt)
  zip_more P [] (b ∷ ys) x y h k = elim h [ ]
  zip_more P (a ∷ xs) [] x y h k = elim h [ ]
  zip_more P (a ∷ xs) (b ∷ ys) x y h k = (h.0, zip_more P xs ys x y h.1 k)

bytes_join : (a b : List LogItem) → bytes_of (a ++ b) ≡ bytes_of a ++ bytes_of b
bytes_join a b = map_join (λ (i : LogItem). i.bytes) a b

-- ---- the front

pub read_next : (items : List LogItem) (n : ℕ) (item : LogItem) (front : List Record) (r : Record) → IsReadSoFar items n front → n < length items → item ≡ get_or items n item → length front < 2 → IsRecord r → item.bytes ≡ record_bytes r
    → IsReadSoFar items (n + 1) (front ++ r ∷ [])
read_next items n item front r h l e short is same = record {
  parts =
      ap bytes_of (taken_next items n item l e)
      ∙ (bytes_join (take n items) (item ∷ [])
      ∙ (ap (λ z. z ++ item.bytes ∷ []) h.parts ∙ (ap (λ z. map record_bytes front ++ z ∷ []) same ∙ sym (map_join record_bytes front (r ∷ [])))));
  each = all_more IsRecord front r h.each is;
  few = omega (arith, short, Rattle.std.proofs.Common.length-append front (r ∷ []));
}

pub two_read : (items : List LogItem) (n : ℕ) (front : List Record) → IsReadSoFar items n front → length front ≡ 2 → IsFront (bytes_of items) front
two_read items n front h e = record {
  behind = bytes_of (drop n items);
  parts = ap bytes_of (parted items n) ∙ (bytes_join (take n items) (drop n items) ∙ ap (λ z. z ++ bytes_of (drop n items)) h.parts);
  each = h.each;
  few = h.few;
  whole = inl e;
}

pub stopped : (items : List LogItem) (n : ℕ) (item : LogItem) (front : List Record) → IsReadSoFar items n front → n < length items → item ≡ get_or items n item → IsNoRecord item.bytes → IsFront (bytes_of items) front
stopped items n item front h l e none = record {
  behind = item.bytes ∷ bytes_of (drop (suc n) items);
  parts = ap bytes_of (parted_at items n item l e) ∙ (bytes_join (take n items) (item ∷ drop (suc n) items) ∙ ap (λ z. z ++ item.bytes ∷ bytes_of (drop (suc n) items)) h.parts);
  each = h.each;
  few = h.few;
  whole = inr none;
}

pub all_read : (items : List LogItem) (n : ℕ) (front : List Record) → IsReadSoFar items n front → length items ≤ n → IsFront (bytes_of items) front
all_read items n front h l = record {
  behind = [];
  parts = ap bytes_of (sym (all_taken items n l)) ∙ (h.parts ∙ sym (Rattle.std.proofs.Common.append-nil (map record_bytes front)));
  each = h.each;
  few = h.few;
  whole = inr tt;
}
