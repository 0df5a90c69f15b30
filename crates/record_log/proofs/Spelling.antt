-- Records as items, and items as records.
use Rattle.std.proofs.Common.{◌≡◌, ℕ, ◌+◌, inl, inr, List, [], ◌∷◌, ◌++◌, length, drop, refl, sym, ◌∙◌, ap, subst, arith}
use Rattle.std.proofs.lemmas.List.{take-append-drop, map-append}
use Rattle.std.proofs.lemmas.Bool.{cases_lt}
use Rattle.std.specs.List.{AllByRecursion}
use Rattle.gate_log.specs.declared.logs.LogItem.{LogItem}
use Rattle.gate_log.specs.Opened.{bytes_of}
use Rattle.txn_records.specs.declared.records.Record.{Record}
use Rattle.txn_records.specs.Records.{record_bytes, IsRecord}
use Rattle.txn_records.specs.Faults.{IsFirstBad}
use Rattle.txn_records.specs.RecordLaws.{OneRecord}
use Rattle.record_log.specs.Records.{spelled, AreItemsOf, IsFirstBadIn}

-- records with the same items are the same
pub one_spelling : (law : OneRecord) (rs xs : List Record) → AllByRecursion IsRecord rs → AllByRecursion IsRecord xs → spelled rs ≡ spelled xs → rs ≡ xs
one_spelling law [] [] rs_are xs_are same = refl
one_spelling law [] (x ∷ xs) rs_are xs_are same = absurd (cc)
one_spelling law (r ∷ rs) [] rs_are xs_are same = absurd (cc)
one_spelling law (r ∷ rs) (x ∷ xs) rs_are xs_are same =
    let first : record_bytes r ≡ record_bytes x = cc in
    let others : spelled rs ≡ spelled xs = cc in
    ap (λ (y : Record). y ∷ rs) (law r x rs_are.0 xs_are.0 first) ∙ ap (λ (ys : List Record). x ∷ ys) (one_spelling law rs xs rs_are.1 xs_are.1 others)

pub all_more : (rs xs : List Record) → AllByRecursion IsRecord rs → AllByRecursion IsRecord xs → AllByRecursion IsRecord (rs ++ xs)
all_more [] xs rs_are xs_are = xs_are
all_more (r ∷ rs) xs rs_are xs_are = (rs_are.0, all_more rs xs rs_are.1 xs_are)

pub spelled_more : (rs xs : List Record) → spelled rs ++ spelled xs ≡ spelled (rs ++ xs)
spelled_more rs xs = sym (map-append record_bytes rs xs)

-- ---- items that are records

pub items_spelled : (items : List LogItem) (rs : List Record) → AreItemsOf items rs → bytes_of items ≡ spelled rs
items_spelled [] rs are = ap (λ (ys : List Record). spelled ys) (sym are)
items_spelled (item ∷ items) rs are =
    ap (λ (b : List ℕ). b ∷ bytes_of items) are.3.1
    ∙ ap (λ (l : List (List ℕ)). record_bytes are.0 ∷ l) (items_spelled items are.1 are.4)
    ∙ ap (λ (ys : List Record). spelled ys) (sym are.2)

pub items_each : (items : List LogItem) (rs : List Record) → AreItemsOf items rs → AllByRecursion IsRecord rs
items_each [] rs are = subst (λ (ys : List Record). AllByRecursion IsRecord ys) (sym are) tt
items_each (item ∷ items) rs are = subst (λ (ys : List Record). AllByRecursion IsRecord ys) (sym are.2) (are.3.0, items_each items are.1 are.4)

-- ---- an item that is no record

spelled_at : (front behind : List (List ℕ)) (item : List ℕ) (rs : List Record) → AllByRecursion IsRecord rs → spelled rs ≡ front ++ item ∷ behind
    → (r : Record) × IsRecord r × (record_bytes r ≡ item)
spelled_at [] behind item [] are same = absurd (cc)
spelled_at (f ∷ front) behind item [] are same = absurd (cc)
spelled_at [] behind item (r ∷ rs) are same = (r, are.0, cc)
spelled_at (f ∷ front) behind item (r ∷ rs) are same =
    let others : spelled rs ≡ front ++ item ∷ behind = cc in
    spelled_at front behind item rs are.1 others

never_bad : (r : Record) (item : List ℕ) (bad : ℕ) → IsRecord r → record_bytes r ≡ item → IsFirstBad item bad → ⊥
never_bad r item bad is same first = elim (cases_lt bad (length item)) [
  | inl lt ↦ first.stops lt (r, drop (bad + 1) item, is, same ∙ sym (take-append-drop (bad + 1) item))
  | inr ge ↦ first.ends (omega (arith, ge, first.within)) r is same
]

pub none_bad : (items : List LogItem) (rs : List Record) (offset : ℕ) → AllByRecursion IsRecord rs → bytes_of items ≡ spelled rs → IsFirstBadIn items offset → ⊥
none_bad items rs offset are same first =
    let parts : bytes_of items ≡ bytes_of first.0 ++ first.2.bytes ∷ bytes_of first.1 =
    ap (λ (l : List LogItem). bytes_of l) first.4 ∙ map-append (λ (i : LogItem). i.bytes) first.0 (first.2 ∷ first.1) in
    let found = spelled_at (bytes_of first.0) (bytes_of first.1) first.2.bytes rs are (sym same ∙ parts) in
    never_bad found.0 first.2.bytes first.3 found.1 found.2 first.6
