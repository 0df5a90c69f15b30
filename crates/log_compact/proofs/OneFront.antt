-- Items have one front at most, and the first two records stand in front of items that are records.
use Rattle.std.proofs.Common.{◌≡◌, ℕ, zero, suc, ◌≤◌, ◌⊎◌, inl, inr, List, [], ◌∷◌, ◌++◌, length, map, take, refl, sym, ap, subst, ◌∙◌, arith}
use Rattle.std.specs.List.{AllByRecursion}
use Rattle.gate_log.specs.LogLaws.{OneList}
use Rattle.txn_records.specs.RecordLaws.{OneRecord}
use Rattle.txn_records.specs.declared.records.Record.{Record}
use Rattle.txn_records.specs.Records.{record_bytes, IsRecord}
use Rattle.record_log.specs.Records.{spelled}
use Rattle.log_compact.specs.Fronts.{StopsAt, IsFront, OneFront, FrontsOfRecords}

-- where the one list ends a record goes on in the other one
goes_on : (r : Record) (front : List Record) (x y : List (List ℕ)) → IsRecord r → x ≡ record_bytes r ∷ map record_bytes front ++ y → StopsAt x → ⊥
goes_on r front x y is e stops = let s : StopsAt (record_bytes r ∷ map record_bytes front ++ y) = subst StopsAt e stops in s r is refl

-- of so many records
same : OneRecord → (n : ℕ) (f g : List Record) (x y : List (List ℕ)) → map record_bytes f ++ x ≡ map record_bytes g ++ y → AllByRecursion IsRecord f → AllByRecursion IsRecord g → length f ≤ n → length g ≤ n
    → (length f ≡ n) ⊎ StopsAt x → (length g ≡ n) ⊎ StopsAt y → f ≡ g
same one n [] [] x y e a b l k s t = refl
same one n [] (r ∷ g) x y e a b l k (inl s) t = absurd (omega (arith, k, s))
same one n [] (r ∷ g) x y e a b l k (inr s) t = absurd (goes_on r g x y b.0 e s)
same one n (r ∷ f) [] x y e a b l k s (inl t) = absurd (omega (arith, l, t))
same one n (r ∷ f) [] x y e a b l k s (inr t) = absurd (goes_on r f y x a.0 (sym e) t)
same one zero (r ∷ f) (q ∷ g) x y e a b l k s t = absurd (omega (arith, l))
same one (suc n) (r ∷ f) (q ∷ g) x y e a b l k s t =
    let i : record_bytes r ≡ record_bytes q = cc e in
    let j : map record_bytes f ++ x ≡ map record_bytes g ++ y = cc e in
    ap (λ z. z ∷ f) (one r q a.0 b.0 i) ∙ ap (λ z. q ∷ z) (same one n f g x y j a.1 b.1 (omega (arith, l)) (omega (arith, k)) (less r f x s) (less q g y t))
  where
    less : (p : Record) (h : List Record) (z : List (List ℕ)) → (length (p ∷ h) ≡ suc n) ⊎ StopsAt z → (length h ≡ n) ⊎ StopsAt z
    less p h z (inl d) = inl (omega (arith, d))
    less p h z (inr d) = inr d

pub one_front : OneRecord → OneFront
one_front one items f g h k = same one 2 f g h.behind k.behind (sym h.parts ∙ k.parts) h.each k.each h.few k.few h.whole k.whole

front_taken : (rs : List Record) → AllByRecursion IsRecord rs → IsFront (spelled rs) (take 2 rs)
front_taken [] h = record { behind = []; parts = refl; each = tt; few = omega arith; whole = inr tt }
front_taken (r ∷ []) h = record { behind = []; parts = refl; each = h; few = omega arith; whole = inr tt }
front_taken (r ∷ x ∷ rs) h = record { behind = map record_bytes rs; parts = refl; each = (h.0, (h.1.0, tt)); few = omega arith; whole = inl refl }

pub fronts_of_records : OneFront → OneList → FrontsOfRecords
fronts_of_records one list = record {
  one = λ bytes rs f h k. one (spelled rs) f (take 2 rs) (subst (λ z. IsFront z f) (list bytes k.0 (spelled rs) k.1 h.log) k.2) (front_taken rs h.each);
  there = λ bytes rs h. (spelled rs, h.log, front_taken rs h.each);
}
