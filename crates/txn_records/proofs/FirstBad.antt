-- Where the reading stops is the first offset at which no record goes on.
use Rattle.std.proofs.Common.{◌≡◌, ℕ, ◌+◌, ◌-◌, ◌≤◌, List, [], ◌∷◌, ◌++◌, length, take, drop, refl, sym, ap, subst, ◌∙◌, append_assoc, arith}
use Rattle.std.proofs.lemmas.List.{length-append, take_at, take-append-drop}
use Rattle.std.proofs.Math.Seq.{take-append-add}
use Rattle.txn_records.specs.declared.records.Record.{Record}
use Rattle.txn_records.specs.Records.{IsRecord, record_bytes}
use Rattle.txn_records.specs.Faults.{IsFirstBad}
use Rattle.txn_records.specs.Stops.{Stops}
use Rattle.txn_records.specs.Texts.{RecordTexts}

pub left_within : (bytes : List ℕ) (left : ℕ) → Stops RecordTexts bytes left → left ≤ length bytes
left_within bytes left s = omega (arith, s.left_is, ap length s.parts, length-append s.front s.behind)

none_left : (behind : List ℕ) → length behind ≡ 0 → behind ≡ []
none_left [] e = refl
none_left (b ∷ x) e = absurd (omega (arith, e))

pub first_bad : (bytes : List ℕ) (left : ℕ) → Stops RecordTexts bytes left → IsFirstBad bytes (length bytes - left)
first_bad bytes left s =
    let len : length bytes ≡ length s.front + length s.behind = ap length s.parts ∙ length-append s.front s.behind in
    let at : length bytes - left ≡ length s.front = omega (arith, len, s.left_is) in
    let before : take (length s.front) bytes ≡ s.front = ap (take (length s.front)) s.parts ∙ take_at s.front s.behind (length s.front) refl in
    let here : take (length s.front + 1) bytes ≡ s.front ++ take 1 s.behind = ap (take (length s.front + 1)) s.parts ∙ take-append-add s.front s.behind 1 in
    let r : IsFirstBad bytes (length s.front) = record {
      within = omega (arith, len);
      goes = (s.goes.2.0, s.goes.1, s.goes.2.1, sym s.goes.2.2 ∙ s.goes.3 ∙ ap (λ (z : List ℕ). z ++ s.goes.1) (sym before));
      stops = λ lt (r, rest, p, e).
          let w = s.stops (record_bytes r) rest (r, p, refl) (e ∙ ap (λ (z : List ℕ). z ++ rest) here ∙ append_assoc s.front (take 1 s.behind) rest) in
          omega (arith, lt, len, ap length w.0);
      ends = λ o r p e.
          let none : s.behind ≡ [] = none_left s.behind (omega (arith, o, len)) in
          let rest : take 1 s.behind ++ [] ≡ s.behind = ap (λ (z : List ℕ). take 1 z ++ []) none ∙ sym none in
          (s.stops (record_bytes r) [] (r, p, refl) (e ∙ s.parts ∙ ap (λ (z : List ℕ). s.front ++ z) (sym rest))).1 refl;
    } in
    subst (IsFirstBad bytes) (sym at) r

abbrev rest_of : List ℕ → List ℕ
rest_of behind = drop 1 behind

split : (behind : List ℕ) → behind ≡ take 1 behind ++ rest_of behind
split behind = sym (take-append-drop 1 behind)

-- the bytes of a record are not bad
pub not_bad : (bytes : List ℕ) (left : ℕ) (r : Record) → IsRecord r → bytes ≡ record_bytes r → Stops RecordTexts bytes left → ⊥
not_bad bytes left r p e s =
    let w = s.stops (record_bytes r) (rest_of s.behind) (r, p, refl) (sym e ∙ s.parts ∙ ap (λ (z : List ℕ). s.front ++ z) (split s.behind)) in
    w.1 (ap rest_of w.0)
