-- The steps of going over a number's bytes, where a unit stands for a power of 256.
use Rattle.std.proofs.Common.{◌≡◌, ℕ, zero, suc, ◌-◌, ◌*◌, ◌/◌, ◌%◌, ◌^◌, ◌<◌, ◌≤◌, ◌⊎◌, min, List, [], ◌∷◌, length, sym, ap, subst, ◌∙◌, arith, Bor, Result, Ok, Err, MatchResult}
use Rattle.std.proofs.Math.Nat.{pow-suc, mul-div_left, div-one, mod-eq_of_lt}
use Rattle.txn_records.specs.declared.numbers.Stop.{Stop}
use Rattle.txn_records.specs.declared.numbers.Stop.TheVariants.{Left, Memory}
use Rattle.txn_records.specs.Stops.{Stops, IsWhyUnread}
use Rattle.txn_records.specs.Numbers.{Between, Numbers, BeginsNumber}
use Rattle.txn_records.proofs.Digits.{first_stops, next_stops, next_found, some_behind, low_behind, high_behind, unit_some}

pub walk_empty : (k unit low high : ℕ) (bytes : List ℕ) → unit ≡ 256 ^ k → low ≤ high → high < unit * 256 → length bytes ≡ 0 → Stops (Numbers (suc k) low high) bytes 0
walk_empty k unit low high [] e some fits none = first_stops k low high [] some (omega (arith, e)) (λ b x h. let bad : [] ≡ b ∷ x = h in cc)
walk_empty k unit low high (b ∷ x) e some fits none = absurd (omega (arith, none))

pub walk_digit : (k unit low high b : ℕ) (bytes rest : List ℕ) → unit ≡ 256 ^ k → low ≤ high → high < unit * 256 → bytes ≡ b ∷ rest → (b < low / unit) ⊎ (high / unit < b) → Stops (Numbers (suc k) low high) bytes (length bytes)
walk_digit k unit low high b bytes rest e some fits h out =
    first_stops k low high bytes some (omega (arith, e)) (λ c x i.
    let joined : b ∷ rest ≡ c ∷ x = sym h ∙ i in
    let same : b ≡ c = cc in
    let P : ℕ → ℕ → Type 0 = λ d u. (d < low / u) ⊎ (high / u < d) in
    subst (λ (u : ℕ). P c u) e (subst (λ (d : ℕ). P d unit) same out))

last_number : (low high b : ℕ) (bytes rest : List ℕ) → b < 256 → bytes ≡ b ∷ rest → low / 1 ≤ b → b ≤ high / 1 → BeginsNumber 1 low high bytes rest
last_number low high b bytes rest small h l u = record {
  parts = (b, (omega (arith, div-one low), omega (arith, div-one high)), h ∙ ap (λ (z : ℕ). z ∷ rest) (sym (ap (λ (z : ℕ). z % 256) (div-one b) ∙ mod-eq_of_lt small)));
}

pub walk_last : (k unit low high b : ℕ) (bytes rest : List ℕ) → unit ≡ 256 ^ k → k ≡ 0 → b < 256 → bytes ≡ b ∷ rest → low / unit ≤ b → b ≤ high / unit → BeginsNumber (suc k) low high bytes rest
walk_last zero unit low high b bytes rest e none small h l u = last_number low high b bytes rest small h (subst (λ (z : ℕ). low / z ≤ b) e l) (subst (λ (z : ℕ). b ≤ high / z) e u)
walk_last (suc k) unit low high b bytes rest e none small h l u = absurd (omega (arith, none))

pub smaller_unit : (k unit : ℕ) → unit ≡ 256 ^ k → 0 < k → (unit / 256 ≡ 256 ^ (k - 1)) × (unit / 256 * 256 ≡ unit)
smaller_unit zero unit e some = absurd (omega (arith, some))
smaller_unit (suc k) unit e some =
    let one : unit / 256 ≡ 256 ^ k = ap (λ (z : ℕ). z / 256) (e ∙ pow-suc 256 k) ∙ mul-div_left (256 ^ k) (omega arith) in
    let less : suc k - 1 ≡ k = omega arith in
    (one ∙ ap (λ (z : ℕ). 256 ^ z) (sym less), ap (λ (z : ℕ). z * 256) one ∙ sym (pow-suc 256 k) ∙ sym e)

pub walk_some : (k unit low high b lo hi : ℕ) → unit ≡ 256 ^ k → 0 < k → low ≤ high → high < unit * 256 → low / unit ≤ b → b ≤ high / unit → lo ≡ low - b * unit → hi ≡ min (high - b * unit) (unit - 1) → (lo ≤ hi) × (hi < unit / 256 * 256)
walk_some k unit low high b lo hi e some le fits l u el eh =
    let P : ℕ → Type 0 = λ z. (low / z ≤ b) × (b ≤ high / z) in
    let range : (low / 256 ^ k ≤ b) × (b ≤ high / 256 ^ k) = subst P e (l, u) in
    let there : low - b * 256 ^ k ≤ min (high - b * 256 ^ k) (256 ^ k - 1) = some_behind k low high b le (omega (arith, e)) range in
    let Q : ℕ → Type 0 = λ z. low - b * z ≤ min (high - b * z) (z - 1) in
    let here : low - b * unit ≤ min (high - b * unit) (unit - 1) = subst Q (sym e) there in
    let unit_is : 0 < unit = omega (arith, unit_some k, e) in
    (omega (arith, here, el, eh), omega (arith, eh, (smaller_unit k unit e some).1))

abbrev pub Walked : ℕ → ℕ → ℕ → List ℕ → Result (Bor (List ℕ)) Stop → Type 0
Walked k low high bytes r = MatchResult r (λ x. BeginsNumber k low high bytes x.now) (IsWhyUnread (Numbers k low high) bytes)

walked_next : (k low high b : ℕ) (bytes rest : List ℕ) (r : Result (Bor (List ℕ)) Stop) → high < 256 ^ k * 256 → Between (low / 256 ^ k) (high / 256 ^ k) b → bytes ≡ b ∷ rest
    → Walked k (low_behind (256 ^ k) low b) (high_behind (256 ^ k) high b) rest r → Walked (suc k) low high bytes r
walked_next k low high b bytes rest (Ok x) fits range h w = next_found k low high b bytes rest x.now fits range h w
walked_next k low high b bytes rest (Err (Left left)) fits range h w = next_stops k low high b bytes rest left fits range h w
walked_next k low high b bytes rest (Err Memory) fits range h w = tt

pub walk_next : (k unit low high b lo hi : ℕ) (bytes rest : List ℕ) (r : Result (Bor (List ℕ)) Stop) → unit ≡ 256 ^ k → 0 < k → high < unit * 256 → low / unit ≤ b → b ≤ high / unit → lo ≡ low - b * unit → hi ≡ min (high - b * unit) (unit - 1) → bytes ≡ b ∷ rest
    → Walked (suc (k - 1)) lo hi rest r → Walked (suc k) low high bytes r
walk_next k unit low high b lo hi bytes rest r e some fits l u el eh h w =
    let P : ℕ → Type 0 = λ z. (low / z ≤ b) × (b ≤ high / z) in
    let range : (low / 256 ^ k ≤ b) × (b ≤ high / 256 ^ k) = subst P e (l, u) in
    let again : suc (k - 1) ≡ k = omega arith in
    let w1 : Walked k lo hi rest r = subst (λ (z : ℕ). Walked z lo hi rest r) again w in
    let w2 : Walked k (low - b * unit) hi rest r = subst (λ (z : ℕ). Walked k z hi rest r) el w1 in
    let w3 : Walked k (low - b * unit) (min (high - b * unit) (unit - 1)) rest r = subst (λ (z : ℕ). Walked k (low - b * unit) z rest r) eh w2 in
    let w4 : Walked k (low - b * 256 ^ k) (min (high - b * 256 ^ k) (256 ^ k - 1)) rest r = subst (λ (z : ℕ). Walked k (low - b * z) (min (high - b * z) (z - 1)) rest r) e w3 in
    walked_next k low high b bytes rest r (omega (arith, e)) range h w4
