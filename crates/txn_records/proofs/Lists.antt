-- Lists of things of one kind are read one after the other.
use Rattle.std.proofs.Common.{◌≡◌, ℕ, zero, suc, ◌+◌, ◌%◌, ◌<◌, ◌≤◌, get_or, List, [], ◌∷◌, ◌++◌, length, map, refl, sym, ap, subst, ◌∙◌, append_assoc, arith}
use Rattle.std.specs.List.{AllByRecursion, flat_map}
use Rattle.std.specs.Int.{w16, w64, to_be_bytes}
use Rattle.txn_records.specs.declared.numbers.Stop.{Stop}
use Rattle.txn_records.specs.declared.numbers.Stop.TheVariants.{Left, Memory}
use Rattle.txn_records.specs.Records.{Ascend}
use Rattle.txn_records.specs.Stops.{Stops, IsWhyUnread, Any, Seq}
use Rattle.txn_records.specs.Texts.{one_byte}
use Rattle.txn_records.specs.Numbers.{big_endian, Between, Numbers, BeginsNumber}
use Rattle.std.proofs.Math.Nat.{div-one, mod-eq_of_lt}
use Rattle.txn_records.proofs.OneRecord.{SpelledApart}
use Rattle.txn_records.proofs.Stopping.{stops_alike, stops_first, stops_after}
use Rattle.txn_records.proofs.Digits.{big_endian_2, big_endian_8}

pub fails_alike : (F G : List ℕ → Type 0) (bytes : List ℕ) (stop : Stop) → ((f : List ℕ) → F f → G f) → ((f : List ℕ) → G f → F f) → IsWhyUnread F bytes stop → IsWhyUnread G bytes stop
fails_alike F G bytes (Left left) there back s = stops_alike F G bytes left there back s
fails_alike F G bytes Memory there back s = tt

-- what stops in the rest stops in the bytes
abbrev pub Behind : (List ℕ → Type 0) → List ℕ → (List ℕ → Type 0) → List ℕ → Type 0
Behind F bytes G rest = (left : ℕ) → Stops G rest left → Stops F bytes left

pub fails_behind : (F G : List ℕ → Type 0) (bytes rest : List ℕ) (stop : Stop) → Behind F bytes G rest → IsWhyUnread G rest stop → IsWhyUnread F bytes stop
fails_behind F G bytes rest (Left left) b s = b left s
fails_behind F G bytes rest Memory b s = tt

pub fails_first : {X : Type 0} (Is : X → Type 0) (spell : X → List ℕ) (G : X → List ℕ → Type 0) (bytes : List ℕ) (stop : Stop)
    → ((x : X) → Is x → (g : List ℕ) × G x g) → IsWhyUnread (Seq Is spell (λ x. Any)) bytes stop → IsWhyUnread (Seq Is spell G) bytes stop
fails_first Is spell G bytes (Left left) some s = stops_first Is spell G bytes left some s
fails_first Is spell G bytes Memory some s = tt

pub fails_after : {X : Type 0} (Is : X → Type 0) (spell : X → List ℕ) (G : X → List ℕ → Type 0) → SpelledApart Is spell
    → (x : X) (bytes rest : List ℕ) (stop : Stop) → Is x → bytes ≡ spell x ++ rest → IsWhyUnread (G x) rest stop → IsWhyUnread (Seq Is spell G) bytes stop
fails_after Is spell G each x bytes rest (Left left) p e s = stops_after Is spell G each x bytes rest left p e s
fails_after Is spell G each x bytes rest Memory p e s = tt

-- ---- numbers of two and of eight bytes

pub fails_64 : (low high : ℕ) (bytes : List ℕ) (stop : Stop) → IsWhyUnread (Numbers 8 low high) bytes stop → IsWhyUnread (Seq (Between low high) (to_be_bytes w64) (λ n. Any)) bytes stop
fails_64 low high bytes stop s = fails_alike (Numbers 8 low high) (Seq (Between low high) (to_be_bytes w64) (λ n. Any)) bytes stop
    (λ f w. (w.0, w.1, w.2, tt, w.4 ∙ ap (λ (z : List ℕ). z ++ w.1) (big_endian_8 w.0)))
    (λ f w. (w.0, w.1, w.2, tt, w.4 ∙ ap (λ (z : List ℕ). z ++ w.1) (sym (big_endian_8 w.0)))) s

pub fails_16 : (low high : ℕ) (bytes : List ℕ) (stop : Stop) → IsWhyUnread (Numbers 2 low high) bytes stop → IsWhyUnread (Seq (Between low high) (to_be_bytes w16) (λ n. Any)) bytes stop
fails_16 low high bytes stop s = fails_alike (Numbers 2 low high) (Seq (Between low high) (to_be_bytes w16) (λ n. Any)) bytes stop
    (λ f w. (w.0, w.1, w.2, tt, w.4 ∙ ap (λ (z : List ℕ). z ++ w.1) (big_endian_2 w.0)))
    (λ f w. (w.0, w.1, w.2, tt, w.4 ∙ ap (λ (z : List ℕ). z ++ w.1) (sym (big_endian_2 w.0)))) s

pub big_endian_1 : (n : ℕ) → n < 256 → big_endian 1 n ≡ one_byte n
big_endian_1 n lt = ap (λ (z : ℕ). z % 256 ∷ []) (div-one n) ∙ ap (λ (z : ℕ). z ∷ []) (mod-eq_of_lt lt)

pub fails_8 : (low high : ℕ) (bytes : List ℕ) (stop : Stop) → high < 256 → IsWhyUnread (Numbers 1 low high) bytes stop → IsWhyUnread (Seq (Between low high) one_byte (λ n. Any)) bytes stop
fails_8 low high bytes stop small s = fails_alike (Numbers 1 low high) (Seq (Between low high) one_byte (λ n. Any)) bytes stop
    (λ f w. (w.0, w.1, w.2, tt, w.4 ∙ ap (λ (z : List ℕ). z ++ w.1) (big_endian_1 w.0 (omega (arith, w.2)))))
    (λ f w. (w.0, w.1, w.2, tt, w.4 ∙ ap (λ (z : List ℕ). z ++ w.1) (sym (big_endian_1 w.0 (omega (arith, w.2)))))) s

pub found_8 : (low high b : ℕ) (bytes rest : List ℕ) → high < 256 → BeginsNumber 1 low high bytes rest → b ≡ get_or bytes 0 0 → Between low high b × (bytes ≡ one_byte b ++ rest)
found_8 low high b bytes rest small s eb =
    let p = s.parts in
    let e : bytes ≡ p.0 ∷ rest = p.2 ∙ ap (λ (z : List ℕ). z ++ rest) (big_endian_1 p.0 (omega (arith, p.1))) in
    let same : b ≡ p.0 = eb ∙ ap (λ (z : List ℕ). get_or z 0 0) e in
    ((omega (arith, same, p.1), omega (arith, same, p.1)), e ∙ ap (λ (z : ℕ). z ∷ rest) (sym same))

-- ---- lists of things that do not depend on one another

abbrev pub Are : {X : Type 0} → (X → Type 0) → ℕ → List X → Type 0
Are Is n xs = (length xs ≡ n) × AllByRecursion Is xs

abbrev pub Lists : {X : Type 0} → (X → Type 0) → (X → List ℕ) → ℕ → List ℕ → Type 0
Lists Is spell n = Seq (Are Is n) (flat_map spell) (λ xs. Any)

lists_in : {X : Type 0} (Is : X → Type 0) (spell : X → List ℕ) (n : ℕ) (f : List ℕ) → Seq Is spell (λ x. Lists Is spell n) f → Lists Is spell (n + 1) f
lists_in Is spell n f (x, g, p, (xs, t, ps, any, e), h) =
    (x ∷ xs, t, (omega (arith, ps.0), (p, ps.1)), tt, h ∙ ap (λ (z : List ℕ). spell x ++ z) e ∙ sym (append_assoc (spell x) (flat_map spell xs) t))

lists_out : {X : Type 0} (Is : X → Type 0) (spell : X → List ℕ) (n : ℕ) (f : List ℕ) → Lists Is spell (n + 1) f → Seq Is spell (λ x. Lists Is spell n) f
lists_out Is spell n f ([], t, ps, any, e) = absurd (omega (arith, ps.0))
lists_out Is spell n f (x ∷ xs, t, ps, any, e) =
    (x, flat_map spell xs ++ t, ps.1.0, (xs, t, (omega (arith, ps.0), ps.1.1), tt, refl), e ∙ append_assoc (spell x) (flat_map spell xs) t)

pub copies : {X : Type 0} → X → ℕ → List X
copies x zero = []
copies x (suc n) = x ∷ copies x n

pub are_copies : {X : Type 0} (Is : X → Type 0) (x : X) → Is x → (n : ℕ) → Are Is n (copies x n)
unfolding copies
are_copies Is x p zero = (refl, tt)
are_copies Is x p (suc n) = let r = are_copies Is x p n in (omega (arith, r.0), (p, r.1))

pub lists_behind : {X : Type 0} (Is : X → Type 0) (spell : X → List ℕ) → SpelledApart Is spell
    → (F : List ℕ → Type 0) (bytes rest after : List ℕ) (n m : ℕ) (x : X) → n ≡ m + 1 → Is x → rest ≡ spell x ++ after
    → Behind F bytes (Lists Is spell n) rest → Behind F bytes (Lists Is spell m) after
lists_behind Is spell each F bytes rest after n m x en p e b = λ left s.
    let t : Stops (Lists Is spell (m + 1)) rest left =
    stops_alike (Seq Is spell (λ x. Lists Is spell m)) (Lists Is spell (m + 1)) rest left (lists_in Is spell m) (lists_out Is spell m) (stops_after Is spell (λ x. Lists Is spell m) each x rest after left p e s) in
    b left (subst (λ (z : ℕ). Stops (Lists Is spell z) rest left) (sym en) t)

pub lists_stop : {X : Type 0} (Is : X → Type 0) (spell : X → List ℕ) (F : List ℕ → Type 0) (bytes rest : List ℕ) (n m : ℕ) (stop : Stop) → n ≡ m + 1
    → Behind F bytes (Lists Is spell n) rest → IsWhyUnread (Seq Is spell (λ x. Any)) rest stop → IsWhyUnread F bytes stop
lists_stop Is spell F bytes rest n m stop en b s =
    let t = fails_alike (Seq Is spell (λ x. Lists Is spell m)) (Lists Is spell (m + 1)) rest stop (lists_in Is spell m) (lists_out Is spell m)
    (fails_first Is spell (λ x. Lists Is spell m) rest stop (λ x p. (flat_map spell (copies x m) ++ [], (copies x m, [], are_copies Is x p m, tt, refl))) s) in
    fails_behind F (Lists Is spell n) bytes rest stop b (subst (λ (z : ℕ). IsWhyUnread (Lists Is spell z) rest stop) (sym en) t)

-- ---- lists of ascending numbers

abbrev pub Rising : {X : Type 0} → (X → ℕ) → ℕ → ℕ → ℕ → List X → Type 0
Rising value low limit n xs = (length xs ≡ n) × Ascend low limit (map value xs)

abbrev pub Risings : {X : Type 0} → (X → ℕ) → (X → List ℕ) → ℕ → ℕ → ℕ → List ℕ → Type 0
Risings value spell low limit n = Seq (Rising value low limit n) (flat_map spell) (λ xs. Any)

-- from `low` on, with room for n more below the limit
abbrev pub Roomy : {X : Type 0} → (X → ℕ) → ℕ → ℕ → ℕ → X → Type 0
Roomy value low limit n x = (low ≤ value x) × (value x + n < limit)

abbrev pub ByOne : {X : Type 0} → (X → ℕ) → (X → List ℕ) → ℕ → ℕ → ℕ → List ℕ → Type 0
ByOne value spell low limit n = Seq (Roomy value low limit n) spell (λ x. Risings value spell (value x + 1) limit n)

ascend_room : {X : Type 0} (value : X → ℕ) (low limit : ℕ) (xs : List X) → low ≤ limit → Ascend low limit (map value xs) → low + length xs ≤ limit
ascend_room value low limit [] le p = omega arith
ascend_room value low limit (x ∷ xs) le p = let r = ascend_room value (value x + 1) limit xs (omega (arith, p.1)) p.2 in omega (arith, r, p.0)

risings_in : {X : Type 0} (value : X → ℕ) (spell : X → List ℕ) (low limit n : ℕ) (f : List ℕ) → ByOne value spell low limit n f → Risings value spell low limit (n + 1) f
risings_in value spell low limit n f (x, g, p, (xs, t, ps, any, e), h) =
    (x ∷ xs, t, (omega (arith, ps.0), (p.0, omega (arith, p.1), ps.1)), tt, h ∙ ap (λ (z : List ℕ). spell x ++ z) e ∙ sym (append_assoc (spell x) (flat_map spell xs) t))

risings_out : {X : Type 0} (value : X → ℕ) (spell : X → List ℕ) (low limit n : ℕ) (f : List ℕ) → Risings value spell low limit (n + 1) f → ByOne value spell low limit n f
risings_out value spell low limit n f ([], t, ps, any, e) = absurd (omega (arith, ps.0))
risings_out value spell low limit n f (x ∷ xs, t, ps, any, e) =
    let room = ascend_room value (value x + 1) limit xs (omega (arith, ps.1.1)) ps.1.2 in
    (x, flat_map spell xs ++ t, (ps.1.0, omega (arith, room, ps.0)), (xs, t, (omega (arith, ps.0), ps.1.2), tt, refl), e ∙ append_assoc (spell x) (flat_map spell xs) t)

pub row : {X : Type 0} → (ℕ → X) → ℕ → ℕ → List X
row make low zero = []
row make low (suc n) = make low ∷ row make (low + 1) n

pub row_rises : {X : Type 0} (value : X → ℕ) (make : ℕ → X) → ((n : ℕ) → value (make n) ≡ n) → (low limit n : ℕ) → low + n ≤ limit → Rising value low limit n (row make low n)
unfolding row
row_rises value make is low limit zero le = (refl, tt)
row_rises value make is low limit (suc n) le =
    let r = row_rises value make is (low + 1) limit n (omega arith) in
    let same : low + 1 ≡ value (make low) + 1 = omega (arith, is low) in
    (omega (arith, r.0), (omega (arith, is low), omega (arith, is low), subst (λ (z : ℕ). Ascend z limit (map value (row make (low + 1) n))) same r.1))

pub risings_behind : {X : Type 0} (value : X → ℕ) (spell : X → List ℕ) (limit : ℕ) → ((low n : ℕ) → SpelledApart (Roomy value low limit n) spell)
    → (F : List ℕ → Type 0) (bytes rest after : List ℕ) (low next n m : ℕ) (x : X) → n ≡ m + 1 → next ≡ value x + 1 → Roomy value low limit m x → rest ≡ spell x ++ after
    → Behind F bytes (Risings value spell low limit n) rest → Behind F bytes (Risings value spell next limit m) after
risings_behind {X} value spell limit each F bytes rest after low next n m x en enext p e b = λ left s.
    let G : X → List ℕ → Type 0 = λ x. Risings value spell (value x + 1) limit m in
    let s1 : Stops (Risings value spell (value x + 1) limit m) after left = subst (λ (z : ℕ). Stops (Risings value spell z limit m) after left) enext s in
    let t : Stops (Risings value spell low limit (m + 1)) rest left =
    stops_alike (ByOne value spell low limit m) (Risings value spell low limit (m + 1)) rest left (risings_in value spell low limit m) (risings_out value spell low limit m)
    (stops_after (Roomy value low limit m) spell G (each low m) x rest after left p e s1) in
    b left (subst (λ (z : ℕ). Stops (Risings value spell low limit z) rest left) (sym en) t)

pub risings_stop : {X : Type 0} (value : X → ℕ) (make : ℕ → X) (spell : X → List ℕ) (limit : ℕ) → ((n : ℕ) → value (make n) ≡ n)
    → (F : List ℕ → Type 0) (bytes rest : List ℕ) (low n m : ℕ) (stop : Stop) → n ≡ m + 1
    → Behind F bytes (Risings value spell low limit n) rest → IsWhyUnread (Seq (Roomy value low limit m) spell (λ x. Any)) rest stop → IsWhyUnread F bytes stop
risings_stop {X} value make spell limit is F bytes rest low n m stop en b s =
    let G : X → List ℕ → Type 0 = λ x. Risings value spell (value x + 1) limit m in
    let t = fails_alike (ByOne value spell low limit m) (Risings value spell low limit (m + 1)) rest stop (risings_in value spell low limit m) (risings_out value spell low limit m)
    (fails_first (Roomy value low limit m) spell G rest stop (λ x p. let r : List X = row make (value x + 1) m in (flat_map spell r ++ [], (r, [], row_rises value make is (value x + 1) limit m (omega (arith, p.1)), tt, refl))) s) in
    fails_behind F (Risings value spell low limit n) bytes rest stop b (subst (λ (z : ℕ). IsWhyUnread (Risings value spell low limit z) rest stop) (sym en) t)
