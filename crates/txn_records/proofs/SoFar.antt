-- What the loops over lists keep: what was read, and that a stop of the rest is one of the whole.
use Rattle.std.proofs.Common.{◌≡◌, ℕ, ◌+◌, ◌-◌, ◌<◌, ◌≤◌, List, [], ◌∷◌, ◌++◌, length, get_or, take, map, refl, sym, ap, subst, ◌∙◌, append_assoc, arith}
use Rattle.std.specs.List.{AllByRecursion, flat_map}
use Rattle.std.proofs.lemmas.List.{append-nil, length-append, flat_map_more, take_all, take_more}
use Rattle.snap_base.proofs.Lists.{all_push}
use Rattle.txn_records.specs.declared.numbers.Stop.{Stop}
use Rattle.txn_records.specs.Records.{Ascend}
use Rattle.txn_records.specs.Stops.{Stops, IsWhyUnread, Any, Seq}
use Rattle.txn_records.proofs.OneRecord.{SpelledApart}
use Rattle.txn_records.proofs.Lists.{Lists, lists_behind, lists_stop, Roomy, Risings, risings_behind, risings_stop}

pub each_more : {A : Type 0} (P : A → Type 0) (xs : List A) (i : ℕ) (d : A) → i < length xs → AllByRecursion P (take i xs) → P (get_or xs i d) → AllByRecursion P (take (i + 1) xs)
each_more P xs i d lt h p = subst (AllByRecursion P) (sym (take_more xs i d lt)) (all_push P (take i xs) (get_or xs i d) h p)

pub each_there : {A : Type 0} (P : A → Type 0) (xs : List A) (n : ℕ) → length xs ≤ n → AllByRecursion P (take n xs) → AllByRecursion P xs
each_there P xs n all h = subst (AllByRecursion P) (take_all n xs all) h

spelled_more : {X : Type 0} (spell : X → List ℕ) (bytes rest after : List ℕ) (xs : List X) (x : X) → bytes ≡ flat_map spell xs ++ rest → rest ≡ spell x ++ after → bytes ≡ flat_map spell (xs ++ x ∷ []) ++ after
spelled_more spell bytes rest after xs x e h =
    e ∙ ap (λ (z : List ℕ). flat_map spell xs ++ z) h ∙ sym (append_assoc (flat_map spell xs) (spell x) after) ∙ ap (λ (z : List ℕ). z ++ after) (flat_map_more spell [] xs x)

pub record ListSoFar {X : Type 0} (Is : X → Type 0) (spell : X → List ℕ) (F : List ℕ → Type 0) (bytes rest : List ℕ) (xs : List X) (at left : ℕ) : Type 0 where
  pub len : length xs ≡ at
  pub each : AllByRecursion Is xs
  pub spelled : bytes ≡ flat_map spell xs ++ rest
  pub behind : (stop : ℕ) → Stops (Lists Is spell left) rest stop → Stops F bytes stop

pub list_begins : {X : Type 0} (Is : X → Type 0) (spell : X → List ℕ) (bytes : List ℕ) (count : ℕ) (xs : List X) → xs ≡ [] → ListSoFar Is spell (Lists Is spell count) bytes bytes xs 0 (count - 0)
list_begins {X} Is spell bytes count xs h =
    let r : ListSoFar Is spell (Lists Is spell count) bytes bytes [] 0 (count - 0) = record {
      len = refl;
      each = tt;
      spelled = refl;
      behind = λ stop s. let e : count - 0 ≡ count = omega arith in subst (λ (z : ℕ). Stops (Lists Is spell z) bytes stop) e s;
    } in
    subst (λ (z : List X). ListSoFar Is spell (Lists Is spell count) bytes bytes z 0 (count - 0)) (sym h) r

pub list_more : {X : Type 0} (Is : X → Type 0) (spell : X → List ℕ) → SpelledApart Is spell → (F : List ℕ → Type 0) (bytes rest after : List ℕ) (xs ys : List X) (x : X) (i count : ℕ)
    → i < count → Is x → rest ≡ spell x ++ after → ys ≡ xs ++ x ∷ []
    → ListSoFar Is spell F bytes rest xs i (count - i) → ListSoFar Is spell F bytes after ys (i + 1) (count - (i + 1))
list_more {X} Is spell each F bytes rest after xs ys x i count lt p e h s =
    let r : ListSoFar Is spell F bytes after (xs ++ x ∷ []) (i + 1) (count - (i + 1)) = record {
      len = omega (arith, length-append xs (x ∷ []), s.len);
      each = all_push Is xs x s.each p;
      spelled = spelled_more spell bytes rest after xs x s.spelled e;
      behind = lists_behind Is spell each F bytes rest after (count - i) (count - (i + 1)) x (omega arith) p e s.behind;
    } in
    subst (λ (z : List X). ListSoFar Is spell F bytes after z (i + 1) (count - (i + 1))) (sym h) r

pub list_fails : {X : Type 0} (Is : X → Type 0) (spell : X → List ℕ) (F : List ℕ → Type 0) (bytes rest : List ℕ) (xs : List X) (i count : ℕ) (stop : Stop) → i < count
    → ListSoFar Is spell F bytes rest xs i (count - i) → IsWhyUnread (Seq Is spell (λ x. Any)) rest stop → IsWhyUnread F bytes stop
list_fails Is spell F bytes rest xs i count stop lt s f = lists_stop Is spell F bytes rest (count - i) (count - (i + 1)) stop (omega arith) s.behind f

-- ---- ascending

pub record RisingSoFar {X : Type 0} (value : X → ℕ) (spell : X → List ℕ) (limit : ℕ) (F : List ℕ → Type 0) (bytes rest : List ℕ) (xs : List X) (low at left : ℕ) : Type 0 where
  pub len : length xs ≡ at
  pub room : low + left ≤ limit
  pub onto : (ys : List X) → Ascend low limit (map value ys) → Ascend 0 limit (map value (xs ++ ys))
  pub spelled : bytes ≡ flat_map spell xs ++ rest
  pub behind : (stop : ℕ) → Stops (Risings value spell low limit left) rest stop → Stops F bytes stop

pub rising_begins : {X : Type 0} (value : X → ℕ) (spell : X → List ℕ) (limit : ℕ) (bytes : List ℕ) (count : ℕ) (xs : List X) → xs ≡ [] → count ≤ limit → RisingSoFar value spell limit (Risings value spell 0 limit count) bytes bytes xs 0 0 (count - 0)
rising_begins {X} value spell limit bytes count xs h le =
    let r : RisingSoFar value spell limit (Risings value spell 0 limit count) bytes bytes [] 0 0 (count - 0) = record {
      len = refl;
      room = omega arith;
      onto = λ ys p. p;
      spelled = refl;
      behind = λ stop s. let e : count - 0 ≡ count = omega arith in subst (λ (z : ℕ). Stops (Risings value spell 0 limit z) bytes stop) e s;
    } in
    subst (λ (z : List X). RisingSoFar value spell limit (Risings value spell 0 limit count) bytes bytes z 0 0 (count - 0)) (sym h) r

pub rising_more : {X : Type 0} (value : X → ℕ) (spell : X → List ℕ) (limit : ℕ) → ((low n : ℕ) → SpelledApart (Roomy value low limit n) spell)
    → (F : List ℕ → Type 0) (bytes rest after : List ℕ) (xs ys : List X) (x : X) (low next i count : ℕ)
    → i < count → low ≤ value x → value x + (count - (i + 1)) < limit → next ≡ value x + 1 → rest ≡ spell x ++ after → ys ≡ xs ++ x ∷ []
    → RisingSoFar value spell limit F bytes rest xs low i (count - i) → RisingSoFar value spell limit F bytes after ys next (i + 1) (count - (i + 1))
rising_more {X} value spell limit each F bytes rest after xs ys x low next i count lt l u en e h s =
    let r : RisingSoFar value spell limit F bytes after (xs ++ x ∷ []) next (i + 1) (count - (i + 1)) = record {
      len = omega (arith, length-append xs (x ∷ []), s.len);
      room = omega arith;
      onto = λ zs p.
          let q : Ascend (value x + 1) limit (map value zs) = subst (λ (z : ℕ). Ascend z limit (map value zs)) en p in
          subst (λ (z : List X). Ascend 0 limit (map value z)) (sym (append_assoc xs (x ∷ []) zs)) (s.onto (x ∷ zs) (l, omega arith, q));
      spelled = spelled_more spell bytes rest after xs x s.spelled e;
      behind = risings_behind value spell limit each F bytes rest after low next (count - i) (count - (i + 1)) x (omega arith) en (l, u) e s.behind;
    } in
    subst (λ (z : List X). RisingSoFar value spell limit F bytes after z next (i + 1) (count - (i + 1))) (sym h) r

pub rising_fails : {X : Type 0} (value : X → ℕ) (make : ℕ → X) (spell : X → List ℕ) (limit : ℕ) → ((n : ℕ) → value (make n) ≡ n)
    → (F : List ℕ → Type 0) (bytes rest : List ℕ) (xs : List X) (low i count : ℕ) (stop : Stop) → i < count
    → RisingSoFar value spell limit F bytes rest xs low i (count - i) → IsWhyUnread (Seq (Roomy value low limit (count - (i + 1))) spell (λ x. Any)) rest stop → IsWhyUnread F bytes stop
rising_fails value make spell limit is F bytes rest xs low i count stop lt s f = risings_stop value make spell limit is F bytes rest low (count - i) (count - (i + 1)) stop (omega arith) s.behind f

pub rising_ends : {X : Type 0} (value : X → ℕ) (spell : X → List ℕ) (limit : ℕ) (F : List ℕ → Type 0) (bytes rest : List ℕ) (xs : List X) (low at left : ℕ)
    → RisingSoFar value spell limit F bytes rest xs low at left → Ascend 0 limit (map value xs)
rising_ends {X} value spell limit F bytes rest xs low at left s = subst (λ (z : List X). Ascend 0 limit (map value z)) (append-nil xs) (s.onto [] tt)
