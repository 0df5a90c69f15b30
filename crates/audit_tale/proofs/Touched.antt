-- Lists of which some elements are touched: by places, one behind another, and what holds of each afterwards.
use Rattle.std.specs.Prelude.{◌≡◌, ◌≢◌, refl, ℕ, zero, suc, ◌+◌, ◌<◌, ◌==◌, ◌&&◌, ◌||◌, Bool, true, false, if◌then◌else◌, Option, Some, None, option_map, List, [], ◌∷◌, length, map, slice_get, slice_set}
use Rattle.std.specs.List.{AllByRecursion, list_any}
use Rattle.std.proofs.Common.{arith, sym, ap, subst, ◌∙◌}
use Rattle.std.proofs.lemmas.Bool.{eq-eqb, eqb-false, eqb-true, ne_eqb}
use Rattle.std.proofs.lemmas.List.{length-map}
use Rattle.std.proofs.lemmas.Option.{slice_get-map, slice_get_within}
use Rattle.snap_base.proofs.Lists.{each_found, get_other, one_at}
use Rattle.audit_tale.specs.Touching.{AreEased, AreTouched, IsChangedAt, IsEased, gave_up, where_touched}
use Rattle.audit_tale.specs.declared.tales.ActTale.{ActTale}
use Rattle.audit_tale.specs.declared.told.ActTies.{ActTies}

-- ---- by places

pub same_by_get : {X : Type 0} (xs ys : List X) → ((i : ℕ) → slice_get xs i ≡ slice_get ys i) → xs ≡ ys
same_by_get [] [] h = refl
same_by_get [] (y ∷ ys) h = absurd (cc (h 0))
same_by_get (x ∷ xs) [] h = absurd (cc (h 0))
same_by_get (x ∷ xs) (y ∷ ys) h = let e : x ≡ y = cc (h 0) in ap (λ z. z ∷ xs) e ∙ ap (λ zs. y ∷ zs) (same_by_get xs ys (λ i. h (suc i)))

pub all_by_get : {X : Type 0} (P : X → Type 0) (xs : List X) → ((i : ℕ) (x : X) → slice_get xs i ≡ Some x → P x) → AllByRecursion P xs
all_by_get P [] h = tt
all_by_get P (x ∷ xs) h = (h 0 x refl, all_by_get P xs (λ i y e. h (suc i) y e))

pub get_same : {X : Type 0} (xs : List X) (i : ℕ) (y : X) → i < length xs → slice_get (slice_set xs i y) i ≡ Some y
get_same [] i y l = absurd (omega (arith, l))
get_same (x ∷ xs) zero y l = refl
get_same (x ∷ xs) (suc i) y l = get_same xs i y (omega (arith, l))

pub there : {X : Type 0} (xs : List X) (i : ℕ) (x : X) → slice_get xs i ≡ Some x → i < length xs
there xs i x e = slice_get_within xs i x e

-- what stands at a place of a list of the same length
pub other_there : {X Y : Type 0} (xs : List X) (ys : List Y) (i : ℕ) (x : X) → length ys ≡ length xs → slice_get xs i ≡ Some x → (y : Y) × (slice_get ys i ≡ Some y)
other_there xs ys i x l e = one_at ys i (omega (arith, l, there xs i x e))

-- who is there now was there before
pub was : {X : Type 0} (g : X → X) (o : Option X) (y : X) → option_map g o ≡ Some y → (x : X) × (o ≡ Some x) × (g x ≡ y)
was g None y e = absurd (cc e)
was g (Some x) y e = (x, refl, cc e)

pub any_map : {X Y : Type 0} (p : Y → Bool) (f : X → Y) (xs : List X) → list_any p (map f xs) ≡ list_any (λ x. p (f x)) xs
any_map p f [] = refl
any_map p f (x ∷ xs) = ap (λ (b : Bool). p (f x) || b) (any_map p f xs)

-- ---- who is touched

pub touched_all : {X : Type 0} (P Q : X → Type 0) (f : X → X) (test : ℕ → Bool) (old new : List X) → AreTouched f test old new → ((i : ℕ) (x : X) → slice_get old i ≡ Some x → P x → Q (where_touched f (test i) x)) → AllByRecursion P old → AllByRecursion Q new
touched_all {X} P Q f test old new t h all = all_by_get Q new (λ i y e. one i y (was (where_touched f (test i)) (slice_get old i) y (sym (t i) ∙ e)))
  where
    one : (i : ℕ) (y : X) → (x : X) × (slice_get old i ≡ Some x) × (where_touched f (test i) x ≡ y) → Q y
    one i y p = subst Q p.2 (h i p.0 p.1 (each_found P old i p.0 p.1 all))

pub touched_map : {X Y : Type 0} (g : X → Y) (f : X → X) (test : ℕ → Bool) (old new : List X) → ((x : X) → g (f x) ≡ g x) → AreTouched f test old new → map g new ≡ map g old
touched_map {X} {Y} g f test old new same t = same_by_get (map g new) (map g old) (λ i. slice_get-map g new i ∙ (ap (option_map g) (t i) ∙ (by i (slice_get old i) ∙ sym (slice_get-map g old i))))
  where
    one : (b : Bool) (x : X) → g (where_touched f b x) ≡ g x
    one true x = same x
    one false x = refl

    by : (i : ℕ) (o : Option X) → option_map g (option_map (where_touched f (test i)) o) ≡ option_map g o
    by i None = refl
    by i (Some x) = ap Some (one (test i) x)

pub touched_none : {X : Type 0} (f : X → X) (test : ℕ → Bool) (xs : List X) → ((i : ℕ) → test i ≡ false) → AreTouched f test xs xs
touched_none {X} f test xs h i = by (slice_get xs i) (test i) (h i)
  where
    by : (o : Option X) (b : Bool) → b ≡ false → o ≡ option_map (where_touched f b) o
    by None b e = refl
    by (Some x) true e = absurd (cc e)
    by (Some x) false e = refl

pub touched_on : {X : Type 0} (f : X → X) (test more both : ℕ → Bool) (old mid new : List X) → ((x : X) → f (f x) ≡ f x) → ((i : ℕ) → both i ≡ (test i || more i)) → AreTouched f test old mid → AreTouched f more mid new → AreTouched f both old new
touched_on {X} f test more both old mid new idem is t u i =
    u i ∙ (ap (option_map (where_touched f (more i))) (t i) ∙ (by (slice_get old i) (test i) (more i) ∙ sym (ap (λ (b : Bool). option_map (where_touched f b) (slice_get old i)) (is i))))
  where
    by : (o : Option X) (b c : Bool) → option_map (where_touched f c) (option_map (where_touched f b) o) ≡ option_map (where_touched f (b || c)) o
    by None b c = refl
    by (Some x) true true = ap Some (idem x)
    by (Some x) true false = refl
    by (Some x) false c = refl

pub touched_set : {X : Type 0} (f : X → X) (at : ℕ) (x : X) (old new : List X) → slice_get old at ≡ Some x → new ≡ slice_set old at (f x) → AreTouched f (λ i. at == i) old new
touched_set {X} f at x old new e q i = ap (λ (xs : List X). slice_get xs i) q ∙ by (at == i) refl
  where
    by : (b : Bool) → (at == i) ≡ b → slice_get (slice_set old at (f x)) i ≡ option_map (where_touched f b) (slice_get old i)
    by true r =
        let same : at ≡ i = eqb-true at i r in
        subst (λ (j : ℕ). slice_get (slice_set old at (f x)) j ≡ option_map (where_touched f true) (slice_get old j)) same (get_same old at (f x) (there old at x e) ∙ sym (ap (option_map (where_touched f true)) e))
    by false r = get_other old i at (f x) (eqb-false at i r) ∙ none (slice_get old i)
      where
        none : (o : Option X) → o ≡ option_map (where_touched f false) o
        none None = refl
        none (Some y) = refl

pub touched_as : {X : Type 0} (f : X → X) (test more : ℕ → Bool) (old new : List X) → ((i : ℕ) → more i ≡ test i) → AreTouched f test old new → AreTouched f more old new
touched_as {X} f test more old new is h i = h i ∙ ap (λ (b : Bool). option_map (where_touched f b) (slice_get old i)) (sym (is i))

pub touched_count : {X : Type 0} (f : X → X) (test : ℕ → Bool) (old new : List X) → AreTouched f test old new → length new ≡ length old
touched_count {X} f test old new h = sym (length-map new nothing) ∙ (ap length (touched_map nothing f test old new (λ x. refl) h) ∙ length-map old nothing)
  where
    nothing : X → ℕ
    nothing x = 0

-- an element that a number from 1 on names
pub touched_number : {X : Type 0} (f : X → X) (at k : ℕ) (x : X) (old new : List X) → k ≡ at + 1 → slice_get old at ≡ Some x → new ≡ slice_set old at (f x) → AreTouched f (λ i. k == i + 1) old new
touched_number f at k x old new q e n = touched_as f (λ i. at == i) (λ i. k == i + 1) old new (λ i. same i (at == i) refl) (touched_set f at x old new e n)
  where
    same : (i : ℕ) (b : Bool) → (at == i) ≡ b → (k == i + 1) ≡ b
    same i true r = eq-eqb k (i + 1) (omega (arith, q, eqb-true at i r))
    same i false r = ne_eqb k (i + 1) (λ g. eqb-false at i r (omega (arith, q, g)))

-- the same, of equal lists and tests
pub touched_along : {X : Type 0} (f : X → X) (test more : ℕ → Bool) (xs ys us vs : List X) → test ≡ more → xs ≡ us → ys ≡ vs → AreTouched f test xs ys → AreTouched f more us vs
touched_along {X} f test more xs ys us vs e p q h = subst (λ (t : ℕ → Bool). AreTouched f t us vs) e (subst (λ (zs : List X). AreTouched f test zs vs) p (subst (λ (zs : List X). AreTouched f test xs zs) q h))

-- ---- who is eased

pub eased_none : (test : ℕ → Bool) (acts : List ActTale) (xs : List ActTies) → ((i : ℕ) → test i ≡ false) → AreEased test acts xs xs
eased_none test acts xs h = record { count = refl; each = λ i x y e f. by i (test i) (h i) x y (cc (e, f)) }
  where
    by : (i : ℕ) (b : Bool) → b ≡ false → (x y : ActTies) → x ≡ y → IsEased (b && gave_up (slice_get acts i)) x y
    by i true q x y r = absurd (cc q)
    by i false q x y r = record { left = ap (λ (z : ActTies). z.left.items) (sym r); waiters = ap (λ (z : ActTies). z.waiters.items) (sym r) }

eased_both : (b c g : Bool) (x y z : ActTies) → IsEased (b && g) x y → IsEased (c && g) y z → IsEased ((b || c) && g) x z
eased_both b c g x y z h k = record { left = k.left ∙ h.left; waiters = by b c g h.waiters k.waiters }
  where
    by : (b c g : Bool) → y.waiters.items ≡ (if b && g then [] else x.waiters.items) → z.waiters.items ≡ (if c && g then [] else y.waiters.items) → z.waiters.items ≡ (if (b || c) && g then [] else x.waiters.items)
    by true true true p q = q
    by true true false p q = q ∙ p
    by true false true p q = q ∙ p
    by true false false p q = q ∙ p
    by false true true p q = q
    by false true false p q = q ∙ p
    by false false g p q = q ∙ p

pub eased_on : (test more both : ℕ → Bool) (acts : List ActTale) (old mid new : List ActTies) → ((i : ℕ) → both i ≡ (test i || more i)) → AreEased test acts old mid → AreEased more acts mid new → AreEased both acts old new
eased_on test more both acts old mid new is h k = record { count = k.count ∙ h.count; each = λ i x z e g. one i x z e g (other_there old mid i x h.count e) }
  where
    one : (i : ℕ) (x z : ActTies) → slice_get old i ≡ Some x → slice_get new i ≡ Some z → (y : ActTies) × (slice_get mid i ≡ Some y) → IsEased (both i && gave_up (slice_get acts i)) x z
    one i x z e g m = subst (λ (b : Bool). IsEased (b && gave_up (slice_get acts i)) x z) (sym (is i)) (eased_both (test i) (more i) (gave_up (slice_get acts i)) x m.0 z (h.each i x m.0 e m.1) (k.each i m.0 z m.1 g))

pub eased_as : (test more : ℕ → Bool) (acts : List ActTale) (old new : List ActTies) → ((i : ℕ) → more i ≡ test i) → AreEased test acts old new → AreEased more acts old new
eased_as test more acts old new is h = record { count = h.count; each = λ i x y e f. subst (λ (b : Bool). IsEased (b && gave_up (slice_get acts i)) x y) (sym (is i)) (h.each i x y e f) }

pub eased_along : (test more : ℕ → Bool) (acts also : List ActTale) (xs ys us vs : List ActTies) → test ≡ more → acts ≡ also → xs ≡ us → ys ≡ vs → AreEased test acts xs ys → AreEased more also us vs
eased_along test more acts also xs ys us vs e a p q h =
    subst (λ (t : ℕ → Bool). AreEased t also us vs) e (subst (λ (zs : List ActTale). AreEased test zs us vs) a (subst (λ (zs : List ActTies). AreEased test acts zs vs) p (subst (λ (zs : List ActTies). AreEased test acts xs zs) q h)))

-- ---- who is changed

pub unchanged : {X : Type 0} (R : X → X → Type 0) (at i : ℕ) (old new : List X) (y : X) → IsChangedAt R at old new → i ≢ at → slice_get new i ≡ Some y → slice_get old i ≡ Some y
unchanged R at i old new y h n e = sym (h.there i n) ∙ e
