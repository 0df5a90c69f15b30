-- What a condition that holds has found.
use Rattle.std.proofs.Common.{◌≡◌, Bool, true, false, Option, Some, None, is_some, refl, ap, ◌∙◌}
use Rattle.std.specs.Option.{option_map}
use Rattle.protocol.specs.Words.{holds}

-- something is there
pub held : {X : Type 0} (test : X → Bool) (o : Option X) → holds test o ≡ true → (x : X) × (o ≡ Some x)
held test None h = absurd (cc h)
held test (Some x) h = (x, refl)

-- what stands for it is there
pub told_some : {X Y Z : Type 0} (f : X → Z) (h : Y → Z) (r : Option X) (o : Option Y) (y : Y) → option_map f r ≡ option_map h o → o ≡ Some y → is_some r ≡ true
told_some f h None o y same is = let e : None ≡ Some (h y) = same ∙ ap (option_map h) is in absurd (cc e)
told_some f h (Some x) o y same is = refl

pub is_there : {X Y : Type 0} (h : Y → X) (r : Option X) (o : Option Y) (y : Y) → r ≡ option_map h o → o ≡ Some y → r ≡ Some (h y)
is_there h r o y same is = same ∙ ap (option_map h) is

-- one is there where the other is
pub same_some : {X Y Z : Type 0} (f : X → Z) (h : Y → Z) (r : Option X) (o : Option Y) → option_map f r ≡ option_map h o → is_some o ≡ is_some r
same_some f h None None same = refl
same_some f h None (Some y) same = let e : None ≡ Some (h y) = same in absurd (cc e)
same_some f h (Some x) None same = let e : Some (f x) ≡ None = same in absurd (cc e)
same_some f h (Some x) (Some y) same = refl

-- a test of what was told
pub test_of_told : {X Y : Type 0} (test : X → Bool) (h : Y → X) (o : Option Y) (x : X) → Some x ≡ option_map h o → test x ≡ holds (λ y. test (h y)) o
test_of_told test h None x same = absurd (cc same)
test_of_told test h (Some y) x same = let e : x ≡ h y = cc same in ap test e

pub nothing_told : {X Y : Type 0} (test : X → Bool) (h : Y → X) (o : Option Y) → None ≡ option_map h o → false ≡ holds (λ y. test (h y)) o
nothing_told test h None same = refl
nothing_told test h (Some y) same = let e : None ≡ Some (h y) = same in absurd (cc e)

-- a test that nothing meets
pub never : {X : Type 0} (test : X → Bool) (o : Option X) → ((x : X) → test x ≡ false) → holds test o ≡ false
never test None h = refl
never test (Some x) h = h x

-- it is there where what stands for it is
pub is_some_where_told : {X Y : Type 0} (f : X → Y) (r : Option X) (o : Option Y) → option_map f r ≡ o → is_some o ≡ true → is_some r ≡ true
is_some_where_told f None o same there = ap is_some same ∙ there
is_some_where_told f (Some x) o same there = refl
