-- The first moment at which a transaction leaves its actor, or ends, is one: others that fail with codes of
-- their own tell a call from a return, from a value and from a failure.
use Rattle.std.proofs.Common.{◌≡◌, ℕ, zero, suc, ◌+◌, ◌*◌, ◌<◌, inl, inr, ℤ, pos, negsuc, Result, Ok, Err, List, ◌∷◌, length, replicate, set, refl, sym, ap, ◌∙◌, arith}
use Rattle.std.proofs.lemmas.List.{length-set, get_or-set_same}
use Rattle.snap_base.specs.declared.transactions.State.{State}
use Rattle.snap_base.specs.declared.transactions.TxResult.{TxResult}
use Rattle.snap_base.specs.declared.transactions.TxResult.TheVariants as result
use Rattle.aml_tree.specs.Tree.{CheckedMethod}
use Rattle.aml_check.specs.Meaning.{Progress, state_at, field_at, zero_state}
use Rattle.snap_base.specs.declared.next.Next.{Next}
use Rattle.snap_base.specs.declared.next.Next.TheVariants.{Go, Ended}
use Rattle.aml_slice.specs.Controls.{Frame, Rest}
use Rattle.aml_slice.specs.Wholes.{Holds}
use Rattle.aml_slice.specs.Moments.{Others, Rise, gives_near, EndsWith, CallsAway, ReturnsAway, GoesAway, IsMoment, IsSameEnd, IsSameState}

-- others that fail, a call by its actor above one code, and a return with another
abbrev telling : ℕ → ℕ → Others
telling k m = record { call = λ more a method arguments r. Err (k + a); back = λ v r. Err m }

telling_rise : (k m : ℕ) → Rise (telling k m)
telling_rise k m = record { call = λ more a method arguments r q v e. absurd cc; back = λ x r q v e. absurd cc }

-- some world of so many actors
zeros_length : (n : ℕ) → length (replicate n zero_state) ≡ n
zeros_length zero = refl
zeros_length (suc n) = ap (λ k. suc k) (zeros_length n)

abbrev some_world : ℕ → ℕ → State → List State
some_world count own s = set (replicate count zero_state) own s

some_holds : (count own : ℕ) (s : State) → own < count → Holds count own s (some_world count own s)
some_holds count own s known = record {
  size = length-set (replicate count zero_state) own s ∙ zeros_length count;
  state = get_or-set_same (replicate count zero_state) own s zero_state (let inside : own < length (replicate count zero_state) = omega (arith, known, zeros_length count) in inside);
}

abbrev told : List CheckedMethod → ℕ → Rest → State → ℕ → ℕ → Result (ℤ × Progress) ℕ
told p count c s k m = gives_near p (telling k m) c (some_world count c.top.actor s)

call_told : (p : List CheckedMethod) (count : ℕ) (c : Rest) (s t : State) (d : Rest) (k m : ℕ) → c.top.actor < count → CallsAway p count c s t d → told p count c s k m ≡ Err (k + d.top.actor)
call_told p count c s t d k m known calls = calls.gives (telling k m) (telling_rise k m) (some_world count c.top.actor s) (some_holds count c.top.actor s known)

return_told : (p : List CheckedMethod) (count : ℕ) (c : Rest) (s t : State) (d : Rest) (k m : ℕ) → c.top.actor < count → ReturnsAway p count c s t d → told p count c s k m ≡ Err m
return_told p count c s t d k m known returns = returns.gives (telling k m) (telling_rise k m) (some_world count c.top.actor s) (some_holds count c.top.actor s known)

fail_told : (p : List CheckedMethod) (count : ℕ) (c : Rest) (s t : State) (code k m : ℕ) → c.top.actor < count → EndsWith p count c s t (result.Fail code) → told p count c s k m ≡ Err code
fail_told p count c s t code k m known ends = ends (telling k m) (telling_rise k m) (some_world count c.top.actor s) (some_holds count c.top.actor s known)

value_told : (p : List CheckedMethod) (count : ℕ) (c : Rest) (s t : State) (v : ℤ) (k m : ℕ) → c.top.actor < count → EndsWith p count c s t (result.Value v) → (q : Progress) × (told p count c s k m ≡ Ok (v, q))
value_told p count c s t v k m known ends =
    let last = ends (telling k m) (telling_rise k m) (some_world count c.top.actor s) (some_holds count c.top.actor s known) in
    (last.0, last.1)

same_code : (m n : ℕ) → (let a : Result (ℤ × Progress) ℕ = Err m in a ≡ Err n) → m ≡ n
same_code m n e = cc

same_value : (v w : ℤ) (q r : Progress) → (let a : Result (ℤ × Progress) ℕ = Ok (v, q) in a ≡ Ok (w, r)) → v ≡ w
same_value v w q r e = let pairs : (let x : ℤ × Progress = (v, q) in let y : ℤ × Progress = (w, r) in x ≡ y) = cc in ap (λ (x : ℤ × Progress). x.0) pairs

no_value : (v : ℤ) (q : Progress) (n : ℕ) → (let a : Result (ℤ × Progress) ℕ = Ok (v, q) in a ≡ Err n) → ⊥
no_value v q n e = cc

-- ---- the ends of two kinds

away_and_ended : (p : List CheckedMethod) (count : ℕ) (c : Rest) (s t u : State) (d : Rest) (r : TxResult) → c.top.actor < count → GoesAway p count c s t d → EndsWith p count c s u r → ⊥
away_and_ended p count c s t u d (result.Value v) known (inl calls) ends =
    let e = value_told p count c s u v 0 0 known ends in
    no_value v e.0 (0 + d.top.actor) (sym e.1 ∙ call_told p count c s t d 0 0 known calls)
away_and_ended p count c s t u d (result.Value v) known (inr returns) ends =
    let e = value_told p count c s u v 0 0 known ends in
    no_value v e.0 0 (sym e.1 ∙ return_told p count c s t d 0 0 known returns)
away_and_ended p count c s t u d (result.Fail code) known (inl calls) ends =
    let same = same_code (code + 1 + d.top.actor) code (sym (call_told p count c s t d (code + 1) 0 known calls) ∙ fail_told p count c s u code (code + 1) 0 known ends) in
    omega (arith, same)
away_and_ended p count c s t u d (result.Fail code) known (inr returns) ends =
    let same = same_code (code + 1) code (sym (return_told p count c s t d 0 (code + 1) known returns) ∙ fail_told p count c s u code 0 (code + 1) known ends) in
    omega (arith, same)

first_frame : (f g : Frame) (fs gs : List Frame) → f ∷ fs ≡ g ∷ gs → f ≡ g
first_frame f g fs gs e = cc

same_actor : (p : List CheckedMethod) (count : ℕ) (c : Rest) (s t u : State) (d e : Rest) → c.top.actor < count → GoesAway p count c s t d → GoesAway p count c s u e → d.top.actor ≡ e.top.actor
same_actor p count c s t u d e known (inl x) (inl y) =
    let same = same_code (0 + d.top.actor) (0 + e.top.actor) (sym (call_told p count c s t d 0 0 known x) ∙ call_told p count c s u e 0 0 known y) in
    omega (arith, same)
same_actor p count c s t u d e known (inl x) (inr y) =
    let same = same_code (1 + d.top.actor) 0 (sym (call_told p count c s t d 1 0 known x) ∙ return_told p count c s u e 1 0 known y) in
    absurd (omega (arith, same))
same_actor p count c s t u d e known (inr x) (inl y) =
    let same = same_code 0 (1 + e.top.actor) (sym (return_told p count c s t d 1 0 known x) ∙ call_told p count c s u e 1 0 known y) in
    absurd (omega (arith, same))
same_actor p count c s t u d e known (inr x) (inr y) =
    let frames = first_frame x.frame y.frame d.waiting e.waiting (sym x.waited ∙ y.waited) in
    ap (λ (f : Frame). f.actor) x.takes ∙ ap (λ (f : Frame). f.actor) frames ∙ sym (ap (λ (f : Frame). f.actor) y.takes)

same_result : (p : List CheckedMethod) (count : ℕ) (c : Rest) (s t u : State) (r q : TxResult) → c.top.actor < count → EndsWith p count c s t r → EndsWith p count c s u q → r ≡ q
same_result p count c s t u (result.Value v) (result.Value w) known x y =
    let a = value_told p count c s t v 0 0 known x in
    let b = value_told p count c s u w 0 0 known y in
    ap (λ z. result.Value z) (same_value v w a.0 b.0 (sym a.1 ∙ b.1))
same_result p count c s t u (result.Value v) (result.Fail code) known x y =
    let a = value_told p count c s t v 0 0 known x in
    absurd (no_value v a.0 code (sym a.1 ∙ fail_told p count c s u code 0 0 known y))
same_result p count c s t u (result.Fail code) (result.Value w) known x y =
    let b = value_told p count c s u w 0 0 known y in
    absurd (no_value w b.0 code (sym b.1 ∙ fail_told p count c s t code 0 0 known x))
same_result p count c s t u (result.Fail m) (result.Fail n) known x y =
    ap (λ z. result.Fail z) (same_code m n (sym (fail_told p count c s t m 0 0 known x) ∙ fail_told p count c s u n 0 0 known y))

pub one_end : (p : List CheckedMethod) (count : ℕ) (c : Rest) (s t u : State) (m n : Next Rest) → c.top.actor < count → IsMoment p count c s t m → IsMoment p count c s u n → IsSameEnd m n
one_end p count c s t u (Go b d) (Go a e) known x y = same_actor p count c s t u d e known x y
one_end p count c s t u (Go b d) (Ended r) known x y = away_and_ended p count c s t u d r known x y
one_end p count c s t u (Ended r) (Go a e) known x y = away_and_ended p count c s u t e r known y x
one_end p count c s t u (Ended r) (Ended q) known x y = same_result p count c s t u r q known x y

-- ---- the state

-- a number for each value
number_of : ℤ → ℕ
number_of (pos n) = 2 * n
number_of (negsuc n) = 2 * n + 1

number_one : (v w : ℤ) → number_of v ≡ number_of w → v ≡ w
unfolding number_of
number_one (pos m) (pos n) e = ap pos (omega (arith, e))
number_one (pos m) (negsuc n) e = absurd (omega (arith, e))
number_one (negsuc m) (pos n) e = absurd (omega (arith, e))
number_one (negsuc m) (negsuc n) e = ap negsuc (omega (arith, e))

-- others that fail with a field of an actor
abbrev showing : ℕ → ℕ → Others
showing own k = record {
  call = λ more a method arguments r. Err (number_of (field_at (state_at r.world own) k));
  back = λ v r. Err (number_of (field_at (state_at r.world own) k));
}

showing_rise : (own k : ℕ) → Rise (showing own k)
showing_rise own k = record { call = λ more a method arguments r q v e. absurd cc; back = λ x r q v e. absurd cc }

abbrev shown : List CheckedMethod → ℕ → Rest → State → ℕ → Result (ℤ × Progress) ℕ
shown p count c s k = gives_near p (showing c.top.actor k) c (some_world count c.top.actor s)

left_there : (count own : ℕ) (s t : State) → own < count → state_at (set (some_world count own s) own t) own ≡ t
left_there count own s t known =
    let size : length (some_world count own s) ≡ count = (some_holds count own s known).size in
    get_or-set_same (some_world count own s) own t zero_state (let inside : own < length (some_world count own s) = omega (arith, known, size) in inside)

away_shown : (p : List CheckedMethod) (count : ℕ) (c : Rest) (s t : State) (d : Rest) (k : ℕ) → c.top.actor < count → GoesAway p count c s t d → shown p count c s k ≡ Err (number_of (field_at t k))
away_shown p count c s t d k known (inl calls) =
    calls.gives (showing c.top.actor k) (showing_rise c.top.actor k) (some_world count c.top.actor s) (some_holds count c.top.actor s known)
    ∙ ap (λ (z : State). let o : Result (ℤ × Progress) ℕ = Err (number_of (field_at z k)) in o) (left_there count c.top.actor s t known)
away_shown p count c s t d k known (inr returns) =
    returns.gives (showing c.top.actor k) (showing_rise c.top.actor k) (some_world count c.top.actor s) (some_holds count c.top.actor s known)
    ∙ ap (λ (z : State). let o : Result (ℤ × Progress) ℕ = Err (number_of (field_at z k)) in o) (left_there count c.top.actor s t known)

same_run : (v w : ℤ) (q r : Progress) → (let a : Result (ℤ × Progress) ℕ = Ok (v, q) in a ≡ Ok (w, r)) → q ≡ r
same_run v w q r e = let pairs : (let x : ℤ × Progress = (v, q) in let y : ℤ × Progress = (w, r) in x ≡ y) = cc in ap (λ (x : ℤ × Progress). x.1) pairs

same_left : (p : List CheckedMethod) (count : ℕ) (c : Rest) (s t u : State) (v w : ℤ) → c.top.actor < count → EndsWith p count c s t (result.Value v) → EndsWith p count c s u (result.Value w) → t ≡ u
same_left p count c s t u v w known x y =
    let a = x (telling 0 0) (telling_rise 0 0) (some_world count c.top.actor s) (some_holds count c.top.actor s known) in
    let b = y (telling 0 0) (telling_rise 0 0) (some_world count c.top.actor s) (some_holds count c.top.actor s known) in
    sym (left_there count c.top.actor s t known)
    ∙ ap (λ z. state_at z c.top.actor) (sym a.2 ∙ ap (λ (q : Progress). q.world) (same_run v w a.0 b.0 (sym a.1 ∙ b.1)) ∙ b.2)
    ∙ left_there count c.top.actor s u known

pub one_state : (p : List CheckedMethod) (count : ℕ) (c : Rest) (s t u : State) (m n : Next Rest) → c.top.actor < count → IsMoment p count c s t m → IsMoment p count c s u n → IsSameState m t u
one_state p count c s t u (Go b d) (Go a e) known x y = λ k. number_one (field_at t k) (field_at u k) (same_code (number_of (field_at t k)) (number_of (field_at u k)) (sym (away_shown p count c s t d k known x) ∙ away_shown p count c s u e k known y))
one_state p count c s t u (Go b d) (Ended r) known x y = absurd (away_and_ended p count c s t u d r known x y)
one_state p count c s t u (Ended (result.Fail code)) n known x y = tt
one_state p count c s t u (Ended (result.Value v)) (Go a e) known x y = absurd (away_and_ended p count c s u t e (result.Value v) known y x)
one_state p count c s t u (Ended (result.Value v)) (Ended (result.Fail code)) known x y = absurd (let a = value_told p count c s t v 0 0 known x in no_value v a.0 code (sym a.1 ∙ fail_told p count c s u code 0 0 known y))
one_state p count c s t u (Ended (result.Value v)) (Ended (result.Value w)) known x y = λ k. ap (λ (z : State). field_at z k) (same_left p count c s t u v w known x y)
