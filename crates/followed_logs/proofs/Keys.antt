-- A set of keys as a test.
use Rattle.std.specs.Prelude.{◌≡◌, refl, ◌==◌, Bool, true, false, List, [], ◌∷◌, Contains}
use Rattle.std.specs.List.{list_any}
use Rattle.std.proofs.Common.{sym, ap, subst, inl, inr, ◌∙◌}
use Rattle.std.proofs.lemmas.Bool.{true≢false, or_cases, or_left, or_right, eqb-true, eq-eqb}
use Rattle.protocol.specs.Parts.{Who, OfBatch, OfAct}
use Rattle.txn_records.specs.declared.keys.Key.{Key}
use Rattle.txn_records.specs.declared.keys.Key.TheVariants as keys
use Rattle.log_set.specs.Told.{bid_of, tid_of}
use Rattle.snap_recover.proofs.Lists.{contains_cases, contains_here, contains_there, contains_none}
use Rattle.followed_logs.specs.OnRecords.{key_of}

is_key_of : Who → Key → Bool
is_key_of (OfBatch k) (keys.Commit bid) = bid.0 == k
is_key_of (OfAct t) (keys.Act tid) = tid.0 == t
is_key_of y k = false

it_is : (y : Who) (k : Key) → is_key_of y k ≡ true → k ≡ key_of y
unfolding is_key_of
it_is (OfBatch k) (keys.Commit bid) e = ap (λ n. keys.Commit (bid_of n)) (eqb-true bid.0 k e)
it_is (OfAct t) (keys.Act tid) e = ap (λ n. keys.Act (tid_of n)) (eqb-true tid.0 t e)
it_is y k e = absurd (true≢false (sym e))

is_its_own : (y : Who) → is_key_of y (key_of y) ≡ true
unfolding is_key_of
is_its_own (OfBatch k) = eq-eqb k k refl
is_its_own (OfAct t) = eq-eqb t t refl

pub is_taken : List Key → Who → Bool
is_taken ks y = list_any (is_key_of y) ks

pub taken_is : (ks : List Key) (y : Who) → is_taken ks y ≡ true → Contains ks (key_of y)
unfolding is_taken
taken_is [] y h = absurd (true≢false (sym h))
taken_is (k ∷ ks) y h = elim (or_cases (is_key_of y k) (list_any (is_key_of y) ks) h) [
  | inl e ↦ subst (λ z. Contains (k ∷ ks) z) (it_is y k e) (contains_here k ks)
  | inr g ↦ contains_there k (key_of y) ks (taken_is ks y g)
]

pub is_then_taken : (ks : List Key) (y : Who) → Contains ks (key_of y) → is_taken ks y ≡ true
unfolding is_taken
is_then_taken [] y h = absurd (contains_none (key_of y) h)
is_then_taken (k ∷ ks) y h = elim (contains_cases k (key_of y) ks h) [
  | inl e ↦ or_left (is_key_of y k) (list_any (is_key_of y) ks) (subst (λ z. is_key_of y z ≡ true) (sym e) (is_its_own y))
  | inr g ↦ or_right (is_key_of y k) (list_any (is_key_of y) ks) (is_then_taken ks y g)
]

pub not_taken : (ks : List Key) (y : Who) → is_taken ks y ≡ false → ¬ Contains ks (key_of y)
not_taken ks y e h = true≢false (sym (is_then_taken ks y h) ∙ e)
