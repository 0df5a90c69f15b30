-- Two truth values that are the same, as a truth value.
use Rattle.std.specs.Prelude.{◌≡◌, refl, not, Bool, true, false}
use Rattle.std.proofs.Common.{sym}
use Rattle.std.proofs.lemmas.Bool.{true≢false}

abbrev pub agree : Bool → Bool → Bool
agree true b = b
agree false b = not b

pub agree_same : (b : Bool) → agree b b ≡ true
agree_same true = refl
agree_same false = refl

pub agree_is : (a b : Bool) → agree a b ≡ true → a ≡ b
agree_is true true h = refl
agree_is true false h = absurd (true≢false (sym h))
agree_is false true h = absurd (true≢false (sym h))
agree_is false false h = refl
