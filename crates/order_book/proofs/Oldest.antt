-- The oldest of those that are older, met one after the other.
use Rattle.std.proofs.Common.{◌≡◌, ℕ, refl, ap, arith}
use Rattle.std.specs.Prelude.{Bool, true, false, min, if◌then◌else◌, Option, Some, None}
use Rattle.protocol.specs.Words.{least_of}

-- the older of one that was met and one that is still to be met
abbrev pub older_in : Option ℕ → Option ℕ → Option ℕ
older_in None r = r
older_in (Some a) r = Some (least_of a r)

least_of_both : (x a : ℕ) (r : Option ℕ) → Some (least_of a (Some (least_of x r))) ≡ Some (least_of (min x a) r)
least_of_both x a None = ap (λ (n : ℕ). Some n) (omega arith)
least_of_both x a (Some y) = ap (λ (n : ℕ). Some n) (omega arith)

-- one that is older is met
older_joins : (x : ℕ) (acc r : Option ℕ) → older_in acc (Some (least_of x r)) ≡ older_in (Some (least_of x acc)) r
older_joins x None r = refl
older_joins x (Some a) r = least_of_both x a r

pub older_more : (b : Bool) (x : ℕ) (acc r : Option ℕ) → older_in acc (if b then Some (least_of x r) else r) ≡ older_in (if b then Some (least_of x acc) else acc) r
older_more true x acc r = older_joins x acc r
older_more false x acc r = refl
