-- Worlds with the same states on each actor.
use Rattle.std.specs.Prelude.{◌≡◌, refl, ℕ, suc, ◌<◌, List, [], ◌∷◌, length}
use Rattle.std.proofs.Common.{arith}
use Rattle.snap_base.specs.declared.transactions.State.{State}
use Rattle.protocol.specs.Facts.{state_in}

pub same_world : (xs ys : List State) → length xs ≡ length ys → ((a : ℕ) → a < length xs → state_in xs a ≡ state_in ys a) → xs ≡ ys
same_world [] [] e h = refl
same_world [] (y ∷ ys) e h = absurd (omega (arith, e))
same_world (x ∷ xs) [] e h = absurd (omega (arith, e))
same_world (x ∷ xs) (y ∷ ys) e h =
    let p : x ≡ y = h 0 (omega arith) in
    let q : xs ≡ ys = same_world xs ys (omega (arith, e)) (λ a l. h (suc a) (omega (arith, l))) in
    rw (p, q) refl
