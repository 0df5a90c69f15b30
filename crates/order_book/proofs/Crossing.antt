-- Where numbers do not cross, a crossing leaves the ACT as it is.
use Rattle.std.proofs.Common.{◌≡◌, ℕ, zero, suc, List, [], ◌∷◌, refl, ap, sym, ◌∙◌}
use Rattle.std.specs.Prelude.{not, ◌&&◌, Bool, true, false, if◌then◌else◌, slice_get, unwrap_or}
use Rattle.protocol.specs.Parts.{Act, Doomed}
use Rattle.protocol.specs.Words.{holds, is_live_status}
use Rattle.protocol.specs.Spread.{crossed_out, reaches}
use Rattle.protocol.specs.Verdicts.{out_of_order}
use Rattle.order_book.specs.Changes.{changed_at}

and_false : (b : Bool) → (b && false) ≡ false
and_false true = refl
and_false false = refl

uncrossed : (a : ℕ) (x : Act) → reaches x.m x.n ≡ false → crossed_out a x ≡ x
uncrossed a x e = ap (λ b. record x { status = if b then Doomed (out_of_order x.m (unwrap_or x.n 0) a) else x.status }) (ap (λ b. is_live_status x.status && b) e ∙ and_false (is_live_status x.status))

pub uncrossed_at : (a at : ℕ) (acts : List Act) → holds (λ x. reaches x.m x.n) (slice_get acts at) ≡ false → changed_at at (crossed_out a) acts ≡ acts
uncrossed_at a at [] e = refl
uncrossed_at a zero (x ∷ xs) e = ap (λ y. y ∷ xs) (uncrossed a x e)
uncrossed_at a (suc at) (x ∷ xs) e = ap (λ ys. x ∷ ys) (uncrossed_at a at xs e)

pub not_true : (b : Bool) → not b ≡ true → b ≡ false
not_true true e = sym e
not_true false e = refl
