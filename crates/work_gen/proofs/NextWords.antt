-- The words of a seed, one after the other.
use Rattle.std.proofs.Common.{◌≡◌, ℕ, ◌+◌, zero, suc, refl, sym, ap, ◌∙◌, arith}
use Rattle.rand_pcg.specs.Lcg.{Lcg, next, next_state, state_after, advance}
use Rattle.rand_pcg.specs.Pcg.{multiplier_64, pcg32, output_xsh_rr}

next_after : (w m p n s : ℕ) → next_state w m p (state_after w m p n s) ≡ state_after w m p (n + 1) s
unfolding state_after
next_after w m p zero s = refl
next_after w m p (suc n) s =
    let more : suc (n + 1) ≡ suc n + 1 = omega arith in
    next_after w m p n (next_state w m p s) ∙ ap (λ (k : ℕ). state_after w m p k s) more

-- a word and the generator behind it, where so many words came before
pub word_next : (start g h : Lcg) (i j r : ℕ) → g ≡ advance 64 multiplier_64 i start → j ≡ i + 1 → ◌≡◌ {A = ℕ × Lcg} (r, h) (pcg32 g) → (r ≡ output_xsh_rr (advance 64 multiplier_64 i start).state) × (h ≡ advance 64 multiplier_64 j start)
word_next start g h i j r e f drawn =
    let one : r ≡ output_xsh_rr g.state = ap (λ (x : ℕ × Lcg). x.0) drawn in
    let two : h ≡ next 64 multiplier_64 g = ap (λ (x : ℕ × Lcg). x.1) drawn in (
      one ∙ ap (λ (x : Lcg). output_xsh_rr x.state) e,
      two ∙ ap (next 64 multiplier_64) e ∙ ap (λ (s : ℕ). record start { state = s }) (next_after 64 multiplier_64 start.increment i start.state ∙ ap (λ (k : ℕ). state_after 64 multiplier_64 start.increment k start.state) (sym f)),
    )
