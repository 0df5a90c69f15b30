-- The words of a seed, one after the other.
use Rattle.std.proofs.Common.{◌≡◌, ℕ, zero, suc, ◌+◌, ◌∙◌, List, [], ◌∷◌, ◌++◌, length, refl, sym, ap, subst, arith}
use Rattle.std.proofs.lemmas.List.{length-append}
use Rattle.rand_pcg.specs.Lcg.{Lcg, advance, next, next_state, state_after}
use Rattle.rand_pcg.specs.Pcg.{multiplier_64, output_xsh_rr, pcg32}
use Rattle.protocol.specs.Events.{Event}
use Rattle.protocol_schedule.specs.Draw.{generator_of, word_of}
use Rattle.solo_host.specs.Turns.{IsBehindWords}

-- one step more
state_on : (m increment n state : ℕ) → state_after 64 m increment (suc n) state ≡ next_state 64 m increment (state_after 64 m increment n state)
unfolding state_after
state_on m increment zero state = refl
state_on m increment (suc n) state = state_on m increment n (next_state 64 m increment state)

goes_on : (g : Lcg) (step : ℕ) → next 64 multiplier_64 (advance 64 multiplier_64 step g) ≡ advance 64 multiplier_64 (step + 1) g
goes_on g step =
    let next : suc step ≡ step + 1 = omega arith in
    ap (λ s. record g { state = s }) (sym (state_on multiplier_64 g.increment step g.state) ∙ ap (λ n. state_after 64 multiplier_64 g.increment n g.state) next)

pub begins : (seed : ℕ) (g : Lcg) → g ≡ generator_of seed → IsBehindWords seed 0 g
unfolding state_after
begins seed g is = is

pub word_drawn : (word : ℕ) (old new : Lcg) → (word, new) ≡ pcg32 old → (seed step : ℕ) → IsBehindWords seed step old → word ≡ word_of seed step
word_drawn word old new is seed step at = ap (λ p. p.0) is ∙ ap (λ (g : Lcg). output_xsh_rr g.state) at

pub words_go_on : (word : ℕ) (old new : Lcg) → (word, new) ≡ pcg32 old → (seed step : ℕ) → IsBehindWords seed step old → IsBehindWords seed (step + 1) new
words_go_on word old new is seed step at = ap (λ p. p.1) is ∙ ap (λ (g : Lcg). next 64 multiplier_64 g) at ∙ goes_on (generator_of seed) step

-- a step for each event
pub drawn_on : (seed : ℕ) (es kept : List Event) (e : Event) (g : Lcg) → kept ≡ es ++ e ∷ [] → IsBehindWords seed (length es + 1) g → IsBehindWords seed (length kept) g
drawn_on seed es kept e g more at =
    let many = ap (λ (xs : List Event). length xs) more in
    let joined = length-append es (e ∷ []) in
    let same : length es + 1 ≡ length kept = omega (arith, many, joined) in
    subst (λ n. IsBehindWords seed n g) same at
