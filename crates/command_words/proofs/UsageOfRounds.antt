-- Which words are a form, and which word is the wrong one, behind `follow`.
use Rattle.std.proofs.Common.{◌≡◌, ℕ, ◌<◌, ◌≤◌, List, [], ◌∷◌, length, refl, sym, inl, inr, arith}
use Rattle.std.specs.Prelude.{codes}
use Rattle.std.specs.Fmt.{decimal}
use Rattle.command_words.proofs.Names.{heads, tails, run_follow, recover_follow, gen_follow, bench_follow, migrate_follow, audit_follow, compact_follow}
use Rattle.command_words.specs.Words.{IsForm, BeginsForm, IsUsageFault}

-- a number of rounds, and nothing else
abbrev AreRounds : List (List ℕ) → Type 0
AreRounds ws = (n : ℕ) × (ws ≡ decimal n ∷ []) × (2 ≤ n) × (n ≤ 1000)

behind_follow : (ws : List (List ℕ)) → IsForm (codes "follow" ∷ ws) → AreRounds ws
behind_follow ws (inl (n, s, run)) = absurd (run_follow (sym (heads _ _ ws _ run.1)))
behind_follow ws (inr (inl e)) = absurd (recover_follow (sym (heads _ _ ws _ e)))
behind_follow ws (inr (inr (inl (count, s, gen)))) = absurd (gen_follow (sym (heads _ _ ws _ gen.0)))
behind_follow ws (inr (inr (inr (inl (count, s, n, bench))))) = absurd (bench_follow (sym (heads _ _ ws _ bench.1)))
behind_follow ws (inr (inr (inr (inr (inl e))))) = absurd (migrate_follow (sym (heads _ _ ws _ e)))
behind_follow ws (inr (inr (inr (inr (inr (inl e)))))) = absurd (audit_follow (sym (heads _ _ ws _ e)))
behind_follow ws (inr (inr (inr (inr (inr (inr (inl e))))))) = absurd (compact_follow (sym (heads _ _ ws _ e)))
behind_follow ws (inr (inr (inr (inr (inr (inr (inr (n, follow)))))))) = (n, tails _ _ ws _ follow.0, follow.1, follow.2)

follow_form : (n : ℕ) → 2 ≤ n → n ≤ 1000 → IsForm (codes "follow" ∷ decimal n ∷ [])
follow_form n some few = inr (inr (inr (inr (inr (inr (inr (n, (refl, some, few))))))))

follow_begins : BeginsForm (codes "follow" ∷ [])
follow_begins = (decimal 2 ∷ [], follow_form 2 (omega arith) (omega arith))

pub rounds_lack : IsUsageFault (codes "follow" ∷ []) 1
rounds_lack = record {
  no_form = λ h. let x = behind_follow [] h in let f : [] ≡ decimal x.0 ∷ [] = x.1 in cc;
  wrong = inl (refl, follow_begins);
}

pub rounds_wrong : (w : List ℕ) (ws : List (List ℕ)) → ((n : ℕ) → 2 ≤ n → n ≤ 1000 → w ≡ decimal n → ⊥) → IsUsageFault (codes "follow" ∷ w ∷ ws) 1
rounds_wrong w ws none = record {
  no_form = not_rounds ws;
  wrong = inr (omega arith, follow_begins, λ b. not_rounds b.0 b.1);
} where
  not_rounds : (vs : List (List ℕ)) → IsForm (codes "follow" ∷ w ∷ vs) → ⊥
  not_rounds vs h = let x = behind_follow (w ∷ vs) h in none x.0 x.2 x.3 (heads w _ vs _ x.1)

pub too_many_rounds : (n : ℕ) (ws : List (List ℕ)) → 2 ≤ n → n ≤ 1000 → 0 < length ws → IsUsageFault (codes "follow" ∷ decimal n ∷ ws) 2
too_many_rounds n [] some few more = absurd (omega (arith, more))
too_many_rounds n (w ∷ ws) some few more = record {
  no_form = not_more ws;
  wrong = inr (omega arith, ([], follow_form n some few), λ b. not_more b.0 b.1);
} where
  not_more : (vs : List (List ℕ)) → IsForm (codes "follow" ∷ decimal n ∷ w ∷ vs) → ⊥
  not_more vs h =
      let x = behind_follow (decimal n ∷ w ∷ vs) h in
      let f : w ∷ vs ≡ [] = tails _ _ (w ∷ vs) _ x.1 in cc
