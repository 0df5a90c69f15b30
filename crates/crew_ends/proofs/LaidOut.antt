-- Parts that become shares, from the last one on.
use Rattle.std.proofs.Common.{◌≡◌, ℕ, suc, ◌+◌, ◌<◌, option_map, Option, Some, None, List, [], ◌∷◌, ◌++◌, length, map, replicate, reverse, slice_get, refl, sym, ap, subst, ◌∙◌, arith, add-one, append_assoc, append-nil}
use Rattle.std.proofs.lemmas.List.{map-append}
use Rattle.std.proofs.lemmas.Option.{slice_get-map}
use Rattle.snap_base.proofs.Lists.{get_mapped, nothing_left}
use Rattle.crew_ends.specs.Ends.{AreBeside}
use Rattle.crew_ends.specs.Lists.{besides_of, laid, parts_of}
use Rattle.crew_ends.proofs.OneOver.{get_front}
use Rattle.crew_parts.specs.Besides.{beside_desk, beside_log, beside_none}
use Rattle.crew_parts.specs.Shares.{BesideState, OutputState, ShareState}
use Rattle.gate_log.specs.State.{LogState}
use Rattle.protocol.specs.Events.{log}
use Rattle.snap_hand.specs.Shown.{shown}
use Rattle.snap_hand.specs.declared.parts.Part.{Part}

-- ---- one share more

pub one_bare : (n : ℕ) (bs cs ds : List BesideState) → cs ≡ replicate n beside_none ++ bs → ds ≡ beside_none ∷ cs → ds ≡ replicate (n + 1) beside_none ++ bs
one_bare n bs cs ds is more = more ∙ (ap (λ xs. beside_none ∷ xs) is ∙ ap (λ k. replicate k beside_none ++ bs) (sym (add-one n)))

pub one_log : (js ks : List LogState) (j : LogState) (bs cs all : List BesideState) → all ≡ map beside_log js ++ bs → js ≡ ks ++ j ∷ [] → cs ≡ beside_log j ∷ bs → all ≡ map beside_log ks ++ cs
one_log js ks j bs cs all is less more =
    is ∙ (ap (λ xs. map beside_log xs ++ bs) less
    ∙ (ap (λ xs. xs ++ bs) (map-append beside_log ks (j ∷ []))
    ∙ (append_assoc (map beside_log ks) (beside_log j ∷ []) bs
    ∙ ap (λ xs. map beside_log ks ++ xs) (sym more))))

-- ---- all of them

pub all_laid : (ps qs : List Part) (xs : List ShareState) → laid qs xs ≡ laid ps [] → length qs ≡ 0 → parts_of (reverse xs) ≡ map shown ps
all_laid ps qs xs same none = ap (λ rs. laid rs xs) (sym (nothing_left qs none)) ∙ (same ∙ append-nil (map shown ps))

journal_is : (o : Option LogState) (b : BesideState) → option_map beside_log o ≡ Some b → b.journal ≡ o
journal_is None b h = absurd (cc h)
journal_is (Some j) b h = let e : beside_log j ≡ b = cc h in sym (ap (λ (c : BesideState). c.journal) e)

behind_four : {X : Type 0} (a b c d : X) (xs : List X) (l : ℕ) → slice_get (a ∷ b ∷ c ∷ d ∷ xs) (log l) ≡ slice_get xs l
behind_four a b c d xs l =
    let e : log l ≡ suc (suc (suc (suc l))) = omega arith in
    ap (slice_get (a ∷ b ∷ c ∷ d ∷ xs)) e

pub stand_beside : (xs : List ShareState) (js : List LogState) (out : OutputState) (n : ℕ)
    → besides_of xs ≡ beside_none ∷ beside_none ∷ beside_none ∷ beside_desk out ∷ (map beside_log js ++ replicate n beside_none) → AreBeside js out xs
stand_beside xs js out n is = record {
  logs = λ l x within at.
      let cells = replicate n beside_none in
      let there : slice_get (besides_of xs) (log l) ≡ Some x.beside = get_mapped (λ (y : ShareState). y.beside) xs (log l) x at in
      let here : slice_get (map beside_log js) l ≡ Some x.beside =
      sym (get_front (map beside_log js) cells l (subst (λ k. l < k) (sym (length_map js)) within))
      ∙ (sym (behind_four beside_none beside_none beside_none (beside_desk out) (map beside_log js ++ cells) l)
      ∙ (ap (λ bs. slice_get bs (log l)) (sym is) ∙ there)) in
      journal_is (slice_get js l) x.beside (sym (slice_get-map beside_log js l) ∙ here);
  desk = λ x at.
      let there : slice_get (besides_of xs) 3 ≡ Some x.beside = get_mapped (λ (y : ShareState). y.beside) xs 3 x at in
      output_is x.beside (ap (λ bs. slice_get bs 3) (sym is) ∙ there);
} where
  length_map : (ks : List LogState) → length (map beside_log ks) ≡ length ks
  length_map [] = refl
  length_map (k ∷ ks) = ap suc (length_map ks)

  output_is : (b : BesideState) → Some (beside_desk out) ≡ Some b → b.output ≡ Some out
  output_is b h = let e : beside_desk out ≡ b = cc h in sym (ap (λ (c : BesideState). c.output) e)

-- one phase after the other
pub all_besides : (b0 b1 b2 b3 b4 : List BesideState) (js : List LogState) (d : BesideState) (out : OutputState) (n : ℕ) → b0 ≡ [] → b1 ≡ replicate n beside_none ++ b0 → b2 ≡ map beside_log js ++ b1
    → b3 ≡ d ∷ b2 → d ≡ beside_desk out → b4 ≡ replicate 3 beside_none ++ b3
    → b4 ≡ beside_none ∷ beside_none ∷ beside_none ∷ beside_desk out ∷ (map beside_log js ++ replicate n beside_none)
all_besides b0 b1 b2 b3 b4 js d out n e0 e1 e2 e3 is e4 =
    e4
    ∙ ap (λ bs. replicate 3 beside_none ++ bs)
    (e3
    ∙ (ap (λ b. b ∷ b2) is
    ∙ ap (λ bs. beside_desk out ∷ bs) (e2 ∙ ap (λ bs. map beside_log js ++ bs) (e1 ∙ (ap (λ bs. replicate n beside_none ++ bs) e0 ∙ append-nil (replicate n beside_none))))))
