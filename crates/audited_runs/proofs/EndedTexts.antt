-- A text whose last line lacks its line feed has the same lines with one behind it, so it stands for the same work.
use Rattle.std.specs.Prelude.{◌≡◌, refl, ℕ, zero, suc, ◌+◌, ◌≤◌, ◌==◌, Bool, true, false, if◌then◌else◌, List, [], ◌∷◌, ◌++◌, length, Ok}
use Rattle.std.specs.Str.{IsAscii}
use Rattle.std.proofs.Common.{arith, sym, ap, subst, inl, inr}
use Rattle.std.proofs.lemmas.Bool.{eqb-true}
use Rattle.std.proofs.lemmas.Str.{IsUtf8-append, IsUtf8-from_ascii}
use Rattle.audit_words.specs.Papers.{AreWhole, ended}
use Rattle.run_work.specs.snap_base.Lines.{lines, onto_line}
use Rattle.snap_work.specs.Works.{Work}
use Rattle.snap_work.specs.declared.limits.TheConstants.{LONGEST_WORK}
use Rattle.work_text.specs.Lines.{numbered}
use Rattle.work_text.specs.Reads.{IsWork, reads_lines}

-- behind one more byte whole lines are whole
whole_more : (b c : ℕ) (bs : List ℕ) → AreWhole (c ∷ bs) → AreWhole (b ∷ c ∷ bs)
whole_more b c bs (inl e) = absurd (cc e)
whole_more b c bs (inr k) = inr (b ∷ k.0, ap (λ (z : List ℕ). b ∷ z) k.1)

same_lines : (bs : List ℕ) → ¬ AreWhole bs → lines (ended bs) ≡ lines bs
same_lines [] n = absurd (n (inl refl))
same_lines (b ∷ []) n = by (b == 10) refl
  where
    by : (t : Bool) → (b == 10) ≡ t → (if t then [] ∷ lines (10 ∷ []) else onto_line b (lines (10 ∷ []))) ≡ (if t then [] ∷ [] else onto_line b [])
    by true e = absurd (n (inr ([], ap (λ (z : ℕ). z ∷ []) (eqb-true b 10 e))))
    by false e = refl
same_lines (b ∷ c ∷ bs) n = ap (λ (ls : List (List ℕ)). if b == 10 then [] ∷ ls else onto_line b ls) (same_lines (c ∷ bs) (λ w. n (whole_more b c bs w)))

feed : IsAscii (10 ∷ [])
feed zero = omega arith
feed (suc i) = omega arith

-- it is no longer than a text may be, UTF-8 as before, and has the same lines
pub ended_is_work : (text : List ℕ) (w : Work) → IsWork text w → ¬ AreWhole text → length (ended text) ≤ LONGEST_WORK → IsWork (ended text) w
ended_is_work text w (inl h) n room = absurd (cc h.1)
ended_is_work text w (inr (inl h)) n room = absurd h.1
ended_is_work text w (inr (inr h)) n room =
    inr (inr (
      room,
      IsUtf8-append text (10 ∷ []) h.1 (IsUtf8-from_ascii (10 ∷ []) feed),
      subst (λ (ls : List (List ℕ)). reads_lines (1 + length ls) (numbered 1 ls) (Ok w)) (sym (same_lines text n)) h.2,
    ))
