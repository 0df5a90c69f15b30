-- The answers of a run: a verdict that was told stays, so one more event leaves them.
use Rattle.std.specs.Prelude.{◌≡◌, refl, ℕ, ◌+◌, not, Bool, true, false, Some, List, [], ◌∷◌, ◌++◌, length, map, if◌then◌else◌}
use Rattle.std.proofs.Common.{sym, ap, subst, ◌∙◌}
use Rattle.std.proofs.lemmas.List.{append-nil, map-append, append_assoc}
use Rattle.std.proofs.lemmas.Grind.{flat_map-append}
use Rattle.std.proofs.lemmas.List.Concat.{flat_map-cons}
use Rattle.snap_base.specs.declared.verdicts.Verdict.{Verdict}
use Rattle.snap_base.proofs.Options.{somebody}
use Rattle.protocol.specs.Conditions.{IsAllowed, conditions}
use Rattle.protocol.specs.Effects.{after}
use Rattle.protocol.specs.Events.{Event, Reply}
use Rattle.protocol.specs.Fixed.{Fixed}
use Rattle.protocol.specs.Numbers.{one_if}
use Rattle.protocol.specs.Parts.{Machine}
use Rattle.protocol.specs.Report.{Answer, answer, answers, is_committed, replied, report}
use Rattle.protocol.specs.Runs.{opening, reached, EachAllowed, IsRun}
use Rattle.protocol.specs.Verdicts.{verdict}
use Rattle.protocol.specs.Words.{count, holds}
use Rattle.protocol_theorems.proofs.quiet.SubPlaces.{count_join}
use Rattle.protocol_verdicts.specs.Evidence.{VerdictsStay}
use Rattle.run_effects.specs.Replies.{answer_by, commits_of, aborts_of, CountsGrow}
use Rattle.run_effects.specs.Laws.{line_by}
use Rattle.run_effects.specs.Lines.{verdict_line, line_in, answer_lines, replies_text}
use Rattle.run_effects.proofs.RunsLonger.{state_longer}

-- ---- who was answered

pub replied_join : (es fs : List Event) → replied (es ++ fs) ≡ replied es ++ replied fs
replied_join [] fs = refl
replied_join (Reply n ∷ es) fs = ap (λ ns. n ∷ ns) (replied_join es fs)
replied_join (_ ∷ es) fs = replied_join es fs

-- who is answered has a verdict
has_verdict : {C : Type 0} (w : Fixed C) (n : ℕ) (s : Machine C) → IsAllowed w (Reply n) s → (v : Verdict) × (verdict n s.book s.desk ≡ Some v)
unfolding conditions
has_verdict w n s ok = somebody (verdict n s.book s.desk) ok.1.0

-- ---- answers stay

-- what is there after a front of these events is there in a state
abbrev pub StaysIn : {C : Type 0} → Fixed C → List Event → Machine C → Type 0
StaysIn w es t = (front later : List Event) → es ≡ front ++ later → (n : ℕ) (v : Verdict) → verdict n (reached w front).book (reached w front).desk ≡ Some v → verdict n t.book t.desk ≡ Some v

same_answer : {C : Type 0} (n : ℕ) (v : Verdict) (s t : Machine C) → verdict n s.book s.desk ≡ Some v → verdict n t.book t.desk ≡ Some v → answer s n ≡ answer t n
same_answer n v s t e f = rw (e, f) refl

same_answers : {C : Type 0} (w : Fixed C) (es : List Event) (s t : Machine C) → StaysIn w es s → StaysIn w es t → (front later : List Event) → es ≡ front ++ later → EachAllowed w later (reached w front)
    → map (answer s) (replied later) ≡ map (answer t) (replied later)
same_answers {C} w es s t p q front [] e run = refl
same_answers {C} w es s t p q front (d ∷ later) e run = one d e run.0 (same_answers w es s t p q (front ++ d ∷ []) later (e ∙ sym (append_assoc front (d ∷ []) later)) (subst (EachAllowed w later) (sym (state_longer w front (d ∷ []) (opening w))) run.1))
  where
    one : (d : Event) → es ≡ front ++ d ∷ later → IsAllowed w d (reached w front) → map (answer s) (replied later) ≡ map (answer t) (replied later) → map (answer s) (replied (d ∷ later)) ≡ map (answer t) (replied (d ∷ later))
    one (Reply n) e ok rest =
        let v = has_verdict w n (reached w front) ok in
        rw (same_answer n v.0 s t (p front (Reply n ∷ later) e n v.0 v.1) (q front (Reply n ∷ later) e n v.0 v.1), rest) refl
    one d e ok rest = rest

answered_by : {C : Type 0} (w : Fixed C) (e : Event) (s : Machine C) → map (answer (after w e s)) (replied (e ∷ [])) ≡ answer_by s e
unfolding after
answered_by w (Reply n) s = refl
answered_by w e s = refl

pub answers_grow : {C : Type 0} (w : Fixed C) (es : List Event) (e : Event) → IsRun w es → VerdictsStay w es → VerdictsStay w (es ++ e ∷ [])
    → answers (es ++ e ∷ []) (reached w (es ++ e ∷ [])) ≡ answers es (reached w es) ++ answer_by (reached w es) e
answers_grow w es e run now later =
    let t = reached w (es ++ e ∷ []) in
    let stays : StaysIn w es t = λ front rest i n v h. later front (rest ++ e ∷ []) (ap (λ z. z ++ e ∷ []) i ∙ append_assoc front rest (e ∷ [])) n v h in
    let is : t ≡ after w e (reached w es) = state_longer w es (e ∷ []) (opening w) in
    ap (map (answer t)) (replied_join es (e ∷ []))
    ∙ (map-append (answer t) (replied es) (replied (e ∷ []))
    ∙ (ap (λ xs. xs ++ map (answer t) (replied (e ∷ []))) (same_answers w es t (reached w es) stays now [] es refl run)
    ∙ ap (λ xs. answers es (reached w es) ++ xs) (ap (λ z. map (answer z) (replied (e ∷ []))) is ∙ answered_by w e (reached w es))))

-- ---- lines

lines_join : (xs ys : List Answer) → answer_lines (xs ++ ys) ≡ answer_lines xs ++ answer_lines ys
lines_join xs ys = flat_map-append (λ (x : Answer). verdict_line x.tx x.verdict) xs ys

line_is : {C : Type 0} (w : Fixed C) (es : List Event) (e : Event) → answer_lines (answer_by (reached w es) e) ≡ line_by w es e
line_is w es (Reply n) = flat_map-cons (λ (x : Answer). verdict_line x.tx x.verdict) (answer (reached w es) n) [] ∙ append-nil (line_in (reached w es) n)
line_is w es e = refl

pub lines_grow : {C : Type 0} (w : Fixed C) (es : List Event) (e : Event) → answers (es ++ e ∷ []) (reached w (es ++ e ∷ [])) ≡ answers es (reached w es) ++ answer_by (reached w es) e
    → replies_text w (es ++ e ∷ []) ≡ replies_text w es ++ line_by w es e
lines_grow w es e h = ap answer_lines h ∙ (lines_join (answers es (reached w es)) (answer_by (reached w es) e) ∙ ap (λ text. replies_text w es ++ text) (line_is w es e))

-- ---- counts

count_one : {X : Type 0} (p : X → Bool) (x : X) → count p (x ∷ []) ≡ one_if (p x)
count_one p x = by (p x)
  where
    by : (b : Bool) → length (if b then x ∷ [] else []) ≡ one_if b
    by true = refl
    by false = refl

committed_is : {C : Type 0} (s : Machine C) (e : Event) → count (λ x. holds is_committed x.verdict) (answer_by s e) ≡ commits_of s e
committed_is s (Reply n) = count_one (λ x. holds is_committed x.verdict) (answer s n)
committed_is s e = refl

aborted_is : {C : Type 0} (s : Machine C) (e : Event) → count (λ x. not (holds is_committed x.verdict)) (answer_by s e) ≡ aborts_of s e
aborted_is s (Reply n) = count_one (λ x. not (holds is_committed x.verdict)) (answer s n)
aborted_is s e = refl

pub counts_grow : {C : Type 0} (w : Fixed C) (es : List Event) (e : Event) → answers (es ++ e ∷ []) (reached w (es ++ e ∷ [])) ≡ answers es (reached w es) ++ answer_by (reached w es) e → CountsGrow w es e
counts_grow w es e h = record {
  committed = ap (count (λ x. holds is_committed x.verdict)) h ∙ (count_join (λ x. holds is_committed x.verdict) (answers es (reached w es)) (answer_by (reached w es) e) ∙ ap (λ n. (report es (reached w es)).committed + n) (committed_is (reached w es) e));
  aborted = ap (count (λ x. not (holds is_committed x.verdict))) h ∙ (count_join (λ x. not (holds is_committed x.verdict)) (answers es (reached w es)) (answer_by (reached w es) e) ∙ ap (λ n. (report es (reached w es)).aborted + n) (aborted_is (reached w es) e));
}
