-- The text of a work, the trace of a run and what the run has printed are cut at the dividers into just these.
use Rattle.std.specs.Prelude.{◌≡◌, ◌≢◌, refl, ℕ, zero, suc, ◌≤◌, List, [], ◌∷◌, ◌++◌, map, Contains}
use Rattle.std.specs.List.{AllByRecursion}
use Rattle.std.proofs.Common.{arith, sym, ap, subst, inl, inr, ◌∙◌}
use Rattle.std.proofs.lemmas.List.{append-nil, append_assoc}
use Rattle.snap_base.specs.Lines.{lines}
use Rattle.run_effects.specs.core_events.declared.events.Event.{Event}
use Rattle.run_effects.specs.core_events.declared.events.Event.TheVariants as event
use Rattle.trace_text.specs.Lines.{event_line}
use Rattle.trace_text.specs.Traces.{IsTrace}
use Rattle.audit_words.specs.Inputs.{input_of}
use Rattle.audit_words.specs.Papers.{Actor, AreParts, AreWhole, End, IsReport, Kept, Line, Recovered, Reply, ended, line_text, report_divider, trace_divider}
use Rattle.audit_laws.proofs.OneReport.{line_tag, line_tagged, tag}

-- ---- no line is a divider

none_contains : (d : List ℕ) (xs : List (List ℕ)) → AllByRecursion (λ x. x ≢ d) xs → Contains xs d → ⊥
none_contains d [] h (n, l, e) = absurd (omega (arith, l))
none_contains d (x ∷ xs) h (zero, l, e) = h.0 e
none_contains d (x ∷ xs) h (suc n, l, e) = none_contains d xs h.1 (n, omega (arith, l), e)

-- an event's line begins with a letter
abbrev first_byte : List ℕ → ℕ
first_byte [] = 0
first_byte (b ∷ bs) = b

abbrev letter : Event → ℕ
letter (event.Submit n) = 115
letter (event.Pass n) = 112
letter (event.Form n) = 102
letter (event.Admit n) = 97
letter (event.Arrive n a) = 97
letter (event.Ask n a) = 97
letter (event.Take n a) = 116
letter (event.Run n a) = 114
letter (event.Send n a) = 115
letter (event.End n a) = 101
letter (event.Close n a) = 99
letter (event.Complete n a) = 99
letter (event.Sync n) = 115
letter (event.Note n a) = 110
letter (event.Commit n) = 99
letter (event.Settle n) = 115
letter (event.AbortBatch n) = 97
letter (event.Rollback n) = 114
letter (event.DropSub n a) = 100
letter (event.DropControl n) = 100
letter (event.Prepare n a) = 112
letter (event.Vouch n a) = 118
letter (event.Decide n) = 100
letter (event.Seal n) = 115
letter (event.Finish n a) = 102
letter (event.Reply n) = 114
letter (event.Trim n a) = 116

lettered : (e : Event) → first_byte (event_line e) ≡ letter e
lettered (event.Submit n) = refl
lettered (event.Pass n) = refl
lettered (event.Form n) = refl
lettered (event.Admit n) = refl
lettered (event.Arrive n a) = refl
lettered (event.Ask n a) = refl
lettered (event.Take n a) = refl
lettered (event.Run n a) = refl
lettered (event.Send n a) = refl
lettered (event.End n a) = refl
lettered (event.Close n a) = refl
lettered (event.Complete n a) = refl
lettered (event.Sync n) = refl
lettered (event.Note n a) = refl
lettered (event.Commit n) = refl
lettered (event.Settle n) = refl
lettered (event.AbortBatch n) = refl
lettered (event.Rollback n) = refl
lettered (event.DropSub n a) = refl
lettered (event.DropControl n) = refl
lettered (event.Prepare n a) = refl
lettered (event.Vouch n a) = refl
lettered (event.Decide n) = refl
lettered (event.Seal n) = refl
lettered (event.Finish n a) = refl
lettered (event.Reply n) = refl
lettered (event.Trim n a) = refl

letter_large : (e : Event) → 97 ≤ letter e
letter_large (event.Submit n) = omega arith
letter_large (event.Pass n) = omega arith
letter_large (event.Form n) = omega arith
letter_large (event.Admit n) = omega arith
letter_large (event.Arrive n a) = omega arith
letter_large (event.Ask n a) = omega arith
letter_large (event.Take n a) = omega arith
letter_large (event.Run n a) = omega arith
letter_large (event.Send n a) = omega arith
letter_large (event.End n a) = omega arith
letter_large (event.Close n a) = omega arith
letter_large (event.Complete n a) = omega arith
letter_large (event.Sync n) = omega arith
letter_large (event.Note n a) = omega arith
letter_large (event.Commit n) = omega arith
letter_large (event.Settle n) = omega arith
letter_large (event.AbortBatch n) = omega arith
letter_large (event.Rollback n) = omega arith
letter_large (event.DropSub n a) = omega arith
letter_large (event.DropControl n) = omega arith
letter_large (event.Prepare n a) = omega arith
letter_large (event.Vouch n a) = omega arith
letter_large (event.Decide n) = omega arith
letter_large (event.Seal n) = omega arith
letter_large (event.Finish n a) = omega arith
letter_large (event.Reply n) = omega arith
letter_large (event.Trim n a) = omega arith

no_event : (e : Event) → event_line e ≢ trace_divider
no_event e q =
    let h : letter e ≡ 61 = sym (lettered e) ∙ ap first_byte q in
    omega (arith, h, letter_large e)

no_events : (es : List Event) → AllByRecursion (λ x. x ≢ trace_divider) (map event_line es)
no_events [] = tt
no_events (e ∷ es) = (no_event e, no_events es)

-- so does the line of a report
line_tag_large : (l : Line) → 24948 ≤ line_tag l
line_tag_large (Reply n v) = omega arith
line_tag_large (Actor a fields) = omega arith
line_tag_large (End x y z) = omega arith
line_tag_large (Kept p v) = omega arith
line_tag_large (Recovered x y t k c) = omega arith

no_line : (l : Line) → line_text l ≢ report_divider
no_line l q =
    let h : line_tag l ≡ 15648 = sym (line_tagged l) ∙ ap tag q in
    omega (arith, h, line_tag_large l)

no_lines : (ls : List Line) → AllByRecursion (λ x. x ≢ report_divider) (map line_text ls)
no_lines [] = tt
no_lines (l ∷ ls) = (no_line l, no_lines ls)

-- ---- whole lines

behind_whole : (xs ys : List ℕ) → AreWhole xs → AreWhole ys → AreWhole (xs ++ ys)
behind_whole xs ys h (inl e) = subst AreWhole (sym (append-nil xs) ∙ ap (λ (zs : List ℕ). xs ++ zs) (sym e)) h
behind_whole xs ys h (inr k) = inr (xs ++ k.0, ap (λ (zs : List ℕ). xs ++ zs) k.1 ∙ sym (append_assoc xs k.0 (10 ∷ [])))

-- ---- the parts

pub parts_of_papers : (text trace report : List ℕ) (events : List Event) (ls : List Line) → AreWhole text → AreWhole trace → IsTrace trace events → IsReport report ls → AreParts (input_of text trace report) text trace report
parts_of_papers text trace report events ls w v t r =
    let front = text ++ (ended trace_divider ++ trace) in
    record {
      front = front;
      reported = record {
        rest = ended report_divider ++ report;
        splits = ap (λ (zs : List ℕ). text ++ zs) (sym (append_assoc (ended trace_divider) trace (ended report_divider ++ report))) ∙ sym (append_assoc text (ended trace_divider ++ trace) (ended report_divider ++ report));
        behind = inl refl;
        whole = behind_whole text (ended trace_divider ++ trace) w (behind_whole (ended trace_divider) trace (inr (trace_divider, refl)) v);
        last = λ c. none_contains report_divider (lines report) (subst (AllByRecursion (λ x. x ≢ report_divider)) (sym r.said) (no_lines ls)) c;
      };
      traced = record {
        rest = ended trace_divider ++ trace;
        splits = refl;
        behind = inl refl;
        whole = w;
        last = λ c. none_contains trace_divider (lines trace) (subst (AllByRecursion (λ x. x ≢ trace_divider)) (sym t.said) (no_events events)) c;
      };
    }
