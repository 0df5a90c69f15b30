-- What a run prints is the text of its report's lines.
use Rattle.std.specs.Prelude.{◌≡◌, refl, ℕ, ◌+◌, Option, Some, None, List, [], ◌∷◌, ◌++◌, codes}
use Rattle.std.specs.Fmt.{decimal, signed_decimal}
use Rattle.std.specs.List.{flat_map}
use Rattle.std.proofs.Common.{sym, ap, ◌∙◌}
use Rattle.std.proofs.lemmas.List.{append-nil, append_assoc}
use Rattle.snap_base.specs.Text.{verdict_text}
use Rattle.snap_base.specs.declared.transactions.State.{State}
use Rattle.snap_base.specs.declared.verdicts.Verdict.{Verdict}
use Rattle.protocol.specs.Events.{Event}
use Rattle.protocol.specs.Fixed.{Fixed}
use Rattle.protocol.specs.Report.{Answer, report}
use Rattle.protocol.specs.Runs.{reached}
use Rattle.run_effects.specs.snap_report.Lines.{actor_text, actors_text, end_text, line_end, reply_text, shown_fields}
use Rattle.run_effects.specs.Lines.{answer_lines, report_text, verdict_line}
use Rattle.audit_words.specs.Papers.{Line, Reply, Actor, End, ended, line_text}
use Rattle.audit_words.specs.Reports.{actor_lines, reply_line_of, reply_lines, report_lines}

abbrev pub texts : List Line → List ℕ
texts ls = flat_map (λ l. ended (line_text l)) ls

-- ---- lists

texts_join : (xs ys : List Line) → texts (xs ++ ys) ≡ texts xs ++ texts ys
texts_join [] ys = refl
texts_join (x ∷ xs) ys = ap (λ zs. ended (line_text x) ++ zs) (texts_join xs ys) ∙ sym (append_assoc (ended (line_text x)) (texts xs) (texts ys))

ended_3 : (a b c : List ℕ) → ended (a ++ (b ++ c)) ≡ a ++ (b ++ (c ++ line_end))
ended_3 a b c = append_assoc a (b ++ c) line_end ∙ ap (λ zs. a ++ zs) (append_assoc b c line_end)

ended_4 : (a b c d : List ℕ) → ended (a ++ (b ++ (c ++ d))) ≡ a ++ (b ++ (c ++ (d ++ line_end)))
ended_4 a b c d = append_assoc a (b ++ (c ++ d)) line_end ∙ ap (λ zs. a ++ zs) (ended_3 b c d)

ended_6 : (a b c d e f : List ℕ) → ended (a ++ (b ++ (c ++ (d ++ (e ++ f))))) ≡ a ++ (b ++ (c ++ (d ++ (e ++ (f ++ line_end)))))
ended_6 a b c d e f = append_assoc a (b ++ (c ++ (d ++ (e ++ f)))) line_end ∙ ap (λ zs. a ++ zs) (append_assoc b (c ++ (d ++ (e ++ f))) line_end ∙ ap (λ zs. b ++ zs) (ended_4 c d e f))

-- ---- lines

one_reply : (n : ℕ) (v : Verdict) → reply_text n v ≡ ended (line_text (Reply n v))
one_reply n v = sym (ended_4 (codes "tx ") (decimal n) (codes " ") (verdict_text v))

one_answer : (n : ℕ) (o : Option Verdict) → verdict_line n o ≡ texts (reply_line_of n o)
one_answer n None = refl
one_answer n (Some v) = one_reply n v ∙ sym (append-nil (ended (line_text (Reply n v))))

replies_same : (xs : List Answer) → answer_lines xs ≡ texts (reply_lines xs)
replies_same [] = refl
replies_same (x ∷ xs) =
    ap (λ zs. zs ++ answer_lines xs) (one_answer x.tx x.verdict) ∙ (ap (λ zs. texts (reply_line_of x.tx x.verdict) ++ zs) (replies_same xs) ∙ sym (texts_join (reply_line_of x.tx x.verdict) (reply_lines xs)))

one_actor : (a : ℕ) (s : State) → actor_text a s ≡ ended (line_text (Actor a (shown_fields s.0)))
one_actor a s = sym (ended_3 (codes "actor ") (decimal a) (flat_map (λ z. codes " " ++ signed_decimal z) (shown_fields s.0)))

actors_same : (a : ℕ) (states : List State) → actors_text a states ≡ texts (actor_lines a states)
actors_same a [] = refl
actors_same a (s ∷ states) = ap (λ zs. zs ++ actors_text (a + 1) states) (one_actor a s) ∙ ap (λ zs. ended (line_text (Actor a (shown_fields s.0))) ++ zs) (actors_same (a + 1) states)

end_same : (x y z : ℕ) → end_text x y z ≡ texts (End x y z ∷ [])
end_same x y z = sym (ended_6 (codes "end committed ") (decimal x) (codes " aborted ") (decimal y) (codes " batches ") (decimal z)) ∙ sym (append-nil (ended (line_text (End x y z))))

pub all_same : {C : Type 0} (w : Fixed C) (es : List Event) → report_text w es ≡ texts (report_lines w es)
all_same w es =
    let r = report es (reached w es) in
    let last : List Line = End r.committed r.aborted r.batches ∷ [] in
    ap (λ zs. answer_lines r.answers ++ (zs ++ end_text r.committed r.aborted r.batches)) (actors_same 0 r.states)
    ∙ (ap (λ zs. answer_lines r.answers ++ (texts (actor_lines 0 r.states) ++ zs)) (end_same r.committed r.aborted r.batches)
    ∙ (ap (λ zs. answer_lines r.answers ++ zs) (sym (texts_join (actor_lines 0 r.states) last))
    ∙ (ap (λ zs. zs ++ texts (actor_lines 0 r.states ++ last)) (replies_same r.answers)
    ∙ sym (texts_join (reply_lines r.answers) (actor_lines 0 r.states ++ last)))))
