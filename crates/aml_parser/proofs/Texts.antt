-- Texts: a text spells one program, has one first fault, and not both.
use Rattle.std.proofs.Common.{◌≡◌, ℕ, zero, suc, ◌<◌, ◌≤◌, List, [], ◌∷◌, length, take, Option, Some, None, Ok, Err, refl, sym, ap, subst, ◌∙◌, inl, inr, ◌⊎◌, slice_get, arith}
use Rattle.std.proofs.Math.Seq.{take-length}
use Rattle.std.proofs.lemmas.List.{append-nil}
use Rattle.std.specs.List.{AllByRecursion}
use Rattle.aml_tokens.specs.declared.tokens.TextCause.{TextCause}
use Rattle.aml_tokens.specs.declared.tokens.TextCause.TheVariants.{Unexpected}
use Rattle.aml_tokens.specs.Lexing.{tokens, places, stop, line_at, column_at}
use Rattle.aml_parser.specs.declared.faults.TextFault.{TextFault}
use Rattle.aml_tree.specs.Tree.{TextMethod}
use Rattle.aml_tree.specs.Limits.{Mark, program_marks}
use Rattle.aml_tree.specs.Programs.{IsUnmarked, IsProgramText}
use Rattle.aml_parser.specs.Faults.{IsClear, IsWrong, IsWrongEnd, IsFirstTextFault}
use Rattle.aml_parser.specs.Reading.{Fault, program}
use Rattle.aml_parser.proofs.ReadLaws.{halt, ok_same, err_same}
use Rattle.aml_parser.proofs.Firsts.{program_sound, whole_read, clear_there, wrong_there, end_unexpected, none_whole}
use Rattle.aml_parser.proofs.Uniqueness.{limit_stops, unexpected_stops, clear_whole}
use Rattle.aml_parser.proofs.TextTokens.{tokens_good}

-- ---- programs

pub text_read : (text : List ℕ) (p : List TextMethod) → IsProgramText text p → program (tokens text) ≡ Ok p
text_read text p h = whole_read (tokens text) p (record { grammar = h.program.grammar; spelled = h.spelled; limits = h.program.limits })

pub read_text : (text : List ℕ) (p : List TextMethod) → stop text ≡ None → program (tokens text) ≡ Ok p → IsProgramText text p
read_text text p whole e =
    let w = program_sound (tokens text) p (tokens_good text) e in
    record { whole = whole; spelled = w.spelled; program = record { grammar = w.grammar; limits = w.limits } }

pub one_spelled : (text : List ℕ) (p q : List TextMethod) → IsProgramText text p → IsProgramText text q → p ≡ q
one_spelled text p q h k = ok_same p q (sym (text_read text p h) ∙ text_read text q k)

-- ---- where reading stops

pub at_token : (text : List ℕ) (k at : ℕ) (c : TextCause) (fault : TextFault) → program (tokens text) ≡ Err (k, c) → k < length (tokens text) → slice_get (places text) k ≡ Some at
    → fault ≡ record { line = line_at text at; column = column_at text at; cause = c } → IsFirstTextFault text fault
at_token text k at c fault e lt place is =
    let clear = clear_there (tokens text) (k, c) (tokens_good text) e in
    let wrong = wrong_there (tokens text) k c (tokens_good text) e lt in
    subst (λ (f : TextFault). IsFirstTextFault text f) (sym is) (record { wrong = (k, at, clear.1, inl (place, wrong), refl, refl) })

take_unmarked : (k : ℕ) (ms : List Mark) → AllByRecursion IsUnmarked ms → AllByRecursion IsUnmarked (take k ms)
take_unmarked zero ms h = tt
take_unmarked (suc k) [] h = tt
take_unmarked (suc k) (m ∷ ms) h = (h.0, take_unmarked k ms h.1)

-- the tokens are read up to the last one: they are a program, or one ends too early
abbrev pub ReachesEnd : List ℕ → Type 0
ReachesEnd text = ((p : List TextMethod) × (program (tokens text) ≡ Ok p)) ⊎ ((k : ℕ) × (c : TextCause) × (program (tokens text) ≡ Err (k, c)) × (length (tokens text) ≤ k))

clear_end : (text : List ℕ) → ReachesEnd text → IsClear (tokens text) (length (tokens text))
clear_end text (inl read) =
    let w = program_sound (tokens text) read.0 (tokens_good text) read.1 in (
      read.0,
      record { grammar = w.grammar; goes = ([], sym w.spelled ∙ sym (append-nil (take (length (tokens text)) (tokens text)) ∙ take-length (tokens text))) },
      take_unmarked (length (tokens text)) (program_marks read.0) w.limits,
    )
clear_end text (inr stop) =
    let clear = clear_there (tokens text) (stop.0, stop.1) (tokens_good text) stop.2 in
    let end = end_unexpected (tokens text) stop.0 stop.1 (tokens_good text) stop.2 stop.3 in
    subst (λ (k : ℕ). IsClear (tokens text) k) end.0 clear.1

pub at_piece : (text : List ℕ) (at : ℕ) (c : TextCause) (fault : TextFault) → ReachesEnd text → stop text ≡ Some (at, c) → fault ≡ record { line = line_at text at; column = column_at text at; cause = c } → IsFirstTextFault text fault
at_piece text at c fault reaches piece is =
    let wrong : IsWrongEnd text (tokens text) (stop text) at c = subst (λ (o : Option (ℕ × TextCause)). IsWrongEnd text (tokens text) o at c) (sym piece) (refl, refl) in
    subst (λ (f : TextFault). IsFirstTextFault text f) (sym is) (record { wrong = (length (tokens text), at, clear_end text reaches, inr (refl, wrong), refl, refl) })

pub at_end : (text : List ℕ) (k : ℕ) (c : TextCause) (fault : TextFault) → program (tokens text) ≡ Err (k, c) → length (tokens text) ≤ k → stop text ≡ None
    → fault ≡ record { line = line_at text (length text); column = column_at text (length text); cause = c } → IsFirstTextFault text fault
at_end text k c fault e le whole is =
    let end = end_unexpected (tokens text) k c (tokens_good text) e le in
    let none = none_whole (tokens text) k (e ∙ ap (λ (d : TextCause). halt (List TextMethod) (k, d)) end.1) in
    let wrong : IsWrongEnd text (tokens text) (stop text) (length text) c = subst (λ (o : Option (ℕ × TextCause)). IsWrongEnd text (tokens text) o (length text) c) (sym whole) (refl, end.1, none) in
    subst (λ (f : TextFault). IsFirstTextFault text f) (sym is) (record { wrong = (length (tokens text), length text, clear_end text (inr (k, c, e, le)), inr (refl, wrong), refl, refl) })

-- ---- a first fault tells where reading stops

abbrev Stopped : List ℕ → ℕ → ℕ → TextCause → Type 0
Stopped text k at c =
    ((program (tokens text) ≡ Err (k, c)) × (k < length (tokens text)) × (slice_get (places text) k ≡ Some at))
    ⊎ ((((p : List TextMethod) × (program (tokens text) ≡ Ok p)) ⊎ (program (tokens text) ≡ Err (length (tokens text), Unexpected))) × IsWrongEnd text (tokens text) (stop text) at c)

stopped : (text : List ℕ) (k at : ℕ) (c : TextCause) → IsClear (tokens text) k → IsWrong text k at c → Stopped text k at c
stopped text k at c clear (inl there) =
    elim there.1 [
      | inl bad ↦ inl (unexpected_stops (tokens text) k (tokens_good text) clear bad.1 ∙ ap (λ (d : TextCause). halt (List TextMethod) (k, d)) (sym bad.0), bad.1.within, there.0)
      | inr limit ↦ inl (limit_stops (tokens text) k c clear limit, limit.within, there.0)
    ]
stopped text k at c clear (inr end) = inr (clear_whole (tokens text) (tokens_good text) (subst (λ (n : ℕ). IsClear (tokens text) n) end.0 clear), end.1)

same_end : (text : List ℕ) (o : Option (ℕ × TextCause)) (at at' : ℕ) (c c' : TextCause) → IsWrongEnd text (tokens text) o at c → IsWrongEnd text (tokens text) o at' c' → (at ≡ at') × (c ≡ c')
same_end text (Some piece) at at' c c' h k = (h.0 ∙ sym k.0, h.1 ∙ sym k.1)
same_end text None at at' c c' h k = (h.0 ∙ sym k.0, h.1 ∙ sym k.1)

not_there : (text : List ℕ) (k : ℕ) (c : TextCause) → program (tokens text) ≡ Err (k, c) → k < length (tokens text) → ((p : List TextMethod) × (program (tokens text) ≡ Ok p)) ⊎ (program (tokens text) ≡ Err (length (tokens text), Unexpected)) → ⊥
not_there text k c e lt (inl read) = let other = read.1 in absurd cc
not_there text k c e lt (inr end) =
    let same = err_same (List TextMethod) (k, c) (length (tokens text), Unexpected) (sym e ∙ end) in
    let place : k ≡ length (tokens text) = ap (λ (f : Fault). f.0) same in absurd (omega (arith, place, lt))

same_stop : (text : List ℕ) (k k' at at' : ℕ) (c c' : TextCause) → Stopped text k at c → Stopped text k' at' c' → (at ≡ at') × (c ≡ c')
same_stop text k k' at at' c c' (inl a) (inl b) =
    let same = err_same (List TextMethod) (k, c) (k', c') (sym a.0 ∙ b.0) in
    let place : k ≡ k' = ap (λ (f : Fault). f.0) same in
    let there : Some at ≡ Some at' = sym a.2 ∙ ap (slice_get (places text)) place ∙ b.2 in
    (cc, ap (λ (f : Fault). f.1) same)
same_stop text k k' at at' c c' (inl a) (inr b) = absurd (not_there text k c a.0 a.1 b.0)
same_stop text k k' at at' c c' (inr a) (inl b) = absurd (not_there text k' c' b.0 b.1 a.0)
same_stop text k k' at at' c c' (inr a) (inr b) = same_end text (stop text) at at' c c' a.1 b.1

fault_is : (text : List ℕ) (f : TextFault) (at : ℕ) → f.line ≡ line_at text at → f.column ≡ column_at text at → f ≡ record { line = line_at text at; column = column_at text at; cause = f.cause }
fault_is text f at a b =
    ap (λ (n : ℕ). the n f.column) a ∙ ap (λ (n : ℕ). the (line_at text at) n) b
  where
    the : ℕ → ℕ → TextFault
    the line column = record { line = line; column = column; cause = f.cause }

pub one_first : (text : List ℕ) (f g : TextFault) → IsFirstTextFault text f → IsFirstTextFault text g → f ≡ g
one_first text f g h k =
    let w = h.wrong in
    let v = k.wrong in
    let same = same_stop text w.0 v.0 w.1 v.1 f.cause g.cause (stopped text w.0 w.1 f.cause w.2 w.3) (stopped text v.0 v.1 g.cause v.2 v.3) in
    fault_is text f w.1 w.4 w.5
    ∙ ap (λ (at : ℕ). made at f.cause) same.0 ∙ ap (λ (c : TextCause). made v.1 c) same.1
    ∙ sym (fault_is text g v.1 v.4 v.5)
  where
    made : ℕ → TextCause → TextFault
    made at c = record { line = line_at text at; column = column_at text at; cause = c }

pub no_program : (text : List ℕ) (f : TextFault) (p : List TextMethod) → IsFirstTextFault text f → ¬ IsProgramText text p
no_program text f p h read =
    let w = h.wrong in
    by w.0 w.1 (stopped text w.0 w.1 f.cause w.2 w.3)
  where
    reads : program (tokens text) ≡ Ok p
    reads = text_read text p read

    by : (k at : ℕ) → Stopped text k at f.cause → ⊥
    by k at (inl a) = let e = a.0 in let r = reads in absurd cc
    by k at (inr b) =
        let wrong = subst (λ (o : Option (ℕ × TextCause)). IsWrongEnd text (tokens text) o at f.cause) read.whole b.1 in
        wrong.2 p read.program.grammar (sym read.spelled)
