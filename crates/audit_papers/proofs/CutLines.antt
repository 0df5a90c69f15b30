-- Whole lines and one line more, and the last line that is a divider.
use Rattle.std.specs.Prelude.{◌≡◌, ◌≢◌, refl, ℕ, zero, suc, ◌+◌, ◌-◌, ◌<◌, ◌≤◌, ◌==◌, Bool, true, false, ◌⊎◌, if◌then◌else◌, Option, Some, None, List, [], ◌∷◌, ◌++◌, length, take, drop, Contains}
use Rattle.std.proofs.Common.{arith, sym, ap, subst, inl, inr, ◌∙◌}
use Rattle.std.proofs.lemmas.List.{append-nil, append_assoc, drop-append-le, drop_all, length-append, length-drop, length-take-le, take-append-drop, take-append-le, take_all}
use Rattle.std.proofs.lemmas.List.Elements.{Contains-append_cases}
use Rattle.std.proofs.Math.Seq.{drop-append-add, drop-length, take-add, take-append_seam}
use Rattle.snap_base.specs.Lines.{lines, onto_line}
use Rattle.audit_words.specs.Papers.{AreWhole, IsCutAt, ended}
use Rattle.audit_papers.specs.Bytes.{IsOneLine}
use Rattle.audit_papers.specs.Found.{FoundIn, SoFar, InAll, SearchedTo}

-- ---- lines of two pieces

-- lines behind a line feed stand behind those before it
abbrev Splits : List ℕ → List ℕ → Type 0
Splits xs ys = (l : List ℕ) × ((ls : List (List ℕ)) × ((lines (xs ++ 10 ∷ []) ≡ l ∷ ls) × (lines (xs ++ 10 ∷ ys) ≡ l ∷ (ls ++ lines ys))))

splits : (xs ys : List ℕ) → Splits xs ys
splits [] ys = ([], ([], (refl, refl)))
splits (b ∷ xs) ys = by (b == 10) (splits xs ys)
  where
    by : (c : Bool) → Splits xs ys → (l : List ℕ) × ((ls : List (List ℕ)) × (((if c then [] ∷ lines (xs ++ 10 ∷ []) else onto_line b (lines (xs ++ 10 ∷ []))) ≡ l ∷ ls) × ((if c then [] ∷ lines (xs ++ 10 ∷ ys) else onto_line b (lines (xs ++ 10 ∷ ys))) ≡ l ∷ (ls ++ lines ys))))
    by true k = ([], (k.0 ∷ k.1.0, (ap (λ z. [] ∷ z) k.1.1.0, ap (λ z. [] ∷ z) k.1.1.1)))
    by false k = (b ∷ k.0, (k.1.0, (ap (onto_line b) k.1.1.0, ap (onto_line b) k.1.1.1)))

pub lines_join : (xs ys : List ℕ) → AreWhole xs → lines (xs ++ ys) ≡ lines xs ++ lines ys
lines_join xs ys (inl e) = subst (λ z. lines (z ++ ys) ≡ lines z ++ lines ys) (sym e) refl
lines_join xs ys (inr w) =
    let k = splits w.0 ys in
    subst (λ z. lines (z ++ ys) ≡ lines z ++ lines ys) (sym w.1)
    (ap lines (append_assoc w.0 (10 ∷ []) ys) ∙ (k.1.1.1 ∙ ap (λ ls. ls ++ lines ys) (sym k.1.1.0)))

pub line_ended : (line : List ℕ) → IsOneLine line → lines (ended line) ≡ line ∷ []
line_ended [] h = refl
line_ended (b ∷ line) h = subst (λ (c : Bool). (if c then [] ∷ lines (ended line) else onto_line b (lines (ended line))) ≡ (b ∷ line) ∷ []) (sym h.0) (ap (onto_line b) (line_ended line h.1))

pub line_last : (b : ℕ) (line : List ℕ) → IsOneLine (b ∷ line) → lines (b ∷ line) ≡ (b ∷ line) ∷ []
line_last b [] h = subst (λ (c : Bool). (if c then [] ∷ [] else onto_line b []) ≡ (b ∷ []) ∷ []) (sym h.0) refl
line_last b (d ∷ line) h = subst (λ (c : Bool). (if c then [] ∷ lines (d ∷ line) else onto_line b (lines (d ∷ line))) ≡ (b ∷ d ∷ line) ∷ []) (sym h.0) (ap (onto_line b) (line_last d line h.1))

pub whole_ended : (xs line : List ℕ) → AreWhole (xs ++ ended line)
whole_ended xs line = inr (xs ++ line, sym (append_assoc xs line (10 ∷ [])))

line_alone : (line : List ℕ) → IsOneLine line → 0 < length line → lines line ≡ line ∷ []
line_alone [] o h = absurd (omega (arith, h))
line_alone (b ∷ line) o h = line_last b line o

-- ---- what was found so far, in whole lines

one : (line divider : List ℕ) → Contains (line ∷ []) divider → line ≡ divider
one line divider (zero, h, e) = e
one line divider (suc n, h, e) = absurd (omega (arith, h))

no_more : (xs : List ℕ) (more : List (List ℕ)) (line divider : List ℕ) → more ≡ line ∷ [] → line ≢ divider → (¬ Contains (lines xs) divider) → ¬ Contains (lines xs ++ more) divider
no_more xs more line divider e n h k = elim (Contains-append_cases (lines xs) more divider k) [
  | inl i ↦ h i
  | inr i ↦ n (one line divider (subst (λ (z : List (List ℕ)). Contains z divider) e i))
]

nothing_there : (divider : List ℕ) → ¬ Contains (lines []) divider
nothing_there divider (n, h, e) = absurd (omega (arith, h))

-- a line that is not the divider
pub none_yet : (text line divider : List ℕ) → AreWhole text → IsOneLine line → line ≢ divider → (¬ Contains (lines text) divider) → ¬ Contains (lines (text ++ ended line)) divider
none_yet text line divider w o n h = subst (λ (z : List (List ℕ)). ¬ Contains z divider) (sym (lines_join text (ended line) w)) (no_more text (lines (ended line)) line divider (line_ended line o) n h)

pub still_found : (text line divider front part : List ℕ) → IsOneLine line → line ≢ divider → FoundIn divider text front part → FoundIn divider (text ++ ended line) front (part ++ ended line)
still_found text line divider front part o n k = record {
  splits = ap (λ (z : List ℕ). z ++ ended line) k.splits ∙ (append_assoc front (ended divider ++ part) (ended line) ∙ ap (λ (z : List ℕ). front ++ z) (append_assoc (ended divider) part (ended line)));
  front_whole = k.front_whole;
  part_whole = whole_ended part line;
  last = none_yet part line divider k.part_whole o n k.last;
}

-- the divider
pub found_here : (text divider : List ℕ) → AreWhole text → FoundIn divider (text ++ ended divider) text []
found_here text divider w = record { splits = ap (λ (z : List ℕ). text ++ z) (sym (append-nil (ended divider))); front_whole = w; part_whole = inl refl; last = nothing_there divider }

-- ---- at the end

pub cut_of : (divider text front part : List ℕ) → FoundIn divider text front part → IsCutAt divider text front part
cut_of divider text front part k = record { rest = ended divider ++ part; splits = k.splits; behind = inl refl; whole = k.front_whole; last = k.last }

-- a last line without its line feed
pub cut_more : (text divider front part : List ℕ) (b : ℕ) (line : List ℕ) → IsOneLine (b ∷ line) → (b ∷ line) ≢ divider → FoundIn divider text front part → IsCutAt divider (text ++ b ∷ line) front (part ++ b ∷ line)
cut_more text divider front part b line o n k = record {
  rest = ended divider ++ (part ++ b ∷ line);
  splits = ap (λ (z : List ℕ). z ++ b ∷ line) k.splits ∙ (append_assoc front (ended divider ++ part) (b ∷ line) ∙ ap (λ (z : List ℕ). front ++ z) (append_assoc (ended divider) part (b ∷ line)));
  behind = inl refl;
  whole = k.front_whole;
  last = subst (λ (z : List (List ℕ)). ¬ Contains z divider) (sym (lines_join part (b ∷ line) k.part_whole)) (no_more part (lines (b ∷ line)) (b ∷ line) divider (line_last b line o) n k.last);
}

pub none_last : (text divider : List ℕ) (b : ℕ) (line : List ℕ) → AreWhole text → IsOneLine (b ∷ line) → (b ∷ line) ≢ divider → (¬ Contains (lines text) divider) → ¬ Contains (lines (text ++ b ∷ line)) divider
none_last text divider b line w o n h = subst (λ (z : List (List ℕ)). ¬ Contains z divider) (sym (lines_join text (b ∷ line) w)) (no_more text (lines (b ∷ line)) (b ∷ line) divider (line_last b line o) n h)

pub cut_last : (text divider : List ℕ) → AreWhole text → IsCutAt divider (text ++ divider) text []
cut_last text divider w = record { rest = divider; splits = refl; behind = inr (refl, refl); whole = w; last = nothing_there divider }

-- ---- one line more

-- what was found keeps its places
grown : (divider text more front part : List ℕ) (a b : ℕ) → a ≤ length text → b ≤ length text → FoundIn divider (text ++ more) (take a text) (drop b text ++ more) → FoundIn divider (text ++ more) (take a (text ++ more)) (drop b (text ++ more))
grown divider text more front part a b h k f =
    subst (λ (z : List ℕ). FoundIn divider (text ++ more) z (drop b (text ++ more))) (sym (take-append-le a text more h))
    (subst (λ (z : List ℕ). FoundIn divider (text ++ more) (take a text) z) (sym (drop-append-le b text more k)) f)

past_ended : (divider text line : List ℕ) (found : Option (ℕ × ℕ)) → AreWhole text → IsOneLine line → line ≢ divider → SoFar divider text found → SoFar divider (text ++ ended line) found
past_ended divider text line None w o n h = none_yet text line divider w o n h
past_ended divider text line (Some x) w o n h = (
  h.0,
  omega (arith, h.1, length-append text (ended line)),
  grown divider text (ended line) [] [] x.0 x.1 (omega (arith, h.0, h.1)) h.1 (still_found text line divider (take x.0 text) (drop x.1 text) o n h.2),
)

here_ended : (divider text : List ℕ) → AreWhole text → SoFar divider (text ++ ended divider) (Some (length text, length text + length (ended divider)))
here_ended divider text w = (
  omega arith,
  omega (arith, length-append text (ended divider)),
  subst (λ (z : List ℕ). FoundIn divider (text ++ ended divider) z (drop (length text + length (ended divider)) (text ++ ended divider))) (sym (take-append_seam text (ended divider)))
      (subst (λ (z : List ℕ). FoundIn divider (text ++ ended divider) text z) (sym (drop-append-add text (ended divider) (length (ended divider)) ∙ drop-length (ended divider))) (found_here text divider w)),
)

past_last : (divider text : List ℕ) (b : ℕ) (line : List ℕ) (found : Option (ℕ × ℕ)) → AreWhole text → IsOneLine (b ∷ line) → (b ∷ line) ≢ divider → SoFar divider text found → InAll divider (text ++ b ∷ line) found
past_last divider text b line None w o n h = none_last text divider b line w o n h
past_last divider text b line (Some x) w o n h = (
  omega (arith, h.0, h.1, length-append text (b ∷ line)),
  omega (arith, h.1, length-append text (b ∷ line)),
  subst (λ (z : List ℕ). IsCutAt divider (text ++ b ∷ line) z (drop x.1 (text ++ b ∷ line))) (sym (take-append-le x.0 text (b ∷ line) (omega (arith, h.0, h.1))))
      (subst (λ (z : List ℕ). IsCutAt divider (text ++ b ∷ line) (take x.0 text) z) (sym (drop-append-le x.1 text (b ∷ line) h.1)) (cut_more text divider (take x.0 text) (drop x.1 text) b line o n h.2)),
)

here_last : (divider text : List ℕ) → AreWhole text → InAll divider (text ++ divider) (Some (length text, length text + length divider))
here_last divider text w = (
  omega (arith, length-append text divider),
  omega (arith, length-append text divider),
  subst (λ (z : List ℕ). IsCutAt divider (text ++ divider) z (drop (length text + length divider) (text ++ divider))) (sym (take-append_seam text divider))
      (subst (λ (z : List ℕ). IsCutAt divider (text ++ divider) text z) (sym (drop-append-add text divider (length divider) ∙ drop-length divider)) (cut_last text divider w)),
)

-- ---- in the bytes of a text

piece : (rest line : List ℕ) (next : ℕ) → next ≤ length rest → rest ≡ line ++ drop next rest → take next rest ≡ line
piece rest line next h e = ap (take next) e ∙ (ap (λ (n : ℕ). take n (line ++ drop next rest)) (omega (arith, ap length e, length-append line (drop next rest), length-drop next rest, h)) ∙ take-append_seam line (drop next rest))

-- where a line stands in the bytes
abbrev pub StandsNext : List ℕ → List ℕ → ℕ → Type 0
StandsNext rest line next = (rest ≡ ended line ++ drop next rest) ⊎ ((rest ≡ line) × (next ≡ length rest))

pub lines_next : (bytes line : List ℕ) (next : ℕ) → 0 < length bytes → IsOneLine line → StandsNext bytes line next → lines bytes ≡ line ∷ lines (drop next bytes)
lines_next bytes line next h o (inl e) = ap lines e ∙ (lines_join (ended line) (drop next bytes) (inr (line, refl)) ∙ ap (λ ls. ls ++ lines (drop next bytes)) (line_ended line o))
lines_next bytes line next h o (inr e) =
    ap lines e.0 ∙ (line_alone line o (omega (arith, h, ap length e.0)) ∙ ap (λ (z : List ℕ). line ∷ lines z) (sym (drop_all next bytes (omega (arith, e.1)))))

some_line : (rest : List ℕ) → 0 < length rest → (b : ℕ) × ((line : List ℕ) × (rest ≡ b ∷ line))
some_line [] h = absurd (omega (arith, h))
some_line (b ∷ line) h = (b, (line, refl))

pub step_past : (bytes divider line : List ℕ) (at next : ℕ) (found : Option (ℕ × ℕ)) → at < length bytes → SearchedTo at divider bytes found → IsOneLine line → line ≢ divider → next ≤ length (drop at bytes) → StandsNext (drop at bytes) line next
    → SearchedTo (at + next) divider bytes found
step_past bytes divider line at next found l (inr s) o n h k = absurd (omega (arith, l, s.0))
step_past bytes divider line at next found l (inl s) o n h (inl e) =
    inl (subst AreWhole (sym more) (whole_ended (take at bytes) line), subst (λ (z : List ℕ). SoFar divider z found) (sym more) (past_ended divider (take at bytes) line found s.0 o n s.1))
  where
    more : take (at + next) bytes ≡ take at bytes ++ ended line
    more = take-add at next bytes ∙ ap (λ (z : List ℕ). take at bytes ++ z) (piece (drop at bytes) (ended line) next h e)
step_past bytes divider line at next found l (inl s) o n h (inr e) =
    let b = some_line (drop at bytes) (omega (arith, l, length-drop at bytes)) in
    let is : line ≡ b.0 ∷ b.1.0 = sym e.0 ∙ b.1.1 in
    inr (
      omega (arith, e.1, length-drop at bytes, l),
      subst (λ (z : List ℕ). InAll divider z found) (ap (λ (z : List ℕ). take at bytes ++ z) (sym b.1.1) ∙ take-append-drop at bytes)
          (past_last divider (take at bytes) b.0 b.1.0 found s.0 (subst IsOneLine is o) (subst (λ (z : List ℕ). z ≢ divider) is n) s.1),
    )

pub step_here : (bytes divider line : List ℕ) (at next : ℕ) (found : Option (ℕ × ℕ)) → at < length bytes → SearchedTo at divider bytes found → line ≡ divider → next ≤ length (drop at bytes) → StandsNext (drop at bytes) line next
    → SearchedTo (at + next) divider bytes (Some (at, at + next))
step_here bytes divider line at next found l (inr s) o h k = absurd (omega (arith, l, s.0))
step_here bytes divider line at next found l (inl s) o h (inl e) =
    inl (subst AreWhole (sym more) (whole_ended (take at bytes) divider), subst (λ (z : List ℕ). SoFar divider z (Some (at, at + next))) (sym more) there)
  where
    is : drop at bytes ≡ ended divider ++ drop next (drop at bytes)
    is = e ∙ ap (λ (z : List ℕ). ended z ++ drop next (drop at bytes)) o

    more : take (at + next) bytes ≡ take at bytes ++ ended divider
    more = take-add at next bytes ∙ ap (λ (z : List ℕ). take at bytes ++ z) (piece (drop at bytes) (ended divider) next h is)

    first : length (take at bytes) ≡ at
    first = length-take-le at bytes (omega (arith, l))

    second : length (take at bytes) + length (ended divider) ≡ at + next
    second = omega (arith, first, ap length is, length-append (ended divider) (drop next (drop at bytes)), length-drop next (drop at bytes), h)

    there : SoFar divider (take at bytes ++ ended divider) (Some (at, at + next))
    there = subst (λ (i : ℕ). SoFar divider (take at bytes ++ ended divider) (Some (i, at + next))) first
        (subst (λ (i : ℕ). SoFar divider (take at bytes ++ ended divider) (Some (length (take at bytes), i))) second (here_ended divider (take at bytes) s.0))
step_here bytes divider line at next found l (inl s) o h (inr e) =
    inr (omega (arith, e.1, length-drop at bytes, l), subst (λ (z : List ℕ). InAll divider z (Some (at, at + next))) (ap (λ (z : List ℕ). take at bytes ++ z) (sym (e.0 ∙ o)) ∙ take-append-drop at bytes) there)
  where
    first : length (take at bytes) ≡ at
    first = length-take-le at bytes (omega (arith, l))

    second : length (take at bytes) + length divider ≡ at + next
    second = omega (arith, first, ap length (e.0 ∙ o), e.1)

    there : InAll divider (take at bytes ++ divider) (Some (at, at + next))
    there = subst (λ (i : ℕ). InAll divider (take at bytes ++ divider) (Some (i, at + next))) first
        (subst (λ (i : ℕ). InAll divider (take at bytes ++ divider) (Some (length (take at bytes), i))) second (here_last divider (take at bytes) s.0))

-- ---- at the end

pub in_the_end : (bytes divider : List ℕ) (at a b : ℕ) → length bytes ≤ at → SearchedTo at divider bytes (Some (a, b)) → IsCutAt divider bytes (take a bytes) (take (length bytes - b) (drop b bytes))
in_the_end bytes divider at a b l s =
    subst (λ (z : List ℕ). IsCutAt divider bytes (take a bytes) z) (sym (take_all (length bytes - b) (drop b bytes) (omega (arith, length-drop b bytes)))) (by s)
  where
    by : SearchedTo at divider bytes (Some (a, b)) → IsCutAt divider bytes (take a bytes) (drop b bytes)
    by (inl h) = let k = subst (λ (z : List ℕ). SoFar divider z (Some (a, b))) (take_all at bytes l) h.1 in cut_of divider bytes (take a bytes) (drop b bytes) k.2
    by (inr h) = (h.1).2

pub rest_is : (bytes : List ℕ) (at : ℕ) → take (length bytes - at) (drop at bytes) ≡ drop at bytes
rest_is bytes at = take_all (length bytes - at) (drop at bytes) (omega (arith, length-drop at bytes))
