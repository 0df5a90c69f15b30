-- The lines of a text, and of a trace.
use Rattle.std.proofs.Common.{◌≡◌, ◌≢◌, ℕ, ◌-◌, ◌<◌, zero, suc, take, drop, Bool, true, false, inl, inr, List, [], ◌∷◌, ◌++◌, length, map, refl, sym, ap, ◌∙◌, arith, eqb, if◌then◌else◌}
use Rattle.std.specs.Prelude.{◌⊎◌}
use Rattle.std.specs.List.{AllByRecursion, flat_map}
use Rattle.std.proofs.lemmas.List.{append_assoc, drop_all}
use Rattle.std.proofs.lemmas.Bool.{eqb-true}
use Rattle.core_events.specs.declared.events.Event.{Event}
use Rattle.snap_base.specs.Lines.{lines, onto_line}
use Rattle.trace_text.specs.Lines.{event_line, IsEvent}
use Rattle.trace_text.specs.Traces.{trace_of, IsTrace, IsFirstNoEvent}
use Rattle.trace_text.specs.Reads.{LacksByte}
use Rattle.trace_text.proofs.Events.{event_one, event_in_line}

lines_step : (t : Bool) (b : ℕ) (bs : List ℕ) → eqb b 10 ≡ t → lines (b ∷ bs) ≡ (if t then [] ∷ lines bs else onto_line b (lines bs))
lines_step t b bs e = ap (λ (t : Bool). if t then [] ∷ lines bs else onto_line b (lines bs)) e

pub lines_front : (front rest : List ℕ) → LacksByte 10 front → lines (front ++ 10 ∷ rest) ≡ front ∷ lines rest
lines_front [] rest free = refl
lines_front (b ∷ front) rest free = lines_step false b (front ++ 10 ∷ rest) free.0 ∙ ap (onto_line b) (lines_front front rest free.1)

lines_last : (b : ℕ) (front : List ℕ) → LacksByte 10 (b ∷ front) → lines (b ∷ front) ≡ (b ∷ front) ∷ []
lines_last b [] free = lines_step false b [] free.0
lines_last b (d ∷ front) free = lines_step false b (d ∷ front) free.0 ∙ ap (onto_line b) (lines_last d front free.1)

pub lines_whole : (rest : List ℕ) → LacksByte 10 rest → rest ≢ [] → lines rest ≡ rest ∷ []
lines_whole [] free some = absurd (some refl)
lines_whole (b ∷ bs) free some = lines_last b bs free

take_none : (n : ℕ) → ◌≡◌ {A = List ℕ} (take {A = ℕ} n []) []
take_none zero = refl
take_none (suc n) = refl

-- nothing lies behind a line that ends with the text
pub last_line : (rest : List ℕ) → 0 < length rest → LacksByte 10 rest → lines rest ≡ rest ∷ lines (take (length rest - length rest) (drop (length rest) rest))
last_line rest some free =
    let none : drop (length rest) rest ≡ [] = drop_all (length rest) rest (omega arith) in
    lines_whole rest free (λ e. omega (arith, some, ap length e)) ∙ ap (λ bs. rest ∷ lines bs) (sym (ap (take (length rest - length rest)) none ∙ take_none (length rest - length rest)))

-- ---- what is printed

said_of : (es : List Event) → AllByRecursion IsEvent es → lines (trace_of es) ≡ map event_line es
said_of [] all = refl
said_of (e ∷ es) all =
    ap lines (append_assoc (event_line e) (10 ∷ []) (trace_of es)) ∙ lines_front (event_line e) (trace_of es) (event_in_line e all.0) ∙ ap (λ ls. event_line e ∷ ls) (said_of es all.1)

pub trace_printed : (es : List Event) → AllByRecursion IsEvent es → IsTrace (trace_of es) es
trace_printed es all = record { events = all; said = said_of es all }

-- ---- one reading

said_one : (es fs : List Event) → AllByRecursion IsEvent es → AllByRecursion IsEvent fs → map event_line es ≡ map event_line fs → es ≡ fs
said_one [] [] h k e = refl
said_one [] (f ∷ fs) h k e = cc
said_one (e ∷ es) [] h k is = cc
said_one (e ∷ es) (f ∷ fs) h k is =
    let line : event_line e ≡ event_line f = cc in
    let more : map event_line es ≡ map event_line fs = cc in
    ap (λ x. x ∷ es) (event_one e f h.0 k.0 line) ∙ ap (λ xs. f ∷ xs) (said_one es fs h.1 k.1 more)

pub trace_one : (text : List ℕ) (es fs : List Event) → IsTrace text es → IsTrace text fs → es ≡ fs
trace_one text es fs h k = said_one es fs h.events k.events (sym h.said ∙ k.said)

no_said : (es before : List Event) (none : List ℕ) (behind : List (List ℕ)) → AllByRecursion IsEvent es → ((e : Event) → IsEvent e → none ≢ event_line e) → map event_line es ≡ map event_line before ++ none ∷ behind → ⊥
no_said [] [] none behind h differs e = cc
no_said [] (b ∷ before) none behind h differs e = cc
no_said (e ∷ es) [] none behind h differs is = let line : none ≡ event_line e = cc in differs e h.0 line
no_said (e ∷ es) (b ∷ before) none behind h differs is = let more : map event_line es ≡ map event_line before ++ none ∷ behind = cc in no_said es before none behind h.1 differs more

pub no_trace : (text : List ℕ) (es : List Event) (n : ℕ) → IsTrace text es → IsFirstNoEvent text n → ⊥
no_trace text es n h k = no_said es k.before k.none k.behind h.events k.no_event (sym h.said ∙ k.cut)

same_place : (es fs : List Event) (x y : List ℕ) (us vs : List (List ℕ)) → AllByRecursion IsEvent es → AllByRecursion IsEvent fs → ((e : Event) → IsEvent e → x ≢ event_line e) → ((e : Event) → IsEvent e → y ≢ event_line e)
    → map event_line es ++ x ∷ us ≡ map event_line fs ++ y ∷ vs → length es ≡ length fs
same_place [] [] x y us vs h k nx ny is = refl
same_place [] (f ∷ fs) x y us vs h k nx ny is = let line : x ≡ event_line f = cc in absurd (nx f k.0 line)
same_place (e ∷ es) [] x y us vs h k nx ny is = let line : y ≡ event_line e = cc in absurd (ny e h.0 line)
same_place (e ∷ es) (f ∷ fs) x y us vs h k nx ny is =
    let more : map event_line es ++ x ∷ us ≡ map event_line fs ++ y ∷ vs = cc in
    omega (arith, same_place es fs x y us vs h.1 k.1 nx ny more)

pub first_one : (text : List ℕ) (m n : ℕ) → IsFirstNoEvent text m → IsFirstNoEvent text n → m ≡ n
first_one text m n h k = omega (arith, h.number, k.number, same_place h.before k.before h.none k.none h.behind k.behind h.events k.events h.no_event k.no_event (sym h.cut ∙ k.cut))

-- ---- what a reader has read

pub record HasRead (text : List ℕ) (es : List Event) (rest : List ℕ) : Type 0 where
  pub events : AllByRecursion IsEvent es
  pub said : lines text ≡ map event_line es ++ lines rest

-- ---- a trace is what is printed, but for its last line feed

abbrev text_of : List (List ℕ) → List ℕ
text_of ls = flat_map (λ line. line ++ 10 ∷ []) ls

abbrev IsTextOf : List ℕ → List (List ℕ) → Type 0
IsTextOf text ls = (text ≡ text_of ls) ⊎ (text ++ 10 ∷ [] ≡ text_of ls)

text_more : (b : ℕ) (text : List ℕ) (ls : List (List ℕ)) → IsTextOf text ls → IsTextOf (b ∷ text) (onto_line b ls)
text_more b [] [] h = inr refl
text_more b (x ∷ xs) [] (inl e) = cc
text_more b (x ∷ xs) [] (inr e) = cc
text_more b text (l ∷ ls) (inl e) = inl (ap (λ bs. b ∷ bs) e)
text_more b text (l ∷ ls) (inr e) = inr (ap (λ bs. b ∷ bs) e)

text_feed : (b : ℕ) (text : List ℕ) (ls : List (List ℕ)) → b ≡ 10 → IsTextOf text ls → IsTextOf (b ∷ text) ([] ∷ ls)
text_feed b text ls is (inl e) = inl (ap (λ x. x ∷ text) is ∙ ap (λ bs. 10 ∷ bs) e)
text_feed b text ls is (inr e) = inr (ap (λ x. x ∷ (text ++ 10 ∷ [])) is ∙ ap (λ bs. 10 ∷ bs) e)

text_step : (t : Bool) (b : ℕ) (bs : List ℕ) → eqb b 10 ≡ t → IsTextOf bs (lines bs) → IsTextOf (b ∷ bs) (if t then [] ∷ lines bs else onto_line b (lines bs))
text_step true b bs is h = text_feed b bs (lines bs) (eqb-true b 10 is) h
text_step false b bs is h = text_more b bs (lines bs) h

text_of_lines : (text : List ℕ) → IsTextOf text (lines text)
text_of_lines [] = inl refl
text_of_lines (b ∷ bs) = text_step (eqb b 10) b bs refl (text_of_lines bs)

events_text : (es : List Event) → text_of (map event_line es) ≡ trace_of es
events_text [] = refl
events_text (e ∷ es) = ap (λ bs. (event_line e ++ 10 ∷ []) ++ bs) (events_text es)

of_events : (text : List ℕ) (ls : List (List ℕ)) (es : List Event) → ls ≡ map event_line es → IsTextOf text ls → (text ≡ trace_of es) ⊎ (text ++ 10 ∷ [] ≡ trace_of es)
of_events text ls es said (inl e) = inl (e ∙ ap text_of said ∙ events_text es)
of_events text ls es said (inr e) = inr (e ∙ ap text_of said ∙ events_text es)

pub trace_text_is : (text : List ℕ) (es : List Event) → IsTrace text es → (text ≡ trace_of es) ⊎ (text ++ 10 ∷ [] ≡ trace_of es)
trace_text_is text es h = of_events text (lines text) es h.said (text_of_lines text)
