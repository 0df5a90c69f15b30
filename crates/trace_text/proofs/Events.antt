-- Events by their parts, and a line by its event.
use Rattle.std.proofs.Common.{◌≡◌, ℕ, ◌<◌, ◌^◌, List, ◌∷◌, ◌++◌, refl, sym, ap, ◌∙◌, arith}
use Rattle.std.specs.Prelude.{Option, Some, None, IfSome}
use Rattle.std.specs.Fmt.{decimal}
use Rattle.std.proofs.lemmas.Fmt.{decimal_injective}
use Rattle.core_events.specs.declared.events.Event.{Event}
use Rattle.core_events.specs.declared.events.Event.TheVariants as event
use Rattle.trace_text.specs.declared.names.Name.{Name}
use Rattle.trace_text.specs.Lines.{name_text, event_parts, numbers_text, event_line, AreNumbersOf, IsEvent}
use Rattle.trace_text.specs.Reads.{LacksByte, with_numbers}
use Rattle.trace_text.proofs.Cuts.{cut_one, no_cut_of, decimal_free, free_append}
use Rattle.trace_text.proofs.EventNames.{name_one, name_free, name_in_line, first_small}

pub with_parts : (e : Event) → with_numbers (event_parts e).0 (event_parts e).1 (event_parts e).2 ≡ Some e
with_parts (event.Submit n) = refl
with_parts (event.Pass n) = refl
with_parts (event.Form n) = refl
with_parts (event.Admit n) = refl
with_parts (event.Arrive n a) = refl
with_parts (event.Ask n a) = refl
with_parts (event.Take n a) = refl
with_parts (event.Run n a) = refl
with_parts (event.Send n a) = refl
with_parts (event.End n a) = refl
with_parts (event.Close n a) = refl
with_parts (event.Complete n a) = refl
with_parts (event.Sync n) = refl
with_parts (event.Note n a) = refl
with_parts (event.Commit n) = refl
with_parts (event.Settle n) = refl
with_parts (event.AbortBatch n) = refl
with_parts (event.Rollback n) = refl
with_parts (event.DropSub n a) = refl
with_parts (event.DropControl n) = refl
with_parts (event.Prepare n a) = refl
with_parts (event.Vouch n a) = refl
with_parts (event.Decide n) = refl
with_parts (event.Seal n) = refl
with_parts (event.Finish n a) = refl
with_parts (event.Reply n) = refl
with_parts (event.Trim n a) = refl

pub none_some : {X : Type 0} {x : X} → ◌≡◌ {A = Option X} None (Some x) → ⊥
none_some e = cc

-- ---- the numbers of a line

pub numbers_one : (m n : ℕ) (s t : Option ℕ) → m < 2 ^ 64 → n < 2 ^ 64 → IfSome s (λ a. a < 2 ^ 16) → IfSome t (λ a. a < 2 ^ 16) → numbers_text m s ≡ numbers_text n t → ◌≡◌ {A = ℕ × Option ℕ} (m, s) (n, t)
numbers_one m n None None f g h k e = ap (λ x. (x, None)) (decimal_injective m n f g e)
numbers_one m n None (Some b) f g h k e = absurd (no_cut_of 32 (decimal m) (decimal n) (decimal b) (decimal_free 32 m (omega arith) f) e)
numbers_one m n (Some a) None f g h k e = absurd (no_cut_of 32 (decimal n) (decimal m) (decimal a) (decimal_free 32 n (omega arith) g) (sym e))
numbers_one m n (Some a) (Some b) f g h k e =
    let both = cut_one 32 (decimal m) (decimal a) (decimal n) (decimal b) (decimal_free 32 m (omega arith) f) (decimal_free 32 n (omega arith) g) e in
    ap (λ x. (x, Some a)) (decimal_injective m n f g both.0) ∙ ap (λ y. (n, Some y)) (decimal_injective a b (omega (arith, h)) (omega (arith, k)) both.1)

-- ---- a line is of one event

pub line_cut : (line a b : List ℕ) (e : Event) → line ≡ a ++ 32 ∷ b → LacksByte 32 a → line ≡ event_line e → (a ≡ name_text (event_parts e).0) × (b ≡ numbers_text (event_parts e).1 (event_parts e).2)
line_cut line a b e cut free is = cut_one 32 a b (name_text (event_parts e).0) (numbers_text (event_parts e).1 (event_parts e).2) free (name_free (event_parts e).0) (sym cut ∙ is)

parts_one : (k l : Name) (x y : ℕ × Option ℕ) → k ≡ l → x ≡ y → with_numbers k x.0 x.1 ≡ with_numbers l y.0 y.1
parts_one k l x y e f = rw (e, f) refl

pub event_one : (e f : Event) → IsEvent e → IsEvent f → event_line e ≡ event_line f → e ≡ f
event_one e f he hf is =
    let both = line_cut (event_line e) (name_text (event_parts e).0) (numbers_text (event_parts e).1 (event_parts e).2) f refl (name_free (event_parts e).0) is in
    let numbers = numbers_one (event_parts e).1 (event_parts f).1 (event_parts e).2 (event_parts f).2 (first_small _ _ he.first) (first_small _ _ hf.first) he.second hf.second both.1 in
    let same : Some e ≡ Some f = sym (with_parts e) ∙ parts_one (event_parts e).0 (event_parts f).0 ((event_parts e).1, (event_parts e).2) ((event_parts f).1, (event_parts f).2) (name_one _ _ both.0) numbers ∙ with_parts f in
    cc

-- ---- no line feed is in the line of an event

numbers_in_line : (n : ℕ) (s : Option ℕ) → n < 2 ^ 64 → IfSome s (λ a. a < 2 ^ 16) → LacksByte 10 (numbers_text n s)
numbers_in_line n None f h = decimal_free 10 n (omega arith) f
numbers_in_line n (Some a) f h = free_append 10 (decimal n) (32 ∷ decimal a) (decimal_free 10 n (omega arith) f) (refl, decimal_free 10 a (omega arith) (omega (arith, h)))

pub event_in_line : (e : Event) → IsEvent e → LacksByte 10 (event_line e)
event_in_line e h = free_append 10 (name_text (event_parts e).0) (32 ∷ numbers_text (event_parts e).1 (event_parts e).2) (name_in_line (event_parts e).0) (refl, numbers_in_line _ _ (first_small _ _ h.first) h.second)

-- ---- a line's numbers, by its cut

pub numbers_cut : (text a b : List ℕ) (n : ℕ) (s : Option ℕ) → text ≡ a ++ 32 ∷ b → LacksByte 32 a → n < 2 ^ 64 → IfSome s (λ a. a < 2 ^ 16) → text ≡ numbers_text n s
    → (m : ℕ) × (s ≡ Some m) × (m < 2 ^ 16) × (a ≡ decimal n) × (b ≡ decimal m)
numbers_cut text a b n None cut free small fits is = absurd (no_cut_of 32 (decimal n) a b (decimal_free 32 n (omega arith) small) (sym is ∙ cut))
numbers_cut text a b n (Some m) cut free small fits is =
    let both = cut_one 32 a b (decimal n) (decimal m) free (decimal_free 32 n (omega arith) small) (sym cut ∙ is) in
    (m, refl, fits, both.0, both.1)

pub numbers_whole : (text : List ℕ) (n : ℕ) (s : Option ℕ) → LacksByte 32 text → text ≡ numbers_text n s → (s ≡ None) × (text ≡ decimal n)
numbers_whole text n None free is = (refl, is)
numbers_whole text n (Some m) free is = absurd (no_cut_of 32 text (decimal n) (decimal m) free is)

pub some_two : {n m a b : ℕ} {s : Option ℕ} → Some n ≡ Some m → Some a ≡ Some b → s ≡ Some b → ◌≡◌ {A = Option (ℕ × Option ℕ)} (Some (n, Some a)) (Some (m, s))
some_two {n} {m} {a} {b} {s} e f g =
    let h : n ≡ m = cc in
    let i : a ≡ b = cc in
    rw (h, i, g) refl

pub some_one : {n m : ℕ} {s : Option ℕ} → Some n ≡ Some m → s ≡ None → ◌≡◌ {A = Option (ℕ × Option ℕ)} (Some (n, None)) (Some (m, s))
some_one {n} {m} {s} e g =
    let h : n ≡ m = cc in
    rw (h, g) refl

-- ---- the event of parts that are an event's

parts_same : (k : Name) (n : ℕ) (s : Option ℕ) (q : Name × ℕ × Option ℕ) → Some k ≡ Some q.0 → ◌≡◌ {A = Option (ℕ × Option ℕ)} (Some (n, s)) (Some (q.1, q.2)) → ◌≡◌ {A = Name × ℕ × Option ℕ} (k, n, s) q
parts_same k n s q e f =
    let name : k ≡ q.0 = cc in
    let numbers : ◌≡◌ {A = ℕ × Option ℕ} (n, s) (q.1, q.2) = cc in
    let g : ℕ × Option ℕ → Name × ℕ × Option ℕ = λ x. (k, x.0, x.1) in
    let h : Name → Name × ℕ × Option ℕ = λ m. (m, q.1, q.2) in
    ap g numbers ∙ ap h name

with_same : (o : Option Event) (p q : Name × ℕ × Option ℕ) → p ≡ q → (AreNumbersOf p → o ≡ with_numbers p.0 p.1 p.2) → AreNumbersOf q → o ≡ with_numbers q.0 q.1 q.2
with_same o p q e only h = only (rw e h) ∙ ap (λ (r : Name × ℕ × Option ℕ). with_numbers r.0 r.1 r.2) e

pub with_found : (o : Option Event) (k : Name) (n : ℕ) (s : Option ℕ) (e : Event) → (AreNumbersOf (k, n, s) → o ≡ with_numbers k n s) → Some k ≡ Some (event_parts e).0
    → ◌≡◌ {A = Option (ℕ × Option ℕ)} (Some (n, s)) (Some ((event_parts e).1, (event_parts e).2)) → IsEvent e → o ≡ Some e
with_found o k n s e only name numbers h = with_same o (k, n, s) (event_parts e) (parts_same k n s (event_parts e) name numbers) only h ∙ with_parts e
