-- Papers are in order, or one clause is false first, at one place: never both, and one answer at most.
use Rattle.std.specs.Prelude.{◌≡◌, refl, ℕ, zero, suc, ◌⊎◌, List, [], ◌∷◌, ◌++◌, length}
use Rattle.std.proofs.Common.{arith, sym, ap, subst, inl, inr, ◌∙◌}
use Rattle.std.proofs.lemmas.List.{append-nil, append_assoc}
use Rattle.protocol.specs.Conditions.{AllTrue}
use Rattle.protocol.specs.Fixed.{Text}
use Rattle.protocol.specs.Events.{Event}
use Rattle.protocol.specs.Parts.{Ring}
use Rattle.audit_words.specs.Seen.{first_ring}
use Rattle.audit_words.specs.Happenings.{ring_after, seen}
use Rattle.audit_words.specs.Papers.{Line}
use Rattle.audit_words.specs.Clauses.{Language, MayFollow, TellsPlace, TellsMeaning, TellsOrder, TellsEvidence}
use Rattle.audit_words.specs.Audited.{ring_conditions, EachMeets, ring_behind, IsFirstNotMet, EachLine, IsFirstOff, HasShape, IsShapeOff, OrBehind, LinesOff, Audited, IsOff}

-- ---- a place among lines

OffAt : (List Line → Line → Type 0) → List Line → List Line → ℕ → Type 0
OffAt P front [] n = ⊥
OffAt P front (l ∷ ls) zero = ¬ P front l
OffAt P front (l ∷ ls) (suc n) = P front l × OffAt P (front ++ l ∷ []) ls n

off_at : (P : List Line → Line → Type 0) (front f : List Line) (l : Line) (rest : List Line) → EachLine P front f → (¬ P (front ++ f) l) → OffAt P front (f ++ l ∷ rest) (length f)
unfolding OffAt
off_at P front [] l rest h k = subst (λ (z : List Line). ¬ P z l) (append-nil front) k
off_at P front (x ∷ f) l rest h k = (h.0, off_at P (front ++ x ∷ []) f l rest h.1 (subst (λ (z : List Line). ¬ P z l) (sym (append_assoc front (x ∷ []) f)) k))

one_place : (P : List Line → Line → Type 0) (front ls : List Line) (n k : ℕ) → OffAt P front ls n → OffAt P front ls k → n ≡ k
unfolding OffAt
one_place P front [] n k h g = absurd h
one_place P front (l ∷ ls) zero zero h g = refl
one_place P front (l ∷ ls) zero (suc k) h g = absurd (h g.0)
one_place P front (l ∷ ls) (suc n) zero h g = absurd (g h.0)
one_place P front (l ∷ ls) (suc n) (suc k) h g = ap suc (one_place P (front ++ l ∷ []) ls n k h.1 g.1)

none_off : (P : List Line → Line → Type 0) (front ls : List Line) (n : ℕ) → EachLine P front ls → OffAt P front ls n → ⊥
unfolding OffAt
none_off P front [] n h g = g
none_off P front (l ∷ ls) zero h g = g h.0
none_off P front (l ∷ ls) (suc n) h g = none_off P (front ++ l ∷ []) ls n h.1 g.1

there : (P : List Line → Line → Type 0) (ls : List Line) (at : ℕ) (k : IsFirstOff P ls at) → OffAt P [] ls (length k.front)
there P ls at k = subst (λ (z : List Line). OffAt P [] z (length k.front)) (sym k.splits) (off_at P [] k.front k.line k.rest k.before k.off)

-- ---- of lines

lines_once : (P : List Line → Line → Type 0) (ls : List Line) (a b : ℕ) → IsFirstOff P ls a → IsFirstOff P ls b → a ≡ b
lines_once P ls a b h g = omega (arith, h.number, g.number, one_place P [] ls (length h.front) (length g.front) (there P ls a h) (there P ls b g))

lines_apart : (P : List Line → Line → Type 0) (ls : List Line) (a : ℕ) → EachLine P [] ls → IsFirstOff P ls a → ⊥
lines_apart P ls a h g = none_off P [] ls (length g.front) h (there P ls a g)

-- ---- of the shape

shape_once : (txs actors settled : ℕ) (ls : List Line) (a b : ℕ) → IsShapeOff txs actors settled ls a → IsShapeOff txs actors settled ls b → a ≡ b
shape_once txs actors settled ls a b (inl h) (inl g) = lines_once (MayFollow txs actors settled) ls a b h g
shape_once txs actors settled ls a b (inl h) (inr g) = absurd (lines_apart (MayFollow txs actors settled) ls a g.0 h)
shape_once txs actors settled ls a b (inr h) (inl g) = absurd (lines_apart (MayFollow txs actors settled) ls b h.0 g)
shape_once txs actors settled ls a b (inr h) (inr g) = h.2 ∙ sym g.2

shape_apart : (txs actors settled : ℕ) (ls : List Line) (a : ℕ) → HasShape txs actors settled ls → IsShapeOff txs actors settled ls a → ⊥
shape_apart txs actors settled ls a h (inl g) = lines_apart (MayFollow txs actors settled) ls a h.each g
shape_apart txs actors settled ls a h (inr g) = absurd (omega (arith, h.whole, g.1))

-- ---- of events

NotMetAt : Text → Ring → List Event → ℕ → Type 0
NotMetAt w r [] n = ⊥
NotMetAt w r (e ∷ es) zero = ¬ AllTrue (ring_conditions w e r)
NotMetAt w r (e ∷ es) (suc n) = AllTrue (ring_conditions w e r) × NotMetAt w (ring_after w e r) es n

not_met_at : (w : Text) (r : Ring) (f : List Event) (e : Event) (rest : List Event) → EachMeets w f r → (¬ AllTrue (ring_conditions w e (ring_behind w f r))) → NotMetAt w r (f ++ e ∷ rest) (length f)
unfolding NotMetAt
not_met_at w r [] e rest h k = k
not_met_at w r (x ∷ f) e rest h k = (h.0, not_met_at w (ring_after w x r) f e rest h.1 k)

one_event : (w : Text) (r : Ring) (es : List Event) (n k : ℕ) → NotMetAt w r es n → NotMetAt w r es k → n ≡ k
unfolding NotMetAt
one_event w r [] n k h g = absurd h
one_event w r (e ∷ es) zero zero h g = refl
one_event w r (e ∷ es) zero (suc k) h g = absurd (h g.0)
one_event w r (e ∷ es) (suc n) zero h g = absurd (g h.0)
one_event w r (e ∷ es) (suc n) (suc k) h g = ap suc (one_event w (ring_after w e r) es n k h.1 g.1)

all_met : (w : Text) (r : Ring) (es : List Event) (n : ℕ) → EachMeets w es r → NotMetAt w r es n → ⊥
unfolding NotMetAt
all_met w r [] n h g = g
all_met w r (e ∷ es) zero h g = g h.0
all_met w r (e ∷ es) (suc n) h g = all_met w (ring_after w e r) es n h.1 g.1

event_there : (w : Text) (es : List Event) (at : ℕ) (k : IsFirstNotMet w es at) → NotMetAt w (first_ring w) es (length k.front)
event_there w es at k = subst (λ (z : List Event). NotMetAt w (first_ring w) z (length k.front)) (sym k.splits) (not_met_at w (first_ring w) k.front k.event k.rest k.before k.off)

events_once : (w : Text) (es : List Event) (a b : ℕ) → IsFirstNotMet w es a → IsFirstNotMet w es b → a ≡ b
events_once w es a b h g = h.number ∙ (one_event w (first_ring w) es (length h.front) (length g.front) (event_there w es a h) (event_there w es b g) ∙ sym g.number)

events_apart : (w : Text) (es : List Event) (a : ℕ) → EachMeets w es (first_ring w) → IsFirstNotMet w es a → ⊥
events_apart w es a h g = all_met w (first_ring w) es (length g.front) h (event_there w es a g)

-- ---- clause by clause

abbrev Once : (ℕ → ℕ → Type 0) → Type 0
Once Off = (c a d b : ℕ) → Off c a → Off d b → (c ≡ d) × (a ≡ b)

clause_once : (Holds : Type 0) (Off : ℕ → Type 0) (number : ℕ) (Behind : ℕ → ℕ → Type 0) → ((a b : ℕ) → Off a → Off b → a ≡ b) → ((a : ℕ) → Holds → Off a → ⊥) → Once Behind → Once (OrBehind Holds Off number Behind)
clause_once Holds Off number Behind once apart rest c a d b (inl h) (inl g) = (h.0 ∙ sym g.0, once a b h.1 g.1)
clause_once Holds Off number Behind once apart rest c a d b (inl h) (inr g) = absurd (apart a g.0 h.1)
clause_once Holds Off number Behind once apart rest c a d b (inr h) (inl g) = absurd (apart b h.0 g.1)
clause_once Holds Off number Behind once apart rest c a d b (inr h) (inr g) = rest c a d b h.1 g.1

lines_clause : (P : List Line → Line → Type 0) (ls : List Line) (number : ℕ) (Behind : ℕ → ℕ → Type 0) → Once Behind → Once (LinesOff P ls number Behind)
lines_clause P ls number Behind rest = clause_once (EachLine P [] ls) (IsFirstOff P ls) number Behind (lines_once P ls) (lines_apart P ls) rest

pub one_answer : (p : Language) (w : Text) (es : List Event) (ls : List Line) → Once (IsOff p w es ls)
one_answer p w es ls =
    clause_once _ (IsFirstNotMet w es) 1 _ (events_once w es) (events_apart w es)
    (clause_once _ (IsShapeOff (length w.txs) (length w.opening.states) (length (seen p.reads w es).settled) ls) 2 _ (shape_once _ _ _ ls) (shape_apart _ _ _ ls)
    (lines_clause (TellsPlace (seen p.reads w es)) ls 3 _
    (lines_clause (TellsMeaning p.meaning w ls) ls 4 _
    (lines_clause (TellsOrder (seen p.reads w es)) ls 5 _
    (lines_clause (TellsEvidence p.meaning w (seen p.reads w es) ls) ls 6 (λ c a. ⊥) (λ c a d b h g. absurd h))))))

past : {A H B : Type 0} → A ⊎ (H × B) → (A → ⊥) → B
past (inl g) k = absurd (k g)
past (inr g) k = g.1

pub never_both : (p : Language) (w : Text) (es : List Event) (ls : List Line) (c a : ℕ) → Audited p w es ls → IsOff p w es ls c a → ⊥
never_both p w es ls c a h k =
    let k2 = past k (λ g. events_apart w es a h.numbered g.1) in
    let k3 = past k2 (λ g. shape_apart (length w.txs) (length w.opening.states) (length (seen p.reads w es).settled) ls a h.shape g.1) in
    let k4 = past k3 (λ g. lines_apart (TellsPlace (seen p.reads w es)) ls a h.places g.1) in
    let k5 = past k4 (λ g. lines_apart (TellsMeaning p.meaning w ls) ls a h.meaning g.1) in
    let k6 = past k5 (λ g. lines_apart (TellsOrder (seen p.reads w es)) ls a h.order g.1) in
    past k6 (λ g. lines_apart (TellsEvidence p.meaning w (seen p.reads w es) ls) ls a h.evidence g.1)
