-- Whose entry an ACT's own entries are.
use Rattle.std.proofs.Common.{◌≡◌, ℕ, ◌==◌, Bool, true, false, not, List, [], ◌∷◌, refl, sym, ap, ◌∙◌, arith}
use Rattle.std.specs.Prelude.{filter}
use Rattle.std.proofs.lemmas.Bool.{cond_both}
use Rattle.std.proofs.lemmas.List.Elements.{filter_agree}
use Rattle.protocol.specs.CellParts.{Boxes, cleared}
use Rattle.protocol.specs.OnCell.{is_tid_among, own_entries}
use Rattle.protocol.specs.Parts.{Entry, BatchEntry, ActEntry}
use Rattle.protocol.specs.Words.{has_act, without_waiting, without_outcome}

pub none_own : (t : ℕ) (es : List Entry) → has_act t es ≡ false → own_entries t es ≡ []
none_own t [] h = refl
none_own t (BatchEntry b ∷ es) h = none_own t es h
none_own t (ActEntry x ∷ es) h =
    cond_both (x.tid == t) (ActEntry x ∷ own_entries t es) (own_entries t es) (λ o. o ≡ []) (λ e. absurd (grind (arith, h, e))) (λ e. none_own t es (grind (arith, h, e)))

other_own : (t u : ℕ) (es : List Entry) → (u == t) ≡ false → is_tid_among u (own_entries t es) ≡ false
other_own t u [] h = refl
other_own t u (BatchEntry b ∷ es) h = other_own t u es h
other_own t u (ActEntry x ∷ es) h =
    let rest = other_own t u es h in
    cond_both (x.tid == t) (ActEntry x ∷ own_entries t es) (own_entries t es) (λ o. is_tid_among u o ≡ false) (λ e. grind (arith, h, e, rest)) (λ e. rest)

itself_own : (t u : ℕ) (es : List Entry) → (u == t) ≡ true → has_act t es ≡ true → is_tid_among u (own_entries t es) ≡ true
itself_own t u [] h a = a
itself_own t u (BatchEntry b ∷ es) h a = itself_own t u es h a
itself_own t u (ActEntry x ∷ es) h a =
    cond_both (x.tid == t) (ActEntry x ∷ own_entries t es) (own_entries t es) (λ o. is_tid_among u o ≡ true) (λ e. grind (arith, h, e)) (λ e. itself_own t u es h (grind (arith, a, e)))

-- where the ACT stands there
pub own_is : (t u : ℕ) (es : List Entry) → has_act t es ≡ true → (u == t) ≡ is_tid_among u (own_entries t es)
own_is t u es a = by (u == t) refl
  where
    by : (o : Bool) → (u == t) ≡ o → o ≡ is_tid_among u (own_entries t es)
    by true e = sym (itself_own t u es e a)
    by false e = sym (other_own t u es e)

kept_all : {X : Type 0} (xs : List X) → filter (λ x. true) xs ≡ xs
kept_all [] = refl
kept_all (x ∷ xs) = ap (λ ys. x ∷ ys) (kept_all xs)

-- an ACT's own things go from the boxes
pub boxes_left : {C : Type 0} (t : ℕ) (es : List Entry) (b : Boxes C) → has_act t es ≡ true
    → record { inbox = without_waiting t b.inbox; outbox = without_outcome t b.outbox } ≡ cleared (own_entries t es) b
boxes_left t es b a =
    rw (
      filter_agree (λ x. not (x.tid == t)) (λ x. not (is_tid_among x.tid (own_entries t es))) (λ x. ap not (own_is t x.tid es a)) b.inbox,
      filter_agree (λ x. not (x.tid == t)) (λ x. not (is_tid_among x.tid (own_entries t es))) (λ x. ap not (own_is t x.tid es a)) b.outbox,
    ) refl

-- nothing goes where it does not stand there
pub boxes_stay : {C : Type 0} (t : ℕ) (es : List Entry) (b : Boxes C) → has_act t es ≡ false → b ≡ cleared (own_entries t es) b
boxes_stay t es b a =
    let none : cleared (own_entries t es) b ≡ cleared [] b = ap (λ own. cleared own b) (none_own t es a) in
    sym (none ∙ rw (kept_all b.inbox, kept_all b.outbox) refl)
