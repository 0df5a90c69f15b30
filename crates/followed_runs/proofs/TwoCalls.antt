-- Of two calls the second knows what the first did, where a commit that was read before a call is taken by its second round.
use Rattle.std.specs.Prelude.{◌≡◌, refl, ◌⊎◌, Bool, true, false, Option, Some, None, List, [], ◌∷◌, ◌++◌}
use Rattle.std.proofs.Common.{arith, sym, ap, inl, inr, ◌∙◌}
use Rattle.std.proofs.lemmas.Bool.{cases_Bool, true≢false}
use Rattle.protocol.specs.Fixed.{Fixed}
use Rattle.protocol.specs.Parts.{Who, OfBatch, OfAct}
use Rattle.protocol.specs.Events.{Event}
use Rattle.protocol_records.specs.Crash.{is_in}
use Rattle.followed_runs.specs.Following.{Reading, what_is_read, IsLater, IsLaterThan, Round, read_before, TakeMostRounds, last_members, SeenIsShown, CallsKnowMore}

join_apart : {X : Type 0} (xs ys zs : List X) → (xs ++ ys) ++ zs ≡ xs ++ (ys ++ zs)
join_apart [] ys zs = refl
join_apart (x ∷ xs) ys zs = ap (λ l. x ∷ l) (join_apart xs ys zs)

pub later_later : {C : Type 0} (w : Fixed C) (es : List Event) (r q t : Reading w es) → IsLater r q → IsLater q t → IsLater r t
later_later w es r q t a b = record {
  moments = λ l i. let m = a.moments l i in let n = b.moments i i in (m.0 ++ n.0, n.1 ∙ (ap (λ z. z ++ n.0) m.1 ∙ join_apart (r.events l) m.0 n.0));
  still = λ l. omega (arith, a.still l, b.still l);
}

-- whom the rounds took stays
pub stays : {C : Type 0} {w : Fixed C} {es : List Event} (o : Option (Reading w es)) (taken : Who → Bool) (xs : List (Round w es)) → TakeMostRounds o taken xs → (z : Who) → taken z ≡ true → last_members taken xs z ≡ true
stays o taken [] t z e = e
stays o taken (x ∷ xs) t z e = stays (Some x.reading) x.members xs t.1 z (t.0.1.may.stay z e)

-- its commit was read, at no later moment than the last reading
pub record WasRead {C : Type 0} (w : Fixed C) (es : List Event) (o : Option (Reading w es)) (z : Who) : Type 0 where
  pub reading : Reading w es
  pub is_there : is_in w.text.logs (what_is_read reading) z ≡ true
  pub before : (q : Reading w es) → IsLaterThan o q → IsLater reading q

nothing_read : {C : Type 0} (w : Fixed C) (es : List Event) (z : Who) → is_in w.text.logs (read_before {w = w} {es = es} None) z ≡ true → ⊥
nothing_read w es (OfBatch k) e = true≢false (sym e)
nothing_read w es (OfAct t) e = true≢false (sym e)

in_reading : {C : Type 0} (w : Fixed C) (es : List Event) (r : Reading w es) (z : Who) → is_in w.text.logs (read_before (Some r)) z ≡ true → is_in w.text.logs (what_is_read r) z ≡ true
in_reading w es r (OfBatch k) e = e
in_reading w es r (OfAct t) e = e

seen_before : {C : Type 0} (w : Fixed C) (es : List Event) (o : Option (Reading w es)) (x : Reading w es) (z : Who) → IsLaterThan o x → is_in w.text.logs (read_before o) z ≡ true → WasRead w es (Some x) z
seen_before w es None x z l e = absurd (nothing_read w es z e)
seen_before w es (Some r) x z l e = record { reading = r; is_there = in_reading w es r z e; before = λ q m. later_later w es r x q l m }

pub was_read : {C : Type 0} (w : Fixed C) (es : List Event) (o : Option (Reading w es)) (taken : Who → Bool) (xs : List (Round w es)) (last : Round w es) → ((z : Who) → taken z ≡ true → WasRead w es o z) → TakeMostRounds o taken (xs ++ last ∷ []) → (z : Who) → last.members z ≡ true → WasRead w es (Some last.reading) z
was_read {C} w es o taken [] last k t z e = one (cases_Bool (taken z))
  where
    one : (taken z ≡ true) ⊎ (taken z ≡ false) → WasRead w es (Some last.reading) z
    one (inl i) = let r = k z i in record { reading = r.reading; is_there = r.is_there; before = λ q m. later_later w es r.reading last.reading q (r.before last.reading t.0.0) m }
    one (inr i) = seen_before w es o last.reading z t.0.0 (t.0.1.may.seen z e i)
was_read {C} w es o taken (x ∷ xs) last k t z e = was_read w es (Some x.reading) x.members xs last one t.1 z e
  where
    one : (y : Who) → x.members y ≡ true → WasRead w es (Some x.reading) y
    one y m = by (cases_Bool (taken y))
      where
        by : (taken y ≡ true) ⊎ (taken y ≡ false) → WasRead w es (Some x.reading) y
        by (inl i) = let r = k y i in record { reading = r.reading; is_there = r.is_there; before = λ q l. later_later w es r.reading x.reading q (r.before x.reading t.0.0) l }
        by (inr i) = seen_before w es o x.reading y t.0.0 (t.0.1.may.seen y m i)

pub second_knows_more : {C : Type 0} → SeenIsShown C → CallsKnowMore C
second_knows_more shown w finish es xs last x y ys f text run t l u z e =
    let r = was_read w es None (λ z. false) xs last (λ z q. absurd (true≢false (sym q))) t z e in
    stays (Some y.reading) y.members ys u.1.1 z (shown w finish es r.reading x y f text run (r.before x.reading l) (u.0, (u.1.0, tt)) z r.is_there)
