-- A book that halves show is made of them, and an ACT of it is one of orders with its votes.
use Rattle.std.specs.Prelude.{◌≡◌, refl, ℕ, ◌==◌, true, Option, Some, None, is_some, option_map, List, [], ◌∷◌}
use Rattle.std.specs.List.{AllByRecursion}
use Rattle.std.proofs.Common.{sym, ap, subst, ◌∙◌}
use Rattle.std.proofs.lemmas.Bool.{true≢false, eqb-true}
use Rattle.protocol.specs.Parts.{Act, Book}
use Rattle.protocol.specs.Words.{act_of}
use Rattle.protocol.specs.BookParts.{act_by, book_of}
use Rattle.protocol_theorems.specs.BookFits.{BookFits, IsOrder, IsVotedBy}
use Rattle.protocol_laws.proofs.Lemmas.{all_found}
use Rattle.protocol_theorems.proofs.Lemmas.{found_by}
use Rattle.book_part.specs.Halves.{Halves, Shows}

pub is_book : (h : Halves) (b : Book) → Shows h b → b ≡ book_of h.orders h.votes h.cascades
is_book h b s = s.0.is ∙ ap (λ cs. book_of h.orders h.votes cs) s.1

pub act_found : (h : Halves) (b : Book) (t : ℕ) → Shows h b → act_of t b.acts ≡ option_map (act_by (act_of t h.votes.acts)) (act_of t h.orders.acts)
act_found h b t s = ap (λ (b : Book). act_of t b.acts) (is_book h b s) ∙ found_by h.votes.acts t h.orders.acts

-- ---- an ACT, as orders and votes have it

abbrev pub IsAt : Option Act → Option Act → Type 0
IsAt None y = y ≡ None
IsAt (Some x) y = IsOrder x × IsVotedBy y x

unknown : (t : ℕ) (o v : Book) → BookFits o v → act_of t o.acts ≡ None → (y : Option Act) → act_of t v.acts ≡ y → y ≡ None
unknown t o v f e None g = refl
unknown t o v f e (Some y) g =
    let u = all_found (λ z. is_some (act_of z.tid o.acts) ≡ true) (λ z. z.tid == t) v.acts y f.known g in
    let n : is_some (act_of t o.acts) ≡ true = ap (λ k. is_some (act_of k o.acts)) (sym (eqb-true y.tid t u.1)) ∙ u.0 in
    absurd (true≢false (sym n ∙ ap is_some e))

voted : (t : ℕ) (o v : Book) → BookFits o v → (x : Act) → act_of t o.acts ≡ Some x → IsVotedBy (act_of t v.acts) x
voted t o v f x e =
    let u = all_found (λ z. IsVotedBy (act_of z.tid v.acts) z) (λ z. z.tid == t) o.acts x f.voted e in
    subst (λ n. IsVotedBy (act_of n v.acts) x) (eqb-true x.tid t u.1) u.0

at : (t : ℕ) (o v : Book) → BookFits o v → (x : Option Act) → act_of t o.acts ≡ x → IsAt x (act_of t v.acts)
at t o v f None e = unknown t o v f e (act_of t v.acts) refl
at t o v f (Some x) e = ((all_found IsOrder (λ z. z.tid == t) o.acts x f.bare e).0, voted t o v f x e)

pub stands : (h : Halves) (b : Book) (t : ℕ) → Shows h b → IsAt (act_of t h.orders.acts) (act_of t h.votes.acts)
stands h b t s = at t h.orders h.votes s.0.fits (act_of t h.orders.acts) refl

-- an asking of an ACT is answered by what orders and votes have of it
pub asked : {X : Type 0} (q : Option Act → X) (r : Option Act → Option Act → X) → ((x y : Option Act) → IsAt x y → q (option_map (act_by y) x) ≡ r x y) → (h : Halves) (b : Book) (t : ℕ) → Shows h b
    → q (act_of t b.acts) ≡ r (act_of t h.orders.acts) (act_of t h.votes.acts)
asked q r e h b t s = ap q (act_found h b t s) ∙ e (act_of t h.orders.acts) (act_of t h.votes.acts) (stands h b t s)

nothing : (xs : List Act) → AllByRecursion (λ z. Unit {0}) xs
nothing [] = tt
nothing (x ∷ xs) = (tt, nothing xs)

pub found_tid : (t : ℕ) (o : Book) (x : Act) → act_of t o.acts ≡ Some x → x.tid ≡ t
found_tid t o x e = eqb-true x.tid t (all_found (λ z. Unit {0}) (λ z. z.tid == t) o.acts x (nothing o.acts) e).1

-- what the code finds in its own halves, k, it answers of the book
pub answers : {X : Type 0} (q : Option Act → X) (r : Option Act → Option Act → X) → ((x y : Option Act) → IsAt x y → q (option_map (act_by y) x) ≡ r x y) → (k h : Halves) → k ≡ h → (b : Book) (t : ℕ) → Shows h b
    → r (act_of t k.orders.acts) (act_of t k.votes.acts) ≡ q (act_of t b.acts)
answers q r e k h i b t s = sym (asked q r e k b t (subst (λ z. Shows z b) (sym i) s))
