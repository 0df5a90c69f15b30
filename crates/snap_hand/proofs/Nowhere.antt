-- Events at an actor or a log that does not exist.
use Rattle.std.proofs.Common.{◌≡◌, ℕ, zero, suc, ◌<◌, ◌≤◌, ◌==◌, Bool, true, false, not, nat_lt, if◌then◌else◌, Some, None, List, [], ◌∷◌, length, find, slice_get, refl, sym, ap, subst, ◌∙◌, arith}
use Rattle.std.specs.List.{AllByRecursion}
use Rattle.std.proofs.lemmas.Bool.Decides.{nat_tests}
use Rattle.std.proofs.lemmas.Option.{slice_get_past}
use Rattle.aml_slice.specs.Controls.{Rest}
use Rattle.core_rows.specs.core_facts.RowsMay.{RowsMay}
use Rattle.core_rows.specs.OnRuns.{HasRun}
use Rattle.protocol.specs.Conditions.{IsAllowed, first_false, refusal, conditions}
use Rattle.protocol.specs.Events.{Event, Prepare, Sync}
use Rattle.protocol.specs.Fixed.{Fixed}
use Rattle.protocol.specs.Parts.{Machine}
use Rattle.protocol.specs.Words.{holds, joined_of}
use Rattle.protocol_laws.specs.Ranges.{NumbersInRange, ActInRange, IsActor}
use Rattle.snap_hand.specs.Hands.{Parts, IsHandOf}
use Rattle.snap_hand.specs.Steps.{OnSomeRun, IsRefusalOn}

-- ---- whether there is one

pub below : (a n : ℕ) (b : Bool) → b ≡ nat_lt a n → b ≡ true → a < n
below a n b e h = grind (arith, nat_tests)

past : (a n : ℕ) (b : Bool) → b ≡ nat_lt a n → b ≡ false → n ≤ a
past a n b e h = grind (arith, nat_tests)

pub no_actor : (w : Fixed Rest) (s : Machine Rest) (h : Parts) (a : ℕ) (b : Bool) → RowsMay w s → IsHandOf w h → b ≡ nat_lt a (length h.cells) → b ≡ false → slice_get s.cells a ≡ None
no_actor w s h a b may i e out = slice_get_past s.cells a (subst (λ n. n ≤ a) (i.cells ∙ sym may.cells) (past a (length h.cells) b e out))

pub no_log : (w : Fixed Rest) (s : Machine Rest) (h : Parts) (l : ℕ) (b : Bool) → RowsMay w s → IsHandOf w h → b ≡ nat_lt l (length h.logs) → b ≡ false → slice_get s.logs l ≡ None
no_log w s h l b may i e out = slice_get_past s.logs l (subst (λ n. n ≤ l) (i.logs ∙ sym may.logs) (past l (length h.logs) b e out))

pub not_an_actor : (w : Fixed Rest) (h : Parts) (a : ℕ) (b : Bool) → IsHandOf w h → b ≡ nat_lt a (length h.cells) → b ≡ false → IsActor w a → ⊥
not_an_actor w h a b i e out is = let p : length h.cells ≤ a = past a (length h.cells) b e out in let q = i.cells in absurd (omega arith)

-- the only condition of Sync is of the log itself
pub syncs_nowhere : (w : Fixed Rest) (s : Machine Rest) (l : ℕ) → slice_get s.logs l ≡ None → refusal w (Sync l) s ≡ 1
unfolding refusal conditions
syncs_nowhere w s l none = ap (λ o. first_false 1 (holds (λ g. nat_lt g.synced (length g.records)) o ∷ [])) none

-- ---- an event that is never allowed has a rule that refuses it

some_rule : (rule : ℕ) → (rule ≡ 0 → ⊥) → 1 ≤ rule
some_rule zero n = absurd (n refl)
some_rule (suc m) n = omega arith

pub refuses : (w : Fixed Rest) (e : Event) (h : Parts) (rule : ℕ) → OnSomeRun w h → IsRefusalOn w e h rule → ((s : Machine Rest) → refusal w e s ≡ 0 → IsAllowed w e s) → ((s : Machine Rest) → HasRun w s → IsAllowed w e s → ⊥) → 1 ≤ rule
refuses w e h rule some is law never = some_rule rule (λ z. never some.state some.run (law some.state (is some.state some.run some.fits ∙ z)))

-- ---- who is found

found_here : {X : Type 0} (P : X → Type 0) (q f : X → Bool) (x : X) (xs : List X) (b : Bool) → q x ≡ b → P x → holds f (if b then Some x else find q xs) ≡ true
    → (holds f (find q xs) ≡ true → (y : X) × (P y × (q y ≡ true) × (f y ≡ true))) → (y : X) × (P y × (q y ≡ true) × (f y ≡ true))
found_here P q f x xs true e p h more = (x, (p, e, h))
found_here P q f x xs false e p h more = more h

pub found : {X : Type 0} (P : X → Type 0) (q f : X → Bool) (xs : List X) → AllByRecursion P xs → holds f (find q xs) ≡ true → (x : X) × (P x × (q x ≡ true) × (f x ≡ true))
found P q f [] all h = absurd (cc h)
found P q f (x ∷ xs) all h = found_here P q f x xs (q x) refl all.0 h (λ g. found P q f xs all.1 g)

pub same_number : (n a : ℕ) → (n == a) ≡ true → n ≡ a
same_number n a h = grind (arith, nat_tests)

-- who prepares exists
pub prepares_somewhere : (w : Fixed Rest) (s : Machine Rest) (t a : ℕ) → NumbersInRange w s → IsAllowed w (Prepare t a) s → IsActor w a
unfolding conditions
prepares_somewhere w s t a r ok =
    let x = found (ActInRange w s) (λ y. y.tid == t) (λ y. holds (λ p. not p.prepared) (joined_of a y)) s.book.acts r.acts ok.1.0 in
    let p = found (λ y. IsActor w y.actor) (λ y. y.actor == a) (λ y. not y.prepared) x.0.places x.1.0.actors x.1.2 in
    subst (IsActor w) (same_number p.0.actor a p.1.1) p.1.0
