-- Who is marked as replied to, along a run.
use Rattle.std.proofs.Common.{◌≡◌, ◌⊎◌, inl, inr, ℕ, suc, ◌<◌, Bool, true, false, List, [], ◌∷◌, length, get_or, slice_set, Contains, refl, sym, ap, ◌∙◌, arith}
use Rattle.std.specs.List.{list_all}
use Rattle.std.proofs.lemmas.Bool.{cases_eq, true≢false}
use Rattle.std.proofs.lemmas.List.{get_or-replicate, get_or-set_other, length-set, length-replicate}
use Rattle.std.proofs.lemmas.List.Folds.{list_all_at}
use Rattle.protocol.specs.Contents.{Content, IsSame, is_changed, Replied}
use Rattle.protocol.specs.Effects.{after}
use Rattle.protocol.specs.Events.{Event, Reply}
use Rattle.protocol.specs.Fixed.{Fixed}
use Rattle.protocol.specs.Parts.{Machine}
use Rattle.protocol.specs.Report.{replied}
use Rattle.protocol.specs.Runs.{opening, reached, state_after}
use Rattle.run_work.specs.Runs.{EachHasReply}

-- what an event may not change is the same after it
abbrev pub Frames : (C : Type 0) → Type 0
Frames C = (w : Fixed C) (e : Event) (s : Machine C) (q : Content) → is_changed q e ≡ false → IsSame q s (after w e s)

-- a mark is set now, or was set before
set_mark : (marks : List Bool) (m n : ℕ) → get_or (slice_set marks m true) n false ≡ true → (n ≡ m) ⊎ (get_or marks n false ≡ true)
set_mark marks m n is = elim (cases_eq n m) [
  | inl same ↦ inl same
  | inr other ↦ inr (sym (get_or-set_other marks m n true false other) ∙ is)
]

among_more : (m n : ℕ) (ns : List ℕ) → Contains ns n → Contains (m ∷ ns) n
among_more m n ns there = (suc there.0, omega (arith, there.1), there.2)

-- who is marked after some events was so before, or has its Reply among them
marked_along : {C : Type 0} (w : Fixed C) → Frames C → (es : List Event) (s : Machine C) (n : ℕ) → get_or (state_after w es s).desk.replied n false ≡ true
    → (get_or s.desk.replied n false ≡ true) ⊎ Contains (replied es) n
unfolding after
marked_along w frame [] s n is = inl is
marked_along w frame (Reply m ∷ es) s n is = elim (marked_along w frame es (after w (Reply m) s) n is) [
  | inl set ↦ elim (set_mark s.desk.replied m n set) [
    | inl here ↦ inr (0, omega arith, sym here)
    | inr before ↦ inl before
  ]
  | inr there ↦ inr (among_more m n (replied es) there)
]
marked_along w frame (e ∷ es) s n is = elim (marked_along w frame es (after w e s) n is) [
  | inl set ↦ inl (ap (λ (marks : List Bool). get_or marks n false) (sym (frame w e s Replied refl)) ∙ set)
  | inr there ↦ inr there
]

-- as many are marked or not
as_many : {C : Type 0} (w : Fixed C) → Frames C → (es : List Event) (s : Machine C) → length (state_after w es s).desk.replied ≡ length s.desk.replied
unfolding after
as_many w frame [] s = refl
as_many w frame (Reply m ∷ es) s = as_many w frame es (after w (Reply m) s) ∙ length-set s.desk.replied m true
as_many w frame (e ∷ es) s = as_many w frame es (after w e s) ∙ ap (λ (marks : List Bool). length marks) (frame w e s Replied refl)

marked_at : (marks : List Bool) (n : ℕ) → n < length marks → list_all (λ r. r) marks ≡ true → get_or marks n false ≡ true
marked_at marks n lt all = by (get_or marks n false) refl
  where
    by : (b : Bool) → get_or marks n false ≡ b → get_or marks n false ≡ true
    by true is = is
    by false is = absurd (true≢false (sym all ∙ list_all_at (λ r. r) marks n false lt is))

pub all_replied : {C : Type 0} (w : Fixed C) (es : List Event) → Frames C → list_all (λ r. r) (reached w es).desk.replied ≡ true → EachHasReply (length w.text.txs) es
all_replied w es frame all n lt =
    let marks = (reached w es).desk.replied in
    let many : length marks ≡ length w.text.txs = as_many w frame es (opening w) ∙ length-replicate (length w.text.txs) false in
    elim (marked_along w frame es (opening w) n (marked_at marks n (omega (arith, lt, many)) all)) [
      | inl set ↦ absurd (true≢false (sym set ∙ get_or-replicate (length w.text.txs) n false false lt))
      | inr there ↦ there
    ]
