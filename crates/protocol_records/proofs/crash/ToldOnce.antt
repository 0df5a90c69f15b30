-- Each record of a state is added once, of an actor of its batch, and marks its ACT there.
use Rattle.std.specs.Prelude.{◌≡◌, refl, Bool, true, false, List, [], ◌∷◌, ◌++◌}
use Rattle.std.proofs.Common.{sym, ap, subst, inl, inr, ◌∙◌}
use Rattle.std.proofs.lemmas.Bool.{true≢false, or_cases, or_right, or_parts, false_from_ne_true}
use Rattle.snap_base.specs.declared.transactions.State.{State}
use Rattle.protocol.specs.Parts.{Who}
use Rattle.protocol.specs.Words.{is_who, is_act_who}
use Rattle.protocol.specs.History.{Ran, Stands, Gone}
use Rattle.protocol_laws.specs.Commits.{is_kept, KeptFront}
use Rattle.protocol_records.specs.Logged.{is_on}
use Rattle.protocol_records.specs.Telling.{One, names, end_state, TellsState, AllTells}
use Rattle.protocol_laws.proofs.machine.TrackLists
use Rattle.protocol_records.proofs.crash.TellLists.{Unmarked, not_gone}

abbrev pub OnceTold : List One → Type 0
OnceTold [] = Unit {0}
OnceTold (o ∷ os) = (names o.who os ≡ false) × OnceTold os

names_join : (y : Who) (xs ys : List One) → names y xs ≡ false → names y ys ≡ false → names y (xs ++ ys) ≡ false
names_join y [] ys e f = f
names_join y (x ∷ xs) ys e f = let p = or_parts (is_who y x.who) (names y xs) e in rw (p.0, names_join y xs ys p.1 f) refl

pub once_more : (os : List One) (n : One) → names n.who os ≡ false → OnceTold os → OnceTold (os ++ n ∷ [])
once_more [] n e h = (refl, tt)
once_more (o ∷ os) n e h = let p = or_parts (is_who n.who o.who) (names n.who os) e in (names_join o.who os (n ∷ []) h.0 (rw (TrackLists.is_who_sym o.who n.who ∙ p.0) refl), once_more os n p.1 h.1)

pub once_apart : (y : Who) (xs ys : List One) → OnceTold (xs ++ ys) → names y xs ≡ true → names y ys ≡ true → ⊥
once_apart y [] ys h e f = true≢false (sym e)
once_apart y (x ∷ xs) ys h e f = elim (or_cases (is_who y x.who) (names y xs) e) [
  | inl q ↦ true≢false (sym (back y xs ys f) ∙ (ap (λ z. names z (xs ++ ys)) (TrackLists.is_who_true y x.who q) ∙ h.0))
  | inr q ↦ once_apart y xs ys h.1 q f
]
  where
    back : (y : Who) (xs ys : List One) → names y ys ≡ true → names y (xs ++ ys) ≡ true
    back y [] ys f = f
    back y (z ∷ zs) ys f = or_right (is_who y z.who) _ (back y zs ys f)

-- a batch that is told is marked complete, where it stands
tells_marked : (s : State) (y : Who) (st : State) (os : List One) (kept : List Who) (rs : List Ran) → is_act_who y ≡ false → Unmarked y rs → is_kept y kept ≡ false → KeptFront kept rs → is_on y rs ≡ true → TellsState s y st os rs → ⊥
tells_marked s y st os kept [] a u n f o h = true≢false (sym o)
tells_marked s y st os kept (Stands z c ss ∷ rs) a u n f o h = by (is_who z y) refl (λ e i. tells_marked (end_state s ss) y st os kept rs a u.1 n f.1 i (h.3 e))
  where
    by : (b : Bool) → is_who z y ≡ b → (is_who z y ≡ false → is_on y rs ≡ true → ⊥) → ⊥
    by true e r = true≢false (sym (h.1 e (ap is_act_who (TrackLists.is_who_true z y e) ∙ a)) ∙ u.0 e)
    by false e r = r e (elim (or_cases (is_who z y) (is_on y rs) o) [ inl q ↦ absurd (true≢false (sym q ∙ e)) | inr q ↦ q ])
tells_marked s y st os kept (Gone z ss ∷ rs) a u n f o h = let e = not_gone kept z y f.0 n in tells_marked (end_state s ss) y st os kept rs a u n f.1 (elim (or_cases (is_who z y) (is_on y rs) o) [ inl q ↦ absurd (true≢false (sym q ∙ e)) | inr q ↦ q ]) (h.2 e)

pub told_marked : (rd : Who → Bool) (s : State) (y : Who) (os : List One) (kept : List Who) (rs : List Ran) → rd y ≡ false → is_act_who y ≡ false → Unmarked y rs → is_kept y kept ≡ false → KeptFront kept rs → is_on y rs ≡ true → AllTells rd s os rs → names y os ≡ false
told_marked rd s y [] kept rs r a u n f o h = refl
told_marked rd s y (x ∷ os) kept rs r a u n f o h =
    let e : is_who y x.who ≡ false = false_from_ne_true (is_who y x.who) (λ q. tells_marked s y x.state os kept rs a u n f o (subst (λ z. TellsState s z x.state os rs) (sym (TrackLists.is_who_true y x.who q)) (h.0 (subst (λ z. rd z ≡ false) (TrackLists.is_who_true y x.who q) r)))) in
    rw (e, told_marked rd s y os kept rs r a u n f o h.1) refl
