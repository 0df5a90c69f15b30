-- Of a set with whom all stands that changed the actor ahead of it: the records of its readers tell nothing else than the others.
use Rattle.std.specs.Prelude.{◌≡◌, refl, Bool, true, false, ◌&&◌, ◌||◌, if◌then◌else◌, List, [], ◌∷◌, filter}
use Rattle.std.proofs.Common.{sym, ap, subst, inl, inr, ◌∙◌}
use Rattle.std.proofs.lemmas.Bool.{true≢false, or_left, or_right}
use Rattle.snap_base.specs.declared.transactions.State.{State}
use Rattle.protocol.specs.Parts.{Who}
use Rattle.protocol.specs.Words.{is_who}
use Rattle.protocol_laws.specs.Commits.{is_kept}
use Rattle.protocol_laws.proofs.machine.TrackLists.{is_who_refl}
use Rattle.protocol_records.specs.Telling.{One, names, last_one}
use Rattle.followed_runs.specs.Following.{ChangedAhead}
use Rattle.followed_runs.proofs.ChangedAhead.{same_or_not}
use Rattle.followed_runs.proofs.InOrder.{ReadersTell}

-- ---- the records of its readers tell nothing else

no_readers : (P : Who → Bool) (kept readers : List Who) (os : List One) → ((y : Who) → P y ≡ true → is_kept y readers ≡ true → names y os ≡ true → ⊥) → filter (λ o. P o.who && (is_kept o.who kept || is_kept o.who readers)) os ≡ filter (λ o. P o.who && is_kept o.who kept) os
no_readers P kept readers [] n = refl
no_readers P kept readers (o ∷ os) n = by (P o.who) (is_kept o.who kept) (is_kept o.who readers) refl refl (no_readers P kept readers os (λ y p r m. n y p r (or_right (is_who y o.who) _ m)))
  where
    by : (p k r : Bool) → P o.who ≡ p → is_kept o.who readers ≡ r → filter (λ o. P o.who && (is_kept o.who kept || is_kept o.who readers)) os ≡ filter (λ o. P o.who && is_kept o.who kept) os
        → (if p && (k || r) then o ∷ filter (λ o. P o.who && (is_kept o.who kept || is_kept o.who readers)) os else filter (λ o. P o.who && (is_kept o.who kept || is_kept o.who readers)) os) ≡ (if p && k then o ∷ filter (λ o. P o.who && is_kept o.who kept) os else filter (λ o. P o.who && is_kept o.who kept) os)
    by true true r e f g = ap (λ l. o ∷ l) g
    by true false true e f g = absurd (n o.who e f (or_left (is_who o.who o.who) _ (is_who_refl o.who)))
    by true false false e f g = g
    by false k r e f g = g

pub readers_aside : (P : Who → Bool) (kept readers : List Who) (s : State) (os : List One) → ((z y : Who) → P y ≡ true → is_kept y readers ≡ true → is_kept z kept ≡ true → ChangedAhead (λ v. is_kept v kept) s z y os → P z ≡ true) → ReadersTell kept readers s os
    → last_one s (filter (λ o. P o.who && (is_kept o.who kept || is_kept o.who readers)) os) ≡ last_one s (filter (λ o. P o.who && is_kept o.who kept) os)
readers_aside P kept readers s [] c h = refl
readers_aside P kept readers s (o ∷ os) c h = by (is_kept o.who kept) (P o.who) (is_kept o.who readers) refl refl refl (readers_aside P kept readers (if is_kept o.who kept then o.state else s) os (λ z y p r k i. c z y p r k (inr i)) h.1)
  where
    all : List One
    all = filter (λ o. P o.who && (is_kept o.who kept || is_kept o.who readers)) os

    most : List One
    most = filter (λ o. P o.who && is_kept o.who kept) os

    by : (k p r : Bool) → is_kept o.who kept ≡ k → P o.who ≡ p → is_kept o.who readers ≡ r → last_one (if is_kept o.who kept then o.state else s) all ≡ last_one (if is_kept o.who kept then o.state else s) most → last_one s (if p && (k || r) then o ∷ all else all) ≡ last_one s (if p && k then o ∷ most else most)
    by true true r e f g next = subst (λ b. last_one (if b then o.state else s) all ≡ last_one (if b then o.state else s) most) e next
    by true false r e f g next = elim (same_or_not o.state s) [
      | inl q ↦ ap (λ x. last_one x all) (sym q) ∙ (subst (λ b. last_one (if b then o.state else s) all ≡ last_one (if b then o.state else s) most) e next ∙ ap (λ x. last_one x most) q)
      | inr q ↦ ap (last_one s) (no_readers P kept readers os (λ y p v m. true≢false (sym (c o.who y p v e (inl (is_who_refl o.who, q, m))) ∙ f)))
    ]
    by false true true e f g next = ap (λ x. last_one x all) (h.0 g) ∙ subst (λ b. last_one (if b then o.state else s) all ≡ last_one (if b then o.state else s) most) e next
    by false true false e f g next = subst (λ b. last_one (if b then o.state else s) all ≡ last_one (if b then o.state else s) most) e next
    by false false r e f g next = subst (λ b. last_one (if b then o.state else s) all ≡ last_one (if b then o.state else s) most) e next
