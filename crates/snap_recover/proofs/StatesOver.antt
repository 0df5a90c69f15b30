-- The state that the last record tells which counts, as records are added.
use Rattle.std.proofs.Common.{◌≡◌, inl, inr, List, [], ◌∷◌, ◌++◌, refl, ap, subst, ◌∙◌, append_assoc}
use Rattle.std.specs.List.{AllByRecursion}
use Rattle.snap_base.specs.declared.transactions.State.{State}
use Rattle.snap_base.proofs.Lists.{all_join, all_back, both_all}
use Rattle.txn_records.specs.declared.records.Record.{Record}
use Rattle.snap_recover.specs.Logs.{states_in}
use Rattle.snap_recover.specs.Passes.{StateOver}

abbrev pub Agree : (Record → Type 0) → (Record → Type 0) → Record → Type 0
Agree P Q r = (P r → Q r) × (Q r → P r)

pub over_alike : (P Q : Record → Type 0) (rs : List Record) (first s : State) → AllByRecursion (Agree P Q) rs → StateOver P rs first s → StateOver Q rs first s
over_alike P Q rs first s h (inl (r, told, (front, behind, e, p, quiet))) =
    let there : AllByRecursion (Agree P Q) (front ++ r ∷ behind) = subst (AllByRecursion (Agree P Q)) e h in
    let rest = all_back (Agree P Q) front (r ∷ behind) there in
    inl (r, told, (front, behind, e, rest.0.0 p, both_all (Agree P Q) (λ r. ¬ P r) (λ r. ¬ Q r) behind (λ r a n q. n (a.1 q)) rest.1 quiet))
over_alike P Q rs first s h (inr (quiet, e)) = inr (both_all (Agree P Q) (λ r. ¬ P r) (λ r. ¬ Q r) rs (λ r a n q. n (a.1 q)) h quiet, e)

pub over_quiet : (P : Record → Type 0) (rs more : List Record) (first s : State) → AllByRecursion (λ r. ¬ P r) more → StateOver P rs first s → StateOver P (rs ++ more) first s
over_quiet P rs more first s h (inl (r, told, (front, behind, e, p, quiet))) =
    inl (r, told, (front, behind ++ more, ap (λ (z : List Record). z ++ more) e ∙ append_assoc front (r ∷ behind) more, p, all_join (λ r. ¬ P r) behind more quiet h))
over_quiet P rs more first s h (inr (quiet, e)) = inr (all_join (λ r. ¬ P r) rs more quiet h, e)

pub over_counts : (P : Record → Type 0) (rs : List Record) (r : Record) (first s : State) → states_in r ≡ s ∷ [] → P r → StateOver P (rs ++ r ∷ []) first s
over_counts P rs r first s told p = inl (r, told, (rs, [], refl, p, tt))
