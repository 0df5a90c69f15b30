-- The lists of a fold have one Genesis, and it has as many states as they fold to.
use Rattle.std.proofs.Common.{◌≡◌, ℕ, suc, ◌+◌, inl, inr, List, [], ◌∷◌, ◌++◌, length, refl, sym, ap, subst, ◌∙◌, arith, filter, Some}
use Rattle.snap_base.specs.declared.transactions.State.{State}
use Rattle.txn_records.specs.declared.records.Record.{Record}
use Rattle.txn_records.specs.declared.records.Record.TheVariants.{Genesis, Checkpoint}
use Rattle.snap_recover.specs.Logs.{all_of, is_genesis, geneses}
use Rattle.log_compact.specs.declared.folds.Folded.{Folded}
use Rattle.log_compact.specs.Points.{Point, point_told}
use Rattle.log_compact.specs.Sets.{states_at, plain_lists, IsFolded}
use Rattle.log_compact.proofs.FoldShapes.{Shape, shape}
use Rattle.log_compact.proofs.PlainFolds.{same_lists}

-- that of the lists, where the plain lists have this one
pub record IsOne (lists : List (List Record)) (plain : List State) : Type 0 where
  pub first : List State
  pub one : geneses lists ≡ Genesis (length lists) first ∷ []
  pub as_many : length first ≡ length plain

not_genesis : (x : Record) (p : Point) (rs : List Record) → point_told x ≡ Some p → filter is_genesis (x ∷ rs) ≡ filter is_genesis rs
not_genesis (Checkpoint generation next_tid next_bid next_c batches acts states) p rs e = refl
not_genesis x p rs e = absurd (cc e)

-- of a list that begins with Genesis no more is one
one_told : (count n : ℕ) (first states plain : List State) (x : Record) (p : Point) (rest : List Record) → point_told x ≡ Some p → Genesis count states ∷ filter is_genesis rest ≡ Genesis n plain ∷ []
    → (filter is_genesis (Genesis count first ∷ x ∷ rest) ≡ Genesis n first ∷ []) × (states ≡ plain)
one_told count n first states plain x p rest e g =
    let i : count ≡ n = cc g in
    let none : filter is_genesis rest ≡ [] = cc g in
    let same : states ≡ plain = cc g in
    (ap (λ z. Genesis count first ∷ z) (not_genesis x p rest e ∙ none) ∙ ap (λ k. Genesis k first ∷ []) i, same)

one_by : (lists : List (List Record)) (plain : List State) → geneses (plain_lists lists) ≡ Genesis (length (plain_lists lists)) plain ∷ [] → Shape lists → IsOne lists plain
one_by lists plain g (inl none) = record { first = plain; one = subst (λ z. geneses z ≡ Genesis (length z) plain ∷ []) (same_lists lists none) g; as_many = refl }
one_by lists plain g (inr (p, h)) =
    let at : geneses ((Genesis h.count p.states ∷ h.rest) ∷ h.others) ≡ Genesis (length h.others + 1) plain ∷ [] =
    subst (λ z. geneses z ≡ Genesis (length z) plain ∷ []) h.plain g ∙ ap (λ k. Genesis k plain ∷ []) (omega arith) in
    let t = one_told h.count (length h.others + 1) h.first p.states plain h.told p (h.rest ++ all_of h.others) h.tells at in
    record {
      first = h.first;
      one =
          ap geneses h.is
          ∙ (t.0 ∙ ap (λ k. Genesis k h.first ∷ []) (omega (arith, ap (λ z. length z) h.is)));
      as_many = h.as_many ∙ ap (λ z. length z) t.1;
    }

pub one_of : (lists : List (List Record)) (f : Folded) (x : IsFolded lists f) → IsOne lists x.recovered.begun.0
one_of lists f x = one_by lists x.recovered.begun.0 x.recovered.begun.1.one (shape lists x.no_stray)

pub first_is : (lists : List (List Record)) (f : Folded) (x : IsFolded lists f) → f.first ≡ (one_of lists f x).first
first_is lists f x = x.first ∙ ap states_at (one_of lists f x).one

zip_length : (logs : List (List Record)) (n : ℕ) (first states : List State) → Rattle.std.specs.List.AllZip (λ (x : ℕ × State) s. Rattle.snap_recover.specs.Opening.IsStateOf logs x.0 x.1 s) (Rattle.std.specs.List.enumerate_from n first) states → length first ≡ length states
zip_length logs n [] [] h = refl
zip_length logs n [] (y ∷ ys) h = elim h [ ]
zip_length logs n (x ∷ xs) [] h = elim h [ ]
zip_length logs n (x ∷ xs) (y ∷ ys) h = ap (λ k. suc k) (zip_length logs (n + 1) xs ys h.1)

pub as_many_in : (lists : List (List Record)) (f : Folded) → IsFolded lists f → length f.first ≡ length f.opening.states
as_many_in lists f x =
    ap (λ z. length z) (first_is lists f x)
    ∙ ((one_of lists f x).as_many ∙ (zip_length (plain_lists lists) 0 x.recovered.begun.0 x.found.states x.recovered.begun.2 ∙ ap (λ z. length z) (sym x.states)))
