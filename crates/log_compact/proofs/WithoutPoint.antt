-- What is left of lists without their checkpoint.
use Rattle.std.proofs.Common.{◌≡◌, ℕ, ◌<◌, Bool, false, IsTrue, IsSome, List, [], ◌∷◌, ◌++◌, length, get_or, take, drop, refl, sym, ap, subst, ◌∙◌, arith, Option, Some, None}
use Rattle.std.specs.Prelude.{slice_set}
use Rattle.std.specs.List.{AllByRecursion}
use Rattle.snap_base.specs.declared.ids.Bid.{Bid}
use Rattle.snap_base.specs.declared.ids.Tid.{Tid}
use Rattle.snap_base.specs.declared.transactions.State.{State}
use Rattle.txn_records.specs.declared.records.Record.{Record}
use Rattle.txn_records.specs.declared.records.Record.TheVariants.{Genesis, Checkpoint}
use Rattle.log_compact.specs.declared.stripping.Told.{Told}
use Rattle.log_compact.specs.Points.{Point, IsPlain}
use Rattle.log_compact.specs.Sets.{point_in, point_of, states_at, first_of, IsFirstList, HasNoStray, restated, without_point, number_of}
use Rattle.log_compact.specs.Stripping.{IsStripped, IsToldBy}
use Rattle.log_compact.proofs.PlainFolds.{same_plains, all_same, same_lists}

-- the second record is taken out of the list, and Genesis gets its states
pub record IsTaken (list behind now : List Record) (states : List State) : Type 0 where
  pub taken : Record
  pub is : taken ≡ get_or list 1 taken
  pub rest : behind ≡ take 1 list ++ drop 2 list
  pub genesis : Record
  pub stands : genesis ≡ get_or behind 0 genesis
  pub new : now ≡ slice_set behind 0 (restated states genesis)

pub taken_is : (list behind now : List Record) (generation : ℕ) (next_tid : Tid) (next_bid : Bid) (next_c batches acts : ℕ) (states : List State) → IsSome (point_in list) → AllByRecursion IsPlain (drop 2 list) → (t : IsTaken list behind now states) → t.taken ≡ Checkpoint generation next_tid next_bid next_c batches acts states
    → now ≡ without_point list (point_in list)
taken_is [] behind now generation next_tid next_bid next_c batches acts states h plain t e = absurd (cc h)
taken_is (r ∷ []) behind now generation next_tid next_bid next_c batches acts states h plain t e = absurd (cc h)
taken_is (Genesis count first ∷ Checkpoint g tid bid c bs as_ given ∷ rest) behind now generation next_tid next_bid next_c batches acts states h plain t e =
    let same : states ≡ given = cc (sym e ∙ t.is) in
    let genesis : t.genesis ≡ Genesis count first = t.stands ∙ ap (λ z. get_or z 0 t.genesis) t.rest in
    let new : restated states t.genesis ≡ Genesis count given = ap (restated states) genesis ∙ ap (λ z. Genesis count z) same in
    t.new
    ∙ (ap (λ z. slice_set z 0 (restated states t.genesis)) t.rest
    ∙ (ap (λ z. z ∷ rest) new ∙ ap (λ z. Genesis count given ∷ z) (sym (same_plains rest plain))))
taken_is (r ∷ x ∷ rest) behind now generation next_tid next_bid next_c batches acts states h plain t e = absurd (cc)

-- ---- no checkpoint

plain_where : (logs : List (List Record)) → HasNoStray logs → point_of logs ≡ None → AllByRecursion (AllByRecursion IsPlain) logs
plain_where [] h e = tt
plain_where (rs ∷ logs) h e = (subst (IsFirstList rs) e h.0, h.1)

pub none_stripped : (logs now : List (List Record)) → HasNoStray logs → now ≡ logs → point_of logs ≡ None
    → IsStripped logs (record { lists = now; first = None; told = record { generation = 0; next_tid = 0; next_bid = 0; next_c = 0; batches = 0; acts = 0 } })
none_stripped logs now h same e = record {
  lists = same ∙ sym (same_lists logs (plain_where logs h e));
  first = ap first_of same;
  told = record {
    generation = sym (ap (number_of (λ p. p.generation)) e);
    next_tid = sym (ap (number_of (λ p. p.next_tid)) e);
    next_bid = sym (ap (number_of (λ p. p.next_bid)) e);
    next_c = sym (ap (number_of (λ p. p.next_c)) e);
    batches = sym (ap (number_of (λ p. p.batches)) e);
    acts = sym (ap (number_of (λ p. p.acts)) e);
  };
}

pub empty_has_none : (logs : List (List Record)) → length logs ≡ 0 → point_of logs ≡ None
empty_has_none [] e = refl
empty_has_none (rs ∷ logs) e = absurd (omega (arith, e))

pub first_has_none : (logs : List (List Record)) (rs : List Record) → 0 < length logs → rs ≡ get_or logs 0 rs → ¬ IsSome (point_in rs) → point_of logs ≡ None
first_has_none [] rs l e h = absurd (omega (arith, l))
first_has_none (x ∷ logs) rs l e h = by (point_in x) (subst (λ z. ¬ IsSome (point_in z)) e h)
  where
    by : (p : Option Point) → ¬ IsSome p → p ≡ None
    by None no_point = refl
    by (Some p) no_point = absurd (no_point refl)

pub not_both : (b : Bool) → b ≡ false → ¬ IsTrue b
not_both b e t = absurd (cc (e, t))

-- ---- one checkpoint

pub same_first : (logs : List (List Record)) (a b : List Record) → 0 < length logs → a ≡ get_or logs 0 a → b ≡ get_or logs 0 b → a ≡ b
same_first [] a b l e i = absurd (omega (arith, l))
same_first (x ∷ logs) a b l e i = e ∙ sym i

first_at : (rs : List Record) (logs : List (List Record)) → IsSome (point_in rs) → states_at rs ≡ first_of (rs ∷ logs)
first_at [] logs h = absurd (cc h)
first_at (r ∷ []) logs h = absurd (cc h)
first_at (Genesis count first ∷ x ∷ rest) logs h = refl
first_at (r ∷ x ∷ rest) logs h = absurd (cc h)

pub some_stripped : (logs now : List (List Record)) (rs new : List Record) (first : List State) (told : Told) → HasNoStray logs → 0 < length logs → rs ≡ get_or logs 0 rs → IsSome (point_in rs)
    → now ≡ slice_set logs 0 new → new ≡ without_point rs (point_in rs) → first ≡ states_at rs → IsToldBy (point_in rs) told
    → IsStripped logs (record { lists = now; first = Some first; told = told })
some_stripped [] now rs new first told h l e some is at f t = absurd (omega (arith, l))
some_stripped (x ∷ logs) now rs new first told h l e some is at f t = record {
  lists = is ∙ (ap (λ z. z ∷ logs) (at ∙ ap (λ z. without_point z (point_in z)) e) ∙ ap (λ z. without_point x (point_in x) ∷ z) (sym (all_same logs h.1)));
  first = f ∙ (ap states_at e ∙ first_at x logs (subst (λ z. IsSome (point_in z)) e some));
  told = subst (λ z. IsToldBy (point_in z) told) e t;
}
