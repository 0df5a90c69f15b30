-- Lists in which no checkpoint stands where none may: they have none, or one in second place of the first list.
use Rattle.std.proofs.Common.{◌≡◌, ℕ, ◌⊎◌, inl, inr, List, [], ◌∷◌, length, map, refl, ap, ◌∙◌, Option, Some, None}
use Rattle.std.specs.List.{AllByRecursion}
use Rattle.snap_base.specs.declared.transactions.State.{State}
use Rattle.txn_records.specs.declared.records.Record.{Record}
use Rattle.txn_records.specs.declared.records.Record.TheVariants.{Genesis}
use Rattle.log_compact.specs.Points.{Point, point_told, IsPlain, plains}
use Rattle.log_compact.specs.Sets.{point_in, point_of, IsFirstList, HasNoStray, without_point, plain_lists}
use Rattle.log_compact.proofs.PlainFolds.{same_plains, all_same}

-- the first list is Genesis, the checkpoint and more; and this is what is left without it
pub record HasPoint (lists : List (List Record)) (p : Point) : Type 0 where
  pub count : ℕ
  pub first : List State
  pub told : Record
  pub rest : List Record
  pub others : List (List Record)
  pub is : lists ≡ (Genesis count first ∷ told ∷ rest) ∷ others
  pub tells : point_told told ≡ Some p
  pub as_many : length first ≡ length p.states
  pub plain : plain_lists lists ≡ (Genesis count p.states ∷ rest) ∷ others
  pub point : point_of lists ≡ Some p

abbrev pub Shape : List (List Record) → Type 0
Shape lists = AllByRecursion (AllByRecursion IsPlain) lists ⊎ ((p : Point) × HasPoint lists p)

shape_at : (rs : List Record) (lists : List (List Record)) (p : Option Point) → point_in rs ≡ p → IsFirstList rs p → AllByRecursion (AllByRecursion IsPlain) lists → Shape (rs ∷ lists)
shape_at rs lists None e fit others = inl (fit, others)
shape_at [] lists (Some p) e fit others = absurd (cc e)
shape_at (r ∷ []) lists (Some p) e fit others = absurd (cc e)
shape_at (Genesis count first ∷ x ∷ rest) lists (Some p) e fit others = inr (
  p,
  record {
    count = count;
    first = first;
    told = x;
    rest = rest;
    others = lists;
    is = refl;
    tells = e;
    as_many = fit.0;
    plain =
        ap (λ q. without_point (Genesis count first ∷ x ∷ rest) q ∷ map plains lists) e
        ∙ (ap (λ z. (Genesis count p.states ∷ z) ∷ map plains lists) (same_plains rest fit.1) ∙ ap (λ z. (Genesis count p.states ∷ rest) ∷ z) (all_same lists others));
    point = e;
  },
)
shape_at (r ∷ x ∷ rest) lists (Some p) e fit others = absurd (cc e)

pub shape : (lists : List (List Record)) → HasNoStray lists → Shape lists
shape [] h = inl tt
shape (rs ∷ lists) h = shape_at rs lists (point_in rs) refl h.0 h.1
