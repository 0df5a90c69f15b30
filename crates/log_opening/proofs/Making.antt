-- Open logs that are made ready one after the other.
use Rattle.std.proofs.Common.{◌≡◌, ◌≢◌, ℕ, zero, suc, ◌+◌, ◌<◌, ◌≤◌, inl, inr, List, [], ◌∷◌, length, set, refl, sym, ◌∙◌, ap, subst, arith, below_more}
use Rattle.std.proofs.lemmas.List.{get_or-set_other, get_or-set_same, length-set}
use Rattle.std.specs.Prelude.{◌⊎◌, false, slice_range}
use Rattle.std.specs.List.{AllByRecursion, AllZip}
use Rattle.gate_log.specs.declared.logs.LogItem.{LogItem}
use Rattle.gate_log.specs.State.{LogState, log_at}
use Rattle.log_compact.specs.Compacting.{IsOnSide}
use Rattle.log_opening.specs.Found.{IsReadyLog}
use Rattle.log_opening.specs.Upgrades.{AreAllReady, AreReadyBelow, IsLeftOld, IsMadeReady, IsNotMadeReady, IsStopped, items_at}
use Rattle.log_opening.proofs.Numbers.{each_zip, part_at, part_long}

pub all_open : (logs : List LogState) (found : List (List LogItem)) → AllZip IsReadyLog logs found → AllByRecursion (λ (l : LogState). l.shut ≡ false) logs
all_open [] found ready = tt
all_open (l ∷ logs) [] ready = absurd ready
all_open (l ∷ logs) (f ∷ found) ready = (ready.0.ready, all_open logs found ready.1)

pub open_at : (logs : List LogState) (d : ℕ) → d < length logs → AllByRecursion (λ (l : LogState). l.shut ≡ false) logs → (log_at logs d).shut ≡ false
open_at [] d lt all = absurd (omega (arith, lt))
open_at (l ∷ logs) zero lt all = all.0
open_at (l ∷ logs) (suc d) lt all = open_at logs d (omega (arith, lt)) all.1

known_at : (logs : List LogState) (found : List (List LogItem)) (d : ℕ) → d < length logs → AllZip IsReadyLog logs found → ((log_at logs d).format ≡ 1) ⊎ ((log_at logs d).format ≡ 2)
known_at logs found d lt all =
    let ready : IsReadyLog (log_at logs d) (items_at found d) = each_zip IsReadyLog logs found _ [] d all lt in ready.known

-- ---- one more of them

pub none_made : (from : ℕ) (old : List LogState) (listed : List (List LogItem)) → AreReadyBelow from 0 old old listed
none_made from old listed = record { many = refl; below = λ l lt. absurd (omega (arith, lt)); others = λ d not. refl }

-- the next one is as it was
pub next_kept : (from n : ℕ) (old mid : List LogState) (listed : List (List LogItem)) → AreReadyBelow from n old mid listed → log_at mid (from + n) ≡ log_at old (from + n)
next_kept from n old mid listed ready = ready.others (from + n) (λ side. let before : from + n < from + n = side.before in omega (arith, before))

module _ (from n : ℕ) (old mid new : List LogState) (listed : List (List LogItem)) (k : LogState) (ready : AreReadyBelow from n old mid listed) (there : from + n < length mid) (put : new ≡ set mid (from + n) k) where
  many : length new ≡ length old
  many = ap (λ (l : List LogState). length l) put ∙ length-set mid (from + n) k ∙ ready.many

  here : log_at new (from + n) ≡ k
  here = ap (λ (l : List LogState). log_at l (from + n)) put ∙ get_or-set_same mid (from + n) k _ there

  elsewhere : (d : ℕ) → d ≢ from + n → log_at new d ≡ log_at mid d
  elsewhere d not = ap (λ (l : List LogState). log_at l d) put ∙ get_or-set_other mid (from + n) d k _ not

  below : (l : ℕ) → l < n → IsMadeReady (log_at old (from + l)) (log_at new (from + l)) (items_at listed (from + l))
  below l lt =
      let not : from + l ≢ from + n = λ same. omega (arith, same, lt) in
      subst (λ (x : LogState). IsMadeReady (log_at old (from + l)) x (items_at listed (from + l))) (sym (elsewhere (from + l) not)) (ready.below l lt)

  others : (d : ℕ) → ¬ IsOnSide from (n + 1) d → log_at new d ≡ log_at old d
  others d not =
      elsewhere d (λ same. not (record { behind = omega (arith, same); before = omega (arith, same) }))
      ∙ ready.others d (λ side. let before : d < from + n = side.before in not (record { behind = side.behind; before = omega (arith, before) }))

  -- from what it was before all
  at_first : (P : LogState → LogState → Type 0) → P (log_at mid (from + n)) k → P (log_at old (from + n)) (log_at new (from + n))
  at_first P is =
      subst (λ (x : LogState). P (log_at old (from + n)) x) (sym here) (subst (λ (x : LogState). P x k) (next_kept from n old mid listed ready) is)

  pub ready_more : IsMadeReady (log_at mid (from + n)) k (items_at listed (from + n)) → AreReadyBelow from (n + 1) old new listed
  ready_more made = record {
    many = many;
    below = below_more (λ (l : ℕ). IsMadeReady (log_at old (from + l)) (log_at new (from + l)) (items_at listed (from + l))) n below (at_first (λ x y. IsMadeReady x y (items_at listed (from + n))) made);
    others = others;
  }

  pub stopped_here : (count : ℕ) → n < count → IsNotMadeReady (log_at mid (from + n)) k (items_at listed (from + n)) → IsStopped from count n old new listed
  stopped_here count lt not = record {
    asked = lt;
    many = many;
    below = below;
    failed = at_first (λ x y. IsNotMadeReady x y (items_at listed (from + n))) not;
    others = others;
  }

-- ---- their formats then

-- one that is not of format 1 is of format 2
second_then : (l k : LogState) (listed : List LogItem) → (l.format ≡ 1) ⊎ (l.format ≡ 2) → IsMadeReady l k listed → k.format ≢ 1 → k.format ≡ 2
second_then l k listed (inl one) (inl same) other = absurd (other (ap (λ (x : LogState). x.format) same.0 ∙ one))
second_then l k listed (inr two) (inl same) other = ap (λ (x : LogState). x.format) same.0 ∙ two
second_then l k listed known (inr up) other = up.2.second

module _ (head count : ℕ) (old new : List LogState) (found : List (List LogItem)) (ready : AllZip IsReadyLog old found) (within : head + count ≤ length old) (all : AreReadyBelow head count old new found) where
  second_at : (l : ℕ) → l < count → (log_at new (head + l)).format ≢ 1 → (log_at new (head + l)).format ≡ 2
  second_at l lt other =
      second_then (log_at old (head + l)) (log_at new (head + l)) (items_at found (head + l)) (known_at old found (head + l) (omega (arith, lt, within)) ready) (all.below l lt) other

  -- those in use, as a list of their own
  module _ (part : List LogState) (is : part ≡ slice_range new head (head + count)) where
    log_there : (l : ℕ) → l < count → log_at part l ≡ log_at new (head + l)
    log_there l lt = ap (λ (p : List LogState). log_at p l) is ∙ part_at new head count l _ lt

    part_many : length part ≡ count
    part_many = ap (λ (p : List LogState). length p) is ∙ part_long new head count (omega (arith, within, all.many))

    none_old : ((l : ℕ) → l < length part → (log_at part l).format ≢ 1) → (l : ℕ) → l < count → (log_at new (head + l)).format ≢ 1
    none_old none l lt = λ one. none l (omega (arith, lt, part_many)) (ap (λ (x : LogState). x.format) (log_there l lt) ∙ one)

    pub are_second : ((l : ℕ) → l < length part → (log_at part l).format ≢ 1) → AreAllReady head count old new found
    are_second none = record { all = all; second = λ l lt. second_at l lt (none_old none l lt) }

    pub left_first : (n : ℕ) → n < length part → (log_at part n).format ≡ 1 → ((l : ℕ) → l < n → (log_at part l).format ≢ 1) → IsLeftOld head count n old new found
    left_first n lt one none =
        let asked : n < count = omega (arith, lt, part_many) in
        record {
          asked = asked;
          all = all;
          old_format = sym (ap (λ (x : LogState). x.format) (log_there n asked)) ∙ one;
          least = λ l less.
              let here : l < count = omega (arith, less, asked) in
              second_at l here (λ first. none l less (ap (λ (x : LogState). x.format) (log_there l here) ∙ first));
        }
