-- No two ACTs of a run have one tid.
use Rattle.std.specs.Prelude.{◌≢◌, refl, ℕ, ◌≤◌, ◌==◌, nat_lt, nat_le, ◌&&◌, List, [], ◌∷◌, map}
use Rattle.std.specs.List.{AllByRecursion}
use Rattle.std.proofs.Common.{arith}
use Rattle.std.proofs.lemmas.Bool.{eq-eqb}
use Rattle.protocol.specs.Fixed.{Fixed}
use Rattle.protocol.specs.Numbers.{flat, times, NumbersDrawnOnce}
use Rattle.protocol.specs.Parts.{Act, Machine}
use Rattle.protocol_laws.proofs.Lemmas.{at_most_one}
use Rattle.protocol_records.proofs.recording.FewLists.{count_more}
use Rattle.recovery_laws.proofs.KnownLogs.{Apart}
use Rattle.recovery_laws.proofs.WholesGrown.{count_behind}

-- ---- tids

none_has : (t : ℕ) (xs : List Act) → times t (map (λ x. x.tid) xs) ≤ 0 → AllByRecursion (λ y. y.tid ≢ t) xs
none_has t [] l = tt
none_has t (y ∷ ys) l = (
  (λ e. omega (arith, l, count_more (λ n. n == t) y.tid (map (λ x. x.tid) ys) (eq-eqb y.tid t e))),
  none_has t ys (omega (arith, l, count_behind (λ n. n == t) (y.tid ∷ []) (map (λ x. x.tid) ys))),
)

apart_from : (xs : List Act) → ((t : ℕ) → times t (map (λ x. x.tid) xs) ≤ 1) → Apart xs
apart_from [] h = tt
apart_from (x ∷ xs) h = (
  none_has x.tid xs (omega (arith, h x.tid, count_more (λ n. n == x.tid) x.tid (map (λ x. x.tid) xs) (eq-eqb x.tid x.tid refl))),
  apart_from xs (λ t. omega (arith, h t, count_behind (λ n. n == t) (x.tid ∷ []) (map (λ x. x.tid) xs))),
)

pub acts_apart : {C : Type 0} (w : Fixed C) (s : Machine C) → NumbersDrawnOnce w s → Apart s.book.acts
acts_apart w s d = apart_from s.book.acts (λ t. omega (
  arith,
  count_behind (λ n. n == t) (flat (map (λ b. map (λ p. p.tid) b.pacts) s.desk.batches)) (map (λ x. x.tid) s.book.acts),
  d.tids t,
  at_most_one (nat_le w.text.opening.next_tid t && nat_lt t s.ring.next_tid),
))
