-- Where slices end with values of 64 bits, all results of a run are within 64 bits: those of the desk, and those of the book.
use Rattle.std.specs.Prelude.{◌≡◌, refl, ℕ, ◌+◌, ◌==◌, Bool, true, false, if◌then◌else◌, FitsSigned, Option, Some, None, List, [], ◌∷◌, map}
use Rattle.std.proofs.Common.{subst}
use Rattle.std.specs.Int.{w64}
use Rattle.std.specs.List.{AllByRecursion}
use Rattle.snap_base.specs.declared.transactions.TxResult.{TxResult}
use Rattle.snap_base.specs.declared.transactions.TxResult.TheVariants.{Value, Fail}
use Rattle.protocol.specs.Contents.{Content, PactResults, ActResults, IsSame, is_changed}
use Rattle.protocol.specs.Effects.{after, cell_at}
use Rattle.protocol.specs.Events.{Event, Form, Admit, End}
use Rattle.protocol.specs.Fixed.{Fixed, Next, Go, Ended}
use Rattle.protocol.specs.OnBook as book
use Rattle.protocol.specs.OnDesk as desk
use Rattle.protocol.specs.OnRing as ring
use Rattle.protocol.specs.Parts.{Act, Batch, Machine, Outcome, Pact}
use Rattle.protocol.specs.Words.{batch_of, has_act, outcome_of, value_of, values_of}
use Rattle.run_effects.proofs.ValuesFit.{Fits, nought_fits}
use Rattle.run_effects.proofs.Elements.{If, all_found, all_join}
use Rattle.run_effects.proofs.StatesKept.{Keeps, MetNext, ResultFits, here}

-- what ended has a result within 64 bits
abbrev pub EndFits : Option TxResult → Type 0
EndFits None = Unit {0}
EndFits (Some r) = ResultFits r

abbrev pub PactsFit : Batch → Type 0
PactsFit b = AllByRecursion (λ p. EndFits p.result) b.pacts

abbrev pub ActFits : Act → Type 0
ActFits x = EndFits x.result

pub record ResultsFit {C : Type 0} (s : Machine C) : Type 0 where
  pub batches : AllByRecursion PactsFit s.desk.batches
  pub acts : AllByRecursion ActFits s.book.acts

-- ---- what is told of them fits

pub value_fits : (r : Option TxResult) → EndFits r → Fits (value_of r)
value_fits None h = nought_fits
value_fits (Some (Value v)) h = h
value_fits (Some (Fail code)) h = nought_fits

pact_values : (ps : List Pact) → AllByRecursion (λ p. EndFits p.result) ps → AllByRecursion (FitsSigned w64) (map (λ p. value_of p.result) ps)
pact_values [] h = tt
pact_values (p ∷ ps) h = (value_fits p.result h.0, pact_values ps h.1)

pub values_fit : {C : Type 0} (s : Machine C) (k : ℕ) → ResultsFit s → AllByRecursion (FitsSigned w64) (values_of (batch_of k s.desk.batches))
values_fit s k h = by (batch_of k s.desk.batches) (all_found PactsFit (λ b. b.bid == k) s.desk.batches h.batches)
  where
    by : (o : Option Batch) → If PactsFit o → AllByRecursion (FitsSigned w64) (values_of o)
    by None g = tt
    by (Some b) g = pact_values b.pacts g

-- ---- where an event leaves the results

-- what holds of all that are read so holds where the same is read
all_read : {X A : Type 0} (f : X → A) (P : A → Type 0) (xs ys : List X) → map f ys ≡ map f xs → AllByRecursion (λ x. P (f x)) xs → AllByRecursion (λ x. P (f x)) ys
all_read f P [] [] e h = tt
all_read f P [] (y ∷ ys) e h = absurd (cc e)
all_read f P (x ∷ xs) [] e h = absurd (cc e)
all_read f P (x ∷ xs) (y ∷ ys) e h = let same : f x ≡ f y = cc e in (subst P same h.0, all_read f P xs ys (cc e) h.1)

-- the results of PACTs, as a list of lists
ends_of : (ps : List Pact) → AllByRecursion (λ p. EndFits p.result) ps → AllByRecursion EndFits (map (λ p. p.result) ps)
ends_of [] h = tt
ends_of (p ∷ ps) h = (h.0, ends_of ps h.1)

ends_back : (ps : List Pact) → AllByRecursion EndFits (map (λ p. p.result) ps) → AllByRecursion (λ p. EndFits p.result) ps
ends_back [] h = tt
ends_back (p ∷ ps) h = (h.0, ends_back ps h.1)

abbrev results_in : Batch → List (Option TxResult)
results_in b = map (λ p. p.result) b.pacts

to_lists : (bs : List Batch) → AllByRecursion PactsFit bs → AllByRecursion (λ b. AllByRecursion EndFits (results_in b)) bs
to_lists [] h = tt
to_lists (b ∷ bs) h = (ends_of b.pacts h.0, to_lists bs h.1)

from_lists : (bs : List Batch) → AllByRecursion (λ b. AllByRecursion EndFits (results_in b)) bs → AllByRecursion PactsFit bs
from_lists [] h = tt
from_lists (b ∷ bs) h = (ends_back b.pacts h.0, from_lists bs h.1)

batches_stay : (bs cs : List Batch) → map results_in cs ≡ map results_in bs → AllByRecursion PactsFit bs → AllByRecursion PactsFit cs
batches_stay bs cs e h = from_lists cs (all_read results_in (AllByRecursion EndFits) bs cs e (to_lists bs h))

acts_stay : (xs ys : List Act) → map (λ x. x.result) ys ≡ map (λ x. x.result) xs → AllByRecursion ActFits xs → AllByRecursion ActFits ys
acts_stay xs ys e h = all_read (λ (x : Act). x.result) EndFits xs ys e h

-- ---- where it notes one

none_yet : (t : ℕ) (ns : List ℕ) → AllByRecursion (λ p. EndFits p.result) (ring.numbered t ns)
none_yet t [] = tt
none_yet t (n ∷ ns) = (tt, none_yet (t + 1) ns)

pact_noted : (t : ℕ) (r : TxResult) (ps : List Pact) → ResultFits r → AllByRecursion (λ p. EndFits p.result) ps → AllByRecursion (λ p. EndFits p.result) (map (desk.with_result t r) ps)
pact_noted t r [] f h = tt
pact_noted t r (p ∷ ps) f h = (by (p.tid == t), pact_noted t r ps f h.1)
  where
    by : (b : Bool) → EndFits (if b then Some r else p.result)
    by true = f
    by false = h.0

batches_noted : (t : ℕ) (r : TxResult) (bs : List Batch) → ResultFits r → AllByRecursion PactsFit bs → AllByRecursion PactsFit (map (desk.with_results t r) bs)
batches_noted t r [] f h = tt
batches_noted t r (b ∷ bs) f h = (by b.aborted, batches_noted t r bs f h.1)
  where
    by : (c : Bool) → AllByRecursion (λ p. EndFits p.result) (if c then b.pacts else map (desk.with_result t r) b.pacts)
    by true = h.0
    by false = pact_noted t r b.pacts f h.0

acts_noted : (t : ℕ) (r : TxResult) (xs : List Act) → ResultFits r → AllByRecursion ActFits xs → AllByRecursion ActFits (book.changed_act t (book.with_result r) xs)
acts_noted t r [] f h = tt
acts_noted t r (x ∷ xs) f h = (by (x.tid == t), acts_noted t r xs f h.1)
  where
    by : (b : Bool) → ActFits (book.change_if b (book.with_result r) x)
    by true = f
    by false = h.0

pacts_ended : {C : Type 0} (Met : C → Type 0) (t : ℕ) (is_act : Bool) (o : Option (Outcome C)) (bs : List Batch) → If (λ x. MetNext Met x.next) o → AllByRecursion PactsFit bs → AllByRecursion PactsFit (if is_act then bs else desk.noted_from t o bs)
pacts_ended Met t true o bs m h = h
pacts_ended Met t false None bs m h = h
pacts_ended {C} Met t false (Some x) bs m h = by x.next m
  where
    by : (n : Next C) → MetNext Met n → AllByRecursion PactsFit (desk.noted_for t n bs)
    by (Go b c) k = h
    by (Ended r) k = batches_noted t r bs k h

acts_ended : {C : Type 0} (Met : C → Type 0) (t : ℕ) (is_act : Bool) (o : Option (Outcome C)) (xs : List Act) → If (λ x. MetNext Met x.next) o → AllByRecursion ActFits xs → AllByRecursion ActFits (if is_act then book.noted_from t o xs else xs)
acts_ended Met t false o xs m h = h
acts_ended Met t true None xs m h = h
acts_ended {C} Met t true (Some x) xs m h = by x.next m
  where
    by : (n : Next C) → MetNext Met n → AllByRecursion ActFits (book.noted_for t n xs)
    by (Go b c) k = h
    by (Ended r) k = acts_noted t r xs k h

-- ---- an event

-- what is not among an event's changes stays: a law of the machine
abbrev pub Frames : {C : Type 0} → Fixed C → Type 0
Frames {C} w = (e : Event) (s : Machine C) (q : Content) → is_changed q e ≡ false → IsSame q s (after w e s)

pub results_stay : {C : Type 0} (w : Fixed C) (Met : C → Type 0) → Frames w → (e : Event) (s : Machine C) → Keeps Met s → ResultsFit s → ResultsFit (after w e s)
unfolding after
results_stay w Met frames (Form k) s kept h = record {
  batches = all_join PactsFit s.desk.batches _ h.batches (none_yet s.ring.next_tid _, tt);
  acts = h.acts;
}
results_stay w Met frames (Admit t) s kept h = record { batches = h.batches; acts = all_join ActFits s.book.acts _ h.acts (tt, tt) }
results_stay w Met frames (End t a) s kept h =
    let met = all_found (λ x. MetNext Met x.next) (λ x. x.tid == t) (cell_at s a).outbox (here Met s a kept).outbox in
    record {
      batches = pacts_ended Met t (has_act t (cell_at s a).entries) (outcome_of t (cell_at s a).outbox) s.desk.batches met h.batches;
      acts = acts_ended Met t (has_act t (cell_at s a).entries) (outcome_of t (cell_at s a).outbox) s.book.acts met h.acts;
    }
results_stay w Met frames e s kept h = record {
  batches = batches_stay s.desk.batches (after w e s).desk.batches (frames e s PactResults refl) h.batches;
  acts = acts_stay s.book.acts (after w e s).book.acts (frames e s ActResults refl) h.acts;
}
