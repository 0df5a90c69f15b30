-- Each number that lies anywhere is in range, after every run.
use Rattle.std.specs.Prelude.{◌≡◌, ◌<◌, List, [], ◌∷◌, length, map}
use Rattle.std.specs.List.{AllByRecursion}
use Rattle.std.proofs.Common.{◌∙◌}
use Rattle.protocol.specs.Fixed.{Fixed, IsText, base}
use Rattle.protocol.specs.Parts.{Act, Batch, Machine}
use Rattle.protocol.specs.Events.{Event}
use Rattle.protocol.specs.Conditions.{IsAllowed}
use Rattle.protocol.specs.Effects.{after}
use Rattle.protocol.specs.Runs.{opening, new_cell, IsRun, reached}
use Rattle.protocol_laws.specs.Ranges.{IsWithin, SubInRange, CellInRange, BatchInRange, ActInRange, NumbersInRange}
use Rattle.protocol_laws.proofs.first.Along.{along}
use Rattle.protocol_laws.proofs.first.RangesNamed as named
use Rattle.protocol_laws.proofs.first.RangesNamed.{Named, cells_stay}
use Rattle.protocol_laws.proofs.first.RangesLying as lying
use Rattle.protocol_laws.proofs.first.RangesLying.{Lying}
use Rattle.protocol_laws.proofs.first.Times
use Rattle.protocol_laws.proofs.first.Lists.{all_unmapped, weaker}

record InRange {C : Type 0} (w : Fixed C) (s : Machine C) : Type 0 where
  actors : length s.cells ≡ length w.text.opening.states
  named : Named w s
  lying : Lying w s

kept : {C : Type 0} (w : Fixed C) (e : Event) (s : Machine C) → IsAllowed w e s → InRange w s → InRange w (after w e s)
kept w e s ok h = record {
  actors = cells_stay w e s ∙ h.actors;
  named = named.kept w e s ok h.actors h.named;
  lying = lying.kept w e s ok h.named h.lying;
}

all_batches : {C : Type 0} (w : Fixed C) (s : Machine C) (bs : List Batch) → AllByRecursion (IsWithin w.text.opening.next_bid s.ring.next_bid) (map (λ b. b.bid) bs)
    → AllByRecursion (AllByRecursion (IsWithin w.text.opening.next_tid s.ring.next_tid)) (map (λ b. map (λ p. p.tid) b.pacts) bs)
    → AllByRecursion (AllByRecursion (λ a. a < length w.text.opening.states)) (map (λ b. map (λ p. p.actor) b.places) bs) → AllByRecursion (BatchInRange w s) bs
all_batches w s [] f g h = tt
all_batches w s (b ∷ bs) f g h = (
  record {
    bid = f.0;
    actors = all_unmapped _ _ (λ p. p.actor) b.places (λ p l. l) h.0;
    tids = all_unmapped _ _ (λ p. p.tid) b.pacts (λ p l. l) g.0;
  },
  all_batches w s bs f.1 g.1 h.1,
)

all_acts : {C : Type 0} (w : Fixed C) (s : Machine C) (xs : List Act) → AllByRecursion (IsWithin w.text.opening.next_tid s.ring.next_tid) (map (λ x. x.tid) xs)
    → AllByRecursion (AllByRecursion (λ a. a < length w.text.opening.states)) (map (λ x. map (λ p. p.actor) x.places) xs) → AllByRecursion (ActInRange w s) xs
all_acts w s [] f h = tt
all_acts w s (x ∷ xs) f h = (record { tid = f.0; actors = all_unmapped _ _ (λ p. p.actor) x.places (λ p l. l) h.0 }, all_acts w s xs f.1 h.1)

pub numbers_in_range : {C : Type 0} (w : Fixed C) (es : List Event) → IsText w.text → IsRun w es → NumbersInRange w (reached w es)
numbers_in_range w es text run =
    let s = reached w es in
    let h : InRange w s = along w (InRange w) (kept w) es (opening w) run (record { actors = Times.length_map (new_cell (base w.text)) w.text.opening.states; named = named.opened w; lying = lying.opened w }) in
    let n = named.named_is w s h.named in
    let l = lying.lying_is w s h.lying in
    record {
      actors = h.actors;
      replied = n.replied_are;
      subs = weaker _ (SubInRange w s) s.post.subs (λ m g. record { bid = g.bid_in; actor = g.actor_in }) l.subs_lie;
      controls = l.controls_lie;
      cells = weaker _ (CellInRange w s) s.cells (λ c g. record { inbox = g.inbox; outbox = g.outbox; batches = g.batches }) l.cells_lie;
      batches = all_batches w s s.desk.batches n.batches_in n.pacts_in n.places_in;
      acts = all_acts w s s.book.acts n.acts_in n.joined_in;
    }
