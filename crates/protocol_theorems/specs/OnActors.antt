-- What lies on an actor, and how much: what a rollback finds there, and the limits of what is live.
use Rattle.std.specs.Prelude.{◌≡◌, ℕ, ◌+◌, ◌<◌, ◌≤◌, nat_le, true, false, Some, is_some, List, [], ◌∷◌, length, slice_get, ⊤}
use Rattle.std.specs.List.{AllByRecursion}
use Rattle.protocol.specs.Cutting.{Ascends, HaveRunInOrder}
use Rattle.snap_base.specs.declared.transactions.State.{State}
use Rattle.protocol.specs.Fixed.{Fixed}
use Rattle.protocol.specs.Facts.{Alone}
use Rattle.protocol.specs.Parts.{Act, Cascade, Entry, BatchEntry, ActEntry, Cell, Machine}
use Rattle.protocol.specs.Words.{holds, count, act_of, is_aborted, is_doomed, is_live_act, is_live_batch, batches_on, acts_on, image_of, who_on}
use Rattle.protocol.specs.Events.{Run}
use Rattle.protocol.specs.Conditions.{IsAllowed, epoch}
use Rattle.protocol.specs.Effects.{cell_at}
use Rattle.protocol.specs.OnCell.{is_entry_among}
use Rattle.protocol.specs.History.{History}
use Rattle.protocol_laws.specs.Sees.{SeesAt}

-- behind an aborted batch all ACTs are doomed
abbrev pub AreTakenAlong : List Cascade → List Act → List Entry → Type 0
AreTakenAlong cascades acts [] = ⊤
AreTakenAlong cascades acts (BatchEntry b ∷ es) = (is_aborted b.bid cascades ≡ true → AllByRecursion (λ x. holds (λ y. is_doomed y.status) (act_of x.tid acts) ≡ true) (acts_on es)) × AreTakenAlong cascades acts es
AreTakenAlong cascades acts (ActEntry x ∷ es) = AreTakenAlong cascades acts es

-- What lies on one actor.
pub record LiesInOrder {C : Type 0} (s : Machine C) (c : Cell C) : Type 0 where
  pub ascends : Ascends (batches_on c.entries)
  -- an image is of an entry
  pub entered : AllByRecursion (λ i. is_entry_among i.who c.entries ≡ true) c.images
  pub in_order : HaveRunInOrder c.entries c.images
  -- Of the batches here those are aborted that are not below the first one of the cascade that the cell has not seen; where
  -- it has seen all, none is.
  pub behind : c.epoch ≤ epoch s.book
  pub cut : (x : Cascade) → slice_get s.book.cascades c.epoch ≡ Some x → AllByRecursion (λ k. is_aborted k s.book.cascades ≡ nat_le x.first k) (batches_on c.entries)
  pub present : c.epoch ≡ epoch s.book → AllByRecursion (λ k. is_aborted k s.book.cascades ≡ false) (batches_on c.entries)
  pub taken : AreTakenAlong s.book.cascades s.book.acts c.entries

abbrev pub AllLieInOrder : {C : Type 0} → Fixed C → (C → List State → Alone) → Machine C → History → Type 0
AllLieInOrder w finish s h = (a : ℕ) → LiesInOrder s (cell_at s a)

-- Where an ACT that only reads has run on an actor and still stands there, it found the state that the actor has, and left it
-- so; and none has run behind a batch that is not complete there, or behind an ACT that does not only read.
abbrev pub ReadersSee : {C : Type 0} → Fixed C → (C → List State → Alone) → Machine C → History → Type 0
ReadersSee w finish s h = (a : ℕ) → SeesAt (cell_at s a).state (h.reads a) (cell_at s a).entries

-- How much there is: of what is live, on each actor, and of images before a slice begins a new one.
pub record LimitsHold {C : Type 0} (w : Fixed C) (finish : C → List State → Alone) (s : Machine C) (h : History) : Type 0 where
  pub live_batches : count is_live_batch s.desk.batches ≤ w.text.batches
  pub live_acts : count is_live_act s.book.acts ≤ w.text.acts
  pub batches : (a : ℕ) → length (batches_on (cell_at s a).entries) ≤ w.text.batches
  pub acts : (a : ℕ) → length (acts_on (cell_at s a).entries) ≤ w.text.acts
  pub images : (a : ℕ) → length (cell_at s a).images ≤ w.text.batches + w.text.acts
  pub room : (t a : ℕ) → IsAllowed w (Run t a) s → is_some (image_of (who_on t (cell_at s a).entries) (cell_at s a).images) ≡ false → length (cell_at s a).images < w.text.batches + w.text.acts
