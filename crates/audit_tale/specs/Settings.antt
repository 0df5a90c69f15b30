-- What the first clause asks of a text, and the events of a trace in the words of the machine.
use Rattle.std.specs.Prelude.{◌≡◌, ℕ, ◌<◌, Bool, true, false, List, length, map}
use Rattle.std.specs.List.{AllByRecursion}
use Rattle.snap_base.specs.declared.transactions.Tx.{Tx}
use Rattle.core_events.specs.declared.events.Event as code
use Rattle.core_events.specs.declared.events.Event.TheVariants as events
use Rattle.core_events.specs.Meant.{event_meant}
use Rattle.protocol.specs.Fixed.{Text}
use Rattle.protocol.specs.Events.{Event}
use Rattle.protocol.specs.Parts.{Ring}

-- a text of so many coordinators and actors, on empty logs
pub record IsOpening (coordinators actors : ℕ) (w : Text) : Type 0 where
  pub coordinators_are : w.coordinators ≡ coordinators
  pub actors_are : length w.opening.states ≡ actors
  pub tid : w.opening.next_tid ≡ 1
  pub bid : w.opening.next_bid ≡ 1
  pub number : w.opening.next_c ≡ 1

-- such a text with batches of so many PACTs and with these transactions
pub record IsSetting (coordinators batch actors : ℕ) (txs : List Tx) (w : Text) : Type 0 where
  pub opening : IsOpening coordinators actors w
  pub batch_is : w.batch ≡ batch
  pub txs_are : w.txs ≡ txs

-- these are the marks of some such test: of each transaction, whether its method only reads
abbrev pub AreMarks : List Bool → List Tx → Type 0
AreMarks marks txs = (only_reads : Tx → Bool) × (marks ≡ map only_reads txs)

-- the ACTs that wait at the coordinators are transactions of the text
abbrev pub AreOfText : Text → Ring → Type 0
AreOfText w r = AllByRecursion (AllByRecursion (λ n. n < length w.txs)) r.acts

abbrev pub meant : List code.Event → List Event
meant es = map event_meant es

-- the event is of the coordinators: what the first clause asks about
abbrev pub is_coordinators : code.Event → Bool
is_coordinators (events.Submit n) = true
is_coordinators (events.Pass c) = true
is_coordinators (events.Form k) = true
is_coordinators (events.Admit t) = true
is_coordinators _ = false
