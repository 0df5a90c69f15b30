-- What papers in order say of a run: the printed replies and states are those of its transactions, one by one in the order of
-- their printed places, as the language means each.
use Rattle.std.specs.Prelude.{◌≡◌, Some, List, map, filter}
use Rattle.std.specs.List.{AllByRecursion}
use Rattle.snap_base.specs.declared.transactions.State.{State}
use Rattle.snap_base.specs.declared.transactions.Tx.{Tx}
use Rattle.protocol.specs.Fixed.{Text, tx_at}
use Rattle.protocol.specs.Facts.{state_in}
use Rattle.protocol.specs.Words.{is_value}
use Rattle.protocol.specs.History.{Done}
use Rattle.protocol.specs.Chains.{by_place}
use Rattle.snap_report.specs.Lines.{shown_fields}
use Rattle.audit_words.specs.Papers.{Line, Actor}
use Rattle.audit_words.specs.Clauses.{Meaning, serial, located}

-- the transactions themselves
abbrev pub txs : Text → List Done → List Tx
txs w ds = map (λ d. tx_at w d.tx) ds

-- who is told a place, in the order of places
abbrev pub told : List Line → List Done
told ls = by_place (located ls)

-- those of them that committed
abbrev pub committed : List Line → List Done
committed ls = filter (λ d. is_value d.result) (told ls)

-- the line of an actor tells its state in this world
abbrev pub LineTellsState : List State → Line → Type 0
LineTellsState world (Actor a fields) = fields ≡ shown_fields (state_in world a).0
LineTellsState world _ = Unit {0}

-- What is printed is a serial run.
pub record PrintedIsSerial (m : Meaning) (w : Text) (ls : List Line) : Type 0 where
  -- the committed, one by one, give just the values that are printed
  pub results : map Some (serial m w.opening.states (txs w (committed ls))).results ≡ map (λ d. d.result) (committed ls)
  -- and leave just the states that are printed
  pub states : AllByRecursion (LineTellsState (serial m w.opening.states (txs w (committed ls))).world) ls
  -- with those among them that failed by their own code, which leave nothing, each gives just what is printed
  pub with_failures : map Some (serial m w.opening.states (txs w (told ls))).results ≡ map (λ d. d.result) (told ls)
  pub same_world : (serial m w.opening.states (txs w (told ls))).world ≡ (serial m w.opening.states (txs w (committed ls))).world
