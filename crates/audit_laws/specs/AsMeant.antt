-- What papers in order say of a work's report, in the language's own words.
use Rattle.std.specs.Prelude.{◌≡◌, ℕ, Some, List, length, map}
use Rattle.std.specs.List.{AllByRecursion}
use Rattle.aml_slice.specs.aml_check.Meaning as meaning
use Rattle.protocol.specs.Chains.{PlacesRise}
use Rattle.snap_hand.specs.snap_work.Works.{Work}
use Rattle.audit_words.specs.Audited.{HasShape}
use Rattle.audit_words.specs.Inputs.{first_text}
use Rattle.audit_words.specs.Papers.{Line}
use Rattle.audit_words.specs.Serial.{LineTellsState, committed, told, txs}

-- The report has a reply to each transaction of the work, a line for each actor, and its end. The printed replies and states are those
-- of the committed transactions, one by one in the order of their printed places as the language means each; with those that failed
-- by their own code, which leave nothing, each gives just what is printed.
pub record PrintedAsMeant (w : Work) (ls : List Line) : Type 0 where
  -- one reply to each transaction, then the actors by number, then the end, with what the replies count and some batches
  pub shape : (batches : ℕ) × HasShape (length w.txs) (length w.states) batches ls
  -- of those that are told a place each has it below all that follow it, so no two are told the same
  pub rise : PlacesRise (told ls)
  -- the committed, one by one, give just the values that are printed
  pub results : map Some (meaning.serial w.program w.states (txs (first_text w) (committed ls))).results ≡ map (λ d. d.result) (committed ls)
  -- and leave just the states that are printed
  pub states : AllByRecursion (LineTellsState (meaning.serial w.program w.states (txs (first_text w) (committed ls))).world) ls
  -- with those among them that failed by their own code, each gives just what is printed, and the states are the same
  pub with_failures : map Some (meaning.serial w.program w.states (txs (first_text w) (told ls))).results ≡ map (λ d. d.result) (told ls)
  pub same_world : (meaning.serial w.program w.states (txs (first_text w) (told ls))).world ≡ (meaning.serial w.program w.states (txs (first_text w) (committed ls))).world
