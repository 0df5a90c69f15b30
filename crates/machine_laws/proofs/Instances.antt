-- The facts of a program's code over a text's own transactions.
use Rattle.std.proofs.Common.{ℕ, List, length, subst}
use Rattle.snap_base.specs.declared.transactions.Tx.{Tx}
use Rattle.snap_base.proofs.Lists.{each_at}
use Rattle.aml_tree.specs.Tree.{CheckedMethod}
use Rattle.aml_check.specs.Transactions.{IsTransaction}
use Rattle.protocol.specs.Fixed.{Text, no_tx}
use Rattle.protocol.specs.Facts.{Facts}
use Rattle.protocol.specs.Rests.{HasFacts, IsTxIn, facts_of_rests}
use Rattle.machine_laws.specs.MethodCode.{method_code, finish, IsRestOf}
use Rattle.machine_laws.specs.Programs.{IsTextOf, with_code, finish_of}

-- code with the facts
abbrev pub HaveFacts : List CheckedMethod → Type 0
HaveFacts p = (count : ℕ) → Facts count (method_code p count) (IsTransaction p count) (IsRestOf p count) (finish p count)

-- each transaction of the text may be asked of the program
pub may_be_asked : (p : List CheckedMethod) (w : Text) → IsTextOf p w → (tx : Tx) → IsTxIn w tx → IsTransaction p (length w.opening.states) tx
may_be_asked p w is tx there = subst (IsTransaction p (length w.opening.states)) there.is_it (each_at (IsTransaction p (length w.opening.states)) w.txs there.number no_tx there.there is.asks)

pub facts_of_text : (p : List CheckedMethod) (w : Text) → HaveFacts p → IsTextOf p w → HasFacts (with_code p w) (finish_of p w)
facts_of_text p w facts is = let count = length w.opening.states in facts_of_rests count (method_code p count) (IsTransaction p count) (IsTxIn w) (IsRestOf p count) (finish p count) (may_be_asked p w is) (facts count)
