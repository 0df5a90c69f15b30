use Rattle.std.proofs.Common.{inl, inr, sym, subst}
use Rattle.snap_hand.specs.Hands.{Fits, IsHandOf}
use Rattle.snap_hand.specs.Tables.{fixed_of}
use Rattle.footprint_rows.proofs.steps.rule_of_step.Goals as goal

pub returns-in-Ok-clause-places : goal.returns-in-Ok-clause-places
returns-in-Ok-clause-places c = c.in-Ok.ensures.1

pub returns-in-Ok-clause-goes : goal.returns-in-Ok-clause-goes
returns-in-Ok-clause-goes c s run fits = inr (c.in-Ok.ensures.0 s run fits)

pub returns-in-Err-NotNow-clause-places : goal.returns-in-Err-NotNow-clause-places
returns-in-Err-NotNow-clause-places c = subst (IsHandOf (fixed_of c.args.tables.now)) (sym c.in-Err-NotNow.ensures.1) c.requires.asked.places

pub returns-in-Err-NotNow-clause-goes : goal.returns-in-Err-NotNow-clause-goes
returns-in-Err-NotNow-clause-goes c s run fits = inl (subst (λ g. Fits g s) (sym c.in-Err-NotNow.ensures.1) fits)

pub returns-in-Err-Memory-clause-places : goal.returns-in-Err-Memory-clause-places
returns-in-Err-Memory-clause-places c = subst (IsHandOf (fixed_of c.args.tables.now)) (sym c.in-Err-Memory.ensures.1) c.requires.asked.places

pub returns-in-Err-Memory-clause-goes : goal.returns-in-Err-Memory-clause-goes
returns-in-Err-Memory-clause-goes c s run fits = inl (subst (λ g. Fits g s) (sym c.in-Err-Memory.ensures.1) fits)
