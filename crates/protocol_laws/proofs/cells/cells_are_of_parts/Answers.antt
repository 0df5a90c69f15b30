use Rattle.std.specs.Prelude.{refl}
use Rattle.protocol_laws.proofs.cells.cells_are_of_parts.Goals as goal

pub returns-clause-each : goal.returns-clause-each
returns-clause-each g f = λ c. refl

pub returns-clause-batch : goal.returns-clause-batch
returns-clause-batch g f = λ s h b k m. refl

pub returns-clause-act : goal.returns-clause-act
returns-clause-act g f = λ s h b t older m. refl

pub returns-clause-control : goal.returns-clause-control
returns-clause-control g f = λ s h b m. refl

pub returns-clause-closes : goal.returns-clause-closes
returns-clause-closes g f = λ s h b t. refl

pub returns-clause-completes : goal.returns-clause-completes
returns-clause-completes g f = λ s h b k. refl

pub returns-clause-runs : goal.returns-clause-runs
returns-clause-runs g f = λ s h b code t a. refl

pub returns-clause-takes : goal.returns-clause-takes
returns-clause-takes g f = λ s h b t. refl

pub returns-clause-rolls_back : goal.returns-clause-rolls_back
returns-clause-rolls_back g f = λ s h b cascades. refl

pub returns-clause-leaves : goal.returns-clause-leaves
returns-clause-leaves g f = λ s h b t x. refl

pub returns-clause-trims : goal.returns-clause-trims
returns-clause-trims g f = λ s h b k. refl
