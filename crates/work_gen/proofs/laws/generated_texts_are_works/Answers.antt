use Rattle.work_gen.proofs.Works.{generated}
use Rattle.work_gen.proofs.laws.generated_texts_are_works.Goals as goal

pub returns : goal.returns
returns c n seed few = generated n seed few
