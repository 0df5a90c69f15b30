use Rattle.std.proofs.Common.{OnErr, ◌∙◌, subst}
use Rattle.run_printing.specs.Printed.{AppendsFront}
use Rattle.run_printing.proofs.Fronts.{not_memory}
use Rattle.run_printing.proofs.endings.write_ending.Goals as goal

pub returns-clause-front : goal.returns-clause-front
returns-clause-front g c =
    subst (λ bytes. OnErr c.write_text.result (AppendsFront (g.O.Sink.taken c.args.out.now) (g.O.Sink.taken c.write_text.new.out) bytes))
    (c.as_str.ensures.value ∙ c.in_ok-text.ensures) c.write_text.ensures.front

pub returns-clause-memory : goal.returns-clause-memory
returns-clause-memory g c = λ is. absurd (not_memory c.write_text.result c.write_text.ensures.only is)
