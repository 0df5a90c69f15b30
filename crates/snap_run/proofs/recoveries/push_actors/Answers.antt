use Rattle.std.proofs.Common.{◌++◌, take, get_or, [], arith, ap, sym, ◌∙◌, append_assoc}
use Rattle.std.specs.Prelude.{string_bytes}
use Rattle.std.proofs.lemmas.List.{take_more, length-take}
use Rattle.snap_report.specs.Lines.{actor_text, actors_text}
use Rattle.run_work.proofs.run_printing.ActorLines.{actors_text-push}
use Rattle.snap_run.proofs.recoveries.push_actors.Goals as goal

pub loop-number-preserved : goal.loop-number-preserved
loop-number-preserved c =
    let n = c.loop-number.number in
    let states = c.args.states.now in
    c.in_ok-push_actor.ensures
    ∙ ap (λ l. l ++ actor_text n (get_or states n (record { 0 = [] }))) c.loop-number.invariant
    ∙ append_assoc (string_bytes c.args.text.now) (actors_text 0 (take n states)) _
    ∙ ap (λ l. string_bytes c.args.text.now ++ l)
    (sym (actors_text-push 0 n (take n states) (get_or states n (record { 0 = [] })) (omega (arith, length-take n states)))
    ∙ ap (actors_text 0) (sym (take_more states n (record { 0 = [] }) (omega arith))))
