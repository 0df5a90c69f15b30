use Rattle.std.proofs.Common.{◌≡◌, sym, ap, ◌∙◌, subst, rules, arith, List, set}
use Rattle.std.proofs.lemmas.List.{length-set}
use Rattle.snap_base.specs.declared.transactions.State.{State}
use Rattle.aml_check.specs.Checked.{methods_of}
use Rattle.snap_base.specs.Outcomes.{Alone}
use Rattle.snap_base.specs.declared.next.Next.TheVariants.{Go, Ended}
use Rattle.aml_slice.specs.Moments.{HandsOn}
use Rattle.aml_slice.specs.Finishing.{finished}
use Rattle.aml_serial.specs.Images.{put_back}
use Rattle.aml_serial.proofs.Slices.{found_at, handed_on, finishes}
use Rattle.aml_serial.proofs.runs.finish.Goals as goal

-- what the slice handed on
handed : (c : goal.In-Go) → HandsOn (methods_of c.args.program.now) c.args.actors c.loop-rest.rest c.in-Go.field-0 c.in-Go.next
handed c =
    handed_on (methods_of c.args.program.now) c.args.actors c.loop-rest.rest c.index_mut.result.now c.slice.new.state c.in-Go.field-0 c.in-Go.next
    (c.each_slice.ensures.handed_on c.args.actors c.loop-rest.rest c.index_mut.result.now c.loop-rest.invariant.rest) c.in-Go.ensures.exactly

pub loop-rest-smaller : goal.loop-rest-smaller
loop-rest-smaller c = omega (arith, (handed c).fewer)

pub loop-rest-preserved : goal.loop-rest-preserved
loop-rest-preserved c =
    let p = methods_of c.args.program.now in
    let w = c.loop-rest.world.items in
    let control = c.loop-rest.rest in
    let before = c.loop-rest.invariant in
    let here = found_at w c.at-actor.result.0 control.top.actor c.args.actors c.index_mut.result.now c.index_mut.ensures.value c.at-actor.ensures before.rest.top.known before.size in
    record {
      finishes =
          before.finishes
          ∙ finishes p c.args.actors control w c.index_mut.result.now c.slice.new.state (Go c.in-Go.field-0 c.in-Go.next) (c.slices_finish.ensures.keeps c.args.actors control w before.rest) here c.in-Go.ensures.exactly
          ∙ ap (λ i. finished p c.args.actors c.in-Go.next (set w i c.slice.new.state)) (sym c.at-actor.ensures);
      kept = (let P : List State → Type 0 = λ v. put_back c.keep.new.images.items (set v c.at-actor.result.0 c.slice.new.state) ≡ put_back c.loop-rest.images.items v in subst P c.as_slice.ensures.value (c.in_ok-keep.ensures.kept c.slice.new.state)) ∙ before.kept;
      rest = (handed c).rest;
      within = search rules;
      size = length-set w c.at-actor.result.0 c.slice.new.state ∙ before.size;
    }

pub returns-in-Ended-clause-finished : goal.returns-in-Ended-clause-finished
returns-in-Ended-clause-finished c =
    let p = methods_of c.args.program.now in
    let w = c.loop-rest.world.items in
    let control = c.loop-rest.rest in
    let before = c.loop-rest.invariant in
    let here = found_at w c.at-actor.result.0 control.top.actor c.args.actors c.index_mut.result.now c.index_mut.ensures.value c.at-actor.ensures before.rest.top.known before.size in
    before.finishes
    ∙ finishes p c.args.actors control w c.index_mut.result.now c.slice.new.state (Ended c.in-Ended.result) (c.slices_finish.ensures.keeps c.args.actors control w before.rest) here c.in-Ended.ensures.exactly
    ∙ ap (λ i. let a : Alone = record { result = c.in-Ended.result; world = set w i c.slice.new.state } in a) (sym c.at-actor.ensures)
