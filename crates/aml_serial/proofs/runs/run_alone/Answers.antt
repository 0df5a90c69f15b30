use Rattle.std.proofs.Common.{◌≡◌, ℕ, ◌<◌, length, refl, sym, ap, ◌∙◌, subst, List, arith, rules}
use Rattle.aml_check.specs.Checked.{methods_of}
use Rattle.aml_check.specs.Transactions.{IsTransaction}
use Rattle.aml_slice.specs.Controls.{Rest, IsRest}
use Rattle.aml_serial.specs.declared.images.BeforeImage.{BeforeImage}
use Rattle.aml_serial.specs.Images.{put_back}
use Rattle.aml_serial.proofs.Slices.{returned}
use Rattle.aml_serial.proofs.runs.run_alone.Goals as goal

size_known : (c : goal.After-images-1) → length c.args.world.now.items ≡ c.in_ok-actors.actors
size_known c = search rules

pub finish-outcome-requires-clause-rest : goal.finish-outcome-requires-clause-rest
finish-outcome-requires-clause-rest c =
    let size = size_known c in
    let known : c.args.tx.now.actor.0 < c.in_ok-actors.actors = omega (arith, size, c.requires.actor) in
    let begins = c.transactions_begin.ensures (length c.args.world.now.items) _ c.args.tx.now c.requires in
    let P : Rest → Type 0 = λ d. IsRest (methods_of c.args.program.now) c.in_ok-actors.actors d in
    subst P (sym c.in_ok-control.ensures.exactly) (begins.rest c.in_ok-actors.actors known)

pub returns-then-has_value-clause-alone : goal.returns-then-has_value-clause-alone
returns-then-has_value-clause-alone c =
    let w = c.args.world.now.items in
    let count = c.in_ok-actors.actors in
    let size : length c.args.world.now.items ≡ c.in_ok-actors.actors = size_known c.before.before.before.before.before in
    let P : ℕ → Type 0 = λ n. IsTransaction (methods_of c.args.program.now) n c.args.tx.now in
    returned (methods_of c.args.program.now) count w c.finish-outcome.new.world.items _ c.in_ok-control.control _ _ c.finish-outcome.result c.has_value.result
    (c.slices_finish.ensures.alone count _ c.args.tx.now w (subst P size c.requires) size) c.in_ok-control.ensures.exactly c.has_value.ensures
    (λ yes. refl) (λ no. absurd cc) c.finish-outcome.ensures.finished

pub returns-clause-alone : goal.returns-clause-alone
returns-clause-alone c =
    let w = c.args.world.now.items in
    let count = c.in_ok-actors.actors in
    let size : length c.args.world.now.items ≡ c.in_ok-actors.actors = search rules in
    let P : ℕ → Type 0 = λ n. IsTransaction (methods_of c.args.program.now) n c.args.tx.now in
    returned (methods_of c.args.program.now) count w c.finish-outcome.new.world.items c.put_back.new.world.items c.in_ok-control.control _ _ c.finish-outcome.result c.has_value.result
    (c.slices_finish.ensures.alone count _ c.args.tx.now w (subst P size c.requires) size) c.in_ok-control.ensures.exactly c.has_value.ensures
    (λ yes. absurd cc)
    (λ no.
    c.put_back.ensures
    ∙ ap (λ (images : List BeforeImage). put_back images c.finish-outcome.new.world.items) c.deref.ensures.value
    ∙ c.finish-outcome.ensures.kept
    ∙ ap (λ (images : List BeforeImage). put_back images c.args.world.now.items) c.new-images.ensures.items)
    c.finish-outcome.ensures.finished
