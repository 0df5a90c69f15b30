use Rattle.std.proofs.Common.{◌≡◌, ◌<◌, ◌++◌, length, map, take, sym, ap, ◌∙◌, subst, append_assoc, arith}
use Rattle.std.specs.Prelude.{string_bytes}
use Rattle.std.proofs.Math.Seq.{take-length}
use Rattle.aml_slice.specs.Controls.{Rest}
use Rattle.protocol.specs.Parts.{Cell}
use Rattle.snap_core.specs.Cores.{state_at}
use Rattle.snap_core.specs.snap_hand.Tables.{AreTables, fixed_of}
use Rattle.snap_report.specs.Lines.{actor_text, actors_text}
use Rattle.run_printing.proofs.ActorLines.{actors_more}
use Rattle.run_printing.proofs.endings.push_actors.Goals as goal

pub loop-number-preserved : goal.loop-number-preserved
loop-number-preserved c = λ es at.
    let s = state_at c.args.core.now es in
    let n = c.loop-number.number in
    let sizes = c.sizes_hold.ensures (fixed_of c.args.core.now.tables) es (subst (λ t. AreTables t) c.tables.ensures.same c.tables.ensures.accepted).accepted at.run in
    let states : length c.tables.result.now.opening.states ≡ length c.args.core.now.tables.opening.states = ap (λ t. length t.opening.states) c.tables.ensures.same in
    let within : n < length s.cells = omega (arith, c.loop-number-test.true, c.len-count.ensures, states, sizes.cells) in
    c.in_ok-push_actor.ensures
    ∙ ap (λ l. l ++ actor_text n c.state-state.result) (c.loop-number.invariant es at)
    ∙ append_assoc (string_bytes c.args.text.now) (actors_text 0 (map (λ (x : Cell Rest). x.state) (take n s.cells))) (actor_text n c.state-state.result)
    ∙ ap (λ l. string_bytes c.args.text.now ++ l)
    (ap (λ x. actors_text 0 (map (λ (y : Cell Rest). y.state) (take n s.cells)) ++ actor_text n x) (c.state-state.ensures es at) ∙ sym (actors_more s n within))

pub returns : goal.returns
returns c = λ es at.
    let s = state_at c.args.core.now es in
    let sizes = c.sizes_hold.ensures (fixed_of c.args.core.now.tables) es (subst (λ t. AreTables t) c.tables.ensures.same c.tables.ensures.accepted).accepted at.run in
    let states : length c.tables.result.now.opening.states ≡ length c.args.core.now.tables.opening.states = ap (λ t. length t.opening.states) c.tables.ensures.same in
    let end : c.loop-number.number ≡ length s.cells = omega (arith, c.loop-number-test.false, c.loop-number.auto.number-end, c.len-count.ensures, states, sizes.cells) in
    c.loop-number.invariant es at
    ∙ ap (λ xs. string_bytes c.args.text.now ++ actors_text 0 (map (λ (x : Cell Rest). x.state) xs)) (ap (λ m. take m s.cells) end ∙ take-length s.cells)
