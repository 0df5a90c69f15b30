use Rattle.std.proofs.Common.{◌≡◌, ◌≢◌, ℕ, sym, ap, ◌∙◌, subst, arith}
use Rattle.aml_check.specs.Checked.{methods_of}
use Rattle.snap_base.specs.declared.next.Next.TheVariants.{Go}
use Rattle.aml_slice.specs.Controls.{Rest, IsRest}
use Rattle.aml_slice.specs.Slicing.{SliceEnd, actor_id, move, slice_end}
use Rattle.aml_slice.specs.declared.running.Running.{Running}
use Rattle.aml_slice.specs.Views.{rest_of}
use Rattle.aml_slice.proofs.ExactMoves.{SlicesFrom, moves_on, slice_begins, slice_stays, slice_goes, slice_ends}
use Rattle.aml_slice.proofs.slices.slice.Goals as goal

pub loop-result-init : goal.loop-result-init
loop-result-init c =
    let P : Rest → Type 0 = IsRest (methods_of c.args.program.now) c.args.actors in
    let E : Rest → Type 0 = λ z. SlicesFrom (methods_of c.args.program.now) c.args.actors c.args.control c.args.state.now z c.args.state.now in
    record {
      rest = subst P (sym c.into_running-running.ensures.rest) c.requires;
      rooms = c.into_running-running.ensures.rooms;
      exact = subst E (sym c.into_running-running.ensures.rest) (slice_begins (methods_of c.args.program.now) c.args.actors c.args.control c.args.state.now);
      own = ap (λ (r : Running). r.top.actor) c.deref.ensures ∙ ap (λ (z : Rest). z.top.actor) c.into_running-running.ensures.rest;
    }

pub loop-result-preserved : goal.loop-result-preserved
loop-result-preserved c =
    let p = methods_of c.args.program.now in
    let follows = moves_on (record { meant = c.known.ensures.meant; allowed = c.known.ensures.allowed; counts = c.known.ensures.counts; blocks = c.known.ensures.blocks; calls = c.known.ensures.calls }) (methods_of c.args.program.now) c.args.actors (rest_of c.loop-result.running.value) (rest_of c.advance.new.running) c.loop-result.state c.advance.new.state c.known.ensures.closed c.loop-result.invariant.rest (ap (λ (r : Running). move (methods_of c.args.program.now) c.args.actors (rest_of r) c.loop-result.state) (sym c.deref_mut.ensures.value) ∙ sym c.in-Ok.ensures.exactly) in
    record {
      rest = follows.rest;
      rooms = c.in-Ok.ensures.rooms;
      exact = slice_stays (methods_of c.args.program.now) c.args.actors c.args.control c.args.state.now (rest_of c.loop-result.running.value) (rest_of c.advance.new.running) c.loop-result.state c.advance.new.state c.loop-result.invariant.exact (ap (λ (r : Running). move (methods_of c.args.program.now) c.args.actors (rest_of r) c.loop-result.state) (sym c.deref_mut.ensures.value) ∙ sym c.in-Ok.ensures.exactly) (c.in-Ok.ensures.stands ∙ c.if-actor-own.false ∙ c.loop-result.invariant.own) follows.fewer;
      own = c.loop-result.invariant.own;
    }

pub loop-result-smaller : goal.loop-result-smaller
loop-result-smaller c =
    let follows = moves_on (record { meant = c.known.ensures.meant; allowed = c.known.ensures.allowed; counts = c.known.ensures.counts; blocks = c.known.ensures.blocks; calls = c.known.ensures.calls }) (methods_of c.args.program.now) c.args.actors (rest_of c.loop-result.running.value) (rest_of c.advance.new.running) c.loop-result.state c.advance.new.state c.known.ensures.closed c.loop-result.invariant.rest (ap (λ (r : Running). move (methods_of c.args.program.now) c.args.actors (rest_of r) c.loop-result.state) (sym c.deref_mut.ensures.value) ∙ sym c.in-Ok.ensures.exactly) in
    omega (arith, follows.fewer)

pub returns-in-Err : goal.returns-in-Err
returns-in-Err c =
    record { exactly = sym (slice_ends (methods_of c.args.program.now) c.args.actors c.args.control c.args.state.now (rest_of c.loop-result.running.value) c.loop-result.state c.advance.new.state c.in-Err.result c.loop-result.invariant.exact (ap (λ (r : Running). move (methods_of c.args.program.now) c.args.actors (rest_of r) c.loop-result.state) (sym c.deref_mut.ensures.value) ∙ sym c.in-Err.ensures.exactly)) }

pub returns-then-actor-own : goal.returns-then-actor-own
returns-then-actor-own c =
    let d = rest_of c.advance.new.running in
    let other : (rest_of c.advance.new.running).top.actor ≢ c.args.control.top.actor = λ same. c.if-actor-own.true (sym c.in-Ok.ensures.stands ∙ same ∙ sym c.loop-result.invariant.own) in
    let P : Rest → Type 0 = λ z. (let x : SliceEnd = record { state = c.advance.new.state; next = Go (actor_id c.in-Ok.actor) z } in x) ≡ slice_end (methods_of c.args.program.now) c.args.actors c.args.control c.args.state.now in
    record {
      exactly = subst P (sym c.of.ensures)
          (ap (λ (a : ℕ). let x : SliceEnd = record { state = c.advance.new.state; next = Go (actor_id a) (rest_of c.advance.new.running) } in x) (sym c.in-Ok.ensures.stands)
          ∙ sym (slice_goes (methods_of c.args.program.now) c.args.actors c.args.control c.args.state.now (rest_of c.loop-result.running.value) (rest_of c.advance.new.running) c.loop-result.state c.advance.new.state c.loop-result.invariant.exact (ap (λ (r : Running). move (methods_of c.args.program.now) c.args.actors (rest_of r) c.loop-result.state) (sym c.deref_mut.ensures.value) ∙ sym c.in-Ok.ensures.exactly) other));
    }
