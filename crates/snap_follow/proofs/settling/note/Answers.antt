use Rattle.snap_follow.proofs.Held.{states_quiet, states_told}
use Rattle.snap_follow.proofs.Leaving.{quiet_leaving, quiet_blocked, told_leaving, told_blocked}
use Rattle.snap_follow.proofs.settling.note.Goals as goal

pub returns-in_default : goal.returns-in_default
returns-in_default c = record {
  leaving = quiet_leaving c.args.taken.now c.args.set.now c.args.log c.args.logs c.args.r.now c.args.blocked.now c.args.leaving.now c.in_default.ensures;
  blocked = quiet_blocked c.args.first.now c.args.there.now c.args.set.now c.args.log c.args.logs c.args.r.now c.args.states.now c.args.blocked.now c.in_default.ensures;
  states = states_quiet c.args.first.now c.args.there.now c.args.log c.args.logs c.args.r.now c.args.states.now c.in_default.ensures;
}

pub returns : goal.returns
returns c = record {
  leaving = told_leaving c.args.taken.now c.args.set.now c.args.log c.args.logs c.args.r.now c.in-Some.key c.in-Some.actor c.args.blocked.now c.args.leaving.now c.add_blocked.new.leaving c.in-Some.ensures.0 c.in-Some.ensures.1 c.in_ok-add_blocked.ensures;
  blocked = told_blocked c.args.first.now c.args.there.now c.args.set.now c.args.log c.args.logs c.args.r.now c.in-Some.key c.in-Some.actor c.in-Some.state.now c.args.states.now c.args.blocked.now c.note_blocked.new.blocked
      c.in-Some.ensures.0 c.in-Some.ensures.1 c.in-Some.ensures.2 c.in_ok-note_blocked.ensures.blocked;
  states = states_told c.args.first.now c.args.there.now c.args.log c.args.logs c.args.r.now c.in-Some.key c.in-Some.actor c.in-Some.state.now c.args.states.now c.note_blocked.new.states
      c.in-Some.ensures.1 c.in-Some.ensures.2 c.in_ok-note_blocked.ensures.states;
}
