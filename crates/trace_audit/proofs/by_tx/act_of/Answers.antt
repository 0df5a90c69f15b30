use Rattle.std.proofs.Common.{◌<◌, length, rules, sym}
use Rattle.trace_audit.specs.ByTransaction.{is_act_for}
use Rattle.trace_audit.proofs.Finding.{found_there, pointed}
use Rattle.trace_audit.proofs.by_tx.act_of.Goals as goal

pub offset_bounds-acts-at : goal.offset_bounds-acts-at
offset_bounds-acts-at c =
    let within : c.in-Some.at < length c.args.acts.now = (pointed is_act_for c.args.acts.now c.args.places.now c.args.n.0 _ _ c.requires.index c.requires.kept c.in-Some.is).0 in
    search rules

pub bounds-acts-at : goal.bounds-acts-at
bounds-acts-at c = (pointed is_act_for c.args.acts.now c.args.places.now c.args.n.0 _ _ c.requires.index c.requires.kept c.in-Some.is).0

pub returns-in-Some : goal.returns-in-Some
returns-in-Some c = found_there (is_act_for c.args.n.0) c.args.acts.now c.in-Some.at _ (pointed is_act_for c.args.acts.now c.args.places.now c.args.n.0 _ _ c.requires.index c.requires.kept c.in-Some.is)

pub returns-in-None : goal.returns-in-None
returns-in-None c = sym (pointed is_act_for c.args.acts.now c.args.places.now c.args.n.0 _ _ c.requires.index c.requires.kept c.in-None.is)
