use Rattle.std.proofs.Common.{Some, sym, ap, ◌∙◌, nat_eq}
use Rattle.std.specs.HashMap.{get}
use Rattle.protocol.specs.Words.{act_of}
use Rattle.act_commit.proofs.Indexing.{act_of-no_place, act_of-place}
use Rattle.act_commit.proofs.votes.Votes.get.Goals as goal

pub returns-in-Some : goal.returns-in-Some
returns-in-Some c =
    let s = c.self.inside in
    ap Some c.index.ensures ∙ (sym (act_of-place (get nat_eq s.places) c.args.t.0 c.in-Some.place c.index.result.now s.list.items c.self.invariant (sym c.in-Some.ensures)) ∙ ap (act_of c.args.t.0) c.self.view_is)

pub returns-in-None : goal.returns-in-None
returns-in-None c =
    let s = c.self.inside in
    sym (act_of-no_place (get nat_eq s.places) c.args.t.0 s.list.items c.self.invariant (sym c.in-None.ensures)) ∙ ap (act_of c.args.t.0) c.self.view_is
