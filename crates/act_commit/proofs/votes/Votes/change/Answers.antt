use Rattle.std.proofs.Common.{◌≡◌, Some, None, set, sym, ap, subst, ◌∙◌, nat_eq}
use Rattle.std.specs.HashMap.{get}
use Rattle.protocol.specs.OnBook.{changed_act}
use Rattle.protocol.specs.Words.{act_of}
use Rattle.act_commit.specs.Changes.{change_of, MayChange}
use Rattle.act_commit.proofs.Indexing.{act_of-place, changed-no_place, changed-place}
use Rattle.act_commit.proofs.votes.Votes.change.Goals as goal

pub change-requires : goal.change-requires
change-requires c =
    let s = c.self.inside in
    let t = c.args.t.0 in
    let place : get nat_eq s.places t ≡ Some c.in-Some.place = sym c.in-Some.ensures in
    let found : act_of t c.args.self.now ≡ Some c.index_mut.result.now =
    sym (ap (act_of t) c.self.view_is) ∙ (act_of-place (get nat_eq s.places) t c.in-Some.place c.index_mut.result.now s.list.items c.self.invariant place ∙ ap Some (sym c.index_mut.ensures.value)) in
    subst (MayChange c.args.change) found c.requires

pub returns-in-Some : goal.returns-in-Some
returns-in-Some c =
    let s = c.self.inside in
    let t = c.args.t.0 in
    let f = change_of c.args.change in
    let place : get nat_eq s.places t ≡ Some c.in-Some.place = sym c.in-Some.ensures in
    ap (λ x. set s.list.items c.in-Some.place x) (c.change.ensures ∙ ap f c.index_mut.ensures.value)
    ∙ (sym (changed-place (get nat_eq s.places) t c.in-Some.place c.index_mut.result.now f s.list.items c.self.invariant place) ∙ ap (changed_act t f) c.self.view_is)

pub returns-in-None : goal.returns-in-None
returns-in-None c =
    let s = c.self.inside in
    let t = c.args.t.0 in
    let f = change_of c.args.change in
    let place : get nat_eq s.places t ≡ None = sym c.in-None.ensures in
    sym c.self.view_is ∙ (sym (changed-no_place (get nat_eq s.places) t f s.list.items c.self.invariant place) ∙ ap (changed_act t f) c.self.view_is)
