use Rattle.std.proofs.Common.{◌≡◌, None, ◌∷◌, [], ◌++◌, sym, ap, subst, ◌∙◌, arith, nat_eq}
use Rattle.std.specs.Prelude.{IsOk}
use Rattle.std.specs.HashMap.{get}
use Rattle.protocol.specs.Words.{act_of}
use Rattle.act_commit.proofs.Indexing.{index_more}
use Rattle.act_commit.proofs.votes.Votes.add.Goals as goal

pub invariant_of-self-2 : goal.invariant_of-self-2
invariant_of-self-2 c =
    let s = c.self.inside in
    let ok : IsOk c.push-pushed.result = c.push-pushed.ensures.succeeds (omega (arith, c.in_ok-reserve.ensures.ok)) in
    let items = rw ok at c.push-pushed.ensures.items in
    let all : c.push-pushed.new.self.items ≡ s.list.items ++ c.args.vote ∷ [] = items ∙ ap (λ xs. xs ++ c.args.vote ∷ []) c.reserve.ensures.items in
    rw all
    (index_more (get nat_eq s.places) (get nat_eq c.insert.new.self) s.list.items c.args.vote c.tid.result c.len-place.result c.self.invariant (subst (λ xs. act_of c.args.vote.tid xs ≡ None) (sym c.self.view_is) c.requires) c.tid.ensures (omega (arith, c.len-place.ensures, s.list.ok.0)) c.in_ok-insert.ensures.updates.0)
