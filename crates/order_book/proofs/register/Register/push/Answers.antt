use Rattle.std.proofs.Common.{◌≡◌, ◌<◌, ◌+◌, ◌^◌, ◌++◌, ◌∷◌, [], ℕ, List, ap, sym, ◌∙◌, subst, arith}
use Rattle.std.specs.Prelude.{◌==◌, true, is_ok, Option}
use Rattle.std.specs.List.{All}
use Rattle.std.proofs.lemmas.Bool.{cond-true}
use Rattle.order_book.specs.Registered.{first_kept}
use Rattle.order_book.proofs.Registering.{registered_pushed, count_fits}
use Rattle.order_book.proofs.register.Register.push.Goals as goal

pub overflow_add-self : goal.overflow_add-self
overflow_add-self c =
    let fits : c.self.inside.live + 1 < 2 ^ 64 = count_fits c.self.inside.acts c.self.inside.tids.items c.self.inside.by_tx.items c.self.inside.live c.self.invariant
    (omega (arith, c.self.inside.tids.ok.0, c.self.inside.tids.small)) true in omega (arith, fits)

pub invariant_of-self-2 : goal.invariant_of-self-2
invariant_of-self-2 c =
    let pushed : is_ok c.push-listed.result ≡ true = c.push-listed.ensures.succeeds c.in_ok-make_room.ensures.room in
    let listed : c.push-listed.new.self.items ≡ c.self.inside.tids.items ++ c.args.t.0 ∷ [] =
    c.push-listed.ensures.items ∙ (cond-true (is_ok c.push-listed.result) (c.make_room.new.tids.items ++ c.args.t.0 ∷ []) c.make_room.new.tids.items pushed
    ∙ ap (λ (ns : List ℕ). ns ++ c.args.t.0 ∷ []) c.in_ok-make_room.ensures.tids) in
    rw listed
    (registered_pushed c.args.t.0 c.args.tx.0 c.args.reader c.args.base.0 c.self.inside.acts c.push.new.self c.self.inside.tids.items c.self.inside.by_tx.items c.note.new.by_tx.items c.self.inside.live
    c.self.invariant (subst (All (λ x. x.tid < c.args.t.0)) (sym c.self.view_is) c.requires) c.in_ok-push.ensures.ok
    (λ k. c.note.ensures k ∙ ap (λ (o : Option ℕ). first_kept o (c.args.tx.0 == k) c.args.t.0) (c.in_ok-make_room.ensures.same k)))
