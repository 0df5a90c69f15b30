use Rattle.std.proofs.Common.{◌≡◌, sym, ◌∙◌, refl, rules}
use Rattle.std.specs.Prelude.{◌==◌, ◌&&◌, not, filter}
use Rattle.std.proofs.lemmas.Fn.{filter_same}
use Rattle.protocol.specs.Parts.{Act, Pair}
use Rattle.protocol.specs.OnBook.{change_if, changed_act, marked, has_left}
use Rattle.order_book.proofs.Walked.{kept, leaving_rests}
use Rattle.order_book.proofs.book.Book.finished.Goals as goal

pub invariant_of-self : goal.invariant_of-self
invariant_of-self c =
    let ended : c.retain.new.self.items ≡ filter (λ (p : Pair). not ((p.ahead == c.args.t.0) && (p.actor == c.args.a.0))) c.self.inside.pairs.items =
    filter_same _ (λ (p : Pair). not ((p.ahead == c.args.t.0) && (p.actor == c.args.a.0))) _ (λ x b f' k. search rules) _ _ c.retain.ensures.filtered in
    rw ended
    (kept c.self.inside.pairs.items (filter (λ (p : Pair). not ((p.ahead == c.args.t.0) && (p.actor == c.args.a.0))) c.self.inside.pairs.items)
    (λ (x : Act). change_if (x.tid == c.args.t.0) (marked c.args.a.0 has_left) x) c.self.inside.register c.change.new.self c.self.inside.walked.items c.keep_walked.new.walked.items
    (λ x e. leaving_rests (λ (p : Pair). not ((p.ahead == c.args.t.0) && (p.actor == c.args.a.0))) c.self.inside.pairs.items c.args.a.0 (x.tid == c.args.t.0) x e)
    c.self.invariant (c.change.ensures ∙ sym (c.place_of-at.ensures.changes (marked c.args.a.0 has_left))) (rw (c.as_slice.ensures.value, ended) at c.keep_walked.ensures))

pub returns : goal.returns
returns c =
    let ended : c.retain.new.self.items ≡ filter (λ (p : Pair). not ((p.ahead == c.args.t.0) && (p.actor == c.args.a.0))) c.self.inside.pairs.items =
    filter_same _ (λ (p : Pair). not ((p.ahead == c.args.t.0) && (p.actor == c.args.a.0))) _ (λ x b f' k. search rules) _ _ c.retain.ensures.filtered in
    let acts : c.change.new.self ≡ changed_act c.args.t.0 (marked c.args.a.0 has_left) c.self.inside.register = c.change.ensures ∙ sym (c.place_of-at.ensures.changes (marked c.args.a.0 has_left)) in
    rw (← c.self.view_is, ended, acts) refl
