use Rattle.std.proofs.Common.{◌≡◌, ◌++◌, ℕ, List, ap, sym, ◌∙◌, subst, refl}
use Rattle.std.specs.Prelude.{max, not, true}
use Rattle.protocol.specs.Parts.{Act, Pair, Book}
use Rattle.protocol.specs.Words.{is_doomed, holds, act_of}
use Rattle.protocol.specs.Spread.{raised, doomed_by_order}
use Rattle.protocol.specs.OnBook.{changed_act, joins, new_pairs}
use Rattle.order_book.specs.Asked.{locks_of}
use Rattle.order_book.specs.Changes.{changed_at}
use Rattle.order_book.specs.Walking.{is_walked, places_of}
use Rattle.order_book.proofs.Booked.{joined_walked, spread_acts, spread_left}
use Rattle.order_book.proofs.Locks.{placed_by_tids}
use Rattle.order_book.proofs.book.Book.place.Goals as goal

pub invariant_of-self-2 : goal.invariant_of-self-2
invariant_of-self-2 c =
    let m : ℕ = max c.args.last.0 c.args.floor.0 in
    let acts : List Act = c.self.inside.register in
    let pairs : c.join.new.pairs.items ≡ c.self.inside.pairs.items ++ new_pairs c.args.t.0 c.args.a.0 (locks_of c.args.rivals.now) acts =
    c.in_ok-join.ensures.pairs ∙ ap (λ (ps : List Pair). c.self.inside.pairs.items ++ ps) c.in_ok-made.ensures in
    let joined : c.join.new.register ≡ changed_act c.args.t.0 (joins c.args.a.0 m) acts =
    c.in_ok-join.ensures.acts ∙ (ap (λ (k : ℕ). changed_at c.place_of-at.result (joins c.args.a.0 k) acts) c.max.ensures ∙ sym (c.place_of-at.ensures.changes (joins c.args.a.0 m))) in
    let live : holds (λ (x : Act). not (is_doomed x.status)) (act_of c.args.t.0 acts) ≡ true =
    subst (λ (b : Book). holds (λ (x : Act). not (is_doomed x.status)) (act_of c.args.t.0 b.acts) ≡ true) (sym c.self.view_is) c.requires in
    let walked : c.self.inside.walked.items ≡ places_of (is_walked c.join.new.pairs.items) 0 c.join.new.register =
    joined_walked c.self.inside.pairs.items c.join.new.pairs.items c.args.t.0 c.args.a.0 m (locks_of c.args.rivals.now) acts c.join.new.register c.self.inside.walked.items live c.place_of-at.ensures.only c.self.invariant pairs joined in
    spread_left c.join.new.pairs.items c.args.a.0 c.join.new.register c.spread.new.register c.self.inside.walked.items c.spread.new.walked.items walked
    (spread_acts c.join.new.pairs.items c.args.a.0 c.join.new.register c.spread.new.register c.self.inside.walked.items walked (rw c.as_slice.ensures.value at c.spread.ensures.acts))
    (rw c.as_slice.ensures.value at c.spread.ensures.kept)

pub returns-clause-ok : goal.returns-clause-ok
returns-clause-ok c locks are =
    let m : ℕ = max c.args.last.0 c.args.floor.0 in
    let acts : List Act = c.self.inside.register in
    let pairs : c.join.new.pairs.items ≡ c.self.inside.pairs.items ++ new_pairs c.args.t.0 c.args.a.0 (locks_of c.args.rivals.now) acts =
    c.in_ok-join.ensures.pairs ∙ ap (λ (ps : List Pair). c.self.inside.pairs.items ++ ps) c.in_ok-made.ensures in
    let joined : c.join.new.register ≡ changed_act c.args.t.0 (joins c.args.a.0 m) acts =
    c.in_ok-join.ensures.acts ∙ (ap (λ (k : ℕ). changed_at c.place_of-at.result (joins c.args.a.0 k) acts) c.max.ensures ∙ sym (c.place_of-at.ensures.changes (joins c.args.a.0 m))) in
    let live : holds (λ (x : Act). not (is_doomed x.status)) (act_of c.args.t.0 acts) ≡ true =
    subst (λ (b : Book). holds (λ (x : Act). not (is_doomed x.status)) (act_of c.args.t.0 b.acts) ≡ true) (sym c.self.view_is) c.requires in
    let walked : c.self.inside.walked.items ≡ places_of (is_walked c.join.new.pairs.items) 0 c.join.new.register =
    joined_walked c.self.inside.pairs.items c.join.new.pairs.items c.args.t.0 c.args.a.0 m (locks_of c.args.rivals.now) acts c.join.new.register c.self.inside.walked.items live c.place_of-at.ensures.only c.self.invariant pairs joined in
    let spreads : c.spread.new.register ≡ doomed_by_order c.args.a.0 (raised c.join.new.pairs.items c.join.new.register) =
    spread_acts c.join.new.pairs.items c.args.a.0 c.join.new.register c.spread.new.register c.self.inside.walked.items walked (rw c.as_slice.ensures.value at c.spread.ensures.acts) in
    rw (placed_by_tids c.args.t.0 c.args.a.0 m c.args.self.now c.args.rivals.now locks are, ← c.self.view_is, spreads, pairs, joined) refl
