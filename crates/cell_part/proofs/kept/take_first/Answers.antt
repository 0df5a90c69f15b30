use Rattle.std.proofs.Common.{◌==◌, Bool, not, List, Option, Some, sym, ap, ◌∙◌}
use Rattle.std.specs.Prelude.{filter, position}
use Rattle.cell_part.proofs.Taking.{found, left_over, none_found, all_left}
use Rattle.cell_part.proofs.kept.take_first.Goals as goal

pub returns-in-Some-clause-value : goal.returns-in-Some-clause-value
returns-in-Some-clause-value g c =
    let X : Type 0 = g.row.T.Denot in
    let meant : X → Bool = λ x. g.T.Kept.number x == c.args.t.0 in
    let here = sym c.in-Some.is ∙ c.place_of.ensures ∙ ap (position meant) c.deref.ensures.value in
    let some : X → Option X = λ x. Some x in
    ap some c.remove-first.ensures.value ∙ sym (found meant c.args.items.now.items c.in-Some.at _ here)

pub returns-in-Some-clause-items : goal.returns-in-Some-clause-items
returns-in-Some-clause-items g c =
    let X : Type 0 = g.row.T.Denot in
    let meant : X → Bool = λ x. g.T.Kept.number x == c.args.t.0 in
    let left : List X → List X = λ xs. filter (λ x. not (meant x)) xs in
    let here = sym c.in-Some.is ∙ c.place_of.ensures ∙ ap (position meant) c.deref.ensures.value in
    c.drop_each.ensures.items ∙ ap left c.remove-first.ensures.items ∙ left_over meant c.args.items.now.items c.in-Some.at here

pub returns-in-None-clause-value : goal.returns-in-None-clause-value
returns-in-None-clause-value g c =
    let meant : g.row.T.Denot → Bool = λ x. g.T.Kept.number x == c.args.t.0 in
    let nowhere = sym c.in-None.is ∙ c.place_of.ensures ∙ ap (position meant) c.deref.ensures.value in
    sym (none_found meant c.args.items.now.items nowhere)

pub returns-in-None-clause-items : goal.returns-in-None-clause-items
returns-in-None-clause-items g c =
    let meant : g.row.T.Denot → Bool = λ x. g.T.Kept.number x == c.args.t.0 in
    let nowhere = sym c.in-None.is ∙ c.place_of.ensures ∙ ap (position meant) c.deref.ensures.value in
    sym (all_left meant c.args.items.now.items nowhere)
