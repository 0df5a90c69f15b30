use Rattle.std.proofs.Common.{sym, ap, subst, ◌∙◌, arith, get_or, length, ◌<◌, IsSome}
use Rattle.std.specs.Prelude.{slice_set}
use Rattle.log_compact.specs.Sets.{point_in}
use Rattle.log_compact.proofs.WithoutPoint.{none_stripped, empty_has_none, first_has_none, not_both, same_first, some_stripped}
use Rattle.log_compact.proofs.stripping.strip_lists.Goals.{then-len-eq0-via-then-len-eq0, then-len-eq0-via-else-len-eq0+then-not-has_point}
use Rattle.log_compact.proofs.stripping.strip_lists.Goals as goal

pub returns-then-len-eq0 : goal.returns-then-len-eq0
returns-then-len-eq0 c =
    let same = c.into_vec-all.ensures in
    none_stripped c.args.lists c.from_vec.result c.requires (c.from_vec.ensures ∙ same)
    (elim c.then-len-eq0.branch [
      | then-len-eq0-via-then-len-eq0 w ↦ empty_has_none c.args.lists (omega (arith, w.if-len-eq0.true, c.len.ensures, ap (λ z. length z) same))
      | then-len-eq0-via-else-len-eq0+then-not-has_point w ↦
          first_has_none c.args.lists w.index.result.now (omega (arith, w.if-len-eq0.false, c.len.ensures, ap (λ z. length z) same)) (w.index.ensures ∙ ap (λ z. get_or z 0 w.index.result.now) same)
          (λ some. not_both w.has_point.result w.if-not-has_point.true (w.has_point.ensures.1 (subst (λ z. IsSome (point_in z)) (sym w.as_slice.ensures) some)))
    ])

pub returns : goal.returns
returns c =
    let same = c.into_vec-all.ensures in
    let low : 0 < length c.args.lists = omega (arith, c.if-len-eq0.false, c.len.ensures, ap (λ z. length z) same) in
    let here = c.index_mut.ensures.value ∙ ap (λ z. get_or z 0 c.index_mut.result.now) same in
    let read = same_first c.args.lists c.index.result.now c.index_mut.result.now low (c.index.ensures ∙ ap (λ z. get_or z 0 c.index.result.now) same) here in
    let some = subst (λ z. IsSome (point_in z)) (c.as_slice.ensures ∙ read) (c.has_point.ensures.0 c.if-not-has_point.false) in
    let s = c.strip_list-first in
    some_stripped c.args.lists c.from_vec-2.result c.index_mut.result.now s.new.list s.result.0 s.result.1 c.requires low here some
    (c.from_vec-2.ensures ∙ ap (λ z. slice_set z 0 s.new.list) same) s.ensures.list s.ensures.first s.ensures.told
