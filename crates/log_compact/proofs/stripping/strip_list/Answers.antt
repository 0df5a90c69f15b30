use Rattle.std.proofs.Common.{ap, ◌∙◌, get_or, take, drop, ◌++◌, ◌≡◌}
use Rattle.std.specs.Prelude.{slice_set}
use Rattle.log_compact.proofs.WithoutPoint.{taken_is}
use Rattle.log_compact.proofs.stripping.strip_list.Goals as goal

pub returns-clause-list : goal.returns-clause-list
returns-clause-list c =
    let same : c.into_vec-records.result.items ≡ c.args.list.now = c.into_vec-records.ensures ∙ c.replace.ensures.value in
    let k = c.in-Checkpoint in
    taken_is c.args.list.now c.remove.new.self.items c.from_vec.result k.generation k.next_tid k.next_bid k.next_c k.batches k.acts k.states c.requires.point c.requires.plain
    (record {
      taken = c.remove.result;
      is = c.remove.ensures.value ∙ ap (λ z. get_or z 1 c.remove.result) same;
      rest = c.remove.ensures.by_index.2 ∙ ap (λ z. take 1 z ++ drop 2 z) same;
      genesis = c.index_mut.result.now;
      stands = c.index_mut.ensures.value;
      new = c.from_vec.ensures ∙ ap (λ z. slice_set c.remove.new.self.items 0 z) c.restate-first.ensures.new;
    }) k.is
