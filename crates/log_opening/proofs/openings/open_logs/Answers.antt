use Rattle.std.proofs.Common.{◌≡◌, ◌+◌, ◌∷◌, [], ◌≤◌, List, length, take, sym, ◌∙◌, ap, subst, arith, rules, vec_len, length-append}
use Rattle.std.proofs.lemmas.List.{take-append-le}
use Rattle.gate_log.specs.declared.logs.LogItem.{LogItem}
use Rattle.log_opening.proofs.Places.{rest_more}
use Rattle.log_opening.proofs.openings.open_logs.Goals as goal

pub loop-alloc-preserved : goal.loop-alloc-preserved
loop-alloc-preserved g c =
    let is = c.loop-alloc.invariant in
    let old = c.loop-alloc.opened.found in
    let more = c.in_ok-open_next.ensures.more in
    let from : length c.args.opened.now.found ≤ length old = is.from in
    let size : length c.open_next.new.opened.found ≡ length old + 1 = ap (λ (l : List (List LogItem)). length l) more.1 ∙ length-append old (more.0 ∷ []) in
    record {
      len = search rules;
      room = search rules;
      room_back = search rules;
      same = omega (arith, size, is.same, c.in_ok-open_next.ensures.one);
      from = omega (arith, size, from);
      more = search rules;
      rest = rest_more c.args.count (vec_len c.loop-alloc.opened.logs) (vec_len c.open_next.new.opened.logs) c.loop-alloc.devices.items c.open_next.new.devices.items
          (search rules) c.open_next.ensures.at_most c.open_next.ensures.rest ∙ is.rest;
      kept = subst (λ (l : List (List LogItem)). take (length c.args.opened.now.found) l ≡ c.args.opened.now.found) (sym more.1) (rw take-append-le is.kept);
      found = λ before are. c.in_ok-open_next.ensures.found before (is.found before are);
      ready = λ all. c.in_ok-open_next.ensures.ready (is.ready all);
    }

pub returns-in_err-open_next-clause-rest : goal.returns-in_err-open_next-clause-rest
returns-in_err-open_next-clause-rest g c =
    rest_more c.args.count (vec_len c.loop-alloc.opened.logs) (vec_len c.open_next.new.opened.logs) c.loop-alloc.devices.items c.open_next.new.devices.items
    (search rules) c.open_next.ensures.at_most c.open_next.ensures.rest ∙ c.loop-alloc.invariant.rest
