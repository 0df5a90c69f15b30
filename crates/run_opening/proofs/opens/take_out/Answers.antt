use Rattle.std.proofs.Common.{◌≡◌, ◌+◌, ◌<◌, ◌++◌, length, take, drop, sym, ◌∙◌, ap, ℕ, rules, vec_len}
use Rattle.run_opening.proofs.Taking.{left_fewer, taken_more}
use Rattle.run_opening.proofs.opens.take_out.Goals as goal

pub loop-in_use-preserved : goal.loop-in_use-preserved
loop-in_use-preserved g c =
    let i = c.loop-in_use.invariant in
    let xs = c.args.logs.items in
    let left = c.loop-in_use.logs.items in
    let n = vec_len c.loop-in_use.in_use in
    let lt : c.args.head + n < length xs = search rules in
    let more : vec_len c.push_reserved.new.self ≡ n + 1 = c.push_reserved.ensures.len in
    record {
      few = search rules;
      long = search rules;
      room = search rules;
      taken = c.push_reserved.ensures.items ∙ taken_more xs left c.args.head n lt i.left c.loop-in_use.in_use.items c.remove.result i.taken c.remove.ensures.value
          ∙ ap (λ (k : ℕ). take k (drop c.args.head xs)) (sym more);
      left = c.remove.ensures.items ∙ left_fewer xs left c.args.head n lt i.left ∙ ap (λ (k : ℕ). take c.args.head xs ++ drop (c.args.head + k) xs) (sym more);
    }
