use Rattle.std.proofs.Common.{◌≡◌, ◌+◌, ◌-◌, ◌≤◌, ◌<◌, ℕ, length, drop, refl, sym, ◌∙◌, ap, subst, arith, rules, vec_len}
use Rattle.log_opening.proofs.Places.{front_put, rest_put, with_all, with_closed}
use Rattle.log_opening.proofs.openings.close.Goals as goal

pub loop-log-init : goal.loop-log-init
loop-log-init g c =
    let none : c.args.head + (vec_len c.args.logs - vec_len c.args.logs) ≡ c.args.head = omega arith in
    record {
      len = refl;
      room = c.requires.room;
      behind = c.requires.behind;
      same = refl;
      front = refl;
      rest = ap (λ (n : ℕ). drop n c.args.devices.now.items) none;
      fewer = omega arith;
      capacity = refl;
    }

pub loop-log-preserved : goal.loop-log-preserved
loop-log-preserved g c =
    let is = c.loop-log.invariant in
    let head = c.args.head in
    let xs = c.loop-log.devices.items in
    let ys = c.put.new.objects.items in
    let zs = drop head c.args.devices.now.items in
    let le : head ≤ length xs = search rules in
    let one : vec_len c.loop-log.logs ≡ vec_len c.pop.new.self + 1 = omega (arith, c.in-Some.ensures.cases) in
    let fewer : vec_len c.pop.new.self < vec_len c.args.logs = omega (arith, one, is.fewer) in
    record {
      len = omega (arith, one, is.len, c.put.ensures.len);
      room = omega (arith, one, is.room, c.put.ensures.len, c.put.ensures.capacity);
      behind = omega (arith, is.behind, c.put.ensures.len);
      same = with_closed g.D.LogDev.told g.D.LogDev.faults head c.loop-log.logs.items c.pop.new.self.items c.in-Some.log c.into_dev.result xs ys le c.in-Some.ensures.items c.put.ensures.items
          c.into_dev.ensures.told c.into_dev.ensures.faults ∙ is.same;
      front = front_put head c.into_dev.result xs ys _ le c.put.ensures.items is.front;
      rest = rest_put head (vec_len c.args.logs) (vec_len c.pop.new.self) c.into_dev.result xs ys zs le fewer c.put.ensures.items
          (subst (λ (n : ℕ). drop (head + (vec_len c.args.logs - n)) xs ≡ zs) one is.rest);
      fewer = omega (arith, fewer);
      capacity = c.put.ensures.capacity ∙ is.capacity;
    }

pub returns-clause-devices : goal.returns-clause-devices
returns-clause-devices g c =
    let none : length c.loop-log.logs.items ≡ 0 = search rules in
    sym (with_all g.D.LogDev.told g.D.LogDev.faults c.args.head c.loop-log.logs.items c.loop-log.devices.items none) ∙ c.loop-log.invariant.same

pub returns-clause-rest : goal.returns-clause-rest
returns-clause-rest g c =
    let none : vec_len c.loop-log.logs ≡ 0 = search rules in
    let whole : c.args.head + (vec_len c.args.logs - vec_len c.loop-log.logs) ≡ c.args.head + vec_len c.args.logs = omega (arith, none) in
    subst (λ (n : ℕ). drop n c.loop-log.devices.items ≡ drop c.args.head c.args.devices.now.items) whole c.loop-log.invariant.rest
