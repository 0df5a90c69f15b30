use Rattle.std.proofs.Common.{◌≡◌, None, MatchOption, List, Bor, subst, arith}
use Rattle.std.proofs.lemmas.Result.{err_from_is_err_and}
use Rattle.snap_base.specs.declared.transactions.State.{State}
use Rattle.txn_records.specs.declared.records.Record.{Record}
use Rattle.snap_recover.specs.Opening.{AreWhollyCommitted}
use Rattle.snap_follow.specs.Finding.{IsSettledFrom, LeavesStates}
use Rattle.snap_follow.specs.Passes.{IsNotWhole, chosen_lists}
use Rattle.snap_follow.specs.Refusals.{IsNotFollowed}
use Rattle.snap_follow.proofs.Founds.{IsFirst, Parts, is_found, lacks, readable}
use Rattle.snap_follow.proofs.rounds.find.Goals as goal

pub returns-in_err-whole : goal.returns-in_err-whole
returns-in_err-whole c =
    let seen = c.in_ok-seen.seen in
    let cause = c.in_err-whole.field-0.0 in
    let parts : Parts c.args.before.now c.args.members.now c.args.lists.now c.in_ok-now.now seen = record {
      some = omega (arith, c.requires.as_many, c.requires.some);
      as_many = c.requires.as_many;
      are_in = c.requires.are_in;
      grow = c.in_default.ensures;
      is_plain = c.in_ok-now.ensures;
      is_seen = c.in_ok-seen.ensures;
    } in
    let begins : IsFirst (λ (f : Bor (List State)). f.now) c.in_ok-now.now c.in_ok-first.first =
    subst (λ (z : List (List Record)). IsFirst (λ (f : Bor (List State)). f.now) z c.in_ok-first.first) c.as_slice.ensures c.in_ok-first.ensures in
    let lack : IsNotFollowed c.args.before.now c.args.lists.now cause =
    lacks c.args.before.now c.args.members.now c.args.lists.now c.in_ok-now.now seen cause parts (readable (λ (f : Bor (List State)). f.now) c.in_ok-now.now c.in_ok-first.first begins)
    (subst (λ (z : List (List Record)). IsNotWhole (chosen_lists seen z) cause) c.as_slice-2.ensures c.in_err-whole.ensures) in
    let p = err_from_is_err_and c.from_residual-in_err-whole.result c.from_residual-in_err-whole.ensures.1 in
    rw (p.1, p.2) lack

pub returns : goal.returns
returns c =
    let now = c.in_ok-now.now in
    let seen = c.in_ok-seen.seen in
    let set = c.in_ok-set.set in
    let whole = c.in_ok-whole.whole in
    let states = c.in_ok-states.states in
    is_found (λ (f : Bor (List State)). f.now) c.args.before.now c.args.members.now c.args.lists.now now c.in_ok-taken.taken seen set c.in_ok-first.first c.begun_states-begun.result.now whole (record { members = c.members_of-members.result; states = states })
    (record {
      some = omega (arith, c.requires.as_many, c.requires.some);
      as_many = c.requires.as_many;
      are_in = c.requires.are_in;
      grow = c.in_default.ensures;
      is_plain = c.in_ok-now.ensures;
      is_seen = c.in_ok-seen.ensures;
    })
    (record {
      begins = subst (λ (z : List (List Record)). IsFirst (λ (f : Bor (List State)). f.now) z c.in_ok-first.first) c.as_slice.ensures c.in_ok-first.ensures;
      begun_is = c.begun_states-begun.ensures;
      whole_is = subst (λ (z : List (List Record)). AreWhollyCommitted (chosen_lists seen z) whole) c.as_slice-2.ensures c.in_ok-whole.ensures;
      is_taken = c.in_ok-taken.ensures;
      settled = subst (λ (z : List (List Record)). IsSettledFrom z c.begun_states-begun.result.now c.in_ok-taken.taken seen set) c.as_slice-3.ensures c.in_ok-set.ensures;
      states = subst (λ (z : List (List Record)). MatchOption c.in_ok-first.first (states ≡ None) (λ (f : Bor (List State)). LeavesStates set z f.now states)) c.as_slice-5.ensures c.in_ok-states.ensures;
      those = c.members_of-members.ensures;
    })
