use Rattle.std.proofs.Common.{◌≡◌, ℕ, ◌<◌, ◌≤◌, true, [], ◌++◌, List, length, append_assoc, arith, ap, refl, sym, subst, ◌∙◌}
use Rattle.std.specs.Prelude.{slice_index_or}
use Rattle.std.specs.List.{AllByRecursion}
use Rattle.std.proofs.lemmas.List.{append-nil, length-map, take_all}
use Rattle.protocol.specs.Meant.{tid_number}
use Rattle.protocol.specs.Words.{greatest, is_among}
use Rattle.audit_words.specs.Seen.{was_admitted}
use Rattle.audit_tale.specs.Risen.{behind_it, risen, tids}
use Rattle.audit_tale.proofs.Walks.{all_waiting, among_still, index_tid, reach_behind, visited_more, walk_next, with_before}
use Rattle.audit_tale.proofs.rising.lift_waiters.Goals as goal

pub loop-v-init : goal.loop-v-init
loop-v-init c = record { longer = omega arith; fewer = refl; more = ([], sym (append-nil (tids c.args.rising.now.items))); knows = λ w s t visited may there h. (h, tt) }

pub loop-v-preserved : goal.loop-v-preserved
loop-v-preserved c =
    record {
      longer = omega (arith, c.loop-v.invariant.longer, c.in_ok-lift.ensures.longer);
      fewer = omega (arith, c.loop-v.invariant.fewer, c.in_ok-lift.ensures.fewer);
      more = (c.loop-v.invariant.more.0 ++ c.in_ok-lift.ensures.more.0, c.in_ok-lift.ensures.more.1 ∙ (ap (λ (z : List ℕ). z ++ c.in_ok-lift.ensures.more.0) c.loop-v.invariant.more.1 ∙ append_assoc (tids c.args.rising.now.items) c.loop-v.invariant.more.0 c.in_ok-lift.ensures.more.0));
      knows = λ w s t visited may there h.
          let so_far = c.loop-v.invariant.knows w s t visited may there h in
          let begun = all_waiting w c.args.number.0 t c.args.u.0 (tids c.args.rising.now.items) visited c.args.told.now s there h in
          let behind : tids c.deref-v-items.result.now ≡ behind_it c.args.u.0 s.gains = ap tids c.deref-v-items.ensures.value ∙ c.in_ok-behind.ensures w (with_before (risen c.args.number.0 (tids c.args.rising.now.items) s.before) s) h.knows begun in
          let near : c.loop-v.v-index < length (tids c.deref-v-items.result.now) = omega (arith, c.loop-v-test.true, length-map c.deref-v-items.result.now tid_number) in
          let still : is_among c.args.u.0 (tids c.loop-v.rising.items) ≡ true = subst (λ (z : List ℕ). is_among c.args.u.0 z ≡ true) (sym c.loop-v.invariant.more.1) (among_still c.args.u.0 (tids c.args.rising.now.items) c.loop-v.invariant.more.0 there) in
          let here = sym (index_tid c.deref-v-items.result.now c.loop-v.v-index (record { 0 = 0 }) c.loop-v-test.true) in
          walk_next w c.args.number.0 t (slice_index_or c.deref-v-items.result.now c.loop-v.v-index (record { 0 = 0 })).0 c.loop-v.v-index (tids c.loop-v.rising.items) (tids c.lift.new.rising.items) c.in_ok-lift.ensures.more.0 visited (tids c.deref-v-items.result.now) c.loop-v.told c.lift.new.told s near here
          c.in_ok-lift.ensures.more.1 so_far.1
          (c.in_ok-lift.ensures.knows w s t visited may
          (λ r closed up. reach_behind c.args.number.0 t c.args.u.0 (slice_index_or c.deref-v-items.result.now c.loop-v.v-index (record { 0 = 0 })).0 (tids c.loop-v.rising.items) visited (tids c.deref-v-items.result.now) s c.loop-v.v-index so_far.0.rising still behind near here r closed up)
          so_far.0);
    }

pub returns : goal.returns
returns c = record {
  longer = c.loop-v.invariant.longer;
  fewer = c.loop-v.invariant.fewer;
  more = c.loop-v.invariant.more;
  knows = λ w s t visited may there h.
      let so_far = c.loop-v.invariant.knows w s t visited may there h in
      let begun = all_waiting w c.args.number.0 t c.args.u.0 (tids c.args.rising.now.items) visited c.args.told.now s there h in
      let behind : tids c.deref-v-items.result.now ≡ behind_it c.args.u.0 s.gains = ap tids c.deref-v-items.ensures.value ∙ c.in_ok-behind.ensures w (with_before (risen c.args.number.0 (tids c.args.rising.now.items) s.before) s) h.knows begun in
      visited_more w c.args.number.0 t c.args.u.0 (tids c.loop-v.rising.items) visited (tids c.deref-v-items.result.now) c.loop-v.told s may behind so_far.0
      (subst (AllByRecursion (λ v. was_admitted v s ≡ true → c.args.number.0 ≤ greatest (risen c.args.number.0 (tids c.loop-v.rising.items) s.before v))) (take_all c.loop-v.v-index (tids c.deref-v-items.result.now) (omega (arith, c.loop-v-test.false, length-map c.deref-v-items.result.now tid_number))) so_far.1);
}
