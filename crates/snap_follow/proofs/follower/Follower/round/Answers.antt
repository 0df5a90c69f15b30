use Rattle.std.proofs.Common.{◌≡◌, List, length, refl, sym, ap, subst, ◌∙◌, arith}
use Rattle.std.proofs.lemmas.Result.{err_from_is_err_and}
use Rattle.txn_records.specs.declared.records.Record.{Record}
use Rattle.snap_recover.specs.declared.openings.Kept.{Kept}
use Rattle.log_compact.specs.Sets.{HasNoStray}
use Rattle.snap_follow.specs.Finding.{IsFound, newer_states}
use Rattle.snap_follow.specs.Refusals.{IsNotFollowed}
use Rattle.snap_follow.specs.Rounds.{Following, AreInLists}
use Rattle.snap_follow.proofs.Founds.{round_made}
use Rattle.snap_follow.proofs.follower.Follower.round.Goals as goal

pub find-requires : goal.find-requires
find-requires c =
    let i = c.self.inside in
    let before : c.as_slice.result.now ≡ i.before = c.as_slice.ensures in
    let members : c.as_slice-2.result.now ≡ i.members = c.as_slice-2.ensures in
    let lists : c.as_slice-3.result.now ≡ c.args.lists = c.as_slice-3.ensures in
    let old : i.before ≡ c.args.self.now.before = ap (λ (f : Following). f.before) c.self.view_is in
    let size : length c.as_slice.result.now ≡ length i.before = ap (λ (z : List (List Record)). length z) before in
    record {
      some = omega (arith, size, c.self.invariant.some);
      few = omega (arith, size, c.self.invariant.few);
      as_many = ap (λ (z : List (List Record)). length z) lists ∙ c.requires.as_many ∙ sym (ap (λ (z : List (List Record)). length z) (before ∙ old));
      no_stray = subst HasNoStray (sym lists) c.requires.no_stray;
      are_in = subst (λ (z : List (List Record)). AreInLists z c.as_slice-2.result.now) (sym before) (subst (λ (z : List Kept). AreInLists i.before z) (sym members) c.self.invariant.are_in);
    }

pub returns-in_err-found-clause-refused : goal.returns-in_err-found-clause-refused
returns-in_err-found-clause-refused c =
    let before : c.as_slice.result.now ≡ c.args.self.now.before = c.as_slice.ensures ∙ ap (λ (f : Following). f.before) c.self.view_is in
    let lists : c.as_slice-3.result.now ≡ c.args.lists = c.as_slice-3.ensures in
    let no = subst (λ (z : List (List Record)). IsNotFollowed z c.args.lists c.in_err-found.field-0.0) before (subst (λ (z : List (List Record)). IsNotFollowed c.as_slice.result.now z c.in_err-found.field-0.0) lists c.in_err-found.ensures) in
    let p = err_from_is_err_and c.from_residual.result c.from_residual.ensures.1 in
    rw (p.1, p.2) no

pub returns-clause-followed : goal.returns-clause-followed
returns-clause-followed c =
    let before : c.as_slice.result.now ≡ c.args.self.now.before = c.as_slice.ensures ∙ ap (λ (f : Following). f.before) c.self.view_is in
    let members : c.as_slice-2.result.now ≡ c.args.self.now.members = c.as_slice-2.ensures ∙ ap (λ (f : Following). f.members) c.self.view_is in
    let lists : c.as_slice-3.result.now ≡ c.args.lists = c.as_slice-3.ensures in
    let states : c.replace-old.result ≡ c.args.self.now.states = c.replace-old.ensures.value ∙ ap (λ (f : Following). f.states) c.self.view_is in
    let found = c.in_ok-found.found in
    let is : IsFound c.args.self.now.before c.args.self.now.members c.args.lists found =
    subst (λ (z : List (List Record)). IsFound z c.args.self.now.members c.args.lists found) before
    (subst (λ (z : List Kept). IsFound c.as_slice.result.now z c.args.lists found) members
    (subst (λ (z : List (List Record)). IsFound c.as_slice.result.now c.as_slice-2.result.now z found) lists c.in_ok-found.ensures)) in
    round_made c.args.self.now (record { before = c.args.lists; members = found.members; states = c.newer.result }) c.args.lists found is refl refl (c.newer.ensures ∙ ap (newer_states found.states) states)
