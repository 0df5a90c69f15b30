use Rattle.std.proofs.Common.{◌≡◌, ◌≤◌, true, Some, List, filter, arith, ap, sym, subst, ◌∙◌}
use Rattle.std.specs.Prelude.{not}
use Rattle.std.specs.List.{AllByRecursion}
use Rattle.snap_base.specs.declared.ids.Tid.{Tid}
use Rattle.protocol.specs.Parts.{Pair}
use Rattle.protocol.specs.Words.{greatest, is_among}
use Rattle.audit_words.specs.Happenings.{ahead_of, act_placed_last, with_pairs}
use Rattle.audit_words.specs.Seen.{sets_cross, was_given_up}
use Rattle.audit_tale.specs.Knows.{owner_of}
use Rattle.audit_tale.specs.Risen.{tids}
use Rattle.audit_tale.specs.Rivalry.{locks, with_entry}
use Rattle.audit_tale.specs.Stands.{KnowsAll}
use Rattle.audit_tale.specs.declared.tales.Owner.TheVariants as owners
use Rattle.audit_tale.specs.declared.tales.Tale.{Tale}
use Rattle.audit_tale.proofs.Asked.{ahead_acts, asked_pairs, crossed_rose, may_cross, may_rise, met_acts, risen_known}
use Rattle.audit_tale.proofs.asking.stand.Goals as goal

pub returns : goal.returns
returns c w s sound h owned may met_is first =
    let ahead : locks s c.in_ok-ahead.ahead.items ≡ ahead_of c.args.t.0 c.args.a.0 s = c.in_ok-ahead.ensures w s h.names (met_acts w c.args.t.0 c.args.a.0 s sound may first c.args.met.now met_is) ∙ ap (filter (λ x. not (was_given_up s.dooms x.tid))) met_is in
    let one : locks s c.as_slice.result.now ≡ ahead_of c.args.t.0 c.args.a.0 s = ap (locks s) c.as_slice.ensures.value ∙ ahead in
    let two : locks s c.as_slice-2.result.now ≡ ahead_of c.args.t.0 c.args.a.0 s = ap (locks s) c.as_slice-2.ensures.value ∙ ahead in
    let number = c.number_behind-number.ensures w s c.args.t.0 h owned (ahead_acts w c.args.t.0 c.args.a.0 s sound may first c.as_slice.result.now one) one in
    let stood = c.in_ok-stand_last.ensures.knows w s h in
    let waits = subst (λ (gs : List Pair). KnowsAll w c.wait_behind.new.told (record (with_entry c.args.t.0 c.args.a.0 s) { gains = gs })) (asked_pairs w c.args.t.0 c.args.a.0 s sound may first c.as_slice-2.result.now two)
    (c.in_ok-wait_behind.ensures.knows w (with_entry c.args.t.0 c.args.a.0 s) sound.drawn.rise stood) in
    let kept : owner_of c.args.t.0 c.wait_behind.new.told.tale.owners.items ≡ Some (owners.Act c.args.at) = ap (λ (z : Tale). owner_of c.args.t.0 z.owners.items) (c.in_ok-wait_behind.ensures.owners ∙ c.in_ok-stand_last.ensures.owners) ∙ owned in
    let le : greatest (s.before c.args.t.0) ≤ c.number_behind-number.result.0 = omega (arith, number) in
    let rose = c.in_ok-risen.ensures w (record (with_entry c.args.t.0 c.args.a.0 s) { gains = with_pairs c.args.t.0 c.args.a.0 s }) (may_rise w c.args.t.0 c.args.a.0 s sound may first) waits kept le in
    let there = risen_known w c.args.t.0 c.args.a.0 s sound may first c.number_behind-number.result.0 (tids c.in_ok-risen.risen.items) number rose.rising c.rise.new.told rose.knows in
    c.cross_each.ensures w (act_placed_last c.args.t.0 c.args.a.0 s) (may_cross w c.args.t.0 c.args.a.0 s sound may first)
    (subst (λ (us : List Tid). AllByRecursion (λ x. sets_cross (act_placed_last c.args.t.0 c.args.a.0 s) x.tid ≡ true → is_among x.tid (tids us) ≡ true) s.acts) (sym c.as_slice-3.ensures.value)
    (crossed_rose w c.args.t.0 c.args.a.0 s sound may first c.number_behind-number.result.0 (tids c.in_ok-risen.risen.items) number rose.rising))
    there
