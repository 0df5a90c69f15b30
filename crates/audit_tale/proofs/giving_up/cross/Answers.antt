use Rattle.std.proofs.Common.{◌≡◌, false, Bool, is_some, ap, sym, ◌∙◌}
use Rattle.std.specs.Prelude.{◌&&◌}
use Rattle.snap_base.proofs.Booleans.{and_false}
use Rattle.audit_words.specs.Seen.{act_in, sets_cross}
use Rattle.audit_tale.specs.GivenUp.{crosses}
use Rattle.audit_tale.proofs.Dooms.{begun_there, crossing_now, none_crosses, one_crosses, own_crosses}
use Rattle.audit_tale.proofs.giving_up.cross.Goals as goal

pub returns-in_default : goal.returns-in_default
returns-in_default c w s may h = none_crosses w c.args.told.now c.args.a.0 c.args.u.0 s may (ap (λ o. is_some o && sets_cross s c.args.u.0) (c.in_default.ensures w s h.names)) h

pub returns-in_default-crossed : goal.returns-in_default-crossed
returns-in_default-crossed c w s may h =
    let off : sets_cross s c.args.u.0 ≡ false = sym (own_crosses w c.in-Some.at c.args.u.0 c.index.result.now c.args.told.now.tale s h.names c.in-Some.ensures.0 c.in-Some.ensures.1) ∙ (ap crosses (sym c.index.ensures) ∙ c.in_default-crossed.ensures) in
    none_crosses w c.args.told.now c.args.a.0 c.args.u.0 s may (ap (λ (b : Bool). is_some (act_in c.args.u.0 s.acts) && b) off ∙ and_false (is_some (act_in c.args.u.0 s.acts))) h

pub returns : goal.returns
returns c w s may h =
    let here = begun_there w c.in-Some.at c.args.u.0 c.index.result.now c.args.told.now.tale s h.names c.in-Some.ensures.0 c.in-Some.ensures.1 in
    let now = crossing_now w c.in-Some.at c.args.u.0 c.index.result.now c.args.told.now.tale s h.names c.in-Some.ensures.0 c.in-Some.ensures.1 c.args.a.0 c.in-Some-crossed.behind c.index.result.now c.index.ensures c.in-Some-crossed.ensures.0 c.in-Some-crossed.ensures.1 in
    one_crosses w c.give_up.new.told c.args.a.0 c.args.u.0 _ _ s here now.1.0 now.1.1 (c.give_up.ensures w s c.args.u.0 may h c.in-Some.ensures.0 now.0)
