use Rattle.std.proofs.Common.{◌≡◌, ◌∙◌, slice_set, Some, ap, sym, subst, arith, rules}
use Rattle.crew_parts.specs.Besides.{HasAppended, MayAppendTo}
use Rattle.crew_parts.specs.Shares.{BesideState}
use Rattle.crew_grip.proofs.ByNumber.{at_or, at_within, set_twice}
use Rattle.crew_grip.proofs.outside.append_at.Goals as goal

one : (x y : BesideState) → Some x ≡ Some y → x ≡ y
one x y e = cc e

pub index_mut-requires : goal.index_mut-requires
index_mut-requires g c =
    let within = at_within c.args.besides.now.items c.args.part c.requires.0 c.requires.1.0 in
    omega (arith, within, c.args.besides.now.ok.0)

pub unreachable-requires : goal.unreachable-requires
unreachable-requires g c =
    let within = at_within c.args.besides.now.items c.args.part c.requires.0 c.requires.1.0 in
    let taken = c.take.ensures.value ∙ at_or c.args.besides.now.items c.args.part c.index_mut.result.now within (search rules) in
    c.in_default.not-Some c.requires.0 (taken ∙ c.requires.1.0)

pub append-result-requires : goal.append-result-requires
append-result-requires g c =
    let within = at_within c.args.besides.now.items c.args.part c.requires.0 c.requires.1.0 in
    let taken = c.in-Some.ensures.value ∙ at_or c.args.besides.now.items c.args.part c.index_mut.result.now within (search rules) in
    subst (λ (x : BesideState). MayAppendTo x c.args.pieces.now) (sym (one c.in-Some.beside c.requires.0 (taken ∙ c.requires.1.0))) c.requires.1.1

pub index_mut-requires-2 : goal.index_mut-requires-2
index_mut-requires-2 g c =
    let within = at_within c.args.besides.now.items c.args.part c.requires.0 c.requires.1.0 in
    omega (arith, within, c.args.besides.now.ok.0)

pub returns : goal.returns
returns g c b there =
    let within = at_within c.args.besides.now.items c.args.part c.requires.0 c.requires.1.0 in
    let taken = c.in-Some.ensures.value ∙ at_or c.args.besides.now.items c.args.part c.index_mut.result.now within (search rules) in (
      c.append-result.new.self,
      (
        subst (λ (x : BesideState). HasAppended x c.append-result.new.self c.args.pieces.now c.append-result.result) (one c.in-Some.beside b (taken ∙ there)) c.append-result.ensures,
        set_twice c.args.besides.now.items c.args.part c.take.new.self c.replace-none.new.self ∙ ap (slice_set c.args.besides.now.items c.args.part) c.replace-none.ensures.after,
      ),
    )
