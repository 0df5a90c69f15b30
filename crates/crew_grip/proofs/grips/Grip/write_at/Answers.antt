use Rattle.std.proofs.Common.{◌≡◌, ◌∙◌, length, slice_set, None, Some, ap, subst, arith}
use Rattle.std.proofs.lemmas.List.{length-set}
use Rattle.crew_parts.specs.Besides.{HasWritten}
use Rattle.crew_parts.specs.Shares.{BesideState}
use Rattle.crew_grip.proofs.ByNumber.{at_within, set_twice}
use Rattle.crew_grip.proofs.grips.Grip.write_at.Goals as goal

pub take_up-requires : goal.take_up-requires
take_up-requires g c = at_within c.args.self.now.besides c.args.part c.requires.0 c.requires.1.0

pub lay-requires : goal.lay-requires
lay-requires g c =
    let within = at_within c.args.self.now.besides c.args.part c.requires.0 c.requires.1.0 in
    let long = ap (λ h. length h.besides) c.take_up.ensures.left ∙ length-set c.args.self.now.besides c.args.part None in
    omega (arith, within, long)

pub returns : goal.returns
returns g c b there =
    let same : c.in-Some.beside ≡ b = one c.in-Some.beside b (c.in-Some.ensures.taken ∙ there) in (
      c.write-result.new.self,
      (
        subst (λ (x : BesideState). HasWritten x c.write-result.new.self c.args.line.now c.write-result.result) same c.write-result.ensures,
        c.lay.ensures ∙ (ap (λ h. record { hand = h.hand; besides = slice_set h.besides c.args.part (Some c.write-result.new.self) }) c.take_up.ensures.left
            ∙ ap (λ bs. record { hand = c.args.self.now.hand; besides = bs }) (set_twice c.args.self.now.besides c.args.part None (Some c.write-result.new.self))),
      ),
    ) where
      one : (x y : BesideState) → Some x ≡ Some y → x ≡ y
      one x y e = cc e
