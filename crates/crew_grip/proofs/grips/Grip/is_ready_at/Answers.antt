use Rattle.std.proofs.Common.{◌≡◌, None, Some, ap, sym, subst, ◌∙◌}
use Rattle.crew_grip.specs.Grips.{GripState}
use Rattle.crew_parts.specs.Besides.{IsSoundBeside}
use Rattle.crew_parts.specs.Shares.{BesideState}
use Rattle.turn_table.specs.Places.{at}
use Rattle.crew_grip.proofs.ByNumber.{got_none, got_some}
use Rattle.crew_grip.proofs.grips.Grip.is_ready_at.Goals as goal

none_some : {Y : Type 0} (x : BesideState) → None ≡ Some x → Y
none_some x e = absurd (cc e)

pub returns-in-Some-Some-clause-only : goal.returns-in-Some-Some-clause-only
returns-in-Some-Some-clause-only g c is = record {
  beside = c.in-Some-Some.beside;
  there =
      sym (ap (λ (g : GripState). at g.besides c.args.part) c.self.view_is)
      ∙ (got_some c.self.inside.besides.items c.deref.result.now c.args.part c.in-Some-Some.field-0.now c.deref.ensures.value c.in-Some-Some.ensures.lookup.0 c.in-Some-Some.ensures.lookup.1
      ∙ c.in-Some-Some.field-0-is);
  sound = c.is_sound.ensures.only is;
}

pub returns-in-Some-Some-clause-all : goal.returns-in-Some-Some-clause-all
returns-in-Some-Some-clause-all g c ready =
    let there =
    sym (ap (λ (g : GripState). at g.besides c.args.part) c.self.view_is)
    ∙ (got_some c.self.inside.besides.items c.deref.result.now c.args.part c.in-Some-Some.field-0.now c.deref.ensures.value c.in-Some-Some.ensures.lookup.0 c.in-Some-Some.ensures.lookup.1
    ∙ c.in-Some-Some.field-0-is) in
    c.is_sound.ensures.all (subst (IsSoundBeside c.args.logs c.args.part) (same ready.beside c.in-Some-Some.beside (sym ready.there ∙ there)) ready.sound) where
      same : (x y : BesideState) → Some x ≡ Some y → x ≡ y
      same x y e = cc e

pub returns-in-Some-None-clause-all : goal.returns-in-Some-None-clause-all
returns-in-Some-None-clause-all g c ready =
    let there =
    sym (ap (λ (g : GripState). at g.besides c.args.part) c.self.view_is)
    ∙ (got_some c.self.inside.besides.items c.deref.result.now c.args.part c.in-Some-None.field-0.now c.deref.ensures.value c.in-Some-None.ensures.lookup.0 c.in-Some-None.ensures.lookup.1
    ∙ c.in-Some-None.field-0-is) in
    none_some ready.beside (sym there ∙ ready.there)

pub returns-in-None-clause-all : goal.returns-in-None-clause-all
returns-in-None-clause-all g c ready =
    let there =
    sym (ap (λ (g : GripState). at g.besides c.args.part) c.self.view_is)
    ∙ got_none c.self.inside.besides.items c.deref.result.now c.args.part c.deref.ensures.value c.in-None.ensures.lookup.0 in
    none_some ready.beside (sym there ∙ ready.there)
