use Rattle.std.proofs.Common.{List, subst, sym}
use Rattle.aml_slice.specs.declared.saved.SavedFrame.{SavedFrame}
use Rattle.aml_slice.specs.Views.{WaitsOn}
use Rattle.aml_slice.proofs.Askings.{waits_stand, stand_waits}
use Rattle.aml_slice.proofs.saved.SavedFrames.stands_on.Goals as goal

pub returns : goal.returns
returns c =
    let W : List SavedFrame → Type 0 = λ fs. WaitsOn fs c.args.actor in (
      λ h. waits_stand c.args.self.now.frames.items c.args.self.now.variables.items c.args.self.now.path.items c.args.actor (subst W c.as_slice.ensures.value (c.waits_on.ensures.0 h)),
      λ h. c.waits_on.ensures.1 (subst W (sym c.as_slice.ensures.value) (stand_waits c.args.self.now.frames.items c.args.self.now.variables.items c.args.self.now.path.items c.args.actor h)),
    )
