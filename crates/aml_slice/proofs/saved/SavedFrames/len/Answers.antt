use Rattle.std.proofs.Common.{◌≡◌, length, arith, sym, ◌∙◌}
use Rattle.aml_slice.proofs.KeptFrames.{number_of_frames}
use Rattle.aml_slice.proofs.saved.SavedFrames.len.Goals as goal

pub returns-clause-meant : goal.returns-clause-meant
returns-clause-meant c =
    let here : c.len.result ≡ length c.args.self.now.frames.items = omega (arith, c.len.ensures) in
    here ∙ sym (number_of_frames c.args.self.now.frames.items c.args.self.now.variables.items c.args.self.now.path.items)
