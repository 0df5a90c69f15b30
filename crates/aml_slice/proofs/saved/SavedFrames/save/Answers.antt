use Rattle.std.proofs.Common.{length, vec_capacity}
use Rattle.aml_slice.specs.declared.saved.SavedFrame.{SavedFrame}
use Rattle.aml_slice.proofs.KeptFrames.{row_fits}
use Rattle.aml_slice.proofs.saved.SavedFrames.save.Goals as goal

pub put_behind-requires : goal.put_behind-requires
put_behind-requires c =
    record { room = row_fits (λ (f : SavedFrame). f.variables) c.args.self.now.frames.items (vec_capacity c.args.self.now.frames) (length c.args.self.now.variables.items) (vec_capacity c.args.self.now.variables) (length c.args.frame.now.activation.variables.items) c.requires.kept.variables c.requires.few c.requires.small.0 }

pub put_behind-requires-2 : goal.put_behind-requires-2
put_behind-requires-2 c =
    record { room = row_fits (λ (f : SavedFrame). f.levels) c.args.self.now.frames.items (vec_capacity c.args.self.now.frames) (length c.args.self.now.path.items) (vec_capacity c.args.self.now.path) (length c.args.frame.now.activation.path.items) c.requires.kept.path c.requires.few c.requires.small.1 }
