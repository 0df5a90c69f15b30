use Rattle.std.proofs.Common.{[], take, drop, reverse}
use Rattle.aml_check.specs.Checked.{methods_of}
use Rattle.aml_resume.specs.Pausing.{Pause}
use Rattle.aml_resume.specs.Machine.{Enters}
use Rattle.aml_resume.proofs.resumes.enter.Given as goal

abbrev pub invariant-loop-depth : goal.invariant-loop-depth
invariant-loop-depth l =
    (whole : Pause) → Enters (methods_of l._program) l.operations l._own l.path [] l.next l.fn.positions l.fn.body l._variables l._state l._statements whole
    → Enters (methods_of l._program) l.operations l._own (drop l.depth l.path) (reverse (take l.depth l.path)) l.next l.positions l.block l._variables l._state l._statements whole
