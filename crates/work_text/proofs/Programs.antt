-- What is wrong with a program's text.
use Rattle.std.proofs.Common.{◌≡◌, ℕ, List, refl}
use Rattle.aml_parser.specs.declared.faults.TextFault.{TextFault}
use Rattle.aml_tree.specs.Tree.{TextMethod, CheckedMethod}
use Rattle.std.specs.Prelude.{Option, Some, Ok, Err, Result}
use Rattle.aml_tree.specs.Programs.{IsProgramText}
use Rattle.aml_parser.specs.Faults as text
use Rattle.aml_resolver.specs.declared.faults.CheckFault.{CheckFault}
use Rattle.aml_resolver.specs.Faults as check
use Rattle.snap_work.specs.declared.faults.ProgramCause.TheVariants as program_cause
use Rattle.snap_work.specs.declared.faults.WorkCause.TheVariants as cause
use Rattle.snap_work.specs.declared.faults.WorkNo.{WorkNo}
use Rattle.snap_work.specs.declared.faults.WorkNo.TheVariants as no
use Rattle.work_text.specs.Readings.{IsNo}
use Rattle.work_text.specs.Reads.{program_text, program_lines}
use Rattle.work_text.specs.Lines.{Line, text_of}
use Rattle.work_text.specs.Parts.{IsFaultBehind, IsTextNo}
use Rattle.aml_parser.specs.declared.faults.TextNo.{TextNo}
use Rattle.aml_parser.specs.declared.faults.TextNo.TheVariants as text_no
use Rattle.aml_tree.specs.declared.trees.Program.{Program}
use Rattle.aml_tokens.specs.declared.tokens.Word.{Word}

pub text_fails : (before : ℕ) (bytes : List ℕ) (f : TextFault) (r : WorkNo) → text.IsFirstTextFault bytes f → IsFaultBehind before f.line (cause.Program (program_cause.Text f.cause f.column)) r → IsNo (program_text before bytes) r
text_fails before bytes f (no.Fault g) h b = rw b.1 (f, h, b.0, refl, refl)
text_fails before bytes f no.Memory h b = absurd b

pub check_fails : (before : ℕ) (bytes : List ℕ) (p : List TextMethod) (f : CheckFault) (r : WorkNo) → IsProgramText bytes p → check.IsFirstCheckFault p f → IsFaultBehind before f.line (cause.Program (program_cause.Check f.cause)) r → IsNo (program_text before bytes) r
check_fails before bytes p f (no.Fault g) t h b = rw b.1 (p, t, f, h, b.0, refl)
check_fails before bytes p f no.Memory t h b = absurd b

pub program_found : (last before : ℕ) (bytes : List ℕ) (up : Option (List (List ℕ) × List Line)) (front : List (List ℕ)) (ls : List Line) (c : List CheckedMethod) → up ≡ Some (front, ls) → bytes ≡ text_of front → program_text before bytes (Ok c)
    → program_lines last before up (Ok (c, ls))
program_found last before bytes up front ls c e b h = rw e (Ok c, (rw b at h), refl)

pub program_fails : (last before : ℕ) (bytes : List ℕ) (up : Option (List (List ℕ) × List Line)) (front : List (List ℕ)) (ls : List Line) (r : WorkNo) → up ≡ Some (front, ls) → bytes ≡ text_of front → IsNo (program_text before bytes) r
    → IsNo (program_lines last before up) r
program_fails last before bytes up front ls (no.Fault f) e b h = rw e (Err f, (rw b at h), refl)
program_fails last before bytes up front ls no.Memory e b h = tt

pub text_wrong : (before : ℕ) (bytes : List ℕ) (why : TextNo) (r : WorkNo) → ((f : TextFault) → ◌≡◌ {A = Result (Program Word Word) TextNo} (Err why) (Err (text_no.Fault f)) → text.IsFirstTextFault bytes f) → IsTextNo before why r → IsNo (program_text before bytes) r
text_wrong before bytes (text_no.Fault f) r fault b = text_fails before bytes f r (fault f refl) b
text_wrong before bytes text_no.Memory r fault b = rw b tt
