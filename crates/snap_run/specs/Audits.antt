-- Why the command that says whether its input is the papers of a run answers what it answers.
use Rattle.std.specs.Prelude.{ℕ, ◌+◌, ◌<◌, ◌≤◌, List, ◌++◌, length, codes, Some, IfSome, ◌≡◌}
use Rattle.std.specs.Io.KnownBytes.{Consumes, IsAtEnd}
use Rattle.command_words.specs.Words.{IsAudit}
use Rattle.run_work.specs.Writings.{Writing, WritesNothing, Writes, WritesFront}
use Rattle.snap_outside.specs.Causes.{Rose}
use Rattle.snap_report.specs.Lines.{line_end}
use Rattle.snap_report.specs.declared.audit_faults.AuditFault.{AuditFault}
use Rattle.snap_report.specs.declared.statuses.Status.{Status}
use Rattle.snap_report.specs.declared.statuses.Status.TheVariants as status
use Rattle.snap_run.specs.Uses.{Reading, Use}
use Rattle.snap_work.specs.declared.faults.Limit.TheVariants as limit
use Rattle.snap_work.specs.declared.faults.WorkCause.TheVariants as cause
use Rattle.snap_work.specs.declared.limits.TheConstants.{LONGEST_WORK}
use Rattle.trace_audit.specs.AuditNos.{fault_meant}
use Rattle.trace_audit.specs.audit_words.Inputs.{IsInOrder, IsFirstFault}

-- the line that is printed where the input is in order
abbrev pub audit_ok : List ℕ
audit_ok = codes "audit ok" ++ line_end

-- The input was read to its end, what was read has no more bytes than an input may have, and P holds of it.
abbrev pub OfInput : Reading → (List ℕ → Type 0) → Type 0
OfInput r P = (bytes : List ℕ) × Consumes r.left_before r.left_after bytes × IsAtEnd r.left_after × (length bytes ≤ LONGEST_WORK) × P bytes

-- The input has more bytes than an input may have, and was read up to one byte more than that.
abbrev pub IsTooLong : Reading → Type 0
IsTooLong r =
    ((bytes : List ℕ) × Consumes r.left_before r.left_after bytes × (length bytes ≡ LONGEST_WORK + 1)) × IfSome r.left_before (λ input. LONGEST_WORK < length input)

-- why it does not say that the input is in order, where the output did not fail
pub data IsAuditRefusal (r : Reading) : Status → Type 0 where
  -- it is not: this is wrong with it first
  audit_fault : (fault : AuditFault) → OfInput r (λ input. IsFirstFault input (fault_meant fault)) → IsAuditRefusal r (status.Audit fault)
  -- the input is too long
  audit_input : IsTooLong r → IsAuditRefusal r (status.Input 0 (cause.Limit limit.Input (LONGEST_WORK + 1)))
  audit_memory : IsAuditRefusal r status.Memory
  -- the source failed
  audit_read_fault : Rose r.faults_before r.faults_after → IsAuditRefusal r status.ReadFault

-- the answers of the command that says whether its input is the papers of a run
pub data IsAuditAnswer (r : Reading) (out : Writing) : Status → Type 0 where
  audit_done : OfInput r IsInOrder → Writes out audit_ok → IsAuditAnswer r out status.Done
  audit_refused : (s : Status) → IsAuditRefusal r s → WritesNothing out → IsAuditAnswer r out s
  -- the output failed, and has taken a front of the line
  audit_out_fault : OfInput r IsInOrder → WritesFront out audit_ok → Rose out.faults_before out.faults_after → IsAuditAnswer r out status.OutFault

-- The words ask for an audit of this input, which is not too long; and the source does not fail.
pub record IsAuditable (u : Use) (input : List ℕ) : Type 0 where
  pub audit : IsAudit u.words
  pub known : u.reading.left_before ≡ Some input
  pub short : length input ≤ LONGEST_WORK
  pub source : ¬ Rose u.reading.faults_before u.reading.faults_after
