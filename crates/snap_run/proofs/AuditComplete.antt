-- Where nothing stands in the way of an audit, it says what the input is, or there was no memory.
use Rattle.std.proofs.Common.{◌≡◌, ◌⊎◌, inl, inr, ℕ, ◌<◌, List, length, Option, IfSome, refl, subst, arith}
use Rattle.command_words.specs.CommandLaws.{OneCommand}
use Rattle.snap_outside.specs.Causes.{Rose}
use Rattle.snap_report.specs.declared.audit_faults.AuditFault.{AuditFault}
use Rattle.snap_report.specs.declared.audit_faults.AuditFault.TheVariants as audit
use Rattle.snap_report.specs.declared.statuses.Status.{Status}
use Rattle.snap_report.specs.declared.statuses.Status.TheVariants as status
use Rattle.snap_run.proofs.InputLaws.{known_input}
use Rattle.snap_run.proofs.Outcomes.{run_not_audit, recover_not_audit, migrate_not_audit, gen_not_audit, bench_not_audit, audit_not_compact, audit_not_follow}
use Rattle.snap_run.specs.Answers.{IsAnswer, ran, recovered, generated, measured, migrated, compacted, followed, audited, refused}
use Rattle.snap_run.specs.Audits.{OfInput, IsAuditRefusal, audit_fault, audit_input, audit_memory, audit_read_fault, IsAuditAnswer, audit_done, audit_refused, audit_out_fault, IsAuditable}
use Rattle.snap_run.specs.Uses.{Use}
use Rattle.trace_audit.specs.AuditNos.{fault_meant}
use Rattle.trace_audit.specs.audit_words.Inputs.{InputFault, IsFirstFault, IsInOrder}

-- what the laws of input_laws say: an input in order has no fault, and any other one first fault at most
abbrev pub OrderHasNoFault : Type 0
OrderHasNoFault = (input : List ℕ) → IsInOrder input → (f : InputFault) → ¬ IsFirstFault input f

abbrev pub OneFirstFault : Type 0
OneFirstFault = (input : List ℕ) (f g : InputFault) → IsFirstFault input f → IsFirstFault input g → f ≡ g

-- faults that mean the same are one
same_fault : (f g : AuditFault) → fault_meant f ≡ fault_meant g → f ≡ g
same_fault audit.Parts audit.Parts e = refl
same_fault audit.Parts (audit.Text f) e = cc
same_fault audit.Parts (audit.Trace line) e = cc
same_fault audit.Parts (audit.Report line) e = cc
same_fault audit.Parts (audit.Clause clause at) e = cc
same_fault (audit.Text f) audit.Parts e = cc
same_fault (audit.Text f) (audit.Text g) e = cc
same_fault (audit.Text f) (audit.Trace line) e = cc
same_fault (audit.Text f) (audit.Report line) e = cc
same_fault (audit.Text f) (audit.Clause clause at) e = cc
same_fault (audit.Trace line) audit.Parts e = cc
same_fault (audit.Trace line) (audit.Text f) e = cc
same_fault (audit.Trace line) (audit.Trace other) e = cc
same_fault (audit.Trace line) (audit.Report other) e = cc
same_fault (audit.Trace line) (audit.Clause clause at) e = cc
same_fault (audit.Report line) audit.Parts e = cc
same_fault (audit.Report line) (audit.Text f) e = cc
same_fault (audit.Report line) (audit.Trace other) e = cc
same_fault (audit.Report line) (audit.Report other) e = cc
same_fault (audit.Report line) (audit.Clause clause at) e = cc
same_fault (audit.Clause clause at) audit.Parts e = cc
same_fault (audit.Clause clause at) (audit.Text f) e = cc
same_fault (audit.Clause clause at) (audit.Trace line) e = cc
same_fault (audit.Clause clause at) (audit.Report line) e = cc
same_fault (audit.Clause clause at) (audit.Clause other there) e = cc

module _ (one : OneCommand) (u : Use) (input : List ℕ) (may : IsAuditable u input) where
  -- what is said of the input holds of this one
  of_this : (P : List ℕ → Type 0) → OfInput u.reading P → P input
  of_this P of = subst P (known_input u.reading input of.0 may.known of.1 of.2) of.4

  -- it is not too long, and the source does not fail
  refused_so : (s : Status) → IsAuditRefusal u.reading s → ((fault : AuditFault) × (IsFirstFault input (fault_meant fault) × (s ≡ status.Audit fault))) ⊎ (s ≡ status.Memory)
  refused_so s (audit_fault fault of) = inl (fault, (of_this (λ input. IsFirstFault input (fault_meant fault)) of, refl))
  refused_so s (audit_input long) =
      let l = subst (λ (left : Option (List ℕ)). IfSome left (λ input. 8388608 < length input)) may.known long.1 in absurd (omega (arith, l, may.short))
  refused_so s audit_memory = inr refl
  refused_so s (audit_read_fault rose) = absurd (may.source rose)

  -- the answer is one of an audit
  audit_answer : (s : Status) → IsAnswer u s → IsAuditAnswer u.reading u.writing s
  audit_answer s (ran n seed run _) = absurd (run_not_audit one u.words n seed run may.audit)
  audit_answer s (recovered recover _ _ _ _) = absurd (recover_not_audit one u.words recover may.audit)
  audit_answer s (generated count seed gen _ _ _) = absurd (gen_not_audit one u.words count seed gen may.audit)
  audit_answer s (measured count seed n bench _ _) = absurd (bench_not_audit one u.words count seed n bench may.audit)
  audit_answer s (migrated migrate _ _ _ _) = absurd (migrate_not_audit one u.words migrate may.audit)
  audit_answer s (compacted compact _ _ _ _) = absurd (audit_not_compact one u.words may.audit compact)
  audit_answer s (followed j follow _ _ _ _) = absurd (audit_not_follow one u.words j may.audit follow)
  audit_answer s (audited _ _ a) = a
  audit_answer s (refused place is fault _ _) = absurd (fault.no_form (inr (inr (inr (inr (inr (inl may.audit)))))))

  module _ (never : OrderHasNoFault) where
    in_order : IsInOrder input → ¬ Rose u.writing.faults_before u.writing.faults_after → (s : Status) → IsAuditAnswer u.reading u.writing s → (s ≡ status.Done) ⊎ (s ≡ status.Memory)
    in_order order quiet s (audit_done of writes) = inl refl
    in_order order quiet s (audit_refused t refusal nothing) = elim (refused_so t refusal) [
      | inl found ↦ absurd (never input order (fault_meant found.0) found.1.0)
      | inr memory ↦ inr memory
    ]
    in_order order quiet s (audit_out_fault of front rose) = absurd (quiet rose)

    pub audited_in_order : IsInOrder input → ¬ Rose u.writing.faults_before u.writing.faults_after → (s : Status) → IsAnswer u s → (s ≡ status.Done) ⊎ (s ≡ status.Memory)
    audited_in_order order quiet s a = in_order order quiet s (audit_answer s a)

    module _ (once : OneFirstFault) (fault : AuditFault) (first : IsFirstFault input (fault_meant fault)) where
      faulty : (s : Status) → IsAuditAnswer u.reading u.writing s → (s ≡ status.Audit fault) ⊎ (s ≡ status.Memory)
      faulty s (audit_done of writes) = absurd (never input (of_this IsInOrder of) (fault_meant fault) first)
      faulty s (audit_refused t refusal nothing) = elim (refused_so t refusal) [
        | inl found ↦ inl (subst (λ (f : AuditFault). t ≡ status.Audit f) (same_fault found.0 fault (once input (fault_meant found.0) (fault_meant fault) found.1.0 first)) found.1.1)
        | inr memory ↦ inr memory
      ]
      faulty s (audit_out_fault of front rose) = absurd (never input (of_this IsInOrder of) (fault_meant fault) first)

      pub audited_with_fault : (s : Status) → IsAnswer u s → (s ≡ status.Audit fault) ⊎ (s ≡ status.Memory)
      audited_with_fault s a = faulty s (audit_answer s a)
