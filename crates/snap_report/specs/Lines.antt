-- The lines of the output, byte for byte. A line ends with a line feed.
use Rattle.std.specs.Prelude.{ℕ, zero, suc, ◌+◌, ℤ, pos, negsuc, Bool, true, false, if◌then◌else◌, Option, None, Some, List, [], ◌∷◌, ◌++◌, codes}
use Rattle.std.specs.List.{flat_map}
use Rattle.std.specs.Fmt.{decimal, signed_decimal}
use Rattle.snap_base.specs.declared.ids.Bid.{Bid}
use Rattle.snap_base.specs.declared.ids.Tid.{Tid}
use Rattle.snap_base.specs.declared.verdicts.Place.{Place}
use Rattle.snap_base.specs.declared.verdicts.Verdict.{Verdict}
use Rattle.snap_base.specs.Text.{place_text, verdict_text}
use Rattle.snap_base.specs.declared.transactions.State.{State}
use Rattle.aml_tokens.specs.declared.tokens.TextCause.{TextCause}
use Rattle.aml_tokens.specs.declared.tokens.TextCause.TheVariants as text
use Rattle.aml_resolver.specs.declared.faults.CheckCause.{CheckCause}
use Rattle.aml_resolver.specs.declared.faults.CheckCause.TheVariants as check
use Rattle.snap_work.specs.declared.faults.ProgramCause.{ProgramCause}
use Rattle.snap_work.specs.declared.faults.ProgramCause.TheVariants as program
use Rattle.snap_work.specs.declared.faults.WorkCause.{WorkCause}
use Rattle.snap_work.specs.declared.faults.WorkCause.TheVariants as work
use Rattle.snap_recover.specs.declared.openings.Opening.{Opening}
use Rattle.snap_recover.specs.declared.openings.Kept.{Kept}
use Rattle.snap_recover.specs.declared.openings.Kept.TheVariants as kept
use Rattle.snap_recover.specs.declared.causes.LogCause.{LogCause}
use Rattle.snap_recover.specs.declared.causes.LogCause.TheVariants as cause
use Rattle.snap_report.specs.declared.audit_faults.AuditFault.{AuditFault}
use Rattle.snap_report.specs.declared.audit_faults.AuditFault.TheVariants as audit
use Rattle.snap_report.specs.declared.statuses.Status.{Status}
use Rattle.snap_report.specs.declared.statuses.Status.TheVariants as status

-- a line feed
abbrev pub line_end : List ℕ
line_end = 10 ∷ []

-- ---- replies

-- the line of a reply to the transaction at this place of the text
abbrev pub reply_text : ℕ → Verdict → List ℕ
reply_text tx verdict = codes "tx " ++ (decimal tx ++ (codes " " ++ (verdict_text verdict ++ line_end)))

-- ---- actors

abbrev pub is_zero : ℤ → Bool
is_zero (pos zero) = true
is_zero (pos (suc n)) = false
is_zero (negsuc n) = false

-- z and what stands behind it, without zeros at the end
abbrev pub onto_shown : ℤ → List ℤ → List ℤ
onto_shown z [] = if is_zero z then [] else z ∷ []
onto_shown z (y ∷ ys) = z ∷ y ∷ ys

-- without the zeros at the end
abbrev pub without_last_zeros : List ℤ → List ℤ
without_last_zeros [] = []
without_last_zeros (z ∷ zs) = onto_shown z (without_last_zeros zs)

-- the fields up to the last that is not 0, and at least one
abbrev pub shown_fields : List ℤ → List ℤ
shown_fields [] = []
shown_fields (z ∷ zs) = z ∷ without_last_zeros zs

-- the line of an actor
abbrev pub actor_text : ℕ → State → List ℕ
actor_text actor s = codes "actor " ++ (decimal actor ++ (flat_map (λ z. codes " " ++ signed_decimal z) (shown_fields s.0) ++ line_end))

-- the actors' lines, from this number on
abbrev pub actors_text : ℕ → List State → List ℕ
actors_text actor [] = []
actors_text actor (s ∷ states) = actor_text actor s ++ actors_text (actor + 1) states

-- ---- the end

-- the line of a run's end
abbrev pub end_text : ℕ → ℕ → ℕ → List ℕ
end_text committed aborted batches =
    codes "end committed " ++ (decimal committed ++ (codes " aborted " ++ (decimal aborted ++ (codes " batches " ++ (decimal batches ++ line_end)))))

-- how many batches and undeclared transactions are committed, and the next numbers
abbrev pub recovered_text : ℕ → ℕ → Opening → List ℕ
recovered_text batches acts o =
    codes "recovered batches " ++ (decimal batches ++ (codes " acts " ++ (decimal acts
    ++ (codes " next " ++ (decimal o.next_tid.0 ++ (codes " " ++ (decimal o.next_bid.0 ++ (codes " " ++ (decimal o.next_c ++ line_end)))))))))

-- ---- what is kept

-- a value, where it is known
abbrev pub value_text : Option ℤ → List ℕ
value_text None = codes "unknown"
value_text (Some value) = signed_decimal value

-- the line of a transaction that is kept
abbrev pub kept_text : Place → Option ℤ → List ℕ
kept_text place value = codes "kept " ++ (place_text place ++ (codes " " ++ (value_text value ++ line_end)))

-- the places of a transaction of a batch, and of one outside of batches
abbrev pub pact_place : Bid → Tid → Place
pact_place bid tid = record { batch = bid; side = 0; order = tid.0 }

abbrev pub act_place : Bid → ℕ → Place
act_place m c = record { batch = m; side = 1; order = c }

-- a batch's transactions with their values, which are known of all of them or of none
abbrev pub batch_text : Bid → List Tid → List ℤ → List ℕ
batch_text bid [] values = []
batch_text bid (tid ∷ tids) [] = kept_text (pact_place bid tid) None ++ batch_text bid tids []
batch_text bid (tid ∷ tids) (value ∷ values) = kept_text (pact_place bid tid) (Some value) ++ batch_text bid tids values

abbrev pub lines_of : Kept → List ℕ
lines_of (kept.Batch bid tids values) = batch_text bid tids values
lines_of (kept.Act tid m c value) = kept_text (act_place m c) value

-- all that is kept, in its order
abbrev pub all_kept_text : List Kept → List ℕ
all_kept_text committed = flat_map lines_of committed

-- ---- logs of format 1

-- how many were made ones of format 2
abbrev pub migrated_text : ℕ → List ℕ
migrated_text logs = codes "migrated " ++ (decimal logs ++ line_end)

-- ---- checkpoints

-- the generation to which logs are compacted
abbrev pub compacted_text : ℕ → List ℕ
compacted_text generation = codes "compacted " ++ (decimal generation ++ line_end)

-- ---- a follower

-- how many batches and undeclared transactions a follower has taken in
abbrev pub following_text : ℕ → ℕ → List ℕ
following_text batches acts = codes "following batches " ++ (decimal batches ++ (codes " acts " ++ (decimal acts ++ line_end)))

-- ---- the status

-- the program's exit status
abbrev pub status_number : Status → ℕ
status_number status.Done = 0
status_number (status.Usage word) = 1
status_number (status.Input line cause) = 2
status_number (status.Logs log offset c) = 3
status_number status.Memory = 4
status_number status.ReadFault = 5
status_number (status.LogFault log) = 6
status_number status.OutFault = 7
status_number status.TraceFault = 8
status_number (status.Audit fault) = 10
status_number (status.Compact logs) = 11

abbrev pub text_cause_text : TextCause → List ℕ
text_cause_text text.BadByte = codes "BadByte"
text_cause_text text.BadToken = codes "BadToken"
text_cause_text text.Unexpected = codes "Unexpected"
text_cause_text text.NumberRange = codes "NumberRange"
text_cause_text text.TooDeep = codes "TooDeep"
text_cause_text text.TooMany = codes "TooMany"

abbrev pub check_cause_text : CheckCause → List ℕ
check_cause_text check.UnknownName = codes "UnknownName"
check_cause_text check.Duplicate = codes "Duplicate"
check_cause_text check.ArgCount = codes "ArgCount"
check_cause_text check.NoReturn = codes "NoReturn"
check_cause_text check.ReadWrites = codes "ReadWrites"

-- of a program's cause, the name of what is wrong with the program
abbrev pub program_cause_text : ProgramCause → List ℕ
program_cause_text (program.Text c column) = text_cause_text c
program_cause_text (program.Check c) = check_cause_text c

abbrev pub cause_text : WorkCause → List ℕ
cause_text work.NotUtf8 = codes "NotUtf8"
cause_text work.BadHeader = codes "BadHeader"
cause_text (work.Program p) = program_cause_text p
cause_text work.BadActor = codes "BadActor"
cause_text work.BadTx = codes "BadTx"
cause_text (work.Limit which found) = codes "Limit"
cause_text work.RootNotDeclared = codes "RootNotDeclared"

abbrev pub log_cause_text : LogCause → List ℕ
log_cause_text cause.NotALog = codes "NotALog"
log_cause_text cause.Damage = codes "Damage"
log_cause_text cause.OldFormat = codes "OldFormat"
log_cause_text cause.BadRecord = codes "BadRecord"
log_cause_text cause.Stray = codes "Stray"
log_cause_text cause.Back = codes "Back"
log_cause_text cause.NoGenesis = codes "NoGenesis"
log_cause_text cause.TwoGenesis = codes "TwoGenesis"
log_cause_text (cause.LogCount kept found) = codes "LogCount"
log_cause_text (cause.Range k) = codes "Range"
log_cause_text (cause.Missing k) = codes "Missing"
log_cause_text (cause.Values k kept found) = codes "Values"
log_cause_text (cause.Spent number) = codes "Spent"
log_cause_text (cause.Differs what kept text) = codes "Differs"

-- the line of what is wrong with the input of an audit
abbrev pub audit_text : AuditFault → List ℕ
audit_text audit.Parts = codes "snapper: audit: Parts" ++ line_end
audit_text (audit.Text f) = codes "snapper: audit: Text " ++ (decimal f.line ++ (codes " " ++ (cause_text f.cause ++ line_end)))
audit_text (audit.Trace line) = codes "snapper: audit: Trace " ++ (decimal line ++ line_end)
audit_text (audit.Report line) = codes "snapper: audit: Report " ++ (decimal line ++ line_end)
audit_text (audit.Clause clause at) = codes "snapper: audit: Clause " ++ (decimal clause ++ (codes " " ++ (decimal at ++ line_end)))

-- the line of a status on standard error, and nothing for `Done`
abbrev pub status_text : Status → List ℕ
status_text status.Done = []
status_text (status.Usage word) = codes "snapper: usage: word " ++ (decimal word ++ line_end)
status_text (status.Input line cause) = codes "snapper: line " ++ (decimal line ++ (codes ": " ++ (cause_text cause ++ line_end)))
status_text (status.Logs log offset c) =
    codes "snapper: log " ++ (decimal log ++ (codes " at " ++ (decimal offset ++ (codes ": " ++ (log_cause_text c ++ line_end)))))
status_text status.Memory = codes "snapper: out of memory" ++ line_end
status_text status.ReadFault = codes "snapper: read fault" ++ line_end
status_text (status.LogFault log) = codes "snapper: log fault " ++ (decimal log ++ line_end)
status_text status.OutFault = codes "snapper: output fault" ++ line_end
status_text status.TraceFault = codes "snapper: trace fault" ++ line_end
status_text (status.Audit fault) = audit_text fault
status_text (status.Compact logs) = codes "snapper: compact: " ++ (decimal logs ++ (codes " logs" ++ line_end))
