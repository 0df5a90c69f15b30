-- What a quiet run of a program's text prints is a report: the lines of its report are of a form.
use Rattle.std.specs.Prelude.{◌≡◌, refl, ℕ, ◌+◌, ◌*◌, ◌≤◌, Option, Some, None, List, [], ◌∷◌, ◌++◌, length, map}
use Rattle.std.specs.List.{AllByRecursion}
use Rattle.std.proofs.Common.{arith}
use Rattle.snap_base.specs.States.{IsState}
use Rattle.snap_base.specs.declared.transactions.State.{State}
use Rattle.snap_base.specs.declared.verdicts.Verdict.{Verdict}
use Rattle.snap_base.proofs.Lists.{all_join}
use Rattle.aml_slice.specs.aml_check.Closed.{IsClosedProgram}
use Rattle.aml_slice.specs.aml_tree.Tree.{CheckedMethod}
use Rattle.machine_laws.specs.Programs.{IsTextOf, with_code}
use Rattle.protocol.specs.Events.{Event, Settle}
use Rattle.protocol.specs.Fixed.{Fixed, Text}
use Rattle.protocol.specs.Report.{answer, replied, report}
use Rattle.protocol.specs.Runs.{reached}
use Rattle.protocol.specs.Verdicts.{verdict}
use Rattle.protocol_theorems.specs.Left.{most_events}
use Rattle.run_effects.specs.Laws.{settles}
use Rattle.audit_words.specs.Audited.{Audited}
use Rattle.audit_words.specs.Happenings.{seen}
use Rattle.audit_words.specs.Papers.{End, IsWellFormedLine}
use Rattle.audit_words.specs.Reports.{actor_lines, reply_line_of, reply_lines, report_lines}
use Rattle.audit_laws.specs.Fits.{AreInRange, VerdictsAreInRange}
use Rattle.audit_words.specs.Inputs.{language_of_methods}
use Rattle.audit_laws.proofs.LinesFit.{ReplyInRange, arguments_fit, lines_fit}

-- no more batches settle than there are events
settles_most : (es : List Event) → settles es ≤ length es
settles_most [] = omega arith
settles_most (Settle k ∷ es) = omega (arith, settles_most es)
settles_most (e ∷ es) = omega (arith, settles_most es)

-- ---- replies are in range

one_reply : (n : ℕ) (o : Option Verdict) → ((v : Verdict) → o ≡ Some v → AreInRange v) → AllByRecursion ReplyInRange (reply_line_of n o)
one_reply n None f = tt
one_reply n (Some v) f = (f v refl, tt)

replies_fit : {C : Type 0} (w : Fixed C) (es : List Event) → VerdictsAreInRange w es → (ns : List ℕ) → AllByRecursion ReplyInRange (reply_lines (map (answer (reached w es)) ns))
replies_fit w es h [] = tt
replies_fit w es h (n ∷ ns) =
    all_join ReplyInRange (reply_line_of n (verdict n (reached w es).book (reached w es).desk)) (reply_lines (map (answer (reached w es)) ns)) (one_reply n (verdict n (reached w es).book (reached w es).desk) (λ v e. h n v e)) (replies_fit w es h ns)

actors_fit : (a : ℕ) (states : List State) → AllByRecursion ReplyInRange (actor_lines a states)
actors_fit a [] = tt
actors_fit a (s ∷ states) = (tt, actors_fit (a + 1) states)

pub report_in_range : {C : Type 0} (w : Fixed C) (es : List Event) → VerdictsAreInRange w es → AllByRecursion ReplyInRange (report_lines w es)
report_in_range w es h =
    let more = report es (reached w es) in
    all_join ReplyInRange (reply_lines more.answers) (actor_lines 0 more.states ++ End more.committed more.aborted more.batches ∷ []) (replies_fit w es h (replied es))
    (all_join ReplyInRange (actor_lines 0 more.states) (End more.committed more.aborted more.batches ∷ []) (actors_fit 0 more.states) (tt, tt))

-- ---- in all

pub report_fits : (p : List CheckedMethod) (w : Text) (es : List Event) → IsClosedProgram p → IsTextOf p w → AllByRecursion IsState w.opening.states → length (seen (language_of_methods p).reads w es).settled ≡ settles es → length es ≤ most_events * length w.txs
    → VerdictsAreInRange (with_code p w) es → Audited (language_of_methods p) w es (report_lines (with_code p w) es) → AllByRecursion IsWellFormedLine (report_lines (with_code p w) es)
report_fits p w es closed is opens counted short range h =
    lines_fit p w es (report_lines (with_code p w) es) closed (arguments_fit p (length w.opening.states) w.txs is.asks) (record { each = opens; few = omega (arith, is.accepted.few_actors) })
    is.accepted.few_txs is.accepted.few_actors (omega (arith, counted, settles_most es, short, is.accepted.few_txs)) (report_in_range (with_code p w) es range) h
