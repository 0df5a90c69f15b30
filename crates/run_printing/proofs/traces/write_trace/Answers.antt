use Rattle.std.proofs.Common.{◌≡◌, ◌+◌, ◌-◌, length, take, drop, sym, ap, ◌∙◌, subst, arith}
use Rattle.std.specs.Io.KnownBytes.{Appends}
use Rattle.std.proofs.KnownBytes.{Appends-trans}
use Rattle.std.proofs.lemmas.Result.{err_from_is_err_and}
use Rattle.snap_base.proofs.Options.{on_any_err}
use Rattle.trace_text.specs.Traces.{trace_of}
use Rattle.run_printing.specs.Printed.{traced_line}
use Rattle.snap_outside.proofs.AtFault.{calls_join, surely}
use Rattle.run_printing.proofs.Fronts.{lines_cut}
use Rattle.run_printing.proofs.Lines.{trace_more, events_cut}
use Rattle.run_printing.proofs.traces.write_trace.Goals as goal

pub returns-in_err-write_lines-clause-lines : goal.returns-in_err-write_lines-clause-lines
returns-in_err-write_lines-clause-lines g c =
    let es = c.args.kept.now in
    let at = c.loop-at.at in
    let n = (at + c.min-count.result) - at in
    on_any_err _ c.from_residual.result
    (lines_cut traced_line _ _ _ _ _ _ (take at es) (take n (drop at es)) (drop n (drop at es)) es (events_cut es at n) c.loop-at.invariant.taken c.loop-at.invariant.later
    c.in_err-write_lines.ensures.cut)

pub returns-in_err-write_lines-clause-once : goal.returns-in_err-write_lines-clause-once
returns-in_err-write_lines-clause-once g c =
    let p = err_from_is_err_and c.from_residual.result c.from_residual.ensures.1 in
    calls_join _ _ _ _ _ _ tt c.loop-at.invariant.once (surely _ _ _ _ (λ no is. no (cc (p.1, p.2, is))) c.in_err-write_lines.ensures.once)

pub loop-at-preserved : goal.loop-at-preserved
loop-at-preserved g c =
    let es = c.args.kept.now in
    let at = c.loop-at.at in
    let n = (at + c.min-count.result) - at in
    let on : at + n ≡ at + c.min-count.result = omega arith in record {
      within = omega (arith, c.min-count.ensures);
      taken = subst (Appends (g.T.Sink.taken c.args.trace.now) (g.T.Sink.taken c.write_lines.new.trace)) (sym (trace_more es at n) ∙ ap (λ m. trace_of (take m es)) on)
          (Appends-trans _ _ _ _ _ c.loop-at.invariant.taken c.in_ok-write_lines.ensures.whole);
      later = omega (arith, c.loop-at.invariant.later, c.write_lines.ensures.later);
      once = calls_join _ _ _ _ _ _ tt c.loop-at.invariant.once
          (record { quiet = λ _. c.in_ok-write_lines.ensures.once.quiet (λ is. cc is); none_late = c.in_ok-write_lines.ensures.once.none_late });
      none = λ e. let some : length es ≡ 0 = ap length e in let absurd : ⊥ = omega (arith, c.loop-at-test.true, some) in elim absurd [ ];
    }
