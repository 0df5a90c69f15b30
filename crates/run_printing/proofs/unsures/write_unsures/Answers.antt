use Rattle.std.proofs.Common.{◌≡◌, ◌+◌, false, [], ◌∷◌, ◌++◌, inl, refl, flat_map, map, sym, ap, ◌∙◌, subst, append-nil, arith}
use Rattle.std.specs.Io.KnownBytes.{Appends}
use Rattle.std.proofs.KnownBytes.{Appends-nil, Appends-trans}
use Rattle.std.proofs.lemmas.Grind.{flat_map-append}
use Rattle.core_events.specs.Meant.{event_meant}
use Rattle.protocol.specs.Report.{replied}
use Rattle.protocol.specs.Words.{is_among}
use Rattle.run_printing.specs.Printed.{IsBrokenOff, unanswered, unsure_line}
use Rattle.run_printing.proofs.Fronts.{lines_cut, lines_whole}
use Rattle.snap_outside.proofs.AtFault.{calls_join, surely}
use Rattle.run_printing.proofs.Unanswered.{open_at, unanswered_next, unanswered_behind}
use Rattle.run_printing.proofs.unsures.write_unsures.Goals as goal

pub returns-in_default-clause-lines : goal.returns-in_default-clause-lines
returns-in_default-clause-lines g c = inl ([], unanswered (map event_meant c.args.kept.now) c.args.count, refl, Appends-nil _)

pub returns-then-not-write_unsure-clause-lines : goal.returns-then-not-write_unsure-clause-lines
returns-then-not-write_unsure-clause-lines g c =
    let es = map event_meant c.args.kept.now in
    let n = c.loop-number.number in
    let none : is_among n (replied es) ≡ false =
    sym (c.in-Ok.ensures.answered n c.loop-number-test.true) ∙ open_at c.in-Ok.answered.items n c.index.result.now c.index.ensures c.if-index.false in
    let rest = unanswered_behind es n c.args.count c.loop-number-test.true none in
    lines_cut (unsure_line c.args.log) _ _ _ _ _ _ (unanswered es n) (n ∷ []) rest.0 _ rest.1 c.loop-number.invariant.taken c.loop-number.invariant.later
    (subst (λ bytes. IsBrokenOff (g.O.Sink.taken c.loop-number.out) (g.O.Sink.taken c.write_unsure.new.out) (g.O.Sink.faults c.loop-number.out) (g.O.Sink.faults c.write_unsure.new.out) bytes)
    (sym (append-nil (unsure_line c.args.log n))) (c.write_unsure.ensures.cut c.if-not-write_unsure.true))

pub returns-then-not-write_unsure-clause-once : goal.returns-then-not-write_unsure-clause-once
returns-then-not-write_unsure-clause-once g c = calls_join _ _ _ _ _ _ tt c.loop-number.invariant.once (surely _ _ _ _ (λ no. absurd no) c.write_unsure.ensures.once)

pub loop-number-preserved : goal.loop-number-preserved
loop-number-preserved g c =
    let es = map event_meant c.args.kept.now in
    let n = c.loop-number.number in
    let none : is_among n (replied es) ≡ false =
    sym (c.in-Ok.ensures.answered n c.loop-number-test.true) ∙ open_at c.in-Ok.answered.items n c.index.result.now c.index.ensures c.if-index.false in
    let line = unsure_line c.args.log in
    let more : flat_map line (unanswered es (n + 1)) ≡ _ =
    ap (flat_map line) (unanswered_next es n none) ∙ flat_map-append line (unanswered es n) (n ∷ []) ∙ ap (λ l. flat_map line (unanswered es n) ++ l) (append-nil (line n)) in record {
      taken = subst (Appends (g.O.Sink.taken c.args.out.now) (g.O.Sink.taken c.write_unsure.new.out)) (sym more)
          (Appends-trans _ _ _ _ _ c.loop-number.invariant.taken (c.write_unsure.ensures.whole c.if-not-write_unsure.false));
      later = omega (arith, c.loop-number.invariant.later, c.write_unsure.ensures.later);
      once = calls_join _ _ _ _ _ _ tt c.loop-number.invariant.once (surely _ _ _ _ (λ _. c.if-not-write_unsure.false) c.write_unsure.ensures.once);
    }

pub returns-clause-once : goal.returns-clause-once
returns-clause-once g c = surely _ _ _ _ (λ no. absurd no) c.loop-number.invariant.once

pub returns-clause-lines : goal.returns-clause-lines
returns-clause-lines g c =
    let es = map event_meant c.args.kept.now in
    let end : c.loop-number.number ≡ c.args.count = omega (arith, c.loop-number-test.false, c.loop-number.auto.number-end) in
    lines_whole (unsure_line c.args.log) _ _ _ _ (unanswered es c.args.count)
    (subst (λ n. Appends (g.O.Sink.taken c.args.out.now) (g.O.Sink.taken c.loop-number.out) (flat_map (unsure_line c.args.log) (unanswered es n))) end c.loop-number.invariant.taken)
