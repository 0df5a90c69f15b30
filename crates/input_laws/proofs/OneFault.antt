-- What is wrong with an input first is one thing, and nothing is wrong with one that is in order.
use Rattle.std.specs.Prelude.{◌≡◌, ◌≢◌, refl, ℕ, List, [], ◌∷◌, ◌++◌, length, map}
use Rattle.std.specs.List.{AllByRecursion}
use Rattle.std.proofs.Common.{arith, sym, ap, subst, ◌∙◌}
use Rattle.snap_work.specs.Works.{Work}
use Rattle.snap_work.specs.declared.faults.WorkFault.{WorkFault}
use Rattle.core_events.specs.declared.events.Event as code
use Rattle.core_events.specs.Meant.{event_meant}
use Rattle.trace_text.specs.Traces.{IsTrace, IsFirstNoEvent}
use Rattle.work_text.specs.Reads.{IsWork, IsFirstWorkFault}
use Rattle.protocol.specs.Events.{Event}
use Rattle.protocol.specs.Fixed as fixed
use Rattle.audit_words.specs.Audited.{Audited, IsOff}
use Rattle.audit_words.specs.Clauses.{Language}
use Rattle.audit_words.specs.Inputs.{ArePapers, InputFault, Parts, Text, Trace, Report, Clause, IsFirstFault, IsInOrder, first_text, language}
use Rattle.audit_words.specs.Papers.{AreParts, IsFirstNoLine, IsReport, IsWellFormedLine, LacksDivider, Line, line_text}

-- ---- the first line of a report that is of no form

no_cut : (none : List ℕ) (behind : List (List ℕ)) (before ls : List Line) → AllByRecursion IsWellFormedLine ls → ((l : Line) → IsWellFormedLine l → none ≢ line_text l) → map line_text ls ≡ map line_text before ++ none ∷ behind → ⊥
no_cut none behind [] [] h n e = absurd (cc e)
no_cut none behind [] (l ∷ ls) h n e = n l h.0 (sym (cc e))
no_cut none behind (b ∷ before) [] h n e = absurd (cc e)
no_cut none behind (b ∷ before) (l ∷ ls) h n e =
    let rest : map line_text ls ≡ map line_text before ++ none ∷ behind = cc e in
    no_cut none behind before ls h.1 n rest

pub report_or_line : (text : List ℕ) (ls : List Line) (n : ℕ) → IsReport text ls → IsFirstNoLine text n → ⊥
report_or_line text ls n r f = no_cut f.none f.behind f.before ls r.forms f.no_form (sym r.said ∙ f.cut)

one_cut : (none other : List ℕ) (behind others : List (List ℕ)) (before ls : List Line) → AllByRecursion IsWellFormedLine before → AllByRecursion IsWellFormedLine ls → ((l : Line) → IsWellFormedLine l → none ≢ line_text l) → ((l : Line) → IsWellFormedLine l → other ≢ line_text l)
    → map line_text before ++ none ∷ behind ≡ map line_text ls ++ other ∷ others → length before ≡ length ls
one_cut none other behind others [] [] h k n m e = refl
one_cut none other behind others [] (l ∷ ls) h k n m e = absurd (n l k.0 (cc e))
one_cut none other behind others (b ∷ before) [] h k n m e = absurd (m b h.0 (sym (cc e)))
one_cut none other behind others (b ∷ before) (l ∷ ls) h k n m e =
    let rest : map line_text before ++ none ∷ behind ≡ map line_text ls ++ other ∷ others = cc e in
    omega (arith, one_cut none other behind others before ls h.1 k.1 n m rest)

one_no_line : (text : List ℕ) (m n : ℕ) → IsFirstNoLine text m → IsFirstNoLine text n → m ≡ n
one_no_line text m n f g = omega (arith, f.number, g.number, one_cut f.none g.none f.behind g.behind f.before g.before f.forms g.forms f.no_form g.no_form (sym f.cut ∙ g.cut))

-- ---- what is known of the parts, and of each

abbrev pub OneDivision : Type 0
OneDivision = (input text trace report other_text other_trace other_report : List ℕ) → AreParts input text trace report → AreParts input other_text other_trace other_report → (text ≡ other_text) × (trace ≡ other_trace) × (report ≡ other_report)

abbrev pub NoLack : Type 0
NoLack = (input text trace report : List ℕ) → AreParts input text trace report → ¬ LacksDivider input

abbrev pub OneRun : Type 0
OneRun = (input : List ℕ) (v w : Work) (ds es : List Event) (ks ls : List Line) → ArePapers input v ds ks → ArePapers input w es ls → (v ≡ w) × (ds ≡ es) × (ks ≡ ls)

abbrev pub OneWork : Type 0
OneWork = (text : List ℕ) (v w : Work) → IsWork text v → IsWork text w → v ≡ w

abbrev pub OneTrace : Type 0
OneTrace = (text : List ℕ) (es fs : List code.Event) → IsTrace text es → IsTrace text fs → es ≡ fs

abbrev pub OneReport : Type 0
OneReport = (text : List ℕ) (ls ms : List Line) → IsReport text ls → IsReport text ms → ls ≡ ms

abbrev pub FaultOrWork : Type 0
FaultOrWork = (text : List ℕ) (f : WorkFault) (w : Work) → IsFirstWorkFault text f → ¬ IsWork text w

abbrev pub TraceOrLine : Type 0
TraceOrLine = (text : List ℕ) (es : List code.Event) (n : ℕ) → IsTrace text es → ¬ IsFirstNoEvent text n

-- ---- the papers

pub same_run : OneDivision → OneWork → OneTrace → OneReport → OneRun
same_run parts work trace report input v w ds es ks ls p q =
    let same = parts input p.text p.trace p.report q.text q.trace q.report p.parts q.parts in (
      work q.text v w (subst (λ (z : List ℕ). IsWork z v) same.0 p.is_work) q.is_work,
      p.meant ∙ (ap (map event_meant) (trace q.trace p.events q.events (subst (λ (z : List ℕ). IsTrace z p.events) same.1 p.is_trace) q.is_trace) ∙ sym q.meant),
      report q.report ks ls (subst (λ (z : List ℕ). IsReport z ks) same.2 p.is_report) q.is_report,
    )

-- ---- in order

-- a reader refuses a part of the input, in the order in which it is looked for
pub in_order_apart : OneDivision → NoLack → OneRun → FaultOrWork → TraceOrLine
    → ((p : Language) (w : fixed.Text) (es : List Event) (ls : List Line) (c a : ℕ) → Audited p w es ls → ¬ IsOff p w es ls c a)
    → (input : List ℕ) → IsInOrder input → (f : InputFault) → ¬ IsFirstFault input f
in_order_apart parts lack run faulty traced off input h Parts f = lack input h.papers.text h.papers.trace h.papers.report h.papers.parts f
in_order_apart parts lack run faulty traced off input h (Text g) (text, (trace, (report, (p, f)))) =
    let same = parts input h.papers.text h.papers.trace h.papers.report text trace report h.papers.parts p in
    faulty text g h.work f (subst (λ (z : List ℕ). IsWork z h.work) same.0 h.papers.is_work)
in_order_apart parts lack run faulty traced off input h (Trace n) (text, (trace, (report, (p, (w, (is_work, f)))))) =
    let same = parts input h.papers.text h.papers.trace h.papers.report text trace report h.papers.parts p in
    traced trace h.papers.events n (subst (λ (z : List ℕ). IsTrace z h.papers.events) same.1 h.papers.is_trace) f
in_order_apart parts lack run faulty traced off input h (Report n) (text, (trace, (report, (p, (w, (es, (is_work, is_trace, f))))))) =
    let same = parts input h.papers.text h.papers.trace h.papers.report text trace report h.papers.parts p in
    report_or_line report h.lines n (subst (λ (z : List ℕ). IsReport z h.lines) same.2 h.papers.is_report) f
in_order_apart parts lack run faulty traced off input h (Clause c a) (w, (es, (ls, (p, f)))) =
    let same = run input h.work w h.events es h.lines ls h.papers p in
    off (language w) (first_text w) es ls c a
    (subst (λ (z : Work). Audited (language z) (first_text z) es ls) same.0 (subst (λ (z : List Event). Audited (language h.work) (first_text h.work) z ls) same.1 (subst (λ (z : List Line). Audited (language h.work) (first_text h.work) h.events z) same.2 h.audited))) f

-- ---- one first fault

abbrev pub OneWorkFault : Type 0
OneWorkFault = (text : List ℕ) (f g : WorkFault) → IsFirstWorkFault text f → IsFirstWorkFault text g → f ≡ g

abbrev pub OneFirstLine : Type 0
OneFirstLine = (text : List ℕ) (m n : ℕ) → IsFirstNoEvent text m → IsFirstNoEvent text n → m ≡ n

abbrev pub OneAnswer : Type 0
OneAnswer = (p : Language) (w : fixed.Text) (es : List Event) (ls : List Line) (c a d b : ℕ) → IsOff p w es ls c a → IsOff p w es ls d b → (c ≡ d) × (a ≡ b)

-- what is known of each reading
pub record AreOne : Type 0 where
  pub parts : OneDivision
  pub lack : NoLack
  pub run : OneRun
  pub work_fault : OneWorkFault
  pub faulty : FaultOrWork
  pub first_line : OneFirstLine
  pub traced : TraceOrLine
  pub answer : OneAnswer

-- a part that is refused is not read
text_apart : AreOne → (input : List ℕ) (f : WorkFault) → IsFirstFault input (Text f) → (text trace report : List ℕ) (w : Work) → AreParts input text trace report → IsWork text w → ⊥
text_apart o input f (text, (trace, (report, (p, h)))) t u r w q k = o.faulty text f w h (subst (λ (z : List ℕ). IsWork z w) (sym (o.parts input text trace report t u r p q).0) k)

trace_apart : AreOne → (input : List ℕ) (n : ℕ) → IsFirstFault input (Trace n) → (text trace report : List ℕ) (es : List code.Event) → AreParts input text trace report → IsTrace trace es → ⊥
trace_apart o input n (text, (trace, (report, (p, (w, (is_work, h)))))) t u r es q k = o.traced trace es n (subst (λ (z : List ℕ). IsTrace z es) (sym (o.parts input text trace report t u r p q).1) k) h

report_apart : AreOne → (input : List ℕ) (n : ℕ) → IsFirstFault input (Report n) → (text trace report : List ℕ) (ls : List Line) → AreParts input text trace report → IsReport report ls → ⊥
report_apart o input n (text, (trace, (report, (p, (w, (es, (is_work, is_trace, h))))))) t u r ls q k = report_or_line report ls n (subst (λ (z : List ℕ). IsReport z ls) (sym (o.parts input text trace report t u r p q).2) k) h

same_text : AreOne → (input : List ℕ) (f g : WorkFault) → IsFirstFault input (Text f) → IsFirstFault input (Text g) → f ≡ g
same_text o input f g (text, (trace, (report, (p, h)))) (t, (u, (r, (q, k)))) = o.work_fault text f g h (subst (λ (z : List ℕ). IsFirstWorkFault z g) (sym (o.parts input text trace report t u r p q).0) k)

same_trace : AreOne → (input : List ℕ) (m n : ℕ) → IsFirstFault input (Trace m) → IsFirstFault input (Trace n) → m ≡ n
same_trace o input m n (text, (trace, (report, (p, (w, (is_work, h)))))) (t, (u, (r, (q, (v, (was_work, k)))))) =
    o.first_line trace m n h (subst (λ (z : List ℕ). IsFirstNoEvent z n) (sym (o.parts input text trace report t u r p q).1) k)

same_report : AreOne → (input : List ℕ) (m n : ℕ) → IsFirstFault input (Report m) → IsFirstFault input (Report n) → m ≡ n
same_report o input m n (text, (trace, (report, (p, (w, (es, (is_work, is_trace, h))))))) (t, (u, (r, (q, (v, (ds, (was_work, was_trace, k))))))) =
    one_no_line report m n h (subst (λ (z : List ℕ). IsFirstNoLine z n) (sym (o.parts input text trace report t u r p q).2) k)

same_clause : AreOne → (input : List ℕ) (c a d b : ℕ) → IsFirstFault input (Clause c a) → IsFirstFault input (Clause d b) → (c ≡ d) × (a ≡ b)
same_clause o input c a d b (v, (ds, (ks, (p, h)))) (w, (es, (ls, (q, k)))) =
    let same = o.run input v w ds es ks ls p q in
    o.answer (language w) (first_text w) es ls c a d b
    (subst (λ (z : Work). IsOff (language z) (first_text z) es ls c a) same.0 (subst (λ (z : List Event). IsOff (language v) (first_text v) z ls c a) same.1 (subst (λ (z : List Line). IsOff (language v) (first_text v) ds z c a) same.2 h))) k

pub same_fault : AreOne → (input : List ℕ) (f g : InputFault) → IsFirstFault input f → IsFirstFault input g → f ≡ g
same_fault o input Parts Parts h k = refl
same_fault o input Parts (Text g) h (t, (u, (r, (p, k)))) = absurd (o.lack input t u r p h)
same_fault o input Parts (Trace n) h (t, (u, (r, (p, k)))) = absurd (o.lack input t u r p h)
same_fault o input Parts (Report n) h (t, (u, (r, (p, k)))) = absurd (o.lack input t u r p h)
same_fault o input Parts (Clause d b) h (w, (es, (ls, (p, k)))) = absurd (o.lack input p.text p.trace p.report p.parts h)
same_fault o input (Text f) Parts (t, (u, (r, (p, h)))) k = absurd (o.lack input t u r p k)
same_fault o input (Text f) (Text g) h k = ap Text (same_text o input f g h k)
same_fault o input (Text f) (Trace n) h (t, (u, (r, (p, (w, (is_work, k)))))) = absurd (text_apart o input f h t u r w p is_work)
same_fault o input (Text f) (Report n) h (t, (u, (r, (p, (w, (es, (is_work, is_trace, k))))))) = absurd (text_apart o input f h t u r w p is_work)
same_fault o input (Text f) (Clause d b) h (w, (es, (ls, (p, k)))) = absurd (text_apart o input f h p.text p.trace p.report w p.parts p.is_work)
same_fault o input (Trace m) Parts (t, (u, (r, (p, h)))) k = absurd (o.lack input t u r p k)
same_fault o input (Trace m) (Text g) (t, (u, (r, (p, (w, (is_work, h)))))) k = absurd (text_apart o input g k t u r w p is_work)
same_fault o input (Trace m) (Trace n) h k = ap Trace (same_trace o input m n h k)
same_fault o input (Trace m) (Report n) h (t, (u, (r, (p, (w, (es, (is_work, is_trace, k))))))) = absurd (trace_apart o input m h t u r es p is_trace)
same_fault o input (Trace m) (Clause d b) h (w, (es, (ls, (p, k)))) = absurd (trace_apart o input m h p.text p.trace p.report p.events p.parts p.is_trace)
same_fault o input (Report m) Parts (t, (u, (r, (p, h)))) k = absurd (o.lack input t u r p k)
same_fault o input (Report m) (Text g) (t, (u, (r, (p, (w, (es, (is_work, is_trace, h))))))) k = absurd (text_apart o input g k t u r w p is_work)
same_fault o input (Report m) (Trace n) (t, (u, (r, (p, (w, (es, (is_work, is_trace, h))))))) k = absurd (trace_apart o input n k t u r es p is_trace)
same_fault o input (Report m) (Report n) h k = ap Report (same_report o input m n h k)
same_fault o input (Report m) (Clause d b) h (w, (es, (ls, (p, k)))) = absurd (report_apart o input m h p.text p.trace p.report ls p.parts p.is_report)
same_fault o input (Clause c a) Parts (w, (es, (ls, (p, h)))) k = absurd (o.lack input p.text p.trace p.report p.parts k)
same_fault o input (Clause c a) (Text g) (w, (es, (ls, (p, h)))) k = absurd (text_apart o input g k p.text p.trace p.report w p.parts p.is_work)
same_fault o input (Clause c a) (Trace n) (w, (es, (ls, (p, h)))) k = absurd (trace_apart o input n k p.text p.trace p.report p.events p.parts p.is_trace)
same_fault o input (Clause c a) (Report n) (w, (es, (ls, (p, h)))) k = absurd (report_apart o input n k p.text p.trace p.report ls p.parts p.is_report)
same_fault o input (Clause c a) (Clause d b) h k =
    let same = same_clause o input c a d b h k in
    ap (λ (z : ℕ). Clause z a) same.0 ∙ ap (λ (z : ℕ). Clause d z) same.1
