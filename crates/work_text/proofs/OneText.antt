-- A text is read as one thing.
use Rattle.std.proofs.Common.{◌≡◌, ◌⊎◌, ℕ, ◌+◌, ◌<◌, ◌≤◌, List, [], ◌∷◌, length, take, sym, ap, ◌∙◌, arith, inl, inr, subst}
use Rattle.std.specs.Prelude.{Option, Some, None, Ok, Err, Result, ◌==◌, codes}
use Rattle.std.specs.List.{count_by}
use Rattle.std.specs.Str.{IsUtf8}
use Rattle.std.proofs.lemmas.Bool.{cases_order}
use Rattle.std.proofs.Math.Seq.{take-length}
use Rattle.aml_parser.specs.declared.faults.TextFault.{TextFault}
use Rattle.aml_tree.specs.Tree.{TextMethod, CheckedMethod}
use Rattle.aml_tree.specs.Programs.{IsProgram, IsProgramText}
use Rattle.aml_parser.specs.Faults as text
use Rattle.aml_resolver.specs.declared.faults.CheckFault.{CheckFault}
use Rattle.aml_resolver.specs.Faults as check
use Rattle.aml_resolver.specs.Faults.{IsCheckedProgram}
use Rattle.aml_resolver.specs.Names.{checked_program}
use Rattle.aml_check.specs.Closed.{IsClosedProgram}
use Rattle.snap_base.specs.Lines.{lines}
use Rattle.snap_work.specs.declared.faults.ProgramCause.TheVariants as program_cause
use Rattle.snap_work.specs.declared.faults.WorkFault.{WorkFault}
use Rattle.snap_work.specs.declared.faults.WorkCause.{WorkCause}
use Rattle.snap_work.specs.declared.faults.WorkCause.TheVariants as cause
use Rattle.work_text.specs.Lines.{Line, words, text_of, numbered, said, up_to_end}
use Rattle.work_text.specs.Readings.{fault, gives, ◌>>=◌}
use Rattle.work_text.specs.Settings as setting
use Rattle.snap_work.specs.Works.{Work}
use Rattle.work_text.specs.Actors.{actor}
use Rattle.work_text.specs.Transactions.{transaction}
use Rattle.work_text.specs.Reads.{exactly, line, IsProgramFault, program_text, program_lines, first_is_actor, transactions, tail, work_with, reads_lines, EndsUtf8, not_utf8, Reads}
use Rattle.work_text.proofs.OneOf.{IsOne, one_gives, one_fails, one_whether, one_then, one_line, ok_parts, ok_same, line_ok, same_fault}
use Rattle.work_text.proofs.OneLine.{one_setting, one_exactly, one_actor}
use Rattle.work_text.proofs.OneAsked.{AreToldApart, one_transaction}

-- ---- the program

abbrev pub AreClosed : Type 0
AreClosed = (p : List TextMethod) (c : List CheckedMethod) → IsProgram p → IsCheckedProgram p c → IsClosedProgram c

-- a text spells one program, has one first fault, and not both; and a checked program is closed
pub record TextLaws : Type 0 where
  pub program : (bytes : List ℕ) (p q : List TextMethod) → IsProgramText bytes p → IsProgramText bytes q → p ≡ q
  pub first : (bytes : List ℕ) (f g : TextFault) → text.IsFirstTextFault bytes f → text.IsFirstTextFault bytes g → f ≡ g
  pub either : (bytes : List ℕ) (f : TextFault) (p : List TextMethod) → text.IsFirstTextFault bytes f → ¬ IsProgramText bytes p
  pub closed : AreClosed

abbrev IsNoProgram : ℕ → List ℕ → ℕ → WorkCause → Type 0
IsNoProgram before bytes line why =
    ((f : TextFault) × text.IsFirstTextFault bytes f × (line ≡ before + f.line) × (why ≡ cause.Program (program_cause.Text f.cause f.column)))
    ⊎ ((p : List TextMethod) × IsProgramText bytes p × (f : CheckFault) × check.IsFirstCheckFault p f × (line ≡ before + f.line) × (why ≡ cause.Program (program_cause.Check f.cause)))

no_program : (before : ℕ) (bytes : List ℕ) (line : ℕ) (why : WorkCause) → IsProgramFault before bytes line why → IsNoProgram before bytes line why
no_program before bytes line (cause.Program (program_cause.Text c column)) h = inl (h.0, h.1, h.2, ap (λ x. cause.Program (program_cause.Text x column)) h.3 ∙ ap (λ n. cause.Program (program_cause.Text h.0.cause n)) h.4)
no_program before bytes line (cause.Program (program_cause.Check c)) h = inr (h.0, h.1, h.2, h.3, h.4, ap (λ x. cause.Program (program_cause.Check x)) h.5)
no_program before bytes line cause.NotUtf8 h = absurd h
no_program before bytes line cause.BadHeader h = absurd h
no_program before bytes line cause.BadActor h = absurd h
no_program before bytes line cause.BadTx h = absurd h
no_program before bytes line (cause.Limit which found) h = absurd h
no_program before bytes line cause.RootNotDeclared h = absurd h

program_or_not : (laws : TextLaws) (before : ℕ) (bytes : List ℕ) (p : List TextMethod) (line : ℕ) (why : WorkCause) → IsProgramText bytes p → check.program_faults p ≡ [] → IsNoProgram before bytes line why → ⊥
program_or_not laws before bytes p line why h none (inl f) = laws.either bytes f.0 p f.1 h
program_or_not laws before bytes p line why h none (inr f) =
    let same : f.0 ≡ p = laws.program bytes f.0 p f.1 h in
    cc (sym none, sym (ap check.program_faults same), f.3.1)

head_same : (f g : CheckFault) (fs gs : List CheckFault) → f ∷ fs ≡ g ∷ gs → f ≡ g
head_same f g fs gs e = cc

one_no_program : (laws : TextLaws) (before : ℕ) (bytes : List ℕ) (f g : WorkFault) → IsNoProgram before bytes f.line f.cause → IsNoProgram before bytes g.line g.cause → f ≡ g
one_no_program laws before bytes f g (inl h) (inl k) =
    let same : h.0 ≡ k.0 = laws.first bytes h.0 k.0 h.1 k.1 in
    same_fault f g (h.2 ∙ ap (λ (t : TextFault). before + t.line) same ∙ sym k.2) (h.3 ∙ ap (λ (t : TextFault). cause.Program (program_cause.Text t.cause t.column)) same ∙ sym k.3)
one_no_program laws before bytes f g (inl h) (inr k) = absurd (laws.either bytes h.0 k.0 h.1 k.1)
one_no_program laws before bytes f g (inr h) (inl k) = absurd (laws.either bytes k.0 h.0 k.1 h.1)
one_no_program laws before bytes f g (inr h) (inr k) =
    let tree : h.0 ≡ k.0 = laws.program bytes h.0 k.0 h.1 k.1 in
    let same : h.2 ≡ k.2 = head_same h.2 k.2 h.3.0 k.3.0 (sym h.3.1 ∙ ap check.program_faults tree ∙ k.3.1) in
    same_fault f g (h.4 ∙ ap (λ (t : CheckFault). before + t.line) same ∙ sym k.4) (h.5 ∙ ap (λ (t : CheckFault). cause.Program (program_cause.Check t.cause)) same ∙ sym k.5)

program_same : (laws : TextLaws) (before : ℕ) (bytes : List ℕ) (r s : Result (List CheckedMethod) WorkFault) → program_text before bytes r → program_text before bytes s → r ≡ s
program_same laws before bytes (Ok c) (Ok d) h k =
    let tree : h.0 ≡ k.0 = laws.program bytes h.0 k.0 h.1 k.1 in
    ap (λ (x : List CheckedMethod). Ok x) (h.2.resolved ∙ ap checked_program tree ∙ sym k.2.resolved)
program_same laws before bytes (Ok c) (Err f) h k = absurd (program_or_not laws before bytes h.0 f.line f.cause h.1 h.2.faultless (no_program before bytes f.line f.cause k))
program_same laws before bytes (Err f) (Ok d) h k = absurd (program_or_not laws before bytes k.0 f.line f.cause k.1 k.2.faultless (no_program before bytes f.line f.cause h))
program_same laws before bytes (Err f) (Err g) h k = ap (λ (x : WorkFault). Err x) (one_no_program laws before bytes f g (no_program before bytes f.line f.cause h) (no_program before bytes g.line g.cause k))

one_program : (laws : TextLaws) (last before : ℕ) (up : Option (List (List ℕ) × List Line)) → IsOne (program_lines last before up)
one_program laws last before None = one_fails last cause.BadHeader
one_program laws last before (Some cut) =
    one_then (program_text before (text_of cut.0)) (λ p. gives (p, cut.1)) (record { same = program_same laws before (text_of cut.0) }) (λ p h. one_gives (p, cut.1))

pub closed_lines : AreClosed → (last before : ℕ) (up : Option (List (List ℕ) × List Line)) (p : List CheckedMethod × List Line) → program_lines last before up (Ok p) → IsClosedProgram p.0
closed_lines closed last before None p h = cc
closed_lines closed last before (Some cut) p h =
    let x = ok_parts (program_text before (text_of cut.0)) (λ q. gives (q, cut.1)) p h in
    let same : p ≡ (x.0, cut.1) = ok_same p (x.0, cut.1) x.2 in
    subst IsClosedProgram (sym (ap (λ (z : List CheckedMethod × List Line). z.0) same)) (closed x.1.0 x.0 x.1.1.program x.1.2)

-- ---- the lines behind the number of actors

one_transactions : (p : List CheckedMethod) (count : ℕ) → AreToldApart p count → (before : ℕ) (ls : List Line) → IsOne (transactions p count before ls)
one_transactions p count apart before [] = one_gives []
one_transactions p count apart before (l ∷ ls) =
    one_then (transaction p count before l) (λ tx. transactions p count (before + 1) ls >>= λ more. gives (tx ∷ more)) (one_transaction p count before l apart)
    (λ tx h. one_then (transactions p count (before + 1) ls) (λ more. gives (tx ∷ more)) (one_transactions p count apart (before + 1) ls) (λ more k. one_gives (tx ∷ more)))

one_tail : (p : List CheckedMethod) (count : ℕ) → AreToldApart p count → (last : Option ℕ) (ls : List Line) → IsOne (tail p count last ls)
one_tail p count apart last [] = one_gives ([], [])
one_tail p count apart last (l ∷ ls) =
    one_whether (first_is_actor (words l.bytes)) (actor count last l >>= λ n. tail p count (Some n.actor) ls >>= λ more. gives (n ∷ more.0, more.1)) (transactions p count 0 (l ∷ ls) >>= λ txs. gives ([], txs))
    (one_then (actor count last l) (λ n. tail p count (Some n.actor) ls >>= λ more. gives (n ∷ more.0, more.1)) (one_actor count last l apart.few)
    (λ n h. one_then (tail p count (Some n.actor) ls) (λ more. gives (n ∷ more.0, more.1)) (one_tail p count apart (Some n.actor) ls) (λ more k. one_gives (n ∷ more.0, more.1))))
    (one_then (transactions p count 0 (l ∷ ls)) (λ txs. gives ([], txs)) (one_transactions p count apart 0 (l ∷ ls)) (λ txs h. one_gives ([], txs)))

-- ---- the lines

pub in_range : (s : setting.Setting) (last : ℕ) (ls : List Line) (n : ℕ × List Line) → line last ls (setting.setting s) (Ok n) → (1 ≤ n.0) × (n.0 ≤ s.most)
in_range s last ls n h = let found = line_ok last ls (setting.setting s) n h in (found.1.1, found.1.2)

one_lines : (laws : TextLaws) (last : ℕ) (ls : List Line) → IsOne (reads_lines last ls)
one_lines laws last ls =
    one_then _ _ (one_line last ls (exactly (codes "snapper 1")) (one_exactly (codes "snapper 1"))) (λ header h0.
    one_then _ _ (one_line last header.1 (setting.setting setting.coordinators) (one_setting setting.coordinators)) (λ c h1.
    one_then _ _ (one_line last c.1 (setting.setting setting.logs) (one_setting setting.logs)) (λ l h2.
    one_then _ _ (one_line last l.1 (setting.setting setting.batch) (one_setting setting.batch)) (λ b h3.
    one_then _ _ (one_line last b.1 (setting.setting setting.batches) (one_setting setting.batches)) (λ s h4.
    one_then _ _ (one_line last s.1 (setting.setting setting.acts) (one_setting setting.acts)) (λ a h5.
    one_then _ _ (one_line last a.1 (exactly (codes "program")) (one_exactly (codes "program"))) (λ begin h6.
    one_then _ _ (one_program laws last begin.0 (up_to_end begin.1)) (λ p h7.
    one_then _ _ (one_line last p.1 (setting.setting setting.actors) (one_setting setting.actors)) (λ n h8.
    one_then _ _ (one_tail p.0 n.0 (record { distinct = (closed_lines laws.closed last begin.0 (up_to_end begin.1) p h7).distinct; few = (in_range setting.actors last p.1 n h8).1 }) None (said n.1)) (λ t h9.
    one_gives (work_with (record { coordinators = c.0; logs = l.0; batch = b.0; batches = s.0; acts = a.0; program = p.0; actors = n.0 }) t.0 t.1)))))))))))

-- ---- the text

one_end : (bytes : List ℕ) (a b : ℕ) → EndsUtf8 bytes a → EndsUtf8 bytes b → (a ≡ b) ⊎ ((a < b) ⊎ (b < a)) → a ≡ b
one_end bytes a b h k (inl e) = e
one_end bytes a b h k (inr (inl lt)) = absurd (h.longest b lt (omega (arith, k.within)) k.front)
one_end bytes a b h k (inr (inr gt)) = absurd (k.longest a gt (omega (arith, h.within)) h.front)

utf8_same : (bytes : List ℕ) (r s : Result Work WorkFault) → not_utf8 bytes r → not_utf8 bytes s → r ≡ s
utf8_same bytes (Ok x) s h k = absurd h
utf8_same bytes (Err f) (Ok y) h k = absurd k
utf8_same bytes (Err f) (Err g) h k =
    let same : h.0 ≡ k.0 = one_end bytes h.0 k.0 h.1 k.1 (cases_order h.0 k.0) in
    ap (λ (x : WorkFault). Err x) (h.2 ∙ ap (λ at. fault (1 + count_by (λ b. b == 10) (take at bytes)) cause.NotUtf8) same ∙ sym k.2)

utf8_or_not : (bytes : List ℕ) (r : Result Work WorkFault) → IsUtf8 bytes → not_utf8 bytes r → ⊥
utf8_or_not bytes (Ok x) utf8 h = h
utf8_or_not bytes (Err f) utf8 h = h.1.longest (length bytes) h.1.within (omega arith) (rw (take-length bytes) utf8)

pub reads_one : (laws : TextLaws) (bytes : List ℕ) (r s : Result Work WorkFault) → Reads bytes r → Reads bytes s → r ≡ s
reads_one laws bytes r s (inl h) (inl k) = h.1 ∙ sym k.1
reads_one laws bytes r s (inl h) (inr (inl k)) = absurd (omega (arith, h.0, k.0))
reads_one laws bytes r s (inl h) (inr (inr k)) = absurd (omega (arith, h.0, k.0))
reads_one laws bytes r s (inr (inl h)) (inl k) = absurd (omega (arith, h.0, k.0))
reads_one laws bytes r s (inr (inl h)) (inr (inl k)) = utf8_same bytes r s h.1 k.1
reads_one laws bytes r s (inr (inl h)) (inr (inr k)) = absurd (utf8_or_not bytes r k.1 h.1)
reads_one laws bytes r s (inr (inr h)) (inl k) = absurd (omega (arith, h.0, k.0))
reads_one laws bytes r s (inr (inr h)) (inr (inl k)) = absurd (utf8_or_not bytes s h.1 k.1)
reads_one laws bytes r s (inr (inr h)) (inr (inr k)) = (one_lines laws (1 + length (lines bytes)) (numbered 1 (lines bytes))).same r s h.2 k.2
