-- Whose batch committed has results for all its PACTs, and so no control runs in it.
use Rattle.std.specs.Prelude.{◌≡◌, refl, ℕ, ◌==◌, not, Bool, true, false, ◌&&◌, if◌then◌else◌, Option, Some, None, is_some, List, [], ◌∷◌, length, map, find}
use Rattle.std.specs.List.{AllByRecursion, list_any, list_all}
use Rattle.std.proofs.Common.{sym, ap, subst, inl, inr, ◌∙◌}
use Rattle.std.proofs.lemmas.Bool.{eqb-true, and_parts, or_cases, true≢false, not-true, false_from_ne_true}
use Rattle.snap_base.specs.declared.transactions.State.{State}
use Rattle.snap_base.specs.declared.transactions.Tx.{Tx}
use Rattle.snap_base.specs.declared.transactions.TxResult.{TxResult}
use Rattle.protocol.specs.Fixed.{Fixed, Next, Go, Ended, tx_at, is_pact}
use Rattle.protocol.specs.Parts.{Pact, Batch, Slot, Committing, Settled, OfBatch, OfAct, Entry, BatchEntry, ActEntry, Waiting, Outcome, Machine}
use Rattle.protocol.specs.Events.{Event, Form, End, Note, Commit, Settle, Abort, Trim}
use Rattle.protocol.specs.Words.{is_value, is_formed, is_committing, names_pact, batch_of, waiting_of, outcome_of, has_act, is_entry_of, who_on}
use Rattle.protocol.specs.Conditions.{IsAllowed, conditions}
use Rattle.protocol.specs.Effects.{after, cell_at}
use Rattle.protocol.specs.Facts.{Alone, Facts}
use Rattle.protocol.specs.OnDesk as desk
use Rattle.protocol.specs.History.{History}
use Rattle.protocol_laws.specs.Turns.{NotDone}
use Rattle.protocol_laws.specs.FromDesk.{is_pact_of, EntryOf, FromDesk}
use Rattle.protocol_laws.specs.Commits.{is_kept}
use Rattle.protocol_laws.specs.Marks.{Marked, Known}
use Rattle.protocol_laws.proofs.machine.MarksKept as marks
use Rattle.protocol_laws.proofs.machine.TurnsKept.{one_is}
use Rattle.protocol_laws.proofs.machine.ControlWalk.{AllControls}
use Rattle.protocol_laws.proofs.machine.TrailsKept.{Told}
use Rattle.protocol_laws.proofs.machine.Resting.{NoResult, NoneNoted}
use Rattle.protocol_laws.proofs.machine.RestsKept.{Rests, runs_undone}
use Rattle.protocol.specs.Rests.{IsTxIn}
use Rattle.protocol_laws.proofs.first.Lists.{all_found}
use Rattle.protocol_laws.proofs.first.Statuses.{committing_not_formed, if_bid}
use Rattle.protocol_laws.proofs.machine.MarksKept.{held_of}

abbrev pub has_results : List Pact → Bool
has_results ps = list_all (λ p. is_some p.result) ps

unfoldable pub Valued : {C : Type 0} → Machine C → Type 0
Valued s = (k : ℕ) (b : Batch) → batch_of k s.desk.batches ≡ Some b → is_formed b.stage ≡ false → has_results b.pacts ≡ true

noted : (t : ℕ) (r : TxResult) (ps : List Pact) → has_results ps ≡ true → has_results (map (desk.with_result t r) ps) ≡ true
noted t r [] h = h
noted t r (p ∷ ps) h = let q = and_parts (is_some p.result) (has_results ps) h in rw (by (p.tid == t) q.0, noted t r ps q.1) refl
  where
    by : (v : Bool) → is_some p.result ≡ true → is_some (if v then Some r else p.result) ≡ true
    by true g = refl
    by false g = g

values : (ps : List Pact) → list_all (λ p. is_value p.result) ps ≡ true → has_results ps ≡ true
values [] h = h
values (p ∷ ps) h = let q = and_parts (is_value p.result) (list_all (λ p. is_value p.result) ps) h in rw (by p.result q.0, values ps q.1) refl
  where
    by : (o : Option TxResult) → is_value o ≡ true → is_some o ≡ true
    by None g = absurd (true≢false (sym g))
    by (Some r) g = refl

same : (v : Bool) (f : Batch → Batch) (c b : Batch) → (f c).pacts ≡ c.pacts → (f c).stage ≡ c.stage → desk.change_if v f c ≡ b → (is_formed c.stage ≡ false → has_results c.pacts ≡ true) → is_formed b.stage ≡ false → has_results b.pacts ≡ true
same v f c b p q e h n = by v e
  where
    by : (v : Bool) → desk.change_if v f c ≡ b → has_results b.pacts ≡ true
    by true e = subst (λ z. has_results z.pacts ≡ true) e (rw p (h (ap is_formed (sym q) ∙ (ap (λ z. is_formed z.stage) e ∙ n))))
    by false e = subst (λ z. has_results z.pacts ≡ true) e (h (ap (λ z. is_formed z.stage) e ∙ n))

pub valued_kept : {C : Type 0} (w : Fixed C) (e : Event) (s : Machine C) → IsAllowed w e s → Valued s → Valued (after w e s)
unfolding Valued conditions after
valued_kept w (Form k) s ok h j b e n = elim (marks.found_more j b _ s.desk.batches e) [ inl q ↦ h j b q n | inr q ↦ absurd (true≢false (ap (λ z. is_formed z.stage) q.1 ∙ n)) ]
valued_kept {C} w (End t a) s ok h j b e n = by (has_act t (cell_at s a).entries) (outcome_of t (cell_at s a).outbox) e
  where
    result : (v : Bool) (r : TxResult) (ps : List Pact) → has_results ps ≡ true → has_results (if v then ps else map (desk.with_result t r) ps) ≡ true
    result true r ps g = g
    result false r ps g = noted t r ps g

    next : (x : Next C) → batch_of j (desk.noted_for t x s.desk.batches) ≡ Some b → has_results b.pacts ≡ true
    next (Go i y) e = h j b e n
    next (Ended r) e = let g = marks.found_mapped (desk.with_results t r) (λ b. refl) j b s.desk.batches e in subst (λ z. has_results z.pacts ≡ true) g.2 (result g.0.aborted r g.0.pacts (h j g.0 g.1 (ap (λ z. is_formed z.stage) g.2 ∙ n)))

    by : (v : Bool) (o : Option (Outcome C)) → batch_of j (if v then s.desk.batches else desk.noted_from t o s.desk.batches) ≡ Some b → has_results b.pacts ≡ true
    by true o e = h j b e n
    by false None e = h j b e n
    by false (Some x) e = next x.next e
valued_kept w (Note k a) s ok h j b e n = let g = marks.found_mapped _ (λ b. if_bid (b.bid == k) (desk.marked a desk.is_noted) b refl) j b s.desk.batches e in same (g.0.bid == k) (desk.marked a desk.is_noted) g.0 b refl refl g.2 (h j g.0 g.1) n
valued_kept w (Trim k a) s ok h j b e n = let g = marks.found_mapped _ (λ b. if_bid (b.bid == k) (desk.marked a desk.is_trimmed) b refl) j b s.desk.batches e in same (g.0.bid == k) (desk.marked a desk.is_trimmed) g.0 b refl refl g.2 (h j g.0 g.1) n
valued_kept w (Abort k) s ok h j b e n = let g = marks.found_mapped (desk.taken k) (λ b. refl) j b s.desk.batches e in subst (λ z. has_results z.pacts ≡ true) g.2 (h j g.0 g.1 (ap (λ z. is_formed z.stage) g.2 ∙ n))
valued_kept w (Commit k) s ok h j b e n =
    let g = marks.found_mapped _ (λ b. if_bid (b.bid == k) (desk.with_stage Committing) b refl) j b s.desk.batches e in
    let i = eqb-true g.0.bid j (marks.found_bid j g.0 s.desk.batches g.1) in
    by (g.0.bid == k) g.0 refl g.1 g.2 i
  where
    by : (v : Bool) (c : Batch) → (c.bid == k) ≡ v → batch_of j s.desk.batches ≡ Some c → desk.change_if v (desk.with_stage Committing) c ≡ b → c.bid ≡ j → has_results b.pacts ≡ true
    by true c q f x i = subst (λ z. has_results z.pacts ≡ true) x (values c.pacts (held_of (λ b. list_all (λ p. is_value p.result) b.pacts) k j c s.desk.batches f ok.1.0 (sym (eqb-true c.bid k q) ∙ i)))
    by false c q f x i = subst (λ z. has_results z.pacts ≡ true) x (h j c f (ap (λ z. is_formed z.stage) x ∙ n))
valued_kept w (Settle k) s ok h j b e n =
    let g = marks.found_mapped _ (λ b. if_bid (b.bid == k) (desk.with_stage Settled) b refl) j b s.desk.batches e in
    let i = eqb-true g.0.bid j (marks.found_bid j g.0 s.desk.batches g.1) in
    by (g.0.bid == k) g.0 refl g.1 g.2 i
  where
    by : (v : Bool) (c : Batch) → (c.bid == k) ≡ v → batch_of j s.desk.batches ≡ Some c → desk.change_if v (desk.with_stage Settled) c ≡ b → c.bid ≡ j → has_results b.pacts ≡ true
    by true c q f x i = subst (λ z. has_results z.pacts ≡ true) x (h j c f (committing_not_formed c.stage (and_parts (is_committing c.stage) (not c.aborted) (held_of (λ b. is_committing b.stage && not b.aborted) k j c s.desk.batches f ok.0 (sym (eqb-true c.bid k q) ∙ i))).0))
    by false c q f x i = subst (λ z. has_results z.pacts ≡ true) x (h j c f (ap (λ z. is_formed z.stage) x ∙ n))
valued_kept w e s ok h j b q n = h j b q n

-- ---- a slice runs

has_one : (t : ℕ) (ps : List Pact) → list_any (λ p. p.tid == t) ps ≡ true → has_results ps ≡ true → AllByRecursion (λ p. p.tid ≡ t → p.result ≡ None) ps → ⊥
has_one t [] e h g = true≢false (sym e)
has_one t (p ∷ ps) e h g =
    let q = and_parts (is_some p.result) (has_results ps) h in
    elim (or_cases (p.tid == t) (list_any (λ p. p.tid == t) ps) e) [ inl v ↦ true≢false (sym q.0 ∙ ap is_some (g.0 (eqb-true p.tid t v))) | inr v ↦ has_one t ps v q.1 g.1 ]

pub found_all : (P : Batch → Type 0) (k : ℕ) (b : Batch) (bs : List Batch) → batch_of k bs ≡ Some b → AllByRecursion P bs → P b
found_all P k b bs e h = (all_found P (λ b. b.bid == k) bs b h e).0

-- its batch did not commit
pub batch_not_kept : {C : Type 0} (s : Machine C) (h : History) (t k : ℕ) → Known s h → Marked s h → Valued s → NoResult t s.desk.batches → is_pact_of t k s.desk.batches ≡ true → is_kept (OfBatch k) h.kept ≡ false
unfolding Known Marked Valued
batch_not_kept s h t k n m v r p =
    let b = one_is (names_pact t) (batch_of k s.desk.batches) p in
    false_from_ne_true (is_kept (OfBatch k) h.kept) (λ q. has_one t b.0.pacts b.2 (v k b.0 b.1 (not-true (is_formed b.0.stage) (sym (m k b.0 b.1).known ∙ q))) (found_all (λ b. AllByRecursion (λ p. p.tid ≡ t → p.result ≡ None) b.pacts) k b.0 s.desk.batches b.1 r))

-- who runs on its batch's entry
pub entry_not_kept : {C : Type 0} (s : Machine C) (h : History) (t a : ℕ) (es : List Entry) → Known s h → Marked s h → Valued s → NoResult t s.desk.batches → AllByRecursion (EntryOf a s.desk.batches) es → is_kept (OfAct t) h.kept ≡ false → is_kept (who_on t es) h.kept ≡ false
entry_not_kept s h t a [] n m v r f own = own
entry_not_kept s h t a (BatchEntry b ∷ es) n m v r f own = by (is_entry_of t (BatchEntry b)) refl (entry_not_kept s h t a es n m v r f.1 own)
  where
    named : (ss : List Slot) → list_any (λ s. s.tid == t) ss ≡ true → AllByRecursion (λ x. is_pact_of x.tid b.bid s.desk.batches ≡ true) ss → is_pact_of t b.bid s.desk.batches ≡ true
    named [] e g = absurd (true≢false (sym e))
    named (x ∷ xs) e g = elim (or_cases (x.tid == t) (list_any (λ s. s.tid == t) xs) e) [ inl q ↦ subst (λ z. is_pact_of z b.bid s.desk.batches ≡ true) (eqb-true x.tid t q) g.0 | inr q ↦ named xs q g.1 ]

    by : (q : Bool) → is_entry_of t (BatchEntry b) ≡ q → is_kept (who_on t es) h.kept ≡ false → is_kept (if q then OfBatch b.bid else who_on t es) h.kept ≡ false
    by true e g = batch_not_kept s h t b.bid n m v r (named b.slots e f.0.1)
    by false e g = g
entry_not_kept s h t a (ActEntry x ∷ es) n m v r f own = by (x.tid == t) refl (entry_not_kept s h t a es n m v r f.1 own)
  where
    by : (q : Bool) → (x.tid == t) ≡ q → is_kept (who_on t es) h.kept ≡ false → is_kept (if q then OfAct x.tid else who_on t es) h.kept ≡ false
    by true e g = subst (λ z. is_kept (OfAct z) h.kept ≡ false) (sym (eqb-true x.tid t e)) own
    by false e g = g

-- All that is owed of a slice of a PACT, where no ACT has its tid.
pub pact_runs : {C : Type 0} (w : Fixed C) (Of : Tx → C → Type 0) (finish : C → List State → Alone) (t a : ℕ) (s : Machine C) (h : History) (x : Waiting C) → Facts (length w.text.opening.states) w.code (IsTxIn w.text) Of finish → waiting_of t (cell_at s a).inbox ≡ Some x → is_pact (tx_at w.text (h.trails t).tx) ≡ true
    → AllControls (Told w Of finish h) s → AllControls (Rests w s h) s → AllControls (NoneNoted s) s → Known s h → Marked s h → Valued s → FromDesk s → is_kept (OfAct t) h.kept ≡ false
    → ((e : Entry) → find (is_entry_of t) (cell_at s a).entries ≡ Some e → NotDone t e) × (is_kept (who_on t (cell_at s a).entries) h.kept ≡ false)
pact_runs w Of finish t a s h x f e p told rests none n m v d own =
    let u = runs_undone w Of finish t a s h x f e p told rests in
    let q = all_found (λ x. NoneNoted s x.tid (Go a x.control)) (λ x. x.tid == t) (cell_at s a).inbox x (none.inboxes a) e in
    (λ y g. (all_found (NotDone t) (is_entry_of t) (cell_at s a).entries y u g).0, entry_not_kept s h t a (cell_at s a).entries n m v (subst (λ z. NoResult z s.desk.batches) (eqb-true x.tid t q.1) q.0) (d.entries a) own)
