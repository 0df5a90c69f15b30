-- What is owed of quiet states holds after every run.
use Rattle.std.specs.Prelude.{◌≡◌, refl, ℕ, zero, suc, ◌+◌, ◌<◌, ◌≤◌, ◌==◌, not, Bool, true, false, ◌||◌, ◌&&◌, ◌⊎◌, if◌then◌else◌, Some, None, is_some, List, [], ◌∷◌, length, map, find, slice_index_or}
use Rattle.std.specs.List.{AllByRecursion, list_any, list_all}
use Rattle.std.proofs.Common.{arith, sym, ap, subst, inl, inr, ◌∙◌}
use Rattle.std.proofs.lemmas.Bool.{true≢false, eqb-true, eq-eqb, or_cases, or_right, and_parts, cases_Bool, cases_lt}
use Rattle.snap_base.specs.declared.transactions.State.{State}
use Rattle.snap_base.specs.declared.transactions.Tx.{Tx}
use Rattle.snap_base.proofs.Options.{somebody}
use Rattle.protocol.specs.Facts.{Alone}
use Rattle.protocol.specs.Fixed.{Fixed, Go, base}
use Rattle.protocol.specs.Parts.{Act, Batch, Pact, PlacedBatch, Status, Live, Doomed, Decided, Sealed, Who, OfBatch, OfAct, Entry, BatchEntry, Cell, Machine}
use Rattle.protocol.specs.Events.{Event}
use Rattle.protocol.specs.Words.{holds, is_formed, is_doomed, is_aborted, names_pact, names_slot, pact_result, act_of, batch_of, control_of, is_ordered}
use Rattle.protocol.specs.Numbers.{flat, times, one_if, waiting_tids, controls_in}
use Rattle.protocol.specs.Conditions.{IsAllowed, epoch}
use Rattle.protocol.specs.Effects.{after, cell_at, no_cell}
use Rattle.protocol.specs.Runs.{opening, new_cell, IsRun, IsQuiet, reached}
use Rattle.protocol.specs.History.{History, Ran, Stands, Gone, no_history, history, grown}
use Rattle.protocol_laws.specs.Tracks.{key_of, keys_in}
use Rattle.protocol_laws.specs.FromDesk.{is_declared, is_pact_of}
use Rattle.protocol_theorems.specs.Quiet.{ControlIsAt, HasControl, StillOwed, AllAnswered}
use Rattle.protocol_laws.proofs.first.Times
use Rattle.protocol_laws.proofs.first.Drawn as drawn
use Rattle.protocol_laws.proofs.first.Controls as controls
use Rattle.protocol_laws.proofs.first.CellEpochs as cells
use Rattle.protocol_laws.proofs.first.SettlingKept as settling
use Rattle.protocol_laws.proofs.machine.TrailsKept.{Told}
use Rattle.protocol_laws.proofs.machine.TracksKept.{Tracked}
use Rattle.protocol_laws.proofs.machine.TurnsKept.{one_is}
use Rattle.protocol_laws.proofs.machine.ActsKept.{Acts}
use Rattle.protocol_laws.proofs.machine.RunOwed.{Valued, has_results}
use Rattle.protocol_laws.proofs.machine.CommitLists.{rest_slices}
use Rattle.protocol_laws.proofs.machine.Good.{Given}
use Rattle.protocol_laws.proofs.machine.AllGood as all
use Rattle.protocol_laws.proofs.machine.AllGood.{AllGood}
use Rattle.protocol_theorems.proofs.order.RunsBefore.{lives, is_open_with}
use Rattle.protocol_theorems.proofs.order.SlicesKept.{runs}
use Rattle.protocol_theorems.proofs.order.OrderLaw.{WhenQuiet}
use Rattle.protocol_theorems.proofs.order.LastLaw as last
use Rattle.protocol_theorems.proofs.quiet.QuietKnown as known
use Rattle.protocol_theorems.proofs.quiet.QuietRuns.{quiet_runs_have_answered}
use Rattle.protocol_theorems.proofs.quiet.JoinsKept as joins
use Rattle.protocol_theorems.proofs.quiet.StandInLine as line
use Rattle.protocol_theorems.proofs.quiet.EnteredKept as entering
use Rattle.protocol_theorems.proofs.quiet.EnteredKept.{Entered, EnteredAt}
use Rattle.protocol_theorems.proofs.quiet.ControlsHeld as counts
use Rattle.protocol_theorems.proofs.quiet.ControlsHeld.{Whose, Resulted, is_resulted}
use Rattle.protocol_theorems.proofs.quiet.HasOneKept as ones
use Rattle.protocol_theorems.proofs.quiet.HasOneKept.{HasOne}
use Rattle.protocol_laws.proofs.first.Lists.{all_found}

-- ---- along a run

pub record Held {C : Type 0} (w : Fixed C) (Of : Tx → C → Type 0) (finish : C → List State → Alone) (s : Machine C) (h : History) : Type 0 where
  pub whole : last.Whole w Of finish s h
  pub entered : Entered s
  pub whose : Whose s h
  pub one : HasOne s

pub held_kept : {C : Type 0} (w : Fixed C) (Of : Tx → C → Type 0) (finish : C → List State → Alone) (e : Event) (s : Machine C) (h : History) → Given w Of finish → IsAllowed w e s → AllGood w Of finish s h → Held w Of finish s h → Held w Of finish (after w e s) (grown w e s h)
held_kept w Of finish e s h v ok g i = record {
  whole = last.kept w Of finish e s h v ok g i.whole;
  entered = entering.entered_kept w e s h ok g.good.held g.acts g.good.from_desk i.entered;
  whose = counts.whose_kept w e s h ok g.good.held g.good.from_desk i.whole.ordered.named i.whose;
  one = ones.one_kept w Of finish e s h ok g i.whole.ordered.named i.entered i.whose i.one;
}

pub held_opened : {C : Type 0} (w : Fixed C) (Of : Tx → C → Type 0) (finish : C → List State → Alone) → Given w Of finish → Held w Of finish (opening w) no_history
unfolding Entered Whose HasOne
held_opened {C} w Of finish v = record { whole = last.opened w Of finish v; entered = λ a. nothing w.text.opening.states a; whose = tt; one = λ who t r. absurd (none who t r) }
  where
    nothing : (ss : List State) (a : ℕ) → EnteredAt [] a (slice_index_or (map (new_cell {C = C} (base w.text)) ss) a no_cell)
    nothing [] a = (tt, tt)
    nothing (x ∷ xs) zero = (tt, tt)
    nothing (x ∷ xs) (suc a) = nothing xs a

    none : (who : Who) (t : ℕ) → runs (opening w) who t ≡ true → ⊥
    none (OfBatch k) t r = true≢false (sym r)
    none (OfAct u) t r = true≢false (sym (and_parts (u == t) false r).1)

pub all_held : {C : Type 0} (w : Fixed C) (Of : Tx → C → Type 0) (finish : C → List State → Alone) (es : List Event) → Given w Of finish → IsRun w es → Held w Of finish (reached w es) (history w es)
all_held w Of finish es v run = all.along_good w Of finish (Held w Of finish) v (λ e s h ok g i. held_kept w Of finish e s h v ok g i) (held_opened w Of finish v) es run

-- ---- a control that is counted is somewhere

some_in : {X : Type 0} (t : ℕ) (f : X → ℕ) (xs : List X) → 1 ≤ times t (map f xs) → is_some (find (λ x. f x == t) xs) ≡ true
some_in t f [] l = absurd (omega (arith, l))
some_in t f (x ∷ xs) l = by (f x == t) (Times.times_cons t (f x) (map f xs)) (some_in t f xs)
  where
    by : (v : Bool) → times t (f x ∷ map f xs) ≡ one_if v + times t (map f xs) → (1 ≤ times t (map f xs) → is_some (find (λ x. f x == t) xs) ≡ true) → is_some (if v then Some x else find (λ x. f x == t) xs) ≡ true
    by true e r = refl
    by false e r = r (omega (arith, l, e))

in_cell : {C X : Type 0} (t : ℕ) (f : X → ℕ) (g : Cell C → List X) (cs : List (Cell C)) → 1 ≤ times t (flat (map (λ xs. map f xs) (map g cs))) → (a : ℕ) × (a < length cs) × (1 ≤ times t (map f (g (slice_index_or cs a no_cell))))
in_cell t f g [] l = absurd (omega (arith, l))
in_cell t f g (c ∷ cs) l = elim (cases_lt 0 (times t (map f (g c)))) [
  | inl h ↦ (0, omega arith, omega (arith, h))
  | inr h ↦
      let r = in_cell t f g cs (omega (arith, l, h, Times.times_append t (map f (g c)) (flat (map (λ xs. map f xs) (map g cs))))) in
      (suc r.0, omega (arith, r.1), r.2)
]

has_control : {C : Type 0} (w : Fixed C) (Of : Tx → C → Type 0) (finish : C → List State → Alone) (s : Machine C) (h : History) (t : ℕ) → AllGood w Of finish s h → length s.cells ≡ length w.text.opening.states → 1 ≤ times t (controls_in s) → HasControl t s
has_control {C} w Of finish s h t g n l = by (cases_lt 0 (times t (map (λ m. m.tid) s.post.controls))) (cases_lt 0 (times t (flat (map waiting_tids (map (λ c. c.inbox) s.cells)))))
  where
    by : (0 < times t (map (λ m. m.tid) s.post.controls)) ⊎ (times t (map (λ m. m.tid) s.post.controls) ≤ 0) → (0 < times t (flat (map waiting_tids (map (λ c. c.inbox) s.cells)))) ⊎ (times t (flat (map waiting_tids (map (λ c. c.inbox) s.cells))) ≤ 0) → HasControl t s
    by (inl p) q =
        let m = somebody (control_of t s.post.controls) (some_in t (λ m. m.tid) s.post.controls (omega (arith, p))) in
        let f = all_found (λ m. Told w Of finish h m.tid (Go m.to m.control)) (λ m. m.tid == t) s.post.controls m.0 g.good.told.posted m.1 in
        (m.0.to, omega (arith, f.0.of_it.2, n), inl (inl (subst (λ o. holds (λ x. x.to == m.0.to) o ≡ true) (sym m.1) (eq-eqb m.0.to m.0.to refl))))
    by (inr p) (inl q) = let r = in_cell t (λ x. x.tid) (λ c. c.inbox) s.cells (omega (arith, q)) in (r.0, r.1, inl (inr (some_in t (λ x. x.tid) (cell_at s r.0).inbox r.2)))
    by (inr p) (inr q) =
        let r = in_cell t (λ x. x.tid) (λ c. c.outbox) s.cells (omega (arith, l, p, q, controls.parted t s.post.controls (map (λ c. c.inbox) s.cells) (map (λ c. c.outbox) s.cells))) in
        (r.0, r.1, inr (some_in t (λ x. x.tid) (cell_at s r.0).outbox r.2))

-- ---- who has no result may still commit

unresulted : (t : ℕ) (bs : List Batch) (ps : List Pact) → list_any (λ p. p.tid == t) ps ≡ true → AllByRecursion (λ p. (pact_result p.tid bs ≡ p.result) × (true ≡ true)) ps → pact_result t bs ≡ None → list_all (λ p. not (p.tid == t) || is_some p.result) ps ≡ true → ⊥
unresulted t bs [] n h e l = true≢false (sym n)
unresulted t bs (p ∷ ps) n h e l =
    let q = and_parts (not (p.tid == t) || is_some p.result) (list_all (λ p. not (p.tid == t) || is_some p.result) ps) l in
    elim (cases_Bool (p.tid == t)) [
      | inl i ↦ own i q.0
      | inr i ↦ unresulted t bs ps (rest (p.tid == t) i n) h.1 e q.1
    ]
  where
    own : (p.tid == t) ≡ true → (not (p.tid == t) || is_some p.result) ≡ true → ⊥
    own i v =
        let r : p.result ≡ None = sym h.0.0 ∙ (ap (λ z. pact_result z bs) (eqb-true p.tid t i) ∙ e) in
        elim (or_cases (not (p.tid == t)) (is_some p.result) v) [ inl x ↦ true≢false (sym x ∙ ap not i) | inr x ↦ true≢false (sym x ∙ ap is_some r) ]

    rest : (v : Bool) → v ≡ false → (v || list_any (λ p. p.tid == t) ps) ≡ true → list_any (λ p. p.tid == t) ps ≡ true
    rest true i n = absurd (true≢false i)
    rest false i n = n

all_some : (t : ℕ) (ps : List Pact) → has_results ps ≡ true → list_all (λ p. not (p.tid == t) || is_some p.result) ps ≡ true
all_some t [] h = h
all_some t (p ∷ ps) h = let q = and_parts (is_some p.result) (has_results ps) h in rw (or_right (not (p.tid == t)) (is_some p.result) q.0, all_some t ps q.1) refl

only_results : (bs : List Batch) (b : Batch) (ps : List Pact) → AllByRecursion (λ p. (pact_result p.tid bs ≡ p.result) × (names_pact p.tid b ≡ true)) ps → AllByRecursion (λ p. (pact_result p.tid bs ≡ p.result) × (true ≡ true)) ps
only_results bs b [] h = tt
only_results bs b (p ∷ ps) h = ((h.0.0, refl), only_results bs b ps h.1)

pub of_pact : {C : Type 0} (w : Fixed C) (Of : Tx → C → Type 0) (finish : C → List State → Alone) (es : List Event) → Given w Of finish → IsRun w es → (t k : ℕ) → is_pact_of t k (reached w es).desk.batches ≡ true → is_aborted k (reached w es).book.cascades ≡ false → pact_result t (reached w es).desk.batches ≡ None → HasControl t (reached w es)
unfolding HasOne Resulted Valued
of_pact w Of finish es v run t k p n e =
    let s = reached w es in
    let g = all.all_good w Of finish es v run in
    let i = all_held w Of finish es v run in
    let b = one_is (names_pact t) (batch_of k s.desk.batches) p in
    let found = only_results s.desk.batches b.0 b.0.pacts ((known.numbered w s (drawn.numbers_drawn_once w es v.text run)).results k b.0 b.1) in
    let fresh : b.0.aborted ≡ false = settling.mark_is w s k b.0 b.1 g.good.settling ∙ n in
    let formed : is_formed b.0.stage ≡ true = elim (cases_Bool (is_formed b.0.stage)) [ inl q ↦ q | inr q ↦ absurd (unresulted t s.desk.batches b.0.pacts b.2 found e (all_some t b.0.pacts (g.good.valued k b.0 b.1 q))) ] in
    let r : runs s (OfBatch k) t ≡ true = subst (λ o. holds (is_open_with t) o ≡ true) (sym b.1) (all_three formed (ap not fresh) b.2) in
    elim (i.one (OfBatch k) t r) [
      | inl c ↦ has_control w Of finish s (history w es) t g i.whole.ordered.results.cells c
      | inr x ↦ absurd (unresulted t s.desk.batches b.0.pacts b.2 found e (subst (λ o. holds (is_resulted t) o ≡ true) b.1 x))
    ]
  where
    all_three : {a b c : Bool} → a ≡ true → b ≡ true → c ≡ true → ((a && b) && c) ≡ true
    all_three e f g = rw (e, f, g) refl

pub of_act : {C : Type 0} (w : Fixed C) (Of : Tx → C → Type 0) (finish : C → List State → Alone) (es : List Event) → Given w Of finish → IsRun w es → (t : ℕ) (x : Act) → act_of t (reached w es).book.acts ≡ Some x → is_doomed x.status ≡ false → x.result ≡ None → HasControl t (reached w es)
unfolding HasOne Resulted Acts
of_act w Of finish es v run t x e d n =
    let s = reached w es in
    let g = all.all_good w Of finish es v run in
    let i = all_held w Of finish es v run in
    let live = by x.status refl (λ q. true≢false (sym ((g.acts t x e).ended q) ∙ ap is_some n)) in
    let r : runs s (OfAct t) t ≡ true = both (eq-eqb t t refl) (subst (λ o. holds lives o ≡ true) (sym e) live) in
    elim (i.one (OfAct t) t r) [
      | inl c ↦ has_control w Of finish s (history w es) t g i.whole.ordered.results.cells c
      | inr y ↦ absurd (true≢false (sym (y t x e refl) ∙ ap is_some n))
    ]
  where
    by : (st : Status) → x.status ≡ st → (is_ordered x.status ≡ true → ⊥) → lives x ≡ true
    by Live q p = ap Rattle.protocol.specs.Words.is_live_status q
    by (Doomed v) q p = absurd (true≢false (sym (ap is_doomed q) ∙ d))
    by (Decided c) q p = absurd (p (ap is_ordered q))
    by (Sealed c) q p = absurd (p (ap is_ordered q))

    both : {a b : Bool} → a ≡ true → b ≡ true → (a && b) ≡ true
    both e f = rw (e, f) refl

-- ---- together, with where the controls of PACTs lie

pub record PactsAtHome {C : Type 0} (w : Fixed C) (s : Machine C) : Type 0 where
  pub declared : (t k a : ℕ) → is_pact_of t k s.desk.batches ≡ true → is_aborted k s.book.cascades ≡ false → ControlIsAt t a s → is_declared k a s.desk.batches ≡ true
  pub named : (t a : ℕ) (e : PlacedBatch) (es : List Entry) → is_pact_of t e.bid s.desk.batches ≡ true → is_aborted e.bid s.book.cascades ≡ false → ControlIsAt t a s → (cell_at s a).entries ≡ BatchEntry e ∷ es → names_slot t e ≡ true

pub still_owed : {C : Type 0} (w : Fixed C) (Of : Tx → C → Type 0) (finish : C → List State → Alone) (es : List Event) → Given w Of finish → IsRun w es → PactsAtHome w (reached w es) → StillOwed w (reached w es)
still_owed w Of finish es v run home =
    let s = reached w es in
    let h = history w es in
    let g = all.all_good w Of finish es v run in
    let i = all_held w Of finish es v run in
    let l = line.line_stands w Of finish es v run in
    let present = known.cell_present w s (cells.cells_agree w es v.text run) in
    let before = λ (a : ℕ) (q : (cell_at s a).epoch ≡ epoch s.book). line.before w Of finish s h g l a (λ k. present a k q) in
    record {
      joined = joins.joined s l.joins;
      controls = record {
        of_pact = of_pact w Of finish es v run;
        of_act = of_act w Of finish es v run;
        declared = home.declared;
        named = home.named;
        entered = λ t a x e q. entering.entered s i.entered t a x e q;
      };
      stands = joins.stands s g.opened;
      before = before;
      behind = λ a q. line.behind s h g.good.turned g.good.numbers a;
      tell = λ a. line.entries_tell s a g.locks;
      in_order = λ a q. line.in_order w Of finish s h g l (line.pairs_in_line w Of finish es v run) a (before a q);
      number = line.number w Of finish es v run;
      somewhere = joins.somewhere s h g.acts l.arrived;
    }

pub answered : {C : Type 0} (w : Fixed C) (Of : Tx → C → Type 0) (finish : C → List State → Alone) (es : List Event) → Given w Of finish → IsRun w es → PactsAtHome w (reached w es) → IsQuiet w (reached w es) → AllAnswered w (reached w es)
answered w Of finish es v run home q = quiet_runs_have_answered w es v.text v.actors run q (still_owed w Of finish es v run home)

-- ---- in a quiet state all that stays is kept

no_keys : (kept : List Who) (rs : List Ran) → keys_in rs ≡ [] → rest_slices kept rs ≡ []
no_keys kept [] e = refl
no_keys kept (Stands y c ss ∷ rs) e = absurd (cc e)
no_keys kept (Gone y ss ∷ rs) e = no_keys kept rs e

pub when_quiet : {C : Type 0} (w : Fixed C) (Of : Tx → C → Type 0) (finish : C → List State → Alone) (es : List Event) → Given w Of finish → IsRun w es → PactsAtHome w (reached w es) → WhenQuiet w (reached w es) (history w es)
unfolding Tracked
when_quiet w Of finish es v run home =
    let s = reached w es in
    let h = history w es in
    let g = all.all_good w Of finish es v run in
    record {
      all_told = all.all_told w Of finish es v run;
      all_kept = λ q a l. no_keys h.kept (h.long a) (sym (g.good.tracked a).stands ∙ ap (map key_of) ((answered w Of finish es v run home q).entries a (omega (arith, l, (all_held w Of finish es v run).whole.ordered.results.cells))));
    }
