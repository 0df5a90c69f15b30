-- What stands before an event: at a Sync the append of what waits, at a reply its line, and else nothing.
use Rattle.std.proofs.Common.{◌≡◌, ◌≢◌, ℕ, zero, suc, ◌+◌, ◌≤◌, ◌<◌, ◌==◌, Bool, true, false, if◌then◌else◌, inl, inr, ◌||◌, is_some, List, [], ◌∷◌, length, map, drop, slice_get, slice_set, Option, None, Some, Ok, Err, ap, sym, subst, refl, ◌∙◌, arith, true≢false, nat_eq}
use Rattle.std.specs.Io.KnownBytes.{Appends}
use Rattle.std.proofs.KnownBytes.{Appends-nil}
use Rattle.std.proofs.lemmas.Bool.{eq-eqb}
use Rattle.std.proofs.lemmas.Bool.Decides.{eqb_tells}
use Rattle.std.proofs.lemmas.List.{length-set}
use Rattle.aml_slice.specs.Controls.{Rest}
use Rattle.core_events.specs.Meant.{event_meant}
use Rattle.core_events.specs.declared.events.Event as code
use Rattle.core_events.specs.declared.events.Event.TheVariants as events
use Rattle.snap_hand.specs.core_rows.OnRuns.{HasRun}
use Rattle.crew_parts.specs.Acts.{HasPrinted, JournalGoes, OutputGoes, Prints, groups_by, line_at, tried_by}
use Rattle.crew_parts.specs.Besides.{HasAppended, HasBrokenOff, HasWritten, MayAppendTo, JournalBecame, OutputBecame, is_ready_journal, is_ready_output}
use Rattle.crew_parts.specs.Crews.{AreFirstShares, JournalIs, Stands}
use Rattle.crew_parts.specs.Shares.{BesideState, OutputState, ShareState}
use Rattle.crew_parts.proofs.FewActs.{synced_exists}
use Rattle.gate_log.specs.Device.{MayAppend}
use Rattle.gate_log.specs.State.{LogState}
use Rattle.gate_log.specs.declared.logs.AppendNo.{AppendNo}
use Rattle.gate_log.specs.declared.logs.AppendNo.TheVariants as append
use Rattle.crew_parts.specs.run_effects.Sizes.{most_bytes}
use Rattle.snap_hand.specs.log_set.Shown.{told_bytes}
use Rattle.protocol.specs.Conditions.{IsAllowed, refusal}
use Rattle.protocol.specs.Effects.{log_at}
use Rattle.protocol.specs.Events.{Event, Sync, Reply, book, desk, log}
use Rattle.protocol.specs.Fixed.{Fixed}
use Rattle.protocol.specs.Parts.{Machine}
use Rattle.protocol.specs.Records.{LogRecord}
use Rattle.protocol.specs.Runs.{reached}
use Rattle.protocol.specs.Verdicts.{verdict}
use Rattle.protocol.specs.Words.{holds, is_among}
use Rattle.crew_parts.specs.record_log.Growth.{MayAppendGroup, end_behind_groups}
use Rattle.crew_parts.specs.record_log.Records.{spelled}
use Rattle.crew_parts.specs.record_log.declared.limits.TheConstants.{FARTHEST_APPEND}
use Rattle.snap_hand.specs.log_set.Told.{all_told}
use Rattle.crew_parts.specs.run_effects.Appending.{IsAppended, IsCutOff}
use Rattle.crew_parts.specs.run_effects.Driven.{IsDriven}
use Rattle.crew_parts.specs.run_effects.RunsOf.{RunsOf}
use Rattle.crew_parts.specs.run_effects.Groups.{group_by, groups_of, waiting}
use Rattle.crew_parts.specs.run_effects.Lines.{line_in, verdict_line}
use Rattle.snap_base.specs.declared.verdicts.Verdict.{Verdict}
use Rattle.snap_base.specs.declared.ids.TxNo.{TxNo}
use Rattle.snap_base.proofs.Options.{same_some, none_is_some}
use Rattle.snap_base.proofs.Booleans.{not_false}
use Rattle.snap_hand.specs.Hands.{Fits}
use Rattle.snap_hand.specs.Steps.{IsRefusalOn, may_want}
use Rattle.snap_outside.proofs.AtFault.{no_call}
use Rattle.snap_outside.specs.declared.schedules.Failed.{Failed}
use Rattle.snap_report.specs.Lines.{reply_text}
use Rattle.turn_table.specs.Places.{at}
use Rattle.snap_hand.specs.txn_records.declared.records.Record.{Record}
use Rattle.crew_grip.specs.Acted.{AreSound, BesideGoes, HasGoneOut, IsJust, IsOuter, why_of}
use Rattle.crew_grip.specs.Grips.{GripState, IsGripOf, beside_in}
use Rattle.crew_grip.specs.declared.results.NotDone.TheVariants as undone
use Rattle.crew_grip.proofs.ByNumber.{set_here, set_else, at_within}
use Rattle.turn_table.proofs.ByPlace.{some_of}
use Rattle.crew_grip.proofs.HandsHold.{stands_fit}

-- ---- an open journal, an output that has not failed

pub ready_journal : (o : Option LogState) → is_ready_journal o ≡ true → (j : LogState) × ((o ≡ Some j) × (j.shut ≡ false))
ready_journal None e = absurd (true≢false (sym e))
ready_journal (Some j) e = (j, (refl, not_false j.shut e))

pub ready_output : (o : Option OutputState) → is_ready_output o ≡ true → (x : OutputState) × ((o ≡ Some x) × (x.failed ≡ false))
ready_output None e = absurd (true≢false (sym e))
ready_output (Some x) e = (x, (refl, not_false x.failed e))

-- ---- events with nothing before them

module _ (w : Fixed Rest) (same : (a : LogState) → a.shut ≡ false → IsDriven a a [] None) where
  journal_same : (l : ℕ) (e : Event) (s : Machine Rest) (o : Option LogState) → is_ready_journal o ≡ true → group_by l e s ≡ [] → JournalGoes l true e s o o
  journal_same l e s o ready none =
      let j = ready_journal o ready in
      subst (λ p. JournalGoes l true e s p p) (sym j.1.0) (j.1.1, subst (λ gs. IsDriven j.0 j.0 gs None) (sym none) (same j.0 j.1.1))

  output_same : (e : Event) (s : Machine Rest) (o : Option OutputState) → is_ready_output o ≡ true → line_at s e ≡ [] → OutputGoes true e s o o
  output_same e s o ready none =
      let x = ready_output o ready in
      subst (λ p. OutputGoes true e s p p) (sym x.1.0)
      (x.1.1, record { taken = subst (Appends x.0.taken x.0.taken) (sym none) (Appends-nil x.0.taken); ready = x.1.1; later = omega arith; once = no_call _ _ _ })

  quiet : (e : Event) (g : GripState) → AreSound w.text.logs g → ((l : ℕ) (s : Machine Rest) → group_by l e s ≡ []) → ((s : Machine Rest) → line_at s e ≡ []) → HasGoneOut w true e g g
  quiet e g sound groups line = record {
    hand = refl;
    besides = λ s run fits i a b was is. (
        let still : a ≡ b = same_some a b (sym was ∙ is) in
        subst (BesideGoes w s true e i a) still (record {
          journal = λ l within here. journal_same l e s a.journal ((sound i a was).journal l within here) (groups l s);
          output = λ here. output_same e s a.output ((sound i a was).output here) (line s);
        }));
    many = refl;
    there = λ i. refl;
  }

  -- an event that is neither a Sync nor a reply
  pub nothing_before : (e : code.Event) (g : GripState) → ((l : ℕ) → e ≢ events.Sync l) → ((n : _) → e ≢ events.Reply n) → AreSound w.text.logs g → HasGoneOut w true (event_meant e) g g
  nothing_before (events.Sync l) g sync reply sound = absurd (sync l refl)
  nothing_before (events.Reply n) g sync reply sound = absurd (reply n refl)
  nothing_before e g sync reply sound = quiet (event_meant e) g sound (λ l s. refl) (λ s. refl)

  -- a reply whose line is not known
  pub no_line_before : (n : ℕ) (g : GripState) → AreSound w.text.logs g → ((s : Machine Rest) → Fits g.hand s → line_in s n ≡ []) → HasGoneOut w true (Reply n) g g
  no_line_before n g sound none = record {
    hand = refl;
    besides = λ s run fits i a b was is. (
        let still : a ≡ b = same_some a b (sym was ∙ is) in
        subst (BesideGoes w s true (Reply n) i a) still (record {
          journal = λ l within here. journal_same l (Reply n) s a.journal ((sound i a was).journal l within here) refl;
          output = λ here. output_same (Reply n) s a.output ((sound i a was).output here) (none s fits);
        }));
    many = refl;
    there = λ i. refl;
  }

-- ---- one part's outside alone

there_set : (bs : List (Option BesideState)) (i k : ℕ) (b c : BesideState) → at bs i ≡ Some b → is_some (at (slice_set bs i (Some c)) k) ≡ is_some (at bs k)
there_set bs i k b c was = elim (eqb_tells i k) [
  | inl h ↦ subst (λ j. is_some (at (slice_set bs i (Some c)) j) ≡ is_some (at bs j)) h.1
      (ap is_some (set_here bs i (Some c) (at_within bs i b was)) ∙ sym (ap is_some was))
  | inr h ↦ ap is_some (set_else bs i k (Some c) h.1)
]

-- what stands beside part i became c; of what else is held nothing is told of a journal or the output
one_goes : (w : Fixed Rest) (done : Bool) (e : Event) (g : GripState) (i : ℕ) (b c : BesideState) → at g.besides i ≡ Some b
    → ((s : Machine Rest) → HasRun w s → Fits g.hand s → BesideGoes w s done e i b c)
    → ((s : Machine Rest) (k : ℕ) (a : BesideState) → i ≢ k → at g.besides k ≡ Some a → BesideGoes w s done e k a a)
    → HasGoneOut w done e g (record { hand = g.hand; besides = slice_set g.besides i (Some c) })
one_goes w done e g i b c was goes others = record {
  hand = refl;
  besides = λ s run fits k a d old new. elim (eqb_tells i k) [
    | inl h ↦ (
        let this : b ≡ a = same_some b a (sym was ∙ (ap (at g.besides) h.1 ∙ old)) in
        let that : c ≡ d = same_some c d (sym (set_here g.besides i (Some c) (at_within g.besides i b was)) ∙ (ap (at (slice_set g.besides i (Some c))) h.1 ∙ new)) in
        subst (λ j. BesideGoes w s done e j a d) h.1 (subst (λ x. BesideGoes w s done e i x d) this (subst (BesideGoes w s done e i b) that (goes s run fits))))
    | inr h ↦ (
        let same : a ≡ d = same_some a d (sym old ∙ (sym (set_else g.besides i k (Some c) h.1) ∙ new)) in
        subst (BesideGoes w s done e k a) same (others s k a h.1 old))
  ];
  many = length-set g.besides i (Some c);
  there = λ k. there_set g.besides i k b c was;
}

-- ---- a Sync

if_same : {X : Type 0} (l : ℕ) (x y : X) → (if nat_eq l l then x else y) ≡ x
if_same l x y = ap (λ t. if t then x else y) (eq-eqb l l refl)

same_number : (a b : ℕ) → log a ≡ log b → a ≡ b
same_number a b e = omega (arith, e)

only_log : (w : Fixed Rest) (held : List (Option ShareState)) (g : GripState) (l : ℕ) → IsGripOf w held g → IsJust (log l ∷ []) held → (k : ℕ) (a : BesideState) → log l ≢ k → at g.besides k ≡ Some a → ⊥
only_log w held g l grip just k a other there = none_is_some a (sym (grip.besides k ∙ ap beside_in (just.others k out)) ∙ there) where
  out : is_among k (log l ∷ []) ≡ false
  out = elim (eqb_tells (log l) k) [ inl h ↦ absurd (other h.1) | inr h ↦ ap (λ b. b || false) h.0 ]

module _ (w : Fixed Rest) (held : List (Option ShareState)) (g : GripState) (l : ℕ) (within : l < w.text.logs) (grip : IsGripOf w held g) (just : IsJust (log l ∷ []) held) (sound : AreSound w.text.logs g) where
  sync_goes : (done : Bool) (changes : LogState → LogState → Type 0) (b c : BesideState) → at g.besides (log l) ≡ Some b → JournalBecame changes b c
      → ((s : Machine Rest) → HasRun w s → Fits g.hand s → (x y : LogState) → b.journal ≡ Some x → changes x y → IsDriven x y (groups_by l done (Sync l) s) (tried_by l done (Sync l) s))
      → HasGoneOut w done (Sync l) g (record { hand = g.hand; besides = slice_set g.besides (log l) (Some c) })
  sync_goes done changes b c was became drives = one_goes w done (Sync l) g (log l) b c was
      (λ s run fits. record {
        journal = λ k in_k here. subst (λ m. JournalGoes m done (Sync l) s b.journal c.journal) (same_number l k here)
            (subst (λ o. JournalGoes l done (Sync l) s o c.journal) (sym became.was) (subst (JournalGoes l done (Sync l) s (Some became.before)) (sym became.is) (
              (let j = ready_journal b.journal ((sound (log l) b was).journal l within refl) in
                  subst (λ (x : LogState). x.shut ≡ false) (same_some j.0 became.before (sym j.1.0 ∙ became.was)) j.1.1),
              drives s run fits became.before became.after became.was became.changed,
            )));
        output = λ here. absurd (omega (arith, here));
      })
      (λ s k a other there. absurd (only_log w held g l grip just k a other there))

-- what the laws of journals say of one append
pub record Drives : Type 0 where
  pub same : (a : LogState) → a.shut ≡ false → IsDriven a a [] None
  pub group : (a b : LogState) (group : List Record) → MayAppendGroup a.end group → IsAppended a b (spelled group) → IsDriven a b (group ∷ []) None
  pub fault : (a b : LogState) (group : List Record) → MayAppendGroup a.end group → IsCutOff a b (spelled group) → IsDriven a b [] (Some group)
  pub pieces : (rs : List LogRecord) → map told_bytes rs ≡ spelled (all_told rs)

-- in whatever state the hand fits, the pieces are what waits on the log
abbrev pub AreWaiting : GripState → ℕ → List (List ℕ) → Type 0
AreWaiting g l pieces = (s : Machine Rest) → Fits g.hand s → pieces ≡ map told_bytes (drop (log_at s l).synced (log_at s l).records)

module _ (w : Fixed Rest) (laws : Drives) (runs : RunsOf w) (held : List (Option ShareState)) (g : GripState) (l : ℕ) (within : l < w.text.logs)
    (grip : IsGripOf w held g) (just : IsJust (log l ∷ []) held) (sound : AreSound w.text.logs g) (pieces : List (List ℕ)) (waits : AreWaiting g l pieces)
  where
    are_spelled : (s : Machine Rest) → Fits g.hand s → pieces ≡ spelled (waiting (log_at s l))
    are_spelled s fits = waits s fits ∙ laws.pieces (drop (log_at s l).synced (log_at s l).records)

    may_group : (s : Machine Rest) → HasRun w s → (end : ℕ) → end ≤ FARTHEST_APPEND + most_bytes → MayAppendGroup end (waiting (log_at s l))
    may_group s run end low = subst (λ t. MayAppendGroup end (waiting (log_at t l))) (sym run.is_reached) (runs.fits run.events l end run.run low)

    module _ (b : BesideState) (was : at g.besides (log l) ≡ Some b) (low : (j : LogState) → b.journal ≡ Some j → j.end ≤ FARTHEST_APPEND + most_bytes) where
      pub synced : (c : BesideState) → JournalBecame (λ x y. IsAppended x y pieces) b c → HasGoneOut w true (Sync l) g (record { hand = g.hand; besides = slice_set g.besides (log l) (Some c) })
      synced c became = sync_goes w held g l within grip just sound true (λ x y. IsAppended x y pieces) b c was became (λ s run fits x y is done.
          subst (λ gs. IsDriven x y gs None) (sym (if_same l (waiting (log_at s l) ∷ []) []))
          (laws.group x y (waiting (log_at s l)) (may_group s run x.end (low x is)) (subst (IsAppended x y) (are_spelled s fits) done)))

      pub cut_off : (c : BesideState) → JournalBecame (λ x y. IsCutOff x y pieces) b c → HasGoneOut w false (Sync l) g (record { hand = g.hand; besides = slice_set g.besides (log l) (Some c) })
      cut_off c became = sync_goes w held g l within grip just sound false (λ x y. IsCutOff x y pieces) b c was became (λ s run fits x y is done.
          subst (λ t. IsDriven x y [] t) (sym (if_same l (Some (waiting (log_at s l))) None))
          (laws.fault x y (waiting (log_at s l)) (may_group s run x.end (low x is)) (subst (IsCutOff x y) (are_spelled s fits) done)))

      pub may_append : (s : Machine Rest) → HasRun w s → Fits g.hand s → (j : LogState) → b.journal ≡ Some j → MayAppend j.end pieces
      may_append s run fits j is = subst (MayAppend j.end) (sym (are_spelled s fits)) (may_group s run j.end (low j is)).may

-- the gate of a journal that is held did not go far
pub gate_is_low : (w : Fixed Rest) (start : List ShareState) (held : List (Option ShareState)) (l : ℕ) (x : ShareState) (j : LogState) → RunsOf w → AreFirstShares w start → Stands w start held → l < w.text.logs
    → at held (log l) ≡ Some x → x.beside.journal ≡ Some j → j.end ≤ FARTHEST_APPEND + most_bytes
gate_is_low w start held l x j runs begins st within here is =
    let first = there start (log l) (omega (arith, within, begins.many)) in
    let ready = begins.journals l first.0 within first.1 in
    let told = st.come.journals l first.0 x within first.1 (st.held (log l) x here) in
    let driven = driven_of first.0.beside.journal x.beside.journal ready.journal j ready.is is told in
    let near = runs.near st.events l ready.journal.end st.come.run ready.near in
    omega (arith, driven, near, ready.near) where
      there : (xs : List ShareState) (i : ℕ) → i < length xs → (y : ShareState) × (slice_get xs i ≡ Some y)
      there [] i h = absurd (omega (arith, h))
      there (y ∷ ys) zero h = (y, refl)
      there (y ∷ ys) (suc i) h = there ys i (omega (arith, h))

      driven_of : (o p : Option LogState) (a b : LogState) → o ≡ Some a → p ≡ Some b → JournalIs w st.events l o p → b.end ≡ end_behind_groups a.end (groups_of w l st.events)
      driven_of o p a b e f is = (subst (λ q. JournalIs w st.events l q (Some b)) e (subst (JournalIs w st.events l o) f is)).gate

-- a log that is synced exists
is_there : {X : Type 0} (test : X → Bool) (x : Option X) → holds test x ≡ true → (y : X) × (x ≡ Some y)
is_there test None is = cc
is_there test (Some y) is = (y, refl)

-- ---- a reply

module _ (w : Fixed Rest) (held : List (Option ShareState)) (g : GripState) (n : ℕ) (grip : IsGripOf w held g) (just : IsJust (book ∷ desk ∷ []) held) (sound : AreSound w.text.logs g)
    (line : List ℕ) (prints : (s : Machine Rest) → Fits g.hand s → line ≡ line_in s n) (b : BesideState) (was : at g.besides desk ≡ Some b)
  where
    -- beside the book stands nothing that the event speaks of
    book_stays : (done : Bool) (s : Machine Rest) (k : ℕ) (a : BesideState) → desk ≢ k → at g.besides k ≡ Some a → BesideGoes w s done (Reply n) k a a
    book_stays done s k a other there = elim (eqb_tells book k) [
      | inl h ↦ record { journal = λ l within here. absurd (omega (arith, here, h.1)); output = λ here. absurd (other (sym here)) }
      | inr h ↦ absurd (none_is_some a (sym (grip.besides k ∙ ap beside_in (just.others k (out h.1))) ∙ there))
    ] where
      out : book ≢ k → is_among k (book ∷ desk ∷ []) ≡ false
      out other_book = elim (eqb_tells book k) [
        | inl h ↦ absurd (other_book h.1)
        | inr h ↦ elim (eqb_tells desk k) [ inl d ↦ absurd (other d.1) | inr d ↦ ap (λ t. t || ((desk == k) || false)) h.0 ∙ ap (λ t. t || false) d.0 ]
      ]

    output_of : (done : Bool) (changes : OutputState → OutputState → Type 0) (s : Machine Rest) (c : BesideState) → OutputBecame changes b c → ((x y : OutputState) → changes x y → Prints done (Reply n) s x y) → OutputGoes done (Reply n) s b.output c.output
    output_of done changes s c became told =
        subst (λ o. OutputGoes done (Reply n) s o c.output) (sym became.was) (subst (OutputGoes done (Reply n) s (Some became.before)) (sym became.is) (
          (let x = ready_output b.output ((sound desk b was).output refl) in
              subst (λ (y : OutputState). y.failed ≡ false) (same_some x.0 became.before (sym x.1.0 ∙ became.was)) x.1.1),
          told became.before became.after became.changed,
        ))

    pub replied : (c : BesideState) → OutputBecame (HasPrinted line) b c → HasGoneOut w true (Reply n) g (record { hand = g.hand; besides = slice_set g.besides desk (Some c) })
    replied c became = one_goes w true (Reply n) g desk b c was
        (λ s run fits. record {
          journal = λ l within here. absurd (omega (arith, here));
          output = λ here. output_of true (HasPrinted line) s c became (λ x y is. subst (λ t. HasPrinted t x y) (prints s fits) is);
        })
        (book_stays true)

    pub broken_off : (c : BesideState) → OutputBecame (HasBrokenOff line) b c → HasGoneOut w false (Reply n) g (record { hand = g.hand; besides = slice_set g.besides desk (Some c) })
    broken_off c became = one_goes w false (Reply n) g desk b c was
        (λ s run fits. record {
          journal = λ l within here. absurd (omega (arith, here));
          output = λ here. output_of false (HasBrokenOff line) s c became (λ x y is. record {
            tx = n;
            is = refl;
            front = is.front;
            rest = is.rest;
            line = sym (prints s fits) ∙ is.line;
            taken = is.taken;
            failed = is.failed;
            rose = is.rose;
            later = is.later;
            once = is.once;
          });
        })
        (book_stays false)

-- ---- in what the code has at hand

set_same : {X : Type 0} (hs : List (Option X)) (i : ℕ) (x : X) → at hs i ≡ Some x → slice_set hs i (Some x) ≡ hs
set_same [] i x e = absurd (cc e)
set_same (h ∷ hs) zero x e = ap (λ y. y ∷ hs) (sym e)
set_same (h ∷ hs) (suc i) x e = ap (λ ys. h ∷ ys) (set_same hs i x e)

pub sync_within : (w : Fixed Rest) (l : ℕ) (start : List ShareState) (held : List (Option ShareState)) (g : GripState) → RunsOf w → ((s : Machine Rest) → refusal w (Sync l) s ≡ 0 → IsAllowed w (Sync l) s)
    → (st : Stands w start held) → IsGripOf w held g → IsRefusalOn w (Sync l) g.hand 0 → l < w.text.logs
sync_within w l start held g runs says st grip allowed =
    let s = reached w st.events in
    let exists = synced_exists w l s (says s (allowed s st.lead (stands_fit w start held g st grip))) in
    omega (arith, exists, runs.logs st.events st.come.run)

-- what is held of the log that is synced
pub log_held : (w : Fixed Rest) (held : List (Option ShareState)) (g : GripState) (i : ℕ) (is : List ℕ) → IsGripOf w held g → IsJust (i ∷ is) held → (x : ShareState) × ((at held i ≡ Some x) × (at g.besides i ≡ Some x.beside))
log_held w held g i is grip just = let x = some_of (at held i) just.all.0 in (x.0, (x.1, grip.besides i ∙ ap beside_in x.1))

module _ (w : Fixed Rest) (laws : Drives) (runs : RunsOf w) (start : List ShareState) (held : List (Option ShareState)) (g : GripState) (l : ℕ) (within : l < w.text.logs) (begins : AreFirstShares w start) (st : Stands w start held)
    (grip : IsGripOf w held g) (just : IsJust (log l ∷ []) held) (sound : AreSound w.text.logs g) (pieces : List (List ℕ)) (waits : AreWaiting g l pieces)
  where
    pub may_append_to : (x : ShareState) → at held (log l) ≡ Some x → at g.besides (log l) ≡ Some x.beside → MayAppendTo x.beside pieces
    may_append_to x here was =
        let j = ready_journal x.beside.journal ((sound (log l) x.beside was).journal l within refl) in
        let low = λ (k : LogState) (is : x.beside.journal ≡ Some k). gate_is_low w start held l x k runs begins st within here is in
        record {
          journal = j.0;
          is = j.1.0;
          ready = j.1.1;
          may = may_append w laws runs held g l within grip just sound pieces waits x.beside was low (reached w st.events) st.lead (stands_fit w start held g st grip) j.0 j.1.0;
        }

    pub appended_out : (x : ShareState) (c : BesideState) (new : GripState) → at held (log l) ≡ Some x → at g.besides (log l) ≡ Some x.beside → HasAppended x.beside c pieces (Ok tt)
        → new ≡ record { hand = g.hand; besides = slice_set g.besides (log l) (Some c) } → HasGoneOut w true (Sync l) g new
    appended_out x c new here was became is = subst (HasGoneOut w true (Sync l) g) (sym is)
        (synced w laws runs held g l within grip just sound pieces waits x.beside was (λ k q. gate_is_low w start held l x k runs begins st within here q) c became)

    pub not_appended : (why : AppendNo) (x : ShareState) (c : BesideState) (new : GripState) → at held (log l) ≡ Some x → at g.besides (log l) ≡ Some x.beside → HasAppended x.beside c pieces (Err why)
        → new ≡ record { hand = g.hand; besides = slice_set g.besides (log l) (Some c) } → IsOuter w (Sync l) g new (Err (why_of why))
    not_appended append.Device x c new here was became is = (
      refl,
      subst (HasGoneOut w false (Sync l) g) (sym is)
          (cut_off w laws runs held g l within grip just sound pieces waits x.beside was (λ k q. gate_is_low w start held l x k runs begins st within here q) c became),
    )
    not_appended append.Shut x c new here was became is = absurd became
    not_appended append.Memory x c new here was became is =
        is ∙ ap (λ bs. record { hand = g.hand; besides = bs }) (ap (λ b. slice_set g.besides (log l) (Some b)) became ∙ set_same g.besides (log l) x.beside was)

module _ (w : Fixed Rest) (held : List (Option ShareState)) (g : GripState) (n : ℕ) (grip : IsGripOf w held g) (just : IsJust (book ∷ desk ∷ []) held) (sound : AreSound w.text.logs g) where
  -- the line of a verdict that is known
  pub line_is : (v : Verdict) (line : List ℕ) → line ≡ reply_text n v → ((s : Machine Rest) → Fits g.hand s → Some v ≡ verdict n s.book s.desk) → (s : Machine Rest) → Fits g.hand s → line ≡ line_in s n
  line_is v line is known s fits = is ∙ ap (verdict_line n) (known s fits)

  pub written_out : (line : List ℕ) → ((s : Machine Rest) → Fits g.hand s → line ≡ line_in s n) → (b c : BesideState) (new : GripState) → at g.besides desk ≡ Some b → HasWritten b c line (Ok tt)
      → new ≡ record { hand = g.hand; besides = slice_set g.besides desk (Some c) } → HasGoneOut w true (Reply n) g new
  written_out line prints b c new was became is = subst (HasGoneOut w true (Reply n) g) (sym is) (replied w held g n grip just sound line prints b was c became)

  pub not_written : (line : List ℕ) → ((s : Machine Rest) → Fits g.hand s → line ≡ line_in s n) → (b c : BesideState) (new : GripState) (why : Failed) → at g.besides desk ≡ Some b → HasWritten b c line (Err why)
      → new ≡ record { hand = g.hand; besides = slice_set g.besides desk (Some c) } → IsOuter w (Reply n) g new (Err undone.Fault)
  not_written line prints b c new why was became is = (refl, subst (HasGoneOut w false (Reply n) g) (sym is) (broken_off w held g n grip just sound line prints b was c became))

-- what stands beside the desk where a reply's parts are held
pub desk_held : (w : Fixed Rest) (held : List (Option ShareState)) (g : GripState) → IsGripOf w held g → IsJust (book ∷ desk ∷ []) held → (x : ShareState) × ((at held desk ≡ Some x) × (at g.besides desk ≡ Some x.beside))
desk_held w held g grip just = let x = some_of (at held desk) just.all.1.0 in (x.0, (x.1, grip.besides desk ∙ ap beside_in x.1))

-- neither of them wants memory
pub no_sync_wants : (e : code.Event) (l : ℕ) → e ≡ events.Sync l → may_want (event_meant e) ≡ true → ⊥
no_sync_wants e l is wants = true≢false (sym wants ∙ ap (λ (x : code.Event). may_want (event_meant x)) is)

pub no_reply_wants : (e : code.Event) (n : TxNo) → e ≡ events.Reply n → may_want (event_meant e) ≡ true → ⊥
no_reply_wants e n is wants = true≢false (sym wants ∙ ap (λ (x : code.Event). may_want (event_meant x)) is)
