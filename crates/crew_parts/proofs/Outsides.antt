-- Journals and the output along a run.
use Rattle.std.proofs.Common.{◌≡◌, ℕ, ◌≤◌, ◌==◌, not, if◌then◌else◌, inl, inr, Bool, true, false, Option, None, Some, is_some, List, [], ◌∷◌, ◌++◌, length, nat_lt, slice_get, refl, sym, ap, subst, ◌∙◌, arith, append-nil}
use Rattle.std.specs.Io.KnownBytes.{Appends}
use Rattle.std.proofs.KnownBytes.{Appends-trans}
use Rattle.std.proofs.lemmas.Bool.{eqb-false, or_parts, true≢false}
use Rattle.std.proofs.lemmas.Bool.Decides.{eqb_tells}
use Rattle.snap_base.proofs.Options.{some_value}
use Rattle.aml_slice.specs.Controls.{Rest}
use Rattle.crew_parts.specs.Acts.{JournalGoes, OutputGoes, Prints, behind, groups_by, tried_by, tried_at, line_at}
use Rattle.crew_parts.specs.Crews.{IsReady, IsStillDue, JournalIs, OutputIs, PrintedOrBrokeOff, added}
use Rattle.crew_parts.specs.LawsOfRuns.{VerdictsGoOn}
use Rattle.crew_parts.specs.Shares.{OutputState, GetsNoMore}
use Rattle.gate_log.specs.State.{LogState}
use Rattle.protocol.specs.Conditions.{AllTrue, IsAllowed, conditions}
use Rattle.protocol.specs.Effects.{log_at}
use Rattle.protocol.specs.Events.{Event, Sync, Reply, desk, log, footprint}
use Rattle.protocol.specs.Fixed.{Fixed}
use Rattle.protocol.specs.Parts.{Desk, Log, Machine}
use Rattle.protocol.specs.Runs.{reached}
use Rattle.protocol.specs.Verdicts.{verdict}
use Rattle.protocol.specs.Words.{holds, is_among}
use Rattle.run_effects.specs.Groups.{group_by, group_behind, groups_of, waiting}
use Rattle.run_effects.specs.Laws.{GroupsGrow, RepliesGrow, line_by}
use Rattle.run_effects.specs.Lines.{line_in, verdict_line, replies_text}
use Rattle.run_effects.specs.Driven.{IsDriven}
use Rattle.run_effects.proofs.Driving.{driven_join}
use Rattle.snap_outside.specs.Causes.{Rose}
use Rattle.snap_outside.proofs.AtFault.{calls_join}
use Rattle.snap_hand.specs.txn_records.declared.records.Record.{Record}

-- ---- journals

none_shut : {X : Type 0} (b : Bool) (x : X) → b ≡ false → (if b then Some x else None) ≡ None
none_shut b x e = ap (λ z. if z then Some x else None) e

-- the group that was tried is the one that waits
tried_waits : {X : Type 0} (b : Bool) (x : X) (t : Option X) → b ≡ is_some t → ((y : X) → t ≡ Some y → y ≡ x) → (if b then Some x else None) ≡ t
tried_waits b x None e is = ap (λ z. if z then Some x else None) e
tried_waits b x (Some y) e is = ap (λ z. if z then Some x else None) e ∙ ap Some (sym (is y refl))

picked : {X : Type 0} (b : Bool) (x y : X) → (if b then Some x else None) ≡ Some y → y ≡ x
picked true x y e = cc e
picked false x y e = absurd (cc e)

tried_is : (w : Fixed Rest) (es : List Event) (l : ℕ) (e : Event) (g : List Record) → tried_at l e (reached w es) ≡ Some g → g ≡ group_behind w l es
tried_is w es l (Sync k) g is = picked (k == l) (group_behind w l es) g is
tried_is w es l e g is = absurd (cc is)

-- an event that touches no log gives it no group
pub no_group : (logs l : ℕ) (e : Event) (s : Machine Rest) → is_among (log l) (footprint logs e) ≡ false → group_by l e s ≡ []
no_group logs l (Sync k) s h =
    let other : (log k == log l) ≡ false = (or_parts (log k == log l) false h).0 in
    elim (eqb_tells k l) [
      | inl same ↦ absurd (eqb-false (log k) (log l) other (ap log same.1))
      | inr not ↦ ap (λ b. if b then waiting (log_at s l) ∷ [] else []) not.0
    ]
no_group logs l e s h = refl

module _ (w : Fixed Rest) (grow : GroupsGrow w) (es : List Event) (e : Event) where
  pub grown_by : (done : Bool) (l : ℕ) → groups_of w l (es ++ added done e) ≡ groups_of w l es ++ groups_by l done e (reached w es)
  grown_by true l = grow l es e
  grown_by false l = ap (groups_of w l) (append-nil es) ∙ sym (append-nil (groups_of w l es))

  -- its journal goes on
  pub journal_goes : (done : Bool) (l : ℕ) (j0 j1 j2 : Option LogState) → JournalIs w es l j0 j1 → JournalGoes l done e (reached w es) j1 j2
      → JournalIs w (es ++ added done e) l j0 j2
  journal_goes done l None j1 j2 is goes = absurd is
  journal_goes done l (Some a) None j2 is goes = absurd is
  journal_goes done l (Some a) (Some b) None is goes = absurd goes
  journal_goes done l (Some a) (Some b) (Some c) is goes =
      let before : IsDriven a b (groups_of w l es) None = subst (IsDriven a b (groups_of w l es)) (none_shut b.shut (group_behind w l es) goes.0) is in
      let joined = driven_join a b c (groups_of w l es) (groups_by l done e (reached w es)) (tried_by l done e (reached w es)) before goes.1 in
      subst (λ gs. IsDriven a c gs (if c.shut then Some (group_behind w l (es ++ added done e)) else None)) (sym (grown_by done l))
      (subst (IsDriven a c (groups_of w l es ++ groups_by l done e (reached w es))) (sym (tried_now done c.shut goes.1.shut)) joined) where
        tried_now : (done : Bool) (b : Bool) → b ≡ is_some (tried_by l done e (reached w es)) → (if b then Some (group_behind w l (es ++ added done e)) else None) ≡ tried_by l done e (reached w es)
        tried_now true b shut = none_shut b (group_behind w l (es ++ added true e)) shut
        tried_now false b shut =
            tried_waits b (group_behind w l (es ++ [])) (tried_at l e (reached w es)) shut (λ g is. tried_is w es l e g is ∙ ap (group_behind w l) (sym (append-nil es)))

  -- it stays, where the event gives it no group, and what waits is as before
  pub journal_stays : (done : Bool) (l : ℕ) (j0 j1 : Option LogState) → groups_by l done e (reached w es) ≡ [] → group_behind w l (es ++ added done e) ≡ group_behind w l es
      → JournalIs w es l j0 j1 → JournalIs w (es ++ added done e) l j0 j1
  journal_stays done l None j1 none same is = absurd is
  journal_stays done l (Some a) None none same is = absurd is
  journal_stays done l (Some a) (Some b) none same is =
      subst (λ gs. IsDriven a b gs (if b.shut then Some (group_behind w l (es ++ added done e)) else None))
      (sym (grown_by done l ∙ (ap (λ gs. groups_of w l es ++ gs) none ∙ append-nil (groups_of w l es))))
      (subst (λ g. IsDriven a b (groups_of w l es) (if b.shut then Some g else None)) (sym same) is)

-- ---- the Sync that is still to come

due_of : (w : Fixed Rest) (l : ℕ) (done : Bool) (e : Event) (s : Machine Rest) → true ≡ is_some (tried_by l done e s) → IsAllowed w e s → IsAllowed w (Sync l) (behind w done e s)
due_of w l true e s tried ok = absurd (cc tried)
due_of w l false (Sync k) s tried ok = elim (eqb_tells k l) [
  | inl same ↦ subst (λ i. IsAllowed w (Sync i) s) same.1 ok
  | inr not ↦ absurd (true≢false (tried ∙ ap (λ b. is_some (if b then Some (waiting (log_at s l)) else None)) not.0))
]
due_of w l false e s tried ok = absurd (cc tried)

-- it is the one whose append met a fault
pub due_goes : (w : Fixed Rest) (l : ℕ) (done : Bool) (e : Event) (s t : Machine Rest) (j0 j1 : Option LogState) → t ≡ behind w done e s → IsAllowed w e s → JournalGoes l done e s j0 j1 → IsStillDue w t l j1
due_goes w l done e s t None j1 state ok goes = absurd goes
due_goes w l done e s t (Some a) None state ok goes = absurd goes
due_goes w l done e s t (Some a) (Some b) state ok goes = λ shut. subst (IsAllowed w (Sync l)) (sym state) (due_of w l done e s (sym shut ∙ goes.1.shut) ok)

sync_allowed : (w : Fixed Rest) (l : ℕ) (s t : Machine Rest) → slice_get s.logs l ≡ slice_get t.logs l → IsAllowed w (Sync l) s → IsAllowed w (Sync l) t
unfolding conditions
sync_allowed w l s t same ok = subst (λ g. AllTrue (holds (λ (x : Log). nat_lt x.synced (length x.records)) g ∷ [])) same ok

-- it stays so, where the log does
pub due_stays : (w : Fixed Rest) (l : ℕ) (s t : Machine Rest) (j : Option LogState) → slice_get s.logs l ≡ slice_get t.logs l → IsStillDue w s l j → IsStillDue w t l j
due_stays w l s t None same due = tt
due_stays w l s t (Some b) same due = λ shut. sync_allowed w l s t same (due shut)

-- none is, where the journal takes appends
pub due_none : (w : Fixed Rest) (l : ℕ) (s : Machine Rest) (j : Option LogState) → IsReady j → IsStillDue w s l j
due_none w l s j ready = subst (IsStillDue w s l) (sym ready.is) (λ shut. absurd (true≢false (sym shut ∙ ready.ready)))

-- ---- the output

-- A reply that is allowed stays so, with its line, where the desk and what is told stay.
reply_stays : (w : Fixed Rest) (es ds : List Event) (tx : ℕ) → (reached w es).desk ≡ (reached w ds).desk → VerdictsGoOn w es ds → IsAllowed w (Reply tx) (reached w es)
    → IsAllowed w (Reply tx) (reached w ds) × (line_in (reached w ds) tx ≡ line_in (reached w es) tx)
unfolding conditions
reply_stays w es ds tx same go ok =
    let told = some_value (verdict tx (reached w es).book (reached w es).desk) ok.1.0 in
    let still = go tx told.0 told.1 in (
      (subst (λ (d : Desk). holds not (slice_get d.replied tx) ≡ true) same ok.0, (ap is_some still, tt)),
      ap (verdict_line tx) (still ∙ sym told.1),
    )

rose_on : (a b c : ℕ) → a ≤ b → Rose b c → Rose a c
rose_on a b c later rose = omega (arith, later, rose)

line_is : (w : Fixed Rest) (es : List Event) (e : Event) → line_at (reached w es) e ≡ line_by w es e
line_is w es (Reply n) = refl
line_is w es e = refl

-- an event that does not touch the desk prints nothing
pub no_line : (w : Fixed Rest) (es : List Event) (logs : ℕ) (e : Event) → is_among desk (footprint logs e) ≡ false → line_by w es e ≡ []
no_line w es logs (Reply n) h = absurd (true≢false h)
no_line w es logs e h = refl

module _ (w : Fixed Rest) (es : List Event) (e : Event) (replies : RepliesGrow w es) (allowed : IsAllowed w e (reached w es)) where
  printed_goes : (done : Bool) (a b c : OutputState) → a.faults ≤ b.faults → b.failed ≡ false → GetsNoMore a b → Appends a.taken b.taken (replies_text w es) → Prints done e (reached w es) b c
      → (a.faults ≤ c.faults) × PrintedOrBrokeOff c.failed w (es ++ added done e) a c × GetsNoMore a c
  printed_goes true a b c later ready once took goes = (
    omega (arith, later, goes.later),
    subst (λ z. PrintedOrBrokeOff z w (es ++ e ∷ []) a c) (sym goes.ready)
        (subst (Appends a.taken c.taken) (sym (replies e allowed ∙ ap (λ l. replies_text w es ++ l) (sym (line_is w es e))))
        (Appends-trans a.taken b.taken c.taken (replies_text w es) (line_at (reached w es) e) took goes.taken)),
    calls_join a.faults a.late b.faults b.late c.faults c.late ready once goes.once,
  )
  printed_goes false a b c later ready once took goes = (
    omega (arith, later, goes.later),
    subst (λ z. PrintedOrBrokeOff z w (es ++ []) a c) (sym goes.failed) (record {
      tx = goes.tx;
      allowed = subst (λ ds. IsAllowed w (Reply goes.tx) (reached w ds)) (sym (append-nil es)) (subst (λ d. IsAllowed w d (reached w es)) goes.is allowed);
      front = goes.front;
      rest = goes.rest;
      line = subst (λ ds. line_in (reached w ds) goes.tx ≡ goes.front ++ goes.rest) (sym (append-nil es)) goes.line;
      taken = subst (λ ds. Appends a.taken c.taken (replies_text w ds ++ goes.front)) (sym (append-nil es))
          (Appends-trans a.taken b.taken c.taken (replies_text w es) goes.front took goes.taken);
      rose = rose_on a.faults b.faults c.faults later goes.rose;
    }),
    calls_join a.faults a.late b.faults b.late c.faults c.late ready once goes.once,
  )

  pub output_goes : (done : Bool) (o0 o1 o2 : Option OutputState) → OutputIs w es o0 o1 → OutputGoes done e (reached w es) o1 o2 → OutputIs w (es ++ added done e) o0 o2
  output_goes done None o1 o2 is goes = absurd is
  output_goes done (Some a) None o2 is goes = absurd is
  output_goes done (Some a) (Some b) None is goes = absurd goes
  output_goes done (Some a) (Some b) (Some c) is goes = printed_goes done a b c is.0 goes.0 is.2 (subst (λ z. PrintedOrBrokeOff z w es a b) goes.0 is.1) goes.1

  -- the event prints nothing
  text_stays : (done : Bool) → line_by w es e ≡ [] → replies_text w (es ++ added done e) ≡ replies_text w es
  text_stays true none = replies e allowed ∙ (ap (λ l. replies_text w es ++ l) none ∙ append-nil (replies_text w es))
  text_stays false none = ap (replies_text w) (append-nil es)

  module _ (done : Bool) (same : (reached w es).desk ≡ (reached w (es ++ added done e)).desk) (go : VerdictsGoOn w es (es ++ added done e)) (none : line_by w es e ≡ []) where
    printed_stays : (failed : Bool) (a b : OutputState) → PrintedOrBrokeOff failed w es a b → PrintedOrBrokeOff failed w (es ++ added done e) a b
    printed_stays true a b is =
        let still = reply_stays w es (es ++ added done e) is.tx same go is.allowed in
        record {
          tx = is.tx;
          allowed = still.0;
          front = is.front;
          rest = is.rest;
          line = still.1 ∙ is.line;
          taken = subst (λ l. Appends a.taken b.taken (l ++ is.front)) (sym (text_stays done none)) is.taken;
          rose = is.rose;
        }
    printed_stays false a b is = subst (Appends a.taken b.taken) (sym (text_stays done none)) is

    pub output_stays : (o0 o1 : Option OutputState) → OutputIs w es o0 o1 → OutputIs w (es ++ added done e) o0 o1
    output_stays None o1 is = absurd is
    output_stays (Some a) None is = absurd is
    output_stays (Some a) (Some b) is = (is.0, printed_stays b.failed a b is.1, is.2)
