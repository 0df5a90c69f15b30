-- What stands before an event: at a Sync a group for its log, at a reply its line, and else nothing.
use Rattle.std.proofs.Common.{◌≡◌, ◌≢◌, ℕ, zero, suc, ◌<◌, Bool, true, false, if◌then◌else◌, inl, inr, Option, None, Some, List, [], ◌∷◌, length, map, drop, set, get_or, refl, sym, ap, subst, ◌∙◌, arith, nat_lt, nat_eq}
use Rattle.std.specs.Io.KnownBytes.{Appends}
use Rattle.std.proofs.KnownBytes.{Appends-nil}
use Rattle.std.proofs.lemmas.Bool.{eq-eqb}
use Rattle.std.proofs.lemmas.Bool.Decides.{eqb_tells}
use Rattle.std.proofs.lemmas.List.{get_or-set_same, get_or-set_other}
use Rattle.std.proofs.Math.ListN.{length-set}
use Rattle.aml_slice.specs.Controls.{Rest}
use Rattle.gate_log.specs.Device.{MayAppend}
use Rattle.gate_log.specs.declared.logs.AppendNo.{AppendNo}
use Rattle.gate_log.specs.declared.logs.AppendNo.TheVariants as append
use Rattle.snap_core.specs.log_set.Shown.{told_bytes}
use Rattle.protocol.specs.Effects as effects
use Rattle.gate_log.specs.State.{LogState, IsUntouched, AreAllOpen}
use Rattle.protocol.specs.Conditions.{IsAllowed, conditions}
use Rattle.protocol.specs.Events.{Event, Sync}
use Rattle.protocol.specs.Fixed.{Fixed}
use Rattle.protocol.specs.Parts.{Log, Machine}
use Rattle.protocol.specs.Runs.{IsRun, reached}
use Rattle.protocol.specs.Verdicts.{verdict}
use Rattle.protocol.specs.Words.{holds}
use Rattle.run_effects.specs.record_log.Growth.{MayAppendGroup}
use Rattle.run_effects.specs.record_log.GrowthLaws.{GroupGrows, FaultGrows}
use Rattle.run_effects.specs.record_log.Records.{spelled}
use Rattle.run_effects.specs.Groups.{group_by, group_behind}
use Rattle.run_effects.specs.Laws.{line_by}
use Rattle.run_effects.specs.Lines.{line_in, verdict_line}
use Rattle.snap_base.specs.declared.ids.TxNo.{TxNo}
use Rattle.protocol_laws.proofs.machine.TracksKept.{in_range}
use Rattle.snap_outside.specs.Causes.{Rose}
use Rattle.snap_core.specs.core_events.declared.events.Event as code
use Rattle.snap_core.specs.core_events.declared.events.Event.TheVariants as events
use Rattle.snap_core.specs.core_events.Meant.{event_meant}
use Rattle.run_effects.specs.Appending.{IsAppended, IsNotAppended, IsCutOff}
use Rattle.run_effects.specs.Driven.{IsDriven, only_failed, tried_on}
use Rattle.run_effects.specs.RunsOf.{RunsOf}
use Rattle.run_effects.proofs.Driving.{pieces_spelled, driven_same, driven_none, driven_more, driven_cut_off}
use Rattle.solo_host.specs.Drives.{log_at}
use Rattle.solo_host.specs.Outside.{Got, no_group, no_fault, AreLow, AreOfFormat2, IsPrepared, IsGivenUp, IsSynced, IsNotSynced, outside, stop_of}
use Rattle.run_effects.specs.declared.stops.Stop.{Stop}
use Rattle.run_effects.specs.declared.stops.Stop.TheVariants as stop
use Rattle.snap_core.specs.txn_records.declared.records.Record.{Record}

-- ---- one of the logs is changed

here : (logs : List LogState) (l k : ℕ) (b : LogState) (xs : ℕ → List (List Record)) (tried : ℕ → Option (List Record)) → l < length logs → l ≡ k
    → IsDriven (log_at logs l) b (xs l) (tried l) → IsDriven (log_at logs k) (log_at (set logs l b) k) (xs k) (tried k)
here logs l k b xs tried within same driven =
    subst (λ i. IsDriven (log_at logs i) (log_at (set logs l b) i) (xs i) (tried i)) same
    (subst (λ x. IsDriven (log_at logs l) x (xs l) (tried l)) (sym (get_or-set_same logs l b _ within)) driven)

elsewhere : (logs : List LogState) (l k : ℕ) (b : LogState) → l ≢ k → (log_at logs k).shut ≡ false → IsDriven (log_at logs k) (log_at (set logs l b) k) [] None
elsewhere logs l k b other ready =
    subst (λ x. IsDriven (log_at logs k) x [] None) (sym (get_or-set_other logs l k b _ (λ e. other (sym e)))) (driven_same (log_at logs k) ready)

-- the others got nothing
pub got_set : (logs : List LogState) (l : ℕ) (b : LogState) (xs : ℕ → List (List Record)) (tried : ℕ → Option (List Record)) → l < length logs → AreAllOpen logs
    → IsDriven (log_at logs l) b (xs l) (tried l) → ((k : ℕ) → l ≢ k → (xs k ≡ []) × (tried k ≡ None)) → Got logs (set logs l b) xs tried
got_set logs l b xs tried within ready driven others = record {
  many = length-set logs l b;
  each = λ k is. elim (eqb_tells l k) [
    | inl h ↦ here logs l k b xs tried within h.1 driven
    | inr h ↦ subst (λ t. IsDriven (log_at logs k) (log_at (set logs l b) k) (xs k) t) (sym (others k h.1).1)
        (subst (λ gs. IsDriven (log_at logs k) (log_at (set logs l b) k) gs None) (sym (others k h.1).0) (elsewhere logs l k b h.1 (ready k is)))
  ];
}

-- ---- a Sync

if_same : {X : Type 0} (l : ℕ) (x y : X) → (if nat_eq l l then x else y) ≡ x
if_same l x y = ap (λ t. if t then x else y) (eq-eqb l l refl)

if_other : {X : Type 0} (l k : ℕ) (x y : X) → l ≢ k → (if nat_eq l k then x else y) ≡ y
if_other l k x y other = elim (eqb_tells l k) [ inl h ↦ absurd (other h.1) | inr h ↦ ap (λ t. if t then x else y) h.0 ]

pub synced : GroupGrows → (w : Fixed Rest) (es : List Event) (l : ℕ) (logs : List LogState) (b : LogState) → l < length logs → AreAllOpen logs
    → MayAppendGroup (log_at logs l).end (group_behind w l es) → IsAppended (log_at logs l) b (spelled (group_behind w l es)) → IsSynced w es l logs (set logs l b)
synced law w es l logs b within ready may is =
    got_set logs l b (λ k. group_by k (Sync l) (reached w es)) no_fault within ready
    (subst (λ gs. IsDriven (log_at logs l) b gs None) (sym (if_same l (group_behind w l es ∷ []) [])) (driven_more law (log_at logs l) b (group_behind w l es) may is))
    (λ k other. (if_other l k (group_behind w k es ∷ []) [] other, refl))

pub cut_off : FaultGrows → (w : Fixed Rest) (es : List Event) (l : ℕ) (logs : List LogState) (b : LogState) → l < length logs → AreAllOpen logs
    → MayAppendGroup (log_at logs l).end (group_behind w l es) → IsCutOff (log_at logs l) b (spelled (group_behind w l es)) → IsNotSynced w es l (stop.LogFault l) logs (set logs l b)
cut_off law w es l logs b within ready may is = (
  refl,
  subst (λ (x : LogState). Rose (log_at logs l).faults x.faults) (sym (get_or-set_same logs l b _ within)) is.rose,
  got_set logs l b no_group (λ i. tried_on (only_failed l) i (group_behind w i es)) within ready
      (subst (λ t. IsDriven (log_at logs l) b [] t) (sym (if_same l (Some (group_behind w l es)) None)) (driven_cut_off law (log_at logs l) b (group_behind w l es) may is))
      (λ k other. (refl, if_other l k (Some (group_behind w k es)) None other)),
)

pub not_touched : (l : ℕ) (logs : List LogState) (b : LogState) → l < length logs → AreAllOpen logs → IsUntouched (log_at logs l) b → Got logs (set logs l b) no_group no_fault
not_touched l logs b within ready same =
    got_set logs l b no_group no_fault within ready (driven_none (log_at logs l) b same (ready l within)) (λ k other. (refl, refl))

-- the same, in what the code has at hand
at_place : (logs : List LogState) (l : ℕ) (x : LogState) → l < length logs → x ≡ get_or logs l x → log_at logs l ≡ x
at_place [] l x within is = absurd (omega (arith, within))
at_place (y ∷ logs) zero x within is = sym is
at_place (y ∷ logs) (suc l) x within is = at_place logs l x (omega (arith, within)) is

-- it is of format 2
pub of_format : (logs : List LogState) (l : ℕ) (x : LogState) → l < length logs → AreOfFormat2 logs → x ≡ get_or logs l x → x.format ≡ 2
of_format logs l x within all is = subst (λ (y : LogState). y.format ≡ 2) (at_place logs l x within is) (all l within)

abbrev IsWhatWaits : Fixed Rest → ℕ → List Event → List (List ℕ) → Type 0
IsWhatWaits w l es pieces = pieces ≡ map told_bytes (drop (effects.log_at (reached w es) l).synced (effects.log_at (reached w es) l).records)

are_spelled : (w : Fixed Rest) (l : ℕ) (es : List Event) (pieces : List (List ℕ)) → IsWhatWaits w l es pieces → pieces ≡ spelled (group_behind w l es)
are_spelled w l es pieces is = is ∙ pieces_spelled (drop (effects.log_at (reached w es) l).synced (effects.log_at (reached w es) l).records)

may_on : (w : Fixed Rest) (es : List Event) (l : ℕ) (logs : List LogState) → RunsOf w → IsRun w es → l < length logs → AreLow logs → MayAppendGroup (log_at logs l).end (group_behind w l es)
may_on w es l logs runs run within low = runs.fits es l (log_at logs l).end run (low l within)

pub may_append : (w : Fixed Rest) (es : List Event) (l : ℕ) (logs : List LogState) (x : LogState) (pieces : List (List ℕ)) → RunsOf w → IsRun w es
    → l < length logs → AreLow logs → x ≡ get_or logs l x → IsWhatWaits w l es pieces → MayAppend x.end pieces
may_append w es l logs x pieces runs run within low is waits =
    subst (λ (y : LogState). MayAppend y.end pieces) (at_place logs l x within is)
    (subst (MayAppend (log_at logs l).end) (sym (are_spelled w l es pieces waits)) (may_on w es l logs runs run within low).may)

pub has_synced : GroupGrows → (w : Fixed Rest) (es : List Event) (l : ℕ) (logs : List LogState) (x b : LogState) (pieces : List (List ℕ)) → RunsOf w → IsRun w es
    → l < length logs → AreLow logs → AreAllOpen logs → x ≡ get_or logs l x → IsWhatWaits w l es pieces → IsAppended x b pieces → IsSynced w es l logs (set logs l b)
has_synced law w es l logs x b pieces runs run within low ready is waits done =
    synced law w es l logs b within ready (may_on w es l logs runs run within low)
    (subst (λ y. IsAppended y b (spelled (group_behind w l es))) (sym (at_place logs l x within is)) (subst (IsAppended x b) (are_spelled w l es pieces waits) done))

pub has_not_synced : FaultGrows → (w : Fixed Rest) (es : List Event) (l : ℕ) (logs : List LogState) (x b : LogState) (pieces : List (List ℕ)) (why : AppendNo) → RunsOf w → IsRun w es
    → l < length logs → AreLow logs → AreAllOpen logs → x ≡ get_or logs l x → IsWhatWaits w l es pieces → IsNotAppended x b pieces why → IsNotSynced w es l (stop_of why l) logs (set logs l b)
has_not_synced law w es l logs x b pieces append.Device runs run within low ready is waits done =
    cut_off law w es l logs b within ready (may_on w es l logs runs run within low)
    (subst (λ y. IsCutOff y b (spelled (group_behind w l es))) (sym (at_place logs l x within is)) (subst (IsCutOff x b) (are_spelled w l es pieces waits) done))
has_not_synced law w es l logs x b pieces append.Shut runs run within low ready is waits done = absurd done
has_not_synced law w es l logs x b pieces append.Memory runs run within low ready is waits done =
    not_touched l logs b within ready (subst (λ y. IsUntouched y b) (sym (at_place logs l x within is)) done)

-- a log that is synced exists
is_there : {X : Type 0} (test : X → Bool) (x : Option X) → holds test x ≡ true → (y : X) × (x ≡ Some y)
is_there test None is = cc
is_there test (Some y) is = (y, refl)

pub log_exists : (w : Fixed Rest) (l : ℕ) (s : Machine Rest) → IsAllowed w (Sync l) s → l < length s.logs
unfolding conditions
log_exists w l s is = in_range (λ (g : Log). nat_lt g.synced (length g.records)) s.logs l is.0

-- ---- a reply

-- where there is no verdict there is no line
pub no_line : (s : Machine Rest) (n : ℕ) (taken : Option (List ℕ)) → None ≡ verdict n s.book s.desk → Appends taken taken (line_in s n)
no_line s n taken is = subst (λ v. Appends taken taken (verdict_line n v)) is (Appends-nil taken)

-- ---- any other event

-- one that is no Sync and no Reply asks for nothing before it
pub asks_nothing : (w : Fixed Rest) (es : List Event) (e : code.Event) → ((l : ℕ) → e ≢ events.Sync l) → ((n : TxNo) → e ≢ events.Reply n)
    → ((l : ℕ) → group_by l (event_meant e) (reached w es) ≡ []) × (line_by w es (event_meant e) ≡ [])
asks_nothing w es (events.Sync l) sync reply = absurd (sync l refl)
asks_nothing w es (events.Reply n) sync reply = absurd (reply n refl)
asks_nothing w es e sync reply = ((λ l. refl), refl)

-- ---- before a Sync all else stays

pub done_of_sync : (w : Fixed Rest) (es : List Event) (l : ℕ) (old new : List LogState) (taken : Option (List ℕ)) (faults : ℕ) → IsSynced w es l old new
    → IsPrepared w es (Sync l) (outside old taken faults) (outside new taken faults)
done_of_sync w es l old new taken faults is = record { logs = is; printed = Appends-nil taken; later = omega arith }

pub given_up_of_sync : (w : Fixed Rest) (es : List Event) (l : ℕ) (why : Stop) (old new : List LogState) (taken : Option (List ℕ)) (faults : ℕ) → l < length old
    → IsNotSynced w es l why old new → IsGivenUp w es (Sync l) why (outside old taken faults) (outside new taken faults)
given_up_of_sync w es l (stop.LogFault k) old new taken faults within is = record {
  logs = is.2;
  failure = (ap Sync (sym is.0), omega (arith, within, is.0), is.1, Appends-nil taken);
  later = omega arith;
}
given_up_of_sync w es l stop.Memory old new taken faults within is = record { logs = is; failure = Appends-nil taken; later = omega arith }
given_up_of_sync w es l stop.Quiet old new taken faults within is = absurd is
given_up_of_sync w es l stop.OutFault old new taken faults within is = absurd is
