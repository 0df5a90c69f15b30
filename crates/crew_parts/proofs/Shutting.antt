-- When the journal of a log is shut: where an act before was its Sync, and met a fault. An act touches only a log whose journal is open.
use Rattle.std.proofs.Common.{◌≡◌, ℕ, ◌<◌, ◌==◌, ◌&&◌, ◌||◌, not, if◌then◌else◌, inl, inr, Bool, true, false, is_some, Option, None, Some, List, [], ◌∷◌, length, slice_get, refl, sym, ap, subst, ◌∙◌, arith, true≢false}
use Rattle.std.proofs.lemmas.Bool.{eqb-false, eqb-true, or_parts}
use Rattle.std.proofs.lemmas.Bool.Decides.{eqb_tells}
use Rattle.std.proofs.lemmas.Option.{slice_get_cases}
use Rattle.std.specs.List.{list_any}
use Rattle.snap_base.proofs.Options.{some_value}
use Rattle.snap_base.proofs.Booleans.{or_only}
use Rattle.aml_slice.specs.Controls.{Rest}
use Rattle.crew_parts.specs.Acts.{EachGoes, ShareGoes, JournalGoes, meant, tried_at, tried_by}
use Rattle.crew_parts.specs.Besides.{is_shut_there}
use Rattle.crew_parts.specs.Devices.{is_shut, is_shut_at}
use Rattle.crew_parts.specs.Shares.{ShareState}
use Rattle.crew_parts.specs.declared.acts.Act.{Act}
use Rattle.gate_log.specs.State.{LogState}
use Rattle.protocol.specs.Effects.{log_at}
use Rattle.protocol.specs.Events.{Event, Sync, footprint, log}
use Rattle.protocol.specs.Fixed.{Fixed}
use Rattle.protocol.specs.Parts.{Machine}
use Rattle.protocol.specs.Words.{holds, is_among}
use Rattle.run_effects.specs.Groups.{waiting}
use Rattle.turn_table.specs.Places.{Covers, before, replaced, values}
use Rattle.crew_parts.proofs.Replacing.{as_long, came_from, goes_as_many, replaced_tells}

-- ---- which acts leave a journal shut

abbrev pub is_sync : ℕ → Event → Bool
is_sync l (Sync k) = k == l
is_sync l e = false

pub sync_is : (l : ℕ) (e : Event) → is_sync l e ≡ true → e ≡ Sync l
sync_is l (Sync k) h = ap Sync (eqb-true k l h)
sync_is l e h = absurd (true≢false (sym h))

-- the act is a Sync of log l that met a fault
abbrev pub shuts : ℕ → Act → Bool
shuts l a = is_sync l (meant a) && not a.done

-- one of them is
abbrev pub shut_by : ℕ → List Act → Bool
shut_by l acts = list_any (shuts l) acts

some_if : {X : Type 0} (b : Bool) (x : X) → is_some (if b then Some x else None) ≡ b
some_if true x = refl
some_if false x = refl

tried_fault : (l : ℕ) (e : Event) (s : Machine Rest) → is_some (tried_at l e s) ≡ is_sync l e
tried_fault l (Sync k) s = some_if (k == l) (waiting (log_at s l))
tried_fault l e s = refl

and_not : (x y : Bool) → y ≡ true → (x && not y) ≡ false
and_not true y h = ap not h
and_not false y h = refl

and_so : (x y : Bool) → y ≡ false → (x && not y) ≡ x
and_so true y h = ap not h
and_so false y h = refl

pub tried_shuts : (l : ℕ) (done : Bool) (e : Event) (s : Machine Rest) → is_some (tried_by l done e s) ≡ (is_sync l e && not done)
tried_shuts l true e s = sym (and_not (is_sync l e) true refl)
tried_shuts l false e s = tried_fault l e s ∙ sym (and_so (is_sync l e) false refl)

-- an event that does not touch the log is no Sync of it
pub touched_by_sync : (logs l : ℕ) (e : Event) → is_among (log l) (footprint logs e) ≡ false → is_sync l e ≡ false
touched_by_sync logs l (Sync k) none = elim (eqb_tells k l) [
  | inl same ↦ absurd (eqb-false (log k) (log l) (or_parts (log k == log l) false none).0 (ap log same.1))
  | inr other ↦ other.0
]
touched_by_sync logs l e none = refl

-- ---- one act

-- what an act finds, and what it leaves
pub journal_tells : (l : ℕ) (done : Bool) (e : Event) (s : Machine Rest) (j k : Option LogState) → JournalGoes l done e s j k → (is_shut_there j ≡ false) × (is_shut_there k ≡ is_some (tried_by l done e s))
journal_tells l done e s None k goes = absurd goes
journal_tells l done e s (Some a) None goes = absurd goes
journal_tells l done e s (Some a) (Some b) goes = (goes.0, goes.1.shut)

pub there : (xs : List ShareState) (i : ℕ) → i < length xs → (x : ShareState) × (slice_get xs i ≡ Some x)
there xs i within = let c = slice_get_cases xs i in elim c.1 [ inl x ↦ (x.0, x.2) | inr past ↦ absurd (omega (arith, within, past.0)) ]

-- of the parts that an act touches each has gone on
goes_at : (w : Fixed Rest) (s : Machine Rest) (done : Bool) (e : Event) (f : ℕ → Option ShareState) (i : ℕ) (js : List ℕ) (ys : List ShareState) → is_among i js ≡ true → Covers f js
    → EachGoes w s done e js (values f js) ys → (x y : ShareState) × (f i ≡ Some x) × ShareGoes w s done e i x y
goes_at w s done e f i [] ys among covers goes = absurd (true≢false (sym among))
goes_at w s done e f i (j ∷ js) [] among covers goes = absurd (subst (λ o. EachGoes w s done e (j ∷ js) (before o (values f js)) []) (some_value (f j) covers.0).1 goes)
goes_at w s done e f i (j ∷ js) (z ∷ zs) among covers goes =
    let there = some_value (f j) covers.0 in
    let each : EachGoes w s done e (j ∷ js) (there.0 ∷ values f js) (z ∷ zs) = subst (λ o. EachGoes w s done e (j ∷ js) (before o (values f js)) (z ∷ zs)) there.1 goes in
    elim (eqb_tells j i) [
      | inl h ↦ (there.0, z, subst (λ k. f k ≡ Some there.0) h.1 there.1, subst (λ k. ShareGoes w s done e k there.0 z) h.1 each.0)
      | inr h ↦ goes_at w s done e f i js zs (sym (ap (λ b. b || is_among i js) h.0) ∙ among) covers.1 each.1
    ]

module _ (w : Fixed Rest) (s : Machine Rest) (a : Act) (xs made : List ShareState) (covers : Covers (slice_get xs) (footprint w.text.logs (meant a)))
    (goes : EachGoes w s a.done (meant a) (footprint w.text.logs (meant a)) (values (slice_get xs) (footprint w.text.logs (meant a))) made) (l : ℕ) (within : l < w.text.logs)
  where
    abbrev touches : List ℕ
    touches = footprint w.text.logs (meant a)

    abbrev now : List ShareState
    now = replaced xs touches made

    -- a log that it touches is open before it
    pub found_open : is_among (log l) touches ≡ true → is_shut_at xs l ≡ false
    found_open among =
        let at = goes_at w s a.done (meant a) (slice_get xs) (log l) touches made among covers goes in
        ap (holds is_shut) at.2 ∙ (journal_tells l a.done (meant a) s at.0.beside.journal at.1.beside.journal (at.3.journal l within refl)).0

    -- it is shut behind the act where it was before, or where the act shuts it
    pub shut_after : log l < length xs → is_shut_at now l ≡ (is_shut_at xs l || shuts l a)
    shut_after long =
        let y = there now (log l) (omega (arith, long, as_long xs touches made)) in
        elim (replaced_tells xs touches made (log l) y.0 (goes_as_many w s a.done (meant a) touches (values (slice_get xs) touches) made goes) y.1) [
          | inl to ↦ (
              let old = came_from w s a.done (meant a) (slice_get xs) touches made (log l) y.0 covers goes to in
              let told = journal_tells l a.done (meant a) s old.0.beside.journal y.0.beside.journal (old.2.journal l within refl) in
              ap (holds is_shut) y.1 ∙ (told.1 ∙ (tried_shuts l a.done (meant a) s ∙ sym (ap (λ b. b || shuts l a) (ap (holds is_shut) old.1 ∙ told.0)))))
          | inr here ↦ ap (holds is_shut) y.1 ∙ (sym (ap (holds is_shut) here.0) ∙ sym (or_only (is_shut_at xs l) (shuts l a) (ap (λ b. b && not a.done) (touched_by_sync w.text.logs l (meant a) here.1))))
        ]
