-- Acts are few. What stands before an event meets a fault at most once at each log and once at the output: the act leaves the journal
-- shut or the output failed, and no act finds it so. All others are a run of the machine.
use Rattle.std.proofs.Common.{◌≡◌, ℕ, zero, suc, ◌+◌, ◌*◌, ◌<◌, ◌≤◌, if◌then◌else◌, inl, inr, ◌⊎◌, ◌||◌, Bool, true, false, is_some, Option, None, Some, List, [], ◌∷◌, ◌++◌, length, length-append, slice_get, slice_index, refl, sym, ap, subst, ◌∙◌, arith, true≢false, nat_lt, lt_of_not-le}
use mathlib.Core.Logic.{dite}
use native.Mathlib.Decide.{dec_le}
use Rattle.std.proofs.lemmas.Bool.{eq-eqb}
use Rattle.std.proofs.lemmas.Option.{slice_get_cases, slice_get_within}
use Rattle.aml_slice.specs.Controls.{Rest}
use Rattle.crew_parts.specs.Acts.{EachGoes, ShareGoes, Happens, OutputGoes, may_break, meant}
use Rattle.crew_parts.specs.Besides.{has_failed_there}
use Rattle.crew_parts.specs.Crews.{AreFirstShares, HasCome, added, kept}
use Rattle.crew_parts.specs.Devices.{is_shut}
use Rattle.crew_parts.specs.LawsOfRuns.{LawsOfRuns}
use Rattle.crew_parts.specs.Shares.{OutputState, ShareState}
use Rattle.crew_parts.specs.declared.acts.Act.{Act}
use Rattle.protocol.specs.Conditions.{IsAllowed, conditions}
use Rattle.protocol.specs.Effects.{log_at}
use Rattle.protocol.specs.Events.{Event, Sync, Reply, desk, log, footprint}
use Rattle.protocol.specs.Fixed.{Fixed}
use Rattle.protocol.specs.Footprints.{HasLogs}
use Rattle.protocol.specs.Parts.{Log, Machine}
use Rattle.protocol.specs.Runs.{reached}
use Rattle.protocol.specs.Words.{holds, is_among}
use Rattle.machine_laws.specs.protocol_theorems.Left.{most_events}
use Rattle.snap_hand.proofs.core_rows.Found.{held}
use Rattle.run_effects.specs.Groups.{waiting}
use Rattle.turn_table.specs.Places.{Ascending, Covers, Stand, count_if, numbers, replaced, values}
use Rattle.turn_table.specs.Runs.{Run}
use Rattle.crew_parts.proofs.Coming.{acts_come, begins, one_act}
use Rattle.crew_parts.proofs.Shutting.{journal_tells, there}
use Rattle.crew_parts.proofs.Replacing.{GoesTo, as_long, came_from, covered_are_shown, goes_as_many, replaced_tells}

-- ---- at how many numbers a test is true

-- those below n
abbrev count_below : ℕ → (ℕ → Bool) → ℕ
count_below zero f = 0
count_below (suc n) f = count_if (f n) + count_below n f

one_at_most : (b : Bool) → count_if b ≤ 1
one_at_most true = omega arith
one_at_most false = omega arith

if_so : (a b : Bool) → (a ≡ true → b ≡ true) → count_if a ≤ count_if b
if_so true b h = let same = ap count_if (h refl) in omega arith
if_so false b h = omega arith

count_at_most : (n : ℕ) (f : ℕ → Bool) → count_below n f ≤ n
count_at_most zero f = omega arith
count_at_most (suc n) f = let one = one_at_most (f n) in let others = count_at_most n f in omega arith

count_no_less : (n : ℕ) (f g : ℕ → Bool) → ((l : ℕ) → l < n → f l ≡ true → g l ≡ true) → count_below n f ≤ count_below n g
count_no_less zero f g h = omega arith
count_no_less (suc n) f g h =
    let one = if_so (f n) (g n) (h n (omega arith)) in
    let others = count_no_less n f g (λ l within. h l (omega (arith, within))) in
    omega arith

count_more : (n k : ℕ) (f g : ℕ → Bool) → k < n → ((l : ℕ) → l < n → f l ≡ true → g l ≡ true) → f k ≡ false → g k ≡ true → count_below n f + 1 ≤ count_below n g
count_more zero k f g within h was is = absurd (omega (arith, within))
count_more (suc n) k f g within h was is = dite (dec_le n k)
    (λ le. (
    let here : k ≡ n = omega (arith, le, within) in
    let old : count_if (f n) ≡ 0 = ap (λ i. count_if (f i)) (sym here) ∙ ap count_if was in
    let new : count_if (g n) ≡ 1 = ap (λ i. count_if (g i)) (sym here) ∙ ap count_if is in
    let others = count_no_less n f g (λ l less. h l (omega (arith, less))) in
    omega arith))
    (λ nle. (
    let one = if_so (f n) (g n) (h n (omega arith)) in
    let others = count_more n k f g (lt_of_not-le nle) (λ l less. h l (omega (arith, less))) was is in
    omega arith))

-- ---- how many logs are shut, and whether the output has failed

abbrev has_failed : ShareState → Bool
has_failed x = has_failed_there x.beside.output

abbrev faults : ℕ → List ShareState → ℕ
faults logs xs = count_below logs (λ l. holds is_shut (slice_get xs (log l))) + count_if (holds has_failed (slice_get xs desk))

printed_false : (e : Event) (s : Machine Rest) (o p : Option OutputState) → OutputGoes false e s o p → has_failed_there p ≡ true
printed_false e s None p goes = absurd goes
printed_false e s (Some a) None goes = absurd goes
printed_false e s (Some a) (Some b) goes = goes.1.failed

not_failed : (done : Bool) (e : Event) (s : Machine Rest) (o p : Option OutputState) → OutputGoes done e s o p → has_failed_there o ≡ false
not_failed done e s None p goes = absurd goes
not_failed done e s (Some a) None goes = absurd goes
not_failed done e s (Some a) (Some b) goes = goes.0

-- which events a fault may come of
which : (e : Event) → may_break e ≡ true → ((k : ℕ) × (e ≡ Sync k)) ⊎ ((n : ℕ) × (e ≡ Reply n))
which (Sync k) h = inl (k, refl)
which (Reply n) h = inr (n, refl)
which e h = absurd (true≢false (sym h))

pub synced_exists : (w : Fixed Rest) (k : ℕ) (s : Machine Rest) → IsAllowed w (Sync k) s → k < length s.logs
unfolding conditions
synced_exists w k s ok = let there = held (λ (g : Log). nat_lt g.synced (length g.records)) (slice_get s.logs k) ok.0 in slice_get_within s.logs k there.0 there.1

covered_is_there : (xs : List ShareState) (i : ℕ) (is : List ℕ) → Covers (slice_get xs) (i ∷ is) → i < length xs
covered_is_there xs i is covers = let c = slice_get_cases xs i in elim c.1 [
  | inl x ↦ x.1
  | inr past ↦ absurd (true≢false (sym covers.0 ∙ ap is_some past.1))
]

-- ---- one act

module _ (w : Fixed Rest) (s : Machine Rest) (done : Bool) (e : Event) (xs made : List ShareState) (covers : Covers (slice_get xs) (footprint w.text.logs e))
    (goes : EachGoes w s done e (footprint w.text.logs e) (values (slice_get xs) (footprint w.text.logs e)) made)
  where
    abbrev touches : List ℕ
    touches = footprint w.text.logs e

    abbrev now : List ShareState
    now = replaced xs touches made

    tells : (i : ℕ) (y : ShareState) → slice_get now i ≡ Some y → GoesTo i y touches made ⊎ ((slice_get xs i ≡ Some y) × (is_among i touches ≡ false))
    tells i y = replaced_tells xs touches made i y (goes_as_many w s done e touches (values (slice_get xs) touches) made goes)

    -- what is true of no part that an act finds stays true
    stays : (i : ℕ) (test : ShareState → Bool) → ((x y : ShareState) → ShareGoes w s done e i x y → test x ≡ false) → holds test (slice_get xs i) ≡ true → holds test (slice_get now i) ≡ true
    stays i test none was =
        let x = held test (slice_get xs i) was in
        let y = there now i (omega (arith, slice_get_within xs i x.0 x.1, as_long xs touches made)) in
        elim (tells i y.0 y.1) [
          | inl to ↦ (
              let old = came_from w s done e (slice_get xs) touches made i y.0 covers goes to in
              absurd (true≢false (sym was ∙ (ap (holds test) old.1 ∙ none old.0 y.0 old.2))))
          | inr here ↦ ap (holds test) y.1 ∙ (sym (ap (holds test) here.0) ∙ was)
        ]

    -- what each makes true of a part that it touches
    turns : (i : ℕ) (test : ShareState → Bool) → i < length xs → is_among i touches ≡ true → ((x y : ShareState) → ShareGoes w s done e i x y → (test x ≡ false) × (test y ≡ true))
        → (holds test (slice_get xs i) ≡ false) × (holds test (slice_get now i) ≡ true)
    turns i test within among each =
        let y = there now i (omega (arith, within, as_long xs touches made)) in
        elim (tells i y.0 y.1) [
          | inl to ↦ (
              let old = came_from w s done e (slice_get xs) touches made i y.0 covers goes to in
              let told = each old.0 y.0 old.2 in
              (ap (holds test) old.1 ∙ told.0, ap (holds test) y.1 ∙ told.1))
          | inr here ↦ absurd (true≢false (sym among ∙ here.1))
        ]

    shut_stays : (l : ℕ) → l < w.text.logs → holds is_shut (slice_get xs (log l)) ≡ true → holds is_shut (slice_get now (log l)) ≡ true
    shut_stays l within = stays (log l) is_shut (λ x y to. (journal_tells l done e s x.beside.journal y.beside.journal (to.journal l within refl)).0)

    failed_stays : holds has_failed (slice_get xs desk) ≡ true → holds has_failed (slice_get now desk) ≡ true
    failed_stays = stays desk has_failed (λ x y to. not_failed done e s x.beside.output y.beside.output (to.output refl))

    no_less : faults w.text.logs xs ≤ faults w.text.logs now
    no_less =
        let logs = count_no_less w.text.logs (λ l. holds is_shut (slice_get xs (log l))) (λ l. holds is_shut (slice_get now (log l))) shut_stays in
        let output = if_so (holds has_failed (slice_get xs desk)) (holds has_failed (slice_get now desk)) failed_stays in
        omega arith

-- the journal of the log whose Sync met a fault
one_shut : (w : Fixed Rest) (s : Machine Rest) (k : ℕ) (xs made : List ShareState) → HasLogs w s → IsAllowed w (Sync k) s → (covers : Covers (slice_get xs) (log k ∷ []))
    → EachGoes w s false (Sync k) (log k ∷ []) (values (slice_get xs) (log k ∷ [])) made → faults w.text.logs xs + 1 ≤ faults w.text.logs (replaced xs (log k ∷ []) made)
one_shut w s k xs made has ok covers goes =
    let within : k < w.text.logs = omega (arith, synced_exists w k s ok, has) in
    let one = turns w s false (Sync k) xs made covers goes (log k) is_shut (covered_is_there xs (log k) [] covers) (ap (λ b. b || false) (eq-eqb (log k) (log k) refl)) (λ x y to. (
    let told = journal_tells k false (Sync k) s x.beside.journal y.beside.journal (to.journal k within refl) in
    (told.0, told.1 ∙ ap (λ b. is_some (if b then Some (waiting (log_at s k)) else None)) (eq-eqb k k refl)))) in
    let logs = count_more w.text.logs k (λ l. holds is_shut (slice_get xs (log l))) (λ l. holds is_shut (slice_get (replaced xs (log k ∷ []) made) (log l))) within
    (shut_stays w s false (Sync k) xs made covers goes) one.0 one.1 in
    let output = if_so (holds has_failed (slice_get xs desk)) (holds has_failed (slice_get (replaced xs (log k ∷ []) made) desk)) (failed_stays w s false (Sync k) xs made covers goes) in
    omega arith

-- the output, at the line of a reply
one_failed : (w : Fixed Rest) (s : Machine Rest) (n : ℕ) (xs made : List ShareState) → (covers : Covers (slice_get xs) (footprint w.text.logs (Reply n)))
    → EachGoes w s false (Reply n) (footprint w.text.logs (Reply n)) (values (slice_get xs) (footprint w.text.logs (Reply n))) made
    → faults w.text.logs xs + 1 ≤ faults w.text.logs (replaced xs (footprint w.text.logs (Reply n)) made)
one_failed w s n xs made covers goes =
    let one = turns w s false (Reply n) xs made covers goes desk has_failed (covered_is_there xs desk [] covers.1) refl (λ x y to. (
      not_failed false (Reply n) s x.beside.output y.beside.output (to.output refl),
      printed_false (Reply n) s x.beside.output y.beside.output (to.output refl),
    )) in
    let logs = count_no_less w.text.logs (λ l. holds is_shut (slice_get xs (log l))) (λ l. holds is_shut (slice_get (replaced xs (footprint w.text.logs (Reply n)) made) (log l)))
    (shut_stays w s false (Reply n) xs made covers goes) in
    let old = ap count_if one.0 in
    let new = ap count_if one.1 in
    omega arith

-- Each act is an event that happened, or one fault more.
one_more : (w : Fixed Rest) (s : Machine Rest) (done : Bool) (e : Event) (xs made : List ShareState) → HasLogs w s → IsAllowed w e s → (done ≡ false → may_break e ≡ true)
    → Covers (slice_get xs) (footprint w.text.logs e) → EachGoes w s done e (footprint w.text.logs e) (values (slice_get xs) (footprint w.text.logs e)) made
    → faults w.text.logs xs + 1 ≤ length (added done e) + faults w.text.logs (replaced xs (footprint w.text.logs e) made)
one_more w s true e xs made has ok broken covers goes = let same = no_less w s true e xs made covers goes in omega arith
one_more w s false e xs made has ok broken covers goes = by (which e (broken refl)) where
  by : ((k : ℕ) × (e ≡ Sync k)) ⊎ ((n : ℕ) × (e ≡ Reply n)) → faults w.text.logs xs + 1 ≤ 0 + faults w.text.logs (replaced xs (footprint w.text.logs e) made)
  by (inl k) =
      let one = one_shut w s k.0 xs made has (subst (λ d. IsAllowed w d s) k.1 ok) (subst (λ d. Covers (slice_get xs) (footprint w.text.logs d)) k.1 covers)
      (subst (λ d. EachGoes w s false d (footprint w.text.logs d) (values (slice_get xs) (footprint w.text.logs d)) made) k.1 goes) in
      subst (λ d. faults w.text.logs xs + 1 ≤ 0 + faults w.text.logs (replaced xs (footprint w.text.logs d) made)) (sym k.1) (omega arith)
  by (inr n) =
      let one = one_failed w s n.0 xs made (subst (λ d. Covers (slice_get xs) (footprint w.text.logs d)) n.1 covers)
      (subst (λ d. EachGoes w s false d (footprint w.text.logs d) (values (slice_get xs) (footprint w.text.logs d)) made) n.1 goes) in
      subst (λ d. faults w.text.logs xs + 1 ≤ 0 + faults w.text.logs (replaced xs (footprint w.text.logs d) made)) (sym n.1) (omega arith)

-- ---- all acts

module _ (w : Fixed Rest) (laws : LawsOfRuns w) (start : List ShareState) where
  each_counts : (acts : List Act) (es : List Event) (xs ys : List ShareState) → HasCome w start es xs → Run (λ b. footprint w.text.logs (meant b)) (Happens w) xs acts ys
      → length acts + faults w.text.logs xs ≤ length (kept acts) + faults w.text.logs ys
  each_counts [] es xs ys come run = let same = ap (faults w.text.logs) run in omega arith
  each_counts (a ∷ more) es xs ys come run =
      let s = reached w es in
      let e = meant a in
      let is = footprint w.text.logs e in
      let goes = run.1.1.goes s (laws.lead es come.run) (covered_are_shown w s (slice_get xs) is come.parts run.1.0) in
      let one = one_more w s a.done e xs run.0 (laws.runs.logs es come.run) goes.0 run.1.1.broken run.1.0 goes.1 in
      let others = each_counts more (es ++ added a.done e) (replaced xs is run.0) ys (one_act w laws start a es xs run.0 come run.1) run.2 in
      let both = length-append (added a.done e) (kept more) in
      omega arith

  pub few_acts : (acts : List Act) (ys : List ShareState) → AreFirstShares w start
      → Run (λ b. footprint w.text.logs (meant b)) (Happens w) start acts ys → length acts ≤ most_events * length w.text.txs + (w.text.logs + 1)
  few_acts acts ys begun run =
      let begin = begins w laws start begun in
      let come = acts_come w laws start acts [] start ys begin run in
      let counted = each_counts acts [] start ys begin run in
      let events = laws.runs.end (kept acts) come.run in
      let shut = count_at_most w.text.logs (λ l. holds is_shut (slice_get ys (log l))) in
      let failed = one_at_most (holds has_failed (slice_get ys desk)) in
      omega arith

-- ---- entries that stand in a history

module _ {E : Type 0} where
  stands_within : (history : List E) (entries : List (ℕ × E)) (i : ℕ) → Stand history entries → i < length entries → slice_index (numbers entries) i < length history
  stands_within history [] i stand within = absurd (omega arith)
  stands_within history (x ∷ xs) zero stand within = slice_get_within history x.0 x.1 stand.0
  stands_within history (x ∷ xs) (suc i) stand within = stands_within history xs i stand.1 (omega arith)

  climbs : (entries : List (ℕ × E)) (i : ℕ) → Ascending entries → i < length entries → i ≤ slice_index (numbers entries) i
  climbs entries zero rises within = omega arith
  climbs entries (suc i) rises within =
      let before = climbs entries i rises (omega (arith, within)) in
      let more = rises i (suc i) (omega arith) within in
      omega arith

  -- they are no more than it has
  pub no_more : (history : List E) (entries : List (ℕ × E)) (n : ℕ) → Stand history entries → Ascending entries → length entries ≡ n → n ≤ length history
  no_more history entries zero stand rises long = omega arith
  no_more history entries (suc n) stand rises long =
      let last = climbs entries n rises (omega (arith, long)) in
      let within = stands_within history entries n stand (omega (arith, long)) in
      omega arith
