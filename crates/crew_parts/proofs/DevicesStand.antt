-- The devices of a crew's logs stand at a moment of its run.
use Rattle.std.proofs.Common.{◌≡◌, ℕ, suc, ◌<◌, ◌==◌, ◌||◌, ◌&&◌, not, if◌then◌else◌, inl, inr, ◌⊎◌, Bool, true, false, Option, None, Some, List, [], ◌∷◌, ◌++◌, slice_get, refl, sym, ap, subst, ◌∙◌, arith, append_assoc, append-nil, true≢false, eq-eqb}
use mathlib.Core.Logic.{dite}
use native.Mathlib.Decide.{dec_le}
use Rattle.std.proofs.lemmas.Bool.{or_left}
use Rattle.std.proofs.lemmas.List.Folds.{list_any-append}
use Rattle.aml_slice.specs.Controls.{Rest}
use Rattle.crew_parts.specs.Acts.{Happens, groups_by, meant}
use Rattle.crew_parts.specs.Besides.{is_shut_there}
use Rattle.crew_parts.specs.Crews.{JournalIs, added, kept}
use Rattle.crew_parts.specs.Devices.{GrowsThrough, StandsAt, begun_on, is_shut, is_shut_at, journal_in, told_at, told_by}
use Rattle.crew_parts.specs.Shares.{ShareState}
use Rattle.crew_parts.specs.declared.acts.Act.{Act}
use Rattle.gate_log.specs.State.{LogState}
use Rattle.protocol.specs.Events.{Event, Sync, footprint, log}
use Rattle.protocol.specs.Fixed.{Fixed}
use Rattle.protocol.specs.Moments.{IsUnderWay, Moment, NoneTouches}
use Rattle.protocol.specs.Parts.{Machine}
use Rattle.protocol.specs.Runs.{IsRun, reached}
use Rattle.protocol.specs.Words.{holds, is_among}
use Rattle.run_effects.specs.record_log.Growth.{GrewBy, IsNextBegun, begun_groups, end_behind_groups}
use Rattle.run_effects.specs.Groups.{group_behind, group_by, groups_of, waiting}
use Rattle.protocol.specs.Effects.{log_at}
use Rattle.snap_outside.specs.Disk.{DeviceHistory, content, with_ops}
use Rattle.snap_outside.specs.declared.devices.DevOp.{DevOp}
use Rattle.turn_table.specs.Runs.{AllLeave, Run}
use Rattle.snap_hand.specs.txn_records.declared.records.Record.{Record}
use Rattle.crew_parts.proofs.LeftAlone.{groups_on, kept-append, left_alone, none_among, none_touches}
use Rattle.crew_parts.proofs.Outsides.{grown_by}
use Rattle.crew_parts.proofs.Shutting.{is_sync, shut_by, shuts, sync_is, there, touched_by_sync}
use Rattle.crew_parts.proofs.Telling.{Tells, begun_groups_first, begun_groups_on, growth_tells, made_of, next_ops, none_begun, one_whole, tells_between}
use Rattle.crew_parts.proofs.UnderWay.{Crew, broken_alone, come, fault_shuts, long, once_shut, open_then, shut_stays, shut_told, still_under_way, under_way}

-- ---- one log of a crew

module _ (w : Fixed Rest) (crew : Crew w) where
  open crew use {laws, start, join, cut}

  abbrev touches : Act → List ℕ
  touches a = footprint w.text.logs (meant a)

  abbrev RunTo : List ShareState → List Act → List ShareState → Type 0
  RunTo xs acts ys = Run touches (Happens w) xs acts ys

  -- what the journal of log l told as the crew began, behind the groups of before
  pub record WasOpened (l : ℕ) (h : DeviceHistory) (gate : ℕ) (first : List (List Record)) : Type 0 where
    pub share : ShareState
    pub journal : LogState
    pub at : slice_get start (log l) ≡ Some share
    pub is : share.beside.journal ≡ Some journal
    pub grew : GrewBy (Some h) journal.told gate first None
    pub end : journal.end ≡ end_behind_groups gate first

  module _ (l : ℕ) (within : l < w.text.logs) where
    abbrev groups : List Act → List (List Record)
    groups acts = groups_of w l (kept acts)

    abbrev waits_behind : List Act → List Record
    waits_behind acts = group_behind w l (kept acts)

    -- ---- what its share tells

    journal_tells : (h : DeviceHistory) (gate : ℕ) (first : List (List Record)) (o : WasOpened l h gate first) (acts : List Act) (k : Option LogState) → JournalIs w (kept acts) l (Some o.journal) k
        → Tells h gate first (groups acts) (waits_behind acts) (is_shut_there k) (told_by k)
    journal_tells h gate first o acts None none = absurd none
    journal_tells h gate first o acts (Some k) driven = growth_tells h gate first k.told (groups acts) (waits_behind acts) k.shut (driven.grew (Some h) gate first o.grew o.end)

    share_tells : (h : DeviceHistory) (gate : ℕ) (first : List (List Record)) (o : WasOpened l h gate first) (acts : List Act) (xs : List ShareState) → RunTo start acts xs
        → Tells h gate first (groups acts) (waits_behind acts) (is_shut_at xs l) (told_at xs l)
    share_tells h gate first o acts xs run =
        let x = there xs (log l) (long w crew l within acts xs run) in
        let came = (come w crew l within acts xs run).journals l o.share x.0 within o.at x.1 in
        subst (λ y. Tells h gate first (groups acts) (waits_behind acts) (holds is_shut y) (told_by (journal_in y))) (sym x.1)
        (journal_tells h gate first o acts x.0.beside.journal (subst (λ k. JournalIs w (kept acts) l k x.0.beside.journal) o.is came))

    -- ---- what it tells behind one more act that may touch the log, behind others that leave it alone

    no_sync : (l : ℕ) (done : Bool) (e : Event) (s : Machine Rest) → is_sync l e ≡ false → groups_by l done e s ≡ []
    no_sync l true (Sync k) s h = ap (λ b. if b then waiting (log_at s l) ∷ [] else []) h
    no_sync l true e s h = refl
    no_sync l false e s h = refl

    none_shuts : (acts : List Act) → AllLeave touches (log l) acts → shut_by l acts ≡ false
    none_shuts [] leave = refl
    none_shuts (a ∷ acts) leave =
        ap (λ b. (b && not a.done) || shut_by l acts) (touched_by_sync w.text.logs l (meant a) (none_among (log l) (touches a) leave.0)) ∙ none_shuts acts leave.1

    module _ (acts more : List Act) (a : Act) (leave : AllLeave touches (log l) more) (ys : List ShareState) (run : RunTo start ((acts ++ more) ++ a ∷ []) ys) where
      abbrev last : List Act
      last = acts ++ more

      abbrev behind_it : List Act
      behind_it = last ++ a ∷ []

      kept_then : kept behind_it ≡ kept last ++ added a.done (meant a)
      kept_then = kept-append last (a ∷ []) ∙ ap (λ es. kept last ++ es) (append-nil (added a.done (meant a)))

      is_run : IsRun w (kept behind_it)
      is_run = (come w crew l within behind_it ys run).run

      last_run : IsRun w (kept last)
      last_run = let parts = cut start ys last (a ∷ []) run in (come w crew l within last parts.0 parts.1).run

      -- those before the act
      alone : (groups last ≡ groups acts) × (waits_behind last ≡ waits_behind acts)
      alone =
          let at = kept-append acts more in
          let both = left_alone w laws l within (kept acts) (kept more) (subst (IsRun w) at last_run) (none_touches w.text.logs l more leave) in
          (ap (groups_of w l) at ∙ both.0, ap (group_behind w l) at ∙ both.1)

      groups_then : groups behind_it ≡ groups acts ++ groups_by l a.done (meant a) (reached w (kept last))
      groups_then =
          ap (groups_of w l) kept_then
          ∙ (grown_by w laws.runs.grow (kept last) (meant a) a.done l ∙ ap (λ gs. gs ++ groups_by l a.done (meant a) (reached w (kept last))) alone.0)

      shut_then : shut_by l behind_it ≡ (shut_by l last || (shuts l a || false))
      shut_then = list_any-append (shuts l) last (a ∷ [])

      shut_last : shut_by l last ≡ shut_by l acts
      shut_last = list_any-append (shuts l) acts more ∙ (ap (λ b. shut_by l acts || b) (none_shuts more leave) ∙ or_none (shut_by l acts))
        where
          or_none : (x : Bool) → (x || false) ≡ x
          or_none true = refl
          or_none false = refl

      module _ (h : DeviceHistory) (gate : ℕ) (first : List (List Record)) (o : WasOpened l h gate first) where
        abbrev TellsNow : Bool → Option DeviceHistory → Type 0
        TellsNow may told = Tells h gate first (groups acts) (waits_behind acts) may told

        here : Tells h gate first (groups behind_it) (waits_behind behind_it) (is_shut_at ys l) (told_at ys l)
        here = share_tells h gate first o behind_it ys run

        -- nothing is added
        same_tells : (may : Bool) → groups behind_it ≡ groups acts → here.begun ≡ [] → TellsNow may (told_at ys l)
        same_tells may same none = record {
          begun = [];
          left = next_ops h gate first (groups acts) (waits_behind acts);
          is = here.is ∙ (ap (λ gs. Some (with_ops h (made_of h gate first gs here.begun))) same ∙ ap (λ ops. Some (with_ops h (made_of h gate first (groups acts) ops))) none);
          front = refl;
          waits = λ e. refl;
        }

        -- the same waits as before
        waiting_tells : (may : Bool) → groups behind_it ≡ groups acts → waits_behind behind_it ≡ waits_behind acts → (may ≡ false → here.begun ≡ []) → TellsNow may (told_at ys l)
        waiting_tells may same still none = record {
          begun = here.begun;
          left = here.left;
          is = here.is ∙ ap (λ gs. Some (with_ops h (made_of h gate first gs here.begun))) same;
          front = ap (λ gs. next_ops h gate first gs (waits_behind acts)) (sym same) ∙ (ap (next_ops h gate first (groups behind_it)) (sym still) ∙ here.front);
          waits = none;
        }

        -- the act is the log's Sync
        sync_tells : meant a ≡ Sync l → TellsNow true (told_at ys l)
        sync_tells sync = by a.done refl
          where
            among : is_among (log l) (touches a) ≡ true
            among = ap (λ e. is_among (log l) (footprint w.text.logs e)) sync ∙ or_left (log l == log l) false (eq-eqb (log l) (log l) refl)

            never : (x : Bool) → ((x && false) || false) ≡ false
            never true = refl
            never false = refl

            by : (done : Bool) → a.done ≡ done → TellsNow true (told_at ys l)
            by true did =
                let opened : shut_by l behind_it ≡ false = shut_then ∙ (ap (λ b. b || (shuts l a || false)) (open_then w crew l within last a ys run among) ∙ ap (λ b. (is_sync l (meant a) && not b) || false) did ∙ never (is_sync l (meant a))) in
                let none = here.waits (shut_told w crew l within behind_it ys run ∙ opened) in
                let one : groups_by l a.done (meant a) (reached w (kept last)) ≡ waits_behind acts ∷ [] =
                ap (λ b. groups_by l b (meant a) (reached w (kept last))) did ∙ (ap (λ e. group_by l e (reached w (kept last))) sync
                ∙ (ap (λ b. if b then waits_behind last ∷ [] else []) (eq-eqb l l refl) ∙ ap (λ g. g ∷ []) alone.1)) in
                record {
                  begun = next_ops h gate first (groups acts) (waits_behind acts);
                  left = [];
                  is = here.is ∙ (ap (λ gs. Some (with_ops h (made_of h gate first gs here.begun))) (groups_then ∙ ap (λ gs. groups acts ++ gs) one)
                      ∙ (ap (λ ops. Some (with_ops h (made_of h gate first (groups acts ++ waits_behind acts ∷ []) ops))) none
                      ∙ ap (λ ops. Some (with_ops h ops)) (one_whole h gate first (groups acts) (waits_behind acts))));
                  front = sym (append-nil (next_ops h gate first (groups acts) (waits_behind acts)));
                  waits = λ e. absurd (true≢false e);
                }
            by false broke =
                let same : kept behind_it ≡ kept last = kept_then ∙ (ap (λ b. kept last ++ added b (meant a)) broke ∙ append-nil (kept last)) in
                waiting_tells true (ap (groups_of w l) same ∙ alone.0) (ap (group_behind w l) same ∙ alone.1) (λ e. absurd (true≢false e))

        -- it is another event
        other_tells : (xs : List ShareState) → RunTo start acts xs → is_sync l (meant a) ≡ false → TellsNow (is_shut_at xs l) (told_at ys l)
        other_tells xs first_run other = by (is_shut_at ys l) refl
          where
            same : groups behind_it ≡ groups acts
            same = groups_then ∙ (ap (λ gs. groups acts ++ gs) (no_sync l a.done (meant a) (reached w (kept last)) other) ∙ append-nil (groups acts))

            shut_same : shut_by l behind_it ≡ shut_by l last
            shut_same = shut_then ∙ (ap (λ b. shut_by l last || ((b && not a.done) || false)) other ∙ or_none (shut_by l last))
              where
                or_none : (x : Bool) → (x || false) ≡ x
                or_none true = refl
                or_none false = refl

            shut_is : is_shut_at xs l ≡ is_shut_at ys l
            shut_is =
                shut_told w crew l within acts xs first_run
                ∙ (sym shut_last ∙ (sym shut_same ∙ sym (shut_told w crew l within behind_it ys run)))

            by : (b : Bool) → is_shut_at ys l ≡ b → TellsNow (is_shut_at xs l) (told_at ys l)
            by false opened = same_tells (is_shut_at xs l) same (here.waits opened)
            by true shut =
                let before : shut_by l last ≡ true = sym shut_same ∙ (sym (shut_told w crew l within behind_it ys run) ∙ shut) in
                let none : NoneTouches w.text.logs l (kept (a ∷ [])) = once_shut w crew l within last (a ∷ []) ys run before in
                let at = kept-append last (a ∷ []) in
                let both = left_alone w laws l within (kept last) (kept (a ∷ [])) (subst (IsRun w) at is_run) none in
                waiting_tells (is_shut_at xs l) same (ap (group_behind w l) at ∙ (both.1 ∙ alone.1)) (λ e. here.waits (sym shut_is ∙ e))

  -- ---- a step, and a later one

  module _ (acts coming all : List Act) (xs end : List ShareState) (joined : all ≡ acts ++ coming) (came : RunTo start acts xs) (whole : RunTo start all end) where
    -- While a worker holds the log it records one more act, behind others that leave the log alone. The device tells something between
    -- what its share told and what it tells then.
    pub record GoesOn (l : ℕ) (told : Option DeviceHistory) : Type 0 where
      pub more : List Act
      pub act : Act
      pub rest : List Act
      pub made : List ShareState
      pub splits : coming ≡ more ++ act ∷ rest
      pub leave : AllLeave touches (log l) more
      pub run : RunTo start ((acts ++ more) ++ act ∷ []) made
      pub through : GrowsThrough (told_at xs l) told (told_at made l)

    -- what was tried at last, where the log is shut
    abbrev tried : ℕ → Option (List Record)
    tried l = if is_shut_at end l then Some (group_behind w l (kept all)) else None

    -- the groups of the log from there on, of which the first waits, where its append has begun
    record Gets (l : ℕ) (has_begun : Bool) : Type 0 where
      later : List (List Record)
      splits : begun_groups (groups_of w l (kept all)) (tried l) ≡ groups_of w l (kept acts) ++ later
      is : has_begun ≡ true → (more : List (List Record)) × (later ≡ group_behind w l (kept acts) ∷ more)

    kept_all : kept all ≡ kept acts ++ kept coming
    kept_all = ap kept joined ∙ kept-append acts coming

    abbrev moment_of : (has_begun : ℕ → Bool) → ((l : ℕ) → has_begun l ≡ true → IsUnderWay w.text.logs l (kept coming)) → Moment w (kept all)
    moment_of has_begun under = record { events = kept acts; later = kept coming; splits = kept_all; has_begun = has_begun; begun = under }

    module _ (l : ℕ) (within : l < w.text.logs) where
      gets_any : Gets l false
      gets_any =
          let on = groups_on w laws l (kept acts) (kept coming) in
          record {
            later = begun_groups on.0 (tried l);
            splits = ap (λ gs. begun_groups gs (tried l)) (ap (groups_of w l) kept_all ∙ on.1) ∙ begun_groups_on (groups_of w l (kept acts)) on.0 (tried l);
            is = λ e. absurd (true≢false (sym e));
          }

      gets_broken : NoneTouches w.text.logs l (kept coming) → is_shut_at end l ≡ true → Gets l true
      gets_broken none shut =
          let both = left_alone w laws l within (kept acts) (kept coming) (subst (IsRun w) kept_all (come w crew l within all end whole).run) none in
          let same = ap (groups_of w l) kept_all ∙ both.0 in
          let waits = ap (group_behind w l) kept_all ∙ both.1 in
          record {
            later = group_behind w l (kept acts) ∷ [];
            splits = ap (λ b. begun_groups (groups_of w l (kept all)) (if b then Some (group_behind w l (kept all)) else None)) shut
                ∙ (ap (λ gs. gs ++ group_behind w l (kept all) ∷ []) same ∙ ap (λ g. groups_of w l (kept acts) ++ g ∷ []) waits);
            is = λ e. ([], refl);
          }

      gets_synced : (more : List Act) (a : Act) (rest : List Act) → coming ≡ more ++ a ∷ rest → AllLeave touches (log l) more → IsRun w (kept (acts ++ more)) → meant a ≡ Sync l → a.done ≡ true → Gets l true
      gets_synced more a rest at leave run_last sync did =
          let now = kept acts in
          let before = kept more in
          let run_before : IsRun w (now ++ before) = subst (IsRun w) (kept-append acts more) run_last in
          let both = left_alone w laws l within now before run_before (none_touches w.text.logs l more leave) in
          let on = groups_on w laws l ((now ++ before) ++ Sync l ∷ []) (kept rest) in
          let events : kept all ≡ ((now ++ before) ++ Sync l ∷ []) ++ kept rest =
          kept_all ∙ (ap (λ fs. now ++ fs) (ap kept at ∙ (kept-append more (a ∷ rest) ∙ ap (λ fs. before ++ fs) (ap (λ b. added b (meant a) ++ kept rest) did ∙ ap (λ e. e ∷ kept rest) sync)))
          ∙ (sym (append_assoc now before (Sync l ∷ kept rest)) ∙ sym (append_assoc (now ++ before) (Sync l ∷ []) (kept rest)))) in
          let one : groups_of w l ((now ++ before) ++ Sync l ∷ []) ≡ groups_of w l now ++ group_behind w l now ∷ [] =
          laws.runs.grow l (now ++ before) (Sync l)
          ∙ (ap (λ b. groups_of w l (now ++ before) ++ (if b then group_behind w l (now ++ before) ∷ [] else [])) (eq-eqb l l refl)
          ∙ (ap (λ gs. gs ++ group_behind w l (now ++ before) ∷ []) both.0 ∙ ap (λ g. groups_of w l now ++ g ∷ []) both.1)) in
          record {
            later = group_behind w l now ∷ begun_groups on.0 (tried l);
            splits = ap (λ gs. begun_groups gs (tried l)) (ap (groups_of w l) events ∙ (on.1 ∙ (ap (λ gs. gs ++ on.0) one ∙ append_assoc (groups_of w l now) (group_behind w l now ∷ []) on.0)))
                ∙ (begun_groups_on (groups_of w l now) (group_behind w l now ∷ on.0) (tried l) ∙ ap (λ gs. groups_of w l now ++ gs) (begun_groups_first (group_behind w l now) on.0 (tried l)));
            is = λ e. (begun_groups on.0 (tried l), refl);
          }

      -- whether one more append has begun, and what the device tells then
      record Placed (told : Option DeviceHistory) : Type 0 where
        has_begun : Bool
        under : has_begun ≡ true → IsUnderWay w.text.logs l (kept coming)
        gets : Gets l has_begun
        tells : (h : DeviceHistory) (gate : ℕ) (first : List (List Record)) → WasOpened l h gate first → Tells h gate first (groups_of w l (kept acts)) (group_behind w l (kept acts)) has_begun told

      abbrev MayHaveBegun : Bool → Option DeviceHistory → Type 0
      MayHaveBegun may told = (h : DeviceHistory) (gate : ℕ) (first : List (List Record)) → WasOpened l h gate first → Tells h gate first (groups_of w l (kept acts)) (group_behind w l (kept acts)) may told

      shut_at_end : shut_by l acts ≡ true → is_shut_at end l ≡ true
      shut_at_end shut = shut_told w crew l within all end whole ∙ (ap (shut_by l) joined ∙ shut_stays w crew l within acts coming shut)

      -- only what shut it has begun
      place_at : (told : Option DeviceHistory) (b : Bool) → is_shut_at xs l ≡ b → MayHaveBegun (is_shut_at xs l) told → Placed told
      place_at told true shut tells =
          let before = sym (shut_told w crew l within acts xs came) ∙ shut in
          let none = once_shut w crew l within acts coming end (subst (λ es. RunTo start es end) joined whole) before in
          record {
            has_begun = true;
            under = λ e. still_under_way w.text.logs l (kept coming) none;
            gets = gets_broken none (shut_at_end before);
            tells = λ h gate first o. subst (λ b. Tells h gate first (groups_of w l (kept acts)) (group_behind w l (kept acts)) b told) shut (tells h gate first o);
          }
      place_at told false opened tells = record {
        has_begun = false;
        under = λ e. absurd (true≢false (sym e));
        gets = gets_any;
        tells = λ h gate first o. subst (λ b. Tells h gate first (groups_of w l (kept acts)) (group_behind w l (kept acts)) b told) opened (tells h gate first o);
      }

      place : (told : Option DeviceHistory) → (told ≡ told_at xs l) ⊎ GoesOn l told → Placed told
      place told (inl same) = place_at told (is_shut_at xs l) refl (λ h gate first o.
          subst (Tells h gate first (groups_of w l (kept acts)) (group_behind w l (kept acts)) (is_shut_at xs l)) (sym same) (share_tells l within h gate first o acts xs came))
      place told (inr g) = by (is_sync l (meant g.act)) refl
        where
          lies : (may : Bool) → ((h : DeviceHistory) (gate : ℕ) (first : List (List Record)) → WasOpened l h gate first → Tells h gate first (groups_of w l (kept acts)) (group_behind w l (kept acts)) may (told_at g.made l)) → MayHaveBegun may told
          lies may tells h gate first o =
              tells_between h gate first (groups_of w l (kept acts)) (group_behind w l (kept acts)) (is_shut_at xs l) may (told_at xs l) told (told_at g.made l)
              (share_tells l within h gate first o acts xs came) (tells h gate first o) g.through

          all_is : all ≡ (acts ++ g.more) ++ g.act ∷ g.rest
          all_is = joined ∙ (ap (λ es. acts ++ es) g.splits ∙ sym (append_assoc acts g.more (g.act ∷ g.rest)))

          whole_run : RunTo start ((acts ++ g.more) ++ g.act ∷ g.rest) end
          whole_run = subst (λ es. RunTo start es end) all_is whole

          gets_of : meant g.act ≡ Sync l → (done : Bool) → g.act.done ≡ done → Gets l true
          gets_of sync true did =
              let parts = cut start g.made (acts ++ g.more) (g.act ∷ []) g.run in
              gets_synced g.more g.act g.rest g.splits g.leave (come w crew l within (acts ++ g.more) parts.0 parts.1).run sync did
          gets_of sync false broke =
              let none = broken_alone w crew l within (acts ++ g.more) g.more g.act g.rest end g.leave sync broke whole_run in
              gets_broken (subst (λ es. NoneTouches w.text.logs l (kept es)) (sym g.splits) none)
              (shut_told w crew l within all end whole
              ∙ (ap (shut_by l) (all_is ∙ sym (append_assoc (acts ++ g.more) (g.act ∷ []) g.rest))
              ∙ shut_stays w crew l within ((acts ++ g.more) ++ g.act ∷ []) g.rest (fault_shuts w crew l within (acts ++ g.more) g.act sync broke)))

          by : (b : Bool) → is_sync l (meant g.act) ≡ b → Placed told
          by true is =
              let sync = sync_is l (meant g.act) is in
              record {
                has_begun = true;
                under = λ e. subst (λ es. IsUnderWay w.text.logs l (kept es)) (sym g.splits) (under_way w crew l within (acts ++ g.more) g.more g.act g.rest end g.leave sync whole_run);
                gets = gets_of sync g.act.done refl;
                tells = lies true (λ h gate first o. sync_tells l within acts g.more g.act g.leave g.made g.run h gate first o sync);
              }
          by false other = place_at told (is_shut_at xs l) refl (lies (is_shut_at xs l) (λ h gate first o. other_tells l within acts g.more g.act g.leave g.made g.run h gate first o xs came other))

      splits_behind : (first : List (List Record)) (b : Bool) (gets : Gets l b) → begun_on w l first (kept all) end ≡ (first ++ groups_of w l (kept acts)) ++ gets.later
      splits_behind first b gets =
          begun_groups_on first (groups_of w l (kept all)) (tried l) ∙ (ap (λ gs. first ++ gs) gets.splits ∙ sym (append_assoc first (groups_of w l (kept acts)) gets.later))

      next_begun : (told : Option DeviceHistory) (b : Bool) (gets : Gets l b) (h : DeviceHistory) (gate : ℕ) (first : List (List Record)) (tells : Tells h gate first (groups_of w l (kept acts)) (group_behind w l (kept acts)) b told)
          → IsNextBegun (end_behind_groups gate (first ++ groups_of w l (kept acts))) gets.later tells.begun
      next_begun told true gets h gate first tells = subst (λ gs. IsNextBegun (end_behind_groups gate (first ++ groups_of w l (kept acts))) gs tells.begun) (sym (gets.is refl).1) (tells.left, tells.front)
      next_begun told false gets h gate first tells =
          subst (IsNextBegun (end_behind_groups gate (first ++ groups_of w l (kept acts))) gets.later) (sym (tells.waits refl)) (none_begun (end_behind_groups gate (first ++ groups_of w l (kept acts))) gets.later)

      -- so it stands at a moment at which this is said of the log
      stands : (told : Option DeviceHistory) (b : Bool) → Gets l b → (has_begun : ℕ → Bool) (under : (k : ℕ) → has_begun k ≡ true → IsUnderWay w.text.logs k (kept coming)) → has_begun l ≡ b
          → (h : DeviceHistory) (gate : ℕ) (first : List (List Record)) → Tells h gate first (groups_of w l (kept acts)) (group_behind w l (kept acts)) b told
          → (made : List DevOp) × (told ≡ Some (with_ops h made)) × StandsAt (moment_of has_begun under) l (content h) gate first (begun_on w l first (kept all) end) made
      stands told b gets has_begun under same h gate first tells = (
        made_of h gate first (groups_of w l (kept acts)) tells.begun,
        tells.is,
        record {
          is_made = record {
            later = gets.later;
            begun = tells.begun;
            splits = splits_behind first b gets;
            so_far = refl;
            next = next_begun told b gets h gate first tells;
            waits = λ e. tells.waits (sym same ∙ e);
          };
          waits = λ e. gets.is (sym same ∙ e);
        },
      )

    -- ---- all logs

    module _ (told : ℕ → Option DeviceHistory) (goes : (l : ℕ) → l < w.text.logs → (told l ≡ told_at xs l) ⊎ GoesOn l (told l)) where
      -- of a log that the text has not nothing has begun
      record OfLog (l : ℕ) : Type 0 where
        has_begun : Bool
        under : has_begun ≡ true → IsUnderWay w.text.logs l (kept coming)
        each : l < w.text.logs → Gets l has_begun
            × ((h : DeviceHistory) (gate : ℕ) (first : List (List Record)) → WasOpened l h gate first → Tells h gate first (groups_of w l (kept acts)) (group_behind w l (kept acts)) has_begun (told l))

      of_log : (l : ℕ) → OfLog l
      of_log l = dite (dec_le (suc l) w.text.logs)
          (λ le. (
          let within : l < w.text.logs = omega (arith, le) in
          let p = place l within (told l) (goes l within) in
          record { has_begun = p.has_begun; under = p.under; each = λ lt. (p.gets, p.tells) }))
          (λ nle. record { has_begun = false; under = λ e. absurd (true≢false (sym e)); each = λ lt. absurd (nle (omega (arith, lt))) })

      -- the moment at which they all stand
      pub record Found : Type 0 where
        pub moment : Moment w (kept all)
        pub so_far : moment.events ≡ kept acts
        pub each : (l : ℕ) → l < w.text.logs → (h : DeviceHistory) (gate : ℕ) (first : List (List Record)) → WasOpened l h gate first
            → (made : List DevOp) × (told l ≡ Some (with_ops h made)) × StandsAt moment l (content h) gate first (begun_on w l first (kept all) end) made

      pub found : Found
      found = record {
        moment = moment_of (λ l. (of_log l).has_begun) (λ l e. (of_log l).under e);
        so_far = refl;
        each = λ l within h gate first o.
            let at = (of_log l).each within in
            stands l within (told l) (of_log l).has_begun at.0 (λ k. (of_log k).has_begun) (λ k e. (of_log k).under e) refl h gate first (at.1 h gate first o);
      }
