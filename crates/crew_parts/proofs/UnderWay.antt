-- A log that is held for its next Sync, or whose journal is shut: until that Sync is recorded no event of the machine touches it.
use Rattle.std.proofs.Common.{◌≡◌, ℕ, ◌<◌, ◌||◌, ◌&&◌, not, inl, inr, Bool, true, false, List, [], ◌∷◌, ◌++◌, length, slice_get, refl, sym, ap, subst, ◌∙◌, arith, append_assoc, append-nil, eq-eqb}
use Rattle.std.proofs.lemmas.Bool.{or_left, or_right}
use Rattle.std.proofs.lemmas.List.Folds.{list_any-append}
use Rattle.snap_base.proofs.Booleans.{or_only}
use Rattle.aml_slice.specs.Controls.{Rest}
use Rattle.crew_parts.specs.Acts.{EachGoes, Happens, meant}
use Rattle.crew_parts.specs.Besides.{is_shut_there}
use Rattle.crew_parts.specs.Crews.{AreFirstShares, HasCome, added, kept}
use Rattle.crew_parts.specs.Devices.{is_shut, is_shut_at}
use Rattle.crew_parts.specs.LawsOfRuns.{LawsOfRuns}
use Rattle.crew_parts.specs.Shares.{ShareState}
use Rattle.crew_parts.specs.declared.acts.Act.{Act}
use Rattle.protocol.specs.Events.{Event, Sync, footprint, log}
use Rattle.protocol.specs.Fixed.{Fixed}
use Rattle.protocol.specs.Moments.{IsUnderWay, NoneTouches}
use Rattle.protocol.specs.Runs.{reached}
use Rattle.protocol.specs.Words.{holds, is_among}
use Rattle.turn_table.specs.Places.{replaced, values}
use Rattle.turn_table.specs.Runs.{AllLeave, May, Run}
use Rattle.crew_parts.proofs.Coming.{acts_come, begins}
use Rattle.crew_parts.proofs.LeftAlone.{kept-append, none-append, none_more, none_touches}
use Rattle.crew_parts.proofs.Replacing.{covered_are_shown}
use Rattle.crew_parts.proofs.Shutting.{found_open, is_sync, shut_after, shut_by, shuts, there}

or_assoc : (x y z : Bool) → ((x || y) || z) ≡ (x || (y || z))
or_assoc true y z = refl
or_assoc false y z = refl

-- nothing more is recorded
pub still_under_way : (logs l : ℕ) (es : List Event) → NoneTouches logs l es → IsUnderWay logs l es
still_under_way logs l es none = record { front = es; rest = []; splits = sym (append-nil es); untouched = none; ends = inl refl }

-- where a crew begins, with what the laws say of its text's runs, and of acts one behind the other
pub record Crew (w : Fixed Rest) : Type 0 where
  pub laws : LawsOfRuns w
  pub start : List ShareState
  pub begun : AreFirstShares w start
  pub join : (xs ys zs : List ShareState) (acts more : List Act) → Run (λ b. footprint w.text.logs (meant b)) (Happens w) xs acts ys → Run (λ b. footprint w.text.logs (meant b)) (Happens w) ys more zs
      → Run (λ b. footprint w.text.logs (meant b)) (Happens w) xs (acts ++ more) zs
  pub cut : (xs zs : List ShareState) (acts more : List Act) → Run (λ b. footprint w.text.logs (meant b)) (Happens w) xs (acts ++ more) zs
      → (ys : List ShareState) × Run (λ b. footprint w.text.logs (meant b)) (Happens w) xs acts ys × Run (λ b. footprint w.text.logs (meant b)) (Happens w) ys more zs

module _ (w : Fixed Rest) (crew : Crew w) (l : ℕ) (within : l < w.text.logs) where
  open crew use {laws, start, begun, join, cut}

  abbrev pub RunTo : List ShareState → List Act → List ShareState → Type 0
  RunTo xs acts ys = Run (λ b. footprint w.text.logs (meant b)) (Happens w) xs acts ys

  abbrev touches : Act → List ℕ
  touches a = footprint w.text.logs (meant a)

  pub come : (acts : List Act) (xs : List ShareState) → RunTo start acts xs → HasCome w start (kept acts) xs
  come acts xs run = acts_come w laws start acts [] start xs (begins w laws start begun) run

  -- the log is there
  pub long : (acts : List Act) (xs : List ShareState) → RunTo start acts xs → log l < length xs
  long acts xs run = omega (arith, within, (come acts xs run).many, begun.many)

  -- what an act makes of its parts, behind others
  goes : (front : List Act) (xs : List ShareState) → RunTo start front xs → (a : Act) (made : List ShareState) → May touches (Happens w) (slice_get xs) a made
      → EachGoes w (reached w (kept front)) a.done (meant a) (touches a) (values (slice_get xs) (touches a)) made
  goes front xs run a made may =
      let here = come front xs run in
      (may.1.goes (reached w (kept front)) (laws.lead (kept front) here.run) (covered_are_shown w (reached w (kept front)) (slice_get xs) (touches a) here.parts may.0)).1

  -- an act finds each log open that it touches
  open_before : (front : List Act) (xs : List ShareState) → RunTo start front xs → (a : Act) (made : List ShareState) → May touches (Happens w) (slice_get xs) a made
      → is_among (log l) (touches a) ≡ true → is_shut_at xs l ≡ false
  open_before front xs run a made may = found_open w (reached w (kept front)) a xs made may.0 (goes front xs run a made may) l within

  -- ---- when it is shut

  one_act : (front : List Act) (xs : List ShareState) → RunTo start front xs → (a : Act) (made : List ShareState) → May touches (Happens w) (slice_get xs) a made
      → is_shut_at (replaced xs (touches a) made) l ≡ (is_shut_at xs l || shuts l a)
  one_act front xs run a made may = shut_after w (reached w (kept front)) a xs made may.0 (goes front xs run a made may) l within (long front xs run)

  shut_on : (front acts : List Act) (xs ys : List ShareState) → RunTo start front xs → RunTo xs acts ys → is_shut_at ys l ≡ (is_shut_at xs l || shut_by l acts)
  shut_on front [] xs ys first run = ap (λ zs. is_shut_at zs l) (sym run) ∙ sym (or_only (is_shut_at xs l) false refl)
  shut_on front (a ∷ more) xs ys first run =
      let now = replaced xs (touches a) run.0 in
      shut_on (front ++ a ∷ []) more now ys (join start xs now front (a ∷ []) first (run.0, run.1, refl)) run.2
      ∙ (ap (λ b. b || shut_by l more) (one_act front xs first a run.0 run.1) ∙ or_assoc (is_shut_at xs l) (shuts l a) (shut_by l more))

  begins_open : is_shut_at start l ≡ false
  begins_open =
      let x = there start (log l) (long [] start refl) in
      let ready = begun.journals l x.0 within x.1 in
      ap (holds is_shut) x.1 ∙ (ap is_shut_there ready.is ∙ ready.ready)

  -- the acts tell it
  pub shut_told : (acts : List Act) (xs : List ShareState) → RunTo start acts xs → is_shut_at xs l ≡ shut_by l acts
  shut_told acts xs run = shut_on [] acts start xs refl run ∙ ap (λ b. b || shut_by l acts) begins_open

  pub shut_stays : (acts more : List Act) → shut_by l acts ≡ true → shut_by l (acts ++ more) ≡ true
  shut_stays acts more shut = list_any-append (shuts l) acts more ∙ or_left (shut_by l acts) (shut_by l more) shut

  -- ---- until its next Sync

  not_touched : (b : Bool) → (b ≡ true → false ≡ true) → b ≡ false
  not_touched true h = sym (h refl)
  not_touched false h = refl

  shut_leaves : (front acts : List Act) (xs ys : List ShareState) → RunTo start front xs → RunTo xs acts ys → is_shut_at xs l ≡ true → NoneTouches w.text.logs l (kept acts)
  shut_leaves front [] xs ys first run shut = tt
  shut_leaves front (a ∷ more) xs ys first run shut =
      let now = replaced xs (touches a) run.0 in
      none_more w.text.logs l a.done (meant a) (kept more) (not_touched (is_among (log l) (touches a)) (λ among. sym (open_before front xs first a run.0 run.1 among) ∙ shut))
      (shut_leaves (front ++ a ∷ []) more now ys (join start xs now front (a ∷ []) first (run.0, run.1, refl)) run.2
      (one_act front xs first a run.0 run.1 ∙ or_left (is_shut_at xs l) (shuts l a) shut))

  -- behind acts that leave it shut nothing touches it
  pub once_shut : (acts more : List Act) (ys : List ShareState) → RunTo start (acts ++ more) ys → shut_by l acts ≡ true → NoneTouches w.text.logs l (kept more)
  once_shut acts more ys run shut =
      let parts = cut start ys acts more run in
      shut_leaves acts more parts.0 ys parts.1 parts.2 (shut_told acts parts.0 parts.1 ∙ shut)

  -- an act that touches it comes behind acts that leave it open
  pub open_then : (acts : List Act) (a : Act) (ys : List ShareState) → RunTo start (acts ++ a ∷ []) ys → is_among (log l) (touches a) ≡ true → shut_by l acts ≡ false
  open_then acts a ys run among =
      let parts = cut start ys acts (a ∷ []) run in
      sym (shut_told acts parts.0 parts.1) ∙ open_before acts parts.0 parts.1 a parts.2.0 parts.2.1 among

  pub fault_shuts : (last : List Act) (a : Act) → meant a ≡ Sync l → a.done ≡ false → shut_by l (last ++ a ∷ []) ≡ true
  fault_shuts last a sync broke =
      list_any-append (shuts l) last (a ∷ [])
      ∙ or_right (shut_by l last) (shuts l a || false) (or_left (shuts l a) false (ap (λ b. is_sync l (meant a) && not b) broke ∙ (ap (λ e. is_sync l e && true) sync ∙ ap (λ b. b && true) (eq-eqb l l refl))))

  -- of the acts behind a Sync that met a fault none touches it, and those before left it alone
  pub broken_alone : (last more : List Act) (a : Act) (rest : List Act) (now : List ShareState) → AllLeave touches (log l) more → meant a ≡ Sync l → a.done ≡ false
      → RunTo start (last ++ a ∷ rest) now → NoneTouches w.text.logs l (kept (more ++ a ∷ rest))
  broken_alone last more a rest now leave sync broke run =
      subst (NoneTouches w.text.logs l) (sym (kept-append more (a ∷ rest) ∙ ap (λ b. kept more ++ (added b (meant a) ++ kept rest)) broke))
      (none-append w.text.logs l (kept more) (kept rest) (none_touches w.text.logs l more leave)
      (once_shut (last ++ a ∷ []) rest now (subst (λ acts. RunTo start acts now) (sym (append_assoc last (a ∷ []) rest)) run) (fault_shuts last a sync broke)))

  -- Behind these acts nothing touches the log, and then its Sync is recorded, with or without a fault.
  pub under_way : (last more : List Act) (a : Act) (rest : List Act) (now : List ShareState) → AllLeave touches (log l) more → meant a ≡ Sync l
      → RunTo start (last ++ a ∷ rest) now → IsUnderWay w.text.logs l (kept (more ++ a ∷ rest))
  under_way last more a rest now leave sync run = by a.done refl
    where
      by : (done : Bool) → a.done ≡ done → IsUnderWay w.text.logs l (kept (more ++ a ∷ rest))
      by true did = record {
        front = kept more;
        rest = Sync l ∷ kept rest;
        splits = kept-append more (a ∷ rest) ∙ ap (λ es. kept more ++ es) (ap (λ b. added b (meant a) ++ kept rest) did ∙ ap (λ e. e ∷ kept rest) sync);
        untouched = none_touches w.text.logs l more leave;
        ends = inr (kept rest, refl);
      }
      by false broke = still_under_way w.text.logs l (kept (more ++ a ∷ rest)) (broken_alone last more a rest now leave sync broke run)
