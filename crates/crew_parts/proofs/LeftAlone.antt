-- What a log gets and what waits there along events that leave it alone.
use Rattle.std.proofs.Common.{◌≡◌, ℕ, suc, ◌<◌, ◌||◌, Bool, true, false, List, [], ◌∷◌, ◌++◌, length, length-append, refl, sym, ap, subst, ◌∙◌, append_assoc, append-nil, arith, ne_eqb}
use Rattle.aml_slice.specs.Controls.{Rest}
use Rattle.crew_parts.specs.Acts.{meant}
use Rattle.crew_parts.specs.Crews.{added, kept}
use Rattle.crew_parts.specs.LawsOfRuns.{LawsOfRuns}
use Rattle.crew_parts.specs.declared.acts.Act.{Act}
use Rattle.protocol.specs.Effects.{after}
use Rattle.protocol.specs.Events.{Event, footprint, log, part}
use Rattle.protocol.specs.Fixed.{Fixed}
use Rattle.protocol.specs.Moments.{NoneTouches}
use Rattle.protocol.specs.Parts.{Machine}
use Rattle.protocol.specs.Runs.{EachAllowed, IsRun, opening, reached}
use Rattle.protocol.specs.Words.{is_among}
use Rattle.run_effects.specs.Groups.{group_behind, group_by, groups_of, waiting}
use Rattle.turn_table.specs.Places.{IsNoneOf}
use Rattle.turn_table.specs.Runs.{AllLeave}
use Rattle.snap_hand.specs.txn_records.declared.records.Record.{Record}
use Rattle.crew_parts.proofs.Coming.{behind_one}
use Rattle.crew_parts.proofs.Outsides.{no_group}
use Rattle.crew_parts.proofs.PartsStay.{same_log_at}

-- ---- acts one behind the other

pub kept-append : (xs ys : List Act) → kept (xs ++ ys) ≡ kept xs ++ kept ys
kept-append [] ys = refl
kept-append (a ∷ xs) ys = ap (λ es. added a.done (meant a) ++ es) (kept-append xs ys) ∙ sym (append_assoc (added a.done (meant a)) (kept xs) (kept ys))

same_rest : (xs ys zs : List Act) → xs ++ ys ≡ xs ++ zs → ys ≡ zs
same_rest [] ys zs e = e
same_rest (x ∷ xs) ys zs e = same_rest xs ys zs (cc e)

pub later_is : (all now last more rest later : List Act) → all ≡ now ++ later → last ≡ now ++ more → all ≡ last ++ rest → later ≡ more ++ rest
later_is all now last more rest later is front back =
    same_rest now later (more ++ rest) (sym is ∙ (back ∙ (ap (λ acts. acts ++ rest) front ∙ append_assoc now more rest)))

nothing_long : (a : Act) (rest : List Act) → length (a ∷ rest) ≡ 1 → a ∷ rest ≡ a ∷ []
nothing_long a [] e = refl
nothing_long a (b ∷ rest) e = absurd (omega (arith, e))

-- where one is counted, there is one
pub no_more_acts : (before after : List Act) (a : Act) (rest : List Act) (n m : ℕ) → after ≡ before ++ a ∷ rest → n ≡ length before → m ≡ length after → m ≡ suc n → after ≡ before ++ a ∷ []
no_more_acts before after a rest n m is few more one =
    let long = ap length is ∙ length-append before (a ∷ rest) in
    let single : length (a ∷ rest) ≡ 1 = omega (arith, long, few, more, one) in
    is ∙ ap (λ (acts : List Act). before ++ acts) (nothing_long a rest single)

-- ---- events that leave a log

pub none_among : (i : ℕ) (js : List ℕ) → IsNoneOf i js → is_among i js ≡ false
none_among i [] h = refl
none_among i (j ∷ js) h = ap (λ b. b || is_among i js) (ne_eqb j i (λ e. h.0 (sym e))) ∙ none_among i js h.1

module _ (logs l : ℕ) where
  pub none-append : (xs ys : List Event) → NoneTouches logs l xs → NoneTouches logs l ys → NoneTouches logs l (xs ++ ys)
  none-append [] ys a b = b
  none-append (x ∷ xs) ys a b = (a.0, none-append xs ys a.1 b)

  pub none_more : (done : Bool) (e : Event) (es : List Event) → is_among (log l) (footprint logs e) ≡ false → NoneTouches logs l es → NoneTouches logs l (added done e ++ es)
  none_more true e es h rest = (h, rest)
  none_more false e es h rest = rest

  pub none_touches : (acts : List Act) → AllLeave (λ b. footprint logs (meant b)) (log l) acts → NoneTouches logs l (kept acts)
  none_touches [] h = tt
  none_touches (a ∷ acts) h = none_more a.done (meant a) (kept acts) (none_among (log l) (footprint logs (meant a)) h.0) (none_touches acts h.1)

-- ---- what it gets

pub run_front : (w : Fixed Rest) (es more : List Event) (s : Machine Rest) → EachAllowed w (es ++ more) s → EachAllowed w es s
run_front w [] more s run = tt
run_front w (e ∷ es) more s run = (run.0, run_front w es more (after w e s) run.1)

module _ (w : Fixed Rest) (laws : LawsOfRuns w) (l : ℕ) where
  -- it got the same first
  pub groups_on : (es more : List Event) → (later : List (List Record)) × (groups_of w l (es ++ more) ≡ groups_of w l es ++ later)
  groups_on es [] = ([], ap (groups_of w l) (append-nil es) ∙ sym (append-nil (groups_of w l es)))
  groups_on es (e ∷ more) =
      let one = group_by l e (reached w es) in
      let rest = groups_on (es ++ e ∷ []) more in (
        one ++ rest.0,
        ap (groups_of w l) (sym (append_assoc es (e ∷ []) more))
            ∙ (rest.1 ∙ (ap (λ gs. gs ++ rest.0) (laws.runs.grow l es e) ∙ append_assoc (groups_of w l es) one rest.0)),
      )

  module _ (within : l < w.text.logs) where
    one_left : (es : List Event) (e : Event) → IsRun w (es ++ e ∷ []) → is_among (log l) (footprint w.text.logs e) ≡ false
        → (groups_of w l (es ++ e ∷ []) ≡ groups_of w l es) × (group_behind w l (es ++ e ∷ []) ≡ group_behind w l es)
    one_left es e run none =
        let s = reached w es in
        let t = reached w (es ++ e ∷ []) in
        let has = laws.runs.logs es (run_front w es (e ∷ []) (opening w) run) in
        let same : part t (log l) ≡ part s (log l) = subst (λ u. part u (log l) ≡ part s (log l)) (sym (behind_one w es e (opening w))) (laws.leaves e s has (log l) none) in (
          laws.runs.grow l es e ∙ (ap (λ gs. groups_of w l es ++ gs) (no_group w.text.logs l e s none) ∙ append-nil (groups_of w l es)),
          ap waiting (sym (same_log_at w s t has (laws.runs.logs (es ++ e ∷ []) run) l within same)),
        )

    -- it got no more, and the same waits
    pub left_alone : (es more : List Event) → IsRun w (es ++ more) → NoneTouches w.text.logs l more → (groups_of w l (es ++ more) ≡ groups_of w l es) × (group_behind w l (es ++ more) ≡ group_behind w l es)
    left_alone es [] run none = (ap (groups_of w l) (append-nil es), ap (group_behind w l) (append-nil es))
    left_alone es (e ∷ more) run none =
        let at = append_assoc es (e ∷ []) more in
        let all : IsRun w ((es ++ e ∷ []) ++ more) = subst (IsRun w) (sym at) run in
        let one = one_left es e (run_front w (es ++ e ∷ []) more (opening w) all) none.0 in
        let rest = left_alone (es ++ e ∷ []) more all none.1 in (
          ap (groups_of w l) (sym at) ∙ (rest.0 ∙ one.0),
          ap (group_behind w l) (sym at) ∙ (rest.1 ∙ one.1),
        )
