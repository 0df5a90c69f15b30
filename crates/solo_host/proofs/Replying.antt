-- A reply leaves all others as they were; so the replies with which a list begins follow one another, and their lines may be printed together.
use Rattle.std.proofs.Common.{◌≡◌, ◌↔◌, ℕ, zero, suc, ◌+◌, ◌-◌, ◌≤◌, ◌<◌, Bool, true, false, not, is_some, Option, None, Some, Contains, ◌⊎◌, inl, inr, List, [], ◌∷◌, ◌++◌, length, take, drop, get_or, slice_get, slice_set, refl, sym, ap, subst, ◌∙◌, arith, append-nil, append_assoc}
use Rattle.std.specs.List.{AllByRecursion}
use Rattle.std.specs.Io.KnownBytes.{Appends}
use Rattle.std.proofs.KnownBytes.{Appends-trans}
use Rattle.std.proofs.Math.Seq.{take-append-add}
use Rattle.std.proofs.lemmas.Bool.{true≢false}
use Rattle.std.proofs.lemmas.List.{length-append, take-append-drop, take-append-le}
use Rattle.aml_slice.specs.Controls.{Rest}
use Rattle.gate_log.specs.State.{LogState}
use Rattle.protocol.specs.Conditions.{AllTrue, IsAllowed, conditions, refusal}
use Rattle.protocol.specs.Effects.{after}
use Rattle.protocol.specs.Events.{Event, Reply}
use Rattle.protocol.specs.Fixed.{Fixed}
use Rattle.protocol.specs.Parts.{Machine}
use Rattle.protocol.specs.Runs.{IsRun, opening, reached}
use Rattle.protocol.specs.Schedule.{AscendByRank, IsBelowEach, Rank, is_rank_below, rank}
use Rattle.protocol.specs.Verdicts.{verdict}
use Rattle.protocol.specs.Words.{holds}
use Rattle.protocol_ready.proofs.Listing.{from_has, to_has}
use Rattle.protocol_ready.specs.Ready.{without}
use Rattle.ready_renewal.proofs.FirstAllowed.{front_first}
use Rattle.run_effects.proofs.RunsLonger.{state_longer}
use Rattle.run_effects.specs.Groups.{groups_of}
use Rattle.run_effects.specs.Lines.{line_in, replies_text}
use Rattle.run_effects.specs.RunsOf.{RunsOf}
use Rattle.run_effects.specs.declared.stops.Stop.TheVariants as stop
use Rattle.snap_core.specs.core_events.declared.events.Event.TheVariants as events
use Rattle.snap_core.specs.ready_renewal.Covering.{Covers, IsFirst}
use Rattle.snap_outside.specs.Causes.{Rose}
use Rattle.solo_host.specs.Outside.{Outside, IsPicked, no_fault, outside}
use Rattle.solo_host.specs.Together.{AreLeading, AreNext, HasTakenThese, IsAheadBy, IsCut, IsDriving, IsMade, IsOver, StartsWith, lines_in}
use Rattle.solo_host.specs.declared.together.Line.{Line}
use Rattle.solo_host.proofs.Driving.{rose_since}
use Rattle.solo_host.proofs.GotGroups.{got_same}
use Rattle.solo_host.proofs.Picking.{goes_on, picked_allowed}

-- ---- what a reply changes

not_again : (l : List Bool) (n : ℕ) → holds not (slice_get (slice_set l n true) n) ≡ true → ⊥
not_again [] n h = cc h
not_again (b ∷ l) zero h = cc h
not_again (b ∷ l) (suc n) h = not_again l n h

at_others : (l : List Bool) (m n : ℕ) → (n ≡ m → ⊥) → slice_get (slice_set l m true) n ≡ slice_get l n
at_others [] m n other = refl
at_others (b ∷ l) zero zero other = absurd (other refl)
at_others (b ∷ l) zero (suc n) other = refl
at_others (b ∷ l) (suc m) zero other = refl
at_others (b ∷ l) (suc m) (suc n) other = at_others l m n (λ e. other (ap suc e))

-- the conditions of every other event stay
stays : (w : Fixed Rest) (n : ℕ) (s : Machine Rest) (f : Event) → (f ≡ Reply n → ⊥) → conditions w f (after w (Reply n) s) ≡ conditions w f s
unfolding after conditions
stays w n s (Reply m) other = ap (λ (o : Option Bool). holds not o ∷ is_some (verdict m s.book s.desk) ∷ []) (at_others s.desk.replied n m (λ e. other (ap Reply e)))
stays w n s f other = refl

another : (w : Fixed Rest) (n : ℕ) (s : Machine Rest) (f : Event) → IsAllowed w f (after w (Reply n) s) → f ≡ Reply n → ⊥
unfolding conditions after
another w n s f now is = not_again s.desk.replied n (subst (λ d. IsAllowed w d (after w (Reply n) s)) is now).0

was_allowed : (w : Fixed Rest) (n : ℕ) (s : Machine Rest) (f : Event) → IsAllowed w f (after w (Reply n) s) → IsAllowed w f s
was_allowed w n s f now = subst AllTrue (stays w n s f (another w n s f now)) now

-- a list that leaves out no event that is allowed leaves none out behind the reply
pub covers_without : (w : Fixed Rest) (n : ℕ) (s : Machine Rest) (list new : List Event)
    → ((e : Event) (es : List Event) (f : Event) → Contains es f → Contains (without e es) f ⊎ (f ≡ e))
    → ((e : Event) (es : List Event) → AscendByRank es → AscendByRank (without e es))
    → new ≡ without (Reply n) list → Covers w s list → Covers w (after w (Reply n) s) new
covers_without w n s list new kept order is c = subst (Covers w (after w (Reply n) s)) (sym is) (record {
  all = λ f now. elim (kept (Reply n) list f (c.all f (was_allowed w n s f now))) [ inl a ↦ a | inr q ↦ absurd (another w n s f now q) ];
  ascends = order (Reply n) list c.ascends;
})

covers_rest : (w : Fixed Rest) (n : ℕ) (s : Machine Rest) (es : List Event) → Covers w s (Reply n ∷ es) → Covers w (after w (Reply n) s) es
covers_rest w n s es c = record {
  all = λ f now. elim (to_has (Reply n ∷ es) f (c.all f (was_allowed w n s f now))) [ inl q ↦ absurd (another w n s f now (sym q)) | inr h ↦ from_has es f h ];
  ascends = c.ascends.1;
}

-- ---- the replies with which a list begins

made_on : ((x : Rank) → is_rank_below x x ≡ false) → (w : Fixed Rest) (n : ℕ) (s : Machine Rest) (xs : List Line) (es : List Event) → StartsWith xs es → IsBelowEach (rank (Reply n)) es
    → AllByRecursion (IsMade w s) xs → AllByRecursion (IsMade w (after w (Reply n) s)) xs
unfolding after
made_on apart w n s [] es first below made = tt
made_on apart w n s (x ∷ xs) [] first below made = absurd first
made_on apart w n s (x ∷ xs) (e ∷ es) first below made =
    let other : Reply x.tx.0 ≡ Reply n → ⊥ = λ q. true≢false (sym (subst (λ (d : Event). is_rank_below (rank (Reply n)) (rank d) ≡ true) (first.0 ∙ q) below.0) ∙ apart (rank (Reply n))) in (
      record { allowed = subst AllTrue (sym (stays w n s (Reply x.tx.0) other)) made.0.allowed; long = made.0.long },
      made_on apart w n s xs es first.1 below.1 made.1,
    )

pub all_next : ((x : Rank) → is_rank_below x x ≡ false) → ((w : Fixed Rest) (e : Event) (s : Machine Rest) → (refusal w e s ≡ 0) ↔ IsAllowed w e s)
    → (w : Fixed Rest) (s : Machine Rest) (xs : List Line) (es : List Event) → StartsWith xs es → AllByRecursion (IsMade w s) xs → Covers w s es → AreNext w s xs
all_next apart ruled w s [] es first made c = tt
all_next apart ruled w s (x ∷ xs) [] first made c = absurd first
all_next apart ruled w s (x ∷ xs) (e ∷ es) first made c =
    let n = x.tx.0 in
    let d : Covers w s (Reply n ∷ es) = subst (λ (y : Event). Covers w s (y ∷ es)) first.0 c in (
      made.0,
      front_first (Some (events.Reply x.tx)) (Reply n ∷ es) ruled refl w s d made.0.allowed,
      all_next apart ruled w (after w (Reply n) s) xs es first.1 (made_on apart w n s xs es first.1 d.ascends.0 made.1) (covers_rest w n s es d),
    )

starts_more : (xs : List Line) (x : Line) (es : List Event) → StartsWith xs es → slice_get es (length xs) ≡ Some (Reply x.tx.0) → StartsWith (xs ++ x ∷ []) es
starts_more [] x [] first h = absurd (cc h)
starts_more [] x (e ∷ es) first h = let q : e ≡ Reply x.tx.0 = cc h in (q, tt)
starts_more (y ∷ xs) x [] first h = absurd first
starts_more (y ∷ xs) x (e ∷ es) first h = (first.0, starts_more xs x es first.1 h)

all_more : {X : Type 0} (P : X → Type 0) (xs : List X) (x : X) → AllByRecursion P xs → P x → AllByRecursion P (xs ++ x ∷ [])
all_more P [] x all is = (is, tt)
all_more P (y ∷ xs) x all is = (all.0, all_more P xs x all.1 is)

lines_more : (s : Machine Rest) (xs : List Line) (x : Line) → lines_in s (xs ++ x ∷ []) ≡ lines_in s xs ++ line_in s x.tx.0
lines_more s [] x = append-nil (line_in s x.tx.0)
lines_more s (y ∷ xs) x = ap (λ t. line_in s y.tx.0 ++ t) (lines_more s xs x) ∙ sym (append_assoc (line_in s y.tx.0) (lines_in s xs) (line_in s x.tx.0))

pub none_leading : (w : Fixed Rest) (s : Machine Rest) (es : List Event) (xs : List Line) (text : List ℕ) → xs ≡ [] → text ≡ [] → AreLeading w s es xs text
none_leading w s es xs text none empty = subst (λ (ys : List Line). AreLeading w s es ys text) (sym none) (record { first = tt; made = tt; text = empty })

pub leading_more : (w : Fixed Rest) (s : Machine Rest) (es : List Event) (xs : List Line) (x : Line) (text new : List ℕ) → AreLeading w s es xs text
    → slice_get es (length xs) ≡ Some (Reply x.tx.0) → IsMade w s x → new ≡ text ++ line_in s x.tx.0 → AreLeading w s es (xs ++ x ∷ []) new
leading_more w s es xs x text new are there made is = record {
  first = starts_more xs x es are.first there;
  made = all_more (IsMade w s) xs x are.made made;
  text = is ∙ (ap (λ t. t ++ line_in s x.tx.0) are.text ∙ sym (lines_more s xs x));
}

pub leading_same : (w : Fixed Rest) (s : Machine Rest) (es : List Event) (xs ys : List Line) (text : List ℕ) → ys ≡ xs → AreLeading w s es xs text → AreLeading w s es ys text
leading_same w s es xs ys text same are = subst (λ (zs : List Line). AreLeading w s es zs text) (sym same) are

-- ---- their lines are printed, and they are taken one after the other

lines_same : (w : Fixed Rest) (n : ℕ) (s : Machine Rest) (xs : List Line) → lines_in (after w (Reply n) s) xs ≡ lines_in s xs
unfolding after
lines_same w n s [] = refl
lines_same w n s (x ∷ xs) = ap (λ t. line_in s x.tx.0 ++ t) (lines_same w n s xs)

first_of_seed : (w : Fixed Rest) (es : List Event) (e : Event) → IsFirst w (reached w es) e → IsPicked w 0 es e
first_of_seed w es e is = record { all = is.all; enabled = is.enabled; place = is.first }

pub behind : (w : Fixed Rest) (es : List Event) (e : Event) → reached w (es ++ e ∷ []) ≡ after w e (reached w es)
behind w es e = state_longer w es (e ∷ []) (opening w)

pub lines_behind : (w : Fixed Rest) (es : List Event) (n : ℕ) (xs : List Line) → lines_in (reached w (es ++ Reply n ∷ [])) xs ≡ lines_in (reached w es) xs
lines_behind w es n xs = ap (λ (s : Machine Rest). lines_in s xs) (behind w es (Reply n)) ∙ lines_same w n (reached w es) xs

split_at : (line more : List ℕ) (left : ℕ) → length line ≤ left → take left (line ++ more) ≡ line ++ take (left - length line) more
split_at line more left h =
    let q : left ≡ length line + (left - length line) = omega (arith, h) in
    ap (λ n. take n (line ++ more)) q ∙ take-append-add line more (left - length line)

module _ (w : Fixed Rest) (es : List Event) (x : Line) (xs : List Line) (left : ℕ) (start now : Outside) (next : AreNext w (reached w es) (x ∷ xs)) (ahead : IsAheadBy w 0 es (take left (lines_in (reached w es) (x ∷ xs))) start now) where
  abbrev line : List ℕ
  line = line_in (reached w es) x.tx.0

  abbrev more : List ℕ
  more = lines_in (reached w es) xs

  picked : IsPicked w 0 es (Reply x.tx.0)
  picked = first_of_seed w es (Reply x.tx.0) next.1

  -- its line is whole
  pub ahead_still : RunsOf w → IsRun w es → x.length ≤ left → IsAheadBy w 0 (es ++ Reply x.tx.0 ∷ []) (take (left - x.length) (lines_in (reached w (es ++ Reply x.tx.0 ∷ [])) xs)) start now
  ahead_still runs run fits =
      let e = Reply x.tx.0 in
      let k : x.length ≡ length line = next.0.long in
      let whole : length line ≤ left = omega (arith, k, fits) in
      let texts : replies_text w (es ++ e ∷ []) ≡ replies_text w es ++ line = runs.replies es run e next.0.allowed in
      let rest : take (left - x.length) (lines_in (reached w (es ++ e ∷ [])) xs) ≡ take (left - length line) more =
      ap (λ n. take (left - n) (lines_in (reached w (es ++ e ∷ [])) xs)) k ∙ ap (take (left - length line)) (lines_behind w es x.tx.0 xs) in
      let both : replies_text w es ++ take left (line ++ more) ≡ replies_text w (es ++ e ∷ []) ++ take (left - x.length) (lines_in (reached w (es ++ e ∷ [])) xs) =
      ap (λ t. replies_text w es ++ t) (split_at line more left whole)
      ∙ (sym (append_assoc (replies_text w es) line (take (left - length line) more)) ∙ (ap (λ t. t ++ take (left - length line) more) (sym texts) ∙ ap (λ t. replies_text w (es ++ e ∷ []) ++ t) (sym rest))) in
      record {
        front = goes_on w 0 es e ahead.front picked;
        logs = got_same start.logs now.logs (λ l. groups_of w l es) (λ l. groups_of w l (es ++ e ∷ [])) no_fault (λ l. sym (runs.grow l es e ∙ append-nil (groups_of w l es))) ahead.logs;
        printed = subst (Appends start.taken now.taken) both ahead.printed;
        later = ahead.later;
      }

  -- it is not
  pub line_cut : left < x.length → IsCut w 0 es start now
  line_cut short =
      let k : x.length ≡ length line = next.0.long in
      let within : left ≤ length line = omega (arith, k, short) in
      record {
        tx = x.tx.0;
        front = take left line;
        rest = drop left line;
        picked = picked;
        line = sym (take-append-drop left line);
        ahead = subst (λ t. IsAheadBy w 0 es t start now) (take-append-le left line more within) ahead;
      }

none_taken : (n : ℕ) → take {A = ℕ} n [] ≡ []
none_taken zero = refl
none_taken (suc n) = refl

-- none is left
pub all_printed : (w : Fixed Rest) (es : List Event) (left : ℕ) (start now : Outside) → IsAheadBy w 0 es (take left []) start now → IsDriving w 0 es start now
all_printed w es left start now ahead = record {
  front = ahead.front;
  logs = ahead.logs;
  printed = subst (Appends start.taken now.taken) (ap (λ t. replies_text w es ++ t) (none_taken left) ∙ append-nil (replies_text w es)) ahead.printed;
  later = ahead.later;
}

-- ---- some are taken

-- Of the replies these are left, and of their lines so many bytes are printed; at first it was `taken` bytes of all lines.
pub record IsBetween (w : Fixed Rest) (es : List Event) (all : List Line) (taken : ℕ) (kept : List Event) (rest : List Line) (left : ℕ) : Type 0 where
  pub next : AreNext w (reached w kept) rest
  pub bytes : left + length (lines_in (reached w es) all) ≡ taken + length (lines_in (reached w kept) rest)
  pub ahead : (start now : Outside) → IsAheadBy w 0 es (take taken (lines_in (reached w es) all)) start now → IsAheadBy w 0 kept (take left (lines_in (reached w kept) rest)) start now

pub all_between : (w : Fixed Rest) (es : List Event) (all : List Line) (taken : ℕ) → AreNext w (reached w es) all → IsBetween w es all taken es all taken
all_between w es all taken next = record { next = next; bytes = refl; ahead = λ start now a. a }

drop_here : (xs : List Line) (i : ℕ) (x : Line) → i < length xs → get_or xs i x ≡ x → drop i xs ≡ x ∷ drop (i + 1) xs
drop_here [] i x h is = absurd (omega (arith, h))
drop_here (y ∷ xs) zero x h is = ap (λ z. z ∷ xs) is
drop_here (y ∷ xs) (suc i) x h is =
    let q : suc (i + 1) ≡ suc i + 1 = omega arith in
    subst (λ n. drop (suc i) (y ∷ xs) ≡ x ∷ drop n (y ∷ xs)) q (drop_here xs i x (omega (arith, h)) is)

module _ (w : Fixed Rest) (es : List Event) (all : List Line) (taken : ℕ) (kept : List Event) (i : ℕ) (x : Line) (left : ℕ) (within : i < length all) (is : get_or all i x ≡ x) (b : IsBetween w es all taken kept (drop i all) left) where
  abbrev xs : List Line
  xs = drop (i + 1) all

  here : IsBetween w es all taken kept (x ∷ xs) left
  here = subst (λ (ys : List Line). IsBetween w es all taken kept ys left) (drop_here all i x within is) b

  joined : length (lines_in (reached w kept) (x ∷ xs)) ≡ length (line_in (reached w kept) x.tx.0) + length (lines_in (reached w kept) xs)
  joined = length-append (line_in (reached w kept) x.tx.0) (lines_in (reached w kept) xs)

  pub here_allowed : IsAllowed w (Reply x.tx.0) (reached w kept)
  here_allowed = here.next.0.allowed

  pub between_on : (new : List Event) → RunsOf w → IsRun w kept → x.length ≤ left → new ≡ kept ++ Reply x.tx.0 ∷ [] → IsBetween w es all taken new xs (left - x.length)
  between_on new runs run fits same =
      let k : x.length ≡ length (line_in (reached w kept) x.tx.0) = here.next.0.long in
      let q : length (lines_in (reached w (kept ++ Reply x.tx.0 ∷ [])) xs) ≡ length (lines_in (reached w kept) xs) = ap length (lines_behind w kept x.tx.0 xs) in
      let was = here.bytes in
      subst (λ (ks : List Event). IsBetween w es all taken ks xs (left - x.length)) (sym same) (record {
        next = subst (λ (s : Machine Rest). AreNext w s xs) (sym (behind w kept (Reply x.tx.0))) here.next.2;
        bytes = omega (arith, was, joined, k, q, fits);
        ahead = λ start now a. ahead_still w kept x xs left start now here.next (here.ahead start now a) runs run fits;
      })

  pub between_cut : left < x.length → (start now : Outside) → IsAheadBy w 0 es (take taken (lines_in (reached w es) all)) start now → IsCut w 0 kept start now
  between_cut short start now a = line_cut w kept x xs left start now here.next (here.ahead start now a) short

  pub cut_short : left < x.length → taken < length (lines_in (reached w es) all)
  cut_short short =
      let k : x.length ≡ length (line_in (reached w kept) x.tx.0) = here.next.0.long in
      let was = here.bytes in
      omega (arith, was, joined, k, short)

none_dropped : (xs : List Line) (i : ℕ) → length xs ≤ i → drop i xs ≡ []
none_dropped [] zero h = refl
none_dropped [] (suc i) h = refl
none_dropped (x ∷ xs) zero h = absurd (omega (arith, h))
none_dropped (x ∷ xs) (suc i) h = none_dropped xs i (omega (arith, h))

module _ (w : Fixed Rest) (es : List Event) (all : List Line) (taken : ℕ) (kept : List Event) (i left : ℕ) (over : length all ≤ i) (b : IsBetween w es all taken kept (drop i all) left) where
  end : IsBetween w es all taken kept [] left
  end = subst (λ (ys : List Line). IsBetween w es all taken kept ys left) (none_dropped all i over) b

  pub between_all : (start now : Outside) → IsAheadBy w 0 es (take taken (lines_in (reached w es) all)) start now → IsDriving w 0 kept start now
  between_all start now a = all_printed w kept left start now (end.ahead start now a)

  pub all_whole : length (lines_in (reached w es) all) ≤ taken
  all_whole = let was = end.bytes in omega (arith, was)

-- ---- of a core's outside

pub written_ahead : (w : Fixed Rest) (es : List Event) (start : Outside) (logs : List LogState) (old new : Option (List ℕ)) (before now : ℕ) (bytes : List ℕ) → IsDriving w 0 es start (outside logs old before)
    → Appends old new bytes → before ≤ now → IsAheadBy w 0 es bytes start (outside logs new now)
written_ahead w es start logs old new before now bytes driving took later = record {
  front = driving.front;
  logs = driving.logs;
  printed = Appends-trans start.taken old new (replies_text w es) bytes driving.printed took;
  later = omega (arith, driving.later, later);
}

pub over_at_cut : (w : Fixed Rest) (es : List Event) (start now : Outside) → IsCut w 0 es start now → Rose start.faults now.faults → IsOver w 0 es stop.OutFault start now
over_at_cut w es start now cut rose = record {
  front = cut.ahead.front;
  why = ((cut.tx, goes_on w 0 es (Reply cut.tx) cut.ahead.front cut.picked), rose);
  logs = (cut.ahead.logs.many, cut.ahead.logs.each);
  printed = (cut.tx, cut.front, cut.rest, goes_on w 0 es (Reply cut.tx) cut.ahead.front cut.picked, cut.line, cut.ahead.printed);
  later = cut.ahead.later;
}

-- what was written of their lines, and what was then taken
module _ (w : Fixed Rest) (es ks : List Event) (same : ks ≡ es) (xs : List Line) (text : List ℕ) (is : text ≡ lines_in (reached w es) xs) (taken : ℕ) (start : Outside) (logs : List LogState) (old new : Option (List ℕ)) (before now : ℕ)
    (driving : IsDriving w 0 es start (outside logs old before)) (took : Appends old new (take taken text)) (later : before ≤ now)
  where
    ahead : IsAheadBy w 0 ks (take taken (lines_in (reached w ks) xs)) start (outside logs new now)
    ahead = subst (λ (ls : List Event). IsAheadBy w 0 ls (take taken (lines_in (reached w ls) xs)) start (outside logs new now)) (sym same)
        (written_ahead w es start logs old new before now (take taken (lines_in (reached w es) xs)) driving (subst (λ t. Appends old new (take taken t)) is took) later)

    pub whole_driving : (kept : List Event) (b : Bool) → b ≡ true → ((start now : Outside) → IsAheadBy w 0 ks (take taken (lines_in (reached w ks) xs)) start now → HasTakenThese w 0 kept start now b) → IsDriving w 0 kept start (outside logs new now)
    whole_driving kept b so goes = subst (HasTakenThese w 0 kept start (outside logs new now)) so (goes start (outside logs new now) ahead)

    pub cut_over : (kept : List Event) (b : Bool) → b ≡ false → ((start now : Outside) → IsAheadBy w 0 ks (take taken (lines_in (reached w ks) xs)) start now → HasTakenThese w 0 kept start now b) → Rose before now → IsOver w 0 kept stop.OutFault start (outside logs new now)
    cut_over kept b so goes rose =
        over_at_cut w kept start (outside logs new now) (subst (HasTakenThese w 0 kept start (outside logs new now)) so (goes start (outside logs new now) ahead)) (rose_since start.faults before now driving.later rose)

pub lines_long : (w : Fixed Rest) (es ks : List Event) → ks ≡ es → (xs : List Line) (text : List ℕ) → text ≡ lines_in (reached w es) xs → length (lines_in (reached w ks) xs) ≡ length text
lines_long w es ks same xs text is = ap (λ (ls : List Event). length (lines_in (reached w ls) xs)) same ∙ ap length (sym is)
