-- What the output of a crew has taken is the lines of the replies so far, and perhaps a front of one more.
use Rattle.std.proofs.Common.{◌≡◌, ℕ, inl, inr, ◌⊎◌, Bool, true, false, Option, None, Some, is_some, List, [], ◌∷◌, ◌++◌, slice_get, refl, sym, ap, subst, ◌∙◌, arith, append_assoc, append-nil}
use Rattle.std.proofs.lemmas.List.{append_cancel_left}
use Rattle.std.specs.Io.KnownBytes.{Appends}
use Rattle.std.proofs.KnownBytes.{Appends-trans}
use Rattle.aml_slice.specs.Controls.{Rest}
use Rattle.crew_parts.specs.Acts.{Happens, OutputGoes, Prints, meant}
use Rattle.crew_parts.specs.Crews.{HasCome, OutputIs, PrintedOrBrokeOff, added, kept}
use Rattle.crew_parts.specs.LawsOfRuns.{LawsOfRuns}
use Rattle.crew_parts.specs.Outputs.{IsFrontOfLine, OutputStands, TakesThrough, output_in, taken_at, taken_by}
use Rattle.crew_parts.specs.Shares.{OutputState, ShareState}
use Rattle.crew_parts.specs.declared.acts.Act.{Act}
use Rattle.protocol.specs.Conditions.{AllTrue, IsAllowed, awaits_reply, conditions}
use Rattle.protocol.specs.Effects.{after}
use Rattle.protocol.specs.Events.{Event, Reply, book, desk, footprint, part}
use Rattle.protocol.specs.Fixed.{Fixed}
use Rattle.protocol.specs.Parts.{Book, Desk, Machine}
use Rattle.protocol.specs.Runs.{EachAllowed, IsRun, opening, reached, state_after}
use Rattle.protocol.specs.Verdicts.{verdict}
use Rattle.protocol.specs.Words.{is_among}
use Rattle.run_effects.specs.Lines.{line_in, replies_text, verdict_line}
use Rattle.turn_table.specs.Places.{replaced, values}
use Rattle.turn_table.specs.Runs.{AllLeave, May, Run}
use Rattle.crew_parts.proofs.Coming.{acts_come, begins, behind_one}
use Rattle.crew_parts.proofs.LeftAlone.{kept-append, none_among, run_front}
use Rattle.crew_parts.proofs.Outsides.{no_line}
use Rattle.crew_parts.proofs.PartsStay.{book_is, desk_is}
use Rattle.crew_parts.proofs.Replacing.{came_from, covered_are_shown, goes_as_many, replaced_tells}
use Rattle.crew_parts.proofs.Shutting.{there}
use Rattle.crew_parts.proofs.UnderWay.{Crew}

-- ---- bytes

no_front : (made left g : List ℕ) → g ≡ made ++ left → g ≡ [] → made ≡ []
no_front [] left g e none = refl
no_front (b ∷ made) left g e none = absurd (cc (sym none ∙ e))

-- What lies between two such lies behind the same text, and is a front of what the second has behind it.
takes_between : (before a told c : Option (List ℕ)) (text f g : List ℕ) → Appends before a (text ++ f) → Appends before c (text ++ g) → TakesThrough a told c
    → (made : List ℕ) × (left : List ℕ) × Appends before told (text ++ made) × (g ≡ made ++ left)
takes_between None a told c text f g p q through = ([], g, tt, refl)
takes_between (Some xs) None told c text f g p q through = absurd p
takes_between (Some xs) (Some ys) None c text f g p q through = absurd through.so_far
takes_between (Some xs) (Some ys) (Some zs) None text f g p q through = absurd q
takes_between (Some xs) (Some ys) (Some zs) (Some vs) text f g p q through =
    let made = f ++ through.made in
    let left = through.left in
    let now : zs ≡ xs ++ (text ++ made) =
    through.so_far ∙ (ap (λ bs. bs ++ through.made) p ∙ (append_assoc xs (text ++ f) through.made ∙ ap (λ bs. xs ++ bs) (append_assoc text f through.made))) in
    let all : xs ++ (text ++ g) ≡ xs ++ (text ++ (made ++ left)) =
    sym q ∙ (through.behind ∙ (ap (λ bs. bs ++ left) now ∙ (append_assoc xs (text ++ made) left ∙ ap (λ bs. xs ++ bs) (append_assoc text made left)))) in
    (made, left, now, append_cancel_left text g (made ++ left) (append_cancel_left xs (text ++ g) (text ++ (made ++ left)) all))

-- ---- fronts

-- behind the lines of the replies a front of one more line, or nothing
abbrev pub HasFront : Fixed Rest → List Event → Option (List ℕ) → Option (List ℕ) → Type 0
HasFront w es before taken = (front : List ℕ) × Appends before taken (replies_text w es ++ front) × ((front ≡ []) ⊎ IsFrontOfLine w es front)

front_stands : (w : Fixed Rest) (es : List Event) (before taken : Option (List ℕ)) → HasFront w es before taken → OutputStands w es before taken
front_stands w es before taken has = elim has.2 [
  | inl none ↦ inl (subst (Appends before taken) (ap (λ f. replies_text w es ++ f) none ∙ append-nil (replies_text w es)) has.1)
  | inr next ↦ inr (has.0, has.1, next)
]

-- a front of a front
shorter : (w : Fixed Rest) (es : List Event) (g made left : List ℕ) → g ≡ made ++ left → (g ≡ []) ⊎ IsFrontOfLine w es g → (made ≡ []) ⊎ IsFrontOfLine w es made
shorter w es g made left is (inl none) = inl (no_front made left g is none)
shorter w es g made left is (inr next) = inr (record {
  tx = next.tx;
  allowed = next.allowed;
  rest = left ++ next.rest;
  line = next.line ∙ (ap (λ bs. bs ++ next.rest) is ∙ append_assoc made left next.rest);
})

between_fronts : (w : Fixed Rest) (es : List Event) (before a told c : Option (List ℕ)) → HasFront w es before a → HasFront w es before c → TakesThrough a told c → HasFront w es before told
between_fronts w es before a told c p q through =
    let at = takes_between before a told c (replies_text w es) p.0 q.0 p.1 q.1 through in
    (at.0, at.2, shorter w es q.0 at.0 at.1 at.3 q.2)

-- where it has failed, what it broke off
printed_front : (w : Fixed Rest) (es : List Event) (failed : Bool) (a b : OutputState) → PrintedOrBrokeOff failed w es a b → HasFront w es a.taken b.taken
printed_front w es true a b is = (is.front, is.taken, inr (record { tx = is.tx; allowed = is.allowed; rest = is.rest; line = is.line }))
printed_front w es false a b is = ([], subst (Appends a.taken b.taken) (sym (append-nil (replies_text w es))) is, inl refl)

pub front_of : (w : Fixed Rest) (es : List Event) (o0 o1 : Option OutputState) → OutputIs w es o0 o1 → HasFront w es (taken_by o0) (taken_by o1)
front_of w es None o1 is = absurd is
front_of w es (Some a) None is = absurd is
front_of w es (Some a) (Some b) is = printed_front w es b.failed a b is.1

-- ---- one act that touches the desk

-- what it prints, as a front that is not whole before the act is recorded
act_prints : (w : Fixed Rest) (es : List Event) (done : Bool) (e : Event) (a b c : OutputState) → IsAllowed w e (reached w es) → Appends a.taken b.taken (replies_text w es) → Prints done e (reached w es) b c
    → HasFront w es a.taken c.taken
act_prints w es true (Reply n) a b c ok took goes =
    let line = line_in (reached w es) n in
    (line, Appends-trans a.taken b.taken c.taken (replies_text w es) line took goes.taken, inr (record { tx = n; allowed = ok; rest = []; line = sym (append-nil line) }))
act_prints w es true e a b c ok took goes = ([], Appends-trans a.taken b.taken c.taken (replies_text w es) [] took goes.taken, inl refl)
act_prints w es false e a b c ok took goes = (
  goes.front,
  Appends-trans a.taken b.taken c.taken (replies_text w es) goes.front took goes.taken,
  inr (record { tx = goes.tx; allowed = subst (λ d. IsAllowed w d (reached w es)) goes.is ok; rest = goes.rest; line = goes.line }),
)

act_front : (w : Fixed Rest) (es : List Event) (done : Bool) (e : Event) (o0 o1 o2 : Option OutputState) → IsAllowed w e (reached w es) → OutputIs w es o0 o1 → OutputGoes done e (reached w es) o1 o2
    → HasFront w es (taken_by o0) (taken_by o2)
act_front w es done e None o1 o2 ok is goes = absurd is
act_front w es done e (Some a) None o2 ok is goes = absurd is
act_front w es done e (Some a) (Some b) None ok is goes = absurd goes
act_front w es done e (Some a) (Some b) (Some c) ok is goes = act_prints w es done e a b c ok (subst (λ z. PrintedOrBrokeOff z w es a b) goes.0 is.1) goes.1

-- ---- events that leave a part

abbrev LeavePart : ℕ → ℕ → List Event → Type 0
LeavePart logs i [] = Unit {0}
LeavePart logs i (e ∷ es) = (is_among i (footprint logs e) ≡ false) × LeavePart logs i es

leave_more : (logs i : ℕ) (done : Bool) (e : Event) (es : List Event) → is_among i (footprint logs e) ≡ false → LeavePart logs i es → LeavePart logs i (added done e ++ es)
leave_more logs i true e es h rest = (h, rest)
leave_more logs i false e es h rest = rest

leave_part : (logs i : ℕ) (acts : List Act) → AllLeave (λ b. footprint logs (meant b)) i acts → LeavePart logs i (kept acts)
leave_part logs i [] h = tt
leave_part logs i (a ∷ acts) h = leave_more logs i a.done (meant a) (kept acts) (none_among i (footprint logs (meant a)) h.0) (leave_part logs i acts h.1)

run_next : (w : Fixed Rest) (es : List Event) (e : Event) (more : List Event) (s : Machine Rest) → EachAllowed w (es ++ e ∷ more) s → IsAllowed w e (state_after w es s)
run_next w [] e more s run = run.0
run_next w (d ∷ es) e more s run = run_next w es e more (after w d s) run.1

module _ (w : Fixed Rest) (laws : LawsOfRuns w) where
  part_left : (i : ℕ) (es more : List Event) → IsRun w (es ++ more) → LeavePart w.text.logs i more → part (reached w (es ++ more)) i ≡ part (reached w es) i
  part_left i es [] run none = ap (λ ds. part (reached w ds) i) (append-nil es)
  part_left i es (e ∷ more) run none =
      let at = append_assoc es (e ∷ []) more in
      let s = reached w es in
      let has = laws.runs.logs es (run_front w es (e ∷ more) (opening w) run) in
      let one : part (reached w (es ++ e ∷ [])) i ≡ part s i = subst (λ u. part u i ≡ part s i) (sym (behind_one w es e (opening w))) (laws.leaves e s has i none.0) in
      ap (λ ds. part (reached w ds) i) (sym at) ∙ (part_left i (es ++ e ∷ []) more (subst (IsRun w) (sym at) run) none.1 ∙ one)

  -- events that leave the desk print nothing
  text_left : (es more : List Event) → IsRun w (es ++ more) → LeavePart w.text.logs desk more → replies_text w (es ++ more) ≡ replies_text w es
  text_left es [] run none = ap (replies_text w) (append-nil es)
  text_left es (e ∷ more) run none =
      let at = append_assoc es (e ∷ []) more in
      let one = laws.runs.replies es (run_front w es (e ∷ more) (opening w) run) e (run_next w es e more (opening w) run) in
      ap (replies_text w) (sym at)
      ∙ (text_left (es ++ e ∷ []) more (subst (IsRun w) (sym at) run) none.1
      ∙ (one ∙ (ap (λ l. replies_text w es ++ l) (no_line w es w.text.logs e none.0) ∙ append-nil (replies_text w es))))

-- ---- a reply where the book and the desk are the same

reply_as : (w : Fixed Rest) (s t : Machine Rest) (tx : ℕ) → s.book ≡ t.book → s.desk ≡ t.desk → IsAllowed w (Reply tx) s → IsAllowed w (Reply tx) t
unfolding conditions
reply_as w s t tx same_book same_desk ok =
    subst (λ (d : Desk). AllTrue (awaits_reply tx d ∷ is_some (verdict tx t.book d) ∷ [])) same_desk
    (subst (λ (b : Book). AllTrue (awaits_reply tx s.desk ∷ is_some (verdict tx b s.desk) ∷ [])) same_book ok)

line_as : (s t : Machine Rest) (tx : ℕ) → s.book ≡ t.book → s.desk ≡ t.desk → line_in s tx ≡ line_in t tx
line_as s t tx same_book same_desk =
    ap (λ (b : Book). verdict_line tx (verdict tx b s.desk)) same_book ∙ ap (λ (d : Desk). verdict_line tx (verdict tx t.book d)) same_desk

front_as : (w : Fixed Rest) (es ds : List Event) (before taken : Option (List ℕ)) → replies_text w es ≡ replies_text w ds → (reached w es).book ≡ (reached w ds).book → (reached w es).desk ≡ (reached w ds).desk
    → HasFront w es before taken → HasFront w ds before taken
front_as w es ds before taken text same_book same_desk has = (has.0, subst (λ bs. Appends before taken (bs ++ has.0)) text has.1, by has.2)
  where
    by : (has.0 ≡ []) ⊎ IsFrontOfLine w es has.0 → (has.0 ≡ []) ⊎ IsFrontOfLine w ds has.0
    by (inl none) = inl none
    by (inr next) = inr (record {
      tx = next.tx;
      allowed = reply_as w (reached w es) (reached w ds) next.tx same_book same_desk next.allowed;
      rest = next.rest;
      line = sym (line_as (reached w es) (reached w ds) next.tx same_book same_desk) ∙ next.line;
    })

-- ---- a crew

module _ (w : Fixed Rest) (crew : Crew w) where
  open crew use {laws, start, begun, cut}

  abbrev touches : Act → List ℕ
  touches a = footprint w.text.logs (meant a)

  abbrev RunTo : List ShareState → List Act → List ShareState → Type 0
  RunTo xs acts ys = Run touches (Happens w) xs acts ys

  come : (acts : List Act) (xs : List ShareState) → RunTo start acts xs → HasCome w start (kept acts) xs
  come acts xs run = acts_come w laws start acts [] start xs (begins w laws start begun) run

  first : (x : ShareState) × (slice_get start desk ≡ Some x)
  first = there start desk (omega (arith, begun.many))

  desk_of : (acts : List Act) (xs : List ShareState) → RunTo start acts xs → (x : ShareState) × (slice_get xs desk ≡ Some x)
  desk_of acts xs run = there xs desk (omega (arith, begun.many, (come acts xs run).many))

  -- as the desk's shares tell it
  at_desks : (es : List Event) (xs : List ShareState) (y : ShareState) → slice_get xs desk ≡ Some y → HasFront w es (taken_by first.0.beside.output) (taken_by y.beside.output) → HasFront w es (taken_at start) (taken_at xs)
  at_desks es xs y at has =
      subst (λ o. HasFront w es (taken_by (output_in o)) (taken_at xs)) (sym first.1)
      (subst (λ o. HasFront w es (taken_by first.0.beside.output) (taken_by (output_in o))) (sym at) has)

  -- what the shares tell to which acts came
  front_told : (acts : List Act) (xs : List ShareState) → RunTo start acts xs → HasFront w (kept acts) (taken_at start) (taken_at xs)
  front_told acts xs run =
      let y = desk_of acts xs run in
      at_desks (kept acts) xs y.0 y.1 (front_of w (kept acts) first.0.beside.output y.0.beside.output ((come acts xs run).output first.0 y.0 first.1 y.1))

  module _ (acts more : List Act) (a : Act) (ys : List ShareState) (leave_book : AllLeave touches book more) (leave_desk : AllLeave touches desk more) (run : RunTo start ((acts ++ more) ++ a ∷ []) ys) where
    -- what they tell behind one more act, behind others that leave the book and the desk alone, in the words of before these
    front_last : HasFront w (kept (acts ++ more)) (taken_at start) (taken_at ys)
    front_last =
        let last = kept (acts ++ more) in
        let s = reached w last in
        let parts = cut start ys (acts ++ more) (a ∷ []) run in
        let mid = parts.0 in
        let came = come (acts ++ more) mid parts.1 in
        let made = parts.2.0 in
        let may : May touches (Happens w) (slice_get mid) a made = parts.2.1 in
        let goes = may.1.goes s (laws.lead last came.run) (covered_are_shown w s (slice_get mid) (touches a) came.parts may.0) in
        let y = desk_of ((acts ++ more) ++ a ∷ []) ys run in
        let at : slice_get (replaced mid (touches a) made) desk ≡ Some y.0 = ap (λ zs. slice_get zs desk) parts.2.2 ∙ y.1 in
        at_desks last ys y.0 y.1 (elim (replaced_tells mid (touches a) made desk y.0 (goes_as_many w s a.done (meant a) (touches a) (values (slice_get mid) (touches a)) made goes.1) at) [
          | inl to ↦ (
              let old = came_from w s a.done (meant a) (slice_get mid) (touches a) made desk y.0 may.0 goes.1 to in
              act_front w last a.done (meant a) first.0.beside.output old.0.beside.output y.0.beside.output goes.0 (came.output first.0 old.0 first.1 old.1) (old.2.output refl))
          | inr here ↦ front_of w last first.0.beside.output y.0.beside.output (came.output first.0 y.0 first.1 here.0)
        ])

    front_next : HasFront w (kept acts) (taken_at start) (taken_at ys)
    front_next =
        let es = kept acts in
        let ds = kept more in
        let joined = kept-append acts more in
        let parts = cut start ys (acts ++ more) (a ∷ []) run in
        let ran : IsRun w (es ++ ds) = subst (IsRun w) joined (come (acts ++ more) parts.0 parts.1).run in
        let off_book = leave_part w.text.logs book more leave_book in
        let off_desk = leave_part w.text.logs desk more leave_desk in
        front_as w (kept (acts ++ more)) es (taken_at start) (taken_at ys)
        (ap (replies_text w) joined ∙ text_left w laws es ds ran off_desk)
        (ap (λ fs. (reached w fs).book) joined ∙ book_is (reached w (es ++ ds)) (reached w es) (part_left w laws book es ds ran off_book))
        (ap (λ fs. (reached w fs).desk) joined ∙ desk_is (reached w (es ++ ds)) (reached w es) (part_left w laws desk es ds ran off_desk))
        front_last

  -- ---- at a step

  pub stands_told : (acts : List Act) (xs : List ShareState) → RunTo start acts xs → (taken : Option (List ℕ)) → taken ≡ taken_at xs → OutputStands w (kept acts) (taken_at start) taken
  stands_told acts xs run taken same =
      front_stands w (kept acts) (taken_at start) taken (subst (HasFront w (kept acts) (taken_at start)) (sym same) (front_told acts xs run))

  pub stands_between : (acts : List Act) (xs : List ShareState) → RunTo start acts xs → (taken : Option (List ℕ)) (more : List Act) (a : Act) (ys : List ShareState) → AllLeave touches book more → AllLeave touches desk more
      → RunTo start ((acts ++ more) ++ a ∷ []) ys → TakesThrough (taken_at xs) taken (taken_at ys) → OutputStands w (kept acts) (taken_at start) taken
  stands_between acts xs run taken more a ys leave_book leave_desk on through =
      front_stands w (kept acts) (taken_at start) taken
      (between_fronts w (kept acts) (taken_at start) (taken_at xs) taken (taken_at ys) (front_told acts xs run) (front_next acts more a ys leave_book leave_desk on) through)
