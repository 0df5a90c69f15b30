-- What a follower takes of several runs: of each run it is seen and closed, and so it is from run to run.
use Rattle.std.specs.Prelude.{◌≡◌, refl, ℕ, ◌<◌, ◌%◌, Bool, true, false, List, [], ◌∷◌, ◌++◌, length, filter}
use Rattle.std.specs.List.{list_any}
use Rattle.std.proofs.Common.{arith, sym, ap, subst, inl, inr, ◌∙◌}
use Rattle.std.proofs.lemmas.Bool.{true≢false, and_parts, and_from, cases_Bool}
use Rattle.snap_base.specs.declared.transactions.Tx.{Tx}
use Rattle.snap_base.specs.declared.transactions.State.{State}
use Rattle.protocol.specs.Facts.{Alone, state_in}
use Rattle.protocol.specs.Fixed.{Opening, Fixed}
use Rattle.protocol.specs.Records.{LogRecord, is_commit, is_act_commit}
use Rattle.protocol.specs.Parts.{Who, OfBatch, OfAct}
use Rattle.protocol.specs.Events.{Event}
use Rattle.protocol.specs.Words.{is_who}
use Rattle.protocol.specs.Effects.{log_at}
use Rattle.protocol.specs.Runs.{reached}
use Rattle.protocol.specs.History.{history}
use Rattle.protocol_laws.proofs.first.Lists.{any_join}
use Rattle.protocol_laws.proofs.machine.TrackLists.{is_who_true}
use Rattle.protocol_records.specs.Telling.{told_states, names, last_one}
use Rattle.protocol_records.specs.Crash.{is_in}
use Rattle.protocol_records.specs.SeveralRuns.{CutRun, logs_left, opening_left}
use Rattle.protocol_records.proofs.crash.RecoversKept.{first_of}
use Rattle.protocol_records.proofs.crash.TellsKept.{told_join}
use Rattle.followed_runs.specs.Following.{Changes, ChangedAhead, StandsAhead}
use Rattle.followed_runs.specs.FollowingRuns.{RunsReading, head_read, tail_read, runs_read, IsLaterRead, members_among, IsCrossed, AllCrossed}
use Rattle.followed_runs.proofs.Ahead.{ahead_first, ahead_second}
use Rattle.followed_runs.proofs.ChangedAhead.{changed_is_ahead, changed_counts, changed_more, changed_back, changes_counts, changes_across, filter_named}
use Rattle.followed_runs.proofs.ReadersFirst.{told_at}
use Rattle.followed_runs.proofs.Seen.{Seen, NoLess, Listed, in_more, told_rest, none_beyond}
use Rattle.followed_runs.proofs.SeenChanged.{changed_seen}
use Rattle.followed_runs.proofs.SetLists.{IsClosedAhead}
use Rattle.followed_runs.proofs.LeftStates.{left_state, actor_there}
use Rattle.followed_runs.proofs.RoundsStand.{Taken}
use Rattle.followed_runs.proofs.RunParts.{Sound, Of, left_long, later_tail, head_listed, head_less, head_sees, is_over, in_cases, in_left, in_right, named_cases, named_left, named_right, Runs, sound, runs_behind, none_in, apart, apart_named, named_apart}

-- ---- one round, over a part of what is read

pub record Step (many : ℕ) (first : ℕ → State) (before now : ℕ → List LogRecord) (taken members : Who → Bool) : Type 0 where
  pub stay : (y : Who) → taken y ≡ true → members y ≡ true
  pub old : (y : Who) → taken y ≡ true → is_in many now y ≡ true → is_in many before y ≡ true
  pub seen : (y : Who) → members y ≡ true → taken y ≡ false → is_in many now y ≡ true → is_in many before y ≡ true
  pub rest_on : (y z : Who) → members y ≡ true → taken y ≡ false → is_in many now y ≡ true → StandsAhead many first now z y → is_in many now z ≡ true → members z ≡ true

-- who has a record in one part does not commit in the other
abbrev pub NamedApart : ℕ → (ℕ → List LogRecord) → (ℕ → List LogRecord) → Type 0
NamedApart many named others = (a : ℕ) (v : Who) → names v (told_states a (named (a % many))) ≡ true → is_in many others v ≡ true → ⊥

same_test : (b c : Bool) → (b ≡ true → c ≡ true) → (c ≡ true → b ≡ true) → b ≡ c
same_test true true f g = refl
same_test false false f g = refl
same_test true false f g = sym (f refl)
same_test false true f g = g refl

pub count_left : (many a : ℕ) (front back : ℕ → List LogRecord) → NamedApart many front back → (v : Who) → names v (told_states a (front (a % many))) ≡ true → is_in many front v ≡ is_in many (λ l. front l ++ back l) v
count_left many a front back p v n = same_test (is_in many front v) (is_in many (λ l. front l ++ back l) v) (λ e. in_left many front back v e) (λ e. elim (in_cases many front back v e) [ inl q ↦ q | inr q ↦ absurd (p a v n q) ])

pub count_right : (many a : ℕ) (front back : ℕ → List LogRecord) → NamedApart many back front → (v : Who) → names v (told_states a (back (a % many))) ≡ true → is_in many back v ≡ is_in many (λ l. front l ++ back l) v
count_right many a front back p v n = same_test (is_in many back v) (is_in many (λ l. front l ++ back l) v) (λ e. in_right many front back v e) (λ e. elim (in_cases many front back v e) [ inl q ↦ absurd (p a v n q) | inr q ↦ q ])

-- who changed an actor ahead of one in the first part did so in the whole
ahead_left : (many : ℕ) (first : ℕ → State) (front back : ℕ → List LogRecord) (z y : Who) → NamedApart many front back → StandsAhead many first front z y → StandsAhead many first (λ l. front l ++ back l) z y
ahead_left many first front back z y p s = (
  s.0,
  subst (ChangedAhead (is_in many (λ l. front l ++ back l)) (first s.0) z y) (sym (told_join s.0 (front (s.0 % many)) (back (s.0 % many))))
      (changed_more (is_in many (λ l. front l ++ back l)) (first s.0) z y (told_states s.0 (front (s.0 % many))) (told_states s.0 (back (s.0 % many)))
      (changed_counts (is_in many front) (is_in many (λ l. front l ++ back l)) (first s.0) z y (told_states s.0 (front (s.0 % many))) (λ v i j. count_left many s.0 front back p v (ahead_first v z (told_states s.0 (front (s.0 % many))) i)) s.1)),
)

-- and in the second part, from the states that the first one tells
ahead_right : (many : ℕ) (first first' : ℕ → State) (front back : ℕ → List LogRecord) (z y : Who) → NamedApart many front back → NamedApart many back front
    → ((a : ℕ) → names y (told_states a (back (a % many))) ≡ true → first' a ≡ last_one (first a) (filter (λ o. is_in many front o.who) (told_states a (front (a % many))))) → StandsAhead many first' back z y → StandsAhead many first (λ l. front l ++ back l) z y
ahead_right many first first' front back z y p q f s = (
  s.0,
  subst (ChangedAhead (is_in many (λ l. front l ++ back l)) (first s.0) z y) (sym (told_join s.0 (front (s.0 % many)) (back (s.0 % many))))
      (changed_back (is_in many (λ l. front l ++ back l)) (first s.0) z y (told_states s.0 (front (s.0 % many))) (told_states s.0 (back (s.0 % many)))
      (subst (λ t. ChangedAhead (is_in many (λ l. front l ++ back l)) t z y (told_states s.0 (back (s.0 % many)))) from
      (changed_counts (is_in many back) (is_in many (λ l. front l ++ back l)) (first' s.0) z y (told_states s.0 (back (s.0 % many))) (λ v i j. count_right many s.0 front back q v (ahead_first v z (told_states s.0 (back (s.0 % many))) i)) s.1))),
)
  where
    named : names y (told_states s.0 (back (s.0 % many))) ≡ true
    named = ahead_second z y (told_states s.0 (back (s.0 % many))) (changed_is_ahead (is_in many back) (first' s.0) z y (told_states s.0 (back (s.0 % many))) s.1)

    from : first' s.0 ≡ last_one (first s.0) (filter (λ o. is_in many (λ l. front l ++ back l) o.who) (told_states s.0 (front (s.0 % many))))
    from = f s.0 named ∙ ap (last_one (first s.0)) (filter_named (is_in many front) (is_in many (λ l. front l ++ back l)) (told_states s.0 (front (s.0 % many))) (λ v n. count_left many s.0 front back p v n))

step_head : (many : ℕ) (first : ℕ → State) (before before' now now' : ℕ → List LogRecord) (taken members : Who → Bool) → ((y : Who) → is_in many now y ≡ true → is_in many before' y ≡ true → ⊥) → NamedApart many now now'
    → Step many first (λ l. before l ++ before' l) (λ l. now l ++ now' l) taken members → Step many first before now taken members
step_head many first before before' now now' taken members n p s = record {
  stay = s.stay;
  old = λ y t i. elim (in_cases many before before' y (s.old y t (in_left many now now' y i))) [ inl e ↦ e | inr e ↦ absurd (n y i e) ];
  seen = λ y m t i. elim (in_cases many before before' y (s.seen y m t (in_left many now now' y i))) [ inl e ↦ e | inr e ↦ absurd (n y i e) ];
  rest_on = λ y z m t i a j. s.rest_on y z m t (in_left many now now' y i) (ahead_left many first now now' z y p a) (in_left many now now' z j);
}

step_tail : (many : ℕ) (first first' : ℕ → State) (before before' now now' : ℕ → List LogRecord) (taken members : Who → Bool) → ((y : Who) → is_in many before y ≡ true → is_in many now' y ≡ true → ⊥) → NamedApart many now now' → NamedApart many now' now
    → ((y : Who) → is_in many before' y ≡ true → (a : ℕ) → names y (told_states a (now' (a % many))) ≡ true → first' a ≡ last_one (first a) (filter (λ o. is_in many now o.who) (told_states a (now (a % many)))))
    → Step many first (λ l. before l ++ before' l) (λ l. now l ++ now' l) taken members → Step many first' before' now' taken members
step_tail many first first' before before' now now' taken members n p q f s = record {
  stay = s.stay;
  old = λ y t i. elim (in_cases many before before' y (s.old y t (in_right many now now' y i))) [ inl e ↦ absurd (n y e i) | inr e ↦ e ];
  seen = seen;
  rest_on = λ y z m t i a j. s.rest_on y z m t (in_right many now now' y i) (ahead_right many first first' now now' z y p q (f y (seen y m t i)) a) (in_right many now now' z j);
}
  where
    seen : (y : Who) → members y ≡ true → taken y ≡ false → is_in many now' y ≡ true → is_in many before' y ≡ true
    seen y m t i = elim (in_cases many before before' y (s.seen y m t (in_right many now now' y i))) [ inl e ↦ absurd (n y e i) | inr e ↦ e ]

-- who is taken of one run
took_part : {C : Type 0} (w : Fixed C) (F : Tx → C → Type 0) (finish : C → List State → Alone) (es : List Event) (before now : ℕ → List LogRecord) (taken members : Who → Bool) → Listed w F finish es now → NoLess before now → ((y : Who) → is_in w.text.logs before y ≡ true → Seen w es now y)
    → Taken w es before (members_among w.text.logs before taken) → Step w.text.logs (state_in w.text.opening.states) before now taken members → Taken w es now (members_among w.text.logs now members)
took_part {C} w F finish es before now taken members x n see t m = record { seen = seen; closed = closed }
  where
    both : (y : Who) → members y ≡ true → is_in w.text.logs now y ≡ true → members_among w.text.logs now members y ≡ true
    both y i j = and_from (members y) (is_in w.text.logs now y) i j

    seen_of : (y : Who) → members y ≡ true → is_in w.text.logs now y ≡ true → Seen w es now y
    seen_of y i j = elim (cases_Bool (taken y)) [ inl e ↦ see y (m.old y e j) | inr e ↦ see y (m.seen y i e j) ]

    seen : (y : Who) → members_among w.text.logs now members y ≡ true → Seen w es now y
    seen y i = let v = and_parts (members y) (is_in w.text.logs now y) i in seen_of y v.0 v.1

    closed : (a : ℕ) → IsClosedAhead (members_among w.text.logs now members) (history w es).kept (history w es).kept_readers (first_of w a) (told_at w (reached w es) a)
    closed a z y i ey kz changed =
        let v = and_parts (members y) (is_in w.text.logs now y) i in
        elim (cases_Bool (taken y)) [
          | inl e ↦
              let p = t.closed a z y (and_from (taken y) (is_in w.text.logs before y) e (m.old y e v.1)) ey kz changed in
              let q = and_parts (taken z) (is_in w.text.logs before z) p in
              both z (m.stay z q.0) (in_more w.text.logs before now z n q.1)
          | inr e ↦ elim (cases_Bool (is_who z y)) [
            | inl j ↦ subst (λ u. members_among w.text.logs now members u ≡ true) (sym (is_who_true z y j)) i
            | inr j ↦ let s = changed_seen w F finish es now a y z x (seen_of y v.0 v.1) kz j changed in both z (m.rest_on y z v.0 e v.1 (a, s.1) s.0) s.0
          ]
        ]

-- who is seen has its records in what is read
pub seen_named : {C : Type 0} (w : Fixed C) (F : Tx → C → Type 0) (finish : C → List State → Alone) (es : List Event) (now : ℕ → List LogRecord) (a : ℕ) (y : Who) → Listed w F finish es now → Seen w es now y → names y (told_at w (reached w es) a) ≡ true → names y (told_states a (now (a % w.text.logs))) ≡ true
seen_named w F finish es now a y x s h = elim (any_join (λ o. is_who y o.who) (told_states a (now (a % w.text.logs))) (told_states a (x.rest (a % w.text.logs)).0) (ap (names y) (sym (told_rest w F finish es now a x)) ∙ h)) [
  | inl q ↦ q
  | inr q ↦ absurd (true≢false (sym q ∙ none_beyond w F finish es now a y x s))
]

-- ---- all runs

abbrev pub AllTaken : {C : Type 0} → ℕ → (xs : List (CutRun C)) → RunsReading xs → (Who → Bool) → Type 0
AllTaken many [] r members = Unit {0}
AllTaken many (x ∷ xs) r members = Taken x.fixed x.moment.events (head_read x xs r) (members_among many (head_read x xs r) members) × AllTaken many xs (tail_read x xs r) members

-- who is taken and has a record in what is read now had it in what was read before
named_stays : {C : Type 0} (many a : ℕ) (o : Opening) (xs : List (CutRun C)) (r q : RunsReading xs) (taken : Who → Bool) (y : Who) → Runs many o xs → AllTaken many xs r taken → taken y ≡ true → is_in many (runs_read xs r) y ≡ true → names y (told_states a (runs_read xs q (a % many))) ≡ true → names y (told_states a (runs_read xs r (a % many))) ≡ true
named_stays many a o [] r q taken y g t k i h = absurd (none_in many y i)
named_stays many a o (x ∷ xs) r q taken y g t k i h = elim (in_cases many (head_read x xs r) (runs_read xs (tail_read x xs r)) y i) [
  | inl e ↦ elim (named_cases a y (head_read x xs q (a % many)) (runs_read xs (tail_read x xs q) (a % many)) h) [
    | inl n ↦ named_left a y (head_read x xs r (a % many)) (runs_read xs (tail_read x xs r) (a % many)) (here e n)
    | inr n ↦ absurd (apart_named many a o x xs r q y g e n)
  ]
  | inr e ↦ elim (named_cases a y (head_read x xs q (a % many)) (runs_read xs (tail_read x xs q) (a % many)) h) [
    | inl n ↦ absurd (named_apart many a o x xs q r y g n e)
    | inr n ↦ named_right a y (head_read x xs r (a % many)) (runs_read xs (tail_read x xs r) (a % many)) (named_stays many a (opening_left x) xs (tail_read x xs r) (tail_read x xs q) taken y (runs_behind many o x xs g) t.1 k e n)
  ]
]
  where
    here : is_in many (head_read x xs r) y ≡ true → names y (told_states a (head_read x xs q (a % many))) ≡ true → names y (told_states a (head_read x xs r (a % many))) ≡ true
    here e n =
        let s = sound many o x xs g in
        let lq = head_listed x xs s q in
        let lr = head_listed x xs s r in
        let seen = t.0.seen y (and_from (taken y) (is_in many (head_read x xs r) y) k e) in
        let all : names y (told_states a (log_at (reached x.fixed x.moment.events) (a % x.fixed.text.logs)).records) ≡ true = (let m = lq.rest (a % x.fixed.text.logs) in ap (λ z. names y (told_states a z)) m.1 ∙ named_left a y (head_read x xs q (a % x.fixed.text.logs)) m.0 (subst (λ z. names y (told_states a (head_read x xs q (a % z))) ≡ true) (sym g.1.0) n)) in
        subst (λ z. names y (told_states a (head_read x xs r (a % z))) ≡ true) g.1.0 (seen_named x.fixed (Of x) x.finish x.moment.events (head_read x xs r) a y lr seen all)

-- all of it
pub record Holds {C : Type 0} (many : ℕ) (xs : List (CutRun C)) (r : RunsReading xs) (members : Who → Bool) : Type 0 where
  pub taken : AllTaken many xs r members
  pub crossed : AllCrossed many xs r members

-- the first run, with as many logs as it says
first_taken : {C : Type 0} (o : Opening) (x : CutRun C) (xs : List (CutRun C)) (r q : RunsReading (x ∷ xs)) (taken members : Who → Bool) (many : ℕ) → (x.fixed.text.logs ≡ many) → x.fixed.text.opening ≡ o → Sound x → IsLaterRead (x ∷ xs) r q
    → Taken x.fixed x.moment.events (head_read x xs r) (members_among many (head_read x xs r) taken) → Step many (state_in o.states) (head_read x xs r) (head_read x xs q) taken members → Taken x.fixed x.moment.events (head_read x xs q) (members_among many (head_read x xs q) members)
first_taken o x xs r q taken members many e op s h t m =
    subst (λ z. Taken x.fixed x.moment.events (head_read x xs q) (members_among z (head_read x xs q) members)) e
    (took_part x.fixed (Of x) x.finish x.moment.events (head_read x xs r) (head_read x xs q) taken members (head_listed x xs s q) (head_less x xs s r q h) (head_sees x xs s r q h)
    (subst (λ z. Taken x.fixed x.moment.events (head_read x xs r) (members_among z (head_read x xs r) taken)) (sym e) t)
    (subst (λ z. Step z (state_in x.fixed.text.opening.states) (head_read x xs r) (head_read x xs q) taken members) (sym e) (subst (λ p. Step many (state_in p.states) (head_read x xs r) (head_read x xs q) taken members) (sym op) m)))

crosses : {C : Type 0} (many : ℕ) (o : Opening) (x : CutRun C) (xs : List (CutRun C)) (r q : RunsReading (x ∷ xs)) (taken members : Who → Bool) → Runs many o (x ∷ xs) → IsLaterRead (x ∷ xs) r q
    → AllTaken many xs (tail_read x xs r) taken → IsCrossed many x xs r taken → Step many (state_in o.states) (runs_read (x ∷ xs) r) (runs_read (x ∷ xs) q) taken members → Step many (state_in (opening_left x).states) (runs_read xs (tail_read x xs r)) (runs_read xs (tail_read x xs q)) taken members → IsCrossed many x xs q members
crosses {C} many o x xs r q taken members g h t c s st = record { over = over; taken = crossed }
  where
    before : (y : Who) → members y ≡ true → is_in many (runs_read xs (tail_read x xs q)) y ≡ true → is_in many (runs_read xs (tail_read x xs r)) y ≡ true
    before y i j = elim (cases_Bool (taken y)) [ inl e ↦ st.old y e j | inr e ↦ st.seen y i e j ]

    over : (y : Who) → members y ≡ true → is_in many (runs_read xs (tail_read x xs q)) y ≡ true → (l : ℕ) → head_read x xs q l ≡ logs_left x l
    over y i j l = is_over x xs many r q y h (before y i j) l

    same_in : (y : Who) → members y ≡ true → is_in many (runs_read xs (tail_read x xs q)) y ≡ true → (z : Who) → is_in many (logs_left x) z ≡ is_in many (head_read x xs q) z
    same_in y i j (OfBatch k) = ap (list_any (is_commit k)) (sym (over y i j (k % many)))
    same_in y i j (OfAct u) = ap (list_any (is_act_commit u)) (sym (over y i j (u % many)))

    crossed : (a : ℕ) (y z : Who) → members y ≡ true → is_in many (runs_read xs (tail_read x xs q)) y ≡ true → names y (told_states a (runs_read xs (tail_read x xs q) (a % many))) ≡ true
        → is_in many (logs_left x) z ≡ true → Changes (is_in many (logs_left x)) (state_in x.fixed.text.opening.states a) z (told_states a (logs_left x (a % many))) → members z ≡ true
    crossed a y z i j n lz changes = elim (cases_Bool (taken y)) [
      | inl e ↦ s.stay z (c.taken a y z e (st.old y e j) (named_stays many a (opening_left x) xs (tail_read x xs r) (tail_read x xs q) taken y (runs_behind many o x xs g) t e (st.old y e j) n) lz changes)
      | inr e ↦ s.rest_on y z i e (in_right many (head_read x xs q) (runs_read xs (tail_read x xs q)) y j) (a, ahead) (in_left many (head_read x xs q) (runs_read xs (tail_read x xs q)) z (sym (same_in y i j z) ∙ lz))
    ]
      where
        here : Changes (is_in many (logs_left x)) (state_in o.states a) z (told_states a (head_read x xs q (a % many)))
        here = subst (λ rs. Changes (is_in many (logs_left x)) (state_in o.states a) z (told_states a rs)) (sym (over y i j (a % many))) (subst (λ p. Changes (is_in many (logs_left x)) (state_in p.states a) z (told_states a (logs_left x (a % many)))) g.2.1 changes)

        ahead : ChangedAhead (is_in many (runs_read (x ∷ xs) q)) (state_in o.states a) z y (told_states a (runs_read (x ∷ xs) q (a % many)))
        ahead =
            subst (ChangedAhead (is_in many (runs_read (x ∷ xs) q)) (state_in o.states a) z y) (sym (told_join a (head_read x xs q (a % many)) (runs_read xs (tail_read x xs q) (a % many))))
            (changes_across (is_in many (runs_read (x ∷ xs) q)) (state_in o.states a) z y (told_states a (head_read x xs q (a % many))) (told_states a (runs_read xs (tail_read x xs q) (a % many))) n
            (changes_counts (is_in many (logs_left x)) (is_in many (runs_read (x ∷ xs) q)) (state_in o.states a) z (told_states a (head_read x xs q (a % many))) (λ v m. same_in y i j v ∙ count_left many a (head_read x xs q) (runs_read xs (tail_read x xs q)) (λ b u k l. named_apart many b o x xs q q u g k l) v m) here))

-- where all that the run left is read, its last records tell the states that it left
pub left_told : {C : Type 0} (many : ℕ) (o : Opening) (x : CutRun C) (xs : List (CutRun C)) (q : RunsReading (x ∷ xs)) (a : ℕ) → Runs many o (x ∷ xs) → ((l : ℕ) → head_read x xs q l ≡ logs_left x l) → a < length (opening_left x).states
    → state_in (opening_left x).states a ≡ last_one (state_in o.states a) (filter (λ e. is_in many (head_read x xs q) e.who) (told_states a (head_read x xs q (a % many))))
left_told {C} many o x xs q a g over k =
    left_state x a (omega (arith, k, left_long x.fixed.text.logs (logs_left x) 0 x.fixed.text.opening.states))
    ∙ (ap (λ p. last_one (state_in p.states a) (filter (λ e. is_in x.fixed.text.logs (logs_left x) e.who) (told_states a (logs_left x (a % x.fixed.text.logs))))) g.2.1
    ∙ (ap (λ m. last_one (state_in o.states a) (filter (λ e. is_in m (logs_left x) e.who) (told_states a (logs_left x (a % m))))) g.1.0
    ∙ (ap (λ rs. last_one (state_in o.states a) (filter (λ e. is_in many (logs_left x) e.who) (told_states a rs))) (sym (over (a % many)))
    ∙ ap (last_one (state_in o.states a)) (filter_named (is_in many (logs_left x)) (is_in many (head_read x xs q)) (told_states a (head_read x xs q (a % many))) (λ v n. same v)))))
  where
    same : (v : Who) → is_in many (logs_left x) v ≡ is_in many (head_read x xs q) v
    same (OfBatch t) = ap (list_any (is_commit t)) (sym (over (t % many)))
    same (OfAct u) = ap (list_any (is_act_commit u)) (sym (over (u % many)))

pub round_holds : {C : Type 0} (many : ℕ) (o : Opening) (xs : List (CutRun C)) (r q : RunsReading xs) (taken members : Who → Bool) → Runs many o xs → IsLaterRead xs r q → Holds many xs r taken → Step many (state_in o.states) (runs_read xs r) (runs_read xs q) taken members → Holds many xs q members
round_holds many o [] r q taken members g h t s = record { taken = tt; crossed = tt }
round_holds {C} many o (x ∷ xs) r q taken members g h t s =
    let sd = sound many o x xs g in
    let hd = step_head many (state_in o.states) (head_read x xs r) (runs_read xs (tail_read x xs r)) (head_read x xs q) (runs_read xs (tail_read x xs q)) taken members (λ y i j. apart many o x xs q r y g i j) (λ b u k l. named_apart many b o x xs q q u g k l) s in
    let tl = step_tail many (state_in o.states) (state_in (opening_left x).states) (head_read x xs r) (runs_read xs (tail_read x xs r)) (head_read x xs q) (runs_read xs (tail_read x xs q)) taken members (λ y i j. apart many o x xs r q y g i j) (λ b u k l. named_apart many b o x xs q q u g k l) (λ b u k l. apart_named many b o x xs q q u g l k) from s in
    let rest = round_holds many (opening_left x) xs (tail_read x xs r) (tail_read x xs q) taken members (runs_behind many o x xs g) (later_tail x xs r q h) (record { taken = t.taken.1; crossed = t.crossed.1 }) tl in
    record {
      taken = (first_taken o x xs r q taken members many g.1.0 g.2.1 sd h t.taken.0 hd, rest.taken);
      crossed = (crosses many o x xs r q taken members g h t.taken.1 t.crossed.0 s tl, rest.crossed);
    }
  where
    -- where one of a later run was read, the first run is over, and its records tell the states from which the later ones go on
    from : (y : Who) → is_in many (runs_read xs (tail_read x xs r)) y ≡ true → (a : ℕ) → names y (told_states a (runs_read xs (tail_read x xs q) (a % many))) ≡ true
        → state_in (opening_left x).states a ≡ last_one (state_in o.states a) (filter (λ e. is_in many (head_read x xs q) e.who) (told_states a (head_read x xs q (a % many))))
    from y i a n = left_told many o x xs q a g (λ l. is_over x xs many r q y h i l) (actor_there many a (opening_left x) xs (tail_read x xs q) y (runs_behind many o x xs g) n)
