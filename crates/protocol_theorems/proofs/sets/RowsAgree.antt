-- The table's own words give, over every run, what the rows give as they were agreed.
use Rattle.std.specs.Prelude.{◌≡◌, refl, ℕ, ◌-◌, ◌<◌, ◌≤◌, ◌==◌, nat_lt, nat_le, max, Bool, true, false, not, ◌&&◌, ◌||◌, ◌⊎◌, if◌then◌else◌, Option, Some, None, unwrap_or, List, [], ◌∷◌, ◌++◌, length, map, filter, find}
use Rattle.std.specs.List.{AllByRecursion, list_all}
use Rattle.std.proofs.Common.{arith, sym, ap, subst, inl, inr, ◌∙◌}
use Rattle.std.proofs.lemmas.Bool.{eqb-true, eq-eqb, leb-true, le-leb, ltb-true, lt-ltb, and_parts, and_from, or_cases, not-true, true≢false, false_from_ne_true, cases_lt}
use Rattle.protocol.specs.Cutting.{Ascends}
use Rattle.snap_base.specs.declared.transactions.State.{State}
use Rattle.snap_base.specs.declared.transactions.Tx.{Tx}
use Rattle.snap_base.specs.declared.verdicts.Verdict.{Verdict}
use Rattle.snap_base.proofs.Lists.{none_passes}
use Rattle.snap_base.proofs.Booleans.{and_false}
use Rattle.protocol.specs.Fixed.{Fixed}
use Rattle.protocol.specs.Facts.{Alone}
use Rattle.protocol.specs.Rivals.{Lock}
use Rattle.protocol.specs.Parts.{Act, Joined, Pair, Book, Status, Live, Doomed, Decided, Sealed, Cascade, Who, OfBatch, OfAct, Entry, BatchEntry, ActEntry, Image, FloorPair, Waiting, Outcome, Batch, Cell, Machine}
use Rattle.protocol.specs.Events.{Event, Arrive, Ask, Abort, Rollback, Finish}
use Rattle.protocol.specs.Words.{is_empty, holds, greatest, covers, is_aborted, epoch_of, is_live_status, is_doomed, is_sealed, is_ordered, is_live_act, act_of, batch_of, is_act_entry, has_act, is_who, batches_on, Failure, lock_of, floor_at}
use Rattle.protocol.specs.Verdicts.{died, out_of_order, taken_along}
use Rattle.protocol.specs.Spread.{stands_behind, carries_to, raised, reaches, crossed_out}
use Rattle.protocol.specs.OnBook as book
use Rattle.protocol.specs.OnCell as cell
use Rattle.protocol.specs.Rows as rows
use Rattle.protocol.specs.Rows.{as_agreed}
use Rattle.protocol.specs.Conditions.{IsAllowed, conditions}
use Rattle.protocol.specs.Effects.{after, cell_at, puts}
use Rattle.protocol.specs.Runs.{IsRun, reached}
use Rattle.protocol.specs.History.{Ran, Stands, Gone, Slice, History, history}
use Rattle.protocol_laws.specs.Tracks.{key_of, keys_in, is_key_among, first_image, images_in}
use Rattle.protocol_laws.specs.Highs.{doomed_at}
use Rattle.protocol_laws.specs.Places.{FitsCell}
use Rattle.protocol_laws.specs.Told.{PactsAscend}
use Rattle.protocol_laws.proofs.first.Lists.{all_join, all_of, weaker}
use Rattle.protocol_laws.proofs.machine.Good.{Given}
use Rattle.protocol_laws.proofs.machine.AllGood as all
use Rattle.protocol_laws.proofs.machine.AllGood.{AllGood}
use Rattle.protocol_laws.proofs.machine.BatchesCommit.{Numbered}
use Rattle.protocol_laws.proofs.machine.EntriesKept.{Left, LeftThrough, Standing, is_through, open_at}
use Rattle.protocol_laws.proofs.machine.TracksKept.{Tracked}
use Rattle.protocol_laws.proofs.machine.Higher as higher
use Rattle.protocol_theorems.proofs.sets.BeforeSets.{find_self}
use Rattle.protocol_theorems.proofs.sets.Blamed.{find_same, first_is_blamed}
use Rattle.protocol_theorems.proofs.sets.BeforeStand as befores
use Rattle.protocol_theorems.proofs.sets.BeforeStand.{BeforeStand}
use Rattle.protocol_theorems.proofs.sets.NumbersBelow.{IsBelow, AllBelow, BelowStand, asks_live, below_kept, below_step, below_begins}
use Rattle.protocol_theorems.proofs.sets.PairsAhead.{PairStands, PairsAhead, is_unplaced}
use Rattle.protocol_laws.proofs.first.PairsFound.{Ascend, TidsAscend}
use Rattle.protocol_theorems.proofs.quiet.RowsKept.{Rows, rows_kept, rows_opened, row_batches, act_key}

-- ---- lists

pub filter_same : {X : Type 0} (p q : X → Bool) (xs : List X) → AllByRecursion (λ x. p x ≡ q x) xs → filter p xs ≡ filter q xs
filter_same p q [] h = refl
filter_same p q (x ∷ xs) h = rw (h.0, filter_same p q xs h.1) refl

filter_whole : {X : Type 0} (p : X → Bool) (xs : List X) → AllByRecursion (λ x. p x ≡ true) xs → filter p xs ≡ xs
filter_whole p [] h = refl
filter_whole p (x ∷ xs) h = rw (h.0, filter_whole p xs h.1) refl

-- ---- doom

-- one that is live has not left all its actors
abbrev IsGoing : Act → Type 0
IsGoing x = is_live_status x.status ≡ true → is_live_act x ≡ true

going_from : (x : Act) → LeftThrough 0 x → IsGoing x
going_from x h l = by x.places x.status h l
  where
    live_stays : (st : Status) → is_live_status st ≡ true → is_through st ≡ true → ⊥
    live_stays Live l e = true≢false (sym e)
    live_stays (Doomed v) l e = true≢false (sym l)
    live_stays (Decided c) l e = true≢false (sym l)
    live_stays (Sealed c) l e = true≢false (sym l)

    live_lives : (st : Status) → is_live_status st ≡ true → not (is_doomed st) ≡ true
    live_lives Live l = refl
    live_lives (Doomed v) l = absurd (true≢false (sym l))
    live_lives (Decided c) l = refl
    live_lives (Sealed c) l = refl

    by : (ps : List Joined) (st : Status) → AllByRecursion (λ p. p.finished ≡ true → is_through st ≡ true) ps → is_live_status st ≡ true → not (if is_empty ps then is_doomed st else list_all (λ p. p.finished) ps) ≡ true
    by [] st h l = live_lives st l
    by (p ∷ ps) st h l = rw (false_from_ne_true p.finished (λ q. live_stays st l (h.0 q))) refl

joined_lives : (ps : List Joined) (a : ℕ) (st : Status) → not (if is_empty (ps ++ record { actor = a; prepared = false; vouched = false; finished = false } ∷ []) then is_doomed st else list_all (λ p. p.finished) (ps ++ record { actor = a; prepared = false; vouched = false; finished = false } ∷ [])) ≡ true
joined_lives [] a st = refl
joined_lives (p ∷ ps) a st = ap not (last (p ∷ ps))
  where
    last : (qs : List Joined) → list_all (λ p. p.finished) (qs ++ record { actor = a; prepared = false; vouched = false; finished = false } ∷ []) ≡ false
    last [] = refl
    last (q ∷ qs) = rw (last qs) (and_false q.finished)

-- one that has its place has numbers that do not cross
crosses_same : (st : Status) (acting reached : Bool) → (is_live_status st ≡ true → acting ≡ true) → (is_ordered st ≡ true → reached ≡ false) → (is_live_status st && reached) ≡ (acting && (not (is_doomed st) && reached))
crosses_same Live acting r g o = rw (g refl) refl
crosses_same (Doomed v) acting r g o = sym (and_false acting)
crosses_same (Decided c) acting r g o = rw (o refl) (sym (and_false acting))
crosses_same (Sealed c) acting r g o = rw (o refl) (sym (and_false acting))

doom_same : (a : ℕ) (x : Act) → IsGoing x → IsBelow x → crossed_out a x ≡ rows.dooms a x
doom_same a x g o = ap (λ b. record x { status = if b then Doomed (out_of_order x.m (unwrap_or x.n 0) a) else x.status }) (crosses_same x.status (is_live_act x) (reaches x.m x.n) g o)

doom_all : (a : ℕ) (xs : List Act) → AllByRecursion IsGoing xs → AllByRecursion IsBelow xs → map (crossed_out a) xs ≡ map (rows.dooms a) xs
doom_all a [] g o = refl
doom_all a (x ∷ xs) g o = rw (doom_same a x g.0 o.0, doom_all a xs g.1 o.1) refl

-- what stands after the doom stood before it
below_before : (a : ℕ) (xs : List Act) → AllByRecursion IsBelow (map (crossed_out a) xs) → AllByRecursion IsBelow xs
below_before a [] h = tt
below_before a (x ∷ xs) h = ((λ p. h.0 (stays x.status (reaches x.m x.n) _ p)), below_before a xs h.1)
  where
    stays : (st : Status) (b : Bool) (v : Verdict) → is_ordered st ≡ true → is_ordered (if is_live_status st && b then Doomed v else st) ≡ true
    stays Live b v e = absurd (true≢false (sym e))
    stays (Doomed u) b v e = absurd (true≢false (sym e))
    stays (Decided c) b v e = refl
    stays (Sealed c) b v e = refl

-- ---- rise

-- of each tid: that its ACT has its place, and that it is doomed
abbrev Told : (ℕ → Bool) → (ℕ → Bool) → Act → Type 0
Told placed dead y = (is_ordered y.status ≡ true → placed y.tid ≡ true) × (dead y.tid ≡ true → is_doomed y.status ≡ true)

-- who has its place stands behind doomed ones alone
abbrev PairTold : (ℕ → Bool) → (ℕ → Bool) → Pair → Type 0
PairTold placed dead p = placed p.behind ≡ true → dead p.ahead ≡ true

behind_dead : (placed dead : ℕ → Bool) (ps : List Pair) (t u : ℕ) → AllByRecursion (PairTold placed dead) ps → placed t ≡ true → stands_behind ps t u ≡ true → dead u ≡ true
behind_dead placed dead [] t u k p h = absurd (true≢false (sym h))
behind_dead placed dead (q ∷ qs) t u k p h = elim (or_cases ((q.behind == t) && (q.ahead == u)) (stands_behind qs t u) h) [
  | inl e ↦
      let v = and_parts (q.behind == t) (q.ahead == u) e in
      subst (λ z. dead z ≡ true) (eqb-true q.ahead u v.1) (k.0 (subst (λ z. placed z ≡ true) (sym (eqb-true q.behind t v.0)) p))
  | inr e ↦ behind_dead placed dead qs t u k.1 p e
]

none_carried : (placed dead : ℕ → Bool) (ps : List Pair) (x : Act) (ys : List Act) → AllByRecursion (PairTold placed dead) ps → placed x.tid ≡ true → AllByRecursion (Told placed dead) ys → filter (rows.carries ps x) ys ≡ []
none_carried placed dead ps x [] k p h = refl
none_carried placed dead ps x (y ∷ ys) k p h = rw (by (stands_behind ps x.tid y.tid) refl, none_carried placed dead ps x ys k p h.1) refl
  where
    by : (b : Bool) → stands_behind ps x.tid y.tid ≡ b → (not (is_doomed y.status) && b) ≡ false
    by true e = rw (h.0.1 (behind_dead placed dead ps x.tid y.tid k p e)) refl
    by false e = and_false (not (is_doomed y.status))

carries_none : (ps : List Pair) (x : Act) (ys : List Act) → is_ordered x.status ≡ true → filter (carries_to ps x) ys ≡ []
carries_none ps x [] e = refl
carries_none ps x (y ∷ ys) e = rw (e, carries_none ps x ys e) refl

carried_same : (placed dead : ℕ → Bool) (ps : List Pair) (x : Act) (ys : List Act) → AllByRecursion (PairTold placed dead) ps → Told placed dead x → AllByRecursion (Told placed dead) ys → filter (carries_to ps x) ys ≡ filter (rows.carries ps x) ys
carried_same placed dead ps x ys k i h = by (is_ordered x.status) refl
  where
    by : (b : Bool) → is_ordered x.status ≡ b → filter (carries_to ps x) ys ≡ filter (rows.carries ps x) ys
    by true e = carries_none ps x ys e ∙ sym (none_carried placed dead ps x ys k (i.0 e) h)
    by false e = filter_same (carries_to ps x) (rows.carries ps x) ys (all_of _ ys (λ u. rw e refl))

told_raised : (placed dead : ℕ → Bool) (ps : List Pair) (xs : List Act) → AllByRecursion (Told placed dead) xs → AllByRecursion (Told placed dead) (raised ps xs)
told_raised placed dead ps [] h = tt
told_raised placed dead ps (x ∷ xs) h = (h.0, told_raised placed dead ps xs h.1)

going_raised : (ps : List Pair) (xs : List Act) → AllByRecursion IsGoing xs → AllByRecursion IsGoing (raised ps xs)
going_raised ps [] h = tt
going_raised ps (x ∷ xs) h = (h.0, going_raised ps xs h.1)

rise_same : (placed dead : ℕ → Bool) (ps : List Pair) (xs : List Act) → AllByRecursion (PairTold placed dead) ps → AllByRecursion (Told placed dead) xs → raised ps xs ≡ rows.risen ps xs
rise_same placed dead ps [] k h = refl
rise_same placed dead ps (x ∷ xs) k h =
    ap (λ zs. record x { m = max x.m (greatest (map (λ u. u.m) zs)) } ∷ raised ps xs) (carried_same placed dead ps x (raised ps xs) k h.0 (told_raised placed dead ps xs h.1))
    ∙ ap (λ zs. record x { m = max x.m (greatest (map (λ u. u.m) (filter (rows.carries ps x) zs))) } ∷ zs) (rise_same placed dead ps xs k h.1)

-- ---- what is known of the ACTs of a run

abbrev placed_in : List Act → ℕ → Bool
placed_in acts t = holds (λ x. is_ordered x.status) (act_of t acts)

told_all : (low high : ℕ) (acts : List Act) → Ascend low high (map (λ x. x.tid) acts) → AllByRecursion (Told (placed_in acts) (doomed_at acts)) acts
told_all low high acts asc = find_self low high acts asc (Told (placed_in acts) (doomed_at acts)) (λ y e. ((λ p. subst (λ o. holds (λ x. is_ordered x.status) o ≡ true) (sym e) p), (λ d. subst (λ o. holds (λ x. is_doomed x.status) o ≡ true) e d)))

told_joined : (placed dead : ℕ → Bool) (t a m : ℕ) (xs : List Act) → AllByRecursion (Told placed dead) xs → AllByRecursion (Told placed dead) (book.changed_act t (book.joins a m) xs)
told_joined placed dead t a m [] h = tt
told_joined placed dead t a m (x ∷ xs) h = (by (x.tid == t), told_joined placed dead t a m xs h.1)
  where
    by : (b : Bool) → Told placed dead (book.change_if b (book.joins a m) x)
    by true = h.0
    by false = h.0

going_joined : (t a m : ℕ) (xs : List Act) → AllByRecursion IsGoing xs → AllByRecursion IsGoing (book.changed_act t (book.joins a m) xs)
going_joined t a m [] h = tt
going_joined t a m (x ∷ xs) h = (by (x.tid == t), going_joined t a m xs h.1)
  where
    by : (b : Bool) → IsGoing (book.change_if b (book.joins a m) x)
    by true = λ l. joined_lives x.places a x.status
    by false = h.0

going_lowered : (k : ℕ) (tids : List ℕ) (xs : List Act) → AllByRecursion IsGoing xs → AllByRecursion IsGoing (map (book.lowered k tids) xs)
going_lowered k tids [] h = tt
going_lowered k tids (x ∷ xs) h = (h.0, going_lowered k tids xs h.1)

pairs_told : (acts : List Act) (long : ℕ → List Ran) (ps : List Pair) → AllByRecursion (PairStands acts long) ps → AllByRecursion (PairTold (placed_in acts) (doomed_at acts)) ps
pairs_told acts long ps h = weaker (PairStands acts long) (PairTold (placed_in acts) (doomed_at acts)) ps (λ p k e. elim k [ inl d ↦ d | inr q ↦ absurd (both (act_of p.behind acts) e q.0) ]) h
  where
    both : (o : Option Act) → holds (λ x. is_ordered x.status) o ≡ true → holds is_unplaced o ≡ true → ⊥
    both None e f = true≢false (sym e)
    both (Some x) e f = true≢false (sym e ∙ not-true (is_ordered x.status) f)

new_told : (acts : List Act) (t a : ℕ) (xs : List Lock) → placed_in acts t ≡ false → AllByRecursion (PairTold (placed_in acts) (doomed_at acts)) (map (λ x. record { behind = t; ahead = x.tid; actor = a }) xs)
new_told acts t a [] e = tt
new_told acts t a (x ∷ xs) e = ((λ p. absurd (true≢false (sym p ∙ e))), new_told acts t a xs e)

live_unplaced : (o : Option Act) → holds (λ x. is_live_status x.status) o ≡ true → holds (λ x. is_ordered x.status) o ≡ false
live_unplaced None e = refl
live_unplaced (Some x) e = by x.status e
  where
    by : (st : Status) → is_live_status st ≡ true → is_ordered st ≡ false
    by Live e = refl
    by (Doomed v) e = refl
    by (Decided c) e = absurd (true≢false (sym e))
    by (Sealed c) e = absurd (true≢false (sym e))

-- ---- an ACT asks

dies_same : (v : Verdict) (x : Act) → is_live_status x.status ≡ true → book.doomed_by v x ≡ rows.dies v x
dies_same v x l = ap (λ st. record x { status = st }) (by x.status l)
  where
    by : (st : Status) → is_live_status st ≡ true → (if is_live_status st then Doomed v else st) ≡ (if is_doomed st then st else Doomed v)
    by Live l = refl
    by (Doomed u) l = absurd (true≢false (sym l))
    by (Decided c) l = absurd (true≢false (sym l))
    by (Sealed c) l = absurd (true≢false (sym l))

dies_all : (v : Verdict) (t : ℕ) (xs : List Act) → AllByRecursion (λ x. (x.tid == t) ≡ true → is_live_status x.status ≡ true) xs → book.changed_act t (book.doomed_by v) xs ≡ book.changed_act t (rows.dies v) xs
dies_all v t [] h = refl
dies_all v t (x ∷ xs) h = rw (by (x.tid == t) refl, dies_all v t xs h.1) refl
  where
    by : (b : Bool) → (x.tid == t) ≡ b → book.change_if b (book.doomed_by v) x ≡ book.change_if b (rows.dies v) x
    by true e = dies_same v x (h.0 e)
    by false e = refl

asked_rise : (t a m : ℕ) (group : List Lock) (b : Book) (long : ℕ → List Ran) (low high : ℕ) → Ascend low high (map (λ x. x.tid) b.acts) → holds (λ x. is_live_status x.status) (act_of t b.acts) ≡ true → AllByRecursion (PairStands b.acts long) b.pairs
    → raised (b.pairs ++ book.new_pairs t a group b.acts) (book.changed_act t (book.joins a m) b.acts) ≡ rows.risen (b.pairs ++ book.new_pairs t a group b.acts) (book.changed_act t (book.joins a m) b.acts)
asked_rise t a m group b long low high asc live p =
    let told = all_join (PairTold (placed_in b.acts) (doomed_at b.acts)) b.pairs (book.new_pairs t a group b.acts) (pairs_told b.acts long b.pairs p) (new_told b.acts t a (filter (λ x. not (book.is_doomed_act b.acts x)) group) (live_unplaced (act_of t b.acts) live)) in
    rise_same (placed_in b.acts) (doomed_at b.acts) (b.pairs ++ book.new_pairs t a group b.acts) (book.changed_act t (book.joins a m) b.acts) told (told_joined (placed_in b.acts) (doomed_at b.acts) t a m b.acts (told_all low high b.acts asc))

asks_same : (t a m : ℕ) (o : Option ℕ) (group : List Lock) (b : Book) (long : ℕ → List Ran) (low high : ℕ) → Ascend low high (map (λ x. x.tid) b.acts) → holds (λ x. is_live_status x.status) (act_of t b.acts) ≡ true
    → AllByRecursion (λ x. (x.tid == t) ≡ true → is_live_status x.status ≡ true) b.acts → AllByRecursion IsGoing b.acts → AllByRecursion (PairStands b.acts long) b.pairs → AllByRecursion IsBelow (book.asked_acts o group t a m b)
    → book.asked_acts o group t a m b ≡ rows.asks o group t a m b
asks_same t a m (Some older) group b long low high asc live l g p h = dies_all (died a older t) t b.acts l
asks_same t a m None group b long low high asc live l g p h =
    let ps = b.pairs ++ book.new_pairs t a group b.acts in
    let ys = book.changed_act t (book.joins a m) b.acts in
    doom_all a (raised ps ys) (going_raised ps ys (going_joined t a m b.acts g)) (below_before a (raised ps ys) h)
    ∙ ap (map (rows.dooms a)) (asked_rise t a m group b long low high asc live p)

-- ---- a batch is aborted

take_same : (st : Status) (acting far : Bool) → (is_live_status st ≡ true → acting ≡ true) → (is_live_status st && far) ≡ (acting && (not (is_doomed st) && (not (is_ordered st) && far)))
take_same Live acting far g = rw (g refl) refl
take_same (Doomed v) acting far g = sym (and_false acting)
take_same (Decided c) acting far g = sym (and_false acting)
take_same (Sealed c) acting far g = sym (and_false acting)

taken_same : (k by : ℕ) (x : Act) → IsGoing x → book.cascaded k by x ≡ rows.takes k by x
taken_same k by x g = ap (λ b. record x { n = None; status = if b then Doomed (taken_along k by) else x.status }) (take_same x.status (is_live_act x) (nat_le k x.m) g)

taken_all : (k by : ℕ) (xs : List Act) → AllByRecursion IsGoing xs → map (book.cascaded k by) xs ≡ map (rows.takes k by) xs
taken_all k by [] g = refl
taken_all k by (x ∷ xs) g = rw (taken_same k by x g.0, taken_all k by xs g.1) refl

-- the PACT that is blamed
pub why_same : (k : ℕ) (bs : List Batch) → ((b : Batch) → batch_of k bs ≡ Some b → PactsAscend 0 b.pacts) → book.failure_of (batch_of k bs) ≡ rows.blamed_in (batch_of k bs)
why_same k bs n = by (batch_of k bs) n
  where
    by : (o : Option Batch) → ((b : Batch) → o ≡ Some b → PactsAscend 0 b.pacts) → book.failure_of o ≡ rows.blamed_in o
    by None n = refl
    by (Some b) n = first_is_blamed 0 b.pacts (n b refl)

-- ---- a rollback

or_last : (b : Bool) {d : Bool} → d ≡ true → (b || d) ≡ true
or_last true e = refl
or_last false e = e

not_above : (u j : ℕ) → nat_lt u j ≡ false → j ≤ u
not_above u j g = elim (cases_lt u j) [ inl i ↦ absurd (true≢false (sym (lt-ltb u j i) ∙ g)) | inr i ↦ i ]

-- a batch that a cascade reaches takes those along that are of no later epoch
taken_too : (k j : ℕ) (cs : List Cascade) → k < j → is_aborted k cs ≡ true → epoch_of j cs ≤ epoch_of k cs → is_aborted j cs ≡ true
taken_too k j [] l h e = absurd (true≢false (sym h))
taken_too k j (c ∷ cs) l h e = by (nat_lt c.upto k) (nat_lt c.upto j) refl refl (or_cases (covers k c) (is_aborted k cs) h) (taken_too k j cs l) e
  where
    more : (cs : List Cascade) → epoch_of k cs ≤ epoch_of j cs
    more [] = omega arith
    more (c ∷ cs) = one (nat_lt c.upto k) (nat_lt c.upto j) refl refl (more cs)
      where
        one : (p q : Bool) → nat_lt c.upto k ≡ p → nat_lt c.upto j ≡ q → epoch_of k cs ≤ epoch_of j cs → length (if p then c ∷ filter (λ c. nat_lt c.upto k) cs else filter (λ c. nat_lt c.upto k) cs) ≤ length (if q then c ∷ filter (λ c. nat_lt c.upto j) cs else filter (λ c. nat_lt c.upto j) cs)
        one true true u v r = omega (arith, r)
        one true false u v r = absurd (true≢false (sym (lt-ltb c.upto j (omega (arith, ltb-true c.upto k u, l))) ∙ v))
        one false true u v r = omega (arith, r)
        one false false u v r = r

    by : (p q : Bool) → nat_lt c.upto k ≡ p → nat_lt c.upto j ≡ q → (covers k c ≡ true) ⊎ (is_aborted k cs ≡ true) → (is_aborted k cs ≡ true → epoch_of j cs ≤ epoch_of k cs → is_aborted j cs ≡ true)
        → length (if q then c ∷ filter (λ c. nat_lt c.upto j) cs else filter (λ c. nat_lt c.upto j) cs) ≤ length (if p then c ∷ filter (λ c. nat_lt c.upto k) cs else filter (λ c. nat_lt c.upto k) cs) → (covers j c || is_aborted j cs) ≡ true
    by true q u v (inl h) r e = absurd (omega (arith, ltb-true c.upto k u, leb-true k c.upto (and_parts (nat_le c.first k) (nat_le k c.upto) h).1))
    by false true u v (inl h) r e = absurd (omega (arith, e, more cs))
    by false false u v (inl h) r e = rw (reached (and_parts (nat_le c.first k) (nat_le k c.upto) h).0 v) refl
      where
        reached : nat_le c.first k ≡ true → nat_lt c.upto j ≡ false → covers j c ≡ true
        reached f g = and_from (nat_le c.first j) (nat_le j c.upto) (le-leb c.first j (omega (arith, leb-true c.first k f, l))) (le-leb j c.upto (not_above c.upto j g))
    by true true u v (inr h) r e = or_last (covers j c) (r h (omega (arith, e)))
    by true false u v (inr h) r e = absurd (true≢false (sym (lt-ltb c.upto j (omega (arith, ltb-true c.upto k u, l))) ∙ v))
    by false true u v (inr h) r e = absurd (omega (arith, e, more cs))
    by false false u v (inr h) r e = or_last (covers j c) (r h e)

-- behind an aborted batch all batches are aborted
abbrev IsCutThere : List Cascade → List Entry → Type 0
IsCutThere cs [] = Unit {0}
IsCutThere cs (BatchEntry b ∷ es) = (is_aborted b.bid cs ≡ true → AllByRecursion (λ k. is_aborted k cs ≡ true) (batches_on es)) × IsCutThere cs es
IsCutThere cs (ActEntry x ∷ es) = IsCutThere cs es

all_taken : (next epoch tail k : ℕ) (cs : List Cascade) (ks : List ℕ) → AllByRecursion (λ j. k < j) ks → AllByRecursion (FitsCell next cs epoch tail) ks → is_aborted k cs ≡ true → epoch_of k cs ≡ epoch → AllByRecursion (λ j. is_aborted j cs ≡ true) ks
all_taken next epoch tail k cs [] a f h e = tt
all_taken next epoch tail k cs (j ∷ ks) a f h e = (taken_too k j cs a.0 h (omega (arith, f.0.placed, e)), all_taken next epoch tail k cs ks a.1 f.1 h e)

cut_there : (next epoch tail : ℕ) (cs : List Cascade) (es : List Entry) → Ascends (batches_on es) → AllByRecursion (FitsCell next cs epoch tail) (batches_on es) → IsCutThere cs es
cut_there next epoch tail cs [] a f = tt
cut_there next epoch tail cs (BatchEntry b ∷ es) a f = ((λ h. all_taken next epoch tail b.bid cs (batches_on es) a.0 f.1 h (f.0.aborted h)), cut_there next epoch tail cs es a.1 f.1)
cut_there next epoch tail cs (ActEntry x ∷ es) a f = cut_there next epoch tail cs es a f

none_stay : (cs : List Cascade) (es : List Entry) → AllByRecursion (λ k. is_aborted k cs ≡ true) (batches_on es) → rows.stays true cs es ≡ []
none_stay cs [] h = refl
none_stay cs (BatchEntry b ∷ es) h = rw (h.0) (none_stay cs es h.1)
none_stay cs (ActEntry x ∷ es) h = none_stay cs es h

all_go : (cs : List Cascade) (es : List Entry) → AllByRecursion (λ k. is_aborted k cs ≡ true) (batches_on es) → rows.goes true cs es ≡ es
all_go cs [] h = refl
all_go cs (BatchEntry b ∷ es) h = rw (h.0) (ap (λ z. BatchEntry b ∷ z) (all_go cs es h.1))
all_go cs (ActEntry x ∷ es) h = ap (λ z. ActEntry x ∷ z) (all_go cs es h)

stays_same : (cs : List Cascade) (es : List Entry) → IsCutThere cs es → cell.staying cs es ≡ rows.stays false cs es
stays_same cs [] h = refl
stays_same cs (BatchEntry b ∷ es) h = by (is_aborted b.bid cs) refl (stays_same cs es h.1)
  where
    by : (q : Bool) → is_aborted b.bid cs ≡ q → cell.staying cs es ≡ rows.stays false cs es → (if q then [] else BatchEntry b ∷ cell.staying cs es) ≡ (if q then rows.stays true cs es else BatchEntry b ∷ rows.stays false cs es)
    by true e r = sym (none_stay cs es (h.0 e))
    by false e r = ap (λ z. BatchEntry b ∷ z) r
stays_same cs (ActEntry x ∷ es) h = ap (λ z. ActEntry x ∷ z) (stays_same cs es h)

goes_same : (cs : List Cascade) (es : List Entry) → IsCutThere cs es → cell.going cs es ≡ rows.goes false cs es
goes_same cs [] h = refl
goes_same cs (BatchEntry b ∷ es) h = by (is_aborted b.bid cs) refl (goes_same cs es h.1)
  where
    by : (q : Bool) → is_aborted b.bid cs ≡ q → cell.going cs es ≡ rows.goes false cs es → (if q then BatchEntry b ∷ es else cell.going cs es) ≡ (if q then BatchEntry b ∷ rows.goes true cs es else rows.goes false cs es)
    by true e r = ap (λ z. BatchEntry b ∷ z) (sym (all_go cs es (h.0 e)))
    by false e r = r
goes_same cs (ActEntry x ∷ es) h = goes_same cs es h

-- the cell that a rollback leaves, by what stays and what goes
abbrev rolled : {C : Type 0} → List Cascade → Cell C → List Entry → List Entry → Cell C
rolled cs c stay go = record c {
  state = cell.state_before go c.state c.images;
  images = cell.images_without go c.images;
  epoch = length cs;
  last = max c.last_trimmed (greatest (batches_on stay));
  tail = 0;
  entries = stay;
  inbox = cell.inbox_without go c.inbox;
  outbox = cell.outbox_without go c.outbox;
}

rollback_same : {C : Type 0} (cs : List Cascade) (c : Cell C) → IsCutThere cs c.entries → cell.rolled_back cs c ≡ rows.rolls_back cs c
rollback_same cs c h = ap (λ z. rolled cs c z (cell.going cs c.entries)) (stays_same cs c.entries h) ∙ ap (λ z. rolled cs c (rows.stays false cs c.entries) z) (goes_same cs c.entries h)

-- ---- an ACT leaves

own_is : (t : ℕ) (who : Who) (es : List Entry) → cell.is_entry_among who (cell.own_entries t es) ≡ (has_act t es && is_who (OfAct t) who)
own_is t who [] = refl
own_is t who (BatchEntry b ∷ es) = own_is t who es
own_is t who (ActEntry x ∷ es) = by (x.tid == t) refl (own_is t who es)
  where
    absorbs : (p q : Bool) → (q || (p && q)) ≡ q
    absorbs p true = refl
    absorbs true false = refl
    absorbs false false = refl

    by : (b : Bool) → (x.tid == t) ≡ b → cell.is_entry_among who (cell.own_entries t es) ≡ (has_act t es && is_who (OfAct t) who) → cell.is_entry_among who (if b then ActEntry x ∷ cell.own_entries t es else cell.own_entries t es) ≡ ((b || has_act t es) && is_who (OfAct t) who)
    by true e r = subst (λ z. (is_who (OfAct z) who || cell.is_entry_among who (cell.own_entries t es)) ≡ is_who (OfAct t) who) (sym (eqb-true x.tid t e)) (rw r (absorbs (has_act t es) (is_who (OfAct t) who)))
    by false e r = r

-- an image is of who stands there
image_owners : (rs : List Ran) → AllByRecursion (λ i. is_key_among i.who (keys_in rs) ≡ true) (images_in rs)
image_owners [] = tt
image_owners (Stands y c ss ∷ rs) = all_join _ (first_image y ss) (images_in rs) (first ss) (weaker _ _ (images_in rs) (λ i h. later (is_who y i.who) h) (image_owners rs))
  where
    later : (b : Bool) {d : Bool} → d ≡ true → (b || d) ≡ true
    later true e = refl
    later false e = e

    same : (y : Who) → is_who y y ≡ true
    same (OfBatch k) = eq-eqb k k refl
    same (OfAct t) = eq-eqb t t refl

    first : (ss : List Slice) → AllByRecursion (λ i. (is_who y i.who || is_key_among i.who (keys_in rs)) ≡ true) (first_image y ss)
    first [] = tt
    first (s ∷ ss) = (rw (same y) refl, tt)
image_owners (Gone y ss ∷ rs) = image_owners rs

act_image : (t : ℕ) (es : List Entry) (i : Image) → is_key_among i.who (map key_of es) ≡ true → (has_act t es && is_who (OfAct t) i.who) ≡ is_who (OfAct t) i.who
act_image t es i h = by (is_who (OfAct t) i.who) refl
  where
    own : (who : Who) → is_who (OfAct t) who ≡ true → OfAct t ≡ who
    own (OfBatch k) e = absurd (true≢false (sym e))
    own (OfAct u) e = ap OfAct (eqb-true t u e)

    by : (b : Bool) → is_who (OfAct t) i.who ≡ b → (has_act t es && b) ≡ b
    by true e = rw (sym (act_key t es) ∙ subst (λ z. is_key_among z (map key_of es) ≡ true) (sym (own i.who e)) h) refl
    by false e = and_false (has_act t es)

images_same : (t : ℕ) (es : List Entry) (images : List Image) → AllByRecursion (λ i. is_key_among i.who (map key_of es) ≡ true) images → AllByRecursion (λ i. is_who (OfAct t) i.who ≡ cell.is_entry_among i.who (cell.own_entries t es)) images
images_same t es images h = weaker _ _ images (λ i k. sym (own_is t i.who es ∙ act_image t es i k)) h

abbrev left_with : {C : Type 0} → ℕ → Option Act → Cell C → Option Image → List Image → Cell C
left_with t x c found images = record c {
  state = if cell.is_undone_act x then cell.state_from c.state found else c.state;
  images = images;
  floors = cell.floors_after c.floors x;
  entries = filter (λ e. not (is_act_entry t e)) c.entries;
  inbox = cell.inbox_without (cell.own_entries t c.entries) c.inbox;
  outbox = cell.outbox_without (cell.own_entries t c.entries) c.outbox;
}

left_same : {C : Type 0} (t : ℕ) (x : Option Act) (c : Cell C) → AllByRecursion (λ i. is_key_among i.who (map key_of c.entries) ≡ true) c.images → cell.act_left t x c ≡ rows.left_by_act t x c
left_same t x c h =
    let own = λ (i : Image). is_who (OfAct t) i.who in
    let gone = λ (i : Image). cell.is_entry_among i.who (cell.own_entries t c.entries) in
    let e = images_same t c.entries c.images h in
    ap (λ o. left_with t x c o (filter (λ i. not (own i)) c.images)) (find_same own gone c.images e)
    ∙ ap (λ is. left_with t x c (find gone c.images) is) (filter_same (λ i. not (own i)) (λ i. not (gone i)) c.images (weaker _ _ c.images (λ i k. ap not k) e))

-- ---- where it has no entry nothing changes

none_own : (t : ℕ) (es : List Entry) → has_act t es ≡ false → cell.own_entries t es ≡ []
none_own t [] h = refl
none_own t (BatchEntry b ∷ es) h = none_own t es h
none_own t (ActEntry x ∷ es) h = by (x.tid == t) h (none_own t es)
  where
    by : (b : Bool) → (b || has_act t es) ≡ false → (has_act t es ≡ false → cell.own_entries t es ≡ []) → (if b then ActEntry x ∷ cell.own_entries t es else cell.own_entries t es) ≡ []
    by true e r = absurd (true≢false e)
    by false e r = r e

none_goes : (t : ℕ) (es : List Entry) → has_act t es ≡ false → filter (λ e. not (is_act_entry t e)) es ≡ es
none_goes t [] h = refl
none_goes t (BatchEntry b ∷ es) h = ap (λ z. BatchEntry b ∷ z) (none_goes t es h)
none_goes t (ActEntry x ∷ es) h = by (x.tid == t) h (none_goes t es)
  where
    by : (b : Bool) → (b || has_act t es) ≡ false → (has_act t es ≡ false → filter (λ e. not (is_act_entry t e)) es ≡ es) → (if not b then ActEntry x ∷ filter (λ e. not (is_act_entry t e)) es else filter (λ e. not (is_act_entry t e)) es) ≡ ActEntry x ∷ es
    by true e r = absurd (true≢false e)
    by false e r = ap (λ z. ActEntry x ∷ z) (r e)

same_cell : {C : Type 0} (c : Cell C) (state : State) (images : List Image) (floors : FloorPair) (entries : List Entry) (inbox : List (Waiting C)) (outbox : List (Outcome C)) → state ≡ c.state → images ≡ c.images → floors ≡ c.floors → entries ≡ c.entries → inbox ≡ c.inbox → outbox ≡ c.outbox
    → record c { state = state; images = images; floors = floors; entries = entries; inbox = inbox; outbox = outbox } ≡ c
same_cell c state images floors entries inbox outbox a b d e f g = rw (a, b, d, e, f, g) refl

stays_same_without : {C : Type 0} (t : ℕ) (x : Option Act) (c : Cell C) → has_act t c.entries ≡ false → AllByRecursion (λ i. is_key_among i.who (map key_of c.entries) ≡ true) c.images → cell.floors_after c.floors x ≡ c.floors → cell.act_left t x c ≡ c
stays_same_without {C} t x c n h f =
    let others : AllByRecursion (λ i. is_who (OfAct t) i.who ≡ false) c.images = weaker _ _ c.images (λ i k. sym (subst (λ z. (z && is_who (OfAct t) i.who) ≡ is_who (OfAct t) i.who) n (act_image t c.entries i k))) h in
    let state : (if cell.is_undone_act x then cell.state_from c.state (find (λ i. is_who (OfAct t) i.who) c.images) else c.state) ≡ c.state = undone (cell.is_undone_act x) (none_passes (λ i. is_who (OfAct t) i.who) c.images others) in
    let images : filter (λ i. not (is_who (OfAct t) i.who)) c.images ≡ c.images = filter_whole (λ i. not (is_who (OfAct t) i.who)) c.images (weaker _ _ c.images (λ i k. ap not k) others) in
    same_cell c _ _ _ _ _ _ state images f (none_goes t c.entries n) (in_inbox c.inbox) (in_outbox c.outbox)
  where
    undone : (b : Bool) → find (λ i. is_who (OfAct t) i.who) c.images ≡ None → (if b then cell.state_from c.state (find (λ i. is_who (OfAct t) i.who) c.images) else c.state) ≡ c.state
    undone true e = ap (cell.state_from c.state) e
    undone false e = refl

    in_inbox : (xs : List (Waiting C)) → cell.inbox_without (cell.own_entries t c.entries) xs ≡ xs
    in_inbox xs = ap (λ z. cell.inbox_without z xs) (none_own t c.entries n) ∙ filter_whole (λ y. true) xs (all_of _ xs (λ y. refl))

    in_outbox : (xs : List (Outcome C)) → cell.outbox_without (cell.own_entries t c.entries) xs ≡ xs
    in_outbox xs = ap (λ z. cell.outbox_without z xs) (none_own t c.entries n) ∙ filter_whole (λ y. true) xs (all_of _ xs (λ y. refl))

leaves_same : {C : Type 0} (t : ℕ) (x : Option Act) (c : Cell C) → AllByRecursion (λ i. is_key_among i.who (map key_of c.entries) ≡ true) c.images → (has_act t c.entries ≡ false → cell.floors_after c.floors x ≡ c.floors) → cell.act_left t x c ≡ rows.leaves t x c
leaves_same t x c h f = by (has_act t c.entries) refl
  where
    by : (b : Bool) → has_act t c.entries ≡ b → cell.act_left t x c ≡ (if b then rows.left_by_act t x c else c)
    by true e = left_same t x c h
    by false e = stays_same_without t x c e h (f e)

-- who is sealed and has not left the actor has its entry there
floors_stay : {C : Type 0} (w : Fixed C) (t a : ℕ) (s : Machine C) → IsAllowed w (Finish t a) s → Standing s → has_act t (cell_at s a).entries ≡ false → cell.floors_after (cell_at s a).floors (act_of t s.book.acts) ≡ (cell_at s a).floors
unfolding conditions Standing
floors_stay w t a s ok st n = by (act_of t s.book.acts) refl ok.1.0
  where
    not_doomed : (st : Status) → is_sealed st ≡ true → is_doomed st ≡ false
    not_doomed Live e = refl
    not_doomed (Doomed v) e = absurd (true≢false (sym e))
    not_doomed (Decided c) e = refl
    not_doomed (Sealed c) e = refl

    by : (o : Option Act) → act_of t s.book.acts ≡ o → holds (open_at a) o ≡ true → cell.floors_after (cell_at s a).floors o ≡ (cell_at s a).floors
    by None e h = refl
    by (Some x) e h = one (is_sealed x.status) refl
      where
        one : (b : Bool) → is_sealed x.status ≡ b → (if b then cell.raised_floors x.reader x.m (cell_at s a).floors else (cell_at s a).floors) ≡ (cell_at s a).floors
        one true q = absurd (true≢false (sym (sym (act_key t (cell_at s a).entries) ∙ st t x e (not_doomed x.status q) a h) ∙ n))
        one false q = refl

-- ---- over every run

pub record RowsStand {C : Type 0} (w : Fixed C) (s : Machine C) (h : History) : Type 0 where
  pub before : BeforeStand w s h
  pub below : BelowStand w s h
  pub rows : Rows s

stand_kept : {C : Type 0} (w : Fixed C) (Of : Tx → C → Type 0) (finish : C → List State → Alone) (e : Event) (s : Machine C) (h : History) → Given w Of finish → IsAllowed w e s → AllGood w Of finish s h → RowsStand w s h → RowsStand w (after w e s) (Rattle.protocol.specs.History.grown w e s h)
stand_kept w Of finish e s h v ok g i = record { before = befores.kept w Of finish e s h v ok g i.before; below = below_step w Of finish e s h v ok g i.below; rows = rows_kept w e s ok g.good.agreeing g.good.settling i.rows }

going_all : {C : Type 0} (s : Machine C) → TidsAscend s → Left s → AllByRecursion IsGoing s.book.acts
unfolding TidsAscend Left
going_all s asc l = find_self 0 s.ring.next_tid s.book.acts asc IsGoing (λ y e. going_from y (l y.tid y e))

agree_at : {C : Type 0} (w : Fixed C) (Of : Tx → C → Type 0) (finish : C → List State → Alone) (e : Event) (s : Machine C) (h : History) → IsAllowed w e s → AllGood w Of finish s h → RowsStand w s h → after w e s ≡ as_agreed w e s
unfolding after as_agreed TidsAscend AllBelow PairsAhead Rows Tracked Numbered
agree_at w Of finish (Arrive k a) s h ok g i =
    let b = below_kept w Of finish (Arrive k a) s h ok g i.below.after_stand i.below.below in
    let xs = map (book.lowered k (book.tids_on (cell_at s a).entries)) s.book.acts in
    ap (λ acts. record (after w (Arrive k a) s) { book = record s.book { acts = acts } }) (doom_all a xs (going_lowered k (book.tids_on (cell_at s a).entries) s.book.acts (going_all s g.ascend g.left)) (below_before a xs b))
agree_at w Of finish (Ask t a) s h ok g i =
    let c = cell_at s a in
    let live = higher.asks_live w Of finish t a s h ok g in
    ap (λ acts. record (after w (Ask t a) s) { book = record s.book { acts = acts; pairs = book.asked_pairs (book.in_the_way (lock_of t s.book.acts) c.entries) (book.met (lock_of t s.book.acts) c.entries) t a s.book } })
    (asks_same t a (max c.last (floor_at t s.book.acts c)) (book.in_the_way (lock_of t s.book.acts) c.entries) (book.met (lock_of t s.book.acts) c.entries) s.book h.long 0 s.ring.next_tid g.ascend live (asks_live t s live g.ascend) (going_all s g.ascend g.left) i.before.pairs_ahead.ahead (below_kept w Of finish (Ask t a) s h ok g i.below.after_stand i.below.below))
agree_at w Of finish (Abort k) s h ok g i =
    let aborted = λ (f : Option Failure). s.book.cascades ++ record { first = k; upto = s.ring.next_bid - 1; by = book.failed_tx f; at = s.book.next_c; code = book.failed_code f } ∷ [] in
    ap (λ acts. record (after w (Abort k) s) { book = record s.book { cascades = aborted (book.why k s.desk); acts = acts } }) (taken_all k (book.failed_tx (book.why k s.desk)) s.book.acts (going_all s g.ascend g.left))
    ∙ ap (λ f. record (after w (Abort k) s) { book = record s.book { cascades = aborted f; acts = map (rows.takes k (book.failed_tx f)) s.book.acts } }) (why_same k s.desk.batches (g.good.numbered k))
agree_at w Of finish (Rollback a) s h ok g i =
    let c = cell_at s a in
    let r = i.rows a in
    ap (λ z. record s { cells = puts s a z }) (rollback_same s.book.cascades c (cut_there s.ring.next_bid c.epoch c.tail s.book.cascades c.entries (subst Ascends (row_batches c.entries) r.places.ascends) (subst (AllByRecursion (FitsCell s.ring.next_bid s.book.cascades c.epoch c.tail)) (row_batches c.entries) r.places.fit)))
agree_at w Of finish (Finish t a) s h ok g i =
    let c = cell_at s a in
    let k = g.good.tracked a in
    let owners : AllByRecursion (λ j. is_key_among j.who (map key_of c.entries) ≡ true) c.images =
    subst (λ z. AllByRecursion (λ j. is_key_among j.who (map key_of c.entries) ≡ true) z) (sym k.images_are) (subst (λ z. AllByRecursion (λ j. is_key_among j.who z ≡ true) (images_in (h.long a))) (sym k.stands) (image_owners (h.long a))) in
    ap (λ z. record (after w (Finish t a) s) { cells = puts s a z }) (leaves_same t (act_of t s.book.acts) c owners (floors_stay w t a s ok g.standing))
agree_at w Of finish e s h ok g i = refl

-- the rise at an Ask
pub rise_at : {C : Type 0} (w : Fixed C) (Of : Tx → C → Type 0) (finish : C → List State → Alone) (t a m : ℕ) (s : Machine C) (h : History) → Given w Of finish → IsAllowed w (Ask t a) s → AllGood w Of finish s h → RowsStand w s h
    → let ps = s.book.pairs ++ book.new_pairs t a (book.met (lock_of t s.book.acts) (cell_at s a).entries) s.book.acts in raised ps (book.changed_act t (book.joins a m) s.book.acts) ≡ rows.risen ps (book.changed_act t (book.joins a m) s.book.acts)
unfolding TidsAscend PairsAhead
rise_at w Of finish t a m s h v ok g i = asked_rise t a m (book.met (lock_of t s.book.acts) (cell_at s a).entries) s.book h.long 0 s.ring.next_tid g.ascend (higher.asks_live w Of finish t a s h ok g) i.before.pairs_ahead.ahead

pub rows_stand : {C : Type 0} (w : Fixed C) (Of : Tx → C → Type 0) (finish : C → List State → Alone) (es : List Event) → Given w Of finish → IsRun w es → RowsStand w (reached w es) (history w es)
rows_stand w Of finish es v run = all.along_good w Of finish (RowsStand w) v (λ e s h ok g i. stand_kept w Of finish e s h v ok g i) (record { before = befores.opened w Of finish v; below = below_begins w Of finish v; rows = rows_opened w }) es run

pub rows_agree : {C : Type 0} (w : Fixed C) (Of : Tx → C → Type 0) (finish : C → List State → Alone) (es : List Event) → Given w Of finish → IsRun w es → (e : Event) → IsAllowed w e (reached w es) → after w e (reached w es) ≡ as_agreed w e (reached w es)
rows_agree w Of finish es v run e ok = agree_at w Of finish e (reached w es) (history w es) ok (all.all_good w Of finish es v run) (rows_stand w Of finish es v run)
