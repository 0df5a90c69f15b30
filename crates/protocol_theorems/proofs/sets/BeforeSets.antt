-- The before number of an ACT is the greatest of its set, event by event.
use Rattle.std.specs.Prelude.{◌≡◌, refl, ◌≢◌, ℕ, ◌+◌, ◌≤◌, ◌==◌, max, not, Bool, true, false, ◌&&◌, ◌⊎◌, if◌then◌else◌, Option, Some, None, is_some, List, [], ◌∷◌, ◌++◌, map, filter}
use Rattle.std.specs.List.{AllByRecursion}
use Rattle.std.proofs.Common.{arith, sym, ap, subst, inl, inr, ◌∙◌}
use Rattle.std.proofs.lemmas.Bool.{eqb-true, eq-eqb, and_parts, or_cases, or_left, or_right, not-true, true≢false, false_from_ne_true}
use Rattle.protocol.specs.Fixed.{Fixed, base, Next, Go, Ended}
use Rattle.protocol.specs.Rivals.{Lock, rivals}
use Rattle.protocol.specs.Parts.{Act, Pair, Status, Live, Doomed, Decided, Sealed, Outcome, FloorPair, Cell, Machine}
use Rattle.protocol.specs.Events.{Event, Admit, Arrive, Ask, End, Abort, Prepare, Vouch, Decide, Seal, Finish}
use Rattle.protocol.specs.Words.{holds, greatest, is_doomed, is_live_status, is_sealed, is_value, act_of, has_act, outcome_of, is_ordered, lock_of, floor_for, floor_at}
use Rattle.protocol.specs.Spread.{stands_behind, raised, crossed_out, is_crossed}
use Rattle.protocol.specs.Conditions.{IsAllowed, conditions}
use Rattle.protocol.specs.Effects.{after, cell_at}
use Rattle.protocol.specs.OnBook as book
use Rattle.protocol.specs.Standing.{IsOlder}
use Rattle.protocol.specs.History.{History, grown, with_at, is_none, carrying, gained, spread_sets, sets_of, asked_set, asked_gains, asked_before, batches_in}
use Rattle.protocol_theorems.specs.Floors.{number_or_0, number_in, is_kind}
use Rattle.protocol_laws.specs.Befores.{LastIs}
use Rattle.protocol_laws.specs.Highs.{own_floor}
use Rattle.protocol_theorems.specs.Sets.{IsGreatest}
use Rattle.protocol_laws.proofs.machine.BeforesKept.{Lasts}
use Rattle.protocol_laws.proofs.first.PairsKept as pairs
use Rattle.protocol_laws.proofs.first.PairsFound as found
use Rattle.protocol_laws.proofs.first.PairsFound.{Ascend, TidsAscend, same_pair}
use Rattle.protocol_laws.proofs.machine.TurnsKept.{one_is}
use Rattle.protocol_laws.proofs.machine.ShowsKept as shows
use Rattle.protocol_theorems.proofs.sets.SpreadSets
use Rattle.protocol_theorems.proofs.sets.SpreadSets.{Gain, Gains, NoGain, IsBefore, at_it, at_other}
use Rattle.protocol_theorems.proofs.sets.GainsKept as gains
use Rattle.protocol_theorems.proofs.sets.GainsKept.{GainsAre, PairsIn, AllIn, IsIn}
use Rattle.protocol_theorems.proofs.sets.LastsTight.{Tights, Tight}
use Rattle.protocol_theorems.proofs.sets.FloorsKept.{Floors, Both}
use Rattle.protocol_theorems.proofs.sets.PairsAhead as ahead
use Rattle.protocol_laws.proofs.first.Lists.{all_join, all_map, weaker, all_found}
use Rattle.protocol_laws.proofs.first.Statuses.{live_not_doomed, not_doomed_decided}
use Rattle.protocol_laws.proofs.machine.OversKept.{greatest_join}

abbrev pub AllGreatest : (ℕ → List ℕ) → List Act → Type 0
AllGreatest b acts = AllByRecursion (IsGreatest b) acts

unfoldable pub Sets : {C : Type 0} → Machine C → History → Type 0
Sets s h = AllGreatest h.before s.book.acts

-- ---- ACTs that change and keep their numbers

pub record Less (x y : Act) : Type 0 where
  pub tid : y.tid ≡ x.tid
  pub m : y.m ≡ x.m
  pub doomed : is_doomed y.status ≡ false → is_doomed x.status ≡ false

less_is : (b : ℕ → List ℕ) (x y : Act) → Less x y → IsGreatest b x → IsGreatest b y
less_is b x y k h = λ d. k.m ∙ (h (k.doomed d) ∙ ap (λ z. greatest (b z)) (sym k.tid))

pub mapped : (b : ℕ → List ℕ) (f : Act → Act) (xs : List Act) → ((x : Act) → Less x (f x)) → AllGreatest b xs → AllGreatest b (map f xs)
mapped b f xs k h = all_map (IsGreatest b) (IsGreatest b) f xs (λ x i. less_is b x (f x) (k x) i) h

pub if_less : (v : Bool) (f : Act → Act) (x : Act) → Less x (f x) → Less x (book.change_if v f x)
if_less true f x h = h
if_less false f x h = record { tid = refl; m = refl; doomed = λ d. d }

changed : (b : ℕ → List ℕ) (t : ℕ) (f : Act → Act) (xs : List Act) → ((x : Act) → Less x (f x)) → AllGreatest b xs → AllGreatest b (book.changed_act t f xs)
changed b t f xs k h = mapped b _ xs (λ x. if_less (x.tid == t) f x (k x)) h

pub dooms : (c : Bool) (v : Rattle.snap_base.specs.declared.verdicts.Verdict.Verdict) (st : Status) → is_doomed (if c then Doomed v else st) ≡ false → is_doomed st ≡ false
dooms true v st e = absurd (true≢false e)
dooms false v st e = e

pub unsealed : (st : Status) → is_doomed (book.sealed_status st) ≡ false → is_doomed st ≡ false
unsealed Live e = refl
unsealed (Doomed d) e = absurd (true≢false e)
unsealed (Decided d) e = refl
unsealed (Sealed d) e = refl

ended : {C : Type 0} (b : ℕ → List ℕ) (t : ℕ) (v : Bool) (o : Option (Outcome C)) (xs : List Act) → AllGreatest b xs → AllGreatest b (if v then book.noted_from t o xs else xs)
ended b t false o xs h = h
ended b t true None xs h = h
ended {C} b t true (Some x) xs h = by x.next
  where
    by : (y : Next C) → AllGreatest b (book.noted_for t y xs)
    by (Go c d) = h
    by (Ended r) = changed b t (book.with_result r) xs (λ x. record { tid = refl; m = refl; doomed = λ d. d }) h

-- ---- an admission

others : (low t : ℕ) (v : List ℕ) (b : ℕ → List ℕ) (xs : List Act) → Ascend low t (map (λ x. x.tid) xs) → AllGreatest b xs → AllGreatest (with_at t v b) xs
unfolding Ascend
others low t v b [] a h = tt
others low t v b (x ∷ xs) a h = ((λ d. h.0 d ∙ ap greatest (sym (at_other t x.tid v b (λ e. omega (arith, e, below (x.tid + 1) t xs a.1))))), others (x.tid + 1) t v b xs a.1 h.1)
  where
    below : (low high : ℕ) (xs : List Act) → Ascend low high (map (λ x. x.tid) xs) → low ≤ high
    below low high [] a = a
    below low high (x ∷ xs) a = omega (arith, a.0, below (x.tid + 1) high xs a.1)

-- ---- an Ask: lists

-- each ACT is found by its tid
pub find_self : (low high : ℕ) (xs : List Act) → Ascend low high (map (λ x. x.tid) xs) → (Q : Act → Type 0) → ((x : Act) → act_of x.tid xs ≡ Some x → Q x) → AllByRecursion Q xs
unfolding Ascend
find_self low high [] a Q k = tt
find_self low high (x ∷ xs) a Q k = (k x (rw (eq-eqb x.tid x.tid refl) refl), find_self (x.tid + 1) high xs a.1 Q (λ y e. k y (rw (false_from_ne_true (x.tid == y.tid) (λ q. omega (arith, eqb-true x.tid y.tid q, after_all (x.tid + 1) high xs a.1 y e))) e)))
  where
    after_all : (low high : ℕ) (xs : List Act) → Ascend low high (map (λ x. x.tid) xs) → (y : Act) → act_of y.tid xs ≡ Some y → low ≤ y.tid
    after_all low high xs a y e = found.further low high y.tid xs y a e

-- each pair is one of them
pub self_pairs : (ps qs : List Pair) → ((t u : ℕ) → stands_behind qs t u ≡ true → stands_behind ps t u ≡ true) → AllByRecursion (λ p. stands_behind ps p.behind p.ahead ≡ true) qs
self_pairs ps [] k = tt
self_pairs ps (p ∷ qs) k = (k p.behind p.ahead (or_left ((p.behind == p.behind) && (p.ahead == p.ahead)) (stands_behind qs p.behind p.ahead) (same_pair p)), self_pairs ps qs (λ t u q. k t u (or_right ((p.behind == t) && (p.ahead == u)) (stands_behind qs t u) q)))

-- what is carried: of one that is not doomed, in the book
gain_each : (ps : List Pair) (acts : List Act) (qs : List Pair) → AllByRecursion (λ p. stands_behind ps p.behind p.ahead ≡ true) qs → AllByRecursion IsOlder qs → AllIn acts qs → AllByRecursion (Gain ps 0 acts) (carrying acts qs)
gain_each ps acts [] a o i = tt
gain_each ps acts (p ∷ qs) a o i = by (gains.out acts p) refl (gain_each ps acts qs a.1 o.1 i.1)
  where
    there : (o : Option Act) → is_some o ≡ true → holds (λ y. is_doomed y.status) o ≡ false → holds (λ x. not (is_doomed x.status)) o ≡ true
    there None e f = absurd (true≢false (sym e))
    there (Some x) e f = rw f refl

    by : (c : Bool) → gains.out acts p ≡ c → AllByRecursion (Gain ps 0 acts) (carrying acts qs) → AllByRecursion (Gain ps 0 acts) (if not c then p ∷ carrying acts qs else carrying acts qs)
    by true e r = r
    by false e r = (record { is_pair = a.0; older = o.0; there = λ l. there (act_of p.ahead acts) i.0 e }, r)

carried_still : (acts : List Act) (ps : List Pair) (t u : ℕ) → holds (λ y. is_doomed y.status) (act_of u acts) ≡ false → stands_behind ps t u ≡ true → stands_behind (carrying acts ps) t u ≡ true
carried_still acts [] t u d h = h
carried_still acts (p ∷ ps) t u d h = by (gains.out acts p) refl (or_cases ((p.behind == t) && (p.ahead == u)) (stands_behind ps t u) h) (carried_still acts ps t u d)
  where
    by : (c : Bool) → gains.out acts p ≡ c → (((p.behind == t) && (p.ahead == u)) ≡ true) ⊎ (stands_behind ps t u ≡ true) → (stands_behind ps t u ≡ true → stands_behind (carrying acts ps) t u ≡ true) → stands_behind (if not c then p ∷ carrying acts ps else carrying acts ps) t u ≡ true
    by true e (inl q) r = absurd (true≢false (sym (subst (λ z. holds (λ y. is_doomed y.status) (act_of z acts) ≡ true) (eqb-true p.ahead u (and_parts (p.behind == t) (p.ahead == u) q).1) e) ∙ d))
    by true e (inr q) r = r q
    by false e (inl q) r = or_left ((p.behind == t) && (p.ahead == u)) _ q
    by false e (inr q) r = or_right ((p.behind == t) && (p.ahead == u)) _ (r q)

gains_each : (low high : ℕ) (ps : List Pair) (acts : List Act) → Ascend low high (map (λ x. x.tid) acts) → Gains ps (carrying acts ps) acts
gains_each low high ps acts a = find_self low high acts a (λ y. is_doomed y.status ≡ false → (t : ℕ) → stands_behind ps t y.tid ≡ true → stands_behind (carrying acts ps) t y.tid ≡ true)
    (λ y e d t q. carried_still acts ps t y.tid (subst (λ o. holds (λ y. is_doomed y.status) o ≡ false) (sym e) d) q)

-- the pairs that an Ask makes are of ACTs that are not doomed
new_carried : (acts : List Act) (t a : ℕ) (group : List Lock) → carrying acts (book.new_pairs t a group acts) ≡ book.new_pairs t a group acts
new_carried acts t a [] = refl
new_carried acts t a (x ∷ xs) = by (book.is_doomed_act acts x) refl (new_carried acts t a xs)
  where
    by : (c : Bool) → book.is_doomed_act acts x ≡ c → carrying acts (book.new_pairs t a xs acts) ≡ book.new_pairs t a xs acts
        → carrying acts (map (λ x. record { behind = t; ahead = x.tid; actor = a }) (if not c then x ∷ filter (λ x. not (book.is_doomed_act acts x)) xs else filter (λ x. not (book.is_doomed_act acts x)) xs)) ≡ map (λ x. record { behind = t; ahead = x.tid; actor = a }) (if not c then x ∷ filter (λ x. not (book.is_doomed_act acts x)) xs else filter (λ x. not (book.is_doomed_act acts x)) xs)
    by true e r = r
    by false e r = rw (e, r) refl

-- sets of some, all at most a number
sets_most : (b : ℕ → List ℕ) (n : ℕ) (xs : List Lock) → AllByRecursion (λ x. greatest (b x.tid) ≤ n) xs → greatest (sets_of b xs) ≤ n
sets_most b n [] h = omega arith
sets_most b n (x ∷ xs) h = omega (arith, greatest_join (b x.tid) (sets_of b xs), h.0, sets_most b n xs h.1)

behind_last : (ps qs : List Pair) (t u : ℕ) → stands_behind qs t u ≡ true → stands_behind (ps ++ qs) t u ≡ true
behind_last [] qs t u h = h
behind_last (p ∷ ps) qs t u h = or_right ((p.behind == t) && (p.ahead == u)) (stands_behind (ps ++ qs) t u) (behind_last ps qs t u h)

-- each of a group is gained
group_gained : (gs : List Pair) (t a : ℕ) (b b' : ℕ → List ℕ) (group : List Lock) → ((u : ℕ) → u ≢ t → b' u ≡ b u)
    → ((v u : ℕ) → stands_behind (map (λ x. record { behind = t; ahead = x.tid; actor = a }) group) v u ≡ true → stands_behind gs v u ≡ true) → AllByRecursion IsOlder (map (λ x. record { behind = t; ahead = x.tid; actor = a }) group)
    → AllByRecursion (λ x. greatest (b x.tid) ≤ greatest (gained gs t b')) group
group_gained gs t a b b' [] e k o = tt
group_gained gs t a b b' (x ∷ xs) e k o = (
  omega (arith, ap greatest (e x.tid (λ q. omega (arith, q, o.0))), SpreadSets.gained_least gs t x.tid b' (k t x.tid (or_left ((t == t) && (x.tid == x.tid)) _ (rw (eq-eqb t t refl, eq-eqb x.tid x.tid refl) refl)))),
  group_gained gs t a b b' xs e (λ v u q. k v u (or_right ((t == v) && (x.tid == u)) _ q)) o.1,
)

-- the sets of those that left sealed
left_sets : (b : ℕ → List ℕ) (acts : List Act) (xs : List Lock) → AllGreatest b acts → AllByRecursion (λ x. holds (λ y. is_sealed y.status) (act_of x.tid acts) ≡ true) xs → greatest (sets_of b xs) ≡ greatest (map (number_in acts) xs)
left_sets b acts [] g q = refl
left_sets b acts (x ∷ xs) g q = omega (arith, greatest_join (b x.tid) (sets_of b xs), left_sets b acts xs g q.1, one)
  where
    unsealed_doom : (st : Status) → is_sealed st ≡ true → is_doomed st ≡ false
    unsealed_doom Live e = absurd (true≢false (sym e))
    unsealed_doom (Doomed v) e = absurd (true≢false (sym e))
    unsealed_doom (Decided c) e = refl
    unsealed_doom (Sealed c) e = refl

    one : number_in acts x ≡ greatest (b x.tid)
    one =
        let y = one_is (λ y. is_sealed y.status) (act_of x.tid acts) q.0 in
        let v = all_found (IsGreatest b) (λ z. z.tid == x.tid) acts y.0 g y.1 in
        ap number_or_0 y.1 ∙ (v.0 (unsealed_doom y.0.status y.2) ∙ ap (λ z. greatest (b z)) (eqb-true y.0.tid x.tid v.1))

-- the greatest of all is the greatest of one kind or of the other
kinds_apart : (b : ℕ → List ℕ) (xs : List Lock) → greatest (sets_of b xs) ≡ max (greatest (sets_of b (filter (is_kind true) xs))) (greatest (sets_of b (filter (is_kind false) xs)))
kinds_apart b [] = refl
kinds_apart b (x ∷ xs) = by x.reader (kinds_apart b xs)
  where
    by : (v : Bool) → greatest (sets_of b xs) ≡ max (greatest (sets_of b (filter (is_kind true) xs))) (greatest (sets_of b (filter (is_kind false) xs)))
        → greatest (b x.tid ++ sets_of b xs) ≡ max (greatest (sets_of b (if v then x ∷ filter (is_kind true) xs else filter (is_kind true) xs))) (greatest (sets_of b (if not v then x ∷ filter (is_kind false) xs else filter (is_kind false) xs)))
    by true h = omega (arith, h, greatest_join (b x.tid) (sets_of b xs), greatest_join (b x.tid) (sets_of b (filter (is_kind true) xs)))
    by false h = omega (arith, h, greatest_join (b x.tid) (sets_of b xs), greatest_join (b x.tid) (sets_of b (filter (is_kind false) xs)))

-- the sets of the rivals that left sealed reach as far as the floor that counts for this one
left_rivals : (b : ℕ → List ℕ) (first : ℕ) (v : Bool) (acts : List Act) (floors : FloorPair) (xs : List Lock) → AllGreatest b acts → Both first acts floors xs → max first (greatest (sets_of b (filter (λ x. not (v && x.reader)) xs))) ≡ max first (floor_for v floors)
left_rivals b first v acts floors xs g k = by v
  where
    kind : (r : Bool) → max first (greatest (sets_of b (filter (is_kind r) xs))) ≡ max first (own_floor r floors)
    kind r = ap (λ z. max first z) (left_sets b acts (filter (is_kind r) xs) g (k r).sealed) ∙ sym (k r).floor_is

    all : (ys : List Lock) → filter (λ x. not (false && x.reader)) ys ≡ ys
    all [] = refl
    all (y ∷ ys) = ap (λ z. y ∷ z) (all ys)

    by : (r : Bool) → max first (greatest (sets_of b (filter (λ x. not (r && x.reader)) xs))) ≡ max first (floor_for r floors)
    by true = kind false
    by false = omega (arith, ap (λ z. greatest (sets_of b z)) (all xs), kinds_apart b xs, kind true, kind false)

-- the spread looks at tids and at who is live
spread_joined : (gs : List Pair) (t a m : ℕ) (xs : List Act) (b : ℕ → List ℕ) → spread_sets gs (book.changed_act t (book.joins a m) xs) b ≡ spread_sets gs xs b
spread_joined gs t a m [] b = refl
spread_joined gs t a m (x ∷ xs) b = by (x.tid == t) (spread_joined gs t a m xs b)
  where
    by : (c : Bool) → spread_sets gs (book.changed_act t (book.joins a m) xs) b ≡ spread_sets gs xs b → spread_sets gs (book.change_if c (book.joins a m) x ∷ book.changed_act t (book.joins a m) xs) b ≡ spread_sets gs (x ∷ xs) b
    by true r = rw r refl
    by false r = rw r refl

pub joined_tids : (t a m : ℕ) (xs : List Act) → map (λ x. x.tid) (book.changed_act t (book.joins a m) xs) ≡ map (λ x. x.tid) xs
joined_tids t a m [] = refl
joined_tids t a m (x ∷ xs) = by (x.tid == t) (joined_tids t a m xs)
  where
    by : (c : Bool) → map (λ x. x.tid) (book.changed_act t (book.joins a m) xs) ≡ map (λ x. x.tid) xs → (book.change_if c (book.joins a m) x).tid ∷ map (λ x. x.tid) (book.changed_act t (book.joins a m) xs) ≡ x.tid ∷ map (λ x. x.tid) xs
    by true r = rw r refl
    by false r = rw r refl

-- before the spread: who is not the one that asks has its own, and that one has what it still gains
befores_joined : (gs : List Pair) (t a m : ℕ) (v : List ℕ) (b : ℕ → List ℕ) (xs : List Act) → ((x : Act) → x.tid ≡ t → act_of t xs ≡ Some x → is_live_status x.status ≡ true) → (low high : ℕ) → Ascend low high (map (λ x. x.tid) xs)
    → ((x : Act) → x.tid ≡ t → x.m ≡ greatest (b t) → (max x.m m ≤ greatest v) × (greatest v ≤ max (max x.m m) (greatest (gained gs t (with_at t v b))))) → AllGreatest b xs → AllByRecursion (IsBefore gs (with_at t v b)) (book.changed_act t (book.joins a m) xs)
unfolding Ascend
befores_joined gs t a m v b [] live low high asc k h = tt
befores_joined gs t a m v b (x ∷ xs) live low high asc k h = (by (x.tid == t) refl, befores_joined gs t a m v b xs (λ y i e. live y i (rw (none y i e) e)) (x.tid + 1) high asc.1 k h.1)
  where
    none : (y : Act) → y.tid ≡ t → act_of t xs ≡ Some y → (x.tid == t) ≡ false
    none y i e = false_from_ne_true (x.tid == t) (λ q. omega (arith, eqb-true x.tid t q, found.further (x.tid + 1) high t xs y asc.1 e))

    by : (c : Bool) → (x.tid == t) ≡ c → IsBefore gs (with_at t v b) (book.change_if c (book.joins a m) x)
    by true e = λ d.
        let i : x.tid ≡ t = eqb-true x.tid t e in
        let q = k x i (h.0 d ∙ ap (λ z. greatest (b z)) i) in
        let own : with_at t v b x.tid ≡ v = subst (λ z. with_at t v b z ≡ v) (sym i) (at_it t v b) in
        let l = live x i (rw e refl) in
        record {
          less = omega (arith, q.0, ap greatest own);
          most = rw (own, l, i) q.1;
        }
    by false e = λ d.
        let own : with_at t v b x.tid ≡ b x.tid = rw e refl in
        record { less = omega (arith, ap greatest own, h.0 d); most = omega (arith, ap greatest own, h.0 d) }

-- ---- an Ask

-- the one ahead is doomed, or the one behind has no place
abbrev pub NoneAhead : List Act → Pair → Type 0
NoneAhead acts p = (gains.out acts p ≡ true) ⊎ (holds ahead.is_unplaced (act_of p.behind acts) ≡ true)

unplaced_joined : (t a m u : ℕ) (xs : List Act) → holds ahead.is_unplaced (act_of u xs) ≡ true → holds ahead.is_unplaced (act_of u (book.changed_act t (book.joins a m) xs)) ≡ true
unplaced_joined t a m u [] h = h
unplaced_joined t a m u (x ∷ xs) h = by (x.tid == t) (x.tid == u) refl h (unplaced_joined t a m u xs)
  where
    by : (c d : Bool) → (x.tid == u) ≡ d → holds ahead.is_unplaced (if d then Some x else act_of u xs) ≡ true → (holds ahead.is_unplaced (act_of u xs) ≡ true → holds ahead.is_unplaced (act_of u (book.changed_act t (book.joins a m) xs)) ≡ true)
        → holds ahead.is_unplaced (act_of u (book.change_if c (book.joins a m) x ∷ book.changed_act t (book.joins a m) xs)) ≡ true
    by true true e h r = rw e h
    by true false e h r = rw e (r h)
    by false true e h r = rw e h
    by false false e h r = rw e (r h)

none_joined : (t a m : ℕ) (xs : List Act) (p : Pair) → NoneAhead xs p → NoneAhead (book.changed_act t (book.joins a m) xs) p
none_joined t a m xs p h = elim h [ inl d ↦ inl (gains.out_changed t (book.joins a m) xs p (λ x. refl) (λ x. refl) ∙ d) | inr u ↦ inr (unplaced_joined t a m p.behind xs u) ]

new_none : (t a : ℕ) (group : List Lock) (acts : List Act) → holds (λ x. is_live_status x.status) (act_of t acts) ≡ true → AllByRecursion (NoneAhead acts) (book.new_pairs t a group acts)
new_none t a group acts live = all_map (λ x. Unit {0}) (NoneAhead acts) (λ x. record { behind = t; ahead = x.tid; actor = a }) (filter (λ x. not (book.is_doomed_act acts x)) group) (λ x i. inr (ahead.live_unplaced (act_of t acts) live)) (trivial (filter (λ x. not (book.is_doomed_act acts x)) group))
  where
    trivial : (xs : List Lock) → AllByRecursion (λ x. Unit {0}) xs
    trivial [] = tt
    trivial (x ∷ xs) = (tt, trivial xs)

-- so one that has its place gains nothing
no_gain : (low high : ℕ) (acts : List Act) (ps : List Pair) → Ascend low high (map (λ x. x.tid) acts) → AllByRecursion (NoneAhead acts) ps → AllByRecursion (NoGain (carrying acts ps)) acts
no_gain low high acts ps asc h = find_self low high acts asc (NoGain (carrying acts ps)) (λ y e dead d. ahead.filtered (NoneAhead acts) (λ p. (p.behind == y.tid) ≡ false) (λ p. not (gains.out acts p)) ps (λ p k q. one y e dead d p (not-true (gains.out acts p) k) q) h)
  where
    two : (st : Status) → is_live_status st ≡ false → is_doomed st ≡ false → not (is_ordered st) ≡ true → ⊥
    two Live l d n = true≢false l
    two (Doomed v) l d n = true≢false d
    two (Decided c) l d n = true≢false (sym n)
    two (Sealed c) l d n = true≢false (sym n)

    one : (y : Act) → act_of y.tid acts ≡ Some y → is_live_status y.status ≡ false → is_doomed y.status ≡ false → (p : Pair) → gains.out acts p ≡ false → NoneAhead acts p → (p.behind == y.tid) ≡ false
    one y e dead d p k (inl o) = absurd (true≢false (sym o ∙ k))
    one y e dead d p k (inr u) = false_from_ne_true (p.behind == y.tid) (λ q. two y.status dead d (subst (λ o. holds ahead.is_unplaced o ≡ true) e (subst (λ z. holds ahead.is_unplaced (act_of z acts) ≡ true) (eqb-true p.behind y.tid q) u)))

pub greatest_most : (n : ℕ) (ks : List ℕ) → AllByRecursion (λ k. k ≤ n) ks → greatest ks ≤ n
greatest_most n [] h = omega arith
greatest_most n (k ∷ ks) h = omega (arith, h.0, greatest_most n ks h.1)

-- what an Ask needs to know of the actor
pub record AskedOn (first : ℕ) (acts : List Act) (last trimmed : ℕ) (fs : FloorPair) (long : List Rattle.protocol.specs.History.Ran) (left : List Lock) : Type 0 where
  pub tight : Tight first last trimmed long
  pub lasts : LastIs last trimmed long
  pub floors : Both first acts fs left

-- before who stands between batches is given up
pub asked_raised : {C : Type 0} (first t a : ℕ) (s : Machine C) (h : History) → holds (λ x. is_live_status x.status) (act_of t s.book.acts) ≡ true → AskedOn first s.book.acts (cell_at s a).last (cell_at s a).last_trimmed (cell_at s a).floors (h.long a) (h.left_sealed a)
    → AllByRecursion (λ x. first ≤ x.m) s.book.acts → TidsAscend s → AllByRecursion IsOlder (s.book.pairs ++ book.new_pairs t a (book.met (lock_of t s.book.acts) (cell_at s a).entries) s.book.acts) → AllIn s.book.acts (s.book.pairs ++ book.new_pairs t a (book.met (lock_of t s.book.acts) (cell_at s a).entries) s.book.acts)
    → AllByRecursion (NoneAhead s.book.acts) s.book.pairs → h.gains ≡ carrying s.book.acts s.book.pairs → AllGreatest h.before s.book.acts
    → AllGreatest (asked_before true t a s h) (raised (s.book.pairs ++ book.new_pairs t a (book.met (lock_of t s.book.acts) (cell_at s a).entries) s.book.acts) (book.changed_act t (book.joins a (max (cell_at s a).last (floor_at t s.book.acts (cell_at s a)))) s.book.acts))
unfolding TidsAscend
asked_raised {C} first t a s h live on based asc older ins none gs sets =
    (subst (λ z. AllGreatest z (raised ps joined)) (spread_joined (asked_gains t a s h) t a m acts b)
    (subst (λ z. AllGreatest (spread_sets z joined b) (raised ps joined)) same
    (SpreadSets.spread_raised ps (carrying joined ps) 0 s.ring.next_tid b joined asc'
    (gain_each ps joined ps (self_pairs ps ps (λ t u q. q)) older (weaker (λ p. IsIn acts p.ahead) (λ p. IsIn joined p.ahead) ps (λ p q. gains.in_grows acts joined p.ahead (Rattle.protocol_laws.proofs.machine.ActsGrow.changed_grows t (book.joins a m) acts (λ x. record { tid = refl; reader = refl; placed = λ b q. Rattle.protocol_laws.proofs.machine.ActsGrow.more_place b x.places _ q; rises = omega arith; doomed = λ d. d; live = λ d. d; sealed = λ d. d })) q) ins))
    (gains_each 0 s.ring.next_tid ps joined asc')
    (no_gain 0 s.ring.next_tid joined ps asc' (weaker (NoneAhead acts) (NoneAhead joined) ps (λ p q. none_joined t a m acts p q) (all_join (NoneAhead acts) s.book.pairs new none (new_none t a (book.met (lock_of t s.book.acts) c.entries) acts live))))
    (befores_joined (carrying joined ps) t a m v h.before acts (λ x i e. subst (λ o. holds (λ x. is_live_status x.status) o ≡ true) e live) 0 s.ring.next_tid asc between sets))))
  where
    acts : List Act
    acts = s.book.acts

    c : Cell C
    c = cell_at s a

    m : ℕ
    m = max (cell_at s a).last (floor_at t s.book.acts (cell_at s a))

    new : List Pair
    new = book.new_pairs t a (book.met (lock_of t s.book.acts) (cell_at s a).entries) s.book.acts

    ps : List Pair
    ps = s.book.pairs ++ book.new_pairs t a (book.met (lock_of t s.book.acts) (cell_at s a).entries) s.book.acts

    joined : List Act
    joined = book.changed_act t (book.joins a (max (cell_at s a).last (floor_at t s.book.acts (cell_at s a)))) s.book.acts

    v : List ℕ
    v = h.before t ++ asked_set t a s h

    b : ℕ → List ℕ
    b = with_at t (h.before t ++ asked_set t a s h) h.before

    asc' : Ascend 0 s.ring.next_tid (map (λ x. x.tid) (book.changed_act t (book.joins a (max (cell_at s a).last (floor_at t s.book.acts (cell_at s a)))) s.book.acts))
    asc' = subst (Ascend 0 s.ring.next_tid) (sym (joined_tids t a (max (cell_at s a).last (floor_at t s.book.acts (cell_at s a))) s.book.acts)) asc

    same : carrying (book.changed_act t (book.joins a (max (cell_at s a).last (floor_at t s.book.acts (cell_at s a)))) s.book.acts) (s.book.pairs ++ book.new_pairs t a (book.met (lock_of t s.book.acts) (cell_at s a).entries) s.book.acts) ≡ asked_gains t a s h
    same =
        gains.same_out s.book.acts (book.changed_act t (book.joins a (max (cell_at s a).last (floor_at t s.book.acts (cell_at s a)))) s.book.acts) (s.book.pairs ++ book.new_pairs t a (book.met (lock_of t s.book.acts) (cell_at s a).entries) s.book.acts) (λ p. gains.out_changed t (book.joins a (max (cell_at s a).last (floor_at t s.book.acts (cell_at s a)))) s.book.acts p (λ x. refl) (λ x. refl))
        ∙ (gains.carrying_join s.book.acts s.book.pairs (book.new_pairs t a (book.met (lock_of t s.book.acts) (cell_at s a).entries) s.book.acts)
        ∙ (ap (λ z. z ++ carrying s.book.acts (book.new_pairs t a (book.met (lock_of t s.book.acts) (cell_at s a).entries) s.book.acts)) (sym gs) ∙ ap (λ z. h.gains ++ z) (new_carried s.book.acts t a (book.met (lock_of t s.book.acts) (cell_at s a).entries))))

    -- its own set reaches down to base
    low : first ≤ greatest (h.before t)
    low =
        let x = one_is (λ x. is_live_status x.status) (act_of t s.book.acts) live in
        let f = all_found (λ x. first ≤ x.m) (λ x. x.tid == t) s.book.acts x.0 based x.1 in
        let g = all_found (IsGreatest h.before) (λ x. x.tid == t) s.book.acts x.0 sets x.1 in
        omega (arith, f.0, g.0 (live_not_doomed x.0.status x.2), ap (λ z. greatest (h.before z)) (eqb-true x.0.tid t f.1))

    met : List Lock
    met = filter (λ x. not (book.is_doomed_act s.book.acts x)) (book.met (lock_of t s.book.acts) (cell_at s a).entries)

    in_set : greatest (h.before t ++ asked_set t a s h) ≡ max (greatest (h.before t)) (max (greatest (batches_in (h.long a))) (max (greatest (sets_of h.before (filter (rivals (lock_of t s.book.acts)) (h.left_sealed a)))) (greatest (sets_of h.before (filter (λ x. not (book.is_doomed_act s.book.acts x)) (book.met (lock_of t s.book.acts) (cell_at s a).entries))))))
    in_set = omega (arith, greatest_join (h.before t) (asked_set t a s h), greatest_join (batches_in (h.long a)) (sets_of h.before (filter (rivals (lock_of t s.book.acts)) (h.left_sealed a)) ++ sets_of h.before (filter (λ x. not (book.is_doomed_act s.book.acts x)) (book.met (lock_of t s.book.acts) (cell_at s a).entries))), greatest_join (sets_of h.before (filter (rivals (lock_of t s.book.acts)) (h.left_sealed a))) (sets_of h.before (filter (λ x. not (book.is_doomed_act s.book.acts x)) (book.met (lock_of t s.book.acts) (cell_at s a).entries))))

    back : (xs ys : List Pair) → AllByRecursion IsOlder (xs ++ ys) → AllByRecursion IsOlder ys
    back [] ys o = o
    back (x ∷ xs) ys o = back xs ys o.1

    gained_met : greatest (sets_of h.before (filter (λ x. not (book.is_doomed_act s.book.acts x)) (book.met (lock_of t s.book.acts) (cell_at s a).entries))) ≤ greatest (gained (asked_gains t a s h) t (with_at t (h.before t ++ asked_set t a s h) h.before))
    gained_met = sets_most h.before (greatest (gained (asked_gains t a s h) t (with_at t (h.before t ++ asked_set t a s h) h.before))) (filter (λ x. not (book.is_doomed_act s.book.acts x)) (book.met (lock_of t s.book.acts) (cell_at s a).entries))
        (group_gained (asked_gains t a s h) t a h.before (with_at t (h.before t ++ asked_set t a s h) h.before) (filter (λ x. not (book.is_doomed_act s.book.acts x)) (book.met (lock_of t s.book.acts) (cell_at s a).entries)) (λ u n. at_other t u (h.before t ++ asked_set t a s h) h.before n) (λ v u q. behind_last h.gains (book.new_pairs t a (book.met (lock_of t s.book.acts) (cell_at s a).entries) s.book.acts) v u q) (back s.book.pairs (book.new_pairs t a (book.met (lock_of t s.book.acts) (cell_at s a).entries) s.book.acts) older))

    between : (x : Act) → x.tid ≡ t → x.m ≡ greatest (h.before t) → (max x.m (max (cell_at s a).last (floor_at t s.book.acts (cell_at s a))) ≤ greatest (h.before t ++ asked_set t a s h))
        × (greatest (h.before t ++ asked_set t a s h) ≤ max (max x.m (max (cell_at s a).last (floor_at t s.book.acts (cell_at s a)))) (greatest (gained (carrying (book.changed_act t (book.joins a (max (cell_at s a).last (floor_at t s.book.acts (cell_at s a)))) s.book.acts) (s.book.pairs ++ book.new_pairs t a (book.met (lock_of t s.book.acts) (cell_at s a).entries) s.book.acts)) t (with_at t (h.before t ++ asked_set t a s h) h.before))))
    between x i e =
        let gb = greatest_most (cell_at s a).last (batches_in (h.long a)) on.lasts.placed in
        let gl = left_rivals h.before first (lock_of t s.book.acts).reader s.book.acts (cell_at s a).floors (h.left_sealed a) sets on.floors in (
          omega (arith, in_set, e, low, on.tight.placed, gl),
          omega (arith, in_set, e, low, gb, gl, gained_met, ap (λ z. greatest (gained z t (with_at t (h.before t ++ asked_set t a s h) h.before))) same),
        )

-- ---- all events

-- what the ACTs that stand ahead are, and the actor
pub record SetsWith {C : Type 0} (w : Fixed C) (e : Event) (s : Machine C) (h : History) : Type 0 where
  pub pairs_stand : pairs.Standing w s
  pub pairs_then : pairs.Standing w (after w e s)
  pub tids : TidsAscend s
  pub tids_then : TidsAscend (after w e s)
  pub gains : GainsAre s h
  pub pairs_in : PairsIn s
  pub none_ahead : AllByRecursion (NoneAhead s.book.acts) s.book.pairs
  pub new_in : (t a : ℕ) → AllIn s.book.acts (book.new_pairs t a (book.met (lock_of t s.book.acts) (cell_at s a).entries) s.book.acts)
  pub tights : Tights w s h
  pub lasts : Lasts s h
  pub floors : Floors w s h

-- nobody is in its way, and who stands between batches is not given up yet
pub asks_raised : {C : Type 0} (w : Fixed C) (t a : ℕ) (s : Machine C) (h : History) → holds (λ x. is_live_status x.status) (act_of t s.book.acts) ≡ true → SetsWith w (Ask t a) s h → AllGreatest h.before s.book.acts → book.in_the_way (lock_of t s.book.acts) (cell_at s a).entries ≡ None
    → AllGreatest (asked_before true t a s h) (raised (s.book.pairs ++ book.new_pairs t a (book.met (lock_of t s.book.acts) (cell_at s a).entries) s.book.acts) (book.changed_act t (book.joins a (max (cell_at s a).last (floor_at t s.book.acts (cell_at s a)))) s.book.acts))
unfolding GainsAre PairsIn Tights Lasts Floors after
asks_raised w t a s h live k g e = asked_raised (base w.text) t a s h live (record { tight = k.tights a; lasts = k.lasts a; floors = k.floors a }) (found.stand w s k.tids k.pairs_stand).based k.tids
    (subst (λ o. AllByRecursion IsOlder (book.asked_pairs o (book.met (lock_of t s.book.acts) (cell_at s a).entries) t a s.book)) e (found.stand w (after w (Ask t a) s) k.tids_then k.pairs_then).older)
    (all_join (λ p. IsIn s.book.acts p.ahead) s.book.pairs _ k.pairs_in (k.new_in t a)) k.none_ahead k.gains g

asks : {C : Type 0} (w : Fixed C) (t a : ℕ) (s : Machine C) (h : History) → holds (λ x. is_live_status x.status) (act_of t s.book.acts) ≡ true → SetsWith w (Ask t a) s h → AllGreatest h.before s.book.acts → (o : Option ℕ) → book.in_the_way (lock_of t s.book.acts) (cell_at s a).entries ≡ o
    → AllGreatest (asked_before (is_none o) t a s h) (book.asked_acts o (book.met (lock_of t s.book.acts) (cell_at s a).entries) t a (max (cell_at s a).last (floor_at t s.book.acts (cell_at s a))) s.book)
unfolding GainsAre PairsIn Tights Lasts Floors after
asks w t a s h live k g (Some x) e = changed h.before t (book.doomed_by (Rattle.protocol.specs.Verdicts.died a x t)) s.book.acts (λ x. record { tid = refl; m = refl; doomed = dooms (is_live_status x.status) _ x.status }) g
asks w t a s h live k g None e = mapped (asked_before true t a s h) (crossed_out a) (raised (s.book.pairs ++ book.new_pairs t a (book.met (lock_of t s.book.acts) (cell_at s a).entries) s.book.acts) (book.changed_act t (book.joins a (max (cell_at s a).last (floor_at t s.book.acts (cell_at s a)))) s.book.acts)) (λ x. record { tid = refl; m = refl; doomed = dooms (is_crossed x) _ x.status }) (asks_raised w t a s h live k g e)

pub sets_kept : {C : Type 0} (w : Fixed C) (e : Event) (s : Machine C) (h : History) → IsAllowed w e s → shows.Owed e s h → SetsWith w e s h → Sets s h → Sets (after w e s) (grown w e s h)
unfolding Sets shows.Owed TidsAscend conditions after grown
sets_kept w (Admit t) s h ok o k g =
    let i : t ≡ s.ring.next_tid = eqb-true t s.ring.next_tid ok.0 in
    all_join (IsGreatest (with_at t (base w.text ∷ []) h.before)) s.book.acts _ (others 0 t (base w.text ∷ []) h.before s.book.acts (subst (λ z. Ascend 0 z (map (λ x. x.tid) s.book.acts)) (sym i) k.tids) g) ((λ d. omega (arith, ap greatest (at_it t (base w.text ∷ []) h.before))), tt)
sets_kept w (Arrive k a) s h ok o q g = mapped h.before (crossed_out a) (map (book.lowered k (book.tids_on (cell_at s a).entries)) s.book.acts) (λ x. record { tid = refl; m = refl; doomed = dooms (is_crossed x) _ x.status }) (mapped h.before (book.lowered k (book.tids_on (cell_at s a).entries)) s.book.acts (λ x. record { tid = refl; m = refl; doomed = λ d. d }) g)
sets_kept w (Ask t a) s h ok o k g = asks w t a s h o k g (book.in_the_way (lock_of t s.book.acts) (cell_at s a).entries) refl
sets_kept w (End t a) s h ok o k g = ended h.before t (has_act t (cell_at s a).entries) (outcome_of t (cell_at s a).outbox) s.book.acts g
sets_kept w (Abort j) s h ok o k g = mapped h.before _ s.book.acts (λ x. record { tid = refl; m = refl; doomed = dooms _ _ x.status }) g
sets_kept w (Prepare t a) s h ok o k g = changed h.before t _ s.book.acts (λ x. record { tid = refl; m = refl; doomed = λ d. d }) g
sets_kept w (Vouch t a) s h ok o k g = changed h.before t _ s.book.acts (λ x. record { tid = refl; m = refl; doomed = λ d. d }) g
sets_kept w (Decide t) s h ok o k g = changed h.before t _ s.book.acts (λ x. record { tid = refl; m = refl; doomed = not_doomed_decided s.book.next_c (is_value x.result) x.status }) g
sets_kept w (Seal t) s h ok o k g = changed h.before t _ s.book.acts (λ x. record { tid = refl; m = refl; doomed = unsealed x.status }) g
sets_kept w (Finish t a) s h ok o k g = changed h.before t _ s.book.acts (λ x. record { tid = refl; m = refl; doomed = λ d. d }) g
sets_kept w e s h ok o k g = g
