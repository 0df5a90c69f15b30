-- The statuses of ACTs, as events change them: who is doomed, and who has its place.
use Rattle.std.specs.Prelude.{◌≡◌, refl, ℕ, ◌==◌, nat_le, max, Bool, true, false, ◌&&◌, ◌||◌, if◌then◌else◌, Some, None, unwrap_or, List, [], ◌∷◌, ◌++◌, map}
use Rattle.std.proofs.Common.{sym, ap, subst, ◌∙◌}
use Rattle.std.proofs.lemmas.Bool.{true≢false, and_parts, eqb-true, eqb-false, ne_eqb}
use Rattle.snap_base.specs.declared.verdicts.Verdict.{Verdict}
use Rattle.snap_base.proofs.Booleans.{or_false, or_true}
use Rattle.protocol.specs.OnBook.{cascaded, change_if, changed_act, decided_as, decided_status, doomed_by, sealed, sealed_status}
use Rattle.protocol.specs.Parts.{Act, Pair, Status, Live, Doomed, Decided, Sealed}
use Rattle.protocol.specs.Spread.{carried, crossed_out, is_crossed, raised, reaches}
use Rattle.protocol.specs.Verdicts.{out_of_order, taken_along}
use Rattle.protocol.specs.Words.{act_of, holds, is_doomed, is_live_status, is_ordered, is_value}
use Rattle.protocol_laws.specs.Highs.{doomed_at}
use Rattle.protocol_laws.proofs.first.Statuses.{decided_doomed, sealed_doomed}

-- a test of the status of the ACT with this tid
abbrev pub status_at : (Status → Bool) → List Act → ℕ → Bool
status_at p acts u = holds (λ x. p x.status) (act_of u acts)

-- ---- statuses alone

pub statuses_same : (p : Status → Bool) (u : ℕ) (xs ys : List Act) → map (λ x. x.tid) xs ≡ map (λ x. x.tid) ys → map (λ x. x.status) xs ≡ map (λ x. x.status) ys → status_at p xs u ≡ status_at p ys u
statuses_same p u [] [] e f = refl
statuses_same p u [] (y ∷ ys) e f = absurd (cc e)
statuses_same p u (x ∷ xs) [] e f = absurd (cc e)
statuses_same p u (x ∷ xs) (y ∷ ys) e f =
    let i : x.tid ≡ y.tid = cc e in
    let j : map (λ (z : Act). z.tid) xs ≡ map (λ (z : Act). z.tid) ys = cc e in
    let g : x.status ≡ y.status = cc f in
    let l : map (λ (z : Act). z.status) xs ≡ map (λ (z : Act). z.status) ys = cc f in
    ap (λ (n : ℕ). holds (λ (z : Act). p z.status) (if n == u then Some x else act_of u xs)) i ∙ by (y.tid == u) (ap p g) (statuses_same p u xs ys j l)
  where
    by : (q : Bool) → p x.status ≡ p y.status → status_at p xs u ≡ status_at p ys u → holds (λ z. p z.status) (if q then Some x else act_of u xs) ≡ holds (λ z. p z.status) (if q then Some y else act_of u ys)
    by true g r = g
    by false g r = r

-- one more, that is live
pub more_acts : (p : Status → Bool) (u : ℕ) (xs : List Act) (n : Act) → p n.status ≡ false → status_at p (xs ++ n ∷ []) u ≡ status_at p xs u
more_acts p u [] n h = by (n.tid == u)
  where
    by : (b : Bool) → holds (λ z. p z.status) (if b then Some n else None) ≡ false
    by true = h
    by false = refl
more_acts p u (x ∷ xs) n h = by (x.tid == u) (more_acts p u xs n h)
  where
    by : (b : Bool) → status_at p (xs ++ n ∷ []) u ≡ status_at p xs u → holds (λ z. p z.status) (if b then Some x else act_of u (xs ++ n ∷ [])) ≡ holds (λ z. p z.status) (if b then Some x else act_of u xs)
    by true r = refl
    by false r = r

-- each is changed, and the test is as before
pub mapped_status : (p : Status → Bool) (f : Act → Act) (u : ℕ) (xs : List Act) → ((x : Act) → (f x).tid ≡ x.tid) → ((x : Act) → p (f x).status ≡ p x.status) → status_at p (map f xs) u ≡ status_at p xs u
mapped_status p f u [] i k = refl
mapped_status p f u (x ∷ xs) i k = ap (λ (n : ℕ). holds (λ (z : Act). p z.status) (if n == u then Some (f x) else act_of u (map f xs))) (i x) ∙ by (x.tid == u) (mapped_status p f u xs i k)
  where
    by : (b : Bool) → status_at p (map f xs) u ≡ status_at p xs u → holds (λ z. p z.status) (if b then Some (f x) else act_of u (map f xs)) ≡ holds (λ z. p z.status) (if b then Some x else act_of u xs)
    by true r = k x
    by false r = r

pub if_tid : (b : Bool) (f : Act → Act) (x : Act) → (f x).tid ≡ x.tid → (change_if b f x).tid ≡ x.tid
if_tid true f x h = h
if_tid false f x h = refl

pub if_status : (p : Status → Bool) (b : Bool) (f : Act → Act) (x : Act) → p (f x).status ≡ p x.status → p (change_if b f x).status ≡ p x.status
if_status p true f x h = h
if_status p false f x h = refl

pub changed_status : (p : Status → Bool) (t : ℕ) (f : Act → Act) (u : ℕ) (xs : List Act) → ((x : Act) → (f x).tid ≡ x.tid) → ((x : Act) → p (f x).status ≡ p x.status) → status_at p (changed_act t f xs) u ≡ status_at p xs u
changed_status p t f u xs i k = mapped_status p (λ x. change_if (x.tid == t) f x) u xs (λ x. if_tid (x.tid == t) f x (i x)) (λ x. if_status p (x.tid == t) f x (k x))

pub raised_status : (p : Status → Bool) (ps : List Pair) (u : ℕ) (xs : List Act) → status_at p (raised ps xs) u ≡ status_at p xs u
raised_status p ps u [] = refl
raised_status p ps u (x ∷ xs) = by (x.tid == u) (raised_status p ps u xs)
  where
    by : (b : Bool) → status_at p (raised ps xs) u ≡ status_at p xs u → holds (λ z. p z.status) (if b then Some (record x { m = max x.m (carried ps x (raised ps xs)) }) else act_of u (raised ps xs)) ≡ holds (λ z. p z.status) (if b then Some x else act_of u xs)
    by true r = refl
    by false r = r

pub raised_tids : (ps : List Pair) (xs : List Act) → map (λ x. x.tid) (raised ps xs) ≡ map (λ x. x.tid) xs
raised_tids ps [] = refl
raised_tids ps (x ∷ xs) = ap (λ (ns : List ℕ). x.tid ∷ ns) (raised_tids ps xs)

pub mapped_tids : (f : Act → Act) (xs : List Act) → ((x : Act) → (f x).tid ≡ x.tid) → map (λ x. x.tid) (map f xs) ≡ map (λ x. x.tid) xs
mapped_tids f [] i = refl
mapped_tids f (x ∷ xs) i = ap (λ (n : ℕ). n ∷ map (λ (y : Act). y.tid) (map f xs)) (i x) ∙ ap (λ (ns : List ℕ). x.tid ∷ ns) (mapped_tids f xs i)

-- ---- who is given up was live

live_unordered : (st : Status) → is_live_status st ≡ true → is_ordered st ≡ false
live_unordered Live e = refl
live_unordered (Doomed v) e = refl
live_unordered (Decided c) e = absurd (true≢false (sym e))
live_unordered (Sealed c) e = absurd (true≢false (sym e))

given_unordered : (b : Bool) (v : Verdict) (st : Status) → (b ≡ true → is_live_status st ≡ true) → is_ordered (if b then Doomed v else st) ≡ is_ordered st
given_unordered true v st k = sym (live_unordered st (k refl))
given_unordered false v st k = refl

pub crossed_ordered : (a u : ℕ) (xs : List Act) → status_at is_ordered (map (crossed_out a) xs) u ≡ status_at is_ordered xs u
crossed_ordered a u xs =
    mapped_status is_ordered (crossed_out a) u xs (λ x. refl) (λ x. given_unordered (is_crossed x) (out_of_order x.m (unwrap_or x.n 0) a) x.status (λ e. (and_parts (is_live_status x.status) (reaches x.m x.n) e).0))

pub cascaded_ordered : (k by u : ℕ) (xs : List Act) → status_at is_ordered (map (cascaded k by) xs) u ≡ status_at is_ordered xs u
cascaded_ordered k by u xs =
    mapped_status is_ordered (cascaded k by) u xs (λ x. refl) (λ x. given_unordered (is_live_status x.status && nat_le k x.m) (taken_along k by) x.status (λ e. (and_parts (is_live_status x.status) (nat_le k x.m) e).0))

pub died_ordered : (t : ℕ) (v : Verdict) (u : ℕ) (xs : List Act) → status_at is_ordered (changed_act t (doomed_by v) xs) u ≡ status_at is_ordered xs u
died_ordered t v u xs = changed_status is_ordered t (doomed_by v) u xs (λ x. refl) (λ x. given_unordered (is_live_status x.status) v x.status (λ e. e))

-- ---- who is given up

pub doomed_cascaded : (k by u : ℕ) (xs : List Act) → doomed_at (map (cascaded k by) xs) u ≡ (doomed_at xs u || holds (λ x. is_live_status x.status && nat_le k x.m) (act_of u xs))
doomed_cascaded k by u [] = refl
doomed_cascaded k by u (x ∷ xs) = one (x.tid == u) (doomed_cascaded k by u xs)
  where
    status : (b : Bool) (v : Verdict) → is_doomed (if b then Doomed v else x.status) ≡ (is_doomed x.status || b)
    status true v = sym (or_true (is_doomed x.status))
    status false v = sym (or_false (is_doomed x.status))

    one : (c : Bool) → doomed_at (map (cascaded k by) xs) u ≡ (doomed_at xs u || holds (λ x. is_live_status x.status && nat_le k x.m) (act_of u xs))
        → holds (λ y. is_doomed y.status) (if c then Some (cascaded k by x) else act_of u (map (cascaded k by) xs)) ≡ (holds (λ y. is_doomed y.status) (if c then Some x else act_of u xs) || holds (λ y. is_live_status y.status && nat_le k y.m) (if c then Some x else act_of u xs))
    one true r = status (is_live_status x.status && nat_le k x.m) (taken_along k by)
    one false r = r

-- ---- one that was live is changed

changed_other : (p : Status → Bool) (t : ℕ) (f : Act → Act) (u : ℕ) (xs : List Act) → ((x : Act) → (f x).tid ≡ x.tid) → (t ≡ u → ⊥) → status_at p (changed_act t f xs) u ≡ status_at p xs u
changed_other p t f u [] i n = refl
changed_other p t f u (x ∷ xs) i n =
    ap (λ (m : ℕ). holds (λ (z : Act). p z.status) (if m == u then Some (change_if (x.tid == t) f x) else act_of u (changed_act t f xs))) (if_tid (x.tid == t) f x (i x)) ∙ by (x.tid == u) refl (changed_other p t f u xs i n)
  where
    by : (b : Bool) → (x.tid == u) ≡ b → status_at p (changed_act t f xs) u ≡ status_at p xs u
        → holds (λ z. p z.status) (if b then Some (change_if (x.tid == t) f x) else act_of u (changed_act t f xs)) ≡ holds (λ z. p z.status) (if b then Some x else act_of u xs)
    by true e r = ap (λ (c : Bool). p (change_if c f x).status) (ne_eqb x.tid t (λ q. n (sym q ∙ eqb-true x.tid u e)))
    by false e r = r

changed_own : (p : Status → Bool) (t : ℕ) (f : Act → Act) (xs : List Act) → ((x : Act) → (f x).tid ≡ x.tid) → ((x : Act) → is_live_status x.status ≡ true → p (f x).status ≡ true) → status_at is_live_status xs t ≡ true → status_at p (changed_act t f xs) t ≡ true
changed_own p t f [] i k h = absurd (true≢false (sym h))
changed_own p t f (x ∷ xs) i k h =
    ap (λ (m : ℕ). holds (λ (z : Act). p z.status) (if m == t then Some (change_if (x.tid == t) f x) else act_of t (changed_act t f xs))) (if_tid (x.tid == t) f x (i x)) ∙ by (x.tid == t) h (changed_own p t f xs i k)
  where
    by : (b : Bool) → holds (λ z. is_live_status z.status) (if b then Some x else act_of t xs) ≡ true → (status_at is_live_status xs t ≡ true → status_at p (changed_act t f xs) t ≡ true)
        → holds (λ z. p z.status) (if b then Some (change_if b f x) else act_of t (changed_act t f xs)) ≡ true
    by true l r = k x l
    by false l r = r l

pub changed_joins : (p : Status → Bool) (t : ℕ) (f : Act → Act) (u : ℕ) (xs : List Act) → ((x : Act) → (f x).tid ≡ x.tid) → ((x : Act) → is_live_status x.status ≡ true → p (f x).status ≡ true) → status_at is_live_status xs t ≡ true
    → status_at p (changed_act t f xs) u ≡ (status_at p xs u || (t == u))
changed_joins p t f u xs i k h = by (t == u) refl
  where
    by : (b : Bool) → (t == u) ≡ b → status_at p (changed_act t f xs) u ≡ (status_at p xs u || b)
    by true e = subst (λ (z : ℕ). status_at p (changed_act t f xs) z ≡ (status_at p xs z || true)) (eqb-true t u e) (changed_own p t f xs i k h ∙ sym (or_true (status_at p xs t)))
    by false e = changed_other p t f u xs i (eqb-false t u e) ∙ sym (or_false (status_at p xs u))

given_live : (v : Verdict) (st : Status) → is_live_status st ≡ true → is_doomed (if is_live_status st then Doomed v else st) ≡ true
given_live v st e = ap (λ (b : Bool). is_doomed (if b then Doomed v else st)) e

-- a live one dies
pub doomed_died : (t : ℕ) (v : Verdict) (u : ℕ) (xs : List Act) → status_at is_live_status xs t ≡ true → doomed_at (changed_act t (doomed_by v) xs) u ≡ (doomed_at xs u || (t == u))
doomed_died t v u xs h = changed_joins is_doomed t (doomed_by v) u xs (λ x. refl) (λ x l. given_live v x.status l) h

ordered_now : (c : ℕ) (b : Bool) (st : Status) → is_live_status st ≡ true → is_ordered (decided_status c b st) ≡ true
ordered_now c true Live e = refl
ordered_now c false Live e = refl
ordered_now c b (Doomed v) e = absurd (true≢false (sym e))
ordered_now c b (Decided d) e = refl
ordered_now c b (Sealed d) e = refl

-- a live one is decided
pub ordered_decided : (t c u : ℕ) (xs : List Act) → status_at is_live_status xs t ≡ true → status_at is_ordered (changed_act t (decided_as c) xs) u ≡ (status_at is_ordered xs u || (t == u))
ordered_decided t c u xs h = changed_joins is_ordered t (decided_as c) u xs (λ x. refl) (λ x l. ordered_now c (is_value x.result) x.status l) h

ordered_sealed : (st : Status) → is_ordered (sealed_status st) ≡ is_ordered st
ordered_sealed Live = refl
ordered_sealed (Doomed v) = refl
ordered_sealed (Decided c) = refl
ordered_sealed (Sealed c) = refl

pub sealing : (t u : ℕ) (xs : List Act) → (status_at is_doomed (changed_act t sealed xs) u ≡ status_at is_doomed xs u) × (status_at is_ordered (changed_act t sealed xs) u ≡ status_at is_ordered xs u)
sealing t u xs = (changed_status is_doomed t sealed u xs (λ x. refl) (λ x. sealed_doomed x.status), changed_status is_ordered t sealed u xs (λ x. refl) (λ x. ordered_sealed x.status))

pub doomed_decided : (t c u : ℕ) (xs : List Act) → doomed_at (changed_act t (decided_as c) xs) u ≡ doomed_at xs u
doomed_decided t c u xs = changed_status is_doomed t (decided_as c) u xs (λ x. refl) (λ x. decided_doomed c (is_value x.result) x.status)
