-- Pairs stand, and before numbers are carried along them.
use Rattle.std.specs.Prelude.{◌≡◌, refl, ℕ, ◌≤◌, ◌==◌, max, not, Bool, true, false, ◌&&◌, if◌then◌else◌, Some, List, [], ◌∷◌, ◌++◌, map, filter}
use Rattle.std.specs.List.{AllByRecursion}
use Rattle.std.proofs.Common.{arith, sym, subst, inl, inr, ◌∙◌}
use Rattle.std.proofs.lemmas.Bool.{and_parts, or_cases, or_right, not-true, true≢false}
use Rattle.snap_base.specs.declared.transactions.TxResult.{TxResult}
use Rattle.snap_base.specs.declared.verdicts.Verdict.{Verdict}
use Rattle.protocol.specs.Parts.{Act, Pair, Status, Live, Doomed, Decided, Sealed, Joined}
use Rattle.protocol.specs.Words.{greatest, is_doomed, is_live_status, is_value, act_of, is_ordered}
use Rattle.protocol.specs.Spread.{stands_behind, carries_to, carried, raised, crossed_out, is_crossed, reaches}
use Rattle.protocol.specs.OnBook as book
use Rattle.protocol_laws.proofs.first.Lists.{weaker}
use Rattle.protocol_laws.proofs.first.Statuses.{doomed_decided, doomed_sealed, ordered_decided}

-- ---- what is kept of the ACTs, walked from the oldest

-- each ACT further on that carries its number to this one has none that is greater
pub Over : List Pair → Act → List Act → Type 0
Over pairs x xs = AllByRecursion (λ y. carries_to pairs x y ≡ true → y.m ≤ x.m) xs

pub CarriedOn : List Pair → List Act → Type 0
CarriedOn pairs [] = Unit {0}
CarriedOn pairs (x ∷ xs) = Over pairs x xs × CarriedOn pairs xs

-- ---- changes of one ACT each, that leave its tid and number and undoom nobody

pub record Keeps (x y : Act) : Type 0 where
  pub tid : y.tid ≡ x.tid
  pub m : y.m ≡ x.m
  pub doomed : is_doomed x.status ≡ true → is_doomed y.status ≡ true
  pub placed : is_ordered x.status ≡ true → is_ordered y.status ≡ true

not_doomed : (b c : Bool) → (b ≡ true → c ≡ true) → not c ≡ true → not b ≡ true
not_doomed true c h q = absurd (true≢false (sym (h refl) ∙ not-true c q))
not_doomed false c h q = refl

over_kept : (pairs : List Pair) (f : Act → Act) (x x' : Act) (xs : List Act) → ((y : Act) → Keeps y (f y)) → Keeps x x' → Over pairs x xs → Over pairs x' (map f xs)
unfolding Over
over_kept pairs f x x' [] k kx h = tt
over_kept pairs f x x' (y ∷ ys) k kx h = (λ e. one e, over_kept pairs f x x' ys k kx h.1)
  where
    one : carries_to pairs x' (f y) ≡ true → (f y).m ≤ x'.m
    one e =
        let l = and_parts (not (is_ordered x'.status)) (not (is_doomed (f y).status) && stands_behind pairs x'.tid (f y).tid) e in
        let p = and_parts (not (is_doomed (f y).status)) (stands_behind pairs x'.tid (f y).tid) l.1 in
        let q : stands_behind pairs x.tid y.tid ≡ true = subst (λ t. stands_behind pairs t y.tid ≡ true) kx.tid (subst (λ t. stands_behind pairs x'.tid t ≡ true) (k y).tid p.1) in
        let r : carries_to pairs x y ≡ true = rw (not_doomed (is_ordered x.status) (is_ordered x'.status) kx.placed l.0, not_doomed (is_doomed y.status) (is_doomed (f y).status) (k y).doomed p.0, q) refl in
        omega (arith, h.0 r, (k y).m, kx.m)

pub carried_kept : (pairs : List Pair) (f : Act → Act) (xs : List Act) → ((y : Act) → Keeps y (f y)) → CarriedOn pairs xs → CarriedOn pairs (map f xs)
unfolding CarriedOn
carried_kept pairs f [] k h = tt
carried_kept pairs f (x ∷ xs) k h = (over_kept pairs f x (f x) xs k (k x) h.0, carried_kept pairs f xs k h.1)

-- ---- fewer pairs

over_fewer : (pairs fewer : List Pair) (x : Act) (xs : List Act) → ((t u : ℕ) → stands_behind fewer t u ≡ true → stands_behind pairs t u ≡ true) → Over pairs x xs → Over fewer x xs
unfolding Over
over_fewer pairs fewer x [] k h = tt
over_fewer pairs fewer x (y ∷ ys) k h = (λ e. one e, over_fewer pairs fewer x ys k h.1)
  where
    one : carries_to fewer x y ≡ true → y.m ≤ x.m
    one e =
        let l = and_parts (not (is_ordered x.status)) (not (is_doomed y.status) && stands_behind fewer x.tid y.tid) e in
        let p = and_parts (not (is_doomed y.status)) (stands_behind fewer x.tid y.tid) l.1 in
        h.0 (rw (l.0, p.0, k x.tid y.tid p.1) refl)

pub carried_fewer : (pairs fewer : List Pair) (xs : List Act) → ((t u : ℕ) → stands_behind fewer t u ≡ true → stands_behind pairs t u ≡ true) → CarriedOn pairs xs → CarriedOn fewer xs
unfolding CarriedOn
carried_fewer pairs fewer [] k h = tt
carried_fewer pairs fewer (x ∷ xs) k h = (over_fewer pairs fewer x xs k h.0, carried_fewer pairs fewer xs k h.1)

pub filtered_behind : (p : Pair → Bool) (pairs : List Pair) (t u : ℕ) → stands_behind (filter p pairs) t u ≡ true → stands_behind pairs t u ≡ true
filtered_behind p [] t u e = e
filtered_behind p (q ∷ qs) t u e = by (p q) e (filtered_behind p qs t u)
  where
    by : (b : Bool) → stands_behind (if b then q ∷ filter p qs else filter p qs) t u ≡ true → (stands_behind (filter p qs) t u ≡ true → stands_behind qs t u ≡ true) → stands_behind (q ∷ qs) t u ≡ true
    by true e h = elim (or_cases ((q.behind == t) && (q.ahead == u)) (stands_behind (filter p qs) t u) e) [ inl a ↦ rw a refl | inr b ↦ or_right ((q.behind == t) && (q.ahead == u)) (stands_behind qs t u) (h b) ]
    by false e h = or_right ((q.behind == t) && (q.ahead == u)) (stands_behind qs t u) (h e)

-- ---- rise

-- a number among some is at most the greatest of those that pass
pub one_of_carried : (pairs : List Pair) (x : Act) (others : List Act) → AllByRecursion (λ y. carries_to pairs x y ≡ true → y.m ≤ carried pairs x others) others
one_of_carried pairs x others = along_list others (λ n h. h)
  where
    top : (b : Bool) (y : Act) (rest : List Act) → b ≡ true → y.m ≤ greatest (map (λ u. u.m) (if b then y ∷ rest else rest))
    top true y rest e = omega arith
    top false y rest e = absurd (true≢false (sym e))

    rest_below : (b : Bool) (y : Act) (rest : List Act) (n : ℕ) → n ≤ greatest (map (λ u. u.m) rest) → n ≤ greatest (map (λ u. u.m) (if b then y ∷ rest else rest))
    rest_below true y rest n h = omega (arith, h)
    rest_below false y rest n h = h

    along_list : (ys : List Act) → ((n : ℕ) → n ≤ carried pairs x ys → n ≤ carried pairs x others) → AllByRecursion (λ y. carries_to pairs x y ≡ true → y.m ≤ carried pairs x others) ys
    along_list [] h = tt
    along_list (y ∷ ys) h = (λ e. h y.m (top (carries_to pairs x y) y (filter (carries_to pairs x) ys) e), along_list ys (λ n k. h n (rest_below (carries_to pairs x y) y (filter (carries_to pairs x) ys) n k)))

pub raised_carries : (pairs : List Pair) (xs : List Act) → CarriedOn pairs (raised pairs xs)
unfolding CarriedOn Over
raised_carries pairs [] = tt
raised_carries pairs (x ∷ xs) =
    let rest = raised pairs xs in
    (weaker (λ y. carries_to pairs x y ≡ true → y.m ≤ carried pairs x rest) (λ y. carries_to pairs x y ≡ true → y.m ≤ max x.m (carried pairs x rest)) rest (λ y h e. omega (arith, h e)) (one_of_carried pairs x rest), raised_carries pairs xs)

-- ---- no number is below base

pub Based : ℕ → List Act → Type 0
Based n xs = AllByRecursion (λ x. n ≤ x.m) xs

pub based_map : (n : ℕ) (f : Act → Act) (xs : List Act) → ((x : Act) → n ≤ x.m → n ≤ (f x).m) → Based n xs → Based n (map f xs)
unfolding Based
based_map n f [] k h = tt
based_map n f (x ∷ xs) k h = (k x h.0, based_map n f xs k h.1)

pub based_raised : (n : ℕ) (pairs : List Pair) (xs : List Act) → Based n xs → Based n (raised pairs xs)
unfolding Based
based_raised n pairs [] h = tt
based_raised n pairs (x ∷ xs) h = (omega (arith, h.0), based_raised n pairs xs h.1)

pub based_more : (n : ℕ) (xs : List Act) (x : Act) → n ≤ x.m → Based n xs → Based n (xs ++ x ∷ [])
unfolding Based
based_more n [] x e h = (e, tt)
based_more n (y ∷ ys) x e h = (h.0, based_more n ys x e h.1)

-- ---- changes that keep

keeps_if : (b : Bool) (f : Act → Act) (x : Act) → Keeps x (f x) → Keeps x (book.change_if b f x)
keeps_if true f x h = h
keeps_if false f x h = record { tid = refl; m = refl; doomed = λ e. e; placed = λ e. e }

pub changed_keeps : (t : ℕ) (f : Act → Act) → ((x : Act) → Keeps x (f x)) → (x : Act) → Keeps x (book.change_if (x.tid == t) f x)
changed_keeps t f h x = keeps_if (x.tid == t) f x (h x)

pub doomed_or : (b : Bool) (v : Verdict) (st : Status) → is_doomed st ≡ true → is_doomed (if b then Doomed v else st) ≡ true
doomed_or true v st h = refl
doomed_or false v st h = h

-- only who is live is given up
placed_or : (b : Bool) (v : Verdict) (st : Status) → is_ordered st ≡ true → is_ordered (if is_live_status st && b then Doomed v else st) ≡ true
placed_or b v Live h = absurd (true≢false (sym h))
placed_or b v (Doomed u) h = absurd (true≢false (sym h))
placed_or b v (Decided c) h = refl
placed_or b v (Sealed c) h = refl

placed_live : (v : Verdict) (st : Status) → is_ordered st ≡ true → is_ordered (if is_live_status st then Doomed v else st) ≡ true
placed_live v Live h = absurd (true≢false (sym h))
placed_live v (Doomed u) h = absurd (true≢false (sym h))
placed_live v (Decided c) h = refl
placed_live v (Sealed c) h = refl

pub crossed_keeps : (a : ℕ) (x : Act) → Keeps x (crossed_out a x)
crossed_keeps a x = record { tid = refl; m = refl; doomed = doomed_or (is_crossed x) _ x.status; placed = placed_or (reaches x.m x.n) _ x.status }

pub lowered_keeps : (k : ℕ) (tids : List ℕ) (x : Act) → Keeps x (book.lowered k tids x)
lowered_keeps k tids x = record { tid = refl; m = refl; doomed = λ e. e; placed = λ e. e }

pub doomed_keeps : (v : Verdict) (x : Act) → Keeps x (book.doomed_by v x)
doomed_keeps v x = record { tid = refl; m = refl; doomed = doomed_or (is_live_status x.status) v x.status; placed = placed_live v x.status }

pub result_keeps : (r : TxResult) (x : Act) → Keeps x (book.with_result r x)
result_keeps r x = record { tid = refl; m = refl; doomed = λ e. e; placed = λ e. e }

pub marked_keeps : (a : ℕ) (f : Joined → Joined) (x : Act) → Keeps x (book.marked a f x)
marked_keeps a f x = record { tid = refl; m = refl; doomed = λ e. e; placed = λ e. e }

pub decided_keeps : (c : ℕ) (x : Act) → Keeps x (book.decided_as c x)
decided_keeps c x = record { tid = refl; m = refl; doomed = doomed_decided c (is_value x.result) x.status; placed = ordered_decided c (is_value x.result) x.status }

sealed_placed : (st : Status) → is_ordered st ≡ true → is_ordered (book.sealed_status st) ≡ true
sealed_placed Live h = h
sealed_placed (Doomed v) h = h
sealed_placed (Decided d) h = refl
sealed_placed (Sealed d) h = h

pub sealed_keeps : (x : Act) → Keeps x (book.sealed x)
sealed_keeps x = record { tid = refl; m = refl; doomed = doomed_sealed x.status; placed = sealed_placed x.status }

pub cascaded_keeps : (k by : ℕ) (x : Act) → Keeps x (book.cascaded k by x)
cascaded_keeps k by x = record { tid = refl; m = refl; doomed = doomed_or _ _ x.status; placed = placed_or _ _ x.status }

-- a new one is last, at base
over_more : (ps : List Pair) (x y : Act) (xs : List Act) → y.m ≤ x.m → Over ps x xs → Over ps x (xs ++ y ∷ [])
unfolding Over
over_more ps x y [] e h = (λ q. e, tt)
over_more ps x y (z ∷ zs) e h = (h.0, over_more ps x y zs e h.1)

pub carried_more : (n : ℕ) (ps : List Pair) (y : Act) (xs : List Act) → y.m ≡ n → Based n xs → CarriedOn ps xs → CarriedOn ps (xs ++ y ∷ [])
unfolding CarriedOn Over Based
carried_more n ps y [] e b h = (tt, tt)
carried_more n ps y (x ∷ xs) e b h = (over_more ps x y xs (omega (arith, e, b.0)) h.0, carried_more n ps y xs e b.1 h.1)

-- ---- for other files

pub some_is : (x y : Act) → Some x ≡ Some y → x ≡ y
some_is x y e = cc e

pub over_found : (ps : List Pair) (x : Act) (u : ℕ) (ys : List Act) (y : Act) → Over ps x ys → act_of u ys ≡ Some y → carries_to ps x y ≡ true → y.m ≤ x.m
unfolding Over
over_found ps x u [] y h e c = absurd (cc e)
over_found ps x u (z ∷ zs) y h e c = by (z.tid == u) e (over_found ps x u zs y h.1)
  where
    by : (b : Bool) → (if b then Some z else act_of u zs) ≡ Some y → (act_of u zs ≡ Some y → carries_to ps x y ≡ true → y.m ≤ x.m) → y.m ≤ x.m
    by true e k = let q : z ≡ y = some_is z y e in subst (λ v. v.m ≤ x.m) q (h.0 (subst (λ v. carries_to ps x v ≡ true) (sym q) c))
    by false e k = k e c

pub carried_step : (ps : List Pair) (x : Act) (xs : List Act) → CarriedOn ps (x ∷ xs) → Over ps x xs × CarriedOn ps xs
unfolding CarriedOn
carried_step ps x xs h = h

pub based_is : (n : ℕ) (xs : List Act) → Based n xs → AllByRecursion (λ x. n ≤ x.m) xs
unfolding Based
based_is n xs h = h

pub none_carried : (ps : List Pair) → CarriedOn ps []
unfolding CarriedOn
none_carried ps = tt

pub none_based : (n : ℕ) → Based n []
unfolding Based
none_based n = tt
