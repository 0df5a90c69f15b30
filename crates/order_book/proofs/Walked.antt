-- To walk those that are walked is to go over all: who is not walked stays as it is.
use Rattle.std.proofs.Common.{◌≡◌, ℕ, suc, ◌+◌, refl, ap, sym, ◌∙◌, arith, length, map, List, [], ◌∷◌, ◌++◌}
use Rattle.std.specs.Prelude.{◌==◌, nat_le, not, max, ◌&&◌, ◌||◌, Bool, true, false, if◌then◌else◌, unwrap_or, slice_get, filter}
use Rattle.std.specs.List.{AllByRecursion}
use Rattle.std.proofs.lemmas.Bool.{cond_both, cond-true, cond-false, or_parts, or_from, true≢false}
use Rattle.snap_base.specs.declared.verdicts.Verdict.{Verdict}
use Rattle.protocol.specs.Parts.{Act, Pair, Status, Live, Doomed, Decided, Sealed}
use Rattle.protocol.specs.Words.{is_live_status, is_doomed, is_ordered, holds}
use Rattle.protocol.specs.Spread.{stands_behind, carried, carries_to, raised, raised_over, reaches, crossed_out}
use Rattle.protocol.specs.Verdicts.{out_of_order, taken_along}
use Rattle.protocol.specs.OnBook.{change_if, marked, has_left, decided_status}
use Rattle.order_book.specs.Changes.{changed_at, changed_along, carried_at, raised_to, raised_along, taken_along_from}
use Rattle.order_book.specs.Walking.{is_behind, is_walked, is_walked_at, places_of}
use Rattle.order_book.proofs.Carrying.{greatest_none}

-- ---- along the places of those that pass

along_next_by : (test : Act → Bool) (f : Act → Act) (k : ℕ) (x : Act) (xs ys : List Act) (y : Act)
    → ((zs : List Act) (z : Act) → changed_along (places_of test (suc (suc k)) xs) f (z ∷ zs) ≡ z ∷ changed_along (places_of test (suc k) xs) f zs) → (b : Bool)
    → changed_along (if b then suc k ∷ places_of test (suc (suc k)) xs else places_of test (suc (suc k)) xs) f (y ∷ ys) ≡ y ∷ changed_along (if b then k ∷ places_of test (suc k) xs else places_of test (suc k) xs) f ys
along_next_by test f k x xs ys y rest true = rest (changed_at k f ys) y
along_next_by test f k x xs ys y rest false = rest ys y

along_next : (test : Act → Bool) (f : Act → Act) (k : ℕ) (xs ys : List Act) (y : Act) → changed_along (places_of test (suc k) xs) f (y ∷ ys) ≡ y ∷ changed_along (places_of test k xs) f ys
along_next test f k [] ys y = refl
along_next test f k (x ∷ xs) ys y = along_next_by test f k x xs ys y (along_next test f (suc k) xs) (test x)

-- a change that leaves the others as they are
pub along_all : (test : Act → Bool) (f : Act → Act) → ((x : Act) → test x ≡ false → f x ≡ x) → (xs : List Act) → changed_along (places_of test 0 xs) f xs ≡ map f xs
along_all test f stays [] = refl
along_all test f stays (x ∷ xs) =
    cond_both (test x) (0 ∷ places_of test 1 xs) (places_of test 1 xs) (λ ats. changed_along ats f (x ∷ xs) ≡ f x ∷ map f xs)
    (λ e. along_next test f 0 xs xs (f x) ∙ ap (λ (zs : List Act). f x ∷ zs) (along_all test f stays xs))
    (λ e. along_next test f 0 xs xs x ∙ (ap (λ (zs : List Act). x ∷ zs) (along_all test f stays xs) ∙ ap (λ (z : Act). z ∷ map f xs) (sym (stays x e))))

raised_next_by : (pairs : List Pair) (test : Act → Bool) (k : ℕ) (xs ys : List Act) (y : Act)
    → raised_along pairs (places_of test (suc (suc k)) xs) (y ∷ ys) ≡ y ∷ raised_along pairs (places_of test (suc k) xs) ys → (b : Bool)
    → raised_along pairs (if b then suc k ∷ places_of test (suc (suc k)) xs else places_of test (suc (suc k)) xs) (y ∷ ys) ≡ y ∷ raised_along pairs (if b then k ∷ places_of test (suc k) xs else places_of test (suc k) xs) ys
raised_next_by pairs test k xs ys y rest true = ap (λ (zs : List Act). changed_at (suc k) (raised_to (carried_at pairs (suc k) zs)) zs) rest
raised_next_by pairs test k xs ys y rest false = rest

raised_next : (pairs : List Pair) (test : Act → Bool) (k : ℕ) (xs ys : List Act) (y : Act) → raised_along pairs (places_of test (suc k) xs) (y ∷ ys) ≡ y ∷ raised_along pairs (places_of test k xs) ys
raised_next pairs test k [] ys y = refl
raised_next pairs test k (x ∷ xs) ys y = raised_next_by pairs test k xs ys y (raised_next pairs test (suc k) xs ys y) (test x)

raised_all : (pairs : List Pair) (test : Act → Bool) → ((x : Act) (others : List Act) → test x ≡ false → raised_over pairs x others ≡ x ∷ others) → (xs : List Act) → raised_along pairs (places_of test 0 xs) xs ≡ raised pairs xs
raised_all pairs test stays [] = refl
raised_all pairs test stays (x ∷ xs) =
    let rest : raised_along pairs (places_of test 1 xs) (x ∷ xs) ≡ x ∷ raised pairs xs = raised_next pairs test 0 xs xs x ∙ ap (λ (zs : List Act). x ∷ zs) (raised_all pairs test stays xs) in
    cond_both (test x) (0 ∷ places_of test 1 xs) (places_of test 1 xs) (λ ats. raised_along pairs ats (x ∷ xs) ≡ raised_over pairs x (raised pairs xs))
    (λ e. ap (λ (zs : List Act). changed_at 0 (raised_to (carried_at pairs 0 zs)) zs) rest)
    (λ e. rest ∙ sym (stays x (raised pairs xs) e))

-- ---- who is not walked stays as it is

abbrev pub walked_as : List Pair → ℕ → Status → Bool
walked_as pairs t st = is_live_status st || (is_doomed st && is_behind pairs t)

-- neither given up nor given a place
gives_up_stays : (st : Status) (r : Bool) (why : Verdict) → is_live_status st ≡ false → (if is_live_status st && r then Doomed why else st) ≡ st
gives_up_stays Live r why e = absurd (true≢false e)
gives_up_stays (Doomed v) r why e = refl
gives_up_stays (Decided c) r why e = refl
gives_up_stays (Sealed c) r why e = refl

pub given_up_stays : (pairs : List Pair) (x : Act) (r : Bool) (why : Verdict) → is_walked pairs x ≡ false → record x { status = if is_live_status x.status && r then Doomed why else x.status } ≡ x
given_up_stays pairs x r why e = ap (λ (st : Status). record x { status = st }) (gives_up_stays x.status r why (or_parts (is_live_status x.status) (is_doomed x.status && is_behind pairs x.tid) e).0)

neither : (a b c : Bool) → a ≡ false → c ≡ false → ((a && b) || c) ≡ false
neither true b c ea ec = absurd (true≢false ea)
neither false b c ea ec = ec

not_behind : (pairs : List Pair) (t u : ℕ) → is_behind pairs t ≡ false → stands_behind pairs t u ≡ false
not_behind [] t u e = refl
not_behind (p ∷ ps) t u e = neither (p.behind == t) (p.ahead == u) (stands_behind ps t u) (or_parts (p.behind == t) (is_behind ps t) e).0 (not_behind ps t u (or_parts (p.behind == t) (is_behind ps t) e).1)

carries_nothing : (pairs : List Pair) (t u : ℕ) (st : Status) (d : Bool) → walked_as pairs t st ≡ false → (not (is_ordered st) && (d && stands_behind pairs t u)) ≡ false
carries_nothing pairs t u Live d e = absurd (true≢false e)
carries_nothing pairs t u (Doomed v) true e = not_behind pairs t u e
carries_nothing pairs t u (Doomed v) false e = refl
carries_nothing pairs t u (Decided c) d e = refl
carries_nothing pairs t u (Sealed c) d e = refl

max_none : (m n : ℕ) → n ≡ 0 → max m n ≡ m
max_none m n e = omega (arith, e)

raised_stays : (pairs : List Pair) (x : Act) (others : List Act) → is_walked pairs x ≡ false → raised_over pairs x others ≡ x ∷ others
raised_stays pairs x others e =
    ap (λ (m : ℕ). record x { m = m } ∷ others)
    (max_none x.m (carried pairs x others) (greatest_none (carries_to pairs x) (λ u. carries_nothing pairs x.tid u.tid x.status (not (is_doomed u.status)) e) others))

-- the rise of all, by those that are walked
pub raised_walked : (pairs : List Pair) (xs : List Act) → raised_along pairs (places_of (is_walked pairs) 0 xs) xs ≡ raised pairs xs
raised_walked pairs xs = raised_all pairs (is_walked pairs) (raised_stays pairs) xs

-- the doom of all whose numbers cross, by those that are walked
pub crossed_walked : (pairs : List Pair) (a : ℕ) (xs : List Act) → changed_along (places_of (is_walked pairs) 0 xs) (crossed_out a) xs ≡ map (crossed_out a) xs
crossed_walked pairs a xs = along_all (is_walked pairs) (crossed_out a) (λ x e. given_up_stays pairs x (reaches x.m x.n) (out_of_order x.m (unwrap_or x.n 0) a) e) xs

pub taken_walked : (pairs : List Pair) (k by : ℕ) (xs : List Act) → changed_along (places_of (is_walked pairs) 0 xs) (taken_along_from k by) xs ≡ map (taken_along_from k by) xs
taken_walked pairs k by xs = along_all (is_walked pairs) (taken_along_from k by) (λ x e. given_up_stays pairs x (nat_le k x.m) (taken_along k by) e) xs

-- ---- who is walked afterwards

pub places_same : (p q : Act → Bool) (f : Act → Act) (k : ℕ) (xs : List Act) → AllByRecursion (λ (x : Act). p x ≡ q (f x)) xs → places_of p k xs ≡ places_of q k (map f xs)
places_same p q f k [] same = refl
places_same p q f k (x ∷ xs) same =
    ap (λ (b : Bool). if b then k ∷ places_of p (suc k) xs else places_of p (suc k) xs) same.0
    ∙ ap (λ (ats : List ℕ). if q (f x) then k ∷ ats else ats) (places_same p q f (suc k) xs same.1)

pub all_refl : (p q : Act → Bool) (f : Act → Act) → ((x : Act) → p x ≡ q (f x)) → (xs : List Act) → AllByRecursion (λ (x : Act). p x ≡ q (f x)) xs
all_refl p q f same [] = tt
all_refl p q f same (x ∷ xs) = (same x, all_refl p q f same xs)

pub places_raised : (pairs ps : List Pair) (k : ℕ) (xs : List Act) → places_of (is_walked pairs) k xs ≡ places_of (is_walked pairs) k (raised ps xs)
places_raised pairs ps k [] = refl
places_raised pairs ps k (x ∷ xs) = ap (λ (ats : List ℕ). if is_walked pairs x then k ∷ ats else ats) (places_raised pairs ps (suc k) xs)

if_append : (b : Bool) (k : ℕ) (ats more : List ℕ) → (if b then k ∷ (ats ++ more) else (ats ++ more)) ≡ (if b then k ∷ ats else ats) ++ more
if_append true k ats more = refl
if_append false k ats more = refl

if_map : (b : Bool) (k : ℕ) (ats : List ℕ) → (if b then suc k ∷ map (λ (n : ℕ). suc n) ats else map (λ (n : ℕ). suc n) ats) ≡ map (λ (n : ℕ). suc n) (if b then k ∷ ats else ats)
if_map true k ats = refl
if_map false k ats = refl

places_next : (p : Act → Bool) (k : ℕ) (xs : List Act) → places_of p (suc k) xs ≡ map (λ (n : ℕ). suc n) (places_of p k xs)
places_next p k [] = refl
places_next p k (x ∷ xs) = ap (λ (ats : List ℕ). if p x then suc k ∷ ats else ats) (places_next p (suc k) xs) ∙ if_map (p x) k (places_of p (suc k) xs)

abbrev pub passes_at : (Act → Bool) → List Act → ℕ → Bool
passes_at q acts at = holds q (slice_get acts at)

filter_next : (q : Act → Bool) (y : Act) (ys : List Act) (ats : List ℕ) → filter (passes_at q (y ∷ ys)) (map (λ (n : ℕ). suc n) ats) ≡ map (λ (n : ℕ). suc n) (filter (passes_at q ys) ats)
filter_next q y ys [] = refl
filter_next q y ys (at ∷ ats) =
    ap (λ (ns : List ℕ). if passes_at q ys at then suc at ∷ ns else ns) (filter_next q y ys ats) ∙ if_map (passes_at q ys at) at (filter (passes_at q ys) ats)

-- who passes afterwards has passed before
places_kept : (p q : Act → Bool) (f : Act → Act) → ((x : Act) → p x ≡ false → q (f x) ≡ false) → (xs : List Act) → filter (passes_at q (map f xs)) (places_of p 0 xs) ≡ places_of q 0 (map f xs)
places_kept p q f rests [] = refl
places_kept p q f rests (x ∷ xs) =
    let rest : filter (passes_at q (f x ∷ map f xs)) (places_of p 1 xs) ≡ places_of q 1 (map f xs) =
    ap (λ (ats : List ℕ). filter (passes_at q (f x ∷ map f xs)) ats) (places_next p 0 xs)
    ∙ (filter_next q (f x) (map f xs) (places_of p 0 xs)
    ∙ (ap (λ (ats : List ℕ). map (λ (n : ℕ). suc n) ats) (places_kept p q f rests xs) ∙ sym (places_next q 0 (map f xs)))) in
    cond_both (p x) (0 ∷ places_of p 1 xs) (places_of p 1 xs) (λ ats. filter (passes_at q (f x ∷ map f xs)) ats ≡ places_of q 0 (f x ∷ map f xs))
    (λ e. ap (λ (ats : List ℕ). if q (f x) then 0 ∷ ats else ats) rest)
    (λ e. rest ∙ sym (cond-false (q (f x)) (0 ∷ places_of q 1 (map f xs)) (places_of q 1 (map f xs)) (rests x e)))

-- the walked ones are told again after a change of all
pub kept : (pairs later : List Pair) (f : Act → Act) (acts new : List Act) (walked left : List ℕ) → ((x : Act) → is_walked pairs x ≡ false → is_walked later (f x) ≡ false)
    → walked ≡ places_of (is_walked pairs) 0 acts → new ≡ map f acts → left ≡ filter (is_walked_at later new) walked → left ≡ places_of (is_walked later) 0 new
kept pairs later f acts new walked left rests was e told =
    told
    ∙ (ap (λ (zs : List Act). filter (is_walked_at later zs) walked) e
    ∙ (ap (λ (ats : List ℕ). filter (is_walked_at later (map f acts)) ats) was
    ∙ (places_kept (is_walked pairs) (is_walked later) f rests acts
    ∙ ap (λ (zs : List Act). places_of (is_walked later) 0 zs) (sym e))))

pub places_push : (p : Act → Bool) (k : ℕ) (xs : List Act) (x : Act) → p x ≡ true → places_of p k (xs ++ x ∷ []) ≡ places_of p k xs ++ (length xs + k) ∷ []
places_push p k [] x e = let here : k ≡ 0 + k = omega arith in cond-true (p x) (k ∷ []) [] e ∙ ap (λ (n : ℕ). n ∷ []) here
places_push p k (y ∷ ys) x e =
    let there : length ys + suc k ≡ suc (length ys) + k = omega arith in
    let rest : places_of p (suc k) (ys ++ x ∷ []) ≡ places_of p (suc k) ys ++ (suc (length ys) + k) ∷ [] = places_push p (suc k) ys x e ∙ ap (λ (n : ℕ). places_of p (suc k) ys ++ n ∷ []) there in
    ap (λ (ats : List ℕ). if p y then k ∷ ats else ats) rest ∙ if_append (p y) k (places_of p (suc k) ys) ((suc (length ys) + k) ∷ [])

-- ---- who is not walked is not walked afterwards

pub gives_up_rests : (pairs : List Pair) (t : ℕ) (st : Status) (r : Bool) (why : Verdict) → walked_as pairs t st ≡ false → walked_as pairs t (if is_live_status st && r then Doomed why else st) ≡ false
gives_up_rests pairs t Live r why e = absurd (true≢false e)
gives_up_rests pairs t (Doomed v) r why e = e
gives_up_rests pairs t (Decided c) r why e = e
gives_up_rests pairs t (Sealed c) r why e = e

pub dooms_rests : (pairs : List Pair) (t : ℕ) (st : Status) (why : Verdict) → walked_as pairs t st ≡ false → walked_as pairs t (if is_live_status st then Doomed why else st) ≡ false
dooms_rests pairs t Live why e = absurd (true≢false e)
dooms_rests pairs t (Doomed v) why e = e
dooms_rests pairs t (Decided c) why e = e
dooms_rests pairs t (Sealed c) why e = e

pub places_rests : (pairs : List Pair) (t : ℕ) (st : Status) (v : Bool) → walked_as pairs t st ≡ false → walked_as pairs t (decided_status 0 v st) ≡ false
places_rests pairs t Live v e = absurd (true≢false e)
places_rests pairs t (Doomed w) v e = e
places_rests pairs t (Decided c) v e = e
places_rests pairs t (Sealed c) v e = e

pub one_rests : (pairs : List Pair) (f : Act → Act) (b : Bool) (x : Act) → (is_walked pairs x ≡ false → is_walked pairs (f x) ≡ false) → is_walked pairs x ≡ false → is_walked pairs (change_if b f x) ≡ false
one_rests pairs f true x rests e = rests e
one_rests pairs f false x rests e = e

fewer_behind : (q : Pair → Bool) (pairs : List Pair) (t : ℕ) → is_behind pairs t ≡ false → is_behind (filter q pairs) t ≡ false
fewer_behind q [] t e = refl
fewer_behind q (p ∷ ps) t e =
    let parts : ((p.behind == t) ≡ false) × (is_behind ps t ≡ false) = or_parts (p.behind == t) (is_behind ps t) e in
    cond_both (q p) (p ∷ filter q ps) (filter q ps) (λ qs. is_behind qs t ≡ false)
    (λ there. or_from (p.behind == t) (is_behind (filter q ps) t) parts.0 (fewer_behind q ps t parts.1))
    (λ gone. fewer_behind q ps t parts.1)

pub fewer_rests : (q : Pair → Bool) (pairs : List Pair) (t : ℕ) (st : Status) → walked_as pairs t st ≡ false → walked_as (filter q pairs) t st ≡ false
fewer_rests q pairs t Live e = absurd (true≢false e)
fewer_rests q pairs t (Doomed w) e = fewer_behind q pairs t e
fewer_rests q pairs t (Decided c) e = refl
fewer_rests q pairs t (Sealed c) e = refl

-- one that leaves an actor, whichever pairs end
pub leaving_rests : (q : Pair → Bool) (pairs : List Pair) (a : ℕ) (b : Bool) (x : Act) → is_walked pairs x ≡ false → is_walked (filter q pairs) (change_if b (marked a has_left) x) ≡ false
leaving_rests q pairs a true x e = fewer_rests q pairs x.tid x.status e
leaving_rests q pairs a false x e = fewer_rests q pairs x.tid x.status e
