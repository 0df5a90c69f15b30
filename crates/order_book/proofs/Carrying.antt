-- What the others carry to an ACT is what its pairs bring: each pair names one of them, and each of them one pair or none.
use Rattle.std.proofs.Common.{◌≡◌, ℕ, zero, suc, ◌+◌, ◌<◌, ◌≤◌, refl, ap, sym, ◌∙◌, arith, length, get_or, drop, map, List, [], ◌∷◌}
use Rattle.std.specs.Prelude.{◌==◌, not, max, ◌&&◌, ◌||◌, Bool, true, false, if◌then◌else◌, Option, Some, None, slice_get, filter}
use Rattle.std.specs.List.{AllByRecursion, position_or_len}
use Rattle.std.proofs.lemmas.List.{drop-map}
use Rattle.std.proofs.lemmas.Option.{slice_get_past}
use Rattle.std.proofs.lemmas.Bool.{cond-true, cond-false, ne_eqb, eqb-true}
use Rattle.protocol.specs.Cutting.{Ascends}
use Rattle.protocol.specs.Parts.{Act, Pair}
use Rattle.protocol.specs.Words.{greatest, is_doomed, is_ordered, act_of, holds}
use Rattle.protocol.specs.Spread.{stands_behind, carried}
use Rattle.order_book.specs.Asked.{before_of}
use Rattle.order_book.proofs.Finding.{eqb_turned, found_at}
use Rattle.order_book.specs.Changes.{carried_to, carried_at}
use Rattle.order_book.specs.Registered.{tids_of_acts, before_undoomed, brought_by}

-- what the ACTs that pass bring
abbrev pub greatest_of : (Act → Bool) → List Act → ℕ
greatest_of test others = greatest (map (λ u. u.m) (filter test others))

by_pass : (b : Bool) (u : Act) (us : List Act) → greatest (map (λ u. u.m) (if b then u ∷ us else us)) ≡ max (if b then u.m else 0) (greatest (map (λ u. u.m) us))
by_pass true u us = refl
by_pass false u us = omega arith

greatest_cons : (test : Act → Bool) (u : Act) (us : List Act) → greatest_of test (u ∷ us) ≡ max (if test u then u.m else 0) (greatest_of test us)
greatest_cons test u us = by_pass (test u) u (filter test us)

-- who passes the one or the other
max_either : (a b : Bool) (n : ℕ) → (if a || b then n else 0) ≡ max (if a then n else 0) (if b then n else 0)
max_either true true n = omega arith
max_either true false n = omega arith
max_either false true n = omega arith
max_either false false n = omega arith

greatest_either : (p q : Act → Bool) (us : List Act) → greatest_of (λ u. p u || q u) us ≡ max (greatest_of p us) (greatest_of q us)
greatest_either p q [] = omega arith
greatest_either p q (u ∷ us) =
    omega (arith, greatest_cons (λ u. p u || q u) u us, greatest_cons p u us, greatest_cons q u us, max_either (p u) (q u) u.m, greatest_either p q us)

greatest_same : (p q : Act → Bool) → ((u : Act) → p u ≡ q u) → (us : List Act) → greatest_of p us ≡ greatest_of q us
greatest_same p q same [] = refl
greatest_same p q same (u ∷ us) =
    greatest_cons p u us ∙ (ap (λ (b : Bool). max (if b then u.m else 0) (greatest_of p us)) (same u)
    ∙ (ap (λ (n : ℕ). max (if q u then u.m else 0) n) (greatest_same p q same us) ∙ sym (greatest_cons q u us)))

pub greatest_none : (p : Act → Bool) → ((u : Act) → p u ≡ false) → (us : List Act) → greatest_of p us ≡ 0
greatest_none p none [] = refl
greatest_none p none (u ∷ us) = greatest_cons p u us ∙ (ap (λ (b : Bool). max (if b then u.m else 0) (greatest_of p us)) (none u) ∙ omega (arith, greatest_none p none us))

-- ---- of one tid

-- the one with this tid, where it is not doomed
abbrev pub is_bringer : ℕ → Act → Bool
is_bringer t u = not (is_doomed u.status) && (t == u.tid)

number_if : (b : Bool) (m : ℕ) → (if not b && true then m else 0) ≡ (if b then 0 else m)
number_if true m = refl
number_if false m = refl

never : (b : Bool) (m : ℕ) → (if not b && false then m else 0) ≡ 0
never true m = refl
never false m = refl

none_above : (t n : ℕ) (us : List Act) → t ≤ n → AllByRecursion (λ k. n < k) (tids_of_acts us) → greatest_of (is_bringer t) us ≡ 0
none_above t n [] le above = refl
none_above t n (u ∷ us) le above =
    greatest_cons (is_bringer t) u us
    ∙ (ap (λ (b : Bool). max (if not (is_doomed u.status) && b then u.m else 0) (greatest_of (is_bringer t) us)) (ne_eqb t u.tid (λ (same : t ≡ u.tid). omega (arith, le, above.0, same)))
    ∙ (ap (λ (k : ℕ). max k (greatest_of (is_bringer t) us)) (never (is_doomed u.status) u.m) ∙ omega (arith, none_above t n us le above.1)))

bringer_here : (t : ℕ) (u : Act) (us : List Act) → Ascends (tids_of_acts (u ∷ us)) → greatest_of (is_bringer t) us ≡ before_undoomed (act_of t us) → (b : Bool) → (u.tid == t) ≡ b → greatest_of (is_bringer t) (u ∷ us) ≡ before_undoomed (act_of t (u ∷ us))
bringer_here t u us up rest true e =
    greatest_cons (is_bringer t) u us
    ∙ (ap (λ (b : Bool). max (if not (is_doomed u.status) && b then u.m else 0) (greatest_of (is_bringer t) us)) (eqb_turned u.tid t true e)
    ∙ (ap (λ (k : ℕ). max k (greatest_of (is_bringer t) us)) (number_if (is_doomed u.status) u.m)
    ∙ (omega (arith, none_above t u.tid us (omega (arith, eqb-true u.tid t e)) up.0)
    ∙ ap before_undoomed (sym (cond-true (u.tid == t) (Some u) (act_of t us) e)))))
bringer_here t u us up rest false e =
    greatest_cons (is_bringer t) u us
    ∙ (ap (λ (b : Bool). max (if not (is_doomed u.status) && b then u.m else 0) (greatest_of (is_bringer t) us)) (eqb_turned u.tid t false e)
    ∙ (ap (λ (k : ℕ). max k (greatest_of (is_bringer t) us)) (never (is_doomed u.status) u.m)
    ∙ (omega arith
    ∙ (rest ∙ ap before_undoomed (sym (cond-false (u.tid == t) (Some u) (act_of t us) e))))))

bringer : (t : ℕ) (us : List Act) → Ascends (tids_of_acts us) → greatest_of (is_bringer t) us ≡ before_undoomed (act_of t us)
bringer t [] up = refl
bringer t (u ∷ us) up = bringer_here t u us up (bringer t us up.1) (u.tid == t) refl

-- ---- of all pairs

-- the ACTs that pairs of ACT t name and that are not doomed
abbrev pub is_named : List Pair → ℕ → Act → Bool
is_named pairs t u = not (is_doomed u.status) && stands_behind pairs t u.tid

is_named_first : (d b a s : Bool) → (d && ((b && a) || s)) ≡ ((b && (d && a)) || (d && s))
is_named_first true true true s = refl
is_named_first true true false s = refl
is_named_first true false a s = refl
is_named_first false true a s = refl
is_named_first false false a s = refl

if_and : (p : Act → Bool) (us : List Act) (b : Bool) → greatest_of (λ u. b && p u) us ≡ (if b then greatest_of p us else 0)
if_and p us true = refl
if_and p us false = greatest_none (λ u. false) (λ u. refl) us

unnamed : (b : Bool) → (not b && false) ≡ false
unnamed true = refl
unnamed false = refl

pub brought : (pairs : List Pair) (t : ℕ) (us : List Act) → Ascends (tids_of_acts us) → greatest_of (is_named pairs t) us ≡ brought_by pairs t us
brought [] t us up = greatest_none (is_named [] t) (λ u. unnamed (is_doomed u.status)) us
brought (p ∷ ps) t us up =
    greatest_same (is_named (p ∷ ps) t) (λ u. ((p.behind == t) && is_bringer p.ahead u) || is_named ps t u)
    (λ u. is_named_first (not (is_doomed u.status)) (p.behind == t) (p.ahead == u.tid) (stands_behind ps t u.tid)) us
    ∙ (greatest_either (λ u. (p.behind == t) && is_bringer p.ahead u) (is_named ps t) us
    ∙ (ap (λ (n : ℕ). max n (greatest_of (is_named ps t) us)) (if_and (is_bringer p.ahead) us (p.behind == t))
    ∙ (ap (λ (n : ℕ). max (if p.behind == t then n else 0) (greatest_of (is_named ps t) us)) (bringer p.ahead us up)
    ∙ ap (λ (n : ℕ). max (if p.behind == t then before_undoomed (act_of p.ahead us) else 0) n) (brought ps t us up))))

-- ---- to an ACT

by_order : (b : Bool) (pairs : List Pair) (t : ℕ) (us : List Act) → Ascends (tids_of_acts us) → greatest_of (λ u. not b && is_named pairs t u) us ≡ (if b then 0 else brought_by pairs t us)
by_order true pairs t us up = greatest_none (λ u. false) (λ u. refl) us
by_order false pairs t us up = brought pairs t us up

-- one that has its place is carried nothing; any other one what its pairs bring
pub carried_is : (pairs : List Pair) (x : Act) (us : List Act) → Ascends (tids_of_acts us) → carried pairs x us ≡ (if is_ordered x.status then 0 else brought_by pairs x.tid us)
carried_is pairs x us up = by_order (is_ordered x.status) pairs x.tid us up

carried_if : (b : Bool) (pairs : List Pair) (x : Act) (us : List Act) → b ≡ is_ordered x.status → Ascends (tids_of_acts us) → carried pairs x us ≡ (if b then 0 else brought_by pairs x.tid us)
carried_if b pairs x us e up = carried_is pairs x us up ∙ ap (λ (c : Bool). if c then 0 else brought_by pairs x.tid us) (sym e)

-- what is carried to the ACT at a place: nothing if it has its place in the order, else what its pairs bring
pub carried_there : (pairs : List Pair) (at : ℕ) (acts : List Act) (b : Bool) → Ascends (tids_of_acts acts) → at < length acts → b ≡ holds (λ (x : Act). is_ordered x.status) (slice_get acts at)
    → carried_at pairs at acts ≡ (if b then 0 else brought_by pairs (get_or (tids_of_acts acts) at 0) (drop (suc at) acts))
carried_there pairs at [] b up lt e = absurd (omega arith)
carried_there pairs zero (x ∷ xs) b up lt e = carried_if b pairs x xs e up.1
carried_there pairs (suc at) (x ∷ xs) b up lt e = carried_there pairs at xs b up.1 (omega arith) e

pub carried_past : (pairs : List Pair) (at : ℕ) (acts : List Act) → length acts ≤ at → carried_at pairs at acts ≡ 0
carried_past pairs at acts le = ap (λ (o : Option Act). carried_to pairs o (drop (suc at) acts)) (slice_get_past acts at le)

-- ---- the number of an ACT that stands behind a place

number_from : (o : Option Act) → (if holds (λ (x : Act). is_doomed x.status) o then 0 else before_of o) ≡ before_undoomed o
number_from None = refl
number_from (Some x) = refl

slice_get_drop : (n j : ℕ) (acts : List Act) → slice_get (drop n acts) j ≡ slice_get acts (n + j)
slice_get_drop zero j acts = let e : j ≡ 0 + j = omega arith in ap (λ (k : ℕ). slice_get acts k) e
slice_get_drop (suc n) j [] = refl
slice_get_drop (suc n) j (x ∷ xs) = let e : suc (n + j) ≡ suc n + j = omega arith in slice_get_drop n j xs ∙ ap (λ (k : ℕ). slice_get (x ∷ xs) k) e

behind_place : (t n : ℕ) (acts : List Act) → act_of t (drop n acts) ≡ slice_get acts (n + position_or_len (λ k. k == t) (drop n (tids_of_acts acts)))
behind_place t n acts =
    found_at t (drop n acts)
    ∙ (ap (λ (ns : List ℕ). slice_get (drop n acts) (position_or_len (λ k. k == t) ns)) (sym (drop-map (λ (x : Act). x.tid) n acts))
    ∙ slice_get_drop n (position_or_len (λ k. k == t) (drop n (tids_of_acts acts))) acts)

pub number_behind : (t n place : ℕ) (acts : List Act) (tids : List ℕ) (b : Bool) → tids ≡ tids_of_acts acts → place ≡ n + position_or_len (λ k. k == t) (drop n tids) → b ≡ holds (λ (x : Act). is_doomed x.status) (slice_get acts place)
    → (if b then 0 else before_of (slice_get acts place)) ≡ before_undoomed (act_of t (drop n acts))
number_behind t n place acts tids b listed p e =
    ap (λ (c : Bool). if c then 0 else before_of (slice_get acts place)) e
    ∙ (number_from (slice_get acts place)
    ∙ ap before_undoomed (ap (λ (k : ℕ). slice_get acts k) (p ∙ ap (λ (ns : List ℕ). n + position_or_len (λ k. k == t) (drop n ns)) listed) ∙ sym (behind_place t n acts)))
