-- An ACT of the orders with its votes, and lists of such ACTs.
use Rattle.std.specs.Prelude.{◌≡◌, refl, ℕ, ◌==◌, max, Bool, true, false, not, ◌&&◌, if◌then◌else◌, Option, Some, None, option_map, List, [], ◌∷◌, map, filter}
use Rattle.std.specs.List.{AllByRecursion}
use Rattle.std.proofs.Common.{sym, ap, subst, ◌∙◌}
use Rattle.std.proofs.lemmas.Bool.{eqb-true}
use Rattle.snap_base.specs.declared.verdicts.Verdict.{Verdict}
use Rattle.protocol.specs.Rivals.{Lock}
use Rattle.protocol.specs.Parts.{Joined, Status, Live, Doomed, Decided, Sealed, Act, Pair}
use Rattle.protocol.specs.Words.{holds, greatest, act_of, joined_of, is_live_status, is_doomed, is_ordered}
use Rattle.protocol.specs.Spread.{carries_to, carried, raised, raised_over, stands_behind}
use Rattle.protocol.specs.OnBook as book
use Rattle.protocol.specs.BookParts.{act_by, place_by, joined_by, status_by, ordered_by, with_votes}
use Rattle.protocol_laws.proofs.first.Lists.{all_of}
use Rattle.protocol_laws.proofs.machine.TracksKept.{filter_same}

pub cons_eq : {X : Type 0} (x y : X) (xs ys : List X) → x ≡ y → xs ≡ ys → (x ∷ xs) ≡ (y ∷ ys)
cons_eq x y xs ys h k = ap (λ z. z ∷ xs) h ∙ ap (λ zs. y ∷ zs) k

-- ---- statuses

test_if : (p : Status → Bool) (b : Bool) → ((c : ℕ) → p (Decided c) ≡ b) → ((c : ℕ) → p (Sealed c) ≡ b) → (u st : Status) → p st ≡ b → p (if is_ordered u then u else st) ≡ b
test_if p b d s Live st h = h
test_if p b d s (Doomed v) st h = h
test_if p b d s (Decided c) st h = d c
test_if p b d s (Sealed c) st h = s c

test_ordered : (p : Status → Bool) (b : Bool) → ((c : ℕ) → p (Decided c) ≡ b) → ((c : ℕ) → p (Sealed c) ≡ b) → (v : Option Act) (st : Status) → p st ≡ b → p (ordered_by v st) ≡ b
test_ordered p b d s None st h = h
test_ordered p b d s (Some v) st h = test_if p b d s v.status st h

-- a test that does not tell decided from sealed
pub test_by : (p : Status → Bool) (b : Bool) → ((c : ℕ) → p (Decided c) ≡ b) → ((c : ℕ) → p (Sealed c) ≡ b) → (v : Option Act) (st : Status) → p (status_by v st) ≡ p st
test_by p b d s v Live = refl
test_by p b d s v (Doomed why) = refl
test_by p b d s v (Decided c) = test_ordered p b d s v (Decided c) (d c) ∙ sym (d c)
test_by p b d s v (Sealed c) = test_ordered p b d s v (Sealed c) (s c) ∙ sym (s c)

pub live_by : (v : Option Act) (st : Status) → is_live_status (status_by v st) ≡ is_live_status st
live_by v st = test_by is_live_status false (λ c. refl) (λ c. refl) v st

pub doomed_by : (v : Option Act) (st : Status) → is_doomed (status_by v st) ≡ is_doomed st
doomed_by v st = test_by is_doomed false (λ c. refl) (λ c. refl) v st

pub ordered_kept : (v : Option Act) (st : Status) → is_ordered (status_by v st) ≡ is_ordered st
ordered_kept v st = test_by is_ordered true (λ c. refl) (λ c. refl) v st

-- a doom on one test
pub doom_if : (v : Option Act) (st : Status) (why : Verdict) (b c : Bool) → b ≡ c → (if b then Doomed why else status_by v st) ≡ status_by v (if c then Doomed why else st)
doom_if v st why b c e = subst (λ z. (if b then Doomed why else status_by v st) ≡ status_by v (if z then Doomed why else st)) e (by b)
  where
    by : (b : Bool) → (if b then Doomed why else status_by v st) ≡ status_by v (if b then Doomed why else st)
    by true = refl
    by false = refl

-- ---- places

pub joined_actor : (o : Option Joined) (p : Joined) → (joined_by o p).actor ≡ p.actor
joined_actor None p = refl
joined_actor (Some q) p = refl

pub place_actor : (v : Option Act) (p : Joined) → (place_by v p).actor ≡ p.actor
place_actor None p = refl
place_actor (Some v) p = joined_actor (joined_of p.actor v) p

pub joined_finished : (o : Option Joined) (p : Joined) → (joined_by o p).finished ≡ p.finished
joined_finished None p = refl
joined_finished (Some q) p = refl

pub place_finished : (v : Option Act) (p : Joined) → (place_by v p).finished ≡ p.finished
place_finished None p = refl
place_finished (Some v) p = joined_finished (joined_of p.actor v) p

pub places_none : (ps : List Joined) → map (place_by None) ps ≡ ps
places_none [] = refl
places_none (p ∷ ps) = ap (λ z. p ∷ z) (places_none ps)

pub map_twice : {X : Type 0} (f g k l : X → X) (xs : List X) → ((x : X) → f (g x) ≡ k (l x)) → map f (map g xs) ≡ map k (map l xs)
map_twice f g k l [] h = refl
map_twice f g k l (x ∷ xs) h = cons_eq (f (g x)) (k (l x)) (map f (map g xs)) (map k (map l xs)) (h x) (map_twice f g k l xs h)

-- ---- a change of each ACT

pub map_both : (vs us : List Act) (f g : Act → Act) (xs : List Act) → AllByRecursion (λ x. f (act_by (act_of x.tid vs) x) ≡ act_by (act_of (g x).tid us) (g x)) xs → map f (with_votes vs xs) ≡ with_votes us (map g xs)
map_both vs us f g [] h = refl
map_both vs us f g (x ∷ xs) h = cons_eq (f (act_by (act_of x.tid vs) x)) (act_by (act_of (g x).tid us) (g x)) (map f (with_votes vs xs)) (with_votes us (map g xs)) h.0 (map_both vs us f g xs h.1)

-- the votes alone
pub map_votes : (vs us : List Act) (f : Act → Act) (xs : List Act) → AllByRecursion (λ x. f (act_by (act_of x.tid vs) x) ≡ act_by (act_of x.tid us) x) xs → map f (with_votes vs xs) ≡ with_votes us xs
map_votes vs us f [] h = refl
map_votes vs us f (x ∷ xs) h = cons_eq (f (act_by (act_of x.tid vs) x)) (act_by (act_of x.tid us) x) (map f (with_votes vs xs)) (with_votes us xs) h.0 (map_votes vs us f xs h.1)

-- the orders alone
pub map_orders : (vs : List Act) (f : Act → Act) (xs : List Act) → ((x : Act) → f (act_by (act_of x.tid vs) x) ≡ act_by (act_of (f x).tid vs) (f x)) → map f (with_votes vs xs) ≡ with_votes vs (map f xs)
map_orders vs f xs h = map_both vs vs f f xs (all_of _ xs h)

-- one ACT of the orders alone
pub change_orders : (vs : List Act) (t : ℕ) (f : Act → Act) (xs : List Act) → ((x : Act) → (x.tid == t) ≡ true → f (act_by (act_of x.tid vs) x) ≡ act_by (act_of (f x).tid vs) (f x)) → book.changed_act t f (with_votes vs xs) ≡ with_votes vs (book.changed_act t f xs)
change_orders vs t f xs h = map_orders vs (λ x. book.change_if (x.tid == t) f x) xs (λ x. by x (x.tid == t) refl)
  where
    by : (x : Act) (b : Bool) → (x.tid == t) ≡ b → book.change_if b f (act_by (act_of x.tid vs) x) ≡ act_by (act_of (book.change_if b f x).tid vs) (book.change_if b f x)
    by x true e = h x e
    by x false e = refl

-- ---- who is found

pub found_by : (vs : List Act) (n : ℕ) (xs : List Act) → act_of n (with_votes vs xs) ≡ option_map (act_by (act_of n vs)) (act_of n xs)
found_by vs n [] = refl
found_by vs n (x ∷ xs) = by (x.tid == n) refl (found_by vs n xs)
  where
    by : (b : Bool) → (x.tid == n) ≡ b → act_of n (with_votes vs xs) ≡ option_map (act_by (act_of n vs)) (act_of n xs) → (if b then Some (act_by (act_of x.tid vs) x) else act_of n (with_votes vs xs)) ≡ option_map (act_by (act_of n vs)) (if b then Some x else act_of n xs)
    by true e k = ap (λ z. Some (act_by (act_of z vs) x)) (eqb-true x.tid n e)
    by false e k = k

pub holds_map : {X : Type 0} (p : X → Bool) (f : X → X) (o : Option X) → ((x : X) → p (f x) ≡ p x) → holds p (option_map f o) ≡ holds p o
holds_map p f None h = refl
holds_map p f (Some x) h = h x

pub holds_by : (p : Act → Bool) → ((v : Option Act) (x : Act) → p (act_by v x) ≡ p x) → (vs : List Act) (n : ℕ) (xs : List Act) → holds p (act_of n (with_votes vs xs)) ≡ holds p (act_of n xs)
holds_by p h vs n xs = ap (holds p) (found_by vs n xs) ∙ holds_map p (act_by (act_of n vs)) (act_of n xs) (h (act_of n vs))

-- ---- pairs, and before numbers along them

pub new_pairs_by : (vs : List Act) (t a : ℕ) (group : List Lock) (xs : List Act) → book.new_pairs t a group (with_votes vs xs) ≡ book.new_pairs t a group xs
new_pairs_by vs t a group xs = ap (map (λ x. record { behind = t; ahead = x.tid; actor = a })) (filter_same (λ x. not (book.is_doomed_act (with_votes vs xs) x)) (λ x. not (book.is_doomed_act xs x)) group (λ x. ap not (holds_by (λ y. is_doomed y.status) (λ v y. doomed_by v y.status) vs x.tid xs)))

carries_by : (ps : List Pair) (v w : Option Act) (x u : Act) → carries_to ps (act_by v x) (act_by w u) ≡ carries_to ps x u
carries_by ps v w x u = ap (λ z. not z && (not (is_doomed (act_by w u).status) && stands_behind ps x.tid u.tid)) (ordered_kept v x.status) ∙ ap (λ z. not (is_ordered x.status) && (not z && stands_behind ps x.tid u.tid)) (doomed_by w u.status)

carried_by : (ps : List Pair) (vs : List Act) (v : Option Act) (x : Act) (us : List Act) → carried ps (act_by v x) (with_votes vs us) ≡ carried ps x us
carried_by ps vs v x [] = refl
carried_by ps vs v x (u ∷ us) =
    ap (λ b. greatest (map (λ y. y.m) (if b then act_by (act_of u.tid vs) u ∷ filter (carries_to ps (act_by v x)) (with_votes vs us) else filter (carries_to ps (act_by v x)) (with_votes vs us)))) (carries_by ps v (act_of u.tid vs) x u)
    ∙ by (carries_to ps x u) (carried_by ps vs v x us)
  where
    by : (b : Bool) → carried ps (act_by v x) (with_votes vs us) ≡ carried ps x us → greatest (map (λ y. y.m) (if b then act_by (act_of u.tid vs) u ∷ filter (carries_to ps (act_by v x)) (with_votes vs us) else filter (carries_to ps (act_by v x)) (with_votes vs us))) ≡ greatest (map (λ y. y.m) (if b then u ∷ filter (carries_to ps x) us else filter (carries_to ps x) us))
    by true k = ap (λ z. max u.m z) k
    by false k = k

pub raised_by : (ps : List Pair) (vs xs : List Act) → raised ps (with_votes vs xs) ≡ with_votes vs (raised ps xs)
raised_by ps vs [] = refl
raised_by ps vs (x ∷ xs) =
    ap (λ zs. raised_over ps (act_by (act_of x.tid vs) x) zs) (raised_by ps vs xs)
    ∙ ap (λ k. let y : Act = record (act_by (act_of x.tid vs) x) { m = max x.m k } in y ∷ with_votes vs (raised ps xs)) (carried_by ps vs (act_of x.tid vs) x (raised ps xs))
