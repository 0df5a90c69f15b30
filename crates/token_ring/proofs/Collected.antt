-- Sub-batches that were collected PACT by PACT are those that the machine's batch has.
use Rattle.std.proofs.Common.{◌≡◌, ℕ, suc, zero, ◌+◌, ◌<◌, ◌≤◌, Bool, true, false, not, ◌||◌, cond, eqb, ltb, List, [], ◌∷◌, ◌++◌, length, map, get_or, refl, ap, sym, ◌∙◌, arith, append_assoc, None, ⊎_elim}
use Rattle.std.specs.List.{filter, list_any}
use Rattle.std.proofs.lemmas.Bool.{cond-true, cond-false, cond_both, lt-ltb, le-ltb, ltb-true, ltb-false, eq-eqb, ne_eqb, cases_lt}
use Rattle.std.proofs.lemmas.List.{append-nil, map-append}
use Rattle.snap_base.specs.declared.transactions.Tx.{Tx}
use Rattle.protocol.specs.Fixed.{no_tx, declared}
use Rattle.protocol.specs.Parts.{Pact, SubBatch}
use Rattle.protocol.specs.Words.{is_empty, is_among, below}
use Rattle.protocol.specs.OnRing.{numbered}
use Rattle.token_ring.specs.Told.{ends_with, sub_of_first_pact, with_tid, told_among, told_to, told_all}

-- ---- the sub-batches of actors that are told of some tids

-- of one actor
abbrev pub sub_on : ℕ → ℕ → List ℕ → ℕ → List ℕ → SubBatch
sub_on k e lasts a tids = record { bid = k; actor = a; epoch = e; prev = get_or lasts a 0; tids = tids }

abbrev pub one : ℕ → ℕ → List ℕ → ℕ → List ℕ → List SubBatch
one k e lasts a [] = []
one k e lasts a (t ∷ ts) = sub_on k e lasts a (t ∷ ts) ∷ []

-- of the actors below n
abbrev pub subs_by : ℕ → ℕ → List ℕ → (ℕ → List ℕ) → ℕ → List SubBatch
subs_by k e lasts tids zero = []
subs_by k e lasts tids (suc n) = subs_by k e lasts tids n ++ one k e lasts n (tids n)

subs_same : (k e : ℕ) (lasts : List ℕ) (f g : ℕ → List ℕ) (n : ℕ) → ((a : ℕ) → a < n → f a ≡ g a) → subs_by k e lasts f n ≡ subs_by k e lasts g n
subs_same k e lasts f g zero h = refl
subs_same k e lasts f g (suc n) h =
    ap (λ front. front ++ one k e lasts n (f n)) (subs_same k e lasts f g n (λ a l. h a (omega arith)))
    ∙ ap (λ ts. subs_by k e lasts g n ++ one k e lasts n ts) (h n (omega arith))

subs_none : (k e : ℕ) (lasts : List ℕ) (n : ℕ) → subs_by k e lasts (λ _. []) n ≡ []
subs_none k e lasts zero = refl
subs_none k e lasts (suc n) = append-nil (subs_by k e lasts (λ _. []) n) ∙ subs_none k e lasts n

-- ---- telling one actor

abbrev UpTo : ℕ → List SubBatch → Type 0
UpTo n [] = Unit {0}
UpTo n (s ∷ ss) = (s.actor < n) × UpTo n ss

up_to_more : (n : ℕ) (ss : List SubBatch) → UpTo n ss → UpTo (suc n) ss
up_to_more n [] h = tt
up_to_more n (s ∷ ss) h = (omega (arith, h.0), up_to_more n ss h.1)

up_to_one : (k e : ℕ) (lasts : List ℕ) (n : ℕ) (ts : List ℕ) (ss : List SubBatch) → UpTo (suc n) ss → UpTo (suc n) (ss ++ one k e lasts n ts)
up_to_one k e lasts n [] [] h = tt
up_to_one k e lasts n (t ∷ ts) [] h = (omega arith, tt)
up_to_one k e lasts n ts (s ∷ ss) h = (h.0, up_to_one k e lasts n ts ss h.1)

up_to : (k e : ℕ) (lasts : List ℕ) (f : ℕ → List ℕ) (n : ℕ) → UpTo n (subs_by k e lasts f n)
up_to k e lasts f zero = tt
up_to k e lasts f (suc n) = up_to_one k e lasts n (f n) (subs_by k e lasts f n) (up_to_more n (subs_by k e lasts f n) (up_to k e lasts f n))

told_behind : (t n : ℕ) (own : SubBatch) (xs ys : List SubBatch) → UpTo n xs → n ≤ own.actor → told_among t own (xs ++ ys) ≡ xs ++ told_among t own ys
told_behind t n own [] ys h l = refl
told_behind t n own (x ∷ xs) ys h l =
    cond-true (ltb x.actor own.actor) _ _ (lt-ltb _ _ (omega (arith, h.0))) ∙ ap (λ rest. x ∷ rest) (told_behind t n own xs ys h.1 l)

told_before_step : (b c : Bool) (t : ℕ) (own x : SubBatch) (xs ys : List SubBatch) → told_among t own (xs ++ ys) ≡ told_among t own xs ++ ys
    → cond b (x ∷ told_among t own (xs ++ ys)) (cond c (with_tid t x ∷ (xs ++ ys)) (own ∷ (x ∷ (xs ++ ys)))) ≡ cond b (x ∷ told_among t own xs) (cond c (with_tid t x ∷ xs) (own ∷ (x ∷ xs))) ++ ys
told_before_step true c t own x xs ys h = ap (λ rest. x ∷ rest) h
told_before_step false true t own x xs ys h = refl
told_before_step false false t own x xs ys h = refl

told_before : (k e : ℕ) (lasts : List ℕ) (t n : ℕ) (ts : List ℕ) (own : SubBatch) (xs : List SubBatch) → own.actor < n → told_among t own (xs ++ one k e lasts n ts) ≡ told_among t own xs ++ one k e lasts n ts
told_before k e lasts t n [] own [] l = refl
told_before k e lasts t n (u ∷ us) own [] l =
    cond-false (ltb n own.actor) _ _ (le-ltb _ _ (omega arith)) ∙ cond-false (eqb n own.actor) _ _ (ne_eqb _ _ (λ same. omega arith))
told_before k e lasts t n ts own (x ∷ xs) l =
    told_before_step (ltb x.actor own.actor) (eqb x.actor own.actor) t own x xs (one k e lasts n ts) (told_before k e lasts t n ts own xs l)

one_cond : (b : Bool) (k e : ℕ) (lasts : List ℕ) (n u : ℕ) (us vs : List ℕ)
    → sub_on k e lasts n (cond b (u ∷ us) (u ∷ vs)) ∷ [] ≡ one k e lasts n (cond b (u ∷ us) (u ∷ vs))
one_cond true k e lasts n u us vs = refl
one_cond false k e lasts n u us vs = refl

told_one : (k e : ℕ) (lasts : List ℕ) (t n : ℕ) (ts : List ℕ) → told_among t (sub_of_first_pact k e lasts n t) (one k e lasts n ts) ≡ one k e lasts n (cond (ends_with t ts) ts (ts ++ t ∷ []))
told_one k e lasts t n [] = refl
told_one k e lasts t n (u ∷ us) =
    cond-false (ltb n n) _ _ (le-ltb _ _ (omega arith))
    ∙ cond-true (eqb n n) _ _ (eq-eqb _ _ refl)
    ∙ one_cond (ends_with t (u ∷ us)) k e lasts n u us (us ++ t ∷ [])

-- where one actor is told of t
told_by : (k e : ℕ) (lasts : List ℕ) (t b : ℕ) (f g : ℕ → List ℕ) (n : ℕ) → b < n → g b ≡ cond (ends_with t (f b)) (f b) (f b ++ t ∷ []) → ((a : ℕ) → (a ≡ b → ⊥) → f a ≡ g a)
    → told_among t (sub_of_first_pact k e lasts b t) (subs_by k e lasts f n) ≡ subs_by k e lasts g n
told_by k e lasts t b f g zero l at others = absurd (omega arith)
told_by k e lasts t b f g (suc n) l at others =
    ⊎_elim
    (λ (before : b < n).
    told_before k e lasts t n (f n) (sub_of_first_pact k e lasts b t) (subs_by k e lasts f n) before
    ∙ ap (λ front. front ++ one k e lasts n (f n)) (told_by k e lasts t b f g n before at others)
    ∙ ap (λ ts. subs_by k e lasts g n ++ one k e lasts n ts) (others n (λ same. omega arith)))
    (λ (here : n ≤ b).
    let same : n ≡ b = omega arith in
    told_behind t n (sub_of_first_pact k e lasts b t) (subs_by k e lasts f n) (one k e lasts n (f n)) (up_to k e lasts f n) here
    ∙ ap (λ front. front ++ told_among t (sub_of_first_pact k e lasts b t) (one k e lasts n (f n))) (subs_same k e lasts f g n (λ a m. others a (λ s. omega arith)))
    ∙ ap (λ back. subs_by k e lasts g n ++ back)
    (ap (λ c. told_among t (sub_of_first_pact k e lasts c t) (one k e lasts n (f n))) (sym same)
    ∙ told_one k e lasts t n (f n)
    ∙ ap (λ c. one k e lasts n (cond (ends_with t (f c)) (f c) (f c ++ t ∷ []))) same
    ∙ ap (λ ts. one k e lasts n ts) (sym at)
    ∙ ap (λ c. one k e lasts n (g c)) (sym same)))
    (cases_lt b n)

-- ---- telling all actors of a PACT

-- those that pass the test are told of t
abbrev plus : ℕ → (ℕ → List ℕ) → (ℕ → Bool) → ℕ → List ℕ
plus t f m a = cond (m a) (f a ++ t ∷ []) (f a)

ends_with_push : (t : ℕ) (xs : List ℕ) → ends_with t (xs ++ t ∷ []) ≡ true
ends_with_push t [] = eq-eqb t t refl
ends_with_push t (x ∷ []) = eq-eqb t t refl
ends_with_push t (x ∷ (y ∷ ys)) = ends_with_push t (y ∷ ys)

or_false : (b : Bool) → b || false ≡ b
or_false true = refl
or_false false = refl

or_assoc : (a b c : Bool) → (a || b) || c ≡ a || (b || c)
or_assoc true b c = refl
or_assoc false b c = refl

told_once : (b : Bool) (t : ℕ) (xs : List ℕ) → ends_with t xs ≡ false
    → cond (b || true) (xs ++ t ∷ []) xs ≡ cond (ends_with t (cond b (xs ++ t ∷ []) xs)) (cond b (xs ++ t ∷ []) xs) (cond b (xs ++ t ∷ []) xs ++ t ∷ [])
told_once true t xs h = sym (cond-true (ends_with t (xs ++ t ∷ [])) _ _ (ends_with_push t xs))
told_once false t xs h = sym (cond-false (ends_with t xs) _ _ h)

plus_same : (t : ℕ) (f : ℕ → List ℕ) (m p : ℕ → Bool) (a : ℕ) → m a ≡ p a → plus t f m a ≡ plus t f p a
plus_same t f m p a e = ap (λ b. cond b (f a ++ t ∷ []) (f a)) e

told_next : (k e : ℕ) (lasts : List ℕ) (t d : ℕ) (f : ℕ → List ℕ) (m : ℕ → Bool) → ((a : ℕ) → ends_with t (f a) ≡ false)
    → cond (ltb d (length lasts)) (told_among t (sub_of_first_pact k e lasts d t) (subs_by k e lasts (plus t f m) (length lasts))) (subs_by k e lasts (plus t f m) (length lasts))
    ≡ subs_by k e lasts (plus t f (λ a. m a || eqb d a)) (length lasts)
told_next k e lasts t d f m new =
    let P : List SubBatch → Type 0 = λ x. x ≡ subs_by k e lasts (plus t f (λ a. m a || eqb d a)) (length lasts) in
    cond_both (ltb d (length lasts)) (told_among t (sub_of_first_pact k e lasts d t) (subs_by k e lasts (plus t f m) (length lasts))) (subs_by k e lasts (plus t f m) (length lasts)) P
    (λ l. told_by k e lasts t d (plus t f m) (plus t f (λ a. m a || eqb d a)) (length lasts) (ltb-true _ _ l)
    (ap (λ b. cond (m d || b) (f d ++ t ∷ []) (f d)) (eq-eqb d d refl) ∙ told_once (m d) t (f d) (new d))
    (λ a other. plus_same t f m (λ c. m c || eqb d c) a (sym (ap (λ b. m a || b) (ne_eqb d a (λ s. other (sym s))) ∙ or_false (m a)))))
    (λ l. subs_same k e lasts (plus t f m) (plus t f (λ a. m a || eqb d a)) (length lasts)
    (λ a low. plus_same t f m (λ c. m c || eqb d c) a (sym (ap (λ b. m a || b) (ne_eqb d a (λ s. omega (arith, ltb-false d (length lasts) l))) ∙ or_false (m a)))))

told_to_by : (k e : ℕ) (lasts : List ℕ) (t : ℕ) (ds : List ℕ) (f : ℕ → List ℕ) (m : ℕ → Bool) → ((a : ℕ) → ends_with t (f a) ≡ false)
    → told_to k e lasts t ds (subs_by k e lasts (plus t f m) (length lasts)) ≡ subs_by k e lasts (plus t f (λ a. m a || is_among a ds)) (length lasts)
told_to_by k e lasts t [] f m new = subs_same k e lasts (plus t f m) (plus t f (λ a. m a || false)) (length lasts) (λ a l. plus_same t f m (λ c. m c || false) a (sym (or_false (m a))))
told_to_by k e lasts t (d ∷ ds) f m new =
    ap (λ subs. told_to k e lasts t ds subs) (told_next k e lasts t d f m new)
    ∙ told_to_by k e lasts t ds f (λ a. m a || eqb d a) new
    ∙ subs_same k e lasts (plus t f (λ a. (m a || eqb d a) || is_among a ds)) (plus t f (λ a. m a || is_among a (d ∷ ds))) (length lasts)
    (λ a l. plus_same t f (λ c. (m c || eqb d c) || is_among c ds) (λ c. m c || is_among c (d ∷ ds)) a (or_assoc (m a) (eqb d a) (is_among a ds)))

-- ---- telling of all PACTs

abbrev EachBelow : ℕ → List ℕ → Type 0
EachBelow t [] = Unit {0}
EachBelow t (x ∷ xs) = (x < t) × EachBelow t xs

ends_below : (t : ℕ) (xs : List ℕ) → EachBelow t xs → ends_with t xs ≡ false
ends_below t [] h = refl
ends_below t (x ∷ xs) h =
    cond_both (is_empty xs) (eqb x t) (ends_with t xs) (λ b. b ≡ false) (λ _. ne_eqb x t (λ s. omega (arith, h.0))) (λ _. ends_below t xs h.1)

below_more : (t : ℕ) (xs : List ℕ) → EachBelow t xs → EachBelow (t + 1) xs
below_more t [] h = tt
below_more t (x ∷ xs) h = (omega (arith, h.0), below_more t xs h.1)

below_push : (t : ℕ) (xs : List ℕ) → EachBelow t xs → EachBelow (t + 1) (xs ++ t ∷ [])
below_push t [] h = (omega arith, tt)
below_push t (x ∷ xs) h = (omega (arith, h.0), below_push t xs h.1)

-- it declares the actor
abbrev pub names : List Tx → ℕ → Pact → Bool
names txs a p = is_among a (declared (get_or txs p.tx no_tx))

abbrev pub pact_tid : Pact → ℕ
pact_tid p = p.tid

abbrev pub tids_naming : List Tx → List Pact → ℕ → List ℕ
tids_naming txs ps a = map pact_tid (filter (names txs a) ps)

step_tids : (b : Bool) (p : Pact) (xs : List ℕ) (ps : List Pact) → cond b (xs ++ p.tid ∷ []) xs ++ map pact_tid ps ≡ xs ++ map pact_tid (cond b (p ∷ ps) ps)
step_tids true p xs ps = append_assoc xs (p.tid ∷ []) (map pact_tid ps)
step_tids false p xs ps = refl

told_all_by : (k e : ℕ) (lasts : List ℕ) (txs : List Tx) (ns : List ℕ) (t : ℕ) (f : ℕ → List ℕ) → ((a : ℕ) → EachBelow t (f a))
    → told_all k e lasts txs (numbered t ns) (subs_by k e lasts f (length lasts)) ≡ subs_by k e lasts (λ a. f a ++ tids_naming txs (numbered t ns) a) (length lasts)
told_all_by k e lasts txs [] t f h = subs_same k e lasts f (λ a. f a ++ []) (length lasts) (λ a l. sym (append-nil (f a)))
told_all_by k e lasts txs (n ∷ ns) t f h =
    let own : ℕ → Bool = λ a. is_among a (declared (get_or txs n no_tx)) in
    ap (λ subs. told_all k e lasts txs (numbered (t + 1) ns) subs) (told_to_by k e lasts t (declared (get_or txs n no_tx)) f (λ _. false) (λ a. ends_below t (f a) (h a)))
    ∙ told_all_by k e lasts txs ns (t + 1) (plus t f own) (λ a. cond_both (own a) (f a ++ t ∷ []) (f a) (λ xs. EachBelow (t + 1) xs) (λ _. below_push t (f a) (h a)) (λ _. below_more t (f a) (h a)))
    ∙ subs_same k e lasts (λ a. plus t f own a ++ tids_naming txs (numbered (t + 1) ns) a) (λ a. f a ++ tids_naming txs (numbered t (n ∷ ns)) a) (length lasts)
    (λ a l. step_tids (own a) (record { tid = t; tx = n; result = None }) (f a) (filter (names txs a) (numbered (t + 1) ns)))

pub collected : (k e : ℕ) (lasts : List ℕ) (txs : List Tx) (ns : List ℕ) (t : ℕ)
    → told_all k e lasts txs (numbered t ns) [] ≡ subs_by k e lasts (tids_naming txs (numbered t ns)) (length lasts)
collected k e lasts txs ns t =
    ap (λ subs. told_all k e lasts txs (numbered t ns) subs) (sym (subs_none k e lasts (length lasts)))
    ∙ told_all_by k e lasts txs ns t (λ _. []) (λ _. tt)

-- ---- the machine's words for them

any_filter_step : (b : Bool) (p : Pact) (rest : Bool) (ps : List Pact) → rest ≡ not (is_empty (map pact_tid ps)) → b || rest ≡ not (is_empty (map pact_tid (cond b (p ∷ ps) ps)))
any_filter_step true p rest ps h = refl
any_filter_step false p rest ps h = h

any_filter : (q : Pact → Bool) (ps : List Pact) → list_any q ps ≡ not (is_empty (map pact_tid (filter q ps)))
any_filter q [] = refl
any_filter q (p ∷ ps) = any_filter_step (q p) p (list_any q ps) (filter q ps) (any_filter q ps)

one_first : (k e : ℕ) (lasts : List ℕ) (g : ℕ → SubBatch) (a : ℕ) (ts : List ℕ) (b : Bool) → b ≡ not (is_empty ts) → g a ≡ sub_on k e lasts a ts → one k e lasts a ts ≡ map g (cond b (a ∷ []) [])
one_first k e lasts g a [] b h s = ap (λ c. map g (cond c (a ∷ []) [])) (sym h)
one_first k e lasts g a (t ∷ ts) b h s = ap (λ x. x ∷ []) (sym s) ∙ ap (λ c. map g (cond c (a ∷ []) [])) (sym h)

filter-append : (q : ℕ → Bool) (xs ys : List ℕ) → filter q (xs ++ ys) ≡ filter q xs ++ filter q ys
filter-append q [] ys = refl
filter-append q (x ∷ xs) ys =
    ap (λ rest. cond (q x) (x ∷ rest) rest) (filter-append q xs ys) ∙ filter_cond (q x) x (filter q xs) (filter q ys)
  where
    filter_cond : (b : Bool) (x : ℕ) (xs ys : List ℕ) → cond b (x ∷ (xs ++ ys)) (xs ++ ys) ≡ cond b (x ∷ xs) xs ++ ys
    filter_cond true x xs ys = refl
    filter_cond false x xs ys = refl

pub subs_first : (k e : ℕ) (lasts : List ℕ) (txs : List Tx) (ps : List Pact) (g : ℕ → SubBatch) (n : ℕ) → ((a : ℕ) → g a ≡ sub_on k e lasts a (tids_naming txs ps a))
    → subs_by k e lasts (tids_naming txs ps) n ≡ map g (filter (λ a. list_any (names txs a) ps) (below n))
subs_first k e lasts txs ps g zero h = refl
subs_first k e lasts txs ps g (suc n) h =
    ap (λ front. front ++ one k e lasts n (tids_naming txs ps n)) (subs_first k e lasts txs ps g n h)
    ∙ ap (λ back. map g (filter (λ a. list_any (names txs a) ps) (below n)) ++ back)
    (one_first k e lasts g n (tids_naming txs ps n) (list_any (names txs n) ps) (any_filter (names txs n) ps) (h n))
    ∙ sym (map-append g (filter (λ a. list_any (names txs a) ps) (below n)) (filter (λ a. list_any (names txs a) ps) (n ∷ [])))
    ∙ ap (λ xs. map g xs) (sym (filter-append (λ a. list_any (names txs a) ps) (below n) (n ∷ [])))
