-- What committed along a long schedule, event by event.
use Rattle.std.specs.Prelude.{◌≡◌, refl, ℕ, ◌+◌, ◌<◌, ◌≤◌, ◌==◌, Bool, true, false, ◌||◌, if◌then◌else◌, Option, Some, None, is_some, List, [], ◌∷◌, ◌++◌, map}
use Rattle.std.specs.List.{AllByRecursion}
use Rattle.std.proofs.Common.{arith, sym, ap, subst, inl, inr, ◌∙◌}
use Rattle.std.proofs.lemmas.List.{append-nil, append_assoc}
use Rattle.std.proofs.lemmas.Bool.{eqb-true, eq-eqb, ne_eqb, cases_eq, or_cases, or_parts, true≢false, false_from_ne_true}
use Rattle.snap_base.specs.declared.transactions.State.{State}
use Rattle.snap_base.proofs.Booleans.{or_false}
use Rattle.protocol.specs.Parts.{Cascade, Who, OfBatch, Pact}
use Rattle.protocol.specs.Words.{is_among, is_who, is_value}
use Rattle.protocol.specs.OnCell.{is_cut}
use Rattle.protocol.specs.History.{Done, View, History, done_pact, Slice, Ran, Stands, Gone, not_run, ran_in, completed, left_for_good, without_standing, long_staying, slices_of, view_in, last_left}
use Rattle.protocol_laws.specs.Told.{PactsAscend}
use Rattle.protocol_laws.specs.Tracks.{keys_in, is_key_among, Differ, slices_in, Linked}
use Rattle.protocol_laws.specs.Commits.{Finds, left_by, left_as, left_of, StatesLink, last_state, is_kept, has_kept, KeptFront, kept_slices, KeptAhead, Commits}
use Rattle.protocol_laws.specs.Turns.{Rising}
use Rattle.protocol_laws.proofs.machine.TrackLists
use Rattle.protocol_laws.proofs.machine.TrackLists.{linked_parts, is_who_true}
use Rattle.protocol_laws.proofs.first.Lists.{or_true}

pub linked_one : (first m n : State) (xs : List Slice) → Linked first xs m → Linked first xs n → m ≡ n
linked_one first m n [] h g = sym h ∙ g
linked_one first m n (x ∷ xs) h g = linked_one x.left m n xs h.1 g.1

pub links_more : (a : ℕ) (s : State) (ds es : List Done) → StatesLink a s ds → StatesLink a (last_state a s ds) es → StatesLink a s (ds ++ es)
links_more a s [] es h g = g
links_more a s (d ∷ ds) es h g = (h.0, links_more a (left_of a d s) ds es h.1 g)

pub last_more : (a : ℕ) (s : State) (ds es : List Done) → last_state a s (ds ++ es) ≡ last_state a (last_state a s ds) es
last_more a s [] es = refl
last_more a s (d ∷ ds) es = last_more a (left_of a d s) ds es

-- ---- who is kept is the same, and so is all

-- an event that leaves who stands, who is gone and all slices of what committed
pub same : (a : ℕ) (first : State) (kept : List Who) (committed : List Done) (long long' : List Ran) → KeptFront kept long' → kept_slices kept long' ≡ kept_slices kept long → Commits a first kept committed long → Commits a first kept committed long'
same a first kept committed long long' f e h = record { front = f; ends = subst (λ z. Linked first z (last_state a first committed)) (sym e) h.ends; links = h.links }

-- ---- one more

has_more : (kept : List Who) (who : Who) (rs : List Ran) → is_kept who kept ≡ false → has_kept kept (rs ++ not_run who ∷ []) ≡ has_kept kept rs
has_more kept who [] e = rw e refl
has_more kept who (Stands y c ss ∷ rs) e = rw (has_more kept who rs e) refl
has_more kept who (Gone y ss ∷ rs) e = refl

front_more : (kept : List Who) (who : Who) (rs : List Ran) → is_kept who kept ≡ false → KeptFront kept rs → KeptFront kept (rs ++ not_run who ∷ [])
front_more kept who [] e h = (λ q. absurd (true≢false (sym q)), tt)
front_more kept who (Stands y c ss ∷ rs) e h = (λ q. h.0 (sym (has_more kept who rs e) ∙ q), front_more kept who rs e h.1)
front_more kept who (Gone y ss ∷ rs) e h = (h.0, front_more kept who rs e h.1)

slices_more : (kept : List Who) (who : Who) (rs : List Ran) → kept_slices kept (rs ++ not_run who ∷ []) ≡ kept_slices kept rs
slices_more kept who [] = by (is_kept who kept) []
  where
    by : (b : Bool) (zs : List Slice) → (if b then zs else zs) ≡ zs
    by true zs = refl
    by false zs = refl
slices_more kept who (Stands y c ss ∷ rs) = rw (slices_more kept who rs) refl
slices_more kept who (Gone y ss ∷ rs) = rw (slices_more kept who rs) refl

pub more : (a : ℕ) (first : State) (kept : List Who) (committed : List Done) (long : List Ran) (who : Who) → is_kept who kept ≡ false → Commits a first kept committed long → Commits a first kept committed (long ++ not_run who ∷ [])
more a first kept committed long who e h = same a first kept committed long _ (front_more kept who long e h.front) (slices_more kept who long) h

-- ---- a slice of one that did not commit

has_ran : (kept : List Who) (who : Who) (x : Slice) (rs : List Ran) → has_kept kept (map (ran_in who x) rs) ≡ has_kept kept rs
has_ran kept who x [] = refl
has_ran kept who x (Stands y c ss ∷ rs) = rw (has_ran kept who x rs) refl
has_ran kept who x (Gone y ss ∷ rs) = refl

front_ran : (kept : List Who) (who : Who) (x : Slice) (rs : List Ran) → KeptFront kept rs → KeptFront kept (map (ran_in who x) rs)
front_ran kept who x [] h = tt
front_ran kept who x (Stands y c ss ∷ rs) h = (λ q. h.0 (sym (has_ran kept who x rs) ∙ q), front_ran kept who x rs h.1)
front_ran kept who x (Gone y ss ∷ rs) h = (h.0, front_ran kept who x rs h.1)

slices_ran : (kept : List Who) (who : Who) (x : Slice) (rs : List Ran) → is_kept who kept ≡ false → kept_slices kept (map (ran_in who x) rs) ≡ kept_slices kept rs
slices_ran kept who x [] e = refl
slices_ran kept who x (Stands y c ss ∷ rs) e = rw (slices_ran kept who x rs e) (by (is_kept y kept) refl (is_who y who) refl)
  where
    by : (b : Bool) → is_kept y kept ≡ b → (q : Bool) → is_who y who ≡ q → (if b then (if q then ss ++ x ∷ [] else ss) ++ kept_slices kept rs else kept_slices kept rs) ≡ (if b then ss ++ kept_slices kept rs else kept_slices kept rs)
    by true f true g = absurd (true≢false (sym f ∙ (ap (λ z. is_kept z kept) (is_who_true y who g) ∙ e)))
    by true f false g = refl
    by false f q g = refl
slices_ran kept who x (Gone y ss ∷ rs) e = rw (slices_ran kept who x rs e) refl

pub ran : (a : ℕ) (first : State) (kept : List Who) (committed : List Done) (long : List Ran) (who : Who) (x : Slice) → is_kept who kept ≡ false → Commits a first kept committed long → Commits a first kept committed (map (ran_in who x) long)
ran a first kept committed long who x e h = same a first kept committed long _ (front_ran kept who x long h.front) (slices_ran kept who x long e) h

-- ---- complete

has_completed : (kept : List Who) (k : ℕ) (rs : List Ran) → has_kept kept (map (completed k) rs) ≡ has_kept kept rs
has_completed kept k [] = refl
has_completed kept k (Stands y c ss ∷ rs) = rw (has_completed kept k rs) refl
has_completed kept k (Gone y ss ∷ rs) = refl

front_completed : (kept : List Who) (k : ℕ) (rs : List Ran) → KeptFront kept rs → KeptFront kept (map (completed k) rs)
front_completed kept k [] h = tt
front_completed kept k (Stands y c ss ∷ rs) h = (λ q. h.0 (sym (has_completed kept k rs) ∙ q), front_completed kept k rs h.1)
front_completed kept k (Gone y ss ∷ rs) h = (h.0, front_completed kept k rs h.1)

slices_completed : (kept : List Who) (k : ℕ) (rs : List Ran) → kept_slices kept (map (completed k) rs) ≡ kept_slices kept rs
slices_completed kept k [] = refl
slices_completed kept k (Stands y c ss ∷ rs) = rw (slices_completed kept k rs) refl
slices_completed kept k (Gone y ss ∷ rs) = rw (slices_completed kept k rs) refl

pub complete : (a : ℕ) (first : State) (kept : List Who) (committed : List Done) (long : List Ran) (k : ℕ) → Commits a first kept committed long → Commits a first kept committed (map (completed k) long)
complete a first kept committed long k h = same a first kept committed long _ (front_completed kept k long h.front) (slices_completed kept k long) h

-- ---- one that committed leaves for good

has_left : (kept : List Who) (who : Who) (rs : List Ran) → is_kept who kept ≡ true → has_kept kept (map (left_for_good who) rs) ≡ true → has_kept kept rs ≡ true
has_left kept who [] e h = h
has_left kept who (Stands y c ss ∷ rs) e h = by (is_who y who) refl h (has_left kept who rs e)
  where
    by : (b : Bool) → is_who y who ≡ b → has_kept kept ((if b then Gone y ss else Stands y c ss) ∷ map (left_for_good who) rs) ≡ true → (has_kept kept (map (left_for_good who) rs) ≡ true → has_kept kept rs ≡ true) → (is_kept y kept || has_kept kept rs) ≡ true
    by true q g k = rw (ap (λ z. is_kept z kept) (is_who_true y who q) ∙ e) refl
    by false q g k = elim (or_cases (is_kept y kept) (has_kept kept (map (left_for_good who) rs)) g) [ inl f ↦ rw f refl | inr f ↦ rw (k f) (or_true (is_kept y kept)) ]
has_left kept who (Gone y ss ∷ rs) e h = refl

front_left : (kept : List Who) (who : Who) (rs : List Ran) → is_kept who kept ≡ true → KeptFront kept rs → KeptFront kept (map (left_for_good who) rs)
front_left kept who [] e h = tt
front_left kept who (Stands y c ss ∷ rs) e h = by (is_who y who) refl (front_left kept who rs e h.1)
  where
    by : (b : Bool) → is_who y who ≡ b → KeptFront kept (map (left_for_good who) rs) → KeptFront kept ((if b then Gone y ss else Stands y c ss) ∷ map (left_for_good who) rs)
    by true q g = (ap (λ z. is_kept z kept) (is_who_true y who q) ∙ e, g)
    by false q g = (λ f. h.0 (has_left kept who rs e f), g)
front_left kept who (Gone y ss ∷ rs) e h = (h.0, front_left kept who rs e h.1)

slices_left : (kept : List Who) (who : Who) (rs : List Ran) → is_kept who kept ≡ true → kept_slices kept (map (left_for_good who) rs) ≡ kept_slices kept rs
slices_left kept who [] e = refl
slices_left kept who (Stands y c ss ∷ rs) e = by (is_who y who) refl (slices_left kept who rs e)
  where
    by : (b : Bool) → is_who y who ≡ b → kept_slices kept (map (left_for_good who) rs) ≡ kept_slices kept rs → kept_slices kept ((if b then Gone y ss else Stands y c ss) ∷ map (left_for_good who) rs) ≡ (if is_kept y kept then ss ++ kept_slices kept rs else kept_slices kept rs)
    by true q g = rw (g, ap (λ z. is_kept z kept) (is_who_true y who q) ∙ e) refl
    by false q g = rw g refl
slices_left kept who (Gone y ss ∷ rs) e = rw (slices_left kept who rs e) refl

pub leave : (a : ℕ) (first : State) (kept : List Who) (committed : List Done) (long : List Ran) (who : Who) → is_kept who kept ≡ true → Commits a first kept committed long → Commits a first kept committed (map (left_for_good who) long)
leave a first kept committed long who e h = same a first kept committed long _ (front_left kept who long e h.front) (slices_left kept who long e) h

-- ---- one that did not commit is undone

has_without : (kept : List Who) (who : Who) (rs : List Ran) → is_kept who kept ≡ false → has_kept kept (without_standing who rs) ≡ has_kept kept rs
has_without kept who [] e = refl
has_without kept who (Stands y c ss ∷ rs) e = by (is_who y who) refl (has_without kept who rs e)
  where
    by : (b : Bool) → is_who y who ≡ b → has_kept kept (without_standing who rs) ≡ has_kept kept rs → has_kept kept (if b then without_standing who rs else Stands y c ss ∷ without_standing who rs) ≡ (is_kept y kept || has_kept kept rs)
    by true q g = rw (ap (λ z. is_kept z kept) (is_who_true y who q) ∙ e) g
    by false q g = rw g refl
has_without kept who (Gone y ss ∷ rs) e = refl

front_without : (kept : List Who) (who : Who) (rs : List Ran) → is_kept who kept ≡ false → KeptFront kept rs → KeptFront kept (without_standing who rs)
front_without kept who [] e h = tt
front_without kept who (Stands y c ss ∷ rs) e h = by (is_who y who) (front_without kept who rs e h.1)
  where
    by : (b : Bool) → KeptFront kept (without_standing who rs) → KeptFront kept (if b then without_standing who rs else Stands y c ss ∷ without_standing who rs)
    by true g = g
    by false g = (λ q. h.0 (sym (has_without kept who rs e) ∙ q), g)
front_without kept who (Gone y ss ∷ rs) e h = (h.0, front_without kept who rs e h.1)

slices_without : (kept : List Who) (who : Who) (rs : List Ran) → is_kept who kept ≡ false → kept_slices kept (without_standing who rs) ≡ kept_slices kept rs
slices_without kept who [] e = refl
slices_without kept who (Stands y c ss ∷ rs) e = by (is_who y who) refl (slices_without kept who rs e)
  where
    by : (b : Bool) → is_who y who ≡ b → kept_slices kept (without_standing who rs) ≡ kept_slices kept rs → kept_slices kept (if b then without_standing who rs else Stands y c ss ∷ without_standing who rs) ≡ (if is_kept y kept then ss ++ kept_slices kept rs else kept_slices kept rs)
    by true q g = rw (ap (λ z. is_kept z kept) (is_who_true y who q) ∙ e) g
    by false q g = rw g refl
slices_without kept who (Gone y ss ∷ rs) e = rw (slices_without kept who rs e) refl

pub undo : (a : ℕ) (first : State) (kept : List Who) (committed : List Done) (long : List Ran) (who : Who) → is_kept who kept ≡ false → Commits a first kept committed long → Commits a first kept committed (without_standing who long)
undo a first kept committed long who e h = same a first kept committed long _ (front_without kept who long e h.front) (slices_without kept who long e) h

-- ---- a rollback, where no aborted batch committed

pub none_kept : (kept : List Who) (rs : List Ran) → has_kept kept rs ≡ false → kept_slices kept rs ≡ []
none_kept kept [] e = refl
none_kept kept (Stands y c ss ∷ rs) e = let p = or_parts (is_kept y kept) (has_kept kept rs) e in rw p.0 (none_kept kept rs p.1)
none_kept kept (Gone y ss ∷ rs) e = absurd (true≢false e)

has_staying : (kept : List Who) (cs : List Cascade) (rs : List Ran) → has_kept kept (long_staying cs rs) ≡ true → has_kept kept rs ≡ true
has_staying kept cs [] h = h
has_staying kept cs (Stands y c ss ∷ rs) h = by (is_cut cs y) h (has_staying kept cs rs)
  where
    by : (b : Bool) → has_kept kept (if b then [] else Stands y c ss ∷ long_staying cs rs) ≡ true → (has_kept kept (long_staying cs rs) ≡ true → has_kept kept rs ≡ true) → (is_kept y kept || has_kept kept rs) ≡ true
    by true g k = absurd (true≢false (sym g))
    by false g k = elim (or_cases (is_kept y kept) (has_kept kept (long_staying cs rs)) g) [ inl f ↦ rw f refl | inr f ↦ rw (k f) (or_true (is_kept y kept)) ]
has_staying kept cs (Gone y ss ∷ rs) h = refl

front_staying : (kept : List Who) (cs : List Cascade) (rs : List Ran) → KeptFront kept rs → KeptFront kept (long_staying cs rs)
front_staying kept cs [] h = tt
front_staying kept cs (Stands y c ss ∷ rs) h = by (is_cut cs y) (front_staying kept cs rs h.1)
  where
    by : (b : Bool) → KeptFront kept (long_staying cs rs) → KeptFront kept (if b then [] else Stands y c ss ∷ long_staying cs rs)
    by true g = tt
    by false g = (λ q. h.0 (has_staying kept cs rs q), g)
front_staying kept cs (Gone y ss ∷ rs) h = (h.0, front_staying kept cs rs h.1)

slices_staying : (kept : List Who) (cs : List Cascade) (rs : List Ran) → ((y : Who) → is_cut cs y ≡ true → is_kept y kept ≡ false) → KeptFront kept rs → kept_slices kept (long_staying cs rs) ≡ kept_slices kept rs
slices_staying kept cs [] f h = refl
slices_staying kept cs (Stands y c ss ∷ rs) f h = by (is_cut cs y) refl (slices_staying kept cs rs f h.1)
  where
    by : (b : Bool) → is_cut cs y ≡ b → kept_slices kept (long_staying cs rs) ≡ kept_slices kept rs → kept_slices kept (if b then [] else Stands y c ss ∷ long_staying cs rs) ≡ (if is_kept y kept then ss ++ kept_slices kept rs else kept_slices kept rs)
    by true q g = rw (f y q) (sym (none_kept kept rs (false_from_ne_true (has_kept kept rs) (λ p. true≢false (sym (h.0 p) ∙ f y q)))))
    by false q g = rw g refl
slices_staying kept cs (Gone y ss ∷ rs) f h = rw (slices_staying kept cs rs f h.1) refl

pub roll_back : (a : ℕ) (first : State) (kept : List Who) (committed : List Done) (long : List Ran) (cs : List Cascade) → ((y : Who) → is_cut cs y ≡ true → is_kept y kept ≡ false) → Commits a first kept committed long → Commits a first kept committed (long_staying cs long)
roll_back a first kept committed long cs f h = same a first kept committed long _ (front_staying kept cs long h.front) (slices_staying kept cs long f h.front) h

-- ---- one commits

kept_more : (y who : Who) (kept : List Who) → is_kept y (kept ++ who ∷ []) ≡ (is_kept y kept || is_who who y)
kept_more y who [] = or_false (is_who who y)
kept_more y who (x ∷ xs) = rw (kept_more y who xs) (by (is_who x y))
  where
    by : (b : Bool) → (b || (is_kept y xs || is_who who y)) ≡ ((b || is_kept y xs) || is_who who y)
    by true = refl
    by false = refl

has_commits : (kept : List Who) (who : Who) (rs : List Ran) → has_kept (kept ++ who ∷ []) rs ≡ true → (has_kept kept rs || is_key_among who (keys_in rs)) ≡ true
has_commits kept who [] h = h
has_commits kept who (Stands y c ss ∷ rs) h = by (is_kept y kept) (is_who y who) (subst (λ z. (z || has_kept (kept ++ who ∷ []) rs) ≡ true) (kept_more y who kept ∙ ap (λ z. is_kept y kept || z) (TrackLists.is_who_sym who y)) h) (has_commits kept who rs)
  where
    by : (b q : Bool) → ((b || q) || has_kept (kept ++ who ∷ []) rs) ≡ true → (has_kept (kept ++ who ∷ []) rs ≡ true → (has_kept kept rs || is_key_among who (keys_in rs)) ≡ true)
        → ((b || has_kept kept rs) || (q || is_key_among who (keys_in rs))) ≡ true
    by true q g k = refl
    by false true g k = or_true (has_kept kept rs)
    by false false g k = k g
has_commits kept who (Gone y ss ∷ rs) h = refl

still_kept : (y who : Who) (kept : List Who) → is_kept y kept ≡ true → is_kept y (kept ++ who ∷ []) ≡ true
still_kept y who kept e = kept_more y who kept ∙ rw e refl

front_commits : (kept : List Who) (who : Who) (rs : List Ran) → KeptAhead kept who rs → KeptFront kept rs → KeptFront (kept ++ who ∷ []) rs
front_commits kept who [] g h = tt
front_commits kept who (Stands y c ss ∷ rs) g h =
    (λ q. still_kept y who kept (elim (or_cases (has_kept kept rs) (is_key_among who (keys_in rs)) (has_commits kept who rs q)) [ inl p ↦ h.0 p | inr p ↦ g.0 p ]), front_commits kept who rs g.1 h.1)
front_commits kept who (Gone y ss ∷ rs) g h = (still_kept y who kept h.0, front_commits kept who rs g h.1)

not_among_same : (kept : List Who) (who : Who) (rs : List Ran) → is_key_among who (keys_in rs) ≡ false → kept_slices (kept ++ who ∷ []) rs ≡ kept_slices kept rs
not_among_same kept who [] e = refl
not_among_same kept who (Stands y c ss ∷ rs) e =
    let p = or_parts (is_who y who) (is_key_among who (keys_in rs)) e in
    rw (kept_more y who kept, TrackLists.is_who_sym who y ∙ p.0, or_false (is_kept y kept), not_among_same kept who rs p.1) refl
not_among_same kept who (Gone y ss ∷ rs) e = rw (not_among_same kept who rs e) refl

pub none_of : (who : Who) (rs : List Ran) → is_key_among who (keys_in rs) ≡ false → slices_of who rs ≡ []
none_of who [] e = refl
none_of who (Stands y c ss ∷ rs) e = let p = or_parts (is_who y who) (is_key_among who (keys_in rs)) e in rw p.0 (none_of who rs p.1)
none_of who (Gone y ss ∷ rs) e = none_of who rs e

-- its slices come behind those of all that committed
pub slices_commit : (kept : List Who) (who : Who) (rs : List Ran) → is_kept who kept ≡ false → Differ (keys_in rs) → KeptAhead kept who rs → KeptFront kept rs → kept_slices (kept ++ who ∷ []) rs ≡ kept_slices kept rs ++ slices_of who rs
slices_commit kept who [] e d g h = refl
slices_commit kept who (Stands y c ss ∷ rs) e d g h = by (is_who y who) refl (is_kept y kept) refl (slices_commit kept who rs e d.1 g.1 h.1)
  where
    by : (q : Bool) → is_who y who ≡ q → (b : Bool) → is_kept y kept ≡ b → kept_slices (kept ++ who ∷ []) rs ≡ kept_slices kept rs ++ slices_of who rs
        → (if is_kept y (kept ++ who ∷ []) then ss ++ kept_slices (kept ++ who ∷ []) rs else kept_slices (kept ++ who ∷ []) rs)
        ≡ (if b then ss ++ kept_slices kept rs else kept_slices kept rs) ++ (if q then ss else slices_of who rs)
    by true p true f r = absurd (true≢false (sym f ∙ (ap (λ z. is_kept z kept) (is_who_true y who p) ∙ e)))
    by true p false f r =
        let none : is_key_among who (keys_in rs) ≡ false = subst (λ z. is_key_among z (keys_in rs) ≡ false) (is_who_true y who p) d.0 in
        let old : kept_slices kept rs ≡ [] = none_kept kept rs (false_from_ne_true (has_kept kept rs) (λ v. true≢false (sym (h.0 v) ∙ f))) in
        rw (kept_more y who kept, f, TrackLists.is_who_sym who y ∙ p, not_among_same kept who rs none, old) (append-nil ss)
    by false p true f r = rw (still_kept y who kept f, r) (sym (append_assoc ss (kept_slices kept rs) (slices_of who rs)))
    by false p false f r = rw (kept_more y who kept, f, TrackLists.is_who_sym who y ∙ p) r
slices_commit kept who (Gone y ss ∷ rs) e d g h = rw (slices_commit kept who rs e d g h.1) (sym (append_assoc ss (kept_slices kept rs) (slices_of who rs)))

-- what did not commit comes behind it
abbrev pub rest_slices : List Who → List Ran → List Slice
rest_slices kept [] = []
rest_slices kept (Stands y c ss ∷ rs) = if is_kept y kept then rest_slices kept rs else ss ++ rest_slices kept rs
rest_slices kept (Gone y ss ∷ rs) = rest_slices kept rs

pub in_two : (kept : List Who) (rs : List Ran) → KeptFront kept rs → slices_in rs ≡ kept_slices kept rs ++ rest_slices kept rs
in_two kept [] h = refl
in_two kept (Stands y c ss ∷ rs) h = by (is_kept y kept) refl (in_two kept rs h.1)
  where
    by : (b : Bool) → is_kept y kept ≡ b → slices_in rs ≡ kept_slices kept rs ++ rest_slices kept rs
        → ss ++ slices_in rs ≡ (if b then ss ++ kept_slices kept rs else kept_slices kept rs) ++ (if b then rest_slices kept rs else ss ++ rest_slices kept rs)
    by true e g = rw g (sym (append_assoc ss (kept_slices kept rs) (rest_slices kept rs)))
    by false e g =
        let none : kept_slices kept rs ≡ [] = none_kept kept rs (false_from_ne_true (has_kept kept rs) (λ v. true≢false (sym (h.0 v) ∙ e))) in
        rw none (ap (λ z. ss ++ z) (g ∙ rw none refl))
in_two kept (Gone y ss ∷ rs) h = rw (in_two kept rs h.1) (sym (append_assoc ss (kept_slices kept rs) (rest_slices kept rs)))

-- the slices of one that commits link on, from where what committed ended
pub record Goes (first last : State) (kept : List Who) (who : Who) (rs : List Ran) : Type 0 where
  pub to : State
  pub links : Linked last (slices_of who rs) to
  pub all : Linked first (kept_slices (kept ++ who ∷ []) rs) to

pub goes_on : (first last now : State) (kept : List Who) (who : Who) (rs : List Ran) → is_kept who kept ≡ false → Differ (keys_in rs) → KeptAhead kept who rs → KeptFront kept rs → Linked first (kept_slices kept rs) last → Linked first (slices_in rs) now → Goes first last kept who rs
goes_on first last now kept who rs e d g h l all =
    let more = slices_commit kept who rs e d g h in
    let q = linked_parts first now (kept_slices (kept ++ who ∷ []) rs) (rest_slices (kept ++ who ∷ []) rs) (subst (λ z. Linked first z now) (in_two (kept ++ who ∷ []) rs (front_commits kept who rs g h)) all) in
    let p = linked_parts first q.0 (kept_slices kept rs) (slices_of who rs) (subst (λ z. Linked first z q.0) more q.1) in
    record { to = q.0; links = subst (λ z. Linked z (slices_of who rs) q.0) (linked_one first p.0 last (kept_slices kept rs) p.1 l) p.2; all = q.1 }

-- ---- units

-- these units did what the slices say, one after the other
pub record Explains (a : ℕ) (last to : State) (ds : List Done) : Type 0 where
  pub links : StatesLink a last ds
  pub ends : last_state a last ds ≡ to

pub commits : (a : ℕ) (first now : State) (kept : List Who) (committed : List Done) (long : List Ran) (who : Who) (ds : List Done) → is_kept who kept ≡ false → Differ (keys_in long) → KeptAhead kept who long → Linked first (slices_in long) now
    → ((last to : State) → Linked last (slices_of who long) to → Explains a last to ds) → Commits a first kept committed long → Commits a first (kept ++ who ∷ []) (committed ++ ds) long
commits a first now kept committed long who ds e d g l f h =
    let o = goes_on first (last_state a first committed) now kept who long e d g h.front h.ends l in
    let x = f (last_state a first committed) o.to o.links in
    record {
      front = front_commits kept who long g h.front;
      ends = subst (Linked first (kept_slices (kept ++ who ∷ []) long)) (sym (last_more a first committed ds ∙ x.ends)) o.all;
      links = links_more a first committed ds h.links x.links;
    }

-- a failed one keeps nothing
pub fails : (a : ℕ) (first now : State) (kept : List Who) (committed : List Done) (long : List Ran) (who : Who) (d : Done) → is_kept who kept ≡ false → Differ (keys_in long) → KeptAhead kept who long → Linked first (slices_in long) now
    → is_value d.result ≡ false → ((last to : State) → Linked last (slices_of who long) to → Finds (d.views a) last) → Commits a first kept committed long → Commits a first kept (committed ++ d ∷ []) long
fails a first now kept committed long who d e df g l v f h =
    let o = goes_on first (last_state a first committed) now kept who long e df g h.front h.ends l in
    record {
      front = h.front;
      ends = subst (Linked first (kept_slices kept long)) (sym (last_more a first committed (d ∷ []) ∙ rw v refl)) h.ends;
      links = links_more a first committed (d ∷ []) h.links (f (last_state a first committed) o.to o.links, tt);
    }

-- ---- a reader

-- a view that found the state, and left it
abbrev pub Sees : State → Option View → Type 0
Sees s None = Unit {0}
Sees s (Some v) = (v.found ≡ s) × (v.left ≡ s)

sees_finds : (s : State) (o : Option View) → Sees s o → Finds o s
sees_finds s None h = tt
sees_finds s (Some v) h = h.0

sees_left : (b : Bool) (s : State) (o : Option View) → Sees s o → left_as b o s ≡ s
sees_left true s None h = refl
sees_left true s (Some v) h = h.1
sees_left false s o h = refl

-- Where all that ran on the actor committed, the state that the actor has is the one that the last of them left.
pub now_last : (first now last : State) (kept : List Who) (rs : List Ran) → KeptFront kept rs → rest_slices kept rs ≡ [] → Linked first (kept_slices kept rs) last → Linked first (slices_in rs) now → now ≡ last
now_last first now last kept rs f e l all = linked_one first now last (kept_slices kept rs) (subst (λ z. Linked first z now) (in_two kept rs f ∙ (ap (λ z. kept_slices kept rs ++ z) e ∙ append-nil (kept_slices kept rs))) all) l

-- it found this state, and left it
pub reads : (a : ℕ) (first now : State) (kept : List Who) (committed : List Done) (long : List Ran) (d : Done) → Sees now (d.views a) → (is_some (d.views a) ≡ true → rest_slices kept long ≡ []) → Linked first (slices_in long) now
    → Commits a first kept committed long → Commits a first kept (committed ++ d ∷ []) long
reads a first now kept committed long d v k l h =
    let last = last_state a first committed in
    let here : Sees last (d.views a) = at (d.views a) k v in
    record {
      front = h.front;
      ends = subst (Linked first (kept_slices kept long)) (sym (last_more a first committed (d ∷ []) ∙ sees_left (is_value d.result) last (d.views a) here)) h.ends;
      links = links_more a first committed (d ∷ []) h.links (sees_finds last (d.views a) here, tt);
    }
  where
    at : (o : Option View) → (is_some o ≡ true → rest_slices kept long ≡ []) → Sees now o → Sees (last_state a first committed) o
    at None k v = tt
    at (Some x) k v = subst (λ z. Sees z (Some x)) (now_last first now (last_state a first committed) kept long h.front (k refl) h.ends l) v

-- ---- one transaction's slices

-- all are of one
pub one_links : (t : ℕ) (ss : List Slice) (last to : State) → AllByRecursion (λ x. x.tid ≡ t) ss → Linked last ss to → Finds (view_in t ss) last × (left_by (view_in t ss) last ≡ to)
one_links t [] last to a l = (tt, l)
one_links t (x ∷ xs) last to a l = rw (eq-eqb x.tid t a.0) (l.0, ends t x.left to xs a.1 l.1)
  where
    ends : (t : ℕ) (s to : State) (xs : List Slice) → AllByRecursion (λ x. x.tid ≡ t) xs → Linked s xs to → last_left t s xs ≡ to
    ends t s to [] a l = l
    ends t s to (x ∷ xs) a l = rw (eq-eqb x.tid t a.0) (ends t x.left to xs a.1 l.1)

-- ---- the slices of a batch's PACTs, one PACT after the other

last_left_is : (t : ℕ) (s : State) (xs : List Slice) → last_left t s xs ≡ left_by (view_in t xs) s
last_left_is t s [] = refl
last_left_is t s (x ∷ xs) = by (x.tid == t) (last_left_is t s xs)
  where
    by : (b : Bool) → last_left t s xs ≡ left_by (view_in t xs) s → last_left t (if b then x.left else s) xs ≡ left_by (if b then Some (record { found = x.found; left = last_left t x.left xs }) else view_in t xs) s
    by true h = refl
    by false h = h

none_in : (t low : ℕ) (xs : List Slice) → t < low → Rising low xs → view_in t xs ≡ None
none_in t low [] l r = refl
none_in t low (x ∷ xs) l r = rw (ne_eqb x.tid t (λ q. omega (arith, q, l, r.0))) (none_in t x.tid xs (omega (arith, l, r.0)) r.1)

-- those of the first one, and the others
pub record Span (P : Slice → Type 0) (t : ℕ) (last to : State) (ss : List Slice) : Type 0 where
  pub mid : State
  pub rest : List Slice
  pub finds : Finds (view_in t ss) last
  pub left : left_by (view_in t ss) last ≡ mid
  pub links : Linked mid rest to
  pub others : (u : ℕ) → t < u → view_in u ss ≡ view_in u rest
  pub rising : Rising (t + 1) rest
  pub each : AllByRecursion P rest

pub span : (P : Slice → Type 0) (t : ℕ) (last to : State) (ss : List Slice) → Rising t ss → AllByRecursion P ss → Linked last ss to → Span P t last to ss
span P t last to [] r p l = record { mid = last; rest = []; finds = tt; left = refl; links = l; others = λ u q. refl; rising = tt; each = tt }
span P t last to (x ∷ xs) r p l = elim (cases_eq x.tid t) [
  | inl e ↦
      let g = span P t x.left to xs (subst (λ z. Rising z xs) e r.1) p.1 l.1 in
      let own : (x.tid == t) ≡ true = eq-eqb x.tid t e in
      record {
        mid = g.mid;
        rest = g.rest;
        finds = rw own l.0;
        left = rw own (last_left_is t x.left xs ∙ g.left);
        links = g.links;
        others = λ u q. rw (ne_eqb x.tid u (λ v. omega (arith, v, e, q))) (g.others u q);
        rising = g.rising;
        each = g.each;
      }
  | inr n ↦
      let above : t < x.tid = omega (arith, r.0, n) in
      let none : view_in t (x ∷ xs) ≡ None = rw (ne_eqb x.tid t n) (none_in t x.tid xs above r.1) in
      record {
        mid = last;
        rest = x ∷ xs;
        finds = rw none tt;
        left = rw none refl;
        links = l;
        others = λ u q. refl;
        rising = (omega (arith, above), r.1);
        each = p;
      }
]

among_from : (low t : ℕ) (ps : List Pact) → PactsAscend low ps → is_among t (map (λ p. p.tid) ps) ≡ true → low ≤ t
among_from low t [] h e = absurd (true≢false (sym e))
among_from low t (p ∷ ps) h e = elim (or_cases (p.tid == t) (is_among t (map (λ p. p.tid) ps)) e) [
  | inl q ↦ omega (arith, h.0, eqb-true p.tid t q)
  | inr q ↦ omega (arith, h.0, among_from (p.tid + 1) t ps h.1 q)
]

pub rising_from : (low t : ℕ) (ps : List Pact) (ss : List Slice) → PactsAscend t ps → AllByRecursion (λ x. is_among x.tid (map (λ p. p.tid) ps) ≡ true) ss → Rising low ss → Rising t ss
rising_from low t ps [] a p r = tt
rising_from low t ps (x ∷ xs) a p r = (among_from t x.tid ps a p.0, r.1)

pub among_rest : (p : Pact) (ps : List Pact) (low : ℕ) (ss : List Slice) → p.tid < low → AllByRecursion (λ x. is_among x.tid (map (λ p. p.tid) (p ∷ ps)) ≡ true) ss → Rising low ss → AllByRecursion (λ x. is_among x.tid (map (λ p. p.tid) ps) ≡ true) ss
among_rest p ps low [] l a r = tt
among_rest p ps low (x ∷ xs) l a r = (elim (or_cases (p.tid == x.tid) (is_among x.tid (map (λ p. p.tid) ps)) a.0) [ inl q ↦ absurd (omega (arith, eqb-true p.tid x.tid q, l, r.0)) | inr q ↦ q ], among_rest p ps x.tid xs (omega (arith, l, r.0)) a.1 r.1)

pub views_rest : (whole ss rest : List Slice) (t : ℕ) (ps : List Pact) → PactsAscend (t + 1) ps → ((u : ℕ) → t < u → view_in u ss ≡ view_in u rest) → AllByRecursion (λ p. view_in p.tid whole ≡ view_in p.tid ss) ps → AllByRecursion (λ p. view_in p.tid whole ≡ view_in p.tid rest) ps
views_rest whole ss rest t [] a f h = tt
views_rest whole ss rest t (p ∷ ps) a f h = (h.0 ∙ f p.tid (omega (arith, a.0)), views_rest whole ss rest t ps (lower t p.tid ps a.0 a.1) f h.1)
  where
    lower : (t n : ℕ) (ps : List Pact) → t + 1 ≤ n → PactsAscend (n + 1) ps → PactsAscend (t + 1) ps
    lower t n [] l a = tt
    lower t n (p ∷ ps) l a = (omega (arith, l, a.0), a.1)

pub batch_explains : (k a low : ℕ) (h : History) (last to : State) (ps : List Pact) (ss : List Slice) → PactsAscend low ps → Rising 0 ss → AllByRecursion (λ x. is_among x.tid (map (λ p. p.tid) ps) ≡ true) ss → AllByRecursion (λ p. is_value p.result ≡ true) ps
    → AllByRecursion (λ p. view_in p.tid (slices_of (OfBatch k) (h.long a)) ≡ view_in p.tid ss) ps → Linked last ss to → Explains a last to (map (done_pact k h) ps)
batch_explains k a low h last to [] [] asc r am v same l = record { links = tt; ends = l }
batch_explains k a low h last to [] (x ∷ xs) asc r am v same l = absurd (true≢false (sym am.0))
batch_explains k a low h last to (p ∷ ps) ss asc r am v same l =
    let g = span (λ x. is_among x.tid (map (λ p. p.tid) (p ∷ ps)) ≡ true) p.tid last to ss (rising_from 0 p.tid (p ∷ ps) ss (omega arith, asc.1) am r) am l in
    let rest = batch_explains k a (p.tid + 1) h g.mid to ps g.rest asc.1 (lower (p.tid + 1) g.rest g.rising) (among_rest p ps (p.tid + 1) g.rest (omega arith) g.each g.rising) v.1 (views_rest (slices_of (OfBatch k) (h.long a)) ss g.rest p.tid ps asc.1 g.others same.1) g.links in
    let next : left_of a (done_pact k h p) last ≡ g.mid = rw (v.0, same.0) g.left in
    record {
      links = (rw same.0 g.finds, subst (λ z. StatesLink a z (map (done_pact k h) ps)) (sym next) rest.links);
      ends = ap (λ z. last_state a z (map (done_pact k h) ps)) next ∙ rest.ends;
    }
  where
    lower : (n : ℕ) (xs : List Slice) → Rising n xs → Rising 0 xs
    lower n [] h = tt
    lower n (x ∷ xs) h = (omega arith, h.1)

pub act_explains : (a : ℕ) (d : Done) (t : ℕ) (ss : List Slice) (last to : State) → d.views a ≡ view_in t ss → is_value d.result ≡ true → AllByRecursion (λ x. x.tid ≡ t) ss → Linked last ss to → Explains a last to (d ∷ [])
act_explains a d t ss last to e v all l =
    let g = one_links t ss last to all l in
    record { links = (rw e g.0, tt); ends = rw (v, e) g.1 }
