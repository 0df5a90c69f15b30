-- Lists of records that differ in nothing that counts.
use Rattle.std.proofs.Common.{◌≡◌, ℕ, zero, suc, ◌%◌, ◌⊎◌, inl, inr, Bool, true, false, List, [], ◌∷◌, ◌++◌, length, map, refl, sym, ap, subst, ◌∙◌}
use Rattle.std.specs.Prelude.{slice_index_or, if◌then◌else◌, Contains}
use Rattle.std.specs.List.{AllByRecursion, filter}
use Rattle.std.proofs.lemmas.Bool.{true≢false}
use Rattle.std.proofs.lemmas.List.Elements.{filter-append}
use Rattle.snap_base.proofs.Lists.{all_filter}
use Rattle.txn_records.specs.declared.records.Record.{Record}
use Rattle.txn_records.specs.declared.records.Record.TheVariants.{Genesis, BatchInfo, BatchComplete, BatchCommit, ActPrepare, ActCommit, BatchDone, ActDone, Checkpoint}
use Rattle.txn_records.specs.declared.keys.Key.{Key}
use Rattle.txn_records.specs.Records.{key}
use Rattle.snap_recover.specs.Logs.{log_of, HasKey, IsLastOf}
use Rattle.snap_recover.proofs.Lists.{contains_cases, contains_here, contains_none, contains_there}

-- ---- what a test keeps

pub each_is : {X : Type 0} (m : X → Bool) (xs : List X) → AllByRecursion (λ x. m x ≡ true) (filter m xs)
each_is m [] = tt
each_is m (x ∷ xs) = by (m x) refl (each_is m xs)
  where
    by : (b : Bool) → m x ≡ b → AllByRecursion (λ y. m y ≡ true) (filter m xs) → AllByRecursion (λ y. m y ≡ true) (if b then x ∷ filter m xs else filter m xs)
    by true e h = (e, h)
    by false e h = h

pub in_filter : {X : Type 0} (m : X → Bool) (xs : List X) (x : X) → Contains xs x → m x ≡ true → Contains (filter m xs) x
in_filter m [] x c e = absurd (contains_none x c)
in_filter m (y ∷ xs) x c e = by (m y) refl (contains_cases y x xs c) (λ k. in_filter m xs x k e)
  where
    by : (b : Bool) → m y ≡ b → (y ≡ x) ⊎ Contains xs x → (Contains xs x → Contains (filter m xs) x) → Contains (if b then y ∷ filter m xs else filter m xs) x
    by true f (inl s) rest = subst (Contains (y ∷ filter m xs)) s (contains_here y (filter m xs))
    by true f (inr k) rest = contains_there y x (filter m xs) (rest k)
    by false f (inl s) rest = absurd (true≢false (sym e ∙ sym (ap m s) ∙ f))
    by false f (inr k) rest = rest k

-- ---- records that a test keeps

-- what has P is kept
abbrev pub Keeps : (Record → Bool) → (Record → Type 0) → Type 0
Keeps m P = (r : Record) → P r → m r ≡ true

kept_first : (m : Record → Bool) (r : Record) (rs : List Record) → m r ≡ true → filter m (r ∷ rs) ≡ r ∷ filter m rs
kept_first m r rs e = ap (λ (b : Bool). if b then r ∷ filter m rs else filter m rs) e

pub none_back : (P : Record → Type 0) (m : Record → Bool) → Keeps m P → (rs : List Record) → AllByRecursion (λ r. ¬ P r) (filter m rs) → AllByRecursion (λ r. ¬ P r) rs
none_back P m keeps [] h = tt
none_back P m keeps (r ∷ rs) h = by (m r) refl h (none_back P m keeps rs)
  where
    by : (b : Bool) → m r ≡ b → AllByRecursion (λ r. ¬ P r) (if b then r ∷ filter m rs else filter m rs) → (AllByRecursion (λ r. ¬ P r) (filter m rs) → AllByRecursion (λ r. ¬ P r) rs) → AllByRecursion (λ r. ¬ P r) (r ∷ rs)
    by true e k rest = (k.0, rest k.1)
    by false e k rest = ((λ p. true≢false (sym (keeps r p) ∙ e)), rest k)

pub last_front : (P : Record → Type 0) (m : Record → Bool) → Keeps m P → (rs : List Record) (r : Record) → IsLastOf P rs r → IsLastOf P (filter m rs) r
last_front P m keeps rs r (front, behind, e, p, quiet) = (
  filter m front,
  filter m behind,
  ap (filter m) e ∙ filter-append m front (r ∷ behind) ∙ ap (λ (z : List Record). filter m front ++ z) (kept_first m r behind (keeps r p)),
  p,
  all_filter (λ x. ¬ P x) m behind quiet,
)

no_split : (front : List Record) (r : Record) (behind : List Record) → ¬ (◌≡◌ {A = List Record} [] (front ++ r ∷ behind))
no_split [] r behind e = absurd (cc e)
no_split (x ∷ front) r behind e = absurd (cc e)

one_more : (P : Record → Type 0) (x : Record) (xs : List Record) (r : Record) → IsLastOf P xs r → IsLastOf P (x ∷ xs) r
one_more P x xs r (front, behind, e, p, quiet) = (x ∷ front, behind, ap (λ (z : List Record). x ∷ z) e, p, quiet)

at_first : (P : Record → Type 0) (m : Record → Bool) → Keeps m P → (x : Record) (xs : List Record) (r : Record) (front behind : List Record) → x ∷ filter m xs ≡ front ++ r ∷ behind → P r → AllByRecursion (λ y. ¬ P y) behind
    → (IsLastOf P (filter m xs) r → IsLastOf P xs r) → IsLastOf P (x ∷ xs) r
at_first P m keeps x xs r [] behind e p quiet rest =
    let same : x ≡ r = cc e in
    let tail : behind ≡ filter m xs = cc e in
    ([], xs, ap (λ (z : Record). z ∷ xs) same, p, none_back P m keeps xs (subst (AllByRecursion (λ y. ¬ P y)) tail quiet))
at_first P m keeps x xs r (y ∷ front) behind e p quiet rest =
    let tail : filter m xs ≡ front ++ r ∷ behind = cc e in
    one_more P x xs r (rest (front, behind, tail, p, quiet))

pub last_back : (P : Record → Type 0) (m : Record → Bool) → Keeps m P → (rs : List Record) (r : Record) → IsLastOf P (filter m rs) r → IsLastOf P rs r
last_back P m keeps [] r h = absurd (no_split h.0 r h.1 h.2)
last_back P m keeps (x ∷ xs) r h = by (m x) h (last_back P m keeps xs r)
  where
    by : (b : Bool) → IsLastOf P (if b then x ∷ filter m xs else filter m xs) r → (IsLastOf P (filter m xs) r → IsLastOf P xs r) → IsLastOf P (x ∷ xs) r
    by true k rest = at_first P m keeps x xs r k.0 k.1 k.2 k.3 k.4 rest
    by false k rest = one_more P x xs r (rest k)

pub key_front : (m : Record → Bool) (k : Key) → Keeps m (λ r. key r ≡ k) → (rs : List Record) → HasKey rs k → HasKey (filter m rs) k
key_front m k keeps [] h = h
key_front m k keeps (x ∷ xs) h = by (m x) refl (contains_cases (key x) k (map key xs) h) (key_front m k keeps xs)
  where
    by : (b : Bool) → m x ≡ b → (key x ≡ k) ⊎ HasKey xs k → (HasKey xs k → HasKey (filter m xs) k) → HasKey (if b then x ∷ filter m xs else filter m xs) k
    by true e (inl i) rest = subst (λ (z : Key). HasKey (x ∷ filter m xs) z) i (contains_here (key x) (map key (filter m xs)))
    by true e (inr i) rest = contains_there (key x) k (map key (filter m xs)) (rest i)
    by false e (inl i) rest = absurd (true≢false (sym (keeps x i) ∙ e))
    by false e (inr i) rest = rest i

pub key_back : (m : Record → Bool) (k : Key) (rs : List Record) → HasKey (filter m rs) k → HasKey rs k
key_back m k [] h = h
key_back m k (x ∷ xs) h = by (m x) h (key_back m k xs)
  where
    by : (b : Bool) → HasKey (if b then x ∷ filter m xs else filter m xs) k → (HasKey (filter m xs) k → HasKey xs k) → HasKey (x ∷ xs) k
    by true j rest = elim (contains_cases (key x) k (map key (filter m xs)) j) [
      | inl i ↦ subst (λ (z : Key). HasKey (x ∷ xs) z) i (contains_here (key x) (map key xs))
      | inr i ↦ contains_there (key x) k (map key xs) (rest i)
    ]
    by false j rest = contains_there (key x) k (map key xs) (rest j)

-- a test behind one that keeps more
pub filter_twice : (m n : Record → Bool) → ((r : Record) → m r ≡ true → n r ≡ true) → (rs : List Record) → filter m (filter n rs) ≡ filter m rs
filter_twice m n more [] = refl
filter_twice m n more (x ∷ xs) = by (m x) (n x) refl refl (filter_twice m n more xs)
  where
    by : (b c : Bool) → m x ≡ b → n x ≡ c → filter m (filter n xs) ≡ filter m xs → filter m (if c then x ∷ filter n xs else filter n xs) ≡ (if b then x ∷ filter m xs else filter m xs)
    by true true e f rest = kept_first m x (filter n xs) e ∙ ap (λ (z : List Record). x ∷ z) rest
    by true false e f rest = absurd (true≢false (sym (more x e) ∙ f))
    by false true e f rest = ap (λ (b : Bool). if b then x ∷ filter m (filter n xs) else filter m (filter n xs)) e ∙ rest
    by false false e f rest = rest

-- ---- lists of them

-- the records that count: of commits those of these batches and undeclared transactions
abbrev pub matters : (ℕ → Bool) → (ℕ → Bool) → Record → Bool
matters B T (Genesis count states) = false
matters B T (BatchInfo bid actors tids) = true
matters B T (BatchComplete bid actor state) = true
matters B T (BatchCommit bid) = B bid.0
matters B T (ActPrepare tid actor state) = true
matters B T (ActCommit tid m c actors) = T tid.0
matters B T (BatchDone bid values) = B bid.0
matters B T (ActDone tid m c value actors) = T tid.0
matters B T (Checkpoint generation next_tid next_bid next_c batches acts states) = false

-- the lists have the same ones that count
abbrev pub AreAlike : (ℕ → Bool) → (ℕ → Bool) → List (List Record) → List (List Record) → Type 0
AreAlike B T xs ys = map (filter (matters B T)) xs ≡ map (filter (matters B T)) ys

pub mapped_length : (f : List Record → List Record) (xs : List (List Record)) → length (map f xs) ≡ length xs
mapped_length f [] = refl
mapped_length f (x ∷ xs) = ap (λ (n : ℕ). suc n) (mapped_length f xs)

mapped_at : (f : List Record → List Record) → f [] ≡ [] → (xs : List (List Record)) (i : ℕ) → slice_index_or (map f xs) i [] ≡ f (slice_index_or xs i [])
mapped_at f e [] i = sym e
mapped_at f e (x ∷ xs) zero = refl
mapped_at f e (x ∷ xs) (suc i) = mapped_at f e xs i

pub mapped_log : (f : List Record → List Record) → f [] ≡ [] → (xs : List (List Record)) (n : ℕ) → log_of (map f xs) n ≡ f (log_of xs n)
mapped_log f e xs n = ap (λ (k : ℕ). slice_index_or (map f xs) (n % k) []) (mapped_length f xs) ∙ mapped_at f e xs (n % length xs)

pub same_length : (B T : ℕ → Bool) (xs ys : List (List Record)) → AreAlike B T xs ys → length xs ≡ length ys
same_length B T xs ys al = sym (mapped_length (filter (matters B T)) xs) ∙ ap (λ (z : List (List Record)). length z) al ∙ mapped_length (filter (matters B T)) ys

pub same_log : (B T : ℕ → Bool) (xs ys : List (List Record)) → AreAlike B T xs ys → (n : ℕ) → filter (matters B T) (log_of xs n) ≡ filter (matters B T) (log_of ys n)
same_log B T xs ys al n =
    sym (mapped_log (filter (matters B T)) refl xs n) ∙ ap (λ (z : List (List Record)). log_of z n) al ∙ mapped_log (filter (matters B T)) refl ys n

-- ---- what they tell

pub last_alike : (B T : ℕ → Bool) (P : Record → Type 0) → Keeps (matters B T) P → (xs ys : List (List Record)) → AreAlike B T xs ys → (n : ℕ) (r : Record) → IsLastOf P (log_of xs n) r → IsLastOf P (log_of ys n) r
last_alike B T P keeps xs ys al n r h =
    last_back P (matters B T) keeps (log_of ys n) r
    (subst (λ (z : List Record). IsLastOf P z r) (same_log B T xs ys al n) (last_front P (matters B T) keeps (log_of xs n) r h))

pub key_alike : (B T : ℕ → Bool) (k : Key) → Keeps (matters B T) (λ r. key r ≡ k) → (xs ys : List (List Record)) → AreAlike B T xs ys → (n : ℕ) → HasKey (log_of xs n) k → HasKey (log_of ys n) k
key_alike B T k keeps xs ys al n h =
    key_back (matters B T) k (log_of ys n)
    (subst (λ (z : List Record). HasKey z k) (same_log B T xs ys al n) (key_front (matters B T) k keeps (log_of xs n) h))

pub none_alike : (B T : ℕ → Bool) (P : Record → Type 0) → Keeps (matters B T) P → (xs ys : List (List Record)) → AreAlike B T xs ys → (n : ℕ) → AllByRecursion (λ r. ¬ P r) (log_of xs n) → AllByRecursion (λ r. ¬ P r) (log_of ys n)
none_alike B T P keeps xs ys al n h =
    none_back P (matters B T) keeps (log_of ys n)
    (subst (AllByRecursion (λ r. ¬ P r)) (same_log B T xs ys al n) (all_filter (λ r. ¬ P r) (matters B T) (log_of xs n) h))
