-- Lists that a pass over each log fills.
use Rattle.std.proofs.Common.{◌≡◌, ◌≢◌, ℕ, ◌+◌, ◌%◌, ◌<◌, ◌≤◌, ◌⊎◌, inl, inr, List, [], ◌∷◌, ◌++◌, length, map, take, get_or, sym, ap, subst, ◌∙◌, arith, ◌↔◌}
use Rattle.std.proofs.Math.Nat.{mod-lt}
use Rattle.std.proofs.lemmas.Bool.{cases_lt}
use Rattle.std.proofs.lemmas.List.{get_or_default}
use Rattle.std.specs.List.{Contains}
use Rattle.snap_base.specs.declared.ids.Bid.{Bid}
use Rattle.snap_base.specs.declared.ids.Tid.{Tid}
use Rattle.txn_records.specs.declared.records.Record.{Record}
use Rattle.txn_records.specs.declared.keys.Key.{Key}
use Rattle.txn_records.specs.Records.{key}
use Rattle.snap_recover.specs.declared.kinds.Kind.{Kind}
use Rattle.snap_recover.specs.declared.kinds.Kind.TheVariants as kinds
use Rattle.snap_recover.specs.Logs.{HasKey, log_of}
use Rattle.snap_recover.specs.Passes.{AddsKeyed, commit_key, part_key, bid_at, actor_at, tid_at}
use Rattle.snap_recover.proofs.Lists.{contains_here, contains_none, contains_cases, contains_left, contains_right, contains_append}
use Rattle.snap_recover.proofs.Growing.{has_left, has_right, has_cases}
use Rattle.snap_recover.proofs.Steps.{taken}

-- ---- a record more

pub has_more : (rs : List Record) (r : Record) (k : Key) → HasKey (rs ++ r ∷ []) k → HasKey rs k ⊎ (key r ≡ k)
has_more rs r k h =
    elim (has_cases rs (r ∷ []) k h) [
      | inl i ↦ inl i
      | inr i ↦ elim (contains_cases (key r) k [] i) [ inl e ↦ inr e | inr n ↦ absurd (contains_none k n) ]
    ]

pub has_last : (rs : List Record) (r : Record) (k : Key) → key r ≡ k → HasKey (rs ++ r ∷ []) k
has_last [] r k e = subst (λ (z : Key). HasKey (r ∷ []) z) e (contains_here (key r) [])
has_last (s ∷ rs) r k e = contains_right (key s ∷ []) (map key (rs ++ r ∷ [])) k (has_last rs r k e)

-- ---- one pass

-- x is in, and what was
abbrev pub Inserts : {X : Type 0} → X → (X → Type 0) → (X → Type 0) → Type 0
Inserts {X} x Old New = (y : X) → New y ↔ (Old y ⊎ (x ≡ y))

pub adds_none : {X : Type 0} (AtHome : X → Type 0) (key_at : X → Key) (Old : X → Type 0) → AddsKeyed AtHome key_at [] Old Old
adds_none AtHome key_at Old x = (λ i. inl i, λ h. elim h [ inl i ↦ i | inr p ↦ absurd (contains_none (key_at x) p.1) ])

-- a record of no key
pub adds_quiet : {X : Type 0} (AtHome : X → Type 0) (key_at : X → Key) (r : Record) (Old : X → Type 0)
    → ((x : X) → AtHome x → key r ≢ key_at x) → AddsKeyed AtHome key_at (r ∷ []) Old Old
adds_quiet AtHome key_at r Old quiet x = (
  λ i. inl i,
  λ i. elim i [ inl o ↦ o | inr p ↦ absurd (elim (has_more [] r (key_at x) p.1) [ inl n ↦ contains_none (key_at x) n | inr e ↦ quiet x p.0 e ]) ],
)

-- a record of the key of x
pub adds_one : {X : Type 0} (AtHome : X → Type 0) (key_at : X → Key) (apart : (x y : X) → key_at x ≡ key_at y → x ≡ y) (r : Record) (Old New : X → Type 0) (x : X)
    → AtHome x → key r ≡ key_at x → Inserts x Old New → AddsKeyed AtHome key_at (r ∷ []) Old New
adds_one AtHome key_at apart r Old New x home e ins y = (
  λ i. elim ((ins y).0 i) [
    | inl o ↦ inl o
    | inr s ↦ inr (subst AtHome s home, has_last [] r (key_at y) (e ∙ ap key_at s))
  ],
  λ i. elim i [
    | inl o ↦ (ins y).1 (inl o)
    | inr p ↦ elim (has_more [] r (key_at y) p.1) [ inl n ↦ absurd (contains_none (key_at y) n) | inr f ↦ (ins y).1 (inr (apart x y (sym e ∙ f))) ]
  ],
)

adds_append : {X : Type 0} (AtHome : X → Type 0) (key_at : X → Key) (rs xs : List Record) (Old Mid New : X → Type 0)
    → AddsKeyed AtHome key_at rs Old Mid → AddsKeyed AtHome key_at xs Mid New → AddsKeyed AtHome key_at (rs ++ xs) Old New
adds_append AtHome key_at rs xs Old Mid New h g x = (
  λ i. elim ((g x).0 i) [
    | inl m ↦ elim ((h x).0 m) [ inl o ↦ inl o | inr p ↦ inr (p.0, has_left rs xs (key_at x) p.1) ]
    | inr p ↦ inr (p.0, has_right rs xs (key_at x) p.1)
  ],
  λ i. elim i [
    | inl o ↦ (g x).1 (inl ((h x).1 (inl o)))
    | inr p ↦ elim (has_cases rs xs (key_at x) p.1) [ inl q ↦ (g x).1 (inl ((h x).1 (inr (p.0, q)))) | inr q ↦ (g x).1 (inr (p.0, q)) ]
  ],
)

-- the same at the index of a loop
pub adds_step : {X : Type 0} (AtHome : X → Type 0) (key_at : X → Key) (rs : List Record) (i : ℕ) (r : Record) (Old Mid New : X → Type 0)
    → i < length rs → r ≡ get_or rs i r → AddsKeyed AtHome key_at (take i rs) Old Mid → AddsKeyed AtHome key_at (r ∷ []) Mid New → AddsKeyed AtHome key_at (take (i + 1) rs) Old New
adds_step AtHome key_at rs i r Old Mid New l at h g =
    subst (λ (z : List Record). AddsKeyed AtHome key_at z Old New) (sym (taken rs i r l at)) (adds_append AtHome key_at (take i rs) (r ∷ []) Old Mid New h g)

-- ---- a pass for each log

abbrev pub Through : {X : Type 0} → (X → ℕ) → (X → Key) → List (List Record) → ℕ → (X → Type 0) → Type 0
Through {X} number key_at logs i New = (x : X) → New x ↔ ((number x % length logs < i) × HasKey (log_of logs (number x)) (key_at x))

pub through_none : {X : Type 0} (number : X → ℕ) (key_at : X → Key) (logs : List (List Record)) (New : X → Type 0) → ((x : X) → ¬ New x) → Through number key_at logs 0 New
through_none number key_at logs New none x = (λ i. absurd (none x i), λ h. absurd (omega (arith, h.0)))

pub at_log : (logs : List (List Record)) (n i : ℕ) (rs : List Record) → i < length logs → rs ≡ get_or logs i rs → n % length logs ≡ i → log_of logs n ≡ rs
at_log logs n i rs l at e = ap (λ (z : ℕ). get_or logs z []) e ∙ get_or_default logs i [] rs l ∙ sym at

pub below_cases : (a b : ℕ) → a < b + 1 → (a < b) ⊎ (a ≡ b)
below_cases a b h = elim (cases_lt a b) [ inl l ↦ inl l | inr l ↦ inr (omega arith) ]

pub through_step : {X : Type 0} (number : X → ℕ) (key_at : X → Key) (logs : List (List Record)) (i : ℕ) (rs : List Record) (Old New : X → Type 0)
    → i < length logs → rs ≡ get_or logs i rs → AddsKeyed (λ x. number x % length logs ≡ i) key_at rs Old New → Through number key_at logs i Old → Through number key_at logs (i + 1) New
through_step number key_at logs i rs Old New l at adds h x = (
  λ n. elim ((adds x).0 n) [
    | inl o ↦ (let p = (h x).0 o in let low : number x % length logs < i = p.0 in omega arith, ((h x).0 o).1)
    | inr p ↦ (let e : number x % length logs ≡ i = p.0 in omega arith, subst (λ (z : List Record). HasKey z (key_at x)) (sym (at_log logs (number x) i rs l at p.0)) p.1)
  ],
  λ p. elim (below_cases (number x % length logs) i p.0) [
    | inl low ↦ (adds x).1 (inl ((h x).1 (low, p.1)))
    | inr e ↦ (adds x).1 (inr (e, subst (λ (z : List Record). HasKey z (key_at x)) (at_log logs (number x) i rs l at e) p.1))
  ],
)

pub through_end : {X : Type 0} (number : X → ℕ) (key_at : X → Key) (logs : List (List Record)) (i : ℕ) (New : X → Type 0) → 0 < length logs → length logs ≤ i
    → Through number key_at logs i New → (x : X) → New x ↔ HasKey (log_of logs (number x)) (key_at x)
through_end number key_at logs i New some l h x = (λ n. ((h x).0 n).1, λ p. (h x).1 (let low = mod-lt (number x) some in omega (arith, low), p))

pub told_alike : {X : Type 0} {P : X → Type 0} (old new : List X) → ((x : X) → Contains new x ↔ Contains old x) → ((x : X) → Contains old x ↔ P x) → (x : X) → Contains new x ↔ P x
told_alike old new same told x = (λ h. (told x).0 ((same x).0 h), λ h. (same x).1 ((told x).1 h))

-- ---- what a list gets

pub inserts : {X : Type 0} (x : X) (old new : List X) → new ≡ old ++ x ∷ [] → Inserts x (Contains old) (Contains new)
inserts x old new is y = (
  λ h. elim (contains_append old (x ∷ []) y (subst (λ (z : List _). Contains z y) is h)) [
    | inl o ↦ inl o
    | inr m ↦ elim (contains_cases x y [] m) [ inl e ↦ inr e | inr n ↦ absurd (contains_none y n) ]
  ],
  λ h. subst (λ (z : List _). Contains z y) (sym is) (elim h [
    | inl o ↦ contains_left old (x ∷ []) y o
    | inr e ↦ contains_right old (x ∷ []) y (subst (λ (z : _). Contains (x ∷ []) z) e (contains_here x []))
  ]),
)

-- ---- keys tell what they are of

pub commits_apart : (kind : Kind) (n m : ℕ) → commit_key kind n ≡ commit_key kind m → n ≡ m
commits_apart kinds.Batch n m e = let same : bid_at n ≡ bid_at m = cc in ap (λ (b : Bid). b.0) same
commits_apart kinds.Act n m e = let same : tid_at n ≡ tid_at m = cc in ap (λ (t : Tid). t.0) same

pub parts_apart : (kind : Kind) (x y : ℕ × ℕ) → part_key kind x ≡ part_key kind y → x ≡ y
parts_apart kinds.Batch x y e =
    let bids : bid_at x.0 ≡ bid_at y.0 = cc in
    let actors : actor_at x.1 ≡ actor_at y.1 = cc in
    λ i. ((bids i).0, (actors i).0)
parts_apart kinds.Act x y e =
    let tids : tid_at x.0 ≡ tid_at y.0 = cc in
    let actors : actor_at x.1 ≡ actor_at y.1 = cc in
    λ i. ((tids i).0, (actors i).0)

pub empty_list : {X : Type 0} (xs : List X) → xs ≡ [] → (x : X) → ¬ Contains xs x
empty_list xs e x h = contains_none x (subst (λ (z : List _). Contains z x) e h)
