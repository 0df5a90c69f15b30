-- That nothing is lacking, asked of one batch or ACT after the other in the order of their numbers.
use Rattle.std.proofs.Common.{◌≡◌, ℕ, ◌+◌, ◌%◌, ◌<◌, ◌≤◌, inl, inr, Option, None, Result, Ok, Err, MatchResult, List, [], ◌∷◌, ◌++◌, length, take, get_or, refl, sym, ap, subst, ◌∙◌, arith}
use Rattle.std.proofs.lemmas.Bool.{cases_lt}
use Rattle.std.proofs.lemmas.List.{get_or-take, length-take, get_or_default}
use Rattle.std.proofs.lemmas.Map.Keys.{below_from_sorted}
use Rattle.std.specs.List.{AllByRecursion, Contains}
use Rattle.std.specs.List.Sorted.{IsStrictlySortedBy}
use Rattle.std.specs.Ordering.{nat_cmp}
use Rattle.snap_base.specs.declared.ids.ActorId.{ActorId}
use Rattle.snap_base.specs.declared.ids.Bid.{Bid}
use Rattle.snap_base.proofs.Lists.{weaker}
use Rattle.txn_records.specs.declared.records.Record.{Record}
use Rattle.txn_records.specs.declared.keys.Key.TheVariants as keys
use Rattle.snap_recover.specs.declared.kinds.Kind.{Kind}
use Rattle.snap_recover.specs.declared.kinds.Kind.TheVariants as kinds
use Rattle.snap_recover.specs.declared.refusals.RecoverNo.{RecoverNo}
use Rattle.snap_recover.specs.declared.refusals.RecoverNo.TheVariants.{NoGenesis, TwoGenesis, LogCount, Range, Missing, Values, Memory}
use Rattle.snap_recover.specs.Logs.{HasKey, log_of}
use Rattle.snap_recover.specs.Opening.{IsInfoOf, HasCompleted, IsActOf, HasPrepared}
use Rattle.snap_recover.specs.Passes.{bid_at, tid_at, InPair, commit_key, part_key, info_key, HasCommitted, HasAllParts, IsLastPlaced, TellsActors, MemberWhole, MemberLacks, IsLackOf, IsFirstLackOfKind, IsFirstLackOf, AllWhole, IsAllWhole, HasIn}
use Rattle.snap_recover.proofs.Lists.{all_contains, contains_here, contains_there}
use Rattle.snap_recover.proofs.Homes.{at_log}
use Rattle.snap_recover.proofs.Placing.{placed_some}
use Rattle.snap_recover.proofs.Steps.{all_step, all_end}

-- ---- one of them

pub lacks_info : (kind : Kind) (logs : List (List Record)) (n : ℕ) (now : Option ℕ) → now ≡ None → IsLastPlaced (info_key kind n) (log_of logs n) None now → HasKey (log_of logs n) (commit_key kind n)
    → MemberLacks kind logs n (info_key kind n) (n % length logs)
lacks_info kinds.Batch logs n now e p i = inl (refl, refl, λ h. placed_some (keys.Info (bid_at n)) (log_of logs n) now e p h)
lacks_info kinds.Act logs n now e p i = absurd (placed_some (keys.Act (tid_at n)) (log_of logs n) now e p i)

pub told_in_log : (kind : Kind) (logs : List (List Record)) (n i : ℕ) (rs : List Record) (actors : List ActorId) → i < length logs → rs ≡ get_or logs i rs → n % length logs ≡ i
    → TellsActors kind n rs actors → TellsActors kind n (log_of logs n) actors
told_in_log kind logs n i rs actors l at e h = subst (λ (z : List Record). TellsActors kind n z actors) (sym (at_log logs n i rs l at e)) h

abbrev pub FirstLacking : List (ℕ × ℕ) → ℕ → List ActorId → ActorId → Type 0
FirstLacking set n actors a =
    (front behind : List ActorId) × (actors ≡ front ++ a ∷ behind) × AllByRecursion (λ (b : ActorId). InPair set (n, b.0)) front × ¬ InPair set (n, a.0)

pub lacks_part : (kind : Kind) (logs : List (List Record)) (n : ℕ) (actors : List ActorId) (set : List (ℕ × ℕ)) (a : ActorId) → TellsActors kind n (log_of logs n) actors → HasAllParts kind logs set
    → FirstLacking set n actors a → MemberLacks kind logs n (part_key kind (n, a.0)) (a.0 % length logs)
lacks_part kinds.Batch logs n actors set a (tids, info) has (front, behind, is, all, out) =
    inr (
      front,
      behind,
      a,
      tids,
      subst (λ (z : List ActorId). IsInfoOf logs (bid_at n) z tids) is info,
      weaker (λ (b : ActorId). InPair set (n, b.0)) (HasCompleted logs (bid_at n)) front (λ b h. (has.all (n, b.0)).0 h) all,
      refl,
      refl,
      λ h. out ((has.all (n, a.0)).1 h),
    )
lacks_part kinds.Act logs n actors set a (m, c, v, act) has (front, behind, is, all, out) = (
  front,
  behind,
  a,
  m,
  c,
  v,
  subst (λ (z : List ActorId). IsActOf logs (tid_at n) m c v z) is act,
  weaker (λ (b : ActorId). InPair set (n, b.0)) (HasPrepared logs (tid_at n)) front (λ b h. (has.all (n, b.0)).0 h) all,
  refl,
  refl,
  λ h. out ((has.all (n, a.0)).1 h),
)

pub member_whole : (kind : Kind) (logs : List (List Record)) (n : ℕ) (actors : List ActorId) (set : List (ℕ × ℕ)) → TellsActors kind n (log_of logs n) actors → HasAllParts kind logs set
    → AllByRecursion (λ (b : ActorId). InPair set (n, b.0)) actors → MemberWhole kind logs n
member_whole kinds.Batch logs n actors set (tids, info) has all =
    (actors, tids, info, weaker (λ (b : ActorId). InPair set (n, b.0)) (HasCompleted logs (bid_at n)) actors (λ b h. (has.all (n, b.0)).0 h) all)
member_whole kinds.Act logs n actors set (m, c, v, act) has all =
    (m, c, v, actors, act, weaker (λ (b : ActorId). InPair set (n, b.0)) (HasPrepared logs (tid_at n)) actors (λ b h. (has.all (n, b.0)).0 h) all)

-- ---- the numbers of those that are in

-- the numbers are those of all that are in, ascending
pub record AreNumbers (kind : Kind) (logs : List (List Record)) (numbers : List ℕ) : Type 0 where
  pub ascend : IsStrictlySortedBy nat_cmp numbers
  pub are_in : (n : ℕ) → Contains numbers n → HasKey (log_of logs n) (commit_key kind n)
  pub all : (n : ℕ) → HasKey (log_of logs n) (commit_key kind n) → Contains numbers n

pub are_numbers : (kind : Kind) (logs : List (List Record)) (numbers : List ℕ) → HasCommitted kind logs numbers → AreNumbers kind logs numbers
are_numbers kind logs numbers has = record { ascend = has.ascend; are_in = λ n h. (has.all n).0 h; all = λ n h. (has.all n).1 h }

all_of_contained : {X : Type 0} (P : X → Type 0) (xs : List X) → ((x : X) → Contains xs x → P x) → AllByRecursion P xs
all_of_contained P [] f = tt
all_of_contained P (x ∷ xs) f = (f x (contains_here x xs), all_of_contained P xs (λ y m. f y (contains_there x y xs m)))

pub numbers_in : (kind : Kind) (logs : List (List Record)) (numbers : List ℕ) → AreNumbers kind logs numbers → HasIn kind logs numbers
numbers_in kind logs numbers are = all_of_contained (λ n. HasKey (log_of logs n) (commit_key kind n)) numbers are.are_in

-- ---- so many of them

abbrev pub WholeThrough : Kind → List (List Record) → List ℕ → ℕ → Type 0
WholeThrough kind logs numbers i = AllByRecursion (MemberWhole kind logs) (take i numbers)

-- all that are in with a smaller number have the property
pub below_all : (P : ℕ → Type 0) (kind : Kind) (logs : List (List Record)) (numbers : List ℕ) (i n : ℕ) → i < length numbers → n ≡ get_or numbers i n → AreNumbers kind logs numbers → AllByRecursion P (take i numbers)
    → (b : ℕ) → b < n → HasKey (log_of logs b) (commit_key kind b) → P b
below_all P kind logs numbers i n l at are h b low is_in =
    let p = are.all b is_in in
    let j : ℕ = p.0 in
    let here : get_or numbers j b ≡ b = p.2 in
    elim (cases_lt j i) [
      | inl less ↦
          let there : get_or (take i numbers) j b ≡ b = get_or-take i numbers j b less ∙ here in
          all_contains P (take i numbers) b h (j, omega (arith, length-take i numbers, p.1, less), there)
      | inr high ↦
          let at0 : get_or numbers i b ≡ n = get_or_default numbers i b n l ∙ sym at in
          elim (cases_lt i j) [
            | inl later ↦ absurd (let up = below_from_sorted numbers i j b are.ascend later p.1 in omega (arith, up, at0, here, low))
            | inr same ↦ absurd (let e : j ≡ i = omega arith in let e2 = ap (λ (z : ℕ). get_or numbers z b) e in omega (arith, e2, at0, here, low))
          ]
    ]

below_whole : (kind : Kind) (logs : List (List Record)) (numbers : List ℕ) (i n : ℕ) → i < length numbers → n ≡ get_or numbers i n → AreNumbers kind logs numbers → WholeThrough kind logs numbers i
    → (b : ℕ) → b < n → HasKey (log_of logs b) (commit_key kind b) → MemberWhole kind logs b
below_whole kind logs numbers i n l at are h b low is_in = below_all (MemberWhole kind logs) kind logs numbers i n l at are h b low is_in

first_lack : (kind : Kind) (logs : List (List Record)) (n : ℕ) (no : RecoverNo) → HasKey (log_of logs n) (commit_key kind n) → ((b : ℕ) → b < n → HasKey (log_of logs b) (commit_key kind b) → MemberWhole kind logs b)
    → IsLackOf kind logs n no → IsFirstLackOfKind kind logs no
first_lack kind logs n NoGenesis i low h = h
first_lack kind logs n TwoGenesis i low h = h
first_lack kind logs n (LogCount c f) i low h = h
first_lack kind logs n (Range k l) i low h = h
first_lack kinds.Batch logs n (Missing k l) i low h = (bid_at n, i, λ b. low b.0, h)
first_lack kinds.Act logs n (Missing k l) i low h = (tid_at n, i, λ t. low t.0, h)
first_lack kind logs n (Values k l u v) i low h = h
first_lack kind logs n Memory i low h = tt

pub check_refused : (kind : Kind) (logs : List (List Record)) (numbers : List ℕ) (i n : ℕ) (answer : RecoverNo) → i < length numbers → n ≡ get_or numbers i n → AreNumbers kind logs numbers → WholeThrough kind logs numbers i
    → IsLackOf kind logs n answer → IsFirstLackOfKind kind logs answer
check_refused kind logs numbers i n answer l at are h lack = first_lack kind logs n answer (are.are_in n (i, l, sym at)) (below_whole kind logs numbers i n l at are h) lack

pub number_in : (kind : Kind) (logs : List (List Record)) (numbers : List ℕ) (i n : ℕ) → i < length numbers → n ≡ get_or numbers i n → AreNumbers kind logs numbers → HasKey (log_of logs n) (commit_key kind n)
number_in kind logs numbers i n l at are = are.are_in n (i, l, sym at)

pub check_step : (kind : Kind) (logs : List (List Record)) (numbers : List ℕ) (i n : ℕ) → i < length numbers → n ≡ get_or numbers i n → MemberWhole kind logs n → WholeThrough kind logs numbers i → WholeThrough kind logs numbers (i + 1)
check_step kind logs numbers i n l at w h = all_step (MemberWhole kind logs) numbers i n l at h w

pub check_end : (kind : Kind) (logs : List (List Record)) (numbers : List ℕ) (i : ℕ) → length numbers ≤ i → AreNumbers kind logs numbers → WholeThrough kind logs numbers i → AllWhole kind logs
check_end kind logs numbers i l are h n p = all_contains (MemberWhole kind logs) numbers n (all_end (MemberWhole kind logs) numbers i l h) (are.all n p)

-- ---- both kinds

pub batch_lack : (logs : List (List Record)) (no : RecoverNo) → IsFirstLackOfKind kinds.Batch logs no → IsFirstLackOf logs no
batch_lack logs NoGenesis h = h
batch_lack logs TwoGenesis h = h
batch_lack logs (LogCount c f) h = h
batch_lack logs (Range k l) h = h
batch_lack logs (Missing k l) h = inl h
batch_lack logs (Values k l u v) h = h
batch_lack logs Memory h = tt

act_lack : (logs : List (List Record)) (no : RecoverNo) → AllWhole kinds.Batch logs → IsFirstLackOfKind kinds.Act logs no → IsFirstLackOf logs no
act_lack logs NoGenesis w h = h
act_lack logs TwoGenesis w h = h
act_lack logs (LogCount c f) w h = h
act_lack logs (Range k l) w h = h
act_lack logs (Missing k l) w h = inr (λ (b : Bid) i. w b.0 i, h)
act_lack logs (Values k l u v) w h = h
act_lack logs Memory w h = tt

pub all_whole_or_lack : (logs : List (List Record)) (r : Result (Unit {0}) RecoverNo) → AllWhole kinds.Batch logs → MatchResult r (λ t. AllWhole kinds.Act logs) (λ no. IsFirstLackOfKind kinds.Act logs no)
    → MatchResult r (λ t. IsAllWhole logs) (λ no. IsFirstLackOf logs no)
all_whole_or_lack logs (Ok t) w h = record { batches = λ b i. w b.0 i; acts = λ t i. h t.0 i }
all_whole_or_lack logs (Err answer) w h = act_lack logs answer w h
