-- What is listed: batches that are going, and transactions that wait for a reply.
use Rattle.std.proofs.Common.{◌≡◌, ℕ, zero, suc, ◌+◌, ◌-◌, ◌<◌, ◌≤◌, ◌⊎◌, Bool, true, false, cond, not, ◌&&◌, ◌||◌, List, [], ◌∷◌, ◌++◌, length, take, drop, refl, ap, sym, ◌∙◌, arith, inl, inr}
use Rattle.std.specs.Prelude.{filter, slice_set, slice_index_or}
use Rattle.std.specs.List.{list_all}
use Rattle.std.proofs.lemmas.Bool.{cond-false, and_from, and_parts}
use Rattle.std.proofs.lemmas.List.{take-append-drop}
use Rattle.std.proofs.lemmas.List.Elements.{filter-append}
use Rattle.protocol.specs.Parts.{Batch}
use Rattle.protocol.specs.Words.{below, count, is_live_batch, is_settled}
use Rattle.batch_table.specs.Listed.{is_going_batch, is_unreplied, unreplied_below}
use Rattle.batch_table.specs.Sound.{standings_of, IsFrontCount}
use Rattle.batch_table.proofs.LiveCount.{count_append, count_head, count_more}
use Rattle.protocol.specs.Numbers.{one_if}

-- ---- batches

one_or_none : (b : Bool) → one_if b ≤ 0 → b ≡ false
one_or_none true h = absurd (omega arith)
one_or_none false h = refl

-- what is over and not live is not going
over_and_not_live : (aborted settled trimmed : Bool) → (aborted || settled) ≡ true → (not aborted && not trimmed) ≡ false → not (aborted || (settled && trimmed)) ≡ false
over_and_not_live true settled trimmed o l = refl
over_and_not_live false true true o l = refl
over_and_not_live false true false o l = l
over_and_not_live false false trimmed o l = sym o

pub none_going : (n front : ℕ) (bs : List Batch) → n ≤ front → IsFrontCount front (standings_of bs) → count is_live_batch (take n bs) ≤ 0 → filter is_going_batch (take n bs) ≡ []
none_going zero front bs l f c = refl
none_going (suc n) front [] l f c = refl
none_going (suc n) zero (b ∷ bs) l f c = absurd (omega arith)
none_going (suc n) (suc front) (b ∷ bs) l f c =
    let head = count_head is_live_batch b (take n bs) in
    let dead : is_live_batch b ≡ false = one_or_none (is_live_batch b) (omega (arith, head)) in
    cond-false (is_going_batch b) _ _ (over_and_not_live b.aborted (is_settled b.stage) (list_all (λ p. p.trimmed) b.places) f.0 dead)
    ∙ none_going n front bs (omega arith) f.1 (omega (arith, head))

-- those from a place on have all live ones, so those before it have none
pub none_live_before : (n : ℕ) (bs : List Batch) (found live : ℕ) → live ≡ count is_live_batch bs → found ≡ count is_live_batch (drop n bs) → live ≤ found → count is_live_batch (take n bs) ≤ 0
none_live_before n bs found live e f l =
    omega (arith, count_append is_live_batch (take n bs) (drop n bs), ap (count is_live_batch) (take-append-drop n bs))

-- where some live ones are not counted, some batches are left
pub some_left : (first front found live : ℕ) (bs : List Batch) → live ≡ count is_live_batch bs → found ≡ count is_live_batch (drop first bs) → (front < first) ⊎ (found < live) → 1 ≤ first
some_left zero front found live bs e f (inl l) = absurd (omega arith)
some_left zero front found live bs e f (inr l) = absurd (omega (arith, e, f, l))
some_left (suc first) front found live bs e f h = omega arith

-- so many are counted with the one before, no more than there are
pub counted_before : (first : ℕ) (bs : List Batch) (d : Batch) → 1 ≤ first → first ≤ length bs → count is_live_batch (drop first bs) + one_if (is_live_batch (slice_index_or bs (first - 1) d)) ≤ count is_live_batch bs
counted_before first bs d some within =
    let i = first - 1 in
    let next : i + 1 ≡ first = omega (arith, some) in
    omega (
      arith,
      count_more is_live_batch bs i d (omega (arith, some, within)),
      ap (λ k. count is_live_batch (drop k bs)) next,
      count_append is_live_batch (take i bs) (drop i bs),
      ap (count is_live_batch) (take-append-drop i bs),
    )

-- ---- replies

pub replied_set : (marks : List Bool) (i n : ℕ) → list_all (λ m. m) (take n marks) ≡ true → list_all (λ m. m) (take n (slice_set marks i true)) ≡ true
replied_set [] i n h = h
replied_set (m ∷ marks) i zero h = refl
replied_set (m ∷ marks) zero (suc n) h = (and_parts m (list_all (λ m. m) (take n marks)) h).1
replied_set (m ∷ marks) (suc i) (suc n) h =
    let parts = and_parts m (list_all (λ m. m) (take n marks)) h in
    and_from m (list_all (λ m. m) (take n (slice_set marks i true))) parts.0 (replied_set marks i n parts.1)

replied_at : (marks : List Bool) (n k : ℕ) → n < k → list_all (λ m. m) (take k marks) ≡ true → is_unreplied marks n ≡ false
replied_at [] n k l h = refl
replied_at (m ∷ marks) n zero l h = absurd (omega arith)
replied_at (m ∷ marks) zero (suc k) l h = ap not (and_parts m (list_all (λ m. m) (take k marks)) h).0
replied_at (m ∷ marks) (suc n) (suc k) l h = replied_at marks n k (omega arith) (and_parts m (list_all (λ m. m) (take k marks)) h).1

pub none_unreplied : (n k : ℕ) (marks : List Bool) → n ≤ k → list_all (λ m. m) (take k marks) ≡ true → unreplied_below n marks ≡ []
none_unreplied zero k marks l h = refl
none_unreplied (suc n) k marks l h =
    filter-append (is_unreplied marks) (below n) (n ∷ [])
    ∙ (λ j. none_unreplied n k marks (omega arith) h j ++ cond-false (is_unreplied marks n) (n ∷ []) [] (replied_at marks n k (omega arith) h) j)

pub unreplied_more : (n : ℕ) (marks : List Bool) → unreplied_below (n + 1) marks ≡ unreplied_below n marks ++ cond (is_unreplied marks n) (n ∷ []) []
unreplied_more n marks =
    let next : n + 1 ≡ suc n = omega arith in
    ap (λ k. unreplied_below k marks) next ∙ filter-append (is_unreplied marks) (below n) (n ∷ [])
