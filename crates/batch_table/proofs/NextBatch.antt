-- The next batch is the one at the front.
use Rattle.std.specs.Prelude.{slice_get, nat_le}
use Rattle.std.proofs.Common.{◌≡◌, ℕ, zero, suc, ◌+◌, ◌==◌, Bool, true, false, ◌&&◌, Option, Some, None, List, [], ◌∷◌, length, refl, ap, sym, ◌∙◌, arith}
use Rattle.std.proofs.lemmas.Bool.{eqb-true, eq-eqb, and_parts, and_from, false≢true, le-leb}
use Rattle.std.proofs.lemmas.Option.{slice_get_within}
use Rattle.protocol.specs.Parts.{Batch}
use Rattle.protocol.specs.Words.{holds, batch_of, is_open, is_next_to_commit}
use Rattle.protocol.specs.Numbers.{from}
use Rattle.batch_table.specs.Askings.{is_next_open}
use Rattle.batch_table.specs.Joining.{bids_of}
use Rattle.batch_table.specs.Sound.{standings_of, IsFrontCount}
use Rattle.batch_table.proofs.ByNumber.{cons_parts, found_at_place, is_place}
use Rattle.batch_table.proofs.FrontOver.{next_at, next_is_front}

one_bool : (b c : Bool) → (b ≡ true → c ≡ true) → (c ≡ true → b ≡ true) → b ≡ c
one_bool true true f g = refl
one_bool true false f g = sym (f refl)
one_bool false true f g = g refl
one_bool false false f g = refl

bid_at : (low i : ℕ) (b : Batch) (bs : List Batch) → bids_of bs ≡ from low (length bs) → slice_get bs i ≡ Some b → b.bid ≡ low + i
bid_at low i b [] e g = absurd (cc g)
bid_at low zero b (x ∷ bs) e g =
    let same : x ≡ b = cc g in
    let parts = cons_parts x.bid low (bids_of bs) (from (low + 1) (length bs)) e in
    omega (arith, parts.0, ap (λ y. y.bid) same)
bid_at low (suc i) b (x ∷ bs) e g =
    let parts = cons_parts x.bid low (bids_of bs) (from (low + 1) (length bs)) e in
    omega (arith, bid_at (low + 1) i b bs parts.1 g)

-- who is at the front goes on where it is open
front_goes_on : (k base front : ℕ) (bs : List Batch) (o : Option Batch) → bids_of bs ≡ from (base + 1) (length bs) → IsFrontCount front (standings_of bs) → slice_get bs front ≡ o
    → holds (λ b. is_open b && (b.bid == k)) o ≡ true → is_next_open k bs ≡ true
front_goes_on k base front bs None e f g h = absurd (false≢true h)
front_goes_on k base front bs (Some b) e f g h =
    let parts = and_parts (is_open b) (b.bid == k) h in
    let number : k ≡ base + 1 + front = sym (eqb-true b.bid k parts.1) ∙ bid_at (base + 1) front b bs e g in
    next_at k base front front b bs e f (is_place k base front bs e (slice_get_within bs front b g) number) number g
    ∙ and_from (is_open b) (nat_le front front) parts.0 (le-leb front front (omega arith))

goes_on_at_front : (k base front : ℕ) (bs : List Batch) (o : Option Batch) → bids_of bs ≡ from (base + 1) (length bs) → IsFrontCount front (standings_of bs) → slice_get bs front ≡ o
    → is_next_open k bs ≡ true → holds (λ b. is_open b && (b.bid == k)) o ≡ true
goes_on_at_front k base front bs o e f g h =
    let at = next_is_front k base front bs e f h in
    by o (found_at_place k (base + 1) front bs e at.0 ∙ g) g
  where
    by : (o : Option Batch) → batch_of k bs ≡ o → slice_get bs front ≡ o → holds (λ b. is_open b && (b.bid == k)) o ≡ true
    by None q i = absurd (false≢true (ap (λ o. holds (λ b. is_open b && is_next_to_commit k bs) o) (sym q) ∙ h))
    by (Some b) q i =
        let parts = and_parts (is_open b) (is_next_to_commit k bs) (ap (λ o. holds (λ b. is_open b && is_next_to_commit k bs) o) (sym q) ∙ h) in
        and_from (is_open b) (b.bid == k) parts.0 (eq-eqb b.bid k (bid_at (base + 1) front b bs e i ∙ sym (next_is_front k base front bs e f h).0))

pub next_at_front : (k base front : ℕ) (bs : List Batch) → bids_of bs ≡ from (base + 1) (length bs) → IsFrontCount front (standings_of bs)
    → is_next_open k bs ≡ holds (λ b. is_open b && (b.bid == k)) (slice_get bs front)
next_at_front k base front bs e f =
    one_bool (is_next_open k bs) (holds (λ b. is_open b && (b.bid == k)) (slice_get bs front)) (goes_on_at_front k base front bs (slice_get bs front) e f refl) (front_goes_on k base front bs (slice_get bs front) e f refl)
