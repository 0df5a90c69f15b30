-- What the desk keeps beside what contracts see, after each change of the batches.
use Rattle.std.proofs.Common.{◌≡◌, ℕ, zero, suc, ◌+◌, ◌-◌, ◌<◌, ◌≤◌, ◌==◌, Bool, true, false, not, ◌&&◌, inl, inr, List, [], ◌∷◌, ◌++◌, length, map, take, drop, refl, ap, sym, ◌∙◌, subst, arith, add-one, add-zero}
use Rattle.std.specs.Prelude.{slice_index_or}
use Rattle.std.specs.List.{AllByRecursion}
use Rattle.std.specs.Global.{Vec}
use Rattle.std.proofs.lemmas.Bool.{cond_both, and_parts, false≢true, cases_lt, not-true}
use Rattle.std.proofs.lemmas.List.{length-map, length_push, map_push, with_items_is}
use Rattle.std.proofs.lemmas.Option.{slice_get-get_or}
use Rattle.snap_base.specs.declared.transactions.TxResult.{TxResult}
use Rattle.protocol.specs.Parts as stages
use Rattle.protocol.specs.Parts.{Pact, Batch}
use Rattle.protocol.specs.Words.{holds, count, is_live_batch, is_settled, batch_of, declared_of, is_open, is_formed}
use Rattle.protocol.specs.OnDesk.{change_if, changed_batch, marked, is_noted, is_trimmed, with_stage, taken, with_result, with_results}
use Rattle.protocol.specs.Numbers.{from, flat, one_if}
use Rattle.batch_table.specs.declared.spots.Spot.{Spot}
use Rattle.batch_table.specs.Askings.{is_next_open, may_commit, has_ended_well, is_noted_everywhere, awaits_settling, awaits_trim}
use Rattle.batch_table.specs.Joining.{bids_of, pact_tids, batch_tids, pact_txs, batch_txs, first_number, first_or_zero, AreConsecutive, AllTidsBelow, AllTxsBelow, EachTxOnce}
use Rattle.batch_table.specs.Places.{IsPlaceOfBatch, gone, is_live_with_trim}
use Rattle.batch_table.specs.Sound.{TidsAscend, IsFrontCount, IsOpen, batch_standing, standings_of, IsSoundDesk}
use Rattle.batch_table.specs.Spots.{with_spots, AreSpotted}
use Rattle.batch_table.proofs.ByNumber.{cons_parts, cons_same, no_batch, is_place, nowhere_below, nowhere_above, changed_at_place}
use Rattle.batch_table.proofs.BySpot.{length_written, written, spotted_joined}
use Rattle.batch_table.proofs.FrontOver.{next_is_front, settling_is_front, front_joined, front_committing, front_settled, front_taken, taken_split}
use Rattle.batch_table.proofs.LiveCount.{count_joined, count_set, count_same, live_split, noted_live, untrimmed_live}

-- ---- what a slice of a vector's items was changed into

pub same_items : {X : Type 0} (v : Vec X) (ws : List X) → length ws ≡ length v.items → take v.len (ws ++ drop (length ws) v.items) ≡ ws
same_items v ws e = with_items_is v ws (omega (arith, e, v.ok.0))

pub sound_in : (v : Vec Batch) (ws : List Batch) (base settled : ℕ) (replied : List Bool) (spots : List Spot) (live front : ℕ)
    → length ws ≡ length v.items → IsSoundDesk base ws settled replied spots live front → IsSoundDesk base (take v.len (ws ++ drop (length ws) v.items)) settled replied spots live front
sound_in v ws base settled replied spots live front e s = subst (λ z. IsSoundDesk base z settled replied spots live front) (sym (same_items v ws e)) s

-- ---- changes that leave numbers, tids and transactions

pub record KeepsShape (f : Batch → Batch) : Type 0 where
  pub bid : (b : Batch) → (f b).bid ≡ b.bid
  pub tids : (b : Batch) → pact_tids (f b).pacts ≡ pact_tids b.pacts
  pub txs : (b : Batch) → pact_txs (f b).pacts ≡ pact_txs b.pacts

mapped : {X Y : Type 0} (g : X → Y) (f : X → X) → ((x : X) → g (f x) ≡ g x) → (xs : List X) → map g (map f xs) ≡ map g xs
mapped g f same [] = refl
mapped g f same (x ∷ xs) = cons_same (g (f x)) (g x) (map g (map f xs)) (map g xs) (same x) (mapped g f same xs)

change_keeps : {Y : Type 0} (h : Batch → Y) (g : Batch → Batch) (c : Bool) (b : Batch) → h (g b) ≡ h b → h (change_if c g b) ≡ h b
change_keeps h g true b e = e
change_keeps h g false b e = refl

changed_keeps : (k : ℕ) (g : Batch → Batch) → KeepsShape g → KeepsShape (λ b. change_if (b.bid == k) g b)
changed_keeps k g s = record {
  bid = λ b. change_keeps (λ x. x.bid) g (b.bid == k) b (s.bid b);
  tids = λ b. change_keeps (λ x. pact_tids x.pacts) g (b.bid == k) b (s.tids b);
  txs = λ b. change_keeps (λ x. pact_txs x.pacts) g (b.bid == k) b (s.txs b);
}

nil_of_mapped : {X Y : Type 0} (f : X → Y) (xs : List X) → map f xs ≡ [] → xs ≡ []
nil_of_mapped f [] e = refl
nil_of_mapped f (x ∷ xs) e = cc

sound_mapped : (f : Batch → Batch) (base : ℕ) (bs ws : List Batch) (settled settled' : ℕ) (replied : List Bool) (spots : List Spot) (live live' front front' : ℕ)
    → IsSoundDesk base bs settled replied spots live front → KeepsShape f → ws ≡ map f bs → (bs ≡ [] → settled' ≡ base) → live' ≡ count is_live_batch ws → IsFrontCount front' (standings_of ws)
    → IsSoundDesk base ws settled' replied spots live' front'
sound_mapped f base bs ws settled settled' replied spots live live' front front' s k e begun counted parted = record {
  numbered = ap bids_of e ∙ (mapped (λ b. b.bid) f k.bid bs ∙ (s.numbered ∙ ap (λ n. from (base + 1) n) (sym (ap length e ∙ length-map bs f))));
  begun = λ n. begun (nil_of_mapped f bs (sym e ∙ n));
  ascending = subst (λ z. TidsAscend 0 z) (sym (ap batch_tids e ∙ mapped (λ b. pact_tids b.pacts) f k.tids bs)) s.ascending;
  spotted = subst (λ z. AreSpotted 0 spots z) (sym (ap batch_txs e ∙ mapped (λ b. pact_txs b.pacts) f k.txs bs)) s.spotted;
  room = s.room;
  counted = counted;
  parted = parted;
}

-- ---- a result, and a note

ended_tids : (t : ℕ) (r : TxResult) (b : Batch) → pact_tids (with_results t r b).pacts ≡ pact_tids b.pacts
ended_tids t r b = cond_both b.aborted b.pacts (map (with_result t r) b.pacts) (λ x. pact_tids x ≡ pact_tids b.pacts) (λ e. refl) (λ e. mapped (λ p. p.tid) (with_result t r) (λ p. refl) b.pacts)

ended_txs : (t : ℕ) (r : TxResult) (b : Batch) → pact_txs (with_results t r b).pacts ≡ pact_txs b.pacts
ended_txs t r b = cond_both b.aborted b.pacts (map (with_result t r) b.pacts) (λ x. pact_txs x ≡ pact_txs b.pacts) (λ e. refl) (λ e. mapped (λ p. p.tx) (with_result t r) (λ p. refl) b.pacts)

pub ended_sound : (t : ℕ) (r : TxResult) (base : ℕ) (bs ws : List Batch) (settled : ℕ) (replied : List Bool) (spots : List Spot) (live front : ℕ)
    → IsSoundDesk base bs settled replied spots live front → ws ≡ map (with_results t r) bs → IsSoundDesk base ws settled replied spots live front
ended_sound t r base bs ws settled replied spots live front s e =
    sound_mapped (with_results t r) base bs ws settled settled replied spots live live front front s
    (record { bid = λ b. refl; tids = ended_tids t r; txs = ended_txs t r }) e s.begun
    (s.counted ∙ sym (ap (λ z. count is_live_batch z) e ∙ count_same is_live_batch (with_results t r) (λ b. refl) bs))
    (subst (λ z. IsFrontCount front z) (sym (ap standings_of e ∙ mapped batch_standing (with_results t r) (λ b. refl) bs)) s.parted)

pub noted_sound : (k a base : ℕ) (bs ws : List Batch) (settled : ℕ) (replied : List Bool) (spots : List Spot) (live front : ℕ)
    → IsSoundDesk base bs settled replied spots live front → ws ≡ changed_batch k (marked a is_noted) bs → IsSoundDesk base ws settled replied spots live front
noted_sound k a base bs ws settled replied spots live front s e =
    let f : Batch → Batch = λ b. change_if (b.bid == k) (marked a is_noted) b in
    sound_mapped f base bs ws settled settled replied spots live live front front s
    (changed_keeps k (marked a is_noted) (record { bid = λ b. refl; tids = λ b. refl; txs = λ b. refl })) e s.begun
    (s.counted ∙ sym (ap (λ z. count is_live_batch z) e ∙ count_same is_live_batch f (λ b. change_keeps is_live_batch (marked a is_noted) (b.bid == k) b (noted_live a b)) bs))
    (subst (λ z. IsFrontCount front z) (sym (ap standings_of e ∙ mapped batch_standing f (λ b. change_keeps batch_standing (marked a is_noted) (b.bid == k) b refl) bs)) s.parted)

-- ---- a batch goes on

stage_keeps : (st : stages.Stage) → KeepsShape (with_stage st)
stage_keeps st = record { bid = λ b. refl; tids = λ b. refl; txs = λ b. refl }

stage_counted : (k : ℕ) (st : stages.Stage) (bs : List Batch) → count is_live_batch (changed_batch k (with_stage st) bs) ≡ count is_live_batch bs
stage_counted k st bs = count_same is_live_batch (λ b. change_if (b.bid == k) (with_stage st) b) (λ b. change_keeps is_live_batch (with_stage st) (b.bid == k) b refl) bs

pub committing_sound : (k base : ℕ) (bs ws : List Batch) (settled : ℕ) (replied : List Bool) (spots : List Spot) (live front : ℕ)
    → IsSoundDesk base bs settled replied spots live front → may_commit k bs ≡ true → ws ≡ changed_batch k (with_stage stages.Committing) bs → IsSoundDesk base ws settled replied spots live front
committing_sound k base bs ws settled replied spots live front s h e =
    let at = next_is_front k base front bs s.numbered s.parted (and_parts (is_next_open k bs) (has_ended_well k bs && is_noted_everywhere k bs) h).0 in
    sound_mapped (λ b. change_if (b.bid == k) (with_stage stages.Committing) b) base bs ws settled settled replied spots live live front front s
    (changed_keeps k (with_stage stages.Committing) (stage_keeps stages.Committing)) e s.begun
    (s.counted ∙ sym (ap (λ z. count is_live_batch z) e ∙ stage_counted k stages.Committing bs))
    (subst (λ z. IsFrontCount front (standings_of z)) (sym (e ∙ changed_at_place (with_stage stages.Committing) no_batch k (base + 1) front bs s.numbered at.0))
    (front_committing front no_batch bs at.1 s.parted))

pub settled_sound : (k base : ℕ) (bs ws : List Batch) (settled : ℕ) (replied : List Bool) (spots : List Spot) (live front : ℕ)
    → IsSoundDesk base bs settled replied spots live front → awaits_settling k bs ≡ true → ws ≡ changed_batch k (with_stage stages.Settled) bs → IsSoundDesk base ws k replied spots live (front + 1)
settled_sound k base bs ws settled replied spots live front s h e =
    let at = settling_is_front k base front bs s.numbered s.parted h in
    sound_mapped (λ b. change_if (b.bid == k) (with_stage stages.Settled) b) base bs ws settled k replied spots live live front (front + 1) s
    (changed_keeps k (with_stage stages.Settled) (stage_keeps stages.Settled)) e (λ n. absurd (omega (arith, at.1, ap length n)))
    (s.counted ∙ sym (ap (λ z. count is_live_batch z) e ∙ stage_counted k stages.Settled bs))
    (subst (λ n. IsFrontCount n (standings_of ws)) (sym (add-one front))
    (subst (λ z. IsFrontCount (suc front) (standings_of z)) (sym (e ∙ changed_at_place (with_stage stages.Settled) no_batch k (base + 1) front bs s.numbered at.0))
    (front_settled front no_batch bs at.1 s.parted)))

-- ---- the rest is taken along

pub taken_from_front : (k base front : ℕ) (bs ws : List Batch) → bids_of bs ≡ from (base + 1) (length bs) → IsFrontCount front (standings_of bs) → is_next_open k bs ≡ true → ws ≡ take front bs ++ map gone (drop front bs) → ws ≡ map (taken k) bs
taken_from_front k base front bs ws numbered parted h e =
    e ∙ sym (taken_split k (base + 1) front bs numbered (next_is_front k base front bs numbered parted h).0)

pub aborted_sound : (k base : ℕ) (bs ws : List Batch) (settled : ℕ) (replied : List Bool) (spots : List Spot) (live live' front front' : ℕ)
    → IsSoundDesk base bs settled replied spots live front → is_next_open k bs ≡ true → ws ≡ take front bs ++ map gone (drop front bs) → live' + count is_live_batch (drop front bs) ≡ live → front' ≡ length bs
    → IsSoundDesk base ws settled replied spots live' front'
aborted_sound k base bs ws settled replied spots live live' front front' s h e counted ends =
    let at = next_is_front k base front bs s.numbered s.parted h in
    let all = taken_from_front k base front bs ws s.numbered s.parted h e in
    sound_mapped (taken k) base bs ws settled settled replied spots live live' front front' s
    (record { bid = λ b. refl; tids = λ b. refl; txs = λ b. refl }) all s.begun
    (omega (arith, counted, s.counted, ap (λ z. count is_live_batch z) e, live_split front bs))
    (subst (λ n. IsFrontCount n (standings_of ws)) (sym ends) (subst (λ z. IsFrontCount (length bs) (standings_of z)) (sym all) (front_taken k base front bs s.numbered s.parted at.0)))

-- ---- a settled batch leaves an actor

place_of_held : (test : Batch → Bool) (k base : ℕ) (bs : List Batch) → bids_of bs ≡ from (base + 1) (length bs) → holds test (batch_of k bs) ≡ true → (i : ℕ) × IsPlaceOfBatch k i bs
place_of_held test k base bs numbered h =
    elim (cases_lt base k) [
      | inl above ↦ elim (cases_lt (k - base - 1) (length bs)) [
        | inl within ↦ (k - base - 1, is_place k base (k - base - 1) bs numbered within (omega arith))
        | inr past ↦ absurd (false≢true (ap (λ o. holds test o) (sym (nowhere_above k base (k - base - 1) bs numbered past (omega arith)).missing) ∙ h))
      ]
      | inr below ↦ absurd (false≢true (ap (λ o. holds test o) (sym (nowhere_below k base bs numbered below).missing) ∙ h))
    ]

held_at : (test : Batch → Bool) (k i : ℕ) (bs : List Batch) → IsPlaceOfBatch k i bs → holds test (batch_of k bs) ≡ test (slice_index_or bs i no_batch)
held_at test k i bs p = ap (λ o. holds test o) (p.found ∙ slice_get-get_or bs i no_batch p.within)

trim_parts : (a : ℕ) (b : Batch) → (is_settled b.stage && (not b.aborted && holds (λ p. not p.trimmed) (declared_of a b))) ≡ true → is_live_batch b ≡ true
trim_parts a b h =
    let both = and_parts (not b.aborted) (holds (λ p. not p.trimmed) (declared_of a b)) (and_parts (is_settled b.stage) (not b.aborted && holds (λ p. not p.trimmed) (declared_of a b)) h).1 in
    untrimmed_live a b (not-true b.aborted both.0) both.1

pub trim_counted : (k a base : ℕ) (bs : List Batch) → bids_of bs ≡ from (base + 1) (length bs) → awaits_trim k a bs ≡ true
    → count is_live_batch (changed_batch k (marked a is_trimmed) bs) + 1 ≡ count is_live_batch bs + one_if (is_live_with_trim k a bs)
trim_counted k a base bs numbered h =
    let held = place_of_held (λ b. is_settled b.stage && (not b.aborted && holds (λ p. not p.trimmed) (declared_of a b))) k base bs numbered h in
    let i = held.0 in
    let b = slice_index_or bs i no_batch in
    let live : is_live_batch b ≡ true = trim_parts a b (sym (held_at (λ b. is_settled b.stage && (not b.aborted && holds (λ p. not p.trimmed) (declared_of a b))) k i bs held.1) ∙ h) in
    let after = held_at (λ b. is_live_batch (marked a is_trimmed b)) k i bs held.1 in
    omega (arith, ap (λ z. count is_live_batch z) (held.1.changed (marked a is_trimmed) no_batch), count_set is_live_batch bs i (marked a is_trimmed b) no_batch held.1.within, ap one_if live, ap one_if after)

pub trimmed_sound : (k a base : ℕ) (bs ws : List Batch) (settled : ℕ) (replied : List Bool) (spots : List Spot) (live live' front : ℕ)
    → IsSoundDesk base bs settled replied spots live front → awaits_trim k a bs ≡ true → ws ≡ changed_batch k (marked a is_trimmed) bs → live' + 1 ≡ live + one_if (is_live_with_trim k a bs)
    → IsSoundDesk base ws settled replied spots live' front
trimmed_sound k a base bs ws settled replied spots live live' front s h e counted =
    let f : Batch → Batch = λ b. change_if (b.bid == k) (marked a is_trimmed) b in
    sound_mapped f base bs ws settled settled replied spots live live' front front s
    (changed_keeps k (marked a is_trimmed) (record { bid = λ b. refl; tids = λ b. refl; txs = λ b. refl })) e s.begun
    (omega (arith, counted, s.counted, ap (λ z. count is_live_batch z) e, trim_counted k a base bs s.numbered h))
    (subst (λ z. IsFrontCount front z) (sym (ap standings_of e ∙ mapped batch_standing f (λ b. change_keeps batch_standing (marked a is_trimmed) (b.bid == k) b refl) bs)) s.parted)

-- ---- a batch joins

from_joined : (low n k : ℕ) → k ≡ low + n → from low n ++ k ∷ [] ≡ from low (suc n)
from_joined low zero k e = ap (λ x. x ∷ []) (e ∙ add-zero low)
from_joined low (suc n) k e = ap (λ z. low ∷ z) (from_joined (low + 1) n k (omega arith))

first_is : (base settled : ℕ) (bs : List Batch) → bids_of bs ≡ from (base + 1) (length bs) → (bs ≡ [] → settled ≡ base) → first_number settled bs ≡ base + 1
first_is base settled [] e begun = ap (λ x. x + 1) (begun refl)
first_is base settled (b ∷ bs) e begun = (cons_parts b.bid (base + 1) (bids_of bs) (from (base + 1 + 1) (length bs)) e).0

numbers_joined : (base settled : ℕ) (b : Batch) (bs : List Batch) → bids_of bs ≡ from (base + 1) (length bs) → (bs ≡ [] → settled ≡ base) → b.bid ≡ first_number settled bs + length bs
    → bids_of (bs ++ b ∷ []) ≡ from (base + 1) (length (bs ++ b ∷ []))
numbers_joined base settled b bs e begun next =
    map_push (λ b. b.bid) bs b ∙ (ap (λ z. z ++ b.bid ∷ []) e
    ∙ (from_joined (base + 1) (length bs) b.bid (omega (arith, next, first_is base settled bs e begun))
    ∙ ap (λ n. from (base + 1) n) (sym (length_push bs b ∙ add-one (length bs)))))

-- numbers one after another that are all below another one end there
ends_below : (h n t : ℕ) → AllByRecursion (λ x. x < t) (from h (suc n)) → h + suc n ≤ t
ends_below h zero t l = omega (arith, l.0)
ends_below h (suc n) t l = omega (arith, ends_below (h + 1) n t l.1)

ends_below_all : (t : ℕ) (ts : List ℕ) → 0 < length ts → AreConsecutive ts → AllByRecursion (λ x. x < t) ts → first_or_zero ts + length ts ≤ t
ends_below_all t [] some e l = absurd (omega arith)
ends_below_all t (x ∷ xs) some e l = ends_below x (length xs) t (subst (λ z. AllByRecursion (λ x. x < t) z) e l)

all_of_append : (t : ℕ) (xs ys : List ℕ) → AllByRecursion (λ x. x < t) (xs ++ ys) → AllByRecursion (λ x. x < t) xs × AllByRecursion (λ x. x < t) ys
all_of_append t [] ys h = (tt, h)
all_of_append t (x ∷ xs) ys h = let rest = all_of_append t xs ys h.1 in ((h.0, rest.0), rest.1)

tids_joined : (low : ℕ) (ts : List ℕ) (tss : List (List ℕ)) → 0 < length ts → AreConsecutive ts → low ≤ first_or_zero ts → AllByRecursion (λ x. x < first_or_zero ts) (flat tss) → TidsAscend low tss → TidsAscend low (tss ++ ts ∷ [])
tids_joined low ts [] some e l below h = (l, some, e, tt)
tids_joined low ts (us ∷ uss) some e l below h =
    let parts = all_of_append (first_or_zero ts) us (flat uss) below in
    (h.0, h.1, h.2, tids_joined (first_or_zero us + length us) ts uss some e (ends_below_all (first_or_zero ts) us h.1 h.2 parts.0) parts.1 h.3)

-- spots that are written for a batch that does not come say nothing wrong
pub spots_sound : (base : ℕ) (ps : List Pact) (bs : List Batch) (settled : ℕ) (replied : List Bool) (spots : List Spot) (live front : ℕ)
    → IsSoundDesk base bs settled replied spots live front → AllTxsBelow (length replied) ps → EachTxOnce bs ps → IsSoundDesk base bs settled replied (with_spots (length bs) 0 (pact_txs ps) spots) live front
spots_sound base ps bs settled replied spots live front s within once = record {
  numbered = s.numbered;
  begun = s.begun;
  ascending = s.ascending;
  spotted = (written (length bs) 0 0 (pact_txs ps) spots (batch_txs bs) once (subst (λ n. AllByRecursion (λ x. x < n) (pact_txs ps)) (sym s.room) within) s.spotted).0;
  room = length_written (length bs) 0 (pact_txs ps) spots ∙ s.room;
  counted = s.counted;
  parted = s.parted;
}

open_mark : (b : Batch) → is_open b ≡ true → IsOpen (batch_standing b)
open_mark b h = let parts = and_parts (is_formed b.stage) (not b.aborted) h in (not-true b.aborted parts.1, parts.0)

pub joined_sound : (base : ℕ) (b : Batch) (bs : List Batch) (settled : ℕ) (replied : List Bool) (spots : List Spot) (live live' front : ℕ)
    → IsSoundDesk base bs settled replied spots live front → b.bid ≡ first_number settled bs + length bs → 0 < length b.pacts → AreConsecutive (pact_tids b.pacts) → AllTidsBelow (first_or_zero (pact_tids b.pacts)) bs
    → AllTxsBelow (length replied) b.pacts → EachTxOnce bs b.pacts → is_open b ≡ true → live' ≡ live + one_if (is_live_batch b)
    → IsSoundDesk base (bs ++ b ∷ []) settled replied (with_spots (length bs) 0 (pact_txs b.pacts) spots) live' front
joined_sound base b bs settled replied spots live live' front s next some consecutive above within once fresh counted =
    let spotted = written (length bs) 0 0 (pact_txs b.pacts) spots (batch_txs bs) once (subst (λ n. AllByRecursion (λ x. x < n) (pact_txs b.pacts)) (sym s.room) within) s.spotted in
    record {
      numbered = numbers_joined base settled b bs s.numbered s.begun next;
      begun = λ e. absurd (omega (arith, ap length e, length_push bs b));
      ascending = subst (λ z. TidsAscend 0 z) (sym (map_push (λ b. pact_tids b.pacts) bs b))
          (tids_joined 0 (pact_tids b.pacts) (batch_tids bs) (omega (arith, some, length-map b.pacts (λ p. p.tid))) consecutive (omega arith) above s.ascending);
      spotted = subst (λ z. AreSpotted 0 (with_spots (length bs) 0 (pact_txs b.pacts) spots) z) (sym (map_push (λ b. pact_txs b.pacts) bs b))
          (spotted_joined (length bs) 0 (with_spots (length bs) 0 (pact_txs b.pacts) spots) (pact_txs b.pacts) (batch_txs bs) (omega (arith, length-map bs (λ b. pact_txs b.pacts))) spotted.0 spotted.1);
      room = length_written (length bs) 0 (pact_txs b.pacts) spots ∙ s.room;
      counted = omega (arith, counted, s.counted, count_joined is_live_batch bs b);
      parted = front_joined front b bs (open_mark b fresh) s.parted;
    }
