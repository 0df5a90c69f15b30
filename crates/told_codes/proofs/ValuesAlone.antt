-- Who failed leaves the world as it was: of a list that gives its results those with a value leave what all of them leave.
use Rattle.std.specs.Prelude.{◌≡◌, refl, ℕ, Bool, true, false, ◌&&◌, ◌⊎◌, if◌then◌else◌, Some, List, [], ◌∷◌, ◌++◌, map, filter}
use Rattle.std.specs.List.{AllByRecursion}
use Rattle.std.proofs.Common.{sym, ap, subst, ◌∙◌}
use Rattle.std.proofs.lemmas.Bool.{true≢false}
use Rattle.snap_base.specs.declared.transactions.State.{State}
use Rattle.snap_base.specs.declared.transactions.TxResult.{TxResult}
use Rattle.snap_base.specs.declared.transactions.TxResult.TheVariants.{Value, Fail}
use Rattle.snap_base.specs.declared.verdicts.Place.{Place}
use Rattle.snap_base.proofs.Options.{same_some}
use Rattle.protocol.specs.Fixed.{Fixed, tx_at}
use Rattle.protocol.specs.Facts.{Alone, undone, alone, serial}
use Rattle.protocol.specs.Parts.{Machine}
use Rattle.protocol.specs.Words.{is_value}
use Rattle.protocol.specs.History.{Done, History}
use Rattle.protocol.specs.Chains.{by_place, put_by_place, is_place_below, IsBelowAll, PlacesRise, txs_of, IsSerial}
use Rattle.protocol_laws.specs.Linked.{PlacesDiffer}
use Rattle.protocol_laws.specs.Told.{IsAmongDone}
use Rattle.protocol_laws.proofs.first.Lists.{all_filter, filter_join}
use Rattle.protocol_theorems.proofs.order.ByPlace.{before_trans, rises_sorted}
use Rattle.protocol_records.specs.AsTold.{is_over, told_committed}
use Rattle.protocol_verdicts.proofs.evidence.EvidenceSerial.{SplitAt, sorted_at}
use Rattle.told_codes.specs.Places.{told_places, GivesBehind}

-- ---- a part of a sorted list is sorted

below_more : (p q : Place) (xs : List Done) → is_place_below p q ≡ true → IsBelowAll q xs → IsBelowAll p xs
below_more p q [] h k = tt
below_more p q (x ∷ xs) h k = (before_trans p q x.place h k.0, below_more p q xs h k.1)

pub below_filter : (at : Place) (test : Done → Bool) (ds : List Done) → IsBelowAll at ds → IsBelowAll at (filter test ds)
below_filter at test [] h = tt
below_filter at test (d ∷ ds) h = by (test d) (below_filter at test ds h.1)
  where
    by : (b : Bool) → IsBelowAll at (filter test ds) → IsBelowAll at (if b then d ∷ filter test ds else filter test ds)
    by true g = (h.0, g)
    by false g = g

put_first : (d : Done) (xs : List Done) → IsBelowAll d.place xs → put_by_place d xs ≡ d ∷ xs
put_first d [] h = refl
put_first d (x ∷ xs) h = rw h.0 refl

-- put in, where the test says so
abbrev put_where : Bool → Done → List Done → List Done
put_where true d xs = put_by_place d xs
put_where false d xs = xs

put_filter : (test : Done → Bool) (d : Done) (xs : List Done) → PlacesRise xs → filter test (put_by_place d xs) ≡ put_where (test d) d (filter test xs)
put_filter test d [] r = by (test d)
  where
    by : (b : Bool) → (if b then d ∷ [] else []) ≡ put_where b d []
    by true = refl
    by false = refl
put_filter test d (x ∷ xs) r = at (is_place_below d.place x.place) refl (put_filter test d xs r.1)
  where
    first : is_place_below d.place x.place ≡ true → (b : Bool) → (if b then d ∷ filter test (x ∷ xs) else filter test (x ∷ xs)) ≡ put_where b d (filter test (x ∷ xs))
    first l true = sym (put_first d (filter test (x ∷ xs)) (below_filter d.place test (x ∷ xs) (l, below_more d.place x.place xs l r.0)))
    first l false = refl

    later : is_place_below d.place x.place ≡ false → (c : Bool) → (b : Bool) → filter test (put_by_place d xs) ≡ put_where b d (filter test xs)
        → (if c then x ∷ filter test (put_by_place d xs) else filter test (put_by_place d xs)) ≡ put_where b d (if c then x ∷ filter test xs else filter test xs)
    later n true true k = ap (λ ys. x ∷ ys) k ∙ rw n refl
    later n true false k = ap (λ ys. x ∷ ys) k
    later n false b k = k

    at : (v : Bool) → is_place_below d.place x.place ≡ v → filter test (put_by_place d xs) ≡ put_where (test d) d (filter test xs) → filter test (if v then d ∷ x ∷ xs else x ∷ put_by_place d xs) ≡ put_where (test d) d (filter test (x ∷ xs))
    at true e k = first e (test d)
    at false e k = later e (test x) (test d) k

pub sorted_filter : (test : Done → Bool) (ds : List Done) → PlacesDiffer ds → filter test (by_place ds) ≡ by_place (filter test ds)
sorted_filter test [] h = refl
sorted_filter test (d ∷ ds) h = put_filter test d (by_place ds) (rises_sorted ds h.1) ∙ by (test d) (sorted_filter test ds h.1)
  where
    by : (b : Bool) → filter test (by_place ds) ≡ by_place (filter test ds) → put_where b d (filter test (by_place ds)) ≡ by_place (if b then d ∷ filter test ds else filter test ds)
    by true k = ap (put_by_place d) k
    by false k = k

pub differ_filter : (test : Done → Bool) (ds : List Done) → PlacesDiffer ds → PlacesDiffer (filter test ds)
differ_filter test [] h = tt
differ_filter test (d ∷ ds) h = by (test d) (differ_filter test ds h.1)
  where
    by : (b : Bool) → PlacesDiffer (filter test ds) → PlacesDiffer (if b then d ∷ filter test ds else filter test ds)
    by true g = (all_filter (λ e. (is_place_below d.place e.place ≡ true) ⊎ (is_place_below e.place d.place ≡ true)) test ds h.0, g)
    by false g = g

-- of a list that rises: what stands ahead of one is below it, and it is below what stands behind it
rises_at : (d : Done) (front rest : List Done) → PlacesRise (front ++ d ∷ rest) → AllByRecursion (λ e. is_place_below e.place d.place ≡ true) front × IsBelowAll d.place rest
rises_at d [] rest r = (tt, r.0)
rises_at d (x ∷ front) rest r = let g = rises_at d front rest r.1 in ((below front r.0, g.0), g.1)
  where
    below : (ys : List Done) → IsBelowAll x.place (ys ++ d ∷ rest) → is_place_below x.place d.place ≡ true
    below [] h = h.0
    below (y ∷ ys) h = below ys h.1

both_tests : (p q : Done → Bool) (ds : List Done) → filter q (filter p ds) ≡ filter (λ d. p d && q d) ds
both_tests p q [] = refl
both_tests p q (d ∷ ds) = by (p d) (both_tests p q ds)
  where
    more : (b : Bool) → filter q (filter p ds) ≡ filter (λ d. p d && q d) ds → (if b then d ∷ filter q (filter p ds) else filter q (filter p ds)) ≡ (if b then d ∷ filter (λ d. p d && q d) ds else filter (λ d. p d && q d) ds)
    more true k = ap (λ l. d ∷ l) k
    more false k = k

    by : (b : Bool) → filter q (filter p ds) ≡ filter (λ d. p d && q d) ds → filter q (if b then d ∷ filter p ds else filter p ds) ≡ (if b && q d then d ∷ filter (λ d. p d && q d) ds else filter (λ d. p d && q d) ds)
    by true k = more (q d) k
    by false k = k

-- ---- who failed leaves nothing

abbrev pub has_value : Done → Bool
has_value d = is_value d.result

fails_leave : (old : List State) (r : TxResult) (new : List State) → is_value (Some (undone old r new).result) ≡ false → (undone old r new).world ≡ old
fails_leave old (Value v) new e = absurd (true≢false e)
fails_leave old (Fail c) new e = refl

values_leave : {C : Type 0} (w : Fixed C) (finish : C → List State → Alone) (world : List State) (ds : List Done) → map Some (serial w.code finish world (txs_of w ds)).results ≡ map (λ d. d.result) ds
    → (serial w.code finish world (txs_of w (filter has_value ds))).world ≡ (serial w.code finish world (txs_of w ds)).world
values_leave w finish world [] e = refl
values_leave {C} w finish world (d ∷ ds) e = by (has_value d) refl (values_leave w finish first.world ds (cc e))
  where
    first : Alone
    first = alone w.code finish world (tx_at w.text d.tx)

    own : Some first.result ≡ d.result
    own = cc e

    stays : has_value d ≡ false → first.world ≡ world
    stays n =
        let begun = finish (w.code.start 0 (tx_at w.text d.tx)) world in
        fails_leave world begun.result begun.world (ap is_value own ∙ n)

    by : (b : Bool) → has_value d ≡ b → (serial w.code finish first.world (txs_of w (filter has_value ds))).world ≡ (serial w.code finish first.world (txs_of w ds)).world
        → (serial w.code finish world (txs_of w (if b then d ∷ filter has_value ds else filter has_value ds))).world ≡ (serial w.code finish first.world (txs_of w ds)).world
    by true v k = k
    by false v k = ap (λ z. (serial w.code finish z (txs_of w (filter has_value ds))).world) (sym (stays v)) ∙ k

-- of a list that gives its results: the ones ahead of one give theirs, and it gives its own behind them
gives_at : {C : Type 0} (w : Fixed C) (finish : C → List State → Alone) (world : List State) (front : List Done) (d : Done) (rest : List Done) → map Some (serial w.code finish world (txs_of w (front ++ d ∷ rest))).results ≡ map (λ d. d.result) (front ++ d ∷ rest)
    → (map Some (serial w.code finish world (txs_of w front)).results ≡ map (λ d. d.result) front) × (Some (alone w.code finish (serial w.code finish world (txs_of w front)).world (tx_at w.text d.tx)).result ≡ d.result)
gives_at w finish world [] d rest e = (refl, cc e)
gives_at w finish world (x ∷ front) d rest e =
    let first = alone w.code finish world (tx_at w.text x.tx) in
    let own : Some first.result ≡ x.result = cc e in
    let g = gives_at w finish first.world front d rest (cc e) in
    (ap (λ r. r ∷ map Some (serial w.code finish first.world (txs_of w front)).results) own ∙ ap (λ rs. x.result ∷ rs) g.0, g.1)

-- ---- one that failed, behind those with a value alone

pub gives_behind : {C : Type 0} (w : Fixed C) (finish : C → List State → Alone) (s : Machine C) (h : History) (n : ℕ) (at : Place) (c : ℕ) → PlacesDiffer h.committed → IsSerial w finish (told_places s h) → IsAmongDone n at (Fail c) (told_places s h) → GivesBehind w finish n at (Fail c) (told_committed s h)
gives_behind {C} w finish s h n at c differ runs i = record {
  front = filter has_value g.front;
  rest = filter has_value g.rest;
  splits = ap by_place (sym (both_tests (λ d. is_over s d.who) has_value h.committed)) ∙ (sym (sorted_filter has_value (told_places s h) told_differ) ∙ (ap (filter has_value) g.splits ∙ (filter_join has_value g.front (i.done ∷ g.rest) ∙ ap (λ l. filter has_value g.front ++ l) out)));
  below = all_filter (λ d. is_place_below d.place at ≡ true) has_value g.front (subst (λ p. AllByRecursion (λ e. is_place_below e.place p ≡ true) g.front) i.place apart.0);
  above = below_filter at has_value g.rest (subst (λ p. IsBelowAll p g.rest) i.place apart.1);
  gives = same_some _ (Fail c) (ap (λ z. Some (alone w.code finish z (tx_at w.text n)).result) (values_leave w finish w.text.opening.states g.front there.0)
      ∙ (ap (λ z. Some (alone w.code finish (serial w.code finish w.text.opening.states (txs_of w g.front)).world (tx_at w.text z)).result) (sym i.tx) ∙ (there.1 ∙ i.result)));
}
  where
    g : SplitAt i.done (by_place (told_places s h))
    g = subst (λ z. SplitAt i.done (by_place z)) (sym i.splits) (sorted_at i.done i.front i.rest)

    told_differ : PlacesDiffer (told_places s h)
    told_differ = differ_filter (λ d. is_over s d.who) h.committed differ

    apart : AllByRecursion (λ e. is_place_below e.place i.done.place ≡ true) g.front × IsBelowAll i.done.place g.rest
    apart = rises_at i.done g.front g.rest (subst PlacesRise g.splits (rises_sorted (told_places s h) told_differ))

    there : (map Some (serial w.code finish w.text.opening.states (txs_of w g.front)).results ≡ map (λ d. d.result) g.front) × (Some (alone w.code finish (serial w.code finish w.text.opening.states (txs_of w g.front)).world (tx_at w.text i.done.tx)).result ≡ i.done.result)
    there = gives_at w finish w.text.opening.states g.front i.done g.rest (subst (λ z. map Some (serial w.code finish w.text.opening.states (txs_of w z)).results ≡ map (λ d. d.result) z) g.splits runs)

    out : filter has_value (i.done ∷ g.rest) ≡ filter has_value g.rest
    out = rw i.result refl
