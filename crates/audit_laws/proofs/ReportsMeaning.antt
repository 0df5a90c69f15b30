-- The report of a run that can't go on tells what the language means: who is told a place is who committed, and these are serial.
use Rattle.std.specs.Prelude.{◌≡◌, ◌≢◌, refl, ℕ, ◌+◌, ◌==◌, Bool, true, false, ◌||◌, ◌⊎◌, Option, Some, None, is_some, unwrap_or, List, [], ◌∷◌, ◌++◌, length, map, slice_index_or}
use Rattle.std.specs.List.{AllByRecursion}
use Rattle.std.proofs.Common.{arith, sym, ap, subst, inl, inr, ◌∙◌}
use Rattle.std.proofs.lemmas.Bool.{true≢false, eqb-true}
use Rattle.std.proofs.lemmas.List.{append-nil}
use Rattle.snap_base.proofs.Lists.{all_join}
use Rattle.snap_base.specs.declared.transactions.State.{State}
use Rattle.snap_base.specs.declared.transactions.Tx.{Tx}
use Rattle.snap_base.specs.declared.transactions.TxResult.{TxResult}
use Rattle.snap_base.specs.declared.transactions.TxResult.TheVariants.{Value, Fail}
use Rattle.snap_base.specs.declared.verdicts.Place.{Place}
use Rattle.snap_base.specs.declared.verdicts.Verdict.{Verdict}
use Rattle.snap_base.specs.declared.verdicts.Verdict.TheVariants as verdicts
use Rattle.protocol.specs.Events.{Event}
use Rattle.protocol.specs.Facts.{Alone, alone, undone}
use Rattle.protocol.specs.Facts as facts
use Rattle.protocol.specs.Fixed.{Fixed, Text, tx_at, no_state}
use Rattle.snap_base.specs.Outcomes.{Serial}
use Rattle.run_effects.specs.snap_report.Lines.{shown_fields}
use Rattle.protocol.specs.Parts.{Cell, Machine}
use Rattle.protocol.specs.Words.{is_value, is_among}
use Rattle.protocol.specs.History.{Done, history}
use Rattle.protocol.specs.Chains.{is_place_below, by_place, IsBelowAll, PlacesRise, serial_run}
use Rattle.protocol.specs.Report.{replied, report}
use Rattle.protocol.specs.Runs.{reached, IsRun}
use Rattle.protocol.specs.Verdicts.{verdict, ended_at}
use Rattle.protocol_laws.specs.Linked.{PlacesDiffer}
use Rattle.protocol_theorems.proofs.Lemmas.{all_sorted, rises_sorted}
use Rattle.audit_words.specs.Papers.{Line, Reply, Actor, End, Kept, Recovered}
use Rattle.audit_words.specs.Clauses.{Meaning, LeavesNothing, serial, done_at, located_by, located, world_left_by, world_behind, given, given_to, given_in, last_world, TellsMeaning}
use Rattle.audit_words.specs.Audited.{EachLine}
use Rattle.audit_words.specs.Serial.{LineTellsState, txs}
use Rattle.audit_words.specs.Reports.{actor_lines, report_lines, meaning_of, AllReplied, AnswersStand, IsDoneAt, CommittedStand}
use Rattle.audit_laws.proofs.LinesTell.{TxsDiffer, differ_sorted, located_once}
use Rattle.audit_laws.proofs.RunsAsSaid.{AsSaid, leaves, all_results, found_first, found_behind}
use Rattle.audit_laws.proofs.RepliesOnce.{replies_known}
use Rattle.audit_laws.proofs.ReportsShape.{said, lines_said, reports_have_shape}
use Rattle.audit_laws.proofs.SortedSame.{IsIn, all_in, same_sorted, in_sorted, from_sorted}

-- ---- the code of a text as a meaning

undone_leaves : (old : List State) (r : TxResult) (new : List State) → is_value (Some (undone old r new).result) ≡ false → (undone old r new).world ≡ old
undone_leaves old (Value v) new h = absurd (true≢false h)
undone_leaves old (Fail c) new h = refl

pub leaves_nothing : {C : Type 0} (w : Fixed C) (finish : C → List State → Alone) → LeavesNothing (meaning_of w finish)
leaves_nothing w finish world tx h = undone_leaves world _ _ h

pub serial_same : {C : Type 0} (w : Fixed C) (finish : C → List State → Alone) (world : List State) (ts : List Tx) → serial (meaning_of w finish) world ts ≡ facts.serial w.code finish world ts
serial_same w finish world [] = refl
serial_same w finish world (t ∷ ts) = rw (serial_same w finish (alone w.code finish world t).world ts) refl

-- ---- from a serial run

-- the equation for the first of them, and for the others
pub heads : {X : Type 0} (x y : X) (xs ys : List X) → x ∷ xs ≡ y ∷ ys → (x ≡ y) × (xs ≡ ys)
heads x y xs ys e = (cc, cc)

from_serial : (m : Meaning) → LeavesNothing m → (w : Text) (world : List State) (ds : List Done) → map Some (serial m world (txs w ds)).results ≡ map (λ d. d.result) ds → AsSaid m w world ds
from_serial m f w world [] e = tt
from_serial m f w world (d ∷ ds) e =
    let h = heads (Some (m world (tx_at w d.tx)).result) d.result (map Some (serial m (m world (tx_at w d.tx)).world (txs w ds)).results) (map (λ (x : Done). x.result) ds) e in
    let l = leaves m f w world d h.0 in
    (h.0, from_serial m f w (world_left_by m w world d) ds (subst (λ (z : List State). map Some (serial m z (txs w ds)).results ≡ map (λ (x : Done). x.result) ds) l h.1))

-- each of them is given what it is told
differ_in : (n : ℕ) (d : Done) (ds : List Done) → AllByRecursion (λ e. n ≢ e.tx) ds → IsIn d ds → n ≢ d.tx
differ_in n d [] h i = absurd i
differ_in n d (x ∷ ds) h (inl e) = subst (λ (z : Done). n ≢ z.tx) (sym e) h.0
differ_in n d (x ∷ ds) h (inr i) = differ_in n d ds h.1 i

given_in_list : (m : Meaning) (w : Text) (world : List State) (ds : List Done) (d : Done) → TxsDiffer ds → AsSaid m w world ds → IsIn d ds → given_to d.tx (given m w world ds) ≡ d.result
given_in_list m w world [] d t a i = absurd i
given_in_list m w world (x ∷ ds) d t a (inl e) =
    subst (λ (z : Done). given_to z.tx (given m w world (x ∷ ds)) ≡ z.result) (sym e) (found_first x.tx _ (given m w (world_left_by m w world x) ds) ∙ a.0)
given_in_list m w world (x ∷ ds) d t a (inr i) =
    found_behind d.tx x.tx _ (given m w (world_left_by m w world x) ds) (differ_in x.tx d ds t.0 i) ∙ given_in_list m w (world_left_by m w world x) ds d t.1 a.1 i

-- ---- who committed, as a report locates it

abbrev told_as : Option TxResult → TxResult
told_as o = unwrap_or o (Fail 0)

abbrev pub mine : Done → Done
mine d = done_at d.tx d.place (told_as d.result)

pub mine_result : (d : Done) → is_some d.result ≡ true → (mine d).result ≡ d.result
mine_result d h = by d.result h
  where
    by : (o : Option TxResult) → is_some o ≡ true → Some (told_as o) ≡ o
    by None h = absurd (true≢false (sym h))
    by (Some r) h = refl

-- the same transactions and places
rise_mine : (ds : List Done) → PlacesRise ds → PlacesRise (map mine ds)
rise_mine [] h = tt
rise_mine (d ∷ ds) h = (below d.place ds h.0, rise_mine ds h.1)
  where
    below : (p : Place) (xs : List Done) → IsBelowAll p xs → IsBelowAll p (map mine xs)
    below p [] h = tt
    below p (x ∷ xs) h = (h.0, below p xs h.1)

in_map : (d : Done) (ds : List Done) → IsIn d ds → IsIn (mine d) (map mine ds)
in_map d (x ∷ ds) (inl e) = inl (ap mine e)
in_map d (x ∷ ds) (inr i) = inr (in_map d ds i)
in_map d [] i = absurd i

from_map : (d : Done) (ds : List Done) → IsIn d (map mine ds) → (x : Done) × (IsIn x ds × (d ≡ mine x))
from_map d [] i = absurd i
from_map d (x ∷ ds) (inl e) = (x, (inl refl, e))
from_map d (x ∷ ds) (inr i) = let q = from_map d ds i in (q.0, (inr q.1.0, q.1.1))

results_mine : (ds : List Done) → AllByRecursion (λ d. is_some d.result ≡ true) ds → map (λ d. d.result) (map mine ds) ≡ map (λ d. d.result) ds
results_mine [] h = refl
results_mine (d ∷ ds) h = ap (λ (r : Option TxResult). r ∷ map (λ (x : Done). x.result) (map mine ds)) (mine_result d h.0) ∙ ap (λ (rs : List (Option TxResult)). d.result ∷ rs) (results_mine ds h.1)

pub txs_mine : (w : Text) (ds : List Done) → txs w (map mine ds) ≡ txs w ds
txs_mine w [] = refl
txs_mine w (d ∷ ds) = ap (λ ts. tx_at w d.tx ∷ ts) (txs_mine w ds)

-- ---- who is located

in_join : (d : Done) (xs ys : List Done) → IsIn d (xs ++ ys) → IsIn d xs ⊎ IsIn d ys
in_join d [] ys i = inr i
in_join d (x ∷ xs) ys (inl e) = inl (inl e)
in_join d (x ∷ xs) ys (inr i) = elim (in_join d xs ys i) [ inl j ↦ inl (inr j) | inr j ↦ inr j ]

join_left : (d : Done) (xs ys : List Done) → IsIn d xs → IsIn d (xs ++ ys)
join_left d [] ys i = absurd i
join_left d (x ∷ xs) ys (inl e) = inl e
join_left d (x ∷ xs) ys (inr i) = inr (join_left d xs ys i)

join_right : (d : Done) (xs ys : List Done) → IsIn d ys → IsIn d (xs ++ ys)
join_right d [] ys i = i
join_right d (x ∷ xs) ys i = inr (join_right d xs ys i)

located_join : (xs ys : List Line) → located (xs ++ ys) ≡ located xs ++ located ys
located_join [] ys = refl
located_join (Reply n v ∷ xs) ys = ap (λ ds. located_by n v ++ ds) (located_join xs ys) ∙ assoc (located_by n v) (located xs) (located ys)
  where
    assoc : (ds bs cs : List Done) → ds ++ (bs ++ cs) ≡ (ds ++ bs) ++ cs
    assoc [] bs cs = refl
    assoc (d ∷ ds) bs cs = ap (λ us. d ∷ us) (assoc ds bs cs)
located_join (Actor a fields ∷ xs) ys = located_join xs ys
located_join (End x y z ∷ xs) ys = located_join xs ys
located_join (Kept p v ∷ xs) ys = located_join xs ys
located_join (Recovered x y t k c ∷ xs) ys = located_join xs ys

none_located : (states : List State) (a x y z : ℕ) → located (actor_lines a states ++ End x y z ∷ []) ≡ []
none_located [] a x y z = refl
none_located (s ∷ states) a x y z = none_located states (a + 1) x y z

in_split : (d : Done) (front rest : List Done) → IsIn d (front ++ d ∷ rest)
in_split d [] rest = inl refl
in_split d (x ∷ front) rest = inr (in_split d front rest)

-- it is one that committed
abbrev FromDone : List Done → Done → Type 0
FromDone ds d = (x : Done) × (IsIn x ds × (d ≡ mine x))

from_done : (n : ℕ) (p : Place) (r : TxResult) (ds : List Done) → IsDoneAt n p r ds → FromDone ds (done_at n p r)
from_done n p r ds k = (k.done, (subst (IsIn k.done) (sym k.splits) (in_split k.done k.front k.rest), by))
  where
    by : done_at n p r ≡ mine k.done
    by = rw (k.tx, k.place, k.result) refl

module _ {C : Type 0} (w : Fixed C) (finish : C → List State → Alone) (es : List Event) (k : CommittedStand w finish es) where
  one_from : (n : ℕ) (o : Option Verdict) → verdict n (reached w es).book (reached w es).desk ≡ o → (d : Done) → IsIn d (located_by n (unwrap_or o (verdicts.Unsure 0))) → FromDone (history w es).committed d
  one_from n None e d i = absurd i
  one_from n (Some (verdicts.Committed p v)) e d i = elim i [
    | inl q ↦ subst (FromDone (history w es).committed) (sym q) (from_done n p (Value v) (history w es).committed (k.told_value n p v e))
    | inr j ↦ absurd j
  ]
  one_from n (Some (verdicts.Code p c)) e d i = elim i [
    | inl q ↦ subst (FromDone (history w es).committed) (sym q) (from_done n p (Fail c) (history w es).committed (k.told_code n p c e))
    | inr j ↦ absurd j
  ]
  one_from n (Some v) e d i = absurd i

  all_from : (ns : List ℕ) (d : Done) → IsIn d (located (map (said (reached w es)) ns)) → FromDone (history w es).committed d
  all_from [] d i = absurd i
  all_from (n ∷ ns) d i = elim (in_join d (located_by n (unwrap_or (verdict n (reached w es).book (reached w es).desk) (verdicts.Unsure 0))) (located (map (said (reached w es)) ns)) i) [
    | inl j ↦ one_from n (verdict n (reached w es).book (reached w es).desk) refl d j
    | inr j ↦ all_from ns d j
  ]

  -- and each that committed is located
  located_one : (n : ℕ) (p : Place) (o : Option TxResult) (r : Option Verdict) → r ≡ ended_at p o → is_some o ≡ true → IsIn (done_at n p (told_as o)) (located_by n (unwrap_or r (verdicts.Unsure 0)))
  located_one n p None r e h = absurd (true≢false (sym h))
  located_one n p (Some (Value v)) r e h = subst (λ (z : Option Verdict). IsIn (done_at n p (Value v)) (located_by n (unwrap_or z (verdicts.Unsure 0)))) (sym e) (inl refl)
  located_one n p (Some (Fail c)) r e h = subst (λ (z : Option Verdict). IsIn (done_at n p (Fail c)) (located_by n (unwrap_or z (verdicts.Unsure 0)))) (sym e) (inl refl)

  located_among : (ns : List ℕ) (n : ℕ) (d : Done) → is_among n ns ≡ true → IsIn d (located_by n (unwrap_or (verdict n (reached w es).book (reached w es).desk) (verdicts.Unsure 0))) → IsIn d (located (map (said (reached w es)) ns))
  located_among [] n d h i = absurd (true≢false (sym h))
  located_among (m ∷ ns) n d h i = by (m == n) refl h (λ q. located_among ns n d q i)
    where
      by : (b : Bool) → (m == n) ≡ b → (b || is_among n ns) ≡ true → (is_among n ns ≡ true → IsIn d (located (map (said (reached w es)) ns))) → IsIn d (located (map (said (reached w es)) (m ∷ ns)))
      by true e q more = join_left d (located_by m (unwrap_or (verdict m (reached w es).book (reached w es).desk) (verdicts.Unsure 0))) (located (map (said (reached w es)) ns))
          (subst (λ (j : ℕ). IsIn d (located_by j (unwrap_or (verdict j (reached w es).book (reached w es).desk) (verdicts.Unsure 0)))) (sym (eqb-true m n e)) i)
      by false e q more = join_right d (located_by m (unwrap_or (verdict m (reached w es).book (reached w es).desk) (verdicts.Unsure 0))) (located (map (said (reached w es)) ns)) (more q)

  done_located : (d : Done) → IsIn d (history w es).committed → IsIn (mine d) (located (map (said (reached w es)) (replied es)))
  done_located d i =
      located_among (replied es) d.tx (mine d) (all_in (λ (x : Done). is_among x.tx (replied es) ≡ true) d (history w es).committed k.answered i)
      (located_one d.tx d.place d.result (verdict d.tx (reached w es).book (reached w es).desk)
      (all_in (λ (x : Done). verdict x.tx (reached w es).book (reached w es).desk ≡ ended_at x.place x.result) d (history w es).committed k.all_told i)
      (all_in (λ (x : Done). is_some x.result ≡ true) d (history w es).committed k.ended i))

-- ---- places differ

compare : (x y : Done) (zs : List Done) → PlacesRise zs → IsIn x zs → IsIn y zs → x.tx ≢ y.tx → (is_place_below x.place y.place ≡ true) ⊎ (is_place_below y.place x.place ≡ true)
compare x y [] h i j k = absurd i
compare x y (z ∷ zs) h (inl e) (inl f) k = absurd (k (ap (λ (d : Done). d.tx) (e ∙ sym f)))
compare x y (z ∷ zs) h (inl e) (inr j) k = inl (subst (λ (d : Done). is_place_below d.place y.place ≡ true) (sym e) (below y zs h.0 j))
  where
    below : (y : Done) (zs : List Done) → IsBelowAll z.place zs → IsIn y zs → is_place_below z.place y.place ≡ true
    below y [] h j = absurd j
    below y (u ∷ zs) h (inl e) = subst (λ (d : Done). is_place_below z.place d.place ≡ true) (sym e) h.0
    below y (u ∷ zs) h (inr j) = below y zs h.1 j
compare x y (z ∷ zs) h (inr i) (inl f) k = inr (subst (λ (d : Done). is_place_below d.place x.place ≡ true) (sym f) (below x zs h.0 i))
  where
    below : (y : Done) (zs : List Done) → IsBelowAll z.place zs → IsIn y zs → is_place_below z.place y.place ≡ true
    below y [] h j = absurd j
    below y (u ∷ zs) h (inl e) = subst (λ (d : Done). is_place_below z.place d.place ≡ true) (sym e) h.0
    below y (u ∷ zs) h (inr j) = below y zs h.1 j
compare x y (z ∷ zs) h (inr i) (inr j) k = compare x y zs h.1 i j k

places_differ : (all ds : List Done) → PlacesRise (by_place all) → TxsDiffer ds → ((d : Done) → IsIn d ds → FromDone all d) → PlacesDiffer ds
places_differ all [] h t f = tt
places_differ all (d ∷ ds) h t f = (each ds t.0 (λ e i. f e (inr i)), places_differ all ds h t.1 (λ e i. f e (inr i)))
  where
    two : (d e : Done) → FromDone all d → FromDone all e → d.tx ≢ e.tx → (is_place_below d.place e.place ≡ true) ⊎ (is_place_below e.place d.place ≡ true)
    two d e x y n =
        subst (λ (u : Done). (is_place_below u.place e.place ≡ true) ⊎ (is_place_below e.place u.place ≡ true)) (sym x.1.1)
        (subst (λ (u : Done). (is_place_below (x.0).place u.place ≡ true) ⊎ (is_place_below u.place (x.0).place ≡ true)) (sym y.1.1)
        (compare x.0 y.0 (by_place all) h (in_sorted x.0 all x.1.0) (in_sorted y.0 all y.1.0)
        (λ q. n (ap (λ (u : Done). u.tx) x.1.1 ∙ (q ∙ sym (ap (λ (u : Done). u.tx) y.1.1))))))

    each : (xs : List Done) → AllByRecursion (λ e. d.tx ≢ e.tx) xs → ((e : Done) → IsIn e xs → FromDone all e) → AllByRecursion (λ e. (is_place_below d.place e.place ≡ true) ⊎ (is_place_below e.place d.place ≡ true)) xs
    each [] n g = tt
    each (e ∷ xs) n g = (two d e (f d (inl refl)) (g e (inl refl)) n.0, each xs n.1 (λ u i. g u (inr i)))

-- ---- lines

each_from_all : (P : List Line → Line → Type 0) (Q : Line → Type 0) → ((front : List Line) (l : Line) → Q l → P front l) → (front ls : List Line) → AllByRecursion Q ls → EachLine P front ls
each_from_all P Q f front [] h = tt
each_from_all P Q f front (l ∷ ls) h = (f front l h.0, each_from_all P Q f (front ++ l ∷ []) ls h.1)

whatever_behind : (m : Meaning) (w : Text) (all front : List Line) (l : Line) → TellsMeaning m w all [] l → TellsMeaning m w all front l
whatever_behind m w all front (Reply n (verdicts.Committed q v)) h = h
whatever_behind m w all front (Reply n (verdicts.Code q v)) h = h
whatever_behind m w all front (Reply n _) h = tt
whatever_behind m w all front (Actor a fields) h = h
whatever_behind m w all front _ h = tt

lines_tell : (m : Meaning) (w : Text) (all : List Line) → ((d : Done) → IsIn d (located all) → given_to d.tx (given_in m w all) ≡ d.result) → (ls : List Line) → ((d : Done) → IsIn d (located ls) → IsIn d (located all))
    → AllByRecursion (LineTellsState (last_world m w all)) ls → AllByRecursion (λ l. TellsMeaning m w all [] l) ls
lines_tell m w all g [] f h = tt
lines_tell m w all g (Reply n (verdicts.Committed q v) ∷ ls) f h = (g (done_at n q (Value v)) (f (done_at n q (Value v)) (inl refl)), lines_tell m w all g ls (λ d i. f d (inr i)) h.1)
lines_tell m w all g (Reply n (verdicts.Code q c) ∷ ls) f h = (g (done_at n q (Fail c)) (f (done_at n q (Fail c)) (inl refl)), lines_tell m w all g ls (λ d i. f d (inr i)) h.1)
lines_tell m w all g (Reply n _ ∷ ls) f h = (tt, lines_tell m w all g ls f h.1)
lines_tell m w all g (Actor a fields ∷ ls) f h = (h.0, lines_tell m w all g ls f h.1)
lines_tell m w all g (End x y z ∷ ls) f h = (tt, lines_tell m w all g ls f h.1)
lines_tell m w all g (Kept p v ∷ ls) f h = (tt, lines_tell m w all g ls f h.1)
lines_tell m w all g (Recovered x y t u c ∷ ls) f h = (tt, lines_tell m w all g ls f h.1)

at_join : (front : List State) (x : State) (rest : List State) → slice_index_or (front ++ x ∷ rest) (length front) no_state ≡ x
at_join [] x rest = refl
at_join (y ∷ front) x rest = at_join front x rest

actors_tell : (front states : List State) (a : ℕ) → a ≡ length front → AllByRecursion (LineTellsState (front ++ states)) (actor_lines a states)
actors_tell front [] a e = tt
actors_tell front (x ∷ states) a e = (
  ap (λ (s : State). shown_fields s.0) (sym (ap (λ (i : ℕ). slice_index_or (front ++ x ∷ states) i no_state) e ∙ at_join front x states)),
  subst (λ (z : List State). AllByRecursion (LineTellsState z) (actor_lines (a + 1) states)) (assoc front) (actors_tell (front ++ x ∷ []) states (a + 1) (omega (arith, e, longer front))),
)
  where
    assoc : (xs : List State) → (xs ++ x ∷ []) ++ states ≡ xs ++ x ∷ states
    assoc [] = refl
    assoc (y ∷ xs) = ap (λ zs. y ∷ zs) (assoc xs)

    longer : (xs : List State) → length (xs ++ x ∷ []) ≡ length xs + 1
    longer [] = omega arith
    longer (y ∷ xs) = omega (arith, longer xs)

said_tell : {C : Type 0} (world : List State) (s : Machine C) (ns : List ℕ) → AllByRecursion (LineTellsState world) (map (said s) ns)
said_tell world s [] = tt
said_tell world s (n ∷ ns) = (tt, said_tell world s ns)

-- ---- the law

abbrev the_lines : {C : Type 0} → Machine C → List ℕ → List State → ℕ → ℕ → ℕ → List Line
the_lines s ns states x y z = map (said s) ns ++ (actor_lines 0 states ++ End x y z ∷ [])

located_lines : {C : Type 0} (s : Machine C) (ns : List ℕ) (states : List State) (x y z : ℕ) → located (the_lines s ns states x y z) ≡ located (map (said s) ns)
located_lines s ns states x y z = located_join (map (said s) ns) (actor_lines 0 states ++ End x y z ∷ []) ∙ (ap (λ ds. located (map (said s) ns) ++ ds) (none_located states 0 x y z) ∙ append-nil (located (map (said s) ns)))

-- Who is located, in the order of places, is who committed.
located_are_done : {C : Type 0} (w : Fixed C) (finish : C → List State → Alone) (es : List Event) → CommittedStand w finish es → TxsDiffer (located (map (said (reached w es)) (replied es)))
    → by_place (located (map (said (reached w es)) (replied es))) ≡ map mine (by_place (history w es).committed)
located_are_done w finish es k differ =
    let s = reached w es in
    let ds = located (map (said s) (replied es)) in
    let done = (history w es).committed in
    same_sorted (by_place ds) (map mine (by_place done)) (rises_sorted ds (places_differ done ds k.rise differ (all_from w finish es k (replied es)))) (rise_mine (by_place done) k.rise)
    (λ d i. let q = all_from w finish es k (replied es) d (from_sorted d ds i) in subst (λ (u : Done). IsIn u (map mine (by_place done))) (sym q.1.1) (in_map q.0 (by_place done) (in_sorted q.0 done q.1.0)))
    (λ d i. let q = from_map d (by_place done) i in subst (λ (u : Done). IsIn u (by_place ds)) (sym q.1.1) (in_sorted (mine q.0) ds (done_located w finish es k q.0 (from_sorted q.0 done q.1.0))))

meaning_told : {C : Type 0} (w : Fixed C) (finish : C → List State → Alone) (es : List Event) → CommittedStand w finish es → (x y z : ℕ)
    → TxsDiffer (located (map (said (reached w es)) (replied es)))
    → EachLine (TellsMeaning (meaning_of w finish) w.text (the_lines (reached w es) (replied es) (map (λ c. c.state) (reached w es).cells) x y z)) [] (the_lines (reached w es) (replied es) (map (λ c. c.state) (reached w es).cells) x y z)
meaning_told {C} w finish es k x y z differ =
    let s = reached w es in
    let m : Meaning = meaning_of w finish in
    let states = map (λ (c : Cell C). c.state) s.cells in
    let ls = the_lines s (replied es) states x y z in
    let ds = located (map (said s) (replied es)) in
    let done = (history w es).committed in
    let opens = w.text.opening.states in
    let there : located ls ≡ ds = located_lines s (replied es) states x y z in
    let same : by_place ds ≡ map mine (by_place done) = located_are_done w finish es k differ in
    let run : serial m opens (txs w.text (map mine (by_place done))) ≡ serial_run w finish done = ap (serial m opens) (txs_mine w.text (by_place done)) ∙ serial_same w finish opens (txs w.text (by_place done)) in
    let said2 : AsSaid m w.text opens (map mine (by_place done)) =
    from_serial m (leaves_nothing w finish) w.text opens (map mine (by_place done))
    (ap (λ (r : Serial). map Some r.results) run ∙ (k.serial ∙ sym (results_mine (by_place done) (all_sorted (λ (d : Done). is_some d.result ≡ true) done k.ended)))) in
    let said1 : AsSaid m w.text opens (by_place ds) = subst (AsSaid m w.text opens) (sym same) said2 in
    let told : by_place (located ls) ≡ by_place ds = ap by_place there in
    let world : last_world m w.text ls ≡ states =
    ap (world_behind m w.text opens) (told ∙ same) ∙ (sym (all_results m (leaves_nothing w finish) w.text opens (map mine (by_place done)) said2).1 ∙ (ap (λ (r : Serial). r.world) run ∙ sym k.states)) in
    let gives : (d : Done) → IsIn d (located ls) → given_to d.tx (given_in m w.text ls) ≡ d.result =
    λ d i. ap (λ (zs : List Done). given_to d.tx (given m w.text opens zs)) told ∙ given_in_list m w.text opens (by_place ds) d (differ_sorted ds differ) said1 (in_sorted d ds (subst (IsIn d) there i)) in
    each_from_all (TellsMeaning m w.text ls) (λ (l : Line). TellsMeaning m w.text ls [] l) (whatever_behind m w.text ls) [] ls
    (lines_tell m w.text ls gives ls (λ d i. i)
    (subst (λ (u : List State). AllByRecursion (LineTellsState u) ls) (sym world)
    (all_join (LineTellsState states) (map (said s) (replied es)) (actor_lines 0 states ++ End x y z ∷ []) (said_tell states s (replied es))
    (all_join (LineTellsState states) (actor_lines 0 states) (End x y z ∷ []) (actors_tell [] states 0 refl) (tt, tt)))))

-- no transaction is located twice in the report
located_differ : {C : Type 0} (w : Fixed C) (es : List Event) → IsRun w es → AnswersStand w es → AllReplied w es → TxsDiffer (located (map (said (reached w es)) (replied es)))
located_differ w es run a r =
    let s = reached w es in
    let shape = reports_have_shape w es run a r in
    let more = report es s in
    let tail = actor_lines 0 more.states ++ End more.committed more.aborted more.batches ∷ [] in
    let once = (located_once (length w.text.txs) (length w.text.opening.states) more.batches [] (report_lines w es) shape.each).differ in
    subst TxsDiffer (ap (λ (ls : List Line). located (ls ++ tail)) (lines_said s (replied es) (replies_known w es run a)) ∙ located_lines s (replied es) more.states more.committed more.aborted more.batches) once

-- Who is told a place by the report, in the order of places, is who committed.
pub lines_located : {C : Type 0} (w : Fixed C) (finish : C → List State → Alone) (es : List Event) → IsRun w es → AnswersStand w es → AllReplied w es → CommittedStand w finish es
    → by_place (located (report_lines w es)) ≡ map mine (by_place (history w es).committed)
lines_located w finish es run a r k =
    let s = reached w es in
    let more = report es s in
    let tail = actor_lines 0 more.states ++ End more.committed more.aborted more.batches ∷ [] in
    ap by_place (ap (λ (ls : List Line). located (ls ++ tail)) (lines_said s (replied es) (replies_known w es run a)) ∙ located_lines s (replied es) more.states more.committed more.aborted more.batches) ∙ located_are_done w finish es k (located_differ w es run a r)

pub reports_tell_meaning : {C : Type 0} (w : Fixed C) (finish : C → List State → Alone) (es : List Event) → IsRun w es → AnswersStand w es → AllReplied w es → CommittedStand w finish es
    → EachLine (TellsMeaning (meaning_of w finish) w.text (report_lines w es)) [] (report_lines w es)
reports_tell_meaning w finish es run a r k =
    let s = reached w es in
    let more = report es s in
    let tail = actor_lines 0 more.states ++ End more.committed more.aborted more.batches ∷ [] in
    subst (λ (ls : List Line). EachLine (TellsMeaning (meaning_of w finish) w.text (ls ++ tail)) [] (ls ++ tail)) (sym (lines_said s (replied es) (replies_known w es run a)))
    (meaning_told w finish es k more.committed more.aborted more.batches (located_differ w es run a r))
