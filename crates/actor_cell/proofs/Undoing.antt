-- What is meant from a batch on, and by the schedule that is cut there, is the same.
use Rattle.std.proofs.Common.{◌≡◌, ℕ, ◌<◌, ◌≤◌, Bool, true, false, not, cond, leb, eqb, List, [], ◌∷◌, Option, Some, None, refl, sym, ap, ap₂, ◌∙◌, ⊎_elim, arith}
use Rattle.std.specs.Prelude.{filter}
use Rattle.std.specs.List.{AllByRecursion, find}
use Rattle.std.proofs.lemmas.Bool.{cond_both, or_cases, or_right, false_from_ne_true, false≢true, leb-true, leb-false, le-leb, lt-leb, eqb-true, ne_eqb}
use Rattle.protocol.specs.CellParts.{Store, with_undone}
use Rattle.protocol.specs.Cutting.{Ascends, AreAbortedFrom, HaveRunInOrder}
use Rattle.protocol.specs.OnCell.{is_entry_among, is_cut, staying, going, state_from}
use Rattle.protocol.specs.Parts.{Cascade, Who, OfBatch, OfAct, Entry, BatchEntry, ActEntry, Image}
use Rattle.protocol.specs.Words.{is_empty, is_among, is_aborted, is_batch_entry, ahead, is_who, who_of, batches_on, acts_on}
use Rattle.actor_cell.specs.Calls.{is_who_from, undone_from}
use Rattle.actor_cell.specs.Cut.{NoneIsAborted, IsCutFrom}

-- ---- two tests that agree on a list find and leave the same

module _ {X : Type 0} (p q : X → Bool) where
  find_same : (xs : List X) → AllByRecursion (λ x. p x ≡ q x) xs → find p xs ≡ find q xs
  find_same [] h = refl
  find_same (x ∷ xs) h = ap₂ (λ (b : Bool) (o : Option X). cond b (Some x) o) h.0 (find_same xs h.1)

  filter_same : (xs : List X) → AllByRecursion (λ x. p x ≡ q x) xs → filter (λ x. not (p x)) xs ≡ filter (λ x. not (q x)) xs
  filter_same [] h = refl
  filter_same (x ∷ xs) h = ap₂ (λ (b : Bool) (ys : List X). cond (not b) (x ∷ ys) ys) h.0 (filter_same xs h.1)

-- ---- batches

-- what is of an entry that goes is of an entry
among_going : (who : Who) (cs : List Cascade) (es : List Entry) → is_entry_among who (going cs es) ≡ true → is_entry_among who es ≡ true
among_going who cs [] h = h
among_going who cs (e ∷ es) h =
    cond_both (is_cut cs (who_of e)) (e ∷ es) (going cs es) (λ zs. is_entry_among who zs ≡ true → is_entry_among who (e ∷ es) ≡ true)
    (λ c g. g)
    (λ c g. or_right (is_who (who_of e) who) (is_entry_among who es) (among_going who cs es g)) h

above : (low j : ℕ) (es : List Entry) → AllByRecursion (λ i. low < i) (batches_on es) → is_entry_among (OfBatch j) es ≡ true → low < j
above low j [] h m = absurd (false≢true m)
above low j (BatchEntry b ∷ es) h m =
    ⊎_elim (λ (e : is_who (OfBatch b.bid) (OfBatch j) ≡ true). let same : b.bid ≡ j = eqb-true b.bid j e in let first : low < b.bid = h.0 in omega arith) (λ r. above low j es h.1 r) (or_cases (is_who (OfBatch b.bid) (OfBatch j)) (is_entry_among (OfBatch j) es) m)
above low j (ActEntry x ∷ es) h m = above low j es h m

batch_agrees : (k j : ℕ) (cs : List Cascade) (es : List Entry) → Ascends (batches_on es) → AreAbortedFrom k cs es → is_entry_among (OfBatch j) es ≡ true → leb k j ≡ is_entry_among (OfBatch j) (going cs es)
batch_agrees k j cs [] a c m = absurd (false≢true m)
batch_agrees k j cs (ActEntry x ∷ es) a c m = batch_agrees k j cs es a c m
batch_agrees k j cs (BatchEntry b ∷ es) a c m =
    let here : Bool = is_who (OfBatch b.bid) (OfBatch j) in
    let later : Bool = is_entry_among (OfBatch j) es in
    cond_both (is_aborted b.bid cs) (BatchEntry b ∷ es) (going cs es) (λ zs. leb k j ≡ is_entry_among (OfBatch j) zs)
    (λ cut.
    let from : k ≤ b.bid = leb-true k b.bid (sym c.0 ∙ cut) in
    let reaches : b.bid ≤ j =
    ⊎_elim (λ (e : here ≡ true). let same : b.bid ≡ j = eqb-true b.bid j e in omega arith) (λ (r : later ≡ true). let less : b.bid < j = above b.bid j es a.0 r in omega arith) (or_cases here later m) in
    le-leb k j (omega arith) ∙ sym m)
    (λ stays.
    let below : b.bid < k = leb-false k b.bid (sym c.0 ∙ stays) in
    ⊎_elim
    (λ (e : here ≡ true).
    let same : b.bid ≡ j = eqb-true b.bid j e in
    lt-leb k j (omega arith) ∙ sym (false_from_ne_true (is_entry_among (OfBatch j) (going cs es)) (λ g.
    let less : b.bid < j = above b.bid j es a.0 (among_going (OfBatch j) cs es g) in omega arith)))
    (λ (r : later ≡ true). batch_agrees k j cs es a.1 c.1 r)
    (or_cases here later m))

-- ---- ACTs

-- an ACT's entry stays or goes
act_in_either : (t : ℕ) (cs : List Cascade) (es : List Entry) → is_entry_among (OfAct t) es ≡ true → is_empty (acts_on (staying cs es)) ≡ true → is_entry_among (OfAct t) (going cs es) ≡ true
act_in_either t cs [] m n = m
act_in_either t cs (BatchEntry b ∷ es) m n =
    elim (is_aborted b.bid cs) as (λ v. is_empty (acts_on (cond v [] (BatchEntry b ∷ staying cs es))) ≡ true → is_entry_among (OfAct t) (cond v (BatchEntry b ∷ es) (going cs es)) ≡ true) [
      | true ↦ λ q. m
      | false ↦ λ q. act_in_either t cs es m q
    ] n
act_in_either t cs (ActEntry x ∷ es) m n = absurd (false≢true n)

act_agrees : (t : ℕ) (acts : Bool) (cs : List Cascade) (es : List Entry) → acts ≡ is_empty (acts_on (staying cs es)) → is_entry_among (OfAct t) es ≡ true → (acts ≡ false → is_entry_among (OfAct t) (going cs es) ≡ false) → acts ≡ is_entry_among (OfAct t) (going cs es)
act_agrees t true cs es a m w = sym (act_in_either t cs es m (sym a))
act_agrees t false cs es a m w = sym (w refl)

-- ---- images

who_agrees : (k : ℕ) (acts : Bool) (cs : List Cascade) (es : List Entry) (who : Who) → Ascends (batches_on es) → AreAbortedFrom k cs es → acts ≡ is_empty (acts_on (staying cs es)) → is_entry_among who es ≡ true → (acts ≡ false → is_entry_among who (going cs es) ≡ false) → is_who_from k acts who ≡ is_entry_among who (going cs es)
who_agrees k acts cs es (OfBatch j) a c n m w = batch_agrees k j cs es a c m
who_agrees k acts cs es (OfAct t) a c n m w = act_agrees t acts cs es n m w

all_agree : (k : ℕ) (acts : Bool) (cs : List Cascade) (es : List Entry) (is : List Image) → IsCutFrom k acts cs es is → AllByRecursion (λ i. is_who_from k acts i.who ≡ is_entry_among i.who (going cs es)) is
all_agree k acts cs es [] h = tt
all_agree k acts cs es (i ∷ is) h = (
  who_agrees k acts cs es i.who h.ascends h.aborted h.ahead h.entered.0 (λ f. (h.waited f).0),
  all_agree k acts cs es is (record { ascends = h.ascends; aborted = h.aborted; ahead = h.ahead; entered = h.entered.1; waited = λ f. (h.waited f).1 }),
)

pub undone_as_cut : (k : ℕ) (acts : Bool) (cs : List Cascade) (es : List Entry) (s : Store) → IsCutFrom k acts cs es s.images → undone_from k acts s ≡ with_undone (going cs es) s
undone_as_cut k acts cs es s h =
    let agree = all_agree k acts cs es s.images h in
    let meant : Image → Bool = λ i. is_who_from k acts i.who in
    let goes : Image → Bool = λ i. is_entry_among i.who (going cs es) in
    let put : Option Image → List Image → Store = λ first left. record s { state = state_from s.state first; images = left } in
    ap₂ put (find_same meant goes s.images agree) (filter_same meant goes s.images agree)

-- ---- an ACT is ahead of the cut

none_going : (cs : List Cascade) (es : List Entry) (is : List Image) → AllByRecursion (λ i. is_entry_among i.who es ≡ false) is → AllByRecursion (λ i. is_entry_among i.who (going cs es) ≡ false) is
none_going cs es [] n = tt
none_going cs es (i ∷ is) n = (
  false_from_ne_true (is_entry_among i.who (going cs es)) (λ g. false≢true (sym n.0 ∙ among_going i.who cs es g)),
  none_going cs es is n.1,
)

pub none_of_cut_ran : (cs : List Cascade) (es : List Entry) (is : List Image) → HaveRunInOrder es is → is_empty (acts_on (staying cs es)) ≡ false → AllByRecursion (λ i. is_entry_among i.who (going cs es) ≡ false) is
none_of_cut_ran cs [] is h f = absurd (false≢true (sym f))
none_of_cut_ran cs (ActEntry x ∷ es) is h f = none_going cs es is (h.0 refl)
none_of_cut_ran cs (BatchEntry b ∷ es) is h f =
    elim (is_aborted b.bid cs) as (λ v. is_empty (acts_on (cond v [] (BatchEntry b ∷ staying cs es))) ≡ false → AllByRecursion (λ i. is_entry_among i.who (cond v (BatchEntry b ∷ es) (going cs es)) ≡ false) is) [
      | true ↦ λ q. absurd (false≢true (sym q))
      | false ↦ λ q. none_of_cut_ran cs es is h.1 q
    ] f

-- ---- nothing is aborted

going-none : (cs : List Cascade) (es : List Entry) → NoneIsAborted cs es → going cs es ≡ []
going-none cs [] n = refl
going-none cs (BatchEntry b ∷ es) n = rw n.0 (going-none cs es n.1)
going-none cs (ActEntry x ∷ es) n = going-none cs es n

find-nobody : (is : List Image) → find (λ i. is_entry_among i.who []) is ≡ None
find-nobody [] = refl
find-nobody (i ∷ is) = find-nobody is

filter-nobody : (is : List Image) → filter (λ i. not (is_entry_among i.who [])) is ≡ is
filter-nobody [] = refl
filter-nobody (i ∷ is) = ap (λ (rest : List Image). i ∷ rest) (filter-nobody is)

pub nothing_undone : (cs : List Cascade) (es : List Entry) (s : Store) → NoneIsAborted cs es → with_undone (going cs es) s ≡ s
nothing_undone cs es s n =
    let put : Option Image → List Image → Store = λ first left. record s { state = state_from s.state first; images = left } in
    ap (λ gone. with_undone gone s) (going-none cs es n) ∙ ap₂ put (find-nobody s.images) (filter-nobody s.images)

-- ---- what stays

among_above : (low k : ℕ) (ks : List ℕ) → AllByRecursion (λ i. low < i) ks → is_among k ks ≡ true → low < k
among_above low k [] h m = absurd (false≢true m)
among_above low k (j ∷ js) h m =
    ⊎_elim (λ (e : eqb j k ≡ true). let same : j ≡ k = eqb-true j k e in let first : low < j = h.0 in omega arith) (λ r. among_above low k js h.1 r) (or_cases (eqb j k) (is_among k js) m)

-- it is what is ahead of the batch that the cut begins with
pub stays_ahead : (k : ℕ) (cs : List Cascade) (es : List Entry) → Ascends (batches_on es) → AreAbortedFrom k cs es → is_among k (batches_on es) ≡ true → staying cs es ≡ ahead (is_batch_entry k) es
stays_ahead k cs [] a c m = absurd (false≢true m)
stays_ahead k cs (ActEntry x ∷ es) a c m = ap (λ (rest : List Entry). ActEntry x ∷ rest) (stays_ahead k cs es a c m)
stays_ahead k cs (BatchEntry b ∷ es) a c m =
    ⊎_elim
    (λ (e : eqb b.bid k ≡ true).
    let same : b.bid ≡ k = eqb-true b.bid k e in
    rw (c.0 ∙ le-leb k b.bid (omega arith), e) refl)
    (λ (r : is_among k (batches_on es) ≡ true).
    let less : b.bid < k = among_above b.bid k (batches_on es) a.0 r in
    rw (c.0 ∙ lt-leb k b.bid less, ne_eqb b.bid k (λ (e : b.bid ≡ k). omega arith)) (ap (λ (rest : List Entry). BatchEntry b ∷ rest) (stays_ahead k cs es a.1 c.1 r)))
    (or_cases (eqb b.bid k) (is_among k (batches_on es)) m)
