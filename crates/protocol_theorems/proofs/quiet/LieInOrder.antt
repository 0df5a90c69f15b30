-- What lies on actors, over every run.
use Rattle.std.specs.Prelude.{◌≡◌, refl, ℕ, zero, suc, ◌+◌, ◌<◌, ◌≤◌, nat_lt, nat_le, Bool, true, false, ◌&&◌, ◌||◌, if◌then◌else◌, Some, List, [], ◌∷◌, ◌++◌, length, map, filter, slice_get, slice_index_or}
use Rattle.std.specs.List.{AllByRecursion}
use Rattle.std.proofs.Common.{arith, sym, ap, subst, inl, inr, ◌∙◌}
use Rattle.std.proofs.lemmas.Bool.{true≢false, and_from, or_parts, or_right, or_from, leb-true, ltb-true, le-leb, lt-leb, lt-ltb, le-ltb, cases_lt, false_from_ne_true}
use Rattle.protocol.specs.Cutting.{Ascends, HaveRunInOrder}
use Rattle.snap_base.specs.declared.transactions.State.{State}
use Rattle.snap_base.specs.declared.transactions.Tx.{Tx}
use Rattle.protocol.specs.Fixed.{Fixed, base}
use Rattle.protocol.specs.Rests.{IsRest, IsTxIn}
use Rattle.protocol.specs.Laws.{AfterEveryRunWithHistory}
use Rattle.protocol.specs.Parts.{Act, Cascade, Who, OfBatch, OfAct, Entry, BatchEntry, ActEntry, Image, Machine}
use Rattle.protocol.specs.Words.{holds, is_aborted, epoch_of, is_doomed, is_who, is_complete_batch, act_of, batches_on, acts_on}
use Rattle.protocol.specs.Events.{Event}
use Rattle.protocol.specs.Contents.{complete_mark}
use Rattle.protocol.specs.Effects.{cell_at, no_cell}
use Rattle.protocol.specs.Runs.{opening, new_cell, IsRun, reached}
use Rattle.protocol.specs.OnCell.{is_entry_among}
use Rattle.protocol.specs.History.{Slice, Ran, Stands, Gone, History, history}
use Rattle.protocol.specs.Settling.{CascadesAscend, BatchesSettleInOrder}
use Rattle.protocol.specs.Epochs.{CellsAgree}
use Rattle.protocol_laws.specs.Tracks.{Key, key_of, keys_in, is_key_among, Differ, first_image, images_in, InOrder}
use Rattle.protocol_laws.specs.Turns.{Turns}
use Rattle.protocol_laws.specs.Highs.{AllDoomed, TakenAlong, doomed_at}
use Rattle.protocol_theorems.specs.OnActors.{ReadersSee, AreTakenAlong, LiesInOrder, AllLieInOrder}
use Rattle.protocol_laws.proofs.first.Lists.{all_join, both_all, join_nil, weaker}
use Rattle.protocol_laws.proofs.first.CellEpochs as cells
use Rattle.protocol_laws.proofs.first.SettlingKept as settling
use Rattle.protocol_laws.proofs.machine.TrackLists.{is_who_refl, among_entries, no_slices_no_images}
use Rattle.protocol_laws.proofs.machine.TracksKept.{Tracked}
use Rattle.protocol_laws.proofs.machine.TurnsKept.{Turned}
use Rattle.protocol_laws.proofs.machine.BehindKept.{AllBehind}
use Rattle.protocol_laws.proofs.machine.Good.{Given}
use Rattle.protocol_laws.specs.Sees.{SeesAt}
use Rattle.protocol_laws.proofs.machine.ReadersSee.{AllSee}
use Rattle.protocol_laws.proofs.machine.AllGood.{all_good, none_allowed}
use Rattle.protocol_laws.proofs.machine.Higher.{behind_taken}
use Rattle.protocol_theorems.proofs.quiet.RowsKept as rows
use Rattle.protocol_theorems.proofs.quiet.QuietKnown as known
use Rattle.protocol_theorems.proofs.quiet.QuietRuns.{known_after}

-- ---- images are of entries

own_image : (y : Who) (c : Bool) (ss : List Slice) (ks : List Key) → AllByRecursion (λ i. is_key_among i.who (record { who = y; complete = c } ∷ ks) ≡ true) (first_image y ss)
own_image y c [] ks = tt
own_image y c (x ∷ xs) ks = (ap (λ b. b || is_key_among y ks) (is_who_refl y), tt)

own_images : (rs : List Ran) → AllByRecursion (λ i. is_key_among i.who (keys_in rs) ≡ true) (images_in rs)
own_images [] = tt
own_images (Stands y c ss ∷ rs) = all_join (λ i. is_key_among i.who (record { who = y; complete = c } ∷ keys_in rs) ≡ true) (first_image y ss) (images_in rs) (own_image y c ss (keys_in rs))
    (weaker (λ i. is_key_among i.who (keys_in rs) ≡ true) (λ i. is_key_among i.who (record { who = y; complete = c } ∷ keys_in rs) ≡ true) (images_in rs) (λ i k. or_right (is_who y i.who) (is_key_among i.who (keys_in rs)) k) (own_images rs))
own_images (Gone y ss ∷ rs) = own_images rs

pub entered_of : (es : List Entry) (is : List Image) (rs : List Ran) → map key_of es ≡ keys_in rs → is ≡ images_in rs → AllByRecursion (λ i. is_entry_among i.who es ≡ true) is
entered_of es is rs e f = weaker (λ i. is_key_among i.who (keys_in rs) ≡ true) (λ i. is_entry_among i.who es ≡ true) is (λ i k. among_entries i.who es ∙ (ap (is_key_among i.who) e ∙ k)) (subst (AllByRecursion (λ i. is_key_among i.who (keys_in rs) ≡ true)) (sym f) (own_images rs))

-- ---- what has run

abbrev KeysInOrder : List Key → List Image → Type 0
KeysInOrder [] is = Unit {0}
KeysInOrder (k ∷ ks) is = (k.complete ≡ false → AllByRecursion (λ i. is_key_among i.who ks ≡ false) is) × KeysInOrder ks is

none_of : (y : Who) (ss : List Slice) (ks : List Key) → is_key_among y ks ≡ false → AllByRecursion (λ i. is_key_among i.who ks ≡ false) (first_image y ss)
none_of y [] ks h = tt
none_of y (x ∷ xs) ks h = (h, tt)

one_more : (y : Who) (ss : List Slice) (ks : List Key) (is : List Image) → is_key_among y ks ≡ false → KeysInOrder ks is → KeysInOrder ks (first_image y ss ++ is)
one_more y ss [] is h g = tt
one_more y ss (k ∷ ks) is h g = let p = or_parts (is_who k.who y) (is_key_among y ks) h in ((λ e. all_join (λ i. is_key_among i.who ks ≡ false) (first_image y ss) is (none_of y ss ks p.1) (g.0 e)), one_more y ss ks is p.1 g.1)

keys_in_order : (rs : List Ran) → InOrder rs → Differ (keys_in rs) → KeysInOrder (keys_in rs) (images_in rs)
keys_in_order [] h d = tt
keys_in_order (Stands y c ss ∷ rs) h d = (
  (λ e. subst (AllByRecursion (λ i. is_key_among i.who (keys_in rs) ≡ false)) (sym (ap (λ z. first_image y ss ++ z) (no_slices_no_images rs (h.0 e)) ∙ join_nil (first_image y ss))) (none_of y ss (keys_in rs) d.0)),
  one_more y ss (keys_in rs) (images_in rs) d.0 (keys_in_order rs h.1 d.1),
)
keys_in_order (Gone y ss ∷ rs) h d = keys_in_order rs h d

complete_is : (e : Entry) → complete_mark e ≡ is_complete_batch e
complete_is (BatchEntry b) = refl
complete_is (ActEntry x) = refl

on_entries : (es : List Entry) (is : List Image) → KeysInOrder (map key_of es) is → HaveRunInOrder es is
on_entries [] is h = tt
on_entries (e ∷ es) is h = ((λ q. weaker (λ i. is_key_among i.who (map key_of es) ≡ false) (λ i. is_entry_among i.who es ≡ false) is (λ i k. among_entries i.who es ∙ k) (h.0 (complete_is e ∙ q))), on_entries es is h.1)

-- ---- which batches are aborted

none_low : (low j : ℕ) (cs : List Cascade) → CascadesAscend low cs → j < low → (is_aborted j cs ≡ false) × (epoch_of j cs ≡ 0)
none_low low j [] h l = (refl, refl)
none_low low j (c ∷ cs) h l =
    let k = none_low (c.upto + 1) j cs h.2 (omega (arith, l, h.0, h.1)) in
    let n : nat_le c.first j ≡ false = lt-leb c.first j (omega (arith, l, h.0)) in
    let u : nat_lt c.upto j ≡ false = le-ltb c.upto j (omega (arith, l, h.0, h.1)) in
    (or_from (nat_le c.first j && nat_le j c.upto) (is_aborted j cs) (ap (λ b. b && nat_le j c.upto) n) k.0, ap (λ b. length (if b then c ∷ filter (λ c. nat_lt c.upto j) cs else filter (λ c. nat_lt c.upto j) cs)) u ∙ k.1)

first_high : (low e : ℕ) (x : Cascade) (cs : List Cascade) → CascadesAscend low cs → slice_get cs e ≡ Some x → low ≤ x.first
first_high low e x [] h q = absurd (cc q)
first_high low zero x (c ∷ cs) h q = let i : c ≡ x = cc q in subst (λ z. low ≤ z.first) i h.0
first_high low (suc e) x (c ∷ cs) h q = omega (arith, h.0, h.1, first_high (c.upto + 1) e x cs h.2 q)

-- an aborted batch of this epoch is one of the cascade with this number
aborted_high : (low e j : ℕ) (x : Cascade) (cs : List Cascade) → CascadesAscend low cs → slice_get cs e ≡ Some x → is_aborted j cs ≡ true → epoch_of j cs ≡ e → x.first ≤ j
aborted_high low e j x [] h q a n = absurd (cc q)
aborted_high low zero j x (c ∷ cs) h q a n = by (nat_le c.first j) refl
  where
    is : c ≡ x
    is = cc q

    counts : (b : Bool) → nat_lt c.upto j ≡ b → length (if b then c ∷ filter (λ c. nat_lt c.upto j) cs else filter (λ c. nat_lt c.upto j) cs) ≡ 0 → j ≤ c.upto
    counts true e k = absurd (omega (arith, k))
    counts false e k = elim (cases_lt c.upto j) [ inl l ↦ absurd (true≢false (sym (lt-ltb c.upto j l) ∙ e)) | inr l ↦ l ]

    by : (b : Bool) → nat_le c.first j ≡ b → x.first ≤ j
    by true e = subst (λ z. z.first ≤ j) is (leb-true c.first j e)
    by false e =
        let l : j ≤ c.upto = counts (nat_lt c.upto j) refl n in
        let none = (none_low (c.upto + 1) j cs h.2 (omega (arith, l))).0 in
        absurd (true≢false (sym a ∙ or_from (nat_le c.first j && nat_le j c.upto) (is_aborted j cs) (ap (λ b. b && nat_le j c.upto) e) none))
aborted_high low (suc e) j x (c ∷ cs) h q a n = by (nat_lt c.upto j) refl n (aborted_high (c.upto + 1) e j x cs h.2 q)
  where
    by : (b : Bool) → nat_lt c.upto j ≡ b → length (if b then c ∷ filter (λ c. nat_lt c.upto j) cs else filter (λ c. nat_lt c.upto j) cs) ≡ suc e → (is_aborted j cs ≡ true → epoch_of j cs ≡ e → x.first ≤ j) → x.first ≤ j
    by true f k r =
        let l : c.upto < j = ltb-true c.upto j f in
        let out : (nat_le c.first j && nat_le j c.upto) ≡ false = ap (λ b. nat_le c.first j && b) (lt-leb j c.upto l) ∙ Rattle.std.proofs.lemmas.Bool.and_right (nat_le c.first j) false refl in
        r (sym (ap (λ b. b || is_aborted j cs) out) ∙ a) (omega (arith, k))
    by false f k r =
        let l : j ≤ c.upto = elim (cases_lt c.upto j) [ inl l ↦ absurd (true≢false (sym (lt-ltb c.upto j l) ∙ f)) | inr l ↦ l ] in
        absurd (omega (arith, k, (none_low (c.upto + 1) j cs h.2 (omega (arith, l))).1))

-- and who is of no later epoch, and not below its first, is aborted
high_aborted : (low e j : ℕ) (x : Cascade) (cs : List Cascade) → CascadesAscend low cs → slice_get cs e ≡ Some x → epoch_of j cs ≤ e → x.first ≤ j → is_aborted j cs ≡ true
high_aborted low e j x [] h q n l = absurd (cc q)
high_aborted low zero j x (c ∷ cs) h q n l = by (nat_lt c.upto j) refl n
  where
    is : c ≡ x
    is = cc q

    by : (b : Bool) → nat_lt c.upto j ≡ b → length (if b then c ∷ filter (λ c. nat_lt c.upto j) cs else filter (λ c. nat_lt c.upto j) cs) ≤ 0 → ((nat_le c.first j && nat_le j c.upto) || is_aborted j cs) ≡ true
    by true f k = absurd (omega (arith, k))
    by false f k =
        let u : j ≤ c.upto = elim (cases_lt c.upto j) [ inl l ↦ absurd (true≢false (sym (lt-ltb c.upto j l) ∙ f)) | inr l ↦ l ] in
        Rattle.std.proofs.lemmas.Bool.or_left _ (is_aborted j cs) (and_from (nat_le c.first j) (nat_le j c.upto) (le-leb c.first j (subst (λ z. z.first ≤ j) (sym is) l)) (le-leb j c.upto u))
high_aborted low (suc e) j x (c ∷ cs) h q n l =
    let m : c.upto < j = omega (arith, first_high (c.upto + 1) e x cs h.2 q, l) in
    or_right (nat_le c.first j && nat_le j c.upto) (is_aborted j cs) (high_aborted (c.upto + 1) e j x cs h.2 q (by (nat_lt c.upto j) (lt-ltb c.upto j m) n) l)
  where
    by : (b : Bool) → b ≡ true → length (if b then c ∷ filter (λ c. nat_lt c.upto j) cs else filter (λ c. nat_lt c.upto j) cs) ≤ suc e → epoch_of j cs ≤ e
    by true f k = omega (arith, k)
    by false f k = absurd (true≢false (sym f))

pub cut_at : (low e j : ℕ) (x : Cascade) (cs : List Cascade) → CascadesAscend low cs → slice_get cs e ≡ Some x → epoch_of j cs ≤ e → (is_aborted j cs ≡ true → epoch_of j cs ≡ e) → is_aborted j cs ≡ nat_le x.first j
cut_at low e j x cs h q n a = by (is_aborted j cs) refl
  where
    by : (b : Bool) → is_aborted j cs ≡ b → b ≡ nat_le x.first j
    by true f = sym (le-leb x.first j (aborted_high low e j x cs h q f (a f)))
    by false f = sym (false_from_ne_true (nat_le x.first j) (λ g. true≢false (sym (high_aborted low e j x cs h q n (leb-true x.first j g)) ∙ f)))

-- ---- ACTs behind an aborted batch

all_doomed : (acts : List Act) (rs : List Ran) (es : List Entry) → Turns rs es → AllDoomed acts rs → AllByRecursion (λ x. holds (λ y. is_doomed y.status) (act_of x.tid acts) ≡ true) (acts_on es)
all_doomed acts [] [] t h = tt
all_doomed acts [] (e ∷ es) t h = absurd t
all_doomed acts (Gone y ss ∷ rs) es t h = all_doomed acts rs es t h
all_doomed acts (Stands y c ss ∷ rs) [] t h = absurd t
all_doomed acts (Stands (OfBatch j) c ss ∷ rs) (BatchEntry b ∷ es) t h = all_doomed acts rs es t.2 h
all_doomed acts (Stands (OfBatch j) c ss ∷ rs) (ActEntry x ∷ es) t h = absurd (cc t.0)
all_doomed acts (Stands (OfAct u) c ss ∷ rs) (BatchEntry b ∷ es) t h = absurd (cc t.0)
all_doomed acts (Stands (OfAct u) c ss ∷ rs) (ActEntry x ∷ es) t h = let i : x.tid ≡ u = cc t.0 in (subst (λ z. doomed_at acts z ≡ true) (sym i) h.0, all_doomed acts rs es t.2 h.1)

taken_of : (cs : List Cascade) (acts : List Act) (rs : List Ran) (es : List Entry) → Turns rs es → TakenAlong cs acts rs → AreTakenAlong cs acts es
taken_of cs acts [] [] t h = tt
taken_of cs acts [] (e ∷ es) t h = absurd t
taken_of cs acts (Gone y ss ∷ rs) es t h = taken_of cs acts rs es t h
taken_of cs acts (Stands y c ss ∷ rs) [] t h = absurd t
taken_of cs acts (Stands (OfBatch j) c ss ∷ rs) (BatchEntry b ∷ es) t h = let i : b.bid ≡ j = cc t.0 in ((λ a. all_doomed acts rs es t.2 (h.0 (ap (λ k. is_aborted k cs) (sym i) ∙ a))), taken_of cs acts rs es t.2 h.1)
taken_of cs acts (Stands (OfBatch j) c ss ∷ rs) (ActEntry x ∷ es) t h = absurd (cc t.0)
taken_of cs acts (Stands (OfAct u) c ss ∷ rs) (BatchEntry b ∷ es) t h = absurd (cc t.0)
taken_of cs acts (Stands (OfAct u) c ss ∷ rs) (ActEntry x ∷ es) t h = taken_of cs acts rs es t.2 h.1

-- ---- over every run

ascends_of : {C : Type 0} (s : Machine C) (a : ℕ) → rows.Rows s → Ascends (batches_on (cell_at s a).entries)
unfolding rows.Rows
ascends_of s a h = subst Ascends (rows.row_batches (cell_at s a).entries) (h a).places.ascends

lies : {C : Type 0} (w : Fixed C) (s : Machine C) (h : History) (a : ℕ) → Tracked w s h → Turned s h → AllBehind s h → rows.Rows s → CellsAgree w s → BatchesSettleInOrder w s → LiesInOrder s (cell_at s a)
unfolding Tracked Turned AllBehind
lies w s h a t u b r c g =
    let x = t a in
    let k = known.cell_agrees s s.cells a c in
    record {
      ascends = ascends_of s a r;
      entered = entered_of (cell_at s a).entries (cell_at s a).images (h.long a) x.stands x.images_are;
      in_order = on_entries (cell_at s a).entries (cell_at s a).images (subst (λ ks. KeysInOrder ks (cell_at s a).images) (sym x.stands) (subst (KeysInOrder (keys_in (h.long a))) (sym x.images_are) (keys_in_order (h.long a) x.in_order (subst Differ x.stands x.differ))));
      behind = k.behind;
      cut = λ y e. both_all _ _ (λ j. is_aborted j s.book.cascades ≡ nat_le y.first j) (batches_on (cell_at s a).entries) (λ j p q. cut_at w.text.opening.next_bid (cell_at s a).epoch j y s.book.cascades g.cascades_ascend e p q) k.placed k.aborted;
      present = k.present;
      taken = taken_of s.book.cascades s.book.acts (h.long a) (cell_at s a).entries (u a) (behind_taken s.book.acts s.book.cascades (h.long a) (b a));
    }

pub no_cell_at : {C : Type 0} (low : ℕ) (states : List State) (a : ℕ) → length states ≡ 0 → slice_index_or (map (new_cell {C = C} low) states) a no_cell ≡ no_cell
no_cell_at low [] a l = refl
no_cell_at low (x ∷ xs) a l = absurd (omega (arith, l))

pub all_lie : {C : Type 0} → AfterEveryRunWithHistory (AllLieInOrder {C = C})
all_lie {C} w finish es f t run = by es run (length w.text.opening.states) refl
  where
    by : (es : List Event) → IsRun w es → (n : ℕ) → length w.text.opening.states ≡ n → AllLieInOrder w finish (reached w es) (history w es)
    by es run (suc n) l = λ a.
        let Of : Tx → C → Type 0 = IsRest w.code (IsTxIn w.text) in
        let v : Given w Of finish = record { text = t; actors = omega (arith, l); facts = f } in
        let g = all_good w Of finish es v run in
        lies w (reached w es) (history w es) a g.good.tracked g.good.turned g.behind (known_after w es t v.actors run).rows (cells.cells_agree w es t run) (settling.batches_settle_in_order w es t run)
    by [] run zero l = λ a. subst (LiesInOrder (opening w)) (sym (no_cell_at (base w.text) w.text.opening.states a l)) (record { ascends = tt; entered = tt; in_order = tt; behind = omega arith; cut = λ x e. tt; present = λ e. tt; taken = tt })
    by (e ∷ es) run zero l = absurd (none_allowed w e t l run.0)

pub all_see : {C : Type 0} → AfterEveryRunWithHistory (ReadersSee {C = C})
unfolding AllSee
all_see {C} w finish es f t run = by es run (length w.text.opening.states) refl
  where
    by : (es : List Event) → IsRun w es → (n : ℕ) → length w.text.opening.states ≡ n → ReadersSee w finish (reached w es) (history w es)
    by es run (suc n) l = (all_good w (IsRest w.code (IsTxIn w.text)) finish es (record { text = t; actors = omega (arith, l); facts = f }) run).see
    by [] run zero l = λ a. subst (λ c. SeesAt c.state [] c.entries) (sym (no_cell_at (base w.text) w.text.opening.states a l)) tt
    by (e ∷ es) run zero l = absurd (none_allowed w e t l run.0)
