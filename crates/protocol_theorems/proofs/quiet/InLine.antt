-- An ACT stands ahead of no batch that is complete or has left: on long schedules, event by event. And each batch behind
-- an ACT is in its set.
use Rattle.std.specs.Prelude.{◌≡◌, refl, ℕ, ◌-◌, ◌==◌, nat_lt, nat_le, not, Bool, true, false, ◌||◌, ◌&&◌, ◌⊎◌, if◌then◌else◌, Option, Some, None, is_some, List, [], ◌∷◌, ◌++◌, map, filter}
use Rattle.std.specs.List.{AllByRecursion, list_any}
use Rattle.std.proofs.Common.{arith, sym, ap, subst, inl, inr, ◌∙◌}
use Rattle.std.proofs.lemmas.List.{append-nil}
use Rattle.std.proofs.lemmas.Bool.{true≢false, eqb-true, eq-eqb, lt-ltb, le-leb, or_cases, or_left, or_right, or_parts, and_parts, cases_lt, false_from_ne_true}
use Rattle.protocol.specs.Cutting.{Ascends}
use Rattle.protocol.specs.Rivals.{Lock}
use Rattle.protocol.specs.Fixed.{Fixed}
use Rattle.protocol.specs.Parts.{Batch, Declared, Cascade, Who, OfBatch, OfAct, SubBatch, Entry, BatchEntry, ActEntry, Cell, Machine}
use Rattle.protocol.specs.Events.{Event, Admit, Arrive, Ask, Take, Run, Send, End, Close, Complete, Abort, Rollback, Finish, Trim}
use Rattle.protocol.specs.Words.{holds, is_among, is_who, is_act_who, is_aborted, is_settled, covers, act_of, batch_of, declared_of, batches_on, is_batch_entry, is_act_entry, sub_of, lock_of}
use Rattle.protocol.specs.Conditions.{IsAllowed, conditions}
use Rattle.protocol.specs.Effects.{after, cell_at}
use Rattle.protocol.specs.OnBook as book
use Rattle.protocol.specs.OnCell as cell
use Rattle.protocol.specs.History.{History, Slice, Ran, Stands, Gone, grown, not_run, ran_in, completed, left_for_good, without_standing, long_staying, asks, batches_in, batch_in, behind_too, with_at, is_traceless}
use Rattle.protocol_laws.specs.Tracks.{Key, keys_in, is_key_among}
use Rattle.protocol_laws.specs.Marks.{is_done}
use Rattle.protocol_laws.specs.FromDesk.{is_declared}
use Rattle.protocol_laws.specs.Befores.{gone_in}
use Rattle.protocol_laws.proofs.machine.TrackLists
use Rattle.protocol_laws.proofs.machine.TracksKept.{Tracked}
use Rattle.protocol_laws.proofs.machine.PlacesKept.{Placed}
use Rattle.protocol_laws.proofs.first.SettlingKept as settling
use Rattle.protocol_laws.proofs.machine.TurnsKept.{one_is}
use Rattle.protocol_laws.proofs.machine.FromDeskKept.{one_cell}
use Rattle.protocol_theorems.proofs.quiet.RowsKept as rows
use Rattle.protocol_laws.proofs.machine.CommitsKept.{beside_carried}
use Rattle.protocol_laws.proofs.machine.BatchesCommit as commits
use Rattle.protocol_laws.proofs.machine.BatchesCommit.{KeyOrder, GoodKey}
use Rattle.protocol_laws.proofs.machine.BeforesKept as befores
use Rattle.protocol_laws.proofs.machine.ActsKept.{Acts}
use Rattle.protocol_laws.proofs.machine.EntriesKept.{Opened, open_at}
use Rattle.protocol_theorems.proofs.quiet.JoinsKept as joins
use Rattle.protocol_laws.proofs.machine.AllGood.{AllGood}
use Rattle.protocol_laws.proofs.first.CellEpochs.{on_append}

-- ---- no ACT is ahead of the batch

abbrev pub NoneAhead : ℕ → List Key → Type 0
NoneAhead k [] = Unit {0}
NoneAhead k (y ∷ ks) = (is_act_who y.who ≡ true → is_key_among (OfBatch k) ks ≡ false) × NoneAhead k ks

nowhere : (k : ℕ) (ks : List Key) → is_key_among (OfBatch k) ks ≡ false → NoneAhead k ks
nowhere k [] h = tt
nowhere k (y ∷ ks) h = let p = or_parts (is_who y.who (OfBatch k)) (is_key_among (OfBatch k) ks) h in ((λ q. p.1), nowhere k ks p.1)

pub none_ahead : (k a : ℕ) (bs : List Batch) (rs : List Ran) → is_done k rs ≡ true → KeyOrder (keys_in rs) → AllByRecursion (GoodKey a bs) (keys_in rs) → Ascends (batches_in rs) → NoneAhead k (keys_in rs)
none_ahead k a bs [] d o g asc = absurd (true≢false (sym d))
none_ahead k a bs (Gone y ss ∷ rs) d o g asc = elim (or_cases (is_who y (OfBatch k)) (is_done k rs) d) [
  | inl q ↦ nowhere k (keys_in rs) (commits.not_again k rs (commits.own_above y k (batches_in rs) q asc))
  | inr q ↦ none_ahead k a bs rs q o g (commits.ascends_back (batch_in y) (batches_in rs) asc)
]
none_ahead k a bs (Stands y c ss ∷ rs) d o g asc = elim (or_cases (c && is_who y (OfBatch k)) (is_done k rs) d) [
  | inl q ↦ let e = commits.not_again k rs (commits.own_above y k (batches_in rs) (and_parts c (is_who y (OfBatch k)) q).1 asc) in ((λ v. e), nowhere k (keys_in rs) e)
  | inr q ↦
      let back = commits.ascends_back (batch_in y) (batches_in rs) asc in
      ((λ v. false_from_ne_true (is_key_among (OfBatch k) (keys_in rs)) (λ i. true≢false (sym v ∙ g.0.1 (o.0 (commits.done_complete k rs q i back))))), none_ahead k a bs rs q o.1 g.1 back)
]

-- a batch that committed has no ACT ahead
pub kept_none_ahead : {C : Type 0} (w : Fixed C) (Of : Rattle.snap_base.specs.declared.transactions.Tx.Tx → C → Type 0) (finish : C → List Rattle.snap_base.specs.declared.transactions.State.State → Rattle.protocol.specs.Facts.Alone) (s : Machine C) (h : History) (k a : ℕ) → AllGood w Of finish s h
    → Rattle.protocol_laws.specs.Commits.is_kept (OfBatch k) h.kept ≡ true → is_aborted k s.book.cascades ≡ false → is_declared k a s.desk.batches ≡ true → NoneAhead k (keys_in (h.long a))
unfolding Tracked Placed
kept_none_ahead w Of finish s h k a g q n d = elim (commits.kept_over s h k a g.good.known g.good.marked q d) [
  | inl v ↦ absurd (true≢false (sym v ∙ n))
  | inr v ↦ none_ahead k a s.desk.batches (h.long a) v
      (subst KeyOrder (g.good.tracked a).stands (commits.key_order (cell_at s a).entries (g.good.from_desk.in_order a)))
      (subst (AllByRecursion (GoodKey a s.desk.batches)) (g.good.tracked a).stands (commits.good_keys a s.desk.batches (cell_at s a).entries (g.good.from_desk.entries a)))
      (g.good.placed a).ascends
]

-- ---- behind an ACT that stands no batch has left

abbrev pub FreeActs : List Ran → Type 0
FreeActs [] = Unit {0}
FreeActs (Stands y c ss ∷ rs) = (is_act_who y ≡ true → gone_in rs ≡ []) × FreeActs rs
FreeActs (Gone y ss ∷ rs) = FreeActs rs

unfoldable pub AllFree : {C : Type 0} → Machine C → History → Type 0
AllFree s h = (a : ℕ) → FreeActs (h.long a)

free_more : (who : Who) (rs : List Ran) → FreeActs rs → FreeActs (rs ++ not_run who ∷ [])
free_more who [] h = ((λ q. refl), tt)
free_more who (Stands y c ss ∷ rs) h = ((λ q. befores.gone_more who rs ∙ h.0 q), free_more who rs h.1)
free_more who (Gone y ss ∷ rs) h = free_more who rs h

free_ask : (t : ℕ) (o : Option ℕ) (rs : List Ran) → FreeActs rs → FreeActs (rs ++ map not_run (asks t o))
free_ask t None rs h = free_more (OfAct t) rs h
free_ask t (Some x) rs h = rw (append-nil rs) h

free_ran : (who : Who) (x : Slice) (rs : List Ran) → FreeActs rs → FreeActs (map (ran_in who x) rs)
free_ran who x [] h = tt
free_ran who x (Stands y c ss ∷ rs) h = ((λ q. befores.gone_ran who x rs ∙ h.0 q), free_ran who x rs h.1)
free_ran who x (Gone y ss ∷ rs) h = free_ran who x rs h

free_completed : (k : ℕ) (rs : List Ran) → FreeActs rs → FreeActs (map (completed k) rs)
free_completed k [] h = tt
free_completed k (Stands y c ss ∷ rs) h = ((λ q. befores.gone_completed k rs ∙ h.0 q), free_completed k rs h.1)
free_completed k (Gone y ss ∷ rs) h = free_completed k rs h

no_front : (xs ys : List ℕ) → xs ++ ys ≡ [] → (xs ≡ []) × (ys ≡ [])
no_front [] ys e = (refl, e)
no_front (x ∷ xs) ys e = absurd (cc e)

gone_staying : (cs : List Cascade) (rs : List Ran) → gone_in rs ≡ [] → gone_in (long_staying cs rs) ≡ []
gone_staying cs [] h = refl
gone_staying cs (Stands y c ss ∷ rs) h = by (cell.is_cut cs y) (gone_staying cs rs h)
  where
    by : (v : Bool) → gone_in (long_staying cs rs) ≡ [] → gone_in (if v then [] else Stands y c ss ∷ long_staying cs rs) ≡ []
    by true g = refl
    by false g = g
gone_staying cs (Gone y ss ∷ rs) h = let p = no_front (batch_in y) (gone_in rs) h in rw (p.0, gone_staying cs rs p.1) refl

free_staying : (cs : List Cascade) (rs : List Ran) → FreeActs rs → FreeActs (long_staying cs rs)
free_staying cs [] h = tt
free_staying cs (Stands y c ss ∷ rs) h = by (cell.is_cut cs y) (free_staying cs rs h.1)
  where
    by : (v : Bool) → FreeActs (long_staying cs rs) → FreeActs (if v then [] else Stands y c ss ∷ long_staying cs rs)
    by true g = tt
    by false g = ((λ q. gone_staying cs rs (h.0 q)), g)
free_staying cs (Gone y ss ∷ rs) h = free_staying cs rs h

free_undone : (t : ℕ) (rs : List Ran) → FreeActs rs → FreeActs (without_standing (OfAct t) rs)
free_undone t [] h = tt
free_undone t (Stands y c ss ∷ rs) h = by (is_who y (OfAct t)) (free_undone t rs h.1)
  where
    by : (v : Bool) → FreeActs (without_standing (OfAct t) rs) → FreeActs (if v then without_standing (OfAct t) rs else Stands y c ss ∷ without_standing (OfAct t) rs)
    by true g = g
    by false g = ((λ q. befores.gone_undone t rs ∙ h.0 q), g)
free_undone t (Gone y ss ∷ rs) h = free_undone t rs h

-- an ACT leaves
gone_act : (t : ℕ) (rs : List Ran) → gone_in (map (left_for_good (OfAct t)) rs) ≡ gone_in rs
gone_act t [] = refl
gone_act t (Stands (OfBatch k) c ss ∷ rs) = gone_act t rs
gone_act t (Stands (OfAct u) c ss ∷ rs) = by (u == t) (gone_act t rs)
  where
    by : (v : Bool) → gone_in (map (left_for_good (OfAct t)) rs) ≡ gone_in rs → gone_in ((if v then Gone (OfAct u) ss else Stands (OfAct u) c ss) ∷ map (left_for_good (OfAct t)) rs) ≡ gone_in rs
    by true g = g
    by false g = g
gone_act t (Gone y ss ∷ rs) = rw (gone_act t rs) refl

free_act : (t : ℕ) (rs : List Ran) → FreeActs rs → FreeActs (map (left_for_good (OfAct t)) rs)
free_act t [] h = tt
free_act t (Stands y c ss ∷ rs) h = by (is_who y (OfAct t)) (free_act t rs h.1)
  where
    by : (v : Bool) → FreeActs (map (left_for_good (OfAct t)) rs) → FreeActs ((if v then Gone y ss else Stands y c ss) ∷ map (left_for_good (OfAct t)) rs)
    by true g = g
    by false g = ((λ q. gone_act t rs ∙ h.0 q), g)
free_act t (Gone y ss ∷ rs) h = free_act t rs h

-- a batch leaves
gone_same : (k : ℕ) (rs : List Ran) → is_key_among (OfBatch k) (keys_in rs) ≡ false → gone_in (map (left_for_good (OfBatch k)) rs) ≡ gone_in rs
gone_same k [] h = refl
gone_same k (Stands y c ss ∷ rs) h = let p = or_parts (is_who y (OfBatch k)) (is_key_among (OfBatch k) (keys_in rs)) h in rw p.0 (gone_same k rs p.1)
gone_same k (Gone y ss ∷ rs) h = rw (gone_same k rs h) refl

free_batch : (k : ℕ) (rs : List Ran) → NoneAhead k (keys_in rs) → FreeActs rs → FreeActs (map (left_for_good (OfBatch k)) rs)
free_batch k [] n h = tt
free_batch k (Stands y c ss ∷ rs) n h = by (is_who y (OfBatch k)) (free_batch k rs n.1 h.1)
  where
    by : (v : Bool) → FreeActs (map (left_for_good (OfBatch k)) rs) → FreeActs ((if v then Gone y ss else Stands y c ss) ∷ map (left_for_good (OfBatch k)) rs)
    by true g = g
    by false g = ((λ q. gone_same k rs (n.0 q) ∙ h.0 q), g)
free_batch k (Gone y ss ∷ rs) n h = free_batch k rs n h

free_finish : (t : ℕ) (q : Bool) (rs : List Ran) → FreeActs rs → FreeActs (if q then without_standing (OfAct t) rs else map (left_for_good (OfAct t)) rs)
free_finish t true rs h = free_undone t rs h
free_finish t false rs h = free_act t rs h

trims_none : {C : Type 0} (w : Fixed C) (Of : Rattle.snap_base.specs.declared.transactions.Tx.Tx → C → Type 0) (finish : C → List Rattle.snap_base.specs.declared.transactions.State.State → Rattle.protocol.specs.Facts.Alone) (s : Machine C) (h : History) (k a : ℕ) → IsAllowed w (Trim k a) s → AllGood w Of finish s h → NoneAhead k (keys_in (h.long a))
unfolding conditions
trims_none w Of finish s h k a ok g =
    let b = one_is (λ b. is_settled b.stage && (not b.aborted && holds (λ p. not p.trimmed) (declared_of a b))) (batch_of k s.desk.batches) ok.0 in
    let p = and_parts (not b.0.aborted) (holds (λ p. not p.trimmed) (declared_of a b.0)) (and_parts (is_settled b.0.stage) (not b.0.aborted && holds (λ p. not p.trimmed) (declared_of a b.0)) b.2).1 in
    kept_none_ahead w Of finish s h k a g (commits.trims_kept w k a s h ok g.good.marked) (settling.trims_settled w s k a ok g.good.settling).1 (subst (λ o. holds (λ b. is_some (declared_of a b)) o ≡ true) (sym b.1) (some (declared_of a b.0) p.1))
  where
    some : (o : Option Declared) → holds (λ p. not p.trimmed) o ≡ true → is_some o ≡ true
    some None e = e
    some (Some x) e = refl

pub free_kept : {C : Type 0} (w : Fixed C) (Of : Rattle.snap_base.specs.declared.transactions.Tx.Tx → C → Type 0) (finish : C → List Rattle.snap_base.specs.declared.transactions.State.State → Rattle.protocol.specs.Facts.Alone) (e : Event) (s : Machine C) (h : History) → IsAllowed w e s → AllGood w Of finish s h → AllFree s h → AllFree (after w e s) (grown w e s h)
unfolding AllFree grown
free_kept w Of finish (Arrive k a) s h ok g i = beside_carried (λ b rs. FreeActs rs) a _ h.long (free_more (OfBatch k) (h.long a)) i
free_kept w Of finish (Ask t a) s h ok g i = beside_carried (λ b rs. FreeActs rs) a _ h.long (free_ask t (book.in_the_way (lock_of t s.book.acts) (cell_at s a).entries) (h.long a)) i
free_kept w Of finish (Run t a) s h ok g i = beside_carried (λ b rs. FreeActs rs) a _ h.long (λ x. TrackLists.on_reads FreeActs (cell.reads_on t (cell_at s a).entries) _ _ (h.long a) (λ y. free_ran _ _ (h.long a) y) x) i
free_kept w Of finish (Complete k a) s h ok g i = beside_carried (λ b rs. FreeActs rs) a _ h.long (free_completed k (h.long a)) i
free_kept w Of finish (Rollback a) s h ok g i = beside_carried (λ b rs. FreeActs rs) a _ h.long (free_staying s.book.cascades (h.long a)) i
free_kept w Of finish (Finish t a) s h ok g i = beside_carried (λ b rs. FreeActs rs) a _ h.long (free_finish t (is_traceless (act_of t s.book.acts)) (h.long a)) i
free_kept w Of finish (Trim k a) s h ok g i = beside_carried (λ b rs. FreeActs rs) a _ h.long (free_batch k (h.long a) (trims_none w Of finish s h k a ok g)) i
free_kept w Of finish e s h ok g i = i

-- ---- each batch behind an ACT is in its set

abbrev pub Full : (ℕ → List ℕ) → List Cascade → List Entry → Type 0
Full behind cs [] = Unit {0}
Full behind cs (BatchEntry b ∷ es) = Full behind cs es
Full behind cs (ActEntry x ∷ es) = ((k : ℕ) → is_among k (batches_on es) ≡ true → is_aborted k cs ≡ false → is_among k (behind x.tid) ≡ true) × Full behind cs es

unfoldable pub Fulls : {C : Type 0} → Machine C → History → Type 0
Fulls s h = (a : ℕ) → Full h.behind s.book.cascades (cell_at s a).entries

-- sets grow, and schedules lose batches
full_sets : (f g : ℕ → List ℕ) (cs ds : List Cascade) (es : List Entry) → ((x : ℕ) (k : ℕ) → book.tids_on es ≡ book.tids_on es → is_aborted k ds ≡ false → (is_aborted k cs ≡ false) × (is_among k (f x) ≡ true → is_among k (g x) ≡ true)) → Full f cs es → Full g ds es
full_sets f g cs ds [] m h = tt
full_sets f g cs ds (BatchEntry b ∷ es) m h = full_sets f g cs ds es (λ x k q n. m x k refl n) h
full_sets f g cs ds (ActEntry x ∷ es) m h = ((λ k i n. let p = m x.tid k refl n in p.1 (h.0 k i p.0)), full_sets f g cs ds es (λ x k q n. m x k refl n) h.1)

among_join : (k : ℕ) (xs ys : List ℕ) → is_among k (xs ++ ys) ≡ true → (is_among k xs ≡ true) ⊎ (is_among k ys ≡ true)
among_join k [] ys h = inr h
among_join k (x ∷ xs) ys h = elim (or_cases (x == k) (is_among k (xs ++ ys)) h) [
  | inl e ↦ inl (or_left (x == k) _ e)
  | inr e ↦ elim (among_join k xs ys e) [ inl q ↦ inl (or_right (x == k) _ q) | inr q ↦ inr q ]
]

pub among_front : (k : ℕ) (xs ys : List ℕ) → is_among k xs ≡ true → is_among k (xs ++ ys) ≡ true
among_front k [] ys h = absurd (true≢false (sym h))
among_front k (x ∷ xs) ys h = elim (or_cases (x == k) (is_among k xs) h) [ inl e ↦ or_left (x == k) _ e | inr e ↦ or_right (x == k) _ (among_front k xs ys e) ]

pub among_last : (k : ℕ) (xs : List ℕ) → is_among k (xs ++ k ∷ []) ≡ true
among_last k [] = or_left (k == k) _ (eq-eqb k k refl)
among_last k (x ∷ xs) = or_right (x == k) _ (among_last k xs)

-- a batch is placed: it is added to the sets of all that stand there
full_arrive : (f : ℕ → List ℕ) (cs : List Cascade) (k : ℕ) (es : List Entry) (o : Option SubBatch) → ((x : ℕ) → is_among x (book.tids_on es) ≡ true → is_among k (f x) ≡ true) → Full f cs es → Full f cs (es ++ cell.batch_entries k o)
full_arrive f cs k [] None m h = tt
full_arrive f cs k [] (Some x) m h = tt
full_arrive f cs k (BatchEntry b ∷ es) o m h = full_arrive f cs k es o m h
full_arrive f cs k (ActEntry x ∷ es) o m h = (
  (λ j i n. elim (among_join j (batches_on es) (batches_on (cell.batch_entries k o)) (subst (λ z. is_among j z ≡ true) (on_append es (cell.batch_entries k o)) i)) [
    | inl q ↦ h.0 j q n
    | inr q ↦ subst (λ z. is_among z (f x.tid) ≡ true) (only o q) (m x.tid (or_left (x.tid == x.tid) _ (eq-eqb x.tid x.tid refl)))
  ]),
  full_arrive f cs k es o (λ u i. m u (or_right (x.tid == u) _ i)) h.1,
)
  where
    only : {j : ℕ} (o : Option SubBatch) → is_among j (batches_on (cell.batch_entries k o)) ≡ true → k ≡ j
    only None e = absurd (true≢false (sym e))
    only {j} (Some x) e = elim (or_cases (k == j) false e) [ inl q ↦ eqb-true k j q | inr q ↦ absurd (true≢false (sym q)) ]

full_ask : (f : ℕ → List ℕ) (cs : List Cascade) (t : Lock) (o : Option ℕ) (es : List Entry) → Full f cs es → Full f cs (es ++ cell.act_entries t o)
full_ask f cs t None [] h = ((λ k i n. absurd (true≢false (sym i))), tt)
full_ask f cs t (Some x) [] h = tt
full_ask f cs t o (BatchEntry b ∷ es) h = full_ask f cs t o es h
full_ask f cs t o (ActEntry x ∷ es) h = ((λ k i n. h.0 k (subst (λ z. is_among k z ≡ true) (on_append es (cell.act_entries t o) ∙ (ap (λ z. batches_on es ++ z) (none o) ∙ append-nil (batches_on es))) i) n), full_ask f cs t o es h.1)
  where
    none : (o : Option ℕ) → batches_on (cell.act_entries t o) ≡ []
    none None = refl
    none (Some x) = refl

full_done : (f : ℕ → List ℕ) (cs : List Cascade) (t : ℕ) (es : List Entry) → Full f cs es → Full f cs (map (cell.done_in t) es)
full_done f cs t [] h = tt
full_done f cs t (BatchEntry b ∷ es) h = full_done f cs t es h
full_done f cs t (ActEntry x ∷ es) h = ((λ k i n. h.0 k (subst (λ z. is_among k z ≡ true) (rows.batches_done t es) i) n), full_done f cs t es h.1)

full_run : (f : ℕ → List ℕ) (cs : List Cascade) (v : Bool) (t : ℕ) (es : List Entry) → Full f cs es → Full f cs (if v then map (cell.done_in t) es else es)
full_run f cs true t es h = full_done f cs t es h
full_run f cs false t es h = h

full_complete : (f : ℕ → List ℕ) (cs : List Cascade) (k : ℕ) (es : List Entry) → Full f cs es → Full f cs (map (cell.complete_in k) es)
full_complete f cs k [] h = tt
full_complete f cs k (BatchEntry b ∷ es) h = full_complete f cs k es h
full_complete f cs k (ActEntry x ∷ es) h = ((λ j i n. h.0 j (subst (λ z. is_among j z ≡ true) (rows.batches_complete k es) i) n), full_complete f cs k es h.1)

among_staying : (cs : List Cascade) (k : ℕ) (es : List Entry) → is_among k (batches_on (cell.staying cs es)) ≡ true → is_among k (batches_on es) ≡ true
among_staying cs k [] h = h
among_staying cs k (BatchEntry b ∷ es) h = by (cell.is_cut cs (OfBatch b.bid)) h (among_staying cs k es)
  where
    by : (v : Bool) → is_among k (batches_on (if v then [] else BatchEntry b ∷ cell.staying cs es)) ≡ true → (is_among k (batches_on (cell.staying cs es)) ≡ true → is_among k (batches_on es) ≡ true) → is_among k (b.bid ∷ batches_on es) ≡ true
    by true g r = absurd (true≢false (sym g))
    by false g r = elim (or_cases (b.bid == k) (is_among k (batches_on (cell.staying cs es))) g) [ inl e ↦ or_left (b.bid == k) _ e | inr e ↦ or_right (b.bid == k) _ (r e) ]
among_staying cs k (ActEntry x ∷ es) h = among_staying cs k es h

full_staying : (f : ℕ → List ℕ) (cs ds : List Cascade) (es : List Entry) → Full f cs es → Full f cs (cell.staying ds es)
full_staying f cs ds [] h = tt
full_staying f cs ds (BatchEntry b ∷ es) h = by (cell.is_cut ds (OfBatch b.bid)) (full_staying f cs ds es h)
  where
    by : (v : Bool) → Full f cs (cell.staying ds es) → Full f cs (if v then [] else BatchEntry b ∷ cell.staying ds es)
    by true g = tt
    by false g = g
full_staying f cs ds (ActEntry x ∷ es) h = ((λ k i n. h.0 k (among_staying ds k es i) n), full_staying f cs ds es h.1)

full_without_act : (f : ℕ → List ℕ) (cs : List Cascade) (t : ℕ) (es : List Entry) → Full f cs es → Full f cs (filter (λ e. not (is_act_entry t e)) es)
full_without_act f cs t [] h = tt
full_without_act f cs t (BatchEntry b ∷ es) h = full_without_act f cs t es h
full_without_act f cs t (ActEntry x ∷ es) h = by (x.tid == t) (full_without_act f cs t es h.1)
  where
    by : (v : Bool) → Full f cs (filter (λ e. not (is_act_entry t e)) es) → Full f cs (if not v then ActEntry x ∷ filter (λ e. not (is_act_entry t e)) es else filter (λ e. not (is_act_entry t e)) es)
    by true g = g
    by false g = ((λ k i n. h.0 k (subst (λ z. is_among k z ≡ true) (rows.batches_without_act t es) i) n), g)

among_without : (j k : ℕ) (es : List Entry) → is_among k (batches_on (filter (λ e. not (is_batch_entry j e)) es)) ≡ true → is_among k (batches_on es) ≡ true
among_without j k [] h = h
among_without j k (ActEntry x ∷ es) h = among_without j k es h
among_without j k (BatchEntry b ∷ es) h = by (b.bid == j) h (among_without j k es)
  where
    by : (v : Bool) → is_among k (batches_on (if not v then BatchEntry b ∷ filter (λ e. not (is_batch_entry j e)) es else filter (λ e. not (is_batch_entry j e)) es)) ≡ true → (is_among k (batches_on (filter (λ e. not (is_batch_entry j e)) es)) ≡ true → is_among k (batches_on es) ≡ true) → is_among k (b.bid ∷ batches_on es) ≡ true
    by true g r = or_right (b.bid == k) _ (r g)
    by false g r = elim (or_cases (b.bid == k) (is_among k (batches_on (filter (λ e. not (is_batch_entry j e)) es))) g) [ inl e ↦ or_left (b.bid == k) _ e | inr e ↦ or_right (b.bid == k) _ (r e) ]

full_without_batch : (f : ℕ → List ℕ) (cs : List Cascade) (j : ℕ) (es : List Entry) → Full f cs es → Full f cs (filter (λ e. not (is_batch_entry j e)) es)
full_without_batch f cs j [] h = tt
full_without_batch f cs j (BatchEntry b ∷ es) h = by (b.bid == j) (full_without_batch f cs j es h)
  where
    by : (v : Bool) → Full f cs (filter (λ e. not (is_batch_entry j e)) es) → Full f cs (if not v then BatchEntry b ∷ filter (λ e. not (is_batch_entry j e)) es else filter (λ e. not (is_batch_entry j e)) es)
    by true g = g
    by false g = g
full_without_batch f cs j (ActEntry x ∷ es) h = ((λ k i n. h.0 k (among_without j k es i) n), full_without_batch f cs j es h.1)

-- a new ACT stands nowhere
full_admit : (f : ℕ → List ℕ) (cs : List Cascade) (t : ℕ) (v : List ℕ) (es : List Entry) → Rattle.protocol.specs.Words.has_act t es ≡ false → Full f cs es → Full (with_at t v f) cs es
full_admit f cs t v [] n h = tt
full_admit f cs t v (BatchEntry b ∷ es) n h = full_admit f cs t v es n h
full_admit f cs t v (ActEntry x ∷ es) n h =
    let p = or_parts (x.tid == t) (Rattle.protocol.specs.Words.has_act t es) n in
    ((λ k i q. rw p.0 (h.0 k i q)), full_admit f cs t v es p.1 h.1)

grows_too : (k : ℕ) (tids : List ℕ) (f : ℕ → List ℕ) (x j : ℕ) → is_among j (f x) ≡ true → is_among j (behind_too k tids f x) ≡ true
grows_too k tids f x j h = by (is_among x tids)
  where
    by : (v : Bool) → is_among j (if v then f x ++ k ∷ [] else f x) ≡ true
    by true = among_front j (f x) (k ∷ []) h
    by false = h

added_too : (k : ℕ) (tids : List ℕ) (f : ℕ → List ℕ) (x : ℕ) → is_among x tids ≡ true → is_among k (behind_too k tids f x) ≡ true
added_too k tids f x e = rw e (among_last k (f x))

any_more : {X : Type 0} (p : X → Bool) (xs ys : List X) → list_any p (xs ++ ys) ≡ false → (list_any p xs ≡ false) × (list_any p ys ≡ false)
any_more p [] ys h = (refl, h)
any_more p (x ∷ xs) ys h = let q = or_parts (p x) (list_any p (xs ++ ys)) h in let r = any_more p xs ys q.1 in (rw (q.0, r.0) refl, r.1)

pub among_filter : (p : ℕ → Bool) (k : ℕ) (ks : List ℕ) → p k ≡ true → is_among k ks ≡ true → is_among k (filter p ks) ≡ true
among_filter p k [] e h = h
among_filter p k (x ∷ ks) e h = by (p x) refl (or_cases (x == k) (is_among k ks) h) (among_filter p k ks e)
  where
    by : (v : Bool) → p x ≡ v → ((x == k) ≡ true) ⊎ (is_among k ks ≡ true) → (is_among k ks ≡ true → is_among k (filter p ks) ≡ true) → is_among k (if v then x ∷ filter p ks else filter p ks) ≡ true
    by true f (inl q) r = or_left (x == k) _ q
    by true f (inr q) r = or_right (x == k) _ (r q)
    by false f (inl q) r = absurd (true≢false (sym e ∙ (ap p (sym (eqb-true x k q)) ∙ f)))
    by false f (inr q) r = r q

outside : (j first next : ℕ) → (nat_le first j && nat_le j (next - 1)) ≡ false → (nat_lt j first || not (nat_lt j next)) ≡ true
outside j first next e = elim (cases_lt j first) [
  | inl l ↦ or_left (nat_lt j first) _ (lt-ltb j first l)
  | inr l ↦ elim (cases_lt j next) [
    | inl m ↦ absurd (true≢false (sym (both (le-leb first j l) (le-leb j (next - 1) (omega (arith, m)))) ∙ e))
    | inr m ↦ or_right (nat_lt j first) _ (ap not (Rattle.std.proofs.lemmas.Bool.le-ltb j next m))
  ]
]
  where
    both : {a b : Bool} → a ≡ true → b ≡ true → (a && b) ≡ true
    both e f = rw (e, f) refl

abbrev pub At : {C : Type 0} → (ℕ → List ℕ) → List Cascade → ℕ → Cell C → Type 0
At f cs b c = Full f cs c.entries

pub full_kept : {C : Type 0} (w : Fixed C) (e : Event) (s : Machine C) (h : History) → IsAllowed w e s → Opened s → Acts s h → Fulls s h → Fulls (after w e s) (grown w e s h)
unfolding Fulls Acts conditions after grown
full_kept w (Admit t) s h ok o i g = λ b. full_admit h.behind s.book.cascades t [] (cell_at s b).entries (false_from_ne_true (Rattle.protocol.specs.Words.has_act t (cell_at s b).entries) (λ q.
    let x = one_is (open_at b) (act_of t s.book.acts) (joins.stands s o t b q) in omega (arith, (i t x.0 x.1).drawn, eqb-true t s.ring.next_tid ok.0))) (g b)
full_kept w (Arrive k a) s h ok o i g =
    one_cell (At (behind_too k (book.tids_on (cell_at s a).entries) h.behind) s.book.cascades) s.cells a _
    (λ z. full_arrive (behind_too k (book.tids_on (cell_at s a).entries) h.behind) s.book.cascades k (cell_at s a).entries (sub_of k a s.post.subs) (λ x q. added_too k (book.tids_on (cell_at s a).entries) h.behind x q) z)
    (λ b. full_sets h.behind (behind_too k (book.tids_on (cell_at s a).entries) h.behind) s.book.cascades s.book.cascades (cell_at s b).entries (λ x j q n. (n, grows_too k (book.tids_on (cell_at s a).entries) h.behind x j)) (g b))
full_kept w (Ask t a) s h ok o i g = one_cell (At h.behind s.book.cascades) s.cells a _ (λ z. full_ask h.behind s.book.cascades (lock_of t s.book.acts) (book.in_the_way (lock_of t s.book.acts) (cell_at s a).entries) (cell_at s a).entries z) g
full_kept w (Take t a) s h ok o i g = one_cell (At h.behind s.book.cascades) s.cells a _ (λ z. z) g
full_kept w (Run t a) s h ok o i g = one_cell (At h.behind s.book.cascades) s.cells a _ (λ z. full_run h.behind s.book.cascades (cell.is_done_after w.code a (cell.slice_of w.code t (cell_at s a))) t (cell_at s a).entries z) g
full_kept w (Send t a) s h ok o i g = one_cell (At h.behind s.book.cascades) s.cells a _ (λ z. z) g
full_kept w (End t a) s h ok o i g = one_cell (At h.behind s.book.cascades) s.cells a _ (λ z. z) g
full_kept w (Close t a) s h ok o i g = one_cell (At h.behind s.book.cascades) s.cells a _ (λ z. full_done h.behind s.book.cascades t (cell_at s a).entries z) g
full_kept w (Complete k a) s h ok o i g = one_cell (At h.behind s.book.cascades) s.cells a _ (λ z. full_complete h.behind s.book.cascades k (cell_at s a).entries z) g
full_kept w (Abort k) s h ok o i g = λ b. full_sets h.behind _ s.book.cascades _ (cell_at s b).entries (λ x j q n. let c : Cascade = record { first = k; upto = s.ring.next_bid - 1; by = book.failed_tx (book.why k s.desk); at = s.book.next_c; code = book.failed_code (book.why k s.desk) } in let p = any_more (covers j) s.book.cascades (c ∷ []) n in (p.0, among_filter (λ j. nat_lt j k || not (nat_lt j s.ring.next_bid)) j (h.behind x) (outside j k s.ring.next_bid (or_parts (covers j c) false p.1).0))) (g b)
full_kept w (Rollback a) s h ok o i g = one_cell (At h.behind s.book.cascades) s.cells a _ (λ z. full_staying h.behind s.book.cascades s.book.cascades (cell_at s a).entries z) g
full_kept w (Finish t a) s h ok o i g = one_cell (At h.behind s.book.cascades) s.cells a _ (λ z. full_without_act h.behind s.book.cascades t (cell_at s a).entries z) g
full_kept w (Trim k a) s h ok o i g = one_cell (At h.behind s.book.cascades) s.cells a _ (λ z. full_without_batch h.behind s.book.cascades k (cell_at s a).entries z) g
full_kept w e s h ok o i g = g
