-- Batches on a cell and the cell's epoch.
use Rattle.std.specs.Prelude.{◌≡◌, refl, ℕ, zero, suc, ◌+◌, ◌-◌, ◌<◌, ◌≤◌, ◌==◌, nat_le, nat_lt, not, Bool, true, false, ◌&&◌, ◌||◌, if◌then◌else◌, Option, Some, None, List, [], ◌∷◌, ◌++◌, length, map, filter, slice_get, slice_index_or, slice_set}
use Rattle.std.specs.List.{AllByRecursion}
use Rattle.std.proofs.Common.{arith, sym, ap, subst, inl, inr, ◌∙◌}
use Rattle.std.proofs.lemmas.List.{append-nil}
use Rattle.std.proofs.lemmas.Bool.{eqb-true, leb-true, ltb-true, and_parts, and_from, or_cases, le-leb, true≢false, cases_lt, cases_Bool}
use Rattle.snap_base.specs.declared.transactions.State.{State}
use Rattle.protocol.specs.Fixed.{Fixed, IsText, Code, base}
use Rattle.protocol.specs.Rivals.{Lock}
use Rattle.protocol.specs.Parts.{Book, Cascade, SubBatch, Entry, BatchEntry, ActEntry, Cell, Machine}
use Rattle.protocol.specs.Events.{Event, Form, Arrive, Ask, Take, Run, Send, End, Close, Complete, Abort, Rollback, Finish, Trim}
use Rattle.protocol.specs.Words.{covers, holds, is_aborted, epoch_of, batches_on, sub_of, is_act_entry, is_batch_entry, lock_of}
use Rattle.protocol.specs.Conditions.{IsAllowed, conditions, epoch}
use Rattle.protocol.specs.Effects.{after, cell_at, no_cell}
use Rattle.protocol.specs.Runs.{opening, new_cell, IsRun, reached}
use Rattle.protocol.specs.OnBook as book
use Rattle.protocol.specs.OnCell as cell
use Rattle.protocol.specs.Epochs.{CellAgrees, CellsAgree}
use Rattle.protocol_laws.proofs.first.Along.{along}
use Rattle.protocol_laws.proofs.first.Times
use Rattle.protocol_laws.proofs.first.EpochsKept as epochs
use Rattle.protocol_laws.proofs.first.SettlingKeys as keys
use Rattle.protocol_laws.proofs.first.SettlingKept as settling
use Rattle.protocol_laws.proofs.first.Lists.{all_found, all_get, all_set, both_all, weaker}
use Rattle.protocol_laws.proofs.first.RangesLying.{on_filter}

-- ---- lists

pub held : {X : Type 0} (p : X → Bool) (xs : List X) (i : ℕ) (d : X) → holds p (slice_get xs i) ≡ true → p (slice_index_or xs i d) ≡ true
held p [] i d h = absurd (true≢false (sym h))
held p (x ∷ xs) zero d h = h
held p (x ∷ xs) (suc i) d h = held p xs i d h

-- ---- a batch fits the epoch of its cell

pub record Fits (cs : List Cascade) (next ep k : ℕ) : Type 0 where
  pub formed : k < next
  pub placed : epoch_of k cs ≤ ep
  pub aborted : is_aborted k cs ≡ true → epoch_of k cs ≡ ep

pub record CellFits (cs : List Cascade) (next ep : ℕ) (ks : List ℕ) : Type 0 where
  pub behind : ep ≤ length cs
  pub each : AllByRecursion (Fits cs next ep) ks

abbrev pub FitsIn : {C : Type 0} → List Cascade → ℕ → Cell C → Type 0
FitsIn cs next c = CellFits cs next c.epoch (batches_on c.entries)

-- ---- what an event does to the batches of a schedule

pub on_append : (xs ys : List Entry) → batches_on (xs ++ ys) ≡ batches_on xs ++ batches_on ys
on_append [] ys = refl
on_append (BatchEntry b ∷ xs) ys = rw (on_append xs ys) refl
on_append (ActEntry x ∷ xs) ys = on_append xs ys

on_done : (t : ℕ) (es : List Entry) → batches_on (map (cell.done_in t) es) ≡ batches_on es
on_done t [] = refl
on_done t (BatchEntry b ∷ es) = rw (on_done t es) refl
on_done t (ActEntry x ∷ es) = on_done t es

on_complete : (k : ℕ) (es : List Entry) → batches_on (map (cell.complete_in k) es) ≡ batches_on es
on_complete k [] = refl
on_complete k (BatchEntry b ∷ es) = rw (on_complete k es) refl
on_complete k (ActEntry x ∷ es) = on_complete k es

-- what a rollback leaves is not aborted
on_staying : (P Q : ℕ → Type 0) (cs : List Cascade) → ((k : ℕ) → P k → is_aborted k cs ≡ false → Q k) → (es : List Entry) → AllByRecursion P (batches_on es) → AllByRecursion Q (batches_on (cell.staying cs es))
on_staying P Q cs k [] h = tt
on_staying P Q cs k (BatchEntry b ∷ es) h = by (is_aborted b.bid cs) refl (on_staying P Q cs k es h.1)
  where
    by : (q : Bool) → is_aborted b.bid cs ≡ q → AllByRecursion Q (batches_on (cell.staying cs es)) → AllByRecursion Q (batches_on (if q then [] else BatchEntry b ∷ cell.staying cs es))
    by true e g = tt
    by false e g = (k b.bid h.0 e, g)
on_staying P Q cs k (ActEntry x ∷ es) h = on_staying P Q cs k es h

same_batches : (cs : List Cascade) (next ep : ℕ) (ks ks' : List ℕ) → ks' ≡ ks → CellFits cs next ep ks → CellFits cs next ep ks'
same_batches cs next ep ks ks' e h = rw e h

-- ---- events at a cell

no_cell_fits : (C : Type 0) (cs : List Cascade) (next : ℕ) → FitsIn {C = C} cs next no_cell
no_cell_fits C cs next = record { behind = omega arith; each = tt }

one_cell : {C : Type 0} (cs : List Cascade) (next : ℕ) (s : Machine C) (a : ℕ) (c : Cell C) → (FitsIn cs next (cell_at s a) → FitsIn cs next c) → AllByRecursion (FitsIn cs next) s.cells → AllByRecursion (FitsIn cs next) (slice_set s.cells a c)
one_cell {C} cs next s a c k h = all_set (FitsIn cs next) s.cells a c (k (all_get (FitsIn cs next) s.cells a no_cell (no_cell_fits C cs next) h)) h

fewer_fits : (cs : List Cascade) (next ep : ℕ) (p : Entry → Bool) (es : List Entry) → CellFits cs next ep (batches_on es) → CellFits cs next ep (batches_on (filter p es))
fewer_fits cs next ep p es h = record { behind = h.behind; each = on_filter (Fits cs next ep) p es h.each }

ask_fits : (cs : List Cascade) (next ep : ℕ) (t : Lock) (o : Option ℕ) (es : List Entry) → CellFits cs next ep (batches_on es) → CellFits cs next ep (batches_on (es ++ cell.act_entries t o))
ask_fits cs next ep t None es h = same_batches cs next ep (batches_on es) _ (on_append es (ActEntry t ∷ []) ∙ append-nil (batches_on es)) h
ask_fits cs next ep t (Some older) es h = same_batches cs next ep (batches_on es) _ (ap batches_on (append-nil es)) h

run_fits : {C : Type 0} (cs : List Cascade) (next : ℕ) (code : Code C) (t a : ℕ) (c : Cell C) → FitsIn cs next c → FitsIn cs next (cell.slice_run code t a c)
run_fits cs next code t a c h = by (cell.is_done_after code a (cell.slice_of code t c))
  where
    by : (b : Bool) → CellFits cs next c.epoch (batches_on (if b then map (cell.done_in t) c.entries else c.entries))
    by true = same_batches cs next c.epoch (batches_on c.entries) _ (on_done t c.entries) h
    by false = h

rollback_fits : {C : Type 0} (next : ℕ) (b : Book) (c : Cell C) → FitsIn b.cascades next c → FitsIn b.cascades next (cell.rolled_back b.cascades c)
rollback_fits next b c h = record {
  behind = omega arith;
  each = on_staying (Fits b.cascades next c.epoch) (Fits b.cascades next (length b.cascades)) b.cascades (λ k f e. record {
    formed = f.formed;
    placed = epochs.epoch_most k b.cascades;
    aborted = λ q. absurd (true≢false (sym q ∙ e));
  }) c.entries h.each;
}

-- a batch is placed: its message, the book and the cell are of one epoch
arrive_fits : {C : Type 0} (cs : List Cascade) (next k : ℕ) (o : Option SubBatch) (c : Cell C) → ((m : SubBatch) → o ≡ Some m → Fits cs next c.epoch k) → FitsIn cs next c → FitsIn cs next (cell.batch_placed k o c)
arrive_fits cs next k None c f h = same_batches cs next c.epoch (batches_on c.entries) _ (ap batches_on (append-nil c.entries)) h
arrive_fits cs next k (Some m) c f h = record {
  behind = h.behind;
  each = subst (AllByRecursion (Fits cs next c.epoch)) (sym (on_append c.entries (cell.batch_entries k (Some m)))) (all_end (batches_on c.entries) h.each);
}
  where
    all_end : (ks : List ℕ) → AllByRecursion (Fits cs next c.epoch) ks → AllByRecursion (Fits cs next c.epoch) (ks ++ k ∷ [])
    all_end [] g = (f m refl, tt)
    all_end (j ∷ js) g = (g.0, all_end js g.1)

-- ---- a cascade

-- an unaborted batch from the failing one on is of the present epoch
present_from : (f k : ℕ) (cs : List Cascade) → AllByRecursion (λ d. d.first ≤ f) cs → f ≤ k → is_aborted k cs ≡ false → epoch_of k cs ≡ length cs
present_from f k cs firsts l e = epochs.epoch_all k cs (both_all (λ d. d.first ≤ f) (λ d. covers k d ≡ false) (λ d. d.upto < k) cs (λ d p q. past d p q) firsts (keys.not_covered k cs e))
  where
    past : (d : Cascade) → d.first ≤ f → covers k d ≡ false → d.upto < k
    past d p q = elim (cases_lt d.upto k) [ inl u ↦ u | inr v ↦ absurd (true≢false (sym (and_from (nat_le d.first k) (nat_le k d.upto) (le-leb d.first k (omega (arith, p, l))) (le-leb k d.upto v)) ∙ q)) ]

cascade_fits : (cs : List Cascade) (c : Cascade) (next ep : ℕ) (ks : List ℕ) → c.upto ≡ next - 1 → AllByRecursion (λ d. d.first ≤ c.first) cs → CellFits cs next ep ks → CellFits (cs ++ c ∷ []) next ep ks
cascade_fits cs c next ep ks u firsts h = record {
  behind = omega (arith, h.behind, Times.length_join cs (c ∷ []));
  each = weaker (Fits cs next ep) (Fits (cs ++ c ∷ []) next ep) ks (λ k f. one k f) h.each;
}
  where
    one : (k : ℕ) → Fits cs next ep k → Fits (cs ++ c ∷ []) next ep k
    one k f =
        let e : epoch_of k (cs ++ c ∷ []) ≡ epoch_of k cs = epochs.epoch_more k cs c (omega (arith, u, f.formed)) in
        record {
          formed = f.formed;
          placed = omega (arith, e, f.placed);
          aborted = λ q. e ∙ elim (cases_Bool (is_aborted k cs)) [
            | inl a ↦ f.aborted a
            | inr b ↦ elim (or_cases (is_aborted k cs) (covers k c) (sym (keys.aborted_more k cs c) ∙ q)) [
              | inl a ↦ f.aborted a
              | inr d ↦ full k f (present_from c.first k cs firsts (leb-true c.first k (and_parts (nat_le c.first k) (nat_le k c.upto) d).0) b)
            ]
          ];
        }
      where
        full : (k : ℕ) → Fits cs next ep k → epoch_of k cs ≡ length cs → epoch_of k cs ≡ ep
        full k f e = omega (arith, e, f.placed, h.behind)

-- ---- over states

pub record Together {C : Type 0} (w : Fixed C) (s : Machine C) : Type 0 where
  pub agreeing : epochs.Agreeing s
  pub settling : settling.Settling w s
  pub fits : AllByRecursion (FitsIn s.book.cascades s.ring.next_bid) s.cells

higher_fits : {C : Type 0} (cs : List Cascade) (next : ℕ) (xs : List (Cell C)) → AllByRecursion (FitsIn cs next) xs → AllByRecursion (FitsIn cs (next + 1)) xs
higher_fits cs next xs h = weaker (FitsIn cs next) (FitsIn cs (next + 1)) xs (λ c g. record { behind = g.behind; each = weaker (Fits cs next c.epoch) (Fits cs (next + 1) c.epoch) (batches_on c.entries) (λ k f. record { formed = omega (arith, f.formed); placed = f.placed; aborted = f.aborted }) g.each }) h

-- what a message that arrives says of its batch
pub arrives : {C : Type 0} (w : Fixed C) (k a : ℕ) (s : Machine C) (m : SubBatch) → IsAllowed w (Arrive k a) s → sub_of k a s.post.subs ≡ Some m → epochs.Agreeing s → Fits s.book.cascades s.ring.next_bid (cell_at s a).epoch k
unfolding conditions
arrives w k a s m ok e h =
    let f = all_found (epochs.NamesIn s) (λ x. (x.bid == k) && (x.actor == a)) s.post.subs m (epochs.names_in s h) e in
    let n = epochs.named s m f.0 in
    let q = (and_parts (m.bid == k) (m.actor == a) f.1).0 in
    let t : ((m.epoch == epoch s.book) && holds (λ c. c.epoch == epoch s.book) (slice_get s.cells a)) ≡ true = subst (λ o. holds (λ x. (x.epoch == epoch s.book) && holds (λ c. c.epoch == epoch s.book) (slice_get s.cells a)) o ≡ true) e ok.1.1.0 in
    let p = and_parts (m.epoch == epoch s.book) (holds (λ c. c.epoch == epoch s.book) (slice_get s.cells a)) t in
    let own : (cell_at s a).epoch ≡ epoch s.book = eqb-true (cell_at s a).epoch (epoch s.book) (held (λ c. c.epoch == epoch s.book) s.cells a no_cell p.1) in
    let its : epoch_of k s.book.cascades ≡ epoch s.book = ap (λ n. epoch_of n s.book.cascades) (sym (eqb-true m.bid k q)) ∙ (sym n.1 ∙ eqb-true m.epoch (epoch s.book) p.0) in
    record {
      formed = omega (arith, n.0, eqb-true m.bid k q);
      placed = omega (arith, own, its);
      aborted = λ g. its ∙ sym own;
    }

cells_kept : {C : Type 0} (w : Fixed C) (e : Event) (s : Machine C) → IsAllowed w e s → Together w s → AllByRecursion (FitsIn (after w e s).book.cascades (after w e s).ring.next_bid) (after w e s).cells
unfolding conditions after
cells_kept w (Form k) s ok h = higher_fits s.book.cascades s.ring.next_bid s.cells h.fits
cells_kept w (Arrive k a) s ok h = one_cell _ _ s a _ (arrive_fits s.book.cascades s.ring.next_bid k (sub_of k a s.post.subs) (cell_at s a) (λ m e. arrives w k a s m ok e h.agreeing)) h.fits
cells_kept w (Ask t a) s ok h = one_cell _ _ s a _ (ask_fits s.book.cascades s.ring.next_bid (cell_at s a).epoch (lock_of t s.book.acts) (book.in_the_way (lock_of t s.book.acts) (cell_at s a).entries) (cell_at s a).entries) h.fits
cells_kept w (Take t a) s ok h = one_cell _ _ s a _ (λ g. g) h.fits
cells_kept w (Run t a) s ok h = one_cell _ _ s a _ (run_fits s.book.cascades s.ring.next_bid w.code t a (cell_at s a)) h.fits
cells_kept w (Send t a) s ok h = one_cell _ _ s a _ (λ g. g) h.fits
cells_kept w (End t a) s ok h = one_cell _ _ s a _ (λ g. g) h.fits
cells_kept w (Close t a) s ok h = one_cell _ _ s a _ (λ g. same_batches _ _ _ _ _ (on_done t (cell_at s a).entries) g) h.fits
cells_kept w (Complete k a) s ok h = one_cell _ _ s a _ (λ g. same_batches _ _ _ _ _ (on_complete k (cell_at s a).entries) g) h.fits
cells_kept w (Abort k) s ok h = weaker (FitsIn s.book.cascades s.ring.next_bid) _ s.cells (λ c g. cascade_fits s.book.cascades _ s.ring.next_bid c.epoch (batches_on c.entries) refl (settling.firsts_at_most w s k ok h.settling) g) h.fits
cells_kept w (Rollback a) s ok h = one_cell _ _ s a _ (rollback_fits s.ring.next_bid s.book (cell_at s a)) h.fits
cells_kept w (Finish t a) s ok h = one_cell _ _ s a _ (fewer_fits _ _ _ (λ e. not (is_act_entry t e)) (cell_at s a).entries) h.fits
cells_kept w (Trim k a) s ok h = one_cell _ _ s a _ (fewer_fits _ _ _ (λ e. not (is_batch_entry k e)) (cell_at s a).entries) h.fits
cells_kept w e s ok h = h.fits

pub kept : {C : Type 0} (w : Fixed C) (e : Event) (s : Machine C) → IsAllowed w e s → Together w s → Together w (after w e s)
kept w e s ok h = record { agreeing = epochs.kept w e s ok h.agreeing; settling = settling.kept w e s ok h.settling; fits = cells_kept w e s ok h }

new_fit : (C : Type 0) (next low : ℕ) (states : List State) → AllByRecursion (FitsIn {C = C} [] next) (map (new_cell low) states)
new_fit C next low [] = tt
new_fit C next low (st ∷ states) = (record { behind = omega arith; each = tt }, new_fit C next low states)

-- ---- the law

present_clean : (cs : List Cascade) (next ep : ℕ) (ks : List ℕ) → ep ≡ length cs → AllByRecursion (Fits cs next ep) ks → AllByRecursion (λ k. is_aborted k cs ≡ false) ks
present_clean cs next ep ks e h = weaker (Fits cs next ep) (λ k. is_aborted k cs ≡ false) ks (λ k f. one k f) h
  where
    covered_is_less : (k : ℕ) (ds : List Cascade) → is_aborted k ds ≡ true → epoch_of k ds < length ds
    covered_is_less k [] q = absurd (true≢false (sym q))
    covered_is_less k (d ∷ ds) q = by (covers k d) (nat_lt d.upto k) refl refl q (covered_is_less k ds)
      where
        by : (b c : Bool) → covers k d ≡ b → nat_lt d.upto k ≡ c → (b || is_aborted k ds) ≡ true → (is_aborted k ds ≡ true → epoch_of k ds < length ds)
            → length (if c then d ∷ filter (λ x. nat_lt x.upto k) ds else filter (λ x. nat_lt x.upto k) ds) < suc (length ds)
        by true true f g q r = absurd (omega (arith, ltb-true d.upto k g, leb-true k d.upto (and_parts (nat_le d.first k) (nat_le k d.upto) f).1))
        by true false f g q r = omega (arith, epochs.epoch_most k ds)
        by false true f g q r = omega (arith, r q)
        by false false f g q r = omega (arith, r q)

    one : (k : ℕ) → Fits cs next ep k → is_aborted k cs ≡ false
    one k f = elim (cases_Bool (is_aborted k cs)) [ inl a ↦ absurd (omega (arith, covered_is_less k cs a, f.aborted a, e)) | inr b ↦ b ]

pub cells_agree : {C : Type 0} (w : Fixed C) (es : List Event) → IsText w.text → IsRun w es → CellsAgree w (reached w es)
cells_agree {C} w es text run =
    let s = reached w es in
    let h : Together w s = along w (Together w) (kept w) es (opening w) run (record { agreeing = epochs.opened w text; settling = settling.opened w text; fits = new_fit C w.text.opening.next_bid (base w.text) w.text.opening.states }) in
    weaker (FitsIn s.book.cascades s.ring.next_bid) (CellAgrees s) s.cells (λ c g. record {
      behind = g.behind;
      placed = weaker (Fits s.book.cascades s.ring.next_bid c.epoch) _ (batches_on c.entries) (λ k f. f.placed) g.each;
      aborted = weaker (Fits s.book.cascades s.ring.next_bid c.epoch) _ (batches_on c.entries) (λ k f. f.aborted) g.each;
      present = λ e. present_clean s.book.cascades s.ring.next_bid c.epoch (batches_on c.entries) e g.each;
    }) h.fits
