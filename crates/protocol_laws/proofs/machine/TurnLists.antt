-- In which order a batch's PACTs run on an actor, event by event.
use Rattle.std.specs.Prelude.{◌≡◌, refl, ℕ, ◌<◌, ◌≤◌, ◌==◌, nat_le, not, Bool, true, false, ◌||◌, if◌then◌else◌, Some, List, [], ◌∷◌, ◌++◌, map, filter, find}
use Rattle.std.specs.List.{AllByRecursion, list_any, list_all}
use Rattle.std.proofs.Common.{arith, sym, ap, subst, inl, inr, ◌∙◌}
use Rattle.std.proofs.lemmas.Bool.{eqb-true, leb-true, and_parts, or_cases, or_parts, true≢false, cases_lt, false_from_ne_true}
use Rattle.snap_base.proofs.Lists.{all_push}
use Rattle.protocol.specs.Parts.{Cascade, Who, OfBatch, Slot, Entry, BatchEntry, ActEntry}
use Rattle.protocol.specs.Words.{who_of, who_on, is_who, is_entry_of, is_turn_of, is_batch_entry, is_all_done, is_reader_entry}
use Rattle.protocol.specs.Contents.{complete_mark}
use Rattle.protocol.specs.OnCell as cell
use Rattle.protocol.specs.OnCell.{is_cut}
use Rattle.protocol.specs.History.{Slice, Ran, Stands, Gone, not_run, ran_in, completed, left_for_good, without_standing, long_staying}
use Rattle.protocol_laws.specs.Tracks.{key_of, keys_in, is_key_among, Differ}
use Rattle.protocol_laws.specs.Turns.{Rising, TurnOf, Turns, NotDone}
use Rattle.protocol_laws.proofs.machine.TrackLists
use Rattle.protocol_laws.proofs.machine.TrackLists.{is_who_true, is_who_refl}
use Rattle.protocol_laws.proofs.first.Lists.{all_map, weaker}

-- ---- nothing ran yet

turn_new : (e : Entry) → complete_mark e ≡ false → TurnOf e []
turn_new (BatchEntry b) h = (tt, tt, λ q. absurd (true≢false (sym q ∙ h)))
turn_new (ActEntry x) h = (tt, λ q. refl)

pub more : (e : Entry) (rs : List Ran) (es : List Entry) → complete_mark e ≡ false → Turns rs es → Turns (rs ++ not_run (who_of e) ∷ []) (es ++ e ∷ [])
more e [] [] c h = (refl, turn_new e c, tt)
more e [] (x ∷ es) c h = absurd h
more e (Gone y ss ∷ rs) es c h = more e rs es c h
more e (Stands y q ss ∷ rs) [] c h = absurd h
more e (Stands y q ss ∷ rs) (x ∷ es) c h = (h.0, h.1, more e rs es c h.2)

-- ---- marks

names_done : (t u : ℕ) (ss : List Slot) → list_any (λ s. s.tid == u) (map (cell.done_if t) ss) ≡ list_any (λ s. s.tid == u) ss
names_done t u [] = refl
names_done t u (s ∷ ss) = ap (λ z. (s.tid == u) || z) (names_done t u ss)

turn_done : (t : ℕ) (e : Entry) (ss : List Slice) → TurnOf e ss → TurnOf (cell.done_in t e) ss
turn_done t (BatchEntry b) ss h = (h.0, weaker _ _ ss (λ x p. (names_done t x.tid b.slots ∙ p.0, all_map _ _ (cell.done_if t) b.slots (λ s q l. rw (q l) refl) p.1)) h.1, λ q. all_map _ _ (cell.done_if t) b.slots (λ s d. rw d refl) (h.2 q))
turn_done t (ActEntry x) ss h = h

pub done : (t : ℕ) (rs : List Ran) (es : List Entry) → Turns rs es → Turns rs (map (cell.done_in t) es)
done t [] [] h = tt
done t [] (e ∷ es) h = absurd h
done t (Gone y ss ∷ rs) es h = done t rs es h
done t (Stands y c ss ∷ rs) [] h = absurd h
done t (Stands y c ss ∷ rs) (e ∷ es) h = (owner t e ∙ h.0, turn_done t e ss h.1, done t rs es h.2)
  where
    owner : (t : ℕ) (e : Entry) → who_of (cell.done_in t e) ≡ who_of e
    owner t (BatchEntry b) = refl
    owner t (ActEntry x) = refl

all_done : (e : Entry) (k : ℕ) → is_all_done e ≡ true → (ss : List Slice) → TurnOf e ss → TurnOf (cell.complete_in k e) ss
all_done (BatchEntry b) k a ss h = (h.0, h.1, λ q. from b.slots a)
  where
    from : (ss : List Slot) → list_all (λ s. s.done) ss ≡ true → AllByRecursion (λ s. s.done ≡ true) ss
    from [] q = tt
    from (s ∷ ss) q = let p = and_parts s.done (list_all (λ s. s.done) ss) q in (p.0, from ss p.1)
all_done (ActEntry x) k a ss h = h

not_batch : (e : Entry) (k : ℕ) → is_who (who_of e) (OfBatch k) ≡ false → cell.complete_in k e ≡ e
not_batch (BatchEntry b) k q = rw q (same b.complete b)
  where
    same : (v : Bool) (b : Rattle.protocol.specs.Parts.PlacedBatch) → BatchEntry (record b { complete = b.complete || false }) ≡ BatchEntry b
    same v b = ap (λ z. BatchEntry (record b { complete = z })) (or_no b.complete)
      where
        or_no : (b : Bool) → (b || false) ≡ b
        or_no true = refl
        or_no false = refl
not_batch (ActEntry x) k q = refl

-- of two entries with the same owner in turn, the second one alone
none_batch : (k : ℕ) (es : List Entry) → is_key_among (OfBatch k) (map key_of es) ≡ false → map (cell.complete_in k) es ≡ es
none_batch k [] h = refl
none_batch k (e ∷ es) h = let p = or_parts (is_who (who_of e) (OfBatch k)) (is_key_among (OfBatch k) (map key_of es)) h in rw (not_batch e k p.0, none_batch k es p.1) refl

same_turns : (k : ℕ) (rs : List Ran) (es : List Entry) → Turns rs es → Turns (map (completed k) rs) es
same_turns k [] [] h = tt
same_turns k [] (e ∷ es) h = absurd h
same_turns k (Gone y ss ∷ rs) es h = same_turns k rs es h
same_turns k (Stands y c ss ∷ rs) [] h = absurd h
same_turns k (Stands y c ss ∷ rs) (e ∷ es) h = (h.0, h.1, same_turns k rs es h.2)

pub is_batch : (k : ℕ) (e : Entry) → is_batch_entry k e ≡ is_who (who_of e) (OfBatch k)
is_batch k (BatchEntry b) = refl
is_batch k (ActEntry x) = refl

pub complete : (k : ℕ) (own : Entry) (rs : List Ran) (es : List Entry) → find (is_batch_entry k) es ≡ Some own → is_all_done own ≡ true → Differ (map key_of es) → Turns rs es → Turns (map (completed k) rs) (map (cell.complete_in k) es)
complete k own [] [] f a d h = tt
complete k own [] (e ∷ es) f a d h = absurd h
complete k own (Gone y ss ∷ rs) es f a d h = complete k own rs es f a d h
complete k own (Stands y c ss ∷ rs) [] f a d h = absurd h
complete k own (Stands y c ss ∷ rs) (e ∷ es) f a d h = by (is_batch_entry k e) refl f (complete k own rs es)
  where
    owner : (e : Entry) → who_of (cell.complete_in k e) ≡ who_of e
    owner (BatchEntry b) = refl
    owner (ActEntry x) = refl

    by : (b : Bool) → is_batch_entry k e ≡ b → (if b then Some e else find (is_batch_entry k) es) ≡ Some own
        → (find (is_batch_entry k) es ≡ Some own → is_all_done own ≡ true → Differ (map key_of es) → Turns rs es → Turns (map (completed k) rs) (map (cell.complete_in k) es))
        → (who_of (cell.complete_in k e) ≡ y) × TurnOf (cell.complete_in k e) ss × Turns (map (completed k) rs) (map (cell.complete_in k) es)
    by true q g r =
        let same : e ≡ own = cc g in
        let who : who_of e ≡ OfBatch k = is_who_true (who_of e) (OfBatch k) (sym (is_batch k e) ∙ q) in
        (owner e ∙ h.0, all_done e k (ap is_all_done same ∙ a) ss h.1, rw (none_batch k es (subst (λ z. is_key_among z (map key_of es) ≡ false) who d.0)) (same_turns k rs es h.2))
    by false q g r = (owner e ∙ h.0, rw (not_batch e k (sym (is_batch k e) ∙ q)) h.1, r g a d.1 h.2)

-- ---- entries go

pub leave : (who : Who) (p : Entry → Bool) (rs : List Ran) (es : List Entry) → ((e : Entry) → is_who (who_of e) who ≡ p e) → Turns rs es → Turns (map (left_for_good who) rs) (filter (λ e. not (p e)) es)
leave who p [] [] f h = tt
leave who p [] (e ∷ es) f h = absurd h
leave who p (Gone y ss ∷ rs) es f h = leave who p rs es f h
leave who p (Stands y c ss ∷ rs) [] f h = absurd h
leave who p (Stands y c ss ∷ rs) (e ∷ es) f h = rw (ap (λ z. is_who z who) (sym h.0) ∙ f e) (by (p e) (leave who p rs es f h.2))
  where
    by : (b : Bool) → Turns (map (left_for_good who) rs) (filter (λ e. not (p e)) es) → Turns ((if b then Gone y ss else Stands y c ss) ∷ map (left_for_good who) rs) (if not b then e ∷ filter (λ e. not (p e)) es else filter (λ e. not (p e)) es)
    by true g = g
    by false g = (h.0, h.1, g)

pub undo : (who : Who) (p : Entry → Bool) (rs : List Ran) (es : List Entry) → ((e : Entry) → is_who (who_of e) who ≡ p e) → Turns rs es → Turns (without_standing who rs) (filter (λ e. not (p e)) es)
undo who p [] [] f h = tt
undo who p [] (e ∷ es) f h = absurd h
undo who p (Gone y ss ∷ rs) es f h = undo who p rs es f h
undo who p (Stands y c ss ∷ rs) [] f h = absurd h
undo who p (Stands y c ss ∷ rs) (e ∷ es) f h = rw (ap (λ z. is_who z who) (sym h.0) ∙ f e) (by (p e) (undo who p rs es f h.2))
  where
    by : (b : Bool) → Turns (without_standing who rs) (filter (λ e. not (p e)) es) → Turns (if b then without_standing who rs else Stands y c ss ∷ without_standing who rs) (if not b then e ∷ filter (λ e. not (p e)) es else filter (λ e. not (p e)) es)
    by true g = g
    by false g = (h.0, h.1, g)

pub roll_back : (cs : List Cascade) (rs : List Ran) (es : List Entry) → Turns rs es → Turns (long_staying cs rs) (cell.staying cs es)
roll_back cs [] [] h = tt
roll_back cs [] (e ∷ es) h = absurd h
roll_back cs (Gone y ss ∷ rs) es h = roll_back cs rs es h
roll_back cs (Stands y c ss ∷ rs) [] h = absurd h
roll_back cs (Stands y c ss ∷ rs) (e ∷ es) h = rw (ap (is_cut cs) h.0) (by (is_cut cs y) (roll_back cs rs es h.2))
  where
    by : (b : Bool) → Turns (long_staying cs rs) (cell.staying cs es) → Turns (if b then [] else Stands y c ss ∷ long_staying cs rs) (if b then [] else e ∷ cell.staying cs es)
    by true g = tt
    by false g = (h.0, h.1, g)

-- ---- a slice runs

rising_end : (low : ℕ) (ss : List Slice) (x : Slice) → low ≤ x.tid → AllByRecursion (λ z. z.tid ≤ x.tid) ss → Rising low ss → Rising low (ss ++ x ∷ [])
rising_end low [] x l a r = (l, tt)
rising_end low (z ∷ zs) x l a r = (r.0, rising_end z.tid zs x a.0 a.1 r.1)

-- a PACT that is not done is not smaller than one that ran
not_past : (t u : ℕ) (ss : List Slot) → list_any (λ s. s.tid == t) ss ≡ true → AllByRecursion (λ s. s.tid ≡ t → s.done ≡ false) ss → AllByRecursion (λ s. s.tid < u → s.done ≡ true) ss → u ≤ t
not_past t u [] n d p = absurd (true≢false (sym n))
not_past t u (s ∷ ss) n d p = elim (or_cases (s.tid == t) (list_any (λ s. s.tid == t) ss) n) [
  | inl e ↦ let q : s.tid ≡ t = eqb-true s.tid t e in elim (cases_lt t u) [ inl l ↦ absurd (true≢false (sym (p.0 (omega (arith, q, l))) ∙ d.0 q)) | inr g ↦ g ]
  | inr e ↦ not_past t u ss e d.1 p.1
]

turns_past : (t : ℕ) (ss : List Slot) → list_all (λ s. nat_le t s.tid || s.done) ss ≡ true → AllByRecursion (λ s. s.tid < t → s.done ≡ true) ss
turns_past t [] h = tt
turns_past t (s ∷ ss) h =
    let p = and_parts (nat_le t s.tid || s.done) (list_all (λ s. nat_le t s.tid || s.done) ss) h in
    (λ l. elim (or_cases (nat_le t s.tid) s.done p.0) [ inl a ↦ absurd (omega (arith, leb-true t s.tid a, l)) | inr b ↦ b ], turns_past t ss p.1)

turn_runs : (t : ℕ) (e : Entry) (ss : List Slice) (x : Slice) → is_reader_entry e ≡ false → x.tid ≡ t → is_entry_of t e ≡ true → is_turn_of t e ≡ true → NotDone t e → TurnOf e ss → TurnOf e (ss ++ x ∷ [])
turn_runs t (BatchEntry b) ss x r i o c n h =
    (rising_end 0 ss x (omega arith) (weaker _ _ ss (λ z p. omega (arith, i, not_past t z.tid b.slots o n p.1)) h.1) h.0, all_push _ ss x h.1 (rw i (o, turns_past t b.slots c)), h.2)
turn_runs t (ActEntry y) ss x r i o c n h = (all_push _ ss x h.0 (i ∙ sym (eqb-true y.tid t o)), λ q. absurd (true≢false (sym q ∙ r)))

among_turns : (who : Who) (rs : List Ran) (es : List Entry) → Turns rs es → is_key_among who (keys_in rs) ≡ is_key_among who (map key_of es)
among_turns who [] [] h = refl
among_turns who [] (e ∷ es) h = absurd h
among_turns who (Gone y ss ∷ rs) es h = among_turns who rs es h
among_turns who (Stands y c ss ∷ rs) [] h = absurd h
among_turns who (Stands y c ss ∷ rs) (e ∷ es) h = rw (h.0, among_turns who rs es h.2) refl

who_among : (t : ℕ) (own : Entry) (es : List Entry) → find (is_entry_of t) es ≡ Some own → is_key_among (who_on t es) (map key_of es) ≡ true
who_among t own [] f = absurd (cc f)
who_among t own (e ∷ es) f = by (is_entry_of t e) f (who_among t own es)
  where
    or_true : (b : Bool) → (b || true) ≡ true
    or_true true = refl
    or_true false = refl

    by : (b : Bool) → (if b then Some e else find (is_entry_of t) es) ≡ Some own → (find (is_entry_of t) es ≡ Some own → is_key_among (who_on t es) (map key_of es) ≡ true)
        → (is_who (who_of e) (if b then who_of e else who_on t es) || is_key_among (if b then who_of e else who_on t es) (map key_of es)) ≡ true
    by true g k = rw (is_who_refl (who_of e)) refl
    by false g k = rw (k g) (or_true (is_who (who_of e) (who_on t es)))

pub run : (t : ℕ) (own : Entry) (x : Slice) (rs : List Ran) (es : List Entry) → is_reader_entry own ≡ false → x.tid ≡ t → find (is_entry_of t) es ≡ Some own → is_turn_of t own ≡ true → NotDone t own → Differ (map key_of es) → Turns rs es → Turns (map (ran_in (who_on t es) x) rs) es
run t own x [] [] v i f c n d h = tt
run t own x [] (e ∷ es) v i f c n d h = absurd h
run t own x (Gone y ss ∷ rs) es v i f c n d h = run t own x rs es v i f c n d h
run t own x (Stands y q ss ∷ rs) [] v i f c n d h = absurd h
run t own x (Stands y q ss ∷ rs) (e ∷ es) v i f c n d h = by (is_entry_of t e) refl f (λ g. run t own x rs es v i g c n d.1 h.2)
  where
    by : (b : Bool) → is_entry_of t e ≡ b → (if b then Some e else find (is_entry_of t) es) ≡ Some own → (find (is_entry_of t) es ≡ Some own → Turns (map (ran_in (who_on t es) x) rs) es)
        → (who_of e ≡ y) × TurnOf e (if is_who y (if b then who_of e else who_on t es) then ss ++ x ∷ [] else ss) × Turns (map (ran_in (if b then who_of e else who_on t es) x) rs) es
    by true o g k =
        let same : e ≡ own = cc g in (
          h.0,
          rw (sym h.0, is_who_refl (who_of e)) (turn_runs t e ss x (ap is_reader_entry same ∙ v) i o (ap (is_turn_of t) same ∙ c) (subst (NotDone t) (sym same) n) h.1),
          rw (TrackLists.ran_free (who_of e) x rs (among_turns (who_of e) rs es h.2 ∙ d.0)) h.2,
        )
    by false o g k =
        let other : is_who y (who_on t es) ≡ false = false_from_ne_true (is_who y (who_on t es)) (λ v. true≢false (sym (who_among t own es g) ∙ subst (λ z. is_key_among z (map key_of es) ≡ false) (h.0 ∙ is_who_true y (who_on t es) v) d.0)) in
        (h.0, rw other h.1, k g)

-- who is not done is not of a complete batch
pub not_complete : (t : ℕ) (own : Entry) (rs : List Ran) (es : List Entry) → find (is_entry_of t) es ≡ Some own → NotDone t own → Turns rs es → complete_mark own ≡ false
not_complete t own [] [] f n h = absurd (cc f)
not_complete t own [] (e ∷ es) f n h = absurd h
not_complete t own (Gone y ss ∷ rs) es f n h = not_complete t own rs es f n h
not_complete t own (Stands y q ss ∷ rs) [] f n h = absurd h
not_complete t own (Stands y q ss ∷ rs) (e ∷ es) f n h = by (is_entry_of t e) refl f (λ g. not_complete t own rs es g n h.2)
  where
    none : (ss : List Slot) → list_any (λ s. s.tid == t) ss ≡ true → AllByRecursion (λ s. s.tid ≡ t → s.done ≡ false) ss → AllByRecursion (λ s. s.done ≡ true) ss → ⊥
    none [] a b c = true≢false (sym a)
    none (s ∷ ss) a b c = elim (or_cases (s.tid == t) (list_any (λ s. s.tid == t) ss) a) [ inl q ↦ true≢false (sym c.0 ∙ b.0 (eqb-true s.tid t q)) | inr q ↦ none ss q b.1 c.1 ]

    own_mark : (e : Entry) (ss : List Slice) → is_entry_of t e ≡ true → NotDone t e → TurnOf e ss → complete_mark e ≡ false
    own_mark (BatchEntry b) ss o n h = false_from_ne_true b.complete (λ v. none b.slots o n (h.2 v))
    own_mark (ActEntry x) ss o n h = refl

    by : (b : Bool) → is_entry_of t e ≡ b → (if b then Some e else find (is_entry_of t) es) ≡ Some own → (find (is_entry_of t) es ≡ Some own → complete_mark own ≡ false) → complete_mark own ≡ false
    by true o g k = let same : e ≡ own = cc g in subst (λ z. complete_mark z ≡ false) same (own_mark e ss o (subst (NotDone t) (sym same) n) h.1)
    by false o g k = k g
