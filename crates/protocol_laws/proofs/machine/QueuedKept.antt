-- PACTs of the desk are PACTs of the text, and the actors of batches exist.
use Rattle.std.specs.Prelude.{◌≡◌, refl, ℕ, zero, suc, ◌+◌, ◌%◌, ◌≤◌, ◌<◌, ◌==◌, Bool, true, false, ◌⊎◌, if◌then◌else◌, Option, Some, None, is_some, List, [], ◌∷◌, ◌++◌, length, map, take, replicate, ◌&&◌, not}
use Rattle.std.specs.List.{AllByRecursion}
use Rattle.std.proofs.Common.{arith, sym, ap, subst, inl, inr, ◌∙◌}
use Rattle.std.proofs.lemmas.Bool.{true≢false, eqb-true, eq-eqb, ne_eqb, or_cases, le-leb}
use Rattle.snap_base.specs.declared.transactions.TxResult.{TxResult}
use Rattle.protocol.specs.Fixed.{Fixed, base, tx_at, is_pact, Next, Go, Ended}
use Rattle.protocol.specs.Parts.{Act, Declared, Pact, Batch, Committing, Settled, Who, OfBatch, OfAct, Outcome, Machine}
use Rattle.protocol.specs.Events.{Event, Submit, Form, Admit, Run, End, Note, Commit, Settle, Abort, Decide, Trim}
use Rattle.protocol.specs.Words.{holds, below, act_of, is_value, is_who, has_act, outcome_of}
use Rattle.protocol.specs.Conditions.{IsAllowed, conditions, queue}
use Rattle.protocol.specs.Effects.{after, cell_at}
use Rattle.protocol.specs.Runs.{opening, new_cell}
use Rattle.protocol.specs.OnRing as ring
use Rattle.protocol.specs.OnRing.{joined_at}
use Rattle.protocol.specs.OnDesk as desk
use Rattle.protocol.specs.History.{History, Trail, grown, begun, kept_act}
use Rattle.protocol_laws.specs.Told.{PactsAscend}
use Rattle.protocol_laws.specs.Commits.{is_kept}
use Rattle.protocol_laws.specs.Befores.{is_above}
use Rattle.protocol_laws.proofs.first.Times
use Rattle.protocol_laws.proofs.first.SettlingKept as settling
use Rattle.protocol_laws.proofs.machine.BeforesKept as befores
use Rattle.protocol_laws.proofs.machine.TrailsKept.{begun_below, new_tids}
use Rattle.protocol_laws.proofs.machine.Resting as resting
use Rattle.protocol_laws.proofs.machine.Resting.{EachPact}
use Rattle.protocol_laws.proofs.machine.ActsFound
use Rattle.protocol_laws.proofs.machine.ActsKept.{KnownActs, settled_rises}
use Rattle.protocol_laws.proofs.first.Lists.{all_drop, all_filter, all_get, all_join, all_map, all_set, all_take, both_all, weaker}
use Rattle.protocol_laws.proofs.first.EpochsKept.{below_all, length_lasts}
use Rattle.protocol_laws.proofs.first.RangesNamed.{cells_stay}

-- ---- what waits at the coordinators as PACTs are PACTs

abbrev pub IsPact : {C : Type 0} → Fixed C → ℕ → Type 0
IsPact w n = is_pact (tx_at w.text n) ≡ true

unfoldable pub Waits : {C : Type 0} → Fixed C → Machine C → Type 0
Waits w s = AllByRecursion (λ q. AllByRecursion (IsPact w) q) s.ring.pacts

pub waits_kept : {C : Type 0} (w : Fixed C) (e : Event) (s : Machine C) → Waits w s → Waits w (after w e s)
unfolding Waits after
waits_kept w (Submit n) s h = by (is_pact (tx_at w.text n)) refl
  where
    by : (b : Bool) → is_pact (tx_at w.text n) ≡ b → AllByRecursion (λ q. AllByRecursion (IsPact w) q) (if b then joined_at (n % w.text.coordinators) n s.ring.pacts else s.ring.pacts)
    by true e = all_set _ s.ring.pacts _ _ (all_join _ (queue s.ring.pacts (n % w.text.coordinators)) (n ∷ []) (all_get (λ q. AllByRecursion (IsPact w) q) s.ring.pacts _ [] tt h) (e, tt)) h
    by false e = h
waits_kept w (Form k) s h = all_set _ s.ring.pacts _ _ (all_drop _ w.text.batch (queue s.ring.pacts s.ring.holder) (all_get (λ q. AllByRecursion (IsPact w) q) s.ring.pacts _ [] tt h)) h
waits_kept w e s h = h

numbered_pacts : {C : Type 0} (w : Fixed C) (t : ℕ) (ns : List ℕ) → AllByRecursion (IsPact w) ns → AllByRecursion (λ p. IsPact w p.tx) (ring.numbered t ns)
numbered_pacts w t [] h = tt
numbered_pacts w t (n ∷ ns) h = (h.0, numbered_pacts w (t + 1) ns h.1)

next_are : {C : Type 0} (w : Fixed C) (s : Machine C) → Waits w s → AllByRecursion (λ p. IsPact w p.tx) (ring.next_pacts w.text s.ring)
unfolding Waits
next_are w s h = numbered_pacts w s.ring.next_tid _ (all_take _ w.text.batch (queue s.ring.pacts s.ring.holder) (all_get (λ q. AllByRecursion (IsPact w) q) s.ring.pacts _ [] tt h))

-- ---- PACTs of the desk

abbrev pub IsOfPact : {C : Type 0} → Fixed C → (ℕ → Trail) → ℕ → Option TxResult → Type 0
IsOfPact w trails t r = IsPact w (trails t).tx

unfoldable pub OfPacts : {C : Type 0} → Fixed C → Machine C → History → Type 0
OfPacts w s h = EachPact (IsOfPact w h.trails) s.desk.batches

new_are : {C : Type 0} (w : Fixed C) (low : ℕ) (ps : List Pact) (f g : ℕ → Trail) → PactsAscend low ps → ((u : ℕ) → low ≤ u → g u ≡ begun ps f u) → AllByRecursion (λ p. IsPact w p.tx) ps → AllByRecursion (λ p. IsPact w (g p.tid).tx) ps
new_are w low [] f g a e h = tt
new_are w low (p ∷ ps) f g a e h = (let own : (begun (p ∷ ps) f p.tid).tx ≡ p.tx = rw (eq-eqb p.tid p.tid refl) refl in subst (IsPact w) (sym (ap (λ z. z.tx) (e p.tid a.0) ∙ own)) h.0, new_are w (p.tid + 1) ps f g a.1 (λ u l. e u (omega (arith, l, a.0)) ∙ rw (ne_eqb u p.tid (λ q. omega (arith, q, l))) refl) h.1)

old_are : {C : Type 0} (w : Fixed C) (next : ℕ) (f g : ℕ → Trail) (bs : List Batch) → ((u : ℕ) → u < next → (g u).tx ≡ (f u).tx) → EachPact (λ t r. t < next) bs → EachPact (IsOfPact w f) bs → EachPact (IsOfPact w g) bs
old_are w next f g bs e d h = both_all _ _ _ bs (λ b x y. both_all _ _ _ b.pacts (λ p i j. subst (IsPact w) (sym (e p.tid i)) j) x y) d h

pub of_pacts_kept : {C : Type 0} (w : Fixed C) (e : Event) (s : Machine C) (h : History) → IsAllowed w e s → resting.Drawn s → Waits w s → OfPacts w s h → OfPacts w (after w e s) (grown w e s h)
unfolding OfPacts resting.Drawn conditions grown
of_pacts_kept w (Form k) s h ok d q g =
    let asc = new_tids s.ring.next_tid s.ring.next_tid (take w.text.batch (queue s.ring.pacts s.ring.holder)) (omega arith) in
    resting.each_stays w (Form k) s (IsOfPact w (begun (ring.next_pacts w.text s.ring) h.trails)) (λ j f. new_are w s.ring.next_tid (ring.next_pacts w.text s.ring) h.trails (begun (ring.next_pacts w.text s.ring) h.trails) asc (λ u l. refl) (next_are w s q)) (λ t a f u o r i p. p)
    (old_are w s.ring.next_tid h.trails (begun (ring.next_pacts w.text s.ring) h.trails) s.desk.batches (λ u l. ap (λ z. z.tx) (begun_below (ring.next_pacts w.text s.ring) s.ring.next_tid u h.trails asc l)) d g)
of_pacts_kept w (Admit t) s h ok d q g =
    let j : t ≡ s.ring.next_tid = eqb-true t s.ring.next_tid ok.0 in
    resting.each_stays w (Admit t) s (IsOfPact w (grown w (Admit t) s h).trails) (λ j f. absurd (cc f)) (λ t a f u o r i p. p)
    (old_are w s.ring.next_tid h.trails (grown w (Admit t) s h).trails s.desk.batches (λ u l. rw (ne_eqb u t (λ v. omega (arith, v, j, l))) refl) d g)
of_pacts_kept w (Run t a) s h ok d q g =
    resting.each_stays w (Run t a) s (IsOfPact w (grown w (Run t a) s h).trails) (λ j f. absurd (cc f)) (λ t a f u o r i p. p)
    (old_are w s.ring.next_tid h.trails (grown w (Run t a) s h).trails s.desk.batches (λ u l. same u (u == t) refl _) d g)
  where
    same : (u : ℕ) (b : Bool) → (u == t) ≡ b → (x : Rattle.protocol.specs.History.Step) → (if b then Rattle.protocol.specs.History.gone_on x (h.trails t) else h.trails u).tx ≡ (h.trails u).tx
    same u true e x = ap (λ z. (h.trails z).tx) (sym (eqb-true u t e))
    same u false e x = refl
of_pacts_kept w e s h ok d q g = resting.each_stays w e s (IsOfPact w h.trails) (λ j f. absurd (cc f)) (λ t a f u o r i p. p) g

-- ---- actors of batches

abbrev pub EachPlace : ℕ → List Batch → Type 0
EachPlace n bs = AllByRecursion (λ b. AllByRecursion (λ p. p.actor < n) b.places) bs

pub record Sizes {C : Type 0} (w : Fixed C) (s : Machine C) : Type 0 where
  pub lasts : length s.ring.lasts ≡ length s.cells
  pub places : EachPlace (length s.cells) s.desk.batches
  pub based : base w.text ≤ s.desk.settled

marked_places : (n a : ℕ) (f : Declared → Declared) (ps : List Declared) → ((p : Declared) → (f p).actor ≡ p.actor) → AllByRecursion (λ p. p.actor < n) ps → AllByRecursion (λ p. p.actor < n) (map (λ p. desk.mark_if (p.actor == a) f p) ps)
marked_places n a f [] i h = tt
marked_places n a f (p ∷ ps) i h = (by (p.actor == a), marked_places n a f ps i h.1)
  where
    by : (v : Bool) → (desk.mark_if v f p).actor < n
    by true = omega (arith, i p, h.0)
    by false = h.0

if_places : (n : ℕ) (v : Bool) (f : Batch → Batch) (b : Batch) → (AllByRecursion (λ p. p.actor < n) b.places → AllByRecursion (λ p. p.actor < n) (f b).places) → AllByRecursion (λ p. p.actor < n) b.places → AllByRecursion (λ p. p.actor < n) (desk.change_if v f b).places
if_places n true f b k h = k h
if_places n false f b k h = h

places_stay : {C : Type 0} (w : Fixed C) (e : Event) (s : Machine C) (n : ℕ) → length s.ring.lasts ≡ n → EachPlace n s.desk.batches → EachPlace n (after w e s).desk.batches
unfolding after
places_stay w (Form k) s n l h = all_join _ s.desk.batches _ h (all_map _ _ desk.new_declared _ (λ a i. i) (all_filter _ _ (below (length s.ring.lasts)) (weaker (λ a. a < length s.ring.lasts) (λ a. a < n) (below (length s.ring.lasts)) (λ a i. omega (arith, i, l)) (below_all (length s.ring.lasts)))), tt)
places_stay {C} w (End t a) s n l h = by (has_act t (cell_at s a).entries) (outcome_of t (cell_at s a).outbox)
  where
    next : (x : Next C) → EachPlace n (desk.noted_for t x s.desk.batches)
    next (Go b y) = h
    next (Ended r) = all_map _ _ (desk.with_results t r) s.desk.batches (λ b i. i) h

    by : (v : Bool) (o : Option (Outcome C)) → EachPlace n (if v then s.desk.batches else desk.noted_from t o s.desk.batches)
    by true o = h
    by false None = h
    by false (Some x) = next x.next
places_stay w (Note k a) s n l h = all_map _ _ _ s.desk.batches (λ b i. if_places n (b.bid == k) (desk.marked a desk.is_noted) b (λ j. marked_places n a desk.is_noted b.places (λ p. refl) j) i) h
places_stay w (Commit k) s n l h = all_map _ _ _ s.desk.batches (λ b i. if_places n (b.bid == k) (desk.with_stage Committing) b (λ j. j) i) h
places_stay w (Settle k) s n l h = all_map _ _ _ s.desk.batches (λ b i. if_places n (b.bid == k) (desk.with_stage Settled) b (λ j. j) i) h
places_stay w (Abort k) s n l h = all_map _ _ (desk.taken k) s.desk.batches (λ b i. i) h
places_stay w (Trim k a) s n l h = all_map _ _ _ s.desk.batches (λ b i. if_places n (b.bid == k) (desk.marked a desk.is_trimmed) b (λ j. marked_places n a desk.is_trimmed b.places (λ p. refl) j) i) h
places_stay w e s n l h = h

pub replicated : {X : Type 0} (n : ℕ) (x : X) → length (replicate n x) ≡ n
replicated zero x = refl
replicated (suc n) x = ap suc (replicated n x)

lasts_stay : {C : Type 0} (w : Fixed C) (e : Event) (s : Machine C) → length (after w e s).ring.lasts ≡ length s.ring.lasts
unfolding after
lasts_stay w (Form k) s = length_lasts k (ring.next_actors w.text s.ring) s.ring.lasts
lasts_stay w (Abort k) s = replicated (length s.ring.lasts) 0
lasts_stay w e s = refl

pub sizes_kept : {C : Type 0} (w : Fixed C) (e : Event) (s : Machine C) → IsAllowed w e s → settling.Settling w s → Sizes w s → Sizes w (after w e s)
sizes_kept w e s ok g z = record {
  lasts = lasts_stay w e s ∙ (z.lasts ∙ sym (cells_stay w e s));
  places = subst (λ n. EachPlace n (after w e s).desk.batches) (sym (cells_stay w e s)) (places_stay w e s (length s.cells) z.lasts z.places);
  based = omega (arith, z.based, settled_rises w e s ok g);
}

-- ---- who is kept is in the book

above_some : (o : Option Act) → holds (is_above 0) o ≡ true → is_some o ≡ true
above_some None e = absurd (true≢false (sym e))
above_some (Some x) e = refl

some_above : (o : Option Act) → is_some o ≡ true → holds (is_above 0) o ≡ true
some_above None e = absurd (true≢false (sym e))
some_above (Some x) e = Rattle.std.proofs.lemmas.Bool.or_right (Rattle.protocol.specs.Words.is_doomed x.status) _ (le-leb 0 x.m (omega arith))

pub in_book : {C : Type 0} (w : Fixed C) (e : Event) (s : Machine C) (t : ℕ) → is_some (act_of t s.book.acts) ≡ true → is_some (act_of t (after w e s).book.acts) ≡ true
in_book w e s t h = above_some _ (befores.book_stays w e s 0 t (some_above (act_of t s.book.acts) h))

pub found_some : (p : Act → Bool) (o : Option Act) → holds p o ≡ true → is_some o ≡ true
found_some p None e = absurd (true≢false (sym e))
found_some p (Some x) e = refl

join_back : (t : ℕ) (xs ys : List Who) → is_kept (OfAct t) (xs ++ ys) ≡ true → (is_kept (OfAct t) xs ≡ true) ⊎ (is_kept (OfAct t) ys ≡ true)
join_back t [] ys h = inr h
join_back t (x ∷ xs) ys h = elim (or_cases (is_who x (OfAct t)) (is_kept (OfAct t) (xs ++ ys)) h) [ inl q ↦ inl (Rattle.std.proofs.lemmas.Bool.or_left (is_who x (OfAct t)) _ q) | inr q ↦ more (join_back t xs ys q) ]
  where
    more : (is_kept (OfAct t) xs ≡ true) ⊎ (is_kept (OfAct t) ys ≡ true) → (is_kept (OfAct t) (x ∷ xs) ≡ true) ⊎ (is_kept (OfAct t) ys ≡ true)
    more (inl q) = inl (Rattle.std.proofs.lemmas.Bool.or_right (is_who x (OfAct t)) _ q)
    more (inr q) = inr q

own_kept : (t u : ℕ) (acts : List Act) (o : Option Act) → act_of u acts ≡ o → is_kept (OfAct t) (kept_act o) ≡ true → is_some (act_of t acts) ≡ true
own_kept t u acts None e h = absurd (true≢false (sym h))
own_kept t u acts (Some x) e h = by (is_value x.result && not x.reader) h
  where
    by : (b : Bool) → is_kept (OfAct t) (if b then OfAct x.tid ∷ [] else []) ≡ true → is_some (act_of t acts) ≡ true
    by true q = elim (or_cases (x.tid == t) false q) [ inl v ↦ subst (λ z. is_some (act_of z acts) ≡ true) (sym (ActsFound.found_tid u x acts e) ∙ eqb-true x.tid t v) (ap is_some e) | inr v ↦ absurd (true≢false (sym v)) ]
    by false q = absurd (true≢false (sym q))

pub known_kept : {C : Type 0} (w : Fixed C) (e : Event) (s : Machine C) (h : History) → KnownActs s h → KnownActs (after w e s) (grown w e s h)
unfolding KnownActs grown
known_kept w (Commit k) s h g = λ t q. in_book w (Commit k) s t (elim (join_back t h.kept (OfBatch k ∷ []) q) [ inl v ↦ g t v | inr v ↦ absurd (true≢false (sym v)) ])
known_kept w (Decide u) s h g = λ t q. in_book w (Decide u) s t (elim (join_back t h.kept _ q) [ inl v ↦ g t v | inr v ↦ own_kept t u s.book.acts (act_of u s.book.acts) refl v ])
known_kept w e s h g = λ t q. in_book w e s t (g t q)

-- ---- the opening

no_waits : {C : Type 0} (w : Fixed C) (n : ℕ) → AllByRecursion (λ q. AllByRecursion (IsPact w) q) (replicate n [])
no_waits w zero = tt
no_waits w (suc n) = (tt, no_waits w n)

pub waits_opened : {C : Type 0} (w : Fixed C) → Waits w (opening w)
unfolding Waits
waits_opened w = no_waits w w.text.coordinators

pub sizes_opened : {C : Type 0} (w : Fixed C) → Sizes w (opening w)
sizes_opened {C} w = record { lasts = replicated (length w.text.opening.states) 0 ∙ sym (Times.length_map (new_cell {C = C} (base w.text)) w.text.opening.states); places = tt; based = omega arith }
