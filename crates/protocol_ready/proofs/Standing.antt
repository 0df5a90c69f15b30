-- Who stands on a schedule, is clear there and has the turn, stays so while others come behind, are marked or leave.
use Rattle.std.specs.Prelude.{◌≡◌, refl, ℕ, ◌==◌, nat_le, Bool, true, false, not, ◌||◌, if◌then◌else◌, Option, Some, None, List, [], ◌∷◌, ◌++◌, map, filter, find, slice_get}
use Rattle.std.specs.List.{list_any, list_all}
use Rattle.std.proofs.Common.{sym, ap, subst, ◌∙◌}
use Rattle.std.proofs.lemmas.Bool.{eqb-true, eq-eqb, true≢false, and_parts}
use Rattle.protocol.specs.Fixed.{Fixed}
use Rattle.protocol.specs.Parts.{Cell, Entry, BatchEntry, ActEntry, Machine}
use Rattle.protocol.specs.Events.{Event, Arrive, Ask, Take, Run, Send, End, Close, Complete, Rollback, Finish, Trim}
use Rattle.protocol.specs.Words.{holds, ahead, is_entry_of, is_act_entry, is_batch_entry, is_complete_batch, is_over_for, is_turn_of, is_undone, is_all_done, is_clear, has_entry, has_undone}
use Rattle.protocol.specs.Conditions.{cell_is, has_its_turn, lacks_completion, is_complete_ahead, has_done_all}
use Rattle.protocol.specs.Effects.{after, cell_at}
use Rattle.protocol.specs.OnCell as cell
use Rattle.protocol_laws.proofs.first.Lists.{list_all_mapped}
use Rattle.protocol_ready.specs.Refusing.{is_at, done_by, left_by, cut_by}
use Rattle.protocol_ready.proofs.TouchedParts.{put_went, own_done, own_complete, undone_done, undone_complete}

-- ---- the first that is meant, and what stands ahead of it

-- it is there, and passes the test with all that stands ahead of it
abbrev pub stands : (Entry → Bool) → (Entry → List Entry → Bool) → List Entry → Bool
stands meant test es = holds (λ own. test own (ahead meant es)) (find meant es)

any_stands : (meant : Entry → Bool) (es : List Entry) → list_any meant es ≡ stands meant (λ own front. true) es
any_stands meant [] = refl
any_stands meant (e ∷ es) = by (meant e) (any_stands meant es)
  where
    by : (b : Bool) → list_any meant es ≡ stands meant (λ own front. true) es → (b || list_any meant es) ≡ holds (λ own. true) (if b then Some e else find meant es)
    by true r = refl
    by false r = r

-- others come behind
stands_first : (meant : Entry → Bool) (test : Entry → List Entry → Bool) (es more : List Entry) → stands meant test es ≡ true → stands meant test (es ++ more) ≡ true
stands_first meant test [] more h = absurd (true≢false (sym h))
stands_first meant test (e ∷ es) more h = by (meant e) h (stands_first meant (λ own front. test own (e ∷ front)) es more)
  where
    by : (b : Bool) → holds (λ own. test own (if b then [] else e ∷ ahead meant es)) (if b then Some e else find meant es) ≡ true
        → (stands meant (λ own front. test own (e ∷ front)) es ≡ true → stands meant (λ own front. test own (e ∷ front)) (es ++ more) ≡ true)
        → holds (λ own. test own (if b then [] else e ∷ ahead meant (es ++ more))) (if b then Some e else find meant (es ++ more)) ≡ true
    by true i r = i
    by false i r = r i

-- all are marked
stands_marked : (meant : Entry → Bool) (mark : Entry → Entry) (before behind : Entry → List Entry → Bool) (es : List Entry) → ((e : Entry) → meant (mark e) ≡ meant e)
    → ((own : Entry) (front : List Entry) → meant own ≡ true → before own front ≡ true → behind (mark own) (map mark front) ≡ true) → stands meant before es ≡ true → stands meant behind (map mark es) ≡ true
stands_marked meant mark before behind [] same kept h = absurd (true≢false (sym h))
stands_marked meant mark before behind (e ∷ es) same kept h =
    rw (same e) (by (meant e) refl h (stands_marked meant mark (λ own front. before own (e ∷ front)) (λ own front. behind own (mark e ∷ front)) es same (λ own front. kept own (e ∷ front))))
  where
    by : (b : Bool) → meant e ≡ b → holds (λ own. before own (if b then [] else e ∷ ahead meant es)) (if b then Some e else find meant es) ≡ true
        → (stands meant (λ own front. before own (e ∷ front)) es ≡ true → stands meant (λ own front. behind own (mark e ∷ front)) (map mark es) ≡ true)
        → holds (λ own. behind own (if b then [] else mark e ∷ ahead meant (map mark es))) (if b then Some (mark e) else find meant (map mark es)) ≡ true
    by true m i r = kept e [] m i
    by false m i r = r i

-- some leave, and no one that is meant
stands_left : (meant goes : Entry → Bool) (before behind : Entry → List Entry → Bool) (es : List Entry) → ((e : Entry) → meant e ≡ true → goes e ≡ false)
    → ((own : Entry) (front : List Entry) → before own front ≡ true → behind own (filter (λ e. not (goes e)) front) ≡ true) → stands meant before es ≡ true → stands meant behind (filter (λ e. not (goes e)) es) ≡ true
stands_left meant goes before behind [] stays kept h = absurd (true≢false (sym h))
stands_left meant goes before behind (e ∷ es) stays kept h = by (meant e) refl (goes e) refl h (λ after. stands_left meant goes (λ own front. before own (e ∷ front)) after es stays)
  where
    with_front : (c : Bool) → goes e ≡ c → (own : Entry) (front : List Entry) → before own (e ∷ front) ≡ true → behind own (if not c then e ∷ filter (λ e. not (goes e)) front else filter (λ e. not (goes e)) front) ≡ true
    with_front c g own front j = subst (λ c. behind own (if not c then e ∷ filter (λ e. not (goes e)) front else filter (λ e. not (goes e)) front) ≡ true) g (kept own (e ∷ front) j)

    by : (b : Bool) → meant e ≡ b → (c : Bool) → goes e ≡ c → holds (λ own. before own (if b then [] else e ∷ ahead meant es)) (if b then Some e else find meant es) ≡ true
        → ((after : Entry → List Entry → Bool) → ((own : Entry) (front : List Entry) → before own (e ∷ front) ≡ true → after own (filter (λ e. not (goes e)) front) ≡ true) → stands meant (λ own front. before own (e ∷ front)) es ≡ true → stands meant after (filter (λ e. not (goes e)) es) ≡ true)
        → stands meant behind (if not c then e ∷ filter (λ e. not (goes e)) es else filter (λ e. not (goes e)) es) ≡ true
    by true m true g i r = absurd (true≢false (sym g ∙ stays e m))
    by true m false g i r = rw m (kept e [] i)
    by false m true g i r = r behind (with_front true g) i
    by false m false g i r = rw m (r (λ own front. behind own (e ∷ front)) (with_front false g) i)

-- ---- what such a test has to bear of an event on the actor

pub record BearsMark (meant : Entry → Bool) (test : Entry → List Entry → Bool) (mark : Entry → Entry) : Type 0 where
  pub same : (e : Entry) → meant (mark e) ≡ meant e
  pub kept : (own : Entry) (front : List Entry) → meant own ≡ true → test own front ≡ true → test (mark own) (map mark front) ≡ true

pub record BearsLeaving (meant : Entry → Bool) (test : Entry → List Entry → Bool) (goes : Entry → Bool) : Type 0 where
  pub stays : (e : Entry) → meant e ≡ true → goes e ≡ false
  pub kept : (own : Entry) (front : List Entry) → test own front ≡ true → test own (filter (λ e. not (goes e)) front) ≡ true

pub record Bears (meant : Entry → Bool) (test : Entry → List Entry → Bool) (e : Event) (a : ℕ) : Type 0 where
  pub done : (t : ℕ) → is_at t (done_by e) ≡ true → BearsMark meant test (cell.done_in t)
  pub complete : (k : ℕ) → Complete k a ≡ e → BearsMark meant test (cell.complete_in k)
  pub left : (t : ℕ) → is_at t (left_by e) ≡ true → BearsLeaving meant test (is_act_entry t)

pub stands_on : {C : Type 0} (w : Fixed C) (e : Event) (s : Machine C) (a : ℕ) (meant : Entry → Bool) (test : Entry → List Entry → Bool) → is_at a (cut_by e) ≡ false → Bears meant test e a
    → cell_is (λ c. stands meant test c.entries) a s ≡ true → cell_is (λ c. stands meant test c.entries) a (after w e s) ≡ true
unfolding after
stands_on w (Arrive k b) s a meant test h m = put_went _ s a b _ (λ e. stands_first meant test (cell_at s b).entries _)
stands_on w (Ask t b) s a meant test h m = put_went _ s a b _ (λ e. stands_first meant test (cell_at s b).entries _)
stands_on w (Run t b) s a meant test h m = put_went _ s a b _ (λ e. by (cell.is_done_after w.code b (cell.slice_of w.code t (cell_at s b))))
  where
    by : (z : Bool) → stands meant test (cell_at s b).entries ≡ true → stands meant test (if z then map (cell.done_in t) (cell_at s b).entries else (cell_at s b).entries) ≡ true
    by true = let d = m.done t (eq-eqb t t refl) in stands_marked meant (cell.done_in t) test test (cell_at s b).entries d.same d.kept
    by false = λ i. i
stands_on w (Close t b) s a meant test h m = let d = m.done t (eq-eqb t t refl) in put_went _ s a b _ (λ e. stands_marked meant (cell.done_in t) test test (cell_at s b).entries d.same d.kept)
stands_on w (Complete k b) s a meant test h m = put_went _ s a b _ (λ e. let d = m.complete k (ap (Complete k) (sym (eqb-true b a e))) in stands_marked meant (cell.complete_in k) test test (cell_at s b).entries d.same d.kept)
stands_on w (Finish t b) s a meant test h m = let d = m.left t (eq-eqb t t refl) in put_went _ s a b _ (λ e. stands_left meant (is_act_entry t) test test (cell_at s b).entries d.stays d.kept)
stands_on w (Rollback b) s a meant test h m = put_went _ s a b _ (λ e. absurd (true≢false (sym e ∙ h)))
stands_on w (Trim k b) s a meant test h m = put_went _ s a b _ (λ e. absurd (true≢false (sym e ∙ h)))
stands_on w (Take t b) s a meant test h m = put_went _ s a b _ (λ e i. i)
stands_on w (Send t b) s a meant test h m = put_went _ s a b _ (λ e i. i)
stands_on w (End t b) s a meant test h m = put_went _ s a b _ (λ e i. i)
stands_on w _ s a meant test h m = λ i. i

any_on : {C : Type 0} (w : Fixed C) (e : Event) (s : Machine C) (a : ℕ) (meant : Entry → Bool) → is_at a (cut_by e) ≡ false → Bears meant (λ own front. true) e a
    → cell_is (λ c. list_any meant c.entries) a s ≡ true → cell_is (λ c. list_any meant c.entries) a (after w e s) ≡ true
any_on {C} w e s a meant h m now = same (slice_get (after w e s).cells a) ∙ stands_on w e s a meant _ h m (sym (same (slice_get s.cells a)) ∙ now)
  where
    same : (o : Option (Cell C)) → holds (λ c. list_any meant c.entries) o ≡ holds (λ c. stands meant (λ own front. true) c.entries) o
    same None = refl
    same (Some c) = any_stands meant c.entries

-- ---- of a transaction

-- a number that an event names, and one that it does not
named_apart : (o : Option ℕ) (t u : ℕ) → is_at t o ≡ false → is_at u o ≡ true → (t == u) ≡ false
named_apart o t u h i = by (t == u) refl
  where
    by : (b : Bool) → (t == u) ≡ b → b ≡ false
    by true q = absurd (true≢false (sym i ∙ subst (λ n. is_at n o ≡ false) (eqb-true t u q) h))
    by false q = refl

pub own_stays : (t u : ℕ) → (t == u) ≡ false → (e : Entry) → is_entry_of t e ≡ true → is_act_entry u e ≡ false
own_stays t u h (BatchEntry b) i = refl
own_stays t u h (ActEntry x) i = subst (λ n. (n == u) ≡ false) (sym (eqb-true x.tid t i)) h

all_marked : (p q : Entry → Bool) (mark : Entry → Entry) (es : List Entry) → ((e : Entry) → p e ≡ true → q (mark e) ≡ true) → list_all p es ≡ true → list_all q (map mark es) ≡ true
all_marked p q mark [] k h = refl
all_marked p q mark (e ∷ es) k h = let o = and_parts (p e) (list_all p es) h in rw (k e o.0, all_marked p q mark es k o.1) refl

all_left : (p stays : Entry → Bool) (es : List Entry) → list_all p es ≡ true → list_all p (filter stays es) ≡ true
all_left p stays [] h = refl
all_left p stays (e ∷ es) h = let o = and_parts (p e) (list_all p es) h in by (stays e) o.0 (all_left p stays es o.1)
  where
    by : (b : Bool) → p e ≡ true → list_all p (filter stays es) ≡ true → list_all p (if b then e ∷ filter stays es else filter stays es) ≡ true
    by true i r = rw (i, r) refl
    by false i r = r

-- what the test bears of each entry, it bears of the event
own_bears : (t : ℕ) (test : Entry → List Entry → Bool) (e : Event) (a : ℕ) → is_at t (left_by e) ≡ false
    → ((u : ℕ) (own : Entry) (front : List Entry) → test own front ≡ true → test (cell.done_in u own) (map (cell.done_in u) front) ≡ true)
    → ((k : ℕ) (own : Entry) (front : List Entry) → test own front ≡ true → test (cell.complete_in k own) (map (cell.complete_in k) front) ≡ true)
    → ((stays : Entry → Bool) (own : Entry) (front : List Entry) → test own front ≡ true → test own (filter stays front) ≡ true) → Bears (is_entry_of t) test e a
own_bears t test e a h done complete left = record {
  done = λ u i. record { same = own_done t u; kept = λ own front m. done u own front };
  complete = λ k i. record { same = own_complete t k; kept = λ own front m. complete k own front };
  left = λ u i. record { stays = own_stays t u (named_apart (left_by e) t u h i); kept = left _ };
}

pub entry_went : {C : Type 0} (w : Fixed C) (e : Event) (s : Machine C) (t a : ℕ) → is_at a (cut_by e) ≡ false → is_at t (left_by e) ≡ false
    → cell_is (λ c. has_entry t c.entries) a s ≡ true → cell_is (λ c. has_entry t c.entries) a (after w e s) ≡ true
entry_went w e s t a h i = any_on w e s a (is_entry_of t) h (own_bears t _ e a i (λ u own front q. refl) (λ k own front q. refl) (λ stays own front q. refl))

over_done : (u : ℕ) (own e : Entry) → is_over_for own e ≡ true → is_over_for (cell.done_in u own) (cell.done_in u e) ≡ true
over_done u (BatchEntry b) (BatchEntry c) h = h
over_done u (BatchEntry b) (ActEntry y) h = h
over_done u (ActEntry x) (BatchEntry c) h = h
over_done u (ActEntry x) (ActEntry y) h = h

over_complete : (k : ℕ) (own e : Entry) → is_over_for own e ≡ true → is_over_for (cell.complete_in k own) (cell.complete_in k e) ≡ true
over_complete k (BatchEntry b) (BatchEntry c) h = rw h refl
over_complete k (BatchEntry b) (ActEntry y) h = h
over_complete k (ActEntry x) (BatchEntry c) h = rw h refl
over_complete k (ActEntry x) (ActEntry y) h = h

pub clear_went : {C : Type 0} (w : Fixed C) (e : Event) (s : Machine C) (t a : ℕ) → is_at a (cut_by e) ≡ false → is_at t (left_by e) ≡ false
    → cell_is (λ c. is_clear t c.entries) a s ≡ true → cell_is (λ c. is_clear t c.entries) a (after w e s) ≡ true
clear_went w e s t a h i =
    stands_on w e s a (is_entry_of t) (λ own. list_all (is_over_for own)) h
    (own_bears t _ e a i (λ u own front. all_marked _ _ (cell.done_in u) front (over_done u own)) (λ k own front. all_marked _ _ (cell.complete_in k) front (over_complete k own)) (λ stays own front. all_left (is_over_for own) stays front))

more_or : (x y z : Bool) → (x || y) ≡ true → (x || (y || z)) ≡ true
more_or true y z h = refl
more_or false true z h = refl
more_or false false z h = absurd (true≢false (sym h))

turn_done : (t u : ℕ) (e : Entry) → is_turn_of t e ≡ true → is_turn_of t (cell.done_in u e) ≡ true
turn_done t u (BatchEntry b) = list_all_mapped (λ s. nat_le t s.tid || s.done) (cell.done_if u) b.slots (λ s. more_or (nat_le t s.tid) s.done (s.tid == u))
turn_done t u (ActEntry x) = λ h. h

turn_complete : (t k : ℕ) (e : Entry) → is_turn_of t e ≡ true → is_turn_of t (cell.complete_in k e) ≡ true
turn_complete t k (BatchEntry b) h = h
turn_complete t k (ActEntry x) h = h

pub turn_went : {C : Type 0} (w : Fixed C) (e : Event) (s : Machine C) (t a : ℕ) → is_at a (cut_by e) ≡ false → is_at t (left_by e) ≡ false
    → cell_is (has_its_turn t) a s ≡ true → cell_is (has_its_turn t) a (after w e s) ≡ true
turn_went w e s t a h i = stands_on w e s a (is_entry_of t) (λ own front. is_turn_of t own) h (own_bears t _ e a i (λ u own front. turn_done t u own) (λ k own front. turn_complete t k own) (λ stays own front q. q))

undone_stays : (t u : ℕ) (e : Entry) → is_undone t e ≡ true → is_act_entry u e ≡ false
undone_stays t u (BatchEntry b) h = refl
undone_stays t u (ActEntry x) h = absurd (true≢false (sym h))

pub undone_went : {C : Type 0} (w : Fixed C) (e : Event) (s : Machine C) (t a : ℕ) → is_at a (cut_by e) ≡ false → is_at t (done_by e) ≡ false
    → cell_is (λ c. has_undone t c.entries) a s ≡ true → cell_is (λ c. has_undone t c.entries) a (after w e s) ≡ true
undone_went w e s t a h i = any_on w e s a (is_undone t) h (record {
  done = λ u q. record { same = λ x. undone_done t u x (named_apart (done_by e) t u i q); kept = λ own front m j. refl };
  complete = λ k q. record { same = undone_complete t k; kept = λ own front m j. refl };
  left = λ u q. record { stays = undone_stays t u; kept = λ own front j. refl };
})

-- ---- of a batch

batch_done : (k u : ℕ) (e : Entry) → is_batch_entry k (cell.done_in u e) ≡ is_batch_entry k e
batch_done k u (BatchEntry b) = refl
batch_done k u (ActEntry x) = refl

batch_complete : (k j : ℕ) (e : Entry) → is_batch_entry k (cell.complete_in j e) ≡ is_batch_entry k e
batch_complete k j (BatchEntry b) = refl
batch_complete k j (ActEntry x) = refl

batch_stays : (k u : ℕ) (e : Entry) → is_batch_entry k e ≡ true → is_act_entry u e ≡ false
batch_stays k u (BatchEntry b) h = refl
batch_stays k u (ActEntry x) h = absurd (true≢false (sym h))

batch_bears : (k : ℕ) (test : Entry → List Entry → Bool) (e : Event) (a : ℕ)
    → ((u : ℕ) (own : Entry) (front : List Entry) → test own front ≡ true → test (cell.done_in u own) (map (cell.done_in u) front) ≡ true)
    → ((j : ℕ) → Complete j a ≡ e → (own : Entry) (front : List Entry) → is_batch_entry k own ≡ true → test own front ≡ true → test (cell.complete_in j own) (map (cell.complete_in j) front) ≡ true)
    → ((stays : Entry → Bool) (own : Entry) (front : List Entry) → test own front ≡ true → test own (filter stays front) ≡ true) → Bears (is_batch_entry k) test e a
batch_bears k test e a done complete left = record {
  done = λ u i. record { same = batch_done k u; kept = λ own front m. done u own front };
  complete = λ j i. record { same = batch_complete k j; kept = complete j i };
  left = λ u i. record { stays = batch_stays k u; kept = left _ };
}

lacking_done : (u : ℕ) (e : Entry) → not (is_complete_batch e) ≡ true → not (is_complete_batch (cell.done_in u e)) ≡ true
lacking_done u (BatchEntry b) h = h
lacking_done u (ActEntry x) h = h

lacking_complete : (k j : ℕ) (e : Entry) → (k ≡ j → ⊥) → is_batch_entry k e ≡ true → not (is_complete_batch e) ≡ true → not (is_complete_batch (cell.complete_in j e)) ≡ true
lacking_complete k j (ActEntry x) n m h = h
lacking_complete k j (BatchEntry b) n m h = by b.complete (b.bid == j) refl h
  where
    by : (c d : Bool) → (b.bid == j) ≡ d → not c ≡ true → not (c || d) ≡ true
    by true d q i = i
    by false true q i = absurd (n (sym (eqb-true b.bid k m) ∙ eqb-true b.bid j q))
    by false false q i = refl

-- another one is completed there
pub lacking_went : {C : Type 0} (w : Fixed C) (e : Event) (s : Machine C) (k a : ℕ) → is_at a (cut_by e) ≡ false → (Complete k a ≡ e → ⊥)
    → cell_is (lacks_completion k) a s ≡ true → cell_is (lacks_completion k) a (after w e s) ≡ true
lacking_went w e s k a h n =
    stands_on w e s a (is_batch_entry k) (λ own front. not (is_complete_batch own)) h
    (batch_bears k _ e a (λ u own front. lacking_done u own) (λ j q own front. lacking_complete k j own (λ r. n (ap (λ i. Complete i a) r ∙ q))) (λ stays own front i. i))

over_batch_done : (u : ℕ) (e : Entry) → is_complete_batch e ≡ true → is_complete_batch (cell.done_in u e) ≡ true
over_batch_done u (BatchEntry b) h = h
over_batch_done u (ActEntry x) h = h

over_batch_complete : (j : ℕ) (e : Entry) → is_complete_batch e ≡ true → is_complete_batch (cell.complete_in j e) ≡ true
over_batch_complete j (BatchEntry b) h = rw h refl
over_batch_complete j (ActEntry x) h = h

-- one that is there, with what holds of all ahead of it
both_held : {C : Type 0} (k : ℕ) (o : Option (Cell C)) → holds (lacks_completion k) o ≡ true → holds (is_complete_ahead k) o ≡ true
    → holds (λ c. stands (is_batch_entry k) (λ own. list_all is_complete_batch) c.entries) o ≡ true
both_held k None h i = h
both_held k (Some c) h i = by (find (is_batch_entry k) c.entries) h
  where
    by : (o : Option Entry) → holds (λ e. not (is_complete_batch e)) o ≡ true → holds (λ own. is_complete_ahead k c) o ≡ true
    by None h = h
    by (Some e) h = i

ahead_held : {C : Type 0} (k : ℕ) (o : Option (Cell C)) → holds (λ c. stands (is_batch_entry k) (λ own. list_all is_complete_batch) c.entries) o ≡ true → holds (is_complete_ahead k) o ≡ true
ahead_held k None h = h
ahead_held k (Some c) h = by (find (is_batch_entry k) c.entries) h
  where
    by : (o : Option Entry) → holds (λ own. is_complete_ahead k c) o ≡ true → is_complete_ahead k c ≡ true
    by None h = absurd (true≢false (sym h))
    by (Some e) h = h

pub ahead_went : {C : Type 0} (w : Fixed C) (e : Event) (s : Machine C) (k a : ℕ) → is_at a (cut_by e) ≡ false
    → cell_is (lacks_completion k) a s ≡ true → cell_is (is_complete_ahead k) a s ≡ true → cell_is (is_complete_ahead k) a (after w e s) ≡ true
ahead_went w e s k a h there now =
    ahead_held k _ (stands_on w e s a (is_batch_entry k) (λ own. list_all is_complete_batch) h
    (batch_bears k _ e a (λ u own front. all_marked _ _ (cell.done_in u) front (over_batch_done u)) (λ j q own front m. all_marked _ _ (cell.complete_in j) front (over_batch_complete j)) (λ stays own front. all_left is_complete_batch stays front)) (both_held k _ there now))

slots_done : (u : ℕ) (e : Entry) → is_all_done e ≡ true → is_all_done (cell.done_in u e) ≡ true
slots_done u (BatchEntry b) = list_all_mapped (λ s. s.done) (cell.done_if u) b.slots (λ s h. rw h refl)
slots_done u (ActEntry x) = λ h. h

slots_complete : (j : ℕ) (e : Entry) → is_all_done e ≡ true → is_all_done (cell.complete_in j e) ≡ true
slots_complete j (BatchEntry b) h = h
slots_complete j (ActEntry x) h = h

pub all_done_went : {C : Type 0} (w : Fixed C) (e : Event) (s : Machine C) (k a : ℕ) → is_at a (cut_by e) ≡ false
    → cell_is (has_done_all k) a s ≡ true → cell_is (has_done_all k) a (after w e s) ≡ true
all_done_went w e s k a h = stands_on w e s a (is_batch_entry k) (λ own front. is_all_done own) h (batch_bears k _ e a (λ u own front. slots_done u own) (λ j q own front m. slots_complete j own) (λ stays own front i. i))
