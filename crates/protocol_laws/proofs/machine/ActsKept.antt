-- What each ACT of the book is, event by event: its tid is no PACT's, its actors exist, and what its status tells.
use Rattle.std.specs.Prelude.{◌≡◌, refl, ℕ, ◌+◌, ◌≤◌, ◌<◌, ◌==◌, nat_le, max, not, Bool, true, false, ◌&&◌, ◌||◌, if◌then◌else◌, Some, None, is_some, List, [], ◌∷◌, ◌++◌, length, map}
use Rattle.std.specs.List.{AllByRecursion}
use Rattle.std.proofs.Common.{arith, sym, ap, subst, ◌∙◌}
use Rattle.std.proofs.lemmas.List.{append-nil}
use Rattle.std.proofs.lemmas.Bool.{true≢false, eqb-true, leb-true, eq-eqb, ne_eqb, and_parts, false_from_ne_true}
use Rattle.protocol.specs.Fixed.{Fixed, base, is_reader}
use Rattle.protocol.specs.Parts.{Act, Joined, Batch, Pact, Who, OfBatch, OfAct, Status, Live, Doomed, Decided, Sealed, Machine}
use Rattle.protocol.specs.Events.{Event, Admit, Ask, End, Commit, Settle, Decide}
use Rattle.protocol.specs.Words.{holds, is_who, is_value, is_live_status, act_of, is_ended, is_ordered}
use Rattle.protocol.specs.Conditions.{IsAllowed, conditions}
use Rattle.protocol.specs.Effects.{after, no_cell}
use Rattle.protocol.specs.OnRing as ring
use Rattle.protocol.specs.OnPost as post
use Rattle.protocol.specs.OnBook as book
use Rattle.protocol.specs.History.{History, grown, kept_act}
use Rattle.protocol_laws.specs.Told.{EachAct}
use Rattle.protocol_laws.specs.Commits.{is_kept}
use Rattle.protocol_laws.proofs.first.SettlingKept as settling
use Rattle.protocol_laws.proofs.machine.ControlWalk.{AllControls}
use Rattle.protocol_laws.proofs.machine.TracksKept.{in_range, held}
use Rattle.protocol_laws.proofs.machine.TurnsKept.{one_is}
use Rattle.protocol_laws.proofs.machine.Resting as resting
use Rattle.protocol_laws.proofs.machine.Resting.{EachPact}
use Rattle.protocol_laws.proofs.machine.ActsFound as acts
use Rattle.protocol_laws.proofs.machine.ActsFound.{Holds}
use Rattle.protocol_laws.proofs.machine.ActResults as results
use Rattle.protocol_laws.proofs.machine.ActResults.{NoneActed}
use Rattle.protocol_laws.proofs.first.Lists.{some_of}
use Rattle.protocol_laws.proofs.first.Statuses.{live_unordered, ordered_sealed}
use Rattle.protocol_laws.proofs.first.OneWay.{tid_went}
use Rattle.protocol_laws.proofs.first.RangesNamed.{cells_stay}

pub record ActIs (next actors settled : ℕ) (bs : List Batch) (kept : List Who) (t : ℕ) (x : Act) : Type 0 where
  pub drawn : t < next
  -- no PACT has its tid
  pub apart : EachPact (λ u r. u ≡ t → ⊥) bs
  pub exist : AllByRecursion (λ p. p.actor < actors) x.places
  -- one with a place has a result, its before number is settled, and it is kept where that is a value and it is no reader
  pub ended : is_ordered x.status ≡ true → is_some x.result ≡ true
  pub settles : is_ordered x.status ≡ true → x.m ≤ settled
  pub known : is_kept (OfAct t) kept ≡ (is_ordered x.status && (is_value x.result && not x.reader))

unfoldable pub Acts : {C : Type 0} → Machine C → History → Type 0
Acts s h = EachAct (ActIs s.ring.next_tid (length s.cells) s.desk.settled s.desk.batches h.kept) s.book.acts

-- who is kept is in the book
unfoldable pub KnownActs : {C : Type 0} → Machine C → History → Type 0
KnownActs s h = (t : ℕ) → is_kept (OfAct t) h.kept ≡ true → is_some (act_of t s.book.acts) ≡ true

-- ---- what any ACT may undergo

marked_exist : (n a : ℕ) (f : Joined → Joined) (ps : List Joined) → ((p : Joined) → (f p).actor ≡ p.actor) → AllByRecursion (λ p. p.actor < n) ps → AllByRecursion (λ p. p.actor < n) (map (λ p. book.mark_if (p.actor == a) f p) ps)
marked_exist n a f [] i h = tt
marked_exist n a f (p ∷ ps) i h = (by (p.actor == a), marked_exist n a f ps i h.1)
  where
    by : (v : Bool) → (book.mark_if v f p).actor < n
    by true = omega (arith, i p, h.0)
    by false = h.0

holds_is : (next actors settled : ℕ) (bs : List Batch) (kept : List Who) → Holds (ActIs next actors settled bs kept)
holds_is next actors settled bs kept = record {
  numbered = λ t x n p. record { drawn = p.drawn; apart = p.apart; exist = p.exist; ended = p.ended; settles = p.settles; known = p.known };
  marked = λ t a x f i p. record { drawn = p.drawn; apart = p.apart; exist = marked_exist actors a f x.places i p.exist; ended = p.ended; settles = p.settles; known = p.known };
  sealed = λ t x p. record {
    drawn = p.drawn;
    apart = p.apart;
    exist = p.exist;
    ended = λ e. p.ended (sym (ordered_sealed x.status) ∙ e);
    settles = λ e. p.settles (sym (ordered_sealed x.status) ∙ e);
    known = p.known ∙ ap (λ z. z && (is_value x.result && not x.reader)) (sym (ordered_sealed x.status));
  };
  doomed = λ t x v l p. record { drawn = p.drawn; apart = p.apart; exist = p.exist; ended = λ e. absurd (true≢false (sym e)); settles = λ e. absurd (true≢false (sym e)); known = p.known ∙ ap (λ z. z && (is_value x.result && not x.reader)) (live_unordered x.status l) };
  rises = λ t k x l p. record { drawn = p.drawn; apart = p.apart; exist = p.exist; ended = p.ended; settles = λ e. absurd (true≢false (sym e ∙ l)); known = p.known };
}

-- ---- what the state around it becomes

pub settled_rises : {C : Type 0} (w : Fixed C) (e : Event) (s : Machine C) → IsAllowed w e s → settling.Settling w s → s.desk.settled ≤ (after w e s).desk.settled
unfolding after
settled_rises w (Settle k) s ok g = omega (arith, settling.settles_above w s k ok g)
settled_rises w e s ok g = omega arith

pub kept_more : (t : ℕ) (y : Who) (kept : List Who) → is_who y (OfAct t) ≡ false → is_kept (OfAct t) (kept ++ y ∷ []) ≡ is_kept (OfAct t) kept
kept_more t y [] e = rw e refl
kept_more t y (z ∷ zs) e = ap (λ v. is_who z (OfAct t) || v) (kept_more t y zs e)

pub kept_too : (y : Who) (kept : List Who) → is_who y y ≡ true → is_kept y (kept ++ y ∷ []) ≡ true
kept_too y [] e = rw e refl
kept_too y (z ∷ zs) e = Rattle.std.proofs.lemmas.Bool.or_right (is_who z y) _ (kept_too y zs e)

-- no event but Decide makes an ACT kept
abbrev pub IsNoDecide : Event → Type 0
IsNoDecide (Decide t) = ⊥
IsNoDecide _ = Unit {0}

kept_stays : {C : Type 0} (w : Fixed C) (e : Event) (s : Machine C) (h : History) (t : ℕ) → IsNoDecide e → is_kept (OfAct t) (grown w e s h).kept ≡ is_kept (OfAct t) h.kept
unfolding grown
kept_stays w (Commit k) s h t n = kept_more t (OfBatch k) h.kept refl
kept_stays w (Decide u) s h t n = absurd n
kept_stays w e s h t n = refl

apart_new : (next t u : ℕ) (ns : List ℕ) → t < next → next ≤ u → AllByRecursion (λ p. p.tid ≡ t → ⊥) (ring.numbered u ns)
apart_new next t u [] l m = tt
apart_new next t u (n ∷ ns) l m = ((λ e. omega (arith, l, m, e)), apart_new next t (u + 1) ns l (omega (arith, m)))

stays_apart : {C : Type 0} (w : Fixed C) (e : Event) (s : Machine C) (t : ℕ) → t < s.ring.next_tid → EachPact (λ u r. u ≡ t → ⊥) s.desk.batches → EachPact (λ u r. u ≡ t → ⊥) (after w e s).desk.batches
stays_apart w e s t l h = resting.each_stays w e s (λ u r. u ≡ t → ⊥) (λ k f. apart_new s.ring.next_tid t s.ring.next_tid _ l (omega arith)) (λ v a f u o r i g. g) h

around : {C : Type 0} (w : Fixed C) (e : Event) (s : Machine C) (h : History) → IsNoDecide e → IsAllowed w e s → settling.Settling w s → EachAct (ActIs s.ring.next_tid (length s.cells) s.desk.settled s.desk.batches h.kept) s.book.acts
    → EachAct (ActIs (after w e s).ring.next_tid (length (after w e s).cells) (after w e s).desk.settled (after w e s).desk.batches (grown w e s h).kept) s.book.acts
around w e s h n ok g i = λ t x f. let p = i t x f in record {
  drawn = omega (arith, p.drawn, tid_went w e s);
  apart = stays_apart w e s t p.drawn p.apart;
  exist = subst (λ z. AllByRecursion (λ q. q.actor < z) x.places) (sym (cells_stay w e s)) p.exist;
  ended = p.ended;
  settles = λ q. omega (arith, p.settles q, settled_rises w e s ok g);
  known = kept_stays w e s h t n ∙ p.known;
}

-- ---- all events

pub not_placed : (next actors settled : ℕ) (bs : List Batch) (kept : List Who) (t : ℕ) (x : Act) → ActIs next actors settled bs kept t x → x.result ≡ None → is_ordered x.status ≡ false
not_placed next actors settled bs kept t x p r = false_from_ne_true (is_ordered x.status) (λ q. true≢false (sym (p.ended q) ∙ ap is_some r))

all_more : (n a : ℕ) (ps : List Joined) (p : Joined) → p.actor < n → AllByRecursion (λ q. q.actor < n) ps → AllByRecursion (λ q. q.actor < n) (ps ++ p ∷ [])
all_more n a [] p l h = (l, tt)
all_more n a (q ∷ qs) p l h = (h.0, all_more n a qs p l h.1)

not_own : (next t : ℕ) (bs : List Batch) → next ≤ t → EachPact (λ u r. u < next) bs → EachPact (λ u r. u ≡ t → ⊥) bs
not_own next t [] l h = tt
not_own next t (b ∷ bs) l h = (pacts b.pacts h.0, not_own next t bs l h.1)
  where
    pacts : (ps : List Pact) → AllByRecursion (λ p. p.tid < next) ps → AllByRecursion (λ p. p.tid ≡ t → ⊥) ps
    pacts [] g = tt
    pacts (p ∷ ps) g = ((λ e. omega (arith, g.0, e, l)), pacts ps g.1)

-- what is kept after an ACT got its place
kept_by : (t u : ℕ) (x : Act) (kept : List Who) → x.tid ≡ t → (u ≡ t → ⊥) → is_kept (OfAct u) (kept ++ kept_act (Some x)) ≡ is_kept (OfAct u) kept
kept_by t u x kept e d = by (is_value x.result && not x.reader)
  where
    by : (b : Bool) → is_kept (OfAct u) (kept ++ (if b then OfAct x.tid ∷ [] else [])) ≡ is_kept (OfAct u) kept
    by true = kept_more u (OfAct x.tid) kept (ne_eqb x.tid u (λ q. d (sym q ∙ e)))
    by false = rw (append-nil kept) refl

kept_now : (t c : ℕ) (x : Act) (kept : List Who) → x.tid ≡ t → is_live_status x.status ≡ true → is_kept (OfAct t) kept ≡ false → is_kept (OfAct t) (kept ++ kept_act (Some x)) ≡ (is_ordered (book.decided_as c x).status && (is_value (book.decided_as c x).result && not x.reader))
kept_now t c x kept e l n = subst (λ z. is_kept (OfAct z) (kept ++ kept_act (Some x)) ≡ (is_ordered (book.decided_as c x).status && (is_value x.result && not x.reader))) e (by (is_value x.result) (is_value x.result && not x.reader) x.status l (subst (λ z. is_kept (OfAct z) kept ≡ false) (sym e) n))
  where
    by : (v b : Bool) (st : Status) → is_live_status st ≡ true → is_kept (OfAct x.tid) kept ≡ false → is_kept (OfAct x.tid) (kept ++ (if b then OfAct x.tid ∷ [] else [])) ≡ (is_ordered (book.decided_status c v st) && b)
    by true true Live l n = kept_too (OfAct x.tid) kept (eq-eqb x.tid x.tid refl)
    by true false Live l n = rw (append-nil kept) n
    by false true Live l n = kept_too (OfAct x.tid) kept (eq-eqb x.tid x.tid refl)
    by false false Live l n = rw (append-nil kept) n
    by v b (Doomed q) l n = absurd (true≢false (sym l))
    by v b (Decided d) l n = absurd (true≢false (sym l))
    by v b (Sealed d) l n = absurd (true≢false (sym l))

pub acts_kept : {C : Type 0} (w : Fixed C) (e : Event) (s : Machine C) (h : History) → IsAllowed w e s → settling.Settling w s → base w.text ≤ s.desk.settled → resting.Drawn s → AllControls (NoneActed s) s → KnownActs s h → Acts s h → Acts (after w e s) (grown w e s h)
unfolding Acts KnownActs resting.Drawn conditions acts.Ready after grown
acts_kept w (Admit t) s h ok g b d n k i =
    let j : t ≡ s.ring.next_tid = eqb-true t s.ring.next_tid ok.0 in
    acts.acts_keep w (Admit t) s _ (holds_is _ _ _ _ _) (λ e. own j e) (around w (Admit t) s h tt ok g i)
  where
    own : t ≡ s.ring.next_tid → act_of t s.book.acts ≡ None → ActIs (after w (Admit t) s).ring.next_tid (length (after w (Admit t) s).cells) (after w (Admit t) s).desk.settled (after w (Admit t) s).desk.batches (grown w (Admit t) s h).kept t (book.new_act t (post.next_act s.ring) (is_reader w (post.next_act s.ring)) (base w.text))
    own j e = record {
      drawn = omega (arith, j);
      apart = not_own s.ring.next_tid t s.desk.batches (omega (arith, j)) d;
      exist = tt;
      ended = λ q. absurd (true≢false (sym q));
      settles = λ q. absurd (true≢false (sym q));
      known = false_from_ne_true (is_kept (OfAct t) h.kept) (λ q. true≢false (sym (k t q) ∙ ap is_some e));
    }
acts_kept w (Ask t a) s h ok g b d n k i =
    let r = results.posted_none t a s ok.0 n in
    acts.acts_keep w (Ask t a) s _ (holds_is _ _ _ _ _) (λ x e p. let q = not_placed _ _ _ _ _ t x p (r t x e refl) in record {
      drawn = p.drawn;
      apart = p.apart;
      exist = all_more _ a x.places _ (subst (λ z. a < z) (sym (cells_stay w (Ask t a) s)) (in_range _ s.cells a ok.1.1.0)) p.exist;
      ended = p.ended;
      settles = λ v. absurd (true≢false (sym v ∙ q));
      known = p.known;
    }) (around w (Ask t a) s h tt ok g i)
acts_kept w (End t a) s h ok g b d n k i =
    let r = results.outcome_none (λ x. is_ended x.next) t a s (held (λ c. holds (λ x. is_ended x.next) (Rattle.protocol.specs.Words.outcome_of t c.outbox)) s.cells a no_cell ok.0) n in
    acts.acts_keep w (End t a) s _ (holds_is _ _ _ _ _) (λ x v e p. let q = not_placed _ _ _ _ _ t x p (r t x e refl) in record {
      drawn = p.drawn;
      apart = p.apart;
      exist = p.exist;
      ended = λ z. absurd (true≢false (sym z ∙ q));
      settles = λ z. absurd (true≢false (sym z ∙ q));
      known = p.known ∙ (ap (λ z. z && (is_value x.result && not x.reader)) q ∙ ap (λ z. z && (is_value (Some v) && not x.reader)) (sym q));
    }) (around w (End t a) s h tt ok g i)
acts_kept w (Decide t) s h ok g b d n k i = decided (one_is (λ x. is_some x.result && is_live_status x.status) (act_of t s.book.acts) ok.0)
  where
    decided : (y : Act) × (act_of t s.book.acts ≡ Some y) × ((is_some y.result && is_live_status y.status) ≡ true) → EachAct (ActIs (after w (Decide t) s).ring.next_tid (length (after w (Decide t) s).cells) (after w (Decide t) s).desk.settled (after w (Decide t) s).desk.batches (grown w (Decide t) s h).kept) (after w (Decide t) s).book.acts
    decided y = acts.each_changed (ActIs s.ring.next_tid (length s.cells) s.desk.settled s.desk.batches h.kept) (ActIs s.ring.next_tid (length s.cells) s.desk.settled s.desk.batches (h.kept ++ kept_act (act_of t s.book.acts))) t (book.decided_as s.book.next_c) s.book.acts (λ x. refl)
        (λ u x j f p. record { drawn = p.drawn; apart = p.apart; exist = p.exist; ended = p.ended; settles = p.settles; known = ap (λ z. is_kept (OfAct u) (h.kept ++ kept_act z)) y.1 ∙ (kept_by t u y.0 h.kept (acts.found_tid t y.0 s.book.acts y.1) j ∙ p.known) })
        (λ x f p. let v = and_parts (is_some x.result) (is_live_status x.status) (some_of (λ x. is_some x.result && is_live_status x.status) (act_of t s.book.acts) x f ok.0) in record {
          drawn = p.drawn;
          apart = p.apart;
          exist = p.exist;
          ended = λ q. v.0;
          settles = λ q. omega (arith, b, leb-true x.m (max s.desk.settled (base w.text)) (some_of (λ x. nat_le x.m (max s.desk.settled (base w.text))) (act_of t s.book.acts) x f ok.1.1.0));
          known = ap (λ z. is_kept (OfAct t) (h.kept ++ kept_act z)) f ∙ kept_now t s.book.next_c x h.kept (acts.found_tid t x s.book.acts f) v.1 (p.known ∙ ap (λ z. z && (is_value x.result && not x.reader)) (live_unordered x.status v.1));
        }) i
acts_kept w e s h ok g b d n k i = acts.acts_keep w e s _ (holds_is _ _ _ _ _) tt (around w e s h tt ok g i)
