-- The readers that committed with a value are ACTs of the book that have their place and a value.
use Rattle.std.specs.Prelude.{◌≡◌, refl, ℕ, ◌==◌, Bool, true, false, ◌&&◌, if◌then◌else◌, Some, is_some, List, [], ◌∷◌}
use Rattle.std.specs.List.{AllByRecursion}
use Rattle.std.proofs.Common.{sym, ap, subst, ◌∙◌}
use Rattle.std.proofs.lemmas.Bool.{true≢false, and_parts, and_from}
use Rattle.protocol.specs.Fixed.{Fixed}
use Rattle.protocol.specs.Parts.{Act, Status, Live, Doomed, Decided, Sealed, Who, OfBatch, OfAct, Machine}
use Rattle.protocol.specs.Events.{Event, Admit, Ask, End, Decide}
use Rattle.protocol.specs.Words.{holds, is_live_status, is_ordered, is_value, is_ended, act_of, outcome_of}
use Rattle.protocol.specs.Conditions.{IsAllowed, conditions}
use Rattle.protocol.specs.Effects.{after, no_cell}
use Rattle.protocol.specs.OnBook as book
use Rattle.protocol.specs.History.{History, grown, kept_reader}
use Rattle.protocol_laws.proofs.first.Lists.{all_join, weaker}
use Rattle.protocol_laws.proofs.first.Statuses.{live_unordered, ordered_sealed, ordered_decided}
use Rattle.protocol_laws.proofs.machine.ActsFound as acts
use Rattle.protocol_laws.proofs.machine.ActsFound.{Holds}
use Rattle.protocol_laws.proofs.machine.ActResults as results
use Rattle.protocol_laws.proofs.machine.ActResults.{NoneActed}
use Rattle.protocol_laws.proofs.machine.BehindKept.{each_to_holds, holds_to_each}
use Rattle.protocol_laws.proofs.machine.ControlWalk.{AllControls}
use Rattle.protocol_laws.proofs.machine.QueuedKept.{in_book, found_some}
use Rattle.protocol_laws.proofs.machine.TracksKept.{held}
use Rattle.protocol_laws.proofs.machine.TurnsKept.{one_is}

abbrev pub reads_with_value : Act → Bool
reads_with_value x = is_ordered x.status && (is_value x.result && x.reader)

abbrev pub ReaderIn : List Act → Who → Type 0
ReaderIn acts (OfBatch k) = ⊥
ReaderIn acts (OfAct t) = holds reads_with_value (act_of t acts) ≡ true

unfoldable pub ReadersOf : {C : Type 0} → Machine C → History → Type 0
ReadersOf s h = AllByRecursion (ReaderIn s.book.acts) h.kept_readers

holds_reads : (t : ℕ) → Holds (λ u x. u ≡ t → reads_with_value x ≡ true)
holds_reads t = record {
  numbered = λ u x n p. p;
  marked = λ u a x f i p. p;
  sealed = λ u x p i. let q = and_parts (is_ordered x.status) (is_value x.result && x.reader) (p i) in and_from (is_ordered (book.sealed_status x.status)) (is_value x.result && x.reader) (ordered_sealed x.status ∙ q.0) q.1;
  doomed = λ u x v l p i. absurd (true≢false (sym (and_parts (is_ordered x.status) (is_value x.result && x.reader) (p i)).0 ∙ live_unordered x.status l));
  rises = λ u k x l p. p;
}

ready_reads : {C : Type 0} (w : Fixed C) (e : Event) (s : Machine C) (t : ℕ) → IsAllowed w e s → AllControls (NoneActed s) s → holds reads_with_value (act_of t s.book.acts) ≡ true → acts.Ready w e s (λ u x. u ≡ t → reads_with_value x ≡ true)
unfolding acts.Ready conditions
ready_reads w (Admit u) s t ok n h = λ q i. absurd (true≢false (sym h ∙ ap (holds reads_with_value) (ap (λ z. act_of z s.book.acts) (sym i) ∙ q)))
ready_reads w (Ask u a) s t ok n h = λ x e p. p
ready_reads w (End u a) s t ok n h = λ x r e p i.
    let none = results.outcome_none (λ x. is_ended x.next) u a s (held (λ c. holds (λ x. is_ended x.next) (outcome_of u c.outbox)) s.cells a no_cell ok.0) n in
    let q = (and_parts (is_value x.result) x.reader (and_parts (is_ordered x.status) (is_value x.result && x.reader) (p i)).1).0 in
    absurd (true≢false (sym q ∙ ap is_value (none u x e refl)))
ready_reads w (Decide u) s t ok n h = λ x e p i. let q = and_parts (is_ordered x.status) (is_value x.result && x.reader) (p i) in and_from (is_ordered (book.decided_status s.book.next_c (is_value x.result) x.status)) (is_value x.result && x.reader) (ordered_decided s.book.next_c (is_value x.result) x.status q.0) q.1
ready_reads w e s t ok n h = tt

stays : {C : Type 0} (w : Fixed C) (e : Event) (s : Machine C) → IsAllowed w e s → AllControls (NoneActed s) s → (y : Who) → ReaderIn s.book.acts y → ReaderIn (after w e s).book.acts y
stays w e s ok n (OfBatch k) h = h
stays w e s ok n (OfAct t) h = each_to_holds reads_with_value t (after w e s).book.acts (in_book w e s t (found_some reads_with_value (act_of t s.book.acts) h)) (acts.acts_keep w e s (λ u x. u ≡ t → reads_with_value x ≡ true) (holds_reads t) (ready_reads w e s t ok n h) (holds_to_each reads_with_value t s.book.acts h))

changed_found : (t : ℕ) (f : Act → Act) (x : Act) (xs : List Act) → ((y : Act) → (f y).tid ≡ y.tid) → act_of t xs ≡ Some x → act_of t (book.changed_act t f xs) ≡ Some (f x)
changed_found t f x [] i e = absurd (cc e)
changed_found t f x (y ∷ ys) i e = by (y.tid == t) refl e (changed_found t f x ys i)
  where
    by : (b : Bool) → (y.tid == t) ≡ b → (if b then Some y else act_of t ys) ≡ Some x → (act_of t ys ≡ Some x → act_of t (book.changed_act t f ys) ≡ Some (f x)) → act_of t (book.change_if b f y ∷ book.changed_act t f ys) ≡ Some (f x)
    by true q g k = let j : y ≡ x = cc g in subst (λ z. (if z == t then Some (f y) else act_of t (book.changed_act t f ys)) ≡ Some (f x)) (sym (i y)) (rw q (ap (λ z. Some (f z)) j))
    by false q g k = rw q (k g)

pub readers_of_kept : {C : Type 0} (w : Fixed C) (e : Event) (s : Machine C) (h : History) → IsAllowed w e s → AllControls (NoneActed s) s → ReadersOf s h → ReadersOf (after w e s) (grown w e s h)
unfolding ReadersOf conditions grown after
readers_of_kept w (Decide t) s h ok n g = all_join (ReaderIn (after w (Decide t) s).book.acts) h.kept_readers _ (weaker (ReaderIn s.book.acts) (ReaderIn (after w (Decide t) s).book.acts) h.kept_readers (stays w (Decide t) s ok n) g) (new (one_is (λ x. is_some x.result && is_live_status x.status) (act_of t s.book.acts) ok.0))
  where
    placed : (v : Bool) (st : Status) → is_live_status st ≡ true → is_ordered (book.decided_status s.book.next_c v st) ≡ true
    placed true Live l = refl
    placed false Live l = refl
    placed v (Doomed d) l = absurd (true≢false (sym l))
    placed v (Decided d) l = refl
    placed v (Sealed d) l = refl

    new : (x : Act) × (act_of t s.book.acts ≡ Some x) × ((is_some x.result && is_live_status x.status) ≡ true) → AllByRecursion (ReaderIn (book.changed_act t (book.decided_as s.book.next_c) s.book.acts)) (kept_reader (act_of t s.book.acts))
    new x = subst (λ o. AllByRecursion (ReaderIn (book.changed_act t (book.decided_as s.book.next_c) s.book.acts)) (kept_reader o)) (sym x.1) (by (is_value x.0.result) x.0.reader refl refl)
      where
        tid : x.0.tid ≡ t
        tid = acts.found_tid t x.0 s.book.acts x.1

        by : (b v : Bool) → is_value x.0.result ≡ b → x.0.reader ≡ v → AllByRecursion (ReaderIn (book.changed_act t (book.decided_as s.book.next_c) s.book.acts)) (if b && v then OfAct x.0.tid ∷ [] else [])
        by true true p q = (
          subst (λ u. holds reads_with_value (act_of u (book.changed_act t (book.decided_as s.book.next_c) s.book.acts)) ≡ true) (sym tid)
              (subst (λ o. holds reads_with_value o ≡ true) (sym (changed_found t (book.decided_as s.book.next_c) x.0 s.book.acts (λ y. refl) x.1))
              (and_from (is_ordered (book.decided_status s.book.next_c (is_value x.0.result) x.0.status)) (is_value x.0.result && x.0.reader) (placed (is_value x.0.result) x.0.status (and_parts (is_some x.0.result) (is_live_status x.0.status) x.2).1) (and_from (is_value x.0.result) x.0.reader p q))),
          tt,
        )
        by true false p q = tt
        by false v p q = tt
readers_of_kept w e s h ok n g = weaker (ReaderIn s.book.acts) (ReaderIn (after w e s).book.acts) h.kept_readers (stays w e s ok n) g
