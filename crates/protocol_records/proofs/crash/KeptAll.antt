-- Who committed with a value, a reader or not: a batch is kept, and an ACT has its place and a value.
use Rattle.std.specs.Prelude.{◌≡◌, ℕ, ◌==◌, true, ◌&&◌, ◌||◌, Some, List, [], ◌∷◌}
use Rattle.std.specs.List.{AllByRecursion}
use Rattle.std.proofs.Common.{sym, subst, inl, inr, ◌∙◌}
use Rattle.std.proofs.lemmas.Bool.{true≢false, eqb-true, and_parts, or_cases}
use Rattle.snap_base.specs.declared.transactions.State.{State}
use Rattle.snap_base.specs.declared.transactions.Tx.{Tx}
use Rattle.protocol.specs.Fixed.{Fixed}
use Rattle.protocol.specs.Facts.{Alone}
use Rattle.protocol.specs.Parts.{Act, Who, OfBatch, OfAct, Machine}
use Rattle.protocol.specs.Words.{holds, is_ordered, is_value, act_of}
use Rattle.protocol.specs.History.{History}
use Rattle.protocol_laws.specs.Commits.{is_kept}
use Rattle.protocol_laws.proofs.machine.ActsKept.{Acts}
use Rattle.protocol_laws.proofs.machine.AllGood.{AllGood}
use Rattle.protocol_laws.proofs.machine.ReadersCommit.{ReaderIn, ReadersOf, reads_with_value}

pub no_batch : (acts : List Act) (k : ℕ) (ys : List Who) → AllByRecursion (ReaderIn acts) ys → is_kept (OfBatch k) ys ≡ true → ⊥
no_batch acts k [] h e = true≢false (sym e)
no_batch acts k (OfBatch j ∷ ys) h e = h.0
no_batch acts k (OfAct t ∷ ys) h e = no_batch acts k ys h.1 e

pub reader_there : (acts : List Act) (t : ℕ) (ys : List Who) → AllByRecursion (ReaderIn acts) ys → is_kept (OfAct t) ys ≡ true → holds reads_with_value (act_of t acts) ≡ true
reader_there acts t [] h e = absurd (true≢false (sym e))
reader_there acts t (OfBatch j ∷ ys) h e = absurd h.0
reader_there acts t (OfAct u ∷ ys) h e = elim (or_cases (u == t) (is_kept (OfAct t) ys) e) [
  | inl q ↦ subst (λ z. holds reads_with_value (act_of z acts) ≡ true) (eqb-true u t q) h.0
  | inr q ↦ reader_there acts t ys h.1 q
]

-- a batch among them
pub batch_kept : {C : Type 0} (w : Fixed C) (Of : Tx → C → Type 0) (finish : C → List State → Alone) (s : Machine C) (h : History) (k : ℕ) → AllGood w Of finish s h → (is_kept (OfBatch k) h.kept || is_kept (OfBatch k) h.kept_readers) ≡ true → is_kept (OfBatch k) h.kept ≡ true
unfolding ReadersOf
batch_kept w Of finish s h k g e = elim (or_cases (is_kept (OfBatch k) h.kept) (is_kept (OfBatch k) h.kept_readers) e) [ inl q ↦ q | inr q ↦ absurd (no_batch s.book.acts k h.kept_readers g.readers_of q) ]

-- an ACT among them
pub act_kept : {C : Type 0} (w : Fixed C) (Of : Tx → C → Type 0) (finish : C → List State → Alone) (s : Machine C) (h : History) (t : ℕ) (x : Act) → AllGood w Of finish s h → act_of t s.book.acts ≡ Some x → (is_kept (OfAct t) h.kept || is_kept (OfAct t) h.kept_readers) ≡ true
    → (is_ordered x.status ≡ true) × (is_value x.result ≡ true)
unfolding ReadersOf Acts
act_kept w Of finish s h t x g f e = elim (or_cases (is_kept (OfAct t) h.kept) (is_kept (OfAct t) h.kept_readers) e) [
  | inl q ↦ let v = and_parts (is_ordered x.status) _ (sym (g.acts t x f).known ∙ q) in (v.0, (and_parts (is_value x.result) _ v.1).0)
  | inr q ↦
      let v = and_parts (is_ordered x.status) (is_value x.result && x.reader) (subst (λ o. holds reads_with_value o ≡ true) f (reader_there s.book.acts t h.kept_readers g.readers_of q)) in
      (v.0, (and_parts (is_value x.result) x.reader v.1).0)
]
