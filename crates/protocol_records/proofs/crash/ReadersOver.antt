-- When one that does not only read commits, each reader that committed with a value on one of its actors has been sealed: it
-- would stand there else, behind the one that commits or ahead of it.
use Rattle.std.specs.Prelude.{◌≡◌, refl, ℕ, ◌==◌, not, Bool, true, false, ◌&&◌, ◌||◌, ◌⊎◌, if◌then◌else◌, Option, Some, None, is_some, List, [], ◌∷◌, find, map}
use Rattle.std.specs.List.{AllByRecursion, list_any}
use Rattle.std.proofs.Common.{sym, ap, subst, inl, inr, ◌∙◌}
use Rattle.std.proofs.lemmas.Bool.{true≢false, or_cases, or_left, or_right, and_parts, and_from, cases_Bool, false_from_ne_true}
use Rattle.snap_base.specs.declared.transactions.Tx.{Tx}
use Rattle.snap_base.specs.declared.transactions.State.{State}
use Rattle.protocol.specs.Facts.{Alone}
use Rattle.protocol.specs.Fixed.{Fixed}
use Rattle.protocol.specs.Parts.{Act, Joined, Status, Live, Doomed, Decided, Sealed, Who, OfAct, Machine}
use Rattle.protocol.specs.Words.{holds, is_who, is_value, is_doomed, is_sealed, act_of}
use Rattle.protocol.specs.Effects.{cell_at}
use Rattle.protocol.specs.History.{Done, History, Ran, Stands, Gone, is_reader_act}
use Rattle.protocol_laws.specs.Told.{has_number, DoneFrom}
use Rattle.protocol_laws.specs.Tracks.{Key, key_of, keys_in, is_key_among, has_read}
use Rattle.protocol_laws.specs.Commits.{is_kept, KeptAhead, reads_who}
use Rattle.protocol_laws.proofs.machine.TrackLists.{is_who_true}
use Rattle.protocol_laws.proofs.machine.TracksKept.{Tracked}
use Rattle.protocol_laws.proofs.machine.ActsGrow.{has_place}
use Rattle.protocol_laws.proofs.machine.EntriesKept.{Left, Standing, is_through, open_in}
use Rattle.protocol_laws.proofs.machine.ReadersSee.{ReadBy, reads_at, not_read}
use Rattle.protocol_laws.proofs.first.Lists.{weaker}
use Rattle.protocol_laws.proofs.machine.AllGood.{AllGood}
use Rattle.protocol_theorems.specs.Placed.{is_placed, InOrderOf, has_done, is_done_at, DoneFront}
use Rattle.protocol_theorems.proofs.order.ChainsKept.{Chained}
use Rattle.protocol_theorems.proofs.order.ChainLists.{in_order_in}
use Rattle.protocol_records.proofs.crash.KeptSure.{SureOf}
use Rattle.protocol_records.proofs.crash.ReadersSure.{reader_not_kept}

-- ---- of two that stand there one is behind the other

-- the second one stands behind the first
abbrev pub IsBehind : Who → Who → List Key → Type 0
IsBehind x y [] = ⊥
IsBehind x y (k ∷ ks) = ((is_who k.who x ≡ true) × (is_key_among y ks ≡ true)) ⊎ IsBehind x y ks

pub one_behind : (x y : Who) (ks : List Key) → is_who x y ≡ false → is_key_among x ks ≡ true → is_key_among y ks ≡ true → IsBehind x y ks ⊎ IsBehind y x ks
one_behind x y [] n a b = absurd (true≢false (sym a))
one_behind x y (k ∷ ks) n a b = elim (or_cases (is_who k.who x) (is_key_among x ks) a) [
  | inl p ↦ elim (or_cases (is_who k.who y) (is_key_among y ks) b) [
    | inl q ↦ absurd (true≢false (sym (subst (λ z. is_who z y ≡ true) (is_who_true k.who x p) q) ∙ n))
    | inr q ↦ inl (inl (p, q))
  ]
  | inr p ↦ elim (or_cases (is_who k.who y) (is_key_among y ks) b) [
    | inl q ↦ inr (inl (q, p))
    | inr q ↦ elim (one_behind x y ks n p q) [ inl r ↦ inl (inr r) | inr r ↦ inr (inr r) ]
  ]
]

-- who stands ahead of one that commits has committed
pub ahead_kept : (kept : List Who) (x y : Who) (rs : List Ran) → KeptAhead kept y rs → IsBehind x y (keys_in rs) → is_kept x kept ≡ true
ahead_kept kept x y [] k b = absurd b
ahead_kept kept x y (Stands z c ss ∷ rs) k (inl b) = subst (λ v. is_kept v kept ≡ true) (is_who_true z x b.0) (k.0 b.1)
ahead_kept kept x y (Stands z c ss ∷ rs) k (inr b) = ahead_kept kept x y rs k.1 b
ahead_kept kept x y (Gone z ss ∷ rs) k b = ahead_kept kept x y rs k b

-- ---- in the order of placing

some_done : (a : ℕ) (ds : List Done) (y : Who) (ys : List Who) → is_done_at a ds y ≡ true → is_placed y ys ≡ true → list_any (is_done_at a ds) ys ≡ true
some_done a ds y [] d p = absurd (true≢false (sym p))
some_done a ds y (z ∷ zs) d p = elim (or_cases (is_who z y) (is_placed y zs) p) [
  | inl q ↦ or_left (is_done_at a ds z) _ (subst (λ v. is_done_at a ds v ≡ true) (sym (is_who_true z y q)) d)
  | inr q ↦ or_right (is_done_at a ds z) _ (some_done a ds y zs d q)
]

-- who stands ahead of one that committed and came there has committed, or only reads
pub ahead_done : (a : ℕ) (rd : Who → Bool) (kept : List Who) (ds : List Done) (keys : List Key) (ys : List Who) (ks : List Key) (x y : Who) → DoneFront a rd kept ds keys ys → InOrderOf ys ks → IsBehind x y ks → is_done_at a ds y ≡ true → is_key_among x keys ≡ true → ((is_kept x kept || has_done ds x) || rd x) ≡ true
ahead_done a rd kept ds keys [] [] x y h i b d e = absurd b
ahead_done a rd kept ds keys [] (k ∷ ks) x y h i b d e = absurd i
ahead_done a rd kept ds keys (z ∷ ys) [] x y h i b d e = absurd b
ahead_done a rd kept ds keys (z ∷ ys) (k ∷ ks) x y h (inl i) (inl b) d e =
    let j : z ≡ x = sym i.0 ∙ is_who_true k.who x b.0 in
    subst (λ v. ((is_kept v kept || has_done ds v) || rd v) ≡ true) j (h.0 (some_done a ds y ys d (in_order_in y ys ks i.1 b.1)) (subst (λ v. is_key_among v keys ≡ true) (sym j) e))
ahead_done a rd kept ds keys (z ∷ ys) (k ∷ ks) x y h (inl i) (inr b) d e = ahead_done a rd kept ds keys ys ks x y h.2 i.1 b d e
ahead_done a rd kept ds keys (z ∷ ys) (k ∷ ks) x y h (inr i) b d e = ahead_done a rd kept ds keys ys (k ∷ ks) x y h.2 i b d e

-- ---- a reader that has its place stands where it has read, or was sealed

-- nothing of it is over there
open_there : (a : ℕ) (ps : List Joined) → list_any (λ p. p.actor == a) ps ≡ true → AllByRecursion (λ p. p.finished ≡ false) ps → open_in a ps ≡ true
open_there a [] h f = absurd (true≢false (sym h))
open_there a (p ∷ ps) h f = by (p.actor == a) h (λ k. open_there a ps k f.1)
  where
    by : (v : Bool) → (v || list_any (λ p. p.actor == a) ps) ≡ true → (list_any (λ p. p.actor == a) ps ≡ true → open_in a ps ≡ true) → holds (λ p. not p.finished) (if v then Some p else find (λ p. p.actor == a) ps) ≡ true
    by true q k = ap not f.0
    by false q k = k q

pub stands_unsealed : {C : Type 0} (s : Machine C) (t a : ℕ) (x : Act) → Left s → Standing s → act_of t s.book.acts ≡ Some x → is_doomed x.status ≡ false → is_sealed x.status ≡ false → has_place a x ≡ true → is_key_among (OfAct t) (map key_of (cell_at s a).entries) ≡ true
unfolding Left Standing
stands_unsealed s t a x l st e d n p = st t x e d a (open_there a x.places p (weaker (λ q. q.finished ≡ true → is_through x.status ≡ true) (λ q. q.finished ≡ false) x.places (λ q k. false_from_ne_true q.finished (λ v. through x.status d n (k v))) (l t x e)))
  where
    through : (z : Status) → is_doomed z ≡ false → is_sealed z ≡ false → is_through z ≡ true → ⊥
    through Live d n q = true≢false (sym q)
    through (Doomed v) d n q = true≢false d
    through (Decided c) d n q = true≢false (sym q)
    through (Sealed c) d n q = true≢false n

stands_or_sealed : {C : Type 0} (s : Machine C) (t a c : ℕ) (x : Act) → Left s → Standing s → act_of t s.book.acts ≡ Some x → has_number c x.status ≡ true → has_place a x ≡ true → (is_sealed x.status ≡ true) ⊎ (is_key_among (OfAct t) (map key_of (cell_at s a).entries) ≡ true)
stands_or_sealed s t a c x l st e i p = elim (cases_Bool (is_sealed x.status)) [ inl q ↦ inl q | inr q ↦ inr (stands_unsealed s t a x l st e (sound x.status i) q p) ]
  where
    sound : (z : Status) → has_number c z ≡ true → is_doomed z ≡ false
    sound Live q = refl
    sound (Doomed v) q = absurd (true≢false (sym q))
    sound (Decided d) q = refl
    sound (Sealed d) q = refl

-- what is taken of one that commits: it does not only read, stands on the actor, and all ahead of it there have committed
pub record Commits {C : Type 0} (s : Machine C) (h : History) (a : ℕ) (who : Who) : Type 0 where
  pub fresh : (is_kept who h.kept || has_done h.committed who) ≡ false
  pub writes : reads_who s.book.acts who ≡ false
  pub stands : is_key_among who (keys_in (h.long a)) ≡ true
  pub ahead : KeptAhead h.kept who (h.long a)

pub some_act : (o : Option Act) → is_some o ≡ true → (x : Act) × (o ≡ Some x)
some_act None e = absurd (true≢false (sym e))
some_act (Some x) e = (x, refl)

pub reader_over : {C : Type 0} (w : Fixed C) (Of : Tx → C → Type 0) (finish : C → List State → Alone) (s : Machine C) (h : History) (a t : ℕ) (who : Who) (sure : Who → Bool) (d : Done) → AllGood w Of finish s h → Chained s h → SureOf sure s h → Commits s h a who
    → DoneFrom s.book.acts t d → is_done_at a h.committed (OfAct t) ≡ true → has_read (h.reads a) t ≡ true → is_value d.result ≡ true → sure (OfAct t) ≡ true
unfolding Tracked ReadBy
reader_over w Of finish s h a t who sure d g ch su c f there read value =
    let x = some_act (act_of t s.book.acts) f.there in
    let i = f.is_it t x.0 x.1 refl in
    let r = and_parts x.0.reader (has_place a x.0) (reads x.0 x.1) in
    elim (stands_or_sealed s t a i.c x.0 g.left g.standing x.1 i.at r.1) [
      | inl q ↦ su.sealed t (subst (λ o. holds (λ x. is_sealed x.status && is_value x.result) o ≡ true) (sym x.1) (and_from (is_sealed x.0.status) (is_value x.0.result) q (ap is_value (sym i.result) ∙ value)))
      | inr q ↦ absurd (none (ap is_reader_act x.1 ∙ r.0) (subst (λ z. is_key_among (OfAct t) z ≡ true) (g.good.tracked a).stands q))
    ]
  where
    reads : (x : Act) → act_of t s.book.acts ≡ Some x → (x.reader && has_place a x) ≡ true
    reads x e = elim (cases_Bool (x.reader && has_place a x)) [
      | inl q ↦ q
      | inr q ↦ absurd (true≢false (sym read ∙ not_read a t s.book.acts (h.reads a) (subst (λ o. holds (reads_at a) o ≡ false) (sym e) q) (g.read_by a)))
    ]

    none : is_reader_act (act_of t s.book.acts) ≡ true → is_key_among (OfAct t) (keys_in (h.long a)) ≡ true → ⊥
    none r e =
        let other : is_who who (OfAct t) ≡ false = false_from_ne_true (is_who who (OfAct t)) (λ q. true≢false (sym (subst (λ z. reads_who s.book.acts z ≡ true) (sym (is_who_true who (OfAct t) q)) r) ∙ c.writes)) in
        elim (one_behind who (OfAct t) (keys_in (h.long a)) other c.stands e) [
          | inl b ↦ elim (or_cases (is_kept who h.kept || has_done h.committed who) (reads_who s.book.acts who) (ahead_done a (reads_who s.book.acts) h.kept h.committed (keys_in (h.long a)) (h.placed a) (keys_in (h.long a)) who (OfAct t) (ch.chains a).front (ch.chains a).in_order b there c.stands)) [
            | inl q ↦ true≢false (sym q ∙ c.fresh)
            | inr q ↦ true≢false (sym q ∙ c.writes)
          ]
          | inr b ↦ true≢false (sym (ahead_kept h.kept (OfAct t) who (h.long a) c.ahead b) ∙ reader_not_kept s h t g.acts r)
        ]
