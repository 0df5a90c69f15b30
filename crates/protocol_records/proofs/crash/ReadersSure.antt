-- When a reader gets its place, all that committed on an actor where it came is sure.
use Rattle.std.specs.Prelude.{◌≡◌, refl, ℕ, ◌≤◌, ◌==◌, max, not, Bool, true, false, ◌&&◌, ◌||◌, Option, Some, None, List, [], ◌∷◌, map}
use Rattle.std.specs.List.{AllByRecursion}
use Rattle.std.proofs.Common.{arith, sym, ap, subst, inl, inr, ◌∙◌}
use Rattle.std.proofs.lemmas.Bool.{true≢false, or_cases, eqb-true, cases_Bool}
use Rattle.snap_base.specs.declared.transactions.Tx.{Tx}
use Rattle.snap_base.specs.declared.transactions.State.{State}
use Rattle.protocol.specs.Facts.{Alone}
use Rattle.protocol.specs.Fixed.{Fixed}
use Rattle.protocol.specs.Parts.{Act, Batch, Cascade, Who, OfBatch, OfAct, Entry, BatchEntry, ActEntry, Machine}
use Rattle.protocol.specs.Events.{Decide}
use Rattle.protocol.specs.Words.{is_who, is_value, is_doomed, is_aborted, is_ordered, act_of}
use Rattle.protocol.specs.Conditions.{IsAllowed}
use Rattle.protocol.specs.Effects.{cell_at}
use Rattle.protocol.specs.History.{History, Slice, Ran, Stands, Gone, is_reader_act}
use Rattle.protocol_laws.specs.Tracks.{key_of, keys_in, is_key_among, has_read}
use Rattle.protocol_laws.specs.Commits.{is_kept, KeptFront}
use Rattle.protocol_laws.specs.Befores.{Befores}
use Rattle.protocol_laws.specs.FromDesk.{is_declared, EntryOf}
use Rattle.protocol_records.specs.Logged.{is_on, GoneSure}
use Rattle.protocol_laws.proofs.machine.TrackLists
use Rattle.protocol_laws.proofs.machine.TracksKept.{Tracked}
use Rattle.protocol_laws.proofs.machine.TurnsKept.{Turned}
use Rattle.protocol_laws.proofs.machine.CommitsKept.{Committed}
use Rattle.protocol_laws.proofs.machine.BeforesKept.{Numbers}
use Rattle.protocol_laws.proofs.machine.BehindKept.{Behind, AllBehind}
use Rattle.protocol_laws.proofs.machine.ActsKept.{Acts}
use Rattle.protocol_laws.proofs.machine.ActsOwed.{top_at, sound_at}
use Rattle.protocol_laws.proofs.machine.ReadersKept.{LockOf, Locks, reader_of}
use Rattle.protocol_laws.specs.Sees.{SeesAt}
use Rattle.protocol_laws.proofs.machine.ReadersSee.{AllSee, Lined, lined, none_has}
use Rattle.protocol_laws.proofs.machine.AllGood.{AllGood}
use Rattle.protocol_records.proofs.crash.OnLong.{on_kept}
use Rattle.protocol_records.proofs.crash.KeptSure.{SureOf, same_who, settled_low, at_decide}
use Rattle.protocol_laws.proofs.first.Statuses.{live_not_doomed}

ahead_of_reader : (sure : Who → Bool) (acts : List Act) (cs : List Cascade) (bs : List Batch) (kept : List Who) (a top : ℕ) (bad : Bool) (t : ℕ) (x : Act) (now : State) (zs : List Slice) (rs : List Ran) (es : List Entry) (y : Who) → act_of t acts ≡ Some x → is_doomed x.status ≡ false → x.reader ≡ true → has_read zs t ≡ true
    → ((k : ℕ) → is_declared k a bs ≡ true → k ≤ x.m → is_aborted k cs ≡ false → sure (OfBatch k) ≡ true) → ((n : ℕ) → is_reader_act (act_of n acts) ≡ true → is_kept (OfAct n) kept ≡ false)
    → Befores acts top rs → Behind acts cs bad rs → AllByRecursion (EntryOf a bs) es → AllByRecursion (LockOf acts) es → SeesAt now zs es → Lined rs es → map key_of es ≡ keys_in rs
    → GoneSure sure rs → KeptFront kept rs → is_key_among (OfAct t) (keys_in rs) ≡ true → is_kept y kept ≡ true → is_on y rs ≡ true → sure y ≡ true
ahead_of_reader sure acts cs bs kept a top bad t x now zs [] es y f d r z k n b h g l v u q gs fr i ky o = absurd (true≢false (sym o))
ahead_of_reader sure acts cs bs kept a top bad t x now zs (Gone (OfBatch j) ss ∷ rs) es y f d r z k n b h g l v u q gs fr i ky o = elim (or_cases (is_who (OfBatch j) y) (is_on y rs) o) [
  | inl c ↦ same_who sure (OfBatch j) y c gs.0
  | inr c ↦ ahead_of_reader sure acts cs bs kept a (max top j) (bad || is_aborted j cs) t x now zs rs es y f d r z k n b h g l v u q gs.1 fr.1 i ky c
]
ahead_of_reader sure acts cs bs kept a top bad t x now zs (Gone (OfAct m) ss ∷ rs) es y f d r z k n b h g l v u q gs fr i ky o = elim (or_cases (is_who (OfAct m) y) (is_on y rs) o) [
  | inl c ↦ same_who sure (OfAct m) y c gs.0
  | inr c ↦ ahead_of_reader sure acts cs bs kept a top bad t x now zs rs es y f d r z k n b h g l v u q gs.1 fr.1 i ky c
]
ahead_of_reader sure acts cs bs kept a top bad t x now zs (Stands p c ss ∷ rs) [] y f d r z k n b h g l v u q gs fr i ky o = absurd u
ahead_of_reader sure acts cs bs kept a top bad t x now zs (Stands (OfBatch j) c ss ∷ rs) (ActEntry e ∷ es) y f d r z k n b h g l v u q gs fr i ky o = absurd (cc u.0)
ahead_of_reader sure acts cs bs kept a top bad t x now zs (Stands (OfAct m) c ss ∷ rs) (BatchEntry e ∷ es) y f d r z k n b h g l v u q gs fr i ky o = absurd (cc u.0)
ahead_of_reader sure acts cs bs kept a top bad t x now zs (Stands (OfBatch j) c ss ∷ rs) (BatchEntry e ∷ es) y f d r z k n b h g l v u q gs fr i ky o = elim (cases_Bool e.complete) [
  | inl w ↦ elim (or_cases (is_who (OfBatch j) y) (is_on y rs) o) [
    | inl p ↦ same_who sure (OfBatch j) y p (k j (subst (λ n. is_declared n a bs ≡ true) own g.0.0) (omega (arith, top_at acts t (max top j) x rs f d b i)) (sound_at acts cs bad j t x rs f d h i))
    | inr p ↦ ahead_of_reader sure acts cs bs kept a (max top j) (bad || is_aborted j cs) t x now zs rs es y f d r z k n b h g.1 l.1 v.2 u.3 rest gs fr.1 i ky p
  ]
  | inr w ↦ absurd (true≢false (sym z ∙ none_has acts t zs es l.1 (ap is_reader_act f ∙ r) (subst (λ n. is_key_among (OfAct t) n ≡ true) (sym rest) i) (v.1 (ap not w))))
]
  where
    own : e.bid ≡ j
    own = cc u.0

    rest : map key_of es ≡ keys_in rs
    rest = cc q
ahead_of_reader sure acts cs bs kept a top bad t x now zs (Stands (OfAct m) c ss ∷ rs) (ActEntry e ∷ es) y f d r z k n b h g l v u q gs fr i ky o = elim (or_cases (m == t) (is_key_among (OfAct t) (keys_in rs)) i) [
  | inl w ↦ absurd (never (subst (λ j. is_reader_act (act_of j acts) ≡ true) (sym (eqb-true m t w)) (ap is_reader_act f ∙ r)))
  | inr w ↦ elim (cases_Bool e.reader) [
    | inl p ↦ elim (or_cases (is_who (OfAct m) y) (is_on y rs) o) [
      | inl s ↦ absurd (true≢false (sym (subst (λ v. is_kept v kept ≡ true) (sym (TrackLists.is_who_true (OfAct m) y s)) ky) ∙ n m (subst (λ y. is_reader_act (act_of y acts) ≡ true) same (reader_of e.reader (act_of e.tid acts) l.0 ∙ p))))
      | inr s ↦ ahead_of_reader sure acts cs bs kept a top bad t x now zs rs es y f d r z k n b.1 h.1 g.1 l.1 v.2 u.3 rest gs fr.1 w ky s
    ]
    | inr p ↦ absurd (true≢false (sym z ∙ none_has acts t zs es l.1 (ap is_reader_act f ∙ r) (subst (λ y. is_key_among (OfAct t) y ≡ true) (sym rest) w) (v.1 (ap not p))))
  ]
]
  where
    same : e.tid ≡ m
    same = cc u.0

    rest : map key_of es ≡ keys_in rs
    rest = cc q

    -- a reader that stands there is kept nowhere, and nobody behind it is
    never : is_reader_act (act_of m acts) ≡ true → ⊥
    never j = elim (or_cases (is_who (OfAct m) y) (is_on y rs) o) [
      | inl s ↦ true≢false (sym (subst (λ v. is_kept v kept ≡ true) (sym (TrackLists.is_who_true (OfAct m) y s)) ky) ∙ n m j)
      | inr s ↦ true≢false (sym (fr.0 (on_kept kept y rs ky s)) ∙ n m j)
    ]

-- who reads is not among those that changed a state
pub reader_not_kept : {C : Type 0} (s : Machine C) (h : History) (n : ℕ) → Acts s h → is_reader_act (act_of n s.book.acts) ≡ true → is_kept (OfAct n) h.kept ≡ false
unfolding Acts
reader_not_kept s h n i r = by (act_of n s.book.acts) refl r
  where
    last : (a b v : Bool) → v ≡ true → (a && (b && not v)) ≡ false
    last true true true e = refl
    last true true false e = absurd (true≢false (sym e))
    last true false v e = refl
    last false b v e = refl

    by : (o : Option Act) → act_of n s.book.acts ≡ o → is_reader_act o ≡ true → is_kept (OfAct n) h.kept ≡ false
    by None e q = absurd (true≢false (sym q))
    by (Some x) e q = (i n x e).known ∙ last (is_ordered x.status) (is_value x.result) x.reader q

pub reader_sure : {C : Type 0} (w : Fixed C) (Of : Tx → C → Type 0) (finish : C → List State → Alone) (t a : ℕ) (s : Machine C) (h : History) (sure : Who → Bool) → IsAllowed w (Decide t) s → AllGood w Of finish s h → SureOf sure s h
    → is_reader_act (act_of t s.book.acts) ≡ true → has_read (h.reads a) t ≡ true → is_key_among (OfAct t) (keys_in (h.long a)) ≡ true → (y : Who) → is_kept y h.kept ≡ true → is_on y (h.long a) ≡ true → sure y ≡ true
unfolding Tracked Turned Committed Numbers AllBehind Locks AllSee
reader_sure w Of finish t a s h sure ok g su r z i y ky o =
    let x = at_decide w Of finish t s h ok g in
    ahead_of_reader sure s.book.acts s.book.cascades s.desk.batches h.kept a 0 false t x.act (cell_at s a).state (h.reads a) (h.long a) (cell_at s a).entries y x.found (live_not_doomed x.act.status x.live) (sym (ap is_reader_act x.found) ∙ r) z
    (λ j e l n. su.settled j (settled_low w s j a g.good.settling e (omega (arith, l, x.low)) n)) (λ n q. reader_not_kept s h n g.acts q) (g.good.numbers a) (g.behind a) (g.good.from_desk.entries a) (g.locks a) (g.see a)
    (lined (h.long a) (cell_at s a).entries (g.good.turned a) (g.good.tracked a).stands) (g.good.tracked a).stands (su.gone a) (g.good.committed a).front i ky o
