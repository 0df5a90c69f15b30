-- What events owe of ACTs holds in every state that the invariants hold in.
use Rattle.std.specs.Prelude.{◌≡◌, refl, ℕ, ◌≤◌, ◌<◌, ◌==◌, max, nat_le, not, Bool, true, false, ◌&&◌, ◌||◌, ◌⊎◌, if◌then◌else◌, Option, Some, None, is_some, List, [], ◌∷◌, length, map, find}
use Rattle.std.specs.List.{AllByRecursion, list_any}
use Rattle.std.proofs.Common.{arith, sym, ap, subst, inl, inr, ◌∙◌}
use Rattle.std.proofs.lemmas.Bool.{cases_Bool, true≢false, eqb-true, leb-true, and_parts, or_cases, or_left, or_right, or_parts, false_from_ne_true}
use Rattle.snap_base.specs.declared.transactions.State.{State}
use Rattle.snap_base.specs.declared.transactions.Tx.{Tx}
use Rattle.snap_base.specs.declared.transactions.TxResult.{TxResult}
use Rattle.snap_base.specs.declared.transactions.TxResult.TheVariants.{Value, Fail}
use Rattle.protocol.specs.Facts.{Alone}
use Rattle.protocol.specs.Fixed.{Fixed, Go, base, tx_at, is_pact}
use Rattle.protocol.specs.Parts.{Act, Joined, Batch, Pact, Cascade, Status, Live, Doomed, Decided, Sealed, Who, OfBatch, OfAct, Entry, BatchEntry, ActEntry, Waiting, Machine}
use Rattle.protocol.specs.Events.{Ask, Decide, Finish, Trim}
use Rattle.protocol.specs.Words.{holds, is_doomed, is_sealed, is_live_status, is_value, is_failure, is_aborted, is_settled, is_who, is_entry_of, act_of, joined_of, batch_of, declared_of, waiting_of, is_ordered, has_act}
use Rattle.protocol.specs.Conditions.{IsAllowed, conditions}
use Rattle.protocol.specs.Effects.{cell_at, no_cell}
use Rattle.protocol.specs.History.{History, Slice, Ran, Stands, Gone, slices_of, slices_for, act_view, view_in, is_traceless, is_reader_act}
use Rattle.protocol_laws.specs.Tracks.{key_of, keys_in, is_key_among, InOrder, has_read}
use Rattle.protocol_laws.specs.Turns.{NotDone, Turns}
use Rattle.protocol_laws.specs.Places.{FirmUpTo}
use Rattle.protocol_laws.specs.Befores.{is_above, Befores}
use Rattle.protocol_laws.specs.Commits.{is_kept, KeptAhead, KeptOrReads}
use Rattle.protocol_laws.specs.Marks.{Marked}
use Rattle.protocol_laws.specs.FromDesk.{is_declared, EntryOf, FromDesk}
use Rattle.protocol_laws.proofs.first.SettlingKept as settling
use Rattle.protocol_laws.proofs.machine.ControlWalk.{AllControls}
use Rattle.protocol_laws.proofs.machine.TracksKept.{Tracked, act_not_among, held}
use Rattle.protocol_laws.proofs.machine.TurnsKept.{one_is, Turned}
use Rattle.protocol_laws.proofs.machine.BeforesKept.{Numbers}
use Rattle.protocol_laws.proofs.machine.BatchesCommit.{GoodKey}
use Rattle.protocol_laws.proofs.machine.CommitsKept.{MayDecide, Reads}
use Rattle.protocol_laws.proofs.machine.RunOwed as owes
use Rattle.protocol_laws.proofs.machine.Resting.{EachPact, NoResult, NoneNoted}
use Rattle.protocol_laws.proofs.machine.Good as good
use Rattle.protocol_laws.proofs.machine.Good.{Good}
use Rattle.protocol_laws.proofs.machine.ActsFound as acts
use Rattle.protocol_laws.proofs.machine.ActResults as results
use Rattle.protocol_laws.proofs.machine.ActResults.{NoneActed, NoActResult}
use Rattle.protocol_laws.proofs.machine.ActsKept.{Acts, KnownActs}
use Rattle.protocol_laws.proofs.machine.QueuedKept.{OfPacts, Sizes}
use Rattle.protocol_laws.proofs.machine.BehindKept.{Behind, AllBehind, none_bad}
use Rattle.protocol_laws.proofs.machine.ActsGrow.{has_place}
use Rattle.protocol_laws.proofs.machine.EntriesKept.{Left, Standing, is_through, open_in}
use Rattle.protocol_laws.proofs.machine.CommitLists.{rest_slices, Sees}
use Rattle.protocol_laws.proofs.machine.ShowsKept.{viewed}
use Rattle.protocol_laws.proofs.machine.HighLists
use Rattle.protocol_laws.specs.Highs.{is_free}
use Rattle.protocol_laws.proofs.machine.ReadersKept.{LockOf, Locks, reader_of}
use Rattle.protocol_laws.specs.Sees.{SeesAt}
use Rattle.protocol_laws.proofs.machine.ReadersSee.{ReadBy, reads_at, not_read, AllSee, Lined, lined, view_sees, no_view, entry_sees, none_has, none_seen}
use Rattle.protocol_laws.proofs.machine.StartsKept.{Starts, Started, NoPact, no_slot, ran_there}
use Rattle.protocol_laws.proofs.first.Lists.{all_found, some_of, weaker}
use Rattle.protocol_laws.proofs.first.Statuses.{live_not_doomed, live_unordered, settled_not_formed}
pub use Rattle.protocol_laws.proofs.machine.BatchesCommit.{good_keys}

-- ---- who has no result is not kept

pub not_kept : {C : Type 0} (s : Machine C) (h : History) (t : ℕ) → Acts s h → KnownActs s h → NoActResult t s.book.acts → is_kept (OfAct t) h.kept ≡ false
unfolding Acts KnownActs
not_kept s h t i k n = false_from_ne_true (is_kept (OfAct t) h.kept) (λ q. by (act_of t s.book.acts) refl (k t q) q)
  where
    by : (o : Option Act) → act_of t s.book.acts ≡ o → is_some o ≡ true → is_kept (OfAct t) h.kept ≡ true → ⊥
    by None e v q = true≢false (sym v)
    by (Some x) e v q = true≢false (sym (and_parts (is_value x.result) (not x.reader) (and_parts (is_ordered x.status) (is_value x.result && not x.reader) (sym (i t x e).known ∙ q)).1).0 ∙ ap is_value (n t x e refl))

-- ---- a slice of an ACT

no_pact_tid : {C : Type 0} (w : Fixed C) (s : Machine C) (h : History) (t : ℕ) → is_pact (tx_at w.text (h.trails t).tx) ≡ false → OfPacts w s h → NoPact t s.desk.batches
unfolding OfPacts
no_pact_tid w s h t e g = batches s.desk.batches g
  where
    pacts : (ps : List Pact) → AllByRecursion (λ p. is_pact (tx_at w.text (h.trails p.tid).tx) ≡ true) ps → AllByRecursion (λ p. p.tid ≡ t → ⊥) ps
    pacts [] q = tt
    pacts (p ∷ ps) q = ((λ i. true≢false (sym q.0 ∙ (ap (λ z. is_pact (tx_at w.text (h.trails z).tx)) i ∙ e))), pacts ps q.1)

    batches : (bs : List Batch) → EachPact (λ u r. is_pact (tx_at w.text (h.trails u).tx) ≡ true) bs → NoPact t bs
    batches [] q = tt
    batches (b ∷ bs) q = (pacts b.pacts q.0, batches bs q.1)

pub act_runs : {C : Type 0} (w : Fixed C) (Of : Tx → C → Type 0) (finish : C → List Rattle.snap_base.specs.declared.transactions.State.State → Alone) (t a : ℕ) (s : Machine C) (h : History) → is_some (waiting_of t (cell_at s a).inbox) ≡ true → is_pact (tx_at w.text (h.trails t).tx) ≡ false → Good w Of finish s h → OfPacts w s h → is_kept (OfAct t) h.kept ≡ false
    → good.RunOwed t a s h
act_runs {C} w Of finish t a s h o e g p own = (undone, owes.entry_not_kept s h t a (cell_at s a).entries g.known g.marked g.valued (by (waiting_of t (cell_at s a).inbox) refl o) (g.from_desk.entries a) own)
  where
    by : (x : Option (Waiting C)) → waiting_of t (cell_at s a).inbox ≡ x → is_some x ≡ true → NoResult t s.desk.batches
    by None f q = absurd (true≢false (sym q))
    by (Some x) f q = let n = all_found (λ x. NoneNoted s x.tid (Go a x.control)) (λ x. x.tid == t) (cell_at s a).inbox x (g.none.inboxes a) f in subst (λ z. NoResult z s.desk.batches) (eqb-true x.tid t n.1) n.0

    undone : (y : Entry) → find (is_entry_of t) (cell_at s a).entries ≡ Some y → NotDone t y
    undone (BatchEntry b) f = let n = all_found (EntryOf a s.desk.batches) (is_entry_of t) (cell_at s a).entries (BatchEntry b) (g.from_desk.entries a) f in absurd (true≢false (sym n.1 ∙ no_slot t b.bid s.desk.batches b.slots (no_pact_tid w s h t e p) n.0.1))
    undone (ActEntry x) f = tt

-- ---- along a long schedule up to an ACT that stands there and is not given up

pub top_at : (acts : List Act) (t top : ℕ) (x : Act) (rs : List Ran) → act_of t acts ≡ Some x → is_doomed x.status ≡ false → Befores acts top rs → is_key_among (OfAct t) (keys_in rs) ≡ true → top ≤ x.m
top_at acts t top x [] f d h e = absurd (true≢false (sym e))
top_at acts t top x (Stands (OfBatch k) c ss ∷ rs) f d h e = omega (arith, top_at acts t (max top k) x rs f d h e)
top_at acts t top x (Stands (OfAct u) c ss ∷ rs) f d h e = elim (or_cases (u == t) (is_key_among (OfAct t) (keys_in rs)) e) [
  | inl q ↦ elim (or_cases (is_doomed x.status) (nat_le top x.m) (subst (λ z. holds (is_above top) z ≡ true) (ap (λ z. act_of z acts) (eqb-true u t q) ∙ f) h.0)) [ inl v ↦ absurd (true≢false (sym v ∙ d)) | inr v ↦ leb-true top x.m v ]
  | inr q ↦ top_at acts t top x rs f d h.1 q
]
top_at acts t top x (Gone (OfBatch k) ss ∷ rs) f d h e = omega (arith, top_at acts t (max top k) x rs f d h e)
top_at acts t top x (Gone (OfAct u) ss ∷ rs) f d h e = top_at acts t top x rs f d h e

pub sound_at : (acts : List Act) (cs : List Cascade) (bad : Bool) (k t : ℕ) (x : Act) (rs : List Ran) → act_of t acts ≡ Some x → is_doomed x.status ≡ false → Behind acts cs (bad || is_aborted k cs) rs → is_key_among (OfAct t) (keys_in rs) ≡ true → is_aborted k cs ≡ false
sound_at acts cs bad k t x rs f d h e = false_from_ne_true (is_aborted k cs) (λ q. none_bad acts cs (bad || is_aborted k cs) t x rs f d h e (or_right bad _ q))

pub firm_ahead : (acts : List Act) (cs : List Cascade) (n top : ℕ) (bad : Bool) (t : ℕ) (x : Act) (rs : List Ran) → act_of t acts ≡ Some x → is_doomed x.status ≡ false → x.m ≤ n → Befores acts top rs → Behind acts cs bad rs → FirmUpTo n cs (OfAct t) rs
firm_ahead acts cs n top bad t x [] f d l b h = tt
firm_ahead acts cs n top bad t x (Stands (OfBatch k) c ss ∷ rs) f d l b h = ((λ e. (omega (arith, l, top_at acts t (max top k) x rs f d b e), sound_at acts cs bad k t x rs f d h e)), firm_ahead acts cs n (max top k) (bad || is_aborted k cs) t x rs f d l b h)
firm_ahead acts cs n top bad t x (Stands (OfAct u) c ss ∷ rs) f d l b h = ((λ e. tt), firm_ahead acts cs n top bad t x rs f d l b.1 h.1)
firm_ahead acts cs n top bad t x (Gone (OfBatch k) ss ∷ rs) f d l b h = firm_ahead acts cs n (max top k) (bad || is_aborted k cs) t x rs f d l b h
firm_ahead acts cs n top bad t x (Gone (OfAct u) ss ∷ rs) f d l b h = firm_ahead acts cs n top bad t x rs f d l b h

-- One that ran there, and has no control there, has only complete batches ahead.
kept_ahead : {C : Type 0} (rd : ℕ → Bool) (acts : List Act) (cs : List Cascade) (bs : List Batch) (kept : List Who) (a top : ℕ) (bad : Bool) (t : ℕ) (x : Act) (xs : List (Waiting C)) (rs : List Ran) → act_of t acts ≡ Some x → is_doomed x.status ≡ false → is_some (waiting_of t xs) ≡ false → rd t ≡ false
    → ((k : ℕ) → is_declared k a bs ≡ true → k ≤ x.m → is_aborted k cs ≡ false → is_kept (OfBatch k) kept ≡ true)
    → Befores acts top rs → Behind acts cs bad rs → InOrder rs → AllByRecursion (GoodKey a bs) (keys_in rs) → Starts rd xs rs → KeptAhead kept (OfAct t) rs
kept_ahead rd acts cs bs kept a top bad t x xs [] f d n v k b h o g st = tt
kept_ahead rd acts cs bs kept a top bad t x xs (Stands (OfBatch j) true ss ∷ rs) f d n v k b h o g st = ((λ e. k j g.0.0 (omega (arith, top_at acts t (max top j) x rs f d b e)) (sound_at acts cs bad j t x rs f d h e)), kept_ahead rd acts cs bs kept a (max top j) (bad || is_aborted j cs) t x xs rs f d n v k b h o.1 g.1 st)
kept_ahead rd acts cs bs kept a top bad t x xs (Stands (OfBatch j) false ss ∷ rs) f d n v k b h o g st = ((λ e. absurd (ran_there rd xs t rs n v e st (o.0 refl))), kept_ahead rd acts cs bs kept a (max top j) (bad || is_aborted j cs) t x xs rs f d n v k b h o.1 g.1 st)
kept_ahead rd acts cs bs kept a top bad t x xs (Stands (OfAct u) true ss ∷ rs) f d n v k b h o g st = ((λ e. absurd (true≢false (g.0.1 refl))), kept_ahead rd acts cs bs kept a top bad t x xs rs f d n v k b.1 h.1 o.1 g.1 st.1)
kept_ahead rd acts cs bs kept a top bad t x xs (Stands (OfAct u) false ss ∷ rs) f d n v k b h o g st = ((λ e. absurd (ran_there rd xs t rs n v e st.1 (o.0 refl))), kept_ahead rd acts cs bs kept a top bad t x xs rs f d n v k b.1 h.1 o.1 g.1 st.1)
kept_ahead rd acts cs bs kept a top bad t x xs (Gone (OfBatch j) ss ∷ rs) f d n v k b h o g st = kept_ahead rd acts cs bs kept a (max top j) (bad || is_aborted j cs) t x xs rs f d n v k b h o g st
kept_ahead rd acts cs bs kept a top bad t x xs (Gone (OfAct u) ss ∷ rs) f d n v k b h o g st = kept_ahead rd acts cs bs kept a top bad t x xs rs f d n v k b h o g st

-- Around a reader that ran there, all that ran committed.
rest_nothing : (kept : List Who) (rs : List Ran) → Rattle.protocol_laws.specs.Tracks.slices_in rs ≡ [] → rest_slices kept rs ≡ []
rest_nothing kept [] h = refl
rest_nothing kept (Stands y c [] ∷ rs) h = by (is_kept y kept) (rest_nothing kept rs h)
  where
    by : (b : Bool) → rest_slices kept rs ≡ [] → (if b then rest_slices kept rs else rest_slices kept rs) ≡ []
    by true k = k
    by false k = k
rest_nothing kept (Stands y c (x ∷ xs) ∷ rs) h = absurd (cc h)
rest_nothing kept (Gone y [] ∷ rs) h = rest_nothing kept rs h
rest_nothing kept (Gone y (x ∷ xs) ∷ rs) h = absurd (cc h)

rest_past : (kept : List Who) (y : Who) (c : Bool) (ss : List Slice) (rs : List Ran) → (is_kept y kept ≡ true) ⊎ (ss ≡ []) → rest_slices kept rs ≡ [] → rest_slices kept (Stands y c ss ∷ rs) ≡ []
rest_past kept y c ss rs (inl e) h = rw e h
rest_past kept y c ss rs (inr e) h = rw e (by (is_kept y kept))
  where
    by : (b : Bool) → (if b then rest_slices kept rs else rest_slices kept rs) ≡ []
    by true = h
    by false = h

kept_around : (acts : List Act) (cs : List Cascade) (bs : List Batch) (kept : List Who) (a top : ℕ) (bad : Bool) (t : ℕ) (x : Act) (now : State) (zs : List Slice) (rs : List Ran) (es : List Entry) → act_of t acts ≡ Some x → is_doomed x.status ≡ false → x.reader ≡ true → has_read zs t ≡ true
    → ((k : ℕ) → is_declared k a bs ≡ true → k ≤ x.m → is_aborted k cs ≡ false → is_kept (OfBatch k) kept ≡ true)
    → Befores acts top rs → Behind acts cs bad rs → InOrder rs → AllByRecursion (EntryOf a bs) es → AllByRecursion (LockOf acts) es → SeesAt now zs es → Lined rs es → map key_of es ≡ keys_in rs → is_key_among (OfAct t) (keys_in rs) ≡ true → rest_slices kept rs ≡ []
kept_around acts cs bs kept a top bad t x now zs [] es f d r z k b h o g l v u q i = refl
kept_around acts cs bs kept a top bad t x now zs (Gone (OfBatch j) ss ∷ rs) es f d r z k b h o g l v u q i = kept_around acts cs bs kept a (max top j) (bad || is_aborted j cs) t x now zs rs es f d r z k b h o g l v u q i
kept_around acts cs bs kept a top bad t x now zs (Gone (OfAct n) ss ∷ rs) es f d r z k b h o g l v u q i = kept_around acts cs bs kept a top bad t x now zs rs es f d r z k b h o g l v u q i
kept_around acts cs bs kept a top bad t x now zs (Stands y c ss ∷ rs) [] f d r z k b h o g l v u q i = absurd u
kept_around acts cs bs kept a top bad t x now zs (Stands (OfBatch j) c ss ∷ rs) (ActEntry e ∷ es) f d r z k b h o g l v u q i = absurd (cc u.0)
kept_around acts cs bs kept a top bad t x now zs (Stands (OfAct n) c ss ∷ rs) (BatchEntry e ∷ es) f d r z k b h o g l v u q i = absurd (cc u.0)
kept_around acts cs bs kept a top bad t x now zs (Stands (OfBatch j) c ss ∷ rs) (BatchEntry e ∷ es) f d r z k b h o g l v u q i = elim (cases_Bool e.complete) [
  | inl w ↦ rest_past kept (OfBatch j) c ss rs (inl (k j (subst (λ n. is_declared n a bs ≡ true) own g.0.0) (omega (arith, top_at acts t (max top j) x rs f d b i)) (sound_at acts cs bad j t x rs f d h i))) (kept_around acts cs bs kept a (max top j) (bad || is_aborted j cs) t x now zs rs es f d r z k b h o.1 g.1 l.1 v.2 u.3 rest i)
  | inr w ↦ absurd (true≢false (sym z ∙ none_has acts t zs es l.1 (ap is_reader_act f ∙ r) (subst (λ n. is_key_among (OfAct t) n ≡ true) (sym rest) i) (v.1 (ap not w))))
]
  where
    own : e.bid ≡ j
    own = cc u.0

    rest : map key_of es ≡ keys_in rs
    rest = cc q
kept_around acts cs bs kept a top bad t x now zs (Stands (OfAct n) c ss ∷ rs) (ActEntry e ∷ es) f d r z k b h o g l v u q i = elim (or_cases (n == t) (is_key_among (OfAct t) (keys_in rs)) i) [
  | inl w ↦
      let own : e.tid ≡ t = same ∙ eqb-true n t w in
      let reader : e.reader ≡ true = sym (reader_of e.reader (act_of e.tid acts) l.0) ∙ (ap (λ m. is_reader_act (act_of m acts)) own ∙ (ap is_reader_act f ∙ r)) in
      rest_past kept (OfAct n) c ss rs (inr (u.2 reader)) (rest_nothing kept rs (o.0 u.1))
  | inr w ↦ elim (cases_Bool e.reader) [
    | inl m ↦ rest_past kept (OfAct n) c ss rs (inr (u.2 m)) (kept_around acts cs bs kept a top bad t x now zs rs es f d r z k b.1 h.1 o.1 g.1 l.1 v.2 u.3 rest w)
    | inr m ↦ absurd (true≢false (sym z ∙ none_has acts t zs es l.1 (ap is_reader_act f ∙ r) (subst (λ y. is_key_among (OfAct t) y ≡ true) (sym rest) w) (v.1 (ap not m))))
  ]
]
  where
    same : e.tid ≡ n
    same = cc u.0

    rest : map key_of es ≡ keys_in rs
    rest = cc q

-- ahead of a reader that came there are readers, and batches that committed
or_reads : (acts : List Act) (cs : List Cascade) (bs : List Batch) (kept : List Who) (a top : ℕ) (bad : Bool) (t : ℕ) (x : Act) (now : State) (zs : List Slice) (rs : List Ran) (es : List Entry) → act_of t acts ≡ Some x → is_doomed x.status ≡ false → x.reader ≡ true → has_read zs t ≡ true
    → ((k : ℕ) → is_declared k a bs ≡ true → k ≤ x.m → is_aborted k cs ≡ false → is_kept (OfBatch k) kept ≡ true)
    → Befores acts top rs → Behind acts cs bad rs → AllByRecursion (EntryOf a bs) es → AllByRecursion (LockOf acts) es → SeesAt now zs es → Lined rs es → map key_of es ≡ keys_in rs → KeptOrReads kept acts (OfAct t) rs
or_reads acts cs bs kept a top bad t x now zs [] es f d r z k b h g l v u q = tt
or_reads acts cs bs kept a top bad t x now zs (Gone (OfBatch j) ss ∷ rs) es f d r z k b h g l v u q = or_reads acts cs bs kept a (max top j) (bad || is_aborted j cs) t x now zs rs es f d r z k b h g l v u q
or_reads acts cs bs kept a top bad t x now zs (Gone (OfAct n) ss ∷ rs) es f d r z k b h g l v u q = or_reads acts cs bs kept a top bad t x now zs rs es f d r z k b h g l v u q
or_reads acts cs bs kept a top bad t x now zs (Stands y c ss ∷ rs) [] f d r z k b h g l v u q = absurd u
or_reads acts cs bs kept a top bad t x now zs (Stands (OfBatch j) c ss ∷ rs) (ActEntry e ∷ es) f d r z k b h g l v u q = absurd (cc u.0)
or_reads acts cs bs kept a top bad t x now zs (Stands (OfAct n) c ss ∷ rs) (BatchEntry e ∷ es) f d r z k b h g l v u q = absurd (cc u.0)
or_reads acts cs bs kept a top bad t x now zs (Stands (OfBatch j) c ss ∷ rs) (BatchEntry e ∷ es) f d r z k b h g l v u q = (
  (λ i. elim (cases_Bool e.complete) [
    | inl w ↦ or_left (is_kept (OfBatch j) kept) _ (k j (subst (λ n. is_declared n a bs ≡ true) own g.0.0) (omega (arith, top_at acts t (max top j) x rs f d b i)) (sound_at acts cs bad j t x rs f d h i))
    | inr w ↦ absurd (true≢false (sym z ∙ none_has acts t zs es l.1 (ap is_reader_act f ∙ r) (subst (λ n. is_key_among (OfAct t) n ≡ true) (sym rest) i) (v.1 (ap not w))))
  ]),
  or_reads acts cs bs kept a (max top j) (bad || is_aborted j cs) t x now zs rs es f d r z k b h g.1 l.1 v.2 u.3 rest,
)
  where
    own : e.bid ≡ j
    own = cc u.0

    rest : map key_of es ≡ keys_in rs
    rest = cc q
or_reads acts cs bs kept a top bad t x now zs (Stands (OfAct n) c ss ∷ rs) (ActEntry e ∷ es) f d r z k b h g l v u q = (
  (λ i. elim (cases_Bool e.reader) [
    | inl m ↦ or_right (is_kept (OfAct n) kept) _ (subst (λ y. is_reader_act (act_of y acts) ≡ true) same (reader_of e.reader (act_of e.tid acts) l.0 ∙ m))
    | inr m ↦ absurd (true≢false (sym z ∙ none_has acts t zs es l.1 (ap is_reader_act f ∙ r) (subst (λ y. is_key_among (OfAct t) y ≡ true) (sym rest) i) (v.1 (ap not m))))
  ]),
  or_reads acts cs bs kept a top bad t x now zs rs es f d r z k b.1 h.1 g.1 l.1 v.2 u.3 rest,
)
  where
    same : e.tid ≡ n
    same = cc u.0

    rest : map key_of es ≡ keys_in rs
    rest = cc q

free_around : (acts : List Act) (t : ℕ) (x : Act) (now : State) (zs : List Slice) (rs : List Ran) (es : List Entry) → act_of t acts ≡ Some x → x.reader ≡ true → has_read zs t ≡ true
    → AllByRecursion (LockOf acts) es → SeesAt now zs es → Lined rs es → map key_of es ≡ keys_in rs → HighLists.FreeAhead true acts t rs
free_around acts t x now zs [] es f r z l v u q = tt
free_around acts t x now zs (Gone y ss ∷ rs) es f r z l v u q = free_around acts t x now zs rs es f r z l v u q
free_around acts t x now zs (Stands y c ss ∷ rs) [] f r z l v u q = absurd u
free_around acts t x now zs (Stands (OfBatch j) c ss ∷ rs) (e ∷ es) f r z l v u q = free_around acts t x now zs rs es f r z l.1 v.2 u.3 (cc q)
free_around acts t x now zs (Stands (OfAct n) c ss ∷ rs) (BatchEntry e ∷ es) f r z l v u q = absurd (cc u.0)
free_around acts t x now zs (Stands (OfAct n) c ss ∷ rs) (ActEntry e ∷ es) f r z l v u q = (
  (λ i. elim (cases_Bool e.reader) [
    | inl m ↦ subst (HighLists.FreeAt true acts) same (by (act_of e.tid acts) (reader_of e.reader (act_of e.tid acts) l.0 ∙ m))
    | inr m ↦ absurd (true≢false (sym z ∙ none_has acts t zs es l.1 (ap is_reader_act f ∙ r) (subst (λ y. is_key_among (OfAct t) y ≡ true) (sym rest) i) (v.1 (ap not m))))
  ]),
  free_around acts t x now zs rs es f r z l.1 v.2 u.3 rest,
)
  where
    same : e.tid ≡ n
    same = cc u.0

    rest : map key_of es ≡ keys_in rs
    rest = cc q

    by : (o : Option Act) → is_reader_act o ≡ true → holds (is_free true) o ≡ true
    by None k = k
    by (Some y) k = or_left y.reader _ k

-- the slices of an ACT
act_slices : (t : ℕ) (rs : List Ran) (es : List Entry) → Turns rs es → AllByRecursion (λ z. z.tid ≡ t) (slices_of (OfAct t) rs)
act_slices t [] [] h = tt
act_slices t [] (e ∷ es) h = absurd h
act_slices t (Gone y ss ∷ rs) es h = act_slices t rs es h
act_slices t (Stands y c ss ∷ rs) [] h = absurd h
act_slices t (Stands y c ss ∷ rs) (BatchEntry b ∷ es) h = subst (λ z. AllByRecursion (λ z. z.tid ≡ t) (if is_who z (OfAct t) then ss else slices_of (OfAct t) rs)) h.0 (act_slices t rs es h.2)
act_slices t (Stands y c ss ∷ rs) (ActEntry x ∷ es) h = subst (λ z. AllByRecursion (λ z. z.tid ≡ t) (if is_who z (OfAct t) then ss else slices_of (OfAct t) rs)) h.0 (by (x.tid == t) refl (act_slices t rs es h.2))
  where
    by : (q : Bool) → (x.tid == t) ≡ q → AllByRecursion (λ z. z.tid ≡ t) (slices_of (OfAct t) rs) → AllByRecursion (λ z. z.tid ≡ t) (if q then ss else slices_of (OfAct t) rs)
    by true e g = subst (λ n. AllByRecursion (λ z. z.tid ≡ n) ss) (eqb-true x.tid t e) h.1.0
    by false e g = g

-- a batch that is at most the last settled one, and not aborted, committed
settled_kept : {C : Type 0} (w : Fixed C) (s : Machine C) (h : History) (k a : ℕ) → settling.Settling w s → Marked s h → is_declared k a s.desk.batches ≡ true → k ≤ s.desk.settled → is_aborted k s.book.cascades ≡ false → is_kept (OfBatch k) h.kept ≡ true
unfolding Marked
settled_kept w s h k a g m e l n =
    let b = one_is (λ b. is_some (declared_of a b)) (batch_of k s.desk.batches) e in
    elim (or_cases b.0.aborted (is_settled b.0.stage) (settling.over_settled w s k b.0 b.1 g l)) [
      | inl q ↦ absurd (true≢false (sym q ∙ (settling.mark_is w s k b.0 b.1 g ∙ n)))
      | inr q ↦ (m k b.0 b.1).known ∙ ap not (settled_not_formed b.0.stage q)
    ]

-- ---- an ACT may get its place

-- it is on each actor that it joined, where it is live
stands_there : {C : Type 0} (s : Machine C) (t a : ℕ) (x : Act) → Left s → Standing s → act_of t s.book.acts ≡ Some x → is_live_status x.status ≡ true → has_place a x ≡ true → is_key_among (OfAct t) (map key_of (cell_at s a).entries) ≡ true
unfolding Left Standing
stands_there s t a x l st e v p = st t x e (live_not_doomed x.status v) a (open_here a x.places p (weaker _ _ x.places (λ q k. false_from_ne_true q.finished (λ f. not_through x.status v (k f))) (l t x e)))
  where
    not_through : (st : Status) → is_live_status st ≡ true → is_through st ≡ true → ⊥
    not_through Live v q = true≢false (sym q)
    not_through (Doomed d) v q = true≢false (sym v)
    not_through (Decided c) v q = true≢false (sym v)
    not_through (Sealed c) v q = true≢false (sym v)

    open_here : (a : ℕ) (ps : List Joined) → list_any (λ p. p.actor == a) ps ≡ true → AllByRecursion (λ p. p.finished ≡ false) ps → open_in a ps ≡ true
    open_here a [] q h = absurd (true≢false (sym q))
    open_here a (p ∷ ps) q h = by (p.actor == a) q (open_here a ps)
      where
        by : (v : Bool) → (v || list_any (λ p. p.actor == a) ps) ≡ true → (list_any (λ p. p.actor == a) ps ≡ true → AllByRecursion (λ p. p.finished ≡ false) ps → open_in a ps ≡ true) → holds (λ p. not p.finished) (if v then Some p else find (λ p. p.actor == a) ps) ≡ true
        by true q r = ap not h.0
        by false q r = r q h.1

-- an ACT that asks has not run there
pub asks_unread : {C : Type 0} (w : Fixed C) (t a : ℕ) (s : Machine C) (h : History) → IsAllowed w (Ask t a) s → AllControls (NoneActed s) s → Acts s h → Left s → Standing s → ReadBy s h → has_read (h.reads a) t ≡ false
unfolding conditions ReadBy Acts
asks_unread w t a s h ok none i l st rb = not_read a t s.book.acts (h.reads a) (by (act_of t s.book.acts) refl ok.1.0) (rb a)
  where
    live : (st : Status) → not (is_doomed st) ≡ true → (is_ordered st ≡ true → ⊥) → is_live_status st ≡ true
    live Live d p = refl
    live (Doomed v) d p = absurd (true≢false (sym d))
    live (Decided c) d p = absurd (p refl)
    live (Sealed c) d p = absurd (p refl)

    by : (o : Option Act) → act_of t s.book.acts ≡ o → holds (λ x. not (is_doomed x.status)) o ≡ true → holds (reads_at a) o ≡ false
    by None e d = refl
    by (Some x) e d =
        let v : is_live_status x.status ≡ true = live x.status d (λ q. true≢false (sym ((i t x e).ended q) ∙ ap is_some (results.posted_none t a s ok.0 none t x e refl))) in
        false_from_ne_true (reads_at a x) (λ q. true≢false (sym (stands_there s t a x l st e v (and_parts x.reader (has_place a x) q).1) ∙ act_not_among t (cell_at s a).entries (held (λ c. not (has_act t c.entries)) s.cells a no_cell ok.1.1.0)))

pub may_decide : {C : Type 0} (w : Fixed C) (t : ℕ) (s : Machine C) (h : History) → IsAllowed w (Decide t) s → settling.Settling w s → Marked s h → Tracked w s h → Turned s h → FromDesk s → Numbers s h
    → AllControls (NoneActed s) s → Acts s h → Sizes w s → AllBehind s h → Started s h → Left s → Standing s → Locks s → ReadBy s h → AllSee s h → (x : Act) × MayDecide s h t x
unfolding conditions Tracked Turned Numbers Acts AllBehind Started Locks ReadBy AllSee
may_decide {C} w t s h ok g m tr tu d nu none i z be st le sd lo rb se =
    let x = one_is (λ x. is_some x.result && is_live_status x.status) (act_of t s.book.acts) ok.0 in
    let v = and_parts (is_some x.0.result) (is_live_status x.0.status) x.2 in
    let l = leb-true x.0.m (max s.desk.settled (base w.text)) (some_of (λ x. nat_le x.m (max s.desk.settled (base w.text))) (act_of t s.book.acts) x.0 x.1 ok.1.1.0) in (
      x.0,
      record {
        is_it = x.1;
        tid = acts.found_tid t x.0 s.book.acts x.1;
        fresh = (i t x.0 x.1).known ∙ ap (λ q. q && (is_value x.0.result && not x.0.reader)) (live_unordered x.0.status v.1);
        ahead = λ r a. kept_ahead (has_read (h.reads a)) s.book.acts s.book.cascades s.desk.batches h.kept a 0 false t x.0 (cell_at s a).inbox (h.long a) x.1 (live_not_doomed x.0.status v.1) (away x.0 a x.1 v.0)
            (not_read a t s.book.acts (h.reads a) (subst (λ o. holds (reads_at a) o ≡ false) (sym x.1) (ap (λ q. q && has_place a x.0) r)) (rb a))
            (λ k e q n. settled_kept w s h k a g m e (omega (arith, q, l, z.based)) n) (nu a) (be a) (tr a).in_order
            (subst (AllByRecursion (GoodKey a s.desk.batches)) (tr a).stands (good_keys a s.desk.batches (cell_at s a).entries (d.entries a))) (st a);
        of_it = λ a. act_slices t (h.long a) (cell_at s a).entries (tu a);
        there = λ a. there x.0 a x.1 v.1;
        readers_ahead = λ r a. ahead_reads x.0 a x.1 r;
        around = λ r a. around x.0 a x.1 v.1 l r;
        seen = λ r a. seen x.0 a x.1 v.1 r;
        reads = λ r a. reads x.0 a x.1 v.1 l r;
      },
    )
  where
    away : (x : Act) (a : ℕ) → act_of t s.book.acts ≡ Some x → is_some x.result ≡ true → is_some (waiting_of t (cell_at s a).inbox) ≡ false
    away x a e r = false_from_ne_true (is_some (waiting_of t (cell_at s a).inbox)) (λ q. true≢false (sym r ∙ ap is_some (results.waiting_none t a s q none t x e refl)))

    joined : (x : Act) (a : ℕ) → act_of t s.book.acts ≡ Some x → has_read (h.reads a) t ≡ true → has_place a x ≡ true
    joined x a e q = elim (cases_Bool (has_place a x)) [
      | inl p ↦ p
      | inr p ↦ absurd (true≢false (sym q ∙ not_read a t s.book.acts (h.reads a) (subst (λ o. holds (reads_at a) o ≡ false) (sym e) (and_no x.reader (has_place a x) p)) (rb a)))
    ]
      where
        and_no : (a b : Bool) → b ≡ false → (a && b) ≡ false
        and_no true b e = e
        and_no false b e = refl

    there : (x : Act) (a : ℕ) → act_of t s.book.acts ≡ Some x → is_live_status x.status ≡ true → is_some (act_view h x a) ≡ true → is_key_among (OfAct t) (keys_in (h.long a)) ≡ true
    there x a e v = by x.reader
      where
        tid : x.tid ≡ t
        tid = acts.found_tid t x s.book.acts e

        by : (r : Bool) → is_some (view_in x.tid (slices_for r x.tid (h.reads a) (h.long a))) ≡ true → is_key_among (OfAct t) (keys_in (h.long a)) ≡ true
        by false q = subst (λ z. is_key_among (OfAct z) (keys_in (h.long a)) ≡ true) tid (viewed (OfAct x.tid) x.tid (h.long a) q)
        by true q = elim (cases_Bool (has_read (h.reads a) t)) [
          | inl u ↦ subst (λ y. is_key_among (OfAct t) y ≡ true) (tr a).stands (stands_there s t a x le sd e v (joined x a e u))
          | inr u ↦ absurd (true≢false (sym q ∙ ap is_some (no_view x.tid (h.reads a) (subst (λ z. has_read (h.reads a) z ≡ false) (sym tid) u))))
        ]

    ahead_reads : (x : Act) (a : ℕ) → act_of t s.book.acts ≡ Some x → x.reader ≡ true → is_some (act_view h x a) ≡ true → HighLists.FreeAhead true s.book.acts t (h.long a)
    ahead_reads x a e r q = elim (cases_Bool (has_read (h.reads a) t)) [
      | inl u ↦ free_around s.book.acts t x (cell_at s a).state (h.reads a) (h.long a) (cell_at s a).entries e r u (lo a) (se a) (lined (h.long a) (cell_at s a).entries (tu a) (tr a).stands) (tr a).stands
      | inr u ↦ absurd (true≢false (sym (subst (λ v. is_some (view_in x.tid (slices_for v x.tid (h.reads a) (h.long a))) ≡ true) r q) ∙ ap is_some (no_view x.tid (h.reads a) (subst (λ z. has_read (h.reads a) z ≡ false) (sym (acts.found_tid t x s.book.acts e)) u))))
    ]

    seen : (x : Act) (a : ℕ) → act_of t s.book.acts ≡ Some x → is_live_status x.status ≡ true → x.reader ≡ true → AllByRecursion (λ z. z.tid ≡ t → (z.found ≡ (cell_at s a).state) × (z.left ≡ (cell_at s a).state)) (h.reads a)
    seen x a e v r = elim (cases_Bool (has_read (h.reads a) t)) [
      | inl q ↦ entry_sees s.book.acts (cell_at s a).state t (h.reads a) (cell_at s a).entries (lo a) (ap is_reader_act e ∙ r) (stands_there s t a x le sd e v (joined x a e q)) (se a)
      | inr q ↦ none_seen (cell_at s a).state t (h.reads a) q
    ]

    around : (x : Act) (a : ℕ) → act_of t s.book.acts ≡ Some x → is_live_status x.status ≡ true → x.m ≤ max s.desk.settled (base w.text) → x.reader ≡ true → is_some (act_view h x a) ≡ true → KeptOrReads h.kept s.book.acts (OfAct t) (h.long a)
    around x a e v l r q = elim (cases_Bool (has_read (h.reads a) t)) [
      | inl u ↦ or_reads s.book.acts s.book.cascades s.desk.batches h.kept a 0 false t x (cell_at s a).state (h.reads a) (h.long a) (cell_at s a).entries e (live_not_doomed x.status v) r u
          (λ k e q n. settled_kept w s h k a g m e (omega (arith, q, l, z.based)) n) (nu a) (be a) (d.entries a) (lo a) (se a) (lined (h.long a) (cell_at s a).entries (tu a) (tr a).stands) (tr a).stands
      | inr u ↦ absurd (true≢false (sym (subst (λ v. is_some (view_in x.tid (slices_for v x.tid (h.reads a) (h.long a))) ≡ true) r q) ∙ ap is_some (no_view x.tid (h.reads a) (subst (λ z. has_read (h.reads a) z ≡ false) (sym (acts.found_tid t x s.book.acts e)) u))))
    ]

    reads : (x : Act) (a : ℕ) → act_of t s.book.acts ≡ Some x → is_live_status x.status ≡ true → x.m ≤ max s.desk.settled (base w.text) → x.reader ≡ true → Reads h.kept (cell_at s a).state (view_in t (h.reads a)) (h.long a)
    reads x a e v l r = elim (cases_Bool (has_read (h.reads a) t)) [
      | inr q ↦ let none = no_view t (h.reads a) q in record { sees = subst (Sees (cell_at s a).state) (sym none) tt; all_kept = λ j. absurd (true≢false (sym j ∙ ap is_some none)) }
      | inl q ↦
          let there = stands_there s t a x le sd e v (joined x a e q) in
          record {
            sees = view_sees (cell_at s a).state t (h.reads a) (entry_sees s.book.acts (cell_at s a).state t (h.reads a) (cell_at s a).entries (lo a) (ap is_reader_act e ∙ r) there (se a));
            all_kept = λ j. kept_around s.book.acts s.book.cascades s.desk.batches h.kept a 0 false t x (cell_at s a).state (h.reads a) (h.long a) (cell_at s a).entries e (live_not_doomed x.status v) r q
                (λ k e q n. settled_kept w s h k a g m e (omega (arith, q, l, z.based)) n) (nu a) (be a) (tr a).in_order (d.entries a) (lo a) (se a) (lined (h.long a) (cell_at s a).entries (tu a) (tr a).stands) (tr a).stands (subst (λ y. is_key_among (OfAct t) y ≡ true) (tr a).stands there);
          }
    ]

-- ---- an ACT leaves

pub finish_exists : {C : Type 0} (w : Fixed C) (t a : ℕ) (s : Machine C) (h : History) → IsAllowed w (Finish t a) s → Acts s h → a < length s.cells
unfolding conditions Acts
finish_exists w t a s h ok i =
    let x = one_is (λ x. holds (λ p. not p.finished) (joined_of a x)) (act_of t s.book.acts) ok.1.0 in
    let p = one_is (λ p. not p.finished) (joined_of a x.0) x.2 in
    let f = all_found (λ p. p.actor < length s.cells) (λ p. p.actor == a) x.0.places p.0 (i t x.0 x.1).exist p.1 in
    omega (arith, f.0, eqb-true p.0.actor a f.1)

pub finish_kept : {C : Type 0} (w : Fixed C) (t a : ℕ) (s : Machine C) (h : History) → IsAllowed w (Finish t a) s → Acts s h → is_kept (OfAct t) h.kept ≡ not (is_traceless (act_of t s.book.acts))
unfolding conditions Acts
finish_kept w t a s h ok i =
    let x = one_is (λ x. is_doomed x.status || is_sealed x.status) (act_of t s.book.acts) ok.0 in
    let p = i t x.0 x.1 in
    p.known ∙ (by x.0.status x.0.result x.0.reader x.2 p.ended ∙ ap (λ z. not (is_traceless z)) (sym x.1))
  where
    by : (st : Status) (r : Option TxResult) (v : Bool) → (is_doomed st || is_sealed st) ≡ true → (is_ordered st ≡ true → is_some r ≡ true) → (is_ordered st && (is_value r && not v)) ≡ not ((is_doomed st || is_failure r) || v)
    by Live r v e k = absurd (true≢false (sym e))
    by (Doomed d) r v e k = refl
    by (Decided c) r v e k = absurd (true≢false (sym e))
    by (Sealed c) None v e k = absurd (true≢false (sym (k refl)))
    by (Sealed c) (Some (Value n)) v e k = refl
    by (Sealed c) (Some (Fail n)) v e k = refl

pub finish_firm : {C : Type 0} (w : Fixed C) (t a : ℕ) (s : Machine C) (h : History) → IsAllowed w (Finish t a) s → Acts s h → Numbers s h → AllBehind s h → is_traceless (act_of t s.book.acts) ≡ false → FirmUpTo s.desk.settled s.book.cascades (OfAct t) (h.long a)
unfolding conditions Acts Numbers AllBehind
finish_firm w t a s h ok i nu be u =
    let x = one_is (λ x. is_doomed x.status || is_sealed x.status) (act_of t s.book.acts) ok.0 in
    let d = or_parts (is_doomed x.0.status) (is_failure x.0.result) (or_parts (is_doomed x.0.status || is_failure x.0.result) x.0.reader (subst (λ z. is_traceless z ≡ false) x.1 u)).0 in
    let p : is_ordered x.0.status ≡ true = elim (or_cases (is_doomed x.0.status) (is_sealed x.0.status) x.2) [ inl q ↦ absurd (true≢false (sym q ∙ d.0)) | inr q ↦ or_right (Rattle.protocol.specs.Words.is_decided x.0.status) _ q ] in
    firm_ahead s.book.acts s.book.cascades s.desk.settled 0 false t x.0 (h.long a) x.1 d.0 ((i t x.0 x.1).settles p) (nu a) (be a)

-- ---- a batch leaves

pub trim_exists : {C : Type 0} (w : Fixed C) (k a : ℕ) (s : Machine C) → IsAllowed w (Trim k a) s → Sizes w s → a < length s.cells
unfolding conditions
trim_exists w k a s ok z =
    let b = one_is (λ b. is_settled b.stage && (not b.aborted && holds (λ p. not p.trimmed) (declared_of a b))) (batch_of k s.desk.batches) ok.0 in
    let v = and_parts (is_settled b.0.stage) (not b.0.aborted && holds (λ p. not p.trimmed) (declared_of a b.0)) b.2 in
    let q = and_parts (not b.0.aborted) (holds (λ p. not p.trimmed) (declared_of a b.0)) v.1 in
    let p = one_is (λ p. not p.trimmed) (declared_of a b.0) q.1 in
    let f = all_found (λ b. AllByRecursion (λ p. p.actor < length s.cells) b.places) (λ b. b.bid == k) s.desk.batches b.0 z.places b.1 in
    let n = all_found (λ p. p.actor < length s.cells) (λ p. p.actor == a) b.0.places p.0 f.0 p.1 in
    omega (arith, n.0, eqb-true p.0.actor a n.1)
