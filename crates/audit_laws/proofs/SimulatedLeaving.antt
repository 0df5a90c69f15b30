-- What a rollback leaves of what is kept, and what an ACT that leaves an actor had there.
use Rattle.std.specs.Prelude.{◌≡◌, refl, ℕ, ◌<◌, ◌==◌, not, Bool, true, false, ◌&&◌, ◌||◌, if◌then◌else◌, Option, Some, None, List, [], ◌∷◌, filter, length}
use Rattle.std.specs.List.{AllByRecursion}
use Rattle.std.proofs.Common.{arith, sym, ap, ◌∙◌}
use Rattle.std.proofs.lemmas.Bool.{true≢false, ne_eqb, or_parts}
use Rattle.snap_base.specs.declared.transactions.State.{State}
use Rattle.snap_base.specs.declared.transactions.Tx.{Tx}
use Rattle.protocol.specs.Conditions.{IsAllowed, conditions}
use Rattle.protocol.specs.Effects.{cell_at}
use Rattle.protocol.specs.Events.{Finish, Trim}
use Rattle.protocol.specs.Facts.{Alone}
use Rattle.protocol.specs.Fixed.{Fixed}
use Rattle.protocol.specs.History.{History, Ran, batches_in, carrying}
use Rattle.protocol.specs.History as history
use Rattle.protocol.specs.Parts.{Act, Cascade, Decided, Doomed, Live, Machine, OfAct, OfBatch, Pair, Sealed, Status, Who}
use Rattle.protocol.specs.Rivals.{Lock}
use Rattle.protocol.specs.Words.{act_of, epoch_of, has_act, holds, is_aborted, is_doomed, is_ordered, is_sealed, is_who, joined_of}
use Rattle.protocol.specs.Cutting.{Ascends}
use Rattle.protocol_laws.specs.Highs.{doomed_at}
use Rattle.protocol_laws.specs.Places.{FirmUpToGone, FitsCell}
use Rattle.protocol_laws.proofs.machine.AllGood.{AllGood}
use Rattle.protocol_laws.proofs.machine.EntriesKept.{Standing}
use Rattle.protocol_laws.proofs.machine.Good.{Given}
use Rattle.protocol_laws.proofs.machine.Higher.{owed}
use Rattle.protocol_laws.proofs.machine.ShowsKept as shows
use Rattle.protocol_laws.proofs.machine.PlaceLists.{suffix}
use Rattle.protocol_laws.proofs.machine.TracksKept.{act_not_among}
use Rattle.protocol_laws.proofs.machine.TrackLists.{is_who_sym}
use Rattle.protocol_theorems.proofs.sets.GainsKept.{GainsAre}
use Rattle.audit_words.specs.Happenings as told
use Rattle.audit_words.specs.Seen.{Seen, was_given_up, is_one_of_these, lock_in}
use Rattle.audit_laws.specs.Names.{TellsNames}
use Rattle.audit_laws.proofs.Acts.{status_at}
use Rattle.audit_laws.proofs.Standing.{lock, lock_same}
use Rattle.audit_laws.proofs.Simulated.{Tells, SimFacts}

-- ---- what a rollback leaves

pub all_aborted : (next ep tail j : ℕ) (cs : List Cascade) (ks : List ℕ) → is_aborted j cs ≡ true → epoch_of j cs ≡ ep → AllByRecursion (FitsCell next cs ep tail) ks → AllByRecursion (λ k. j < k) ks → filter (λ k. not (is_aborted k cs)) ks ≡ []
all_aborted next ep tail j cs [] e i f a = refl
all_aborted next ep tail j cs (k ∷ ks) e i f a =
    ap (λ (b : Bool). if not b then k ∷ filter (λ k. not (is_aborted k cs)) ks else filter (λ k. not (is_aborted k cs)) ks) (suffix j k cs e (omega (arith, a.0)) (omega (arith, (f.0).placed, i))) ∙ all_aborted next ep tail j cs ks e i f.1 a.1

pub kept_staying : (next n ep tail : ℕ) (cs : List Cascade) (rs : List Ran) → AllByRecursion (FitsCell next cs ep tail) (batches_in rs) → Ascends (batches_in rs) → FirmUpToGone n cs rs → filter (λ k. not (is_aborted k cs)) (batches_in rs) ≡ batches_in (history.long_staying cs rs)
kept_staying next n ep tail cs [] f a g = refl
kept_staying next n ep tail cs (history.Stands (OfBatch k) c ss ∷ rs) f a g = by (is_aborted k cs) refl (kept_staying next n ep tail cs rs f.1 a.1 g.1)
  where
    by : (b : Bool) → is_aborted k cs ≡ b → filter (λ k. not (is_aborted k cs)) (batches_in rs) ≡ batches_in (history.long_staying cs rs)
        → (if not b then k ∷ filter (λ k. not (is_aborted k cs)) (batches_in rs) else filter (λ k. not (is_aborted k cs)) (batches_in rs)) ≡ batches_in (if b then [] else history.Stands (OfBatch k) c ss ∷ history.long_staying cs rs)
    by true e r = all_aborted next ep tail k cs (batches_in rs) e ((f.0).aborted e) f.1 a.0
    by false e r = ap (λ (ks : List ℕ). k ∷ ks) r
kept_staying next n ep tail cs (history.Stands (OfAct t) c ss ∷ rs) f a g = kept_staying next n ep tail cs rs f a g.1
kept_staying next n ep tail cs (history.Gone (OfBatch k) ss ∷ rs) f a g =
    ap (λ (b : Bool). if not b then k ∷ filter (λ k. not (is_aborted k cs)) (batches_in rs) else filter (λ k. not (is_aborted k cs)) (batches_in rs)) (g.0).1 ∙ ap (λ (ks : List ℕ). k ∷ ks) (kept_staying next n ep tail cs rs f.1 a.1 g.1)
kept_staying next n ep tail cs (history.Gone (OfAct t) ss ∷ rs) f a g = kept_staying next n ep tail cs rs f a g.1

-- ---- an ACT that leaves

pub nothing_filtered : (who : Who) (ws : List Who) → is_one_of_these who ws ≡ false → filter (λ y. not (is_who y who)) ws ≡ ws
nothing_filtered who [] e = refl
nothing_filtered who (y ∷ ws) e =
    let q = or_parts (is_who who y) (is_one_of_these who ws) e in
    ap (λ (b : Bool). if not b then y ∷ filter (λ y. not (is_who y who)) ws else filter (λ y. not (is_who y who)) ws) (is_who_sym y who ∙ q.0) ∙ ap (λ (zs : List Who). y ∷ zs) (nothing_filtered who ws q.1)

pub nothing_gained : (u a : ℕ) (acts : List Act) (ps : List Pair) → doomed_at acts u ≡ true → filter (λ p. not ((p.ahead == u) && (p.actor == a))) (carrying acts ps) ≡ carrying acts ps
nothing_gained u a acts [] d = refl
nothing_gained u a acts (p ∷ ps) d = by (doomed_at acts p.ahead) refl (nothing_gained u a acts ps d)
  where
    other : doomed_at acts p.ahead ≡ false → (p.ahead == u) ≡ false
    other e = ne_eqb p.ahead u (λ q. true≢false (sym d ∙ (ap (doomed_at acts) (sym q) ∙ e)))

    by : (b : Bool) → doomed_at acts p.ahead ≡ b → filter (λ p. not ((p.ahead == u) && (p.actor == a))) (carrying acts ps) ≡ carrying acts ps
        → filter (λ p. not ((p.ahead == u) && (p.actor == a))) (if not b then p ∷ carrying acts ps else carrying acts ps) ≡ (if not b then p ∷ carrying acts ps else carrying acts ps)
    by true e r = r
    by false e r =
        ap (λ (c : Bool). if not (c && (p.actor == a)) then p ∷ filter (λ p. not ((p.ahead == u) && (p.actor == a))) (carrying acts ps) else filter (λ p. not ((p.ahead == u) && (p.actor == a))) (carrying acts ps)) (other e) ∙ ap (λ (qs : List Pair). p ∷ qs) r

pub leaves_in : {C : Type 0} (w : Fixed C) (Of : Tx → C → Type 0) (finish : C → List State → Alone) (u a : ℕ) (s : Machine C) (h : History) → Given w Of finish → IsAllowed w (Finish u a) s → AllGood w Of finish s h → a < length s.cells
unfolding shows.Owed
leaves_in w Of finish u a s h v ok g = owed w Of finish (Finish u a) s h v ok g

pub trims_in : {C : Type 0} (w : Fixed C) (Of : Tx → C → Type 0) (finish : C → List State → Alone) (k a : ℕ) (s : Machine C) (h : History) → Given w Of finish → IsAllowed w (Trim k a) s → AllGood w Of finish s h → a < length s.cells
unfolding shows.Owed
trims_in w Of finish k a s h v ok g = owed w Of finish (Trim k a) s h v ok g

pub seals_same : {C : Type 0} (w : Fixed C) (u a : ℕ) (s : Machine C) (h : History) (t : Seen) → IsAllowed w (Finish u a) s → TellsNames w s t → Tells w s h t → told.left_as_sealed u t ≡ history.seals u (act_of u s.book.acts)
unfolding conditions
seals_same w u a s h t ok n g =
    ap (λ (b : Bool). if b && not (was_given_up t.dooms u) then lock_in t.acts u ∷ [] else []) (g.ordered u)
    ∙ (ap (λ (b : Bool). if status_at is_ordered s.book.acts u && not b then lock_in t.acts u ∷ [] else []) (g.dooms u)
    ∙ (ap (λ (l : Lock). if status_at is_ordered s.book.acts u && not (doomed_at s.book.acts u) then l ∷ [] else []) (lock_same u t.acts s.book.acts n.tids n.readers) ∙ by (act_of u s.book.acts) ok.0))
  where
    through : (st : Status) → (is_doomed st || is_sealed st) ≡ true → (is_ordered st && not (is_doomed st)) ≡ is_sealed st
    through Live e = absurd (true≢false (sym e))
    through (Doomed v) e = refl
    through (Decided c) e = absurd (true≢false (sym e))
    through (Sealed c) e = refl

    by : (o : Option Act) → holds (λ x. is_doomed x.status || is_sealed x.status) o ≡ true
        → (if holds (λ (x : Act). is_ordered x.status) o && not (holds (λ (x : Act). is_doomed x.status) o) then lock u (holds (λ (x : Act). x.reader) o) ∷ [] else []) ≡ history.seals u o
    by None e = absurd (true≢false (sym e))
    by (Some x) e = ap (λ (b : Bool). if b then lock u x.reader ∷ [] else []) (through x.status e)

-- one that is not there is given up: it leaves nothing, and nobody gains from it
pub not_there : {C : Type 0} (w : Fixed C) (Of : Tx → C → Type 0) (finish : C → List State → Alone) (u a : ℕ) (s : Machine C) (h : History) → IsAllowed w (Finish u a) s → SimFacts w Of finish s h → has_act u (cell_at s a).entries ≡ false
    → (history.seals u (act_of u s.book.acts) ≡ []) × (h.gains ≡ filter (λ p. not ((p.ahead == u) && (p.actor == a))) h.gains)
unfolding conditions Standing GainsAre
not_there w Of finish u a s h ok f e = by (act_of u s.book.acts) refl ok.1.0
  where
    gained : doomed_at s.book.acts u ≡ true → h.gains ≡ filter (λ p. not ((p.ahead == u) && (p.actor == a))) h.gains
    gained d =
        (f.before).gains ∙ (sym (nothing_gained u a s.book.acts s.book.pairs d) ∙ ap (filter (λ (p : Pair). not ((p.ahead == u) && (p.actor == a)))) (sym (f.before).gains))

    unsealed : (x : Act) → (st : Status) → is_doomed st ≡ true → (if is_sealed st then lock u x.reader ∷ [] else []) ≡ []
    unsealed x Live d = refl
    unsealed x (Doomed v) d = refl
    unsealed x (Decided c) d = refl
    unsealed x (Sealed c) d = absurd (true≢false (sym d))

    by : (o : Option Act) → act_of u s.book.acts ≡ o → holds (λ x. holds (λ p. not p.finished) (joined_of a x)) o ≡ true → (history.seals u o ≡ []) × (h.gains ≡ filter (λ p. not ((p.ahead == u) && (p.actor == a))) h.gains)
    by None i q = absurd (true≢false (sym q))
    by (Some x) i q = out (is_doomed x.status) refl
      where
        out : (b : Bool) → is_doomed x.status ≡ b → (history.seals u (Some x) ≡ []) × (h.gains ≡ filter (λ p. not ((p.ahead == u) && (p.actor == a))) h.gains)
        out true d = (unsealed x x.status d, gained (ap (holds (λ (z : Act). is_doomed z.status)) i ∙ d))
        out false d = absurd (true≢false (sym (f.good.standing u x i d a q) ∙ act_not_among u (cell_at s a).entries (ap not e)))
