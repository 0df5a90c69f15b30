-- Whose each tid is: the desk, the book, the schedules and the history say the same.
use Rattle.std.specs.Prelude.{◌≡◌, refl, ℕ, suc, ◌+◌, ◌<◌, ◌≤◌, ◌==◌, Bool, true, false, if◌then◌else◌, Option, Some, None, List, [], ◌∷◌, ◌++◌, length, map, find, take}
use Rattle.std.specs.List.{AllByRecursion, list_any}
use Rattle.std.proofs.Common.{arith, sym, ap, subst, inl, inr, ◌∙◌}
use Rattle.std.proofs.lemmas.List.{append-nil}
use Rattle.std.proofs.lemmas.Bool.{eqb-true, eq-eqb, ne_eqb, or_cases, true≢false}
use Rattle.protocol.specs.Fixed.{Fixed, base, is_reader}
use Rattle.protocol.specs.Parts.{Act, Pact, Batch, Slot, Who, OfBatch, OfAct, Cascade, Entry, BatchEntry, ActEntry, Machine}
use Rattle.protocol.specs.Events.{Event, Form, Admit, Arrive, Ask, Run, Complete, Rollback, Finish, Trim}
use Rattle.protocol.specs.Words.{holds, is_who, is_entry_of, names_slot, names_pact, who_on, batch_of, act_of, lock_of}
use Rattle.protocol.specs.Contents.{Bids, BatchTids, BatchTxs, ActTids, ActTxs}
use Rattle.protocol.specs.Conditions.{IsAllowed, conditions, queue}
use Rattle.protocol.specs.Effects.{after, cell_at}
use Rattle.protocol.specs.OnRing as ring
use Rattle.protocol.specs.OnBook as book
use Rattle.protocol.specs.OnDesk as desk
use Rattle.protocol.specs.OnPost.{next_act}
use Rattle.protocol.specs.OnCell as cell
use Rattle.protocol.specs.OnCell.{is_cut}
use Rattle.protocol.specs.History.{History, Trail, Slice, Ran, Stands, Gone, grown, with_at, begun, owned_by, not_run, ran_in, completed, left_for_good, without_standing, long_staying, asks, is_traceless}
use Rattle.protocol_laws.specs.Told.{PactsAscend}
use Rattle.protocol_laws.specs.Tracks.{key_of, keys_in}
use Rattle.protocol_laws.specs.FromDesk.{is_pact_of, EntryOf}
use Rattle.protocol_laws.proofs.machine.TrackLists
use Rattle.protocol_laws.proofs.first.Frames.{frame}
use Rattle.protocol_laws.proofs.first.Lists.{all_join, weaker, all_alike, all_alike3, all_found}
use Rattle.protocol_laws.proofs.machine.CommitsKept.{beside_carried}
use Rattle.protocol_laws.proofs.machine.TrailsKept.{begun_below, new_tids}
use Rattle.protocol_laws.proofs.machine.TurnsKept.{one_is}

-- ---- one tid

pub record IsNamed (next : ℕ) (owners : ℕ → Who) (trails : ℕ → Trail) (who : Who) (t n : ℕ) : Type 0 where
  pub low : t < next
  pub owner : owners t ≡ who
  pub tx : (trails t).tx ≡ n

-- tids and transactions side by side
abbrev pub AllNamed : ℕ → (ℕ → Who) → (ℕ → Trail) → Who → List ℕ → List ℕ → Type 0
AllNamed next owners trails who [] ns = Unit {0}
AllNamed next owners trails who (t ∷ ts) [] = ⊥
AllNamed next owners trails who (t ∷ ts) (n ∷ ns) = IsNamed next owners trails who t n × AllNamed next owners trails who ts ns

-- an ACT on a schedule owns its tid
abbrev pub OwnsIt : ℕ → (ℕ → Who) → Who → Type 0
OwnsIt next owners (OfBatch k) = Unit {0}
OwnsIt next owners (OfAct t) = (t < next) × (owners t ≡ OfAct t)

abbrev pub AllStanding : (Who → Type 0) → List Ran → Type 0
AllStanding P [] = Unit {0}
AllStanding P (Stands y c ss ∷ rs) = P y × AllStanding P rs
AllStanding P (Gone y ss ∷ rs) = AllStanding P rs

pub record Named {C : Type 0} (s : Machine C) (h : History) : Type 0 where
  pub pacts : AllByRecursion (λ b. AllNamed s.ring.next_tid h.owners h.trails (OfBatch b.bid) (map (λ p. p.tid) b.pacts) (map (λ p. p.tx) b.pacts)) s.desk.batches
  pub acts : AllByRecursion (λ x. IsNamed s.ring.next_tid h.owners h.trails (OfAct x.tid) x.tid x.tx) s.book.acts
  pub standing : (a : ℕ) → AllStanding (OwnsIt s.ring.next_tid h.owners) (h.long a)

-- ---- fresh tids change none that were drawn

-- names that were drawn stay, where owners and transactions of drawn tids do
pub record Leaves (next : ℕ) (owners owners' : ℕ → Who) (trails trails' : ℕ → Trail) : Type 0 where
  pub owner : (t : ℕ) → t < next → owners' t ≡ owners t
  pub tx : (t : ℕ) → t < next → (trails' t).tx ≡ (trails t).tx

named_still : (next next' : ℕ) (owners owners' : ℕ → Who) (trails trails' : ℕ → Trail) (who : Who) (t n : ℕ) → next ≤ next' → Leaves next owners owners' trails trails' → IsNamed next owners trails who t n → IsNamed next' owners' trails' who t n
named_still next next' owners owners' trails trails' who t n l v h = record { low = omega (arith, l, h.low); owner = v.owner t h.low ∙ h.owner; tx = v.tx t h.low ∙ h.tx }

all_still : (next next' : ℕ) (owners owners' : ℕ → Who) (trails trails' : ℕ → Trail) (who : Who) (ts ns : List ℕ) → next ≤ next' → Leaves next owners owners' trails trails' → AllNamed next owners trails who ts ns → AllNamed next' owners' trails' who ts ns
all_still next next' owners owners' trails trails' who [] ns l v h = tt
all_still next next' owners owners' trails trails' who (t ∷ ts) [] l v h = h
all_still next next' owners owners' trails trails' who (t ∷ ts) (n ∷ ns) l v h = (named_still next next' owners owners' trails trails' who t n l v h.0, all_still next next' owners owners' trails trails' who ts ns l v h.1)

owns_still : (next next' : ℕ) (owners owners' : ℕ → Who) (y : Who) → next ≤ next' → ((t : ℕ) → t < next → owners' t ≡ owners t) → OwnsIt next owners y → OwnsIt next' owners' y
owns_still next next' owners owners' (OfBatch k) l v h = tt
owns_still next next' owners owners' (OfAct t) l v h = (omega (arith, l, h.0), v t h.0 ∙ h.1)

pub standing_weaker : (P Q : Who → Type 0) (rs : List Ran) → ((y : Who) → P y → Q y) → AllStanding P rs → AllStanding Q rs
standing_weaker P Q [] k h = tt
standing_weaker P Q (Stands y c ss ∷ rs) k h = (k y h.0, standing_weaker P Q rs k h.1)
standing_weaker P Q (Gone y ss ∷ rs) k h = standing_weaker P Q rs k h

-- ---- what the events do to those that stand

standing_more : (P : Who → Type 0) (y : Who) (rs : List Ran) → P y → AllStanding P rs → AllStanding P (rs ++ not_run y ∷ [])
standing_more P y [] p h = (p, tt)
standing_more P y (Stands z c ss ∷ rs) p h = (h.0, standing_more P y rs p h.1)
standing_more P y (Gone z ss ∷ rs) p h = standing_more P y rs p h

standing_ran : (P : Who → Type 0) (who : Who) (x : Slice) (rs : List Ran) → AllStanding P rs → AllStanding P (map (ran_in who x) rs)
standing_ran P who x [] h = tt
standing_ran P who x (Stands z c ss ∷ rs) h = (h.0, standing_ran P who x rs h.1)
standing_ran P who x (Gone z ss ∷ rs) h = standing_ran P who x rs h

standing_completed : (P : Who → Type 0) (k : ℕ) (rs : List Ran) → AllStanding P rs → AllStanding P (map (completed k) rs)
standing_completed P k [] h = tt
standing_completed P k (Stands z c ss ∷ rs) h = (h.0, standing_completed P k rs h.1)
standing_completed P k (Gone z ss ∷ rs) h = standing_completed P k rs h

standing_left : (P : Who → Type 0) (who : Who) (rs : List Ran) → AllStanding P rs → AllStanding P (map (left_for_good who) rs)
standing_left P who [] h = tt
standing_left P who (Stands z c ss ∷ rs) h = by (is_who z who) (standing_left P who rs h.1)
  where
    by : (b : Bool) → AllStanding P (map (left_for_good who) rs) → AllStanding P ((if b then Gone z ss else Stands z c ss) ∷ map (left_for_good who) rs)
    by true g = g
    by false g = (h.0, g)
standing_left P who (Gone z ss ∷ rs) h = standing_left P who rs h

standing_without : (P : Who → Type 0) (who : Who) (rs : List Ran) → AllStanding P rs → AllStanding P (without_standing who rs)
standing_without P who [] h = tt
standing_without P who (Stands z c ss ∷ rs) h = by (is_who z who) (standing_without P who rs h.1)
  where
    by : (b : Bool) → AllStanding P (without_standing who rs) → AllStanding P (if b then without_standing who rs else Stands z c ss ∷ without_standing who rs)
    by true g = g
    by false g = (h.0, g)
standing_without P who (Gone z ss ∷ rs) h = standing_without P who rs h

standing_staying : (P : Who → Type 0) (cs : List Cascade) (rs : List Ran) → AllStanding P rs → AllStanding P (long_staying cs rs)
standing_staying P cs [] h = tt
standing_staying P cs (Stands z c ss ∷ rs) h = by (is_cut cs z) (standing_staying P cs rs h.1)
  where
    by : (b : Bool) → AllStanding P (long_staying cs rs) → AllStanding P (if b then [] else Stands z c ss ∷ long_staying cs rs)
    by true g = tt
    by false g = (h.0, g)
standing_staying P cs (Gone z ss ∷ rs) h = standing_staying P cs rs h

standing_asks : (P : Who → Type 0) (t : ℕ) (o : Option ℕ) (rs : List Ran) → P (OfAct t) → AllStanding P rs → AllStanding P (rs ++ map not_run (asks t o))
standing_asks P t None rs p h = standing_more P (OfAct t) rs p h
standing_asks P t (Some older) rs p h = rw (append-nil rs) h

standing_finish : (P : Who → Type 0) (t : ℕ) (b : Bool) (rs : List Ran) → AllStanding P rs → AllStanding P (if b then without_standing (OfAct t) rs else map (left_for_good (OfAct t)) rs)
standing_finish P t true rs h = standing_without P (OfAct t) rs h
standing_finish P t false rs h = standing_left P (OfAct t) rs h

-- ---- new names

pub owned_below : (k : ℕ) (ps : List Pact) (low u : ℕ) (f : ℕ → Who) → PactsAscend low ps → u < low → owned_by k ps f u ≡ f u
owned_below k [] low u f a l = refl
owned_below k (p ∷ ps) low u f a l = rw (ne_eqb u p.tid (λ q. omega (arith, q, l, a.0))) (owned_below k ps (p.tid + 1) u f a.1 (omega (arith, l, a.0)))

leaves_form : (k next : ℕ) (ps : List Pact) (owners : ℕ → Who) (trails : ℕ → Trail) → PactsAscend next ps → Leaves next owners (owned_by k ps owners) trails (begun ps trails)
leaves_form k next ps owners trails a = record { owner = λ t l. owned_below k ps next t owners a l; tx = λ t l. ap (λ r. r.tx) (begun_below ps next t trails a l) }

leaves_admit : (next n : ℕ) (owners : ℕ → Who) (trails : ℕ → Trail) → Leaves next owners (with_at next (OfAct next) owners) trails (with_at next (record { tx = n; steps = [] }) trails)
leaves_admit next n owners trails = record { owner = λ t l. rw (ne_eqb t next (λ q. omega (arith, q, l))) refl; tx = λ t l. rw (ne_eqb t next (λ q. omega (arith, q, l))) refl }

-- each of the new ones is named
new_named : (k t next : ℕ) (ns : List ℕ) (owners owners' : ℕ → Who) (trails trails' : ℕ → Trail) → t + length ns ≤ next → ((u : ℕ) → t ≤ u → owners' u ≡ owned_by k (ring.numbered t ns) owners u) → ((u : ℕ) → t ≤ u → trails' u ≡ begun (ring.numbered t ns) trails u)
    → AllNamed next owners' trails' (OfBatch k) (map (λ p. p.tid) (ring.numbered t ns)) (map (λ p. p.tx) (ring.numbered t ns))
new_named k t next [] owners owners' trails trails' l e f = tt
new_named k t next (n ∷ ns) owners owners' trails trails' l e f = (
  record { low = omega (arith, l); owner = e t (omega arith) ∙ rw (eq-eqb t t refl) refl; tx = ap (λ r. r.tx) (f t (omega arith)) ∙ rw (eq-eqb t t refl) refl },
  new_named k (t + 1) next ns owners owners' trails trails' (omega (arith, l))
      (λ u q. e u (omega (arith, q)) ∙ rw (ne_eqb u t (λ v. omega (arith, v, q))) refl)
      (λ u q. f u (omega (arith, q)) ∙ rw (ne_eqb u t (λ v. omega (arith, v, q))) refl),
)

pub numbered_length : (t : ℕ) (ns : List ℕ) → length (ring.numbered t ns) ≡ length ns
numbered_length t [] = refl
numbered_length t (n ∷ ns) = ap suc (numbered_length (t + 1) ns)

-- ---- over states

same_pacts : (next : ℕ) (owners : ℕ → Who) (trails : ℕ → Trail) (bs cs : List Batch) → map (λ b. b.bid) cs ≡ map (λ b. b.bid) bs → map (λ b. map (λ p. p.tid) b.pacts) cs ≡ map (λ b. map (λ p. p.tid) b.pacts) bs → map (λ b. map (λ p. p.tx) b.pacts) cs ≡ map (λ b. map (λ p. p.tx) b.pacts) bs
    → AllByRecursion (λ b. AllNamed next owners trails (OfBatch b.bid) (map (λ p. p.tid) b.pacts) (map (λ p. p.tx) b.pacts)) bs → AllByRecursion (λ b. AllNamed next owners trails (OfBatch b.bid) (map (λ p. p.tid) b.pacts) (map (λ p. p.tx) b.pacts)) cs
same_pacts next owners trails bs cs i j k h = all_alike3 (λ b. b.bid) (λ b. map (λ p. p.tid) b.pacts) (λ b. map (λ p. p.tx) b.pacts) (λ b. AllNamed next owners trails (OfBatch b.bid) (map (λ p. p.tid) b.pacts) (map (λ p. p.tx) b.pacts)) bs cs (λ x y a b c p. rw (a, b, c) p) i j k h

same_acts : (next : ℕ) (owners : ℕ → Who) (trails : ℕ → Trail) (xs ys : List Act) → map (λ x. x.tid) ys ≡ map (λ x. x.tid) xs → map (λ x. x.tx) ys ≡ map (λ x. x.tx) xs
    → AllByRecursion (λ x. IsNamed next owners trails (OfAct x.tid) x.tid x.tx) xs → AllByRecursion (λ x. IsNamed next owners trails (OfAct x.tid) x.tid x.tx) ys
same_acts next owners trails xs ys i j h = all_alike (λ x. x.tid) (λ x. x.tx) (λ x. IsNamed next owners trails (OfAct x.tid) x.tid x.tx) xs ys (λ x y a b p. rw (a, b) p) i j h

pacts_still : (next next' : ℕ) (owners owners' : ℕ → Who) (trails trails' : ℕ → Trail) (bs : List Batch) → next ≤ next' → Leaves next owners owners' trails trails' → AllByRecursion (λ b. AllNamed next owners trails (OfBatch b.bid) (map (λ p. p.tid) b.pacts) (map (λ p. p.tx) b.pacts)) bs
    → AllByRecursion (λ b. AllNamed next' owners' trails' (OfBatch b.bid) (map (λ p. p.tid) b.pacts) (map (λ p. p.tx) b.pacts)) bs
pacts_still next next' owners owners' trails trails' bs l v h = weaker _ _ bs (λ b g. all_still next next' owners owners' trails trails' (OfBatch b.bid) _ _ l v g) h

acts_still : (next next' : ℕ) (owners owners' : ℕ → Who) (trails trails' : ℕ → Trail) (xs : List Act) → next ≤ next' → Leaves next owners owners' trails trails' → AllByRecursion (λ x. IsNamed next owners trails (OfAct x.tid) x.tid x.tx) xs → AllByRecursion (λ x. IsNamed next' owners' trails' (OfAct x.tid) x.tid x.tx) xs
acts_still next next' owners owners' trails trails' xs l v h = weaker _ _ xs (λ x g. named_still next next' owners owners' trails trails' (OfAct x.tid) x.tid x.tx l v g) h

leaves_run : (next t : ℕ) (owners : ℕ → Who) (trails : ℕ → Trail) (r : Trail) → r.tx ≡ (trails t).tx → Leaves next owners owners trails (with_at t r trails)
leaves_run next t owners trails r e = record { owner = λ u l. refl; tx = λ u l. by u (u == t) refl }
  where
    by : (u : ℕ) (b : Bool) → (u == t) ≡ b → (if b then r else trails u).tx ≡ (trails u).tx
    by u true q = e ∙ ap (λ z. (trails z).tx) (sym (eqb-true u t q))
    by u false q = refl

-- an ACT that asks is in the book
pub act_owns : (next t : ℕ) (owners : ℕ → Who) (trails : ℕ → Trail) (p : Act → Bool) (xs : List Act) → holds p (act_of t xs) ≡ true → AllByRecursion (λ x. IsNamed next owners trails (OfAct x.tid) x.tid x.tx) xs → OwnsIt next owners (OfAct t)
act_owns next t owners trails p xs h g =
    let x = one_is p (act_of t xs) h in
    let f = all_found (λ x. IsNamed next owners trails (OfAct x.tid) x.tid x.tx) (λ x. x.tid == t) xs x.0 g x.1 in
    let i : x.0.tid ≡ t = eqb-true x.0.tid t f.1 in
    subst (λ z. OwnsIt next owners (OfAct z)) i (f.0.low, f.0.owner)

pub kept : {C : Type 0} (w : Fixed C) (e : Event) (s : Machine C) (h : History) → IsAllowed w e s → Named s h → Named (after w e s) (grown w e s h)
unfolding conditions after grown
kept w (Form k) s h ok g =
    let asc = new_tids s.ring.next_tid s.ring.next_tid _ (omega arith) in
    let v = leaves_form k s.ring.next_tid (ring.next_pacts w.text s.ring) h.owners h.trails asc in
    record {
      pacts = all_join _ s.desk.batches (desk.new_batch k (ring.next_actors w.text s.ring) (ring.next_pacts w.text s.ring) ∷ []) (pacts_still s.ring.next_tid _ h.owners _ h.trails _ s.desk.batches (omega arith) v g.pacts)
          (new_named k s.ring.next_tid _ (take w.text.batch (queue s.ring.pacts s.ring.holder)) h.owners _ h.trails _ (omega (arith, numbered_length s.ring.next_tid (take w.text.batch (queue s.ring.pacts s.ring.holder)))) (λ u l. refl) (λ u l. refl), tt);
      acts = acts_still s.ring.next_tid _ h.owners _ h.trails _ s.book.acts (omega arith) v g.acts;
      standing = λ a. standing_weaker _ _ (h.long a) (λ y p. owns_still s.ring.next_tid _ h.owners _ y (omega arith) v.owner p) (g.standing a);
    }
kept w (Admit t) s h ok g =
    let i : s.ring.next_tid ≡ t = sym (eqb-true t s.ring.next_tid ok.0) in
    let v : Leaves s.ring.next_tid h.owners (with_at t (OfAct t) h.owners) h.trails (with_at t (record { tx = next_act s.ring; steps = [] }) h.trails) = subst (λ z. Leaves s.ring.next_tid h.owners (with_at z (OfAct z) h.owners) h.trails (with_at z (record { tx = next_act s.ring; steps = [] }) h.trails)) i (leaves_admit s.ring.next_tid _ h.owners h.trails) in
    let own : IsNamed (s.ring.next_tid + 1) (with_at t (OfAct t) h.owners) (with_at t (record { tx = next_act s.ring; steps = [] }) h.trails) (OfAct t) t (next_act s.ring) = record { low = omega (arith, i); owner = rw (eq-eqb t t refl) refl; tx = rw (eq-eqb t t refl) refl } in
    record {
      pacts = pacts_still s.ring.next_tid _ h.owners _ h.trails _ s.desk.batches (omega arith) v g.pacts;
      acts = all_join (λ x. IsNamed (s.ring.next_tid + 1) (with_at t (OfAct t) h.owners) (with_at t (record { tx = next_act s.ring; steps = [] }) h.trails) (OfAct x.tid) x.tid x.tx) s.book.acts (book.new_act t (next_act s.ring) (is_reader w (next_act s.ring)) (base w.text) ∷ [])
          (acts_still s.ring.next_tid (s.ring.next_tid + 1) h.owners (with_at t (OfAct t) h.owners) h.trails (with_at t (record { tx = next_act s.ring; steps = [] }) h.trails) s.book.acts (omega arith) v g.acts) (own, tt);
      standing = λ a. standing_weaker _ _ (h.long a) (λ y p. owns_still s.ring.next_tid _ h.owners _ y (omega arith) v.owner p) (g.standing a);
    }
kept w (Arrive k a) s h ok g = record {
  pacts = g.pacts;
  acts = same_acts s.ring.next_tid h.owners h.trails s.book.acts _ (frame w (Arrive k a) s ActTids refl) (frame w (Arrive k a) s ActTxs refl) g.acts;
  standing = beside_carried (λ b rs. AllStanding (OwnsIt s.ring.next_tid h.owners) rs) a _ h.long (λ x. standing_more _ (OfBatch k) (h.long a) tt x) g.standing;
}
kept w (Ask t a) s h ok g = record {
  pacts = g.pacts;
  acts = same_acts s.ring.next_tid h.owners h.trails s.book.acts _ (frame w (Ask t a) s ActTids refl) (frame w (Ask t a) s ActTxs refl) g.acts;
  standing = beside_carried (λ b rs. AllStanding (OwnsIt s.ring.next_tid h.owners) rs) a _ h.long (λ x. standing_asks _ t (book.in_the_way (lock_of t s.book.acts) (cell_at s a).entries) (h.long a) (act_owns s.ring.next_tid t h.owners h.trails _ s.book.acts ok.1.0 g.acts) x) g.standing;
}
kept w (Run t a) s h ok g =
    let v = leaves_run s.ring.next_tid t h.owners h.trails (Rattle.protocol.specs.History.gone_on (record { actor = a; found = (cell_at s a).state; left = (cell.slice_run w.code t a (cell_at s a)).state }) (h.trails t)) refl in
    record {
      pacts = pacts_still s.ring.next_tid _ h.owners _ h.trails _ s.desk.batches (omega arith) v g.pacts;
      acts = acts_still s.ring.next_tid _ h.owners _ h.trails _ s.book.acts (omega arith) v g.acts;
      standing = beside_carried (λ b rs. AllStanding (OwnsIt s.ring.next_tid h.owners) rs) a _ h.long (λ x. TrackLists.on_reads (AllStanding (OwnsIt s.ring.next_tid h.owners)) (cell.reads_on t (cell_at s a).entries) _ _ (h.long a) (λ y. standing_ran _ _ _ (h.long a) y) x) g.standing;
    }
kept w (Complete k a) s h ok g = record {
  pacts = g.pacts;
  acts = g.acts;
  standing = beside_carried (λ b rs. AllStanding (OwnsIt s.ring.next_tid h.owners) rs) a _ h.long (λ x. standing_completed _ k (h.long a) x) g.standing;
}
kept w (Rollback a) s h ok g = record {
  pacts = g.pacts;
  acts = g.acts;
  standing = beside_carried (λ b rs. AllStanding (OwnsIt s.ring.next_tid h.owners) rs) a _ h.long (λ x. standing_staying _ s.book.cascades (h.long a) x) g.standing;
}
kept w (Finish t a) s h ok g = record {
  pacts = g.pacts;
  acts = same_acts s.ring.next_tid h.owners h.trails s.book.acts _ (frame w (Finish t a) s ActTids refl) (frame w (Finish t a) s ActTxs refl) g.acts;
  standing = beside_carried (λ b rs. AllStanding (OwnsIt s.ring.next_tid h.owners) rs) a _ h.long (λ x. standing_finish _ t (is_traceless (act_of t s.book.acts)) (h.long a) x) g.standing;
}
kept w (Trim k a) s h ok g = record {
  pacts = same_pacts s.ring.next_tid h.owners h.trails s.desk.batches _ (frame w (Trim k a) s Bids refl) (frame w (Trim k a) s BatchTids refl) (frame w (Trim k a) s BatchTxs refl) g.pacts;
  acts = g.acts;
  standing = beside_carried (λ b rs. AllStanding (OwnsIt s.ring.next_tid h.owners) rs) a _ h.long (λ x. standing_left _ (OfBatch k) (h.long a) x) g.standing;
}
kept w e s h ok g = record {
  pacts = same_pacts s.ring.next_tid h.owners h.trails s.desk.batches _ (frame w e s Bids refl) (frame w e s BatchTids refl) (frame w e s BatchTxs refl) g.pacts;
  acts = same_acts s.ring.next_tid h.owners h.trails s.book.acts _ (frame w e s ActTids refl) (frame w e s ActTxs refl) g.acts;
  standing = g.standing;
}

-- ---- whose control runs on an actor

pub batch_owns : (next k t : ℕ) (owners : ℕ → Who) (trails : ℕ → Trail) (bs : List Batch) → AllByRecursion (λ b. AllNamed next owners trails (OfBatch b.bid) (map (λ p. p.tid) b.pacts) (map (λ p. p.tx) b.pacts)) bs → is_pact_of t k bs ≡ true → owners t ≡ OfBatch k
batch_owns next k t owners trails bs g h =
    let b = one_is (names_pact t) (batch_of k bs) h in
    let f = all_found (λ b. AllNamed next owners trails (OfBatch b.bid) (map (λ p. p.tid) b.pacts) (map (λ p. p.tx) b.pacts)) (λ b. b.bid == k) bs b.0 g b.1 in
    subst (λ z. owners t ≡ OfBatch z) (eqb-true b.0.bid k f.1) (among b.0.pacts b.2 f.0)
  where
    among : {who : Who} (ps : List Pact) → list_any (λ p. p.tid == t) ps ≡ true → AllNamed next owners trails who (map (λ p. p.tid) ps) (map (λ p. p.tx) ps) → owners t ≡ who
    among [] q n = absurd (true≢false (sym q))
    among {who} (p ∷ ps) q n = elim (or_cases (p.tid == t) (list_any (λ p. p.tid == t) ps) q) [ inl i ↦ subst (λ z. owners z ≡ who) (eqb-true p.tid t i) n.0.owner | inr i ↦ among ps i n.1 ]

pub standing_keys : (P : Who → Type 0) (rs : List Ran) → AllStanding P rs → AllByRecursion (λ k. P k.who) (keys_in rs)
standing_keys P [] h = tt
standing_keys P (Stands y c ss ∷ rs) h = (h.0, standing_keys P rs h.1)
standing_keys P (Gone y ss ∷ rs) h = standing_keys P rs h

pub owner_on : (next a t : ℕ) (owners : ℕ → Who) (trails : ℕ → Trail) (bs : List Batch) (es : List Entry) → AllByRecursion (λ b. AllNamed next owners trails (OfBatch b.bid) (map (λ p. p.tid) b.pacts) (map (λ p. p.tx) b.pacts)) bs
    → AllByRecursion (EntryOf a bs) es → AllByRecursion (λ k. OwnsIt next owners k.who) (map key_of es) → (p : Entry → Bool) → holds p (find (is_entry_of t) es) ≡ true → owners t ≡ who_on t es
owner_on next a t owners trails bs [] g f o p h = absurd (true≢false (sym h))
owner_on next a t owners trails bs (BatchEntry b ∷ es) g f o p h = by (names_slot t b) refl h (owner_on next a t owners trails bs es g f.1 o.1 p)
  where
    named : (ss : List Slot) → list_any (λ s. s.tid == t) ss ≡ true → AllByRecursion (λ s. is_pact_of s.tid b.bid bs ≡ true) ss → is_pact_of t b.bid bs ≡ true
    named [] e q = absurd (true≢false (sym e))
    named (x ∷ xs) e q = elim (or_cases (x.tid == t) (list_any (λ s. s.tid == t) xs) e) [ inl i ↦ subst (λ z. is_pact_of z b.bid bs ≡ true) (eqb-true x.tid t i) q.0 | inr i ↦ named xs i q.1 ]

    by : (v : Bool) → names_slot t b ≡ v → holds p (if v then Some (BatchEntry b) else find (is_entry_of t) es) ≡ true → (holds p (find (is_entry_of t) es) ≡ true → owners t ≡ who_on t es) → owners t ≡ (if v then OfBatch b.bid else who_on t es)
    by true e h k = batch_owns next b.bid t owners trails bs g (named b.slots e f.0.1)
    by false e h k = k h
owner_on next a t owners trails bs (ActEntry x ∷ es) g f o p h = by (x.tid == t) refl h (owner_on next a t owners trails bs es g f.1 o.1 p)
  where
    by : (v : Bool) → (x.tid == t) ≡ v → holds p (if v then Some (ActEntry x) else find (is_entry_of t) es) ≡ true → (holds p (find (is_entry_of t) es) ≡ true → owners t ≡ who_on t es) → owners t ≡ (if v then OfAct x.tid else who_on t es)
    by true e h k = subst (λ z. owners z ≡ OfAct x.tid) (eqb-true x.tid t e) o.0.1
    by false e h k = k h

-- What runs on the actor, and has its entry there, is its owner's.
pub runs_for_owner : {C : Type 0} (s : Machine C) (h : History) (t a : ℕ) (p : Entry → Bool) → map key_of (cell_at s a).entries ≡ keys_in (h.long a) → AllByRecursion (EntryOf a s.desk.batches) (cell_at s a).entries → Named s h
    → holds p (find (is_entry_of t) (cell_at s a).entries) ≡ true → h.owners t ≡ who_on t (cell_at s a).entries
runs_for_owner s h t a p stands d g q = owner_on s.ring.next_tid a t h.owners h.trails s.desk.batches (cell_at s a).entries g.pacts d (subst (AllByRecursion (λ k. OwnsIt s.ring.next_tid h.owners k.who)) (sym stands) (standing_keys (OwnsIt s.ring.next_tid h.owners) (h.long a) (g.standing a))) p q
