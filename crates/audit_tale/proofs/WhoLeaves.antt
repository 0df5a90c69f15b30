-- What Run, Trim, Rollback and Finish add to what is known.
use Rattle.std.specs.Prelude.{◌≡◌, refl, ℕ, zero, suc, ◌<◌, ◌≤◌, nat_le, not, ◌&&◌, ◌||◌, Bool, true, false, if◌then◌else◌, Some, List, [], ◌∷◌, ◌++◌, filter, length, map, slice_get}
use Rattle.std.specs.List.{AllByRecursion, list_any}
use Rattle.std.proofs.Common.{arith, sym, ap, subst, ◌∙◌, add-one}
use Rattle.std.proofs.lemmas.Bool.{leb-true}
use Rattle.std.proofs.lemmas.List.{map-append}
use Rattle.snap_base.proofs.Lists.{one_at, weaker}
use Rattle.snap_base.specs.declared.ids.Tid.{Tid}
use Rattle.snap_base.specs.declared.transactions.Tx.{Tx}
use Rattle.snap_base.specs.declared.transactions.Who as code
use Rattle.protocol.specs.Events.{Rollback, Run, Trim}
use Rattle.protocol.specs.Fixed.{Text}
use Rattle.protocol.specs.History.{with_at}
use Rattle.protocol.specs.Meant.{tid_number, who_meant}
use Rattle.protocol.specs.Parts.{Who, OfAct, OfBatch}
use Rattle.protocol.specs.Words.{greatest, holds, is_who}
use Rattle.audit_words.specs.Happenings.{added, happened, ring_after, uncut_entries}
use Rattle.audit_words.specs.Seen.{Cut, Seen, was_taken_along, is_one_of_these}
use Rattle.audit_tale.specs.Knows.{bid_number}
use Rattle.audit_tale.specs.Leaves.{cut_by, goes_by, staying, staying_by}
use Rattle.audit_tale.specs.Stands.{IsNamed, IsSound, KnowsAll, TellsActor}
use Rattle.audit_tale.specs.declared.told.ActTies.{ActTies}
use Rattle.audit_tale.specs.declared.told.ActorTale.{ActorTale}
use Rattle.audit_tale.specs.declared.told.Told.{Told}
use Rattle.audit_tale.proofs.OnOneActor.{Change, IsOn, SetsActor, changed, no_actor_known, on_actor_known, ties_kept}
use Rattle.audit_tale.proofs.SteadyLists.{elsewhere, here, who_turned}

-- ---- lists

pub mapped_filter : {X Y : Type 0} (f : X → Y) (p : Y → Bool) (xs : List X) → map f (filter (λ x. p (f x)) xs) ≡ filter p (map f xs)
mapped_filter f p [] = refl
mapped_filter f p (x ∷ xs) = by (p (f x)) (mapped_filter f p xs)
  where
    by : (b : Bool) → map f (filter (λ x. p (f x)) xs) ≡ filter p (map f xs) → map f (if b then x ∷ filter (λ x. p (f x)) xs else filter (λ x. p (f x)) xs) ≡ (if b then f x ∷ filter p (map f xs) else filter p (map f xs))
    by true r = ap (λ ys. f x ∷ ys) r
    by false r = r

same_filter : {X : Type 0} (p q : X → Bool) (xs : List X) → AllByRecursion (λ x. p x ≡ q x) xs → filter p xs ≡ filter q xs
same_filter p q [] h = refl
same_filter p q (x ∷ xs) h = ap (λ (b : Bool). if b then x ∷ filter p xs else filter p xs) h.0 ∙ by (q x) (same_filter p q xs h.1)
  where
    by : (b : Bool) → filter p xs ≡ filter q xs → (if b then x ∷ filter p xs else filter p xs) ≡ (if b then x ∷ filter q xs else filter q xs)
    by true r = ap (λ ys. x ∷ ys) r
    by false r = r

pub there_meant : (who : Who) (ws : List code.Who) → list_any (λ x. is_who (who_meant x) who) ws ≡ is_one_of_these who (map who_meant ws)
there_meant who [] = refl
there_meant who (x ∷ ws) = ap (λ (b : Bool). b || list_any (λ x. is_who (who_meant x) who) ws) (sym (who_turned (who_meant x) who (is_who (who_meant x) who) refl)) ∙ ap (λ (b : Bool). is_who who (who_meant x) || b) (there_meant who ws)

-- ---- a slice runs

abbrev ran_change : ℕ → ℕ → Seen → Change
ran_change t a s = record { ran = with_at a (s.ran a ++ t ∷ []) s.ran; entries = s.entries; kept = s.kept; left_sealed = s.left_sealed; gains = s.gains }

ran_seen : (reads : Tx → Bool) (w : Text) (t a : ℕ) (s : Seen) → happened reads w (Run t a) s ≡ changed (ran_change t a s) s
unfolding added ring_after
ran_seen reads w t a s = refl

ran_on : (t a : ℕ) (s : Seen) → IsOn a (ran_change t a s) s
ran_on t a s = record { ran = λ i n. elsewhere a i (s.ran a ++ t ∷ []) s.ran n; entries = λ i n. refl; kept = λ i n. refl; left_sealed = λ i n. refl }

pub ran_nowhere : (reads : Tx → Bool) (w : Text) (t a : ℕ) (told : Told) (s : Seen) → length told.actors.items ≤ a → KnowsAll w told s → KnowsAll w told (happened reads w (Run t a) s)
ran_nowhere reads w t a told s l h = subst (KnowsAll w told) (sym (ran_seen reads w t a s)) (no_actor_known w a told (ran_change t a s) s (ran_on t a s) l (h.stands.nobody a l).0 refl refl h)

pub ran_known : (reads : Tx → Bool) (w : Text) (t : Tid) (a : ℕ) (x y : ActorTale) (told new : Told) (s : Seen) → slice_get told.actors.items a ≡ Some x → a < length told.actors.items → SetsActor a y told new → new.ties.items ≡ told.ties.items
    → y.ran.items ≡ x.ran.items ++ t ∷ [] → y.entries.items ≡ x.entries.items → y.placed.items ≡ x.placed.items → y.kept.items ≡ x.kept.items → y.last ≡ x.last → y.floor ≡ x.floor → y.write_floor ≡ x.write_floor
    → KnowsAll w told s → KnowsAll w new (happened reads w (Run t.0 a) s)
ran_known reads w t a x y told new s is l sets ties r e p k m f g h =
    let old : TellsActor s a x = h.stands.actors a x is in
    subst (KnowsAll w new) (sym (ran_seen reads w t.0 a s)) (on_actor_known w a y told new (ran_change t.0 a s) s (ran_on t.0 a s) sets l
    (record {
      entries = ap (map who_meant) e ∙ old.entries;
      placed = ap (map who_meant) p ∙ old.placed;
      ran = ap (map tid_number) r ∙ (map-append tid_number x.ran.items (t ∷ []) ∙ (ap (λ (ts : List ℕ). ts ++ t.0 ∷ []) old.ran ∙ sym (here a (s.ran a ++ t.0 ∷ []) s.ran)));
      kept = ap (map bid_number) k ∙ old.kept;
      last = ap bid_number m ∙ old.last;
      floor = ap bid_number f ∙ old.floor;
      write_floor = ap bid_number g ∙ old.write_floor;
    })
    (ap length ties) (λ i z b q o. ties_kept b.tid (ran_change t.0 a s) s z refl refl (h.stands.ties i z b (ap (λ (zs : List ActTies). slice_get zs i) (sym ties) ∙ q) o)) h)

-- ---- a batch is trimmed

abbrev trim_change : ℕ → ℕ → Seen → Change
trim_change k a s = record { ran = s.ran; entries = with_at a (filter (λ y. not (is_who y (OfBatch k))) (s.entries a)) s.entries; kept = s.kept; left_sealed = s.left_sealed; gains = s.gains }

trim_seen : (reads : Tx → Bool) (w : Text) (k a : ℕ) (s : Seen) → happened reads w (Trim k a) s ≡ changed (trim_change k a s) s
unfolding added ring_after
trim_seen reads w k a s = refl

trim_on : (k a : ℕ) (s : Seen) → IsOn a (trim_change k a s) s
trim_on k a s = record { ran = λ i n. refl; entries = λ i n. elsewhere a i (filter (λ y. not (is_who y (OfBatch k))) (s.entries a)) s.entries n; kept = λ i n. refl; left_sealed = λ i n. refl }

pub trimmed_nowhere : (reads : Tx → Bool) (w : Text) (k a : ℕ) (told : Told) (s : Seen) → length told.actors.items ≤ a → KnowsAll w told s → KnowsAll w told (happened reads w (Trim k a) s)
trimmed_nowhere reads w k a told s l h =
    subst (KnowsAll w told) (sym (trim_seen reads w k a s)) (no_actor_known w a told (trim_change k a s) s (trim_on k a s) l
    (here a (filter (λ y. not (is_who y (OfBatch k))) (s.entries a)) s.entries ∙ ap (λ (ws : List Who). filter (λ y. not (is_who y (OfBatch k))) ws) (h.stands.nobody a l).0) refl refl h)

pub trimmed_known : (reads : Tx → Bool) (w : Text) (k a : ℕ) (x y : ActorTale) (told new : Told) (s : Seen) → slice_get told.actors.items a ≡ Some x → a < length told.actors.items → SetsActor a y told new → new.ties.items ≡ told.ties.items
    → y.entries.items ≡ filter (λ who. not (is_who (who_meant who) (OfBatch k))) x.entries.items → y.placed.items ≡ x.placed.items → y.ran.items ≡ x.ran.items → y.kept.items ≡ x.kept.items → y.last ≡ x.last → y.floor ≡ x.floor → y.write_floor ≡ x.write_floor
    → KnowsAll w told s → KnowsAll w new (happened reads w (Trim k a) s)
trimmed_known reads w k a x y told new s is l sets ties e p r q m f g h =
    let old : TellsActor s a x = h.stands.actors a x is in
    subst (KnowsAll w new) (sym (trim_seen reads w k a s)) (on_actor_known w a y told new (trim_change k a s) s (trim_on k a s) sets l
    (record {
      entries = ap (map who_meant) e ∙ (mapped_filter who_meant (λ who. not (is_who who (OfBatch k))) x.entries.items ∙ (ap (λ (ws : List Who). filter (λ who. not (is_who who (OfBatch k))) ws) old.entries ∙ sym (here a (filter (λ y. not (is_who y (OfBatch k))) (s.entries a)) s.entries)));
      placed = ap (map who_meant) p ∙ old.placed;
      ran = ap (map tid_number) r ∙ old.ran;
      kept = ap (map bid_number) q ∙ old.kept;
      last = ap bid_number m ∙ old.last;
      floor = ap bid_number f ∙ old.floor;
      write_floor = ap bid_number g ∙ old.write_floor;
    })
    (ap length ties) (λ i z b n o. ties_kept b.tid (trim_change k a s) s z refl refl (h.stands.ties i z b (ap (λ (zs : List ActTies). slice_get zs i) (sym ties) ∙ n) o)) h)

-- ---- a rollback

-- no cut begins at 0
never_cut : (cuts : List Cut) (n : ℕ) → AllByRecursion (λ c. (1 ≤ c.first) × (c.first < n)) cuts → was_taken_along 0 cuts ≡ false
never_cut [] n h = refl
never_cut (c ∷ cuts) n h = by (nat_le c.first 0) refl (never_cut cuts n h.1)
  where
    by : (b : Bool) → nat_le c.first 0 ≡ b → was_taken_along 0 cuts ≡ false → ((b && nat_le 0 c.upto) || was_taken_along 0 cuts) ≡ false
    by true e r = absurd (omega (arith, leb-true c.first 0 e, h.0.0))
    by false e r = r

-- a batch that was formed is cut off where its way says so
cut_known : (w : Text) (k : ℕ) (told : Told) (s : Seen) → IsSound s → KnowsAll w told s → k < s.ring.next_bid → cut_by told.ways.items k ≡ was_taken_along k s.cuts
cut_known w zero told s sound h l = sym (never_cut s.cuts s.ring.next_bid h.stands.cuts)
cut_known w (suc n) told s sound h l =
    let way = one_at told.ways.items n (omega (arith, l, sound.drawn.next_bid, h.stands.batches)) in
    ap (holds (λ x. x.is_cut)) way.1 ∙ ((h.stands.ways n way.0 way.1).is_cut ∙ ap (λ (k : ℕ). was_taken_along k s.cuts) (add-one n))

staying_mapped : {X Y : Type 0} (f : X → Y) (g : Bool → Y → Bool) (b : Bool) (xs : List X) → map f (staying (λ passed x. g passed (f x)) b xs) ≡ staying g b (map f xs)
staying_mapped f g b [] = refl
staying_mapped f g b (x ∷ xs) = by (g b (f x)) (staying_mapped f g true xs) (staying_mapped f g b xs)
  where
    by : (c : Bool) → map f (staying (λ passed x. g passed (f x)) true xs) ≡ staying g true (map f xs) → map f (staying (λ passed x. g passed (f x)) b xs) ≡ staying g b (map f xs)
        → map f (if c then staying (λ passed x. g passed (f x)) true xs else x ∷ staying (λ passed x. g passed (f x)) b xs) ≡ (if c then staying g true (map f xs) else f x ∷ staying g b (map f xs))
    by true r q = r
    by false r q = ap (λ ys. f x ∷ ys) q

-- whether the batch is cut off; of an ACT nothing is asked
abbrev cut_among : List Cut → Who → Bool
cut_among cuts (OfBatch k) = was_taken_along k cuts
cut_among cuts (OfAct t) = false

-- of a batch it is known whether it is cut off
record Tells (is_cut : ℕ → Bool) (cuts : List Cut) (who : Who) : Type 0 where
  pub told : goes_by is_cut false who ≡ cut_among cuts who

staying_stays : (is_cut : ℕ → Bool) (cuts : List Cut) (b : Bool) (ws : List Who) → AllByRecursion (Tells is_cut cuts) ws → staying (goes_by is_cut) b ws ≡ uncut_entries b cuts ws
staying_stays is_cut cuts b [] h = refl
staying_stays is_cut cuts b (OfBatch k ∷ ws) h =
    let told : is_cut k ≡ was_taken_along k cuts = h.0.told in
    ap (λ (c : Bool). if c then staying (goes_by is_cut) true ws else OfBatch k ∷ staying (goes_by is_cut) b ws) told ∙ by (was_taken_along k cuts) (staying_stays is_cut cuts true ws h.1) (staying_stays is_cut cuts b ws h.1)
  where
    by : (c : Bool) → staying (goes_by is_cut) true ws ≡ uncut_entries true cuts ws → staying (goes_by is_cut) b ws ≡ uncut_entries b cuts ws
        → (if c then staying (goes_by is_cut) true ws else OfBatch k ∷ staying (goes_by is_cut) b ws) ≡ (if c then uncut_entries true cuts ws else OfBatch k ∷ uncut_entries b cuts ws)
    by true r q = r
    by false r q = ap (λ us. OfBatch k ∷ us) q
staying_stays is_cut cuts true (OfAct t ∷ ws) h = staying_stays is_cut cuts true ws h.1
staying_stays is_cut cuts false (OfAct t ∷ ws) h = ap (λ us. OfAct t ∷ us) (staying_stays is_cut cuts false ws h.1)

abbrev roll_change : ℕ → Seen → Change
roll_change a s = record {
  ran = s.ran;
  entries = with_at a (uncut_entries false s.cuts (s.entries a)) s.entries;
  kept = with_at a (filter (λ k. not (was_taken_along k s.cuts)) (s.kept a)) s.kept;
  left_sealed = s.left_sealed;
  gains = s.gains;
}

roll_seen : (reads : Tx → Bool) (w : Text) (a : ℕ) (s : Seen) → happened reads w (Rollback a) s ≡ changed (roll_change a s) s
unfolding added ring_after
roll_seen reads w a s = refl

roll_on : (a : ℕ) (s : Seen) → IsOn a (roll_change a s) s
roll_on a s = record {
  ran = λ i n. refl;
  entries = λ i n. elsewhere a i (uncut_entries false s.cuts (s.entries a)) s.entries n;
  kept = λ i n. elsewhere a i (filter (λ k. not (was_taken_along k s.cuts)) (s.kept a)) s.kept n;
  left_sealed = λ i n. refl;
}

pub rolled_nowhere : (reads : Tx → Bool) (w : Text) (a : ℕ) (told : Told) (s : Seen) → length told.actors.items ≤ a → KnowsAll w told s → KnowsAll w told (happened reads w (Rollback a) s)
rolled_nowhere reads w a told s l h =
    subst (KnowsAll w told) (sym (roll_seen reads w a s)) (no_actor_known w a told (roll_change a s) s (roll_on a s) l
    (here a (uncut_entries false s.cuts (s.entries a)) s.entries ∙ ap (uncut_entries false s.cuts) (h.stands.nobody a l).0) refl refl h)

pub rolled_known : (reads : Tx → Bool) (w : Text) (a : ℕ) (x y : ActorTale) (told new : Told) (s : Seen) → slice_get told.actors.items a ≡ Some x → a < length told.actors.items → SetsActor a y told new → new.ties.items ≡ told.ties.items
    → y.entries.items ≡ staying_by told.ways.items x.entries.items → y.kept.items ≡ filter (λ k. not (cut_by told.ways.items k.0)) x.kept.items → y.last.0 ≡ greatest (map bid_number y.kept.items)
    → y.placed.items ≡ x.placed.items → y.ran.items ≡ x.ran.items → y.floor ≡ x.floor → y.write_floor ≡ x.write_floor → IsSound s → KnowsAll w told s → KnowsAll w new (happened reads w (Rollback a) s)
rolled_known reads w a x y told new s is l sets ties e k m p r f g sound h =
    subst (KnowsAll w new) (sym (roll_seen reads w a s)) (on_actor_known w a y told new (roll_change a s) s (roll_on a s) sets l
    (record {
      entries = stay ∙ sym (here a (uncut_entries false s.cuts (s.entries a)) s.entries);
      placed = ap (map who_meant) p ∙ old.placed;
      ran = ap (map tid_number) r ∙ old.ran;
      kept = rest ∙ sym (here a (filter (λ k. not (was_taken_along k s.cuts)) (s.kept a)) s.kept);
      last = m ∙ ap greatest (rest ∙ sym (here a (filter (λ k. not (was_taken_along k s.cuts)) (s.kept a)) s.kept));
      floor = ap bid_number f ∙ old.floor;
      write_floor = ap bid_number g ∙ old.write_floor;
    })
    (ap length ties) (λ i z b n o. ties_kept b.tid (roll_change a s) s z refl refl (h.stands.ties i z b (ap (λ (zs : List ActTies). slice_get zs i) (sym ties) ∙ n) o)) h)
  where
    old : TellsActor s a x
    old = h.stands.actors a x is

    told_of : (who : Who) → IsNamed s who → Tells (cut_by told.ways.items) s.cuts who
    told_of (OfBatch j) n = record { told = cut_known w j told s sound h n }
    told_of (OfAct t) n = record { told = refl }

    stay : map who_meant y.entries.items ≡ uncut_entries false s.cuts (s.entries a)
    stay =
        ap (map who_meant) e
        ∙ (staying_mapped who_meant (goes_by (cut_by told.ways.items)) false x.entries.items
        ∙ (ap (staying (goes_by (cut_by told.ways.items)) false) old.entries
        ∙ staying_stays (cut_by told.ways.items) s.cuts false (s.entries a) (weaker (IsNamed s) (Tells (cut_by told.ways.items) s.cuts) (s.entries a) told_of (sound.steady.entries a))))

    rest : map bid_number y.kept.items ≡ filter (λ k. not (was_taken_along k s.cuts)) (s.kept a)
    rest =
        ap (map bid_number) k
        ∙ (mapped_filter bid_number (λ j. not (cut_by told.ways.items j)) x.kept.items
        ∙ (ap (filter (λ j. not (cut_by told.ways.items j))) old.kept
        ∙ same_filter (λ j. not (cut_by told.ways.items j)) (λ j. not (was_taken_along j s.cuts)) (s.kept a) (weaker (λ j. j < s.ring.next_bid) (λ j. not (cut_by told.ways.items j) ≡ not (was_taken_along j s.cuts)) (s.kept a) (λ j n. ap not (cut_known w j told s sound h n)) (sound.steady.kept a))))
