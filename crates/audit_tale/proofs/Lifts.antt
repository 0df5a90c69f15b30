-- What is known after one ACT has risen to a number: its own, and the floors of the actors that it left sealed.
use Rattle.std.specs.Prelude.{◌≡◌, ◌≢◌, refl, ℕ, zero, suc, ◌+◌, ◌<◌, ◌≤◌, ◌==◌, nat_lt, max, not, ◌&&◌, ◌||◌, Bool, true, false, if◌then◌else◌, Option, Some, None, option_map, List, [], ◌∷◌, filter, length, map, slice_get, slice_set, slice_index_or}
use Rattle.std.specs.List.{AllByRecursion, list_any}
use Rattle.std.proofs.Common.{arith, sym, ap, subst, ◌∙◌}
use Rattle.std.proofs.lemmas.Bool.{true≢false, eq-eqb, eqb-true, ne_eqb, lt-ltb, ltb-true, false_from_ne_true}
use Rattle.std.proofs.lemmas.List.{length-map, length-set}
use Rattle.snap_base.proofs.Booleans.{eqb_turned}
use Rattle.snap_base.proofs.Lists.{all_found, all_of, get_other, one_at, weaker}
use Rattle.snap_base.proofs.Options.{pair_mapped}
use Rattle.protocol.specs.Fixed.{Text}
use Rattle.protocol.specs.History.{sets_of}
use Rattle.protocol.specs.Rivals.{Lock}
use Rattle.protocol.specs.Words.{greatest, holds, is_among}
use Rattle.audit_words.specs.Seen.{Begun, Seen, act_in, lock_in}
use Rattle.audit_tale.specs.Knows.{IsKept, Knows, RiseFrom, TellsAct, TellsBatch, act_by, begun_of, bid_number, formed_of, member_of, owner_of}
use Rattle.audit_tale.specs.Risen.{MayRise, left_in, lifted, lifted_along, lifted_at, lifted_there, lower, risen}
use Rattle.audit_tale.specs.Stands.{KnowsAll, Stands, TellsActor}
use Rattle.audit_tale.specs.declared.tales.ActTale.{ActTale}
use Rattle.audit_tale.specs.declared.tales.Owner.TheVariants as owners
use Rattle.audit_tale.specs.declared.told.ActorTale.{ActorTale}
use Rattle.audit_tale.specs.declared.told.Told.{Told}
use Rattle.audit_tale.proofs.Spreads.{greatest_join, risen_else, risen_here}
use Rattle.audit_tale.proofs.WhoIsTold.{act_there, begun_at, begun_set, ends_set}

-- ---- one element is changed

pub get_set : {X : Type 0} (xs : List X) (i : ℕ) (x y : X) → slice_get xs i ≡ Some y → slice_get (slice_set xs i x) i ≡ Some x
get_set [] i x y e = absurd (cc e)
get_set (z ∷ zs) zero x y e = refl
get_set (z ∷ zs) (suc i) x y e = get_set zs i x y e

-- ---- the floors

lifted_twice : (m : ℕ) (reader : Bool) (x : ActorTale) → lifted m reader (lifted m reader x) ≡ lifted m reader x
lifted_twice m true x = ap (λ (n : ℕ). record x { floor = record { 0 = n } }) (omega arith)
lifted_twice m false x =
    ap (λ (n : ℕ). record x { floor = record { 0 = n }; write_floor = record { 0 = max (max x.write_floor.0 m) m } }) (omega arith)
    ∙ ap (λ (n : ℕ). record x { floor = record { 0 = max x.floor.0 m }; write_floor = record { 0 = n } }) (omega arith)

abbrev pub lifted_if : Bool → ℕ → Bool → ActorTale → ActorTale
lifted_if b m reader x = if b then lifted m reader x else x

lifted_again : (b c : Bool) (m : ℕ) (reader : Bool) (x : ActorTale) → lifted_if b m reader (lifted_if c m reader x) ≡ lifted_if (c || b) m reader x
lifted_again true true m reader x = lifted_twice m reader x
lifted_again true false m reader x = refl
lifted_again false true m reader x = refl
lifted_again false false m reader x = refl

lifted_one : (a b m : ℕ) (reader : Bool) (xs : List ActorTale) → slice_get (lifted_at a m reader xs) b ≡ option_map (lifted_if (a == b) m reader) (slice_get xs b)
lifted_one a b m reader xs = by (a == b) refl (slice_get xs a) refl
  where
    at_none : (c : Bool) (o : Option ActorTale) → o ≡ None → o ≡ option_map (lifted_if c m reader) o
    at_none c None e = refl
    at_none c (Some x) e = absurd (cc e)

    uncut_entries : (o : Option ActorTale) → o ≡ option_map (lifted_if false m reader) o
    uncut_entries None = refl
    uncut_entries (Some x) = refl

    by : (c : Bool) → (a == b) ≡ c → (o : Option ActorTale) → slice_get xs a ≡ o → slice_get (lifted_there a m reader o xs) b ≡ option_map (lifted_if c m reader) (slice_get xs b)
    by true e None f = at_none true (slice_get xs b) (ap (slice_get xs) (sym (eqb-true a b e)) ∙ f)
    by true e (Some x) f =
        let i : a ≡ b = eqb-true a b e in
        let here : slice_get xs b ≡ Some x = ap (slice_get xs) (sym i) ∙ f in
        ap (λ (k : ℕ). slice_get (slice_set xs k (lifted m reader x)) b) i ∙ (get_set xs b (lifted m reader x) x here ∙ sym (ap (option_map (lifted_if true m reader)) here))
    by false e None f = uncut_entries (slice_get xs b)
    by false e (Some x) f = get_other xs b a (lifted m reader x) (λ i. true≢false (sym (eq-eqb a b i) ∙ e)) ∙ uncut_entries (slice_get xs b)

mapped_twice : (b c : Bool) (m : ℕ) (reader : Bool) (o : Option ActorTale) → option_map (lifted_if b m reader) (option_map (lifted_if c m reader) o) ≡ option_map (lifted_if (c || b) m reader) o
mapped_twice b c m reader None = refl
mapped_twice b c m reader (Some x) = ap Some (lifted_again b c m reader x)

mapped_same : (m : ℕ) (reader : Bool) (o : Option ActorTale) → o ≡ option_map (lifted_if false m reader) o
mapped_same m reader None = refl
mapped_same m reader (Some x) = refl

lifted_get : (bs : List ℕ) (b m : ℕ) (reader : Bool) (xs : List ActorTale) → slice_get (lifted_along bs m reader xs) b ≡ option_map (lifted_if (is_among b bs) m reader) (slice_get xs b)
lifted_get [] b m reader xs = mapped_same m reader (slice_get xs b)
lifted_get (a ∷ bs) b m reader xs =
    lifted_get bs b m reader (lifted_at a m reader xs) ∙ (ap (option_map (lifted_if (is_among b bs) m reader)) (lifted_one a b m reader xs) ∙ mapped_twice (is_among b bs) (a == b) m reader (slice_get xs b))

there_long : (a m : ℕ) (reader : Bool) (o : Option ActorTale) (xs : List ActorTale) → length (lifted_there a m reader o xs) ≡ length xs
there_long a m reader None xs = refl
there_long a m reader (Some x) xs = length-set xs a (lifted m reader x)

lifted_long : (bs : List ℕ) (m : ℕ) (reader : Bool) (xs : List ActorTale) → length (lifted_along bs m reader xs) ≡ length xs
lifted_long [] m reader xs = refl
lifted_long (a ∷ bs) m reader xs = lifted_long bs m reader (lifted_at a m reader xs) ∙ there_long a m reader (slice_get xs a) xs

-- ---- sets that grow by one number

sets_risen : (m u : ℕ) (b : ℕ → List ℕ) (xs : List Lock) → greatest (sets_of (risen m (u ∷ []) b) xs) ≡ (if list_any (λ l. l.tid == u) xs then max (greatest (sets_of b xs)) m else greatest (sets_of b xs))
sets_risen m u b [] = refl
sets_risen m u b (x ∷ xs) = by (x.tid == u) refl (list_any (λ l. l.tid == u) xs) (sets_risen m u b xs)
  where
    by : (c : Bool) → (x.tid == u) ≡ c → (d : Bool) → greatest (sets_of (risen m (u ∷ []) b) xs) ≡ (if d then max (greatest (sets_of b xs)) m else greatest (sets_of b xs))
        → greatest (sets_of (risen m (u ∷ []) b) (x ∷ xs)) ≡ (if c || d then max (greatest (sets_of b (x ∷ xs))) m else greatest (sets_of b (x ∷ xs)))
    by true e true r =
        omega (arith, r, greatest_join (risen m (u ∷ []) b x.tid) (sets_of (risen m (u ∷ []) b) xs), greatest_join (b x.tid) (sets_of b xs), risen_here m (u ∷ []) b x.tid (ap (λ (c : Bool). c || false) (eqb_turned x.tid u true e)))
    by true e false r =
        omega (arith, r, greatest_join (risen m (u ∷ []) b x.tid) (sets_of (risen m (u ∷ []) b) xs), greatest_join (b x.tid) (sets_of b xs), risen_here m (u ∷ []) b x.tid (ap (λ (c : Bool). c || false) (eqb_turned x.tid u true e)))
    by false e true r =
        omega (arith, r, greatest_join (risen m (u ∷ []) b x.tid) (sets_of (risen m (u ∷ []) b) xs), greatest_join (b x.tid) (sets_of b xs), risen_else m (u ∷ []) b x.tid (ap (λ (c : Bool). c || false) (eqb_turned x.tid u false e)))
    by false e false r =
        omega (arith, r, greatest_join (risen m (u ∷ []) b x.tid) (sets_of (risen m (u ∷ []) b) xs), greatest_join (b x.tid) (sets_of b xs), risen_else m (u ∷ []) b x.tid (ap (λ (c : Bool). c || false) (eqb_turned x.tid u false e)))

-- of those that do not only read, it is there where it does not only read
writers_of : (acts : List Begun) (u : ℕ) (reader : Bool) (xs : List Lock) → (lock_in acts u).reader ≡ reader → AllByRecursion (λ l. l ≡ lock_in acts l.tid) xs
    → list_any (λ l. l.tid == u) (filter (λ l. not l.reader) xs) ≡ (list_any (λ l. l.tid == u) xs && not reader)
writers_of acts u reader [] e all = refl
writers_of acts u reader (x ∷ xs) e all = by x.reader refl (x.tid == u) refl reader refl (writers_of acts u reader xs e all.1)
  where
    reads : x.tid ≡ u → x.reader ≡ reader
    reads i = ap (λ (l : Lock). l.reader) all.0 ∙ (ap (λ (n : ℕ). (lock_in acts n).reader) i ∙ e)

    by : (b : Bool) → x.reader ≡ b → (c : Bool) → (x.tid == u) ≡ c → (r : Bool) → reader ≡ r → list_any (λ l. l.tid == u) (filter (λ l. not l.reader) xs) ≡ (list_any (λ l. l.tid == u) xs && not reader)
        → list_any (λ l. l.tid == u) (if not b then x ∷ filter (λ l. not l.reader) xs else filter (λ l. not l.reader) xs) ≡ ((c || list_any (λ l. l.tid == u) xs) && not r)
    by true p true q true z r = r ∙ (ap (λ (h : Bool). list_any (λ l. l.tid == u) xs && not h) z ∙ none (list_any (λ l. l.tid == u) xs))
      where
        none : (h : Bool) → (h && false) ≡ false
        none true = refl
        none false = refl
    by true p true q false z r = absurd (true≢false (sym p ∙ (reads (eqb-true x.tid u q) ∙ z)))
    by true p false q h z r = r ∙ ap (λ (h : Bool). list_any (λ l. l.tid == u) xs && not h) z
    by false p true q true z r = absurd (true≢false (sym z ∙ (sym (reads (eqb-true x.tid u q)) ∙ p)))
    by false p true q false z r = ap (λ (h : Bool). h || list_any (λ l. l.tid == u) (filter (λ l. not l.reader) xs)) q
    by false p false q h z r = ap (λ (v : Bool). v || list_any (λ l. l.tid == u) (filter (λ l. not l.reader) xs)) q ∙ (r ∙ ap (λ (v : Bool). list_any (λ l. l.tid == u) xs && not v) z)

-- ---- one ACT rises

-- what is kept after the ACT at place i has risen to m
pub record RaisesAt (i m : ℕ) (d : ActTale) (old new : Told) : Type 0 where
  pub ring : new.tale.ring ≡ old.tale.ring
  pub batches : new.tale.batches.items ≡ old.tale.batches.items
  pub acts : new.tale.acts.items ≡ slice_set old.tale.acts.items i (record (slice_index_or old.tale.acts.items i d) { before = record { 0 = m } })
  pub owners : new.tale.owners.items ≡ old.tale.owners.items
  pub members : new.tale.members.items ≡ old.tale.members.items
  pub settled : new.tale.settled ≡ old.tale.settled
  pub next_c : new.tale.next_c ≡ old.tale.next_c
  pub actors : new.actors.items ≡ lifted_along (left_in (slice_get old.ties.items i)) m (slice_index_or old.tale.acts.items i d).reader old.actors.items
  pub ways : new.ways.items ≡ old.ways.items
  pub ties : new.ties.items ≡ old.ties.items
  pub uncut : new.uncut.items ≡ old.uncut.items
  pub going : new.going.items ≡ old.going.items

-- an ACT that is found has the tid that was looked for
pub found_tid : (u : ℕ) (acts : List Begun) (x : Begun) → act_in u acts ≡ Some x → x.tid ≡ u
found_tid u acts x e = eqb-true x.tid u (all_found (λ y. Unit {0}) (λ y. y.tid == u) acts x (all_of (λ y. Unit {0}) acts (λ y. tt)) e).1

module _ (w : Text) (i m u : ℕ) (d : ActTale) (old new : Told) (s : Seen) (may : MayRise s) (h : KnowsAll w old s) (owned : owner_of u old.tale.owners.items ≡ Some (owners.Act i)) (l : i < length old.tale.acts.items)
    (le : greatest (s.before u) ≤ m) (c : RaisesAt i m d old new) where
  abbrev x : ActTale
  x = slice_index_or old.tale.acts.items i d

  abbrev after : Seen
  after = record s { before = risen m (u ∷ []) s.before }

  there : act_in u s.acts ≡ Some (begun_of x)
  there = act_there w u i d old.tale s h.names owned l

  tid : x.tid.0 ≡ u
  tid = found_tid u s.acts (begun_of x) there

  own_tells : TellsAct s x → TellsAct after (record x { before = record { 0 = m } })
  own_tells k = record {
    before = sym (risen_here m (u ∷ []) s.before x.tid.0 (ap (λ (b : Bool). b || false) (eq-eqb u x.tid.0 (sym tid))) ∙ at_least);
    behind = k.behind;
    given_up = k.given_up;
    decided = k.decided;
  }
    where
      at_least : max (greatest (s.before x.tid.0)) m ≡ m
      at_least = omega (arith, le, ap (λ (n : ℕ). greatest (s.before n)) tid)

  other_tells : (y : ActTale) → y.tid.0 ≢ x.tid.0 → TellsAct s y → TellsAct after y
  other_tells y n k = record {
    before = k.before ∙ sym (risen_else m (u ∷ []) s.before y.tid.0 (ap (λ (b : Bool). b || false) (ne_eqb u y.tid.0 (λ e. n (sym e ∙ sym tid)))));
    behind = k.behind;
    given_up = k.given_up;
    decided = k.decided;
  }

  raised_names : Knows w new.tale after
  raised_names = record {
    ring = c.ring ∙ h.names.ring;
    batches = ap (map formed_of) c.batches ∙ h.names.batches;
    marks = subst (AllByRecursion (TellsBatch after)) (sym c.batches) (weaker (TellsBatch s) (TellsBatch after) old.tale.batches.items (λ b k. record { committed = k.committed; settled = k.settled }) h.names.marks);
    acts = ap (map begun_of) c.acts ∙ (begun_set (λ y. record y { before = record { 0 = m } }) i d old.tale.acts.items (λ y. refl) l ∙ h.names.acts);
    ends = subst (AllByRecursion (TellsAct after)) (sym c.acts) (ends_set s after (λ y. record y { before = record { 0 = m } }) 1 i d old.tale.acts.items own_tells other_tells (subst (RiseFrom 1) (sym h.names.acts) may.rise) l h.names.ends);
    owners = λ n. h.names.owners n ∙ ap (λ os. act_by (owner_of n os) s.acts) (sym c.owners);
    kept = subst (AllByRecursion (IsKept (length s.acts))) (sym c.owners) h.names.kept;
    drawn = h.names.drawn ∙ ap (λ os. length os + 1) (sym c.owners);
    members = ap (map member_of) c.members ∙ h.names.members;
    settled = c.settled ∙ h.names.settled;
    number = c.next_c ∙ h.names.number;
  }

  left_tells : (a : ℕ) → is_among a (left_in (slice_get old.ties.items i)) ≡ list_any (λ y. y.tid == u) (s.left_sealed a)
  left_tells a =
      let many : i < length old.ties.items = omega (arith, l, h.stands.acts, ap length h.names.acts, length-map old.tale.acts.items begun_of) in
      let one = one_at old.ties.items i many in
      let got : slice_get s.acts i ≡ Some (begun_of x) = ap (λ ys. slice_get ys i) (sym h.names.acts) ∙ begun_at i d old.tale.acts.items l in
      ap (λ o. is_among a (left_in o)) one.1 ∙ ((h.stands.ties i one.0 (begun_of x) one.1 got).left a ∙ ap (λ (n : ℕ). list_any (λ y. y.tid == n) (s.left_sealed a)) tid)

  reads : (lock_in s.acts u).reader ≡ x.reader
  reads = ap (λ (o : Option Begun). holds (λ y. y.reader) o) there

  abbrev writers : ℕ → List Lock
  writers a = filter (λ l. not l.reader) (s.left_sealed a)

  actor_tells : (a : ℕ) (y : ActorTale) → TellsActor s a y → TellsActor after a (lifted_if (is_among a (left_in (slice_get old.ties.items i))) m x.reader y)
  actor_tells a y k = by (is_among a (left_in (slice_get old.ties.items i))) refl x.reader refl
    where
      all : greatest (sets_of (risen m (u ∷ []) s.before) (s.left_sealed a)) ≡ (if list_any (λ l. l.tid == u) (s.left_sealed a) then max (greatest (sets_of s.before (s.left_sealed a))) m else greatest (sets_of s.before (s.left_sealed a)))
      all = sets_risen m u s.before (s.left_sealed a)

      some : greatest (sets_of (risen m (u ∷ []) s.before) (writers a)) ≡ (if list_any (λ l. l.tid == u) (s.left_sealed a) && not x.reader then max (greatest (sets_of s.before (writers a))) m else greatest (sets_of s.before (writers a)))
      some = sets_risen m u s.before (writers a) ∙ ap (λ (b : Bool). if b then max (greatest (sets_of s.before (writers a))) m else greatest (sets_of s.before (writers a))) (writers_of s.acts u x.reader (s.left_sealed a) reads (may.sealed a))

      by : (b : Bool) → is_among a (left_in (slice_get old.ties.items i)) ≡ b → (r : Bool) → x.reader ≡ r → TellsActor after a (lifted_if b m r y)
      by true e r q =
          let here : list_any (λ l. l.tid == u) (s.left_sealed a) ≡ true = sym (left_tells a) ∙ e in
          record {
            entries = k.entries;
            placed = k.placed;
            ran = k.ran;
            kept = k.kept;
            last = k.last;
            floor = ap (λ (n : ℕ). max n m) k.floor ∙ sym (all ∙ ap (λ (b : Bool). if b then max (greatest (sets_of s.before (s.left_sealed a))) m else greatest (sets_of s.before (s.left_sealed a))) here);
            write_floor = write r (some ∙ (ap (λ (b : Bool). if b && not x.reader then max (greatest (sets_of s.before (writers a))) m else greatest (sets_of s.before (writers a))) here ∙ ap (λ (v : Bool). if not v then max (greatest (sets_of s.before (writers a))) m else greatest (sets_of s.before (writers a))) q));
          }
        where
          write : (r : Bool) → greatest (sets_of (risen m (u ∷ []) s.before) (writers a)) ≡ (if not r then max (greatest (sets_of s.before (writers a))) m else greatest (sets_of s.before (writers a))) → (lifted m r y).write_floor.0 ≡ greatest (sets_of (risen m (u ∷ []) s.before) (writers a))
          write true e = k.write_floor ∙ sym e
          write false e = ap (λ (n : ℕ). max n m) k.write_floor ∙ sym e
      by false e r q =
          let here : list_any (λ l. l.tid == u) (s.left_sealed a) ≡ false = sym (left_tells a) ∙ e in
          record {
            entries = k.entries;
            placed = k.placed;
            ran = k.ran;
            kept = k.kept;
            last = k.last;
            floor = k.floor ∙ sym (all ∙ ap (λ (b : Bool). if b then max (greatest (sets_of s.before (s.left_sealed a))) m else greatest (sets_of s.before (s.left_sealed a))) here);
            write_floor = k.write_floor ∙ sym (some ∙ ap (λ (b : Bool). if b && not x.reader then max (greatest (sets_of s.before (writers a))) m else greatest (sets_of s.before (writers a))) here);
          }

  raised_stands : Stands w new after
  raised_stands =
      let k = h.stands in
      let many : length new.actors.items ≡ length old.actors.items = ap length c.actors ∙ lifted_long (left_in (slice_get old.ties.items i)) m x.reader old.actors.items in
      record {
        count = many ∙ k.count;
        actors = λ a z e.
            let f = pair_mapped (lifted_if (is_among a (left_in (slice_get old.ties.items i))) m x.reader) (slice_get old.actors.items a) z (sym (lifted_get (left_in (slice_get old.ties.items i)) a m x.reader old.actors.items) ∙ (ap (λ ys. slice_get ys a) (sym c.actors) ∙ e)) in
            subst (TellsActor after a) f.1.1 (actor_tells a f.0 (k.actors a f.0 f.1.0));
        nobody = λ a far. k.nobody a (omega (arith, far, many));
        batches = ap length c.ways ∙ k.batches;
        ways = λ j y e. let f = k.ways j y (ap (λ ys. slice_get ys j) (sym c.ways) ∙ e) in record { came = f.came; is_cut = f.is_cut; fall = f.fall };
        cuts = k.cuts;
        uncut = ap (map bid_number) c.uncut ∙ k.uncut;
        acts = ap length c.ties ∙ k.acts;
        ties = λ j y b e f. let t = k.ties j y b (ap (λ ys. slice_get ys j) (sym c.ties) ∙ e) f in record { waiters = t.waiters; left = t.left };
        going = λ j b e live. ap (is_among j) c.going ∙ k.going j b e live;
      }

  pub raised_known : KnowsAll w new after
  raised_known = record { names = raised_names; stands = raised_stands }

-- ---- how many are below a number

pub lower_set : (m i : ℕ) (d : ActTale) (xs : List ActTale) → i < length xs → (slice_index_or xs i d).before.0 < m → lower m (slice_set xs i (record (slice_index_or xs i d) { before = record { 0 = m } })) + 1 ≡ lower m xs
lower_set m i d [] l h = absurd (omega (arith, l))
lower_set m zero d (x ∷ xs) l h = by (nat_lt m m) (lt_self m) (nat_lt x.before.0 m) (lt-ltb x.before.0 m h)
  where
    lt_self : (n : ℕ) → nat_lt n n ≡ false
    lt_self n = false_from_ne_true (nat_lt n n) (λ e. omega (arith, ltb-true n n e))

    by : (b : Bool) → b ≡ false → (c : Bool) → c ≡ true
        → length (if b then record x { before = record { 0 = m } } ∷ filter (λ y. nat_lt y.before.0 m) xs else filter (λ y. nat_lt y.before.0 m) xs) + 1 ≡ length (if c then x ∷ filter (λ y. nat_lt y.before.0 m) xs else filter (λ y. nat_lt y.before.0 m) xs)
    by false p true q = omega arith
    by true p c q = absurd (true≢false p)
    by false p false q = absurd (true≢false (sym q))
lower_set m (suc i) d (x ∷ xs) l h = by (nat_lt x.before.0 m) (lower_set m i d xs (omega (arith, l)) h)
  where
    by : (b : Bool) → lower m (slice_set xs i (record (slice_index_or xs i d) { before = record { 0 = m } })) + 1 ≡ lower m xs
        → length (if b then x ∷ filter (λ y. nat_lt y.before.0 m) (slice_set xs i (record (slice_index_or xs i d) { before = record { 0 = m } })) else filter (λ y. nat_lt y.before.0 m) (slice_set xs i (record (slice_index_or xs i d) { before = record { 0 = m } }))) + 1
        ≡ length (if b then x ∷ filter (λ y. nat_lt y.before.0 m) xs else filter (λ y. nat_lt y.before.0 m) xs)
    by true e = omega (arith, e)
    by false e = e
