-- Who is given up by an arrival, an ask or a cascade stands on an actor still, so it is live, and its reply is listed with those of the live ACTs.
use Rattle.std.specs.Prelude.{◌≡◌, refl, ℕ, suc, ◌<◌, ◌≤◌, ◌==◌, nat_le, max, not, Bool, true, false, ◌&&◌, ◌||◌, if◌then◌else◌, is_some, Option, Some, None, List, [], ◌∷◌, ◌++◌, length, map, filter, Contains}
use Rattle.std.specs.List.{list_any, list_all}
use Rattle.std.proofs.Common.{arith, sym, ap, subst, inl, inr, ◌∙◌}
use Rattle.std.proofs.lemmas.Bool.{eqb-true, eq-eqb, and_parts, false≢true, leb-true}
use Rattle.snap_base.proofs.Booleans.{not_so}
use Rattle.book_part.specs.Listed.{live_tids}
use Rattle.ready_listing.proofs.Lists.{first_of_all, in_flat_map}
use Rattle.protocol.specs.Events.{Reply}
use Rattle.protocol.specs.Numbers.{times}
use Rattle.protocol.specs.OnBook as book
use Rattle.protocol.specs.Conditions.{is_given_up}
use Rattle.protocol.specs.Parts.{Status, Live, Doomed, Decided, Sealed, Joined, Act, Book, OfAct, Pair}
use Rattle.protocol.specs.Spread.{raised, carried, reaches, is_crossed, crossed_out, doomed_by_order}
use Rattle.protocol.specs.Words.{is_empty, holds, act_of, is_doomed, is_sealed, is_live_status, is_live_act}
use Rattle.protocol_ready.proofs.Listing.{Has, from_has, to_has, has_map, has_filter, any_of}
use Rattle.protocol_records.specs.Overs.{EndsWhole}
use Rattle.book_part.specs.order_book.Asked.{tx_of}
use Rattle.ready_news.specs.GivenUp.{given_up_tids}
use Rattle.ready_news.specs.InAnswers.{replies_of, of_tx, of_given_up}
use Rattle.ready_news.proofs.Cascading.{falls}

-- ---- one ACT of a tid

more_times : (b : Bool) (x : ℕ) (xs : List ℕ) → length xs ≤ length (if b then x ∷ xs else xs)
more_times true x xs = omega arith
more_times false x xs = omega arith

one_time : (b : Bool) (x : ℕ) (xs : List ℕ) → b ≡ true → length (if b then x ∷ xs else xs) ≡ suc (length xs)
one_time true x xs e = refl
one_time false x xs e = not_so e

has_times : (xs : List Act) (x : Act) → Has xs x → 1 ≤ times x.tid (map (λ y. y.tid) xs)
has_times [] x h = absurd h
has_times (y ∷ ys) x (inl e) = omega (arith, one_time (y.tid == x.tid) y.tid (filter (λ n. n == x.tid) (map (λ y. y.tid) ys)) (eq-eqb y.tid x.tid (ap (λ z. z.tid) e)))
has_times (y ∷ ys) x (inr g) = omega (arith, more_times (y.tid == x.tid) y.tid (filter (λ n. n == x.tid) (map (λ y. y.tid) ys)), has_times ys x g)

pub found_is : (xs : List Act) (x : Act) → times x.tid (map (λ y. y.tid) xs) ≤ 1 → Has xs x → act_of x.tid xs ≡ Some x
found_is [] x once h = absurd h
found_is (y ∷ ys) x once (inl e) = rw (eq-eqb y.tid x.tid (ap (λ z. z.tid) e)) (ap Some e)
found_is (y ∷ ys) x once (inr g) = by (y.tid == x.tid) refl once (λ l. found_is ys x l g)
  where
    by : (c : Bool) → (y.tid == x.tid) ≡ c → length (if c then y.tid ∷ filter (λ n. n == x.tid) (map (λ y. y.tid) ys) else filter (λ n. n == x.tid) (map (λ y. y.tid) ys)) ≤ 1 → (times x.tid (map (λ y. y.tid) ys) ≤ 1 → act_of x.tid ys ≡ Some x) → (if c then Some y else act_of x.tid ys) ≡ Some x
    by true e l k = absurd (omega (arith, l, has_times ys x g))
    by false e l k = k l

pub from_map : {X Y : Type 0} (f : X → Y) (xs : List X) (y : Y) → Has (map f xs) y → (x : X) × (Has xs x × (f x ≡ y))
from_map f [] y h = absurd h
from_map f (x ∷ xs) y (inl e) = (x, (inl refl, e))
from_map f (x ∷ xs) y (inr h) = let r = from_map f xs y h in (r.0, (inr r.1.0, r.1.1))

from_raised : (ps : List Pair) (xs : List Act) (y : Act) → Has (raised ps xs) y → (x : Act) × (Has xs x × ((k : ℕ) × (record x { m = max x.m k } ≡ y)))
from_raised ps [] y h = absurd h
from_raised ps (x ∷ xs) y (inl e) = (x, (inl refl, (carried ps x (raised ps xs), e)))
from_raised ps (x ∷ xs) y (inr h) = let r = from_raised ps xs y h in (r.0, (inr r.1.0, r.1.1))

-- ---- who is live and given up is listed

-- an ACT that is live and given up, of which a test holds
pub record Fallen (b : Book) (test : Act → Bool) : Type 0 where
  pub it : Act
  pub has : Has b.acts it
  pub doomed : is_doomed it.status ≡ true
  pub lives : is_live_act it ≡ true
  pub does : test it ≡ true

-- its tid is among those that are gone through, and it is found to be given up
pub fallen_found : (b : Book) (x : Act) → times x.tid (map (λ y. y.tid) b.acts) ≤ 1 → Has b.acts x → is_doomed x.status ≡ true → is_live_act x ≡ true → Contains (live_tids b) x.tid × (holds (λ y. is_doomed y.status) (act_of x.tid b.acts) ≡ true)
fallen_found b x once h d l = (from_has (live_tids b) x.tid (has_map (λ y. y.tid) (filter is_live_act b.acts) x (has_filter is_live_act b.acts x h l)), ap (holds (λ y. is_doomed y.status)) (found_is b.acts x once h) ∙ d)

doomed_listed : (b : Book) (n : ℕ) (f : Fallen b (λ x. x.tx == n)) → times f.it.tid (map (λ y. y.tid) b.acts) ≤ 1 → Contains (of_given_up b) (Reply n)
doomed_listed b n f once =
    let x = f.it in
    let found = fallen_found b x once f.has f.doomed f.lives in
    let tid : Contains (given_up_tids b) x.tid = from_has (given_up_tids b) x.tid (has_filter (λ t. is_given_up (OfAct t) b) (live_tids b) x.tid (to_has (live_tids b) x.tid found.0) found.1) in
    let reply : Contains (of_tx b x.tid) (Reply x.tx) = subst (λ o. Contains (replies_of (tx_of o)) (Reply x.tx)) (sym (found_is b.acts x once f.has)) (first_of_all [] (Reply x.tx)) in
    subst (λ m. Contains (of_given_up b) (Reply m)) (eqb-true x.tx n f.does) (in_flat_map (of_tx b) (given_up_tids b) x.tid (Reply x.tx) tid reply)

-- ---- who is live and stands somewhere has not left all its actors

unfinished : (x : Act) → EndsWhole x → is_live_status x.status ≡ true → is_empty x.places ≡ false → list_all (λ p. p.finished) x.places ≡ false
unfinished x ends l p = by (list_all (λ p. p.finished) x.places) refl
  where
    goes_on : (st : Status) → is_live_status st ≡ true → (is_doomed st || is_sealed st) ≡ true → ⊥
    goes_on Live h e = false≢true e
    goes_on (Doomed v) h e = false≢true h
    goes_on (Decided c) h e = false≢true h
    goes_on (Sealed c) h e = false≢true h

    by : (c : Bool) → list_all (λ p. p.finished) x.places ≡ c → c ≡ false
    by false e = refl
    by true e = absurd (goes_on x.status l (ends.left (ap (λ c. not (if c then is_doomed x.status else list_all (λ p. p.finished) x.places)) p ∙ ap not e)))

lives : (x : Act) → is_empty x.places ≡ false → list_all (λ p. p.finished) x.places ≡ false → is_live_act x ≡ true
lives x p f = ap (λ c. not (if c then is_doomed x.status else list_all (λ p. p.finished) x.places)) p ∙ ap not f

none_finished : (a : ℕ) (ps : List Joined) → (is_empty (ps ++ record { actor = a; prepared = false; vouched = false; finished = false } ∷ []) ≡ false) × (list_all (λ p. p.finished) (ps ++ record { actor = a; prepared = false; vouched = false; finished = false } ∷ []) ≡ false)
none_finished a [] = (refl, refl)
none_finished a (p ∷ ps) = (refl, by p.finished (none_finished a ps).1)
  where
    by : (c : Bool) → list_all (λ p. p.finished) (ps ++ record { actor = a; prepared = false; vouched = false; finished = false } ∷ []) ≡ false → (c && list_all (λ p. p.finished) (ps ++ record { actor = a; prepared = false; vouched = false; finished = false } ∷ [])) ≡ false
    by true e = e
    by false e = refl

-- ---- who crosses

-- what holds of the ACTs before the event: who is live with an after number has a smaller before number, and an actor
pub record Known (acts : List Act) : Type 0 where
  pub once : (t : ℕ) → times t (map (λ y. y.tid) acts) ≤ 1
  pub ends : (t : ℕ) (x : Act) → act_of t acts ≡ Some x → EndsWhole x
  pub numbers : (t j : ℕ) (x : Act) → act_of t acts ≡ Some x → is_live_status x.status ≡ true → x.n ≡ Some j → (x.m < j) × (is_empty x.places ≡ false)

pub numbered : (m : ℕ) (o : Option ℕ) → reaches m o ≡ true → (j : ℕ) × ((o ≡ Some j) × (j ≤ m))
numbered m None h = not_so h
numbered m (Some j) h = (j, (refl, leb-true j m h))

-- of an ACT as it is after the event, made of one as it was: it crosses
abbrev pub crosses_as : Act → Act → Type 0
crosses_as x y = (x.tid ≡ y.tid) × ((x.status ≡ y.status) × (x.places ≡ y.places))

-- it crosses with these actors, none of which left
out_lives : (a : ℕ) (y : Act) → is_crossed y ≡ true → is_empty y.places ≡ false → list_all (λ p. p.finished) y.places ≡ false → (is_doomed (crossed_out a y).status ≡ true) × (is_live_act (crossed_out a y) ≡ true)
out_lives a y c p f = (rw c refl, lives (crossed_out a y) p f)

module _ (acts : List Act) (known : Known acts) (k a : ℕ) (tids : List ℕ) (after : Book) (is_after : after.acts ≡ doomed_by_order a (map (book.lowered k tids) acts)) (once : (t : ℕ) → times t (map (λ y. y.tid) after.acts) ≤ 1)
    (stands : (x : Act) → Rattle.protocol.specs.Words.is_among x.tid tids ≡ true → act_of x.tid acts ≡ Some x → is_empty x.places ≡ false) where
  -- by an arrival
  pub arrival_fallen : (test : Act → Bool) → ((y : Act) → test (crossed_out a y) ≡ test y) → list_any (λ x. is_crossed x && test x) (map (book.lowered k tids) acts) ≡ true → Fallen after test
  arrival_fallen test same h =
      let y = any_of (λ x. is_crossed x && test x) (map (book.lowered k tids) acts) h in
      let parts = and_parts (is_crossed y.it) (test y.it) y.does in
      let x = from_map (book.lowered k tids) acts y.it y.has in
      one x.0 x.1.0 (subst (λ z. is_crossed z ≡ true) (sym x.1.1) parts.0) (subst (λ z. test z ≡ true) (sym x.1.1) parts.1)
    where
      one : (x : Act) → Has acts x → is_crossed (book.lowered k tids x) ≡ true → test (book.lowered k tids x) ≡ true → Fallen after test
      one x has c e =
          let found = found_is acts x (known.once x.tid) has in
          let live = and_parts (is_live_status x.status) (reaches x.m (book.lowered k tids x).n) c in
          let placed : is_empty x.places ≡ false = by (Rattle.protocol.specs.Words.is_among x.tid tids) refl live.1 in
          let out = out_lives a (book.lowered k tids x) c placed (unfinished x (known.ends x.tid x found) live.0 placed) in
          record {
            it = crossed_out a (book.lowered k tids x);
            has = subst (λ xs. Has xs (crossed_out a (book.lowered k tids x))) (sym is_after) (has_map (crossed_out a) (map (book.lowered k tids) acts) (book.lowered k tids x) (has_map (book.lowered k tids) acts x has));
            doomed = out.0;
            lives = out.1;
            does = same (book.lowered k tids x) ∙ e;
          }
        where
          by : (c : Bool) → Rattle.protocol.specs.Words.is_among x.tid tids ≡ c → reaches x.m (if c then Some (Rattle.protocol.specs.Words.least_of k x.n) else x.n) ≡ true → is_empty x.places ≡ false
          by true q r = stands x q (found_is acts x (known.once x.tid) has)
          by false q r =
              let j = numbered x.m x.n r in
              let low = known.numbers x.tid j.0 x (found_is acts x (known.once x.tid) has) (and_parts (is_live_status x.status) (reaches x.m (book.lowered k tids x).n) c).0 j.1.0 in
              low.1

  pub arrival_listed : (n : ℕ) → list_any (λ x. is_crossed x && (x.tx == n)) (map (book.lowered k tids) acts) ≡ true → Contains (of_given_up after) (Reply n)
  arrival_listed n h = let f = arrival_fallen (λ x. x.tx == n) (λ y. refl) h in doomed_listed after n f (once f.it.tid)

module _ (acts : List Act) (known : Known acts) (ps : List Pair) (t a m : ℕ) (after : Book) (is_after : after.acts ≡ doomed_by_order a (raised ps (book.changed_act t (book.joins a m) acts))) (once : (t : ℕ) → times t (map (λ y. y.tid) after.acts) ≤ 1) where
  -- by an ask
  pub ask_fallen : (test : Act → Bool) → ((y : Act) → test (crossed_out a y) ≡ test y) → list_any (λ x. is_crossed x && test x) (raised ps (book.changed_act t (book.joins a m) acts)) ≡ true → Fallen after test
  ask_fallen test same h =
      let changed = book.changed_act t (book.joins a m) acts in
      let y = any_of (λ x. is_crossed x && test x) (raised ps changed) h in
      let parts = and_parts (is_crossed y.it) (test y.it) y.does in
      let x = from_raised ps changed y.it y.has in
      let z = from_map (λ x. book.change_if (x.tid == t) (book.joins a m) x) acts x.0 x.1.0 in
      let live : is_live_status x.0.status ≡ true = subst (λ v. is_live_status v.status ≡ true) (sym x.1.1.1) (and_parts (is_live_status y.it.status) (reaches y.it.m y.it.n) parts.0).0 in
      let some : is_some x.0.n ≡ true = subst (λ v. is_some v.n ≡ true) (sym x.1.1.1) (reached_some y.it.m y.it.n (and_parts (is_live_status y.it.status) (reaches y.it.m y.it.n) parts.0).1) in
      let stands = placed z.0 z.1.0 (z.0.tid == t) x.0 z.1.1 live some in
      let out = out_lives a y.it parts.0 (subst (λ v. is_empty v.places ≡ false) x.1.1.1 stands.0) (subst (λ v. list_all (λ p. p.finished) v.places ≡ false) x.1.1.1 stands.1) in
      record {
        it = crossed_out a y.it;
        has = subst (λ xs. Has xs (crossed_out a y.it)) (sym is_after) (has_map (crossed_out a) (raised ps changed) y.it y.has);
        doomed = out.0;
        lives = out.1;
        does = same y.it ∙ parts.1;
      }
    where
      reached_some : (m : ℕ) (o : Option ℕ) → reaches m o ≡ true → is_some o ≡ true
      reached_some m None h = h
      reached_some m (Some j) h = refl

      some_is : (o : Option ℕ) → is_some o ≡ true → (j : ℕ) × (o ≡ Some j)
      some_is None h = not_so h
      some_is (Some j) h = (j, refl)

      placed : (z : Act) → Has acts z → (c : Bool) → (x : Act) → book.change_if c (book.joins a m) z ≡ x → is_live_status x.status ≡ true → is_some x.n ≡ true → (is_empty x.places ≡ false) × (list_all (λ p. p.finished) x.places ≡ false)
      placed z has true x e l s = subst (λ v. (is_empty v.places ≡ false) × (list_all (λ p. p.finished) v.places ≡ false)) e (none_finished a z.places)
      placed z has false x e l s =
          let found = found_is acts z (known.once z.tid) has in
          let live = subst (λ v. is_live_status v.status ≡ true) (sym e) l in
          let j = some_is z.n (subst (λ v. is_some v.n ≡ true) (sym e) s) in
          let p = (known.numbers z.tid j.0 z found live j.1).1 in
          subst (λ v. (is_empty v.places ≡ false) × (list_all (λ p. p.finished) v.places ≡ false)) e (p, unfinished z (known.ends z.tid z found) live p)

  pub ask_listed : (n : ℕ) → list_any (λ x. is_crossed x && (x.tx == n)) (raised ps (book.changed_act t (book.joins a m) acts)) ≡ true → Contains (of_given_up after) (Reply n)
  ask_listed n h = let f = ask_fallen (λ x. x.tx == n) (λ y. refl) h in doomed_listed after n f (once f.it.tid)

falls_doomed : (k by : ℕ) (x : Act) → falls k x ≡ true → is_doomed (book.cascaded k by x).status ≡ true
falls_doomed k by x h = rw h refl

module _ (acts : List Act) (known : Known acts) (base k by n : ℕ) (low : (t : ℕ) (x : Act) → act_of t acts ≡ Some x → is_empty x.places ≡ true → x.m ≡ base) (above : base < k) (after : Book) (is_after : after.acts ≡ map (book.cascaded k by) acts)
    (once : (t : ℕ) → times t (map (λ y. y.tid) after.acts) ≤ 1) where
  -- by a cascade
  pub fallen_listed : list_any (λ x. falls k x && (x.tx == n)) acts ≡ true → Contains (of_given_up after) (Reply n)
  fallen_listed h =
      let x = any_of (λ x. falls k x && (x.tx == n)) acts h in
      let parts = and_parts (falls k x.it) (x.it.tx == n) x.does in
      let live = and_parts (is_live_status x.it.status) (nat_le k x.it.m) parts.0 in
      let found = found_is acts x.it (known.once x.it.tid) x.has in
      let placed = joined x.it found (leb-true k x.it.m live.1) (is_empty x.it.places) refl in
      let there : Has after.acts (book.cascaded k by x.it) = subst (λ xs. Has xs (book.cascaded k by x.it)) (sym is_after) (has_map (book.cascaded k by) acts x.it x.has) in
      let lives = lives (book.cascaded k by x.it) placed (unfinished x.it (known.ends x.it.tid x.it found) live.0 placed) in
      doomed_listed after n (record { it = book.cascaded k by x.it; has = there; doomed = falls_doomed k by x.it parts.0; lives = lives; does = parts.1 }) (once x.it.tid)
    where
      -- one that joined no actor has the number that all begin with
      joined : (x : Act) → act_of x.tid acts ≡ Some x → k ≤ x.m → (c : Bool) → is_empty x.places ≡ c → c ≡ false
      joined x found high false e = refl
      joined x found high true e = absurd (omega (arith, low x.tid x found e, above, high))
