-- Each sub-batch names the last batch of its epoch on its actor.
use Rattle.std.specs.Prelude.{◌≡◌, refl, ℕ, zero, suc, ◌+◌, ◌-◌, ◌<◌, ◌≤◌, ◌==◌, nat_lt, max, Bool, true, false, ◌&&◌, ◌||◌, if◌then◌else◌, List, [], ◌∷◌, ◌++◌, length, map, filter, replicate, slice_index_or, slice_set}
use Rattle.std.specs.List.{AllByRecursion, list_any}
use Rattle.std.proofs.Common.{arith, sym, ap, subst, ◌∙◌}
use Rattle.std.proofs.lemmas.List.{append-nil, get_or-set_same, get_or-set_other}
use Rattle.std.proofs.lemmas.Bool.{eqb-true, ltb-true, eqb-false, ne_eqb, eq-eqb, lt-ltb, le-ltb, and_right}
use Rattle.protocol.specs.Fixed.{Fixed, IsText}
use Rattle.protocol.specs.Parts.{Cascade, SubBatch, Batch, Ring, Machine}
use Rattle.protocol.specs.Events.{Event, Form, Arrive, Abort, DropSub}
use Rattle.protocol.specs.Words.{below, is_among, greatest, epoch_of}
use Rattle.protocol.specs.Conditions.{IsAllowed, conditions}
use Rattle.protocol.specs.Effects.{after}
use Rattle.protocol.specs.Runs.{opening, IsRun, reached}
use Rattle.protocol.specs.Contents.{RingEpoch, Lasts, NextBid, Cascades, Subs, Bids, BatchActors}
use Rattle.protocol.specs.OnRing.{with_lasts, declares, next_pacts, next_actors, first_sub}
use Rattle.protocol.specs.OnDesk.{new_declared, new_batch}
use Rattle.protocol.specs.Epochs.{is_of, NamesItsPlace, EpochsAgree}
use Rattle.protocol_laws.proofs.first.Along.{along}
use Rattle.protocol_laws.proofs.first.Frames.{frame}
use Rattle.protocol_laws.proofs.first.Times
use Rattle.protocol_laws.proofs.first.Lists.{all_filter, all_join, weaker}

-- ---- the batches of an epoch, over two lists

pub of_epoch : ℕ → ℕ → ℕ → List Cascade → List ℕ → List (List ℕ) → List ℕ
of_epoch k e a cs [] xss = []
of_epoch k e a cs (b ∷ bs) [] = []
of_epoch k e a cs (b ∷ bs) (xs ∷ xss) = if nat_lt b k && ((epoch_of b cs == e) && is_among a xs) then b ∷ of_epoch k e a cs bs xss else of_epoch k e a cs bs xss

-- the two forms say the same
pub two_lists : (k e a : ℕ) (cs : List Cascade) (bs : List Batch) → map (λ b. b.bid) (filter (is_of k e a cs) bs) ≡ of_epoch k e a cs (map (λ b. b.bid) bs) (map (λ b. map (λ p. p.actor) b.places) bs)
unfolding of_epoch
two_lists k e a cs [] = refl
two_lists k e a cs (b ∷ bs) = by (is_of k e a cs b) (two_lists k e a cs bs)
  where
    by : (q : Bool) → map (λ b. b.bid) (filter (is_of k e a cs) bs) ≡ of_epoch k e a cs (map (λ b. b.bid) bs) (map (λ b. map (λ p. p.actor) b.places) bs)
        → map (λ b. b.bid) (if q then b ∷ filter (is_of k e a cs) bs else filter (is_of k e a cs) bs) ≡ (if q then b.bid ∷ of_epoch k e a cs (map (λ b. b.bid) bs) (map (λ b. map (λ p. p.actor) b.places) bs) else of_epoch k e a cs (map (λ b. b.bid) bs) (map (λ b. map (λ p. p.actor) b.places) bs))
    by true h = rw h refl
    by false h = h

-- one batch more
pub one_more : (k e a : ℕ) (cs : List Cascade) (x : Batch) (bs : List Batch)
    → of_epoch k e a cs (map (λ b. b.bid) (bs ++ x ∷ [])) (map (λ b. map (λ p. p.actor) b.places) (bs ++ x ∷ []))
    ≡ of_epoch k e a cs (map (λ b. b.bid) bs) (map (λ b. map (λ p. p.actor) b.places) bs) ++ of_epoch k e a cs (x.bid ∷ []) (map (λ p. p.actor) x.places ∷ [])
unfolding of_epoch
one_more k e a cs x [] = refl
one_more k e a cs x (b ∷ bs) = by (is_of k e a cs b) _ _ _ (one_more k e a cs x bs)
  where
    by : (q : Bool) (ys zs new : List ℕ) → ys ≡ zs ++ new → (if q then b.bid ∷ ys else ys) ≡ (if q then b.bid ∷ zs else zs) ++ new
    by true ys zs new h = rw h refl
    by false ys zs new h = h

-- ---- the greatest of some

pub greatest_more : (ns : List ℕ) (n : ℕ) → greatest (ns ++ n ∷ []) ≡ max (greatest ns) n
greatest_more [] n = omega arith
greatest_more (x ∷ xs) n = omega (arith, greatest_more xs n)

pub greatest_below : (high : ℕ) (ns : List ℕ) → AllByRecursion (λ n. n < high) ns → greatest ns ≤ high
greatest_below high [] h = omega arith
greatest_below high (n ∷ ns) h = omega (arith, h.0, greatest_below high ns h.1)

pub of_epoch_below : (high k e a : ℕ) (cs : List Cascade) (bs : List ℕ) (xss : List (List ℕ)) → AllByRecursion (λ n. n < high) bs → AllByRecursion (λ n. n < high) (of_epoch k e a cs bs xss)
unfolding of_epoch
of_epoch_below high k e a cs [] xss h = tt
of_epoch_below high k e a cs (b ∷ bs) [] h = tt
of_epoch_below high k e a cs (b ∷ bs) (xs ∷ xss) h = by (nat_lt b k && ((epoch_of b cs == e) && is_among a xs)) (of_epoch_below high k e a cs bs xss h.1)
  where
    by : (q : Bool) → AllByRecursion (λ n. n < high) (of_epoch k e a cs bs xss) → AllByRecursion (λ n. n < high) (if q then b ∷ of_epoch k e a cs bs xss else of_epoch k e a cs bs xss)
    by true g = (h.0, g)
    by false g = g

-- ---- a bound that all batches are below does not matter

pub higher : (j k e a : ℕ) (cs : List Cascade) (bs : List ℕ) (xss : List (List ℕ)) → AllByRecursion (λ n. n < j) bs → j ≤ k → of_epoch k e a cs bs xss ≡ of_epoch j e a cs bs xss
unfolding of_epoch
higher j k e a cs [] xss h l = refl
higher j k e a cs (b ∷ bs) [] h l = refl
higher j k e a cs (b ∷ bs) (xs ∷ xss) h l = rw (lt-ltb b k (omega (arith, h.0, l)), lt-ltb b j h.0, higher j k e a cs bs xss h.1 l) refl

-- ---- epochs and one cascade more

pub epoch_more : (k : ℕ) (cs : List Cascade) (c : Cascade) → k ≤ c.upto → epoch_of k (cs ++ c ∷ []) ≡ epoch_of k cs
epoch_more k [] c h = rw (le-ltb c.upto k h) refl
epoch_more k (d ∷ cs) c h = by (nat_lt d.upto k) _ _ (epoch_more k cs c h)
  where
    by : (q : Bool) (ys zs : List Cascade) → length ys ≡ length zs → length (if q then d ∷ ys else ys) ≡ length (if q then d ∷ zs else zs)
    by true ys zs e = ap suc e
    by false ys zs e = e

pub epoch_all : (k : ℕ) (cs : List Cascade) → AllByRecursion (λ c. c.upto < k) cs → epoch_of k cs ≡ length cs
epoch_all k [] h = refl
epoch_all k (c ∷ cs) h = rw (lt-ltb c.upto k h.0, epoch_all k cs h.1) refl

pub epoch_most : (k : ℕ) (cs : List Cascade) → epoch_of k cs ≤ length cs
epoch_most k [] = omega arith
epoch_most k (c ∷ cs) = by (nat_lt c.upto k) _ (epoch_most k cs)
  where
    by : (q : Bool) (ys : List Cascade) → length ys ≤ length cs → length (if q then c ∷ ys else ys) ≤ suc (length cs)
    by true ys e = omega (arith, e)
    by false ys e = omega (arith, e)

pub cascade_more : (high k e a : ℕ) (cs : List Cascade) (c : Cascade) (bs : List ℕ) (xss : List (List ℕ)) → AllByRecursion (λ n. n < high) bs → high ≤ c.upto + 1 → of_epoch k e a (cs ++ c ∷ []) bs xss ≡ of_epoch k e a cs bs xss
unfolding of_epoch
cascade_more high k e a cs c [] xss h l = refl
cascade_more high k e a cs c (b ∷ bs) [] h l = refl
cascade_more high k e a cs c (b ∷ bs) (xs ∷ xss) h l = rw (epoch_more b cs c (omega (arith, h.0, l)), cascade_more high k e a cs c bs xss h.1 l) refl

pub none_later : (k e a : ℕ) (cs : List Cascade) (bs : List ℕ) (xss : List (List ℕ)) → length cs < e → of_epoch k e a cs bs xss ≡ []
unfolding of_epoch
none_later k e a cs [] xss h = refl
none_later k e a cs (b ∷ bs) [] h = refl
none_later k e a cs (b ∷ bs) (xs ∷ xss) h =
    rw (ne_eqb (epoch_of b cs) e (λ q. omega (arith, q, h, epoch_most b cs)), and_right (nat_lt b k) false refl, none_later k e a cs bs xss h) refl

-- ---- the ring's last batches

set_lasts : (k : ℕ) (ds lasts : List ℕ) (a : ℕ) → a < length lasts → slice_index_or (with_lasts k ds lasts) a 0 ≡ (if is_among a ds then k else slice_index_or lasts a 0)
set_lasts k [] lasts a h = refl
set_lasts k (d ∷ ds) lasts a h =
    set_lasts k ds (slice_set lasts d k) a (omega (arith, h, Times.length_set lasts d k)) ∙ by (is_among a ds) (d == a) refl
  where
    by : (p q : Bool) → (d == a) ≡ q → (if p then k else slice_index_or (slice_set lasts d k) a 0) ≡ (if q || p then k else slice_index_or lasts a 0)
    by true true e = refl
    by true false e = refl
    by false true e = let f : d ≡ a = eqb-true d a e in subst (λ z. slice_index_or (slice_set lasts z k) a 0 ≡ k) (sym f) (get_or-set_same lasts a k 0 h)
    by false false e = get_or-set_other lasts d a k 0 (λ f. eqb-false d a e (sym f))

pub length_lasts : (k : ℕ) (ds lasts : List ℕ) → length (with_lasts k ds lasts) ≡ length lasts
length_lasts k [] lasts = refl
length_lasts k (d ∷ ds) lasts = length_lasts k ds (slice_set lasts d k) ∙ Times.length_set lasts d k

none_last : (n a : ℕ) → slice_index_or (replicate n zero) a zero ≡ zero
none_last zero a = refl
none_last (suc n) zero = refl
none_last (suc n) (suc a) = none_last n a

-- ---- what is kept

pub record Names (next_bid : ℕ) (cs : List Cascade) (bs : List ℕ) (xss : List (List ℕ)) (m : SubBatch) : Type 0 where
  pub some : 1 ≤ m.bid
  pub formed : m.bid < next_bid
  pub epoch : m.epoch ≡ epoch_of m.bid cs
  pub prev : m.prev ≡ greatest (of_epoch m.bid m.epoch m.actor cs bs xss)

pub record Agree (next_bid epoch : ℕ) (cs : List Cascade) (lasts bs : List ℕ) (xss : List (List ℕ)) (subs : List SubBatch) : Type 0 where
  pub some : 1 ≤ next_bid
  pub counted : epoch ≡ length cs
  pub ended : AllByRecursion (λ c. c.upto < next_bid) cs
  pub formed : AllByRecursion (λ b. b < next_bid) bs
  pub last_is : (a : ℕ) → a < length lasts → slice_index_or lasts a 0 ≡ greatest (of_epoch next_bid epoch a cs bs xss)
  pub names : AllByRecursion (Names next_bid cs bs xss) subs

same : {nb nb' e e' : ℕ} {cs cs' : List Cascade} {ls ls' bs bs' : List ℕ} {xss xss' : List (List ℕ)} {ms ms' : List SubBatch}
    → nb' ≡ nb → e' ≡ e → cs' ≡ cs → ls' ≡ ls → bs' ≡ bs → xss' ≡ xss → ms' ≡ ms → Agree nb e cs ls bs xss ms → Agree nb' e' cs' ls' bs' xss' ms'
same a b c d e f g h = rw (a, b, c, d, e, f, g) h

-- messages leave
fewer : (nb e : ℕ) (cs : List Cascade) (ls bs : List ℕ) (xss : List (List ℕ)) (ms : List SubBatch) (p : SubBatch → Bool) → Agree nb e cs ls bs xss ms → Agree nb e cs ls bs xss (filter p ms)
fewer nb e cs ls bs xss ms p h = record { some = h.some; counted = h.counted; ended = h.ended; formed = h.formed; last_is = h.last_is; names = all_filter (Names nb cs bs xss) p ms h.names }

-- a cascade up to the last batch
cut : (nb e : ℕ) (cs : List Cascade) (c : Cascade) (ls bs : List ℕ) (xss : List (List ℕ)) (ms : List SubBatch) → c.upto ≡ nb - 1 → Agree nb e cs ls bs xss ms
    → Agree nb (e + 1) (cs ++ c ∷ []) (replicate (length ls) 0) bs xss ms
cut nb e cs c ls bs xss ms u h = record {
  some = h.some;
  counted = omega (arith, h.counted, Times.length_join cs (c ∷ []));
  ended = all_join (λ c. c.upto < nb) cs (c ∷ []) h.ended (omega (arith, u, h.some), tt);
  formed = h.formed;
  last_is = λ a q. none_last (length ls) a ∙ sym (ap greatest (cascade_more nb nb (e + 1) a cs c bs xss h.formed (omega (arith, u)) ∙ none_later nb (e + 1) a cs bs xss (omega (arith, h.counted))));
  names = weaker (Names nb cs bs xss) (Names nb (cs ++ c ∷ []) bs xss) ms (λ m g. record {
    some = g.some;
    formed = g.formed;
    epoch = g.epoch ∙ sym (epoch_more m.bid cs c (omega (arith, g.formed, u)));
    prev = g.prev ∙ ap greatest (sym (cascade_more nb m.bid m.epoch m.actor cs c bs xss h.formed (omega (arith, u))));
  }) h.names;
}

-- ---- a batch is formed

-- below the new number the new batch does not count
not_new : (k e a : ℕ) (cs : List Cascade) (x : ℕ) (ds : List ℕ) → k ≤ x → of_epoch k e a cs (x ∷ []) (ds ∷ []) ≡ []
unfolding of_epoch
not_new k e a cs x ds h = rw (le-ltb x k h) refl

-- in its own epoch it counts where it has the actor
new_counts : (k e a : ℕ) (cs : List Cascade) (ds : List ℕ) → epoch_of k cs ≡ e → of_epoch (k + 1) e a cs (k ∷ []) (ds ∷ []) ≡ (if is_among a ds then k ∷ [] else [])
unfolding of_epoch
new_counts k e a cs ds h = rw (lt-ltb k (k + 1) (omega arith), eq-eqb (epoch_of k cs) e h) refl

pub actors_of_new : (ds : List ℕ) → map (λ p. p.actor) (map new_declared ds) ≡ ds
actors_of_new [] = refl
actors_of_new (d ∷ ds) = rw (actors_of_new ds) refl

last_with : (k : ℕ) (old : ℕ) (xs : List ℕ) (b : Bool) → old ≡ greatest xs → greatest xs ≤ k → (if b then k else old) ≡ greatest (xs ++ (if b then k ∷ [] else []))
last_with k old xs true e h = omega (arith, greatest_more xs k, h)
last_with k old xs false e h = e ∙ ap greatest (sym (append-nil xs))

-- what a new message says
record IsNew (nb e : ℕ) (ls : List ℕ) (m : SubBatch) : Type 0 where
  bid : m.bid ≡ nb
  epoch : m.epoch ≡ e
  prev : m.prev ≡ slice_index_or ls m.actor 0
  actor : m.actor < length ls

bids_of : List Batch → List ℕ
bids_of bs = map (λ b. b.bid) bs

actors_of : List Batch → List (List ℕ)
actors_of bs = map (λ b. map (λ p. p.actor) b.places) bs

-- below the new number all is as it was
as_before : (j nb e a : ℕ) (cs : List Cascade) (bs : List Batch) (x : Batch) → j ≤ nb → x.bid ≡ nb
    → of_epoch j e a cs (bids_of bs) (actors_of bs) ≡ of_epoch j e a cs (bids_of (bs ++ x ∷ [])) (actors_of (bs ++ x ∷ []))
unfolding bids_of actors_of
as_before j nb e a cs bs x l q =
    let none : of_epoch j e a cs (x.bid ∷ []) (map (λ p. p.actor) x.places ∷ []) ≡ [] = not_new j e a cs x.bid (map (λ p. p.actor) x.places) (omega (arith, l, q)) in
    sym (one_more j e a cs x bs ∙ (ap (λ z. of_epoch j e a cs (map (λ b. b.bid) bs) (map (λ b. map (λ p. p.actor) b.places) bs) ++ z) none ∙ append-nil (of_epoch j e a cs (map (λ b. b.bid) bs) (map (λ b. map (λ p. p.actor) b.places) bs))))

all_bids : (nb : ℕ) (bs : List Batch) (x : Batch) → x.bid ≡ nb → AllByRecursion (λ b. b < nb) (bids_of bs) → AllByRecursion (λ b. b < nb + 1) (bids_of (bs ++ x ∷ []))
unfolding bids_of
all_bids nb [] x e h = (omega (arith, e), tt)
all_bids nb (b ∷ bs) x e h = (omega (arith, h.0), all_bids nb bs x e h.1)

-- the new number counts where the new batch has the actor
grown : (nb e a : ℕ) (cs : List Cascade) (bs : List Batch) (x : Batch) (ds : List ℕ) → x.bid ≡ nb → map (λ p. p.actor) x.places ≡ ds → epoch_of nb cs ≡ e → AllByRecursion (λ b. b < nb) (bids_of bs)
    → of_epoch (nb + 1) e a cs (bids_of (bs ++ x ∷ [])) (actors_of (bs ++ x ∷ [])) ≡ of_epoch nb e a cs (bids_of bs) (actors_of bs) ++ (if is_among a ds then nb ∷ [] else [])
unfolding bids_of actors_of
grown nb e a cs bs x ds eb ea own formed =
    one_more (nb + 1) e a cs x bs
    ∙ (ap (λ z. z ++ of_epoch (nb + 1) e a cs (x.bid ∷ []) (map (λ p. p.actor) x.places ∷ [])) (higher nb (nb + 1) e a cs (map (λ b. b.bid) bs) (map (λ b. map (λ p. p.actor) b.places) bs) formed (omega arith))
    ∙ ap (λ z. of_epoch nb e a cs (map (λ b. b.bid) bs) (map (λ b. map (λ p. p.actor) b.places) bs) ++ z) (rw (eb, ea) (new_counts nb e a cs ds own)))

form : (nb e : ℕ) (cs : List Cascade) (ls : List ℕ) (bs : List Batch) (x : Batch) (ds : List ℕ) (ms news : List SubBatch) → x.bid ≡ nb → map (λ p. p.actor) x.places ≡ ds
    → AllByRecursion (IsNew nb e ls) news → Agree nb e cs ls (bids_of bs) (actors_of bs) ms
    → Agree (nb + 1) e cs (with_lasts nb ds ls) (bids_of (bs ++ x ∷ [])) (actors_of (bs ++ x ∷ [])) (ms ++ news)
form nb e cs ls bs x ds ms news eb ea new h =
    let own : epoch_of nb cs ≡ e = epoch_all nb cs h.ended ∙ sym h.counted in
    record {
      some = omega arith;
      counted = h.counted;
      ended = weaker (λ c. c.upto < nb) (λ c. c.upto < nb + 1) cs (λ c l. omega (arith, l)) h.ended;
      formed = all_bids nb bs x eb h.formed;
      last_is = λ a q. last_of a (omega (arith, q, length_lasts nb ds ls)) own;
      names = all_join (Names (nb + 1) cs (bids_of (bs ++ x ∷ [])) (actors_of (bs ++ x ∷ []))) ms news
          (weaker (Names nb cs (bids_of bs) (actors_of bs)) _ ms (λ m g. record {
            some = g.some;
            formed = omega (arith, g.formed);
            epoch = g.epoch;
            prev = g.prev ∙ ap greatest (as_before m.bid nb m.epoch m.actor cs bs x (omega (arith, g.formed)) eb);
          }) h.names)
          (weaker (IsNew nb e ls) _ news (λ m g. record {
            some = omega (arith, g.bid, h.some);
            formed = omega (arith, g.bid);
            epoch = g.epoch ∙ (sym own ∙ ap (λ z. epoch_of z cs) (sym g.bid));
            prev = g.prev ∙ (h.last_is m.actor g.actor ∙ (ap greatest (as_before nb nb e m.actor cs bs x (omega arith) eb) ∙ same_bounds m.actor nb m.bid e m.epoch (sym g.bid) (sym g.epoch)));
          }) new);
    }
  where
    same_bounds : (a j k d f : ℕ) → j ≡ k → d ≡ f → greatest (of_epoch j d a cs (bids_of (bs ++ x ∷ [])) (actors_of (bs ++ x ∷ []))) ≡ greatest (of_epoch k f a cs (bids_of (bs ++ x ∷ [])) (actors_of (bs ++ x ∷ [])))
    same_bounds a j k d f p q = rw (p, q) refl

    last_of : (a : ℕ) → a < length ls → epoch_of nb cs ≡ e → slice_index_or (with_lasts nb ds ls) a 0 ≡ greatest (of_epoch (nb + 1) e a cs (bids_of (bs ++ x ∷ [])) (actors_of (bs ++ x ∷ [])))
    last_of a q own =
        let old = of_epoch nb e a cs (bids_of bs) (actors_of bs) in
        let all_below = greatest_below nb old (of_epoch_below nb nb e a cs (bids_of bs) (actors_of bs) h.formed) in
        set_lasts nb ds ls a q ∙ (last_with nb (slice_index_or ls a 0) old (is_among a ds) (h.last_is a q) all_below ∙ ap greatest (sym (grown nb e a cs bs x ds eb ea own h.formed)))

-- ---- over states

unfoldable pub Agreeing : {C : Type 0} → Machine C → Type 0
Agreeing s = Agree s.ring.next_bid s.ring.epoch s.book.cascades s.ring.lasts (map (λ b. b.bid) s.desk.batches) (map (λ b. map (λ p. p.actor) b.places) s.desk.batches) s.post.subs

pub below_all : (n : ℕ) → AllByRecursion (λ a. a < n) (below n)
below_all zero = tt
below_all (suc n) = all_join (λ a. a < suc n) (below n) (n ∷ []) (weaker (λ a. a < n) (λ a. a < suc n) (below n) (λ a h. omega (arith, h)) (below_all n)) (omega arith, tt)

new_subs : {C : Type 0} (w : Fixed C) (k : ℕ) (r : Ring) (some : List ℕ) → k ≡ r.next_bid → AllByRecursion (λ a. a < length r.lasts) some → AllByRecursion (IsNew r.next_bid r.epoch r.lasts) (map (first_sub w.text k r) some)
new_subs w k r [] e h = tt
new_subs w k r (a ∷ some) e h = (record { bid = e; epoch = refl; prev = refl; actor = h.0 }, new_subs w k r some e h.1)

pub kept : {C : Type 0} (w : Fixed C) (e : Event) (s : Machine C) → IsAllowed w e s → Agreeing s → Agreeing (after w e s)
unfolding Agreeing bids_of actors_of conditions after
kept w (Form k) s ok h =
    let q : k ≡ s.ring.next_bid = eqb-true k s.ring.next_bid ok.0 in
    let f = form s.ring.next_bid s.ring.epoch s.book.cascades s.ring.lasts s.desk.batches (new_batch k (next_actors w.text s.ring) (next_pacts w.text s.ring)) (next_actors w.text s.ring) s.post.subs (map (first_sub w.text k s.ring) (next_actors w.text s.ring)) q (actors_of_new (next_actors w.text s.ring))
    (new_subs w k s.ring (next_actors w.text s.ring) q (all_filter (λ a. a < length s.ring.lasts) (λ a. list_any (declares w.text a) (next_pacts w.text s.ring)) (below (length s.ring.lasts)) (below_all (length s.ring.lasts)))) h in
    subst (λ z. Agree (s.ring.next_bid + 1) s.ring.epoch s.book.cascades (with_lasts z (next_actors w.text s.ring) s.ring.lasts) (map (λ b. b.bid) (after w (Form k) s).desk.batches) (map (λ b. map (λ p. p.actor) b.places) (after w (Form k) s).desk.batches) (after w (Form k) s).post.subs) (sym q) f
kept w (Arrive k a) s ok h = fewer _ _ _ _ _ _ s.post.subs _ h
kept w (DropSub k a) s ok h = fewer _ _ _ _ _ _ s.post.subs _ h
kept w (Abort k) s ok h =
    rw (frame w (Abort k) s Bids refl, frame w (Abort k) s BatchActors refl)
    (cut s.ring.next_bid s.ring.epoch s.book.cascades _ s.ring.lasts _ _ s.post.subs refl h)
kept w e s ok h = same (frame w e s NextBid refl) (frame w e s RingEpoch refl) (frame w e s Cascades refl) (frame w e s Lasts refl) (frame w e s Bids refl) (frame w e s BatchActors refl) (frame w e s Subs refl) h

pub opened : {C : Type 0} (w : Fixed C) → IsText w.text → Agreeing (opening w)
unfolding Agreeing of_epoch
opened w text = record { some = text.bids; counted = refl; ended = tt; formed = tt; last_is = λ a q. none_last (length w.text.opening.states) a; names = tt }

pub epochs_agree : {C : Type 0} (w : Fixed C) (es : List Event) → IsText w.text → IsRun w es → EpochsAgree w (reached w es)
unfolding Agreeing
epochs_agree w es text run =
    let h : Agreeing (reached w es) = along w Agreeing (kept w) es (opening w) run (opened w text) in
    let s = reached w es in
    record {
      counted = h.counted;
      ended = h.ended;
      lasts = λ a q. h.last_is a q ∙ ap greatest (sym (two_lists s.ring.next_bid s.ring.epoch a s.book.cascades s.desk.batches));
      subs = weaker _ (NamesItsPlace s) s.post.subs (λ m g. record {
        formed = g.formed;
        epoch = g.epoch;
        prev = g.prev ∙ ap greatest (sym (two_lists m.bid m.epoch m.actor s.book.cascades s.desk.batches));
      }) h.names;
    }

-- ---- for other files

pub NamesIn : {C : Type 0} → Machine C → SubBatch → Type 0
NamesIn s = Names s.ring.next_bid s.book.cascades (map (λ b. b.bid) s.desk.batches) (map (λ b. map (λ p. p.actor) b.places) s.desk.batches)

pub names_in : {C : Type 0} (s : Machine C) → Agreeing s → AllByRecursion (NamesIn s) s.post.subs
unfolding Agreeing NamesIn
names_in s h = h.names

pub named : {C : Type 0} (s : Machine C) (m : SubBatch) → NamesIn s m → (m.bid < s.ring.next_bid) × (m.epoch ≡ epoch_of m.bid s.book.cascades)
unfolding NamesIn
named s m h = (h.formed, h.epoch)

pub greatest_less : (high : ℕ) (ns : List ℕ) → 1 ≤ high → AllByRecursion (λ n. n < high) ns → greatest ns < high
greatest_less high [] l h = omega (arith, l)
greatest_less high (n ∷ ns) l h = omega (arith, h.0, greatest_less high ns l h.1)

of_epoch_less : (k e a : ℕ) (cs : List Cascade) (bs : List ℕ) (xss : List (List ℕ)) → AllByRecursion (λ n. n < k) (of_epoch k e a cs bs xss)
unfolding of_epoch
of_epoch_less k e a cs [] xss = tt
of_epoch_less k e a cs (b ∷ bs) [] = tt
of_epoch_less k e a cs (b ∷ bs) (xs ∷ xss) = by (nat_lt b k) refl ((epoch_of b cs == e) && is_among a xs) (of_epoch_less k e a cs bs xss)
  where
    by : (p : Bool) → nat_lt b k ≡ p → (q : Bool) → AllByRecursion (λ n. n < k) (of_epoch k e a cs bs xss) → AllByRecursion (λ n. n < k) (if p && q then b ∷ of_epoch k e a cs bs xss else of_epoch k e a cs bs xss)
    by true f true g = (ltb-true b k f, g)
    by true f false g = g
    by false f q g = g

-- the one before is smaller
pub prev_less : {C : Type 0} (s : Machine C) (m : SubBatch) → NamesIn s m → m.prev < m.bid
unfolding NamesIn
prev_less s m h = subst (λ z. z < m.bid) (sym h.prev) (greatest_less m.bid _ h.some (of_epoch_less m.bid m.epoch m.actor s.book.cascades (map (λ b. b.bid) s.desk.batches) (map (λ b. map (λ p. p.actor) b.places) s.desk.batches)))

pub bids_below : {C : Type 0} (s : Machine C) → Agreeing s → AllByRecursion (λ b. b < s.ring.next_bid) (map (λ b. b.bid) s.desk.batches)
unfolding Agreeing
bids_below s h = h.formed
