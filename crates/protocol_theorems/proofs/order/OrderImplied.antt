-- Explained transactions whose states link, and whose places rise on each actor, are serial in the order of places.
use Rattle.std.specs.Prelude.{◌≡◌, refl, ℕ, zero, suc, ◌<◌, Bool, true, false, ◌&&◌, ◌⊎◌, if◌then◌else◌, Option, Some, None, is_some, List, [], ◌∷◌, ◌++◌, length, map, slice_index_or}
use Rattle.std.specs.List.{AllByRecursion}
use Rattle.std.proofs.Common.{arith, sym, ap, subst, inl, inr, ◌∙◌}
use Rattle.std.proofs.lemmas.Bool.{cases_Bool, and_parts, and_from, true≢false}
use Rattle.snap_base.specs.declared.transactions.State.{State}
use Rattle.protocol.specs.Fixed.{Fixed, tx_at}
use Rattle.protocol.specs.Facts.{Alone, alone, serial, state_in}
use Rattle.protocol.specs.Parts.{Cell, Machine}
use Rattle.protocol.specs.Words.{is_value}
use Rattle.protocol.specs.Effects.{no_cell}
use Rattle.protocol.specs.History.{View, Done, History}
use Rattle.protocol_laws.specs.Commits.{Finds, left_as, left_of, StatesLink, last_state}
use Rattle.protocol.specs.Chains.{chain, by_place, put_by_place, is_place_below, RivalsRise, txs_of, serial_run}
use Rattle.protocol_laws.specs.Linked.{came_to, visitors, Agrees, IsExplained}
use Rattle.protocol_theorems.specs.Order.{LeavesIt, Shuffled, Nobody, Put, OrderFacts, QuietFacts, OrderStands, OrderHolds}
use Rattle.protocol_theorems.proofs.order.Worlds.{same_world}
use Rattle.protocol_theorems.proofs.order.ByPlace.{all_sorted, rises_sorted}
use Rattle.protocol_laws.proofs.first.Times.{length_map}
use Rattle.protocol_laws.proofs.first.Lists.{all_filter}

-- ---- linked transactions are serial in this order

unfoldable pub LinkedFrom : List State → List Done → Type 0
LinkedFrom world ds = (a : ℕ) → a < length world → StatesLink a (state_in world a) ds

-- on the world that the first one leaves the others link
rest_linked : (d : Done) (ds : List Done) (world new : List State) → length new ≡ length world → ((a : ℕ) → a < length world → state_in new a ≡ left_of a d (state_in world a)) → LinkedFrom world (d ∷ ds) → LinkedFrom new ds
unfolding LinkedFrom
rest_linked d ds world new n e l = λ a k.
    let i : a < length world = omega (arith, k, n) in
    subst (λ s. StatesLink a s ds) (sym (e a i)) (l a i).1

agrees : (d : Done) (ds : List Done) (world : List State) → LinkedFrom world (d ∷ ds) → Agrees d.views world
unfolding LinkedFrom
agrees d ds world l = λ a k. (l a k).0

pub serial_results : {C : Type 0} (w : Fixed C) (finish : C → List State → Alone) (ds : List Done) (world : List State) → length world ≡ length w.text.opening.states
    → AllByRecursion (IsExplained w finish) ds → LinkedFrom world ds → map Some (serial w.code finish world (txs_of w ds)).results ≡ map (λ d. d.result) ds
serial_results w finish [] world n e l = refl
serial_results w finish (d ∷ ds) world n e l =
    let once = e.0 world n (agrees d ds world l) in
    let first = alone w.code finish world (tx_at w.text d.tx) in
    ap (λ r. r ∷ map Some (serial w.code finish first.world (txs_of w ds)).results) once.result
    ∙ ap (λ rs. d.result ∷ rs) (serial_results w finish ds first.world (once.as_many ∙ n) e.1 (rest_linked d ds world first.world once.as_many once.leaves l))

pub serial_length : {C : Type 0} (w : Fixed C) (finish : C → List State → Alone) (ds : List Done) (world : List State) → length world ≡ length w.text.opening.states
    → AllByRecursion (IsExplained w finish) ds → LinkedFrom world ds → length (serial w.code finish world (txs_of w ds)).world ≡ length world
serial_length w finish [] world n e l = refl
serial_length w finish (d ∷ ds) world n e l =
    let once = e.0 world n (agrees d ds world l) in
    let first = alone w.code finish world (tx_at w.text d.tx) in
    serial_length w finish ds first.world (once.as_many ∙ n) e.1 (rest_linked d ds world first.world once.as_many once.leaves l) ∙ once.as_many

pub serial_states : {C : Type 0} (w : Fixed C) (finish : C → List State → Alone) (ds : List Done) (world : List State) → length world ≡ length w.text.opening.states
    → AllByRecursion (IsExplained w finish) ds → LinkedFrom world ds → (a : ℕ) → a < length world → state_in (serial w.code finish world (txs_of w ds)).world a ≡ last_state a (state_in world a) ds
serial_states w finish [] world n e l a k = refl
serial_states w finish (d ∷ ds) world n e l a k =
    let once = e.0 world n (agrees d ds world l) in
    let first = alone w.code finish world (tx_at w.text d.tx) in
    serial_states w finish ds first.world (once.as_many ∙ n) e.1 (rest_linked d ds world first.world once.as_many once.leaves l) a (omega (arith, k, once.as_many))
    ∙ ap (λ s. last_state a s ds) (once.leaves a k)

-- ---- only those that came there count

pub no_view : (o : Option View) → is_some o ≡ false → o ≡ None
no_view None e = refl
no_view (Some v) e = absurd (true≢false e)

pub left_none : (b : Bool) (s : State) → left_as b None s ≡ s
left_none true s = refl
left_none false s = refl

pub passes : (a : ℕ) (d : Done) (s : State) → came_to a d ≡ false → left_of a d s ≡ s
passes a d s e = ap (λ o. left_as (is_value d.result) o s) (no_view (d.views a) e) ∙ left_none (is_value d.result) s

pub links_visitors : (a : ℕ) (s : State) (ds : List Done) → StatesLink a s ds → StatesLink a s (visitors a ds)
links_visitors a s [] l = tt
links_visitors a s (d ∷ ds) l = by (came_to a d) refl (links_visitors a (left_of a d s) ds l.1)
  where
    by : (b : Bool) → came_to a d ≡ b → StatesLink a (left_of a d s) (visitors a ds) → StatesLink a s (if b then d ∷ visitors a ds else visitors a ds)
    by true e h = (l.0, h)
    by false e h = subst (λ t. StatesLink a t (visitors a ds)) (passes a d s e) h

pub visitors_link : (a : ℕ) (s : State) (ds : List Done) → StatesLink a s (visitors a ds) → StatesLink a s ds
visitors_link a s [] l = tt
visitors_link a s (d ∷ ds) l = by (came_to a d) refl l (λ t. visitors_link a t ds)
  where
    by : (b : Bool) → came_to a d ≡ b → StatesLink a s (if b then d ∷ visitors a ds else visitors a ds) → ((t : State) → StatesLink a t (visitors a ds) → StatesLink a t ds) → Finds (d.views a) s × StatesLink a (left_of a d s) ds
    by true e l k = (l.0, k (left_of a d s) l.1)
    by false e l k = (subst (λ o. Finds o s) (sym (no_view (d.views a) e)) tt, k (left_of a d s) (subst (λ t. StatesLink a t (visitors a ds)) (sym (passes a d s e)) l))

last_visitors : (a : ℕ) (s : State) (ds : List Done) → last_state a s (visitors a ds) ≡ last_state a s ds
last_visitors a s [] = refl
last_visitors a s (d ∷ ds) = by (came_to a d) refl (λ t. last_visitors a t ds)
  where
    by : (b : Bool) → came_to a d ≡ b → ((t : State) → last_state a t (visitors a ds) ≡ last_state a t ds) → last_state a s (if b then d ∷ visitors a ds else visitors a ds) ≡ last_state a (left_of a d s) ds
    by true e k = k (left_of a d s)
    by false e k = k s ∙ ap (λ t. last_state a t ds) (sym (passes a d s e))

-- ---- who may change places

-- of two, one did not come there, or both left what they found
abbrev pub Apart : ℕ → Done → Done → Type 0
Apart a d x = (came_to a d ≡ false) ⊎ ((came_to a x ≡ false) ⊎ (LeavesIt (d.views a) × LeavesIt (x.views a)))

pub still_left : (a : ℕ) (d : Done) (s : State) → LeavesIt (d.views a) → Finds (d.views a) s → left_of a d s ≡ s
still_left a d s k f = by (is_value d.result) (d.views a) k f
  where
    by : (b : Bool) (o : Option View) → LeavesIt o → Finds o s → left_as b o s ≡ s
    by b None k f = left_none b s
    by true (Some v) k f = k ∙ f
    by false (Some v) k f = refl

not_came : (a : ℕ) (d : Done) (s : State) → came_to a d ≡ false → Finds (d.views a) s
not_came a d s e = subst (λ o. Finds o s) (sym (no_view (d.views a) e)) tt

pub swapped : (a : ℕ) (d x : Done) (s : State) (xs : List Done) → Apart a d x → StatesLink a s (d ∷ x ∷ xs) → StatesLink a s (x ∷ d ∷ xs) × (last_state a s (x ∷ d ∷ xs) ≡ last_state a s (d ∷ x ∷ xs))
swapped a d x s xs (inl e) l =
    let p = passes a d s e in
    let q = passes a d (left_of a x s) e in
    let same : left_of a d (left_of a x s) ≡ left_of a x (left_of a d s) = q ∙ ap (left_of a x) (sym p) in
    ((subst (λ z. Finds (x.views a) z) p l.1.0, (not_came a d (left_of a x s) e, subst (λ z. StatesLink a z xs) (sym same) l.1.1)), ap (λ z. last_state a z xs) same)
swapped a d x s xs (inr (inl e)) l =
    let p = passes a x s e in
    let q = passes a x (left_of a d s) e in
    let same : left_of a d (left_of a x s) ≡ left_of a x (left_of a d s) = ap (left_of a d) p ∙ sym q in
    ((not_came a x s e, (subst (λ z. Finds (d.views a) z) (sym p) l.0, subst (λ z. StatesLink a z xs) (sym same) l.1.1)), ap (λ z. last_state a z xs) same)
swapped a d x s xs (inr (inr k)) l =
    let p = still_left a d s k.0 l.0 in
    let f : Finds (x.views a) s = subst (λ z. Finds (x.views a) z) p l.1.0 in
    let q = still_left a x s k.1 f in
    let same : left_of a d (left_of a x s) ≡ left_of a x (left_of a d s) = ap (left_of a d) q ∙ (p ∙ (sym q ∙ ap (left_of a x) (sym p))) in
    ((f, (subst (λ z. Finds (d.views a) z) (sym q) l.0, subst (λ z. StatesLink a z xs) (sym same) l.1.1)), ap (λ z. last_state a z xs) same)

-- it goes past those that are placed below it
put_links : (a : ℕ) (d : Done) (s : State) (xs : List Done) → AllByRecursion (λ x. is_place_below d.place x.place ≡ false → Apart a d x) xs → StatesLink a s (d ∷ xs) → StatesLink a s (put_by_place d xs) × (last_state a s (put_by_place d xs) ≡ last_state a s (d ∷ xs))
put_links a d s [] k l = (l, refl)
put_links a d s (x ∷ xs) k l = by (is_place_below d.place x.place) refl (λ t. put_links a d t xs k.1)
  where
    by : (b : Bool) → is_place_below d.place x.place ≡ b → ((t : State) → StatesLink a t (d ∷ xs) → StatesLink a t (put_by_place d xs) × (last_state a t (put_by_place d xs) ≡ last_state a t (d ∷ xs)))
        → StatesLink a s (if b then d ∷ x ∷ xs else x ∷ put_by_place d xs) × (last_state a s (if b then d ∷ x ∷ xs else x ∷ put_by_place d xs) ≡ last_state a s (d ∷ x ∷ xs))
    by true e r = (l, refl)
    by false e r =
        let w = swapped a d x s xs (k.0 e) l in
        let g = r (left_of a x s) w.0.1 in
        ((w.0.0, g.0), g.1 ∙ w.1)

-- readers leave what they find
abbrev pub ReadersLeave : ℕ → List Done → Type 0
ReadersLeave a ds = AllByRecursion (λ d. d.reader ≡ true → LeavesIt (d.views a)) ds

each_apart : (a : ℕ) (d : Done) (ds : List Done) → (came_to a d ≡ true → AllByRecursion (λ e. (d.reader && e.reader) ≡ false → is_place_below d.place e.place ≡ true) (visitors a ds)) → (d.reader ≡ true → LeavesIt (d.views a)) → ReadersLeave a ds
    → AllByRecursion (λ x. is_place_below d.place x.place ≡ false → Apart a d x) ds
each_apart a d [] r k h = tt
each_apart a d (x ∷ ds) r k h = (
  elim (cases_Bool (came_to a d)) [
    | inr e ↦ (λ q. inl e)
    | inl e ↦ by (came_to a x) refl (r e)
  ],
  each_apart a d ds (λ i. rest (came_to a x) (r i)) k h.1,
)
  where
    rest : (b : Bool) → AllByRecursion (λ e. (d.reader && e.reader) ≡ false → is_place_below d.place e.place ≡ true) (if b then x ∷ visitors a ds else visitors a ds) → AllByRecursion (λ e. (d.reader && e.reader) ≡ false → is_place_below d.place e.place ≡ true) (visitors a ds)
    rest true g = g.1
    rest false g = g

    by : (b : Bool) → came_to a x ≡ b → AllByRecursion (λ e. (d.reader && e.reader) ≡ false → is_place_below d.place e.place ≡ true) (if b then x ∷ visitors a ds else visitors a ds) → is_place_below d.place x.place ≡ false → Apart a d x
    by false e g q = inr (inl e)
    by true e g q = elim (cases_Bool (d.reader && x.reader)) [
      | inr v ↦ absurd (true≢false (sym (g.0 v) ∙ q))
      | inl v ↦ let p = and_parts d.reader x.reader v in inr (inr (k p.0, h.0 p.1))
    ]

rise_head : (a : ℕ) (d : Done) (ds : List Done) → RivalsRise (visitors a (d ∷ ds)) → (came_to a d ≡ true → AllByRecursion (λ e. (d.reader && e.reader) ≡ false → is_place_below d.place e.place ≡ true) (visitors a ds)) × RivalsRise (visitors a ds)
rise_head a d ds r = by (came_to a d) refl r
  where
    by : (b : Bool) → came_to a d ≡ b → RivalsRise (if b then d ∷ visitors a ds else visitors a ds) → (came_to a d ≡ true → AllByRecursion (λ e. (d.reader && e.reader) ≡ false → is_place_below d.place e.place ≡ true) (visitors a ds)) × RivalsRise (visitors a ds)
    by true e h = ((λ q. h.0), h.1)
    by false e h = ((λ q. absurd (true≢false (sym q ∙ e))), h)

-- in the order of places the states link, to the same one
pub sorted : (a : ℕ) (s : State) (ds : List Done) → RivalsRise (visitors a ds) → ReadersLeave a ds → StatesLink a s ds → StatesLink a s (by_place ds) × (last_state a s (by_place ds) ≡ last_state a s ds)
sorted a s [] r k l = (l, refl)
sorted a s (d ∷ ds) r k l =
    let h = rise_head a d ds r in
    let g = sorted a (left_of a d s) ds h.1 k.1 l.1 in
    let p = put_links a d s (by_place ds) (all_sorted (λ x. is_place_below d.place x.place ≡ false → Apart a d x) ds (each_apart a d ds h.0 k.0 k.1)) (l.0, g.0) in
    (p.0, p.1 ∙ g.1)

pub sorted_links : (a : ℕ) (s : State) (ds : List Done) → RivalsRise (visitors a ds) → ReadersLeave a ds → StatesLink a s ds → StatesLink a s (by_place ds)
sorted_links a s ds r k l = (sorted a s ds r k l).0

pub sorted_last : (a : ℕ) (s : State) (ds : List Done) → RivalsRise (visitors a ds) → ReadersLeave a ds → StatesLink a s ds → last_state a s (by_place ds) ≡ last_state a s ds
sorted_last a s ds r k l = (sorted a s ds r k l).1

-- ---- the order of placing

left_visitors : (a : ℕ) (ds : List Done) → ReadersLeave a ds → ReadersLeave a (visitors a ds)
left_visitors a ds k = all_filter (λ d. d.reader ≡ true → LeavesIt (d.views a)) (came_to a) ds k

-- one is put in ahead of readers, a reader itself
rise_put : (front back : List Done) (d : Done) → AllByRecursion (λ x. (x.reader && d.reader) ≡ true) back → AllByRecursion (λ x. (x.reader && d.reader) ≡ false → is_place_below x.place d.place ≡ true) (front ++ back) → RivalsRise (front ++ back) → RivalsRise (front ++ d ∷ back)
rise_put [] back d b h r = (free back b, r)
  where
    free : (xs : List Done) → AllByRecursion (λ x. (x.reader && d.reader) ≡ true) xs → AllByRecursion (λ x. (d.reader && x.reader) ≡ false → is_place_below d.place x.place ≡ true) xs
    free [] b = tt
    free (x ∷ xs) b = ((λ q. let p = and_parts x.reader d.reader b.0 in absurd (true≢false (sym (and_from d.reader x.reader p.1 p.0) ∙ q))), free xs b.1)
rise_put (x ∷ front) back d b h r = (put front r.0, rise_put front back d b h.1 r.1)
  where
    put : (ys : List Done) → AllByRecursion (λ e. (x.reader && e.reader) ≡ false → is_place_below x.place e.place ≡ true) (ys ++ back) → AllByRecursion (λ e. (x.reader && e.reader) ≡ false → is_place_below x.place e.place ≡ true) (ys ++ d ∷ back)
    put [] g = (h.0, g)
    put (y ∷ ys) g = (g.0, put ys g.1)

-- of a list that rises: its front does, and each of it is below the last one
rise_last : (us : List Done) (d : Done) → RivalsRise (us ++ d ∷ []) → RivalsRise us × AllByRecursion (λ x. (x.reader && d.reader) ≡ false → is_place_below x.place d.place ≡ true) us
rise_last [] d r = (tt, tt)
rise_last (u ∷ us) d r = let g = rise_last us d r.1 in ((front us r.0, g.0), (last us r.0, g.1))
  where
    front : (xs : List Done) → AllByRecursion (λ e. (u.reader && e.reader) ≡ false → is_place_below u.place e.place ≡ true) (xs ++ d ∷ []) → AllByRecursion (λ e. (u.reader && e.reader) ≡ false → is_place_below u.place e.place ≡ true) xs
    front [] h = tt
    front (x ∷ xs) h = (h.0, front xs h.1)

    last : (xs : List Done) → AllByRecursion (λ e. (u.reader && e.reader) ≡ false → is_place_below u.place e.place ≡ true) (xs ++ d ∷ []) → (u.reader && d.reader) ≡ false → is_place_below u.place d.place ≡ true
    last [] h = h.0
    last (x ∷ xs) h = last xs h.1

-- what holds of each of one of the lists holds of each of the other
all_put_in : (P : Done → Type 0) (front back : List Done) (d : Done) → P d → AllByRecursion P (front ++ back) → AllByRecursion P (front ++ d ∷ back)
all_put_in P [] back d k h = (k, h)
all_put_in P (x ∷ front) back d k h = (h.0, all_put_in P front back d k h.1)

all_last : (P : Done → Type 0) (us : List Done) (d : Done) → AllByRecursion P (us ++ d ∷ []) → AllByRecursion P us × P d
all_last P [] d h = (tt, h.0)
all_last P (u ∷ us) d h = let g = all_last P us d h.1 in ((h.0, g.0), g.1)

pub shuffled_all : (P : Done → Type 0) (cs us : List Done) → Shuffled cs us → AllByRecursion P us → AllByRecursion P cs
shuffled_all P cs us (Nobody c u e f) h = subst (AllByRecursion P) (sym e) tt
shuffled_all P cs us (Put c u front back rest d e f b k) h = let g = all_last P rest d (subst (AllByRecursion P) f h) in subst (AllByRecursion P) (sym e) (all_put_in P front back d g.1 (shuffled_all P (front ++ back) rest k g.0))

pub shuffled_rise : (cs us : List Done) → Shuffled cs us → RivalsRise us → RivalsRise cs
shuffled_rise cs us (Nobody c u e f) r = subst RivalsRise (sym e) tt
shuffled_rise cs us (Put c u front back rest d e f b k) r =
    let g = rise_last rest d (subst RivalsRise f r) in
    subst RivalsRise (sym e) (rise_put front back d b (shuffled_all (λ x. (x.reader && d.reader) ≡ false → is_place_below x.place d.place ≡ true) (front ++ back) rest k g.1) (shuffled_rise (front ++ back) rest k g.0))

links_last : (a : ℕ) (s : State) (us : List Done) (d : Done) → StatesLink a s (us ++ d ∷ []) → StatesLink a s us × Finds (d.views a) (last_state a s us)
links_last a s [] d l = (tt, l.0)
links_last a s (u ∷ us) d l = let g = links_last a (left_of a u s) us d l.1 in ((l.0, g.0), g.1)

-- readers alone leave the state
reads_last : (a : ℕ) (s : State) (xs : List Done) (d : Done) → AllByRecursion (λ x. (x.reader && d.reader) ≡ true) xs → ReadersLeave a xs → StatesLink a s xs → last_state a s xs ≡ s
reads_last a s [] d b k l = refl
reads_last a s (x ∷ xs) d b k l =
    let p = still_left a x s (k.0 (and_parts x.reader d.reader b.0).0) l.0 in
    reads_last a (left_of a x s) xs d b.1 k.1 l.1 ∙ p

links_put : (a : ℕ) (s : State) (front back : List Done) (d : Done) → AllByRecursion (λ x. (x.reader && d.reader) ≡ true) back → ReadersLeave a (front ++ back) → (d.reader ≡ true → LeavesIt (d.views a)) → StatesLink a s (front ++ back) → Finds (d.views a) (last_state a s (front ++ back))
    → StatesLink a s (front ++ d ∷ back) × (last_state a s (front ++ d ∷ back) ≡ left_of a d (last_state a s (front ++ back)))
links_put a s (x ∷ front) back d b k v l f = let g = links_put a (left_of a x s) front back d b k.1 v l.1 f in ((l.0, g.0), g.1)
links_put a s [] [] d b k v l f = ((f, tt), refl)
links_put a s [] (y ∷ back) d b k v l f =
    let same = reads_last a s (y ∷ back) d b k l in
    let here : Finds (d.views a) s = subst (λ z. Finds (d.views a) z) same f in
    let stays = still_left a d s (v (and_parts y.reader d.reader b.0).1) here in
    ((here, subst (λ z. StatesLink a z (y ∷ back)) (sym stays) l), ap (λ z. last_state a z (y ∷ back)) stays ∙ (same ∙ (sym stays ∙ ap (left_of a d) (sym same))))

last_end : (a : ℕ) (s : State) (us : List Done) (d : Done) → last_state a s (us ++ d ∷ []) ≡ left_of a d (last_state a s us)
last_end a s [] d = refl
last_end a s (u ∷ us) d = last_end a (left_of a u s) us d

pub shuffled_both : (a : ℕ) (s : State) (cs us : List Done) → Shuffled cs us → ReadersLeave a us → StatesLink a s us → StatesLink a s cs × (last_state a s cs ≡ last_state a s us)
shuffled_both a s cs us (Nobody c u e f) k l = (subst (StatesLink a s) (sym e) tt, ap (last_state a s) (e ∙ sym f))
shuffled_both a s cs us (Put c u front back rest d e f b q) k l =
    let k' = all_last (λ d. d.reader ≡ true → LeavesIt (d.views a)) rest d (subst (ReadersLeave a) f k) in
    let l' = links_last a s rest d (subst (StatesLink a s) f l) in
    let g = shuffled_both a s (front ++ back) rest q k'.0 l'.0 in
    let p = links_put a s front back d b (shuffled_all (λ d. d.reader ≡ true → LeavesIt (d.views a)) (front ++ back) rest q k'.0) k'.1 g.0 (subst (λ z. Finds (d.views a) z) (sym g.1) l'.1) in
    (subst (StatesLink a s) (sym e) p.0, ap (last_state a s) e ∙ (p.1 ∙ (ap (left_of a d) g.1 ∙ (sym (last_end a s rest d) ∙ ap (last_state a s) (sym f)))))

pub shuffled_links : (a : ℕ) (s : State) (cs us : List Done) → Shuffled cs us → ReadersLeave a us → StatesLink a s us → StatesLink a s cs
shuffled_links a s cs us q k l = (shuffled_both a s cs us q k l).0

-- ---- all together

state_of : {C : Type 0} (cs : List (Cell C)) (a : ℕ) → state_in (map (λ c. c.state) cs) a ≡ (slice_index_or cs a no_cell).state
state_of [] a = refl
state_of (c ∷ cs) zero = refl
state_of (c ∷ cs) (suc a) = state_of cs a

explained_sorted : {C : Type 0} (w : Fixed C) (finish : C → List State → Alone) (s : Machine C) (h : History) → OrderFacts w finish s h → AllByRecursion (IsExplained w finish) (by_place h.committed)
explained_sorted w finish s h f = all_sorted (IsExplained w finish) h.committed f.explained

linked_sorted : {C : Type 0} (w : Fixed C) (finish : C → List State → Alone) (s : Machine C) (h : History) → OrderFacts w finish s h → LinkedFrom w.text.opening.states (by_place h.committed)
unfolding LinkedFrom
linked_sorted w finish s h f = λ a k. sorted_links a (state_in w.text.opening.states a) h.committed (f.rise a k) (f.still a) (f.linked a k)

pub order_stands : {C : Type 0} (w : Fixed C) (finish : C → List State → Alone) (s : Machine C) (h : History) → OrderFacts w finish s h → OrderStands w finish s h
order_stands w finish s h f = record {
  serial = serial_results w finish (by_place h.committed) w.text.opening.states refl (explained_sorted w finish s h f) (linked_sorted w finish s h f);
  explained = f.explained;
  readers_are = f.readers;
  readers_leave = f.still;
  rise = rises_sorted h.committed f.differ;
  chains_rise = λ a k. shuffled_rise (chain a h) (visitors a h.committed) (f.chains a k) (f.rise a k);
  chains_link = λ a k. shuffled_links a (state_in w.text.opening.states a) (chain a h) (visitors a h.committed) (f.chains a k) (left_visitors a h.committed (f.still a)) (links_visitors a (state_in w.text.opening.states a) h.committed (f.linked a k));
  told_value = f.told_value;
  told_code = f.told_code;
}

-- where nothing else left its state on the actors, they have what the serial run leaves
pub last_states : {C : Type 0} (w : Fixed C) (finish : C → List State → Alone) (s : Machine C) (h : History) → OrderFacts w finish s h → length s.cells ≡ length w.text.opening.states
    → ((a : ℕ) → a < length w.text.opening.states → (slice_index_or s.cells a no_cell).state ≡ last_state a (state_in w.text.opening.states a) h.committed) → map (λ c. c.state) s.cells ≡ (serial_run w finish h.committed).world
last_states {C} w finish s h f cells q = same_world (map (λ c. c.state) s.cells) (serial_run w finish h.committed).world
    (length_map (λ c. c.state) s.cells ∙ (cells ∙ sym (serial_length w finish (by_place h.committed) w.text.opening.states refl (explained_sorted w finish s h f) (linked_sorted w finish s h f)))) at_each
  where
    at_each : (a : ℕ) → a < length (map (λ c. c.state) s.cells) → state_in (map (λ c. c.state) s.cells) a ≡ state_in (serial_run w finish h.committed).world a
    at_each a l =
        let k : a < length w.text.opening.states = omega (arith, l, length_map (λ c. c.state) s.cells, cells) in
        state_of s.cells a ∙ (q a k ∙ (sym (sorted_last a (state_in w.text.opening.states a) h.committed (f.rise a k) (f.still a) (f.linked a k)) ∙ sym (serial_states w finish (by_place h.committed) w.text.opening.states refl (explained_sorted w finish s h f) (linked_sorted w finish s h f) a k)))

pub order_holds : {C : Type 0} (w : Fixed C) (finish : C → List State → Alone) (s : Machine C) (h : History) → OrderFacts w finish s h → QuietFacts w s h → OrderHolds w finish s h
order_holds w finish s h f q = record {
  stands = order_stands w finish s h f;
  all_told = q.all_told;
  last_states = λ i. last_states w finish s h f q.cells (q.quiet_states i);
}
