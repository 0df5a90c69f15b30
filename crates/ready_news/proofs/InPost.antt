-- What is listed of the post tells what is new there.
use Rattle.std.specs.Prelude.{◌≡◌, refl, ℕ, ◌+◌, ◌≤◌, ◌==◌, not, Bool, true, false, ◌||◌, if◌then◌else◌, ◌&&◌, is_some, max, unwrap_or, Option, Some, None, List, [], ◌∷◌, ◌++◌, map, filter, find, slice_get, Contains}
use Rattle.std.specs.List.{flat_map, list_any}
use Rattle.std.specs.Option.{option_map}
use Rattle.std.proofs.Common.{arith, sym, ap, subst, inl, inr, ◌∙◌}
use Rattle.std.proofs.lemmas.Bool.{true≢false, and_from, or_cases, eqb-true, eq-eqb}
use Rattle.std.proofs.lemmas.List.Elements.{Contains-append_left, Contains-append_right}
use Rattle.aml_slice.specs.Controls.{Rest}
use Rattle.protocol.specs.Conditions.{is_given_up, is_not_doomed}
use Rattle.protocol.specs.Events.{Event, Arrive, Ask, Take, DropControl}
use Rattle.protocol.specs.OnBook.{changed_act, change_if}
use Rattle.protocol.specs.OnCell.{batch_entries, not_done}
use Rattle.protocol.specs.OnRing.{numbered}
use Rattle.protocol.specs.Parts.{Act, Book, Cell, Entry, BatchEntry, Pair, Doomed, Pact, SubBatch, ControlMessage, Post}
use Rattle.protocol.specs.Spread.{carried, raised, crossed_out, is_crossed}
use Rattle.protocol.specs.Verdicts.{out_of_order}
use Rattle.protocol.specs.Words.{act_of, control_of, has_act, has_control_to, has_entry, holds, is_batch_entry, is_doomed, is_entry_of, sub_of}
use Rattle.protocol_ready.proofs.Listing.{Has, from_has, has_filter, has_flat_map, has_map, held, some, found_in, to_has}
use Rattle.protocol_ready.proofs.Offered.{sub_found}
use Rattle.protocol_ready.proofs.TouchedListed.{no}
use Rattle.listing_facts.specs.hybrid_schedule.Listed.{undone_by, undone_if, undone_in}
use Rattle.listing_facts.specs.post_box.Listed.{control_places, places_to, sub_places}
use Rattle.listing_facts.specs.post_box.Posting.{message_to, message_who}
use Rattle.ready_listing.specs.Listed.{of_control, of_sub, on_post}
use Rattle.ready_listing.proofs.Lists.{first_of_all, in_flat_map}
use Rattle.ready_news.specs.InBook.{only}
use Rattle.ready_news.specs.InPost.{arrivals_to, comes_behind, comes_to, comings_to, followers, goes_to, is_at, is_dropped, is_new_in, is_placed_in, may_in, of_arrival, of_coming, of_follower, on_control, takes_at, takes_by}

-- ---- words

pub left_or : (b c : Bool) → (b || c) ≡ true → (c ≡ true → b ≡ true) → b ≡ true
left_or true c h g = refl
left_or false c h g = g h

pub where_so : (p : Bool) (f : Event) → p ≡ true → Contains (only p f) f
where_so true f h = first_of_all [] f
where_so false f h = no h

pub find_gone : {X : Type 0} (p : X → Bool) (xs : List X) → find p (filter (λ x. not (p x)) xs) ≡ None
find_gone p [] = refl
find_gone p (x ∷ xs) = by (p x) refl (find_gone p xs)
  where
    by : (b : Bool) → p x ≡ b → find p (filter (λ x. not (p x)) xs) ≡ None → find p (if not b then x ∷ filter (λ x. not (p x)) xs else filter (λ x. not (p x)) xs) ≡ None
    by true e i = i
    by false e i = rw e i

pub nowhere : {X : Type 0} (p : X → Bool) (o : Option X) → o ≡ None → holds p o ≡ true → ⊥
nowhere p o e h = true≢false (sym h ∙ ap (holds p) e)

-- ---- what is under way is among what is listed of it

sub_there : (k a : ℕ) (subs : List SubBatch) → is_some (sub_of k a subs) ≡ true → Has (sub_places subs) (k, a)
sub_there k a subs h =
    let m = sub_found k a subs h in
    let same : (m.it.bid, m.it.actor) ≡ (k, a) = λ j. (m.bid j, m.actor j) in
    subst (λ x. Has (sub_places subs) x) same (has_map (λ m. (m.bid, m.actor)) subs m.it m.has)

control_there : (t a : ℕ) (controls : List (ControlMessage Rest)) (m : ControlMessage Rest) → control_of t controls ≡ Some m → m.to ≡ a → Has (control_places controls) (t, a)
control_there t a controls m is to =
    let r = found_in (λ m. m.tid == t) controls m is in
    let same : (m.tid, m.to) ≡ (t, a) = λ j. (eqb-true m.tid t r.1 j, to j) in
    subst (λ x. Has (control_places controls) x) same (has_map (λ m. (m.tid, m.to)) controls m r.0)

place_in : (f : ℕ × ℕ → List Event) (places : List (ℕ × ℕ)) (p : ℕ × ℕ) (e : Event) → Has places p → Has (f p) e → Contains (flat_map f places) e
place_in f places p e h g = from_has (flat_map f places) e (has_flat_map f places p e h g)

-- of those that go to an actor
place_to : (f : ℕ × ℕ → List Event) (places : List (ℕ × ℕ)) (n a b : ℕ) (e : Event) → Has places (n, a) → (b == a) ≡ true → Has (f (n, a)) e → Contains (flat_map f (places_to b places)) e
place_to f places n a b e h same g = place_in f (places_to b places) (n, a) e (has_filter (λ p. p.1 == b) places (n, a) h (eq-eqb a b (sym (eqb-true b a same)))) g

module _ (p : Post Rest) where
  pub arrival_in : (k a b : ℕ) → is_some (sub_of k a p.subs) ≡ true → (b == a) ≡ true → Contains (arrivals_to b p) (Arrive k a)
  arrival_in k a b h e = place_to of_arrival (sub_places p.subs) k a b (Arrive k a) (sub_there k a p.subs h) e (inl refl)

  pub follower_in : (j k a b : ℕ) → is_some (sub_of k a p.subs) ≡ true → (b == a) ≡ true → comes_behind j p (k, a) ≡ true → Contains (followers j b p) (Arrive k a)
  follower_in j k a b h e g = place_to (of_follower j p) (sub_places p.subs) k a b (Arrive k a) (sub_there k a p.subs h) e (to_has (only (comes_behind j p (k, a)) (Arrive k a)) (Arrive k a) (where_so (comes_behind j p (k, a)) (Arrive k a) g))

  pub coming_in : (t a b : ℕ) (e : Event) → has_control_to t a p.controls ≡ true → (b == a) ≡ true → Has (of_coming (t, a)) e → Contains (comings_to b p) e
  coming_in t a b e h same g =
      let m = held (λ m. m.to == a) (control_of t p.controls) h in
      place_to of_coming (control_places p.controls) t a b e (control_there t a p.controls m.it m.is (eqb-true m.it.to a m.does)) same g

  -- ---- all that is under way

  pub all_subs : (k a : ℕ) (e : Event) → is_some (sub_of k a p.subs) ≡ true → Has (of_sub (k, a)) e → Contains (on_post p) e
  all_subs k a e h g = Contains-append_left (flat_map of_sub (sub_places p.subs)) (flat_map of_control (control_places p.controls)) e (place_in of_sub (sub_places p.subs) (k, a) e (sub_there k a p.subs h) g)

  pub all_controls : (t a : ℕ) (e : Event) → has_control_to t a p.controls ≡ true → Has (of_control (t, a)) e → Contains (on_post p) e
  all_controls t a e h g =
      let m = held (λ m. m.to == a) (control_of t p.controls) h in
      Contains-append_right (flat_map of_sub (sub_places p.subs)) (flat_map of_control (control_places p.controls)) e (place_in of_control (control_places p.controls) (t, a) e (control_there t a p.controls m.it m.is (eqb-true m.it.to a m.does)) g)

  pub all_drops : (t : ℕ) → is_some (control_of t p.controls) ≡ true → Contains (on_post p) (DropControl t)
  all_drops t h =
      let m = some (control_of t p.controls) h in
      Contains-append_right (flat_map of_sub (sub_places p.subs)) (flat_map of_control (control_places p.controls)) (DropControl t) (place_in of_control (control_places p.controls) (t, m.it.to) (DropControl t) (control_there t m.it.to p.controls m.it m.is refl) (inr (inr (inl refl))))

-- ---- a control that was posted

holds_map : {X Y : Type 0} (f : X → Y) (p : Y → Bool) (o : Option X) → holds (λ x. p (f x)) o ≡ true → holds p (option_map f o) ≡ true
holds_map f p None h = h
holds_map f p (Some x) h = h

-- where the cells at hand are those of the actors
abbrev pub AreShown : List (Option (Cell Rest)) → List (Cell Rest) → Type 0
AreShown cells xs = (a : ℕ) (x : Cell Rest) → slice_get cells a ≡ Some (Some x) → slice_get xs a ≡ Some x

pub may_shown : (test : Cell Rest → Bool) (cells : List (Option (Cell Rest))) (xs : List (Cell Rest)) (a : ℕ) → AreShown cells xs → holds test (slice_get xs a) ≡ true → may_in test (slice_get cells a) ≡ true
may_shown test cells xs a shown h = by (slice_get cells a) refl
  where
    by : (o : Option (Option (Cell Rest))) → slice_get cells a ≡ o → may_in test o ≡ true
    by None e = refl
    by (Some None) e = refl
    by (Some (Some c)) e = subst (λ o. holds test o ≡ true) (shown a c e) h

pub goes_where : (t a : ℕ) (p : Post Rest) → has_control_to t a p.controls ≡ true → goes_to t a p ≡ true
goes_where t a p h = by (control_of t p.controls) h
  where
    by : (o : Option (ControlMessage Rest)) → holds (λ m. m.to == a) o ≡ true → is_at a (option_map message_to o) ≡ true
    by None h = h
    by (Some m) h = h

module _ (cells : List (Option (Cell Rest))) (b : Book) (p : Post Rest) where
  coming_in_control : (t a : ℕ) (f : Event) → has_control_to t a p.controls ≡ true → Contains (comes_to t cells (is_not_doomed t b.acts) (Some a)) f → Contains (on_control t cells b p) f
  coming_in_control t a f h c =
      let m = held (λ m. m.to == a) (control_of t p.controls) h in
      Contains-append_left (comes_to t cells (is_not_doomed t b.acts) (option_map message_to (control_of t p.controls))) (only (is_dropped t b p) (DropControl t)) f
      (subst (λ o. Contains (comes_to t cells (is_not_doomed t b.acts) (option_map message_to o)) f) (sym m.is) (subst (λ n. Contains (comes_to t cells (is_not_doomed t b.acts) (Some n)) f) (sym (eqb-true m.it.to a m.does)) c))

  pub ask_in_control : (t a : ℕ) (xs : List (Cell Rest)) → AreShown cells xs → has_control_to t a p.controls ≡ true → is_not_doomed t b.acts ≡ true → holds (λ c. not (has_act t c.entries)) (slice_get xs a) ≡ true → Contains (on_control t cells b p) (Ask t a)
  ask_in_control t a xs shown h undoomed free =
      let here = only (is_not_doomed t b.acts && is_new_in t (slice_get cells a)) (Ask t a) in
      coming_in_control t a (Ask t a) h
      (Contains-append_left here (only (is_placed_in t (slice_get cells a)) (Take t a)) (Ask t a)
      (where_so (is_not_doomed t b.acts && is_new_in t (slice_get cells a)) (Ask t a) (and_from (is_not_doomed t b.acts) (is_new_in t (slice_get cells a)) undoomed (may_shown (λ c. not (has_act t c.entries)) cells xs a shown free))))

  pub take_in_control : (t a : ℕ) (xs : List (Cell Rest)) → AreShown cells xs → has_control_to t a p.controls ≡ true → holds (λ c. has_entry t c.entries) (slice_get xs a) ≡ true → Contains (on_control t cells b p) (Take t a)
  take_in_control t a xs shown h placed =
      let here = only (is_not_doomed t b.acts && is_new_in t (slice_get cells a)) (Ask t a) in
      coming_in_control t a (Take t a) h
      (Contains-append_right here (only (is_placed_in t (slice_get cells a)) (Take t a)) (Take t a)
      (where_so (is_placed_in t (slice_get cells a)) (Take t a) (may_shown (λ c. has_entry t c.entries) cells xs a shown placed)))

  pub drop_in_control : (t : ℕ) → holds (λ m. is_given_up m.who b) (control_of t p.controls) ≡ true → Contains (on_control t cells b p) (DropControl t)
  drop_in_control t h =
      Contains-append_right (comes_to t cells (is_not_doomed t b.acts) (option_map message_to (control_of t p.controls))) (only (is_dropped t b p) (DropControl t)) (DropControl t)
      (where_so (is_dropped t b p) (DropControl t) (holds_map message_who (λ who. is_given_up who b) (control_of t p.controls) h))

-- ---- a sub-batch that has arrived lets controls in

undone_all : (t : ℕ) (tids : List ℕ) → list_any (λ s. s.tid == t) (map not_done tids) ≡ true → Has (undone_in (map not_done tids)) t
undone_all t [] h = no h
undone_all t (n ∷ ns) h = elim (or_cases (n == t) (list_any (λ s. s.tid == t) (map not_done ns)) h) [ inl e ↦ inl (eqb-true n t e) | inr i ↦ inr (undone_all t ns i) ]

undone_new : (t k : ℕ) (es : List Entry) (m : Option SubBatch) → list_any (is_entry_of t) (batch_entries k m) ≡ true → Contains (undone_by k (es ++ batch_entries k m)) t
undone_new t k es None h = no h
undone_new t k es (Some m) h =
    let new = BatchEntry (record { bid = k; slots = map not_done m.tids; complete = false }) in
    let slots = undone_in (map not_done m.tids) in
    in_flat_map (λ e. undone_if (is_batch_entry k e) e) (es ++ new ∷ []) new t (Contains-append_right es (new ∷ []) new (first_of_all [] new))
    (subst (λ c. Contains (if c then slots else []) t) (sym (eq-eqb k k refl)) (from_has slots t (undone_all t m.tids (left_or (list_any (λ s. s.tid == t) (map not_done m.tids)) false h no))))

pub let_in : (p : Post Rest) (t k a : ℕ) (c : Cell Rest) (es : List Entry) (m : Option SubBatch) → c.entries ≡ es ++ batch_entries k m → has_control_to t a p.controls ≡ true → list_any (is_entry_of t) (batch_entries k m) ≡ true → Contains (takes_by k a (Some (Some c)) p) (Take t a)
let_in p t k a c es m is h new =
    in_flat_map (takes_at a p) (undone_by k c.entries) t (Take t a) (subst (λ v. Contains (undone_by k v) t) (sym is) (undone_new t k es m new))
    (where_so (goes_to t a p) (Take t a) (goes_where t a p h))

-- ---- a batch is formed

pub numbered_from : (n : ℕ) (ns : List ℕ) (q : Pact) → Has (numbered n ns) q → n ≤ q.tid
numbered_from n [] q h = absurd h
numbered_from n (m ∷ ns) q (inl e) = omega (arith, ap (λ x. x.tid) e)
numbered_from n (m ∷ ns) q (inr h) = omega (arith, numbered_from (n + 1) ns q h)

-- ---- an ACT that is not given up was not

pub holds_back : {X : Type 0} (p q : X → Bool) (f : X → X) → ((x : X) → q (f x) ≡ q x) → ((x : X) → p (f x) ≡ true → p x ≡ true) → (xs : List X) → holds p (find q (map f xs)) ≡ true → holds p (find q xs) ≡ true
holds_back p q f same back [] h = h
holds_back p q f same back (x ∷ xs) h = by (q x) (subst (λ b. holds p (if b then Some (f x) else find q (map f xs)) ≡ true) (same x) h) (holds_back p q f same back xs)
  where
    by : (b : Bool) → holds p (if b then Some (f x) else find q (map f xs)) ≡ true → (holds p (find q (map f xs)) ≡ true → holds p (find q xs) ≡ true) → holds p (if b then Some x else find q xs) ≡ true
    by true g i = back x g
    by false g i = i g

pub crossed_back : (a : ℕ) (t : ℕ) (xs : List Act) → holds (λ x. not (is_doomed x.status)) (act_of t (map (crossed_out a) xs)) ≡ true → holds (λ x. not (is_doomed x.status)) (act_of t xs) ≡ true
crossed_back a t xs h = holds_back (λ x. not (is_doomed x.status)) (λ x. x.tid == t) (crossed_out a) (λ x. refl) back xs h
  where
    back : (x : Act) → not (is_doomed (crossed_out a x).status) ≡ true → not (is_doomed x.status) ≡ true
    back x g = by (is_crossed x) g
      where
        by : (b : Bool) → not (is_doomed (if b then Doomed (out_of_order x.m (unwrap_or x.n 0) a) else x.status)) ≡ true → not (is_doomed x.status) ≡ true
        by true i = no i
        by false i = i

-- a test that no higher number passes where this one does not
pub raised_back : (p : Act → Bool) → ((x : Act) (k : ℕ) → p (record x { m = max x.m k }) ≡ true → p x ≡ true) → (pairs : List Pair) (t : ℕ) (xs : List Act) → holds p (act_of t (raised pairs xs)) ≡ true → holds p (act_of t xs) ≡ true
raised_back p back pairs t [] h = h
raised_back p back pairs t (x ∷ xs) h = by (x.tid == t) h (raised_back p back pairs t xs)
  where
    by : (b : Bool) → holds p (if b then Some (record x { m = max x.m (carried pairs x (raised pairs xs)) }) else act_of t (raised pairs xs)) ≡ true
        → (holds p (act_of t (raised pairs xs)) ≡ true → holds p (act_of t xs) ≡ true)
        → holds p (if b then Some x else act_of t xs) ≡ true
    by true g i = back x (carried pairs x (raised pairs xs)) g
    by false g i = i g

pub changed_back : (p : Act → Bool) (u : ℕ) (f : Act → Act) → ((x : Act) → (f x).tid ≡ x.tid) → ((x : Act) → p (f x) ≡ true → p x ≡ true) → (t : ℕ) (xs : List Act) → holds p (act_of t (changed_act u f xs)) ≡ true → holds p (act_of t xs) ≡ true
changed_back p u f tid back t xs h = holds_back p (λ x. x.tid == t) (λ x. change_if (x.tid == u) f x) (λ x. same x (x.tid == u)) (λ x. undo x (x.tid == u)) xs h
  where
    same : (x : Act) (b : Bool) → ((change_if b f x).tid == t) ≡ (x.tid == t)
    same x true = ap (λ n. n == t) (tid x)
    same x false = refl

    undo : (x : Act) (b : Bool) → p (change_if b f x) ≡ true → p x ≡ true
    undo x true g = back x g
    undo x false g = g
