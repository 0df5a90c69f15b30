-- What no event takes back of the ACTs.
use Rattle.std.specs.Prelude.{◌≡◌, refl, ℕ, zero, suc, nat_le, max, Bool, true, false, ◌&&◌, if◌then◌else◌, Option, Some, None, unwrap_or, List, [], ◌∷◌, ◌++◌, map, slice_index_or, slice_set}
use Rattle.std.proofs.Common.{arith, sym, ap, subst, inl, inr, ◌∙◌}
use Rattle.std.proofs.lemmas.List.{append-nil, append_assoc}
use Rattle.std.proofs.lemmas.Bool.{and_parts, true≢false}
use Rattle.snap_base.specs.declared.transactions.TxResult.{TxResult}
use Rattle.snap_base.specs.declared.verdicts.Verdict.{Verdict}
use Rattle.protocol.specs.Fixed.{Fixed, Next, Go, Ended}
use Rattle.protocol.specs.Rivals.{Lock}
use Rattle.protocol.specs.Parts.{Joined, Status, Live, Doomed, Decided, Sealed, Act, Pair, Book, Outcome, Machine}
use Rattle.protocol.specs.Events.{Event, Admit, Arrive, Ask, End, Abort, Prepare, Vouch, Decide, Seal, Finish}
use Rattle.protocol.specs.Words.{is_live_status, is_value, has_act, outcome_of, lock_of, floor_at}
use Rattle.protocol.specs.Verdicts.{died, out_of_order, taken_along}
use Rattle.protocol.specs.Spread.{raised, reaches, crossed_out, is_crossed}
use Rattle.protocol.specs.Effects.{after, cell_at}
use Rattle.protocol.specs.OnBook as book
use Rattle.protocol_laws.specs.OneWay.{IsFront, EachBecame, StatusWent, actors_of, ActWent}
use Rattle.protocol_laws.proofs.first.Kept.{marked_kept}
use Rattle.protocol_laws.proofs.first.Times

-- ---- lists

pub whole : {X : Type 0} (xs : List X) → IsFront xs xs
whole xs = record { more = []; is = sym (append-nil xs) }

pub front_same : {X : Type 0} (xs ys : List X) → ys ≡ xs → IsFront xs ys
front_same xs ys e = subst (λ zs. IsFront xs zs) (sym e) (whole xs)

pub front_further : {X : Type 0} (xs ys zs : List X) → IsFront xs ys → IsFront ys zs → IsFront xs zs
front_further xs ys zs f g = record { more = f.more ++ g.more; is = g.is ∙ (ap (λ us. us ++ g.more) f.is ∙ append_assoc xs f.more g.more) }

pub each_same : {X : Type 0} (R : X → X → Type 0) → ((x : X) → R x x) → (xs : List X) → EachBecame R xs xs
each_same R r [] = tt
each_same R r (x ∷ xs) = (r x, each_same R r xs)

pub each_map : {X : Type 0} (R : X → X → Type 0) (f : X → X) → ((x : X) → R x (f x)) → (xs : List X) → EachBecame R xs (map f xs)
each_map R f r [] = tt
each_map R f r (x ∷ xs) = (r x, each_map R f r xs)

pub each_more : {X : Type 0} (R : X → X → Type 0) → ((x : X) → R x x) → (xs ys : List X) → EachBecame R xs (xs ++ ys)
each_more R r [] ys = tt
each_more R r (x ∷ xs) ys = (r x, each_more R r xs ys)

pub each_set : {X : Type 0} (R : X → X → Type 0) → ((x : X) → R x x) → (xs : List X) (i : ℕ) (d y : X) → R (slice_index_or xs i d) y → EachBecame R xs (slice_set xs i y)
each_set R r [] i d y h = tt
each_set R r (x ∷ xs) zero d y h = (h, each_same R r xs)
each_set R r (x ∷ xs) (suc i) d y h = (r x, each_set R r xs i d y h)

pub each_further : {X : Type 0} (R : X → X → Type 0) → ((x y z : X) → R x y → R y z → R x z) → (xs ys zs : List X) → EachBecame R xs ys → EachBecame R ys zs → EachBecame R xs zs
each_further R t [] ys zs f g = tt
each_further R t (x ∷ xs) [] zs f g = absurd f
each_further R t (x ∷ xs) (y ∷ ys) [] f g = absurd g
each_further R t (x ∷ xs) (y ∷ ys) (z ∷ zs) f g = (t x y z f.0 g.0, each_further R t xs ys zs f.1 g.1)

-- ---- ACTs

same_status : (st : Status) → StatusWent st st
same_status Live = tt
same_status (Doomed v) = refl
same_status (Decided c) = inl refl
same_status (Sealed c) = refl

dooms : (st : Status) (v : Verdict) → is_live_status st ≡ true → StatusWent st (Doomed v)
dooms Live v h = tt
dooms (Doomed u) v h = absurd (true≢false (sym h))
dooms (Decided c) v h = absurd (true≢false (sym h))
dooms (Sealed c) v h = absurd (true≢false (sym h))

status_further : (a b c : Status) → StatusWent a b → StatusWent b c → StatusWent a c
status_further Live b c f g = tt
status_further (Doomed v) b c f g = subst (λ z. StatusWent z c) f g
status_further (Decided n) b c (inl f) g = subst (λ z. StatusWent z c) f g
status_further (Decided n) b c (inr f) g = inr (subst (λ z. StatusWent z c) f g)
status_further (Sealed n) b c f g = subst (λ z. StatusWent z c) f g

pub same_act : (x : Act) → ActWent x x
same_act x = record { tid = refl; tx = refl; reader = refl; m = omega arith; actors = whole (actors_of x.places); status = same_status x.status }

pub act_further : (x y z : Act) → ActWent x y → ActWent y z → ActWent x z
act_further x y z f g = record {
  tid = g.tid ∙ f.tid;
  tx = g.tx ∙ f.tx;
  reader = g.reader ∙ f.reader;
  m = omega (arith, f.m, g.m);
  actors = front_further _ _ _ f.actors g.actors;
  status = status_further x.status y.status z.status f.status g.status;
}

-- only the status changes
restated : (x : Act) (st : Status) → StatusWent x.status st → ActWent x (record x { status = st })
restated x st h = record { tid = refl; tx = refl; reader = refl; m = omega arith; actors = whole (actors_of x.places); status = h }

changed_if : (b : Bool) (f : Act → Act) (x : Act) → ActWent x (f x) → ActWent x (book.change_if b f x)
changed_if true f x h = h
changed_if false f x h = same_act x

changed : (t : ℕ) (f : Act → Act) (xs : List Act) → ((x : Act) → ActWent x (f x)) → EachBecame ActWent xs (book.changed_act t f xs)
changed t f xs h = each_map ActWent _ (λ x. changed_if _ f x (h x)) xs

crossed : (a : ℕ) (xs : List Act) → EachBecame ActWent xs (map (crossed_out a) xs)
crossed a xs = each_map ActWent (crossed_out a) (λ x. restated x _ (by x (is_crossed x) refl)) xs
  where
    by : (x : Act) (b : Bool) → is_crossed x ≡ b → StatusWent x.status (if b then Doomed (out_of_order x.m (unwrap_or x.n 0) a) else x.status)
    by x true e = dooms x.status _ (and_parts (is_live_status x.status) (reaches x.m x.n) e).0
    by x false e = same_status x.status

risen : (x : Act) (m : ℕ) → ActWent x (record x { m = max x.m m })
risen x m = record { tid = refl; tx = refl; reader = refl; m = omega arith; actors = whole (actors_of x.places); status = same_status x.status }

rising : (pairs : List Pair) (xs : List Act) → EachBecame ActWent xs (raised pairs xs)
rising pairs [] = tt
rising pairs (x ∷ xs) = (risen x _, rising pairs xs)

joining : (a m : ℕ) (x : Act) → ActWent x (book.joins a m x)
joining a m x = record {
  tid = refl;
  tx = refl;
  reader = refl;
  m = omega arith;
  actors = record { more = a ∷ []; is = Times.map_join (λ p. p.actor) x.places _ };
  status = same_status x.status;
}

marking : (a : ℕ) (f : Joined → Joined) → ((p : Joined) → (f p).actor ≡ p.actor) → (x : Act) → ActWent x (book.marked a f x)
marking a f h x = record { tid = refl; tx = refl; reader = refl; m = omega arith; actors = front_same _ _ (marked_kept (λ p. p.actor) a f x h); status = same_status x.status }

lowering : (k : ℕ) (tids : List ℕ) (x : Act) → ActWent x (book.lowered k tids x)
lowering k tids x = record { tid = refl; tx = refl; reader = refl; m = omega arith; actors = whole (actors_of x.places); status = same_status x.status }

ending : (r : TxResult) (x : Act) → ActWent x (book.with_result r x)
ending r x = record { tid = refl; tx = refl; reader = refl; m = omega arith; actors = whole (actors_of x.places); status = same_status x.status }

dying : (v : Verdict) (x : Act) → ActWent x (book.doomed_by v x)
dying v x = restated x _ (by (is_live_status x.status) refl)
  where
    by : (b : Bool) → is_live_status x.status ≡ b → StatusWent x.status (if b then Doomed v else x.status)
    by true e = dooms x.status v e
    by false e = same_status x.status

deciding : (c : ℕ) (x : Act) → ActWent x (book.decided_as c x)
deciding c x = restated x _ (by (is_value x.result) x.status)
  where
    by : (b : Bool) (st : Status) → StatusWent st (book.decided_status c b st)
    by b Live = tt
    by b (Doomed v) = refl
    by b (Decided d) = inl refl
    by b (Sealed d) = refl

sealing : (x : Act) → ActWent x (book.sealed x)
sealing x = restated x _ (by x.status)
  where
    by : (st : Status) → StatusWent st (book.sealed_status st)
    by Live = tt
    by (Doomed v) = refl
    by (Decided d) = inr refl
    by (Sealed d) = refl

cascading : (k n : ℕ) (x : Act) → ActWent x (book.cascaded k n x)
cascading k n x = record { tid = refl; tx = refl; reader = refl; m = omega arith; actors = whole (actors_of x.places); status = by x.status }
  where
    by : (st : Status) → StatusWent st (if is_live_status st && nat_le k x.m then Doomed (taken_along k n) else st)
    by Live = tt
    by (Doomed v) = refl
    by (Decided d) = inl refl
    by (Sealed d) = refl

asking : (o : Option ℕ) (group : List Lock) (t a m : ℕ) (b : Book) → EachBecame ActWent b.acts (book.asked_acts o group t a m b)
asking (Some older) group t a m b = changed t _ b.acts (dying (died a older t))
asking None group t a m b =
    let joined = book.changed_act t (book.joins a m) b.acts in
    let up = raised (b.pairs ++ book.new_pairs t a group b.acts) joined in
    each_further ActWent act_further b.acts joined _ (changed t _ b.acts (joining a m))
    (each_further ActWent act_further joined up _ (rising _ joined) (crossed a up))

noted_for : {C : Type 0} (t : ℕ) (n : Next C) (xs : List Act) → EachBecame ActWent xs (book.noted_for t n xs)
noted_for t (Go b control) xs = each_same ActWent same_act xs
noted_for t (Ended r) xs = changed t _ xs (ending r)

noted_from : {C : Type 0} (t : ℕ) (o : Option (Outcome C)) (xs : List Act) → EachBecame ActWent xs (book.noted_from t o xs)
noted_from t None xs = each_same ActWent same_act xs
noted_from t (Some x) xs = noted_for t x.next xs

act_ends : {C : Type 0} (t : ℕ) (is_act : Bool) (o : Option (Outcome C)) (b : Book) → EachBecame ActWent b.acts (book.act_ended t is_act o b).acts
act_ends t true o b = noted_from t o b.acts
act_ends t false o b = each_same ActWent same_act b.acts

arriving : (k a : ℕ) (tids : List ℕ) (b : Book) → EachBecame ActWent b.acts (book.batch_arrived k a tids b).acts
arriving k a tids b =
    let behind = map (book.lowered k tids) b.acts in
    each_further ActWent act_further b.acts behind _ (each_map ActWent _ (lowering k tids) b.acts) (crossed a behind)

pub acts_went : {C : Type 0} (w : Fixed C) (e : Event) (s : Machine C) → EachBecame ActWent s.book.acts (after w e s).book.acts
unfolding after
acts_went w (Admit t) s = each_more ActWent same_act s.book.acts _
acts_went w (Arrive k a) s = arriving k a (book.tids_on (cell_at s a).entries) s.book
acts_went w (Ask t a) s = asking (book.in_the_way (lock_of t s.book.acts) (cell_at s a).entries) (book.met (lock_of t s.book.acts) (cell_at s a).entries) t a (max (cell_at s a).last (floor_at t s.book.acts (cell_at s a))) s.book
acts_went w (End t a) s = act_ends t (has_act t (cell_at s a).entries) (outcome_of t (cell_at s a).outbox) s.book
acts_went w (Abort k) s = each_map ActWent _ (cascading k _) s.book.acts
acts_went w (Prepare t a) s = changed t _ s.book.acts (marking a book.is_prepared (λ p. refl))
acts_went w (Vouch t a) s = changed t _ s.book.acts (marking a book.is_vouched (λ p. refl))
acts_went w (Decide t) s = changed t _ s.book.acts (deciding s.book.next_c)
acts_went w (Seal t) s = changed t _ s.book.acts sealing
acts_went w (Finish t a) s = changed t _ s.book.acts (marking a book.has_left (λ p. refl))
acts_went w _ s = each_same ActWent same_act s.book.acts
