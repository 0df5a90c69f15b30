-- Over every run: before numbers are at least those of what committed, and places rise on each actor.
use Rattle.std.specs.Prelude.{◌≡◌, refl, ℕ, nat_le, max, not, Bool, true, false, Option, Some, None, is_some, List, [], ◌∷◌}
use Rattle.std.specs.List.{AllByRecursion}
use Rattle.std.proofs.Common.{arith, sym, ap, subst, ◌∙◌}
use Rattle.std.proofs.lemmas.Bool.{true≢false, leb-true, not-true}
use Rattle.snap_base.specs.declared.transactions.State.{State}
use Rattle.snap_base.specs.declared.transactions.Tx.{Tx}
use Rattle.protocol.specs.Fixed.{Fixed, base}
use Rattle.protocol.specs.Facts.{Alone}
use Rattle.protocol.specs.Parts.{Act, Cascade, Status, Live, Doomed, Decided, Sealed, OfBatch, OfAct, Machine}
use Rattle.protocol.specs.Events.{Event, Arrive, Ask, Commit, Decide, Finish, Trim}
use Rattle.protocol.specs.Words.{holds, is_aborted, is_doomed, is_live_status, act_of, is_ordered}
use Rattle.protocol.specs.Conditions.{IsAllowed, conditions}
use Rattle.protocol.specs.Effects.{after}
use Rattle.protocol.specs.Runs.{opening, IsRun, reached}
use Rattle.protocol.specs.Standing.{CarriesNumber}
use Rattle.protocol.specs.History.{History, Ran, Stands, Gone, act_view, no_history, history, grown}
use Rattle.protocol.specs.Chains.{RivalsRise}
use Rattle.protocol_laws.specs.Rising.{visitors, PlacesDiffer, OpenAbove}
use Rattle.protocol_laws.specs.Highs.{AllDoomed, TakenAlong}
use Rattle.protocol_laws.proofs.machine.TurnsKept.{one_is}
use Rattle.protocol_laws.proofs.machine.BatchesCommit as commits
use Rattle.protocol_laws.proofs.first.PairsKept as pairs
use Rattle.protocol_laws.proofs.first.PairsFound as found
use Rattle.protocol_laws.proofs.machine.PlacesRise as places
use Rattle.protocol_laws.proofs.machine.PlacesRise.{PlacesStand}
use Rattle.protocol_laws.proofs.machine.GroupsKept as groups
use Rattle.protocol_laws.proofs.machine.ShowsKept as shows
use Rattle.protocol_laws.proofs.machine.OversKept as overs
use Rattle.protocol_laws.proofs.machine.Good as whole
use Rattle.protocol_laws.proofs.machine.Good.{Given, Good}
use Rattle.protocol_laws.proofs.machine.ActResults as results
use Rattle.protocol_laws.proofs.machine.ActsKept.{Acts}
use Rattle.protocol_laws.proofs.machine.BehindKept.{Behind, AllBehind}
use Rattle.protocol_laws.proofs.machine.AllGood as all
use Rattle.protocol_laws.proofs.machine.AllGood.{AllGood}
use Rattle.protocol_laws.proofs.first.Lists.{both_all}

-- ---- what the others give

behind_all : (acts : List Act) (cs : List Cascade) (rs : List Ran) → Behind acts cs true rs → AllDoomed acts rs
behind_all acts cs [] h = tt
behind_all acts cs (Stands (OfBatch k) c ss ∷ rs) h = behind_all acts cs rs h
behind_all acts cs (Stands (OfAct t) c ss ∷ rs) h = (h.0 refl, behind_all acts cs rs h.1)
behind_all acts cs (Gone (OfBatch k) ss ∷ rs) h = behind_all acts cs rs h
behind_all acts cs (Gone (OfAct t) ss ∷ rs) h = behind_all acts cs rs h

all_taken : (acts : List Act) (cs : List Cascade) (rs : List Ran) → AllDoomed acts rs → TakenAlong cs acts rs
all_taken acts cs [] h = tt
all_taken acts cs (Stands (OfBatch k) c ss ∷ rs) h = ((λ e. h), all_taken acts cs rs h)
all_taken acts cs (Stands (OfAct t) c ss ∷ rs) h = ((λ e. h.1), all_taken acts cs rs h.1)
all_taken acts cs (Gone y ss ∷ rs) h = all_taken acts cs rs h

pub behind_taken : (acts : List Act) (cs : List Cascade) (rs : List Ran) → Behind acts cs false rs → TakenAlong cs acts rs
behind_taken acts cs [] h = tt
behind_taken acts cs (Stands (OfBatch k) c ss ∷ rs) h = by (is_aborted k cs) refl h (behind_taken acts cs rs)
  where
    by : (b : Bool) → is_aborted k cs ≡ b → Behind acts cs b rs → (Behind acts cs false rs → TakenAlong cs acts rs) → (is_aborted k cs ≡ true → AllDoomed acts rs) × TakenAlong cs acts rs
    by true e g r = let d = behind_all acts cs rs g in ((λ q. d), all_taken acts cs rs d)
    by false e g r = ((λ q. absurd (true≢false (sym q ∙ e))), r g)
behind_taken acts cs (Stands (OfAct t) c ss ∷ rs) h = ((λ e. absurd (true≢false (sym e))), behind_taken acts cs rs h.1)
behind_taken acts cs (Gone (OfBatch k) ss ∷ rs) h = by (is_aborted k cs) h (behind_taken acts cs rs)
  where
    by : (b : Bool) → Behind acts cs b rs → (Behind acts cs false rs → TakenAlong cs acts rs) → TakenAlong cs acts rs
    by true g r = all_taken acts cs rs (behind_all acts cs rs g)
    by false g r = r g
behind_taken acts cs (Gone (OfAct t) ss ∷ rs) h = behind_taken acts cs rs h

-- an ACT that asks is live
pub asks_live : {C : Type 0} (w : Fixed C) (Of : Tx → C → Type 0) (finish : C → List State → Alone) (t a : ℕ) (s : Machine C) (h : History) → IsAllowed w (Ask t a) s → AllGood w Of finish s h → holds (λ x. is_live_status x.status) (act_of t s.book.acts) ≡ true
unfolding conditions Acts
asks_live w Of finish t a s h ok g =
    let x = one_is (λ x. not (is_doomed x.status)) (act_of t s.book.acts) ok.1.0 in
    let r = results.posted_none t a s ok.0 g.none in
    subst (λ o. holds (λ x. is_live_status x.status) o ≡ true) (sym x.1) (by x.0.status refl (not-true (is_doomed x.0.status) x.2) (λ p. true≢false (sym ((g.acts t x.0 x.1).ended p) ∙ ap is_some (r t x.0 x.1 refl))))
  where
    by : (st : Status) {z : Status} → z ≡ st → is_doomed st ≡ false → (is_ordered st ≡ true → ⊥) → is_live_status st ≡ true
    by Live e d p = refl
    by (Doomed v) e d p = absurd (true≢false d)
    by (Decided c) e d p = absurd (p refl)
    by (Sealed c) e d p = absurd (p refl)

pub owed : {C : Type 0} (w : Fixed C) (Of : Tx → C → Type 0) (finish : C → List State → Alone) (e : Event) (s : Machine C) (h : History) → Given w Of finish → IsAllowed w e s → AllGood w Of finish s h → shows.Owed e s h
unfolding shows.Owed whole.Owed
owed w Of finish (Ask t a) s h v ok g = asks_live w Of finish t a s h ok g
owed w Of finish (Decide t) s h v ok g = all.owes w Of finish (Decide t) s h v ok g
owed w Of finish (Finish t a) s h v ok g = (all.owes w Of finish (Finish t a) s h v ok g).0
owed w Of finish (Trim k a) s h v ok g = all.owes w Of finish (Trim k a) s h v ok g
owed w Of finish e s h v ok g = tt

next : {C : Type 0} (w : Fixed C) (Of : Tx → C → Type 0) (finish : C → List State → Alone) (e : Event) (s : Machine C) (h : History) → IsAllowed w e s → Good w Of finish s h → overs.CommitsNext e s h
unfolding overs.CommitsNext
next w Of finish (Commit k) s h ok g = (commits.may_commit w k s h ok g.settling g.known g.marked g.placed g.tracked g.turned g.from_desk g.numbered).1.ahead
next w Of finish e s h ok g = tt

fresh : {C : Type 0} (w : Fixed C) (Of : Tx → C → Type 0) (finish : C → List State → Alone) (e : Event) (s : Machine C) (h : History) → IsAllowed w e s → Good w Of finish s h → shows.ArrivesFresh e s h
fresh w Of finish (Arrive k a) s h ok g = commits.arrives_fresh w k a s h ok g.agreeing g.known g.marked g.placed g.from_desk
fresh w Of finish e s h ok g = tt

pub beside : {C : Type 0} (w : Fixed C) (Of : Tx → C → Type 0) (finish : C → List State → Alone) (s : Machine C) (h : History) → AllGood w Of finish s h → shows.Beside w s h
unfolding AllBehind
beside w Of finish s h g = record {
  settles = g.good.settling;
  known = g.good.known;
  marked = g.good.marked;
  from_desk = g.good.from_desk;
  turned = g.good.turned;
  committed = g.good.committed;
  taken = λ a. behind_taken s.book.acts s.book.cascades (h.long a) (g.behind a);
  cuts = commits.cuts_fresh w s h g.good.settling g.good.known g.good.marked;
}

-- ---- all of it

pub record Higher {C : Type 0} (w : Fixed C) (s : Machine C) (h : History) : Type 0 where
  pub places : PlacesStand w s h
  pub pairs_stand : pairs.Standing w s
  pub tids : found.TidsAscend s
  pub grouped : groups.Groups s h
  pub told : shows.AllTold s h
  pub none_live : overs.NoneLive s h
  pub showing : shows.Showing s h
  pub high : overs.Overs s h

carried : {C : Type 0} (w : Fixed C) (s : Machine C) → found.TidsAscend s → pairs.Standing w s → AllByRecursion (CarriesNumber s.book) s.book.pairs
carried w s t p = (found.stand w s t p).carried

-- an ACT that may be decided is below every open batch
decides_low : {C : Type 0} (w : Fixed C) (e : Event) (s : Machine C) (h : History) → IsAllowed w e s → PlacesStand w s h → (x : Act) (t : ℕ) → e ≡ Decide t → act_of t s.book.acts ≡ Some x → OpenAbove x.m s.desk.batches
unfolding conditions
decides_low w e s h ok g x t q i = (places.settled_below w s x.m g.settles (leb-true x.m (max s.desk.settled (base w.text)) (at (act_of t s.book.acts) i (subst (λ z. IsAllowed w z s) q ok).1.1.0))).1
  where
    at : (o : Option Act) → o ≡ Some x → holds (λ x. nat_le x.m (max s.desk.settled (base w.text))) o ≡ true → nat_le x.m (max s.desk.settled (base w.text)) ≡ true
    at None i v = absurd (cc i)
    at (Some y) i v = let j : y ≡ x = cc i in subst (λ z. nat_le z.m (max s.desk.settled (base w.text)) ≡ true) j v

-- At a Decide the before number is at least that of each that committed on the ACT's actors.
before_is_high : {C : Type 0} (w : Fixed C) (e : Event) (s : Machine C) (h : History) → IsAllowed w e s → shows.Owed e s h → overs.Overs s h → places.BeforeIsHigh e s h
unfolding places.BeforeIsHigh shows.Owed conditions
before_is_high w (Decide t) s h ok o g = λ x e a v. let i : x ≡ o.0 = one (sym e ∙ o.1.is_it) in overs.high_before s h t a x g e (shows.live_here t x (act_of t s.book.acts) e ok.0) (o.1.there a (subst (λ z. is_some (act_view h z a) ≡ true) i v))
  where
    one : {x y : Act} → Some x ≡ Some y → x ≡ y
    one e = cc e
before_is_high w e s h ok o g = tt

pub kept : {C : Type 0} (w : Fixed C) (Of : Tx → C → Type 0) (finish : C → List State → Alone) (e : Event) (s : Machine C) (h : History) → Given w Of finish → IsAllowed w e s → AllGood w Of finish s h → Higher w s h → Higher w (after w e s) (grown w e s h)
unfolding shows.AllTold
kept w Of finish e s h v ok g i =
    let o = owed w Of finish e s h v ok g in
    let b = beside w Of finish s h g in
    let low = decides_low w e s h ok i.places in
    let p' = pairs.kept w e s ok i.pairs_stand in
    let t' = found.tids_kept w e s ok i.tids in
    let facts = both_all (shows.ToldOf h.kept s.book.acts) (shows.IsLow s.ring.next_bid s.desk.batches) (shows.FactsOf h.kept s.book.acts s.ring.next_bid s.desk.batches) h.committed (λ d x y. (x, y)) i.told i.places.low in
    record {
      places = places.kept w e s h ok (before_is_high w e s h ok o i.high) i.places;
      pairs_stand = p';
      tids = t';
      grouped = groups.kept w e s h ok g.locks g.good.turned i.grouped;
      told = shows.told_kept w e s h ok o i.told;
      none_live = overs.none_live_kept w e s h ok o i.none_live;
      showing = shows.shows_kept w e s h ok o (fresh w Of finish e s h ok g.good) b low facts i.showing;
      high = overs.overs_kept w e s h ok o (next w Of finish e s h ok g.good)
          (record { beside = b; placed = g.good.placed; lasts = g.good.lasts; numbers = g.good.numbers; grouped = i.grouped; showing = i.showing; told = i.told; none_live = i.none_live; locks = g.locks })
          low (carried w s i.tids i.pairs_stand) (carried w (after w e s) t' p') i.high;
    }

pub opened : {C : Type 0} (w : Fixed C) (Of : Tx → C → Type 0) (finish : C → List State → Alone) → Given w Of finish → Higher w (opening w) no_history
unfolding found.TidsAscend found.Ascend groups.Groups shows.AllTold overs.NoneLive shows.Showing overs.Overs
opened w Of finish v = record {
  places = places.opened w v.text;
  pairs_stand = pairs.opened w;
  tids = omega arith;
  grouped = λ a. tt;
  told = tt;
  none_live = λ t e. absurd (true≢false (sym e));
  showing = λ a. tt;
  high = λ r a. tt;
}

-- After every run of every accepted text, over code with the facts.
pub higher : {C : Type 0} (w : Fixed C) (Of : Tx → C → Type 0) (finish : C → List State → Alone) (es : List Event) → Given w Of finish → IsRun w es → Higher w (reached w es) (history w es)
higher w Of finish es v run = all.along_good w Of finish (Higher w) v (λ e s h ok g i. kept w Of finish e s h v ok g i) (opened w Of finish v) es run

-- On each actor the places of what committed rise, in the order of commits.
pub places_rise : {C : Type 0} (w : Fixed C) (Of : Tx → C → Type 0) (finish : C → List State → Alone) (es : List Event) → Given w Of finish → IsRun w es → (a : ℕ) → RivalsRise (visitors a (history w es).committed)
places_rise w Of finish es v run = (higher w Of finish es v run).places.rise

-- No two places are equal.
pub places_differ : {C : Type 0} (w : Fixed C) (Of : Tx → C → Type 0) (finish : C → List State → Alone) (es : List Event) → Given w Of finish → IsRun w es → PlacesDiffer (history w es).committed
places_differ w Of finish es v run = (higher w Of finish es v run).places.differ
