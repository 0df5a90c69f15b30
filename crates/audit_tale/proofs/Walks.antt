-- A walk over those that rise: one ACT at a time, and those that stand behind one.
use Rattle.std.specs.Prelude.{◌≡◌, refl, ℕ, zero, suc, ◌+◌, ◌<◌, ◌≤◌, ◌==◌, ◌||◌, Bool, true, false, if◌then◌else◌, Some, None, is_some, List, [], ◌∷◌, ◌++◌, filter, length, map, slice_get, slice_index_or, take}
use Rattle.std.specs.List.{AllByRecursion}
use Rattle.std.proofs.Common.{arith, sym, ap, subst, ◌∙◌}
use Rattle.std.proofs.lemmas.Bool.{true≢false, eqb-true, eq-eqb}
use Rattle.std.proofs.lemmas.List.{length-map, take-append-le, take_more}
use Rattle.std.proofs.lemmas.List.Folds.{list_any-append}
use Rattle.snap_base.proofs.Booleans.{either_way, or_false, or_true}
use Rattle.snap_base.proofs.Lists.{all_of, all_push, both_all, each_at, map_twice, one_at, weaker}
use Rattle.snap_base.proofs.Options.{is_no_none}
use Rattle.snap_base.specs.declared.ids.Tid.{Tid}
use Rattle.protocol.specs.Fixed.{Text}
use Rattle.protocol.specs.Meant.{tid_number}
use Rattle.protocol.specs.Parts.{Pair}
use Rattle.protocol.specs.Words.{greatest, is_among}
use Rattle.audit_words.specs.Seen.{Seen, act_in, was_admitted}
use Rattle.audit_tale.specs.Knows.{begun_of, owner_of}
use Rattle.audit_tale.specs.Risen.{AreRising, HasRisen, IsClosed, MayRise, behind_it, risen, tids}
use Rattle.audit_tale.specs.Stands.{KnowsAll, pair_behind}
use Rattle.audit_tale.specs.declared.tales.ActTale.{ActTale}
use Rattle.audit_tale.specs.declared.tales.Owner.TheVariants as owners
use Rattle.audit_tale.specs.declared.told.ActTies.{ActTies}
use Rattle.audit_tale.specs.declared.told.Told.{Told}
use Rattle.audit_tale.specs.declared.told.Waiter.{Waiter}
use Rattle.audit_tale.proofs.Alike.{alike_known}
use Rattle.audit_tale.proofs.Dooms.{begun_there, own_before, own_tid}
use Rattle.audit_tale.proofs.Spreads.{each_among, risen_else, risen_grows, risen_here}
use Rattle.audit_tale.proofs.WhoIsTold.{begun_at}

-- ---- more of them rise

among_more : (u v : ℕ) (us : List ℕ) → is_among u (us ++ v ∷ []) ≡ (is_among u us || (v == u))
among_more u v us = list_any-append (λ n. n == u) us (v ∷ []) ∙ ap (λ (b : Bool). is_among u us || b) (or_false (v == u))

pub among_still : (u : ℕ) (us vs : List ℕ) → is_among u us ≡ true → is_among u (us ++ vs) ≡ true
among_still u us vs e = list_any-append (λ n. n == u) us vs ∙ ap (λ (b : Bool). b || is_among u vs) e

among_last : (v : ℕ) (us : List ℕ) → is_among v (us ++ v ∷ []) ≡ true
among_last v us = among_more v v us ∙ (ap (λ (b : Bool). is_among v us || b) (eq-eqb v v refl) ∙ or_true (is_among v us))

-- the sets of more grow
pub risen_wider : (m : ℕ) (us vs : List ℕ) (b : ℕ → List ℕ) (u : ℕ) → greatest (risen m us b u) ≤ greatest (risen m (us ++ vs) b u)
risen_wider m us vs b u = by (is_among u us) refl
  where
    by : (c : Bool) → is_among u us ≡ c → greatest (risen m us b u) ≤ greatest (risen m (us ++ vs) b u)
    by true e = omega (arith, risen_here m us b u e, risen_here m (us ++ vs) b u (among_still u us vs e))
    by false e = omega (arith, risen_else m us b u e, risen_grows m (us ++ vs) b u)

-- one more that rises
risen_more : (m v : ℕ) (us : List ℕ) (b : ℕ → List ℕ) (u : ℕ) → greatest (risen m (us ++ v ∷ []) b u) ≡ greatest (risen m (v ∷ []) (risen m us b) u)
risen_more m v us b u = by (is_among u us) refl (v == u) refl
  where
    by : (c : Bool) → is_among u us ≡ c → (d : Bool) → (v == u) ≡ d → greatest (risen m (us ++ v ∷ []) b u) ≡ greatest (risen m (v ∷ []) (risen m us b) u)
    by true e true f = omega (arith, risen_here m (us ++ v ∷ []) b u (among_still u us (v ∷ []) e), risen_here m (v ∷ []) (risen m us b) u (ap (λ (z : Bool). z || false) f), risen_here m us b u e)
    by true e false f = omega (arith, risen_here m (us ++ v ∷ []) b u (among_still u us (v ∷ []) e), risen_else m (v ∷ []) (risen m us b) u (ap (λ (z : Bool). z || false) f), risen_here m us b u e)
    by false e true f = omega (arith, risen_here m (us ++ v ∷ []) b u (among_more u v us ∙ (ap (λ (z : Bool). z || (v == u)) e ∙ f)), risen_here m (v ∷ []) (risen m us b) u (ap (λ (z : Bool). z || false) f), risen_else m us b u e)
    by false e false f = omega (arith, risen_else m (us ++ v ∷ []) b u (among_more u v us ∙ (ap (λ (z : Bool). z || (v == u)) e ∙ f)), risen_else m (v ∷ []) (risen m us b) u (ap (λ (z : Bool). z || false) f), risen_else m us b u e)

-- ---- one ACT

abbrev pub with_before : (ℕ → List ℕ) → Seen → Seen
with_before b s = record s { before = b }

pub may_still : (s : Seen) (b : ℕ → List ℕ) → MayRise s → MayRise (with_before b s)
may_still s b may = record { rise = may.rise; behind = may.behind; sealed = may.sealed }

-- the first one
pub first_rises : (w : Text) (m t : ℕ) (new : Told) (s : Seen) → was_admitted t s ≡ true → greatest (s.before t) ≤ m → KnowsAll w new (with_before (risen m (t ∷ []) s.before) s) → HasRisen w m t (t ∷ []) [] new s
first_rises w m t new s there le h = record {
  knows = h;
  rising = record {
    first = ap (λ (b : Bool). b || false) (eq-eqb t t refl);
    there = (there, tt);
    below = (le, tt);
    reached = λ r closed up. (up, tt);
    carried = all_of (λ p. is_among p.ahead [] ≡ true → m ≤ greatest (risen m (t ∷ []) s.before p.behind)) s.gains (λ p e. absurd (true≢false (sym e)));
  };
}

-- one that is no ACT
pub nobody_lifts : (w : Text) (m t v : ℕ) (us visited : List ℕ) (told : Told) (s : Seen) → act_in v s.acts ≡ None → HasRisen w m t us visited told s → HasRisen w m t us visited told s × (was_admitted v s ≡ true → m ≤ greatest (risen m us s.before v))
nobody_lifts w m t v us visited told s none h = (h, λ e. absurd (is_no_none (act_in v s.acts) none e))

-- one that is not below
pub high_lifts : (w : Text) (m t v i : ℕ) (d : ActTale) (us visited : List ℕ) (told : Told) (s : Seen) → owner_of v told.tale.owners.items ≡ Some (owners.Act i) → i < length told.tale.acts.items → m ≤ (slice_index_or told.tale.acts.items i d).before.0
    → HasRisen w m t us visited told s → HasRisen w m t us visited told s × (was_admitted v s ≡ true → m ≤ greatest (risen m us s.before v))
high_lifts w m t v i d us visited told s owned l up h = (h, λ e. omega (arith, up, own_before w i v d told.tale (with_before (risen m us s.before) s) h.knows.names owned l))

-- one that is below
pub low_lifts : (w : Text) (m t v i : ℕ) (d : ActTale) (us more visited : List ℕ) (told new : Told) (s : Seen) → owner_of v told.tale.owners.items ≡ Some (owners.Act i) → i < length told.tale.acts.items → (slice_index_or told.tale.acts.items i d).before.0 < m
    → ((r : ℕ → ℕ) → IsClosed r s.gains → m ≤ r t → m ≤ r v) → more ≡ us ++ v ∷ [] → HasRisen w m t us visited told s
    → ((le : greatest (risen m us s.before v) ≤ m) → KnowsAll w new (with_before (risen m (v ∷ []) (risen m us s.before)) s))
    → HasRisen w m t more visited new s × (was_admitted v s ≡ true → m ≤ greatest (risen m more s.before v))
low_lifts w m t v i d us more visited told new s owned l low reach e h raise =
    let own = own_before w i v d told.tale (with_before (risen m us s.before) s) h.knows.names owned l in
    let le : greatest (risen m us s.before v) ≤ m = omega (arith, own, low) in
    let there : was_admitted v s ≡ true = ap is_some (begun_there w i v d told.tale (with_before (risen m us s.before) s) h.knows.names owned l) in
    let all : HasRisen w m t (us ++ v ∷ []) visited new s × (was_admitted v s ≡ true → m ≤ greatest (risen m (us ++ v ∷ []) s.before v)) = (
      record {
        knows = alike_known w new (with_before (risen m (v ∷ []) (risen m us s.before)) s) (risen m (us ++ v ∷ []) s.before) s.dooms s.gains (record { before = risen_more m v us s.before; dooms = λ u. refl; gains = λ u. refl }) (raise le);
        rising = record {
          first = among_still t us (v ∷ []) h.rising.first;
          there = all_push (λ u. was_admitted u s ≡ true) us v h.rising.there there;
          below = all_push (λ u. greatest (s.before u) ≤ m) us v h.rising.below (omega (arith, le, risen_grows m us s.before v));
          reached = λ r closed up. all_push (λ u. m ≤ r u) us v (h.rising.reached r closed up) (reach r closed up);
          carried = weaker (λ p. is_among p.ahead visited ≡ true → m ≤ greatest (risen m us s.before p.behind)) (λ p. is_among p.ahead visited ≡ true → m ≤ greatest (risen m (us ++ v ∷ []) s.before p.behind)) s.gains
              (λ p k q. omega (arith, k q, risen_wider m us (v ∷ []) s.before p.behind)) h.rising.carried;
        };
      },
      λ q. omega (arith, risen_here m (us ++ v ∷ []) s.before v (among_last v us)),
    ) in
    subst (λ (z : List ℕ). HasRisen w m t z visited new s × (was_admitted v s ≡ true → m ≤ greatest (risen m z s.before v))) (sym e) all

-- ---- those that stand behind one

-- whatever is closed has those behind at least as high
behind_up : (r : ℕ → ℕ) (u : ℕ) (gs : List Pair) → IsClosed r gs → AllByRecursion (λ n. r u ≤ r n) (behind_it u gs)
behind_up r u [] closed = tt
behind_up r u (p ∷ ps) closed = by (p.ahead == u) refl (behind_up r u ps closed.1)
  where
    by : (b : Bool) → (p.ahead == u) ≡ b → AllByRecursion (λ n. r u ≤ r n) (behind_it u ps) → AllByRecursion (λ n. r u ≤ r n) (map (λ p. p.behind) (if b then p ∷ filter (λ p. p.ahead == u) ps else filter (λ p. p.ahead == u) ps))
    by true e k = (omega (arith, ap r (eqb-true p.ahead u e), closed.0), k)
    by false e k = k

pub each_number : (P : ℕ → Type 0) (ns : List ℕ) (i : ℕ) → i < length ns → AllByRecursion P ns → P (slice_index_or ns i 0)
each_number P ns i l all = each_at P ns i 0 l all

-- so each of them may rise
pub reach_behind : (m t u n : ℕ) (us visited vs : List ℕ) (s : Seen) (i : ℕ) → AreRising m t us visited s → is_among u us ≡ true → vs ≡ behind_it u s.gains → i < length vs → n ≡ slice_index_or vs i 0 → (r : ℕ → ℕ) → IsClosed r s.gains → m ≤ r t → m ≤ r n
reach_behind m t u n us visited vs s i rising there e l same r closed up =
    let here = each_among (λ v. m ≤ r v) us u (rising.reached r closed up) there in
    let all = subst (AllByRecursion (λ v. r u ≤ r v)) (sym e) (behind_up r u s.gains closed) in
    omega (arith, here, each_number (λ v. r u ≤ r v) vs i l all, ap r same)

-- where those behind it are up, it is visited
un_behind : (P : ℕ → Type 0) (u : ℕ) (gs : List Pair) → AllByRecursion P (behind_it u gs) → AllByRecursion (λ p. (p.ahead == u) ≡ true → P p.behind) gs
un_behind P u [] all = tt
un_behind P u (p ∷ ps) all = by (p.ahead == u) refl all (un_behind P u ps)
  where
    by : (b : Bool) → (p.ahead == u) ≡ b → AllByRecursion P (map (λ p. p.behind) (if b then p ∷ filter (λ p. p.ahead == u) ps else filter (λ p. p.ahead == u) ps)) → (AllByRecursion P (behind_it u ps) → AllByRecursion (λ p. (p.ahead == u) ≡ true → P p.behind) ps)
        → ((p.ahead == u) ≡ true → P p.behind) × AllByRecursion (λ p. (p.ahead == u) ≡ true → P p.behind) ps
    by true e k r = (λ q. k.0, r k.1)
    by false e k r = (λ q. absurd (true≢false (sym q ∙ e)), r k)

pub visited_more : (w : Text) (m t u : ℕ) (us visited vs : List ℕ) (told : Told) (s : Seen) → MayRise s → vs ≡ behind_it u s.gains → HasRisen w m t us visited told s → AllByRecursion (λ v. was_admitted v s ≡ true → m ≤ greatest (risen m us s.before v)) vs
    → HasRisen w m t us (visited ++ u ∷ []) told s
visited_more w m t u us visited vs told s may e h up = record {
  knows = h.knows;
  rising = record {
    first = h.rising.first;
    there = h.rising.there;
    below = h.rising.below;
    reached = h.rising.reached;
    carried = both_all (λ p. is_among p.ahead visited ≡ true → m ≤ greatest (risen m us s.before p.behind)) (λ p. (u == p.ahead) ≡ true → m ≤ greatest (risen m us s.before p.behind)) (λ p. is_among p.ahead (visited ++ u ∷ []) ≡ true → m ≤ greatest (risen m us s.before p.behind)) s.gains
        (λ p k g q. either_way (is_among p.ahead visited) (u == p.ahead) (sym (among_more p.ahead u visited) ∙ q) k g) h.rising.carried new;
  };
}
  where
    new : AllByRecursion (λ p. (u == p.ahead) ≡ true → m ≤ greatest (risen m us s.before p.behind)) s.gains
    new = both_all (λ p. (p.ahead == u) ≡ true → was_admitted p.behind s ≡ true → m ≤ greatest (risen m us s.before p.behind)) (λ p. was_admitted p.behind s ≡ true) (λ p. (u == p.ahead) ≡ true → m ≤ greatest (risen m us s.before p.behind)) s.gains
        (λ p k g q. k (eq-eqb p.ahead u (sym (eqb-true u p.ahead q))) g) (un_behind (λ v. was_admitted v s ≡ true → m ≤ greatest (risen m us s.before v)) u s.gains (subst (AllByRecursion (λ v. was_admitted v s ≡ true → m ≤ greatest (risen m us s.before v))) e up)) may.behind

-- who is kept as waiting stands behind
pub waiting_known : (w : Text) (u i : ℕ) (told : Told) (x : ActTies) (s : Seen) → KnowsAll w told s → owner_of u told.tale.owners.items ≡ Some (owners.Act i) → i < length told.tale.acts.items → slice_get told.ties.items i ≡ Some x
    → map (λ (z : Waiter). z.tid.0) x.waiters.items ≡ behind_it u s.gains
waiting_known w u i told x s h owned l e =
    let d = (one_at told.tale.acts.items i l).0 in
    let tid = own_tid w i u d told.tale s h.names owned l in
    let got : slice_get s.acts i ≡ Some (begun_of (slice_index_or told.tale.acts.items i d)) = ap (λ ys. slice_get ys i) (sym h.names.acts) ∙ begun_at i d told.tale.acts.items l in
    let ties = h.stands.ties i x (begun_of (slice_index_or told.tale.acts.items i d)) e got in
    sym (map_twice (λ (p : Pair). p.behind) (pair_behind (slice_index_or told.tale.acts.items i d).tid.0) x.waiters.items)
    ∙ (ap (map (λ (p : Pair). p.behind)) ties.waiters ∙ ap (λ (n : ℕ). behind_it n s.gains) tid)

pub ties_there : (w : Text) (i : ℕ) (told : Told) (s : Seen) → KnowsAll w told s → i < length told.tale.acts.items → i < length told.ties.items
ties_there w i told s h l = omega (arith, l, h.stands.acts, ap length h.names.acts, length-map told.tale.acts.items begun_of)

-- ---- the steps of the walk

pub act_known : (w : Text) (u i : ℕ) (told : Told) (s : Seen) → KnowsAll w told s → owner_of u told.tale.owners.items ≡ Some (owners.Act i) → i < length told.tale.acts.items → was_admitted u s ≡ true
act_known w u i told s h owned l = ap is_some (begun_there w i u (one_at told.tale.acts.items i l).0 told.tale s h.names owned l)

pub index_tid : (ts : List Tid) (i : ℕ) (d : Tid) → i < length ts → slice_index_or (tids ts) i 0 ≡ (slice_index_or ts i d).0
index_tid [] i d l = absurd (omega (arith, l))
index_tid (t ∷ ts) zero d l = refl
index_tid (t ∷ ts) (suc i) d l = index_tid ts i d (omega (arith, l))

among_at : (ts : List Tid) (i : ℕ) (d : Tid) → i < length ts → is_among (slice_index_or ts i d).0 (tids ts) ≡ true
among_at [] i d l = absurd (omega (arith, l))
among_at (t ∷ ts) zero d l = ap (λ (b : Bool). b || is_among t.0 (tids ts)) (eq-eqb t.0 t.0 refl)
among_at (t ∷ ts) (suc i) d l = ap (λ (b : Bool). (t.0 == (slice_index_or ts i d).0) || b) (among_at ts i d (omega (arith, l))) ∙ or_true (t.0 == (slice_index_or ts i d).0)

pub visit_next : (ts new : List Tid) (us : List ℕ) (i : ℕ) (d : Tid) → i < length ts → tids new ≡ tids ts ++ us → take i (tids ts) ++ (slice_index_or ts i d).0 ∷ [] ≡ take (i + 1) (tids new)
visit_next ts new us i d l e =
    let many : i + 1 ≤ length (tids ts) = omega (arith, l, length-map ts tid_number) in
    sym (ap (take (i + 1)) e ∙ (take-append-le (i + 1) (tids ts) us many ∙ (take_more (tids ts) i 0 (omega (arith, l, length-map ts tid_number)) ∙ ap (λ (n : ℕ). take i (tids ts) ++ n ∷ []) (index_tid ts i d l))))

-- one more of those that stand behind
pub walk_next : (w : Text) (m t n i : ℕ) (us more es visited vs : List ℕ) (told new : Told) (s : Seen) → i < length vs → n ≡ slice_index_or vs i 0 → more ≡ us ++ es → AllByRecursion (λ v. was_admitted v s ≡ true → m ≤ greatest (risen m us s.before v)) (take i vs)
    → HasRisen w m t more visited new s × (was_admitted n s ≡ true → m ≤ greatest (risen m more s.before n)) → HasRisen w m t more visited new s × AllByRecursion (λ v. was_admitted v s ≡ true → m ≤ greatest (risen m more s.before v)) (take (i + 1) vs)
walk_next w m t n i us more es visited vs told new s l same e before lifted = (
  lifted.0,
  subst (AllByRecursion (λ v. was_admitted v s ≡ true → m ≤ greatest (risen m more s.before v))) (sym (take_more vs i 0 l))
      (all_push (λ v. was_admitted v s ≡ true → m ≤ greatest (risen m more s.before v)) (take i vs) (slice_index_or vs i 0)
      (weaker (λ v. was_admitted v s ≡ true → m ≤ greatest (risen m us s.before v)) (λ v. was_admitted v s ≡ true → m ≤ greatest (risen m more s.before v)) (take i vs) (λ v k q. omega (arith, k q, wider v)) before)
      (subst (λ v. was_admitted v s ≡ true → m ≤ greatest (risen m more s.before v)) same lifted.1)),
)
  where
    wider : (v : ℕ) → greatest (risen m us s.before v) ≤ greatest (risen m more s.before v)
    wider v = subst (λ (z : List ℕ). greatest (risen m us s.before v) ≤ greatest (risen m z s.before v)) (sym e) (risen_wider m us es s.before v)

pub next_tids : (ts : List Tid) (i : ℕ) (d : Tid) → i < length ts → take i (tids ts) ++ (slice_index_or ts i d).0 ∷ [] ≡ take (i + 1) (tids ts)
next_tids ts i d l = sym (take_more (tids ts) i 0 (omega (arith, l, length-map ts tid_number)) ∙ ap (λ (n : ℕ). take i (tids ts) ++ n ∷ []) (index_tid ts i d l))

-- the ACTs to visit next, once those behind one have risen
pub rises_on : (w : Text) (m t : ℕ) (ts new : List Tid) (us : List ℕ) (i : ℕ) (u : Tid) (told : Told) (s : Seen) → i < length ts → u ≡ slice_index_or ts i u → tids new ≡ tids ts ++ us → HasRisen w m t (tids new) (take i (tids ts) ++ u.0 ∷ []) told s
    → HasRisen w m t (tids new) (take (i + 1) (tids new)) told s
rises_on w m t ts new us i u told s l same e h = subst (λ (z : List ℕ). HasRisen w m t (tids new) z told s) (ap (λ (v : Tid). take i (tids ts) ++ v.0 ∷ []) same ∙ visit_next ts new us i u l e) h

pub among_this : (ts : List Tid) (i : ℕ) (u : Tid) → i < length ts → u ≡ slice_index_or ts i u → is_among u.0 (tids ts) ≡ true
among_this ts i u l same = ap (λ (v : Tid). is_among v.0 (tids ts)) same ∙ among_at ts i u l

-- those that stand behind the visited one may rise
pub all_waiting : (w : Text) (m t u : ℕ) (us visited : List ℕ) (told : Told) (s : Seen) → is_among u us ≡ true → HasRisen w m t us visited told s → was_admitted u s ≡ true
all_waiting w m t u us visited told s there h = each_among (λ n. was_admitted n s ≡ true) us u h.rising.there there
