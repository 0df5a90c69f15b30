-- What is known after one more ACT is given up, and after all whose sets cross.
use Rattle.std.specs.Prelude.{◌≡◌, ◌≢◌, refl, ℕ, zero, suc, ◌+◌, ◌<◌, ◌≤◌, ◌==◌, not, ◌&&◌, ◌||◌, Bool, true, false, if◌then◌else◌, Option, Some, None, is_some, unwrap_or, option_map, List, [], ◌∷◌, ◌++◌, filter, length, map, slice_get, slice_set, slice_index_or}
use Rattle.std.specs.List.{AllByRecursion}
use Rattle.std.proofs.Common.{arith, sym, ap, subst, ◌∙◌}
use Rattle.std.proofs.lemmas.Bool.{true≢false, eq-eqb, eqb-true, ne_eqb}
use Rattle.std.proofs.lemmas.List.{length-map, length-set}
use Rattle.std.proofs.lemmas.Option.{slice_get-get_or}
use Rattle.std.proofs.lemmas.List.Folds.{list_any-append}
use Rattle.snap_base.proofs.Booleans.{first_true, not_false}
use Rattle.snap_base.specs.declared.ids.Bid.{Bid}
use Rattle.snap_base.proofs.Lists.{each_at, get_other, one_at, weaker}
use Rattle.snap_base.proofs.Options.{is_same_some, is_some_map}
use Rattle.protocol.specs.Fixed.{Text}
use Rattle.protocol.specs.Parts.{Pair, OfAct}
use Rattle.protocol.specs.Spread.{reaches}
use Rattle.protocol.specs.Words.{greatest, is_among}
use Rattle.audit_words.specs.Happenings.{crossing, cross_out, give_up}
use Rattle.audit_words.specs.Seen.{Begun, Crossed, Doom, Seen, act_in, first_doom, has_its_place, sets_cross, was_given_up, is_live, least}
use Rattle.audit_tale.specs.GivenUp.{ChangesWaiters, MayGiveUp, crosses, crossings}
use Rattle.audit_tale.specs.Knows.{IsKept, Knows, RiseFrom, TellsAct, TellsBatch, act_by, begun_of, bid_number, formed_of, member_of, owner_of, why_of}
use Rattle.audit_tale.specs.Stands.{KnowsAll, Stands, TellsTies, actor_number, pair_behind}
use Rattle.audit_tale.specs.declared.tales.ActTale.{ActTale}
use Rattle.audit_tale.specs.declared.tales.Owner.TheVariants as owners
use Rattle.audit_tale.specs.declared.tales.Reason as reasons
use Rattle.audit_tale.specs.declared.tales.Tale.{Tale}
use Rattle.audit_tale.specs.declared.told.ActTies.{ActTies}
use Rattle.audit_tale.specs.declared.told.Told.{Told}
use Rattle.audit_tale.specs.declared.told.Waiter.{Waiter}
use Rattle.audit_tale.proofs.Alike.{alike_known}
use Rattle.audit_tale.proofs.Lifts.{found_tid, get_set}
use Rattle.audit_tale.proofs.WhoIsTold.{act_there, begun_at, begun_set, ends_set}

-- ---- the reason of an ACT, as more are given up

abbrev pub or_else : Option Doom → Option Doom → Option Doom
or_else None o = o
or_else (Some d) o = Some d

pub doom_more : (u : ℕ) (ds es : List Doom) → first_doom u (ds ++ es) ≡ or_else (first_doom u ds) (first_doom u es)
doom_more u [] es = refl
doom_more u (d ∷ ds) es = by (d.tid == u) (doom_more u ds es)
  where
    by : (b : Bool) → first_doom u (ds ++ es) ≡ or_else (first_doom u ds) (first_doom u es) → (if b then Some d else first_doom u (ds ++ es)) ≡ or_else (if b then Some d else first_doom u ds) (first_doom u es)
    by true e = refl
    by false e = e

-- one that is not told to be given up
pub not_doomed : (u : ℕ) (ds : List Doom) → was_given_up ds u ≡ false → first_doom u ds ≡ None
not_doomed u ds e = by (first_doom u ds) refl
  where
    by : (o : Option Doom) → first_doom u ds ≡ o → first_doom u ds ≡ None
    by None q = q
    by (Some d) q = absurd (true≢false (sym (ap is_some q) ∙ e))

-- nobody gains from who is given up
pub gains_of : (u : ℕ) (g : ℕ → Bool) (ps : List Pair) → filter (λ p. p.ahead == u) (filter (λ p. not (g p.ahead)) ps) ≡ (if g u then [] else filter (λ p. p.ahead == u) ps)
gains_of u g [] = by (g u)
  where
    by : (b : Bool) → ◌≡◌ {A = List Pair} [] (if b then [] else [])
    by true = refl
    by false = refl
gains_of u g (p ∷ ps) = by (g p.ahead) refl (p.ahead == u) refl (g u) refl (gains_of u g ps)
  where
    by : (b : Bool) → g p.ahead ≡ b → (c : Bool) → (p.ahead == u) ≡ c → (e : Bool) → g u ≡ e → filter (λ p. p.ahead == u) (filter (λ p. not (g p.ahead)) ps) ≡ (if g u then [] else filter (λ p. p.ahead == u) ps)
        → filter (λ p. p.ahead == u) (if not b then p ∷ filter (λ p. not (g p.ahead)) ps else filter (λ p. not (g p.ahead)) ps) ≡ (if e then [] else if c then p ∷ filter (λ p. p.ahead == u) ps else filter (λ p. p.ahead == u) ps)
    by true i true j true k r = r ∙ ap (λ (z : Bool). if z then [] else filter (λ p. p.ahead == u) ps) k
    by true i true j false k r = absurd (true≢false (sym i ∙ (ap g (eqb-true p.ahead u j) ∙ k)))
    by true i false j e k r = r ∙ ap (λ (z : Bool). if z then [] else filter (λ p. p.ahead == u) ps) k
    by false i true j true k r = absurd (true≢false (sym k ∙ (ap g (sym (eqb-true p.ahead u j)) ∙ i)))
    by false i true j false k r = ap (λ (z : Bool). if z then p ∷ filter (λ p. p.ahead == u) (filter (λ p. not (g p.ahead)) ps) else filter (λ p. p.ahead == u) (filter (λ p. not (g p.ahead)) ps)) j ∙ ap (λ (zs : List Pair). p ∷ zs) (r ∙ ap (λ (z : Bool). if z then [] else filter (λ p. p.ahead == u) ps) k)
    by false i false j e k r = ap (λ (z : Bool). if z then p ∷ filter (λ p. p.ahead == u) (filter (λ p. not (g p.ahead)) ps) else filter (λ p. p.ahead == u) (filter (λ p. not (g p.ahead)) ps)) j ∙ (r ∙ ap (λ (z : Bool). if z then [] else filter (λ p. p.ahead == u) ps) k)

-- where it is given up before, nobody gains from it
no_gains : (u : ℕ) (g : ℕ → Bool) (ps : List Pair) → AllByRecursion (λ p. g p.ahead ≡ false) ps → g u ≡ true → filter (λ p. p.ahead == u) ps ≡ []
no_gains u g [] all e = refl
no_gains u g (p ∷ ps) all e = by (p.ahead == u) refl (no_gains u g ps all.1 e)
  where
    by : (c : Bool) → (p.ahead == u) ≡ c → filter (λ p. p.ahead == u) ps ≡ [] → (if c then p ∷ filter (λ p. p.ahead == u) ps else filter (λ p. p.ahead == u) ps) ≡ []
    by true q r = absurd (true≢false (sym e ∙ (ap g (sym (eqb-true p.ahead u q)) ∙ all.0)))
    by false q r = r

if_same : (b c : Bool) (ps : List Pair) → b ≡ c → (if b then [] else ps) ≡ (if c then [] else ps)
if_same b c ps e = ap (λ (z : Bool). if z then [] else ps) e

-- the same ones are given up, in another order
pub give_up_alike : (w : Text) (told : Told) (s : Seen) (ds es : List Doom) → ((u : ℕ) → first_doom u (s.dooms ++ ds) ≡ first_doom u (s.dooms ++ es)) → KnowsAll w told (give_up ds s) → KnowsAll w told (give_up es s)
give_up_alike w told s ds es same h =
    alike_known w told (give_up ds s) s.before (s.dooms ++ es) (filter (λ p. not (was_given_up (s.dooms ++ es) p.ahead)) s.gains)
    (record {
      before = λ u. refl;
      dooms = λ u. sym (same u);
      gains = λ u. gains_of u (was_given_up (s.dooms ++ es)) s.gains ∙ (if_same (was_given_up (s.dooms ++ es) u) (was_given_up (s.dooms ++ ds) u) (filter (λ p. p.ahead == u) s.gains) (ap is_some (sym (same u))) ∙ sym (gains_of u (was_given_up (s.dooms ++ ds)) s.gains));
    })
    h

-- nobody more is given up
pub give_up_none : (w : Text) (told : Told) (s : Seen) (ds : List Doom) → MayGiveUp s → ((u : ℕ) → first_doom u (s.dooms ++ ds) ≡ first_doom u s.dooms) → KnowsAll w told s → KnowsAll w told (give_up ds s)
give_up_none w told s ds may same h =
    alike_known w told s s.before (s.dooms ++ ds) (filter (λ p. not (was_given_up (s.dooms ++ ds) p.ahead)) s.gains)
    (record { before = λ u. refl; dooms = same; gains = λ u. gains_of u (was_given_up (s.dooms ++ ds)) s.gains ∙ uncut_entries u (was_given_up (s.dooms ++ ds) u) refl })
    h
  where
    uncut_entries : (u : ℕ) (b : Bool) → was_given_up (s.dooms ++ ds) u ≡ b → (if b then [] else filter (λ p. p.ahead == u) s.gains) ≡ filter (λ p. p.ahead == u) s.gains
    uncut_entries u true e = sym (no_gains u (was_given_up s.dooms) s.gains may.carries (ap is_some (sym (same u)) ∙ e))
    uncut_entries u false e = refl

all_kept : (test : Pair → Bool) (ps : List Pair) → AllByRecursion (λ p. test p ≡ true) (filter test ps)
all_kept test [] = tt
all_kept test (p ∷ ps) = by (test p) refl (all_kept test ps)
  where
    by : (b : Bool) → test p ≡ b → AllByRecursion (λ p. test p ≡ true) (filter test ps) → AllByRecursion (λ p. test p ≡ true) (if b then p ∷ filter test ps else filter test ps)
    by true e r = (e, r)
    by false e r = r

pub may_again : (s : Seen) (ds : List Doom) → MayGiveUp s → MayGiveUp (give_up ds s)
may_again s ds may = record {
  rise = may.rise;
  carries = weaker (λ p. not (was_given_up (s.dooms ++ ds) p.ahead) ≡ true) (λ p. was_given_up (s.dooms ++ ds) p.ahead ≡ false) (filter (λ p. not (was_given_up (s.dooms ++ ds) p.ahead)) s.gains) (λ p e. not_false (was_given_up (s.dooms ++ ds) p.ahead) e)
      (all_kept (λ p. not (was_given_up (s.dooms ++ ds) p.ahead)) s.gains);
}

-- ---- one ACT is given up

-- what is kept after the ACT at place i is given up
pub record GivesUpAt (i : ℕ) (why : reasons.Reason) (d : ActTale) (old new : Told) : Type 0 where
  pub ring : new.tale.ring ≡ old.tale.ring
  pub batches : new.tale.batches.items ≡ old.tale.batches.items
  pub acts : new.tale.acts.items ≡ slice_set old.tale.acts.items i (record (slice_index_or old.tale.acts.items i d) { given_up = Some why })
  pub owners : new.tale.owners.items ≡ old.tale.owners.items
  pub members : new.tale.members.items ≡ old.tale.members.items
  pub settled : new.tale.settled ≡ old.tale.settled
  pub next_c : new.tale.next_c ≡ old.tale.next_c
  pub actors : new.actors.items ≡ old.actors.items
  pub ways : new.ways.items ≡ old.ways.items
  pub ties : ChangesWaiters i (λ ws. []) old.ties.items new.ties.items
  pub uncut : new.uncut.items ≡ old.uncut.items
  pub going : new.going.items ≡ old.going.items

-- the places of two ACTs of one tid are one
low_at : (low j : ℕ) (xs : List Begun) (y : Begun) → RiseFrom low xs → slice_get xs j ≡ Some y → low ≤ y.tid
low_at low j [] y rise e = absurd (cc e)
low_at low zero (x ∷ xs) y rise e = (let same : x ≡ y = is_same_some e in omega (arith, rise.0, ap (λ (z : Begun). z.tid) same))
low_at low (suc j) (x ∷ xs) y rise e = omega (arith, low_at (x.tid + 1) j xs y rise.1 e, rise.0)

pub one_place : (low i j : ℕ) (xs : List Begun) (x y : Begun) → RiseFrom low xs → slice_get xs i ≡ Some x → slice_get xs j ≡ Some y → x.tid ≡ y.tid → i ≡ j
one_place low i j [] x y rise e f q = absurd (cc e)
one_place low zero zero (z ∷ xs) x y rise e f q = refl
one_place low zero (suc j) (z ∷ xs) x y rise e f q = (let same : z ≡ x = is_same_some e in absurd (omega (arith, low_at (z.tid + 1) j xs y rise.1 f, ap (λ (v : Begun). v.tid) same, q)))
one_place low (suc i) zero (z ∷ xs) x y rise e f q = (let same : z ≡ y = is_same_some f in absurd (omega (arith, low_at (z.tid + 1) i xs x rise.1 e, ap (λ (v : Begun). v.tid) same, q)))
one_place low (suc i) (suc j) (z ∷ xs) x y rise e f q = ap suc (one_place (z.tid + 1) i j xs x y rise.1 e f q)

module _ (w : Text) (i u : ℕ) (why : reasons.Reason) (d : ActTale) (old new : Told) (s : Seen) (may : MayGiveUp s) (h : KnowsAll w old s) (owned : owner_of u old.tale.owners.items ≡ Some (owners.Act i)) (l : i < length old.tale.acts.items)
    (still : was_given_up s.dooms u ≡ false) (c : GivesUpAt i why d old new) where
  abbrev x : ActTale
  x = slice_index_or old.tale.acts.items i d

  abbrev doom : Doom
  doom = record { tid = u; why = why_of why }

  abbrev after : Seen
  after = give_up (doom ∷ []) s

  there : act_in u s.acts ≡ Some (begun_of x)
  there = act_there w u i d old.tale s h.names owned l

  tid : x.tid.0 ≡ u
  tid = found_tid u s.acts (begun_of x) there

  own_doom : first_doom u (s.dooms ++ doom ∷ []) ≡ Some doom
  own_doom = doom_more u s.dooms (doom ∷ []) ∙ (ap (λ (o : Option Doom). or_else o (first_doom u (doom ∷ []))) (not_doomed u s.dooms still) ∙ ap (λ (b : Bool). if b then Some doom else None) (eq-eqb u u refl))

  other_doom : (v : ℕ) → v ≢ u → first_doom v (s.dooms ++ doom ∷ []) ≡ first_doom v s.dooms
  other_doom v n = doom_more v s.dooms (doom ∷ []) ∙ (ap (λ (b : Bool). or_else (first_doom v s.dooms) (if b then Some doom else None)) (ne_eqb u v (λ e. n (sym e))) ∙ none (first_doom v s.dooms))
    where
      none : (o : Option Doom) → or_else o None ≡ o
      none None = refl
      none (Some d) = refl

  not_live : is_live after u ≡ false
  not_live = ap (λ (o : Option Doom). not (is_some o) && not (has_its_place (OfAct u) s.members)) own_doom

  own_tells : TellsAct s x → TellsAct after (record x { given_up = Some why })
  own_tells k = record {
    before = k.before;
    behind = λ q. absurd (true≢false (sym q ∙ (ap (is_live after) tid ∙ not_live)));
    given_up = sym (ap (option_map (λ e. e.why)) (ap (λ (n : ℕ). first_doom n (s.dooms ++ doom ∷ [])) tid ∙ own_doom));
    decided = k.decided;
  }

  other_tells : (y : ActTale) → y.tid.0 ≢ x.tid.0 → TellsAct s y → TellsAct after y
  other_tells y n k =
      let same = other_doom y.tid.0 (λ e. n (e ∙ sym tid)) in
      record {
        before = k.before;
        behind = λ q. k.behind (sym (ap (λ (o : Option Doom). not (is_some o) && not (has_its_place (OfAct y.tid.0) s.members)) same) ∙ q);
        given_up = k.given_up ∙ ap (option_map (λ e. e.why)) (sym same);
        decided = k.decided;
      }

  given_up_names : Knows w new.tale after
  given_up_names = record {
    ring = c.ring ∙ h.names.ring;
    batches = ap (map formed_of) c.batches ∙ h.names.batches;
    marks = subst (AllByRecursion (TellsBatch after)) (sym c.batches) (weaker (TellsBatch s) (TellsBatch after) old.tale.batches.items (λ b k. record { committed = k.committed; settled = k.settled }) h.names.marks);
    acts = ap (map begun_of) c.acts ∙ (begun_set (λ y. record y { given_up = Some why }) i d old.tale.acts.items (λ y. refl) l ∙ h.names.acts);
    ends = subst (AllByRecursion (TellsAct after)) (sym c.acts) (ends_set s after (λ y. record y { given_up = Some why }) 1 i d old.tale.acts.items own_tells other_tells (subst (RiseFrom 1) (sym h.names.acts) may.rise) l h.names.ends);
    owners = λ n. h.names.owners n ∙ ap (λ os. act_by (owner_of n os) s.acts) (sym c.owners);
    kept = subst (AllByRecursion (IsKept (length s.acts))) (sym c.owners) h.names.kept;
    drawn = h.names.drawn ∙ ap (λ os. length os + 1) (sym c.owners);
    members = ap (map member_of) c.members ∙ h.names.members;
    settled = c.settled ∙ h.names.settled;
    number = c.next_c ∙ h.names.number;
  }

  got : slice_get s.acts i ≡ Some (begun_of x)
  got = ap (λ ys. slice_get ys i) (sym h.names.acts) ∙ begun_at i d old.tale.acts.items l

  gained_from : (v : ℕ) → filter (λ p. p.ahead == v) after.gains ≡ (if was_given_up (s.dooms ++ doom ∷ []) v then [] else filter (λ p. p.ahead == v) s.gains)
  gained_from v = gains_of v (was_given_up (s.dooms ++ doom ∷ [])) s.gains

  own_waiters : (y : ActTies) → y.waiters.items ≡ [] → map (pair_behind x.tid.0) y.waiters.items ≡ filter (λ p. p.ahead == x.tid.0) after.gains
  own_waiters y e =
      ap (map (pair_behind x.tid.0)) e
      ∙ sym (gained_from x.tid.0 ∙ ap (λ (b : Bool). if b then [] else filter (λ p. p.ahead == x.tid.0) s.gains) (ap is_some (ap (λ (n : ℕ). first_doom n (s.dooms ++ doom ∷ [])) tid ∙ own_doom)))

  other_gains : (v : ℕ) → v ≢ u → filter (λ p. p.ahead == v) s.gains ≡ filter (λ p. p.ahead == v) after.gains
  other_gains v n = by (was_given_up s.dooms v) refl ∙ sym (gained_from v)
    where
      by : (b : Bool) → was_given_up s.dooms v ≡ b → filter (λ p. p.ahead == v) s.gains ≡ (if was_given_up (s.dooms ++ doom ∷ []) v then [] else filter (λ p. p.ahead == v) s.gains)
      by true e = no_gains v (was_given_up s.dooms) s.gains may.carries e ∙ sym (ap (λ (b : Bool). if b then [] else filter (λ p. p.ahead == v) s.gains) (ap is_some (other_doom v n) ∙ e))
      by false e = sym (ap (λ (b : Bool). if b then [] else filter (λ p. p.ahead == v) s.gains) (ap is_some (other_doom v n) ∙ e))

  given_up_stands : Stands w new after
  given_up_stands =
      let k = h.stands in
      record {
        count = ap length c.actors ∙ k.count;
        actors = λ a z e. let f = k.actors a z (ap (λ ys. slice_get ys a) (sym c.actors) ∙ e) in record { entries = f.entries; placed = f.placed; ran = f.ran; kept = f.kept; last = f.last; floor = f.floor; write_floor = f.write_floor };
        nobody = λ a far. k.nobody a (omega (arith, far, ap length c.actors));
        batches = ap length c.ways ∙ k.batches;
        ways = λ j y e. let f = k.ways j y (ap (λ ys. slice_get ys j) (sym c.ways) ∙ e) in record { came = f.came; is_cut = f.is_cut; fall = f.fall };
        cuts = k.cuts;
        uncut = ap (map bid_number) c.uncut ∙ k.uncut;
        acts = c.ties.count ∙ k.acts;
        ties = λ j y b e f. ties_by j y b e f (j == i) refl;
        going = λ j b e live. ap (is_among j) c.going ∙ k.going j b e (live_before b.tid live);
      }
    where
      live_before : (v : ℕ) → is_live after v ≡ true → is_live s v ≡ true
      live_before v live = by (v == u) refl
        where
          by : (e : Bool) → (v == u) ≡ e → is_live s v ≡ true
          by true e = absurd (true≢false (sym live ∙ (ap (is_live after) (eqb-true v u e) ∙ not_live)))
          by false e = sym (ap (λ (o : Option Doom). not (is_some o) && not (has_its_place (OfAct v) s.members)) (other_doom v (λ q. true≢false (sym (eq-eqb v u q) ∙ e)))) ∙ live

      ties_by : (j : ℕ) (y : ActTies) (b : Begun) → slice_get new.ties.items j ≡ Some y → slice_get s.acts j ≡ Some b → (e : Bool) → (j == i) ≡ e → TellsTies after b.tid y
      ties_by j y b f g true e =
          let same : j ≡ i = eqb-true j i e in
          let z = one_at old.ties.items i (omega (arith, l, h.stands.acts, ap length h.names.acts, length-map old.tale.acts.items begun_of)) in
          let mine : begun_of x ≡ b = is_same_some (sym got ∙ (ap (slice_get s.acts) (sym same) ∙ g)) in
          let changed = c.ties.here z.0 y z.1 (ap (slice_get new.ties.items) (sym same) ∙ f) in
          let was = h.stands.ties i z.0 (begun_of x) z.1 got in
          subst (λ (q : Begun). TellsTies after q.tid y) mine
          (record {
            waiters = own_waiters y changed.0;
            left = λ a. ap (λ zs. is_among a (map actor_number zs)) changed.1 ∙ was.left a;
          })
      ties_by j y b f g false e =
          let apart : j ≢ i = λ q. true≢false (sym (eq-eqb j i q) ∙ e) in
          let other : b.tid ≢ u = λ q. apart (one_place 1 j i s.acts b (begun_of x) may.rise g got (q ∙ sym tid)) in
          let was = h.stands.ties j y b (sym (c.ties.others j apart) ∙ f) g in
          record { waiters = was.waiters ∙ other_gains b.tid other; left = was.left }

  pub given_up_known : KnowsAll w new after
  given_up_known = record { names = given_up_names; stands = given_up_stands }

-- ---- the waiters of one ACT change

pub changes_one : (at : ℕ) (f : List Waiter → List Waiter) (d z : ActTies) (old : List ActTies) → at < length old → d ≡ slice_index_or old at d → z.waiters.items ≡ f d.waiters.items → z.left.items ≡ d.left.items → ChangesWaiters at f old (slice_set old at z)
changes_one at f d z old near is waiters left =
    let was : slice_get old at ≡ Some d = slice_get-get_or old at d near ∙ ap Some (sym is) in
    record {
      count = length-set old at z;
      here = λ x y e g.
          let one : z ≡ y = is_same_some (sym (get_set old at z d was) ∙ g) in
          let two : d ≡ x = is_same_some (sym was ∙ e) in
          (ap (λ (v : ActTies). v.waiters.items) (sym one) ∙ (waiters ∙ ap (λ (v : ActTies). f v.waiters.items) two), ap (λ (v : ActTies). v.left.items) (sym one) ∙ (left ∙ ap (λ (v : ActTies). v.left.items) two));
      others = λ i n. get_other old i at z (λ e. n (sym e));
    }

-- ---- those whose sets cross

abbrev pub crossing_of : ℕ → Seen → ℕ → Doom
crossing_of a s v = record { tid = v; why = Crossed (greatest (s.before v)) (unwrap_or (least (s.behind v)) 0) a }

-- the reason of each among those that pass
crossing_by : (a v : ℕ) (s : Seen) (q : ℕ → Bool) (xs : List Begun) → first_doom v (map (crossing a s) (filter (λ x. q x.tid) xs)) ≡ (if is_some (act_in v xs) && q v then Some (crossing_of a s v) else None)
crossing_by a v s q [] = refl
crossing_by a v s q (x ∷ xs) = by (q x.tid) refl (x.tid == v) refl (crossing_by a v s q xs)
  where
    passed : ℕ → Bool → Bool → Option Doom
    passed n b c = if b && c then Some (crossing_of a s n) else None

    by : (b : Bool) → q x.tid ≡ b → (c : Bool) → (x.tid == v) ≡ c → first_doom v (map (crossing a s) (filter (λ x. q x.tid) xs)) ≡ (if is_some (act_in v xs) && q v then Some (crossing_of a s v) else None)
        → first_doom v (map (crossing a s) (if b then x ∷ filter (λ x. q x.tid) xs else filter (λ x. q x.tid) xs)) ≡ (if is_some (if c then Some x else act_in v xs) && q v then Some (crossing_of a s v) else None)
    by true e true f r =
        let i : x.tid ≡ v = eqb-true x.tid v f in
        ap (λ (z : Bool). if z then Some (crossing_of a s x.tid) else first_doom v (map (crossing a s) (filter (λ x. q x.tid) xs))) f
        ∙ (ap (λ (n : ℕ). Some (crossing_of a s n)) i ∙ sym (ap (λ (z : Bool). if z then Some (crossing_of a s v) else None) (ap q (sym i) ∙ e)))
    by true e false f r = ap (λ (z : Bool). if z then Some (crossing_of a s x.tid) else first_doom v (map (crossing a s) (filter (λ x. q x.tid) xs))) f ∙ r
    by false e true f r =
        let no : q v ≡ false = ap q (sym (eqb-true x.tid v f)) ∙ e in
        r ∙ (ap (λ (z : Bool). if is_some (act_in v xs) && z then Some (crossing_of a s v) else None) no ∙ (none (is_some (act_in v xs)) ∙ sym (ap (λ (z : Bool). if z then Some (crossing_of a s v) else None) no)))
      where
        none : (b : Bool) → (if b && false then Some (crossing_of a s v) else None) ≡ None
        none true = refl
        none false = refl
    by false e false f r = r

pub crossings_of : (a v : ℕ) (us : List ℕ) (s : Seen) → first_doom v (crossings a us s) ≡ (if is_some (act_in v s.acts) && (sets_cross s v && is_among v us) then Some (crossing_of a s v) else None)
crossings_of a v us s = crossing_by a v s (λ n. sets_cross s n && is_among n us) s.acts

-- ---- one of them

or_none : (o : Option Doom) → or_else o None ≡ o
or_none None = refl
or_none (Some d) = refl

-- an ACT that does not cross, or none at all
pub none_crosses : (w : Text) (told : Told) (a u : ℕ) (s : Seen) → MayGiveUp s → (is_some (act_in u s.acts) && sets_cross s u) ≡ false → KnowsAll w told s → KnowsAll w told (give_up (crossings a (u ∷ []) s) s)
none_crosses w told a u s may out h = give_up_none w told s (crossings a (u ∷ []) s) may same h
  where
    same : (v : ℕ) → first_doom v (s.dooms ++ crossings a (u ∷ []) s) ≡ first_doom v s.dooms
    same v = doom_more v s.dooms (crossings a (u ∷ []) s) ∙ (ap (or_else (first_doom v s.dooms)) (crossings_of a v (u ∷ []) s ∙ by (u == v) refl) ∙ or_none (first_doom v s.dooms))
      where
        over : (b c : Bool) → (b && c) ≡ false → (if b && (c && true) then Some (crossing_of a s v) else None) ≡ None
        over true true e = absurd (true≢false e)
        over true false e = refl
        over false c e = refl

        away : (b c : Bool) → (if b && (c && false) then Some (crossing_of a s v) else None) ≡ None
        away true true = refl
        away true false = refl
        away false c = refl

        by : (c : Bool) → (u == v) ≡ c → (if is_some (act_in v s.acts) && (sets_cross s v && (c || false)) then Some (crossing_of a s v) else None) ≡ None
        by true e = over (is_some (act_in v s.acts)) (sets_cross s v) (subst (λ (n : ℕ). (is_some (act_in n s.acts) && sets_cross s n) ≡ false) (eqb-true u v e) out)
        by false e = away (is_some (act_in v s.acts)) (sets_cross s v)

pub one_crosses : (w : Text) (told : Told) (a u : ℕ) (x : Begun) (d : Doom) (s : Seen) → act_in u s.acts ≡ Some x → sets_cross s u ≡ true → d ≡ crossing_of a s u → KnowsAll w told (give_up (d ∷ []) s) → KnowsAll w told (give_up (crossings a (u ∷ []) s) s)
one_crosses w told a u begun d s found so e h = give_up_alike w told s (d ∷ []) (crossings a (u ∷ []) s) same h
  where
    one : (v : ℕ) (c : Bool) → (u == v) ≡ c → (if c then Some (crossing_of a s u) else None) ≡ (if is_some (act_in v s.acts) && (sets_cross s v && (c || false)) then Some (crossing_of a s v) else None)
    one v true q =
        let i : u ≡ v = eqb-true u v q in
        ap (λ (n : ℕ). Some (crossing_of a s n)) i
        ∙ sym (ap (λ (b : Bool). if b && (sets_cross s v && true) then Some (crossing_of a s v) else None) (ap (λ (n : ℕ). is_some (act_in n s.acts)) (sym i) ∙ ap is_some found)
        ∙ ap (λ (b : Bool). if b && true then Some (crossing_of a s v) else None) (ap (sets_cross s) (sym i) ∙ so))
    one v false q = sym (away (is_some (act_in v s.acts)) (sets_cross s v))
      where
        away : (b c : Bool) → (if b && (c && false) then Some (crossing_of a s v) else None) ≡ None
        away true true = refl
        away true false = refl
        away false c = refl

    same : (v : ℕ) → first_doom v (s.dooms ++ d ∷ []) ≡ first_doom v (s.dooms ++ crossings a (u ∷ []) s)
    same v =
        doom_more v s.dooms (d ∷ [])
        ∙ (ap (or_else (first_doom v s.dooms)) (ap (λ (z : Doom). first_doom v (z ∷ [])) e ∙ (one v (u == v) refl ∙ sym (crossings_of a v (u ∷ []) s)))
        ∙ sym (doom_more v s.dooms (crossings a (u ∷ []) s)))

-- ---- one after the other

mix : (o : Option Doom) (k : Doom) (act placed r m c : Bool)
    → or_else o (if act && (((not (is_some o) && not placed) && r) && (m || (c || false))) then Some k else None)
    ≡ or_else (or_else o (if act && (((not (is_some o) && not placed) && r) && m) then Some k else None))
    (if act && (((not (is_some (or_else o (if act && (((not (is_some o) && not placed) && r) && m) then Some k else None))) && not placed) && r) && (c || false)) then Some k else None)
mix (Some d) k act placed r m c = refl
mix None k false placed r m c = refl
mix None k true true r m c = refl
mix None k true false false m c = refl
mix None k true false true true c = refl
mix None k true false true false c = refl

-- what is told behind those of these
abbrev crossed_by : ℕ → List ℕ → Seen → Seen
crossed_by a us s = give_up (crossings a us s) s

dooms_on : (a u v : ℕ) (us : List ℕ) (s : Seen) → first_doom v (s.dooms ++ crossings a (us ++ u ∷ []) s) ≡ first_doom v ((s.dooms ++ crossings a us s) ++ crossings a (u ∷ []) (crossed_by a us s))
dooms_on a u v us s =
    doom_more v s.dooms (crossings a (us ++ u ∷ []) s)
    ∙ (ap (or_else (first_doom v s.dooms)) (crossings_of a v (us ++ u ∷ []) s ∙ ap (λ (b : Bool). if is_some (act_in v s.acts) && (sets_cross s v && b) then Some (crossing_of a s v) else None) (list_any-append (λ n. n == v) us (u ∷ [])))
    ∙ (mix (first_doom v s.dooms) (crossing_of a s v) (is_some (act_in v s.acts)) (has_its_place (OfAct v) s.members) (reaches (greatest (s.before v)) (least (s.behind v))) (is_among v us) (u == v)
    ∙ sym (doom_more v (s.dooms ++ crossings a us s) (crossings a (u ∷ []) (crossed_by a us s))
    ∙ (ap (or_else (first_doom v (s.dooms ++ crossings a us s))) (crossings_of a v (u ∷ []) (crossed_by a us s))
    ∙ ap (λ (o : Option Doom). or_else o (if is_some (act_in v s.acts) && (((not (is_some o) && not (has_its_place (OfAct v) s.members)) && reaches (greatest (s.before v)) (least (s.behind v))) && ((u == v) || false)) then Some (crossing_of a s v) else None))
    (doom_more v s.dooms (crossings a us s) ∙ ap (or_else (first_doom v s.dooms)) (crossings_of a v us s))))))

gains_on : (a u v : ℕ) (us : List ℕ) (s : Seen) → filter (λ p. p.ahead == v) (filter (λ p. not (was_given_up (s.dooms ++ crossings a (us ++ u ∷ []) s) p.ahead)) s.gains)
    ≡ filter (λ p. p.ahead == v) (give_up (crossings a (u ∷ []) (crossed_by a us s)) (crossed_by a us s)).gains
gains_on a u v us s =
    gains_of v (was_given_up (s.dooms ++ crossings a (us ++ u ∷ []) s)) s.gains
    ∙ (if_same (was_given_up (s.dooms ++ crossings a (us ++ u ∷ []) s) v) (was_given_up ((s.dooms ++ crossings a us s) ++ crossings a (u ∷ []) (crossed_by a us s)) v) (filter (λ p. p.ahead == v) s.gains) (ap is_some (dooms_on a u v us s))
    ∙ (twice (was_given_up (s.dooms ++ crossings a us s) v) (was_given_up ((s.dooms ++ crossings a us s) ++ crossings a (u ∷ []) (crossed_by a us s)) v) (filter (λ p. p.ahead == v) s.gains) grows
    ∙ sym (gains_of v (was_given_up ((s.dooms ++ crossings a us s) ++ crossings a (u ∷ []) (crossed_by a us s))) (filter (λ p. not (was_given_up (s.dooms ++ crossings a us s) p.ahead)) s.gains)
    ∙ ap (λ (ps : List Pair). if was_given_up ((s.dooms ++ crossings a us s) ++ crossings a (u ∷ []) (crossed_by a us s)) v then [] else ps) (gains_of v (was_given_up (s.dooms ++ crossings a us s)) s.gains))))
  where
    twice : (b c : Bool) (ps : List Pair) → (b ≡ true → c ≡ true) → (if c then [] else ps) ≡ (if c then [] else if b then [] else ps)
    twice b true ps h = refl
    twice true false ps h = absurd (true≢false (sym (h refl)))
    twice false false ps h = refl

    grows : was_given_up (s.dooms ++ crossings a us s) v ≡ true → was_given_up ((s.dooms ++ crossings a us s) ++ crossings a (u ∷ []) (crossed_by a us s)) v ≡ true
    grows e = ap is_some (doom_more v (s.dooms ++ crossings a us s) (crossings a (u ∷ []) (crossed_by a us s))) ∙ by (first_doom v (s.dooms ++ crossings a us s)) (first_doom v (crossings a (u ∷ []) (crossed_by a us s))) e
      where
        by : (o r : Option Doom) → is_some o ≡ true → is_some (or_else o r) ≡ true
        by None r q = absurd (true≢false (sym q))
        by (Some d) r q = refl

-- those of these and then those of one more
pub crosses_on : (w : Text) (told : Told) (a u : ℕ) (us : List ℕ) (s : Seen) → KnowsAll w told (give_up (crossings a (u ∷ []) (give_up (crossings a us s) s)) (give_up (crossings a us s) s)) → KnowsAll w told (give_up (crossings a (us ++ u ∷ []) s) s)
crosses_on w told a u us s h =
    alike_known w told (give_up (crossings a (u ∷ []) (crossed_by a us s)) (crossed_by a us s)) s.before (s.dooms ++ crossings a (us ++ u ∷ []) s) (filter (λ p. not (was_given_up (s.dooms ++ crossings a (us ++ u ∷ []) s) p.ahead)) s.gains)
    (record { before = λ v. refl; dooms = λ v. dooms_on a u v us s; gains = λ v. gains_on a u v us s })
    h

-- none of none
pub crosses_none : (w : Text) (told : Told) (a : ℕ) (s : Seen) → MayGiveUp s → KnowsAll w told s → KnowsAll w told (give_up (crossings a [] s) s)
crosses_none w told a s may h = give_up_none w told s (crossings a [] s) may (λ v. doom_more v s.dooms (crossings a [] s) ∙ (ap (or_else (first_doom v s.dooms)) (crossings_of a v [] s ∙ no (is_some (act_in v s.acts)) (sets_cross s v) v) ∙ or_none (first_doom v s.dooms))) h
  where
    no : (b c : Bool) (v : ℕ) → (if b && (c && false) then Some (crossing_of a s v) else None) ≡ None
    no true true v = refl
    no true false v = refl
    no false c v = refl

filter_both : (p q : Begun → Bool) (xs : List Begun) → AllByRecursion (λ x. p x ≡ true → q x ≡ true) xs → filter (λ x. p x && q x) xs ≡ filter p xs
filter_both p q [] all = refl
filter_both p q (x ∷ xs) all = by (p x) refl (q x) refl (filter_both p q xs all.1)
  where
    by : (b : Bool) → p x ≡ b → (c : Bool) → q x ≡ c → filter (λ x. p x && q x) xs ≡ filter p xs → (if b && c then x ∷ filter (λ x. p x && q x) xs else filter (λ x. p x && q x) xs) ≡ (if b then x ∷ filter p xs else filter p xs)
    by true e true f r = ap (λ (ys : List Begun). x ∷ ys) r
    by true e false f r = absurd (true≢false (sym (all.0 e) ∙ f))
    by false e c f r = r

-- where all that cross are among these
pub all_cross : (w : Text) (told : Told) (a : ℕ) (us : List ℕ) (s : Seen) → AllByRecursion (λ x. sets_cross s x.tid ≡ true → is_among x.tid us ≡ true) s.acts → KnowsAll w told (give_up (crossings a us s) s) → KnowsAll w told (cross_out a s)
all_cross w told a us s all h = subst (λ (xs : List Begun). KnowsAll w told (give_up (map (crossing a s) xs) s)) (filter_both (λ x. sets_cross s x.tid) (λ x. is_among x.tid us) s.acts all) h

-- ---- whether it crosses, as it is kept

module _ (w : Text) (i u : ℕ) (d : ActTale) (tale : Tale) (s : Seen) (h : Knows w tale s) (owned : owner_of u tale.owners.items ≡ Some (owners.Act i)) (l : i < length tale.acts.items) where
  abbrev kept : ActTale
  kept = slice_index_or tale.acts.items i d

  pub begun_there : act_in u s.acts ≡ Some (begun_of (slice_index_or tale.acts.items i d))
  begun_there = act_there w u i d tale s h owned l

  pub own_tid : (slice_index_or tale.acts.items i d).tid.0 ≡ u
  own_tid = found_tid u s.acts (begun_of kept) begun_there

  tells : TellsAct s kept
  tells = each_at (TellsAct s) tale.acts.items i d l h.ends

  pub own_given_up : is_some (slice_index_or tale.acts.items i d).given_up ≡ was_given_up s.dooms u
  own_given_up = sym (is_some_map why_of kept.given_up) ∙ (ap is_some tells.given_up ∙ (is_some_map (λ e. e.why) (first_doom kept.tid.0 s.dooms) ∙ ap (was_given_up s.dooms) own_tid))

  pub own_before : (slice_index_or tale.acts.items i d).before.0 ≡ greatest (s.before u)
  own_before = tells.before ∙ ap (λ (n : ℕ). greatest (s.before n)) own_tid

  own_live : (not (is_some kept.given_up) && not kept.decided) ≡ is_live s u
  own_live = ap (λ (b : Bool). not b && not kept.decided) own_given_up ∙ ap (λ (b : Bool). not (was_given_up s.dooms u) && not b) (tells.decided ∙ ap (λ (n : ℕ). has_its_place (OfAct n) s.members) own_tid)

  own_behind : is_live s u ≡ true → option_map bid_number kept.behind ≡ least (s.behind u)
  own_behind live = tells.behind (ap (is_live s) own_tid ∙ live) ∙ ap (λ (n : ℕ). least (s.behind n)) own_tid

  pub own_crosses : crosses (slice_index_or tale.acts.items i d) ≡ sets_cross s u
  own_crosses = by (is_live s u) refl
    where
      by : (b : Bool) → is_live s u ≡ b → ((not (is_some kept.given_up) && not kept.decided) && reaches kept.before.0 (option_map bid_number kept.behind)) ≡ (is_live s u && reaches (greatest (s.before u)) (least (s.behind u)))
      by true e =
          ap (λ (b : Bool). b && reaches kept.before.0 (option_map bid_number kept.behind)) own_live
          ∙ (ap (λ (n : ℕ). is_live s u && reaches n (option_map bid_number kept.behind)) own_before ∙ ap (λ (o : Option ℕ). is_live s u && reaches (greatest (s.before u)) o) (own_behind e))
      by false e =
          ap (λ (b : Bool). b && reaches kept.before.0 (option_map bid_number kept.behind)) (own_live ∙ e)
          ∙ sym (ap (λ (b : Bool). b && reaches (greatest (s.before u)) (least (s.behind u))) e)

  pub crossing_is : (a : ℕ) (k : Bid) → crosses (slice_index_or tale.acts.items i d) ≡ true → (slice_index_or tale.acts.items i d).behind ≡ Some k
      → (was_given_up s.dooms u ≡ false) × (record { tid = u; why = Crossed (slice_index_or tale.acts.items i d).before.0 k.0 a } ≡ crossing_of a s u)
  crossing_is a k so e =
      let live : is_live s u ≡ true = sym own_live ∙ first_true (not (is_some kept.given_up) && not kept.decided) (reaches kept.before.0 (option_map bid_number kept.behind)) so in
      let behind : least (s.behind u) ≡ Some k.0 = sym (own_behind live) ∙ ap (option_map bid_number) e in (
        not_false (was_given_up s.dooms u) (first_true (not (was_given_up s.dooms u)) (not (has_its_place (OfAct u) s.members)) live),
        ap (λ (n : ℕ). record { tid = u; why = Crossed n k.0 a }) own_before ∙ ap (λ (o : Option ℕ). record { tid = u; why = Crossed (greatest (s.before u)) (unwrap_or o 0) a }) (sym behind),
      )

  -- the same of what was read there
  pub crossing_now : (a : ℕ) (k : Bid) (x : ActTale) → x ≡ slice_index_or tale.acts.items i d → crosses x ≡ true → x.behind ≡ Some k → (was_given_up s.dooms u ≡ false) × ((sets_cross s u ≡ true) × (record { tid = u; why = Crossed x.before.0 k.0 a } ≡ crossing_of a s u))
  crossing_now a k x e =
      subst (λ (y : ActTale). crosses y ≡ true → y.behind ≡ Some k → (was_given_up s.dooms u ≡ false) × ((sets_cross s u ≡ true) × (record { tid = u; why = Crossed y.before.0 k.0 a } ≡ crossing_of a s u))) (sym e)
      (λ so b. let z = crossing_is a k so b in (z.0, (sym own_crosses ∙ so, z.1)))
