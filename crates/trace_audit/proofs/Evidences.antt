-- What is kept of ACTs and batches is evidence exactly where the events give it.
use Rattle.std.specs.Prelude.{◌≡◌, refl, ℕ, zero, suc, ◌+◌, ◌<◌, ◌≤◌, ◌==◌, nat_le, ◌&&◌, ◌||◌, ◌⊎◌, Bool, true, false, if◌then◌else◌, MatchBool, Option, Some, None, option_map, List, [], ◌∷◌, find, filter, length, map, slice_get, slice_index_or}
use Rattle.std.specs.List.{AllByRecursion, list_any}
use Rattle.std.proofs.Common.{arith, sym, ap, subst, inl, inr, ◌∙◌}
use Rattle.std.proofs.lemmas.Bool.{true≢false, eqb-true, ne_eqb}
use Rattle.snap_base.proofs.Lists.{all_found, weaker}
use Rattle.snap_base.proofs.Options.{none_is_some, same_some, some_mapped}
use Rattle.snap_base.specs.declared.ids.Bid.{Bid}
use Rattle.protocol.specs.Fixed.{Text}
use Rattle.protocol.specs.OnRing.{Formed}
use Rattle.audit_words.specs.Clauses.{HasDied, IsGivenUpFor, IsTakenAlong, IsTakenPact, tells_batch_code}
use Rattle.audit_words.specs.Papers.{Line}
use Rattle.audit_words.specs.Seen.{Begun, Cut, Doom, Why, Older, Taken, Seen, first_doom}
use Rattle.audit_tale.specs.Knows.{AreDrawn, Knows, TellsAct, begun_of, bid_number, formed_of, why_of}
use Rattle.audit_tale.specs.Stands.{KnowsAll, Stands, cuts_from}
use Rattle.audit_tale.specs.declared.tales.ActTale.{ActTale}
use Rattle.audit_tale.specs.declared.tales.BatchTale.{BatchTale}
use Rattle.audit_tale.specs.declared.told.BatchWay.{BatchWay}
use Rattle.audit_tale.specs.declared.told.Fall.{Fall}
use Rattle.audit_tale.specs.declared.told.Told.{Told}
use Rattle.trace_audit.specs.ByTransaction.{has_pact, is_act_for, is_noted}
use Rattle.trace_audit.specs.Evidence.{TellsCodes, TellsDeath, TellsWhy}

-- ---- lists

find_mapped : {X Y : Type 0} (f : X → Y) (p : Y → Bool) (xs : List X) → find p (map f xs) ≡ option_map f (find (λ x. p (f x)) xs)
find_mapped f p [] = refl
find_mapped {X} {Y} f p (x ∷ xs) = by (p (f x)) (find_mapped f p xs)
  where
    by : (b : Bool) → find p (map f xs) ≡ option_map f (find (λ x. p (f x)) xs) → (if b then Some (f x) else find p (map f xs)) ≡ option_map f (if b then Some x else find (λ x. p (f x)) xs)
    by true e = refl
    by false e = e

passes : {X : Type 0} (p : X → Bool) (xs : List X) (x : X) → find p xs ≡ Some x → p x ≡ true
passes p [] x e = absurd (none_is_some x e)
passes {X} p (y ∷ xs) x e = by (p y) refl e (passes p xs x)
  where
    by : (b : Bool) → p y ≡ b → (if b then Some y else find p xs) ≡ Some x → (find p xs ≡ Some x → p x ≡ true) → p x ≡ true
    by true q e k = subst (λ (z : X). p z ≡ true) (same_some y x e) q
    by false q e k = k e

pub any_filtered : {X : Type 0} (q p : X → Bool) (xs : List X) → list_any p (filter q xs) ≡ list_any (λ x. q x && p x) xs
any_filtered q p [] = refl
any_filtered {X} q p (x ∷ xs) = by (q x) (any_filtered q p xs)
  where
    by : (b : Bool) → list_any p (filter q xs) ≡ list_any (λ x. q x && p x) xs → list_any p (if b then x ∷ filter q xs else filter q xs) ≡ ((b && p x) || list_any (λ x. q x && p x) xs)
    by true e = ap (λ (c : Bool). p x || c) e
    by false e = e

none_filtered : {X : Type 0} (p : X → Bool) (xs : List X) → AllByRecursion (λ x. p x ≡ false) xs → filter p xs ≡ []
none_filtered p [] h = refl
none_filtered {X} p (x ∷ xs) h = ap (λ (b : Bool). if b then x ∷ filter p xs else filter p xs) h.0 ∙ none_filtered p xs h.1

-- a test decides what it shows
pub decides : (b : Bool) (P : Type 0) → (b ≡ true → P) → (P → b ≡ true) → MatchBool b P (¬ P)
decides true P f g = f refl
decides false P f g = λ h. true≢false (sym (g h))

pub decides_so : (b : Bool) (P Q : Type 0) → MatchBool b P (¬ P) → (P → Q) → (Q → P) → MatchBool b Q (¬ Q)
decides_so true P Q h f g = f h
decides_so false P Q h f g = λ q. h (g q)

-- ---- the ACT of a transaction

act_found : (w : Text) (told : Told) (s : Seen) (n : ℕ) (o : Option ActTale) → Knows w told.tale s → o ≡ find (is_act_for n) told.tale.acts.items → find (λ x. x.tx == n) s.acts ≡ option_map begun_of o
act_found w told s n o h e = ap (find (λ (x : Begun). x.tx == n)) (sym h.acts) ∙ (find_mapped begun_of (λ x. x.tx == n) told.tale.acts.items ∙ ap (option_map begun_of) (sym e))

-- the first reason, and what is kept of it
doom_told : (s : Seen) (t : ℕ) (why : Why) → option_map (λ d. d.why) (first_doom t s.dooms) ≡ Some why → first_doom t s.dooms ≡ Some (record { tid = t; why = why })
doom_told s t why e = by (some_mapped (λ (d : Doom). d.why) (first_doom t s.dooms) why e)
  where
    by : (d : Doom) × (first_doom t s.dooms ≡ Some d) × (d.why ≡ why) → first_doom t s.dooms ≡ Some (record { tid = t; why = why })
    by (d, found, is) = found ∙ (ap (λ (z : Why). Some (record { tid = d.tid; why = z })) is
        ∙ ap (λ (u : ℕ). Some (record { tid = u; why = why })) (eqb-true d.tid t (passes (λ (x : Doom). x.tid == t) s.dooms d found)))

act_told : (s : Seen) (n : ℕ) (told : Told) (x : ActTale) → AllByRecursion (TellsAct s) told.tale.acts.items → Some x ≡ find (is_act_for n) told.tale.acts.items → TellsAct s x
act_told s n told x h e = (all_found (TellsAct s) (is_act_for n) told.tale.acts.items x h (sym e)).0

given_up_so : (w : Text) (told : Told) (s : Seen) (n : ℕ) (x : ActTale) (why : Why) → Knows w told.tale s → Some x ≡ find (is_act_for n) told.tale.acts.items → option_map why_of x.given_up ≡ Some why
    → (g : IsGivenUpFor s n why) × (g.act.tid ≡ x.tid.0)
given_up_so w told s n x why h e q =
    (record { act = begun_of x; found = act_found w told s n (Some x) h e; doom = doom_told s x.tid.0 why (sym (act_told s n told x h.ends e).given_up ∙ q) }, refl)

given_up_told : (w : Text) (told : Told) (s : Seen) (n : ℕ) (x : ActTale) (why : Why) → Knows w told.tale s → Some x ≡ find (is_act_for n) told.tale.acts.items → (g : IsGivenUpFor s n why)
    → (x.tid.0 ≡ g.act.tid) × (option_map why_of x.given_up ≡ Some why)
given_up_told w told s n x why h e g =
    let same : begun_of x ≡ g.act = same_some (begun_of x) g.act (sym (act_found w told s n (Some x) h e) ∙ g.found) in
    let tid : x.tid.0 ≡ g.act.tid = ap (λ (b : Begun). b.tid) same in (
      tid,
      (act_told s n told x h.ends e).given_up ∙ (ap (λ (t : ℕ). option_map (λ (d : Doom). d.why) (first_doom t s.dooms)) tid ∙ ap (option_map (λ (d : Doom). d.why)) g.doom),
    )

pub given_up_is : (w : Text) (told : Told) (s : Seen) (n : ℕ) (o : Option ActTale) (why : Why) (b : Bool) → KnowsAll w told s → o ≡ find (is_act_for n) told.tale.acts.items
    → MatchBool b (TellsWhy o why) (¬ TellsWhy o why) → MatchBool b (IsGivenUpFor s n why) (¬ IsGivenUpFor s n why)
given_up_is w told s n None why b h e m = decides_so b (TellsWhy None why) (IsGivenUpFor s n why) m (λ q. absurd q) (λ g. none_is_some g.act (sym (act_found w told s n None h.names e) ∙ g.found))
given_up_is w told s n (Some x) why b h e m =
    decides_so b (TellsWhy (Some x) why) (IsGivenUpFor s n why) m (λ q. (given_up_so w told s n x why h.names e q).0) (λ g. (given_up_told w told s n x why h.names e g).1)

pub dies_is : (w : Text) (told : Told) (s : Seen) (n a older own : ℕ) (o : Option ActTale) (b : Bool) → KnowsAll w told s → o ≡ find (is_act_for n) told.tale.acts.items
    → MatchBool b (TellsDeath o (Older a older) own) (¬ TellsDeath o (Older a older) own) → MatchBool b (HasDied s n a older own) (¬ HasDied s n a older own)
dies_is w told s n a older own None b h e m =
    decides_so b (TellsDeath None (Older a older) own) (HasDied s n a older own) m (λ q. absurd q) (λ g. none_is_some g.given_up.act (sym (act_found w told s n None h.names e) ∙ g.given_up.found))
dies_is w told s n a older own (Some x) b h e m =
    decides_so b (TellsDeath (Some x) (Older a older) own) (HasDied s n a older own) m
    (λ q. let g = given_up_so w told s n x (Older a older) h.names e q.1 in record { given_up = g.0; own_tid = g.1 ∙ q.0 })
    (λ g. let t = given_up_told w told s n x (Older a older) h.names e g.given_up in (t.0 ∙ g.own_tid, t.1))

-- ---- the cascade that began with a batch

nothing_began : (n k : ℕ) (cuts : List Cut) → AllByRecursion (λ c. (1 ≤ c.first) × (c.first < n)) cuts → (k ≡ 0) ⊎ (n ≤ k) → filter (λ c. c.first == k) cuts ≡ []
nothing_began n k cuts h o = none_filtered (λ (c : Cut). c.first == k) cuts (weaker (λ c. (1 ≤ c.first) × (c.first < n)) (λ c. (c.first == k) ≡ false) cuts (λ c l. ne_eqb c.first k (by c o l)) h)
  where
    by : (c : Cut) → (k ≡ 0) ⊎ (n ≤ k) → (1 ≤ c.first) × (c.first < n) → c.first ≡ k → ⊥
    by c (inl e) l q = omega (arith, e, l.0, l.1, q)
    by c (inr e) l q = omega (arith, e, l.0, l.1, q)

ways_long : (w : Text) (told : Told) (s : Seen) → AreDrawn s → Stands w told s → s.ring.next_bid ≡ length told.ways.items + 1
ways_long w told s drawn h = omega (arith, drawn.next_bid, h.batches)

pub no_fall : (w : Text) (told : Told) (s : Seen) (k : ℕ) → AreDrawn s → Stands w told s → (k ≡ 0) ⊎ (length told.ways.items < k) → [] ≡ filter (λ c. c.first == k) s.cuts
no_fall w told s k drawn h (inl e) = sym (nothing_began s.ring.next_bid k s.cuts h.cuts (inl e))
no_fall w told s k drawn h (inr l) = sym (nothing_began s.ring.next_bid k s.cuts h.cuts (inr (omega (arith, l, ways_long w told s drawn h))))

way_at : (xs : List BatchWay) (i : ℕ) (d : BatchWay) → i < length xs → slice_get xs i ≡ Some (slice_index_or xs i d)
way_at [] i d l = absurd (omega (arith, l))
way_at (x ∷ xs) zero d l = refl
way_at (x ∷ xs) (suc i) d l = way_at xs i d (omega (arith, l))

pub fall_is : (w : Text) (told : Told) (s : Seen) (k i : ℕ) (d : BatchWay) → Stands w told s → k ≡ i + 1 → i < length told.ways.items → d ≡ slice_index_or told.ways.items i d → cuts_from k d.fall ≡ filter (λ c. c.first == k) s.cuts
fall_is w told s k i d h e l is =
    let way = h.ways i (slice_index_or told.ways.items i d) (way_at told.ways.items i d l) in
    ap (λ (x : BatchWay). cuts_from k x.fall) is ∙ subst (λ (j : ℕ). cuts_from j (slice_index_or told.ways.items i d).fall ≡ filter (λ c. c.first == j) s.cuts) (sym e) way.fall

-- ---- a batch that was taken along

batch_found : (w : Text) (told : Told) (s : Seen) (n : ℕ) → Knows w told.tale s → find (λ b. list_any (λ q. q.tx == n) b.pacts) s.batches ≡ option_map formed_of (find (has_pact n) told.tale.batches.items)
batch_found w told s n h = ap (find (λ (b : Formed). list_any (λ q. q.tx == n) b.pacts)) (sym h.batches) ∙ find_mapped formed_of (λ b. list_any (λ q. q.tx == n) b.pacts) told.tale.batches.items

pub not_taken : (w : Text) (told : Told) (s : Seen) (n k : ℕ) → KnowsAll w told s → option_map bid_number None ≡ option_map (λ b. b.formed.bid) (find (has_pact n) told.tale.batches.items) → ¬ IsTakenPact s n k
not_taken w told s n k h e g = by (find (has_pact n) told.tale.batches.items) (sym e) (sym (batch_found w told s n h.names) ∙ g.found)
  where
    by : (o : Option BatchTale) → option_map (λ b. b.formed.bid) o ≡ None → option_map formed_of o ≡ Some g.batch → ⊥
    by None e q = none_is_some g.batch q
    by (Some b) e q = none_is_some b.formed.bid (sym e)

pub taken_is : (w : Text) (told : Told) (s : Seen) (n k : ℕ) (bid : Bid) (o : Option Fall) (b : Bool) → KnowsAll w told s → option_map bid_number (Some bid) ≡ option_map (λ b. b.formed.bid) (find (has_pact n) told.tale.batches.items)
    → cuts_from k o ≡ filter (λ c. c.first == k) s.cuts → b ≡ list_any (λ x. nat_le k bid.0 && nat_le bid.0 x.upto) (cuts_from k o) → MatchBool b (IsTakenPact s n k) (¬ IsTakenPact s n k)
taken_is w told s n k bid o b h e f r = by (some_mapped (λ (b : BatchTale). b.formed.bid) (find (has_pact n) told.tale.batches.items) bid.0 (sym e))
  where
    reached : b ≡ list_any (λ x. (x.first == k) && (nat_le k bid.0 && nat_le bid.0 x.upto)) s.cuts
    reached = r ∙ (ap (list_any (λ x. nat_le k bid.0 && nat_le bid.0 x.upto)) f ∙ any_filtered (λ x. x.first == k) (λ x. nat_le k bid.0 && nat_le bid.0 x.upto) s.cuts)

    by : (t : BatchTale) × (find (has_pact n) told.tale.batches.items ≡ Some t) × (t.formed.bid ≡ bid.0) → MatchBool b (IsTakenPact s n k) (¬ IsTakenPact s n k)
    by (t, found, is) =
        let there = batch_found w told s n h.names ∙ ap (option_map formed_of) found in
        decides b (IsTakenPact s n k)
        (λ yes. record { batch = t.formed; found = there; reached = subst (λ (j : ℕ). list_any (λ x. (x.first == k) && (nat_le k j && nat_le j x.upto)) s.cuts ≡ true) (sym is) (sym reached ∙ yes) })
        (λ g. reached ∙ subst (λ (j : ℕ). list_any (λ x. (x.first == k) && (nat_le k j && nat_le j x.upto)) s.cuts ≡ true) (sym (ap (λ (f : Formed). f.bid) (same_some t.formed g.batch (sym there ∙ g.found))) ∙ is) g.reached)

-- ---- who was taken along

told_so : (ls : List Line) (codes : List (Option Bid)) (n k : ℕ) (b : Bool) → TellsCodes ls codes → b ≡ is_noted k (slice_get codes n) → b ≡ list_any (tells_batch_code n k) ls
told_so ls codes n k b h e = e ∙ sym (h n k)

pub along_as_act : (s : Seen) (ls : List Line) (codes : List (Option Bid)) (n k by : ℕ) (b r : Bool) → TellsCodes ls codes → b ≡ is_noted k (slice_get codes by) → b ≡ true → ((n ≡ by) ⊎ (¬ IsTakenPact s n k)) → MatchBool r (IsGivenUpFor s n (Taken k)) (¬ IsGivenUpFor s n (Taken k))
    → MatchBool r (IsTakenAlong s ls n k by) (¬ IsTakenAlong s ls n k by)
along_as_act s ls codes n k by b r h e t o m =
    decides_so r (IsGivenUpFor s n (Taken k)) (IsTakenAlong s ls n k by) m (λ g. record { told = sym (told_so ls codes by k b h e) ∙ t; taken = inr g }) (λ g. given g.taken)
  where
    not_both : ((n ≡ by) ⊎ (¬ IsTakenPact s n k)) → IsTakenPact s n k × ¬ (n ≡ by) → ⊥
    not_both (inl q) p = p.1 q
    not_both (inr q) p = q p.0

    given : (IsTakenPact s n k × ¬ (n ≡ by)) ⊎ IsGivenUpFor s n (Taken k) → IsGivenUpFor s n (Taken k)
    given (inl p) = absurd (not_both o p)
    given (inr g) = g
