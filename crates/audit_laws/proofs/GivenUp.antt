-- Who is given up by the events is who is doomed: the crossing of sets beside that of numbers.
use Rattle.std.specs.Prelude.{◌≡◌, refl, ℕ, ◌==◌, not, Bool, true, false, ◌&&◌, ◌||◌, if◌then◌else◌, Option, Some, None, is_some, unwrap_or, List, [], ◌∷◌, ◌++◌, filter, find, map}
use Rattle.std.specs.List.{list_any}
use Rattle.std.proofs.Common.{sym, ap, subst, ◌∙◌}
use Rattle.std.proofs.lemmas.Bool.{eqb-true}
use Rattle.snap_base.specs.declared.verdicts.Verdict.{Verdict}
use Rattle.snap_base.proofs.Booleans.{and_false, or_false, or_true}
use Rattle.protocol.specs.Parts.{Act, Status, Live, Doomed, Decided, Sealed, OfAct}
use Rattle.protocol.specs.Spread.{crossed_out, reaches}
use Rattle.protocol.specs.Spread as numbers
use Rattle.protocol.specs.Verdicts.{out_of_order}
use Rattle.protocol.specs.Words.{act_of, greatest, holds, is_among, is_doomed, is_live_status, is_ordered, least_of}
use Rattle.protocol_laws.specs.Highs.{doomed_at}
use Rattle.protocol_theorems.specs.Sets.{least_in}
use Rattle.audit_words.specs.Happenings.{cross_out, crossing}
use Rattle.audit_words.specs.Seen as sets
use Rattle.audit_words.specs.Seen.{Begun, Doom, Seen, first_doom, has_its_place, was_given_up, is_live, least}
use Rattle.audit_laws.proofs.RunsSeen.{any_join}

-- ---- lists

pub some_any : {X : Type 0} (p : X → Bool) (xs : List X) → is_some (find p xs) ≡ list_any p xs
some_any p [] = refl
some_any p (x ∷ xs) = by (p x) (some_any p xs)
  where
    by : (b : Bool) → is_some (find p xs) ≡ list_any p xs → is_some (if b then Some x else find p xs) ≡ (b || list_any p xs)
    by true r = refl
    by false r = r

pub act_among : (u : ℕ) (xs : List Act) → is_among u (map (λ x. x.tid) xs) ≡ is_some (act_of u xs)
act_among u [] = refl
act_among u (x ∷ xs) = by (x.tid == u) (act_among u xs)
  where
    by : (b : Bool) → is_among u (map (λ x. x.tid) xs) ≡ is_some (act_of u xs) → (b || is_among u (map (λ x. x.tid) xs)) ≡ is_some (if b then Some x else act_of u xs)
    by true r = refl
    by false r = r

pub given_join : (u : ℕ) (d e : List Doom) → was_given_up (d ++ e) u ≡ (was_given_up d u || was_given_up e u)
given_join u d e =
    some_any (λ (x : Doom). x.tid == u) (d ++ e)
    ∙ (any_join (λ (x : Doom). x.tid == u) d e
    ∙ sym (ap (λ (b : Bool). b || was_given_up e u) (some_any (λ (x : Doom). x.tid == u) d) ∙ ap (λ (b : Bool). list_any (λ (x : Doom). x.tid == u) d || b) (some_any (λ (x : Doom). x.tid == u) e)))

pub given_made : (u : ℕ) (g : Begun → Doom) (p : ℕ → Bool) (xs : List Begun) → ((x : Begun) → (g x).tid ≡ x.tid) → was_given_up (map g (filter (λ x. p x.tid) xs)) u ≡ (is_among u (map (λ x. x.tid) xs) && p u)
given_made u g p [] i = refl
given_made u g p (x ∷ xs) i = by (p x.tid) refl (given_made u g p xs i)
  where
    one : (c : Bool) → (c ≡ true → p u ≡ true) → was_given_up (map g (filter (λ y. p y.tid) xs)) u ≡ (is_among u (map (λ y. y.tid) xs) && p u)
        → is_some (if c then Some (g x) else first_doom u (map g (filter (λ y. p y.tid) xs))) ≡ ((c || is_among u (map (λ y. y.tid) xs)) && p u)
    one true k r = sym (k refl)
    one false k r = r

    two : (c : Bool) → (c ≡ true → p u ≡ false) → was_given_up (map g (filter (λ y. p y.tid) xs)) u ≡ (is_among u (map (λ y. y.tid) xs) && p u)
        → was_given_up (map g (filter (λ y. p y.tid) xs)) u ≡ ((c || is_among u (map (λ y. y.tid) xs)) && p u)
    two true k r = r ∙ (ap (λ (b : Bool). is_among u (map (λ (y : Begun). y.tid) xs) && b) (k refl) ∙ (and_false (is_among u (map (λ (y : Begun). y.tid) xs)) ∙ sym (k refl)))
    two false k r = r

    by : (b : Bool) → p x.tid ≡ b → was_given_up (map g (filter (λ y. p y.tid) xs)) u ≡ (is_among u (map (λ y. y.tid) xs) && p u)
        → was_given_up (map g (if b then x ∷ filter (λ y. p y.tid) xs else filter (λ y. p y.tid) xs)) u ≡ (((x.tid == u) || is_among u (map (λ y. y.tid) xs)) && p u)
    by true e r =
        subst (λ (z : ℕ). is_some (if z == u then Some (g x) else first_doom u (map g (filter (λ y. p y.tid) xs))) ≡ (((x.tid == u) || is_among u (map (λ y. y.tid) xs)) && p u)) (sym (i x))
        (one (x.tid == u) (λ q. ap p (sym (eqb-true x.tid u q)) ∙ e) r)
    by false e r = two (x.tid == u) (λ q. ap p (sym (eqb-true x.tid u q)) ∙ e) r

-- ---- numbers that cross

pub doomed_crossed : (a u : ℕ) (xs : List Act) → doomed_at (map (crossed_out a) xs) u ≡ (doomed_at xs u || holds numbers.is_crossed (act_of u xs))
doomed_crossed a u [] = refl
doomed_crossed a u (x ∷ xs) = by (x.tid == u) (doomed_crossed a u xs)
  where
    status : (b : Bool) (v : Verdict) → is_doomed (if b then Doomed v else x.status) ≡ (is_doomed x.status || b)
    status true v = sym (or_true (is_doomed x.status))
    status false v = sym (or_false (is_doomed x.status))

    by : (c : Bool) → doomed_at (map (crossed_out a) xs) u ≡ (doomed_at xs u || holds numbers.is_crossed (act_of u xs))
        → holds (λ y. is_doomed y.status) (if c then Some (crossed_out a x) else act_of u (map (crossed_out a) xs)) ≡ (holds (λ y. is_doomed y.status) (if c then Some x else act_of u xs) || holds numbers.is_crossed (if c then Some x else act_of u xs))
    by true r = status (numbers.is_crossed x) (out_of_order x.m (unwrap_or x.n 0) a)
    by false r = r

pub same_least : (ks : List ℕ) → least ks ≡ least_in ks
same_least [] = refl
same_least (k ∷ ks) = ap (λ (o : Option ℕ). Some (least_of k o)) (same_least ks)

pub live_is : (st : Status) → (not (is_doomed st) && not (is_ordered st)) ≡ is_live_status st
live_is Live = refl
live_is (Doomed v) = refl
live_is (Decided c) = refl
live_is (Sealed c) = refl

-- the sets cross where the numbers do, which of a live one are their ends
pub seen_crossing : (t : Seen) (u : ℕ) (x : Act) → was_given_up t.dooms u ≡ is_doomed x.status → has_its_place (OfAct u) t.members ≡ is_ordered x.status → (is_live_status x.status ≡ true → (x.m ≡ greatest (t.before u)) × (x.n ≡ least (t.behind u))) → sets.sets_cross t u ≡ numbers.is_crossed x
seen_crossing t u x d o k = by (is_live_status x.status) refl
  where
    alive : is_live t u ≡ is_live_status x.status
    alive = ap (λ (b : Bool). not b && not (has_its_place (OfAct u) t.members)) d ∙ (ap (λ (b : Bool). not (is_doomed x.status) && not b) o ∙ live_is x.status)

    by : (b : Bool) → is_live_status x.status ≡ b → (is_live t u && reaches (greatest (t.before u)) (least (t.behind u))) ≡ (is_live_status x.status && reaches x.m x.n)
    by true e =
        let q = k e in
        ap (λ (b : Bool). b && reaches (greatest (t.before u)) (least (t.behind u))) alive
        ∙ ap (λ (b : Bool). is_live_status x.status && b) (sym (ap (λ (m : ℕ). reaches m x.n) q.0 ∙ ap (reaches (greatest (t.before u))) q.1))
    by false e =
        ap (λ (b : Bool). b && reaches (greatest (t.before u)) (least (t.behind u))) (alive ∙ e) ∙ sym (ap (λ (b : Bool). b && reaches x.m x.n) e)

-- ---- behind an event that places somebody

pub crossed_told : (a u : ℕ) (t : Seen) (xs : List Act) → map (λ x. x.tid) t.acts ≡ map (λ x. x.tid) xs → was_given_up t.dooms u ≡ doomed_at xs u → ((x : Act) → act_of u xs ≡ Some x → sets.sets_cross t u ≡ numbers.is_crossed x)
    → was_given_up (cross_out a t).dooms u ≡ doomed_at (map (crossed_out a) xs) u
crossed_told a u t xs tids d k =
    given_join u t.dooms (map (crossing a t) (filter (λ x. sets.sets_cross t x.tid) t.acts))
    ∙ (ap (λ (b : Bool). b || was_given_up (map (crossing a t) (filter (λ x. sets.sets_cross t x.tid) t.acts)) u) d
    ∙ (ap (λ (b : Bool). doomed_at xs u || b) rest ∙ sym (doomed_crossed a u xs)))
  where
    by : (o : Option Act) → act_of u xs ≡ o → (is_some o && sets.sets_cross t u) ≡ holds numbers.is_crossed o
    by None e = refl
    by (Some x) e = k x e

    rest : was_given_up (map (crossing a t) (filter (λ x. sets.sets_cross t x.tid) t.acts)) u ≡ holds numbers.is_crossed (act_of u xs)
    rest =
        given_made u (crossing a t) (sets.sets_cross t) t.acts (λ x. refl)
        ∙ (ap (λ (ns : List ℕ). is_among u ns && sets.sets_cross t u) tids ∙ (ap (λ (b : Bool). b && sets.sets_cross t u) (act_among u xs) ∙ by (act_of u xs) refl))
