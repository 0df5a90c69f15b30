-- Why an ACT is given up, by the events, is why it is doomed: lists alone.
use Rattle.std.specs.Prelude.{◌≡◌, refl, ℕ, ◌==◌, nat_le, Bool, true, false, ◌&&◌, ◌||◌, if◌then◌else◌, Option, Some, None, is_some, option_map, unwrap_or, List, [], ◌∷◌, ◌++◌, filter, find, map}
use Rattle.std.proofs.Common.{sym, ap, ◌∙◌}
use Rattle.std.proofs.lemmas.Bool.{true≢false, and_parts, eqb-true, eq-eqb, ne_eqb}
use Rattle.snap_base.proofs.Booleans.{and_false}
use Rattle.protocol.specs.OnBook.{cascaded, change_if, changed_act, decided_status, doomed_by, sealed_status}
use Rattle.protocol.specs.Parts.{Act, Decided, Doomed, Live, Pair, Sealed, Status}
use Rattle.protocol.specs.Spread.{crossed_out, is_crossed, raised, reaches}
use Rattle.protocol.specs.Verdicts.{died, or_else, out_of_order, taken_along}
use Rattle.protocol.specs.Words.{act_of, greatest, holds, is_among, is_live_status}
use Rattle.protocol_laws.proofs.first.PairsFound.{found_tid}
use Rattle.audit_words.specs.Happenings.{cross_out, taken_by}
use Rattle.audit_words.specs.Seen.{Begun, Crossed, Doom, Seen, Taken, Why, first_doom, is_live, least, sets_cross}
use Rattle.audit_laws.specs.Acts.{doom, reason}
use Rattle.audit_laws.proofs.Acts.{if_tid, raised_tids, status_at}
use Rattle.audit_laws.proofs.GivenUp.{act_among}
use Rattle.audit_laws.proofs.Simulated.{EndsAre, died_as}

-- the reason of one that may be there
abbrev pub reason_of : ℕ → Option Act → Option Doom
reason_of u None = None
reason_of u (Some x) = reason u x.status

abbrev pub reason_in : ℕ → List Act → Option Doom
reason_in u acts = reason_of u (act_of u acts)

-- ---- the ACTs are changed

-- each is changed, and keeps its tid
pub act_mapped : (u : ℕ) (f : Act → Act) (xs : List Act) → ((x : Act) → (f x).tid ≡ x.tid) → act_of u (map f xs) ≡ option_map f (act_of u xs)
act_mapped u f [] i = refl
act_mapped u f (x ∷ xs) i = ap (λ (n : ℕ). if n == u then Some (f x) else act_of u (map f xs)) (i x) ∙ by (x.tid == u) (act_mapped u f xs i)
  where
    by : (b : Bool) → act_of u (map f xs) ≡ option_map f (act_of u xs) → (if b then Some (f x) else act_of u (map f xs)) ≡ option_map f (if b then Some x else act_of u xs)
    by true r = refl
    by false r = r

-- and has the reason that it had
pub reason_mapped : (u : ℕ) (f : Act → Act) (xs : List Act) → ((x : Act) → (f x).tid ≡ x.tid) → ((x : Act) → reason u (f x).status ≡ reason u x.status) → reason_in u (map f xs) ≡ reason_in u xs
reason_mapped u f xs i k = ap (reason_of u) (act_mapped u f xs i) ∙ by (act_of u xs)
  where
    by : (o : Option Act) → reason_of u (option_map f o) ≡ reason_of u o
    by None = refl
    by (Some x) = k x

-- statuses alone
pub reason_same : (u : ℕ) (xs ys : List Act) → map (λ x. x.tid) xs ≡ map (λ x. x.tid) ys → map (λ x. x.status) xs ≡ map (λ x. x.status) ys → reason_in u xs ≡ reason_in u ys
reason_same u [] [] e f = refl
reason_same u [] (y ∷ ys) e f = absurd (cc e)
reason_same u (x ∷ xs) [] e f = absurd (cc e)
reason_same u (x ∷ xs) (y ∷ ys) e f =
    let i : x.tid ≡ y.tid = cc e in
    let j : map (λ (z : Act). z.tid) xs ≡ map (λ (z : Act). z.tid) ys = cc e in
    let g : x.status ≡ y.status = cc f in
    let l : map (λ (z : Act). z.status) xs ≡ map (λ (z : Act). z.status) ys = cc f in
    ap (λ (n : ℕ). reason_of u (if n == u then Some x else act_of u xs)) i ∙ by (y.tid == u) (ap (reason u) g) (reason_same u xs ys j l)
  where
    by : (q : Bool) → reason u x.status ≡ reason u y.status → reason_in u xs ≡ reason_in u ys → reason_of u (if q then Some x else act_of u xs) ≡ reason_of u (if q then Some y else act_of u ys)
    by true g r = g
    by false g r = r

-- one more, that is live
pub reason_more : (u : ℕ) (xs : List Act) (n : Act) → reason u n.status ≡ None → reason_in u (xs ++ n ∷ []) ≡ reason_in u xs
reason_more u [] n h = by (n.tid == u)
  where
    by : (b : Bool) → reason_of u (if b then Some n else None) ≡ None
    by true = h
    by false = refl
reason_more u (x ∷ xs) n h = by (x.tid == u) (reason_more u xs n h)
  where
    by : (b : Bool) → reason_in u (xs ++ n ∷ []) ≡ reason_in u xs → reason_of u (if b then Some x else act_of u (xs ++ n ∷ [])) ≡ reason_of u (if b then Some x else act_of u xs)
    by true r = refl
    by false r = r

raised_statuses : (ps : List Pair) (xs : List Act) → map (λ x. x.status) (raised ps xs) ≡ map (λ x. x.status) xs
raised_statuses ps [] = refl
raised_statuses ps (x ∷ xs) = ap (λ (zs : List Status). x.status ∷ zs) (raised_statuses ps xs)

pub reason_raised : (u : ℕ) (ps : List Pair) (xs : List Act) → reason_in u (raised ps xs) ≡ reason_in u xs
reason_raised u ps xs = reason_same u (raised ps xs) xs (raised_tids ps xs) (raised_statuses ps xs)

pub reason_changed : (u t : ℕ) (f : Act → Act) (xs : List Act) → ((x : Act) → (f x).tid ≡ x.tid) → ((x : Act) → reason u (f x).status ≡ reason u x.status) → reason_in u (changed_act t f xs) ≡ reason_in u xs
reason_changed u t f xs i k = reason_mapped u (λ x. change_if (x.tid == t) f x) xs (λ x. if_tid (x.tid == t) f x (i x)) (λ x. by (x.tid == t) x)
  where
    by : (b : Bool) (x : Act) → reason u (change_if b f x).status ≡ reason u x.status
    by true x = k x
    by false x = refl

pub reason_decided : (u c : ℕ) (b : Bool) (st : Status) → reason u (decided_status c b st) ≡ reason u st
reason_decided u c true Live = refl
reason_decided u c false Live = refl
reason_decided u c b (Doomed v) = refl
reason_decided u c b (Decided d) = refl
reason_decided u c b (Sealed d) = refl

pub reason_sealed : (u : ℕ) (st : Status) → reason u (sealed_status st) ≡ reason u st
reason_sealed u Live = refl
reason_sealed u (Doomed v) = refl
reason_sealed u (Decided c) = refl
reason_sealed u (Sealed c) = refl

-- a live one has none
live_none : (u : ℕ) (st : Status) → is_live_status st ≡ true → reason u st ≡ None
live_none u Live e = refl
live_none u (Doomed v) e = absurd (true≢false (sym e))
live_none u (Decided c) e = refl
live_none u (Sealed c) e = refl

-- ---- who is given up

pub find_join : {X : Type 0} (p : X → Bool) (xs ys : List X) → find p (xs ++ ys) ≡ or_else (find p xs) (find p ys)
find_join p [] ys = refl
find_join p (x ∷ xs) ys = by (p x) (find_join p xs ys)
  where
    by : (b : Bool) → find p (xs ++ ys) ≡ or_else (find p xs) (find p ys) → (if b then Some x else find p (xs ++ ys)) ≡ or_else (if b then Some x else find p xs) (find p ys)
    by true r = refl
    by false r = r

-- the first reason, where more are told
doom_join : (u : ℕ) (d e : List Doom) → first_doom u (d ++ e) ≡ or_else (first_doom u d) (first_doom u e)
doom_join u d e = find_join (λ (x : Doom). x.tid == u) d e

nothing_else : {X : Type 0} (o : Option X) → or_else o None ≡ o
nothing_else None = refl
nothing_else (Some x) = refl

-- those of some ACTs, of which the one with this tid is first
abbrev made : (ℕ → Why) → (ℕ → Bool) → List Begun → List Doom
made g p xs = map (λ x. doom x.tid (g x.tid)) (filter (λ x. p x.tid) xs)

doom_made : (u : ℕ) (g : ℕ → Why) (p : ℕ → Bool) (xs : List Begun) → first_doom u (made g p xs) ≡ (if is_among u (map (λ x. x.tid) xs) && p u then Some (doom u (g u)) else None)
doom_made u g p [] = refl
doom_made u g p (x ∷ xs) = by (p x.tid) refl (doom_made u g p xs)
  where
    one : (c : Bool) → (x.tid == u) ≡ c → p x.tid ≡ true → first_doom u (made g p xs) ≡ (if is_among u (map (λ y. y.tid) xs) && p u then Some (doom u (g u)) else None)
        → (if c then Some (doom x.tid (g x.tid)) else first_doom u (made g p xs)) ≡ (if (c || is_among u (map (λ y. y.tid) xs)) && p u then Some (doom u (g u)) else None)
    one true e h r =
        let i : x.tid ≡ u = eqb-true x.tid u e in
        ap (λ (n : ℕ). Some (doom n (g n))) i ∙ sym (ap (λ (b : Bool). if b then Some (doom u (g u)) else None) (ap p (sym i) ∙ h))
    one false e h r = r

    two : (c : Bool) → (x.tid == u) ≡ c → p x.tid ≡ false → first_doom u (made g p xs) ≡ (if is_among u (map (λ y. y.tid) xs) && p u then Some (doom u (g u)) else None)
        → first_doom u (made g p xs) ≡ (if (c || is_among u (map (λ y. y.tid) xs)) && p u then Some (doom u (g u)) else None)
    two true e h r =
        let q : p u ≡ false = ap p (sym (eqb-true x.tid u e)) ∙ h in
        r ∙ (ap (λ (b : Bool). if is_among u (map (λ (y : Begun). y.tid) xs) && b then Some (doom u (g u)) else None) q
        ∙ (ap (λ (b : Bool). if b then Some (doom u (g u)) else None) (and_false (is_among u (map (λ (y : Begun). y.tid) xs))) ∙ sym (ap (λ (b : Bool). if b then Some (doom u (g u)) else None) q)))
    two false e h r = r

    by : (b : Bool) → p x.tid ≡ b → first_doom u (made g p xs) ≡ (if is_among u (map (λ y. y.tid) xs) && p u then Some (doom u (g u)) else None)
        → first_doom u (map (λ y. doom y.tid (g y.tid)) (if b then x ∷ filter (λ y. p y.tid) xs else filter (λ y. p y.tid) xs)) ≡ (if ((x.tid == u) || is_among u (map (λ y. y.tid) xs)) && p u then Some (doom u (g u)) else None)
    by true e r = one (x.tid == u) refl e r
    by false e r = two (x.tid == u) refl e r

-- the same, of those of the book
made_told : (u : ℕ) (g : ℕ → Why) (p : ℕ → Bool) (bs : List Begun) (xs : List Act) → map (λ x. x.tid) bs ≡ map (λ x. x.tid) xs → first_doom u (made g p bs) ≡ (if is_some (act_of u xs) && p u then Some (doom u (g u)) else None)
made_told u g p bs xs e =
    doom_made u g p bs ∙ (ap (λ (ns : List ℕ). if is_among u ns && p u then Some (doom u (g u)) else None) e ∙ ap (λ (b : Bool). if b && p u then Some (doom u (g u)) else None) (act_among u xs))

-- where more are given up, and those of the book are doomed as these
more_told : (u : ℕ) (g : ℕ → Why) (p : ℕ → Bool) (d : List Doom) (bs : List Begun) (xs : List Act) (f : Act → Act) → map (λ x. x.tid) bs ≡ map (λ x. x.tid) xs → first_doom u d ≡ reason_in u xs → ((x : Act) → (f x).tid ≡ x.tid)
    → ((x : Act) → act_of u xs ≡ Some x → or_else (reason u x.status) (if p u then Some (doom u (g u)) else None) ≡ reason u (f x).status)
    → first_doom u (d ++ made g p bs) ≡ reason_in u (map f xs)
more_told u g p d bs xs f e h i k =
    doom_join u d (made g p bs)
    ∙ (ap (λ (o : Option Doom). or_else o (first_doom u (made g p bs))) h
    ∙ (ap (or_else (reason_in u xs)) (made_told u g p bs xs e) ∙ (by (act_of u xs) refl ∙ sym (ap (reason_of u) (act_mapped u f xs i)))))
  where
    by : (o : Option Act) → act_of u xs ≡ o → or_else (reason_of u o) (if is_some o && p u then Some (doom u (g u)) else None) ≡ reason_of u (option_map f o)
    by None q = refl
    by (Some x) q = k x q

-- ---- its sets cross

pub crossed_why : (a u : ℕ) (t : Seen) (xs : List Act) → map (λ x. x.tid) t.acts ≡ map (λ x. x.tid) xs → first_doom u t.dooms ≡ reason_in u xs → ((x : Act) → act_of u xs ≡ Some x → sets_cross t u ≡ is_crossed x)
    → ((x : Act) → act_of u xs ≡ Some x → is_live_status x.status ≡ true → EndsAre t u x) → first_doom u (cross_out a t).dooms ≡ reason_in u (map (crossed_out a) xs)
crossed_why a u t xs tids d k q =
    more_told u why (sets_cross t) t.dooms t.acts xs (crossed_out a) tids d (λ x. refl)
    (λ x e. ap (λ (b : Bool). or_else (reason u x.status) (if b then Some (doom u (why u)) else None)) (k x e) ∙ one x e (is_crossed x) refl)
  where
    why : ℕ → Why
    why v = Crossed (greatest (t.before v)) (unwrap_or (least (t.behind v)) 0) a

    one : (x : Act) → act_of u xs ≡ Some x → (c : Bool) → is_crossed x ≡ c → or_else (reason u x.status) (if c then Some (doom u (why u)) else None) ≡ reason u (if c then Doomed (out_of_order x.m (unwrap_or x.n 0) a) else x.status)
    one x e true i =
        let l = (and_parts (is_live_status x.status) (reaches x.m x.n) i).0 in
        let r = q x e l in
        ap (λ (o : Option Doom). or_else o (Some (doom u (why u)))) (live_none u x.status l)
        ∙ sym (ap (λ (m : ℕ). Some (doom u (Crossed m (unwrap_or x.n 0) a))) r.0 ∙ ap (λ (o : Option ℕ). Some (doom u (Crossed (greatest (t.before u)) (unwrap_or o 0) a))) r.1)
    one x e false i = nothing_else (reason u x.status)

-- ---- a cascade takes it along

pub taken_why : (k by u : ℕ) (t : Seen) (xs : List Act) → map (λ x. x.tid) t.acts ≡ map (λ x. x.tid) xs → first_doom u t.dooms ≡ reason_in u xs
    → ((x : Act) → act_of u xs ≡ Some x → (is_live t u && nat_le k (greatest (t.before u))) ≡ (is_live_status x.status && nat_le k x.m)) → first_doom u (t.dooms ++ taken_by k t) ≡ reason_in u (map (cascaded k by) xs)
taken_why k by u t xs tids d q =
    more_told u (λ v. Taken k) (λ v. is_live t v && nat_le k (greatest (t.before v))) t.dooms t.acts xs (cascaded k by) tids d (λ x. refl)
    (λ x e. ap (λ (b : Bool). or_else (reason u x.status) (if b then Some (doom u (Taken k)) else None)) (q x e) ∙ one x (is_live_status x.status && nat_le k x.m) refl)
  where
    one : (x : Act) (c : Bool) → (is_live_status x.status && nat_le k x.m) ≡ c → or_else (reason u x.status) (if c then Some (doom u (Taken k)) else None) ≡ reason u (if c then Doomed (taken_along k by) else x.status)
    one x true i = ap (λ (o : Option Doom). or_else o (Some (doom u (Taken k)))) (live_none u x.status (and_parts (is_live_status x.status) (nat_le k x.m) i).0)
    one x false i = nothing_else (reason u x.status)

-- ---- an older one is in its way

pub died_why : (u a older v : ℕ) (d : List Doom) (xs : List Act) → status_at is_live_status xs u ≡ true → first_doom v d ≡ reason_in v xs → first_doom v (d ++ died_as u a older ∷ []) ≡ reason_in v (changed_act u (doomed_by (died a older u)) xs)
died_why u a older v d xs live h =
    doom_join v d (died_as u a older ∷ [])
    ∙ (ap (λ (o : Option Doom). or_else o (if u == v then Some (died_as u a older) else None)) h ∙ (by (act_of v xs) refl ∙ sym (ap (reason_of v) (act_mapped v f xs (λ x. if_tid (x.tid == u) (doomed_by (died a older u)) x refl)))))
  where
    f : Act → Act
    f x = change_if (x.tid == u) (doomed_by (died a older u)) x

    nobody : act_of v xs ≡ None → (c : Bool) → (u == v) ≡ c → (if c then Some (died_as u a older) else None) ≡ None
    nobody e true i =
        absurd (true≢false (sym live ∙ (ap (status_at is_live_status xs) (eqb-true u v i) ∙ ap (holds (λ (z : Act). is_live_status z.status)) e)))
    nobody e false i = refl

    one : (x : Act) → act_of v xs ≡ Some x → (c : Bool) → (x.tid == u) ≡ c → or_else (reason v x.status) (if u == v then Some (died_as u a older) else None) ≡ reason v (change_if c (doomed_by (died a older u)) x).status
    one x e true i =
        let uv : u ≡ v = sym (eqb-true x.tid u i) ∙ found_tid v xs x e in
        let l : is_live_status x.status ≡ true = sym (ap (holds (λ (z : Act). is_live_status z.status)) e) ∙ (ap (status_at is_live_status xs) (sym uv) ∙ live) in
        ap (λ (o : Option Doom). or_else o (if u == v then Some (died_as u a older) else None)) (live_none v x.status l)
        ∙ (ap (λ (b : Bool). if b then Some (died_as u a older) else None) (eq-eqb u v uv) ∙ sym (ap (λ (b : Bool). reason v (if b then Doomed (died a older u) else x.status)) l))
    one x e false i =
        ap (λ (b : Bool). or_else (reason v x.status) (if b then Some (died_as u a older) else None)) (ne_eqb u v (λ r. true≢false (sym (eq-eqb x.tid u (found_tid v xs x e ∙ sym r)) ∙ i))) ∙ nothing_else (reason v x.status)

    by : (o : Option Act) → act_of v xs ≡ o → or_else (reason_of v o) (if u == v then Some (died_as u a older) else None) ≡ reason_of v (option_map f o)
    by None e = nobody e (u == v) refl
    by (Some x) e = one x e (x.tid == u) refl
