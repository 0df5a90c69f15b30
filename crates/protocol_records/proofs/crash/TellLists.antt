-- What records tell, as the long schedule changes.
use Rattle.std.specs.Prelude.{◌≡◌, refl, ℕ, Bool, true, false, ◌||◌, if◌then◌else◌, List, [], ◌∷◌, ◌++◌, map}
use Rattle.std.specs.List.{AllByRecursion}
use Rattle.std.proofs.Common.{sym, ap, subst, inl, inr, ◌∙◌}
use Rattle.std.proofs.lemmas.List.{append-nil}
use Rattle.std.proofs.lemmas.Bool.{true≢false, or_cases, or_left, or_right, or_parts, false_from_ne_true}
use Rattle.snap_base.specs.declared.transactions.State.{State}
use Rattle.protocol.specs.Parts.{Cascade, Who, OfBatch, OfAct}
use Rattle.protocol.specs.Words.{is_who, is_act_who}
use Rattle.protocol.specs.OnCell.{is_cut}
use Rattle.protocol.specs.History.{Slice, Ran, Stands, Gone, not_run, ran_in, completed, left_for_good, without_standing, long_staying}
use Rattle.protocol_laws.specs.Tracks.{slices_in, Linked, InOrder}
use Rattle.protocol_laws.specs.Commits.{is_kept, KeptFront}
use Rattle.protocol_records.specs.Logged.{is_on}
use Rattle.protocol_records.specs.Telling.{One, names, end_state, TellsState, AllTells}
use Rattle.protocol_laws.proofs.machine.TrackLists
use Rattle.protocol_records.proofs.crash.OnLong.{on_more, on_map, completed_same, left_same, ran_same, on_kept}

-- who stands there is not marked complete
abbrev pub Unmarked : Who → List Ran → Type 0
Unmarked who [] = Unit {0}
Unmarked who (Stands z c ss ∷ rs) = (is_who z who ≡ true → c ≡ false) × Unmarked who rs
Unmarked who (Gone z ss ∷ rs) = Unmarked who rs

-- all that stand ahead of it are complete batches
abbrev pub AheadDone : Who → List Ran → Type 0
AheadDone who [] = Unit {0}
AheadDone who (Stands z c ss ∷ rs) = (is_who z who ≡ false → is_on who rs ≡ true → c ≡ true) × AheadDone who rs
AheadDone who (Gone z ss ∷ rs) = AheadDone who rs

-- of one that is not there nothing is claimed
pub off : (s : State) (y : Who) (st : State) (later : List One) (rs : List Ran) → is_on y rs ≡ false → TellsState s y st later rs
off s y st later [] e = tt
off s y st later (Stands z c ss ∷ rs) e = let p = or_parts (is_who z y) (is_on y rs) e in ((λ q. absurd (true≢false (sym q ∙ p.0))), (λ q. absurd (true≢false (sym q ∙ p.0))), (λ q o. absurd (true≢false (sym o ∙ p.1))), (λ q. off (end_state s ss) y st later rs p.1))
off s y st later (Gone z ss ∷ rs) e = let p = or_parts (is_who z y) (is_on y rs) e in ((λ q. absurd (true≢false (sym q ∙ p.0))), (λ q o. absurd (true≢false (sym o ∙ p.1))), (λ q. off (end_state s ss) y st later rs p.1))

pub more : (s : State) (y : Who) (st : State) (later : List One) (who : Who) (rs : List Ran) → is_who who y ≡ false → TellsState s y st later rs → TellsState s y st later (rs ++ not_run who ∷ [])
more s y st later who [] e h = off s y st later (not_run who ∷ []) (rw e refl)
more s y st later who (Stands z c ss ∷ rs) e h = (h.0, h.1, (λ q o. h.2 q (sym (on_more y who rs e) ∙ o)), (λ q. more (end_state s ss) y st later who rs e (h.3 q)))
more s y st later who (Gone z ss ∷ rs) e h = (h.0, (λ q o. h.1 q (sym (on_more y who rs e) ∙ o)), (λ q. more (end_state s ss) y st later who rs e (h.2 q)))

pub complete : (s : State) (y : Who) (st : State) (later : List One) (k : ℕ) (rs : List Ran) → TellsState s y st later rs → TellsState s y st later (map (completed k) rs)
complete s y st later k [] h = tt
complete s y st later k (Stands z c ss ∷ rs) h = (h.0, (λ q a. or_left c _ (h.1 q a)), (λ q o. let p = h.2 q (sym (on_map y (completed k) rs (completed_same y k)) ∙ o) in (or_left c _ p.0, p.1)), (λ q. complete (end_state s ss) y st later k rs (h.3 q)))
complete s y st later k (Gone z ss ∷ rs) h = (h.0, (λ q o. h.1 q (sym (on_map y (completed k) rs (completed_same y k)) ∙ o)), (λ q. complete (end_state s ss) y st later k rs (h.2 q)))

pub leave : (s : State) (y : Who) (st : State) (later : List One) (who : Who) (rs : List Ran) → TellsState s y st later rs → TellsState s y st later (map (left_for_good who) rs)
leave s y st later who [] h = tt
leave s y st later who (Stands z c ss ∷ rs) h = by (is_who z who) (λ q. leave (end_state s ss) y st later who rs (h.3 q))
  where
    same : is_on y (map (left_for_good who) rs) ≡ is_on y rs
    same = on_map y (left_for_good who) rs (left_same y who)

    by : (b : Bool) → (is_who z y ≡ false → TellsState (end_state s ss) y st later (map (left_for_good who) rs)) → TellsState s y st later ((if b then Gone z ss else Stands z c ss) ∷ map (left_for_good who) rs)
    by true r = (h.0, (λ q o. (h.2 q (sym same ∙ o)).1), r)
    by false r = (h.0, h.1, (λ q o. h.2 q (sym same ∙ o)), r)
leave s y st later who (Gone z ss ∷ rs) h = (h.0, (λ q o. h.1 q (sym (on_map y (left_for_good who) rs (left_same y who)) ∙ o)), (λ q. leave (end_state s ss) y st later who rs (h.2 q)))

-- a slice of one that is told, or stands behind nobody that is
pub ran : (s : State) (y : Who) (st : State) (later : List One) (who : Who) (x : Slice) (rs : List Ran) → (is_who who y ≡ true → is_act_who who ≡ false) → Unmarked who rs → TellsState s y st later rs → TellsState s y st later (map (ran_in who x) rs)
ran s y st later who x [] n u h = tt
ran s y st later who x (Gone z ss ∷ rs) n u h = (h.0, (λ q o. h.1 q (sym (on_map y (ran_in who x) rs (ran_same y who x)) ∙ o)), (λ q. ran (end_state s ss) y st later who x rs n u (h.2 q)))
ran s y st later who x (Stands z c ss ∷ rs) n u h = by (is_who z who) refl (is_on y rs) refl (λ q. ran (end_state s ss) y st later who x rs n u.1 (h.3 q))
  where
    same : is_on y (map (ran_in who x) rs) ≡ is_on y rs
    same = on_map y (ran_in who x) rs (ran_same y who x)

    by : (b : Bool) → is_who z who ≡ b → (o : Bool) → is_on y rs ≡ o → (is_who z y ≡ false → TellsState (end_state s ss) y st later (map (ran_in who x) rs)) → TellsState s y st later (Stands z c (if b then ss ++ x ∷ [] else ss) ∷ map (ran_in who x) rs)
    by true e o f r =
        let j : z ≡ who = TrackLists.is_who_true z who e in (
          (λ q. absurd (true≢false (sym (h.1 q (ap is_act_who j ∙ n (subst (λ v. is_who v y ≡ true) j q))) ∙ u.0 e))),
          h.1,
          (λ q v. h.2 q (sym same ∙ v)),
          (λ q. at o f q),
        )
      where
        at : (o : Bool) → is_on y rs ≡ o → is_who z y ≡ false → TellsState (end_state s (ss ++ x ∷ [])) y st later (map (ran_in who x) rs)
        at true f q = absurd (true≢false (sym (h.2 q f).0 ∙ u.0 e))
        at false f q = off (end_state s (ss ++ x ∷ [])) y st later (map (ran_in who x) rs) (same ∙ f)
    by false e o f r = (h.0, h.1, (λ q v. h.2 q (sym same ∙ v)), r)

pub on_less_without : (y who : Who) (rs : List Ran) → is_on y (without_standing who rs) ≡ true → is_on y rs ≡ true
on_less_without y who [] h = h
on_less_without y who (Stands z c ss ∷ rs) h = by (is_who z who) h (on_less_without y who rs)
  where
    by : (b : Bool) → is_on y (if b then without_standing who rs else Stands z c ss ∷ without_standing who rs) ≡ true → (is_on y (without_standing who rs) ≡ true → is_on y rs ≡ true) → (is_who z y || is_on y rs) ≡ true
    by true h k = or_right (is_who z y) _ (k h)
    by false h k = elim (or_cases (is_who z y) _ h) [ inl q ↦ or_left (is_who z y) _ q | inr q ↦ or_right (is_who z y) _ (k q) ]
on_less_without y who (Gone z ss ∷ rs) h = elim (or_cases (is_who z y) _ h) [ inl q ↦ or_left (is_who z y) _ q | inr q ↦ or_right (is_who z y) _ (on_less_without y who rs q) ]

not_on_after : (kept : List Who) (who : Who) (rs : List Ran) → is_kept who kept ≡ false → KeptFront kept rs → is_on who (without_standing who rs) ≡ false
not_on_after kept who [] n f = refl
not_on_after kept who (Stands z c ss ∷ rs) n f = by (is_who z who) refl (not_on_after kept who rs n f.1)
  where
    by : (b : Bool) → is_who z who ≡ b → is_on who (without_standing who rs) ≡ false → is_on who (if b then without_standing who rs else Stands z c ss ∷ without_standing who rs) ≡ false
    by true e k = k
    by false e k = rw (e, k) refl
not_on_after kept who (Gone z ss ∷ rs) n f = let e : is_who z who ≡ false = false_from_ne_true (is_who z who) (λ q. true≢false (sym f.0 ∙ (ap (λ v. is_kept v kept) (TrackLists.is_who_true z who q) ∙ n))) in rw (e, not_on_after kept who rs n f.1) refl

pub undo : (s : State) (y : Who) (st : State) (later : List One) (who : Who) (kept : List Who) (rs : List Ran) → Unmarked who rs → is_kept who kept ≡ false → KeptFront kept rs → TellsState s y st later rs → TellsState s y st later (without_standing who rs)
undo s y st later who kept [] u n f h = tt
undo s y st later who kept (Gone z ss ∷ rs) u n f h = (h.0, (λ q o. h.1 q (on_less_without y who rs o)), (λ q. undo (end_state s ss) y st later who kept rs u n f.1 (h.2 q)))
undo s y st later who kept (Stands z c ss ∷ rs) u n f h = by (is_who z who) refl (is_on y (without_standing who rs)) refl (λ q. undo (end_state s ss) y st later who kept rs u.1 n f.1 (h.3 q))
  where
    by : (b : Bool) → is_who z who ≡ b → (o : Bool) → is_on y (without_standing who rs) ≡ o → (is_who z y ≡ false → TellsState (end_state s ss) y st later (without_standing who rs)) → TellsState s y st later (if b then without_standing who rs else Stands z c ss ∷ without_standing who rs)
    by true e false o r = off s y st later (without_standing who rs) o
    by true e true o r =
        let q : is_who z y ≡ false = false_from_ne_true (is_who z y) (λ v. true≢false (sym o ∙ (ap (λ i. is_on i (without_standing who rs)) (sym (TrackLists.is_who_true z y v) ∙ TrackLists.is_who_true z who e) ∙ not_on_after kept who rs n f.1))) in
        absurd (true≢false (sym (h.2 q (on_less_without y who rs o)).0 ∙ u.0 e))
    by false e o v r = (h.0, h.1, (λ q i. h.2 q (on_less_without y who rs i)), r)

pub on_less_staying : (y : Who) (cs : List Cascade) (rs : List Ran) → is_on y (long_staying cs rs) ≡ true → is_on y rs ≡ true
on_less_staying y cs [] h = h
on_less_staying y cs (Stands z c ss ∷ rs) h = by (is_cut cs z) h (on_less_staying y cs rs)
  where
    by : (b : Bool) → is_on y (if b then [] else Stands z c ss ∷ long_staying cs rs) ≡ true → (is_on y (long_staying cs rs) ≡ true → is_on y rs ≡ true) → (is_who z y || is_on y rs) ≡ true
    by true h k = absurd (true≢false (sym h))
    by false h k = elim (or_cases (is_who z y) _ h) [ inl q ↦ or_left (is_who z y) _ q | inr q ↦ or_right (is_who z y) _ (k q) ]
on_less_staying y cs (Gone z ss ∷ rs) h = elim (or_cases (is_who z y) _ h) [ inl q ↦ or_left (is_who z y) _ q | inr q ↦ or_right (is_who z y) _ (on_less_staying y cs rs q) ]

pub roll_back : (s : State) (y : Who) (st : State) (later : List One) (cs : List Cascade) (rs : List Ran) → TellsState s y st later rs → TellsState s y st later (long_staying cs rs)
roll_back s y st later cs [] h = tt
roll_back s y st later cs (Gone z ss ∷ rs) h = (h.0, (λ q o. h.1 q (on_less_staying y cs rs o)), (λ q. roll_back (end_state s ss) y st later cs rs (h.2 q)))
roll_back s y st later cs (Stands z c ss ∷ rs) h = by (is_cut cs z) (λ q. roll_back (end_state s ss) y st later cs rs (h.3 q))
  where
    by : (b : Bool) → (is_who z y ≡ false → TellsState (end_state s ss) y st later (long_staying cs rs)) → TellsState s y st later (if b then [] else Stands z c ss ∷ long_staying cs rs)
    by true r = tt
    by false r = (h.0, h.1, (λ q o. h.2 q (on_less_staying y cs rs o)), r)

-- ---- one more is told

no_more : (z y : Who) (later : List One) (st : State) → names z later ≡ false → is_who z y ≡ false → names z (later ++ record { who = y; state = st } ∷ []) ≡ false
no_more z y [] st n e = rw e refl
no_more z y (o ∷ os) st n e = let p = or_parts (is_who z o.who) (names z os) n in rw (p.0, no_more z y os st p.1 e) refl

pub later : (s : State) (y : Who) (st : State) (os : List One) (new : Who) (at : State) (kept : List Who) (rs : List Ran) → Unmarked new rs → is_kept new kept ≡ false → KeptFront kept rs → TellsState s y st os rs → TellsState s y st (os ++ record { who = new; state = at } ∷ []) rs
later s y st os new at kept [] u n f h = tt
later s y st os new at kept (Stands z c ss ∷ rs) u n f h = (h.0, h.1, (λ q o. let p = h.2 q o in (p.0, no_more z new os at p.1 (false_from_ne_true (is_who z new) (λ v. true≢false (sym p.0 ∙ u.0 v))))), (λ q. later (end_state s ss) y st os new at kept rs u.1 n f.1 (h.3 q)))
later s y st os new at kept (Gone z ss ∷ rs) u n f h = (h.0, (λ q o. no_more z new os at (h.1 q o) (false_from_ne_true (is_who z new) (λ v. true≢false (sym f.0 ∙ (ap (λ i. is_kept i kept) (TrackLists.is_who_true z new v) ∙ n))))), (λ q. later (end_state s ss) y st os new at kept rs u n f.1 (h.2 q)))

pub linked_end : (s now : State) (ss : List Slice) → Linked s ss now → now ≡ end_state s ss
linked_end s now [] h = sym h
linked_end s now (x ∷ xs) h = linked_end x.left now xs h.1

alone_end : (s now : State) (ss rest : List Slice) → rest ≡ [] → Linked s (ss ++ rest) now → now ≡ end_state s ss
alone_end s now ss rest e h = linked_end s now ss (subst (λ z. Linked s z now) (append-nil ss) (subst (λ z. Linked s (ss ++ z) now) e h))

rest_linked : (s now : State) (ss rest : List Slice) → Linked s (ss ++ rest) now → Linked (end_state s ss) rest now
rest_linked s now [] rest h = h
rest_linked s now (x ∷ xs) rest h = rest_linked x.left now xs rest h.1

pub not_gone : (kept : List Who) (z y : Who) → is_kept z kept ≡ true → is_kept y kept ≡ false → is_who z y ≡ false
not_gone kept z y e n = false_from_ne_true (is_who z y) (λ v. true≢false (sym e ∙ (ap (λ i. is_kept i kept) (TrackLists.is_who_true z y v) ∙ n)))

-- a batch is complete: the state is the one after it
pub told_batch : (k : ℕ) (s now : State) (kept : List Who) (rs : List Ran) → Linked s (slices_in rs) now → InOrder rs → Unmarked (OfBatch k) rs → AheadDone (OfBatch k) rs → is_kept (OfBatch k) kept ≡ false → KeptFront kept rs → TellsState s (OfBatch k) now [] (map (completed k) rs)
told_batch k s now kept [] l o u a n f = tt
told_batch k s now kept (Stands z c ss ∷ rs) l o u a n f = (
  (λ q. alone_end s now ss (slices_in rs) (o.0 (u.0 q)) l),
  (λ q v. or_right c _ q),
  (λ q v. (or_left c _ (a.0 q (sym (on_map (OfBatch k) (completed k) rs (completed_same (OfBatch k) k)) ∙ v)), refl)),
  (λ q. told_batch k (end_state s ss) now kept rs (rest_linked s now ss (slices_in rs) l) o.1 u.1 a.1 n f.1),
)
told_batch k s now kept (Gone z ss ∷ rs) l o u a n f =
    ((λ q. absurd (true≢false (sym q ∙ not_gone kept z (OfBatch k) f.0 n))), (λ q v. refl), (λ q. told_batch k (end_state s ss) now kept rs (rest_linked s now ss (slices_in rs) l) o u a n f.1))

pub told_act : (t : ℕ) (s now : State) (kept : List Who) (rs : List Ran) → Linked s (slices_in rs) now → InOrder rs → Unmarked (OfAct t) rs → AheadDone (OfAct t) rs → is_kept (OfAct t) kept ≡ false → KeptFront kept rs → TellsState s (OfAct t) now [] rs
told_act t s now kept [] l o u a n f = tt
told_act t s now kept (Stands z c ss ∷ rs) l o u a n f = (
  (λ q. alone_end s now ss (slices_in rs) (o.0 (u.0 q)) l),
  (λ q v. absurd (true≢false (sym (subst (λ i. is_act_who i ≡ true) (sym (TrackLists.is_who_true z (OfAct t) q)) refl) ∙ v))),
  (λ q v. (a.0 q v, refl)),
  (λ q. told_act t (end_state s ss) now kept rs (rest_linked s now ss (slices_in rs) l) o.1 u.1 a.1 n f.1),
)
told_act t s now kept (Gone z ss ∷ rs) l o u a n f =
    ((λ q. absurd (true≢false (sym q ∙ not_gone kept z (OfAct t) f.0 n))), (λ q v. refl), (λ q. told_act t (end_state s ss) now kept rs (rest_linked s now ss (slices_in rs) l) o u a n f.1))

-- ---- all that is told

pub all_tells : (rd : Who → Bool) (Prem : Who → Type 0) (s : State) (os : List One) (long long' : List Ran) → ((y : Who) (st : State) (later : List One) → Prem y → TellsState s y st later long → TellsState s y st later long') → AllByRecursion (λ o. Prem o.who) os → AllTells rd s os long → AllTells rd s os long'
all_tells rd Prem s [] long long' k p h = tt
all_tells rd Prem s (o ∷ os) long long' k p h = ((λ n. k o.who o.state os p.0 (h.0 n)), all_tells rd Prem s os long long' k p.1 h.1)

-- more of them are known as readers
pub fewer_tell : (rd rd' : Who → Bool) (s : State) (os : List One) (long : List Ran) → ((y : Who) → rd y ≡ true → rd' y ≡ true) → AllTells rd s os long → AllTells rd' s os long
fewer_tell rd rd' s [] long k h = tt
fewer_tell rd rd' s (o ∷ os) long k h = ((λ n. h.0 (false_from_ne_true (rd o.who) (λ q. true≢false (sym (k o.who q) ∙ n)))), fewer_tell rd rd' s os long k h.1)

pub add_told : (rd : Who → Bool) (s : State) (os : List One) (n : One) (long long' : List Ran) → ((y : Who) (st : State) (later : List One) → TellsState s y st later long → TellsState s y st (later ++ n ∷ []) long') → (rd n.who ≡ false → TellsState s n.who n.state [] long') → AllTells rd s os long → AllTells rd s (os ++ n ∷ []) long'
add_told rd s [] n long long' k t h = (t, tt)
add_told rd s (o ∷ os) n long long' k t h = ((λ v. k o.who o.state os (h.0 v)), add_told rd s os n long long' k t h.1)

-- ---- when it commits

-- who committed before is not told later
pub none_later : (s : State) (y : Who) (st : State) (os : List One) (z : Who) (kept : List Who) (rs : List Ran) → is_kept y kept ≡ false → KeptFront kept rs → is_on y rs ≡ true → is_kept z kept ≡ true → is_on z rs ≡ true → TellsState s y st os rs → names z os ≡ false
none_later s y st os z kept [] n f o kz oz h = absurd (true≢false (sym o))
none_later s y st os z kept (Stands x c ss ∷ rs) n f o kz oz h = by (is_who x y) refl (λ e oy q. none_later (end_state s ss) y st os z kept rs n f.1 oy kz q (h.3 e))
  where
    by : (b : Bool) → is_who x y ≡ b → (is_who x y ≡ false → is_on y rs ≡ true → is_on z rs ≡ true → names z os ≡ false) → names z os ≡ false
    by true e r = absurd (elim (or_cases (is_who x z) (is_on z rs) oz) [
      | inl q ↦ true≢false (sym kz ∙ (ap (λ v. is_kept v kept) (sym (TrackLists.is_who_true x z q) ∙ TrackLists.is_who_true x y e) ∙ n))
      | inr q ↦ true≢false (sym (f.0 (on_kept kept z rs kz q)) ∙ (ap (λ v. is_kept v kept) (TrackLists.is_who_true x y e) ∙ n))
    ])
    by false e r =
        let oy : is_on y rs ≡ true = elim (or_cases (is_who x y) (is_on y rs) o) [ inl q ↦ absurd (true≢false (sym q ∙ e)) | inr q ↦ q ] in
        elim (or_cases (is_who x z) (is_on z rs) oz) [
          | inl q ↦ subst (λ v. names v os ≡ false) (TrackLists.is_who_true x z q) (h.2 e oy).1
          | inr q ↦ r e oy q
        ]
none_later s y st os z kept (Gone x ss ∷ rs) n f o kz oz h =
    let e : is_who x y ≡ false = not_gone kept x y f.0 n in
    let oy : is_on y rs ≡ true = elim (or_cases (is_who x y) (is_on y rs) o) [ inl q ↦ absurd (true≢false (sym q ∙ e)) | inr q ↦ q ] in
    elim (or_cases (is_who x z) (is_on z rs) oz) [
      | inl q ↦ subst (λ v. names v os ≡ false) (TrackLists.is_who_true x z q) (h.1 e oy)
      | inr q ↦ none_later (end_state s ss) y st os z kept rs n f.1 oy kz q (h.2 e)
    ]
