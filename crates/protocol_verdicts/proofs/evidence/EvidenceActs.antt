-- What an event makes of an ACT's verdict: it stays, and a new one has its cause.
use Rattle.std.specs.Prelude.{◌≡◌, refl, ℕ, ◌≤◌, ◌==◌, nat_le, max, Bool, true, false, ◌&&◌, ◌⊎◌, if◌then◌else◌, unwrap_or, Option, Some, None, is_some, List, [], ◌∷◌, ◌++◌, map}
use Rattle.std.proofs.Common.{arith, sym, ap, subst, inl, inr, ◌∙◌}
use Rattle.std.proofs.lemmas.Bool.{true≢false, eqb-true, leb-true, and_parts}
use Rattle.snap_base.specs.declared.transactions.TxResult.{TxResult}
use Rattle.snap_base.specs.declared.transactions.TxResult.TheVariants.{Value, Fail}
use Rattle.snap_base.specs.declared.verdicts.Verdict.{Verdict}
use Rattle.snap_base.specs.declared.verdicts.Verdict.TheVariants as verdicts
use Rattle.protocol.specs.Fixed.{Fixed, base, Next, Go, Ended, is_reader}
use Rattle.protocol.specs.Parts.{Act, Status, Live, Doomed, Decided, Sealed, Outcome, Machine}
use Rattle.protocol.specs.Events.{Event, Admit, Arrive, Ask, End, Abort, Prepare, Vouch, Decide, Seal, Finish}
use Rattle.protocol.specs.Words.{holds, is_value, is_live_status, is_decided, act_of, outcome_of, has_act, is_ended, is_ordered, lock_of, floor_at}
use Rattle.protocol.specs.Verdicts.{act_verdict, act_place, died, taken_along, out_of_order}
use Rattle.protocol.specs.Spread.{raised, crossed_out, is_crossed, reaches}
use Rattle.protocol.specs.Conditions.{IsAllowed, conditions}
use Rattle.protocol.specs.Effects.{after, cell_at, no_cell}
use Rattle.protocol.specs.OnPost.{next_act}
use Rattle.protocol.specs.OnBook as book
use Rattle.protocol.specs.OnBook.{in_the_way, why, failed_tx}
use Rattle.protocol.specs.History.{History}
use Rattle.protocol_verdicts.specs.Evidence.{PlacesOn}
use Rattle.protocol_laws.specs.Told.{EachAct}
use Rattle.protocol_laws.proofs.machine.ControlWalk.{AllControls}
use Rattle.protocol_laws.proofs.machine.TracksKept.{held}
use Rattle.protocol_laws.proofs.machine.ActsFound as acts
use Rattle.protocol_laws.proofs.machine.ActsFound.{Holds, found_map, found_raised, found_tid}
use Rattle.protocol_laws.proofs.machine.ActResults as results
use Rattle.protocol_laws.proofs.machine.ActResults.{NoneActed, NoActResult}
use Rattle.protocol_laws.proofs.machine.ActsKept.{Acts, not_placed}
use Rattle.protocol_laws.proofs.first.Lists.{some_of}
use Rattle.protocol_laws.proofs.first.Statuses.{if_tid, ordered_not_live, sealed_not_decided}
use Rattle.protocol_laws.proofs.machine.CommitRecords.{decided_placed, decided_value}
use Rattle.protocol_theorems.proofs.sets.AtPlacing.{status_joined}
use Rattle.protocol_verdicts.proofs.evidence.EvidencePacts.{none_some}

-- ---- who is decided has a value

abbrev pub HasValue : ℕ → Act → Type 0
HasValue t x = is_decided x.status ≡ true → is_value x.result ≡ true

unfoldable pub DecidedHaveValues : {C : Type 0} → Machine C → Type 0
DecidedHaveValues s = EachAct HasValue s.book.acts

value_holds : Holds HasValue
value_holds = record {
  numbered = λ t x n p. p;
  marked = λ t a x f i p. p;
  sealed = λ t x p e. absurd (true≢false (sym e ∙ sealed_not_decided x.status));
  doomed = λ t x v l p e. absurd (true≢false (sym e));
  rises = λ t k x l p. p;
}

-- the ACT that ended has no result before
ends_bare : {C : Type 0} (w : Fixed C) (t a : ℕ) (s : Machine C) → IsAllowed w (End t a) s → AllControls (NoneActed s) s → NoActResult t s.book.acts
unfolding conditions
ends_bare w t a s ok n = results.outcome_none (λ x. is_ended x.next) t a s (held (λ c. holds (λ x. is_ended x.next) (outcome_of t c.outbox)) s.cells a no_cell ok.0) n

pub values_kept : {C : Type 0} (w : Fixed C) (e : Event) (s : Machine C) (h : History) → IsAllowed w e s → AllControls (NoneActed s) s → Acts s h → DecidedHaveValues s → DecidedHaveValues (after w e s)
unfolding DecidedHaveValues acts.Ready Acts
values_kept w (Admit t) s h ok n i g = acts.acts_keep w (Admit t) s HasValue value_holds (λ e a. absurd (true≢false (sym a))) g
values_kept w (Ask t a) s h ok n i g = acts.acts_keep w (Ask t a) s HasValue value_holds (λ x e p. p) g
values_kept w (End t a) s h ok n i g = acts.acts_keep w (End t a) s HasValue value_holds (λ x r e p q. absurd (true≢false (sym (decided_placed x.status q) ∙ not_placed _ _ _ _ _ t x (i t x e) (ends_bare w t a s ok n t x e refl)))) g
values_kept w (Decide t) s h ok n i g = acts.acts_keep w (Decide t) s HasValue value_holds (λ x e p. decided_value s.book.next_c (is_value x.result) x.status p) g
values_kept w e s h ok n i g = acts.acts_keep w e s HasValue value_holds tt g

-- ---- what becomes of an ACT

abbrev pub said : Act → Option Verdict
said x = act_verdict x.status x.m x.result

-- x before the event and y after it
abbrev pub Cause : {C : Type 0} → ℕ → Act → Act → Event → Machine C → Verdict → Type 0
Cause t x y e s (verdicts.Committed p v) = (c : ℕ) × ((e ≡ Seal t) × ((x.status ≡ Decided c) × ((x.result ≡ Some (Value v)) × (act_place x.m c ≡ p))))
Cause t x y e s (verdicts.Code p c) = (e ≡ Decide t) × ((is_live_status x.status ≡ true) × ((x.result ≡ Some (Fail c)) × (act_place x.m s.book.next_c ≡ p)))
Cause t x y e s (verdicts.BatchCode k c code) = ⊥
Cause t x y e s (verdicts.Cascade k by) = (e ≡ Abort k.0) × ((is_live_status x.status ≡ true) × ((k.0 ≤ x.m) × (failed_tx (why k.0 s.desk) ≡ by.0)))
Cause t x y e s (verdicts.Died a older own) = (e ≡ Ask own.0 a.0) × ((own.0 ≡ t) × ((is_live_status x.status ≡ true) × (in_the_way (lock_of own.0 s.book.acts) (cell_at s a.0).entries ≡ Some older.0)))
Cause t x y e s (verdicts.Order m k a) = PlacesOn a.0 e s × ((is_live_status x.status ≡ true) × ((y.m ≡ m.0) × ((y.n ≡ Some k.0) × (k.0 ≤ m.0))))
Cause t x y e s (verdicts.Unsure l) = ⊥

pub record Moves {C : Type 0} (e : Event) (s : Machine C) (t : ℕ) (x y : Act) : Type 0 where
  pub tx : y.tx ≡ x.tx
  pub stays : (v : Verdict) → said x ≡ Some v → said y ≡ Some v
  pub cause : (v : Verdict) → said x ≡ None → said y ≡ Some v → Cause t x y e s v

pub record MovedFrom {C : Type 0} (e : Event) (s : Machine C) (t : ℕ) (y : Act) : Type 0 where
  pub from : Act
  pub found : act_of t s.book.acts ≡ Some from
  pub moves : Moves e s t from y

pub record IsNew {C : Type 0} (s : Machine C) (t : ℕ) (y : Act) : Type 0 where
  pub fresh : act_of t s.book.acts ≡ None
  pub silent : said y ≡ None

silent : (st : Status) (m : ℕ) (r : Option TxResult) → is_live_status st ≡ true → act_verdict st m r ≡ None
silent Live m r e = refl
silent (Doomed v) m r e = absurd (true≢false (sym e))
silent (Decided c) m r e = refl
silent (Sealed c) m r e = absurd (true≢false (sym e))

fixed : {C : Type 0} (e : Event) (s : Machine C) (t : ℕ) (x y : Act) → y.tx ≡ x.tx → said y ≡ said x → Moves e s t x y
fixed e s t x y i j = record { tx = i; stays = λ v f. j ∙ f; cause = λ v f g. absurd (none_some (said y) v (j ∙ f) g) }

lively : {C : Type 0} (e : Event) (s : Machine C) (t : ℕ) (x y : Act) → y.tx ≡ x.tx → said x ≡ None → ((v : Verdict) → said y ≡ Some v → Cause t x y e s v) → Moves e s t x y
lively e s t x y i l k = record { tx = i; stays = λ v f. absurd (none_some (said x) v l f); cause = λ v f g. k v g }

doomed_now : {C : Type 0} (e : Event) (s : Machine C) (t : ℕ) (x y : Act) (u : Verdict) → y.tx ≡ x.tx → is_live_status x.status ≡ true → y.status ≡ Doomed u → Cause t x y e s u → Moves e s t x y
doomed_now e s t x y u i l d k = lively e s t x y i (silent x.status x.m x.result l) (λ v g. subst (Cause t x y e s) (one v (sym (ap (λ z. act_verdict z y.m y.result) d) ∙ g)) k)
  where
    one : (v : Verdict) → Some u ≡ Some v → u ≡ v
    one v e = cc e

from : {C : Type 0} (e : Event) (s : Machine C) (t : ℕ) (x y : Act) → act_of t s.book.acts ≡ Some x → Moves e s t x y → MovedFrom e s t y
from e s t x y f m = record { from = x; found = f; moves = m }

-- ---- one is changed

mapped : {C : Type 0} (e : Event) (s : Machine C) (f : Act → Act) → ((x : Act) → (f x).tid ≡ x.tid) → ((t : ℕ) (x : Act) → act_of t s.book.acts ≡ Some x → Moves e s t x (f x)) → EachAct (MovedFrom e s) (map f s.book.acts)
mapped e s f i k = λ t y q. let g = found_map f i t y s.book.acts q in from e s t g.from y g.found (subst (Moves e s t g.from) g.is_it (k t g.from g.found))

changed : {C : Type 0} (e : Event) (s : Machine C) (u : ℕ) (f : Act → Act) → ((x : Act) → (f x).tid ≡ x.tid) → ((x : Act) → act_of u s.book.acts ≡ Some x → Moves e s u x (f x)) → EachAct (MovedFrom e s) (book.changed_act u f s.book.acts)
changed e s u f i k = mapped e s (λ x. book.change_if (x.tid == u) f x) (λ x. if_tid (x.tid == u) f x (i x)) (λ t x q. by t x q (x.tid == u) refl)
  where
    by : (t : ℕ) (x : Act) → act_of t s.book.acts ≡ Some x → (b : Bool) → (x.tid == u) ≡ b → Moves e s t x (book.change_if b f x)
    by t x q true j = let l : u ≡ t = sym (eqb-true x.tid u j) ∙ found_tid t x s.book.acts q in subst (λ z. Moves e s z x (f x)) l (k x (subst (λ z. act_of z s.book.acts ≡ Some x) (sym l) q))
    by t x q false j = fixed e s t x x refl refl

-- ---- numbers that cross

reached : (m : ℕ) (n : Option ℕ) → reaches m n ≡ true → (n ≡ Some (unwrap_or n 0)) × (unwrap_or n 0 ≤ m)
reached m None e = absurd (true≢false (sym e))
reached m (Some k) e = (refl, leb-true k m e)

unlive_said : (st : Status) (m n : ℕ) (r : Option TxResult) → (is_ordered st ≡ true → n ≡ m) → act_verdict st n r ≡ act_verdict st m r
unlive_said Live m n r h = refl
unlive_said (Doomed v) m n r h = refl
unlive_said (Decided c) m n r h = refl
unlive_said (Sealed c) m n r h = rw (h refl) refl

crossing : {C : Type 0} (e : Event) (s : Machine C) (t a : ℕ) (x z : Act) → PlacesOn a e s → z.status ≡ x.status → z.tx ≡ x.tx → z.result ≡ x.result → (is_ordered x.status ≡ true → z.m ≡ x.m) → Moves e s t x (crossed_out a z)
crossing e s t a x z p i j k l = by (is_crossed z) refl
  where
    by : (b : Bool) → is_crossed z ≡ b → Moves e s t x (record z { status = if b then Doomed (out_of_order z.m (unwrap_or z.n 0) a) else z.status })
    by true q =
        let c = and_parts (is_live_status z.status) (reaches z.m z.n) q in
        let live : is_live_status x.status ≡ true = ap is_live_status (sym i) ∙ c.0 in
        let r = reached z.m z.n c.1 in
        doomed_now e s t x (record z { status = Doomed (out_of_order z.m (unwrap_or z.n 0) a) }) (out_of_order z.m (unwrap_or z.n 0) a) j live refl (p, (live, (refl, (r.0, r.1))))
    by false q = fixed e s t x z j (ap (λ y. act_verdict y z.m z.result) i ∙ (ap (λ y. act_verdict x.status z.m y) k ∙ unlive_said x.status x.m z.m x.result l))

-- ---- an ACT asks

joined_if : (b : Bool) (a m : ℕ) (x : Act) → (b ≡ true → is_live_status x.status ≡ true) → (is_ordered x.status ≡ true → (book.change_if b (book.joins a m) x).m ≡ x.m)
joined_if true a m x h l = absurd (true≢false (sym (h refl) ∙ ordered_not_live x.status l))
joined_if false a m x h l = refl

pub joined_tx : (b : Bool) (a m : ℕ) (x : Act) → (book.change_if b (book.joins a m) x).tx ≡ x.tx
joined_tx true a m x = refl
joined_tx false a m x = refl

joined_result : (b : Bool) (a m : ℕ) (x : Act) → (book.change_if b (book.joins a m) x).result ≡ x.result
joined_result true a m x = refl
joined_result false a m x = refl

asked : {C : Type 0} (s : Machine C) (u a : ℕ) → holds (λ x. is_live_status x.status) (act_of u s.book.acts) ≡ true → (o : Option ℕ) → in_the_way (lock_of u s.book.acts) (cell_at s a).entries ≡ o
    → EachAct (MovedFrom (Ask u a) s) (book.asked_acts o (book.met (lock_of u s.book.acts) (cell_at s a).entries) u a (max (cell_at s a).last (floor_at u s.book.acts (cell_at s a))) s.book)
asked s u a l (Some older) q = changed (Ask u a) s u (book.doomed_by (died a older u)) (λ x. refl) (λ x f. by x (some_of (λ x. is_live_status x.status) (act_of u s.book.acts) x f l))
  where
    by : (x : Act) → is_live_status x.status ≡ true → Moves (Ask u a) s u x (book.doomed_by (died a older u) x)
    by x g = doomed_now (Ask u a) s u x (book.doomed_by (died a older u) x) (died a older u) refl g (rw g refl) (refl, (refl, (g, q)))
asked s u a l None q = λ t y f.
    let own = book.changed_act u (book.joins a (max (cell_at s a).last (floor_at u s.book.acts (cell_at s a)))) s.book.acts in
    let g = found_map (crossed_out a) (λ x. refl) t y (raised (s.book.pairs ++ book.new_pairs u a (book.met (lock_of u s.book.acts) (cell_at s a).entries) s.book.acts) own) f in
    let r = found_raised (s.book.pairs ++ book.new_pairs u a (book.met (lock_of u s.book.acts) (cell_at s a).entries) s.book.acts) t g.from own g.found in
    let b = found_map (λ x. book.change_if (x.tid == u) (book.joins a (max (cell_at s a).last (floor_at u s.book.acts (cell_at s a)))) x) (λ x. if_tid (x.tid == u) (book.joins a (max (cell_at s a).last (floor_at u s.book.acts (cell_at s a)))) x refl) t r.from s.book.acts r.found in
    from (Ask u a) s t b.from y b.found (subst (Moves (Ask u a) s t b.from) g.is_it (subst (λ z. Moves (Ask u a) s t b.from (crossed_out a z)) r.is_it (subst (λ z. Moves (Ask u a) s t b.from (crossed_out a (record z { m = max z.m r.k }))) b.is_it (own_moves t b.from r.k b.found (λ d. r.placed (ap is_ordered (sym (ap (λ z. z.status) b.is_it) ∙ status_joined (b.from.tid == u) a _ b.from) ∙ d))))))
  where
    own_moves : (t : ℕ) (x : Act) (k : ℕ) → act_of t s.book.acts ≡ Some x → (is_ordered x.status ≡ true → k ≡ 0)
        → Moves (Ask u a) s t x (crossed_out a (record (book.change_if (x.tid == u) (book.joins a (max (cell_at s a).last (floor_at u s.book.acts (cell_at s a)))) x) { m = max (book.change_if (x.tid == u) (book.joins a (max (cell_at s a).last (floor_at u s.book.acts (cell_at s a)))) x).m k }))
    own_moves t x k f d =
        let m = max (cell_at s a).last (floor_at u s.book.acts (cell_at s a)) in
        let live = λ (j : (x.tid == u) ≡ true). some_of (λ x. is_live_status x.status) (act_of u s.book.acts) x (subst (λ z. act_of z s.book.acts ≡ Some x) (sym (found_tid t x s.book.acts f) ∙ eqb-true x.tid u j) f) l in
        crossing (Ask u a) s t a x (record (book.change_if (x.tid == u) (book.joins a m) x) { m = max (book.change_if (x.tid == u) (book.joins a m) x).m k })
        (inr (u, (refl, q))) (status_joined (x.tid == u) a m x) (joined_tx (x.tid == u) a m x) (joined_result (x.tid == u) a m x)
        (λ e. omega (arith, d e, joined_if (x.tid == u) a m x live e))

-- ---- it ends, is decided, is sealed

ended_said : (st : Status) (m : ℕ) (r q : Option TxResult) → is_ordered st ≡ false → act_verdict st m r ≡ act_verdict st m q
ended_said Live m r q e = refl
ended_said (Doomed v) m r q e = refl
ended_said (Decided c) m r q e = refl
ended_said (Sealed c) m r q e = absurd (true≢false e)

decides : {C : Type 0} (s : Machine C) (t : ℕ) (x : Act) → is_some x.result ≡ true → is_live_status x.status ≡ true → Moves (Decide t) s t x (book.decided_as s.book.next_c x)
decides s t x r l = lively (Decide t) s t x (book.decided_as s.book.next_c x) refl (silent x.status x.m x.result l) (λ v g. by x.status l x.result refl r v g)
  where
    by : (st : Status) → is_live_status st ≡ true → (o : Option TxResult) → x.result ≡ o → is_some o ≡ true → (v : Verdict) → act_verdict (book.decided_status s.book.next_c (is_value o) st) x.m o ≡ Some v → Cause t x (book.decided_as s.book.next_c x) (Decide t) s v
    by Live q None e f v g = absurd (true≢false (sym f))
    by Live q (Some (Value z)) e f v g = absurd (cc g)
    by Live q (Some (Fail c)) e f v g = let i : verdicts.Code (act_place x.m s.book.next_c) c ≡ v = cc g in subst (Cause t x (book.decided_as s.book.next_c x) (Decide t) s) i (refl, (l, (e, refl)))
    by (Doomed u) q o e f v g = absurd (true≢false (sym q))
    by (Decided c) q o e f v g = absurd (true≢false (sym q))
    by (Sealed c) q o e f v g = absurd (true≢false (sym q))

seals : {C : Type 0} (s : Machine C) (t : ℕ) (x : Act) → is_decided x.status ≡ true → is_value x.result ≡ true → Moves (Seal t) s t x (book.sealed x)
seals s t x d i = lively (Seal t) s t x (book.sealed x) refl (quiet x.status x.m x.result d) (λ v g. by x.status refl d x.result refl i v g)
  where
    quiet : (st : Status) (m : ℕ) (r : Option TxResult) → is_decided st ≡ true → act_verdict st m r ≡ None
    quiet Live m r e = refl
    quiet (Doomed v) m r e = absurd (true≢false (sym e))
    quiet (Decided c) m r e = refl
    quiet (Sealed c) m r e = absurd (true≢false (sym e))

    by : (st : Status) → x.status ≡ st → is_decided st ≡ true → (o : Option TxResult) → x.result ≡ o → is_value o ≡ true → (v : Verdict) → act_verdict (book.sealed_status st) x.m o ≡ Some v → Cause t x (book.sealed x) (Seal t) s v
    by (Decided c) a q (Some (Value z)) e f v g = let i : verdicts.Committed (act_place x.m c) z ≡ v = cc g in subst (Cause t x (book.sealed x) (Seal t) s) i (c, (refl, (a, (e, refl))))
    by (Decided c) a q (Some (Fail z)) e f v g = absurd (true≢false (sym f))
    by (Decided c) a q None e f v g = absurd (true≢false (sym f))
    by Live a q o e f v g = absurd (true≢false (sym q))
    by (Doomed u) a q o e f v g = absurd (true≢false (sym q))
    by (Sealed c) a q o e f v g = absurd (true≢false (sym q))

-- ---- a cascade

takes : {C : Type 0} (s : Machine C) (t k : ℕ) (x : Act) → Moves (Abort k) s t x (book.cascaded k (failed_tx (why k s.desk)) x)
takes s t k x = by (is_live_status x.status) (nat_le k x.m) refl refl
  where
    by : (b q : Bool) → is_live_status x.status ≡ b → nat_le k x.m ≡ q → Moves (Abort k) s t x (record x { n = None; status = if b && q then Doomed (taken_along k (failed_tx (why k s.desk))) else x.status })
    by true true e f = doomed_now (Abort k) s t x (record x { n = None; status = Doomed (taken_along k (failed_tx (why k s.desk))) }) (taken_along k (failed_tx (why k s.desk))) refl e refl (refl, (e, (leb-true k x.m f, refl)))
    by true false e f = fixed (Abort k) s t x (record x { n = None }) refl refl
    by false q e f = fixed (Abort k) s t x (record x { n = None }) refl refl

-- ---- all events

abbrev pub Became : {C : Type 0} → Event → Machine C → ℕ → Act → Type 0
Became e s t y = MovedFrom e s t y ⊎ IsNew s t y

old : {C : Type 0} (e : Event) (s : Machine C) (xs : List Act) → EachAct (MovedFrom e s) xs → EachAct (Became e s) xs
old e s xs h = λ t y q. inl (h t y q)

same : {C : Type 0} (e : Event) (s : Machine C) → EachAct (MovedFrom e s) s.book.acts
same e s = λ t y q. from e s t y y q (fixed e s t y y refl refl)

pub became : {C : Type 0} (w : Fixed C) (e : Event) (s : Machine C) (h : History) → IsAllowed w e s → ((t a : ℕ) → e ≡ Ask t a → holds (λ x. is_live_status x.status) (act_of t s.book.acts) ≡ true)
    → AllControls (NoneActed s) s → Acts s h → DecidedHaveValues s → EachAct (Became e s) (after w e s).book.acts
unfolding after conditions Acts DecidedHaveValues
became w (Admit u) s h ok l n i d = λ t y f. by t y s.book.acts (λ g. inl (same (Admit u) s t y g)) (λ j g. inr (record { fresh = g; silent = ap said (sym j) })) f
  where
    by : (t : ℕ) (y : Act) (zs : List Act) → (act_of t zs ≡ Some y → Became (Admit u) s t y) → (book.new_act u (next_act s.ring) (is_reader w (next_act s.ring)) (base w.text) ≡ y → act_of t zs ≡ None → Became (Admit u) s t y) → act_of t (zs ++ book.new_act u (next_act s.ring) (is_reader w (next_act s.ring)) (base w.text) ∷ []) ≡ Some y → Became (Admit u) s t y
    by t y [] k g f = at (u == t) f
      where
        at : (b : Bool) → (if b then Some (book.new_act u (next_act s.ring) (is_reader w (next_act s.ring)) (base w.text)) else None) ≡ Some y → Became (Admit u) s t y
        at true f = g (cc f) refl
        at false f = absurd (cc f)
    by t y (z ∷ zs) k g f = at (z.tid == t) k g f (by t y zs)
      where
        at : (b : Bool) → ((if b then Some z else act_of t zs) ≡ Some y → Became (Admit u) s t y) → (book.new_act u (next_act s.ring) (is_reader w (next_act s.ring)) (base w.text) ≡ y → (if b then Some z else act_of t zs) ≡ None → Became (Admit u) s t y)
            → (if b then Some z else act_of t (zs ++ book.new_act u (next_act s.ring) (is_reader w (next_act s.ring)) (base w.text) ∷ [])) ≡ Some y
            → ((act_of t zs ≡ Some y → Became (Admit u) s t y) → (book.new_act u (next_act s.ring) (is_reader w (next_act s.ring)) (base w.text) ≡ y → act_of t zs ≡ None → Became (Admit u) s t y) → act_of t (zs ++ book.new_act u (next_act s.ring) (is_reader w (next_act s.ring)) (base w.text) ∷ []) ≡ Some y → Became (Admit u) s t y) → Became (Admit u) s t y
        at true k g f r = k f
        at false k g f r = r k g f
became w (Arrive k a) s h ok l n i d = old (Arrive k a) s _ (λ t y f.
    let g = found_map (crossed_out a) (λ x. refl) t y (map (book.lowered k (book.tids_on (cell_at s a).entries)) s.book.acts) f in
    let b = found_map (book.lowered k (book.tids_on (cell_at s a).entries)) (λ x. refl) t g.from s.book.acts g.found in
    from (Arrive k a) s t b.from y b.found (subst (Moves (Arrive k a) s t b.from) g.is_it (subst (λ z. Moves (Arrive k a) s t b.from (crossed_out a z)) b.is_it
    (crossing (Arrive k a) s t a b.from (book.lowered k (book.tids_on (cell_at s a).entries) b.from) (inl (k, refl)) refl refl refl (λ q. refl)))))
became w (Ask u a) s h ok l n i d = old (Ask u a) s _ (asked s u a (l u a refl) (in_the_way (lock_of u s.book.acts) (cell_at s a).entries) refl)
became {C} w (End u a) s h ok l n i d = old (End u a) s _ (by (has_act u (cell_at s a).entries) (outcome_of u (cell_at s a).outbox))
  where
    next : (x : Next C) → EachAct (MovedFrom (End u a) s) (book.noted_for u x s.book.acts)
    next (Go b x) = same (End u a) s
    next (Ended r) = changed (End u a) s u (book.with_result r) (λ x. refl) (λ x f. fixed (End u a) s u x (book.with_result r x) refl (ended_said x.status x.m (Some r) x.result (not_placed _ _ _ _ _ u x (i u x f) (ends_bare w u a s ok n u x f refl))))

    by : (v : Bool) (o : Option (Outcome C)) → EachAct (MovedFrom (End u a) s) (if v then book.noted_from u o s.book.acts else s.book.acts)
    by false o = same (End u a) s
    by true None = same (End u a) s
    by true (Some x) = next x.next
became w (Abort k) s h ok l n i d = old (Abort k) s _ (mapped (Abort k) s (book.cascaded k (failed_tx (why k s.desk))) (λ x. refl) (λ t x f. takes s t k x))
became w (Prepare u a) s h ok l n i d = old (Prepare u a) s _ (changed (Prepare u a) s u (book.marked a book.is_prepared) (λ x. refl) (λ x f. fixed (Prepare u a) s u x (book.marked a book.is_prepared x) refl refl))
became w (Vouch u a) s h ok l n i d = old (Vouch u a) s _ (changed (Vouch u a) s u (book.marked a book.is_vouched) (λ x. refl) (λ x f. fixed (Vouch u a) s u x (book.marked a book.is_vouched x) refl refl))
became w (Decide u) s h ok l n i d = old (Decide u) s _ (changed (Decide u) s u (book.decided_as s.book.next_c) (λ x. refl) (λ x f.
    let v = and_parts (is_some x.result) (is_live_status x.status) (some_of (λ x. is_some x.result && is_live_status x.status) (act_of u s.book.acts) x f ok.0) in
    decides s u x v.0 v.1))
became w (Seal u) s h ok l n i d = old (Seal u) s _ (changed (Seal u) s u book.sealed (λ x. refl) (λ x f.
    let v = some_of (λ x. is_decided x.status) (act_of u s.book.acts) x f ok.0 in
    seals s u x v (d u x f v)))
became w (Finish u a) s h ok l n i d = old (Finish u a) s _ (changed (Finish u a) s u (book.marked a book.has_left) (λ x. refl) (λ x f. fixed (Finish u a) s u x (book.marked a book.has_left x) refl refl))
became w e s h ok l n i d = old e s _ (same e s)
