-- What an event makes of a PACT's verdict: it stays, and a new one has its cause.
use Rattle.std.specs.Prelude.{◌≡◌, ◌≢◌, refl, ℕ, ◌+◌, ◌≤◌, ◌==◌, nat_le, not, Bool, true, false, ◌&&◌, ◌⊎◌, if◌then◌else◌, Option, Some, None, List, [], ◌∷◌, ◌++◌, map, find}
use Rattle.std.specs.List.{AllByRecursion, list_all}
use Rattle.std.proofs.Common.{arith, sym, ap, subst, inl, inr, ◌∙◌}
use Rattle.std.proofs.lemmas.Bool.{true≢false, eqb-true, eqb-false, leb-true, and_parts, or_right}
use Rattle.snap_base.specs.declared.transactions.TxResult.{TxResult}
use Rattle.snap_base.specs.declared.transactions.TxResult.TheVariants.{Value, Fail}
use Rattle.snap_base.specs.declared.verdicts.Verdict.{Verdict}
use Rattle.snap_base.specs.declared.verdicts.Verdict.TheVariants as verdicts
use Rattle.protocol.specs.Fixed.{Fixed, Next, Go, Ended}
use Rattle.protocol.specs.Parts.{Pact, Declared, Batch, Cascade, Stage, Formed, Committing, Settled, Outcome, Machine}
use Rattle.protocol.specs.Events.{Event, Form, End, Note, Commit, Settle, Abort, Trim}
use Rattle.protocol.specs.Words.{holds, is_value, is_formed, is_committing, is_open, is_next_to_commit, batch_of, outcome_of, has_act, covers}
use Rattle.protocol.specs.Verdicts.{verdict_in_batch, pact_verdict, settled_verdict, pact_place, taken_along, ended_at}
use Rattle.protocol.specs.Conditions.{IsAllowed, conditions}
use Rattle.protocol.specs.Effects.{after, cell_at}
use Rattle.protocol.specs.OnDesk as desk
use Rattle.protocol.specs.OnBook.{why, failed_tx, failed_code}
use Rattle.protocol_laws.proofs.first.Lists.{all_found, all_join, all_map, some_of}
use Rattle.protocol_laws.proofs.first.SettlingKept as settling
use Rattle.protocol_laws.proofs.first.SettlingKeys as keys
use Rattle.protocol_laws.proofs.machine.ControlWalk.{AllControls}
use Rattle.protocol_laws.proofs.machine.Resting.{NoResult, NoneNoted}
use Rattle.protocol_laws.proofs.first.Statuses.{if_bid}
use Rattle.protocol_laws.proofs.machine.QuietTold.{no_cascade}

-- ---- a batch that is no longer only formed has values

abbrev pub Values : List Pact → Type 0
Values ps = AllByRecursion (λ p. is_value p.result ≡ true) ps

abbrev pub IsValued : Batch → Type 0
IsValued b = is_formed b.stage ≡ false → Values b.pacts

unfoldable pub BatchesHaveValues : {C : Type 0} → Machine C → Type 0
BatchesHaveValues s = AllByRecursion IsValued s.desk.batches

list_each : (ps : List Pact) → list_all (λ p. is_value p.result) ps ≡ true → Values ps
list_each [] e = tt
list_each (p ∷ ps) e = let q = and_parts (is_value p.result) (list_all (λ p. is_value p.result) ps) e in (q.0, list_each ps q.1)

-- who has no result yet has no value
bare : (p : Pact) → p.result ≡ None → is_value p.result ≡ true → ⊥
bare p e f = true≢false (sym f ∙ ap is_value e)

noted_same : (t : ℕ) (r : TxResult) (p : Pact) → (p.tid ≡ t → p.result ≡ None) → is_value p.result ≡ true → desk.with_result t r p ≡ p
noted_same t r p h v = by (p.tid == t) refl
  where
    by : (b : Bool) → (p.tid == t) ≡ b → record p { result = if b then Some r else p.result } ≡ p
    by true e = absurd (bare p (h (eqb-true p.tid t e)) v)
    by false e = refl

stage_if : (b : Bool) (st : Stage) (x : Batch) → IsValued x → (b ≡ true → Values x.pacts) → IsValued (desk.change_if b (desk.with_stage st) x)
stage_if true st x h k = λ e. k refl
stage_if false st x h k = h

marks_if : (b : Bool) (a : ℕ) (f : Declared → Declared) (x : Batch) → IsValued x → IsValued (desk.change_if b (desk.marked a f) x)
marks_if true a f x h = h
marks_if false a f x h = h

-- ---- what is found under a number

pub found_bid : (k : ℕ) (b : Batch) (bs : List Batch) → batch_of k bs ≡ Some b → b.bid ≡ k
found_bid k b [] e = absurd (cc e)
found_bid k b (x ∷ xs) e = by (x.bid == k) refl e (found_bid k b xs)
  where
    by : (q : Bool) → (x.bid == k) ≡ q → (if q then Some x else batch_of k xs) ≡ Some b → (batch_of k xs ≡ Some b → b.bid ≡ k) → b.bid ≡ k
    by true f e r = let i : x ≡ b = cc e in ap (λ z. z.bid) (sym i) ∙ eqb-true x.bid k f
    by false f e r = r e

pub record MappedFrom (f : Batch → Batch) (k : ℕ) (bs : List Batch) (c : Batch) : Type 0 where
  pub from : Batch
  pub found : batch_of k bs ≡ Some from
  pub is_it : f from ≡ c

found_map : (f : Batch → Batch) → ((b : Batch) → (f b).bid ≡ b.bid) → (k : ℕ) (c : Batch) (bs : List Batch) → batch_of k (map f bs) ≡ Some c → MappedFrom f k bs c
found_map f i k c [] e = absurd (cc e)
found_map f i k c (x ∷ xs) e = by (x.bid == k) refl (subst (λ z. (if z == k then Some (f x) else batch_of k (map f xs)) ≡ Some c) (i x) e) (found_map f i k c xs)
  where
    by : (b : Bool) → (x.bid == k) ≡ b → (if b then Some (f x) else batch_of k (map f xs)) ≡ Some c → (batch_of k (map f xs) ≡ Some c → MappedFrom f k xs c) → MappedFrom f k (x ∷ xs) c
    by true q e r = record { from = x; found = rw q refl; is_it = cc e }
    by false q e r = let g = r e in record { from = g.from; found = rw q g.found; is_it = g.is_it }

-- ---- values stay

values_staged : (k : ℕ) (st : Stage) (bs : List Batch) → ((b : Batch) → keys.IsIn (settling.key_of b) (map settling.key_of bs) → b.bid ≡ k → batch_of k bs ≡ Some b → Values b.pacts) → AllByRecursion IsValued bs → (low high : ℕ) → keys.Rises low high (map settling.key_of bs)
    → AllByRecursion IsValued (desk.changed_batch k (desk.with_stage st) bs)
unfolding keys.Rises
values_staged k st [] g h low high r = tt
values_staged k st (x ∷ xs) g h low high r = (stage_if (x.bid == k) st x h.0 (λ e. g x (keys.here (settling.key_of x) (settling.key_of x) (map settling.key_of xs) refl) (eqb-true x.bid k e) (rw e refl)), values_staged k st xs (λ b m i f. g b (keys.there (settling.key_of x) (settling.key_of b) (map settling.key_of xs) m) i (later b m i f)) h.1 (x.bid + 1) high r.1)
  where
    later : (b : Batch) → keys.IsIn (settling.key_of b) (map settling.key_of xs) → b.bid ≡ k → batch_of k xs ≡ Some b → (if x.bid == k then Some x else batch_of k xs) ≡ Some b
    later b m i f = by (x.bid == k) refl
      where
        by : (q : Bool) → (x.bid == k) ≡ q → (if q then Some x else batch_of k xs) ≡ Some b
        by true e = absurd (omega (arith, eqb-true x.bid k e, i, (keys.rises_within (x.bid + 1) high (settling.key_of b) (map settling.key_of xs) r.1 m).0))
        by false e = f

pub values_kept : {C : Type 0} (w : Fixed C) (e : Event) (s : Machine C) → IsAllowed w e s → settling.Settling w s → AllControls (NoneNoted s) s → BatchesHaveValues s → BatchesHaveValues (after w e s)
unfolding BatchesHaveValues conditions after settling.Settling
values_kept w (Form k) s ok g n i = all_join _ s.desk.batches _ i ((λ e. absurd (true≢false e)), tt)
values_kept {C} w (End t a) s ok g n i = by (has_act t (cell_at s a).entries) (outcome_of t (cell_at s a).outbox) refl
  where
    pacts : (r : TxResult) (ps : List Pact) → AllByRecursion (λ p. p.tid ≡ t → p.result ≡ None) ps → Values ps → Values (map (desk.with_result t r) ps)
    pacts r [] i j = tt
    pacts r (p ∷ ps) i j = (ap (λ z. is_value z.result) (noted_same t r p i.0 j.0) ∙ j.0, pacts r ps i.1 j.1)

    if_noted : (b : Bool) (r : TxResult) (ps : List Pact) → AllByRecursion (λ p. p.tid ≡ t → p.result ≡ None) ps → Values ps → Values (if b then ps else map (desk.with_result t r) ps)
    if_noted true r ps z v = v
    if_noted false r ps z v = pacts r ps z v

    all : (r : TxResult) (bs : List Batch) → NoResult t bs → AllByRecursion IsValued bs → AllByRecursion IsValued (map (desk.with_results t r) bs)
    all r [] i j = tt
    all r (b ∷ bs) i j = ((λ e. if_noted b.aborted r b.pacts i.0 (j.0 e)), all r bs i.1 j.1)

    next : (x : Outcome C) → outcome_of t (cell_at s a).outbox ≡ Some x → (y : Next C) → AllByRecursion IsValued (desk.noted_for t y s.desk.batches)
    next x e (Go b c) = i
    next x e (Ended r) = let f = all_found (λ x. NoneNoted s x.tid x.next) (λ x. x.tid == t) (cell_at s a).outbox x (n.outboxes a) e in all r s.desk.batches (subst (λ v. NoResult v s.desk.batches) (eqb-true x.tid t f.1) f.0) i

    by : (q : Bool) (o : Option (Outcome C)) → outcome_of t (cell_at s a).outbox ≡ o → AllByRecursion IsValued (if q then s.desk.batches else desk.noted_from t o s.desk.batches)
    by true o e = i
    by false None e = i
    by false (Some x) e = next x e x.next
values_kept w (Note k a) s ok g n i = all_map IsValued IsValued _ s.desk.batches (λ b j. marks_if (b.bid == k) a desk.is_noted b j) i
values_kept w (Trim k a) s ok g n i = all_map IsValued IsValued _ s.desk.batches (λ b j. marks_if (b.bid == k) a desk.is_trimmed b j) i
values_kept w (Commit k) s ok g n i = values_staged k Committing s.desk.batches (λ b m j f. list_each b.pacts (subst (λ o. holds (λ b. list_all (λ p. is_value p.result) b.pacts) o ≡ true) f ok.1.0)) i _ _ g.rises
values_kept w (Settle k) s ok g n i = values_staged k Settled s.desk.batches (λ b m j f. (all_found IsValued (λ b. b.bid == k) s.desk.batches b i f).0 (commits b.stage (and_parts (is_committing b.stage) (not b.aborted) (subst (λ o. holds (λ b. is_committing b.stage && not b.aborted) o ≡ true) f ok.0)).0)) i _ _ g.rises
  where
    commits : (st : Stage) → is_committing st ≡ true → is_formed st ≡ false
    commits Formed e = absurd (true≢false (sym e))
    commits Committing e = refl
    commits Settled e = refl
values_kept w (Abort k) s ok g n i = all_map IsValued IsValued (desk.taken k) s.desk.batches (λ b j. j) i
values_kept w e s ok g n i = i

-- ---- what a batch says of a transaction

abbrev pub named : ℕ → List Pact → Option Pact
named n ps = find (λ p. p.tx == n) ps

abbrev pub tells : List Cascade → Batch → Option Pact → Option Verdict
tells cascades b None = None
tells cascades b (Some p) = pact_verdict (find (covers b.bid) cascades) b p

pub in_batch : (cascades : List Cascade) (n : ℕ) (b : Batch) (ps : List Pact) → verdict_in_batch cascades n b ps ≡ tells cascades b (named n ps)
in_batch cascades n b [] = refl
in_batch cascades n b (p ∷ ps) = by (p.tx == n) (in_batch cascades n b ps)
  where
    by : (q : Bool) → verdict_in_batch cascades n b ps ≡ tells cascades b (named n ps) → (if q then pact_verdict (find (covers b.bid) cascades) b p else verdict_in_batch cascades n b ps) ≡ tells cascades b (if q then Some p else named n ps)
    by true h = refl
    by false h = h

abbrev pub said : List Cascade → ℕ → Batch → Option Verdict
said cascades n b = tells cascades b (named n b.pacts)

-- b is the batch before the event
abbrev pub Cause : {C : Type 0} → ℕ → ℕ → Batch → Event → Machine C → Verdict → Type 0
Cause n k b e s (verdicts.Committed p v) = (q : Pact) × ((e ≡ Settle k) × ((named n b.pacts ≡ Some q) × ((q.result ≡ Some (Value v)) × (pact_place k q.tid ≡ p))))
Cause n k b e s (verdicts.Code p c) = ⊥
Cause n k b e s (verdicts.BatchCode j c code) = (e ≡ Abort j.0) × ((failed_tx (why j.0 s.desk) ≡ n) × ((s.book.next_c ≡ c) × (failed_code (why j.0 s.desk) ≡ code)))
Cause n k b e s (verdicts.Cascade j by) = (q : Pact) × ((e ≡ Abort j.0) × ((named n b.pacts ≡ Some q) × ((j.0 ≤ k) × ((failed_tx (why j.0 s.desk) ≡ by.0) × (by.0 ≢ n)))))
Cause n k b e s (verdicts.Died a older own) = ⊥
Cause n k b e s (verdicts.Order m j a) = ⊥
Cause n k b e s (verdicts.Unsure l) = ⊥

pub record Moves {C : Type 0} (e : Event) (s : Machine C) (cascades : List Cascade) (k : ℕ) (b c : Batch) : Type 0 where
  pub stays : (n : ℕ) (v : Verdict) → said s.book.cascades n b ≡ Some v → said cascades n c ≡ Some v
  pub cause : (n : ℕ) (v : Verdict) → said s.book.cascades n b ≡ None → said cascades n c ≡ Some v → Cause n k b e s v

pub record MovedFrom {C : Type 0} (e : Event) (s : Machine C) (cascades : List Cascade) (k : ℕ) (c : Batch) : Type 0 where
  pub from : Batch
  pub found : batch_of k s.desk.batches ≡ Some from
  pub moves : Moves e s cascades k from c

pub record IsNew {C : Type 0} (s : Machine C) (cascades : List Cascade) (k : ℕ) (c : Batch) : Type 0 where
  pub fresh : batch_of k s.desk.batches ≡ None
  pub silent : (n : ℕ) → said cascades n c ≡ None

abbrev pub EachBatch : (ℕ → Batch → Type 0) → List Batch → Type 0
EachBatch P bs = (k : ℕ) (b : Batch) → batch_of k bs ≡ Some b → P k b

pub none_some : {X : Type 0} (o : Option X) (x : X) → o ≡ None → o ≡ Some x → ⊥
none_some o x e f = cc (sym e ∙ f)

fixed : {C : Type 0} (e : Event) (s : Machine C) (cascades : List Cascade) (k : ℕ) (b c : Batch) → ((n : ℕ) → said cascades n c ≡ said s.book.cascades n b) → Moves e s cascades k b c
fixed e s cascades k b c j = record { stays = λ n v f. j n ∙ f; cause = λ n v f g. absurd (none_some (said cascades n c) v (j n ∙ f) g) }

from : {C : Type 0} (e : Event) (s : Machine C) (cascades : List Cascade) (k : ℕ) (b c : Batch) → batch_of k s.desk.batches ≡ Some b → Moves e s cascades k b c → MovedFrom e s cascades k c
from e s cascades k b c f m = record { from = b; found = f; moves = m }

mapped : {C : Type 0} (e : Event) (s : Machine C) (cascades : List Cascade) (f : Batch → Batch) → ((b : Batch) → (f b).bid ≡ b.bid) → ((k : ℕ) (b : Batch) → batch_of k (map f s.desk.batches) ≡ Some (f b) → batch_of k s.desk.batches ≡ Some b → Moves e s cascades k b (f b)) → EachBatch (MovedFrom e s cascades) (map f s.desk.batches)
mapped e s cascades f i m = λ k c q. let g = found_map f i k c s.desk.batches q in from e s cascades k g.from c g.found (subst (Moves e s cascades k g.from) g.is_it (m k g.from (q ∙ ap Some (sym g.is_it)) g.found))

changed : {C : Type 0} (e : Event) (s : Machine C) (j : ℕ) (f : Batch → Batch) → ((b : Batch) → (f b).bid ≡ b.bid) → ((b : Batch) → batch_of j s.desk.batches ≡ Some b → Moves e s s.book.cascades j b (f b)) → EachBatch (MovedFrom e s s.book.cascades) (desk.changed_batch j f s.desk.batches)
changed e s j f i m = mapped e s s.book.cascades (λ b. desk.change_if (b.bid == j) f b) (λ b. if_bid (b.bid == j) f b (i b)) (λ k b q g. by k b g (b.bid == j) refl)
  where
    by : (k : ℕ) (b : Batch) → batch_of k s.desk.batches ≡ Some b → (v : Bool) → (b.bid == j) ≡ v → Moves e s s.book.cascades k b (desk.change_if v f b)
    by k b g true u = let l : j ≡ k = sym (eqb-true b.bid j u) ∙ found_bid k b s.desk.batches g in subst (λ z. Moves e s s.book.cascades z b (f b)) l (m b (subst (λ z. batch_of z s.desk.batches ≡ Some b) (sym l) g))
    by k b g false u = fixed e s s.book.cascades k b b (λ n. refl)

-- ---- stages

-- where a cascade covers it the stage is not asked
staged : (o : Option Cascade) (b : Batch) (st : Stage) (p : Pact) → is_formed b.stage ≡ true → pact_verdict o (record b { stage = Committing }) p ≡ pact_verdict o b p
staged (Some c) b st p e = refl
staged None b st p e = by b.stage e
  where
    by : (x : Stage) → is_formed x ≡ true → settled_verdict Committing (pact_place b.bid p.tid) p.result ≡ settled_verdict x (pact_place b.bid p.tid) p.result
    by Formed e = refl
    by Committing e = refl
    by Settled e = absurd (true≢false (sym e))

commits : (cascades : List Cascade) (b : Batch) (o : Option Pact) → is_formed b.stage ≡ true → tells cascades (desk.with_stage Committing b) o ≡ tells cascades b o
commits cascades b None e = refl
commits cascades b (Some p) e = staged (find (covers b.bid) cascades) b Committing p e

settles : {C : Type 0} (s : Machine C) (k : ℕ) (b : Batch) → b.bid ≡ k → is_committing b.stage ≡ true → Values b.pacts → Moves (Settle k) s s.book.cascades k b (desk.with_stage Settled b)
settles s k b i e h = record {
  stays = λ n v f. keep (named n b.pacts) v f;
  cause = λ n v f g. give n (named n b.pacts) refl v f g;
}
  where
    quiet : (st : Stage) (p : Pact) → is_committing st ≡ true → settled_verdict st (pact_place b.bid p.tid) p.result ≡ None
    quiet Formed p e = refl
    quiet Committing p e = refl
    quiet Settled p e = absurd (true≢false (sym e))

    keep : (o : Option Pact) (v : Verdict) → tells s.book.cascades b o ≡ Some v → tells s.book.cascades (desk.with_stage Settled b) o ≡ Some v
    keep None v f = f
    keep (Some p) v f = at (find (covers b.bid) s.book.cascades) f
      where
        at : (o : Option Cascade) → pact_verdict o b p ≡ Some v → pact_verdict o (desk.with_stage Settled b) p ≡ Some v
        at (Some c) f = f
        at None f = absurd (none_some (settled_verdict b.stage (pact_place b.bid p.tid) p.result) v (quiet b.stage p e) f)

    valued : (n : ℕ) (q : Pact) → named n b.pacts ≡ Some q → is_value q.result ≡ true
    valued n q f = (all_found (λ p. is_value p.result ≡ true) (λ p. p.tx == n) b.pacts q h f).0

    give : (n : ℕ) (o : Option Pact) → named n b.pacts ≡ o → (v : Verdict) → tells s.book.cascades b o ≡ None → tells s.book.cascades (desk.with_stage Settled b) o ≡ Some v → Cause n k b (Settle k) s v
    give n None q v f g = absurd (cc g)
    give n (Some p) q v f g = at (find (covers b.bid) s.book.cascades) f g
      where
        ends : (r : Option TxResult) → p.result ≡ r → is_value r ≡ true → ended_at (pact_place b.bid p.tid) r ≡ Some v → Cause n k b (Settle k) s v
        ends None a z g = absurd (true≢false (sym z))
        ends (Some (Value x)) a z g = let l : verdicts.Committed (pact_place b.bid p.tid) x ≡ v = cc g in subst (Cause n k b (Settle k) s) l (p, (refl, (q, (a, ap (λ z. pact_place z p.tid) (sym i)))))
        ends (Some (Fail c)) a z g = absurd (true≢false (sym z))

        at : (o : Option Cascade) → pact_verdict o b p ≡ None → pact_verdict o (desk.with_stage Settled b) p ≡ Some v → Cause n k b (Settle k) s v
        at (Some c) f g = absurd (none_some (pact_verdict (Some c) b p) v f g)
        at None f g = ends p.result refl (valued n p q) g

-- ---- a result is noted

noted : (t : ℕ) (r : TxResult) (n : ℕ) (ps : List Pact) → named n (map (desk.with_result t r) ps) ≡ elim (named n ps) [ None ↦ None | Some p ↦ Some (desk.with_result t r p) ]
noted t r n [] = refl
noted t r n (p ∷ ps) = by (p.tx == n) (noted t r n ps)
  where
    by : (b : Bool) → named n (map (desk.with_result t r) ps) ≡ elim (named n ps) [ None ↦ None | Some p ↦ Some (desk.with_result t r p) ]
        → (if b then Some (desk.with_result t r p) else named n (map (desk.with_result t r) ps)) ≡ elim (if b then Some p else named n ps) [ None ↦ None | Some p ↦ Some (desk.with_result t r p) ]
    by true h = refl
    by false h = h

notes : (cascades : List Cascade) (n t : ℕ) (r : TxResult) (b : Batch) → AllByRecursion (λ p. p.tid ≡ t → p.result ≡ None) b.pacts → IsValued b → said cascades n (desk.with_results t r b) ≡ said cascades n b
notes cascades n t r b z h = by b.aborted
  where
    one : (o : Option Cascade) (p : Pact) → (p.tid ≡ t → p.result ≡ None) → (is_formed b.stage ≡ false → is_value p.result ≡ true) → (ps : List Pact) → pact_verdict o (record b { pacts = ps }) (desk.with_result t r p) ≡ pact_verdict o b p
    one (Some c) p f g ps = refl
    one None p f g ps = at b.stage g
      where
        at : (st : Stage) → (is_formed st ≡ false → is_value p.result ≡ true) → settled_verdict st (pact_place b.bid p.tid) (desk.with_result t r p).result ≡ settled_verdict st (pact_place b.bid p.tid) p.result
        at Formed g = refl
        at Committing g = refl
        at Settled g = ap (λ x. ended_at (pact_place b.bid p.tid) x.result) (noted_same t r p f (g refl))

    found : (o : Option Pact) → named n b.pacts ≡ o → (ps : List Pact) → tells cascades (record b { pacts = ps }) (elim o [ None ↦ None | Some p ↦ Some (desk.with_result t r p) ]) ≡ tells cascades b o
    found None e ps = refl
    found (Some p) e ps = one (find (covers b.bid) cascades) p (all_found (λ p. p.tid ≡ t → p.result ≡ None) (λ p. p.tx == n) b.pacts p z e).0 (λ f. (all_found (λ p. is_value p.result ≡ true) (λ p. p.tx == n) b.pacts p (h f) e).0) ps

    by : (v : Bool) → said cascades n (record b { pacts = if v then b.pacts else map (desk.with_result t r) b.pacts }) ≡ said cascades n b
    by true = refl
    by false = ap (tells cascades (record b { pacts = map (desk.with_result t r) b.pacts })) (noted t r n b.pacts) ∙ found (named n b.pacts) refl (map (desk.with_result t r) b.pacts)

-- ---- a cascade

pub find_more : {X : Type 0} (q : X → Bool) (x : X) (xs : List X) → find q (xs ++ x ∷ []) ≡ elim (find q xs) [ None ↦ if q x then Some x else None | Some y ↦ Some y ]
find_more q x [] = refl
find_more q x (y ∷ ys) = by (q y) (find_more q x ys)
  where
    by : (b : Bool) → find q (ys ++ x ∷ []) ≡ elim (find q ys) [ None ↦ if q x then Some x else None | Some y ↦ Some y ]
        → (if b then Some y else find q (ys ++ x ∷ [])) ≡ elim (if b then Some y else find q ys) [ None ↦ if q x then Some x else None | Some y ↦ Some y ]
    by true h = refl
    by false h = h

quiet_formed : (st : Stage) (b : Batch) (p : Pact) → is_formed st ≡ true → settled_verdict st (pact_place b.bid p.tid) p.result ≡ None
quiet_formed Formed b p e = refl
quiet_formed Committing b p e = refl
quiet_formed Settled b p e = absurd (true≢false (sym e))

takes : {C : Type 0} (s : Machine C) (j k : ℕ) (x : Cascade) (b : Batch) → b.bid ≡ k → x.first ≡ j → x.by ≡ failed_tx (why j s.desk) → x.at ≡ s.book.next_c → x.code ≡ failed_code (why j s.desk)
    → (nat_le j b.bid ≡ true → is_formed b.stage ≡ true) → Moves (Abort j) s (s.book.cascades ++ x ∷ []) k b (desk.taken j b)
takes s j k x b i xf xb xa xc h = record {
  stays = λ n v f. keep (named n b.pacts) v f;
  cause = λ n v f g. give n (named n b.pacts) refl v f g;
}
  where
    both : (b1 b2 : Bool) → (b1 && b2) ≡ true → b1 ≡ true
    both b1 b2 e = (and_parts b1 b2 e).0

    at_least : covers b.bid x ≡ true → nat_le j b.bid ≡ true
    at_least e = subst (λ z. nat_le z b.bid ≡ true) xf (and_parts (nat_le x.first b.bid) (nat_le b.bid x.upto) e).0

    keep_at : (o : Option Cascade) (q : Bool) → covers b.bid x ≡ q → (p : Pact) (v : Verdict) → pact_verdict o b p ≡ Some v → pact_verdict (elim o [ None ↦ if q then Some x else None | Some y ↦ Some y ]) (desk.taken j b) p ≡ Some v
    keep_at (Some c) q e p v f = f
    keep_at None true e p v f = absurd (none_some (settled_verdict b.stage (pact_place b.bid p.tid) p.result) v (quiet_formed b.stage b p (h (at_least e))) f)
    keep_at None false e p v f = f

    keep : (o : Option Pact) (v : Verdict) → tells s.book.cascades b o ≡ Some v → tells (s.book.cascades ++ x ∷ []) (desk.taken j b) o ≡ Some v
    keep None v f = f
    keep (Some p) v f = ap (λ o. pact_verdict o (desk.taken j b) p) (find_more (covers b.bid) x s.book.cascades) ∙ keep_at (find (covers b.bid) s.book.cascades) (covers b.bid x) refl p v f

    new : (n : ℕ) (p : Pact) (v : Verdict) → named n b.pacts ≡ Some p → p.tx ≡ n → covers b.bid x ≡ true → (q : Bool) → (x.by == p.tx) ≡ q → (if q then verdicts.BatchCode (record { 0 = x.first }) x.at x.code else taken_along x.first x.by) ≡ v → Cause n k b (Abort j) s v
    new n p v e t c true q g = subst (Cause n k b (Abort j) s) g (subst (λ z. Cause n k b (Abort j) s (verdicts.BatchCode (record { 0 = z }) x.at x.code)) (sym xf) (refl, (sym xb ∙ (eqb-true x.by p.tx q ∙ t), (sym xa, sym xc))))
    new n p v e t c false q g = subst (Cause n k b (Abort j) s) g (subst (λ z. Cause n k b (Abort j) s (taken_along z x.by)) (sym xf) (p, (refl, (e, (subst (λ z. j ≤ z) i (leb-true j b.bid (at_least c)), (sym xb, λ u. eqb-false x.by p.tx q (u ∙ sym t)))))))

    give_at : (n : ℕ) (o : Option Cascade) (q : Bool) → covers b.bid x ≡ q → (p : Pact) (v : Verdict) → named n b.pacts ≡ Some p → p.tx ≡ n → pact_verdict o b p ≡ None → pact_verdict (elim o [ None ↦ if q then Some x else None | Some y ↦ Some y ]) (desk.taken j b) p ≡ Some v → Cause n k b (Abort j) s v
    give_at n (Some c) q e p v m t f g = absurd (none_some (pact_verdict (Some c) b p) v f g)
    give_at n None true e p v m t f g = new n p v m t e (x.by == p.tx) refl (cc g)
    give_at n None false e p v m t f g = absurd (none_some (settled_verdict b.stage (pact_place b.bid p.tid) p.result) v f g)

    give : (n : ℕ) (o : Option Pact) → named n b.pacts ≡ o → (v : Verdict) → tells s.book.cascades b o ≡ None → tells (s.book.cascades ++ x ∷ []) (desk.taken j b) o ≡ Some v → Cause n k b (Abort j) s v
    give n None m v f g = absurd (cc g)
    give n (Some p) m v f g = give_at n (find (covers b.bid) s.book.cascades) (covers b.bid x) refl p v m (eqb-true p.tx n (all_found (λ p. Unit {0}) (λ p. p.tx == n) b.pacts p (every b.pacts) m).1) f (sym (ap (λ o. pact_verdict o (desk.taken j b) p) (find_more (covers b.bid) x s.book.cascades)) ∙ g)
      where
        every : (ps : List Pact) → AllByRecursion (λ p. Unit {0}) ps
        every [] = tt
        every (p ∷ ps) = (tt, every ps)

-- ---- all events

abbrev pub Became : {C : Type 0} → Event → Machine C → List Cascade → ℕ → Batch → Type 0
Became e s cascades k c = MovedFrom e s cascades k c ⊎ IsNew s cascades k c

old : {C : Type 0} (e : Event) (s : Machine C) (cascades : List Cascade) (bs : List Batch) → EachBatch (MovedFrom e s cascades) bs → EachBatch (Became e s cascades) bs
old e s cascades bs h = λ t y q. inl (h t y q)

same : {C : Type 0} (e : Event) (s : Machine C) → EachBatch (MovedFrom e s s.book.cascades) s.desk.batches
same e s = λ k b q. from e s s.book.cascades k b b q (fixed e s s.book.cascades k b b (λ n. refl))

silent_new : (cascades : List Cascade) (n : ℕ) (b : Batch) (o : Option Pact) → b.stage ≡ Formed → find (covers b.bid) cascades ≡ None → tells cascades b o ≡ None
silent_new cascades n b None e f = refl
silent_new cascades n b (Some p) e f = ap (λ z. pact_verdict z b p) f ∙ ap (λ z. settled_verdict z (pact_place b.bid p.tid) p.result) e

pub became : {C : Type 0} (w : Fixed C) (e : Event) (s : Machine C) → IsAllowed w e s → settling.Settling w s → settling.Settling w (after w e s) → AllControls (NoneNoted s) s → BatchesHaveValues s
    → EachBatch (Became e s (after w e s).book.cascades) (after w e s).desk.batches
unfolding after conditions settling.Settling BatchesHaveValues
became w (Form j) s ok g a n i = λ k c f. by k c s.desk.batches (λ q. inl (same (Form j) s k c q)) (λ u q. inr (record { fresh = q; silent = λ n. subst (λ z. said s.book.cascades n z ≡ None) u (silent_new s.book.cascades n (new) (named n new.pacts) refl (no_cascade new.bid s.book.cascades (sym (a.marked (settling.key_of new) (last s.desk.batches))))) })) f
  where
    new : Batch
    new = desk.new_batch j (Rattle.protocol.specs.OnRing.next_actors w.text s.ring) (Rattle.protocol.specs.OnRing.next_pacts w.text s.ring)

    last : (bs : List Batch) → keys.IsIn (settling.key_of new) (map settling.key_of (bs ++ new ∷ []))
    last [] = keys.here (settling.key_of new) (settling.key_of new) [] refl
    last (b ∷ bs) = keys.there (settling.key_of b) (settling.key_of new) (map settling.key_of (bs ++ new ∷ [])) (last bs)

    by : (k : ℕ) (c : Batch) (zs : List Batch) → (batch_of k zs ≡ Some c → Became (Form j) s s.book.cascades k c) → (new ≡ c → batch_of k zs ≡ None → Became (Form j) s s.book.cascades k c) → batch_of k (zs ++ new ∷ []) ≡ Some c → Became (Form j) s s.book.cascades k c
    by k c [] m g f = at (j == k) f
      where
        at : (b : Bool) → (if b then Some new else None) ≡ Some c → Became (Form j) s s.book.cascades k c
        at true f = g (cc f) refl
        at false f = absurd (cc f)
    by k c (z ∷ zs) m g f = at (z.bid == k) m g f (by k c zs)
      where
        at : (b : Bool) → ((if b then Some z else batch_of k zs) ≡ Some c → Became (Form j) s s.book.cascades k c) → (new ≡ c → (if b then Some z else batch_of k zs) ≡ None → Became (Form j) s s.book.cascades k c)
            → (if b then Some z else batch_of k (zs ++ new ∷ [])) ≡ Some c
            → ((batch_of k zs ≡ Some c → Became (Form j) s s.book.cascades k c) → (new ≡ c → batch_of k zs ≡ None → Became (Form j) s s.book.cascades k c) → batch_of k (zs ++ new ∷ []) ≡ Some c → Became (Form j) s s.book.cascades k c) → Became (Form j) s s.book.cascades k c
        at true m g f r = m f
        at false m g f r = r m g f
became {C} w (End t a) s ok g z n i = old (End t a) s s.book.cascades _ (by (has_act t (cell_at s a).entries) (outcome_of t (cell_at s a).outbox) refl)
  where
    next : (x : Outcome C) → outcome_of t (cell_at s a).outbox ≡ Some x → (y : Next C) → EachBatch (MovedFrom (End t a) s s.book.cascades) (desk.noted_for t y s.desk.batches)
    next x e (Go b c) = same (End t a) s
    next x e (Ended r) =
        let f = all_found (λ x. NoneNoted s x.tid x.next) (λ x. x.tid == t) (cell_at s a).outbox x (n.outboxes a) e in
        let none = subst (λ v. NoResult v s.desk.batches) (eqb-true x.tid t f.1) f.0 in
        mapped (End t a) s s.book.cascades (desk.with_results t r) (λ b. refl) (λ k b q m. fixed (End t a) s s.book.cascades k b (desk.with_results t r b) (λ n. notes s.book.cascades n t r b (all_found (λ b. AllByRecursion (λ p. p.tid ≡ t → p.result ≡ None) b.pacts) (λ b. b.bid == k) s.desk.batches b none m).0 (all_found IsValued (λ b. b.bid == k) s.desk.batches b i m).0))

    by : (q : Bool) (o : Option (Outcome C)) → outcome_of t (cell_at s a).outbox ≡ o → EachBatch (MovedFrom (End t a) s s.book.cascades) (if q then s.desk.batches else desk.noted_from t o s.desk.batches)
    by true o e = same (End t a) s
    by false None e = same (End t a) s
    by false (Some x) e = next x e x.next
became w (Note j a) s ok g z n i = old (Note j a) s s.book.cascades _ (changed (Note j a) s j (desk.marked a desk.is_noted) (λ b. refl) (λ b f. fixed (Note j a) s s.book.cascades j b (desk.marked a desk.is_noted b) (λ n. tells_same s.book.cascades b (named n b.pacts))))
  where
    tells_same : (cs : List Cascade) (b : Batch) (o : Option Pact) → tells cs (desk.marked a desk.is_noted b) o ≡ tells cs b o
    tells_same cs b None = refl
    tells_same cs b (Some p) = at (find (covers b.bid) cs)
      where
        at : (o : Option Cascade) → pact_verdict o (desk.marked a desk.is_noted b) p ≡ pact_verdict o b p
        at (Some c) = refl
        at None = refl
became w (Trim j a) s ok g z n i = old (Trim j a) s s.book.cascades _ (changed (Trim j a) s j (desk.marked a desk.is_trimmed) (λ b. refl) (λ b f. fixed (Trim j a) s s.book.cascades j b (desk.marked a desk.is_trimmed b) (λ n. tells_same s.book.cascades b (named n b.pacts))))
  where
    tells_same : (cs : List Cascade) (b : Batch) (o : Option Pact) → tells cs (desk.marked a desk.is_trimmed b) o ≡ tells cs b o
    tells_same cs b None = refl
    tells_same cs b (Some p) = at (find (covers b.bid) cs)
      where
        at : (o : Option Cascade) → pact_verdict o (desk.marked a desk.is_trimmed b) p ≡ pact_verdict o b p
        at (Some c) = refl
        at None = refl
became w (Commit j) s ok g z n i = old (Commit j) s s.book.cascades _ (changed (Commit j) s j (desk.with_stage Committing) (λ b. refl) (λ b f.
    let c = some_of (λ b. is_open b && is_next_to_commit j s.desk.batches) (batch_of j s.desk.batches) b f ok.0 in
    fixed (Commit j) s s.book.cascades j b (desk.with_stage Committing b) (λ n. commits s.book.cascades b (named n b.pacts) (and_parts (is_formed b.stage) (not b.aborted) (and_parts (is_open b) (is_next_to_commit j s.desk.batches) c).0).0)))
became w (Settle j) s ok g z n i = old (Settle j) s s.book.cascades _ (changed (Settle j) s j (desk.with_stage Settled) (λ b. refl) (λ b f.
    let c = (and_parts (is_committing b.stage) (not b.aborted) (some_of (λ b. is_committing b.stage && not b.aborted) (batch_of j s.desk.batches) b f ok.0)).0 in
    settles s j b (found_bid j b s.desk.batches f) c ((all_found IsValued (λ b. b.bid == j) s.desk.batches b i f).0 (committing b.stage c))))
  where
    committing : (st : Stage) → is_committing st ≡ true → is_formed st ≡ false
    committing Formed e = absurd (true≢false (sym e))
    committing Committing e = refl
    committing Settled e = refl
became w (Abort j) s ok g z n i = old (Abort j) s _ _ (mapped (Abort j) s _ (desk.taken j) (λ b. refl) (λ k b q m. takes s j k _ b (found_bid k b s.desk.batches m) refl refl refl refl (λ l. z.formed (settling.key_of (desk.taken j b)) (settling.in_keys (desk.taken j b) (λ x. x.bid == k) (map (desk.taken j) s.desk.batches) q).0 (or_right b.aborted (nat_le j b.bid) l))))
became w e s ok g z n i = old e s s.book.cascades _ (same e s)
