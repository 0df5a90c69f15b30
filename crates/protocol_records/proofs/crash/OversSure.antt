-- On each actor all that committed with a value, and has a rival behind it, is over: settled or sealed.
use Rattle.std.specs.Prelude.{◌≡◌, refl, ℕ, ◌==◌, Bool, true, false, not, ◌&&◌, if◌then◌else◌, Option, Some, None, List, [], ◌∷◌, ◌++◌, map}
use Rattle.std.proofs.Common.{sym, ap, subst, ◌∙◌}
use Rattle.std.proofs.lemmas.Bool.{eqb-true, and_parts, true≢false, false_from_ne_true}
use Rattle.snap_base.specs.declared.transactions.State.{State}
use Rattle.snap_base.specs.declared.transactions.Tx.{Tx}
use Rattle.protocol.specs.Fixed.{Fixed, Next, Go, Ended}
use Rattle.protocol.specs.Facts.{Alone}
use Rattle.protocol.specs.Parts.{Act, Batch, Who, OfBatch, OfAct, Status, Live, Doomed, Decided, Sealed, Stage, Formed, Committing, Settled, Outcome, Machine}
use Rattle.protocol.specs.Events.{Event, Form, End, Note, Commit, Settle, Abort, Trim}
use Rattle.protocol.specs.Words.{holds, is_open, is_next_to_commit, is_formed, is_settled, is_sealed, is_value, batch_of, act_of, has_act, outcome_of}
use Rattle.protocol.specs.Conditions.{IsAllowed, conditions}
use Rattle.protocol.specs.Effects.{after, cell_at}
use Rattle.protocol.specs.OnRing as ring
use Rattle.protocol.specs.OnDesk as desk
use Rattle.protocol.specs.Runs.{IsRun, reached}
use Rattle.protocol.specs.History.{History, Ran, Stands, Gone, history, grown}
use Rattle.protocol_laws.specs.OneWay.{EachBecame, StatusWent, ActWent}
use Rattle.protocol_records.specs.Logged.{GoneSure, AllThere, AllHaveRead, DoneSure}
use Rattle.protocol_records.specs.AsTold.{is_over}
use Rattle.protocol_laws.proofs.first.OneWay.{went_on}
use Rattle.protocol_laws.proofs.first.Statuses.{if_bid}
use Rattle.protocol_laws.proofs.machine.Good.{Given}
use Rattle.protocol_laws.proofs.machine.AllGood.{AllGood, along_good}
use Rattle.protocol_records.proofs.crash.DurableKept.{AllGone, gone_before, gone_weaker, is_settled_batch, is_sealed_act}
use Rattle.protocol_records.proofs.crash.KeptSure.{SureOf}
use Rattle.protocol_records.proofs.crash.DonesSure.{there_kept, have_read_kept, done_grows}
use Rattle.protocol_records.proofs.crash.CrashParts.{read_opened}
use Rattle.protocol_theorems.proofs.order.LastLaw.{Whole}
use Rattle.protocol_theorems.proofs.order.LastLaw as last

-- ---- who is settled stays so

settled_forth : (f : Batch → Batch) (k : ℕ) (bs : List Batch) → ((b : Batch) → (f b).bid ≡ b.bid) → ((b : Batch) → b.bid ≡ k → is_settled b.stage ≡ true → is_settled (f b).stage ≡ true) → holds is_settled_batch (batch_of k bs) ≡ true → holds is_settled_batch (batch_of k (map f bs)) ≡ true
settled_forth f k [] i g h = h
settled_forth f k (b ∷ bs) i g h = subst (λ z. holds is_settled_batch (if z == k then Some (f b) else batch_of k (map f bs)) ≡ true) (sym (i b)) (by (b.bid == k) refl h (settled_forth f k bs i g))
  where
    by : (v : Bool) → (b.bid == k) ≡ v → holds is_settled_batch (if v then Some b else batch_of k bs) ≡ true → (holds is_settled_batch (batch_of k bs) ≡ true → holds is_settled_batch (batch_of k (map f bs)) ≡ true) → holds is_settled_batch (if v then Some (f b) else batch_of k (map f bs)) ≡ true
    by true e h r = g b (eqb-true b.bid k e) h
    by false e h r = r h

more_settled : (k : ℕ) (n : Batch) (bs : List Batch) → holds is_settled_batch (batch_of k bs) ≡ true → holds is_settled_batch (batch_of k (bs ++ n ∷ [])) ≡ true
more_settled k n [] h = absurd (true≢false (sym h))
more_settled k n (b ∷ bs) h = by (b.bid == k) h (more_settled k n bs)
  where
    by : (v : Bool) → holds is_settled_batch (if v then Some b else batch_of k bs) ≡ true → (holds is_settled_batch (batch_of k bs) ≡ true → holds is_settled_batch (batch_of k (bs ++ n ∷ [])) ≡ true) → holds is_settled_batch (if v then Some b else batch_of k (bs ++ n ∷ [])) ≡ true
    by true h r = h
    by false h r = r h

if_settled : (v : Bool) (f : Batch → Batch) (b : Batch) → (is_settled b.stage ≡ true → is_settled (f b).stage ≡ true) → is_settled b.stage ≡ true → is_settled (desk.change_if v f b).stage ≡ true
if_settled true f b g h = g h
if_settled false f b g h = h

-- one that may still commit is not settled
open_unsettled : (j : ℕ) (o : Option Batch) (q : Batch → Bool) → holds (λ b. is_open b && q b) o ≡ true → holds is_settled_batch o ≡ true → ⊥
open_unsettled j None q h k = true≢false (sym h)
open_unsettled j (Some b) q h k = by b.stage (and_parts (is_formed b.stage) (not b.aborted) (and_parts (is_open b) (q b) h).0).0 k
  where
    by : (st : Stage) → is_formed st ≡ true → is_settled st ≡ true → ⊥
    by Formed f k = true≢false (sym k)
    by Committing f k = true≢false (sym k)
    by Settled f k = true≢false (sym f)

settled_stays : {C : Type 0} (w : Fixed C) (e : Event) (s : Machine C) (k : ℕ) → IsAllowed w e s → holds is_settled_batch (batch_of k s.desk.batches) ≡ true → holds is_settled_batch (batch_of k (after w e s).desk.batches) ≡ true
unfolding after conditions
settled_stays w (Form j) s k ok h = more_settled k (desk.new_batch j (ring.next_actors w.text s.ring) (ring.next_pacts w.text s.ring)) s.desk.batches h
settled_stays {C} w (End u a) s k ok h = by (has_act u (cell_at s a).entries) (outcome_of u (cell_at s a).outbox)
  where
    next : (x : Next C) → holds is_settled_batch (batch_of k (desk.noted_for u x s.desk.batches)) ≡ true
    next (Go b y) = h
    next (Ended r) = settled_forth (desk.with_results u r) k s.desk.batches (λ b. refl) (λ b i q. q) h

    by : (v : Bool) (o : Option (Outcome C)) → holds is_settled_batch (batch_of k (if v then s.desk.batches else desk.noted_from u o s.desk.batches)) ≡ true
    by true o = h
    by false None = h
    by false (Some x) = next x.next
settled_stays w (Note j a) s k ok h = settled_forth _ k s.desk.batches (λ b. if_bid (b.bid == j) (desk.marked a desk.is_noted) b refl) (λ b i q. if_settled (b.bid == j) (desk.marked a desk.is_noted) b (λ x. x) q) h
settled_stays w (Trim j a) s k ok h = settled_forth _ k s.desk.batches (λ b. if_bid (b.bid == j) (desk.marked a desk.is_trimmed) b refl) (λ b i q. if_settled (b.bid == j) (desk.marked a desk.is_trimmed) b (λ x. x) q) h
settled_stays w (Commit j) s k ok h = settled_forth _ k s.desk.batches (λ b. if_bid (b.bid == j) (desk.with_stage Committing) b refl)
    (λ b i q. subst (λ v. is_settled (desk.change_if v (desk.with_stage Committing) b).stage ≡ true) (sym (false_from_ne_true (b.bid == j) (λ e. open_unsettled j (batch_of j s.desk.batches) (λ b. is_next_to_commit j s.desk.batches) ok.0 (subst (λ z. holds is_settled_batch (batch_of z s.desk.batches) ≡ true) (sym i ∙ eqb-true b.bid j e) h)))) q) h
settled_stays w (Settle j) s k ok h = settled_forth _ k s.desk.batches (λ b. if_bid (b.bid == j) (desk.with_stage Settled) b refl) (λ b i q. if_settled (b.bid == j) (desk.with_stage Settled) b (λ x. refl) q) h
settled_stays w (Abort j) s k ok h = settled_forth (desk.taken j) k s.desk.batches (λ b. refl) (λ b i q. q) h
settled_stays w e s k ok h = h

-- ---- who is sealed stays so

sealed_went : (t : ℕ) (xs ys : List Act) → EachBecame ActWent xs ys → holds (λ x. is_sealed x.status) (act_of t xs) ≡ true → holds (λ x. is_sealed x.status) (act_of t ys) ≡ true
sealed_went t [] ys r h = absurd (true≢false (sym h))
sealed_went t (x ∷ xs) [] r h = absurd r
sealed_went t (x ∷ xs) (y ∷ ys) r h = subst (λ z. holds (λ x. is_sealed x.status) (if z == t then Some y else act_of t ys) ≡ true) (sym r.0.tid) (by (x.tid == t) h (sealed_went t xs ys r.1))
  where
    stays : (a b : Status) → StatusWent a b → is_sealed a ≡ true → is_sealed b ≡ true
    stays Live b g q = absurd (true≢false (sym q))
    stays (Doomed v) b g q = absurd (true≢false (sym q))
    stays (Decided c) b g q = absurd (true≢false (sym q))
    stays (Sealed c) b g q = ap is_sealed g

    by : (v : Bool) → holds (λ x. is_sealed x.status) (if v then Some x else act_of t xs) ≡ true → (holds (λ x. is_sealed x.status) (act_of t xs) ≡ true → holds (λ x. is_sealed x.status) (act_of t ys) ≡ true) → holds (λ x. is_sealed x.status) (if v then Some y else act_of t ys) ≡ true
    by true h k = stays x.status y.status r.0.status h
    by false h k = k h

over_stays : {C : Type 0} (w : Fixed C) (e : Event) (s : Machine C) (y : Who) → IsAllowed w e s → is_over s y ≡ true → is_over (after w e s) y ≡ true
over_stays w e s (OfBatch k) ok h = settled_stays w e s k ok h
over_stays w e s (OfAct t) ok h = sealed_went t s.book.acts (after w e s).book.acts (went_on w e s ok).acts h

with_value : (o : Option Act) → holds is_sealed_act o ≡ true → holds (λ x. is_sealed x.status) o ≡ true
with_value None h = h
with_value (Some x) h = (and_parts (is_sealed x.status) (is_value x.result) h).0

-- ---- along a run

over_gone : (test : Who → Bool) (rs : List Ran) → AllGone (λ y. test y ≡ true) rs → GoneSure test rs
over_gone test [] h = tt
over_gone test (Stands y c ss ∷ rs) h = over_gone test rs h
over_gone test (Gone y ss ∷ rs) h = (h.0, over_gone test rs h.1)

pub record OversSure {C : Type 0} (w : Fixed C) (Of : Tx → C → Type 0) (finish : C → List State → Alone) (s : Machine C) (h : History) : Type 0 where
  pub whole : Whole w Of finish s h
  pub there : AllThere h
  pub read : AllHaveRead h
  pub gone : (a : ℕ) → AllGone (λ y. is_over s y ≡ true) (h.long a)
  pub done : (a : ℕ) → DoneSure (is_over s) a h.committed

kept : {C : Type 0} (w : Fixed C) (Of : Tx → C → Type 0) (finish : C → List State → Alone) (e : Event) (s : Machine C) (h : History) → Given w Of finish → IsAllowed w e s → AllGood w Of finish s h → OversSure w Of finish s h → OversSure w Of finish (after w e s) (grown w e s h)
kept w Of finish e s h v ok g i =
    let su : SureOf (is_over s) s h = record { settled = λ k q. q; sealed = λ t q. with_value (act_of t s.book.acts) q; gone = λ a. over_gone (is_over s) (h.long a) (i.gone a) } in
    record {
      whole = last.kept w Of finish e s h v ok g i.whole;
      there = there_kept w Of finish e s h v ok g i.there;
      read = have_read_kept w e s h i.read;
      gone = λ a. gone_weaker (λ y. is_over s y ≡ true) (λ y. is_over (after w e s) y ≡ true) ((grown w e s h).long a) (λ y q. over_stays w e s y ok q)
          (gone_before w (λ y. is_over s y ≡ true) e s h ok g.acts (λ k q. q) (λ t q. with_value (act_of t s.book.acts) q) i.gone a);
      done = done_grows w Of finish e s h (is_over s) (is_over (after w e s)) v ok g i.whole.ordered.chained su i.there i.read (λ y q. over_stays w e s y ok q) i.done;
    }

pub overs_sure : {C : Type 0} (w : Fixed C) (Of : Tx → C → Type 0) (finish : C → List State → Alone) (es : List Event) → Given w Of finish → IsRun w es → OversSure w Of finish (reached w es) (history w es)
unfolding AllThere
overs_sure w Of finish es v run = along_good w Of finish (OversSure w Of finish) v (λ e s h ok g i. kept w Of finish e s h v ok g i) (record { whole = last.opened w Of finish v; there = tt; read = read_opened; gone = λ a. tt; done = λ a. tt }) es run
