-- What is allowed is told by a part.
use Rattle.std.specs.Prelude.{◌≡◌, Bool, ◌==◌, nat_lt, true, not, is_some, List, find, length, slice_get, Contains}
use Rattle.std.proofs.Common.{sym, subst}
use Rattle.std.proofs.lemmas.Bool.{eqb-true, and_parts, not-true}
use Rattle.protocol.specs.Fixed.{Fixed}
use Rattle.protocol.specs.Parts.{Machine}
use Rattle.protocol.specs.Events.{Event, Submit, Pass, Form, Admit, Arrive, Ask, Take, Run, Send, End, Close, Complete, Sync, Note, Commit, Settle, Abort, Rollback, DropSub, DropControl, Prepare, Vouch, Decide, Seal, Finish, Reply, Trim}
use Rattle.protocol.specs.Words.{is_empty, holds, has_undone, is_batch_entry, is_complete_batch, waiting_of, outcome_of, is_going, is_ended}
use Rattle.protocol.specs.Conditions.{IsAllowed, conditions, queue, is_idle, epoch}
use Rattle.protocol_ready.specs.Telling.{PartsTell}
use Rattle.protocol_ready.proofs.Listing.{held}

pub told : {C : Type 0} (asked : Event → Bool) (w : Fixed C) (s : Machine C) (es : List Event) → PartsTell asked w s es → (f : Event) → asked f ≡ true → IsAllowed w f s → Contains es f
unfolding conditions
told asked w s es p (Submit n) meant ok =
    let q = and_parts (n == s.ring.next_tx) _ ok.0 in
    let e : n ≡ s.ring.next_tx = eqb-true n s.ring.next_tx q.0 in
    subst (λ m. Contains es (Submit m)) (sym e) (p.ring.submit (subst (λ m. asked (Submit m) ≡ true) e meant) (subst (λ m. nat_lt m (length w.text.txs) ≡ true) e q.1))
told asked w s es p (Pass c) meant ok = subst (λ m. Contains es (Pass m)) (sym (eqb-true c _ ok.0)) (p.ring.pass (subst (λ m. asked (Pass m) ≡ true) (eqb-true c _ ok.0) meant) ok.1.0 (not-true (is_idle s.ring) ok.1.1.0))
told asked w s es p (Form k) meant ok = subst (λ m. Contains es (Form m)) (sym (eqb-true k _ ok.0)) (p.ring.form (subst (λ m. asked (Form m) ≡ true) (eqb-true k _ ok.0) meant) (not-true (is_empty (queue s.ring.pacts s.ring.holder)) ok.1.0))
told asked w s es p (Admit t) meant ok = subst (λ m. Contains es (Admit m)) (sym (eqb-true t _ ok.0)) (p.ring.admit (subst (λ m. asked (Admit m) ≡ true) (eqb-true t _ ok.0) meant) (not-true (is_empty (queue s.ring.acts s.ring.holder)) ok.1.0))
told asked w s es p (Arrive k a) meant ok = p.post.arrive k a meant ok.0
told asked w s es p (Ask t a) meant ok = p.post.ask t a meant ok.0
told asked w s es p (Take t a) meant ok = p.post.take t a meant ok.0
told asked w s es p (Run t a) meant ok = let c = held (λ c. is_some (waiting_of t c.inbox)) (slice_get s.cells a) ok.0 in (p.cells a c.it c.is).run t meant c.does
told asked w s es p (Send t a) meant ok = let c = held (λ c. holds (λ x. is_going x.next) (outcome_of t c.outbox)) (slice_get s.cells a) ok.0 in (p.cells a c.it c.is).send t meant c.does
told asked w s es p (End t a) meant ok = let c = held (λ c. holds (λ x. is_ended x.next) (outcome_of t c.outbox)) (slice_get s.cells a) ok.0 in (p.cells a c.it c.is).end t meant c.does
told asked w s es p (Close t a) meant ok = let c = held (λ c. has_undone t c.entries) (slice_get s.cells a) ok.1.0 in (p.cells a c.it c.is).close t meant c.does
told asked w s es p (Complete k a) meant ok = let c = held (λ c. holds (λ e. not (is_complete_batch e)) (find (is_batch_entry k) c.entries)) (slice_get s.cells a) ok.0 in (p.cells a c.it c.is).complete k meant c.does
told asked w s es p (Sync l) meant ok = let g = held (λ g. nat_lt g.synced (length g.records)) (slice_get s.logs l) ok.0 in p.logs l g.it g.is meant g.does
told asked w s es p (Note k a) meant ok = p.desk.note k a meant ok.0
told asked w s es p (Commit k) meant ok = p.desk.commit k meant ok.0
told asked w s es p (Settle k) meant ok = p.desk.settle k meant ok.0
told asked w s es p (Abort k) meant ok = p.desk.abort k meant ok.0
told asked w s es p (Rollback a) meant ok = let c = held (λ c. nat_lt c.epoch (epoch s.book)) (slice_get s.cells a) ok.0 in (p.cells a c.it c.is).rollback meant c.does
told asked w s es p (DropSub k a) meant ok = p.post.drop_sub k a meant ok.0
told asked w s es p (DropControl t) meant ok = p.post.drop_control t meant ok.0
told asked w s es p (Prepare t a) meant ok = p.book.prepare t a meant ok.0 ok.1.0
told asked w s es p (Vouch t a) meant ok = p.book.vouch t a meant ok.0
told asked w s es p (Decide t) meant ok = p.book.decide t meant ok.0
told asked w s es p (Seal t) meant ok = p.book.seal t meant ok.0
told asked w s es p (Finish t a) meant ok = p.book.finish t a meant ok.0 ok.1.0
told asked w s es p (Reply n) meant ok = p.answers n meant ok.0 ok.1.0
told asked w s es p (Trim k a) meant ok = p.desk.trim k a meant ok.0
