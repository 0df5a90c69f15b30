-- A commit record that is in a cut rests on records that are in it.
use Rattle.std.specs.Prelude.{◌≡◌, refl, ℕ, ℤ, ◌%◌, ◌==◌, nat_le, Bool, true, false, ◌||◌, if◌then◌else◌, List, [], ◌∷◌, ◌++◌, map}
use Rattle.std.specs.List.{AllByRecursion, list_any, list_all}
use Rattle.std.proofs.Common.{sym, ap, subst, ◌∙◌}
use Rattle.std.proofs.lemmas.Bool.{true≢false, and_parts, eqb-true, not-true}
use Rattle.snap_base.specs.declared.transactions.Tx.{Tx}
use Rattle.snap_base.specs.declared.transactions.State.{State}
use Rattle.snap_base.proofs.Options.{same_some}
use Rattle.protocol.specs.Facts.{Alone}
use Rattle.protocol.specs.Fixed.{Fixed}
use Rattle.protocol.specs.Records.{LogRecord, BatchInfo, BatchComplete, BatchDone, ActPrepare, ActDone, is_info, is_complete, is_prepare, is_act_commit}
use Rattle.protocol.specs.Parts.{Joined, Declared, OfBatch, OfAct, Machine}
use Rattle.protocol.specs.Words.{is_formed, batch_of}
use Rattle.protocol.specs.Effects.{log_at, put_in, ascending}
use Rattle.protocol.specs.History.{History}
use Rattle.protocol_laws.specs.Marks.{Known, Marked}
use Rattle.protocol.specs.Moments.{IsCut, left_in}
use Rattle.protocol_records.proofs.crash.KeptAll.{batch_kept, act_kept}
use Rattle.protocol_records.specs.Logged.{durable_at, BatchesSure, Infos, InfoIs, actors_of_batch, ActsSure, ActCommits, CommitIs}
use Rattle.protocol_records.specs.Crash.{is_in, BatchIsWhole, ActIsWhole}
use Rattle.protocol_laws.proofs.machine.TurnsKept.{one_is}
use Rattle.protocol_laws.proofs.machine.AllGood.{AllGood}
use Rattle.protocol_laws.proofs.machine.ActsKept.{Acts}
use Rattle.protocol_records.proofs.crash.KeptSure.{there_is}
use Rattle.protocol_records.proofs.crash.CrashParts.{Logs, durable_in, in_kept}
use Rattle.protocol_laws.proofs.first.Lists.{all_mid, all_take}

-- where a record stands
record InfoAt (k : ℕ) (rs : List LogRecord) : Type 0 where
  actors : List ℕ
  tids : List ℕ
  front : List LogRecord
  rest : List LogRecord
  splits : rs ≡ front ++ BatchInfo k actors tids ∷ rest

info_at : (k : ℕ) (rs : List LogRecord) → list_any (is_info k) rs ≡ true → InfoAt k rs
info_at k [] h = absurd (true≢false (sym h))
info_at k (BatchInfo j actors tids ∷ rs) h = by (j == k) refl h (info_at k rs)
  where
    by : (v : Bool) → (j == k) ≡ v → (v || list_any (is_info k) rs) ≡ true → (list_any (is_info k) rs ≡ true → InfoAt k rs) → InfoAt k (BatchInfo j actors tids ∷ rs)
    by true e h r = record { actors = actors; tids = tids; front = []; rest = rs; splits = ap (λ z. BatchInfo z actors tids ∷ rs) (eqb-true j k e) }
    by false e h r = let g = r h in record { actors = g.actors; tids = g.tids; front = BatchInfo j actors tids ∷ g.front; rest = g.rest; splits = ap (λ l. BatchInfo j actors tids ∷ l) g.splits }
info_at k (BatchComplete j a st ∷ rs) h = let g = info_at k rs h in record { actors = g.actors; tids = g.tids; front = BatchComplete j a st ∷ g.front; rest = g.rest; splits = ap (λ l. BatchComplete j a st ∷ l) g.splits }
info_at k (BatchDone j vs ∷ rs) h = let g = info_at k rs h in record { actors = g.actors; tids = g.tids; front = BatchDone j vs ∷ g.front; rest = g.rest; splits = ap (λ l. BatchDone j vs ∷ l) g.splits }
info_at k (ActPrepare t a st ∷ rs) h = let g = info_at k rs h in record { actors = g.actors; tids = g.tids; front = ActPrepare t a st ∷ g.front; rest = g.rest; splits = ap (λ l. ActPrepare t a st ∷ l) g.splits }
info_at k (ActDone t m c v as' ∷ rs) h = let g = info_at k rs h in record { actors = g.actors; tids = g.tids; front = ActDone t m c v as' ∷ g.front; rest = g.rest; splits = ap (λ l. ActDone t m c v as' ∷ l) g.splits }

record CommitAt (t : ℕ) (rs : List LogRecord) : Type 0 where
  m : ℕ
  c : ℕ
  v : ℤ
  actors : List ℕ
  front : List LogRecord
  rest : List LogRecord
  splits : rs ≡ front ++ ActDone t m c v actors ∷ rest

commit_at : (t : ℕ) (rs : List LogRecord) → list_any (is_act_commit t) rs ≡ true → CommitAt t rs
commit_at t [] h = absurd (true≢false (sym h))
commit_at t (ActDone u m c v actors ∷ rs) h = by (u == t) refl h (commit_at t rs)
  where
    by : (q : Bool) → (u == t) ≡ q → (q || list_any (is_act_commit t) rs) ≡ true → (list_any (is_act_commit t) rs ≡ true → CommitAt t rs) → CommitAt t (ActDone u m c v actors ∷ rs)
    by true e h r = record { m = m; c = c; v = v; actors = actors; front = []; rest = rs; splits = ap (λ z. ActDone z m c v actors ∷ rs) (eqb-true u t e) }
    by false e h r = let g = r h in record { m = g.m; c = g.c; v = g.v; actors = g.actors; front = ActDone u m c v actors ∷ g.front; rest = g.rest; splits = ap (λ l. ActDone u m c v actors ∷ l) g.splits }
commit_at t (BatchInfo j actors tids ∷ rs) h = let g = commit_at t rs h in record { m = g.m; c = g.c; v = g.v; actors = g.actors; front = BatchInfo j actors tids ∷ g.front; rest = g.rest; splits = ap (λ l. BatchInfo j actors tids ∷ l) g.splits }
commit_at t (BatchComplete j a st ∷ rs) h = let g = commit_at t rs h in record { m = g.m; c = g.c; v = g.v; actors = g.actors; front = BatchComplete j a st ∷ g.front; rest = g.rest; splits = ap (λ l. BatchComplete j a st ∷ l) g.splits }
commit_at t (BatchDone j vs ∷ rs) h = let g = commit_at t rs h in record { m = g.m; c = g.c; v = g.v; actors = g.actors; front = BatchDone j vs ∷ g.front; rest = g.rest; splits = ap (λ l. BatchDone j vs ∷ l) g.splits }
commit_at t (ActPrepare u a st ∷ rs) h = let g = commit_at t rs h in record { m = g.m; c = g.c; v = g.v; actors = g.actors; front = ActPrepare u a st ∷ g.front; rest = g.rest; splits = ap (λ l. ActPrepare u a st ∷ l) g.splits }

pub noted_in : {C : Type 0} (w : Fixed C) (s : Machine C) (kept : ℕ → ℕ) (k : ℕ) (ps : List Declared) → IsCut s kept → list_all (λ p. p.noted) ps ≡ true → AllByRecursion (λ p. p.noted ≡ true → durable_at (is_complete k p.actor) s.logs (p.actor % w.text.logs) ≡ true) ps → AllByRecursion (λ a. list_any (is_complete k a) (left_in s kept (a % w.text.logs)) ≡ true) (map (λ p. p.actor) ps)
noted_in w s kept k [] c n h = tt
noted_in w s kept k (p ∷ ps) c n h = let v = and_parts p.noted (list_all (λ p. p.noted) ps) n in (durable_in s kept (is_complete k p.actor) (p.actor % w.text.logs) c (h.0 v.0), noted_in w s kept k ps c v.1 h.1)

pub whole_batch : {C : Type 0} (w : Fixed C) (Of : Tx → C → Type 0) (finish : C → List State → Alone) (s : Machine C) (h : History) (kept : ℕ → ℕ) (k : ℕ) → IsCut s kept → AllGood w Of finish s h → Logs w s h → is_in w.text.logs (left_in s kept) (OfBatch k) ≡ true → BatchIsWhole w.text.logs (left_in s kept) k
unfolding Known Marked BatchesSure Infos
whole_batch w Of finish s h kept k c g l e =
    let q = batch_kept w Of finish s h k g (in_kept w s h kept (OfBatch k) l.written e) in
    let b = one_is (λ x. true) (batch_of k s.desk.batches) (there_is (batch_of k s.desk.batches) (g.good.known k q)) in
    let m = g.good.marked k b.0 b.1 in
    let formed : is_formed b.0.stage ≡ false = not-true (is_formed b.0.stage) (sym m.known ∙ q) in
    let p = l.batches k b.0 b.1 in
    let i = info_at k (left_in s kept (k % w.text.logs)) (durable_in s kept (is_info k) (k % w.text.logs) c (p.info formed)) in
    let t = all_mid (InfoIs s.desk.batches) (BatchInfo k i.actors i.tids) i.front i.rest (subst (AllByRecursion (InfoIs s.desk.batches)) i.splits (all_take (InfoIs s.desk.batches) (kept (k % w.text.logs)) (log_at s (k % w.text.logs)).records (l.infos (k % w.text.logs)))) in
    let same : map (λ p. p.actor) b.0.places ≡ i.actors = same_some (map (λ p. p.actor) b.0.places) i.actors (sym (ap actors_of_batch b.1) ∙ t) in
    record { actors = i.actors; tids = i.tids; front = i.front; rest = i.rest; info = i.splits; completes = subst (AllByRecursion (λ a. list_any (is_complete k a) (left_in s kept (a % w.text.logs)) ≡ true)) same (noted_in w s kept k b.0.places c (m.all_noted formed) p.noted) }

pub vouched_in : {C : Type 0} (w : Fixed C) (s : Machine C) (kept : ℕ → ℕ) (t : ℕ) (ps : List Joined) → IsCut s kept → list_all (λ p. p.vouched) ps ≡ true → AllByRecursion (λ p. p.vouched ≡ true → durable_at (is_prepare t p.actor) s.logs (p.actor % w.text.logs) ≡ true) ps → AllByRecursion (λ a. list_any (is_prepare t a) (left_in s kept (a % w.text.logs)) ≡ true) (map (λ p. p.actor) ps)
vouched_in w s kept t [] c n h = tt
vouched_in w s kept t (p ∷ ps) c n h = let v = and_parts p.vouched (list_all (λ p. p.vouched) ps) n in (durable_in s kept (is_prepare t p.actor) (p.actor % w.text.logs) c (h.0 v.0), vouched_in w s kept t ps c v.1 h.1)

pub all_put : (P : ℕ → Type 0) (n : ℕ) (ns : List ℕ) → P n → AllByRecursion P ns → AllByRecursion P (put_in n ns)
all_put P n [] p h = (p, tt)
all_put P n (x ∷ xs) p h = by (nat_le n x) (all_put P n xs p h.1)
  where
    by : (b : Bool) → AllByRecursion P (put_in n xs) → AllByRecursion P (if b then n ∷ x ∷ xs else x ∷ put_in n xs)
    by true r = (p, h)
    by false r = (h.0, r)

pub all_ascending : (P : ℕ → Type 0) (ns : List ℕ) → AllByRecursion P ns → AllByRecursion P (ascending ns)
all_ascending P [] h = tt
all_ascending P (n ∷ ns) h = all_put P n (ascending ns) h.0 (all_ascending P ns h.1)

pub whole_act : {C : Type 0} (w : Fixed C) (Of : Tx → C → Type 0) (finish : C → List State → Alone) (s : Machine C) (h : History) (kept : ℕ → ℕ) (t : ℕ) → IsCut s kept → AllGood w Of finish s h → Logs w s h → is_in w.text.logs (left_in s kept) (OfAct t) ≡ true → ActIsWhole w.text.logs (left_in s kept) t
unfolding Acts ActsSure ActCommits
whole_act w Of finish s h kept t c g l e =
    let q = in_kept w s h kept (OfAct t) l.written e in
    let i = commit_at t (left_in s kept (t % w.text.logs)) e in
    let f = all_mid (CommitIs s.book.acts) (ActDone t i.m i.c i.v i.actors) i.front i.rest (subst (AllByRecursion (CommitIs s.book.acts)) i.splits (all_take (CommitIs s.book.acts) (kept (t % w.text.logs)) (log_at s (t % w.text.logs)).records (l.commits (t % w.text.logs)))) in
    let v = act_kept w Of finish s h t f.0 g f.1 q in
    let p = l.acts t f.0 f.1 in
    record { m = i.m; c = i.c; v = i.v; actors = i.actors; front = i.front; rest = i.rest; commit = i.splits; prepares = subst (AllByRecursion (λ a. list_any (is_prepare t a) (left_in s kept (a % w.text.logs)) ≡ true)) f.3 (all_ascending (λ a. list_any (is_prepare t a) (left_in s kept (a % w.text.logs)) ≡ true) (map (λ p. p.actor) f.0.places) (vouched_in w s kept t f.0.places c (p.everywhere v.0 v.1) p.vouched)) }
