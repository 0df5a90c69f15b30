-- Behind all runs the logs recover.
use Rattle.std.specs.Prelude.{◌≡◌, refl, ℕ, ◌+◌, ◌≤◌, max, List, [], ◌∷◌, ◌++◌, length, Some}
use Rattle.std.specs.List.{AllByRecursion}
use Rattle.std.proofs.Common.{arith, sym, ap, subst, inr, ◌∙◌, append_assoc}
use Rattle.std.proofs.lemmas.List.{append-nil}
use Rattle.protocol.specs.Fixed.{Opening, Text}
use Rattle.protocol.specs.Records.{LogRecord}
use Rattle.protocol.specs.Runs.{reached}
use Rattle.protocol_records.specs.SeveralRuns.{CutRun, GoOn, logs_left, opening_left}
use Rattle.followed_runs.specs.FollowingRuns.{Where, RunsReading, runs_read}
use Rattle.txn_records.specs.declared.records.Record.{Record}
use Rattle.snap_recover.specs.declared.openings.Opening as recovery
use Rattle.snap_recover.specs.Opening.{IsRecovered}
use Rattle.log_set.specs.Told.{all_told}
use Rattle.recovery_laws.specs.Grown.{grown_from, grown, opening_found, BeginsFrom}
use Rattle.recovery_laws.specs.Joined.{AtEveryMomentFrom, RecoversFrom}
use Rattle.recovery_laws.proofs.WrittenLists.{written_join, grown_length}

-- ---- all that the runs left

unfoldable pub all_at : {C : Type 0} (xs : List (CutRun C)) (l : ℕ) → Where xs l
all_at [] l = tt
all_at (x ∷ xs) l = Some (inr (all_at xs l))

unfoldable pub all_left : {C : Type 0} (xs : List (CutRun C)) → RunsReading xs
all_left xs l = all_at xs l

-- ---- lists that grow

grown_nothing : (n : ℕ) (earlier : List (List Record)) → grown_from n earlier (λ l. []) ≡ earlier
grown_nothing n [] = refl
grown_nothing n (rs ∷ rss) = ap (λ z. z ∷ grown_from (n + 1) rss (λ l. [])) (append-nil rs) ∙ ap (λ z. rs ∷ z) (grown_nothing (n + 1) rss)

grown_twice : (n : ℕ) (earlier : List (List Record)) (as' bs : ℕ → List LogRecord) → grown_from n (grown_from n earlier as') bs ≡ grown_from n earlier (λ l. as' l ++ bs l)
grown_twice n [] as' bs = refl
grown_twice n (rs ∷ rss) as' bs =
    ap (λ z. z ∷ grown_from (n + 1) (grown_from (n + 1) rss as') bs) (append_assoc rs (all_told (as' n)) (all_told (bs n)) ∙ ap (λ z. rs ++ z) (sym (written_join (as' n) (bs n))))
    ∙ ap (λ z. (rs ++ all_told (as' n ++ bs n)) ∷ z) (grown_twice (n + 1) rss as' bs)

-- ---- run by run

-- a run that begins with this opening goes on from what its logs recovered to
record Goes (p : Opening) (o : recovery.Opening) : Type 0 where
  states : o.states ≡ p.states
  next_tid : o.next_tid.0 ≤ max 1 p.next_tid
  next_bid : o.next_bid.0 ≤ max 1 p.next_bid
  next_c : o.next_c ≤ max 1 p.next_c

begins : (w : Text) (p : Opening) (o : recovery.Opening) → w.opening ≡ p → 1 ≤ w.opening.next_tid → 1 ≤ w.opening.next_bid → 1 ≤ w.opening.next_c → Goes p o → BeginsFrom w o
begins w p o e t b c g =
    let h : Goes w.opening o = subst (λ z. Goes z o) (sym e) g in
    record { states = h.states; next_tid = omega (arith, h.next_tid, t); next_bid = omega (arith, h.next_bid, b); next_c = omega (arith, h.next_c, c) }

pub all_recovered : {C : Type 0} → AtEveryMomentFrom (RecoversFrom {C = C}) → (many : ℕ) (earlier : List (List Record)) (p : Opening) (o : recovery.Opening) (xs : List (CutRun C))
    → length earlier ≡ many → AllByRecursion (λ x. x.fixed.text.logs ≡ many) xs → GoOn p xs → IsRecovered earlier o
    → o.states ≡ p.states → o.next_tid.0 ≤ max 1 p.next_tid → o.next_bid.0 ≤ max 1 p.next_bid → o.next_c ≤ max 1 p.next_c
    → (q : recovery.Opening) × IsRecovered (grown earlier (runs_read xs (all_left xs))) q
unfolding all_at all_left
all_recovered law many earlier p o [] long same go h s t b c = (o, subst (λ z. IsRecovered z o) (sym (grown_nothing 0 earlier)) h)
all_recovered law many earlier p o (x ∷ xs) long same go h s t b c =
    let v = go.0 in
    let r = law x.fixed x.finish x.events x.moment x.kept earlier o v.facts v.text v.run v.left (long ∙ sym same.0) h (begins x.fixed.text p o go.1 v.text.tids v.text.bids v.text.cs (record { states = s; next_tid = t; next_bid = b; next_c = c })) in
    let q = all_recovered law many (grown earlier (logs_left x)) (opening_left x) (opening_found x.fixed earlier o (reached x.fixed x.moment.events) (logs_left x)) xs (grown_length 0 earlier (logs_left x) ∙ long) same.1 go.2 r.recovered
    refl (omega (arith, r.next_tid)) (omega (arith, r.next_bid)) (omega (arith, r.next_c)) in
    (q.0, subst (λ z. IsRecovered z q.0) (grown_twice 0 earlier (logs_left x) (runs_read xs (all_left xs))) q.1)
