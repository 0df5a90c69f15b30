-- The tag chooses the fields, and where they stop the record does.
use Rattle.std.proofs.Common.{◌≡◌, ◌≢◌, ℕ, ◌≤◌, ◌⊎◌, inl, inr, List, [], ◌∷◌, ◌++◌, length, take, get_or, refl, sym, ap, subst, ◌∙◌, arith, Result, Ok, Err, MatchResult}
use Rattle.std.specs.Int.{w16, w64, to_be_bytes}
use Rattle.std.proofs.lemmas.List.{append-nil}
use Rattle.snap_base.specs.declared.ids.ActorId.{ActorId}
use Rattle.snap_base.specs.declared.ids.Bid.{Bid}
use Rattle.snap_base.specs.declared.ids.Tid.{Tid}
use Rattle.txn_records.specs.declared.records.Record.{Record}
use Rattle.txn_records.specs.declared.records.Record.TheVariants.{Genesis, BatchInfo, BatchComplete, BatchCommit, ActPrepare, ActCommit, BatchDone, ActDone, Checkpoint}
use Rattle.txn_records.specs.declared.numbers.Stop.{Stop}
use Rattle.txn_records.specs.declared.numbers.Stop.TheVariants.{Left, Memory}
use Rattle.txn_records.specs.Records.{IsRecord, record_bytes, states_bytes, counted_states_bytes, so_far_bytes, actors_bytes, tids_bytes, field_bytes, values_bytes, state_bytes}
use Rattle.txn_records.specs.Stops.{Stops, IsWhyUnread, Nil, Seq}
use Rattle.txn_records.specs.Texts.{AreActors, Number, CountedStates, Field, GenesisTexts, InfoTexts, CompleteTexts, CommitTexts, PrepareTexts, ActTexts, DoneTexts, ActDoneTexts, CheckpointTexts, RecordTexts}
use Rattle.txn_records.proofs.OneRecord.{other_tag, other_tag_down}
use Rattle.txn_records.proofs.Stopping.{stops_here}
use Rattle.txn_records.proofs.Chains.{Some, ActCount, ActValue, CheckpointActs, CheckpointBatches, CheckpointC, CheckpointBid}

tag_stops : (T : List ℕ → Type 0) (t : ℕ) (rest : List ℕ) (left : ℕ) → ((f : List ℕ) → T f → RecordTexts (t ∷ f)) → ((f : List ℕ) → RecordTexts (t ∷ f) → T f) → Stops T rest left → Stops RecordTexts (t ∷ rest) left
tag_stops T t rest left there back s = record {
  front = t ∷ s.front;
  behind = s.behind;
  parts = ap (λ (z : List ℕ). t ∷ z) s.parts;
  left_is = s.left_is;
  goes = (t ∷ s.goes.0, s.goes.1, there s.goes.0 s.goes.2, ap (λ (z : List ℕ). t ∷ z) s.goes.3);
  stops = λ f y p e. s.stops (s.front ++ (take 1 s.behind ++ y)) y (back (s.front ++ (take 1 s.behind ++ y)) (subst RecordTexts e p)) refl;
}

abbrev pub IsRead : List ℕ → Result Record Stop → Type 0
IsRead bytes r = MatchResult r (λ x. IsRecord x × (bytes ≡ record_bytes x)) (IsWhyUnread RecordTexts bytes)

abbrev pub IsReadBehind : ℕ → (List ℕ → Type 0) → List ℕ → Result Record Stop → Type 0
IsReadBehind t T rest r = MatchResult r (λ x. IsRecord x × (t ∷ rest ≡ record_bytes x)) (IsWhyUnread T rest)

tag_read : (T : List ℕ → Type 0) (t : ℕ) (rest : List ℕ) (r : Result Record Stop) → ((f : List ℕ) → T f → RecordTexts (t ∷ f)) → ((f : List ℕ) → RecordTexts (t ∷ f) → T f) → IsReadBehind t T rest r → IsRead (t ∷ rest) r
tag_read T t rest (Ok x) there back s = s
tag_read T t rest (Err (Left left)) there back s = tag_stops T t rest left there back s
tag_read T t rest (Err Memory) there back s = tt

pub tagged : (T : List ℕ → Type 0) (t b : ℕ) (bytes rest : List ℕ) (r : Result Record Stop) → ((f : List ℕ) → T f → RecordTexts (t ∷ f)) → ((f : List ℕ) → RecordTexts (t ∷ f) → T f) → bytes ≡ b ∷ rest → b ≡ t → IsReadBehind t T rest r → IsRead bytes r
tagged T t b bytes rest r there back e same s = subst (λ (z : List ℕ). IsRead z r) (sym (e ∙ ap (λ (z : ℕ). z ∷ rest) same)) (tag_read T t rest r there back s)

tail_of : (t : ℕ) (f g : List ℕ) → t ∷ f ≡ t ∷ g → f ≡ g
tail_of t f g e = cc

-- ---- the fields of a kind are the records with its tag

pub genesis_in : (f : List ℕ) → GenesisTexts f → RecordTexts (1 ∷ f)
genesis_in f (l, g, p, (n, h, q, (xs, k, r, nil, e3), e2), e1) =
    let whole : h ≡ states_bytes xs = e3 ∙ ap (λ (z : List ℕ). states_bytes xs ++ z) nil ∙ append-nil (states_bytes xs) in
    let counted : g ≡ to_be_bytes w16 (length xs) ++ states_bytes xs = e2 ∙ ap (λ (z : List ℕ). to_be_bytes w16 n ++ z) whole ∙ ap (λ (z : ℕ). to_be_bytes w16 z ++ states_bytes xs) (sym r.0) in (
      Genesis l xs,
      record { some_logs = p.0; few_logs = p.1; some = omega (arith, q, r.0); few = omega (arith, q, r.0); each = r.1 },
      ap (λ (z : List ℕ). 1 ∷ z) (e1 ∙ ap (λ (z : List ℕ). l ∷ z) counted),
    )

pub genesis_out : (f : List ℕ) → RecordTexts (1 ∷ f) → GenesisTexts f
genesis_out f (Genesis l xs, p, e) =
    let tail : f ≡ l ∷ (to_be_bytes w16 (length xs) ++ states_bytes xs) = tail_of 1 f (l ∷ (to_be_bytes w16 (length xs) ++ states_bytes xs)) e in
    (l, to_be_bytes w16 (length xs) ++ states_bytes xs, (p.some_logs, p.few_logs), (length xs, states_bytes xs, (p.some, p.few), (xs, [], (refl, p.each), refl, sym (append-nil (states_bytes xs))), refl), tail)
genesis_out f (BatchInfo a xs ts, p, e) = other_tag 1 2 _ _ (omega arith) e
genesis_out f (BatchComplete a m x, p, e) = other_tag 1 3 _ _ (omega arith) e
genesis_out f (BatchCommit a, p, e) = other_tag 1 4 _ _ (omega arith) e
genesis_out f (ActPrepare a m x, p, e) = other_tag 1 5 _ _ (omega arith) e
genesis_out f (ActCommit a m c xs, p, e) = other_tag 1 6 _ _ (omega arith) e
genesis_out f (BatchDone a vs, p, e) = other_tag 1 7 _ _ (omega arith) e
genesis_out f (ActDone a m c v xs, p, e) = other_tag 1 8 _ _ (omega arith) e
genesis_out f (Checkpoint g t b c m n xs, p, e) = other_tag 1 16 _ _ (omega arith) e

pub info_in : (f : List ℕ) → InfoTexts f → RecordTexts (2 ∷ f)
info_in f (b, g, p, (n, h, q, (xs, k, r, (m, i, v, (ts, j, w, nil, e5), e4), e3), e2), e1) =
    let bid : Bid = record { 0 = b } in
    let tids : i ≡ tids_bytes ts = e5 ∙ ap (λ (z : List ℕ). tids_bytes ts ++ z) nil ∙ append-nil (tids_bytes ts) in
    let tail : k ≡ to_be_bytes w16 (length ts) ++ tids_bytes ts = e4 ∙ ap (λ (z : List ℕ). to_be_bytes w16 m ++ z) tids ∙ ap (λ (z : ℕ). to_be_bytes w16 z ++ tids_bytes ts) (sym w.0) in
    let actors : h ≡ actors_bytes xs ++ (to_be_bytes w16 (length ts) ++ tids_bytes ts) = e3 ∙ ap (λ (z : List ℕ). actors_bytes xs ++ z) tail in
    let counted : g ≡ to_be_bytes w16 (length xs) ++ (actors_bytes xs ++ (to_be_bytes w16 (length ts) ++ tids_bytes ts)) =
    e2 ∙ ap (λ (z : List ℕ). to_be_bytes w16 n ++ z) actors ∙ ap (λ (z : ℕ). to_be_bytes w16 z ++ (actors_bytes xs ++ (to_be_bytes w16 (length ts) ++ tids_bytes ts))) (sym r.0) in (
      BatchInfo bid xs ts,
      record { bid_fits = omega (arith, p); some_actors = omega (arith, q, r.0); few_actors = omega (arith, q, r.0); actors_ascend = r.1; some_tids = omega (arith, v, w.0); few_tids = omega (arith, v, w.0); tids_ascend = w.1 },
      ap (λ (z : List ℕ). 2 ∷ z) (e1 ∙ ap (λ (z : List ℕ). to_be_bytes w64 b ++ z) counted),
    )

pub info_out : (f : List ℕ) → RecordTexts (2 ∷ f) → InfoTexts f
info_out f (Genesis l xs, p, e) = other_tag_down 2 1 _ _ (omega arith) e
info_out f (BatchInfo b xs ts, p, e) =
    let xt : List ℕ = to_be_bytes w16 (length ts) ++ tids_bytes ts in
    let xa : List ℕ = to_be_bytes w16 (length xs) ++ (actors_bytes xs ++ xt) in
    let tail : f ≡ to_be_bytes w64 b.0 ++ xa = tail_of 2 f (to_be_bytes w64 b.0 ++ xa) e in (
      b.0,
      xa,
      (omega arith, omega (arith, p.bid_fits)),
      (
        length xs,
        actors_bytes xs ++ xt,
        (p.some_actors, p.few_actors),
        (xs, xt, (refl, p.actors_ascend), (length ts, tids_bytes ts, (p.some_tids, p.few_tids), (ts, [], (refl, p.tids_ascend), refl, sym (append-nil (tids_bytes ts))), refl), refl),
        refl,
      ),
      tail,
    )
info_out f (BatchComplete a m x, p, e) = other_tag 2 3 _ _ (omega arith) e
info_out f (BatchCommit a, p, e) = other_tag 2 4 _ _ (omega arith) e
info_out f (ActPrepare a m x, p, e) = other_tag 2 5 _ _ (omega arith) e
info_out f (ActCommit a m c xs, p, e) = other_tag 2 6 _ _ (omega arith) e
info_out f (BatchDone a vs, p, e) = other_tag 2 7 _ _ (omega arith) e
info_out f (ActDone a m c v xs, p, e) = other_tag 2 8 _ _ (omega arith) e
info_out f (Checkpoint g t b c m n xs, p, e) = other_tag 2 16 _ _ (omega arith) e

pub complete_in : (f : List ℕ) → CompleteTexts f → RecordTexts (3 ∷ f)
complete_in f (b, g, p, (a, h, q, (s, k, r, nil, e3), e2), e1) =
    let bid : Bid = record { 0 = b } in
    let actor : ActorId = record { 0 = a } in
    let state : h ≡ state_bytes s = e3 ∙ ap (λ (z : List ℕ). state_bytes s ++ z) nil ∙ append-nil (state_bytes s) in (
      BatchComplete bid actor s,
      record { bid_fits = omega (arith, p); actor_fits = omega (arith, q); is_state = r },
      ap (λ (z : List ℕ). 3 ∷ z) (e1 ∙ ap (λ (z : List ℕ). to_be_bytes w64 b ++ z) (e2 ∙ ap (λ (z : List ℕ). to_be_bytes w16 a ++ z) state)),
    )

pub complete_out : (f : List ℕ) → RecordTexts (3 ∷ f) → CompleteTexts f
complete_out f (Genesis l xs, p, e) = other_tag_down 3 1 _ _ (omega arith) e
complete_out f (BatchInfo a xs ts, p, e) = other_tag_down 3 2 _ _ (omega arith) e
complete_out f (BatchComplete b a s, p, e) = (
  b.0,
  to_be_bytes w16 a.0 ++ state_bytes s,
  (omega arith, omega (arith, p.bid_fits)),
  (a.0, state_bytes s, (omega arith, omega (arith, p.actor_fits)), (s, [], p.is_state, refl, sym (append-nil (state_bytes s))), refl),
  tail_of 3 f (to_be_bytes w64 b.0 ++ (to_be_bytes w16 a.0 ++ state_bytes s)) e,
)
complete_out f (BatchCommit a, p, e) = other_tag 3 4 _ _ (omega arith) e
complete_out f (ActPrepare a m x, p, e) = other_tag 3 5 _ _ (omega arith) e
complete_out f (ActCommit a m c xs, p, e) = other_tag 3 6 _ _ (omega arith) e
complete_out f (BatchDone a vs, p, e) = other_tag 3 7 _ _ (omega arith) e
complete_out f (ActDone a m c v xs, p, e) = other_tag 3 8 _ _ (omega arith) e
complete_out f (Checkpoint g t b c m n xs, p, e) = other_tag 3 16 _ _ (omega arith) e

pub commit_in : (f : List ℕ) → CommitTexts f → RecordTexts (4 ∷ f)
commit_in f (b, g, p, nil, e) =
    let bid : Bid = record { 0 = b } in
    (BatchCommit bid, record { bid_fits = omega (arith, p) }, ap (λ (z : List ℕ). 4 ∷ z) (e ∙ ap (λ (z : List ℕ). to_be_bytes w64 b ++ z) nil ∙ append-nil (to_be_bytes w64 b)))

pub commit_out : (f : List ℕ) → RecordTexts (4 ∷ f) → CommitTexts f
commit_out f (Genesis l xs, p, e) = other_tag_down 4 1 _ _ (omega arith) e
commit_out f (BatchInfo a xs ts, p, e) = other_tag_down 4 2 _ _ (omega arith) e
commit_out f (BatchComplete a m x, p, e) = other_tag_down 4 3 _ _ (omega arith) e
commit_out f (BatchCommit b, p, e) = (b.0, [], (omega arith, omega (arith, p.bid_fits)), refl, tail_of 4 f (to_be_bytes w64 b.0) e ∙ sym (append-nil (to_be_bytes w64 b.0)))
commit_out f (ActPrepare a m x, p, e) = other_tag 4 5 _ _ (omega arith) e
commit_out f (ActCommit a m c xs, p, e) = other_tag 4 6 _ _ (omega arith) e
commit_out f (BatchDone a vs, p, e) = other_tag 4 7 _ _ (omega arith) e
commit_out f (ActDone a m c v xs, p, e) = other_tag 4 8 _ _ (omega arith) e
commit_out f (Checkpoint g t b c m n xs, p, e) = other_tag 4 16 _ _ (omega arith) e

pub prepare_in : (f : List ℕ) → PrepareTexts f → RecordTexts (5 ∷ f)
prepare_in f (b, g, p, (a, h, q, (s, k, r, nil, e3), e2), e1) =
    let tid : Tid = record { 0 = b } in
    let actor : ActorId = record { 0 = a } in
    let state : h ≡ state_bytes s = e3 ∙ ap (λ (z : List ℕ). state_bytes s ++ z) nil ∙ append-nil (state_bytes s) in (
      ActPrepare tid actor s,
      record { tid_fits = omega (arith, p); actor_fits = omega (arith, q); is_state = r },
      ap (λ (z : List ℕ). 5 ∷ z) (e1 ∙ ap (λ (z : List ℕ). to_be_bytes w64 b ++ z) (e2 ∙ ap (λ (z : List ℕ). to_be_bytes w16 a ++ z) state)),
    )

pub prepare_out : (f : List ℕ) → RecordTexts (5 ∷ f) → PrepareTexts f
prepare_out f (Genesis l xs, p, e) = other_tag_down 5 1 _ _ (omega arith) e
prepare_out f (BatchInfo a xs ts, p, e) = other_tag_down 5 2 _ _ (omega arith) e
prepare_out f (BatchComplete a m x, p, e) = other_tag_down 5 3 _ _ (omega arith) e
prepare_out f (BatchCommit a, p, e) = other_tag_down 5 4 _ _ (omega arith) e
prepare_out f (ActPrepare t a s, p, e) = (
  t.0,
  to_be_bytes w16 a.0 ++ state_bytes s,
  (omega arith, omega (arith, p.tid_fits)),
  (a.0, state_bytes s, (omega arith, omega (arith, p.actor_fits)), (s, [], p.is_state, refl, sym (append-nil (state_bytes s))), refl),
  tail_of 5 f (to_be_bytes w64 t.0 ++ (to_be_bytes w16 a.0 ++ state_bytes s)) e,
)
prepare_out f (ActCommit a m c xs, p, e) = other_tag 5 6 _ _ (omega arith) e
prepare_out f (BatchDone a vs, p, e) = other_tag 5 7 _ _ (omega arith) e
prepare_out f (ActDone a m c v xs, p, e) = other_tag 5 8 _ _ (omega arith) e
prepare_out f (Checkpoint g t b c m n xs, p, e) = other_tag 5 16 _ _ (omega arith) e

pub act_in : (f : List ℕ) → ActTexts f → RecordTexts (6 ∷ f)
act_in f (t, g, p, (b, h, q, (c, i, r, (n, j, v, (xs, k, w, nil, e5), e4), e3), e2), e1) =
    let tid : Tid = record { 0 = t } in
    let bid : Bid = record { 0 = b } in
    let actors : j ≡ actors_bytes xs = e5 ∙ ap (λ (z : List ℕ). actors_bytes xs ++ z) nil ∙ append-nil (actors_bytes xs) in
    let counted : i ≡ to_be_bytes w16 (length xs) ++ actors_bytes xs = e4 ∙ ap (λ (z : List ℕ). to_be_bytes w16 n ++ z) actors ∙ ap (λ (z : ℕ). to_be_bytes w16 z ++ actors_bytes xs) (sym w.0) in
    let numbered : g ≡ to_be_bytes w64 b ++ (to_be_bytes w64 c ++ (to_be_bytes w16 (length xs) ++ actors_bytes xs)) =
    e2 ∙ ap (λ (z : List ℕ). to_be_bytes w64 b ++ z) (e3 ∙ ap (λ (z : List ℕ). to_be_bytes w64 c ++ z) counted) in (
      ActCommit tid bid c xs,
      record { tid_fits = omega (arith, p); m_fits = omega (arith, q); c_fits = omega (arith, r); some = omega (arith, v, w.0); few = omega (arith, v, w.0); ascend = w.1 },
      ap (λ (z : List ℕ). 6 ∷ z) (e1 ∙ ap (λ (z : List ℕ). to_be_bytes w64 t ++ z) numbered),
    )

pub act_out : (f : List ℕ) → RecordTexts (6 ∷ f) → ActTexts f
act_out f (Genesis l xs, p, e) = other_tag_down 6 1 _ _ (omega arith) e
act_out f (BatchInfo a xs ts, p, e) = other_tag_down 6 2 _ _ (omega arith) e
act_out f (BatchComplete a m x, p, e) = other_tag_down 6 3 _ _ (omega arith) e
act_out f (BatchCommit a, p, e) = other_tag_down 6 4 _ _ (omega arith) e
act_out f (ActPrepare a m x, p, e) = other_tag_down 6 5 _ _ (omega arith) e
act_out f (ActCommit t m c xs, p, e) =
    let xa : List ℕ = to_be_bytes w16 (length xs) ++ actors_bytes xs in
    let xc : List ℕ = to_be_bytes w64 c ++ xa in
    let xm : List ℕ = to_be_bytes w64 m.0 ++ xc in
    let tail : f ≡ to_be_bytes w64 t.0 ++ xm = tail_of 6 f (to_be_bytes w64 t.0 ++ xm) e in
    let listed : Seq (AreActors (length xs)) actors_bytes (λ ys. Nil) (actors_bytes xs) = (xs, [], (refl, p.ascend), refl, sym (append-nil (actors_bytes xs))) in
    let numbered : Number (λ n. ActCount) xc = (c, xa, (omega arith, omega (arith, p.c_fits)), (length xs, actors_bytes xs, (p.some, p.few), listed, refl), refl) in
    (t.0, xm, (omega arith, omega (arith, p.tid_fits)), (m.0, xc, (omega arith, omega (arith, p.m_fits)), numbered, refl), tail)
act_out f (BatchDone a vs, p, e) = other_tag 6 7 _ _ (omega arith) e
act_out f (ActDone a m c v xs, p, e) = other_tag 6 8 _ _ (omega arith) e
act_out f (Checkpoint g t b c m n xs, p, e) = other_tag 6 16 _ _ (omega arith) e

pub done_in : (f : List ℕ) → DoneTexts f → RecordTexts (7 ∷ f)
done_in f (b, g, p, (n, h, q, (vs, k, r, nil, e3), e2), e1) =
    let bid : Bid = record { 0 = b } in
    let whole : h ≡ values_bytes vs = e3 ∙ ap (λ (z : List ℕ). values_bytes vs ++ z) nil ∙ append-nil (values_bytes vs) in
    let counted : g ≡ to_be_bytes w16 (length vs) ++ values_bytes vs = e2 ∙ ap (λ (z : List ℕ). to_be_bytes w16 n ++ z) whole ∙ ap (λ (z : ℕ). to_be_bytes w16 z ++ values_bytes vs) (sym r.0) in (
      BatchDone bid vs,
      record { bid_fits = omega (arith, p); some = omega (arith, q, r.0); few = omega (arith, q, r.0); each = r.1 },
      ap (λ (z : List ℕ). 7 ∷ z) (e1 ∙ ap (λ (z : List ℕ). to_be_bytes w64 b ++ z) counted),
    )

pub done_out : (f : List ℕ) → RecordTexts (7 ∷ f) → DoneTexts f
done_out f (Genesis l xs, p, e) = other_tag_down 7 1 _ _ (omega arith) e
done_out f (BatchInfo a xs ts, p, e) = other_tag_down 7 2 _ _ (omega arith) e
done_out f (BatchComplete a m x, p, e) = other_tag_down 7 3 _ _ (omega arith) e
done_out f (BatchCommit a, p, e) = other_tag_down 7 4 _ _ (omega arith) e
done_out f (ActPrepare a m x, p, e) = other_tag_down 7 5 _ _ (omega arith) e
done_out f (ActCommit a m c xs, p, e) = other_tag_down 7 6 _ _ (omega arith) e
done_out f (BatchDone b vs, p, e) =
    let xc : List ℕ = to_be_bytes w16 (length vs) ++ values_bytes vs in
    let tail : f ≡ to_be_bytes w64 b.0 ++ xc = tail_of 7 f (to_be_bytes w64 b.0 ++ xc) e in
    (b.0, xc, (omega arith, omega (arith, p.bid_fits)), (length vs, values_bytes vs, (p.some, p.few), (vs, [], (refl, p.each), refl, sym (append-nil (values_bytes vs))), refl), tail)
done_out f (ActDone a m c v xs, p, e) = other_tag 7 8 _ _ (omega arith) e
done_out f (Checkpoint g t b c m n xs, p, e) = other_tag 7 16 _ _ (omega arith) e

pub act_done_in : (f : List ℕ) → ActDoneTexts f → RecordTexts (8 ∷ f)
act_done_in f (t, g, p, (b, h, q, (c, i, r, (z, l, y, (n, j, v, (xs, k, w, nil, e6), e5), e4), e3), e2), e1) =
    let tid : Tid = record { 0 = t } in
    let bid : Bid = record { 0 = b } in
    let actors : j ≡ actors_bytes xs = e6 ∙ ap (λ (z : List ℕ). actors_bytes xs ++ z) nil ∙ append-nil (actors_bytes xs) in
    let counted : l ≡ to_be_bytes w16 (length xs) ++ actors_bytes xs = e5 ∙ ap (λ (z : List ℕ). to_be_bytes w16 n ++ z) actors ∙ ap (λ (z : ℕ). to_be_bytes w16 z ++ actors_bytes xs) (sym w.0) in
    let valued : i ≡ field_bytes z ++ (to_be_bytes w16 (length xs) ++ actors_bytes xs) = e4 ∙ ap (λ (y : List ℕ). field_bytes z ++ y) counted in
    let numbered : g ≡ to_be_bytes w64 b ++ (to_be_bytes w64 c ++ (field_bytes z ++ (to_be_bytes w16 (length xs) ++ actors_bytes xs))) =
    e2 ∙ ap (λ (z : List ℕ). to_be_bytes w64 b ++ z) (e3 ∙ ap (λ (z : List ℕ). to_be_bytes w64 c ++ z) valued) in (
      ActDone tid bid c z xs,
      record { tid_fits = omega (arith, p); m_fits = omega (arith, q); c_fits = omega (arith, r); value_fits = y; some = omega (arith, v, w.0); few = omega (arith, v, w.0); ascend = w.1 },
      ap (λ (z : List ℕ). 8 ∷ z) (e1 ∙ ap (λ (z : List ℕ). to_be_bytes w64 t ++ z) numbered),
    )

pub act_done_out : (f : List ℕ) → RecordTexts (8 ∷ f) → ActDoneTexts f
act_done_out f (Genesis l xs, p, e) = other_tag_down 8 1 _ _ (omega arith) e
act_done_out f (BatchInfo a xs ts, p, e) = other_tag_down 8 2 _ _ (omega arith) e
act_done_out f (BatchComplete a m x, p, e) = other_tag_down 8 3 _ _ (omega arith) e
act_done_out f (BatchCommit a, p, e) = other_tag_down 8 4 _ _ (omega arith) e
act_done_out f (ActPrepare a m x, p, e) = other_tag_down 8 5 _ _ (omega arith) e
act_done_out f (ActCommit a m c xs, p, e) = other_tag_down 8 6 _ _ (omega arith) e
act_done_out f (BatchDone a vs, p, e) = other_tag_down 8 7 _ _ (omega arith) e
act_done_out f (ActDone t m c v xs, p, e) =
    let xa : List ℕ = to_be_bytes w16 (length xs) ++ actors_bytes xs in
    let xv : List ℕ = field_bytes v ++ xa in
    let xc : List ℕ = to_be_bytes w64 c ++ xv in
    let xm : List ℕ = to_be_bytes w64 m.0 ++ xc in
    let tail : f ≡ to_be_bytes w64 t.0 ++ xm = tail_of 8 f (to_be_bytes w64 t.0 ++ xm) e in
    let listed : Seq (AreActors (length xs)) actors_bytes (λ ys. Nil) (actors_bytes xs) = (xs, [], (refl, p.ascend), refl, sym (append-nil (actors_bytes xs))) in
    let valued : Field (λ n. ActCount) xv = (v, xa, p.value_fits, (length xs, actors_bytes xs, (p.some, p.few), listed, refl), refl) in
    let numbered : Number (λ n. ActValue) xc = (c, xv, (omega arith, omega (arith, p.c_fits)), valued, refl) in
    (t.0, xm, (omega arith, omega (arith, p.tid_fits)), (m.0, xc, (omega arith, omega (arith, p.m_fits)), numbered, refl), tail)
act_done_out f (Checkpoint g t b c m n xs, p, e) = other_tag 8 16 _ _ (omega arith) e

pub checkpoint_in : (f : List ℕ) → CheckpointTexts f → RecordTexts (16 ∷ f)
checkpoint_in f (g, f1, p, (t, f2, q, (b, f3, r, (c, f4, s, (m, f5, u, (n, f6, v, (k, h, w, (xs, l, z, nil, e8), e7), e6), e5), e4), e3), e2), e1) =
    let tid : Tid = record { 0 = t } in
    let bid : Bid = record { 0 = b } in
    let whole : h ≡ states_bytes xs = e8 ∙ ap (λ (y : List ℕ). states_bytes xs ++ y) nil ∙ append-nil (states_bytes xs) in
    let counted : f6 ≡ counted_states_bytes xs = e7 ∙ ap (λ (y : List ℕ). to_be_bytes w16 k ++ y) whole ∙ ap (λ (y : ℕ). to_be_bytes w16 y ++ states_bytes xs) (sym z.0) in
    let so_far : f4 ≡ so_far_bytes m n xs = e5 ∙ ap (λ (y : List ℕ). to_be_bytes w64 m ++ y) (e6 ∙ ap (λ (y : List ℕ). to_be_bytes w64 n ++ y) counted) in
    let behind_bid : f3 ≡ to_be_bytes w64 c ++ so_far_bytes m n xs = e4 ∙ ap (λ (y : List ℕ). to_be_bytes w64 c ++ y) so_far in
    let behind_tid : f2 ≡ to_be_bytes w64 b ++ (to_be_bytes w64 c ++ so_far_bytes m n xs) = e3 ∙ ap (λ (y : List ℕ). to_be_bytes w64 b ++ y) behind_bid in
    let behind_generation : f1 ≡ to_be_bytes w64 t ++ (to_be_bytes w64 b ++ (to_be_bytes w64 c ++ so_far_bytes m n xs)) = e2 ∙ ap (λ (y : List ℕ). to_be_bytes w64 t ++ y) behind_tid in (
      Checkpoint g tid bid c m n xs,
      record {
        some_generation = p.0;
        generation_fits = omega (arith, p);
        some_tid = q.0;
        tid_fits = omega (arith, q);
        some_bid = r.0;
        bid_fits = omega (arith, r);
        some_c = s.0;
        c_fits = omega (arith, s);
        batches_fit = omega (arith, u);
        acts_fit = omega (arith, v);
        some = omega (arith, w, z.0);
        few = omega (arith, w, z.0);
        each = z.1;
      },
      ap (λ (y : List ℕ). 16 ∷ y) (e1 ∙ ap (λ (y : List ℕ). to_be_bytes w64 g ++ y) behind_generation),
    )

pub checkpoint_out : (f : List ℕ) → RecordTexts (16 ∷ f) → CheckpointTexts f
checkpoint_out f (Genesis l xs, p, e) = other_tag_down 16 1 _ _ (omega arith) e
checkpoint_out f (BatchInfo a xs ts, p, e) = other_tag_down 16 2 _ _ (omega arith) e
checkpoint_out f (BatchComplete a m x, p, e) = other_tag_down 16 3 _ _ (omega arith) e
checkpoint_out f (BatchCommit a, p, e) = other_tag_down 16 4 _ _ (omega arith) e
checkpoint_out f (ActPrepare a m x, p, e) = other_tag_down 16 5 _ _ (omega arith) e
checkpoint_out f (ActCommit a m c xs, p, e) = other_tag_down 16 6 _ _ (omega arith) e
checkpoint_out f (BatchDone a vs, p, e) = other_tag_down 16 7 _ _ (omega arith) e
checkpoint_out f (ActDone a m c v xs, p, e) = other_tag_down 16 8 _ _ (omega arith) e
checkpoint_out f (Checkpoint g t b c m n xs, p, e) =
    let f6 : List ℕ = counted_states_bytes xs in
    let f5 : List ℕ = to_be_bytes w64 n ++ f6 in
    let f4 : List ℕ = to_be_bytes w64 m ++ f5 in
    let f3 : List ℕ = to_be_bytes w64 c ++ f4 in
    let f2 : List ℕ = to_be_bytes w64 b.0 ++ f3 in
    let f1 : List ℕ = to_be_bytes w64 t.0 ++ f2 in
    let tail : f ≡ to_be_bytes w64 g ++ f1 = tail_of 16 f (to_be_bytes w64 g ++ f1) e in
    let counted : CountedStates f6 = (length xs, states_bytes xs, (p.some, p.few), (xs, [], (refl, p.each), refl, sym (append-nil (states_bytes xs))), refl) in
    let acts : CheckpointActs f5 = (n, f6, (omega arith, omega (arith, p.acts_fit)), counted, refl) in
    let batches : CheckpointBatches f4 = (m, f5, (omega arith, omega (arith, p.batches_fit)), acts, refl) in
    let numbered : CheckpointC f3 = (c, f4, (p.some_c, omega (arith, p.c_fits)), batches, refl) in
    let told : CheckpointBid f2 = (b.0, f3, (p.some_bid, omega (arith, p.bid_fits)), numbered, refl) in
    (g, f1, (p.some_generation, omega (arith, p.generation_fits)), (t.0, f2, (p.some_tid, omega (arith, p.tid_fits)), told, refl), tail)

-- ---- no tag

some_record : Some RecordTexts
some_record = let b : Bid = record { 0 = 0 } in (record_bytes (BatchCommit b), (BatchCommit b, record { bid_fits = omega arith }, refl))

abbrev IsTag : ℕ → Type 0
IsTag t = ((1 ≤ t) × (t ≤ 8)) ⊎ (t ≡ 16)

tag_of : (r : Record) (c : ℕ) (y : List ℕ) → record_bytes r ≡ c ∷ y → IsTag c
tag_of (Genesis l xs) c y e = let h = ap (λ (z : List ℕ). get_or z 0 0) e in inl (omega (arith, h), omega (arith, h))
tag_of (BatchInfo a xs ts) c y e = let h = ap (λ (z : List ℕ). get_or z 0 0) e in inl (omega (arith, h), omega (arith, h))
tag_of (BatchComplete a m x) c y e = let h = ap (λ (z : List ℕ). get_or z 0 0) e in inl (omega (arith, h), omega (arith, h))
tag_of (BatchCommit a) c y e = let h = ap (λ (z : List ℕ). get_or z 0 0) e in inl (omega (arith, h), omega (arith, h))
tag_of (ActPrepare a m x) c y e = let h = ap (λ (z : List ℕ). get_or z 0 0) e in inl (omega (arith, h), omega (arith, h))
tag_of (ActCommit a m n xs) c y e = let h = ap (λ (z : List ℕ). get_or z 0 0) e in inl (omega (arith, h), omega (arith, h))
tag_of (BatchDone a vs) c y e = let h = ap (λ (z : List ℕ). get_or z 0 0) e in inl (omega (arith, h), omega (arith, h))
tag_of (ActDone a m n v xs) c y e = let h = ap (λ (z : List ℕ). get_or z 0 0) e in inl (omega (arith, h), omega (arith, h))
tag_of (Checkpoint g t b n k l xs) c y e = let h = ap (λ (z : List ℕ). get_or z 0 0) e in inr (omega (arith, h))

not_empty : (r : Record) → record_bytes r ≢ []
not_empty (Genesis l xs) e = cc
not_empty (BatchInfo a xs ts) e = cc
not_empty (BatchComplete a m x) e = cc
not_empty (BatchCommit a) e = cc
not_empty (ActPrepare a m x) e = cc
not_empty (ActCommit a m c xs) e = cc
not_empty (BatchDone a vs) e = cc
not_empty (ActDone a m c v xs) e = cc
not_empty (Checkpoint g t b c m n xs) e = cc

pub nothing_stops : (bytes : List ℕ) → length bytes ≡ 0 → Stops RecordTexts bytes 0
nothing_stops [] e = stops_here RecordTexts [] some_record (λ f y p h. (refl, λ z. not_empty p.0 (sym p.2 ∙ h ∙ z)))
nothing_stops (b ∷ x) e = absurd (omega (arith, e))

pub no_tag_stops : (b : ℕ) (bytes rest : List ℕ) → bytes ≡ b ∷ rest → b ≢ 1 → b ≢ 2 → b ≢ 3 → b ≢ 4 → b ≢ 5 → b ≢ 6 → b ≢ 7 → b ≢ 8 → b ≢ 16 → Stops RecordTexts bytes (length bytes)
no_tag_stops b bytes rest e n1 n2 n3 n4 n5 n6 n7 n8 n16 =
    let here : Stops RecordTexts (b ∷ rest) (length (b ∷ rest)) = stops_here RecordTexts (b ∷ rest) some_record (λ f y p h. elim (tag_of p.0 b y (sym p.2 ∙ h)) [ inl t ↦ absurd (omega (arith, t, n1, n2, n3, n4, n5, n6, n7, n8)) | inr t ↦ absurd (n16 t) ]) in
    subst (λ (z : List ℕ). Stops RecordTexts z (length z)) (sym e) here
