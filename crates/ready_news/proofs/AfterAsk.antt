-- After an ask nothing is new of ACTs but the leaving of those that are given up: the one that asked has no result, and of the
-- others nothing changes but that before numbers rise.
use Rattle.std.specs.Prelude.{◌≡◌, refl, ℕ, ◌≤◌, ◌==◌, nat_le, max, not, Bool, true, false, ◌&&◌, ◌||◌, if◌then◌else◌, is_some, unwrap_or, Option, Some, None, List, [], ◌∷◌, ◌++◌, map}
use Rattle.std.proofs.Common.{arith, sym, ap, subst, inl, inr, ◌∙◌}
use Rattle.std.proofs.lemmas.Bool.{true≢false, false≢true, and_parts, or_cases, or_left, or_right, eqb-true, leb-true, le-leb, cases_Bool}
use Rattle.aml_slice.specs.Controls.{Rest}
use Rattle.snap_base.specs.declared.verdicts.Verdict.{Verdict}
use Rattle.protocol.specs.Conditions.{IsAllowed, conditions, awaits_decision, awaits_seal, awaits_vouch, gives_value, may_leave}
use Rattle.protocol.specs.Effects.{after}
use Rattle.protocol.specs.Events.{Event, Arrive, Ask, Prepare, Vouch, Decide, Seal, Finish}
use Rattle.protocol.specs.Fixed.{Fixed, base}
use Rattle.protocol.specs.Numbers.{times}
use Rattle.protocol.specs.OnBook.{asked_acts, change_if, changed_act, doomed_by, joins, new_pairs}
use Rattle.protocol.specs.Parts.{Act, Book, Doomed, Machine}
use Rattle.protocol.specs.Rivals.{Lock}
use Rattle.protocol.specs.Spread.{raised, is_crossed, crossed_out}
use Rattle.protocol.specs.Verdicts.{died, out_of_order}
use Rattle.protocol.specs.Words.{holds, act_of, joined_of, is_value, is_failure, is_live_status, is_doomed, is_decided, is_sealed, is_live_act, is_vouched_everywhere}
use Rattle.protocol_laws.proofs.first.Statuses.{value_some}
use Rattle.protocol_records.proofs.recording.RecordsTold.{holds_weaker}
use Rattle.protocol_ready.proofs.TouchedListed.{no}
use Rattle.ready_news.specs.New.{is_new}
use Rattle.ready_news.proofs.AfterRuns.{Holding}
use Rattle.ready_news.proofs.Asking.{group_at, older_at}
use Rattle.ready_news.proofs.BookBefore.{is_out, is_over}
use Rattle.ready_news.proofs.InBook.{Besides, OnlyLeaving, Ruled, are_out, out_prepares, out_vouches, out_decides, out_seals}
use Rattle.ready_news.proofs.InPost.{holds_back, raised_back, changed_back}
use Rattle.ready_news.proofs.PostTold.{asks_of}

-- ---- who goes on with something has begun

-- it ended, or is given up
abbrev pub has_begun : Book → ℕ → Bool
has_begun b t = holds (λ x. is_some x.result || is_doomed x.status) (act_of t b.acts)

-- what holds of one that has not begun
pub record Unbegun (b : Book) : Type 0 where
  pub decided : (t : ℕ) → has_begun b t ≡ false → awaits_seal t b.acts ≡ false
  pub sealed : (t : ℕ) → has_begun b t ≡ false → holds (λ x. is_sealed x.status) (act_of t b.acts) ≡ false
  pub vouched : (t : ℕ) → has_begun b t ≡ false → (a : ℕ) → awaits_vouch t a b.acts ≡ false

module _ (b : Book) (u : Unbegun b) (t : ℕ) where
  begun_where : (p : Bool) → p ≡ true → (has_begun b t ≡ false → p ≡ false) → has_begun b t ≡ true
  begun_where p h f = elim (cases_Bool (has_begun b t)) [ inl y ↦ y | inr n ↦ absurd (true≢false (sym h ∙ f n)) ]

  decides_begun : awaits_decision t b.acts ≡ true → has_begun b t ≡ true
  decides_begun h = holds_weaker (λ x. is_some x.result && is_live_status x.status) (λ x. is_some x.result || is_doomed x.status) (act_of t b.acts) (λ x q. or_left (is_some x.result) (is_doomed x.status) (and_parts (is_some x.result) (is_live_status x.status) q).0) h

  prepares_begun : gives_value t b.acts ≡ true → has_begun b t ≡ true
  prepares_begun h = holds_weaker (λ x. is_value x.result && not (is_doomed x.status)) (λ x. is_some x.result || is_doomed x.status) (act_of t b.acts) (λ x q. or_left (is_some x.result) (is_doomed x.status) (value_some x.result (and_parts (is_value x.result) (not (is_doomed x.status)) q).0)) h

  seals_begun : awaits_seal t b.acts ≡ true → has_begun b t ≡ true
  seals_begun h = begun_where (awaits_seal t b.acts) h (u.decided t)

  vouches_begun : (a : ℕ) → awaits_vouch t a b.acts ≡ true → has_begun b t ≡ true
  vouches_begun a h = begun_where (awaits_vouch t a b.acts) h (λ n. u.vouched t n a)

  doomed_begun : (o : Option Act) → holds (λ x. is_doomed x.status || is_sealed x.status) o ≡ true → (holds (λ x. is_some x.result || is_doomed x.status) o ≡ false → holds (λ x. is_sealed x.status) o ≡ false) → holds (λ x. is_some x.result || is_doomed x.status) o ≡ true
  doomed_begun None h f = absurd (false≢true h)
  doomed_begun (Some x) h f =
      elim (or_cases (is_doomed x.status) (is_sealed x.status) h) [
        | inl d ↦ or_right (is_some x.result) (is_doomed x.status) d
        | inr s ↦ elim (cases_Bool (is_some x.result || is_doomed x.status)) [ inl y ↦ y | inr n ↦ absurd (true≢false (sym s ∙ f n)) ]
      ]

  leaves_begun : may_leave t b.acts ≡ true → has_begun b t ≡ true
  leaves_begun h = doomed_begun (act_of t b.acts) h (u.sealed t)

-- ---- the other ACTs

others_same : (u t : ℕ) (f : Act → Act) → ((x : Act) → (f x).tid ≡ x.tid) → (u == t) ≡ false → (xs : List Act) → act_of t (changed_act u f xs) ≡ act_of t xs
others_same u t f tid other [] = refl
others_same u t f tid other (x ∷ xs) = by (x.tid == u) refl (others_same u t f tid other xs)
  where
    by : (c : Bool) → (x.tid == u) ≡ c → act_of t (changed_act u f xs) ≡ act_of t xs → act_of t (change_if c f x ∷ changed_act u f xs) ≡ act_of t (x ∷ xs)
    by true e r =
        let none : (x.tid == t) ≡ false = ap (λ n. n == t) (eqb-true x.tid u e) ∙ other in
        let past : ((f x).tid == t) ≡ false = ap (λ n. n == t) (tid x) ∙ none in
        rw past (rw none r)
    by false e r = ap (λ o. if x.tid == t then Some x else o) r

-- a test that nobody passes who is given up
crossed_undone : (p : Act → Bool) → ((x : Act) (v : Verdict) → p (record x { status = Doomed v }) ≡ true → ⊥) → (a : ℕ) (x : Act) → p (crossed_out a x) ≡ true → p x ≡ true
crossed_undone p none a x h = by (is_crossed x) h
  where
    by : (b : Bool) → p (record x { status = if b then Doomed (out_of_order x.m (unwrap_or x.n 0) a) else x.status }) ≡ true → p x ≡ true
    by true g = absurd (none x (out_of_order x.m (unwrap_or x.n 0) a) g)
    by false g = g

module _ (p : Act → Bool) (crossed : (a : ℕ) (x : Act) → p (crossed_out a x) ≡ true → p x ≡ true) (risen : (x : Act) (k : ℕ) → p (record x { m = max x.m k }) ≡ true → p x ≡ true) where
  other_back : (older : Option ℕ) (group : List Lock) (u a m t : ℕ) (b : Book) → (u == t) ≡ false → holds p (act_of t (asked_acts older group u a m b)) ≡ true → holds p (act_of t b.acts) ≡ true
  other_back (Some older) group u a m t b other h = subst (λ o. holds p o ≡ true) (others_same u t (doomed_by (died a older u)) (λ x. refl) other b.acts) h
  other_back None group u a m t b other h =
      let pairs = b.pairs ++ new_pairs u a group b.acts in
      let joined = changed_act u (joins a m) b.acts in
      subst (λ o. holds p o ≡ true) (others_same u t (joins a m) (λ x. refl) other b.acts)
      (raised_back p risen pairs t joined (holds_back p (λ x. x.tid == t) (crossed_out a) (λ x. refl) (crossed a) (raised pairs joined) h))

-- ---- a result

result_back : (older : Option ℕ) (group : List Lock) (u a m t : ℕ) (b : Book) → holds (λ x. is_some x.result) (act_of t (asked_acts older group u a m b)) ≡ true → holds (λ x. is_some x.result) (act_of t b.acts) ≡ true
result_back (Some older) group u a m t b h = changed_back (λ x. is_some x.result) u (doomed_by (died a older u)) (λ x. refl) (λ x g. g) t b.acts h
result_back None group u a m t b h =
    let pairs = b.pairs ++ new_pairs u a group b.acts in
    let joined = changed_act u (joins a m) b.acts in
    changed_back (λ x. is_some x.result) u (joins a m) (λ x. refl) (λ x g. g) t b.acts
    (raised_back (λ x. is_some x.result) (λ x k g. g) pairs t joined (holds_back (λ x. is_some x.result) (λ x. x.tid == t) (crossed_out a) (λ x. refl) (λ x g. g) (raised pairs joined) h))

unbegun : (o : Option Act) → (holds (λ x. is_some x.result) o ≡ true → ⊥) → (holds is_out o ≡ true → ⊥) → holds (λ x. is_some x.result || is_doomed x.status) o ≡ true → ⊥
unbegun None none stays h = no h
unbegun (Some x) none stays h = elim (or_cases (is_some x.result) (is_doomed x.status) h) [ inl r ↦ none r | inr d ↦ stays d ]

-- ---- what is allowed of the others could have been

low_back : (m k n : ℕ) → nat_le (max m k) n ≡ true → nat_le m n ≡ true
low_back m k n h = le-leb m n (omega (arith, leb-true (max m k) n h))

module _ (w : Fixed Rest) (u a : ℕ) (s : Machine Rest) (t : ℕ) (other : (u == t) ≡ false) where
  prepare_back : (c : ℕ) → IsAllowed w (Prepare t c) (after w (Ask u a) s) → IsAllowed w (Prepare t c) s
  unfolding conditions after
  prepare_back c h = (
    other_back (λ x. is_value x.result && not (is_doomed x.status)) (crossed_undone (λ x. is_value x.result && not (is_doomed x.status)) (λ x v g. no (and_parts (is_value x.result) false g).1)) (λ x k g. g) (older_at u a s) (group_at u a s) u a _ t s.book other h.0,
    (other_back (λ x. holds (λ p. not p.prepared) (joined_of c x)) (λ a x g. g) (λ x k g. g) (older_at u a s) (group_at u a s) u a _ t s.book other h.1.0, tt),
  )

  vouch_back : (c : ℕ) → IsAllowed w (Vouch t c) (after w (Ask u a) s) → IsAllowed w (Vouch t c) s
  unfolding conditions after
  vouch_back c h =
      let p : Act → Bool = λ x. is_live_act x && (not (is_doomed x.status) && holds (λ p. p.prepared && not p.vouched) (joined_of c x)) in (
        other_back p (crossed_undone p (λ x v g. no (and_parts (is_live_act (record x { status = Doomed v })) false g).1)) (λ x k g. g) (older_at u a s) (group_at u a s) u a _ t s.book other h.0,
        h.1,
      )

  decide_back : IsAllowed w (Decide t) (after w (Ask u a) s) → IsAllowed w (Decide t) s
  unfolding conditions after
  decide_back h = (
    other_back (λ x. is_some x.result && is_live_status x.status) (crossed_undone (λ x. is_some x.result && is_live_status x.status) (λ x v g. no (and_parts (is_some x.result) false g).1)) (λ x k g. g) (older_at u a s) (group_at u a s) u a _ t s.book other h.0,
    (
      other_back (λ x. is_failure x.result || is_vouched_everywhere x) (λ a x g. g) (λ x k g. g) (older_at u a s) (group_at u a s) u a _ t s.book other h.1.0,
      (other_back (λ x. nat_le x.m (max s.desk.settled (base w.text))) (λ a x g. g) (λ x k g. low_back x.m k (max s.desk.settled (base w.text)) g) (older_at u a s) (group_at u a s) u a _ t s.book other h.1.1.0, tt),
    ),
  )

  seal_back : IsAllowed w (Seal t) (after w (Ask u a) s) → IsAllowed w (Seal t) s
  unfolding conditions after
  seal_back h = (other_back (λ x. is_decided x.status) (crossed_undone (λ x. is_decided x.status) (λ x v g. no g)) (λ x k g. g) (older_at u a s) (group_at u a s) u a _ t s.book other h.0, h.1)

  -- of one that is not given up
  finish_back : (c : ℕ) → (holds is_out (act_of t (after w (Ask u a) s).book.acts) ≡ true → ⊥) → IsAllowed w (Finish t c) (after w (Ask u a) s) → IsAllowed w (Finish t c) s
  unfolding conditions after
  finish_back c stays h = (
    holds_weaker (λ x. is_sealed x.status) (λ x. is_doomed x.status || is_sealed x.status) (act_of t s.book.acts) (λ x g. or_right (is_doomed x.status) (is_sealed x.status) g)
        (other_back (λ x. is_sealed x.status) (crossed_undone (λ x. is_sealed x.status) (λ x v g. no g)) (λ x k g. g) (older_at u a s) (group_at u a s) u a _ t s.book other (is_over _ stays h.0)),
    (other_back (λ x. holds (λ p. not p.finished) (joined_of c x)) (λ a x g. g) (λ x k g. g) (older_at u a s) (group_at u a s) u a _ t s.book other h.1.0, tt),
  )

-- ---- after an ask

still_unended : (w : Fixed Rest) (u a : ℕ) (s : Machine Rest) → Holding w s → IsAllowed w (Ask u a) s → holds (λ x. is_some x.result) (act_of u (after w (Ask u a) s).book.acts) ≡ true → ⊥
unfolding conditions after
still_unended w u a s before allowed h = before.none u a allowed.0 (result_back (older_at u a s) (group_at u a s) u a _ u s.book h)

module _ (w : Fixed Rest) (u a : ℕ) (s : Machine Rest) (before : Holding w s) (allowed : IsAllowed w (Ask u a) s) (ruled : Ruled) (fresh : Unbegun (after w (Ask u a) s).book) where
  -- of one that has begun and is not given up nothing is new that it could not do before
  nothing_new : (t : ℕ) (f : Event) → is_new w (Ask u a) s f ≡ true → (holds is_out (act_of t (after w (Ask u a) s).book.acts) ≡ true → ⊥) → has_begun (after w (Ask u a) s).book t ≡ true → ((u == t) ≡ false → IsAllowed w f (after w (Ask u a) s) → IsAllowed w f s) → ⊥
  nothing_new t f q stays begun back =
      let g = asks_of w (Ask u a) s ruled in
      elim (cases_Bool (u == t)) [
        | inl e ↦ let same = eqb-true u t e in
            unbegun (act_of t (after w (Ask u a) s).book.acts) (λ r. still_unended w u a s before allowed (subst (λ n. holds (λ x. is_some x.result) (act_of n (after w (Ask u a) s).book.acts) ≡ true) (sym same) r)) stays begun
        | inr n ↦ g.refused f q (back n (g.allowed f q))
      ]

  ask_leaves : OnlyLeaving (is_new w (Ask u a) s) (after w (Ask u a) s).book
  unfolding conditions
  ask_leaves =
      let b = (after w (Ask u a) s).book in
      let g = asks_of w (Ask u a) s ruled in
      record {
        prepare = λ t c q. let h = (g.allowed (Prepare t c) q).0 in nothing_new t (Prepare t c) q (λ o. out_prepares b t o h) (prepares_begun b fresh t h) (λ n. prepare_back w u a s t n c);
        vouch = λ t c q. let h = (g.allowed (Vouch t c) q).0 in nothing_new t (Vouch t c) q (λ o. out_vouches b t o c h) (vouches_begun b fresh t c h) (λ n. vouch_back w u a s t n c);
        decide = λ t q. let h = (g.allowed (Decide t) q).0 in nothing_new t (Decide t) q (λ o. out_decides b t o h) (decides_begun b fresh t h) (λ n. decide_back w u a s t n);
        seal = λ t q. let h = (g.allowed (Seal t) q).0 in nothing_new t (Seal t) q (λ o. out_seals b t o h) (seals_begun b fresh t h) (λ n. seal_back w u a s t n);
        finish = λ t c q. elim (cases_Bool (holds is_out (act_of t b.acts))) [
          | inl o ↦ o
          | inr i ↦ let stays : holds is_out (act_of t b.acts) ≡ true → ⊥ = λ o. true≢false (sym o ∙ i) in
              absurd (nothing_new t (Finish t c) q stays (leaves_begun b fresh t (g.allowed (Finish t c) q).0) (λ n. finish_back w u a s t n c stays))
        ];
      }

pub besides : (w : Fixed Rest) (e : Event) (s : Machine Rest) → Holding w s → ((t : ℕ) → times t (map (λ x. x.tid) (after w e s).book.acts) ≤ 1) → IsAllowed w e s → Ruled → Unbegun (after w e s).book → Besides w e s
besides w (Arrive k a) s before once allowed ruled fresh = are_out w k a s once
besides w (Ask u a) s before once allowed ruled fresh = ask_leaves w u a s before allowed ruled fresh
besides w _ s before once allowed ruled fresh = tt
