-- A commit that was read before a call is taken by its second round, where each round takes as many as it may.
use Rattle.std.specs.Prelude.{◌≡◌, refl, ℕ, zero, suc, ◌%◌, Bool, true, false, ◌||◌, if◌then◌else◌, Some, List, [], ◌∷◌, length, take}
use Rattle.std.specs.List.{list_any}
use Rattle.std.proofs.Common.{arith, sym, ap, subst, inl, inr, ◌∙◌}
use Rattle.std.proofs.lemmas.Bool.{true≢false, or_cases, or_left, or_right, eq-eqb}
use Rattle.snap_base.specs.declared.transactions.Tx.{Tx}
use Rattle.snap_base.specs.declared.transactions.State.{State}
use Rattle.protocol.specs.Facts.{Alone, state_in}
use Rattle.protocol.specs.Fixed.{Fixed}
use Rattle.protocol.specs.Records.{is_commit, is_act_commit}
use Rattle.protocol.specs.Parts.{Who, OfBatch, OfAct}
use Rattle.protocol.specs.Events.{Event}
use Rattle.protocol.specs.Effects.{log_at}
use Rattle.protocol.specs.Runs.{IsRun, reached}
use Rattle.protocol.specs.Moments.{left_in}
use Rattle.protocol.specs.Rests.{IsRest, IsTxIn}
use Rattle.protocol_laws.proofs.machine.Good.{Given}
use Rattle.protocol_records.specs.Crash.{is_in}
use Rattle.followed_runs.specs.Following.{Reading, what_is_read, IsLater, MayTake, Round, read_before, SeenIsShown}
use Rattle.followed_runs.proofs.Seen.{Seen, NoLess, seen_stays, is_less, at_log, seen_at, of_reading, in_more}
use Rattle.followed_runs.proofs.SeenChanged.{told_in_cut}
use Rattle.followed_runs.proofs.RoundsStand.{no_events, reads_nothing}

-- the log of its commit record
abbrev pub commit_log : ℕ → Who → ℕ
commit_log many (OfBatch k) = k % many
commit_log many (OfAct t) = t % many

-- what is read of that log is in the cut there
in_own_cut : {C : Type 0} (w : Fixed C) (es : List Event) (r : Reading w es) (z : Who) → is_in w.text.logs (what_is_read r) z ≡ true → is_in w.text.logs (left_in (reached w (r.events (commit_log w.text.logs z))) (at_log r (commit_log w.text.logs z))) z ≡ true
unfolding at_log
in_own_cut w es r (OfBatch k) i = subst (λ b. list_any (is_commit k) (take (if b then r.count (k % w.text.logs) else (log_at (reached w (r.events (k % w.text.logs))) (k % w.text.logs)).synced) (log_at (reached w (r.events (k % w.text.logs))) (k % w.text.logs)).records) ≡ true) (sym (eq-eqb (k % w.text.logs) (k % w.text.logs) refl)) i
in_own_cut w es r (OfAct u) i = subst (λ b. list_any (is_act_commit u) (take (if b then r.count (u % w.text.logs) else (log_at (reached w (r.events (u % w.text.logs))) (u % w.text.logs)).synced) (log_at (reached w (r.events (u % w.text.logs))) (u % w.text.logs)).records) ≡ true) (sym (eq-eqb (u % w.text.logs) (u % w.text.logs) refl)) i

to_before : {C : Type 0} (w : Fixed C) (es : List Event) (q : Reading w es) (z : Who) → is_in w.text.logs (what_is_read q) z ≡ true → is_in w.text.logs (read_before (Some q)) z ≡ true
to_before w es q (OfBatch k) e = e
to_before w es q (OfAct t) e = e

-- the members, and all whose commit records were there at the moment at which this log was read
abbrev with_cut : {C : Type 0} (w : Fixed C) (es : List Event) (r : Reading w es) (n : ℕ) → (Who → Bool) → Who → Bool
with_cut w es r n members v = members v || is_in w.text.logs (left_in (reached w (r.events n)) (at_log r n)) v

-- With the cut of a moment before a call the second round may take them all.
may_take : {C : Type 0} (w : Fixed C) (Of : Tx → C → Type 0) (finish : C → List State → Alone) (es : List Event) (r : Reading w es) (x y : Round w es) (n : ℕ) → Given w Of finish → IsRun w es → IsLater r x.reading → IsLater x.reading y.reading
    → MayTake w.text.logs (state_in w.text.opening.states) x.members (read_before (Some x.reading)) (what_is_read y.reading) (with_cut w es r n x.members)
unfolding NoLess seen_at seen_stays
may_take {C} w Of finish es r x y n v run before next = record {
  stay = λ u i. or_left (x.members u) _ i;
  seen = λ u i f. to_before w es x.reading u (let s = seen u (in_cut u i f) in in_more w.text.logs (left_in (reached w (r.events n)) (at_log r n)) (what_is_read x.reading) u s.within (in_cut u i f));
  rest_on = λ u z i f ahead iz. or_right (x.members z) _ (told_in_cut w Of finish es (what_is_read y.reading) ahead.0 u z (of_reading w Of finish es y.reading v run) (seen_stays w es (what_is_read x.reading) (what_is_read y.reading) u (is_less w es x.reading y.reading run next) (seen u (in_cut u i f))) iz ahead.1);
}
  where
    in_cut : (u : Who) → with_cut w es r n x.members u ≡ true → x.members u ≡ false → is_in w.text.logs (left_in (reached w (r.events n)) (at_log r n)) u ≡ true
    in_cut u i f = elim (or_cases (x.members u) (is_in w.text.logs (left_in (reached w (r.events n)) (at_log r n)) u) i) [ inl q ↦ absurd (true≢false (sym q ∙ f)) | inr q ↦ q ]

    seen : (u : Who) → is_in w.text.logs (left_in (reached w (r.events n)) (at_log r n)) u ≡ true → Seen w es (what_is_read x.reading) u
    seen u i = seen_at w es r x.reading n u run before i

-- where there is no actor nothing is read
none_read : {C : Type 0} (w : Fixed C) (es : List Event) (r : Reading w es) (z : Who) → es ≡ [] → is_in w.text.logs (what_is_read r) z ≡ true → ⊥
none_read w [] r (OfBatch k) e i = true≢false (sym i ∙ ap (list_any (is_commit k)) (reads_nothing w r (k % w.text.logs)))
none_read w [] r (OfAct t) e i = true≢false (sym i ∙ ap (list_any (is_act_commit t)) (reads_nothing w r (t % w.text.logs)))
none_read w (x ∷ es) r z e i = absurd (cc e)

pub seen_is_shown : {C : Type 0} → SeenIsShown C
seen_is_shown {C} w finish es earlier x y f text run later t z i = by (length w.text.opening.states) refl
  where
    by : (n : ℕ) → length w.text.opening.states ≡ n → y.members z ≡ true
    by zero e = absurd (none_read w es earlier z (no_events w es text e run) i)
    by (suc n) e =
        t.1.0.1.greatest (with_cut w es earlier (commit_log w.text.logs z) x.members)
        (may_take w (IsRest w.code (IsTxIn w.text)) finish es earlier x y (commit_log w.text.logs z) (record { text = text; actors = omega (arith, e); facts = f }) run later t.1.0.0) z
        (or_right (x.members z) _ (in_own_cut w es earlier z i))
