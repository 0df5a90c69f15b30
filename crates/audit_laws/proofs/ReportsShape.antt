-- The report of a run that can't go on has the shape that the second clause asks for.
use Rattle.std.specs.Prelude.{◌≡◌, refl, ℕ, ◌+◌, ◌==◌, not, Bool, true, false, ◌||◌, if◌then◌else◌, Option, Some, None, unwrap_or, List, [], ◌∷◌, ◌++◌, length, map, filter}
use Rattle.std.specs.List.{AllByRecursion}
use Rattle.std.proofs.Common.{arith, sym, ap, subst, ◌∙◌}
use Rattle.std.proofs.lemmas.List.{append-nil, append_assoc, length-append, length-map}
use Rattle.snap_base.specs.declared.transactions.State.{State}
use Rattle.snap_base.specs.declared.verdicts.Verdict.{Verdict}
use Rattle.snap_base.specs.declared.verdicts.Verdict.TheVariants as verdicts
use Rattle.protocol.specs.Events.{Event}
use Rattle.protocol.specs.Fixed.{Fixed}
use Rattle.protocol.specs.Parts.{Machine}
use Rattle.protocol.specs.Report.{Answer, answer, is_committed, replied, report}
use Rattle.protocol.specs.Runs.{reached, IsRun}
use Rattle.protocol.specs.Verdicts.{verdict}
use Rattle.protocol.specs.Words.{holds, is_among, count}
use Rattle.audit_words.specs.Papers.{Line, Reply, Actor, End}
use Rattle.run_effects.specs.snap_report.Lines.{shown_fields}
use Rattle.audit_words.specs.Clauses.{is_unsure, is_answered, tells_commit, tells_other, MayFollow}
use Rattle.audit_words.specs.Audited.{EachLine, HasShape}
use Rattle.audit_words.specs.Reports.{reply_line_of, reply_lines, actor_lines, report_lines, AnswersStand, AllReplied}
use Rattle.audit_laws.proofs.LinesTell.{answered_join}
use Rattle.audit_laws.proofs.RepliesOnce.{NewEach, IsKnown, among_join, replies_new, as_many_replies, replies_known}

-- ---- lists

count_join : {X : Type 0} (p : X → Bool) (xs ys : List X) → count p (xs ++ ys) ≡ count p xs + count p ys
count_join p [] ys = omega arith
count_join p (x ∷ xs) ys = by (p x) (count_join p xs ys)
  where
    by : (b : Bool) → count p (xs ++ ys) ≡ count p xs + count p ys → length (if b then x ∷ filter p (xs ++ ys) else filter p (xs ++ ys)) ≡ length (if b then x ∷ filter p xs else filter p xs) + count p ys
    by true e = omega (arith, e)
    by false e = e

each_join : (P : List Line → Line → Type 0) (ls ms front : List Line) → EachLine P front ls → EachLine P (front ++ ls) ms → EachLine P front (ls ++ ms)
each_join P [] ms front h k = subst (λ z. EachLine P z ms) (append-nil front) k
each_join P (l ∷ ls) ms front h k = (h.0, each_join P ls ms (front ++ l ∷ []) h.1 (subst (λ z. EachLine P z ms) (sym (append_assoc front (l ∷ []) ls)) k))

-- ---- replies

-- the line of a transaction whose verdict is known
abbrev pub said : {C : Type 0} → Machine C → ℕ → Line
said s n = Reply n (unwrap_or (verdict n s.book s.desk) (verdicts.Unsure 0))

line_said : (n : ℕ) (o : Option Verdict) (v : Verdict) → o ≡ Some v → reply_line_of n o ≡ Reply n (unwrap_or o (verdicts.Unsure 0)) ∷ []
line_said n o v e = rw e refl

pub lines_said : {C : Type 0} (s : Machine C) (ns : List ℕ) → AllByRecursion (IsKnown s) ns → reply_lines (map (answer s) ns) ≡ map (said s) ns
lines_said s [] k = refl
lines_said s (n ∷ ns) k = ap (λ ls. ls ++ reply_lines (map (answer s) ns)) (line_said n (verdict n s.book s.desk) (k.0).0 (k.0).1) ∙ ap (λ ls. said s n ∷ ls) (lines_said s ns k.1)

sure : (o : Option Verdict) (v : Verdict) → o ≡ Some v → ((l : ℕ) → o ≡ Some (verdicts.Unsure l) → ⊥) → is_unsure (unwrap_or o (verdicts.Unsure 0)) ≡ false
sure o v e h = subst (λ z. is_unsure (unwrap_or z (verdicts.Unsure 0)) ≡ false) (sym e) (by v e)
  where
    by : (v : Verdict) → o ≡ Some v → is_unsure v ≡ false
    by (verdicts.Unsure l) e = absurd (h l e)
    by _ e = refl

module _ {C : Type 0} (txs actors settled : ℕ) (s : Machine C) (nobody : (n l : ℕ) → verdict n s.book s.desk ≡ Some (verdicts.Unsure l) → ⊥) where
  each_said : (ns seen : List ℕ) (front : List Line) → length front ≡ length seen → ((m : ℕ) → is_answered m front ≡ is_among m seen) → length seen + length ns ≡ txs
      → NewEach txs seen ns → AllByRecursion (IsKnown s) ns → EachLine (MayFollow txs actors settled) front (map (said s) ns)
  each_said [] seen front l a t h k = tt
  each_said (n ∷ ns) seen front l a t h k = (
    (omega (arith, l, t), h.0, sure (verdict n s.book s.desk) (k.0).0 (k.0).1 (nobody n), a n ∙ h.1),
    each_said ns (seen ++ n ∷ []) (front ++ said s n ∷ []) (omega (arith, length-append front (said s n ∷ []), length-append seen (n ∷ []), l))
        (λ m. answered_join m front (said s n ∷ []) ∙ (ap (λ z. z || ((n == m) || false)) (a m) ∙ sym (among_join m seen (n ∷ [])))) (omega (arith, length-append seen (n ∷ []), t)) h.2 k.1,
  )

  each_actor : (states : List State) (a : ℕ) (front : List Line) → length front ≡ txs + a → a + length states ≡ actors → EachLine (MayFollow txs actors settled) front (actor_lines a states)
  each_actor [] a front l t = tt
  each_actor (x ∷ states) a front l t =
      ((l, omega (arith, t)), each_actor states (a + 1) (front ++ Actor a (shown_fields x.0) ∷ []) (omega (arith, length-append front (Actor a (shown_fields x.0) ∷ []), l)) (omega (arith, t)))

-- ---- counts

len_actors : (states : List State) (a : ℕ) → length (actor_lines a states) ≡ length states
len_actors [] a = refl
len_actors (x ∷ states) a = omega (arith, len_actors states (a + 1))

no_commits : (states : List State) (a : ℕ) → count tells_commit (actor_lines a states) ≡ 0
no_commits [] a = refl
no_commits (x ∷ states) a = no_commits states (a + 1)

no_others : (states : List State) (a : ℕ) → count tells_other (actor_lines a states) ≡ 0
no_others [] a = refl
no_others (x ∷ states) a = no_others states (a + 1)

commits_said : {C : Type 0} (s : Machine C) (ns : List ℕ) → AllByRecursion (IsKnown s) ns → count tells_commit (map (said s) ns) ≡ count (λ x. holds is_committed x.verdict) (map (answer s) ns)
commits_said s [] k = refl
commits_said {C} s (n ∷ ns) k = by (verdict n s.book s.desk) (k.0).0 (k.0).1 (commits_said s ns k.1)
  where
    both : (b : Bool) (x : Line) (y : Answer) → count tells_commit (map (said s) ns) ≡ count (λ x. holds is_committed x.verdict) (map (answer s) ns)
        → length (if b then x ∷ filter tells_commit (map (said s) ns) else filter tells_commit (map (said s) ns)) ≡ length (if b then y ∷ filter (λ x. holds is_committed x.verdict) (map (answer s) ns) else filter (λ x. holds is_committed x.verdict) (map (answer s) ns))
    both true x y e = omega (arith, e)
    both false x y e = e

    by : (o : Option Verdict) (v : Verdict) → o ≡ Some v → count tells_commit (map (said s) ns) ≡ count (λ x. holds is_committed x.verdict) (map (answer s) ns)
        → count tells_commit (Reply n (unwrap_or o (verdicts.Unsure 0)) ∷ map (said s) ns) ≡ count (λ x. holds is_committed x.verdict) (record { tx = n; verdict = o } ∷ map (answer s) ns)
    by None v e h = absurd (none v e)
      where
        none : (v : Verdict) → None ≡ Some v → ⊥
        none v e = cc
    by (Some u) v e h = both (is_committed u) (Reply n u) (record { tx = n; verdict = Some u }) h

others_said : {C : Type 0} (s : Machine C) (ns : List ℕ) → AllByRecursion (IsKnown s) ns → count tells_other (map (said s) ns) ≡ count (λ x. not (holds is_committed x.verdict)) (map (answer s) ns)
others_said s [] k = refl
others_said {C} s (n ∷ ns) k = by (verdict n s.book s.desk) (k.0).0 (k.0).1 (others_said s ns k.1)
  where
    both : (b : Bool) (x : Line) (y : Answer) → count tells_other (map (said s) ns) ≡ count (λ x. not (holds is_committed x.verdict)) (map (answer s) ns)
        → length (if b then x ∷ filter tells_other (map (said s) ns) else filter tells_other (map (said s) ns)) ≡ length (if b then y ∷ filter (λ x. not (holds is_committed x.verdict)) (map (answer s) ns) else filter (λ x. not (holds is_committed x.verdict)) (map (answer s) ns))
    both true x y e = omega (arith, e)
    both false x y e = e

    by : (o : Option Verdict) (v : Verdict) → o ≡ Some v → count tells_other (map (said s) ns) ≡ count (λ x. not (holds is_committed x.verdict)) (map (answer s) ns)
        → count tells_other (Reply n (unwrap_or o (verdicts.Unsure 0)) ∷ map (said s) ns) ≡ count (λ x. not (holds is_committed x.verdict)) (record { tx = n; verdict = o } ∷ map (answer s) ns)
    by None v e h = absurd (none v e)
      where
        none : (v : Verdict) → None ≡ Some v → ⊥
        none v e = cc
    by (Some u) v e h = both (not (is_committed u)) (Reply n u) (record { tx = n; verdict = Some u }) h

-- ---- the law

shape_of : {C : Type 0} (w : Fixed C) (es : List Event) (s : Machine C) (states : List State) (ns : List ℕ) (z : ℕ)
    → ((n l : ℕ) → verdict n s.book s.desk ≡ Some (verdicts.Unsure l) → ⊥) → NewEach (length w.text.txs) [] ns → AllByRecursion (IsKnown s) ns → length ns ≡ length w.text.txs → length states ≡ length w.text.opening.states
    → HasShape (length w.text.txs) (length w.text.opening.states) z
    (map (said s) ns ++ (actor_lines 0 states ++ End (count (λ x. holds is_committed x.verdict) (map (answer s) ns)) (count (λ x. not (holds is_committed x.verdict)) (map (answer s) ns)) z ∷ []))
shape_of w es s states ns z nobody new known many cells =
    let txs = length w.text.txs in
    let actors = length w.text.opening.states in
    let replies = map (said s) ns in
    let tellers = actor_lines 0 states in
    let x = count (λ (x : Answer). holds is_committed x.verdict) (map (answer s) ns) in
    let y = count (λ (x : Answer). not (holds is_committed x.verdict)) (map (answer s) ns) in
    let last : MayFollow txs actors z (replies ++ tellers) (End x y z) = (
      omega (arith, length-append replies tellers, length-map ns (said s), len_actors states 0, many, cells),
      sym (omega (arith, count_join tells_commit replies tellers, no_commits states 0, commits_said s ns known)),
      sym (omega (arith, count_join tells_other replies tellers, no_others states 0, others_said s ns known)),
      refl,
    ) in
    record {
      each = each_join (MayFollow txs actors z) replies (tellers ++ End x y z ∷ []) []
          (each_said txs actors z s nobody ns [] [] refl (λ m. refl) (omega (arith, many)) new known)
          (each_join (MayFollow txs actors z) tellers (End x y z ∷ []) replies
          (each_actor txs actors z s nobody states 0 replies (omega (arith, length-map ns (said s), many)) (omega (arith, cells)))
          (last, tt));
      whole = omega (arith, length-append replies (tellers ++ End x y z ∷ []), length-append tellers (End x y z ∷ []), length-map ns (said s), len_actors states 0, many, cells);
    }

pub reports_have_shape : {C : Type 0} (w : Fixed C) (es : List Event) → IsRun w es → AnswersStand w es → AllReplied w es
    → HasShape (length w.text.txs) (length w.text.opening.states) (report es (reached w es)).batches (report_lines w es)
reports_have_shape w es run k r =
    let s = reached w es in
    let known = replies_known w es run k in
    subst (λ (ls : List Line). HasShape (length w.text.txs) (length w.text.opening.states) (report es s).batches (ls ++ (actor_lines 0 (report es s).states ++ End (report es s).committed (report es s).aborted (report es s).batches ∷ [])))
    (sym (lines_said s (replied es) known))
    (shape_of w es s (report es s).states (replied es) (report es s).batches k.sure (replies_new w es run) known (as_many_replies w es run r.replied) (length-map s.cells (λ c. c.state) ∙ r.cells))
