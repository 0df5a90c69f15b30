-- Whoever is told by the report of a quiet run that it was aborted has its evidence in the events.
use Rattle.std.specs.Prelude.{◌≡◌, refl, ℕ, ◌+◌, ◌==◌, ◌<◌, ◌≤◌, nat_lt, nat_le, Bool, true, false, ◌&&◌, ◌||◌, Option, Some, None, unwrap_or, List, [], ◌∷◌, ◌++◌, length, map}
use Rattle.std.specs.List.{list_any}
use Rattle.std.proofs.Common.{arith, sym, ap, subst, inl, inr, ◌∙◌}
use Rattle.std.proofs.lemmas.Bool.{true≢false, and_from, eqb-true, eq-eqb, or_left, or_right}
use Rattle.snap_base.specs.declared.transactions.State.{State}
use Rattle.snap_base.specs.declared.verdicts.Verdict.{Verdict}
use Rattle.snap_base.specs.declared.verdicts.Verdict.TheVariants as verdicts
use Rattle.protocol.specs.Events.{Event, Abort}
use Rattle.protocol.specs.Facts.{Alone}
use Rattle.protocol.specs.Fixed.{Fixed, Text}
use Rattle.protocol.specs.Numbers.{TransactionsInOnePlace, flat, once_in, one_if, times}
use Rattle.protocol.specs.Parts.{Batch, Machine, Pact}
use Rattle.protocol.specs.Report.{replied, report}
use Rattle.protocol.specs.Runs.{IsRun, opening, reached}
use Rattle.protocol.specs.Verdicts.{taken_along, verdict, verdict_of_act, verdict_of_pact}
use Rattle.protocol.specs.Words.{is_among}
use Rattle.protocol_laws.proofs.first.Times.{times_append}
use Rattle.protocol_theorems.specs.Sizes.{AllFindRoom, SizesHold}
use Rattle.protocol_verdicts.specs.EvidenceSerial.{FailedAt, VerdictsTell}
use Rattle.run_effects.specs.snap_report.Lines.{shown_fields}
use Rattle.audit_words.specs.Audited.{EachLine}
use Rattle.audit_words.specs.Clauses.{IsTakenAlong, Meaning, TellsEvidence, tells_batch_code}
use Rattle.audit_words.specs.Happenings.{seen}
use Rattle.audit_words.specs.Papers.{Actor, End, Kept, Line, Recovered, Reply}
use Rattle.audit_words.specs.Reports.{AllReplied, AnswersStand, CommittedStand, actor_lines, meaning_of, report_lines}
use Rattle.audit_words.specs.Seen.{Cut, Seen}
use Rattle.audit_laws.specs.Acts.{ActsAreSeen}
use Rattle.audit_laws.specs.Names.{NamesAreSeen}
use Rattle.audit_laws.proofs.EvidenceOfActs.{ActTold, act_told, crossed_told, died_told, one_of_both, taken_told, tells_place}
use Rattle.audit_laws.proofs.EvidenceOfBatches.{batch_fails, first_run}
use Rattle.audit_laws.proofs.EvidenceOfPacts.{batch_named, batch_told, covered_by, cut_told, is_of_pact, pact_kind}
use Rattle.audit_laws.proofs.NamesSeen.{Frames}
use Rattle.audit_laws.proofs.Premises.{batch_in_text}
use Rattle.audit_laws.proofs.RepliesOnce.{each_replied, replies_known}
use Rattle.audit_laws.proofs.ReportsShape.{lines_said, said}
use Rattle.audit_laws.proofs.RunsSeen.{any_join}

-- what the laws of the machine, and those of names and of ACTs, say of each run
pub record EvidenceLaws {C : Type 0} (w : Fixed C) : Type 0 where
  pub frames : Frames C
  pub room : (fs : List Event) → IsRun w fs → AllFindRoom w (reached w fs)
  pub names : (fs : List Event) → IsRun w fs → NamesAreSeen w fs
  pub acts : (fs : List Event) → IsRun w fs → ActsAreSeen w fs
  pub once : (fs : List Event) → IsRun w fs → TransactionsInOnePlace w (reached w fs)
  pub sizes : (fs : List Event) → IsRun w fs → SizesHold w (reached w fs)

-- ---- lists

pub mid_among : (n : ℕ) (front : List Pact) (p : Pact) (rest : List Pact) → p.tx ≡ n → is_among n (map (λ q. q.tx) (front ++ p ∷ rest)) ≡ true
mid_among n [] p rest e = or_left (p.tx == n) (is_among n (map (λ (q : Pact). q.tx) rest)) (eq-eqb p.tx n e)
mid_among n (q ∷ front) p rest e = or_right (q.tx == n) (is_among n (map (λ (x : Pact). x.tx) (front ++ p ∷ rest))) (mid_among n front p rest e)

at_most_one : (low high n : ℕ) → once_in low high n ≤ 1
at_most_one low high n = by (nat_le low n && nat_lt n high)
  where
    by : (b : Bool) → one_if b ≤ 1
    by true = omega arith
    by false = omega arith

-- ---- the lines of a report

whatever : (m : Meaning) (w : Text) (s : Seen) (ls front : List Line) (l : Line) → TellsEvidence m w s ls [] l → TellsEvidence m w s ls front l
whatever m w s ls front (Reply n (verdicts.Committed p v)) h = tt
whatever m w s ls front (Reply n (verdicts.Code p c)) h = tt
whatever m w s ls front (Reply n (verdicts.BatchCode k at c)) h = h
whatever m w s ls front (Reply n (verdicts.Cascade k by)) h = h
whatever m w s ls front (Reply n (verdicts.Died a older own)) h = h
whatever m w s ls front (Reply n (verdicts.Order before behind a)) h = h
whatever m w s ls front (Reply n (verdicts.Unsure l)) h = tt
whatever m w s ls front (Actor a fields) h = tt
whatever m w s ls front (End x y z) h = tt
whatever m w s ls front (Kept p v) h = tt
whatever m w s ls front (Recovered x y u c z) h = tt

actors_tell : (m : Meaning) (w : Text) (s : Seen) (ls : List Line) (a : ℕ) (states : List State) (x y z : ℕ) (front : List Line) → EachLine (TellsEvidence m w s ls) front (actor_lines a states ++ End x y z ∷ [])
actors_tell m w s ls a [] x y z front = (tt, tt)
actors_tell m w s ls a (t ∷ states) x y z front = (tt, actors_tell m w s ls (a + 1) states x y z (front ++ Actor a (shown_fields t.0) ∷ []))

lines_tell : {C : Type 0} (m : Meaning) (w : Text) (t : Seen) (ls : List Line) (s : Machine C) (tail : List Line) → ((front : List Line) → EachLine (TellsEvidence m w t ls) front tail)
    → ((n : ℕ) → TellsEvidence m w t ls [] (said s n)) → (ns : List ℕ) (front : List Line) → EachLine (TellsEvidence m w t ls) front (map (said s) ns ++ tail)
lines_tell m w t ls s tail f g [] front = f front
lines_tell m w t ls s tail f g (n ∷ ns) front = (whatever m w t ls front (said s n) (g n), lines_tell m w t ls s tail f g ns (front ++ said s n ∷ []))

said_evidence : (m : Meaning) (w : Text) (t : Seen) (ls : List Line) (n : ℕ) (o : Option Verdict) → ((v : Verdict) → o ≡ Some v → TellsEvidence m w t ls [] (Reply n v)) → TellsEvidence m w t ls [] (Reply n (unwrap_or o (verdicts.Unsure 0)))
said_evidence m w t ls n None f = tt
said_evidence m w t ls n (Some v) f = f v refl

-- who failed is told so
failure_said : {C : Type 0} (s : Machine C) (n k c code : ℕ) (ns : List ℕ) → verdict n s.book s.desk ≡ Some (verdicts.BatchCode (record { 0 = k }) c code) → is_among n ns ≡ true → list_any (tells_batch_code n k) (map (said s) ns) ≡ true
failure_said s n k c code [] e h = absurd (true≢false (sym h))
failure_said s n k c code (m ∷ ns) e h = by (m == n) refl h (failure_said s n k c code ns e)
  where
    by : (b : Bool) → (m == n) ≡ b → (b || is_among n ns) ≡ true → (is_among n ns ≡ true → list_any (tells_batch_code n k) (map (said s) ns) ≡ true) → list_any (tells_batch_code n k) (map (said s) (m ∷ ns)) ≡ true
    by true i h r =
        or_left (tells_batch_code n k (said s m)) (list_any (tells_batch_code n k) (map (said s) ns))
        (subst (λ (j : ℕ). tells_batch_code n k (said s j) ≡ true) (sym (eqb-true m n i))
        (subst (λ (o : Option Verdict). tells_batch_code n k (Reply n (unwrap_or o (verdicts.Unsure 0))) ≡ true) (sym e) (and_from (n == n) (k == k) (eq-eqb n n refl) (eq-eqb k k refl))))
    by false i h r = or_right (tells_batch_code n k (said s m)) (list_any (tells_batch_code n k) (map (said s) ns)) (r h)

-- ---- one reply

module _ {C : Type 0} (w : Fixed C) (finish : C → List State → Alone) (es : List Event) (run : IsRun w es) (a : AnswersStand w es) (r : AllReplied w es) (i : CommittedStand w finish es) (v : VerdictsTell w finish es) (l : EvidenceLaws w) where
  -- the verdict of no PACT
  act_only : (n : ℕ) (u : Verdict) → is_of_pact u ≡ false → tells_place u ≡ false → verdict n (reached w es).book (reached w es).desk ≡ Some u → ActTold (seen w.code.only_reads w.text es).acts (seen w.code.only_reads w.text es).dooms n u
  act_only n u p q e =
      let s = reached w es in
      let t = seen w.code.only_reads w.text es in
      elim (one_of_both (verdict_of_pact s.book.cascades n s.desk.batches) (verdict_of_act n s.book.acts) u e) [
        | inl x ↦ absurd (true≢false (sym (pact_kind s.book.cascades n s.desk.batches u x) ∙ p))
        | inr x ↦ act_told n u t.dooms t.acts s.book.acts (l.names es run).names.tids (l.names es run).names.txs (l.acts es run).reasons q x.1
      ]

  -- who failed with its batch is a transaction of the text
  failed_in_text : (n k c code : ℕ) → FailedAt w finish n k c code es → n < length w.text.txs
  failed_in_text n k c code f =
      let front = (first_run w f.front (Abort k) f.later (opening w) (subst (IsRun w) f.splits run)).0 in
      let s = reached w f.front in
      let x = f.there in
      let named : is_among n (map (λ (p : Pact). p.tx) (x.batch).pacts) ≡ true = ap (λ (ps : List Pact). is_among n (map (λ (p : Pact). p.tx) ps)) x.splits ∙ mid_among n x.front x.pact x.rest x.tx in
      batch_in_text w s n k x.batch (l.once f.front front) (l.sizes f.front front) x.found named

  failure_told : (n k by : ℕ) → verdict n (reached w es).book (reached w es).desk ≡ Some (taken_along k by) → list_any (tells_batch_code by k) (report_lines w es) ≡ true
  failure_told n k by e =
      let s = reached w es in
      let more = report es s in
      let tail = actor_lines 0 more.states ++ End more.committed more.aborted more.batches ∷ [] in
      let x = v.cascade n k by e in
      ap (λ (ls : List Line). list_any (tells_batch_code by k) (ls ++ tail)) (lines_said s (replied es) (replies_known w es run a))
      ∙ (any_join (tells_batch_code by k) (map (said s) (replied es)) tail
      ∙ or_left (list_any (tells_batch_code by k) (map (said s) (replied es))) (list_any (tells_batch_code by k) tail)
      (failure_said s by k x.0 x.1.0 (replied es) x.1.1 (each_replied w es run r.replied by (failed_in_text by k x.0 x.1.0 (v.batch_code by k x.0 x.1.0 x.1.1)))))

  taken_evidence : (n k by : ℕ) → verdict n (reached w es).book (reached w es).desk ≡ Some (taken_along k by) → IsTakenAlong (seen w.code.only_reads w.text es) (report_lines w es) n k by
  taken_evidence n k by e =
      let s = reached w es in
      let t = seen w.code.only_reads w.text es in
      let names = (l.names es run).names in
      record {
        told = failure_told n k by e;
        taken = elim (one_of_both (verdict_of_pact s.book.cascades n s.desk.batches) (verdict_of_act n s.book.acts) (taken_along k by) e) [
          | inl x ↦
              let once : times n (flat (map (λ (b : Batch). map (λ (p : Pact). p.tx) b.pacts) s.desk.batches)) ≤ 1 =
              omega (arith, l.once es run n, at_most_one 0 s.ring.next_tx n, times_append n (flat s.ring.pacts ++ flat s.ring.acts) (flat (map (λ (b : Batch). map (λ (p : Pact). p.tx) b.pacts) s.desk.batches) ++ map (λ y. y.tx) s.book.acts), times_append n (flat (map (λ (b : Batch). map (λ (p : Pact). p.tx) b.pacts) s.desk.batches)) (map (λ y. y.tx) s.book.acts)) in
              let b = batch_told s.book.cascades n s.desk.batches (taken_along k by) once x in
              let c = covered_by _ b.batch (b.pact).pact k by (b.pact).told in
              let f = batch_named n b.batch t.batches s.desk.batches names.bids names.batch_txs b.found in
              inl (
                record {
                  batch = f.0;
                  found = f.1.0;
                  reached = subst (λ (j : ℕ). list_any (λ (y : Cut). (y.first == k) && (nat_le k j && nat_le j y.upto)) t.cuts ≡ true) (sym f.1.1) (cut_told k (b.batch).bid c.cascade t.cuts s.book.cascades names.firsts names.uptos c.is_it c.first);
                },
                λ q. c.other ((b.pact).tx ∙ q),
              )
          | inr x ↦ inr (taken_told t n k by (act_told n (taken_along k by) t.dooms t.acts s.book.acts names.tids names.txs (l.acts es run).reasons refl x.1))
        ];
      }

  reply_evidence : (n : ℕ) (u : Verdict) → verdict n (reached w es).book (reached w es).desk ≡ Some u → TellsEvidence (meaning_of w finish) w.text (seen w.code.only_reads w.text es) (report_lines w es) [] (Reply n u)
  reply_evidence n (verdicts.Committed p z) e = tt
  reply_evidence n (verdicts.Code p z) e = tt
  reply_evidence n (verdicts.BatchCode k c code) e = batch_fails w l.frames finish es n k.0 c code run a r i l.room l.names l.acts (v.batch_code n k.0 c code e)
  reply_evidence n (verdicts.Cascade k by) e = taken_evidence n k.0 by.0 e
  reply_evidence n (verdicts.Died b older own) e = died_told (seen w.code.only_reads w.text es) n b.0 older.0 own.0 (act_only n (verdicts.Died b older own) refl refl e)
  reply_evidence n (verdicts.Order m k b) e = crossed_told (seen w.code.only_reads w.text es) n m.0 k.0 b.0 (act_only n (verdicts.Order m k b) refl refl e)
  reply_evidence n (verdicts.Unsure z) e = tt

  -- ---- all of them

  pub lines_have_evidence : EachLine (TellsEvidence (meaning_of w finish) w.text (seen w.code.only_reads w.text es) (report_lines w es)) [] (report_lines w es)
  lines_have_evidence =
      let s = reached w es in
      let t = seen w.code.only_reads w.text es in
      let m : Meaning = meaning_of w finish in
      let ls = report_lines w es in
      let more = report es s in
      let tail = actor_lines 0 more.states ++ End more.committed more.aborted more.batches ∷ [] in
      subst (λ (zs : List Line). EachLine (TellsEvidence m w.text t ls) [] (zs ++ tail)) (sym (lines_said s (replied es) (replies_known w es run a)))
      (lines_tell m w.text t ls s tail (actors_tell m w.text t ls 0 more.states more.committed more.aborted more.batches) (λ n. said_evidence m w.text t ls n (verdict n s.book s.desk) (λ u e. reply_evidence n u e)) (replied es) [])
