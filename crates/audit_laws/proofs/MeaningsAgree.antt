-- Two meanings that agree on the transactions of a text, over as many actors as it has, say the same of its papers.
use Rattle.std.specs.Prelude.{◌≡◌, refl, ℕ, ◌<◌, Bool, true, false, if◌then◌else◌, Some, List, [], ◌∷◌, ◌++◌, length, map, filter}
use Rattle.std.specs.List.{AllByRecursion}
use Rattle.std.proofs.Common.{sym, ap, subst, ◌∙◌}
use Rattle.snap_base.specs.declared.transactions.State.{State}
use Rattle.snap_base.specs.declared.transactions.Tx.{Tx}
use Rattle.snap_base.specs.declared.transactions.TxResult.{TxResult}
use Rattle.snap_base.specs.declared.verdicts.Verdict.TheVariants as verdicts
use Rattle.snap_base.specs.Outcomes.{Alone, Serial}
use Rattle.snap_base.proofs.Lists.{all_filter}
use Rattle.protocol.specs.Chains.{by_place, counts}
use Rattle.protocol.specs.Events.{Event}
use Rattle.protocol.specs.Facts.{state_in}
use Rattle.protocol.specs.Fixed.{Text, tx_at}
use Rattle.protocol.specs.History.{Done}
use Rattle.protocol.specs.OnRing.{Formed}
use Rattle.protocol.specs.Parts.{Pact}
use Rattle.protocol.specs.Words.{is_value}
use Rattle.protocol_theorems.proofs.Lemmas.{all_sorted}
use Rattle.run_effects.specs.snap_report.Lines.{shown_fields}
use Rattle.audit_words.specs.Audited.{Audited, EachLine}
use Rattle.audit_words.specs.Clauses.{FailsItsBatch, FailsLast, Language, MayFollow, Meaning, TellsEvidence, TellsMeaning, given, given_to, located, serial, world_behind, world_left_below, world_left_by}
use Rattle.audit_words.specs.Happenings.{seen}
use Rattle.audit_words.specs.Papers.{Actor, End, Kept, Line, Recovered, Reply}
use Rattle.audit_words.specs.Seen.{Seen, batch_in}

-- ---- who is located is a transaction of the text

pub located_in : (txs actors settled : ℕ) (front ls : List Line) → EachLine (MayFollow txs actors settled) front ls → AllByRecursion (λ d. d.tx < txs) (located ls)
located_in txs actors settled front [] h = tt
located_in txs actors settled front (Reply n (verdicts.Committed p v) ∷ ls) h = ((h.0).1, located_in txs actors settled (front ++ Reply n (verdicts.Committed p v) ∷ []) ls h.1)
located_in txs actors settled front (Reply n (verdicts.Code p c) ∷ ls) h = ((h.0).1, located_in txs actors settled (front ++ Reply n (verdicts.Code p c) ∷ []) ls h.1)
located_in txs actors settled front (Reply n v ∷ ls) h = located_in txs actors settled (front ++ Reply n v ∷ []) ls h.1
located_in txs actors settled front (l ∷ ls) h = located_in txs actors settled (front ++ l ∷ []) ls h.1

-- ---- lines

each_so : (P Q : List Line → Line → Type 0) → ((front : List Line) (l : Line) → P front l → Q front l) → (front ls : List Line) → EachLine P front ls → EachLine Q front ls
each_so P Q f front [] h = tt
each_so P Q f front (l ∷ ls) h = (f front l h.0, each_so P Q f (front ++ l ∷ []) ls h.1)

-- ---- two meanings

-- Over as many actors as the text has, each transaction of the text means the same by both, and leaves as many.
pub record Agree (w : Text) (m n : Meaning) : Type 0 where
  pub same : (world : List State) (i : ℕ) → length world ≡ length w.opening.states → i < length w.txs → m world (tx_at w i) ≡ n world (tx_at w i)
  pub as_many : (world : List State) (i : ℕ) → length world ≡ length w.opening.states → i < length w.txs → length (m world (tx_at w i)).world ≡ length w.opening.states

module _ (w : Text) (m n : Meaning) (g : Agree w m n) where
  left_same : (world : List State) (d : Done) → length world ≡ length w.opening.states → d.tx < length w.txs → world_left_by m w world d ≡ world_left_by n w world d
  left_same world d e h = ap (λ (x : Alone). if is_value d.result then x.world else world) (g.same world d.tx e h)

  left_as_many : (world : List State) (d : Done) → length world ≡ length w.opening.states → d.tx < length w.txs → length (world_left_by m w world d) ≡ length w.opening.states
  left_as_many world d e h = by (is_value d.result)
    where
      by : (b : Bool) → length (if b then (m world (tx_at w d.tx)).world else world) ≡ length w.opening.states
      by true = g.as_many world d.tx e h
      by false = e

  given_same : (world : List State) (ds : List Done) → length world ≡ length w.opening.states → AllByRecursion (λ d. d.tx < length w.txs) ds → given m w world ds ≡ given n w world ds
  given_same world [] e h = refl
  given_same world (d ∷ ds) e h =
      ap (λ (x : Alone). (d.tx, x.result) ∷ given m w (world_left_by m w world d) ds) (g.same world d.tx e h.0)
      ∙ ap (λ (xs : List (ℕ × TxResult)). (d.tx, (n world (tx_at w d.tx)).result) ∷ xs) (given_same (world_left_by m w world d) ds (left_as_many world d e h.0) h.1 ∙ ap (λ (z : List State). given n w z ds) (left_same world d e h.0))

  behind_same : (world : List State) (ds : List Done) → length world ≡ length w.opening.states → AllByRecursion (λ d. d.tx < length w.txs) ds → world_behind m w world ds ≡ world_behind n w world ds
  behind_same world [] e h = refl
  behind_same world (d ∷ ds) e h = behind_same (world_left_by m w world d) ds (left_as_many world d e h.0) h.1 ∙ ap (λ (z : List State). world_behind n w z ds) (left_same world d e h.0)

  -- one after the other, of what names transactions
  serial_same : {X : Type 0} (f : X → ℕ) (world : List State) (xs : List X) → length world ≡ length w.opening.states → AllByRecursion (λ x. f x < length w.txs) xs
      → serial m world (map (λ x. tx_at w (f x)) xs) ≡ serial n world (map (λ x. tx_at w (f x)) xs)
  serial_same f world [] e h = refl
  serial_same {X} f world (x ∷ xs) e h =
      ap (first (m world (tx_at w (f x)))) (serial_same f (m world (tx_at w (f x))).world xs (g.as_many world (f x) e h.0) h.1)
      ∙ ap (λ (a : Alone). first a (serial n a.world (map (λ y. tx_at w (f y)) xs))) (g.same world (f x) e h.0)
    where
      first : Alone → Serial → Serial
      first a s = record { results = a.result ∷ s.results; world = s.world }

  serial_as_many : {X : Type 0} (f : X → ℕ) (world : List State) (xs : List X) → length world ≡ length w.opening.states → AllByRecursion (λ x. f x < length w.txs) xs → length (serial m world (map (λ x. tx_at w (f x)) xs)).world ≡ length w.opening.states
  serial_as_many f world [] e h = e
  serial_as_many f world (x ∷ xs) e h = serial_as_many f (m world (tx_at w (f x))).world xs (g.as_many world (f x) e h.0) h.1

  -- ---- of a report

  module _ (ls : List Line) (ours : AllByRecursion (λ d. d.tx < length w.txs) (located ls)) where
    sorted_ours : AllByRecursion (λ d. d.tx < length w.txs) (by_place (located ls))
    sorted_ours = all_sorted (λ (d : Done). d.tx < length w.txs) (located ls) ours

    meaning_so : (front : List Line) (l : Line) → TellsMeaning m w ls front l → TellsMeaning n w ls front l
    meaning_so front (Reply i (verdicts.Committed p v)) h = sym (ap (given_to i) (given_same w.opening.states (by_place (located ls)) refl sorted_ours)) ∙ h
    meaning_so front (Reply i (verdicts.Code p c)) h = sym (ap (given_to i) (given_same w.opening.states (by_place (located ls)) refl sorted_ours)) ∙ h
    meaning_so front (Reply i (verdicts.BatchCode k at c)) h = tt
    meaning_so front (Reply i (verdicts.Cascade k by)) h = tt
    meaning_so front (Reply i (verdicts.Died a older own)) h = tt
    meaning_so front (Reply i (verdicts.Order before behind a)) h = tt
    meaning_so front (Reply i (verdicts.Unsure l)) h = tt
    meaning_so front (Actor a fields) h = h ∙ ap (λ (z : List State). shown_fields (state_in z a).0) (behind_same w.opening.states (by_place (located ls)) refl sorted_ours)
    meaning_so front (End x y z) h = tt
    meaning_so front (Kept p v) h = tt
    meaning_so front (Recovered x y t k c) h = tt

    below_same : (k c : ℕ) → world_left_below m w k c ls ≡ world_left_below n w k c ls
    below_same k c = ap (λ (s : Serial). s.world) (serial_same (λ (d : Done). d.tx) w.opening.states (filter (counts k c) (by_place (located ls))) refl (all_filter (λ (d : Done). d.tx < length w.txs) (counts k c) (by_place (located ls)) sorted_ours))

    below_as_many : (k c : ℕ) → length (world_left_below m w k c ls) ≡ length w.opening.states
    below_as_many k c = serial_as_many (λ (d : Done). d.tx) w.opening.states (filter (counts k c) (by_place (located ls))) refl (all_filter (λ (d : Done). d.tx < length w.txs) (counts k c) (by_place (located ls)) sorted_ours)

    fails_so : (s : Seen) (i k c code : ℕ) → ((j : ℕ) (b : Formed) → batch_in j s.batches ≡ Some b → AllByRecursion (λ q. q.tx < length w.txs) b.pacts) → FailsItsBatch m w s ls i k c code → FailsItsBatch n w s ls i k c code
    fails_so s i k c code mine h =
        let ps = h.front ++ h.pact ∷ [] in
        let all : AllByRecursion (λ (q : Pact). q.tx < length w.txs) (h.front ++ h.pact ∷ h.rest) = subst (AllByRecursion (λ (q : Pact). q.tx < length w.txs)) h.splits (mine k h.batch h.found) in
        let our : AllByRecursion (λ (q : Pact). q.tx < length w.txs) ps = first_ones h.front h.pact h.rest all in
        record {
          batch = h.batch;
          pact = h.pact;
          front = h.front;
          rest = h.rest;
          aborted = h.aborted;
          found = h.found;
          splits = h.splits;
          tx = h.tx;
          fails = subst (FailsLast code)
              (ap (λ (x : Serial). x.results) (serial_same (λ (q : Pact). q.tx) (world_left_below m w k c ls) ps (below_as_many k c) our) ∙ ap (λ (z : List State). (serial n z (map (λ (q : Pact). tx_at w q.tx) ps)).results) (below_same k c)) h.fails;
        }
      where
        first_ones : (front : List Pact) (p : Pact) (rest : List Pact) → AllByRecursion (λ (q : Pact). q.tx < length w.txs) (front ++ p ∷ rest) → AllByRecursion (λ (q : Pact). q.tx < length w.txs) (front ++ p ∷ [])
        first_ones [] p rest h = (h.0, tt)
        first_ones (q ∷ front) p rest h = (h.0, first_ones front p rest h.1)

    evidence_so : (s : Seen) → ((j : ℕ) (b : Formed) → batch_in j s.batches ≡ Some b → AllByRecursion (λ q. q.tx < length w.txs) b.pacts) → (front : List Line) (l : Line) → TellsEvidence m w s ls front l → TellsEvidence n w s ls front l
    evidence_so s mine front (Reply i (verdicts.Committed p v)) h = tt
    evidence_so s mine front (Reply i (verdicts.Code p c)) h = tt
    evidence_so s mine front (Reply i (verdicts.BatchCode k at c)) h = fails_so s i k.0 at c mine h
    evidence_so s mine front (Reply i (verdicts.Cascade k by)) h = h
    evidence_so s mine front (Reply i (verdicts.Died a older own)) h = h
    evidence_so s mine front (Reply i (verdicts.Order before behind a)) h = h
    evidence_so s mine front (Reply i (verdicts.Unsure l)) h = tt
    evidence_so s mine front (Actor a fields) h = tt
    evidence_so s mine front (End x y z) h = tt
    evidence_so s mine front (Kept p v) h = tt
    evidence_so s mine front (Recovered x y t k c) h = tt

-- ---- of papers

-- a language with this meaning
abbrev pub with_meaning : Meaning → (Tx → Bool) → Language
with_meaning m reads = record { meaning = m; reads = reads }

-- Papers in order by one of them are so by the other, where each PACT that the events tell is a transaction of the text.
pub audited_so : (w : Text) (m n : Meaning) (reads : Tx → Bool) (es : List Event) (ls : List Line) → Agree w m n → ((j : ℕ) (b : Formed) → batch_in j (seen reads w es).batches ≡ Some b → AllByRecursion (λ q. q.tx < length w.txs) b.pacts)
    → Audited (with_meaning m reads) w es ls → Audited (with_meaning n reads) w es ls
audited_so w m n reads es ls g mine h =
    let ours = located_in (length w.txs) (length w.opening.states) (length (seen reads w es).settled) [] ls (h.shape).each in
    record {
      numbered = h.numbered;
      shape = h.shape;
      places = h.places;
      meaning = each_so (TellsMeaning m w ls) (TellsMeaning n w ls) ((meaning_so w m n g) ls ours) [] ls h.meaning;
      order = h.order;
      evidence = each_so (TellsEvidence m w (seen reads w es) ls) (TellsEvidence n w (seen reads w es) ls) ((evidence_so w m n g) ls ours (seen reads w es) mine) [] ls h.evidence;
    }
