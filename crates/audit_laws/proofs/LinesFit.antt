-- Each line of a report that is in order, of a program's text over states, is of a form, where the numbers of its verdicts are in range.
use Rattle.std.specs.Prelude.{◌≡◌, refl, ℕ, ◌+◌, ◌<◌, ◌≤◌, ◌==◌, ◌^◌, ℤ, Bool, true, false, if◌then◌else◌, FitsSigned, Some, List, [], ◌∷◌, ◌++◌, length, map, filter, ⊤}
use Rattle.std.specs.List.{AllByRecursion}
use Rattle.std.specs.Int.{w64}
use Rattle.std.proofs.Common.{arith, sym, subst}
use Rattle.std.proofs.lemmas.Bool.{true≢false}
use Rattle.snap_base.specs.States.{IsState}
use Rattle.snap_base.specs.declared.transactions.State.{State}
use Rattle.snap_base.specs.declared.transactions.TheConstants.{FIELDS}
use Rattle.snap_base.specs.declared.transactions.Tx.{Tx}
use Rattle.snap_base.specs.declared.transactions.TxResult.{TxResult}
use Rattle.snap_base.specs.declared.transactions.TxResult.TheVariants.{Value, Fail}
use Rattle.snap_base.specs.declared.verdicts.Verdict.TheVariants as verdicts
use Rattle.snap_base.proofs.Lists.{all_get, all_last, both_all, weaker}
use Rattle.snap_base.proofs.Options.{none_is_some, same_some}
use Rattle.aml_slice.specs.aml_check.Closed.{IsClosedProgram}
use Rattle.aml_slice.specs.aml_check.Meaning.{alone}
use Rattle.aml_slice.specs.aml_check.Transactions.{IsTransaction}
use Rattle.aml_slice.specs.aml_tree.Tree.{CheckedMethod}
use Rattle.protocol.specs.Chains.{by_place, counts}
use Rattle.protocol.specs.Events.{Event}
use Rattle.protocol.specs.Facts.{state_in}
use Rattle.protocol.specs.Fixed.{Text, no_state, no_tx, tx_at}
use Rattle.protocol.specs.History.{Done}
use Rattle.protocol.specs.Parts.{Pact}
use Rattle.protocol.specs.Words.{count, is_value}
use Rattle.run_effects.proofs.ValuesFit.{AllFit, noughts_fit}
use Rattle.run_effects.specs.snap_report.Lines.{is_zero, onto_shown, shown_fields, without_last_zeros}
use Rattle.audit_words.specs.Audited.{Audited}
use Rattle.audit_words.specs.Clauses.{FailsItsBatch, MayFollow, Meaning, TellsEvidence, TellsMeaning, given, given_in, given_to, is_unsure, last_world, located, serial, tells_commit, tells_other, world_behind, world_left_below, world_left_by}
use Rattle.audit_words.specs.Happenings.{seen}
use Rattle.audit_words.specs.Papers.{Actor, End, IsWellFormedLine, Kept, Line, Recovered, Reply}
use Rattle.audit_words.specs.Seen.{Seen}
use Rattle.audit_laws.specs.Fits.{AreInRange}
use Rattle.audit_words.specs.Inputs.{language_of_methods}
use Rattle.audit_laws.proofs.LanguageFits.{AloneFits, AreStates, IsResult, alone_fits}
use Rattle.audit_laws.proofs.LinesTell.{all_lines, whatever_before}

-- ---- fields that are shown

behind_shown : (P : ℤ → Type 0) (zs : List ℤ) → AllByRecursion P zs → (length (without_last_zeros zs) ≤ length zs) × AllByRecursion P (without_last_zeros zs)
behind_shown P [] h = (omega arith, tt)
behind_shown P (z ∷ zs) h = let k = behind_shown P zs h.1 in by (without_last_zeros zs) k.0 k.1
  where
    one : (b : Bool) → (length (if b then [] else z ∷ []) ≤ length (z ∷ zs)) × AllByRecursion P (if b then [] else z ∷ [])
    one true = (omega arith, tt)
    one false = (omega arith, (h.0, tt))

    by : (ys : List ℤ) → length ys ≤ length zs → AllByRecursion P ys → (length (onto_shown z ys) ≤ length (z ∷ zs)) × AllByRecursion P (onto_shown z ys)
    by [] l a = one (is_zero z)
    by (y ∷ ys) l a = (omega (arith, l), (h.0, a))

record Shown (P : ℤ → Type 0) (most : ℕ) (fields : List ℤ) : Type 0 where
  some : 1 ≤ length fields
  few : length fields ≤ most
  each : AllByRecursion P fields

shown : (P : ℤ → Type 0) (most : ℕ) (zs : List ℤ) → length zs ≡ most → 1 ≤ most → AllByRecursion P zs → Shown P most (shown_fields zs)
shown P most [] e l h = absurd (omega (arith, e, l))
shown P most (z ∷ zs) e l h = let k = behind_shown P zs h.1 in record { some = omega arith; few = omega (arith, k.0, e); each = (h.0, k.1) }

-- ---- what is given

given_result : (n : ℕ) (r : TxResult) (gs : List (ℕ × TxResult)) → AllByRecursion (λ (x : ℕ × TxResult). IsResult x.1) gs → given_to n gs ≡ Some r → IsResult r
given_result n r [] h e = absurd (none_is_some r e)
given_result n r (x ∷ gs) h e = by (x.0 == n) e (given_result n r gs h.1)
  where
    by : (b : Bool) → (if b then Some x.1 else given_to n gs) ≡ Some r → (given_to n gs ≡ Some r → IsResult r) → IsResult r
    by true e k = subst IsResult (same_some x.1 r e) h.0
    by false e k = k e

no_state_is : IsState no_state
no_state_is = record { len = refl; fields = noughts_fit 16 }

pub arguments_fit : (p : List CheckedMethod) (actors : ℕ) (txs : List Tx) → AllByRecursion (IsTransaction p actors) txs → AllByRecursion (λ tx. AllFit tx.args) txs
arguments_fit p actors txs h = weaker (IsTransaction p actors) (λ (tx : Tx). AllFit tx.args) txs (λ tx k. k.values) h

module _ (p : List CheckedMethod) (w : Text) (closed : IsClosedProgram p) (arguments : AllByRecursion (λ tx. AllFit tx.args) w.txs) where
  one_fits : (world : List State) (i : ℕ) → AreStates world → AloneFits (alone p world (tx_at w i))
  one_fits world i h = alone_fits p world (tx_at w i) closed (all_get (λ (tx : Tx). AllFit tx.args) w.txs i no_tx tt arguments) h

  left_fits : (world : List State) (d : Done) → AreStates world → AreStates (world_left_by (language_of_methods p).meaning w world d)
  left_fits world d h = by (is_value d.result)
    where
      by : (b : Bool) → AreStates (if b then (alone p world (tx_at w d.tx)).world else world)
      by true = (one_fits world d.tx h).states
      by false = h

  all_given : (world : List State) (ds : List Done) → AreStates world → AllByRecursion (λ (x : ℕ × TxResult). IsResult x.1) (given (language_of_methods p).meaning w world ds)
  all_given world [] h = tt
  all_given world (d ∷ ds) h = ((one_fits world d.tx h).is_result, all_given (world_left_by (language_of_methods p).meaning w world d) ds (left_fits world d h))

  behind_fits : (world : List State) (ds : List Done) → AreStates world → AreStates (world_behind (language_of_methods p).meaning w world ds)
  behind_fits world [] h = h
  behind_fits world (d ∷ ds) h = behind_fits (world_left_by (language_of_methods p).meaning w world d) ds (left_fits world d h)

  serial_results : {X : Type 0} (f : X → ℕ) (world : List State) (xs : List X) → AreStates world → AllByRecursion IsResult (serial (language_of_methods p).meaning world (map (λ x. tx_at w (f x)) xs)).results
  serial_results f world [] h = tt
  serial_results f world (x ∷ xs) h = let k = one_fits world (f x) h in (k.is_result, serial_results f (alone p world (tx_at w (f x))).world xs k.states)

  serial_states : {X : Type 0} (f : X → ℕ) (world : List State) (xs : List X) → AreStates world → AreStates (serial (language_of_methods p).meaning world (map (λ x. tx_at w (f x)) xs)).world
  serial_states f world [] h = h
  serial_states f world (x ∷ xs) h = serial_states f (alone p world (tx_at w (f x))).world xs (one_fits world (f x) h).states

  -- a batch's failure has a code
  failing_code : (s : Seen) (ls : List Line) (n k c code : ℕ) → AreStates w.opening.states → FailsItsBatch (language_of_methods p).meaning w s ls n k c code → code < 2 ^ 16
  failing_code s ls n k c code h f =
      let below = serial_states (λ (d : Done). d.tx) w.opening.states (filter (counts k c) (by_place (located ls))) h in
      let results = serial_results (λ (q : Pact). q.tx) (world_left_below (language_of_methods p).meaning w k c ls) (f.front ++ f.pact ∷ []) below in
      all_last IsResult (f.fails).values (Fail code) (subst (AllByRecursion IsResult) (f.fails).splits results)

-- ---- lines

-- what the shape tells of a line alone
abbrev Stands : ℕ → ℕ → ℕ → Line → Type 0
Stands txs actors settled (Reply n v) = (n < txs) × (is_unsure v ≡ false)
Stands txs actors settled (Actor a fields) = a < actors
Stands txs actors settled (End x y z) = (x ≤ txs + actors) × (y ≤ txs + actors) × (z ≡ settled)
Stands txs actors settled (Kept p v) = ⊥
Stands txs actors settled (Recovered x y t k c) = ⊥

count_most : {X : Type 0} (test : X → Bool) (xs : List X) → count test xs ≤ length xs
count_most test [] = omega arith
count_most test (x ∷ xs) = by (test x) (count_most test xs)
  where
    by : (b : Bool) → count test xs ≤ length xs → length (if b then x ∷ filter test xs else filter test xs) ≤ length (x ∷ xs)
    by true h = omega (arith, h)
    by false h = omega (arith, h)

stands : (txs actors settled : ℕ) (front : List Line) (l : Line) → MayFollow txs actors settled front l → Stands txs actors settled l
stands txs actors settled front (Reply n v) h = (h.1, h.2)
stands txs actors settled front (Actor a fields) h = h.1
stands txs actors settled front (End x y z) h = (omega (arith, h.0, h.1, count_most tells_commit front), omega (arith, h.0, h.2, count_most tells_other front), h.3)
stands txs actors settled front (Kept p v) h = h
stands txs actors settled front (Recovered x y t k c) h = h

-- the verdict of a reply is in range
abbrev pub ReplyInRange : Line → Type 0
ReplyInRange (Reply n v) = AreInRange v
ReplyInRange _ = ⊤

any_front : (m : Meaning) (w : Text) (s : Seen) (ls front : List Line) (l : Line) → TellsEvidence m w s ls front l → TellsEvidence m w s ls [] l
any_front m w s ls front (Reply n (verdicts.Committed p v)) h = tt
any_front m w s ls front (Reply n (verdicts.Code p c)) h = tt
any_front m w s ls front (Reply n (verdicts.BatchCode k at c)) h = h
any_front m w s ls front (Reply n (verdicts.Cascade k by)) h = h
any_front m w s ls front (Reply n (verdicts.Died a older own)) h = h
any_front m w s ls front (Reply n (verdicts.Order before behind a)) h = h
any_front m w s ls front (Reply n (verdicts.Unsure l)) h = tt
any_front m w s ls front (Actor a fields) h = tt
any_front m w s ls front (End x y z) h = tt
any_front m w s ls front (Kept p v) h = tt
any_front m w s ls front (Recovered x y u c z) h = tt

module _ (p : List CheckedMethod) (w : Text) (closed : IsClosedProgram p) (arguments : AllByRecursion (λ tx. AllFit tx.args) w.txs) (opens : AreStates w.opening.states) (s : Seen) (ls : List Line) (settled : ℕ)
    (few_txs : length w.txs ≤ 20000) (few_actors : length w.opening.states ≤ 256) (few_settled : settled < 2 ^ 64) where
  given_fits : (n : ℕ) (r : TxResult) → given_to n (given_in (language_of_methods p).meaning w ls) ≡ Some r → IsResult r
  given_fits n r e = given_result n r (given_in (language_of_methods p).meaning w ls) ((all_given p w closed arguments) w.opening.states (by_place (located ls)) opens) e

  fields_fit : (a : ℕ) → Shown (FitsSigned w64) FIELDS (shown_fields (state_in (last_world (language_of_methods p).meaning w ls) a).0)
  fields_fit a =
      let is = all_get IsState (last_world (language_of_methods p).meaning w ls) a no_state no_state_is ((behind_fits p w closed arguments) w.opening.states (by_place (located ls)) opens).each in
      shown (FitsSigned w64) FIELDS (state_in (last_world (language_of_methods p).meaning w ls) a).0 is.len (omega arith) is.fields

  form_of : (l : Line) → Stands (length w.txs) (length w.opening.states) settled l → ReplyInRange l → TellsMeaning (language_of_methods p).meaning w ls [] l → TellsEvidence (language_of_methods p).meaning w s ls [] l → IsWellFormedLine l
  form_of (Reply n (verdicts.Committed q v)) h r m e = (omega (arith, h.0, few_txs), (r, given_fits n (Value v) m))
  form_of (Reply n (verdicts.Code q c)) h r m e = (omega (arith, h.0, few_txs), (r, given_fits n (Fail c) m))
  form_of (Reply n (verdicts.BatchCode k at c)) h r m e = (omega (arith, h.0, few_txs), (r.0, r.1, (failing_code p w closed arguments) s ls n k.0 at c opens e))
  form_of (Reply n (verdicts.Cascade k by)) h r m e = (omega (arith, h.0, few_txs), r)
  form_of (Reply n (verdicts.Died a older own)) h r m e = (omega (arith, h.0, few_txs), r)
  form_of (Reply n (verdicts.Order before behind a)) h r m e = (omega (arith, h.0, few_txs), r)
  form_of (Reply n (verdicts.Unsure l)) h r m e = absurd (true≢false h.1)
  form_of (Actor a fields) h r m e =
      let k = subst (Shown (FitsSigned w64) FIELDS) (sym m) (fields_fit a) in
      (omega (arith, h, few_actors), k.some, k.few, k.each)
  form_of (End x y z) h r m e = (omega (arith, h.0, few_txs, few_actors), omega (arith, h.1, few_txs, few_actors), omega (arith, h.2, few_settled))
  form_of (Kept q v) h r m e = absurd h
  form_of (Recovered x y t k c) h r m e = absurd h

-- of papers in order
pub lines_fit : (p : List CheckedMethod) (w : Text) (es : List Event) (ls : List Line) → IsClosedProgram p → AllByRecursion (λ tx. AllFit tx.args) w.txs → AreStates w.opening.states → length w.txs ≤ 20000 → length w.opening.states ≤ 256
    → length (seen (language_of_methods p).reads w es).settled < 2 ^ 64 → AllByRecursion ReplyInRange ls → Audited (language_of_methods p) w es ls → AllByRecursion IsWellFormedLine ls
lines_fit p w es ls closed arguments opens few_txs few_actors few_settled range h =
    let s = seen (language_of_methods p).reads w es in
    let m : Meaning = (language_of_methods p).meaning in
    let settled = length s.settled in
    let one = all_lines (MayFollow (length w.txs) (length w.opening.states) settled) (Stands (length w.txs) (length w.opening.states) settled) (stands (length w.txs) (length w.opening.states) settled) [] ls (h.shape).each in
    let two = all_lines (TellsMeaning m w ls) (λ l. TellsMeaning m w ls [] l) (whatever_before m w ls) [] ls h.meaning in
    let three = all_lines (TellsEvidence m w s ls) (λ l. TellsEvidence m w s ls [] l) (any_front m w s ls) [] ls h.evidence in
    both_all (λ l. Stands (length w.txs) (length w.opening.states) settled l × ReplyInRange l) (λ l. TellsMeaning m w ls [] l × TellsEvidence m w s ls [] l) IsWellFormedLine ls
    (λ l x y. (form_of p w closed arguments opens s ls settled few_txs few_actors few_settled) l x.0 x.1 y.0 y.1)
    (both_all (Stands (length w.txs) (length w.opening.states) settled) ReplyInRange (λ l. Stands (length w.txs) (length w.opening.states) settled l × ReplyInRange l) ls (λ l x y. (x, y)) one range)
    (both_all (λ l. TellsMeaning m w ls [] l) (λ l. TellsEvidence m w s ls [] l) (λ l. TellsMeaning m w ls [] l × TellsEvidence m w s ls [] l) ls (λ l x y. (x, y)) two three)
