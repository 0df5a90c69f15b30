-- What holds of the lines of a report holds of the transactions that they locate; and no transaction is located twice.
use Rattle.std.specs.Prelude.{◌≡◌, ◌≢◌, refl, ℕ, ◌==◌, Bool, true, false, ◌||◌, if◌then◌else◌, List, [], ◌∷◌, ◌++◌, ⊤}
use Rattle.std.specs.List.{AllByRecursion}
use Rattle.std.proofs.Common.{sym, ◌∙◌}
use Rattle.std.proofs.lemmas.Bool.{true≢false, eq-eqb, or_parts}
use Rattle.snap_base.proofs.Lists.{weaker}
use Rattle.snap_base.specs.declared.transactions.TxResult.{TxResult}
use Rattle.snap_base.specs.declared.verdicts.Verdict.{Verdict}
use Rattle.snap_base.specs.declared.verdicts.Verdict.TheVariants as verdicts
use Rattle.protocol.specs.Fixed.{Text}
use Rattle.protocol.specs.History.{Done}
use Rattle.protocol.specs.Chains.{is_place_below, put_by_place, by_place}
use Rattle.protocol_theorems.proofs.order.ByPlace.{all_put, all_sorted}
use Rattle.audit_words.specs.Papers.{Line, Reply, Actor}
use Rattle.audit_words.specs.Clauses.{Meaning, is_answered, MayFollow, located, given_to, given_in, TellsMeaning}
use Rattle.audit_words.specs.Audited.{EachLine}

-- ---- each line

pub all_lines : (P : List Line → Line → Type 0) (Q : Line → Type 0) → ((front : List Line) (l : Line) → P front l → Q l) → (front ls : List Line) → EachLine P front ls → AllByRecursion Q ls
all_lines P Q h front [] e = tt
all_lines P Q h front (l ∷ ls) e = (h front l e.0, all_lines P Q h (front ++ l ∷ []) ls e.1)

pub whatever_before : (m : Meaning) (w : Text) (all front : List Line) (l : Line) → TellsMeaning m w all front l → TellsMeaning m w all [] l
whatever_before m w all front (Reply n (verdicts.Committed q v)) h = h
whatever_before m w all front (Reply n (verdicts.Code q v)) h = h
whatever_before m w all front (Reply n _) h = tt
whatever_before m w all front (Actor a fields) h = h
whatever_before m w all front _ h = tt

-- the transaction gives what it is told
abbrev pub IsGiven : List (ℕ × TxResult) → Done → Type 0
IsGiven gs d = given_to d.tx gs ≡ d.result

pub located_given : (m : Meaning) (w : Text) (all ls : List Line) → AllByRecursion (λ l. TellsMeaning m w all [] l) ls → AllByRecursion (IsGiven (given_in m w all)) (located ls)
located_given m w all [] h = tt
located_given m w all (Reply n (verdicts.Committed q v) ∷ ls) h = (h.0, located_given m w all ls h.1)
located_given m w all (Reply n (verdicts.Code q c) ∷ ls) h = (h.0, located_given m w all ls h.1)
located_given m w all (Reply n _ ∷ ls) h = located_given m w all ls h.1
located_given m w all (_ ∷ ls) h = located_given m w all ls h.1

-- ---- nobody is located twice

pub answered_join : (n : ℕ) (front ls : List Line) → is_answered n (front ++ ls) ≡ (is_answered n front || is_answered n ls)
answered_join n [] ls = refl
answered_join n (Reply m v ∷ front) ls = by (m == n) (answered_join n front ls)
  where
    by : (c : Bool) → is_answered n (front ++ ls) ≡ (is_answered n front || is_answered n ls) → (c || is_answered n (front ++ ls)) ≡ ((c || is_answered n front) || is_answered n ls)
    by true e = refl
    by false e = e
answered_join n (_ ∷ front) ls = answered_join n front ls

-- none of these lines answers it
abbrev pub IsNew : List Line → Done → Type 0
IsNew front d = is_answered d.tx front ≡ false

abbrev pub TxsDiffer : List Done → Type 0
TxsDiffer [] = ⊤
TxsDiffer (d ∷ ds) = AllByRecursion (λ e. d.tx ≢ e.tx) ds × TxsDiffer ds

-- behind one more line: it was new before, and is not of that transaction
still_new : (front : List Line) (l : Line) (d : Done) → IsNew (front ++ l ∷ []) d → IsNew front d
still_new front l d h = (or_parts (is_answered d.tx front) (is_answered d.tx (l ∷ [])) (sym (answered_join d.tx front (l ∷ [])) ∙ h)).0

same : (a b : ℕ) → a ≡ b → ((a == b) || false) ≡ true
same a b e = by (a == b) (eq-eqb a b e)
  where
    by : (c : Bool) → c ≡ true → (c || false) ≡ true
    by true k = refl
    by false k = absurd (true≢false (sym k))

other : (front : List Line) (n : ℕ) (v : Verdict) (d : Done) → IsNew (front ++ Reply n v ∷ []) d → n ≢ d.tx
other front n v d h e = absurd (true≢false (sym (same n d.tx e) ∙ (or_parts (is_answered d.tx front) (is_answered d.tx (Reply n v ∷ [])) (sym (answered_join d.tx front (Reply n v ∷ [])) ∙ h)).1))

pub record Located (front : List Line) (ds : List Done) : Type 0 where
  pub new : AllByRecursion (IsNew front) ds
  pub differ : TxsDiffer ds

one_more : (front : List Line) (n : ℕ) (v : Verdict) (ds : List Done) → (d : Done) → d.tx ≡ n → IsNew front d → Located (front ++ Reply n v ∷ []) ds → Located front (d ∷ ds)
one_more front n v ds d e i k = record {
  new = (i, weaker (IsNew (front ++ Reply n v ∷ [])) (IsNew front) ds (still_new front (Reply n v)) k.new);
  differ = (weaker (IsNew (front ++ Reply n v ∷ [])) (λ x. d.tx ≢ x.tx) ds (λ x h q. other front n v x h (sym e ∙ q)) k.new, k.differ);
}

none_more : (front : List Line) (l : Line) (ds : List Done) → Located (front ++ l ∷ []) ds → Located front ds
none_more front l ds k = record { new = weaker (IsNew (front ++ l ∷ [])) (IsNew front) ds (still_new front l) k.new; differ = k.differ }

pub located_once : (txs actors settled : ℕ) (front ls : List Line) → EachLine (MayFollow txs actors settled) front ls → Located front (located ls)
located_once txs actors settled front [] e = record { new = tt; differ = tt }
located_once txs actors settled front (Reply n (verdicts.Committed q v) ∷ ls) e = one_more front n (verdicts.Committed q v) (located ls) _ refl (e.0).3 (located_once txs actors settled (front ++ Reply n (verdicts.Committed q v) ∷ []) ls e.1)
located_once txs actors settled front (Reply n (verdicts.Code q v) ∷ ls) e = one_more front n (verdicts.Code q v) (located ls) _ refl (e.0).3 (located_once txs actors settled (front ++ Reply n (verdicts.Code q v) ∷ []) ls e.1)
located_once txs actors settled front (Reply n v ∷ ls) e = none_more front (Reply n v) (located ls) (located_once txs actors settled (front ++ Reply n v ∷ []) ls e.1)
located_once txs actors settled front (l ∷ ls) e = none_more front l (located ls) (located_once txs actors settled (front ++ l ∷ []) ls e.1)

-- ---- sorting by place

differ_put : (d : Done) (xs : List Done) → AllByRecursion (λ e. d.tx ≢ e.tx) xs → TxsDiffer xs → TxsDiffer (put_by_place d xs)
differ_put d [] h k = (tt, tt)
differ_put d (x ∷ xs) h k = by (is_place_below d.place x.place) (differ_put d xs h.1 k.1)
  where
    by : (b : Bool) → TxsDiffer (put_by_place d xs) → TxsDiffer (if b then d ∷ x ∷ xs else x ∷ put_by_place d xs)
    by true g = (h, k)
    by false g = (all_put (λ e. x.tx ≢ e.tx) d xs (λ q. h.0 (sym q)) k.0, g)

pub differ_sorted : (ds : List Done) → TxsDiffer ds → TxsDiffer (by_place ds)
differ_sorted [] h = tt
differ_sorted (d ∷ ds) h = differ_put d (by_place ds) (all_sorted (λ e. d.tx ≢ e.tx) ds h.0) (differ_sorted ds h.1)
