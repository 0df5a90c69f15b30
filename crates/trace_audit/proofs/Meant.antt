-- What the run by places tells of each line is what the fourth clause asks of it.
use Rattle.std.specs.Prelude.{◌≡◌, ℕ, ◌<◌, Option, Some, None, MatchOption, List, [], ◌∷◌, ◌++◌, length, slice_index_or}
use Rattle.std.specs.List.{AllByRecursion}
use Rattle.std.proofs.Common.{sym, ap, subst, ◌∙◌}
use Rattle.snap_base.proofs.Lists.{all_front, all_mid}
use Rattle.snap_base.specs.declared.transactions.State.{State}
use Rattle.snap_base.specs.declared.transactions.TxResult.{TxResult}
use Rattle.snap_base.specs.declared.verdicts.Verdict.TheVariants as verdicts
use Rattle.snap_report.specs.Lines.{shown_fields}
use Rattle.protocol.specs.Chains.{by_place}
use Rattle.protocol.specs.Facts.{state_in}
use Rattle.protocol.specs.Fixed.{Text}
use Rattle.audit_words.specs.Audited.{EachLine, HasShape, IsFirstOff}
use Rattle.audit_words.specs.Clauses.{Meaning, MayFollow, TellsMeaning, given_in, given_to, last_world, located}
use Rattle.audit_words.specs.Papers.{Line, Reply, Actor}
use Rattle.trace_audit.proofs.RunAlong.{read_there}
use Rattle.trace_audit.specs.Meanings.{NamesTransaction, NameTransactions, TellsWalk, Walked}

-- ---- a clause in other words

each_as : (P Q : List Line → Line → Type 0) (R : Line → Type 0) → ((front : List Line) (l : Line) → R l → P front l → Q front l) → (front ls : List Line) → AllByRecursion R ls → EachLine P front ls → EachLine Q front ls
each_as P Q R to front [] all each = tt
each_as P Q R to front (l ∷ ls) all each = (to front l all.0 each.0, each_as P Q R to (front ++ l ∷ []) ls all.1 each.1)

-- of lines of which R holds, P says what Q says
pub clause_as : (P Q : List Line → Line → Type 0) (R : Line → Type 0) → ((front : List Line) (l : Line) → R l → P front l → Q front l) → ((front : List Line) (l : Line) → R l → Q front l → P front l)
    → (ls : List Line) (at : Option ℕ) → AllByRecursion R ls → MatchOption at (EachLine P [] ls) (λ i. IsFirstOff P ls i) → MatchOption at (EachLine Q [] ls) (λ i. IsFirstOff Q ls i)
clause_as P Q R to back ls None all h = each_as P Q R to [] ls all h
clause_as P Q R to back ls (Some i) all h =
    let parts : AllByRecursion R (h.front ++ h.line ∷ h.rest) = subst (AllByRecursion R) h.splits all in
    record {
      front = h.front;
      line = h.line;
      rest = h.rest;
      splits = h.splits;
      number = h.number;
      before = each_as P Q R to [] h.front (all_front R h.front (h.line ∷ h.rest) parts) h.before;
      off = λ q. h.off (back h.front h.line (all_mid R h.line h.front h.rest parts) q);
    }

-- ---- a line

result_there : (m : Meaning) (w : Text) (ls : List Line) (results : List (Option TxResult)) (world : List State) (n : ℕ) → Walked m w (by_place (located ls)) results world → n < length results
    → slice_index_or results n None ≡ given_to n (given_in m w ls)
result_there m w ls results world n k h = read_there results n (given_to n (given_in m w ls)) (k.each n (subst (λ (l : ℕ). n < l) k.many h))

fields_there : (m : Meaning) (w : Text) (ls : List Line) (results : List (Option TxResult)) (world : List State) (a : ℕ) → Walked m w (by_place (located ls)) results world
    → shown_fields (state_in world a).0 ≡ shown_fields (state_in (last_world m w ls) a).0
fields_there m w ls results world a k = ap (λ (ss : List State). shown_fields (state_in ss a).0) k.left

shown_as_meant : (m : Meaning) (w : Text) (ls : List Line) (results : List (Option TxResult)) (world : List State) → Walked m w (by_place (located ls)) results world
    → (front : List Line) (l : Line) → NamesTransaction (length results) l → TellsWalk results world front l → TellsMeaning m w ls front l
shown_as_meant m w ls results world k front (Reply n (verdicts.Committed q v)) h s = sym (result_there m w ls results world n k h) ∙ s
shown_as_meant m w ls results world k front (Reply n (verdicts.Code q code)) h s = sym (result_there m w ls results world n k h) ∙ s
shown_as_meant m w ls results world k front (Reply n _) h s = tt
shown_as_meant m w ls results world k front (Actor a fields) h s = s ∙ fields_there m w ls results world a k
shown_as_meant m w ls results world k front _ h s = tt

meant_as_shown : (m : Meaning) (w : Text) (ls : List Line) (results : List (Option TxResult)) (world : List State) → Walked m w (by_place (located ls)) results world
    → (front : List Line) (l : Line) → NamesTransaction (length results) l → TellsMeaning m w ls front l → TellsWalk results world front l
meant_as_shown m w ls results world k front (Reply n (verdicts.Committed q v)) h s = result_there m w ls results world n k h ∙ s
meant_as_shown m w ls results world k front (Reply n (verdicts.Code q code)) h s = result_there m w ls results world n k h ∙ s
meant_as_shown m w ls results world k front (Reply n _) h s = tt
meant_as_shown m w ls results world k front (Actor a fields) h s = s ∙ sym (fields_there m w ls results world a k)
meant_as_shown m w ls results world k front _ h s = tt

-- what the run by places tells of all lines
pub meant_by_walk : (m : Meaning) (w : Text) (ls : List Line) (results : List (Option TxResult)) (world : List State) (at : Option ℕ) → Walked m w (by_place (located ls)) results world → NameTransactions (length results) ls
    → MatchOption at (EachLine (TellsWalk results world) [] ls) (λ i. IsFirstOff (TellsWalk results world) ls i) → MatchOption at (EachLine (TellsMeaning m w ls) [] ls) (λ i. IsFirstOff (TellsMeaning m w ls) ls i)
meant_by_walk m w ls results world at k named h =
    clause_as (TellsWalk results world) (TellsMeaning m w ls) (NamesTransaction (length results)) (shown_as_meant m w ls results world k) (meant_as_shown m w ls results world k) ls at named h

-- ---- what the shape of a report gives

follows_names : (txs actors settled : ℕ) (front : List Line) (l : Line) → MayFollow txs actors settled front l → NamesTransaction txs l
follows_names txs actors settled front (Reply n v) h = h.1
follows_names txs actors settled front _ h = tt

each_names : (txs actors settled : ℕ) (front ls : List Line) → EachLine (MayFollow txs actors settled) front ls → NameTransactions txs ls
each_names txs actors settled front [] h = tt
each_names txs actors settled front (l ∷ ls) h = (follows_names txs actors settled front l h.0, each_names txs actors settled (front ++ l ∷ []) ls h.1)

-- where the second clause holds, each reply is to a transaction of the text
pub shape_names : (txs actors settled : ℕ) (ls : List Line) → HasShape txs actors settled ls → NameTransactions txs ls
shape_names txs actors settled ls h = each_names txs actors settled [] ls h.each
