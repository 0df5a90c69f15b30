-- The ACTs that wait are transactions of the text, so that of each that begins it is known whether it only reads.
use Rattle.std.specs.Prelude.{◌≡◌, refl, ℕ, zero, suc, ◌%◌, ◌<◌, not, Bool, true, false, if◌then◌else◌, List, [], ◌∷◌, ◌++◌, drop, length, map, replicate, slice_index_or}
use Rattle.std.specs.List.{AllByRecursion}
use Rattle.std.proofs.Common.{arith, sym, ap, ◌∙◌}
use Rattle.std.proofs.lemmas.Bool.{true≢false, ltb-true}
use Rattle.snap_base.proofs.Booleans.{second_true}
use Rattle.snap_base.proofs.Lists.{all_drop, all_get, all_push, all_set}
use Rattle.snap_base.specs.declared.transactions.Tx.{Tx}
use Rattle.protocol.specs.Conditions.{AllTrue, lacks_acts, queue}
use Rattle.protocol.specs.Events.{Event, Submit, Admit}
use Rattle.protocol.specs.Fixed.{Text, is_pact, no_tx, tx_at}
use Rattle.protocol.specs.OnPost.{next_act}
use Rattle.protocol.specs.OnRing.{joined_at, submitted}
use Rattle.protocol.specs.Parts.{Ring}
use Rattle.protocol.specs.Words.{is_empty}
use Rattle.audit_words.specs.Audited.{ring_conditions}
use Rattle.audit_words.specs.Happenings.{ring_after}
use Rattle.audit_words.specs.Seen.{first_ring}
use Rattle.audit_tale.specs.Settings.{AreOfText}

-- ---- the mark of a transaction of the text

marked : (f : Tx → Bool) (n : ℕ) (xs : List Tx) → n < length xs → slice_index_or (map f xs) n false ≡ f (slice_index_or xs n no_tx)
marked f n [] l = absurd (omega (arith, l))
marked f zero (x ∷ xs) l = refl
marked f (suc n) (x ∷ xs) l = marked f n xs (omega (arith, l))

-- the first of those that wait
first_of_text : (n : ℕ) (ns : List ℕ) → not (is_empty ns) ≡ true → AllByRecursion (λ m. m < n) ns → slice_index_or ns 0 0 < n
first_of_text n [] e h = absurd (true≢false (sym e))
first_of_text n (m ∷ ns) e h = h.0

pub reader_known : (f : Tx → Bool) (marks : List Bool) (w : Text) (r : Ring) → marks ≡ map f w.txs → AreOfText w r → not (lacks_acts r) ≡ true → slice_index_or marks (next_act r) false ≡ f (tx_at w (next_act r))
reader_known f marks w r e h k =
    ap (λ (bs : List Bool). slice_index_or bs (next_act r) false) e
    ∙ marked f (next_act r) w.txs (first_of_text (length w.txs) (queue r.acts r.holder) k (all_get (AllByRecursion (λ n. n < length w.txs)) r.acts r.holder [] tt h))

-- ---- along the events that meet the first clause

of_text_submit : (w : Text) (n : ℕ) (r : Ring) → n < length w.txs → AreOfText w r → AreOfText w (submitted w n r)
of_text_submit w n r l h = by (is_pact (tx_at w n))
  where
    by : (b : Bool) → AllByRecursion (AllByRecursion (λ m. m < length w.txs)) (if b then r.acts else joined_at (n % w.coordinators) n r.acts)
    by true = h
    by false = all_set (AllByRecursion (λ m. m < length w.txs)) r.acts (n % w.coordinators) (queue r.acts (n % w.coordinators) ++ n ∷ []) (all_push (λ m. m < length w.txs) (queue r.acts (n % w.coordinators)) n (all_get (AllByRecursion (λ m. m < length w.txs)) r.acts (n % w.coordinators) [] tt h) l) h

pub of_text_on : (w : Text) (e : Event) (r : Ring) → AllTrue (ring_conditions w e r) → AreOfText w r → AreOfText w (ring_after w e r)
unfolding ring_after
of_text_on w (Submit n) r m h = of_text_submit w n r (ltb-true n (length w.txs) (second_true _ _ m.0)) h
of_text_on w (Admit t) r m h = all_set (AllByRecursion (λ n. n < length w.txs)) r.acts r.holder (drop 1 (queue r.acts r.holder)) (all_drop (λ n. n < length w.txs) 1 (queue r.acts r.holder) (all_get (AllByRecursion (λ n. n < length w.txs)) r.acts r.holder [] tt h)) h
of_text_on w _ r m h = h

none_wait : (w : Text) (many : ℕ) → AllByRecursion (AllByRecursion (λ n. n < length w.txs)) (replicate many [])
none_wait w zero = tt
none_wait w (suc many) = (tt, none_wait w many)

pub of_text_first : (w : Text) → AreOfText w (first_ring w)
of_text_first w = none_wait w w.coordinators
