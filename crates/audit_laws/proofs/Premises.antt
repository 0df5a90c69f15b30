-- What the pieces ask of a run, from the laws of the machine.
use Rattle.std.specs.Prelude.{◌≡◌, refl, ℕ, ◌<◌, ◌≤◌, ◌==◌, nat_lt, nat_le, Bool, true, false, ◌&&◌, ◌||◌, ◌⊎◌, if◌then◌else◌, Option, Some, is_some, List, [], ◌∷◌, ◌++◌, length, map, filter}
use Rattle.std.specs.List.{AllByRecursion, list_any}
use Rattle.std.proofs.Common.{arith, sym, subst, inl, inr, ◌∙◌}
use Rattle.std.proofs.lemmas.Bool.{true≢false, eq-eqb, ltb-true, or_left, or_right}
use Rattle.snap_base.proofs.Options.{none_is_some, same_some}
use Rattle.snap_base.specs.declared.transactions.State.{State}
use Rattle.snap_base.specs.declared.transactions.TxResult.{TxResult}
use Rattle.snap_base.specs.declared.transactions.TxResult.TheVariants.{Value, Fail}
use Rattle.snap_base.specs.declared.verdicts.Place.{Place}
use Rattle.snap_base.specs.declared.verdicts.Verdict.TheVariants as verdicts
use Rattle.protocol.specs.Events.{Event}
use Rattle.protocol.specs.Facts.{Alone}
use Rattle.protocol.specs.Fixed.{Fixed}
use Rattle.protocol.specs.Parts.{Act, Batch, Pact, Machine}
use Rattle.protocol.specs.Words.{act_of, batch_of, is_among}
use Rattle.protocol.specs.Numbers.{flat, one_if, times, txs_in, TransactionsInOnePlace}
use Rattle.protocol.specs.History.{Done, history}
use Rattle.protocol.specs.Chains.{by_place}
use Rattle.protocol.specs.Report.{replied}
use Rattle.protocol.specs.Runs.{IsQuiet, IsRun, reached}
use Rattle.protocol_laws.specs.Told.{IsAmongDone}
use Rattle.protocol_theorems.specs.Order.{OrderHolds}
use Rattle.protocol_theorems.specs.Quiet.{AnsweredWhenQuiet}
use Rattle.protocol_theorems.specs.Sizes.{SizesHold}
use Rattle.protocol_verdicts.specs.Evidence.{VerdictsStand}
use Rattle.protocol_verdicts.specs.EvidenceSerial.{IsCommittedAct, IsCommittedPact, VerdictsTell}
use Rattle.audit_words.specs.Reports.{AllReplied, AnswersStand, CommittedStand, IsDoneAt}
use Rattle.audit_laws.proofs.RepliesOnce.{among_join, each_replied}
use Rattle.audit_laws.proofs.SortedSame.{IsIn, all_in, in_sorted}

pub answers_stand : {C : Type 0} (w : Fixed C) (finish : C → List State → Alone) (es : List Event) → VerdictsStand w finish es → AnswersStand w es
answers_stand w finish es v = record { stay = v.stay; sure = λ n l e. ((v.evidence n (verdicts.Unsure l)).0 e).gives }

pub all_replied : {C : Type 0} (w : Fixed C) (finish : C → List State → Alone) (es : List Event) → IsQuiet w (reached w es) → AnsweredWhenQuiet w finish (reached w es) (history w es) → SizesHold w (reached w es) → AllReplied w es
all_replied w finish es q a z = record { replied = (a q).0.replied; cells = z.cells }

among : (n : ℕ) (p : Place) (r : TxResult) (ds : List Done) → IsAmongDone n p r ds → IsDoneAt n p r ds
among n p r ds k = record { done = k.done; front = k.front; rest = k.rest; splits = k.splits; tx = k.tx; place = k.place; result = k.result }

-- ---- each has a result

all_ended : (rs : List TxResult) (ds : List Done) → map Some rs ≡ map (λ d. d.result) ds → AllByRecursion (λ d. is_some d.result ≡ true) ds
all_ended rs [] e = tt
all_ended [] (d ∷ ds) e = absurd (cc e)
all_ended (r ∷ rs) (d ∷ ds) e =
    let first : Some r ≡ d.result = cc e in
    let rest : map Some rs ≡ map (λ (x : Done). x.result) ds = cc e in
    (subst (λ (o : Option TxResult). is_some o ≡ true) first refl, all_ended rs ds rest)

all_of : (P : Done → Type 0) (ds : List Done) → ((d : Done) → IsIn d ds → P d) → AllByRecursion P ds
all_of P [] f = tt
all_of P (d ∷ ds) f = (f d (inl refl), all_of P ds (λ x i. f x (inr i)))

-- ---- each is a transaction of the text

pub once_there : (n : ℕ) (xs : List ℕ) → is_among n xs ≡ true → 1 ≤ times n xs
once_there n [] h = absurd (true≢false (sym h))
once_there n (x ∷ xs) h = by (x == n) h (once_there n xs)
  where
    by : (b : Bool) → (b || is_among n xs) ≡ true → (is_among n xs ≡ true → 1 ≤ times n xs) → 1 ≤ length (if b then x ∷ filter (λ y. y == n) xs else filter (λ y. y == n) xs)
    by true k more = omega arith
    by false k more = more k

pub among_left : (n : ℕ) (xs ys : List ℕ) → is_among n xs ≡ true → is_among n (xs ++ ys) ≡ true
among_left n xs ys h = among_join n xs ys ∙ or_left (is_among n xs) (is_among n ys) h

pub among_right : (n : ℕ) (xs ys : List ℕ) → is_among n ys ≡ true → is_among n (xs ++ ys) ≡ true
among_right n xs ys h = among_join n xs ys ∙ or_right (is_among n xs) (is_among n ys) h

itself : (n : ℕ) (b : Bool) → ((n == n) || b) ≡ true
itself n b = or_left (n == n) b (eq-eqb n n refl)

act_there : (t : ℕ) (x : Act) (acts : List Act) → act_of t acts ≡ Some x → is_among x.tx (map (λ y. y.tx) acts) ≡ true
act_there t x [] e = absurd (none_is_some x e)
act_there t x (y ∷ acts) e = by (y.tid == t) e (act_there t x acts)
  where
    by : (c : Bool) → (if c then Some y else act_of t acts) ≡ Some x → (act_of t acts ≡ Some x → is_among x.tx (map (λ z. z.tx) acts) ≡ true) → ((y.tx == x.tx) || is_among x.tx (map (λ z. z.tx) acts)) ≡ true
    by true e more = subst (λ (z : Act). ((z.tx == x.tx) || is_among x.tx (map (λ u. u.tx) acts)) ≡ true) (sym (same_some y x e)) (itself x.tx (is_among x.tx (map (λ u. u.tx) acts)))
    by false e more = or_right (y.tx == x.tx) _ (more e)

pact_there : (t n : ℕ) (ps : List Pact) → list_any (λ p. (p.tid == t) && (p.tx == n)) ps ≡ true → is_among n (map (λ p. p.tx) ps) ≡ true
pact_there t n [] h = absurd (true≢false (sym h))
pact_there t n (p ∷ ps) h = by (p.tid == t) (p.tx == n) h (pact_there t n ps)
  where
    by : (a b : Bool) → ((a && b) || list_any (λ q. (q.tid == t) && (q.tx == n)) ps) ≡ true → (list_any (λ q. (q.tid == t) && (q.tx == n)) ps ≡ true → is_among n (map (λ q. q.tx) ps) ≡ true) → (b || is_among n (map (λ q. q.tx) ps)) ≡ true
    by a true k more = refl
    by true false k more = more k
    by false false k more = more k

batch_there : (k n : ℕ) (b : Batch) (bs : List Batch) → batch_of k bs ≡ Some b → is_among n (map (λ p. p.tx) b.pacts) ≡ true → is_among n (flat (map (λ c. map (λ p. p.tx) c.pacts) bs)) ≡ true
batch_there k n b [] e h = absurd (none_is_some b e)
batch_there k n b (c ∷ bs) e h = by (c.bid == k) e (λ q. batch_there k n b bs q h)
  where
    by : (d : Bool) → (if d then Some c else batch_of k bs) ≡ Some b → (batch_of k bs ≡ Some b → is_among n (flat (map (λ u. map (λ p. p.tx) u.pacts) bs)) ≡ true) → is_among n (map (λ p. p.tx) c.pacts ++ flat (map (λ u. map (λ p. p.tx) u.pacts) bs)) ≡ true
    by true e more = among_left n (map (λ p. p.tx) c.pacts) _ (subst (λ (z : Batch). is_among n (map (λ p. p.tx) z.pacts) ≡ true) (sym (same_some c b e)) h)
    by false e more = among_right n (map (λ p. p.tx) c.pacts) _ (more e)

in_text : {C : Type 0} (w : Fixed C) (s : Machine C) (n : ℕ) → TransactionsInOnePlace w s → SizesHold w s → is_among n (txs_in s) ≡ true → n < length w.text.txs
in_text w s n once z h = below (nat_lt n s.ring.next_tx) refl
  where
    below : (b : Bool) → nat_lt n s.ring.next_tx ≡ b → n < length w.text.txs
    below true e = omega (arith, ltb-true n s.ring.next_tx e, z.next_tx)
    below false e = absurd (omega (arith, once_there n (txs_in s) h, once n, none (nat_le 0 n) (nat_lt n s.ring.next_tx) e))
      where
        none : (a b : Bool) → b ≡ false → one_if (a && b) ≡ 0
        none true true e = absurd (true≢false e)
        none true false e = refl
        none false b e = refl

-- a transaction of a batch of the desk
pub batch_in_text : {C : Type 0} (w : Fixed C) (s : Machine C) (n k : ℕ) (b : Batch) → TransactionsInOnePlace w s → SizesHold w s → batch_of k s.desk.batches ≡ Some b → is_among n (map (λ p. p.tx) b.pacts) ≡ true → n < length w.text.txs
batch_in_text w s n k b once z found named =
    in_text w s n once z (among_right n (flat s.ring.pacts ++ flat s.ring.acts) _ (among_left n (flat (map (λ (c : Batch). map (λ (p : Pact). p.tx) c.pacts) s.desk.batches)) (map (λ x. x.tx) s.book.acts) (batch_there k n b s.desk.batches found named)))

done_in_text : {C : Type 0} (w : Fixed C) (s : Machine C) (d : Done) → TransactionsInOnePlace w s → SizesHold w s → IsCommittedPact s d ⊎ IsCommittedAct s d → d.tx < length w.text.txs
done_in_text w s d once z (inl p) = batch_in_text w s d.tx d.place.batch.0 p.batch once z p.found (pact_there d.place.order d.tx p.batch.pacts p.names)
done_in_text w s d once z (inr a) =
    subst (λ (n : ℕ). n < length w.text.txs) (sym a.tx)
    (in_text w s (a.act).tx once z (among_right (a.act).tx (flat s.ring.pacts ++ flat s.ring.acts) _ (among_right (a.act).tx (flat (map (λ b. map (λ p. p.tx) b.pacts) s.desk.batches)) _ (act_there a.tid a.act s.book.acts a.found))))

-- ---- in all

pub committed_stand : {C : Type 0} (w : Fixed C) (finish : C → List State → Alone) (es : List Event) → IsRun w es → IsQuiet w (reached w es) → OrderHolds w finish (reached w es) (history w es) → AllReplied w es
    → TransactionsInOnePlace w (reached w es) → SizesHold w (reached w es) → VerdictsTell w finish es → CommittedStand w finish es
committed_stand w finish es run q o r once z t =
    let done = (history w es).committed in
    record {
      serial = o.stands.serial;
      rise = o.stands.rise;
      told_value = λ n p v e. among n p (Value v) done (o.stands.told_value n p v e);
      told_code = λ n p c e. among n p (Fail c) done (o.stands.told_code n p c e);
      all_told = o.all_told q;
      ended = all_of (λ d. is_some d.result ≡ true) done (λ d i. all_in (λ x. is_some x.result ≡ true) d (by_place done) (all_ended _ (by_place done) o.stands.serial) (in_sorted d done i));
      answered = all_of (λ d. is_among d.tx (replied es) ≡ true) done
          (λ d i. each_replied w es run r.replied d.tx (done_in_text w (reached w es) d once z (all_in (λ x. IsCommittedPact (reached w es) x ⊎ IsCommittedAct (reached w es) x) d done t.committed i)));
      states = o.last_states q;
    }
