-- Messages of transactions that begin, in order.
use Rattle.std.proofs.Common.{◌≡◌, ℕ, zero, suc, ◌+◌, ◌<◌, None, List, [], ◌∷◌, ◌++◌, length, map, get_or, append_assoc, take, refl, ap, sym, ◌∙◌, subst, arith}
use Rattle.snap_base.specs.declared.ids.Tid.{Tid}
use Rattle.snap_base.specs.declared.ids.TxNo.{TxNo}
use Rattle.protocol.specs.Meant.{batch_pact}
use Rattle.batch_table.specs.Joining.{AllTxsBelow}
use Rattle.snap_base.specs.declared.transactions.Tx.{Tx}
use Rattle.protocol.specs.Fixed.{Fixed, tx_at, root}
use Rattle.protocol.specs.Parts.{Pact, Who, OfBatch, ControlMessage}
use Rattle.protocol.specs.Words.{control_of}
use Rattle.protocol.specs.OnPost.{first_control}
use Rattle.core_rows.specs.Begun.{ControlsAreNew}
use Rattle.std.proofs.lemmas.Grind.{take_at_read}
use Rattle.std.proofs.lemmas.List.{map-append}

-- a mapped list that is split is of a list that is split
record Split {X Y : Type 0} (f : X → Y) (xs : List X) (front : List Y) (m : Y) : Type 0 where
  ahead : List X
  one : X
  behind : List X
  splits : xs ≡ ahead ++ one ∷ behind
  front_is : map f ahead ≡ front
  one_is : f one ≡ m

longer : {X Y : Type 0} (f : X → Y) (x : X) (xs : List X) (y : Y) (front : List Y) (m : Y) → f x ≡ y → Split f xs front m → Split f (x ∷ xs) (y ∷ front) m
longer f x xs y front m h r = record {
  ahead = x ∷ r.ahead;
  one = r.one;
  behind = r.behind;
  splits = ap (λ z. x ∷ z) r.splits;
  front_is = ap (λ z. f x ∷ z) r.front_is ∙ ap (λ z. z ∷ front) h;
  one_is = r.one_is;
}

split : {X Y : Type 0} (f : X → Y) (xs : List X) (front rest : List Y) (m : Y) → map f xs ≡ front ++ m ∷ rest → Split f xs front m
split f [] [] rest m e = absurd (cc e)
split f [] (y ∷ front) rest m e = absurd (cc e)
split f (x ∷ xs) [] rest m e = record { ahead = []; one = x; behind = xs; splits = refl; front_is = refl; one_is = cc e }
split f (x ∷ xs) (y ∷ front) rest m e = longer f x xs y front m (cc e) (split f xs front rest m (cc e))

-- controls that find none of their transactions, as PACTs tell
pub controls_are_new : {C : Type 0} (w : Fixed C) (k : ℕ) (there : List (ControlMessage C)) (pacts : List Pact)
    → ((front rest : List Pact) (p : Pact) → pacts ≡ front ++ p ∷ rest → control_of p.tid (there ++ map (λ q. first_control w (OfBatch k) q.tid q.tx) front) ≡ None)
    → ControlsAreNew there (map (λ q. first_control w (OfBatch k) q.tid q.tx) pacts)
controls_are_new w k there pacts new front rest m e =
    let r = split (λ q. first_control w (OfBatch k) q.tid q.tx) pacts front rest m e in
    subst (λ x. control_of x.tid (there ++ front) ≡ None) r.one_is
    (subst (λ xs. control_of r.one.tid (there ++ xs) ≡ None) r.front_is (new r.ahead r.behind r.one r.splits))

-- the transaction of a PACT is of the text
pub tx_below : (n : ℕ) (ps : List (Tid × TxNo)) (i : ℕ) (d : Tid × TxNo) → i < length ps → AllTxsBelow n (map batch_pact ps) → (get_or ps i d).1.0 < n
tx_below n [] i d inside h = absurd (omega (arith, inside))
tx_below n (p ∷ ps) zero d inside h = h.0
tx_below n (p ∷ ps) (suc i) d inside h = tx_below n ps i d (omega (arith, inside)) h.1

-- what is started of a transaction is its first control
pub message_is : {C : Type 0} (w : Fixed C) (who : Who) (t n : ℕ) (x : Tx) (k : C) → k ≡ w.code.start t x → tx_at w.text n ≡ x → record { tid = t; who = who; to = root x; control = k } ≡ first_control w who t n
message_is w who t n x k e is =
    ap (λ y. record { tid = t; who = who; to = root x; control = y }) e
    ∙ ap (λ y. record { tid = t; who = who; to = root y; control = w.code.start t y }) (sym is)

-- ---- one message more

pub one_more : {X Y : Type 0} (f : X → Y) (there : List Y) (done : List X) (x : X) → (there ++ map f done) ++ f x ∷ [] ≡ there ++ map f (done ++ x ∷ [])
one_more f there done x = append_assoc there (map f done) (f x ∷ []) ∙ ap (λ z. there ++ z) (sym (map-append f done (x ∷ [])))

pub middle : {X Y : Type 0} (f : X → Y) (xs done rest : List X) (x : X) → xs ≡ done ++ x ∷ rest → map f xs ≡ map f done ++ f x ∷ map f rest
middle f xs done rest x e = ap (map f) e ∙ map-append f done (x ∷ rest)

-- one more of the PACTs, at this index
pub grown : {X Y Z W : Type 0} (f : X → Z) (b : Y → W) (h : W → Z) (done : List X) (x : X) (ys : List Y) (i : ℕ) (d : Y) → i < length ys → map f done ≡ map h (map b (take i ys)) → f x ≡ h (b (get_or ys i d)) → map f (done ++ x ∷ []) ≡ map h (map b (take (i + 1) ys))
grown f b h done x ys i d inside so_far here =
    map-append f done (x ∷ [])
    ∙ (ap (λ z. z ++ f x ∷ []) so_far
    ∙ (ap (λ z. map h (map b (take i ys)) ++ z ∷ []) here
    ∙ (sym (map-append h (map b (take i ys)) (b (get_or ys i d) ∷ []))
    ∙ (ap (map h) (sym (map-append b (take i ys) (get_or ys i d ∷ [])))
    ∙ ap (λ z. map h (map b z)) (sym (take_at_read ys i d inside).1)))))
