-- What is planned is the machine's batch, over every text; and what it takes off a queue.
use Rattle.std.proofs.Common.{◌≡◌, ℕ, suc, ◌+◌, ◌<◌, List, [], ◌∷◌, ◌++◌, length, map, take, drop, get_or, set, refl, ap, sym, ◌∙◌, arith, None}
use Rattle.std.proofs.lemmas.List.{length-take, length-take-le, take_more, drop_min}
use Rattle.snap_base.specs.declared.transactions.SubBatch as base
use Rattle.snap_base.specs.declared.ids.Tid.{Tid}
use Rattle.snap_base.specs.declared.ids.TxNo.{TxNo}
use Rattle.protocol.specs.Fixed.{Text}
use Rattle.protocol.specs.Parts.{Ring, SubBatch}
use Rattle.protocol.specs.Conditions.{queue}
use Rattle.protocol.specs.OnRing.{numbered, next_pacts, next_actors, first_sub, Formed, planned, formed, with_lasts}
use Rattle.protocol.specs.Meant.{sub_batch, subs_actor, batch_pact}
use Rattle.token_ring.specs.Told.{told_all}
use Rattle.token_ring.proofs.Places.{sub_actor, actors_meant}
use Rattle.token_ring.proofs.Collected.{collected, subs_first}

numbered_push : (t : ℕ) (xs : List ℕ) (n : ℕ) → numbered t (xs ++ n ∷ []) ≡ numbered t xs ++ record { tid = t + length xs; tx = n; result = None } ∷ []
numbered_push t [] n = let e : t ≡ t + 0 = omega arith in ap (λ m. record { tid = m; tx = n; result = None } ∷ []) e
numbered_push t (x ∷ xs) n =
    let e : t + 1 + length xs ≡ t + suc (length xs) = omega arith in
    ap (λ ps. record { tid = t; tx = x; result = None } ∷ ps) (numbered_push (t + 1) xs n ∙ ap (λ m. numbered (t + 1) xs ++ record { tid = m; tx = n; result = None } ∷ []) e)

pub numbered_more : (t : ℕ) (xs : List ℕ) (i d : ℕ) → i < length xs → numbered t (take (i + 1) xs) ≡ numbered t (take i xs) ++ record { tid = t + i; tx = get_or xs i d; result = None } ∷ []
numbered_more t xs i d l =
    let here : length (take i xs) ≡ i = length-take-le i xs (omega arith) in
    ap (λ ys. numbered t ys) (take_more xs i d l) ∙ numbered_push t (take i xs) (get_or xs i d)
    ∙ ap (λ m. numbered t (take i xs) ++ record { tid = t + m; tx = get_or xs i d; result = None } ∷ []) here

pub length-numbered : (t : ℕ) (xs : List ℕ) → length (numbered t xs) ≡ length xs
length-numbered t [] = refl
length-numbered t (x ∷ xs) = ap (λ n. suc n) (length-numbered (t + 1) xs)

actors_first : (g : ℕ → SubBatch) (actors : List ℕ) → ((a : ℕ) → (g a).actor ≡ a) → map sub_actor (map g actors) ≡ actors
actors_first g [] h = refl
actors_first g (a ∷ more) h = ap (λ x. x ∷ map sub_actor (map g more)) (h a) ∙ ap (λ xs. a ∷ xs) (actors_first g more h)

-- what the code planned, over any text with these transactions and this many PACTs to a batch
pub plan_is : (w : Text) (r : Ring) (pacts : List (Tid × TxNo)) (subs : List base.SubBatch)
    → map batch_pact pacts ≡ numbered r.next_tid (take w.batch (queue r.pacts r.holder))
    → map sub_batch subs ≡ told_all r.next_bid r.epoch r.lasts w.txs (map batch_pact pacts) []
    → record { bid = r.next_bid; actors = map subs_actor subs; pacts = map batch_pact pacts; subs = map sub_batch subs } ≡ planned w r.next_bid r
plan_is w r pacts subs p s =
    let told : map sub_batch subs ≡ map (first_sub w r.next_bid r) (next_actors w r) =
    s
    ∙ ap (λ ps. told_all r.next_bid r.epoch r.lasts w.txs ps []) p
    ∙ collected r.next_bid r.epoch r.lasts w.txs (take w.batch (queue r.pacts r.holder)) r.next_tid
    ∙ subs_first r.next_bid r.epoch r.lasts w.txs (next_pacts w r) (first_sub w r.next_bid r) (length r.lasts) (λ a. refl) in
    let actors : map subs_actor subs ≡ next_actors w r =
    sym (actors_meant subs) ∙ ap (λ ss. map sub_actor ss) told ∙ actors_first (first_sub w r.next_bid r) (next_actors w r) (λ a. refl) in
    ap (λ xs. record { bid = r.next_bid; actors = xs; pacts = map batch_pact pacts; subs = map sub_batch subs }) actors
    ∙ ap (λ ps. record { bid = r.next_bid; actors = next_actors w r; pacts = ps; subs = map sub_batch subs }) p
    ∙ ap (λ ss. record { bid = r.next_bid; actors = next_actors w r; pacts = next_pacts w r; subs = ss }) told

-- as many leave a queue as the batch has
pub left_same : (w : Text) (r : Ring) (n : ℕ) → n ≡ length (next_pacts w r) → drop n (queue r.pacts r.holder) ≡ drop w.batch (queue r.pacts r.holder)
left_same w r n h =
    ap (λ m. drop m (queue r.pacts r.holder)) (h ∙ length-numbered r.next_tid (take w.batch (queue r.pacts r.holder)) ∙ length-take w.batch (queue r.pacts r.holder))
    ∙ drop_min w.batch (queue r.pacts r.holder)

-- what is left of the ring, over any text that has the batch as its next
pub form_is : (w : Text) (r : Ring) (f : Formed) (count : ℕ) (lasts queue_left : List ℕ) → f ≡ planned w r.next_bid r → count ≡ length f.pacts → lasts ≡ with_lasts f.bid f.actors r.lasts → queue_left ≡ drop count (queue r.pacts r.holder)
    → record r { next_tid = r.next_tid + count; next_bid = r.next_bid + 1; lasts = lasts; pacts = set r.pacts r.holder queue_left } ≡ formed f w.batch r
form_is w r f count lasts queue_left p n l q =
    let left : queue_left ≡ drop w.batch (queue r.pacts r.holder) = q ∙ left_same w r count (n ∙ ap (λ g. length g.pacts) p) in
    ap (λ c. record r { next_tid = r.next_tid + c; next_bid = r.next_bid + 1; lasts = lasts; pacts = set r.pacts r.holder queue_left }) n
    ∙ ap (λ xs. record r { next_tid = r.next_tid + length f.pacts; next_bid = r.next_bid + 1; lasts = xs; pacts = set r.pacts r.holder queue_left }) l
    ∙ ap (λ xs. record r { next_tid = r.next_tid + length f.pacts; next_bid = r.next_bid + 1; lasts = with_lasts f.bid f.actors r.lasts; pacts = set r.pacts r.holder xs }) left
