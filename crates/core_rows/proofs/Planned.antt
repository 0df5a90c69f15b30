-- The batch that is planned, its record and its place on the log.
use Rattle.std.proofs.Common.{◌≡◌, ℕ, suc, ◌<◌, ◌^◌, List, [], ◌∷◌, ◌++◌, length, map, refl, ap, sym, ◌∙◌, arith}
use Rattle.std.proofs.lemmas.Bool.{eqb-true}
use Rattle.snap_base.specs.declared.transactions.Tx.{Tx}
use Rattle.protocol.specs.Fixed.{Fixed}
use Rattle.protocol.specs.Parts.{Ring, OfBatch, ControlMessage, Post, Machine}
use Rattle.protocol.specs.Events.{Form}
use Rattle.protocol.specs.Conditions.{IsAllowed, conditions}
use Rattle.protocol.specs.OnRing.{Formed, planned}
use Rattle.protocol.specs.OnPost.{first_control, posted_batch}
use Rattle.token_ring.specs.Asked.{IsNextBatch}
use Rattle.log_set.specs.Told.{actor_of, tid_of, bid_of}
use Rattle.txn_records.specs.Records.{actor_numbers, tid_numbers, IsInfo}
use Rattle.core_facts.specs.RowsMay.{RowsMay}

pub plan_is : {C : Type 0} (w : Fixed C) (s : Machine C) (k most : ℕ) (txs : List Tx) (r : Ring) (f : Formed)
    → IsAllowed w (Form k) s → IsNextBatch txs most r f → w.text.txs ≡ txs → w.text.batch ≡ most → s.ring ≡ r → f ≡ planned w.text k s.ring
unfolding conditions
plan_is w s k most txs r f ok next text batch shows =
    next w.text text batch
    ∙ (ap (λ x. planned w.text x.next_bid x) (sym shows)
    ∙ ap (λ n. planned w.text n s.ring) (sym (eqb-true k s.ring.next_bid ok.0)))

numbers_of_actors : (xs : List ℕ) → actor_numbers (map actor_of xs) ≡ xs
numbers_of_actors [] = refl
numbers_of_actors (x ∷ xs) = ap (λ z. x ∷ z) (numbers_of_actors xs)

numbers_of_tids : (xs : List ℕ) → tid_numbers (map tid_of xs) ≡ xs
numbers_of_tids [] = refl
numbers_of_tids (x ∷ xs) = ap (λ z. x ∷ z) (numbers_of_tids xs)

-- the record of the batch that is planned has a spelling
pub info_is : {C : Type 0} (w : Fixed C) (s : Machine C) (k : ℕ) (f : Formed) → RowsMay w s → IsAllowed w (Form k) s → f ≡ planned w.text k s.ring
    → IsInfo (bid_of f.bid) (map actor_of f.actors) (map tid_of (map (λ p. p.tid) f.pacts))
info_is w s k f may ok is =
    may.tells_info k ok (bid_of f.bid) (map actor_of f.actors) (map tid_of (map (λ p. p.tid) f.pacts)) (ap (λ x. x.bid) is)
    (numbers_of_actors f.actors ∙ ap (λ x. x.actors) is)
    (numbers_of_tids (map (λ p. p.tid) f.pacts) ∙ ap (λ x. map (λ p. p.tid) x.pacts) is)

mapped_length : {X Y : Type 0} (f : X → Y) (xs : List X) → length (map f xs) ≡ length xs
mapped_length f [] = refl
mapped_length f (x ∷ xs) = ap suc (mapped_length f xs)

-- mapped to one list, they are as many
pub as_many : {X Y Z : Type 0} (f : X → Z) (h : Y → Z) (xs : List X) (ys : List Y) → map f xs ≡ map h ys → length xs ≡ length ys
as_many f h xs ys e = sym (mapped_length f xs) ∙ (ap length e ∙ mapped_length h ys)

told_length : {C : Type 0} (w : Fixed C) (s : Machine C) (k : ℕ) (f : Formed) → f ≡ planned w.text k s.ring → length f.subs ≡ length f.actors
told_length w s k f is = ap (λ x. length x.subs) is ∙ (mapped_length _ (planned w.text k s.ring).actors ∙ ap (λ x. length x.actors) (sym is))

-- its actors and its PACTs are few
pub few : {C : Type 0} (w : Fixed C) (s : Machine C) (k : ℕ) (f : Formed) → RowsMay w s → IsAllowed w (Form k) s → f ≡ planned w.text k s.ring → (length f.subs < 2 ^ 32) × (length f.pacts < 2 ^ 32)
few w s k f may ok is =
    let i = info_is w s k f may ok is in
    let actors = mapped_length actor_of f.actors in
    let tids = mapped_length tid_of (map (λ p. p.tid) f.pacts) ∙ mapped_length (λ p. p.tid) f.pacts in
    (omega (arith, told_length w s k f is, actors, i.few_actors), omega (arith, tids, i.few_tids))

-- what is posted of it, with its first controls
pub posted_is : {C : Type 0} (w : Fixed C) (f : Formed) (p : Post C) (firsts : List (ControlMessage C)) → firsts ≡ map (λ q. first_control w (OfBatch f.bid) q.tid q.tx) f.pacts → posted_batch w f p ≡ record p { subs = p.subs ++ f.subs; controls = p.controls ++ firsts }
posted_is w f p firsts e = ap (λ z. record p { subs = p.subs ++ f.subs; controls = p.controls ++ z }) (sym e)
