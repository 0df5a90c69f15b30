-- What the halves of a book tell of the whole.
use Rattle.std.specs.Prelude.{◌≡◌, refl, ℕ, ◌≤◌, ◌==◌, Bool, true, false, not, ◌&&◌, if◌then◌else◌, Option, Some, None, is_some, option_map, List, [], ◌∷◌, length, map, filter, find}
use Rattle.std.specs.List.{AllByRecursion, list_all}
use Rattle.std.proofs.Common.{sym, ap, subst, ◌∙◌}
use Rattle.std.proofs.lemmas.Bool.{true≢false, or_parts}
use Rattle.snap_base.specs.declared.verdicts.Verdict.{Verdict}
use Rattle.snap_base.proofs.Options.{nobody_is}
use Rattle.protocol.specs.Parts.{Joined, Status, Live, Doomed, Decided, Sealed, Act}
use Rattle.protocol.specs.Words.{holds, count, is_among, is_empty, act_of, joined_of, is_live_act, is_vouched_everywhere, is_doomed, is_decided, is_sealed, is_ordered}
use Rattle.protocol.specs.Numbers.{times}
use Rattle.protocol.specs.Verdicts.{verdict_of_act, act_verdict}
use Rattle.protocol.specs.BookParts.{act_by, place_by, joined_by, status_by, result_by, with_votes}
use Rattle.protocol_laws.specs.OneWay.{actors_of}
use Rattle.protocol_theorems.specs.BookFits.{IsVotedBy, act_with, verdict_by, verdict_of_halves}
use Rattle.protocol_theorems.proofs.quiet.QuietKnown.{found_once}
use Rattle.protocol_theorems.proofs.quiet.QuietEnd.{each_at}
use Rattle.protocol_theorems.proofs.halves.ActWithVotes.{doomed_by, place_actor, place_finished, holds_map}
use Rattle.protocol_theorems.proofs.halves.VotedActs.{joined_actor_is, some_among}

-- ---- live ones

all_finished : (v : Option Act) (ps : List Joined) → list_all (λ p. p.finished) (map (place_by v) ps) ≡ list_all (λ p. p.finished) ps
all_finished v [] = refl
all_finished v (p ∷ ps) = ap (λ z. z && list_all (λ p. p.finished) (map (place_by v) ps)) (place_finished v p) ∙ ap (λ z. p.finished && z) (all_finished v ps)

finished_by : (v : Option Act) (st : Status) (ps : List Joined) → (if is_empty (map (place_by v) ps) then is_doomed (status_by v st) else list_all (λ p. p.finished) (map (place_by v) ps)) ≡ (if is_empty ps then is_doomed st else list_all (λ p. p.finished) ps)
finished_by v st [] = doomed_by v st
finished_by v st (p ∷ ps) = all_finished v (p ∷ ps)

pub live_act_by : (v : Option Act) (x : Act) → is_live_act (act_by v x) ≡ is_live_act x
live_act_by v x = ap not (finished_by v x.status x.places)

count_map : {X : Type 0} (p : X → Bool) (f : X → X) (xs : List X) → ((x : X) → p (f x) ≡ p x) → count p (map f xs) ≡ count p xs
count_map p f [] h = refl
count_map p f (x ∷ xs) h = ap (λ b. length (if b then f x ∷ filter p (map f xs) else filter p (map f xs))) (h x) ∙ by (p x) (count_map p f xs h)
  where
    by : (b : Bool) → length (filter p (map f xs)) ≡ length (filter p xs) → length (if b then f x ∷ filter p (map f xs) else filter p (map f xs)) ≡ length (if b then x ∷ filter p xs else filter p xs)
    by true k = ap (λ n. Rattle.std.specs.Prelude.suc n) k
    by false k = k

pub live_count : (vs xs : List Act) → count is_live_act (with_votes vs xs) ≡ count is_live_act xs
live_count vs xs = count_map is_live_act (λ x. act_by (act_of x.tid vs) x) xs (λ x. live_act_by (act_of x.tid vs) x)

-- ---- who is decided, and who is sealed

abbrev pub IsPlacing : (Status → Bool) → Type 0
IsPlacing p = (p Live ≡ false) × (((why : Verdict) → p (Doomed why) ≡ false) × ((u : Status) → is_ordered u ≡ false → p u ≡ false))

voted_if : (p : Status → Bool) (b : Bool) (u st : Status) → is_ordered u ≡ b → b ≡ true → p (if is_ordered u then u else st) ≡ p u
voted_if p b u st e f = ap (λ z. p (if z then u else st)) (e ∙ f)

placed_at : (p : Status → Bool) → IsPlacing p → (v : Option Act) (x : Act) (st : Status) → x.status ≡ st → IsVotedBy v x → p (status_by v st) ≡ holds (λ y. p y.status) v
placed_at p i None x Live e h = i.0
placed_at p i None x (Doomed why) e h = i.1.0 why
placed_at p i None x (Decided c) e h = absurd (true≢false (sym (ap is_ordered e) ∙ h))
placed_at p i None x (Sealed c) e h = absurd (true≢false (sym (ap is_ordered e) ∙ h))
placed_at p i (Some y) x Live e h = i.0 ∙ sym (i.1.1 y.status (h.placed ∙ ap is_ordered e))
placed_at p i (Some y) x (Doomed why) e h = i.1.0 why ∙ sym (i.1.1 y.status (h.placed ∙ ap is_ordered e))
placed_at p i (Some y) x (Decided c) e h = voted_if p true y.status (Decided c) (h.placed ∙ ap is_ordered e) refl
placed_at p i (Some y) x (Sealed c) e h = voted_if p true y.status (Sealed c) (h.placed ∙ ap is_ordered e) refl

pub decided_by : (v : Option Act) (x : Act) → IsVotedBy v x → is_decided (status_by v x.status) ≡ holds (λ y. is_decided y.status) v
decided_by v x h = placed_at is_decided (refl, ((λ why. refl), (λ u e. (or_parts (is_decided u) (is_sealed u) e).0))) v x x.status refl h

pub sealed_by : (v : Option Act) (x : Act) → IsVotedBy v x → is_sealed (status_by v x.status) ≡ holds (λ y. is_sealed y.status) v
sealed_by v x h = placed_at is_sealed (refl, ((λ why. refl), (λ u e. (or_parts (is_decided u) (is_sealed u) e).1))) v x x.status refl h

-- ---- marks

pub joined_found : (a : ℕ) (v : Option Act) (ps : List Joined) → find (λ p. p.actor == a) (map (place_by v) ps) ≡ option_map (place_by v) (find (λ p. p.actor == a) ps)
joined_found a v [] = refl
joined_found a v (p ∷ ps) = ap (λ z. if z == a then Some (place_by v p) else find (λ p. p.actor == a) (map (place_by v) ps)) (place_actor v p) ∙ by (p.actor == a) (joined_found a v ps)
  where
    by : (b : Bool) → find (λ p. p.actor == a) (map (place_by v) ps) ≡ option_map (place_by v) (find (λ p. p.actor == a) ps) → (if b then Some (place_by v p) else find (λ p. p.actor == a) (map (place_by v) ps)) ≡ option_map (place_by v) (if b then Some p else find (λ p. p.actor == a) ps)
    by true k = refl
    by false k = k

pub left_mark : (f : Bool → Bool) (a : ℕ) (v : Option Act) (x : Act) → holds (λ p. f p.finished) (joined_of a (act_by v x)) ≡ holds (λ p. f p.finished) (joined_of a x)
left_mark f a v x = ap (holds (λ p. f p.finished)) (joined_found a v x.places) ∙ holds_map (λ p. f p.finished) (place_by v) (joined_of a x) (λ p. ap f (place_finished v p))

pub vote_mark : (f : Bool → Bool → Bool) (a : ℕ) (y x : Act) → actors_of y.places ≡ actors_of x.places → holds (λ p. f p.prepared p.vouched) (joined_of a (act_by (Some y) x)) ≡ holds (λ p. f p.prepared p.vouched) (joined_of a y)
vote_mark f a y x e = ap (holds (λ p. f p.prepared p.vouched)) (joined_found a (Some y) x.places) ∙ by (joined_of a x) refl
  where
    there : is_some (joined_of a x) ≡ is_some (joined_of a y)
    there = some_among a x.places ∙ (ap (is_among a) (sym e) ∙ sym (some_among a y.places))

    own : (p : Joined) (o : Option Joined) → joined_of a y ≡ o → is_some o ≡ true → p.actor ≡ a → holds (λ p. f p.prepared p.vouched) (Some (place_by (Some y) p)) ≡ holds (λ p. f p.prepared p.vouched) o
    own p None q k n = absurd (true≢false (sym k))
    own p (Some z) q k n = ap (λ o. holds (λ p. f p.prepared p.vouched) (Some (joined_by o p))) (ap (λ m. joined_of m y) n ∙ q)

    by : (o : Option Joined) → joined_of a x ≡ o → holds (λ p. f p.prepared p.vouched) (option_map (place_by (Some y)) o) ≡ holds (λ p. f p.prepared p.vouched) (joined_of a y)
    by None q = sym (ap (holds (λ p. f p.prepared p.vouched)) (nobody_is (joined_of a y) (sym there ∙ ap is_some q)))
    by (Some p) q = own p (joined_of a y) refl (sym there ∙ ap is_some q) (joined_actor_is a p x.places q)

all_vouched : (y : Act) (ps qs : List Joined) → actors_of qs ≡ actors_of ps → AllByRecursion (λ q. joined_of q.actor y ≡ Some q) qs → list_all (λ p. p.vouched) (map (place_by (Some y)) ps) ≡ list_all (λ q. q.vouched) qs
all_vouched y [] [] e h = refl
all_vouched y [] (q ∷ qs) e h = absurd (cc e)
all_vouched y (p ∷ ps) [] e h = absurd (cc e)
all_vouched y (p ∷ ps) (q ∷ qs) e h =
    let i : q.actor ≡ p.actor = cc e in
    let k : actors_of qs ≡ actors_of ps = cc e in
    ap (λ o. (joined_by o p).vouched && list_all (λ p. p.vouched) (map (place_by (Some y)) ps)) (ap (λ n. joined_of n y) (sym i) ∙ h.0) ∙ ap (λ z. q.vouched && z) (all_vouched y ps qs k h.1)

pub vouched_by : (y x : Act) → actors_of y.places ≡ actors_of x.places → ((n : ℕ) → times n (actors_of x.places) ≤ 1) → is_vouched_everywhere (act_by (Some y) x) ≡ is_vouched_everywhere y
vouched_by y x e o = all_vouched y x.places y.places e (each_at (λ q. joined_of q.actor y ≡ Some q) y.places (found_once (λ q. q.actor) y.places (λ n. subst (λ z. times n z ≤ 1) (sym e) (o n))))

-- ---- verdicts

placed_if : (b : Bool) (u st : Status) (m : ℕ) (y : Act) → b ≡ true → act_verdict (if b then u else st) m y.result ≡ act_verdict u m y.result
placed_if b u st m y e = ap (λ z. act_verdict (if z then u else st) m y.result) e

verdict_at : (v : Option Act) (x : Act) (st : Status) → x.status ≡ st → IsVotedBy v x → act_verdict (status_by v st) x.m (result_by v) ≡ verdict_by v x.m st
verdict_at v x Live e h = refl
verdict_at v x (Doomed why) e h = refl
verdict_at None x (Decided c) e h = absurd (true≢false (sym (ap is_ordered e) ∙ h))
verdict_at None x (Sealed c) e h = absurd (true≢false (sym (ap is_ordered e) ∙ h))
verdict_at (Some y) x (Decided c) e h = placed_if (is_ordered y.status) y.status (Decided c) x.m y (h.placed ∙ ap is_ordered e)
verdict_at (Some y) x (Sealed c) e h = placed_if (is_ordered y.status) y.status (Sealed c) x.m y (h.placed ∙ ap is_ordered e)

pub verdict_of : (n : ℕ) (vs xs : List Act) → AllByRecursion (λ x. IsVotedBy (act_of x.tid vs) x) xs → verdict_of_act n (with_votes vs xs) ≡ verdict_of_halves vs (act_with n xs)
verdict_of n vs [] h = refl
verdict_of n vs (x ∷ xs) h = by (x.tx == n) (verdict_at (act_of x.tid vs) x x.status refl h.0) (verdict_of n vs xs h.1)
  where
    by : (b : Bool) → act_verdict (status_by (act_of x.tid vs) x.status) x.m (result_by (act_of x.tid vs)) ≡ verdict_by (act_of x.tid vs) x.m x.status → verdict_of_act n (with_votes vs xs) ≡ verdict_of_halves vs (act_with n xs)
        → (if b then act_verdict (status_by (act_of x.tid vs) x.status) x.m (result_by (act_of x.tid vs)) else verdict_of_act n (with_votes vs xs)) ≡ verdict_of_halves vs (if b then Some x else act_with n xs)
    by true k l = k
    by false k l = l
