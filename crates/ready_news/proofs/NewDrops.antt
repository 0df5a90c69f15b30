-- Whose control may be dropped after an arrival or an ask is an ACT that is live and given up, where its control is listed.
use Rattle.std.specs.Prelude.{◌≡◌, refl, ℕ, ◌≤◌, ◌==◌, Bool, true, false, ◌&&◌, if◌then◌else◌, unwrap_or, Some, List, [], ◌∷◌, map, Contains}
use Rattle.std.specs.List.{list_any, AllByRecursion}
use Rattle.std.proofs.Common.{subst, inl, inr}
use Rattle.std.proofs.lemmas.Bool.{and_from, eqb-true, or_left, or_right}
use Rattle.book_part.specs.Listed.{live_tids}
use Rattle.ready_listing.proofs.Lists.{first_of_all, in_flat_map}
use Rattle.protocol.specs.Conditions.{is_given_up}
use Rattle.protocol.specs.Events.{DropControl}
use Rattle.protocol.specs.OnBook.{changed_act, joins, lowered}
use Rattle.protocol.specs.Parts.{Act, Book, Doomed, OfAct, Pair}
use Rattle.protocol.specs.Spread.{raised, crossed_out, is_crossed}
use Rattle.protocol.specs.Verdicts.{out_of_order}
use Rattle.protocol.specs.Numbers.{times}
use Rattle.protocol.specs.Words.{act_of, holds, is_doomed}
use Rattle.protocol_ready.proofs.Listing.{Has, from_has, has_filter, to_has}
use Rattle.ready_news.specs.GivenUp.{given_up_tids}
use Rattle.ready_news.specs.InPost.{given_up_drops, of_drop}
use Rattle.ready_news.proofs.GivenUp.{Fallen, fallen_found}
use Rattle.ready_news.proofs.InPost.{changed_back, holds_back, raised_back}

-- this ACT is given up
abbrev pub IsGivenUp : ℕ → List Act → Type 0
IsGivenUp t acts = holds (λ x. is_doomed x.status) (act_of t acts) ≡ true

-- who is given up when those that cross are, and was not before, is one of them
pub crossed_found : (a t : ℕ) (ys : List Act) → IsGivenUp t (map (crossed_out a) ys) → (IsGivenUp t ys → ⊥) → list_any (λ y. is_crossed y && (y.tid == t)) ys ≡ true
crossed_found a t [] h n = h
crossed_found a t (y ∷ ys) h n = by (y.tid == t) refl h n (crossed_found a t ys)
  where
    crosses : (b : Bool) → is_doomed (if b then Doomed (out_of_order y.m (unwrap_or y.n 0) a) else y.status) ≡ true → (is_doomed y.status ≡ true → ⊥) → b ≡ true
    crosses true g n = refl
    crosses false g n = absurd (n g)

    by : (c : Bool) → (y.tid == t) ≡ c → holds (λ x. is_doomed x.status) (if c then Some (crossed_out a y) else act_of t (map (crossed_out a) ys)) ≡ true
        → (holds (λ x. is_doomed x.status) (if c then Some y else act_of t ys) ≡ true → ⊥)
        → (IsGivenUp t (map (crossed_out a) ys) → (IsGivenUp t ys → ⊥) → list_any (λ y. is_crossed y && (y.tid == t)) ys ≡ true)
        → list_any (λ y. is_crossed y && (y.tid == t)) (y ∷ ys) ≡ true
    by true e g n rest = or_left (is_crossed y && (y.tid == t)) _ (and_from (is_crossed y) (y.tid == t) (crosses (is_crossed y) g n) e)
    by false e g n rest = or_right (is_crossed y && (y.tid == t)) _ (rest g n)

-- ---- nobody is given up by what comes before

pub lowered_doom : (k : ℕ) (tids : List ℕ) (t : ℕ) (acts : List Act) → IsGivenUp t (map (lowered k tids) acts) → IsGivenUp t acts
lowered_doom k tids t acts h = holds_back (λ x. is_doomed x.status) (λ x. x.tid == t) (lowered k tids) (λ x. refl) (λ x g. g) acts h

pub joined_doom : (pairs : List Pair) (u a m t : ℕ) (acts : List Act) → IsGivenUp t (raised pairs (changed_act u (joins a m) acts)) → IsGivenUp t acts
joined_doom pairs u a m t acts h =
    changed_back (λ x. is_doomed x.status) u (joins a m) (λ x. refl) (λ x g. g) t acts
    (raised_back (λ x. is_doomed x.status) (λ x k g. g) pairs t (changed_act u (joins a m) acts) h)

-- ---- its control is listed

pub fallen_dropped : (b : Book) (t : ℕ) (f : Fallen b (λ x. x.tid == t)) → times f.it.tid (map (λ y. y.tid) b.acts) ≤ 1 → Contains (given_up_drops b) (DropControl t)
fallen_dropped b t f once =
    let u = f.it.tid in
    let found = fallen_found b f.it once f.has f.doomed f.lives in
    let tid : Contains (given_up_tids b) u = from_has (given_up_tids b) u (has_filter (λ t. is_given_up (OfAct t) b) (live_tids b) u (to_has (live_tids b) u found.0) found.1) in
    subst (λ n. Contains (given_up_drops b) (DropControl n)) (eqb-true u t f.does)
    (in_flat_map of_drop (given_up_tids b) u (DropControl u) tid (first_of_all [] (DropControl u)))

-- what all of some list are, one of it is
pub all_are : {X : Type 0} (P : X → Type 0) (xs : List X) (x : X) → AllByRecursion P xs → Has xs x → P x
all_are P [] x h g = absurd g
all_are P (y ∷ ys) x h (inl e) = subst P e h.0
all_are P (y ∷ ys) x h (inr g) = all_are P ys x h.1 g
