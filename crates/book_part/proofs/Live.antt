-- The live ACTs of a book, and the actors of one, as its halves show it.
use Rattle.std.specs.Prelude.{◌≡◌, refl, ℕ, Bool, true, false, if◌then◌else◌, Option, Some, None, option_map, List, [], ◌∷◌, map, filter}
use Rattle.std.proofs.Common.{sym, ap, subst, ◌∙◌}
use Rattle.std.proofs.lemmas.List.Elements.{filter_agree}
use Rattle.protocol.specs.Conditions.{is_given_up}
use Rattle.protocol.specs.Parts.{Act, Book, OfAct}
use Rattle.protocol.specs.Words.{act_of, holds, is_doomed, is_live_act}
use Rattle.protocol.specs.BookParts.{act_by, place_by, with_votes}
use Rattle.protocol_theorems.specs.BookFits.{actors_at}
use Rattle.protocol_laws.specs.OneWay.{actors_of}
use Rattle.protocol_theorems.proofs.halves.ActWithVotes.{place_actor}
use Rattle.protocol_theorems.proofs.halves.HalvesAsked.{live_act_by}
use Rattle.order_book.specs.Asked.{joined_in}
use Rattle.book_part.specs.Halves.{Halves, Shows}
use Rattle.book_part.specs.Listed.{live_tids}
use Rattle.book_part.proofs.Mapped.{map_each}
use Rattle.book_part.proofs.Asked.{doomed_shown}
use Rattle.book_part.proofs.Shown.{IsAt, is_book, answers}

abbrev tids_in : List Act → List ℕ
tids_in xs = map (λ x. x.tid) xs

live_with_votes : (vs xs : List Act) → tids_in (filter is_live_act (with_votes vs xs)) ≡ tids_in (filter is_live_act xs)
live_with_votes vs [] = refl
live_with_votes vs (x ∷ xs) = by (is_live_act (act_by (act_of x.tid vs) x)) (is_live_act x) (live_act_by (act_of x.tid vs) x) (live_with_votes vs xs)
  where
    same : (b : Bool) → tids_in (filter is_live_act (with_votes vs xs)) ≡ tids_in (filter is_live_act xs) → tids_in (if b then act_by (act_of x.tid vs) x ∷ filter is_live_act (with_votes vs xs) else filter is_live_act (with_votes vs xs)) ≡ tids_in (if b then x ∷ filter is_live_act xs else filter is_live_act xs)
    same true k = ap (λ ts. x.tid ∷ ts) k
    same false k = k

    by : (b c : Bool) → b ≡ c → tids_in (filter is_live_act (with_votes vs xs)) ≡ tids_in (filter is_live_act xs) → tids_in (if b then act_by (act_of x.tid vs) x ∷ filter is_live_act (with_votes vs xs) else filter is_live_act (with_votes vs xs)) ≡ tids_in (if c then x ∷ filter is_live_act xs else filter is_live_act xs)
    by b c e k = ap (λ d. tids_in (if d then act_by (act_of x.tid vs) x ∷ filter is_live_act (with_votes vs xs) else filter is_live_act (with_votes vs xs))) e ∙ same c k

pub live_shown : (k h : Halves) → k ≡ h → (b : Book) → Shows h b → tids_in (filter is_live_act k.orders.acts) ≡ live_tids b
live_shown k h i b s = sym (ap live_tids (is_book k b (subst (λ z. Shows z b) (sym i) s)) ∙ live_with_votes k.votes.acts k.orders.acts)

pub given_up_shown : (k h : Halves) → k ≡ h → (b : Book) → Shows h b → filter (λ t. holds (λ x. is_doomed x.status) (act_of t k.orders.acts)) (tids_in (filter is_live_act k.orders.acts)) ≡ filter (λ t. is_given_up (OfAct t) b) (live_tids b)
given_up_shown k h i b s =
    filter_agree (λ t. holds (λ x. is_doomed x.status) (act_of t k.orders.acts)) (λ t. is_given_up (OfAct t) b) (λ t. doomed_shown k h i b t s) (tids_in (filter is_live_act k.orders.acts))
    ∙ ap (filter (λ t. is_given_up (OfAct t) b)) (live_shown k h i b s)

actors_by_votes : (x y : Option Act) → IsAt x y → actors_at (option_map (act_by y) x) ≡ actors_of (joined_in x)
actors_by_votes None y e = refl
actors_by_votes (Some x) y e = map_each (λ p. p.actor) (place_by y) (λ p. p.actor) x.places (λ p. place_actor y p)

pub actors_shown : (k h : Halves) → k ≡ h → (b : Book) (t : ℕ) → Shows h b → actors_of (joined_in (act_of t k.orders.acts)) ≡ actors_at (act_of t b.acts)
actors_shown = answers actors_at (λ x y. actors_of (joined_in x)) actors_by_votes
