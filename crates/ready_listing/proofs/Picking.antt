-- What is put into a list, and that these are the offers.
use Rattle.std.proofs.Common.{◌≡◌, ℕ, zero, suc, ◌+◌, ◌<◌, ◌≤◌, get_or, Bool, true, Contains, ◌↔◌, ◌⊎◌, Some, List, [], ◌∷◌, length, map, take, refl, sym, ap, subst, inl, inr, ◌∙◌, arith}
use Rattle.std.proofs.lemmas.List.{map_more}
use Rattle.std.proofs.lemmas.List.Elements.{Contains-append_cases}
use Rattle.aml_slice.specs.Controls.{Rest}
use Rattle.listing_facts.specs.book_part.Halves.{Halves, Shows}
use Rattle.core_events.specs.Meant.{event_meant}
use Rattle.core_events.specs.declared.events.Event as code
use Rattle.snap_hand.specs.core_rows.OnRuns.{HasRun}
use Rattle.listing_facts.specs.Listing.{PostLists, CellLists, DeskLists, BookLists, AnswersList, ListsAreEnough}
use Rattle.protocol.specs.Conditions.{IsAllowed, refusal}
use Rattle.protocol.specs.Events.{Event}
use Rattle.protocol.specs.Fixed.{Fixed}
use Rattle.protocol.specs.Laws.{AfterEveryRun, AfterEveryRunWithHistory}
use Rattle.protocol.specs.Parts.{Book, Post, Desk, Cell, Machine}
use Rattle.protocol.specs.Schedule.{AscendByRank}
use Rattle.protocol_theorems.specs.Sizes.{SizesHold}
use Rattle.protocol_ready.specs.Ready.{put}
use Rattle.protocol_ready.specs.Telling.{PartsTell, PostTells, CellTells, DeskTells, BookTells, AnswersTell}
use Rattle.snap_hand.specs.Hands.{Parts, Fits, IsHandOf}
use Rattle.ready_list.specs.Order.{RoomedList, kind_of, spare_of}
use Rattle.ready_listing.specs.Chosen.{IsDue, IsOffered, IsLooked, AreChosen, is_asked}
use Rattle.ready_listing.specs.Listed.{on_hand}
use Rattle.ready_listing.specs.Offers.{AreOffers}
use Rattle.ready_listing.proofs.Lists.{of_cons}
use Rattle.ready_listing.proofs.Parts.{asked_is}
use Rattle.ready_listing.proofs.Whole.{parts_tell}

pub looked_put : (w : Fixed Rest) (h : Parts) (e : Event) (old new : List Event) → new ≡ put e old
    → ((e : Event) (es : List Event) (f : Event) → Contains (put e es) f ↔ ((f ≡ e) ⊎ Contains es f))
    → ((e : Event) (es : List Event) → AscendByRank es → AscendByRank (put e es))
    → IsOffered w h e → IsLooked w h e old new
looked_put w h e old new same one order offered = subst (λ v. IsLooked w h e old v) (sym same) (record {
  only = λ f c. elim ((one e old f).0 c) [ inl s ↦ inr (subst (IsOffered w h) (sym s) offered) | inr i ↦ inl i ];
  kept = λ f c. (one e old f).1 (inr c);
  due = λ d. (one e old e).1 (inl refl);
  ascends = order e old;
})

-- ---- room

-- so far each kind of the events has room for as many as are left
abbrev pub HasRoom : RoomedList → List code.Event → ℕ → Type 0
HasRoom l xs i = (f : Event) → Contains (map event_meant xs) f → length xs ≤ i + spare_of l (kind_of f)

meant_at : (xs : List code.Event) (i : ℕ) (x : code.Event) → i < length xs → x ≡ get_or xs i x → Contains (map event_meant xs) (event_meant x)
meant_at [] i x within is = absurd (omega (arith, within))
meant_at (y ∷ xs) zero x within is = (0, omega arith, ap event_meant (sym is))
meant_at (y ∷ xs) (suc i) x within is = let c = meant_at xs i x (omega (arith, within)) is in (suc c.0, omega (arith, c.1), c.2)

pub room_for_next : (l : RoomedList) (xs : List code.Event) (i : ℕ) (x : code.Event) → i < length xs → x ≡ get_or xs i x → HasRoom l xs i → 1 ≤ spare_of l (kind_of (event_meant x))
room_for_next l xs i x within is room = omega (arith, within, room (event_meant x) (meant_at xs i x within is))

pub room_for_rest : (old new : RoomedList) (xs : List code.Event) (i : ℕ) → ((k : ℕ) → spare_of old k ≤ spare_of new k + 1) → HasRoom old xs i → HasRoom new xs (i + 1)
room_for_rest old new xs i less room f c = omega (arith, less (kind_of f), room f c)

pub room_for_all : (l : RoomedList) (xs : List code.Event) → ((f : Event) → Contains (map event_meant xs) f → length xs ≤ spare_of l (kind_of f)) → HasRoom l xs 0
room_for_all l xs room f c = omega (arith, room f c)

-- ---- what is chosen

one_only : (y f : Event) → Contains (y ∷ []) f → y ≡ f
one_only y f c = elim (of_cons [] y f c) [ inl e ↦ e | inr i ↦ absurd (omega (arith, i.1)) ]

pub chosen_more : (w : Fixed Rest) (h : Parts) (xs : List code.Event) (i : ℕ) (x : code.Event) (old new : List Event) → i < length xs → x ≡ get_or xs i x
    → AreChosen w h (map event_meant (take i xs)) old → IsLooked w h (event_meant x) old new → AreChosen w h (map event_meant (take (i + 1) xs)) new
chosen_more w h xs i x old new within is chosen looked = record {
  only = λ f c. elim (looked.only f c) [ inl o ↦ chosen.only f o | inr offered ↦ offered ];
  due = λ f c d. elim (Contains-append_cases (map event_meant (take i xs)) (event_meant (get_or xs i x) ∷ []) f (subst (λ v. Contains v f) (map_more event_meant xs i x within) c)) [
    | inl a ↦ looked.kept f (chosen.due f a d)
    | inr b ↦
        let same : event_meant x ≡ f = ap event_meant is ∙ one_only (event_meant (get_or xs i x)) f b in
        subst (Contains new) same (looked.due (subst (IsDue w h) (sym same) d))
  ];
  ascends = looked.ascends chosen.ascends;
}

pub are_offers : (w : Fixed Rest) (h : Parts) (listed list : List Event) → IsHandOf w h
    → ((b : Book) → ((x : Halves) → h.book ≡ Some x → Shows x b) → listed ≡ on_hand w.text h b)
    → ((w : Fixed Rest) (e : Event) (s : Machine Rest) → (refusal w e s ≡ 0) ↔ IsAllowed w e s)
    → AfterEveryRun (SizesHold {C = Rest})
    → ((asked : Event → Bool) (p : Post Rest) (es : List Event) → PostLists asked p es → PostTells asked p es)
    → ((asked : Event → Bool) (cascades a : ℕ) (c : Cell Rest) (es : List Event) → CellLists asked cascades a c es → CellTells asked cascades a c es)
    → ((asked : Event → Bool) (d : Desk) (es : List Event) → DeskLists asked d es → DeskTells asked d es)
    → AfterEveryRunWithHistory (ListsAreEnough {C = Rest})
    → ((asked : Event → Bool) (w : Fixed Rest) (s : Machine Rest) (es : List Event) → PartsTell asked w s es → (f : Event) → asked f ≡ true → IsAllowed w f s → Contains es f)
    → AreChosen w h listed list → AreOffers w h list
are_offers w h listed list places is_listed ruled sizes posts cells desks runs tells chosen = record {
  all = λ s run fits e. (
    (λ c. let offered = chosen.only e c in ((ruled w e s).0 (offered.1 s run fits), offered.0)),
    (λ p. chosen.due e
        (subst (λ v. Contains v e) (sym (is_listed s.book fits.book)) (tells (is_asked w h) w s (on_hand w.text h s.book) (told s run fits) e (asked_is w h e p.1) p.0))
        (record { state = s; run = run; fits = fits; allowed = p.0; parts = p.1 })),
  );
  ascends = chosen.ascends;
}
  where
    told : (s : Machine Rest) → HasRun w s → Fits h s → PartsTell (is_asked w h) w s (on_hand w.text h s.book)
    told s run fits =
        let enough = runs w run.finish run.events run.facts run.text run.run in
        parts_tell w h s fits places (subst (SizesHold w) (sym run.is_reached) (sizes w run.events run.text run.run)) posts cells desks
        (subst (λ z. (asked : Event → Bool) (es : List Event) → BookLists asked z.book es → BookTells asked z.book es) (sym run.is_reached) enough.book)
        (subst (λ z. (asked : Event → Bool) (es : List Event) → AnswersList asked z.ring.next_tx z.desk es → AnswersTell asked z.book z.desk es) (sym run.is_reached) enough.answers)
