-- Room for events, in the rings of their kinds.
use Rattle.std.specs.Prelude.{◌≡◌, ℕ, zero, suc, ◌+◌, ◌-◌, ◌^◌, ◌<◌, ◌≤◌, List, [], ◌∷◌, ◌++◌, length, map, take, slice_index_or, Contains}
use Rattle.std.proofs.Common.{arith, ap, subst, inl, inr, ◌∙◌}
use Rattle.std.proofs.lemmas.List.{length-map, map-append, get_or-map, take_more, take_all}
use Rattle.std.proofs.lemmas.List.Elements.{Contains-get_or, Contains-push_cases}
use Rattle.core_events.specs.Meant.{event_meant}
use Rattle.core_events.specs.declared.events.Event as code
use Rattle.protocol.specs.Events.{Event}
use Rattle.ready_list.specs.Order.{kind_of}
use Rattle.ready_list.specs.Rings.{RoomedRing, spare_at, spares, AreRoomier}
use Rattle.ready_list.proofs.AmongRings.{spare_is}

pub meant_among : (news : List code.Event) (i : ℕ) (d : code.Event) → i < length news → Contains (map event_meant news) (event_meant (slice_index_or news i d))
meant_among news i d h =
    let within : i < length (map event_meant news) = omega (arith, h, length-map news event_meant) in
    subst (λ x. Contains (map event_meant news) x) (get_or-map event_meant news i d (event_meant d) h) (Contains-get_or (map event_meant news) i (event_meant d) within)

pub some_meant : (news : List code.Event) → 0 < length news → (x : Event) × Contains (map event_meant news) x
some_meant [] h = absurd (omega (arith, h))
some_meant (e ∷ es) h = (event_meant e, meant_among (e ∷ es) 0 e h)

-- there is room for each of the first few events
abbrev pub IsRoomFor : List Event → ℕ → List RoomedRing → Type 0
IsRoomFor few many rings = (f : Event) → Contains few f → many ≤ spare_at rings (kind_of f)

pub room_more : (news : List code.Event) (i : ℕ) (d : code.Event) (many : ℕ) (old new : List RoomedRing) → i < length news → IsRoomFor (map event_meant (take i news)) many old → AreRoomier old new
    → many ≤ spare_at new (kind_of (event_meant (slice_index_or news i d))) → IsRoomFor (map event_meant (take (i + 1) news)) many new
room_more news i d many old new h few r here f m =
    let split : map event_meant (take (i + 1) news) ≡ map event_meant (take i news) ++ event_meant (slice_index_or news i d) ∷ [] =
    ap (map event_meant) (take_more news i d h) ∙ map-append event_meant (take i news) (slice_index_or news i d ∷ []) in
    elim (Contains-push_cases (map event_meant (take i news)) (event_meant (slice_index_or news i d)) f (subst (λ es. Contains es f) split m)) [
      | inl x ↦ omega (arith, few f x, r.spare (kind_of f))
      | inr y ↦ subst (λ g. many ≤ spare_at new (kind_of g)) y here
    ]

pub room_all : (news : List code.Event) (i many : ℕ) (rings : List RoomedRing) → length news ≤ i → IsRoomFor (map event_meant (take i news)) many rings → IsRoomFor (map event_meant news) many rings
room_all news i many rings h few = subst (λ es. IsRoomFor (map event_meant es) many rings) (take_all i news h) few

-- how much room the list has, where its rings have more, or one of them less
pub list_room : (old new : List RoomedRing) (count after less : ℕ) → ((k : ℕ) → spare_at old k ≤ spare_at new k + less) → after ≤ count + less → (k : ℕ) → slice_index_or (spares old count) k 0 ≤ slice_index_or (spares new after) k 0 + less
list_room old new count after less h a k = omega (arith, h k, a, spare_is old count k, spare_is new after k)

pub room_in_list : (rings : List RoomedRing) (count many k : ℕ) → many ≤ spare_at rings k → many ≤ 2 ^ 64 - 1 - count → many ≤ slice_index_or (spares rings count) k 0
room_in_list rings count many k h a = omega (arith, h, a, spare_is rings count k)

pub none_in_list : (rings : List RoomedRing) (count many k : ℕ) → spare_at rings k < many → slice_index_or (spares rings count) k 0 < many
none_in_list rings count many k h = omega (arith, h, spare_is rings count k)

pub full_list : (rings : List RoomedRing) (count many k : ℕ) → 2 ^ 64 - 1 - count < many → slice_index_or (spares rings count) k 0 < many
full_list rings count many k h = omega (arith, h, spare_is rings count k)

pub some_in_list : (rings : List RoomedRing) (count k : ℕ) → 1 ≤ slice_index_or (spares rings count) k 0 → (1 ≤ spare_at rings k) × (count < 2 ^ 64 - 1)
some_in_list rings count k h = (omega (arith, h, spare_is rings count k), omega (arith, h, spare_is rings count k))

pub room_there : (rings : List RoomedRing) (k : ℕ) → 1 ≤ spare_at rings k → k < length rings
room_there [] k h = absurd (omega (arith, h))
room_there (r ∷ rs) zero h = omega arith
room_there (r ∷ rs) (suc k) h = omega (arith, room_there rs k h)
