-- Where the events tell who was placed and who has its place, as the history has it, the report's places are told by the events,
-- and places rise to each transaction, but for two readers.
use Rattle.std.specs.Prelude.{◌≡◌, refl, ℕ, ◌<◌, ◌≤◌, ◌==◌, nat_lt, Bool, true, false, ◌&&◌, ◌||◌, if◌then◌else◌, is_some, List, [], ◌∷◌, ◌++◌, length, map, filter}
use Rattle.std.specs.List.{AllByRecursion, flat_map}
use Rattle.std.proofs.Common.{sym, ap, subst, ◌∙◌}
use Rattle.std.proofs.lemmas.Bool.{true≢false, ltb-true, ltb-false}
use Rattle.snap_base.specs.declared.verdicts.Place.{Place}
use Rattle.protocol.specs.Chains.{chain, is_place_below, stands_for, RivalsRise}
use Rattle.protocol.specs.Fixed.{Text}
use Rattle.protocol.specs.History.{Done, History}
use Rattle.protocol.specs.Parts.{Who, OfBatch, OfAct}
use Rattle.protocol.specs.Words.{is_act_who, is_among, is_who}
use Rattle.audit_words.specs.Audited.{EachLine}
use Rattle.audit_words.specs.Beside.{BatchesRise, EachTold, TellsDone, TellsPlaced}
use Rattle.audit_words.specs.Clauses.{IsPlacedAt, IsNotBelow, TellsOrder}
use Rattle.audit_words.specs.Orders.{seen_done, seen_history, seen_view}
use Rattle.audit_words.specs.Papers.{Line, Reply, Actor, End, Kept, Recovered}
use Rattle.audit_words.specs.Seen.{Member, Seen}
use Rattle.audit_laws.proofs.ChainsRise.{rise_to}

-- of each its place, and whether it is a reader
abbrev pub ends : List Done → List (Place × Bool)
ends ds = map (λ d. (d.place, d.reader)) ds

-- two have the same
abbrev SameEnd : Done → Done → Type 0
SameEnd x y = ◌≡◌ {A = Place × Bool} (x.place, x.reader) (y.place, y.reader)

-- ---- by these alone

below_ends : (p : Place) (r : Bool) (xs ys : List Done) → ends xs ≡ ends ys → AllByRecursion (λ e. (r && e.reader) ≡ false → is_place_below p e.place ≡ true) ys → AllByRecursion (λ e. (r && e.reader) ≡ false → is_place_below p e.place ≡ true) xs
below_ends p r [] ys e h = tt
below_ends p r (x ∷ xs) [] e h = absurd (cc e)
below_ends p r (x ∷ xs) (y ∷ ys) e h =
    let top : SameEnd x y = cc e in
    let i : x.place ≡ y.place = ap (λ (q : Place × Bool). q.0) top in
    let b : x.reader ≡ y.reader = ap (λ (q : Place × Bool). q.1) top in
    let j : ends xs ≡ ends ys = cc e in
    (λ k. ap (is_place_below p) i ∙ h.0 (ap (λ (c : Bool). r && c) (sym b) ∙ k), below_ends p r xs ys j h.1)

rise_ends : (xs ys : List Done) → ends xs ≡ ends ys → RivalsRise ys → RivalsRise xs
rise_ends [] ys e h = tt
rise_ends (x ∷ xs) [] e h = absurd (cc e)
rise_ends (x ∷ xs) (y ∷ ys) e h =
    let top : SameEnd x y = cc e in
    let i : x.place ≡ y.place = ap (λ (q : Place × Bool). q.0) top in
    let b : x.reader ≡ y.reader = ap (λ (q : Place × Bool). q.1) top in
    let j : ends xs ≡ ends ys = cc e in (
      subst (λ (q : Place). AllByRecursion (λ (z : Done). (x.reader && z.reader) ≡ false → is_place_below q z.place ≡ true) xs) (sym i)
          (subst (λ (c : Bool). AllByRecursion (λ (z : Done). (c && z.reader) ≡ false → is_place_below y.place z.place ≡ true) xs) (sym b) (below_ends y.place y.reader xs ys j h.0)),
      rise_ends xs ys j h.1,
    )

-- ---- chains

some_view : (b : Bool) → is_some (seen_view b) ≡ b
some_view true = refl
some_view false = refl

same_stand : (ran : ℕ → List ℕ) (a : ℕ) (who : Who) (m : Member) (d : Done) → TellsDone ran m d → stands_for a who (seen_done ran m) ≡ stands_for a who d
same_stand ran a who m d h =
    ap (λ (v : Who). is_who who v && (is_act_who who || is_some (seen_view (is_among m.tid (ran a))))) h.who
    ∙ by who d.who (is_some (seen_view (is_among m.tid (ran a)))) (is_some (d.views a)) (λ e. some_view (is_among m.tid (ran a)) ∙ h.views a e)
  where
    by : (u v : Who) (b c : Bool) → (is_act_who v ≡ false → b ≡ c) → (is_who u v && (is_act_who u || b)) ≡ (is_who u v && (is_act_who u || c))
    by (OfBatch k) (OfBatch j) b c h = ap (λ x. (k == j) && x) (h refl)
    by (OfBatch k) (OfAct t) b c h = refl
    by (OfAct t) v b c h = refl

same_filter : (ran : ℕ → List ℕ) (a : ℕ) (who : Who) (ms : List Member) (ds : List Done) → EachTold ran ms ds
    → ends (filter (stands_for a who) (map (seen_done ran) ms)) ≡ ends (filter (stands_for a who) ds)
same_filter ran a who [] [] h = refl
same_filter ran a who [] (d ∷ ds) h = absurd h
same_filter ran a who (m ∷ ms) [] h = absurd h
same_filter ran a who (m ∷ ms) (d ∷ ds) h =
    by (stands_for a who (seen_done ran m)) (stands_for a who d) (same_stand ran a who m d h.0) (h.0).place (h.0).reader (same_filter ran a who ms ds h.1)
  where
    by : (b c : Bool) → b ≡ c → m.place ≡ d.place → m.reader ≡ d.reader → ends (filter (stands_for a who) (map (seen_done ran) ms)) ≡ ends (filter (stands_for a who) ds)
        → ends (if b then seen_done ran m ∷ filter (stands_for a who) (map (seen_done ran) ms) else filter (stands_for a who) (map (seen_done ran) ms)) ≡ ends (if c then d ∷ filter (stands_for a who) ds else filter (stands_for a who) ds)
    by true true e p q r =
        ap (λ (z : Place). (z, m.reader) ∷ ends (filter (stands_for a who) (map (seen_done ran) ms))) p
        ∙ (ap (λ (z : Bool). (d.place, z) ∷ ends (filter (stands_for a who) (map (seen_done ran) ms))) q ∙ ap (λ (zs : List (Place × Bool)). (d.place, d.reader) ∷ zs) r)
    by true false e p q r = absurd (true≢false e)
    by false true e p q r = absurd (true≢false (sym e))
    by false false e p q r = r

ends_join : (xs ys : List Done) → ends (xs ++ ys) ≡ ends xs ++ ends ys
ends_join [] ys = refl
ends_join (x ∷ xs) ys = ap (λ zs. (x.place, x.reader) ∷ zs) (ends_join xs ys)

same_flat : (f g : Who → List Done) (ws : List Who) → ((who : Who) → ends (f who) ≡ ends (g who)) → ends (flat_map f ws) ≡ ends (flat_map g ws)
same_flat f g [] h = refl
same_flat f g (who ∷ ws) h =
    ends_join (f who) (flat_map f ws) ∙ (ap (λ zs. zs ++ ends (flat_map f ws)) (h who) ∙ (ap (λ zs. ends (g who) ++ zs) (same_flat f g ws h) ∙ sym (ends_join (g who) (flat_map g ws))))

chains_rise : (w : Text) (h : History) (t : Seen) → TellsPlaced w h t → ((a : ℕ) → a < length w.opening.states → RivalsRise (chain a h)) → (a : ℕ) → RivalsRise (chain a (seen_history t))
chains_rise w h t k rise a = by (nat_lt a (length w.opening.states)) refl
  where
    by : (b : Bool) → nat_lt a (length w.opening.states) ≡ b → RivalsRise (chain a (seen_history t))
    by true e =
        let less = ltb-true a (length w.opening.states) e in
        rise_ends (chain a (seen_history t)) (chain a h)
        (ap (λ (ws : List Who). ends (flat_map (λ who. filter (stands_for a who) (map (seen_done t.ran) t.members)) ws)) (k.placed a less)
        ∙ same_flat (λ who. filter (stands_for a who) (map (seen_done t.ran) t.members)) (λ who. filter (stands_for a who) h.committed) (h.placed a) (λ who. same_filter t.ran a who t.members h.committed k.members))
        (rise a less)
    by false e = subst (λ (ws : List Who). RivalsRise (flat_map (λ who. filter (stands_for a who) (map (seen_done t.ran) t.members)) ws)) (sym (k.beyond a (beyond a (length w.opening.states) e))) tt
      where
        beyond : (i n : ℕ) → nat_lt i n ≡ false → n ≤ i
        beyond i n e = ltb-false i n e

pub order_told : (w : Text) (h : History) (t : Seen) (ls : List Line) → TellsPlaced w h t → ((a : ℕ) → a < length w.opening.states → RivalsRise (chain a h)) → EachLine (TellsOrder t) [] ls
order_told w h t ls k rise = each [] ls
  where
    one : (front : List Line) (l : Line) → TellsOrder t front l
    one front (Reply n v) = rise_to n (seen_history t) (chains_rise w h t k rise)
    one front (Actor a fields) = tt
    one front (End x y z) = tt
    one front (Kept p v) = tt
    one front (Recovered x y u c z) = tt

    each : (front ls : List Line) → EachLine (TellsOrder t) front ls
    each front [] = tt
    each front (l ∷ ls) = (one front l, each (front ++ l ∷ []) ls)

-- ---- places

no_below : (ran : ℕ → List ℕ) (m : Member) (d : Done) (ms : List Member) (ds : List Done) → m.who ≡ d.who → EachTold ran ms ds → AllByRecursion (λ e. IsNotBelow d.who e.who) ds → AllByRecursion (λ x. IsNotBelow m.who x.who) ms
no_below ran m d [] ds e k h = tt
no_below ran m d (x ∷ ms) [] e k h = absurd k
no_below ran m d (x ∷ ms) (y ∷ ds) e k h =
    (subst (λ (u : Who). IsNotBelow u x.who) (sym e) (subst (λ (u : Who). IsNotBelow d.who u) (sym (k.0).who) h.0), no_below ran m d ms ds e k.1 h.1)

pub has_place : (ran : ℕ → List ℕ) (front : List Done) (d : Done) (rest : List Done) (ms : List Member) → EachTold ran ms (front ++ d ∷ rest) → BatchesRise (front ++ d ∷ rest) → IsPlacedAt d.tx d.place ms
has_place ran [] d rest [] k h = absurd k
has_place ran [] d rest (m ∷ ms) k h = record { member = m; front = []; rest = ms; splits = refl; tx = (k.0).tx; place = (k.0).place; in_order = no_below ran m d ms rest (k.0).who k.1 h.0 }
has_place ran (x ∷ front) d rest [] k h = absurd k
has_place ran (x ∷ front) d rest (m ∷ ms) k h =
    let q = has_place ran front d rest ms k.1 h.1 in
    record { member = q.member; front = m ∷ q.front; rest = q.rest; splits = ap (λ zs. m ∷ zs) q.splits; tx = q.tx; place = q.place; in_order = q.in_order }
