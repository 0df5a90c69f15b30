-- What the steps along a chain keep, and whom groups and stamps let stand there.
use Rattle.std.specs.Prelude.{◌≡◌, refl, ℕ, zero, suc, ◌+◌, ◌<◌, ◌≤◌, ◌==◌, not, Bool, true, false, ◌&&◌, ◌||◌, if◌then◌else◌, Option, None, List, [], ◌∷◌, ◌++◌, length, filter, map, take, drop, slice_index_or, Vec}
use Rattle.std.specs.List.{AllByRecursion, flat_map, list_any}
use Rattle.std.specs.declared.alloc.Global.{Global}
use Rattle.std.proofs.Common.{arith, sym, ap, subst, ◌∙◌}
use Rattle.std.proofs.lemmas.Bool.{eqb-true, false_from_ne_true}
use Rattle.std.proofs.lemmas.List.{append-nil, append_assoc, drop_more, take_more}
use Rattle.snap_base.proofs.Booleans.{and_true, or_assoc, or_false}
use Rattle.snap_base.proofs.Lists.{all_filter}
use Rattle.snap_base.specs.declared.ids.Tid.{Tid}
use Rattle.snap_base.specs.declared.transactions.Who as whose
use Rattle.snap_base.specs.declared.transactions.Who.TheVariants.{Batch, Act}
use Rattle.snap_base.specs.declared.verdicts.Place.{Place}
use Rattle.protocol.specs.Meant.{tid_number}
use Rattle.protocol.specs.Words.{is_among}
use Rattle.audit_words.proofs.Taken.{map_taken}
use Rattle.audit_tale.specs.declared.tales.MemberTale.{MemberTale}
use Rattle.audit_tale.specs.declared.told.ActorTale.{ActorTale}
use Rattle.trace_audit.specs.Risen.{AreGrouped, all_rise, chain_of, has_stamp, is_above, is_of_batch, mark_of, readers_top, rises_to, stamped, standing, still_rises, writers_top}

-- ---- one step

and_assoc : (a b c : Bool) → ((a && b) && c) ≡ (a && (b && c))
and_assoc true b c = refl
and_assoc false b c = refl

pub step_stays : (n : ℕ) (marks more : List Bool) (writers readers w r : Option Place) (m : MemberTale) (rest : List MemberTale) (above : Bool)
    → above ≡ is_above writers readers m → mark_of more n ≡ (mark_of marks n && (not (m.tx.0 == n) || above)) → w ≡ writers_top writers m → r ≡ readers_top readers m
    → still_rises n more w r rest ≡ still_rises n marks writers readers (m ∷ rest)
step_stays n marks more writers readers w r m rest above e f g h =
    ap (λ (z : Bool). z && rises_to n w r rest) f
    ∙ (ap (λ (z : Bool). (mark_of marks n && (not (m.tx.0 == n) || z)) && rises_to n w r rest) e
    ∙ (ap (λ (z : Option Place). (mark_of marks n && (not (m.tx.0 == n) || is_above writers readers m)) && rises_to n z r rest) g
    ∙ (ap (λ (z : Option Place). (mark_of marks n && (not (m.tx.0 == n) || is_above writers readers m)) && rises_to n (writers_top writers m) z rest) h
    ∙ and_assoc (mark_of marks n) (not (m.tx.0 == n) || is_above writers readers m) (rises_to n (writers_top writers m) (readers_top readers m) rest))))

-- ---- steps from the one at place i

filter_both_parts : (p : MemberTale → Bool) (x : MemberTale) (ys rest : List MemberTale) → filter p (x ∷ []) ++ (filter p ys ++ rest) ≡ filter p (x ∷ ys) ++ rest
filter_both_parts p x ys rest = by (p x)
  where
    by : (b : Bool) → (if b then x ∷ [] else []) ++ (filter p ys ++ rest) ≡ (if b then x ∷ filter p ys else filter p ys) ++ rest
    by true = refl
    by false = refl

pub filter_next : (p : MemberTale → Bool) (xs : List MemberTale) (i : ℕ) (d : MemberTale) (rest : List MemberTale) → i < length xs → filter p (slice_index_or xs i d ∷ []) ++ (filter p (drop (i + 1) xs) ++ rest) ≡ filter p (drop i xs) ++ rest
filter_next p xs i d rest h = filter_both_parts p (slice_index_or xs i d) (drop (i + 1) xs) rest ∙ ap (λ (z : List MemberTale). filter p z ++ rest) (sym (drop_more xs i d h))

pub flat_next : (f : whose.Who → List MemberTale) (xs : List whose.Who) (i : ℕ) (d : whose.Who) (rest : List MemberTale) → i < length xs → f (slice_index_or xs i d) ++ (flat_map f (drop (i + 1) xs) ++ rest) ≡ flat_map f (drop i xs) ++ rest
flat_next f xs i d rest h = sym (append_assoc (f (slice_index_or xs i d)) (flat_map f (drop (i + 1) xs)) rest) ∙ ap (λ (z : List whose.Who). flat_map f z ++ rest) (sym (drop_more xs i d h))

-- ---- stamps

any_more : {X : Type 0} (p : X → Bool) (xs : List X) (x : X) → list_any p (xs ++ x ∷ []) ≡ (list_any p xs || p x)
any_more p [] x = or_false (p x)
any_more p (y ∷ xs) x = ap (λ (b : Bool). p y || b) (any_more p xs x) ∙ or_assoc (p y) (list_any p xs) (p x)

among_next : (t : ℕ) (ran : List Tid) (i : ℕ) (d : Tid) → i < length ran → is_among t (map tid_number (take (i + 1) ran)) ≡ (is_among t (map tid_number (take i ran)) || ((slice_index_or ran i d).0 == t))
among_next t ran i d h = ap (is_among t) (map_taken tid_number ran i d h) ∙ any_more (λ x. x == t) (map tid_number (take i ran)) (slice_index_or ran i d).0

-- the stamp is above all that were put
not_stamped : (stamps : List ℕ) (stamp t : ℕ) → 1 ≤ stamp → AllByRecursion (λ x. x < stamp) stamps → has_stamp stamps stamp t ≡ false
not_stamped stamps stamp t l h = false_from_ne_true (has_stamp stamps stamp t) (λ e. by (slice_index_or stamps t 0) (small stamps t h) (eqb-true (slice_index_or stamps t 0) stamp e))
  where
    small : (xs : List ℕ) (i : ℕ) → AllByRecursion (λ x. x < stamp) xs → slice_index_or xs i 0 < stamp
    small [] i k = omega (arith, l)
    small (x ∷ xs) zero k = k.0
    small (x ∷ xs) (suc i) k = small xs i k.1

    by : (x : ℕ) → x < stamp → x ≡ stamp → ⊥
    by x k e = omega (arith, k, e)

-- ---- a chain, by groups and stamps

filter_alike : (p q : MemberTale → Bool) (P : MemberTale → Type 0) (xs : List MemberTale) → ((x : MemberTale) → P x → p x ≡ q x) → AllByRecursion P xs → filter p xs ≡ filter q xs
filter_alike p q P [] h k = refl
filter_alike p q P (x ∷ xs) h k = ap (λ (b : Bool). if b then x ∷ filter p xs else filter p xs) (h x k.0) ∙ ap (λ (z : List MemberTale). if q x then x ∷ z else z) (filter_alike p q P xs h k.1)

chain_by_stamps : (ms : List MemberTale) (by_batch by_tid : List (Vec MemberTale Global)) (stamps : List ℕ) (stamp : ℕ) (ran : List Tid) → AreGrouped ms by_batch by_tid → AllByRecursion (λ m. m.tid.0 < length stamps) ms
    → ((t : ℕ) → t < length stamps → has_stamp stamps stamp t ≡ is_among t (map tid_number ran)) → (ws : List whose.Who) → flat_map (stamped by_batch by_tid stamps stamp) ws ≡ flat_map (standing ms ran) ws
chain_by_stamps ms by_batch by_tid stamps stamp ran g l h [] = refl
chain_by_stamps ms by_batch by_tid stamps stamp ran g l h (who ∷ ws) =
    ap (λ (z : List MemberTale). z ++ flat_map (stamped by_batch by_tid stamps stamp) ws) (one who) ∙ ap (λ (z : List MemberTale). standing ms ran who ++ z) (chain_by_stamps ms by_batch by_tid stamps stamp ran g l h ws)
  where
    one : (who : whose.Who) → stamped by_batch by_tid stamps stamp who ≡ standing ms ran who
    one (Batch k) = ap (filter (λ m. has_stamp stamps stamp m.tid.0)) (g.batches k.0)
        ∙ filter_alike (λ m. has_stamp stamps stamp m.tid.0) (λ m. is_among m.tid.0 (map tid_number ran)) (λ m. m.tid.0 < length stamps) (filter (λ m. is_of_batch k.0 m.who) ms) (λ m k. h m.tid.0 k)
        (all_filter (λ m. m.tid.0 < length stamps) (λ m. is_of_batch k.0 m.who) ms l)
    one (Act t) = g.acts t.0

-- ---- the actors

pub rise_next : (n : ℕ) (ms : List MemberTale) (xs : List ActorTale) (i : ℕ) (d : ActorTale) → i < length xs → all_rise n ms (take (i + 1) xs) ≡ (all_rise n ms (take i xs) && rises_to n None None (chain_of ms (slice_index_or xs i d)))
rise_next n ms xs i d h = ap (all_rise n ms) (take_more xs i d h) ∙ more (take i xs) (slice_index_or xs i d)
  where
    more : (ys : List ActorTale) (y : ActorTale) → all_rise n ms (ys ++ y ∷ []) ≡ (all_rise n ms ys && rises_to n None None (chain_of ms y))
    more [] y = and_true (rises_to n None None (chain_of ms y))
    more (x ∷ ys) y = ap (λ (b : Bool). rises_to n None None (chain_of ms x) && b) (more ys y) ∙ sym (and_assoc (rises_to n None None (chain_of ms x)) (all_rise n ms ys) (rises_to n None None (chain_of ms y)))

-- what one actor's chain adds
pub walked : (n : ℕ) (marks more : List Bool) (w r : Option Place) (chain steps : List MemberTale) → steps ≡ chain → still_rises n more w r [] ≡ still_rises n marks None None (steps ++ []) → mark_of more n ≡ (mark_of marks n && rises_to n None None chain)
walked n marks more w r chain steps e h = sym (and_true (mark_of more n)) ∙ (h ∙ ap (λ (z : List MemberTale). mark_of marks n && rises_to n None None z) (append-nil steps ∙ e))

-- one more that ran is stamped
pub stamped_next : (stamp t : ℕ) (first now more : List ℕ) (ran : List Tid) (i : ℕ) (d : Tid) → i < length ran → has_stamp more stamp t ≡ (has_stamp now stamp t || ((slice_index_or ran i d).0 == t))
    → has_stamp now stamp t ≡ (has_stamp first stamp t || is_among t (map tid_number (take i ran))) → has_stamp more stamp t ≡ (has_stamp first stamp t || is_among t (map tid_number (take (i + 1) ran)))
stamped_next stamp t first now more ran i d l e f = e ∙ (ap (λ (b : Bool). b || ((slice_index_or ran i d).0 == t)) f
    ∙ (sym (or_assoc (has_stamp first stamp t) (is_among t (map tid_number (take i ran))) ((slice_index_or ran i d).0 == t))
    ∙ ap (λ (b : Bool). has_stamp first stamp t || b) (sym (among_next t ran i d l))))

-- the chain of an actor whose stamp is above all that were put before
pub chain_walked : (ms : List MemberTale) (by_batch by_tid : List (Vec MemberTale Global)) (old new : List ℕ) (stamp : ℕ) (ran : List Tid) (ws : List whose.Who) → 1 ≤ stamp → AreGrouped ms by_batch by_tid
    → AllByRecursion (λ m. m.tid.0 < length old) ms → AllByRecursion (λ x. x < stamp) old → length new ≡ length old → ((t : ℕ) → t < length old → has_stamp new stamp t ≡ (has_stamp old stamp t || is_among t (map tid_number ran)))
    → flat_map (stamped by_batch by_tid new stamp) ws ≡ flat_map (standing ms ran) ws
chain_walked ms by_batch by_tid old new stamp ran ws one g l few many h =
    chain_by_stamps ms by_batch by_tid new stamp ran g (subst (λ (z : ℕ). AllByRecursion (λ m. m.tid.0 < z) ms) (sym many) l)
    (λ t k. h t (omega (arith, k, many)) ∙ ap (λ (b : Bool). b || is_among t (map tid_number ran)) (not_stamped old stamp t one few)) ws
