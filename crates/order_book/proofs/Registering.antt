-- The register stays true to its ACTs, whatever becomes of one of them.
use Rattle.std.proofs.Common.{◌≡◌, ℕ, zero, suc, ◌+◌, ◌^◌, ◌<◌, refl, ap, sym, ◌∙◌, subst, arith, length, get_or, set, map, List, [], ◌∷◌, ◌++◌}
use Rattle.std.specs.Prelude.{◌==◌, Bool, true, false, is_some, Option, Some, None, slice_get}
use Rattle.std.specs.List.{All, AllByRecursion}
use Rattle.std.proofs.lemmas.Bool.{eqb-true, eqb-false, false≢true}
use Rattle.std.proofs.lemmas.List.{length-map, map_push, get_or-set_same, get_or-set_other}
use Rattle.std.proofs.lemmas.List.Elements.{recursion_from_All}
use Rattle.protocol.specs.Cutting.{Ascends}
use Rattle.protocol.specs.Parts.{Act}
use Rattle.protocol.specs.Words.{holds, is_live_act}
use Rattle.protocol.specs.OnBook.{new_act}
use Rattle.order_book.specs.declared.change.Change.{Change}
use Rattle.order_book.specs.declared.change.Change.TheVariants.{Lower, Cross, Raise, Doom, Place, Leave, TakeAlong}
use Rattle.order_book.specs.Kept.{forgotten}
use Rattle.order_book.specs.Changes.{changed_at, changed_by}
use Rattle.protocol.specs.Numbers.{one_if}
use Rattle.order_book.specs.Registered.{IsRegistered, first_kept}
use Rattle.order_book.proofs.Finding.{tids_changed, found_changed, tids_forgotten, found_forgotten, found_push, rising_push, tids_below}
use Rattle.order_book.proofs.Counting.{count_changed, count_small, one_if_small, count_push, count_forgotten}

pub keeps_tid : (c : Change) (x : Act) → (changed_by c x).tid ≡ x.tid
keeps_tid (Lower k) x = refl
keeps_tid (Cross a) x = refl
keeps_tid (Raise m) x = refl
keeps_tid (Doom why) x = refl
keeps_tid Place x = refl
keeps_tid (Leave a) x = refl
keeps_tid (TakeAlong k by) x = refl

pub keeps_tx : (c : Change) (x : Act) → (changed_by c x).tx ≡ x.tx
keeps_tx (Lower k) x = refl
keeps_tx (Cross a) x = refl
keeps_tx (Raise m) x = refl
keeps_tx (Doom why) x = refl
keeps_tx Place x = refl
keeps_tx (Leave a) x = refl
keeps_tx (TakeAlong k by) x = refl

-- ---- one ACT is changed

changed_there : (f : Act → Act) → ((x : Act) → (f x).tid ≡ x.tid) → ((x : Act) → (f x).tx ≡ x.tx)
    → (at : ℕ) (acts : List Act) (tids : List ℕ) (by_tx : List (Option ℕ)) (live later : ℕ) (was is : Bool)
    → IsRegistered acts tids by_tx live → was ≡ holds is_live_act (slice_get acts at) → is ≡ holds is_live_act (slice_get (changed_at at f acts) at)
    → later + one_if was ≡ live + one_if is → IsRegistered (changed_at at f acts) tids by_tx later
changed_there f tid tx at acts tids by_tx live later was is r w i counted = record {
  listed = r.listed ∙ sym (tids_changed at f acts tid);
  rising = r.rising;
  found = λ n. r.found n ∙ sym (found_changed n at f acts tid tx);
  counted = omega (arith, counted, r.counted, count_changed is_live_act at f acts, ap one_if w, ap one_if i);
}

pub registered_changed : (f : Act → Act) → ((x : Act) → (f x).tid ≡ x.tid) → ((x : Act) → (f x).tx ≡ x.tx)
    → (at : ℕ) (acts new : List Act) (tids : List ℕ) (by_tx : List (Option ℕ)) (live later : ℕ) (was is : Bool)
    → IsRegistered acts tids by_tx live → new ≡ changed_at at f acts → was ≡ holds is_live_act (slice_get acts at) → is ≡ holds is_live_act (slice_get new at)
    → later + one_if was ≡ live + one_if is → IsRegistered new tids by_tx later
registered_changed f tid tx at acts new tids by_tx live later was is r e w i counted =
    subst (λ (zs : List Act). IsRegistered zs tids by_tx later) (sym e)
    (changed_there f tid tx at acts tids by_tx live later was is r w (i ∙ ap (λ (zs : List Act). holds is_live_act (slice_get zs at)) e) counted)

pub count_fits : (acts : List Act) (tids : List ℕ) (by_tx : List (Option ℕ)) (live : ℕ) → IsRegistered acts tids by_tx live → length tids < 2 ^ 63 → (b : Bool) → live + one_if b < 2 ^ 64
count_fits acts tids by_tx live r small b = omega (arith, r.counted, count_small is_live_act acts, ap length r.listed, length-map acts (λ (x : Act). x.tid), small, one_if_small b)

-- ---- all after numbers are forgotten

pub registered_forgotten : (acts new : List Act) (tids : List ℕ) (by_tx : List (Option ℕ)) (live : ℕ) → IsRegistered acts tids by_tx live → new ≡ map forgotten acts → IsRegistered new tids by_tx live
registered_forgotten acts new tids by_tx live r e = subst (λ (zs : List Act). IsRegistered zs tids by_tx live) (sym e) (record {
  listed = r.listed ∙ sym (tids_forgotten acts);
  rising = r.rising;
  found = λ n. r.found n ∙ sym (found_forgotten n acts);
  counted = r.counted ∙ sym (count_forgotten acts);
})

-- ---- one more ACT

pub registered_pushed : (t n : ℕ) (reader : Bool) (m : ℕ) (acts new : List Act) (tids : List ℕ) (by_tx more : List (Option ℕ)) (live : ℕ) → IsRegistered acts tids by_tx live
    → All (λ (x : Act). x.tid < t) acts → new ≡ acts ++ new_act t n reader m ∷ []
    → ((k : ℕ) → get_or more k None ≡ first_kept (get_or by_tx k None) (n == k) t) → IsRegistered new (tids ++ t ∷ []) more (live + 1)
registered_pushed t n reader m acts new tids by_tx more live r below e noted = subst (λ (zs : List Act). IsRegistered zs (tids ++ t ∷ []) more (live + 1)) (sym e) (record {
  listed = ap (λ (ns : List ℕ). ns ++ t ∷ []) r.listed ∙ sym (map_push (λ (x : Act). x.tid) acts (new_act t n reader m));
  rising = rising_push tids t r.rising (subst (AllByRecursion (λ k. k < t)) (sym r.listed) (tids_below t acts (recursion_from_All (λ (x : Act). x.tid < t) acts below)));
  found = λ k. noted k ∙ (ap (λ (o : Option ℕ). first_kept o (n == k) t) (r.found k) ∙ sym (found_push k acts (new_act t n reader m)));
  counted = ap (λ (k : ℕ). k + 1) r.counted ∙ sym (count_push is_live_act acts (new_act t n reader m) refl);
})

pub none_more : (xs : List (Option ℕ)) (n : ℕ) → get_or (xs ++ None ∷ []) n None ≡ get_or xs n None
none_more [] zero = refl
none_more [] (suc n) = refl
none_more (x ∷ xs) zero = refl
none_more (x ∷ xs) (suc n) = none_more xs n

first_stays : (o : Option ℕ) (b : Bool) (t : ℕ) → (b ≡ true → is_some o ≡ true) → o ≡ first_kept o b t
first_stays (Some k) b t there = refl
first_stays None true t there = absurd (false≢true (there refl))
first_stays None false t there = refl

-- a transaction that has an ACT keeps it
pub noted_before : (xs : List (Option ℕ)) (at n t : ℕ) → is_some (get_or xs at None) ≡ true → get_or xs n None ≡ first_kept (get_or xs n None) (at == n) t
noted_before xs at n t there = first_stays (get_or xs n None) (at == n) t (λ e. ap (λ (k : ℕ). is_some (get_or xs k None)) (sym (eqb-true at n e)) ∙ there)

noted_by : (xs : List (Option ℕ)) (at n t : ℕ) → at < length xs → get_or xs at None ≡ None → (b : Bool) → (at == n) ≡ b → get_or (set xs at (Some t)) n None ≡ first_kept (get_or xs n None) b t
noted_by xs at n t lt none true e =
    ap (λ (k : ℕ). get_or (set xs at (Some t)) k None) (sym (eqb-true at n e))
    ∙ (get_or-set_same xs at (Some t) None lt
    ∙ ap (λ (o : Option ℕ). first_kept o true t) (sym none ∙ ap (λ (k : ℕ). get_or xs k None) (eqb-true at n e)))
noted_by xs at n t lt none false e =
    get_or-set_other xs at n (Some t) None (λ same. eqb-false at n e (sym same)) ∙ first_stays (get_or xs n None) false t (λ bad. absurd (false≢true bad))

pub noted_now : (xs : List (Option ℕ)) (at n t : ℕ) → at < length xs → get_or xs at None ≡ None → get_or (set xs at (Some t)) n None ≡ first_kept (get_or xs n None) (at == n) t
noted_now xs at n t lt none = noted_by xs at n t lt none (at == n) refl

-- ---- room is made

pub registered_grown : (acts : List Act) (tids ids : List ℕ) (by_tx more : List (Option ℕ)) (live : ℕ) → IsRegistered acts tids by_tx live → ids ≡ tids → ((n : ℕ) → get_or more n None ≡ get_or by_tx n None) → IsRegistered acts ids more live
registered_grown acts tids ids by_tx more live r e same = record {
  listed = e ∙ r.listed;
  rising = subst Ascends (sym e) r.rising;
  found = λ n. same n ∙ r.found n;
  counted = r.counted;
}
