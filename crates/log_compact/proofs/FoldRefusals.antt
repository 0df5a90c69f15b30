-- Lists are refused with one answer at most, and then they fold to nothing.
use Rattle.std.proofs.Common.{◌≡◌, ◌≢◌, ℕ, zero, suc, ◌<◌, inl, inr, List, [], ◌∷◌, ◌++◌, length, get_or, refl, sym, ap, subst, ◌∙◌, arith}
use Rattle.std.proofs.lemmas.Bool.{cases_lt}
use Rattle.std.specs.List.{AllByRecursion}
use Rattle.txn_records.specs.declared.records.Record.{Record}
use Rattle.snap_recover.specs.declared.openings.Opening.{Opening}
use Rattle.snap_recover.specs.declared.refusals.RecoverNo.{RecoverNo}
use Rattle.snap_recover.specs.declared.refusals.RecoverNo.TheVariants as recovery
use Rattle.snap_recover.specs.Opening.{IsRecovered}
use Rattle.snap_recover.specs.Refusals.{IsRefused}
use Rattle.log_compact.specs.declared.refusals.FoldNo.TheVariants.{Stray, Range, Recover, Memory}
use Rattle.log_compact.specs.Folds.{RefusedAreNotFolded, OneFoldRefusal}
use Rattle.log_compact.specs.Points.{IsPlain}
use Rattle.log_compact.specs.Refusals.{IsListFit, IsFirstStray}
use Rattle.log_compact.specs.Sets.{HasNoStray, plain_lists}

plain_at : (lists : List (List Record)) (n : ℕ) → n < length lists → AllByRecursion (AllByRecursion IsPlain) lists → AllByRecursion IsPlain (get_or lists n [])
plain_at [] n l h = absurd (omega (arith, l))
plain_at (rs ∷ lists) zero l h = h.0
plain_at (rs ∷ lists) (suc n) l h = plain_at lists n (omega (arith, l)) h.1

fit_at : (lists : List (List Record)) (n : ℕ) → n < length lists → HasNoStray lists → IsListFit n (get_or lists n [])
fit_at [] n l h = absurd (omega (arith, l))
fit_at (rs ∷ lists) zero l h = h.0
fit_at (rs ∷ lists) (suc n) l h = plain_at lists n (omega (arith, l)) h.1

at_end : (front behind : List (List Record)) (rs : List Record) → get_or (front ++ rs ∷ behind) (length front) [] ≡ rs
at_end [] behind rs = refl
at_end (x ∷ front) behind rs = at_end front behind rs

in_front : (front behind : List (List Record)) (n : ℕ) → n < length front → get_or (front ++ behind) n [] ≡ get_or front n []
in_front [] behind n l = absurd (omega (arith, l))
in_front (x ∷ front) behind zero l = refl
in_front (x ∷ front) behind (suc n) l = in_front front behind n (omega (arith, l))

longer : (front behind : List (List Record)) (rs : List Record) → length front < length (front ++ rs ∷ behind)
longer [] behind rs = omega arith
longer (x ∷ front) behind rs = omega (arith, longer front behind rs)

-- the list at the end of the front is the one at that place
stands : (lists : List (List Record)) (log : ℕ) (s : IsFirstStray lists log) → get_or lists log [] ≡ s.2
stands lists log s = ap (λ z. get_or z log []) s.3 ∙ (ap (λ n. get_or (s.0 ++ s.2 ∷ s.1) n []) s.4 ∙ at_end s.0 s.1 s.2)

pub no_stray_fits : (lists : List (List Record)) (log : ℕ) → HasNoStray lists → ¬ IsFirstStray lists log
no_stray_fits lists log h s =
    let l : log < length lists = omega (arith, longer s.0 s.1 s.2, s.4, ap (λ z. length z) s.3) in
    s.6 (subst (IsListFit log) (stands lists log s) (fit_at lists log l h))

-- of two the later one does not stray, since the lists before the first are fit
not_later : (lists : List (List Record)) (a b : ℕ) → IsFirstStray lists a → IsFirstStray lists b → ¬ (a < b)
not_later lists a b s t l =
    let k : a < length t.0 = omega (arith, l, t.4) in
    s.6 (subst (IsListFit a) (sym (in_front t.0 (t.2 ∷ t.1) a k) ∙ (ap (λ z. get_or z a []) (sym t.3) ∙ stands lists a s)) (fit_at t.0 a k t.5))

one_stray : (lists : List (List Record)) (a b : ℕ) → IsFirstStray lists a → IsFirstStray lists b → a ≡ b
one_stray lists a b s t = elim (cases_lt a b) [
  | inl l ↦ absurd (not_later lists a b s t l)
  | inr l ↦ elim (cases_lt b a) [ inl k ↦ absurd (not_later lists b a t s k) | inr k ↦ omega (arith, l, k) ]
]

abbrev OneRefusal : Type 0
OneRefusal = (logs : List (List Record)) (x y : RecoverNo) → x ≢ recovery.Memory → y ≢ recovery.Memory → IsRefused logs x → IsRefused logs y → x ≡ y

pub one_fold_refusal : OneRefusal → OneFoldRefusal
one_fold_refusal one lists (Stray a) (Stray b) n m x y = ap Stray (one_stray lists a b x y)
one_fold_refusal one lists (Stray a) (Range k log) n m x y = absurd (no_stray_fits lists a y.0 x)
one_fold_refusal one lists (Stray a) (Recover why) n m x y = absurd (no_stray_fits lists a y.0 x)
one_fold_refusal one lists (Range k log) (Stray b) n m x y = absurd (no_stray_fits lists b x.0 y)
one_fold_refusal one lists (Range k log) (Range j at) n m x y = let e = x.1 ∙ sym y.1 in let i = x.2 ∙ sym y.2 in cc
one_fold_refusal one lists (Range k log) (Recover why) n m x y = absurd (x.3 y.1)
one_fold_refusal one lists (Recover why) (Stray b) n m x y = absurd (no_stray_fits lists b x.0 y)
one_fold_refusal one lists (Recover why) (Range j at) n m x y = absurd (y.3 x.1)
one_fold_refusal one lists (Recover why) (Recover other) n m x y = ap Recover (one (plain_lists lists) why other x.2 y.2 x.3 y.3)
one_fold_refusal one lists Memory y n m a b = absurd (n refl)
one_fold_refusal one lists (Stray a) Memory n m x y = absurd (m refl)
one_fold_refusal one lists (Range k log) Memory n m x y = absurd (m refl)
one_fold_refusal one lists (Recover why) Memory n m x y = absurd (m refl)

abbrev RefusedIsNone : Type 0
RefusedIsNone = (logs : List (List Record)) (no : RecoverNo) (o : Opening) → no ≢ recovery.Memory → IsRefused logs no → ¬ IsRecovered logs o

pub refused_are_not_folded : RefusedIsNone → RefusedAreNotFolded
refused_are_not_folded none lists (Stray log) f m x h = no_stray_fits lists log h.no_stray x
refused_are_not_folded none lists (Range k log) f m x h = x.3 h.in_range
refused_are_not_folded none lists (Recover why) f m x h = none (plain_lists lists) why h.found x.2 x.3 h.recovered
refused_are_not_folded none lists Memory f m x h = m refl
