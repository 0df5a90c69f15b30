-- An index keeps up with its list.
use Rattle.std.proofs.Common.{◌≡◌, ℕ, ◌<◌, cond, eqb, Option, Some, None, List, [], ◌∷◌, ◌++◌, length, get_or, set, refl, sym, ap, ◌∙◌, subst, inl, inr, arith}
use Rattle.std.proofs.lemmas.Bool.{eq-eqb, ne_eqb, cases_eq, cases_lt, cond-true, cond-false}
use Rattle.std.proofs.lemmas.Grind.{get_or-set_at}
use Rattle.std.proofs.lemmas.List.{get_or-set_other, get_or_append_left, length-set, length_push}
use Rattle.protocol.specs.Parts.{Act}
use Rattle.protocol.specs.Words.{act_of}
use Rattle.protocol.specs.OnBook.{changed_act}
use Rattle.act_commit.specs.declared.vote.Change.{Change}
use Rattle.act_commit.specs.declared.vote.Change.TheVariants.{Marked, Decided, Sealed}
use Rattle.act_commit.specs.Changes.{change_of}
use Rattle.act_commit.specs.Index.{IsIndex}
use Rattle.act_commit.proofs.Finding.{IsNowhere, IsOnlyAt, act_of-nowhere, act_of-at, changed_act-nowhere, changed_act-at, nowhere_since}

some_is : (i j : ℕ) → Some i ≡ Some j → i ≡ j
some_is i j e = cc e

nowhere_by : (f : ℕ → Option ℕ) (t : ℕ) (acts : List Act) → IsIndex f acts → f t ≡ None → IsNowhere t acts
nowhere_by f t acts h e i d lt at = cc (sym (subst (λ n. f n ≡ Some i) at (h.finds i d lt)) ∙ e)

only_by : (f : ℕ → Option ℕ) (t i : ℕ) (acts : List Act) → IsIndex f acts → f t ≡ Some i → IsOnlyAt t acts i
only_by f t i acts h e j d lt at = some_is j i (sym (subst (λ n. f n ≡ Some j) at (h.finds j d lt)) ∙ e)

pub act_of-no_place : (f : ℕ → Option ℕ) (t : ℕ) (acts : List Act) → IsIndex f acts → f t ≡ None → act_of t acts ≡ None
act_of-no_place f t acts h e = act_of-nowhere t acts (nowhere_by f t acts h e)

pub act_of-place : (f : ℕ → Option ℕ) (t i : ℕ) (d : Act) (acts : List Act) → IsIndex f acts → f t ≡ Some i → act_of t acts ≡ Some (get_or acts i d)
act_of-place f t i d acts h e = act_of-at t acts i d (h.within t i e) (h.found t i d e) (only_by f t i acts h e)

pub changed-no_place : (f : ℕ → Option ℕ) (t : ℕ) (g : Act → Act) (acts : List Act) → IsIndex f acts → f t ≡ None → changed_act t g acts ≡ acts
changed-no_place f t g acts h e = changed_act-nowhere t g acts (nowhere_by f t acts h e)

pub changed-place : (f : ℕ → Option ℕ) (t i : ℕ) (d : Act) (g : Act → Act) (acts : List Act) → IsIndex f acts → f t ≡ Some i
    → changed_act t g acts ≡ set acts i (g (get_or acts i d))
changed-place f t i d g acts h e = changed_act-at t g acts i d (h.within t i e) (h.found t i d e) (only_by f t i acts h e)

pub tid_stays : (change : Change) (x : Act) → (change_of change x).tid ≡ x.tid
tid_stays (Marked mark actor) x = refl
tid_stays (Decided number) x = refl
tid_stays Sealed x = refl

tid_set : (acts : List Act) (i : ℕ) (y : Act) (j : ℕ) (d : Act) → i < length acts → ((e : Act) → y.tid ≡ (get_or acts i e).tid) → (get_or (set acts i y) j d).tid ≡ (get_or acts j d).tid
tid_set acts i y j d lt same =
    elim (cases_eq j i) [
      | inl e ↦ ap (λ x. x.tid) (get_or-set_at acts i j y d e lt) ∙ (same d ∙ ap (λ n. (get_or acts n d).tid) (sym e))
      | inr ne ↦ ap (λ x. x.tid) (get_or-set_other acts i j y d ne)
    ]

-- one ACT changes, and keeps its tid
pub index_set : (f : ℕ → Option ℕ) (acts : List Act) (i : ℕ) (y : Act) → IsIndex f acts → i < length acts → ((d : Act) → y.tid ≡ (get_or acts i d).tid) → IsIndex f (set acts i y)
index_set f acts i y h lt same = record {
  finds = λ j d lt'. ap f (tid_set acts i y j d lt same) ∙ h.finds j d (omega (arith, lt', length-set acts i y));
  within = λ t j e. omega (arith, h.within t j e, length-set acts i y);
  found = λ t j d e. tid_set acts i y j d lt same ∙ h.found t j d e;
}

last_of : (acts : List Act) (y d : Act) → get_or (acts ++ y ∷ []) (length acts) d ≡ y
last_of [] y d = refl
last_of (x ∷ xs) y d = last_of xs y d

-- one more ACT, whose tid is new
pub index_more : (f g : ℕ → Option ℕ) (acts : List Act) (y : Act) (key place : ℕ) → IsIndex f acts → act_of y.tid acts ≡ None → key ≡ y.tid → place ≡ length acts
    → ((q : ℕ) → g q ≡ cond (eqb key q) (Some place) (f q)) → IsIndex g (acts ++ y ∷ [])
index_more f g acts y key place h new key_is place_is updates = record {
  finds = λ j d lt.
      elim (cases_lt j (length acts)) [
        | inl below ↦
            ap g (ap (λ x. x.tid) (get_or_append_left acts (y ∷ []) d j below)) ∙ (at_old (get_or acts j d).tid (λ e. nowhere_since y.tid acts new j d below (sym e)) ∙ h.finds j d below)
        | inr above ↦
            let last : j ≡ length acts = omega (arith, lt, length_push acts y, above) in
            ap (λ n. g (get_or (acts ++ y ∷ []) n d).tid) last ∙ (ap (λ (x : Act). g x.tid) (last_of acts y d) ∙ (at_new ∙ ap Some (sym last)))
      ];
  within = λ t j e.
      elim (cases_eq y.tid t) [
        | inl same ↦ omega (arith, is_last t j same e, length_push acts y)
        | inr other ↦ omega (arith, h.within t j (sym (at_old t other) ∙ e), length_push acts y)
      ];
  found = λ t j d e.
      elim (cases_eq y.tid t) [
        | inl same ↦ ap (λ n. (get_or (acts ++ y ∷ []) n d).tid) (is_last t j same e) ∙ (ap (λ (x : Act). x.tid) (last_of acts y d) ∙ same)
        | inr other ↦
            let before : f t ≡ Some j = sym (at_old t other) ∙ e in
            ap (λ x. x.tid) (get_or_append_left acts (y ∷ []) d j (h.within t j before)) ∙ h.found t j d before
      ];
}
  where
    at_new : g y.tid ≡ Some (length acts)
    at_new = updates y.tid ∙ (cond-true (eqb key y.tid) (Some place) (f y.tid) (eq-eqb key y.tid key_is) ∙ ap Some place_is)

    at_old : (q : ℕ) → (y.tid ≡ q → ⊥) → g q ≡ f q
    at_old q other = updates q ∙ cond-false (eqb key q) (Some place) (f q) (ne_eqb key q (λ e. other (sym key_is ∙ e)))

    is_last : (t j : ℕ) → y.tid ≡ t → g t ≡ Some j → j ≡ length acts
    is_last t j same e = some_is j (length acts) (sym e ∙ (ap g (sym same) ∙ at_new))
