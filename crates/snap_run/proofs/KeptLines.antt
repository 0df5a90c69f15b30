-- The lines of what is kept grow by one that is kept, and those of a batch by a line at a time.
use Rattle.std.proofs.Common.{◌≡◌, ℕ, ◌+◌, ◌<◌, zero, suc, ℤ, Option, None, Some, List, [], ◌∷◌, ◌++◌, length, take, get_or, slice_get, refl, sym, ap, ◌∙◌, append_assoc, append-nil, arith, Bor}
use Rattle.std.specs.Prelude.{◌≤◌, MatchOption, option_copied}
use Rattle.std.specs.List.{HoldsAt}
use Rattle.std.proofs.lemmas.List.{take_more, take_all}
use Rattle.std.proofs.lemmas.List.Concat.{flat_map-append}
use Rattle.std.proofs.lemmas.Option.{slice_get_past, slice_get_read}
use Rattle.run_work.specs.snap_base.declared.ids.Bid.{Bid}
use Rattle.run_work.specs.snap_base.declared.ids.Tid.{Tid}
use Rattle.run_work.specs.run_opening.snap_recover.declared.openings.Kept.{Kept}
use Rattle.snap_report.specs.Lines.{all_kept_text, batch_text, kept_text, lines_of, pact_place}

pub all_kept_more : (all : List Kept) (n : ℕ) (d : Kept) → n < length all → all_kept_text (take n all) ++ lines_of (get_or all n d) ≡ all_kept_text (take (n + 1) all)
all_kept_more all n d lt =
    ap (λ l. all_kept_text (take n all) ++ l) (sym (append-nil (lines_of (get_or all n d))))
    ∙ (sym (flat_map-append lines_of (take n all) (get_or all n d ∷ [])) ∙ ap all_kept_text (sym (take_more all n d lt)))

-- without values
none_more : (bid : Bid) (tids : List Tid) (n : ℕ) (d : Tid) → n < length tids
    → batch_text bid (take n tids) [] ++ kept_text (pact_place bid (get_or tids n d)) None ≡ batch_text bid (take (suc n) tids) []
none_more bid [] n d lt = absurd (omega (arith, lt))
none_more bid (t ∷ tids) zero d lt = sym (append-nil _)
none_more bid (t ∷ tids) (suc n) d lt =
    append_assoc (kept_text (pact_place bid t) None) (batch_text bid (take n tids) []) _
    ∙ ap (λ l. kept_text (pact_place bid t) None ++ l) (none_more bid tids n d (omega (arith, lt)))

line_more : (bid : Bid) (tids : List Tid) (values : List ℤ) (n : ℕ) (d : Tid) → n < length tids
    → batch_text bid (take n tids) (take n values) ++ kept_text (pact_place bid (get_or tids n d)) (slice_get values n) ≡ batch_text bid (take (suc n) tids) (take (suc n) values)
line_more bid [] values n d lt = absurd (omega (arith, lt))
line_more bid (t ∷ tids) [] zero d lt = sym (append-nil _)
line_more bid (t ∷ tids) (v ∷ values) zero d lt = sym (append-nil _)
line_more bid (t ∷ tids) [] (suc n) d lt =
    append_assoc (kept_text (pact_place bid t) None) (batch_text bid (take n tids) []) _
    ∙ ap (λ l. kept_text (pact_place bid t) None ++ l) (none_more bid tids n d (omega (arith, lt)))
line_more bid (t ∷ tids) (v ∷ values) (suc n) d lt =
    append_assoc (kept_text (pact_place bid t) (Some v)) (batch_text bid (take n tids) (take n values)) _
    ∙ ap (λ l. kept_text (pact_place bid t) (Some v) ++ l) (line_more bid tids values n d (omega (arith, lt)))

pub batch_more : (bid : Bid) (tids : List Tid) (values : List ℤ) (n : ℕ) (d : Tid) → n < length tids
    → batch_text bid (take n tids) (take n values) ++ kept_text (pact_place bid (get_or tids n d)) (slice_get values n) ≡ batch_text bid (take (n + 1) tids) (take (n + 1) values)
batch_more bid tids values n d lt =
    let next : suc n ≡ n + 1 = omega arith in
    line_more bid tids values n d lt ∙ ap (λ m. batch_text bid (take m tids) (take m values)) next

-- the lines of all of a batch
pub batch_whole : (bid : Bid) (tids : List Tid) (values : List ℤ) (n : ℕ) → length tids ≤ n → batch_text bid (take n tids) (take n values) ≡ batch_text bid tids values
batch_whole bid [] values zero le = refl
batch_whole bid [] values (suc n) le = refl
batch_whole bid (t ∷ tids) values zero le = absurd (omega (arith, le))
batch_whole bid (t ∷ tids) [] (suc n) le = ap (λ ts. kept_text (pact_place bid t) None ++ batch_text bid ts []) (take_all n tids (omega (arith, le)))
batch_whole bid (t ∷ tids) (v ∷ values) (suc n) le = ap (λ l. kept_text (pact_place bid t) (Some v) ++ l) (batch_whole bid tids values n (omega (arith, le)))

-- the value that stands there, if there is one
pub copied_at : (values : List ℤ) (n : ℕ) (o : Option (Bor ℤ)) → MatchOption o (length values ≤ n) (λ x. (n < length values) × HoldsAt (λ y. x.now ≡ y) values n)
    → option_copied o ≡ slice_get values n
copied_at values n None past = sym (slice_get_past values n past)
copied_at values n (Some x) at = sym (slice_get_read values (length values) n x.now refl at.0 (at.1 x.now))
