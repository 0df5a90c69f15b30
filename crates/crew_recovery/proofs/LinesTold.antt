-- The lines of the replies of a run, and of one more that is allowed: what they say committed is what is recovered.
use Rattle.std.proofs.Common.{◌≡◌, ℕ, inl, inr, Bool, true, false, Option, None, Some, List, [], ◌∷◌, ◌++◌, map, refl, sym, ap, ◌∙◌, append-nil}
use Rattle.std.specs.Prelude.{ℤ}
use Rattle.std.specs.Io.KnownBytes.{Appends}
use Rattle.std.specs.List.{AllByRecursion}
use Rattle.std.proofs.lemmas.Grind.{flat_map-append}
use Rattle.snap_base.proofs.Lists.{all_push}
use Rattle.snap_base.proofs.Options.{somebody}
use Rattle.snap_base.specs.declared.transactions.TxResult.TheVariants.{Value}
use Rattle.snap_base.specs.declared.verdicts.Place.{Place}
use Rattle.snap_base.specs.declared.verdicts.Verdict.{Verdict}
use Rattle.snap_base.specs.declared.verdicts.Verdict.TheVariants as verdicts
use Rattle.aml_slice.specs.Controls.{Rest}
use Rattle.crew_parts.specs.Crews.{OutputIs, PrintedOrBrokeOff}
use Rattle.crew_parts.specs.Outputs.{OutputStands}
use Rattle.crew_parts.specs.Shares.{OutputState}
use Rattle.crew_parts.specs.snap_report.Lines.{reply_text}
use Rattle.crew_recovery.specs.Told.{IsTrueOf, ToldAreAmong, lines_of}
use Rattle.protocol.specs.Conditions.{IsAllowed, conditions}
use Rattle.protocol.specs.Events.{Event, Reply}
use Rattle.protocol.specs.Fixed.{Fixed}
use Rattle.protocol.specs.History.{Done}
use Rattle.protocol.specs.Parts.{Machine}
use Rattle.protocol.specs.Report.{Answer, answer, answers, replied}
use Rattle.protocol.specs.Runs.{reached}
use Rattle.protocol.specs.Verdicts.{verdict}
use Rattle.protocol_laws.specs.Told.{IsAmongDone}
use Rattle.run_effects.specs.Lines.{answer_lines, replies_text, verdict_line}

-- ---- answers as replies

abbrev reply_of : ℕ → Option Verdict → List (ℕ × Verdict)
reply_of n None = []
reply_of n (Some v) = (n, v) ∷ []

abbrev replies_of : List Answer → List (ℕ × Verdict)
replies_of [] = []
replies_of (x ∷ xs) = reply_of x.tx x.verdict ++ replies_of xs

one_line : (n : ℕ) (o : Option Verdict) (rs : List (ℕ × Verdict)) → verdict_line n o ++ lines_of rs ≡ lines_of (reply_of n o ++ rs)
one_line n None rs = refl
one_line n (Some v) rs = refl

same_lines : (xs : List Answer) → answer_lines xs ≡ lines_of (replies_of xs)
same_lines [] = refl
same_lines (x ∷ xs) = ap (λ bs. verdict_line x.tx x.verdict ++ bs) (same_lines xs) ∙ one_line x.tx x.verdict (replies_of xs)

-- ---- what they say

-- whoever has the verdict that it committed is among these
abbrev pub AreAcknowledged : Machine Rest → List Done → Type 0
AreAcknowledged s ds = (n : ℕ) (p : Place) (v : ℤ) → verdict n s.book s.desk ≡ Some (verdicts.Committed p v) → IsAmongDone n p (Value v) ds

module _ (s : Machine Rest) (ds : List Done) (told : AreAcknowledged s ds) where
  is_true : (n : ℕ) (v : Verdict) → verdict n s.book s.desk ≡ Some v → IsTrueOf ds (n, v)
  is_true n v is p z says = told n p z (is ∙ ap Some says)

  one_true : (n : ℕ) (o : Option Verdict) (rs : List (ℕ × Verdict)) → verdict n s.book s.desk ≡ o → AllByRecursion (IsTrueOf ds) rs → AllByRecursion (IsTrueOf ds) (reply_of n o ++ rs)
  one_true n None rs is rest = rest
  one_true n (Some v) rs is rest = (is_true n v is, rest)

  all_true : (ns : List ℕ) → AllByRecursion (IsTrueOf ds) (replies_of (map (answer s) ns))
  all_true [] = tt
  all_true (n ∷ ns) = one_true n (verdict n s.book s.desk) (replies_of (map (answer s) ns)) refl (all_true ns)

-- ---- what was printed

has_verdict : (w : Fixed Rest) (n : ℕ) (s : Machine Rest) → IsAllowed w (Reply n) s → (v : Verdict) × (verdict n s.book s.desk ≡ Some v)
unfolding conditions
has_verdict w n s ok = somebody (verdict n s.book s.desk) ok.1.0

module _ (w : Fixed Rest) (es : List Event) (ds : List Done) (told : AreAcknowledged (reached w es) ds) (before taken : Option (List ℕ)) where
  abbrev s : Machine Rest
  s = reached w es

  abbrev so_far : List (ℕ × Verdict)
  so_far = replies_of (answers es s)

  text_is : replies_text w es ≡ lines_of so_far
  text_is = same_lines (answers es s)

  so_far_true : AllByRecursion (IsTrueOf ds) so_far
  so_far_true = all_true s ds told (replied es)

  -- the line of one more is whole, or a part of it is there
  with_front : (front : List ℕ) → Appends before taken (replies_text w es ++ front) → (tx : ℕ) (v : Verdict) → verdict tx s.book s.desk ≡ Some v → (rest : List ℕ) → reply_text tx v ≡ front ++ rest → ToldAreAmong before taken ds
  with_front front grew tx v is [] line = record {
    printed = replies_text w es ++ front;
    grew = grew;
    replies = so_far ++ (tx, v) ∷ [];
    lines = record {
      part = [];
      is = ap (λ bs. bs ++ front) text_is
          ∙ (ap (λ bs. lines_of so_far ++ bs) (sym (append-nil front) ∙ (sym line ∙ sym (append-nil (reply_text tx v))))
          ∙ (sym (flat_map-append (λ (r : ℕ × Verdict). reply_text r.0 r.1) so_far ((tx, v) ∷ [])) ∙ sym (append-nil (lines_of (so_far ++ (tx, v) ∷ [])))));
      last = inl refl;
    };
    among = all_push (IsTrueOf ds) so_far (tx, v) so_far_true (is_true s ds told tx v is);
  }
  with_front front grew tx v is (b ∷ rest) line = record {
    printed = replies_text w es ++ front;
    grew = grew;
    replies = so_far;
    lines = record {
      part = front;
      is = ap (λ bs. bs ++ front) text_is;
      last = inr (record { tx = tx; verdict = v; rest = b ∷ rest; some = λ e. absurd (cc e); line = line });
    };
    among = so_far_true;
  }

  pub told_among : OutputStands w es before taken → ToldAreAmong before taken ds
  told_among (inl grew) = record {
    printed = replies_text w es;
    grew = grew;
    replies = so_far;
    lines = record { part = []; is = text_is ∙ sym (append-nil (lines_of so_far)); last = inl refl };
    among = so_far_true;
  }
  told_among (inr more) =
      let next = more.2 in
      let v = has_verdict w next.tx s next.allowed in
      with_front more.0 more.1 next.tx v.0 v.1 next.rest (ap (verdict_line next.tx) (sym v.1) ∙ next.line)

-- ---- what several workers promise of the output

ended_so : (w : Fixed Rest) (es : List Event) (failed : Bool) (a b : OutputState) → PrintedOrBrokeOff failed w es a b → OutputStands w es a.taken b.taken
ended_so w es true a b is = inr (is.front, is.taken, record { tx = is.tx; allowed = is.allowed; rest = is.rest; line = is.line })
ended_so w es false a b is = inl is

pub output_ends : (w : Fixed Rest) (es : List Event) (a b : OutputState) → OutputIs w es (Some a) (Some b) → OutputStands w es a.taken b.taken
output_ends w es a b is = ended_so w es b.failed a b is.1
