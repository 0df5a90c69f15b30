use Rattle.std.proofs.Common.{ℕ, ◌<◌, length, map, sym, ◌∙◌, List, Bor, arith, rules}
use Rattle.std.specs.Prelude.{FitsSigned}
use Rattle.std.specs.Int.{w64}
use Rattle.std.specs.Fmt.{signed_decimal}
use Rattle.std.proofs.lemmas.List.{length-map}
use Rattle.std.proofs.lemmas.Int.{to_z-of_z}
use Rattle.snap_base.proofs.Lists.{all_push}
use Rattle.audit_papers.proofs.WordLists.{now_at, spelled_at, spelled_more}
use Rattle.audit_papers.proofs.words.all_signed.Goals as goal

pub returns-in_default : goal.returns-in_default
returns-in_default c values h e =
    let lt : c.loop-word.word-index < length (map (λ (word : Bor (List ℕ)). word.now) c.args.words.now) = omega (arith, length-map c.args.words.now (λ (word : Bor (List ℕ)). word.now)) in
    let at = spelled_at (FitsSigned w64) signed_decimal values _ c.loop-word.word-index e h lt in
    cc (c.in_default.ensures.only at.0 at.1 (sym (now_at c.args.words.now c.loop-word.word-index _ (omega arith)) ∙ at.2))

pub loop-word-preserved : goal.loop-word-preserved
loop-word-preserved c =
    let fits : FitsSigned w64 c.in-Some.value = search rules in
    rw (c.in_ok-push.ensures.items, to_z-of_z w64 c.in-Some.value fits) (record {
      spelled = spelled_more signed_decimal c.args.words.now c.loop-word.values.items c.loop-word.word-index _ c.in-Some.value (omega arith) c.in-Some.ensures.found c.loop-word.invariant.spelled;
      fits = all_push (FitsSigned w64) c.loop-word.values.items c.in-Some.value c.loop-word.invariant.fits fits;
    })
