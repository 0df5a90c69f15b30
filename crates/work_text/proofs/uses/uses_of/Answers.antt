use Rattle.std.proofs.Common.{ℕ, ◌<◌, length, map, sym, ◌∙◌, List, Bor, arith}
use Rattle.std.proofs.lemmas.List.{length-map}
use Rattle.snap_base.proofs.Lists.{all_push}
use Rattle.aml_check.specs.Transactions.{IsUse}
use Rattle.work_text.specs.Transactions.{use_word}
use Rattle.work_text.proofs.Lists.{spelled_at, spelled_more, now_at}
use Rattle.work_text.proofs.uses.uses_of.Goals as goal

pub returns-in_default : goal.returns-in_default
returns-in_default c uses each e =
    let lt : c.loop-word.word-index < length (map (λ (word : Bor (List ℕ)). word.now) c.args.words.now) = omega (arith, length-map c.args.words.now (λ (word : Bor (List ℕ)). word.now)) in
    let at = spelled_at (IsUse c.args.actors) use_word uses _ c.loop-word.word-index e each lt in
    cc (c.in_default.ensures.only at.0 (sym (now_at c.args.words.now c.loop-word.word-index _ (omega arith)) ∙ at.2) at.1)

pub loop-word-preserved : goal.loop-word-preserved
loop-word-preserved c =
    rw c.in_ok-push.ensures.items (record {
      spelled = spelled_more use_word c.args.words.now c.loop-word.uses.items c.loop-word.word-index _ c.in-Some.declared (omega arith) c.in-Some.ensures.found.0 c.loop-word.invariant.spelled;
      each = all_push (IsUse c.args.actors) c.loop-word.uses.items c.in-Some.declared c.loop-word.invariant.each c.in-Some.ensures.found.1;
    })
