use Rattle.std.proofs.Common.{◌≡◌, ◌∙◌, sym, rules, tests, eqb, ℕ}
use Rattle.std.specs.List.{list_any}
use Rattle.std.proofs.lemmas.Iterator.{YieldsList-from_slice}
use Rattle.std.proofs.lemmas.Iterator.Search.{any_from_yields_List}
use Rattle.snap_base.specs.declared.ids.ActorId.{ActorId}
use Rattle.work_text.proofs.UseWords.{is_among, among_is}
use Rattle.work_text.proofs.uses.declares_root.Goals as goal

pub returns-in-Pact : goal.returns-in-Pact
returns-in-Pact c =
    let e : c.any.result ≡ list_any (λ (u : ActorId × ℕ). eqb u.0.0 c.args.root) c.args.uses.now =
    any_from_yields_List (λ (u : ActorId × ℕ). eqb u.0.0 c.args.root) _ _ c.any.result c.any.ensures.ran (YieldsList-from_slice c.args.uses.now (cc)) (λ x b q k. search (rules, tests)) in
    rw c.in-Pact.is (λ t. is_among c.args.uses.now c.args.root (sym e ∙ t), λ h. e ∙ among_is c.args.uses.now c.args.root h)
