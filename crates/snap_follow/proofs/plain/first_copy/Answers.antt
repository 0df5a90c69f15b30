use Rattle.std.proofs.Common.{◌≡◌, IfOk, List, [], ◌∷◌, ◌++◌, drop, None, ap, sym, subst, ◌∙◌, arith}
use Rattle.std.proofs.lemmas.Grind.{common_steps}
use Rattle.txn_records.specs.declared.records.Record.{Record}
use Rattle.txn_records.specs.declared.records.Record.TheVariants.{Genesis, Checkpoint}
use Rattle.snap_base.specs.declared.transactions.State.{State}
use Rattle.snap_recover.proofs.Steps.{same_at}
use Rattle.log_compact.specs.Sets.{point_in}
use Rattle.snap_follow.proofs.PlainCopies.{first_plain, first_restated, all_behind}
use Rattle.snap_follow.proofs.plain.first_copy.Goals.{in_default-via-in-Some+in_default, in_default-via-in_default, in_default-get-via-in-Some+in_default, in_default-get-via-in_default}
use Rattle.snap_follow.proofs.plain.first_copy.Goals as goal

pub returns-in_default : goal.returns-in_default
returns-in_default c =
    let none : point_in c.args.rs.now ≡ None =
    elim c.in_default.branch [
      | in_default-via-in-Some+in_default w ↦ grind (arith, common_steps)
      | in_default-via-in_default w ↦ grind (arith, common_steps)
    ] in
    subst (λ (z : List Record). IfOk c.plain_copy.result (λ plain. plain ≡ z)) (sym (first_plain c.args.rs.now c.requires none)) c.plain_copy.ensures

pub returns-in_default-get : goal.returns-in_default-get
returns-in_default-get c =
    let none : point_in c.args.rs.now ≡ None =
    elim c.in_default-get.branch [
      | in_default-get-via-in-Some+in_default w ↦ grind (arith, common_steps)
      | in_default-get-via-in_default w ↦ grind (arith, common_steps)
    ] in
    subst (λ (z : List Record). IfOk c.plain_copy-in_default-get.result (λ plain. plain ≡ z)) (sym (first_plain c.args.rs.now c.requires none)) c.plain_copy-in_default-get.ensures

pub returns : goal.returns
returns c =
    let rs = c.args.rs.now in
    let g = c.in-Some-Genesis in
    let k = c.in-Some-Checkpoint in
    let genesis = same_at rs 0 g.field-0.now (Genesis g.logs g.field-0-1) (sym g.field-0-is) g.ensures.lookup.1 in
    let point = same_at rs 1 k.field-0.now (Checkpoint k.field-0-0 k.field-0-1 k.field-0-2 k.field-0-3 k.field-0-4 k.field-0-5 k.states) (sym k.field-0-is) k.ensures.lookup.1 in
    let front : c.push.new.self ≡ Genesis g.logs k.states ∷ [] =
    c.in_ok-push.ensures ∙ ap (λ (z : List Record). z ++ Genesis g.logs c.in_ok-states.states ∷ []) c.new-plain.ensures ∙ ap (λ (z : List State). Genesis g.logs z ∷ []) c.in_ok-states.ensures in
    c.in_ok-add_copies.ensures ∙ ap (λ (z : List Record). c.push.new.self ++ z) (all_behind rs 2) ∙ ap (λ (z : List Record). z ++ drop 2 rs) front
    ∙ sym (first_restated rs g.logs g.field-0-1 k.states k.field-0-0 k.field-0-3 k.field-0-4 k.field-0-5 k.field-0-1 k.field-0-2 k.ensures.lookup.3.0 genesis point c.requires)
