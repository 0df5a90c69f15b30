use Rattle.std.proofs.Common.{◌≡◌, ◌++◌, ◌∷◌, [], List, take, ap, sym, ◌∙◌, append_assoc}
use Rattle.std.proofs.lemmas.List.{take_all}
use Rattle.txn_records.specs.declared.records.Record.{Record}
use Rattle.snap_recover.proofs.Steps.{taken}
use Rattle.snap_follow.proofs.copies.add_copies.Goals as goal

pub loop-r-preserved : goal.loop-r-preserved
loop-r-preserved c =
    let old = c.args.list.now in
    let rs = c.args.rs.now in
    let i = c.loop-r.r-index in
    let copy = c.in_ok-copy.copy in
    let pushed : c.push.new.self ≡ c.loop-r.list ++ copy ∷ [] = c.in_ok-push.ensures in
    pushed ∙ (ap (λ (z : List Record). z ++ copy ∷ []) c.loop-r.invariant
    ∙ (append_assoc old (take i rs) (copy ∷ [])
    ∙ (ap (λ (z : Record). old ++ (take i rs ++ z ∷ [])) c.in_ok-copy.ensures
    ∙ ap (λ (z : List Record). old ++ z) (sym (taken rs i c.r-item.result c.loop-r-test.true c.r-item.is)))))

pub returns : goal.returns
returns c = c.loop-r.invariant ∙ ap (λ (z : List Record). c.args.list.now ++ z) (take_all c.loop-r.r-index c.args.rs.now c.loop-r-test.false)
