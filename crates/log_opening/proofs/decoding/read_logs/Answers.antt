use Rattle.std.proofs.Common.{◌≡◌, ◌+◌, ◌∙◌, sym, subst, List, [], ◌∷◌, ◌++◌, rules}
use Rattle.std.proofs.lemmas.List.{get_or_read}
use Rattle.std.specs.List.{AllZip}
use Rattle.gate_log.specs.declared.logs.LogItem.{LogItem}
use Rattle.txn_records.specs.declared.records.Record.{Record}
use Rattle.record_log.specs.Records.{AreItemsOf}
use Rattle.log_opening.specs.Found.{IsNoReading}
use Rattle.log_opening.proofs.Reading.{zip_more, bad_among}
use Rattle.log_opening.proofs.decoding.read_logs.Goals as goal

pub loop-number-init : goal.loop-number-init
loop-number-init c = subst (λ (l : List (List Record)). AllZip AreItemsOf [] l) (sym c.new-lists.ensures) tt

pub returns-in-Err : goal.returns-in-Err
returns-in-Err c =
    bad_among c.args.head c.args.found.now c.loop-number.number c.loop-number.lists c.in-Err.no c.loop-number-test.true c.loop-number.invariant
    (subst (λ (l : List LogItem). IsNoReading l (c.args.head + c.loop-number.number) c.in-Err.no)
    (c.as_slice.ensures ∙ get_or_read c.args.found.now c.loop-number.number c.index-found-number.result c.loop-number-test.true c.index-found-number.is [])
    c.in-Err.ensures)

pub loop-number-preserved : goal.loop-number-preserved
loop-number-preserved c =
    let pushed : c.push.new.self ≡ c.loop-number.lists ++ c.in-Ok.records ∷ [] = search rules in
    zip_more c.args.found.now c.loop-number.lists c.push.new.self c.loop-number.number c.in-Ok.records c.loop-number-test.true pushed c.loop-number.invariant
    (subst (λ (l : List LogItem). AreItemsOf l c.in-Ok.records)
    (c.as_slice.ensures ∙ get_or_read c.args.found.now c.loop-number.number c.index-found-number.result c.loop-number-test.true c.index-found-number.is []) c.in-Ok.ensures)
