use Rattle.std.proofs.Common.{◌≡◌, ◌≤◌, sym, subst, List, rules}
use Rattle.gate_log.specs.declared.limits.TheConstants.{FARTHEST_END}
use Rattle.gate_log.specs.declared.logs.LogItem.{LogItem}
use Rattle.gate_log.specs.declared.opens.OpenNo.{OpenNo}
use Rattle.gate_log.specs.Bytes.{IsPlacedLogAt}
use Rattle.gate_log.specs.Reading.{IsNoLog}
use Rattle.snap_outside.specs.MemoryLog.{history_of}
use Rattle.log_reading.proofs.Copies.{opened_copy, refused_copy}
use Rattle.log_reading.proofs.reading.items_in.Goals as goal

pub returns-in-Ok-open : goal.returns-in-Ok-open
returns-in-Ok-open c =
    let bytes = c.args.bytes.items in
    let same : c.into_vec.result.items ≡ c.in-Ok-open.log.found = search rules in
    subst (λ (l : List LogItem). (end : _) × IsPlacedLogAt bytes end l × (end ≤ FARTHEST_END)) (sym same) (
      c.in-Ok-open.log.end,
      opened_copy bytes (history_of c.in-Ok.copy) c.in-Ok-open.log.told c.in-Ok-open.log.end c.in-Ok-open.log.found c.in-Ok.ensures.first c.in-Ok.ensures.ops c.requires c.in-Ok-open.ensures.opened,
      c.in-Ok-open.ensures.end,
    )

pub returns-in-Err : goal.returns-in-Err
returns-in-Err c =
    subst (λ (no : OpenNo). IsNoLog c.args.bytes.items no) (sym c.of_copy.ensures)
    (refused_copy c.args.bytes.items (history_of c.in-Ok.copy) _ c.in-Err.no c.in-Ok.ensures.first c.in-Ok.ensures.ops c.in-Err.ensures.refused)
