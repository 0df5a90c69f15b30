use Rattle.std.proofs.Common.{◌≡◌, List, [], ◌∷◌, ◌++◌, take, sym, subst}
use Rattle.std.specs.List.{AllZip}
use Rattle.gate_log.specs.Opened.{bytes_of}
use Rattle.gate_log.specs.declared.logs.LogItem.{LogItem}
use Rattle.txn_records.specs.declared.records.Record.{Record}
use Rattle.log_compact.specs.Fronts.{IsFront}
use Rattle.log_compact.proofs.ReadFronts.{taken_next, zip_more}
use Rattle.log_compact.proofs.finding.fronts_of.Goals as goal

abbrev HaveFronts : List (List LogItem) → List (List Record) → Type 0
HaveFronts items fronts = AllZip (λ (is : List LogItem) (front : List Record). IsFront (bytes_of is) front) items fronts

pub loop-log-preserved : goal.loop-log-preserved
loop-log-preserved c =
    let items = c.args.items.now in
    let n = c.loop-log.log-index in
    let log = c.log-item.result in
    let front = c.in_ok-front.front in
    let more = taken_next items n log c.loop-log-test.true c.log-item.is in
    let pushed : c.push.new.self ≡ c.loop-log.fronts ++ front ∷ [] = c.in_ok-push.ensures in
    let next = zip_more (λ (is : List LogItem) (rs : List Record). IsFront (bytes_of is) rs) (take n items) c.loop-log.fronts log front c.loop-log.invariant (subst (λ z. IsFront (bytes_of z) front) c.as_slice.ensures c.in_ok-front.ensures) in
    subst (λ z. HaveFronts z c.push.new.self) (sym more) (subst (HaveFronts (take n items ++ log ∷ [])) (sym pushed) next)
