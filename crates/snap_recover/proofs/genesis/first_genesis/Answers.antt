use Rattle.std.proofs.Common.{◌≡◌, ◌+◌, ◌++◌, ◌∷◌, [], List, drop, ap, ◌∙◌}
use Rattle.txn_records.specs.declared.records.Record.{Record}
use Rattle.std.specs.List.{filter}
use Rattle.txn_records.specs.declared.records.Record.TheVariants.{Genesis}
use Rattle.snap_recover.specs.Logs.{is_genesis, geneses}
use Rattle.snap_recover.proofs.Steps.{same_at, found_in_all, geneses_split}
use Rattle.snap_recover.proofs.genesis.first_genesis.Goals as goal

pub returns-then-is_some : goal.returns-then-is_some
returns-then-is_some c =
    let logs = c.args.logs.now in
    let i = c.loop-rs.rs-index in
    let rs = c.as_slice.result.now in
    let at = same_at logs i c.rs-item.result rs c.as_slice.ensures c.rs-item.is in
    let split = geneses_split logs i rs c.loop-rs-test.true at c.loop-rs.invariant in
    found_in_all c.genesis_of-found.result (filter is_genesis rs ≡ []) (geneses logs ≡ [])
    (λ g. (rest : List Record) × (filter is_genesis rs ≡ Genesis g.0 g.1.now ∷ rest)) (λ g. (rest : List Record) × (geneses logs ≡ Genesis g.0 g.1.now ∷ rest))
    c.if-is_some.ensures (λ g p. (p.0 ++ geneses (drop (i + 1) logs), split ∙ ap (λ (z : List Record). z ++ geneses (drop (i + 1) logs)) p.1)) c.genesis_of-found.ensures
