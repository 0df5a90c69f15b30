use Rattle.std.proofs.Common.{◌+◌, ◌++◌, ◌∷◌, List, take, drop, ap, ◌∙◌}
use Rattle.txn_records.specs.declared.records.Record.{Record}
use Rattle.std.specs.List.{filter}
use Rattle.std.proofs.lemmas.List.Elements.{filter-append}
use Rattle.snap_recover.specs.Logs.{is_genesis}
use Rattle.snap_recover.proofs.Steps.{split_at}
use Rattle.snap_recover.proofs.genesis.genesis_of.Goals as goal

pub returns-in-Genesis : goal.returns-in-Genesis
returns-in-Genesis c =
    let i = c.loop-r.r-index in
    let rest = drop (i + 1) c.args.rs.now in (
      filter is_genesis rest,
      ap (filter is_genesis) (split_at c.args.rs.now i c.r-item.result c.loop-r-test.true c.r-item.is)
          ∙ filter-append is_genesis (take i c.args.rs.now) (c.r-item.result ∷ rest)
          ∙ ap (λ (z : List Record). z ++ filter is_genesis (c.r-item.result ∷ rest)) c.loop-r.invariant
          ∙ ap (λ (z : Record). filter is_genesis (z ∷ rest)) c.in-Genesis.is,
    )
