use Rattle.snap_recover.specs.Passes.{info_key}
use Rattle.snap_recover.proofs.Homes.{told_alike}
use Rattle.snap_recover.proofs.Placing.{infos_settled}
use Rattle.snap_recover.proofs.Searching.{nat_exact, pair_exact}
use Rattle.snap_recover.proofs.index.index_of.Goals as goal

pub settle-requires : goal.settle-requires
settle-requires c = record { exact = nat_exact }

pub settle-requires-2 : goal.settle-requires-2
settle-requires-2 c = record { exact = pair_exact }

pub returns-clause-committed : goal.returns-clause-committed
returns-clause-committed c = record { ascend = c.settle.ensures.ascend; all = told_alike _ _ c.settle.ensures.same c.in_ok-index.ensures.committed }

pub returns-clause-parts : goal.returns-clause-parts
returns-clause-parts c = record { ascend = c.settle-2.ensures.ascend; all = told_alike _ _ c.settle-2.ensures.same c.in_ok-index.ensures.parts }

pub returns-clause-infos : goal.returns-clause-infos
returns-clause-infos c = infos_settled (info_key c.args.kind) c.args.logs.now c.in_ok-index.index.infos.items c.settle_places.new.places.items c.in_ok-settle_places.ensures.ascend c.in_ok-settle_places.ensures.same c.in_ok-index.ensures.infos
