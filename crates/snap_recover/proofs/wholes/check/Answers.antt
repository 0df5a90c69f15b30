use Rattle.std.proofs.Common.{◌%◌, List, length, subst, sym, refl}
use Rattle.std.proofs.Math.Nat.{mod-lt}
use Rattle.snap_base.specs.declared.ids.ActorId.{ActorId}
use Rattle.txn_records.specs.declared.keys.Key.{Key}
use Rattle.snap_recover.specs.Logs.{log_of}
use Rattle.snap_recover.specs.Passes.{TellsActors, MemberLacks, last_at}
use Rattle.snap_recover.proofs.Steps.{same_at}
use Rattle.snap_recover.proofs.Checking.{lacks_info, told_in_log, lacks_part, member_whole}
use Rattle.snap_recover.proofs.wholes.check.Goals as goal

pub returns-in_default : goal.returns-in_default
returns-in_default c =
    subst (λ (k : Key). MemberLacks c.args.kind c.args.logs.now c.args.number k (c.args.number % length c.args.logs.now)) (sym c.key_of_info.ensures)
    (lacks_info c.args.kind c.args.logs.now c.args.number (last_at c.args.infos.now c.args.number) (sym c.in_default.ensures) (c.requires.infos.all c.args.number) c.requires.is_in)

pub returns-in-Some-first_lacking : goal.returns-in-Some-first_lacking
returns-in-Some-first_lacking c =
    let logs = c.args.logs.now in
    let n = c.args.number in
    let rs = c.as_slice.result.now in
    let at = same_at logs (n % length logs) c.index-logs-log.result rs c.as_slice.ensures c.index-logs-log.is in
    let told = told_in_log c.args.kind logs n (n % length logs) rs c.actors_at-actors.result.now (mod-lt n c.requires.some) at refl c.actors_at-actors.ensures in
    let here : TellsActors c.args.kind n (log_of logs n) c.as_slice-2.result.now = subst (λ (z : List ActorId). TellsActors c.args.kind n (log_of logs n) z) (sym c.as_slice-2.ensures) told in
    subst (λ (k : Key). MemberLacks c.args.kind logs n k (c.in-Some-first_lacking.actor.0 % length logs)) (sym c.key_of_part.ensures)
    (lacks_part c.args.kind logs n c.as_slice-2.result.now c.args.parts.now c.in-Some-first_lacking.actor here c.requires.parts c.in-Some-first_lacking.ensures)

pub returns : goal.returns
returns c =
    let logs = c.args.logs.now in
    let n = c.args.number in
    let rs = c.as_slice.result.now in
    let at = same_at logs (n % length logs) c.index-logs-log.result rs c.as_slice.ensures c.index-logs-log.is in
    let told = told_in_log c.args.kind logs n (n % length logs) rs c.actors_at-actors.result.now (mod-lt n c.requires.some) at refl c.actors_at-actors.ensures in
    let here : TellsActors c.args.kind n (log_of logs n) c.as_slice-2.result.now = subst (λ (z : List ActorId). TellsActors c.args.kind n (log_of logs n) z) (sym c.as_slice-2.ensures) told in
    member_whole c.args.kind logs n c.as_slice-2.result.now c.args.parts.now here c.requires.parts c.in_default-first_lacking.ensures
