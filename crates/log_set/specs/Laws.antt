-- What holds of every record of the machine as it is told.
use Rattle.std.specs.Prelude.{◌≡◌}
use Rattle.snap_base.specs.declared.ids.ActorId.{ActorId}
use Rattle.snap_base.specs.declared.ids.Bid.{Bid}
use Rattle.snap_base.specs.declared.ids.Tid.{Tid}
use Rattle.txn_records.specs.declared.keys.Key.TheVariants.{Info, Complete, Commit, Prepare, Act}
use Rattle.log_set.specs.Keys.{is_key}
use Rattle.protocol.specs.Records.{LogRecord, is_info, is_complete, is_commit, is_prepare, is_act_commit}
use Rattle.log_set.specs.Told.{told}
use Rattle.log_set.specs.Shown.{told_key}

-- it has the key exactly where it is of that kind, and about the same
pub record KeysOfKinds : Type 0 where
  pub info : (r : LogRecord) (bid : Bid) → is_key (told_key r) (Info bid) ≡ is_info bid.0 r
  pub complete : (r : LogRecord) (bid : Bid) (actor : ActorId) → is_key (told_key r) (Complete bid actor) ≡ is_complete bid.0 actor.0 r
  pub commit : (r : LogRecord) (bid : Bid) → is_key (told_key r) (Commit bid) ≡ is_commit bid.0 r
  pub prepare : (r : LogRecord) (tid : Tid) (actor : ActorId) → is_key (told_key r) (Prepare tid actor) ≡ is_prepare tid.0 actor.0 r
  pub act : (r : LogRecord) (tid : Tid) → is_key (told_key r) (Act tid) ≡ is_act_commit tid.0 r

abbrev pub ToldOnce : Type 0
ToldOnce = (r q : LogRecord) → told r ≡ told q → r ≡ q
