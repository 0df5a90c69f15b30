-- The key of a record of each kind.
use Rattle.std.proofs.Common.{◌≡◌, refl}
use Rattle.snap_base.specs.declared.ids.ActorId.{ActorId}
use Rattle.snap_base.specs.declared.ids.Bid.{Bid}
use Rattle.snap_base.specs.declared.ids.Tid.{Tid}
use Rattle.txn_records.specs.declared.keys.Key.TheVariants.{Info, Complete, Commit, Prepare, Act}
use Rattle.log_set.specs.Keys.{is_key}
use Rattle.protocol.specs.Records.{LogRecord, BatchInfo, BatchComplete, BatchDone, ActPrepare, ActDone, is_info, is_complete, is_commit, is_prepare, is_act_commit}
use Rattle.log_set.specs.Shown.{told_key}
use Rattle.log_set.specs.Laws.{KeysOfKinds}

info : (r : LogRecord) (bid : Bid) → is_key (told_key r) (Info bid) ≡ is_info bid.0 r
info (BatchInfo k actors tids) bid = refl
info (BatchComplete k actor state) bid = refl
info (BatchDone k values) bid = refl
info (ActPrepare t actor state) bid = refl
info (ActDone t m c value actors) bid = refl

complete : (r : LogRecord) (bid : Bid) (a : ActorId) → is_key (told_key r) (Complete bid a) ≡ is_complete bid.0 a.0 r
complete (BatchInfo k actors tids) bid a = refl
complete (BatchComplete k actor state) bid a = refl
complete (BatchDone k values) bid a = refl
complete (ActPrepare t actor state) bid a = refl
complete (ActDone t m c value actors) bid a = refl

commit : (r : LogRecord) (bid : Bid) → is_key (told_key r) (Commit bid) ≡ is_commit bid.0 r
commit (BatchInfo k actors tids) bid = refl
commit (BatchComplete k actor state) bid = refl
commit (BatchDone k values) bid = refl
commit (ActPrepare t actor state) bid = refl
commit (ActDone t m c value actors) bid = refl

prepare : (r : LogRecord) (tid : Tid) (a : ActorId) → is_key (told_key r) (Prepare tid a) ≡ is_prepare tid.0 a.0 r
prepare (BatchInfo k actors tids) tid a = refl
prepare (BatchComplete k actor state) tid a = refl
prepare (BatchDone k values) tid a = refl
prepare (ActPrepare t actor state) tid a = refl
prepare (ActDone t m c value actors) tid a = refl

act : (r : LogRecord) (tid : Tid) → is_key (told_key r) (Act tid) ≡ is_act_commit tid.0 r
act (BatchInfo k actors tids) tid = refl
act (BatchComplete k actor state) tid = refl
act (BatchDone k values) tid = refl
act (ActPrepare t actor state) tid = refl
act (ActDone t m c value actors) tid = refl

pub keys_of_kinds : KeysOfKinds
keys_of_kinds = record { info = info; complete = complete; commit = commit; prepare = prepare; act = act }
