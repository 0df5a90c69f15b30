-- Whether two keys are the same.
use Rattle.std.specs.Prelude.{◌==◌, ◌&&◌, Bool, true, false}
use Rattle.txn_records.specs.declared.keys.Key.{Key}
use Rattle.txn_records.specs.declared.keys.Key.TheVariants.{Genesis, Info, Complete, Commit, Prepare, Act, Checkpoint}
use Rattle.txn_records.specs.contracts.keys.KeyPartialEq.TheImpl as comparison

abbrev pub is_key : Key → Key → Bool
is_key Genesis Genesis = true
is_key (Info k) (Info j) = k.0 == j.0
is_key (Complete k a) (Complete j b) = (k.0 == j.0) && (a.0 == b.0)
is_key (Commit k) (Commit j) = k.0 == j.0
is_key (Prepare t a) (Prepare u b) = (t.0 == u.0) && (a.0 == b.0)
is_key (Act t) (Act u) = t.0 == u.0
is_key Checkpoint Checkpoint = true
is_key Genesis _ = false
is_key (Info k) _ = false
is_key (Complete k a) _ = false
is_key (Commit k) _ = false
is_key (Prepare t a) _ = false
is_key (Act t) _ = false
is_key Checkpoint _ = false

-- what `==` answers
abbrev pub key_eq : Key → Key → Bool
key_eq = (comparison.ghosts).eq
