-- What is kept of messages, as the machine's messages.
use Rattle.std.specs.Prelude.{ℕ, map}
use Rattle.snap_base.specs.declared.ids.Tid.{Tid}
use Rattle.protocol.specs.Meant.{tid_number, who_meant}
use Rattle.protocol.specs.Parts.{SubBatch, ControlMessage}
use Rattle.post_box.specs.declared.keys.SubKey.{SubKey}
use Rattle.post_box.specs.declared.kept.SubRest.{SubRest}
use Rattle.post_box.specs.declared.kept.Control.{Control}

-- the sub-batch of a batch for an actor
abbrev pub sub_whole : ℕ → ℕ → SubRest → SubBatch
sub_whole k a rest = record { bid = k; actor = a; epoch = rest.epoch; prev = rest.prev.0; tids = map tid_number rest.tids }

abbrev pub sub_shown : SubKey × SubRest → SubBatch
sub_shown e = sub_whole e.0.bid.0 e.0.actor.0 e.1

-- the control of a transaction
abbrev pub control_whole : {C : Type 0} → ℕ → Control C → ControlMessage C
control_whole t c = record { tid = t; who = who_meant c.who; to = c.to.0; control = c.control }

abbrev pub control_shown : {C : Type 0} → Tid × Control C → ControlMessage C
control_shown e = control_whole e.0.0 e.1
