-- One message more, and what a control's message says.
use Rattle.std.specs.Prelude.{ℕ, [], ◌∷◌, ◌++◌}
use Rattle.snap_base.specs.declared.ids.Tid.{Tid}
use Rattle.snap_base.specs.declared.ids.ActorId.{ActorId}
use Rattle.snap_base.specs.declared.transactions.Who as whose
use Rattle.protocol.specs.Meant.{who_meant}
use Rattle.protocol.specs.Parts.{Who, SubBatch, ControlMessage, Post}

module _ {C : Type 0} where
  abbrev pub sub_posted : SubBatch → Post C → Post C
  sub_posted m p = record p { subs = p.subs ++ m ∷ [] }

  abbrev pub control_posted : ControlMessage C → Post C → Post C
  control_posted m p = record p { controls = p.controls ++ m ∷ [] }

  -- a transaction's control on its way to an actor
  abbrev pub control_message : Tid → whose.Who → ActorId → C → ControlMessage C
  control_message tid who to control = record { tid = tid.0; who = who_meant who; to = to.0; control = control }

  abbrev pub message_to : ControlMessage C → ℕ
  message_to m = m.to

  abbrev pub message_who : ControlMessage C → Who
  message_who m = m.who

  abbrev pub message_control : ControlMessage C → C
  message_control m = m.control
