-- What each event leaves: every content that it may not change is the same after it.
use Rattle.std.specs.Prelude.{◌≡◌, false}
use Rattle.protocol.specs.Fixed.{Fixed}
use Rattle.protocol.specs.Parts.{Machine}
use Rattle.protocol.specs.Events.{Event, Submit, Pass, Form, Admit, Arrive, Ask, Take, Run, Send, End, Close, Complete, Sync, Note, Commit, Settle, Abort, Rollback, DropSub, DropControl, Prepare, Vouch, Decide, Seal, Finish, Reply, Trim}
use Rattle.protocol.specs.Effects.{after}
use Rattle.protocol.specs.Contents.{Content, IsSame, is_changed}
use Rattle.protocol_laws.proofs.first.FramesOfCoordinators.{after_submit, after_pass, after_form, after_admit}
use Rattle.protocol_laws.proofs.first.FramesOfActors.{after_arrive, after_ask, after_take, after_run, after_send, after_end, after_close, after_complete}
use Rattle.protocol_laws.proofs.first.FramesOfBatches.{after_sync, after_note, after_commit, after_settle, after_abort, after_rollback, after_drop_sub, after_drop_control}
use Rattle.protocol_laws.proofs.first.FramesOfActs.{after_prepare, after_vouch, after_decide, after_seal, after_finish, after_reply, after_trim}

pub frame : {C : Type 0} (w : Fixed C) (e : Event) (s : Machine C) (q : Content) → is_changed q e ≡ false → IsSame q s (after w e s)
frame w (Submit n) s = after_submit w n s
frame w (Pass c) s = after_pass w c s
frame w (Form k) s = after_form w k s
frame w (Admit t) s = after_admit w t s
frame w (Arrive k a) s = after_arrive w k a s
frame w (Ask t a) s = after_ask w t a s
frame w (Take t a) s = after_take w t a s
frame w (Run t a) s = after_run w t a s
frame w (Send t a) s = after_send w t a s
frame w (End t a) s = after_end w t a s
frame w (Close t a) s = after_close w t a s
frame w (Complete k a) s = after_complete w k a s
frame w (Sync l) s = after_sync w l s
frame w (Note k a) s = after_note w k a s
frame w (Commit k) s = after_commit w k s
frame w (Settle k) s = after_settle w k s
frame w (Abort k) s = after_abort w k s
frame w (Rollback a) s = after_rollback w a s
frame w (DropSub k a) s = after_drop_sub w k a s
frame w (DropControl t) s = after_drop_control w t s
frame w (Prepare t a) s = after_prepare w t a s
frame w (Vouch t a) s = after_vouch w t a s
frame w (Decide t) s = after_decide w t s
frame w (Seal t) s = after_seal w t s
frame w (Finish t a) s = after_finish w t a s
frame w (Reply n) s = after_reply w n s
frame w (Trim k a) s = after_trim w k a s
