use Rattle.std.proofs.Common.{◌≡◌, ℕ, length, subst, rules}
use Rattle.log_compaction.specs.Written.{AreAllDone}
use Rattle.log_compaction.proofs.Ended.{all_got}
use Rattle.log_compaction.proofs.Stages.{AreSides}
use Rattle.log_compaction.proofs.Writing.{all_done, all_written, append_ended, clear_stopped, end_moment, ready_stopped, written}
use Rattle.log_compaction.proofs.writes.write_group.Goals as goal

pub returns-in-Err-clause-written : goal.returns-in-Err-clause-written
returns-in-Err-clause-written g c = λ devices on.
    let logs = c.args.logs.now.items in
    let four : length logs ≡ 4 = search rules in
    let other = c.other_side-other.result in
    let sides : AreSides c.args.head other c.args.count = record { is_other = c.other_side-other.ensures; some = c.requires.some; few = c.requires.few; side = c.requires.side } in
    let new = c.ready_side.new.logs.items in
    written logs devices on c.requires.format four c.args.head other c.args.count c.args.group.now sides new
    (ready_stopped logs devices on c.requires.format four c.args.head other c.args.count c.args.group.now sides new c.in-Err.log c.in-Err.ensures.ready)

pub returns-in-Err-append_first-clause-written : goal.returns-in-Err-append_first-clause-written
returns-in-Err-append_first-clause-written g c = λ devices on.
    let logs = c.args.logs.now.items in
    let four : length logs ≡ 4 = search rules in
    let other = c.other_side-other.result in
    let sides : AreSides c.args.head other c.args.count = record { is_other = c.other_side-other.ensures; some = c.requires.some; few = c.requires.few; side = c.requires.side } in
    let new = c.append_first.new.logs.items in
    written logs devices on c.requires.format four c.args.head other c.args.count c.args.group.now sides new
    (append_ended logs devices on c.requires.format four c.args.head other c.args.count c.args.group.now sides c.ready_side.new.logs.items c.in-Ok.ensures.ready new c.in-Err-append_first.no
    c.in-Err-append_first.ensures.appended)

pub returns-in-Ok-clear_side-clause-written : goal.returns-in-Ok-clear_side-clause-written
returns-in-Ok-clear_side-clause-written g c = λ devices on.
    let logs = c.args.logs.now.items in
    let four : length logs ≡ 4 = search rules in
    let other = c.other_side-other.result in
    let sides : AreSides c.args.head other c.args.count = record { is_other = c.other_side-other.ensures; some = c.requires.some; few = c.requires.few; side = c.requires.side } in
    let new = c.clear_side.new.logs.items in
    written logs devices on c.requires.format four c.args.head other c.args.count c.args.group.now sides new
    (end_moment logs devices on c.requires.format four c.args.head other c.args.count c.args.group.now sides new
    (all_done logs devices on c.requires.format four c.args.head other c.args.count c.args.group.now sides c.ready_side.new.logs.items c.in-Ok.ensures.ready c.append_first.new.logs.items
    c.in-Ok-append_first.ensures.appended new c.in-Ok-clear_side.ensures.cleared))

pub returns-in-Ok-clear_side-clause-whole : goal.returns-in-Ok-clear_side-clause-whole
returns-in-Ok-clear_side-clause-whole g c = λ devices on.
    let logs = c.args.logs.now.items in
    let four : length logs ≡ 4 = search rules in
    let other = c.other_side-other.result in
    let sides : AreSides c.args.head other c.args.count = record { is_other = c.other_side-other.ensures; some = c.requires.some; few = c.requires.few; side = c.requires.side } in
    let new = c.clear_side.new.logs.items in
    all_written logs devices on c.requires.format four c.args.head other c.args.count c.args.group.now sides new
    (all_done logs devices on c.requires.format four c.args.head other c.args.count c.args.group.now sides c.ready_side.new.logs.items c.in-Ok.ensures.ready c.append_first.new.logs.items
    c.in-Ok-append_first.ensures.appended new c.in-Ok-clear_side.ensures.cleared)

pub returns-in-Err-clear_side-clause-written : goal.returns-in-Err-clear_side-clause-written
returns-in-Err-clear_side-clause-written g c = λ devices on.
    let logs = c.args.logs.now.items in
    let four : length logs ≡ 4 = search rules in
    let other = c.other_side-other.result in
    let sides : AreSides c.args.head other c.args.count = record { is_other = c.other_side-other.ensures; some = c.requires.some; few = c.requires.few; side = c.requires.side } in
    let new = c.clear_side.new.logs.items in
    written logs devices on c.requires.format four c.args.head other c.args.count c.args.group.now sides new
    (clear_stopped logs devices on c.requires.format four c.args.head other c.args.count c.args.group.now sides c.ready_side.new.logs.items c.in-Ok.ensures.ready c.append_first.new.logs.items
    c.in-Ok-append_first.ensures.appended new c.in-Err-clear_side.log c.in-Err-clear_side.ensures.cleared)

pub returns-in-Ok-clear_side-clause-done : goal.returns-in-Ok-clear_side-clause-done
returns-in-Ok-clear_side-clause-done g c =
    let other = c.other_side-other.result in
    let sides : AreSides c.args.head other c.args.count = record { is_other = c.other_side-other.ensures; some = c.requires.some; few = c.requires.few; side = c.requires.side } in
    let new = c.clear_side.new.logs.items in
    subst (λ (o : ℕ). AreAllDone c.args.logs.now.items new c.args.head o c.args.count c.args.group.now) c.other_side-other.ensures
    (all_got c.args.head other c.args.count c.args.group.now sides c.args.logs.now.items c.ready_side.new.logs.items c.append_first.new.logs.items new c.in-Ok.ensures.ready
    c.in-Ok-append_first.ensures.appended c.in-Ok-clear_side.ensures.cleared)
