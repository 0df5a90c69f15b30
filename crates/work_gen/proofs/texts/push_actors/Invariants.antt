use Rattle.std.proofs.Common.{◌≡◌, ◌++◌, string_bytes}
use Rattle.work_text.specs.Lines.{text_of}
use Rattle.work_gen.specs.Generated.{actor_lines}
use Rattle.work_gen.proofs.texts.push_actors.Given as goal

-- the lines so far are appended
abbrev pub invariant-loop-actor : goal.invariant-loop-actor
invariant-loop-actor l = string_bytes l.text ≡ string_bytes l.fn.text ++ text_of (actor_lines l.actor)
