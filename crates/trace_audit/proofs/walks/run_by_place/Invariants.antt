use Rattle.std.proofs.Common.{map, take}
use Rattle.audit_words.specs.Inputs.{first_text, language}
use Rattle.snap_work.specs.Works.{work_of}
use Rattle.trace_audit.specs.Located.{done_of}
use Rattle.trace_audit.specs.Meanings.{Walked}
use Rattle.trace_audit.proofs.walks.run_by_place.Given as goal

abbrev pub invariant-loop-reply : goal.invariant-loop-reply
invariant-loop-reply l = Walked (language (work_of l.work)).meaning (first_text (work_of l.work)) (map done_of (take l.reply-index l.replies)) l.walk.results.items l.walk.world.items
