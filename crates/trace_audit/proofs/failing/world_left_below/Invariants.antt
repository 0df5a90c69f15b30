use Rattle.std.proofs.Common.{◌≡◌, drop, length, map}
use Rattle.audit_words.specs.Inputs.{first_text, language}
use Rattle.snap_work.specs.Works.{work_of}
use Rattle.trace_audit.specs.Failures.{counted_world}
use Rattle.trace_audit.specs.Located.{done_of}
use Rattle.trace_audit.proofs.failing.world_left_below.Given as goal

abbrev pub invariant-loop-reply : goal.invariant-loop-reply
invariant-loop-reply l = record {
  left : counted_world (language (work_of l.work)).meaning (first_text (work_of l.work)) l.k.0 l.c l.world.items (map done_of (drop l.reply-index l.replies))
      ≡ counted_world (language (work_of l.work)).meaning (first_text (work_of l.work)) l.k.0 l.c l.work.states (map done_of l.replies);
  actors : length l.world.items ≡ length l.work.states;
}
