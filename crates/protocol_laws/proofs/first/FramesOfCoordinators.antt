-- What an event at the coordinators leaves.
use Rattle.std.specs.Prelude.{◌≡◌, refl, ℕ, ◌%◌, false}
use Rattle.std.proofs.lemmas.Bool.{true≢false}
use Rattle.protocol.specs.Fixed.{Fixed}
use Rattle.protocol.specs.Parts.{Machine}
use Rattle.protocol.specs.Events.{Submit, Pass, Form, Admit}
use Rattle.protocol.specs.Effects.{after}
use Rattle.protocol.specs.Contents.{Content, Holder, NextTx, NextTid, NextBid, Lasts, PactQueues, ActQueues, ActTids, ActTxs, ActReaders, Befores, Afters, ActActors, PreparedMarks, VouchedMarks, FinishedMarks, ActResults, Statuses, Subs, Controls, Bids, BatchActors, BatchTids, BatchTxs, NotedMarks, TrimmedMarks, PactResults, Stages, AbortedMarks, Records, SyncedCounts, IsSame, is_changed}
use Rattle.protocol_laws.proofs.first.Kept.{logs_kept}

pub after_submit : {C : Type 0} (w : Fixed C) (n : ℕ) (s : Machine C) (q : Content) → is_changed q (Submit n) ≡ false → IsSame q s (after w (Submit n) s)
unfolding after
after_submit w n s NextTx h = absurd (true≢false h)
after_submit w n s PactQueues h = absurd (true≢false h)
after_submit w n s ActQueues h = absurd (true≢false h)
after_submit w n s _ h = refl

pub after_pass : {C : Type 0} (w : Fixed C) (c : ℕ) (s : Machine C) (q : Content) → is_changed q (Pass c) ≡ false → IsSame q s (after w (Pass c) s)
unfolding after
after_pass w c s Holder h = absurd (true≢false h)
after_pass w c s _ h = refl

pub after_form : {C : Type 0} (w : Fixed C) (k : ℕ) (s : Machine C) (q : Content) → is_changed q (Form k) ≡ false → IsSame q s (after w (Form k) s)
unfolding after
after_form w k s NextTid h = absurd (true≢false h)
after_form w k s NextBid h = absurd (true≢false h)
after_form w k s Lasts h = absurd (true≢false h)
after_form w k s PactQueues h = absurd (true≢false h)
after_form w k s Subs h = absurd (true≢false h)
after_form w k s Controls h = absurd (true≢false h)
after_form w k s Bids h = absurd (true≢false h)
after_form w k s BatchActors h = absurd (true≢false h)
after_form w k s BatchTids h = absurd (true≢false h)
after_form w k s BatchTxs h = absurd (true≢false h)
after_form w k s NotedMarks h = absurd (true≢false h)
after_form w k s TrimmedMarks h = absurd (true≢false h)
after_form w k s PactResults h = absurd (true≢false h)
after_form w k s Stages h = absurd (true≢false h)
after_form w k s AbortedMarks h = absurd (true≢false h)
after_form w k s Records h = absurd (true≢false h)
after_form w k s SyncedCounts h = logs_kept (λ x. x.synced) s (k % w.text.logs) _ refl
after_form w k s _ h = refl

pub after_admit : {C : Type 0} (w : Fixed C) (t : ℕ) (s : Machine C) (q : Content) → is_changed q (Admit t) ≡ false → IsSame q s (after w (Admit t) s)
unfolding after
after_admit w t s NextTid h = absurd (true≢false h)
after_admit w t s ActQueues h = absurd (true≢false h)
after_admit w t s ActTids h = absurd (true≢false h)
after_admit w t s ActTxs h = absurd (true≢false h)
after_admit w t s ActReaders h = absurd (true≢false h)
after_admit w t s Befores h = absurd (true≢false h)
after_admit w t s Afters h = absurd (true≢false h)
after_admit w t s ActActors h = absurd (true≢false h)
after_admit w t s PreparedMarks h = absurd (true≢false h)
after_admit w t s VouchedMarks h = absurd (true≢false h)
after_admit w t s FinishedMarks h = absurd (true≢false h)
after_admit w t s ActResults h = absurd (true≢false h)
after_admit w t s Statuses h = absurd (true≢false h)
after_admit w t s Controls h = absurd (true≢false h)
after_admit w t s _ h = refl
