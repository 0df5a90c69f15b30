-- Where an event may have made something allowed, and what it names.
use Rattle.std.specs.Prelude.{ℕ, List, [], ◌∷◌}
use Rattle.protocol.specs.Events.{Event, Submit, Pass, Form, Admit, Arrive, Ask, Take, Run, Send, End, Close, Complete, Sync, Note, Commit, Settle, Abort, Rollback, DropSub, DropControl, Prepare, Vouch, Decide, Seal, Finish, Reply, Trim}
use Rattle.ready_news.specs.declared.looks.Look.{Look}
use Rattle.ready_news.specs.declared.looks.Look.TheVariants.{Aborted, ActLog, ActorLog, Again, Answers, Arrivals, Arrived, Back, BatchLog, Closes, Comings, Committed, Control, Deciding, Decisions, Fallen, Follower, Formed, GivenUp, Late, Leaving, Left, LetIn, NextAct, NextBatch, NextEnds, Noted, Over, Placed, Preparing, Submitted, Token, Trimmed, Trims, Woken}
use Rattle.ready_news.specs.declared.looks.Names.{Names}

-- ---- by the event; what a Sync makes allowed is listed ahead of it

abbrev pub looks_of : Event → List Look
looks_of (Submit n) = Submitted ∷ []
looks_of (Pass c) = Token ∷ NextBatch ∷ NextAct ∷ []
looks_of (Form k) = Formed ∷ BatchLog ∷ NextEnds ∷ Token ∷ NextBatch ∷ NextAct ∷ []
looks_of (Admit t) = Control ∷ Token ∷ NextAct ∷ []
looks_of (Arrive k a) = Late ∷ Arrived ∷ Follower ∷ LetIn ∷ NextAct ∷ Fallen ∷ []
looks_of (Ask t a) = Placed ∷ NextAct ∷ Over ∷ GivenUp ∷ []
looks_of (Take t a) = Placed ∷ []
looks_of (Run t a) = Left ∷ Woken ∷ []
looks_of (Send t a) = Control ∷ []
looks_of (End t a) = Closes ∷ NextEnds ∷ Deciding ∷ Preparing ∷ Over ∷ []
looks_of (Close t a) = Woken ∷ []
looks_of (Complete k a) = Woken ∷ ActorLog ∷ []
looks_of (Note k a) = Noted ∷ []
looks_of (Commit k) = Committed ∷ BatchLog ∷ []
looks_of (Settle k) = Trims ∷ NextEnds ∷ Answers ∷ Decisions ∷ []
looks_of (Abort k) = Aborted ∷ []
looks_of (Rollback a) = Back ∷ Arrivals ∷ Comings ∷ []
looks_of (Prepare t a) = ActorLog ∷ []
looks_of (Vouch t a) = Deciding ∷ []
looks_of (Decide t) = ActLog ∷ NextAct ∷ Leaving ∷ Over ∷ []
looks_of (Seal t) = NextAct ∷ Leaving ∷ Over ∷ []
looks_of (Finish t a) = Woken ∷ Again ∷ NextAct ∷ []
looks_of (Trim k a) = Trimmed ∷ NextBatch ∷ []
looks_of _ = []

-- ---- what an event names; 0 for what it does not name

abbrev pub of_tx : ℕ → Names
of_tx n = record { tx = record { 0 = n }; batch = record { 0 = 0 }; tid = record { 0 = 0 }; actor = record { 0 = 0 } }

abbrev pub of_batch : ℕ → ℕ → Names
of_batch k a = record { tx = record { 0 = 0 }; batch = record { 0 = k }; tid = record { 0 = 0 }; actor = record { 0 = a } }

abbrev pub of_tid : ℕ → ℕ → Names
of_tid t a = record { tx = record { 0 = 0 }; batch = record { 0 = 0 }; tid = record { 0 = t }; actor = record { 0 = a } }

abbrev pub names_of : Event → Names
names_of (Submit n) = of_tx n
names_of (Reply n) = of_tx n
names_of (Pass c) = of_tx 0
names_of (Sync l) = of_tx 0
names_of (Form k) = of_batch k 0
names_of (Commit k) = of_batch k 0
names_of (Settle k) = of_batch k 0
names_of (Abort k) = of_batch k 0
names_of (Arrive k a) = of_batch k a
names_of (Complete k a) = of_batch k a
names_of (Note k a) = of_batch k a
names_of (DropSub k a) = of_batch k a
names_of (Trim k a) = of_batch k a
names_of (Rollback a) = of_batch 0 a
names_of (Admit t) = of_tid t 0
names_of (DropControl t) = of_tid t 0
names_of (Decide t) = of_tid t 0
names_of (Seal t) = of_tid t 0
names_of (Ask t a) = of_tid t a
names_of (Take t a) = of_tid t a
names_of (Run t a) = of_tid t a
names_of (Send t a) = of_tid t a
names_of (End t a) = of_tid t a
names_of (Close t a) = of_tid t a
names_of (Prepare t a) = of_tid t a
names_of (Vouch t a) = of_tid t a
names_of (Finish t a) = of_tid t a
