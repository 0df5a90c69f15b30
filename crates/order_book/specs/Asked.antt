-- What the book is asked.
use Rattle.std.specs.Prelude.{◌≡◌, ℕ, false, if◌then◌else◌, Option, Some, None, List, [], ◌∷◌, map}
use Rattle.snap_base.specs.declared.ids.Tid.{Tid}
use Rattle.snap_base.specs.declared.verdicts.Verdict.{Verdict}
use Rattle.protocol.specs.Meant.{tid_number}
use Rattle.protocol.specs.Rivals.{Lock}
use Rattle.protocol.specs.Parts.{Joined, Status, Live, Doomed, Decided, Sealed, Act}
use Rattle.protocol.specs.Words.{is_ordered}
use Rattle.order_book.specs.declared.answer.Answer.{Answer}
use Rattle.order_book.specs.declared.answer.Answer.TheVariants.{Free, Die, Wait}

-- ---- wait-die

-- These are the tids of the locks, in their order. The answer and the pairs depend on them alone, whoever of the ACTs
-- only reads.
abbrev pub AreLocksOf : List Tid → List Lock → Type 0
AreLocksOf tids locks = map (λ x. x.tid) locks ≡ map tid_number tids

-- the locks with these tids, as of ACTs that write
abbrev pub locks_of : List Tid → List Lock
locks_of tids = map (λ t. record { tid = t; reader = false }) (map tid_number tids)

abbrev pub free_or_wait : List Tid → Answer
free_or_wait [] = Free
free_or_wait (t ∷ ts) = Wait

-- who meets an older rival gives way to the oldest
abbrev pub wait_die_answer : Option ℕ → List Tid → Answer
wait_die_answer (Some older) rivals = Die (record { 0 = older })
wait_die_answer None rivals = free_or_wait rivals

-- ---- an ACT, where there is one

abbrev pub doom_in : Status → Option Verdict
doom_in Live = None
doom_in (Doomed why) = Some why
doom_in (Decided c) = None
doom_in (Sealed c) = None

-- why it is given up
abbrev pub doom_of : Option Act → Option Verdict
doom_of None = None
doom_of (Some x) = doom_in x.status

-- its before number; 0 where there is no such ACT
abbrev pub before_of : Option Act → ℕ
before_of None = 0
before_of (Some x) = x.m

-- its before number, where it has its place in the serial order
abbrev pub place_in : Act → Option ℕ
place_in x = if is_ordered x.status then Some x.m else None

abbrev pub place_of : Option Act → Option ℕ
place_of None = None
place_of (Some x) = place_in x

-- its after number
abbrev pub after_of : Option Act → Option ℕ
after_of None = None
after_of (Some x) = x.n

abbrev pub tid_of_act : Option Act → Option ℕ
tid_of_act None = None
tid_of_act (Some x) = Some x.tid

abbrev pub tx_of : Option Act → Option ℕ
tx_of None = None
tx_of (Some x) = Some x.tx

-- the actors that it joined, in that order
abbrev pub joined_in : Option Act → List Joined
joined_in None = []
joined_in (Some x) = x.places
