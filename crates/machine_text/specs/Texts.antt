-- A work and an opening in the words of the machine: its text, with the methods of its program as code; and the openings with which
-- a work may begin.
use Rattle.std.specs.Prelude.{◌≡◌, ◌+◌, ◌^◌, ◌≤◌, length}
use Rattle.aml_slice.specs.Controls.{Rest}
use Rattle.machine_laws.specs.Programs.{IsTextOf, with_code}
use Rattle.protocol.specs.Fixed.{Text, Fixed}
use Rattle.snap_recover.specs.declared.openings.Opening.{Opening}
use Rattle.snap_work.specs.Works.{Work}

abbrev pub text_of : Work → Opening → Text
text_of w o = record {
  coordinators = w.coordinators;
  logs = w.logs;
  batch = w.batch;
  batches = w.batches;
  acts = w.acts;
  txs = w.txs;
  opening = record { states = o.states; next_tid = o.next_tid.0; next_bid = o.next_bid.0; next_c = o.next_c };
}

-- with the methods of its program as code
abbrev pub machine_of : Work → Opening → Fixed Rest
machine_of w o = with_code w.program (text_of w o)

-- The text is accepted, and its transactions may be asked of the work's program.
abbrev pub IsAccepted : Work → Opening → Type 0
IsAccepted w o = IsTextOf w.program (text_of w o)

-- An opening with which the work may begin: a state for each of its actors, and next numbers from 1 on with room for what a run
-- draws, as no number is above 2 ^ 62.
pub record MayBegin (w : Work) (o : Opening) : Type 0 where
  pub actors : length o.states ≡ length w.states
  pub some_tid : 1 ≤ o.next_tid.0
  pub some_bid : 1 ≤ o.next_bid.0
  pub some_c : 1 ≤ o.next_c
  pub tids : o.next_tid.0 + 2 ^ 20 ≤ 2 ^ 62
  pub bids : o.next_bid.0 + 2 ^ 20 ≤ 2 ^ 62
  pub cs : o.next_c + 2 ^ 20 ≤ 2 ^ 62
