-- What a schedule begins with, and what it is asked for beyond the machine's own words.
use Rattle.std.specs.Prelude.{ℕ, ◌&&◌, Bool, true, false, not, List, [], map, filter, find}
use Rattle.std.specs.List.{list_all}
use Rattle.protocol.specs.Parts.{Entry, BatchEntry, ActEntry}
use Rattle.protocol.specs.Words.{is_empty, holds, is_batch_entry, is_entry_of, is_clear, is_turn_of, is_complete_batch, is_all_done, ahead, tail_group, acts_on}
use Rattle.protocol.specs.CellParts.{HybridSchedule}

-- nothing was placed since this batch
abbrev pub empty_since : ℕ → HybridSchedule
empty_since base = record { entries = []; epoch = 0; last = base; last_trimmed = base; tail = 0 }

-- Of the ACTs behind the last batch those that an ACT which comes can't stand beside: a reader, or one that is none.
abbrev pub rival_tids : Bool → List Entry → List ℕ
rival_tids reader entries = map (λ x. x.tid) (filter (λ x. not (reader && x.reader)) (tail_group entries))

-- in its sub-batch it is the transaction's turn
abbrev pub has_turn : ℕ → List Entry → Bool
has_turn t entries = holds (is_turn_of t) (find (is_entry_of t) entries)

abbrev pub can_run : ℕ → List Entry → Bool
can_run t entries = is_clear t entries && has_turn t entries

-- the batch stands here and is not complete
abbrev pub is_incomplete : ℕ → List Entry → Bool
is_incomplete k entries = holds (λ e. not (is_complete_batch e)) (find (is_batch_entry k) entries)

-- all that stands ahead of the batch is complete
abbrev pub is_next_here : ℕ → List Entry → Bool
is_next_here k entries = list_all is_complete_batch (ahead (is_batch_entry k) entries)

-- the batch stands here, and all its PACTs are done
abbrev pub is_done_here : ℕ → List Entry → Bool
is_done_here k entries = holds is_all_done (find (is_batch_entry k) entries)

abbrev pub can_complete : ℕ → List Entry → Bool
can_complete k entries = is_incomplete k entries && (is_next_here k entries && is_done_here k entries)

-- no ACT stands ahead of the batch
abbrev pub is_behind_no_act : ℕ → List Entry → Bool
is_behind_no_act k entries = is_empty (acts_on (ahead (is_batch_entry k) entries))

abbrev pub is_any_act : Entry → Bool
is_any_act (BatchEntry b) = false
is_any_act (ActEntry x) = true
