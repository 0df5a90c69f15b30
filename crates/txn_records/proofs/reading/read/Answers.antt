use Rattle.std.proofs.Common.{arith}
use Rattle.txn_records.specs.Texts.{GenesisTexts, InfoTexts, CompleteTexts, CommitTexts, PrepareTexts, ActTexts, DoneTexts, ActDoneTexts, CheckpointTexts}
use Rattle.txn_records.proofs.Tags.{tagged, genesis_in, genesis_out, info_in, info_out, complete_in, complete_out, commit_in, commit_out, prepare_in, prepare_out, act_in, act_out, done_in, done_out, act_done_in, act_done_out, checkpoint_in, checkpoint_out, nothing_stops, no_tag_stops}
use Rattle.txn_records.proofs.reading.read.Goals as goal

pub returns-in_default : goal.returns-in_default
returns-in_default c = nothing_stops _ c.in_default.ensures.cases

pub returns-in-1 : goal.returns-in-1
returns-in-1 c = tagged GenesisTexts 1 _ _ _ _ genesis_in genesis_out c.in-Some.ensures.cases.0 c.in-1.is c.genesis_of.ensures

pub returns-in-2 : goal.returns-in-2
returns-in-2 c = tagged InfoTexts 2 _ _ _ _ info_in info_out c.in-Some.ensures.cases.0 c.in-2.is c.info_of.ensures

pub returns-in-3 : goal.returns-in-3
returns-in-3 c = tagged CompleteTexts 3 _ _ _ _ complete_in complete_out c.in-Some.ensures.cases.0 c.in-3.is c.complete_of.ensures

pub returns-in-4 : goal.returns-in-4
returns-in-4 c = tagged CommitTexts 4 _ _ _ _ commit_in commit_out c.in-Some.ensures.cases.0 c.in-4.is c.commit_of.ensures

pub returns-in-5 : goal.returns-in-5
returns-in-5 c = tagged PrepareTexts 5 _ _ _ _ prepare_in prepare_out c.in-Some.ensures.cases.0 c.in-5.is c.prepare_of.ensures

pub returns-in-6 : goal.returns-in-6
returns-in-6 c = tagged ActTexts 6 _ _ _ _ act_in act_out c.in-Some.ensures.cases.0 c.in-6.is c.act_of.ensures

pub returns-in-7 : goal.returns-in-7
returns-in-7 c = tagged DoneTexts 7 _ _ _ _ done_in done_out c.in-Some.ensures.cases.0 c.in-7.is c.done_of.ensures

pub returns-in-8 : goal.returns-in-8
returns-in-8 c = tagged ActDoneTexts 8 _ _ _ _ act_done_in act_done_out c.in-Some.ensures.cases.0 c.in-8.is c.act_done_of.ensures

pub returns-in-16 : goal.returns-in-16
returns-in-16 c = tagged CheckpointTexts 16 _ _ _ _ checkpoint_in checkpoint_out c.in-Some.ensures.cases.0 c.in-16.is c.checkpoint_of.ensures

pub returns-in_default-tag : goal.returns-in_default-tag
returns-in_default-tag c = no_tag_stops _ _ _ c.in-Some.ensures.cases.0 (λ e. omega arith) (λ e. omega arith) (λ e. omega arith) (λ e. omega arith) (λ e. omega arith) (λ e. omega arith) (λ e. omega arith) (λ e. omega arith) (λ e. omega arith)
