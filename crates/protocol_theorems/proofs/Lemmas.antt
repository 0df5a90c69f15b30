-- What the proofs of other crates may cite of these: lemmas over places in order, and over an ACT in its halves. What is about runs is a public law.
pub use Rattle.protocol_theorems.proofs.order.ByPlace.{all_sorted, before_trans, rises_sorted}
pub use Rattle.protocol_theorems.proofs.halves.ActWithVotes.{doomed_by, found_by, holds_map, live_by, place_actor}
pub use Rattle.protocol_theorems.proofs.halves.HalvesAsked.{decided_by, joined_found, left_mark, live_act_by, live_count, sealed_by, verdict_of, vote_mark, vouched_by}
