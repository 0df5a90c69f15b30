-- What the proofs of other crates may cite of these: lemmas over plain lists, numbers and places. What is about runs is a public law.
pub use Rattle.protocol_laws.proofs.first.Controls.{at_most_one}
pub use Rattle.protocol_laws.proofs.first.Lists.{all_filter, all_found, all_join, all_take}
pub use Rattle.protocol_laws.proofs.first.Times.{once_from, times_append, times_cons}
pub use Rattle.protocol_laws.proofs.machine.ActsFound.{found_tid}
pub use Rattle.protocol_laws.proofs.machine.MarksKept.{found_bid}
pub use Rattle.protocol_laws.proofs.machine.PlacesRise.{by_batch, by_order, by_side}
