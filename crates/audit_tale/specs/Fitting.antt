-- What holds of what events tell beside their text: each batch goes to actors that exist, and each cascade reaches the batch that
-- it began with.
use Rattle.std.specs.Prelude.{◌≡◌, ◌<◌, ◌≤◌, length}
use Rattle.std.specs.List.{AllByRecursion}
use Rattle.protocol.specs.Fixed.{Text}
use Rattle.audit_words.specs.Seen.{Seen}

pub record FitsTale (w : Text) (s : Seen) : Type 0 where
  pub lasts : length s.ring.lasts ≡ length w.opening.states
  pub actors : AllByRecursion (λ b. AllByRecursion (λ a. a < length w.opening.states) b.actors) s.batches
  pub cuts : AllByRecursion (λ c. c.first ≤ c.upto) s.cuts
