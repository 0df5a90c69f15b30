-- What is kept, as the messages in the order of posting.
use Rattle.std.specs.Prelude.{ℕ, List, map}
use Rattle.post_box.specs.declared.numbered.Numbered.{Numbered}
use Rattle.post_box.specs.Order.{in_order}

module _ {K M : Type 0} where
  -- the number of a message, and the message with its key
  abbrev pub entry_number : K × Numbered M → ℕ
  entry_number e = e.1.number

  abbrev pub entry_message : K × Numbered M → K × M
  entry_message e = (e.0, e.1.message)

  -- the messages with numbers below the next one, by key
  abbrev pub in_posting_order : ℕ → List (K × Numbered M) → List (K × M)
  in_posting_order next es = map entry_message (in_order entry_number next es)
