-- What is listed ahead of a sync: of each record that it will make durable what waits for this one.
use Rattle.std.specs.Prelude.{List, [], ◌∷◌}
use Rattle.std.specs.List.{flat_map}
use Rattle.txn_records.specs.declared.keys.Key.{Key}
use Rattle.txn_records.specs.declared.keys.Key.TheVariants as keys
use Rattle.protocol.specs.Conditions.{is_noted_everywhere}
use Rattle.protocol.specs.Events.{Event, Note, Commit, Settle, Vouch, Seal}
use Rattle.protocol.specs.Parts.{Desk}
use Rattle.ready_news.specs.InBook.{only}

-- by what the record is about; a batch waits for its first record alone where it is noted on all its actors
abbrev pub of_key : Desk → Key → List Event
of_key d keys.Genesis = []
of_key d (keys.Info k) = only (is_noted_everywhere k.0 d.batches) (Commit k.0)
of_key d (keys.Complete k a) = Note k.0 a.0 ∷ []
of_key d (keys.Commit k) = Settle k.0 ∷ []
of_key d (keys.Prepare t a) = Vouch t.0 a.0 ∷ []
of_key d (keys.Act t) = Seal t.0 ∷ []
of_key d keys.Checkpoint = []

abbrev pub of_keys : Desk → List Key → List Event
of_keys d waiting = flat_map (of_key d) waiting
