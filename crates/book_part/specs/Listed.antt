-- Of which ACTs some event may still be allowed.
use Rattle.std.specs.Prelude.{ℕ, List, map, filter}
use Rattle.protocol.specs.Parts.{Book}
use Rattle.protocol.specs.Words.{is_live_act}

-- those that have an actor still to leave, or have joined none and are not given up
abbrev pub live_tids : Book → List ℕ
live_tids b = map (λ x. x.tid) (filter is_live_act b.acts)
