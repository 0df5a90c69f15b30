-- How the book keeps an ACT: its after number with the number of cascades there were when it was set, so that a cascade
-- forgets the after numbers of all ACTs at once.
use Rattle.std.specs.Prelude.{ℕ, ◌==◌, ◌≤◌, ◌&&◌, Bool, if◌then◌else◌, None}
use Rattle.protocol.specs.Parts.{Act}
use Rattle.protocol.specs.Words.{is_doomed, is_live_act}

pub record Kept : Type 0 where
  pub act : Act
  -- how many cascades there were when its after number was set
  pub under : ℕ

-- the ACT, after so many cascades
abbrev pub seen : ℕ → Kept → Act
seen epoch x = record x.act { n = if x.under == epoch then x.act.n else None }

abbrev pub IsUnder : ℕ → Kept → Type 0
IsUnder epoch x = x.under ≤ epoch

abbrev pub forgotten : Act → Act
forgotten x = record x { n = None }

-- with no after number, whatever the number of cascades
abbrev pub without_after : Kept → Kept
without_after x = record { act = forgotten x.act; under = 0 }

abbrev pub is_live_kept : Kept → Bool
is_live_kept x = is_live_act x.act

abbrev pub tid_kept : Kept → ℕ
tid_kept x = x.act.tid

-- it is given up and has an actor still to leave
abbrev pub is_leaving : Act → Bool
is_leaving x = is_doomed x.status && is_live_act x

abbrev pub is_leaving_kept : Kept → Bool
is_leaving_kept x = is_leaving x.act
