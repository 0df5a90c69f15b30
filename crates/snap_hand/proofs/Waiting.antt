-- What waits for a sync, in each state that a hand fits.
use Rattle.std.proofs.Common.{◌≡◌, ℕ, Some, map, drop, List, slice_get, sym, ap, ◌∙◌}
use Rattle.std.proofs.lemmas.Option.{get_or_from_slice_get}
use Rattle.aml_slice.specs.Controls.{Rest}
use Rattle.core_rows.specs.log_set.Shown.{ShowsLog, told_bytes}
use Rattle.core_rows.specs.log_set.Logs.{LogList}
use Rattle.protocol.specs.Effects.{no_log, log_at}
use Rattle.protocol.specs.Parts.{Log, Machine}

pub group_told : {Of : Machine Rest → Type 0} (pieces : List (List ℕ)) (list : LogList)
    → ((x : Log) → ShowsLog list x → pieces ≡ map told_bytes (drop x.synced x.records))
    → (l : ℕ)
    → ((s : Machine Rest) → Of s → (x : Log) × ((slice_get s.logs l ≡ Some x) × ShowsLog list x))
    → (s : Machine Rest) → Of s → pieces ≡ map told_bytes (drop (log_at s l).synced (log_at s l).records)
group_told pieces list shows l there s of =
    let x = there s of in
    shows x.0 x.1.1 ∙ ap (λ y. map told_bytes (drop y.synced y.records)) (sym (get_or_from_slice_get s.logs l x.0 no_log x.1.0))
