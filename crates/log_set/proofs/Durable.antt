-- What is durable on the list side is so in the log that it shows.
use Rattle.std.proofs.Common.{◌≡◌, ℕ, Bool, List, [], ◌∷◌, take, map, refl, ap, ◌∙◌}
use Rattle.std.proofs.lemmas.List.{take-map}
use Rattle.std.specs.Prelude.{◌||◌}
use Rattle.std.specs.List.{list_any}
use Rattle.txn_records.specs.declared.keys.Key.{Key}
use Rattle.log_set.specs.Keys.{is_key}
use Rattle.log_set.specs.Logs.{LogList, PendingState}
use Rattle.log_set.specs.Logs as lists
use Rattle.protocol.specs.Parts.{Log}
use Rattle.protocol.specs.Records.{LogRecord}
use Rattle.protocol.specs.Words.{is_durable}
use Rattle.log_set.specs.Shown.{ShowsLog, told_key}

any_told : {X Y : Type 0} (f : X → Y) (p : Y → Bool) (q : X → Bool) (xs : List X) → ((x : X) → p (f x) ≡ q x) → list_any p (map f xs) ≡ list_any q xs
any_told f p q [] same = refl
any_told f p q (x ∷ xs) same = ap (λ (b : Bool). b || list_any p (map f xs)) (same x) ∙ ap (λ (b : Bool). q x || b) (any_told f p q xs same)

durable_shown : (test : LogRecord → Bool) (k : Key) (list : LogList) (l : Log) → ((r : LogRecord) → is_key (told_key r) k ≡ test r) → ShowsLog list l → lists.is_key_durable k list ≡ is_durable test l
durable_shown test k list l same shows =
    let stands : Key → Bool = λ x. is_key x k in
    ap (λ (n : ℕ). list_any stands (take n list.keys)) shows.synced
    ∙ (ap (λ (ks : List Key). list_any stands (take l.synced ks)) shows.keys
    ∙ (ap (list_any stands) (take-map told_key l.synced l.records) ∙ any_told told_key stands test (take l.synced l.records) same))

pub durable_seen : (test : LogRecord → Bool) (k : Key) (p q : PendingState) → p ≡ q → ((r : LogRecord) → is_key (told_key r) k ≡ test r) → (l : Log) → ShowsLog q.log l → lists.is_key_durable k p.log ≡ is_durable test l
durable_seen test k p q seen same l shows = ap (λ (x : PendingState). lists.is_key_durable k x.log) seen ∙ durable_shown test k q.log l same shows
