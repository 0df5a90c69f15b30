-- Run by run.
use Rattle.std.specs.Prelude.{◌≡◌, refl, Some, List, [], ◌∷◌, ◌++◌, map}
use Rattle.std.specs.List.{flat_map}
use Rattle.std.proofs.Common.{sym, ap, ◌∙◌, append_assoc}
use Rattle.std.proofs.lemmas.List.{append-nil}
use Rattle.std.proofs.lemmas.List.Concat.{flat_map-append}
use Rattle.protocol.specs.Runs.{reached}
use Rattle.protocol.specs.History.{Done}
use Rattle.protocol_records.specs.SeveralRuns.{CutRun, logs_left}
use Rattle.txn_records.specs.declared.records.Record.{Record}
use Rattle.snap_recover.specs.declared.openings.Opening.{Opening}
use Rattle.snap_recover.specs.Opening.{IsRecovered}
use Rattle.recovery_laws.specs.Grown.{grown, PlacedResult, answers_of, answer_at, all_in, opening_after}
use Rattle.recovery_laws.specs.Joined.{AtEveryMomentOnLogs, RecoversToMembers, GoOnLogs, RecoverAgain, answers_in, ValuesAreResults}

pub again : {C : Type 0} → AtEveryMomentOnLogs (RecoversToMembers {C = C}) → (earlier : List (List Record)) (o : Opening) (xs : List (CutRun C)) → IsRecovered earlier o → GoOnLogs earlier o xs → RecoverAgain earlier o xs
again law earlier o [] h g = h
again law earlier o (x ∷ xs) h g =
    let v = g.0.0 in
    let r = law x.fixed x.finish x.events x.moment x.kept earlier o v.facts v.text v.run v.left g.0.1 h g.0.2 in
    (r, again law (grown earlier (logs_left x)) (opening_after x.fixed o (reached x.fixed x.moment.events) (logs_left x)) xs r.recovered g.1)

-- ---- what they answer

pub results_at : (ds : List Done) → map (λ (x : PlacedResult). x.2) (map answer_at ds) ≡ map (λ d. d.result) ds
results_at [] = refl
results_at (d ∷ ds) = ap (λ z. d.result ∷ z) (results_at ds)

pub values_are_results : {C : Type 0} → AtEveryMomentOnLogs (RecoversToMembers {C = C}) → (earlier : List (List Record)) (o : Opening) (xs : List (CutRun C)) → IsRecovered earlier o → GoOnLogs earlier o xs → ValuesAreResults earlier o xs
values_are_results law earlier o [] h g = record { recovered = h; answers = sym (append-nil (flat_map answers_of o.committed)); alone = tt }
values_are_results {C} law earlier o (x ∷ xs) h g =
    let v = g.0.0 in
    let r = law x.fixed x.finish x.events x.moment x.kept earlier o v.facts v.text v.run v.left g.0.1 h g.0.2 in
    let rest = values_are_results law (grown earlier (logs_left x)) (opening_after x.fixed o (reached x.fixed x.moment.events) (logs_left x)) xs r.recovered g.1 in
    let own : flat_map answers_of (o.committed ++ all_in x.fixed.text.logs (logs_left x) (reached x.fixed x.moment.events)) ≡ flat_map answers_of o.committed ++ answers_in x =
    flat_map-append answers_of o.committed (all_in x.fixed.text.logs (logs_left x) (reached x.fixed x.moment.events)) ∙ ap (λ z. flat_map answers_of o.committed ++ z) r.ordered in
    record {
      recovered = rest.recovered;
      answers = rest.answers ∙ (ap (λ z. z ++ flat_map answers_in xs) own ∙ append_assoc (flat_map answers_of o.committed) (answers_in x) (flat_map answers_in xs));
      alone = (ap (map (λ (y : PlacedResult). y.2)) (sym r.ordered) ∙ r.alone, rest.alone);
    }

pub alone_of : (answers : List PlacedResult) (ds : List Done) (rs : List Rattle.snap_base.specs.declared.transactions.TxResult.TxResult) → answers ≡ map answer_at ds → map Some rs ≡ map (λ d. d.result) ds → map (λ (x : PlacedResult). x.2) answers ≡ map Some rs
alone_of answers ds rs e f = ap (map (λ (x : PlacedResult). x.2)) e ∙ (results_at ds ∙ sym f)
