use Rattle.std.proofs.Common.{◌≡◌, ℕ, List, codes, string_bytes, rules, ap, ap₂, ◌∙◌, SFits, to_z-of_z}
use Rattle.std.specs.Fmt.{signed_decimal}
use Rattle.std.specs.Int.{w128}
use Rattle.serde_json.specs.Data.{Data, Members, number, unsigned, string, object, put}
use Rattle.serde_json.specs.View.{view, members_view}
use Rattle.serde_json.specs.declared.value.Value.{the_lemmas}
use Rattle.serde_json.specs.declared.value.Value.TheVariants as Value
use Rattle.serde_json.proofs.OnLiterals.{serde_json_on_literals}
use Rattle.serde_json.proofs.Views.{view-Object}
use Rattle.snap_report.proofs.summaries.value_of.Goals as goal

pub returns-clause-data : goal.returns-clause-data
unfolding serde_json_on_literals
returns-clause-data c =
    let s = c.args.summary.now in
    let fits : SFits w128 s.total = search rules in
    let counted = λ (key : List ℕ) (n : ℕ) (ms : Members). put key (number (unsigned n)) ms in
    let aborted = c.in_ok-put_number.ensures ∙ ap (counted (codes "aborted") s.aborted) (ap members_view c.new-members.ensures.empty) in
    let batches = c.in_ok-put_number-2.ensures ∙ ap (counted (codes "batches") s.batches) aborted in
    let committed = c.in_ok-put_number-3.ensures ∙ ap (counted (codes "committed") s.committed) batches in
    let events = c.in_ok-put_number-4.ensures ∙ ap (counted (codes "events") s.events) committed in
    let told : view (Value.String c.in_ok-total.total) ≡ string (string_bytes c.in_ok-total.total) = search (rules, the_lemmas) in
    let total = c.in_ok-put.ensures.ok ∙ ap₂ (λ (d : Data) (ms : Members). put (codes "total") d ms) (told ∙ ap string (c.in_ok-total.ensures.ok ∙ ap signed_decimal (to_z-of_z fits))) events in
    let transactions = c.in_ok-put_number-5.ensures ∙ ap (counted (codes "transactions") s.transactions) total in
    view-Object c.put_number-5.new.members ∙ ap object transactions
