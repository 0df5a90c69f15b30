-- Lists with some of the commits, one record and one list after the other.
use Rattle.std.proofs.Common.{◌≡◌, ℕ, ◌+◌, ◌<◌, Bool, true, false, List, [], ◌∷◌, ◌++◌, length, take, get_or, sym, ap, ◌∙◌}
use Rattle.std.specs.Prelude.{if◌then◌else◌}
use Rattle.std.specs.List.{filter}
use Rattle.std.proofs.lemmas.List.{map-append, append-nil}
use Rattle.txn_records.specs.declared.records.Record.{Record}
use Rattle.snap_recover.proofs.Steps.{taken, filter_step}
use Rattle.snap_follow.specs.declared.commits.Commits.{Commits}
use Rattle.snap_follow.specs.Passes.{is_chosen, chosen_lists}

pub chosen_in : (m : Record → Bool) (rs : List Record) (i : ℕ) (r copy : Record) (some new : List Record) → i < length rs → r ≡ get_or rs i r → m r ≡ true → copy ≡ r → new ≡ some ++ copy ∷ [] → some ≡ filter m (take i rs) → new ≡ filter m (take (i + 1) rs)
chosen_in m rs i r copy some new l at on same e h =
    e ∙ ap (λ (z : List Record). z ++ copy ∷ []) h ∙ ap (λ (z : Record). filter m (take i rs) ++ z ∷ []) same ∙ ap (λ (z : List Record). filter m (take i rs) ++ z) (sym (ap (λ (b : Bool). if b then r ∷ [] else []) on)) ∙ sym (filter_step m rs i r l at)

pub chosen_out : (m : Record → Bool) (rs : List Record) (i : ℕ) (r : Record) (some : List Record) → i < length rs → r ≡ get_or rs i r → m r ≡ false → some ≡ filter m (take i rs) → some ≡ filter m (take (i + 1) rs)
chosen_out m rs i r some l at off h =
    h ∙ sym (append-nil (filter m (take i rs))) ∙ ap (λ (z : List Record). filter m (take i rs) ++ z) (sym (ap (λ (b : Bool). if b then r ∷ [] else []) off)) ∙ sym (filter_step m rs i r l at)

pub chosen_more : (set : Commits) (lists : List (List Record)) (i : ℕ) (rs next : List Record) (some new : List (List Record)) → i < length lists → rs ≡ get_or lists i rs → next ≡ filter (is_chosen set) rs → new ≡ some ++ next ∷ [] → some ≡ chosen_lists set (take i lists) → new ≡ chosen_lists set (take (i + 1) lists)
chosen_more set lists i rs next some new l at same e h =
    e ∙ ap (λ (z : List (List Record)). z ++ next ∷ []) h ∙ ap (λ (z : List Record). chosen_lists set (take i lists) ++ z ∷ []) same
    ∙ sym (map-append (filter (is_chosen set)) (take i lists) (rs ∷ [])) ∙ ap (chosen_lists set) (sym (taken lists i rs l at))
