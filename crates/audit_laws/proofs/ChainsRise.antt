-- Where places rise along each chain, but for two readers, they rise to each transaction.
use Rattle.std.specs.Prelude.{◌≡◌, ℕ, true, false, ◌&&◌, List, [], ◌∷◌, ◌++◌}
use Rattle.std.proofs.Common.{subst}
use Rattle.snap_base.proofs.Lists.{all_mid}
use Rattle.protocol.specs.History.{Done, History}
use Rattle.protocol.specs.Chains.{chain, is_place_below, RivalsRise}
use Rattle.audit_words.specs.Orders.{RiseTo}

rises_later : (front : List Done) (d e : Done) (between rest : List Done) → RivalsRise (front ++ d ∷ (between ++ e ∷ rest)) → (d.reader && e.reader) ≡ false → is_place_below d.place e.place ≡ true
rises_later [] d e between rest h k = all_mid (λ x. (d.reader && x.reader) ≡ false → is_place_below d.place x.place ≡ true) e between rest h.0 k
rises_later (x ∷ front) d e between rest h k = rises_later front d e between rest h.1 k

pub rise_to : (n : ℕ) (h : History) → ((a : ℕ) → RivalsRise (chain a h)) → RiseTo n h
rise_to n h k a t u p e = rises_later p.front p.first p.second p.between p.rest (subst RivalsRise p.splits (k a)) p.rivals
