-- Logs that got groups, one call after the other.
use Rattle.std.proofs.Common.{◌≡◌, ℕ, Option, List, ◌++◌, refl, subst, ◌∙◌, arith}
use Rattle.gate_log.specs.State.{LogState, AreAllOpen}
use Rattle.run_effects.specs.Driven.{IsDriven}
use Rattle.run_effects.proofs.Driving.{driven_join, driven_same}
use Rattle.solo_host.specs.Drives.{log_at}
use Rattle.solo_host.specs.Outside.{Got, no_group, no_fault}
use Rattle.snap_core.specs.txn_records.declared.records.Record.{Record}

pub got_nothing : (logs : List LogState) → AreAllOpen logs → Got logs logs no_group no_fault
got_nothing logs ready = record { many = refl; each = λ l within. driven_same (log_at logs l) (ready l within) }

pub got_join : (a b c : List LogState) (xs ys : ℕ → List (List Record)) (tried : ℕ → Option (List Record)) → Got a b xs no_fault → Got b c ys tried → Got a c (λ l. xs l ++ ys l) tried
got_join a b c xs ys tried p q = record {
  many = q.many ∙ p.many;
  each = λ l within. driven_join (log_at a l) (log_at b l) (log_at c l) (xs l) (ys l) (tried l) (p.each l within) (q.each l (omega (arith, within, p.many)));
}

-- the groups are the same ones
pub got_same : (a b : List LogState) (xs ys : ℕ → List (List Record)) (tried : ℕ → Option (List Record)) → ((l : ℕ) → xs l ≡ ys l) → Got a b xs tried → Got a b ys tried
got_same a b xs ys tried same p = record { many = p.many; each = λ l within. subst (λ gs. IsDriven (log_at a l) (log_at b l) gs (tried l)) (same l) (p.each l within) }

-- logs that met no fault are open
pub got_open : (a b : List LogState) (xs : ℕ → List (List Record)) → Got a b xs no_fault → AreAllOpen b
got_open a b xs p l within = (p.each l (omega (arith, within, p.many))).shut
