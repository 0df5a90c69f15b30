use Rattle.std.proofs.Common.{◌^◌, ℕ, arith, refl}
use Rattle.std.proofs.lemmas.Result.{err_from_is_err_and}
use Rattle.snap_base.specs.declared.ids.Tid.{Tid}
use Rattle.txn_records.proofs.OneRecord.{tid_bytes}
use Rattle.txn_records.proofs.Parts.{roomy_tids, fails_tid}
use Rattle.txn_records.proofs.SoFar.{rising_begins, rising_more, rising_fails, rising_ends}
use Rattle.txn_records.proofs.reading.tids_of.Goals as goal

pub loop-i-init : goal.loop-i-init
loop-i-init c = rising_begins (λ (x : Tid). x.0) tid_bytes (2 ^ 64) _ _ _ c.new-tids.ensures (omega arith)

pub u64_between-requires : goal.u64_between-requires
u64_between-requires c = omega (arith, c.loop-i.invariant.room)

pub returns-in_err-number : goal.returns-in_err-number
returns-in_err-number c =
    let p = err_from_is_err_and c.from_residual.result c.from_residual.ensures.1 in
    rw (p.1, p.2) (rising_fails (λ (x : Tid). x.0) (λ (n : ℕ). let x : Tid = record { 0 = n } in x) tid_bytes (2 ^ 64) (λ n. refl) _ _ _ _ _ _ _ _ c.loop-i-test.true c.loop-i.invariant (fails_tid _ _ _ _ _ (omega arith) c.in_err-number.ensures))

pub loop-i-preserved : goal.loop-i-preserved
loop-i-preserved c =
    rising_more (λ (x : Tid). x.0) tid_bytes (2 ^ 64) roomy_tids _ _ _ _ _ _ _ _ _ _ _ c.loop-i-test.true c.in_ok-number.ensures.0.0 (omega (arith, c.in_ok-number.ensures.0)) refl c.in_ok-number.ensures.1 c.in_ok-push.ensures c.loop-i.invariant

pub returns : goal.returns
returns c = ((omega (arith, c.loop-i.invariant.len), rising_ends _ _ _ _ _ _ _ _ _ _ c.loop-i.invariant), c.loop-i.invariant.spelled)
