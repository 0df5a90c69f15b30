use Rattle.std.proofs.Common.{◌≡◌, ◌∙◌, ◌+◌, ◌-◌, ◌<◌, ◌≤◌, length, arith}
use Rattle.snap_hand.specs.Tables.{fixed_of}
use Rattle.snap_core.proofs.Together.{begins, may_put, put_next, all_put}
use Rattle.snap_core.proofs.parting.filled.Goals as goal

pub loop-put-init : goal.loop-put-init
loop-put-init c =
    let n = c.len-count.result in
    let e : n ≡ length c.args.all.items = c.len-count.ensures ∙ c.args.all.ok.0 in
    let k_is : n - 0 ≡ length c.args.all.items = omega (arith, e) in (
      begins (fixed_of c.args.tables.now) c.args.all.items c.args.tables.now.work.logs (length c.args.tables.now.opening.states) (n - 0) c.args.empty k_is
          c.requires.empty c.requires.places c.requires.fits c.requires.some.parts.all,
      e,
    )

pub put_last-requires : goal.put_last-requires
put_last-requires c =
    let n = c.len-count.result in
    let put = c.loop-put._put in
    let less : put < n = c.loop-put-test.true in
    let e : n ≡ length c.args.all.items = c.loop-put.invariant.1 in
    let at : n - put ≡ (n - (put + 1)) + 1 = omega (arith, less) in
    let within : n - put ≤ length c.args.all.items = omega (arith, e) in
    may_put (fixed_of c.args.tables.now) c.args.all.items c.loop-put.parts.items (n - (put + 1)) (n - put) c.loop-put.hand at within
    c.putting_fits.ensures.belongs c.requires.some c.loop-put.invariant.0

pub loop-put-preserved : goal.loop-put-preserved
loop-put-preserved c =
    let n = c.len-count.result in
    let put = c.loop-put._put in
    let less : put < n = c.loop-put-test.true in
    let e : n ≡ length c.args.all.items = c.loop-put.invariant.1 in
    let at : n - put ≡ (n - (put + 1)) + 1 = omega (arith, less) in
    let within : n - put ≤ length c.args.all.items = omega (arith, e) in (
      put_next (fixed_of c.args.tables.now) c.args.all.items c.loop-put.parts.items c.put_last.new.parts.items (n - (put + 1)) (n - put) c.loop-put.hand c.put_last.new.hand at within
          c.putting_fits.ensures.belongs c.putting_fits.ensures.fits c.putting_fits.ensures.stays c.places_are_set.ensures.with c.requires.some c.put_last.ensures c.loop-put.invariant.0,
      e,
    )

pub returns-clause-whole : goal.returns-clause-whole
returns-clause-whole c =
    let n = c.len-count.result in
    let put = c.loop-put._put in
    let past : n ≤ put = c.loop-put-test.false in
    let end : n - put ≡ 0 = omega (arith, past) in
    all_put (fixed_of c.args.tables.now) c.args.all.items c.loop-put.parts.items (n - put) c.loop-put.hand end c.loop-put.invariant.0
