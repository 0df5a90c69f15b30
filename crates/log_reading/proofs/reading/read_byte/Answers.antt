use Rattle.std.proofs.Common.{◌≡◌, ◌-◌, min}
use Rattle.log_reading.proofs.Copies.{byte_read, some_is}
use Rattle.log_reading.proofs.reading.read_byte.Goals as goal

pub returns-clause-byte : goal.returns-clause-byte
returns-clause-byte g c =
    let told = g.D.LogDev.told c.args.dev.now in
    let length = g.D.LogDev.told_length c.args.dev.now in
    byte_read told length c.read_at.new.buf c.args.len c.args.at c.in_ok-read_at.field-0 (g.met.D.LogDev.content_length c.args.dev.now) c.requires.known c.requires.within
    (some_is length c.args.len (λ len. c.in_ok-read_at.field-0 ≡ min 1 (len - c.args.at)) c.requires.known c.in_ok-read_at.ensures.count) c.in_ok-read_at.ensures.bytes
