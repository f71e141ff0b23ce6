use native.Mathlib.Omega.{arith}
use Rattle.by_suite.specs.GetChannelCipherSuites.{is_channel}
use Rattle.by_suite.proofs.get_channel_cipher_suites.Laws.{first_byte}
use Rattle.by_suite.proofs.get_channel_cipher_suites.number_in.Goals as goal

pub returns-in_default : goal.returns-in_default
unfolding is_channel
returns-in_default c =
    let s = c.args.response.now in
    rw (first_byte s (omega arith) (omega arith), ← c.bits-number.ensures, ← c.in_default.ensures)

pub returns : goal.returns
unfolding is_channel
returns c =
    let s = c.args.response.now in
    rw (first_byte s (omega arith) (omega arith), ← c.bits-number.ensures, ← c.in-Ok.ensures)
