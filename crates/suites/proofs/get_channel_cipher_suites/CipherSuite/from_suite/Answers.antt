use mathlib.Core.Path.{◌≡◌, sym, ◌∙◌}
use mathlib.Core.Bool.{true, false}
use lib.ListN.{get_or}
use native.Mathlib.Omega.{arith}
use Rattle.suites.specs.GetChannelCipherSuites.{suites, row, same}
use Rattle.suites.proofs.get_channel_cipher_suites.Laws.{hit, missed}
use Rattle.suites.proofs.get_channel_cipher_suites.CipherSuite.from_suite.Goals as goal

pub returns-then-eq : goal.returns-then-eq
unfolding suites
returns-then-eq c =
    let e : same (get_or suites c.loop-i.i (row 0 0 0)) c.args.suite ≡ true = sym c.eq.ensures ∙ c.if-eq.true in
    sym (c.loop-i.invariant ∙ hit suites c.loop-i.i c.args.suite (row 0 0 0) (omega arith) e)

pub loop-i-preserved : goal.loop-i-preserved
unfolding suites
loop-i-preserved c =
    let e : same (get_or suites c.loop-i.i (row 0 0 0)) c.args.suite ≡ false = sym c.eq.ensures ∙ c.if-eq.false in
    c.loop-i.invariant ∙ missed suites c.loop-i.i c.args.suite (row 0 0 0) (omega arith) e

pub returns : goal.returns
unfolding suites
returns c =
    let i : c.loop-i.i ≡ 20 = omega arith in
    sym (rw i at c.loop-i.invariant)
