use mathlib.Core.Path.{◌≡◌, sym, ap, ◌∙◌}
use Prim.Native.Nat.{◌-◌}
use native.Mathlib.Omega.{arith}
use lib.ListN.{length}
use Rattle.std.specs.Prelude.{is_some}
use Rattle.suites.specs.declared.get_channel_cipher_suites.Step.{Step}
use Rattle.suites.proofs.get_channel_cipher_suites.Records.{off, on, rest}
use Rattle.suites.proofs.get_channel_cipher_suites.count.Goals as goal

pub loop-n-preserved : goal.loop-n-preserved
loop-n-preserved c =
    let h = on c.args.list.now c.loop-n.at (sym (c.is_some.ensures ∙ ap (λ (s : Step). is_some s.answer) c.step_at.ensures) ∙ c.loop-n-test.true) in
    (omega arith, h.0, omega arith)

pub returns : goal.returns
returns c =
    let s = c.args.list.now in
    let h = off s c.loop-n.at (sym (c.is_some.ensures ∙ ap (λ (s : Step). is_some s.answer) c.step_at.ensures) ∙ c.loop-n-test.false) (length s - c.loop-n.at) in
    let z : length (rest s c.loop-n.at) ≡ 0 = rw h in
    omega arith
