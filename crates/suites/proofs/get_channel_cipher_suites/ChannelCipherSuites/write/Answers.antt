use borrow.Author.Tests.{lt-ltb, le-ltb, tests}
use lib.Dec.{eqb}
use mathlib.Core.Path.{◌≡◌, sym, ap, ◌∙◌}
use native.Mathlib.Omega.{arith}
use Rattle.std.proofs.Common.{rules}
use Rattle.std.proofs.lemmas.Iterator.{YieldsList-from_slice}
use Rattle.std.proofs.lemmas.Iterator.Search.{all_from_yields_List}
use Rattle.base.specs.declared.refusal.Refusal.TheVariants.{NoForm}
use Rattle.base.proofs.written.Laws.{refusing}
use Rattle.collector.specs.Collector.{part_length}
use Rattle.suites.specs.GetChannelCipherSuites.{zeros}
use Rattle.suites.proofs.get_channel_cipher_suites.ChannelCipherSuites.write.Goals as goal

pub returns-then-self-gt-PART : goal.returns-then-self-gt-PART
returns-then-self-gt-PART c =
    let a = c.args in
    refusing NoForm a.out.now (simp (lt-ltb part_length a.self.data_length (omega arith)))

pub returns-then-not-all : goal.returns-then-not-all
unfolding zeros
returns-then-not-all c =
    let a = c.args in
    let z : c.all.result ≡ zeros c.split_at.result.1.now = all_from_yields_List (λ b. eqb b 0) _ _ c.all.result c.all.ensures.ran (YieldsList-from_slice c.split_at.result.1.now cc) (λ x b q k. search (rules, tests)) in
    let e = sym (z ∙ ap zeros c.split_at.ensures.back) ∙ c.if-not-all.true in
    refusing NoForm a.out.now (simp (le-ltb part_length a.self.data_length (omega arith), e))

pub returns : goal.returns
unfolding zeros
returns c =
    let a = c.args in
    let z : c.all.result ≡ zeros c.split_at.result.1.now = all_from_yields_List (λ b. eqb b 0) _ _ c.all.result c.all.ensures.ran (YieldsList-from_slice c.split_at.result.1.now cc) (λ x b q k. search (rules, tests)) in
    let e = sym (z ∙ ap zeros c.split_at.ensures.back) ∙ c.if-not-all.false in
    rw (le-ltb part_length a.self.data_length (omega arith), e, ← c.split_at.ensures.front) c.place.ensures
