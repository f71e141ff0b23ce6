use native.Mathlib.Omega.{arith}
use Rattle.base.proofs.written.Laws.{fitting, lacking}
use Rattle.tagged.proofs.tagged_records.Writing.{numbers_length, untagged}
use Rattle.tagged.specs.TaggedRecords.{numbers_in}
use Rattle.tagged.proofs.tagged_records.algorithm_numbers.Goals as goal

pub returns-then-out-bytes : goal.returns-then-out-bytes
returns-then-out-bytes c =
    let a = c.args in
    let n = numbers_length a.bytes.now in
    lacking (numbers_in a.bytes.now) a.out.now (omega arith)

pub returns : goal.returns
returns c =
    let a = c.args in
    let n = numbers_length a.bytes.now in
    rw (c.put_tagged.ensures, untagged a.bytes.now, ← n) (fitting (numbers_in a.bytes.now) a.out.now (omega arith))
