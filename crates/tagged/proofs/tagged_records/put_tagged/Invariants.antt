use mathlib.Core.Path.{◌≡◌}
use lib.ListN.{length}
use lib.Seq.{paste}
use Rattle.tagged.specs.TaggedRecords.{retagged}
use Rattle.tagged.proofs.tagged_records.put_tagged.Given as goal

abbrev pub invariant-loop-i : goal.invariant-loop-i
invariant-loop-i l = (length l.out ≡ length l.initial.out) × (l.out ≡ paste l.initial.out 0 (retagged l.tag l.bytes) l.i)
