-- Any two outcomes that a public function's promise allows at the same arguments coincide.
use mathlib.Core.Path.{refl}
use Rattle.base.proofs.Unique.{Unique, both, writer}
use Rattle.tagged.proofs as p
use Rattle.base.proofs.Said.{said_one}

pub step_at_unique : Unique p.tagged_records.step_at.Kinds.ps p.tagged_records.step_at.Kinds.r p.tagged_records.step_at.Reads.Asked p.tagged_records.step_at.Reads.Learnt
step_at_unique κs a ok z z' w w' q q' = (said_one z z' (both q q'), refl)

pub count_unique : Unique p.tagged_records.count.Kinds.ps p.tagged_records.count.Kinds.r p.tagged_records.count.Reads.Asked p.tagged_records.count.Reads.Learnt
count_unique κs a ok z z' w w' q q' = (said_one z z' (both q q'), refl)

pub suite_numbers_unique : Unique p.tagged_records.suite_numbers.Kinds.ps p.tagged_records.suite_numbers.Kinds.r p.tagged_records.suite_numbers.Reads.Asked p.tagged_records.suite_numbers.Reads.Learnt
suite_numbers_unique κs a ok z z' w w' q q' = writer 1 q q'

pub suite_listing_unique : Unique p.tagged_records.suite_listing.Kinds.ps p.tagged_records.suite_listing.Kinds.r p.tagged_records.suite_listing.Reads.Asked p.tagged_records.suite_listing.Reads.Learnt
suite_listing_unique κs a ok z z' w w' q q' = writer 1 q q'

pub entry_unique : Unique p.tagged_records.entry.Kinds.ps p.tagged_records.entry.Kinds.r p.tagged_records.entry.Reads.Asked p.tagged_records.entry.Reads.Learnt
entry_unique κs a ok z z' w w' q q' = (both q q', refl)

pub algorithm_numbers_unique : Unique p.tagged_records.algorithm_numbers.Kinds.ps p.tagged_records.algorithm_numbers.Kinds.r p.tagged_records.algorithm_numbers.Reads.Asked p.tagged_records.algorithm_numbers.Reads.Learnt
algorithm_numbers_unique κs a ok z z' w w' q q' = writer 1 q q'

pub write_unique : Unique p.tagged_records.write.Kinds.ps p.tagged_records.write.Kinds.r p.tagged_records.write.Reads.Asked p.tagged_records.write.Reads.Learnt
write_unique κs a ok z z' w w' q q' = writer 5 q q'
