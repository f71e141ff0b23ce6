-- Any two outcomes that a public function's promise allows at the same arguments coincide.
use mathlib.Core.Path.{refl}
use Rattle.base.proofs.Unique.{Unique, both, writer}
use Rattle.base.proofs.Said.{said_one}
use Rattle.base.proofs.Verdict.{beside}
use Rattle.collector.proofs as p

pub answer_in_unique : Unique p.answer_in.Kinds.ps p.answer_in.Kinds.r p.answer_in.Reads.Asked p.answer_in.Reads.Learnt
answer_in_unique κs a ok z z' w w' q q' = (beside (λ verdict left. verdict) q q', beside (λ verdict left. (left.bytes, (left.marks, (left.known, (tt, (tt, tt)))))) q q')

pub status_in_unique : Unique p.status_in.Kinds.ps p.status_in.Kinds.r p.status_in.Reads.Asked p.status_in.Reads.Learnt
status_in_unique κs a ok z z' w w' q q' = (said_one z z' (both q q'), refl)

pub list_in_unique : Unique p.list_in.Kinds.ps p.list_in.Kinds.r p.list_in.Reads.Asked p.list_in.Reads.Learnt
list_in_unique κs a ok z z' w w' q q' = writer 3 q q'

pub answer_lent_unique : Unique p.answer_lent.Kinds.ps p.answer_lent.Kinds.r p.answer_lent.Reads.Asked p.answer_lent.Reads.Learnt
answer_lent_unique κs a ok z z' w w' q q' = (beside (λ verdict left. verdict) q q', beside (λ verdict left. (left, (tt, (tt, tt)))) q q')

pub collector_fresh_unique : Unique p.Collector.fresh.Kinds.ps p.Collector.fresh.Kinds.r p.Collector.fresh.Reads.Asked p.Collector.fresh.Reads.Learnt
collector_fresh_unique κs a ok z z' w w' q q' = (both q q', refl)

pub collector_answer_unique : Unique p.Collector.answer.Kinds.ps p.Collector.answer.Kinds.r p.Collector.answer.Reads.Asked p.Collector.answer.Reads.Learnt
collector_answer_unique κs a ok z z' w w' q q' = (beside (λ verdict collector. record { verdict = verdict; collector = collector }) q q', refl)

pub collector_status_unique : Unique p.Collector.status.Kinds.ps p.Collector.status.Kinds.r p.Collector.status.Reads.Asked p.Collector.status.Reads.Learnt
collector_status_unique κs a ok z z' w w' q q' = (said_one z z' (both q q'), refl)

pub collector_list_unique : Unique p.Collector.list.Kinds.ps p.Collector.list.Kinds.r p.Collector.list.Reads.Asked p.Collector.list.Reads.Learnt
collector_list_unique κs a ok z z' w w' q q' = writer 1 q q'
