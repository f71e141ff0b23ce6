use Rattle.collector.specs.Stored.{collector_of}
use Rattle.collector.proofs.Entries.{shape_fits}
use Rattle.collector.proofs.Stored.{parts_formed, says_complete, says_missing}
use Rattle.collector.proofs.tested.Tested.status.Goals as goal

pub length_by-requires : goal.length_by-requires
length_by-requires c =
    let t = c.args.self in
    shape_fits t.bytes.now t.marks.now t.shape t.shaped (parts_formed (collector_of t.bytes.now t.marks.now t.known.now) t.passes)

pub returns-then-self-eq1 : goal.returns-then-self-eq1
returns-then-self-eq1 c =
    let t = c.args.self in
    says_complete (collector_of t.bytes.now t.marks.now t.known.now) t.passes c.if-self-eq1.true c.length_by.result c.length_by.ensures

pub returns : goal.returns
returns c =
    let t = c.args.self in
    says_missing (collector_of t.bytes.now t.marks.now t.known.now) t.passes c.if-self-eq1.false
