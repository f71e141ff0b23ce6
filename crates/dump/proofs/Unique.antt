-- Any two outcomes that a public function's promise allows at the same arguments coincide.
use mathlib.Core.Path.{◌≡◌}
use mathlib.Core.List.{List}
use Prim.Native.Nat.{ℕ}
use Rattle.std.specs.Prelude.{Result}
use Rattle.base.specs.declared.refusal.Refusal.{Refusal}
use Rattle.base.proofs.Said.{said_one}
use Rattle.base.proofs.Unique.{Unique, both}
use Rattle.collector.specs.declared.Collector.{Collector}
use Rattle.dump.specs.Dump.{Answer, Answers}
use Rattle.dump.specs.declared.Answered.{Answered}
use Rattle.dump.specs.declared.Kind.{Kind}
use Rattle.dump.proofs as p

-- the answer, the buffer and the collector are fixed, and so is what is made of them
pub answered : {X : Type 0} (make : Answered → List ℕ → Collector → X) {answer : Answer} {r r' : Answered} {before after after' : List ℕ} {collector left left' : Collector}
    → Answers answer r before after collector left → Answers answer r' before after' collector left' → make r after left ≡ make r' after' left'
answered make {answer} {r} {r'} q q' =
    let s = q.says.writes in
    let s' = q'.says.writes in
    let w = said_one r.written r'.written (both s.answers s'.answers) in
    let k = both q.says.tells q'.says.tells in
    let e : r ≡ r' = made k w in
    rw (e, both s.leaves s'.leaves, both q.leaves q'.leaves)
  where
    made : {k k' : Kind} {w w' : Result ℕ Refusal} → k ≡ k' → w ≡ w' → ◌≡◌ {A = Answered} (record { kind = k; written = w }) (record { kind = k'; written = w' })
    made e f = rw (e, f)

pub dump_unique : Unique p.dump.Kinds.ps p.dump.Kinds.r p.dump.Reads.Asked p.dump.Reads.Learnt
dump_unique κs a ok z z' w w' q q' = (answered (λ r after left. r) q q', answered (λ r after left. (left, (tt, (after, tt)))) q q')
