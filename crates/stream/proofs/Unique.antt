-- Any two outcomes that a public function's promise allows at the same arguments coincide.
use mathlib.Core.Path.{◌≡◌, ap}
use mathlib.Core.List.{List}
use Prim.Native.Nat.{ℕ}
use Rattle.std.specs.Prelude.{Result}
use Rattle.base.specs.declared.refusal.Refusal.{Refusal}
use Rattle.base.proofs.Said.{said_one}
use Rattle.base.proofs.Unique.{Unique, both}
use Rattle.collector.specs.declared.Collector.{Collector}
use Rattle.stream.specs.Stream.{Feeds, Replies}
use Rattle.stream.specs.declared.Fed.{Fed}
use Rattle.stream.proofs as p

-- the result, the buffer and the collector are fixed, and so is what is made of them
fed : {X : Type 0} (make : Fed → List ℕ → Collector → X) {c left left' : Collector} {lines : List (List ℕ)} {r r' : Fed} {before after after' : List ℕ}
    → Feeds c lines r before after left → Feeds c lines r' before after' left' → make r after left ≡ make r' after' left'
fed make {r = r} {r' = r'} q q' =
    let e : r ≡ r' = made (both q.takes q'.takes) (both q.puts q'.puts) in
    rw (e, both q.leaves q'.leaves, both q.collects q'.collects)
  where
    made : {t t' p p' : ℕ} → t ≡ t' → p ≡ p' → ◌≡◌ {A = Fed} (record { taken = t; put = p }) (record { taken = t'; put = p' })
    made e f = rw (e, f)

replied : {X : Type 0} (make : Result ℕ Refusal → List ℕ → Collector → X) {c left left' : Collector} {lines : List (List ℕ)} {r r' : Result ℕ Refusal} {before after after' : List ℕ}
    → Replies c lines r before after left → Replies c lines r' before after' left' → make r after left ≡ make r' after' left'
replied make {r = r} {r' = r'} q q' =
    let e = said_one r r' (both q.writes.answers q'.writes.answers) in
    rw (e, both q.writes.leaves q'.writes.leaves, both q.leaves q'.leaves)

pub begin_unique : Unique p.begin.Kinds.ps p.begin.Kinds.r p.begin.Reads.Asked p.begin.Reads.Learnt
begin_unique κs a ok z z' w w' q q' = (said_one z z' (both q.answers q'.answers), ap (λ (x : List ℕ). (x, tt)) (both q.leaves q'.leaves))

pub feed_unique : Unique p.feed.Kinds.ps p.feed.Kinds.r p.feed.Reads.Asked p.feed.Reads.Learnt
feed_unique κs a ok z z' w w' q q' = (fed (λ r after left. r) q q', fed (λ r after left. (left, (tt, (after, tt)))) q q')

pub finish_unique : Unique p.finish.Kinds.ps p.finish.Kinds.r p.finish.Reads.Asked p.finish.Reads.Learnt
finish_unique κs a ok z z' w w' q q' = (replied (λ r after left. r) q q', replied (λ r after left. (left, (tt, (after, tt)))) q q')
