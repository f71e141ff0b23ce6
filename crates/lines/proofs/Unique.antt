-- Any two outcomes that a public function's promise allows at the same arguments coincide.
use mathlib.Core.Path.{refl, ap}
use mathlib.Core.List.{List}
use Prim.Native.Nat.{ℕ}
use Rattle.base.proofs.Unique.{Unique, both, writer}
use Rattle.lines.proofs as p

pub read_pairs_unique : Unique p.read_pairs.Kinds.ps p.read_pairs.Kinds.r p.read_pairs.Reads.Asked p.read_pairs.Reads.Learnt
read_pairs_unique κs a ok z z' w w' q q' = writer 1 q q'

pub hex_unique : Unique p.hex.Kinds.ps p.hex.Kinds.r p.hex.Reads.Asked p.hex.Reads.Learnt
hex_unique κs a ok z z' w w' q q' = writer 1 q q'

pub decimal_unique : Unique p.decimal.Kinds.ps p.decimal.Kinds.r p.decimal.Reads.Asked p.decimal.Reads.Learnt
decimal_unique κs a ok z z' w w' q q' = writer 1 q q'

pub newline_from_unique : Unique p.newline_from.Kinds.ps p.newline_from.Kinds.r p.newline_from.Reads.Asked p.newline_from.Reads.Learnt
newline_from_unique κs a ok z z' w w' q q' = (both q q', refl)

pub kept_unique : Unique p.kept.Kinds.ps p.kept.Kinds.r p.kept.Reads.Asked p.kept.Reads.Learnt
kept_unique κs a ok z z' w w' q q' = (both q.count q'.count, ap (λ (x : List ℕ). (x, (tt, (tt, (tt, tt))))) (both q.leaves q'.leaves))
