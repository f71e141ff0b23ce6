use Rattle.std.proofs.Common.{◌≡◌, ◌-◌, ◌≤◌, length, ◌++◌, take}
use Rattle.base.specs.Little.{little_bytes}
use Rattle.base.proofs.little.bytes.Given as goal

-- the bytes that stand, and those of the rest behind them
abbrev pub invariant-loop-byte : goal.invariant-loop-byte
invariant-loop-byte g l =
    (length l.byte-items ≡ g.row.N)
    × (l.byte-index ≤ g.row.N)
    × (little_bytes g.row.N l.fn.n ≡ take l.byte-index l.byte-items ++ little_bytes (g.row.N - l.byte-index) l.rest)
