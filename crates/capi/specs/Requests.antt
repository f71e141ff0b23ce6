-- The requests of a channel's number that C functions write. Those that take the number of a type or a level stand in Numbered.antt.
use Rattle.std.specs.Prelude.{ℕ, List, [], ◌∷◌, Option, Some, None}
use Rattle.base.specs.Connection.{channel_of}
use Rattle.base.specs.Named.{named, required}
use Rattle.base.specs.Outcome.{Outcome, ◌>>=◌}
use Rattle.access.specs.GetChannelAccess as access
use Rattle.access.specs.declared.get_channel_access.ChannelAccessType.{ChannelAccessType}
use Rattle.access.specs.declared.get_channel_access.ChannelAccessType.TheVariants.{NonVolatile, Volatile}
use Rattle.info.specs.GetChannelInfo as info
use Rattle.by_suite.specs.GetChannelCipherSuites.{list_by_suite}
use Rattle.suites.specs.GetChannelCipherSuites as suites

-- from 0 up: which settings
abbrev pub kinds : List (Option ChannelAccessType)
kinds = None ∷ Some NonVolatile ∷ Some Volatile ∷ []

-- 1 non-volatile, 2 volatile; 9 for any other
abbrev pub kind_of : ℕ → Outcome ChannelAccessType
kind_of n = required 9 [] (named kinds n)

-- "request 41h, 2 bytes"
abbrev pub access_request : ℕ → ℕ → Outcome (List ℕ)
access_request number which = do
  channel ← channel_of number
  kind ← kind_of which
  access.command_bytes (access.command channel kind)

-- "request 42h, 1 byte"
abbrev pub info_request : ℕ → Outcome (List ℕ)
info_request number = do
  command ← info.command_for number
  info.command_bytes command

-- "request 54h, 3 bytes"
abbrev pub suites_request : ℕ → ℕ → Outcome (List ℕ)
suites_request number index = do
  command ← suites.command_for 0 number index
  suites.command_bytes 0 command

-- the same by suite, with bit 7 set: document 02, C-12
abbrev pub by_suite_request : ℕ → ℕ → Outcome (List ℕ)
by_suite_request number index = do
  command ← suites.command_for list_by_suite number index
  suites.command_bytes list_by_suite command
