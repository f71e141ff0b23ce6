-- Set Channel Access from C: document 02, C-11. An access record is five bytes, a channel's two settings ten: include/ghjalvestru.h has the layouts.
use Rattle.std.specs.Prelude.{ℕ, List}
use Rattle.base.specs.Outcome.{Outcome, accepted, ◌>>=◌}
use Rattle.base.specs.declared.connection.Channel.TheVariants.{Primary}
use Rattle.set_access.specs.SetChannelAccess.{applied, command, command_bytes, command_for, command_of, pair_of}
use Rattle.layouts.specs.Layouts.{access_record, set_access_layout, settings_layout, settings_record}

-- "App 40h, three bytes", of a channel and two pairs that are given as numbers
abbrev pub set_access_request : ℕ → ℕ → ℕ → List ℕ → Outcome (List ℕ)
set_access_request number modePair limitPair access = do
  command ← command_for number (pair_of modePair) (pair_of limitPair) (access_record access)
  command_bytes command

-- the "strict reader", and what it gives as bytes
abbrev pub set_access_record : List ℕ → Outcome (List ℕ)
set_access_record request = do
  command ← command_of request
  accepted (set_access_layout command)

-- "the command applied". Applying looks at no channel and C gives none: any stands here, Primary
abbrev pub set_access_applied : ℕ → ℕ → List ℕ → List ℕ → Outcome (List ℕ)
set_access_applied modePair limitPair access settings = do
  after ← applied (command Primary (pair_of modePair) (pair_of limitPair) (access_record access)) (settings_record settings)
  accepted (settings_layout after)
