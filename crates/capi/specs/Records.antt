-- The records that the C functions give, as bytes: include/ghjalvestru.h has the layouts.
use Rattle.std.specs.Prelude.{ℕ, List}
use Rattle.auth.specs.GetChannelAuthenticationCapabilities.{capabilities_of}
use Rattle.base.specs.Outcome.{Outcome, accepted, ◌>>=◌}
use Rattle.access.specs.GetChannelAccess.{access_of}
use Rattle.info.specs.GetChannelInfo.{info_of}
use Rattle.layouts.specs.Layouts.{access_layout, capabilities_layout, info_layout}
use Rattle.activation.specs.ActivateSession.{begin_bytes, begin_of}
use Rattle.challenge.specs.GetSessionChallenge.{challenge_bytes, challenge_of}
use Rattle.by_suite.specs.GetChannelCipherSuites.{answer_bytes, answer_of}
use Rattle.suites.specs.GetChannelCipherSuites.{part_of, suites_bytes}

-- temporary session number, four bytes, low first; the challenge
abbrev pub challenge_record : List ℕ → Outcome (List ℕ)
challenge_record response = do
  challenge ← challenge_of response
  challenge_bytes challenge

-- authentication type; session number and sequence number, four bytes each, low first; privilege level
abbrev pub activation_record : List ℕ → Outcome (List ℕ)
activation_record response = do
  session ← begin_of response
  begin_bytes session

-- the part of the list
abbrev pub suites_record : List ℕ → Outcome (List ℕ)
suites_record response = do
  suites ← part_of response
  suites_bytes suites

-- an answer by suite: its channel's number, then the part of the list
abbrev pub by_suite_record : List ℕ → Outcome (List ℕ)
by_suite_record response = do
  answer ← answer_of response
  answer_bytes answer

-- of a response of Get Channel Access
abbrev pub access_record : List ℕ → Outcome (List ℕ)
access_record response = do
  access ← access_of response
  accepted (access_layout access)

-- of a response of Get Channel Info
abbrev pub info_record : List ℕ → Outcome (List ℕ)
info_record response = do
  info ← info_of response
  accepted (info_layout info)

-- of a response of Get Channel Authentication Capabilities
abbrev pub capabilities_record : List ℕ → Outcome (List ℕ)
capabilities_record response = do
  capabilities ← capabilities_of response
  accepted (capabilities_layout capabilities)
