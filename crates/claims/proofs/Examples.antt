-- Document 01, "Examples at the edges", those marked P, and those of document 02's C-18: rows of a table under one claim.
use mathlib.Core.Path.{◌≡◌}
use Prim.Native.Nat.{ℕ}
use mathlib.Core.Bool.{false}
use mathlib.Core.List.{List, [], ◌∷◌, ◌++◌, map}
use Rattle.std.specs.Prelude.{Some, None}
use lib.ListN.{replicate}
use Rattle.auth.specs.Auth.{privilege_of}
use Rattle.auth.specs.GetChannelAuthenticationCapabilities as Capabilities
use Rattle.auth.specs.GetChannelAuthenticationCapabilities.{capabilities_of}
use Rattle.auth.specs.declared.AuthType.TheVariants.{MD5}
use Rattle.auth.specs.declared.PrivilegeLevel.TheVariants.{Administrator}
use Rattle.base.specs.Connection.{channel_of}
use Rattle.base.specs.Outcome.{accepted, refused}
use Rattle.base.specs.Verdict.{verdict_of}
use Rattle.base.specs.declared.connection.Channel.TheVariants.{Current, Numbered}
use Rattle.access.specs.GetChannelAccess.{command, command_bytes}
use Rattle.access.specs.declared.get_channel_access.ChannelAccessType.TheVariants.{NonVolatile}
use Rattle.claims.proofs.Collecting.{P11, P12_first, P12_then, P13, call, seventeen_at_63, sevens, sixteen_at_63}
use Rattle.collector.specs.declared.Status.TheVariants.{Complete, Missing}
use Rattle.collector.specs.Stored.{after_stored, fresh_stored, list_stored, standing_stored, taking_stored}
use Rattle.activation.specs.ActivateSession as Activate
use Rattle.activation.specs.ActivateSession.{begin_of}
use Rattle.challenge.specs.GetSessionChallenge as Challenge
use Rattle.challenge.specs.GetSessionChallenge.{challenge_of}
use Rattle.suites.specs.GetChannelCipherSuites as Suites

infix 5 ◌gives◌
pub record Row : Type 1 where
  pub of : Type 0
  pub what : of
  pub answer : of

abbrev ◌gives◌ : {A : Type 0} → A → A → Row
◌gives◌ {A} what answer = record { of = A; what = what; answer = answer }

-- P10's: an unknown suite's number, then a whole record
abbrev two_records : List ℕ
two_records = 0xC0 ∷ 0x14 ∷ 0xC0 ∷ 0x03 ∷ 0x01 ∷ 0x41 ∷ 0x81 ∷ []

pub examples : List Row
examples =
    -- P1
    (channel_of 0x0B gives accepted (Numbered (record { 0 = 0x0B })))
    ∷ (channel_of 0x0C gives refused 6 [])
    -- P2
    ∷ (channel_of 0x0E gives accepted Current)
    ∷ (channel_of 0x10 gives refused 6 [])
    -- P3
    ∷ (Suites.command_bytes 0 (Suites.command 0 (Numbered (record { 0 = 1 })) 2) gives accepted (0x01 ∷ 0x00 ∷ 0x02 ∷ []))
    ∷ (Suites.command_for 0 1 0x40 gives refused 7 [])
    -- P4
    ∷ (Capabilities.command_bytes (Capabilities.command (Numbered (record { 0 = 1 })) Administrator) gives accepted (0x81 ∷ 0x04 ∷ []))
    -- P5
    ∷ (command_bytes (command Current NonVolatile) gives accepted (0x0E ∷ 0x40 ∷ []))
    -- P6
    ∷ (verdict_of (capabilities_of (1 ∷ 0x16 ∷ replicate 5 0)) gives accepted tt)
    ∷ (verdict_of (capabilities_of (1 ∷ 0x96 ∷ replicate 5 0)) gives refused 1 [])
    -- P7
    ∷ (challenge_of (replicate 21 1) gives refused 1 [])
    ∷ (challenge_of (replicate 4 0 ++ replicate 16 1) gives refused 3 [])
    -- P8
    ∷ (begin_of (3 ∷ replicate 9 0) gives refused 4 (3 ∷ []))
    -- P9
    ∷ (privilege_of 0xF4 gives Some Administrator)
    ∷ (begin_of (0 ∷ replicate 8 1 ++ 0x06 ∷ []) gives refused 5 (0x06 ∷ []))
    -- P10
    ∷ ((Suites.step_after 0 two_records 0 false).answer gives None)
    ∷ ((Suites.step_after 1 two_records 0 false).answer gives Some (Suites.suite 3))
    ∷ (Suites.numbers_of two_records gives [])
    -- P11
    ∷ (standing_stored (after_stored (call 0 0 ∷ [])) gives accepted (Complete 0))
    ∷ (list_stored (after_stored (call 0 0 ∷ [])) gives accepted [])
    -- P12
    ∷ (standing_stored (after_stored (call 2 0 ∷ call 0 16 ∷ [])) gives accepted (Missing 1))
    ∷ (standing_stored (after_stored (call 1 3 ∷ call 2 0 ∷ call 0 16 ∷ [])) gives accepted (Complete 19))
    -- P13
    ∷ (verdict_of (taking_stored (after_stored (call 1 3 ∷ [])) 2 (sevens 1)) gives refused 12 [])
    -- "Sixteen bytes accepted at index 63; seventeen refused 2."
    ∷ (verdict_of (taking_stored fresh_stored 63 (sevens 16)) gives accepted tt)
    ∷ (verdict_of (taking_stored fresh_stored 63 (sevens 17)) gives refused 2 [])
    -- C-18: an answer's authentication byte counts by its low nibble, and 4 carries it whole; a request's counts whole
    ∷ (begin_of (0x12 ∷ 1 ∷ replicate 7 0 ++ 4 ∷ []) gives accepted (record { auth_type = MD5; session_id = 1; initial_sequence_number = 0; maximum_privilege_level = Administrator }))
    ∷ (begin_of (0x13 ∷ 1 ∷ replicate 7 0 ++ 4 ∷ []) gives refused 4 (0x13 ∷ []))
    ∷ (Challenge.command_of (0x02 ∷ replicate 16 0) gives accepted (Challenge.command MD5 (replicate 16 0)))
    ∷ (Challenge.command_of (0x12 ∷ replicate 16 0) gives refused 10 [])
    ∷ (Activate.command_of (0x02 ∷ 4 ∷ replicate 20 0) gives accepted (Activate.command MD5 Administrator (replicate 16 0) 0))
    ∷ (Activate.command_of (0x12 ∷ 4 ∷ replicate 20 0) gives refused 10 [])
    ∷ []

pub examples_hold : map (λ (r : Row). r.what gives r.what) examples ≡ map (λ (r : Row). r.what gives r.answer) examples
unfolding examples Suites.step_after Suites.suites Suites.up_to
examples_hold = rw (P11.0, P11.1, P12_first, P12_then, P13, sixteen_at_63, seventeen_at_63)
