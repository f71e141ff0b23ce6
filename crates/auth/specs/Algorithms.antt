-- The three algorithms of a suite. IPMI 2.0, Tables 13-17, 13-18 and 13-19.
use Rattle.std.specs.Prelude.{ℕ, List, [], ◌∷◌, Option, Some}
use Rattle.base.specs.Named.{named}
use Rattle.auth.specs.declared.algorithms.AuthenticationAlgorithm.{AuthenticationAlgorithm}
use Rattle.auth.specs.declared.algorithms.AuthenticationAlgorithm.TheVariants as Authentication
use Rattle.auth.specs.declared.algorithms.ConfidentialityAlgorithm.{ConfidentialityAlgorithm}
use Rattle.auth.specs.declared.algorithms.ConfidentialityAlgorithm.TheVariants as Confidentiality
use Rattle.auth.specs.declared.algorithms.IntegrityAlgorithm.{IntegrityAlgorithm}
use Rattle.auth.specs.declared.algorithms.IntegrityAlgorithm.TheVariants as Integrity

-- from 0 up, Table 13-17
abbrev pub authentications : List (Option AuthenticationAlgorithm)
authentications = Some Authentication.RakpNone ∷ Some Authentication.RakpHmacSha1 ∷ Some Authentication.RakpHmacMd5 ∷ Some Authentication.RakpHmacSha256 ∷ []

-- the algorithm of a number, Table 13-17
abbrev pub authentication_of : ℕ → Option AuthenticationAlgorithm
authentication_of n = named authentications n

-- its number there
abbrev pub authentication_value : AuthenticationAlgorithm → ℕ
authentication_value Authentication.RakpNone = 0
authentication_value Authentication.RakpHmacSha1 = 1
authentication_value Authentication.RakpHmacMd5 = 2
authentication_value Authentication.RakpHmacSha256 = 3

-- from 0 up, Table 13-19
abbrev pub confidentialities : List (Option ConfidentialityAlgorithm)
confidentialities = Some Confidentiality.None ∷ Some Confidentiality.AesCbc128 ∷ Some Confidentiality.Xrc4_128 ∷ Some Confidentiality.Xrc4_40 ∷ []

-- the algorithm of a number, Table 13-19
abbrev pub confidentiality_of : ℕ → Option ConfidentialityAlgorithm
confidentiality_of n = named confidentialities n

-- its number there
abbrev pub confidentiality_value : ConfidentialityAlgorithm → ℕ
confidentiality_value Confidentiality.None = 0
confidentiality_value Confidentiality.AesCbc128 = 1
confidentiality_value Confidentiality.Xrc4_128 = 2
confidentiality_value Confidentiality.Xrc4_40 = 3

-- from 0 up, Table 13-18
abbrev pub integrities : List (Option IntegrityAlgorithm)
integrities = Some Integrity.None ∷ Some Integrity.HmacSha1_96 ∷ Some Integrity.HmacMd5_128 ∷ Some Integrity.Md5_128 ∷ Some Integrity.HmacSha256_128 ∷ []

-- the algorithm of a number, Table 13-18
abbrev pub integrity_of : ℕ → Option IntegrityAlgorithm
integrity_of n = named integrities n

-- its number there
abbrev pub integrity_value : IntegrityAlgorithm → ℕ
integrity_value Integrity.None = 0
integrity_value Integrity.HmacSha1_96 = 1
integrity_value Integrity.HmacMd5_128 = 2
integrity_value Integrity.Md5_128 = 3
integrity_value Integrity.HmacSha256_128 = 4
