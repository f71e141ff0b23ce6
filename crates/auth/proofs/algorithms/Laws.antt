-- Laws of algorithms: a number names exactly the algorithm whose number it is.
use Rattle.std.specs.Prelude.{◌≡◌, ℕ, ◌↔◌, Some}
use mathlib.Core.Path.{refl}
use Rattle.auth.specs.Algorithms.{authentications, authentication_of, authentication_value, confidentialities, confidentiality_of, confidentiality_value, integrities, integrity_of, integrity_value}
use Rattle.auth.specs.declared.algorithms.AuthenticationAlgorithm.{AuthenticationAlgorithm}
use Rattle.auth.specs.declared.algorithms.AuthenticationAlgorithm.TheVariants as Authentication
use Rattle.auth.specs.declared.algorithms.ConfidentialityAlgorithm.{ConfidentialityAlgorithm}
use Rattle.auth.specs.declared.algorithms.ConfidentialityAlgorithm.TheVariants as Confidentiality
use Rattle.auth.specs.declared.algorithms.IntegrityAlgorithm.{IntegrityAlgorithm}
use Rattle.auth.specs.declared.algorithms.IntegrityAlgorithm.TheVariants as Integrity
use Rattle.base.proofs.Named.{name_iff}

pub authentication_iff : (n : ℕ) (a : AuthenticationAlgorithm) → authentication_of n ≡ Some a ↔ authentication_value a ≡ n
authentication_iff = name_iff authentication_value authentications refl (elim [ Authentication.RakpNone ↦ refl | Authentication.RakpHmacSha1 ↦ refl | Authentication.RakpHmacMd5 ↦ refl | Authentication.RakpHmacSha256 ↦ refl ])

pub confidentiality_iff : (n : ℕ) (a : ConfidentialityAlgorithm) → confidentiality_of n ≡ Some a ↔ confidentiality_value a ≡ n
confidentiality_iff = name_iff confidentiality_value confidentialities refl (elim [ Confidentiality.None ↦ refl | Confidentiality.AesCbc128 ↦ refl | Confidentiality.Xrc4_128 ↦ refl | Confidentiality.Xrc4_40 ↦ refl ])

pub integrity_iff : (n : ℕ) (a : IntegrityAlgorithm) → integrity_of n ≡ Some a ↔ integrity_value a ≡ n
integrity_iff = name_iff integrity_value integrities refl (elim [ Integrity.None ↦ refl | Integrity.HmacSha1_96 ↦ refl | Integrity.HmacMd5_128 ↦ refl | Integrity.Md5_128 ↦ refl | Integrity.HmacSha256_128 ↦ refl ])
