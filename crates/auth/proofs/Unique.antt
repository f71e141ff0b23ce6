-- Any two outcomes that a public function's promise allows at the same arguments coincide.
use mathlib.Core.Path.{refl}
use Rattle.auth.proofs as p
use Rattle.base.proofs.Unique.{Unique, both, writer}
use Rattle.base.proofs.Said.{said_one}

pub authentication_algorithm_try_from_unique : Unique p.algorithms.AuthenticationAlgorithmTryFromU8.try_from.Kinds.ps p.algorithms.AuthenticationAlgorithmTryFromU8.try_from.Kinds.r p.algorithms.AuthenticationAlgorithmTryFromU8.try_from.Reads.Asked p.algorithms.AuthenticationAlgorithmTryFromU8.try_from.Reads.Learnt
authentication_algorithm_try_from_unique κs a ok z z' w w' q q' = (both q q', refl)

pub authentication_algorithm_from_unique : Unique p.algorithms.U8FromAuthenticationAlgorithm.from.Kinds.ps p.algorithms.U8FromAuthenticationAlgorithm.from.Kinds.r p.algorithms.U8FromAuthenticationAlgorithm.from.Reads.Asked p.algorithms.U8FromAuthenticationAlgorithm.from.Reads.Learnt
authentication_algorithm_from_unique κs a ok z z' w w' q q' = (both q q', refl)

pub confidentiality_algorithm_try_from_unique : Unique p.algorithms.ConfidentialityAlgorithmTryFromU8.try_from.Kinds.ps p.algorithms.ConfidentialityAlgorithmTryFromU8.try_from.Kinds.r p.algorithms.ConfidentialityAlgorithmTryFromU8.try_from.Reads.Asked p.algorithms.ConfidentialityAlgorithmTryFromU8.try_from.Reads.Learnt
confidentiality_algorithm_try_from_unique κs a ok z z' w w' q q' = (both q q', refl)

pub confidentiality_algorithm_from_unique : Unique p.algorithms.U8FromConfidentialityAlgorithm.from.Kinds.ps p.algorithms.U8FromConfidentialityAlgorithm.from.Kinds.r p.algorithms.U8FromConfidentialityAlgorithm.from.Reads.Asked p.algorithms.U8FromConfidentialityAlgorithm.from.Reads.Learnt
confidentiality_algorithm_from_unique κs a ok z z' w w' q q' = (both q q', refl)

pub integrity_algorithm_try_from_unique : Unique p.algorithms.IntegrityAlgorithmTryFromU8.try_from.Kinds.ps p.algorithms.IntegrityAlgorithmTryFromU8.try_from.Kinds.r p.algorithms.IntegrityAlgorithmTryFromU8.try_from.Reads.Asked p.algorithms.IntegrityAlgorithmTryFromU8.try_from.Reads.Learnt
integrity_algorithm_try_from_unique κs a ok z z' w w' q q' = (both q q', refl)

pub integrity_algorithm_from_unique : Unique p.algorithms.U8FromIntegrityAlgorithm.from.Kinds.ps p.algorithms.U8FromIntegrityAlgorithm.from.Kinds.r p.algorithms.U8FromIntegrityAlgorithm.from.Reads.Asked p.algorithms.U8FromIntegrityAlgorithm.from.Reads.Learnt
integrity_algorithm_from_unique κs a ok z z' w w' q q' = (both q q', refl)

pub auth_type_try_from_unique : Unique p.AuthTypeTryFromU8.try_from.Kinds.ps p.AuthTypeTryFromU8.try_from.Kinds.r p.AuthTypeTryFromU8.try_from.Reads.Asked p.AuthTypeTryFromU8.try_from.Reads.Learnt
auth_type_try_from_unique κs a ok z z' w w' q q' = (both q q', refl)

pub auth_type_numbered_unique : Unique p.AuthType.numbered.Kinds.ps p.AuthType.numbered.Kinds.r p.AuthType.numbered.Reads.Asked p.AuthType.numbered.Reads.Learnt
auth_type_numbered_unique κs a ok z z' w w' q q' = (both q q', refl)

pub auth_type_from_unique : Unique p.U8FromAuthType.from.Kinds.ps p.U8FromAuthType.from.Kinds.r p.U8FromAuthType.from.Reads.Asked p.U8FromAuthType.from.Reads.Learnt
auth_type_from_unique κs a ok z z' w w' q q' = (both q q', refl)

pub auth_type_name_unique : Unique p.AuthType.name.Kinds.ps p.AuthType.name.Kinds.r p.AuthType.name.Reads.Asked p.AuthType.name.Reads.Learnt
auth_type_name_unique κs a ok z z' w w' q q' = writer 1 q q'

pub auth_type_compare_strength_unique : Unique p.AuthType.compare_strength.Kinds.ps p.AuthType.compare_strength.Kinds.r p.AuthType.compare_strength.Reads.Asked p.AuthType.compare_strength.Reads.Learnt
auth_type_compare_strength_unique κs a ok z z' w w' q q' = (both q q', refl)

pub auth_type_best_of_unique : Unique p.AuthType.best_of.Kinds.ps p.AuthType.best_of.Kinds.r p.AuthType.best_of.Reads.Asked p.AuthType.best_of.Reads.Learnt
auth_type_best_of_unique κs a ok z z' w w' q q' = (both q q', refl)

pub privilege_level_try_from_unique : Unique p.PrivilegeLevelTryFromU8.try_from.Kinds.ps p.PrivilegeLevelTryFromU8.try_from.Kinds.r p.PrivilegeLevelTryFromU8.try_from.Reads.Asked p.PrivilegeLevelTryFromU8.try_from.Reads.Learnt
privilege_level_try_from_unique κs a ok z z' w w' q q' = (both q q', refl)

pub privilege_level_numbered_unique : Unique p.PrivilegeLevel.numbered.Kinds.ps p.PrivilegeLevel.numbered.Kinds.r p.PrivilegeLevel.numbered.Reads.Asked p.PrivilegeLevel.numbered.Reads.Learnt
privilege_level_numbered_unique κs a ok z z' w w' q q' = (both q q', refl)

pub privilege_level_from_unique : Unique p.U8FromPrivilegeLevel.from.Kinds.ps p.U8FromPrivilegeLevel.from.Kinds.r p.U8FromPrivilegeLevel.from.Reads.Asked p.U8FromPrivilegeLevel.from.Reads.Learnt
privilege_level_from_unique κs a ok z z' w w' q q' = (both q q', refl)

pub get_channel_authentication_capabilities_new_unique : Unique p.get_channel_authentication_capabilities.GetChannelAuthenticationCapabilities.new.Kinds.ps p.get_channel_authentication_capabilities.GetChannelAuthenticationCapabilities.new.Kinds.r p.get_channel_authentication_capabilities.GetChannelAuthenticationCapabilities.new.Reads.Asked p.get_channel_authentication_capabilities.GetChannelAuthenticationCapabilities.new.Reads.Learnt
get_channel_authentication_capabilities_new_unique κs a ok z z' w w' q q' = (both q q', refl)

pub get_channel_authentication_capabilities_numbered_unique : Unique p.get_channel_authentication_capabilities.GetChannelAuthenticationCapabilities.numbered.Kinds.ps p.get_channel_authentication_capabilities.GetChannelAuthenticationCapabilities.numbered.Kinds.r p.get_channel_authentication_capabilities.GetChannelAuthenticationCapabilities.numbered.Reads.Asked p.get_channel_authentication_capabilities.GetChannelAuthenticationCapabilities.numbered.Reads.Learnt
get_channel_authentication_capabilities_numbered_unique κs a ok z z' w w' q q' = (said_one z z' (both q q'), refl)

pub get_channel_authentication_capabilities_write_unique : Unique p.get_channel_authentication_capabilities.GetChannelAuthenticationCapabilities.write.Kinds.ps p.get_channel_authentication_capabilities.GetChannelAuthenticationCapabilities.write.Kinds.r p.get_channel_authentication_capabilities.GetChannelAuthenticationCapabilities.write.Reads.Asked p.get_channel_authentication_capabilities.GetChannelAuthenticationCapabilities.write.Reads.Learnt
get_channel_authentication_capabilities_write_unique κs a ok z z' w w' q q' = writer 1 q q'

pub get_channel_authentication_capabilities_read_unique : Unique p.get_channel_authentication_capabilities.GetChannelAuthenticationCapabilities.read.Kinds.ps p.get_channel_authentication_capabilities.GetChannelAuthenticationCapabilities.read.Kinds.r p.get_channel_authentication_capabilities.GetChannelAuthenticationCapabilities.read.Reads.Asked p.get_channel_authentication_capabilities.GetChannelAuthenticationCapabilities.read.Reads.Learnt
get_channel_authentication_capabilities_read_unique κs a ok z z' w w' q q' = (said_one z z' (both q q'), refl)

pub channel_authentication_capabilities_parse_unique : Unique p.get_channel_authentication_capabilities.ChannelAuthenticationCapabilities.parse.Kinds.ps p.get_channel_authentication_capabilities.ChannelAuthenticationCapabilities.parse.Kinds.r p.get_channel_authentication_capabilities.ChannelAuthenticationCapabilities.parse.Reads.Asked p.get_channel_authentication_capabilities.ChannelAuthenticationCapabilities.parse.Reads.Learnt
channel_authentication_capabilities_parse_unique κs a ok z z' w w' q q' = (said_one z z' (both q q'), refl)

pub channel_authentication_capabilities_best_auth_unique : Unique p.get_channel_authentication_capabilities.ChannelAuthenticationCapabilities.best_auth.Kinds.ps p.get_channel_authentication_capabilities.ChannelAuthenticationCapabilities.best_auth.Kinds.r p.get_channel_authentication_capabilities.ChannelAuthenticationCapabilities.best_auth.Reads.Asked p.get_channel_authentication_capabilities.ChannelAuthenticationCapabilities.best_auth.Reads.Learnt
channel_authentication_capabilities_best_auth_unique κs a ok z z' w w' q q' = (both q q', refl)

pub channel_authentication_capabilities_write_unique : Unique p.get_channel_authentication_capabilities.ChannelAuthenticationCapabilities.write.Kinds.ps p.get_channel_authentication_capabilities.ChannelAuthenticationCapabilities.write.Kinds.r p.get_channel_authentication_capabilities.ChannelAuthenticationCapabilities.write.Reads.Asked p.get_channel_authentication_capabilities.ChannelAuthenticationCapabilities.write.Reads.Learnt
channel_authentication_capabilities_write_unique κs a ok z z' w w' q q' = writer 1 q q'
