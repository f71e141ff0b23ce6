-- Any two outcomes that a public function's promise allows at the same arguments coincide.
use Prim.Native.Nat.{ℕ}
use mathlib.Core.List.{List}
use mathlib.Core.Path.{refl, ap}
use borrow.Fn.Kinds.{ParamKind, ResultKind, In, Out}
use mir.Syntax.{w8}
use mir.Val.{Fits}
use Rattle.base.proofs.Unique.{UniqueEach, Unique, UniquePart, both, writer}
use Rattle.base.proofs.Said.{said_one}
use Rattle.suites.proofs as p

pub cipher_suite_id_unique : Unique p.get_channel_cipher_suites.CipherSuite.id.Kinds.ps p.get_channel_cipher_suites.CipherSuite.id.Kinds.r p.get_channel_cipher_suites.CipherSuite.id.Reads.Asked p.get_channel_cipher_suites.CipherSuite.id.Reads.Learnt
cipher_suite_id_unique κs a ok z z' w w' q q' = (both q q', refl)

pub cipher_suite_from_id_unique : Unique p.get_channel_cipher_suites.CipherSuite.from_id.Kinds.ps p.get_channel_cipher_suites.CipherSuite.from_id.Kinds.r p.get_channel_cipher_suites.CipherSuite.from_id.Reads.Asked p.get_channel_cipher_suites.CipherSuite.from_id.Reads.Learnt
cipher_suite_from_id_unique κs a ok z z' w w' q q' = (both q q', refl)

pub cipher_suite_from_suite_unique : Unique p.get_channel_cipher_suites.CipherSuite.from_suite.Kinds.ps p.get_channel_cipher_suites.CipherSuite.from_suite.Kinds.r p.get_channel_cipher_suites.CipherSuite.from_suite.Reads.Asked p.get_channel_cipher_suites.CipherSuite.from_suite.Reads.Learnt
cipher_suite_from_suite_unique κs a ok z z' w w' q q' = (both q q', refl)

pub cipher_suite_into_suite_unique : Unique p.get_channel_cipher_suites.CipherSuite.into_suite.Kinds.ps p.get_channel_cipher_suites.CipherSuite.into_suite.Kinds.r p.get_channel_cipher_suites.CipherSuite.into_suite.Reads.Asked p.get_channel_cipher_suites.CipherSuite.into_suite.Reads.Learnt
cipher_suite_into_suite_unique κs a ok z z' w w' q q' = (both q q', refl)

pub cipher_suite_authentication_unique : Unique p.get_channel_cipher_suites.CipherSuite.authentication.Kinds.ps p.get_channel_cipher_suites.CipherSuite.authentication.Kinds.r p.get_channel_cipher_suites.CipherSuite.authentication.Reads.Asked p.get_channel_cipher_suites.CipherSuite.authentication.Reads.Learnt
cipher_suite_authentication_unique κs a ok z z' w w' q q' = (both q q', refl)

pub cipher_suite_integrity_unique : Unique p.get_channel_cipher_suites.CipherSuite.integrity.Kinds.ps p.get_channel_cipher_suites.CipherSuite.integrity.Kinds.r p.get_channel_cipher_suites.CipherSuite.integrity.Reads.Asked p.get_channel_cipher_suites.CipherSuite.integrity.Reads.Learnt
cipher_suite_integrity_unique κs a ok z z' w w' q q' = (both q q', refl)

pub cipher_suite_confidentiality_unique : Unique p.get_channel_cipher_suites.CipherSuite.confidentiality.Kinds.ps p.get_channel_cipher_suites.CipherSuite.confidentiality.Kinds.r p.get_channel_cipher_suites.CipherSuite.confidentiality.Reads.Asked p.get_channel_cipher_suites.CipherSuite.confidentiality.Reads.Learnt
cipher_suite_confidentiality_unique κs a ok z z' w w' q q' = (both q q', refl)

pub list_command_new_unique : UniqueEach w8 p.get_channel_cipher_suites.ListCommand.new.Kinds.ps p.get_channel_cipher_suites.ListCommand.new.Kinds.r p.get_channel_cipher_suites.ListCommand.new.Reads.Asked p.get_channel_cipher_suites.ListCommand.new.Reads.Learnt
list_command_new_unique bit f κs a ok z z' w w' q q' = (said_one z z' (both q q'), refl)

pub list_command_numbered_unique : UniqueEach w8 p.get_channel_cipher_suites.ListCommand.numbered.Kinds.ps p.get_channel_cipher_suites.ListCommand.numbered.Kinds.r p.get_channel_cipher_suites.ListCommand.numbered.Reads.Asked p.get_channel_cipher_suites.ListCommand.numbered.Reads.Learnt
list_command_numbered_unique bit f κs a ok z z' w w' q q' = (said_one z z' (both q q'), refl)

pub list_command_write_unique : UniqueEach w8 p.get_channel_cipher_suites.ListCommand.write.Kinds.ps p.get_channel_cipher_suites.ListCommand.write.Kinds.r p.get_channel_cipher_suites.ListCommand.write.Reads.Asked p.get_channel_cipher_suites.ListCommand.write.Reads.Learnt
list_command_write_unique bit f κs a ok z z' w w' q q' = writer 1 q q'

pub list_command_read_unique : UniqueEach w8 p.get_channel_cipher_suites.ListCommand.read.Kinds.ps p.get_channel_cipher_suites.ListCommand.read.Kinds.r p.get_channel_cipher_suites.ListCommand.read.Reads.Asked p.get_channel_cipher_suites.ListCommand.read.Reads.Learnt
list_command_read_unique bit f κs a ok z z' w w' q q' = (said_one z z' (both q q'), refl)

pub channel_cipher_suites_parse_unique : Unique p.get_channel_cipher_suites.ChannelCipherSuites.parse.Kinds.ps p.get_channel_cipher_suites.ChannelCipherSuites.parse.Kinds.r p.get_channel_cipher_suites.ChannelCipherSuites.parse.Reads.Asked p.get_channel_cipher_suites.ChannelCipherSuites.parse.Reads.Learnt
channel_cipher_suites_parse_unique κs a ok z z' w w' q q' = (said_one z z' (both q q'), refl)

pub channel_cipher_suites_write_unique : Unique p.get_channel_cipher_suites.ChannelCipherSuites.write.Kinds.ps p.get_channel_cipher_suites.ChannelCipherSuites.write.Kinds.r p.get_channel_cipher_suites.ChannelCipherSuites.write.Reads.Asked p.get_channel_cipher_suites.ChannelCipherSuites.write.Reads.Learnt
channel_cipher_suites_write_unique κs a ok z z' w w' q q' = writer 1 q q'

pub filled_unique : UniquePart p.get_channel_cipher_suites.filled.Kinds.ps p.get_channel_cipher_suites.filled.Kinds.r p.get_channel_cipher_suites.filled.Reads.Asked p.get_channel_cipher_suites.filled.Reads.Learnt (λ κs z. z)
filled_unique κs a ok z z' w w' q q' = ((both q.lies q'.lies, both q.shows q'.shows), refl)

pub step_at_unique : Unique p.get_channel_cipher_suites.step_at.Kinds.ps p.get_channel_cipher_suites.step_at.Kinds.r p.get_channel_cipher_suites.step_at.Reads.Asked p.get_channel_cipher_suites.step_at.Reads.Learnt
step_at_unique κs a ok z z' w w' q q' = (both q q', refl)

pub suite_numbers_unique : Unique p.get_channel_cipher_suites.suite_numbers.Kinds.ps p.get_channel_cipher_suites.suite_numbers.Kinds.r p.get_channel_cipher_suites.suite_numbers.Reads.Asked p.get_channel_cipher_suites.suite_numbers.Reads.Learnt
suite_numbers_unique κs a ok z z' w w' q q' = writer 1 q q'

pub collected_suites_in_unique : Unique p.collected.collected_suites_in.Kinds.ps p.collected.collected_suites_in.Kinds.r p.collected.collected_suites_in.Reads.Asked p.collected.collected_suites_in.Reads.Learnt
collected_suites_in_unique κs a ok z z' w w' q q' = writer 3 q q'

pub collected_suites_unique : Unique p.collected.collected_suites.Kinds.ps p.collected.collected_suites.Kinds.r p.collected.collected_suites.Reads.Asked p.collected.collected_suites.Reads.Learnt
collected_suites_unique κs a ok z z' w w' q q' = writer 1 q q'

pub iter_parse_full_data_unique : Unique p.get_channel_cipher_suites.Iter.parse_full_data.Kinds.ps p.get_channel_cipher_suites.Iter.parse_full_data.Kinds.r p.get_channel_cipher_suites.Iter.parse_full_data.Reads.Asked p.get_channel_cipher_suites.Iter.parse_full_data.Reads.Learnt
iter_parse_full_data_unique κs a ok z z' w w' q q' = (rw (q.0, q.1.0, q.1.1, q'.0, q'.1.0, q'.1.1), refl)

pub iter_next_unique : Unique p.get_channel_cipher_suites.IterIterator.next.Kinds.ps p.get_channel_cipher_suites.IterIterator.next.Kinds.r p.get_channel_cipher_suites.IterIterator.next.Reads.Asked p.get_channel_cipher_suites.IterIterator.next.Reads.Learnt
iter_next_unique κs a ok z z' w w' q q' = (both q.0.0 q'.0.0, ap (λ x. (x, tt)) (both q.0.1 q'.0.1))
