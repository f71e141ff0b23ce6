-- Any two outcomes that a C function's promise allows at the same arguments coincide.
use mathlib.Core.List.{List}
use mathlib.Core.Path.{◌≡◌, refl, ◌∙◌, ap}
use Rattle.std.specs.Prelude.{Option}
use Prim.Native.Nat.{ℕ}
use Rattle.base.proofs.Unique.{Unique, both, last}
use Rattle.base.specs.Outcome.{Outcome}
use Rattle.by_suite.specs.ChannelCollector.{lent_as}
use Rattle.by_suite.specs.declared.channel_collector.ChannelCollector.{ChannelCollector}
use Rattle.capi.specs.Number.{Codes, CodesAny, Takes}
use Rattle.capi.specs.Table.{Steps}
use Rattle.collector.specs.Stored.{collector_of}
use Rattle.collector.specs.declared.Collector.{Collector}
use Rattle.suites.specs.declared.get_channel_cipher_suites.Step.{Step}
use Rattle.capi.proofs as p

-- where the buffer stands behind k parameters
pub coder : (k : ℕ) {message : Outcome (List ℕ)} {n n' : ℕ} {before after after' : List ℕ} → Codes message n before after → Codes message n' before after'
    → (n ≡ n') × (last k after ≡ last k after')
coder k q q' = (both q.answers q'.answers, ap (last k) (both q.leaves q'.leaves))

-- a collector that takes an answer: its three arrays come first
pub taker : {taken : Outcome Collector} {n n' : ℕ} {before : Collector} {bytes marks known bytes' marks' known' : List ℕ}
    → Takes taken n before (collector_of bytes marks known) → Takes taken n' before (collector_of bytes' marks' known')
    → (n ≡ n') × (◌≡◌ {A = List ℕ × (List ℕ × (List ℕ × (Unit {0} × (Unit {0} × Unit {0}))))} (bytes, (marks, (known, (tt, (tt, tt))))) (bytes', (marks', (known', (tt, (tt, tt))))))
taker q q' = (both q.answers q'.answers, ap (λ (c : Collector). (c.bytes, (c.marks, (c.known, (tt, (tt, tt)))))) (both q.leaves q'.leaves))

-- a channel's collector: the byte that it takes answers from comes before them
pub channel_taker : {taken : Outcome ChannelCollector} {n n' : ℕ} {before : ChannelCollector} {channel from from' : ℕ} {bytes marks known bytes' marks' known' : List ℕ}
    → Takes taken n before (lent_as channel from bytes marks known) → Takes taken n' before (lent_as channel from' bytes' marks' known')
    → (n ≡ n') × (◌≡◌ {A = Unit {0} × (ℕ × (List ℕ × (List ℕ × (List ℕ × (Unit {0} × (Unit {0} × Unit {0}))))))} (tt, (from, (bytes, (marks, (known, (tt, (tt, tt))))))) (tt, (from', (bytes', (marks', (known', (tt, (tt, tt))))))))
channel_taker q q' = (both q.answers q'.answers, ap (λ (s : ChannelCollector). (tt, (s.from, (s.collector.bytes, (s.collector.marks, (s.collector.known, (tt, (tt, tt)))))))) (both q.leaves q'.leaves))

pub ghj_suite_numbers_unique : Unique p.list.ghj_suite_numbers.Kinds.ps p.list.ghj_suite_numbers.Kinds.r p.list.ghj_suite_numbers.Reads.Asked p.list.ghj_suite_numbers.Reads.Learnt
ghj_suite_numbers_unique κs a ok z z' w w' q q' = coder 1 q q'

pub ghj_collector_answer_unique : Unique p.collecting.ghj_collector_answer.Kinds.ps p.collecting.ghj_collector_answer.Kinds.r p.collecting.ghj_collector_answer.Reads.Asked p.collecting.ghj_collector_answer.Reads.Learnt
ghj_collector_answer_unique κs a ok z z' w w' q q' = taker q q'

pub ghj_collector_status_unique : Unique p.collecting.ghj_collector_status.Kinds.ps p.collecting.ghj_collector_status.Kinds.r p.collecting.ghj_collector_status.Reads.Asked p.collecting.ghj_collector_status.Reads.Learnt
ghj_collector_status_unique κs a ok z z' w w' q q' = (both q q', refl)

pub ghj_collector_list_unique : Unique p.collecting.ghj_collector_list.Kinds.ps p.collecting.ghj_collector_list.Kinds.r p.collecting.ghj_collector_list.Reads.Asked p.collecting.ghj_collector_list.Reads.Learnt
ghj_collector_list_unique κs a ok z z' w w' q q' = coder 3 q q'

pub ghj_collector_suites_unique : Unique p.collecting.ghj_collector_suites.Kinds.ps p.collecting.ghj_collector_suites.Kinds.r p.collecting.ghj_collector_suites.Reads.Asked p.collecting.ghj_collector_suites.Reads.Learnt
ghj_collector_suites_unique κs a ok z z' w w' q q' = coder 3 q q'

pub ghj_collector_take_unique : Unique p.collecting.ghj_collector_take.Kinds.ps p.collecting.ghj_collector_take.Kinds.r p.collecting.ghj_collector_take.Reads.Asked p.collecting.ghj_collector_take.Reads.Learnt
ghj_collector_take_unique κs a ok z z' w w' q q' = (both q.answers q'.answers, ap (λ x. (x, (tt, (tt, tt)))) (both q.leaves q'.leaves))

pub ghj_channel_collector_from_unique : Unique p.channel_collecting.ghj_channel_collector_from.Kinds.ps p.channel_collecting.ghj_channel_collector_from.Kinds.r p.channel_collecting.ghj_channel_collector_from.Reads.Asked p.channel_collecting.ghj_channel_collector_from.Reads.Learnt
ghj_channel_collector_from_unique κs a ok z z' w w' q q' = (both q q', refl)

pub ghj_channel_collector_answer_unique : Unique p.channel_collecting.ghj_channel_collector_answer.Kinds.ps p.channel_collecting.ghj_channel_collector_answer.Kinds.r p.channel_collecting.ghj_channel_collector_answer.Reads.Asked p.channel_collecting.ghj_channel_collector_answer.Reads.Learnt
ghj_channel_collector_answer_unique κs a ok z z' w w' q q' = channel_taker q q'

pub ghj_channel_collector_status_unique : Unique p.channel_collecting.ghj_channel_collector_status.Kinds.ps p.channel_collecting.ghj_channel_collector_status.Kinds.r p.channel_collecting.ghj_channel_collector_status.Reads.Asked p.channel_collecting.ghj_channel_collector_status.Reads.Learnt
ghj_channel_collector_status_unique κs a ok z z' w w' q q' = (both q q', refl)

pub ghj_channel_collector_list_unique : Unique p.channel_collecting.ghj_channel_collector_list.Kinds.ps p.channel_collecting.ghj_channel_collector_list.Kinds.r p.channel_collecting.ghj_channel_collector_list.Reads.Asked p.channel_collecting.ghj_channel_collector_list.Reads.Learnt
ghj_channel_collector_list_unique κs a ok z z' w w' q q' = coder 5 q q'

pub ghj_channel_collector_suites_unique : Unique p.channel_collecting.ghj_channel_collector_suites.Kinds.ps p.channel_collecting.ghj_channel_collector_suites.Kinds.r p.channel_collecting.ghj_channel_collector_suites.Reads.Asked p.channel_collecting.ghj_channel_collector_suites.Reads.Learnt
ghj_channel_collector_suites_unique κs a ok z z' w w' q q' = coder 5 q q'

pub ghj_challenge_unique : Unique p.responses.ghj_challenge.Kinds.ps p.responses.ghj_challenge.Kinds.r p.responses.ghj_challenge.Reads.Asked p.responses.ghj_challenge.Reads.Learnt
ghj_challenge_unique κs a ok z z' w w' q q' = coder 1 q q'

pub ghj_activation_unique : Unique p.responses.ghj_activation.Kinds.ps p.responses.ghj_activation.Kinds.r p.responses.ghj_activation.Reads.Asked p.responses.ghj_activation.Reads.Learnt
ghj_activation_unique κs a ok z z' w w' q q' = coder 1 q q'

pub ghj_suites_unique : Unique p.responses.ghj_suites.Kinds.ps p.responses.ghj_suites.Kinds.r p.responses.ghj_suites.Reads.Asked p.responses.ghj_suites.Reads.Learnt
ghj_suites_unique κs a ok z z' w w' q q' = coder 1 q q'

pub ghj_by_suite_unique : Unique p.responses.ghj_by_suite.Kinds.ps p.responses.ghj_by_suite.Kinds.r p.responses.ghj_by_suite.Reads.Asked p.responses.ghj_by_suite.Reads.Learnt
ghj_by_suite_unique κs a ok z z' w w' q q' = coder 1 q q'

pub ghj_access_unique : Unique p.responses.ghj_access.Kinds.ps p.responses.ghj_access.Kinds.r p.responses.ghj_access.Reads.Asked p.responses.ghj_access.Reads.Learnt
ghj_access_unique κs a ok z z' w w' q q' = coder 1 q q'

pub ghj_info_unique : Unique p.responses.ghj_info.Kinds.ps p.responses.ghj_info.Kinds.r p.responses.ghj_info.Reads.Asked p.responses.ghj_info.Reads.Learnt
ghj_info_unique κs a ok z z' w w' q q' = coder 1 q q'

pub ghj_capabilities_unique : Unique p.responses.ghj_capabilities.Kinds.ps p.responses.ghj_capabilities.Kinds.r p.responses.ghj_capabilities.Reads.Asked p.responses.ghj_capabilities.Reads.Learnt
ghj_capabilities_unique κs a ok z z' w w' q q' = coder 1 q q'

-- a message or none
pub any_coder : (k : ℕ) {message : Outcome (Option (List ℕ))} {n n' : ℕ} {before after after' : List ℕ} → CodesAny message n before after → CodesAny message n' before after'
    → (n ≡ n') × (last k after ≡ last k after')
any_coder k q q' = (both q.answers q'.answers, ap (last k) (both q.leaves q'.leaves))

-- a step's position and flag, behind the list
pub stepper : {step : Step} {n n' position position' failed failed' : ℕ} → Steps step n position failed → Steps step n' position' failed'
    → (n ≡ n') × (◌≡◌ {A = Unit {0} × (ℕ × (ℕ × Unit {0}))} (tt, (position, (failed, tt))) (tt, (position', (failed', tt))))
stepper {position'} {failed} q q' =
    (both q.answers q'.answers, ap (λ x. (tt, (x, (failed, tt)))) (both q.moves q'.moves) ∙ ap (λ x. (tt, (position', (x, tt)))) (both q.marks q'.marks))

pub ghj_access_request_unique : Unique p.requests.ghj_access_request.Kinds.ps p.requests.ghj_access_request.Kinds.r p.requests.ghj_access_request.Reads.Asked p.requests.ghj_access_request.Reads.Learnt
ghj_access_request_unique κs a ok z z' w w' q q' = coder 2 q q'

pub ghj_capabilities_request_unique : Unique p.requests.ghj_capabilities_request.Kinds.ps p.requests.ghj_capabilities_request.Kinds.r p.requests.ghj_capabilities_request.Reads.Asked p.requests.ghj_capabilities_request.Reads.Learnt
ghj_capabilities_request_unique κs a ok z z' w w' q q' = any_coder 2 q q'

pub ghj_challenge_request_unique : Unique p.requests.ghj_challenge_request.Kinds.ps p.requests.ghj_challenge_request.Kinds.r p.requests.ghj_challenge_request.Reads.Asked p.requests.ghj_challenge_request.Reads.Learnt
ghj_challenge_request_unique κs a ok z z' w w' q q' = any_coder 2 q q'

pub ghj_suites_request_unique : Unique p.requests.ghj_suites_request.Kinds.ps p.requests.ghj_suites_request.Kinds.r p.requests.ghj_suites_request.Reads.Asked p.requests.ghj_suites_request.Reads.Learnt
ghj_suites_request_unique κs a ok z z' w w' q q' = coder 2 q q'

pub ghj_by_suite_request_unique : Unique p.requests.ghj_by_suite_request.Kinds.ps p.requests.ghj_by_suite_request.Kinds.r p.requests.ghj_by_suite_request.Reads.Asked p.requests.ghj_by_suite_request.Reads.Learnt
ghj_by_suite_request_unique κs a ok z z' w w' q q' = coder 2 q q'

pub ghj_info_request_unique : Unique p.requests.ghj_info_request.Kinds.ps p.requests.ghj_info_request.Kinds.r p.requests.ghj_info_request.Reads.Asked p.requests.ghj_info_request.Reads.Learnt
ghj_info_request_unique κs a ok z z' w w' q q' = coder 1 q q'

pub ghj_activation_request_unique : Unique p.requests.ghj_activation_request.Kinds.ps p.requests.ghj_activation_request.Kinds.r p.requests.ghj_activation_request.Reads.Asked p.requests.ghj_activation_request.Reads.Learnt
ghj_activation_request_unique κs a ok z z' w w' q q' = any_coder 4 q q'

pub ghj_channel_text_unique : Unique p.display.ghj_channel_text.Kinds.ps p.display.ghj_channel_text.Kinds.r p.display.ghj_channel_text.Reads.Asked p.display.ghj_channel_text.Reads.Learnt
ghj_channel_text_unique κs a ok z z' w w' q q' = coder 1 q q'

pub ghj_mode_text_unique : Unique p.display.ghj_mode_text.Kinds.ps p.display.ghj_mode_text.Kinds.r p.display.ghj_mode_text.Reads.Asked p.display.ghj_mode_text.Reads.Learnt
ghj_mode_text_unique κs a ok z z' w w' q q' = coder 1 q q'

pub ghj_limit_text_unique : Unique p.display.ghj_limit_text.Kinds.ps p.display.ghj_limit_text.Kinds.r p.display.ghj_limit_text.Reads.Asked p.display.ghj_limit_text.Reads.Learnt
ghj_limit_text_unique κs a ok z z' w w' q q' = coder 1 q q'

pub ghj_medium_text_unique : Unique p.display.ghj_medium_text.Kinds.ps p.display.ghj_medium_text.Kinds.r p.display.ghj_medium_text.Reads.Asked p.display.ghj_medium_text.Reads.Learnt
ghj_medium_text_unique κs a ok z z' w w' q q' = coder 1 q q'

pub ghj_protocol_text_unique : Unique p.display.ghj_protocol_text.Kinds.ps p.display.ghj_protocol_text.Kinds.r p.display.ghj_protocol_text.Reads.Asked p.display.ghj_protocol_text.Reads.Learnt
ghj_protocol_text_unique κs a ok z z' w w' q q' = coder 1 q q'

pub ghj_session_support_text_unique : Unique p.display.ghj_session_support_text.Kinds.ps p.display.ghj_session_support_text.Kinds.r p.display.ghj_session_support_text.Reads.Asked p.display.ghj_session_support_text.Reads.Learnt
ghj_session_support_text_unique κs a ok z z' w w' q q' = coder 1 q q'

pub ghj_auth_type_name_unique : Unique p.display.ghj_auth_type_name.Kinds.ps p.display.ghj_auth_type_name.Kinds.r p.display.ghj_auth_type_name.Reads.Asked p.display.ghj_auth_type_name.Reads.Learnt
ghj_auth_type_name_unique κs a ok z z' w w' q q' = any_coder 1 q q'

pub ghj_best_auth_unique : Unique p.strength.ghj_best_auth.Kinds.ps p.strength.ghj_best_auth.Kinds.r p.strength.ghj_best_auth.Reads.Asked p.strength.ghj_best_auth.Reads.Learnt
ghj_best_auth_unique κs a ok z z' w w' q q' = (both q q', refl)

pub ghj_compare_strength_unique : Unique p.strength.ghj_compare_strength.Kinds.ps p.strength.ghj_compare_strength.Kinds.r p.strength.ghj_compare_strength.Reads.Asked p.strength.ghj_compare_strength.Reads.Learnt
ghj_compare_strength_unique κs a ok z z' w w' q q' = (both q q', refl)

pub ghj_suite_algorithms_unique : Unique p.table.ghj_suite_algorithms.Kinds.ps p.table.ghj_suite_algorithms.Kinds.r p.table.ghj_suite_algorithms.Reads.Asked p.table.ghj_suite_algorithms.Reads.Learnt
ghj_suite_algorithms_unique κs a ok z z' w w' q q' = any_coder 1 q q'

pub ghj_suite_of_unique : Unique p.table.ghj_suite_of.Kinds.ps p.table.ghj_suite_of.Kinds.r p.table.ghj_suite_of.Reads.Asked p.table.ghj_suite_of.Reads.Learnt
ghj_suite_of_unique κs a ok z z' w w' q q' = (both q q', refl)

pub ghj_suite_step_unique : Unique p.list.ghj_suite_step.Kinds.ps p.list.ghj_suite_step.Kinds.r p.list.ghj_suite_step.Reads.Asked p.list.ghj_suite_step.Reads.Learnt
ghj_suite_step_unique κs a ok z z' w w' q q' = stepper q q'

pub ghj_set_access_request_unique : Unique p.settings.ghj_set_access_request.Kinds.ps p.settings.ghj_set_access_request.Kinds.r p.settings.ghj_set_access_request.Reads.Asked p.settings.ghj_set_access_request.Reads.Learnt
ghj_set_access_request_unique κs a ok z z' w w' q q' = coder 4 q q'

pub ghj_set_access_unique : Unique p.settings.ghj_set_access.Kinds.ps p.settings.ghj_set_access.Kinds.r p.settings.ghj_set_access.Reads.Asked p.settings.ghj_set_access.Reads.Learnt
ghj_set_access_unique κs a ok z z' w w' q q' = coder 1 q q'

pub ghj_set_access_apply_unique : Unique p.settings.ghj_set_access_apply.Kinds.ps p.settings.ghj_set_access_apply.Kinds.r p.settings.ghj_set_access_apply.Reads.Asked p.settings.ghj_set_access_apply.Reads.Learnt
ghj_set_access_apply_unique κs a ok z z' w w' q q' = coder 4 q q'

pub ghj_tagged_step_unique : Unique p.tagged_records.ghj_tagged_step.Kinds.ps p.tagged_records.ghj_tagged_step.Kinds.r p.tagged_records.ghj_tagged_step.Reads.Asked p.tagged_records.ghj_tagged_step.Reads.Learnt
ghj_tagged_step_unique κs a ok z z' w w' q q' = coder 2 q q'

pub ghj_tagged_count_unique : Unique p.tagged_records.ghj_tagged_count.Kinds.ps p.tagged_records.ghj_tagged_count.Kinds.r p.tagged_records.ghj_tagged_count.Reads.Asked p.tagged_records.ghj_tagged_count.Reads.Learnt
ghj_tagged_count_unique κs a ok z z' w w' q q' = (both q q', refl)

pub ghj_tagged_numbers_unique : Unique p.tagged_records.ghj_tagged_numbers.Kinds.ps p.tagged_records.ghj_tagged_numbers.Kinds.r p.tagged_records.ghj_tagged_numbers.Reads.Asked p.tagged_records.ghj_tagged_numbers.Reads.Learnt
ghj_tagged_numbers_unique κs a ok z z' w w' q q' = coder 1 q q'

pub ghj_tagged_listing_unique : Unique p.tagged_records.ghj_tagged_listing.Kinds.ps p.tagged_records.ghj_tagged_listing.Kinds.r p.tagged_records.ghj_tagged_listing.Reads.Asked p.tagged_records.ghj_tagged_listing.Reads.Learnt
ghj_tagged_listing_unique κs a ok z z' w w' q q' = coder 1 q q'

pub ghj_tagged_algorithms_unique : Unique p.tagged_records.ghj_tagged_algorithms.Kinds.ps p.tagged_records.ghj_tagged_algorithms.Kinds.r p.tagged_records.ghj_tagged_algorithms.Reads.Asked p.tagged_records.ghj_tagged_algorithms.Reads.Learnt
ghj_tagged_algorithms_unique κs a ok z z' w w' q q' = coder 1 q q'

pub ghj_tagged_write_unique : Unique p.tagged_records.ghj_tagged_write.Kinds.ps p.tagged_records.ghj_tagged_write.Kinds.r p.tagged_records.ghj_tagged_write.Reads.Asked p.tagged_records.ghj_tagged_write.Reads.Learnt
ghj_tagged_write_unique κs a ok z z' w w' q q' = coder 6 q q'
