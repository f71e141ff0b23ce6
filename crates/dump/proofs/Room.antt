-- The program lends 1,024 bytes for each answer: no answer is longer.
use Prim.Native.Nat.{ℕ, ◌+◌, ◌*◌, ◌≤◌, ◌<◌}
use mathlib.Core.Bool.{Bool, true, false}
use mathlib.Core.List.{List, [], ◌∷◌}
use mathlib.Core.Path.{◌≡◌, refl}
use native.Mathlib.Omega.{arith}
use borrow.Author.Tests.{ltb-true, ltb-false}
use lib.Dec.{eqb, ltb}
use lib.ListN.{length, get_or, take, drop, length-append, length-drop, length-take, get_or-eq_default}
use Rattle.auth.specs.GetChannelAuthenticationCapabilities.{best_auth, capabilities_of}
use Rattle.auth.specs.declared.AuthType.{AuthType}
use Rattle.auth.specs.declared.get_channel_authentication_capabilities.ChannelAuthenticationCapabilities.{ChannelAuthenticationCapabilities}
use Rattle.std.specs.Prelude.{Option, Some, None, if◌then◌else◌}
use Rattle.base.specs.Connection.{channel_of}
use Rattle.base.specs.Field.{Bytes, bits, byte, flag}
use Rattle.base.specs.Outcome.{Outcome, accepted, refused, ◌>>=◌, faults_as}
use Rattle.base.specs.declared.connection.Channel.{Channel}
use Rattle.base.proofs.little.Laws.{a_byte, all_bytes, bytes_take}
use Rattle.access.specs.GetChannelAccess.{access_fields, access_of}
use Rattle.access.specs.declared.get_channel_access.ChannelAccess.{ChannelAccess}
use Rattle.collector.specs.Collector.{has_part, is_complete, last_index, least_to, list_by, list_of, lowest, part_length, parts, put, taking, well_formed}
use Rattle.collector.specs.Histories.{Typed}
use Rattle.collector.specs.Parts.{Parts}
use Rattle.collector.specs.Stored.{knowing, list_stored, parts_of, taking_stored, well_stored}
use Rattle.collector.specs.declared.Collector.{Collector}
use Rattle.collector.specs.declared.Status.TheVariants.{Complete, Missing}
use Rattle.collector.proofs.Complete.{lowest_le}
use Rattle.info.specs.GetChannelInfo.{info_fields, info_of}
use Rattle.info.specs.declared.get_channel_info.ChannelInfo.{ChannelInfo}
use Rattle.lines.specs.Lines.{decimal, pairs_of}
use Rattle.lines.proofs.Laws.{bytes_at, decimal_digits, decimal_fits, pair_small}
use Rattle.suites.specs.GetChannelCipherSuites.{numbers_of}
use Rattle.suites.proofs.get_channel_cipher_suites.Records.{five_each, numbered_at}
use Rattle.texts.specs.Texts.{access_text, auth_text, info_text, missing_text, refused_text, spaced, state_text, suites_text}
use Rattle.texts.proofs.Fits.{channel_fits, limit_fits, medium_fits, mode_fits, name_fits, protocol_fits, session_fits}
use Rattle.texts.proofs.Laws.{suites_length}
use Rattle.dump.specs.Dump.{answering, bad_line, heard, hearing, listed, longest, reading, saying, shown, word_of}
use Rattle.dump.specs.declared.Kind.TheVariants.{Info, Access, Auth}
use Rattle.dump.specs.declared.Word.{Word}
use Rattle.dump.specs.declared.Word.TheVariants.{Inf, Acc, Cap, Sui, End, Other}
use Rattle.dump.proofs.Laws.{block_fits}

abbrev Small : ℕ → Type 0
Small n = n < 18446744073709551616

-- Each text.

refused_room : (n : ℕ) → Small n → length (refused_text n) ≤ 1024
unfolding refused_text
refused_room n h = let d = decimal_fits n h in simp length-append (omega arith)

missing_room : (n : ℕ) → Small n → length (missing_text n) ≤ 1024
unfolding missing_text
missing_room n h = let d = decimal_fits n h in simp length-append (omega arith)

info_room : (i : ChannelInfo) → Small i.active_sessions → Small i.vendor_id → length (info_text i) ≤ 1024
unfolding info_text
info_room i h k =
    let d = decimal_fits i.active_sessions h in
    let e = decimal_fits i.vendor_id k in
    let c = channel_fits i.channel in
    let m = medium_fits i.medium_type in
    let p = protocol_fits i.protocol_type in
    let s = session_fits i.session_support in
    simp length-append (omega arith)

state_room : (b : Bool) → length (state_text b) ≤ 3
state_room true = omega arith
state_room false = omega arith

access_room : (a : ChannelAccess) → length (access_text a) ≤ 1024
unfolding access_text
access_room a =
    let m = mode_fits a.access_mode in
    let l = limit_fits a.privilege_level_limit in
    let x = state_room a.alerting_disabled in
    let y = state_room a.per_msg_auth_disabled in
    let z = state_room a.user_level_auth_disabled in
    simp length-append (omega arith)

auth_room : (o : Option AuthType) → length (auth_text o) ≤ 1024
unfolding auth_text
auth_room (Some t) = let n = name_fits t in simp length-append (omega arith)
auth_room None = omega arith

-- A refusal's number is small.

abbrev Low : {A : Type 0} → Outcome A → Type 0
Low (accepted a) = Unit {0}
Low (refused number carried) = Small number

low_if : {A : Type 0} (b : Bool) (x y : Outcome A) → Low x → Low y → Low (if b then x else y)
low_if true x y p q = p
low_if false x y p q = q

-- The list: a suite's number has at most three digits, and there is one to five bytes.

three : (n : ℕ) → n < 256 → length (decimal n) ≤ 3
three n h = go (ltb n 10) (ltb n 100) (decimal_digits n h)
  where
    go : (x y : Bool) → length (decimal n) ≡ (if x then 1 else if y then 2 else 3) → length (decimal n) ≤ 3
    go true y e = omega arith
    go false true e = omega arith
    go false false e = omega arith

spaced_room : (numbers : List ℕ) → Bytes numbers → length (spaced numbers) ≤ 4 * length numbers
unfolding spaced
spaced_room [] h = omega arith
spaced_room (n ∷ numbers) h =
    let d = three n h.0 in
    let r = spaced_room numbers h.1 in
    simp length-append (omega arith)

numbers_bytes : (list : List ℕ) → Bytes list → Bytes (numbers_of list)
numbers_bytes list b = all_bytes (numbers_of list) (λ i. go i (ltb i (length (numbers_of list))) refl)
  where
    go : (i : ℕ) (x : Bool) → ltb i (length (numbers_of list)) ≡ x → get_or (numbers_of list) i 0 < 256
    go i true e = let (l, q) = numbered_at list i (ltb-true i (length (numbers_of list)) e) in rw q (a_byte list b (5 * i + 1))
    go i false e = let q = get_or-eq_default (numbers_of list) 0 (ltb-false i (length (numbers_of list)) e) in omega arith

suites_room : (list : List ℕ) → Bytes list → length list ≤ 1024 → length (suites_text (numbers_of list)) ≤ 1024
suites_room list b h =
    let n = five_each list in
    let s = spaced_room (numbers_of list) (numbers_bytes list b) in
    let l = suites_length (numbers_of list) in
    omega arith

module _ (c : Collector) (t : Typed (parts_of c)) where
  list_room : length (listed (list_stored c)).text ≤ 1024
  list_room = behind (well_stored c)
    where
      whole : (n : ℕ) → length (suites_text (numbers_of (take n c.bytes))) ≤ 1024
      whole n = let l = t.bytes in let e = length-take n c.bytes in suites_room (take n c.bytes) (bytes_take n c.bytes t.small) (omega arith)

      go : (w k : Bool) → length (listed ((if w then accepted (if k then Complete (least_to c.marks parts) else Missing (lowest c.marks parts)) else refused 9 []) >>= list_by c.bytes)).text ≤ 1024
      go true true = whole (least_to c.marks parts)
      go true false = let l = lowest_le c.marks 64 in missing_room (lowest c.marks parts) (omega arith)
      go false k = refused_room 9 (omega arith)

      behind : (w : Bool) → length (listed (if w then list_of (parts_of c) else refused 9 [])).text ≤ 1024
      behind true = go (well_formed (parts_of c)) (is_complete (parts_of c))
      behind false = refused_room 9 (omega arith)

  taking_low : (i : ℕ) (part : List ℕ) → Low (taking (parts_of c) i part)
  unfolding taking
  taking_low i part =
      low_if (well_formed (parts_of c)) _ _
      (low_if (ltb last_index i) _ _ (omega arith)
      (low_if (ltb part_length (length part)) _ _ (omega arith)
      (low_if (eqb (get_or c.marks i 0) 0) _ _ (low_if (well_formed (put (parts_of c) i part)) _ _ tt (omega arith)) (low_if (has_part (parts_of c) i part) _ _ tt (omega arith)))))
      (omega arith)

  stored_low : (i : ℕ) (part : List ℕ) → Low (taking_stored c i part)
  unfolding taking_stored
  stored_low i part = low_if (well_stored c) _ _ (go (taking (parts_of c) i part) (taking_low i part)) (omega arith)
    where
      go : (x : Outcome Parts) → Low x → Low (x >>= (λ t. accepted (knowing t)))
      go (accepted t) l = l
      go (refused number carried) l = l

  heard_room : (i : ℕ) (part : List ℕ) → i < 256 → Small (length part) → length (heard c i part).said.text ≤ 1024
  heard_room i part h k = go (taking_stored c i part) (stored_low i part)
    where
      go : (x : Outcome Collector) → Low x → length (hearing c i part x).said.text ≤ 1024
      go (accepted a) l = let f = block_fits i (length part) h k in omega arith
      go (refused number carried) l = refused_room number l

  module _ (bytes : List ℕ) (b : Bytes bytes) (l : length bytes ≤ 256) where
    info_shown : length (shown Info info_text (info_of bytes)).text ≤ 1024
    info_shown = go (ltb (length bytes) 9) (channel_of (bits 0 4 (byte 0 bytes)))
      where
        go : (x : Bool) (o : Outcome Channel) → length (shown Info info_text (if x then refused 1 [] else faults_as 1 (o >>= λ channel. accepted (info_fields bytes channel)))).text ≤ 1024
        go true o = refused_room 1 (omega arith)
        go false (refused n v) = refused_room 1 (omega arith)
        go false (accepted channel) =
            let p = a_byte bytes b 3 in
            let q = a_byte bytes b 4 in
            let r = a_byte bytes b 5 in
            let s = a_byte bytes b 6 in
            info_room (info_fields bytes channel) (omega arith) (omega arith)

    access_shown : length (shown Access access_text (access_of bytes)).text ≤ 1024
    access_shown = go (ltb (length bytes) 2)
      where
        go : (x : Bool) → length (shown Access access_text (if x then refused 1 [] else accepted (access_fields (byte 0 bytes) (byte 1 bytes)))).text ≤ 1024
        go true = refused_room 1 (omega arith)
        go false = access_room (access_fields (byte 0 bytes) (byte 1 bytes))

    capabilities_shown : length (shown Auth (λ capabilities. auth_text (best_auth capabilities)) (capabilities_of bytes)).text ≤ 1024
    capabilities_shown =
        go (capabilities_of bytes)
        (low_if (ltb (length bytes) 7) _ _ (omega arith) (low_if (flag 7 (byte 1 bytes)) _ _ (low_if (ltb (length bytes) 8) _ _ (omega arith) tt) tt))
      where
        go : (x : Outcome ChannelAuthenticationCapabilities) → Low x → length (shown Auth (λ capabilities. auth_text (best_auth capabilities)) x).text ≤ 1024
        go (accepted a) p = auth_room (best_auth a)
        go (refused number carried) p = refused_room number p

  saying_room : (word : Word) (bytes : List ℕ) → Bytes bytes → length bytes ≤ 256 → length (saying c word bytes).said.text ≤ 1024
  saying_room Inf bytes b l = info_shown bytes b l
  saying_room Acc bytes b l = access_shown bytes b l
  saying_room Cap bytes b l = capabilities_shown bytes b l
  saying_room Sui [] b l = refused_room 14 (omega arith)
  saying_room Sui (i ∷ part) b l = let h = b.0 in heard_room i part (omega arith) (omega arith)
  saying_room End [] b l = list_room
  saying_room End (x ∷ bytes) b l = refused_room 14 (omega arith)
  saying_room Other bytes b l = refused_room 14 (omega arith)

-- What pairs say is bytes.

pairs_bytes : (text bytes : List ℕ) → pairs_of text ≡ accepted bytes → Bytes bytes
pairs_bytes text bytes e = all_bytes bytes (λ i. go i (ltb i (length bytes)) refl)
  where
    go : (i : ℕ) (x : Bool) → ltb i (length bytes) ≡ x → get_or bytes i 0 < 256
    go i true p = pair_small (get_or text (3 * i) 0) (get_or text (3 * i + 1) 0) (get_or text (3 * i + 2) 0) (get_or bytes i 0) ((bytes_at text bytes e).1 i (ltb-true i (length bytes) p))
    go i false p = let q = get_or-eq_default bytes 0 (ltb-false i (length bytes) p) in omega arith

-- No answer to a line is longer, whatever the collector of the machine.
pub room_enough : (c : Collector) → Typed (parts_of c) → (line : List ℕ) → length (answering c line).said.text ≤ 1024
unfolding answering
room_enough c t line = go (ltb longest (length line)) (pairs_of (drop 3 line)) refl refl
  where
    go : (x : Bool) (o : Outcome (List ℕ)) → ltb longest (length line) ≡ x → pairs_of (drop 3 line) ≡ o → length (if x then bad_line c else reading c (word_of line) o).said.text ≤ 1024
    go true o p q = refused_room 14 (omega arith)
    go false (refused n v) p q = refused_room 14 (omega arith)
    go false (accepted bytes) p q =
        let h = ltb-false longest (length line) p in
        let l = (bytes_at (drop 3 line) bytes q).0 in
        let d = length-drop 3 line in
        saying_room c t (word_of line) bytes (pairs_bytes (drop 3 line) bytes q) (omega arith)
