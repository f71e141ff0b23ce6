-- Laws of writing records.
use mathlib.Core.Path.{◌≡◌, refl, sym, ◌∙◌, ap}
use mathlib.Core.Bool.{Bool, true, false, ◌&&◌}
use mathlib.Core.List.{List, [], ◌∷◌, ◌++◌, append_assoc, append-nil, map}
use Rattle.std.specs.Prelude.{Ok, Err, if◌then◌else◌}
use lib.Dec.{ltb}
use Prim.Native.Nat.{ℕ, zero, suc, ◌+◌, ◌-◌, ◌*◌, ◌%◌, ◌≤◌, ◌<◌}
use native.Mathlib.Nat.{zero-add}
use native.Mathlib.Omega.{arith}
use borrow.Rule.Slice.PartMut.{put_mid}
use lib.ListN.{length, get_or, drop, set, drop_of_length-le, length-append, length-map}
use lib.Seq.{paste}
use Rattle.std.specs.List.{list_all}
use Rattle.base.specs.Outcome.{accepted}
use Rattle.base.specs.Written.{Writes}
use Rattle.base.specs.declared.refusal.Refusal.TheVariants.{NoRoom}
use Rattle.base.proofs.written.Laws.{fitting, joined, lacking, stored, whole}
use Rattle.tagged.specs.Format.{all_fit, authentication_tag, confidentiality_tag, fits, integrity_tag, owner_fits, start_bytes, tagged}
use Rattle.tagged.specs.TaggedRecords.{number_in, numbers_in, retagged, start_length, suite_from, suite_written}
use Rattle.tagged.specs.declared.tagged_records.Owner.{Owner}
use Rattle.tagged.specs.declared.tagged_records.Owner.TheVariants.{Standard, Vendor}
use Rattle.tagged.proofs.tagged_records.Format.{both_true, fit_head}

-- Bytes under a tag.

retagged_at : (tag : ℕ) (bytes : List ℕ) (i : ℕ) → i < length bytes → get_or (retagged tag bytes) i 0 ≡ tagged tag (number_in (get_or bytes i 0))
retagged_at tag [] i h = absurd (omega arith)
retagged_at tag (b ∷ bytes) zero h = refl
retagged_at tag (b ∷ bytes) (suc i) h = retagged_at tag bytes i (omega arith)

pub retagged_length : (tag : ℕ) (bytes : List ℕ) → length (retagged tag bytes) ≡ length bytes
retagged_length tag bytes = length-map bytes (λ (b : ℕ). tagged tag (number_in b))

-- without a tag
pub untagged : (bytes : List ℕ) → retagged authentication_tag bytes ≡ numbers_in bytes
untagged bytes = simp zero-add

pub numbers_length : (bytes : List ℕ) → length (numbers_in bytes) ≡ length bytes
numbers_length bytes = length-map bytes number_in

-- a turn of the loop: its store of byte i
pub tag_stored : (tag : ℕ) (d bytes out : List ℕ) (i : ℕ) → out ≡ paste d 0 (retagged tag bytes) i → i < length d → i < length bytes → set out i (tag * 64 + get_or bytes i 0 % 64) ≡ paste d 0 (retagged tag bytes) (i + 1)
tag_stored tag d bytes out i e hd hb =
    let n = retagged_length tag bytes in
    let b : tag * 64 + get_or bytes i 0 % 64 ≡ get_or (retagged tag bytes) i 0 = rw (retagged_at tag bytes i hb) (omega arith) in
    ap (set out i) b ∙ stored d (retagged tag bytes) out i e hd (omega arith)

-- all bytes are stored
pub retagged_all : (tag : ℕ) (d bytes out : List ℕ) (i : ℕ) → out ≡ paste d 0 (retagged tag bytes) i → i ≡ length bytes → length bytes ≡ length d → out ≡ retagged tag bytes
retagged_all tag d bytes out i e h l = whole d (retagged tag bytes) out i e (h ∙ sym (retagged_length tag bytes)) ∙ rw (retagged_length tag bytes, drop_of_length-le d {i = length bytes} (omega arith), append-nil)

pub all_fit_list : (numbers : List ℕ) → list_all (λ (n : ℕ). ltb n 64) numbers ≡ all_fit numbers
all_fit_list [] = refl
all_fit_list (n ∷ numbers) = go (ltb n 64) (all_fit_list numbers)
  where
    go : (x : Bool) → list_all (λ (n : ℕ). ltb n 64) numbers ≡ all_fit numbers → (x && list_all (λ (n : ℕ). ltb n 64) numbers) ≡ (if x then all_fit numbers else false)
    go true e = e
    go false e = refl

-- A record.

pub start_short : (owner : Owner) → suc (start_length owner) ≤ 6
start_short Standard = omega arith
start_short (Vendor vendor) = omega arith

-- a record's parts, each put behind what stands
module _ (head integrity confidentiality d : List ℕ) where
  abbrev second : List ℕ
  second = retagged integrity_tag integrity

  abbrev third : List ℕ
  third = retagged confidentiality_tag confidentiality

  abbrev at : ℕ
  at = length head + length integrity

  seam : at ≡ length (head ++ second)
  seam = rw (length-append, retagged_length)

  parts_length : length (head ++ (second ++ third)) ≡ at + length confidentiality
  parts_length = simp (length-append, retagged_length) (omega arith)

  pub parts_lacking : length d < at + length confidentiality → Writes (accepted (head ++ (second ++ third))) (Err NoRoom) d d
  parts_lacking h = lacking (head ++ (second ++ third)) d (rw parts_length h)

  pub parts_fitting : at + length confidentiality ≤ length d
      → Writes (accepted (head ++ (second ++ third))) (Ok (at + length confidentiality)) d
      (put_mid at (at + length confidentiality - at) (put_mid (length head) (at - length head) (head ++ drop (length head) d) second) third)
  parts_fitting fits =
      let m = retagged_length integrity_tag integrity in
      let n = retagged_length confidentiality_tag confidentiality in
      let e = rw m at (joined head second d) in
      let k = rw (← seam, n) at (joined (head ++ second) third d) in
      rw (e, ← seam, k, append_assoc head second third, ← parts_length) (fitting (head ++ (second ++ third)) d (rw parts_length fits))

-- The numbers that fit, as `write` takes them.

fit_numbers : (tag : ℕ) (numbers : List ℕ) → all_fit numbers ≡ true → retagged tag numbers ≡ map (tagged tag) numbers
fit_numbers tag [] e = refl
fit_numbers tag (n ∷ numbers) e =
    let (h, rest) = fit_head n numbers e in
    let z : number_in n ≡ n = omega arith in
    rw (z, fit_numbers tag numbers rest)

pub as_written : (owner : Owner) (number authentication : ℕ) (integrity confidentiality : List ℕ) → fits (suite_from owner number authentication integrity confidentiality) ≡ true
    → suite_written (suite_from owner number authentication integrity confidentiality)
    ≡ accepted ((start_bytes owner number ++ (authentication ∷ [])) ++ (retagged integrity_tag integrity ++ retagged confidentiality_tag confidentiality))
as_written owner number authentication integrity confidentiality f =
    let (o, q) = both_true (owner_fits owner) _ f in
    let (a, r) = both_true (ltb authentication 64) _ q in
    let (i, c) = both_true (all_fit integrity) (all_fit confidentiality) r in
    rw (f, fit_numbers integrity_tag integrity i, fit_numbers confidentiality_tag confidentiality c, append_assoc, zero-add)
