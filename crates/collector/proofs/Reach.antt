-- What is well-formed is reachable: its parts are taken out one by one, and answered again.
use Prim.Native.Nat.{ℕ, zero, suc, ◌+◌, ◌-◌, ◌*◌, ◌/◌, ◌%◌, ◌≤◌, ◌<◌}
use mathlib.Core.Path.{◌≡◌, refl, sym, ap, ◌∙◌, subst}
use mathlib.Core.Logic.{⊎_elim}
use mathlib.Core.List.{List, [], ◌∷◌}
use mathlib.Core.Bool.{true}
use native.Mathlib.Omega.{arith}
use lib.ListN.{length, take, drop, get_or, set, replicate, length-take, length-drop, length-set, length-replicate}
use lib.Seq.{paste, length-paste, get_or-take, get_or-drop, get_or-set_same, get_or-set_other, ext_get_or, set-set, set-get_or}
use Rattle.collector.specs.Parts.{Parts}
use Rattle.base.specs.Outcome.{Outcome, accepted}
use Rattle.base.specs.Verdict.{record_of}
use Rattle.base.proofs.little.Laws.{bytes_drop, bytes_paste, bytes_take, bytes_zeros, zero_at}
use Rattle.collector.specs.Collector.{fresh, least_to, well_formed, put, taking}
use Rattle.collector.specs.Demand.{made}
use Rattle.collector.specs.Histories.{Typed, Reachable}
use Rattle.collector.proofs.Basic.{true_not_false, lt_or_le, eq_or_ne, Zeros, tells_low}
use Rattle.collector.proofs.Parts.{byte_in, byte_out, byte_other}
use Rattle.collector.proofs.Step.{TellsOf, wf_marks, wf_zeros, wf_of, StepView, view}
use Rattle.collector.proofs.Step.StepView.{bad_index, too_long, repeats, differs, joins, clashes}
use Rattle.collector.proofs.History.{history}
use Rattle.collector.proofs.Heard.{Marked}

collector_eq : (c e : Parts) → c.bytes ≡ e.bytes → c.marks ≡ e.marks → c ≡ e
collector_eq c e p q = λ i. record { bytes = p i; marks = q i }

blank : List ℕ
blank = replicate 16 0

blank_length : length blank ≡ 16
unfolding blank
blank_length = length-replicate {A = ℕ} 16 0

blank_at : (k : ℕ) → get_or blank k 0 ≡ 0
unfolding blank
blank_at k = zero_at 16 k

abbrev erase : Parts → ℕ → Parts
erase c n = record { bytes = paste c.bytes (16 * n) blank (length blank); marks = set c.marks n 0 }

abbrev part_at : Parts → ℕ → List ℕ
part_at c n = take (get_or c.marks n 0 - 1) (drop (16 * n) c.bytes)

module _ (c : Parts) (n : ℕ) (t : Typed c) (nl : n < 64) where
  blank_fits : length blank ≤ 16
  blank_fits = omega (arith, blank_length)

  gone : (k : ℕ) → k / 16 ≡ n → get_or (erase c n).bytes k 0 ≡ 0
  gone k e = byte_in c.bytes c.marks blank n t.bytes t.marks nl blank_fits k (omega arith) (omega (arith, blank_length)) ∙ blank_at (k - 16 * n)

  left : (k : ℕ) → (k / 16 ≡ n → ⊥) → get_or (erase c n).bytes k 0 ≡ get_or c.bytes k 0
  left k e = byte_other c.bytes c.marks blank n t.bytes t.marks nl blank_fits k e

  unmarked : get_or (erase c n).marks n 0 ≡ 0
  unmarked = let e : length c.marks ≡ 64 = t.marks in get_or-set_same c.marks n 0 0 (omega arith)

  others : (j : ℕ) → (j ≡ n → ⊥) → get_or (erase c n).marks j 0 ≡ get_or c.marks j 0
  others j e = get_or-set_other c.marks n j 0 0 e

  erase_typed : Typed (erase c n)
  unfolding blank
  erase_typed =
      let e : length c.bytes ≡ 1024 = t.bytes in
      let f : length blank ≡ 16 = blank_length in
      record {
        bytes = length-paste c.bytes (16 * n) blank (length blank) (omega arith) (omega arith) ∙ t.bytes;
        marks = length-set c.marks n 0 ∙ t.marks;
        small = bytes_paste c.bytes (16 * n) blank (length blank) t.small (bytes_zeros 16);
      }

  erase_zeros : Zeros c.bytes c.marks → Zeros (erase c n).bytes (erase c n).marks
  erase_zeros z k kl h =
      ⊎_elim (λ (q : k / 16 ≡ n). gone k q) (λ (q : k / 16 ≡ n → ⊥). left k q ∙ z k kl (omega (arith, others (k / 16) q))) (eq_or_ne (k / 16) n)

  erase_tells : (l : List ℕ) → TellsOf l c → TellsOf l (erase c n)
  erase_tells l s =
      record {
        size = s.size;
        marks = λ j jl nz.
            let q : j ≡ n → ⊥ = λ e. nz (rw e unmarked) in
            others j q ∙ s.marks j jl (λ y. nz (others j q ∙ y));
        bytes = λ k kl nz.
            let q : k / 16 ≡ n → ⊥ = λ e. nz (rw e unmarked) in
            left k q ∙ s.bytes k kl (λ y. nz (others (k / 16) q ∙ y));
      }

  module _ (w : well_formed c ≡ true) (m : Marked c n) where
    mark_small : (0 < get_or c.marks n 0) × (get_or c.marks n 0 ≤ 17)
    mark_small = omega (arith, wf_marks c w n nl m)

    part_length_lem : suc (length (part_at c n)) ≡ get_or c.marks n 0
    part_length_lem =
        let e : length c.bytes ≡ 1024 = t.bytes in
        omega (arith, length-take (get_or c.marks n 0 - 1) (drop (16 * n) c.bytes), length-drop (16 * n) c.bytes, mark_small)

    part_at_lem : (j : ℕ) → j < length (part_at c n) → get_or (part_at c n) j 0 ≡ get_or c.bytes (16 * n + j) 0
    part_at_lem j h = get_or-take (get_or c.marks n 0 - 1) (drop (16 * n) c.bytes) j 0 (omega (arith, part_length_lem)) ∙ get_or-drop (16 * n) c.bytes j 0

    part_fits : length (part_at c n) ≤ 16
    part_fits = omega (arith, part_length_lem, mark_small)

    back : put (erase c n) n (part_at c n) ≡ c
    back = collector_eq (put (erase c n) n (part_at c n)) c bytes marks
      where
        y : Typed (erase c n)
        y = erase_typed

        e : length (erase c n).bytes ≡ 1024
        e = y.bytes

        f : length c.bytes ≡ 1024
        f = t.bytes

        long : length (put (erase c n) n (part_at c n)).bytes ≡ length (erase c n).bytes
        long = length-paste (erase c n).bytes (16 * n) (part_at c n) (length (part_at c n)) (omega (arith, part_fits, e)) (omega arith)

        at : (k : ℕ) → k < 1024 → get_or (put (erase c n) n (part_at c n)).bytes k 0 ≡ get_or c.bytes k 0
        at k kl =
            ⊎_elim
            (λ (q : k / 16 ≡ n).
            ⊎_elim
            (λ (in-part : k < 16 * n + length (part_at c n)).
            byte_in (erase c n).bytes (erase c n).marks (part_at c n) n e y.marks nl part_fits k (omega arith) in-part
            ∙ part_at_lem (k - 16 * n) (omega arith) ∙ ap (λ (x : ℕ). get_or c.bytes x 0) (omega arith))
            (λ (past : 16 * n + length (part_at c n) ≤ k).
            let z : get_or c.marks (k / 16) 0 ≤ suc (k % 16) = rw q (omega (arith, part_length_lem)) in
            byte_out (erase c n).bytes (erase c n).marks (part_at c n) n e y.marks nl part_fits k (λ _. past)
            ∙ gone k q ∙ sym (wf_zeros c w k kl z))
            (lt_or_le k (16 * n + length (part_at c n))))
            (λ (q : k / 16 ≡ n → ⊥). byte_other (erase c n).bytes (erase c n).marks (part_at c n) n e y.marks nl part_fits k q ∙ left k q)
            (eq_or_ne (k / 16) n)

        bytes : (put (erase c n) n (part_at c n)).bytes ≡ c.bytes
        bytes = ext_get_or 0 (put (erase c n) n (part_at c n)).bytes c.bytes (long ∙ e ∙ sym f) (λ k kl. at k (omega (arith, long, e)))

        marks : (put (erase c n) n (part_at c n)).marks ≡ c.marks
        marks = set-set c.marks n 0 (suc (length (part_at c n))) ∙ ap (λ (x : ℕ). set c.marks n x) part_length_lem ∙ set-get_or c.marks n 0

-- an answer at a free index that leaves the collector well-formed is accepted
joins_by : (c : Parts) (i : ℕ) (d : List ℕ) → i < 64 → length d ≤ 16 → get_or c.marks i 0 ≡ 0 → well_formed (put c i d) ≡ true → (r : Outcome Parts) → StepView c i d r → r ≡ accepted (put c i d)
joins_by c i d il dl z w r (bad_index h) = absurd (omega arith)
joins_by c i d il dl z w r (too_long j h) = absurd (omega arith)
joins_by c i d il dl z w r (repeats j k nz e) = absurd (nz z)
joins_by c i d il dl z w r (differs j k nz e) = absurd (nz z)
joins_by c i d il dl z w r (joins j k y e) = refl
joins_by c i d il dl z w r (clashes j k y e) = absurd (true_not_false w e)

module _ (c : Parts) (n : ℕ) (t : Typed c) (nl : n < 64) (w : well_formed c ≡ true) (m : Marked c n) where
  erase_wf : well_formed (erase c n) ≡ true
  erase_wf =
      wf_of (erase c n) (take (least_to c.marks 64) c.bytes)
      (erase_tells c n t nl (take (least_to c.marks 64) c.bytes) (tells_low c.bytes c.marks t.bytes (wf_marks c w)))
      (erase_zeros c n t nl (wf_zeros c w))

  again : taking (erase c n) n (part_at c n) ≡ accepted c
  again =
      joins_by (erase c n) n (part_at c n) nl (part_fits c n t nl w m) (unmarked c n t nl)
      (subst (λ (x : Parts). well_formed x ≡ true) (sym (back c n t nl w m)) w) _ (view (erase c n) n (part_at c n) erase_wf)
      ∙ ap accepted (back c n t nl w m)

  again_reached : Reachable (erase c n) → Reachable c
  unfolding made
  again_reached r =
      record {
        calls = record { index = n; content = part_at c n } ∷ r.calls;
        bytes = (bytes_take (get_or c.marks n 0 - 1) (drop (16 * n) c.bytes) (bytes_drop (16 * n) c.bytes t.small), r.bytes);
        made =
            ap (λ (x : Parts). record_of x (taking x n (part_at c n))) r.made
            ∙ ap (record_of (erase c n)) again;
      }

reach : (n : ℕ) → n ≤ 64 → (c : Parts) → Typed c → well_formed c ≡ true → ((j : ℕ) → n ≤ j → j < 64 → get_or c.marks j 0 ≡ 0) → Reachable c
unfolding made
reach zero h c t w f =
    record {
      calls = [];
      bytes = tt;
      made = collector_eq fresh c
          (ext_get_or 0 (replicate 1024 0) c.bytes (length-replicate {A = ℕ} 1024 0 ∙ sym t.bytes)
          (λ k kl.
          let l : k < 1024 = omega (arith, length-replicate {A = ℕ} 1024 0) in
          zero_at 1024 k ∙ sym (wf_zeros c w k l (omega (arith, f (k / 16) (omega arith) (omega arith))))))
          (ext_get_or 0 (replicate 64 0) c.marks (length-replicate {A = ℕ} 64 0 ∙ sym t.marks)
          (λ k kl.
          let l : k < 64 = omega (arith, length-replicate {A = ℕ} 64 0) in
          zero_at 64 k ∙ sym (f k (omega arith) l)));
    }
reach (suc n) h c t w f =
    ⊎_elim
    (λ (z : get_or c.marks n 0 ≡ 0).
    reach n (omega arith) c t w (λ j nj jl. ⊎_elim (λ (e : j ≡ n). rw e z) (λ (e : j ≡ n → ⊥). f j (omega arith) jl) (eq_or_ne j n)))
    (λ (m : get_or c.marks n 0 ≡ 0 → ⊥).
    again_reached c n t (omega arith) w m
    (reach n (omega arith) (erase c n) (erase_typed c n t (omega arith)) (erase_wf c n t (omega arith) w m)
    (λ j nj jl. ⊎_elim (λ (e : j ≡ n). rw e (unmarked c n t (omega arith))) (λ (e : j ≡ n → ⊥). others c n t (omega arith) j e ∙ f j (omega arith) jl) (eq_or_ne j n))))
    (eq_or_ne (get_or c.marks n 0) 0)

-- well-formed exactly when reachable

pub wf_reachable : (c : Parts) → Typed c → well_formed c ≡ true → Reachable c
wf_reachable c t w = reach 64 (omega arith) c t w (λ j a b. absurd (omega arith))

pub reachable_wf : (c : Parts) → Reachable c → well_formed c ≡ true
reachable_wf c r = subst (λ (x : Parts). well_formed x ≡ true) r.made (history r.calls r.bytes).wf
