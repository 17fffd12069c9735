-- Where what a record holds lies in the log, where the patterns stand in a record, and the tests of a record by its bytes. Assumes nothing.
use mathlib.Core.Path.{◌≡◌, refl, sym, ap, ◌∙◌}
use mathlib.Core.Bool.{Bool, true, false, ◌&&◌, not}
use mathlib.Core.List.{List, [], ◌∷◌}
use Prim.Native.Nat.{ℕ, zero, suc, ◌+◌, ◌*◌, ◌≤◌, ◌<◌}
use native.Mathlib.Decide.{ℕ_discrete}
use native.Mathlib.Nat.{add-zero}
use native.Mathlib.Omega.{arith}
use borrow.Author.Tests.{ne_eqb, lt-ltb, le-ltb}
use lib.Dec.{eqb, ltb}
use lib.ListN.{take, drop, get_or}
use lib.Seq.{get_or-take, get_or-drop, drop-drop, take-take}
use Rattle.std.specs.List.{starts_with}
use Rattle.answer.proofs.Laws.{test_given, test_first, test_passed, test_later}
use Rattle.octets.specs.Octets.{number_of}
use Rattle.score_log.specs.Records.{record_long, pattern_long, pattern_count, patterns_place, has_mark, field, number_field, pattern_fields, cut_field, later_fault, bytes_fault}
use Rattle.score_log.specs.Log.{record_in, joined}

-- ---- places

-- a part of a list lies in its front
pub part_front : (k m n : ℕ) (s : List ℕ) → k + m ≤ n → take m (drop k (take n s)) ≡ take m (drop k s)
part_front zero m n s h = take-take m n s (omega arith)
part_front (suc k) m zero s h = absurd (omega arith)
part_front (suc k) m (suc n) [] h = refl
part_front (suc k) m (suc n) (x ∷ s) h = part_front k m n s (omega arith)

-- what record k holds lies in the log: its bytes, its fields, and its five patterns
module _ (log : List ℕ) (k : ℕ) where
  pub byte_in : (i : ℕ) → i < record_long → get_or (record_in log k) i 0 ≡ get_or log (k * record_long + i) 0
  unfolding record_in
  byte_in i h = get_or-take record_long (drop (k * record_long) log) i 0 h ∙ get_or-drop (k * record_long) log i 0

  pub byte_first : get_or (record_in log k) 0 0 ≡ get_or log (k * record_long) 0
  byte_first = byte_in 0 (omega arith) ∙ rw (add-zero (k * record_long))

  pub field_in : (n at : ℕ) → at + n ≤ record_long → field n at (record_in log k) ≡ field n (k * record_long + at) log
  unfolding record_in
  field_in n at h =
      ap number_of (part_front at n record_long (drop (k * record_long) log) h)
      ∙ ap (λ (l : List ℕ). number_of (take n l)) (drop-drop at (k * record_long) log)

  pattern_in : (j : ℕ) → j ≤ 32 → field pattern_long (patterns_place + j) (record_in log k) ≡ field pattern_long (k * record_long + patterns_place + j) log
  pattern_in j h =
      let place : k * record_long + (patterns_place + j) ≡ k * record_long + patterns_place + j = omega arith in
      field_in pattern_long (patterns_place + j) (omega arith) ∙ ap (λ (i : ℕ). field pattern_long i log) place

  pub patterns_in : pattern_fields (record_in log k)
      ≡ joined pattern_count (λ (j : ℕ). field pattern_long (k * record_long + patterns_place + j * pattern_long) log ∷ [])
  unfolding pattern_fields joined
  patterns_in =
      rw (pattern_in 0 (omega arith), pattern_in 8 (omega arith), pattern_in 16 (omega arith), pattern_in 24 (omega arith), pattern_in 32 (omega arith))

-- ---- the patterns of a record, one behind the other

abbrev pub patterns_part : List ℕ → List ℕ
patterns_part bs = take (pattern_count * pattern_long) (drop patterns_place bs)

abbrev pub pattern_one : List ℕ → ℕ → List ℕ
pattern_one bs j = field pattern_long (patterns_place + j * pattern_long) bs ∷ []

pub all_patterns : (bs : List ℕ) → joined pattern_count (pattern_one bs) ≡ pattern_fields bs
unfolding joined pattern_fields
all_patterns bs = refl

-- ---- the tests

-- of a cut and a number
module _ (cut number least : ℕ) where
  pub later_cut : 1 < cut → 13 ≡ later_fault cut number least
  later_cut h = test_first 12 _ (ltb 1 cut) (lt-ltb 1 cut h)

  pub later_number : cut ≤ 1 → number < least → 14 ≡ later_fault cut number least
  later_number h l = test_later 13 14 _ (ltb 1 cut) (le-ltb 1 cut h) (test_given 14 (ltb number least) (lt-ltb number least l))

  pub later_none : cut ≤ 1 → least ≤ number → 0 ≡ later_fault cut number least
  later_none h l = test_later 13 0 _ (ltb 1 cut) (le-ltb 1 cut h) (test_passed 14 (ltb number least) (le-ltb number least l))

turned : (a b : ℕ) → eqb a b ≡ eqb b a
turned a b = by (ℕ_discrete a b)
  where
    by : Dec (a ≡ b) → eqb a b ≡ eqb b a
    by (yes e) = rw e refl
    by (no h) = ne_eqb a b h ∙ sym (ne_eqb b a (λ e. h (sym e)))

and_true : (t : Bool) → t && true ≡ t
and_true true = refl
and_true false = refl

-- of a record's bytes
module _ (least : ℕ) (bs : List ℕ) where
  pub fault_mark : has_mark bs ≡ false → 12 ≡ bytes_fault least bs
  unfolding bytes_fault
  fault_mark e = test_first 11 _ (not (has_mark bs)) (rw e)

  pub fault_later : (f : ℕ) → has_mark bs ≡ true → f ≡ later_fault (cut_field bs) (number_field bs) least → f ≡ bytes_fault least bs
  unfolding bytes_fault
  fault_later f e g = test_later 12 f _ (not (has_mark bs)) (rw e) g

-- whether a record starts with the mark
pub mark_tested : (bs : List ℕ) → starts_with eqb bs (0x53 ∷ 0x43 ∷ []) ≡ has_mark bs
mark_tested [] = refl
mark_tested (b ∷ []) = rw (turned 0x53 b) refl
mark_tested (a ∷ b ∷ bs) = rw (turned 0x53 a, turned 0x43 b) (ap (λ (t : Bool). eqb a 0x53 && t) (and_true (eqb b 0x43)))
