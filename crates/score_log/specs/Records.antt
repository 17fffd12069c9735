-- Document 02, L1: a record of the log, written and read. "each record is the two-byte mark 53 43 (hex), the frame number in four bytes and
-- five f64 bit patterns in eight each, low byte first, in the order of `ScenecutResult`, then one byte, 1 for a cut and 0 for none: 47 bytes."
use Rattle.std.specs.Prelude.{Bool, ◌&&◌, not, List, [], ◌∷◌, ◌++◌, ℕ, eqb, ltb, Float, take, drop, get_or}
use Rattle.std.specs.Float.{binary64}
use Rattle.std.specs.Float.Ieee.{to_bits}
use Rattle.answer.specs.Refusal.{refusal, ◌or_else◌}
use Rattle.octets.specs.Octets.{bytes_of, number_of}
use Rattle.score_log.specs.declared.Record.{Record}

-- "47 bytes"
abbrev pub record_long : ℕ
record_long = 47

-- where the number, the five patterns and the cut begin; how long a number and a pattern are, and how many patterns there are
abbrev pub number_place : ℕ
number_place = 2

abbrev pub number_long : ℕ
number_long = 4

abbrev pub patterns_place : ℕ
patterns_place = 6

abbrev pub pattern_long : ℕ
pattern_long = 8

abbrev pub pattern_count : ℕ
pattern_count = 5

abbrev pub cut_place : ℕ
cut_place = 46

-- ---- written

-- a record, by its numbers in this order
abbrev pub record_by : ℕ → Float → Float → Float → Float → Float → ℕ → Record
record_by n inter importance backward forward limit c = record {
  number = n;
  inter_cost = inter;
  imp_block_cost = importance;
  backward_adjusted_cost = backward;
  forward_adjusted_cost = forward;
  threshold = limit;
  cut = c;
}

-- the bit patterns; "NaNs are written as 7FF8000000000000 (hex)", which is what `to_bits` gives of a NaN (`nan_pattern`, octets/proofs/Laws.antt)
abbrev pub patterns : Record → List ℕ
patterns r =
    to_bits binary64 r.inter_cost
    ∷ to_bits binary64 r.imp_block_cost
    ∷ to_bits binary64 r.backward_adjusted_cost
    ∷ to_bits binary64 r.forward_adjusted_cost
    ∷ to_bits binary64 r.threshold
    ∷ []

unfoldable pub pattern_bytes : List ℕ → List ℕ
pattern_bytes [] = []
pattern_bytes (p ∷ ps) = bytes_of pattern_long p ++ pattern_bytes ps

unfoldable pub record_bytes : Record → List ℕ
record_bytes r = 0x53 ∷ 0x43 ∷ bytes_of number_long r.number ++ pattern_bytes (patterns r) ++ r.cut ∷ []

-- ---- read: what stands in the bytes of a record

abbrev pub has_mark : List ℕ → Bool
has_mark bs = eqb (get_or bs 0 0) 0x53 && eqb (get_or bs 1 0) 0x43

-- the number in n bytes from a place on
abbrev pub field : ℕ → ℕ → List ℕ → ℕ
field n at bs = number_of (take n (drop at bs))

abbrev pub number_field : List ℕ → ℕ
number_field bs = field number_long number_place bs

unfoldable pub pattern_fields : List ℕ → List ℕ
pattern_fields bs = field pattern_long 6 bs ∷ field pattern_long 14 bs ∷ field pattern_long 22 bs ∷ field pattern_long 30 bs ∷ field pattern_long 38 bs ∷ []

abbrev pub cut_field : List ℕ → ℕ
cut_field bs = get_or bs cut_place 0

-- ---- "12 bad mark, 13 cut byte above 1, 14 number not rising; tested in that order", where the least number that rises is given

-- of a cut and a number
abbrev pub later_fault : ℕ → ℕ → ℕ → ℕ
later_fault cut number least = refusal 13 (ltb 1 cut) or_else refusal 14 (ltb number least)

-- of a record's bytes
unfoldable pub bytes_fault : ℕ → List ℕ → ℕ
bytes_fault least bs = refusal 12 (not (has_mark bs)) or_else later_fault (cut_field bs) (number_field bs) least
