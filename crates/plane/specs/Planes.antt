-- Document 01, "Plane difference and scale": what a plane is; and "Refusal numbers" 5, 1, 2, 3, and document 02's 16: when one or two are
-- refused.
use Rattle.std.specs.Prelude.{ℕ, ◌+◌, ◌-◌, ◌*◌, ◌^◌, Bool, not, ◌||◌, cond, List, [], length, get_or, take, drop, ltb, leb, eqb}
use Rattle.answer.specs.Answer.{Answer, answered}
use Rattle.answer.specs.Refusal.{refusal, ◌or_else◌}
use Rattle.sums.specs.Any.{any_below}
use Rattle.plane.specs.declared.Plane.{Plane}

-- ---- what a plane is

-- sample (x, y) of a plane over the lent samples s
abbrev pub sample_at : Plane → List ℕ → ℕ → ℕ → ℕ
sample_at p s y x = get_or s (p.origin + y * p.stride + x) 0

-- where row y ends, counted from the first lent sample
abbrev pub row_end : Plane → ℕ → ℕ
row_end p y = p.origin + y * p.stride + p.width

-- the visible samples of row y; none where they do not lie within what is lent
unfoldable pub row_of : Plane → List ℕ → ℕ → List ℕ
row_of p s y = cond (leb (row_end p y) (length s)) (take p.width (drop (p.origin + y * p.stride) s)) []

-- ---- when it is refused

-- "a side is 0 or above 8,192"
abbrev pub max_side : ℕ
max_side = 8192

unfoldable pub bad_side : ℕ → Bool
bad_side n = eqb n 0 || ltb max_side n

-- 1: "a side is 0 or above 8,192, or stride below width"
unfoldable pub bad_plane : Plane → Bool
bad_plane p = bad_side p.width || bad_side p.height || ltb p.stride p.width

-- 2: "origin + (height − 1) × stride + width exceeds the samples", of which there are n
unfoldable pub past_samples : Plane → ℕ → Bool
past_samples p n = ltb n (row_end p (p.height - 1))

-- 3: "two planes differ in width or height"
unfoldable pub sizes_differ : Plane → Plane → Bool
sizes_differ p q = not (eqb p.width q.width) || not (eqb p.height q.height)

-- one plane over n samples
unfoldable pub plane_fault : Plane → ℕ → ℕ
plane_fault p n = refusal 1 (bad_plane p) or_else refusal 2 (past_samples p n)

-- "Two planes: the first plane's 1 and 2, then the second's", and 3
unfoldable pub sizes_fault : Plane → ℕ → Plane → ℕ → ℕ
sizes_fault p n q m = plane_fault p n or_else plane_fault q m or_else refusal 3 (sizes_differ p q)

-- ---- depths, and the words that samples stand in

-- a byte, or a word of 16 bits
pub data Word : Type 0 where
  byte : Word
  deep : Word

-- the depths that suit a word: 8 bits a byte; 10 and 12 the other
abbrev pub suits : Word → ℕ → Bool
suits byte depth = eqb depth 8
suits deep depth = eqb depth 10 || eqb depth 12

-- 5: "a depth other than 8, 10, 12", of a detector's settings
unfoldable pub depth_fault : ℕ → ℕ
depth_fault depth = refusal 5 (not (suits byte depth || suits deep depth))

-- 5, of planes: also "one that doesn't suit the plane's word"
unfoldable pub word_fault : Word → ℕ → ℕ
word_fault word depth = refusal 5 (not (suits word depth))

-- 16: "a visible sample .. at or above 2 to the depth". No byte is, at its depth.
unfoldable pub too_large : ℕ → Plane → List ℕ → Bool
too_large depth p s = any_below p.height (λ (y : ℕ). any_below p.width (λ (x : ℕ). leb (2 ^ depth) (sample_at p s y x)))

-- the same row by row, of the rows from one up to another: for what looks at a plane while it measures
abbrev pub row_large : ℕ → Plane → List ℕ → ℕ → Bool
row_large depth p s y = any_below (length (row_of p s y)) (λ (x : ℕ). leb (2 ^ depth) (get_or (row_of p s y) x 0))

abbrev pub rows_large : ℕ → Plane → List ℕ → ℕ → ℕ → Bool
rows_large depth p s from to = any_below (to - from) (λ (j : ℕ). row_large depth p s (from + j))

-- one plane over its lent samples, by its shape and then by its samples
unfoldable pub sample_fault : Word → ℕ → Plane → List ℕ → ℕ
sample_fault word depth p s = word_fault word depth or_else plane_fault p (length s) or_else refusal 16 (too_large depth p s)

-- ---- measures of two planes

-- by their shapes, over n and m samples: 5 comes before 1
unfoldable pub shapes_fault : Word → ℕ → Plane → ℕ → Plane → ℕ → ℕ
shapes_fault word depth p n q m = word_fault word depth or_else sizes_fault p n q m

-- and by the lent samples a and b: 16 comes last
unfoldable pub pair_fault : Word → ℕ → Plane → List ℕ → Plane → List ℕ → ℕ
pair_fault word depth p a q b =
    shapes_fault word depth p (length a) q (length b) or_else refusal 16 (too_large depth p a || too_large depth q b)

-- what difference and delta answer: refused, or this value
abbrev pub pair_answer : {A : Type 0} → Word → ℕ → Plane → List ℕ → Plane → List ℕ → A → Answer A
pair_answer word depth p a q b value = answered (pair_fault word depth p a q b) value
