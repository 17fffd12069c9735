-- A plane reduced by a factor. Document 01 leaves this out: "planes arrive already reduced". What is done, and its refusals, are decided in
-- docs/DECISIONS.md, with document 01's numbers in document 01's order, and document 02's 16 last.
use Rattle.std.specs.Prelude.{ℕ, ◌-◌, ◌*◌, ◌/◌, ◌%◌, Bool, not, ◌||◌, List, ltb, eqb, length}
use Rattle.answer.specs.Answer.{lent_after}
use Rattle.answer.specs.Refusal.{refusal, ◌or_else◌}
use Rattle.plane.specs.Blocks.{square_sum}
use Rattle.plane.specs.Planes.{Word, plane_fault, word_fault, too_large}
use Rattle.plane.specs.declared.Plane.{Plane}
use Rattle.sums.specs.Means.{mean_of}
use Rattle.sums.specs.Places.{in_rows}
use Rattle.sums.specs.Written.{written}

-- ---- what the lent plane holds

-- the mean of square (x, y): the sum of its factor × factor samples, plus half their number, divided by their number, rounded down
abbrev pub square_mean : ℕ → Plane → List ℕ → ℕ → ℕ → ℕ
square_mean f p s y x = mean_of (f * f) (square_sum f p s y x)

-- place k of the lent samples is sample (x, y) of the reduced plane q, where x and y are these
abbrev pub column_at : Plane → ℕ → ℕ
column_at q k = (k - q.origin) % q.stride

abbrev pub row_at : Plane → ℕ → ℕ
row_at q k = (k - q.origin) / q.stride

-- each visible sample of q becomes the mean of its square of p; every other lent sample, padding included, stays
abbrev pub reduced_after : ℕ → Plane → List ℕ → Plane → List ℕ → List ℕ
reduced_after f p s q r =
    written (in_rows q.origin q.stride q.height q.width) (λ (k : ℕ). square_mean f p s (row_at q k) (column_at q k)) r

-- ---- when it is refused

-- 6: the factor is none of the six that the scale rule has
unfoldable pub bad_factor : ℕ → Bool
bad_factor f = not (eqb f 1 || eqb f 2 || eqb f 4 || eqb f 8 || eqb f 16 || eqb f 32)

-- 1: a reduced side would be 0, and no lent plane can have it
unfoldable pub too_small : ℕ → Plane → Bool
too_small f p = ltb p.width f || ltb p.height f

-- 3: the lent sides are not the reduced ones: "the sides divided by the factor, rounded down"
unfoldable pub not_reduced : ℕ → Plane → Plane → Bool
not_reduced f p q = not (eqb q.width (p.width / f)) || not (eqb q.height (p.height / f))

-- 6, 5, the plane's 1 and 2, the lent plane's 1 and 2, and 3; 5 is given, since it alone knows the word
abbrev pub sides_by : ℕ → ℕ → Plane → ℕ → Plane → ℕ → ℕ
sides_by depth_fault f p n q m =
    refusal 6 (bad_factor f)
    or_else depth_fault
    or_else refusal 1 (too_small f p)
    or_else plane_fault p n
    or_else plane_fault q m
    or_else refusal 3 (not_reduced f p q)

unfoldable pub sides_fault : Word → ℕ → ℕ → Plane → ℕ → Plane → ℕ → ℕ
sides_fault word depth f p n q m = sides_by (word_fault word depth) f p n q m

-- and 16, of the plane that is reduced
unfoldable pub reduce_fault : Word → ℕ → ℕ → Plane → List ℕ → Plane → List ℕ → ℕ
reduce_fault word depth f p s q r = sides_fault word depth f p (length s) q (length r) or_else refusal 16 (too_large depth p s)

-- the lent samples at exit: where it is refused, as they were
abbrev pub reduced_of : Word → ℕ → ℕ → Plane → List ℕ → Plane → List ℕ → List ℕ
reduced_of word depth f p s q r = lent_after (reduce_fault word depth f p s q r) (reduced_after f p s q r) r
