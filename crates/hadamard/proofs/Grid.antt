-- The 4 * m entries of a line, as m rows of four: the columns and then the rows, each in its place, come to the line's transform, since the
-- number of an output is that of its row and of its column. Assumes nothing.
use mathlib.Core.Path.{◌≡◌, sym, ap, ◌∙◌}
use mathlib.Core.List.{List}
use Prim.Native.Nat.{ℕ, ◌+◌, ◌*◌, ◌/◌, ◌%◌, ◌<◌}
use native.Mathlib.Nat.{div-add-mod', eq_of_mul-eq-mul_right}
use native.Mathlib.Decide.{dec_lt, ℕ_discrete}
use native.Mathlib.Omega.{arith}
use lib.Arith.{digits_div, digits_mod, digits_lt}
use lib.IntN.{ℤ, pos}
use lib.ListN.{length, get_or}
use lib.Seq.{ext_get_or}
use Rattle.hadamard.specs.Transform.{output}
use Rattle.hadamard.specs.Steps.{line_entry, lined, all_lined, LineIn, LinesIn}
use Rattle.hadamard.proofs.Halves.{output_ext, output_most}
use Rattle.hadamard.proofs.Digits.{output_digits}
use Rattle.hadamard.proofs.Places.{at_place, length_stores, stores_at, stores_other, length_lined, lined_other, lined_done}

-- ---- m rows of four, on a line from the first place on
module _ (m u : ℕ) (some : 0 < u) (q : ℕ) (l : List ℤ) (p : LineIn (m * 4) 0 u q l) where
  -- two numbers with one place are the same
  same_number : (s t : ℕ) → s * u ≡ t * u → s ≡ t
  same_number s t e = eq_of_mul-eq-mul_right u some s t e

  pub columns_in : LinesIn m 4 u (4 * u) q l
  columns_in =
      record {
        some = omega arith;
        own = own;
        room = λ a i a< i<. omega (arith, p.room (i * 4 + a) (digits_lt i< a<));
        most = λ a i a< i<. rw (at_place l (a * u + i * (4 * u)) (0 + (i * 4 + a) * u) (omega arith)) (p.most (i * 4 + a) (digits_lt i< a<));
      }
    where
      own : (a b i j : ℕ) → a < 4 → b < 4 → i < m → j < m → a * u + i * (4 * u) ≡ b * u + j * (4 * u) → a ≡ b
      own a b i j a< b< _ _ e = sym (digits_mod i a<) ∙ ap (λ (t : ℕ). t % 4) (same_number (i * 4 + a) (j * 4 + b) (omega arith)) ∙ digits_mod j b<

  columns : List ℤ
  columns = all_lined m u (4 * u) 4 l

  -- entry (i, j) of the columns
  column_entry : (i j : ℕ) → i < m → j < 4 → get_or columns (i * (4 * u) + j * u) (pos 0) ≡ output m (λ (k : ℕ). line_entry l 0 u (k * 4 + j)) i
  unfolding columns
  column_entry i j i< j< =
      at_place columns (i * (4 * u) + j * u) (j * u + i * (4 * u)) (omega arith)
      ∙ lined_done (output m) m u (4 * u) 4 q l columns_in (output_ext m) 4 j i (omega arith) j< i<
      ∙ output_ext m (line_entry l (j * u) (4 * u)) (λ (k : ℕ). line_entry l 0 u (k * 4 + j)) i (λ k _. at_place l (j * u + k * (4 * u)) (0 + (k * 4 + j) * u) (omega arith))

  long : length columns ≡ length l
  unfolding columns
  long = length_lined (output m) m u (4 * u) 4 l

  pub rows_in : LinesIn 4 m (4 * u) u (m * q) (all_lined m u (4 * u) 4 l)
  unfolding columns
  rows_in =
      record {
        some = some;
        own = own;
        room = λ a i a< i<. omega (arith, p.room (a * 4 + i) (digits_lt a< i<), long);
        most = λ a i a< i<. rw (column_entry a i a< i<) (output_most q m (λ (k : ℕ). line_entry l 0 u (k * 4 + i)) a (λ k k<. p.most (k * 4 + i) (digits_lt k< i<)));
      }
    where
      own : (a b i j : ℕ) → a < m → b < m → i < 4 → j < 4 → a * (4 * u) + i * u ≡ b * (4 * u) + j * u → a ≡ b
      own a b i j _ _ i< j< e = sym (digits_div a i<) ∙ ap (λ (t : ℕ). t / 4) (same_number (a * 4 + i) (b * 4 + j) (omega arith)) ∙ digits_div b j<

  rows : List ℤ
  unfolding columns
  rows = all_lined 4 (4 * u) u m columns

  -- an entry of the line, of row a and column b
  row_entry : (a b : ℕ) → a < m → b < 4 → get_or rows (a * (4 * u) + b * u) (pos 0) ≡ output (m * 4) (line_entry l 0 u) (a * 4 + b)
  unfolding columns rows
  row_entry a b a< b< =
      lined_done (output 4) 4 (4 * u) u m (m * q) columns rows_in (output_ext 4) m a b (omega arith) a< b<
      ∙ output_ext 4 (line_entry columns (a * (4 * u)) u) (λ (j : ℕ). output m (λ (k : ℕ). line_entry l 0 u (k * 4 + j)) a) b (λ j j<. column_entry a j a< j<)
      ∙ sym (output_digits 2 a b b< m (line_entry l 0 u))

  -- a place that is not on the line is as it was
  other : (t : ℕ) → ((k : ℕ) → k < m * 4 → t ≡ k * u → ⊥) → get_or rows t (pos 0) ≡ get_or (lined (m * 4) 0 u l) t (pos 0)
  unfolding columns rows
  other t off =
      lined_other (output 4) 4 (4 * u) u m columns t (λ a k a< k< e. off (a * 4 + k) (digits_lt a< k<) (omega arith))
      ∙ lined_other (output m) m u (4 * u) 4 l t (λ a k a< k< e. off (k * 4 + a) (digits_lt k< a<) (omega arith))
      ∙ sym (stores_other 0 u (output (m * 4) (line_entry l 0 u)) (m * 4) l t (λ k k< e. off k k< (omega arith)))

  -- one that is on it has a number
  number : (t k : ℕ) → t ≡ k * u → (t % u ≡ 0) × (t / u ≡ k)
  number t k e =
      let z : t ≡ k * u + 0 = omega arith in
      (ap (λ (s : ℕ). s % u) z ∙ digits_mod k some, ap (λ (s : ℕ). s / u) z ∙ digits_div k some)

  entry : (t : ℕ) → Dec (t % u ≡ 0) → Dec (t / u < m * 4) → get_or rows t (pos 0) ≡ get_or (lined (m * 4) 0 u l) t (pos 0)
  entry t (no z) d = other t (λ k k< e. z (number t k e).0)
  entry t (yes z) (no past) = other t (λ k k< e. past (omega (arith, (number t k e).1)))
  entry t (yes z) (yes k<) =
      let k : ℕ = t / u in
      let by-four : k / 4 * 4 + k % 4 ≡ k = div-add-mod' k 4 in
      let there : t ≡ k * u = omega (arith, div-add-mod' t u) in
      let place : t ≡ k / 4 * (4 * u) + k % 4 * u = omega (arith, ap (λ (s : ℕ). s * u) by-four) in
      at_place rows t (k / 4 * (4 * u) + k % 4 * u) place
      ∙ row_entry (k / 4) (k % 4) (omega arith) (omega arith)
      ∙ ap (output (m * 4) (line_entry l 0 u)) by-four
      ∙ sym (at_place (lined (m * 4) 0 u l) t (0 + k * u) (omega arith) ∙ stores_at 0 u (output (m * 4) (line_entry l 0 u)) some (m * 4) l k k< (p.room k k<))

  pub grid : all_lined 4 (4 * u) u m (all_lined m u (4 * u) 4 l) ≡ lined (m * 4) 0 u l
  unfolding columns rows
  grid =
      let out : ℕ → ℤ = output (m * 4) (line_entry l 0 u) in
      let size : length rows ≡ length l = length_lined (output 4) 4 (4 * u) u m columns ∙ long in
      ext_get_or (pos 0) rows (lined (m * 4) 0 u l) (size ∙ sym (length_stores 0 u out (m * 4) l))
      (λ t t<. entry t (ℕ_discrete (t % u) 0) (dec_lt (t / u) (m * 4)))
