-- The square of 2 ^ p rows of 2 ^ p entries: transformed as one line it is `transformed`, in two dimensions. Assumes nothing.
use mathlib.Core.Path.{◌≡◌, sym, ap, ◌∙◌}
use mathlib.Core.List.{List}
use Prim.Native.Nat.{ℕ, ◌+◌, ◌*◌, ◌/◌, ◌%◌, ◌<◌, ◌^◌}
use native.Mathlib.Nat.{div-add-mod', mod-lt}
use native.Mathlib.Omega.{arith}
use lib.IntN.{ℤ, pos}
use lib.ListN.{length, get_or}
use lib.Seq.{ext_get_or}
use Rattle.sums.specs.Table.{table}
use Rattle.sums.proofs.TableLaws.{length_table, table_at}
use Rattle.hadamard.specs.Transform.{output, square, transformed}
use Rattle.hadamard.specs.Steps.{line_entry, lined, LineIn, AllWithin}
use Rattle.hadamard.proofs.Halves.{output_ext, output_most}
use Rattle.hadamard.proofs.Digits.{output_digits}
use Rattle.hadamard.proofs.Range.{table_within}
use Rattle.hadamard.proofs.Places.{at_place, length_stores, stores_at}

module _ (p : ℕ) (some : 0 < 2 ^ p) (l : List ℤ) (size : length l ≡ 2 ^ p * 2 ^ p) where
  -- its entries are a line
  pub square_line : (q : ℕ) → AllWithin q l → LineIn (2 ^ p * 2 ^ p) 0 1 q l
  square_line q w = record { room = λ j j<. omega arith; most = λ j _. w.most (0 + j * 1) }

  -- entry t of the line is entry (t / n, t % n) of the square
  entry : (t : ℕ) → output (2 ^ p * 2 ^ p) (line_entry l 0 1) t ≡ square (2 ^ p) (λ (i j : ℕ). get_or l (i * 2 ^ p + j) (pos 0)) (t / 2 ^ p) (t % 2 ^ p)
  entry t =
      ap (output (2 ^ p * 2 ^ p) (line_entry l 0 1)) (sym (div-add-mod' t (2 ^ p)))
      ∙ output_digits p (t / 2 ^ p) (t % 2 ^ p) (mod-lt t some) (2 ^ p) (line_entry l 0 1)
      ∙ output_ext (2 ^ p) (λ (j : ℕ). output (2 ^ p) (λ (i : ℕ). line_entry l 0 1 (i * 2 ^ p + j)) (t / 2 ^ p)) (λ (j : ℕ). output (2 ^ p) (λ (i : ℕ). get_or l (i * 2 ^ p + j) (pos 0)) (t / 2 ^ p)) (t % 2 ^ p)
      (λ j _. output_ext (2 ^ p) (λ (i : ℕ). line_entry l 0 1 (i * 2 ^ p + j)) (λ (i : ℕ). get_or l (i * 2 ^ p + j) (pos 0)) (t / 2 ^ p) (λ i _. at_place l (0 + (i * 2 ^ p + j) * 1) (i * 2 ^ p + j) (omega arith)))

  pub line_square : lined (2 ^ p * 2 ^ p) 0 1 l ≡ transformed (2 ^ p) l
  unfolding transformed
  line_square =
      let out : ℕ → ℤ = output (2 ^ p * 2 ^ p) (line_entry l 0 1) in
      let g : ℕ → ℤ = λ (t : ℕ). square (2 ^ p) (λ (i j : ℕ). get_or l (i * 2 ^ p + j) (pos 0)) (t / 2 ^ p) (t % 2 ^ p) in
      let long : length (lined (2 ^ p * 2 ^ p) 0 1 l) ≡ 2 ^ p * 2 ^ p = length_stores 0 1 out (2 ^ p * 2 ^ p) l ∙ size in
      ext_get_or (pos 0) (lined (2 ^ p * 2 ^ p) 0 1 l) (table (2 ^ p * 2 ^ p) g) (long ∙ sym (length_table (2 ^ p * 2 ^ p) g))
      (λ t t<.
      let t<n : t < 2 ^ p * 2 ^ p = omega arith in
      at_place (lined (2 ^ p * 2 ^ p) 0 1 l) t (0 + t * 1) (omega arith)
      ∙ stores_at 0 1 out (omega arith) (2 ^ p * 2 ^ p) l t t<n (omega arith)
      ∙ entry t
      ∙ sym (table_at (pos 0) (2 ^ p * 2 ^ p) g t t<n))

-- ---- the transform's entries: n * n of them, n * n times the size at most
pub length_transformed : (n : ℕ) (l : List ℤ) → length (transformed n l) ≡ n * n
unfolding transformed
length_transformed n l = length_table (n * n) (λ (t : ℕ). square n (λ (i j : ℕ). get_or l (i * n + j) (pos 0)) (t / n) (t % n))

pub transformed_within : (m n : ℕ) (l : List ℤ) → AllWithin m l → AllWithin (n * (n * m)) (transformed n l)
unfolding transformed
transformed_within m n l w =
    table_within (n * n) (n * (n * m)) (λ (t : ℕ). square n (λ (i j : ℕ). get_or l (i * n + j) (pos 0)) (t / n) (t % n))
    (λ t.
    output_most (n * m) n (λ (j : ℕ). output n (λ (i : ℕ). get_or l (i * n + j) (pos 0)) (t / n)) (t % n)
    (λ j _. output_most m n (λ (i : ℕ). get_or l (i * n + j) (pos 0)) (t / n) (λ i _. w.most (i * n + j))))
