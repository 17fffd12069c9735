-- The entries out of range, and the refusals. Assumes nothing.
use mathlib.Core.Path.{◌≡◌, refl}
use mathlib.Core.Bool.{Bool, true, false, cond, not}
use mathlib.Core.List.{List, [], ◌∷◌}
use Prim.Native.Nat.{ℕ, zero, suc, ◌*◌, ◌≤◌, ◌<◌}
use native.Mathlib.Decide.{dec_lt}
use native.Mathlib.Omega.{arith}
use borrow.Author.Tests.{le-ltb, ltb-false, ne_eqb, eq-eqb, eqb-true, not-false}
use lib.Dec.{eqb}
use lib.IntN.{ℤ, pos, nat_abs}
use lib.ListN.{length, get_or, get_or-eq_default}
use Rattle.answer.specs.Refusal.{refusal}
use Rattle.answer.proofs.Laws.{or_given, or_later, or_none, passed, lent_written}
use Rattle.sums.specs.Table.{table}
use Rattle.sums.proofs.TableLaws.{length_table, table_at}
use Rattle.hadamard.specs.Transform.{entry_most, beyond_most, some_beyond, transform_fault, transformed, after_transform}
use Rattle.hadamard.specs.Steps.{AllWithin}

-- where none is out of range, every one is within it
unpicked : (t b : Bool) → cond t true b ≡ false → (t ≡ false) × (b ≡ false)
unpicked true b e = let w : ◌≡◌ {A = ℕ} 0 1 = cc in absurd (omega arith)
unpicked false b e = (refl, e)

pub within : (l : List ℤ) → some_beyond l ≡ false → AllWithin entry_most l
unfolding some_beyond
within l e = record { most = each l e }
  where
    each : (l : List ℤ) → some_beyond l ≡ false → (i : ℕ) → nat_abs (get_or l i (pos 0)) ≤ entry_most
    each [] e i = omega arith
    each (z ∷ l) e zero = ltb-false entry_most (nat_abs z) (unpicked (beyond_most z) (some_beyond l) e).0
    each (z ∷ l) e (suc i) = each l (unpicked (beyond_most z) (some_beyond l) e).1 i

pub within_more : (m n : ℕ) (l : List ℤ) → m ≤ n → AllWithin m l → AllWithin n l
within_more m n l h w = record { most = λ i. omega (arith, w.most i) }

-- a table's entries
pub table_within : (n q : ℕ) (g : ℕ → ℤ) → ((t : ℕ) → nat_abs (g t) ≤ q) → AllWithin q (table n g)
table_within n q g h = record { most = λ t. by_place t (dec_lt t n) }
  where
    by_place : (t : ℕ) → Dec (t < n) → nat_abs (get_or (table n g) t (pos 0)) ≤ q
    by_place t (yes t<) = rw (table_at (pos 0) n g t t<) (h t)
    by_place t (no past) = rw (get_or-eq_default (table n g) (pos 0) {n = t} (omega (arith, length_table n g))) (omega arith)

-- and back
pub none_beyond : (l : List ℤ) → AllWithin entry_most l → some_beyond l ≡ false
unfolding some_beyond
none_beyond [] w = refl
none_beyond (z ∷ l) w = rw (le-ltb entry_most (nat_abs z) (w.most 0)) (none_beyond l (record { most = λ i. w.most (suc i) }))

-- ---- the refusals, and what is left
pub wrong_length_lem : (n : ℕ) (l : List ℤ) → (length l ≡ n * n → ⊥) → 2 ≡ transform_fault n l
wrong_length_lem n l h = or_given 2 _ _ (rw (ne_eqb (length l) (n * n) h)) (λ e. omega arith)

module _ (n : ℕ) (l : List ℤ) (size : length l ≡ n * n) where
  pub too_large : some_beyond l ≡ true → 10 ≡ transform_fault n l
  too_large e = or_later 10 _ _ (rw (eq-eqb (length l) (n * n) size)) (rw e)

  pub accepted : some_beyond l ≡ false → (0 ≡ transform_fault n l) × (transformed n l ≡ after_transform n l)
  accepted e =
      let none : 0 ≡ transform_fault n l = or_later 0 _ _ (rw (eq-eqb (length l) (n * n) size)) (rw e) in
      (none, lent_written _ _ _ none)

-- what is known of a list that is not refused
pub unrefused : (n : ℕ) (l : List ℤ) → transform_fault n l ≡ 0 → (length l ≡ n * n) × (AllWithin entry_most l)
unrefused n l e =
    let t = or_none (refusal 2 (not (eqb (length l) (n * n)))) (refusal 10 (some_beyond l)) e in
    (eqb-true _ _ (not-false _ (passed 1 _ t.0)), within l (passed 9 _ t.1))
