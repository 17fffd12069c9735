-- A line in a part that runs to the end of its list: transformed there and put back, it is transformed in the list. Assumes nothing.
use mathlib.Core.Path.{◌≡◌, refl, ap, ◌∙◌}
use mathlib.Core.List.{List, [], ◌∷◌, ◌++◌, append-nil}
use Prim.Native.Nat.{ℕ, zero, suc, ◌+◌, ◌-◌, ◌*◌, ◌≤◌}
use native.Mathlib.Nat.{zero-add, suc-add}
use native.Mathlib.Omega.{arith}
use borrow.Rule.Slice.PartMut.{put_mid}
use lib.IntN.{ℤ, pos}
use lib.ListN.{length, set, take, drop, length-drop, drop_of_length-le, take-append-drop}
use lib.Seq.{length-take-le, take_all, get_or-drop}
use Rattle.hadamard.specs.Transform.{output}
use Rattle.hadamard.specs.Steps.{line_entry, stores, lined, LineIn}
use Rattle.hadamard.proofs.Halves.{output_ext}
use Rattle.hadamard.proofs.Places.{at_place, stores_ext}

set_behind : (xs ys : List ℤ) (j : ℕ) (v : ℤ) → xs ++ set ys j v ≡ set (xs ++ ys) (length xs + j) v
set_behind [] ys j v = rw (zero-add j)
set_behind (x ∷ xs) ys j v = rw (suc-add (length xs) j) (ap (λ (r : List ℤ). x ∷ r) (set_behind xs ys j v))

stores_behind : (n step : ℕ) (g : ℕ → ℤ) (xs ys : List ℤ) → xs ++ stores n 0 step g ys ≡ stores n (length xs) step g (xs ++ ys)
unfolding stores
stores_behind zero step g xs ys = refl
stores_behind (suc n) step g xs ys =
    set_behind xs (stores n 0 step g ys) (0 + n * step) (g n)
    ∙ ap (λ (l : List ℤ). set l (length xs + (0 + n * step)) (g n)) (stores_behind n step g xs ys)
    ∙ ap (λ (t : ℕ). set (stores n (length xs) step g (xs ++ ys)) t (g n)) (omega arith)

module _ (n i step : ℕ) (l : List ℤ) (h : i ≤ length l) where
  -- the part is what is left of the list
  all : take (length l - i) (drop i l) ≡ drop i l
  all = take_all (length l - i) (drop i l) (omega (arith, length-drop i l))

  reached : (k : ℕ) → line_entry (take (length l - i) (drop i l)) 0 step k ≡ line_entry l i step k
  reached k = ap (λ (x : List ℤ). line_entry x 0 step k) all ∙ get_or-drop i l (0 + k * step) (pos 0) ∙ at_place l (i + (0 + k * step)) (i + k * step) (omega arith)

  pub part_line : (q : ℕ) → LineIn n i step q l → LineIn n 0 step q (take (length l - i) (drop i l))
  part_line q p =
      record { room = λ j j<. omega (arith, p.room j j<, ap length all, length-drop i l); most = λ j j<. rw (reached j) (p.most j j<) }

  pub part_lined : (x : List ℤ) → x ≡ lined n 0 step (take (length l - i) (drop i l)) → put_mid i (length l - i) l x ≡ lined n i step l
  part_lined x e =
      let out : ℕ → ℤ = output n (line_entry l i step) in
      let rest : drop (length l - i) (drop i l) ≡ [] = drop_of_length-le (drop i l) {i = length l - i} (omega (arith, length-drop i l)) in
      let inner : x ≡ stores n 0 step out (drop i l) =
      e
      ∙ stores_ext 0 step (output n (line_entry (take (length l - i) (drop i l)) 0 step)) n out (take (length l - i) (drop i l))
      (λ k _. output_ext n (line_entry (take (length l - i) (drop i l)) 0 step) (line_entry l i step) k (λ j _. reached j))
      ∙ ap (stores n 0 step out) all in
      rw (rest, append-nil x) (ap (λ (y : List ℤ). take i l ++ y) inner ∙ stores_behind n step out (take i l) (drop i l) ∙ rw (length-take-le i l h, take-append-drop i l))
