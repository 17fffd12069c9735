-- Numbers in order: no two neighbours are astray, and of these at most so many are equal. One more in front, and fewer.
-- Assumes nothing.
use mathlib.Core.Path.{◌≡◌}
use mathlib.Core.Bool.{false}
use mathlib.Core.List.{List, [], ◌∷◌}
use Prim.Native.Nat.{ℕ, zero, suc, ◌≤◌, ◌<◌}
use native.Mathlib.Omega.{arith}
use lib.ListN.{length, take, get_or}
use Rattle.score.specs.Search.{any_of, count_of}
use Rattle.score.specs.Numbers.{neighbours, are_equal, are_astray}
use Rattle.score.proofs.Counts.{any_none, none_of, none_taken, count_none, count_first, count_taken}
use Rattle.score.proofs.PairLaws.{neighbours_taken, two_fall, two_equal}

pub record InOrder (most : ℕ) (ns : List ℕ) : Type 0 where
  pub falls : any_of are_astray (neighbours ns) ≡ false
  pub equals : count_of are_equal (neighbours ns) ≤ most

module _ (most : ℕ) where
  pub order_none : InOrder most []
  order_none = record { falls = any_none are_astray; equals = omega (arith, count_none are_equal) }

  pub order_one : (x : ℕ) → InOrder most (x ∷ [])
  order_one x = record { falls = any_none are_astray; equals = omega (arith, count_none are_equal) }

  -- the next number in front
  pub order_next : (x : ℕ) (ns : List ℕ) → (0 < length ns → x ≡ suc (get_or ns 0 0)) → InOrder most ns → InOrder most (x ∷ ns)
  order_next x [] f o = order_one x
  order_next x (y ∷ ns) f o =
      let two = two_fall x y (f (omega arith)) in
      let n = rw two.1 at (count_first are_equal (x, y) (neighbours (y ∷ ns))) in
      record { falls = none_of are_astray (x, y) (neighbours (y ∷ ns)) two.0 o.falls; equals = omega (arith, n, o.equals) }

  -- the front's number once more
  pub order_again : (x : ℕ) (ns : List ℕ) → (0 < length ns → x ≡ get_or ns 0 0) → InOrder most ns → InOrder (suc most) (x ∷ ns)
  order_again x [] f o = record { falls = any_none are_astray; equals = omega (arith, count_none are_equal) }
  order_again x (y ∷ ns) f o =
      let two = two_equal x y (f (omega arith)) in
      let n = rw two.1 at (count_first are_equal (x, y) (neighbours (y ∷ ns))) in
      record { falls = none_of are_astray (x, y) (neighbours (y ∷ ns)) two.0 o.falls; equals = omega (arith, n, o.equals) }

  pub order_more : (ns : List ℕ) → InOrder most ns → InOrder (suc most) ns
  order_more ns o = record { falls = o.falls; equals = omega (arith, o.equals) }

  pub order_taken : (k : ℕ) (ns : List ℕ) → InOrder most ns → InOrder most (take k ns)
  order_taken zero ns o = order_none
  order_taken (suc k) ns o = record {
    falls = rw (neighbours_taken k ns) (none_taken are_astray k (neighbours ns) o.falls);
    equals = rw (neighbours_taken k ns) (omega (arith, o.equals, count_taken are_equal k (neighbours ns)));
  }
