-- The neighbours of a list of scores, two at a time from the front: what is left to look at.
-- Assumes nothing.
use mathlib.Core.Path.{◌≡◌, refl, ap, ◌∙◌}
use mathlib.Core.Bool.{true, ◌||◌, cond}
use mathlib.Core.List.{List, [], ◌∷◌}
use Prim.Native.Nat.{ℕ, suc, ◌+◌, ◌≤◌, ◌<◌}
use native.Mathlib.Nat.{add-zero}
use native.Mathlib.Omega.{arith}
use lib.Dec.{ltb}
use lib.ListN.{length, length-drop, take, drop, get_or}
use Rattle.score.specs.declared.ScenecutResult.{ScenecutResult}
use Rattle.score.specs.Deque.{no_score}
use Rattle.score.specs.Search.{any_of, count_of}
use Rattle.score.specs.Numbers.{numbers_of, neighbours, are_equal, are_astray, misnumbered}
use Rattle.score.proofs.Counts.{any_none, any_first, count_none, count_first}
use Rattle.score.proofs.PairLaws.{two_equal, two_fall}

abbrev pairs : List ScenecutResult → List (ℕ × ℕ)
pairs l = neighbours (numbers_of l)

-- of the neighbours of l none that was looked at was astray, and `equal` of them were equal: those of `rest` are left
pub record Looked (l rest : List ScenecutResult) (equal : ℕ) : Type 0 where
  pub few : equal + length rest ≤ length l
  pub search : any_of are_astray (pairs l) ≡ any_of are_astray (pairs rest)
  pub count : count_of are_equal (pairs l) ≡ equal + count_of are_equal (pairs rest)

pub looked_none : (l : List ScenecutResult) → Looked l l 0
looked_none l = record { few = omega arith; search = refl; count = omega arith }

-- the number of place i
abbrev pub number : ℕ → List ScenecutResult → ℕ
number i l = (get_or l i no_score).pair_number

-- the two in front, and the pairs behind them
pairs_here : (l : List ScenecutResult) → 2 ≤ length l → pairs l ≡ (number 0 (take 2 l), number 1 (take 2 l)) ∷ pairs (drop 1 l)
pairs_here [] h = absurd (omega arith)
pairs_here (a ∷ []) h = absurd (omega arith)
pairs_here (a ∷ b ∷ l) h = refl

pairs_end : (l : List ScenecutResult) → length l < 2 → pairs l ≡ []
pairs_end [] h = refl
pairs_end (a ∷ []) h = refl
pairs_end (a ∷ b ∷ l) h = absurd (omega arith)

-- a window of n, which is 2, in front of what is left, and what is left behind it
module _ (l rest two next : List ScenecutResult) (equal n : ℕ) (z : n ≡ 2) (h : n ≤ length rest) (p : two ≡ take n rest) (q : next ≡ drop 1 rest) (k : Looked l rest equal) where
  here : pairs rest ≡ (number 0 two, number 1 two) ∷ pairs next
  here = rw (p, q, z) (pairs_here rest (omega arith))

  search_here : any_of are_astray (pairs l) ≡ are_astray (number 0 two, number 1 two) || any_of are_astray (pairs next)
  search_here = k.search ∙ ap (any_of are_astray) here ∙ any_first are_astray (number 0 two, number 1 two) (pairs next)

  count_here : count_of are_equal (pairs l) ≡ equal + (cond (are_equal (number 0 two, number 1 two)) 1 0 + count_of are_equal (pairs next))
  count_here = k.count ∙ ap (λ (ps : List (ℕ × ℕ)). equal + count_of are_equal ps) here ∙ ap (λ (m : ℕ). equal + m) (count_first are_equal (number 0 two, number 1 two) (pairs next))

  fewer : equal + 1 + length next ≤ length l
  fewer = omega (arith, k.few, rw length-drop at (ap length q))

  pub looked_equal : number 0 two ≡ number 1 two → Looked l next (equal + 1)
  looked_equal e =
      let t = two_equal (number 0 two) (number 1 two) e in
      record { few = fewer; search = search_here ∙ rw t.0; count = omega (arith, rw t.1 at count_here) }

  pub looked_fall : number 0 two ≡ suc (number 1 two) → Looked l next equal
  looked_fall e =
      let t = two_fall (number 0 two) (number 1 two) e in
      record { few = omega (arith, fewer); search = search_here ∙ rw t.0; count = omega (arith, rw t.1 at count_here) }

  pub looked_astray : are_astray (number 0 two, number 1 two) ≡ true → true ≡ misnumbered l
  looked_astray e = rw (search_here, e)

-- none is left
pub looked_end : (l rest : List ScenecutResult) (equal : ℕ) → length rest < 2 → Looked l rest equal → ltb 1 equal ≡ misnumbered l
looked_end l rest equal h k =
    let none = pairs_end rest h in
    rw (k.search, k.count, none, any_none are_astray, count_none are_equal, add-zero) refl
