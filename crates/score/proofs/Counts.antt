-- A search, one element at a time from a place on: what is left to look at after i elements; the library's search and count; and a
-- search that finds nothing.
-- Assumes nothing.
use mathlib.Core.Path.{◌≡◌, refl, sym, ap, ◌∙◌}
use mathlib.Core.Bool.{Bool, true, false, ◌||◌, cond}
use mathlib.Core.List.{List, [], ◌∷◌}
use Prim.Native.Nat.{ℕ, zero, suc, ◌+◌, ◌≤◌, ◌<◌}
use native.Mathlib.Numerals.{add-one}
use native.Mathlib.Omega.{arith}
use lib.ListN.{length, take, drop, get_or, drop_of_length-le}
use lib.Seq.{drop-cons}
use native.Mathlib.Nat.{zero-add}
use Rattle.std.specs.List.{list_any, filter}
use Rattle.std.proofs.lemmas.List.Sums.{length-filter}
use Rattle.std.proofs.lemmas.List.Recursion.{is_count_by}
use Rattle.answer.proofs.Laws.{or_no}
use Rattle.score.specs.Search.{any_of, count_of}

module _ {A : Type 0} (test : A → Bool) (l : List A) (i : ℕ) where
  pub any_end : length l ≤ i → any_of test (drop i l) ≡ false
  unfolding any_of
  any_end h = rw (drop_of_length-le l h)

  module _ (z : A) (h : i < length l) where
    pub any_more : any_of test (drop i l) ≡ test (get_or l i z) || any_of test (drop (i + 1) l)
    unfolding any_of
    any_more = rw (add-one, drop-cons l i z h)

-- they are what the library's `any`, and its `count` behind a `filter`, answer
pub any_is : {A : Type 0} (test : A → Bool) (l : List A) → list_any test l ≡ any_of test l
unfolding any_of
any_is test [] = refl
any_is test (x ∷ l) = ap (λ (b : Bool). test x || b) (any_is test l)

pub count_is : {A : Type 0} (test : A → Bool) (l : List A) → length (filter test l) ≡ count_of test l
unfolding count_of
count_is test l = length-filter test l ∙ sym (is_count_by (count_of test) test refl (λ x xs. by (test x) (count_of test xs)) l)
  where
    by : (b : Bool) (n : ℕ) → cond b 1 0 + n ≡ cond b (1 + n) n
    by true n = refl
    by false n = zero-add n

-- a search that finds nothing, of an element and the rest
module _ {A : Type 0} (test : A → Bool) where
  pub any_none : any_of test [] ≡ false
  unfolding any_of
  any_none = refl

  pub any_first : (x : A) (l : List A) → any_of test (x ∷ l) ≡ test x || any_of test l
  unfolding any_of
  any_first x l = refl

  pub none_found : (x : A) (l : List A) → any_of test (x ∷ l) ≡ false → (test x ≡ false) × (any_of test l ≡ false)
  none_found x l e = or_no (test x) (any_of test l) (rw any_first at e)

  pub none_of : (x : A) (l : List A) → test x ≡ false → any_of test l ≡ false → any_of test (x ∷ l) ≡ false
  none_of x l h k = rw (any_first, h, k)

  -- nor in its first elements, nor at any place
  pub none_taken : (k : ℕ) (l : List A) → any_of test l ≡ false → any_of test (take k l) ≡ false
  none_taken zero l e = any_none
  none_taken (suc k) [] e = any_none
  none_taken (suc k) (x ∷ l) e = let p = none_found x l e in none_of x (take k l) p.0 (none_taken k l p.1)

  pub none_at_lem : (l : List A) (i : ℕ) (z : A) → i < length l → any_of test l ≡ false → test (get_or l i z) ≡ false
  none_at_lem [] i z h e = absurd (omega arith)
  none_at_lem (x ∷ l) zero z h e = (none_found x l e).0
  none_at_lem (x ∷ l) (suc i) z h e = none_at_lem l i z (omega arith) (none_found x l e).1

-- a count of an element and the rest, and of fewer elements
module _ {A : Type 0} (test : A → Bool) where
  pub count_none : count_of test [] ≡ 0
  unfolding count_of
  count_none = refl

  pub count_first : (x : A) (l : List A) → count_of test (x ∷ l) ≡ cond (test x) 1 0 + count_of test l
  unfolding count_of
  count_first x l = refl

  pub count_taken : (k : ℕ) (l : List A) → count_of test (take k l) ≤ count_of test l
  count_taken zero l = omega (arith, count_none)
  count_taken (suc k) [] = omega arith
  count_taken (suc k) (x ∷ l) = omega (arith, count_first x l, count_first x (take k l), count_taken k l)
