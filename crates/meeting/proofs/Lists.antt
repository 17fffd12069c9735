-- Parts of lists, and what is said of every element of one. Assumes nothing.
use mathlib.Core.Path.{◌≡◌, refl, sym, ◌∙◌, ap}
use mathlib.Core.List.{List, [], ◌∷◌, ◌++◌, map}
use Prim.Native.Nat.{ℕ, zero, suc, ◌+◌}
use native.Mathlib.Nat.{zero-add, suc-add}
use lib.ListN.{take, drop}
use lib.Seq.{take-nil}
use Rattle.meeting.specs.Calls.{All}

module _ {A B : Type 0} (f : A → B) where
  pub take_map : (n : ℕ) (l : List A) → take n (map f l) ≡ map f (take n l)
  take_map zero l = refl
  take_map (suc n) [] = refl
  take_map (suc n) (x ∷ l) = ap (λ (r : List B). f x ∷ r) (take_map n l)

  drop_map : (n : ℕ) (l : List A) → drop n (map f l) ≡ map f (drop n l)
  drop_map zero l = refl
  drop_map (suc n) [] = refl
  drop_map (suc n) (x ∷ l) = drop_map n l

  -- lists that are the same under f are so in each part
  pub same_take : (n : ℕ) (l k : List A) → map f l ≡ map f k → map f (take n l) ≡ map f (take n k)
  same_take n l k e = sym (take_map n l) ∙ ap (take n) e ∙ take_map n k

  pub same_drop : (n : ℕ) (l k : List A) → map f l ≡ map f k → map f (drop n l) ≡ map f (drop n k)
  same_drop n l k e = sym (drop_map n l) ∙ ap (drop n) e ∙ drop_map n k

module _ {A : Type 0} where
  pub drop_taken : (d n : ℕ) (l : List A) → drop d (take (d + n) l) ≡ take n (drop d l)
  drop_taken zero n l = rw zero-add
  drop_taken (suc d) n [] = ap (drop (suc d)) (take-nil (suc d + n)) ∙ sym (take-nil n)
  drop_taken (suc d) n (x ∷ l) = rw (suc-add d n) (drop_taken d n l)

  pub all_parts : (P : A → Type 0) (xs ys : List A) → All P (xs ++ ys) → All P xs × All P ys
  all_parts P [] ys a = (tt, a)
  all_parts P (x ∷ xs) ys a =
      let r = all_parts P xs ys a.1 in
      ((a.0, r.0), r.1)

  pub all_so : (P Q : A → Type 0) → ((x : A) → P x → Q x) → (xs : List A) → All P xs → All Q xs
  all_so P Q f [] a = tt
  all_so P Q f (x ∷ xs) a = (f x a.0, all_so P Q f xs a.1)

  pub all_both : (P Q : A → Type 0) (xs : List A) → All P xs → All Q xs → All (λ (x : A). P x × Q x) xs
  all_both P Q [] a b = tt
  all_both P Q (x ∷ xs) a b = ((a.0, b.0), all_both P Q xs a.1 b.1)

  pub all_take : (P : A → Type 0) (n : ℕ) (xs : List A) → All P xs → All P (take n xs)
  all_take P zero xs a = tt
  all_take P (suc n) [] a = tt
  all_take P (suc n) (x ∷ xs) a = (a.0, all_take P n xs a.1)

  pub all_join : (P : A → Type 0) (xs ys : List A) → All P xs → All P ys → All P (xs ++ ys)
  all_join P [] ys a b = b
  all_join P (x ∷ xs) ys a b = (a.0, all_join P xs ys a.1 b)

  pub all_any : (P : A → Type 0) → ((x : A) → P x) → (xs : List A) → All P xs
  all_any P f [] = tt
  all_any P f (x ∷ xs) = (f x, all_any P f xs)
