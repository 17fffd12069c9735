-- The laws of `table`, over any element type. Assumes nothing.
use Rattle.std.proofs.Common.{◌≡◌, ℕ, zero, suc, ◌+◌, ◌<◌, List, [], ◌∷◌, ◌++◌, length, get_or, set, sym, refl, ◌∙◌, subst, ⊎_elim, eq-or-lt_of_le, arith, length-append, get_or-set_other, get_or-set_same, ext_get_or, below_more}
use lib.ListN.{get_or-append}
use lib.Seq.{get_or_at}
use Rattle.sums.specs.Table.{table}

pub length_table : {A : Type 0} (n : ℕ) (g : ℕ → A) → length (table n g) ≡ n
unfolding table
length_table zero g = refl
length_table (suc n) g = length-append (table n g) (g n ∷ []) ∙ omega (arith, length_table n g)

-- equal rules make equal lists
pub table_ext : {A : Type 0} (n : ℕ) (g h : ℕ → A) → ((k : ℕ) → g k ≡ h k) → table n g ≡ table n h
unfolding table
table_ext zero g h e = refl
table_ext (suc n) g h e = rw (table_ext n g h e, e n)

-- also where they are equal below the list's length alone
pub table_below : {A : Type 0} (n : ℕ) (g h : ℕ → A) → ((k : ℕ) → k < n → g k ≡ h k) → table n g ≡ table n h
unfolding table
table_below zero g h e = refl
table_below (suc n) g h e = rw (table_below n g h (λ k k<. e k (omega arith)), e n (omega arith))

module _ {A : Type 0} (d : A) where
  pub table_at : (n : ℕ) (g : ℕ → A) (k : ℕ) → k < n → get_or (table n g) k d ≡ g k
  unfolding table
  table_at zero g k h = absurd (omega arith)
  table_at (suc n) g k h =
      ⊎_elim
      (λ (e : k ≡ n). subst (λ (i : ℕ). get_or (table n g ++ (g n ∷ [])) i d ≡ g i) (sym e) (get_or_at (table n g) (g n) [] d n (length_table n g)))
      (λ (l : k < n). get_or-append (table n g) (g n ∷ []) d k (omega (arith, length_table n g)) ∙ table_at n g k l)
      (eq-or-lt_of_le (omega arith))

  -- a list with the right length and the right elements is the table
  pub is_table : (n : ℕ) (g : ℕ → A) (l : List A) → length l ≡ n → ((k : ℕ) → k < n → get_or l k d ≡ g k) → l ≡ table n g
  is_table n g l e h =
      ext_get_or d l (table n g) (e ∙ sym (length_table n g))
      (λ k k<. let k<n : k < n = omega arith in h k k<n ∙ sym (table_at n g k k<n))

  -- a list that is filled place by place: one more
  pub one_filled : (g : ℕ → A) (l : List A) (i : ℕ) (v : A) → i < length l → ((t : ℕ) → t < i → get_or l t d ≡ g t) → v ≡ g i
      → (t : ℕ) → t < i + 1 → get_or (set l i v) t d ≡ g t
  one_filled g l i v h all e =
      below_more (λ (t : ℕ). get_or (set l i v) t d ≡ g t) i
      (λ t t<. get_or-set_other l i t v d (λ c. omega arith) ∙ all t t<)
      (get_or-set_same l i v d h ∙ e)
