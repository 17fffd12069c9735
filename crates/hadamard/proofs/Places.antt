-- What the stores of a line, and of all lines, leave at each place, for any size and any step. Assumes nothing.
use mathlib.Core.Path.{◌≡◌, refl, sym, ap, subst, ◌∙◌}
use mathlib.Core.Logic.{⊎_elim}
use mathlib.Core.List.{List}
use Prim.Native.Nat.{ℕ, zero, suc, ◌+◌, ◌*◌, ◌≤◌, ◌<◌}
use native.Mathlib.Nat.{mul-le-mul_right, eq-or-lt_of_le}
use native.Mathlib.Numerals.{add-one}
use native.Mathlib.Omega.{arith}
use lib.ListN.{length, get_or, set, length-set}
use lib.Seq.{get_or-set_same, get_or-set_other}
use lib.IntN.{ℤ, pos}
use Rattle.hadamard.specs.Steps.{line_entry, stores, lined_by, all_lined_by, LineIn, LinesIn}

pub at_place : (x : List ℤ) (s t : ℕ) → s ≡ t → get_or x s (pos 0) ≡ get_or x t (pos 0)
at_place x s t e = ap (λ (i : ℕ). get_or x i (pos 0)) e

-- ---- one line
module _ (at step : ℕ) (g : ℕ → ℤ) where
  pub length_stores : (n : ℕ) (l : List ℤ) → length (stores n at step g l) ≡ length l
  unfolding stores
  length_stores zero l = refl
  length_stores (suc n) l = length-set (stores n at step g l) (at + n * step) (g n) ∙ length_stores n l

  pub stores_other : (n : ℕ) (l : List ℤ) (t : ℕ) → ((k : ℕ) → k < n → t ≡ at + k * step → ⊥) → get_or (stores n at step g l) t (pos 0) ≡ get_or l t (pos 0)
  unfolding stores
  stores_other zero l t h = refl
  stores_other (suc n) l t h =
      get_or-set_other (stores n at step g l) (at + n * step) t (g n) (pos 0) (h n (omega arith))
      ∙ stores_other n l t (λ k k<. h k (omega arith))

  pub stores_at : 0 < step → (n : ℕ) (l : List ℤ) (k : ℕ) → k < n → at + k * step < length l → get_or (stores n at step g l) (at + k * step) (pos 0) ≡ g k
  unfolding stores
  stores_at s zero l k k< b = absurd (omega arith)
  stores_at s (suc n) l k k< b =
      ⊎_elim
      (λ (e : k ≡ n). subst (λ (i : ℕ). get_or (set (stores n at step g l) (at + n * step) (g n)) (at + i * step) (pos 0) ≡ g i) (sym e)
      (get_or-set_same (stores n at step g l) (at + n * step) (g n) (pos 0) (subst (λ (i : ℕ). at + i * step < length (stores n at step g l)) e (omega (arith, length_stores n l)))))
      (λ (l< : k < n).
      get_or-set_other (stores n at step g l) (at + n * step) (at + k * step) (g n) (pos 0) (λ e. omega (arith, mul-le-mul_right step l<))
      ∙ stores_at s n l k l< b)
      (eq-or-lt_of_le (omega arith))

  -- equal numbers leave equal lists
  pub stores_ext : (n : ℕ) (f : ℕ → ℤ) (l : List ℤ) → ((k : ℕ) → k < n → g k ≡ f k) → stores n at step g l ≡ stores n at step f l
  unfolding stores
  stores_ext zero f l e = refl
  stores_ext (suc n) f l e = rw (stores_ext n f l (λ k h. e k (omega arith)), e n (omega arith))

-- ---- all lines, with any t done to each
module _ (t : (ℕ → ℤ) → ℕ → ℤ) (n first step : ℕ) where
  pub none_lined : (l : List ℤ) → l ≡ all_lined_by t n first step 0 l
  unfolding all_lined_by
  none_lined l = refl

  pub more_lined : (m : ℕ) (l : List ℤ) → lined_by t n (m * first) step (all_lined_by t n first step m l) ≡ all_lined_by t n first step (m + 1) l
  unfolding all_lined_by
  more_lined m l = rw add-one

  pub length_lined : (m : ℕ) (l : List ℤ) → length (all_lined_by t n first step m l) ≡ length l
  unfolding all_lined_by
  length_lined zero l = refl
  length_lined (suc m) l =
      length_stores (m * first) step (t (line_entry (all_lined_by t n first step m l) (m * first) step)) n (all_lined_by t n first step m l)
      ∙ length_lined m l

  -- a place on none of them is as it was
  pub lined_other : (m : ℕ) (l : List ℤ) (s : ℕ) → ((a k : ℕ) → a < m → k < n → s ≡ a * first + k * step → ⊥)
      → get_or (all_lined_by t n first step m l) s (pos 0) ≡ get_or l s (pos 0)
  unfolding all_lined_by
  lined_other zero l s h = refl
  lined_other (suc m) l s h =
      stores_other (m * first) step (t (line_entry (all_lined_by t n first step m l) (m * first) step)) n (all_lined_by t n first step m l) s
      (λ k k< e. h m k (omega arith) k< e)
      ∙ lined_other m l s (λ a k a< k<. h a k (omega arith) k<)

  module _ (c q : ℕ) (l : List ℤ) (p : LinesIn n c first step q l) where
    -- the lines to come are as they were
    lined_left : (m a k : ℕ) → m ≤ a → a < c → k < n → line_entry (all_lined_by t n first step m l) (a * first) step k ≡ line_entry l (a * first) step k
    lined_left m a k h a< k< =
        lined_other m l (a * first + k * step) (λ b i b< i< e. let s = p.own a b k i a< (omega arith) k< i< e in omega arith)

    -- so that the next of them still lies in the list, with entries as small as they were
    pub next_line : (i : ℕ) → i < c → LineIn n (i * first) step q (all_lined_by t n first step i l)
    next_line i i< =
        record { room = λ j j<. omega (arith, p.room i j i< j<, length_lined i l); most = λ j j<. rw (lined_left i i j (omega arith) i< j<) (p.most i j i< j<) }

    -- it was done to those passed, if it looks at the line's own entries alone
    pub lined_done : ((f g : ℕ → ℤ) (k : ℕ) → ((j : ℕ) → j < n → f j ≡ g j) → t f k ≡ t g k)
        → (m a k : ℕ) → m ≤ c → a < m → k < n → line_entry (all_lined_by t n first step m l) (a * first) step k ≡ t (line_entry l (a * first) step) k
    unfolding all_lined_by
    lined_done ext zero a k m≤ h k< = absurd (omega arith)
    lined_done ext (suc m) a k m≤ h k< =
        let before : List ℤ = all_lined_by t n first step m l in
        ⊎_elim
        (λ (e : a ≡ m).
        subst (λ (b : ℕ). line_entry (lined_by t n (m * first) step before) (b * first) step k ≡ t (line_entry l (b * first) step) k) (sym e)
        (stores_at (m * first) step (t (line_entry before (m * first) step)) p.some n before k k<
        (omega (arith, p.room m k (omega arith) k<, length_lined m l))
        ∙ ext (line_entry before (m * first) step) (line_entry l (m * first) step) k
        (λ j j<. lined_left m m j (omega arith) (omega arith) j<)))
        (λ (l< : a < m).
        stores_other (m * first) step (t (line_entry before (m * first) step)) n before (a * first + k * step)
        (λ i i< e. let q = p.own a m k i (omega arith) (omega arith) k< i< e in omega arith)
        ∙ lined_done ext m a k (omega arith) l< k<)
        (eq-or-lt_of_le (omega arith))

-- of entries that are at most q in size, and so at most some larger number
pub lines_more : (n c first step q r : ℕ) (l : List ℤ) → q ≤ r → LinesIn n c first step q l → LinesIn n c first step r l
lines_more n c first step q r l h p = record { some = p.some; own = p.own; room = p.room; most = λ a i a< i<. omega (arith, p.most a i a< i<) }
