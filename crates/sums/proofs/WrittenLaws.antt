-- The laws of `written`: nothing written, one place more, and one writing after another. Assumes nothing.
use Rattle.std.proofs.Common.{◌≡◌, ℕ, ◌+◌, ◌<◌, Bool, true, false, cond, ◌||◌, eqb, ltb, List, length, get_or, set, sym, refl, ap, ◌∙◌, subst, arith, length-set, get_or-set_other, get_or-set_same, le-ltb, lt-ltb, eq-eqb, ne_eqb}
use native.Mathlib.Decide.{dec_lt, ℕ_discrete}
use Rattle.sums.specs.Table.{table}
use Rattle.sums.specs.Written.{written}
use Rattle.sums.proofs.TableLaws.{length_table, table_at, is_table}

module _ (test : ℕ → Bool) (g : ℕ → ℕ) (s : List ℕ) where
  pub length_written : length (written test g s) ≡ length s
  unfolding written
  length_written = length_table (length s) (λ (k : ℕ). cond (test k) (g k) (get_or s k 0))

  pub written_at : (k : ℕ) → k < length s → get_or (written test g s) k 0 ≡ cond (test k) (g k) (get_or s k 0)
  unfolding written
  written_at k h = table_at 0 (length s) (λ (k : ℕ). cond (test k) (g k) (get_or s k 0)) k h

  -- a list of that length with those elements
  pub is_written : (l : List ℕ) → length l ≡ length s → ((k : ℕ) → k < length s → get_or l k 0 ≡ cond (test k) (g k) (get_or s k 0)) → l ≡ written test g s
  unfolding written
  is_written l e h = is_table 0 (length s) (λ (k : ℕ). cond (test k) (g k) (get_or s k 0)) l e h

-- nothing is written
pub written_none : (test : ℕ → Bool) (g : ℕ → ℕ) (s : List ℕ) → ((k : ℕ) → test k ≡ false) → s ≡ written test g s
written_none test g s e = is_written test g s s refl (λ k h. rw (e k))

-- equal tests write the same
pub written_ext : (test other : ℕ → Bool) (g : ℕ → ℕ) (s : List ℕ) → ((k : ℕ) → test k ≡ other k) → written test g s ≡ written other g s
written_ext test other g s e =
    is_written other g s (written test g s) (length_written test g s) (λ k h. written_at test g s k h ∙ rw (e k))

-- only what is written where the test holds counts
pub written_value : (test : ℕ → Bool) (g h : ℕ → ℕ) (s : List ℕ) → ((k : ℕ) → test k ≡ true → g k ≡ h k) → written test g s ≡ written test h s
written_value test g h s e =
    is_written test h s (written test g s) (length_written test g s) (λ k l. written_at test g s k l ∙ by_test (g k) (h k) (get_or s k 0) (test k) (e k))
  where
    by_test : (v w o : ℕ) (b : Bool) → (b ≡ true → v ≡ w) → cond b v o ≡ cond b w o
    by_test v w o true d = d refl
    by_test v w o false d = refl

-- one writing after another
both : (a b : Bool) (v w : ℕ) → cond b v (cond a v w) ≡ cond (a || b) v w
both true true v w = refl
both true false v w = refl
both false b v w = refl

pub written_again : (first second : ℕ → Bool) (g : ℕ → ℕ) (s : List ℕ) → written second g (written first g s) ≡ written (λ (k : ℕ). first k || second k) g s
written_again first second g s =
    is_written (λ (k : ℕ). first k || second k) g s (written second g (written first g s))
    (length_written second g (written first g s) ∙ length_written first g s)
    (λ k h.
    written_at second g (written first g s) k (subst (λ (n : ℕ). k < n) (sym (length_written first g s)) h)
    ∙ ap (λ (v : ℕ). cond (second k) (g k) v) (written_at first g s k h)
    ∙ both (first k) (second k) (g k) (get_or s k 0))

-- a store
written_set : (i : ℕ) (g : ℕ → ℕ) (s : List ℕ) → i < length s → set s i (g i) ≡ written (λ (k : ℕ). eqb k i) g s
written_set i g s h = is_written (λ (k : ℕ). eqb k i) g s (set s i (g i)) (length-set s i (g i)) (λ k _. at_place k (ℕ_discrete k i))
  where
    at_place : (k : ℕ) → Dec (k ≡ i) → get_or (set s i (g i)) k 0 ≡ cond (eqb k i) (g k) (get_or s k 0)
    at_place k (yes e) = rw (eq-eqb k i e) (subst (λ (j : ℕ). get_or (set s i (g i)) j 0 ≡ g j) (sym e) (get_or-set_same s i (g i) 0 h))
    at_place k (no n) = rw (ne_eqb k i n) (get_or-set_other s i k (g i) 0 n)

-- one place more
pub written_more : (test next : ℕ → Bool) (i : ℕ) (g : ℕ → ℕ) (s : List ℕ) → i < length s → ((k : ℕ) → test k || eqb k i ≡ next k) → set (written test g s) i (g i) ≡ written next g s
written_more test next i g s h e =
    written_set i g (written test g s) (subst (λ (n : ℕ). i < n) (sym (length_written test g s)) h)
    ∙ written_again test (λ (k : ℕ). eqb k i) g s
    ∙ written_ext (λ (k : ℕ). test k || eqb k i) next g s e

-- ---- a list that is written from its front on

pub prefix_none : (g : ℕ → ℕ) (s : List ℕ) → s ≡ written (λ (k : ℕ). ltb k 0) g s
prefix_none g s = written_none (λ (k : ℕ). ltb k 0) g s (λ k. le-ltb k 0 (omega arith))

next_below : (i k : ℕ) → ltb k i || eqb k i ≡ ltb k (i + 1)
next_below i k = go (dec_lt k i) (ℕ_discrete k i)
  where
    go : Dec (k < i) → Dec (k ≡ i) → ltb k i || eqb k i ≡ ltb k (i + 1)
    go (yes l) d = rw (lt-ltb k i l, lt-ltb k (i + 1) (omega arith))
    go (no m) (yes e) = rw (le-ltb k i (omega arith), eq-eqb k i e, lt-ltb k (i + 1) (omega arith))
    go (no m) (no n) = rw (le-ltb k i (omega arith), ne_eqb k i n, le-ltb k (i + 1) (omega arith))

pub prefix_more : (i : ℕ) (g : ℕ → ℕ) (s : List ℕ) → i < length s → set (written (λ (k : ℕ). ltb k i) g s) i (g i) ≡ written (λ (k : ℕ). ltb k (i + 1)) g s
prefix_more i g s h = written_more (λ (k : ℕ). ltb k i) (λ (k : ℕ). ltb k (i + 1)) i g s h (next_below i)

pub prefix_all : (n : ℕ) (g : ℕ → ℕ) (s : List ℕ) → length s ≡ n → written (λ (k : ℕ). ltb k n) g s ≡ table n g
prefix_all n g s e =
    is_table 0 n g (written (λ (k : ℕ). ltb k n) g s) (length_written (λ (k : ℕ). ltb k n) g s ∙ e)
    (λ k h. written_at (λ (k : ℕ). ltb k n) g s k (omega arith) ∙ rw (lt-ltb k n h))
