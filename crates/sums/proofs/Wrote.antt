-- A loop that writes a list place by place, row by row or block by block: what the list holds after each turn. Every loop that
-- writes samples or costs is one of these, and every one that writes each sum once; none of the laws speaks of a sample's width.
-- Assumes nothing.
use Rattle.std.proofs.Common.{◌≡◌, ℕ, ◌+◌, ◌-◌, ◌<◌, ◌≤◌, min, Bool, false, cond, ◌||◌, eqb, ltb, List, [], ◌++◌, length, get_or, take, drop, set, ap, ◌∙◌, subst, append-nil, arith, length-append, length-drop, drop_of_length-le, length-take-le, get_or-drop, take_all, get_or-take, get_or-append-add, le-ltb, lt-ltb, le-leb}
use native.Mathlib.Decide.{dec_lt}
use borrow.Author.Tests.{lt-leb}
use borrow.Rule.Slice.PartMut.{put_mid}
use lib.ListN.{get_or-append}
use Rattle.sums.specs.Written.{written, copied}
use Rattle.sums.proofs.WrittenLaws.{length_written, written_at, is_written, written_none, written_ext, written_again, written_more, prefix_none, prefix_more}
use Rattle.sums.specs.Places.{in_run}

-- ---- a part from place i on, lent and written at its first n places

module _ (i n : ℕ) (h g : ℕ → ℕ) (s : List ℕ) (room : i + n ≤ length s) (same : (k : ℕ) → k < n → h k ≡ g (i + k)) where
  part : List ℕ
  part = take (length s - i) (drop i s)

  back : List ℕ
  unfolding part
  back = take i s ++ written (λ (k : ℕ). ltb k n) h part

  part_all : part ≡ drop i s
  unfolding part
  part_all = take_all (length s - i) (drop i s) (omega (arith, length-drop i s))

  front : length (take i s) ≡ i
  front = length-take-le i s (omega arith)

  length_back : length back ≡ length s
  unfolding back
  length_back =
      length-append (take i s) (written (λ (k : ℕ). ltb k n) h part)
      ∙ omega (arith, front, length_written (λ (k : ℕ). ltb k n) h part, ap length part_all, length-drop i s)

  -- before place i, from it on, and behind the n places
  at_place : (k : ℕ) → k < length s → Dec (k < i) → Dec (k < i + n) → get_or back k 0 ≡ cond (in_run i n k) (g k) (get_or s k 0)
  unfolding back
  at_place k k< (yes l) d =
      rw (lt-leb i k l)
      (get_or-append (take i s) (written (λ (k : ℕ). ltb k n) h part) 0 k (omega (arith, front)) ∙ get_or-take i s k 0 l)
  at_place k k< (no m) d =
      let e : i + (k - i) ≡ k = omega arith in
      let long : k - i < length part = omega (arith, ap length part_all, length-drop i s) in
      let inner : get_or back (i + (k - i)) 0 ≡ cond (ltb (k - i) n) (h (k - i)) (get_or part (k - i) 0) =
      subst (λ (j : ℕ). get_or back (j + (k - i)) 0 ≡ cond (ltb (k - i) n) (h (k - i)) (get_or part (k - i) 0)) front
      (get_or-append-add (take i s) (written (λ (k : ℕ). ltb k n) h part) (k - i) 0 ∙ written_at (λ (k : ℕ). ltb k n) h part (k - i) long) in
      let old : get_or part (k - i) 0 ≡ get_or s (i + (k - i)) 0 = ap (λ (t : List ℕ). get_or t (k - i) 0) part_all ∙ get_or-drop i s (k - i) 0 in
      subst (λ (j : ℕ). get_or back j 0 ≡ cond (in_run i n j) (g j) (get_or s j 0)) e (inner ∙ by_test (k - i) old d')
    where
      d' : Dec (k - i < n)
      d' = dec_lt (k - i) n

      by_test : (j : ℕ) → get_or part j 0 ≡ get_or s (i + j) 0 → Dec (j < n) → cond (ltb j n) (h j) (get_or part j 0) ≡ cond (in_run i n (i + j)) (g (i + j)) (get_or s (i + j) 0)
      by_test j old (yes l) = rw (lt-ltb j n l, le-leb i (i + j) (omega arith), lt-ltb (i + j) (i + n) (omega arith)) (same j l)
      by_test j old (no l) = rw (le-ltb j n (omega arith), le-leb i (i + j) (omega arith), le-ltb (i + j) (i + n) (omega arith)) old

  -- put back, it leaves the list written at those places
  pub put_back : (t : List ℕ) → t ≡ written (λ (k : ℕ). ltb k n) h (take (length s - i) (drop i s)) → put_mid i (length s - i) s t ≡ written (in_run i n) g s
  unfolding back part
  put_back t e =
      let rest : drop (length s - i) (drop i s) ≡ [] = drop_of_length-le (drop i s) {i = length s - i} (omega (arith, length-drop i s)) in
      rw (e, rest, append-nil) (is_written (in_run i n) g s back length_back (λ k k<. at_place k k< (dec_lt k i) (dec_lt k (i + n))))

-- ---- what a loop has written so far

-- l is s with g k at each place k of which the test holds
pub record Wrote (test : ℕ → Bool) (g : ℕ → ℕ) (s l : List ℕ) : Type 0 where
  pub same : length l ≡ length s
  pub is : l ≡ written test g s

wrote : (test : ℕ → Bool) (g : ℕ → ℕ) (s l : List ℕ) → l ≡ written test g s → Wrote test g s l
wrote test g s l e = record { same = ap length e ∙ length_written test g s; is = e }

pub wrote_none : (test : ℕ → Bool) (g : ℕ → ℕ) (s : List ℕ) → ((k : ℕ) → test k ≡ false) → Wrote test g s s
wrote_none test g s e = wrote test g s s (written_none test g s e)

-- the end of a loop whose test has the number of turns in it
pub wrote_all : (test : ℕ → ℕ → Bool) {g : ℕ → ℕ} {s l : List ℕ} (m n : ℕ) → Wrote (test m) g s l → m ≡ n → l ≡ written (test n) g s
wrote_all test {g} {s} m n w e = w.is ∙ ap (λ (i : ℕ). written (test i) g s) e

module _ {test next : ℕ → Bool} {g : ℕ → ℕ} {s l : List ℕ} (w : Wrote test g s l) where
  -- a further place
  pub wrote_one : (i v : ℕ) → i < length s → v ≡ g i → ((k : ℕ) → test k || eqb k i ≡ next k) → Wrote next g s (set l i v)
  wrote_one i v h e t =
      wrote next g s (set l i v) (rw (w.is, e) (written_more test next i g s h t))

  -- further places at once, as a callee leaves them
  pub wrote_more : (also : ℕ → Bool) (m : List ℕ) → m ≡ written also g l → ((k : ℕ) → test k || also k ≡ next k) → Wrote next g s m
  wrote_more also m e t =
      wrote next g s m
      (e ∙ ap (written also g) w.is ∙ written_again test also g s ∙ written_ext (λ (k : ℕ). test k || also k) next g s t)

  -- further places through a part from place i on, whose first n places a callee writes
  pub wrote_part : (i n : ℕ) (h : ℕ → ℕ) → i + n ≤ length s → ((k : ℕ) → k < n → h k ≡ g (i + k))
      → (t : List ℕ) → t ≡ written (λ (k : ℕ). ltb k n) h (take (length l - i) (drop i l))
      → ((k : ℕ) → test k || in_run i n k ≡ next k) → Wrote next g s (put_mid i (length l - i) l t)
  wrote_part i n h room same t e more =
      wrote_more (in_run i n) (put_mid i (length l - i) l t) (put_back i n h g l (omega (arith, w.same)) same t e) more

-- ---- a list that is written from its front on
pub front_none : (g : ℕ → ℕ) (s : List ℕ) → Wrote (λ (k : ℕ). ltb k 0) g s s
front_none g s = wrote (λ (k : ℕ). ltb k 0) g s s (prefix_none g s)

pub front_more : {g : ℕ → ℕ} {s l : List ℕ} {i : ℕ} → Wrote (λ (k : ℕ). ltb k i) g s l → (v : ℕ) → i < length s → v ≡ g i → Wrote (λ (k : ℕ). ltb k (i + 1)) g s (set l i v)
front_more {g} {s} {l} {i} w v h e = wrote (λ (k : ℕ). ltb k (i + 1)) g s (set l i v) (rw (w.is, e) (prefix_more i g s h))

-- what is not written yet is as it was
pub front_old : {g : ℕ → ℕ} {s l : List ℕ} {i : ℕ} → Wrote (λ (k : ℕ). ltb k i) g s l → (k : ℕ) → i ≤ k → k < length s → get_or l k 0 ≡ get_or s k 0
front_old {g} {s} {l} {i} w k h k< = rw w.is (written_at (λ (k : ℕ). ltb k i) g s k k< ∙ rw (le-ltb k i h))

-- ---- a copy: the n places that two lists both have
module _ (from to : List ℕ) (n : ℕ) (e : n ≡ min (length to) (length from)) where
  -- a place of the second list is one of these where the first has it
  both_have : (k : ℕ) → k < length to → Dec (k < n) → ltb k n ≡ ltb k (length from)
  both_have k h (yes l) = rw (lt-ltb k n l, lt-ltb k (length from) (omega (arith, e)))
  both_have k h (no m) = rw (le-ltb k n (omega arith), le-ltb k (length from) (omega (arith, e)))

  -- the end of the loop
  pub copy_done : (k : ℕ) (l : List ℕ) → Wrote (λ (i : ℕ). ltb i k) (λ (i : ℕ). get_or from i 0) to l → k ≡ n → l ≡ copied from to
  copy_done k l w d =
      let g : ℕ → ℕ = λ (i : ℕ). get_or from i 0 in
      wrote_all (λ (m i : ℕ). ltb i m) k n w d
      ∙ is_written (λ (i : ℕ). ltb i (length from)) g to (written (λ (i : ℕ). ltb i n) g to) (length_written (λ (i : ℕ). ltb i n) g to)
      (λ i h. written_at (λ (i : ℕ). ltb i n) g to i h ∙ ap (λ (b : Bool). cond b (g i) (get_or to i 0)) (both_have i h (dec_lt i n)))
