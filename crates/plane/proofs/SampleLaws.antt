-- When a visible sample is too large for a depth, told from the bits that samples have together; and what samples keep to where none is. All
-- of it is over the depth, so that it serves both words. Assumes nothing.
use mathlib.Core.Bool.{Bool, true, false, not, ◌||◌, cond}
use mathlib.Core.List.{List, []}
use mathlib.Core.Path.{◌≡◌, refl, sym, ap, ◌∙◌}
use Prim.Native.Nat.{ℕ, ◌+◌, ◌-◌, ◌*◌, ◌/◌, ◌≤◌, ◌<◌, ◌^◌}
use native.Mathlib.Decide.{dec_lt}
use native.Mathlib.Nat.{div-eq_of_lt, le-div_iff_mul-le}
use native.Mathlib.Omega.{arith}
use borrow.Author.Tests.{lt-leb, le-leb, leb-false, eqb-true, eqb-false, ne_eqb, not-false}
use lib.Bits.{bit_or, or_lt, or_comm, or_add_and, and_le_r}
use lib.Dec.{leb, eqb}
use lib.ListN.{length, get_or, take, drop, length-take}
use lib.Seq.{get_or-take, get_or-drop}
use Rattle.std.proofs.Math.ListN.{get_or-eq_default}
use lib.Pow.{pow_pos, pow_mono}
use Rattle.answer.specs.Answer.{gives, refused, answered, answer_of}
use Rattle.answer.specs.Refusal.{number_of, refusal, ◌or_else◌}
use Rattle.std.specs.Prelude.{Result, Ok, Err}
use Rattle.answer.specs.declared.Refusal.{Refusal}
use Rattle.answer.proofs.Laws.{or_no, or_none, or_given, or_later, passed}
use Rattle.sums.specs.Any.{any_below}
use Rattle.sums.specs.Needs.{byte_most}
use Rattle.sums.proofs.AnyLaws.{any_zero, any_more, any_none, any_ext, any_below_lem, any_at}
use Rattle.plane.specs.declared.Plane.{Plane}
use Rattle.plane.specs.Planes.{Word, byte, suits, sample_at, row_end, row_of, row_large, rows_large, word_fault, plane_fault, sizes_fault, too_large, sample_fault, shapes_fault, pair_fault}
use Rattle.plane.proofs.PlaneLaws.{Lies, length_row, row_at, sizes_alone}

-- ---- the bits that numbers have together

-- `|` reaches a power of two exactly where one of its sides does
pub reach_or : (n x y : ℕ) → leb (2 ^ n) (bit_or x y) ≡ leb (2 ^ n) x || leb (2 ^ n) y
reach_or n x y = go (dec_lt x (2 ^ n)) (dec_lt y (2 ^ n))
  where
    over : (x y : ℕ) → x ≤ bit_or x y
    over x y = omega (arith, or_add_and x y, and_le_r x y)

    go : Dec (x < 2 ^ n) → Dec (y < 2 ^ n) → leb (2 ^ n) (bit_or x y) ≡ leb (2 ^ n) x || leb (2 ^ n) y
    go (yes h) (yes k) = rw (lt-leb (2 ^ n) x h, lt-leb (2 ^ n) y k) (lt-leb (2 ^ n) (bit_or x y) (or_lt n x y h k))
    go (yes h) (no k) =
        let m : 2 ^ n ≤ bit_or x y = omega (arith, over y x, or_comm x y) in
        rw (lt-leb (2 ^ n) x h, le-leb (2 ^ n) y (omega arith)) (le-leb (2 ^ n) (bit_or x y) m)
    go (no h) k =
        let m : 2 ^ n ≤ bit_or x y = omega (arith, over x y) in rw (le-leb (2 ^ n) x (omega arith)) (le-leb (2 ^ n) (bit_or x y) m)

-- and a number does where a shift leaves something of it
pub reach_shift : (n x : ℕ) → not (eqb (x / 2 ^ n) 0) ≡ leb (2 ^ n) x
reach_shift n x = go (dec_lt x (2 ^ n))
  where
    go : Dec (x < 2 ^ n) → not (eqb (x / 2 ^ n) 0) ≡ leb (2 ^ n) x
    go (yes h) = rw (div-eq_of_lt h, lt-leb (2 ^ n) x h) refl
    go (no h) =
        let some : 1 ≤ x / 2 ^ n = (le-div_iff_mul-le (pow_pos n)).1 (omega arith) in
        rw (ne_eqb (x / 2 ^ n) 0 (λ e. omega arith), le-leb (2 ^ n) x (omega arith)) refl

-- no sample of so many bits does from there on
pub reach_past : (bits n x : ℕ) → bits ≤ n → x < 2 ^ bits → false ≡ leb (2 ^ n) x
reach_past bits n x h k = let far : 2 ^ bits ≤ 2 ^ n = pow_mono h in sym (lt-leb (2 ^ n) x (omega arith))

-- so many tests, one for each power of two: the bits reach those of which a test holds
abbrev pub Reach : ℕ → ℕ → (ℕ → ℕ → Bool) → Type 0
Reach bits i test = (n : ℕ) → leb (2 ^ n) bits ≡ any_below i (test n)

pub reach_none : (test : ℕ → ℕ → Bool) → Reach 0 0 test
reach_none test n = lt-leb (2 ^ n) 0 (pow_pos n) ∙ sym (any_zero (test n))

pub reach_to : (test : ℕ → ℕ → Bool) (bits i k : ℕ) → Reach bits i test → i ≡ k → Reach bits k test
reach_to test bits i k h e n = rw (← e) (h n)

-- one turn of a loop that gathers them, of samples as of rows
pub reach_more : (test : ℕ → ℕ → Bool) (bits i x : ℕ) → Reach bits i test → ((n : ℕ) → leb (2 ^ n) x ≡ test n i) → Reach (bit_or bits x) (i + 1) test
reach_more test bits i x h e n = reach_or n bits x ∙ rw (h n, e n) (sym (any_more i (test n)))

-- a turn that gathers two at a time, as of two rows side by side
pub reach_both : (test : ℕ → ℕ → Bool) (bits i x y : ℕ) → Reach bits i test → ((n : ℕ) → leb (2 ^ n) x || leb (2 ^ n) y ≡ test n i)
    → Reach (bit_or (bit_or bits x) y) (i + 1) test
reach_both test bits i x y h e n =
    reach_or n (bit_or bits x) y ∙ rw (reach_or n bits x, h n) (or_group (any_below i (test n)) (leb (2 ^ n) x) (leb (2 ^ n) y))
    ∙ ap (λ (b : Bool). any_below i (test n) || b) (e n) ∙ sym (any_more i (test n))
  where
    or_group : (a b c : Bool) → (a || b) || c ≡ a || (b || c)
    or_group true b c = refl
    or_group false b c = refl

-- ---- rows

-- whether sample x of a row of a plane reaches 2 to the n, and whether one of the row does
abbrev pub large_at : Plane → List ℕ → ℕ → ℕ → ℕ → Bool
large_at p s y n x = leb (2 ^ n) (sample_at p s y x)

abbrev pub large_in : Plane → List ℕ → ℕ → ℕ → Bool
large_in p s n y = any_below p.width (large_at p s y n)

-- rows that were taken out of their plane
pub row_large_lem : (p : Plane) (s : List ℕ) (y : ℕ) → Lies p (length s) → y < p.height → (n : ℕ) → row_large n p s y ≡ large_in p s n y
row_large_lem p s y l h n =
    rw (length_row p s y l h)
    (any_below_lem p.width (λ (x : ℕ). leb (2 ^ n) (get_or (row_of p s y) x 0)) (large_at p s y n) (λ x x<. ap (leb (2 ^ n)) (row_at p s y l h x x<)))

-- what no sample of a list is above, no sample of a row is, so none of rows reaches what lies above it
row_most : (m : ℕ) (p : Plane) (s : List ℕ) (y : ℕ) → ((i : ℕ) → get_or s i 0 ≤ m) → (x : ℕ) → get_or (row_of p s y) x 0 ≤ m
unfolding row_of
row_most m p s y l x = by_case (leb (row_end p y) (length s))
  where
    within : Dec (x < p.width) → get_or (take p.width (drop (p.origin + y * p.stride) s)) x 0 ≤ m
    within (yes h) = rw (get_or-take, get_or-drop) (l (p.origin + y * p.stride + x))
    within (no h) =
        let rest : length (take p.width (drop (p.origin + y * p.stride) s)) ≤ x = simp length-take (omega arith) in
        rw (get_or-eq_default (take p.width (drop (p.origin + y * p.stride) s)) 0 rest) (omega arith)

    by_case : (t : Bool) → get_or (cond t (take p.width (drop (p.origin + y * p.stride) s)) []) x 0 ≤ m
    by_case true = within (dec_lt x p.width)
    by_case false = omega arith

pub rows_past : (bits m depth : ℕ) (p : Plane) (s : List ℕ) (from to : ℕ) → bits ≤ depth → m < 2 ^ bits → ((i : ℕ) → get_or s i 0 ≤ m)
    → false ≡ rows_large depth p s from to
rows_past bits m depth p s from to h k l =
    sym (any_none (to - from) (λ (j : ℕ). row_large depth p s (from + j))
    (λ j. any_none (length (row_of p s (from + j))) (λ (x : ℕ). leb (2 ^ depth) (get_or (row_of p s (from + j)) x 0))
    (λ x. sym (reach_past bits depth _ h (omega (arith, row_most m p s (from + j) l x))))))

-- rows from one up to another, by the plane's samples
pub rows_are : (depth : ℕ) (p : Plane) (s : List ℕ) (from to : ℕ) → Lies p (length s) → to ≤ p.height
    → rows_large depth p s from to ≡ any_below (to - from) (λ (j : ℕ). large_in p s depth (from + j))
rows_are depth p s from to l h =
    any_below_lem (to - from) (λ (j : ℕ). row_large depth p s (from + j)) (λ (j : ℕ). large_in p s depth (from + j))
    (λ j j<. row_large_lem p s (from + j) l (omega arith) depth)

-- and all of them
pub all_rows : (depth : ℕ) (p : Plane) (s : List ℕ) → Lies p (length s) → rows_large depth p s 0 p.height ≡ too_large depth p s
unfolding too_large
all_rows depth p s l =
    let rows : p.height - 0 ≡ p.height = omega arith in
    rows_are depth p s 0 p.height l (omega arith)
    ∙ ap (λ (n : ℕ). any_below n (λ (j : ℕ). large_in p s depth (0 + j))) rows
    ∙ any_ext p.height (λ (j : ℕ). large_in p s depth (0 + j)) (large_in p s depth) (λ j. ap (large_in p s depth) (omega arith))

-- ---- samples where none is too large

pub sample_below : (depth : ℕ) (p : Plane) (s : List ℕ) → too_large depth p s ≡ false → (y x : ℕ) → y < p.height → x < p.width → sample_at p s y x < 2 ^ depth
unfolding too_large
sample_below depth p s e y x hy hx =
    leb-false (2 ^ depth) (sample_at p s y x)
    (any_at p.width x (large_at p s y depth) hx (any_at p.height y (large_in p s depth) hy e))

-- no byte is too large at its depth
pub bytes_pass : (depth : ℕ) (p : Plane) (s : List ℕ) → suits byte depth ≡ true → ((i : ℕ) → get_or s i 0 ≤ byte_most) → too_large depth p s ≡ false
unfolding too_large
bytes_pass depth p s e l =
    rw (eqb-true depth 8 e)
    (any_none p.height (large_in p s 8)
    (λ y. any_none p.width (large_at p s y 8) (λ x. lt-leb (2 ^ 8) (sample_at p s y x) (omega (arith, l (p.origin + y * p.stride + x))))))

-- ---- refusals: what a measure that is not refused has

module _ (word : Word) (depth : ℕ) where
  pub suited : word_fault word depth ≡ 0 → suits word depth ≡ true
  unfolding word_fault
  suited e = not-false _ (passed 4 (not (suits word depth)) e)

  pub by_shapes : (p : Plane) (n : ℕ) (q : Plane) (m : ℕ) → shapes_fault word depth p n q m ≡ 0 → (word_fault word depth ≡ 0) × (sizes_fault p n q m ≡ 0)
  unfolding shapes_fault
  by_shapes p n q m e = or_none (word_fault word depth) (sizes_fault p n q m) e

  -- a plane beside itself is refused as it is alone
  pub shapes_alone : (p : Plane) (n : ℕ) → shapes_fault word depth p n p n ≡ word_fault word depth or_else plane_fault p n
  unfolding shapes_fault
  shapes_alone p n = ap (λ (f : ℕ). word_fault word depth or_else f) (sizes_alone p n)

  module _ (p : Plane) (a : List ℕ) (q : Plane) (b : List ℕ) where
    by_pair : pair_fault word depth p a q b ≡ 0
        → (shapes_fault word depth p (length a) q (length b) ≡ 0) × (refusal 16 (too_large depth p a || too_large depth q b) ≡ 0)
    unfolding pair_fault
    by_pair e = or_none (shapes_fault word depth p (length a) q (length b)) (refusal 16 (too_large depth p a || too_large depth q b)) e

    -- two planes of one size ..
    pub measured : pair_fault word depth p a q b ≡ 0 → sizes_fault p (length a) q (length b) ≡ 0
    measured e = (by_shapes p (length a) q (length b) (by_pair e).0).1

    -- .. and no sample that is too large
    pub measured_below : pair_fault word depth p a q b ≡ 0 → (too_large depth p a ≡ false) × (too_large depth q b ≡ false)
    measured_below e = or_no (too_large depth p a) (too_large depth q b) (passed 15 (too_large depth p a || too_large depth q b) (by_pair e).1)

    -- shapes that are refused come first
    pub pair_refused : (r : ℕ) → r ≡ shapes_fault word depth p (length a) q (length b) → (r ≡ 0 → ⊥) → r ≡ pair_fault word depth p a q b
    unfolding pair_fault
    pair_refused r e h = or_given r _ _ e h

    -- where the shapes are not refused, the samples decide
    pub pair_fault_is : 0 ≡ shapes_fault word depth p (length a) q (length b) → refusal 16 (too_large depth p a || too_large depth q b) ≡ pair_fault word depth p a q b
    unfolding pair_fault
    pair_fault_is e = or_later _ _ _ e refl

  -- where the shape is not refused, a plane's refusal is that of its samples
  pub sample_fault_is : (p : Plane) (s : List ℕ) → word_fault word depth ≡ 0 → plane_fault p (length s) ≡ 0 → (r : ℕ) → r ≡ sample_fault word depth p s → r ≡ refusal 16 (too_large depth p s)
  unfolding sample_fault
  sample_fault_is p s e f r d = d ∙ sym (or_later _ _ _ (sym e) (or_later _ _ _ (sym f) refl))

-- an answer of what has looked at the samples alone: a number, where none is too large, or 16
module _ (test : Bool) (value : ℕ) (r : Result ℕ Refusal) (e : answer_of r ≡ answered (refusal 16 test) value) where
  pub number_given : (n : ℕ) → r ≡ Ok n → (0 ≡ refusal 16 test) × (n ≡ value)
  unfolding answered
  number_given n d = by_case test (sym (ap answer_of d) ∙ e)
    where
      by_case : (t : Bool) → gives n ≡ cond (eqb (refusal 16 t) 0) (gives value) (refused (refusal 16 t)) → (0 ≡ refusal 16 t) × (n ≡ value)
      by_case true q = let z : ◌≡◌ {A = ℕ} 0 1 = cc in absurd (omega arith)
      by_case false q = (refl, cc)

  pub refused_given : (f : Refusal) → r ≡ Err f → number_of f ≡ refusal 16 test
  unfolding answered
  refused_given f d = by_case test (sym (ap answer_of d) ∙ e)
    where
      by_case : (t : Bool) → refused (number_of f) ≡ cond (eqb (refusal 16 t) 0) (gives value) (refused (refusal 16 t)) → number_of f ≡ refusal 16 t
      by_case true q = cc
      by_case false q = let z : ◌≡◌ {A = ℕ} 0 1 = cc in absurd (omega arith)

-- with bytes the samples decide nothing: what is refused before 16 is all that is refused
pub bytes_refused : (depth : ℕ) (p : Plane) (a : List ℕ) (q : Plane) (b : List ℕ)
    → ((i : ℕ) → get_or a i 0 ≤ byte_most) → ((i : ℕ) → get_or b i 0 ≤ byte_most)
    → (r f : ℕ) → r ≡ f → (f ≡ 0 → suits byte depth ≡ true) → r ≡ f or_else refusal 16 (too_large depth p a || too_large depth q b)
bytes_refused depth p a q b l m r f e depth_is = go (eqb r 0) (eqb-true r 0) (eqb-false r 0)
  where
    go : (t : Bool) → (t ≡ true → r ≡ 0) → (t ≡ false → r ≡ 0 → ⊥) → r ≡ f or_else refusal 16 (too_large depth p a || too_large depth q b)
    go true is isn't =
        let none = sym (is refl) ∙ e in
        let s = depth_is (sym none) in
        or_later r _ _ none (rw (bytes_pass depth p a s l, bytes_pass depth q b s m) (is refl))
    go false is isn't = or_given r _ _ e (isn't refl)

-- two planes that are not refused together are not refused alone
pub each_passes : (p : Plane) (n : ℕ) (q : Plane) (m : ℕ) → sizes_fault p n q m ≡ 0 → (plane_fault p n ≡ 0) × (plane_fault q m ≡ 0)
unfolding sizes_fault
each_passes p n q m e =
    let first = or_none (plane_fault p n) _ e in
    (first.0, (or_none (plane_fault q m) _ first.1).0)
