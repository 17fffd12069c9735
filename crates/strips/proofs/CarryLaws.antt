-- When a carry is unfit, and what one that is not keeps to. Assumes nothing.
use mathlib.Core.Bool.{Bool, true, false, not, ◌||◌, ◌&&◌}
use mathlib.Core.List.{List}
use mathlib.Core.Path.{◌≡◌, refl, sym, ap, ◌∙◌}
use Prim.Native.Nat.{ℕ, ◌-◌, ◌*◌, ◌/◌, ◌≤◌, ◌<◌, ◌^◌}
use native.Mathlib.Decide.{dec_lt}
use native.Mathlib.Nat.{mul_assoc, mul-zero, mul-le-mul}
use native.Mathlib.Omega.{arith}
use borrow.Author.Tests.{eq-eqb, ne_eqb, eqb-true, ltb-false, not-false}
use lib.Dec.{ltb, eqb}
use lib.ListN.{length}
use Rattle.answer.proofs.Laws.{or_no, passed, test_passed}
use Rattle.plane.specs.Blocks.{block_side}
use Rattle.plane.specs.Planes.{Word, byte, deep, suits, bad_side, max_side, depth_fault, word_fault}
use Rattle.plane.proofs.PlaneLaws.{good_side, total_fits}
use Rattle.plane.proofs.SampleLaws.{suited}
use Rattle.answer.specs.Answer.{gives, answered}
use Rattle.answer.proofs.Laws.{given_by}
use Rattle.strips.specs.declared.carry.Carry.{Carry}
use Rattle.strips.specs.Carry.{carry_long, carry_of, blocks_along, blocks_in, totals_most, totals_past, carry_unfit, is_carry, carry_fault}
use Rattle.strips.specs.Needs.{Sound}

-- ---- the totals

-- whether either is above a limit
abbrev pub above : Carry → ℕ → Bool
above c limit = ltb limit c.difference || ltb limit c.importance

-- the three depths
pub eight : depth_fault 8 ≡ 0
unfolding depth_fault
eight = refl

pub ten : depth_fault 10 ≡ 0
unfolding depth_fault
ten = refl

pub twelve : depth_fault 12 ≡ 0
unfolding depth_fault
twelve = refl

-- at each depth its own largest sample counts, and at none none
pub past_at : (c : Carry) (depth most : ℕ) → c.depth ≡ depth → depth_fault depth ≡ 0 → 2 ^ depth - 1 ≡ most
    → above c (c.rows * c.width * most) ≡ totals_past c
unfolding totals_past
past_at c depth most e s m = rw (e, s, m) refl

pub past_none : (c : Carry) → (c.depth ≡ 8 → ⊥) → (c.depth ≡ 10 → ⊥) → (c.depth ≡ 12 → ⊥) → false ≡ totals_past c
unfolding totals_past depth_fault
past_none c e f g = rw (ne_eqb c.depth 8 e, ne_eqb c.depth 10 f, ne_eqb c.depth 12 g) refl

-- they are small: no product overflows
pub area_most : (c : Carry) → (c.rows ≤ max_side) × (c.width ≤ max_side) → c.rows * c.width ≤ max_side * max_side
area_most c h = mul-le-mul h.0 h.1

-- ---- a carry that is not unfit

pub unfit_by : (c : Carry) → bad_side c.width || bad_side c.height || ltb c.height c.rows ≡ true → true ≡ carry_unfit c
unfolding carry_unfit
unfit_by c e = rw e refl

pub unfit_is : (c : Carry) → bad_side c.width || bad_side c.height || ltb c.height c.rows ≡ false → totals_past c ≡ carry_unfit c
unfolding carry_unfit
unfit_is c e = rw e refl

-- what it keeps to
pub record Fit (c : Carry) : Type 0 where
  pub width_some : 0 < c.width
  pub width_most : c.width ≤ max_side
  pub height_some : 0 < c.height
  pub height_most : c.height ≤ max_side
  pub come : c.rows ≤ c.height
  pub totals : totals_past c ≡ false

abbrev sides_past : Carry → Bool
sides_past c = bad_side c.width || bad_side c.height || ltb c.height c.rows

pub sides_fit : (c : Carry) → sides_past c ≡ false → ((0 < c.width) × (c.width ≤ max_side)) × ((0 < c.height) × (c.height ≤ max_side)) × (c.rows ≤ c.height)
sides_fit c e =
    let t = or_no (bad_side c.width || bad_side c.height) (ltb c.height c.rows) e in
    let u = or_no (bad_side c.width) (bad_side c.height) t.0 in
    (good_side c.width u.0, good_side c.height u.1, ltb-false c.height c.rows t.1)

pub fit : (c : Carry) → carry_unfit c ≡ false → Fit c
unfolding carry_unfit
fit c e =
    let t = or_no (sides_past c) (totals_past c) e in
    let s = sides_fit c t.0 in
    record { width_some = s.0.0; width_most = s.0.1; height_some = s.1.0; height_most = s.1.1; come = s.2; totals = t.1 }

-- a depth that suits a word is one of the three
pub one_of_three : (word : Word) (depth : ℕ) → suits word depth ≡ true → suits byte depth || suits deep depth ≡ true
one_of_three byte depth s = rw s refl
one_of_three deep depth s = either (suits byte depth) (suits deep depth) s
  where
    either : (a b : Bool) → b ≡ true → a || b ≡ true
    either true b t = refl
    either false b t = t

pub word_depth : (word : Word) (depth : ℕ) → word_fault word depth ≡ 0 → 0 ≡ depth_fault depth
unfolding depth_fault
word_depth word depth e = test_passed 5 _ (ap not (one_of_three word depth (suited word depth e)))

-- and its totals are within their limit; with a whole block, there is one in each row of blocks
pub sound : (word : Word) (c : Carry) → carry_unfit c ≡ false → word_fault word c.depth ≡ 0 → 0 < blocks_in c → Sound word c
unfolding totals_past
sound word c e d some =
    let f = fit c e in
    let t = or_no (ltb (totals_most c) c.difference) (ltb (totals_most c) c.importance)
    (limited (eqb (depth_fault c.depth) 0) (above c (totals_most c)) (eq-eqb (depth_fault c.depth) 0 (sym (word_depth word c.depth d))) f.totals) in
    record {
      depth_fits = d;
      width_some = f.width_some;
      width_most = f.width_most;
      height_some = f.height_some;
      height_most = f.height_most;
      come = f.come;
      difference = ltb-false (totals_most c) c.difference t.0;
      importance = ltb-false (totals_most c) c.importance t.1;
      blocks_some = go (dec_lt 0 (blocks_along c));
    }
  where
    limited : (a t : Bool) → a ≡ true → a && t ≡ false → t ≡ false
    limited a t h e = rw h at e

    go : Dec (0 < blocks_along c) → 0 < blocks_along c
    go (yes h) = h
    go (no h) =
        let none : blocks_along c ≡ 0 = omega arith in
        absurd (omega (arith, ap (λ (n : ℕ). c.height / block_side * n) none, mul-zero (c.height / block_side)))

-- ---- 11 over lent places

module _ (ns : List ℕ) where
  pub another_length : (length ns ≡ carry_long → ⊥) → 11 ≡ carry_fault ns
  unfolding carry_fault
  another_length h = rw (ne_eqb (length ns) carry_long h) refl

  pub unfit_refused : length ns ≡ carry_long → carry_unfit (carry_of ns) ≡ true → 11 ≡ carry_fault ns
  unfolding carry_fault
  unfit_refused e d = rw (eq-eqb (length ns) carry_long e, d) refl

  pub fit_passed : length ns ≡ carry_long → carry_unfit (carry_of ns) ≡ false → 0 ≡ carry_fault ns
  unfolding carry_fault
  fit_passed e d = rw (eq-eqb (length ns) carry_long e, d) refl

  pub carry_passed : carry_fault ns ≡ 0 → (length ns ≡ carry_long) × (carry_unfit (carry_of ns) ≡ false)
  unfolding carry_fault
  carry_passed e =
      let t = or_no (not (is_carry ns)) (carry_unfit (carry_of ns)) (passed 10 (not (is_carry ns) || carry_unfit (carry_of ns)) e) in
      (eqb-true (length ns) carry_long (not-false (is_carry ns) t.0), t.1)

-- the whole blocks fit any integer of 64 bits
pub blocks_most : (c : Carry) → c.width ≤ max_side → c.height ≤ max_side → blocks_in c ≤ max_side * max_side
blocks_most c w h =
    let down : c.height / block_side ≤ max_side = omega arith in
    let along : c.width / block_side ≤ max_side = omega arith in
    mul-le-mul down along

-- at a depth that suits a word the largest sample has 12 bits at most, and the totals are small
pub most_small : (word : Word) (depth : ℕ) → word_fault word depth ≡ 0 → 2 ^ depth ≤ 4096
most_small word depth e = go word (suited word depth e)
  where
    either : (a b : Bool) → (a ≡ true → 2 ^ depth ≤ 4096) → (b ≡ true → 2 ^ depth ≤ 4096) → a || b ≡ true → 2 ^ depth ≤ 4096
    either true b f g e = f refl
    either false b f g e = g e

    go : (word : Word) → suits word depth ≡ true → 2 ^ depth ≤ 4096
    go byte s = rw (eqb-true depth 8 s) (omega arith)
    go deep s =
        either (eqb depth 10) (eqb depth 12) (λ t. rw (eqb-true depth 10 t) (omega arith)) (λ t. rw (eqb-true depth 12 t) (omega arith)) s

pub totals_small : (word : Word) (c : Carry) → Sound word c → totals_most c < 2 ^ 42
totals_small word c s =
    let small = most_small word c.depth s.depth_fits in
    let k : 2 ^ c.depth - 1 < 2 ^ 16 = omega arith in
    omega (arith, mul_assoc c.rows c.width (2 ^ c.depth - 1), total_fits c.rows c.width (2 ^ c.depth - 1) (omega (arith, s.come, s.height_most)) s.width_most k)

-- what a carry that was looked at tells: it is fit, or what it is refused with
pub carry_given : (ns : List ℕ) (k : Carry) → gives k ≡ answered (carry_fault ns) (carry_of ns)
    → (0 ≡ carry_fault ns) × (k ≡ carry_of ns) × (carry_unfit k ≡ false)
carry_given ns k e =
    let t = given_by (carry_fault ns) (carry_of ns) k e in
    (sym t.0, t.1, ap carry_unfit t.1 ∙ (carry_passed ns t.0).1)
