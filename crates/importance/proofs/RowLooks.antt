-- Samples of two planes that are looked at a few rows at a time, while the planes are measured; and what is answered then. Assumes nothing.
use mathlib.Core.Bool.{Bool, true, false, ◌||◌}
use mathlib.Core.List.{List}
use mathlib.Core.Path.{◌≡◌, refl, sym, ap, ◌∙◌}
use Prim.Native.Nat.{ℕ, ◌+◌, ◌-◌, ◌*◌, ◌≤◌, ◌<◌, ◌^◌}
use native.Mathlib.Omega.{arith}
use lib.ListN.{length}
use Rattle.answer.specs.Answer.{Answer, gives, refused, answered}
use Rattle.answer.specs.Refusal.{refusal}
use Rattle.answer.proofs.Laws.{test_given, test_passed, answer_given, answer_refused}
use Rattle.plane.specs.Blocks.{block_side, blocks_down, blocks_fault}
use Rattle.plane.specs.Planes.{Word, rows_large, too_large, sizes_fault}
use Rattle.plane.specs.declared.Plane.{Plane}
use Rattle.plane.proofs.PlaneLaws.{pair}
use Rattle.plane.proofs.SampleLaws.{large_in, rows_are}
use Rattle.sums.specs.Any.{any_below}
use Rattle.sums.specs.Sums.{sum_below}
use Rattle.sums.proofs.AnyLaws.{any_zero, any_or, any_cut}
use Rattle.sums.proofs.SumLaws.{sum_none, sum_more, sum_to}
use Rattle.importance.specs.Importance.{blocks_difference, importance_total, importance_fault}
use Rattle.importance.proofs.Refusals.{samples_decide}

module _ (depth : ℕ) (p : Plane) (a : List ℕ) (q : Plane) (b : List ℕ) where
  -- whether row y of either plane has a sample that is too large
  abbrev large : ℕ → Bool
  large y = large_in p a depth y || large_in q b depth y

  -- a look at the rows from one up to another, and what all samples decide
  abbrev look : ℕ → ℕ → Bool
  look from to = rows_large depth p a from to || rows_large depth q b from to

  abbrev looked : {A : Type 0} → A → Answer A
  looked v = answered (refusal 16 (too_large depth p a || too_large depth q b)) v

  -- ---- look after look

  -- the total of the first y rows of blocks, none of which has a sample that is too large
  pub record LookSum (total y : ℕ) : Type 0 where
    pub rows : y ≤ blocks_down p
    pub sum : total ≡ sum_below y (blocks_difference p a q b)
    pub most : total ≤ y * 2 ^ 26
    pub clear : any_below (y * block_side) large ≡ false

  pub look_none : LookSum 0 0
  look_none = record { rows = omega arith; sum = sum_none _; most = omega arith; clear = any_zero large }

  module _ (h : sizes_fault p (length a) q (length b) ≡ 0) where
    look_cut : (from to : ℕ) → from ≤ to → to ≤ p.height → any_below to large ≡ any_below from large || look from to
    look_cut from to o e =
        let planes = pair p (length a) q (length b) h in
        let cut : to ≡ from + (to - from) = omega arith in
        ap (λ (n : ℕ). any_below n large) cut ∙ any_cut from (to - from) large
        ∙ ap (λ (t : Bool). any_below from large || t)
        (any_or (to - from) (λ (j : ℕ). large_in p a depth (from + j)) (λ (j : ℕ). large_in q b depth (from + j))
        ∙ rw (sym (rows_are depth p a from to planes.first e), sym (rows_are depth q b from to planes.second (omega (arith, planes.heights)))))

    look_all : any_below p.height large ≡ too_large depth p a || too_large depth q b
    unfolding too_large
    look_all =
        any_or p.height (large_in p a depth) (large_in q b depth)
        ∙ ap (λ (n : ℕ). any_below p.height (large_in p a depth) || any_below n (large_in q b depth)) (pair p (length a) q (length b) h).heights

    module _ (total y : ℕ) (s : LookSum total y) where
      -- what the next look finds is what the rows up to its end have
      look_more : (from to : ℕ) → y * block_side ≡ from → from ≤ to → to ≤ p.height → any_below to large ≡ look from to
      look_more from to d o e =
          let clear : any_below from large ≡ false = rw (← d) s.clear in look_cut from to o e ∙ ap (λ (t : Bool). t || look from to) clear

      -- so it refuses ..
      pub look_refused : {A : Type 0} (v : A) (from to : ℕ) → y * block_side ≡ from → from ≤ to → to ≤ p.height
          → {found : Bool} → found ≡ look from to → found ≡ true → refused 16 ≡ looked v
      look_refused v from to d o e l f =
          let found : any_below p.height large ≡ true =
          look_cut to p.height e (omega arith) ∙ ap (λ (t : Bool). t || look to p.height) (look_more from to d o e ∙ sym l ∙ f) in
          answer_refused 16 _ v (test_given 16 _ (sym look_all ∙ found)) (λ z. omega arith)

      -- .. or lets a row of blocks be summed ..
      pub look_turn : (part : ℕ) → y < blocks_down p → {found : Bool} → found ≡ look (y * block_side) (y * block_side + block_side) → found ≡ false
          → part ≡ blocks_difference p a q b y → part ≤ 2 ^ 26 → LookSum (total + part) (y + 1)
      look_turn part y< l e d m =
          let end : y * block_side + block_side ≡ (y + 1) * block_side = omega arith in
          let clear = look_more (y * block_side) (y * block_side + block_side) refl (omega arith) (omega arith) ∙ sym l ∙ e in
          record {
            rows = omega arith;
            sum = omega (arith, s.sum, d, sum_more y (blocks_difference p a q b));
            most = omega (arith, s.most);
            clear = rw (← end) clear;
          }

      -- the total is far below what an integer of 64 bits holds
      pub look_fits : (part : ℕ) → y < blocks_down p → part ≤ 2 ^ 26 → total + part < 2 ^ 64
      look_fits part y< m =
          omega (arith, s.most, (pair p (length a) q (length b) h).first.height_most)

      -- .. and where it is the last one, the total is the answer
      pub look_passed : (from : ℕ) → y * block_side ≡ from → y ≡ blocks_down p → {found : Bool} → found ≡ look from p.height → found ≡ false
          → gives total ≡ looked (importance_total p a q b)
      unfolding importance_total
      look_passed from d e l f =
          answer_given _ _ _ (test_passed 16 _ (sym look_all ∙ look_more from p.height d (omega arith) (omega arith) ∙ sym l ∙ f))
          (sum_to total y (blocks_down p) (blocks_difference p a q b) s.sum e)

  -- ---- what is answered then: shapes and blocks come first, and where they pass the samples decide

  pub shapes_passed : {A : Type 0} (word : Word) (v : A) (r : Answer A) → 0 ≡ blocks_fault word depth p (length a) q (length b) → r ≡ looked v
      → r ≡ answered (importance_fault word depth p a q b) v
  shapes_passed word v r e d = d ∙ ap (λ (fault : ℕ). answered fault v) (samples_decide word depth p a q b e)
