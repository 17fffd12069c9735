-- When importance is refused, and what two planes keep to of which it is not. Assumes nothing.
use mathlib.Core.Bool.{◌||◌}
use mathlib.Core.List.{List}
use mathlib.Core.Path.{◌≡◌, refl, sym}
use Prim.Native.Nat.{ℕ, ◌<◌}
use lib.ListN.{length}
use Rattle.answer.specs.Refusal.{refusal}
use Rattle.answer.proofs.Laws.{or_given, or_later, or_none, or_both}
use Rattle.plane.specs.Blocks.{block_count, blocks_fault}
use Rattle.plane.specs.Planes.{Word, sizes_fault, shapes_fault, pair_fault, too_large}
use Rattle.plane.specs.declared.Plane.{Plane}
use Rattle.plane.proofs.BlockLaws.{block_passes, blocks_next, by_blocks}
use Rattle.plane.proofs.SampleLaws.{measured}
use Rattle.importance.specs.Importance.{importance_fault}

module _ (word : Word) (depth : ℕ) (p : Plane) (a : List ℕ) (q : Plane) (b : List ℕ) where
  -- shapes and blocks come first, and where they pass the samples decide
  pub shapes_refused : (r : ℕ) → r ≡ blocks_fault word depth p (length a) q (length b) → (r ≡ 0 → ⊥) → r ≡ importance_fault word depth p a q b
  unfolding importance_fault
  shapes_refused r e h = or_given r _ _ e h

  pub samples_decide : 0 ≡ blocks_fault word depth p (length a) q (length b) → refusal 16 (too_large depth p a || too_large depth q b) ≡ importance_fault word depth p a q b
  unfolding importance_fault
  samples_decide e = or_later _ _ _ e refl

  -- what is taken here the difference takes too ..
  pub as_difference : importance_fault word depth p a q b ≡ 0 → pair_fault word depth p a q b ≡ 0
  unfolding importance_fault pair_fault
  as_difference e =
      let t = or_none (blocks_fault word depth p (length a) q (length b)) (refusal 16 (too_large depth p a || too_large depth q b)) e in
      or_both _ _ (by_blocks word depth p (length a) q (length b) t.0).0 t.1

  -- .. so they are two planes of one size
  pub one_size : importance_fault word depth p a q b ≡ 0 → sizes_fault p (length a) q (length b) ≡ 0
  one_size e = measured word depth p a q b (as_difference e)

  -- and with a block, what the difference takes is taken here
  pub with_blocks : pair_fault word depth p a q b ≡ 0 → 0 < block_count p → importance_fault word depth p a q b ≡ 0
  unfolding importance_fault pair_fault
  with_blocks e h =
      let t = or_none (shapes_fault word depth p (length a) q (length b)) (refusal 16 (too_large depth p a || too_large depth q b)) e in
      sym (or_later _ _ _ (blocks_next word depth p (length a) q (length b) 0 (sym t.0) (block_passes (block_count p) h)) (sym t.1))
