-- The numbers of the measures are small enough for an i64, whichever word the samples stand in: over the largest sample k. Assumes nothing.
use mathlib.Core.List.{List}
use Prim.Native.Nat.{ℕ, ◌≤◌, ◌<◌, ◌^◌}
use native.Mathlib.Omega.{arith}
use lib.ListN.{length, get_or}
use Rattle.answer.specs.Answer.{Answer}
use Rattle.answer.proofs.Laws.{answer_cases}
use Rattle.plane.specs.declared.Plane.{Plane}
use Rattle.plane.specs.Planes.{Word}
use Rattle.importance.specs.Importance.{total_of}
use Rattle.importance.proofs.BlockSums.{total_most}
use Rattle.intra.specs.Costs.{intra_of}
use Rattle.intra.proofs.CostLaws.{blocks_most}
use Rattle.sad.specs.Difference.{difference_of}
use Rattle.sad.proofs.SadLaws.{sad_most}
use Rattle.satd.specs.Satd.{satd_of}
use Rattle.satd.proofs.SatdLaws.{satd_most}
use Rattle.strips.specs.declared.Totals.{Totals}
use Rattle.strips.specs.Rows.{Strip}
use Rattle.strips.specs.Strips.{Kept, start_of, add_of, end_fault, end_of}
use Rattle.strips.proofs.AddLaws.{rows_small, ended_small}
use Rattle.brinepulley.specs.Coded.{blocks_given}
use Rattle.brinepulley.specs.Needs.{Codable}
use Rattle.brinepulley.proofs.Numbers.{codable_answer}

module _ (k : ℕ) (s : k < 2 ^ 16) (a b : List ℕ) (l : (i : ℕ) → get_or a i 0 ≤ k) (m : (i : ℕ) → get_or b i 0 ≤ k) where
  pub difference_small : (word : Word) (depth : ℕ) (p q : Plane) → Codable (difference_of word depth p a q b)
  difference_small word depth p q = codable_answer _ _ (λ e. omega (arith, sad_most k a b l m word depth p q s e))

  pub total_small : (word : Word) (depth : ℕ) (p q : Plane) → Codable (total_of word depth p a q b)
  total_small word depth p q = codable_answer _ _ (λ e. omega (arith, total_most k p a q b l m word depth s e))

  pub satd_small : Codable (satd_of a b)
  satd_small = codable_answer _ _ (λ e. omega (arith, satd_most k a b l m))

pub blocks_small : (word : Word) (depth : ℕ) (p : Plane) (s : List ℕ) (w : Plane) (work costs : List ℕ) → Codable (intra_of word depth p s w work costs)
blocks_small word depth p s w work costs = codable_answer _ _ (λ e. omega (arith, blocks_most word depth p s w work (length costs) e))

-- ---- strips

pub start_small : (depth width height : ℕ) (ns : List ℕ) → Codable (start_of depth width height ns)
start_small depth width height ns = codable_answer _ _ (λ e. omega arith)

pub rows_come_small : (word : Word) (k : Kept) (s : Strip) → Codable (add_of word k s)
rows_come_small word k s = codable_answer _ _ (λ e. omega (arith, rows_small word k s e))

pub end_small : (ns : List ℕ) → Codable (blocks_given (end_of ns))
end_small ns = answer_cases (λ (a : Answer Totals). Codable (blocks_given a)) (end_fault ns) _ (λ e. omega (arith, ended_small ns e)) (λ _. tt)
