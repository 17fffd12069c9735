-- Document 02, L6: "Wherever the strips are cut, difference, importance total and the second frame's intra costs equal those of the whole planes."
-- Said for callers that hand carry, room and costs back unchanged between calls; proved in proofs/Cut.antt.
use Rattle.std.specs.Prelude.{true, List, [], ◌∷◌, ◌≡◌, ℕ, ◌+◌, ◌≤◌, ◌<◌, length}
use Rattle.answer.specs.Answer.{gives}
use Rattle.importance.specs.Importance.{total_of}
use Rattle.intra.specs.Costs.{intra_fault, intra_of, costs_of}
use Rattle.plane.specs.Planes.{Word, sample_at, pair_fault}
use Rattle.plane.specs.declared.Plane.{Plane}
use Rattle.sad.specs.Difference.{difference_of}
use Rattle.strips.specs.declared.Totals.{Totals}
use Rattle.strips.specs.Carry.{carry_by, is_carry}
use Rattle.strips.specs.Rows.{Strip, room_long}
use Rattle.strips.specs.Strips.{Kept, kept, start_of, start_after, strip_most, strip_fault, add_of, add_after, end_of}

-- ---- the ways to cut

-- `frames` has both whole planes, as a strip of all rows: these may be more than 64.

-- s shows the rows of both frames from row `at` on, as many as it has: 64 at most, and it may have none. Its stride and its origin are its own,
-- and so are the samples beside it.
pub record Shows (frames : Strip) (at : ℕ) (s : Strip) : Type 0 where
  pub few : s.first.height ≤ strip_most
  pub heights : s.first.height ≡ s.second.height
  pub widths : (s.first.width ≡ frames.first.width) × (s.second.width ≡ frames.first.width)
  pub lies : (strip_fault s.first (length s.a) ≡ 0) × (strip_fault s.second (length s.b) ≡ 0)
  pub first : (j x : ℕ) → j < s.first.height → x < frames.first.width → sample_at s.first s.a j x ≡ sample_at frames.first frames.a (at + j) x
  pub second : (j x : ℕ) → j < s.first.height → x < frames.first.width → sample_at s.second s.b j x ≡ sample_at frames.second frames.b (at + j) x

-- strips that show all rows from row `at` on, one after the other
unfoldable pub Cut : Strip → ℕ → List Strip → Type 0
Cut frames at [] = at ≡ frames.first.height
Cut frames at (s ∷ rest) = Shows frames at s × Cut frames (at + s.first.height) rest

-- ---- the adds in order

unfoldable pub adds_after : Word → Kept → List Strip → Kept
adds_after word k [] = k
adds_after word k (s ∷ rest) = adds_after word (add_after word k s) rest

-- each is accepted, and answers the rows that have come
unfoldable pub Accepted : Word → Kept → ℕ → List Strip → Type 0
Accepted word k at [] = Unit {0}
Accepted word k at (s ∷ rest) = (add_of word k s ≡ gives (at + s.first.height)) × Accepted word (add_after word k s) (at + s.first.height) rest

-- ---- the theorem

-- what the end gives, and the costs in the list, are those of the whole planes: with any work plane that the costs accept
pub record AsWhole (word : Word) (depth : ℕ) (frames : Strip) (w : Plane) (work costs : List ℕ) (ends : Kept) (t : Totals) : Type 0 where
  pub given : end_of ends.carry ≡ gives t
  pub difference : difference_of word depth frames.first frames.a frames.second frames.b ≡ gives t.difference
  pub importance : total_of word depth frames.first frames.a frames.second frames.b ≡ gives t.importance
  pub blocks : intra_of word depth frames.second frames.b w work costs ≡ gives t.blocks
  pub costs_are : ends.costs ≡ costs_of word depth frames.second frames.b w work costs

-- for both words, each depth, every pair of whole planes that the measures accept, every way to cut them, and any room and costs before
abbrev pub StripsAsWhole : Type 0
StripsAsWhole =
    (word : Word) (depth : ℕ) (frames : Strip) (w : Plane) (work : List ℕ) (strips : List Strip) (before room costs : List ℕ)
    → pair_fault word depth frames.first frames.a frames.second frames.b ≡ 0
    → intra_fault word depth frames.second frames.b w work (length costs) ≡ 0
    → is_carry before ≡ true
    → room_long (carry_by frames.first.width frames.first.height depth 0 0 0) ≤ length room
    → Cut frames 0 strips
    → let start = kept (start_after depth frames.first.width frames.first.height before) room costs in
    (start_of depth frames.first.width frames.first.height before ≡ gives 0)
    × Accepted word start 0 strips
    × ((t : Totals) × AsWhole word depth frames w work costs (adds_after word start strips) t)
