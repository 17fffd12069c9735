-- What holds of every strip that is accepted, whatever the carry says and whatever the room holds. Proved in proofs/Promised.antt.
use Rattle.std.specs.Prelude.{◌≡◌, ℕ, ◌+◌, ◌*◌, ◌/◌, ◌≤◌, ◌<◌, length, get_or}
use Rattle.plane.specs.Blocks.{block_side}
use Rattle.plane.specs.Planes.{Word, depth_fault}
use Rattle.strips.specs.Carry.{carry_of, blocks_along, carry_fault}
use Rattle.strips.specs.Rows.{Strip}
use Rattle.strips.specs.Strips.{Kept, add_fault, add_after}

-- Rubbish in the room is no refusal, nor does it lead to one: the carry that a strip leaves passes 11 and 5
abbrev pub StaysFit : Type 0
StaysFit =
    (word : Word) (k : Kept) (s : Strip) → add_fault word k s ≡ 0
    → (carry_fault (add_after word k s).carry ≡ 0) × (depth_fault (carry_of (add_after word k s).carry).depth ≡ 0)

-- the first cost of the row of blocks that is begun once so many rows have come
abbrev pub cost_place : Kept → ℕ → ℕ
cost_place k rows = rows / block_side * blocks_along (carry_of k.carry)

-- a call writes only the costs of the blocks that it finishes: those before them and those behind them stay
abbrev pub OnlyFinished : Type 0
OnlyFinished =
    (word : Word) (k : Kept) (s : Strip) → add_fault word k s ≡ 0
    → (length (add_after word k s).costs ≡ length k.costs)
    × ((i : ℕ) → i < cost_place k (carry_of k.carry).rows → get_or (add_after word k s).costs i 0 ≡ get_or k.costs i 0)
    × ((i : ℕ) → cost_place k ((carry_of k.carry).rows + s.first.height) ≤ i → i < length k.costs → get_or (add_after word k s).costs i 0 ≡ get_or k.costs i 0)
