-- Which places of a list are meant: runs, and rows that lie a stride apart.
use Rattle.std.specs.Prelude.{ℕ, ◌+◌, ◌*◌, Bool, ◌&&◌, nat_le, nat_lt}
use Rattle.sums.specs.Any.{any_below}

-- place k is one of the n places from `start` on
abbrev pub in_run : ℕ → ℕ → ℕ → Bool
in_run start n k = nat_le start k && nat_lt k (start + n)

-- place k lies in one of m rows of n places, the first from `start` on and each next a stride further
unfoldable pub in_rows : ℕ → ℕ → ℕ → ℕ → ℕ → Bool
in_rows start stride m n k = any_below m (λ (j : ℕ). in_run (start + j * stride) n k)
