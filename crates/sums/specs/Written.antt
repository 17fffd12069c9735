-- What a lent list holds after some of its places were written.
use Rattle.std.specs.Prelude.{ℕ, Bool, cond, List, length, nat_lt, slice_index}
use Rattle.sums.specs.Table.{table}

-- s with g k at each place k of which the test holds; every other place stays as it was
unfoldable pub written : (ℕ → Bool) → (ℕ → ℕ) → List ℕ → List ℕ
written test g s = table (length s) (λ (k : ℕ). cond (test k) (g k) (slice_index s k))

-- the places of one list at the start of another, as far as both go
abbrev pub copied : List ℕ → List ℕ → List ℕ
copied from to = written (λ (k : ℕ). nat_lt k (length from)) (λ (k : ℕ). slice_index from k) to
