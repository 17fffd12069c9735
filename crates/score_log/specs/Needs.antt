-- What only private contracts cite: lists that have room for n records.
use Rattle.std.specs.Prelude.{List, ℕ, ◌*◌, ◌≤◌, length}
use Rattle.score_log.specs.Records.{record_long, pattern_count}

pub record Roomy (n : ℕ) (log numbers bits cuts : List ℕ) : Type 0 where
  pub records : n * record_long ≤ length log
  pub number : n ≤ length numbers
  pub pattern : n * pattern_count ≤ length bits
  pub cut : n ≤ length cuts
