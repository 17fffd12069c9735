-- What only private contracts cite: an answer whose number an i64 holds.
use Rattle.std.specs.Prelude.{ℕ, ◌<◌, ◌^◌}
use Rattle.answer.specs.Answer.{Answer, gives, refused}

abbrev pub Codable : Answer ℕ → Type 0
Codable (gives n) = n < 2 ^ 63
Codable (refused f) = Unit {0}
