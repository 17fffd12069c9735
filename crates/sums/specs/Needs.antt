-- What only private contracts and laws cite: the largest samples that a byte and a word of 16 bits hold.
use Rattle.std.specs.Prelude.{ℕ}

abbrev pub byte_most : ℕ
byte_most = 255

abbrev pub word_most : ℕ
word_most = 65535
