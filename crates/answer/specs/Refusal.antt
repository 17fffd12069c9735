-- Document 01, "Refusal numbers": how refusals are written. A refusal's number stands where its test holds, and 0 says that nothing is refused.
use Rattle.std.specs.Prelude.{Bool, cond, ℕ, eqb}
use Rattle.answer.specs.declared.Refusal.{Refusal}
use Rattle.answer.specs.declared.Refusal.TheVariants.{BadPlane, PastSamples, SizesDiffer, NoRoom, BadDepth, BadSize, BadNumber, BadLength, Stop, BadList, BadState, NoMark, BadCut, NotRising, LogRoom, TooLarge, TooManyRows, RowsLeft, NoBlock}

infixr 30 ◌or_else◌
-- refusal k, given exactly when the test holds
abbrev pub refusal : ℕ → Bool → ℕ
refusal k test = cond test k 0

-- "the first that applies": f, and where f is none, g
unfoldable pub ◌or_else◌ : ℕ → ℕ → ℕ
f or_else g = cond (eqb f 0) g f

-- each refusal's number
abbrev pub number_of : Refusal → ℕ
number_of BadPlane = 1
number_of PastSamples = 2
number_of SizesDiffer = 3
number_of NoRoom = 4
number_of BadDepth = 5
number_of BadSize = 6
number_of BadNumber = 7
number_of BadLength = 8
number_of Stop = 9
number_of BadList = 10
number_of BadState = 11
number_of NoMark = 12
number_of BadCut = 13
number_of NotRising = 14
number_of LogRoom = 15
number_of TooLarge = 16
number_of TooManyRows = 17
number_of RowsLeft = 18
number_of NoBlock = 19
