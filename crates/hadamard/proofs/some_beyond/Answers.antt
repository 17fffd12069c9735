-- `hadamard::some_beyond` meets its contract: what is folded from the front is what the definition finds from the front. Assumes nothing.
use mathlib.Core.Path.{◌≡◌, refl, ◌∙◌}
use mathlib.Core.Bool.{Bool, true, false, ◌||◌, cond}
use mathlib.Core.List.{List, [], ◌∷◌}
use lib.IntN.{ℤ}
use Rattle.std.proofs.Common.{rules}
use Rattle.std.proofs.lemmas.Iterator.{YieldsList-from_slice}
use Rattle.std.proofs.lemmas.Iterator.Consumers.{fold_from_yields_List}
use Rattle.std.specs.Prelude.{fold}
use Rattle.hadamard.specs.Transform.{beyond_most, some_beyond}
use Rattle.hadamard.proofs.some_beyond.Goals as goal

abbrev or_beyond : Bool → ℤ → Bool
or_beyond some z = some || beyond_most z

by_either : (s t : Bool) → s || t ≡ cond s true t
by_either true t = refl
by_either false t = refl

folded : (l : List ℤ) (some : Bool) → fold or_beyond some l ≡ some || some_beyond l
unfolding some_beyond
folded [] true = refl
folded [] false = refl
folded (z ∷ l) true = folded l true
folded (z ∷ l) false = folded l (beyond_most z) ∙ by_either (beyond_most z) (some_beyond l)

pub returns : goal.returns
returns c =
    fold_from_yields_List _ or_beyond false _ c.fold.ensures.ran (YieldsList-from_slice c.args.block.now cc) (λ a x b q k. search rules) ∙ folded c.args.block.now false
