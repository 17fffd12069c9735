-- `any_forbidden_entry` meets its contract: what the library's `any` answers is the search.
-- Assumes nothing.
use mathlib.Core.Path.{◌∙◌}
use Rattle.std.proofs.Common.{rules, tests}
use Rattle.std.proofs.lemmas.Iterator.{YieldsList-from_slice}
use Rattle.std.proofs.lemmas.Iterator.Search.{any_from_yields_List}
use Rattle.score.specs.Costs.{forbidden_entry}
use Rattle.score.specs.Deque.{content}
use Rattle.score.proofs.Counts.{any_is}
use Rattle.score.proofs.decision.any_forbidden_entry.Goals as goal

pub returns : goal.returns
returns c =
    any_from_yields_List forbidden_entry _ _ _ c.any.ensures.ran (YieldsList-from_slice (content c.args.d) cc) (λ x b q k. search (rules, tests))
    ∙ any_is forbidden_entry (content c.args.d)
