-- `any_forbidden` meets its contract: the library's search is the definition's.
-- Assumes nothing.
use Rattle.std.proofs.Common.{rules, ◌∙◌, tests}
use Rattle.std.proofs.lemmas.Iterator.{YieldsList-from_slice}
use Rattle.std.proofs.lemmas.Iterator.Search.{any_from_yields_List}
use Rattle.score.specs.Costs.{forbidden}
use Rattle.state.proofs.Tests.{any_same}
use Rattle.state.proofs.any_forbidden.Goals as goal

pub returns : goal.returns
returns c = any_from_yields_List forbidden _ _ _ c.any.ensures.ran (YieldsList-from_slice c.args.list.now cc) (λ x b q k. search (rules, tests)) ∙ any_same forbidden c.args.list.now
