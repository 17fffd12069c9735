-- `Settings::at_depth` meets its contract: it does the rule's operations in the rule's order, and its literal is the rule's number. Assumes
-- nothing.
use Rattle.settings.proofs.Literals.{eight}
use Rattle.settings.proofs.Settings.at_depth.Goals as goal

pub returns : goal.returns
returns c = rw (c.nearest_u64_to_f64-depth.ensures, eight)
