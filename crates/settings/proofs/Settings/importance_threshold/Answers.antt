-- `Settings::importance_threshold` meets its contract: its literal is the rule's number. Assumes nothing.
use Rattle.settings.specs.Settings.{importance_threshold}
use Rattle.settings.proofs.Literals.{seven}
use Rattle.settings.proofs.Settings.importance_threshold.Goals as goal

pub returns : goal.returns
unfolding importance_threshold
returns c = rw (c.at_depth.ensures, seven)
