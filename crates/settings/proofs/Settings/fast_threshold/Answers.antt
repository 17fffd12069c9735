-- `Settings::fast_threshold` meets its contract: its literal is the rule's number. Assumes nothing.
use Rattle.settings.specs.Settings.{fast_threshold}
use Rattle.settings.proofs.Literals.{eighteen}
use Rattle.settings.proofs.Settings.fast_threshold.Goals as goal

pub returns : goal.returns
unfolding fast_threshold
returns c = rw (c.at_depth.ensures, eighteen)
