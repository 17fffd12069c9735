-- What follows from the settings alone. Assumes nothing.
use Rattle.std.proofs.Common.{◌≤◌, Bool, true, false, cond, leb, arith}
use Rattle.settings.specs.declared.Settings.{Settings}
use Rattle.settings.specs.Settings.{normal_lookahead, lookahead_offset}

pub lookahead_small : (g : Settings) → lookahead_offset g ≤ normal_lookahead
lookahead_small g = small (leb normal_lookahead g.lookahead_distance)
  where
    small : (b : Bool) → cond b normal_lookahead 0 ≤ normal_lookahead
    small true = omega arith
    small false = omega arith
