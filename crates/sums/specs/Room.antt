-- The room that a sample takes in memory.
use Rattle.std.specs.Prelude.{◌≤◌}
use denote.Param.{layout}
use denote.RattleType.{RattleType}
use prog.Memory.{size}

abbrev pub TakesTwoBytes : RattleType → Type 0
TakesTwoBytes R = size (layout R) ≤ 2
