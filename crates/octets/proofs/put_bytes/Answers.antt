-- `octets::put_bytes` meets its contract: what is copied stands between what was there. Assumes nothing.
use mathlib.Core.Path.{◌≡◌, sym, ◌∙◌}
use mathlib.Core.List.{append_assoc}
use Prim.Native.Nat.{◌+◌, ◌-◌}
use native.Mathlib.Omega.{arith}
use lib.ListN.{length}
use lib.Seq.{drop-drop}
use Rattle.octets.specs.Octets.{overwritten}
use Rattle.octets.proofs.put_bytes.Goals as goal

pub returns-then-lies_within : goal.returns-then-lies_within
unfolding overwritten
returns-then-lies_within c =
    let n = length c.args.bytes.now in
    let part : c.args.at + n - c.args.at ≡ n = omega arith in
    rw (sym c.lies_within.ensures ∙ c.if-lies_within.true, c.copy_from_slice.ensures.after, append_assoc, part, drop-drop n c.args.at c.args.s.now)
