-- `sad::word::row_sad` meets its contract: what was summed and what is left are the whole row's, and so are the bits. Assumes nothing.
use mathlib.Core.Bool.{◌||◌}
use mathlib.Core.Path.{◌≡◌}
use Prim.Native.Nat.{ℕ, ◌+◌, ◌^◌}
use lib.Dec.{leb}
use lib.ListN.{length}
use Rattle.sad.proofs.ChunkLaws.{gaps, larges}
use Rattle.sad.proofs.word.U16RowSad.row_sad.Given as goal

abbrev pub invariant-loop-x : goal.invariant-loop-x
invariant-loop-x l =
    let it = l.x-iterator in
    let r = it.a.rest.now in
    let t = it.b.rest.now in
    (goal.iterator-loop-x).can_next it × (goal.iterator-loop-x).is_finite it × (it.a.size ≡ 256) × (it.b.size ≡ 256) × (length r ≡ length t)
    × (l.sum + gaps r t ≡ gaps l.a l.b) × ((m : ℕ) → leb (2 ^ m) l.bits || larges r t m ≡ larges l.a l.b m)
