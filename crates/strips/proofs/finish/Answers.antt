-- `strips::finish` meets its contract: the held rows are planes of their own, and their costs go through the part of the list that is theirs. Assumes nothing.
use mathlib.Core.Path.{◌≡◌, ap, ◌∙◌}
use Prim.Native.Nat.{◌-◌, ◌*◌}
use native.Mathlib.Omega.{arith}
use lib.ListN.{length, take, drop}
use Rattle.answer.specs.Answer.{answer_of}
use Rattle.importance.specs.Importance.{total_of}
use Rattle.intra.specs.Costs.{plane_costs_of}
use Rattle.plane.specs.declared.Plane.{Plane}
use Rattle.strips.specs.Carry.{blocks_along}
use Rattle.strips.specs.Rows.{held_first, held_second}
use Rattle.strips.proofs.HeldLaws.{rise_is, rise_most, costs_back}
use Rattle.strips.proofs.finish.Goals as goal

pub returns : goal.returns
returns g c =
    let word = g.S.Depths.word in
    let s = c.args in
    let r = c.requires in
    let room = g.S.Sample.values s.room.now in
    let at = s.y * blocks_along s.c in
    -- the planes that are measured are the held ones
    let total : answer_of c.importance_total.result ≡ total_of word s.c.depth (held_first s.c) room (held_second s.c) room =
    c.importance_total.ensures
    ∙ ap (λ (f : Plane). total_of word s.c.depth f room c.held_plane-q.result room) c.held_plane-p.ensures
    ∙ ap (λ (f : Plane). total_of word s.c.depth (held_first s.c) room f room) c.held_plane-q.ensures in
    let value = c.unwrap_or.ensures ∙ rise_is word s.c r.sound room r.c_in_bounds _ total in
    record {
      value = value;
      upper_bound = rw value (rise_most word s.c r.sound room r.c_in_bounds g.S.Sample.most (omega (arith, g.met.S.Sample.narrow)) c.bounded.ensures);
      costs_after = costs_back word s.c r.sound room r.c_in_bounds s.y s.costs.now r.c_in_bounds_2 c.plane_costs.new.costs
          (c.plane_costs.ensures.costs_after
          ∙ ap (λ (f : Plane). plane_costs_of word s.c.depth f room (take (length s.costs.now - at) (drop at s.costs.now))) c.held_plane-q.ensures);
    }
