-- `strips::add` meets its contract: each refusal in its order, before anything is written; and else the rows, one after the other. Assumes nothing.
use mathlib.Core.Bool.{Bool, ◌||◌}
use mathlib.Core.Path.{◌≡◌, refl, sym, ap, ◌∙◌}
use Prim.Native.Nat.{ℕ, ◌+◌}
use native.Mathlib.Omega.{arith}
use borrow.Author.Rules.{rules}
use lib.ListN.{length}
use Rattle.std.specs.Prelude.{Err}
use Rattle.answer.proofs.Laws.{answer_given, given_by, refused_is, number_some}
use Rattle.answer.specs.Refusal.{refusal}
use Rattle.plane.specs.Planes.{too_large, word_fault}
use Rattle.sad.specs.Difference.{plane_sad}
use Rattle.plane.proofs.SampleLaws.{number_given, refused_given}
use Rattle.sums.proofs.SampleLaws.{length_values}
use Rattle.strips.specs.declared.carry.Carry.{Carry}
use Rattle.strips.specs.Needs.{Taken}
use Rattle.strips.specs.Strips.{shape_fault}
use Rattle.strips.proofs.AddLaws.{carry_refused, shape_refused, sample_refused, accepted, all_taken, difference_small}
use Rattle.strips.proofs.CarryLaws.{carry_given, carry_passed, totals_small}
use Rattle.strips.proofs.ShapeLaws.{taken_known, shapes_pass}
use Rattle.strips.proofs.add.Given as given
use Rattle.strips.proofs.add.Goals as goal
use Rattle.strips.proofs.add.Goals.{In_ok-shape_fault}

-- past the first two tests the shapes fit
shapes : (g : given.Over) (c : In_ok-shape_fault g) → let values = g.S.Sample.values in let s = c.args in let k = c.in_ok-c.c in
    0 ≡ shape_fault (word_fault g.S.Depths.word k.depth) k s.p (length (values s.a.now)) s.q (length (values s.b.now)) (length (values s.room.now)) (length s.costs.now)
shapes g c =
    let long = length_values g.met.S.Sample.each in
    let s = c.args in
    rw (← long s.a.now, ← long s.b.now, ← long s.room.now) at c.in_ok-shape_fault.ensures

taken : (g : given.Over) (c : In_ok-shape_fault g) → let values = g.S.Sample.values in let s = c.args in
    Taken g.S.Depths.word c.in_ok-c.c s.p (length (values s.a.now)) s.q (length (values s.b.now)) (length (values s.room.now)) (length s.costs.now)
taken g c =
    let values = g.S.Sample.values in
    let s = c.args in
    taken_known g.S.Depths.word c.in_ok-c.c s.p (length (values s.a.now)) s.q (length (values s.b.now)) (length (values s.room.now)) (length s.costs.now)
    (carry_given _ _ c.in_ok-c.ensures).2 (sym (shapes g c))

pub returns-in_err-c : goal.returns-in_err-c
returns-in_err-c g c =
    let handed : c.from_residual.result ≡ Err c.in_err-c.field-0.0 = search rules in
    let both = carry_refused g.S.Depths.word _ _ _ (refused_is _ _ _ c.in_err-c.ensures) (number_some c.in_err-c.field-0.0) in
    record { result_value = rw handed both.0; costs_after = both.1 }

pub shape_fault-requires : goal.shape_fault-requires
shape_fault-requires g c = (carry_given _ _ c.in_ok-c.ensures).2

pub returns-in_err-shape_fault : goal.returns-in_err-shape_fault
returns-in_err-shape_fault g c =
    let handed : c.from_residual-in_err-shape_fault.result ≡ Err c.in_err-shape_fault.field-0.0 = search rules in
    let long = length_values g.met.S.Sample.each in
    let s = c.args in
    let k = carry_given _ _ c.in_ok-c.ensures in
    let both = shape_refused g.S.Depths.word _ _ _ _ k.1 refl k.0 _
    (rw (← long s.a.now, ← long s.b.now, ← long s.room.now) at c.in_err-shape_fault.ensures) (number_some c.in_err-shape_fault.field-0.0) in
    record { result_value = rw handed both.0; costs_after = both.1 }

pub strip_difference-requires : goal.strip_difference-requires
strip_difference-requires g c =
    let t = taken g (goal.at.strip_difference-requires g c).In_ok-shape_fault in
    record { b_value = shapes_pass g.S.Depths.word _ _ _ _ _ _ _ t; height_value = t.heights }

pub returns-in_err-more : goal.returns-in_err-more
returns-in_err-more g c =
    let handed : c.from_residual-in_err-more.result ≡ Err c.in_err-more.field-0.0 = search rules in
    let k = carry_given _ _ c.in_ok-c.ensures in
    let here = (goal.at.returns-in_err-more g c).In_ok-shape_fault in
    let both = sample_refused g.S.Depths.word _ _ _ _ k.1 refl k.0 (shapes g here) _ (refused_is _ _ _ c.in_err-more.ensures) (number_some c.in_err-more.field-0.0) in
    record { result_value = rw handed both.0; costs_after = both.1 }

pub add_rows-importance-requires : goal.add_rows-importance-requires
add_rows-importance-requires g c = taken g (goal.at.add_rows-importance-requires g c).In_ok-shape_fault

pub came-next-requires : goal.came-next-requires
came-next-requires g c =
    let word = g.S.Depths.word in
    let values = g.S.Sample.values in
    let s = c.args in
    let t = taken g (goal.at.came-next-requires g c).In_ok-shape_fault in
    let n = given_by _ _ _ c.in_ok-more.ensures in
    let small = difference_small word c.in_ok-c.c s.p (values s.a.now) s.q (values s.b.now) _ _ t (sym n.0) g.S.Sample.most
    (omega (arith, g.met.S.Sample.narrow)) c.bounded.ensures c.bounded-2.ensures in
    record {
      height_bound = omega (arith, t.rows, t.carry.height_most);
      more_bound = omega (arith, n.1, small, t.carry.difference, totals_small word c.in_ok-c.c t.carry);
    }

pub put_carry-requires : goal.put_carry-requires
put_carry-requires g c = (carry_passed _ (sym (carry_given _ _ c.in_ok-c.ensures).0)).0

pub returns : goal.returns
returns g c =
    let word = g.S.Depths.word in
    let k = carry_given _ _ c.in_ok-c.ensures in
    let n = given_by _ _ _ c.in_ok-more.ensures in
    let none = accepted word _ _ _ _ k.1 refl k.0 (shapes g (goal.at.returns g c).In_ok-shape_fault) (sym n.0) in
    record {
      result_value = answer_given _ _ _ none (ap (λ (x : Carry). x.rows) c.came-next.ensures ∙ ap (λ (x : Carry). x.rows + c.args.p.height) k.1);
      costs_after = all_taken word _ _ _ c.in_ok-c.c k.1 refl k.0 none _ _ _ _ _ _ n.1 c.add_rows-importance.ensures c.came-next.ensures
          c.put_carry.ensures;
    }
