-- `brinepulley::sensor::brine_strips_end` meets its contract: the totals go to their places, and a refusal leaves these. Assumes nothing.
use mathlib.Core.Path.{sym, ap, ◌∙◌}
use borrow.Author.Rules.{sfits_of}
use mir.Syntax.{w64}
use mir.Facts.{to_z-of_z}
use Rattle.answer.specs.Answer.{Answer}
use Rattle.strips.specs.declared.Totals.{Totals}
use Rattle.brinepulley.specs.Coded.{coded, blocks_given, difference_after, importance_after}
use Rattle.brinepulley.proofs.Measures.{end_small}
use Rattle.brinepulley.proofs.Numbers.{given_fits, given_coded}
use Rattle.brinepulley.proofs.sensor.brine_strips_end.Goals as goal

pub overflow_cast-result : goal.overflow_cast-result
overflow_cast-result c = record { sfits = given_fits _ _ (sym (ap blocks_given c.in-Ok.ensures)) (end_small _) }

pub returns-in-Ok : goal.returns-in-Ok
returns-in-Ok c =
    let e = c.in-Ok.ensures in
    let s = c.args in
    record {
      value = given_coded _ _ (sym (ap blocks_given e)) (end_small _);
      difference_after = ap (λ (a : Answer Totals). difference_after a s.difference.now) e;
      importance_total_after = ap (λ (a : Answer Totals). importance_after a s.importance_total.now) e;
    }

pub returns-in-Err : goal.returns-in-Err
returns-in-Err c =
    let e = c.in-Err.ensures in
    let s = c.args in
    record {
      value = to_z-of_z {w = w64} (sfits_of c.negated.type_inv) ∙ c.negated.ensures ∙ ap (λ (a : Answer Totals). coded (blocks_given a)) e;
      difference_after = ap (λ (a : Answer Totals). difference_after a s.difference.now) e;
      importance_total_after = ap (λ (a : Answer Totals). importance_after a s.importance_total.now) e;
    }
