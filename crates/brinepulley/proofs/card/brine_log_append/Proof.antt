-- `brinepulley::card::brine_log_append` meets its contract: the record lies within the lent bytes, so an i64 holds the new length. Assumes
-- nothing. It is written whole, and not as answers, since what is said of the arguments is said of the function's start.
use mathlib.Core.Path.{◌≡◌, ap, ◌∙◌}
use mathlib.Core.Bool.{Bool, true}
use native.Mathlib.Omega.{arith}
use borrow.Author.Rules.{rules, sfits_of}
use mir.Syntax.{w64}
use mir.Facts.{to_z-of_z}
use lib.Dec.{T}
use Rattle.score_log.specs.Records.{record_by}
use Rattle.score_log.specs.Promises.{Typed}
use Rattle.score_log.proofs.Promised.{append_leaves}
use Rattle.brinepulley.specs.Coded.{coded}
use Rattle.brinepulley.proofs.Numbers.{codable_answer}
use Rattle.brinepulley.proofs.card.brine_log_append.Statement.{statement}
use Rattle.brinepulley.proofs.card.brine_log_append.Tie as tie

holds : (b : Bool) → b ≡ true → T b
holds b e = rw e tt

-- what C hands over is a record of which the log's promises speak: its types hold it
pub append_typed : (c : tie.Start)
    → let a = c.args in Typed (record_by a.number a.inter a.importance a.backward a.forward a.threshold a.cut)
append_typed c =
    let floats = c.well_formed.1.1.1 in
    record {
      number = c.ranges.number.fits;
      inter = holds _ floats.0.1;
      importance = holds _ floats.1.0.1;
      backward = holds _ floats.1.1.0.1;
      forward = holds _ floats.1.1.1.0.1;
      limit = holds _ floats.1.1.1.1.0.1;
    }

append-requires : tie.Need-append-requires
append-requires c κs = search rules

whole-requires : tie.Need-whole-requires
whole-requires c κs =
    let a = c.args in
    let r = record_by a.number a.inter a.importance a.backward a.forward a.threshold a.cut in
    rw c.append.ensures.0 (codable_answer _ _ (λ e. omega (arith, (append_leaves a.log.now a.used r e).fits)))

shape_of-log : tie.Need-shape_of-log
shape_of-log c = search rules

returns : tie.Need-returns
returns c =
    (to_z-of_z {w = w64} (sfits_of c.whole.type_inv) ∙ c.whole.ensures ∙ ap coded c.append.ensures.0, c.append.ensures.1)

pub brine_log_append_spec : {M : Type 1} → statement M
brine_log_append_spec = tie.close (tie.spec append-requires whole-requires shape_of-log returns)
