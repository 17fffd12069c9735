-- `score_log::checked` meets its contract: none of the records passed is at fault. Assumes nothing.
use mathlib.Core.Path.{◌≡◌, refl, sym, ap, ap₂, ◌∙◌}
use mathlib.Core.List.{List, []}
use Prim.Native.Nat.{ℕ, suc, ◌+◌, ◌<◌}
use native.Mathlib.Numerals.{add-one}
use native.Mathlib.Omega.{arith}
use borrow.Author.Rules.{rules}
use lib.ListN.{length, get_or}
use Rattle.std.specs.Prelude.{Err}
use Rattle.std.specs.Simd.{first_chunks}
use Rattle.answer.proofs.Laws.{number_some}
use Rattle.octets.specs.Octets.{number_at}
use Rattle.octets.proofs.Laws.{number_here}
use Rattle.score_log.specs.Records.{record_long, number_long, number_place, number_field, bytes_fault}
use Rattle.score_log.specs.Log.{whole_records, record_in, least_after, record_fault, earliest, log_fault}
use Rattle.score_log.proofs.Each.{earliest_next, earliest_given}
use Rattle.score_log.proofs.LogLaws.{record_at, record_in_long}
use Rattle.score_log.proofs.checked.Goals as goal

module _ (log : List ℕ) (k : ℕ) (h : k < whole_records log) (records : List (List ℕ)) (e : records ≡ first_chunks record_long (whole_records log) log) where
  -- the next record
  abbrev bs : List ℕ
  bs = get_or records k []

  here : bs ≡ record_in log k
  here = record_at log records e k h

  module _ (least : ℕ) (told : least ≡ least_after log k) (f : ℕ) (fault : f ≡ bytes_fault least bs) (none : earliest k (record_fault log) ≡ 0) where
    its_fault : f ≡ record_fault log k
    its_fault = fault ∙ ap₂ bytes_fault told here

    -- where it is at fault, it is the earliest
    is_earliest : (f ≡ 0 → ⊥) → f ≡ log_fault log
    unfolding log_fault
    is_earliest d = earliest_given (record_fault log) f k (whole_records log) h none its_fault d

    -- and where not, it is passed
    passed_it : (n : ℕ) → n ≡ number_at number_long number_place bs → f ≡ 0 → (n + 1 ≡ least_after log (k + 1)) × (earliest (k + 1) (record_fault log) ≡ 0)
    unfolding least_after
    passed_it n number d =
        let long : length bs ≡ record_long = ap length here ∙ record_in_long log k h in
        let is = number ∙ number_here number_long number_place bs (omega (arith, long)) ∙ ap number_field here in
        rw (add-one k) (add-one n ∙ ap suc is, earliest_next k (record_fault log) none (sym its_fault ∙ d))

pub loop-record-init : goal.loop-record-init
unfolding least_after earliest
loop-record-init c = (refl, refl)

pub loop-record-preserved : goal.loop-record-preserved
loop-record-preserved c =
    let (least, none) = c.loop-record.invariant in
    let chunks = c.as_chunks.ensures in
    passed_it c.args.log.now c.loop-record.record-index (omega (arith, chunks.front_len)) c.as_chunks.result.0.now chunks.front _ least 0 c.in_ok-record_fault.ensures none _ (c.from-least.ensures ∙ c.u32_at.ensures) refl

pub returns : goal.returns
unfolding log_fault
returns c =
    let log = c.args.log.now in
    let (least, none) = c.loop-record.invariant in
    let all : c.loop-record.record-index ≡ whole_records log = omega (arith, c.as_chunks.ensures.front_len) in
    record { fault = sym none ∙ ap (λ (n : ℕ). earliest n (record_fault log)) all; least = least ∙ ap (least_after log) all }

pub returns-in_err-record_fault-clause-fault : goal.returns-in_err-record_fault-clause-fault
returns-in_err-record_fault-clause-fault c =
    let (least, none) = c.loop-record.invariant in
    let chunks = c.as_chunks.ensures in
    let e = c.in_err-record_fault.field-0.0 in
    let is : c.from_residual.result ≡ Err e = search rules in
    rw is (is_earliest c.args.log.now c.loop-record.record-index (omega (arith, chunks.front_len)) c.as_chunks.result.0.now chunks.front _ least _ c.in_err-record_fault.ensures none (number_some e))
