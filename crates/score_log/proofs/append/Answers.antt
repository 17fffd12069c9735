-- `score_log::append` meets its contract: the refusals in their order, or the record behind the last whole one. Assumes nothing.
use mathlib.Core.Path.{◌≡◌, sym, ap, ◌∙◌}
use mathlib.Core.List.{List}
use Prim.Native.Nat.{ℕ, ◌+◌, ◌-◌, ◌*◌, ◌/◌, ◌≤◌, ◌<◌}
use native.Mathlib.Nat.{suc-ne-zero}
use native.Mathlib.Omega.{arith}
use borrow.Author.Rules.{rules}
use borrow.Author.Tests.{lt-ltb, le-ltb, ltb-false}
use lib.Dec.{ltb}
use lib.ListN.{length, take}
use lib.Seq.{length-take-le}
use Rattle.std.specs.Prelude.{Err}
use Rattle.answer.specs.Refusal.{refusal, ◌or_else◌}
use Rattle.answer.proofs.Laws.{or_given, or_later, or_none, or_group, test_given, test_first, test_passed, test_later, passed, answer_given, answer_refused, lent_written, lent_kept, answer_handed, number_some}
use Rattle.octets.specs.Octets.{overwritten}
use Rattle.score_log.specs.declared.Record.{Record}
use Rattle.score_log.specs.Records.{record_long, record_bytes}
use Rattle.score_log.specs.Log.{whole_long, log_fault, new_fault, append_fault}
use Rattle.score_log.proofs.RecordLaws.{record_long_lem}
use Rattle.score_log.proofs.Puts.{part_put}
use Rattle.score_log.proofs.append.Goals as goal

-- the new record's cut is 0 or 1
small : (log : List ℕ) (r : Record) → new_fault log r ≡ 0 → r.cut ≤ 1
unfolding new_fault
small log r e = ltb-false 1 r.cut (passed 12 (ltb 1 r.cut) (or_none _ _ e).0)

module _ (lent : List ℕ) (used : ℕ) where
  abbrev log : List ℕ
  log = take used lent

  -- where the record goes
  place : used ≤ length lent → used / record_long * record_long ≡ whole_long log
  place h = ap (λ (n : ℕ). n / record_long * record_long) (sym (length-take-le used lent h))

  module _ (r : Record) (h : used ≤ length lent) where
    abbrev last : ℕ
    last = refusal 15 (ltb (length lent) (whole_long log + record_long))

    abbrev taken : ℕ
    taken = log_fault log or_else new_fault log r

    -- where the used length is right: the old records, the new one, and last the room
    in_order : (f : ℕ) → f ≡ taken or_else last → f ≡ append_fault lent used r
    unfolding append_fault
    in_order f e = test_later 15 f _ (ltb (length lent) used) (le-ltb (length lent) used h) (e ∙ or_group (log_fault log) (new_fault log r) last)

    later : (f : ℕ) → f ≡ taken → (f ≡ 0 → ⊥) → f ≡ append_fault lent used r
    later f e d = in_order f (or_given f taken last e d)

    module _ (none : 0 ≡ taken) where
      full : length lent < whole_long log + record_long → 15 ≡ append_fault lent used r
      full l = in_order 15 (or_later 15 taken last none (test_given 15 _ (lt-ltb (length lent) (whole_long log + record_long) l)))

      room : whole_long log + record_long ≤ length lent → 0 ≡ append_fault lent used r
      room l = in_order 0 (or_later 0 taken last none (test_passed 15 _ (le-ltb (length lent) (whole_long log + record_long) l)))

pub returns-then-log-used : goal.returns-then-log-used
unfolding append_fault
returns-then-log-used c =
    let a = c.args in
    let e = test_first 14 _ (ltb (length a.log.now) a.used) (lt-ltb (length a.log.now) a.used c.if-log-used.true) in
    record { result_value = answer_refused 15 _ _ e (suc-ne-zero 14); log_after = lent_kept 15 _ _ _ e (suc-ne-zero 14) }

pub returns-in_err-new_fault : goal.returns-in_err-new_fault
returns-in_err-new_fault c =
    let a = c.args in
    let e = c.in_err-new_fault.field-0.0 in
    let is : c.from_residual.result ≡ Err e = search rules in
    let fault = later a.log.now a.used a.r (omega arith) _ c.in_err-new_fault.ensures (number_some e) in
    record { result_value = rw is (answer_handed e _ _ fault); log_after = lent_kept _ _ _ _ fault (number_some e) }

pub returns-then-log-end : goal.returns-then-log-end
returns-then-log-end c =
    let a = c.args in
    let lent = a.log.now in
    let e = full lent a.used a.r (omega arith) c.in_ok-new_fault.ensures (omega (arith, place lent a.used (omega arith))) in
    record { result_value = answer_refused 15 _ _ e (suc-ne-zero 14); log_after = lent_kept 15 _ _ _ e (suc-ne-zero 14) }

pub put_record-requires-clause-cut_bound : goal.put_record-requires-clause-cut_bound
put_record-requires-clause-cut_bound c =
    let a = c.args in
    small (take a.used a.log.now) a.r (or_none _ _ (sym c.in_ok-new_fault.ensures)).1

pub returns : goal.returns
returns c =
    let a = c.args in
    let lent = a.log.now in
    let begin = a.used / record_long * record_long in
    let at = place lent a.used (omega arith) in
    let none = room lent a.used a.r (omega arith) c.in_ok-new_fault.ensures (omega (arith, at)) in
    let put = part_put begin (begin + record_long - begin) c.put_record.new.bytes lent (omega (arith, ap length c.put_record.ensures, record_long_lem a.r)) in
    let same : overwritten begin c.put_record.new.bytes lent ≡ overwritten (whole_long (take a.used lent)) (record_bytes a.r) lent = rw (at, c.put_record.ensures) in
    record { result_value = answer_given _ _ _ none (ap (λ (n : ℕ). n + record_long) at); log_after = put ∙ same ∙ lent_written _ _ _ none }
