-- `lent::fresh` meets its contract: a refusal leaves the numbers, and else the first thirteen are those of a fresh state. Assumes nothing.
use mathlib.Core.Path.{◌≡◌, sym, ap, ◌∙◌}
use mathlib.Core.List.{List, ◌++◌}
use Prim.Native.Nat.{ℕ}
use native.Mathlib.Omega.{arith}
use lib.Seq.{drop-drop}
use Rattle.std.proofs.Common.{rules, Err}
use Rattle.answer.specs.Refusal.{number_of}
use Rattle.answer.proofs.Laws.{lent_written, lent_kept, number_some}
use Rattle.detector.specs.Fresh.{Opening, fresh_view}
use Rattle.lent.specs.Places.{settings_long, call_long, setting_numbers, call_numbers}
use Rattle.lent.specs.Lent.{fresh_fault}
use Rattle.lent.proofs.Sizes.{fresh_other, fresh_state_lem}
use Rattle.lent.proofs.fresh.Goals as goal

pub returns-then-not-is_state : goal.returns-then-not-is_state
returns-then-not-is_state c =
    let a = c.args in
    let e = fresh_other a.numbers.now a.scores.now a.g (sym c.is_state.ensures ∙ search rules) in
    record { value = e; numbers_after = lent_kept 11 _ _ _ e (λ z. omega arith) }

pub returns-in_err-opened : goal.returns-in_err-opened
returns-in_err-opened c =
    let a = c.args in
    let f = c.in_err-opened.field-0.0 in
    let e : number_of f ≡ fresh_fault a.numbers.now a.scores.now a.g
    = fresh_state_lem a.numbers.now a.scores.now a.g _ (search rules) (rw c.in_err-opened.was at (ap (λ (o : Opening). o.fault) c.fresh-opened.ensures)) in
    let r : c.from_residual.result ≡ Err f = search rules in
    record { value = rw r e; numbers_after = lent_kept _ _ _ _ e (number_some f) }

pub returns : goal.returns
returns c =
    let a = c.args in
    let ns = a.numbers.now in
    let z : 0 ≡ fresh_fault ns a.scores.now a.g
    = fresh_state_lem ns a.scores.now a.g 0 (search rules) (rw c.in_ok-opened.was at (ap (λ (o : Opening). o.fault) c.fresh-opened.ensures)) in
    let settings : c.copy_from_slice.new.self ≡ setting_numbers a.g = c.copy_from_slice.ensures.after ∙ c.setting_numbers.ensures in
    let call : c.copy_from_slice-2.new.self ≡ call_numbers (fresh_view a.g)
    = c.copy_from_slice-2.ensures.after ∙ c.call_numbers.ensures ∙ ap (λ (o : Opening). call_numbers o.state) c.fresh-opened.ensures in
    let rest = ap (λ (l : List ℕ). setting_numbers a.g ++ call_numbers (fresh_view a.g) ++ l) (drop-drop call_long settings_long ns) in
    record { value = z; numbers_after = rw (settings, call) rest ∙ lent_written _ _ _ z }
