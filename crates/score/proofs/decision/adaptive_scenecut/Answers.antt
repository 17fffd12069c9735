-- `adaptive_scenecut` meets its contract: its tests are those of the definition, in the definition's order, and the counts are over its parts
-- of the list. Where there is no entry o, the NaNs that stand for it are not over.
-- Assumes nothing.
use mathlib.Core.Path.{◌≡◌, refl, sym, ap, ◌∙◌}
use mathlib.Core.Bool.{true, false, and-false}
use Prim.Native.Nat.{◌+◌}
use native.Mathlib.Omega.{arith}
use lib.ListN.{length, take, drop, get_or, get_or-eq_default}
use lib.Ieee.{le, lt, eq}
use Rattle.std.proofs.Common.{rules, tests}
use Rattle.std.proofs.lemmas.Iterator.{YieldsList-from_slice}
use Rattle.std.proofs.lemmas.Iterator.Consumers.{count_from_yields_List, YieldsList-from_filter}
use Rattle.std.proofs.lemmas.Iterator.Search.{any_from_yields_List}
use Rattle.std.proofs.lemmas.List.{take_rest}
use Rattle.score.specs.Search.{any_of, count_of}
use Rattle.score.specs.Deque.{content, no_score}
use Rattle.score.specs.Cut.{over, reached, cut_of}
use Rattle.score.proofs.Counts.{any_is, count_is}
use Rattle.score.proofs.decision.adaptive_scenecut.Goals as goal

unset : over true no_score ≡ false
unfolding le lt eq
unset = refl

pub returns-then-scores-o : goal.returns-then-scores-o
unfolding cut_of
returns-then-scores-o c =
    let l = content c.args.d in
    let none : get_or l c.args.o no_score ≡ no_score = get_or-eq_default l no_score (omega (arith, ap length c.scores-scores.ensures)) in
    rw (none, unset) (sym (and-false (any_of (reached c.args.t) (drop c.args.o l))))

pub returns-then-not-any : goal.returns-then-not-any
unfolding cut_of
returns-then-not-any c =
    let late = drop c.args.o (content c.args.d) in
    let rest = rw (c.scores-scores.ensures, take_rest (content c.args.d) c.args.o) at c.iter.ensures.rest in
    let reach : c.any.result ≡ any_of (reached c.args.t) late =
    any_from_yields_List (reached c.args.t) _ _ c.any.result c.any.ensures.ran (YieldsList-from_slice late rest) (λ x b q k. search (rules, tests)) ∙ any_is (reached c.args.t) late in
    rw (← reach, c.if-not-any.true)

pub returns-then-not-is_over_forward : goal.returns-then-not-is_over_forward
unfolding cut_of
returns-then-not-is_over_forward c =
    let here : over true (get_or (content c.args.d) c.args.o no_score) ≡ false = cc in
    rw (here, and-false) refl

pub returns : goal.returns
unfolding cut_of
returns c =
    let l = content c.args.d in
    let o = c.args.o in
    let late = drop o l in
    let rest = rw (c.scores-scores.ensures, take_rest l o) at c.iter.ensures.rest in
    let reach : c.any.result ≡ any_of (reached c.args.t) late =
    any_from_yields_List (reached c.args.t) _ _ c.any.result c.any.ensures.ran (YieldsList-from_slice late rest) (λ x b q k. search (rules, tests)) ∙ any_is (reached c.args.t) late in
    let here : c.is_over_forward.result ≡ over true (get_or l o no_score) = cc in
    let before : c.count-before.result ≡ count_of (over true) (take o l) =
    count_from_yields_List c.filter.result _ c.count-before.ensures.ran (YieldsList-from_filter _ (over true) (YieldsList-from_slice (take o l) (ap (λ s. s.rest.now) c.filter.ensures.source ∙ rw c.scores-scores.ensures at c.iter-2.ensures.rest)) c.filter.ensures.closure (λ x b q k. search (rules, tests)))
    ∙ count_is (over true) (take o l) in
    let after : c.count-after.result ≡ count_of (over false) (drop (o + 1) l) =
    count_from_yields_List c.filter-2.result _ c.count-after.ensures.ran (YieldsList-from_filter _ (over false) (YieldsList-from_slice (drop (o + 1) l) (ap (λ s. s.rest.now) c.filter-2.ensures.source ∙ rw (c.scores-scores.ensures, take_rest l (o + 1)) at c.iter-3.ensures.rest)) c.filter-2.ensures.closure (λ x b q k. search (rules, tests)))
    ∙ count_is (over false) (drop (o + 1) l) in
    let first : c.is_over_forward-2.result ≡ over true (get_or l 0 no_score) = cc in
    c.no_flash.ensures ∙ rw (← reach, c.if-not-any.false, ← here, c.if-not-is_over_forward.false, ← before, ← after, ← first) refl
