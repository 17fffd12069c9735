-- `score_log::put_patterns` meets its contract: each float's pattern is written behind the one before it. Assumes nothing.
use mathlib.Core.Path.{◌≡◌, ap, ◌∙◌}
use mathlib.Core.List.{List, ◌++◌, append_assoc, append-nil}
use Prim.Native.Nat.{ℕ, ◌+◌}
use native.Mathlib.Omega.{arith}
use lib.Ieee.{binary64, to_bits}
use lib.ListN.{length, length-append}
use Rattle.octets.specs.Octets.{bytes_of, overwritten}
use Rattle.octets.proofs.Laws.{bytes_long, with_here}
use Rattle.score_log.specs.Records.{pattern_long, patterns, pattern_bytes}
use Rattle.score_log.proofs.Puts.{number_next, all_put}
use Rattle.score_log.proofs.RecordLaws.{patterns_long}
use Rattle.score_log.proofs.put_patterns.Goals as goal

longer : (bs : List ℕ) (k x : ℕ) → length bs ≡ k → length (bs ++ bytes_of pattern_long x) ≡ k + pattern_long
longer bs k x e = omega (arith, length-append bs (bytes_of pattern_long x), bytes_long pattern_long x)

pub returns : goal.returns
unfolding pattern_bytes
returns c =
    let s = c.args.bytes.now in
    let r = c.args.r in
    let b1 = bytes_of pattern_long (to_bits binary64 r.inter_cost) in
    let b2 = b1 ++ bytes_of pattern_long (to_bits binary64 r.imp_block_cost) in
    let b3 = b2 ++ bytes_of pattern_long (to_bits binary64 r.backward_adjusted_cost) in
    let b4 = b3 ++ bytes_of pattern_long (to_bits binary64 r.forward_adjusted_cost) in
    let l1 : length b1 ≡ 8 = bytes_long 8 (to_bits binary64 r.inter_cost) in
    let l2 : length b2 ≡ 16 = longer b1 8 (to_bits binary64 r.imp_block_cost) l1 in
    let l3 : length b3 ≡ 24 = longer b2 16 (to_bits binary64 r.backward_adjusted_cost) l2 in
    let l4 : length b4 ≡ 32 = longer b3 24 (to_bits binary64 r.forward_adjusted_cost) l3 in
    let e1 = c.put_f64.ensures ∙ with_here 8 0 s (omega arith) (to_bits binary64 r.inter_cost) in
    let e2 = c.put_f64-2.ensures ∙ number_next 0 8 b1 s c.put_f64.new.s l1 e1 8 (to_bits binary64 r.imp_block_cost) (omega arith) in
    let e3 = c.put_f64-3.ensures ∙ number_next 0 16 b2 s c.put_f64-2.new.s l2 e2 8 (to_bits binary64 r.backward_adjusted_cost) (omega arith) in
    let e4 = c.put_f64-4.ensures ∙ number_next 0 24 b3 s c.put_f64-3.new.s l3 e3 8 (to_bits binary64 r.forward_adjusted_cost) (omega arith) in
    let e5 = c.put_f64-5.ensures ∙ number_next 0 32 b4 s c.put_f64-4.new.s l4 e4 8 (to_bits binary64 r.threshold) (omega arith) in
    e5 ∙ ap (λ (bs : List ℕ). overwritten 0 bs s) (simp (append_assoc, append-nil)) ∙ all_put (pattern_bytes (patterns r)) s (omega (arith, patterns_long (patterns r)))
