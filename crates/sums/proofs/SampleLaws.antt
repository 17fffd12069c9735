-- A list of samples and the list of their values: as long, and place by place. What a generic function's proof takes from the law of `Sample`.
-- Assumes nothing.
use Rattle.std.proofs.Common.{◌≡◌, ℕ, ◌+◌, ◌<◌, ltb, List, ◌++◌, length, get_or, set, take, drop, map, sym, ap, ◌∙◌, arith}
use Rattle.std.proofs.lemmas.List.{length-map, get_or-map, map-append, map-set, take-map, drop-map}
use borrow.Rule.Slice.PartMut.{put_mid}
use Rattle.sums.proofs.Wrote.{Wrote, front_more}

module _ {A : Type 0} {value : A → ℕ} {values : List A → List ℕ} (each : (s : List A) → values s ≡ map value s) where
  pub length_values : (s : List A) → length (values s) ≡ length s
  length_values s = ap length (each s) ∙ length-map s value

  pub values_at : (s : List A) (i : ℕ) (d : A) → i < length s → get_or (values s) i 0 ≡ value (get_or s i d)
  values_at s i d h = ap (λ (l : List ℕ). get_or l i 0) (each s) ∙ get_or-map value s i d 0 h

  -- a sample that was read from the list
  pub value_read : (s : List A) (i : ℕ) (x : A) → i < length s → x ≡ get_or s i x → value x ≡ get_or (values s) i 0
  value_read s i x h e = ap value e ∙ sym (values_at s i x h)

  pub values_set : (s : List A) (i : ℕ) (x : A) → values (set s i x) ≡ set (values s) i (value x)
  values_set s i x = each (set s i x) ∙ map-set value s i x ∙ ap (λ (l : List ℕ). set l i (value x)) (sym (each s))

  pub values_take : (n : ℕ) (s : List A) → values (take n s) ≡ take n (values s)
  values_take n s = each (take n s) ∙ sym (take-map value n s) ∙ ap (take n) (sym (each s))

  pub values_drop : (n : ℕ) (s : List A) → values (drop n s) ≡ drop n (values s)
  values_drop n s = each (drop n s) ∙ sym (drop-map value n s) ∙ ap (drop n) (sym (each s))

  pub values_append : (s t : List A) → values (s ++ t) ≡ values s ++ values t
  values_append s t = rw (each (s ++ t), each s, each t) (map-append value s t)

  -- a part that is put back
  pub values_put_mid : (i n : ℕ) (s t : List A) → values (put_mid i n s t) ≡ put_mid i n (values s) (values t)
  values_put_mid i n s t =
      let rest : values (drop n (drop i s)) ≡ drop n (drop i (values s)) = values_drop n (drop i s) ∙ ap (drop n) (values_drop i s) in
      values_append (take i s) (t ++ drop n (drop i s))
      ∙ rw (values_take i s, values_append t (drop n (drop i s)), rest)

  -- a list of samples that is written from its front on: one sample more
  pub front_sample : {g : ℕ → ℕ} {t s : List A} {i : ℕ} → Wrote (λ (k : ℕ). ltb k i) g (values t) (values s) → (x : A) → i < length t → value x ≡ g i
      → Wrote (λ (k : ℕ). ltb k (i + 1)) g (values t) (values (set s i x))
  front_sample {g} {t} {s} {i} w x h e = rw (values_set s i x) (front_more w (value x) (omega (arith, length_values t)) e)
