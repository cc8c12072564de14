-- Bytes written over a list: what stands where they were written, before them and behind them.
use Rattle.std.proofs.Common.{◌≡◌, ℕ, ◌+◌, ◌-◌, ◌≤◌, List, ◌++◌, length, take, drop, refl, sym, ap, ◌∙◌, arith, length-append, length-drop, length-take-le, drop_at, take_at, take-add}
use Rattle.std.proofs.lemmas.List.{take-append-le, drop-drop, drop-take, take-take}
use Rattle.vc_outside.specs.Told.{written}

pub length-written : (at : ℕ) (xs b : List ℕ) → at + length xs ≤ length b
    → length (written at xs b) ≡ length b
length-written at xs b inside =
    length-append (take at b) (xs ++ drop (at + length xs) b)
    ∙ omega (
      arith,
      inside,
      length-take-le at b (omega (arith, inside)),
      length-append xs
          (drop (at + length xs) b),
      length-drop (at + length xs) b,
    )

-- from there on: what was written, then the old bytes
pub drop_from : (at : ℕ) (xs b : List ℕ) → at ≤ length b
    → drop at (written at xs b) ≡ xs ++ drop (at + length xs) b
drop_from at xs b inside = drop_at (take at b) (xs ++ drop (at + length xs) b) at
    (length-take-le at b inside)

-- up to its end: the old bytes, then what was written
pub take_through : (at n : ℕ) (xs b : List ℕ) → length xs ≡ n → at ≤ length b
    → take (at + n) (written at xs b) ≡ take at b ++ xs
take_through at n xs b long inside =
    take-add at n (written at xs b)
    ∙ ap (λ (f : List ℕ). f ++ take n (drop at (written at xs b)))
    (take_at (take at b) (xs ++ drop (at + length xs) b) at (length-take-le at b inside))
    ∙ ap (λ (f : List ℕ). take at b ++ take n f) (drop_from at xs b inside)
    ∙ ap (λ (f : List ℕ). take at b ++ f) (take_at xs (drop (at + length xs) b) n long)

-- behind it the old bytes stay
pub drop_behind : (at from : ℕ) (xs b : List ℕ) → at + length xs ≤ from → at + length xs ≤ length b
    → drop from (written at xs b) ≡ drop from b
drop_behind at from xs b behind inside =
    let n : ℕ = length xs in
    let cut : at + (n + (from - (at + n))) ≡ from = omega (arith, behind) in
    let end : at + n + (from - (at + n)) ≡ from = omega (arith, behind) in
    ap (λ (k : ℕ). drop k (written at xs b)) (sym cut)
    ∙ sym (drop-drop (n + (from - (at + n))) at (written at xs b))
    ∙ ap (drop (n + (from - (at + n)))) (drop_from at xs b (omega (arith, inside)))
    ∙ sym (drop-drop (from - (at + n)) n (xs ++ drop (at + n) b))
    ∙ ap (drop (from - (at + n))) (drop_at xs (drop (at + n) b) n refl)
    ∙ drop-drop (from - (at + n)) (at + n) b
    ∙ ap (λ (k : ℕ). drop k b) end

-- before it too
pub part_before : (at from n : ℕ) (xs b : List ℕ) → from + n ≤ at → at ≤ length b
    → take n (drop from (written at xs b)) ≡ take n (drop from b)
part_before at from n xs b before inside =
    sym (drop-take from n (written at xs b))
    ∙ ap (drop from) (take-append-le (from + n) (take at b) (xs ++ drop (at + length xs) b)
    (omega (arith, before, length-take-le at b inside)) ∙ take-take (from + n) at b before)
    ∙ drop-take from n b
