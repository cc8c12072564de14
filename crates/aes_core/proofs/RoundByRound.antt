-- The rounds, one after the other, as a loop counts them.
use Rattle.std.proofs.Common.{◌≡◌, ◌<◌, ◌≤◌, ◌+◌, ◌-◌, List, ℕ, suc, refl, ap, ◌∙◌, subst, arith}
use Rattle.aes_core.specs.Aes.{sub_bytes, inverse_sub_bytes, shift_rows, inverse_shift_rows, mix_columns, inverse_mix_columns, add_round_key, rounds, cipher, inverse_rounds, inverse_cipher}

pub rounds_none : (w s : List ℕ) → add_round_key w 0 s ≡ rounds w s 0
unfolding rounds
rounds_none w s = refl

round_after : (w s : List ℕ) (n r : ℕ) → suc n ≡ r → add_round_key w r (mix_columns (shift_rows (sub_bytes (rounds w s n)))) ≡ rounds w s r
unfolding rounds
round_after w s n r next = subst (λ (k : ℕ). add_round_key w k (mix_columns (shift_rows (sub_bytes (rounds w s n)))) ≡ rounds w s k) next refl

-- round r, which begins with the state after the rounds before it
pub rounds_more : (w s : List ℕ) (r : ℕ) → 1 ≤ r → (x : List ℕ) → x ≡ rounds w s (r - 1)
    → add_round_key w r (mix_columns (shift_rows (sub_bytes x))) ≡ rounds w s (r + 1 - 1)
rounds_more w s r low x is =
    let same : r ≡ r + 1 - 1 = omega arith in
    ap (λ (y : List ℕ). add_round_key w r (mix_columns (shift_rows (sub_bytes y)))) is
    ∙ round_after w s (r - 1) r (omega arith)
    ∙ ap (rounds w s) same

pub rounds_end : (w s : List ℕ) (r : ℕ) → r ≡ 14 → (x : List ℕ) → x ≡ rounds w s (r - 1)
    → add_round_key w 14 (shift_rows (sub_bytes x)) ≡ cipher w s
unfolding cipher
rounds_end w s r at x is =
    let last : r - 1 ≡ 13 = omega arith in
    ap (λ (y : List ℕ). add_round_key w 14 (shift_rows (sub_bytes y))) (is ∙ ap (rounds w s) last)

-- ---- the inverse cipher

pub inverse_rounds_none : (w s : List ℕ) → add_round_key w 14 s ≡ inverse_rounds w s 0
unfolding inverse_rounds
inverse_rounds_none w s = refl

inverse_round_after : (w s : List ℕ) (n m : ℕ) → suc n ≡ m
    → inverse_mix_columns (add_round_key w (13 - n) (inverse_sub_bytes (inverse_shift_rows (inverse_rounds w s n)))) ≡ inverse_rounds w s m
unfolding inverse_rounds
inverse_round_after w s n m next =
    subst (λ (k : ℕ). inverse_mix_columns (add_round_key w (13 - n) (inverse_sub_bytes (inverse_shift_rows (inverse_rounds w s n)))) ≡ inverse_rounds w s k) next refl

-- the round that uses round key r - 1, after those from 13 down to r
pub inverse_rounds_more : (w s : List ℕ) (r : ℕ) → 1 < r → r ≤ 14 → (x : List ℕ) → x ≡ inverse_rounds w s (14 - r)
    → inverse_mix_columns (add_round_key w (r - 1) (inverse_sub_bytes (inverse_shift_rows x))) ≡ inverse_rounds w s (14 - (r - 1))
inverse_rounds_more w s r low high x is =
    let key : r - 1 ≡ 13 - (14 - r) = omega arith in
    ap (λ (y : List ℕ). inverse_mix_columns (add_round_key w (r - 1) (inverse_sub_bytes (inverse_shift_rows y)))) is
    ∙ ap (λ (k : ℕ). inverse_mix_columns (add_round_key w k (inverse_sub_bytes (inverse_shift_rows (inverse_rounds w s (14 - r)))))) key
    ∙ inverse_round_after w s (14 - r) (14 - (r - 1)) (omega arith)

pub inverse_rounds_end : (w s : List ℕ) (r : ℕ) → r ≡ 1 → (x : List ℕ) → x ≡ inverse_rounds w s (14 - r)
    → add_round_key w 0 (inverse_sub_bytes (inverse_shift_rows x)) ≡ inverse_cipher w s
unfolding inverse_cipher
inverse_rounds_end w s r at x is =
    let last : 14 - r ≡ 13 = omega arith in
    ap (λ (y : List ℕ). add_round_key w 0 (inverse_sub_bytes (inverse_shift_rows y))) (is ∙ ap (inverse_rounds w s) last)
