-- Sums of words and the rounds, as the code goes through them.
use Rattle.std.proofs.Common.{◌≡◌, ◌+◌, ◌*◌, ◌-◌, ◌%◌, ◌^◌, List, ℕ, suc, refl, ap, ◌∙◌, subst, arith}
use Rattle.vc_base.specs.Words.{words_of, block_of}
use Rattle.twofish_core.specs.Twofish.{feistel, inverse_feistel, rounds, inverse_rounds, whitened, exchanged, cipher, inverse_cipher}

-- ---- sums modulo 2^32

pub sum_of_2 : (a b : ℕ) → ((a + b) % 2 ^ 32 + b) % 2 ^ 32 ≡ (a + 2 * b) % 2 ^ 32
sum_of_2 a b = omega arith

pub sum_of_3 : (a b k : ℕ) → ((a + b) % 2 ^ 32 + k) % 2 ^ 32 ≡ (a + b + k) % 2 ^ 32
sum_of_3 a b k = omega arith

pub sum_of_4 : (a b k : ℕ)
    → (((a + b) % 2 ^ 32 + b) % 2 ^ 32 + k) % 2 ^ 32 ≡ (a + 2 * b + k) % 2 ^ 32
sum_of_4 a b k = omega arith

-- ---- the rounds, under a function f and the words k

pub rounds_none : (f : ℕ → ℕ) (k s : List ℕ) → s ≡ rounds f k s 0
unfolding rounds
rounds_none f k s = refl

round_after : (f : ℕ → ℕ) (k s : List ℕ) (n m : ℕ) → suc n ≡ m
    → feistel f k n (rounds f k s n) ≡ rounds f k s m
unfolding rounds
round_after f k s n m next =
    subst (λ (i : ℕ). feistel f k n (rounds f k s n) ≡ rounds f k s i) next refl

pub rounds_more : (f : ℕ → ℕ) (k s x : List ℕ) (r : ℕ) → x ≡ rounds f k s r
    → feistel f k r x ≡ rounds f k s (r + 1)
rounds_more f k s x r so_far = ap (feistel f k r) so_far ∙ round_after f k s r (r + 1) (omega arith)

pub rounds_end : (f : ℕ → ℕ) (k b x : List ℕ) (r : ℕ) → r ≡ 16
    → x ≡ rounds f k (whitened k 0 (words_of b)) r
    → block_of (whitened k 4 (exchanged x)) ≡ cipher f k b
unfolding cipher
rounds_end f k b x r last so_far =
    ap (λ (s : List ℕ). block_of (whitened k 4 (exchanged s)))
    (so_far ∙ ap (rounds f k (whitened k 0 (words_of b))) last)

-- ---- the rounds undone

pub inverse_rounds_none : (f : ℕ → ℕ) (k s : List ℕ) → s ≡ inverse_rounds f k s 0
unfolding inverse_rounds
inverse_rounds_none f k s = refl

inverse_round_after : (f : ℕ → ℕ) (k s : List ℕ) (n m : ℕ) → suc n ≡ m
    → inverse_feistel f k (15 - n) (inverse_rounds f k s n) ≡ inverse_rounds f k s m
unfolding inverse_rounds
inverse_round_after f k s n m next =
    let before : List ℕ = inverse_feistel f k (15 - n) (inverse_rounds f k s n) in
    subst (λ (i : ℕ). before ≡ inverse_rounds f k s i) next refl

pub inverse_rounds_end : (f : ℕ → ℕ) (k b x : List ℕ) (r : ℕ) → r ≡ 0
    → x ≡ inverse_rounds f k (exchanged (whitened k 4 (words_of b))) (16 - r)
    → block_of (whitened k 0 x) ≡ inverse_cipher f k b
unfolding inverse_cipher
inverse_rounds_end f k b x r last so_far =
    let all : 16 - r ≡ 16 = omega arith in
    ap (λ (s : List ℕ). block_of (whitened k 0 s))
    (so_far ∙ ap (inverse_rounds f k (exchanged (whitened k 4 (words_of b)))) all)

-- ---- two rounds at a time

pub two_rounds_more : (f : ℕ → ℕ) (k s x : List ℕ) (r m n : ℕ) → m ≡ r → n ≡ r + 2
    → x ≡ rounds f k s m → feistel f k (r + 1) (feistel f k r x) ≡ rounds f k s n
two_rounds_more f k s x r m n before after so_far =
    let two : r + 1 + 1 ≡ n = omega arith in
    rounds_more f k s (feistel f k r x) (r + 1)
    (rounds_more f k s x r (so_far ∙ ap (rounds f k s) before))
    ∙ ap (rounds f k s) two

-- round r is undone, after the m rounds above it
pub inverse_round_more : (f : ℕ → ℕ) (k s x : List ℕ) (r m n : ℕ) → m + r ≡ 15 → n ≡ m + 1
    → x ≡ inverse_rounds f k s m → inverse_feistel f k r x ≡ inverse_rounds f k s n
inverse_round_more f k s x r m n number after so_far =
    let same : r ≡ 15 - m = omega arith in
    ap (inverse_feistel f k r) so_far
    ∙ ap (λ (i : ℕ). inverse_feistel f k i (inverse_rounds f k s m)) same
    ∙ inverse_round_after f k s m n (omega arith)

pub two_inverse_rounds_more : (f : ℕ → ℕ) (k s x : List ℕ) (r m n : ℕ) → m + r ≡ 14 → n + r ≡ 16
    → x ≡ inverse_rounds f k s m
    → inverse_feistel f k r (inverse_feistel f k (r + 1) x) ≡ inverse_rounds f k s n
two_inverse_rounds_more f k s x r m n before after so_far =
    inverse_round_more f k s (inverse_feistel f k (r + 1) x) r (m + 1) n (omega arith) (omega arith)
    (inverse_round_more f k s x (r + 1) m (m + 1) (omega arith) refl so_far)
