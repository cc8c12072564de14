-- The cipher and the inverse cipher undo each other, and keep blocks blocks.
--
-- Each step of a round is undone by its inverse. The inverse cipher after n rounds is at what the cipher
-- has after its SubBytes and ShiftRows of round 14 - n, and the other way round.
use Rattle.std.proofs.Common.{◌≡◌, ◌<◌, ◌+◌, ◌*◌, ◌-◌, ◌%◌, ◌++◌, List, [], ◌∷◌, ℕ, zero, suc, refl, sym, ap, ap₂, ◌∙◌, arith}
use Rattle.vc_base.specs.Bytes.{IsBytes, piece}
use Rattle.vc_base.proofs.Bytes.{IsBytes-xor, IsBytes-piece, xor_bytes_cancel}
use Rattle.aes_core.specs.Aes.{sub_byte, inverse_sub_byte, at, column, row_times, column_times, mix_row, inverse_mix_row, sub_bytes, inverse_sub_bytes, shift_rows, inverse_shift_rows, mix_columns, inverse_mix_columns, add_round_key, rounds, cipher, inverse_rounds, inverse_cipher}
use Rattle.aes_core.specs.Laws.Sbox.{sub_byte-below, inverse_sub_byte-below, sub_undone, sub_done}
use Rattle.aes_core.specs.Laws.States.{of_state, state-ext, is_state}
use Rattle.aes_core.specs.Laws.MixColumns.{mix_column_undone, mix_column_done, row_times-below}

-- ---- each step keeps a state a state

sub_bytes_state : (s : List ℕ) → IsBytes 16 s → IsBytes 16 (sub_bytes s)
unfolding sub_bytes
sub_bytes_state s is = is_state (λ r c. sub_byte (at s r c)) (λ r c. sub_byte-below (at s r c) (is.each (r + 4 * c)))

inverse_sub_bytes_state : (s : List ℕ) → IsBytes 16 s → IsBytes 16 (inverse_sub_bytes s)
unfolding inverse_sub_bytes
inverse_sub_bytes_state s is =
    is_state (λ r c. inverse_sub_byte (at s r c)) (λ r c. inverse_sub_byte-below (at s r c) (is.each (r + 4 * c)))

pub shift_rows_state : (s : List ℕ) → IsBytes 16 s → IsBytes 16 (shift_rows s)
unfolding shift_rows
shift_rows_state s is = is_state (λ r c. at s r ((c + r) % 4)) (λ r c. is.each (r + 4 * ((c + r) % 4)))

pub inverse_shift_rows_state : (s : List ℕ) → IsBytes 16 s → IsBytes 16 (inverse_shift_rows s)
unfolding inverse_shift_rows
inverse_shift_rows_state s is = is_state (λ r c. at s r ((c + 4 - r) % 4)) (λ r c. is.each (r + 4 * ((c + 4 - r) % 4)))

mix_columns_state : (s : List ℕ) → IsBytes 16 (mix_columns s)
unfolding mix_columns
mix_columns_state s = is_state (λ r c. row_times mix_row r (column s c)) (λ r c. row_times-below mix_row r (column s c))

inverse_mix_columns_state : (s : List ℕ) → IsBytes 16 (inverse_mix_columns s)
unfolding inverse_mix_columns
inverse_mix_columns_state s =
    is_state (λ r c. row_times inverse_mix_row r (column s c)) (λ r c. row_times-below inverse_mix_row r (column s c))

add_round_key_state : (w : List ℕ) (r : ℕ) (s : List ℕ) → IsBytes 240 w → r < 15 → IsBytes 16 s → IsBytes 16 (add_round_key w r s)
unfolding add_round_key
add_round_key_state w r s key below is = IsBytes-xor 16 s (piece 16 r w) is (IsBytes-piece 240 16 r w key (omega arith))

-- ---- each step is undone

sub_bytes_undone : (s : List ℕ) → IsBytes 16 s → inverse_sub_bytes (sub_bytes s) ≡ s
unfolding sub_bytes inverse_sub_bytes
sub_bytes_undone s is =
    state-ext (λ r c. inverse_sub_byte (sub_byte (at s r c))) (at s) (λ r c. sub_undone (at s r c) (is.each (r + 4 * c)))
    ∙ sym (of_state s is.count)

sub_bytes_done : (s : List ℕ) → IsBytes 16 s → sub_bytes (inverse_sub_bytes s) ≡ s
unfolding sub_bytes inverse_sub_bytes
sub_bytes_done s is =
    state-ext (λ r c. sub_byte (inverse_sub_byte (at s r c))) (at s) (λ r c. sub_done (at s r c) (is.each (r + 4 * c)))
    ∙ sym (of_state s is.count)

shift_rows_undone : (s : List ℕ) → IsBytes 16 s → inverse_shift_rows (shift_rows s) ≡ s
unfolding shift_rows inverse_shift_rows
shift_rows_undone s is = sym (of_state s is.count)

shift_rows_done : (s : List ℕ) → IsBytes 16 s → shift_rows (inverse_shift_rows s) ≡ s
unfolding shift_rows inverse_shift_rows
shift_rows_done s is = sym (of_state s is.count)

columns_undone : (s : List ℕ) (f : List ℕ → List ℕ) → IsBytes 16 s
    → ((a b c d : ℕ) → a < 256 → b < 256 → c < 256 → d < 256 → f (a ∷ b ∷ c ∷ d ∷ []) ≡ a ∷ b ∷ c ∷ d ∷ [])
    → f (column s 0) ++ f (column s 1) ++ f (column s 2) ++ f (column s 3) ≡ s
columns_undone s f is undone =
    let one : (c : ℕ) → f (column s c) ≡ column s c
    = λ c. undone (at s 0 c) (at s 1 c) (at s 2 c) (at s 3 c) (is.each (0 + 4 * c)) (is.each (1 + 4 * c)) (is.each (2 + 4 * c)) (is.each (3 + 4 * c)) in
    ap₂ ◌++◌ (ap₂ ◌++◌ (ap₂ ◌++◌ (one 0) (one 1)) (one 2)) (one 3)
    ∙ sym (of_state s is.count)

mix_columns_undone : (s : List ℕ) → IsBytes 16 s → inverse_mix_columns (mix_columns s) ≡ s
unfolding mix_columns inverse_mix_columns
mix_columns_undone s is = columns_undone s (λ x. column_times inverse_mix_row (column_times mix_row x)) is mix_column_undone

mix_columns_done : (s : List ℕ) → IsBytes 16 s → mix_columns (inverse_mix_columns s) ≡ s
unfolding mix_columns inverse_mix_columns
mix_columns_done s is = columns_undone s (λ x. column_times mix_row (column_times inverse_mix_row x)) is mix_column_done

add_round_key_undone : (w : List ℕ) (r : ℕ) (s : List ℕ) → IsBytes 240 w → r < 15 → IsBytes 16 s → add_round_key w r (add_round_key w r s) ≡ s
unfolding add_round_key
add_round_key_undone w r s key below is =
    let round_key : IsBytes 16 (piece 16 r w) = IsBytes-piece 240 16 r w key (omega arith) in
    xor_bytes_cancel s (piece 16 r w) (omega (arith, is.count, round_key.count))

-- ---- two steps at once

abbrev half : List ℕ → List ℕ
half s = shift_rows (sub_bytes s)

abbrev inverse_half : List ℕ → List ℕ
inverse_half s = inverse_sub_bytes (inverse_shift_rows s)

half_state : (s : List ℕ) → IsBytes 16 s → IsBytes 16 (half s)
half_state s is = shift_rows_state (sub_bytes s) (sub_bytes_state s is)

inverse_half_state : (s : List ℕ) → IsBytes 16 s → IsBytes 16 (inverse_half s)
inverse_half_state s is = inverse_sub_bytes_state (inverse_shift_rows s) (inverse_shift_rows_state s is)

half_undone : (s : List ℕ) → IsBytes 16 s → inverse_half (half s) ≡ s
half_undone s is = ap inverse_sub_bytes (shift_rows_undone (sub_bytes s) (sub_bytes_state s is)) ∙ sub_bytes_undone s is

half_done : (s : List ℕ) → IsBytes 16 s → half (inverse_half s) ≡ s
half_done s is = ap shift_rows (sub_bytes_done (inverse_shift_rows s) (inverse_shift_rows_state s is)) ∙ shift_rows_done s is

-- ---- the rounds keep a state a state

rounds_state : (w s : List ℕ) (n : ℕ) → IsBytes 240 w → IsBytes 16 s → n < 15 → IsBytes 16 (rounds w s n)
unfolding rounds
rounds_state w s zero key is below = add_round_key_state w 0 s key below is
rounds_state w s (suc n) key is below = add_round_key_state w (suc n) _ key below (mix_columns_state _)

inverse_rounds_state : (w s : List ℕ) (n : ℕ) → IsBytes 240 w → IsBytes 16 s → IsBytes 16 (inverse_rounds w s n)
unfolding inverse_rounds
inverse_rounds_state w s zero key is = add_round_key_state w 14 s key (omega arith) is
inverse_rounds_state w s (suc n) key is = inverse_mix_columns_state _

pub cipher_is_block : (w b : List ℕ) → IsBytes 240 w → IsBytes 16 b → IsBytes 16 (cipher w b)
unfolding cipher
cipher_is_block w b key is =
    add_round_key_state w 14 (half (rounds w b 13)) key (omega arith) (half_state (rounds w b 13) (rounds_state w b 13 key is (omega arith)))

pub inverse_cipher_is_block : (w b : List ℕ) → IsBytes 240 w → IsBytes 16 b → IsBytes 16 (inverse_cipher w b)
unfolding inverse_cipher
inverse_cipher_is_block w b key is =
    add_round_key_state w 0 (inverse_half (inverse_rounds w b 13)) key (omega arith)
    (inverse_half_state (inverse_rounds w b 13) (inverse_rounds_state w b 13 key is))

-- ---- deciphering goes back through the rounds

-- from the state that round m + 1 began with back to the one that round m began with
back_one : (w b : List ℕ) (m : ℕ) → IsBytes 240 w → IsBytes 16 b → m < 13
    → inverse_mix_columns (add_round_key w (suc m) (rounds w b (suc m))) ≡ half (rounds w b m)
unfolding rounds
back_one w b m key is below =
    let before : IsBytes 16 (half (rounds w b m)) = half_state (rounds w b m) (rounds_state w b m key is (omega arith)) in
    ap inverse_mix_columns (add_round_key_undone w (suc m) (mix_columns (half (rounds w b m))) key (omega arith) (mix_columns_state _))
    ∙ mix_columns_undone (half (rounds w b m)) before

back_through : (w b : List ℕ) (n m : ℕ) → IsBytes 240 w → IsBytes 16 b → n + m ≡ 13
    → inverse_rounds w (cipher w b) n ≡ half (rounds w b m)
unfolding inverse_rounds
back_through w b zero m key is sum =
    let last : m ≡ 13 = omega arith in
    let start : add_round_key w 14 (cipher w b) ≡ half (rounds w b 13)
    = unfold cipher in add_round_key_undone w 14 (half (rounds w b 13)) key (omega arith) (half_state (rounds w b 13) (rounds_state w b 13 key is (omega arith))) in
    start ∙ ap (λ (k : ℕ). half (rounds w b k)) (sym last)
back_through w b (suc n) m key is sum =
    let number : 13 - n ≡ suc m = omega arith in
    let before : inverse_rounds w (cipher w b) n ≡ half (rounds w b (suc m)) = back_through w b n (suc m) key is (omega arith) in
    ap (λ (x : List ℕ). inverse_mix_columns (add_round_key w (13 - n) (inverse_half x))) before
    ∙ ap (λ (x : List ℕ). inverse_mix_columns (add_round_key w (13 - n) x)) (half_undone (rounds w b (suc m)) (rounds_state w b (suc m) key is (omega arith)))
    ∙ ap (λ (k : ℕ). inverse_mix_columns (add_round_key w k (rounds w b (suc m)))) number
    ∙ back_one w b m key is (omega arith)

pub cipher_undone : (w b : List ℕ) → IsBytes 240 w → IsBytes 16 b → inverse_cipher w (cipher w b) ≡ b
unfolding inverse_cipher
cipher_undone w b key is =
    let first : rounds w b 0 ≡ add_round_key w 0 b = unfold rounds in refl in
    ap (λ (x : List ℕ). add_round_key w 0 (inverse_half x)) (back_through w b 13 0 key is refl)
    ∙ ap (add_round_key w 0) (half_undone (rounds w b 0) (rounds_state w b 0 key is (omega arith)) ∙ first)
    ∙ add_round_key_undone w 0 b key (omega arith) is

-- ---- enciphering goes forth through the rounds of the inverse cipher

forth_one : (w b : List ℕ) (m r : ℕ) → IsBytes 240 w → IsBytes 16 b → r ≡ 13 - m → r < 15
    → add_round_key w r (mix_columns (inverse_rounds w b (suc m))) ≡ inverse_half (inverse_rounds w b m)
unfolding inverse_rounds
forth_one w b m r key is number below =
    let before : IsBytes 16 (inverse_half (inverse_rounds w b m)) = inverse_half_state (inverse_rounds w b m) (inverse_rounds_state w b m key is) in
    let same : add_round_key w (13 - m) (inverse_half (inverse_rounds w b m)) ≡ add_round_key w r (inverse_half (inverse_rounds w b m))
    = ap (λ (k : ℕ). add_round_key w k (inverse_half (inverse_rounds w b m))) (sym number) in
    ap (λ (x : List ℕ). add_round_key w r (mix_columns (inverse_mix_columns x))) same
    ∙ ap (add_round_key w r) (mix_columns_done _ (add_round_key_state w r (inverse_half (inverse_rounds w b m)) key below before))
    ∙ add_round_key_undone w r (inverse_half (inverse_rounds w b m)) key below before

forth_through : (w b : List ℕ) (n m : ℕ) → IsBytes 240 w → IsBytes 16 b → n + m ≡ 13
    → rounds w (inverse_cipher w b) n ≡ inverse_half (inverse_rounds w b m)
unfolding rounds
forth_through w b zero m key is sum =
    let last : m ≡ 13 = omega arith in
    let start : add_round_key w 0 (inverse_cipher w b) ≡ inverse_half (inverse_rounds w b 13)
    = unfold inverse_cipher in add_round_key_undone w 0 (inverse_half (inverse_rounds w b 13)) key (omega arith) (inverse_half_state (inverse_rounds w b 13) (inverse_rounds_state w b 13 key is)) in
    start ∙ ap (λ (k : ℕ). inverse_half (inverse_rounds w b k)) (sym last)
forth_through w b (suc n) m key is sum =
    let before : rounds w (inverse_cipher w b) n ≡ inverse_half (inverse_rounds w b (suc m)) = forth_through w b n (suc m) key is (omega arith) in
    ap (λ (x : List ℕ). add_round_key w (suc n) (mix_columns (half x))) before
    ∙ ap (λ (x : List ℕ). add_round_key w (suc n) (mix_columns x)) (half_done (inverse_rounds w b (suc m)) (inverse_rounds_state w b (suc m) key is))
    ∙ forth_one w b m (suc n) key is (omega arith) (omega arith)

pub cipher_done : (w b : List ℕ) → IsBytes 240 w → IsBytes 16 b → cipher w (inverse_cipher w b) ≡ b
unfolding cipher
cipher_done w b key is =
    let first : inverse_rounds w b 0 ≡ add_round_key w 14 b = unfold inverse_rounds in refl in
    ap (λ (x : List ℕ). add_round_key w 14 (half x)) (forth_through w b 13 0 key is refl)
    ∙ ap (add_round_key w 14) (half_done (inverse_rounds w b 0) (inverse_rounds_state w b 0 key is) ∙ first)
    ∙ add_round_key_undone w 14 b key (omega arith) is
