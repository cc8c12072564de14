-- The rounds, one after the other, as the code counts them. Boxes are counted modulo 8, so the code
-- names box k, and the definition has the round's number.
use Rattle.std.proofs.Common.{◌≡◌, ◌-◌, ◌%◌, List, ℕ, suc, refl, sym, ap, ap₂, ◌∙◌, subst}
use Rattle.vc_base.specs.Words.{words_of, block_of}
use Rattle.lane_kernels.specs.SerpentRounds.{entry, inverse_entry, substituted, linear, inverse_linear, add_key, rounds, cipher, inverse_rounds, inverse_cipher}
use Rattle.lane_kernels.proofs.Substituted.{entry_modulo, inverse_entry_modulo}

pub none : (ks : List (List ℕ)) (start x : List ℕ) → x ≡ start → x ≡ rounds ks start 0
unfolding rounds
none ks start x is = is

round_after : (ks : List (List ℕ)) (start : List ℕ) (n m : ℕ) → suc n ≡ m
    → linear (substituted (entry n) (add_key ks n (rounds ks start n))) ≡ rounds ks start m
unfolding rounds
round_after ks start n m next =
    subst (λ (k : ℕ). linear (substituted (entry n) (add_key ks n (rounds ks start n)))
    ≡ rounds ks start k) next refl

-- round n, through box k
pub one_more : (ks : List (List ℕ)) (start : List ℕ) (n m k : ℕ) (x keyed boxed mixed : List ℕ) → suc n ≡ m → k % 8
    ≡ n % 8
    → keyed ≡ add_key ks n x → boxed ≡ substituted (entry k) keyed → mixed ≡ linear boxed
    → x ≡ rounds ks start n → mixed ≡ rounds ks start m
one_more ks start n m k x keyed boxed mixed next same is_keyed is_boxed is_mixed so_far =
    is_mixed
    ∙ ap linear (is_boxed ∙ ap₂ substituted (entry_modulo k n same)
    (is_keyed ∙ ap (add_key ks n) so_far))
    ∙ round_after ks start n m next

pub the_end : (ks : List (List ℕ)) (b x keyed boxed last : List ℕ) → keyed ≡ add_key ks 31 x → boxed
    ≡ substituted (entry 7) keyed
    → last ≡ add_key ks 32 boxed → x ≡ rounds ks (words_of b) 31 → block_of last ≡ cipher ks b
unfolding cipher
the_end ks b x keyed boxed last is_keyed is_boxed is_last so_far =
    ap block_of
    (is_last ∙ ap (add_key ks 32)
    (is_boxed ∙ ap₂ substituted (entry_modulo 7 31 refl) (is_keyed ∙ ap (add_key ks 31) so_far)))

-- ---- the inverse cipher

pub last_undone : (ks : List (List ℕ)) (end keyed boxed x : List ℕ) → keyed ≡ add_key ks 32 end
    → boxed ≡ substituted (inverse_entry 7) keyed → x ≡ add_key ks 31 boxed → x
    ≡ inverse_rounds ks end 0
unfolding inverse_rounds
last_undone ks end keyed boxed x is_keyed is_boxed is =
    is ∙ ap (add_key ks 31) (is_boxed ∙ ap₂ substituted (inverse_entry_modulo 7 31 refl) is_keyed)

inverse_round_after : (ks : List (List ℕ)) (end : List ℕ) (r n m : ℕ) → suc n ≡ m → 30 - n ≡ r
    → add_key ks r (substituted (inverse_entry r) (inverse_linear (inverse_rounds ks end n)))
    ≡ inverse_rounds ks end m
unfolding inverse_rounds
inverse_round_after ks end r n m next number =
    ap (λ (k : ℕ). add_key ks k (substituted (inverse_entry k)
    (inverse_linear (inverse_rounds ks end n)))) (sym number)
    ∙ ap (inverse_rounds ks end) next

-- round r undone, through the inverse of box k
pub one_more_undone : (ks : List (List ℕ)) (end : List ℕ) (r n m k : ℕ) (x unmixed boxed keyed : List ℕ) → suc n ≡ m
    → 30 - n ≡ r
    → k % 8 ≡ r % 8 → unmixed ≡ inverse_linear x → boxed ≡ substituted (inverse_entry k) unmixed
    → keyed ≡ add_key ks r boxed → x ≡ inverse_rounds ks end n → keyed ≡ inverse_rounds ks end m
one_more_undone ks end r n m k x unmixed boxed keyed next number same is_unmixed is_boxed is_keyed
    so_far =
    is_keyed
    ∙ ap (add_key ks r)
    (is_boxed ∙ ap₂ substituted (inverse_entry_modulo k r same)
    (is_unmixed ∙ ap inverse_linear so_far))
    ∙ inverse_round_after ks end r n m next number

pub the_start : (ks : List (List ℕ)) (b x : List ℕ) → x ≡ inverse_rounds ks (words_of b) 31 → block_of x
    ≡ inverse_cipher ks b
unfolding inverse_cipher
the_start ks b x is = ap block_of is
