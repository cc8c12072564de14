-- The list U_1, U_2, .. of a block, step by step, and the XOR of its first ones.
--
-- T over one more step is T over the steps before it, with that step's U. The MAC is each U and the sum
-- in a field of 64 bytes, and only the first bytes of a field count.
use Rattle.std.proofs.Common.{◌≡◌, ◌≤◌, ℕ, zero, suc, ◌+◌, List, length, take, map, replicate}
use Rattle.std.proofs.Common.{refl, sym, ap, ap₂, ◌∙◌, subst, arith, add-one}
use Rattle.std.specs.List.{fold, range_with_len}
use Rattle.std.proofs.lemmas.List.{length-replicate}
use Rattle.std.proofs.lemmas.List.Sums.{fold_push}
use Rattle.std.proofs.lemmas.List.FromFn.{map-range_with_len_more}
use Rattle.vc_base.specs.Bytes.{xor_bytes}
use Rattle.kdf_hmac.specs.declared.prf.Prf.{Prf}
use Rattle.kdf_hmac.specs.Hmac.{hmac_of, output_length, padded}
use Rattle.kdf_hmac.specs.Pbkdf2.{u, t}
use Rattle.kdf_hmac.specs.Laws.Progress.{Stepped}
use Rattle.kdf_hmac.proofs.Keys.{length-hmac_of, take-padded}
use Rattle.vc_base.proofs.XorBytes.{length-xor_bytes, take-xor_bytes, xor_bytes-zeros}

module _ (prf : Prf) (p s : List ℕ) (i : ℕ) where
  -- ---- lengths, and one more step

  pub length-u : (j : ℕ) → length (u prf p s i (suc j)) ≡ output_length prf
  unfolding u
  length-u j = length-hmac_of prf p (u prf p s i j)

  pub u_more : (j : ℕ) → u prf p s i (j + 1) ≡ hmac_of prf p (u prf p s i j)
  unfolding u
  u_more j = ap (u prf p s i) (add-one j)

  pub t_more : (c : ℕ) → t prf p s (c + 1) i ≡ xor_bytes (t prf p s c i) (u prf p s i (c + 1))
  unfolding t
  t_more c =
      let zeros : List ℕ = replicate (output_length prf) 0 in
      ap (fold xor_bytes zeros) (map-range_with_len_more (u prf p s i) 1 c (c + 1) (omega arith))
      ∙ fold_push xor_bytes zeros (map (u prf p s i) (range_with_len 1 c)) (u prf p s i (c + 1))

  pub t_none : t prf p s 0 i ≡ replicate (output_length prf) 0
  unfolding t
  t_none = refl

  pub length-t : (c : ℕ) → length (t prf p s c i) ≡ output_length prf
  length-t zero = ap length t_none ∙ length-replicate (output_length prf) 0
  length-t (suc c) =
      let before = length-t c in
      let last : length (u prf p s i (c + 1)) ≡ output_length prf
      = ap (λ (j : ℕ). length (u prf p s i j)) (add-one c) ∙ length-u c in
      ap (λ (j : ℕ). length (t prf p s j i)) (sym (add-one c))
      ∙ ap length (t_more c)
      ∙ length-xor_bytes (t prf p s c i) (u prf p s i (c + 1)) (omega (arith, before, last))
      ∙ before

  pub t_one : t prf p s 1 i ≡ u prf p s i 1
  t_one =
      t_more 0
      ∙ ap (λ z. xor_bytes z (u prf p s i 1)) t_none
      ∙ xor_bytes-zeros (output_length prf) (u prf p s i 1) (length-u 0)

  -- ---- as the code has them

  -- nothing is said before the first step
  pub stepped_none : (mac sum : List ℕ) → 1 ≤ 0 → Stepped prf p s i mac sum 0
  stepped_none mac sum some = absurd (omega (arith, some))

  pub stepped_one : (mac : List ℕ) → mac ≡ padded prf (hmac_of prf p (u prf p s i 0)) → Stepped prf p s i mac mac 1
  stepped_one mac is =
      let first : take (output_length prf) mac ≡ u prf p s i 1
      = ap (take (output_length prf)) is
      ∙ take-padded prf _ (length-hmac_of prf p (u prf p s i 0))
      ∙ sym (u_more 0) in
      record { mac_is = first; sum_is = first ∙ sym t_one }

  pub stepped_more : (mac sum next both : List ℕ) (j : ℕ) → Stepped prf p s i mac sum j
      → next ≡ padded prf (hmac_of prf p (take (output_length prf) mac)) → both ≡ xor_bytes sum next
      → Stepped prf p s i next both (j + 1)
  stepped_more mac sum next both j before next_is both_is =
      let n = output_length prf in
      let last : take n next ≡ u prf p s i (j + 1)
      = ap (take n) next_is ∙ take-padded prf _ (length-hmac_of prf p (take n mac))
      ∙ ap (hmac_of prf p) before.mac_is ∙ sym (u_more j) in
      record {
        mac_is = last;
        sum_is =
            ap (take n) both_is ∙ take-xor_bytes n sum next ∙ ap₂ xor_bytes before.sum_is last ∙ sym (t_more j);
      }

  -- the count of steps, written otherwise
  pub stepped_at : (mac sum : List ℕ) (j k : ℕ) → j ≡ k → Stepped prf p s i mac sum j → Stepped prf p s i mac sum k
  stepped_at mac sum j k e = subst (λ (m : ℕ). Stepped prf p s i mac sum m) e
