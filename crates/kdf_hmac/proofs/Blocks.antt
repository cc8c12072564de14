-- PBKDF2's bytes, block by block.
--
-- Before block i the output has its first n·i bytes, or all of them if it has fewer: they are the first bytes of
-- T_1, .., T_i. The next block goes on from there, and is cut where the output ends.
use Rattle.std.proofs.Common.{◌≡◌, ◌<◌, ◌≤◌, ℕ, zero, suc, ◌+◌, ◌-◌, ◌*◌, ◌/◌, min, List, [], ◌++◌, length, take}
use Rattle.std.proofs.Common.{sym, ap, ap₂, ◌∙◌, subst, arith, add-one, mul-zero, take_all, length-append, length-take}
use Rattle.std.proofs.Math.Seq.{take-append-add}
use Rattle.std.proofs.lemmas.List.{take_min, take-take}
use Rattle.std.proofs.lemmas.Slice.{take-put_mid}
use borrow.Rule.Slice.PartMut.{put_mid}
use Rattle.vc_base.specs.Bytes.{joined}
use Rattle.kdf_hmac.specs.declared.prf.Prf.{Prf}
use Rattle.kdf_hmac.specs.declared.prf.Prf.TheVariants.{Sha512, Sha256}
use Rattle.kdf_hmac.specs.Hmac.{output_length}
use Rattle.kdf_hmac.specs.Pbkdf2.{block_count, pbkdf2_bytes}
use Rattle.kdf_hmac.specs.Laws.Progress.{Filled, block}
use Rattle.kdf_hmac.proofs.Steps.{length-t}

-- ---- lists of one length, joined

joined_more : (f : ℕ → List ℕ) (k : ℕ) → joined f (k + 1) ≡ joined f k ++ f k
unfolding joined
joined_more f k = ap (joined f) (add-one k)

length-joined : (f : ℕ → List ℕ) (n k : ℕ) → ((j : ℕ) → length (f j) ≡ n) → length (joined f k) ≡ n * k
unfolding joined
length-joined f n zero each = sym (mul-zero n)
length-joined f n (suc k) each =
    let before = length-joined f n k each in
    let last = each k in
    length-append (joined f k) (f k) ∙ omega (arith, before, last)

-- ---- lists of n elements, put one after another into a list of l elements

module _ (f : ℕ → List ℕ) (n l : ℕ) where
  pub filled_none : (out : List ℕ) → Filled f n l out 0
  unfolding joined
  filled_none out =
      let nothing : min (n * 0) l ≡ 0 = omega arith in
      record { front = ap (λ (k : ℕ). take k out) nothing ∙ sym (take_all l [] (omega arith)) }

  -- the part of the next one that is written: block has more elements after it, and the part ends at e
  next_part : (block piece : List ℕ) (i e : ℕ) → length (f i) ≡ n → take n block ≡ f i → n * i < l → e ≡ min l (n * i + n)
      → piece ≡ take (e - n * i) block → piece ≡ take (l - n * i) (f i)
  next_part block piece i e count block_is inside end piece_is =
      let rest = l - n * i in
      let size : e - n * i ≡ min rest n = omega arith in
      let whole : length (take n block) ≡ n = ap length block_is ∙ count in
      piece_is
      ∙ ap (λ (k : ℕ). take k block) size
      ∙ sym (take-take (min rest n) n block (omega arith))
      ∙ ap (λ (k : ℕ). take (min rest k) (take n block)) (sym whole)
      ∙ take_min rest (take n block)
      ∙ ap (take rest) block_is

  pub filled_more : (out block piece : List ℕ) (i e : ℕ) → ((j : ℕ) → length (f j) ≡ n) → Filled f n l out i → length out ≡ l
      → take n block ≡ f i → n * i < l → e ≡ min l (n * i + n) → piece ≡ take (e - n * i) block
      → Filled f n l (put_mid (n * i) (e - n * i) out piece) (i + 1)
  filled_more out block piece i e each before whole block_is inside end piece_is =
      let rest = l - n * i in
      let part : piece ≡ take rest (f i) = next_part block piece i e (each i) block_is inside end piece_is in
      let count = each i in
      let size : length piece ≡ min rest n = ap length part ∙ length-take rest (f i) ∙ omega (arith, count) in
      let length_front : length (joined f i) ≡ n * i = length-joined f n i each in
      let here : min (n * i) l ≡ n * i = omega arith in
      let front : take (n * i) out ≡ joined f i
      = ap (λ (k : ℕ). take k out) (sym here) ∙ before.front ∙ take_all l (joined f i) (omega (arith, length_front)) in
      let there : min (n * (i + 1)) l ≡ n * i + length piece = omega (arith, size) in
      let total : l ≡ length (joined f i) + rest = omega (arith, length_front) in
      record {
        front =
            take-put_mid (n * i) (e - n * i) out piece (min (n * (i + 1)) l) there (omega (arith, whole))
            ∙ ap₂ ◌++◌ front part
            ∙ sym (take-append-add (joined f i) (f i) rest)
            ∙ ap (λ (k : ℕ). take k (joined f i ++ f i)) (sym total)
            ∙ ap (take l) (sym (joined_more f i));
      }

  pub filled_all : (out : List ℕ) (k : ℕ) → length out ≡ l → l ≤ n * k → Filled f n l out k → out ≡ take l (joined f k)
  filled_all out k whole enough done =
      let all : min (n * k) l ≡ l = omega (arith, enough) in
      sym (take_all l out (omega (arith, whole))) ∙ ap (λ (j : ℕ). take j out) (sym all) ∙ done.front

-- the lengths, written otherwise
pub filled_as : (f : ℕ → List ℕ) (n m l k : ℕ) (out : List ℕ) (i : ℕ) → n ≡ m → l ≡ k → Filled f n l out i → Filled f m k out i
filled_as f n m l k out i e h before =
    subst (λ (x : ℕ). Filled f m x out i) h (subst (λ (x : ℕ). Filled f x l out i) e before)

-- ---- how many blocks there are, if the output has l bytes

pub block_starts : (prf : Prf) (l i : ℕ) → i < block_count prf l → output_length prf * i < l
block_starts Sha512 l i inside = omega (arith, inside)
block_starts Sha256 l i inside = omega (arith, inside)

pub blocks_suffice : (prf : Prf) (l : ℕ) → l ≤ output_length prf * block_count prf l
blocks_suffice Sha512 l = omega arith
blocks_suffice Sha256 l = omega arith

-- a block takes c steps
one_left : (m c : ℕ) → 1 ≤ m → c ≤ m * c
one_left zero c some = absurd (omega (arith, some))
one_left (suc m) c some = omega arith

-- after i of m blocks and j steps of the next, none is left: all blocks are done
pub all_done : (m c i j : ℕ) → i ≤ m → j < c → (m - i) * c - j ≡ 0 → i ≡ m
all_done m c i j within short none = grind (arith, within, short, none, one_left (m - i) c)

-- ---- the blocks of PBKDF2

pub blocks_as_long : (prf : Prf) (p s : List ℕ) (c j : ℕ) → length (block prf p s c j) ≡ output_length prf
blocks_as_long prf p s c j = length-t prf p s (j + 1) c

pub all_bytes : (prf : Prf) (p s : List ℕ) (c l : ℕ) (out : List ℕ) (i : ℕ) → length out ≡ l → i ≡ block_count prf l
    → Filled (block prf p s c) (output_length prf) l out i → out ≡ pbkdf2_bytes prf p s c l
unfolding pbkdf2_bytes
all_bytes prf p s c l out i whole last done =
    let n = output_length prf in
    let bytes : n * i ≡ n * block_count prf l = ap (λ (k : ℕ). n * k) last in
    let enough : l ≤ n * i = omega (arith, bytes, blocks_suffice prf l) in
    filled_all (block prf p s c) n l out i whole enough done ∙ ap (λ (k : ℕ). take l (joined (block prf p s c) k)) last

-- the count, if the mac has the length of a block as n
pub count_is : (prf : Prf) (l n : ℕ) → n ≡ output_length prf → (l + n - 1) / n ≡ block_count prf l
count_is prf l n n_is = ap (λ (k : ℕ). (l + k - 1) / k) n_is

pub start_inside : (prf : Prf) (l n i : ℕ) → n ≡ output_length prf → i < (l + n - 1) / n → output_length prf * i < l
start_inside prf l n i n_is before = block_starts prf l i (omega (arith, before, count_is prf l n n_is))
