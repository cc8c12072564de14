-- Opening a new volume.
--
-- The candidates of a slot are in the order of their numbers. So the first that is valid is one that
-- is known to be valid, or is before it.
use Rattle.std.proofs.Common.{◌≡◌, ◌<◌, ◌≤◌, ◌⊎◌, inl, inr, ℕ, zero, suc, ◌+◌, ◌*◌, Bool, true, false, List, [], ◌∷◌, ◌++◌, Option, Some, refl, ap, ◌∙◌, arith}
use Rattle.std.specs.List.{flat_map}
use Rattle.std.specs.Prelude.{find, slice_get, unwrap_or, if◌then◌else◌}
use Rattle.kdf_hmac.specs.declared.prf.Prf.{Prf}
use Rattle.kdf_hmac.specs.declared.prf.Prf.TheVariants.{Sha512, Sha256}
use Rattle.algorithm_names.specs.Algorithms.{number_of}
use Rattle.algorithm_names.specs.declared.algorithm.Algorithm.{Algorithm}
use Rattle.algorithm_names.specs.declared.algorithm.Algorithm.TheVariants.{Aes, Serpent, Twofish, AesTwofish, AesTwofishSerpent, SerpentAes, SerpentTwofishAes, TwofishSerpent}
use Rattle.kdf_hmac.specs.Prfs.{all_prfs}
use Rattle.vc_layout.specs.Kinds.{slots_of}
use Rattle.vc_layout.specs.declared.kind.Kind.{Kind}
use Rattle.vc_layout.specs.declared.slots.Slot.{Slot}
use Rattle.vc_header.specs.declared.fields.Fields.{Fields}
use Rattle.header_seal.specs.Candidates.{Candidate, candidates_of, fields_in, first, is_valid_in}
use Rattle.volume_format.specs.Formatted.{Sealing}
use Rattle.volume_format.specs.Opens.{asked, order_of, prf_order, Opens}

-- the orders of these candidates are n, n + 1, and so on
abbrev Ordered : ℕ → List Candidate → Type 0
Ordered n [] = Unit {0}
Ordered n (c ∷ cs) = (order_of c ≡ n) × Ordered (suc n) cs

-- the candidates of a kind with one slot
abbrev of_one : Slot → List Candidate
of_one slot = flat_map (candidates_of slot) all_prfs ++ []

in_order : (slot : Slot) → Ordered 0 (of_one slot)
in_order slot = (
  refl,
  (
    refl,
    (
      refl,
      (
        refl,
        (
          refl,
          (
            refl,
            (
              refl,
              (
                refl,
                (
                  refl,
                  (
                    refl,
                    (
                      refl,
                      (
                        refl,
                        (refl, (refl, (refl, (refl, tt)))),
                      ),
                    ),
                  ),
                ),
              ),
            ),
          ),
        ),
      ),
    ),
  ),
)

some_same : {x y : Candidate} → Some x ≡ Some y → x ≡ y
some_same {x} {y} e = ap (λ (r : Option Candidate). unwrap_or r x) e

-- one of them has at least the first one's order
order_from : (n : ℕ) (cs : List Candidate) (i : ℕ) (x : Candidate) → Ordered n cs
    → slice_get cs i ≡ Some x → n ≤ order_of x
order_from n [] i x ordered at = absurd (cc at)
order_from n (c ∷ cs) zero x ordered at = omega (arith, ordered.0, ap order_of (some_same at))
order_from n (c ∷ cs) (suc i) x ordered at = omega (arith, order_from (suc n) cs i x ordered.1 at)

-- the first that passes, where x is one that does
pub record Found (t : Candidate → Bool) (cs : List Candidate) (x : Candidate) : Type 0 where
  pub candidate : Candidate
  pub is_first : find t cs ≡ Some candidate
  pub which : (candidate ≡ x) ⊎ (order_of candidate < order_of x)

-- the first of them passes, or it is found later
by_test : (t : Candidate → Bool) (c : Candidate) (cs : List Candidate) (x : Candidate) (b : Bool)
    → t c ≡ b → order_of c < order_of x
    → Found t cs x → Found t (c ∷ cs) x
by_test t c cs x true e before later = record {
  candidate = c;
  is_first = ap (λ (b : Bool). if b then Some c else find t cs) e;
  which = inr before;
}
by_test t c cs x false e before later = record {
  candidate = later.candidate;
  is_first = ap (λ (b : Bool). if b then Some c else find t cs) e ∙ later.is_first;
  which = later.which;
}

found : (t : Candidate → Bool) (n : ℕ) (cs : List Candidate) (i : ℕ) (x : Candidate)
    → Ordered n cs → slice_get cs i ≡ Some x → t x ≡ true → Found t cs x
found t n [] i x ordered at passes = absurd (cc at)
found t n (c ∷ cs) zero x ordered at passes = record {
  candidate = c;
  is_first = ap (λ (b : Bool). if b then Some c else find t cs) (ap t (some_same at) ∙ passes);
  which = inl (some_same at);
}
found t n (c ∷ cs) (suc i) x ordered at passes =
    by_test t c cs x (t c) refl (omega (arith, ordered.0, order_from (suc n) cs i x ordered.1 at))
    (found t (suc n) cs i x ordered.1 at passes)

-- the asked candidate is one of them
asked_at : (slot : Slot) (prf : Prf) (a : Algorithm)
    → slice_get (of_one slot) (8 * prf_order prf + number_of a) ≡ Some
    (record { slot = slot; prf = prf; algorithm = a })
asked_at slot Sha512 Aes = refl
asked_at slot Sha512 Serpent = refl
asked_at slot Sha512 Twofish = refl
asked_at slot Sha512 AesTwofish = refl
asked_at slot Sha512 AesTwofishSerpent = refl
asked_at slot Sha512 SerpentAes = refl
asked_at slot Sha512 SerpentTwofishAes = refl
asked_at slot Sha512 TwofishSerpent = refl
asked_at slot Sha256 Aes = refl
asked_at slot Sha256 Serpent = refl
asked_at slot Sha256 Twofish = refl
asked_at slot Sha256 AesTwofish = refl
asked_at slot Sha256 AesTwofishSerpent = refl
asked_at slot Sha256 SerpentAes = refl
asked_at slot Sha256 SerpentTwofishAes = refl
asked_at slot Sha256 TwofishSerpent = refl

pub opens : (kind : Kind) (slot : Slot) (k : Sealing) (f : Fields) (image : List ℕ) → slots_of kind ≡ slot ∷ []
    → is_valid_in (asked slot k) image k.password k.pim ≡ true
    → fields_in (asked slot k) image k.password k.pim ≡ f
    → Opens kind slot k f image
unfolding first
opens kind slot k f image one valid fields =
    let r : Found (λ c. is_valid_in c image k.password k.pim) (of_one slot) (asked slot k)
    = found (λ c. is_valid_in c image k.password k.pim) 0 (of_one slot)
    (order_of (asked slot k)) (asked slot k)
    (in_order slot) (asked_at slot k.prf k.algorithm) valid in
    record {
      candidate = r.candidate;
      is_first =
          ap (λ (slots : List Slot). find (λ c. is_valid_in c image k.password k.pim)
          (flat_map (λ s. flat_map (candidates_of s) all_prfs) slots)) one
          ∙ r.is_first;
      which = elim r.which [
        | inl e ↦ inl (record {
          candidate = e;
          fields = ap (λ (c : Candidate). fields_in c image k.password k.pim) e ∙ fields;
        })
        | inr before ↦ inr before
      ];
    }
