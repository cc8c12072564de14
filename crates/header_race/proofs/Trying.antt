-- What one derived key tells of a derivation's candidates.
use Rattle.std.proofs.Common.{◌≡◌, ℕ, ◌<◌, List, Option, Some, None, sym, ap, ◌∙◌, subst, arith}
use Rattle.std.specs.Prelude.{find}
use Rattle.algorithm_names.specs.declared.algorithm.Algorithm.{Algorithm}
use Rattle.algorithm_names.specs.declared.algorithm.Algorithm.TheVariants.{Aes, Serpent, Twofish, AesTwofish, AesTwofishSerpent, SerpentAes, SerpentTwofishAes, TwofishSerpent}
use Rattle.algorithm_names.specs.Algorithms.{all_algorithms, number_of}
use Rattle.kdf_hmac.specs.Pbkdf2.{derived}
use Rattle.vc_header.specs.declared.fields.Fields.{Fields}
use Rattle.vc_header.specs.Header.{fields_of, Meets, salt_of, Valid}
use Rattle.vc_header.specs.Laws.Tests.{is_valid}
use Rattle.header_seal.specs.Sealed.{plain_under}
use Rattle.header_race.specs.declared.entrant.Entrant.{Entrant}
use Rattle.header_race.specs.declared.entrant.Numbers.{Numbers}
use Rattle.header_race.specs.Laws.Race.{HasFields, IsOf, winner}

pub number_below : (a : Algorithm) → number_of a < 8
number_below Aes = omega arith
number_below Serpent = omega arith
number_below Twofish = omega arith
number_below AesTwofish = omega arith
number_below AesTwofishSerpent = omega arith
number_below SerpentAes = omega arith
number_below SerpentTwofishAes = omega arith
number_below TwofishSerpent = omega arith

module _ (r : Numbers) (p : List ℕ) (pim len : ℕ) (e : Entrant) (key : List ℕ) (is : IsOf r p pim len)
    (k : key ≡ derived e.prf p pim (salt_of e.header)) where
  key_is : key ≡ derived e.prf r.password.value r.pim (salt_of e.header)
  key_is = k ∙ (λ i. derived e.prf (sym is.password_is i) (sym is.pim_is i) (salt_of e.header))

  same_winner : find (λ a. is_valid (plain_under a key e.header) e.slot len) all_algorithms ≡ winner r e
  same_winner = λ i. find (λ a. is_valid (plain_under a (key_is i) e.header) e.slot (sym is.len_is i)) all_algorithms

  pub wins : (x : Option Algorithm) → x ≡ find (λ a. is_valid (plain_under a key e.header) e.slot len) all_algorithms
      → winner r e ≡ x
  wins x found = sym (found ∙ same_winner)

  pub has : (a : Algorithm) (f : Fields) → f ≡ fields_of (plain_under a key e.header)
      → Valid (plain_under a key e.header) e.slot len → HasFields r e a f
  has a f fields valid = record {
    fields = fields ∙ ap (λ (q : List ℕ). fields_of (plain_under a q e.header)) key_is;
    meets = subst (λ (z : Fields × ℕ). Meets z.0 e.slot z.1) (λ i. (sym fields i, sym is.len_is i)) valid.fields;
  }
