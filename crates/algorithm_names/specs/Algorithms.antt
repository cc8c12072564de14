-- The algorithms: their numbers, names and ciphers.
--
-- number_of a        0 to 7
-- ciphers_of a       the ciphers in the order of enciphering
-- name_of a          the name, which has the last cipher of enciphering first
-- named name         the algorithm of that name, or none
use Rattle.std.specs.Prelude.{ℕ, List, [], ◌∷◌, codes, find, Option}
use Rattle.std.specs.Str.{bytes_eq}
use Rattle.algorithm_names.specs.declared.algorithm.Algorithm.{Algorithm}
use Rattle.algorithm_names.specs.declared.algorithm.Algorithm.TheVariants.{AesTwofish, AesTwofishSerpent, SerpentAes, SerpentTwofishAes, TwofishSerpent}
use Rattle.algorithm_names.specs.declared.algorithm.Algorithm.TheVariants as algorithm
use Rattle.algorithm_names.specs.declared.algorithm.Cipher.{Cipher}
use Rattle.algorithm_names.specs.declared.algorithm.Cipher.TheVariants.{Aes, Serpent, Twofish}

abbrev pub all_algorithms : List Algorithm
all_algorithms =
    algorithm.Aes ∷ algorithm.Serpent ∷ algorithm.Twofish ∷ AesTwofish ∷ AesTwofishSerpent ∷ SerpentAes
    ∷ SerpentTwofishAes ∷ TwofishSerpent ∷ []

abbrev pub number_of : Algorithm → ℕ
number_of algorithm.Aes = 0
number_of algorithm.Serpent = 1
number_of algorithm.Twofish = 2
number_of AesTwofish = 3
number_of AesTwofishSerpent = 4
number_of SerpentAes = 5
number_of SerpentTwofishAes = 6
number_of TwofishSerpent = 7

abbrev pub ciphers_of : Algorithm → List Cipher
ciphers_of algorithm.Aes = Aes ∷ []
ciphers_of algorithm.Serpent = Serpent ∷ []
ciphers_of algorithm.Twofish = Twofish ∷ []
ciphers_of AesTwofish = Twofish ∷ Aes ∷ []
ciphers_of AesTwofishSerpent = Serpent ∷ Twofish ∷ Aes ∷ []
ciphers_of SerpentAes = Aes ∷ Serpent ∷ []
ciphers_of SerpentTwofishAes = Aes ∷ Twofish ∷ Serpent ∷ []
ciphers_of TwofishSerpent = Serpent ∷ Twofish ∷ []

abbrev pub name_of : Algorithm → List ℕ
name_of algorithm.Aes = codes "aes"
name_of algorithm.Serpent = codes "serpent"
name_of algorithm.Twofish = codes "twofish"
name_of AesTwofish = codes "aes-twofish"
name_of AesTwofishSerpent = codes "aes-twofish-serpent"
name_of SerpentAes = codes "serpent-aes"
name_of SerpentTwofishAes = codes "serpent-twofish-aes"
name_of TwofishSerpent = codes "twofish-serpent"

unfoldable pub named : List ℕ → Option Algorithm
named name = find (λ a. bytes_eq name (name_of a)) all_algorithms
