-- What the cipher and its inverse make is blocks.
use Rattle.std.proofs.Common.{List, ℕ}
use Rattle.vc_base.specs.Bytes.{IsBytes}
use Rattle.vc_base.proofs.FourWords.{block_of-bytes}
use Rattle.lane_kernels.specs.SerpentRounds.{cipher, inverse_cipher}

pub cipher-bytes : (ks : List (List ℕ)) (b : List ℕ) → IsBytes 16 (cipher ks b)
unfolding cipher
cipher-bytes ks b = block_of-bytes _

pub inverse_cipher-bytes : (ks : List (List ℕ)) (b : List ℕ) → IsBytes 16 (inverse_cipher ks b)
unfolding inverse_cipher
inverse_cipher-bytes ks b = block_of-bytes _
