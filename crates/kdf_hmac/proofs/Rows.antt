-- The definitions, computed on rows whose values another program gave.
--
-- Each row is proved by computing the definition, so what the contracts cite gives these very bytes. A hexadecimal
-- number is read as bytes, the highest first.
use Rattle.std.proofs.Common.{◌≡◌, replicate, refl}
use Rattle.std.specs.Prelude.{codes}
use Rattle.std.specs.Int.{bytes_high_first}
use Rattle.sha2.specs.Sha256.{sha256}
use Rattle.sha2.specs.Sha256 as S256
use Rattle.sha2.specs.Sha512.{sha512}
use Rattle.sha2.specs.Sha512 as S512
use Rattle.vc_base.specs.Bytes.{xor_bytes, joined}
use Rattle.kdf_hmac.specs.declared.prf.Prf.TheVariants.{Sha512, Sha256}
use Rattle.kdf_hmac.specs.Hmac.{hmac_of, key_block}
use Rattle.kdf_hmac.specs.Pbkdf2.{pbkdf2_bytes, t, u}

-- Python's hmac: a short key
pub short_key_256 : hmac_of Sha256 (replicate 20 0x0b) (codes "Hi There")
    ≡ bytes_high_first 32 0xb0344c61d8db38535ca8afceaf0bf12b881dc200c9833da726e9376c2e32cff7
unfolding hmac_of key_block xor_bytes sha256 S256.digest_bytes S256.hash_after S256.compress S256.rounds S256.schedule S256.first_words
short_key_256 = refl

pub short_key_512 : hmac_of Sha512 (replicate 20 0x0b) (codes "Hi There")
    ≡ bytes_high_first 64 0x87aa7cdea5ef619d4ff0b4241a1d6cb02379f4e2ce4ec2787ad0b30545e17cdedaa833b7d6b8a702038b274eaea3f4e4be9d914eeb61f1702e696c203a126854
unfolding hmac_of key_block xor_bytes sha512 S512.digest_bytes S512.hash_after S512.compress S512.rounds S512.schedule S512.first_words
short_key_512 = refl

-- Python's hmac: a key longer than a block
pub long_key_256 : hmac_of Sha256 (replicate 131 0xaa) (codes "a text under a key that is longer than a block")
    ≡ bytes_high_first 32 0x6b515f4306e232fed7b16445886a5f41f4dd6f1bc8a7a9ba4c71a5fd9aeb855d
unfolding hmac_of key_block xor_bytes sha256 S256.digest_bytes S256.hash_after S256.compress S256.rounds S256.schedule S256.first_words
long_key_256 = refl

pub long_key_512 : hmac_of Sha512 (replicate 131 0xaa) (codes "a text under a key that is longer than a block")
    ≡ bytes_high_first 64 0xaf95476da1107d8af439675e901c83f2f8747663e6fe68e99a52d1f295afc4d2ed8dceddca1e94eae8affd9861d75c77d3abd1f1a1cfa5a130322e53f4b6694f
unfolding hmac_of key_block xor_bytes sha512 S512.digest_bytes S512.hash_after S512.compress S512.rounds S512.schedule S512.first_words
long_key_512 = refl

-- Python's hashlib: two blocks of one iteration
pub two_blocks : pbkdf2_bytes Sha256 (codes "passwd") (codes "salt") 1 64
    ≡ bytes_high_first 64 0x55ac046e56e3089fec1691c22544b605f94185216dde0465e68b9d57c20dacbc49ca9cccf179b645991664b39d77ef317c71b845b1e30bd509112041d3a19783
unfolding pbkdf2_bytes t u joined hmac_of key_block xor_bytes sha256 S256.digest_bytes S256.hash_after S256.compress S256.rounds S256.schedule S256.first_words
two_blocks = refl

-- Python's hashlib: three iterations, and a second block that is cut
pub three_iterations : pbkdf2_bytes Sha512 (codes "passwd") (codes "salt") 3 100
    ≡ bytes_high_first 100 0x2ad6a1074a28addf332db771afaa5928b0bebc600f287167c366a1d730f8835f94e70d2d478279cdc0dae70e154cc5fb0442760e84694adb85f6aa1db4e7807c1686b79e5ff860059abe3ca7bfde057bfed883537f964a806b4d2fc9f87739082f247df9
unfolding pbkdf2_bytes t u joined hmac_of key_block xor_bytes sha512 S512.digest_bytes S512.hash_after S512.compress S512.rounds S512.schedule S512.first_words
three_iterations = refl
