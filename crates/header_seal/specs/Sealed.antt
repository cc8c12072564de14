-- A header under a password.
--
-- A header is 64 bytes of salt and 448 bytes of body. The body is enciphered by an algorithm whose key
-- material is derived from password, PIM and salt, as one stretch under data unit 0.
--
-- header_at slot image                  the 512 bytes in a slot
-- unsealed a keys body                  a body deciphered by the algorithm a under derived keys
-- sealed a keys fields                  the body that is written for fields, enciphered
-- plain_under a keys header             the body of a header, deciphered
-- plain_by prf a password pim header    the same with the keys that the PRF derives for that header
-- sealed_by prf a password pim salt f   the body of a header with that salt
-- Carries image slot password pim prf a f
--                                       the slot's body deciphers to the body that is written for f
-- OpensAgain a keys f                   what was sealed for the fields f opens again
use Rattle.std.specs.Prelude.{◌≡◌, ℕ, List, ◌++◌, length, take, drop}
use Rattle.algorithm_names.specs.declared.algorithm.Algorithm.{Algorithm}
use Rattle.cascade_set.specs.Cascade.{deciphered, enciphered}
use Rattle.kdf_hmac.specs.declared.prf.Prf.{Prf}
use Rattle.kdf_hmac.specs.Pbkdf2.{derived}
use Rattle.vc_layout.specs.Layout.{place_of}
use Rattle.vc_layout.specs.declared.slots.Slot.{Slot}
use Rattle.vc_header.specs.Header.{body_of, enciphered_body, fields_of, Meets, salt_of, Valid}
use Rattle.vc_header.specs.declared.fields.Fields.{Fields}

abbrev pub header_at : Slot → List ℕ → List ℕ
header_at slot image = take 512 (drop (place_of slot (length image)) image)

unfoldable pub unsealed : Algorithm → List ℕ → List ℕ → List ℕ
unsealed algorithm keys body = deciphered (record { algorithm = algorithm; material = keys }) 0 body

unfoldable pub sealed : Algorithm → List ℕ → Fields → List ℕ
sealed algorithm keys fields = enciphered (record { algorithm = algorithm; material = keys }) 0 (body_of fields)

abbrev pub plain_under : Algorithm → List ℕ → List ℕ → List ℕ
plain_under algorithm keys header = unsealed algorithm keys (enciphered_body header)

abbrev pub plain_by : Prf → Algorithm → List ℕ → ℕ → List ℕ → List ℕ
plain_by prf algorithm password pim header =
    plain_under algorithm (derived prf password pim (salt_of header)) header

abbrev pub sealed_by : Prf → Algorithm → List ℕ → ℕ → List ℕ → Fields → List ℕ
sealed_by prf algorithm password pim salt fields = sealed algorithm (derived prf password pim salt) fields

abbrev pub Carries : List ℕ → Slot → List ℕ → ℕ → Prf → Algorithm → Fields → Type 0
Carries image slot password pim prf algorithm fields =
    plain_by prf algorithm password pim (header_at slot image) ≡ body_of fields

pub record OpensAgain (algorithm : Algorithm) (keys : List ℕ) (fields : Fields) : Type 0 where
  pub as_long : length (sealed algorithm keys fields) ≡ 448
  pub undone : unsealed algorithm keys (sealed algorithm keys fields) ≡ body_of fields
  -- that body has the same fields, and is valid for each slot and length whose rules they meet
  pub again : fields_of (body_of fields) ≡ fields
  pub valid : (slot : Slot) (len : ℕ) → Meets fields slot len → Valid (body_of fields) slot len

-- the same of a header that is a salt and a sealed body
abbrev pub HeadersOpenAgain : Type 0
HeadersOpenAgain = (prf : Prf) (algorithm : Algorithm) (password : List ℕ) (pim : ℕ) (salt : List ℕ) (fields : Fields)
    → length salt ≡ 64 → OpensAgain algorithm (derived prf password pim salt) fields
    → plain_by prf algorithm password pim (salt ++ sealed_by prf algorithm password pim salt fields) ≡ body_of fields
