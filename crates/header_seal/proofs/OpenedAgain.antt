-- What was sealed opens again: deciphering undoes enciphering, and a written body is read as its fields.
use Rattle.std.proofs.Common.{◌≡◌, ℕ, List, ◌++◌, length, sym, ap, ap₂, ◌∙◌, subst}
use Rattle.std.proofs.lemmas.List.{take_at, drop_at}
use Rattle.algorithm_names.specs.declared.algorithm.Algorithm.{Algorithm}
use Rattle.cascade_set.specs.Cascade.{deciphered, enciphered}
use Rattle.kdf_hmac.specs.declared.prf.Prf.{Prf}
use Rattle.kdf_hmac.specs.Pbkdf2.{derived}
use Rattle.vc_layout.specs.declared.slots.Slot.{Slot}
use Rattle.vc_header.specs.Header.{body_of, fields_of, Meets, Valid}
use Rattle.vc_header.specs.declared.fields.Fields.{Fields}
use Rattle.header_seal.specs.Sealed.{HeadersOpenAgain, OpensAgain, plain_by, sealed, sealed_by, unsealed}

pub sealed_is : (algorithm : Algorithm) (keys plain body : List ℕ) (fields : Fields) → plain ≡ body_of fields
    → body ≡ enciphered (record { algorithm = algorithm; material = keys }) 0 plain
    → body ≡ sealed algorithm keys fields
unfolding sealed
sealed_is algorithm keys plain body fields plain_is enciphered_is =
    enciphered_is ∙ ap (λ (p : List ℕ). enciphered (record { algorithm = algorithm; material = keys }) 0 p) plain_is

-- from what writing, enciphering and deciphering made of the body
pub opens_again : (algorithm : Algorithm) (keys plain body : List ℕ) (fields : Fields) → plain ≡ body_of fields
    → body ≡ enciphered (record { algorithm = algorithm; material = keys }) 0 plain
    → deciphered (record { algorithm = algorithm; material = keys }) 0 body ≡ plain
    → length body ≡ 448 → fields_of plain ≡ fields
    → ((slot : Slot) (len : ℕ) → Meets fields slot len → Valid plain slot len)
    → OpensAgain algorithm keys fields
unfolding unsealed
opens_again algorithm keys plain body fields plain_is enciphered_is undone long again valid =
    let is : body ≡ sealed algorithm keys fields
    = sealed_is algorithm keys plain body fields plain_is enciphered_is in
    record {
      as_long = ap length (sym is) ∙ long;
      undone =
          ap (λ (b : List ℕ). deciphered (record { algorithm = algorithm; material = keys }) 0 b) (sym is)
          ∙ undone ∙ plain_is;
      again = ap fields_of (sym plain_is) ∙ again;
      valid = λ slot len meets. subst (λ (p : List ℕ). Valid p slot len) plain_is (valid slot len meets);
    }

pub header_opens_again : HeadersOpenAgain
header_opens_again prf algorithm password pim salt fields long again =
    let body : List ℕ = sealed_by prf algorithm password pim salt fields in
    ap₂ (λ (s b : List ℕ). unsealed algorithm (derived prf password pim s) b)
    (take_at salt body 64 long) (drop_at salt body 64 long)
    ∙ again.undone
