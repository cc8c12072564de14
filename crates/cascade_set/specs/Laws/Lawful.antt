-- The laws of a cipher of stretches: it keeps whole blocks, and its two directions undo each other.
--
-- They hold of XTS over a block cipher, of the cipher that changes nothing, and of two ciphers in turn.
use Rattle.std.specs.Prelude.{◌≡◌, ℕ, ◌*◌, List, refl}
use Rattle.std.proofs.Common.{ap, ◌∙◌}
use Rattle.vc_base.specs.Bytes.{IsBytes}
use Rattle.cipher_base.specs.Xts.{xts}
use Rattle.cipher_base.specs.Laws.{IsBytes-xts, xts_undone}

pub record IsLawful (enciphered deciphered : ℕ → List ℕ → List ℕ) : Type 0 where
  pub enciphered_is_whole : (m n : ℕ) (s : List ℕ) → IsBytes (16 * m) s → IsBytes (16 * m) (enciphered n s)
  pub deciphered_is_whole : (m n : ℕ) (s : List ℕ) → IsBytes (16 * m) s → IsBytes (16 * m) (deciphered n s)
  pub deciphers : (m n : ℕ) (s : List ℕ) → IsBytes (16 * m) s → deciphered n (enciphered n s) ≡ s
  pub enciphers : (m n : ℕ) (s : List ℕ) → IsBytes (16 * m) s → enciphered n (deciphered n s) ≡ s

-- two block ciphers that keep blocks and undo each other, under one tweak cipher
pub xts_is_lawful : (main back tweak : List ℕ → List ℕ)
    → ((b : List ℕ) → IsBytes 16 b → IsBytes 16 (main b)) → ((b : List ℕ) → IsBytes 16 b → IsBytes 16 (back b))
    → ((b : List ℕ) → IsBytes 16 b → back (main b) ≡ b) → ((b : List ℕ) → IsBytes 16 b → main (back b) ≡ b)
    → IsLawful (xts main tweak) (xts back tweak)
xts_is_lawful main back tweak keeps keeps_back undoes redoes = record {
  enciphered_is_whole = λ m n s bytes. IsBytes-xts m main tweak n s keeps bytes;
  deciphered_is_whole = λ m n s bytes. IsBytes-xts m back tweak n s keeps_back bytes;
  deciphers = λ m n s bytes. xts_undone m main back tweak n s keeps undoes bytes;
  enciphers = λ m n s bytes. xts_undone m back main tweak n s keeps_back redoes bytes;
}

pub nothing_is_lawful : IsLawful (λ n s. s) (λ n s. s)
nothing_is_lawful = record {
  enciphered_is_whole = λ m n s bytes. bytes;
  deciphered_is_whole = λ m n s bytes. bytes;
  deciphers = λ m n s bytes. refl;
  enciphers = λ m n s bytes. refl;
}

pub in_turn_is_lawful : (e d e' d' : ℕ → List ℕ → List ℕ) → IsLawful e d → IsLawful e' d'
    → IsLawful (λ n s. e' n (e n s)) (λ n s. d n (d' n s))
in_turn_is_lawful e d e' d' first second = record {
  enciphered_is_whole = λ m n s bytes.
      second.enciphered_is_whole m n (e n s) (first.enciphered_is_whole m n s bytes);
  deciphered_is_whole = λ m n s bytes.
      first.deciphered_is_whole m n (d' n s) (second.deciphered_is_whole m n s bytes);
  deciphers = λ m n s bytes.
      ap (d n) (second.deciphers m n (e n s) (first.enciphered_is_whole m n s bytes)) ∙ first.deciphers m n s bytes;
  enciphers = λ m n s bytes.
      ap (e' n) (first.enciphers m n (d' n s) (second.deciphered_is_whole m n s bytes))
      ∙ second.enciphers m n s bytes;
}
