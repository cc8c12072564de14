use Rattle.std.proofs.Common.{◌≡◌, ℕ, ◌*◌, ◌/◌, List, length, ap, subst, ◌∙◌, arith}
use Rattle.vc_base.specs.Bytes.{IsBytes}
use Rattle.vc_outside.specs.Crash.{Outcomes}
use Rattle.vc_outside.specs.Told.{Both, SameOutside}
use Rattle.io_core.proofs.SealedUnits.{length-sealed, outside, stored}
use Rattle.io_core.proofs.seal.store_fragment.Goals as goal

-- a fragment of whole units
whole_bytes : (xs : List ℕ) → length xs ≡ 512 * (length xs / 512) → IsBytes (length xs) xs → IsBytes (512 * (length xs / 512)) xs
whole_bytes xs whole bytes = subst (λ (n : ℕ). IsBytes n xs) whole bytes

pub overflow_mul-first : goal.overflow_mul-first
overflow_mul-first g c = omega (arith, c.requires.within, c.requires.some, c.requires.whole)

pub write_at-requires : goal.write_at-requires
write_at-requires g c =
    let f : List ℕ = c.args.fragment.now in
    let k : ℕ = length f / 512 in
    let bytes : IsBytes (512 * k) f = whole_bytes f (omega (arith, c.requires.whole)) c.bytes_are_known.ensures in
    let long : length c.sealed_of-bytes.result.now ≡ length f
    = ap length c.sealed_of-bytes.ensures
    ∙ length-sealed (g.C.UnitCipher.enciphered c.args.cipher.now) (g.C.UnitCipher.deciphered c.args.cipher.now) c.args.first k c.requires.within f bytes
    (g.met.C.UnitCipher.enciphered_is_unit c.args.cipher.now) (g.met.C.UnitCipher.deciphers c.args.cipher.now) in
    omega (arith, long, c.requires.inside)

pub returns-in-Err-clause-outside : goal.returns-in-Err-clause-outside
returns-in-Err-clause-outside g c =
    let f : List ℕ = c.args.fragment.now in
    let k : ℕ = length f / 512 in
    let bytes : IsBytes (512 * k) f = whole_bytes f (omega (arith, c.requires.whole)) c.bytes_are_known.ensures in
    let long : length c.sealed_of-bytes.result.now ≡ length f
    = ap length c.sealed_of-bytes.ensures
    ∙ length-sealed (g.C.UnitCipher.enciphered c.args.cipher.now) (g.C.UnitCipher.deciphered c.args.cipher.now) c.args.first k c.requires.within f bytes
    (g.met.C.UnitCipher.enciphered_is_unit c.args.cipher.now) (g.met.C.UnitCipher.deciphers c.args.cipher.now) in
    subst (λ (n : ℕ). Both (g.S.Store.image c.args.disk.now) (g.S.Store.image c.write_at.new.self) (SameOutside (512 * c.args.first) n)) long
    c.in-Err.ensures.outside

pub returns-clause-outside : goal.returns-clause-outside
returns-clause-outside g c =
    let f : List ℕ = c.args.fragment.now in
    let k : ℕ = length f / 512 in
    let bytes : IsBytes (512 * k) f = whole_bytes f (omega (arith, c.requires.whole)) c.bytes_are_known.ensures in
    outside (g.C.UnitCipher.enciphered c.args.cipher.now) (g.C.UnitCipher.deciphered c.args.cipher.now) c.args.first k c.requires.within f bytes
    (g.met.C.UnitCipher.enciphered_is_unit c.args.cipher.now) (g.met.C.UnitCipher.deciphers c.args.cipher.now)
    (g.S.Store.image c.args.disk.now) (g.S.Store.image c.write_at.new.self) (g.S.Store.size c.args.disk.now) c.requires.inside
    (g.met.S.Store.image_is_whole c.args.disk.now) c.sealed_of-bytes.result.now c.sealed_of-bytes.ensures c.in_default.ensures.written

pub returns-clause-stored : goal.returns-clause-stored
returns-clause-stored g c _ =
    let f : List ℕ = c.args.fragment.now in
    let k : ℕ = length f / 512 in
    let bytes : IsBytes (512 * k) f = whole_bytes f (omega (arith, c.requires.whole)) c.bytes_are_known.ensures in
    stored (g.C.UnitCipher.enciphered c.args.cipher.now) (g.C.UnitCipher.deciphered c.args.cipher.now) c.args.first k c.requires.within f bytes
    (g.met.C.UnitCipher.enciphered_is_unit c.args.cipher.now) (g.met.C.UnitCipher.deciphers c.args.cipher.now)
    (g.S.Store.image c.args.disk.now) (g.S.Store.image c.write_at.new.self) (g.S.Store.size c.args.disk.now) c.requires.inside
    (g.met.S.Store.image_is_whole c.args.disk.now) c.sealed_of-bytes.result.now c.sealed_of-bytes.ensures c.in_default.ensures.written

pub returns-in-Err-clause-crash : goal.returns-in-Err-clause-crash
returns-in-Err-clause-crash g c =
    let f : List ℕ = c.args.fragment.now in
    let k : ℕ = length f / 512 in
    let bytes : IsBytes (512 * k) f = whole_bytes f (omega (arith, c.requires.whole)) c.bytes_are_known.ensures in
    let long : length c.sealed_of-bytes.result.now ≡ length f
    = ap length c.sealed_of-bytes.ensures
    ∙ length-sealed (g.C.UnitCipher.enciphered c.args.cipher.now) (g.C.UnitCipher.deciphered c.args.cipher.now) c.args.first k c.requires.within f bytes
    (g.met.C.UnitCipher.enciphered_is_unit c.args.cipher.now) (g.met.C.UnitCipher.deciphers c.args.cipher.now) in
    subst (λ (n : ℕ). Outcomes g.S.Store.tells (g.S.Store.moment c.args.disk.now) (g.S.Store.moment c.write_at.new.self)
    (g.S.Store.left_since c.args.disk.now) (g.S.Store.left_since c.write_at.new.self) (g.S.Store.may_leave c.args.disk.now)
    (g.S.Store.may_leave c.write_at.new.self) (SameOutside (512 * c.args.first) n)) long c.in-Err.ensures.crash

pub returns-clause-crash : goal.returns-clause-crash
returns-clause-crash g c =
    let f : List ℕ = c.args.fragment.now in
    let k : ℕ = length f / 512 in
    let bytes : IsBytes (512 * k) f = whole_bytes f (omega (arith, c.requires.whole)) c.bytes_are_known.ensures in
    let long : length c.sealed_of-bytes.result.now ≡ length f
    = ap length c.sealed_of-bytes.ensures
    ∙ length-sealed (g.C.UnitCipher.enciphered c.args.cipher.now) (g.C.UnitCipher.deciphered c.args.cipher.now) c.args.first k c.requires.within f bytes
    (g.met.C.UnitCipher.enciphered_is_unit c.args.cipher.now) (g.met.C.UnitCipher.deciphers c.args.cipher.now) in
    subst (λ (n : ℕ). Outcomes g.S.Store.tells (g.S.Store.moment c.args.disk.now) (g.S.Store.moment c.write_at.new.self)
    (g.S.Store.left_since c.args.disk.now) (g.S.Store.left_since c.write_at.new.self) (g.S.Store.may_leave c.args.disk.now)
    (g.S.Store.may_leave c.write_at.new.self) (SameOutside (512 * c.args.first) n)) long c.in_default.ensures.crash
