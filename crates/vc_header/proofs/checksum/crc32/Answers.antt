use Rattle.std.proofs.Common.{◌≡◌, ◌<◌, List, ℕ, get_or, take, sym, subst, arith}
use Rattle.std.proofs.lemmas.List.{take_all}
use Rattle.vc_header.proofs.Register.{IsRegister, IsRegister-empty, IsRegister-more, crc_from_register}
use Rattle.vc_header.proofs.checksum.crc32.Goals as goal

pub loop-byte-init : goal.loop-byte-init
loop-byte-init c = IsRegister-empty

pub loop-byte-preserved : goal.loop-byte-preserved
loop-byte-preserved c =
    let bytes = c.args.bytes.now in
    let i = c.loop-byte.byte-index in
    let below : get_or bytes i 0 < 256 = omega (arith, c.type_inv.bytes i) in
    IsRegister-more bytes i c.loop-byte.register c.from.result c.loop-byte-test.true c.from.ensures below c.loop-byte.invariant

pub returns : goal.returns
returns c =
    let bytes = c.args.bytes.now in
    let all : take c.loop-byte.byte-index bytes ≡ bytes = take_all c.loop-byte.byte-index bytes (omega arith) in
    sym (crc_from_register bytes c.loop-byte.register
    (subst (λ (xs : List ℕ). IsRegister xs c.loop-byte.register) all c.loop-byte.invariant))
