use Rattle.std.proofs.Common.{take}
use Rattle.vc_header.proofs.Register.{IsRegister}
use Rattle.vc_header.proofs.checksum.crc32.Given as goal

abbrev pub invariant-loop-byte : goal.invariant-loop-byte
invariant-loop-byte l = IsRegister (take l.byte-index l.bytes) l.register
