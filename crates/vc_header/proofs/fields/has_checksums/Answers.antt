use Rattle.std.proofs.Common.{◌≡◌, ◌∙◌, drop, take, length, ap, arith}
use Rattle.std.proofs.lemmas.List.{take_all, length-drop}
use Rattle.vc_header.specs.Crc.{crc}
use Rattle.vc_header.specs.Header.{field}
use Rattle.vc_header.proofs.Reading.{read_front, both_checked}
use Rattle.vc_header.proofs.fields.has_checksums.Goals as goal

pub returns-then-read_u32-crc32 : goal.returns-then-read_u32-crc32
returns-then-read_u32-crc32 c =
    let plain = c.args.plain.now in
    let count : length plain ≡ 448 = c.told-plain in
    let rest : take 256 (drop 192 plain) ≡ drop 192 plain
    = take_all 256 (drop 192 plain) (omega (arith, length-drop 192 plain)) in
    both_checked c.read_u32.result c.crc32.result c.read_u32-then-read_u32-crc32.result c.crc32-then-read_u32-crc32.result
    (field 252 4 plain) (crc (take 188 plain)) (field 72 4 plain) (crc (drop 192 plain))
    c.if-read_u32-crc32.true
    (c.read_u32.ensures ∙ read_front 4 260 (drop 188 plain) (omega arith))
    c.crc32.ensures
    (c.read_u32-then-read_u32-crc32.ensures ∙ read_front 4 440 (drop 8 plain) (omega arith))
    (c.crc32-then-read_u32-crc32.ensures ∙ ap crc rest)
