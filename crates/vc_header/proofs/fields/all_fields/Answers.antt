use Rattle.std.proofs.Common.{◌≡◌, ◌∙◌, take, drop, arith}
use Rattle.vc_header.specs.Header.{field}
use Rattle.vc_header.proofs.Reading.{read_front}
use Rattle.vc_header.proofs.fields.all_fields.Goals as goal

pub returns : goal.returns
returns c =
    let plain = c.args.plain.now in
    let hidden_size : c.read_u64.result ≡ field 92 8 plain = c.read_u64.ensures ∙ read_front 8 420 (drop 28 plain) (omega arith) in
    let volume_size : c.read_u64-2.result ≡ field 100 8 plain = c.read_u64-2.ensures ∙ read_front 8 412 (drop 36 plain) (omega arith) in
    let start : c.read_u64-3.result ≡ field 108 8 plain = c.read_u64-3.ensures ∙ read_front 8 404 (drop 44 plain) (omega arith) in
    let encrypted : c.read_u64-4.result ≡ field 116 8 plain = c.read_u64-4.ensures ∙ read_front 8 396 (drop 52 plain) (omega arith) in
    let flags : c.read_u32.result ≡ field 124 4 plain = c.read_u32.ensures ∙ read_front 4 388 (drop 60 plain) (omega arith) in
    let sector : c.read_u32-2.result ≡ field 128 4 plain = c.read_u32-2.ensures ∙ read_front 4 384 (drop 64 plain) (omega arith) in
    let material : c.copy_from_slice.new.self ≡ take 192 (drop 192 plain) = c.copy_from_slice.ensures.after in
    cc
