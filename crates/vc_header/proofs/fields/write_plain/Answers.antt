use Rattle.std.proofs.Common.{◌≡◌, ◌∙◌, length, replicate, refl, ap, arith}
use Rattle.byteorder.specs.Endian.{big_bytes}
use Rattle.vc_header.specs.Crc.{crc}
use Rattle.vc_header.specs.Header.{fields_of}
use Rattle.vc_header.proofs.Writing.{keys_are_put, body_is_put, read_again, written_valid}
use Rattle.vc_header.proofs.fields.write_plain.Goals as goal

pub fields_bytes-fields-requires : goal.fields_bytes-fields-requires
fields_bytes-fields-requires c =
    let f = c.args.f.now in
    let size : length f.material ≡ 192 = omega arith in
    c.crc32.ensures ∙ ap crc (keys_are_put f (replicate 448 0) c.put.new.bytes refl size c.put.ensures)

pub returns-clause-body : goal.returns-clause-body
returns-clause-body c =
    let f = c.args.f.now in
    let size : length f.material ≡ 192 = omega arith in
    let sum : c.to_be_bytes.result ≡ big_bytes 4 (crc c.fields_bytes-fields.result)
    = c.to_be_bytes.ensures ∙ ap (big_bytes 4) c.crc32-checksum.ensures in
    body_is_put f c.fields_bytes-fields.result c.to_be_bytes.result (replicate 448 0) c.put.new.bytes c.put-2.new.bytes c.put-3.new.bytes
    refl size c.put.ensures c.fields_bytes-fields.ensures c.put-2.ensures sum c.put-3.ensures

pub returns-clause-again : goal.returns-clause-again
returns-clause-again c = ap fields_of (returns-clause-body c) ∙ read_again c.args.f.now (record {
  hidden_size = c.ranges_are_known.ensures.hidden_size;
  volume_size = c.ranges_are_known.ensures.volume_size;
  start = c.ranges_are_known.ensures.start;
  encrypted = c.ranges_are_known.ensures.encrypted;
  flags = c.ranges_are_known.ensures.flags;
  sector = c.ranges_are_known.ensures.sector;
  material = omega arith;
})

pub returns-clause-valid : goal.returns-clause-valid
returns-clause-valid c slot len rules =
    written_valid c.args.f.now c.put-3.new.bytes (returns-clause-body c) (returns-clause-again c) slot len rules
