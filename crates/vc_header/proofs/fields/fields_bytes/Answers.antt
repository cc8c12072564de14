use Rattle.std.proofs.Common.{◌∙◌, ap, refl}
use Rattle.byteorder.specs.Endian.{big_bytes}
use Rattle.vc_header.specs.Header.{fields_part}
use Rattle.vc_header.proofs.Writing.{IsBegun-empty, IsBegun-put, IsBegun-zeros, IsBegun-end}
use Rattle.vc_header.proofs.fields.fields_bytes.Goals as goal

pub returns : goal.returns
unfolding fields_part
returns c =
    let magic = IsBegun-put 4 184 (IsBegun-empty 188) c.to_be_bytes.ensures c.put.ensures refl in
    let version = IsBegun-put 2 182 magic c.to_be_bytes-2.ensures c.put-2.ensures refl in
    let program = IsBegun-put 2 180 version c.to_be_bytes-3.ensures c.put-3.ensures refl in
    let keys = IsBegun-put 4 176 program (c.to_be_bytes-4.ensures ∙ ap (big_bytes 4) c.requires) c.put-4.ensures refl in
    let reserved = IsBegun-zeros 16 160 keys in
    let hidden_size = IsBegun-put 8 152 reserved c.to_be_bytes-5.ensures c.put-5.ensures refl in
    let volume_size = IsBegun-put 8 144 hidden_size c.to_be_bytes-6.ensures c.put-6.ensures refl in
    let start = IsBegun-put 8 136 volume_size c.to_be_bytes-7.ensures c.put-7.ensures refl in
    let encrypted = IsBegun-put 8 128 start c.to_be_bytes-8.ensures c.put-8.ensures refl in
    let flags = IsBegun-put 4 124 encrypted c.to_be_bytes-9.ensures c.put-9.ensures refl in
    let sector = IsBegun-put 4 120 flags c.to_be_bytes-10.ensures c.put-10.ensures refl in
    IsBegun-end (IsBegun-zeros 120 0 sector)
