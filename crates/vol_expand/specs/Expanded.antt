-- An expanded container: the standard header's volume, in a longer container. docs/FORMAT.md, "Expanding", has the
-- picture.
--
-- The volume gets all bytes up to the new backup headers, and keeps its start. From the old backup headers on, the
-- image is random bytes, except for the body of the new backup. That header's salt is the random bytes in its slot,
-- and the standard header's salt the random bytes after the image. The bytes before the old backup headers stay,
-- except for the standard header.
--
-- is_expandable len size s     a container of len bytes can get `size` bytes, if its volume's sectors have s bytes
-- backups_at image             where the image's backup headers are
-- expanded_fields size f       the fields of both new headers
-- words_of n                   the bytes of the words of the random stream that n bytes are taken from
-- fill_bytes g n               the first n bytes of the random stream of g, of which the last word may give a part
-- filled g size image          the image with random bytes from its backup headers on, up to its new length
-- expanded g k f size image    the expanded image, from the random stream of g, with headers under the sealing k
use Rattle.std.specs.Prelude.{ℕ, ◌+◌, ◌-◌, ◌*◌, ◌/◌, ◌%◌, ◌^◌, ◌==◌, ◌&&◌, nat_lt, nat_le, Bool, List, ◌++◌, length, take}
use Rattle.rand_chacha.specs.ChaCha.{ChaCha}
use Rattle.vc_layout.specs.Layout.{place_of}
use Rattle.vc_layout.specs.declared.slots.Slot.TheVariants.{Standard, BackupStandard}
use Rattle.vc_header.specs.declared.fields.Fields.{Fields}
use Rattle.volume_format.specs.Formatted.{Sealing, with_body}
use Rattle.volume_format.specs.Hidden.{with_header}
use Rattle.volume_format.specs.Stream.{stream_bytes}

abbrev pub is_expandable : ℕ → ℕ → ℕ → Bool
is_expandable len size s = nat_lt len size && (nat_le size (2 ^ 40) && size % s == 0)

abbrev pub backups_at : List ℕ → ℕ
backups_at image = place_of BackupStandard (length image)

abbrev pub expanded_fields : ℕ → Fields → Fields
expanded_fields size f = record f {
  volume_size = size - 131072 - f.start;
  encrypted = size - 131072 - f.start;
}

-- a word has 4 bytes
abbrev pub words_of : ℕ → ℕ
words_of n = (n + 3) / 4 * 4

abbrev pub fill_bytes : ChaCha → ℕ → List ℕ
fill_bytes g n = take n (stream_bytes g 0 (words_of n))

abbrev pub filled : ChaCha → ℕ → List ℕ → List ℕ
filled g size image = take (backups_at image) image ++ fill_bytes g (size - backups_at image)

-- the salt of the body is what the fill left in its slot
unfoldable pub expanded : ChaCha → Sealing → Fields → ℕ → List ℕ → List ℕ
expanded g k f size image =
    let salt = stream_bytes g (words_of (size - backups_at image)) 64 in
    with_header k salt (expanded_fields size f) Standard
    (with_body k (expanded_fields size f) BackupStandard (filled g size image))
