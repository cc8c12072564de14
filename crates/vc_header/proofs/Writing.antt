-- The bytes that are written, part by part, and that they are read again.
--
-- IsBegun done bytes at left   bytes are those of done, which are `at`, and then `left` zeros
--
-- Each part is put at the end of what is done, where only zeros stand, so the parts follow each other as in
-- `fields_part`. The offsets of a written body are numerals, so the bytes at each of them are found by
-- computing, and a number's bytes are read back as the number.
use Rattle.std.proofs.Common.{◌≡◌, ◌<◌, ℕ, ◌+◌, ◌^◌, List, [], ◌++◌, length, take, drop, replicate, refl, sym, ap, ap₂, ◌∙◌, subst, arith}
use Rattle.std.proofs.lemmas.List.{append-nil, append_assoc, length-append, length-replicate, take_all, take_at, drop_at, drop-drop, replicate-append-replicate}
use Rattle.byteorder.specs.Endian.{big_number, big_bytes}
use Rattle.byteorder.specs.Numbers.{big_number-reads_back}
use Rattle.vc_layout.specs.declared.slots.Slot.{Slot}
use Rattle.vc_header.specs.declared.fields.Fields.{Fields}
use Rattle.vc_header.specs.Crc.{crc}
use Rattle.vc_header.specs.Header.{fields_of, keys_part, fields_part, body_of, Meets, Valid}
use Rattle.vc_header.proofs.Reflected.{reflected_below}

-- ---- a part at its place

-- what stood between done and rest goes, and the part comes
pub put_between : (done gone rest part old new : List ℕ) {at : ℕ} → old ≡ done ++ (gone ++ rest)
    → length done ≡ at → length gone ≡ length part
    → new ≡ take at old ++ part ++ drop (at + length part) old → new ≡ done ++ part ++ rest
put_between done gone rest part old new {at} whole count size put =
    let front : take at old ≡ done = ap (take at) whole ∙ take_at done (gone ++ rest) at count in
    let behind : drop (at + length part) old ≡ rest
    = sym (drop-drop (length part) at old)
    ∙ ap (λ (xs : List ℕ). drop (length part) (drop at xs)) whole
    ∙ ap (drop (length part)) (drop_at done (gone ++ rest) at count)
    ∙ drop_at gone rest (length part) size in
    put ∙ ap₂ (λ (xs ys : List ℕ). xs ++ part ++ ys) front behind

-- ---- the fields, one after the other

pub record IsBegun (done bytes : List ℕ) (at left : ℕ) : Type 0 where
  pub count : length done ≡ at
  pub whole : bytes ≡ done ++ replicate left 0

pub IsBegun-empty : (n : ℕ) → IsBegun [] (replicate n 0) 0 n
IsBegun-empty n = record { count = refl; whole = refl }

split_zeros : (n left : ℕ) (done bytes : List ℕ) → bytes ≡ done ++ replicate (n + left) 0
    → bytes ≡ done ++ (replicate n 0 ++ replicate left 0)
split_zeros n left done bytes whole =
    whole ∙ ap (λ (xs : List ℕ). done ++ xs) (sym (replicate-append-replicate n left 0))

-- a part more
pub IsBegun-put : (n left : ℕ) {at : ℕ} {done xs part old new : List ℕ}
    → IsBegun done old at (n + left) → part ≡ xs
    → new ≡ take at old ++ part ++ drop (at + length part) old → length xs ≡ n
    → IsBegun (done ++ xs) new (at + n) left
IsBegun-put n left {at} {done} {xs} {part} {old} {new} begun same put size =
    let zeros : length (replicate {A = ℕ} n 0) ≡ n = length-replicate n 0 in
    let long : length (replicate {A = ℕ} n 0) ≡ length part = zeros ∙ sym size ∙ ap length (sym same) in
    let whole : new ≡ done ++ part ++ replicate left 0
    = put_between done (replicate n 0) (replicate left 0) part old new
    (split_zeros n left done old begun.whole) begun.count long put in
    record {
      count = length-append done xs ∙ omega (arith, begun.count, size);
      whole = whole ∙ ap (λ (ys : List ℕ). done ++ ys ++ replicate left 0) same;
    }

-- zeros are left where they stand
pub IsBegun-zeros : (n left : ℕ) {at : ℕ} {done bytes : List ℕ} → IsBegun done bytes at (n + left)
    → IsBegun (done ++ replicate n 0) bytes (at + n) left
IsBegun-zeros n left {at} {done} {bytes} begun =
    let zeros : length (replicate {A = ℕ} n 0) ≡ n = length-replicate n 0 in
    record {
      count = length-append done (replicate n 0) ∙ omega (arith, begun.count, zeros);
      whole = split_zeros n left done bytes begun.whole
          ∙ sym (append_assoc done (replicate n 0) (replicate left 0));
    }

-- nothing is left
pub IsBegun-end : {at : ℕ} {done bytes : List ℕ} → IsBegun done bytes at 0 → bytes ≡ done
IsBegun-end {at} {done} {bytes} begun = begun.whole ∙ append-nil done

-- ---- the whole body

length_fields_part : (f : Fields) → length (fields_part f) ≡ 188
unfolding fields_part
length_fields_part f = refl

-- the master keys, in a body of zeros
keys_put : (material old new : List ℕ) → old ≡ replicate 448 0 → length material ≡ 192
    → new ≡ take 192 old ++ material ++ drop (192 + length material) old
    → new ≡ replicate 192 0 ++ (material ++ replicate 64 0)
keys_put material old new zeros size put =
    let split : old ≡ replicate 192 0 ++ (replicate 192 0 ++ replicate 64 0) = zeros ∙ refl in
    put_between (replicate 192 0) (replicate 192 0) (replicate 64 0) material old new split refl (sym size) put
    ∙ append_assoc (replicate 192 0) material (replicate 64 0)

pub keys_are_put : (f : Fields) (old new : List ℕ) → old ≡ replicate 448 0 → length f.material ≡ 192
    → new ≡ take 192 old ++ f.material ++ drop (192 + length f.material) old
    → take 256 (drop 192 new) ≡ keys_part f
keys_are_put f old new zeros size put =
    let rest : drop 192 new ≡ keys_part f
    = ap (drop 192) (keys_put f.material old new zeros size put)
    ∙ drop_at (replicate 192 0) (keys_part f) 192 refl in
    let long : length (keys_part f) ≡ 256 = length-append f.material (replicate 64 0) ∙ omega (arith, size) in
    ap (take 256) rest ∙ take_all 256 (keys_part f) (omega arith)

pub body_is_put : (f : Fields) (fields sum old first second last : List ℕ)
    → old ≡ replicate 448 0 → length f.material ≡ 192
    → first ≡ take 192 old ++ f.material ++ drop (192 + length f.material) old
    → fields ≡ fields_part f → second ≡ take 0 first ++ fields ++ drop (0 + length fields) first
    → sum ≡ big_bytes 4 (crc fields) → last ≡ take 188 second ++ sum ++ drop (188 + length sum) second
    → last ≡ body_of f
unfolding body_of
body_is_put f fields sum old first second last zeros size put fields_are put_fields sum_is put_sum =
    let whole : first ≡ [] ++ (replicate 188 0 ++ (replicate 4 0 ++ keys_part f))
    = keys_put f.material old first zeros size put in
    let count : length fields ≡ 188 = ap length fields_are ∙ length_fields_part f in
    let sum_count : length sum ≡ 4 = ap length sum_is in
    let begun : second ≡ fields ++ (replicate 4 0 ++ keys_part f)
    = put_between [] (replicate 188 0) (replicate 4 0 ++ keys_part f) fields first second whole refl
    (sym count) put_fields in
    let ended : last ≡ fields ++ sum ++ keys_part f
    = put_between fields (replicate 4 0) (keys_part f) sum second last begun count (sym sum_count) put_sum in
    ended
    ∙ ap (λ (xs : List ℕ). fields ++ xs ++ keys_part f) sum_is
    ∙ ap (λ (xs : List ℕ). xs ++ big_bytes 4 (crc xs) ++ keys_part f) fields_are

-- ---- what was written is read again

-- the fields are numbers of their bytes, and the master keys have their length
pub record HasRanges (f : Fields) : Type 0 where
  pub hidden_size : f.hidden_size < 2 ^ 64
  pub volume_size : f.volume_size < 2 ^ 64
  pub start : f.start < 2 ^ 64
  pub encrypted : f.encrypted < 2 ^ 64
  pub flags : f.flags < 2 ^ 32
  pub sector : f.sector < 2 ^ 32
  pub material : length f.material ≡ 192

same_fields : (f g : Fields) → f.hidden_size ≡ g.hidden_size → f.volume_size ≡ g.volume_size → f.start ≡ g.start
    → f.encrypted ≡ g.encrypted → f.flags ≡ g.flags → f.sector ≡ g.sector → f.material ≡ g.material → f ≡ g
same_fields f g hidden_size volume_size start encrypted flags sector material =
    let parts : ◌≡◌ {A = Fields}
    (record {
      hidden_size = f.hidden_size;
      volume_size = f.volume_size;
      start = f.start;
      encrypted = f.encrypted;
      flags = f.flags;
      sector = f.sector;
      material = f.material;
    })
    (record {
      hidden_size = g.hidden_size;
      volume_size = g.volume_size;
      start = g.start;
      encrypted = g.encrypted;
      flags = g.flags;
      sector = g.sector;
      material = g.material;
    }) = cc in
    parts

pub read_again : (f : Fields) → HasRanges f → fields_of (body_of f) ≡ f
unfolding body_of fields_part
read_again f ranges =
    let body : List ℕ = body_of f in
    same_fields (fields_of body) f
    (big_number-reads_back 8 f.hidden_size (drop 36 body) ranges.hidden_size)
    (big_number-reads_back 8 f.volume_size (drop 44 body) ranges.volume_size)
    (big_number-reads_back 8 f.start (drop 52 body) ranges.start)
    (big_number-reads_back 8 f.encrypted (drop 60 body) ranges.encrypted)
    (big_number-reads_back 4 f.flags (drop 64 body) ranges.flags)
    (big_number-reads_back 4 f.sector (drop 68 body) ranges.sector)
    (take_at f.material (replicate 64 0) 192 ranges.material)

crc_below : (bytes : List ℕ) → crc bytes < 2 ^ 32
unfolding crc
crc_below bytes = reflected_below _

checksum_read : (xs rest : List ℕ) → big_number 4 (big_bytes 4 (crc xs) ++ rest) ≡ crc xs
checksum_read xs rest = big_number-reads_back 4 (crc xs) rest (crc_below xs)

pub written_valid : (f : Fields) (body : List ℕ) → body ≡ body_of f → fields_of body ≡ f
    → (slot : Slot) (len : ℕ) → Meets f slot len → Valid body slot len
unfolding body_of fields_part
written_valid f body written again slot len rules =
    let P : List ℕ → Type 0 = λ xs. Valid xs slot len in
    let Q : Fields → Type 0 = λ g. Meets g slot len in
    let same : fields_of (body_of f) ≡ f = ap fields_of (sym written) ∙ again in
    subst P (sym written) (record {
      magic = refl;
      version = refl;
      keys_checksum = checksum_read (keys_part f) (drop 12 (body_of f));
      fields_checksum = checksum_read (fields_part f) (drop 192 (body_of f));
      fields = subst Q (sym same) rules;
    })
