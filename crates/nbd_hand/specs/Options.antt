-- The options of a client, and how each is answered: NBD protocol, "Option types". docs/PROTOCOL.md has the table. The one
-- export has the empty name, which is the default export.
--
-- asked number content        what the data of an option asks for
-- replies size zeros c ..     all that is replied to an option, of an export of `size` bytes; with zeros if the client
--                             didn't turn them off
-- leads c number              how the handshake ends after the reply, or None if the next option follows
-- Step, step size zeros bytes how bytes start that begin with an option
use Rattle.std.specs.Prelude.{ℕ, ◌==◌, ◌&&◌, ◌||◌, ◌+◌, ◌*◌, nat_lt, Bool, List, [], ◌++◌, length, take, drop, replicate, Option, Some, None, if◌then◌else◌}
use Rattle.byteorder.specs.Endian.{big_bytes}
use Rattle.nbd_hand.specs.Wire.{ack, field, has_magic, info, invalid, option_reply, server, unknown, unsupported}
use Rattle.nbd_hand.specs.declared.asked.Asked.{Asked}
use Rattle.nbd_hand.specs.declared.asked.Asked.TheVariants.{Default, Named, Malformed}
use Rattle.nbd_hand.specs.declared.end.HandEnd.{HandEnd}
use Rattle.nbd_hand.specs.declared.end.HandEnd.TheVariants.{Go, Aborted, Cut, Refused}
use Rattle.nbd_hand.specs.declared.end.Refusal.TheVariants.{Magic, Name}

-- options 6 and 7, NBD_OPT_INFO and NBD_OPT_GO
abbrev pub is_info : ℕ → Bool
is_info number = (number == 6) || (number == 7)

-- Their data: the length of a name (4 bytes), the name, a count (2 bytes), and that many requests of 2 bytes.
abbrev pub name_length : List ℕ → ℕ
name_length content = field 0 4 content

abbrev pub is_well_formed : List ℕ → Bool
is_well_formed content = length content == 6 + name_length content + 2 * field (4 + name_length content) 2 content

abbrev pub named : List ℕ → Asked
named content = if name_length content == 0 then Default else Named

-- The other options that are known have no data.
abbrev pub asked : ℕ → List ℕ → Asked
asked number content =
    if is_info number
    then (if is_well_formed content then named content else Malformed)
    else (if length content == 0 then Default else Malformed)

-- The size of the export and its flags: has flags, sends flush, sends FUA.
abbrev pub export : ℕ → List ℕ
export size = big_bytes 8 size ++ big_bytes 2 13

-- option 1, NBD_OPT_EXPORT_NAME, has a reply of its own form
abbrev pub alone : ℕ → Bool → List ℕ
alone size zeros = if zeros then export size ++ replicate 124 0 else export size

-- option 3, NBD_OPT_LIST: the name's length, which is 0, and no name
abbrev pub list_replies : Asked → List ℕ
list_replies Default = option_reply 3 server (big_bytes 4 0) ++ option_reply 3 ack []
list_replies Named = option_reply 3 invalid []
list_replies Malformed = option_reply 3 invalid []

-- NBD_INFO_EXPORT, which is 0, the size and the flags
abbrev pub info_replies : ℕ → ℕ → Asked → List ℕ
info_replies size number Default = option_reply number info (big_bytes 2 0 ++ export size) ++ option_reply number ack []
info_replies size number Named = option_reply number unknown []
info_replies size number Malformed = option_reply number invalid []

abbrev pub replies : ℕ → Bool → ℕ → Asked → List ℕ
replies size zeros number what =
    if number == 1 then alone size zeros else
    (if number == 2 then option_reply 2 ack [] else
    (if number == 3 then list_replies what else
    (if is_info number then info_replies size number what else option_reply number unsupported [])))

abbrev pub go : Asked → Option HandEnd
go Default = Some Go
go Named = None
go Malformed = None

abbrev pub leads : ℕ → Asked → Option HandEnd
leads number what =
    if number == 1 then Some Go else
    (if number == 2 then Some Aborted else
    (if number == 7 then go what else None))

pub data Step : Type 0 where
  -- the replies to an option that the next one follows, and the bytes after it
  next : List ℕ → List ℕ → Step
  -- the last replies, the end, and the bytes after it
  last : List ℕ → HandEnd → List ℕ → Step

abbrev pub cut : Step
cut = last [] Cut []

abbrev pub step_by : List ℕ → Option HandEnd → List ℕ → Step
step_by reply None rest = next reply rest
step_by reply (Some how) rest = last reply how rest

abbrev pub answered : ℕ → Bool → ℕ → Asked → List ℕ → Step
answered size zeros number what rest = step_by (replies size zeros number what) (leads number what) rest

-- An option is answered once all its data is there. Another name than the empty one ends the handshake before that.
abbrev pub after_head : ℕ → Bool → ℕ → ℕ → List ℕ → Step
after_head size zeros number n rest =
    if (number == 1) && nat_lt 0 n then last [] (Refused (Name n)) rest else
    (if nat_lt (length rest) n then cut else answered size zeros number (asked number (take n rest)) (drop n rest))

-- The magic counts as soon as it is there.
abbrev pub step : ℕ → Bool → List ℕ → Step
step size zeros bytes =
    if nat_lt (length bytes) 8 then cut else
    (if has_magic bytes
    then (if nat_lt (length bytes) 16 then cut else after_head size zeros (field 8 4 bytes) (field 12 4 bytes) (drop 16 bytes))
    else last [] (Refused (Magic (take 8 bytes))) (drop 8 bytes))
