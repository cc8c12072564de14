-- The command lines. An argument of a line is the list of its bytes, and so is a value.
--
-- A line is a command's name, and then positions, options and flags in any order. An option is
-- written `--name value` or `--name=value`, and a flag `--name`. A value that begins with a hyphen
-- has to follow `=`. Everything else that begins with a hyphen is an error, and what doesn't is the
-- next position. Nothing may be given twice. A position or an option that has no default and isn't
-- given leaves the command without a value, and so isn't a valid command line.
--
-- commands      the table: what each command may have, and what it makes of it
-- read f words  what is given: each position, option and flag with its value
-- line words    the command of a whole line with its values, or none
use Rattle.std.specs.Prelude.{ℕ, ◌+◌, ◌-◌, ◌*◌, ◌^◌, ◌==◌, ◌&&◌, ◌||◌, nat_lt, nat_le, not, Bool, true, false, if◌then◌else◌, List, [], ◌∷◌, codes, length, map, drop, find, Option, Some, None, is_some, option_map, option_and_then}
use Rattle.std.specs.Char.{is_ascii_digit, digit_value}
use Rattle.std.specs.List.{list_all, list_any, before_first, after_first}
use Rattle.std.specs.Option.{option_map_or}
use Rattle.std.specs.Str.{bytes_eq}
use Rattle.std.specs.Str.Parse.{digits_value}
use Rattle.kdf_hmac.specs.declared.prf.Prf.{Prf}
use Rattle.kdf_hmac.specs.declared.prf.Prf.TheVariants.{Sha512}
use Rattle.kdf_hmac.specs.Pbkdf2.{greatest_pim}
use Rattle.kdf_hmac.specs.Prfs.{prf_named}
use Rattle.algorithm_names.specs.declared.algorithm.Algorithm.{Algorithm}
use Rattle.algorithm_names.specs.declared.algorithm.Algorithm.TheVariants.{Aes}
use Rattle.algorithm_names.specs.Algorithms.{named}
use Rattle.cmd_words.specs.declared.choice.Choice.{Choice}
use Rattle.cmd_words.specs.declared.choice.Choice.TheVariants as choice
use Rattle.vc_layout.specs.declared.kind.Kind.{Kind}
use Rattle.vc_layout.specs.declared.kind.Kind.TheVariants.{Any, StandardOnly, HiddenOnly, AnyBackup, StandardBackup, HiddenBackup}

abbrev pub Text : Type 0
Text = List ℕ

abbrev pub is_in : Text → List Text → Bool
is_in name names = list_any (λ n. bytes_eq n name) names

-- ---- what is given

-- what a command may have: positions in their order, options, which have a value, and flags
pub record Form : Type 0 where
  pub positions : List Text
  pub options : List Text
  pub flags : List Text

-- a position, an option or a flag that is given
pub record Use : Type 0 where
  pub name : Text
  pub value : Text

abbrev pub begins_with_hyphen : Text → Bool
begins_with_hyphen [] = false
begins_with_hyphen (c ∷ cs) = c == 45

abbrev pub begins_with_hyphens : Text → Bool
begins_with_hyphens [] = false
begins_with_hyphens (c ∷ cs) = c == 45 && begins_with_hyphen cs

abbrev pub is_equals : ℕ → Bool
is_equals c = c == 61

-- behind two hyphens: what is before the first `=`, and what is after it
abbrev pub name_in : Text → Text
name_in word = before_first is_equals (drop 2 word)

abbrev pub has_equals : Text → Bool
has_equals word = list_any is_equals (drop 2 word)

abbrev pub value_in : Text → Text
value_in word = after_first is_equals (drop 2 word)

-- an option whose value is the next argument
abbrev pub awaits_value : Form → Text → Bool
awaits_value f word = begins_with_hyphens word && not (has_equals word) && is_in (name_in word) f.options

-- that option with its value, which may not begin with a hyphen
abbrev pub use_with : Text → Text → Option Use
use_with word value =
    if begins_with_hyphen value then None else Some (record { name = name_in word; value = value })

-- the next of the positions that are left
abbrev pub next_position : List Text → Text → Option Use
next_position [] word = None
next_position (place ∷ places) word = Some (record { name = place; value = word })

abbrev pub places_after : List Text → Text → List Text
places_after places word = if begins_with_hyphen word then places else drop 1 places

-- what any other argument gives
abbrev pub use_of : Form → List Text → Text → Option Use
use_of f places word =
    if not (begins_with_hyphen word) then next_position places word
    else (if begins_with_hyphens word && has_equals word && is_in (name_in word) f.options
    then Some (record { name = name_in word; value = value_in word })
    else (if begins_with_hyphens word && not (has_equals word) && is_in (name_in word) f.flags
    then Some (record { name = name_in word; value = [] })
    else None))

abbrev pub followed_by : Option Use → Option (List Use) → Option (List Use)
followed_by None us = None
followed_by (Some u) None = None
followed_by (Some u) (Some us) = Some (u ∷ us)

-- what the arguments give, with these positions left
unfoldable pub uses : Form → List Text → List Text → Option (List Use)
uses f places [] = Some []
uses f places (word ∷ []) = followed_by (use_of f places word) (Some [])
uses f places (word ∷ next ∷ rest) =
    if awaits_value f word then followed_by (use_with word next) (uses f places rest)
    else followed_by (use_of f places word) (uses f (places_after places word) (next ∷ rest))

abbrev pub is_distinct : List Text → Bool
is_distinct [] = true
is_distinct (name ∷ names) = not (is_in name names) && is_distinct names

abbrev pub names_of : List Use → List Text
names_of us = map (λ (u : Use). u.name) us

-- nothing is given twice
abbrev pub once : List Use → Option (List Use)
once us = if is_distinct (names_of us) then Some us else None

unfoldable pub read : Form → List Text → Option (List Use)
read f words = option_and_then once (uses f f.positions words)

-- what is given under a name
unfoldable pub value_of : Text → List Use → Option Text
value_of name us = option_map (λ (u : Use). u.value) (find (λ u. bytes_eq u.name name) us)

-- ---- values

-- 1 to 20 decimal digits of a number below 2^64
unfoldable pub number_in : Text → Option ℕ
number_in text =
    if nat_le 1 (length text) && nat_le (length text) 20 && list_all is_ascii_digit text
    && nat_lt (digits_value 10 text) (2 ^ 64)
    then Some (digits_value 10 text) else None

-- a number from `least` to `most`
abbrev pub number_within : ℕ → ℕ → Text → Option ℕ
number_within least most text =
    option_and_then (λ n. if nat_le least n && nat_le n most then Some n else None) (number_in text)

-- a password has 1 to 128 bytes
abbrev pub password_in : Text → Option Text
password_in text = if nat_le 1 (length text) && nat_le (length text) 128 then Some text else None

abbrev pub pim_in : Text → Option ℕ
pim_in text = number_within 0 greatest_pim text

-- the size of a sector
abbrev pub is_sector_size : ℕ → Bool
is_sector_size n = n == 512 || n == 1024 || n == 2048 || n == 4096

abbrev pub sector_in : Text → Option ℕ
sector_in text = option_and_then (λ n. if is_sector_size n then Some n else None) (number_in text)

-- two hexadecimal digits, of either case, are a byte
unfoldable pub bytes_in : Text → List ℕ
bytes_in [] = []
bytes_in (high ∷ []) = []
bytes_in (high ∷ low ∷ rest) = (16 * digit_value high + digit_value low) ∷ bytes_in rest

-- a random key is 64 such digits
abbrev pub random_in : Text → Option (List ℕ)
random_in text =
    if length text == 64 && list_all (λ c. nat_lt (digit_value c) 16) text then Some (bytes_in text) else None

abbrev pub choice_in : Text → Option Choice
choice_in text =
    if bytes_eq text (codes "any") then Some choice.Any
    else (if bytes_eq text (codes "standard") then Some choice.Standard
    else (if bytes_eq text (codes "hidden") then Some choice.Hidden else None))

-- which headers are tried, at the backup headers or not
abbrev pub kind_of : Choice → Bool → Kind
kind_of choice.Any backup = if backup then AnyBackup else Any
kind_of choice.Standard backup = if backup then StandardBackup else StandardOnly
kind_of choice.Hidden backup = if backup then HiddenBackup else HiddenOnly

-- ---- positions, options and flags: what each is, and its default

abbrev pub or_default : {A : Type 0} → A → (Text → Option A) → Option Text → Option A
or_default usual reading text = option_map_or reading text (Some usual)

-- with no default, and not needed
abbrev pub perhaps : {A : Type 0} → (Text → Option A) → Option Text → Option (Option A)
perhaps reading text = option_map_or (λ t. option_map (λ a. Some a) (reading t)) text (Some None)

abbrev pub path_in : List Use → Option Text
path_in us = value_of (codes "PATH") us

-- FIRST, COUNT and --size
abbrev pub number_of : Text → List Use → Option ℕ
number_of name us = option_and_then number_in (value_of name us)

abbrev pub drill_number_of : List Use → Option ℕ
drill_number_of us = option_and_then (number_within 0 (2 ^ 32 - 1)) (value_of (codes "N") us)

-- --password and --new
abbrev pub password_of : Text → List Use → Option Text
password_of name us = option_and_then password_in (value_of name us)

abbrev pub random_of : List Use → Option (List ℕ)
random_of us = option_and_then random_in (value_of (codes "random") us)

-- --pim and --new-pim
abbrev pub pim_of : Text → List Use → Option ℕ
pim_of name us = or_default 0 pim_in (value_of name us)

abbrev pub prf_of : List Use → Option Prf
prf_of us = or_default Sha512 prf_named (value_of (codes "prf") us)

abbrev pub new_prf_of : List Use → Option (Option Prf)
new_prf_of us = perhaps prf_named (value_of (codes "new-prf") us)

abbrev pub algorithm_of : List Use → Option Algorithm
algorithm_of us = or_default Aes named (value_of (codes "algorithm") us)

abbrev pub sector_of : List Use → Option ℕ
sector_of us = or_default 512 sector_in (value_of (codes "sector") us)

abbrev pub choice_of : List Use → Option Choice
choice_of us = or_default choice.Any choice_in (value_of (codes "kind") us)

abbrev pub is_backup : List Use → Bool
is_backup us = is_some (value_of (codes "backup") us)

-- each client's bytes begin with a handshake
abbrev pub has_handshake : List Use → Bool
has_handshake us = is_some (value_of (codes "handshake") us)

abbrev pub helpers_of : List Use → Option ℕ
helpers_of us = or_default 2 (number_within 0 8) (value_of (codes "helpers") us)

abbrev pub workers_of : List Use → Option ℕ
workers_of us = or_default 4 (number_within 1 8) (value_of (codes "workers") us)

-- which headers are tried; `restore` always opens a backup
abbrev pub tried : List Use → Option Kind
tried us = option_map (λ c. kind_of c (is_backup us)) (choice_of us)

abbrev pub tried_backup : List Use → Option Kind
tried_backup us = option_map (λ c. kind_of c true) (choice_of us)

-- a flag that has to be given
abbrev pub no_hidden_of : List Use → Option Bool
no_hidden_of us = if is_some (value_of (codes "no-hidden") us) then Some true else None

-- the protecting password with its PIM, which needs the password
abbrev pub protected : Option Text → Option ℕ → Option (Option (Text × ℕ))
protected None None = Some None
protected None (Some pim) = None
protected (Some password) None = Some (Some (password, 0))
protected (Some password) (Some pim) = Some (Some (password, pim))

abbrev pub protect_of : List Use → Option (Option (Text × ℕ))
protect_of us =
    option_and_then (λ password. option_and_then (protected password)
    (perhaps pim_in (value_of (codes "protect-pim") us)))
    (perhaps password_in (value_of (codes "protect") us))

-- a protecting password opens the hidden volume, so the password opens the standard one
abbrev pub served : Choice → Option (Text × ℕ) → Option Choice
served which None = Some which
served choice.Any (Some protect) = Some choice.Standard
served choice.Standard (Some protect) = Some choice.Standard
served choice.Hidden (Some protect) = None

abbrev pub tried_by_serve : List Use → Option Kind
tried_by_serve us =
    option_and_then (λ protect. option_and_then (λ which.
    option_map (λ c. kind_of c (is_backup us)) (served which protect)) (choice_of us)) (protect_of us)

-- ---- commands

pub data Line : Type 0 where
  -- path, size, password, random key, PIM, PRF, algorithm, sector size
  format : Text → ℕ → Text → List ℕ → ℕ → Prf → Algorithm → ℕ → Line
  hide : Text → ℕ → Text → List ℕ → ℕ → Prf → Algorithm → ℕ → Line
  -- path, password, PIM, kind
  info : Text → Text → ℕ → Kind → Line
  -- path, first sector, count of sectors, password, PIM, kind
  cat : Text → ℕ → ℕ → Text → ℕ → Kind → Line
  -- path, password, new password, random key, PIM, new PIM, new PRF, kind
  passwd : Text → Text → Text → List ℕ → ℕ → ℕ → Option Prf → Kind → Line
  -- path, password, random key, PIM, kind
  restore : Text → Text → List ℕ → ℕ → Kind → Line
  -- path, size, password, random key, PIM, whether there is no hidden volume
  expand : Text → ℕ → Text → List ℕ → ℕ → Bool → Line
  -- path, password, PIM, kind, protecting password and its PIM, helpers, workers, whether clients begin with a handshake
  serve : Text → Text → ℕ → Kind → Option (Text × ℕ) → ℕ → ℕ → Bool → Line
  drill : ℕ → Line

-- one value more of a command, if it is there
infixl 10 ◌⊗◌
abbrev pub ◌⊗◌ : {A B : Type 0} → Option (A → B) → Option A → Option B
None ⊗ a = None
Some f ⊗ None = None
Some f ⊗ Some a = Some (f a)

abbrev pub made_of : (Text → ℕ → Text → List ℕ → ℕ → Prf → Algorithm → ℕ → Line) → List Use → Option Line
made_of make us =
    Some make ⊗ path_in us ⊗ number_of (codes "size") us ⊗ password_of (codes "password") us ⊗ random_of us
    ⊗ pim_of (codes "pim") us ⊗ prf_of us ⊗ algorithm_of us ⊗ sector_of us

abbrev pub info_of : List Use → Option Line
info_of us =
    Some (λ path password pim kind. info path password pim kind) ⊗ path_in us ⊗ password_of (codes "password") us
    ⊗ pim_of (codes "pim") us ⊗ tried us

abbrev pub cat_of : List Use → Option Line
cat_of us =
    Some (λ path first count password pim kind. cat path first count password pim kind) ⊗ path_in us
    ⊗ number_of (codes "FIRST") us ⊗ number_of (codes "COUNT") us ⊗ password_of (codes "password") us
    ⊗ pim_of (codes "pim") us ⊗ tried us

abbrev pub passwd_of : List Use → Option Line
passwd_of us =
    Some (λ path password new random pim new_pim new_prf kind. passwd path password new random pim new_pim new_prf kind)
    ⊗ path_in us ⊗ password_of (codes "password") us ⊗ password_of (codes "new") us ⊗ random_of us
    ⊗ pim_of (codes "pim") us ⊗ pim_of (codes "new-pim") us ⊗ new_prf_of us ⊗ tried us

abbrev pub restore_of : List Use → Option Line
restore_of us =
    Some (λ path password random pim kind. restore path password random pim kind) ⊗ path_in us
    ⊗ password_of (codes "password") us ⊗ random_of us ⊗ pim_of (codes "pim") us ⊗ tried_backup us

abbrev pub expand_of : List Use → Option Line
expand_of us =
    Some (λ path size password random pim no_hidden. expand path size password random pim no_hidden) ⊗ path_in us
    ⊗ number_of (codes "size") us ⊗ password_of (codes "password") us ⊗ random_of us ⊗ pim_of (codes "pim") us
    ⊗ no_hidden_of us

abbrev pub serve_of : List Use → Option Line
serve_of us =
    Some (λ path password pim protect kind helpers workers handshake.
    serve path password pim kind protect helpers workers handshake) ⊗ path_in us ⊗ password_of (codes "password") us ⊗ pim_of (codes "pim") us ⊗ protect_of us
    ⊗ tried_by_serve us ⊗ helpers_of us ⊗ workers_of us ⊗ Some (has_handshake us)

abbrev pub drill_of : List Use → Option Line
drill_of us = Some (λ n. drill n) ⊗ drill_number_of us

-- ---- the table

pub record Row : Type 0 where
  pub name : Text
  pub form : Form
  pub made : List Use → Option Line

-- the names in a text, with a space between two
abbrev pub begun : ℕ → List Text → List Text
begun c [] = (c ∷ []) ∷ []
begun c (name ∷ names) = (c ∷ name) ∷ names

abbrev pub names : Text → List Text
names [] = []
names (c ∷ cs) = if c == 32 then [] ∷ names cs else begun c (names cs)

abbrev pub row : Text → Text → Text → Text → (List Use → Option Line) → Row
row name positions options flags made = record {
  name = name;
  form = record { positions = names positions; options = names options; flags = names flags };
  made = made;
}

--  name, positions, options, flags, and the command of what is given
abbrev pub commands : List Row
commands =
    row (codes "format") (codes "PATH") (codes "size password random pim prf algorithm sector") [] (made_of format)
    ∷ row (codes "hide") (codes "PATH") (codes "size password random pim prf algorithm sector") [] (made_of hide)
    ∷ row (codes "info") (codes "PATH") (codes "password pim kind") (codes "backup") info_of
    ∷ row (codes "cat") (codes "PATH FIRST COUNT") (codes "password pim kind") (codes "backup") cat_of
    ∷ row (codes "passwd") (codes "PATH") (codes "password new random pim new-pim new-prf kind") (codes "backup") passwd_of
    ∷ row (codes "restore") (codes "PATH") (codes "password random pim kind") [] restore_of
    ∷ row (codes "expand") (codes "PATH") (codes "size password random pim") (codes "no-hidden") expand_of
    ∷ row (codes "serve") (codes "PATH") (codes "password pim kind protect protect-pim helpers workers")
    (codes "backup handshake") serve_of
    ∷ row (codes "drill") (codes "N") [] [] drill_of
    ∷ []

-- the row of a name
abbrev pub row_named : Text → Option Row
row_named name = find (λ (r : Row). bytes_eq name r.name) commands

unfoldable pub line : List Text → Option Line
line [] = None
line (name ∷ words) = option_and_then (λ (r : Row). option_and_then r.made (read r.form words)) (row_named name)
