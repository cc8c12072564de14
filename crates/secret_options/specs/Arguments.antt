-- Argument lists whose secrets are in files.
--
-- `--password-file PATH` and `--password-file=PATH` stand for `--password=CONTENT`, with the secret that the
-- file at PATH holds. `--new-file`, `--protect-file` and `--random-file` are such options too. A path that begins
-- with a hyphen has to follow `=`. The first argument that is `--` ends the options: from it on, nothing changes.
--
-- parts words         each argument, or a secret with the path of its file; none if a path is missing
-- filled ps secrets   the arguments, with these secrets in their order in place of the files
use Rattle.std.specs.Prelude.{ℕ, Bool, false, ◌==◌, ◌++◌, ◌&&◌, is_none, if◌then◌else◌, List, [], ◌∷◌, codes, map, Option, Some, None, option_map, string_bytes}
use Rattle.std.specs.List.{list_any, before_first, after_first}
use Rattle.std.specs.Str.{bytes_eq}
use Rattle.secret_options.specs.declared.secret.Secret.{Secret}
use Rattle.secret_options.specs.declared.secret.Secret.TheVariants.{Password, New, Protect, Random}
use Rattle.secret_options.specs.declared.part.Part.{Part as Piece}
use Rattle.secret_options.specs.declared.part.Part.TheVariants as piece

-- an argument or a path, as its bytes
abbrev pub Text : Type 0
Text = List ℕ

pub data Part : Type 0 where
  plain : Text → Part
  held : Secret → Text → Part

-- ---- one argument

-- the secret whose file an option names
abbrev pub secret_named : Text → Option Secret
secret_named name =
    if bytes_eq name (codes "--password-file") then Some Password
    else (if bytes_eq name (codes "--new-file") then Some New
    else (if bytes_eq name (codes "--protect-file") then Some Protect
    else (if bytes_eq name (codes "--random-file") then Some Random else None)))

-- an option that has a secret as its value
abbrev pub option_of : Secret → Text → Text
option_of Password secret = codes "--password=" ++ secret
option_of New secret = codes "--new=" ++ secret
option_of Protect secret = codes "--protect=" ++ secret
option_of Random secret = codes "--random=" ++ secret

abbrev pub is_end : Text → Bool
is_end word = bytes_eq word (codes "--")

abbrev pub begins_with_hyphen : Text → Bool
begins_with_hyphen [] = false
begins_with_hyphen (c ∷ cs) = c == 45

abbrev pub is_equals : ℕ → Bool
is_equals c = c == 61

-- `--NAME-file=PATH`
abbrev pub path_given : Text → Option (Secret × Text)
path_given word =
    if list_any is_equals word
    then option_map (λ s. (s, after_first is_equals word)) (secret_named (before_first is_equals word))
    else None

-- ---- all arguments

abbrev pub followed_by : Part → Option (List Part) → Option (List Part)
followed_by p ps = option_map (λ qs. p ∷ qs) ps

-- what an argument is, and then the others: a path in it, an option that awaits its path, or a plain one
abbrev pub by_use : Text → Option (Secret × Text) → Option Secret → (Option Secret → Option (List Part)) → Option (List Part)
by_use word (Some given) awaiting others = followed_by (held given.0 given.1) (others None)
by_use word None (Some secret) others = others (Some secret)
by_use word None None others = followed_by (plain word) (others None)

-- what the arguments are, the first of which may be the path that an option before them awaits
unfoldable pub parts : Option Secret → List Text → Option (List Part)
parts None [] = Some []
parts (Some secret) [] = None
parts (Some secret) (path ∷ words) =
    if begins_with_hyphen path then None else followed_by (held secret path) (parts None words)
parts None (word ∷ words) =
    if is_end word then Some (map (λ w. plain w) (word ∷ words))
    else by_use word (path_given word) (secret_named word) (λ awaiting. parts awaiting words)

-- the arguments with secrets in place of the files; none if there are too few secrets
unfoldable pub filled : List Part → List Text → Option (List Text)
filled [] secrets = Some []
filled (plain word ∷ ps) secrets = option_map (λ words. word ∷ words) (filled ps secrets)
filled (held secret path ∷ ps) [] = None
filled (held secret path ∷ ps) (text ∷ secrets) =
    option_map (λ words. option_of secret text ∷ words) (filled ps secrets)

-- ---- arguments that name no file

abbrev pub names_no_file : Text → Bool
names_no_file word = is_none (path_given word) && is_none (secret_named word)

-- the part that a value of the code is
abbrev pub meaning : Piece → Part
meaning (piece.Plain word) = plain (string_bytes word)
meaning (piece.Held secret path) = held secret (string_bytes path)
