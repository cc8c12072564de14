-- What private contracts cite: the parts that are left to be found.
use Rattle.std.specs.Prelude.{List, ◌++◌, map, Option, Some, None, option_map}
use Rattle.secret_options.specs.declared.arguments.State.{State}
use Rattle.secret_options.specs.declared.arguments.State.TheVariants as state
use Rattle.secret_options.specs.declared.part.Part.{Part as Piece}
use Rattle.secret_options.specs.Arguments.{Part, Text, followed_by, meaning, parts, plain}

-- what the arguments that are left give
abbrev pub left : State → List Text → Option (List Part)
left state.Free words = parts None words
left (state.Path secret) words = parts (Some secret) words
left state.Ended words = Some (map (λ w. plain w) words)

-- a part that is found, if it is, and then the others
abbrev pub with_part : Option Piece → Option (List Part) → Option (List Part)
with_part None others = others
with_part (Some p) others = followed_by (meaning p) others

-- those that are found, and then the others
abbrev pub after : {A : Type 0} → List A → Option (List A) → Option (List A)
after found others = option_map (λ ps. found ++ ps) others
