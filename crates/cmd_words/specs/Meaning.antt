-- The command line of a command.
use Rattle.std.specs.Prelude.{Option, Some, None, string_bytes}
use Rattle.cmd_words.specs.Line.{Line, Text, format, hide, info, cat, passwd, restore, expand, serve, drill}
use Rattle.cmd_words.specs.declared.command.Command.{Command}
use Rattle.cmd_words.specs.declared.command.Command.TheVariants.{Format, Hide, Info, Cat, Passwd, Restore, Expand, Serve, Drill}

abbrev pub meaning : Command → Line
meaning (Format path size password random pim prf algorithm sector) =
    format (string_bytes path) size password random pim prf algorithm sector
meaning (Hide path size password random pim prf algorithm sector) =
    hide (string_bytes path) size password random pim prf algorithm sector
meaning (Info path password pim kind) = info (string_bytes path) password pim kind
meaning (Cat path first count password pim kind) = cat (string_bytes path) first count password pim kind
meaning (Passwd path password new_password random pim new_pim new_prf kind) =
    passwd (string_bytes path) password new_password random pim new_pim new_prf kind
meaning (Restore path password random pim kind) = restore (string_bytes path) password random pim kind
meaning (Expand path size password random pim no_hidden) = expand (string_bytes path) size password random pim no_hidden
meaning (Serve path password pim kind protect helpers workers handshake) =
    serve (string_bytes path) password pim kind protect helpers workers handshake
meaning (Drill n) = drill n

-- the path that a command names
abbrev pub path_of : Line → Option Text
path_of (format path size password random pim prf algorithm sector) = Some path
path_of (hide path size password random pim prf algorithm sector) = Some path
path_of (info path password pim kind) = Some path
path_of (cat path first count password pim kind) = Some path
path_of (passwd path password new_password random pim new_pim new_prf kind) = Some path
path_of (restore path password random pim kind) = Some path
path_of (expand path size password random pim no_hidden) = Some path
path_of (serve path password pim kind protect helpers workers handshake) = Some path
path_of (drill n) = None
