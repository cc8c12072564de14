use Rattle.std.proofs.Common.{◌≡◌, ◌<◌, false, length, arith, rules}
use Rattle.std.proofs.lemmas.Bool.Decides.{nat_tests}
use Rattle.std.specs.Prelude.{nat_lt, nat_le, ◌^◌, true, Err}
use Rattle.std.specs.Str.Parse.{digits_value}
use Rattle.std.specs.List.{list_all}
use Rattle.std.specs.Char.{is_ascii_digit}
use Rattle.std.proofs.lemmas.Bool.{le-leb}
use Rattle.cmd_words.specs.Line.{number_in}
use Rattle.cmd_words.proofs.Numbers.{parses, refused}
use Rattle.cmd_words.proofs.values.number_in.Goals as goal

pub returns-in-Err : goal.returns-in-Err
unfolding number_in
returns-in-Err c =
    let digits : list_all is_ascii_digit c.args.text.now ≡ true = search rules in
    let some : 0 < length c.args.text.now = grind (arith, nat_tests, c.is_empty.ensures, c.if-is_empty.false) in
    let large : nat_lt (digits_value 10 c.args.text.now) (2 ^ 64) ≡ false =
    refused c.args.text.now some (parses c.args.text.now (Err c.in-Err.field-0) c.in-Err.ensures.value.0 digits) in
    let short : nat_le (length c.args.text.now) 20 ≡ true = le-leb (length c.args.text.now) 20 c.if-text-gt20.false in
    let one : nat_le 1 (length c.args.text.now) ≡ true = le-leb 1 (length c.args.text.now) some in
    search rules
