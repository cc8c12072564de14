-- small facts on tests, options and texts
pub mod Basics
-- rules that are added one by one
pub mod Rules
-- what a word looks like
pub mod Looks
-- what a parser's walk leaves, and the rows that uses add
pub mod Left
-- the walk leaves what the uses of the words add
pub mod Steps
-- the rules of a command once it is built
pub mod Built
-- when a parse fails, and what rows it has
pub mod Outcome
-- the rows that uses add
pub mod Rows
-- what the words of a line are
pub mod Lines
-- a parse that doesn't fail, and what is given
pub mod Parses
-- what is given, by what the getters read
pub mod Getters
-- decimal digits
pub mod Numbers
-- hexadecimal digits
pub mod Digits
