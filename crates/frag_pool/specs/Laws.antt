-- what each step on a deque tells
pub mod Moves
