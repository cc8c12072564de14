-- what a book is, and how it changes
pub mod Book
