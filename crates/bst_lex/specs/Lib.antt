pub mod Fault
pub mod Grammar
pub mod Lexemes
pub mod Lexer
pub mod Order
pub mod Pieces
pub mod PlaceLaws
