pub mod NumberedTexts
pub mod PackedEntries
