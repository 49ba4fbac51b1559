mod Naming
mod Numbering
mod Packed
