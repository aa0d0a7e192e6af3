pub mod SameParts
pub mod NumberLists
