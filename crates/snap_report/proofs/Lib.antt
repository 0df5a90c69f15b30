pub mod ShownFields
pub mod JsonTexts
