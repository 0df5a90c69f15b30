mod EndedTexts
pub mod InOrder
