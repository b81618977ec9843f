pub mod Firsts
pub mod Infos
pub mod PageTexts
pub mod StoreTexts
pub mod RepeatedWords
