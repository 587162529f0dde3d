mod AreAlike
mod BlockDigits
mod Bodies
mod BodyPieces
pub mod CellsFrom
mod TokenCuts
mod WholeCuts
pub mod DatumAt
mod DecimalCuts
pub mod DecimalFronts
pub mod DecimalTokens
mod EightDigits
mod EntryLists
mod States
mod FirstBytes
pub mod AllFollow
mod HasForms
pub mod TextFronts
pub mod Gapless
pub mod GoodEntries
pub mod WholeFronts
mod HeaderPieces
pub mod Scaling
pub mod ShortWords
pub mod Grammar
mod PartTrailers
pub mod Trims
