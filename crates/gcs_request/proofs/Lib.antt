pub mod Fitting
pub mod GivenLies
pub mod Marks
pub mod Texts
pub mod RangeTexts
pub mod PieceTexts
