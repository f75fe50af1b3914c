pub mod ReadLaws
pub mod WriteLaws
pub mod LinesIn
pub mod Written
