pub mod AttributeLaws
pub mod BetweenKeys
pub mod DocumentLemmas
pub mod FileLaws
pub mod HolidayLaws
pub mod Judged
pub mod NameLaws
pub mod NameLemmas
pub mod OnLiterals
pub mod Options
pub mod PolicyLaws
pub mod ReadLaws
pub mod ReadingLemmas
pub mod TypeLemmas
mod Worked
mod WorkedTexts
pub mod WrittenLemmas
pub mod WrittenOnce
pub mod YearLaws
