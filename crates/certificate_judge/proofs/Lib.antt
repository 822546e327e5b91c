pub mod AnswerLemmas
pub mod JudgedLemmas
pub mod JudgingLemmas
pub mod LineLemmas
pub mod PrintLemmas
pub mod ReadingLemmas
