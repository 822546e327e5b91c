pub mod ExitLemmas
pub mod JudgedLemmas
