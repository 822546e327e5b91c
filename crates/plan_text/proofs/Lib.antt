pub mod AllLemmas
pub mod BitsLemmas
pub mod CertificateSame
pub mod FieldLemmas
pub mod LineSame
pub mod NameLemmas
pub mod NumberLemmas
pub mod ReadingLemmas
