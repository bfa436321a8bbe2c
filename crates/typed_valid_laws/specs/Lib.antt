pub mod NumbersFit
pub mod StatementsFit
pub mod ValidLaws
