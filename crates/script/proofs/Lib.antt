pub mod BackLaws
pub mod FieldLaws
pub mod FitLaws
pub mod HexLaws
pub mod PrintLaws
