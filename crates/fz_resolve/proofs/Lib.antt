pub mod AllOf
pub mod AnnotationLaws
pub mod Members
pub mod NameLaws
pub mod VariableLaws
