pub mod StoreLaws
pub mod CopyLaws
