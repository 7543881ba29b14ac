pub mod ErrorLaws
