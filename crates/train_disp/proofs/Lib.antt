pub mod LayOutLaws
