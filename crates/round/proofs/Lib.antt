pub mod FitLaws
pub mod EndLaws
pub mod StartLaws
pub mod SearchLaws
pub mod RoundLaws
