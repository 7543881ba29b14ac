pub mod PathLaws
pub mod AnswerLaws
pub mod RoundsLaws
pub mod StartLaws
pub mod CallLaws
pub mod FaultLaws
pub mod DivergeLaws
