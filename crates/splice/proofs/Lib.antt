pub mod ListLaws
pub mod MoveLaws
pub mod NodeLaws
pub mod FlagLaws
pub mod DivLaws
pub mod EndLaws
pub mod JoinLaws
pub mod ChangeLaws
