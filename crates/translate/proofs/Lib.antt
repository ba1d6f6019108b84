pub mod Cut
pub mod Head
pub mod MadeLaws
pub mod ReadPlan
pub mod LentLaws
