pub mod SignedLaws
pub mod ReadingLaws
pub mod PuttingLaws
