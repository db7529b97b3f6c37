pub mod HowOf
pub mod LaneViews
pub mod LawfulOnce
pub mod StepsTo
