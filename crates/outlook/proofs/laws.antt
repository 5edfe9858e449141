pub mod PlanAlike
pub mod PlanForesees
pub mod PlanSizes
pub mod PlanSound
