pub mod TokenSorts
pub mod StepSorts
pub mod SectionSorts
pub mod DesignSorts
pub mod WholeSorts
