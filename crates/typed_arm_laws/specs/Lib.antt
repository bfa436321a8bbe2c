pub mod ArmLaws
pub mod FlatArms
