pub mod TokenPlaces
