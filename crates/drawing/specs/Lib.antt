pub mod Lanes
pub mod ShapeText
pub mod ChartText
