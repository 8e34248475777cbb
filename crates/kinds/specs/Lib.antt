pub mod Kind
pub mod Res
pub mod Components
pub mod Shape
pub mod Value
