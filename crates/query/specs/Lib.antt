pub mod Alternative
pub mod Term
pub mod Named
pub mod BadQuery
pub mod Grammar
