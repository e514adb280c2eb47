pub mod PointLaw
pub mod Made
