pub mod Products
pub mod RootFacts
