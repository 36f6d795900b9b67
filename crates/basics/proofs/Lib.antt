-- The laws of these definitions, and of truth values.
-- Every proof that goes over positions, rules, labels or written bytes rests on them.
pub mod Truth
pub mod Bounded
pub mod Found
pub mod Chains
pub mod Lists
pub mod Placing
pub mod Sums
pub mod ByteLists
pub mod Digits
pub mod Comparing
pub mod Order
pub mod Pigeonhole
pub mod Bits
pub mod Parts
pub mod SetLaws
pub mod SetMaking
