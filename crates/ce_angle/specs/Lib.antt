-- In reading order: fractions and angles, lowest terms, what a text types, how an angle is spelled,
-- texts without a byte, the order of angles, and all angles up to an order.
pub mod Fraction
pub mod LowestTerms
pub mod Typed
pub mod Spelled
pub mod Cuts
pub mod Order
pub mod Farey
pub mod FareyInside
