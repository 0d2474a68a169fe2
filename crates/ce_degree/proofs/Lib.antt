pub mod Arcs
pub mod DegreePortrait
pub mod DegreeTwo
pub mod DoublingRows
pub mod OneDegreeOrbit
pub mod SomeDegreeOrbit
mod PortraitArcs
