mod Imports
mod LargeSketches
pub mod AllChosen
pub mod SketchEnds
pub mod SketchesWiden
mod SketchesDrawn
mod ExtentsLemmas
mod KeptFormulas
mod PlansOfSketches
mod EndsPlanned
pub mod SitesListed
pub mod PickedLemmas
