mod Imports
pub mod TemplatesLemmas
mod AddedLemmas
mod BoundsLemmas
mod BoundsMade
mod GuardsLemmas
mod LiteralsLemmas
mod NameRepeats
mod NameShapesLemmas
mod RepeatsLemmas
mod SitesLemmas
mod TemplatesMade
mod TemplatesOnce
mod TermsMade
mod WrittenLemmas
mod FrontLemmas
mod PlacesMade
