pub mod SortsKnown
