mod Imports
pub mod CertificateSound
pub mod CertificateMoves
pub mod CertificateLaws
pub mod WaysLemmas
pub mod CheckLemmas
pub mod TreeLemmas
pub mod NamedLemmas
pub mod WaysTaken
