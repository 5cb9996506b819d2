pub mod OneSided
pub mod WholePlan
pub mod WholeCertificates
pub mod WholeNodes
