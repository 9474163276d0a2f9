pub mod View
pub mod AdmitErrors
pub mod RepresentedHost
pub mod AdmissionNumbers
pub mod AdmittedStart
pub mod AdmissionFaults
pub mod QuotaFaults
