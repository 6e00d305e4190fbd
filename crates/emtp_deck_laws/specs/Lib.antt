pub mod CardFaults
pub mod JudgedCards
pub mod LeastFault
pub mod WideCards
pub mod NamesApart
pub mod OtherTimes
pub mod FormFaults
