pub mod ConvertedBytes
pub mod ConversionLaws
pub mod ConvertedImage
pub mod RoundTrips
pub mod WidenedFaults
pub mod Agreement
