pub mod RangeScans
pub mod Scans
