pub mod Fields
pub mod FitActivities
pub mod FitCalendars
pub mod FitFields
pub mod FitNames
pub mod FitRecords
pub mod FitTrees
pub mod Outlines
