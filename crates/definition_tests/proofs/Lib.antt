mod Samples
mod SourceTexts
mod Acceptance
mod Instructions
mod Runs
mod Collector
