pub mod AtomLists
pub mod Complete
pub mod Led
pub mod Sound
pub mod Verdict
pub mod CanonicalReads
pub mod Kept
